-- Dispatches whose resolvers are used or kept, and dispatches that come off.
use Rattle.std.proofs.Common.{◌≡◌, ℕ, ℤ, suc, ◌+◌, Bool, true, false, ◌&&◌, cond, List, [], ◌∷◌, ◌++◌, drop, find, length, map, reverse, Option, Some, None, option_map, refl, ap, sym, subst, ◌∙◌, arith}
use Rattle.std.specs.Prelude.{IsSome, MatchOption}
use Rattle.std.specs.Option.{option_to_list}
use Rattle.std.specs.Ordering.{int_eq}
use Rattle.std.proofs.lemmas.Bool.{false≢true}
use Rattle.std.proofs.lemmas.List.{reverse-append, length-reverse}
use Rattle.nesting_core.specs.declared.frame.Answer.{Answer}
use Rattle.nesting_core.specs.declared.frame.Head.{Head}
use Rattle.nesting_core.specs.declared.frame.StackFrame.{StackFrame}
use Rattle.nesting_core.specs.declared.frame.StackFrame.TheVariants.{Dispatch, Wait}
use Rattle.nesting_core.specs.Frames.{head_of}
use Rattle.nesting_core.specs.Top.{after_pop}
use Rattle.channel_model.specs.Answers.{has_resolver, resolver_in, released}
use Rattle.channel_model.specs.Ends.{Resolver, StackEntry}
use Rattle.channel_model.specs.Returns.{dispatch_on_top}
use Rattle.end_parts.specs.declared.stack_entries.EntryDetail.{EntryDetail}
use Rattle.end_parts.specs.StackDetails.{entries_of, entry_of, is_resolver_detail, released_detail, IsDetailOf, AreDetails}
use Rattle.end_parts.proofs.StackLemmas.{length-details}

released_by : (b c : Bool) (frame : StackFrame) (detail : EntryDetail) → b ≡ c
    → entry_of frame (cond b (record detail { resolves = false }) detail) ≡ cond c (record (entry_of frame detail) { resolves = false }) (entry_of frame detail)
released_by true true frame detail e = refl
released_by true false frame detail e = cc
released_by false true frame detail e = cc
released_by false false frame detail e = refl

never : (b x : Bool) → (b ≡ true → false ≡ true) → b && x ≡ false
never true x h = absurd (false≢true (h refl))
never false x h = refl

-- an entry is released as its detail is
released_entry : (seq : ℤ) (frame : StackFrame) (detail : EntryDetail) → IsDetailOf frame detail
    → entry_of frame (released_detail seq detail) ≡ cond (has_resolver seq (entry_of frame detail)) (record (entry_of frame detail) { resolves = false }) (entry_of frame detail)
released_entry seq (Dispatch head) detail is =
    released_by (detail.resolves && int_eq detail.request.seq seq) (detail.resolves && int_eq head.seq seq) (Dispatch head) detail (ap (λ (z : ℤ). detail.resolves && int_eq z seq) is.seq)
released_entry seq (Wait head a) detail is =
    released_by (detail.resolves && int_eq detail.request.seq seq) false (Wait head a) detail (never detail.resolves (int_eq detail.request.seq seq) is.resolves)

-- the entries, as their details, when a resolver is used or kept
pub released-entries : (seq : ℤ) (frames : List StackFrame) (details : List EntryDetail) → AreDetails frames details → entries_of frames (map (released_detail seq) details) ≡ released seq (entries_of frames details)
released-entries seq [] [] h = refl
released-entries seq [] (detail ∷ details) h = absurd h
released-entries seq (frame ∷ frames) [] h = absurd h
released-entries seq (frame ∷ frames) (detail ∷ details) h =
    ap (λ (e : StackEntry). e ∷ entries_of frames (map (released_detail seq) details)) (released_entry seq frame detail h.0)
    ∙ ap (λ (es : List StackEntry). cond (has_resolver seq (entry_of frame detail)) (record (entry_of frame detail) { resolves = false }) (entry_of frame detail) ∷ es) (released-entries seq frames details h.1)

stays_detail : (b : Bool) (frame : StackFrame) (detail : EntryDetail) → IsDetailOf frame detail → IsDetailOf frame (cond b (record detail { resolves = false }) detail)
stays_detail true frame detail is = record { seq = is.seq; unanswered = is.unanswered; resolves = λ e. absurd (false≢true e); copy = is.copy }
stays_detail false frame detail is = is

-- they are still details of the frames
pub released-details : (seq : ℤ) (frames : List StackFrame) (details : List EntryDetail) → AreDetails frames details → AreDetails frames (map (released_detail seq) details)
released-details seq [] [] h = tt
released-details seq [] (detail ∷ details) h = absurd h
released-details seq (frame ∷ frames) [] h = absurd h
released-details seq (frame ∷ frames) (detail ∷ details) h = (stays_detail (detail.resolves && int_eq detail.request.seq seq) frame detail h.0, released-details seq frames details h.1)

-- What is left when the frame on top has come off with its detail.
pub record IsOff (frames : List StackFrame) (details : List EntryDetail) (after : List StackFrame) (rest : List EntryDetail) : Type 0 where
  pub are : AreDetails after rest
  pub entries : entries_of after rest ≡ drop 1 (entries_of frames details)

off_with : (head : Head) (below : List StackFrame) (details rest : List EntryDetail) (detail : EntryDetail) → AreDetails (Dispatch head ∷ below) details → details ≡ detail ∷ rest → IsOff (Dispatch head ∷ below) details below rest
off_with head below details rest detail are e =
    let there : AreDetails (Dispatch head ∷ below) (detail ∷ rest) = subst (AreDetails (Dispatch head ∷ below)) e are in
    subst (λ ds. IsOff (Dispatch head ∷ below) ds below rest) (sym e) (record { are = there.1; entries = refl })

dispatch_off : (head : Head) (below : List StackFrame) (items rest : List EntryDetail) (came : Option EntryDetail) (n m : ℕ) → AreDetails (Dispatch head ∷ below) (reverse items) → items ≡ rest ++ option_to_list came → n ≡ length items
    → MatchOption came ((n ≡ 0) × (m ≡ 0)) (λ detail. m + 1 ≡ n) → IsOff (Dispatch head ∷ below) (reverse items) below (reverse rest)
dispatch_off head below items rest None n m are e count none =
    let some : length (reverse items) ≡ suc (length below) = length-details (Dispatch head ∷ below) (reverse items) are in
    let turned : length (reverse items) ≡ length items = length-reverse items in
    absurd (omega (arith, some, turned, count, none.0))
dispatch_off head below items rest (Some detail) n m are e count some =
    off_with head below (reverse items) (reverse rest) detail are (ap reverse e ∙ reverse-append rest (detail ∷ []))

no_dispatch : (details : List EntryDetail) (head : Head) (a : Option Answer) (below : List StackFrame) → IsSome (dispatch_on_top (entries_of (Wait head a ∷ below) details)) → ⊥
no_dispatch [] head a below h = false≢true h
no_dispatch (detail ∷ details) head a below h = false≢true h

-- a dispatch that is on top comes off
pub off : (frames after : List StackFrame) (items rest : List EntryDetail) (came : Option EntryDetail) (n m : ℕ) → AreDetails frames (reverse items) → IsSome (dispatch_on_top (entries_of frames (reverse items))) → after ≡ after_pop frames → items ≡ rest ++ option_to_list came → n ≡ length items
    → MatchOption came ((n ≡ 0) × (m ≡ 0)) (λ detail. m + 1 ≡ n) → IsOff frames (reverse items) after (reverse rest)
off [] after items rest came n m are some l e count cases = absurd (false≢true some)
off (Dispatch head ∷ below) after items rest came n m are some l e count cases =
    subst (λ frames. IsOff (Dispatch head ∷ below) (reverse items) frames (reverse rest)) (sym l) (dispatch_off head below items rest came n m are e count cases)
off (Wait head a ∷ below) after items rest came n m are some l e count cases = absurd (no_dispatch (reverse items) head a below some)

-- the resolver of a request, as its detail tells it
abbrev pub resolver_told : EntryDetail → Resolver
resolver_told detail = record { seq = detail.request.seq; route = detail.request.route; number = detail.request.number }

resolver_if : (seq : ℤ) (b c : Bool) (frame : StackFrame) (detail : EntryDetail) (frames : List StackFrame) (details : List EntryDetail) → b ≡ c → detail.request.seq ≡ (head_of frame).seq
    → option_map resolver_in (find (has_resolver seq) (entries_of frames details)) ≡ option_map resolver_told (find (is_resolver_detail seq) details)
    → option_map resolver_in (cond b (Some (entry_of frame detail)) (find (has_resolver seq) (entries_of frames details))) ≡ option_map resolver_told (cond c (Some detail) (find (is_resolver_detail seq) details))
resolver_if seq true true (Dispatch head) detail frames details e s h = ap (λ (z : ℤ). Some (record { seq = z; route = detail.request.route; number = detail.request.number })) (sym s)
resolver_if seq true true (Wait head a) detail frames details e s h = ap (λ (z : ℤ). Some (record { seq = z; route = detail.request.route; number = detail.request.number })) (sym s)
resolver_if seq true false frame detail frames details e s h = cc
resolver_if seq false true frame detail frames details e s h = cc
resolver_if seq false false frame detail frames details e s h = h

has_resolver-detail : (seq : ℤ) (frame : StackFrame) (detail : EntryDetail) → IsDetailOf frame detail → has_resolver seq (entry_of frame detail) ≡ is_resolver_detail seq detail
has_resolver-detail seq (Dispatch head) detail is = ap (λ (z : ℤ). detail.resolves && int_eq z seq) (sym is.seq)
has_resolver-detail seq (Wait head a) detail is = sym (never detail.resolves (int_eq detail.request.seq seq) is.resolves)

-- the innermost resolver of the request of a number, by its detail
pub resolver-entries : (seq : ℤ) (frames : List StackFrame) (details : List EntryDetail) → AreDetails frames details
    → option_map resolver_in (find (has_resolver seq) (entries_of frames details)) ≡ option_map resolver_told (find (is_resolver_detail seq) details)
resolver-entries seq [] [] h = refl
resolver-entries seq [] (detail ∷ details) h = absurd h
resolver-entries seq (frame ∷ frames) [] h = absurd h
resolver-entries seq (frame ∷ frames) (detail ∷ details) h =
    resolver_if seq (has_resolver seq (entry_of frame detail)) (is_resolver_detail seq detail) frame detail frames details (has_resolver-detail seq frame detail h.0) h.0.seq (resolver-entries seq frames details h.1)
