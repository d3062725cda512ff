-- What is read of the stack of an end is the stack of its lines.
use Rattle.std.proofs.Common.{◌≡◌, ℕ, zero, suc, ◌+◌, ℤ, Bool, true, false, not, ◌&&◌, ◌||◌, if◌then◌else◌, IsTrue, List, [], ◌∷◌, ◌++◌, length, fold, find, Option, Some, None, is_some, option_to_list, refl, sym, ap, subst, ◌∙◌, arith}
use Rattle.std.specs.List.{cons_option, list_any}
use Rattle.std.specs.Option.{option_map_or, option_or}
use Rattle.std.specs.Ordering.{int_eq}
use Rattle.std.proofs.lemmas.Bool.{and_parts, and_from, false≢true}
use Rattle.std.proofs.lemmas.Bool.Decides.{Decides-int_eq}
use Rattle.std.proofs.lemmas.List.Elements.{filter_map-append}
use Rattle.std.proofs.lemmas.List.Folds.{find-append}
use Rattle.ipdl_base.specs.declared.kinds.Side.{Side}
use Rattle.ipdl_base.specs.declared.kinds.Side.TheVariants as side
use Rattle.ipdl_base.specs.declared.line.Line.{Line}
use Rattle.ipdl_base.specs.declared.line.What.{What}
use Rattle.ipdl_base.specs.declared.line.What.TheVariants as what
use Rattle.ipdl_base.specs.declared.schema.Schema.{Schema}
use Rattle.ipdl_base.specs.Lines.{is_effect, same_side}
use Rattle.history_reading.specs.declared.parts.CallFrame.{CallFrame}
use Rattle.history_reading.specs.declared.parts.CallFrame.TheVariants as frame
use Rattle.history_reading.specs.declared.parts.PacketKind.TheVariants as seen
use Rattle.history_reading.specs.EndReading.{EndReading, is_sync_request, is_unanswered, is_wait_for}
use Rattle.history_reading.specs.Holds.{IsReadable, is_of_event, is_readable, is_readable_what}
use Rattle.history_reading.specs.Reading.{Reading, after, after_at, after_what, answered, answering, arriving, below_top, delivering, end_reading_of, opening_reading, read}
use Rattle.history_reading.specs.SentPacket.{Request, SentPacket, request_in, request_of, requests_of}
use Rattle.ipdl_base.specs.Sides.{other as other_end}
use Rattle.law_statements.specs.Said.{line_of, made_of, said_by}
use Rattle.law_statements.specs.Packets.{request_at, sent, sent_at}
use Rattle.law_statements.specs.Stack.{begins_frame, begins_wait, ends_frame, ends_wait, frame_at, frame_of, frame_with, is_death, is_sync_of, is_unended, stack, stack_from, stays, wait_frame, waits}
use Rattle.law_statements.proofs.Along.{read-more, readable-places}
use Rattle.law_statements.proofs.Answering.{frame-waits, stack-answers}
use Rattle.law_statements.proofs.Deciding.{through}
use Rattle.law_statements.proofs.Ends.{said-own, said-other}
use Rattle.law_statements.proofs.Fields.{sent-read}
use Rattle.law_statements.proofs.Lists.{add, any-add, made-add}
use Rattle.law_statements.proofs.Stacks.{AllStand, Stands, died, frames-apart, frames_left, if-same, stack-dies, stack-keeps, stack-long, stack-other, stack-pops, waits-apart}
use Rattle.law_statements.proofs.Unended.{unended-before, unended-kept, unended-same}

-- Calls that wait stay on the stack

abbrev pub top_waits : List CallFrame → Bool
top_waits [] = false
top_waits (top ∷ below) = is_unanswered top

top-of : (xs ys : List CallFrame) → top_waits (xs ++ ys) ≡ false → top_waits xs ≡ false
top-of [] ys e = refl
top-of (x ∷ xs) ys e = e

no-wait : (n : ℤ) (o : Option CallFrame) → top_waits (option_to_list o) ≡ false → list_any (is_wait_for n) (option_to_list o) ≡ false
no-wait n None e = refl
no-wait n (Some (frame.Dispatch d)) e = refl
no-wait n (Some (frame.Unanswered c)) e = cc
no-wait n (Some (frame.Answered c)) e = refl

nil-of : {A : Type 0} (xs : List A) → length xs ≡ 0 → xs ≡ []
nil-of [] e = refl
nil-of (x ∷ xs) e = absurd (omega (arith, e))

pub side-own : (s : Side) → same_side s s ≡ true
side-own side.Parent = refl
side-own side.Child = refl

alive-of : (bs : List What) (w : What) → died (bs ++ w ∷ []) ≡ false → (is_death w ≡ false) × (died bs ≡ false)
alive-of bs w e = by (is_death w) (sym (any-add is_death bs w) ∙ e)
  where
    by : (t : Bool) → (if t then true else died bs) ≡ false → (t ≡ false) × (died bs ≡ false)
    by true f = cc
    by false f = (refl, f)

stand-here : (sync : ℤ → Bool) (end : Side) (k : ℕ) (x : Line) (xs : List Line) (w : What) → Stands sync end x (said_by end xs) → (ends_frame w ≡ true → top_waits (stack_from sync end k (x ∷ xs)) ≡ false)
    → Stands sync end x (said_by end xs ++ w ∷ [])
stand-here sync end k x xs w stands top n own call d h = by (ends_frame w) refl
  where
    alive : died (said_by end xs) ≡ false
    alive = (alive-of (said_by end xs) w d).1

    before : waits (sync n) n (said_by end xs) ≡ true
    before = unended-before (begins_wait n) (ends_wait (sync n) n) (waits-apart (sync n) n) (said_by end xs) w h

    there : is_unended begins_frame ends_frame (said_by end xs) ≡ true
    there = stands n own call alive before

    at-top : frames_left (said_by end xs) ≡ 0 → top_waits (stack_from sync end k (x ∷ xs)) ≡ false → ⊥
    at-top z t =
        let none : stack_from sync end (k + 1) xs ≡ [] = nil-of (stack_from sync end (k + 1) xs) (stack-long sync end (k + 1) xs alive ∙ z) in
        let one : top_waits (option_to_list (frame_at sync end k x xs)) ≡ false = sym (ap (λ (fs : List CallFrame). top_waits (fs ++ option_to_list (frame_at sync end k x xs))) none) ∙ t in
        let here : frame_at sync end k x xs ≡ frame_of sync (said_by end xs) k x.what =
        ap (λ (b : Bool). if b then frame_with sync (said_by end xs) k x.what else None) own
        ∙ ap (λ (b : Bool). if not b && is_unended begins_frame ends_frame (said_by end xs) then frame_of sync (said_by end xs) k x.what else None) alive
        ∙ ap (λ (b : Bool). if b then frame_of sync (said_by end xs) k x.what else None) there in
        false≢true (sym (no-wait n (frame_of sync (said_by end xs) k x.what) (ap (λ (o : Option CallFrame). top_waits (option_to_list o)) (sym here) ∙ one))
        ∙ (frame-waits sync n (said_by end xs) k x.what ∙ and_from (begins_wait n x.what) (waits (sync n) n (said_by end xs)) call before))

    apart : ends_frame w ≡ true → begins_frame w ≡ false
    apart e = at (begins_frame w) refl
      where
        at : (t : Bool) → begins_frame w ≡ t → begins_frame w ≡ false
        at true is = cc (frames-apart w is, e)
        at false is = is

    kept : ends_frame w ≡ true → (u : ℕ) → frames_left (said_by end xs) ≡ u → is_unended begins_frame ends_frame (said_by end xs ++ w ∷ []) ≡ true
    kept e zero z = absurd (at-top z (top e))
    kept e (suc u) z = unended-kept begins_frame ends_frame frames-apart (said_by end xs) w (apart e) e (omega (arith, z)) ∙ there

    by : (t : Bool) → ends_frame w ≡ t → is_unended begins_frame ends_frame (said_by end xs ++ w ∷ []) ≡ true
    by false e = unended-same begins_frame ends_frame frames-apart (said_by end xs) w e ∙ there
    by true e = kept e (frames_left (said_by end xs)) refl

stand-own : (sync : ℤ → Bool) (end : Side) (k : ℕ) (xs : List Line) (w : What) → AllStand sync end xs → (ends_frame w ≡ true → top_waits (stack_from sync end k xs) ≡ false) → AllStand sync end (xs ++ line_of end w ∷ [])
stand-own sync end k [] w a top = (λ n own call d h. refl, tt)
stand-own sync end k (x ∷ xs) w a top = (
  subst (Stands sync end x) (sym (said-own end xs w)) (stand-here sync end k x xs w a.0 top),
  stand-own sync end (k + 1) xs w a.1 (λ e. top-of (stack_from sync end (k + 1) xs) (option_to_list (frame_at sync end k x xs)) (top e)),
)

stand-other : (sync : ℤ → Bool) (s : Side) (xs : List Line) (w : What) → AllStand sync (other_end s) xs → AllStand sync (other_end s) (xs ++ line_of s w ∷ [])
stand-other sync s [] w a = (λ n own call d h. refl, tt)
stand-other sync s (x ∷ xs) w a = (subst (Stands sync (other_end s) x) (sym (said-other s xs w)) a.0, stand-other sync s xs w a.1)

-- The first request of a number decides whether it is sync

agree-tail : (end : Side) (n : ℤ) (x : Line) (xs : List Line) → list_any (begins_wait n) (said_by end xs) ≡ true → list_any (begins_wait n) (said_by end (x ∷ xs)) ≡ true
agree-tail end n x xs e = by (same_side x.side end)
  where
    or-true : (b c : Bool) → c ≡ true → (b || c) ≡ true
    or-true true c f = refl
    or-true false c f = f

    by : (b : Bool) → list_any (begins_wait n) (cons_option (if b then Some x.what else None) (said_by end xs)) ≡ true
    by true = or-true (begins_wait n x.what) (list_any (begins_wait n) (said_by end xs)) e
    by false = e

agree-head : (end : Side) (n : ℤ) (x : Line) (xs : List Line) → same_side x.side end ≡ true → begins_wait n x.what ≡ true → list_any (begins_wait n) (said_by end (x ∷ xs)) ≡ true
agree-head end n x xs own call =
    ap (λ (b : Bool). list_any (begins_wait n) (cons_option (if b then Some x.what else None) (said_by end xs))) own ∙ ap (λ (b : Bool). b || list_any (begins_wait n) (said_by end xs)) call

frame-sync : (sync other : ℤ → Bool) (bs : List What) (k : ℕ) (v : What) → ((n : ℤ) → begins_wait n v ≡ true → sync n ≡ other n) → frame_of sync bs k v ≡ frame_of other bs k v
frame-sync sync other bs k (what.Call n transaction route number values) h =
    ap (λ (b : Bool). Some (wait_frame (waits b n bs) (record { seq = n; transaction = transaction; number = number; place = k }))) (h n ((Decides-int_eq n n).1 refl))
frame-sync sync other bs k _ h = refl

stack-sync : (sync other : ℤ → Bool) (end : Side) (k : ℕ) (xs : List Line) → ((n : ℤ) → list_any (begins_wait n) (said_by end xs) ≡ true → sync n ≡ other n) → stack_from sync end k xs ≡ stack_from other end k xs
stack-sync sync other end k [] h = refl
stack-sync sync other end k (x ∷ xs) h =
    ap (λ (fs : List CallFrame). fs ++ option_to_list (frame_at sync end k x xs)) (stack-sync sync other end (k + 1) xs (λ n e. h n (agree-tail end n x xs e)))
    ∙ ap (λ (o : Option CallFrame). stack_from other end (k + 1) xs ++ option_to_list o) (by (same_side x.side end) refl)
  where
    by : (b : Bool) → same_side x.side end ≡ b → (if b then frame_with sync (said_by end xs) k x.what else None) ≡ (if b then frame_with other (said_by end xs) k x.what else None)
    by true own = ap (λ (o : Option CallFrame). if stays (said_by end xs) then o else None) (frame-sync sync other (said_by end xs) k x.what (λ n call. h n (agree-head end n x xs own call)))
    by false own = refl

stands-sync : (sync other : ℤ → Bool) (end : Side) (xs : List Line) → ((n : ℤ) → list_any (begins_wait n) (said_by end xs) ≡ true → sync n ≡ other n) → AllStand sync end xs → AllStand other end xs
stands-sync sync other end [] h a = tt
stands-sync sync other end (x ∷ xs) h a = (
  λ n own call d w. a.0 n own call d (ap (λ (b : Bool). waits b n (said_by end xs)) (h n (agree-head end n x xs own call)) ∙ w),
  stands-sync sync other end xs (λ n e. h n (agree-tail end n x xs e)) a.1,
)

find-more : (n : ℤ) (o : Option Request) (rs : List Request) → is_some (find (λ (r : Request). int_eq r.seq n) rs) ≡ true → is_some (find (λ (r : Request). int_eq r.seq n) (cons_option o rs)) ≡ true
find-more n None rs e = e
find-more n (Some r) rs e = by (int_eq r.seq n)
  where
    by : (b : Bool) → is_some (if b then Some r else find (λ (x : Request). int_eq x.seq n) rs) ≡ true
    by true = refl
    by false = e

requests-cons : (o : Option SentPacket) (sents : List SentPacket) (n : ℤ) → is_some (request_of sents n) ≡ true → is_some (request_of (cons_option o sents) n) ≡ true
requests-cons None sents n e = e
requests-cons (Some p) sents n e = find-more n (request_in p) (requests_of sents) e

called-sent : (schema : Schema) (n : ℤ) (before xs : List What) → list_any (begins_wait n) xs ≡ true → is_some (request_of (made_of (sent_at schema) before xs) n) ≡ true
called-sent schema n before [] e = cc
called-sent schema n before (w ∷ ws) e = by w (begins_wait n w) refl e (λ f. called-sent schema n (before ++ w ∷ []) ws f)
  where
    here : (v : What) → begins_wait n v ≡ true → is_some (request_of (cons_option (sent_at schema before v) (made_of (sent_at schema) (before ++ v ∷ []) ws)) n) ≡ true
    here (what.Call m transaction route number values) f =
        ap (λ (b : Bool). is_some (if b then Some (request_at schema before m transaction route number values)
        else find (λ (r : Request). int_eq r.seq n) (requests_of (made_of (sent_at schema) (before ++ what.Call m transaction route number values ∷ []) ws)))) f
    here _ f = cc

    by : (v : What) (b : Bool) → begins_wait n v ≡ b → (b || list_any (begins_wait n) ws) ≡ true → (list_any (begins_wait n) ws ≡ true → is_some (request_of (made_of (sent_at schema) (before ++ v ∷ []) ws) n) ≡ true)
        → is_some (request_of (cons_option (sent_at schema before v) (made_of (sent_at schema) (before ++ v ∷ []) ws)) n) ≡ true
    by v true is f more = here v is
    by v false is f more = requests-cons (sent_at schema before v) (made_of (sent_at schema) (before ++ v ∷ []) ws) n (more f)

or-found : {A : Type 0} (o p : Option A) → is_some o ≡ true → option_or o p ≡ o
or-found None p e = cc
or-found (Some x) p e = refl

pub request-kept : (sents : List SentPacket) (o : Option SentPacket) (n : ℤ) → is_some (request_of sents n) ≡ true → request_of (add sents o) n ≡ request_of sents n
request-kept sents None n e = refl
request-kept sents (Some p) n e =
    ap (find (λ (r : Request). int_eq r.seq n)) (filter_map-append request_in sents (p ∷ []))
    ∙ find-append (λ (r : Request). int_eq r.seq n) (requests_of sents) (requests_of (p ∷ []))
    ∙ or-found (request_of sents n) (find (λ (r : Request). int_eq r.seq n) (requests_of (p ∷ []))) e

sync-kept : (schema : Schema) (own : List What) (w : What) (n : ℤ) → list_any (begins_wait n) own ≡ true → is_sync_of schema own n ≡ is_sync_of schema (own ++ w ∷ []) n
sync-kept schema own w n e =
    ap (λ (o : Option Request). option_map_or (λ (r : Request). r.sync) o false)
    (sym (ap (λ (ps : List SentPacket). request_of ps n) (made-add (sent_at schema) [] own w) ∙ request-kept (sent schema own) (sent_at schema own w) n (called-sent schema n [] own e)))

-- One line more

frame-none : (sync : ℤ → Bool) (k : ℕ) (w : What) → begins_frame w ≡ false → frame_with sync [] k w ≡ None
frame-none sync k (what.Take n route number values) e = cc
frame-none sync k (what.Call n transaction route number values) e = cc
frame-none sync k _ e = refl

quiet-line : (sync : ℤ → Bool) (s : Side) (before : List Line) (w : What) → is_death w ≡ false → begins_frame w ≡ false → ends_frame w ≡ false → ((n : ℤ) → ends_wait (sync n) n w ≡ false)
    → stack_from sync s 0 (before ++ line_of s w ∷ []) ≡ stack_from sync s 0 before
quiet-line sync s before w d b e h =
    stack-keeps sync s 0 before w d e h
    ∙ ap (λ (o : Option CallFrame). option_to_list o ++ stack_from sync s 0 before) (ap (λ (o : Option CallFrame). if same_side s s then o else None) (frame-none sync (0 + length before) w b) ∙ if-same (same_side s s) None)

begun-line : (sync : ℤ → Bool) (s : Side) (before : List Line) (w : What) → is_death w ≡ false → ends_frame w ≡ false → ((n : ℤ) → ends_wait (sync n) n w ≡ false)
    → stack_from sync s 0 (before ++ line_of s w ∷ []) ≡ option_to_list (frame_with sync [] (length before) w) ++ stack_from sync s 0 before
begun-line sync s before w d e h =
    stack-keeps sync s 0 before w d e h
    ∙ ap (λ (b : Bool). option_to_list (if b then frame_with sync [] (0 + length before) w else None) ++ stack_from sync s 0 before) (side-own s)
    ∙ ap (λ (k : ℕ). option_to_list (frame_with sync [] k w) ++ stack_from sync s 0 before) (none-plus (length before))
  where
    none-plus : (n : ℕ) → 0 + n ≡ n
    none-plus n = omega arith

and-false : (b : Bool) → (b && false) ≡ false
and-false true = refl
and-false false = refl

-- a reply to a request of a number ends the waits of that number if the request is sync, and otherwise no wait
reply-ends : (sync : ℤ → Bool) (n m : ℤ) (b : Bool) → sync n ≡ b → ends_wait (sync m) m (what.DeliverReply n) ≡ (b && int_eq n m)
reply-ends sync n m b y = by (int_eq n m) refl
  where
    by : (t : Bool) → int_eq n m ≡ t → (sync m && t) ≡ (b && t)
    by true e = ap (λ (c : Bool). c && true) (ap sync (sym ((Decides-int_eq n m).0 e)) ∙ y)
    by false e = and-false (sync m) ∙ sym (and-false b)

reply-line : (sync : ℤ → Bool) (s : Side) (before : List Line) (n : ℤ) (st : List CallFrame) → st ≡ stack_from sync s 0 before → AllStand sync s before → (b : Bool) → sync n ≡ b
    → (if b then answered n st else st) ≡ stack_from sync s 0 (before ++ line_of s (what.DeliverReply n) ∷ [])
reply-line sync s before n st is a true y = ap (answered n) is ∙ sym (stack-answers sync s n 0 before (what.DeliverReply n) refl refl refl (λ m. refl) (λ m. reply-ends sync n m true y) a)
reply-line sync s before n st is a false y = is ∙ sym (quiet-line sync s before (what.DeliverReply n) refl refl refl (λ m. reply-ends sync n m false y))

reply-stack : (n : ℤ) (own : EndReading) (b : Bool) → (if b then answering n (delivering (seen.Reply n) own) else arriving (seen.Reply n) own).stack ≡ (if b then answered n own.stack else own.stack)
reply-stack n own true = refl
reply-stack n own false = refl

step-stack : (schema : Schema) (sync : ℤ → Bool) (s : Side) (before : List Line) (place : ℕ) (own : EndReading) → own.stack ≡ stack_from sync s 0 before → AllStand sync s before → place ≡ length before
    → (w : What) → ((n : ℤ) → w ≡ what.DeliverReply n → is_sync_request own n ≡ sync n) → (after_what schema place w own).stack ≡ stack_from sync s 0 (before ++ line_of s w ∷ [])
step-stack schema sync s before place own is a at (what.Take n route number values) y =
    ap (λ (st : List CallFrame). frame.Dispatch (record { seq = n; route = route; number = number }) ∷ st) is ∙ sym (begun-line sync s before (what.Take n route number values) refl refl (λ m. refl))
step-stack schema sync s before place own is a at (what.Call n transaction route number values) y =
    ap (λ (st : List CallFrame). frame.Unanswered (record { seq = n; transaction = transaction; number = number; place = place }) ∷ st) is
    ∙ ap (λ (k : ℕ). frame.Unanswered (record { seq = n; transaction = transaction; number = number; place = k }) ∷ stack_from sync s 0 before) at
    ∙ sym (begun-line sync s before (what.Call n transaction route number values) refl refl (λ m. refl))
step-stack schema sync s before place own is a at what.Die y = sym (stack-dies sync s 0 before)
step-stack schema sync s before place own is a at (what.Return n) y = ap below_top is ∙ sym (stack-pops sync s 0 before (what.Return n) refl refl refl (λ m. refl))
step-stack schema sync s before place own is a at (what.ResumeOk n values) y = ap below_top is ∙ sym (stack-pops sync s 0 before (what.ResumeOk n values) refl refl refl (λ m. refl))
step-stack schema sync s before place own is a at (what.ResumeFault n reason) y = ap below_top is ∙ sym (stack-pops sync s 0 before (what.ResumeFault n reason) refl refl refl (λ m. refl))
step-stack schema sync s before place own is a at (what.DeliverReply n) y =
    reply-stack n own (is_sync_request own n) ∙ reply-line sync s before n own.stack is a (is_sync_request own n) (sym (y n refl))
step-stack schema sync s before place own is a at (what.Fails n) y = ap (answered n) is ∙ sym (stack-answers sync s n 0 before (what.Fails n) refl refl refl (λ m. refl) (λ m. refl) a)
step-stack schema sync s before place own is a at w y = is ∙ sym (quiet-line sync s before w refl refl refl (λ m. refl))

-- Along readable lines

lines-from : (schema : Schema) (xs : List Line) (r : Reading) → (fold (after schema) r xs).lines ≡ r.lines + length xs
lines-from schema [] r = plus r.lines
  where
    plus : (n : ℕ) → n ≡ n + 0
    plus n = omega arith
lines-from schema (x ∷ xs) r = lines-from schema xs (after schema r x) ∙ ap (λ (n : ℕ). n + length xs) (one x.side) ∙ plus r.lines (length xs)
  where
    one : (s : Side) → (after_at schema s x.what r).lines ≡ r.lines + 1
    one side.Parent = refl
    one side.Child = refl

    plus : (n m : ℕ) → n + 1 + m ≡ n + suc m
    plus n m = omega arith

pub lines-read : (schema : Schema) (lines : List Line) → (read schema lines).lines ≡ length lines
lines-read schema lines = lines-from schema lines opening_reading ∙ none-plus (length lines)
  where
    none-plus : (n : ℕ) → 0 + n ≡ n
    none-plus n = omega arith

pub record StackRead (schema : Schema) (end : Side) (before : List Line) : Type 0 where
  pub stack : (end_reading_of end (read schema before)).stack ≡ stack schema end before
  pub stand : AllStand (is_sync_of schema (said_by end before)) end before

-- what a readable line removes is not an unanswered wait
ends-no-wait : (schema : Schema) (st : List CallFrame) (w : What) → is_readable_what schema st w ≡ true → ends_frame w ≡ true → top_waits st ≡ false
ends-no-wait schema [] w r e = refl
ends-no-wait schema (frame.Dispatch d ∷ below) w r e = refl
ends-no-wait schema (frame.Answered c ∷ below) w r e = refl
ends-no-wait schema (frame.Unanswered c ∷ below) (what.Return n) r e = cc
ends-no-wait schema (frame.Unanswered c ∷ below) (what.ResumeOk n values) r e = cc
ends-no-wait schema (frame.Unanswered c ∷ below) (what.ResumeFault n reason) r e = cc
ends-no-wait schema (frame.Unanswered c ∷ below) _ r e = cc

pub own-after : (schema : Schema) (s : Side) (w : What) (r : Reading) → end_reading_of s (after_at schema s w r) ≡ after_what schema r.lines w (end_reading_of s r)
own-after schema side.Parent w r = refl
own-after schema side.Child w r = refl

pub other-after : (schema : Schema) (s : Side) (w : What) (r : Reading) → end_reading_of (other_end s) (after_at schema s w r) ≡ end_reading_of (other_end s) r
other-after schema side.Parent w r = refl
other-after schema side.Child w r = refl

own-more : (schema : Schema) (s : Side) (before : List Line) (w : What) → is_readable_what schema (end_reading_of s (read schema before)).stack w ≡ true → StackRead schema s before → StackRead schema s (before ++ line_of s w ∷ [])
own-more schema s before w r p = record {
  stack =
      ap (λ (x : Reading). (end_reading_of s x).stack) (read-more schema before (line_of s w)) ∙ ap (λ (x : EndReading). x.stack) (own-after schema s w (read schema before))
      ∙ step-stack schema next s before (read schema before).lines (end_reading_of s (read schema before)) (p.stack ∙ now) stands (lines-read schema before) w asked
      ∙ ap (λ (own : List What). stack_from (is_sync_of schema own) s 0 (before ++ line_of s w ∷ [])) (sym (said-own s before w));
  stand = subst (λ (own : List What). AllStand (is_sync_of schema own) s (before ++ line_of s w ∷ [])) (sym (said-own s before w))
      (stand-own next s 0 before w stands (λ e. ap top_waits (sym (p.stack ∙ now)) ∙ ends-no-wait schema (end_reading_of s (read schema before)).stack w r e));
}
  where
    next : ℤ → Bool
    next = is_sync_of schema (said_by s before ++ w ∷ [])

    now : stack_from (is_sync_of schema (said_by s before)) s 0 before ≡ stack_from (is_sync_of schema (said_by s before ++ w ∷ [])) s 0 before
    now = stack-sync (is_sync_of schema (said_by s before)) (is_sync_of schema (said_by s before ++ w ∷ [])) s 0 before (sync-kept schema (said_by s before) w)

    stands : AllStand (is_sync_of schema (said_by s before ++ w ∷ [])) s before
    stands = stands-sync (is_sync_of schema (said_by s before)) (is_sync_of schema (said_by s before ++ w ∷ [])) s before (sync-kept schema (said_by s before) w) p.stand

    asked : (n : ℤ) → w ≡ what.DeliverReply n → is_sync_request (end_reading_of s (read schema before)) n ≡ is_sync_of schema (said_by s before ++ w ∷ []) n
    asked n e =
        ap (λ (ps : List SentPacket). option_map_or (λ (x : Request). x.sync) (request_of ps n) false)
        (sent-read schema s before ∙ sym (made-add (sent_at schema) [] (said_by s before) w ∙ ap (λ (v : What). add (sent schema (said_by s before)) (sent_at schema (said_by s before) v)) e))

other-more : (schema : Schema) (s : Side) (before : List Line) (w : What) → StackRead schema (other_end s) before → StackRead schema (other_end s) (before ++ line_of s w ∷ [])
other-more schema s before w p = record {
  stack =
      ap (λ (x : Reading). (end_reading_of (other_end s) x).stack) (read-more schema before (line_of s w)) ∙ ap (λ (x : EndReading). x.stack) (other-after schema s w (read schema before)) ∙ p.stack
      ∙ sym (stack-other (is_sync_of schema (said_by (other_end s) before)) s 0 before w)
      ∙ ap (λ (own : List What). stack_from (is_sync_of schema own) (other_end s) 0 (before ++ line_of s w ∷ [])) (sym (said-other s before w));
  stand = subst (λ (own : List What). AllStand (is_sync_of schema own) (other_end s) (before ++ line_of s w ∷ [])) (sym (said-other s before w)) (stand-other (is_sync_of schema (said_by (other_end s) before)) s before w p.stand);
}

readable-what : (schema : Schema) (before : List Line) (line : Line) → IsTrue (is_readable schema (read schema before) line) → is_readable_what schema (end_reading_of line.side (read schema before)).stack line.what ≡ true
unfolding is_readable
readable-what schema before line e = (and_parts (if is_effect line.what then is_of_event line.side (read schema before).last else true) (is_readable_what schema (end_reading_of line.side (read schema before)).stack line.what) e).1

pub both-more : (schema : Schema) (before : List Line) (s : Side) (w : What) → is_readable_what schema (end_reading_of s (read schema before)).stack w ≡ true → ((end : Side) → StackRead schema end before) → (end : Side) → StackRead schema end (before ++ line_of s w ∷ [])
both-more schema before side.Parent w r p side.Parent = own-more schema side.Parent before w r (p side.Parent)
both-more schema before side.Parent w r p side.Child = other-more schema side.Parent before w (p side.Child)
both-more schema before side.Child w r p side.Parent = other-more schema side.Child before w (p side.Parent)
both-more schema before side.Child w r p side.Child = own-more schema side.Child before w r (p side.Child)

pub opens : (schema : Schema) (end : Side) → StackRead schema end []
opens schema side.Parent = record { stack = refl; stand = tt }
opens schema side.Child = record { stack = refl; stand = tt }

-- from readable places on, and at each place of readable lines
pub stacks-along : (schema : Schema) (lines : List Line) → ((before : List Line) (line : Line) (following : List Line) → lines ≡ before ++ line ∷ following → IsTrue (is_readable schema (read schema before) line))
    → (before following : List Line) → lines ≡ before ++ following → (end : Side) → StackRead schema end before
stacks-along schema lines r before following e =
    through lines (λ front. (end : Side) → StackRead schema end front) (opens schema) (λ front line later is p. both-more schema front line.side line.what (readable-what schema front line (r front line later is)) p) before following e

pub stack-read : (schema : Schema) (lines : List Line) → IsReadable schema lines → (end : Side) (before following : List Line) → lines ≡ before ++ following → (end_reading_of end (read schema before)).stack ≡ stack schema end before
stack-read schema lines r end before following e = (stacks-along schema lines (readable-places schema lines r) before following e end).stack
