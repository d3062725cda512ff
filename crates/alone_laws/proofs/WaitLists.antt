-- The waits of a stack: their numbers, and the answers that they get.
use Rattle.std.proofs.Common.{◌≡◌, ◌≢◌, ◌⊎◌, inl, inr, ℕ, ◌+◌, ℤ, Bool, true, false, ◌||◌, cond, if◌then◌else◌, int_eq, List, [], ◌∷◌, ◌++◌, drop, filter, map, Option, Some, None, refl, sym, ap, subst, ◌∙◌, arith}
use Rattle.std.specs.List.{AllByRecursion, cons_option, slice_get}
use Rattle.std.proofs.lemmas.Option.{same_Some}
use Rattle.ipdl_base.specs.declared.kinds.Reason.TheVariants.{ChannelClosed}
use Rattle.ipdl_base.specs.declared.kinds.Side.{Side}
use Rattle.nesting_core.specs.declared.frame.Answer.{Answer}
use Rattle.nesting_core.specs.declared.frame.Answer.TheVariants as answer
use Rattle.nesting_core.specs.declared.frame.StackFrame.{StackFrame}
use Rattle.nesting_core.specs.declared.frame.StackFrame.TheVariants.{Dispatch, Wait}
use Rattle.nesting_core.specs.Answers.{awaited, with_answer}
use Rattle.nesting_core.specs.Frames.{head_of, is_unanswered}
use Rattle.channel_model.specs.Actors.{AreDistinct}
use Rattle.channel_model.specs.Answers.{has_resolver, released}
use Rattle.channel_model.specs.Deliveries as delivery
use Rattle.channel_model.specs.Ends.{Packet, StackEntry}
use Rattle.channel_model.specs.Numbers.{seq_of}
use Rattle.channel_model.specs.Requests.{IsSeqOf}
use Rattle.channel_model.proofs.Known.{all-map}
use Rattle.channel_model.proofs.Numbered.{more_seqs, next-is_free}
use Rattle.history_reading.specs.Numbers.{has}
use Rattle.channel_laws.specs.GivenAnswers.{FrameIsOwn}
use Rattle.channel_laws.specs.Notes.{Note, In, here, there}
use Rattle.channel_laws.specs.Origins.{IsRequested}
use Rattle.channel_laws.proofs.Growing.{in-before}
use Rattle.alone_laws.specs.KeptReplies.{wait_number, wait_numbers, FrameReceives, WaitsReceive}
use Rattle.alone_laws.specs.Received.{answer_to, answers_to}
use Rattle.alone_laws.proofs.ReplyLists.{answers-last, answers-other, first-stays}

abbrev frames : List StackEntry → List StackFrame
frames es = map (λ (x : StackEntry). x.frame) es

-- Frames, with more packets and more failures

pub answered-more : (packets : List Packet) (p : Packet) (failed : List ℤ) (n : ℤ) (a : Answer) → (slice_get (answers_to n packets) 0 ≡ Some a) ⊎ ((a ≡ answer.Fault ChannelClosed) × (has failed n ≡ true))
    → (slice_get (answers_to n (packets ++ p ∷ [])) 0 ≡ Some a) ⊎ ((a ≡ answer.Fault ChannelClosed) × (has failed n ≡ true))
answered-more packets p failed n a (inl first) = inl (ap (λ (xs : List Answer). slice_get xs 0) (answers-last n packets p) ∙ first-stays (answers_to n packets) (cons_option (answer_to n p) []) a first)
answered-more packets p failed n a (inr lost) = inr lost

pub frame-more : (packets : List Packet) (p : Packet) (failed : List ℤ) (f : StackFrame) → ((n : ℤ) → wait_number f ≡ n ∷ [] → answer_to n p ≡ None) → FrameReceives packets failed f → FrameReceives (packets ++ p ∷ []) failed f
frame-more packets p failed (Dispatch head) other k = tt
frame-more packets p failed (Wait head None) other k = answers-other head.seq packets p (other head.seq refl) ∙ k
frame-more packets p failed (Wait head (Some a)) other k = answered-more packets p failed head.seq a k

pub frame-failed : (packets : List Packet) (failed next : List ℤ) (f : StackFrame) → ((n : ℤ) → has failed n ≡ true → has next n ≡ true) → FrameReceives packets failed f → FrameReceives packets next f
frame-failed packets failed next (Dispatch head) stays k = tt
frame-failed packets failed next (Wait head None) stays k = k
frame-failed packets failed next (Wait head (Some a)) stays (inl first) = inl first
frame-failed packets failed next (Wait head (Some a)) stays (inr lost) = inr (lost.0, stays head.seq lost.1)

-- Numbers

numbers-all : (P : ℤ → Type 0) (x : StackEntry) (es : List StackEntry) → AllByRecursion P (wait_numbers (x ∷ es)) → AllByRecursion P (wait_numbers es)
numbers-all P x es h = by x.frame h
  where
    by : (f : StackFrame) → AllByRecursion P (wait_number f ++ wait_numbers es) → AllByRecursion P (wait_numbers es)
    by (Dispatch head) h = h
    by (Wait head a) h = h.1

numbers-distinct : (x : StackEntry) (es : List StackEntry) → AreDistinct (wait_numbers (x ∷ es)) → AreDistinct (wait_numbers es)
numbers-distinct x es h = by x.frame h
  where
    by : (f : StackFrame) → AreDistinct (wait_number f ++ wait_numbers es) → AreDistinct (wait_numbers es)
    by (Dispatch head) h = h
    by (Wait head a) h = h.1

-- what is true of the numbers of all waits is true of the number of each wait
pub waits-have : (P : ℤ → Type 0) (es : List StackEntry) → AllByRecursion P (wait_numbers es) → AllByRecursion (λ entry. (n : ℤ) → wait_number entry.frame ≡ n ∷ [] → P n) es
waits-have P [] h = tt
waits-have P (x ∷ es) h = (by x.frame h, waits-have P es (numbers-all P x es h))
  where
    first-is : (m n : ℤ) → m ∷ [] ≡ n ∷ [] → m ≡ n
    first-is m n e = cc

    by : (f : StackFrame) → AllByRecursion P (wait_number f ++ wait_numbers es) → (n : ℤ) → wait_number f ≡ n ∷ [] → P n
    by (Dispatch head) h n e = cc
    by (Wait head a) h n e = subst P (first-is head.seq n e) h.0

-- Stacks

pub waits-failed : (side : Side) (count : ℕ) (packets : List Packet) (failed next : List ℤ) (es : List StackEntry) → ((n : ℤ) → has failed n ≡ true → has next n ≡ true) → WaitsReceive side count packets failed es → WaitsReceive side count packets next es
waits-failed side count packets failed next es stays k = record {
  known = k.known;
  apart = k.apart;
  given = all-map (λ (x : StackEntry). FrameReceives packets failed x.frame) (λ (x : StackEntry). FrameReceives packets next x.frame) es (λ x. frame-failed packets failed next x.frame stays) k.given;
}

pub waits-none : (side : Side) (count : ℕ) (packets : List Packet) (failed : List ℤ) → WaitsReceive side count packets failed []
waits-none side count packets failed = record { known = tt; apart = tt; given = tt }

pub waits-dropped : (side : Side) (count : ℕ) (packets : List Packet) (failed : List ℤ) (es : List StackEntry) → WaitsReceive side count packets failed es → WaitsReceive side count packets failed (drop 1 es)
waits-dropped side count packets failed [] k = k
waits-dropped side count packets failed (x ∷ es) k = record { known = numbers-all (IsSeqOf side count) x es k.known; apart = numbers-distinct x es k.apart; given = k.given.1 }

pub waits-handled : (side : Side) (count : ℕ) (packets : List Packet) (failed : List ℤ) (x : StackEntry) (es : List StackEntry) → wait_number x.frame ≡ [] → FrameReceives packets failed x.frame → WaitsReceive side count packets failed es → WaitsReceive side count packets failed (x ∷ es)
waits-handled side count packets failed x es none given k = record {
  known = subst (λ (ns : List ℤ). AllByRecursion (IsSeqOf side count) (ns ++ wait_numbers es)) (sym none) k.known;
  apart = subst (λ (ns : List ℤ). AreDistinct (ns ++ wait_numbers es)) (sym none) k.apart;
  given = (given, k.given);
}

-- the same frames
pub same-entries : (P : StackEntry → Type 0) (es : List StackEntry) → AllByRecursion P es → AllByRecursion P (delivery.with_frames (frames es) es)
same-entries P [] h = tt
same-entries P (x ∷ es) h = (h.0, same-entries P es h.1)

same-numbers : (es : List StackEntry) → wait_numbers (delivery.with_frames (frames es) es) ≡ wait_numbers es
same-numbers [] = refl
same-numbers (x ∷ es) = ap (λ (ns : List ℤ). wait_number x.frame ++ ns) (same-numbers es)

-- a resolver is used or kept
released-numbers : (seq : ℤ) (es : List StackEntry) → wait_numbers (released seq es) ≡ wait_numbers es
released-numbers seq [] = refl
released-numbers seq (x ∷ es) = by (has_resolver seq x) (released-numbers seq es)
  where
    by : (b : Bool) → wait_numbers (released seq es) ≡ wait_numbers es → wait_number (if b then record x { resolves = false } else x).frame ++ wait_numbers (released seq es) ≡ wait_number x.frame ++ wait_numbers es
    by true e = ap (λ (ns : List ℤ). wait_number x.frame ++ ns) e
    by false e = ap (λ (ns : List ℤ). wait_number x.frame ++ ns) e

released-given : (packets : List Packet) (failed : List ℤ) (seq : ℤ) (es : List StackEntry) → AllByRecursion (λ entry. FrameReceives packets failed entry.frame) es → AllByRecursion (λ entry. FrameReceives packets failed entry.frame) (released seq es)
released-given packets failed seq [] h = tt
released-given packets failed seq (x ∷ es) h = (by (has_resolver seq x), released-given packets failed seq es h.1)
  where
    by : (b : Bool) → FrameReceives packets failed (if b then record x { resolves = false } else x).frame
    by true = h.0
    by false = h.0

pub waits-released : (side : Side) (count : ℕ) (packets : List Packet) (failed : List ℤ) (seq : ℤ) (es : List StackEntry) → WaitsReceive side count packets failed es → WaitsReceive side count packets failed (released seq es)
waits-released side count packets failed seq es k = record {
  known = subst (AllByRecursion (IsSeqOf side count)) (sym (released-numbers seq es)) k.known;
  apart = subst AreDistinct (sym (released-numbers seq es)) k.apart;
  given = released-given packets failed seq es k.given;
}

-- all waits fail
failed-number : (f : StackFrame) → wait_number (delivery.failed f) ≡ wait_number f
failed-number (Dispatch head) = refl
failed-number (Wait head None) = refl
failed-number (Wait head (Some a)) = refl

failed-numbers : (es : List StackEntry) → wait_numbers (map delivery.with_failed_wait es) ≡ wait_numbers es
failed-numbers [] = refl
failed-numbers (x ∷ es) = ap (λ (ns : List ℤ). ns ++ wait_numbers (map delivery.with_failed_wait es)) (failed-number x.frame) ∙ ap (λ (ns : List ℤ). wait_number x.frame ++ ns) (failed-numbers es)

-- the numbers of the unanswered waits
abbrev unanswered_numbers : List StackFrame → List ℤ
unanswered_numbers fs = map (λ (f : StackFrame). (head_of f).seq) (filter is_unanswered fs)

failed-given : (packets : List Packet) (failed next : List ℤ) (es : List StackEntry) → ((n : ℤ) → has failed n ≡ true → has next n ≡ true) → ((n : ℤ) → In n (unanswered_numbers (frames es)) → has next n ≡ true)
    → AllByRecursion (λ entry. FrameReceives packets failed entry.frame) es → AllByRecursion (λ entry. FrameReceives packets next entry.frame) (map delivery.with_failed_wait es)
failed-given packets failed next [] stays fails h = tt
failed-given packets failed next (x ∷ es) stays fails h = by x.frame h.0 fails (λ f. failed-given packets failed next es stays f h.1)
  where
    by : (f : StackFrame) → FrameReceives packets failed f → ((n : ℤ) → In n (unanswered_numbers (f ∷ map (λ (y : StackEntry). y.frame) es)) → has next n ≡ true)
        → (((n : ℤ) → In n (unanswered_numbers (map (λ (y : StackEntry). y.frame) es)) → has next n ≡ true) → AllByRecursion (λ entry. FrameReceives packets next entry.frame) (map delivery.with_failed_wait es))
        → AllByRecursion (λ entry. FrameReceives packets next entry.frame) (map delivery.with_failed_wait (record x { frame = f } ∷ es))
    by (Dispatch head) g fails rest = (tt, rest fails)
    by (Wait head None) g fails rest = (inr (refl, fails head.seq here), rest (λ n i. fails n (there i)))
    by (Wait head (Some a)) g fails rest = (frame-failed packets failed next (Wait head (Some a)) stays g, rest fails)

pub waits-ended : (side : Side) (count : ℕ) (packets : List Packet) (failed next : List ℤ) (es : List StackEntry) → ((n : ℤ) → has failed n ≡ true → has next n ≡ true) → ((n : ℤ) → In n (unanswered_numbers (map (λ (x : StackEntry). x.frame) es)) → has next n ≡ true)
    → WaitsReceive side count packets failed es → WaitsReceive side count packets next (map delivery.with_failed_wait es)
waits-ended side count packets failed next es stays fails k = record {
  known = subst (AllByRecursion (IsSeqOf side count)) (sym (failed-numbers es)) k.known;
  apart = subst AreDistinct (sym (failed-numbers es)) k.apart;
  given = failed-given packets failed next es stays fails k.given;
}

-- a packet that answers no wait
pub waits-more : (side : Side) (count : ℕ) (packets : List Packet) (p : Packet) (failed : List ℤ) (es : List StackEntry) → AllByRecursion (λ entry. (n : ℤ) → wait_number entry.frame ≡ n ∷ [] → answer_to n p ≡ None) es → WaitsReceive side count packets failed es
    → WaitsReceive side count (packets ++ p ∷ []) failed es
waits-more side count packets p failed es other k = record { known = k.known; apart = k.apart; given = each es other k.given }
  where
    each : (es : List StackEntry) → AllByRecursion (λ entry. (n : ℤ) → wait_number entry.frame ≡ n ∷ [] → answer_to n p ≡ None) es → AllByRecursion (λ entry. FrameReceives packets failed entry.frame) es
        → AllByRecursion (λ entry. FrameReceives (packets ++ p ∷ []) failed entry.frame) es
    each [] o g = tt
    each (x ∷ es) o g = (frame-more packets p failed x.frame o.0 g.0, each es o.1 g.1)

-- the innermost unanswered wait gets an answer
module _ (packets : List Packet) (p : Packet) (failed : List ℤ) (a : Answer) (n : ℤ) (here_is : answer_to n p ≡ Some a) (apart : (m : ℤ) → n ≢ m → answer_to m p ≡ None) where
  below : (es : List StackEntry) → AllByRecursion (λ later. n ≢ later) (wait_numbers es) → AllByRecursion (λ entry. FrameReceives packets failed entry.frame) es → AllByRecursion (λ entry. FrameReceives (packets ++ p ∷ []) failed entry.frame) es
  below [] d g = tt
  below (x ∷ es) d g = (frame-more packets p failed x.frame (λ m is. apart m ((waits-have (λ later. n ≢ later) (x ∷ es) d).0 m is)) g.0, below es (numbers-all (λ later. n ≢ later) x es d) g.1)

  answered-given : (es : List StackEntry) → awaited (map (λ (x : StackEntry). x.frame) es) ≡ Some n → AreDistinct (wait_numbers es) → AllByRecursion (λ entry. FrameReceives packets failed entry.frame) es
      → AllByRecursion (λ entry. FrameReceives (packets ++ p ∷ []) failed entry.frame) (delivery.with_frames (with_answer a (map (λ (x : StackEntry). x.frame) es)) es)
  answered-given [] w d g = tt
  answered-given (x ∷ es) w d g = by x.frame w d g.0 (λ v. answered-given es v (numbers-distinct x es d) g.1)
    where
      by : (f : StackFrame) → awaited (f ∷ map (λ (y : StackEntry). y.frame) es) ≡ Some n → AreDistinct (wait_number f ++ wait_numbers es) → FrameReceives packets failed f
          → (awaited (map (λ (y : StackEntry). y.frame) es) ≡ Some n → AllByRecursion (λ entry. FrameReceives (packets ++ p ∷ []) failed entry.frame) (delivery.with_frames (with_answer a (map (λ (y : StackEntry). y.frame) es)) es))
          → AllByRecursion (λ entry. FrameReceives (packets ++ p ∷ []) failed entry.frame) (delivery.with_frames (with_answer a (f ∷ map (λ (y : StackEntry). y.frame) es)) (x ∷ es))
      by (Dispatch head) w d mine rec = (tt, rec w)
      by (Wait head None) w d mine rec =
          let same : head.seq ≡ n = same_Some head.seq n w in (
            inl (ap (λ (xs : List Answer). slice_get xs 0) (answers-last head.seq packets p ∙ ap (λ (xs : List Answer). xs ++ cons_option (answer_to head.seq p) []) mine)
                ∙ ap (λ (o : Option Answer). slice_get (cons_option o []) 0) (ap (λ (m : ℤ). answer_to m p) same ∙ here_is)),
            same-entries (λ (entry : StackEntry). FrameReceives (packets ++ p ∷ []) failed entry.frame) es (below es (subst (λ (m : ℤ). AllByRecursion (λ later. m ≢ later) (wait_numbers es)) same d.0) g.1),
          )
      by (Wait head (Some b)) w d mine rec = (answered-more packets p failed head.seq b mine, rec w)

  answered-numbers : (es : List StackEntry) → wait_numbers (delivery.with_frames (with_answer a (map (λ (x : StackEntry). x.frame) es)) es) ≡ wait_numbers es
  answered-numbers [] = refl
  answered-numbers (x ∷ es) = by x.frame (answered-numbers es)
    where
      by : (f : StackFrame) → wait_numbers (delivery.with_frames (with_answer a (map (λ (y : StackEntry). y.frame) es)) es) ≡ wait_numbers es
          → wait_numbers (delivery.with_frames (with_answer a (f ∷ map (λ (y : StackEntry). y.frame) es)) (x ∷ es)) ≡ wait_number f ++ wait_numbers es
      by (Dispatch head) rec = rec
      by (Wait head None) rec = ap (λ (ns : List ℤ). head.seq ∷ ns) (same-numbers es)
      by (Wait head (Some b)) rec = ap (λ (ns : List ℤ). head.seq ∷ ns) rec

  pub waits-answered : (side : Side) (count : ℕ) (es : List StackEntry) → awaited (map (λ (x : StackEntry). x.frame) es) ≡ Some n → WaitsReceive side count packets failed es
      → WaitsReceive side count (packets ++ p ∷ []) failed (delivery.with_frames (with_answer a (map (λ (x : StackEntry). x.frame) es)) es)
  waits-answered side count es w k = record {
    known = subst (AllByRecursion (IsSeqOf side count)) (sym (answered-numbers es)) k.known;
    apart = subst AreDistinct (sym (answered-numbers es)) k.apart;
    given = answered-given es w k.apart k.given;
  }

-- a call is sent: its wait has the next number, to which nothing was answered
pub waits-sent : (side : Side) (count : ℕ) (packets : List Packet) (failed : List ℤ) (es : List StackEntry) → WaitsReceive side count packets failed es → WaitsReceive side (count + 1) packets failed es
waits-sent side count packets failed es k = record { known = all-map (IsSeqOf side count) (IsSeqOf side (count + 1)) (wait_numbers es) (more_seqs side count) k.known; apart = k.apart; given = k.given }

pub waits-called : (side : Side) (count : ℕ) (packets : List Packet) (failed : List ℤ) (x : StackEntry) (es : List StackEntry) (n : ℤ) → wait_number x.frame ≡ n ∷ [] → FrameReceives packets failed x.frame → n ≡ seq_of side (count + 1) → WaitsReceive side count packets failed es
    → WaitsReceive side (count + 1) packets failed (x ∷ es)
waits-called side count packets failed x es n is given next k = record {
  known = subst (λ (ns : List ℤ). AllByRecursion (IsSeqOf side (count + 1)) (ns ++ wait_numbers es)) (sym is) ((count + 1, omega arith, omega arith, next), (waits-sent side count packets failed es k).known);
  apart = subst (λ (ns : List ℤ). AreDistinct (ns ++ wait_numbers es)) (sym is) (all-map (IsSeqOf side count) (λ later. n ≢ later) (wait_numbers es) (λ m known same. next-is_free side count m known (sym same ∙ next)) k.known, k.apart);
  given = (given, k.given);
}

-- Waits are for the end's own requests

abbrev pub AreRequested : List Note → List StackEntry → Type 0
AreRequested sent es = AllByRecursion (λ (entry : StackEntry). FrameIsOwn sent entry entry.frame) es

requested-more : (sent more : List Note) (x : StackEntry) (f : StackFrame) → FrameIsOwn sent x f → FrameIsOwn (sent ++ more) x f
requested-more sent more x (Dispatch head) h = tt
requested-more sent more x (Wait head a) h = record { request = h.request; sent_it = in-before more h.sent_it; seq_is = h.seq_is; route_is = h.route_is; number_is = h.number_is }

pub all-requested-more : (sent more : List Note) (es : List StackEntry) → AreRequested sent es → AreRequested (sent ++ more) es
all-requested-more sent more es = all-map (λ (x : StackEntry). FrameIsOwn sent x x.frame) (λ (x : StackEntry). FrameIsOwn (sent ++ more) x x.frame) es (λ x. requested-more sent more x x.frame)

pub requested-dropped : (sent : List Note) (es : List StackEntry) → AreRequested sent es → AreRequested sent (drop 1 es)
requested-dropped sent [] h = tt
requested-dropped sent (x ∷ es) h = h.1

requested-frame : (sent : List Note) (b : Bool) (x : StackEntry) (f : StackFrame) → FrameIsOwn sent x f → FrameIsOwn sent (if b then record x { resolves = false } else x) f
requested-frame sent true x (Dispatch head) h = tt
requested-frame sent true x (Wait head a) h = h
requested-frame sent false x f h = h

pub requested-released : (sent : List Note) (seq : ℤ) (es : List StackEntry) → AreRequested sent es → AreRequested sent (released seq es)
requested-released sent seq [] h = tt
requested-released sent seq (x ∷ es) h = (by (has_resolver seq x), requested-released sent seq es h.1)
  where
    by : (b : Bool) → FrameIsOwn sent (if b then record x { resolves = false } else x) (if b then record x { resolves = false } else x).frame
    by true = requested-frame sent true x x.frame h.0
    by false = h.0

pub requested-failed : (sent : List Note) (es : List StackEntry) → AreRequested sent es → AreRequested sent (map delivery.with_failed_wait es)
requested-failed sent [] h = tt
requested-failed sent (x ∷ es) h = (by x.frame h.0, requested-failed sent es h.1)
  where
    by : (f : StackFrame) → FrameIsOwn sent x f → FrameIsOwn sent (record x { frame = delivery.failed f }) (delivery.failed f)
    by (Dispatch head) h = tt
    by (Wait head None) h = h
    by (Wait head (Some a)) h = h

pub requested-answered : (sent : List Note) (a : Answer) (es : List StackEntry) → AreRequested sent es → AreRequested sent (delivery.with_frames (with_answer a (map (λ (x : StackEntry). x.frame) es)) es)
requested-answered sent a [] h = tt
requested-answered sent a (x ∷ es) h = by x.frame h.0 (requested-answered sent a es h.1)
  where
    by : (f : StackFrame) → FrameIsOwn sent x f → AreRequested sent (delivery.with_frames (with_answer a (map (λ (y : StackEntry). y.frame) es)) es) → AreRequested sent (delivery.with_frames (with_answer a (f ∷ map (λ (y : StackEntry). y.frame) es)) (x ∷ es))
    by (Dispatch head) o rec = (tt, rec)
    by (Wait head None) o rec = (o, same-entries (λ (y : StackEntry). FrameIsOwn sent y y.frame) es h.1)
    by (Wait head (Some b)) o rec = (o, rec)
