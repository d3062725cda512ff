-- A call continues with what the other end answered, or with the fault by which it failed.
use Rattle.std.proofs.Common.{◌≡◌, ℕ, ℤ, Bool, true, false, if◌then◌else◌, List, [], ◌∷◌, Option, Some, None, is_some, refl, sym, ap, subst, ◌∙◌}
use Rattle.std.specs.List.{AllByRecursion}
use Rattle.std.specs.Option.{option_map_or}
use Rattle.std.proofs.lemmas.Option.{same_Some}
use Rattle.ipdl_base.specs.declared.kinds.Reason.{Reason}
use Rattle.ipdl_base.specs.declared.kinds.Reason.TheVariants.{ActorDestroyed, ChannelClosed, HandlerRejected, ResolverDestroyed}
use Rattle.ipdl_base.specs.declared.kinds.Side.{Side}
use Rattle.ipdl_base.specs.declared.message.Message.{Message}
use Rattle.ipdl_base.specs.declared.schema.MessageRow.{MessageRow}
use Rattle.ipdl_base.specs.declared.schema.ParamRow.{ParamRow}
use Rattle.ipdl_base.specs.declared.schema.Schema.{Schema}
use Rattle.ipdl_base.specs.declared.value.Values.{Values}
use Rattle.ipdl_base.specs.Signatures.{returns_of_row, returns_of}
use Rattle.nesting_core.specs.declared.frame.Answer.{Answer}
use Rattle.nesting_core.specs.declared.frame.Answer.TheVariants as answer
use Rattle.nesting_core.specs.declared.frame.StackFrame.{StackFrame}
use Rattle.nesting_core.specs.declared.frame.StackFrame.TheVariants.{Dispatch, Wait}
use Rattle.history_reading.specs.EndReading.{EndReading, lives}
use Rattle.history_reading.specs.Nulled.{nulled_fields, same_values, missing as missing_read}
use Rattle.history_reading.specs.Numbers.{has}
use Rattle.history_reading.specs.SentPacket as told
use Rattle.history_reading.specs.Waits.{own_returns, is_fault, is_ok_with, is_ok_missing, is_own_fault, is_failed, same_reason, waits_line}
use Rattle.channel_model.specs.Ends.{End, StackEntry}
use Rattle.channel_model.specs.Numbers.{request_row}
use Rattle.channel_model.specs.Returns as return
use Rattle.channel_model.specs.ValueActors.{actors_in_parts, missing, nulled, received}
use Rattle.channel_laws.specs.GivenAnswers.{IsGiven, was_said, has_failed, FrameIsGiven, FrameIsOwn, HasAnswers}
use Rattle.channel_laws.specs.Notes.{Note, RequestNote, told_notes}
use Rattle.channel_laws.specs.Origins.{IsRequested}
use Rattle.channel_laws.specs.SentAccounts.{SentAccount}
use Rattle.channel_laws.specs.ValueReadings.{LivesAlike}
use Rattle.channel_laws.proofs.Growing.{own-request}
use Rattle.channel_laws.proofs.MissingAlike.{values_are_read_alike}
use Rattle.channel_laws.proofs.Rows.{request-message}
use Rattle.channel_laws.proofs.Said.{says-passes}
use Rattle.channel_laws.proofs.SameValues.{values-same}
use Rattle.channel_laws.proofs.WaitLines.{ResumesPass}

-- The wait on top

-- what is known of an answered wait on top
record TopWait (sent own : List Note) (failed : List ℤ) (wait : return.AnsweredWait) : Type 0 where
  given : IsGiven sent failed wait.seq wait.given
  route : ℤ
  requested : IsRequested own wait.seq route wait.number

top-wait : (sent own : List Note) (failed : List ℤ) (es : List StackEntry) (wait : return.AnsweredWait) → return.answered_wait_on_top es ≡ Some wait → AllByRecursion (λ x. FrameIsGiven sent failed x.frame) es → AllByRecursion (λ x. FrameIsOwn own x x.frame) es → TopWait sent own failed wait
top-wait sent own failed [] wait e g o = cc
top-wait sent own failed (x ∷ xs) wait e g o = by x.frame e g.0 o.0
  where
    by : (f : StackFrame) → return.answered_wait_of x.number f ≡ Some wait → FrameIsGiven sent failed f → FrameIsOwn own x f → TopWait sent own failed wait
    by (Dispatch head) e g o = cc
    by (Wait head None) e g o = cc
    by (Wait head (Some a)) e g o = subst (TopWait sent own failed) (same_Some (record { seq = head.seq; number = x.number; given = a }) wait e) (record { given = g; route = x.route; requested = o })

-- the returns of the request are those of its row
pub returns-are : (schema : Schema) (side : Side) (h : EndReading) (open_end : Bool) (outbox : List Message) (count : ℕ) (left : List Note) (n route : ℤ) (number : ℕ) (row : MessageRow) → SentAccount schema side open_end outbox count h.sent left → IsRequested (told_notes side h.sent) n route number → request_row schema number ≡ Some row → own_returns schema h n ≡ returns_of_row row
returns-are schema side h open_end outbox count left n route number row s r found =
    let k = own-request schema side open_end outbox count h.sent left r.request s r.sent_it in
    let request : told.Request = k.0 in
    let is : told.request_of h.sent n ≡ Some request = ap (told.request_of h.sent) (sym r.seq_is) ∙ k.1.0 in
    let number_is : request.number ≡ number = ap (λ (x : RequestNote). x.number) k.1.1.0 ∙ r.number_is in
    ap (λ (o : Option told.Request). option_map_or (λ (x : told.Request). returns_of schema x.number) o []) is
    ∙ (ap (returns_of schema) number_is ∙ ap (λ (o : Option MessageRow). option_map_or returns_of_row o []) (request-message schema number row found))

-- Lines

pub reason-same : (r : Reason) → same_reason r r ≡ true
reason-same ActorDestroyed = refl
reason-same ChannelClosed = refl
reason-same HandlerRejected = refl
reason-same ResolverDestroyed = refl

module _ (schema : Schema) (h others : EndReading) where
  fails-by : (n : ℤ) (r : Reason) (b : Bool) → told.says (is_fault r) others.sent n ≡ b → (b ≡ false → is_own_fault schema h others n r ≡ true) → is_failed schema h others n r ≡ true
  fails-by n r true is f = ap (λ (b : Bool). if b then true else is_own_fault schema h others n r) is
  fails-by n r false is f = ap (λ (b : Bool). if b then true else is_own_fault schema h others n r) is ∙ f refl

  fault-given : (side : Side) (failed : List ℤ) (n : ℤ) (r : Reason) → failed ≡ h.failed → IsGiven (told_notes side others.sent) failed n (answer.Fault r) → is_failed schema h others n r ≡ true
  fault-given side failed n r same (was_said i) = ap (λ (b : Bool). if b then true else is_own_fault schema h others n r) (says-passes side (is_fault r) n (told.fault r) others.sent i (reason-same r))
  fault-given side _ n ChannelClosed same (has_failed e) = fails-by n ChannelClosed (told.says (is_fault ChannelClosed) others.sent n) refl (λ no. ap (λ (f : List ℤ). has f n) (sym same) ∙ e)

  -- the values of an answer: with null in the place of dead actors, or a fault if an actor is missing
  ok-given : (side : Side) (e : End) (n : ℤ) (row : MessageRow) (vs : Values) → IsGiven (told_notes side others.sent) h.failed n (answer.Ok vs) → own_returns schema h n ≡ returns_of_row row → AllByRecursion (LivesAlike e.actors (lives h)) (actors_in_parts schema (returns_of_row row) vs)
      → (b : Bool) → is_some (missing schema e.actors (returns_of_row row) vs) ≡ b
      → waits_line schema h others (return.resume_line n (if b then answer.Fault ActorDestroyed else answer.Ok (nulled schema e.actors (returns_of_row row) vs))) ≡ true
  ok-given side e n row vs (was_said i) returns alike true is =
      fails-by n ActorDestroyed (told.says (is_fault ActorDestroyed) others.sent n) refl
      (λ no. says-passes side (is_ok_missing schema h (own_returns schema h n)) n (told.ok vs) others.sent i
      (ap (λ (types : List ParamRow). is_some (missing_read schema (lives h) types vs)) returns ∙ (ap is_some (values_are_read_alike.missing schema e.actors (lives h) (returns_of_row row) vs alike) ∙ is)))
  ok-given side e n row vs (was_said i) returns alike false is =
      says-passes side (is_ok_with schema h (own_returns schema h n) (nulled schema e.actors (returns_of_row row) vs)) n (told.ok vs) others.sent i
      (ap (λ (types : List ParamRow). same_values (nulled_fields schema (lives h) types vs) (nulled schema e.actors (returns_of_row row) vs)) returns
      ∙ (ap (λ (us : Values). same_values us (nulled schema e.actors (returns_of_row row) vs)) (values_are_read_alike.nulled schema e.actors (lives h) (returns_of_row row) vs alike) ∙ values-same (nulled schema e.actors (returns_of_row row) vs)))

-- The actors that live in the values of an answer are read alike.
abbrev pub AnswersAreAlike : Schema → End → EndReading → Type 0
AnswersAreAlike schema e h =
    (wait : return.AnsweredWait) (row : MessageRow) (vs : Values) → return.answered_wait_on_top e.stack ≡ Some wait → request_row schema wait.number ≡ Some row → wait.given ≡ answer.Ok vs → AllByRecursion (LivesAlike e.actors (lives h)) (actors_in_parts schema (returns_of_row row) vs)

pub resumes-pass : (schema : Schema) (side their_side : Side) (h others : EndReading) (e : End) (open_end : Bool) (outbox : List Message) (count : ℕ) (left : List Note) → SentAccount schema side open_end outbox count h.sent left → HasAnswers (told_notes their_side others.sent) (told_notes side h.sent) h.failed e → AnswersAreAlike schema e h → ResumesPass schema others e h
resumes-pass schema side their_side h others e open_end outbox count left s k alike wait row on_top found =
    let t : TopWait (told_notes their_side others.sent) (told_notes side h.sent) h.failed wait = top-wait (told_notes their_side others.sent) (told_notes side h.sent) h.failed e.stack wait on_top k.given k.waits in
    by wait.given refl t.given (returns-are schema side h open_end outbox count left wait.seq t.route wait.number row s t.requested found)
  where
    by : (a : Answer) → wait.given ≡ a → IsGiven (told_notes their_side others.sent) h.failed wait.seq a → own_returns schema h wait.seq ≡ returns_of_row row → waits_line schema h others (return.resume_line wait.seq (received schema e.actors row a)) ≡ true
    by (answer.Fault r) is g returns = fault-given schema h others their_side h.failed wait.seq r refl g
    by (answer.Ok vs) is g returns = ok-given schema h others their_side e wait.seq row vs g returns (alike wait row vs on_top found is) (is_some (missing schema e.actors (returns_of_row row) vs)) refl
