-- What the lines of a part show of actors.
use Rattle.std.proofs.Common.{◌≡◌, ℕ, ◌+◌, ℤ, Bool, true, false, if◌then◌else◌, List, [], ◌∷◌, map, filter, Option, refl, ap, ◌∙◌}
use Rattle.std.specs.List.{AllByRecursion}
use Rattle.ipdl_base.specs.declared.kinds.Reason.{Reason}
use Rattle.ipdl_base.specs.declared.line.What.{What}
use Rattle.ipdl_base.specs.declared.line.What.TheVariants as what
use Rattle.ipdl_base.specs.declared.schema.Schema.{Schema}
use Rattle.ipdl_base.specs.declared.value.Values.{Values}
use Rattle.history_reading.specs.declared.parts.CallFrame.{CallFrame}
use Rattle.history_reading.specs.declared.parts.CallFrame.TheVariants as frame
use Rattle.history_reading.specs.declared.parts.HandledRequest.{HandledRequest}
use Rattle.history_reading.specs.EndReading.{EndReading, is_wait_for}
use Rattle.history_reading.specs.Reading.{after_what, answered, answered_frame}
use Rattle.history_reading.specs.Fallen.{fallen_line}
use Rattle.nesting_core.specs.declared.frame.Answer.{Answer}
use Rattle.nesting_core.specs.declared.frame.Answer.TheVariants as answer
use Rattle.promise_table.specs.declared.promise.Outcome.{Outcome}
use Rattle.promise_table.specs.declared.promise.Outcome.TheVariants.{Resolved, Rejected}
use Rattle.promise_table.specs.declared.promise.Promise.{Promise}
use Rattle.channel_model.specs.Ends.{PromiseEntry}
use Rattle.channel_model.specs.Falls as fall
use Rattle.channel_model.specs.Outputs.{AnsweredRequest}
use Rattle.channel_model.specs.Parts.{reply_lines}
use Rattle.channel_model.specs.Takes.{settle_line}
use Rattle.channel_laws.specs.EndActors.{actor_reading, handled_frame}
use Rattle.channel_laws.specs.Tested.{after_whats, EndLinesPass}
use Rattle.channel_laws.proofs.PartLines.{mapped-lines}
use Rattle.channel_laws.proofs.Testing.{tested-free}

-- Effects that show nothing of actors

pub data SaysNoActor : What → Type 0 where
  replaced : (n : ℤ) → SaysNoActor (what.Replaced n)
  says_ok : (n : ℤ) (vs : Values) → SaysNoActor (what.AnswerOk n vs)
  says_fault : (n : ℤ) (r : Reason) → SaysNoActor (what.AnswerFault n r)
  fails : (n : ℤ) → SaysNoActor (what.Fails n)
  resolved : (n : ℤ) (vs : Values) → SaysNoActor (what.Resolved n vs)
  rejected : (n : ℤ) (r : Reason) → SaysNoActor (what.Rejected n r)

answered-frame : (x : CallFrame) → handled_frame (answered_frame x) ≡ handled_frame x
answered-frame (frame.Dispatch d) = refl
answered-frame (frame.Unanswered c) = refl
answered-frame (frame.Answered c) = refl

-- an answer changes no request that is handled
pub answered-handled : (n : ℤ) (stack : List CallFrame) → map handled_frame (answered n stack) ≡ map handled_frame stack
answered-handled n [] = refl
answered-handled n (x ∷ xs) = by (is_wait_for n x) (answered-handled n xs)
  where
    by : (b : Bool) → map handled_frame (answered n xs) ≡ map handled_frame xs → map handled_frame (if b then answered_frame x ∷ xs else x ∷ answered n xs) ≡ handled_frame x ∷ map handled_frame xs
    by true rec = ap (λ (z : Option HandledRequest). z ∷ map handled_frame xs) (answered-frame x)
    by false rec = ap (λ (zs : List (Option HandledRequest)). handled_frame x ∷ zs) rec

no_actor-one : (schema : Schema) (place : ℕ) (w : What) (own : EndReading) → SaysNoActor w → actor_reading (after_what schema place w own) ≡ actor_reading own
no_actor-one schema place w own (replaced n) = refl
no_actor-one schema place w own (says_ok n vs) = refl
no_actor-one schema place w own (says_fault n r) = refl
no_actor-one schema place w own (fails n) = ap (λ (s : List (Option HandledRequest)). record (actor_reading own) { handled = s }) (answered-handled n own.stack)
no_actor-one schema place w own (resolved n vs) = refl
no_actor-one schema place w own (rejected n r) = refl

pub no_actor-read : (schema : Schema) (place : ℕ) (ws : List What) (own : EndReading) → AllByRecursion SaysNoActor ws → actor_reading (after_whats schema place ws own) ≡ actor_reading own
no_actor-read schema place [] own l = refl
no_actor-read schema place (w ∷ ws) own l = no_actor-read schema (place + 1) ws (after_what schema place w own) l.1 ∙ no_actor-one schema place w own l.0

-- The kinds of these effects

pub no_actor-reply : (b : Bool) (q : AnsweredRequest) (a : Answer) → AllByRecursion SaysNoActor (reply_lines b q a)
no_actor-reply true q (answer.Ok vs) = (says_ok q.seq vs, tt)
no_actor-reply true q (answer.Fault r) = (says_fault q.seq r, tt)
no_actor-reply false q a = tt

pub no_actor-rejections : (test : Promise → Bool) (why : Reason) (ps : List PromiseEntry) → AllByRecursion SaysNoActor (fall.rejections test why ps)
no_actor-rejections test why ps = mapped-lines SaysNoActor (λ (entry : PromiseEntry). what.Rejected entry.promise.seq why) (filter (fall.passes test) ps) (λ entry. rejected entry.promise.seq why)

pub no_actor-fails : (ns : List ℤ) → AllByRecursion SaysNoActor (map what.Fails ns)
no_actor-fails ns = mapped-lines SaysNoActor what.Fails ns fails

pub no_actor-settles : (seq : ℤ) (o : Outcome) → SaysNoActor (settle_line seq o)
no_actor-settles seq (Resolved vs) = resolved seq vs
no_actor-settles seq (Rejected r) = rejected seq r

-- all of them pass the law

passes-one : (w : What) → SaysNoActor w → (own : EndReading) → fallen_line own w ≡ true
passes-one w (replaced n) own = refl
passes-one w (says_ok n vs) own = refl
passes-one w (says_fault n r) own = refl
passes-one w (fails n) own = refl
passes-one w (resolved n vs) own = refl
passes-one w (rejected n r) own = refl

passes-all : (ws : List What) → AllByRecursion SaysNoActor ws → AllByRecursion (λ w. (own : EndReading) → fallen_line own w ≡ true) ws
passes-all [] l = tt
passes-all (w ∷ ws) l = (passes-one w l.0, passes-all ws l.1)

pub no_actor-pass : (schema : Schema) (place : ℕ) (ws : List What) (own : EndReading) → AllByRecursion SaysNoActor ws → EndLinesPass schema (λ h w. fallen_line h w ≡ true) place ws own
no_actor-pass schema place ws own l = tested-free schema (λ h w. fallen_line h w ≡ true) place ws own (passes-all ws l)
