-- The lines of effects that follow the line of an event, and what a view of the reading keeps after them.
use Rattle.std.proofs.Common.{◌≡◌, ℕ, ◌+◌, ℤ, Bool, List, [], ◌∷◌, ◌++◌, map, refl, ◌∙◌}
use Rattle.std.specs.List.{AllByRecursion}
use Rattle.ipdl_base.specs.declared.kinds.Destroy.{Destroy}
use Rattle.ipdl_base.specs.declared.kinds.Reason.{Reason}
use Rattle.ipdl_base.specs.declared.line.What.{What}
use Rattle.ipdl_base.specs.declared.line.What.TheVariants as what
use Rattle.ipdl_base.specs.declared.schema.Schema.{Schema}
use Rattle.ipdl_base.specs.declared.value.Values.{Values}
use Rattle.nesting_core.specs.declared.frame.Answer.{Answer}
use Rattle.promise_table.specs.declared.promise.Outcome.{Outcome}
use Rattle.promise_table.specs.declared.promise.Outcome.TheVariants.{Resolved, Rejected}
use Rattle.promise_table.specs.declared.promise.Promise.{Promise}
use Rattle.channel_model.specs.Ends.{End, Packet, PromiseEntry}
use Rattle.channel_model.specs.Falls as fall
use Rattle.ipdl_base.specs.Sides.{top_id}
use Rattle.channel_model.specs.Outputs.{AnsweredRequest}
use Rattle.channel_model.specs.Parts
use Rattle.channel_model.specs.Parts.{LaterPart, LaterParts, reply_lines, fall_lines, falling}
use Rattle.channel_model.specs.Phases.{Phase}
use Rattle.channel_model.specs.Takes.{settle_line}
use Rattle.history_reading.specs.EndReading.{EndReading}
use Rattle.history_reading.specs.Reading.{after_what}
use Rattle.channel_laws.specs.Tested.{after_whats}
use Rattle.channel_laws.proofs.PartLines.{EffectsHave, reply-has, rejections-have, falls-have, closing-has, later-has, laters-have, mapped-lines}

-- A line of an effect, except for that of a request that is replaced.
pub data IsEffectLine : What → Type 0 where
  built : (id : ℤ) (protocol : ℕ) → IsEffectLine (what.Built id protocol)
  answers_ok : (n : ℤ) (vs : Values) → IsEffectLine (what.AnswerOk n vs)
  answers_fault : (n : ℤ) (reason : Reason) → IsEffectLine (what.AnswerFault n reason)
  fails : (n : ℤ) → IsEffectLine (what.Fails n)
  resolved : (n : ℤ) (vs : Values) → IsEffectLine (what.Resolved n vs)
  rejected : (n : ℤ) (reason : Reason) → IsEffectLine (what.Rejected n reason)
  fell : (id : ℤ) (why : Destroy) → IsEffectLine (what.Fall id why)

abbrev pub AreEffectLines : List What → Type 0
AreEffectLines ws = AllByRecursion IsEffectLine ws

effects-have : EffectsHave IsEffectLine
effects-have = record { built = built; ok = answers_ok; fault = answers_fault; falls = record { rejected = rejected; fell = fell } }

pub reply-effects : (b : Bool) (q : AnsweredRequest) (a : Answer) → AreEffectLines (reply_lines b q a)
reply-effects = reply-has IsEffectLine effects-have

pub rejection-effects : (test : Promise → Bool) (why : Reason) (promises : List PromiseEntry) → AreEffectLines (fall.rejections test why promises)
rejection-effects = rejections-have IsEffectLine effects-have.falls

pub fall-effects : (id : ℤ) (why : ℤ → Destroy) (e : End) → AreEffectLines (fall_lines id why e)
fall-effects = falls-have IsEffectLine effects-have.falls

pub closing-effects : (why : Destroy) (e : End) → AreEffectLines (Parts.abandoned_lines e ++ fall_lines top_id (λ id. why) (Parts.abandoned_end e))
closing-effects = closing-has IsEffectLine effects-have.falls

pub fail-effects : (ns : List ℤ) → AreEffectLines (map what.Fails ns)
fail-effects ns = mapped-lines IsEffectLine what.Fails ns fails

pub settle-effect : (n : ℤ) (outcome : Outcome) → IsEffectLine (settle_line n outcome)
settle-effect n (Resolved vs) = resolved n vs
settle-effect n (Rejected reason) = rejected n reason

-- later parts print effects alone
pub later-effects : {p q : Phase} {e f : End} {ws : List What} {ps : List Packet} → LaterPart p e ws ps f q → AreEffectLines ws
later-effects = later-has IsEffectLine effects-have

pub laters-effects : {p q : Phase} {e f : End} {ws : List What} {ps : List Packet} → LaterParts p e ws ps f q → AreEffectLines ws
laters-effects = laters-have IsEffectLine effects-have

-- what each such line leaves unchanged, all of them do
pub effects-leave : {V : Type 0} (view : EndReading → V) (schema : Schema) → ((place : ℕ) (w : What) (own : EndReading) → IsEffectLine w → view (after_what schema place w own) ≡ view own) → (place : ℕ) (ws : List What) (own : EndReading) → AreEffectLines ws → view (after_whats schema place ws own) ≡ view own
effects-leave view schema one place [] own h = refl
effects-leave view schema one place (w ∷ ws) own h = effects-leave view schema one (place + 1) ws (after_what schema place w own) h.1 ∙ one place w own h.0
