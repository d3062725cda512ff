-- A request that is replaced is answered if it makes a promise, and there is no other effect.
use Rattle.std.proofs.Common.{◌≡◌, ℕ, ℤ, Bool, true, false, List, [], ◌∷◌, ◌++◌, map, Option, refl, sym, ap, subst, ◌∙◌}
use Rattle.std.specs.Option.{option_map_or}
use Rattle.ipdl_base.specs.declared.kinds.Reason.TheVariants as reason
use Rattle.ipdl_base.specs.declared.line.What.{What}
use Rattle.ipdl_base.specs.declared.line.What.TheVariants as what
use Rattle.ipdl_base.specs.declared.schema.MessageRow.{MessageRow}
use Rattle.ipdl_base.specs.declared.schema.Schema.{Schema}
use Rattle.ipdl_base.specs.Sound.{message_of}
use Rattle.nesting_core.specs.declared.frame.Answer.TheVariants as answer
use Rattle.channel_model.specs.Answers as answering
use Rattle.channel_model.specs.Deliveries as delivery
use Rattle.channel_model.specs.Ends.{End, Packet}
use Rattle.channel_model.specs.Outputs.{Output, request_answered, resolver_answered}
use Rattle.channel_model.specs.Parts as parts
use Rattle.channel_model.specs.Parts.{DeliveryPart, FirstPart, LaterParts, OwnParts, reply_lines}
use Rattle.channel_model.specs.Phases.{Phase}
use Rattle.channel_model.specs.Returns as return
use Rattle.channel_model.proofs.Known.{all-append}
use Rattle.channel_laws.specs.Notes.{Note}
use Rattle.channel_laws.specs.Origins.{HasOrigins, IsRequested}
use Rattle.channel_laws.proofs.EffectLines.{AreEffectLines, IsEffectLine, fail-effects, laters-effects, reply-effects, settle-effect}
use Rattle.history_reading.specs.Rows as rows
use Rattle.history_reading.specs.Rows.{wants_number}
use Rattle.order_statements.specs.Effects.{fault_due}
use Rattle.order_statements.proofs.AnsweringLines.{OldRequest, old-request}
use Rattle.order_statements.proofs.StepLines.{MadeOf, of_delivery, of_own}

-- The first line of a part, and those of its effects.
record FirstWithEffects (us : List What) : Type 0 where
  first : What
  effects : List What
  whole : us ≡ first ∷ effects
  are : AreEffectLines effects

alone : (w : What) → FirstWithEffects (w ∷ [])
alone w = record { first = w; effects = []; whole = refl; are = tt }

first-effects : {schema : Schema} {e f : End} {us : List What} {ps : List Packet} {p : Phase} → FirstPart schema e us ps f p → FirstWithEffects us
first-effects (parts.refuses w is) = alone w
first-effects (parts.renames w is) = alone w
first-effects (parts.flushes opened) = alone _
first-effects (parts.sends row route vs name sent) = alone _
first-effects (parts.answers by vs r row found may accepted used) = alone _
first-effects (parts.closes opened none) = alone what.Close
first-effects (parts.dies opened) = alone what.Die
first-effects (parts.dies_silent closed dead) = alone what.Die
first-effects (parts.takes m sync level row vs next body found stays) = alone _
first-effects (parts.drops m sync level row vs id told next body found gone is) = record { first = _; effects = _; whole = refl; are = reply-effects told (request_answered m) (answer.Fault reason.ActorDestroyed) }
first-effects (parts.drops_unknown m sync level vs next body found) = alone _
first-effects (parts.takes_reply m sync level a next body settling) = alone _
first-effects (parts.settles m sync level row a next body found awaited) = record { first = _; effects = _; whole = refl; are = (settle-effect m.seq _, tt) }
first-effects (parts.shuts last next farewell) = alone _
first-effects {schema} (parts.returns {e = x} entry row vs told lost is told_is lost_is) = record {
  first = _;
  effects = _;
  whole = refl;
  are = all-append IsEffectLine (reply_lines told (return.dispatch_answered entry) (return.return_answer schema x row entry vs)) (reply_lines lost (resolver_answered (answering.resolver_in entry)) (answer.Fault reason.ResolverDestroyed))
      (reply-effects told (return.dispatch_answered entry) (return.return_answer schema x row entry vs)) (reply-effects lost (resolver_answered (answering.resolver_in entry)) (answer.Fault reason.ResolverDestroyed));
}
first-effects (parts.resumes wait row top found) = alone _

-- effects of these kinds have no line of a request that is replaced
none-replaced : {A : Type 0} (ws front : List What) (n : ℤ) (more : List What) → AreEffectLines ws → ws ≡ front ++ what.Replaced n ∷ more → A
none-replaced [] [] n more h e = cc
none-replaced [] (x ∷ front) n more h e = cc
none-replaced (w ∷ ws) [] n more h e = let same : w ≡ what.Replaced n = cc in no-line (subst IsEffectLine same h.0)
  where
    no-line : {A : Type 0} → IsEffectLine (what.Replaced n) → A
    no-line k = elim k [ ]
none-replaced (w ∷ ws) (x ∷ front) n more h e = let rest : ws ≡ front ++ what.Replaced n ∷ more = cc in none-replaced ws front n more h.1 rest

-- What the line of a request that is replaced shows.
pub record TellsReplaced (schema : Schema) (theirs : List Note) (n : ℤ) (more : List What) : Type 0 where
  pub route : ℤ
  pub number : ℕ
  pub requested : IsRequested theirs n route number
  pub are : more ≡ fault_due (wants_number schema number) n reason.ResolverDestroyed

module _ (schema : Schema) (theirs : List Note) where
  own-replaced : {A : Type 0} {e g : End} {ws : List What} {ps : List Packet} {q : Phase} → OwnParts schema e ws ps g q → (event : What) (front : List What) (n : ℤ) (more : List What) → ws ≡ event ∷ (front ++ what.Replaced n ∷ more) → A
  own-replaced (parts.begun {vs = vs} first later over) event front n more at =
      let f = first-effects first in
      let whole : f.first ∷ (f.effects ++ vs) ≡ event ∷ (front ++ what.Replaced n ∷ more) = ap (λ (xs : List What). xs ++ vs) (sym f.whole) ∙ at in
      let rest : f.effects ++ vs ≡ front ++ what.Replaced n ∷ more = cc in
      none-replaced (f.effects ++ vs) front n more (all-append IsEffectLine f.effects vs f.are (laters-effects later)) rest

  one-line : {A : Type 0} (w event : What) (front : List What) (n : ℤ) (more : List What) → w ∷ [] ≡ event ∷ (front ++ what.Replaced n ∷ more) → A
  one-line w event front n more at = let rest : [] ≡ front ++ what.Replaced n ∷ more = cc in none-replaced [] front n more tt rest

  delivery-replaced : {packet : Packet} {e f : End} {ws : List What} {ps : List Packet} {q : Phase} → DeliveryPart schema packet e ws ps f q → HasOrigins schema theirs e → (event : What) (front : List What) (n : ℤ) (more : List What) → ws ≡ event ∷ (front ++ what.Replaced n ∷ more) → TellsReplaced schema theirs n more
  delivery-replaced (parts.gets_request m row vs body found none) origins event front n more at = one-line _ event front n more at
  delivery-replaced (parts.replaces {e = x} m row vs old sync level told body found rep is) origins event front n more at = by front at
    where
      o : OldRequest schema theirs x m row old sync level
      o = old-request schema theirs x m row old sync level rep origins

      loses : List What
      loses = reply_lines told (request_answered old) (answer.Fault reason.ResolverDestroyed)

      fault-lines : (b : Bool) → reply_lines b (request_answered old) (answer.Fault reason.ResolverDestroyed) ≡ fault_due b old.seq reason.ResolverDestroyed
      fault-lines true = refl
      fault-lines false = refl

      wants : told ≡ wants_number schema old.number
      wants = is ∙ sym (ap (λ (r : Option MessageRow). option_map_or rows.wants_row r false) (ap (message_of schema) o.number_is ∙ found))

      by : (front : List What) → what.DeliverRequest m.seq ∷ what.Replaced old.seq ∷ loses ≡ event ∷ (front ++ what.Replaced n ∷ more) → TellsReplaced schema theirs n more
      by [] e =
          let number : old.seq ≡ n = cc in
          let rest : loses ≡ more = cc in
          record {
            route = old.route;
            number = old.number;
            requested = subst (λ (k : ℤ). IsRequested theirs k old.route old.number) number o.asked.requested;
            are = sym rest ∙ (fault-lines told ∙ (ap (λ (b : Bool). fault_due b old.seq reason.ResolverDestroyed) wants ∙ ap (λ (k : ℤ). fault_due (wants_number schema old.number) k reason.ResolverDestroyed) number));
          }
      by (v ∷ later) e =
          let rest : loses ≡ later ++ what.Replaced n ∷ more = cc in
          none-replaced loses later n more (reply-effects told (request_answered old) (answer.Fault reason.ResolverDestroyed)) rest
  delivery-replaced (parts.gets_answer m row a body found sync) origins event front n more at = one-line _ event front n more at
  delivery-replaced (parts.gets_reply m row a body found sync) origins event front n more at = one-line _ event front n more at
  delivery-replaced (parts.drains {e = x} packet farewell) origins event front n more at =
      let rest : map what.Fails (delivery.unanswered x) ≡ front ++ what.Replaced n ∷ more = cc in
      none-replaced (map what.Fails (delivery.unanswered x)) front n more (fail-effects (delivery.unanswered x)) rest
  delivery-replaced (parts.passes_by m farewell found) origins event front n more at = one-line _ event front n more at

  pub step-replaces : (e : End) (output : Output) (ws : List What) → MadeOf schema e output ws → HasOrigins schema theirs e → (event : What) (front : List What) (n : ℤ) (more : List What) → ws ≡ event ∷ (front ++ what.Replaced n ∷ more) → TellsReplaced schema theirs n more
  step-replaces e output ws (of_own own) origins event front n more at = own-replaced own event front n more at
  step-replaces e output ws (of_delivery packet opened part) origins event front n more at = delivery-replaced part origins event front n more at
