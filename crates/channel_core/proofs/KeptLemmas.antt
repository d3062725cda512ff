-- What every step keeps of an end.
use Rattle.std.proofs.Common.{◌≡◌, ◌≤◌, List, [], ◌∷◌, Some}
use Rattle.ipdl_base.specs.declared.schema.Schema.{Schema}
use Rattle.ipdl_base.specs.Sound.{IsSound}
use Rattle.channel_model.specs.Actors.{IsAccepted}
use Rattle.channel_model.specs.Ends.{End, Packet}
use Rattle.channel_model.specs.Events.{Event}
use Rattle.channel_model.specs.Events as event
use Rattle.channel_model.specs.Fitting.{IsFittingDelivery}
use Rattle.channel_model.specs.Outputs.{Output}
use Rattle.channel_model.specs.Steps.{step}
use Rattle.channel_model.proofs.CountedParts.{counts_grow}
use Rattle.channel_model.proofs.FittingParts.{fitting_ends_stay}
use Rattle.channel_model.proofs.KnownSteps.{known_actors_stay}
use Rattle.channel_model.proofs.Numbered.{numbers_stay}
use Rattle.channel_model.proofs.StateSteps.{states_stay}
use Rattle.channel_core.specs.Inside.{IsKept}

-- what fits and is not refused is not refused
accepted : (schema : Schema) (e : End) (link : List Packet) (event : Event) → IsFittingDelivery schema e link event → IsAccepted schema e link event
accepted schema e [] event h = tt
accepted schema e (packet ∷ rest) event.deliver h = h.1
accepted schema e (packet ∷ rest) (event.send route number vs name) h = tt
accepted schema e (packet ∷ rest) (event.answer by vs) h = tt
accepted schema e (packet ∷ rest) (event.keep seq name) h = tt
accepted schema e (packet ∷ rest) (event.name name id) h = tt
accepted schema e (packet ∷ rest) event.close h = tt
accepted schema e (packet ∷ rest) event.die h = tt
accepted schema e (packet ∷ rest) event.take h = tt
accepted schema e (packet ∷ rest) (event.return vs) h = tt
accepted schema e (packet ∷ rest) event.resume h = tt
accepted schema e (packet ∷ rest) event.flush h = tt

-- A step keeps an end, where it leaves at most 2^28 requests sent, and a packet that it delivers, if any, fits and is not
-- refused. With nothing on the link that is no condition.
pub keeps : (schema : Schema) (e : End) (link : List Packet) (event : Event) (o : Output) → step schema e link event ≡ Some o → IsSound schema → o.end.sent ≤ 268435456 → IsFittingDelivery schema e link event → IsKept schema e → IsKept schema o.end
keeps schema e link event o s sound few fits kept =
    let a : IsAccepted schema e link event = accepted schema e link event fits in
    record {
      top = kept.top;
      known = known_actors_stay schema kept.top e link event o s a kept.known;
      in_state = states_stay schema kept.top e link event o s kept.known kept.in_state;
      numbered = numbers_stay schema e link event o s kept.numbered;
      fitting = (fitting_ends_stay schema e link event o s sound kept.counted few fits kept.fitting).end;
      counted = (counts_grow schema e link event o s).1 kept.counted;
      few = few;
    }
