-- The lines of both ends of every relay are plain.
use Rattle.std.proofs.Common.{◌≡◌, ℕ, zero, suc, List, [], ◌∷◌, drop, length, Option, Some, None, refl, sym, subst}
use Rattle.std.specs.List.{AllByRecursion}
use Rattle.std.specs.Option.{option_map_or}
use Rattle.std.proofs.lemmas.Option.{same_Some}
use Rattle.handler_script.specs.ScriptOf.{first_of}
use Rattle.ipdl_base.specs.declared.kinds.Side.{Side}
use Rattle.ipdl_base.specs.declared.kinds.Side.TheVariants as sides
use Rattle.channel_model.specs.Ends.{Packet, mark}
use Rattle.channel_model.specs.Events.{Event}
use Rattle.channel_model.specs.Events as event
use Rattle.ipdl_base.specs.Sides.{other}
use Rattle.channel_model.specs.Outputs.{Output}
use Rattle.channel_model.specs.Refusals.{DeliveryRefusal, packet_refusal}
use Rattle.channel_model.proofs.Known.{all-append}
use Rattle.script_steps.specs.Choices.{Setting}
use Rattle.script_steps.specs.Progress.{progress_of}
use Rattle.relay_runs.specs.HalfRuns.{HalfState, after, after_packet, delivered_for}
use Rattle.relay_runs.specs.RelaySteps.{IsRelay, RelayState, RelayStep, acts, gets, half_of, opening_relay, stays, steps, with_half}
use Rattle.relay_runs.proofs.Sides.{by-sides, half-here, half-there}
use Rattle.plain_runs.specs.Laws.{RelayLinesArePlain}
use Rattle.plain_runs.specs.PlainEnds.{ArePlainLines, IsPlainEnd, IsPlainOutput, IsPlainPacket}
use Rattle.plain_runs.proofs.Events.{own-plain}
use Rattle.plain_runs.proofs.Parts.{lines-append}
use Rattle.plain_runs.proofs.Runs.{opening-plain}
use Rattle.plain_runs.proofs.Steps.{steps_stay_plain}

-- an end is plain, with its lines and what it has sent
record IsPlainHalf (half : HalfState) : Type 0 where
  end : IsPlainEnd half.end
  lines : ArePlainLines half.lines
  sent : AllByRecursion IsPlainPacket half.sent

later-plain : (n : ℕ) (packets : List Packet) → AllByRecursion IsPlainPacket packets → AllByRecursion IsPlainPacket (drop n packets)
later-plain zero packets h = h
later-plain (suc n) [] h = tt
later-plain (suc n) (packet ∷ packets) h = later-plain n packets h.1

first-plain : (packets : List Packet) (packet : Packet) → AllByRecursion IsPlainPacket packets → first_of packets ≡ Some packet → IsPlainPacket packet
first-plain [] packet h is = cc
first-plain (first ∷ rest) packet h is = subst IsPlainPacket (same_Some first packet is) h.0

given-plain : (packet : Packet) (found : Option DeliveryRefusal) → IsPlainPacket packet → IsPlainPacket (option_map_or (λ (refusal : DeliveryRefusal). mark) found packet)
given-plain packet None h = h
given-plain packet (Some refusal) h = tt

following-plain : (half : HalfState) (output : Output) → IsPlainHalf half → IsPlainOutput output → IsPlainHalf (after half output)
following-plain half output h made = record {
  end = made.end;
  lines = lines-append half.lines output.lines h.lines made.lines;
  sent = all-append IsPlainPacket half.sent output.packets h.sent made.packets;
}

abbrev ArePlain : RelayState → Type 0
ArePlain state = (side : Side) → IsPlainHalf (half_of side state)

put-in : (side : Side) (half : HalfState) (state : RelayState) → IsPlainHalf half → ArePlain state → ArePlain (with_half side half state)
put-in side half state h k =
    by-sides (λ s. IsPlainHalf (half_of s (with_half side half state))) side (subst IsPlainHalf (sym (half-here side half state)) h) (subst IsPlainHalf (sym (half-there side half state)) (k (other side)))

module _ (setting : Setting) where
  step-plain : (side : Side) (state next : RelayState) → RelayStep setting side state next → ArePlain state → ArePlain next
  step-plain side state _ (acts own output within is made) h =
      let half : HalfState = half_of side state in
      put-in side (after half output) state
      (following-plain half output (h side)
      (steps_stay_plain setting.schema half.end [] own output made (h side).end tt (own-plain setting.script setting.stop half.end (progress_of side half.lines) own is)))
      h
  step-plain side state _ (gets packet output within idle opened is made) h =
      let half : HalfState = half_of side state in
      let given : Packet = delivered_for setting.schema half.end packet in
      let sent : List Packet = (half_of (other side) state).sent in
      let p : IsPlainPacket packet = first-plain (drop (length half.came) sent) packet (later-plain (length half.came) sent (h (other side)).sent) is in
      let out : IsPlainHalf (after half output) =
      following-plain half output (h side)
      (steps_stay_plain setting.schema half.end (given ∷ []) event.deliver output made (h side).end (given-plain packet (packet_refusal setting.schema half.end packet) p, tt) tt)
      in
      put-in side (after_packet half packet given output) state (record { end = out.end; lines = out.lines; sent = out.sent }) h

  begins : ArePlain (opening_relay setting)
  begins sides.Parent = record { end = opening-plain setting.script.top sides.Parent; lines = refl; sent = tt }
  begins sides.Child = record { end = opening-plain setting.script.top sides.Child; lines = refl; sent = tt }

  relay-plain : (state : RelayState) → IsRelay setting state → ArePlain state
  relay-plain _ stays = begins
  relay-plain next (steps side state _ before one) = step-plain side state next one (relay-plain state before)

pub relay_lines_are_plain : RelayLinesArePlain
relay_lines_are_plain setting state relay side = (relay-plain setting state relay side).lines
