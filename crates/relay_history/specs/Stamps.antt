-- Stamps: a number for each packet that a half sends, above the numbers of all packets that came to it before.
use Rattle.std.specs.Prelude.{◌≡◌, ℕ, ◌<◌, true, List, [], ◌∷◌, ◌++◌, length, Some, None}
use Rattle.std.specs.List.{AllByRecursion}
use Rattle.ipdl_base.specs.declared.kinds.Side.{Side}
use Rattle.channel_model.specs.Ends.{Packet}
use Rattle.channel_model.specs.Events.{Event}
use Rattle.channel_model.specs.Events as event
use Rattle.ipdl_base.specs.Sides.{other}
use Rattle.channel_model.specs.Outputs.{Output, is_open}
use Rattle.channel_model.specs.Steps.{step}
use Rattle.script_steps.specs.Choices.{Setting}
use Rattle.relay_runs.specs.HalfRuns.{HalfState, after, after_packet, delivered_for, is_within, opening_half, own_event}
use Rattle.relay_runs.specs.RelaySteps.{RelayState, half_of}
use Rattle.relay_runs.specs.Relays.{ComeInOrder}
use Rattle.law_statements.specs.Prefix.{IsPrefix}

-- a number is above each of these
abbrev pub IsAbove : List ℕ → ℕ → Type 0
IsAbove stamps n = AllByRecursion (λ m. m < n) stamps

-- A half has come so far by its steps, where the packets that it has sent have these stamps, and those that came to it those.
pub data StampedHalf (setting : Setting) (side : Side) : HalfState → List ℕ → List ℕ → Type 0 where
  begins : StampedHalf setting side (opening_half setting side) [] []
  acts : (half : HalfState) (sent came new : List ℕ) (own : Event) (output : Output) → StampedHalf setting side half sent came → is_within setting side half ≡ true → own_event setting side half ≡ Some own
      → step setting.schema half.end [] own ≡ Some output → length new ≡ length output.packets → AllByRecursion (IsAbove came) new → StampedHalf setting side (after half output) (sent ++ new) came
  gets : (half : HalfState) (sent came new : List ℕ) (packet : Packet) (stamp : ℕ) (output : Output) → StampedHalf setting side half sent came → is_within setting side half ≡ true
      → own_event setting side half ≡ None → is_open half.end.state ≡ true → step setting.schema half.end (delivered_for setting.schema half.end packet ∷ []) event.deliver ≡ Some output
      → length new ≡ length output.packets → AllByRecursion (IsAbove (came ++ stamp ∷ [])) new
      → StampedHalf setting side (after_packet half packet (delivered_for setting.schema half.end packet) output) (sent ++ new) (came ++ stamp ∷ [])

-- Both halves have stamps, and what came to each is a prefix of what the other has sent, packets and stamps.
pub record IsStampedRelay (setting : Setting) (state : RelayState) : Type 0 where
  pub sent : Side → List ℕ
  pub came : Side → List ℕ
  pub halves : (side : Side) → StampedHalf setting side (half_of side state) (sent side) (came side)
  pub packets : (side : Side) → ComeInOrder side state
  pub stamps : (side : Side) → IsPrefix (came side) (sent (other side))
