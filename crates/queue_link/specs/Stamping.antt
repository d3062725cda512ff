-- The stamps of the packets in a queue: each is above those of all that had come to the side that pushes it.
use Rattle.std.specs.Prelude.{◌≡◌, ℕ, ◌+◌, List, [], ◌∷◌, ◌++◌, length, map}
use Rattle.channel_model.specs.Ends as model
use Rattle.end_parts.specs.declared.packet.Packet.{Packet}
use Rattle.ipdl_base.specs.declared.kinds.Side.{Side}
use Rattle.relay_history.specs.Stamps.{StampedHalf}
use Rattle.relay_runs.specs.HalfRuns.{HalfState}
use Rattle.script_steps.specs.Choices.{Setting}
use Rattle.queue_link.specs.declared.packets.StampedPacket.{StampedPacket}

abbrev pub packets_in : List StampedPacket → List Packet
packets_in values = map (λ value. value.packet) values

abbrev pub stamps_in : List StampedPacket → List ℕ
stamps_in values = map (λ value. value.stamp.at) values

-- a number above each of these
abbrev pub next_stamp : List ℕ → ℕ
next_stamp [] = 0
next_stamp (stamp ∷ stamps) = stamp + next_stamp stamps + 1

-- What was pushed has the stamps of all that the half has sent. What was popped has those of what came to it, and then those
-- of what is in its hands.
pub record HasStamps (setting : Setting) (side : Side) (state : HalfState) (pushed popped : List StampedPacket) (in_hands : List model.Packet) : Type 0 where
  pub came : List ℕ
  pub hands : List ℕ
  pub many : length hands ≡ length in_hands
  pub popped_is : stamps_in popped ≡ came ++ hands
  pub stamped : StampedHalf setting side state (stamps_in pushed) came
