-- What the code has made of a step so far is what the definitions make.
use Rattle.std.specs.Prelude.{◌≡◌, ◌++◌, map}
use Rattle.std.specs.List.{AllByRecursion}
use Rattle.channel_model.specs.Outputs.{Output}
use Rattle.end_parts.specs.OutputView.{OutputView}
use Rattle.channel_core.specs.EndView.{EndView, packets_of, frame_packet, HasFrame, IsFramed}

-- The lines and the packets of the output are after those from before, and its outbox is there with its frames.
pub record Tracks (before : EndView) (output : Output) (out : OutputView) : Type 0 where
  pub lines : out.lines ≡ before.lines ++ output.lines
  pub packets : out.packets ≡ before.packets ++ packets_of before.schema output.packets
  pub outbox : out.outbox ≡ output.end.outbox
  pub frames : out.frames ≡ map (frame_packet before.schema) out.outbox
  pub waiting : AllByRecursion (HasFrame before.schema) out.outbox
  pub framed : AllByRecursion (IsFramed before.schema) output.packets
