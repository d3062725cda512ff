-- Neither lists of frames nor their lines depend on where the boxes of a schema are.
use Rattle.std.proofs.Common.{◌∙◌, sym}
use Rattle.frame_list.specs.Converted.{new_frames}
use Rattle.frame_list.specs.Lines.{frames_lines}
use Rattle.schema_laws.specs.Frames.{FramesAlike}
use Rattle.schema_laws.proofs.HeldAlike.{held}
use Rattle.schema_laws.proofs.LinesAlike.{lines_alike}
use Rattle.schema_laws.proofs.Spelled.{new_alike}

pub frames_alike : FramesAlike
frames_alike = record {
  held = held;
  lines = λ a b alike frames. sym (lines_alike a frames) ∙ (λ i. frames_lines (alike i) frames) ∙ lines_alike b frames;
  anew = λ a b alike frames. sym (new_alike a frames) ∙ (λ i. new_frames (alike i) frames) ∙ new_alike b frames;
}
