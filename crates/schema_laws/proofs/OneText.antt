-- There is one text of the frames in bytes.
use Rattle.std.proofs.Common.{◌∙◌, sym, ap}
use Rattle.value_types.specs.Laws.{BoxesSayNothing}
use Rattle.frame_list.specs.Converted.{new_frames}
use Rattle.frame_list.specs.Lines.{frames_lines}
use Rattle.frame_list.proofs.PlainFrames.{new_plain}
use Rattle.frame_list.proofs.PlainLines.{plain_lines}
use Rattle.schema_laws.specs.Frames.{OneText}
use Rattle.schema_laws.proofs.Alike.{frames_alike}
use Rattle.schema_laws.proofs.OneList.{one_list_of_frames}

pub one_text : BoxesSayNothing → OneText
one_text boxes a b alike sound offset bytes are frames others fault other h k =
    let same = one_list_of_frames a sound offset bytes are frames others fault other h (frames_alike.held b a (sym alike) offset bytes others other k) in (
      plain_lines boxes a frames ∙ ap (frames_lines a) same.0 ∙ sym (plain_lines boxes a others) ∙ frames_alike.lines a b alike others,
      new_plain a frames ∙ ap (new_frames a) same.0 ∙ sym (new_plain a others) ∙ frames_alike.anew a b alike others,
      same.1,
    )
