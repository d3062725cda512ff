-- The lines of frames do not depend on where the boxes of their values are.
use Rattle.std.proofs.Common.{◌≡◌, ◌∙◌, List, [], ◌∷◌, ◌++◌, refl, sym, ap, codes}
use Rattle.std.specs.Fmt.{decimal}
use Rattle.std.specs.Option.{option_map_or}
use Rattle.ipdl_base.specs.Signatures.{params_of, returns_of_row}
use Rattle.ipdl_base.specs.declared.message.Body.{Body}
use Rattle.ipdl_base.specs.declared.message.Body.TheVariants.{Request, Reply, Fault, Goodbye}
use Rattle.ipdl_base.specs.declared.message.Message.{Message}
use Rattle.ipdl_base.specs.declared.schema.Schema.{Schema}
use Rattle.ipdl_base.specs.Plain.{plain_body, plain_message}
use Rattle.ipdl_base.specs.Sound.{message_of}
use Rattle.value_types.specs.Laws.{BoxesSayNothing}
use Rattle.frame_list.specs.declared.list.PlacedMessage.{PlacedMessage}
use Rattle.frame_list.specs.Frames.{all_plain, plain_placed}
use Rattle.frame_list.specs.Lines.{addressed, frame_line, frames_lines, made_text, said_text}

said : BoxesSayNothing → (schema : Schema) (m : Message) (body : Body) → said_text schema (plain_message m) (plain_body body) ≡ said_text schema m body
said laws schema m (Request vs) = ap (λ text. addressed schema (codes "request ") m ++ (codes "(" ++ text ++ codes ")") ++ made_text m.made) (laws.texts schema (params_of schema m.number) vs)
said laws schema m (Reply vs) =
    ap (λ text. addressed schema (codes "reply ") m ++ codes " ok " ++ (codes "(" ++ text ++ codes ")")) (laws.texts schema (option_map_or returns_of_row (message_of schema m.number) []) vs)
said laws schema m (Fault reason) = refl
said laws schema m Goodbye = refl

pub line_plain : BoxesSayNothing → (schema : Schema) (f : PlacedMessage) → frame_line schema f ≡ frame_line schema (plain_placed f)
line_plain laws schema f = ap (λ text. decimal f.offset ++ codes " " ++ text ++ codes "\n") (sym (said laws schema f.message f.message.body))

pub plain_lines : BoxesSayNothing → (schema : Schema) (frames : List PlacedMessage) → frames_lines schema frames ≡ frames_lines schema (all_plain frames)
plain_lines laws schema [] = refl
plain_lines laws schema (f ∷ frames) =
    ap (λ line. line ++ frames_lines schema frames) (line_plain laws schema f)
    ∙ ap (λ lines. frame_line schema (plain_placed f) ++ lines) (plain_lines laws schema frames)
