-- The lines of the frames of a file.
use Rattle.std.specs.Prelude.{ℕ, ℤ, pos, if◌then◌else◌, List, [], ◌++◌, codes}
use Rattle.std.specs.Fmt.{decimal}
use Rattle.std.specs.List.{flat_map}
use Rattle.std.specs.Option.{option_map_or}
use Rattle.std.specs.Ordering.{int_eq}
use Rattle.history.specs.Text.{listed_values, message_text, numbered}
use Rattle.ipdl_base.specs.Signatures.{params_of, returns_of_row}
use Rattle.history.specs.Words.{reason_word}
use Rattle.ipdl_base.specs.declared.message.Body.{Body}
use Rattle.ipdl_base.specs.declared.message.Body.TheVariants.{Request, Reply, Fault, Goodbye}
use Rattle.ipdl_base.specs.declared.message.Message.{Message}
use Rattle.ipdl_base.specs.declared.schema.Schema.{Schema}
use Rattle.ipdl_base.specs.Rules.{rule_line}
use Rattle.ipdl_base.specs.Sound.{message_of}
use Rattle.frame_list.specs.declared.list.FrameListFault.{FrameListFault}
use Rattle.frame_list.specs.declared.list.FrameListFault.TheVariants.{Short, Broken}
use Rattle.frame_list.specs.declared.list.PlacedMessage.{PlacedMessage}

-- the actor that a message goes to, and the message
abbrev pub receiver_text : Schema → Message → List ℕ
receiver_text schema m = numbered (codes " to ") m.route ++ codes " " ++ message_text schema m.number

-- a word, a number and a transaction, the receiver, and the message
abbrev pub addressed : Schema → List ℕ → Message → List ℕ
addressed schema word m = numbered word m.seq ++ numbered (codes "/") m.transaction ++ receiver_text schema m

-- the new actor of a constructor's request
abbrev pub made_text : ℤ → List ℕ
made_text made = if int_eq made (pos 0) then [] else numbered (codes " made ") made

-- the content of a message
abbrev pub said_text : Schema → Message → Body → List ℕ
said_text schema m (Request vs) = addressed schema (codes "request ") m ++ listed_values schema (params_of schema m.number) vs ++ made_text m.made
said_text schema m (Reply vs) = addressed schema (codes "reply ") m ++ codes " ok " ++ listed_values schema (option_map_or returns_of_row (message_of schema m.number) []) vs
said_text schema m (Fault reason) = addressed schema (codes "reply ") m ++ codes " fault " ++ reason_word reason
said_text schema m Goodbye = codes "goodbye"

-- the line of a frame: its offset, and the content of its message
abbrev pub frame_line : Schema → PlacedMessage → List ℕ
frame_line schema placed = decimal placed.offset ++ codes " " ++ said_text schema placed.message placed.message.body ++ codes "\n"

-- the lines of frames
abbrev pub frames_lines : Schema → List PlacedMessage → List ℕ
frames_lines schema frames = flat_map (frame_line schema) frames

-- the line that reports why a file of this name is no longer a list of frames
abbrev pub fault_line : List ℕ → FrameListFault → List ℕ
fault_line name (Short at missing) = name ++ codes ":" ++ decimal at ++ codes ": short " ++ decimal missing ++ codes "\n"
fault_line name (Broken at rule) = name ++ codes ":" ++ decimal at ++ codes ": " ++ rule_line rule ++ codes "\n"
