use Rattle.std.proofs.Common.{take}
use Rattle.std.specs.List.{flat_map}
use Rattle.written_parts.specs.Appends.{Appends}
use Rattle.written_parts.specs.Types.{told, types_of_message}
use Rattle.written_parts.proofs.types.add_messages.Given as goal

-- those so far are listed
abbrev pub invariant-loop-message : goal.invariant-loop-message
invariant-loop-message l = Appends told (flat_map (types_of_message l.file) (take l.message-index l.messages)) l.fn.types.items l.types.items
