use Rattle.std.proofs.Common.{take}
use Rattle.std.specs.List.{flat_map}
use Rattle.written_parts.specs.Appends.{Appends}
use Rattle.written_parts.specs.Attributes.{told, lists_of_message}
use Rattle.written_parts.proofs.attributes.add_protocol.Given as goal

-- those so far are listed
abbrev pub invariant-loop-message : goal.invariant-loop-message
invariant-loop-message l = Appends told (flat_map lists_of_message (take l.message-index l.protocol.messages)) l.initial.lists.items l.lists.items
