use Rattle.std.proofs.Common.{◌≡◌, ◌++◌, drop}
use Rattle.std.specs.List.{flat_map}
use Rattle.actor_tables.specs.TableText.{message_text}
use Rattle.actor_tables.proofs.writer.push_messages.Given as goal

-- what is written and the text of what is left
abbrev pub invariant-loop-message : goal.invariant-loop-message
invariant-loop-message l =
    l.out.items ++ flat_map (message_text l.schema) (drop l.message-index l.messages) ≡ l.fn.out.items ++ flat_map (message_text l.schema) l.messages
