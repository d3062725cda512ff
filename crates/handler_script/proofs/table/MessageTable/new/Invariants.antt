use Rattle.std.proofs.Common.{◌≡◌, drop}
use Rattle.std.specs.Prelude.{find, option_and_then}
use Rattle.std.specs.Str.{bytes_eq}
use Rattle.ipdl_base.specs.Words.{short_name}
use Rattle.script_reader.specs.declared.statement.MessageName.{MessageName}
use Rattle.handler_script.specs.Messages.{message_in}
use Rattle.handler_script.specs.Tables.{at_name, row_at}
use Rattle.handler_script.proofs.table.MessageTable.new.Given as goal

-- the messages of the protocols from this one on
abbrev pub invariant-loop-index : goal.invariant-loop-index
invariant-loop-index l = (name : MessageName) → option_and_then (row_at name.message) (at_name name.protocol l.protocols) ≡ option_and_then (message_in name.message) (find (λ p. bytes_eq (short_name p.name) name.protocol) (drop l.index l.schema.protocols))
