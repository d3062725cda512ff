-- What a table of messages finds.
use Rattle.std.specs.Prelude.{◌≡◌, List, ℕ, Option, option_map, option_and_then}
use Rattle.std.specs.Borrow.{Bor}
use Rattle.std.specs.Str.{bytes_eq}
use Rattle.indexmap.specs.IndexMap.{IndexMap, get_by}
use Rattle.ipdl_base.specs.declared.schema.MessageRow.{MessageRow}
use Rattle.ipdl_base.specs.declared.schema.Schema.{Schema}
use Rattle.script_reader.specs.declared.statement.MessageName.{MessageName}
use Rattle.handler_script.specs.declared.table.MessageTable.{MessageTable}
use Rattle.handler_script.specs.Messages.{message_named}

-- the value at a name
abbrev pub at_name : {V S : Type 0} → List ℕ → IndexMap (Bor (List ℕ)) V S → Option V
at_name name map = get_by (λ k. bytes_eq name k.now) map

-- the row at a name
abbrev pub row_at : {S : Type 0} → List ℕ → IndexMap (Bor (List ℕ)) (Bor MessageRow) S → Option MessageRow
row_at name map = option_map (λ m. m.now) (at_name name map)

-- the message that a table has at a name
abbrev pub found_in : MessageTable → MessageName → Option MessageRow
found_in table name = option_and_then (row_at name.message) (at_name name.protocol table.protocols)

-- a table finds under every name what the schema has
abbrev pub IsTableOf : Schema → MessageTable → Type 0
IsTableOf schema table = (name : MessageName) → found_in table name ≡ message_named schema name
