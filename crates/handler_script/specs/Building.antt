-- What the code makes on the way when it builds a script: what a statement adds, and the block that a line opens.
use Rattle.std.specs.Prelude.{List, [], ◌∷◌, Option, Some, None}
use Rattle.ipdl_base.specs.declared.schema.Schema.{Schema}
use Rattle.script_reader.specs.declared.line.LineReading.{LineReading}
use Rattle.script_reader.specs.declared.line.LineReading.TheVariants as line
use Rattle.script_reader.specs.declared.statement.Statement.{Statement}
use Rattle.script_reader.specs.declared.statement.Statement.TheVariants as forms
use Rattle.script_reader.specs.declared.written.WrittenValues.{WrittenValues}
use Rattle.handler_script.specs.declared.action.Block.{Block}
use Rattle.handler_script.specs.ScriptOf.{blocks_at}

-- the content of an option, as a list
abbrev pub listed : {X : Type 0} → Option X → List X
listed None = []
listed (Some x) = x ∷ []

-- the values of a `return`
abbrev pub returned_by : Statement → Option WrittenValues
returned_by (forms.Return vs) = Some vs
returned_by _ = None

-- the block that a line opens, if it opens one, where these lines follow
abbrev pub blocks_of_line : Schema → LineReading → List LineReading → List Block
blocks_of_line schema (line.Statement held) rest = blocks_at schema held.value rest
blocks_of_line schema _ rest = []
