-- What it means that a reader read nothing.
use Rattle.std.specs.Prelude.{◌≡◌, List, []}
use Rattle.script_reader.specs.declared.parts.Keyword.{Keyword}
use Rattle.script_reader.specs.declared.statement.Statement.{Statement}
use Rattle.script_reader.specs.declared.stop.ReadFailure.{ReadFailure}
use Rattle.script_reader.specs.declared.stop.ReadFailure.TheVariants.{NoReading, NoMemory}
use Rattle.script_reader.specs.declared.token.ScriptToken.{ScriptToken}
use Rattle.script_reader.specs.Grammar.{keyword_for, following_keyword}

-- unless memory ran out, this is true
abbrev pub Refuses : Type 0 → ReadFailure → Type 0
Refuses P NoReading = P
Refuses P NoMemory = Unit {0}

-- the tokens are the rest of a statement after this keyword, up to their end
abbrev pub IsAfter : Keyword → List ScriptToken → Statement → Type 0
IsAfter k from s = (keyword_for s ≡ k) × following_keyword s from []
