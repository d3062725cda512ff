-- Parts of a statement: what is between two points in a list of tokens.
use Rattle.std.specs.Prelude.{◌≡◌, ℕ, List, ◌∷◌, Option, Some}
use Rattle.script_reader.specs.declared.token.ScriptToken.{ScriptToken}
use Rattle.script_reader.specs.declared.token.ScriptToken.TheVariants.{Word, Index, Mark}

-- A part relates the tokens from its start on to those that are left after its end.
abbrev pub Part : Type 1
Part = List ScriptToken → List ScriptToken → Type 0

-- no token
abbrev pub nothing : Part
nothing from to = from ≡ to

infixr 4 ◌⨾◌
-- one part, and then another
abbrev pub ◌⨾◌ : Part → Part → Part
(first ⨾ second) from to = (middle : List ScriptToken) × first from middle × second middle to

-- one token
abbrev pub token : ScriptToken → Part
token t from to = from ≡ t ∷ to

-- a mark
abbrev pub mark : ℕ → Part
mark b = token (Mark b)

-- a word
abbrev pub word : List ℕ → Part
word name = token (Word name)

-- the index of a component
abbrev pub component : ℕ → Part
component n = token (Index n)

-- one token that means this
abbrev pub single : {X : Type 0} → (ScriptToken → Option X) → X → Part
single read x from to = (t : ScriptToken) × (from ≡ t ∷ to) × (read t ≡ Some x)
