-- Worked lines, and a worked text.
use Rattle.std.proofs.Common.{◌≡◌, negsuc, [], ◌∷◌, Some, refl}
use Rattle.std.specs.Prelude.{codes}
use denote.RawPtr.{null_ptr}
use Rattle.ipdl_base.specs.Plain.{one_box}
use Rattle.ipdl_base.specs.declared.kinds.Side.TheVariants as side
use Rattle.script_reader.specs.declared.line.LineReading.{LineReading}
use Rattle.script_reader.specs.declared.line.LineReading.TheVariants as reading
use Rattle.script_reader.specs.declared.statement.Statement.{Statement}
use Rattle.script_reader.specs.declared.statement.Statement.TheVariants as forms
use Rattle.script_reader.specs.declared.written.Atom.TheVariants as atom
use Rattle.script_reader.specs.declared.written.Who.TheVariants as whos
use Rattle.script_reader.specs.declared.written.WrittenValue.{WrittenValue, Union', Held'}
use Rattle.script_reader.specs.declared.written.WrittenValue.TheVariants as written
use Rattle.script_reader.specs.declared.written.WrittenValues.{WrittenValues, First'}
use Rattle.script_reader.specs.declared.written.WrittenValues.TheVariants as values
use Rattle.script_reader.specs.Tokens.{character_at}
use Rattle.script_existence.proofs.LineReader.{reading_of, readings_of}
use Rattle.script_existence.proofs.TokenReader.{read_quoted}

-- a line that is this statement
abbrev says : Statement → LineReading
says s = reading.Statement (record { ptr = null_ptr; alloc = record { memory = record { seal = tt } }; value = s })

-- values one after another
abbrev and_then : WrittenValue → WrittenValues → WrittenValues
and_then v vs = First' one_box v one_box vs

-- a block
block : readings_of (codes "child on Ping.Hi # no\n\nchild on Ping.Hi\n # a comment\n\tlet asker $1\n reject\nend") ≡ reading.NoStatement ∷ reading.Silent ∷ says (forms.On side.Child (record { protocol = codes "Ping"; message = codes "Hi" })) ∷ reading.Silent ∷ says (forms.Let (codes "asker") (whos.Param 1)) ∷ says forms.Reject ∷ says forms.End ∷ []
block = refl

-- a main, and a word of a side with nothing after it
main : reading_of (codes "parent main") ≡ says (forms.Main side.Parent)
main = refl

bare : reading_of (codes "parent") ≡ reading.NoStatement
bare = refl

-- values inside values
nested : reading_of (codes "resolve ({}, [-1, @2 some null], h\"0a\")") ≡ says (forms.Resolve (and_then (written.Struct values.Nothing) (and_then (written.Array (and_then (written.Atom (atom.Number (negsuc 0))) (and_then (Union' 2 one_box (Held' one_box (written.Atom atom.Null))) values.Nothing))) (and_then (written.Atom (atom.Bytes (10 ∷ []))) values.Nothing))))
nested = refl

-- a comma before the mark that closes, and a value that is not closed
comma : reading_of (codes "return (1,)") ≡ reading.NoStatement
comma = refl

unclosed : reading_of (codes "return (1") ≡ reading.NoStatement
unclosed = refl

-- a text with an escape, and bytes of half a digit
escape : read_quoted character_at (codes "a\\x41\", 1") ≡ Some (codes "aA", codes ", 1")
escape = refl

half : reading_of (codes "return (h\"0\")") ≡ reading.NoStatement
half = refl

-- actors that are not names
no_name : reading_of (codes "keep top") ≡ reading.NoStatement
no_name = refl
