-- The form of a value by its first token, which is all that the reader looks at.
use Rattle.std.specs.Prelude.{Bool, false, ◌==◌, ◌||◌, if◌then◌else◌, List, [], ◌∷◌, codes}
use Rattle.std.specs.Str.{bytes_eq}
use Rattle.script_reader.specs.declared.reader.ValueForm.{ValueForm}
use Rattle.script_reader.specs.declared.reader.ValueForm.TheVariants as begin
use Rattle.script_reader.specs.declared.token.ScriptToken.{ScriptToken}
use Rattle.script_reader.specs.declared.token.ScriptToken.TheVariants as token

abbrev pub begin_with : ScriptToken → ValueForm
begin_with (token.Mark b) = if b == 123 then begin.Struct else (if b == 91 then begin.Array else begin.Atom)
begin_with (token.Index n) = begin.Union n
begin_with (token.Word word) = if bytes_eq word (codes "some") then begin.Held else begin.Atom
begin_with _ = begin.Atom

abbrev pub begin_of : List ScriptToken → ValueForm
begin_of [] = begin.Atom
begin_of (t ∷ rest) = begin_with t

-- the marks that open and that close values
abbrev pub is_opening : ScriptToken → Bool
is_opening (token.Mark b) = b == 40 || b == 91 || b == 123
is_opening _ = false

abbrev pub is_closing : ScriptToken → Bool
is_closing (token.Mark b) = b == 41 || b == 93 || b == 125
is_closing _ = false
