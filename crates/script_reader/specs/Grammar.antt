-- The grammar of a statement, one definition for each form.
use Rattle.std.specs.Prelude.{ℕ, Bool, true, false, if◌then◌else◌, List, [], ◌∷◌, Option, Some, None, codes}
use Rattle.std.specs.List.{list_any}
use Rattle.std.specs.Option.{option_map}
use Rattle.std.specs.Str.{bytes_eq}
use Rattle.ipdl_base.specs.declared.kinds.Side.TheVariants as side
use Rattle.script_reader.specs.declared.parts.Bracket.{Bracket}
use Rattle.script_reader.specs.declared.parts.Bracket.TheVariants as bracket
use Rattle.script_reader.specs.declared.parts.Keyword.{Keyword}
use Rattle.script_reader.specs.declared.parts.Keyword.TheVariants as keyword
use Rattle.script_reader.specs.declared.statement.WrittenMessage.{WrittenMessage}
use Rattle.script_reader.specs.declared.statement.MessageName.{MessageName}
use Rattle.script_reader.specs.declared.statement.Statement.{Statement}
use Rattle.script_reader.specs.declared.statement.Statement.TheVariants as forms
use Rattle.script_reader.specs.declared.token.ScriptToken.{ScriptToken}
use Rattle.script_reader.specs.declared.token.ScriptToken.TheVariants as token
use Rattle.script_reader.specs.declared.written.Atom.{Atom}
use Rattle.script_reader.specs.declared.written.Atom.TheVariants as atom
use Rattle.script_reader.specs.declared.written.Who.{Who}
use Rattle.script_reader.specs.declared.written.Who.TheVariants as whos
use Rattle.script_reader.specs.declared.written.WrittenValue.{WrittenValue, Union', Held'}
use Rattle.script_reader.specs.declared.written.WrittenValue.TheVariants as written
use Rattle.script_reader.specs.declared.written.WrittenValues.{WrittenValues, First'}
use Rattle.script_reader.specs.declared.written.WrittenValues.TheVariants as values
use Rattle.script_reader.specs.Parts.{Part, nothing, ◌⨾◌, mark, word, component, single}

-- Names

-- the words that cannot be names
abbrev pub no_names : List (List ℕ)
no_names = codes "top" ∷ codes "this" ∷ codes "made" ∷ codes "null" ∷ codes "none" ∷ codes "some" ∷ codes "true" ∷ codes "false" ∷ []

-- whether a word cannot be a name
abbrev pub is_no_name : List ℕ → Bool
is_no_name word = list_any (λ w. bytes_eq word w) no_names

-- the name that a word spells, if it may be a name
abbrev pub named : List ℕ → Option (List ℕ)
named word = if is_no_name word then None else Some word

-- the name that a token spells, if it is one
abbrev pub name_of : ScriptToken → Option (List ℕ)
name_of (token.Word word) = named word
name_of _ = None

abbrev pub name : List ℕ → Part
name n = single name_of n

-- the actor that a word refers to, if it refers to one
abbrev pub who_named : List ℕ → Option Who
who_named word =
    if bytes_eq word (codes "top") then Some whos.Top else
    (if bytes_eq word (codes "this") then Some whos.This else
    (if bytes_eq word (codes "made") then Some whos.Made else option_map whos.Name (named word)))

-- the actor or parameter that a token refers to, if it refers to one
abbrev pub who_of : ScriptToken → Option Who
who_of (token.Word word) = who_named word
who_of (token.Param n) = Some (whos.Param n)
who_of _ = None

abbrev pub who : Who → Part
who w = single who_of w

-- a message, as `P.M`
abbrev pub message : MessageName → Part
message m = word m.protocol ⨾ mark 46 ⨾ word m.message

-- Values

-- the value that a word spells, if it is one
abbrev pub atom_named : List ℕ → Option Atom
atom_named word =
    if bytes_eq word (codes "true") then Some (atom.Bool true) else
    (if bytes_eq word (codes "false") then Some (atom.Bool false) else
    (if bytes_eq word (codes "none") then Some atom.Nothing else
    (if bytes_eq word (codes "null") then Some atom.Null else option_map atom.Who (who_named word))))

-- the value that a token spells, if it is one
abbrev pub atom_of : ScriptToken → Option Atom
atom_of (token.Word word) = atom_named word
atom_of (token.Param n) = Some (atom.Who (whos.Param n))
atom_of (token.Number n) = Some (atom.Number n)
atom_of (token.Text text) = Some (atom.Text text)
atom_of (token.Bytes bytes) = Some (atom.Bytes bytes)
atom_of _ = None

-- the mark that closes values
abbrev pub closing : Bracket → ℕ
closing bracket.Round = 41
closing bracket.Square = 93
closing bracket.Curly = 125

-- A value; values with commas between each two, and the mark that closes them; and what follows the first of these.
abbrev mutual
  pub value : WrittenValue → Part
  value (written.Atom a) = single atom_of a
  value (written.Struct vs) = mark 123 ⨾ listed bracket.Curly vs
  value (written.Array vs) = mark 91 ⨾ listed bracket.Square vs
  value (Union' index _ v) = component index ⨾ value v
  value (Held' _ v) = word (codes "some") ⨾ value v

  pub listed : Bracket → WrittenValues → Part
  listed close values.Nothing = mark (closing close)
  listed close (First' _ v _ vs) = value v ⨾ more close vs

  pub more : Bracket → WrittenValues → Part
  more close values.Nothing = mark (closing close)
  more close (First' _ v _ vs) = mark 44 ⨾ value v ⨾ more close vs

-- values in round brackets
abbrev pub arguments : WrittenValues → Part
arguments vs = mark 40 ⨾ listed bracket.Round vs

-- a message with values
abbrev pub call : WrittenMessage → Part
call c = message c.message ⨾ arguments c.values

-- Statements

-- the keyword that a word is, if a statement may begin with it
abbrev pub keyword_named : List ℕ → Option Keyword
keyword_named word =
    if bytes_eq word (codes "parent") then Some (keyword.Side side.Parent) else
    (if bytes_eq word (codes "child") then Some (keyword.Side side.Child) else
    (if bytes_eq word (codes "end") then Some keyword.End else
    (if bytes_eq word (codes "send") then Some keyword.Send else
    (if bytes_eq word (codes "new") then Some keyword.New else
    (if bytes_eq word (codes "let") then Some keyword.Let else
    (if bytes_eq word (codes "resolve") then Some keyword.Resolve else
    (if bytes_eq word (codes "reject") then Some keyword.Reject else
    (if bytes_eq word (codes "keep") then Some keyword.Keep else
    (if bytes_eq word (codes "close") then Some keyword.Close else
    (if bytes_eq word (codes "die") then Some keyword.Die else
    (if bytes_eq word (codes "return") then Some keyword.Return else None)))))))))))

abbrev pub keyword_of : ScriptToken → Option Keyword
keyword_of (token.Word word) = keyword_named word
keyword_of _ = None

-- the keyword of a statement
abbrev pub keyword_for : Statement → Keyword
keyword_for (forms.Main s) = keyword.Side s
keyword_for (forms.On s m) = keyword.Side s
keyword_for forms.End = keyword.End
keyword_for (forms.Send w c) = keyword.Send
keyword_for (forms.New n w c) = keyword.New
keyword_for (forms.Let n w) = keyword.Let
keyword_for (forms.Resolve vs) = keyword.Resolve
keyword_for forms.Reject = keyword.Reject
keyword_for (forms.Keep n) = keyword.Keep
keyword_for (forms.ResolveKept n c) = keyword.Resolve
keyword_for (forms.RejectKept n m) = keyword.Reject
keyword_for forms.Close = keyword.Close
keyword_for forms.Die = keyword.Die
keyword_for (forms.Return vs) = keyword.Return

-- what follows the keyword of a statement
abbrev pub following_keyword : Statement → Part
following_keyword (forms.Main s) = word (codes "main")
following_keyword (forms.On s m) = word (codes "on") ⨾ message m
following_keyword forms.End = nothing
following_keyword (forms.Send w c) = who w ⨾ call c
following_keyword (forms.New n w c) = name n ⨾ who w ⨾ call c
following_keyword (forms.Let n w) = name n ⨾ who w
following_keyword (forms.Resolve vs) = arguments vs
following_keyword forms.Reject = nothing
following_keyword (forms.Keep n) = name n
following_keyword (forms.ResolveKept n c) = name n ⨾ call c
following_keyword (forms.RejectKept n m) = name n ⨾ message m
following_keyword forms.Close = nothing
following_keyword forms.Die = nothing
following_keyword (forms.Return vs) = arguments vs

-- a statement
abbrev pub statement : Statement → Part
statement s = single keyword_of (keyword_for s) ⨾ following_keyword s
