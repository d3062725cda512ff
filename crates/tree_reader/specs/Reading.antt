-- What a reader of forms did: what it took, how the machine moved, and where it refuses.
use Rattle.std.specs.Prelude.{◌≡◌, ◌≢◌, ℕ, ◌-◌, ◌<◌, Bool, true, false, List, [], ◌∷◌, ◌++◌, Option, Some, None, codes}
use Rattle.std.specs.List.{flat_map}
use Rattle.ipdl_base.specs.Words.{joined}
use Rattle.ipdl_base.specs.declared.finding.Place.{Place}
use Rattle.ipdl_base.specs.declared.kinds.Direction.{Direction}
use Rattle.ipdl_base.specs.declared.kinds.Direction.TheVariants as direction
use Rattle.ipdl_base.specs.declared.kinds.Semantics.{Semantics}
use Rattle.ipdl_base.specs.declared.token.Token.{Token}
use Rattle.ipdl_base.specs.declared.token.TokenKind.TheVariants as kind
use Rattle.ipdl_syntax.specs.declared.tree.Attribute.{Attribute}
use Rattle.ipdl_syntax.specs.declared.tree.MessageDecl.{MessageDecl}
use Rattle.ipdl_syntax.specs.declared.tree.NameAt.{NameAt}
use Rattle.ipdl_syntax.specs.declared.tree.ProtocolDecl.{ProtocolDecl}
use Rattle.ipdl_syntax.specs.declared.tree.StructDecl.{StructDecl}
use Rattle.ipdl_syntax.specs.declared.tree.Suffix.{Suffix}
use Rattle.ipdl_syntax.specs.declared.tree.UnionDecl.{UnionDecl}
use Rattle.ipdl_syntax.specs.declared.tree.Using.{Using as UsingDecl}
use Rattle.ipdl_syntax.specs.Parts.{Part, ◌⨾◌, either, nothing, token, mark, reserved, identifier, at, provided}
use Rattle.ipdl_syntax.specs.Grammar.{words, attribute, more_attributes, suffix, semantics_word, params, returns, messages, MessageSection, sections, Management, managements, managers_of, managed_of, more_managers, fields, components, declared, foreign_name}
use Rattle.tree_reader.specs.declared.refusal.TreeRefusal.{TreeRefusal}
use Rattle.tree_reader.specs.declared.refusal.TreeRefusal.TheVariants.{Left, NoMemory}
use Rattle.tree_reader.specs.declared.symbol.Symbol.{Symbol}
use Rattle.tree_reader.specs.declared.symbol.Symbol.TheVariants as symbols
use Rattle.tree_reader.specs.Ending.{Ending}
use Rattle.tree_reader.specs.Ending as ending
use Rattle.tree_reader.specs.Symbols.{symbol, first_symbol}
use Rattle.tree_reader.specs.Machine.{Form, FileState, production, refusal, section_begins, take, argument_name, suffixed, attributed}

-- The machine with the first forms on the first tokens does the same as with the other forms on the other tokens,
-- whatever is still to come after the forms.
abbrev pub Turns : List Form → List Token → List Form → List Token → Type 0
Turns forms from others to = (more : List Form) (at : FileState) → refusal (forms ++ more) at from ≡ refusal (others ++ more) at to

-- The machine with these forms refuses where this number of tokens is left.
abbrev pub Stops : List Form → List Token → TreeRefusal → Type 0
Stops forms from (Left n) = (more : List Form) (at : FileState) → refusal (forms ++ more) at from ≡ Some n
Stops forms from NoMemory = Unit {0}

-- Tokens

-- a token with this symbol
abbrev pub IsNext : Symbol → Part
IsNext s = token (λ t. symbol t ≡ s)

-- a token with this symbol, at this place
abbrev pub IsNextAt : Symbol → Place → Part
IsNextAt s place = token (λ t. (symbol t ≡ s) × (t.place ≡ place))

-- a token with this symbol and this text, at this place
abbrev pub IsNextText : Symbol → List ℕ → Place → Part
IsNextText s text place = token (λ t. (symbol t ≡ s) × (t.text ≡ text) × (t.place ≡ place))

-- any token but a mark, with this text
abbrev pub IsAnyWord : List ℕ → Part
IsAnyWord text = token (λ t. (t.kind ≢ kind.Mark) × (t.text ≡ text))

-- Names

-- words after a name, each after a `::`, and the name with them
abbrev pub AddsWords : List ℕ → List ℕ → Part
AddsWords old new from to = (ws : List (List ℕ)) × (new ≡ joined (old ∷ ws)) × words ws from to

-- After a word of a name, `::` and a word lead to the same form again.
abbrev pub IsNaming : Form → Type 0
IsNaming f = production f symbols.Colons ≡ Some (take symbols.Word ∷ f ∷ [])

-- After a name, an argument may come before the other forms.
abbrev pub MayHaveArgument : Form → List Form → Type 0
MayHaveArgument f others =
    (production f symbols.Less ≡ Some (argument_name ∷ others))
    × ((tokens : List Token) → first_symbol tokens ≢ symbols.Colons → first_symbol tokens ≢ symbols.Less → Turns (f ∷ []) tokens others tokens)

-- Attributes

-- attributes after their `[`, to their `]`
abbrev pub IsBracketed : List Attribute → Part
IsBracketed [] from to = ⊥
IsBracketed (a ∷ rest) from to = (attribute a ⨾ more_attributes rest ⨾ mark (codes "]")) from to

-- Attributes may come before the other forms here.
abbrev pub MayBeHeaded : Form → List Form → List Token → Type 0
MayBeHeaded f others tokens =
    (production f symbols.OpenBracket ≡ Some (attributed ∷ others))
    × (first_symbol tokens ≢ symbols.OpenBracket → Turns (f ∷ []) tokens others tokens)

-- Types

-- the symbol of what follows a type
abbrev pub last : Ending → Symbol
last ending.Name = symbols.Word
last ending.Semicolon = symbols.Semicolon
last ending.Greater = symbols.Greater

-- A suffix or no suffix, with room for one.
abbrev pub MaySuffix : Option Suffix → List Token → List Token → Type 0
MaySuffix None from to = (from ≡ to) × (first_symbol from ≢ symbols.OpenBracket) × (first_symbol from ≢ symbols.Question)
MaySuffix (Some s) from to = suffix s from to × ((n : ℕ) (e : Ending) → 0 < n → Turns (suffixed n e ∷ []) from (suffixed (n - 1) e ∷ []) to)

-- Messages

-- a message after its attributes
abbrev pub bare_message : MessageDecl → Part
bare_message m = reserved (semantics_word m.semantics) ⨾ identifier m.name m.place ⨾ mark (codes "(") ⨾ params m.params ⨾ mark (codes ")") ⨾ returns m.returns ⨾ mark (codes ";")

-- whether a message begins with this symbol
abbrev pub begins_message : Symbol → Bool
begins_message symbols.OpenBracket = true
begins_message symbols.Async = true
begins_message symbols.Sync = true
begins_message _ = false

-- messages of a section, appended to the earlier ones
abbrev pub AddsMessages : Direction → List MessageDecl → List MessageDecl → Part
AddsMessages d old new from to = (ms : List MessageDecl) × (new ≡ old ++ ms) × messages d ms from to

-- the direction of the section that begins with this symbol
abbrev pub direction_of : Symbol → Option Direction
direction_of symbols.Parent = Some direction.Parent
direction_of symbols.Child = Some direction.Child
direction_of symbols.Both = Some direction.Both
direction_of _ = None

-- A section, or the end of the protocol, may come here.
abbrev pub IsSectioned : Form → List Token → Type 0
IsSectioned f tokens = production f (first_symbol tokens) ≡ section_begins (first_symbol tokens)

-- sections, and all of their messages
abbrev pub AreSections : List MessageDecl → Part
AreSections all from to = (parts : List MessageSection) × (all ≡ flat_map (λ s. s.messages) parts) × sections parts from to

-- managers after one of them, to the semicolon
abbrev pub AddsManagers : List NameAt → List NameAt → Part
AddsManagers old new from to = (ns : List NameAt) × (new ≡ old ++ ns) × (more_managers ns ⨾ mark (codes ";")) from to

-- statements, with their managers and managed protocols appended to the earlier ones
pub record AddsStatements (old_managers new_managers old_managed new_managed : List NameAt) (from to : List Token) : Type 0 where
  pub all : List Management
  pub read : managements all from to
  pub managers : new_managers ≡ old_managers ++ flat_map managers_of all
  pub managed : new_managed ≡ old_managed ++ flat_map managed_of all

-- the end of a struct, a union and a protocol
abbrev pub closed : Part
closed = mark (codes "}") ⨾ mark (codes ";")

-- the content of a protocol after its `{`, to its end
pub record IsBody (managers managed : List NameAt) (all : List MessageDecl) (from to : List Token) : Type 0 where
  pub statements : List Management
  pub parts : List MessageSection
  pub managers_of_them : managers ≡ flat_map managers_of statements
  pub managed_of_them : managed ≡ flat_map managed_of statements
  pub messages_of_them : all ≡ flat_map (λ s. s.messages) parts
  pub read : (managements statements ⨾ sections parts ⨾ closed) from to

-- Declarations after their keywords, with the attributes before them

abbrev pub IsStructAfter : List (List ℕ) → List Attribute → StructDecl → Part
IsStructAfter scope all s = provided (s.attributes ≡ all) (declared scope s.full s.place ⨾ mark (codes "{") ⨾ fields s.fields ⨾ closed)

abbrev pub IsUnionAfter : List (List ℕ) → List Attribute → UnionDecl → Part
IsUnionAfter scope all u = provided (u.attributes ≡ all) (provided (u.components ≢ []) (declared scope u.full u.place ⨾ mark (codes "{") ⨾ components u.components ⨾ closed))

-- the end of a using
abbrev pub from_file : Part
from_file = reserved (codes "from") ⨾ token (λ t. t.kind ≡ kind.Quoted) ⨾ mark (codes ";")

abbrev pub IsUsingAfter : List Attribute → UsingDecl → Part
IsUsingAfter all u = provided (u.attributes ≡ all) (either nothing (either (reserved (codes "class")) (reserved (codes "struct"))) ⨾ at u.place (foreign_name u.full) ⨾ from_file)

abbrev pub IsProtocolAfter : List (List ℕ) → List Attribute → Semantics → ProtocolDecl → Part
IsProtocolAfter scope all how p = provided (p.attributes ≡ all) (provided (p.semantics ≡ how) (declared scope p.full p.place ⨾ mark (codes "{") ⨾ IsBody p.managers p.manages p.messages))
