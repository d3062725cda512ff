-- The heads of declarations: usings and includes.
use Rattle.std.proofs.Common.{◌≡◌, ◌≢◌, ℕ, Bool, true, false, List, [], ◌∷◌, length, Some, None, refl, sym, subst, ◌∙◌, inl, inr, codes}
use Rattle.ipdl_base.specs.declared.finding.Place.{Place}
use Rattle.ipdl_base.specs.declared.token.Token.{Token}
use Rattle.ipdl_syntax.specs.declared.tree.IncludeKind.TheVariants as include_kind
use Rattle.ipdl_syntax.specs.Grammar.{included}
use Rattle.ipdl_syntax.specs.Parts.{Part, either, nothing, reserved, identifier}
use Rattle.tree_reader.specs.declared.refusal.TreeRefusal.{TreeRefusal}
use Rattle.tree_reader.specs.declared.refusal.TreeRefusal.TheVariants.{Left}
use Rattle.tree_reader.specs.declared.symbol.Symbol.{Symbol}
use Rattle.tree_reader.specs.declared.symbol.Symbol.TheVariants.{Colons, Less, Class, Struct, From, Protocol, Word, Quoted, Semicolon}
use Rattle.tree_reader.specs.Symbols.{first_symbol}
use Rattle.tree_reader.specs.Machine.{Form, following, production, take, argument_name, using_named, using_word, after_using, include_named}
use Rattle.tree_reader.specs.Reading.{Turns, Stops, IsNext, IsNextAt, IsNextText, IsNaming, MayHaveArgument}
use Rattle.tree_reader.proofs.Symbols.{means}
use Rattle.tree_reader.proofs.Tokens.{is_identifier, next_word}
use Rattle.tree_reader.proofs.Turns.{split_turn, turn, turns, turn_before, refused, same_turn, stops_after, stops_before, is_spelled}
use Rattle.tree_reader.proofs.FieldForms.{IsUntaken}

-- Usings

-- the word before the name of a using, if there is one
abbrev pub kind_part : Part
kind_part = either nothing (either (reserved (codes "class")) (reserved (codes "struct")))

-- `class` is one
pub class_read : (from to : List Token) → IsNext Class from to → kind_part from to
class_read from to is = inr (inl (is_spelled Class from to is))

-- the same of `struct`; if neither comes, there is no word
pub struct_read : (b : Bool) (from here to : List Token) → IsUntaken Class from here → (b ≡ true → IsNext Struct here to) → (b ≡ false → IsUntaken Struct here to) → kind_part from to
struct_read true from here to other has lacks =
    let P : List Token → Type 0 = λ x. IsNext Struct x to in
    inr (inr (is_spelled Struct from to (subst P other.1 (has refl))))
struct_read false from here to other has lacks = inl (sym other.1 ∙ sym (lacks refl).1)

-- after `class` the name comes
class_table : production using_named Class ≡ Some (using_word ∷ [])
unfolding production
class_table = refl

-- the same at `struct`
struct_table : production using_named Struct ≡ Some (using_word ∷ [])
unfolding production
struct_table = refl

-- at any other symbol, a using continues as from its name
bare_table : (s : Symbol) → s ≢ Class → s ≢ Struct → production using_named s ≡ production using_word s
unfolding production
bare_table Class c s = absurd (c refl)
bare_table Struct c s = absurd (s refl)
bare_table _ c s = refl

-- after `class` the name comes
pub class_turn : (from to : List Token) → IsNext Class from to → Turns (using_named ∷ []) from (using_word ∷ []) to
class_turn from to is = turn using_named Class (using_word ∷ []) from to is class_table

-- the same after `struct`, and if neither comes
pub struct_turn : (b : Bool) (from here to : List Token) → IsUntaken Class from here → (b ≡ true → IsNext Struct here to) → (b ≡ false → IsUntaken Struct here to) → Turns (using_named ∷ []) from (using_word ∷ []) to
struct_turn true from here to other has lacks =
    let P : List Token → Type 0 = λ x. IsNext Struct x to in
    turn using_named Struct (using_word ∷ []) from to (subst P other.1 (has refl)) struct_table
struct_turn false from here to other has lacks =
    let P : List Token → Type 0 = λ x. Turns (using_named ∷ []) from (using_word ∷ []) x in
    let Q : List Token → Type 0 = λ x. first_symbol x ≢ Struct in
    subst P (sym ((lacks refl).1 ∙ other.1)) (same_turn using_named using_word from (bare_table (first_symbol from) other.0 (subst Q other.1 (lacks refl).0)))

-- what follows the name of a using
abbrev pub file_forms : List Form
file_forms = take From ∷ take Quoted ∷ take Semicolon ∷ []

-- the name of a using begins with a word
word_table : (s : Symbol) → production using_word s ≡ following (production (take Word) s) (after_using ∷ [])
unfolding production
word_table Word = refl
word_table _ = refl

-- words may follow the first one
naming : IsNaming after_using
unfolding production
naming = refl

-- after `<` an argument comes, and then the file
argument_begins : production after_using Less ≡ Some (argument_name ∷ file_forms)
unfolding production
argument_begins = refl

-- if neither more words nor an argument come, `from` comes
file_table : (s : Symbol) → s ≢ Colons → s ≢ Less → production after_using s ≡ following (production (take From) s) (take Quoted ∷ take Semicolon ∷ [])
unfolding production
file_table Colons c l = absurd (c refl)
file_table Less c l = absurd (l refl)
file_table From c l = refl
file_table _ c l = refl

-- so an argument may come there
may_have_argument : MayHaveArgument after_using file_forms
may_have_argument = (argument_begins, λ tokens c l. split_turn after_using (take From) (take Quoted ∷ take Semicolon ∷ []) tokens (file_table (first_symbol tokens) c l))

-- after the word before it, the name comes
word_turn : (from here : List Token) → Turns (using_named ∷ []) from (using_word ∷ []) here → Turns (using_named ∷ []) from (take Word ∷ after_using ∷ []) here
word_turn from here one =
    turns (using_named ∷ []) (using_word ∷ []) (take Word ∷ after_using ∷ []) from here here one (split_turn using_word (take Word) (after_using ∷ []) here (word_table (first_symbol here)))

-- a name with its argument leads to the file
pub using_turn : (from here to : List Token) → Turns (using_named ∷ []) from (using_word ∷ []) here →
    ((f : Form) (others : List Form) → IsNaming f → MayHaveArgument f others → Turns (take Word ∷ f ∷ []) here others to) → Turns (using_named ∷ []) from file_forms to
using_turn from here to one name =
    turns (using_named ∷ []) (take Word ∷ after_using ∷ []) file_forms from here to (word_turn from here one) (name after_using file_forms naming may_have_argument)

-- a refused name
pub using_stops : (from here : List Token) (e : TreeRefusal) → Turns (using_named ∷ []) from (using_word ∷ []) here →
    ((f : Form) (others : List Form) → IsNaming f → MayHaveArgument f others → Stops (take Word ∷ f ∷ []) here e) → Stops (using_named ∷ []) from e
using_stops from here e one name =
    stops_after (using_named ∷ []) (take Word ∷ after_using ∷ []) from here e (word_turn from here one) (name after_using file_forms naming may_have_argument)

-- Includes

-- a token at its place, whose symbol is known
pub next_at : (s one : Symbol) (place : Place) (from to : List Token) → s ≡ one → IsNextAt s place from to → IsNext one from to
next_at s one place from to e (t, here, (is, at)) = (t, here, is ∙ e)

-- `protocol` and a name
pub protocol_read : (name : List ℕ) (place : Place) (from here to : List Token) → IsNext Protocol from here → identifier name place here to → included include_kind.Protocol name place from to
protocol_read name place from here to is word = (here, is_spelled Protocol from here is, word)

-- after `protocol` a word and the semicolon come
protocol_table : production include_named Protocol ≡ Some (take Word ∷ take Semicolon ∷ [])
unfolding production
protocol_table = refl

-- the machine there
protocol_begins : (from here : List Token) → IsNext Protocol from here → Turns (include_named ∷ []) from (take Word ∷ take Semicolon ∷ []) here
protocol_begins from here is = turn include_named Protocol (take Word ∷ take Semicolon ∷ []) from here is protocol_table

-- the name after `protocol` leads to the semicolon
pub protocol_turn : (from here to : List Token) → IsNext Protocol from here → Turns (take Word ∷ []) here [] to → Turns (include_named ∷ []) from (take Semicolon ∷ []) to
protocol_turn from here to is word =
    turns (include_named ∷ []) (take Word ∷ take Semicolon ∷ []) (take Semicolon ∷ []) from here to (protocol_begins from here is) (turn_before (take Word ∷ []) [] (take Semicolon ∷ []) here to word)

-- a refused name after `protocol`
pub protocol_stops : (from here : List Token) (e : TreeRefusal) → IsNext Protocol from here → Stops (take Word ∷ []) here e → Stops (include_named ∷ []) from e
protocol_stops from here e is word =
    stops_after (include_named ∷ []) (take Word ∷ take Semicolon ∷ []) from here e (protocol_begins from here is) (stops_before (take Word ∷ []) (take Semicolon ∷ []) here e word)

-- a name of a header
pub header_read : (s : Symbol) (name : List ℕ) (place : Place) (from to : List Token) → s ≡ Word → IsNextText s name place from to → included include_kind.Header name place from to
header_read s name place from to e word = is_identifier s name place from to e word

-- after a word the semicolon comes
header_table : production include_named Word ≡ Some (take Semicolon ∷ [])
unfolding production
header_table = refl

-- the name of a header leads to the semicolon
pub header_turn : (s : Symbol) (name : List ℕ) (place : Place) (from to : List Token) → s ≡ Word → IsNextText s name place from to → Turns (include_named ∷ []) from (take Semicolon ∷ []) to
header_turn s name place from to e word = turn include_named Word (take Semicolon ∷ []) from to (next_word s Word name place from to e word) header_table

-- a quoted name
pub quoted_read : (s : Symbol) (name : List ℕ) (place : Place) (from to : List Token) → s ≡ Quoted → IsNextText s name place from to → included include_kind.Quoted name place from to
quoted_read s name place from to e (t, here, (is, text, at)) = (t, here, (means t Quoted (is ∙ e), text, at))

-- after a quoted name the semicolon comes
quoted_table : production include_named Quoted ≡ Some (take Semicolon ∷ [])
unfolding production
quoted_table = refl

-- a quoted name leads to the semicolon
pub quoted_turn : (s : Symbol) (name : List ℕ) (place : Place) (from to : List Token) → s ≡ Quoted → IsNextText s name place from to → Turns (include_named ∷ []) from (take Semicolon ∷ []) to
quoted_turn s name place from to e text = turn include_named Quoted (take Semicolon ∷ []) from to (next_word s Quoted name place from to e text) quoted_table

-- an include names nothing else
other_table : (s : Symbol) → s ≢ Protocol → s ≢ Word → s ≢ Quoted → production include_named s ≡ None
unfolding production
other_table Protocol p w q = absurd (p refl)
other_table Word p w q = absurd (w refl)
other_table Quoted p w q = absurd (q refl)
other_table _ p w q = refl

-- anything else is refused
pub include_stops : (from : List Token) (e : TreeRefusal) → first_symbol from ≢ Protocol → first_symbol from ≢ Word → first_symbol from ≢ Quoted → e ≡ Left (length from) → Stops (include_named ∷ []) from e
include_stops from e p w q is = refused include_named from e (other_table (first_symbol from) p w q) is
