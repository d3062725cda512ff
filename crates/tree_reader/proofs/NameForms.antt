-- How names are composed, and how the machine goes over them.
use Rattle.std.proofs.Common.{◌≡◌, ◌≢◌, ℕ, List, [], ◌∷◌, ◌++◌, Some, Result, IfErr, IsErrAnd, codes, refl, subst, ◌∙◌, append_assoc}
use Rattle.ipdl_base.specs.Words.{joined}
use Rattle.ipdl_base.specs.declared.finding.Place.{Place}
use Rattle.ipdl_base.specs.declared.token.Token.{Token}
use Rattle.ipdl_syntax.specs.Parts.{◌⨾◌, mark, word, identifier}
use Rattle.ipdl_syntax.specs.Grammar.{qualified, argument}
use Rattle.tree_reader.specs.declared.refusal.TreeRefusal.{TreeRefusal}
use Rattle.tree_reader.specs.declared.symbol.Symbol.{Symbol}
use Rattle.tree_reader.specs.declared.symbol.Symbol.TheVariants.{Word, Colons, Less, Greater}
use Rattle.tree_reader.specs.Symbols.{first_symbol}
use Rattle.tree_reader.specs.Machine.{Form, following as before_others, take, argument_name, argument_words, production}
use Rattle.tree_reader.specs.Reading.{Turns, Stops, IsNext, AddsWords, IsNaming, MayHaveArgument}
use Rattle.tree_reader.proofs.Turns.{is_spelled, turn, same_turn, turns, split_turn, past, stops_after, stops_before, thrown}

-- whatever adds words to the text here adds words to the text at the start
abbrev pub WordsGoOn : List ℕ → List ℕ → List Token → List Token → Type 0
WordsGoOn first text start from = (new : List ℕ) (to : List Token) → AddsWords text new from to → AddsWords first new start to

-- a text with a word after it is what its words are joined to
join_step : (text word : List ℕ) (ws : List (List ℕ)) → joined (((text ++ 58 ∷ 58 ∷ []) ++ word) ∷ ws) ≡ joined (text ∷ word ∷ ws)
join_step text word [] = append_assoc text (58 ∷ 58 ∷ []) word
join_step text word (v ∷ vs) = append_assoc (text ++ 58 ∷ 58 ∷ []) word (58 ∷ 58 ∷ joined (v ∷ vs)) ∙ append_assoc text (58 ∷ 58 ∷ []) (word ++ 58 ∷ 58 ∷ joined (v ∷ vs))

-- an identifier is a word, whatever its place
word_of : (name : List ℕ) (place : Place) (from to : List Token) → identifier name place from to → word name from to
word_of name place from to (t, is, (kind, text, here)) = (t, is, (kind, text))

-- `::` and a word before more words
add_word : (text name new : List ℕ) (place : Place) (from following middle to : List Token) → IsNext Colons from following → identifier name place following middle → AddsWords ((text ++ codes "::") ++ name) new middle to → AddsWords text new from to
add_word text name new place from following middle to here read (ws, is, rest) =
    (name ∷ ws, is ∙ join_step text name ws, (following, is_spelled Colons from following here, (middle, word_of name place following middle read, rest)))

-- one more word
pub word_goes_on : (first old half new name text : List ℕ) (place : Place) (start from following middle : List Token) → half ≡ old ++ codes "::" → new ≡ half ++ text → text ≡ name → IsNext Colons from following → identifier name place following middle → WordsGoOn first old start from → WordsGoOn first new start middle
word_goes_on first old half new name text place start from following middle one two same here read before = λ all to rest.
    let is : new ≡ (old ++ codes "::") ++ name = cc in
    before all to (add_word old name all place from following middle to here read (subst (λ (x : List ℕ). AddsWords x all middle to) is rest))

-- `::` leads on to a word, and then to the same form
colons_turn : (f : Form) (from following : List Token) → IsNaming f → IsNext Colons from following → Turns (f ∷ []) from (take Word ∷ f ∷ []) following
colons_turn f from following is here = turn f Colons (take Word ∷ f ∷ []) from following here is

-- so far the machine is on the same form
abbrev pub StaysOn : List Token → List Token → Type 0
StaysOn start from = (f : Form) → IsNaming f → Turns (f ∷ []) start (f ∷ []) from

-- one more word, and the same form again
pub word_stays_on : (start from following to : List Token) → StaysOn start from → IsNext Colons from following → Turns (take Word ∷ []) following [] to → StaysOn start to
word_stays_on start from following to before here read f is =
    turns (f ∷ []) (f ∷ []) (f ∷ []) start from to (before f is)
    (turns (f ∷ []) (take Word ∷ f ∷ []) (f ∷ []) from following to (colons_turn f from following is here) (past (take Word) (f ∷ []) following to read))

-- no word after `::`
pub word_stops : {T : Type 0} (r : Result T TreeRefusal) (e : TreeRefusal) (start from following : List Token) → IsErrAnd r (λ x. x ≡ e) → StaysOn start from → IsNext Colons from following → Stops (take Word ∷ []) following e → IfErr r (λ x. (f : Form) → IsNaming f → Stops (f ∷ []) start x)
word_stops r e start from following is_err before here read =
    thrown r e (λ x. (f : Form) → IsNaming f → Stops (f ∷ []) start x) is_err
    (λ f is. stops_after (f ∷ []) (f ∷ []) start from e (before f is)
    (stops_after (f ∷ []) (take Word ∷ f ∷ []) from following e (colons_turn f from following is here) (stops_before (take Word ∷ []) (f ∷ []) following e read)))

-- The argument of a name is a word and what follows it, ..
argument_first : (s : Symbol) → production argument_name s ≡ before_others (production (take Word) s) (argument_words ∷ [])
unfolding production
argument_first Word = refl
argument_first _ = refl

-- .. where more words may follow, ..
argument_naming : IsNaming argument_words
unfolding production
argument_naming = refl

-- .. and then a `>`.
argument_last : (s : Symbol) → s ≢ Colons → production argument_words s ≡ production (take Greater) s
unfolding production
argument_last Colons n = absurd (n refl)
argument_last Greater n = refl
argument_last _ n = refl

-- a name with its words before the form after it
abbrev pub NameTurns : List Token → List Token → Type 0
NameTurns from to = (f : Form) → IsNaming f → Turns (take Word ∷ f ∷ []) from (f ∷ []) to

-- an argument turns into its first word and what follows it
argument_begins : (from : List Token) → Turns (argument_name ∷ []) from (take Word ∷ argument_words ∷ []) from
argument_begins from = split_turn argument_name (take Word) (argument_words ∷ []) from (argument_first (first_symbol from))

-- no name in an argument
pub argument_unnamed : (from : List Token) (e : TreeRefusal) → ((f : Form) → IsNaming f → Stops (take Word ∷ f ∷ []) from e) → Stops (argument_name ∷ []) from e
argument_unnamed from e name = stops_after (argument_name ∷ []) (take Word ∷ argument_words ∷ []) from from e (argument_begins from) (name argument_words argument_naming)

-- a name, and then the `>` must come
pub argument_named : (from to : List Token) → NameTurns from to → first_symbol to ≢ Colons → Turns (argument_name ∷ []) from (take Greater ∷ []) to
argument_named from to name n =
    turns (argument_name ∷ []) (take Word ∷ argument_words ∷ []) (take Greater ∷ []) from from to (argument_begins from)
    (turns (take Word ∷ argument_words ∷ []) (argument_words ∷ []) (take Greater ∷ []) from to to (name argument_words argument_naming)
    (same_turn argument_words (take Greater) to (argument_last (first_symbol to) n)))

-- an argument after its `<`, and the `<`
pub argument_read : (name : List ℕ) (from following to : List Token) → IsNext Less from following → (qualified name ⨾ mark (codes ">")) following to → argument (Some name) from to
argument_read name from following to here read = (following, is_spelled Less from following here, read)

-- `<` leads on to the argument, and then to the other forms
less_turn : (f : Form) (others : List Form) (from following : List Token) → MayHaveArgument f others → IsNext Less from following → Turns (f ∷ []) from (argument_name ∷ others) following
less_turn f others from following may here = turn f Less (argument_name ∷ others) from following here may.0

-- the machine goes over `<` and the argument
pub argument_turns : (from following to : List Token) → IsNext Less from following → Turns (argument_name ∷ []) following [] to → (f : Form) (others : List Form) → MayHaveArgument f others → Turns (f ∷ []) from others to
argument_turns from following to here read f others may =
    turns (f ∷ []) (argument_name ∷ others) others from following to (less_turn f others from following may here) (past argument_name others following to read)

-- the machine refuses where the argument is refused
pub argument_stops : {T : Type 0} (r : Result T TreeRefusal) (e : TreeRefusal) (from following : List Token) → IsErrAnd r (λ x. x ≡ e) → IsNext Less from following → Stops (argument_name ∷ []) following e → IfErr r (λ x. (f : Form) (others : List Form) → MayHaveArgument f others → Stops (f ∷ []) from x)
argument_stops r e from following is_err here read =
    thrown r e (λ x. (f : Form) (others : List Form) → MayHaveArgument f others → Stops (f ∷ []) from x) is_err
    (λ f others may. stops_after (f ∷ []) (argument_name ∷ others) from following e (less_turn f others from following may here) (stops_before (argument_name ∷ []) others following e read))

-- a refusal after a name
pub named_stops : {T : Type 0} (r : Result T TreeRefusal) (e : TreeRefusal) (from middle : List Token) → IsErrAnd r (λ x. x ≡ e) → NameTurns from middle → ((f : Form) (others : List Form) → MayHaveArgument f others → Stops (f ∷ []) middle e) → IfErr r (λ x. (f : Form) (others : List Form) → IsNaming f → MayHaveArgument f others → Stops (take Word ∷ f ∷ []) from x)
named_stops r e from middle is_err name argument =
    thrown r e (λ x. (f : Form) (others : List Form) → IsNaming f → MayHaveArgument f others → Stops (take Word ∷ f ∷ []) from x) is_err
    (λ f others is may. stops_after (take Word ∷ f ∷ []) (f ∷ []) from middle e (name f is) (argument f others may))
