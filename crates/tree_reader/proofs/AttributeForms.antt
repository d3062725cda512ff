-- How attributes are composed, and how the machine goes over them.
use Rattle.std.proofs.Common.{◌≡◌, ◌≢◌, ℕ, List, [], ◌∷◌, ◌++◌, Some, Result, IfOk, OnOk, IfErr, codes, refl, append_assoc}
use Rattle.std.proofs.lemmas.List.{append-nil}
use Rattle.ipdl_base.specs.declared.token.Token.{Token}
use Rattle.ipdl_syntax.specs.declared.tree.Attribute.{Attribute}
use Rattle.ipdl_syntax.specs.Parts.{Part, ◌⨾◌, mark}
use Rattle.ipdl_syntax.specs.Grammar.{value, attribute, more_attributes, attributes}
use Rattle.tree_reader.specs.declared.refusal.TreeRefusal.{TreeRefusal}
use Rattle.tree_reader.specs.declared.symbol.Symbol.{Symbol}
use Rattle.tree_reader.specs.declared.symbol.Symbol.TheVariants.{Word, Comma, Equals, OpenBracket, CloseBracket}
use Rattle.tree_reader.specs.Spelling.{spelled}
use Rattle.tree_reader.specs.Symbols.{first_symbol}
use Rattle.tree_reader.specs.Machine.{Form, following as before_others, take, any_word, attributed, after_attribute, more_attributed, production}
use Rattle.tree_reader.specs.Reading.{Turns, Stops, IsNext, IsAnyWord, IsBracketed, MayBeHeaded}
use Rattle.tree_reader.proofs.Turns.{is_spelled, turn, same_turn, turns, split_turn, past, past_turn, past_stops, stops_after, stops_before}
use Rattle.std.proofs.lemmas.Result.{on_ok_weaker, IfOk-weaker, IfErr-weaker}

-- an equals sign after an attribute's name
equals_turn : production after_attribute Equals ≡ Some (any_word ∷ more_attributed ∷ [])
unfolding production
equals_turn = refl

-- without an equals sign the name of an attribute leads on as the whole attribute does
no_equals : (s : Symbol) → s ≢ Equals → production after_attribute s ≡ production more_attributed s
unfolding production
no_equals Equals n = absurd (n refl)
no_equals _ n = refl

-- an equals sign, and the value after it
pub value_read : (text : List ℕ) (from following to : List Token) → IsNext Equals from following → IsAnyWord text following to → value (Some text) from to
value_read text from following to here read = (following, is_spelled Equals from following here, read)

-- the machine goes over it to what follows an attribute
pub value_turns : (from following to : List Token) → IsNext Equals from following → Turns (any_word ∷ []) following [] to → Turns (after_attribute ∷ []) from (more_attributed ∷ []) to
value_turns from following to here read =
    turns (after_attribute ∷ []) (any_word ∷ more_attributed ∷ []) (more_attributed ∷ []) from following to
    (turn after_attribute Equals (any_word ∷ more_attributed ∷ []) from following here equals_turn)
    (past any_word (more_attributed ∷ []) following to read)

-- the machine refuses where there is no value after it
pub value_stops : (from following : List Token) (e : TreeRefusal) → IsNext Equals from following → Stops (any_word ∷ []) following e → Stops (after_attribute ∷ []) from e
value_stops from following e here read =
    stops_after (after_attribute ∷ []) (any_word ∷ more_attributed ∷ []) from following e
    (turn after_attribute Equals (any_word ∷ more_attributed ∷ []) from following here equals_turn)
    (stops_before (any_word ∷ []) (more_attributed ∷ []) following e read)

-- no value
pub no_value_turns : (from to : List Token) → first_symbol from ≢ Equals → to ≡ from → Turns (after_attribute ∷ []) from (more_attributed ∷ []) to
no_value_turns from to n same = rw same (same_turn after_attribute more_attributed from (no_equals (first_symbol from) n))

-- an attribute is a word, and what follows its name
named_first : (s : Symbol) → production attributed s ≡ before_others (production (take Word) s) (after_attribute ∷ [])
unfolding production
named_first Word = refl
named_first _ = refl

-- the machine goes over an attribute: its name, and then its value
pub attribute_turns : (from following to : List Token) → Turns (take Word ∷ []) from [] following → Turns (after_attribute ∷ []) following (more_attributed ∷ []) to → Turns (attributed ∷ []) from (more_attributed ∷ []) to
attribute_turns from following to name value =
    turns (attributed ∷ []) (take Word ∷ after_attribute ∷ []) (more_attributed ∷ []) from from to
    (split_turn attributed (take Word) (after_attribute ∷ []) from (named_first (first_symbol from)))
    (past_turn (take Word) (after_attribute ∷ []) (more_attributed ∷ []) from following to name value)

-- no name
pub unnamed_stops : (from : List Token) (e : TreeRefusal) → Stops (take Word ∷ []) from e → Stops (attributed ∷ []) from e
unnamed_stops from e name =
    stops_after (attributed ∷ []) (take Word ∷ after_attribute ∷ []) from from e
    (split_turn attributed (take Word) (after_attribute ∷ []) from (named_first (first_symbol from)))
    (stops_before (take Word ∷ []) (after_attribute ∷ []) from e name)

-- a name, and a refusal after it
pub attribute_stops : (from following : List Token) (e : TreeRefusal) → Turns (take Word ∷ []) from [] following → Stops (after_attribute ∷ []) following e → Stops (attributed ∷ []) from e
attribute_stops from following e name value =
    stops_after (attributed ∷ []) (take Word ∷ after_attribute ∷ []) from from e
    (split_turn attributed (take Word) (after_attribute ∷ []) from (named_first (first_symbol from)))
    (past_stops (take Word) (after_attribute ∷ []) from following e name value)

-- a comma and a bracket after an attribute
comma_turn : production more_attributed Comma ≡ Some (attributed ∷ [])
unfolding production
comma_turn = refl

-- without a comma the bracket must close
no_comma : (s : Symbol) → s ≢ Comma → production more_attributed s ≡ production (take CloseBracket) s
unfolding production
no_comma Comma n = absurd (n refl)
no_comma CloseBracket n = refl
no_comma _ n = refl

-- more attributes to the closing bracket
abbrev pub to_bracket : List Attribute → Part
to_bracket more = more_attributes more ⨾ mark (codes "]")

-- whatever follows from here makes attributes together with those so far
abbrev pub GoesOn : List Attribute → List Token → List Token → Type 0
GoesOn so_far start from = (more : List Attribute) (to : List Token) → to_bracket more from to → IsBracketed (so_far ++ more) start to

-- one more attribute
pub next_goes_on : (a : Attribute) (old new : List Attribute) (start from following middle : List Token) → new ≡ old ++ a ∷ [] → IsNext Comma from following → attribute a following middle → GoesOn old start from → GoesOn new start middle
next_goes_on a old new start from following middle is here read before = λ more to rest.
    rw (is, append_assoc) (before (a ∷ more) to (rest.0, (following, is_spelled Comma from following here, (middle, read, rest.1)), rest.2))

-- the closing bracket
pub bracketed_read : (all old : List Attribute) (start from middle to : List Token) → all ≡ old → middle ≡ from → spelled CloseBracket middle to → GoesOn old start from → IsBracketed all start to
bracketed_read all old start from middle to is same close before = rw (is, ← append-nil old) (before [] to (from, refl, rw same at close))

-- a comma leads on to an attribute
pub next_turns : (start from following : List Token) → Turns (attributed ∷ []) start (more_attributed ∷ []) from → IsNext Comma from following → Turns (attributed ∷ []) start (attributed ∷ []) following
next_turns start from following before here =
    turns (attributed ∷ []) (more_attributed ∷ []) (attributed ∷ []) start from following before
    (turn more_attributed Comma (attributed ∷ []) from following here comma_turn)

-- anything else must be the closing bracket
pub last_turns : (start from to : List Token) → Turns (attributed ∷ []) start (more_attributed ∷ []) from → first_symbol from ≢ Comma → to ≡ from → Turns (attributed ∷ []) start (take CloseBracket ∷ []) to
last_turns start from to before n same =
    rw same (turns (attributed ∷ []) (more_attributed ∷ []) (take CloseBracket ∷ []) start from from before
    (same_turn more_attributed (take CloseBracket) from (no_comma (first_symbol from) n)))

-- attributes after their opening bracket, and this bracket
headed_one : (all : List Attribute) (from following to : List Token) → IsNext OpenBracket from following → IsBracketed all following to → attributes all from to
headed_one [] from following to here read = absurd read
headed_one (a ∷ rest) from following to here read = (following, is_spelled OpenBracket from following here, read)

-- the same of the result of a reader
pub headed_read : (r : Result (List Attribute) TreeRefusal) (from following to : List Token) → IsNext OpenBracket from following → IfOk r (λ all. IsBracketed all following to) → IfOk r (λ all. attributes all from to)
headed_read r from following to here read =
    IfOk-weaker r (λ all. IsBracketed all following to) (λ all. attributes all from to) (λ all one. headed_one all from following to here one) read

-- the opening bracket, where attributes may come
headed_turn : (f : Form) (others : List Form) (from following : List Token) → IsNext OpenBracket from following → MayBeHeaded f others from → Turns (f ∷ []) from (attributed ∷ others) following
headed_turn f others from following here may = turn f OpenBracket (attributed ∷ others) from following here may.0

-- after the bracket the machine goes over the attributes
pub headed_turns : {T : Type 0} (r : Result T TreeRefusal) (from following to : List Token) → IsNext OpenBracket from following → OnOk r (Turns (attributed ∷ []) following [] to) → OnOk r ((f : Form) (others : List Form) → MayBeHeaded f others from → Turns (f ∷ []) from others to)
headed_turns r from following to here read =
    on_ok_weaker {P = Turns (attributed ∷ []) following [] to} {Q = (f : Form) (others : List Form) → MayBeHeaded f others from → Turns (f ∷ []) from others to} r
    (λ one f others may. turns (f ∷ []) (attributed ∷ others) others from following to (headed_turn f others from following here may) (past attributed others following to one))
    read

-- the machine refuses where the attributes are refused
pub headed_stops : {T : Type 0} (r : Result T TreeRefusal) (from following : List Token) → IsNext OpenBracket from following → IfErr r (Stops (attributed ∷ []) following) → IfErr r (λ e. (f : Form) (others : List Form) → MayBeHeaded f others from → Stops (f ∷ []) from e)
headed_stops r from following here read =
    IfErr-weaker r (λ e. Stops (attributed ∷ []) following e) (λ e. (f : Form) (others : List Form) → MayBeHeaded f others from → Stops (f ∷ []) from e)
    (λ e one f others may.
    stops_after (f ∷ []) (attributed ∷ others) from following e (headed_turn f others from following here may) (stops_before (attributed ∷ []) others following e one))
    read
