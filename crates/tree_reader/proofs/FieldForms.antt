-- The fields and components of a declaration.
use Rattle.std.proofs.Common.{◌≡◌, ◌≢◌, List, [], ◌∷◌, ◌++◌, Some, refl, sym, subst, ◌∙◌, append_assoc, codes}
use Rattle.std.proofs.lemmas.List.{append-nil}
use Rattle.ipdl_base.specs.declared.token.Token.{Token}
use Rattle.ipdl_syntax.specs.declared.tree.Param.{Param}
use Rattle.ipdl_syntax.specs.declared.tree.TypeSpec.{TypeSpec}
use Rattle.ipdl_syntax.specs.Grammar.{type_spec, field, fields, components}
use Rattle.ipdl_syntax.specs.Parts.{◌⨾◌, mark}
use Rattle.tree_reader.specs.declared.refusal.TreeRefusal.{TreeRefusal}
use Rattle.tree_reader.specs.declared.symbol.Symbol.{Symbol}
use Rattle.tree_reader.specs.declared.symbol.Symbol.TheVariants.{CloseBrace, Semicolon}
use Rattle.tree_reader.specs.Ending as ending
use Rattle.tree_reader.specs.Symbols.{first_symbol}
use Rattle.tree_reader.specs.Machine.{Form, following, production, take, typed, fielded, componented}
use Rattle.tree_reader.specs.Reading.{Turns, Stops, IsNext, closed}
use Rattle.tree_reader.specs.Spelling.{spelled}
use Rattle.tree_reader.proofs.Turns.{split_turn, turn, turns, stops_before, stops_after, is_spelled}

-- The state of a reader that did not skip a token: there was another one, and nothing was taken.
abbrev pub IsUntaken : Symbol → List Token → List Token → Type 0
IsUntaken s from here = (first_symbol from ≢ s) × (here ≡ from)

-- Fields

-- one more field before those that follow
pub fields_more : (p : Param) (so_far more : List Param) (start from here middle to : List Token) → here ≡ from → field p here middle → fields more middle to → ((others : List Param) (end : List Token) → fields others from end → fields (so_far ++ others) start end) → fields ((so_far ++ p ∷ []) ++ more) start to
fields_more p so_far more start from here middle to is one rest before =
    let P : List Token → Type 0 = λ x. field p x middle in
    rw append_assoc (before (p ∷ more) to (middle, subst P is one, rest))

-- no more fields, and the end
pub fields_closed : (so_far : List Param) (start from here to : List Token) → IsNext CloseBrace from here → spelled Semicolon here to → ((others : List Param) (end : List Token) → fields others from end → fields (so_far ++ others) start end) → (fields so_far ⨾ closed) start to
fields_closed so_far start from here to brace stop before =
    (from, rw append-nil at (before [] from refl), (here, is_spelled CloseBrace from here brace, stop))

-- at any other symbol, a field begins as a type does
field_table : (s : Symbol) → s ≢ CloseBrace → production fielded s ≡ following (production (typed 4 ending.Name) s) (take Semicolon ∷ fielded ∷ [])
unfolding production
field_table CloseBrace n = absurd (n refl)
field_table _ n = refl

-- after the closing brace the semicolon comes
fielded_closes : production fielded CloseBrace ≡ Some (take Semicolon ∷ [])
unfolding production
fielded_closes = refl

-- where no closing brace comes, a field does
field_turn : (start from here : List Token) → IsUntaken CloseBrace from here → Turns (fielded ∷ []) start (fielded ∷ []) from → Turns (fielded ∷ []) start (typed 4 ending.Name ∷ take Semicolon ∷ fielded ∷ []) here
field_turn start from here (n, is) so_far =
    let P : List Token → Type 0 = λ x. Turns (fielded ∷ []) start (typed 4 ending.Name ∷ take Semicolon ∷ fielded ∷ []) x in
    subst P (sym is)
    (turns (fielded ∷ []) (fielded ∷ []) (typed 4 ending.Name ∷ take Semicolon ∷ fielded ∷ []) start from from so_far
    (split_turn fielded (typed 4 ending.Name) (take Semicolon ∷ fielded ∷ []) from (field_table (first_symbol from) n)))

-- one more field
pub field_turned : (start from here to : List Token) → IsUntaken CloseBrace from here → Turns (fielded ∷ []) start (fielded ∷ []) from → Turns (typed 4 ending.Name ∷ take Semicolon ∷ []) here [] to → Turns (fielded ∷ []) start (fielded ∷ []) to
field_turned start from here to other so_far one = λ more at. field_turn start from here other so_far more at ∙ one (fielded ∷ more) at

-- a refused field
pub field_stops : (start from here : List Token) (e : TreeRefusal) → IsUntaken CloseBrace from here → Turns (fielded ∷ []) start (fielded ∷ []) from → Stops (typed 4 ending.Name ∷ take Semicolon ∷ []) here e → Stops (fielded ∷ []) start e
field_stops start from here e other so_far one =
    stops_after (fielded ∷ []) (typed 4 ending.Name ∷ take Semicolon ∷ fielded ∷ []) start here e (field_turn start from here other so_far) (stops_before (typed 4 ending.Name ∷ take Semicolon ∷ []) (fielded ∷ []) here e one)

-- the end of the fields
pub fields_turn : (start from here : List Token) → IsNext CloseBrace from here → Turns (fielded ∷ []) start (fielded ∷ []) from → Turns (fielded ∷ []) start (take Semicolon ∷ []) here
fields_turn start from here brace so_far = turns (fielded ∷ []) (fielded ∷ []) (take Semicolon ∷ []) start from here so_far (turn fielded CloseBrace (take Semicolon ∷ []) from here brace fielded_closes)

-- Components

-- one more component before those that follow
pub components_more : (s : TypeSpec) (so_far more : List TypeSpec) (start from here middle to : List Token) → here ≡ from → (type_spec s ⨾ mark (codes ";")) here middle → components more middle to → ((others : List TypeSpec) (end : List Token) → components others from end → components (so_far ++ others) start end) → components ((so_far ++ s ∷ []) ++ more) start to
components_more s so_far more start from here middle to is (a, spec, stop) rest before =
    let P : List Token → Type 0 = λ x. type_spec s x a in
    rw append_assoc (before (s ∷ more) to (a, subst P is spec, (middle, stop, rest)))

-- no more components, and the end
pub components_closed : (so_far : List TypeSpec) (start from here to : List Token) → IsNext CloseBrace from here → spelled Semicolon here to → ((others : List TypeSpec) (end : List Token) → components others from end → components (so_far ++ others) start end) → (components so_far ⨾ closed) start to
components_closed so_far start from here to brace stop before =
    (from, rw append-nil at (before [] from refl), (here, is_spelled CloseBrace from here brace, stop))

-- at any other symbol, a component begins as a type does
component_table : (s : Symbol) → s ≢ CloseBrace → production componented s ≡ following (production (typed 4 ending.Semicolon) s) (componented ∷ [])
unfolding production
component_table CloseBrace n = absurd (n refl)
component_table _ n = refl

-- after the closing brace the semicolon comes
componented_closes : production componented CloseBrace ≡ Some (take Semicolon ∷ [])
unfolding production
componented_closes = refl

-- where no closing brace comes, a component does
component_turn : (forms : List Form) (start from here : List Token) → IsUntaken CloseBrace from here → Turns forms start (componented ∷ []) from → Turns forms start (typed 4 ending.Semicolon ∷ componented ∷ []) here
component_turn forms start from here (n, is) so_far =
    let P : List Token → Type 0 = λ x. Turns forms start (typed 4 ending.Semicolon ∷ componented ∷ []) x in
    subst P (sym is)
    (turns forms (componented ∷ []) (typed 4 ending.Semicolon ∷ componented ∷ []) start from from so_far
    (split_turn componented (typed 4 ending.Semicolon) (componented ∷ []) from (component_table (first_symbol from) n)))

-- one more component
pub component_turned : (forms : List Form) (start from here to : List Token) → IsUntaken CloseBrace from here → Turns forms start (componented ∷ []) from → Turns (typed 4 ending.Semicolon ∷ []) here [] to → Turns forms start (componented ∷ []) to
component_turned forms start from here to other so_far one = λ more at. component_turn forms start from here other so_far more at ∙ one (componented ∷ more) at

-- a refused component
pub component_stops : (forms : List Form) (start from here : List Token) (e : TreeRefusal) → IsUntaken CloseBrace from here → Turns forms start (componented ∷ []) from → Stops (typed 4 ending.Semicolon ∷ []) here e → Stops forms start e
component_stops forms start from here e other so_far one =
    stops_after forms (typed 4 ending.Semicolon ∷ componented ∷ []) start here e (component_turn forms start from here other so_far) (stops_before (typed 4 ending.Semicolon ∷ []) (componented ∷ []) here e one)

-- the end of the components
pub components_turn : (forms : List Form) (start from here : List Token) → IsNext CloseBrace from here → Turns forms start (componented ∷ []) from → Turns forms start (take Semicolon ∷ []) here
components_turn forms start from here brace so_far = turns forms (componented ∷ []) (take Semicolon ∷ []) start from here so_far (turn componented CloseBrace (take Semicolon ∷ []) from here brace componented_closes)

-- a list with one more element is not empty
pub more_is_some : {T : Type 0} (xs : List T) (x : T) → xs ++ x ∷ [] ≢ []
more_is_some [] x = λ e. cc
more_is_some (y ∷ ys) x = λ e. cc
