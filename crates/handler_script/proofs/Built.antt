-- How a script is built from lines.
use Rattle.std.proofs.Common.{◌≡◌, ℕ, ◌+◌, ◌<◌, Bool, false, not, List, ◌∷◌, length, drop, get_or, Option, Some, None, [], ◌++◌, refl, sym, ap, ◌∙◌}
use Rattle.std.specs.Prelude.{◌↔◌, IsTrue}
use Rattle.std.specs.List.{cons_option}
use Rattle.std.proofs.lemmas.Bool.{not-true, not_from_false}
use Rattle.std.proofs.lemmas.List.{drop_more}
use Rattle.std.proofs.lemmas.List.Elements.{filter_map-append}
use Rattle.script_reader.specs.declared.line.LineReading.{LineReading}
use Rattle.script_reader.specs.declared.statement.Statement.{Statement}
use Rattle.handler_script.specs.Blocks.{said, statements}
use Rattle.handler_script.specs.Building.{listed}

-- what is left at an index is the line there and those after it
pub drop_item : {X : Type 0} (xs : List X) (i : ℕ) (x : X) → i < length xs → x ≡ get_or xs i x → drop i xs ≡ x ∷ drop (i + 1) xs
drop_item xs i x lt is = drop_more xs i x lt ∙ ap (λ y. y ∷ drop (i + 1) xs) (sym is)

-- the statements from an index on, if the line there has this statement, or has no statement
pub statements_from : (lines : List LineReading) (i : ℕ) (x : LineReading) (said_there : Option Statement) → i < length lines → x ≡ get_or lines i x → said x ≡ said_there → statements (drop i lines) ≡ cons_option said_there (statements (drop (i + 1) lines))
statements_from lines i x o lt is e = ap statements (drop_item lines i x lt is) ∙ ap (λ (s : Option Statement). cons_option s (statements (drop (i + 1) lines))) e

pub not_is : (b : Bool) → IsTrue (not b) ↔ (b ≡ false)
not_is b = (not-true b, not_from_false b)

-- the statements of lines, after one more
pub said_last : (before : List LineReading) (x : LineReading) → statements (before ++ x ∷ []) ≡ statements before ++ listed (said x)
said_last before x = filter_map-append said before (x ∷ []) ∙ ap (λ (ss : List Statement). statements before ++ ss) (as_listed (said x))
  where
    as_listed : (o : Option Statement) → cons_option o [] ≡ listed o
    as_listed None = refl
    as_listed (Some s) = refl
