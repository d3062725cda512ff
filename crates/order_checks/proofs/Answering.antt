-- One line more adds the number that it answers to those of its end.
use Rattle.std.proofs.Common.{◌≡◌, ℤ, Bool, true, false, if◌then◌else◌, List, [], ◌∷◌, ◌++◌, Option, Some, None, refl, sym, ap, ◌∙◌}
use Rattle.ipdl_base.specs.declared.kinds.Side.{Side}
use Rattle.ipdl_base.specs.declared.line.Line.{Line}
use Rattle.ipdl_base.specs.Lines.{same_side}
use Rattle.law_statements.specs.Said.{said_by}
use Rattle.law_statements.proofs.Lists.{add, filter-add}
use Rattle.law_statements.proofs.Stacks.{if-same}
use Rattle.order_statements.specs.Shape.{answered, number_answered}
use Rattle.order_checks.proofs.Said.{said-more}

-- what it has answered
answered-more : (end : Side) (lines : List Line) (line : Line)
    → answered (said_by end (lines ++ line ∷ [])) ≡ (if same_side line.side end then add (answered (said_by end lines)) (number_answered line.what) else answered (said_by end lines))
answered-more end lines line = ap answered (said-more end lines line) ∙ by (same_side line.side end)
  where
    by : (b : Bool) → answered (if b then said_by end lines ++ line.what ∷ [] else said_by end lines) ≡ (if b then add (answered (said_by end lines)) (number_answered line.what) else answered (said_by end lines))
    by true = filter-add number_answered (said_by end lines) line.what
    by false = refl

-- where the line answers none, and where it answers one
pub answered-same : (end : Side) (lines : List Line) (line : Line) → number_answered line.what ≡ None → answered (said_by end (lines ++ line ∷ [])) ≡ answered (said_by end lines)
answered-same end lines line e =
    answered-more end lines line ∙ ap (λ (o : Option ℤ). if same_side line.side end then add (answered (said_by end lines)) o else answered (said_by end lines)) e ∙ if-same (same_side line.side end) (answered (said_by end lines))

pub answered-with : (end : Side) (lines : List Line) (line : Line) (n : ℤ) (old new : List ℤ) → number_answered line.what ≡ Some n → old ≡ answered (said_by end lines)
    → new ≡ (if same_side line.side end then old ++ n ∷ [] else old) → new ≡ answered (said_by end (lines ++ line ∷ []))
answered-with end lines line n old new e was now =
    now ∙ ap (λ (xs : List ℤ). if same_side line.side end then xs ++ n ∷ [] else xs) was
    ∙ sym (answered-more end lines line ∙ ap (λ (o : Option ℤ). if same_side line.side end then add (answered (said_by end lines)) o else answered (said_by end lines)) e)
