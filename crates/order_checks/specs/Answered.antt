-- The requests that each end has answered, as the code keeps them.
use Rattle.std.specs.Prelude.{◌≡◌, ℤ, if◌then◌else◌, List, [], ◌∷◌, ◌++◌}
use Rattle.ipdl_base.specs.declared.kinds.Side.{Side}
use Rattle.ipdl_base.specs.declared.kinds.Side.TheVariants as side
use Rattle.ipdl_base.specs.declared.line.Line.{Line}
use Rattle.ipdl_base.specs.Lines.{same_side}
use Rattle.law_statements.specs.Said.{said_by}
use Rattle.order_statements.specs.Shape.{answered}
use Rattle.order_checks.specs.declared.answered.AnsweredNumbers.{AnsweredNumbers}

abbrev pub numbers_of : Side → AnsweredNumbers → List ℤ
numbers_of side.Parent a = a.parent
numbers_of side.Child a = a.child

-- they are those that each end has answered in some lines
abbrev pub AreAnswered : List Line → AnsweredNumbers → Type 0
AreAnswered lines a = (end : Side) → numbers_of end a ≡ answered (said_by end lines)

-- one end has answered one more
abbrev pub AnswersOne : Side → ℤ → AnsweredNumbers → AnsweredNumbers → Type 0
AnswersOne side n old new = (end : Side) → numbers_of end new ≡ (if same_side side end then numbers_of end old ++ n ∷ [] else numbers_of end old)
