-- Both ends: what one line adds to what each printed.
use Rattle.std.proofs.Common.{◌≡◌, List, [], ◌∷◌, ◌++◌, Some, None, refl, ap, ◌∙◌}
use Rattle.ipdl_base.specs.declared.kinds.Side.{Side}
use Rattle.ipdl_base.specs.declared.kinds.Side.TheVariants as side
use Rattle.ipdl_base.specs.declared.line.Line.{Line}
use Rattle.ipdl_base.specs.declared.line.What.{What}
use Rattle.history_reading.specs.Reading.{Reading, end_reading_of, other_of}
use Rattle.ipdl_base.specs.Sides.{other}
use Rattle.law_statements.specs.Said.{line_of, said_by, said_in}
use Rattle.law_statements.proofs.Lists.{add, filter-add}

pub other-read : (end : Side) (r : Reading) → other_of end r ≡ end_reading_of (other end) r
other-read side.Parent r = refl
other-read side.Child r = refl

own-line : (end : Side) (w : What) → said_in end (line_of end w) ≡ Some w
own-line side.Parent w = refl
own-line side.Child w = refl

other-line : (end : Side) (w : What) → said_in (other end) (line_of end w) ≡ None
other-line side.Parent w = refl
other-line side.Child w = refl

pub said-own : (end : Side) (before : List Line) (w : What) → said_by end (before ++ line_of end w ∷ []) ≡ said_by end before ++ w ∷ []
said-own end before w = filter-add (said_in end) before (line_of end w) ∙ ap (add (said_by end before)) (own-line end w)

pub said-other : (end : Side) (before : List Line) (w : What) → said_by (other end) (before ++ line_of end w ∷ []) ≡ said_by (other end) before
said-other end before w = filter-add (said_in (other end)) before (line_of end w) ∙ ap (add (said_by (other end) before)) (other-line end w)
