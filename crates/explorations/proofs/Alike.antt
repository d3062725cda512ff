-- Being alike is an equivalence of points.
use Rattle.std.proofs.Common.{refl, sym, ◌∙◌}
use Rattle.explorations.specs.Words.{AreAlike, Point}

pub alike_itself : (point : Point) → AreAlike point point
alike_itself point = record { lines = λ side. refl; spent = refl }

pub alike_back : (one other : Point) → AreAlike one other → AreAlike other one
alike_back one other a = record { lines = λ side. sym (a.lines side); spent = sym a.spent }

pub alike_on : (one two three : Point) → AreAlike one two → AreAlike two three → AreAlike one three
alike_on one two three a b = record { lines = λ side. a.lines side ∙ b.lines side; spent = a.spent ∙ b.spent }
