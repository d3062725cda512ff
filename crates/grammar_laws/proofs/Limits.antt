-- The limits of a type.
use Rattle.std.proofs.Common.{ℕ, ◌-◌, ◌<◌, ◌≤◌, List, arith}
use Rattle.ipdl_base.specs.declared.token.Token.{Token}
use Rattle.ipdl_syntax.specs.declared.tree.Base.{Base, Named, Unique'}
use Rattle.ipdl_syntax.specs.Grammar.{base}
use Rattle.grammar_laws.specs.Laws.{depth, HasFewSuffixes, LimitsHold}

-- a base nests no deeper than there is room
base_limits : (b : Base) (room : ℕ) (from to : List Token) → base room b from to → (depth b ≤ room) × HasFewSuffixes b
base_limits (Named name inner) room from to p = (omega arith, tt)
base_limits (Unique' _ nullable inner after place) room from to p =
    let round = p.1.2.2.1 in
    let held = base_limits inner (room - 1) _ _ round.1.2.1.4 in
    let some : 0 < room = p.0 in
    let below : depth inner ≤ room - 1 = held.0 in
    (omega (arith, some, below), (round.0, held.1))

pub limits_hold : LimitsHold
limits_hold spec from to p =
    let held = base_limits spec.base 4 _ _ p.1.2.1.4 in
    record { suffixes = p.0; deep = held.0; inner = held.1 }
