-- What follows from the definitions, for all files, words and paths.
use Rattle.std.specs.Prelude.{◌≡◌, ℕ, List}
use Rattle.include_graph.specs.Sources.{LoadInput}
use Rattle.include_graph.specs.Reach.{IsReach}

-- There is at most one reach.
abbrev pub OneReach : Type 0
OneReach = (given : LoadInput) (one other : List (List ℕ)) → IsReach given one → IsReach given other → one ≡ other
