-- The text of a summary of a history.
use Rattle.std.specs.Prelude.{ℕ, List, ◌++◌, codes}
use Rattle.std.specs.Fmt.{decimal}
use Rattle.generated_case.specs.declared.counts.Counts.{Counts}

-- the line of a count
abbrev pub count_line : List ℕ → ℕ → List ℕ
count_line name count = name ++ codes " " ++ decimal count ++ codes "\n"

-- the line with the numbers that a case was made from
abbrev pub heading : ℕ → ℕ → List ℕ
heading rounds actors = codes "gen " ++ decimal rounds ++ codes " actors " ++ decimal actors ++ codes "\n"

-- a line for each count
abbrev pub count_lines : Counts → List ℕ
count_lines counts =
    count_line (codes "parent steps") counts.parent_steps ++ count_line (codes "child steps") counts.child_steps ++ count_line (codes "taken") counts.taken ++ count_line (codes "dropped") counts.dropped
    ++ count_line (codes "replaced") counts.replaced ++ count_line (codes "settled") counts.settled ++ count_line (codes "built") counts.built ++ count_line (codes "fallen") counts.fallen

abbrev pub summary_text : ℕ → ℕ → Counts → List ℕ
summary_text rounds actors counts = heading rounds actors ++ count_lines counts
