-- What is read from a text, and what follows if no rule is broken.
use Rattle.std.proofs.Common.{◌≡◌, ℕ, ◌+◌, ◌≤◌, List, [], ◌∷◌, length, map, refl, ap, arith}
use Rattle.std.proofs.lemmas.List.Splits.{length-slice_split}
use Rattle.std.proofs.lemmas.List.Sums.{count_by-le-length}
use Rattle.ipdl_base.specs.declared.finding.Finding.{Finding}
use Rattle.findings.specs.Report as report
use Rattle.script_reader.specs.declared.line.LineReading.{LineReading}
use Rattle.script_reader.specs.Lines.{is_line_feed, lines_of, AreRead, IsReading}
use Rattle.handler_script.specs.declared.action.Block.{Block}
use Rattle.handler_script.specs.declared.script.Script.{Script}
use Rattle.handler_script.specs.Plain.{plain_block, plain_script}

as_many : (lines : List (List ℕ)) (readings : List LineReading) → AreRead lines readings → length readings ≡ length lines
as_many [] [] h = refl
as_many [] (x ∷ rest) h = absurd h
as_many (l ∷ lines) [] h = absurd h
as_many (l ∷ lines) (x ∷ rest) h = let same = as_many lines rest h.1 in omega (arith, same)

-- a text has at most one line more than it has bytes
pub few_lines : (text : List ℕ) (readings : List LineReading) → IsReading text readings → length readings ≤ length text + 1
few_lines text readings h =
    let same = as_many (lines_of text) readings h in
    omega (arith, same, length-slice_split is_line_feed text, count_by-le-length is_line_feed text)

-- if a report is empty, nothing is broken
pub none_broken : {Broken : Finding → Type 0} (found : List Finding) → report.IsReport Broken found → length found ≡ 0 → (f : Finding) → ¬ Broken f
none_broken found is empty f broken =
    let has = (is.exact f).1 broken in
    let below = has.1 in
    omega (arith, below, empty)

-- the script of the blocks that are built
pub script_is : (top : ℕ) (blocks whole : List Block) → map plain_block blocks ≡ whole → (let s : Script = record { top = top; blocks = blocks } in plain_script s) ≡ (let s : Script = record { top = top; blocks = whole } in s)
script_is top blocks whole e = ap (λ (bs : List Block). let s : Script = record { top = top; blocks = bs } in s) e
