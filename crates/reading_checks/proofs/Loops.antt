-- Lines one after the other.
use Rattle.std.proofs.Common.{◌≡◌, ◌∙◌, ℕ, Bool, true, ◌&&◌, ◌+◌, ◌<◌, List, [], ◌∷◌, ◌++◌, length, take, drop, get_or, sym, ap}
use Rattle.std.proofs.lemmas.List.{take_more, drop_more}
use Rattle.std.proofs.lemmas.List.Sums.{fold_more}
use Rattle.ipdl_base.specs.declared.schema.Schema.{Schema}
use Rattle.ipdl_base.specs.declared.line.Line.{Line}
use Rattle.history_reading.specs.Holds.{each_line}
use Rattle.history_reading.specs.Reading.{Reading, after, opening_reading, read}

-- the test of the lines from one on: of that line, and of those after it
pub each_more : (test : List Line → Line → List Line → Bool) (lines : List Line) (i : ℕ) (line : Line) → i < length lines → line ≡ get_or lines i line
    → each_line test (take i lines) (drop i lines) ≡ (test (take i lines) line (drop (i + 1) lines) && each_line test (take (i + 1) lines) (drop (i + 1) lines))
each_more test lines i line within is =
    let left : List Line = drop (i + 1) lines in
    let first : drop i lines ≡ line ∷ left = drop_more lines i line within ∙ ap (λ (l : Line). l ∷ left) (sym is) in
    let taken : take i lines ++ line ∷ [] ≡ take (i + 1) lines = sym (take_more lines i line within ∙ ap (λ (l : Line). take i lines ++ l ∷ []) (sym is)) in
    ap (each_line test (take i lines)) first ∙ ap (λ (t : List Line). test (take i lines) line left && each_line test t left) taken

-- the reading of one more line
pub read_more : (schema : Schema) (lines : List Line) (i : ℕ) (line : Line) (reading next : Reading) → i < length lines → line ≡ get_or lines i line
    → reading ≡ read schema (take i lines) → next ≡ after schema reading line → next ≡ read schema (take (i + 1) lines)
read_more schema lines i line reading next within is was now =
    now ∙ (ap (λ (r : Reading). after schema r line) was
    ∙ (ap (λ (l : Line). after schema (read schema (take i lines)) l) is
    ∙ sym (fold_more (after schema) opening_reading lines i line within)))

-- one that passes leaves the others
pub each_goes_on : (test : List Line → Line → List Line → Bool) (lines : List Line) (i : ℕ) (line : Line) (whole : Bool) → i < length lines → line ≡ get_or lines i line
    → each_line test (take i lines) (drop i lines) ≡ whole → test (take i lines) line (drop (i + 1) lines) ≡ true → each_line test (take (i + 1) lines) (drop (i + 1) lines) ≡ whole
each_goes_on test lines i line whole within is before passes =
    sym (each_more test lines i line within is ∙ ap (λ b. b && each_line test (take (i + 1) lines) (drop (i + 1) lines)) passes) ∙ before
