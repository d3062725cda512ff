use Rattle.std.proofs.Common.{◌≡◌, ◌+◌, List, [], ◌∷◌, ◌++◌, drop, take, ap, subst, sym, ◌∙◌, arith}
use Rattle.std.proofs.lemmas.List.{take_more, take-append-drop}
use Rattle.ipdl_base.specs.declared.line.Line.{Line}
use Rattle.transcripts.specs.declared.comparison.LineMatch.{LineMatch}
use Rattle.transcripts.specs.declared.comparison.LineMatch.TheVariants as alike
use Rattle.transcripts.specs.Compared.{HasCompared}
use Rattle.transcripts.proofs.Comparing.{all-passed, compared-following, compared-more}
use Rattle.transcripts.proofs.comparison.Comparison.compare.Goals as goal

pub returns-in_default : goal.returns-in_default
returns-in_default c before passed =
    let schema = c.args.schema.now in
    let lines : List Line = c.args.lines.now in
    let i = c.loop-line.line-index in
    let line : Line = c.line-item.result in
    let old = c.args.self.now in
    let found : LineMatch = c.in_ok-found.found in
    let taken : take (i + 1) lines ≡ take i lines ++ line ∷ [] = take_more lines i line (omega arith) ∙ ap (λ (l : Line). take i lines ++ l ∷ []) (sym c.line-item.is) in
    let first = c.loop-line.invariant.alike before passed in
    let one = c.in_ok-found.ensures.compared (before ++ take i lines) (all-passed schema before (take i lines) old c.loop-line.self first) in
    let both = compared-more schema before (take i lines) (line ∷ []) old c.loop-line.self c.compare_line.new.self found first one in
    subst (λ (ls : List Line). HasCompared schema before ls old found c.compare_line.new.self) (ap (λ (ls : List Line). ls ++ drop (i + 1) lines) (sym taken) ∙ take-append-drop (i + 1) lines)
    (compared-following schema before (take i lines ++ line ∷ []) (drop (i + 1) lines) old c.compare_line.new.self found c.in_default.not-All both)

pub loop-line-preserved : goal.loop-line-preserved
loop-line-preserved c =
    let schema = c.args.schema.now in
    let lines : List Line = c.args.lines.now in
    let i = c.loop-line.line-index in
    let line : Line = c.line-item.result in
    let old = c.args.self.now in
    let taken : take (i + 1) lines ≡ take i lines ++ line ∷ [] = take_more lines i line (omega arith) ∙ ap (λ (l : Line). take i lines ++ l ∷ []) (sym c.line-item.is) in
    record {
      within = c.in_ok-found.ensures.within;
      alike = λ before passed.
          let first = c.loop-line.invariant.alike before passed in
          let one = c.in_ok-found.ensures.compared (before ++ take i lines) (all-passed schema before (take i lines) old c.loop-line.self first) in
          subst (λ (ls : List Line). HasCompared schema before ls old alike.All c.compare_line.new.self) (sym taken)
          (compared-more schema before (take i lines) (line ∷ []) old c.loop-line.self c.compare_line.new.self alike.All first
          (subst (λ (f : LineMatch). HasCompared schema (before ++ take i lines) (line ∷ []) c.loop-line.self f c.compare_line.new.self) c.in-All.is one));
    }
