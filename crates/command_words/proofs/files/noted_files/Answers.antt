use Rattle.std.proofs.Common.{◌∙◌, List, ℕ, suc, map, take, drop, sym, subst}
use Rattle.command_words.specs.Compile.{AreListed}
use Rattle.command_words.proofs.Errors.{of_error}
use Rattle.command_words.proofs.Noting.{parted}
use Rattle.command_words.proofs.files.noted_files.Goals as goal

pub returns-in_err-note_file-clause-usage : goal.returns-in_err-note_file-clause-usage
returns-in_err-note_file-clause-usage c =
    let words = c.args.words.now in
    let i = c.loop-word.word-index in
    of_error c.from_residual.result _ _ c.from_residual.ensures.1
    (λ fault gives usage files listed. c.in_err-note_file.ensures.usage (sym gives ∙ usage) (map (λ w. w.now) (take i words)) (map (λ w. w.now) (drop (suc i) words)) files c.loop-word.invariant.listed
    (subst (λ (ws : List (List ℕ)). AreListed ws files) (parted words i _ c.loop-word-test.true) listed))
