use Rattle.std.proofs.Common.{◌≡◌, ◌∙◌, ◌==◌, ◌≤◌, not, true≢false, length, map, sym, ap, subst, arith}
use Rattle.std.specs.List.{list_all}
use Rattle.command_words.specs.Compile.{AreDirs}
use Rattle.command_words.specs.Listed.{pieces}
use Rattle.command_words.proofs.Pieces.{all_views, dirs_pass, pieces_are, views_length}
use Rattle.command_words.proofs.folders.folders_in.Goals.{then-pieces-gt-MOST_FOLDERS-via-then-pieces-gt-MOST_FOLDERS, then-pieces-gt-MOST_FOLDERS-via-else-pieces-gt-MOST_FOLDERS+then-not-are_full}
use Rattle.command_words.proofs.folders.folders_in.Goals as goal

pub returns-then-pieces-gt-MOST_FOLDERS-clause-usage :
    goal.returns-then-pieces-gt-MOST_FOLDERS-clause-usage
returns-then-pieces-gt-MOST_FOLDERS-clause-usage c is folders dirs =
    let pass = dirs_pass c.args.dirs.now folders dirs in
    let shown : map (λ d. d.now) c.as_slice-pieces.result.now ≡ pieces c.args.dirs.now = ap (map (λ d. d.now)) c.as_slice-pieces.ensures.value ∙ c.in_ok-found.ensures in
    let few : length c.as_slice-pieces.result.now ≤ 64 = subst (λ n. n ≤ 64) (ap length (sym shown) ∙ views_length c.as_slice-pieces.result.now) pass.0 in
    let full = all_views c.as_slice-pieces.result.now ∙ ap (list_all (λ d. not (length d == 0))) shown ∙ pass.1 in
    elim c.then-pieces-gt-MOST_FOLDERS.branch [
      | then-pieces-gt-MOST_FOLDERS-via-then-pieces-gt-MOST_FOLDERS w ↦ absurd (omega arith)
      | then-pieces-gt-MOST_FOLDERS-via-else-pieces-gt-MOST_FOLDERS+then-not-are_full w ↦ absurd (true≢false (sym full ∙ sym w.if-not-are_full.ensures))
    ]

pub returns-clause-dirs : goal.returns-clause-dirs
returns-clause-dirs c =
    let shown : map (λ d. d.now) c.as_slice-pieces.result.now ≡ pieces c.args.dirs.now = ap (map (λ d. d.now)) c.as_slice-pieces.ensures.value ∙ c.in_ok-found.ensures in
    let few : length c.as_slice-pieces.result.now ≤ 64 = c.if-pieces-gt-MOST_FOLDERS.false in
    subst (AreDirs c.args.dirs.now) (sym (c.in_ok-copies_of.ensures ∙ shown))
    (pieces_are c.args.dirs.now (subst (λ n. n ≤ 64) (sym (views_length c.as_slice-pieces.result.now) ∙ ap length shown) few)
    (ap (list_all (λ d. not (length d == 0))) (sym shown) ∙ sym (all_views c.as_slice-pieces.result.now) ∙ sym c.if-not-are_full.ensures))
