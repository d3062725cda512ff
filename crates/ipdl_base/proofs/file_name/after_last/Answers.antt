use Rattle.std.proofs.Common.{◌≡◌, ℕ, ◌+◌, List, ◌++◌, ◌∷◌, [], take, drop, get_or, sym, ap, ◌∙◌, add-one, append_assoc, Bor, false, nat_eq, inl, inr}
use Rattle.std.proofs.lemmas.Bool.{eq-eqb}
use Rattle.std.proofs.lemmas.Bool.Decides.{eqb_tells}
use Rattle.std.proofs.lemmas.List.{take_more}
use Rattle.std.proofs.Math.Seq.{drop-cons}
use Rattle.ipdl_base.specs.FileNames.{after_last}
use Rattle.ipdl_base.proofs.Following.{after_same, after_other}
use Rattle.ipdl_base.proofs.file_name.after_last.Goals as goal
use Rattle.ipdl_base.proofs.file_name.after_last.Goals.{then-b-mark, else-b-mark}

not_equal : (a b : ℕ) → ¬ (a ≡ b) → nat_eq a b ≡ false
not_equal a b differ = elim (eqb_tells a b) [ inl e ↦ absurd (differ e.1) | inr n ↦ n.0 ]

pub loop-i-preserved : goal.loop-i-preserved
loop-i-preserved c =
    let text = c.args.text.now in
    let i = c.loop-i.i in
    let m = c.args.mark in
    let b = get_or text i 0 in
    let more : after_last m (take (i + 1) text) ≡ after_last m (take i text ++ b ∷ []) = ap (after_last m) (take_more text i 0 c.loop-i-test.true) in
    elim c.if-b-mark.branch [
      | then-b-mark w ↦
          ap (λ (r : Bor (List ℕ)). r.now) w.following-is ∙ w.split_at.ensures.back
          ∙ ap (λ front. front ++ drop (i + 1) text) (sym (more ∙ after_same m b (take i text) (eq-eqb b m w.if-b-mark.true)))
      | else-b-mark w ↦
          ap (λ (r : Bor (List ℕ)). r.now) w.following-is ∙ c.loop-i.invariant
          ∙ ap (λ back. after_last m (take i text) ++ back) (rw add-one (drop-cons text i 0 c.loop-i-test.true))
          ∙ sym (append_assoc (after_last m (take i text)) (b ∷ []) (drop (i + 1) text))
          ∙ ap (λ front. front ++ drop (i + 1) text) (sym (more ∙ after_other m b (take i text) (not_equal b m w.if-b-mark.false)))
    ]
