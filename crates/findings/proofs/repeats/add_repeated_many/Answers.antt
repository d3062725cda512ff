use Rattle.std.proofs.Common.{◌≡◌, ℕ, false, List, [], get_or, Bor, sym, ◌∙◌, arith, rules}
use Rattle.std.specs.Prelude.{nat_eq}
use Rattle.std.specs.Cmp.Lexicographic.{pointwise}
use Rattle.std.specs.HashSet.{contains}
use Rattle.std.proofs.lemmas.Bool.{true≢false}
use Rattle.std.proofs.lemmas.List.{take_all}
use Rattle.findings.proofs.Repeated.{Given, told_more, Adds-repeated, Adds-new, Adds-no_name, was_there, was_new}
use Rattle.findings.proofs.repeats.add_repeated_many.Goals as goal
use Rattle.findings.proofs.repeats.add_repeated_many.Goals.{then-not-branch+in_ok-push, else-not-branch}

pub loop-name-init : goal.loop-name-init
loop-name-init c = record {
  told = λ q. (λ h. absurd (let e : contains (λ (x y : Bor (List ℕ)). pointwise nat_eq x.now y.now) c.in_ok-seen.seen q ≡ false = search rules in true≢false (sym h ∙ e)), λ h. absurd (let no : ⊥ = omega (arith, h.1) in no));
  added = Adds-no_name c.args.rule c.args.found.now.items;
}

pub loop-name-preserved : goal.loop-name-preserved
loop-name-preserved c =
    let i = c.loop-name.name-index in
    let names = c.args.names.now in
    let set = c.in_ok-insert.ensures in
    let none : Given = (record { ref_ptr = (0, 0); now = [] }, record { file = 0; line = 0; column = 0 }) in
    let key = (get_or names i none).0 in
    record {
      told = λ q. told_more names i _ q.now _ _ c.loop-name-test.true (set.updates.0 q) (c.loop-name.invariant.told q);
      added = elim c.if-not-branch.branch [
        | then-not-branch+in_ok-push w ↦ Adds-repeated c.args.rule names i _ _ _ _ c.loop-name-test.true ((c.loop-name.invariant.told key).0 (was_there _ _ set.added w.if-not-branch.true)) (rw w.found-is w.in_ok-push.ensures.items) c.loop-name.invariant.added
        | else-not-branch w ↦ rw w.found-is (Adds-new c.args.rule names i _ _ _ c.loop-name-test.true (λ has. true≢false (sym ((c.loop-name.invariant.told key).1 has) ∙ was_new _ _ set.added w.if-not-branch.false)) c.loop-name.invariant.added)
      ];
    }

pub returns : goal.returns
returns c = rw (take_all c.loop-name.name-index c.args.names.now c.loop-name-test.false) at c.loop-name.invariant.added
