use Rattle.std.proofs.Common.{ℕ, ◌+◌, ◌∙◌, List, length, slice_get, sym, ap, subst, length-append, inl, inr}
use Rattle.name_table.specs.declared.sight.Reach.{Reach}
use Rattle.name_table.specs.Marks.{IsSight}
use Rattle.name_table.proofs.Places.{read_more}
use Rattle.name_table.proofs.sight.sights.Goals as goal

pub loop-from-preserved : goal.loop-from-preserved
loop-from-preserved c =
    let i = c.loop-from.invariant in
    let more = c.in_ok-push.ensures.items in (
      ap length more ∙ length-append _ _ ∙ ap (λ n. n + 1) i.0,
      λ file sight at. elim (read_more _ _ file sight (sym (ap (λ (xs : List Reach). slice_get xs file) more) ∙ at)) [
        | inl old ↦ i.1 file sight old
        | inr new ↦ subst (λ (n : ℕ). IsSight c.args.program.now n sight) (sym (new.0 ∙ i.0)) (subst (λ (s : Reach). IsSight c.args.program.now c.loop-from.from s) new.1 c.in_ok-sight_of.ensures)
      ],
    )
