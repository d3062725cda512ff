use Rattle.std.proofs.Common.{List, ℕ, inl, inr, refl, subst, sym}
use Rattle.std.specs.Prelude.{Option, Some}
use Rattle.std.proofs.lemmas.Result.{IfOk-weaker}
use Rattle.ipdl_top.specs.Steps.{IsFound, IsHeld}
use Rattle.ipdl_top.proofs.list.listed_of_found.Goals as goal

pub returns-in-Absent : goal.returns-in-Absent
returns-in-Absent c = λ held is. subst (IsFound held c.args.number) (sym c.broken_at.ensures) (inl (subst (IsHeld held) c.in-Absent.is is, refl))

pub returns-in-Larger : goal.returns-in-Larger
returns-in-Larger c = λ held is. subst (IsFound held c.args.number) (sym c.broken_at-in-Larger.ensures) (inr (inl (subst (IsHeld held) c.in-Larger.is is, refl)))

pub returns-in-Bytes : goal.returns-in-Bytes
returns-in-Bytes c =
    IfOk-weaker c.listed_of_bytes.result _ _
    (λ listed found held is.
    let has = (subst (IsHeld held) c.in-Bytes.is is).0 in
    subst (λ (o : Option (List ℕ)). IsFound o c.args.number listed) (sym has) (subst (λ (bytes : List ℕ). IsFound (Some bytes) c.args.number listed) c.as_slice.ensures.value found))
    c.listed_of_bytes.ensures
