use Rattle.std.proofs.Common.{◌≡◌, ◌≤◌, List, Bool, false, true, length, subst}
use Rattle.actor_tables.proofs.Lookups.{read_at}
use Rattle.actor_tables.proofs.Uncarried.{mark_tells, past_marks, no_mark}
use Rattle.actor_tables.proofs.carried.MarkedTypes.mentions.Goals as goal

never : false ≡ true → ⊥
never e = cc

pub returns-in-Some-get : goal.returns-in-Some-get
returns-in-Some-get c =
    mark_tells c.args.self.now c.args.shape.now c.in-Some.part c.in-Some-get.mark.now c.requires c.in-Some.ensures
    (read_at c.args.self.now.marks.items c.deref.result.now c.in-Some.part c.in-Some-get.mark.now c.deref.ensures.value c.in-Some-get.ensures.lookup.3.0 c.in-Some-get.ensures.lookup.3.1)

pub returns-in-None-get : goal.returns-in-None-get
returns-in-None-get c = (
  λ is. absurd (never is),
  λ h. absurd (past_marks c.args.self.now c.args.shape.now c.in-Some.part c.requires c.in-Some.ensures (subst (λ (xs : List Bool). length xs ≤ c.in-Some.part) c.deref.ensures.value c.in-None-get.ensures.lookup.3) h),
)

pub returns-in-None : goal.returns-in-None
returns-in-None c = (λ is. absurd (never is), λ h. absurd (no_mark c.args.self.now c.args.shape.now c.requires c.in-None.ensures h))
