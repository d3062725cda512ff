use Rattle.std.proofs.Common.{◌≡◌, ℕ, ◌+◌, length, subst, sym, ap, ◌∙◌, arith}
use Rattle.actor_tables.specs.Numbered.{AreNamedFiles}
use Rattle.actor_tables.proofs.NamedFiles.{NamedVec, none_named, named_push, named_skip, protocol_at}
use Rattle.actor_tables.proofs.numbers.named_files.Goals as goal
use Rattle.actor_tables.proofs.numbers.named_files.Goals.{in-Some+in_ok-push, in_default}

pub loop-file-init : goal.loop-file-init
loop-file-init c = subst (AreNamedFiles c.args.program.now 0) (sym c.new-named.ensures.items) (none_named c.args.program.now)

pub loop-file-preserved : goal.loop-file-preserved
loop-file-preserved c =
    let at = protocol_at c.args.program.now c.loop-file.file c.index-program-file.result c.loop-file-test.true c.index-program-file.is in
    elim c.match-entry.branch [
      | in-Some+in_ok-push w ↦ named_push c.args.program.now c.loop-file.file c.loop-file.named.items c.match-entry.named.items w.as_slice.result w.in-Some.protocol c.loop-file.invariant (at ∙ w.in-Some.is) w.as_slice.ensures
          (ap (λ (v : NamedVec). v.items) w.named-is ∙ w.in_ok-push.ensures.items)
      | in_default w ↦ subst (λ (v : NamedVec). AreNamedFiles c.args.program.now (c.loop-file.file + 1) v.items) (sym w.named-is) (named_skip c.args.program.now c.loop-file.file c.loop-file.named.items c.loop-file.invariant (at ∙ w.in_default.is))
    ]

pub returns : goal.returns
returns c =
    let same : c.loop-file.file ≡ length c.args.program.now = omega arith in
    subst (λ (n : ℕ). AreNamedFiles c.args.program.now n c.loop-file.named.items) same c.loop-file.invariant
