use Rattle.std.proofs.Common.{ℕ, refl}
use Rattle.std.proofs.lemmas.List.{take_all}
use Rattle.ipdl_syntax.specs.declared.tree.NameAt.{NameAt}
use Rattle.name_table.specs.Decls.{FindsOneProtocol}
use Rattle.name_table.specs.Finds.{FindsAsProtocol}
use Rattle.manager_rules.proofs.Counted.{one_number}
use Rattle.manager_rules.proofs.Listed.{gathers_one, gathers_none}
use Rattle.manager_rules.proofs.rows.files_of.Goals as goal
use Rattle.manager_rules.proofs.rows.files_of.Goals.{in-Some+in_ok-push, in_default}

pub loop-name-preserved : goal.loop-name-preserved
loop-name-preserved c =
    let names = c.args.names.now in
    let n = c.name-item.result in
    let Holds : NameAt → ℕ → Type 0 = λ n other. FindsOneProtocol names c.args.file n.name other in
    elim c.match-find_one.branch [
      | in-Some+in_ok-push w ↦
          gathers_one Holds c.args.list.now c.loop-name.name-index n w.in-Some.other _ _ c.loop-name-test.true c.name-item.is w.in-Some.ensures.some
          (λ m h. one_number (FindsAsProtocol names c.args.file n.name) w.in-Some.other m w.in-Some.ensures.some h) (rw w.files-is w.in_ok-push.ensures.items) c.loop-name.invariant
      | in_default w ↦ gathers_none Holds c.args.list.now c.loop-name.name-index n _ _ c.loop-name-test.true c.name-item.is w.in_default.ensures.none (rw w.files-is refl) c.loop-name.invariant
    ]

pub returns : goal.returns
returns c = rw (take_all c.loop-name.name-index c.args.list.now c.loop-name-test.false) at c.loop-name.invariant
