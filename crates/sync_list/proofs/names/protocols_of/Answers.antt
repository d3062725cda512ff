use Rattle.std.proofs.Common.{◌≡◌, ℕ, List, subst, ap, ◌∙◌, Bor}
use Rattle.std.specs.Prelude.{IsSomeAnd}
use Rattle.std.proofs.lemmas.List.{take_all}
use Rattle.ipdl_base.specs.Words.{short_name}
use Rattle.ipdl_syntax.specs.declared.program.Entry.{Entry}
use Rattle.ipdl_syntax.specs.declared.tree.ProtocolDecl.{ProtocolDecl}
use Rattle.sync_list.specs.Sets.{same_name, AddsKeys}
use Rattle.sync_list.proofs.Keys.{Adds-name, Adds-some, Adds-no_some, Keys-one_more}
use Rattle.sync_list.proofs.names.protocols_of.Goals as goal
use Rattle.sync_list.proofs.names.protocols_of.Goals.{in-Some+in_ok-insert, in_default}

pub loop-entry-preserved : goal.loop-entry-preserved
loop-entry-preserved c =
    let Named : Bor (List ℕ) → ProtocolDecl → Type 0 = λ name p. short_name p.full ≡ name.now in
    let P : Bor (List ℕ) → Entry → Type 0 = λ name e. IsSomeAnd e.unit.protocol (Named name) in
    let Q : Entry → Type 0 = λ e. AddsKeys same_name c.loop-entry.names c.match-entry.names (λ q. P q e) in
    Keys-one_more same_name P c.args.program.now c.loop-entry.entry-index c.entry-item.result _ _ c.loop-entry-test.true c.loop-entry.invariant
    (subst Q c.entry-item.is
    (elim c.match-entry.branch [
      | in-Some+in_ok-insert w ↦
          rw w.names-is
          (Adds-some same_name _ _ Named c.entry-item.result.unit.protocol w.in-Some.protocol w.in-Some.is (Adds-name _ _ w.short_name.result _ (w.short_name.ensures ∙ ap short_name w.as_slice.ensures) w.in_ok-insert.ensures.updates.0))
      | in_default w ↦ Adds-no_some same_name _ _ Named c.entry-item.result.unit.protocol w.in_default.is w.names-is
    ]))

pub returns : goal.returns
returns c = rw (take_all c.loop-entry.entry-index c.args.program.now c.loop-entry-test.false) at c.loop-entry.invariant
