use Rattle.std.proofs.Common.{refl, subst}
use Rattle.std.specs.Prelude.{IsSomeAnd}
use Rattle.std.specs.List.{Any}
use Rattle.std.proofs.lemmas.List.{take_all}
use Rattle.ipdl_base.specs.Words.{short_name}
use Rattle.ipdl_base.specs.declared.finding.Place.{Place}
use Rattle.ipdl_base.specs.declared.finding.TheConstants.Rule as rule
use Rattle.ipdl_syntax.specs.declared.program.Entry.{Entry}
use Rattle.ipdl_syntax.specs.declared.tree.ProtocolDecl.{ProtocolDecl}
use Rattle.findings.specs.Adds.{Adds}
use Rattle.findings.proofs.Gains.{Adds-more}
use Rattle.sync_list.specs.Broken.{IsUnlistedAt}
use Rattle.sync_list.proofs.Found.{Adds-of_some, Adds-of_none}
use Rattle.sync_list.proofs.report.add_unlisted.Goals as goal
use Rattle.sync_list.proofs.report.add_unlisted.Goals.{in-Some+in_ok-add_unlisted_of, in_default}

pub loop-entry-preserved : goal.loop-entry-preserved
loop-entry-preserved c =
    let e = c.entry-item.result in
    let list = c.args.list.now in
    let At : Place → ProtocolDecl → Type 0 = λ place p. Any (IsUnlistedAt list (short_name p.full) place) p.messages in
    let Q : Entry → Type 0 = λ e. Adds rule.UNLISTED_SYNC (λ place. IsSomeAnd e.unit.protocol (At place)) c.loop-entry.found.items c.match-entry.found.items in
    Adds-more rule.UNLISTED_SYNC (λ place (e : Entry). IsSomeAnd e.unit.protocol (At place)) c.args.program.now c.loop-entry.entry-index e _ _ _ c.loop-entry-test.true c.loop-entry.invariant
    (subst Q c.entry-item.is
    (elim c.match-entry.branch [
      | in-Some+in_ok-add_unlisted_of w ↦
          rw w.found-is
          (Adds-of_some rule.UNLISTED_SYNC At e.unit.protocol w.in-Some.protocol _ _ w.in-Some.is
          (rw (w.as_slice-in-Some.ensures, w.short_name-name.ensures, w.as_slice.ensures) at (w.in_ok-add_unlisted_of.ensures list c.in_ok-names.ensures)))
      | in_default w ↦ Adds-of_none rule.UNLISTED_SYNC At e.unit.protocol _ _ w.in_default.is (rw w.found-is refl)
    ]))

pub returns : goal.returns
returns c = rw (take_all c.loop-entry.entry-index c.args.program.now c.loop-entry-test.false) at c.loop-entry.invariant
