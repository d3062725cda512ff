use Rattle.std.proofs.Common.{◌≡◌, subst}
use Rattle.std.specs.Prelude.{IsSomeAnd}
use Rattle.std.specs.List.{Any}
use Rattle.std.proofs.lemmas.List.{take_all}
use Rattle.ipdl_base.specs.Words.{short_name}
use Rattle.ipdl_syntax.specs.declared.program.Entry.{Entry}
use Rattle.ipdl_syntax.specs.declared.tree.ProtocolDecl.{ProtocolDecl}
use Rattle.sync_list.specs.Sets.{NamePair, same_pair, AddsKeys}
use Rattle.sync_list.proofs.Keys.{Adds-some, Adds-no_some, Keys-one_more}
use Rattle.sync_list.proofs.names.messages_of.Goals as goal
use Rattle.sync_list.proofs.names.messages_of.Goals.{in-Some+in_ok-add_messages, in_default}

pub loop-entry-preserved : goal.loop-entry-preserved
loop-entry-preserved c =
    let Has : NamePair → ProtocolDecl → Type 0 = λ pair p. (short_name p.full ≡ pair.0.now) × Any (λ m. (m.semantics ≡ c.args.semantics) × (m.name ≡ pair.1.now)) p.messages in
    let P : NamePair → Entry → Type 0 = λ pair e. IsSomeAnd e.unit.protocol (Has pair) in
    let Q : Entry → Type 0 = λ e. AddsKeys same_pair c.loop-entry.names c.match-entry.names (λ q. P q e) in
    Keys-one_more same_pair P c.args.program.now c.loop-entry.entry-index c.entry-item.result _ _ c.loop-entry-test.true c.loop-entry.invariant
    (subst Q c.entry-item.is
    (elim c.match-entry.branch [
      | in-Some+in_ok-add_messages w ↦
          rw w.names-is
          (Adds-some same_pair _ _ Has c.entry-item.result.unit.protocol w.in-Some.protocol w.in-Some.is
          (rw (w.as_slice-in-Some.ensures, w.short_name-name.ensures, w.as_slice.ensures) at w.in_ok-add_messages.ensures))
      | in_default w ↦ Adds-no_some same_pair _ _ Has c.entry-item.result.unit.protocol w.in_default.is w.names-is
    ]))

pub returns : goal.returns
returns c = rw (take_all c.loop-entry.entry-index c.args.program.now c.loop-entry-test.false) at c.loop-entry.invariant
