use Rattle.std.proofs.Common.{List, ap, refl}
use Rattle.std.specs.Prelude.{IsSomeAnd}
use Rattle.std.specs.Option.{option_copied}
use Rattle.findings.proofs.Gathers.{Gains-of_none, Gains-of_some}
use Rattle.findings.specs.Gains.{Gains}
use Rattle.ipdl_base.specs.declared.finding.Finding.{Finding}
use Rattle.program_schema.specs.ProtocolRules as protocols
use Rattle.sync_list.specs.Broken as sync
use Rattle.sync_list.specs.declared.list.Section.{Section}
use Rattle.type_rules.specs.Broken as types
use Rattle.ipdl_top.specs.CommandAnswer.{BreaksRules}
use Rattle.ipdl_top.proofs.Gathered.{Has, of_three}
use Rattle.ipdl_top.proofs.rules.gathered.Goals as goal
use Rattle.ipdl_top.proofs.rules.gathered.Goals.{in-Some+in_ok-add_of_list, in_default}

pub returns : goal.returns
returns c =
    let program = c.args.program.now in
    let list = option_copied c.args.list in
    let S : Finding → List Section → Type 0 = λ f sections. sync.BrokenAt program sections f in
    let two : (found : List Finding) → Gains (λ f. IsSomeAnd list (S f)) c.add_of_protocols.new.found.items found → Has found (BreaksRules program list) = λ found listed.
    of_three (types.BrokenAt program) (protocols.BrokenAt program) (λ f. IsSomeAnd list (S f)) c.new-found.result.items c.add_of_types.new.found.items c.add_of_protocols.new.found.items found
    c.new-found.ensures.items c.in_ok-add_of_types.ensures c.in_ok-add_of_protocols.ensures listed in
    elim c.match-list.branch [
      | in-Some+in_ok-add_of_list w ↦ rw w.found-is (two w.add_of_list.new.found.items (Gains-of_some S list w.in-Some.list.now _ _ (ap option_copied w.in-Some.is) w.in_ok-add_of_list.ensures))
      | in_default w ↦ rw w.found-is (two c.add_of_protocols.new.found.items (Gains-of_none S list _ _ (ap option_copied w.in_default.is) refl))
    ]
