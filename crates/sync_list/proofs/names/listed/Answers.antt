use Rattle.std.proofs.Common.{◌≡◌, subst}
use Rattle.std.proofs.lemmas.List.{take_all}
use Rattle.sync_list.specs.declared.list.Section.{Section}
use Rattle.sync_list.specs.Sets.{NamePair, same_pair, AddsKeys}
use Rattle.sync_list.proofs.Keys.{Adds-pair, Keys-one_more}
use Rattle.sync_list.proofs.names.listed.Goals as goal

pub loop-section-preserved : goal.loop-section-preserved
loop-section-preserved c =
    let P : NamePair → Section → Type 0 = λ pair s. (s.protocol ≡ pair.0.now) × (s.message ≡ pair.1.now) in
    let Q : Section → Type 0 = λ s. AddsKeys same_pair c.loop-section.names c.insert.new.self (λ q. P q s) in
    Keys-one_more same_pair P c.args.list.now c.loop-section.section-index c.section-item.result _ _ c.loop-section-test.true c.loop-section.invariant
    (subst Q c.section-item.is (Adds-pair _ _ c.names_of.result _ _ c.names_of.ensures.protocol c.names_of.ensures.message c.in_ok-insert.ensures.updates.0))

pub returns : goal.returns
returns c = rw (take_all c.loop-section.section-index c.args.list.now c.loop-section-test.false) at c.loop-section.invariant
