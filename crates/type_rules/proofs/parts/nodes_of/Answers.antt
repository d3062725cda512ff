use Rattle.std.proofs.Common.{◌≡◌, ◌<◌, length, get_or, List, ap, subst, arith}
use Rattle.std.proofs.lemmas.List.{take_all}
use Rattle.type_rules.specs.declared.compounds.Compound.{Compound}
use Rattle.type_rules.proofs.Needs.{nodes_none, nodes_turn}
use Rattle.type_rules.proofs.parts.nodes_of.Goals as goal

pub loop-compound-init : goal.loop-compound-init
loop-compound-init c = rw c.new-nodes.ensures.items (nodes_none c.args.names.now c.args.compounds.now.files.items)

pub loop-compound-preserved : goal.loop-compound-preserved
loop-compound-preserved c =
    let l = c.loop-compound in
    let same = c.deref-compound-items.ensures.value in
    let all = c.args.compounds.now.all.items in
    let x = c.compound-item.result in
    let Within : List Compound → Type 0 = λ xs. l.compound-index < length xs in
    let Is : List Compound → Type 0 = λ xs. x ≡ get_or xs l.compound-index x in
    nodes_turn c.args.names.now c.args.compounds.now.files.items all l.compound-index x l.nodes.items c.push.new.self.items _ (subst Within same c.loop-compound-test.true) (subst Is same c.compound-item.is) c.in_ok-push.ensures.items l.invariant
    (rw c.as_slice.ensures.value at c.in_ok-node_of.ensures)

pub returns : goal.returns
returns c =
    let past = c.loop-compound-test.false in
    rw (take_all c.loop-compound.compound-index c.args.compounds.now.all.items (omega (arith, past, ap length c.deref-compound-items.ensures.value))) at c.loop-compound.invariant
