use Rattle.std.proofs.Common.{false, ap, append-nil, sym, List, map, ℕ}
use Rattle.std.proofs.lemmas.List.{take_all}
use Rattle.ipdl_syntax.specs.declared.tree.UnionDecl.{UnionDecl}
use Rattle.type_rules.specs.Declarations.{Declaration}
use Rattle.type_rules.specs.Firsts.{told}
use Rattle.written_parts.proofs.Appending.{map-turn}
use Rattle.type_rules.proofs.declarations.list_unions.Goals as goal

abbrev seen : UnionDecl → Declaration
seen x = record { full = x.full; place = x.place; is_using = false }

pub loop-item-init : goal.loop-item-init
loop-item-init c = sym (append-nil (map told c.args.all.now.items))

pub loop-item-preserved : goal.loop-item-preserved
loop-item-preserved c =
    let x = c.item-item.result in
    let D : List ℕ → Declaration = λ n. record { full = n; place = x.place; is_using = false } in
    map-turn told seen (map told c.args.all.now.items) c.args.unions.now c.loop-item.item-index x c.loop-item.all.items c.push.new.self.items _ c.loop-item-test.true c.item-item.is c.in_ok-push.ensures.items
    (ap D c.as_slice.ensures) c.loop-item.invariant

pub returns : goal.returns
returns c = rw (take_all c.loop-item.item-index c.args.unions.now c.loop-item-test.false) at c.loop-item.invariant
