use Rattle.std.proofs.Common.{true}
use Rattle.ipdl_syntax.specs.declared.tree.UnionDecl.{UnionDecl}
use Rattle.actor_tables.proofs.TypeKeys.{keys_none, keys_more, keys_all}
use Rattle.actor_tables.proofs.numbers.add_unions.Goals as goal

pub loop-index-init : goal.loop-index-init
loop-index-init c = keys_none (λ (x : UnionDecl). x.place) true c.args.unions.now c.args.keys.now.items

pub loop-index-preserved : goal.loop-index-preserved
loop-index-preserved c =
    keys_more (λ (x : UnionDecl). x.place) true c.args.unions.now c.loop-index.index c.index-unions-index.result c.args.keys.now.items c.loop-index.keys.items c.push.new.self.items c.loop-index-test.true c.index-unions-index.is
    c.loop-index.invariant c.in_ok-push.ensures.items

pub returns : goal.returns
returns c = keys_all (λ (x : UnionDecl). x.place) true c.args.unions.now c.loop-index.index c.args.keys.now.items c.loop-index.keys.items c.loop-index-test.false c.loop-index.invariant
