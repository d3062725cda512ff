use Rattle.std.proofs.Common.{false}
use Rattle.ipdl_syntax.specs.declared.tree.StructDecl.{StructDecl}
use Rattle.actor_tables.proofs.TypeKeys.{keys_none, keys_more, keys_all}
use Rattle.actor_tables.proofs.numbers.add_structs.Goals as goal

pub loop-index-init : goal.loop-index-init
loop-index-init c = keys_none (λ (x : StructDecl). x.place) false c.args.structs.now c.args.keys.now.items

pub loop-index-preserved : goal.loop-index-preserved
loop-index-preserved c =
    keys_more (λ (x : StructDecl). x.place) false c.args.structs.now c.loop-index.index c.index-structs-index.result c.args.keys.now.items c.loop-index.keys.items c.push.new.self.items c.loop-index-test.true c.index-structs-index.is
    c.loop-index.invariant c.in_ok-push.ensures.items

pub returns : goal.returns
returns c = keys_all (λ (x : StructDecl). x.place) false c.args.structs.now c.loop-index.index c.args.keys.now.items c.loop-index.keys.items c.loop-index-test.false c.loop-index.invariant
