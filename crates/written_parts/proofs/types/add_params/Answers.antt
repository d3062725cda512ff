use Rattle.std.proofs.lemmas.List.{take_all}
use Rattle.ipdl_syntax.specs.declared.tree.Param.{Param}
use Rattle.written_parts.specs.Types.{told, types_within}
use Rattle.written_parts.proofs.Appending.{appends_none, appends_turn}
use Rattle.written_parts.proofs.types.add_params.Goals as goal

pub loop-param-init : goal.loop-param-init
loop-param-init c = appends_none told c.args.types.now.items

pub loop-param-preserved : goal.loop-param-preserved
loop-param-preserved c =
    appends_turn told (λ (p : Param). types_within c.args.file p.spec) c.args.params.now c.loop-param.param-index c.param-item.result _ _ _ c.loop-param-test.true c.param-item.is c.loop-param.invariant c.in_ok-add_type.ensures

pub returns : goal.returns
returns c = rw (take_all c.loop-param.param-index c.args.params.now c.loop-param-test.false) at c.loop-param.invariant
