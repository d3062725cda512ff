use Rattle.std.proofs.Common.{ap, map}
use Rattle.std.proofs.lemmas.List.{take_all}
use Rattle.ipdl_syntax.specs.declared.tree.Param.{Param}
use Rattle.written_parts.specs.Attributes.{told, borne_by}
use Rattle.written_parts.specs.declared.attributes.Bearer.TheVariants as bearer
use Rattle.written_parts.proofs.Appending.{appends_none, map-turn}
use Rattle.written_parts.proofs.attributes.add_params.Goals as goal

pub loop-param-init : goal.loop-param-init
loop-param-init c = appends_none told c.args.lists.now.items

pub loop-param-preserved : goal.loop-param-preserved
loop-param-preserved c =
    map-turn told (λ (p : Param). borne_by bearer.Parameter p.attributes) (map told c.args.lists.now.items) c.args.params.now c.loop-param.param-index c.param-item.result _ _ _ c.loop-param-test.true c.param-item.is
    c.in_ok-push.ensures.items (ap (borne_by bearer.Parameter) c.as_slice.ensures) c.loop-param.invariant

pub returns : goal.returns
returns c = rw (take_all c.loop-param.param-index c.args.params.now c.loop-param-test.false) at c.loop-param.invariant
