use Rattle.std.proofs.Common.{◌≡◌, refl, rules}
use Rattle.std.proofs.lemmas.Int.{to_z-of_z}
use mir.Val.{SFits}
use mir.Syntax.{w32}
use Rattle.actor_tree.specs.Tree.{without}
use Rattle.ipdl_base.specs.declared.value.Values.{Values}
use Rattle.ipdl_base.specs.Plain.{plain_values}
use Rattle.channel_model.specs.ValueActors.{nulled}
use Rattle.channel_core.specs.NextItems.{resolver_by}
use Rattle.channel_core.proofs.end.taking.handling_of.Goals as goal

pub returns : goal.returns
returns c = λ (given : Values) e.
    let m = c.args.message in
    let route_fits : SFits w32 m.route = search rules in
    let seq_fits : SFits w32 m.seq = search rules in
    let made_fits : SFits w32 m.made = search rules in
    let values : plain_values c.handled_values.result ≡ nulled c.args.schema.now (without m.made c.args.tree.now) c.args.row.now.params given = simp (to_z-of_z, made_fits) at c.handled_values.ensures given e in
    let resolver : c.resolver_for.result ≡ resolver_by c.args.row.now m.seq m.route m.number = simp (to_z-of_z, route_fits, seq_fits) at c.resolver_for.ensures in
    record {
      route = to_z-of_z w32 m.route route_fits;
      number = refl;
      seq = to_z-of_z w32 m.seq seq_fits;
      made = to_z-of_z w32 m.made made_fits;
      values = values;
      resolver = resolver;
    }
