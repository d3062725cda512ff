use Rattle.std.proofs.Common.{◌≡◌, Some, option_map, sym, ap, ◌∙◌, rules}
use Rattle.std.proofs.lemmas.Int.{to_z-of_z}
use mir.Val.{SFits}
use mir.Syntax.{w32}
use Rattle.ipdl_base.specs.declared.schema.MessageRow.{MessageRow}
use Rattle.ipdl_base.specs.declared.value.Values.{Values}
use Rattle.ipdl_base.specs.Plain.{plain_body, plain_values}
use Rattle.ipdl_base.specs.Sound.{message_of}
use Rattle.channel_model.proofs.FittingRequests.{request-of}
use Rattle.end_steps.proofs.PlanLemmas.{drop-fits, dropped-plain, number-small}
use Rattle.end_steps.proofs.request_plan.plan_request.Goals as goal

pub drop_packet-requires-clause-number : goal.drop_packet-requires-clause-number
drop_packet-requires-clause-number c =
    let schema = c.args.schema.now in
    let m = c.args.message.now in
    let row : MessageRow = c.in-Some.row.now in
    let vs : Values = c.in-Request.values in
    let found : message_of schema m.number ≡ Some row = sym c.message.ensures ∙ ap (λ r. option_map (λ x. x.now) r) c.in-Some.is in
    number-small schema c.requires.sound row m vs (request-of schema row m vs c.requires.fits c.in-Request.is found)

pub drop_packet-requires-clause-fits : goal.drop_packet-requires-clause-fits
drop_packet-requires-clause-fits c =
    let schema = c.args.schema.now in
    let m = c.args.message.now in
    let row : MessageRow = c.in-Some.row.now in
    let vs : Values = c.in-Request.values in
    let found : message_of schema m.number ≡ Some row = sym c.message.ensures ∙ ap (λ r. option_map (λ x. x.now) r) c.in-Some.is in
    drop-fits schema c.requires.sound row m vs (request-of schema row m vs c.requires.fits c.in-Request.is found)

pub returns-in_ok-packet-in-Some-dropped_for : goal.returns-in_ok-packet-in-Some-dropped_for
returns-in_ok-packet-in-Some-dropped_for c =
    let schema = c.args.schema.now in
    let m = c.args.message.now in
    let row : MessageRow = c.in-Some.row.now in
    let vs : Values = c.in-Request.values in
    let id = c.in-Some-dropped_for.id in
    let fits : SFits w32 id = search rules in
    let found : message_of schema m.number ≡ Some row = sym c.message.ensures ∙ ap (λ r. option_map (λ x. x.now) r) c.in-Some.is in
    record {
      row = row;
      given = plain_values vs;
      found = found;
      body = ap plain_body c.in-Request.is;
      dropped = dropped-plain schema c.args.tree.now row m vs ∙ sym c.dropped_for.ensures ∙ c.in-Some-dropped_for.is ∙ ap Some (sym (to_z-of_z w32 id fits));
      answer = c.in_ok-packet-in-Some-dropped_for.ensures;
    }

pub returns-in_ok-shown-in-None : goal.returns-in_ok-shown-in-None
returns-in_ok-shown-in-None c =
    let schema = c.args.schema.now in
    let m = c.args.message.now in
    let row : MessageRow = c.in-Some.row.now in
    let vs : Values = c.in-Request.values in
    let found : message_of schema m.number ≡ Some row = sym c.message.ensures ∙ ap (λ r. option_map (λ x. x.now) r) c.in-Some.is in
    record {
      row = row;
      given = plain_values vs;
      found = found;
      body = ap plain_body c.in-Request.is;
      stays = dropped-plain schema c.args.tree.now row m vs ∙ sym c.dropped_for.ensures ∙ c.in-None.is;
      nulls = c.in_ok-shown-in-None.ensures;
      builds = c.built_by.ensures;
    }
