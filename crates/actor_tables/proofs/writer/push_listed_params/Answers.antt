use Rattle.actor_tables.specs.TableText.{param_text}
use Rattle.actor_tables.proofs.Listed.{listed_put}
use Rattle.actor_tables.proofs.writer.push_listed_params.Goals as goal

pub returns : goal.returns
returns c =
    listed_put c.push_more_params.result (param_text c.args.schema.now) c.in-Some.first.now c.in-Some.more.now c.args.params.now c.args.out.now.items _ c.push_more_params.new.out.items
    c.in-Some.ensures.cases.0 c.in_ok-push_param.ensures c.push_more_params.ensures
