use Rattle.std.proofs.Common.{◌≡◌, Option, subst}
use Rattle.std.specs.Option.{option_map}
use Rattle.ipdl_base.specs.declared.finding.Finding.{Finding}
use Rattle.ipdl_base.specs.declared.finding.TheConstants.Rule as rule
use Rattle.ipdl_base.specs.declared.schema.MessageRow.{MessageRow}
use Rattle.handler_script.specs.Blocks.{statements, standing_by}
use Rattle.handler_script.specs.Broken.{BreaksBlocks, MessageBreaks}
use Rattle.handler_script.specs.Contexts.{standing_in}
use Rattle.handler_script.proofs.Gathered.{gains_if, gains_or}
use Rattle.handler_script.proofs.report.add_statement.Goals as goal

pub returns-clause-gains : goal.returns-clause-gains
returns-clause-gains c before k =
    let schema = c.args.schema.now in
    let s = c.args.statement.now in
    let after = statements c.args.after.now in
    let place = c.args.place in
    let B : Finding → Type 0 = λ f. (f.rule ≡ rule.BLOCK_STRUCTURE) × BreaksBlocks before s after in
    let M : Finding → Type 0 = λ f. MessageBreaks schema f.rule before s after in
    gains_or place B M _ _ _ (gains_if rule.BLOCK_STRUCTURE place _ (BreaksBlocks before s after) _ _ c.in_ok-add_if.ensures (c.breaks_blocks-blocks.ensures schema before k))
    (c.in_ok-add_named.ensures before k.block (c.message_of-message.ensures schema c.requires))

pub returns-clause-knows : goal.returns-clause-knows
returns-clause-knows c before k =
    let R : Option MessageRow → Type 0 = λ o. option_map standing_in c.context_of.result ≡ standing_by o c.args.statement.now in
    c.following.ensures c.args.schema.now before k (subst R (c.message_of-message.ensures c.args.schema.now c.requires) c.context_of.ensures)
