use Rattle.std.proofs.Common.{◌≡◌, ◌∙◌, sym, rules}
use Rattle.std.proofs.lemmas.Int.{to_z-of_z}
use mir.Val.{SFits}
use mir.Syntax.{w32}
use Rattle.ipdl_base.specs.declared.line.What.TheVariants as what
use Rattle.channel_model.specs.Outputs.{line_at}
use Rattle.end_parts.specs.OutputView.{with_line}
use Rattle.end_steps.proofs.FailLemmas.{failing_begins, is_fewer, has_room, failing_goes_on, failing_ends}
use Rattle.end_steps.proofs.closing.fail_all.Goals as goal

pub push_line-requires : goal.push_line-requires
push_line-requires c = has_room c.args.side c.args.stack.now c.loop-seq.stack c.args.out.now c.loop-seq.out c.in-Some.seq c.requires c.loop-seq.invariant (sym c.fail_next.ensures.number ∙ c.in-Some.is)

pub loop-seq-smaller : goal.loop-seq-smaller
loop-seq-smaller c = is_fewer c.loop-seq.stack c.fail_next.new.self c.in-Some.seq (sym c.fail_next.ensures.number ∙ c.in-Some.is) c.fail_next.ensures.failed

pub loop-seq-preserved : goal.loop-seq-preserved
loop-seq-preserved c =
    let fits : SFits w32 c.in-Some.seq = search rules in
    let says : c.push_line.new.self ≡ with_line c.loop-seq.out (line_at c.args.side (what.Fails c.in-Some.seq)) = simp to_z-of_z at c.push_line.ensures in
    failing_goes_on c.args.side c.args.stack.now c.loop-seq.stack c.fail_next.new.self c.args.out.now c.loop-seq.out c.push_line.new.self c.in-Some.seq c.requires c.loop-seq.invariant (sym c.fail_next.ensures.number ∙ c.in-Some.is) c.fail_next.ensures.failed says

pub returns : goal.returns
returns c =
    failing_ends c.args.side c.args.stack.now c.loop-seq.stack c.fail_next.new.self c.args.out.now c.loop-seq.out c.loop-seq.invariant (sym c.fail_next.ensures.number ∙ c.in_default.is) c.fail_next.ensures.failed

pub loop-seq-init : goal.loop-seq-init
loop-seq-init c = failing_begins c.args.side c.args.stack.now c.args.out.now
