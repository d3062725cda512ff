use Rattle.std.proofs.Common.{◌≡◌, true, ◌∙◌, sym, rules}
use Rattle.std.proofs.lemmas.Int.{to_z-of_z}
use mir.Val.{SFits}
use mir.Syntax.{w32}
use Rattle.ipdl_base.specs.declared.line.What.TheVariants as what
use Rattle.channel_model.specs.Outputs.{line_at}
use Rattle.ipdl_base.specs.declared.kinds.Reason.TheVariants.{ChannelClosed}
use Rattle.promise_table.specs.Promises.{is_pending}
use Rattle.end_parts.specs.OutputView.{with_line}
use Rattle.end_steps.proofs.RejectionLemmas.{has_room, is_fewer, goes_on, is_over, begins, agree_all}
use Rattle.end_steps.proofs.RejectionLemmas.{has_room, is_fewer, goes_on, is_over, begins, agree_all}
use Rattle.end_steps.proofs.closing.reject_all.Goals as goal

pub push_line-requires : goal.push_line-requires
push_line-requires c = has_room c.args.side is_pending (λ p. true) agree_all ChannelClosed c.args.promises.now c.loop-seq.promises c.args.out.now c.loop-seq.out c.in-Some.seq c.requires c.loop-seq.invariant (sym c.reject_next.ensures.oldest ∙ c.in-Some.is)

pub loop-seq-smaller : goal.loop-seq-smaller
loop-seq-smaller c = is_fewer is_pending (λ p. true) agree_all ChannelClosed c.loop-seq.promises c.reject_next.new.self c.in-Some.seq (sym c.reject_next.ensures.oldest ∙ c.in-Some.is) c.reject_next.ensures.rejected

pub loop-seq-preserved : goal.loop-seq-preserved
loop-seq-preserved c =
    let fits : SFits w32 c.in-Some.seq = search rules in
    let says : c.push_line.new.self ≡ with_line c.loop-seq.out (line_at c.args.side (what.Rejected c.in-Some.seq ChannelClosed)) = simp to_z-of_z at c.push_line.ensures in
    goes_on c.args.side is_pending (λ p. true) agree_all ChannelClosed c.args.promises.now c.loop-seq.promises c.reject_next.new.self c.args.out.now c.loop-seq.out c.push_line.new.self c.in-Some.seq c.requires c.loop-seq.invariant
    (sym c.reject_next.ensures.oldest ∙ c.in-Some.is) c.reject_next.ensures.rejected says

pub returns : goal.returns
returns c =
    is_over c.args.side is_pending (λ p. true) agree_all ChannelClosed c.args.promises.now c.loop-seq.promises c.reject_next.new.self c.args.out.now c.loop-seq.out c.loop-seq.invariant
    (sym c.reject_next.ensures.oldest ∙ c.in_default.is) c.reject_next.ensures.rejected

pub loop-seq-init : goal.loop-seq-init
loop-seq-init c = begins c.args.side (λ p. true) ChannelClosed c.args.promises.now c.args.out.now
