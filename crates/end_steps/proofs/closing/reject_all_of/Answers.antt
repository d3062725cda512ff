use Rattle.std.proofs.Common.{◌≡◌, ℤ, Some, None, ◌∙◌, sym, subst, rules}
use Rattle.std.proofs.lemmas.Int.{to_z-of_z}
use mir.Val.{SFits, to_z, of_z}
use mir.Syntax.{w32}
use Rattle.ipdl_base.specs.declared.line.What.TheVariants as what
use Rattle.ipdl_base.specs.declared.kinds.Reason.TheVariants.{ActorDestroyed}
use Rattle.promise_table.specs.Promises.{is_pending_of}
use Rattle.channel_model.specs.Outputs.{line_at}
use Rattle.end_parts.specs.PromiseRequests.{oldest_of, with_oldest_rejected}
use Rattle.end_parts.specs.OutputView.{with_line}
use Rattle.end_steps.proofs.RejectionLemmas.{has_room, is_fewer, goes_on, is_over, begins, agree_of}
use Rattle.end_steps.proofs.RejectionLemmas.{has_room, is_fewer, goes_on, is_over, begins, agree_of}
use Rattle.end_steps.proofs.closing.reject_all_of.Goals as goal

pub push_line-requires : goal.push_line-requires
push_line-requires c =
    let id = c.args.actor.now.id in
    let fits : SFits w32 id = search rules in
    let back : to_z w32 (of_z w32 id) ≡ id = to_z-of_z w32 id fits in
    let found : oldest_of (is_pending_of id) c.loop-seq.promises ≡ Some c.in-Some.seq = subst (λ (a : ℤ). oldest_of (is_pending_of a) c.loop-seq.promises ≡ Some c.in-Some.seq) back (sym c.reject_next_of.ensures.oldest ∙ c.in-Some.is) in
    has_room c.args.side (is_pending_of id) (is_pending_of id) (agree_of id) ActorDestroyed c.args.promises.now c.loop-seq.promises c.args.out.now c.loop-seq.out c.in-Some.seq c.requires c.loop-seq.invariant found

pub loop-seq-smaller : goal.loop-seq-smaller
loop-seq-smaller c =
    let id = c.args.actor.now.id in
    let fits : SFits w32 id = search rules in
    let back : to_z w32 (of_z w32 id) ≡ id = to_z-of_z w32 id fits in
    let found : oldest_of (is_pending_of id) c.loop-seq.promises ≡ Some c.in-Some.seq = subst (λ (a : ℤ). oldest_of (is_pending_of a) c.loop-seq.promises ≡ Some c.in-Some.seq) back (sym c.reject_next_of.ensures.oldest ∙ c.in-Some.is) in
    let now : c.reject_next_of.new.self ≡ with_oldest_rejected (is_pending_of id) ActorDestroyed c.loop-seq.promises = subst (λ (a : ℤ). c.reject_next_of.new.self ≡ with_oldest_rejected (is_pending_of a) ActorDestroyed c.loop-seq.promises) back c.reject_next_of.ensures.rejected in
    is_fewer (is_pending_of id) (is_pending_of id) (agree_of id) ActorDestroyed c.loop-seq.promises c.reject_next_of.new.self c.in-Some.seq found now

pub loop-seq-preserved : goal.loop-seq-preserved
loop-seq-preserved c =
    let id = c.args.actor.now.id in
    let fits : SFits w32 id = search rules in
    let back : to_z w32 (of_z w32 id) ≡ id = to_z-of_z w32 id fits in
    let found : oldest_of (is_pending_of id) c.loop-seq.promises ≡ Some c.in-Some.seq = subst (λ (a : ℤ). oldest_of (is_pending_of a) c.loop-seq.promises ≡ Some c.in-Some.seq) back (sym c.reject_next_of.ensures.oldest ∙ c.in-Some.is) in
    let now : c.reject_next_of.new.self ≡ with_oldest_rejected (is_pending_of id) ActorDestroyed c.loop-seq.promises = subst (λ (a : ℤ). c.reject_next_of.new.self ≡ with_oldest_rejected (is_pending_of a) ActorDestroyed c.loop-seq.promises) back c.reject_next_of.ensures.rejected in
    let seq_fits : SFits w32 c.in-Some.seq = search rules in
    let says : c.push_line.new.self ≡ with_line c.loop-seq.out (line_at c.args.side (what.Rejected c.in-Some.seq ActorDestroyed)) = simp (to_z-of_z, seq_fits) at c.push_line.ensures in
    goes_on c.args.side (is_pending_of id) (is_pending_of id) (agree_of id) ActorDestroyed c.args.promises.now c.loop-seq.promises c.reject_next_of.new.self c.args.out.now c.loop-seq.out c.push_line.new.self c.in-Some.seq c.requires c.loop-seq.invariant found now says

pub returns : goal.returns
returns c =
    let id = c.args.actor.now.id in
    let fits : SFits w32 id = search rules in
    let back : to_z w32 (of_z w32 id) ≡ id = to_z-of_z w32 id fits in
    let found : oldest_of (is_pending_of id) c.loop-seq.promises ≡ None = subst (λ (a : ℤ). oldest_of (is_pending_of a) c.loop-seq.promises ≡ None) back (sym c.reject_next_of.ensures.oldest ∙ c.in_default.is) in
    let now : c.reject_next_of.new.self ≡ with_oldest_rejected (is_pending_of id) ActorDestroyed c.loop-seq.promises = subst (λ (a : ℤ). c.reject_next_of.new.self ≡ with_oldest_rejected (is_pending_of a) ActorDestroyed c.loop-seq.promises) back c.reject_next_of.ensures.rejected in
    is_over c.args.side (is_pending_of id) (is_pending_of id) (agree_of id) ActorDestroyed c.args.promises.now c.loop-seq.promises c.reject_next_of.new.self c.args.out.now c.loop-seq.out c.loop-seq.invariant found now

pub loop-seq-init : goal.loop-seq-init
loop-seq-init c = begins c.args.side (is_pending_of c.args.actor.now.id) ActorDestroyed c.args.promises.now c.args.out.now
