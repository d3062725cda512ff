use Rattle.std.proofs.Common.{◌≡◌, ◌<◌, ℕ, [], length, refl, ap, subst, ◌∙◌, arith}
use Rattle.ipdl_base.specs.declared.line.What.TheVariants as what
use Rattle.channel_model.specs.Events as event
use Rattle.channel_model.specs.Outputs.{line_at}
use Rattle.end_parts.specs.OutputView.{with_line}
use Rattle.channel_core.specs.EndView.{EndView}
use Rattle.channel_core.specs.Steps.{IsStep}
use Rattle.channel_core.proofs.EndViews.{seen_in}
use Rattle.channel_core.proofs.FlushLemmas.{CodeFlushes, flushes, has_line, flush_room, may_flush_some}
use Rattle.channel_core.proofs.MadeLemmas.{seen_as, made_step, made_inside}
use Rattle.channel_core.proofs.TrackLemmas.{tracks_begin}
use Rattle.channel_core.proofs.end.End.flush.Goals as goal

pub push_line-requires : goal.push_line-requires
push_line-requires c =
    let some : 0 < length c.self.inside.out.outbox = omega (arith, c.waiting-count.ensures) in
    has_line (seen_in c.self.inside) c.self.inside.out c.self.invariant some

pub invariant_of-self : goal.invariant_of-self
invariant_of-self c =
    let some : 0 < length c.self.inside.out.outbox = omega (arith, c.waiting-count.ensures) in
    let v = seen_in c.self.inside in
    let out = c.self.inside.out in
    let says : c.push_line.new.self ≡ with_line out (line_at v.end.side (what.Flush (length v.end.outbox))) = c.push_line.ensures ∙ ap (λ (n : ℕ). with_line out (line_at v.end.side (what.Flush n))) c.waiting-count.ensures in
    let h : CodeFlushes v out c.push_line.new.self c.pay.new.self c.flush.new.self = record { says = says; pays = c.pay.ensures; flushes = c.flush.ensures } in
    let e = record v.end { outbox = c.flush.new.self.outbox } in
    let made = flushes v out c.push_line.new.self c.pay.new.self c.flush.new.self (may_flush_some v.schema v.end out c.self.invariant some) (tracks_begin v out refl refl refl c.self.invariant) h in
    made_inside v [] event.flush e out c.flush.new.self made c.self.invariant c.self.invariant.kept.few tt (flush_room v out c.push_line.new.self c.pay.new.self c.flush.new.self some refl c.self.invariant h)

pub returns-clause-flushed : goal.returns-clause-flushed
returns-clause-flushed c = λ may.
    let some : 0 < length c.self.inside.out.outbox = omega (arith, c.waiting-count.ensures) in
    let v = seen_in c.self.inside in
    let out = c.self.inside.out in
    let says : c.push_line.new.self ≡ with_line out (line_at v.end.side (what.Flush (length v.end.outbox))) = c.push_line.ensures ∙ ap (λ (n : ℕ). with_line out (line_at v.end.side (what.Flush n))) c.waiting-count.ensures in
    let h : CodeFlushes v out c.push_line.new.self c.pay.new.self c.flush.new.self = record { says = says; pays = c.pay.ensures; flushes = c.flush.ensures } in
    let e = record v.end { outbox = c.flush.new.self.outbox } in
    let made = flushes v out c.push_line.new.self c.pay.new.self c.flush.new.self (may_flush_some v.schema v.end out c.self.invariant some) (tracks_begin v out refl refl refl c.self.invariant) h in (
      subst (λ (s : EndView). IsStep s event.flush (seen_as v e c.flush.new.self)) c.self.view_is (made_step v [] event.flush e c.flush.new.self made),
      c.waiting-count.ensures ∙ ap (λ (s : EndView). length s.end.outbox) c.self.view_is,
    )
