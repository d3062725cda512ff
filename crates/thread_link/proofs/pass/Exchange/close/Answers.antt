use Rattle.std.proofs.Common.{◌≡◌, ◌∙◌, List, Option, ap, sym, subst, arith, inl, inr}
use Rattle.atomic_table.specs.Table.{Me}
use Rattle.ipdl_base.specs.declared.kinds.Side.{Side}
use Rattle.ipdl_base.specs.declared.kinds.Side.TheVariants as sides
use Rattle.ipdl_base.specs.declared.line.Line.{Line}
use Rattle.thread_link.proofs.Ends.{closed, closes, wholes}
use Rattle.thread_link.proofs.Fronts.{longer}
use Rattle.thread_link.proofs.pass.Exchange.close.Goals as goal
use Rattle.thread_link.specs.declared.parts.SeatView.{SeatView}
use Rattle.thread_link.specs.declared.parts.SharedLink.{SharedLink}
use Rattle.thread_link.specs.declared.pass.Pass.{Pass}
use Rattle.thread_link.specs.Fronts.{HasSeen}
use Rattle.thread_link.specs.LinkRule.{seen_by}
use Rattle.thread_link.specs.Passes.{about, seen}
use Rattle.thread_link.specs.Seats.{IsSeatOf}

seat-of : (pass : Pass) (side : Side) → pass.side ≡ side → IsSeatOf side pass.seat
seat-of pass side e = subst (λ (d : Side). IsSeatOf d pass.seat) e pass.is_pass

seen-is : (pass : Pass) (side : Side) → pass.side ≡ side → seen pass ≡ seen_by side pass.seat.me.0
seen-is pass side e = ap (λ (d : Side). seen_by d pass.seat.me.0) e

pub join_seat-requires : goal.join_seat-requires
join_seat-requires c =
    let p = seat-of c.args.parent sides.Parent c.requires.parent.1 in
    let k = seat-of c.args.child sides.Child c.requires.child.1 in (
      c.requires.parent.0.table,
      c.requires.child.0.table,
      k.empty,
      omega (arith, c.args.self.shape.0),
      wholes (about c.args.self) c.args.parent.seat.id c.args.parent.seat.me.0 c.args.child.seat.id c.args.child.seat.me.0 p.is_of k.is_of p.free k.free,
    )

pub unreachable-requires : goal.unreachable-requires
unreachable-requires c =
    let e = closes (about c.args.self) c.join_seat.new.seat.id c.args.parent.seat.me.0 c.args.child.seat.me.0 c.join_seat.new.seat.me _ _ c.take.result (ap (λ (m : Me (Option SharedLink) SeatView). m.0) c.join_seat.ensures.2) c.close_with-closed.ensures.values.2 c.take.ensures.value in
    c.in_default.not-Some e.0 e.1

pub returns-clause-home : goal.returns-clause-home
returns-clause-home c =
    (closed (about c.args.self) c.join_seat.new.seat.id c.args.parent.seat.me.0 c.args.child.seat.me.0 c.join_seat.new.seat.me _ _ c.take.result c.in-Some.shared c.link_of.result c.in-Some.is c.link_of.ensures (ap (λ (m : Me (Option SharedLink) SeatView). m.0) c.join_seat.ensures.2) c.close_with-closed.ensures.values.2 c.take.ensures.value).home

pub returns-clause-parent_seen : goal.returns-clause-parent_seen
returns-clause-parent_seen c =
    subst (λ (ls : List Line). HasSeen sides.Parent ls c.link_of.result.lines) (sym (seen-is c.args.parent sides.Parent c.requires.parent.1))
    (closed (about c.args.self) c.join_seat.new.seat.id c.args.parent.seat.me.0 c.args.child.seat.me.0 c.join_seat.new.seat.me _ _ c.take.result c.in-Some.shared c.link_of.result c.in-Some.is c.link_of.ensures (ap (λ (m : Me (Option SharedLink) SeatView). m.0) c.join_seat.ensures.2) c.close_with-closed.ensures.values.2 c.take.ensures.value).parent_seen

pub returns-clause-child_seen : goal.returns-clause-child_seen
returns-clause-child_seen c =
    subst (λ (ls : List Line). HasSeen sides.Child ls c.link_of.result.lines) (sym (seen-is c.args.child sides.Child c.requires.child.1))
    (closed (about c.args.self) c.join_seat.new.seat.id c.args.parent.seat.me.0 c.args.child.seat.me.0 c.join_seat.new.seat.me _ _ c.take.result c.in-Some.shared c.link_of.result c.in-Some.is c.link_of.ensures (ap (λ (m : Me (Option SharedLink) SeatView). m.0) c.join_seat.ensures.2) c.close_with-closed.ensures.values.2 c.take.ensures.value).child_seen

pub returns-clause-longer : goal.returns-clause-longer
returns-clause-longer c =
    let e = closed (about c.args.self) c.join_seat.new.seat.id c.args.parent.seat.me.0 c.args.child.seat.me.0 c.join_seat.new.seat.me _ _ c.take.result c.in-Some.shared c.link_of.result c.in-Some.is c.link_of.ensures (ap (λ (m : Me (Option SharedLink) SeatView). m.0) c.join_seat.ensures.2) c.close_with-closed.ensures.values.2 c.take.ensures.value in
    elim (longer c.args.parent.seat.me.0.parent_seen c.args.child.seat.me.0.child_seen c.link_of.result.lines e.parent_seen e.child_seen) [
      | inl h ↦ inl (h ∙ sym (seen-is c.args.parent sides.Parent c.requires.parent.1))
      | inr h ↦ inr (h ∙ sym (seen-is c.args.child sides.Child c.requires.child.1))
    ]
