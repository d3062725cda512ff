use Rattle.std.proofs.Common.{refl, ap, ◌∙◌, arith}
use Rattle.slab.specs.Slab.{slab_len}
use Rattle.pending_queue.proofs.QueueLemmas.{reserved, room_grows}
use Rattle.pending_queue.proofs.queue.Queue.reserve.Goals as goal

pub returns-in_err-reserve-clause-queue : goal.returns-in_err-reserve-clause-queue
returns-in_err-reserve-clause-queue c =
    let q = c.args.self.now in
    let grows = room_grows q.nodes c.reserve.new.self c.reserve.ensures.rest_kept c.reserve.ensures.capacity in
    record {
      linked = reserved q.nodes c.reserve.new.self q.lasts q.lasts q.keys.keys q.arrival q.classes q.stamp c.reserve.ensures.rest_kept refl c.requires.linked;
      len = ap slab_len c.reserve.ensures.rest_kept ∙ c.requires.len;
      nodes = omega arith;
      lasts = omega arith;
      stamps = omega arith;
    }

pub returns-in_err-reserve-2-clause-queue : goal.returns-in_err-reserve-2-clause-queue
returns-in_err-reserve-2-clause-queue c =
    let q = c.args.self.now in
    let grows = room_grows q.nodes c.reserve.new.self c.reserve.ensures.rest_kept c.reserve.ensures.capacity in
    let more = c.reserve-2.ensures.room.0 in
    record {
      linked = reserved q.nodes c.reserve.new.self q.lasts c.reserve-2.new.self q.keys.keys q.arrival q.classes q.stamp c.reserve.ensures.rest_kept c.reserve-2.ensures.entries c.requires.linked;
      len = ap slab_len c.reserve.ensures.rest_kept ∙ c.requires.len;
      nodes = omega arith;
      lasts = omega arith;
      stamps = omega arith;
    }

pub returns-clause-queue : goal.returns-clause-queue
returns-clause-queue c =
    let q = c.args.self.now in
    let room = c.in_ok-reserve.ensures.room in
    let more = c.in_ok-reserve-2.ensures.ok in
    record {
      linked = reserved q.nodes c.reserve.new.self q.lasts c.reserve-2.new.self q.keys.keys q.arrival q.classes q.stamp c.reserve.ensures.rest_kept c.reserve-2.ensures.entries c.requires.linked;
      len = ap slab_len c.reserve.ensures.rest_kept ∙ c.requires.len;
      nodes = omega arith;
      lasts = omega arith;
      stamps = omega arith;
    }
