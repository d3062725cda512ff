use Rattle.slab.specs.Slab.{Updates}
use Rattle.std.proofs.Common.{Some, subst, ◌+◌, ◌-◌, ◌++◌, ◌∷◌, [], refl, ap, ◌∙◌, length, length-append, arith}
use Rattle.pending_queue.specs.Classes.{with_ends}
use Rattle.pending_queue.specs.Queue.{keys_of, items_in}
use Rattle.pending_queue.proofs.QueueLemmas.{Holds, put}
use Rattle.pending_queue.proofs.queue.Queue.put.Goals.{After-then-self}
use Rattle.pending_queue.proofs.queue.Queue.put.Goals as goal

done : (c : After-then-self) → Holds (record { nodes = c.join_alike.new.nodes; lasts = c.join_alike.new.lasts; arrival = c.with-self.result; classes = c.set.new.self; stamp = c.args.self.now.stamp + 1; spare = c.args.self.now.spare - 1; keys = c.then-self.result }) (items_in c.args.self.now ++ c.args.item ∷ [])
done c =
    put c.args.self.now (record { nodes = c.join_alike.new.nodes; lasts = c.join_alike.new.lasts; arrival = c.with-self.result; classes = c.set.new.self; stamp = c.args.self.now.stamp + 1; spare = c.args.self.now.spare - 1; keys = c.then-self.result })
    c.insert_reserved-key.new.self c.attach.new.nodes c.attach-2.new.nodes c.insert_reserved-key.result c.args.item c.class_of-class.result c.likeness_of-likeness.result c.ends-ends.result
    c.requires.queue c.class_of-class.ensures c.likeness_of-likeness.ensures c.ends-ends.ensures
    c.insert_reserved-key.ensures.was_vacant
    (subst (λ v. Updates c.args.self.now.nodes c.insert_reserved-key.new.self c.insert_reserved-key.result (Some (record { item = c.args.item; stamp = c.args.self.now.stamp; arrival = v; class = v; alike = v }))) c.none-alone.ensures c.insert_reserved-key.ensures.updates)
    c.attach.ensures.nodes c.attach-2.ensures.nodes c.join_alike.ensures.nodes
    c.with-self.ensures (c.set.ensures ∙ ap (λ v. with_ends c.class_of-class.result v c.args.self.now.classes) c.with.ensures) c.join_alike.ensures.lasts c.then-self.ensures refl

pub returns-clause-queue : goal.returns-clause-queue
returns-clause-queue c = record {
  linked = (done (goal.at.returns-clause-queue c).After-then-self).linked;
  len = omega (arith, length-append (keys_of c.args.self.now) (c.insert_reserved-key.result ∷ []), ap length c.then-self.ensures);
  nodes = omega arith;
  lasts = omega arith;
  stamps = omega arith;
}

pub returns-clause-items : goal.returns-clause-items
returns-clause-items c = (done (goal.at.returns-clause-items c).After-then-self).items_are
