use Rattle.std.proofs.Common.{◌≡◌, ℤ, ◌++◌, ◌∷◌, [], Some, cond, int_eq, refl, sym, ap, ◌∙◌, subst, w32, to_z, of_z, to_z-of_z}
use Rattle.std.specs.Map.{lookup}
use Rattle.slab.specs.Slab.{get, Updates}
use Rattle.linked_lists.specs.Links.{ends_with}
use Rattle.promise_table.specs.Promises.{made}
use Rattle.promise_table.specs.Table.{ends_or, own_at, node_at, own_of, id_of, promises_in}
use Rattle.promise_table.proofs.Making.{fresh_node}
use Rattle.promise_table.proofs.TableLemmas.{Holds, moved, make}
use Rattle.promise_table.proofs.table.Table.make.Goals.{After-then-self}
use Rattle.promise_table.proofs.table.Table.make.Goals as goal

pub returns-in_err-reserve-clause-table : goal.returns-in_err-reserve-clause-table
returns-in_err-reserve-clause-table c =
    let t = c.args.self.now in
    moved (node_at t) _ t.keys.keys t.keys.keys t.pending t.pending (own_of t) (own_of t) (id_of t) (id_of t)
    (λ k. ap (λ s. get s k) c.reserve.ensures.rest_kept) refl refl (λ a. refl) (λ q. refl) c.requires.table

pub returns-in_err-reserve-2-clause-table : goal.returns-in_err-reserve-2-clause-table
returns-in_err-reserve-2-clause-table c =
    let t = c.args.self.now in
    moved (node_at t) _ t.keys.keys t.keys.keys t.pending t.pending (own_of t) (own_at c.reserve-2.new.self) (id_of t) (id_of t)
    (λ k. ap (λ s. get s k) c.reserve.ensures.rest_kept) refl refl (λ a. ap (λ es. ends_or (lookup (int_eq a) es)) c.reserve-2.ensures.entries) (λ q. refl) c.requires.table

pub returns-in_err-insert-clause-table : goal.returns-in_err-insert-clause-table
returns-in_err-insert-clause-table c =
    let t = c.args.self.now in
    moved (node_at t) _ t.keys.keys t.keys.keys t.pending t.pending (own_of t) (own_at c.reserve-2.new.self) (id_of t) _
    (λ k. ap (λ s. get s k) c.reserve.ensures.rest_kept) refl refl (λ a. ap (λ es. ends_or (lookup (int_eq a) es)) c.reserve-2.ensures.entries) (λ q. ap (lookup (int_eq q)) c.in_err-insert.ensures.err) c.requires.table

done : (c : After-then-self) → Holds (record { nodes = c.attach-2.new.nodes; ids = c.insert.new.self; pending = c.with-self.result; actors = c.put_own.new.actors; keys = c.then-self.result }) (promises_in c.args.self.now ++ made c.args.seq c.args.actor ∷ [])
done c =
    let t = c.args.self.now in
    let placed = subst (λ v. Updates c.reserve.new.self c.insert_reserved.new.self c.insert_reserved.result (Some (record { promise = made (to_z w32 (of_z w32 c.args.seq)) (to_z w32 (of_z w32 c.args.actor)); all = v; own = v }))) c.none-alone.ensures c.insert_reserved.ensures.updates in
    let up = subst (λ v. Updates c.reserve.new.self c.insert_reserved.new.self c.insert_reserved.result (Some (fresh_node v c.args.actor))) (to_z-of_z c.ranges.seq)
    (subst (λ v. Updates c.reserve.new.self c.insert_reserved.new.self c.insert_reserved.result (Some (fresh_node (to_z w32 (of_z w32 c.args.seq)) v))) (to_z-of_z c.ranges.actor) placed) in
    let kept : (a : ℤ) → own_at c.reserve-2.new.self a ≡ own_of t a = λ a. ap (λ es. ends_or (lookup (int_eq a) es)) c.reserve-2.ensures.entries in
    make t (record { nodes = c.attach-2.new.nodes; ids = c.insert.new.self; pending = c.with-self.result; actors = c.put_own.new.actors; keys = c.then-self.result })
    c.reserve.new.self c.insert_reserved.new.self c.attach.new.nodes c.vacant_key-key.result c.args.seq c.args.actor c.own-ends.result
    c.requires.table c.requires.unmade (λ k. ap (λ s. get s k) c.reserve.ensures.rest_kept) c.vacant_key-key.ensures.vacant
    (subst (λ k. Updates c.reserve.new.self c.insert_reserved.new.self k (Some (fresh_node c.args.seq c.args.actor))) (c.insert_reserved.ensures.key ∙ sym c.vacant_key-key.ensures.value) up)
    c.attach.ensures.nodes c.attach-2.ensures.nodes (c.own-ends.ensures ∙ ap (own_at c.reserve-2.new.self) (to_z-of_z c.ranges.actor) ∙ kept c.args.actor) c.with-self.ensures
    (λ a. c.put_own.ensures a ∙ ap (λ v. cond (int_eq v a) c.with.result (own_at c.reserve-2.new.self a)) (to_z-of_z c.ranges.actor)
    ∙ ap (λ v. cond (int_eq c.args.actor a) v (own_at c.reserve-2.new.self a)) c.with.ensures ∙ ap (λ v. cond (int_eq c.args.actor a) (ends_with c.own-ends.result c.vacant_key-key.result) v) (kept a))
    (λ q. c.in_ok-insert.ensures.updates.0 q ∙ ap (λ v. cond (int_eq v q) (Some c.vacant_key-key.result) (id_of t q)) (to_z-of_z c.ranges.seq))
    c.then-self.ensures

pub returns-clause-table : goal.returns-clause-table
returns-clause-table c = (done (goal.at.returns-clause-table c).After-then-self).table

pub returns-clause-ok : goal.returns-clause-ok
returns-clause-ok c = (done (goal.at.returns-clause-ok c).After-then-self).promises_are
