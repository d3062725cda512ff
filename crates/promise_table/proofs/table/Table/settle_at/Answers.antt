use Rattle.std.proofs.Common.{rules, ◌≡◌, cond, int_eq, is_some, true, refl, sym, ap, ◌∙◌, subst, SFits, w32, to_z, of_z, to_z-of_z}
use Rattle.linked_lists.specs.Links.{ends_without}
use Rattle.promise_table.specs.Table.{own_of}
use Rattle.promise_table.proofs.TableLemmas.{has_own, settle}
use Rattle.indexmap.specs.IndexMap as map
use Rattle.promise_table.proofs.table.Table.settle_at.Goals as goal

pub set_own-requires : goal.set_own-requires
set_own-requires c =
    let t = c.args.self.now in
    let fits : SFits w32 c.in-Some.actor = search rules in
    subst (λ v. is_some (map.get int_eq t.actors v) ≡ true) (sym (to_z-of_z fits))
    (has_own t c.args.key c.in-Some.all c.in-Some.own c.in-Some.actor c.requires.table c.requires.pending (sym c.in-Some.is ∙ c.set_outcome.ensures.told))

pub returns-clause-table : goal.returns-clause-table
returns-clause-table c =
    let t = c.args.self.now in
    let fits : SFits w32 c.in-Some.actor = search rules in
    let e : to_z w32 (of_z w32 c.in-Some.actor) ≡ c.in-Some.actor = to_z-of_z fits in
    settle t c.args.key c.in-Some.all c.in-Some.own c.in-Some.actor c.requires.table c.requires.pending (sym c.in-Some.is ∙ c.set_outcome.ensures.told)
    (record { nodes = c.detach-2.new.nodes; ids = t.ids; pending = c.without-self.result; actors = c.set_own.new.actors; keys = t.keys })
    c.set_outcome.new.nodes c.detach.new.nodes c.args.outcome c.set_outcome.ensures.changed c.set_outcome.ensures.others c.detach.ensures.nodes c.detach-2.ensures.nodes refl c.without-self.ensures
    (λ a. c.set_own.ensures a ∙ ap (λ v. cond (int_eq v a) c.without.result (own_of t a)) e
    ∙ ap (λ v. cond (int_eq c.in-Some.actor a) v (own_of t a)) (c.without.ensures ∙ ap (λ v. ends_without v c.in-Some.own) (c.own-ends.ensures ∙ ap (own_of t) e)))
    (λ q. refl)
