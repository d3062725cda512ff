use Rattle.std.proofs.Common.{Some, cond, int_eq, ap, ◌∙◌, ◌++◌, ◌∷◌, []}
use Rattle.std.specs.Map.{lookup}
use Rattle.ipdl_base.specs.Sides.{top_id}
use Rattle.actor_tree.proofs.TreeLemmas.{starts}
use Rattle.actor_tree.proofs.links.Links.new.Goals as goal

pub returns : goal.returns
returns c =
    starts (record { nodes = c.insert.new.self; ids = c.insert-2.new.self; keys = c.then-keys.result }) c.args.protocol c.in_ok-key.key
    c.in_ok-key.ensures.updates.changed
    (λ q. c.in_ok-insert.ensures.updates.0 q ∙ ap (λ v. cond (int_eq top_id q) (Some c.in_ok-key.key) (lookup (int_eq q) v)) c.new-ids.ensures.empty)
    (c.then-keys.ensures ∙ ap (λ v. v ++ c.in_ok-key.key ∷ []) c.new.ensures)
