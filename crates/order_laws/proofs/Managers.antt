-- In every run the manager of each living actor lives.
use Rattle.std.proofs.Common.{◌≡◌, inl, inr, true, List, [], ◌∷◌, ◌++◌, subst, append_assoc}
use Rattle.std.specs.List.{AllByRecursion}
use Rattle.actor_tree.specs.declared.actor.Actor.{Actor}
use Rattle.actor_tree.specs.Tree.{lives, IsTree, AreMadeAfter}
use Rattle.actor_tree.proofs.Ids.{has, lives-true, Has-left}
use Rattle.channel_model.specs.Ends.{end_of}
use Rattle.channel_laws.specs.Laws.{world_of}
use Rattle.order_laws.specs.DueEffects.{IsManaged, ManagersLive}
use Rattle.order_laws.proofs.Farewells.{reads-in-run}

made-managed : (older later : List Actor) → AreMadeAfter older later → AllByRecursion (IsManaged (older ++ later)) later
made-managed older [] h = tt
made-managed older (a ∷ later) h =
    let alive : lives a.manager older ≡ true = h.1 in
    (inr (lives-true a.manager (older ++ a ∷ later) (Has-left a.manager older (a ∷ later) (has a.manager older alive))), subst (λ (all : List Actor). AllByRecursion (IsManaged all) later) (append_assoc older (a ∷ []) later) (made-managed (older ++ a ∷ []) later h.2))

pub tree-managed : (actors : List Actor) → IsTree actors → AllByRecursion (IsManaged actors) actors
tree-managed [] h = tt
tree-managed (a ∷ later) h = (inl h.0, made-managed (a ∷ []) later h.1)

pub managers_live : ManagersLive
managers_live schema sound protocol moves side = tree-managed (end_of side (world_of schema protocol moves)).actors (reads-in-run schema sound protocol moves side).ids.tree
