use Rattle.std.proofs.Common.{◌≡◌, ◌++◌, drop}
use Rattle.std.specs.List.{flat_map}
use Rattle.actor_tables.specs.TableText.{manager_text}
use Rattle.actor_tables.proofs.writer.push_managers.Given as goal

-- what is written and the text of what is left
abbrev pub invariant-loop-manager : goal.invariant-loop-manager
invariant-loop-manager l =
    l.out.items ++ flat_map (manager_text l.schema) (drop l.manager-index l.managers) ≡ l.fn.out.items ++ flat_map (manager_text l.schema) l.managers
