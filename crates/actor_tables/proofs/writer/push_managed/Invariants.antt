use Rattle.std.proofs.Common.{◌≡◌, ◌++◌, drop}
use Rattle.std.specs.List.{flat_map}
use Rattle.actor_tables.specs.TableText.{managed_text}
use Rattle.actor_tables.proofs.writer.push_managed.Given as goal

-- what is written and the text of what is left
abbrev pub invariant-loop-managed : goal.invariant-loop-managed
invariant-loop-managed l =
    l.out.items ++ flat_map (managed_text l.schema) (drop l.managed-index l.manages) ≡ l.fn.out.items ++ flat_map (managed_text l.schema) l.manages
