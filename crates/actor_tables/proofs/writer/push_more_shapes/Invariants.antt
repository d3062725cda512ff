use Rattle.std.proofs.Common.{◌≡◌, ◌++◌, drop}
use Rattle.std.specs.Prelude.{codes}
use Rattle.std.specs.List.{flat_map}
use Rattle.actor_tables.specs.TableText.{shape_text}
use Rattle.actor_tables.proofs.writer.push_more_shapes.Given as goal

-- what is written and the text of what is left
abbrev pub invariant-loop-shape : goal.invariant-loop-shape
invariant-loop-shape l =
    l.out.items ++ flat_map (λ s. codes ", " ++ shape_text l.schema s) (drop l.shape-index l.shapes) ≡ l.fn.out.items ++ flat_map (λ s. codes ", " ++ shape_text l.schema s) l.shapes
