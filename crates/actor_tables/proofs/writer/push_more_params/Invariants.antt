use Rattle.std.proofs.Common.{◌≡◌, ◌++◌, drop}
use Rattle.std.specs.Prelude.{codes}
use Rattle.std.specs.List.{flat_map}
use Rattle.actor_tables.specs.TableText.{param_text}
use Rattle.actor_tables.proofs.writer.push_more_params.Given as goal

-- what is written and the text of what is left
abbrev pub invariant-loop-param : goal.invariant-loop-param
invariant-loop-param l =
    l.out.items ++ flat_map (λ p. codes ", " ++ param_text l.schema p) (drop l.param-index l.params) ≡ l.fn.out.items ++ flat_map (λ p. codes ", " ++ param_text l.schema p) l.params
