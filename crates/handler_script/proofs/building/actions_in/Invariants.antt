use Rattle.std.proofs.Common.{◌≡◌, ◌++◌, map, drop}
use Rattle.std.specs.List.{filter_map}
use Rattle.handler_script.specs.Contexts.{standing_in}
use Rattle.handler_script.specs.Plain.{plain_action}
use Rattle.handler_script.specs.ScriptOf.{action_of, inside}
use Rattle.handler_script.proofs.building.actions_in.Given as goal

-- the actions so far, and those of the lines that are left
abbrev pub invariant-loop-line : goal.invariant-loop-line
invariant-loop-line l =
    map plain_action l.actions.items ++ filter_map (action_of l.schema (standing_in l.context)) (inside (drop l.line-index l.lines)) ≡ filter_map (action_of l.schema (standing_in l.context)) (inside l.lines)
