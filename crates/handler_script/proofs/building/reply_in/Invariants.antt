use Rattle.std.proofs.Common.{◌≡◌, drop}
use Rattle.std.specs.List.{filter_map}
use Rattle.handler_script.specs.Contexts.{standing_in}
use Rattle.handler_script.specs.ScriptOf.{reply_of, first_of, inside}
use Rattle.handler_script.proofs.building.reply_in.Given as goal

-- no line so far returns values
abbrev pub invariant-loop-line : goal.invariant-loop-line
invariant-loop-line l =
    first_of (filter_map (reply_of l.schema (standing_in l.context)) (inside (drop l.line-index l.lines))) ≡ first_of (filter_map (reply_of l.schema (standing_in l.context)) (inside l.lines))
