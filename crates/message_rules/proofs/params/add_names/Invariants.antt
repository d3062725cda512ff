use Rattle.std.proofs.Common.{◌≡◌, ◌++◌, take}
use Rattle.message_rules.specs.Gathered.{plain_names, param_names}
use Rattle.message_rules.proofs.params.add_names.Given as goal

-- the names so far are after those that were there
abbrev pub invariant-loop-param : goal.invariant-loop-param
invariant-loop-param l = plain_names l.names.items ≡ plain_names l.fn.names.items ++ param_names (take l.param-index l.params)
