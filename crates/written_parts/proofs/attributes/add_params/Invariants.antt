use Rattle.std.proofs.Common.{take}
use Rattle.written_parts.specs.Appends.{Appends}
use Rattle.written_parts.specs.Attributes.{told, lists_of_params}
use Rattle.written_parts.proofs.attributes.add_params.Given as goal

-- those so far are listed
abbrev pub invariant-loop-param : goal.invariant-loop-param
invariant-loop-param l = Appends told (lists_of_params (take l.param-index l.params)) l.fn.lists.items l.lists.items
