use Rattle.std.proofs.Common.{take}
use Rattle.least_fixed_points.specs.Marking.{AddsUsers}
use Rattle.least_fixed_points.proofs.users.add_users.Given as goal

-- the parts so far have the user
abbrev pub invariant-loop-part : goal.invariant-loop-part
invariant-loop-part l = AddsUsers (take l.part-index l.parts) l.user l.fn.users.items l.users.items
