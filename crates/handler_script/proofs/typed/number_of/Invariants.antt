use Rattle.std.proofs.Common.{◌≡◌, ◌<◌, ◌^◌, take}
use Rattle.handler_script.specs.Terms.{number_of}
use Rattle.handler_script.proofs.typed.number_of.Given as goal

abbrev pub invariant-loop-b : goal.invariant-loop-b
invariant-loop-b l = (l.n ≡ number_of (take l.b-index l.bytes)) × (l.n < 256 ^ l.b-index)
