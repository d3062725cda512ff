use Rattle.std.proofs.Common.{◌≡◌, drop}
use Rattle.std.specs.Prelude.{filter, slice_get}
use Rattle.handler_script.specs.Served.{serves}
use Rattle.handler_script.proofs.action.block_at.Given as goal

abbrev pub invariant-loop-block : goal.invariant-loop-block
invariant-loop-block l = slice_get (filter (serves l.side l.handled) (drop l.block-index l.blocks)) l.left ≡ slice_get (filter (serves l.side l.handled) l.blocks) l.at
