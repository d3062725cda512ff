use Rattle.std.proofs.Common.{arith}
use Rattle.value_types.specs.declared.layout.TheConstants.{NEW}
use Rattle.value_codec.proofs.Lengths.{payload_length}
use Rattle.value_codec.proofs.encoding.new_frame.Goals as goal

pub frame_of-requires-clause-size : goal.frame_of-requires-clause-size
frame_of-requires-clause-size c = omega (arith, payload_length NEW c.args.schema.now c.args.message.now, c.payload_size-size.ensures)
