use Rattle.std.proofs.Common.{arith}
use Rattle.value_types.specs.declared.layout.TheConstants.{NEW}
use Rattle.value_codec.proofs.Framed.{told, has_fitting, frame_told, short_told, bad_told}
use Rattle.value_codec.proofs.decoding.decode.Goals as goal

pub returns-clause-told : goal.returns-clause-told
returns-clause-told c = told NEW c.args.schema.now c.args.bytes.now (λ i. omega (arith, c.type_inv.bytes i)) c.begun.result c.begun.ensures

pub returns-clause-frame : goal.returns-clause-frame
returns-clause-frame c = frame_told NEW c.args.schema.now c.args.bytes.now c.requires (omega arith) (λ i. omega (arith, c.type_inv.bytes i)) c.begun.result c.begun.ensures

pub returns-clause-short : goal.returns-clause-short
returns-clause-short c = short_told NEW c.args.schema.now c.args.bytes.now (λ i. omega (arith, c.type_inv.bytes i)) c.begun.result c.begun.ensures

pub returns-clause-bad : goal.returns-clause-bad
returns-clause-bad c = bad_told NEW c.args.schema.now c.args.bytes.now (λ i. omega (arith, c.type_inv.bytes i)) c.begun.result c.begun.ensures

pub returns-clause-fits : goal.returns-clause-fits
returns-clause-fits c = has_fitting NEW c.args.schema.now c.args.bytes.now c.begun.result (told NEW c.args.schema.now c.args.bytes.now (λ i. omega (arith, c.type_inv.bytes i)) c.begun.result c.begun.ensures)
