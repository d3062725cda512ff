use Rattle.std.proofs.Common.{◌≡◌, ◌<◌, length, Some, arith}
use Rattle.std.specs.List.{slice_get}
use Rattle.wait_report.proofs.SoundValues.{lower-by, same-by, read-there}
use Rattle.wait_report.proofs.rounds.look_at_type.Goals as goal

pub returns-then-bytes-index : goal.returns-then-bytes-index
returns-then-bytes-index c =
    let row = c.index-as_slice-number.result in
    let there : slice_get c.args.schema.now.types c.args.number ≡ Some row = read-there c.args.schema.now.types c.args.number row c.requires.there (rw c.as_slice.ensures at c.index-as_slice-number.is) in
    let within : c.args.number < length c.args.types.now.items = omega (arith, c.requires.there, c.requires.size) in
    lower-by c.args.schema.now c.args.built.now c.args.number c.args.types.now.items row there within c.row_least-bytes.result c.index.result.now (rw c.as_slice-2.ensures.value at c.row_least-bytes.ensures) c.index.ensures c.if-bytes-index.true

pub returns-else-bytes-index : goal.returns-else-bytes-index
returns-else-bytes-index c =
    let row = c.index-as_slice-number.result in
    let there : slice_get c.args.schema.now.types c.args.number ≡ Some row = read-there c.args.schema.now.types c.args.number row c.requires.there (rw c.as_slice.ensures at c.index-as_slice-number.is) in
    let within : c.args.number < length c.args.types.now.items = omega (arith, c.requires.there, c.requires.size) in
    same-by c.args.schema.now c.args.built.now c.args.number c.args.types.now.items row there within c.row_least-bytes.result c.index.result.now (rw c.as_slice-2.ensures.value at c.row_least-bytes.ensures) c.index.ensures c.if-bytes-index.false
