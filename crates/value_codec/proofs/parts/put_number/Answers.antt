use Rattle.std.proofs.Common.{◌≡◌, ◌++◌, ℕ, ℤ, List, [], OnOk, subst, ap, ◌∙◌, arith, to_z, of_z}
use Rattle.std.proofs.lemmas.Int.{to_z-of_z}
use Rattle.std.specs.Int.{w128, cast_unsigned}
use Rattle.byteorder.specs.Endian.{little_bytes}
use Rattle.value_codec.specs.Spelling.{part}
use Rattle.value_codec.proofs.LittleEndian.{take-little_bytes}
use Rattle.value_codec.proofs.parts.put_number.Goals as goal

pub returns : goal.returns
returns c =
    let written = to_z w128 (of_z w128 c.args.number) in
    let same : written ≡ c.args.number = to_z-of_z w128 c.args.number c.ranges.number in
    let first = take-little_bytes 16 c.args.count (cast_unsigned w128 written) c.write_i128.new.buf [] (omega arith) c.write_i128.ensures ∙ ap (λ (z : ℤ). little_bytes c.args.count (cast_unsigned w128 z)) same in
    subst (λ (bytes : List ℕ). OnOk c.put_part.result (c.put_part.new.out.items ≡ c.args.out.now.items ++ part c.args.layout bytes)) first c.put_part.ensures
