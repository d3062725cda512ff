use Rattle.std.proofs.Common.{◌≡◌, ◌+◌, ◌<◌, length, min, Some, ap, ◌∙◌, arith}
use Rattle.std.specs.List.{Contains, slice_get}
use Rattle.ipdl_base.specs.declared.schema.Shape.{Shape}
use Rattle.ipdl_base.specs.declared.schema.TypeRow.{TypeRow}
use Rattle.ipdl_base.specs.declared.schema.TypeRow.TheVariants.{Union}
use Rattle.wait_report.specs.Least.{too_many, least_of}
use Rattle.wait_report.proofs.Looks.{in-list}
use Rattle.wait_report.proofs.SoundValues.{component-spreads, read-there}
use Rattle.wait_report.proofs.spread.look_at_component.Goals as goal

pub returns-then-bytes-index : goal.returns-then-bytes-index
returns-then-bytes-index c =
    let row = c.index-as_slice-number.result in
    let found : slice_get c.args.schema.now.types c.args.number ≡ Some row = read-there c.args.schema.now.types c.args.number row c.requires.there (rw c.as_slice.ensures at c.index-as_slice-number.is) in
    let components = c.in-Union.components in
    let component : Shape = c.in-Some.component.now in
    let name = c.in-Union.field-0 in
    let is : slice_get c.args.schema.now.types c.args.number ≡ Some (Union name components) = found ∙ ap (λ (r : TypeRow). Some r) c.in-Union.is in
    let read = rw c.as_slice-2.ensures at c.in-Some.ensures.lookup in
    let there : Contains components component = in-list components c.args.index component read.3.0 read.1 in
    let within : c.args.number < length c.args.types.now.items = omega (arith, c.requires.there, c.requires.size) in
    let least : c.least_of.result ≡ least_of c.args.types.now.items c.args.built.now component = rw c.as_slice-3.ensures.value at c.least_of.ensures in
    let bytes : c.min-bytes.result ≡ min too_many (4 + least_of c.args.types.now.items c.args.built.now component) = omega (arith, least, c.saturating_add.ensures, c.min-bytes.ensures) in
    component-spreads c.args.schema.now c.args.built.now c.args.number c.args.types.now.items name components component c.min-bytes.result c.index.result.now is there within bytes c.index.ensures c.if-bytes-index.true
