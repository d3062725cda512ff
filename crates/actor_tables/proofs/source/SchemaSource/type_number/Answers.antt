use Rattle.std.proofs.Common.{◌≡◌, sym, slice_get, Some}
use Rattle.std.specs.HashMap.{get}
use Rattle.actor_tables.specs.Numbered.{same_id}
use Rattle.actor_tables.proofs.Lookups.{never_none, number_of_type, type_number}
use Rattle.actor_tables.proofs.source.SchemaSource.type_number.Goals as goal

pub unreachable-requires : goal.unreachable-requires
unreachable-requires c =
    never_none (λ number. slice_get c.args.self.now.numbers.types.items number ≡ Some c.args.id) (get same_id c.args.self.now.numbers.of_types c.args.id) (sym c.in-None.ensures.value)
    (number_of_type c.args.self.now.program.now c.args.self.now.numbers c.args.id c.requires.source.numbers c.requires.there)

pub returns : goal.returns
returns c = type_number c.args.self.now.program.now c.args.self.now.numbers c.args.id c.in-Some.number.now c.requires.source.numbers c.requires.there c.in-Some.ensures.value
