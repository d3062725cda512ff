use Rattle.std.proofs.Common.{◌≡◌, map, Vec, Global}
use Rattle.std.proofs.lemmas.Result.{IfOk-weaker}
use Rattle.program_schema.specs.Numbers.{AreTypes}
use Rattle.actor_tables.specs.Numbered.{decl_of, id_of_key}
use Rattle.actor_tables.specs.declared.numbers.TypeId.{TypeId}
use Rattle.actor_tables.proofs.TypeOrder.{types_of}
use Rattle.actor_tables.proofs.numbers.type_ids.Goals as goal

pub returns : goal.returns
returns c =
    IfOk-weaker c.ids_of.result (λ (ids : Vec TypeId Global). ids.items ≡ map id_of_key c.as_slice.result.now) (λ (ids : Vec TypeId Global). AreTypes c.args.program.now (map decl_of ids.items))
    (λ (ids : Vec TypeId Global) is. types_of c.args.program.now c.in_ok-type_keys.field-0.items c.sorted_keys-keys.result.items c.as_slice.result.now ids.items c.requires c.in_ok-type_keys.ensures c.sorted_keys-keys.ensures.ordered
    c.sorted_keys-keys.ensures.exact c.as_slice.ensures.value is)
    c.ids_of.ensures
