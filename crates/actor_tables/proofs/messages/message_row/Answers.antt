use Rattle.std.proofs.Common.{List, Option, subst, sym, refl, ◌∙◌}
use Rattle.ipdl_base.specs.declared.schema.ParamRow.{ParamRow}
use Rattle.ipdl_syntax.specs.declared.tree.Param.{Param}
use Rattle.program_schema.specs.SchemaOf.{AreParamRows, AreReturnRows}
use Rattle.actor_tables.specs.Numbered.{numbering_of}
use Rattle.actor_tables.proofs.Rowed.{carried_like}
use Rattle.actor_tables.proofs.messages.message_row.Goals as goal

pub returns : goal.returns
returns c =
    let program = c.args.source.now.program.now in
    let n = numbering_of c.args.source.now.numbers in
    record {
      number_is = refl;
      name = c.in_ok-copy.ensures.ok;
      direction = refl;
      semantics = refl;
      level = c.message_level.ensures;
      compress = c.compress_of.ensures;
      kind_is = c.row_kind.ensures;
      params = subst (λ (rows : List ParamRow). AreParamRows program n c.args.of.now.file c.args.message.now.params rows) (sym c.from_vec.ensures)
          (subst (λ (params : List Param). AreParamRows program n c.args.of.now.file params c.in_ok-params.params.items) c.as_slice.ensures c.in_ok-params.ensures);
      returns = subst (λ (o : Option (List Param)). AreReturnRows program n c.args.of.now.file o c.in_ok-returns.returns) c.as_ref.ensures.value c.in_ok-returns.ensures;
      carried = carried_like c.args.types.now.rows.items c.as_slice-2.result.now c.from_vec.result _ c.in_ok-returns.returns c.are_carried-carried.result
          (c.as_slice-2.ensures.value ∙ sym c.from_vec.ensures) c.as_ref-2.ensures.value c.are_carried-carried.ensures;
      lazy = c.is_lazy.ensures;
    }
