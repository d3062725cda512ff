use Rattle.std.proofs.Common.{◌+◌, ◌∙◌, ap, refl, length, length-append, arith, subst, List}
use Rattle.std.specs.List.{Any}
use Rattle.std.proofs.lemmas.Option.{slice_get_read}
use Rattle.ipdl_syntax.specs.declared.program.Entry.{Entry}
use Rattle.name_table.specs.Decls.{FindsOneProtocol}
use Rattle.manager_rules.specs.Rows.{IsRow}
use Rattle.manager_rules.specs.Sides.{names_in}
use Rattle.manager_rules.proofs.Bonds.{rows_more}
use Rattle.manager_rules.proofs.rows.rows.Goals as goal

pub loop-file-preserved : goal.loop-file-preserved
loop-file-preserved c =
    let program = c.args.program.now in
    let file = c.loop-file.file in
    let row = c.in_ok-row_of.field-0 in
    let more = c.in_ok-push.ensures.items in
    let at = slice_get_read program (length program) file c.index-program-file.result refl c.loop-file-test.true c.index-program-file.is in
    let P : List Entry → Type 0 = λ p. IsRow (λ other. Any (λ n. FindsOneProtocol p file n.name other) (names_in c.args.side c.index-program-file.result)) row in
    let is = subst P c.requires.of_program (rw c.names_in.ensures at c.in_ok-row_of.ensures) in
    record {
      size = ap length more ∙ length-append _ _ ∙ ap (λ n. n + 1) c.loop-file.invariant.size;
      row = rows_more c.args.side program c.loop-file.rows.items file c.index-program-file.result row _ at c.loop-file.invariant.size more c.loop-file.invariant.row is;
    }

pub returns : goal.returns
returns c = record {
  size = omega (arith, c.loop-file.invariant.size);
  row = c.loop-file.invariant.row;
}
