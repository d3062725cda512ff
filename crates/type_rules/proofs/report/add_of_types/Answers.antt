use Rattle.std.proofs.lemmas.Result.{on_ok_weaker}
use Rattle.type_rules.proofs.Gathered.{all_broken}
use Rattle.type_rules.proofs.report.add_of_types.Goals as goal

pub returns : goal.returns
returns c =
    let same = c.as_slice-program.ensures in
    on_ok_weaker c.add_bad_attributes.result (λ last.
    all_broken c.args.program.now c.args.found.now.items c.add_broken_types.new.found.items c.add_undefined_types.new.found.items c.add_repeated_declarations.new.found.items c.add_repeated_fields.new.found.items c.add_bad_attributes.new.found.items
    (rw (c.requires.of_program, same) at c.in_ok-add_broken_types.ensures) (rw same at c.in_ok-add_undefined_types.ensures) (rw same at c.in_ok-add_repeated_declarations.ensures)
    (rw same at c.in_ok-add_repeated_fields.ensures) (rw same at last)) c.add_bad_attributes.ensures
