use Rattle.std.proofs.Common.{◌∙◌, ◌∷◌, [], ap, sym, map}
use Rattle.name_table.specs.declared.decl.DeclId.TheVariants.{Protocol}
use Rattle.name_table.specs.Rows.{protocol_in}
use Rattle.name_table.proofs.Listing.{lists_file, lists_none}
use Rattle.name_table.proofs.rows.declare_file.Goals as goal

pub returns-in_ok-declare : goal.returns-in_ok-declare
returns-in_ok-declare c =
    lists_file c.args.file c.args.entry.now _ _ _ _ c.args.rows.now c.declare_usings.new.rows c.declare_structs.new.rows c.declare_unions.new.rows c.declare.new.rows
    (ap (map (λ d. d.full)) c.as_slice.ensures) (ap (map (λ d. d.full)) c.as_slice-2.ensures) (ap (map (λ d. d.full)) c.as_slice-3.ensures)
    (ap (λ f. (Protocol c.args.file, f) ∷ []) c.as_slice-in-Some.ensures ∙ ap (protocol_in c.args.file) (sym c.in-Some.is))
    c.in_ok-declare_usings.ensures c.in_ok-declare_structs.ensures c.in_ok-declare_unions.ensures c.in_ok-declare.ensures

pub returns-in_default : goal.returns-in_default
returns-in_default c =
    lists_file c.args.file c.args.entry.now _ _ _ _ c.args.rows.now c.declare_usings.new.rows c.declare_structs.new.rows c.declare_unions.new.rows c.declare_unions.new.rows
    (ap (map (λ d. d.full)) c.as_slice.ensures) (ap (map (λ d. d.full)) c.as_slice-2.ensures) (ap (map (λ d. d.full)) c.as_slice-3.ensures)
    (ap (protocol_in c.args.file) (sym c.in_default.is))
    c.in_ok-declare_usings.ensures c.in_ok-declare_structs.ensures c.in_ok-declare_unions.ensures (lists_none c.declare_unions.new.rows)
