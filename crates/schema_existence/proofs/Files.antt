-- The files of a program's protocols, in the order of their full names.
use Rattle.std.proofs.Common.{ℕ, List, length, ap, Ordering}
use Rattle.std.specs.Cmp.{IsTotalOrder}
use Rattle.std.specs.Cmp.Lexicographic.{slice_cmp}
use Rattle.std.specs.Ordering.{nat_cmp}
use Rattle.std.proofs.lemmas.Cmp.{nat_list_cmp_total, on_total}
use Rattle.std.proofs.lemmas.Map.Lookups.{exact_bytes}
use Rattle.ipdl_base.specs.Words.{short_name}
use Rattle.ipdl_syntax.specs.Programs.{IsProgram, BearTheirNames}
use Rattle.ipdl_syntax.specs.declared.program.Entry.{Entry}
use Rattle.ipdl_syntax.specs.declared.tree.ProtocolDecl.{ProtocolDecl}
use Rattle.name_table.specs.Decls.{protocol_of}
use Rattle.program_schema.specs.Numbers.{AreProtocolFiles}
use Rattle.program_schema.proofs.Numbered.{file_below}
use Rattle.actor_tables.proofs.Protocols.{same_file}
use Rattle.name_existence.proofs.Derivations.{is_below, numbers_below}
use Rattle.schema_existence.proofs.Keys.{in_key_order}

abbrev name_cmp : ProtocolDecl × ℕ → ProtocolDecl × ℕ → Ordering
name_cmp a b = slice_cmp nat_cmp a.0.full b.0.full

name_total : IsTotalOrder name_cmp
name_total = on_total (λ (a : ProtocolDecl × ℕ). a.0.full) nat_list_cmp_total

pub protocol_files : (program : List Entry) → IsProgram program → BearTheirNames program → (files : List ℕ) × AreProtocolFiles program files
protocol_files program is named =
    let all = in_key_order (protocol_of program) name_cmp name_total (λ a b p q there other tie. same_file program a b p q is named there other (ap short_name (exact_bytes p.full q.full tie)))
    (numbers_below (length program)) (λ file some. is_below (length program) file (file_below program file some)) in
    (all.0, record { ordered = all.1; exact = all.2 })
