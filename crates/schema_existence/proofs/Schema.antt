-- A clean program has a schema.
use Rattle.std.proofs.Common.{IsSomeAnd}
use Rattle.name_table.specs.Decls.{protocol_of}
use Rattle.program_schema.specs.Numbers.{Numbering}
use Rattle.program_schema.specs.SchemaOf.{IsProtocolRow, IsTypeRow}
use Rattle.program_schema.proofs.Numberings.{some_of}
use Rattle.program_schema.proofs.Unbroken.{and_some}
use Rattle.schema_existence.specs.Laws.{CleanProgramsHaveSchemas}
use Rattle.schema_existence.proofs.Files.{protocol_files}
use Rattle.schema_existence.proofs.Rows.{protocol_row, rows_beside, rows_from, type_row}
use Rattle.schema_existence.proofs.Shapes.{IsNumberingOf}
use Rattle.schema_existence.proofs.Types.{types_in_order}

pub clean_programs_have_schemas : CleanProgramsHaveSchemas
clean_programs_have_schemas program clean =
    let files = protocol_files program clean.is_program clean.named in
    let types = types_in_order program clean.is_program in
    let n : Numbering = record { files = files.0; types = types.0 } in
    let numbered : IsNumberingOf program n = record { files = files.1; types = types.1 } in
    let rows = rows_beside (IsTypeRow program n) types.0 (λ d among. type_row program n numbered clean d ((types.1.exact d).0 among)) in
    let protocols = rows_from (λ number file row. IsSomeAnd (protocol_of program file) (λ p. IsProtocolRow program n rows.0 number file p row)) 0 files.0 (λ number file among.
    let p = some_of (protocol_of program file) ((files.1.exact file).0 among) in
    let row = protocol_row program n numbered clean rows.0 number file p.0 p.1 in
    (row.0, and_some (protocol_of program file) (λ q. IsProtocolRow program n rows.0 number file q row.0) p.0 p.1 row.1)) in
    (record { protocols = protocols.0; types = rows.0 }, record { numbering = n; files = files.1; ids = types.1; protocols = protocols.1; types = rows.1 })
