-- The existence of the schema of a program.
use Rattle.std.specs.Prelude.{List}
use Rattle.ipdl_base.specs.declared.schema.Schema.{Schema}
use Rattle.ipdl_syntax.specs.declared.program.Entry.{Entry}
use Rattle.program_schema.specs.Clean.{IsClean}
use Rattle.program_schema.specs.SchemaOf.{IsSchemaOf}

-- the program has a schema
abbrev pub HasSchema : List Entry → Type 0
HasSchema program = (schema : Schema) × IsSchemaOf program schema

-- A program that breaks no rule on types, messages and managers, and whose protocols have the names of their files,
-- has a schema.
abbrev pub CleanProgramsHaveSchemas : Type 0
CleanProgramsHaveSchemas = (program : List Entry) → IsClean program → HasSchema program
