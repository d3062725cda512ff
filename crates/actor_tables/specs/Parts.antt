-- The rows of structs and of unions, separately.
use Rattle.std.specs.Prelude.{◌≡◌, ℕ, List}
use Rattle.std.specs.List.{AllZip}
use Rattle.ipdl_base.specs.declared.schema.TypeRow.{TypeRow}
use Rattle.ipdl_base.specs.declared.schema.TypeRow.TheVariants as row
use Rattle.ipdl_syntax.specs.declared.program.Entry.{Entry}
use Rattle.ipdl_syntax.specs.declared.tree.StructDecl.{StructDecl}
use Rattle.ipdl_syntax.specs.declared.tree.UnionDecl.{UnionDecl}
use Rattle.program_schema.specs.Numbers.{Numbering}
use Rattle.program_schema.specs.SchemaOf.{AreParamRows}
use Rattle.program_schema.specs.Shapes.{IsShapeOf}

-- the row of a struct of a file
abbrev pub IsStructRow : List Entry → Numbering → ℕ → StructDecl → TypeRow → Type 0
IsStructRow program n file s (row.Struct name fields) = (name ≡ s.full) × AreParamRows program n file s.fields fields
IsStructRow program n file s _ = ⊥

-- the row of a union of a file
abbrev pub IsUnionRow : List Entry → Numbering → ℕ → UnionDecl → TypeRow → Type 0
IsUnionRow program n file u (row.Union name components) = (name ≡ u.full) × AllZip (IsShapeOf program n file) u.components components
IsUnionRow program n file u _ = ⊥
