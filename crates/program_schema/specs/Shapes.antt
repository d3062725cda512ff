-- The shapes of the types of a program.
use Rattle.std.specs.Prelude.{◌≡◌, ℕ, Bool, List, [], ◌∷◌, Some}
use Rattle.ipdl_base.specs.declared.schema.Shape.{Shape}
use Rattle.ipdl_base.specs.declared.schema.Shape as shape
use Rattle.ipdl_syntax.specs.declared.program.Entry.{Entry}
use Rattle.ipdl_syntax.specs.declared.tree.Base.{Base, Named, Unique'}
use Rattle.ipdl_syntax.specs.declared.tree.Suffix.{Suffix}
use Rattle.ipdl_syntax.specs.declared.tree.Suffix.TheVariants.{Array, Maybe}
use Rattle.ipdl_syntax.specs.declared.tree.TypeSpec.{TypeSpec}
use Rattle.name_table.specs.declared.decl.DeclId.{DeclId}
use Rattle.name_table.specs.declared.decl.DeclId.TheVariants.{Builtin, Using, Struct, Union, Protocol, Endpoint}
use Rattle.name_table.specs.Declares.{full_name_of}
use Rattle.name_table.specs.Decls.{FindsOne}
use Rattle.program_schema.specs.Numbers.{Numbering, IsProtocolNumber, IsTypeNumber}

-- the shape of a declaration, with or without `nullable` before it
abbrev pub IsShapeOfDecl : List Entry → Numbering → Bool → DeclId → Shape → Type 0
IsShapeOfDecl program n nullable (Builtin type) (shape.Builtin other) = other ≡ type
IsShapeOfDecl program n nullable (Using file index) (shape.Using name) = full_name_of program (Using file index) ≡ Some name
IsShapeOfDecl program n nullable (Struct file index) (shape.Named number) = IsTypeNumber n number (Struct file index)
IsShapeOfDecl program n nullable (Union file index) (shape.Named number) = IsTypeNumber n number (Union file index)
IsShapeOfDecl program n nullable (Protocol file) (shape.Actor number flag) = IsProtocolNumber n number file × (flag ≡ nullable)
IsShapeOfDecl program n nullable (Endpoint file managed) (shape.Endpoint number flag) = IsProtocolNumber n number file × (flag ≡ managed)
IsShapeOfDecl program n nullable _ _ = ⊥

-- a shape with one suffix; this holds of it without the suffix
abbrev pub IsSuffixedBy : Suffix → (Shape → Type 0) → Shape → Type 0
IsSuffixedBy Array Holds (shape.Array' at element) = Holds element
IsSuffixedBy Maybe Holds (shape.Maybe' at held) = Holds held
IsSuffixedBy _ Holds _ = ⊥

-- a shape with these suffixes, applied from left to right; this holds of it without them
abbrev pub IsSuffixed : (Shape → Type 0) → List Suffix → Shape → Type 0
IsSuffixed Holds [] whole = Holds whole
IsSuffixed Holds (s ∷ rest) whole = IsSuffixed (IsSuffixedBy s Holds) rest whole

-- an owned pointer; this holds of its inside
abbrev pub IsUnique : (Shape → Type 0) → Shape → Type 0
IsUnique Holds (shape.Unique' at held) = Holds held
IsUnique Holds _ = ⊥

-- the shape of a base in a file, with or without `nullable` before it
abbrev pub IsShapeOfBase : List Entry → Numbering → ℕ → Bool → Base → Shape → Type 0
IsShapeOfBase program n file nullable (Named name argument) = λ whole. (d : DeclId) × FindsOne program file name argument d × IsShapeOfDecl program n nullable d whole
IsShapeOfBase program n file nullable (Unique' at inner_nullable inner after place) = IsUnique (IsSuffixed (IsShapeOfBase program n file inner_nullable inner) after)

-- the shape of a type in a file
abbrev pub IsShapeOf : List Entry → Numbering → ℕ → TypeSpec → Shape → Type 0
IsShapeOf program n file spec = IsSuffixed (IsShapeOfBase program n file spec.nullable spec.base) spec.suffixes
