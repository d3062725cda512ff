-- Each type that a clean program writes has a shape.
use Rattle.std.proofs.Common.{ℕ, Bool, List, [], ◌∷◌, Option, IsSome, refl}
use Rattle.ipdl_base.specs.Plain.{one_box}
use Rattle.ipdl_base.specs.declared.schema.Shape.{Shape}
use Rattle.ipdl_base.specs.declared.schema.Shape as shape
use Rattle.ipdl_syntax.specs.declared.program.Entry.{Entry}
use Rattle.ipdl_syntax.specs.declared.tree.Base.{Base, Named, Unique'}
use Rattle.ipdl_syntax.specs.declared.tree.Suffix.{Suffix}
use Rattle.ipdl_syntax.specs.declared.tree.Suffix.TheVariants.{Array, Maybe}
use Rattle.ipdl_syntax.specs.declared.tree.TypeSpec.{TypeSpec}
use Rattle.name_table.specs.declared.decl.DeclId.{DeclId}
use Rattle.name_table.specs.declared.decl.DeclId.TheVariants.{Builtin, Using, Struct, Union, Protocol, Endpoint}
use Rattle.name_table.specs.declared.decl.Found.{Found}
use Rattle.name_table.specs.declared.decl.Found.TheVariants as found
use Rattle.name_table.specs.Declares.{full_name_of}
use Rattle.name_table.specs.Decls.{FindsOne, FindsOneProtocol, protocol_of}
use Rattle.name_table.specs.Finds.{Finds, FindsAsProtocol, Counts}
use Rattle.program_schema.specs.Numbers.{Numbering, IsProtocolNumber, IsTypeNumber, AreProtocolFiles, AreTypes, place_of}
use Rattle.program_schema.specs.SchemaOf.{IsNumberOfName}
use Rattle.program_schema.specs.Shapes.{IsShapeOf, IsShapeOfBase, IsShapeOfDecl, IsSuffixed, IsSuffixedBy}
use Rattle.program_schema.proofs.Lists.{place_in}
use Rattle.program_schema.proofs.Numberings.{some_of}
use Rattle.actor_tables.specs.SchemaSource.{IsThere, FindsSole, FindsSoleProtocol}
use Rattle.actor_tables.proofs.Sight.{one_there, protocol_found}
use Rattle.name_existence.proofs.Names.{names_have_answers, protocol_names_have_answers}

-- A numbering is that of the program.
pub record IsNumberingOf (program : List Entry) (n : Numbering) : Type 0 where
  pub files : AreProtocolFiles program n.files
  pub types : AreTypes program n.types

-- a shape with suffixes around one with this property
suffixed : (Holds : Shape → Type 0) (after : List Suffix) (s : Shape) → Holds s → (whole : Shape) × IsSuffixed Holds after whole
suffixed Holds [] s holds = (s, holds)
suffixed Holds (Array ∷ rest) s holds = suffixed (IsSuffixedBy Array Holds) rest (shape.Array' one_box s) holds
suffixed Holds (Maybe ∷ rest) s holds = suffixed (IsSuffixedBy Maybe Holds) rest (shape.Maybe' one_box s) holds

-- a name that finds neither nothing nor two declarations finds one
one_found : (program : List Entry) (file : ℕ) (text : List ℕ) (argument : Option (List ℕ)) (r : Found) → Counts (Finds program file text argument) r → FindsSole program file (Named text argument) → (d : DeclId) × FindsOne program file text argument d
one_found program file text argument found.None counts sole = absurd (sole.0 counts)
one_found program file text argument (found.One d) counts sole = (d, counts)
one_found program file text argument (found.Many d e) counts sole = absurd (sole.1 (d, e, counts))

-- a name that finds neither no protocol nor two protocols finds one
one_protocol_found : (program : List Entry) (file : ℕ) (text : List ℕ) (r : Found) → Counts (FindsAsProtocol program file text) r → FindsSoleProtocol program file text → (other : ℕ) × FindsOneProtocol program file text other
one_protocol_found program file text found.None counts sole = absurd (sole.some counts)
one_protocol_found program file text (found.One (Protocol other)) counts sole = (other, counts)
one_protocol_found program file text (found.One (Builtin type)) counts sole = absurd counts.0
one_protocol_found program file text (found.One (Using other index)) counts sole = absurd counts.0
one_protocol_found program file text (found.One (Struct other index)) counts sole = absurd counts.0
one_protocol_found program file text (found.One (Union other index)) counts sole = absurd counts.0
one_protocol_found program file text (found.One (Endpoint other managed)) counts sole = absurd counts.0
one_protocol_found program file text (found.Many d e) counts sole = absurd (sole.one d e counts)

module _ (program : List Entry) (n : Numbering) (numbered : IsNumberingOf program n) where
  -- a declaration that is there has a number

  file_number : (file : ℕ) → IsSome (protocol_of program file) → (number : ℕ) × IsProtocolNumber n number file
  file_number file there = place_in n.files file ((numbered.files.exact file).1 there)

  type_number : (d : DeclId) → IsSome (place_of program d) → (number : ℕ) × IsTypeNumber n number d
  type_number d there = place_in n.types d ((numbered.types.exact d).1 there)

  -- what a name finds has a shape
  decl_shape : (nullable : Bool) (d : DeclId) → IsThere program d → (s : Shape) × IsShapeOfDecl program n nullable d s
  decl_shape nullable (Builtin type) there = (shape.Builtin type, refl)
  decl_shape nullable (Using file index) there = let full = some_of (full_name_of program (Using file index)) there in (shape.Using full.0, full.1)
  decl_shape nullable (Struct file index) there = let number = type_number (Struct file index) there in (shape.Named number.0, number.1)
  decl_shape nullable (Union file index) there = let number = type_number (Union file index) there in (shape.Named number.0, number.1)
  decl_shape nullable (Protocol file) there = let number = file_number file there in (shape.Actor number.0 nullable, (number.1, refl))
  decl_shape nullable (Endpoint file managed) there = let number = file_number file there in (shape.Endpoint number.0 managed, (number.1, refl))

  -- the same of a base in which each name finds one declaration, and of a type

  base_shape : (file : ℕ) (nullable : Bool) (base : Base) → FindsSole program file base → (s : Shape) × IsShapeOfBase program n file nullable base s
  base_shape file nullable (Named text argument) sole =
      let r = names_have_answers program file text argument in
      let d = one_found program file text argument r.0 r.1 sole in
      let s = decl_shape nullable d.0 (one_there program file text argument d.0 d.1) in
      (s.0, (d.0, d.1, s.1))
  base_shape file nullable (Unique' at inner_nullable inner after place) sole =
      let s = base_shape file inner_nullable inner sole in
      let whole = suffixed (IsShapeOfBase program n file inner_nullable inner) after s.0 s.1 in
      (shape.Unique' one_box whole.0, whole.1)

  pub type_shape : (file : ℕ) (spec : TypeSpec) → FindsSole program file spec.base → (s : Shape) × IsShapeOf program n file spec s
  type_shape file spec sole =
      let s = base_shape file spec.nullable spec.base sole in
      suffixed (IsShapeOfBase program n file spec.nullable spec.base) spec.suffixes s.0 s.1

  -- a name that finds one protocol has its number
  pub number_of_name : (file : ℕ) (text : List ℕ) → FindsSoleProtocol program file text → (number : ℕ) × IsNumberOfName program n file text number
  number_of_name file text sole =
      let r = protocol_names_have_answers program file text in
      let p = one_protocol_found program file text r.0 r.1 sole in
      let number = file_number p.0 (protocol_found program file text p.0 p.1.0) in
      (number.0, (p.0, p.1, number.1))
