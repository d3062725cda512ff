-- The structs and unions of a program, numbered. The numbers serve the code alone.
use Rattle.std.specs.Prelude.{◌≡◌, ℕ, ◌++◌, List, map, length, Option, Some, None, slice_get, option_and_then}
use Rattle.std.specs.List.{Contains}
use Rattle.ipdl_base.specs.declared.finding.Place.{Place}
use Rattle.ipdl_syntax.specs.declared.program.Entry.{Entry}
use Rattle.ipdl_syntax.specs.declared.tree.StructDecl.{StructDecl}
use Rattle.ipdl_syntax.specs.declared.tree.UnionDecl.{UnionDecl}
use Rattle.ipdl_syntax.specs.declared.tree.Unit.{Unit as FileUnit}
use Rattle.name_table.specs.declared.decl.DeclId.{DeclId}
use Rattle.name_table.specs.declared.decl.DeclId.TheVariants as decl
use Rattle.name_table.specs.declared.decl.Found.{Found}
use Rattle.name_table.specs.declared.decl.Found.TheVariants as found
use Rattle.name_table.specs.Decls.{struct_of, union_of}
use Rattle.type_rules.specs.Defined.{IsDefinedStruct, IsDefinedUnion}
use Rattle.type_rules.specs.declared.compounds.Compound.{Compound}
use Rattle.type_rules.specs.declared.compounds.Compound.TheVariants.{Struct, Union}
use Rattle.type_rules.specs.declared.compounds.FileNumbers.{FileNumbers}

-- a struct or a union of a file
pub data NumberedType : Type 0 where
  struct : (file : ℕ) (s : StructDecl) → NumberedType
  union : (file : ℕ) (u : UnionDecl) → NumberedType

-- a struct or a union of the code, as definitions see it
abbrev pub told : Compound → NumberedType
told (Struct file s) = struct file s.now
told (Union file u) = union file u.now

-- the place of its name
abbrev pub place_of : NumberedType → Place
place_of (struct file s) = s.place
place_of (union file u) = u.place

-- the struct or union is defined
abbrev pub IsDefinedCompound : List Entry → NumberedType → Type 0
IsDefinedCompound program (struct file s) = IsDefinedStruct program file s
IsDefinedCompound program (union file u) = IsDefinedUnion program file u

-- the struct or union is in the program
abbrev pub IsIn : List Entry → NumberedType → Type 0
IsIn program (struct file s) = (place : ℕ) × (struct_of program file place ≡ Some s)
IsIn program (union file u) = (place : ℕ) × (union_of program file place ≡ Some u)

-- each of these declarations of a file was appended to a list, and its number is its index there
pub record AreNumbers {X : Type 0} (make : X → NumberedType) (xs : List X) (numbers : List ℕ) (old new : List NumberedType) : Type 0 where
  pub long : length numbers ≡ length xs
  pub grown : new ≡ old ++ map make xs
  pub each : (place : ℕ) (x : X) → slice_get xs place ≡ Some x → (n : ℕ) × (slice_get numbers place ≡ Some n) × (slice_get new n ≡ Some (make x))

-- the structs of a file were appended to a list, and then its unions, and these are their numbers
pub record AreOfFile (file : ℕ) (unit : FileUnit) (numbers : FileNumbers) (old new : List NumberedType) : Type 0 where
  pub between : List NumberedType
  pub structs : AreNumbers (struct file) unit.structs numbers.structs.items old between
  pub unions : AreNumbers (union file) unit.unions numbers.unions.items between new

-- the number of a struct or a union, by the numbers of its file
abbrev pub number_of : List FileNumbers → DeclId → Option ℕ
number_of files (decl.Struct file place) = option_and_then (λ f. slice_get f.structs.items place) (slice_get files file)
number_of files (decl.Union file place) = option_and_then (λ f. slice_get f.unions.items place) (slice_get files file)
number_of files _ = None

-- the number of the one struct or union that a name finds
abbrev pub number_found : List FileNumbers → Found → Option ℕ
number_found files (found.One d) = number_of files d
number_found files _ = None

-- all structs and unions of the files have numbers, and nothing else has a number
pub record AllNumbered (program : List Entry) (all : List NumberedType) (files : List FileNumbers) : Type 0 where
  pub long : length files ≡ length program
  pub structs : (file place : ℕ) (s : StructDecl) → struct_of program file place ≡ Some s → (n : ℕ) × (number_of files (decl.Struct file place) ≡ Some n) × (slice_get all n ≡ Some (struct file s))
  pub unions : (file place : ℕ) (u : UnionDecl) → union_of program file place ≡ Some u → (n : ℕ) × (number_of files (decl.Union file place) ≡ Some n) × (slice_get all n ≡ Some (union file u))
  pub only : (c : NumberedType) → Contains all c → IsIn program c
