-- The numbers that the protocols and the types of a program have in its schema.
use Rattle.std.specs.Prelude.{◌≡◌, ◌↔◌, ℕ, List, Option, Some, None, IsSome, slice_get, option_map}
use Rattle.std.specs.List.{AllPairs, Contains}
use Rattle.std.specs.Cmp.Lexicographic.{slice_cmp}
use Rattle.std.specs.Ordering.{nat_cmp, ordering_then}
use Rattle.std.specs.declared.cmp.Ordering.TheVariants.{Less}
use Rattle.ipdl_base.specs.declared.finding.Place.{Place}
use Rattle.ipdl_syntax.specs.declared.program.Entry.{Entry}
use Rattle.ipdl_syntax.specs.declared.tree.ProtocolDecl.{ProtocolDecl}
use Rattle.findings.specs.Order.{place_cmp}
use Rattle.name_table.specs.declared.decl.DeclId.{DeclId}
use Rattle.name_table.specs.declared.decl.DeclId.TheVariants.{Struct, Union}
use Rattle.name_table.specs.Decls.{protocol_of, struct_of, union_of}

-- Protocols

-- the full name of one file's protocol is before that of another's, byte by byte
abbrev pub IsNamedBefore : List Entry → ℕ → ℕ → Type 0
IsNamedBefore program file other =
    (p q : ProtocolDecl) → protocol_of program file ≡ Some p → protocol_of program other ≡ Some q → slice_cmp nat_cmp p.full q.full ≡ Less

-- These are the files that have protocols, in the order of the protocols' full names. A protocol's number is the
-- index of its file here.
pub record AreProtocolFiles (program : List Entry) (files : List ℕ) : Type 0 where
  pub ordered : AllPairs (IsNamedBefore program) files
  pub exact : (file : ℕ) → Contains files file ↔ IsSome (protocol_of program file)

-- Types

-- the place of the name of a struct or a union
abbrev pub place_of : List Entry → DeclId → Option Place
place_of program (Struct file index) = option_map (λ s. s.place) (struct_of program file index)
place_of program (Union file index) = option_map (λ u. u.place) (union_of program file index)
place_of program _ = None

-- if places are the same, which no text gives, structs come before unions, and then the lists decide
abbrev pub list_number : DeclId → ℕ
list_number (Union file index) = 1
list_number _ = 0

abbrev pub index_of : DeclId → ℕ
index_of (Struct file index) = index
index_of (Union file index) = index
index_of _ = 0

-- one struct or union is before another in the program: by file, and in the file by place
abbrev pub IsDeclaredBefore : List Entry → DeclId → DeclId → Type 0
IsDeclaredBefore program d e =
    (p q : Place) → place_of program d ≡ Some p → place_of program e ≡ Some q
    → ordering_then (place_cmp p q) (ordering_then (nat_cmp (list_number d) (list_number e)) (nat_cmp (index_of d) (index_of e))) ≡ Less

-- These are the structs and unions of the program, in text order. A type's number is its index here.
pub record AreTypes (program : List Entry) (types : List DeclId) : Type 0 where
  pub ordered : AllPairs (IsDeclaredBefore program) types
  pub exact : (d : DeclId) → Contains types d ↔ IsSome (place_of program d)

-- The files of the protocols, and the structs and unions, each by its number.
pub record Numbering : Type 0 where
  pub files : List ℕ
  pub types : List DeclId

-- the protocol of this file has this number
abbrev pub IsProtocolNumber : Numbering → ℕ → ℕ → Type 0
IsProtocolNumber n number file = slice_get n.files number ≡ Some file

-- the struct or union has this number
abbrev pub IsTypeNumber : Numbering → ℕ → DeclId → Type 0
IsTypeNumber n number d = slice_get n.types number ≡ Some d
