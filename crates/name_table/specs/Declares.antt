-- The declarations of the files of a program, each with its full name.
use Rattle.std.specs.Prelude.{◌≡◌, ℕ, List, Option, Some, None, IsSomeAnd, slice_get, option_map, option_and_then}
use Rattle.std.specs.List.{Contains}
use Rattle.ipdl_syntax.specs.declared.program.Entry.{Entry}
use Rattle.name_table.specs.declared.decl.DeclId.{DeclId}
use Rattle.name_table.specs.declared.decl.DeclId.TheVariants.{Builtin, Using, Struct, Union, Protocol, Endpoint}

-- the file that has a declaration; builtin types and endpoints are in no file
abbrev pub file_of : DeclId → Option ℕ
file_of (Using file place) = Some file
file_of (Struct file place) = Some file
file_of (Union file place) = Some file
file_of (Protocol file) = Some file
file_of (Builtin type) = None
file_of (Endpoint file managed) = None

-- the full name of a declaration in the tree of a file
abbrev pub full_name_in : Entry → DeclId → Option (List ℕ)
full_name_in entry (Using file place) = option_map (λ u. u.full) (slice_get entry.unit.usings place)
full_name_in entry (Struct file place) = option_map (λ s. s.full) (slice_get entry.unit.structs place)
full_name_in entry (Union file place) = option_map (λ u. u.full) (slice_get entry.unit.unions place)
full_name_in entry (Protocol file) = option_map (λ p. p.full) entry.unit.protocol
full_name_in entry (Builtin type) = None
full_name_in entry (Endpoint file managed) = None

-- the full name of a declaration in a file of a program
abbrev pub full_name_of : List Entry → DeclId → Option (List ℕ)
full_name_of program d = option_and_then (λ file. option_and_then (λ entry. full_name_in entry d) (slice_get program file)) (file_of d)

-- a file of a program declares this, under this full name
abbrev pub Declares : List Entry → ℕ → DeclId → List ℕ → Type 0
Declares program file d full = (file_of d ≡ Some file) × (full_name_of program d ≡ Some full)

-- a file includes another file, as a protocol file or as a header
abbrev pub Includes : List Entry → ℕ → ℕ → Type 0
Includes program file other = IsSomeAnd (slice_get program file) (λ entry. Contains entry.includes other)

-- the file at this index is a header: it has no protocol
abbrev pub IsHeader : List Entry → ℕ → Type 0
IsHeader program file = IsSomeAnd (slice_get program file) (λ entry. entry.unit.protocol ≡ None)
