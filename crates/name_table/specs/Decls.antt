-- The declarations of a program by number, and the number of declarations that a name finds.
use Rattle.std.specs.Prelude.{ℕ, List, Option, slice_get, option_and_then}
use Rattle.ipdl_syntax.specs.declared.program.Entry.{Entry}
use Rattle.ipdl_syntax.specs.declared.tree.ProtocolDecl.{ProtocolDecl}
use Rattle.ipdl_syntax.specs.declared.tree.StructDecl.{StructDecl}
use Rattle.ipdl_syntax.specs.declared.tree.UnionDecl.{UnionDecl}
use Rattle.name_table.specs.declared.decl.DeclId.{DeclId}
use Rattle.name_table.specs.declared.decl.DeclId.TheVariants.{Protocol}
use Rattle.name_table.specs.declared.decl.Found.TheVariants as found
use Rattle.name_table.specs.Finds.{Finds, FindsAsProtocol, Counts}

-- the protocol of the file of this number
abbrev pub protocol_of : List Entry → ℕ → Option ProtocolDecl
protocol_of program file = option_and_then (λ e. e.unit.protocol) (slice_get program file)

-- the struct at this index in the list of the file
abbrev pub struct_of : List Entry → ℕ → ℕ → Option StructDecl
struct_of program file place = option_and_then (λ e. slice_get e.unit.structs place) (slice_get program file)

-- the union at this index in the list of the file
abbrev pub union_of : List Entry → ℕ → ℕ → Option UnionDecl
union_of program file place = option_and_then (λ e. slice_get e.unit.unions place) (slice_get program file)

-- in a file a text with its argument finds nothing
abbrev pub FindsNone : List Entry → ℕ → List ℕ → Option (List ℕ) → Type 0
FindsNone program file text argument = Counts (Finds program file text argument) found.None

-- in a file a text with its argument finds this declaration and nothing else
abbrev pub FindsOne : List Entry → ℕ → List ℕ → Option (List ℕ) → DeclId → Type 0
FindsOne program file text argument d = Counts (Finds program file text argument) (found.One d)

-- in a file a text with its argument finds two different declarations
abbrev pub FindsTwo : List Entry → ℕ → List ℕ → Option (List ℕ) → Type 0
FindsTwo program file text argument = (d : DeclId) × (e : DeclId) × Counts (Finds program file text argument) (found.Many d e)

-- in a file a text finds no protocol
abbrev pub FindsNoProtocol : List Entry → ℕ → List ℕ → Type 0
FindsNoProtocol program file text = Counts (FindsAsProtocol program file text) found.None

-- in a file a text finds the protocol of this other file, and no other protocol
abbrev pub FindsOneProtocol : List Entry → ℕ → List ℕ → ℕ → Type 0
FindsOneProtocol program file text p = Counts (FindsAsProtocol program file text) (found.One (Protocol p))
