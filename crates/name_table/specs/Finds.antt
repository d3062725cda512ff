-- What a name finds in a file.
use Rattle.std.specs.Prelude.{◌≡◌, ◌≢◌, ◌<◌, ◌⊎◌, ℕ, Bool, true, false, List, Option, Some, None, IsSomeAnd, codes}
use Rattle.std.specs.List.{Contains}
use Rattle.ipdl_base.specs.Builtins.{builtin_name}
use Rattle.ipdl_base.specs.Words.{short_name}
use Rattle.ipdl_base.specs.declared.builtin.Builtin.{Builtin as BuiltinType}
use Rattle.ipdl_base.specs.declared.builtin.Builtin.TheVariants as builtin
use Rattle.ipdl_syntax.specs.Grammar.{whole_name}
use Rattle.ipdl_syntax.specs.declared.program.Entry.{Entry}
use Rattle.name_table.specs.declared.decl.DeclId.{DeclId}
use Rattle.name_table.specs.declared.decl.DeclId.TheVariants.{Builtin, Using, Struct, Union, Protocol, Endpoint}
use Rattle.name_table.specs.declared.decl.Found.{Found}
use Rattle.name_table.specs.declared.decl.Found.TheVariants as found
use Rattle.name_table.specs.Visible.{Sees}

-- Builtin types

-- the full name of a builtin type: with namespaces for some, and for the others its word
abbrev pub builtin_full_name : BuiltinType → List ℕ
builtin_full_name builtin.ByteBuf = codes "mozilla::ipc::ByteBuf"
builtin_full_name builtin.Shmem = codes "mozilla::ipc::Shmem"
builtin_full_name builtin.FileDescriptor = codes "mozilla::ipc::FileDescriptor"
builtin_full_name type = builtin_name type

-- a text is the full name or the word of a builtin type
abbrev pub IsNameOfBuiltin : BuiltinType → List ℕ → Type 0
IsNameOfBuiltin type text = (builtin_full_name type ≡ text) ⊎ (builtin_name type ≡ text)

-- the words of the builtin types that take a protocol
abbrev pub endpoint_word : Bool → List ℕ
endpoint_word false = codes "Endpoint"
endpoint_word true = codes "ManagedEndpoint"

-- Names of declarations

-- A text and its argument name a declaration of this full name: by the full name, if the text is all of it before the
-- `<` of the argument; or without an argument by the short name, but no full name with an argument has a short name.
abbrev pub IsNameOf : List ℕ → Option (List ℕ) → List ℕ → Type 0
IsNameOf text argument full =
    ((full ≡ whole_name text argument) × (¬ Contains text 60)) ⊎ ((argument ≡ None) × (short_name full ≡ text) × (¬ Contains full 60))

-- a file sees a declaration under a full name that the text and the argument name
abbrev pub SeesNamed : List Entry → ℕ → List ℕ → Option (List ℕ) → DeclId → Type 0
SeesNamed program file text argument d = (full : List ℕ) × Sees program file d full × IsNameOf text argument full

-- a text finds the protocol of this file
abbrev pub FindsProtocol : List Entry → ℕ → List ℕ → ℕ → Type 0
FindsProtocol program file text p = SeesNamed program file text None (Protocol p)

-- Usings

-- A `using` with this text names a builtin type in a file: by a name of the type, by just the word of endpoints, or
-- by such a word with an argument that finds a protocol in the file.
abbrev pub NamesBuiltin : List Entry → ℕ → List ℕ → Type 0
NamesBuiltin program file full =
    ((type : BuiltinType) × IsNameOfBuiltin type full)
    ⊎ (((managed : Bool) × (full ≡ endpoint_word managed))
    ⊎ ((managed : Bool) × (text : List ℕ) × (p : ℕ) × (full ≡ whole_name (endpoint_word managed) (Some text)) × FindsProtocol program file text p))

-- the using at one file and index is before the one at another
abbrev pub IsBefore : ℕ → ℕ → ℕ → ℕ → Type 0
IsBefore file place other there = (file < other) ⊎ ((file ≡ other) × (place < there))

-- no using of this full name that the file sees is before this file and index
abbrev pub IsFirst : List Entry → ℕ → List ℕ → ℕ → ℕ → Type 0
IsFirst program file full other place =
    (before there : ℕ) → Sees program file (Using before there) full → ¬ IsBefore before there other place

-- a text and its argument find the using at this file and index: it names no builtin type, and it is the first of the
-- usings with its full name that the file sees
pub record FindsUsing (program : List Entry) (file : ℕ) (text : List ℕ) (argument : Option (List ℕ)) (other place : ℕ) : Type 0 where
  pub full : List ℕ
  pub seen : Sees program file (Using other place) full
  pub named : IsNameOf text argument full
  pub own : ¬ NamesBuiltin program file full
  pub first : IsFirst program file full other place

-- What a name finds

-- In a file of a program a text, with its argument between `<` and `>`, if it has one, finds this declaration.
abbrev pub Finds : List Entry → ℕ → List ℕ → Option (List ℕ) → DeclId → Type 0
Finds program file text argument (Builtin type) = (argument ≡ None) × IsNameOfBuiltin type text
Finds program file text argument (Endpoint p managed) = (text ≡ endpoint_word managed) × IsSomeAnd argument (λ inner. FindsProtocol program file inner p)
Finds program file text argument (Using other place) = FindsUsing program file text argument other place
Finds program file text argument (Struct other place) = SeesNamed program file text argument (Struct other place)
Finds program file text argument (Union other place) = SeesNamed program file text argument (Union other place)
Finds program file text argument (Protocol other) = SeesNamed program file text argument (Protocol other)

-- a text finds this declaration as the name of a manager or of a managed protocol: only protocols
abbrev pub FindsAsProtocol : List Entry → ℕ → List ℕ → DeclId → Type 0
FindsAsProtocol program file text (Protocol p) = FindsProtocol program file text p
FindsAsProtocol program file text _ = ⊥

-- the answer gives the number of declarations with this property: none, this one alone, or these two different ones
abbrev pub Counts : (DeclId → Type 0) → Found → Type 0
Counts P found.None = (d : DeclId) → ¬ P d
Counts P (found.One d) = P d × ((e : DeclId) → P e → e ≡ d)
Counts P (found.Many d e) = P d × P e × (d ≢ e)
