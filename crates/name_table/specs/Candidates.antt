-- What a lookup in the rows tests of a declaration.
use Rattle.std.specs.Prelude.{◌≡◌, ◌⊎◌, ℕ, List, Option}
use Rattle.ipdl_syntax.specs.declared.program.Entry.{Entry}
use Rattle.name_table.specs.declared.decl.DeclId.{DeclId}
use Rattle.name_table.specs.declared.decl.DeclId.TheVariants.{Builtin, Endpoint, Using}
use Rattle.name_table.specs.Declares.{full_name_of}
use Rattle.name_table.specs.Finds.{IsNameOf, NamesBuiltin}
use Rattle.name_table.specs.Visible.{Sees}

-- a declaration that a text and its argument may find: the file sees it, they name it, and it is not a using that
-- names a builtin type
pub record IsCandidate (program : List Entry) (file : ℕ) (text : List ℕ) (argument : Option (List ℕ)) (d : DeclId) : Type 0 where
  pub full : List ℕ
  pub seen : Sees program file d full
  pub named : IsNameOf text argument full
  pub own : (other place : ℕ) → d ≡ Using other place → ¬ NamesBuiltin program file full

-- two declarations count as one: they are the same, or usings of one full name
abbrev pub AreOne : List Entry → DeclId → DeclId → Type 0
AreOne program d e =
    (d ≡ e) ⊎ ((file : ℕ) × (place : ℕ) × (other : ℕ) × (there : ℕ) × (d ≡ Using file place) × (e ≡ Using other there) × (full_name_of program d ≡ full_name_of program e))

-- a builtin type or an endpoint, which no file declares
abbrev pub IsBuiltinOrEndpoint : DeclId → Type 0
IsBuiltinOrEndpoint (Builtin type) = Unit {0}
IsBuiltinOrEndpoint (Endpoint p managed) = Unit {0}
IsBuiltinOrEndpoint _ = ⊥
