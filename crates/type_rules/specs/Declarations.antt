-- The rules on the names of declarations and of fields (B4, B6).
use Rattle.std.specs.Prelude.{◌≡◌, ℕ, ◌⊎◌, Bool, true, false, List, [], ◌∷◌, ◌++◌, map, Option, Some, None, IsTrue}
use Rattle.std.specs.List.{Any}
use Rattle.std.specs.declared.cmp.Ordering.TheVariants.{Less}
use Rattle.ipdl_base.specs.Builtins.{builtin_name}
use Rattle.ipdl_base.specs.Words.{short_name}
use Rattle.ipdl_base.specs.declared.builtin.Builtin.{Builtin}
use Rattle.ipdl_base.specs.declared.finding.Place.{Place}
use Rattle.ipdl_syntax.specs.declared.program.Entry.{Entry}
use Rattle.ipdl_syntax.specs.declared.tree.ProtocolDecl.{ProtocolDecl}
use Rattle.ipdl_syntax.specs.declared.tree.Unit.{Unit as FileUnit}
use Rattle.findings.specs.Order.{place_cmp}
use Rattle.findings.specs.Repeats.{IsRepeatedAt}
use Rattle.name_table.specs.Finds.{endpoint_word}

-- a declaration: its full name, the place of its name, and whether it is a `using`
pub record Declaration : Type 0 where
  pub full : List ℕ
  pub place : Place
  pub is_using : Bool

abbrev pub of_protocol : Option ProtocolDecl → List Declaration
of_protocol None = []
of_protocol (Some p) = record { full = p.full; place = p.place; is_using = false } ∷ []

-- the declarations of a file
abbrev pub declarations : FileUnit → List Declaration
declarations unit =
    map (λ u. record { full = u.full; place = u.place; is_using = true }) unit.usings
    ++ (map (λ s. record { full = s.full; place = s.place; is_using = false }) unit.structs
    ++ (map (λ u. record { full = u.full; place = u.place; is_using = false }) unit.unions
    ++ of_protocol unit.protocol))

-- a declaration has the full name of an earlier one in its file, and not both are `using`
pub record Repeats (earlier later : Declaration) : Type 0 where
  pub name : earlier.full ≡ later.full
  pub before : place_cmp earlier.place later.place ≡ Less
  pub not_both : ¬ (IsTrue earlier.is_using × IsTrue later.is_using)

-- the word of a type of the language: of a builtin type, or of a type that takes a protocol
abbrev pub IsTypeWord : List ℕ → Type 0
IsTypeWord word = ((type : Builtin) × (builtin_name type ≡ word)) ⊎ ((managed : Bool) × (endpoint_word managed ≡ word))

-- a struct, a union or a protocol takes such a word as its own name, in any namespace
pub record TakesTypeWord (d : Declaration) : Type 0 where
  pub own : ¬ IsTrue d.is_using
  pub word : IsTypeWord (short_name d.full)

-- B4: the declaration whose name is at this place repeats an earlier one of its file, or takes the word of a type of
-- the language
abbrev pub IsRepeatedDeclaration : List Entry → Place → Type 0
IsRepeatedDeclaration program place =
    Any (λ e. Any (λ d. (Any (λ earlier. Repeats earlier d) (declarations e.unit) ⊎ TakesTypeWord d) × (d.place ≡ place)) (declarations e.unit)) program

-- B6: the field whose name is at this place has the name of an earlier field of its struct
abbrev pub IsRepeatedField : List Entry → Place → Type 0
IsRepeatedField program place = Any (λ e. Any (λ s. IsRepeatedAt (map (λ f. (f.name, f.place)) s.fields) place) e.unit.structs) program
