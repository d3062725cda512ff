-- What a struct or a union needs to be defined, as numbers of structs and unions. It serves the code alone.
use Rattle.std.specs.Prelude.{◌≡◌, ◌↔◌, ◌++◌, ◌∷◌, [], ℕ, ◌⊎◌, true, List, map, length, Some, None, slice_get, IsTrue}
use Rattle.std.specs.List.{Any, Contains}
use Rattle.ipdl_syntax.specs.declared.program.Entry.{Entry}
use Rattle.ipdl_syntax.specs.declared.tree.Base.{Base, Named, Unique'}
use Rattle.least_fixed_points.specs.declared.nodes.Need.TheVariants.{All, One}
use Rattle.least_fixed_points.specs.declared.nodes.Node.{Node}
use Rattle.name_table.specs.declared.decl.DeclId.{DeclId}
use Rattle.name_table.specs.declared.decl.Found.{Found}
use Rattle.name_table.specs.Decls.{FindsOne}
use Rattle.name_table.specs.Finds.{Finds, Counts}
use Rattle.type_rules.specs.Compounds.{NumberedType, struct, union, number_of, number_found}
use Rattle.type_rules.specs.declared.compounds.FileNumbers.{FileNumbers}
use Rattle.type_rules.specs.declared.parts.Parts.{Parts}

-- a base is, or has inside, a name that finds the struct or union of this number
abbrev pub IsPart : List Entry → List FileNumbers → ℕ → Base → ℕ → Type 0
IsPart program files file (Named name argument) n = (d : DeclId) × FindsOne program file name argument d × (number_of files d ≡ Some n)
IsPart program files file (Unique' at nullable inner after place) n = IsPart program files file inner n

-- a base is, or has inside, a name that finds nothing with a number
abbrev pub IsFree : List Entry → List FileNumbers → ℕ → Base → Type 0
IsFree program files file (Named name argument) = (finds : Found) × Counts (Finds program file name argument) finds × (number_found files finds ≡ None)
IsFree program files file (Unique' at nullable inner after place) = IsFree program files file inner

-- one more base: its number is recorded, or the fact that it has no number
abbrev pub AddsPart : List Entry → List FileNumbers → ℕ → Base → Parts → Parts → Type 0
AddsPart program files file base old new =
    (IsFree program files file base × (new.numbers.items ≡ old.numbers.items) × (new.has_free ≡ true))
    ⊎ ((n : ℕ) × IsPart program files file base n × (new.numbers.items ≡ old.numbers.items ++ n ∷ []) × (new.has_free ≡ old.has_free))

-- the numbers of these bases, and whether one has no number
pub record AreParts (program : List Entry) (files : List FileNumbers) (file : ℕ) (bases : List Base) (parts : Parts) : Type 0 where
  pub each : (base : Base) → Contains bases base → IsFree program files file base ⊎ ((n : ℕ) × IsPart program files file base n × Contains parts.numbers.items n)
  pub only : (n : ℕ) → Contains parts.numbers.items n → Any (λ base. IsPart program files file base n) bases
  pub free : IsTrue parts.has_free ↔ Any (IsFree program files file) bases

-- the node of a struct needs the numbers of all its fields
pub record IsStructNode (parts : Parts) (node : Node) : Type 0 where
  pub need : node.need ≡ All
  pub parts_are : node.parts.items ≡ parts.numbers.items

-- the node of a union needs nothing if a component has no number, or else one of its components' numbers
abbrev pub IsUnionNode : Parts → Node → Type 0
IsUnionNode parts node =
    (IsTrue parts.has_free × (node.need ≡ All) × (node.parts.items ≡ []))
    ⊎ ((¬ IsTrue parts.has_free) × (node.need ≡ One) × (node.parts.items ≡ parts.numbers.items))

-- the node of a struct or a union
abbrev pub IsNodeOf : List Entry → List FileNumbers → NumberedType → Node → Type 0
IsNodeOf program files (struct file s) node = (parts : Parts) × AreParts program files file (map (λ f. f.spec.base) s.fields) parts × IsStructNode parts node
IsNodeOf program files (union file u) node = (parts : Parts) × AreParts program files file (map (λ c. c.base) u.components) parts × IsUnionNode parts node

-- each of these has its node
pub record AreNodes (program : List Entry) (files : List FileNumbers) (all : List NumberedType) (nodes : List Node) : Type 0 where
  pub long : length nodes ≡ length all
  pub each : (k : ℕ) (c : NumberedType) → slice_get all k ≡ Some c → (node : Node) × (slice_get nodes k ≡ Some node) × IsNodeOf program files c node
