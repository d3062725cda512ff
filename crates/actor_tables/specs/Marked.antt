-- The types that mention one that is not carried, as the code computes them.
use Rattle.std.specs.Prelude.{◌≡◌, ◌↔◌, ℕ, ◌+◌, true, List, [], ◌∷◌, Option, Some, None, slice_get, if◌then◌else◌}
use Rattle.std.specs.List.{AllZip, filter_map}
use Rattle.ipdl_base.specs.Builtins.{is_carried}
use Rattle.ipdl_base.specs.Sound.{MentionsUncarried}
use Rattle.ipdl_base.specs.declared.schema.Shape.{Shape, Builtin, Using, Actor, Named, Array', Maybe', Unique', Endpoint}
use Rattle.ipdl_base.specs.declared.schema.TypeRow.{TypeRow}
use Rattle.ipdl_base.specs.declared.schema.TypeRow.TheVariants as row
use Rattle.least_fixed_points.specs.declared.nodes.Need.TheVariants.{All, One}
use Rattle.least_fixed_points.specs.declared.nodes.Node.{Node}
use Rattle.actor_tables.specs.declared.carried.MarkedTypes.{MarkedTypes}

-- the index of the mark that decides for a shape: 0 for a type that is not carried, and then one for each row
abbrev pub part_of : Shape → Option ℕ
part_of (Builtin type) = if is_carried type then None else Some 0
part_of (Using name) = None
part_of (Actor protocol nullable) = None
part_of (Named number) = Some (number + 1)
part_of (Array' at element) = part_of element
part_of (Maybe' at held) = part_of held
part_of (Unique' at held) = part_of held
part_of (Endpoint protocol managed) = Some 0

-- the indices of the marks of the shapes that a struct or a union mentions directly
abbrev pub parts_of : TypeRow → List ℕ
parts_of (row.Struct name fields) = filter_map (λ field. part_of field.shape) fields
parts_of (row.Union name components) = filter_map part_of components

-- the node of a struct or a union
pub record IsNodeOf (row : TypeRow) (node : Node) : Type 0 where
  pub need : node.need ≡ One
  pub parts : node.parts.items ≡ parts_of row

-- the nodes of rows, after the one for types that are not carried
pub record AreNodesOf (rows : List TypeRow) (nodes : List Node) : Type 0 where
  pub first : Node
  pub rest : List Node
  pub is : nodes ≡ first ∷ rest
  pub need : first.need ≡ All
  pub none : first.parts.items ≡ []
  pub each : AllZip IsNodeOf rows rest

-- the marks decide which of the types mention one that is not carried
pub record AreMarked (types : MarkedTypes) : Type 0 where
  pub first : slice_get types.marks.items 0 ≡ Some true
  pub each : (number : ℕ) → (slice_get types.marks.items (number + 1) ≡ Some true) ↔ MentionsUncarried types.rows.items (Named number)
