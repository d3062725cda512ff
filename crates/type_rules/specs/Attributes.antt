-- The rule on attributes (B7).
use Rattle.std.specs.Prelude.{◌≡◌, ℕ, ◌⊎◌, List, map, Option, Some, None, codes}
use Rattle.std.specs.List.{Any}
use Rattle.ipdl_base.specs.declared.finding.Place.{Place}
use Rattle.ipdl_syntax.specs.declared.program.Entry.{Entry}
use Rattle.ipdl_syntax.specs.declared.tree.Attribute.{Attribute}
use Rattle.findings.specs.Repeats.{IsRepeatedAt}
use Rattle.written_parts.specs.Attributes.{attribute_lists}
use Rattle.written_parts.specs.declared.attributes.Bearer.{Bearer}
use Rattle.written_parts.specs.declared.attributes.Bearer.TheVariants.{Protocol, Message}

-- a value of `Nested` and `NestedUpTo`
abbrev pub IsListedLevel : Option (List ℕ) → Type 0
IsListedLevel value = (value ≡ Some (codes "not")) ⊎ ((value ≡ Some (codes "inside_sync")) ⊎ (value ≡ Some (codes "inside_cpow")))

-- a value of `Compress`: no value, or `all`
abbrev pub IsListedCompress : Option (List ℕ) → Type 0
IsListedCompress value = (value ≡ None) ⊎ (value ≡ Some (codes "all"))

-- an attribute has an effect on such a bearer, and no listed value
abbrev pub IsUnlistedOf : Bearer → Attribute → Type 0
IsUnlistedOf Message a =
    ((a.name ≡ codes "Nested") × ¬ IsListedLevel a.value) ⊎ ((a.name ≡ codes "Compress") × ¬ IsListedCompress a.value)
IsUnlistedOf Protocol a = (a.name ≡ codes "NestedUpTo") × ¬ IsListedLevel a.value
IsUnlistedOf _ a = ⊥

-- the attribute at this place has the name of an earlier one of its list
abbrev pub HasRepeat : Place → List Attribute → Type 0
HasRepeat place attributes = IsRepeatedAt (map (λ a. (a.name, a.place)) attributes) place

-- the attribute at this place has an effect on such a bearer, and no listed value
abbrev pub HasUnlisted : Place → Bearer → List Attribute → Type 0
HasUnlisted place bearer attributes = Any (λ a. IsUnlistedOf bearer a × (a.place ≡ place)) attributes

-- B7: in a list that the program writes, the attribute at this place is repeated, or has an effect and no listed value
abbrev pub IsBadAttribute : List Entry → Place → Type 0
IsBadAttribute program place = Any (λ l. HasRepeat place l.attributes ⊎ HasUnlisted place l.bearer l.attributes) (attribute_lists program)
