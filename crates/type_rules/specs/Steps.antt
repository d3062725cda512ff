-- Parts of the rules on fields and attributes, as the code goes through them. They serve the code alone.
use Rattle.std.specs.Prelude.{ℕ, List, map}
use Rattle.ipdl_base.specs.declared.finding.Place.{Place}
use Rattle.ipdl_syntax.specs.declared.tree.StructDecl.{StructDecl}
use Rattle.findings.specs.Repeats.{IsRepeatedAt}
use denote.Ref.{Bor}

-- a name, and its place
abbrev pub name_place : Bor (List ℕ) × Place → List ℕ × Place
name_place n = (n.0.now, n.1)

-- the field at this place has the name of an earlier one of the struct
abbrev pub HasRepeatedField : Place → StructDecl → Type 0
HasRepeatedField place s = IsRepeatedAt (map (λ f. (f.name, f.place)) s.fields) place
