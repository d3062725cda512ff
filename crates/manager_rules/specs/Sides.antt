-- The names that a protocol has for its managers and for its managed protocols. These serve the code alone.
use Rattle.std.specs.Prelude.{◌≡◌, ℕ, List, [], Some}
use Rattle.std.specs.List.{Any}
use Rattle.std.specs.Option.{option_map_or}
use Rattle.ipdl_syntax.specs.declared.program.Entry.{Entry}
use Rattle.ipdl_syntax.specs.declared.tree.NameAt.{NameAt}
use Rattle.ipdl_syntax.specs.declared.tree.ProtocolDecl.{ProtocolDecl}
use Rattle.name_table.specs.Decls.{FindsOneProtocol, protocol_of}
use Rattle.manager_rules.specs.declared.side.Relation.{Relation}
use Rattle.manager_rules.specs.declared.side.Relation.TheVariants.{Managers, Managed}

-- the names that a protocol has in a relation
abbrev pub names_on : Relation → ProtocolDecl → List NameAt
names_on Managers p = p.managers
names_on Managed p = p.manages

-- the names that a file's protocol has in a relation
abbrev pub names_in : Relation → Entry → List NameAt
names_in side e = option_map_or (names_on side) e.unit.protocol []

-- the other relation
abbrev pub other_side : Relation → Relation
other_side Managers = Managed
other_side Managed = Managers

-- the protocol names that of another file in this relation
abbrev pub NamesOn : Relation → List Entry → ℕ → ProtocolDecl → ℕ → Type 0
NamesOn side program file p other = Any (λ n. FindsOneProtocol program file n.name other) (names_on side p)

-- one file's protocol names another's in this relation
pub record HasBond (side : Relation) (program : List Entry) (file other : ℕ) : Type 0 where
  pub protocol : ProtocolDecl
  pub there : protocol_of program file ≡ Some protocol
  pub names : NamesOn side program file protocol other
