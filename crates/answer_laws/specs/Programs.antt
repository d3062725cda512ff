-- No rule and no schema depends on where boxes lie.
use Rattle.std.specs.Prelude.{◌≡◌, List, map}
use Rattle.ipdl_base.specs.declared.finding.Finding.{Finding}
use Rattle.ipdl_base.specs.declared.schema.Schema.{Schema}
use Rattle.ipdl_syntax.specs.declared.program.Entry.{Entry}
use Rattle.grammar_laws.specs.Boxes.{unboxed}
use Rattle.sync_list.specs.declared.list.Section.{Section}
use Rattle.sync_list.specs.Broken as sync
use Rattle.type_rules.specs.Broken as types
use Rattle.manager_rules.specs.Broken as managers
use Rattle.message_rules.specs.Broken as messages
use Rattle.program_schema.specs.SchemaOf.{IsSchemaOf}

-- a file of a program with every box at one place
abbrev pub unboxed_entry : Entry → Entry
unboxed_entry e = record e { unit = unboxed e.unit }

-- a program with every box at one place
abbrev pub unboxed_program : List Entry → List Entry
unboxed_program program = map unboxed_entry program

-- two programs are the same, up to where their boxes lie
abbrev pub AreProgramsAlike : List Entry → List Entry → Type 0
AreProgramsAlike program other = unboxed_program program ≡ unboxed_program other

-- Such programs break the same rules on types and protocols at the same places.
abbrev pub BreakAlike : Type 0
BreakAlike = (program other : List Entry) (f : Finding) → AreProgramsAlike program other
    → (types.BrokenAt program f → types.BrokenAt other f) × (managers.BrokenAt program f → managers.BrokenAt other f) × (messages.BrokenAt program f → messages.BrokenAt other f)

-- Such programs break the same rules of a sync list.
abbrev pub AreListedAlike : Type 0
AreListedAlike = (program other : List Entry) (list : List Section) (f : Finding) → AreProgramsAlike program other → sync.BrokenAt program list f → sync.BrokenAt other list f

-- Such programs have the same schemas.
abbrev pub HaveSchemasAlike : Type 0
HaveSchemasAlike = (program other : List Entry) (schema : Schema) → AreProgramsAlike program other → IsSchemaOf program schema → IsSchemaOf other schema
