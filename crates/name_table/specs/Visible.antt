-- Which declarations a file sees.
use Rattle.std.specs.Prelude.{ℕ, List}
use Rattle.ipdl_syntax.specs.declared.program.Entry.{Entry}
use Rattle.name_table.specs.declared.decl.DeclId.{DeclId}
use Rattle.name_table.specs.declared.decl.DeclId.TheVariants.{Protocol}
use Rattle.name_table.specs.Declares.{Declares, Includes, IsHeader}

-- The declarations that a file sees, each under its full name: its own; of an included protocol file that file's
-- protocol; of an included header whatever the header sees. Each has a finite derivation, so headers may include one
-- another in a ring.
pub data Sees (program : List Entry) : ℕ → DeclId → List ℕ → Type 0 where
  own : {file : ℕ} {d : DeclId} {full : List ℕ} → Declares program file d full → Sees program file d full
  protocol : {file other : ℕ} {full : List ℕ} → Includes program file other → Declares program other (Protocol other) full → Sees program file (Protocol other) full
  header : {file other : ℕ} {d : DeclId} {full : List ℕ} → Includes program file other → IsHeader program other → Sees program other d full → Sees program file d full
