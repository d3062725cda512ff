-- Programs that break no rule on types and protocols.
use Rattle.std.specs.Prelude.{List}
use Rattle.ipdl_base.specs.declared.finding.Finding.{Finding}
use Rattle.ipdl_syntax.specs.declared.program.Entry.{Entry}
use Rattle.ipdl_syntax.specs.Programs.{IsProgram, BearTheirNames}
use Rattle.type_rules.specs.Broken as types
use Rattle.manager_rules.specs.Broken as managers
use Rattle.message_rules.specs.Broken as messages

-- A program whose protocols have the names of their files, and that breaks none of the rules B1 to B24.
pub record IsClean (program : List Entry) : Type 0 where
  pub is_program : IsProgram program
  pub named : BearTheirNames program
  pub types : (f : Finding) → ¬ types.BrokenAt program f
  pub managers : (f : Finding) → ¬ managers.BrokenAt program f
  pub messages : (f : Finding) → ¬ messages.BrokenAt program f
