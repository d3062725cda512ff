-- The rules on protocols, as the sum of those on managers and those on messages.
use Rattle.std.specs.Prelude.{◌⊎◌, List}
use Rattle.ipdl_base.specs.declared.finding.Finding.{Finding}
use Rattle.ipdl_syntax.specs.declared.program.Entry.{Entry}
use Rattle.manager_rules.specs.Broken as managers
use Rattle.message_rules.specs.Broken as messages

-- the program breaks the rule of the finding, on managers or on messages, at the place of the finding
abbrev pub BrokenAt : List Entry → Finding → Type 0
BrokenAt program f = managers.BrokenAt program f ⊎ messages.BrokenAt program f
