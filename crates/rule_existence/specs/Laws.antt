-- The findings of programs are listed.
use Rattle.std.specs.Prelude.{List}
use Rattle.ipdl_syntax.specs.declared.program.Entry.{Entry}
use Rattle.manager_rules.specs.Broken.{BrokenAt as ManagersBrokenAt}
use Rattle.report_existence.specs.Laws.{IsListed}
use Rattle.type_rules.specs.Broken.{BrokenAt as TypesBrokenAt}
use Rattle.message_rules.specs.Broken.{BrokenAt as MessagesBrokenAt}
use Rattle.sync_list.specs.Broken.{BrokenAt as ListBrokenAt}
use Rattle.sync_list.specs.declared.list.Section.{Section}

-- For every program some list has exactly the findings of the rules on types, names of declarations and attributes.
abbrev pub TypeFindingsAreListed : Type 0
TypeFindingsAreListed = (program : List Entry) → IsListed (TypesBrokenAt program)

-- For every program some list has exactly the findings of the rules on messages.
abbrev pub MessageFindingsAreListed : Type 0
MessageFindingsAreListed = (program : List Entry) → IsListed (MessagesBrokenAt program)

-- For every program and every sync list some list has exactly the findings of the rules of the sync list.
abbrev pub ListFindingsAreListed : Type 0
ListFindingsAreListed = (program : List Entry) (sections : List Section) → IsListed (ListBrokenAt program sections)

-- For every program some list has exactly the findings of the rules on managers and managed protocols.
abbrev pub ManagerFindingsAreListed : Type 0
ManagerFindingsAreListed = (program : List Entry) → IsListed (ManagersBrokenAt program)
