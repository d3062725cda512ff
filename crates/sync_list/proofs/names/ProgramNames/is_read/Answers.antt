use Rattle.sync_list.specs.Broken.{IsRead}
use Rattle.sync_list.proofs.Keys.{told_name}
use Rattle.sync_list.proofs.names.ProgramNames.is_read.Goals as goal

pub returns : goal.returns
returns c program knows = told_name c.args.self.now.protocols (IsRead program) c.as_slice.result _ c.as_slice.ensures knows.protocols c.contains.result c.contains.ensures
