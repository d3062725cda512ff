use Rattle.sync_list.specs.Broken.{HasMessage}
use Rattle.sync_list.proofs.Keys.{told_pair}
use Rattle.sync_list.proofs.names.ProgramNames.names_sync.Goals as goal

pub returns : goal.returns
returns c program knows = told_pair c.args.self.now.syncs (HasMessage _ program) c.names_of.result _ _ c.names_of.ensures.protocol c.names_of.ensures.message knows.syncs c.contains.result c.contains.ensures
