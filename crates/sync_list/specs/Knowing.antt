-- The sets of the names of a program.
use Rattle.std.specs.Prelude.{List}
use Rattle.ipdl_base.specs.declared.kinds.Semantics.TheVariants.{Async, Sync}
use Rattle.ipdl_syntax.specs.declared.program.Entry.{Entry}
use Rattle.sync_list.specs.declared.names.ProgramNames.{ProgramNames}
use Rattle.sync_list.specs.Broken.{IsRead, HasMessage}
use Rattle.sync_list.specs.Sets.{same_name, same_pair, KeysAre}

-- the sets are those of the program's protocols
pub record Knows (program : List Entry) (known : ProgramNames) : Type 0 where
  pub protocols : KeysAre same_name known.protocols (λ name. IsRead program name.now)
  pub syncs : KeysAre same_pair known.syncs (λ pair. HasMessage Sync program pair.0.now pair.1.now)
  pub asyncs : KeysAre same_pair known.asyncs (λ pair. HasMessage Async program pair.0.now pair.1.now)
