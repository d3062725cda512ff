-- Every legal history, and every run of one end, has the effects that are owed.
use Rattle.std.proofs.Common.{ℕ, List}
use Rattle.ipdl_base.specs.declared.line.Line.{Line}
use Rattle.ipdl_base.specs.declared.schema.Schema.{Schema}
use Rattle.ipdl_base.specs.Sound.{IsSound}
use Rattle.channel_model.specs.Events.{Move}
use Rattle.channel_model.specs.Runs.{history_of}
use Rattle.order_statements.specs.Effects.{Effects}
use Rattle.order_statements.specs.Laws.{OneEndHasEffects}
use Rattle.order_statements.proofs.Builds.{sends-build, takes-build}
use Rattle.order_statements.proofs.Deletes.{returns-delete, sends-delete}
use Rattle.order_statements.proofs.KeptSteps.{EventsAreKept, history-kept, run-kept}
use Rattle.order_statements.proofs.OwedAnswers.{drops-told, renames-told, returns-destroyed, returns-sync}
use Rattle.order_statements.proofs.Refuses.{refusals-do-nothing}
use Rattle.order_statements.proofs.Resolvers.{ResolversAreTold, resolvers-told}
use Rattle.order_statements.proofs.Settles.{replies-late, replies-settle}
use Rattle.order_statements.proofs.Tells.{EventsAreTold, alone-events, history-events}

effects : (schema : Schema) (lines : List Line) → EventsAreTold schema lines → EventsAreKept schema (ResolversAreTold schema) lines → Effects schema lines
effects schema lines told kept = record {
  deletes = sends-delete schema lines told;
  builds = sends-build schema lines told;
  takes = takes-build schema lines told;
  drops = drops-told schema lines told;
  returns = λ end n d below before following at top. record {
    sync = returns-sync schema lines told end n d below before following at top;
    destroyed = returns-destroyed schema lines kept end n d below before following at top;
    deleted = returns-delete schema lines told end n d below before following at top;
  };
  renames = renames-told schema lines kept;
  settles = replies-settle schema lines told;
  late = replies-late schema lines told;
  refusals = refusals-do-nothing schema lines told;
}

pub history-effects-owed : (schema : Schema) → IsSound schema → (top : ℕ) (moves : List Move) → Effects schema (history_of schema top moves)
history-effects-owed schema sound top moves =
    effects schema (history_of schema top moves) (history-events schema sound top moves) (history-kept schema sound (ResolversAreTold schema) (resolvers-told schema) top moves)

pub one_end_has_effects : OneEndHasEffects
one_end_has_effects schema sound top side e lines packets run =
    effects schema lines (alone-events schema sound top side e lines packets run) (run-kept schema sound (ResolversAreTold schema) (resolvers-told schema) top side e lines packets run)
