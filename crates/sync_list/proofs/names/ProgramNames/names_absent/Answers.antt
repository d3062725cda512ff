use Rattle.std.proofs.Common.{sym, ◌∙◌}
use Rattle.std.proofs.lemmas.Bool.{true≢false, not-true, not_from_false, false_from_ne_true}
use Rattle.ipdl_base.specs.declared.kinds.Semantics.TheVariants.{Async, Sync}
use Rattle.sync_list.specs.Broken.{HasMessage}
use Rattle.sync_list.proofs.Same.{neither}
use Rattle.sync_list.proofs.names.ProgramNames.names_absent.Goals as goal

pub returns-then-not-names_sync : goal.returns-then-not-names_sync
returns-then-not-names_sync c program knows =
    let s = c.args.section.now in (
      λ t. record {
        read = (c.is_read.ensures program knows).0 c.if-not-is_read.false;
        absent = neither (λ semantics. HasMessage semantics program s.protocol s.message)
            (λ h. true≢false (sym ((c.names_sync.ensures program knows).1 h) ∙ c.if-not-names_sync.true))
            (λ h. true≢false (sym ((c.names_async.ensures program knows).1 h) ∙ not-true c.names_async.result t));
      },
      λ n. not_from_false c.names_async.result (false_from_ne_true c.names_async.result (λ t. n.absent Async ((c.names_async.ensures program knows).0 t))),
    )

pub returns-else-not-names_sync : goal.returns-else-not-names_sync
returns-else-not-names_sync c program knows = (
  λ t. absurd (true≢false (sym c.if-not-names_sync.false ∙ not-true c.names_sync.result t)),
  λ n. absurd (n.absent Sync ((c.names_sync.ensures program knows).0 c.if-not-names_sync.false)),
)
