use Rattle.std.proofs.Common.{sym, ap, ◌∙◌}
use Rattle.linked_lists.specs.declared.link.Ends.{Ends}
use Rattle.promise_table.specs.Promises.{is_pending}
use Rattle.promise_table.proofs.Found.{oldest_none, oldest_some, pending_first}
use Rattle.promise_table.proofs.table.Table.reject_all.Goals as goal

pub returns-in_err-key-clause-oldest : goal.returns-in_err-key-clause-oldest
returns-in_err-key-clause-oldest c =
    rw c.from_residual.ensures (oldest_none c.args.self.now is_pending c.requires (sym c.in_err-key.was ∙ ap (λ (v : Ends). v.first) c.requires.all_ends))

pub reject-requires-clause-pending : goal.reject-requires-clause-pending
reject-requires-clause-pending c = pending_first c.args.self.now c.in_ok-key.key (sym c.in_ok-key.was ∙ ap (λ (v : Ends). v.first) c.requires.all_ends)

pub returns-clause-oldest : goal.returns-clause-oldest
returns-clause-oldest c =
    c.reject.ensures.seq ∙ oldest_some c.args.self.now is_pending c.in_ok-key.key c.requires (sym c.in_ok-key.was ∙ ap (λ (v : Ends). v.first) c.requires.all_ends)
