use Rattle.std.proofs.Common.{◌≡◌, List, sym, ap, subst, ◌∙◌}
use Rattle.std.specs.Map.{values_of}
use Rattle.promise_table.specs.declared.promise.Promise.{Promise}
use Rattle.promise_table.specs.Promises.{is_pending, oldest, with_rejected}
use Rattle.promise_table.proofs.PlainLemmas.{is_pending-plain}
use Rattle.end_parts.specs.PromiseRequests.{entries_of, oldest_of, with_oldest_rejected, AreRequestsOf}
use Rattle.end_parts.proofs.PromiseLemmas.{oldest-entries, rejected-entries}
use Rattle.end_parts.proofs.RequestLemmas.{length-requests, requests-rejected}
use Rattle.end_parts.proofs.promise_entries.PromiseEntries.reject_next.Goals as goal

pub returns-clause-oldest : goal.returns-clause-oldest
returns-clause-oldest c =
    c.reject_all.ensures.oldest ∙ sym (oldest-entries is_pending is_pending-plain c.self.inside.promises (values_of c.self.inside.requests.entries) (length-requests c.self.inside.promises (values_of c.self.inside.requests.entries) c.self.invariant.0))
    ∙ ap (oldest_of is_pending) c.self.view_is

pub returns-clause-rejected : goal.returns-clause-rejected
returns-clause-rejected c =
    let ps = c.self.inside.promises in
    let ns = values_of c.self.inside.requests.entries in
    let now : c.reject_all.new.self ≡ with_rejected ps (oldest is_pending ps) c.args.reason = c.reject_all.ensures.rejected ∙ ap (λ s. with_rejected ps s c.args.reason) c.reject_all.ensures.oldest in
    ap (λ (qs : List Promise). entries_of qs ns) now ∙ rejected-entries is_pending is_pending-plain (λ p e. e) c.args.reason ps ns (length-requests c.self.inside.promises (values_of c.self.inside.requests.entries) c.self.invariant.0) c.self.invariant.1
    ∙ ap (with_oldest_rejected is_pending c.args.reason) c.self.view_is

pub invariant_of-self : goal.invariant_of-self
invariant_of-self c =
    (subst (λ (qs : List Promise). AreRequestsOf qs (values_of c.self.inside.requests.entries)) (sym c.reject_all.ensures.rejected) (requests-rejected c.reject_all.result c.args.reason c.self.inside.promises (values_of c.self.inside.requests.entries) c.self.invariant.0), c.reject_all.ensures.distinct, c.self.invariant.2)
