use Rattle.std.proofs.Common.{◌≡◌, ℤ, List, sym, ap, ◌∙◌, subst}
use Rattle.std.proofs.lemmas.Int.{to_z-of_z}
use mir.Val.{to_z, of_z}
use mir.Syntax.{w32}
use Rattle.std.specs.Map.{values_of}
use Rattle.promise_table.specs.declared.promise.Promise.{Promise}
use Rattle.promise_table.specs.Promises.{is_pending_of, oldest, with_rejected}
use Rattle.promise_table.proofs.PlainLemmas.{is_pending_of-plain}
use Rattle.end_parts.specs.PromiseRequests.{entries_of, oldest_of, with_oldest_rejected, AreRequestsOf}
use Rattle.end_parts.proofs.PromiseLemmas.{oldest-entries, rejected-entries, pends_of}
use Rattle.end_parts.proofs.RequestLemmas.{length-requests, requests-rejected}
use Rattle.end_parts.proofs.promise_entries.PromiseEntries.reject_next_of.Goals as goal

pub returns-clause-oldest : goal.returns-clause-oldest
returns-clause-oldest c =
    let actor = c.args.actor in
    let ps = c.self.inside.promises in
    let back : to_z w32 (of_z w32 actor) ≡ actor = to_z-of_z w32 actor c.ranges.actor in
    let found : c.reject_of.result ≡ oldest (is_pending_of actor) ps = subst (λ (a : ℤ). c.reject_of.result ≡ oldest (is_pending_of a) ps) back c.reject_of.ensures.oldest in
    found ∙ sym (oldest-entries (is_pending_of actor) (is_pending_of-plain actor) ps (values_of c.self.inside.requests.entries) (length-requests c.self.inside.promises (values_of c.self.inside.requests.entries) c.self.invariant.0))
    ∙ ap (oldest_of (is_pending_of actor)) c.self.view_is

pub returns-clause-rejected : goal.returns-clause-rejected
returns-clause-rejected c =
    let actor = c.args.actor in
    let ps = c.self.inside.promises in
    let ns = values_of c.self.inside.requests.entries in
    let back : to_z w32 (of_z w32 actor) ≡ actor = to_z-of_z w32 actor c.ranges.actor in
    let found : c.reject_of.result ≡ oldest (is_pending_of actor) ps = subst (λ (a : ℤ). c.reject_of.result ≡ oldest (is_pending_of a) ps) back c.reject_of.ensures.oldest in
    let now : c.reject_of.new.self ≡ with_rejected ps (oldest (is_pending_of actor) ps) c.args.reason = c.reject_of.ensures.rejected ∙ ap (λ s. with_rejected ps s c.args.reason) found in
    ap (λ (qs : List Promise). entries_of qs ns) now ∙ rejected-entries (is_pending_of actor) (is_pending_of-plain actor) (pends_of actor) c.args.reason ps ns (length-requests c.self.inside.promises (values_of c.self.inside.requests.entries) c.self.invariant.0) c.self.invariant.1
    ∙ ap (with_oldest_rejected (is_pending_of actor) c.args.reason) c.self.view_is

pub invariant_of-self : goal.invariant_of-self
invariant_of-self c =
    (subst (λ (qs : List Promise). AreRequestsOf qs (values_of c.self.inside.requests.entries)) (sym c.reject_of.ensures.rejected) (requests-rejected c.reject_of.result c.args.reason c.self.inside.promises (values_of c.self.inside.requests.entries) c.self.invariant.0), c.reject_of.ensures.distinct, c.self.invariant.2)
