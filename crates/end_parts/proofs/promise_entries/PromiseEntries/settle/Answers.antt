use Rattle.std.proofs.Common.{◌≡◌, ℤ, List, map, sym, ap, subst, ◌∙◌}
use Rattle.std.proofs.lemmas.Int.{to_z-of_z}
use mir.Val.{to_z, of_z}
use mir.Syntax.{w32}
use Rattle.std.specs.Map.{values_of}
use Rattle.promise_table.specs.declared.promise.Promise.{Promise}
use Rattle.promise_table.specs.declared.promise.Settling.{Settling}
use Rattle.promise_table.specs.Plain.{plain_outcome}
use Rattle.promise_table.specs.Promises.{promise_of, settling_of, with_settled}
use Rattle.channel_model.specs.Ends.{PromiseEntry}
use Rattle.channel_model.specs.Takes.{is_awaited, settled_entry}
use Rattle.end_parts.specs.PromiseRequests.{entries_of, is_now, AreRequestsOf}
use Rattle.end_parts.proofs.RequestLemmas.{awaited-entries, requests-settled, settled-entries}
use Rattle.end_parts.proofs.promise_entries.PromiseEntries.settle.Goals as goal

pub invariant_of-self : goal.invariant_of-self
invariant_of-self c =
    let ps = c.self.inside.promises in
    let rs = values_of c.self.inside.requests.entries in
    (subst (λ (qs : List Promise). AreRequestsOf qs rs) (sym c.settle.ensures.settled) (requests-settled (to_z w32 (of_z w32 c.args.seq)) c.args.outcome ps rs c.self.invariant.0), c.settle.ensures.distinct, c.self.invariant.2)

pub returns-clause-awaited : goal.returns-clause-awaited
returns-clause-awaited c =
    let ps = c.self.inside.promises in
    let rs = values_of c.self.inside.requests.entries in
    let found : c.settle.result ≡ settling_of (promise_of ps c.args.seq) = c.settle.ensures.answer ∙ ap (λ (z : ℤ). settling_of (promise_of ps z)) (to_z-of_z w32 c.args.seq c.ranges.seq) in
    c.is_now.ensures ∙ ap (λ (s : Settling). is_now s) found ∙ sym (awaited-entries c.args.seq ps rs c.self.invariant.0) ∙ ap (λ (es : List PromiseEntry). is_awaited c.args.seq es) c.self.view_is

pub returns-clause-settled : goal.returns-clause-settled
returns-clause-settled c =
    let ps = c.self.inside.promises in
    let rs = values_of c.self.inside.requests.entries in
    let now : c.settle.new.self ≡ with_settled ps c.args.seq c.args.outcome = c.settle.ensures.settled ∙ ap (λ (z : ℤ). with_settled ps z c.args.outcome) (to_z-of_z w32 c.args.seq c.ranges.seq) in
    ap (λ (qs : List Promise). entries_of qs rs) now ∙ settled-entries c.args.seq c.args.outcome ps rs c.self.invariant.0 ∙ ap (λ (es : List PromiseEntry). map (settled_entry c.args.seq (plain_outcome c.args.outcome)) es) c.self.view_is
