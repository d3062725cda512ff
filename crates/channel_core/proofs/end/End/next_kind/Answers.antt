use Rattle.std.proofs.Common.{◌≡◌, true, Some, None, refl, sym, ap, ◌∙◌, find}
use Rattle.std.specs.Cmp.Derive.{both_true}
use Rattle.pending_queue.specs.declared.item.Item.{Item}
use Rattle.pending_queue.specs.DeferralContext.{is_free}
use Rattle.channel_core.specs.NextItems.{next_kind}
use Rattle.channel_core.specs.EndView.{EndView}
use Rattle.channel_core.proofs.EndViews.{seen_in}
use Rattle.channel_core.proofs.TakeLemmas.{kind_found, kind_plain, may_take}
use Rattle.channel_core.proofs.end.End.next_kind.Goals as goal

pub returns-in-None-clause-kind : goal.returns-in-None-clause-kind
returns-in-None-clause-kind c =
    let v = seen_in c.self.inside in
    let may : may_take v.end ≡ true = both_true (sym c.takes_in_state.ensures ∙ c.if-not-takes_in_state.false) (sym c.takes.ensures.takes ∙ c.if-not-takes.false) in
    let here : find (is_free c.deferral_context-holding.result) c.self.inside.pending.items ≡ None = sym c.in-None.ensures in
    sym (kind_found v c.deferral_context-holding.result c.self.inside.pending.items None refl c.deferral_context-holding.ensures may here) ∙ ap (λ (s : EndView). next_kind s) c.self.view_is

pub returns-in-Some-clause-kind : goal.returns-in-Some-clause-kind
returns-in-Some-clause-kind c =
    let v = seen_in c.self.inside in
    let x : Item = c.in-Some.item.now in
    let may : may_take v.end ≡ true = both_true (sym c.takes_in_state.ensures ∙ c.if-not-takes_in_state.false) (sym c.takes.ensures.takes ∙ c.if-not-takes.false) in
    let here : find (is_free c.deferral_context-holding.result) c.self.inside.pending.items ≡ Some x = sym c.in-Some.ensures in
    ap Some (c.kind_of_item.ensures ∙ sym (kind_plain x)) ∙ sym (kind_found v c.deferral_context-holding.result c.self.inside.pending.items (Some x) refl c.deferral_context-holding.ensures may here) ∙ ap (λ (s : EndView). next_kind s) c.self.view_is
