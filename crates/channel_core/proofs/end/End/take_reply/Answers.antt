use Rattle.std.proofs.Common.{◌≡◌, Option, Some, refl, ap, subst, ◌∙◌, find}
use Rattle.pending_queue.specs.declared.item.Item.{Item}
use Rattle.pending_queue.specs.DeferralContext.{is_free}
use Rattle.channel_model.specs.Takes.{deferral_context_of}
use Rattle.channel_core.specs.declared.end.taking.ItemKind.TheVariants as kind
use Rattle.channel_core.specs.NextItems.{next_kind, IsNextReply}
use Rattle.channel_core.specs.EndView.{EndView}
use Rattle.channel_core.proofs.EndViews.{seen_in}
use Rattle.channel_core.proofs.SettleLemmas.{copy_reply}
use Rattle.channel_core.proofs.TakeLemmas.{is_first, next_reply, IsFirst}
use Rattle.channel_core.proofs.end.End.take_reply.Goals as goal

pub copy_next-requires : goal.copy_next-requires
copy_next-requires c =
    let v = seen_in c.self.inside in
    let hold : c.deferral_context-holding.result ≡ deferral_context_of v.end = c.deferral_context-holding.ensures in
    let next : next_kind v ≡ Some kind.Reply = ap next_kind c.self.view_is ∙ c.requires in
    let found : Option Item = find (is_free c.deferral_context-holding.result) c.self.inside.pending.items in
    let first : IsFirst v found kind.Reply = is_first v c.deferral_context-holding.result c.self.inside.pending.items kind.Reply refl hold next in
    next_reply v found first

pub settle_reply-requires-clause-next : goal.settle_reply-requires-clause-next
settle_reply-requires-clause-next c =
    let v = seen_in c.self.inside in
    let hold : c.deferral_context-holding.result ≡ deferral_context_of v.end = c.deferral_context-holding.ensures in
    let next : next_kind v ≡ Some kind.Reply = ap next_kind c.self.view_is ∙ c.requires in
    let found : Option Item = find (is_free c.deferral_context-holding.result) c.self.inside.pending.items in
    let first : IsFirst v found kind.Reply = is_first v c.deferral_context-holding.result c.self.inside.pending.items kind.Reply refl hold next in
    subst (λ (s : EndView). IsNextReply s c.in-Ok.copy) c.self.view_is (copy_reply v found first c.in-Ok.copy (next_reply v found first) c.in-Ok.ensures)
