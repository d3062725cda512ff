use Rattle.std.proofs.Common.{◌≡◌, ℤ, Bool, Option, Some, refl, sym, ap, subst, ◌∙◌, find, rules}
use Rattle.std.proofs.lemmas.Int.{to_z-of_z}
use mir.Val.{SFits}
use mir.Syntax.{w32}
use Rattle.ipdl_base.specs.Plain.{plain_values}
use Rattle.pending_queue.specs.declared.item.Item.{Item}
use Rattle.pending_queue.specs.DeferralContext.{is_free}
use Rattle.channel_model.specs.Takes.{deferral_context_of}
use Rattle.end_steps.specs.declared.request_plan.RequestPlan.{RequestPlan}
use Rattle.end_steps.specs.declared.request_plan.RequestPlan.TheVariants as plan
use Rattle.end_steps.specs.RequestPlans.{IsPlanOf}
use Rattle.channel_core.specs.declared.end.taking.ItemKind.TheVariants as kind
use Rattle.channel_core.specs.NextItems.{next_kind, IsNextDrop, IsNextHandling}
use Rattle.channel_core.specs.EndView.{EndView}
use Rattle.channel_core.proofs.EndViews.{seen_in}
use Rattle.channel_core.proofs.TakeLemmas.{is_first, next_request, plan_drop, plan_handle, IsFirst}
use Rattle.channel_core.proofs.end.End.take_request.Goals as goal

pub plan_next-plan-requires-clause-request : goal.plan_next-plan-requires-clause-request
plan_next-plan-requires-clause-request c =
    let v = seen_in c.self.inside in
    let hold : c.deferral_context-holding.result ≡ deferral_context_of v.end = c.deferral_context-holding.ensures in
    let next : next_kind v ≡ Some kind.Request = ap next_kind c.self.view_is ∙ c.requires.kind in
    let found : Option Item = find (is_free c.deferral_context-holding.result) c.self.inside.pending.items in
    let first : IsFirst v found kind.Request = is_first v c.deferral_context-holding.result c.self.inside.pending.items kind.Request refl hold next in
    next_request c.boxes_say_nothing.ensures v found first c.self.invariant.kept.fitting

pub drop_request-requires-clause-next : goal.drop_request-requires-clause-next
drop_request-requires-clause-next c =
    let v = seen_in c.self.inside in
    let hold : c.deferral_context-holding.result ≡ deferral_context_of v.end = c.deferral_context-holding.ensures in
    let next : next_kind v ≡ Some kind.Request = ap next_kind c.self.view_is ∙ c.requires.kind in
    let found : Option Item = find (is_free c.deferral_context-holding.result) c.self.inside.pending.items in
    let first : IsFirst v found kind.Request = is_first v c.deferral_context-holding.result c.self.inside.pending.items kind.Request refl hold next in
    let id = c.in-Ok-Drop.id in
    let packet = c.in-Ok-Drop.packet in
    let fits : SFits w32 id = search rules in
    let told : IsPlanOf v.schema c.is_open.result v.end.actors found (plan.Drop id packet) = subst (λ (p : RequestPlan). IsPlanOf v.schema c.is_open.result v.end.actors found p) c.in-Ok-Drop.field-0-is c.in-Ok-Drop.ensures in
    let is : IsNextDrop v id packet = plan_drop v found first id packet (subst (λ (b : Bool). IsPlanOf v.schema b v.end.actors found (plan.Drop id packet)) c.is_open.ensures told) in
    subst (λ (z : ℤ). IsNextDrop c.args.self.now z packet) (sym (to_z-of_z w32 id fits)) (subst (λ (s : EndView). IsNextDrop s id packet) c.self.view_is is)

pub handle_request-requires-clause-next : goal.handle_request-requires-clause-next
handle_request-requires-clause-next c =
    let v = seen_in c.self.inside in
    let hold : c.deferral_context-holding.result ≡ deferral_context_of v.end = c.deferral_context-holding.ensures in
    let next : next_kind v ≡ Some kind.Request = ap next_kind c.self.view_is ∙ c.requires.kind in
    let found : Option Item = find (is_free c.deferral_context-holding.result) c.self.inside.pending.items in
    let first : IsFirst v found kind.Request = is_first v c.deferral_context-holding.result c.self.inside.pending.items kind.Request refl hold next in
    let shown = c.in-Ok-Handle.shown in
    let built = c.in-Ok-Handle.built in
    let told : IsPlanOf v.schema c.is_open.result v.end.actors found (plan.Handle shown built) = subst (λ (p : RequestPlan). IsPlanOf v.schema c.is_open.result v.end.actors found p) c.in-Ok-Handle.field-0-is c.in-Ok-Handle.ensures in
    let is : IsNextHandling v (plain_values shown) built = plan_handle v found first shown built (subst (λ (b : Bool). IsPlanOf v.schema b v.end.actors found (plan.Handle shown built)) c.is_open.ensures told) in
    subst (λ (s : EndView). IsNextHandling s (plain_values shown) built) c.self.view_is is
