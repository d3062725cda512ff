use Rattle.std.proofs.Common.{◌≡◌, ℤ, List, Option, sym, ap, ◌∙◌, reverse, rules}
use Rattle.std.proofs.lemmas.Int.{to_z-of_z}
use mir.Val.{SFits}
use mir.Syntax.{w32}
use Rattle.ipdl_base.specs.declared.kinds.Level.{Level}
use Rattle.nesting_core.specs.Deferral.{awaited_level, level_under}
use Rattle.channel_model.specs.Ends.{StackEntry}
use Rattle.end_parts.specs.StackDetails.{frames_in, deferral_context_by}
use Rattle.end_parts.proofs.StackLemmas.{holding-entries}
use Rattle.end_parts.proofs.stack_entries.StackEntries.deferral_context.Goals as goal

pub returns : goal.returns
returns c =
    let frames = c.self.inside.frames in
    let details = reverse c.self.inside.details.items in
    let fits : SFits w32 c.transaction.result = search rules in
    let level : c.level_under.result ≡ awaited_level frames = c.level_under.ensures ∙ ap level_under c.top.ensures.frame in
    let transaction = to_z-of_z w32 c.transaction.result fits ∙ c.transaction.ensures in
    let inside : (record { side = c.args.side; level = c.level_under.result; transaction = c.transaction.result }) ≡ deferral_context_by c.args.side frames =
    ap (λ (l : Option Level). record { side = c.args.side; level = l; transaction = c.transaction.result }) level ∙ ap (λ (z : ℤ). record { side = c.args.side; level = awaited_level frames; transaction = z }) c.transaction.ensures in
    ap (λ (z : ℤ). record { side = c.args.side; level = c.level_under.result; transaction = z }) (to_z-of_z w32 c.transaction.result fits) ∙ inside
    ∙ sym (holding-entries c.args.side frames details c.self.invariant.0) ∙ ap (λ (xs : List StackEntry). deferral_context_by c.args.side (frames_in xs)) c.self.view_is
