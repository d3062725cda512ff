-- The next action of main, from what is kept.
use Rattle.std.proofs.Common.{◌≡◌, ℕ, Bool, true, if◌then◌else◌, filter, Option, None, option_and_then, sym, ap, ◌∙◌}
use Rattle.std.specs.Prelude.{slice_get}
use Rattle.handler_script.specs.declared.action.Action.{Action}
use Rattle.handler_script.specs.declared.action.Block.{Block}
use Rattle.handler_script.specs.declared.script.Point.TheVariants as point
use Rattle.handler_script.specs.ScriptOf.{action_at}
use Rattle.handler_script.specs.Served.{serves}
use Rattle.channel_model.specs.Outputs.{is_open}
use Rattle.script_steps.specs.Progress.{Progress}
use Rattle.world_core.specs.Counted.{action_in, block_at}
use Rattle.world_core.specs.HalfView.{HalfView, IsCountedBy}
use Rattle.world_core.specs.NextSteps.{main_action}

-- the next action of main, by the block and the count that are kept
pub main-is : (half : HalfView) (p : Progress) (counted : IsCountedBy half p) (place : Option ℕ) (index : ℕ) (found : Option Action) → is_open half.end.end.state ≡ true
    → option_and_then (slice_get half.script.blocks) place ≡ slice_get (filter (serves half.end.end.side None) half.script.blocks) 0 → index ≡ half.counts.main → found ≡ action_in (block_at half.script place) index → found ≡ main_action half p
main-is half p counted place index found opened block index_is is =
    is ∙ ap (λ (b : Option Block). action_in b index) block ∙ ap (λ (n : ℕ). action_at half.script half.end.end.side (point.Main n)) (index_is ∙ counted.counts.main)
    ∙ sym (ap (λ (b : Bool). if b then action_at half.script half.end.end.side (point.Main p.main) else None) opened)
