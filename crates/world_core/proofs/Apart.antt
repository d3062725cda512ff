-- A world taken apart into its halves and its link, and put together again.
use Rattle.std.proofs.Common.{◌≡◌, ℕ, Option, ap, subst, sym, ◌∙◌}
use Rattle.handler_script.specs.declared.script.Script.{Script}
use Rattle.ipdl_base.specs.declared.kinds.Side.TheVariants as sides
use Rattle.ipdl_base.specs.declared.schema.Schema.{Schema}
use Rattle.schedules.specs.declared.stop.Stop.{Stop}
use Rattle.script_steps.specs.Choices.{Setting}
use Rattle.world_core.proofs.Meetings.{stands-fits, stands-home}
use Rattle.world_core.specs.HalfView.{HalfView, setting_of}
use Rattle.world_core.specs.Halves.{IsSplit}
use Rattle.world_core.specs.LinkView.{LinkView}
use Rattle.world_core.specs.WorldView.{state_of}
use Rattle.world_core.specs.Worlds.{IsWorld}

module _ (setting : Setting) (parent child : HalfView) (link : LinkView) where
  pub world-is-split : IsWorld setting (state_of setting link.lines) parent child link → IsSplit setting parent child link
  world-is-split is = record {
    home = is.run;
    parent_fits = stands-fits setting sides.Parent parent link (record { run = is.run; half_is = is.parent_is });
    parent_emptied = (is.parent_is.no_lines, is.parent_is.no_packets);
    child_fits = stands-fits setting sides.Child child link (record { run = is.run; half_is = is.child_is });
    child_emptied = (is.child_is.no_lines, is.child_is.no_packets);
  }

  pub split-is-world : IsSplit setting parent child link → IsWorld setting (state_of setting link.lines) parent child link
  split-is-world h = record {
    run = h.home;
    parent_is = (stands-home setting sides.Parent parent link h.parent_fits h.parent_emptied h.home).half_is;
    child_is = (stands-home setting sides.Child child link h.child_fits h.child_emptied h.home).half_is;
  }

-- the world of a half's own setting, field by field
pub joined-is-world : (setting : Setting) (parent child : HalfView) (link : LinkView) → setting.schema ≡ parent.end.schema → setting.script ≡ parent.script → setting.stop ≡ parent.stop → setting.limit ≡ parent.limit
    → IsSplit (setting_of parent) parent child link → IsWorld setting (state_of setting link.lines) parent child link
joined-is-world setting parent child link schema script stop limit h =
    let same : setting ≡ setting_of parent =
    ap (λ (s : Schema). record setting { schema = s }) schema ∙ ap (λ (s : Script). record setting { schema = parent.end.schema; script = s }) script
    ∙ ap (λ (s : Option Stop). record { schema = parent.end.schema; script = parent.script; stop = s; limit = setting.limit }) stop ∙ ap (λ (n : ℕ). record { schema = parent.end.schema; script = parent.script; stop = parent.stop; limit = n }) limit in
    subst (λ (s : Setting). IsWorld s (state_of s link.lines) parent child link) (sym same) (split-is-world (setting_of parent) parent child link h)
