-- A run as it begins.
use Rattle.std.proofs.Common.{◌≡◌, ◌≤◌, List, [], refl, sym, ap, subst, ◌∙◌, arith}
use Rattle.handler_script.specs.Valid.{IsValid}
use Rattle.ipdl_base.specs.declared.kinds.Side.{Side}
use Rattle.ipdl_base.specs.declared.kinds.Side.TheVariants as sides
use Rattle.ipdl_base.specs.declared.line.Line.{Line}
use Rattle.ipdl_base.specs.Sound.{IsSound}
use Rattle.channel_model.specs.Ends.{end_of, opening_end}
use Rattle.channel_model.specs.Runs.{RunState}
use Rattle.channel_core.specs.EndView.{EndView}
use Rattle.script_steps.specs.Choices.{Setting, beginning_of}
use Rattle.world_core.specs.HalfView.{HalfView}
use Rattle.world_core.specs.LinkView.{LinkView}
use Rattle.world_core.specs.WorldView.{opening_of, state_of}
use Rattle.world_core.specs.Worlds.{IsHalfOf, IsOpening, IsOpeningLink, IsRun, IsWorld, most_events}

-- no line reports a beginning
begins-untold : (setting : Setting) (lines : List Line) → lines ≡ [] → state_of setting lines ≡ beginning_of setting
unfolding state_of
begins-untold setting lines none = ap (state_of setting) none

opening-is : (setting : Setting) (side : Side) → end_of side (beginning_of setting).world ≡ opening_end setting.script.top side
opening-is setting sides.Parent = refl
opening-is setting sides.Child = refl

half-begins : (setting : Setting) (side : Side) (half : HalfView) → IsOpening setting side half → IsHalfOf setting (beginning_of setting) side half
half-begins setting side half is = record {
  about = is.about;
  end = ap (λ (v : EndView). v.end) is.end ∙ sym (opening-is setting side);
  no_lines = ap (λ (v : EndView). v.lines) is.end;
  no_packets = ap (λ (v : EndView). v.packets) is.end;
  counted = is.counted;
}

module _ (setting : Setting) (parent child : HalfView) (link : LinkView) (sound : IsSound setting.schema) (valid : IsValid setting.schema setting.script) (small : setting.limit ≤ most_events)
    (parent_is : IsOpening setting sides.Parent parent) (child_is : IsOpening setting sides.Child child) (link_is : IsOpeningLink setting.limit link) where
  run-begins : IsRun setting (beginning_of setting) link
  run-begins = record {
    sound = sound;
    valid = valid;
    small = small;
    choices = [];
    plays = refl;
    lines = link_is.no_lines;
    room = (let room = link_is.lines in omega (arith, room));
    to_parent = record { packets = link_is.none_to_parent; framed = tt; room = link_is.parent };
    to_child = record { packets = link_is.none_to_child; framed = tt; room = link_is.child };
  }

  -- the state that the lines of the link report is the beginning
  begins-so : state_of setting link.lines ≡ beginning_of setting
  begins-so = begins-untold setting link.lines link_is.no_lines

  pub world-begins : IsWorld setting (state_of setting link.lines) parent child link
  world-begins =
      subst (λ (s : RunState). IsWorld setting s parent child link) (sym begins-so)
      (record { run = run-begins; parent_is = half-begins setting sides.Parent parent parent_is; child_is = half-begins setting sides.Child child child_is })

  -- and so it is seen
  pub opens-so : record { setting = setting; state = state_of setting link.lines } ≡ opening_of setting
  opens-so = ap (λ (s : RunState). record { setting = setting; state = s }) begins-so
