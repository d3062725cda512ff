-- What is true of every world.
use Rattle.std.specs.Prelude.{◌≡◌, ℕ, ◌+◌, ◌*◌, ◌≤◌, List, [], length, Some}
use Rattle.std.specs.List.{AllByRecursion}
use Rattle.handler_script.specs.Valid.{IsValid}
use Rattle.ipdl_base.specs.declared.kinds.Side.{Side}
use Rattle.ipdl_base.specs.declared.kinds.Side.TheVariants as sides
use Rattle.ipdl_base.specs.Sound.{IsSound}
use Rattle.channel_model.specs.Ends.{end_of, link_to}
use Rattle.channel_model.specs.Runs.{RunState}
use Rattle.channel_core.specs.EndView.{IsFramed, opened, packets_of}
use Rattle.script_runs.specs.Laws.{ObeysAllLaws}
use Rattle.script_steps.specs.Choices.{Setting, Choice, IsCaseHistory, beginning_of, played}
use Rattle.script_steps.specs.Progress.{no_progress, progress_of}
use Rattle.world_core.specs.HalfView.{HalfView, IsCountedBy, setting_of}
use Rattle.world_core.specs.LinkView.{LinkView, packets_to, room_to}
use Rattle.world_core.specs.WorldView.{WorldView}

-- the greatest limit of a run
abbrev pub most_events : ℕ
most_events = 20000

-- the numbers of lines of a side, and of packets from it, that there is room for
abbrev pub room_of : ℕ → ℕ
room_of limit = 8 * limit + 1

-- A half is that of a side in a state of a run, with nothing to append.
pub record IsHalfOf (setting : Setting) (state : RunState) (side : Side) (half : HalfView) : Type 0 where
  pub about : setting_of half ≡ setting
  pub end : half.end.end ≡ end_of side state.world
  pub no_lines : half.end.lines ≡ []
  pub no_packets : half.end.packets ≡ []
  pub counted : IsCountedBy half (progress_of side state.lines)

-- A half of a side as it begins.
pub record IsOpening (setting : Setting) (side : Side) (half : HalfView) : Type 0 where
  pub about : setting_of half ≡ setting
  pub end : half.end ≡ opened side setting.schema setting.script.top
  pub counted : IsCountedBy half no_progress

-- A link as it begins, with no line and no packet, and with room for all that may come.
pub record IsOpeningLink (limit : ℕ) (link : LinkView) : Type 0 where
  pub no_lines : link.lines ≡ []
  pub none_to_parent : link.to_parent ≡ []
  pub none_to_child : link.to_child ≡ []
  pub lines : 2 * room_of limit ≤ link.spare
  pub parent : room_of limit ≤ link.parent_room
  pub child : room_of limit ≤ link.child_room

-- The packets toward a side are those of a state, and each has a frame. There is room for all that may still come.
pub record IsLinkOf (setting : Setting) (state : RunState) (side : Side) (link : LinkView) : Type 0 where
  pub packets : packets_to side link ≡ packets_of setting.schema (link_to side state.world)
  pub framed : AllByRecursion (IsFramed setting.schema) (link_to side state.world)
  pub room : room_of setting.limit ≤ room_to side link

-- A state of a run by a valid script of a sound schema, to which choices lead, with its link, which has room for all
-- that may still come.
pub record IsRun (setting : Setting) (state : RunState) (link : LinkView) : Type 0 where
  pub sound : IsSound setting.schema
  pub valid : IsValid setting.schema setting.script
  pub small : setting.limit ≤ most_events
  pub choices : List Choice
  pub plays : played setting choices (beginning_of setting) ≡ Some state
  pub lines : link.lines ≡ state.lines
  pub room : 2 * room_of setting.limit ≤ length link.lines + link.spare
  pub to_parent : IsLinkOf setting state sides.Parent link
  pub to_child : IsLinkOf setting state sides.Child link

-- The halves and the link are those of a state.
pub record IsWorld (setting : Setting) (state : RunState) (parent child : HalfView) (link : LinkView) : Type 0 where
  pub run : IsRun setting state link
  pub parent_is : IsHalfOf setting state sides.Parent parent
  pub child_is : IsHalfOf setting state sides.Child child

-- Choices lead to the state of a world. So its history is a history of the script.
pub record IsCase (w : WorldView) : Type 0 where
  pub leading : List Choice
  pub plays : played w.setting leading (beginning_of w.setting) ≡ Some w.state
  pub history : IsCaseHistory w.setting w.state.lines

-- Its lines can be read, and every law holds of them.
abbrev pub IsLawful : WorldView → Type 0
IsLawful w = ObeysAllLaws w.setting.schema w.state.lines
