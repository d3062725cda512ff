-- What a half does on its link in a turn.
use Rattle.std.specs.Prelude.{◌≡◌, true, false, is_some, Some}
use Rattle.ipdl_base.specs.declared.kinds.Side.{Side}
use Rattle.channel_model.specs.Ends.{end_of, link_to}
use Rattle.channel_model.specs.Events as event
use Rattle.ipdl_base.specs.Sides.{other}
use Rattle.channel_model.specs.Runs.{RunState}
use Rattle.schedules.specs.declared.turn.Turn.{Turn}
use Rattle.script_steps.specs.Choices.{Choice, chosen, is_within, may_deliver, own_event}
use Rattle.script_steps.specs.Progress.{progress_of}
use Rattle.script_steps.specs.Turns.{exceeds, idles, leads, led_to, outcome}
use Rattle.world_core.specs.declared.answers.StepAnswer.{StepAnswer}
use Rattle.world_core.specs.declared.answers.StepAnswer.TheVariants as answer
use Rattle.world_core.specs.HalfSteps.{IsHalfStep}
use Rattle.world_core.specs.HalfView.{HalfView}
use Rattle.world_core.specs.LinkView.{LinkView}
use Rattle.world_core.specs.WorldView.{WorldView}
use Rattle.world_core.specs.Worlds.{IsHalfOf, IsRun}

-- A half and its link are in a state of a run.
pub record StandsIn (at : WorldView) (side : Side) (half : HalfView) (link : LinkView) : Type 0 where
  pub run : IsRun at.setting at.state link
  pub half_is : IsHalfOf at.setting at.state side half

-- A half has carried out a choice, and is in the next state. Nothing of the other side changed.
pub record HasPlayed (at : WorldView) (choice : Choice) (half : HalfView) (link : LinkView) : Type 0 where
  pub next : RunState
  pub is_chosen : chosen at.setting choice at.state ≡ Some next
  pub leads_to : led_to at.setting choice at.state ≡ next
  pub stands : StandsIn (record { setting = at.setting; state = next }) choice.side half link
  pub other_end : end_of (other choice.side) next.world ≡ end_of (other choice.side) at.state.world
  pub other_progress : progress_of (other choice.side) next.lines ≡ progress_of (other choice.side) at.state.lines

-- the half and the link stay as they were
abbrev pub AreSame : HalfView → LinkView → HalfView → LinkView → Type 0
AreSame half link half' link' = (half' ≡ half) × (link' ≡ link)

-- A side may get the packet that is first on the link toward it.
pub record MayHave (at : WorldView) (side : Side) : Type 0 where
  pub there : may_deliver side at.state.world ≡ true
  pub within : is_within at.setting side at.state ≡ true

-- the packet that comes first was handed to the half, which made the step of its delivery; or nothing changed
abbrev pub FirstGives : WorldView → Side → HalfView → StepAnswer → HalfView → Type 0
FirstGives at side half answer.Did half' = IsHalfStep half (progress_of side at.state.lines) (link_to side at.state.world) event.deliver half'
FirstGives at side half answer.Nothing half' = ⊥
FirstGives at side half (answer.Spent s) half' = ⊥
FirstGives at side half answer.NoMemory half' = half' ≡ half

-- an own step of a side, and a delivery to it
abbrev pub OwnPlays : WorldView → Side → HalfView → LinkView → StepAnswer → HalfView → LinkView → Type 0
OwnPlays at side half link answer.Did half' link' = (is_within at.setting side at.state ≡ true) × (is_some (own_event at.setting side at.state) ≡ true) × HasPlayed at (record { side = side; delivers = false }) half' link'
OwnPlays at side half link answer.Nothing half' link' = (is_some (own_event at.setting side at.state) ≡ false) × AreSame half link half' link'
OwnPlays at side half link (answer.Spent s) half' link' =
    (is_some (own_event at.setting side at.state) ≡ true) × (is_within at.setting side at.state ≡ false) × (s ≡ side) × AreSame half link half' link'
OwnPlays at side half link answer.NoMemory half' link' = AreSame half link half' link'

abbrev pub DeliveryPlays : WorldView → Side → HalfView → LinkView → StepAnswer → HalfView → LinkView → Type 0
DeliveryPlays at side half link answer.Did half' link' = (is_within at.setting side at.state ≡ true) × (may_deliver side at.state.world ≡ true) × HasPlayed at (record { side = side; delivers = true }) half' link'
DeliveryPlays at side half link answer.Nothing half' link' = (may_deliver side at.state.world ≡ false) × AreSame half link half' link'
DeliveryPlays at side half link (answer.Spent s) half' link' = (may_deliver side at.state.world ≡ true) × (is_within at.setting side at.state ≡ false) × (s ≡ side) × AreSame half link half' link'
DeliveryPlays at side half link answer.NoMemory half' link' = AreSame half link half' link'

-- A turn of a side was done, by a choice.
pub record HasTurned (at : WorldView) (turn : Turn) (half : HalfView) (link : LinkView) : Type 0 where
  pub choice : Choice
  pub side : choice.side ≡ turn.side
  pub played : HasPlayed at choice half link
  pub is : outcome at.setting turn at.state ≡ leads played.next

abbrev pub TurnPlays : WorldView → Turn → HalfView → LinkView → StepAnswer → HalfView → LinkView → Type 0
TurnPlays at turn half link answer.Did half' link' = HasTurned at turn half' link'
TurnPlays at turn half link answer.Nothing half' link' = (outcome at.setting turn at.state ≡ idles) × AreSame half link half' link'
TurnPlays at turn half link (answer.Spent s) half' link' = (outcome at.setting turn at.state ≡ exceeds) × (s ≡ turn.side) × AreSame half link half' link'
TurnPlays at turn half link answer.NoMemory half' link' = AreSame half link half' link'
