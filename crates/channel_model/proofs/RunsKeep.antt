-- What every step keeps of an end is true of both ends in every run.
use Rattle.std.proofs.Common.{◌≡◌, List, [], ◌∷◌, Option, Some, None, refl}
use Rattle.ipdl_base.specs.declared.kinds.Side.{Side}
use Rattle.ipdl_base.specs.declared.kinds.Side.TheVariants.{Parent, Child}
use Rattle.ipdl_base.specs.declared.schema.Schema.{Schema}
use Rattle.channel_model.specs.Ends.{End, World, Packet, end_of, link_to, opening}
use Rattle.channel_model.specs.Events.{Event, Move}
use Rattle.channel_model.specs.Outputs.{Output}
use Rattle.channel_model.specs.Runs.{output_of, passed_by, happens, run, world_after}
use Rattle.channel_model.specs.Steps.{step}
use Rattle.channel_model.specs.StepLaws.{NumbersInEveryRun}
use Rattle.channel_model.specs.Requests.{requests_of, AreNumbered}
use Rattle.channel_model.proofs.Numbered.{numbers_stay}

-- both ends have it
abbrev pub BothHave : (End → Type 0) → World → Type 0
BothHave P world = P world.parent × P world.child

-- a step keeps it
abbrev pub StepsKeep : Schema → (End → Type 0) → Type 0
StepsKeep schema P = (e : End) (link : List Packet) (event : Event) (output : Output) → step schema e link event ≡ Some output → P e → P output.end

moved-keeps : (P : End → Type 0) (side : Side) (event : Event) (world : World) (output : Output) → P output.end → BothHave P world → BothHave P (world_after (record { side = side; event = event }) output world)
moved-keeps P Parent event world output h k = (h, k.1)
moved-keeps P Child event world output h k = (k.0, h)

old_end-has : (P : End → Type 0) (side : Side) (world : World) → BothHave P world → P (end_of side world)
old_end-has P Parent world k = k.0
old_end-has P Child world k = k.1

passed-keeps : (schema : Schema) (P : End → Type 0) → StepsKeep schema P → (move : Move) (world : World) (found : Option Output) → output_of schema world move ≡ found → BothHave P world → BothHave P (passed_by found move world).world
passed-keeps schema P keeps move world None is k = k
passed-keeps schema P keeps move world (Some output) is k =
    moved-keeps P move.side move.event world output (keeps (end_of move.side world) (link_to move.side world) move.event output is (old_end-has P move.side world k)) k

pub runs-keep : (schema : Schema) (P : End → Type 0) → StepsKeep schema P → (moves : List Move) (world : World) → BothHave P world → BothHave P (run schema moves world).world
runs-keep schema P keeps [] world k = k
runs-keep schema P keeps (move ∷ moves) world k =
    runs-keep schema P keeps moves (happens schema world move).world (passed-keeps schema P keeps move world (output_of schema world move) refl k)

pub numbers_in_every_run : NumbersInEveryRun
numbers_in_every_run schema top moves =
    runs-keep schema (λ e. AreNumbered (requests_of e)) (numbers_stay schema) moves (opening top) (record { promised = tt; distinct = tt }, record { promised = tt; distinct = tt })
