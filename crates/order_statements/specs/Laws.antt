-- Every legal history keeps the order, and every event in it has the effects and gives the answers that it owes.
use Rattle.std.specs.Prelude.{◌≡◌, ℕ, ℤ, true, false, List, ◌++◌}
use Rattle.ipdl_base.specs.declared.kinds.Side.{Side}
use Rattle.ipdl_base.specs.declared.line.Line.{Line}
use Rattle.ipdl_base.specs.declared.schema.Schema.{Schema}
use Rattle.ipdl_base.specs.Sound.{IsSound}
use Rattle.actor_tree.specs.Tree.{lives}
use Rattle.channel_model.specs.Ends.{End, Packet, end_of}
use Rattle.channel_model.specs.Events.{Move}
use Rattle.channel_model.specs.Runs.{history_of}
use Rattle.channel_laws.specs.Laws.{world_of}
use Rattle.alone_laws.specs.AloneRuns.{RunsAlone}
use Rattle.order_statements.specs.Answers.{Answers}
use Rattle.order_statements.specs.Effects.{Effects}
use Rattle.order_statements.specs.Order.{Order}

-- What events owe: the effects at their own end, and the answers between both ends.
pub record Owed (schema : Schema) (lines : List Line) : Type 0 where
  pub effects : Effects schema lines
  pub answers : Answers schema lines

abbrev pub HistoriesKeepOrder : Type 0
HistoriesKeepOrder = (schema : Schema) → IsSound schema → (top : ℕ) (moves : List Move) → Order schema (history_of schema top moves)

abbrev pub HistoriesGiveWhatIsOwed : Type 0
HistoriesGiveWhatIsOwed = (schema : Schema) → IsSound schema → (top : ℕ) (moves : List Move) → Owed schema (history_of schema top moves)

-- Every event of one end has the effects that it owes at its own end, whatever is delivered to the end.
abbrev pub OneEndHasEffects : Type 0
OneEndHasEffects = (schema : Schema) → IsSound schema → (top : ℕ) (side : Side) (e : End) (lines : List Line) (packets : List Packet) → RunsAlone schema top side e lines packets → Effects schema lines

-- In every run an actor that lived and no longer lives never lives again.
abbrev pub FallenActorsStayFallen : Type 0
FallenActorsStayFallen =
    (schema : Schema) → IsSound schema → (top : ℕ) (front middle back : List Move) (side : Side) (id : ℤ) → lives id (end_of side (world_of schema top front)).actors ≡ true
    → lives id (end_of side (world_of schema top (front ++ middle))).actors ≡ false → lives id (end_of side (world_of schema top ((front ++ middle) ++ back))).actors ≡ false
