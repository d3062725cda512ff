-- Rest: what is left in a world where nothing can happen by itself.
use Rattle.std.specs.Prelude.{◌≡◌, ℕ, true, false, List, []}
use Rattle.std.specs.List.{AllByRecursion}
use Rattle.ipdl_base.specs.declared.kinds.EndState.TheVariants.{Open, Closed, Dead}
use Rattle.ipdl_base.specs.declared.kinds.Side.{Side}
use Rattle.ipdl_base.specs.declared.schema.Schema.{Schema}
use Rattle.ipdl_base.specs.Sound.{IsSound}
use Rattle.channel_model.specs.Ends.{End, World, Packet, end_of, link_to}
use Rattle.channel_model.specs.Events.{Move}
use Rattle.ipdl_base.specs.Sides.{other}
use Rattle.channel_model.specs.Outputs.{is_open}
use Rattle.channel_model.specs.Parts.{HoldsActor}
use Rattle.channel_model.specs.Runs.{is_possible, is_still}
use Rattle.channel_model.specs.States.{IsSettled}
use Rattle.channel_laws.specs.Laws.{world_of}
use Rattle.progress_laws.specs.Acts.{happens_by_itself}
use Rattle.progress_laws.specs.Weights.{weight}

-- Nothing is left at an end: in its outbox, among what has arrived, or on its stack.
pub record IsEmptyEnd (e : End) : Type 0 where
  pub outbox : e.outbox ≡ []
  pub arrived : e.arrived ≡ []
  pub stack : e.stack ≡ []

-- Nothing is left at an end, nor on the link toward it while it is open.
pub record NothingIsLeft (e : End) (link : List Packet) : Type 0 where
  pub at_end : IsEmptyEnd e
  pub on_link : is_open e.state ≡ true → link ≡ []

-- In every run nothing can happen by itself in a still world, whatever a handler returns, and nothing is left at
-- either end. A world is still exactly where it weighs nothing.
pub record StillWorldsAreEmpty : Type 0 where
  pub over : (schema : Schema) → IsSound schema → (top : ℕ) (moves : List Move) → is_still schema (world_of schema top moves) ≡ true → (move : Move) → happens_by_itself move.event ≡ true → is_possible schema (world_of schema top moves) move.side move.event ≡ false
  pub empty : (schema : Schema) → IsSound schema → (top : ℕ) (moves : List Move) (side : Side) → is_still schema (world_of schema top moves) ≡ true → NothingIsLeft (end_of side (world_of schema top moves)) (link_to side (world_of schema top moves))
  pub weightless : (schema : Schema) → IsSound schema → (top : ℕ) (moves : List Move) → is_still schema (world_of schema top moves) ≡ true → weight (world_of schema top moves) ≡ 0
  pub still : (schema : Schema) → IsSound schema → (top : ℕ) (moves : List Move) → weight (world_of schema top moves) ≡ 0 → is_still schema (world_of schema top moves) ≡ true

-- An end has ended: it is closed, no actor lives there, each promise is settled and no name is for a resolver; or it
-- is dead.
pub data HasEnded (e : End) : Type 0 where
  has_closed : e.state ≡ Closed → e.actors ≡ [] → AllByRecursion IsSettled e.promises → AllByRecursion HoldsActor e.names → HasEnded e
  has_died : e.state ≡ Dead → HasEnded e

-- A world is at rest in one of two ways, with nothing left at either end: both ends are open and nothing is on a
-- link, or both have ended, whatever is on the links.
pub data IsRestingWorld (w : World) : Type 0 where
  both_rest : w.parent.state ≡ Open → w.child.state ≡ Open → w.to_parent ≡ [] → w.to_child ≡ [] → IsEmptyEnd w.parent → IsEmptyEnd w.child → IsRestingWorld w
  both_ended : HasEnded w.parent → HasEnded w.child → IsEmptyEnd w.parent → IsEmptyEnd w.child → IsRestingWorld w

-- In every run a world is still exactly where it is at rest. So it is never still while one end is open and the other
-- is not, nor while an end is draining. In a still world all requests that were sent to an open end have been
-- delivered there.
pub record StillWorldsRest : Type 0 where
  pub rests : (schema : Schema) → IsSound schema → (top : ℕ) (moves : List Move) → is_still schema (world_of schema top moves) ≡ true → IsRestingWorld (world_of schema top moves)
  pub still : (schema : Schema) → IsSound schema → (top : ℕ) (moves : List Move) → IsRestingWorld (world_of schema top moves) → is_still schema (world_of schema top moves) ≡ true
  pub one_open : (schema : Schema) → IsSound schema → (top : ℕ) (moves : List Move) (side : Side) → (end_of side (world_of schema top moves)).state ≡ Open → is_open (end_of (other side) (world_of schema top moves)).state ≡ false → is_still schema (world_of schema top moves) ≡ false
  pub delivered : (schema : Schema) → IsSound schema → (top : ℕ) (moves : List Move) (side : Side) → is_still schema (world_of schema top moves) ≡ true → (end_of side (world_of schema top moves)).state ≡ Open
      → (end_of side (world_of schema top moves)).delivered ≡ (end_of (other side) (world_of schema top moves)).sent
