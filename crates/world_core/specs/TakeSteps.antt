-- What a side does as it takes what arrived first at its end.
use Rattle.std.specs.Prelude.{◌≡◌, ℕ, List, ◌∷◌, slice_get, Option, option_and_then}
use Rattle.handler_script.specs.declared.action.Block.{Block}
use Rattle.ipdl_base.specs.declared.kinds.Side.{Side}
use Rattle.ipdl_base.specs.declared.message.Message.{Message}
use Rattle.ipdl_base.specs.declared.schema.MessageRow.{MessageRow}
use Rattle.ipdl_base.specs.declared.value.Values.{Values}
use Rattle.script_parts.specs.Tables.{IsTableOf, block_after}
use Rattle.channel_model.specs.Events as event
use Rattle.channel_core.specs.EndView.{EndView}
use Rattle.channel_core.specs.Steps.{IsStep}
use Rattle.channel_core.specs.Taken.{TakeKind, handle, nothing, kind_of, resolver_for}
use Rattle.world_core.specs.declared.answers.StepAnswer.{StepAnswer}
use Rattle.world_core.specs.declared.answers.StepAnswer.TheVariants as answer
use Rattle.world_core.specs.CountsSteps.{with_event}
use Rattle.world_core.specs.CountsView.{CountsView, RunningView}
use Rattle.world_core.specs.HalfSteps.{with_end_of}
use Rattle.world_core.specs.HalfView.{HalfView}

-- a request of a message as its handler begins: the block that serves it, and its values
abbrev pub begun : Option ℕ → Message → MessageRow → Values → RunningView
begun block m row vs = record { block = block; acts = 0; given = vs; made = m.made; resolver = resolver_for m row }

-- The handler of a request begins, in the block that the table gives for it.
pub record HasBegun (before : CountsView) (m : Message) (row : MessageRow) (vs : Values) (after : CountsView) : Type 0 where
  pub block : Option ℕ
  pub serves : (blocks : List Block) (side : Side) (taken : List ℕ) → IsTableOf blocks side taken before.table
      → IsTableOf blocks side (m.number ∷ taken) after.table × (option_and_then (slice_get blocks) block ≡ block_after blocks side m.number taken)
  pub is : after ≡ record (with_event before) { table = after.table; running = begun block m row vs ∷ before.running }

-- what a take counts as: if it handles a request, the handler of that begins; else it is an event and no more
abbrev pub IsCountedTake : TakeKind → CountsView → CountsView → Type 0
IsCountedTake (handle m row vs) before after = HasBegun before m row vs after
IsCountedTake nothing before after = ⊥
IsCountedTake _ before after = after ≡ with_event before

-- what arrived first was taken and counted, or nothing changed
abbrev pub TakeCounts : CountsView → EndView → StepAnswer → CountsView → EndView → Type 0
TakeCounts before seen answer.Did after seen' = IsStep seen event.take seen' × IsCountedTake (kind_of seen) before after
TakeCounts before seen answer.Nothing after seen' = ⊥
TakeCounts before seen (answer.Spent side) after seen' = ⊥
TakeCounts before seen answer.NoMemory after seen' = (after ≡ before) × (seen' ≡ seen)

-- The end of a half has taken what arrived first, and its counts have changed accordingly. Nothing else of it changed.
pub record HasTaken (before after : HalfView) : Type 0 where
  pub is : IsStep before.end event.take after.end
  pub same : after ≡ with_end_of before after
  pub counts : IsCountedTake (kind_of before.end) before.counts after.counts

abbrev pub HalfTakes : HalfView → StepAnswer → HalfView → Type 0
HalfTakes before answer.Did after = HasTaken before after
HalfTakes before answer.Nothing after = ⊥
HalfTakes before (answer.Spent side) after = ⊥
HalfTakes before answer.NoMemory after = after ≡ before
