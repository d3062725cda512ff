-- What follows from the definitions, for every list of frames.
use Rattle.std.specs.Prelude.{◌≡◌, ◌↔◌, ◌<◌, ℤ, true, List, length, map, Some, None, option_map}
use Rattle.ipdl_base.specs.declared.kinds.SendRefusal.TheVariants.{NestedInNormal, InsideCpow, LevelTooLow, TooDeep}
use Rattle.ipdl_base.specs.declared.kinds.Side.{Side}
use Rattle.nesting_core.specs.declared.frame.Answer.{Answer}
use Rattle.nesting_core.specs.declared.frame.StackFrame.{StackFrame}
use Rattle.nesting_core.specs.declared.frame.Head.{Head}
use Rattle.nesting_core.specs.declared.frame.SendHead.{SendHead}
use Rattle.nesting_core.specs.Answers as answers
use Rattle.nesting_core.specs.Deferral as deferral
use Rattle.nesting_core.specs.Frames as frames
use Rattle.nesting_core.specs.Refusals as refusals
use Rattle.nesting_core.specs.Room as room
use Rattle.nesting_core.specs.Top as top
use Rattle.nesting_core.specs.Plain.{plain_answer, plain_frame, plain_popped}

-- No definition on frames looks at where a box lies: each gives the same on the plain frames, or its plain form.
pub record PlainFormsCommute : Type 0 where
  pub head_of : (f : StackFrame) → frames.head_of (plain_frame f) ≡ frames.head_of f
  pub is_dispatch : (f : StackFrame) → frames.is_dispatch (plain_frame f) ≡ frames.is_dispatch f
  pub is_sync_dispatch : (f : StackFrame) → frames.is_sync_dispatch (plain_frame f) ≡ frames.is_sync_dispatch f
  pub is_wait : (f : StackFrame) → frames.is_wait (plain_frame f) ≡ frames.is_wait f
  pub is_unanswered : (f : StackFrame) → frames.is_unanswered (plain_frame f) ≡ frames.is_unanswered f
  pub is_inside_sync : (f : StackFrame) → frames.is_inside_sync (plain_frame f) ≡ frames.is_inside_sync f
  pub innermost_dispatch : (fs : List StackFrame) → frames.innermost_dispatch (map plain_frame fs) ≡ frames.innermost_dispatch fs
  pub innermost_sync_dispatch : (fs : List StackFrame) → frames.innermost_sync_dispatch (map plain_frame fs) ≡ frames.innermost_sync_dispatch fs
  pub innermost_wait : (fs : List StackFrame) → frames.innermost_wait (map plain_frame fs) ≡ frames.innermost_wait fs
  pub innermost_unanswered : (fs : List StackFrame) → frames.innermost frames.is_unanswered (map plain_frame fs) ≡ frames.innermost frames.is_unanswered fs
  pub innermost_inside_sync : (fs : List StackFrame) → frames.innermost frames.is_inside_sync (map plain_frame fs) ≡ frames.innermost frames.is_inside_sync fs
  pub has_wait : (fs : List StackFrame) → frames.has_wait (map plain_frame fs) ≡ frames.has_wait fs
  pub awaited : (fs : List StackFrame) → answers.awaited (map plain_frame fs) ≡ answers.awaited fs
  pub with_answer : (a : Answer) (fs : List StackFrame) → answers.with_answer (plain_answer a) (map plain_frame fs) ≡ map plain_frame (answers.with_answer a fs)
  pub top_of : (fs : List StackFrame) → top.top_of (map plain_frame fs) ≡ top.top_of fs
  pub popped_of : (fs : List StackFrame) → top.popped_of (map plain_frame fs) ≡ option_map plain_popped (top.popped_of fs)
  pub after_pop : (fs : List StackFrame) → top.after_pop (map plain_frame fs) ≡ map plain_frame (top.after_pop fs)
  pub fits_room : (fs : List StackFrame) → room.FitsRoom (map plain_frame fs) ↔ room.FitsRoom fs
  pub inner_transaction : (fs : List StackFrame) → deferral.inner_transaction (map plain_frame fs) ≡ deferral.inner_transaction fs
  pub transaction_of : (fs : List StackFrame) (seq : ℤ) → deferral.transaction_of (map plain_frame fs) seq ≡ deferral.transaction_of fs seq
  pub awaited_level : (fs : List StackFrame) → deferral.awaited_level (map plain_frame fs) ≡ deferral.awaited_level fs
  pub defers : (side : Side) (fs : List StackFrame) (head : Head) → deferral.defers side (map plain_frame fs) head ≡ deferral.defers side fs head
  pub is_nested_in_normal : (fs : List StackFrame) (send : SendHead) → refusals.is_nested_in_normal (map plain_frame fs) send ≡ refusals.is_nested_in_normal fs send
  pub is_inside_cpow : (fs : List StackFrame) (send : SendHead) → refusals.is_inside_cpow (map plain_frame fs) send ≡ refusals.is_inside_cpow fs send
  pub is_level_too_low : (fs : List StackFrame) (send : SendHead) → refusals.is_level_too_low (map plain_frame fs) send ≡ refusals.is_level_too_low fs send
  pub is_too_deep : (fs : List StackFrame) (send : SendHead) → refusals.is_too_deep (map plain_frame fs) send ≡ refusals.is_too_deep fs send
  pub refusal_of : (fs : List StackFrame) (send : SendHead) → refusals.refusal_of (map plain_frame fs) send ≡ refusals.refusal_of fs send

-- A sync send is refused by the first of the four causes that holds, and one that is not refused leaves room for its wait.
pub record RefusesByFirstCause : Type 0 where
  pub nested_in_normal : (fs : List StackFrame) (send : SendHead) → (refusals.refusal_of fs send ≡ Some NestedInNormal) ↔ refusals.IsNestedInNormal fs send
  pub inside_cpow : (fs : List StackFrame) (send : SendHead) → (refusals.refusal_of fs send ≡ Some InsideCpow) ↔ (¬ refusals.IsNestedInNormal fs send × refusals.IsInsideCpow fs send)
  pub level_too_low : (fs : List StackFrame) (send : SendHead) → (refusals.refusal_of fs send ≡ Some LevelTooLow) ↔ (¬ refusals.IsNestedInNormal fs send × ¬ refusals.IsInsideCpow fs send × refusals.IsLevelTooLow fs send)
  pub too_deep : (fs : List StackFrame) (send : SendHead) → (refusals.refusal_of fs send ≡ Some TooDeep) ↔ (¬ refusals.IsNestedInNormal fs send × ¬ refusals.IsInsideCpow fs send × ¬ refusals.IsLevelTooLow fs send × refusals.IsTooDeep fs send)
  pub room : (fs : List StackFrame) (send : SendHead) → send.sync ≡ true → refusals.refusal_of fs send ≡ None → length fs < 63
