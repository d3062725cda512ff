use Rattle.std.proofs.Common.{◌≡◌, ◌↔◌, ℤ, Bool, true, false, cond, List, [], ◌∷◌, map, Option, Some, None, refl, ap}
use Rattle.std.specs.Option.{option_map}
use Rattle.std.specs.List.{find}
use Rattle.std.proofs.lemmas.List.{length-map}
use Rattle.ipdl_base.specs.declared.kinds.Side.{Side}
use Rattle.nesting_core.specs.declared.frame.Answer.{Answer}
use Rattle.nesting_core.specs.declared.frame.StackFrame.{StackFrame}
use Rattle.nesting_core.specs.declared.frame.StackFrame.TheVariants.{Dispatch, Wait}
use Rattle.nesting_core.specs.declared.frame.Head.{Head}
use Rattle.nesting_core.specs.declared.frame.SendHead.{SendHead}
use Rattle.nesting_core.specs.Answers.{awaited, with_answer}
use Rattle.nesting_core.specs.Deferral.{inner_transaction, transaction_of, awaited_level, defers}
use Rattle.nesting_core.specs.Frames.{head_of, is_dispatch, is_sync_dispatch, is_wait, is_unanswered, is_inside_sync, innermost, innermost_dispatch, innermost_sync_dispatch, innermost_wait, has_wait}
use Rattle.nesting_core.specs.Laws.{PlainFormsCommute}
use Rattle.nesting_core.specs.Plain.{plain_answer, plain_frame, plain_popped}
use Rattle.nesting_core.specs.Refusals.{is_nested_in_normal, is_inside_cpow, is_level_too_low, is_too_deep, refusal_of}
use Rattle.nesting_core.specs.Room.{FitsRoom}
use Rattle.nesting_core.specs.Top.{top_of, popped_of, after_pop}

-- What a frame is, and its head, are those of its plain form.

pub head_of-plain : (f : StackFrame) → head_of (plain_frame f) ≡ head_of f
head_of-plain (Dispatch head) = refl
head_of-plain (Wait head answer) = refl

pub is_dispatch-plain : (f : StackFrame) → is_dispatch (plain_frame f) ≡ is_dispatch f
is_dispatch-plain (Dispatch head) = refl
is_dispatch-plain (Wait head answer) = refl

pub is_sync_dispatch-plain : (f : StackFrame) → is_sync_dispatch (plain_frame f) ≡ is_sync_dispatch f
is_sync_dispatch-plain (Dispatch head) = refl
is_sync_dispatch-plain (Wait head answer) = refl

pub is_wait-plain : (f : StackFrame) → is_wait (plain_frame f) ≡ is_wait f
is_wait-plain (Dispatch head) = refl
is_wait-plain (Wait head answer) = refl

pub is_unanswered-plain : (f : StackFrame) → is_unanswered (plain_frame f) ≡ is_unanswered f
is_unanswered-plain (Dispatch head) = refl
is_unanswered-plain (Wait head None) = refl
is_unanswered-plain (Wait head (Some answer)) = refl

pub is_inside_sync-plain : (f : StackFrame) → is_inside_sync (plain_frame f) ≡ is_inside_sync f
is_inside_sync-plain (Dispatch head) = refl
is_inside_sync-plain (Wait head answer) = refl

-- the head of the first frame, or of what is found after it
first_or : (b : Bool) (f : StackFrame) (there here : Option StackFrame) → option_map head_of there ≡ option_map head_of here → option_map head_of (cond b (Some (plain_frame f)) there) ≡ option_map head_of (cond b (Some f) here)
first_or true f there here following = ap Some (head_of-plain f)
first_or false f there here following = following

-- the innermost frame that passes a test that looks at no box
pub innermost-plain : (test : StackFrame → Bool) → ((f : StackFrame) → test (plain_frame f) ≡ test f) → (fs : List StackFrame) → innermost test (map plain_frame fs) ≡ innermost test fs
innermost-plain test blind [] = refl
innermost-plain test blind (f ∷ fs) =
    rw (blind f) (first_or (test f) f (find test (map plain_frame fs)) (find test fs) (innermost-plain test blind fs))

pub innermost_dispatch-plain : (fs : List StackFrame) → innermost_dispatch (map plain_frame fs) ≡ innermost_dispatch fs
innermost_dispatch-plain fs = innermost-plain is_dispatch is_dispatch-plain fs

pub innermost_sync_dispatch-plain : (fs : List StackFrame) → innermost_sync_dispatch (map plain_frame fs) ≡ innermost_sync_dispatch fs
innermost_sync_dispatch-plain fs = innermost-plain is_sync_dispatch is_sync_dispatch-plain fs

pub innermost_wait-plain : (fs : List StackFrame) → innermost_wait (map plain_frame fs) ≡ innermost_wait fs
innermost_wait-plain fs = innermost-plain is_wait is_wait-plain fs

pub innermost_unanswered-plain : (fs : List StackFrame) → innermost is_unanswered (map plain_frame fs) ≡ innermost is_unanswered fs
innermost_unanswered-plain fs = innermost-plain is_unanswered is_unanswered-plain fs

pub innermost_inside_sync-plain : (fs : List StackFrame) → innermost is_inside_sync (map plain_frame fs) ≡ innermost is_inside_sync fs
innermost_inside_sync-plain fs = innermost-plain is_inside_sync is_inside_sync-plain fs

pub has_wait-plain : (fs : List StackFrame) → has_wait (map plain_frame fs) ≡ has_wait fs
has_wait-plain [] = refl
has_wait-plain (Dispatch head ∷ fs) = has_wait-plain fs
has_wait-plain (Wait head answer ∷ fs) = refl

pub awaited-plain : (fs : List StackFrame) → awaited (map plain_frame fs) ≡ awaited fs
awaited-plain fs = ap (λ (found : Option Head). option_map (λ (head : Head). head.seq) found) (innermost_unanswered-plain fs)

pub with_answer-plain : (a : Answer) (fs : List StackFrame) → with_answer (plain_answer a) (map plain_frame fs) ≡ map plain_frame (with_answer a fs)
with_answer-plain a [] = refl
with_answer-plain a (Dispatch head ∷ fs) = ap (λ xs. Dispatch head ∷ xs) (with_answer-plain a fs)
with_answer-plain a (Wait head None ∷ fs) = refl
with_answer-plain a (Wait head (Some earlier) ∷ fs) =
    ap (λ xs. Wait head (Some (plain_answer earlier)) ∷ xs) (with_answer-plain a fs)

-- What is on top, and what comes off.

pub top_of-plain : (fs : List StackFrame) → top_of (map plain_frame fs) ≡ top_of fs
top_of-plain [] = refl
top_of-plain (Dispatch head ∷ fs) = refl
top_of-plain (Wait head None ∷ fs) = refl
top_of-plain (Wait head (Some answer) ∷ fs) = refl

pub popped_of-plain : (fs : List StackFrame) → popped_of (map plain_frame fs) ≡ option_map plain_popped (popped_of fs)
popped_of-plain [] = refl
popped_of-plain (Dispatch head ∷ fs) = refl
popped_of-plain (Wait head None ∷ fs) = refl
popped_of-plain (Wait head (Some answer) ∷ fs) = refl

pub after_pop-plain : (fs : List StackFrame) → after_pop (map plain_frame fs) ≡ map plain_frame (after_pop fs)
after_pop-plain [] = refl
after_pop-plain (Dispatch head ∷ fs) = refl
after_pop-plain (Wait head None ∷ fs) = refl
after_pop-plain (Wait head (Some answer) ∷ fs) = refl

pub FitsRoom-plain : (fs : List StackFrame) → FitsRoom (map plain_frame fs) ↔ FitsRoom fs
FitsRoom-plain [] = (λ h. h, λ h. h)
FitsRoom-plain (Dispatch head ∷ fs) =
    (λ h. (rw (← length-map fs plain_frame) h.0, (FitsRoom-plain fs).0 h.1), λ h. (rw (length-map fs plain_frame) h.0, (FitsRoom-plain fs).1 h.1))
FitsRoom-plain (Wait head answer ∷ fs) =
    (λ h. (rw (← length-map fs plain_frame) h.0, (FitsRoom-plain fs).0 h.1), λ h. (rw (length-map fs plain_frame) h.0, (FitsRoom-plain fs).1 h.1))

-- What an end defers, and the transaction that it sends in.

pub inner_transaction-plain : (fs : List StackFrame) → inner_transaction (map plain_frame fs) ≡ inner_transaction fs
inner_transaction-plain fs = ap (λ (found : Option Head). option_map (λ (head : Head). head.transaction) found) (innermost_inside_sync-plain fs)

pub transaction_of-plain : (fs : List StackFrame) (seq : ℤ) → transaction_of (map plain_frame fs) seq ≡ transaction_of fs seq
transaction_of-plain fs seq = rw (inner_transaction-plain fs) refl

pub awaited_level-plain : (fs : List StackFrame) → awaited_level (map plain_frame fs) ≡ awaited_level fs
awaited_level-plain fs = rw (top_of-plain fs) refl

pub defers-plain : (side : Side) (fs : List StackFrame) (head : Head) → defers side (map plain_frame fs) head ≡ defers side fs head
defers-plain side fs head = rw (awaited_level-plain fs, inner_transaction-plain fs) refl

-- Which sends it refuses.

pub is_nested_in_normal-plain : (fs : List StackFrame) (send : SendHead) → is_nested_in_normal (map plain_frame fs) send ≡ is_nested_in_normal fs send
is_nested_in_normal-plain fs send = rw (innermost_sync_dispatch-plain fs) refl

pub is_inside_cpow-plain : (fs : List StackFrame) (send : SendHead) → is_inside_cpow (map plain_frame fs) send ≡ is_inside_cpow fs send
is_inside_cpow-plain fs send = rw (innermost_dispatch-plain fs) refl

pub is_level_too_low-plain : (fs : List StackFrame) (send : SendHead) → is_level_too_low (map plain_frame fs) send ≡ is_level_too_low fs send
is_level_too_low-plain fs send = rw (innermost_sync_dispatch-plain fs, innermost_wait-plain fs) refl

pub is_too_deep-plain : (fs : List StackFrame) (send : SendHead) → is_too_deep (map plain_frame fs) send ≡ is_too_deep fs send
is_too_deep-plain fs send = rw (length-map fs plain_frame) refl

pub refusal_of-plain : (fs : List StackFrame) (send : SendHead) → refusal_of (map plain_frame fs) send ≡ refusal_of fs send
refusal_of-plain fs send =
    rw (is_nested_in_normal-plain fs send, is_inside_cpow-plain fs send, is_level_too_low-plain fs send, is_too_deep-plain fs send) refl

-- the law
pub plain_forms_commute : PlainFormsCommute
plain_forms_commute = record {
  head_of = head_of-plain;
  is_dispatch = is_dispatch-plain;
  is_sync_dispatch = is_sync_dispatch-plain;
  is_wait = is_wait-plain;
  is_unanswered = is_unanswered-plain;
  is_inside_sync = is_inside_sync-plain;
  innermost_dispatch = innermost_dispatch-plain;
  innermost_sync_dispatch = innermost_sync_dispatch-plain;
  innermost_wait = innermost_wait-plain;
  innermost_unanswered = innermost_unanswered-plain;
  innermost_inside_sync = innermost_inside_sync-plain;
  has_wait = has_wait-plain;
  awaited = awaited-plain;
  with_answer = with_answer-plain;
  top_of = top_of-plain;
  popped_of = popped_of-plain;
  after_pop = after_pop-plain;
  fits_room = FitsRoom-plain;
  inner_transaction = inner_transaction-plain;
  transaction_of = transaction_of-plain;
  awaited_level = awaited_level-plain;
  defers = defers-plain;
  is_nested_in_normal = is_nested_in_normal-plain;
  is_inside_cpow = is_inside_cpow-plain;
  is_level_too_low = is_level_too_low-plain;
  is_too_deep = is_too_deep-plain;
  refusal_of = refusal_of-plain;
}
