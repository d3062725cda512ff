-- The entries of a stack, as its frames and its details have them.
use Rattle.std.proofs.Common.{◌≡◌, ℕ, ℤ, pos, suc, ◌<◌, true, List, [], ◌∷◌, map, length, reverse, Option, unwrap_or, refl, ap, sym, ◌∙◌}
use Rattle.std.proofs.lemmas.List.{length-reverse}
use Rattle.ipdl_base.specs.declared.kinds.Level.{Level}
use Rattle.ipdl_base.specs.declared.kinds.Side.{Side}
use Rattle.nesting_core.specs.declared.frame.StackFrame.{StackFrame}
use Rattle.nesting_core.specs.declared.frame.SendHead.{SendHead}
use Rattle.nesting_core.specs.declared.frame.StackTop.{StackTop}
use Rattle.nesting_core.specs.declared.frame.StackTop.TheVariants as top
use Rattle.nesting_core.specs.Deferral.{awaited_level, inner_transaction, transaction_of}
use Rattle.nesting_core.specs.Refusals.{refusal_of}
use Rattle.nesting_core.specs.Frames.{has_wait}
use Rattle.nesting_core.specs.Plain.{plain_frame}
use Rattle.nesting_core.specs.Room.{LeavesRoom}
use Rattle.nesting_core.specs.Top.{top_of}
use Rattle.nesting_core.proofs.PlainLemmas.{awaited_level-plain, has_wait-plain, inner_transaction-plain, refusal_of-plain, top_of-plain, transaction_of-plain}
use Rattle.channel_model.specs.Ends.{StackEntry}
use Rattle.channel_model.specs.Takes.{takes_under}
use Rattle.end_parts.specs.declared.stack_entries.EntryDetail.{EntryDetail}
use Rattle.end_parts.specs.StackDetails.{frames_in, entries_of, deferral_context_by, AreDetails}

-- the frames of entries are those of the stack
pub frames-entries : (frames : List StackFrame) (details : List EntryDetail) → AreDetails frames details → frames_in (entries_of frames details) ≡ map plain_frame frames
frames-entries [] details h = refl
frames-entries (frame ∷ frames) [] h = absurd h
frames-entries (frame ∷ frames) (detail ∷ details) h = ap (λ (fs : List StackFrame). plain_frame frame ∷ fs) (frames-entries frames details h.1)

-- what a stack says, by its entries
pub has_wait-entries : (frames : List StackFrame) (details : List EntryDetail) → AreDetails frames details → has_wait (frames_in (entries_of frames details)) ≡ has_wait frames
has_wait-entries frames details h = ap has_wait (frames-entries frames details h) ∙ has_wait-plain frames

pub refusal_of-entries : (frames : List StackFrame) (details : List EntryDetail) (send : SendHead) → AreDetails frames details → refusal_of (frames_in (entries_of frames details)) send ≡ refusal_of frames send
refusal_of-entries frames details send h = ap (λ (fs : List StackFrame). refusal_of fs send) (frames-entries frames details h) ∙ refusal_of-plain frames send

pub transaction_of-entries : (frames : List StackFrame) (details : List EntryDetail) (seq : ℤ) → AreDetails frames details → transaction_of (frames_in (entries_of frames details)) seq ≡ transaction_of frames seq
transaction_of-entries frames details seq h = ap (λ (fs : List StackFrame). transaction_of fs seq) (frames-entries frames details h) ∙ transaction_of-plain frames seq

-- there are as many entries as frames
pub length-entries : (frames : List StackFrame) (details : List EntryDetail) → AreDetails frames details → length (entries_of frames details) ≡ length frames
length-entries [] details h = refl
length-entries (frame ∷ frames) [] h = absurd h
length-entries (frame ∷ frames) (detail ∷ details) h = ap suc (length-entries frames details h.1)

-- there are as many details as frames
pub length-details : (frames : List StackFrame) (details : List EntryDetail) → AreDetails frames details → length details ≡ length frames
length-details [] [] h = refl
length-details [] (detail ∷ details) h = absurd h
length-details (frame ∷ frames) [] h = absurd h
length-details (frame ∷ frames) (detail ∷ details) h = ap suc (length-details frames details h.1)

-- there are as many frames as entries
pub length-frames : (frames : List StackFrame) (details : List EntryDetail) (entries : List StackEntry) → AreDetails frames details → entries_of frames details ≡ entries → length frames ≡ length entries
length-frames frames details entries are is = sym (length-entries frames details are) ∙ ap (λ (es : List StackEntry). length es) is

-- and as many details, in either order
pub length-items : (frames : List StackFrame) (items : List EntryDetail) (entries : List StackEntry) → AreDetails frames (reverse items) → entries_of frames (reverse items) ≡ entries → length items ≡ length entries
length-items frames items entries are is = sym (length-reverse items) ∙ length-details frames (reverse items) are ∙ length-frames frames (reverse items) entries are is

pub top_of-entries : (frames : List StackFrame) (details : List EntryDetail) → AreDetails frames details → top_of (frames_in (entries_of frames details)) ≡ top_of frames
top_of-entries frames details h = ap top_of (frames-entries frames details h) ∙ top_of-plain frames

pub holding-entries : (side : Side) (frames : List StackFrame) (details : List EntryDetail) → AreDetails frames details → deferral_context_by side (frames_in (entries_of frames details)) ≡ deferral_context_by side frames
holding-entries side frames details h =
    ap (deferral_context_by side) (frames-entries frames details h)
    ∙ ap (λ (level : Option Level). record { side = side; level = level; transaction = unwrap_or (inner_transaction (map plain_frame frames)) (pos 0) }) (awaited_level-plain frames)
    ∙ ap (λ (t : Option ℤ). record { side = side; level = awaited_level frames; transaction = unwrap_or t (pos 0) }) (inner_transaction-plain frames)

-- where an item may be taken there is room for its dispatch
pub room-taken : (t : StackTop) (n : ℕ) → takes_under t ≡ true → LeavesRoom t n → n < 64
room-taken top.Empty n e h = h
room-taken (top.Dispatch head) n e h = cc
room-taken (top.Unanswered head) n e h = h
room-taken (top.Answered head) n e h = cc
