-- A stack with what its frames do not keep.
use Rattle.std.specs.Prelude.{◌≡◌, ℕ, ◌==◌, ℤ, pos, Bool, true, false, ◌&&◌, if◌then◌else◌, List, [], ◌∷◌, map, Option, Some, None, option_map, unwrap_or}
use Rattle.std.specs.Option.{option_map_or}
use Rattle.std.specs.Ordering.{int_eq}
use Rattle.ipdl_base.specs.declared.value.Values.{Values}
use Rattle.ipdl_base.specs.Plain.{plain_values}
use Rattle.ipdl_base.specs.declared.kinds.Side.{Side}
use Rattle.nesting_core.specs.declared.frame.StackFrame.{StackFrame}
use Rattle.nesting_core.specs.declared.frame.StackFrame.TheVariants.{Dispatch, Wait}
use Rattle.nesting_core.specs.Deferral.{awaited_level, inner_transaction}
use Rattle.nesting_core.specs.Frames.{head_of, is_unanswered, is_dispatch}
use Rattle.nesting_core.specs.Plain.{plain_frame}
use Rattle.pending_queue.specs.declared.deferral_context.DeferralContext.{DeferralContext}
use Rattle.channel_model.specs.Ends.{Resolver, StackEntry}
use Rattle.end_parts.specs.CopiedAnswers.{values_of}
use Rattle.end_parts.specs.declared.stack_entries.DispatchEntry.{DispatchEntry}
use Rattle.end_parts.specs.declared.stack_entries.EntryDetail.{EntryDetail}

-- the frames of entries
abbrev pub frames_in : List StackEntry → List StackFrame
frames_in entries = map (λ entry. entry.frame) entries

-- a frame with what it does not keep
abbrev pub entry_of : StackFrame → EntryDetail → StackEntry
entry_of frame detail = record { frame = plain_frame frame; route = detail.request.route; number = detail.request.number; resolves = detail.resolves }

-- the frames with what they do not keep, both innermost first
abbrev pub entries_of : List StackFrame → List EntryDetail → List StackEntry
entries_of [] details = []
entries_of (frame ∷ frames) [] = []
entries_of (frame ∷ frames) (detail ∷ details) = entry_of frame detail ∷ entries_of frames details

-- the values that are kept a second time beside a frame: those of its answer
abbrev pub copy_beside : StackFrame → Option Values
copy_beside (Dispatch head) = None
copy_beside (Wait head None) = None
copy_beside (Wait head (Some a)) = values_of a

-- A detail belongs to a frame.
pub record IsDetailOf (frame : StackFrame) (detail : EntryDetail) : Type 0 where
  pub seq : detail.request.seq ≡ (head_of frame).seq
  pub unanswered : detail.is_unanswered ≡ is_unanswered frame
  pub resolves : detail.resolves ≡ true → is_dispatch frame ≡ true
  pub copy : option_map plain_values detail.answer_copy ≡ copy_beside frame

-- each detail belongs to the frame at its place
abbrev pub AreDetails : List StackFrame → List EntryDetail → Type 0
AreDetails [] [] = Unit {0}
AreDetails [] (detail ∷ details) = ⊥
AreDetails (frame ∷ frames) [] = ⊥
AreDetails (frame ∷ frames) (detail ∷ details) = IsDetailOf frame detail × AreDetails frames details

-- the entry of a dispatch
abbrev pub dispatch_entry : DispatchEntry → StackEntry
dispatch_entry d = record { frame = Dispatch d.head; route = d.route; number = d.number; resolves = d.resolves }

-- whether a resolver is there, and is that of a request of this message to this actor
abbrev pub is_resolver_of : ℤ → ℕ → Option Resolver → Bool
is_resolver_of route number found = option_map_or (λ r. int_eq r.route route && (r.number == number)) found false

-- whether a detail is that of a dispatch which has the resolver of the request of a number
abbrev pub is_resolver_detail : ℤ → EntryDetail → Bool
is_resolver_detail seq detail = detail.resolves && int_eq detail.request.seq seq

-- a detail whose resolver is used or kept, if it is that of the request of this number
abbrev pub released_detail : ℤ → EntryDetail → EntryDetail
released_detail seq detail = if is_resolver_detail seq detail then record detail { resolves = false } else detail

-- the details, innermost first, when the innermost wait without an answer gets one, of which this is the copy
abbrev pub with_copy : Option Values → List EntryDetail → List EntryDetail
with_copy copy [] = []
with_copy copy (detail ∷ details) = if detail.is_unanswered then record detail { is_unanswered = false; answer_copy = copy } ∷ details else detail ∷ with_copy copy details

-- what an end of this side with these frames awaits
abbrev pub deferral_context_by : Side → List StackFrame → DeferralContext
deferral_context_by side frames = record { side = side; level = awaited_level frames; transaction = unwrap_or (inner_transaction frames) (pos 0) }
