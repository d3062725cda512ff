-- The stack of an end, by its lines: what was taken or called, and has not ended.
use Rattle.std.specs.Prelude.{ℕ, ℤ, Bool, true, false, not, ◌&&◌, leb, if◌then◌else◌, List, [], ◌∷◌, ◌++◌, ◌+◌, map, count_by, Option, Some, None, option_to_list}
use Rattle.std.specs.List.{list_all, list_any}
use Rattle.std.specs.Option.{option_map_or}
use Rattle.std.specs.Ordering.{int_eq}
use Rattle.ipdl_base.specs.declared.kinds.Side.{Side}
use Rattle.ipdl_base.specs.declared.line.Line.{Line}
use Rattle.ipdl_base.specs.declared.line.What.{What}
use Rattle.ipdl_base.specs.declared.line.What.TheVariants as what
use Rattle.ipdl_base.specs.declared.schema.Schema.{Schema}
use Rattle.ipdl_base.specs.Lines.{same_side}
use Rattle.history_reading.specs.declared.parts.Call.{Call}
use Rattle.history_reading.specs.declared.parts.CallFrame.{CallFrame}
use Rattle.history_reading.specs.declared.parts.CallFrame.TheVariants as frame
use Rattle.history_reading.specs.SentPacket.{request_of}
use Rattle.law_statements.specs.Said.{said_by}
use Rattle.law_statements.specs.Packets.{sent}

-- the prefixes of a list
abbrev pub prefixes : {A : Type 0} → List A → List (List A)
prefixes [] = [] ∷ []
prefixes (x ∷ xs) = [] ∷ map (λ front. x ∷ front) (prefixes xs)

-- what begins at a place is still there: in no prefix of the lines that follow did more end than begin
abbrev pub is_unended : {A : Type 0} → (A → Bool) → (A → Bool) → List A → Bool
is_unended begins ends following = list_all (λ front. leb (count_by ends front) (count_by begins front)) (prefixes following)

-- a frame begins with a take or a call, and ends with a return or when a call continues
abbrev pub begins_frame : What → Bool
begins_frame (what.Take n route number values) = true
begins_frame (what.Call n transaction route number values) = true
begins_frame _ = false

abbrev pub ends_frame : What → Bool
ends_frame (what.Return n) = true
ends_frame (what.ResumeOk n values) = true
ends_frame (what.ResumeFault n reason) = true
ends_frame _ = false

abbrev pub is_death : What → Bool
is_death what.Die = true
is_death _ = false

-- a wait for an answer begins with a call, and ends with a reply, where its request is sync, or with a failure
abbrev pub begins_wait : ℤ → What → Bool
begins_wait n (what.Call m transaction route number values) = int_eq m n
begins_wait n _ = false

abbrev pub ends_wait : Bool → ℤ → What → Bool
ends_wait sync n (what.DeliverReply m) = sync && int_eq m n
ends_wait sync n (what.Fails m) = int_eq m n
ends_wait sync n _ = false

-- whether the request of a number of an end is sync
abbrev pub is_sync_of : Schema → List What → ℤ → Bool
is_sync_of schema own n = option_map_or (λ r. r.sync) (request_of (sent schema own) n) false

-- a frame stays on the stack, given the lines that follow it; and a call waits for its answer
abbrev pub stays : List What → Bool
stays following = not (list_any is_death following) && is_unended begins_frame ends_frame following

abbrev pub waits : Bool → ℤ → List What → Bool
waits sync n following = is_unended (begins_wait n) (ends_wait sync n) following

-- the frame of a take or call at a place
abbrev pub wait_frame : Bool → Call → CallFrame
wait_frame true call = frame.Unanswered call
wait_frame false call = frame.Answered call

abbrev pub frame_of : (ℤ → Bool) → List What → ℕ → What → Option CallFrame
frame_of sync following place (what.Take n route number values) = Some (frame.Dispatch (record { seq = n; route = route; number = number }))
frame_of sync following place (what.Call n transaction route number values) = Some (wait_frame (waits (sync n) n following) (record { seq = n; transaction = transaction; number = number; place = place }))
frame_of sync following place _ = None

abbrev pub frame_with : (ℤ → Bool) → List What → ℕ → What → Option CallFrame
frame_with sync following place what = if stays following then frame_of sync following place what else None

-- the frames of an end that stay, the innermost first, from lines the first of which is at this place
abbrev pub frame_at : (ℤ → Bool) → Side → ℕ → Line → List Line → Option CallFrame
frame_at sync end place line following = if same_side line.side end then frame_with sync (said_by end following) place line.what else None

abbrev pub stack_from : (ℤ → Bool) → Side → ℕ → List Line → List CallFrame
stack_from sync end place [] = []
stack_from sync end place (line ∷ following) = stack_from sync end (place + 1) following ++ option_to_list (frame_at sync end place line following)

abbrev pub stack : Schema → Side → List Line → List CallFrame
stack schema end lines = stack_from (is_sync_of schema (said_by end lines)) end 0 lines
