-- Waits without an answer: which is the innermost, and what its answer does.
use Rattle.std.proofs.Common.{◌≡◌, ℤ, Bool, true, false, cond, List, [], ◌∷◌, Option, Some, None, refl, ap, sym, ◌∙◌}
use Rattle.std.specs.Option.{option_map_or}
use Rattle.std.specs.List.{find}
use Rattle.ipdl_base.specs.declared.message.Message.{Message}
use Rattle.ipdl_base.specs.declared.value.Values.{Values}
use Rattle.nesting_core.specs.declared.frame.Answer.{Answer}
use Rattle.nesting_core.specs.declared.frame.StackFrame.{StackFrame}
use Rattle.nesting_core.specs.declared.frame.StackFrame.TheVariants.{Dispatch, Wait}
use Rattle.nesting_core.specs.Answers.{awaited, with_answer}
use Rattle.nesting_core.specs.Frames.{head_of, is_unanswered}
use Rattle.nesting_core.specs.Plain.{plain_answer, plain_frame}
use Rattle.nesting_core.proofs.PlainLemmas.{awaited-plain}
use Rattle.channel_model.specs.Deliveries.{with_frames}
use Rattle.channel_model.specs.Ends.{StackEntry}
use Rattle.channel_model.specs.Refusals.{is_replied_to}
use Rattle.end_parts.specs.declared.stack_entries.EntryDetail.{EntryDetail}
use Rattle.end_parts.specs.CopiedAnswers.{IsCopyOf}
use Rattle.end_parts.specs.Replies.{is_waited_for_in}
use Rattle.end_parts.specs.StackDetails.{frames_in, entries_of, entry_of, with_copy, IsDetailOf, AreDetails}
use Rattle.end_parts.proofs.StackLemmas.{frames-entries}

-- the number of the innermost wait without an answer, by the entries
pub awaited-entries : (frames : List StackFrame) (details : List EntryDetail) → AreDetails frames details → awaited (frames_in (entries_of frames details)) ≡ awaited frames
awaited-entries frames details h = ap awaited (frames-entries frames details h) ∙ awaited-plain frames

-- its own frames change nothing
pub with_same_frames : (entries : List StackEntry) → with_frames (frames_in entries) entries ≡ entries
with_same_frames [] = refl
with_same_frames (entry ∷ entries) = ap (λ (es : List StackEntry). entry ∷ es) (with_same_frames entries)

-- a detail that does not wait stays
entries_past : (b : Bool) (frame : StackFrame) (frames : List StackFrame) (detail changed : EntryDetail) (details rest : List EntryDetail) → b ≡ false
    → entries_of (frame ∷ frames) (cond b (changed ∷ details) (detail ∷ rest)) ≡ entry_of frame detail ∷ entries_of frames rest
entries_past true frame frames detail changed details rest e = cc
entries_past false frame frames detail changed details rest e = refl

-- one that waits has the copy
entries_here : (b : Bool) (frame : StackFrame) (frames : List StackFrame) (detail changed : EntryDetail) (details rest : List EntryDetail) → b ≡ true
    → entries_of (frame ∷ frames) (cond b (changed ∷ details) (detail ∷ rest)) ≡ entry_of frame changed ∷ entries_of frames details
entries_here true frame frames detail changed details rest e = refl
entries_here false frame frames detail changed details rest e = cc

abbrev changed_by : Option Values → EntryDetail → EntryDetail
changed_by copy detail = record detail { is_unanswered = false; answer_copy = copy }

-- the entries when the innermost wait without an answer gets one
pub answered-entries : (a : Answer) (copy : Option Values) (frames : List StackFrame) (details : List EntryDetail) → AreDetails frames details
    → entries_of (with_answer a frames) (with_copy copy details) ≡ with_frames (with_answer (plain_answer a) (frames_in (entries_of frames details))) (entries_of frames details)
answered-entries a copy [] [] h = refl
answered-entries a copy [] (detail ∷ details) h = absurd h
answered-entries a copy (frame ∷ frames) [] h = absurd h
answered-entries a copy (Dispatch head ∷ frames) (detail ∷ details) h =
    entries_past detail.is_unanswered (Dispatch head) (with_answer a frames) detail (changed_by copy detail) details (with_copy copy details) h.0.unanswered
    ∙ ap (λ (es : List StackEntry). entry_of (Dispatch head) detail ∷ es) (answered-entries a copy frames details h.1)
answered-entries a copy (Wait head None ∷ frames) (detail ∷ details) h =
    entries_here detail.is_unanswered (Wait head (Some a)) frames detail (changed_by copy detail) details (with_copy copy details) h.0.unanswered
    ∙ ap (λ (es : List StackEntry). entry_of (Wait head (Some a)) detail ∷ es) (sym (with_same_frames (entries_of frames details)))
answered-entries a copy (Wait head (Some earlier) ∷ frames) (detail ∷ details) h =
    entries_past detail.is_unanswered (Wait head (Some earlier)) (with_answer a frames) detail (changed_by copy detail) details (with_copy copy details) h.0.unanswered
    ∙ ap (λ (es : List StackEntry). entry_of (Wait head (Some earlier)) detail ∷ es) (answered-entries a copy frames details h.1)

details_past : (b : Bool) (frame : StackFrame) (frames : List StackFrame) (detail changed : EntryDetail) (details rest : List EntryDetail) → b ≡ false → IsDetailOf frame detail → AreDetails frames rest
    → AreDetails (frame ∷ frames) (cond b (changed ∷ details) (detail ∷ rest))
details_past true frame frames detail changed details rest e is are = cc
details_past false frame frames detail changed details rest e is are = (is, are)

details_here : (b : Bool) (frame : StackFrame) (frames : List StackFrame) (detail changed : EntryDetail) (details rest : List EntryDetail) → b ≡ true → IsDetailOf frame changed → AreDetails frames details
    → AreDetails (frame ∷ frames) (cond b (changed ∷ details) (detail ∷ rest))
details_here true frame frames detail changed details rest e is are = (is, are)
details_here false frame frames detail changed details rest e is are = cc

-- the details are those of the frames with the answer
pub answered-details : (a : Answer) (copy : Option Values) → IsCopyOf a copy → (frames : List StackFrame) (details : List EntryDetail) → AreDetails frames details → AreDetails (with_answer a frames) (with_copy copy details)
answered-details a copy is [] [] h = tt
answered-details a copy is [] (detail ∷ details) h = absurd h
answered-details a copy is (frame ∷ frames) [] h = absurd h
answered-details a copy is (Dispatch head ∷ frames) (detail ∷ details) h =
    details_past detail.is_unanswered (Dispatch head) (with_answer a frames) detail (changed_by copy detail) details (with_copy copy details) h.0.unanswered h.0 (answered-details a copy is frames details h.1)
answered-details a copy is (Wait head None ∷ frames) (detail ∷ details) h =
    details_here detail.is_unanswered (Wait head (Some a)) frames detail (changed_by copy detail) details (with_copy copy details) h.0.unanswered
    (record { seq = h.0.seq; unanswered = refl; resolves = h.0.resolves; copy = is }) h.1
answered-details a copy is (Wait head (Some earlier) ∷ frames) (detail ∷ details) h =
    details_past detail.is_unanswered (Wait head (Some earlier)) (with_answer a frames) detail (changed_by copy detail) details (with_copy copy details) h.0.unanswered h.0 (answered-details a copy is frames details h.1)

-- whether a reply is one to the request of a detail, if that is there
abbrev pub waits_for : Message → Option EntryDetail → Bool
waits_for m found = option_map_or (λ (d : EntryDetail). is_replied_to m d.request.seq d.request.number d.request.route) found false

waited_at : (b c : Bool) (m : Message) (frame : StackFrame) (detail : EntryDetail) (there : Option StackEntry) (here : Option EntryDetail) → b ≡ c → detail.request.seq ≡ (head_of (plain_frame frame)).seq
    → option_map_or (λ (e : StackEntry). is_replied_to m (head_of e.frame).seq e.number e.route) there false ≡ waits_for m here
    → option_map_or (λ (e : StackEntry). is_replied_to m (head_of e.frame).seq e.number e.route) (cond b (Some (entry_of frame detail)) there) false ≡ waits_for m (cond c (Some detail) here)
waited_at true true m frame detail there here e s h = ap (λ (z : ℤ). is_replied_to m z detail.request.number detail.request.route) (sym s)
waited_at true false m frame detail there here e s h = cc
waited_at false true m frame detail there here e s h = cc
waited_at false false m frame detail there here e s h = h

-- what waits for a reply, by the details
pub waited-entries : (m : Message) (frames : List StackFrame) (details : List EntryDetail) → AreDetails frames details
    → is_waited_for_in (entries_of frames details) m ≡ waits_for m (find (λ (d : EntryDetail). d.is_unanswered) details)
waited-entries m [] [] h = refl
waited-entries m [] (detail ∷ details) h = absurd h
waited-entries m (frame ∷ frames) [] h = absurd h
waited-entries m (Dispatch head ∷ frames) (detail ∷ details) h =
    waited_at false detail.is_unanswered m (Dispatch head) detail (find (λ (e : StackEntry). is_unanswered e.frame) (entries_of frames details)) (find (λ (d : EntryDetail). d.is_unanswered) details) (sym h.0.unanswered) h.0.seq (waited-entries m frames details h.1)
waited-entries m (Wait head None ∷ frames) (detail ∷ details) h =
    waited_at true detail.is_unanswered m (Wait head None) detail (find (λ (e : StackEntry). is_unanswered e.frame) (entries_of frames details)) (find (λ (d : EntryDetail). d.is_unanswered) details) (sym h.0.unanswered) h.0.seq (waited-entries m frames details h.1)
waited-entries m (Wait head (Some a) ∷ frames) (detail ∷ details) h =
    waited_at false detail.is_unanswered m (Wait head (Some a)) detail (find (λ (e : StackEntry). is_unanswered e.frame) (entries_of frames details)) (find (λ (d : EntryDetail). d.is_unanswered) details) (sym h.0.unanswered) h.0.seq (waited-entries m frames details h.1)
