use Rattle.std.proofs.Common.{◌≡◌, ℤ, Bool, true, false, List, Some, length, reverse, sym, ap, subst, ◌∙◌, arith}
use Rattle.std.specs.Prelude.{IsTrue}
use Rattle.std.specs.Bool.{OnTrue}
use Rattle.std.specs.Vec.{with_items}
use Rattle.std.proofs.lemmas.Bool.{false≢true}
use Rattle.std.proofs.lemmas.List.{with_items_is}
use Rattle.std.proofs.lemmas.Int.{to_z-of_z}
use mir.Val.{to_z, of_z}
use mir.Syntax.{w32}
use Rattle.nesting_core.specs.declared.frame.StackFrame.{StackFrame}
use Rattle.nesting_core.specs.Answers.{awaited, with_answer}
use Rattle.nesting_core.specs.Plain.{plain_answer}
use Rattle.channel_model.specs.Deliveries.{with_frames}
use Rattle.channel_model.specs.Ends.{StackEntry}
use Rattle.end_parts.specs.declared.stack_entries.EntryDetail.{EntryDetail}
use Rattle.end_parts.specs.StackDetails.{frames_in, entries_of, with_copy, AreDetails}
use Rattle.end_parts.proofs.WaitLemmas.{awaited-entries, answered-entries, answered-details}
use Rattle.end_parts.proofs.stack_entries.StackEntries.answer_wait.Goals as goal

-- what is said of a true answer
stored_by : (b : Bool) (P : Type 0) → IsTrue b → OnTrue b P → P
stored_by true P t h = h
stored_by false P t h = absurd (false≢true t)

pub invariant_of-self : goal.invariant_of-self
invariant_of-self c =
    let frames = c.self.inside.frames in
    let items = c.self.inside.details.items in
    let now = c.keep_copy.new.details in
    let a = c.args.given.answer in
    let copy = c.args.given.copy in
    let is : (with_items c.self.inside.details now).items ≡ now = with_items_is c.self.inside.details now (omega (arith, c.keep_copy.auto.details, c.as_mut_slice.ensures.len, ap (λ (ds : List EntryDetail). length ds) c.as_mut_slice.ensures.value, c.self.inside.details.ok.0)) in
    let changed : reverse now ≡ with_copy copy (reverse items) = c.keep_copy.ensures ∙ ap (λ (ds : List EntryDetail). with_copy copy (reverse ds)) c.as_mut_slice.ensures.value in
    let waits : awaited frames ≡ Some c.args.seq = sym (awaited-entries frames (reverse items) c.self.invariant.0) ∙ ap (λ (es : List StackEntry). awaited (frames_in es)) c.self.view_is ∙ c.requires.awaited in
    let same : awaited frames ≡ Some (to_z w32 (of_z w32 c.args.seq)) = waits ∙ ap (λ (z : ℤ). Some z) (sym (to_z-of_z w32 c.args.seq c.ranges.seq)) in
    let stored : c.answer.new.self ≡ with_answer a frames = stored_by c.answer.result (c.answer.new.self ≡ with_answer a frames) (c.answer.ensures.found.1 same) c.answer.ensures.stored in (
      subst (λ (ds : List EntryDetail). AreDetails c.answer.new.self (reverse ds)) (sym is)
          (subst (λ (fs : List StackFrame). AreDetails fs (reverse now)) (sym stored)
          (subst (AreDetails (with_answer a frames)) (sym changed) (answered-details a copy c.requires.copied frames (reverse items) c.self.invariant.0))),
      c.self.invariant.1,
    )

pub returns : goal.returns
returns c =
    let frames = c.self.inside.frames in
    let items = c.self.inside.details.items in
    let now = c.keep_copy.new.details in
    let a = c.args.given.answer in
    let copy = c.args.given.copy in
    let is : (with_items c.self.inside.details now).items ≡ now = with_items_is c.self.inside.details now (omega (arith, c.keep_copy.auto.details, c.as_mut_slice.ensures.len, ap (λ (ds : List EntryDetail). length ds) c.as_mut_slice.ensures.value, c.self.inside.details.ok.0)) in
    let changed : reverse now ≡ with_copy copy (reverse items) = c.keep_copy.ensures ∙ ap (λ (ds : List EntryDetail). with_copy copy (reverse ds)) c.as_mut_slice.ensures.value in
    let waits : awaited frames ≡ Some c.args.seq = sym (awaited-entries frames (reverse items) c.self.invariant.0) ∙ ap (λ (es : List StackEntry). awaited (frames_in es)) c.self.view_is ∙ c.requires.awaited in
    let same : awaited frames ≡ Some (to_z w32 (of_z w32 c.args.seq)) = waits ∙ ap (λ (z : ℤ). Some z) (sym (to_z-of_z w32 c.args.seq c.ranges.seq)) in
    let stored : c.answer.new.self ≡ with_answer a frames = stored_by c.answer.result (c.answer.new.self ≡ with_answer a frames) (c.answer.ensures.found.1 same) c.answer.ensures.stored in
    ap (λ (ds : List EntryDetail). entries_of c.answer.new.self (reverse ds)) is
    ∙ ap (entries_of c.answer.new.self) changed
    ∙ ap (λ (fs : List StackFrame). entries_of fs (with_copy copy (reverse items))) stored
    ∙ answered-entries a copy frames (reverse items) c.self.invariant.0
    ∙ ap (λ (es : List StackEntry). with_frames (with_answer (plain_answer a) (frames_in es)) es) c.self.view_is
