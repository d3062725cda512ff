use Rattle.std.proofs.Common.{◌≡◌, List, None, length, reverse, refl, sym, ap, subst, ◌∙◌, arith}
use Rattle.std.specs.Vec.{with_items}
use Rattle.std.proofs.lemmas.List.{with_items_is}
use Rattle.ipdl_base.specs.declared.kinds.Reason.TheVariants.{ChannelClosed}
use Rattle.nesting_core.specs.declared.frame.Answer.TheVariants.{Fault}
use Rattle.nesting_core.specs.declared.frame.StackFrame.{StackFrame}
use Rattle.nesting_core.specs.Answers.{awaited, with_answer}
use Rattle.channel_model.specs.Deliveries.{with_frames}
use Rattle.channel_model.specs.Ends.{StackEntry}
use Rattle.end_parts.specs.declared.stack_entries.EntryDetail.{EntryDetail}
use Rattle.end_parts.specs.StackDetails.{frames_in, entries_of, with_copy, AreDetails}
use Rattle.end_parts.proofs.WaitLemmas.{awaited-entries, answered-entries, answered-details}
use Rattle.end_parts.proofs.stack_entries.StackEntries.fail_next.Goals as goal

pub invariant_of-self : goal.invariant_of-self
invariant_of-self c =
    let frames = c.self.inside.frames in
    let items = c.self.inside.details.items in
    let now = c.keep_copy.new.details in
    let is : (with_items c.self.inside.details now).items ≡ now = with_items_is c.self.inside.details now (omega (arith, c.keep_copy.auto.details, c.as_mut_slice.ensures.len, ap (λ (ds : List EntryDetail). length ds) c.as_mut_slice.ensures.value, c.self.inside.details.ok.0)) in
    let changed : reverse now ≡ with_copy None (reverse items) = c.keep_copy.ensures ∙ ap (λ (ds : List EntryDetail). with_copy None (reverse ds)) c.as_mut_slice.ensures.value in (
      subst (λ (ds : List EntryDetail). AreDetails c.fail_next-seq.new.self (reverse ds)) (sym is)
          (subst (λ (fs : List StackFrame). AreDetails fs (reverse now)) (sym c.fail_next-seq.ensures.failed)
          (subst (AreDetails (with_answer (Fault ChannelClosed) frames)) (sym changed) (answered-details (Fault ChannelClosed) None refl frames (reverse items) c.self.invariant.0))),
      c.self.invariant.1,
    )

pub returns-clause-number : goal.returns-clause-number
returns-clause-number c =
    c.fail_next-seq.ensures.number ∙ sym (awaited-entries c.self.inside.frames (reverse c.self.inside.details.items) c.self.invariant.0) ∙ ap (λ (es : List StackEntry). awaited (frames_in es)) c.self.view_is

pub returns-clause-failed : goal.returns-clause-failed
returns-clause-failed c =
    let frames = c.self.inside.frames in
    let items = c.self.inside.details.items in
    let now = c.keep_copy.new.details in
    let is : (with_items c.self.inside.details now).items ≡ now = with_items_is c.self.inside.details now (omega (arith, c.keep_copy.auto.details, c.as_mut_slice.ensures.len, ap (λ (ds : List EntryDetail). length ds) c.as_mut_slice.ensures.value, c.self.inside.details.ok.0)) in
    let changed : reverse now ≡ with_copy None (reverse items) = c.keep_copy.ensures ∙ ap (λ (ds : List EntryDetail). with_copy None (reverse ds)) c.as_mut_slice.ensures.value in
    ap (λ (ds : List EntryDetail). entries_of c.fail_next-seq.new.self (reverse ds)) is
    ∙ ap (entries_of c.fail_next-seq.new.self) changed
    ∙ ap (λ (fs : List StackFrame). entries_of fs (with_copy None (reverse items))) c.fail_next-seq.ensures.failed
    ∙ answered-entries (Fault ChannelClosed) None frames (reverse items) c.self.invariant.0
    ∙ ap (λ (es : List StackEntry). with_frames (with_answer (Fault ChannelClosed) (frames_in es)) es) c.self.view_is
