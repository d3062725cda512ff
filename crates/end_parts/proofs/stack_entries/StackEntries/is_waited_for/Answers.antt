use Rattle.std.proofs.Common.{◌≡◌, List, Some, None, reverse, sym, ap, ◌∙◌}
use Rattle.std.specs.Option.{option_map}
use Rattle.std.specs.List.{find}
use Rattle.channel_model.specs.Ends.{StackEntry}
use Rattle.end_parts.specs.declared.stack_entries.EntryDetail.{EntryDetail}
use Rattle.end_parts.specs.Replies.{is_waited_for_in}
use Rattle.end_parts.proofs.WaitLemmas.{waits_for, waited-entries}
use Rattle.end_parts.proofs.stack_entries.StackEntries.is_waited_for.Goals as goal

pub returns-in-None : goal.returns-in-None
returns-in-None c =
    let items = c.self.inside.details.items in
    let m = c.args.reply.now in
    let found : option_map (λ d. d.now) c.innermost_unanswered.result ≡ find (λ (d : EntryDetail). d.is_unanswered) (reverse items) = rw (← c.as_slice.ensures.value) c.innermost_unanswered.ensures in
    let none : find (λ (d : EntryDetail). d.is_unanswered) (reverse items) ≡ None = sym found ∙ ap (λ f. option_map (λ d. d.now) f) c.in-None.is in
    sym (ap (λ (es : List StackEntry). is_waited_for_in es m) (sym c.self.view_is) ∙ waited-entries m c.self.inside.frames (reverse items) c.self.invariant.0 ∙ ap (waits_for m) none)

pub returns-in-Some : goal.returns-in-Some
returns-in-Some c =
    let items = c.self.inside.details.items in
    let m = c.args.reply.now in
    let found : option_map (λ d. d.now) c.innermost_unanswered.result ≡ find (λ (d : EntryDetail). d.is_unanswered) (reverse items) = rw (← c.as_slice.ensures.value) c.innermost_unanswered.ensures in
    let there : find (λ (d : EntryDetail). d.is_unanswered) (reverse items) ≡ Some c.in-Some.detail.now = sym found ∙ ap (λ f. option_map (λ d. d.now) f) c.in-Some.is in
    c.is_replied_to.ensures ∙ sym (ap (λ (es : List StackEntry). is_waited_for_in es m) (sym c.self.view_is) ∙ waited-entries m c.self.inside.frames (reverse items) c.self.invariant.0 ∙ ap (waits_for m) there)
