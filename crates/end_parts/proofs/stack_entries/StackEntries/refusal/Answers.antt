use Rattle.std.proofs.Common.{List, sym, ap, ◌∙◌, reverse}
use Rattle.nesting_core.specs.Refusals.{refusal_of}
use Rattle.channel_model.specs.Ends.{StackEntry}
use Rattle.end_parts.specs.StackDetails.{frames_in}
use Rattle.end_parts.proofs.StackLemmas.{refusal_of-entries}
use Rattle.end_parts.proofs.stack_entries.StackEntries.refusal.Goals as goal

pub returns : goal.returns
returns c =
    c.refusal.ensures ∙ sym (refusal_of-entries c.self.inside.frames (reverse c.self.inside.details.items) c.args.head.now c.self.invariant.0)
    ∙ ap (λ (xs : List StackEntry). refusal_of (frames_in xs) c.args.head.now) c.self.view_is
