use Rattle.std.proofs.Common.{List, sym, ap, ◌∙◌, reverse}
use Rattle.nesting_core.specs.Frames.{has_wait}
use Rattle.channel_model.specs.Ends.{StackEntry}
use Rattle.end_parts.specs.StackDetails.{frames_in}
use Rattle.end_parts.proofs.StackLemmas.{has_wait-entries}
use Rattle.end_parts.proofs.stack_entries.StackEntries.has_wait.Goals as goal

pub returns : goal.returns
returns c =
    c.has_wait.ensures ∙ sym (has_wait-entries c.self.inside.frames (reverse c.self.inside.details.items) c.self.invariant.0)
    ∙ ap (λ (xs : List StackEntry). has_wait (frames_in xs)) c.self.view_is
