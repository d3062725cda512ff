use Rattle.std.proofs.Common.{List, sym, ap, ◌∙◌, reverse, rules}
use Rattle.std.proofs.lemmas.Int.{to_z-of_z}
use mir.Val.{SFits}
use mir.Syntax.{w32}
use Rattle.nesting_core.specs.Deferral.{transaction_of}
use Rattle.channel_model.specs.Ends.{StackEntry}
use Rattle.end_parts.specs.StackDetails.{frames_in}
use Rattle.end_parts.proofs.StackLemmas.{transaction_of-entries}
use Rattle.end_parts.proofs.stack_entries.StackEntries.transaction.Goals as goal

pub returns : goal.returns
returns c =
    let fits : SFits w32 c.transaction.result = search rules in
    to_z-of_z w32 c.transaction.result fits ∙ c.transaction.ensures ∙ ap (transaction_of c.self.inside.frames) (to_z-of_z w32 c.args.seq c.ranges.seq)
    ∙ sym (transaction_of-entries c.self.inside.frames (reverse c.self.inside.details.items) c.args.seq c.self.invariant.0)
    ∙ ap (λ (xs : List StackEntry). transaction_of (frames_in xs) c.args.seq) c.self.view_is
