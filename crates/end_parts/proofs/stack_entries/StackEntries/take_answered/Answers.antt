use Rattle.std.proofs.Common.{List, Some, reverse, sym, subst, ◌∙◌}
use Rattle.channel_model.specs.Ends.{StackEntry}
use Rattle.end_parts.specs.StackDetails.{entries_of}
use Rattle.end_parts.specs.Resumed.{IsTakenOff}
use Rattle.end_parts.proofs.ResumedLemmas.{off}
use Rattle.end_parts.proofs.stack_entries.StackEntries.take_answered.Goals as goal

pub returns-in-Answered : goal.returns-in-Answered
returns-in-Answered c =
    let after = entries_of c.pop-frame.new.self (reverse c.pop-detail.new.self.items) in
    let there : IsTakenOff (entries_of c.self.inside.frames (reverse c.self.inside.details.items)) (Some c.resumed_call.result) after =
    off c.self.inside.frames c.pop-frame.new.self c.self.inside.details.items c.pop-detail.new.self.items c.pop-frame.result c.pop-detail.result c.resumed_call.result c.in-Answered.field-0
    c.self.invariant.0 (sym c.top.ensures.frame ∙ c.in-Answered.is) c.pop-frame.ensures.popped c.pop-frame.ensures.left c.pop-detail.ensures.items c.resumed_call.ensures in
    subst (λ (entries : List StackEntry). IsTakenOff entries (Some c.resumed_call.result) after) c.self.view_is there
