use Rattle.std.proofs.Common.{◌≡◌, ◌<◌, Bool, true, false, List, length, refl, sym, ap, subst, ◌∙◌, reverse}
use Rattle.std.specs.Bool.{OnTrue}
use Rattle.nesting_core.specs.Top.{top_of}
use Rattle.channel_model.specs.Ends.{StackEntry}
use Rattle.channel_model.specs.Takes.{takes_under}
use Rattle.end_parts.specs.StackDetails.{frames_in}
use Rattle.end_parts.proofs.StackLemmas.{length-frames, room-taken, top_of-entries}
use Rattle.end_parts.proofs.stack_entries.StackEntries.takes.Goals as goal

pub returns-clause-takes : goal.returns-clause-takes
returns-clause-takes c =
    let details = reverse c.self.inside.details.items in
    c.takes_under.ensures ∙ ap takes_under (c.top.ensures.frame ∙ sym (top_of-entries c.self.inside.frames details c.self.invariant.0) ∙ ap (λ (xs : List StackEntry). top_of (frames_in xs)) c.self.view_is)

on-true : (b : Bool) (P : Type 0) → (b ≡ true → P) → OnTrue b P
on-true true P h = h refl
on-true false P h = tt

pub returns-clause-room : goal.returns-clause-room
returns-clause-room c =
    let same = length-frames c.self.inside.frames (reverse c.self.inside.details.items) c.args.self.now c.self.invariant.0 c.self.view_is in
    on-true c.takes_under.result (length c.args.self.now < 64) (λ e. subst (λ n. n < 64) same (room-taken c.top.result (length c.self.inside.frames) (sym c.takes_under.ensures ∙ e) c.top.ensures.room))
