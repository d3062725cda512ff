use Rattle.std.proofs.Common.{List, drop, reverse, sym, ap, subst, ◌∙◌, arith}
use Rattle.std.specs.Prelude.{IsSome}
use Rattle.channel_model.specs.Ends.{StackEntry}
use Rattle.channel_model.specs.Returns.{dispatch_on_top}
use Rattle.end_parts.proofs.ReleaseLemmas.{IsOff, off}
use Rattle.end_parts.proofs.stack_entries.StackEntries.pop_dispatch.Goals as goal

pub invariant_of-self : goal.invariant_of-self
invariant_of-self c =
    let frames = c.self.inside.frames in
    let items = c.self.inside.details.items in
    let is : IsOff frames (reverse items) c.pop.new.self (reverse c.pop-2.new.self.items) =
    off frames c.pop.new.self items c.pop-2.new.self.items c.pop-2.result _ _ c.self.invariant.0 (subst (λ (es : List StackEntry). IsSome (dispatch_on_top es)) (sym c.self.view_is) c.requires) c.pop.ensures.left c.pop-2.ensures.items (omega (arith, c.self.inside.details.ok.0)) c.pop-2.ensures.cases in
    (is.are, omega (arith, c.pop-2.ensures.capacity, c.self.invariant.1))

pub returns : goal.returns
returns c =
    let frames = c.self.inside.frames in
    let items = c.self.inside.details.items in
    let is : IsOff frames (reverse items) c.pop.new.self (reverse c.pop-2.new.self.items) =
    off frames c.pop.new.self items c.pop-2.new.self.items c.pop-2.result _ _ c.self.invariant.0 (subst (λ (es : List StackEntry). IsSome (dispatch_on_top es)) (sym c.self.view_is) c.requires) c.pop.ensures.left c.pop-2.ensures.items (omega (arith, c.self.inside.details.ok.0)) c.pop-2.ensures.cases in
    is.entries ∙ ap (λ (es : List StackEntry). drop 1 es) c.self.view_is
