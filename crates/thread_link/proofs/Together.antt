-- Two sides that work at the same time, and the world that their halves form after that.
use Rattle.std.proofs.Common.{◌≡◌, ◌∙◌, List, [], ◌++◌, sym, ap, subst}
use Rattle.ipdl_base.specs.declared.line.Line.{Line}
use Rattle.script_steps.specs.Choices.{Setting}
use Rattle.thread_link.proofs.HalfMeetings.{grows-on}
use Rattle.thread_link.specs.declared.pass.Exchange.{Exchange}
use Rattle.thread_link.specs.declared.pass.Pass.{Pass}
use Rattle.thread_link.specs.Passes.{Belongs, seen}
use Rattle.thread_link.specs.Runs.{RunsAtOnce}
use Rattle.thread_link.specs.Work.{HasWorked, IsAtWork, MayWork}
use Rattle.world_core.proofs.SplitHalves.{split-own}
use Rattle.world_core.specs.declared.answers.RunAnswer.{RunAnswer}
use Rattle.world_core.specs.declared.answers.RunAnswer.TheVariants as run
use Rattle.world_core.specs.HalfView.{HalfView, setting_of}
use Rattle.world_core.specs.Halves.{FitsAfter, IsSplit, joined}
use Rattle.world_core.specs.LinkView.{LinkView}
use Rattle.world_core.specs.Turns.{GivesUnless, GrowsTo, WordGives}
use Rattle.world_core.specs.Worlds.{IsCase}
use Rattle.world_core.specs.WorldView.{WorldView}

-- Work

pub works-on : (exchange : Exchange) (first before after : Pass) (half half' : HalfView) → IsAtWork exchange first before half → IsAtWork exchange before after half' → IsAtWork exchange first after half'
works-on exchange first before after half half' a b = record { side = b.side ∙ a.side; may = b.may; grows = grows-on (seen first) (seen before) (seen after) a.grows b.grows }

pub has-worked : (exchange : Exchange) (first before after : Pass) (half half' : HalfView) → IsAtWork exchange first before half → HasWorked exchange before after half' → HasWorked exchange first after half'
has-worked exchange first before after half half' a b = record { at_work = works-on exchange first before after half half' a b.at_work; emptied = b.emptied }

-- a half that fits after what a pass knows fits in the run of its exchange, and conversely
pub stands-at : (exchange : Exchange) (pass : Pass) (half : HalfView) → MayWork exchange pass half → FitsAfter pass.seat.me.0.setting pass.side (seen pass) half
stands-at exchange pass half may = subst (λ (s : Setting). FitsAfter s pass.side (seen pass) half) (sym may.belongs.setting) may.fits

pub may-go-on : (exchange : Exchange) (pass : Pass) (half : HalfView) → Belongs exchange pass → FitsAfter pass.seat.me.0.setting pass.side (seen pass) half → MayWork exchange pass half
may-go-on exchange pass half belongs fits = record { belongs = belongs; fits = subst (λ (s : Setting). FitsAfter s pass.side (seen pass) half) belongs.setting fits }

-- The world after the work

-- A world continues another: it is about the same run, and its history continues the other's.
pub record GoesOn (before after : WorldView) : Type 0 where
  pub same : after.setting ≡ before.setting
  pub grows : GrowsTo before.state.lines after.state.lines

pub goes-on : (before met : WorldView) (parent child parent' child' : HalfView) (link link' : LinkView) → IsSplit before.setting parent child link → joined parent link ≡ before → IsSplit (setting_of parent) parent' child' link' → GrowsTo link.lines link'.lines → met ≡ joined parent' link'
    → GoesOn before met
goes-on before met parent child parent' child' link link' h is h' grows met-is =
    let own = split-own before.setting parent child link h in
    let own' = split-own (setting_of parent) parent' child' link' h' in
    let first : link.lines ≡ before.state.lines = own.home.lines ∙ ap (λ (w : WorldView). w.state.lines) is in
    let last : link'.lines ≡ met.state.lines = own'.home.lines ∙ sym (ap (λ (w : WorldView). w.state.lines) met-is) in
    record {
      same = ap (λ (w : WorldView). w.setting) met-is ∙ (h'.parent_fits.come.about ∙ h.parent_fits.come.about);
      grows = (grows.0, sym last ∙ (grows.1 ∙ ap (λ (ls : List Line). ls ++ grows.0) first));
    }

pub runs-at-once : (before met after : WorldView) (a : RunAnswer) → GoesOn before met → IsCase met → GivesUnless (λ first last answer. WordGives first [] answer last) met after a → GivesUnless RunsAtOnce before after a
runs-at-once before met after run.Finished on history gives = record { met = met; same = on.same; grows = on.grows; history = history; rests = gives }
runs-at-once before met after (run.Spent side) on history gives = record { met = met; same = on.same; grows = on.grows; history = history; rests = gives }
runs-at-once before met after run.NoMemory on history gives = gives
