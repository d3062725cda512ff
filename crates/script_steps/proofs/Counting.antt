-- Counts of events: each choice is one more event of its side, and no event of the other.
use Rattle.std.proofs.Common.{◌≡◌, ℕ, ℤ, suc, ◌+◌, ◌<◌, ◌≤◌, nat_lt, Bool, true, false, cond, if◌then◌else◌, List, [], ◌∷◌, ◌++◌, map, filter, fold, Option, Some, None, refl, sym, ap, subst, ◌∙◌, arith}
use Rattle.std.specs.List.{AllByRecursion}
use Rattle.std.proofs.lemmas.Bool.Decides.{Decides-ltb}
use Rattle.std.proofs.lemmas.List.{map-append}
use Rattle.std.proofs.lemmas.List.Elements.{filter-append}
use Rattle.std.proofs.lemmas.List.Sums.{fold-append}
use Rattle.ipdl_base.specs.declared.kinds.Side.{Side}
use Rattle.ipdl_base.specs.declared.kinds.Side.TheVariants as sides
use Rattle.ipdl_base.specs.declared.line.Line.{Line}
use Rattle.ipdl_base.specs.declared.line.What.{What}
use Rattle.ipdl_base.specs.declared.line.What.TheVariants as what
use Rattle.ipdl_base.specs.Lines.{same_side, is_effect}
use Rattle.channel_model.specs.Bounds.{HasCounted}
use Rattle.channel_model.specs.Ends.{End, World, end_of, link_to}
use Rattle.channel_model.specs.Events.{Event, Move}
use Rattle.channel_model.specs.Outputs.{Output, line_at}
use Rattle.channel_model.specs.Runs.{RunState, world_after}
use Rattle.channel_model.proofs.CountedParts.{counts_grow}
use Rattle.script_steps.specs.Choices.{Setting, Choice, beginning_of, is_within, played}
use Rattle.script_steps.specs.Laws.{IsCountedBy, ChoicesAreCounted}
use Rattle.script_steps.specs.Progress.{Progress, HandledRequest, no_progress, is_act, one_event, one_act, with_built, with_handled, after_line, after_lines, lines_of, progress_of}
use Rattle.script_steps.proofs.Choosing.{Happens, choice-happens, HaveSides, side-of, plays-one, begin-sides}
use Rattle.script_steps.proofs.Playing.{Chooses, chooses, PlaysOn, plays_on}
use Rattle.script_steps.proofs.StepLines.{Prints, step-prints}

act-events : (handled : List HandledRequest) (p : Progress) → (one_act handled p).events ≡ p.events
act-events [] p = refl
act-events (top ∷ below) p = refl

built-events : (b : Bool) (id : ℤ) (p : Progress) → (if b then with_handled (with_built id p.handled) p else p).events ≡ p.events
built-events true id p = refl
built-events false id p = refl

-- the line of an event is one more event, and that of an effect is not
pub after-event : (p : Progress) (w : What) → is_effect w ≡ false → (after_line p w).events ≡ p.events + 1
after-event p (what.Send a b c d) h = act-events p.handled (one_event p)
after-event p (what.Call a b c d e) h = act-events p.handled (one_event p)
after-event p (what.RefusedSend a b) h = act-events p.handled (one_event p)
after-event p (what.RefusedClose a) h = act-events p.handled (one_event p)
after-event p (what.RefusedResolve a) h = act-events p.handled (one_event p)
after-event p (what.RefusedReject a) h = act-events p.handled (one_event p)
after-event p (what.Resolve a b) h = act-events p.handled (one_event p)
after-event p (what.Reject a) h = act-events p.handled (one_event p)
after-event p (what.Keep a b) h = act-events p.handled (one_event p)
after-event p (what.Let a b) h = act-events p.handled (one_event p)
after-event p what.Close h = act-events p.handled (one_event p)
after-event p what.Die h = refl
after-event p (what.DeliverRequest a) h = refl
after-event p (what.DeliverReply a) h = refl
after-event p what.DeliverGoodbye h = refl
after-event p what.DeliverBroken h = refl
after-event p (what.Take a b c d) h = refl
after-event p (what.Drop a b c d) h = refl
after-event p (what.TakeReply a) h = refl
after-event p what.ShutNormal h = refl
after-event p what.ShutAbnormal h = refl
after-event p (what.Return a) h = refl
after-event p (what.ResumeOk a b) h = refl
after-event p (what.ResumeFault a b) h = refl
after-event p (what.Flush a) h = refl
after-event p _ h = cc

pub after-effect : (p : Progress) (w : What) → is_effect w ≡ true → (after_line p w).events ≡ p.events
after-effect p (what.Built a b) h = built-events p.takes a p
after-effect p (what.Replaced a) h = refl
after-effect p (what.AnswerOk a b) h = refl
after-effect p (what.AnswerFault a b) h = refl
after-effect p (what.Fails a) h = refl
after-effect p (what.Resolved a b) h = refl
after-effect p (what.Rejected a b) h = refl
after-effect p (what.Fall a b) h = refl
after-effect p _ h = cc

after-effects : (p : Progress) (ws : List What) → AllByRecursion (λ w. is_effect w ≡ true) ws → (after_lines p ws).events ≡ p.events
after-effects p [] h = refl
after-effects p (w ∷ ws) h = after-effects (after_line p w) ws h.1 ∙ after-effect p w h.0

-- The lines of a side

pub lines_of-append : (side : Side) (xs ys : List Line) → lines_of side (xs ++ ys) ≡ lines_of side xs ++ lines_of side ys
lines_of-append side xs ys =
    ap (map (λ (line : Line). line.what)) (filter-append (λ (line : Line). same_side line.side side) xs ys)
    ∙ map-append (λ (line : Line). line.what) (filter (λ (line : Line). same_side line.side side) xs) (filter (λ (line : Line). same_side line.side side) ys)

-- the progress after more lines
pub progress-append : (side : Side) (xs ys : List Line) → progress_of side (xs ++ ys) ≡ after_lines (progress_of side xs) (lines_of side ys)
progress-append side xs ys = ap (after_lines no_progress) (lines_of-append side xs ys) ∙ fold-append after_line no_progress (lines_of side xs) (lines_of side ys)

one-line : (b : Bool) (w : What) (own side : Side) (ws : List What) → lines_of side (map (line_at own) ws) ≡ cond b ws []
    → map (λ (line : Line). line.what) (cond b (line_at own w ∷ filter (λ (line : Line). same_side line.side side) (map (line_at own) ws)) (filter (λ (line : Line). same_side line.side side) (map (line_at own) ws))) ≡ cond b (w ∷ ws) []
one-line true w own side ws h = ap (λ rest. w ∷ rest) h
one-line false w own side ws h = h

abbrev no-whats : List What
no-whats = []

nothing : (b : Bool) → no-whats ≡ cond b no-whats no-whats
nothing true = refl
nothing false = refl

-- lines of one side are all of this side, or none of them is
pub lines_of-own : (own side : Side) (ws : List What) → lines_of side (map (line_at own) ws) ≡ cond (same_side own side) ws []
lines_of-own own side [] = nothing (same_side own side)
lines_of-own own side (w ∷ ws) = one-line (same_side own side) w own side ws (lines_of-own own side ws)

counted-if : (b : Bool) (p : Progress) (w : What) (ws : List What) → is_effect w ≡ false → AllByRecursion (λ w. is_effect w ≡ true) ws → (after_lines p (cond b (w ∷ ws) [])).events ≡ p.events + (if b then 1 else 0)
counted-if true p w ws h k = after-effects (after_line p w) ws k ∙ after-event p w h
counted-if false p w ws h k = omega arith

-- a step is one more event of its side
pub step-counted : (e : End) (happened : Event) (output : Output) (before : List Line) (side : Side) → Prints e happened output → (progress_of side (before ++ output.lines)).events ≡ (progress_of side before).events + (if same_side e.side side then 1 else 0)
step-counted e happened output before side p =
    ap (λ (q : Progress). q.events) (progress-append side before output.lines)
    ∙ ap (λ ls. (after_lines (progress_of side before) (lines_of side ls)).events) p.lines
    ∙ ap (λ ws. (after_lines (progress_of side before) ws).events) (lines_of-own e.side side (p.first ∷ p.rest))
    ∙ counted-if (same_side e.side side) (progress_of side before) p.first p.rest p.is_event p.effects

-- Both sides after a choice

below : (n limit : ℕ) → nat_lt n limit ≡ true → n < limit
below n limit h = (Decides-ltb n limit).0 h

record CountedSides (setting : Setting) (state : RunState) : Type 0 where
  parent : IsCountedBy setting state sides.Parent
  child : IsCountedBy setting state sides.Child

counted-at : (setting : Setting) (state : RunState) (side : Side) → CountedSides setting state → IsCountedBy setting state side
counted-at setting state sides.Parent h = h.parent
counted-at setting state sides.Child h = h.child

-- what is counted of a side whose end moved by one event
moves-on : (setting : Setting) (state next : RunState) (side : Side) (n m : ℕ) (e f : End) → (progress_of side state.lines).events ≡ n → (progress_of side next.lines).events ≡ m → end_of side state.world ≡ e → end_of side next.world ≡ f
    → n < setting.limit → m ≡ n + 1 → HasCounted e f → IsCountedBy setting state side → IsCountedBy setting next side
moves-on setting state next side n m e f is_n is_m is_e is_f within one h c =
    let s0 : e.sent ≤ n = subst (λ (x : End). x.sent ≤ n) is_e (subst (λ k. (end_of side state.world).sent ≤ k) is_n c.sent) in
    let d0 : e.delivered ≤ n = subst (λ (x : End). x.delivered ≤ n) is_e (subst (λ k. (end_of side state.world).delivered ≤ k) is_n c.delivered) in
    let s1 = h.sent.1 in
    let d1 = h.delivered.1 in
    let limit : m ≤ setting.limit = omega (arith, within, one) in
    let sent : f.sent ≤ m = omega (arith, one, s0, s1) in
    let delivered : f.delivered ≤ m = omega (arith, one, d0, d1) in
    record {
      limit = subst (λ k. k ≤ setting.limit) (sym is_m) limit;
      sent = subst (λ k. (end_of side next.world).sent ≤ k) (sym is_m) (subst (λ (x : End). x.sent ≤ m) (sym is_f) sent);
      delivered = subst (λ k. (end_of side next.world).delivered ≤ k) (sym is_m) (subst (λ (x : End). x.delivered ≤ m) (sym is_f) delivered);
    }

-- what is counted of a side of which nothing changed
stays-on : (setting : Setting) (state next : RunState) (side : Side) → (progress_of side next.lines).events ≡ (progress_of side state.lines).events → end_of side next.world ≡ end_of side state.world → IsCountedBy setting state side → IsCountedBy setting next side
stays-on setting state next side events same c = record {
  limit = subst (λ k. k ≤ setting.limit) (sym events) c.limit;
  sent = subst (λ k. (end_of side next.world).sent ≤ k) (sym events) (subst (λ (x : End). x.sent ≤ (progress_of side state.lines).events) (sym same) c.sent);
  delivered = subst (λ k. (end_of side next.world).delivered ≤ k) (sym events) (subst (λ (x : End). x.delivered ≤ (progress_of side state.lines).events) (sym same) c.delivered);
}

plus-none : (n : ℕ) → n + 0 ≡ n
plus-none n = omega arith

events-next : (setting : Setting) (side at : Side) (state next : RunState) (event : Event) (h : Happens setting side state event next) → Prints (end_of side state.world) event h.output → (end_of side state.world).side ≡ side
    → (progress_of at next.lines).events ≡ (progress_of at state.lines).events + (if same_side side at then 1 else 0)
events-next setting side at state next event h p own =
    ap (λ ls. (progress_of at ls).events) h.lines ∙ step-counted (end_of side state.world) event h.output state.lines at p
    ∙ ap (λ (s : Side). (progress_of at state.lines).events + (if same_side s at then 1 else 0)) own

counted-next : (setting : Setting) (side : Side) (state next : RunState) (event : Event) (h : Happens setting side state event next) → Prints (end_of side state.world) event h.output → (end_of side state.world).side ≡ side
    → (progress_of side state.lines).events < setting.limit → CountedSides setting state → CountedSides setting next
counted-next setting sides.Parent state next event h p own within c = record {
  parent =
      moves-on setting state next sides.Parent (progress_of sides.Parent state.lines).events (progress_of sides.Parent next.lines).events state.world.parent h.output.end refl refl refl (ap (λ (w : World). w.parent) h.world) within
      (events-next setting sides.Parent sides.Parent state next event h p own) (counts_grow setting.schema state.world.parent state.world.to_parent event h.output h.is).0 c.parent;
  child =
      stays-on setting state next sides.Child (events-next setting sides.Parent sides.Child state next event h p own ∙ plus-none (progress_of sides.Child state.lines).events) (ap (λ (w : World). w.child) h.world) c.child;
}
counted-next setting sides.Child state next event h p own within c = record {
  parent =
      stays-on setting state next sides.Parent (events-next setting sides.Child sides.Parent state next event h p own ∙ plus-none (progress_of sides.Parent state.lines).events) (ap (λ (w : World). w.parent) h.world) c.parent;
  child =
      moves-on setting state next sides.Child (progress_of sides.Child state.lines).events (progress_of sides.Child next.lines).events state.world.child h.output.end refl refl refl (ap (λ (w : World). w.child) h.world) within
      (events-next setting sides.Child sides.Child state next event h p own) (counts_grow setting.schema state.world.child state.world.to_child event h.output h.is).0 c.child;
}

counted-all : (setting : Setting) (choices : List Choice) (from last : RunState) → played setting choices from ≡ Some last → HaveSides from.world → CountedSides setting from → CountedSides setting last
counted-all setting [] from last h sided c =
    let same : from ≡ last = cc in
    subst (CountedSides setting) same c
counted-all setting (choice ∷ more) from last h sided c =
    let p : PlaysOn setting choice more from last = plays_on setting choice more from last h in
    let one : Chooses setting choice from p.next = chooses setting choice from p.next p.first in
    let made = choice-happens setting choice from p.next one in
    let own : (end_of choice.side from.world).side ≡ choice.side = side-of from.world choice.side sided in
    counted-all setting more p.next last p.rest (plays-one setting choice from p.next one sided).sides
    (counted-next setting choice.side from p.next one.event made (step-prints setting.schema (end_of choice.side from.world) (link_to choice.side from.world) one.event made.output made.is) own
    (below (progress_of choice.side from.lines).events setting.limit one.within) c)

nothing-counted : (setting : Setting) (side : Side) → IsCountedBy setting (beginning_of setting) side
nothing-counted setting sides.Parent = record { limit = omega arith; sent = omega arith; delivered = omega arith }
nothing-counted setting sides.Child = record { limit = omega arith; sent = omega arith; delivered = omega arith }

pub choices_are_counted : ChoicesAreCounted
choices_are_counted setting choices state h side =
    counted-at setting state side
    (counted-all setting choices (beginning_of setting) state h (begin-sides setting) (record { parent = nothing-counted setting sides.Parent; child = nothing-counted setting sides.Child }))
