-- With what the lines of each event begin.
use Rattle.std.proofs.Common.{◌≡◌, inl, inr, ℕ, ◌+◌, pos, Bool, true, false, if◌then◌else◌, List, [], ◌∷◌, drop, Option, Some, refl, sym, ap, ◌∙◌, arith}
use Rattle.ipdl_base.specs.declared.line.What.{What}
use Rattle.ipdl_base.specs.declared.line.What.TheVariants as what
use Rattle.ipdl_base.specs.declared.schema.Schema.{Schema}
use Rattle.ipdl_base.specs.declared.value.Values.{Values}
use Rattle.ipdl_base.specs.declared.value.Values.TheVariants as values
use Rattle.ipdl_base.specs.Lines.{is_effect}
use Rattle.channel_model.specs.Answers.{released}
use Rattle.channel_model.specs.Ends.{End, Packet, StackEntry}
use Rattle.channel_model.specs.Events.{Event, handled, kept}
use Rattle.channel_model.specs.Events as event
use Rattle.channel_model.specs.Outputs.{Output}
use Rattle.channel_model.specs.Steps.{step}
use Rattle.script_runs.specs.Dispatches.{dispatches}
use Rattle.script_runs.proofs.Progressing.{acted, act-handled, first-is}
use Rattle.script_runs.proofs.Shows.{Passes, Shows, ShowsAct, ShowsPassing, step-shows}
use Rattle.script_steps.proofs.StepLines.{Prints, step-prints}
use Rattle.script_steps.specs.Progress.{HandledRequest, Progress, is_act, no_progress, one_act, one_event, with_handled}
use Rattle.world_core.proofs.StepProgress.{Begins, Makes}

-- Acts

abbrev pub IsAct : What → Type 0
IsAct w = is_act w ≡ true

act-shown : (e : End) (entries : List StackEntry) (output : Output) → ShowsAct e entries output → Begins output IsAct
act-shown e entries output shows = (e.side, shows.0, shows.2.more, shows.2.lines, shows.1)

-- whether an event is an act other than a death
abbrev pub is_acting : Event → Bool
is_acting (event.send route number vs name) = true
is_acting (event.answer by vs) = true
is_acting (event.keep seq name) = true
is_acting (event.name name id) = true
is_acting event.close = true
is_acting _ = false

-- the lines of an act begin with that of an act
pub act-begins : (schema : Schema) (e : End) (link : List Packet) (happened : Event) (output : Output) → is_acting happened ≡ true → step schema e link happened ≡ Some output → Begins output IsAct
act-begins schema e link happened output acts is = by happened acts (step-shows schema e link happened output is)
  where
    by : (x : Event) → is_acting x ≡ true → Shows schema e x output → Begins output IsAct
    by (event.send route number vs name) h shows = act-shown e (dispatches e.stack) output shows
    by (event.answer (handled seq) vs) h (inl shows) = act-shown e (dispatches e.stack) output shows
    by (event.answer (handled seq) vs) h (inr shows) = act-shown e (dispatches (released seq e.stack)) output shows
    by (event.answer (kept name number) vs) h shows = act-shown e (dispatches e.stack) output shows
    by (event.keep seq name) h shows = act-shown e (dispatches (released seq e.stack)) output shows
    by (event.name name id) h shows = act-shown e (dispatches e.stack) output shows
    by event.close h shows = act-shown e (dispatches e.stack) output shows
    by event.die h shows = cc
    by event.deliver h shows = cc
    by event.take h shows = cc
    by (event.return vs) h shows = cc
    by event.resume h shows = cc
    by event.flush h shows = cc

-- Lines that leave all handlers as they are: each is an event and no more.

-- a handler that runs, by which the lines that change handlers are known
abbrev one_running : List HandledRequest
one_running = record { seq = pos 0; number = 0; block = 0; acts = 0; given = values.Nothing; made = pos 0 } ∷ []

abbrev with_one : Progress
with_one = record no_progress { handled = one_running }

abbrev acts_of : List HandledRequest → ℕ
acts_of [] = 0
acts_of (request ∷ below) = request.acts

no-act : (w : What) → Passes w → is_act w ≡ true → ⊥
no-act w passes acts =
    let same : acted one_running ≡ one_running = sym (act-handled with_one w acts) ∙ (passes with_one).0 in
    let more : 0 + 1 ≡ 0 = ap acts_of same in
    omega (arith, more)

by-tests : (acts effect : Bool) (x y z : Progress) → (acts ≡ true → ⊥) → effect ≡ false → (if acts then x else (if effect then y else z)) ≡ z
by-tests true effect x y z none event = absurd (none refl)
by-tests false true x y z none event = cc
by-tests false false x y z none event = refl

passes-makes : (w : What) → Passes w → is_effect w ≡ false → Makes one_event w
passes-makes (what.Take seq route number vs) passes event p = let e = (passes with_one).0 in cc
passes-makes (what.Built id protocol) passes event p = cc
passes-makes what.Die passes event p = let e = (passes with_one).0 in cc
passes-makes (what.Return seq) passes event p = let e = (passes with_one).0 in cc
passes-makes w passes event p = by-tests (is_act w) (is_effect w) (one_act p.handled (one_event p)) p (one_event p) (no-act w passes) event

-- the lines of a step that leaves the handlers begin with an event and no more
pub passing-begins : (e : End) (entries : List StackEntry) (happened : Event) (output : Output) → Prints e happened output → ShowsPassing e entries output → Begins output (Makes one_event)
passing-begins e entries happened output prints shows =
    let same : prints.first ≡ shows.0 = first-is e.side prints.first shows.0 prints.rest shows.2.more (sym prints.lines ∙ shows.2.lines) in
    (e.side, shows.0, shows.2.more, shows.2.lines, passes-makes shows.0 shows.1 (ap is_effect (sym same) ∙ prints.is_event))

-- Deaths, returns, calls that go on, and flushes

pub die-begins : (schema : Schema) (e : End) (link : List Packet) (output : Output) → step schema e link event.die ≡ Some output → Begins output (Makes (λ p. with_handled [] (one_event p)))
die-begins schema e link output is = let shows = step-shows schema e link event.die output is in (e.side, what.Die, shows.more, shows.lines, λ p. refl)

pub return-begins : (schema : Schema) (e : End) (link : List Packet) (vs : Option Values) (output : Output) → step schema e link (event.return vs) ≡ Some output → Begins output (Makes (λ p. with_handled (drop 1 p.handled) (one_event p)))
return-begins schema e link vs output is = let shows = step-shows schema e link (event.return vs) output is in (e.side, what.Return shows.0, shows.1.more, shows.1.lines, λ p. refl)

pub resume-begins : (schema : Schema) (e : End) (link : List Packet) (output : Output) → step schema e link event.resume ≡ Some output → Begins output (Makes one_event)
resume-begins schema e link output is = passing-begins e (dispatches (drop 1 e.stack)) event.resume output (step-prints schema e link event.resume output is) (step-shows schema e link event.resume output is)

pub flush-begins : (schema : Schema) (e : End) (link : List Packet) (output : Output) → step schema e link event.flush ≡ Some output → Begins output (Makes one_event)
flush-begins schema e link output is = passing-begins e (dispatches e.stack) event.flush output (step-prints schema e link event.flush output is) (step-shows schema e link event.flush output is)
