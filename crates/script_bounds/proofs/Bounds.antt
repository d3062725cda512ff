-- A side has at most as many acts as actions, so a run is bounded and comes to rest.
use Rattle.std.proofs.Common.{◌≡◌, ◌⊎◌, inl, inr, ℕ, ◌+◌, ◌*◌, ◌<◌, ◌≤◌, Bool, true, false, not, ◌&&◌, cond, nat_lt, if◌then◌else◌, List, [], ◌∷◌, ◌++◌, map, Option, Some, None, is_some, refl, sym, ap, subst, ◌∙◌, arith}
use Rattle.std.specs.Prelude.{option_map}
use Rattle.std.specs.List.{AllZip}
use Rattle.std.specs.Option.{option_map_or}
use Rattle.std.proofs.lemmas.Bool.{false≢true}
use Rattle.std.proofs.lemmas.Bool.Decides.{Decides-ltb}
use Rattle.std.proofs.lemmas.List.{append-nil}
use Rattle.std.proofs.lemmas.List.Sums.{fold-append}
use Rattle.ipdl_base.specs.declared.kinds.Side.{Side}
use Rattle.ipdl_base.specs.declared.kinds.Side.TheVariants as sides
use Rattle.ipdl_base.specs.declared.line.Line.{Line}
use Rattle.ipdl_base.specs.declared.kinds.EndState.{EndState}
use Rattle.ipdl_base.specs.declared.kinds.EndState.TheVariants as state
use Rattle.ipdl_base.specs.declared.line.What.{What}
use Rattle.ipdl_base.specs.declared.line.What.TheVariants as what
use Rattle.ipdl_base.specs.Lines.{is_effect, same_side}
use Rattle.ipdl_base.specs.Sound.{IsSound}
use Rattle.handler_script.specs.declared.action.Action.{Action}
use Rattle.handler_script.specs.declared.action.Action.TheVariants as action
use Rattle.handler_script.specs.declared.script.Point.TheVariants as point
use Rattle.handler_script.specs.declared.script.Script.{Script}
use Rattle.handler_script.specs.ScriptOf.{action_at}
use Rattle.handler_script.specs.ValueOf.{TermContext, no_id}
use Rattle.nesting_core.specs.declared.frame.StackTop.{StackTop}
use Rattle.nesting_core.specs.declared.frame.StackTop.TheVariants as top
use Rattle.nesting_core.specs.Top.{top_of}
use Rattle.channel_laws.specs.Counts.{how_many, one_if}
use Rattle.channel_laws.proofs.Counting.{many-append}
use Rattle.channel_model.specs.Acts as acts
use Rattle.channel_model.specs.Ends.{End, World, end_of, link_to}
use Rattle.channel_model.specs.Events.{Event}
use Rattle.channel_model.specs.Events as event
use Rattle.channel_model.specs.Outputs.{Output, is_dead_end, is_open, line_at}
use Rattle.channel_model.specs.Runs.{RunState, history_of}
use Rattle.channel_model.specs.Sends.{frames_of}
use Rattle.channel_model.specs.Steps.{step}
use Rattle.channel_model.specs.Takes.{taken_next}
use Rattle.channel_model.proofs.Provided.{provided-gives}
use Rattle.progress_laws.specs.Acts.{acts as act_count, by_themselves, is_act as is_act_event, tells_act, tells_by_itself}
use Rattle.progress_laws.proofs.WeighedRuns.{histories_are_weighed, lines_tell_acts}
use Rattle.schedules.specs.declared.stop.Stop.{Stop}
use Rattle.script_steps.specs.Choices.{Choice, Setting, beginning_of, may_deliver, own_event, played}
use Rattle.script_steps.specs.NextEvent.{by_flushing, by_handler, by_main, by_taking, by_top, context_of, event_of, handler_action, is_stopped, next_event, or_else, return_of}
use Rattle.script_steps.specs.Progress.{HandledRequest, Progress, after_line, after_lines, is_act, lines_of, no_progress, progress_of}
use Rattle.script_steps.proofs.Choosing.{Happens, choice-happens}
use Rattle.script_steps.specs.Laws.{IsRunOf}
use Rattle.script_steps.specs.Turns.{at_limit, at_rest}
use Rattle.script_steps.proofs.Counting.{after-effect, after-event, lines_of-append, lines_of-own}
use Rattle.script_steps.proofs.Playing.{Chooses, PlaysOn, choices_are_runs, chooses, plays_on}
use Rattle.script_steps.proofs.StepLines.{Prints, step-prints}
use Rattle.script_runs.specs.Dispatches.{dispatches}
use Rattle.script_runs.specs.Handlers.{IsDispatchOf}
use Rattle.script_runs.proofs.CaseRuns.{IsCase, case-next}
use Rattle.script_runs.proofs.Handlers.{empty-top, zip-empty}
use Rattle.script_runs.proofs.KeptRuns.{case-side, handled_are_dispatched}
use Rattle.script_runs.proofs.Progressing.{first-is}
use Rattle.script_runs.proofs.Shows.{Shows, ShowsAct, step-shows}
use Rattle.script_bounds.specs.Actions.{deaths, main_actions}
use Rattle.script_bounds.specs.Laws.{ActsAreActions, RunsAreBounded, ScriptsComeToRest, event_count}
use Rattle.script_bounds.proofs.Blocks.{again-silent, blocks_serve_once}
use Rattle.script_bounds.proofs.Acting.{HasAction, act-uses, action-left, in_handler, in_main, left, lines-more, served}

-- What an end does next

-- An event is an action of the script, the death by a stop, or not an act.
data IsAction (setting : Setting) (side : Side) (e : End) (p : Progress) : Event → Type 0 where
  by_script : (context : TermContext) (seq : _) (a : Action) → HasAction setting.script side p → IsAction setting side e p (event_of context seq a)
  by_stop : deaths setting.stop side ≡ 1 → IsAction setting side e p event.die
  by_itself : {x : Event} → is_act_event x ≡ false → IsAction setting side e p x

module _ (setting : Setting) (side : Side) (e : End) (p : Progress) (own : e.side ≡ side) (handled : AllZip IsDispatchOf (dispatches e.stack) p.handled) where
  abbrev Acts : Event → Type 0
  Acts = IsAction setting side e p

  same : (x y : Event) → Some x ≡ Some y → x ≡ y
  same x y h = cc

  of-taking : (b : Bool) → (x : Event) → (if b then Some event.take else None) ≡ Some x → Acts x
  of-taking true x h = subst Acts (same event.take x h) (by_itself refl)
  of-taking false x h = cc

  of-flushing : (b : Bool) → (x : Event) → (if b then Some event.flush else None) ≡ Some x → Acts x
  of-flushing true x h = subst Acts (same event.flush x h) (by_itself refl)
  of-flushing false x h = cc

  none-handled : top_of (frames_of e) ≡ top.Empty → p.handled ≡ []
  none-handled on_top = zip-empty IsDispatchOf p.handled (subst (λ (es : List _). AllZip IsDispatchOf (dispatches es) p.handled) (empty-top e.stack on_top) handled)

  of-main : top_of (frames_of e) ≡ top.Empty → (b : Bool) (found : Option Action) → action_at setting.script e.side (point.Main p.main) ≡ found → (x : Event)
      → (if b then option_map (event_of (context_of e []) no_id) found else None) ≡ Some x → Acts x
  of-main on_top true None is x h = cc
  of-main on_top true (Some a) is x h =
      subst Acts (same (event_of (context_of e []) no_id a) x h) (by_script (context_of e []) no_id a (in_main a (none-handled on_top) (ap (λ (s : Side). action_at setting.script s (point.Main p.main)) (sym own) ∙ is)))
  of-main on_top false found is x h = cc

  of-found : (request : HandledRequest) (below : List HandledRequest) → p.handled ≡ request ∷ below → (found : Option Action) → handler_action setting.script e.side request ≡ found
      → Acts (option_map_or (event_of (context_of e (request ∷ below)) request.seq) found (return_of setting.script e.side (context_of e (request ∷ below)) request))
  of-found request below of None is = by_itself refl
  of-found request below of (Some a) is =
      by_script (context_of e (request ∷ below)) request.seq a (in_handler request below a of (ap (λ (s : Side). handler_action setting.script s request) (sym own) ∙ is))

  of-handler : (requests : List HandledRequest) → p.handled ≡ requests → Acts (by_handler setting.script e requests)
  of-handler [] is = by_itself refl
  of-handler (request ∷ below) is = of-found request below is (handler_action setting.script e.side request) refl

  of-either : (first second : Option Event) → ((x : Event) → first ≡ Some x → Acts x) → ((x : Event) → second ≡ Some x → Acts x) → (x : Event) → or_else first second ≡ Some x → Acts x
  of-either (Some y) second h k x is = h x is
  of-either None second h k x is = k x is

  of-top : (found : StackTop) → top_of (frames_of e) ≡ found → (x : Event) → by_top setting.script e p found ≡ Some x → Acts x
  of-top top.Empty on_top x h = of-either (by_taking e) (by_main setting.script e p) (of-taking (is_some (taken_next e))) (of-main on_top (is_open e.state) (action_at setting.script e.side (point.Main p.main)) refl) x h
  of-top (top.Dispatch head) on_top x h = subst Acts (same (by_handler setting.script e p.handled) x h) (of-handler p.handled refl)
  of-top (top.Unanswered head) on_top x h = of-taking (is_some (taken_next e)) x h
  of-top (top.Answered head) on_top x h = subst Acts (same event.resume x h) (by_itself refl)

  stopped-once : (stop : Option Stop) → is_stopped stop e.side p ≡ true → deaths stop side ≡ 1
  stopped-once None h = cc
  stopped-once (Some s) h = ap (λ (b : Bool). if b then 1 else 0) (ap (same_side s.side) (sym own) ∙ both (same_side s.side e.side) _ h)
    where
      both : (b c : Bool) → (b && c) ≡ true → b ≡ true
      both true c k = refl
      both false c k = cc

  -- the next event of an end that has not died
  next-acts : (x : Event) → next_event setting.script setting.stop e p ≡ Some x → (is_dead_end e.state ≡ false) × Acts x
  next-acts x h = by (is_dead_end e.state) refl (is_stopped setting.stop e.side p) refl h
    where
      by : (dead : Bool) → is_dead_end e.state ≡ dead → (stopped : Bool) → is_stopped setting.stop e.side p ≡ stopped
          → (if dead then None else (if stopped then Some event.die else or_else (by_top setting.script e p (top_of (frames_of e))) (by_flushing e))) ≡ Some x → (is_dead_end e.state ≡ false) × Acts x
      by true is stopped at k = cc
      by false is true at k = (is, subst Acts (same event.die x k) (by_stop (stopped-once setting.stop at)))
      by false is false at k = (is, of-either (by_top setting.script e p (top_of (frames_of e))) (by_flushing e) (of-top (top_of (frames_of e)) refl) (of-flushing _) x k)

-- What a side has done

-- The acts that the lines of a side show, and the actions that are left to it, are those of its main and of the requests that it took.
record HasActed (setting : Setting) (side : Side) (e : End) (ws : List What) : Type 0 where
  living : is_dead_end e.state ≡ false → how_many tells_act ws + left setting.script side (after_lines no_progress ws) ≤ main_actions setting.script side + served setting.script side (after_lines no_progress ws)
  ever : how_many tells_act ws ≤ main_actions setting.script side + (served setting.script side (after_lines no_progress ws) + deaths setting.stop side)

dies : (schema : _) (e : End) (link : List _) (output : Output) → step schema e link event.die ≡ Some output → is_dead_end output.end.state ≡ true
dies schema e link output is = provided-gives (λ (o : Output). is_dead_end o.end.state ≡ true) (acts.may_die e) acts.die e output (λ may. refl) is

module _ (setting : Setting) (side : Side) where
  abbrev script : Script
  script = setting.script

  abbrev all : ℕ
  all = main_actions setting.script side

  abbrev Told : List What → ℕ
  Told ws = how_many tells_act ws

  abbrev reached : List What → Progress
  reached ws = after_lines no_progress ws

  reached-more : (ws vs : List What) → reached (ws ++ vs) ≡ after_lines (reached ws) vs
  reached-more ws vs = fold-append after_line no_progress ws vs

  told-step : (e : End) (x : Event) (output : Output) (pr : Prints e x output) → act_count output.lines ≡ one_if (is_act_event x) → Told (pr.first ∷ pr.rest) ≡ one_if (is_act_event x)
  told-step e x output pr h = sym (told (pr.first ∷ pr.rest)) ∙ ap act_count (sym pr.lines) ∙ h
    where
      told : (ws : List What) → act_count (map (line_at e.side) ws) ≡ Told ws
      told [] = refl
      told (w ∷ ws) = ap (λ (n : ℕ). one_if (tells_act w) + n) (told ws)

  module _ (e : End) (ws : List What) (h : HasActed setting side e ws) (alive : is_dead_end e.state ≡ false) (x : Event) (output : Output) (pr : Prints e x output) (counts : act_count output.lines ≡ one_if (is_act_event x)) where
    -- what happens by itself
    passes : is_act_event x ≡ false → HasActed setting side output.end (ws ++ (pr.first ∷ pr.rest))
    passes not_act =
        let told = many-append tells_act ws (pr.first ∷ pr.rest) in
        let one = told-step e x output pr counts ∙ ap one_if not_act in
        let before = h.living alive in
        let line = lines-more script side (reached ws) (pr.first ∷ pr.rest) in
        let more = line.more in
        let less = line.left in
        let now = reached-more ws (pr.first ∷ pr.rest) in
        let lefts = ap (left script side) now in
        let serves = ap (served script side) now in
        record { living = λ dead. omega (arith, told, one, before, more, less, lefts, serves); ever = omega (arith, told, one, before, more, less, lefts, serves) }

    -- an act that is an action and not a death
    uses : is_act pr.first ≡ true → HasAction script side (reached ws) → HasActed setting side output.end (ws ++ (pr.first ∷ pr.rest))
    uses act has =
        let told = many-append tells_act ws (pr.first ∷ pr.rest) in
        let one = told-step e x output pr counts in
        let few : one_if (is_act_event x) ≤ 1 = at_most (is_act_event x) in
        let before = h.living alive in
        let more = (lines-more script side (reached ws) (pr.first ∷ pr.rest)).more in
        let less = act-uses script side (reached ws) pr.first pr.rest act has in
        let now = reached-more ws (pr.first ∷ pr.rest) in
        let lefts = ap (left script side) now in
        let serves = ap (served script side) now in
        record { living = λ dead. omega (arith, told, one, few, before, more, less, lefts, serves); ever = omega (arith, told, one, few, before, more, less, lefts, serves) }
      where
        at_most : (b : Bool) → one_if b ≤ 1
        at_most true = omega arith
        at_most false = omega arith

    -- a death, by an action or by a stop
    ends : is_dead_end output.end.state ≡ true → (1 ≤ left script side (reached ws)) ⊎ (deaths setting.stop side ≡ 1) → HasActed setting side output.end (ws ++ (pr.first ∷ pr.rest))
    ends dead why = record { living = λ alive_now. absurd (false≢true (sym alive_now ∙ dead)); ever = by why }
      where
        at_most : (b : Bool) → one_if b ≤ 1
        at_most true = omega arith
        at_most false = omega arith

        by : (1 ≤ left script side (reached ws)) ⊎ (deaths setting.stop side ≡ 1) → Told (ws ++ (pr.first ∷ pr.rest)) ≤ all + (served script side (reached (ws ++ (pr.first ∷ pr.rest))) + deaths setting.stop side)
        by (inl some) =
            let told = many-append tells_act ws (pr.first ∷ pr.rest) in
            let one = told-step e x output pr counts in
            let few : one_if (is_act_event x) ≤ 1 = at_most (is_act_event x) in
            let before = h.living alive in
            let more = (lines-more script side (reached ws) (pr.first ∷ pr.rest)).more in
            let serves = ap (served script side) (reached-more ws (pr.first ∷ pr.rest)) in
            omega (arith, told, one, few, before, more, serves, some)
        by (inr stopped) =
            let told = many-append tells_act ws (pr.first ∷ pr.rest) in
            let one = told-step e x output pr counts in
            let few : one_if (is_act_event x) ≤ 1 = at_most (is_act_event x) in
            let before = h.living alive in
            let more = (lines-more script side (reached ws) (pr.first ∷ pr.rest)).more in
            let serves = ap (served script side) (reached-more ws (pr.first ∷ pr.rest)) in
            omega (arith, told, one, few, before, more, serves, stopped)

  -- the first line of an act
  act-first : (e : End) (x : Event) (output : Output) (pr : Prints e x output) (entries : List _) → ShowsAct e entries output → is_act pr.first ≡ true
  act-first e x output pr entries shows =
      let same : pr.first ≡ shows.0 = first-is e.side pr.first shows.0 pr.rest shows.2.more (sym pr.lines ∙ shows.2.lines) in
      ap is_act same ∙ shows.1

  action-first : (e : End) (context : TermContext) (seq : _) (a : Action) (output : Output) (pr : Prints e (event_of context seq a) output) → Shows setting.schema e (event_of context seq a) output
      → (is_act pr.first ≡ true) ⊎ (event_of context seq a ≡ event.die)
  action-first e context seq (action.Send who number terms) output pr shows = inl (act-first e _ output pr _ shows)
  action-first e context seq (action.New name who number terms) output pr shows = inl (act-first e _ output pr _ shows)
  action-first e context seq (action.Let name who) output pr shows = inl (act-first e _ output pr _ shows)
  action-first e context seq (action.Resolve terms) output pr (inl shows) = inl (act-first e _ output pr _ shows)
  action-first e context seq (action.Resolve terms) output pr (inr shows) = inl (act-first e _ output pr _ shows)
  action-first e context seq action.Reject output pr (inl shows) = inl (act-first e _ output pr _ shows)
  action-first e context seq action.Reject output pr (inr shows) = inl (act-first e _ output pr _ shows)
  action-first e context seq (action.Keep name) output pr shows = inl (act-first e _ output pr _ shows)
  action-first e context seq (action.ResolveNamed name number terms) output pr shows = inl (act-first e _ output pr _ shows)
  action-first e context seq (action.RejectNamed name number) output pr shows = inl (act-first e _ output pr _ shows)
  action-first e context seq action.Close output pr shows = inl (act-first e _ output pr _ shows)
  action-first e context seq action.Die output pr shows = inr refl

  -- a step of the side
  step-acts : (e : End) (link : List _) (ws : List What) (x : Event) (output : Output) (pr : Prints e x output) → step setting.schema e link x ≡ Some output → HasActed setting side e ws → is_dead_end e.state ≡ false → IsAction setting side e (reached ws) x
      → HasActed setting side output.end (ws ++ (pr.first ∷ pr.rest))
  step-acts e link ws x output pr is h alive acts = by x acts is pr
    where
      by : (x : Event) → IsAction setting side e (reached ws) x → step setting.schema e link x ≡ Some output → (pr : Prints e x output) → HasActed setting side output.end (ws ++ (pr.first ∷ pr.rest))
      by x (by_itself not_act) is pr = passes e ws h alive x output pr (lines_tell_acts setting.schema e link x output is).as_act not_act
      by x (by_stop once) is pr = ends e ws h alive event.die output pr (lines_tell_acts setting.schema e link event.die output is).as_act (dies setting.schema e link output is) (inr once)
      by x (by_script context seq a has) is pr =
          found (action-first e context seq a output pr (step-shows setting.schema e link (event_of context seq a) output is))
        where
          found : (is_act pr.first ≡ true) ⊎ (event_of context seq a ≡ event.die) → HasActed setting side output.end (ws ++ (pr.first ∷ pr.rest))
          found (inl act) = uses e ws h alive (event_of context seq a) output pr (lines_tell_acts setting.schema e link (event_of context seq a) output is).as_act act has
          found (inr dying) =
              ends e ws h alive (event_of context seq a) output pr (lines_tell_acts setting.schema e link (event_of context seq a) output is).as_act
              (dies setting.schema e link output (subst (λ (y : Event). step setting.schema e link y ≡ Some output) dying is)) (inl (action-left script side (reached ws) has))

-- Runs

abbrev BothActed : Setting → RunState → Type 0
BothActed setting state = (side : Side) → HasActed setting side (end_of side state.world) (lines_of side state.lines)

module _ (setting : Setting) (sound : IsSound setting.schema) where
  open-alive : (e : End) → is_open e.state ≡ true → is_dead_end e.state ≡ false
  open-alive e is = by e.state is
    where
      by : (s : EndState) → is_open s ≡ true → is_dead_end s ≡ false
      by state.Open h = refl
      by state.Draining h = refl
      by state.Closed h = refl
      by state.Dead h = cc

  chosen-acts : (side : Side) (state : RunState) (x : Event) → IsCase setting state → (x ≡ event.deliver) ⊎ (own_event setting side state ≡ Some x) → (x ≡ event.deliver → is_dead_end (end_of side state.world).state ≡ false)
      → (is_dead_end (end_of side state.world).state ≡ false) × IsAction setting side (end_of side state.world) (progress_of side state.lines) x
  chosen-acts side state x c (inl is) alive = (alive is, subst (IsAction setting side (end_of side state.world) (progress_of side state.lines)) (sym is) (by_itself refl))
  chosen-acts side state x c (inr is) alive =
      next-acts setting side (end_of side state.world) (progress_of side state.lines) (case-side setting sound state side c) (handled_are_dispatched setting c.choices state sound c.plays side).handled x is

  own-acts : (side : Side) (state next : RunState) (x : Event) (h : Happens setting side state x next) → IsCase setting state → same_side side side ≡ true → end_of side next.world ≡ h.output.end
      → (x ≡ event.deliver) ⊎ (own_event setting side state ≡ Some x) → (x ≡ event.deliver → is_dead_end (end_of side state.world).state ≡ false) → BothActed setting state → HasActed setting side (end_of side next.world) (lines_of side next.lines)
  own-acts side state next x h c same is which alive k =
      let e : End = end_of side state.world in
      let pr : Prints e x h.output = step-prints setting.schema e (link_to side state.world) x h.output h.is in
      let acts = chosen-acts side state x c which alive in
      let made : HasActed setting side h.output.end (lines_of side state.lines ++ (pr.first ∷ pr.rest)) = step-acts setting side e (link_to side state.world) (lines_of side state.lines) x h.output pr h.is (k side) acts.0 acts.1 in
      let lines : lines_of side next.lines ≡ lines_of side state.lines ++ (pr.first ∷ pr.rest) =
      ap (lines_of side) h.lines ∙ lines_of-append side state.lines h.output.lines ∙ ap (λ (ls : List Line). lines_of side state.lines ++ lines_of side ls) pr.lines
      ∙ ap (λ (ws : List What). lines_of side state.lines ++ ws)
      (lines_of-own e.side side (pr.first ∷ pr.rest) ∙ ap (λ (s : Side). cond (same_side s side) (pr.first ∷ pr.rest) []) (case-side setting sound state side c) ∙ ap (λ (b : Bool). cond b (pr.first ∷ pr.rest) []) same) in
      subst (λ (f : End). HasActed setting side f (lines_of side next.lines)) (sym is) (subst (HasActed setting side h.output.end) (sym lines) made)

  other-acts : (side other : Side) (state next : RunState) (x : Event) (h : Happens setting side state x next) → IsCase setting state → same_side side other ≡ false → end_of other next.world ≡ end_of other state.world → BothActed setting state
      → HasActed setting other (end_of other next.world) (lines_of other next.lines)
  other-acts side other state next x h c apart is k =
      let e : End = end_of side state.world in
      let pr : Prints e x h.output = step-prints setting.schema e (link_to side state.world) x h.output h.is in
      let lines : lines_of other next.lines ≡ lines_of other state.lines =
      ap (lines_of other) h.lines ∙ lines_of-append other state.lines h.output.lines ∙ ap (λ (ls : List Line). lines_of other state.lines ++ lines_of other ls) pr.lines
      ∙ ap (λ (ws : List What). lines_of other state.lines ++ ws)
      (lines_of-own e.side other (pr.first ∷ pr.rest) ∙ ap (λ (s : Side). cond (same_side s other) (pr.first ∷ pr.rest) []) (case-side setting sound state side c) ∙ ap (λ (b : Bool). cond b (pr.first ∷ pr.rest) []) apart)
      ∙ append-nil (lines_of other state.lines) in
      subst (λ (f : End). HasActed setting other f (lines_of other next.lines)) (sym is) (subst (HasActed setting other (end_of other state.world)) (sym lines) (k other))

  next-acted : (side : Side) (state next : RunState) (x : Event) (h : Happens setting side state x next) → IsCase setting state → (x ≡ event.deliver) ⊎ (own_event setting side state ≡ Some x)
      → (x ≡ event.deliver → is_dead_end (end_of side state.world).state ≡ false) → BothActed setting state → BothActed setting next
  next-acted sides.Parent state next x h c which alive k sides.Parent = own-acts sides.Parent state next x h c refl (ap (λ (w : World). w.parent) h.world) which alive k
  next-acted sides.Parent state next x h c which alive k sides.Child = other-acts sides.Parent sides.Child state next x h c refl (ap (λ (w : World). w.child) h.world) k
  next-acted sides.Child state next x h c which alive k sides.Child = own-acts sides.Child state next x h c refl (ap (λ (w : World). w.child) h.world) which alive k
  next-acted sides.Child state next x h c which alive k sides.Parent = other-acts sides.Child sides.Parent state next x h c refl (ap (λ (w : World). w.parent) h.world) k

  -- a choice is of the delivery to an end that has not died, or of the next event of the side
  which : (choice : Choice) (state : RunState) (x : Event) (delivers : Bool) → (if delivers then (if may_deliver choice.side state.world then Some event.deliver else None) else own_event setting choice.side state) ≡ Some x
      → ((x ≡ event.deliver) × (is_dead_end (end_of choice.side state.world).state ≡ false)) ⊎ (own_event setting choice.side state ≡ Some x)
  which choice state x true h = by (is_open (end_of choice.side state.world).state) refl _ h
    where
      by : (b : Bool) → is_open (end_of choice.side state.world).state ≡ b → (c : Bool) → (if b && c then Some event.deliver else None) ≡ Some x
          → ((x ≡ event.deliver) × (is_dead_end (end_of choice.side state.world).state ≡ false)) ⊎ (own_event setting choice.side state ≡ Some x)
      by true is true k = inl (cc, open-alive (end_of choice.side state.world) is)
      by true is false k = cc
      by false is c k = cc
  which choice state x false h = inr h

  all-acted : (choices : List Choice) (from last : RunState) → IsCase setting from → played setting choices from ≡ Some last → BothActed setting from → BothActed setting last
  all-acted [] from last c h k =
      let same : from ≡ last = cc in
      subst (BothActed setting) same k
  all-acted (choice ∷ more) from last c h k =
      let p : PlaysOn setting choice more from last = plays_on setting choice more from last h in
      let one : Chooses setting choice from p.next = chooses setting choice from p.next p.first in
      let made : Happens setting choice.side from one.event p.next = choice-happens setting choice from p.next one in
      all-acted more p.next last (case-next setting choice from p.next c p.first) p.rest (by (which choice from one.event choice.delivers one.has) p made one.event)
    where
      by : {x : Event} → ((x ≡ event.deliver) × (is_dead_end (end_of choice.side from.world).state ≡ false)) ⊎ (own_event setting choice.side from ≡ Some x) → (p : PlaysOn setting choice more from last) → Happens setting choice.side from x p.next → (y : Event)
          → BothActed setting p.next
      by (inl d) p made y = next-acted choice.side from p.next _ made c (inl d.0) (λ is. d.1) k
      by (inr o) p made y = next-acted choice.side from p.next _ made c (inr o) (λ is. (next-acts setting choice.side (end_of choice.side from.world) (progress_of choice.side from.lines) (case-side setting sound from choice.side c) (handled_are_dispatched setting c.choices from sound c.plays choice.side).handled _ o).0) k

  begin-acted : BothActed setting (beginning_of setting)
  begin-acted sides.Parent = record { living = λ alive. omega arith; ever = omega arith }
  begin-acted sides.Child = record { living = λ alive. omega arith; ever = omega arith }

pub acts_are_actions : ActsAreActions
acts_are_actions setting choices state sound h side = (all-acted setting sound choices (beginning_of setting) state (record { choices = []; plays = refl }) h (begin-acted setting sound) side).ever

-- Bounds

event-more : (p : Progress) (w : What) → (after_line p w).events ≡ p.events + (one_if (tells_act w) + one_if (tells_by_itself w))
event-more p w = by (is_effect w) refl (tells_act w) refl
  where
    quiet : (w : What) → is_effect w ≡ true → tells_act w ≡ false
    quiet (what.Built a b) h = refl
    quiet (what.Replaced a) h = refl
    quiet (what.AnswerOk a b) h = refl
    quiet (what.AnswerFault a b) h = refl
    quiet (what.Fails a) h = refl
    quiet (what.Resolved a b) h = refl
    quiet (what.Rejected a b) h = refl
    quiet (what.Fall a b) h = refl
    quiet _ h = cc

    by : (e : Bool) → is_effect w ≡ e → (a : Bool) → tells_act w ≡ a → (after_line p w).events ≡ p.events + (one_if (tells_act w) + one_if (tells_by_itself w))
    by true is a acts =
        let none : tells_act w ≡ false = quiet w is in
        let x = after-effect p w is in
        let y = ap one_if none in
        let z = ap (λ (b : Bool). one_if (not b && not (tells_act w))) is in
        omega (arith, x, y, z)
    by false is true acts =
        let x = after-event p w is in
        let y = ap one_if acts in
        let z = ap (λ (b : Bool). one_if (not b && not (tells_act w))) is in
        let u = ap (λ (b : Bool). one_if (not b)) acts in
        omega (arith, x, y, z, u)
    by false is false acts =
        let x = after-event p w is in
        let y = ap one_if acts in
        let z = ap (λ (b : Bool). one_if (not b && not (tells_act w))) is in
        let u = ap (λ (b : Bool). one_if (not b)) acts in
        omega (arith, x, y, z, u)

-- lines are of both sides
record BothCount (p q : Progress) (lines : List Line) : Type 0 where
  events : (after_lines p (lines_of sides.Parent lines)).events + (after_lines q (lines_of sides.Child lines)).events ≡ (p.events + q.events) + (act_count lines + by_themselves lines)
  acts : how_many tells_act (lines_of sides.Parent lines) + how_many tells_act (lines_of sides.Child lines) ≡ act_count lines

both-count : (p q : Progress) (lines : List Line) → BothCount p q lines
both-count p q [] = record { events = omega arith; acts = refl }
both-count p q (line ∷ lines) = by line.side line.what (both-count (after_line p line.what) q lines) (both-count p (after_line q line.what) lines)
  where
    by : (s : Side) (w : What) → BothCount (after_line p w) q lines → BothCount p (after_line q w) lines → BothCount p q (record { side = s; what = w } ∷ lines)
    by sides.Parent w h k =
        let one = event-more p w in
        let e = h.events in
        let a = h.acts in
        record { events = omega (arith, one, e); acts = omega (arith, a) }
    by sides.Child w h k =
        let one = event-more q w in
        let e = k.events in
        let a = k.acts in
        record { events = omega (arith, one, e); acts = omega (arith, a) }

pub runs_are_bounded : RunsAreBounded
runs_are_bounded setting choices state sound h =
    let r : IsRunOf setting state = choices_are_runs setting choices state h in
    let lines : history_of setting.schema setting.script.top r.moves ≡ state.lines = ap (λ (s : RunState). s.lines) r.runs in
    let weighed = histories_are_weighed setting.schema sound setting.script.top r.moves in
    let few : by_themselves state.lines ≤ 6 * act_count state.lines = subst (λ (ls : List Line). by_themselves ls ≤ 6 * act_count ls) lines (omega (arith, weighed)) in
    let both = both-count no_progress no_progress state.lines in
    let events = both.events in
    let acts = both.acts in
    let parent = acts_are_actions setting choices state sound h sides.Parent in
    let child = acts_are_actions setting choices state sound h sides.Child in
    let parent_once = blocks_serve_once setting.script sides.Parent (progress_of sides.Parent state.lines).taken in
    let child_once = blocks_serve_once setting.script sides.Child (progress_of sides.Child state.lines).taken in
    omega (arith, few, events, acts, parent, child, parent_once, child_once)

least : (n limit : ℕ) → nat_lt n limit ≡ false → n < limit → ⊥
least n limit is l = false≢true (sym is ∙ (Decides-ltb n limit).1 l)

past : (setting : Setting) (last : RunState) (side : Side) → nat_lt (progress_of side last.lines).events setting.limit ≡ false → event_count last < setting.limit → ⊥
past setting last sides.Parent is few = least (progress_of sides.Parent last.lines).events setting.limit is (omega (arith, few))
past setting last sides.Child is few = least (progress_of sides.Child last.lines).events setting.limit is (omega (arith, few))

pub scripts_come_to_rest : ScriptsComeToRest
scripts_come_to_rest setting choices last at_rest sound silent above h how = refl
scripts_come_to_rest setting choices last (at_limit side) sound silent above h how =
    let bound = runs_are_bounded setting choices last sound h in
    let parent = again-silent setting.script silent sides.Parent (progress_of sides.Parent last.lines).taken in
    let child = again-silent setting.script silent sides.Child (progress_of sides.Child last.lines).taken in
    absurd (past setting last side how.0 (omega (arith, above, bound, parent, child)))
