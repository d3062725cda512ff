-- In every run of a script the handlers that lines show are the dispatches of the stack, as they were taken.
use Rattle.std.proofs.Common.{◌≡◌, ◌⊎◌, inl, inr, ◌≤◌, ℤ, Bool, true, false, ◌&&◌, ◌||◌, cond, if◌then◌else◌, List, [], ◌∷◌, ◌++◌, find, Some, None, refl, sym, ap, subst, ◌∙◌, append_assoc, arith}
use Rattle.std.specs.Prelude.{option_map}
use Rattle.std.specs.List.{AllByRecursion, AllZip}
use Rattle.std.specs.Ordering.{int_eq}
use Rattle.handler_script.specs.Valid.{IsValid}
use Rattle.ipdl_base.specs.declared.kinds.Side.{Side}
use Rattle.ipdl_base.specs.declared.kinds.Side.TheVariants as sides
use Rattle.ipdl_base.specs.declared.message.Body.TheVariants.{Goodbye}
use Rattle.ipdl_base.specs.Lines.{same_side}
use Rattle.ipdl_base.specs.Sound.{IsSound}
use Rattle.nesting_core.specs.Frames.{head_of, is_dispatch}
use Rattle.channel_model.specs.Answers.{has_resolver, resolver_in}
use Rattle.channel_model.specs.Ends.{End, World, StackEntry, end_of, link_to}
use Rattle.channel_model.specs.Events.{Event}
use Rattle.channel_model.specs.Events as event
use Rattle.channel_model.specs.Fitting.{IsFitting, FitsEntry}
use Rattle.channel_model.specs.Numbers.{request_row}
use Rattle.channel_model.specs.Outputs.{Output}
use Rattle.channel_model.specs.Runs.{RunState}
use Rattle.channel_laws.specs.AnswersOnce.{owes_answer}
use Rattle.channel_laws.specs.Counts.{how_many, one_if}
use Rattle.channel_laws.proofs.Counting.{many-middle, int-same}
use Rattle.script_steps.specs.Choices.{Setting, Choice, beginning_of, own_event, may_deliver, played}
use Rattle.script_steps.specs.Progress.{HandledRequest, Progress, after_lines, lines_of, progress_of}
use Rattle.script_steps.proofs.Choosing.{Happens, choice-happens, HaveSides, side-of, HasPlayed, plays-one, begin-sides}
use Rattle.script_steps.proofs.Counting.{progress-append, lines_of-own}
use Rattle.script_steps.proofs.Playing.{Chooses, chooses, PlaysOn, plays_on}
use Rattle.script_steps.proofs.StepLines.{Prints, step-prints}
use Rattle.script_runs.specs.Dispatches.{dispatches}
use Rattle.script_runs.specs.Handlers.{IsDispatchOf, IsHandlerOf}
use Rattle.script_runs.specs.Laws.{HandledAreDispatched, HasLimit, HandlersStand}
use Rattle.script_runs.proofs.CaseRuns.{IsCase, case-next, IsCaseEnd, case-end, case-fits}
use Rattle.script_runs.proofs.Handlers.{zip-empty, IsKept, next-kept, delivery-kept, names-kept}
use Rattle.script_runs.proofs.Leaves.{NameNoNulls}
use Rattle.script_runs.proofs.NextSteps.{next-is}
use Rattle.script_runs.proofs.Shows.{Shows, step-shows}

-- What remains true of a side.
pub record KeepsSide (setting : Setting) (state : RunState) (side : Side) : Type 0 where
  pub handled : AllZip (IsKept setting side) (dispatches (end_of side state.world).stack) (progress_of side state.lines).handled
  pub names : NameNoNulls (end_of side state.world)

-- the event of a choice is a delivery, or the next event of the side
event-of : (setting : Setting) (choice : Choice) (state : RunState) (x : Event) (delivers : Bool) → (if delivers then (if may_deliver choice.side state.world then Some event.deliver else None) else own_event setting choice.side state) ≡ Some x
    → (x ≡ event.deliver) ⊎ (own_event setting choice.side state ≡ Some x)
event-of setting choice state x true h = inl (by (may_deliver choice.side state.world) h)
  where
    by : (b : Bool) → (if b then Some event.deliver else None) ≡ Some x → x ≡ event.deliver
    by true k = cc
    by false k = cc
event-of setting choice state x false h = inr h

module _ (setting : Setting) (sound : IsSound setting.schema) where
  -- the side that moves
  own-keeps : (side : Side) (state : RunState) (x : Event) (output : Output) → IsCase setting state → (end_of side state.world).side ≡ side → (x ≡ event.deliver) ⊎ (own_event setting side state ≡ Some x)
      → Shows setting.schema (end_of side state.world) x output → (pr : Prints (end_of side state.world) x output) → AllZip (IsKept setting side) (dispatches (end_of side state.world).stack) (progress_of side state.lines).handled
      → AllZip (IsKept setting side) (dispatches output.end.stack) (after_lines (progress_of side state.lines) (pr.first ∷ pr.rest)).handled
  own-keeps side state x output c own which shows pr zip =
      let e : End = end_of side state.world in
      let p : Progress = progress_of side state.lines in
      let known : IsCaseEnd setting.schema e = case-end setting state side sound c in
      let fits : HasLimit setting → IsFitting setting.schema e = λ limit. (case-fits setting state side sound limit c).end in
      let related : AllZip (IsKept setting e.side) (dispatches e.stack) p.handled = subst (λ (s : Side). AllZip (IsKept setting s) (dispatches e.stack) p.handled) (sym own) zip in
      subst (λ (s : Side). AllZip (IsKept setting s) (dispatches output.end.stack) (after_lines p (pr.first ∷ pr.rest)).handled) own (by x which shows pr known fits related)
    where
      by : (x : Event) → (x ≡ event.deliver) ⊎ (own_event setting side state ≡ Some x) → Shows setting.schema (end_of side state.world) x output → (pr : Prints (end_of side state.world) x output)
          → IsCaseEnd setting.schema (end_of side state.world) → (HasLimit setting → IsFitting setting.schema (end_of side state.world))
          → AllZip (IsKept setting (end_of side state.world).side) (dispatches (end_of side state.world).stack) (progress_of side state.lines).handled
          → AllZip (IsKept setting (end_of side state.world).side) (dispatches output.end.stack) (after_lines (progress_of side state.lines) (pr.first ∷ pr.rest)).handled
      by x (inl is) shows pr known fits related = delivered is shows pr
        where
          delivered : {x : Event} → x ≡ event.deliver → Shows setting.schema (end_of side state.world) x output → (pr : Prints (end_of side state.world) x output)
              → AllZip (IsKept setting (end_of side state.world).side) (dispatches output.end.stack) (after_lines (progress_of side state.lines) (pr.first ∷ pr.rest)).handled
          delivered {x} is shows pr =
              let P : Event → Type 0 = λ y. Shows setting.schema (end_of side state.world) y output → (pr : Prints (end_of side state.world) y output)
              → AllZip (IsKept setting (end_of side state.world).side) (dispatches output.end.stack) (after_lines (progress_of side state.lines) (pr.first ∷ pr.rest)).handled
              in
              subst P (sym is) (delivery-kept setting (end_of side state.world) (progress_of side state.lines) known fits related output) shows pr
      by x (inr is) shows pr known fits related =
          next-kept setting (end_of side state.world) (progress_of side state.lines) known fits related x output (next-is setting.script setting.stop (end_of side state.world) (progress_of side state.lines) x is).1 shows pr

  -- the lines of a step, at its side and at the other

  own-progress : (side : Side) (state : RunState) (x : Event) (output : Output) (pr : Prints (end_of side state.world) x output) → (end_of side state.world).side ≡ side → same_side side side ≡ true
      → progress_of side (state.lines ++ output.lines) ≡ after_lines (progress_of side state.lines) (pr.first ∷ pr.rest)
  own-progress side state x output pr own same =
      progress-append side state.lines output.lines
      ∙ ap (λ ls. after_lines (progress_of side state.lines) (lines_of side ls)) pr.lines
      ∙ ap (after_lines (progress_of side state.lines)) (lines_of-own (end_of side state.world).side side (pr.first ∷ pr.rest) ∙ ap (λ (s : Side). cond (same_side s side) (pr.first ∷ pr.rest) []) own ∙ ap (λ b. cond b (pr.first ∷ pr.rest) []) same)

  other-progress : (side other : Side) (state : RunState) (x : Event) (output : Output) (pr : Prints (end_of side state.world) x output) → (end_of side state.world).side ≡ side → same_side side other ≡ false
      → progress_of other (state.lines ++ output.lines) ≡ progress_of other state.lines
  other-progress side other state x output pr own apart =
      progress-append other state.lines output.lines
      ∙ ap (λ ls. after_lines (progress_of other state.lines) (lines_of other ls)) pr.lines
      ∙ ap (after_lines (progress_of other state.lines)) (lines_of-own (end_of side state.world).side other (pr.first ∷ pr.rest) ∙ ap (λ (s : Side). cond (same_side s other) (pr.first ∷ pr.rest) []) own ∙ ap (λ b. cond b (pr.first ∷ pr.rest) []) apart)

  keeps-on : (state next : RunState) (side : Side) (e : End) (p : Progress) → end_of side next.world ≡ e → progress_of side next.lines ≡ p → AllZip (IsKept setting side) (dispatches e.stack) p.handled → NameNoNulls e → KeepsSide setting next side
  keeps-on state next side e p is_e is_p zip names = record {
    handled = subst (λ (q : Progress). AllZip (IsKept setting side) (dispatches (end_of side next.world).stack) q.handled) (sym is_p) (subst (λ (f : End). AllZip (IsKept setting side) (dispatches f.stack) p.handled) (sym is_e) zip);
    names = subst NameNoNulls (sym is_e) names;
  }

  side-keeps : (side : Side) (state next : RunState) (x : Event) (h : Happens setting side state x next) → IsCase setting state → (end_of side state.world).side ≡ side → same_side side side ≡ true → end_of side next.world ≡ h.output.end
      → (x ≡ event.deliver) ⊎ (own_event setting side state ≡ Some x) → KeepsSide setting state side → KeepsSide setting next side
  side-keeps side state next x h c own same is which k =
      let e : End = end_of side state.world in
      let pr : Prints e x h.output = step-prints setting.schema e (link_to side state.world) x h.output h.is in
      let shows : Shows setting.schema e x h.output = step-shows setting.schema e (link_to side state.world) x h.output h.is in
      keeps-on state next side h.output.end (after_lines (progress_of side state.lines) (pr.first ∷ pr.rest)) is (ap (progress_of side) h.lines ∙ own-progress side state x h.output pr own same)
      (own-keeps side state x h.output c own which shows pr k.handled) (names-kept setting.schema e x h.output shows k.names)

  other-keeps : (side other : Side) (state next : RunState) (x : Event) (h : Happens setting side state x next) → (end_of side state.world).side ≡ side → same_side side other ≡ false → end_of other next.world ≡ end_of other state.world
      → KeepsSide setting state other → KeepsSide setting next other
  other-keeps side other state next x h own apart is k =
      let e : End = end_of side state.world in
      let pr : Prints e x h.output = step-prints setting.schema e (link_to side state.world) x h.output h.is in
      keeps-on state next other (end_of other state.world) (progress_of other state.lines) is (ap (progress_of other) h.lines ∙ other-progress side other state x h.output pr own apart) k.handled k.names

  next-keeps : (side : Side) (state next : RunState) (x : Event) (h : Happens setting side state x next) → IsCase setting state → HaveSides state.world → (x ≡ event.deliver) ⊎ (own_event setting side state ≡ Some x) → ((s : Side) → KeepsSide setting state s)
      → (s : Side) → KeepsSide setting next s
  next-keeps sides.Parent state next x h c sided which k sides.Parent = side-keeps sides.Parent state next x h c sided.parent refl (ap (λ (w : World). w.parent) h.world) which (k sides.Parent)
  next-keeps sides.Parent state next x h c sided which k sides.Child = other-keeps sides.Parent sides.Child state next x h sided.parent refl (ap (λ (w : World). w.child) h.world) (k sides.Child)
  next-keeps sides.Child state next x h c sided which k sides.Child = side-keeps sides.Child state next x h c sided.child refl (ap (λ (w : World). w.child) h.world) which (k sides.Child)
  next-keeps sides.Child state next x h c sided which k sides.Parent = other-keeps sides.Child sides.Parent state next x h sided.child refl (ap (λ (w : World). w.parent) h.world) (k sides.Parent)

  -- All choices

  -- what holds of the state to which choices have led
  record KeepsState (state : RunState) : Type 0 where
    sides : HaveSides state.world
    keeps : (side : Side) → KeepsSide setting state side

  all-keep : (choices : List Choice) (from last : RunState) → IsCase setting from → played setting choices from ≡ Some last → KeepsState from → KeepsState last
  all-keep [] from last c h k =
      let same : from ≡ last = cc in
      subst KeepsState same k
  all-keep (choice ∷ more) from last c h k =
      let p : PlaysOn setting choice more from last = plays_on setting choice more from last h in
      let one : Chooses setting choice from p.next = chooses setting choice from p.next p.first in
      let made : Happens setting choice.side from one.event p.next = choice-happens setting choice from p.next one in
      let sided : HasPlayed choice from p.next = plays-one setting choice from p.next one k.sides in
      all-keep more p.next last (case-next setting choice from p.next c p.first) p.rest
      (record { sides = sided.sides; keeps = next-keeps choice.side from p.next one.event made c k.sides (event-of setting choice from one.event choice.delivers one.has) k.keeps })

  begins-kept : (side : Side) → KeepsSide setting (beginning_of setting) side
  begins-kept sides.Parent = record { handled = tt; names = tt }
  begins-kept sides.Child = record { handled = tt; names = tt }

  state-keeps : (choices : List Choice) (state : RunState) → played setting choices (beginning_of setting) ≡ Some state → KeepsState state
  state-keeps choices state h = all-keep choices (beginning_of setting) state (record { choices = []; plays = refl }) h (record { sides = begin-sides setting; keeps = begins-kept })

  pub case-keeps : (state : RunState) (side : Side) → IsCase setting state → KeepsSide setting state side
  case-keeps state side c = (state-keeps c.choices state c.plays).keeps side

  pub case-side : (state : RunState) (side : Side) → IsCase setting state → (end_of side state.world).side ≡ side
  case-side state side c = side-of state.world side (state-keeps c.choices state c.plays).sides

-- The law of handlers

zip-map : {A B : Type 0} (P Q : A → B → Type 0) (xs : List A) (ys : List B) → ((x : A) (y : B) → P x y → Q x y) → AllZip P xs ys → AllZip Q xs ys
zip-map P Q [] [] f h = tt
zip-map P Q [] (y ∷ ys) f h = h
zip-map P Q (x ∷ xs) [] f h = h
zip-map P Q (x ∷ xs) (y ∷ ys) f h = (f x y h.0, zip-map P Q xs ys f h.1)

pub handled_are_dispatched : HandledAreDispatched
handled_are_dispatched setting choices state sound h side =
    let c : IsCase setting state = record { choices = choices; plays = h } in
    let k : KeepsSide setting state side = case-keeps setting sound state side c in
    record {
      handled = zip-map (IsKept setting side) IsDispatchOf (dispatches (end_of side state.world).stack) (progress_of side state.lines).handled (λ x y kept. kept.dispatch) k.handled;
      dead = λ dead.
          let empty : (end_of side state.world).stack ≡ [] = (case-end setting state side sound c).state.stack dead in
          zip-empty (IsKept setting side) (progress_of side state.lines).handled (subst (λ (xs : List StackEntry). AllZip (IsKept setting side) (dispatches xs) (progress_of side state.lines).handled) empty k.handled);
    }

-- The law of handled requests

pub resolver-is : (n : ℤ) (x : StackEntry) → is_dispatch x.frame ≡ true → x.resolves ≡ true → int_eq (head_of x.frame).seq n ≡ true → has_resolver n x ≡ true
resolver-is n x d r q = ap (λ b. b && (x.resolves && int_eq (head_of x.frame).seq n)) d ∙ ap (λ b. true && (b && int_eq (head_of x.frame).seq n)) r ∙ q

owes-if : (d r s q : Bool) → (d && (r && q)) ≡ true → (d && ((r || s) && q)) ≡ true
owes-if true true s q h = h
owes-if true false s q h = cc
owes-if false r s q h = cc

resolver-owes : (n : ℤ) (x : StackEntry) → has_resolver n x ≡ true → owes_answer n x ≡ true
resolver-owes n x h = owes-if (is_dispatch x.frame) x.resolves (head_of x.frame).sync (int_eq (head_of x.frame).seq n) h

-- the one dispatch that has the resolver of a number is found by it
found-through : (n : ℤ) (x : StackEntry) (before following : List StackEntry) → has_resolver n x ≡ true → how_many (owes_answer n) (before ++ x ∷ following) ≤ 1 → find (has_resolver n) (before ++ x ∷ following) ≡ Some x
found-through n x [] following h few = ap (λ b. cond b (Some x) (find (has_resolver n) following)) h
found-through n x (y ∷ before) following h few = by (has_resolver n y) refl (λ k. found-through n x before following h k)
  where
    by : (b : Bool) → has_resolver n y ≡ b → (how_many (owes_answer n) (before ++ x ∷ following) ≤ 1 → find (has_resolver n) (before ++ x ∷ following) ≡ Some x) → find (has_resolver n) (y ∷ before ++ x ∷ following) ≡ Some x
    by true is rest =
        let one : one_if (owes_answer n y) ≡ 1 = ap one_if (resolver-owes n y is) in
        let two : one_if (owes_answer n x) ≡ 1 = ap one_if (resolver-owes n x h) in
        let split = many-middle (owes_answer n) before x following in
        absurd (omega (arith, few, one, two, split))
    by false is rest = ap (λ b. cond b (Some y) (find (has_resolver n) (before ++ x ∷ following))) is ∙ rest (omega (arith, few))

module _ (setting : Setting) (side : Side) (e : End) (limit : HasLimit setting) (valid : IsValid setting.schema setting.script) (known : IsCaseEnd setting.schema e) where
  stands-one : (x : StackEntry) (request : HandledRequest) (before following : List StackEntry) → e.stack ≡ before ++ x ∷ following → is_dispatch x.frame ≡ true → FitsEntry setting.schema x → IsKept setting side x request → IsHandlerOf setting.schema setting.script side e x request
  stands-one x request before following is dispatch f k =
      let found : request_row setting.schema request.number ≡ Some f.row = subst (λ n. request_row setting.schema n ≡ Some f.row) k.dispatch.1 f.request.found in
      record {
        is_dispatch = k.dispatch;
        row = f.row;
        found = found;
        given = k.given limit f.row found;
        made = k.made limit f.row found;
        route = (f.request.fields Goodbye).route;
        unused = k.unused valid f.row found;
        resolver = λ resolves.
            let h : has_resolver request.seq x ≡ true = resolver-is request.seq x dispatch resolves (ap (λ n. int_eq n request.seq) k.dispatch.0 ∙ int-same request.seq) in
            let few : how_many (owes_answer request.seq) (before ++ x ∷ following) ≤ 1 = subst (λ (xs : List StackEntry). how_many (owes_answer request.seq) xs ≤ 1) is (known.once request.seq) in
            ap (λ (xs : List StackEntry). option_map resolver_in (find (has_resolver request.seq) xs)) is ∙ ap (option_map resolver_in) (found-through request.seq x before following h few);
      }

  pub stand-all : (before xs : List StackEntry) (requests : List HandledRequest) → e.stack ≡ before ++ xs → AllByRecursion (FitsEntry setting.schema) xs → AllZip (IsKept setting side) (dispatches xs) requests → AllZip (IsHandlerOf setting.schema setting.script side e) (dispatches xs) requests
  stand-all before [] requests is f zip = by requests zip
    where
      by : (ys : List HandledRequest) → AllZip (IsKept setting side) [] ys → AllZip (IsHandlerOf setting.schema setting.script side e) [] ys
      by [] h = tt
      by (y ∷ ys) h = h
  stand-all before (x ∷ xs) requests is f zip = by (is_dispatch x.frame) refl requests zip (λ ys k. stand-all (before ++ x ∷ []) xs ys (is ∙ sym (append_assoc before (x ∷ []) xs)) f.1 k)
    where
      by : (d : Bool) → is_dispatch x.frame ≡ d → (ys : List HandledRequest) → AllZip (IsKept setting side) (cond d (x ∷ dispatches xs) (dispatches xs)) ys
          → ((ys : List HandledRequest) → AllZip (IsKept setting side) (dispatches xs) ys → AllZip (IsHandlerOf setting.schema setting.script side e) (dispatches xs) ys)
          → AllZip (IsHandlerOf setting.schema setting.script side e) (cond d (x ∷ dispatches xs) (dispatches xs)) ys
      by true d [] h rest = h
      by true d (y ∷ ys) h rest = (stands-one x y before xs is d f.0 h.0, rest ys h.1)
      by false d ys h rest = rest ys h

pub case-stands : (setting : Setting) (state : RunState) (side : Side) → IsSound setting.schema → IsValid setting.schema setting.script → HasLimit setting → IsCase setting state
    → AllZip (IsHandlerOf setting.schema setting.script side (end_of side state.world)) (dispatches (end_of side state.world).stack) (progress_of side state.lines).handled
case-stands setting state side sound valid limit c =
    let e : End = end_of side state.world in
    stand-all setting side e limit valid (case-end setting state side sound c) [] e.stack (progress_of side state.lines).handled refl (case-fits setting state side sound limit c).end.stack (case-keeps setting sound state side c).handled

pub handlers_stand : HandlersStand
handlers_stand setting choices state sound valid limit h side = case-stands setting state side sound valid limit (record { choices = choices; plays = h })
