-- The handlers that lines show remain those of the stack, as they were taken.
use Rattle.std.proofs.Common.{◌≡◌, inl, inr, ℕ, suc, ◌+◌, ◌≤◌, ℤ, pos, Bool, true, false, ◌==◌, ◌&&◌, ◌||◌, cond, if◌then◌else◌, List, [], ◌∷◌, map, drop, Some, None, option_and_then, refl, sym, ap, subst, ◌∙◌, arith}
use Rattle.std.specs.Prelude.{take}
use Rattle.std.specs.List.{AllByRecursion, AllZip, list_any}
use Rattle.std.specs.Ordering.{int_eq}
use Rattle.std.proofs.lemmas.Bool.{true≢false}
use Rattle.handler_script.specs.declared.action.Action.{Action}
use Rattle.handler_script.specs.declared.action.Action.TheVariants as action
use Rattle.handler_script.specs.Valid.{IsValid, answers_handled}
use Rattle.handler_script.specs.ValueOf.{no_id}
use Rattle.ipdl_base.specs.declared.kinds.Side.{Side}
use Rattle.ipdl_base.specs.declared.line.Line.{Line}
use Rattle.ipdl_base.specs.declared.line.What.{What}
use Rattle.ipdl_base.specs.declared.line.What.TheVariants as what
use Rattle.ipdl_base.specs.declared.schema.Kind.{Kind}
use Rattle.ipdl_base.specs.declared.schema.Kind.TheVariants.{Normal, Constructor, Delete}
use Rattle.ipdl_base.specs.declared.schema.MessageRow.{MessageRow}
use Rattle.ipdl_base.specs.declared.schema.Schema.{Schema}
use Rattle.ipdl_base.specs.declared.value.Values.{Values}
use Rattle.ipdl_base.specs.Sound.{message_of}
use Rattle.nesting_core.specs.declared.frame.Head.{Head}
use Rattle.nesting_core.specs.declared.frame.StackFrame.{StackFrame}
use Rattle.nesting_core.specs.declared.frame.StackFrame.TheVariants.{Dispatch, Wait}
use Rattle.nesting_core.specs.declared.frame.StackTop.TheVariants as top
use Rattle.nesting_core.specs.Frames.{head_of, is_dispatch}
use Rattle.nesting_core.specs.Top.{top_of}
use Rattle.pending_queue.specs.declared.item.Item.TheVariants as item
use Rattle.value_types.specs.Fits.{IsMadeBy, IsRequestOf}
use Rattle.value_types.specs.HasType.{HaveTypes}
use Rattle.channel_model.specs.Answers.{has_resolver, released}
use Rattle.channel_model.specs.Ends.{End, StackEntry}
use Rattle.channel_model.specs.Events.{handled, kept, Event}
use Rattle.channel_model.specs.Events as event
use Rattle.channel_model.specs.Fitting.{IsFitting}
use Rattle.channel_model.specs.Numbers.{makes_promise, request_row}
use Rattle.channel_model.specs.Outputs.{Output}
use Rattle.channel_model.specs.Takes.{dispatch_of}
use Rattle.channel_model.specs.ValueActors.{nulled}
use Rattle.channel_model.proofs.FittingEnds.{taken-fits}
use Rattle.channel_model.proofs.FittingRequests.{request-of}
use Rattle.channel_model.proofs.TypedValues.{nulls_keep_types}
use Rattle.channel_model.proofs.TypesDecided.{decides_types}
use Rattle.channel_laws.specs.AnswersOnce.{owes_answer}
use Rattle.channel_laws.specs.Counts.{how_many, one_if}
use Rattle.channel_laws.proofs.Counting.{none-passes, int-same}
use Rattle.script_steps.specs.Choices.{Setting}
use Rattle.script_steps.specs.NextEvent.{context_of, event_of, handler_action}
use Rattle.script_steps.specs.Progress.{HandledRequest, Progress, after_line, after_lines}
use Rattle.script_steps.proofs.StepLines.{Prints}
use Rattle.script_runs.specs.Dispatches.{dispatches}
use Rattle.script_runs.specs.Handlers.{IsDispatchOf, actions_for, has_answered}
use Rattle.script_runs.specs.Laws.{HasLimit}
use Rattle.script_runs.proofs.CaseRuns.{IsCaseEnd}
use Rattle.script_runs.proofs.Leaves.{NameNoNulls}
use Rattle.script_runs.proofs.NextSteps.{IsNext}
use Rattle.script_runs.proofs.NextSteps as next
use Rattle.script_runs.proofs.Progressing.{effects-stay, acted, act-handled, act-takes, whats-back, first-is}
use Rattle.script_runs.proofs.Shows.{Following, ShowsAct, ShowsPassing, ShowsHandling, Shows, built_lines}
use Rattle.script_runs.proofs.ValidBlocks.{IsHandlerAction, handler-action, action-in, none-more, answering-row}

-- What remains known of a request whose handler runs: its values and what it made, if there is a limit; and its resolver,
-- if the script is valid.
pub record IsKept (setting : Setting) (side : Side) (entry : StackEntry) (request : HandledRequest) : Type 0 where
  pub dispatch : IsDispatchOf entry request
  pub given : HasLimit setting → (row : MessageRow) → request_row setting.schema request.number ≡ Some row → HaveTypes setting.schema row.params request.given
  pub made : HasLimit setting → (row : MessageRow) → request_row setting.schema request.number ≡ Some row → IsMadeBy row.kind request.made
  pub unused : IsValid setting.schema setting.script → (row : MessageRow) → request_row setting.schema request.number ≡ Some row → makes_promise row ≡ true → has_answered setting.script side request ≡ false → entry.resolves ≡ true

-- Stacks, by what is on top

pub record HasDispatchOnTop (stack : List StackEntry) (head : Head) : Type 0 where
  pub entry : StackEntry
  pub below : List StackEntry
  pub is : stack ≡ entry ∷ below
  pub frame : entry.frame ≡ Dispatch head
  pub entries : dispatches stack ≡ entry ∷ dispatches below

dispatch-frame : (x : StackEntry) (xs : List StackEntry) (head : Head) (f : StackFrame) → x.frame ≡ f → top_of (f ∷ map (λ (y : StackEntry). y.frame) xs) ≡ top.Dispatch head → HasDispatchOnTop (x ∷ xs) head
dispatch-frame x xs head (Dispatch own) is h =
    let same : own ≡ head = cc in
    record { entry = x; below = xs; is = refl; frame = is ∙ ap Dispatch same; entries = ap (λ (g : StackFrame). cond (is_dispatch g) (x ∷ dispatches xs) (dispatches xs)) is }
dispatch-frame x xs head (Wait own None) is h = cc
dispatch-frame x xs head (Wait own (Some a)) is h = cc

pub dispatch-top : (stack : List StackEntry) (head : Head) → top_of (map (λ (y : StackEntry). y.frame) stack) ≡ top.Dispatch head → HasDispatchOnTop stack head
dispatch-top [] head h = cc
dispatch-top (x ∷ xs) head h = dispatch-frame x xs head x.frame refl h

answered-frame : (x : StackEntry) (xs : List StackEntry) (head : Head) (f : StackFrame) → x.frame ≡ f → top_of (f ∷ map (λ (y : StackEntry). y.frame) xs) ≡ top.Answered head → dispatches (drop 1 (x ∷ xs)) ≡ dispatches (x ∷ xs)
answered-frame x xs head (Dispatch own) is h = cc
answered-frame x xs head (Wait own None) is h = cc
answered-frame x xs head (Wait own (Some a)) is h = ap (λ (g : StackFrame). cond (is_dispatch g) (x ∷ dispatches xs) (dispatches xs)) (sym is)

answered-top : (stack : List StackEntry) (head : Head) → top_of (map (λ (y : StackEntry). y.frame) stack) ≡ top.Answered head → dispatches (drop 1 stack) ≡ dispatches stack
answered-top [] head h = cc
answered-top (x ∷ xs) head h = answered-frame x xs head x.frame refl h

empty-frame : (f : StackFrame) (fs : List StackFrame) → top_of (f ∷ fs) ≡ top.Empty → ⊥
empty-frame (Dispatch head) fs h = cc
empty-frame (Wait head None) fs h = cc
empty-frame (Wait head (Some a)) fs h = cc

pub empty-top : (stack : List StackEntry) → top_of (map (λ (y : StackEntry). y.frame) stack) ≡ top.Empty → stack ≡ []
empty-top [] h = refl
empty-top (x ∷ xs) h = absurd (empty-frame x.frame (map (λ (y : StackEntry). y.frame) xs) h)

-- Tests

owes-resolver : (d r s q : Bool) → (d && ((r || s) && q)) ≡ false → (d && (r && q)) ≡ false
owes-resolver true true s q h = h
owes-resolver true false s q h = refl
owes-resolver false r s q h = refl

pub owes-all : (d r s q : Bool) → d ≡ true → r ≡ true → q ≡ true → (d && ((r || s) && q)) ≡ true
owes-all true true s true hd hr hq = refl
owes-all true true s false hd hr hq = cc
owes-all true false s q hd hr hq = cc
owes-all false r s q hd hr hq = cc

pub none-owe : (n : ℤ) (xs : List StackEntry) → AllByRecursion (λ x. owes_answer n x ≡ false) xs → AllByRecursion (λ x. has_resolver n x ≡ false) xs
none-owe n [] h = tt
none-owe n (x ∷ xs) h = (owes-resolver (is_dispatch x.frame) x.resolves (head_of x.frame).sync (int_eq (head_of x.frame).seq n) h.0, none-owe n xs h.1)

pub one-left : (n : ℤ) (x : StackEntry) (xs : List StackEntry) → owes_answer n x ≡ true → how_many (owes_answer n) (x ∷ xs) ≤ 1 → how_many (owes_answer n) xs ≡ 0
one-left n x xs h k =
    let z : one_if (owes_answer n x) ≡ 1 = ap one_if h in
    omega (arith, z, k)

-- what is related to an empty list is empty
pub zip-empty : {A B : Type 0} (R : A → B → Type 0) (ys : List B) → AllZip R [] ys → ys ≡ []
zip-empty R [] h = refl
zip-empty R (y ∷ ys) h = absurd h

module _ (setting : Setting) (e : End) (p : Progress) (known : IsCaseEnd setting.schema e) (fits : HasLimit setting → IsFitting setting.schema e) (related : AllZip (IsKept setting e.side) (dispatches e.stack) p.handled) where
  Kept : StackEntry → HandledRequest → Type 0
  Kept = IsKept setting e.side

  -- A step shows by a first line, followed by effects.

  finish : {x : Event} (output : Output) (w : What) (entries : List StackEntry) (hs : List HandledRequest) → Following e w entries output → (pr : Prints e x output) → (after_line p w).handled ≡ hs → (after_line p w).takes ≡ false → AllZip (IsKept setting e.side) entries hs
      → AllZip (IsKept setting e.side) (dispatches output.end.stack) (after_lines p (pr.first ∷ pr.rest)).handled
  finish output w entries hs b pr is none zip =
      let first : pr.first ≡ w = first-is e.side pr.first w pr.rest b.more (sym pr.lines ∙ b.lines) in
      let same : (after_lines p (pr.first ∷ pr.rest)).handled ≡ hs =
      effects-stay (after_line p pr.first) pr.rest pr.effects (ap (λ (v : What). (after_line p v).takes) first ∙ none) ∙ ap (λ (v : What). (after_line p v).handled) first ∙ is
      in
      subst (λ (ys : List HandledRequest). AllZip (IsKept setting e.side) (dispatches output.end.stack) ys) (sym same) (subst (λ (es : List StackEntry). AllZip (IsKept setting e.side) es hs) (sym b.stack) zip)

  finish-act : {x : Event} (output : Output) (entries : List StackEntry) → ShowsAct e entries output → (pr : Prints e x output) → AllZip (IsKept setting e.side) entries (acted p.handled)
      → AllZip (IsKept setting e.side) (dispatches output.end.stack) (after_lines p (pr.first ∷ pr.rest)).handled
  finish-act output entries s pr zip = finish output s.0 entries (acted p.handled) s.2 pr (act-handled p s.0 s.1) (act-takes p s.0 s.1) zip

  finish-passing : {x : Event} (output : Output) (entries : List StackEntry) → ShowsPassing e entries output → (pr : Prints e x output) → AllZip (IsKept setting e.side) entries p.handled
      → AllZip (IsKept setting e.side) (dispatches output.end.stack) (after_lines p (pr.first ∷ pr.rest)).handled
  finish-passing output entries s pr zip = finish output s.0 entries p.handled s.2 pr (s.1 p).0 (s.1 p).1 zip

  -- Acts of handlers

  plus-one : (n : ℕ) → n + 1 ≡ suc n
  plus-one n = omega arith

  more-answered : (request : HandledRequest) (a : Action) → handler_action setting.script e.side request ≡ Some a → has_answered setting.script e.side (record request { acts = request.acts + 1 }) ≡ false
      → (has_answered setting.script e.side request ≡ false) × (answers_handled a ≡ false)
  more-answered request a is h =
      none-more answers_handled (actions_for setting.script e.side request) request.acts a (action-in setting.script e.side request a is)
      (ap (λ n. list_any answers_handled (take n (actions_for setting.script e.side request))) (sym (plus-one request.acts)) ∙ h)

  -- an act that does not answer changes nothing
  acts-silent : (entry : StackEntry) (request : HandledRequest) (a : Action) → handler_action setting.script e.side request ≡ Some a → IsKept setting e.side entry request → IsKept setting e.side entry (record request { acts = request.acts + 1 })
  acts-silent entry request a is k = record { dispatch = k.dispatch; given = k.given; made = k.made; unused = λ v row found promises h. k.unused v row found promises (more-answered request a is h).0 }

  -- an act that answers may use the resolver
  acts-answering : (b : Bool) (entry : StackEntry) (request : HandledRequest) (a : Action) → handler_action setting.script e.side request ≡ Some a → answers_handled a ≡ true → IsKept setting e.side entry request
      → IsKept setting e.side (if b then record entry { resolves = false } else entry) (record request { acts = request.acts + 1 })
  acts-answering true entry request a is answers k = record { dispatch = k.dispatch; given = k.given; made = k.made; unused = λ v row found promises h. absurd (true≢false (sym answers ∙ (more-answered request a is h).1)) }
  acts-answering false entry request a is answers k = record { dispatch = k.dispatch; given = k.given; made = k.made; unused = λ v row found promises h. absurd (true≢false (sym answers ∙ (more-answered request a is h).1)) }

  -- the resolver of another request is not touched
  kept-released : (b : Bool) (seq : ℤ) (x : StackEntry) (request : HandledRequest) → has_resolver seq x ≡ b → (IsValid setting.schema setting.script → has_resolver seq x ≡ false) → IsKept setting e.side x request → IsKept setting e.side (if b then record x { resolves = false } else x) request
  kept-released true seq x request is none k = record { dispatch = k.dispatch; given = k.given; made = k.made; unused = λ v row found promises h. absurd (true≢false (sym is ∙ none v)) }
  kept-released false seq x request is none k = k

  released-frame : (b : Bool) (x : StackEntry) (xs : List StackEntry) (d : Bool) → is_dispatch x.frame ≡ d → dispatches ((if b then record x { resolves = false } else x) ∷ xs) ≡ cond d ((if b then record x { resolves = false } else x) ∷ dispatches xs) (dispatches xs)
  released-frame true x xs d is = ap (λ c. cond c (record x { resolves = false } ∷ dispatches xs) (dispatches xs)) is
  released-frame false x xs d is = ap (λ c. cond c (x ∷ dispatches xs) (dispatches xs)) is

  released-zip : (seq : ℤ) (xs : List StackEntry) (hs : List HandledRequest) → (IsValid setting.schema setting.script → AllByRecursion (λ x. has_resolver seq x ≡ false) xs) → AllZip (IsKept setting e.side) (dispatches xs) hs → AllZip (IsKept setting e.side) (dispatches (released seq xs)) hs
  released-zip seq [] hs none zip = zip
  released-zip seq (x ∷ xs) hs none zip = by (is_dispatch x.frame) refl hs zip (λ rest k. released-zip seq xs rest (λ v. (none v).1) k)
    where
      new : StackEntry
      new = if has_resolver seq x then record x { resolves = false } else x

      by : (d : Bool) → is_dispatch x.frame ≡ d → (rest : List HandledRequest) → AllZip (IsKept setting e.side) (cond d (x ∷ dispatches xs) (dispatches xs)) rest
          → ((rest : List HandledRequest) → AllZip (IsKept setting e.side) (dispatches xs) rest → AllZip (IsKept setting e.side) (dispatches (released seq xs)) rest) → AllZip (IsKept setting e.side) (dispatches (new ∷ released seq xs)) rest
      by true is [] k rec = absurd k
      by true is (r ∷ rs) k rec =
          subst (λ (es : List StackEntry). AllZip (IsKept setting e.side) es (r ∷ rs)) (sym (released-frame (has_resolver seq x) x (released seq xs) true is)) (kept-released (has_resolver seq x) seq x r refl (λ v. (none v).0) k.0, rec rs k.1)
      by false is rest k rec = subst (λ (es : List StackEntry). AllZip (IsKept setting e.side) es rest) (sym (released-frame (has_resolver seq x) x (released seq xs) false is)) (rec rest k)

  module _ (head : Head) (request : HandledRequest) (rest : List HandledRequest) (t : HasDispatchOnTop e.stack head) (is : p.handled ≡ request ∷ rest) (a : Action) (found : handler_action setting.script e.side request ≡ Some a) where
    on-top : AllZip (IsKept setting e.side) (t.entry ∷ dispatches t.below) (request ∷ rest)
    on-top = subst (λ (hs : List HandledRequest). AllZip (IsKept setting e.side) (t.entry ∷ dispatches t.below) hs) is (subst (λ (es : List StackEntry). AllZip (IsKept setting e.side) es p.handled) t.entries related)

    silent-zip : AllZip (IsKept setting e.side) (dispatches e.stack) (acted p.handled)
    silent-zip =
        subst (λ (es : List StackEntry). AllZip (IsKept setting e.side) es (acted p.handled)) (sym t.entries)
        (subst (λ (hs : List HandledRequest). AllZip (IsKept setting e.side) (t.entry ∷ dispatches t.below) (acted hs)) (sym is) (acts-silent t.entry request a found on-top.0, on-top.1))

    owes-it : answers_handled a ≡ true → IsValid setting.schema setting.script → owes_answer request.seq t.entry ≡ true
    owes-it answers v =
        let h : IsHandlerAction setting.schema setting.script e.side request a = handler-action setting.schema setting.script e.side request a v found in
        owes-all (is_dispatch t.entry.frame) t.entry.resolves (head_of t.entry.frame).sync (int_eq (head_of t.entry.frame).seq request.seq) (ap is_dispatch t.frame)
        (on-top.0.unused v h.row h.found (answering-row setting.schema e.side h.row a answers h.valid) (h.once answers))
        (ap (λ n. int_eq n request.seq) on-top.0.dispatch.0 ∙ int-same request.seq)

    none-below : answers_handled a ≡ true → IsValid setting.schema setting.script → AllByRecursion (λ x. has_resolver request.seq x ≡ false) t.below
    none-below answers v =
        none-owe request.seq t.below
        (none-passes (owes_answer request.seq) t.below (one-left request.seq t.entry t.below (owes-it answers v) (subst (λ (xs : List StackEntry). how_many (owes_answer request.seq) xs ≤ 1) t.is (known.once request.seq))))

    answering-zip : answers_handled a ≡ true → AllZip (IsKept setting e.side) (dispatches (released request.seq e.stack)) (acted p.handled)
    answering-zip answers =
        let b : Bool = has_resolver request.seq t.entry in
        subst (λ (xs : List StackEntry). AllZip (IsKept setting e.side) (dispatches (released request.seq xs)) (acted p.handled)) (sym t.is)
        (subst (λ (es : List StackEntry). AllZip (IsKept setting e.side) es (acted p.handled)) (sym (released-frame b t.entry (released request.seq t.below) true (ap is_dispatch t.frame)))
        (subst (λ (hs : List HandledRequest). AllZip (IsKept setting e.side) ((if b then record t.entry { resolves = false } else t.entry) ∷ dispatches (released request.seq t.below)) (acted hs)) (sym is)
        (acts-answering b t.entry request a found answers on-top.0, released-zip request.seq t.below rest (none-below answers) on-top.1)))

    handler-acts : (output : Output) (pr : Prints e (event_of (context_of e (request ∷ rest)) request.seq a) output) → Shows setting.schema e (event_of (context_of e (request ∷ rest)) request.seq a) output
        → AllZip (IsKept setting e.side) (dispatches output.end.stack) (after_lines p (pr.first ∷ pr.rest)).handled
    handler-acts output pr shows = by a refl output pr shows
      where
        by : (b : Action) → a ≡ b → (output : Output) (pr : Prints e (event_of (context_of e (request ∷ rest)) request.seq b) output) → Shows setting.schema e (event_of (context_of e (request ∷ rest)) request.seq b) output
            → AllZip (IsKept setting e.side) (dispatches output.end.stack) (after_lines p (pr.first ∷ pr.rest)).handled
        by (action.Send who number terms) same output pr shows = finish-act output (dispatches e.stack) shows pr silent-zip
        by (action.New name who number terms) same output pr shows = finish-act output (dispatches e.stack) shows pr silent-zip
        by (action.Let name who) same output pr shows = finish-act output (dispatches e.stack) shows pr silent-zip
        by (action.Resolve terms) same output pr (inl shows) = finish-act output (dispatches e.stack) shows pr silent-zip
        by (action.Resolve terms) same output pr (inr shows) = finish-act output (dispatches (released request.seq e.stack)) shows pr (answering-zip (ap answers_handled same))
        by action.Reject same output pr (inl shows) = finish-act output (dispatches e.stack) shows pr silent-zip
        by action.Reject same output pr (inr shows) = finish-act output (dispatches (released request.seq e.stack)) shows pr (answering-zip (ap answers_handled same))
        by (action.Keep name) same output pr shows = finish-act output (dispatches (released request.seq e.stack)) shows pr (answering-zip (ap answers_handled same))
        by (action.ResolveNamed name number terms) same output pr shows = finish-act output (dispatches e.stack) shows pr silent-zip
        by (action.RejectNamed name number) same output pr shows = finish-act output (dispatches e.stack) shows pr silent-zip
        by action.Close same output pr shows = finish-act output (dispatches e.stack) shows pr silent-zip
        by action.Die same output pr shows = finish output what.Die [] [] shows pr refl refl tt

  -- Acts of a main, during which nothing is handled

  none-handled : e.stack ≡ [] → p.handled ≡ []
  none-handled is = zip-empty (IsKept setting e.side) p.handled (subst (λ (xs : List StackEntry). AllZip (IsKept setting e.side) (dispatches xs) p.handled) is related)

  main-zip : (f : List StackEntry → List StackEntry) → f [] ≡ [] → e.stack ≡ [] → AllZip (IsKept setting e.side) (dispatches (f e.stack)) (acted p.handled)
  main-zip f none is =
      subst (λ (hs : List HandledRequest). AllZip (IsKept setting e.side) (dispatches (f e.stack)) (acted hs)) (sym (none-handled is))
      (subst (λ (xs : List StackEntry). AllZip (IsKept setting e.side) (dispatches (f xs)) []) (sym is) (subst (λ (xs : List StackEntry). AllZip (IsKept setting e.side) (dispatches xs) []) (sym none) tt))

  main-acts : (a : Action) → e.stack ≡ [] → (output : Output) (pr : Prints e (event_of (context_of e []) no_id a) output) → Shows setting.schema e (event_of (context_of e []) no_id a) output
      → AllZip (IsKept setting e.side) (dispatches output.end.stack) (after_lines p (pr.first ∷ pr.rest)).handled
  main-acts (action.Send who number terms) is output pr shows = finish-act output (dispatches e.stack) shows pr (main-zip (λ xs. xs) refl is)
  main-acts (action.New name who number terms) is output pr shows = finish-act output (dispatches e.stack) shows pr (main-zip (λ xs. xs) refl is)
  main-acts (action.Let name who) is output pr shows = finish-act output (dispatches e.stack) shows pr (main-zip (λ xs. xs) refl is)
  main-acts (action.Resolve terms) is output pr (inl shows) = finish-act output (dispatches e.stack) shows pr (main-zip (λ xs. xs) refl is)
  main-acts (action.Resolve terms) is output pr (inr shows) = finish-act output (dispatches (released no_id e.stack)) shows pr (main-zip (released no_id) refl is)
  main-acts action.Reject is output pr (inl shows) = finish-act output (dispatches e.stack) shows pr (main-zip (λ xs. xs) refl is)
  main-acts action.Reject is output pr (inr shows) = finish-act output (dispatches (released no_id e.stack)) shows pr (main-zip (released no_id) refl is)
  main-acts (action.Keep name) is output pr shows = finish-act output (dispatches (released no_id e.stack)) shows pr (main-zip (released no_id) refl is)
  main-acts (action.ResolveNamed name number terms) is output pr shows = finish-act output (dispatches e.stack) shows pr (main-zip (λ xs. xs) refl is)
  main-acts (action.RejectNamed name number) is output pr shows = finish-act output (dispatches e.stack) shows pr (main-zip (λ xs. xs) refl is)
  main-acts action.Close is output pr shows = finish-act output (dispatches e.stack) shows pr (main-zip (λ xs. xs) refl is)
  main-acts action.Die is output pr shows = finish output what.Die [] [] shows pr refl refl tt

  -- Requests that are taken

  row-is : (number : ℕ) (row other : MessageRow) → message_of setting.schema number ≡ Some row → request_row setting.schema number ≡ Some other → row ≡ other
  row-is number row other found h = by (row.number == number) (sym (ap (option_and_then (λ (r : MessageRow). if r.number == number then Some r else None)) found) ∙ h)
    where
      by : (b : Bool) → (if b then Some row else None) ≡ Some other → row ≡ other
      by true k = cc
      by false k = cc

  module _ {output : Output} (sh : ShowsHandling setting.schema e output) where
    taken-request : HasLimit setting → IsRequestOf setting.schema sh.row sh.m sh.vs
    taken-request limit = request-of setting.schema sh.row sh.m sh.vs (taken-fits setting.schema e (item.Message sh.m sh.sync sh.level) (fits limit) sh.next).0 sh.body sh.found

    abbrev given-values : Values
    given-values = nulled setting.schema e.actors sh.row.params sh.vs

    given-typed : HasLimit setting → HaveTypes setting.schema sh.row.params given-values
    given-typed limit =
        (decides_types.values setting.schema sh.row.params given-values).0
        (nulls_keep_types.taken setting.schema e.actors sh.row.params sh.vs ∙ (decides_types.values setting.schema sh.row.params sh.vs).1 (taken-request limit).types)

    -- the request as it is taken, with the id of the actor that it made
    kept-taken : (block : ℕ) (made : ℤ) → (HasLimit setting → IsMadeBy sh.row.kind made)
        → IsKept setting e.side (dispatch_of sh.row sh.m) (record { seq = sh.m.seq; number = sh.m.number; block = block; acts = 0; given = given-values; made = made })
    kept-taken block made is_made = record {
      dispatch = (refl, refl);
      given = λ limit row found. subst (λ (r : MessageRow). HaveTypes setting.schema r.params given-values) (row-is sh.m.number sh.row row sh.found found) (given-typed limit);
      made = λ limit row found. subst (λ (r : MessageRow). IsMadeBy r.kind made) (row-is sh.m.number sh.row row sh.found found) (is_made limit);
      unused = λ v row found promises h. subst (λ (r : MessageRow). makes_promise r ≡ true) (sym (row-is sh.m.number sh.row row sh.found found)) promises;
    }

    taken-zip : (kind : Kind) → sh.row.kind ≡ kind → AllZip (IsKept setting e.side) (dispatch_of sh.row sh.m ∷ dispatches e.stack) (after_lines p (what.Take sh.m.seq sh.m.route sh.m.number given-values ∷ built_lines sh.m.made kind)).handled
    taken-zip Normal is = (kept-taken _ (pos 0) (λ limit. subst (λ (k : Kind). IsMadeBy k (pos 0)) (sym is) refl), related)
    taken-zip (Constructor protocol) is = (kept-taken _ sh.m.made (λ limit. (taken-request limit).made), related)
    taken-zip Delete is = (kept-taken _ (pos 0) (λ limit. subst (λ (k : Kind). IsMadeBy k (pos 0)) (sym is) refl), related)

    handling-kept : {x : Event} (pr : Prints e x output) → AllZip (IsKept setting e.side) (dispatches output.end.stack) (after_lines p (pr.first ∷ pr.rest)).handled
    handling-kept pr =
        let lines : List What = what.Take sh.m.seq sh.m.route sh.m.number given-values ∷ built_lines sh.m.made sh.row.kind in
        let same : pr.first ∷ pr.rest ≡ lines = sym (whats-back e.side (pr.first ∷ pr.rest)) ∙ ap (map (λ (line : Line). line.what)) (sym pr.lines ∙ sh.lines) ∙ whats-back e.side lines in
        subst (λ (ws : List What). AllZip (IsKept setting e.side) (dispatches output.end.stack) (after_lines p ws).handled) (sym same)
        (subst (λ (es : List StackEntry). AllZip (IsKept setting e.side) es (after_lines p lines).handled) (sym sh.stack) (taken-zip sh.row.kind refl))

  -- All steps

  zip-drop : {A B : Type 0} (R : A → B → Type 0) (x : A) (xs : List A) (ys : List B) → AllZip R (x ∷ xs) ys → AllZip R xs (drop 1 ys)
  zip-drop R x xs [] h = absurd h
  zip-drop R x xs (y ∷ ys) h = h.1

  return-zip : (head : Head) → HasDispatchOnTop e.stack head → AllZip (IsKept setting e.side) (dispatches (drop 1 e.stack)) (drop 1 p.handled)
  return-zip head t =
      subst (λ (xs : List StackEntry). AllZip (IsKept setting e.side) (dispatches (drop 1 xs)) (drop 1 p.handled)) (sym t.is)
      (zip-drop (IsKept setting e.side) t.entry (dispatches t.below) p.handled (subst (λ (es : List StackEntry). AllZip (IsKept setting e.side) es p.handled) t.entries related))

  pub next-kept : (x : Event) (output : Output) → IsNext setting.script e p x → Shows setting.schema e x output → (pr : Prints e x output) → AllZip (IsKept setting e.side) (dispatches output.end.stack) (after_lines p (pr.first ∷ pr.rest)).handled
  next-kept _ output next.stops shows pr = finish output what.Die [] [] shows pr refl refl tt
  next-kept _ output (next.acts head request below a on_top is found) shows pr = handler-acts head request below (dispatch-top e.stack head on_top) is a found output pr shows
  next-kept _ output (next.returns head request below on_top is) shows pr = finish output (what.Return shows.0) (dispatches (drop 1 e.stack)) (drop 1 p.handled) shows.1 pr refl refl (return-zip head (dispatch-top e.stack head on_top))
  next-kept _ output (next.returns_none head on_top) shows pr = finish output (what.Return shows.0) (dispatches (drop 1 e.stack)) (drop 1 p.handled) shows.1 pr refl refl (return-zip head (dispatch-top e.stack head on_top))
  next-kept _ output (next.takes some) (inl shows) pr = finish-passing output (dispatches e.stack) shows.0 pr related
  next-kept _ output (next.takes some) (inr shows) pr = handling-kept shows pr
  next-kept _ output (next.acts_in_main a on_top opened is) shows pr = main-acts a (empty-top e.stack on_top) output pr shows
  next-kept _ output (next.resumes head on_top) shows pr = finish-passing output (dispatches (drop 1 e.stack)) shows pr (subst (λ (es : List StackEntry). AllZip (IsKept setting e.side) es p.handled) (sym (answered-top e.stack head on_top)) related)
  next-kept _ output (next.flushes may) shows pr = finish-passing output (dispatches e.stack) shows pr related

  pub delivery-kept : (output : Output) → Shows setting.schema e event.deliver output → (pr : Prints e event.deliver output) → AllZip (IsKept setting e.side) (dispatches output.end.stack) (after_lines p (pr.first ∷ pr.rest)).handled
  delivery-kept output shows pr = finish-passing output (dispatches e.stack) shows pr related

-- no name is bound to null after a step
pub names-kept : (schema : Schema) (e : End) (x : Event) (output : Output) → Shows schema e x output → NameNoNulls e → NameNoNulls output.end
names-kept schema e (event.send route number vs name) output shows n = shows.2.names n
names-kept schema e (event.answer (handled seq) vs) output (inl shows) n = shows.2.names n
names-kept schema e (event.answer (handled seq) vs) output (inr shows) n = shows.2.names n
names-kept schema e (event.answer (kept name number) vs) output shows n = shows.2.names n
names-kept schema e (event.keep seq name) output shows n = shows.2.names n
names-kept schema e (event.name name id) output shows n = shows.2.names n
names-kept schema e event.close output shows n = shows.2.names n
names-kept schema e event.die output shows n = shows.names n
names-kept schema e event.deliver output shows n = shows.2.names n
names-kept schema e event.take output (inl shows) n = shows.0.2.names n
names-kept schema e event.take output (inr shows) n = shows.names n
names-kept schema e (event.return vs) output shows n = shows.1.names n
names-kept schema e event.resume output shows n = shows.2.names n
names-kept schema e event.flush output shows n = shows.2.names n
