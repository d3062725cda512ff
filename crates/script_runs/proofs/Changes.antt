-- Which dispatches an end has after a step, and that no two of them have the resolver of one request.
use Rattle.std.proofs.Common.{◌≡◌, inl, inr, ◌≤◌, ℤ, Bool, true, false, not, cond, if◌then◌else◌, List, [], ◌∷◌, drop, Option, Some, None, option_and_then, refl, sym, ap, subst, ◌∙◌, arith}
use Rattle.std.specs.List.{AllByRecursion, cons_option}
use Rattle.std.specs.Option.{option_map_or}
use Rattle.std.specs.Ordering.{int_eq}
use Rattle.ipdl_base.specs.declared.kinds.SendRefusal.{SendRefusal}
use Rattle.ipdl_base.specs.declared.kinds.SendRefusal.TheVariants as refusal
use Rattle.ipdl_base.specs.declared.schema.MessageRow.{MessageRow}
use Rattle.ipdl_base.specs.declared.schema.Schema.{Schema}
use Rattle.ipdl_base.specs.declared.value.Values.{Values}
use Rattle.nesting_core.specs.declared.frame.StackFrame.{StackFrame}
use Rattle.nesting_core.specs.declared.frame.StackFrame.TheVariants.{Dispatch, Wait}
use Rattle.nesting_core.specs.Frames.{head_of, is_dispatch}
use Rattle.channel_model.specs.Answers as answering
use Rattle.channel_model.specs.Answers.{has_resolver, released}
use Rattle.channel_model.specs.Ends.{End, StackEntry, Resolver, end_of}
use Rattle.channel_model.specs.Events.{Answering, Event, handled, kept}
use Rattle.channel_model.specs.Events as event
use Rattle.channel_model.specs.Numbers.{request_row}
use Rattle.channel_model.specs.Outputs.{Output, beginning, is_open}
use Rattle.channel_model.specs.Returns as returns
use Rattle.channel_model.specs.Steps.{provided}
use Rattle.channel_model.proofs.Provided.{provided-gives, found-gives}
use Rattle.channel_laws.specs.AnswersOnce.{owes_answer}
use Rattle.channel_laws.specs.Counts.{how_many}
use Rattle.channel_laws.proofs.Answering.{filter-fewer}
use Rattle.channel_laws.proofs.Counting.{none-passes, int-same}
use Rattle.script_runs.specs.Dispatches.{dispatches, dispatches_after}
use Rattle.script_runs.specs.Laws.{StepsChangeDispatches, ResolversAreApart}
use Rattle.script_runs.proofs.CaseRuns.{IsCaseEnd, case-end}
use Rattle.script_runs.proofs.Handlers.{none-owe, owes-all, one-left}
use Rattle.script_runs.proofs.KeptRuns.{resolver-is}
use Rattle.script_runs.proofs.Shows.{ShowsAct, TakeShows, taken_dispatch, step-shows}

-- Resolvers that are used

released-one : (b d : Bool) (x : StackEntry) (xs : List StackEntry) → is_dispatch x.frame ≡ d → dispatches ((if b then record x { resolves = false } else x) ∷ xs) ≡ cond d ((if b then record x { resolves = false } else x) ∷ dispatches xs) (dispatches xs)
released-one true d x xs is = ap (λ c. cond c (record x { resolves = false } ∷ dispatches xs) (dispatches xs)) is
released-one false d x xs is = ap (λ c. cond c (x ∷ dispatches xs) (dispatches xs)) is

released-dispatches : (seq : ℤ) (xs : List StackEntry) → dispatches (released seq xs) ≡ released seq (dispatches xs)
released-dispatches seq [] = refl
released-dispatches seq (x ∷ xs) = released-one (has_resolver seq x) (is_dispatch x.frame) x (released seq xs) refl ∙ by (is_dispatch x.frame) (released-dispatches seq xs)
  where
    by : (d : Bool) → dispatches (released seq xs) ≡ released seq (dispatches xs)
        → cond d ((if has_resolver seq x then record x { resolves = false } else x) ∷ dispatches (released seq xs)) (dispatches (released seq xs)) ≡ released seq (cond d (x ∷ dispatches xs) (dispatches xs))
    by true rec = ap (λ ys. (if has_resolver seq x then record x { resolves = false } else x) ∷ ys) rec
    by false rec = rec

-- an answer by the resolver of a handler, refused or not
answer-changes : (e : End) (seq : ℤ) (vs : Option Values) (r : Option Resolver) (cause : Option SendRefusal) → (r ≡ None → cause ≡ None → ⊥)
    → dispatches (answering.answered_unless cause (handled seq) vs r (beginning e)).end.stack ≡ option_map_or (λ c. dispatches e.stack) cause (released seq (dispatches e.stack))
answer-changes e seq vs r (Some cause) some = refl
answer-changes e seq vs None None some = absurd (some refl refl)
answer-changes e seq vs (Some r) None some = released-dispatches seq e.stack

refused-none : (schema : Schema) (e : End) (row : MessageRow) (seq : ℤ) (vs : Option Values) → answering.resolver_used e (handled seq) ≡ None → answering.answer_refusal schema e row (handled seq) vs ≡ None → ⊥
refused-none schema e row seq vs none h = by (is_open e.state) (ap (λ (r : Option Resolver). if not (is_open e.state) then Some refusal.Closed else answering.resolver_refusal schema e row vs r) (sym none) ∙ h)
  where
    by : (b : Bool) → (if not b then Some refusal.Closed else Some refusal.DeadActor) ≡ None → ⊥
    by true k = cc
    by false k = cc

-- What is on top

frame-drops : (x : StackEntry) (xs : List StackEntry) (entry : StackEntry) (f : StackFrame) → x.frame ≡ f → returns.dispatch_on_top (record x { frame = f } ∷ xs) ≡ Some entry → dispatches xs ≡ drop 1 (dispatches (x ∷ xs))
frame-drops x xs entry (Dispatch head) is h = ap (λ (g : StackFrame). drop 1 (dispatches (record x { frame = g } ∷ xs))) (sym is)
frame-drops x xs entry (Wait head a) is h = cc

top-drops : (stack : List StackEntry) (entry : StackEntry) → returns.dispatch_on_top stack ≡ Some entry → dispatches (drop 1 stack) ≡ drop 1 (dispatches stack)
top-drops [] entry h = cc
top-drops (x ∷ xs) entry h = frame-drops x xs entry x.frame refl h

frame-waits : (x : StackEntry) (xs : List StackEntry) (wait : returns.AnsweredWait) (f : StackFrame) → x.frame ≡ f → returns.answered_wait_on_top (record x { frame = f } ∷ xs) ≡ Some wait → dispatches xs ≡ dispatches (x ∷ xs)
frame-waits x xs wait (Dispatch head) is h = cc
frame-waits x xs wait (Wait head a) is h = ap (λ (g : StackFrame). dispatches (record x { frame = g } ∷ xs)) (sym is)

wait-drops : (stack : List StackEntry) (wait : returns.AnsweredWait) → returns.answered_wait_on_top stack ≡ Some wait → dispatches (drop 1 stack) ≡ dispatches stack
wait-drops [] wait h = cc
wait-drops (x ∷ xs) wait h = frame-waits x xs wait x.frame refl h

-- Steps

shown-act : (e : End) (entries : List StackEntry) (output : Output) → ShowsAct e entries output → dispatches output.end.stack ≡ entries
shown-act e entries output shows = shows.2.stack

pub steps_change_dispatches : StepsChangeDispatches
steps_change_dispatches schema e link (event.send route number vs name) output is = shown-act e (dispatches e.stack) output (step-shows schema e link (event.send route number vs name) output is)
steps_change_dispatches schema e link (event.answer (handled seq) vs) output is =
    let by : Answering = handled seq in
    let P : Output → Type 0 = λ o. dispatches o.end.stack ≡ dispatches_after schema e (event.answer (handled seq) vs) in
    found-gives P (answering.answered_row schema e by) (λ row. provided (answering.may_answer schema e row vs) (answering.answer schema e row by vs) e) output
    (λ row found h.
    provided-gives P (answering.may_answer schema e row vs) (answering.answer schema e row by vs) e output
    (λ may.
    answer-changes e seq vs (answering.resolver_used e by) (answering.answer_refusal schema e row by vs) (refused-none schema e row seq vs)
    ∙ ap (λ o. option_map_or (λ cause. dispatches e.stack) (option_and_then (λ row. answering.answer_refusal schema e row by vs) o) (released seq (dispatches e.stack))) (sym found)) h) is
steps_change_dispatches schema e link (event.answer (kept name number) vs) output is = shown-act e (dispatches e.stack) output (step-shows schema e link (event.answer (kept name number) vs) output is)
steps_change_dispatches schema e link (event.keep seq name) output is = shown-act e (dispatches (released seq e.stack)) output (step-shows schema e link (event.keep seq name) output is) ∙ released-dispatches seq e.stack
steps_change_dispatches schema e link (event.name name id) output is = shown-act e (dispatches e.stack) output (step-shows schema e link (event.name name id) output is)
steps_change_dispatches schema e link event.close output is = shown-act e (dispatches e.stack) output (step-shows schema e link event.close output is)
steps_change_dispatches schema e link event.die output is = (step-shows schema e link event.die output is).stack
steps_change_dispatches schema e link event.deliver output is = (step-shows schema e link event.deliver output is).2.stack
steps_change_dispatches schema e link event.take output is = by (step-shows schema e link event.take output is)
  where
    by : TakeShows schema e output → dispatches output.end.stack ≡ cons_option (taken_dispatch schema e) (dispatches e.stack)
    by (inl shows) = shows.0.2.stack ∙ ap (λ o. cons_option o (dispatches e.stack)) (sym shows.1)
    by (inr shows) = shows.stack ∙ ap (λ o. cons_option o (dispatches e.stack)) (sym shows.adds)
steps_change_dispatches schema e link (event.return vs) output is =
    let Q : Output → Type 0 = λ o. dispatches (drop 1 e.stack) ≡ drop 1 (dispatches e.stack) in
    (step-shows schema e link (event.return vs) output is).1.stack
    ∙ found-gives Q (returns.dispatch_on_top e.stack) (λ entry. option_and_then (λ row. provided (returns.may_return schema row vs) (returns.return schema e row entry vs) e) (request_row schema entry.number)) output (λ entry on_top h. top-drops e.stack entry on_top) is
steps_change_dispatches schema e link event.resume output is =
    let Q : Output → Type 0 = λ o. dispatches (drop 1 e.stack) ≡ dispatches e.stack in
    (step-shows schema e link event.resume output is).2.stack
    ∙ found-gives Q (returns.answered_wait_on_top e.stack) (λ wait. option_and_then (λ row. provided true (returns.resume schema e wait row) e) (request_row schema wait.number)) output (λ wait on_top h. wait-drops e.stack wait on_top) is
steps_change_dispatches schema e link event.flush output is = (step-shows schema e link event.flush output is).2.stack

-- Resolvers

released-same : (n : ℤ) (xs : List StackEntry) → AllByRecursion (λ x. has_resolver n x ≡ false) xs → released n xs ≡ xs
released-same n [] h = refl
released-same n (x ∷ xs) h = ap (λ b. (if b then record x { resolves = false } else x) ∷ released n xs) h.0 ∙ ap (λ ys. x ∷ ys) (released-same n xs h.1)

-- the first of the dispatches is one
first-dispatch : (xs : List StackEntry) (top : StackEntry) (below : List StackEntry) → dispatches xs ≡ top ∷ below → is_dispatch top.frame ≡ true
first-dispatch [] top below h = cc
first-dispatch (x ∷ xs) top below h = by (is_dispatch x.frame) refl h (λ k. first-dispatch xs top below k)
  where
    by : (d : Bool) → is_dispatch x.frame ≡ d → cond d (x ∷ dispatches xs) (dispatches xs) ≡ top ∷ below → (dispatches xs ≡ top ∷ below → is_dispatch top.frame ≡ true) → is_dispatch top.frame ≡ true
    by true is k rest = let same : x ≡ top = cc in ap (λ (y : StackEntry). is_dispatch y.frame) (sym same) ∙ is
    by false is k rest = rest k

-- at an end that answers each request once
pub end-apart : (schema : Schema) (e : End) → IsCaseEnd schema e → (top : StackEntry) (below : List StackEntry) → dispatches e.stack ≡ top ∷ below → top.resolves ≡ true → released (head_of top.frame).seq (top ∷ below) ≡ record top { resolves = false } ∷ below
end-apart schema e known top below is resolves =
    let n : ℤ = (head_of top.frame).seq in
    let owes : owes_answer n top ≡ true = owes-all (is_dispatch top.frame) top.resolves (head_of top.frame).sync (int_eq (head_of top.frame).seq n) (first-dispatch e.stack top below is) resolves (int-same n) in
    let once : how_many (owes_answer n) e.stack ≤ 1 = known.once n in
    let fewer : how_many (owes_answer n) (dispatches e.stack) ≤ how_many (owes_answer n) e.stack = filter-fewer (owes_answer n) (λ entry. is_dispatch entry.frame) e.stack in
    let few : how_many (owes_answer n) (top ∷ below) ≤ 1 = subst (λ (xs : List StackEntry). how_many (owes_answer n) xs ≤ 1) is (omega (arith, once, fewer)) in
    let there : has_resolver n top ≡ true = resolver-is n top (first-dispatch e.stack top below is) resolves (int-same n) in
    ap (λ b. (if b then record top { resolves = false } else top) ∷ released n below) there
    ∙ ap (λ xs. record top { resolves = false } ∷ xs) (released-same n below (none-owe n below (none-passes (owes_answer n) below (one-left n top below owes few))))

pub resolvers_are_apart : ResolversAreApart
resolvers_are_apart setting choices state sound h side top below is resolves =
    end-apart setting.schema (end_of side state.world) (case-end setting state side sound (record { choices = choices; plays = h })) top below is resolves
