-- The weights of lists of packets, items, frames and names.
use Rattle.std.proofs.Common.{◌≡◌, ℕ, ◌+◌, ◌*◌, ◌≤◌, ℤ, Bool, true, false, not, ◌&&◌, cond, int_eq, List, [], ◌∷◌, ◌++◌, drop, find, filter, length, map, Option, Some, None, option_map, refl, sym, ap, ◌∙◌, arith}
use Rattle.std.specs.List.{AllByRecursion}
use Rattle.std.proofs.lemmas.Option.{same_Some}
use Rattle.ipdl_base.specs.declared.message.Body.{Body}
use Rattle.ipdl_base.specs.declared.message.Body.TheVariants.{Request, Reply, Fault, Goodbye}
use Rattle.ipdl_base.specs.declared.message.Message.{Message}
use Rattle.ipdl_base.specs.declared.value.Values.{Values}
use Rattle.nesting_core.specs.declared.frame.Answer.{Answer}
use Rattle.nesting_core.specs.declared.frame.Answer.TheVariants as answer
use Rattle.nesting_core.specs.declared.frame.StackFrame.{StackFrame}
use Rattle.nesting_core.specs.declared.frame.StackFrame.TheVariants.{Dispatch, Wait}
use Rattle.nesting_core.specs.Answers.{with_answer}
use Rattle.nesting_core.specs.Frames.{head_of, is_dispatch}
use Rattle.nesting_core.specs.Top.{top_of}
use Rattle.pending_queue.specs.declared.item.Item.{Item}
use Rattle.pending_queue.specs.declared.item.Item.TheVariants as item
use Rattle.pending_queue.specs.DeferralContext.{is_free}
use Rattle.channel_model.specs.Answers.{has_resolver, resolver_in, released, answer_body}
use Rattle.channel_model.specs.Deliveries.{with_frames, with_failed_wait, failed}
use Rattle.channel_model.specs.Ends.{End, StackEntry, Naming, NameContent, actor, resolver, Resolver, Packet, message, mark}
use Rattle.channel_model.specs.Names.{has_name, held_by_name, without_name}
use Rattle.channel_model.specs.Outputs.{AnsweredRequest, body_of, reply_to}
use Rattle.channel_model.specs.Parts.{HoldsActor, after_outbox, left_end, farewell_item}
use Rattle.channel_model.specs.Returns as return
use Rattle.channel_model.specs.Sends.{frames_of}
use Rattle.channel_model.specs.States.{is_farewell, is_goodbye}
use Rattle.channel_model.specs.Takes as take
use Rattle.channel_laws.proofs.Leaving.{TakenFrom, first-taken}
use Rattle.channel_laws.proofs.Replacing.{is_request_item}
use Rattle.channel_laws.proofs.Track.{frames_in}
use Rattle.progress_laws.specs.Weights.{owed, body_weight, packet_weight, item_weight, frame_weight, entry_weight, total, end_weight, content_weight, naming_weight}

-- Lists

pub total-append : {A : Type 0} (weigh : A → ℕ) (xs ys : List A) → total weigh (xs ++ ys) ≡ total weigh xs + total weigh ys
total-append weigh [] ys = omega arith
total-append weigh (x ∷ xs) ys = let rest = total-append weigh xs ys in omega arith

-- an item that is taken out
pub total-taken : (items rest : List Item) (x : Item) → TakenFrom items rest x → total item_weight rest + item_weight x ≡ total item_weight items
total-taken items rest x t =
    let whole : total item_weight items ≡ total item_weight (t.front ++ x ∷ t.back) = ap (total item_weight) t.whole in
    let left : total item_weight rest ≡ total item_weight (t.front ++ t.back) = ap (total item_weight) t.left in
    omega (arith, whole, left, total-append item_weight t.front (x ∷ t.back), total-append item_weight t.front t.back)

-- Packets

pub at-most : (body : Body) → body_weight 5 2 body ≤ 5
at-most (Request vs) = omega arith
at-most (Reply vs) = omega arith
at-most (Fault reason) = omega arith
at-most Goodbye = omega arith

pub at-least : (body : Body) → 2 ≤ body_weight 5 2 body
at-least (Request vs) = omega arith
at-least (Reply vs) = omega arith
at-least (Fault reason) = omega arith
at-least Goodbye = omega arith

pub outbox-weight : (ms : List Message) → total packet_weight (map message ms) ≤ 5 * length ms
outbox-weight [] = omega arith
outbox-weight (m ∷ ms) = omega (arith, at-most m.body, outbox-weight ms)

pub following-weight : (e : End) (packet : Packet) → total packet_weight (after_outbox e packet) ≤ 5 * length e.outbox + packet_weight packet
following-weight e packet = omega (arith, total-append packet_weight (map message e.outbox) (packet ∷ []), outbox-weight e.outbox)

pub reply-weight : (q : AnsweredRequest) (a : Answer) → packet_weight (message (reply_to q (body_of a))) ≡ 2
reply-weight q (answer.Ok vs) = refl
reply-weight q (answer.Fault reason) = refl

pub given-weight : (q : AnsweredRequest) (vs : Option Values) → packet_weight (message (reply_to q (answer_body vs))) ≡ 2
given-weight q None = refl
given-weight q (Some vs) = refl

pub reply-body : (request other : ℕ) (a : Answer) (body : Body) → body ≡ body_of a → body_weight request other body ≡ other
reply-body request other (answer.Ok vs) body is = ap (body_weight request other) is
reply-body request other (answer.Fault reason) body is = ap (body_weight request other) is

pub goodbye-body : (request other : ℕ) (body : Body) → is_goodbye body ≡ true → body_weight request other body ≡ other
goodbye-body request other (Request vs) is = cc
goodbye-body request other (Reply vs) is = refl
goodbye-body request other (Fault reason) is = refl
goodbye-body request other Goodbye is = refl

pub farewell-weight : (packet : Packet) → is_farewell (farewell_item packet) ≡ true → (packet_weight packet ≡ 2) × (item_weight (farewell_item packet) ≡ 1)
farewell-weight (message m) is = (goodbye-body 5 2 m.body is, goodbye-body 4 1 m.body is)
farewell-weight mark is = (refl, refl)

-- Items

pub item-least : (x : Item) → 1 ≤ item_weight x
item-least (item.Message m sync level) = by m.body
  where
    by : (body : Body) → 1 ≤ body_weight 4 1 body
    by (Request vs) = omega arith
    by (Reply vs) = omega arith
    by (Fault reason) = omega arith
    by Goodbye = omega arith
item-least item.Broken = omega arith

pub request-item : (x : Item) → is_request_item x ≡ true → item_weight x ≡ 4
request-item (item.Message m sync level) is = by m.body is
  where
    by : (body : Body) → is_request_item (item.Message (record m { body = body }) sync level) ≡ true → body_weight 4 1 body ≡ 4
    by (Request vs) is = refl
    by (Reply vs) is = cc
    by (Fault reason) is = cc
    by Goodbye is = cc
request-item item.Broken is = cc

pub left-weight : (e : End) (x : Item) → take.taken_next e ≡ Some x → total item_weight (left_end e).arrived + item_weight x ≡ total item_weight e.arrived
left-weight e x next = by (take.takes_in_state e.state && take.takes_under (top_of (frames_of e))) next
  where
    by : (b : Bool) → cond b (take.first_free e) None ≡ Some x → total item_weight (left_end e).arrived + item_weight x ≡ total item_weight e.arrived
    by true is = total-taken e.arrived (left_end e).arrived x (first-taken (is_free (take.deferral_context_of e)) e.arrived x is).taken
    by false is = cc

-- Stacks

one-released : (seq : ℤ) (b : Bool) (entry : StackEntry) → entry_weight (cond b (record entry { resolves = false }) entry) ≤ entry_weight entry
one-released seq true entry = by entry.frame
  where
    by : (f : StackFrame) → frame_weight false f ≤ frame_weight entry.resolves f
    by (Dispatch head) = omega arith
    by (Wait head a) = omega arith
one-released seq false entry = omega arith

pub released-weight : (seq : ℤ) (stack : List StackEntry) → total entry_weight (released seq stack) ≤ total entry_weight stack
released-weight seq [] = omega arith
released-weight seq (entry ∷ stack) = let k = one-released seq (has_resolver seq entry) entry in let rest = released-weight seq stack in omega (arith, k, rest)

-- a resolver is used, or goes to a name
gives-away : (seq : ℤ) (entry : StackEntry) → has_resolver seq entry ≡ true → entry_weight (record entry { resolves = false }) + 2 ≤ entry_weight entry
gives-away seq entry has = by entry.frame entry.resolves has
  where
    by : (f : StackFrame) (resolves : Bool) → is_dispatch f && (resolves && int_eq (head_of f).seq seq) ≡ true → frame_weight false f + 2 ≤ frame_weight resolves f
    by (Dispatch head) true has = omega arith
    by (Dispatch head) false has = cc
    by (Wait head a) resolves has = cc

pub given-away : (seq : ℤ) (stack : List StackEntry) (r : Resolver) → option_map resolver_in (find (has_resolver seq) stack) ≡ Some r → total entry_weight (released seq stack) + 2 ≤ total entry_weight stack
given-away seq [] r is = cc
given-away seq (entry ∷ stack) r is = by (has_resolver seq entry) refl is (given-away seq stack r)
  where
    by : (b : Bool) → has_resolver seq entry ≡ b → option_map resolver_in (cond b (Some entry) (find (has_resolver seq) stack)) ≡ Some r → (option_map resolver_in (find (has_resolver seq) stack) ≡ Some r → total entry_weight (released seq stack) + 2 ≤ total entry_weight stack)
        → entry_weight (cond b (record entry { resolves = false }) entry) + total entry_weight (released seq stack) + 2 ≤ entry_weight entry + total entry_weight stack
    by true has is rec = omega (arith, gives-away seq entry has, released-weight seq stack)
    by false has is rec = let k = rec is in omega (arith, k)

pub failed-weight : (stack : List StackEntry) → total entry_weight (map with_failed_wait stack) ≡ total entry_weight stack
failed-weight [] = refl
failed-weight (entry ∷ stack) = let k = one entry.resolves entry.frame in let rest = failed-weight stack in omega (arith, k, rest)
  where
    one : (b : Bool) (f : StackFrame) → frame_weight b (failed f) ≡ frame_weight b f
    one b (Dispatch head) = refl
    one b (Wait head None) = refl
    one b (Wait head (Some a)) = refl

same-weight : (stack : List StackEntry) → total entry_weight (with_frames (frames_in stack) stack) ≡ total entry_weight stack
same-weight [] = refl
same-weight (entry ∷ stack) = ap (λ (n : ℕ). entry_weight entry + n) (same-weight stack)

pub answered-weight : (a : Answer) (stack : List StackEntry) → total entry_weight (with_frames (with_answer a (frames_in stack)) stack) ≡ total entry_weight stack
answered-weight a [] = refl
answered-weight a (entry ∷ stack) = by entry.frame (answered-weight a stack)
  where
    by : (f : StackFrame) → total entry_weight (with_frames (with_answer a (frames_in stack)) stack) ≡ total entry_weight stack → total entry_weight (with_frames (with_answer a (f ∷ frames_in stack)) (entry ∷ stack)) ≡ frame_weight entry.resolves f + total entry_weight stack
    by (Dispatch head) rest = ap (λ (n : ℕ). frame_weight entry.resolves (Dispatch head) + n) rest
    by (Wait head (Some b)) rest = ap (λ (n : ℕ). 1 + n) rest
    by (Wait head None) rest = ap (λ (n : ℕ). 1 + n) (same-weight stack)

-- a dispatch on top
pub dispatch-weight : (stack : List StackEntry) (entry : StackEntry) → return.dispatch_on_top stack ≡ Some entry
    → total entry_weight stack ≡ 1 + (owed (head_of entry.frame).sync + owed entry.resolves) + total entry_weight (drop 1 stack)
dispatch-weight [] entry is = cc
dispatch-weight (first ∷ stack) entry is = by first.frame refl is
  where
    by : (f : StackFrame) → first.frame ≡ f → elim f [ Dispatch head ↦ Some first | Wait head a ↦ None ] ≡ Some entry
        → frame_weight first.resolves f + total entry_weight stack ≡ 1 + (owed (head_of entry.frame).sync + owed entry.resolves) + total entry_weight stack
    by (Dispatch head) frame is =
        let same : first ≡ entry = same_Some first entry is in
        ap (λ (f : StackFrame). 1 + (owed (head_of f).sync + owed first.resolves) + total entry_weight stack) (sym frame) ∙ ap (λ (x : StackEntry). 1 + (owed (head_of x.frame).sync + owed x.resolves) + total entry_weight stack) same
    by (Wait head a) frame is = cc

pub wait-weight : (stack : List StackEntry) (wait : return.AnsweredWait) → return.answered_wait_on_top stack ≡ Some wait → total entry_weight stack ≡ 1 + total entry_weight (drop 1 stack)
wait-weight [] wait is = cc
wait-weight (first ∷ stack) wait is = by first.frame is
  where
    by : (f : StackFrame) → return.answered_wait_of first.number f ≡ Some wait → frame_weight first.resolves f + total entry_weight stack ≡ 1 + total entry_weight stack
    by (Dispatch head) is = cc
    by (Wait head a) is = refl

-- Names

-- an end with its kept resolvers, each at a weight
abbrev pub end_with : ℕ → End → ℕ
end_with k e = end_weight e + total (naming_weight k) e.names

pub nothing-kept : (names : List Naming) → total (naming_weight 0) names ≡ 0
nothing-kept [] = refl
nothing-kept (naming ∷ names) = let a = one naming.holds in let rest = nothing-kept names in omega (arith, a, rest)
  where
    one : (holds : NameContent) → content_weight 0 holds ≡ 0
    one (actor id) = refl
    one (resolver r) = refl

pub filter-weight : {A : Type 0} (weigh : A → ℕ) (test : A → Bool) (xs : List A) → total weigh (filter test xs) ≤ total weigh xs
filter-weight weigh test [] = omega arith
filter-weight weigh test (x ∷ xs) = let rest = filter-weight weigh test xs in by (test x) rest
  where
    by : (b : Bool) → total weigh (filter test xs) ≤ total weigh xs → total weigh (cond b (x ∷ filter test xs) (filter test xs)) ≤ weigh x + total weigh xs
    by true rest = omega (arith, rest)
    by false rest = omega (arith, rest)

pub actors-weight : (k : ℕ) (more : List Naming) → AllByRecursion HoldsActor more → total (naming_weight k) more ≡ 0
actors-weight k [] h = refl
actors-weight k (naming ∷ more) h = let a = one naming.holds h.0 in let rest = actors-weight k more h.1 in omega (arith, a, rest)
  where
    one : (holds : NameContent) → elim holds as (λ x. Type 0) [ actor id ↦ Unit {0} | resolver r ↦ ⊥ ] → content_weight k holds ≡ 0
    one (actor id) h = refl
    one (resolver r) h = absurd h

-- a name loses its resolver
pub lost-weight : (k : ℕ) (name : List ℕ) (names : List Naming) (r : Resolver) → held_by_name name names ≡ Some (resolver r) → total (naming_weight k) (without_name name names) + k ≤ total (naming_weight k) names
lost-weight k name [] r is = cc
lost-weight k name (naming ∷ names) r is = by (has_name name naming) is (lost-weight k name names r)
  where
    by : (b : Bool) → option_map (λ (x : Naming). x.holds) (cond b (Some naming) (find (has_name name) names)) ≡ Some (resolver r) → (held_by_name name names ≡ Some (resolver r) → total (naming_weight k) (without_name name names) + k ≤ total (naming_weight k) names)
        → total (naming_weight k) (cond (not b) (naming ∷ without_name name names) (without_name name names)) + k ≤ naming_weight k naming + total (naming_weight k) names
    by true is rec = let a : naming_weight k naming ≡ k = ap (content_weight k) (same_Some naming.holds (resolver r) is) in omega (arith, a, filter-weight (naming_weight k) (λ (x : Naming). not (has_name name x)) names)
    by false is rec = let b = rec is in omega (arith, b)
