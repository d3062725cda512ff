-- After every step an end is as its state requires, part by part.
use Rattle.std.proofs.Common.{◌≡◌, ℤ, ℕ, Bool, true, false, not, ◌&&◌, ◌||◌, ◌⊎◌, inl, inr, cond, if◌then◌else◌, List, [], ◌∷◌, ◌++◌, drop, find, map, is_some, Option, Some, None, refl, sym, ap, subst, ◌∙◌}
use Rattle.std.specs.List.{AllByRecursion}
use Rattle.std.proofs.lemmas.Option.{same_Some}
use Rattle.actor_tree.specs.declared.actor.Actor.{Actor}
use Rattle.actor_tree.specs.Fall.{post_order, others}
use Rattle.actor_tree.specs.Tree.{lives, IsTree}
use Rattle.actor_tree.proofs.Whole.{leaves_nobody}
use Rattle.ipdl_base.specs.declared.kinds.Destroy.{Destroy}
use Rattle.ipdl_base.specs.declared.kinds.Destroy.TheVariants.{NormalShutdown}
use Rattle.ipdl_base.specs.declared.kinds.EndState.{EndState}
use Rattle.ipdl_base.specs.declared.kinds.EndState.TheVariants.{Open, Draining, Closed, Dead}
use Rattle.ipdl_base.specs.declared.kinds.Reason.{Reason}
use Rattle.ipdl_base.specs.declared.kinds.Reason.TheVariants as reason
use Rattle.ipdl_base.specs.declared.kinds.SendRefusal.TheVariants as refusal
use Rattle.ipdl_base.specs.declared.line.What.{What}
use Rattle.ipdl_base.specs.declared.message.Message.{Message}
use Rattle.ipdl_base.specs.declared.schema.MessageRow.{MessageRow}
use Rattle.ipdl_base.specs.declared.schema.Schema.{Schema}
use Rattle.nesting_core.specs.declared.frame.Answer.{Answer}
use Rattle.nesting_core.specs.declared.frame.Answer.TheVariants as answer
use Rattle.nesting_core.specs.declared.frame.StackFrame.{StackFrame}
use Rattle.nesting_core.specs.declared.frame.StackFrame.TheVariants.{Dispatch, Wait}
use Rattle.nesting_core.specs.Frames.{is_wait, has_wait}
use Rattle.nesting_core.specs.Top.{top_of}
use Rattle.pending_queue.specs.declared.item.Item.{Item}
use Rattle.pending_queue.specs.declared.item.Item.TheVariants as item
use Rattle.pending_queue.specs.Compression.{staying}
use Rattle.pending_queue.specs.DeferralContext.{is_free, without_first}
use Rattle.promise_table.specs.declared.promise.Outcome.{Outcome}
use Rattle.promise_table.specs.declared.promise.Promise.{Promise}
use Rattle.promise_table.specs.Promises.{has_number, is_pending}
use Rattle.channel_model.specs.Actors.{AreKnown, ids_of}
use Rattle.channel_model.specs.Answers as answers
use Rattle.channel_model.specs.Answers.{has_resolver, released}
use Rattle.channel_model.specs.Deliveries as delivery
use Rattle.channel_model.specs.Deliveries.{with_failed_wait, failed}
use Rattle.channel_model.specs.Ends.{End, Packet, StackEntry, PromiseEntry, Naming}
use Rattle.channel_model.specs.Events.{Answering, handled, kept}
use Rattle.channel_model.specs.Falls.{passes, rejected_entry, rejected}
use Rattle.ipdl_base.specs.Sides.{top_id}
use Rattle.channel_model.specs.Numbers.{protocol_of}
use Rattle.channel_model.specs.Outputs.{is_open, is_closed, is_dead_end, body_of}
use Rattle.channel_model.specs.Parts
use Rattle.channel_model.specs.Parts.{FirstPart, LaterPart, LaterParts, OwnParts, DeliveryPart, end_after, left_end, falling, fallen_end, abandoned_end, shut_reason, farewell_item}
use Rattle.channel_model.specs.Phases.{Phase, nobody, deletion, closing, manager_of}
use Rattle.channel_model.specs.Sends as sends
use Rattle.channel_model.specs.Sends.{frames_of}
use Rattle.channel_model.specs.States.{is_goodbye, is_farewell, IsOrdinary, HasArrived, IsAnswered, IsSettled, IsInState}
use Rattle.channel_model.specs.StepLaws.{StatesStay, FirstStates}
use Rattle.channel_model.specs.Takes as takes
use Rattle.channel_model.specs.ValueActors.{lives_as}
use Rattle.channel_model.proofs.FittingValues.{found-in}
use Rattle.channel_model.proofs.Known.{all-append}
use Rattle.channel_model.proofs.KnownSteps.{KnownIn, first-known, later-known}
use Rattle.channel_model.proofs.SendParts.{passed-first}
use Rattle.channel_model.proofs.StepParts.{by-parts}
use Rattle.channel_model.proofs.Sublists.{all-sublist, without_first-sublist, staying-sublist}

-- What a state requires of the first end is true of the second.
record Follows (e next : End) : Type 0 where
  state : next.state ≡ e.state
  arrived : next.arrived ≡ e.arrived
  outbox : e.outbox ≡ [] → next.outbox ≡ []
  waits : AllByRecursion IsAnswered (frames_of e) → AllByRecursion IsAnswered (frames_of next)
  nobody : e.actors ≡ [] → next.actors ≡ []
  settled : AllByRecursion IsSettled e.promises → AllByRecursion IsSettled next.promises
  stack : e.stack ≡ [] → next.stack ≡ []

follows-in_state : (e next : End) → Follows e next → IsInState e → IsInState next
follows-in_state e next f h = record {
  arrived = subst (λ (s : EndState). HasArrived s next.arrived) (sym f.state) (subst (HasArrived e.state) (sym f.arrived) h.arrived);
  outbox = λ not_open. f.outbox (h.outbox (ap is_open (sym f.state) ∙ not_open));
  waits = λ not_open. f.waits (h.waits (ap is_open (sym f.state) ∙ not_open));
  nobody = λ over. f.nobody (h.nobody (ap is_closed (sym f.state) ∙ over));
  settled = λ over. f.settled (h.settled (ap is_closed (sym f.state) ∙ over));
  stack = λ died. f.stack (h.stack (ap is_dead_end (sym f.state) ∙ died));
}

follows-same : (e : End) → Follows e e
follows-same e = record { state = refl; arrived = refl; outbox = λ x. x; waits = λ x. x; nobody = λ x. x; settled = λ x. x; stack = λ x. x }

follows-chain : (a b c : End) → Follows a b → Follows b c → Follows a c
follows-chain a b c f g = record {
  state = g.state ∙ f.state;
  arrived = g.arrived ∙ f.arrived;
  outbox = λ x. g.outbox (f.outbox x);
  waits = λ x. g.waits (f.waits x);
  nobody = λ x. g.nobody (f.nobody x);
  settled = λ x. g.settled (f.settled x);
  stack = λ x. g.stack (f.stack x);
}

names-follow : (e : End) (names : List Naming) → Follows e (record e { names = names })
names-follow e names = record { state = refl; arrived = refl; outbox = λ x. x; waits = λ x. x; nobody = λ x. x; settled = λ x. x; stack = λ x. x }

outbox-follows : (e : End) → Follows e (record e { outbox = [] })
outbox-follows e = record { state = refl; arrived = refl; outbox = λ x. refl; waits = λ x. x; nobody = λ x. x; settled = λ x. x; stack = λ x. x }

following-follows : (b : Bool) (e : End) → Follows e (end_after b e)
following-follows true e = outbox-follows e
following-follows false e = follows-same e

-- Promises and falls

rejected_one-settled : (b : Bool) (why : Reason) (entry : PromiseEntry) → IsSettled entry → IsSettled (cond b (rejected_entry why entry) entry)
rejected_one-settled true why entry h = refl
rejected_one-settled false why entry h = h

rejected-settled : (test : Promise → Bool) (why : Reason) (promises : List PromiseEntry) → AllByRecursion IsSettled promises → AllByRecursion IsSettled (rejected test why promises)
rejected-settled test why [] h = tt
rejected-settled test why (entry ∷ promises) h = (rejected_one-settled (passes test entry) why entry h.0, rejected-settled test why promises h.1)

-- a promise that is pending is rejected, and another is settled
all_one-settled : (pending : Bool) (why : Reason) (entry : PromiseEntry) → is_pending entry.promise ≡ pending → IsSettled (cond (pending && true) (rejected_entry why entry) entry)
all_one-settled true why entry is = refl
all_one-settled false why entry is = is

all_rejected-settled : (why : Reason) (promises : List PromiseEntry) → AllByRecursion IsSettled (rejected (λ p. true) why promises)
all_rejected-settled why [] = tt
all_rejected-settled why (entry ∷ promises) = (all_one-settled (is_pending entry.promise) why entry refl, all_rejected-settled why promises)

others-nobody : (id : ℤ) (actors : List Actor) → actors ≡ [] → others (post_order id actors) actors ≡ []
others-nobody id actors none = subst (λ (living : List Actor). others (post_order id living) living ≡ []) (sym none) refl

settled_if : (b : Bool) (p : Promise) (outcome : Outcome) → is_pending p ≡ false → is_pending (cond b (record p { outcome = Some outcome }) p) ≡ false
settled_if true p outcome h = refl
settled_if false p outcome h = h

settled_map : (seq : ℤ) (outcome : Outcome) (promises : List PromiseEntry) → AllByRecursion IsSettled promises → AllByRecursion IsSettled (map (takes.settled_entry seq outcome) promises)
settled_map seq outcome [] h = tt
settled_map seq outcome (entry ∷ promises) h = (settled_if (has_number seq entry.promise && is_pending entry.promise) entry.promise outcome h.0, settled_map seq outcome promises h.1)

fallen-follows : (id : ℤ) (e : End) → Follows e (fallen_end id e)
fallen-follows id e = record {
  state = refl;
  arrived = refl;
  outbox = λ x. x;
  waits = λ x. x;
  nobody = λ none. others-nobody id e.actors none;
  settled = λ h. rejected-settled (λ p. lives p.actor (falling id e)) reason.ActorDestroyed e.promises h;
  stack = λ x. x;
}

promises-follow : (e : End) (promises : List PromiseEntry) → (AllByRecursion IsSettled e.promises → AllByRecursion IsSettled promises) → Follows e (record e { promises = promises })
promises-follow e promises h = record { state = refl; arrived = refl; outbox = λ x. x; waits = λ x. x; nobody = λ x. x; settled = h; stack = λ x. x }

-- Stacks

released_one : (b : Bool) (entry : StackEntry) → (cond b (record entry { resolves = false }) entry).frame ≡ entry.frame
released_one true entry = refl
released_one false entry = refl

pub released-frames : (seq : ℤ) (stack : List StackEntry) → map (λ (entry : StackEntry). entry.frame) (released seq stack) ≡ map (λ (entry : StackEntry). entry.frame) stack
released-frames seq [] = refl
released-frames seq (entry ∷ stack) =
    ap (λ (frame : StackFrame). frame ∷ map (λ (entry : StackEntry). entry.frame) (released seq stack)) (released_one (has_resolver seq entry) entry)
    ∙ ap (λ (frames : List StackFrame). entry.frame ∷ frames) (released-frames seq stack)

released-follows : (seq : ℤ) (e : End) → Follows e (record e { stack = released seq e.stack })
released-follows seq e = record { state = refl; arrived = refl; outbox = λ x. x; waits = λ h. subst (AllByRecursion IsAnswered) (sym (released-frames seq e.stack)) h; nobody = λ x. x; settled = λ x. x; stack = λ none. ap (released seq) none }

used-follows : (by : Answering) (e : End) → Follows e (answers.without_resolver by e)
used-follows (handled seq) e = released-follows seq e
used-follows (kept name number) e = names-follow e _

pub popped-answered : (stack : List StackEntry) → AllByRecursion IsAnswered (map (λ (entry : StackEntry). entry.frame) stack) → AllByRecursion IsAnswered (map (λ (entry : StackEntry). entry.frame) (drop 1 stack))
popped-answered [] h = tt
popped-answered (entry ∷ stack) h = h.1

popped-follows : (e : End) → Follows e (record e { stack = drop 1 e.stack })
popped-follows e = record { state = refl; arrived = refl; outbox = λ x. x; waits = popped-answered e.stack; nobody = λ x. x; settled = λ x. x; stack = λ none. ap (drop 1) none }

failed-answered : (frame : StackFrame) → IsAnswered (failed frame)
failed-answered (Dispatch head) = refl
failed-answered (Wait head None) = refl
failed-answered (Wait head (Some a)) = refl

pub all_failed-answered : (stack : List StackEntry) → AllByRecursion IsAnswered (map (λ (entry : StackEntry). entry.frame) (map with_failed_wait stack))
all_failed-answered [] = tt
all_failed-answered (entry ∷ stack) = (failed-answered entry.frame, all_failed-answered stack)

no_wait : (frame : StackFrame) → is_wait frame ≡ false → IsAnswered frame
no_wait (Dispatch head) h = refl
no_wait (Wait head a) h = cc

neither : (a b : Bool) → (a || b) ≡ false → (a ≡ false) × (b ≡ false)
neither true b h = cc
neither false b h = (refl, h)

pub no_waits : (frames : List StackFrame) → has_wait frames ≡ false → AllByRecursion IsAnswered frames
no_waits [] h = tt
no_waits (frame ∷ frames) h = let both = neither (is_wait frame) (has_wait frames) h in (no_wait frame both.0, no_waits frames both.1)

-- Open ends

open-is : (state : EndState) → is_open state ≡ true → state ≡ Open
open-is Open h = refl
open-is Draining h = cc
open-is Closed h = cc
open-is Dead h = cc

not_both : {A : Type 0} (test : EndState → Bool) (state other : EndState) (b : Bool) → state ≡ other → test other ≡ not b → test state ≡ b → A
not_both test state other true is first second = let e : true ≡ false = sym second ∙ ap test is ∙ first in cc
not_both test state other false is first second = let e : false ≡ true = sym second ∙ ap test is ∙ first in cc

-- an open end has received no farewell
open-in_state : (e : End) → e.state ≡ Open → AllByRecursion IsOrdinary e.arrived → IsInState e
open-in_state e is h = record {
  arrived = subst (λ (s : EndState). HasArrived s e.arrived) (sym is) h;
  outbox = λ k. not_both is_open e.state Open false is refl k;
  waits = λ k. not_both is_open e.state Open false is refl k;
  nobody = λ k. not_both is_closed e.state Open true is refl k;
  settled = λ k. not_both is_closed e.state Open true is refl k;
  stack = λ k. not_both is_dead_end e.state Open true is refl k;
}

open-arrived : (e : End) → e.state ≡ Open → IsInState e → AllByRecursion IsOrdinary e.arrived
open-arrived e is h = subst (λ (s : EndState). HasArrived s e.arrived) is h.arrived

-- Takes

-- the farewell stays the last while another item is taken
abbrev StaysLast : List Item → Item → Type 0
StaysLast items last = (front : List Item) × ((items ≡ front ++ last ∷ []) × AllByRecursion IsOrdinary front)

rest_one-draining : (test : Item → Bool) (b : Bool) (y : Item) (ys : List Item) (last x : Item) → IsOrdinary y → AllByRecursion IsOrdinary ys
    → cond b (Some y) (find test (ys ++ last ∷ [])) ≡ Some x → (find test (ys ++ last ∷ []) ≡ Some x → StaysLast (without_first test (ys ++ last ∷ [])) last)
    → StaysLast (cond b (ys ++ last ∷ []) (y ∷ without_first test (ys ++ last ∷ []))) last
rest_one-draining test true y ys last x own h e k = (ys, (refl, h))
rest_one-draining test false y ys last x own h e k = let r = k e in (y ∷ r.0, (ap (λ items. y ∷ items) r.1.0, (own, r.1.1)))

last-taken : {A : Type 0} (b : Bool) (last x : Item) → is_farewell last ≡ true → is_farewell x ≡ false → cond b (Some last) None ≡ Some x → A
last-taken true last x farewell ordinary e = let f : true ≡ false = sym farewell ∙ ap is_farewell (same_Some last x e) ∙ ordinary in cc
last-taken false last x farewell ordinary e = cc

rest-draining : (test : Item → Bool) (front : List Item) (last x : Item) → AllByRecursion IsOrdinary front → is_farewell last ≡ true → is_farewell x ≡ false → find test (front ++ last ∷ []) ≡ Some x
    → StaysLast (without_first test (front ++ last ∷ [])) last
rest-draining test [] last x h farewell ordinary e = last-taken (test last) last x farewell ordinary e
rest-draining test (y ∷ ys) last x h farewell ordinary e = rest_one-draining test (test y) y ys last x h.0 h.1 e (rest-draining test ys last x h.1 farewell ordinary)

rest-arrived : (state : EndState) (test : Item → Bool) (items : List Item) (x : Item) → takes.takes_in_state state ≡ true → HasArrived state items → find test items ≡ Some x → is_farewell x ≡ false → HasArrived state (without_first test items)
rest-arrived Open test items x takes h e ordinary = all-sublist IsOrdinary (without_first test items) items (without_first-sublist test items) h
rest-arrived Draining test items x takes (front, (last, (is, (h, farewell)))) e ordinary =
    let r : StaysLast (without_first test (front ++ last ∷ [])) last = rest-draining test front last x h farewell ordinary (subst (λ (all : List Item). find test all ≡ Some x) is e) in
    (r.0, (last, (ap (without_first test) is ∙ r.1.0, (r.1.1, farewell))))
rest-arrived Closed test items x takes h e ordinary = cc
rest-arrived Dead test items x takes h e ordinary = cc

farewell-ends : (state : EndState) (test : Item → Bool) (items : List Item) (x : Item) → HasArrived state items → find test items ≡ Some x → is_farewell x ≡ true → is_open state ≡ false
farewell-ends Open test items x h e farewell = let f : true ≡ false = sym farewell ∙ (found-in IsOrdinary test items x h e).0 in cc
farewell-ends Draining test items x h e farewell = refl
farewell-ends Closed test items x h e farewell = refl
farewell-ends Dead test items x h e farewell = refl

not_closed : (state : EndState) → takes.takes_in_state state ≡ true → (is_closed state ≡ false) × (is_dead_end state ≡ false)
not_closed Open h = (refl, refl)
not_closed Draining h = (refl, refl)
not_closed Closed h = cc
not_closed Dead h = cc

-- the end when the item has left its place
without_item : (e : End) (test : Item → Bool) (x : Item) → takes.takes_in_state e.state ≡ true → find test e.arrived ≡ Some x → is_farewell x ≡ false → IsInState e → IsInState (record e { arrived = without_first test e.arrived })
without_item e test x takes found ordinary h = record {
  arrived = rest-arrived e.state test e.arrived x takes h.arrived found ordinary;
  outbox = h.outbox;
  waits = h.waits;
  nobody = h.nobody;
  settled = h.settled;
  stack = h.stack;
}

taken_next-is : (a b : Bool) (found : Option Item) (x : Item) → cond (a && b) found None ≡ Some x → (a ≡ true) × (found ≡ Some x)
taken_next-is true true found x e = (refl, e)
taken_next-is true false found x e = cc
taken_next-is false b found x e = cc

-- What the state of an end requires in a phase: the end still closes, and has dropped all but promises and actors; or
-- it is as required between steps.
record IsShut (e : End) : Type 0 where
  state : e.state ≡ Closed
  arrived : e.arrived ≡ []
  outbox : e.outbox ≡ []
  waits : AllByRecursion IsAnswered (frames_of e)

abbrev IsInPhase : Phase → End → Type 0
IsInPhase p e = (((why : Destroy) × (p.due ≡ closing why)) × IsShut e) ⊎ IsInState e

-- Later parts

-- a part that changes nothing on which the state's requirements depend
shut-follows : (e f : End) → f.state ≡ e.state → f.arrived ≡ e.arrived → (e.outbox ≡ [] → f.outbox ≡ []) → (AllByRecursion IsAnswered (frames_of e) → AllByRecursion IsAnswered (frames_of f)) → IsShut e → IsShut f
shut-follows e f state arrived outbox waits h = record { state = state ∙ h.state; arrived = arrived ∙ h.arrived; outbox = outbox h.outbox; waits = waits h.waits }

phase-follows : (p q : Phase) (e f : End) → q.due ≡ p.due → Follows e f → IsInPhase p e → IsInPhase q f
phase-follows p q e f same k (inl h) = inl ((h.0.0, same ∙ h.0.1), shut-follows e f k.state k.arrived k.outbox k.waits h.1)
phase-follows p q e f same k (inr h) = inr (follows-in_state e f k h)

-- no actor lives where an actor is built, and so no actor manages it
nobody-builds : (e : End) (id manager : ℤ) (more : List Actor) → lives manager e.actors ≡ true → e.actors ≡ [] → e.actors ++ more ≡ []
nobody-builds e id manager more alive none = let k : false ≡ true = ap (lives manager) (sym none) ∙ alive in cc

-- the end that closes has rejected its promises, and all its actors have fallen
fallen-closed : (why : Destroy) (e : End) → IsTree e.actors → IsShut e → IsInState (fallen_end top_id (abandoned_end e))
fallen-closed why e tree h = record {
  arrived = subst (λ (s : EndState). HasArrived s e.arrived) (sym h.state) h.arrived;
  outbox = λ x. h.outbox;
  waits = λ x. h.waits;
  nobody = λ x. leaves_nobody e.actors tree;
  settled = λ x. rejected-settled (λ p. lives p.actor (falling top_id e)) reason.ActorDestroyed (abandoned_end e).promises (all_rejected-settled reason.ChannelClosed e.promises);
  stack = λ died. not_both is_dead_end e.state Closed true h.state refl died;
}

later-state : {p q : Phase} {e f : End} {ws : List What} {ps : List Packet} → LaterPart p e ws ps f q → IsTree e.actors → IsInPhase p e → IsInPhase q f
later-state {p} {q} {e} (Parts.unnames name may silent) tree h = phase-follows p q e _ refl (names-follow e _) h
later-state {p} {q} {e} (Parts.lets_go name r may held open_is) tree h = phase-follows p q e _ refl (follows-chain e _ _ (names-follow e _) (outbox-follows (record e { names = _ }))) h
later-state {p} {q} {e} (Parts.names more actors) tree h = phase-follows p q e _ refl (names-follow e _) h
later-state {p} {q} {e} (Parts.releases seq closed) tree h = phase-follows p q e _ refl (released-follows seq e) h
later-state {p} {q} {e} (Parts.keeps seq name r held closed) tree h = phase-follows p q e _ refl (follows-chain e _ _ (released-follows seq e) (names-follow (record e { stack = released seq e.stack }) _)) h
later-state {p} {q} {e} {f} (Parts.builds id protocol rest is built) tree h =
    phase-follows p q e f refl (record { state = refl; arrived = refl; outbox = λ x. x; waits = λ x. x; nobody = nobody-builds e id (manager_of p.start) _ built.alive; settled = λ x. x; stack = λ x. x }) h
later-state {p} {q} {e} (Parts.deletes id due) tree (inl h) = let k : deletion id ≡ closing h.0.0 = sym due ∙ h.0.1 in cc
later-state {p} {q} {e} (Parts.deletes id due) tree (inr h) = inr (follows-in_state e (fallen_end id e) (fallen-follows id e) h)
later-state {p} {q} {e} (Parts.falls why due) tree (inl h) = inr (fallen-closed why e tree h.1)
later-state {p} {q} {e} (Parts.falls why due) tree (inr h) =
    inr (follows-in_state e (fallen_end top_id (abandoned_end e)) (follows-chain e (abandoned_end e) _ (promises-follow e _ (rejected-settled (λ p. true) reason.ChannelClosed e.promises)) (fallen-follows top_id (abandoned_end e))) h)

-- First parts

-- the state in which an item is taken, and what that state requires
record Taken (e : End) (x : Item) : Type 0 where
  found : find (is_free (takes.deferral_context_of e)) e.arrived ≡ Some x
  takes_in : takes.takes_in_state e.state ≡ true

taken : (e : End) (x : Item) → takes.taken_next e ≡ Some x → Taken e x
taken e x next = let r = taken_next-is (takes.takes_in_state e.state) (takes.takes_under (top_of (frames_of e))) (takes.first_free e) x next in record { found = r.1; takes_in = r.0 }

left-state : (e : End) (x : Item) → takes.taken_next e ≡ Some x → is_farewell x ≡ false → IsInState e → IsInState (left_end e)
left-state e x next ordinary h = let t : Taken e x = taken e x next in without_item e (is_free (takes.deferral_context_of e)) x t.takes_in t.found ordinary h

reply-ordinary : (m : Message) (a : Answer) → m.body ≡ body_of a → is_goodbye m.body ≡ false
reply-ordinary m (answer.Ok vs) body = ap is_goodbye body
reply-ordinary m (answer.Fault why) body = ap is_goodbye body

first-state : {schema : Schema} {p : Phase} {e f : End} {ws : List What} {ps : List Packet} → FirstPart schema e ws ps f p → IsInState e → IsInPhase p f
first-state (Parts.refuses w is) h = inr h
first-state (Parts.renames w is) h = inr h
first-state {schema} {p} {e} (Parts.flushes open_is) h = inr (follows-in_state e _ (outbox-follows e) h)
first-state {schema} {p} {e} (Parts.sends row route vs name sent) h =
    let opened = passed-first (is_open e.state) refusal.Closed (if not (lives_as e.actors (protocol_of row.number) route) then Some refusal.DeadActor else (if is_some (sends.stack_refusal e row) then sends.stack_refusal e row else sends.send_value_refusal schema e row route vs)) sent.accepted in
    let is : e.state ≡ Open = open-is e.state opened.0 in
    inr (open-in_state (Parts.sent_end row (sends.request_of e row route vs) e) is (open-arrived e is h))
first-state {schema} {p} {e} (Parts.answers by vs r row found may ok is) h = inr (follows-in_state e _ (follows-chain e (answers.without_resolver by e) _ (used-follows by e) (outbox-follows (answers.without_resolver by e))) h)
first-state {schema} {p} {e} (Parts.closes open_is none) h = inl ((NormalShutdown, refl), record { state = refl; arrived = refl; outbox = refl; waits = no_waits (frames_of e) none })
first-state {schema} {p} {e} (Parts.dies open_is) h = inr (record { arrived = refl; outbox = λ x. refl; waits = λ x. tt; nobody = λ x. cc; settled = λ x. cc; stack = λ x. refl })
first-state {schema} {p} {e} (Parts.dies_silent open_is alive) h = inr (record { arrived = refl; outbox = λ x. h.outbox open_is; waits = λ x. tt; nobody = λ x. cc; settled = λ x. cc; stack = λ x. refl })
first-state {schema} {p} {e} (Parts.takes m sync level row vs next body found stays) h =
    let k : IsInState (left_end e) = left-state e (item.Message m sync level) next (ap is_goodbye body) h in
    let alive = (not_closed e.state (taken e (item.Message m sync level) next).takes_in).1 in
    inr (record { arrived = k.arrived; outbox = k.outbox; waits = λ x. (refl, k.waits x); nobody = k.nobody; settled = k.settled; stack = λ died. let c : false ≡ true = sym alive ∙ died in cc })
first-state {schema} {p} {e} (Parts.drops m sync level row vs id replies next body found gone is) h = inr (follows-in_state (left_end e) _ (following-follows replies (left_end e)) (left-state e (item.Message m sync level) next (ap is_goodbye body) h))
first-state {schema} {p} {e} (Parts.drops_unknown m sync level vs next body none) h = inr (left-state e (item.Message m sync level) next (ap is_goodbye body) h)
first-state {schema} {p} {e} (Parts.takes_reply m sync level a next body late) h = inr (left-state e (item.Message m sync level) next (reply-ordinary m a body) h)
first-state {schema} {p} {e} (Parts.settles m sync level row a next body found is) h =
    inr (follows-in_state (left_end e) _ (promises-follow (left_end e) _ (settled_map m.seq (Parts.reply_outcome schema e row a) e.promises)) (left-state e (item.Message m sync level) next (reply-ordinary m a body) h))
first-state {schema} {p} {e} (Parts.shuts last next is) h =
    let ends : is_open e.state ≡ false = farewell-ends e.state (is_free (takes.deferral_context_of e)) e.arrived last h.arrived (taken e last next).found is in
    inl ((shut_reason last, refl), record { state = refl; arrived = refl; outbox = h.outbox ends; waits = h.waits ends })
first-state {schema} {p} {e} (Parts.returns entry row vs told lost returns t l) h =
    let off : End = record e { stack = drop 1 e.stack } in
    inr (follows-in_state e _ (follows-chain e off _ (popped-follows e) (follows-chain off (end_after told off) _ (following-follows told off) (following-follows lost (end_after told off)))) h)
first-state {schema} {p} {e} (Parts.resumes wait row on_top found) h = inr (follows-in_state e _ (popped-follows e) h)

-- Deliveries

following-open : (b : Bool) (e : End) → e.state ≡ Open → AllByRecursion IsOrdinary e.arrived → IsInState (end_after b e)
following-open b e is h = follows-in_state e (end_after b e) (following-follows b e) (open-in_state e is h)

last-ordinary : (items : List Item) (new : Item) → AllByRecursion IsOrdinary items → is_farewell new ≡ false → AllByRecursion IsOrdinary (items ++ new ∷ [])
last-ordinary items new h k = all-append IsOrdinary items (new ∷ []) h (k, tt)

counted-ordinary : (e : End) (row : MessageRow) (m : Message) → is_goodbye m.body ≡ false → AllByRecursion IsOrdinary e.arrived → AllByRecursion IsOrdinary (delivery.counted row (delivery.item_of row m) e).arrived
counted-ordinary e row m ordinary h =
    let new : Item = delivery.item_of row m in
    last-ordinary (staying row.compress new e.arrived) new (all-sublist IsOrdinary (staying row.compress new e.arrived) e.arrived (staying-sublist row.compress new e.arrived) h) ordinary

delivery-state : {schema : Schema} {packet : Packet} {p : Phase} {e f : End} {ws : List What} {ps : List Packet} → DeliveryPart schema packet e ws ps f p → e.state ≡ Open → AllByRecursion IsOrdinary e.arrived → IsInState f
delivery-state {e} (Parts.gets_request m row vs body found none) is h = open-in_state (delivery.counted row (delivery.item_of row m) e) is (counted-ordinary e row m (ap is_goodbye body) h)
delivery-state {e} (Parts.replaces m row vs old sync level replies body found rep k) is h = following-open replies (delivery.counted row (delivery.item_of row m) e) is (counted-ordinary e row m (ap is_goodbye body) h)
delivery-state {e} (Parts.gets_answer m row a body found sync) is h = open-in_state (delivery.answers_wait a e) is h
delivery-state {e} (Parts.gets_reply m row a body found async) is h = open-in_state (delivery.arrives (delivery.item_of row m) e) is (last-ordinary e.arrived (delivery.item_of row m) h (reply-ordinary m a body))
delivery-state {e} (Parts.drains packet last) is h = record {
  arrived = (e.arrived, (farewell_item packet, (refl, (h, last))));
  outbox = λ x. refl;
  waits = λ x. all_failed-answered e.stack;
  nobody = λ x. cc;
  settled = λ x. cc;
  stack = λ x. cc;
}
delivery-state {e} (Parts.passes_by m ordinary none) is h = open-in_state e is h

-- Steps

laters-state : {schema : Schema} {protocol : ℕ} {p q : Phase} {e f : End} {ws : List What} {ps : List Packet} → LaterParts p e ws ps f q → KnownIn schema protocol p e → IsInPhase p e → IsInPhase q f
laters-state Parts.done k h = h
laters-state {schema} {protocol} (Parts.then part rest) k h = laters-state rest (later-known schema protocol part k) (later-state part k.known.tree h)

-- nothing is due at the end of a step
over-state : (q : Phase) (f : End) → q.due ≡ nobody → IsInPhase q f → IsInState f
over-state q f due (inl h) = let k : closing h.0.0 ≡ nobody = sym h.0.1 ∙ due in cc
over-state q f due (inr h) = h

own-state : (schema : Schema) (protocol : ℕ) {p : Phase} {e f : End} {ws : List What} {ps : List Packet} → OwnParts schema e ws ps f p → AreKnown protocol (ids_of schema e) → IsInState e → IsInState f
own-state schema protocol {p} {e} {f} (Parts.begun first rest over) known h = over-state p f over.1 (laters-state rest (first-known schema protocol first known) (first-state first h))

pub states_stay : StatesStay
states_stay schema protocol e link happened output is known h =
    by-parts schema e link happened output (IsInState output.end) is (λ made. own-state schema protocol made.parts known h) (λ same made. let open_is : e.state ≡ Open = open-is e.state made.2 in delivery-state made.3.parts open_is (open-arrived e open_is h))

pub first_states : FirstStates
first_states protocol side = record { arrived = tt; outbox = λ x. refl; waits = λ x. tt; nobody = λ x. cc; settled = λ x. tt; stack = λ x. refl }
