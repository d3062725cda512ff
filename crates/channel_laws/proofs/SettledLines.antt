-- The lines of each part of a step pass the law of settlings.
use Rattle.std.proofs.Common.{◌≡◌, ◌≢◌, ℕ, ◌+◌, ℤ, Bool, true, false, not, ◌&&◌, ◌||◌, cond, if◌then◌else◌, int_eq, find, filter, List, [], ◌∷◌, ◌++◌, map, Option, Some, None, option_map, refl, sym, ap, subst, append_assoc, ◌∙◌}
use Rattle.std.specs.List.{AllByRecursion, flat_map}
use Rattle.std.specs.Option.{option_map_or}
use Rattle.std.proofs.lemmas.List.{map-append, append-nil}
use Rattle.std.proofs.lemmas.Bool.Decides.{Decides-int_eq}
use Rattle.std.proofs.lemmas.Option.{same_Some}
use Rattle.actor_tree.specs.declared.actor.Actor.{Actor}
use Rattle.actor_tree.specs.Tree.{IsTree}
use Rattle.actor_tree.proofs.Order.{falls_once}
use Rattle.ipdl_base.specs.declared.kinds.Destroy.{Destroy}
use Rattle.ipdl_base.specs.declared.kinds.Reason.{Reason}
use Rattle.ipdl_base.specs.declared.kinds.Reason.TheVariants.{ActorDestroyed, ChannelClosed, ResolverDestroyed}
use Rattle.ipdl_base.specs.declared.kinds.Side.{Side}
use Rattle.ipdl_base.specs.declared.kinds.Side.TheVariants.{Parent, Child}
use Rattle.ipdl_base.specs.declared.line.Line.{Line}
use Rattle.ipdl_base.specs.declared.line.What.{What}
use Rattle.ipdl_base.specs.declared.line.What.TheVariants as what
use Rattle.ipdl_base.specs.declared.message.Body.{Body}
use Rattle.ipdl_base.specs.declared.message.Body.TheVariants as bodies
use Rattle.ipdl_base.specs.declared.message.Message.{Message}
use Rattle.ipdl_base.specs.declared.schema.Kind.{Kind}
use Rattle.ipdl_base.specs.declared.schema.Kind.TheVariants.{Normal, Constructor, Delete}
use Rattle.ipdl_base.specs.declared.schema.Schema.{Schema}
use Rattle.ipdl_base.specs.declared.value.Values.{Values}
use Rattle.ipdl_base.specs.Lines.{same_side}
use Rattle.nesting_core.specs.declared.frame.Answer.{Answer}
use Rattle.nesting_core.specs.declared.frame.Answer.TheVariants as answer
use Rattle.nesting_core.specs.Frames.{head_of}
use Rattle.pending_queue.specs.declared.item.Item.{Item}
use Rattle.pending_queue.specs.declared.item.Item.TheVariants as item
use Rattle.promise_table.specs.declared.promise.Outcome.{Outcome}
use Rattle.promise_table.specs.declared.promise.Outcome.TheVariants.{Resolved, Rejected}
use Rattle.promise_table.specs.declared.promise.Promise.{Promise}
use Rattle.promise_table.specs.Promises.{is_pending, is_pending_of, has_number}
use Rattle.channel_model.specs.Actors.{AreDistinct}
use Rattle.channel_model.specs.Answers as answering
use Rattle.channel_model.specs.Deliveries as delivery
use Rattle.channel_model.specs.Ends.{End, Packet, message, mark, PromiseEntry}
use Rattle.channel_model.specs.Falls as fall
use Rattle.channel_model.specs.Falls.{passes}
use Rattle.ipdl_base.specs.Sides.{top_id}
use Rattle.channel_model.specs.Numbers.{is_sync_row}
use Rattle.channel_model.specs.Outputs.{AnsweredRequest, line_at, request_answered, resolver_answered}
use Rattle.channel_model.specs.Parts
use Rattle.channel_model.specs.Parts.{OwnParts, FirstPart, LaterPart, LaterParts, DeliveryPart, IsRefusal, IsRenaming, reply_lines, fall_lines, falling, farewell_line, shut_line, left_end, reply_outcome}
use Rattle.channel_model.specs.Phases.{Phase, closing, kind_cause}
use Rattle.channel_model.specs.Requests.{promise_seq}
use Rattle.channel_model.specs.Returns as return
use Rattle.channel_model.specs.Sends as send
use Rattle.channel_model.specs.Takes as take
use Rattle.channel_model.specs.ValueActors.{received}
use Rattle.channel_model.proofs.Known.{all-append}
use Rattle.history_reading.specs.EndReading.{EndReading}
use Rattle.history_reading.specs.Numbers.{has}
use Rattle.history_reading.specs.Reading.{Reading, end_reading_of, other_of, after_what, after_at, settling}
use Rattle.history_reading.specs.SentPacket.{Request, requests_of}
use Rattle.history_reading.specs.Settled.{settled_line, is_unsettled, is_resolved, is_cause, is_destroyed, promise_falls_next, reports_destroyed, falls_next, is_close_event}
use Rattle.channel_laws.specs.EndActors.{KeepsActors, ReadsActors, actor_reading}
use Rattle.channel_laws.specs.Rows.{HasSoundRows}
use Rattle.channel_laws.specs.Promised.{PromiseReading, promise_reading, PromisesAreRead}
use Rattle.channel_laws.specs.Settlings.{SettledPass, has_cause, RepliesHaveCauses}
use Rattle.channel_laws.specs.Tested.{after_whats, LinesPass}
use Rattle.channel_laws.proofs.EffectLines.{IsEffectLine, built, answers_ok, answers_fault, fails, resolved, rejected, fell, rejection-effects, later-effects, effects-leave}
use Rattle.channel_laws.proofs.ActorsKept.{first-kept, later-kept}
use Rattle.channel_laws.proofs.PromiseParts.{abandoned-kept, first-keeps-promises, later-keeps-promises, effects-read, settled_by_lines, settled-append, rejections-settle}
use Rattle.channel_laws.proofs.Standing.{has-append}
use Rattle.channel_laws.proofs.Promising.{int-apart, promises-distinct, numbers_passing, numbers_falling}
use Rattle.channel_laws.proofs.Counting.{int-same}
use Rattle.channel_laws.proofs.Settling.{IsUnsettled, GoesTo, pending-unsettled, passing-unsettled, passing-go, falling-distinct, falling-unsettled, passing-distinct}

-- the same for a reading of both ends
abbrev pub settled_test : Schema → Reading → Line → List Line → Bool
settled_test schema reading line following = settled_line schema line.side (end_reading_of line.side reading) (other_of line.side reading) line.what following

pub settled-lines : (schema : Schema) (side : Side) (ws : List What) (r : Reading) (following : List Line) → SettledPass schema side (other_of side r) r.lines ws (end_reading_of side r) → LinesPass schema (settled_test schema) r (map (line_at side) ws) following
settled-lines schema side [] r following t = tt
settled-lines schema Parent (w ∷ ws) r following t = (t.0 following, settled-lines schema Parent ws (after_at schema Parent w r) following t.1)
settled-lines schema Child (w ∷ ws) r following t = (t.0 following, settled-lines schema Child ws (after_at schema Child w r) following t.1)

-- a line that settles nothing
abbrev SettlesNothing : What → Type 0
SettlesNothing (what.Resolved n vs) = ⊥
SettlesNothing (what.Rejected n reason) = ⊥
SettlesNothing _ = Unit {0}

module _ (schema : Schema) (side : Side) (others : EndReading) where
  abbrev pub Pass : ℕ → List What → EndReading → Type 0
  Pass place ws own = SettledPass schema side others place ws own

  nothing-passes : (w : What) (own : EndReading) (following : List Line) → SettlesNothing w → settled_line schema side own others w following ≡ true
  nothing-passes (what.Resolved n vs) own following none = absurd none
  nothing-passes (what.Rejected n reason) own following none = absurd none
  nothing-passes _ own following none = refl

  quiet-pass : (place : ℕ) (ws : List What) (own : EndReading) → AllByRecursion SettlesNothing ws → Pass place ws own
  quiet-pass place [] own none = tt
  quiet-pass place (w ∷ ws) own none = ((λ more. nothing-passes w own (map (line_at side) ws ++ more) none.0), quiet-pass (place + 1) ws (after_what schema place w own) none.1)

  pass-append : (place : ℕ) (ws vs : List What) (own : EndReading) → Pass place ws own → ((at : ℕ) → Pass at vs (after_whats schema place ws own)) → Pass place (ws ++ vs) own
  pass-append place [] vs own a b = b place
  pass-append place (w ∷ ws) vs own a b = (
    (λ more. ap (λ (ls : List Line). settled_line schema side own others w ls) (ap (λ (ls : List Line). ls ++ more) (map-append (line_at side) ws vs) ∙ append_assoc (map (line_at side) ws) (map (line_at side) vs) more) ∙ a.0 (map (line_at side) vs ++ more)),
    pass-append (place + 1) ws vs (after_what schema place w own) a.1 b,
  )

  -- Rejections

  and-true : (a b : Bool) → a ≡ true → b ≡ true → a && b ≡ true
  and-true true b e f = f
  and-true false b e f = cc

  -- what was settled leaves the others unsettled
  later-unsettled : (read : PromiseReading) (n : ℤ) (ns : List ℤ) → AllByRecursion (λ m. n ≢ m) ns → AllByRecursion (IsUnsettled read) ns → AllByRecursion (IsUnsettled (record read { settled = read.settled ++ n ∷ [] })) ns
  later-unsettled read n [] d h = tt
  later-unsettled read n (m ∷ ns) d h = (
    ap (λ (b : Bool). option_map_or (λ (r : Request). r.wants) (find (λ r. int_eq r.seq m) read.requests) false && not b) (has-append read.settled (n ∷ []) m ∙ (ap (λ (b : Bool). has read.settled m || (b || false)) (int-apart n m d.0) ∙ or-none (has read.settled m))) ∙ h.0,
    later-unsettled read n ns d.1 h.1,
  )
    where
      or-none : (b : Bool) → b || false ≡ b
      or-none true = refl
      or-none false = refl

  abbrev rejecting : Reason → List ℤ → List What
  rejecting why ns = map (λ n. what.Rejected n why) ns

  rejections-are : (test : Promise → Bool) (why : Reason) (promises : List PromiseEntry) → fall.rejections test why promises ≡ rejecting why (numbers_passing (passes test) promises)
  rejections-are test why promises = each (filter (passes test) promises)
    where
      each : (entries : List PromiseEntry) → map (λ (entry : PromiseEntry). what.Rejected entry.promise.seq why) entries ≡ rejecting why (map promise_seq entries)
      each [] = refl
      each (entry ∷ entries) = ap (λ (ws : List What). what.Rejected entry.promise.seq why ∷ ws) (each entries)

  -- in a closing
  closing-pass : (place : ℕ) (ns : List ℤ) (own : EndReading) → is_close_event own.event ≡ true → AreDistinct ns → AllByRecursion (IsUnsettled (promise_reading own)) ns → Pass place (rejecting ChannelClosed ns) own
  closing-pass place [] own event d h = tt
  closing-pass place (n ∷ ns) own event d h =
      ((λ more. and-true (is_unsettled own n) (is_close_event own.event) h.0 event), closing-pass (place + 1) ns (settling n own) event d.1 (later-unsettled (promise_reading own) n ns d.0 h.1))

  -- before the fall of an actor

  same-own : (s : Side) → same_side s s ≡ true
  same-own Parent = refl
  same-own Child = refl

  fall-next : (ns : List ℤ) (id : ℤ) (why : Destroy) (tail : List What) (more : List Line) → falls_next side id (map (line_at side) (rejecting ActorDestroyed ns ++ what.Fall id why ∷ tail) ++ more) ≡ true
  fall-next [] id why tail more = and-true (same_side side side) (int_eq id id) (same-own side) (int-same id)
  fall-next (n ∷ ns) id why tail more = fall-next ns id why tail more

  destroyed-next : (own : EndReading) (n id : ℤ) (following : List Line) → GoesTo (promise_reading own) id n → falls_next side id following ≡ true → is_destroyed schema side own others n following ≡ true
  unfolding is_destroyed promise_falls_next
  destroyed-next own n id following goes next = by (reports_destroyed schema own others n) (next-route (find (λ (r : Request). int_eq r.seq n) (requests_of own.sent)) goes)
    where
      next-route : (found : Option Request) → option_map (λ (r : Request). r.route) found ≡ Some id → option_map_or (λ (r : Request). falls_next side r.route following) found false ≡ true
      next-route None e = cc
      next-route (Some r) e = ap (λ (x : ℤ). falls_next side x following) (same_Some r.route id e) ∙ next

      by : (b : Bool) → promise_falls_next side own n following ≡ true → (if b then true else promise_falls_next side own n following) ≡ true
      by true e = refl
      by false e = e

  falling-pass : (place : ℕ) (ns : List ℤ) (id : ℤ) (why : Destroy) (own : EndReading) → AreDistinct ns → AllByRecursion (IsUnsettled (promise_reading own)) ns → AllByRecursion (GoesTo (promise_reading own) id) ns → Pass place (rejecting ActorDestroyed ns ++ what.Fall id why ∷ []) own
  falling-pass place [] id why own d h goes = ((λ more. refl), tt)
  falling-pass place (n ∷ ns) id why own d h goes = (
    (λ more. and-true (is_unsettled own n) (is_destroyed schema side own others n (map (line_at side) (rejecting ActorDestroyed ns ++ what.Fall id why ∷ []) ++ more)) h.0 (destroyed-next own n id (map (line_at side) (rejecting ActorDestroyed ns ++ what.Fall id why ∷ []) ++ more) goes.0 (fall-next ns id why [] more))),
    falling-pass (place + 1) ns id why (settling n own) d.1 (later-unsettled (promise_reading own) n ns d.0 h.1) goes.1,
  )

  -- what is unsettled after others that were settled
  others-unsettled : (read : PromiseReading) (ns ms : List ℤ) → AreDistinct (ns ++ ms) → AllByRecursion (IsUnsettled read) ms → AllByRecursion (IsUnsettled (record read { settled = read.settled ++ ns })) ms
  others-unsettled read [] ms d h = subst (λ (l : List ℤ). AllByRecursion (IsUnsettled (record read { settled = l })) ms) (sym (append-nil read.settled)) h
  others-unsettled read (n ∷ ns) ms d h =
      let one : AllByRecursion (IsUnsettled (record read { settled = read.settled ++ n ∷ [] })) ms = later-unsettled read n ms (all-following ns ms d.0) h in
      subst (λ (l : List ℤ). AllByRecursion (IsUnsettled (record read { settled = l })) ms) (append_assoc read.settled (n ∷ []) ns) (others-unsettled (record read { settled = read.settled ++ n ∷ [] }) ns ms d.1 one)
    where
      all-following : (xs ys : List ℤ) → AllByRecursion (λ later. n ≢ later) (xs ++ ys) → AllByRecursion (λ later. n ≢ later) ys
      all-following [] ys h = h
      all-following (x ∷ xs) ys h = all-following xs ys h.1

  distinct-both : (ns ms : List ℤ) → AreDistinct (ns ++ ms) → AreDistinct ns × AreDistinct ms
  distinct-both [] ms d = (tt, d)
  distinct-both (n ∷ ns) ms d = let r = distinct-both ns ms d.1 in ((all-front ns ms d.0, r.0), r.1)
    where
      all-front : (xs ys : List ℤ) → AllByRecursion (λ later. n ≢ later) (xs ++ ys) → AllByRecursion (λ later. n ≢ later) xs
      all-front [] ys h = tt
      all-front (x ∷ xs) ys h = (h.0, all-front xs ys h.1)

  all-both : (P : ℤ → Type 0) (ns ms : List ℤ) → AllByRecursion P (ns ++ ms) → AllByRecursion P ns × AllByRecursion P ms
  all-both P [] ms h = (tt, h)
  all-both P (n ∷ ns) ms h = let r = all-both P ns ms h.1 in ((h.0, r.0), r.1)

  -- actors fall one after another, each with its promises
  abbrev GoToEach : PromiseReading → List PromiseEntry → List Actor → Type 0
  GoToEach read promises fs = AllByRecursion (λ a. AllByRecursion (GoesTo read a.id) (numbers_passing (passes (is_pending_of a.id)) promises)) fs

  same-requests : (read : PromiseReading) (ns : List ℤ) (promises : List PromiseEntry) (fs : List Actor) → GoToEach read promises fs → GoToEach (record read { settled = ns }) promises fs
  same-requests read ns promises fs h = h

  subtree-pass : (place : ℕ) (why : ℤ → Destroy) (promises : List PromiseEntry) (fs : List Actor) (own : EndReading) → AreDistinct (numbers_falling promises fs) → AllByRecursion (IsUnsettled (promise_reading own)) (numbers_falling promises fs) → GoToEach (promise_reading own) promises fs
      → Pass place (flat_map (fall.fall_lines why promises) fs) own
  subtree-pass place why promises [] own d h goes = tt
  subtree-pass place why promises (a ∷ fs) own d h goes =
      let mine : List ℤ = numbers_passing (passes (is_pending_of a.id)) promises in
      let ws : List What = fall.fall_lines why promises a in
      let vs : List What = flat_map (fall.fall_lines why promises) fs in
      let two = distinct-both mine (numbers_falling promises fs) d in
      let all = all-both (IsUnsettled (promise_reading own)) mine (numbers_falling promises fs) h in
      let next : EndReading = after_whats schema place ws own in
      let read_next : promise_reading next ≡ record (promise_reading own) { settled = own.settled ++ mine } =
      effects-read schema place ws own (all-append IsEffectLine (fall.rejections (is_pending_of a.id) ActorDestroyed promises) (what.Fall a.id (why a.id) ∷ []) (rejection-effects (is_pending_of a.id) ActorDestroyed promises) (fell a.id (why a.id), tt))
      ∙ ap (λ (ns : List ℤ). record (promise_reading own) { settled = own.settled ++ ns })
      (settled-append (fall.rejections (is_pending_of a.id) ActorDestroyed promises) (what.Fall a.id (why a.id) ∷ []) ∙ (append-nil (settled_by_lines (fall.rejections (is_pending_of a.id) ActorDestroyed promises)) ∙ rejections-settle (is_pending_of a.id) ActorDestroyed promises)) in
      pass-append place ws vs own
      (subst (λ (rs : List What). Pass place (rs ++ what.Fall a.id (why a.id) ∷ []) own) (sym (rejections-are (is_pending_of a.id) ActorDestroyed promises)) (falling-pass place mine a.id (why a.id) own two.0 all.0 goes.0))
      (λ at. subtree-pass at why promises fs next two.1
      (subst (λ (read : PromiseReading). AllByRecursion (IsUnsettled read) (numbers_falling promises fs)) (sym read_next) (others-unsettled (promise_reading own) mine (numbers_falling promises fs) d all.1))
      (subst (λ (read : PromiseReading). GoToEach read promises fs) (sym read_next) (same-requests (promise_reading own) (own.settled ++ mine) promises fs goes.1)))

  fall-pass : (place : ℕ) (id : ℤ) (why : ℤ → Destroy) (e : End) (own : EndReading) → IsTree e.actors → PromisesAreRead e own → Pass place (fall_lines id why e) own
  fall-pass place id why e own tree h =
      let fs : List Actor = falling id e in
      subtree-pass place why e.promises fs own
      (falling-distinct e.promises fs (promises-distinct e.side e.promises e.sent (promise_reading own) h) (falls_once id e.actors tree))
      (falling-unsettled e.side e.promises e.sent (promise_reading own) fs h)
      (each fs)
    where
      each : (fs : List Actor) → GoToEach (promise_reading own) e.promises fs
      each [] = tt
      each (a ∷ fs) = (passing-go e.side e.promises e.sent (promise_reading own) a.id h, each fs)

  -- Later parts

  -- in a closing the event is a closing
  abbrev pub ClosesWith : Phase → EndReading → Type 0
  ClosesWith p own = (why : Destroy) → p.due ≡ closing why → is_close_event own.event ≡ true

  pub later-settles : {p q : Phase} {e f : End} {ws : List What} {ps : List Packet} (place : ℕ) (own : EndReading) → LaterPart p e ws ps f q → IsTree e.actors → ClosesWith p own → PromisesAreRead e own → Pass place ws own
  later-settles place own (Parts.unnames name may silent) tree closes h = tt
  later-settles place own (Parts.lets_go name r may held o) tree closes h = quiet-pass place (what.AnswerFault r.seq ResolverDestroyed ∷ []) own (tt, tt)
  later-settles place own (Parts.names more holds) tree closes h = tt
  later-settles place own (Parts.releases seq is) tree closes h = tt
  later-settles place own (Parts.keeps seq name r is o) tree closes h = tt
  later-settles place own (Parts.builds id protocol rest fresh alive) tree closes h = quiet-pass place (what.Built id protocol ∷ []) own (tt, tt)
  later-settles {e = e} place own (Parts.deletes id is) tree closes h = fall-pass place id (fall.why_deleted id) e own tree h
  later-settles {e = e} place own (Parts.falls why is) tree closes h =
      pass-append place (Parts.abandoned_lines e) (fall_lines top_id (λ id. why) (Parts.abandoned_end e)) own
      (subst (λ (ws : List What). Pass place ws own) (sym (rejections-are (λ p. true) ChannelClosed e.promises))
      (closing-pass place (numbers_passing (passes (λ p. true)) e.promises) own (closes why is)
      (passing-distinct (passes (λ p. true)) e.promises (promises-distinct e.side e.promises e.sent (promise_reading own) h)) (passing-unsettled e.side e.promises e.sent (promise_reading own) (λ p. true) h)))
      (λ at. fall-pass at top_id (λ id. why) (Parts.abandoned_end e) (after_whats schema place (Parts.abandoned_lines e) own) tree (abandoned-kept schema place e own h))

  -- Lines of first parts

  refusal-nothing : (w : What) → IsRefusal schema w → SettlesNothing w
  refusal-nothing (what.RefusedSend cause number) is = tt
  refusal-nothing (what.RefusedClose cause) is = tt
  refusal-nothing (what.RefusedResolve cause) is = tt
  refusal-nothing (what.RefusedReject cause) is = tt
  refusal-nothing _ is = absurd is

  renaming-nothing : (w : What) → IsRenaming w → SettlesNothing w
  renaming-nothing (what.Keep n name) is = tt
  renaming-nothing (what.Let name id) is = tt
  renaming-nothing _ is = absurd is

  send-nothing : (b : Bool) (m : Message) (vs : Values) → SettlesNothing (if b then what.Call m.seq m.transaction m.route m.number vs else what.Send m.seq m.route m.number vs)
  send-nothing true m vs = tt
  send-nothing false m vs = tt

  answering-nothing : (n : ℤ) (vs : Option Values) → SettlesNothing (answering.answering_line n vs)
  answering-nothing n None = tt
  answering-nothing n (Some vs) = tt

  resume-nothing : (n : ℤ) (a : Answer) → SettlesNothing (return.resume_line n a)
  resume-nothing n (answer.Ok vs) = tt
  resume-nothing n (answer.Fault reason) = tt

  shut-nothing : (last : Item) → SettlesNothing (shut_line last)
  shut-nothing (item.Message m sync level) = tt
  shut-nothing item.Broken = tt

  farewell-nothing : (packet : Packet) → SettlesNothing (farewell_line packet)
  farewell-nothing (message m) = tt
  farewell-nothing mark = tt

  unknown-nothing : (n : ℤ) (body : Body) → SettlesNothing (Parts.unknown_line n body)
  unknown-nothing n (bodies.Request vs) = tt
  unknown-nothing n (bodies.Reply vs) = tt
  unknown-nothing n (bodies.Fault reason) = tt
  unknown-nothing n bodies.Goodbye = tt

  replies-nothing : (b : Bool) (q : AnsweredRequest) (a : Answer) → AllByRecursion SettlesNothing (reply_lines b q a)
  replies-nothing true q (answer.Ok vs) = (tt, tt)
  replies-nothing true q (answer.Fault reason) = (tt, tt)
  replies-nothing false q a = tt

  fails-nothing : (ns : List ℤ) → AllByRecursion SettlesNothing (map what.Fails ns)
  fails-nothing [] = tt
  fails-nothing (n ∷ ns) = (tt, fails-nothing ns)

  outcome-pass : (own : EndReading) (n : ℤ) (outcome : Outcome) (following : List Line) → is_unsettled own n ≡ true → has_cause schema side others own (take.settle_line n outcome) following ≡ true → settled_line schema side own others (take.settle_line n outcome) following ≡ true
  outcome-pass own n (Resolved vs) following first cause = and-true (is_unsettled own n) (is_resolved schema own others n vs) first cause
  outcome-pass own n (Rejected reason) following first cause = and-true (is_unsettled own n) (is_cause schema side own others n following reason) first cause

  pub awaited-unsettled : (read : PromiseReading) (n : ℤ) (promises : List PromiseEntry) → AllByRecursion (λ entry. is_pending entry.promise ≡ true → IsUnsettled read (promise_seq entry)) promises → take.is_awaited n promises ≡ true → IsUnsettled read n
  awaited-unsettled read n [] h e = cc
  awaited-unsettled read n (entry ∷ promises) h e = by (int_eq entry.promise.seq n) refl e (awaited-unsettled read n promises h.1)
    where
      later : Option PromiseEntry
      later = find (λ x. has_number n x.promise) promises

      by : (b : Bool) → int_eq entry.promise.seq n ≡ b → option_map_or (λ (x : PromiseEntry). is_pending x.promise) (cond b (Some entry) later) false ≡ true → (option_map_or (λ (x : PromiseEntry). is_pending x.promise) later false ≡ true → IsUnsettled read n) → IsUnsettled read n
      by true is e rest = subst (IsUnsettled read) ((Decides-int_eq entry.promise.seq n).0 is) (h.0 e)
      by false is e rest = rest e

  pub first-settles : {e f : End} {ws : List What} {ps : List Packet} {q : Phase} (place : ℕ) (own : EndReading) → FirstPart schema e ws ps f q → RepliesHaveCauses schema side others e own → PromisesAreRead e own → Pass place ws own
  first-settles place own (Parts.refuses w is) causes h = quiet-pass place (w ∷ []) own (refusal-nothing w is, tt)
  first-settles place own (Parts.renames w is) causes h = quiet-pass place (w ∷ []) own (renaming-nothing w is, tt)
  first-settles {e} place own (Parts.flushes o) causes h = ((λ more. refl), tt)
  first-settles {e} place own (Parts.sends row route vs name sent) causes h = quiet-pass place (send.send_line row (send.request_of e row route vs) vs ∷ []) own (send-nothing (is_sync_row row) (send.request_of e row route vs) vs, tt)
  first-settles place own (Parts.answers by vs r row found may ok used) causes h = quiet-pass place (answering.answering_line r.seq vs ∷ []) own (answering-nothing r.seq vs, tt)
  first-settles place own (Parts.closes o waits) causes h = ((λ more. refl), tt)
  first-settles place own (Parts.dies o) causes h = ((λ more. refl), tt)
  first-settles place own (Parts.dies_silent o alive) causes h = ((λ more. refl), tt)
  first-settles place own (Parts.takes m sync level row vs next body found stays) causes h = ((λ more. refl), tt)
  first-settles place own (Parts.drops m sync level row vs id replies next body found gone is) causes h =
      quiet-pass place (what.Drop m.seq m.route m.number id ∷ reply_lines replies (request_answered m) (answer.Fault ActorDestroyed)) own (tt, replies-nothing replies (request_answered m) (answer.Fault ActorDestroyed))
  first-settles place own (Parts.drops_unknown m sync level vs next body found) causes h = ((λ more. refl), tt)
  first-settles place own (Parts.takes_reply m sync level a next body late) causes h = ((λ more. refl), tt)
  first-settles {e} place own (Parts.settles m sync level row a next body found awaited) causes h =
      let taken : EndReading = after_what schema place (what.TakeReply m.seq) own in
      let outcome : Outcome = reply_outcome schema e row a in
      ((λ more. refl), ((λ more. outcome-pass taken m.seq outcome more (awaited-unsettled (promise_reading own) m.seq e.promises (pending-unsettled e.side e.promises e.sent (promise_reading own) h) awaited) (causes m sync level row a next body found awaited place more)), tt))
  first-settles place own (Parts.shuts last next is) causes h = quiet-pass place (shut_line last ∷ []) own (shut-nothing last, tt)
  first-settles {e} place own (Parts.returns entry row vs told lost may t l) causes h =
      let ls : List What = reply_lines told (return.dispatch_answered entry) (return.return_answer schema e row entry vs) in
      let ms : List What = reply_lines lost (resolver_answered (answering.resolver_in entry)) (answer.Fault ResolverDestroyed) in
      quiet-pass place (what.Return (head_of entry.frame).seq ∷ ls ++ ms) own
      (tt, all-append SettlesNothing ls ms (replies-nothing told (return.dispatch_answered entry) (return.return_answer schema e row entry vs)) (replies-nothing lost (resolver_answered (answering.resolver_in entry)) (answer.Fault ResolverDestroyed)))
  first-settles {e} place own (Parts.resumes wait row on_top found) causes h = quiet-pass place (return.resume_line wait.seq (received schema e.actors row wait.given) ∷ []) own (resume-nothing wait.seq (received schema e.actors row wait.given), tt)

  pub delivery-settles : {packet : Packet} {q : Phase} {e f : End} {ws : List What} {ps : List Packet} (place : ℕ) (own : EndReading) → DeliveryPart schema packet e ws ps f q → Pass place ws own
  delivery-settles place own (Parts.gets_request m row vs body found none) = ((λ more. refl), tt)
  delivery-settles place own (Parts.replaces m row vs old sync level replies body found is told) =
      quiet-pass place (what.DeliverRequest m.seq ∷ what.Replaced old.seq ∷ reply_lines replies (request_answered old) (answer.Fault ResolverDestroyed)) own (tt, (tt, replies-nothing replies (request_answered old) (answer.Fault ResolverDestroyed)))
  delivery-settles place own (Parts.gets_answer m row a body found is) = ((λ more. refl), tt)
  delivery-settles place own (Parts.gets_reply m row a body found is) = ((λ more. refl), tt)
  delivery-settles {e = e} place own (Parts.drains packet is) = quiet-pass place (farewell_line packet ∷ map what.Fails (delivery.unanswered e)) own (farewell-nothing packet, fails-nothing (delivery.unanswered e))
  delivery-settles place own (Parts.passes_by m is found) = quiet-pass place (Parts.unknown_line m.seq m.body ∷ []) own (unknown-nothing m.seq m.body, tt)

  -- Closings

  kind-opens : {A : Type 0} (kind : Kind) (route : ℤ) (why : Destroy) → kind_cause kind route ≡ closing why → A
  kind-opens Normal route why e = cc
  kind-opens (Constructor protocol) route why e = cc
  kind-opens Delete route why e = cc

  shut-closes : (place : ℕ) (last : Item) (own : EndReading) → is_close_event (after_what schema place (shut_line last) own).event ≡ true
  shut-closes place (item.Message m sync level) own = refl
  shut-closes place item.Broken own = refl

  pub first-closes : {e f : End} {ws : List What} {ps : List Packet} {q : Phase} (place : ℕ) (own : EndReading) → FirstPart schema e ws ps f q → ClosesWith q (after_whats schema place ws own)
  first-closes place own (Parts.refuses w is) why e = cc
  first-closes place own (Parts.renames w is) why e = cc
  first-closes place own (Parts.flushes o) why e = cc
  first-closes place own (Parts.sends row route vs name sent) why e = kind-opens row.kind route why e
  first-closes place own (Parts.answers by vs r row found may ok used) why e = cc
  first-closes place own (Parts.closes o waits) why e = refl
  first-closes place own (Parts.dies o) why e = cc
  first-closes place own (Parts.dies_silent o alive) why e = cc
  first-closes place own (Parts.takes m sync level row vs next body found stays) why e = cc
  first-closes place own (Parts.drops m sync level row vs id replies next body found gone is) why e = cc
  first-closes place own (Parts.drops_unknown m sync level vs next body found) why e = cc
  first-closes place own (Parts.takes_reply m sync level a next body late) why e = cc
  first-closes place own (Parts.settles m sync level row a next body found awaited) why e = cc
  first-closes place own (Parts.shuts last next is) why e = shut-closes place last own
  first-closes place own (Parts.returns entry row vs told lost may t l) why e = kind-opens row.kind entry.route why e
  first-closes place own (Parts.resumes wait row on_top found) why e = cc

  event-left : (place : ℕ) (w : What) (own : EndReading) → IsEffectLine w → (after_what schema place w own).event ≡ own.event
  event-left place w own (built id protocol) = refl
  event-left place w own (answers_ok n vs) = refl
  event-left place w own (answers_fault n reason) = refl
  event-left place w own (fails n) = refl
  event-left place w own (resolved n vs) = refl
  event-left place w own (rejected n reason) = refl
  event-left place w own (fell id why) = refl

  -- a closing that is due after a later part was due before
  later-due : {p q : Phase} {e f : End} {ws : List What} {ps : List Packet} → LaterPart p e ws ps f q → (why : Destroy) → q.due ≡ closing why → p.due ≡ closing why
  later-due (Parts.unnames name may silent) why due = due
  later-due (Parts.lets_go name r may held o) why due = due
  later-due (Parts.names more holds) why due = due
  later-due (Parts.releases seq is) why due = due
  later-due (Parts.keeps seq name r is o) why due = due
  later-due (Parts.builds id protocol rest fresh is) why due = due
  later-due (Parts.deletes id is) why due = cc
  later-due (Parts.falls other_reason is) why due = cc

  later-closes : {p q : Phase} {e f : End} {ws : List What} {ps : List Packet} (place : ℕ) (own : EndReading) → LaterPart p e ws ps f q → ClosesWith p own → ClosesWith q (after_whats schema place ws own)
  later-closes {ws = ws} place own part closes why is = ap is_close_event (effects-leave (λ (read : EndReading). read.event) schema event-left place ws own (later-effects part)) ∙ closes why (later-due part why is)

  -- Steps of an end's own

  laters-settle : {p q : Phase} {e f : End} {ws : List What} {ps : List Packet} (place : ℕ) (own : EndReading) → LaterParts p e ws ps f q → KeepsActors schema p e (actor_reading own) → ClosesWith p own → PromisesAreRead e own → Pass place ws own
  laters-settle place own Parts.done actors closes h = tt
  laters-settle place own (Parts.then {ws} {vs} part rest) actors closes h =
      pass-append place ws vs own (later-settles place own part actors.ids.tree closes h)
      (λ at. laters-settle at (after_whats schema place ws own) rest (later-kept schema place own part actors).kept (later-closes place own part closes) (later-keeps-promises schema place own part h))

  pub own-settles : HasSoundRows schema → {q : Phase} {e f : End} {ws : List What} {ps : List Packet} (place : ℕ) (own : EndReading) → OwnParts schema e ws ps f q → ReadsActors schema e own → RepliesHaveCauses schema side others e own → PromisesAreRead e own → Pass place ws own
  own-settles rows place own (Parts.begun {ws} {vs} part rest ended) actors causes h =
      pass-append place ws vs own (first-settles place own part causes h)
      (λ at. laters-settle at (after_whats schema place ws own) rest (first-kept schema rows place own part actors).kept (first-closes place own part) (first-keeps-promises schema place own part h))
