-- Each part keeps what an end reads of its actors, and its lines pass the law of falls.
use Rattle.std.proofs.Common.{◌≡◌, ◌≢◌, inl, inr, ℕ, ◌+◌, ◌*◌, ◌≤◌, ℤ, pos, Bool, true, false, not, ◌||◌, if◌then◌else◌, List, [], ◌∷◌, ◌++◌, map, Option, Some, None, refl, sym, ap, subst, ◌∙◌, arith}
use Rattle.std.specs.List.{AllByRecursion}
use Rattle.std.proofs.lemmas.Bool.{cases_Bool}
use Rattle.std.proofs.lemmas.List.{map-append}
use Rattle.actor_tree.specs.declared.actor.Actor.{Actor}
use Rattle.actor_tree.specs.Fall.{post_order, others}
use Rattle.actor_tree.specs.Tree.{lives}
use Rattle.actor_tree.proofs.Ids.{same_or_other, other as other-id, lives-true}
use Rattle.actor_tree.proofs.Kept.{IsTree-append}
use Rattle.ipdl_base.specs.declared.kinds.Destroy.{Destroy}
use Rattle.ipdl_base.specs.declared.kinds.Reason.TheVariants.{ActorDestroyed, ChannelClosed, ResolverDestroyed}
use Rattle.ipdl_base.specs.declared.kinds.Side.{Side}
use Rattle.ipdl_base.specs.declared.kinds.Side.TheVariants.{Parent, Child}
use Rattle.ipdl_base.specs.declared.line.What.{What}
use Rattle.ipdl_base.specs.declared.line.What.TheVariants as what
use Rattle.ipdl_base.specs.declared.message.Body.{Body}
use Rattle.ipdl_base.specs.declared.message.Body.TheVariants.{Request, Reply, Fault, Goodbye}
use Rattle.ipdl_base.specs.declared.message.Message.{Message}
use Rattle.ipdl_base.specs.declared.schema.Schema.{Schema}
use Rattle.ipdl_base.specs.declared.value.Values.{Values}
use Rattle.nesting_core.specs.declared.frame.Answer.{Answer}
use Rattle.nesting_core.specs.declared.frame.Answer.TheVariants as answer
use Rattle.nesting_core.specs.Frames.{head_of}
use Rattle.pending_queue.specs.declared.item.Item.{Item}
use Rattle.pending_queue.specs.declared.item.Item.TheVariants as item
use Rattle.history_reading.specs.declared.parts.BuiltActor.{BuiltActor}
use Rattle.history_reading.specs.declared.parts.Cause.{Cause}
use Rattle.history_reading.specs.declared.parts.Cause.TheVariants as read_cause
use Rattle.history_reading.specs.EndReading.{EndReading, was_built}
use Rattle.history_reading.specs.Fallen.{lets_fall}
use Rattle.history_reading.specs.Numbers.{has}
use Rattle.history_reading.specs.Reading.{after_what, route_of}
use Rattle.channel_model.specs.Actors.{Ids, IsTaken, AreKnown}
use Rattle.channel_model.specs.Answers as answering
use Rattle.channel_model.specs.Deliveries as delivery
use Rattle.channel_model.specs.Ends.{End, Packet, message, mark, StackEntry, PromiseEntry, Naming}
use Rattle.channel_model.specs.Falls as fall
use Rattle.channel_model.specs.Names.{without_name}
use Rattle.ipdl_base.specs.Sides.{top_id}
use Rattle.channel_model.specs.Numbers.{id_of, is_sync_row}
use Rattle.channel_model.specs.Outputs.{request_answered, resolver_answered}
use Rattle.channel_model.specs.Parts as part
use Rattle.channel_model.specs.Parts.{FirstPart, LaterPart, LaterParts, OwnParts, DeliveryPart, IsRefusal, IsRenaming, reply_lines, farewell_line}
use Rattle.channel_model.specs.Phases.{EventStart, sends, takes, ends, closes, other, manager_of, nobody, deletion, closing, Phase}
use Rattle.channel_model.specs.Returns as return
use Rattle.channel_model.specs.Sends as send
use Rattle.channel_model.specs.Takes as take
use Rattle.channel_model.specs.ValueActors.{received}
use Rattle.channel_model.proofs.Known.{all-append, all-map, tree-others}
use Rattle.channel_laws.specs.EndActors.{ActorReading, actor_reading, handled_entry, shown_actor, standing, shown_event, shown_cause, ShowsLiving, FallsAreWhole, built_actor, built_ids, IsPending, HasIds, HasNextId, KeepsActors, IsFallenLine, ReadsActors}
use Rattle.channel_laws.specs.Notes.{In, here, there}
use Rattle.channel_laws.specs.Rows.{HasSoundRows}
use Rattle.channel_laws.specs.Tested.{after_whats, EndLinesPass}
use Rattle.channel_laws.proofs.ActorFalls.{one-may_fall, deleted-allowed, closing-allowed, fallen_reading, none-fallen, falls-read, falls-pass}
use Rattle.channel_laws.proofs.ActorIds.{known-built, first-ids, delivery-ids}
use Rattle.channel_laws.proofs.ActorLines.{SaysNoActor, replaced, says_fault, no_actor-read, no_actor-reply, no_actor-rejections, no_actor-fails, no_actor-settles, no_actor-pass}
use Rattle.channel_laws.proofs.ActorParts.{Begins, first-begins, delivery-begins, first-due, delivery-due, released-handled}
use Rattle.channel_laws.proofs.FallOrder.{in-order, has-in}
use Rattle.channel_laws.proofs.Growing.{whats-append}
use Rattle.channel_laws.proofs.Standing.{ids_in, standing-falls, standing-last, alive-unfallen, alive-built, built-lives, built-more}
use Rattle.channel_laws.proofs.Testing.{tested-append}

-- No actor has the id 0

id-not_zero : (side : Side) (k : ℕ) → 1 ≤ k → pos 0 ≢ id_of side k
id-not_zero Parent k one e = let f : 0 ≡ 4 * k + 2 = cc in absurd (omega arith)
id-not_zero Child k one e = let f : 0 ≡ 4 * k = cc in absurd (omega arith)

pub zero-free : (ids : Ids) → IsTaken ids (pos 0) → ⊥
zero-free ids (inl e) = let f : ◌≡◌ {A = ℕ} 0 2147483647 = cc in absurd (omega arith)
zero-free ids (inr (inl (k, one, low, e))) = id-not_zero _ k one e
zero-free ids (inr (inr (k, one, low, e))) = id-not_zero _ k one e

-- an actor that lives was built, and has an id that is taken
pub lives-taken : (schema : Schema) (fresh : List ℤ) (e : End) (built : List BuiltActor) (fallen : List ℤ) → ShowsLiving e.actors built fallen → HasIds schema fresh e built → (id : ℤ) → lives id e.actors ≡ true → IsTaken (built_ids schema e built) id
lives-taken schema fresh e built fallen shows ids id alive = ids.known.taken id (built-lives built id ∙ alive-built built fallen e.actors id shows.living alive)

zero-dead : (schema : Schema) (fresh : List ℤ) (e : End) (built : List BuiltActor) (fallen : List ℤ) → ShowsLiving e.actors built fallen → HasIds schema fresh e built → lives (pos 0) e.actors ≡ false
zero-dead schema fresh e built fallen shows ids = elim (cases_Bool (lives (pos 0) e.actors)) [
  | inl t ↦ absurd (zero-free (built_ids schema e built) (lives-taken schema fresh e built fallen shows ids (pos 0) t))
  | inr f ↦ f
]

-- Later parts

-- names, stacks, outboxes and promises are not read here
left-keeps : (schema : Schema) (p : Phase) (renames : Bool) (e : End) (read : ActorReading) (stack : List StackEntry) (names : List Naming) (outbox : List Message) (promises : List PromiseEntry) → map handled_entry stack ≡ map handled_entry e.stack → KeepsActors schema p e read
    → KeepsActors schema (record p { renames = renames }) (record e { stack = stack; names = names; outbox = outbox; promises = promises }) read
left-keeps schema p renames e read stack names outbox promises same k = record {
  living = k.living;
  event = record { event = k.event.event; cause = k.event.cause; handled = k.event.handled ∙ sym same };
  falls = record { over = k.falls.over; due = k.falls.due };
  ids = record { tree = k.ids.tree; known = k.ids.known; pending = k.ids.pending };
}

-- an actor is built

no-actor : {A : Type 0} (id : ℤ) (actors : List Actor) → lives id actors ≡ true → actors ≡ [] → A
no-actor id actors alive none = let k : true ≡ false = sym alive ∙ ap (lives id) none in cc

route-shown : (start : EventStart) → route_of (shown_event start) ≡ manager_of start
route-shown (sends seq route) = refl
route-shown (takes seq route) = refl
route-shown ends = refl
route-shown closes = refl
route-shown other = refl

-- an actor that is still to be built was not built before
pub fresh-unbuilt : (schema : Schema) (p : Phase) (e : End) (read : ActorReading) (id : ℤ) (rest : List ℤ) → p.fresh ≡ id ∷ rest → KeepsActors schema p e read → was_built read.built id ≡ false
fresh-unbuilt schema p e read id rest fresh k = let pending : IsPending (built_ids schema e read.built) (id ∷ rest) = subst (IsPending (built_ids schema e read.built)) fresh k.ids.pending in sym (built-lives read.built id) ∙ pending.1

builds-keeps : (schema : Schema) (p : Phase) (e : End) (read : ActorReading) (id : ℤ) (protocol : ℕ) (rest : List ℤ) → p.fresh ≡ id ∷ rest → lives (manager_of p.start) e.actors ≡ true → KeepsActors schema p e read
    → KeepsActors schema (record p { fresh = rest }) (record e { actors = e.actors ++ record { id = id; protocol = protocol; manager = manager_of p.start } ∷ [] }) (record read { built = read.built ++ record { id = id; manager = route_of read.event } ∷ [] })
builds-keeps schema p e read id protocol rest fresh alive k =
    let pending : IsPending (built_ids schema e read.built) (id ∷ rest) = subst (IsPending (built_ids schema e read.built)) fresh k.ids.pending in
    let manager : route_of read.event ≡ manager_of p.start = ap route_of k.event.event ∙ route-shown p.start in
    let one : BuiltActor = record { id = id; manager = route_of read.event } in
    let made : Actor = record { id = id; protocol = protocol; manager = manager_of p.start } in
    let unbuilt : was_built read.built id ≡ false = fresh-unbuilt schema p e read id rest fresh k in
    let dead : lives id e.actors ≡ false = unbuilt-dead id unbuilt in
    let shown : lives (manager_of p.start) (map built_actor read.built) ≡ true = built-lives read.built (manager_of p.start) ∙ alive-built read.built read.fallen e.actors (manager_of p.start) k.living.living alive in
    record {
      living = record {
        living = standing-last read.fallen read.built one (unbuilt-standing id unbuilt)
            ∙ (ap (λ (xs : List BuiltActor). xs ++ one ∷ []) k.living.living ∙ (ap (λ (m : ℤ). map shown_actor e.actors ++ record { id = id; manager = m } ∷ []) manager ∙ sym (map-append shown_actor e.actors (made ∷ []))));
        fell = all-map (λ n. was_built read.built n ≡ true) (λ n. was_built (read.built ++ one ∷ []) n ≡ true) read.fallen (λ n b. built-more read.built one n b) k.living.fell;
      };
      event = record { event = k.event.event; cause = k.event.cause; handled = k.event.handled };
      falls = record { over = λ o. elim (k.falls.over o) [ inl c ↦ inl c | inr none ↦ no-actor (manager_of p.start) e.actors alive none ]; due = k.falls.due };
      ids = record {
        tree = IsTree-append e.actors made k.ids.tree dead alive;
        known = subst (λ (actors : List Actor). AreKnown 0 (record (built_ids schema e read.built) { actors = actors })) (sym (map-append built_actor read.built (one ∷ [])))
            (known-built 0 (built_ids schema e read.built) (built_actor one) k.ids.known (λ t. refl) pending.0 pending.1 pending.2 (subst (λ (m : ℤ). lives m (map built_actor read.built) ≡ true) (sym manager) shown));
        pending = subst (IsPending (built_ids schema (record e { actors = e.actors ++ made ∷ [] }) (read.built ++ one ∷ []))) (sym pending.3) tt;
      };
    }
  where
    not-true : (b : Bool) → (b ≡ true → ⊥) → b ≡ false
    not-true true n = absurd (n refl)
    not-true false n = refl

    unbuilt-dead : (n : ℤ) → was_built read.built n ≡ false → lives n e.actors ≡ false
    unbuilt-dead n u = not-true (lives n e.actors) (λ t. let z : true ≡ false = sym (alive-built read.built read.fallen e.actors n k.living.living t) ∙ u in cc)

    fallen-built : (fallen : List ℤ) (n : ℤ) → AllByRecursion (λ id. was_built read.built id ≡ true) fallen → has fallen n ≡ true → was_built read.built n ≡ true
    fallen-built [] n a h = cc
    fallen-built (m ∷ ms) n a h = elim (same_or_other m n) [
      | inl s ↦ subst (λ (i : ℤ). was_built read.built i ≡ true) s a.0
      | inr d ↦ fallen-built ms n a.1 (sym (ap (λ (b : Bool). b || has ms n) (other-id m n d)) ∙ h)
    ]

    unbuilt-standing : (n : ℤ) → was_built read.built n ≡ false → has read.fallen n ≡ false
    unbuilt-standing n u = not-true (has read.fallen n) (λ t. let z : true ≡ false = sym (fallen-built read.fallen n k.living.fell t) ∙ u in cc)

-- A subtree falls

all-ids : (P : ℤ → Type 0) (xs : List Actor) → ((x : Actor) → In x xs → P x.id) → AllByRecursion P (ids_in xs)
all-ids P [] h = tt
all-ids P (x ∷ xs) h = (h x here, all-ids P xs (λ y i. h y (there i)))

-- what is read after the fall of a subtree is the end after it
fallen-keeps : (schema : Schema) (p : Phase) (e : End) (read : ActorReading) (id : ℤ) → KeepsActors schema p e read → KeepsActors schema (record p { due = nobody }) (part.fallen_end id e) (fallen_reading read (post_order id e.actors))
fallen-keeps schema p e read id k =
    let fs : List Actor = post_order id e.actors in
    record {
      living = record {
        living = standing-falls read.built read.fallen fs e.actors k.living.living;
        fell = all-append (λ n. was_built read.built n ≡ true) read.fallen (ids_in fs) k.living.fell
            (all-ids (λ n. was_built read.built n ≡ true) fs (λ x i. alive-built read.built read.fallen e.actors x.id k.living.living (lives-true x.id e.actors (has-in e.actors x (in-order id e.actors x i)))));
      };
      event = record { event = k.event.event; cause = k.event.cause; handled = k.event.handled };
      falls = record { over = λ o. elim (k.falls.over o) [ inl c ↦ inl c | inr none ↦ inr (ap (others fs) none) ]; due = inl refl };
      ids = record { tree = tree-others id e.actors k.ids.tree; known = k.ids.known; pending = k.ids.pending };
    }

-- a fall that is due has the cause of the event, and is its first
due-now : (p : Phase) (e : End) (read : ActorReading) → p.due ≢ nobody → FallsAreWhole p e read → (p.due ≡ p.cause) × (read.falls ≡ [])
due-now p e read some k = elim k.due [ inl none ↦ absurd (some none) | inr now ↦ now ]

-- the lines of the fall pass, where each of them has its reason
fallen-pass : (schema : Schema) (place : ℕ) (p : Phase) (e : End) (own : EndReading) (why : ℤ → Destroy) (id : ℤ) → own.falls ≡ []
    → ((a : Actor) → In a (post_order id e.actors) → lets_fall own.built own.cause a.id (why a.id) ≡ true) → KeepsActors schema p e (actor_reading own)
    → EndLinesPass schema IsFallenLine place (part.fall_lines id why e) own
fallen-pass schema place p e own why id none allowed k =
    falls-pass schema why e.promises (actor_reading own) (post_order id e.actors) none
    (λ front a back order. one-may_fall own.built own.fallen e.actors k.living.living k.ids.tree (zero-dead schema p.fresh e own.built own.fallen k.living k.ids) id own.cause (why a.id) front a back order (allowed a (subst (In a) (sym order) (in-middle front a back))))
    place [] (post_order id e.actors) own refl (sym (none-fallen (actor_reading own)))
  where
    in-middle : (front : List Actor) (a : Actor) (back : List Actor) → In a (front ++ a ∷ back)
    in-middle [] a back = here
    in-middle (x ∷ front) a back = there (in-middle front a back)

-- What a later part keeps, with lines that pass.
pub record KeptBy (schema : Schema) (place : ℕ) (ws : List What) (own : EndReading) (q : Phase) (f : End) : Type 0 where
  pub pass : EndLinesPass schema IsFallenLine place ws own
  pub kept : KeepsActors schema q f (actor_reading (after_whats schema place ws own))

falls-kept : (schema : Schema) (place : ℕ) (p : Phase) (e : End) (own : EndReading) (why : ℤ → Destroy) (id : ℤ) → own.falls ≡ []
    → ((a : Actor) → In a (post_order id e.actors) → lets_fall own.built own.cause a.id (why a.id) ≡ true) → KeepsActors schema p e (actor_reading own)
    → KeptBy schema place (part.fall_lines id why e) own (record p { due = nobody }) (part.fallen_end id e)
falls-kept schema place p e own why id none allowed k = record {
  pass = fallen-pass schema place p e own why id none allowed k;
  kept = subst (KeepsActors schema (record p { due = nobody }) (part.fallen_end id e)) (sym (falls-read schema why e.promises place (post_order id e.actors) own)) (fallen-keeps schema p e (actor_reading own) id k);
}

quiet-kept : (schema : Schema) (place : ℕ) (ws : List What) (own : EndReading) (q : Phase) (f : End) → AllByRecursion SaysNoActor ws → KeepsActors schema q f (actor_reading own) → KeptBy schema place ws own q f
quiet-kept schema place ws own q f l k = record { pass = no_actor-pass schema place ws own l; kept = subst (KeepsActors schema q f) (sym (no_actor-read schema place ws own l)) k }

-- one part after another
then-kept : (schema : Schema) (place : ℕ) (ws vs : List What) (own : EndReading) (p q : Phase) (f g : End) → KeptBy schema place ws own p f → ((at : ℕ) → KeptBy schema at vs (after_whats schema place ws own) q g) → KeptBy schema place (ws ++ vs) own q g
then-kept schema place ws vs own p q f g first rest =
    let s = whats-append schema place ws vs own in
    record { pass = tested-append schema IsFallenLine place ws vs own first.pass (λ at. (rest at).pass); kept = subst (λ (h : EndReading). KeepsActors schema q g (actor_reading h)) (sym s.1) (rest s.0).kept }

-- an end that closes, and has rejected its promises
closing-kept : (schema : Schema) (place : ℕ) (p : Phase) (e : End) (own : EndReading) (why : Destroy) → p.due ≡ closing why → KeepsActors schema p e (actor_reading own)
    → KeptBy schema place (part.fall_lines top_id (λ n. why) e) own (record p { due = nobody }) (part.fallen_end top_id e)
closing-kept schema place p e own why is k =
    let now : (p.due ≡ p.cause) × (own.falls ≡ []) = due-now p e (actor_reading own) (λ none. let z : closing why ≡ nobody = sym is ∙ none in cc) k.falls in
    falls-kept schema place p e own (λ n. why) top_id now.1 (λ a i. ap (λ (c : Cause). lets_fall own.built c a.id why) (k.event.cause ∙ ap shown_cause (sym now.0 ∙ is)) ∙ closing-allowed own.built why a.id) k

pub later-kept : (schema : Schema) (place : ℕ) (own : EndReading) {p q : Phase} {e f : End} {ws : List What} {ps : List Packet} → LaterPart p e ws ps f q → KeepsActors schema p e (actor_reading own) → KeptBy schema place ws own q f
later-kept schema place own {p} {q} {e} {f} (part.unnames name may silent) k = quiet-kept schema place [] own q f tt (left-keeps schema p false e (actor_reading own) e.stack (without_name name e.names) e.outbox e.promises refl k)
later-kept schema place own {p} {q} {e} {f} (part.lets_go name r may held o) k =
    quiet-kept schema place (what.AnswerFault r.seq ResolverDestroyed ∷ []) own q f (says_fault r.seq ResolverDestroyed, tt) (left-keeps schema p false e (actor_reading own) e.stack (without_name name e.names) [] e.promises refl k)
later-kept schema place own {p} {q} {e} {f} (part.names more a) k = quiet-kept schema place [] own q f tt (left-keeps schema p p.renames e (actor_reading own) e.stack (e.names ++ more) e.outbox e.promises refl k)
later-kept schema place own {p} {q} {e} {f} (part.releases seq c) k =
    quiet-kept schema place [] own q f tt (left-keeps schema p p.renames e (actor_reading own) (answering.released seq e.stack) e.names e.outbox e.promises (released-handled seq e.stack) k)
later-kept schema place own {p} {q} {e} {f} (part.keeps seq name r is c) k =
    quiet-kept schema place [] own q f tt (left-keeps schema p p.renames e (actor_reading own) (answering.released seq e.stack) f.names e.outbox e.promises (released-handled seq e.stack) k)
later-kept schema place own {p} {q} {e} {f} (part.builds id protocol rest fresh built) k = record {
  pass = (ap not (subst (λ (n : ℤ). has own.fallen n ≡ false) (sym (ap route_of k.event.event ∙ route-shown p.start)) (alive-unfallen own.built own.fallen e.actors (manager_of p.start) k.living.living built.alive)), tt);
  kept = builds-keeps schema p e (actor_reading own) id protocol rest fresh built.alive k;
}
later-kept schema place own {p} {q} {e} {f} (part.deletes id is) k =
    let now : (p.due ≡ p.cause) × (own.falls ≡ []) = due-now p e (actor_reading own) (λ none. let z : deletion id ≡ nobody = sym is ∙ none in cc) k.falls in
    let why : own.cause ≡ read_cause.Delete id = k.event.cause ∙ ap shown_cause (sym now.0 ∙ is) in
    falls-kept schema place p e own (fall.why_deleted id) id now.1
    (λ a i. ap (λ (c : Cause). lets_fall own.built c a.id (fall.why_deleted id a.id)) why ∙ deleted-allowed own.built own.fallen e.actors id a k.living.living k.ids.tree (zero-dead schema p.fresh e own.built own.fallen k.living k.ids) i) k
later-kept schema place own {p} {q} {e} {f} (part.falls why is) k =
    let abandoned : KeptBy schema place (part.abandoned_lines e) own p (part.abandoned_end e) =
    quiet-kept schema place (part.abandoned_lines e) own p (part.abandoned_end e) (no_actor-rejections (λ x. true) ChannelClosed e.promises) (left-keeps schema p p.renames e (actor_reading own) e.stack e.names e.outbox (part.abandoned_end e).promises refl k) in
    then-kept schema place (part.abandoned_lines e) (part.fall_lines top_id (λ n. why) (part.abandoned_end e)) own p q (part.abandoned_end e) f abandoned
    (λ at. closing-kept schema at p (part.abandoned_end e) (after_whats schema place (part.abandoned_lines e) own) why is abandoned.kept)

later-parts-kept : (schema : Schema) (place : ℕ) (own : EndReading) {p q : Phase} {e f : End} {ws : List What} {ps : List Packet} → LaterParts p e ws ps f q → KeepsActors schema p e (actor_reading own) → KeptBy schema place ws own q f
later-parts-kept schema place own part.done k = record { pass = tt; kept = k }
later-parts-kept schema place own (part.then {p} {q} {r} {e} {f} {g} {ws} {vs} one more) k =
    let first : KeptBy schema place ws own q f = later-kept schema place own one k in
    then-kept schema place ws vs own q r f g first (λ at. later-parts-kept schema at (after_whats schema place ws own) more first.kept)

-- What begins an event

-- after its first part an end is in a phase
begun-keeps : (schema : Schema) (e f : End) (own : EndReading) (p : Phase) (after : ActorReading) → ReadsActors schema e own → Begins e f p.start p.cause (actor_reading own) after → p.due ≡ p.cause → HasIds schema p.fresh f own.built → KeepsActors schema p f after
begun-keeps schema e f own p after k b due ids = record {
  living = record {
    living = ap (λ (x : List ℤ). standing x after.built) b.fallen ∙ (ap (standing own.fallen) b.built ∙ (k.living.living ∙ sym (ap (map shown_actor) b.actors)));
    fell = subst (λ (xs : List BuiltActor). AllByRecursion (λ id. was_built xs id ≡ true) after.fallen) (sym b.built) (subst (AllByRecursion (λ id. was_built own.built id ≡ true)) (sym b.fallen) k.living.fell);
  };
  event = record { event = b.event; cause = b.cause; handled = b.handled };
  falls = record { over = λ o. elim (b.over o) [ inl c ↦ inl c | inr before ↦ inr (b.actors ∙ k.over before) ]; due = inr (due, b.falls) };
  ids = subst (HasIds schema p.fresh f) (sym b.built) ids;
}

refusal-pass : (schema : Schema) (w : What) (own : EndReading) → IsRefusal schema w → IsFallenLine own w
refusal-pass schema (what.RefusedSend c n) own q = refl
refusal-pass schema (what.RefusedClose c) own q = refl
refusal-pass schema (what.RefusedResolve c) own q = refl
refusal-pass schema (what.RefusedReject c) own q = refl
refusal-pass schema _ own q = absurd q

renaming-pass : (w : What) (own : EndReading) → IsRenaming w → IsFallenLine own w
renaming-pass (what.Keep n name) own q = refl
renaming-pass (what.Let name id) own q = refl
renaming-pass _ own q = absurd q

send-pass : (sync : Bool) (m : Message) (vs : Values) (own : EndReading) → IsFallenLine own (if sync then what.Call m.seq m.transaction m.route m.number vs else what.Send m.seq m.route m.number vs)
send-pass true m vs own = refl
send-pass false m vs own = refl

answering-pass : (seq : ℤ) (vs : Option Values) (own : EndReading) → IsFallenLine own (answering.answering_line seq vs)
answering-pass seq None own = refl
answering-pass seq (Some vs) own = refl

shut-pass : (last : Item) (own : EndReading) → IsFallenLine own (part.shut_line last)
shut-pass (item.Message m sync level) own = refl
shut-pass item.Broken own = refl

resume-pass : (seq : ℤ) (a : Answer) (own : EndReading) → IsFallenLine own (return.resume_line seq a)
resume-pass seq (answer.Ok vs) own = refl
resume-pass seq (answer.Fault r) own = refl

farewell-pass : (packet : Packet) (own : EndReading) → IsFallenLine own (farewell_line packet)
farewell-pass (message m) own = refl
farewell-pass mark own = refl

unknown-pass : (seq : ℤ) (body : Body) (own : EndReading) → IsFallenLine own (part.unknown_line seq body)
unknown-pass seq (Request vs) own = refl
unknown-pass seq (Reply vs) own = refl
unknown-pass seq (Fault r) own = refl
unknown-pass seq Goodbye own = refl

first-pass : (schema : Schema) (place : ℕ) (own : EndReading) {e f : End} {ws : List What} {ps : List Packet} {p : Phase} → FirstPart schema e ws ps f p → EndLinesPass schema IsFallenLine place ws own
first-pass schema place own (part.refuses w is) = (refusal-pass schema w own is, tt)
first-pass schema place own (part.renames w is) = (renaming-pass w own is, tt)
first-pass schema place own (part.flushes o) = (refl, tt)
first-pass schema place own {e} (part.sends row route vs name is) = (send-pass (is_sync_row row) (send.request_of e row route vs) vs own, tt)
first-pass schema place own (part.answers by vs r row found may ok used) = (answering-pass r.seq vs own, tt)
first-pass schema place own (part.closes o waits) = (refl, tt)
first-pass schema place own (part.dies o) = (refl, tt)
first-pass schema place own (part.dies_silent o alive) = (refl, tt)
first-pass schema place own (part.takes m sync level row vs next body found stays) = (refl, tt)
first-pass schema place own (part.drops m sync level row vs id replies next body found gone is) =
    (refl, no_actor-pass schema (place + 1) (reply_lines replies (request_answered m) (answer.Fault ActorDestroyed)) (after_what schema place (what.Drop m.seq m.route m.number id) own) (no_actor-reply replies (request_answered m) (answer.Fault ActorDestroyed)))
first-pass schema place own (part.drops_unknown m sync level vs next body none) = (refl, tt)
first-pass schema place own (part.takes_reply m sync level a next body late) = (refl, tt)
first-pass schema place own {e} (part.settles m sync level row a next body found awaited) =
    (refl, no_actor-pass schema (place + 1) (take.settle_line m.seq (part.reply_outcome schema e row a) ∷ []) (after_what schema place (what.TakeReply m.seq) own) (no_actor-settles m.seq (part.reply_outcome schema e row a), tt))
first-pass schema place own (part.shuts last next is) = (shut-pass last own, tt)
first-pass schema place own {e} (part.returns entry row vs told lost is t l) =
    let ls : List What = reply_lines told (return.dispatch_answered entry) (return.return_answer schema e row entry vs) in
    let ms : List What = reply_lines lost (resolver_answered (answering.resolver_in entry)) (answer.Fault ResolverDestroyed) in (
      refl,
      no_actor-pass schema (place + 1) (ls ++ ms) (after_what schema place (what.Return (head_of entry.frame).seq) own)
          (all-append SaysNoActor ls ms (no_actor-reply told (return.dispatch_answered entry) (return.return_answer schema e row entry vs)) (no_actor-reply lost (resolver_answered (answering.resolver_in entry)) (answer.Fault ResolverDestroyed))),
    )
first-pass schema place own {e} (part.resumes wait row on_top found) = (resume-pass wait.seq (received schema e.actors row wait.given) own, tt)

delivery-pass : (schema : Schema) (place : ℕ) (own : EndReading) (packet : Packet) {e f : End} {ws : List What} {ps : List Packet} {p : Phase} → DeliveryPart schema packet e ws ps f p → EndLinesPass schema IsFallenLine place ws own
delivery-pass schema place own packet (part.gets_request m row vs body found none) = (refl, tt)
delivery-pass schema place own packet (part.replaces m row vs old sync level replies body found is makes) =
    let ws : List What = what.Replaced old.seq ∷ reply_lines replies (request_answered old) (answer.Fault ResolverDestroyed) in
    (refl, no_actor-pass schema (place + 1) ws (after_what schema place (what.DeliverRequest m.seq) own) (replaced old.seq, no_actor-reply replies (request_answered old) (answer.Fault ResolverDestroyed)))
delivery-pass schema place own packet (part.gets_answer m row a body found is) = (refl, tt)
delivery-pass schema place own packet (part.gets_reply m row a body found is) = (refl, tt)
delivery-pass schema place own packet {e} (part.drains p is) =
    (farewell-pass p own, no_actor-pass schema (place + 1) (map what.Fails (delivery.unanswered e)) (after_what schema place (farewell_line p) own) (no_actor-fails (delivery.unanswered e)))
delivery-pass schema place own packet (part.passes_by m ordinary none) = (unknown-pass m.seq m.body own, tt)

-- Whole steps

pub first-kept : (schema : Schema) → HasSoundRows schema → (place : ℕ) (own : EndReading) {e f : End} {ws : List What} {ps : List Packet} {p : Phase} → FirstPart schema e ws ps f p → ReadsActors schema e own → KeptBy schema place ws own p f
first-kept schema rows place own {e} {f} {ws} {ps} {p} first k = record {
  pass = first-pass schema place own first;
  kept = begun-keeps schema e f own p (actor_reading (after_whats schema place ws own)) k (first-begins schema rows place own first k.handled) (first-due first) (first-ids schema [] own.built first k.ids);
}

pub own-kept : (schema : Schema) → HasSoundRows schema → (place : ℕ) (own : EndReading) {e g : End} {ws : List What} {ps : List Packet} {q : Phase} → OwnParts schema e ws ps g q → ReadsActors schema e own → KeptBy schema place ws own q g
own-kept schema rows place own {e} (part.begun {p} {q} {f = f} {g = g} {ws} {vs} first more ended) k =
    let begins : KeptBy schema place ws own p f = first-kept schema rows place own first k in
    then-kept schema place ws vs own p q f g begins (λ at. later-parts-kept schema at (after_whats schema place ws own) more begins.kept)

pub delivery-kept : (schema : Schema) (place : ℕ) (own : EndReading) (packet : Packet) {e f : End} {ws : List What} {ps : List Packet} {q : Phase} → DeliveryPart schema packet e ws ps f q → HasNextId schema e packet → ReadsActors schema e own → KeptBy schema place ws own q f
delivery-kept schema place own packet {e} {f} {ws} {ps} {q} one next k = record {
  pass = delivery-pass schema place own packet one;
  kept = begun-keeps schema e f own q (actor_reading (after_whats schema place ws own)) k (delivery-begins schema place own packet one k.handled) (delivery-due one) (delivery-ids schema [] own.built packet one next k.ids);
}
