-- Every step whose delivery is not refused keeps actors known: part by part.
use Rattle.std.proofs.Common.{◌≡◌, inl, inr, ℕ, ◌+◌, ◌≤◌, ℤ, Bool, true, false, not, ◌&&◌, cond, if◌then◌else◌, List, [], ◌∷◌, ◌++◌, drop, find, length, Option, Some, None, refl, sym, ap, subst, ◌∙◌, int_eq, arith}
use Rattle.std.specs.List.{AllByRecursion}
use Rattle.std.specs.Option.{option_map_or}
use Rattle.std.proofs.lemmas.Bool.Decides.{Decides-int_eq}
use Rattle.std.proofs.lemmas.List.{append-nil}
use Rattle.std.proofs.lemmas.List.Concat.{flat_map-append}
use Rattle.std.proofs.lemmas.Option.{same_Some}
use Rattle.actor_tree.specs.declared.actor.Actor.{Actor}
use Rattle.actor_tree.specs.Tree.{top, lives}
use Rattle.actor_tree.proofs.Ids.{has}
use Rattle.ipdl_base.specs.declared.kinds.Level.{Level}
use Rattle.ipdl_base.specs.declared.kinds.Level.TheVariants.{Not}
use Rattle.ipdl_base.specs.declared.line.What.{What}
use Rattle.ipdl_base.specs.declared.message.Body.{Body}
use Rattle.ipdl_base.specs.declared.message.Body.TheVariants.{Request, Reply, Fault, Goodbye}
use Rattle.ipdl_base.specs.declared.message.Message.{Message}
use Rattle.ipdl_base.specs.declared.schema.Kind.{Kind}
use Rattle.ipdl_base.specs.declared.schema.Kind.TheVariants.{Normal, Constructor, Delete}
use Rattle.ipdl_base.specs.declared.schema.MessageRow.{MessageRow}
use Rattle.ipdl_base.specs.declared.schema.Schema.{Schema}
use Rattle.ipdl_base.specs.declared.value.Values.{Values}
use Rattle.ipdl_base.specs.Sound.{message_of}
use Rattle.nesting_core.specs.declared.frame.Answer.{Answer}
use Rattle.nesting_core.specs.declared.frame.Answer.TheVariants as answer
use Rattle.pending_queue.specs.declared.item.Item.{Item}
use Rattle.pending_queue.specs.declared.item.Item.TheVariants as item
use Rattle.pending_queue.specs.Compression.{is_request, staying}
use Rattle.pending_queue.specs.DeferralContext.{is_free, without_first}
use Rattle.channel_model.specs.Actors.{AreKnown, IsAccepted, ids_of, new_ids_in, new_ids, constructs_by}
use Rattle.channel_model.specs.Answers.{without_resolver}
use Rattle.channel_model.specs.Deliveries as delivery
use Rattle.channel_model.specs.Ends.{End, Packet, message, mark}
use Rattle.channel_model.specs.Events.{Answering, handled, kept}
use Rattle.channel_model.specs.Events as event
use Rattle.ipdl_base.specs.Sides.{other, top_id, sends as sends_way}
use Rattle.channel_model.specs.Numbers.{is_sync_row, is_constructor, counting}
use Rattle.channel_model.specs.Outputs.{Output, body_of}
use Rattle.channel_model.specs.Parts
use Rattle.channel_model.specs.Parts.{FirstPart, LaterPart, LaterParts, OwnParts, DeliveryPart, end_after, left_end, falling, fallen_end, farewell_item}
use Rattle.channel_model.specs.Phases.{Phase}
use Rattle.channel_model.specs.Refusals.{packet_refusal, body_refusal, actor_refusal, expected_seq, expected_id, wrong_direction, wrong_number, wrong_new_id}
use Rattle.channel_model.specs.Sends as send
use Rattle.channel_model.specs.States.{is_goodbye, is_farewell}
use Rattle.channel_model.specs.StepLaws.{IsDeliveryOfOnePart, KnownActorsStay, FirstActorsAreKnown}
use Rattle.channel_model.specs.Takes as take
use Rattle.channel_model.proofs.FittingEnds.{taken-first}
use Rattle.channel_model.proofs.Known.{all-map, dead-filter, IsFresh, known-counted, known-built, fresh-own, fresh-arrived, known-fewer, known-arrives, known-fallen}
use Rattle.channel_model.proofs.StepParts.{by-parts}
use Rattle.channel_model.proofs.Sublists.{Sublist, sublist-none, sublist-flat_map, without_first-sublist, staying-sublist, TakenOut, taken_out}

-- Actors are known in a phase, and the ids that may be built are fresh and at most one.
pub record KnownIn (schema : Schema) (protocol : ℕ) (p : Phase) (e : End) : Type 0 where
  pub known : AreKnown protocol (ids_of schema e)
  pub fresh : AllByRecursion (IsFresh (ids_of schema e)) p.fresh
  pub few : length p.fresh ≤ 1

-- New ids

-- what has arrived, and one more
pub new_ids-last : (schema : Schema) (items : List Item) (new : Item) → new_ids schema (items ++ new ∷ []) ≡ new_ids schema items ++ new_ids_in schema new
new_ids-last schema items new = flat_map-append (new_ids_in schema) items (new ∷ []) ∙ ap (λ ids. new_ids schema items ++ ids) (append-nil (new_ids_in schema new))

-- an item that is not a request has no new id
pub not_request : (schema : Schema) (m : Message) (sync : Bool) (level : Level) → is_request m.body ≡ false → new_ids_in schema (item.Message m sync level) ≡ []
not_request schema m sync level plain = ap (λ (b : Bool). cond (b && constructs_by schema m.number) (m.made ∷ []) []) plain

-- a constructor has its own id, any other request has none
pub new_ids-request : (schema : Schema) (m : Message) (row : MessageRow) (vs : Values) (sync : Bool) (level : Level) → m.body ≡ Request vs → message_of schema m.number ≡ Some row → new_ids_in schema (item.Message m sync level) ≡ cond (is_constructor row.kind) (m.made ∷ []) []
new_ids-request schema m row vs sync level body found =
    ap (λ (b : Body). cond (is_request b && constructs_by schema m.number) (m.made ∷ []) []) body ∙ ap (λ (r : Option MessageRow). cond (option_map_or (λ (row : MessageRow). is_constructor row.kind) r false) (m.made ∷ []) []) found

-- the third of three tests passes if no test refuses
pub third_passes : {A : Type 0} (a b c d : Bool) (x y z : A) (rest : Option A) → cond (not a) (Some x) (cond (not b) (Some y) (cond (c && not d) (Some z) rest)) ≡ None → c ≡ true → d ≡ true
third_passes a b c true x y z rest e h = refl
third_passes true true true false x y z rest e h = cc
third_passes true true false false x y z rest e h = cc
third_passes true false c false x y z rest e h = cc
third_passes false b c false x y z rest e h = cc

module _ (schema : Schema) (protocol : ℕ) where
  -- Later parts

  only-one : (rest : List ℤ) (P : ℤ → Type 0) (id : ℤ) → length (id ∷ rest) ≤ 1 → AllByRecursion P rest
  only-one [] P id few = tt
  only-one (x ∷ rest) P id few = absurd (omega arith)

  fallen-known : (p q : Phase) (id : ℤ) (e : End) → q.fresh ≡ p.fresh → KnownIn schema protocol p e → KnownIn schema protocol q (fallen_end id e)
  fallen-known p q id e same h = record {
    known = known-fallen protocol (ids_of schema e) id h.known;
    fresh = subst (AllByRecursion (IsFresh (ids_of schema (fallen_end id e)))) (sym same) (all-map (IsFresh (ids_of schema e)) (IsFresh (ids_of schema (fallen_end id e))) p.fresh (λ x k. (k.0, dead-filter x (λ (a : Actor). not (lives a.id (falling id e))) e.actors k.1, k.2)) h.fresh);
    few = subst (λ (ids : List ℤ). length ids ≤ 1) (sym same) h.few;
  }

  pub later-known : {p q : Phase} {e f : End} {ws : List What} {ps : List Packet} → LaterPart p e ws ps f q → KnownIn schema protocol p e → KnownIn schema protocol q f
  later-known (Parts.unnames name may silent) h = record { known = h.known; fresh = h.fresh; few = h.few }
  later-known (Parts.lets_go name r may held open_is) h = record { known = h.known; fresh = h.fresh; few = h.few }
  later-known (Parts.names more actors) h = record { known = h.known; fresh = h.fresh; few = h.few }
  later-known (Parts.releases seq closed) h = record { known = h.known; fresh = h.fresh; few = h.few }
  later-known (Parts.keeps seq name r held closed) h = record { known = h.known; fresh = h.fresh; few = h.few }
  later-known {p} {e} (Parts.builds id built rest is built_as) h =
      let few : length (id ∷ rest) ≤ 1 = subst (λ (ids : List ℤ). length ids ≤ 1) is h.few in
      record {
        known = known-built protocol (ids_of schema e) _ h.known (subst (AllByRecursion (IsFresh (ids_of schema e))) is h.fresh).0 built_as.alive;
        fresh = only-one rest _ id few;
        few = omega (arith, few);
      }
  later-known {p} {q} {e} (Parts.deletes id cause) h = fallen-known p q id e refl h
  later-known {p} {q} {e} (Parts.falls why cause) h = fallen-known p q top_id (Parts.abandoned_end e) refl (record { known = h.known; fresh = h.fresh; few = h.few })

  laters-known : {p q : Phase} {e f : End} {ws : List What} {ps : List Packet} → LaterParts p e ws ps f q → KnownIn schema protocol p e → KnownIn schema protocol q f
  laters-known Parts.done h = h
  laters-known (Parts.then part rest) h = laters-known rest (later-known part h)

  -- First parts

  abbrev Known : End → Type 0
  Known e = AreKnown protocol (ids_of schema e)

  -- what has arrived is dropped
  dropped-known : (e : End) → Known e → AreKnown protocol (record (ids_of schema e) { waiting = [] })
  dropped-known e h = known-fewer protocol (ids_of schema e) [] h (sublist-none (new_ids schema e.arrived))

  -- the item that is taken has left
  left-known : (e : End) → Known e → Known (left_end e)
  left-known e h =
      let test : Item → Bool = is_free (take.deferral_context_of e) in
      known-fewer protocol (ids_of schema e) (new_ids schema (without_first test e.arrived)) h (sublist-flat_map (new_ids_in schema) (without_first test e.arrived) e.arrived (without_first-sublist test e.arrived))

  following-known : (b : Bool) (e : End) → Known e → Known (end_after b e)
  following-known true e h = h
  following-known false e h = h

  used-known : (by : Answering) (e : End) → Known e → Known (without_resolver by e)
  used-known (handled seq) e h = h
  used-known (kept name number) e h = h

  fresh-one : (kind : Kind) (id : ℤ) → length (if is_constructor kind then id ∷ [] else []) ≤ 1
  fresh-one Normal id = omega arith
  fresh-one (Constructor p) id = omega arith
  fresh-one Delete id = omega arith

  -- a request is counted
  sent-ids : (e : End) (kind : Kind) → Known e → AreKnown protocol (record (ids_of schema e) { sent = counting kind e.constructors_sent })
  sent-ids e Normal h = h
  sent-ids e (Constructor p) h = known-counted protocol (ids_of schema e) h
  sent-ids e Delete h = h

  sent-fresh : (e : End) (kind : Kind) → Known e → AllByRecursion (IsFresh (record (ids_of schema e) { sent = counting kind e.constructors_sent })) (if is_constructor kind then send.next_made e kind ∷ [] else [])
  sent-fresh e Normal h = tt
  sent-fresh e (Constructor p) h = (fresh-own protocol (ids_of schema e) h, tt)
  sent-fresh e Delete h = tt

  -- a request is taken
  taken-fresh : (e : End) (m : Message) (sync : Bool) (level : Level) (kind : Kind) → Known e → find (is_free (take.deferral_context_of e)) e.arrived ≡ Some (item.Message m sync level) → new_ids_in schema (item.Message m sync level) ≡ cond (is_constructor kind) (m.made ∷ []) []
      → AllByRecursion (IsFresh (ids_of schema (left_end e))) (if is_constructor kind then m.made ∷ [] else [])
  taken-fresh e m sync level Normal h found own = tt
  taken-fresh e m sync level Delete h found own = tt
  taken-fresh e m sync level (Constructor p) h found own =
      let test : Item → Bool = is_free (take.deferral_context_of e) in
      let out : TakenOut (new_ids_in schema) test e.arrived (item.Message m sync level) = taken_out (new_ids_in schema) test e.arrived (item.Message m sync level) found in
      let whole : new_ids schema e.arrived ≡ out.before ++ m.made ∷ out.following = out.whole ∙ ap (λ (ids : List ℤ). out.before ++ (ids ++ out.following)) own in
      (subst (λ (ids : List ℤ). IsFresh (record (ids_of schema e) { waiting = ids }) m.made) (sym out.rest) (fresh-arrived protocol (ids_of schema e) m.made out.before out.following h whole), tt)

  pub first-known : {p : Phase} {e f : End} {ws : List What} {ps : List Packet} → FirstPart schema e ws ps f p → Known e → KnownIn schema protocol p f
  first-known (Parts.refuses w is) h = record { known = h; fresh = tt; few = omega arith }
  first-known (Parts.renames w is) h = record { known = h; fresh = tt; few = omega arith }
  first-known (Parts.flushes open_is) h = record { known = h; fresh = tt; few = omega arith }
  first-known {e} (Parts.sends row route vs name sent) h = record { known = sent-ids e row.kind h; fresh = sent-fresh e row.kind h; few = fresh-one row.kind (send.next_made e row.kind) }
  first-known {e} (Parts.answers by vs r row found may ok is) h = record { known = used-known by e h; fresh = tt; few = omega arith }
  first-known {e} (Parts.closes open_is none) h = record { known = dropped-known e h; fresh = tt; few = omega arith }
  first-known {e} (Parts.dies open_is) h = record { known = dropped-known e h; fresh = tt; few = omega arith }
  first-known {e} (Parts.dies_silent open_is alive) h = record { known = dropped-known e h; fresh = tt; few = omega arith }
  first-known {e} (Parts.takes m sync level row vs next body found stays) h = record {
    known = left-known e h;
    fresh = taken-fresh e m sync level row.kind h (taken-first e (item.Message m sync level) next) (new_ids-request schema m row vs sync level body found);
    few = fresh-one row.kind m.made;
  }
  first-known {e} (Parts.drops m sync level row vs id replies next body found gone is) h = record { known = following-known replies (left_end e) (left-known e h); fresh = tt; few = omega arith }
  first-known {e} (Parts.drops_unknown m sync level vs next body none) h = record { known = left-known e h; fresh = tt; few = omega arith }
  first-known {e} (Parts.takes_reply m sync level a next body late) h = record { known = left-known e h; fresh = tt; few = omega arith }
  first-known {e} (Parts.settles m sync level row a next body found is) h = record { known = left-known e h; fresh = tt; few = omega arith }
  first-known {e} (Parts.shuts last next is) h = record { known = dropped-known e h; fresh = tt; few = omega arith }
  first-known {e} (Parts.returns entry row vs told lost returns t l) h =
      let off : End = record e { stack = drop 1 e.stack } in
      record { known = following-known lost (end_after told off) (following-known told off h); fresh = tt; few = omega arith }
  first-known (Parts.resumes wait row on_top found) h = record { known = h; fresh = tt; few = omega arith }

  own-known : {p : Phase} {e f : End} {ws : List What} {ps : List Packet} → OwnParts schema e ws ps f p → Known e → Known f
  own-known (Parts.begun first rest over) h = (laters-known rest (first-known first h)).known

  -- Deliveries

  -- an item without a new id arrives last
  last-known : (e : End) (new : Item) → new_ids_in schema new ≡ [] → Known e → Known (delivery.arrives new e)
  last-known e new none h =
      subst (λ (ids : List ℤ). AreKnown protocol (record (ids_of schema e) { waiting = ids })) (sym (new_ids-last schema e.arrived new ∙ ap (λ ids. new_ids schema e.arrived ++ ids) none ∙ append-nil (new_ids schema e.arrived))) h

  -- a request arrives: a constructor with its new id, any other without one
  arrived-known : (e : End) (some new : List ℤ) (kind : Kind) (made : ℤ) → Known e → Sublist some (new_ids schema e.arrived) → new ≡ cond (is_constructor kind) (made ∷ []) [] → (is_constructor kind ≡ true → made ≡ expected_id e)
      → AreKnown protocol (record (ids_of schema e) { delivered = counting kind e.constructors_delivered; waiting = some ++ new })
  arrived-known e some new Normal made h s is next = subst (λ (ids : List ℤ). AreKnown protocol (record (ids_of schema e) { waiting = ids })) (sym (ap (λ ids. some ++ ids) is ∙ append-nil some)) (known-fewer protocol (ids_of schema e) some h s)
  arrived-known e some new Delete made h s is next = subst (λ (ids : List ℤ). AreKnown protocol (record (ids_of schema e) { waiting = ids })) (sym (ap (λ ids. some ++ ids) is ∙ append-nil some)) (known-fewer protocol (ids_of schema e) some h s)
  arrived-known e some new (Constructor p) made h s is next =
      subst (λ (ids : List ℤ). AreKnown protocol (record (ids_of schema e) { delivered = e.constructors_delivered + 1; waiting = some ++ ids })) (sym is) (known-arrives protocol (ids_of schema e) some made h s (next refl))

  -- the new id of a constructor that is not refused is the next
  pub next-id : (e : End) (m : Message) (row : MessageRow) (vs : Values) → m.body ≡ Request vs → message_of schema m.number ≡ Some row → packet_refusal schema e (message m) ≡ None → is_constructor row.kind ≡ true → m.made ≡ expected_id e
  next-id e m row vs body found accepted constructor =
      (Decides-int_eq m.made (expected_id e)).0
      (third_passes (sends_way (other e.side) row.direction) (int_eq m.seq (expected_seq e)) (is_constructor row.kind) (int_eq m.made (expected_id e)) wrong_direction wrong_number wrong_new_id (actor_refusal schema e row m)
      (sym (ap (λ (b : Body). body_refusal schema e m b row) body) ∙ (sym (ap (λ (r : Option MessageRow). option_map_or (body_refusal schema e m m.body) r None) found) ∙ accepted)) constructor)

  counted-known : (e : End) (m : Message) (row : MessageRow) (vs : Values) → m.body ≡ Request vs → message_of schema m.number ≡ Some row → packet_refusal schema e (message m) ≡ None → Known e → Known (delivery.counted row (delivery.item_of row m) e)
  counted-known e m row vs body found accepted h =
      let new : Item = delivery.item_of row m in
      let stays : List Item = staying row.compress new e.arrived in
      subst (λ (ids : List ℤ). AreKnown protocol (record (ids_of schema e) { delivered = counting row.kind e.constructors_delivered; waiting = ids })) (sym (new_ids-last schema stays new))
      (arrived-known e (new_ids schema stays) (new_ids_in schema new) row.kind m.made h (sublist-flat_map (new_ids_in schema) stays e.arrived (staying-sublist row.compress new e.arrived)) (new_ids-request schema m row vs (is_sync_row row) row.level body found) (next-id e m row vs body found accepted))

  farewell-ids : (packet : Packet) → is_farewell (farewell_item packet) ≡ true → new_ids_in schema (farewell_item packet) ≡ []
  farewell-ids (message m) is = not_request schema m false Not (plain m.body is)
    where
      plain : (body : Body) → is_goodbye body ≡ true → is_request body ≡ false
      plain (Request vs) e = cc
      plain (Reply vs) e = refl
      plain (Fault reason) e = refl
      plain Goodbye e = refl
  farewell-ids mark is = refl

  reply-plain : (a : Answer) → is_request (body_of a) ≡ false
  reply-plain (answer.Ok vs) = refl
  reply-plain (answer.Fault reason) = refl

  delivery-known : {packet : Packet} {p : Phase} {e f : End} {ws : List What} {ps : List Packet} → DeliveryPart schema packet e ws ps f p → packet_refusal schema e packet ≡ None → Known e → Known f
  delivery-known {e} (Parts.gets_request m row vs body found none) accepted h = counted-known e m row vs body found accepted h
  delivery-known {e} (Parts.replaces m row vs old sync level replies body found rep is) accepted h = following-known replies (delivery.counted row (delivery.item_of row m) e) (counted-known e m row vs body found accepted h)
  delivery-known (Parts.gets_answer m row a body found sync) accepted h = h
  delivery-known {e} (Parts.gets_reply m row a body found async) accepted h = last-known e (delivery.item_of row m) (not_request schema m (is_sync_row row) row.level (ap is_request body ∙ reply-plain a)) h
  delivery-known {e} (Parts.drains packet is) accepted h = last-known e (farewell_item packet) (farewell-ids packet is) h
  delivery-known (Parts.passes_by m ordinary none) accepted h = h

  -- Steps

  delivered-known : (e : End) (link : List Packet) (output : Output) → IsAccepted schema e link event.deliver → Known e → IsDeliveryOfOnePart schema e link output → Known output.end
  delivered-known e [] output accepted h (packet, is, open_is, made) = cc
  delivered-known e (first ∷ rest) output accepted h (packet, is, open_is, made) = delivery-known made.parts (ap (packet_refusal schema e) (sym (same_Some first packet is)) ∙ accepted) h

pub known_actors_stay : KnownActorsStay
known_actors_stay schema protocol e link happened output is accepted h =
    by-parts schema e link happened output (AreKnown protocol (ids_of schema output.end)) is (λ made. own-known schema protocol made.parts h) (λ same made. delivered-known schema protocol e link output (subst (IsAccepted schema e link) same accepted) h made)

pub first_actors_are_known : FirstActorsAreKnown
first_actors_are_known schema protocol side = record {
  tree = (refl, tt);
  top = ((λ e. refl), tt);
  taken = λ id lived. elim (has id (top protocol ∷ []) lived) [ inl e ↦ inl (sym e) | inr none ↦ absurd none ];
  waiting = tt;
  distinct = tt;
}
