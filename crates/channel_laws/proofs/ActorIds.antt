-- Each part keeps the ids of actors known.
use Rattle.std.proofs.Common.{◌≡◌, ◌≢◌, inl, inr, ℕ, ◌+◌, ℤ, Bool, true, false, cond, List, [], ◌∷◌, ◌++◌, drop, Some, refl, sym, ap, subst, ◌∙◌, arith}
use Rattle.std.specs.List.{AllByRecursion}
use Rattle.std.proofs.lemmas.List.{append-nil}
use Rattle.actor_tree.specs.declared.actor.Actor.{Actor}
use Rattle.actor_tree.specs.Tree.{lives}
use Rattle.actor_tree.proofs.Ids.{lives-true, lives-false}
use Rattle.actor_tree.proofs.Kept.{IsTree-append}
use Rattle.ipdl_base.specs.declared.line.What.{What}
use Rattle.ipdl_base.specs.declared.message.Message.{Message}
use Rattle.ipdl_base.specs.declared.message.Body.{Body}
use Rattle.ipdl_base.specs.declared.message.Body.TheVariants.{Request, Reply, Fault, Goodbye}
use Rattle.ipdl_base.specs.declared.kinds.Level.{Level}
use Rattle.ipdl_base.specs.declared.kinds.Level.TheVariants.{Not}
use Rattle.ipdl_base.specs.declared.schema.Kind.{Kind}
use Rattle.ipdl_base.specs.declared.schema.Kind.TheVariants.{Normal, Constructor, Delete}
use Rattle.ipdl_base.specs.declared.schema.MessageRow.{MessageRow}
use Rattle.ipdl_base.specs.declared.schema.Schema.{Schema}
use Rattle.ipdl_base.specs.declared.value.Values.{Values}
use Rattle.ipdl_base.specs.Sound.{message_of}
use Rattle.nesting_core.specs.declared.frame.Answer.{Answer}
use Rattle.nesting_core.specs.declared.frame.Answer.TheVariants as answer
use Rattle.pending_queue.specs.declared.item.Item.{Item}
use Rattle.pending_queue.specs.declared.item.Item.TheVariants as item
use Rattle.pending_queue.specs.Compression.{is_request, staying}
use Rattle.pending_queue.specs.DeferralContext.{is_free, without_first}
use Rattle.history_reading.specs.declared.parts.BuiltActor.{BuiltActor}
use Rattle.channel_model.specs.Actors.{Ids, IsTaken, AreKnown, IsNew, IsTopOf, AreDistinct, new_ids, new_ids_in}
use Rattle.channel_model.specs.Deliveries as delivery
use Rattle.channel_model.specs.Ends.{End, Packet, message, mark}
use Rattle.channel_model.specs.Events.{handled, kept}
use Rattle.ipdl_base.specs.Sides.{other}
use Rattle.channel_model.specs.Numbers.{id_of, counting, is_constructor, is_sync_row}
use Rattle.channel_model.specs.Outputs.{body_of}
use Rattle.channel_model.specs.Parts as part
use Rattle.channel_model.specs.Parts.{FirstPart, DeliveryPart, end_after, farewell_item}
use Rattle.channel_model.specs.Phases.{Phase, fresh_of}
use Rattle.channel_model.specs.Refusals.{expected_id}
use Rattle.channel_model.specs.Sends as send
use Rattle.channel_model.specs.States.{is_farewell, is_goodbye}
use Rattle.channel_model.specs.Takes as take
use Rattle.channel_model.proofs.FittingEnds.{taken-first}
use Rattle.channel_model.proofs.Known.{own_is_free, ids_apart, all-map, all-append, all-both, all-before, all-following, distinct-from, distinct-without, dead-append, living-append, known-counted, known-fewer, known-arrives}
use Rattle.channel_model.proofs.KnownSteps.{new_ids-last, not_request, new_ids-request}
use Rattle.channel_model.proofs.Sublists.{Sublist, sublist-none, sublist-flat_map, without_first-sublist, staying-sublist, TakenOut, taken_out}
use Rattle.channel_laws.specs.EndActors.{built_ids, IsPending, HasIds, HasNextId}

-- An actor is built

-- an actor with an id that is taken, that no actor has yet and no waiting constructor
pub known-built : (protocol : ℕ) (ids : Ids) (a : Actor) → AreKnown protocol ids → IsTopOf protocol a → IsTaken ids a.id → lives a.id ids.actors ≡ false → AllByRecursion (λ waiting. waiting ≢ a.id) ids.waiting → lives a.manager ids.actors ≡ true
    → AreKnown protocol (record ids { actors = ids.actors ++ a ∷ [] })
known-built protocol ids a h top taken free apart manager = record {
  tree = IsTree-append ids.actors a h.tree free manager;
  top = all-append (IsTopOf protocol) ids.actors (a ∷ []) h.top (top, tt);
  taken = λ id k. elim (living-append id ids.actors a k) [
    | inl before ↦ h.taken id before
    | inr e ↦ subst (IsTaken ids) e taken
  ];
  waiting = all-both (IsNew ids) (λ x. x ≢ a.id) (IsNew (record ids { actors = ids.actors ++ a ∷ [] })) ids.waiting (λ id new differs. (new.0, dead-append id ids.actors a new.1 differs)) h.waiting apart;
  distinct = h.distinct;
}

-- The end sends a request

sent-ids : (schema : Schema) (kind : Kind) (made : ℤ) (e : End) (built : List BuiltActor) → (is_constructor kind ≡ true → made ≡ id_of e.side (e.constructors_sent + 1)) → AreKnown 0 (built_ids schema e built)
    → AreKnown 0 (record (built_ids schema e built) { sent = counting kind e.constructors_sent }) × IsPending (record (built_ids schema e built) { sent = counting kind e.constructors_sent }) (cond (is_constructor kind) (made ∷ []) [])
sent-ids schema Normal made e built next h = (h, tt)
sent-ids schema Delete made e built next h = (h, tt)
sent-ids schema (Constructor protocol) made e built next h =
    let ids : Ids = built_ids schema e built in
    let is : made ≡ id_of e.side (e.constructors_sent + 1) = next refl in (
      known-counted 0 ids h,
      (
        inr (inl (e.constructors_sent + 1, omega arith, omega arith, is)),
        lives-false made ids.actors (λ k. own_is_free ids (subst (IsTaken ids) is (h.taken made (lives-true made ids.actors k)))),
        all-map (IsNew ids) (λ waiting. waiting ≢ made) ids.waiting (λ id new same. ids_apart e.side (e.constructors_sent + 1) new.0.0 (sym is ∙ sym same ∙ new.0.3)) h.waiting,
        refl,
      ),
    )

-- Items that leave and arrive

-- fewer items have arrived
fewer-ids : (schema : Schema) (fresh : List ℤ) (e : End) (built : List BuiltActor) (some : List Item) → Sublist some e.arrived → HasIds schema fresh e built → AreKnown 0 (record (built_ids schema e built) { waiting = new_ids schema some })
fewer-ids schema fresh e built some s k = known-fewer 0 (built_ids schema e built) (new_ids schema some) k.known (sublist-flat_map (new_ids_in schema) some e.arrived s)

left-ids : (schema : Schema) (fresh : List ℤ) (e : End) (built : List BuiltActor) → HasIds schema fresh e built → HasIds schema [] (part.left_end e) built
left-ids schema fresh e built k =
    let test : Item → Bool = is_free (take.deferral_context_of e) in
    record { tree = k.tree; known = fewer-ids schema fresh e built (without_first test e.arrived) (without_first-sublist test e.arrived) k; pending = tt }

following-ids : (schema : Schema) (b : Bool) (e : End) (built : List BuiltActor) → HasIds schema [] e built → HasIds schema [] (end_after b e) built
following-ids schema true e built k = record { tree = k.tree; known = k.known; pending = tt }
following-ids schema false e built k = k

-- a constructor that is taken has an id that may be built
constructor-taken : (schema : Schema) (ids : Ids) (made : ℤ) (before after : List ℤ) → AreKnown 0 ids → ids.waiting ≡ before ++ made ∷ after
    → AreKnown 0 (record ids { waiting = before ++ after }) × IsPending (record ids { waiting = before ++ after }) (made ∷ [])
constructor-taken schema ids made before after h is =
    let waiting : AllByRecursion (IsNew ids) (before ++ made ∷ after) = subst (AllByRecursion (IsNew ids)) is h.waiting in
    let distinct : AreDistinct (before ++ made ∷ after) = subst AreDistinct is h.distinct in
    let own : IsNew ids made = (all-following (IsNew ids) before (made ∷ after) waiting).0 in (
      record {
        tree = h.tree;
        top = h.top;
        taken = h.taken;
        waiting = all-append (IsNew ids) before after (all-before (IsNew ids) before (made ∷ after) waiting) (all-following (IsNew ids) before (made ∷ after) waiting).1;
        distinct = distinct-without before made after distinct;
      },
      (inr (inr own.0), own.1, distinct-from before made after distinct, refl),
    )

taken-ids : (schema : Schema) (constructor : Bool) (ids : Ids) (made : ℤ) (rest : List ℤ) (new before after : List ℤ) → AreKnown 0 ids → new ≡ cond constructor (made ∷ []) [] → ids.waiting ≡ before ++ (new ++ after) → rest ≡ before ++ after
    → AreKnown 0 (record ids { waiting = rest }) × IsPending (record ids { waiting = rest }) (cond constructor (made ∷ []) [])
taken-ids schema true ids made rest new before after h own whole is =
    subst (λ (some : List ℤ). AreKnown 0 (record ids { waiting = some }) × IsPending (record ids { waiting = some }) (made ∷ [])) (sym is)
    (constructor-taken schema ids made before after h (whole ∙ ap (λ (x : List ℤ). before ++ (x ++ after)) own))
taken-ids schema false ids made rest new before after h own whole is =
    (subst (λ (some : List ℤ). AreKnown 0 (record ids { waiting = some })) (whole ∙ ap (λ (x : List ℤ). before ++ (x ++ after)) own ∙ sym is) h, tt)

takes-ids : (schema : Schema) (fresh : List ℤ) (e : End) (built : List BuiltActor) (m : Message) (sync : Bool) (level : Level) (row : MessageRow) (vs : Values)
    → take.taken_next e ≡ Some (item.Message m sync level) → m.body ≡ Request vs → message_of schema m.number ≡ Some row → HasIds schema fresh e built
    → AreKnown 0 (built_ids schema (part.left_end e) built) × IsPending (built_ids schema (part.left_end e) built) (fresh_of row m)
takes-ids schema fresh e built m sync level row vs next body found k =
    let test : Item → Bool = is_free (take.deferral_context_of e) in
    let out : TakenOut (new_ids_in schema) test e.arrived (item.Message m sync level) = taken_out (new_ids_in schema) test e.arrived (item.Message m sync level) (taken-first e (item.Message m sync level) next) in
    let own = new_ids-request schema m row vs sync level body found in
    taken-ids schema (is_constructor row.kind) (built_ids schema e built) m.made (new_ids schema (without_first test e.arrived)) (new_ids_in schema (item.Message m sync level)) out.before out.following k.known own out.whole out.rest

-- an item without an id arrives
arrives-ids : (schema : Schema) (fresh : List ℤ) (e : End) (built : List BuiltActor) (new : Item) → new_ids_in schema new ≡ [] → HasIds schema fresh e built → AreKnown 0 (record (built_ids schema e built) { waiting = new_ids schema (e.arrived ++ new ∷ []) })
arrives-ids schema fresh e built new none k =
    subst (λ (ids : List ℤ). AreKnown 0 (record (built_ids schema e built) { waiting = ids })) (sym (new_ids-last schema e.arrived new ∙ ap (λ ids. new_ids schema e.arrived ++ ids) none ∙ append-nil (new_ids schema e.arrived))) k.known

reply-body : (a : Answer) (body : Body) → body ≡ body_of a → is_request body ≡ false
reply-body (answer.Ok vs) body is = ap is_request is
reply-body (answer.Fault r) body is = ap is_request is

farewell-ids : (schema : Schema) (packet : Packet) → is_farewell (farewell_item packet) ≡ true → new_ids_in schema (farewell_item packet) ≡ []
farewell-ids schema mark is = refl
farewell-ids schema (message m) is = not_request schema m false Not (by m.body is)
  where
    by : (body : Body) → is_goodbye body ≡ true → is_request body ≡ false
    by (Request vs) e = cc
    by (Reply vs) e = refl
    by (Fault r) e = refl
    by Goodbye e = refl

-- a request arrives: a constructor with the next id of the other side
counted-ids : (constructor : Bool) (ids : Ids) (some new : List ℤ) (made : ℤ) → AreKnown 0 ids → Sublist some ids.waiting → new ≡ cond constructor (made ∷ []) [] → (constructor ≡ true → made ≡ id_of (other ids.side) (ids.delivered + 1))
    → AreKnown 0 (record ids { delivered = cond constructor (ids.delivered + 1) ids.delivered; waiting = some ++ new })
counted-ids true ids some new made h s is next = subst (λ (x : List ℤ). AreKnown 0 (record ids { delivered = ids.delivered + 1; waiting = some ++ x })) (sym is) (known-arrives 0 ids some made h s (next refl))
counted-ids false ids some new made h s is next = subst (λ (x : List ℤ). AreKnown 0 (record ids { waiting = x })) (sym (ap (λ x. some ++ x) is ∙ append-nil some)) (known-fewer 0 ids some h s)

request-ids : (schema : Schema) (fresh : List ℤ) (e : End) (built : List BuiltActor) (m : Message) (row : MessageRow) (vs : Values) → m.body ≡ Request vs → message_of schema m.number ≡ Some row → (is_constructor row.kind ≡ true → m.made ≡ expected_id e) → HasIds schema fresh e built
    → HasIds schema [] (delivery.counted row (delivery.item_of row m) e) built
request-ids schema fresh e built m row vs body found next k =
    let new : Item = delivery.item_of row m in
    let some : List Item = staying row.compress new e.arrived in
    let own = new_ids-request schema m row vs (is_sync_row row) row.level body found in
    record {
      tree = k.tree;
      known = subst (λ (ids : List ℤ). AreKnown 0 (record (built_ids schema e built) { delivered = counting row.kind e.constructors_delivered; waiting = ids })) (sym (new_ids-last schema some new))
          (counted-ids (is_constructor row.kind) (built_ids schema e built) (new_ids schema some) (new_ids_in schema new) m.made k.known (sublist-flat_map (new_ids_in schema) some e.arrived (staying-sublist row.compress new e.arrived)) own next);
      pending = tt;
    }

-- Each part

next_made-is : (e : End) (kind : Kind) → is_constructor kind ≡ true → send.next_made e kind ≡ id_of e.side (e.constructors_sent + 1)
next_made-is e Normal is = cc
next_made-is e (Constructor p) is = refl
next_made-is e Delete is = cc

pub first-ids : (schema : Schema) (fresh : List ℤ) (built : List BuiltActor) {e f : End} {ws : List What} {ps : List Packet} {p : Phase} → FirstPart schema e ws ps f p → HasIds schema fresh e built → HasIds schema p.fresh f built
first-ids schema fresh built (part.refuses w is) k = record { tree = k.tree; known = k.known; pending = tt }
first-ids schema fresh built (part.renames w is) k = record { tree = k.tree; known = k.known; pending = tt }
first-ids schema fresh built (part.flushes o) k = record { tree = k.tree; known = k.known; pending = tt }
first-ids schema fresh built {e} (part.sends row route vs name is) k =
    let ids = sent-ids schema row.kind (send.next_made e row.kind) e built (next_made-is e row.kind) k.known in
    record { tree = k.tree; known = ids.0; pending = ids.1 }
first-ids schema fresh built (part.answers (handled seq) vs r row found may ok used) k = record { tree = k.tree; known = k.known; pending = tt }
first-ids schema fresh built (part.answers (kept name number) vs r row found may ok used) k = record { tree = k.tree; known = k.known; pending = tt }
first-ids schema fresh built {e} (part.closes o waits) k = record { tree = k.tree; known = fewer-ids schema fresh e built [] (sublist-none e.arrived) k; pending = tt }
first-ids schema fresh built {e} (part.dies o) k = record { tree = k.tree; known = fewer-ids schema fresh e built [] (sublist-none e.arrived) k; pending = tt }
first-ids schema fresh built {e} (part.dies_silent o alive) k = record { tree = k.tree; known = fewer-ids schema fresh e built [] (sublist-none e.arrived) k; pending = tt }
first-ids schema fresh built {e} (part.takes m sync level row vs next body found stays) k =
    let ids = takes-ids schema fresh e built m sync level row vs next body found k in
    record { tree = k.tree; known = ids.0; pending = ids.1 }
first-ids schema fresh built {e} (part.drops m sync level row vs id replies next body found gone is) k = following-ids schema replies (part.left_end e) built (left-ids schema fresh e built k)
first-ids schema fresh built {e} (part.drops_unknown m sync level vs next body none) k = left-ids schema fresh e built k
first-ids schema fresh built {e} (part.takes_reply m sync level a next body late) k = left-ids schema fresh e built k
first-ids schema fresh built {e} (part.settles m sync level row a next body found awaited) k = let l = left-ids schema fresh e built k in record { tree = l.tree; known = l.known; pending = tt }
first-ids schema fresh built {e} (part.shuts last next is) k = record { tree = k.tree; known = fewer-ids schema fresh e built [] (sublist-none e.arrived) k; pending = tt }
first-ids schema fresh built {e} (part.returns entry row vs told lost is t l) k =
    following-ids schema lost (end_after told (record e { stack = drop 1 e.stack })) built (following-ids schema told (record e { stack = drop 1 e.stack }) built (record { tree = k.tree; known = k.known; pending = tt }))
first-ids schema fresh built (part.resumes wait row on_top found) k = record { tree = k.tree; known = k.known; pending = tt }

pub delivery-ids : (schema : Schema) (fresh : List ℤ) (built : List BuiltActor) (packet : Packet) {e f : End} {ws : List What} {ps : List Packet} {p : Phase} → DeliveryPart schema packet e ws ps f p → HasNextId schema e packet → HasIds schema fresh e built → HasIds schema p.fresh f built
delivery-ids schema fresh built packet {e} (part.gets_request m row vs body found none) next k = request-ids schema fresh e built m row vs body found (next row vs body found) k
delivery-ids schema fresh built packet {e} (part.replaces m row vs old sync level replies body found is makes) next k =
    following-ids schema replies (delivery.counted row (delivery.item_of row m) e) built (request-ids schema fresh e built m row vs body found (next row vs body found) k)
delivery-ids schema fresh built packet (part.gets_answer m row a body found is) next k = record { tree = k.tree; known = k.known; pending = tt }
delivery-ids schema fresh built packet {e} (part.gets_reply m row a body found is) next k =
    record { tree = k.tree; known = arrives-ids schema fresh e built (delivery.item_of row m) (not_request schema m (is_sync_row row) row.level (reply-body a m.body body)) k; pending = tt }
delivery-ids schema fresh built packet {e} (part.drains p is) next k = record { tree = k.tree; known = arrives-ids schema fresh e built (farewell_item p) (farewell-ids schema p is) k; pending = tt }
delivery-ids schema fresh built packet (part.passes_by m ordinary none) next k = record { tree = k.tree; known = k.known; pending = tt }
