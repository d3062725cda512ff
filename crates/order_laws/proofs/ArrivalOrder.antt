-- The items that wait at an end are a subsequence of the packets that were delivered to it.
use Rattle.std.proofs.Common.{◌≡◌, inl, inr, ℕ, ◌+◌, ℤ, pos, Bool, true, false, cond, if◌then◌else◌, List, [], ◌∷◌, ◌++◌, map, take, Option, Some, None, option_and_then, refl, sym, ap, subst, ◌∙◌, append_assoc}
use Rattle.std.proofs.lemmas.List.{map-append}
use Rattle.ipdl_base.specs.declared.kinds.SendRefusal.{SendRefusal}
use Rattle.ipdl_base.specs.declared.kinds.Side.{Side}
use Rattle.ipdl_base.specs.declared.kinds.Side.TheVariants.{Parent, Child}
use Rattle.ipdl_base.specs.declared.kinds.Reason.TheVariants.{ResolverDestroyed}
use Rattle.ipdl_base.specs.declared.line.What.{What}
use Rattle.ipdl_base.specs.declared.line.What.TheVariants as what
use Rattle.ipdl_base.specs.declared.message.Message.{Message}
use Rattle.ipdl_base.specs.declared.schema.Kind.{Kind}
use Rattle.ipdl_base.specs.declared.schema.Kind.TheVariants.{Normal, Constructor, Delete}
use Rattle.ipdl_base.specs.declared.schema.MessageRow.{MessageRow}
use Rattle.ipdl_base.specs.declared.schema.Schema.{Schema}
use Rattle.ipdl_base.specs.declared.value.Values.{Values}
use Rattle.nesting_core.specs.declared.frame.Answer.{Answer}
use Rattle.nesting_core.specs.declared.frame.Answer.TheVariants as answer
use Rattle.pending_queue.specs.declared.item.Item.{Item}
use Rattle.pending_queue.specs.declared.item.Item.TheVariants as item
use Rattle.pending_queue.specs.Compression.{replaced}
use Rattle.channel_model.specs.Acts as acts
use Rattle.channel_model.specs.Answers as answering
use Rattle.channel_model.specs.Deliveries as delivery
use Rattle.channel_model.specs.Ends.{End, World, Packet, message, mark, NameContent, actor, resolver, Resolver, StackEntry, end_of, link_to, opening}
use Rattle.channel_model.specs.Events.{Event, Move, Answering, handled, kept}
use Rattle.channel_model.specs.Events as event
use Rattle.channel_model.specs.Falls as falls
use Rattle.channel_model.specs.Names.{held_by_name, let_go, renamed, without_name}
use Rattle.channel_model.specs.Numbers.{counting, request_row, is_sync_row, makes_promise}
use Rattle.channel_model.specs.Outputs.{Output, Change, ◌▷◌, beginning, is_open, when, on_end, line, AnsweredRequest, answered, resolver_answered, destroyed}
use Rattle.channel_model.specs.Parts
use Rattle.channel_model.specs.Parts.{DeliveryPart, end_after, farewell_item}
use Rattle.channel_model.specs.Phases.{Phase}
use Rattle.channel_model.specs.Returns as returns
use Rattle.channel_model.specs.Runs.{is_delivery, output_of, passed_by, happens, run}
use Rattle.channel_model.specs.Sends as sends
use Rattle.channel_model.specs.States.{is_farewell}
use Rattle.nesting_core.specs.Frames.{head_of}
use Rattle.channel_model.specs.Steps.{step, provided, first_packet}
use Rattle.channel_model.proofs.Provided.{provided-gives, found-gives}
use Rattle.channel_model.proofs.StepParts.{steps_are_made_of_parts}
use Rattle.channel_laws.proofs.ArrivalParts.{staying-all}
use Rattle.channel_laws.proofs.Replacing.{Replaces, replaced-taken}
use Rattle.ipdl_base.specs.Lines.{same_side}
use Rattle.order_laws.specs.Order.{packet_of, ArrivesLast, passes, arrives, replaces, StaysOrEnds, ChangesArrivals, IsSubsequence, nothing, both, without, delivered_when, delivered_by, delivered_to, ArrivalsKeepTheirOrder}
use Rattle.order_laws.proofs.Takes.{step-takes}

-- Changes that leave the items that have arrived as they are

abbrev pub Leaves : Change → Type 0
Leaves change = (o : Output) → (change o).end.arrived ≡ o.end.arrived

leaves-when : (b : Bool) (change : Change) → Leaves change → Leaves (when b change)
leaves-when true change h o = h o
leaves-when false change h o = refl

leaves-answered : (q : AnsweredRequest) (a : Answer) → Leaves (answered q a)
leaves-answered q a o = leaves-when (is_open o.end.state) _ (λ p. refl) o

leaves-let_go : (holds : Option NameContent) → Leaves (let_go holds)
leaves-let_go None o = refl
leaves-let_go (Some (actor id)) o = refl
leaves-let_go (Some (resolver r)) o = leaves-answered (resolver_answered r) (answer.Fault ResolverDestroyed) o

leaves-renamed : (name : List ℕ) (holds : Option NameContent) → Leaves (renamed name holds)
leaves-renamed name holds o = leaves-let_go (held_by_name name o.end.names) (on_end (λ e. record e { names = without_name name e.names }) o)

leaves-deletes : (route : ℤ) (kind : Kind) → Leaves (falls.deletes route kind)
leaves-deletes route Normal o = refl
leaves-deletes route (Constructor protocol) o = refl
leaves-deletes route Delete o = refl

leaves-constructs : (id route : ℤ) (kind : Kind) → Leaves (sends.constructs id route kind)
leaves-constructs id route Normal o = refl
leaves-constructs id route (Constructor protocol) o = refl
leaves-constructs id route Delete o = refl

leaves-posted : (lazy : Bool) (m : Message) → Leaves (sends.posted_by lazy m)
leaves-posted true m o = refl
leaves-posted false m o = refl

leaves-awaits : (row : MessageRow) (m : Message) → Leaves (sends.awaits_reply row m)
leaves-awaits row m o =
    let stacked : Change = on_end (λ e. record e { stack = sends.wait_for row m ∷ e.stack }) in
    leaves-when (makes_promise row) _ (λ p. refl) (when (is_sync_row row) stacked o) ∙ leaves-when (is_sync_row row) stacked (λ p. refl) o

leaves-names : (id : ℤ) (name : Option (List ℕ)) → Leaves (sends.names_actor id name)
leaves-names id None o = refl
leaves-names id (Some name) o = leaves-renamed name (Some (actor id)) o

module _ (e : End) where
  abbrev Stays : Output → Type 0
  Stays o = o.end.arrived ≡ e.arrived

  send-leaves : (refused : Option SendRefusal) (row : MessageRow) (m : Message) (vs : Values) (name : Option (List ℕ)) → Stays (sends.sent_unless refused row m vs name (beginning e))
  send-leaves (Some cause) row m vs name = refl
  send-leaves None row m vs name =
      let o1 : Output = (line (sends.send_line row m vs) ▷ on_end (λ e. record e { sent = e.sent + 1; constructors_sent = counting row.kind e.constructors_sent })) (beginning e) in
      let o2 : Output = sends.posted row m o1 in
      let o3 : Output = sends.awaits_reply row m o2 in
      let o4 : Output = sends.names_actor m.made name o3 in
      let o5 : Output = sends.constructs m.made m.route row.kind o4 in
      leaves-deletes m.route row.kind o5 ∙ (leaves-constructs m.made m.route row.kind o4 ∙ (leaves-names m.made name o3 ∙ (leaves-awaits row m o2 ∙ leaves-posted row.lazy m o1)))

  answer-leaves : (refused : Option SendRefusal) (by : Answering) (vs : Option Values) (r : Option Resolver) → Stays (answering.answered_unless refused by vs r (beginning e))
  answer-leaves (Some cause) by vs r = refl
  answer-leaves None by vs None = refl
  answer-leaves None (handled seq) vs (Some r) = refl
  answer-leaves None (kept name number) vs (Some r) = refl

  keep-leaves : (seq : ℤ) (name : List ℕ) → Stays (answering.keep e seq name (beginning e))
  keep-leaves seq name = leaves-renamed name (option_and_then (answering.kept_by e) (answering.handled_resolver e seq)) ((line (what.Keep seq name) ▷ on_end (λ e. record e { stack = answering.released seq e.stack })) (beginning e))

  name-leaves : (name : List ℕ) (id : ℤ) → Stays (acts.name_actor name id (beginning e))
  name-leaves name id = leaves-renamed name (if acts.is_positive id then Some (actor id) else None) (line (what.Let name (if acts.is_positive id then id else pos 0)) (beginning e))

  close-leaves : (refused : Option SendRefusal) → StaysOrEnds e (acts.close_unless refused (beginning e))
  close-leaves None = inr (refl, refl)
  close-leaves (Some cause) = inl refl

  return-leaves : (schema : Schema) (row : MessageRow) (entry : StackEntry) (vs : Option Values) → Stays (returns.return schema e row entry vs (beginning e))
  return-leaves schema row entry vs =
      let o1 : Output = (returns.popped ▷ line (what.Return (head_of entry.frame).seq)) (beginning e) in
      let a : Change = answered (returns.dispatch_answered entry) (returns.return_answer schema e row entry vs) in
      let o2 : Output = when (is_sync_row row) a o1 in
      let d : Change = destroyed (answering.resolver_in entry) in
      let o3 : Output = when entry.resolves d o2 in
      leaves-deletes entry.route row.kind o3 ∙ (leaves-when entry.resolves d (λ p. leaves-answered (resolver_answered (answering.resolver_in entry)) (answer.Fault ResolverDestroyed) p) o2 ∙ leaves-when (is_sync_row row) a (λ p. leaves-answered (returns.dispatch_answered entry) (returns.return_answer schema e row entry vs) p) o1)

-- Deliveries

following-arrived : (b : Bool) (e : End) → (end_after b e).arrived ≡ e.arrived
following-arrived true e = refl
following-arrived false e = refl

farewell-packet : (packet : Packet) → packet_of (farewell_item packet) ≡ packet
farewell-packet (message m) = refl
farewell-packet mark = refl

delivery-arrives : {schema : Schema} {packet : Packet} {p : Phase} {e f : End} {ws : List What} {ps : List Packet} → DeliveryPart schema packet e ws ps f p → ArrivesLast packet e.arrived f.arrived
delivery-arrives {schema} {e} (Parts.gets_request m row vs body found none) =
    let new : Item = delivery.item_of row m in
    arrives new refl (ap (λ (items : List Item). items ++ new ∷ []) (staying-all schema row new e.arrived (replaced row.compress new e.arrived) refl none))
delivery-arrives {e} (Parts.replaces m row vs old sync level replies body found rep is) =
    let new : Item = delivery.item_of row m in
    let r : Replaces row.compress new e.arrived (item.Message old sync level) = replaced-taken row.compress new e.arrived (item.Message old sync level) rep in
    replaces new (item.Message old sync level) r.taken.front r.taken.back refl r.alike r.taken.whole
    (following-arrived replies (delivery.counted row new e) ∙ ap (λ (items : List Item). items ++ new ∷ []) r.taken.left)
delivery-arrives (Parts.gets_answer m row a body found sync) = passes refl
delivery-arrives (Parts.gets_reply m row a body found async) = arrives (delivery.item_of row m) refl refl
delivery-arrives (Parts.drains packet is) = arrives (farewell_item packet) (farewell-packet packet) refl
delivery-arrives (Parts.passes_by m ordinary none) = passes refl

-- Steps

module _ (schema : Schema) (e : End) (link : List Packet) where
  stays : (ev : Event) (output : Output) → step schema e link ev ≡ Some output → ChangesArrivals e link ev output
  stays event.deliver output is = let d = steps_are_made_of_parts schema e link event.deliver output is in (d.0, d.1, delivery-arrives d.3.parts)
  stays event.take output is = step-takes schema e link output is
  stays (event.send route number vs name) output is =
      found-gives (StaysOrEnds e) (request_row schema number) (λ row. provided (sends.may_send schema e row vs name) (sends.send schema e row route vs name) e) output
      (λ row found k. provided-gives (StaysOrEnds e) (sends.may_send schema e row vs name) (sends.send schema e row route vs name) e output (λ may. inl (send-leaves e (sends.send_refusal schema e row route vs) row (sends.request_of e row route vs) vs name)) k) is
  stays (event.answer by vs) output is =
      found-gives (StaysOrEnds e) (answering.answered_row schema e by) (λ row. provided (answering.may_answer schema e row vs) (answering.answer schema e row by vs) e) output
      (λ row found k. provided-gives (StaysOrEnds e) (answering.may_answer schema e row vs) (answering.answer schema e row by vs) e output (λ may. inl (answer-leaves e (answering.answer_refusal schema e row by vs) by vs (answering.resolver_used e by))) k) is
  stays (event.keep seq name) output is = provided-gives (StaysOrEnds e) (answering.may_keep e seq) (answering.keep e seq name) e output (λ may. inl (keep-leaves e seq name)) is
  stays (event.name name id) output is = provided-gives (StaysOrEnds e) (sends.may_act e) (acts.name_actor name id) e output (λ may. inl (name-leaves e name id)) is
  stays event.close output is = provided-gives (StaysOrEnds e) (sends.may_act e) (acts.close e) e output (λ may. close-leaves e (acts.close_refusal e)) is
  stays event.die output is = provided-gives (StaysOrEnds e) (acts.may_die e) acts.die e output (λ may. inr (refl, refl)) is
  stays (event.return vs) output is =
      found-gives (StaysOrEnds e) (returns.dispatch_on_top e.stack) (λ entry. option_and_then (λ row. provided (returns.may_return schema row vs) (returns.return schema e row entry vs) e) (request_row schema entry.number)) output
      (λ entry top k. found-gives (StaysOrEnds e) (request_row schema entry.number) (λ row. provided (returns.may_return schema row vs) (returns.return schema e row entry vs) e) output
      (λ row found l. provided-gives (StaysOrEnds e) (returns.may_return schema row vs) (returns.return schema e row entry vs) e output (λ may. inl (return-leaves e schema row entry vs)) l) k) is
  stays event.resume output is =
      found-gives (StaysOrEnds e) (returns.answered_wait_on_top e.stack) (λ wait. option_and_then (λ row. provided true (returns.resume schema e wait row) e) (request_row schema wait.number)) output
      (λ wait top k. found-gives (StaysOrEnds e) (request_row schema wait.number) (λ row. provided true (returns.resume schema e wait row) e) output
      (λ row found l. provided-gives (StaysOrEnds e) true (returns.resume schema e wait row) e output (λ may. inl refl) l) k) is
  stays event.flush output is = provided-gives (StaysOrEnds e) (returns.may_flush e) returns.flush e output (λ may. inl refl) is

-- Subsequences

some-none : {A : Type 0} (ys : List A) → IsSubsequence [] ys
some-none [] = nothing
some-none (y ∷ ys) = without (some-none ys)

some-all : {A : Type 0} (xs : List A) → IsSubsequence xs xs
some-all [] = nothing
some-all (x ∷ xs) = both (some-all xs)

some-then : {A : Type 0} {xs ys zs : List A} → IsSubsequence xs ys → IsSubsequence ys zs → IsSubsequence xs zs
some-then a nothing = a
some-then a (without b) = without (some-then a b)
some-then (both a) (both b) = both (some-then a b)
some-then (without a) (both b) = without (some-then a b)

some-last : {A : Type 0} (x : A) {xs ys : List A} → IsSubsequence xs ys → IsSubsequence (xs ++ x ∷ []) (ys ++ x ∷ [])
some-last x nothing = both nothing
some-last x (both h) = both (some-last x h)
some-last x (without h) = without (some-last x h)

some-more : {A : Type 0} (more : List A) {xs ys : List A} → IsSubsequence xs ys → IsSubsequence xs (ys ++ more)
some-more more nothing = some-none more
some-more more (both h) = both (some-more more h)
some-more more (without h) = without (some-more more h)

some-less : {A : Type 0} (front : List A) (x : A) (back : List A) → IsSubsequence (front ++ back) (front ++ x ∷ back)
some-less [] x back = without (some-all back)
some-less (y ∷ front) x back = both (some-less front x back)

-- Runs

abbrev shown : List Item → List Packet
shown items = map packet_of items

one-less : (front : List Item) (x : Item) (back : List Item) → IsSubsequence (shown (front ++ back)) (shown (front ++ x ∷ back))
one-less front x back = subst (λ (ps : List Packet). IsSubsequence ps (shown (front ++ x ∷ back))) (sym (map-append packet_of front back)) (subst (IsSubsequence (shown front ++ shown back)) (sym (map-append packet_of front (x ∷ back))) (some-less (shown front) (packet_of x) (shown back)))

one-last : (items : List Item) (new : Item) (ds : List Packet) → IsSubsequence (shown items) ds → IsSubsequence (shown (items ++ new ∷ [])) (ds ++ packet_of new ∷ [])
one-last items new ds h = subst (λ (ps : List Packet). IsSubsequence ps (ds ++ packet_of new ∷ [])) (sym (map-append packet_of items (new ∷ []))) (some-last (packet_of new) h)

arrived-order : (packet : Packet) (before after : List Item) (ds : List Packet) → ArrivesLast packet before after → IsSubsequence (shown before) ds → IsSubsequence (shown after) (ds ++ packet ∷ [])
arrived-order packet before after ds (passes same) h = some-more (packet ∷ []) (subst (λ (items : List Item). IsSubsequence (shown items) ds) (sym same) h)
arrived-order packet before after ds (arrives new is same) h =
    subst (λ (items : List Item). IsSubsequence (shown items) (ds ++ packet ∷ [])) (sym same) (subst (λ (p : Packet). IsSubsequence (shown (before ++ new ∷ [])) (ds ++ p ∷ [])) is (one-last before new ds h))
arrived-order packet before after ds (replaces new old front back is alike whole same) h =
    let k : IsSubsequence (shown (front ++ back)) ds = some-then (one-less front old back) (subst (λ (items : List Item). IsSubsequence (shown items) ds) whole h) in
    subst (λ (items : List Item). IsSubsequence (shown items) (ds ++ packet ∷ [])) (sym same) (subst (λ (p : Packet). IsSubsequence (shown ((front ++ back) ++ new ∷ [])) (ds ++ p ∷ [])) is (one-last (front ++ back) new ds k))

left-order : (older younger : List Item) (taken : Item) (farewell : Bool) (ds : List Packet) → IsSubsequence (shown (older ++ taken ∷ younger)) ds → IsSubsequence (shown (cond farewell [] (older ++ younger))) ds
left-order older younger taken true ds h = some-none ds
left-order older younger taken false ds h = some-then (one-less older taken younger) h

first-of : (link : List Packet) (packet : Packet) → first_packet link ≡ Some packet → take 1 link ≡ packet ∷ []
first-of [] packet is = cc
first-of (p ∷ ps) packet is = let k : p ≡ packet = cc in ap (λ (x : Packet). x ∷ []) k

module _ (e : End) (link : List Packet) (output : Output) (ds : List Packet) (h : IsSubsequence (shown e.arrived) ds) where
  kept-order : StaysOrEnds e output → IsSubsequence (shown output.end.arrived) (ds ++ [])
  kept-order (inl same) = some-more [] (subst (λ (items : List Item). IsSubsequence (shown items) ds) (sym same) h)
  kept-order (inr gone) = subst (λ (items : List Item). IsSubsequence (shown items) (ds ++ [])) (sym gone.0) (some-none (ds ++ []))

  step-order : (ev : Event) → ChangesArrivals e link ev output → IsSubsequence (shown output.end.arrived) (ds ++ cond (is_delivery ev) (take 1 link) [])
  step-order event.deliver (packet, first, a) = subst (λ (ps : List Packet). IsSubsequence (shown output.end.arrived) (ds ++ ps)) (sym (first-of link packet first)) (arrived-order packet e.arrived output.end.arrived ds a h)
  step-order event.take t =
      let k : IsSubsequence (shown (t.older ++ t.taken ∷ t.younger)) ds = subst (λ (items : List Item). IsSubsequence (shown items) ds) t.arrived h in
      some-more [] (subst (λ (items : List Item). IsSubsequence (shown items) ds) (sym t.left) (left-order t.older t.younger t.taken (is_farewell t.taken) ds k))
  step-order (event.send route number vs name) c = kept-order c
  step-order (event.answer by vs) c = kept-order c
  step-order (event.keep seq name) c = kept-order c
  step-order (event.name name id) c = kept-order c
  step-order event.close c = kept-order c
  step-order event.die c = kept-order c
  step-order (event.return vs) c = kept-order c
  step-order event.resume c = kept-order c
  step-order event.flush c = kept-order c

module _ (schema : Schema) where
  move-order : (side mover : Side) (ev : Event) (w : World) (found : Option Output) (ds : List Packet) → output_of schema w (record { side = mover; event = ev }) ≡ found → IsSubsequence (shown (end_of side w).arrived) ds
      → IsSubsequence (shown (end_of side (passed_by found (record { side = mover; event = ev }) w).world).arrived) (ds ++ cond (same_side side mover) (delivered_when found ev (link_to mover w)) [])
  move-order Parent Parent ev w None ds is h = some-more [] h
  move-order Parent Child ev w None ds is h = some-more [] h
  move-order Child Parent ev w None ds is h = some-more [] h
  move-order Child Child ev w None ds is h = some-more [] h
  move-order Parent Parent ev w (Some output) ds is h = step-order w.parent w.to_parent output ds h ev (stays schema w.parent w.to_parent ev output is)
  move-order Parent Child ev w (Some output) ds is h = some-more [] h
  move-order Child Parent ev w (Some output) ds is h = some-more [] h
  move-order Child Child ev w (Some output) ds is h = step-order w.child w.to_child output ds h ev (stays schema w.child w.to_child ev output is)

  run-order : (side : Side) (moves : List Move) (w : World) (ds : List Packet) → IsSubsequence (shown (end_of side w).arrived) ds → IsSubsequence (shown (end_of side (run schema moves w).world).arrived) (ds ++ delivered_to schema side moves w)
  run-order side [] w ds h = some-more [] h
  run-order side (move ∷ moves) w ds h =
      let next : World = (happens schema w move).world in
      let one : List Packet = delivered_by schema w side move in
      let k : IsSubsequence (shown (end_of side next).arrived) (ds ++ one) = move-order side move.side move.event w (output_of schema w move) ds refl h in
      subst (IsSubsequence (shown (end_of side (run schema moves next).world).arrived)) (append_assoc ds one (delivered_to schema side moves next)) (run-order side moves next (ds ++ one) k)

  opening-order : (side : Side) (top : ℕ) → IsSubsequence (shown (end_of side (opening top)).arrived) []
  opening-order Parent top = nothing
  opening-order Child top = nothing

pub arrivals_keep_their_order : ArrivalsKeepTheirOrder
arrivals_keep_their_order = record {
  changes = λ schema e link ev output is. stays schema e link ev output is;
  in_order = λ schema top moves side. run-order schema side moves (opening top) [] (opening-order schema side top);
}
