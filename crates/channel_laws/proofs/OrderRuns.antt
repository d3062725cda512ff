-- In every run the requests that come to an open end are in order.
use Rattle.std.proofs.Common.{◌≡◌, ℕ, ◌+◌, Bool, true, false, List, [], ◌∷◌, ◌++◌, drop, map, Option, Some, None, refl, sym, ap, subst, ◌∙◌, append_assoc}
use Rattle.std.specs.List.{AllByRecursion}
use Rattle.std.proofs.lemmas.Option.{same_Some}
use Rattle.ipdl_base.specs.declared.kinds.Side.{Side}
use Rattle.ipdl_base.specs.declared.kinds.Side.TheVariants.{Parent, Child}
use Rattle.ipdl_base.specs.declared.line.What.{What}
use Rattle.ipdl_base.specs.declared.message.Body.{Body}
use Rattle.ipdl_base.specs.declared.message.Body.TheVariants.{Request, Reply, Fault, Goodbye}
use Rattle.ipdl_base.specs.declared.message.Message.{Message}
use Rattle.ipdl_base.specs.declared.schema.MessageRow.{MessageRow}
use Rattle.ipdl_base.specs.declared.schema.Schema.{Schema}
use Rattle.ipdl_base.specs.declared.value.Values.{Values}
use Rattle.ipdl_base.specs.Sound.{IsSound, message_of}
use Rattle.nesting_core.specs.declared.frame.Answer.{Answer}
use Rattle.nesting_core.specs.declared.frame.Answer.TheVariants as answer
use Rattle.channel_model.specs.Deliveries as delivery
use Rattle.channel_model.specs.Ends.{End, World, Packet, message, opening}
use Rattle.channel_model.specs.Events.{Event, Move}
use Rattle.channel_model.specs.Events as event
use Rattle.ipdl_base.specs.Sides.{other}
use Rattle.channel_model.specs.Numbers.{counting}
use Rattle.channel_model.specs.Outputs.{Output, is_open, body_of}
use Rattle.channel_model.specs.Parts
use Rattle.channel_model.specs.Parts.{OwnParts, DeliveryPart, end_after}
use Rattle.channel_model.specs.Phases.{Phase}
use Rattle.channel_model.specs.Runs.{after_event, output_of, passed_by, happens, run}
use Rattle.channel_model.specs.StepLaws.{IsStepOfParts}
use Rattle.channel_model.specs.Steps.{first_packet}
use Rattle.channel_model.proofs.StepParts.{steps_are_made_of_parts}
use Rattle.channel_laws.specs.TwoEndLaws.{RequestsComeInOrder}
use Rattle.channel_laws.specs.NestedWorlds.{is_last_packet, IsNestedWorld, EndsAreNested}
use Rattle.channel_laws.specs.RequestOrder.{BodyInOrder, InOrder, on_way, EndsInOrder, WorldInOrder}
use Rattle.channel_laws.proofs.EndsTold.{told-at}
use Rattle.channel_laws.proofs.EveryRun.{from-side}
use Rattle.channel_laws.proofs.Outlines.{open-is}
use Rattle.channel_laws.proofs.TwoEnds.{first-is}
use Rattle.channel_laws.proofs.RequestOrder.{Posts, order-append, own-posts, counted_end, delivery-posts}
use Rattle.channel_laws.proofs.Rows.{sound_schemas_have_sound_rows}
use Rattle.channel_laws.proofs.WorldSteps.{move-waits, opening-waits}

module _ (schema : Schema) where
  -- What is delivered is the next

  following-delivered : (b : Bool) (e : End) (P : ℕ → ℕ → Type 0) → P e.delivered e.constructors_delivered → P (end_after b e).delivered (end_after b e).constructors_delivered
  following-delivered true e P h = h
  following-delivered false e P h = h

  request-delivered : (side : Side) (m : Message) (row : MessageRow) (vs : Values) (goes_on : ℕ → ℕ → Type 0) (n c : ℕ) → m.body ≡ Request vs → message_of schema m.number ≡ Some row → BodyInOrder schema side m m.body goes_on n c → goes_on (n + 1) (counting row.kind c)
  request-delivered side m row vs goes_on n c body found h =
      let k : BodyInOrder schema side m (Request vs) goes_on n c = subst (λ (b : Body). BodyInOrder schema side m b goes_on n c) body h in
      subst (λ (r : MessageRow). goes_on (n + 1) (counting r.kind c)) (same_Some k.0.row row (sym k.0.found ∙ found)) k.1

  reply-delivered : (side : Side) (m : Message) (a : Answer) (goes_on : ℕ → ℕ → Type 0) (n c : ℕ) → m.body ≡ body_of a → BodyInOrder schema side m m.body goes_on n c → goes_on n c
  reply-delivered side m (answer.Ok vs) goes_on n c body h = subst (λ (b : Body). BodyInOrder schema side m b goes_on n c) body h
  reply-delivered side m (answer.Fault reason) goes_on n c body h = subst (λ (b : Body). BodyInOrder schema side m b goes_on n c) body h

  unknown-delivered : (side : Side) (m : Message) (b : Body) (goes_on : ℕ → ℕ → Type 0) (n c : ℕ) → message_of schema m.number ≡ None → BodyInOrder schema side m b goes_on n c → goes_on n c
  unknown-delivered side m (Request vs) goes_on n c none h = let k : None ≡ Some h.0.row = sym none ∙ h.0.found in cc
  unknown-delivered side m (Reply vs) goes_on n c none h = h
  unknown-delivered side m (Fault reason) goes_on n c none h = h
  unknown-delivered side m Goodbye goes_on n c none h = h

  delivery-order : {packet : Packet} {q : Phase} {e f : End} {ws : List What} {ps : List Packet} (side : Side) (rest : List Packet) (last made : ℕ) → DeliveryPart schema packet e ws ps f q → is_open f.state ≡ true
      → InOrder schema side (packet ∷ rest) last made e.delivered e.constructors_delivered → InOrder schema side rest last made f.delivered f.constructors_delivered
  delivery-order {e} side rest last made (Parts.gets_request m row vs body found none) o h = request-delivered side m row vs (InOrder schema side rest last made) e.delivered e.constructors_delivered body found h
  delivery-order {e} side rest last made (Parts.replaces m row vs old sync level replies body found rep is) o h =
      following-delivered replies (delivery.counted row (delivery.item_of row m) e) (InOrder schema side rest last made) (request-delivered side m row vs (InOrder schema side rest last made) e.delivered e.constructors_delivered body found h)
  delivery-order {e} side rest last made (Parts.gets_answer m row a body found sync) o h = reply-delivered side m a (InOrder schema side rest last made) e.delivered e.constructors_delivered body h
  delivery-order {e} side rest last made (Parts.gets_reply m row a body found sync) o h = reply-delivered side m a (InOrder schema side rest last made) e.delivered e.constructors_delivered body h
  delivery-order side rest last made (Parts.drains packet is) o h = cc
  delivery-order {e} side rest last made (Parts.passes_by m other none) o h = unknown-delivered side m m.body (InOrder schema side rest last made) e.delivered e.constructors_delivered none h

  -- More packets are put on the way
  way-following : (e f : End) (link ps : List Packet) (posts : Posts schema e ps f) → on_way f (link ++ ps) ≡ on_way e link ++ posts.news
  way-following e f link ps posts = append_assoc link ps (map message f.outbox) ∙ (ap (λ (l : List Packet). link ++ l) posts.posted ∙ sym (append_assoc link (map message e.outbox) posts.news))

  goes-on : (side : Side) (e f : End) (link ps : List Packet) (n c : ℕ) → e.side ≡ side → Posts schema e ps f → InOrder schema side (on_way e link) e.sent e.constructors_sent n c → InOrder schema side (on_way f (link ++ ps)) f.sent f.constructors_sent n c
  goes-on side e f link ps n c is posts h =
      subst (λ (l : List Packet). InOrder schema side l f.sent f.constructors_sent n c) (sym (way-following e f link ps posts))
      (order-append schema side (on_way e link) posts.news e.sent e.constructors_sent f.sent f.constructors_sent n c (subst (λ (s : Side). InOrder schema s posts.news f.sent f.constructors_sent e.sent e.constructors_sent) is posts.order) h)

  -- Steps

  acts-order : (side their_side : Side) (mine theirs next : End) (to_me to_them ps : List Packet) → mine.side ≡ side → Posts schema mine ps next → EndsInOrder schema side their_side mine theirs to_me to_them → EndsInOrder schema side their_side next theirs to_me (to_them ++ ps)
  acts-order side their_side mine theirs next to_me to_them ps is posts h = record {
    comes = λ o. subst (λ (n : ℕ). InOrder schema their_side (on_way theirs to_me) theirs.sent theirs.constructors_sent n next.constructors_delivered) (sym posts.delivered_is)
        (subst (λ (c : ℕ). InOrder schema their_side (on_way theirs to_me) theirs.sent theirs.constructors_sent mine.delivered c) (sym posts.constructors_is) (h.comes (posts.opened o)));
    goes = λ o. goes-on side mine next to_them ps theirs.delivered theirs.constructors_delivered is posts (h.goes o);
  }

  delivers-order : (side their_side : Side) (mine theirs next : End) (packet : Packet) (to_me to_them ps : List Packet) (ws : List What) (q : Phase) → mine.side ≡ side → first_packet to_me ≡ Some packet → is_open mine.state ≡ true → (is_open theirs.state ≡ true → is_last_packet packet ≡ false)
      → DeliveryPart schema packet mine ws ps next q → EndsInOrder schema side their_side mine theirs to_me to_them → EndsInOrder schema side their_side next theirs (drop 1 to_me) (to_them ++ ps)
  delivers-order side their_side mine theirs next packet to_me to_them ps ws q is first opened ordinary part h = record {
    comes = λ o. delivery-order their_side (on_way theirs (drop 1 to_me)) theirs.sent theirs.constructors_sent part o
        (subst (λ (l : List Packet). InOrder schema their_side (on_way theirs l) theirs.sent theirs.constructors_sent mine.delivered mine.constructors_delivered) (first-is to_me packet first) (h.comes opened));
    goes = λ o. goes-on side (counted_end schema mine next) next to_them ps theirs.delivered theirs.constructors_delivered is (delivery-posts schema part (ordinary o)) (h.goes o);
  }

  moved : (side their_side : Side) (ev : Event) (mine theirs : End) (to_me to_them : List Packet) (o : Output) → mine.side ≡ side → EndsAreNested schema side mine theirs to_me to_them → EndsInOrder schema side their_side mine theirs to_me to_them → IsStepOfParts schema mine to_me ev o
      → EndsInOrder schema side their_side o.end theirs (after_event ev to_me) (to_them ++ o.packets)
  moved side their_side event.deliver mine theirs to_me to_them o is nested h (packet, first, opened, s) =
      delivers-order side their_side mine theirs o.end packet to_me to_them o.packets s.whats s.phase is first opened
      (λ theirs_open. (subst (AllByRecursion (λ (p : Packet). is_last_packet p ≡ false)) (first-is to_me packet first) ((told-at schema side mine theirs to_me to_them (open-is mine.state opened) nested).1 (open-is theirs.state theirs_open))).0) s.parts h
  moved side their_side (event.send route number vs name) mine theirs to_me to_them o is nested h s = acts-order side their_side mine theirs o.end to_me to_them o.packets is (own-posts schema s.parts) h
  moved side their_side (event.answer by vs) mine theirs to_me to_them o is nested h s = acts-order side their_side mine theirs o.end to_me to_them o.packets is (own-posts schema s.parts) h
  moved side their_side (event.keep seq name) mine theirs to_me to_them o is nested h s = acts-order side their_side mine theirs o.end to_me to_them o.packets is (own-posts schema s.parts) h
  moved side their_side (event.name name id) mine theirs to_me to_them o is nested h s = acts-order side their_side mine theirs o.end to_me to_them o.packets is (own-posts schema s.parts) h
  moved side their_side event.close mine theirs to_me to_them o is nested h s = acts-order side their_side mine theirs o.end to_me to_them o.packets is (own-posts schema s.parts) h
  moved side their_side event.die mine theirs to_me to_them o is nested h s = acts-order side their_side mine theirs o.end to_me to_them o.packets is (own-posts schema s.parts) h
  moved side their_side event.take mine theirs to_me to_them o is nested h s = acts-order side their_side mine theirs o.end to_me to_them o.packets is (own-posts schema s.parts) h
  moved side their_side (event.return vs) mine theirs to_me to_them o is nested h s = acts-order side their_side mine theirs o.end to_me to_them o.packets is (own-posts schema s.parts) h
  moved side their_side event.resume mine theirs to_me to_them o is nested h s = acts-order side their_side mine theirs o.end to_me to_them o.packets is (own-posts schema s.parts) h
  moved side their_side event.flush mine theirs to_me to_them o is nested h s = acts-order side their_side mine theirs o.end to_me to_them o.packets is (own-posts schema s.parts) h

  -- Worlds

  flip : {side their_side : Side} {mine theirs : End} {to_me to_them : List Packet} → EndsInOrder schema side their_side mine theirs to_me to_them → EndsInOrder schema their_side side theirs mine to_them to_me
  flip h = record { comes = h.goes; goes = h.comes }

  pub order-following : (side : Side) (ev : Event) (w : World) (found : Option Output) → output_of schema w (record { side = side; event = ev }) ≡ found → IsNestedWorld schema w → WorldInOrder schema w → WorldInOrder schema (passed_by found (record { side = side; event = ev }) w).world
  order-following side ev w None is n h = h
  order-following Parent ev w (Some o) is n h = moved Parent Child ev w.parent w.child w.to_parent w.to_child o n.parent (from-side schema Parent w n) h (steps_are_made_of_parts schema w.parent w.to_parent ev o is)
  order-following Child ev w (Some o) is n h = flip (moved Child Parent ev w.child w.parent w.to_child w.to_parent o n.child (from-side schema Child w n) (flip h) (steps_are_made_of_parts schema w.child w.to_child ev o is))

  runs-in-order : IsSound schema → (moves : List Move) (w : World) → IsNestedWorld schema w → WorldInOrder schema w → WorldInOrder schema (run schema moves w).world
  runs-in-order sound [] w n h = h
  runs-in-order sound (move ∷ moves) w n h =
      runs-in-order sound moves (happens schema w move).world (move-waits schema (sound_schemas_have_sound_rows schema sound) move w n) (order-following move.side move.event w (output_of schema w move) refl n h)

  pub opening-in-order : (top : ℕ) → WorldInOrder schema (opening top)
  opening-in-order top = record { comes = λ o. (refl, refl); goes = λ o. (refl, refl) }

pub requests_come_in_order : RequestsComeInOrder
requests_come_in_order schema sound top moves = runs-in-order schema sound moves (opening top) (opening-waits schema top) (opening-in-order schema top)
