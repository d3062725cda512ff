-- In every run each id has one protocol.
use Rattle.std.proofs.Common.{◌≡◌, inl, ℕ, ◌+◌, ℤ, Bool, true, false, List, [], ◌∷◌, ◌++◌, drop, length, Option, Some, None, refl, sym, ap, subst, ◌∙◌, arith}
use Rattle.std.specs.List.{AllByRecursion}
use Rattle.ipdl_base.specs.declared.kinds.Side.{Side}
use Rattle.ipdl_base.specs.declared.kinds.Side.TheVariants.{Parent, Child}
use Rattle.ipdl_base.specs.declared.line.What.{What}
use Rattle.ipdl_base.specs.declared.schema.Kind.{Kind}
use Rattle.ipdl_base.specs.declared.schema.Kind.TheVariants.{Normal, Constructor, Delete}
use Rattle.ipdl_base.specs.declared.schema.Schema.{Schema}
use Rattle.ipdl_base.specs.Sound.{IsSound}
use Rattle.channel_model.specs.Answers as answering
use Rattle.channel_model.specs.Deliveries as delivery
use Rattle.channel_model.specs.Ends.{End, World, Packet, opening, opening_end}
use Rattle.channel_model.specs.Events.{Event, Move, Answering, handled, kept}
use Rattle.channel_model.specs.Events as event
use Rattle.ipdl_base.specs.Sides.{other}
use Rattle.channel_model.specs.Numbers.{id_of, counting}
use Rattle.channel_model.specs.Outputs.{Output, is_open}
use Rattle.channel_model.specs.Parts
use Rattle.channel_model.specs.Parts.{FirstPart, LaterPart, LaterParts, OwnParts, DeliveryPart, end_after}
use Rattle.channel_model.specs.Phases.{Phase}
use Rattle.channel_model.specs.Runs.{after_event, output_of, passed_by, happens, run}
use Rattle.channel_model.specs.Sends as send
use Rattle.channel_model.specs.StepLaws.{IsStepOfParts}
use Rattle.channel_model.specs.Steps.{first_packet}
use Rattle.channel_model.proofs.Known.{all-append}
use Rattle.channel_model.proofs.StepParts.{steps_are_made_of_parts}
use Rattle.channel_laws.specs.TwoEndLaws.{ProtocolsInEveryRun, TypesTellWhoLives}
use Rattle.channel_laws.specs.NestedWorlds.{IsNestedWorld, EndsAreNested}
use Rattle.channel_laws.specs.Protocols.{Protocols, StandsFor, MakesItsProtocol, PacketHasProtocols, HasProtocols, constructed_count, EndsHaveProtocols, WorldHasProtocols}
use Rattle.channel_laws.proofs.Moves.{other-other}
use Rattle.channel_laws.proofs.Outlines.{open-is}
use Rattle.channel_laws.proofs.TwoEnds.{first-is}
use Rattle.channel_laws.proofs.EveryRun.{from-side}
use Rattle.channel_laws.proofs.ProtocolGrowth.{end-grows, packets-grow}
use Rattle.channel_laws.proofs.ProtocolParts.{SendsRight, OwnSendsRight, Right, IsAwaited, own-right, delivery-right}
use Rattle.channel_laws.proofs.Replies.{reply-waits}
use Rattle.channel_laws.proofs.Rows.{sound_schemas_have_sound_rows}
use Rattle.channel_laws.proofs.StandsFor.{constructing, stands-on, stands-new, lives-alike}
use Rattle.channel_laws.proofs.WorldSteps.{move-waits, opening-waits}

-- The protocols that a step constructs

-- the protocol of the actor that a request of a kind makes, if it makes one
abbrev pub kind_protocols : Kind → List ℕ
kind_protocols Normal = []
kind_protocols (Constructor protocol) = protocol ∷ []
kind_protocols Delete = []

abbrev pub first_constructs : {schema : Schema} {e f : End} {ws : List What} {ps : List Packet} {p : Phase} → FirstPart schema e ws ps f p → List ℕ
first_constructs (Parts.sends row route vs name sent) = kind_protocols row.kind
first_constructs _ = []

abbrev pub own_constructs : {schema : Schema} {e f : End} {ws : List What} {ps : List Packet} {q : Phase} → OwnParts schema e ws ps f q → List ℕ
own_constructs (Parts.begun part rest ended) = first_constructs part

no-more : (n : ℕ) → n ≡ n + 0
no-more n = omega arith

following-count : (b : Bool) (e : End) → (end_after b e).constructors_sent ≡ e.constructors_sent
following-count true e = refl
following-count false e = refl

without-count : (by : Answering) (e : End) → (answering.without_resolver by e).constructors_sent ≡ e.constructors_sent
without-count (handled seq) e = refl
without-count (kept name number) e = refl

sent-count : (kind : Kind) (n : ℕ) → counting kind n ≡ n + length (kind_protocols kind)
sent-count Normal n = no-more n
sent-count (Constructor protocol) n = refl
sent-count Delete n = no-more n

first-count : {schema : Schema} {e f : End} {ws : List What} {ps : List Packet} {p : Phase} (part : FirstPart schema e ws ps f p) → f.constructors_sent ≡ e.constructors_sent + length (first_constructs part)
first-count {e} (Parts.refuses w is) = no-more e.constructors_sent
first-count {e} (Parts.renames w is) = no-more e.constructors_sent
first-count {e} (Parts.flushes o) = no-more e.constructors_sent
first-count {e} (Parts.sends row route vs name sent) = sent-count row.kind e.constructors_sent
first-count {e} (Parts.answers by vs r row found may accepted used) = without-count by e ∙ no-more e.constructors_sent
first-count {e} (Parts.closes o waits) = no-more e.constructors_sent
first-count {e} (Parts.dies o) = no-more e.constructors_sent
first-count {e} (Parts.dies_silent o alive) = no-more e.constructors_sent
first-count {e} (Parts.takes m sync level row vs next body found stays) = no-more e.constructors_sent
first-count {e} (Parts.drops m sync level row vs id replies next body found gone is) = following-count replies (Parts.left_end e) ∙ no-more e.constructors_sent
first-count {e} (Parts.drops_unknown m sync level vs next body found) = no-more e.constructors_sent
first-count {e} (Parts.takes_reply m sync level a next body settles) = no-more e.constructors_sent
first-count {e} (Parts.settles m sync level row a next body found is) = no-more e.constructors_sent
first-count {e} (Parts.shuts last next is) = no-more e.constructors_sent
first-count {e} (Parts.returns entry row vs told lost is t l) = following-count lost (end_after told (record e { stack = drop 1 e.stack })) ∙ (following-count told (record e { stack = drop 1 e.stack }) ∙ no-more e.constructors_sent)
first-count {e} (Parts.resumes wait row on_top found) = no-more e.constructors_sent

later-count : {p q : Phase} {e f : End} {ws : List What} {ps : List Packet} → LaterPart p e ws ps f q → f.constructors_sent ≡ e.constructors_sent
later-count (Parts.unnames name may silent) = refl
later-count (Parts.lets_go name r may is o) = refl
later-count (Parts.names more a) = refl
later-count (Parts.releases seq closed) = refl
later-count (Parts.keeps seq name r is goes) = refl
later-count (Parts.builds id protocol rest fresh built) = refl
later-count (Parts.deletes id cause) = refl
later-count (Parts.falls why cause) = refl

laters-count : {p q : Phase} {e f : End} {ws : List What} {ps : List Packet} → LaterParts p e ws ps f q → f.constructors_sent ≡ e.constructors_sent
laters-count Parts.done = refl
laters-count (Parts.then part rest) = laters-count rest ∙ later-count part

own-count : {schema : Schema} {e f : End} {ws : List What} {ps : List Packet} {q : Phase} (parts : OwnParts schema e ws ps f q) → f.constructors_sent ≡ e.constructors_sent + length (own_constructs parts)
own-count (Parts.begun part rest ended) = laters-count rest ∙ first-count part

delivery-count : {schema : Schema} {packet : Packet} {q : Phase} {e f : End} {ws : List What} {ps : List Packet} → DeliveryPart schema packet e ws ps f q → f.constructors_sent ≡ e.constructors_sent
delivery-count (Parts.gets_request m row vs body found none) = refl
delivery-count {e} (Parts.replaces m row vs old sync level replies body found rep is) = following-count replies (delivery.counted row (delivery.item_of row m) e)
delivery-count (Parts.gets_answer m row a body found sync) = refl
delivery-count (Parts.gets_reply m row a body found sync) = refl
delivery-count (Parts.drains packet is) = refl
delivery-count (Parts.passes_by m other found) = refl

length-both : (xs ys : List ℕ) → length (xs ++ ys) ≡ length xs + length ys
length-both [] ys = omega arith
length-both (x ∷ xs) ys = let rest : length (xs ++ ys) ≡ length xs + length ys = length-both xs ys in omega arith

own-constructed : (side : Side) (more : List ℕ) (made : Protocols) → constructed_count side (constructing side more made) ≡ constructed_count side made + length more
own-constructed Parent more made = length-both made.parent more
own-constructed Child more made = length-both made.child more

other-constructed : (side : Side) (more : List ℕ) (made : Protocols) → constructed_count (other side) (constructing side more made) ≡ constructed_count (other side) made
other-constructed Parent more made = refl
other-constructed Child more made = refl

top-constructed : (side : Side) (more : List ℕ) (made : Protocols) → (constructing side more made).top ≡ made.top
top-constructed Parent more made = refl
top-constructed Child more made = refl

-- Sides

flip : {schema : Schema} {top : ℕ} {side : Side} {mine theirs : End} {to_me to_them : List Packet} → EndsHaveProtocols schema top side mine theirs to_me to_them → EndsHaveProtocols schema top (other side) theirs mine to_them to_me
flip {side} h = record {
  made = h.made;
  top_is = h.top_is;
  count = h.their_count;
  their_count = ap (λ (s : Side). constructed_count s h.made) (other-other side) ∙ h.count;
  keeps = h.their_keeps;
  their_keeps = h.keeps;
  comes = h.goes;
  goes = h.comes;
}

-- Steps

module _ (schema : Schema) (sound : IsSound schema) (top : ℕ) (side : Side) where
  -- the id that a request makes has its protocol, once it is counted
  makes-new : (made : Protocols) (e : End) (kind : Kind) → e.side ≡ side → constructed_count side made ≡ e.constructors_sent → MakesItsProtocol (constructing side (kind_protocols kind) made) kind (send.next_made e kind)
  makes-new made e Normal is count = tt
  makes-new made e (Constructor protocol) is count =
      subst (λ (s : Side). StandsFor (constructing side (protocol ∷ []) made) (id_of s (e.constructors_sent + 1)) protocol) (sym is)
      (subst (λ (n : ℕ). StandsFor (constructing side (protocol ∷ []) made) (id_of side (n + 1)) protocol) count (stands-new side protocol made))
  makes-new made e Delete is count = tt

  first-sends : {e f : End} {ws : List What} {ps : List Packet} {p : Phase} (made : Protocols) (part : FirstPart schema e ws ps f p) → e.side ≡ side → constructed_count side made ≡ e.constructors_sent → SendsRight (constructing side (first_constructs part) made) part
  first-sends made (Parts.refuses w is) s c = tt
  first-sends made (Parts.renames w is) s c = tt
  first-sends made (Parts.flushes o) s c = tt
  first-sends {e} made (Parts.sends row route vs name sent) s c = makes-new made e row.kind s c
  first-sends made (Parts.answers by vs r row found may accepted used) s c = tt
  first-sends made (Parts.closes o waits) s c = tt
  first-sends made (Parts.dies o) s c = tt
  first-sends made (Parts.dies_silent o alive) s c = tt
  first-sends made (Parts.takes m sync level row vs next body found stays) s c = tt
  first-sends made (Parts.drops m sync level row vs id replies next body found gone is) s c = tt
  first-sends made (Parts.drops_unknown m sync level vs next body found) s c = tt
  first-sends made (Parts.takes_reply m sync level a next body settles) s c = tt
  first-sends made (Parts.settles m sync level row a next body found is) s c = tt
  first-sends made (Parts.shuts last next is) s c = tt
  first-sends made (Parts.returns entry row vs told lost is t l) s c = tt
  first-sends made (Parts.resumes wait row on_top found) s c = tt

  own-sends : {e f : End} {ws : List What} {ps : List Packet} {q : Phase} (made : Protocols) (parts : OwnParts schema e ws ps f q) → e.side ≡ side → constructed_count side made ≡ e.constructors_sent → OwnSendsRight (constructing side (own_constructs parts) made) parts
  own-sends made (Parts.begun part rest ended) s c = first-sends made part s c

  -- an end's own step
  acts-right : (mine theirs next : End) (to_me to_them ps : List Packet) (ws : List What) (q : Phase) (parts : OwnParts schema mine ws ps next q) → mine.side ≡ side → EndsHaveProtocols schema top side mine theirs to_me to_them → EndsHaveProtocols schema top side next theirs to_me (to_them ++ ps)
  acts-right mine theirs next to_me to_them ps ws q parts is h =
      let more : List ℕ = own_constructs parts in
      let made : Protocols = constructing side more h.made in
      let grows : (id : ℤ) (p : ℕ) → StandsFor h.made id p → StandsFor made id p = stands-on side more h.made in
      let r : Right schema made next ps q = own-right schema sound made parts (own-sends h.made parts is h.count) (end-grows schema h.made made grows mine h.keeps) in
      record {
        made = made;
        top_is = top-constructed side more h.made ∙ h.top_is;
        count = own-constructed side more h.made ∙ (ap (λ (n : ℕ). n + length more) h.count ∙ sym (own-count parts));
        their_count = other-constructed side more h.made ∙ h.their_count;
        keeps = r.keeps;
        their_keeps = end-grows schema h.made made grows theirs h.their_keeps;
        comes = packets-grow schema h.made made grows to_me h.comes;
        goes = all-append (PacketHasProtocols schema made) to_them ps (packets-grow schema h.made made grows to_them h.goes) r.packets;
      }

  -- a delivery
  delivers-right : (mine theirs next : End) (packet : Packet) (to_me to_them ps : List Packet) (ws : List What) (q : Phase) → first_packet to_me ≡ Some packet → DeliveryPart schema packet mine ws ps next q → IsAwaited schema packet mine → EndsHaveProtocols schema top side mine theirs to_me to_them → EndsHaveProtocols schema top side next theirs (drop 1 to_me) (to_them ++ ps)
  delivers-right mine theirs next packet to_me to_them ps ws q first part aw h =
      let comes : AllByRecursion (PacketHasProtocols schema h.made) (packet ∷ drop 1 to_me) = subst (AllByRecursion (PacketHasProtocols schema h.made)) (first-is to_me packet first) h.comes in
      let r : Right schema h.made next ps q = delivery-right schema sound h.made part aw comes.0 h.keeps in
      record {
        made = h.made;
        top_is = h.top_is;
        count = h.count ∙ sym (delivery-count part);
        their_count = h.their_count;
        keeps = r.keeps;
        their_keeps = h.their_keeps;
        comes = comes.1;
        goes = all-append (PacketHasProtocols schema h.made) to_them ps h.goes r.packets;
      }

  awaited : (mine theirs : End) (to_me to_them : List Packet) (packet : Packet) → mine.side ≡ side → first_packet to_me ≡ Some packet → is_open mine.state ≡ true → EndsAreNested schema side mine theirs to_me to_them → IsAwaited schema packet mine
  awaited mine theirs to_me to_them packet is first o nested m packet_is reply sync =
      reply-waits schema side mine theirs to_me to_them m (drop 1 to_me) (open-is mine.state o) is (first-is to_me packet first ∙ ap (λ (p : Packet). p ∷ drop 1 to_me) packet_is) reply sync nested

  moved : (ev : Event) (mine theirs : End) (to_me to_them : List Packet) (o : Output) → mine.side ≡ side → EndsAreNested schema side mine theirs to_me to_them → EndsHaveProtocols schema top side mine theirs to_me to_them → IsStepOfParts schema mine to_me ev o
      → EndsHaveProtocols schema top side o.end theirs (after_event ev to_me) (to_them ++ o.packets)
  moved event.deliver mine theirs to_me to_them o is nested h (packet, first, opened, s) = delivers-right mine theirs o.end packet to_me to_them o.packets s.whats s.phase first s.parts (awaited mine theirs to_me to_them packet is first opened nested) h
  moved (event.send route number vs name) mine theirs to_me to_them o is nested h s = acts-right mine theirs o.end to_me to_them o.packets s.whats s.phase s.parts is h
  moved (event.answer by vs) mine theirs to_me to_them o is nested h s = acts-right mine theirs o.end to_me to_them o.packets s.whats s.phase s.parts is h
  moved (event.keep seq name) mine theirs to_me to_them o is nested h s = acts-right mine theirs o.end to_me to_them o.packets s.whats s.phase s.parts is h
  moved (event.name name id) mine theirs to_me to_them o is nested h s = acts-right mine theirs o.end to_me to_them o.packets s.whats s.phase s.parts is h
  moved event.close mine theirs to_me to_them o is nested h s = acts-right mine theirs o.end to_me to_them o.packets s.whats s.phase s.parts is h
  moved event.die mine theirs to_me to_them o is nested h s = acts-right mine theirs o.end to_me to_them o.packets s.whats s.phase s.parts is h
  moved event.take mine theirs to_me to_them o is nested h s = acts-right mine theirs o.end to_me to_them o.packets s.whats s.phase s.parts is h
  moved (event.return vs) mine theirs to_me to_them o is nested h s = acts-right mine theirs o.end to_me to_them o.packets s.whats s.phase s.parts is h
  moved event.resume mine theirs to_me to_them o is nested h s = acts-right mine theirs o.end to_me to_them o.packets s.whats s.phase s.parts is h
  moved event.flush mine theirs to_me to_them o is nested h s = acts-right mine theirs o.end to_me to_them o.packets s.whats s.phase s.parts is h

-- Worlds

module _ (schema : Schema) (sound : IsSound schema) (top : ℕ) where
  pub protocols-following : (side : Side) (ev : Event) (w : World) (found : Option Output) → output_of schema w (record { side = side; event = ev }) ≡ found → IsNestedWorld schema w → WorldHasProtocols schema top w → WorldHasProtocols schema top (passed_by found (record { side = side; event = ev }) w).world
  protocols-following side ev w None is n h = h
  protocols-following Parent ev w (Some o) is n h = moved schema sound top Parent ev w.parent w.child w.to_parent w.to_child o n.parent (from-side schema Parent w n) h (steps_are_made_of_parts schema w.parent w.to_parent ev o is)
  protocols-following Child ev w (Some o) is n h = flip (moved schema sound top Child ev w.child w.parent w.to_child w.to_parent o n.child (from-side schema Child w n) (flip h) (steps_are_made_of_parts schema w.child w.to_child ev o is))

  runs-right : (moves : List Move) (w : World) → IsNestedWorld schema w → WorldHasProtocols schema top w → WorldHasProtocols schema top (run schema moves w).world
  runs-right [] w n h = h
  runs-right (move ∷ moves) w n h =
      runs-right moves (happens schema w move).world (move-waits schema (sound_schemas_have_sound_rows schema sound) move w n) (protocols-following move.side move.event w (output_of schema w move) refl n h)

  first-protocols : (side : Side) → HasProtocols schema (record { top = top; parent = []; child = [] }) (opening_end top side)
  first-protocols side = record { actors = (inl (refl, refl), tt); entries = tt; names = tt; arrived = tt; outbox = tt }

  pub opening-right : WorldHasProtocols schema top (opening top)
  opening-right = record {
    made = record { top = top; parent = []; child = [] };
    top_is = refl;
    count = refl;
    their_count = refl;
    keeps = first-protocols Parent;
    their_keeps = first-protocols Child;
    comes = tt;
    goes = tt;
  }

pub protocols_in_every_run : ProtocolsInEveryRun
protocols_in_every_run schema sound top moves = runs-right schema sound top moves (opening top) (opening-waits schema top) (opening-right schema sound top)

pub types_tell_who_lives : TypesTellWhoLives
types_tell_who_lives schema made e h a is = lives-alike made e.actors h.actors a is
