-- Each reply that has arrived at an end and waits to be taken is for a promise of the end, in every run.
use Rattle.std.proofs.Common.{◌≡◌, ℕ, ℤ, Bool, true, false, ◌||◌, if◌then◌else◌, List, [], ◌∷◌, ◌++◌, map, Option, Some, None, refl, sym, ap, subst, ◌∙◌}
use Rattle.std.specs.List.{AllByRecursion, list_any}
use Rattle.std.specs.Option.{option_map_or}
use Rattle.std.proofs.lemmas.Grind.{flat_map-append}
use Rattle.std.proofs.lemmas.List.Folds.{list_any-append}
use Rattle.std.proofs.lemmas.Option.{same_Some}
use Rattle.ipdl_base.specs.declared.kinds.Side.{Side}
use Rattle.ipdl_base.specs.declared.line.Line.{Line}
use Rattle.ipdl_base.specs.declared.line.What.{What}
use Rattle.ipdl_base.specs.declared.message.Body.{Body}
use Rattle.ipdl_base.specs.declared.message.Body.TheVariants.{Request, Reply, Fault, Goodbye}
use Rattle.ipdl_base.specs.declared.message.Message.{Message}
use Rattle.ipdl_base.specs.declared.schema.MessageRow.{MessageRow}
use Rattle.ipdl_base.specs.declared.schema.Schema.{Schema}
use Rattle.ipdl_base.specs.Sound.{IsSound}
use Rattle.nesting_core.specs.declared.frame.Answer.{Answer}
use Rattle.nesting_core.specs.declared.frame.Answer.TheVariants as answer
use Rattle.pending_queue.specs.declared.item.Item.{Item}
use Rattle.pending_queue.specs.declared.item.Item.TheVariants as item
use Rattle.pending_queue.specs.Compression.{staying}
use Rattle.history_reading.specs.EndReading.{EndReading}
use Rattle.history_reading.specs.Reading.{Reading, end_reading_of, opening_reading, read}
use Rattle.history_reading.specs.SentPacket.{SentPacket, requests_of}
use Rattle.channel_model.specs.Deliveries as delivery
use Rattle.channel_model.specs.Ends.{End, Packet, PromiseEntry, World, end_of, link_to, message, mark, opening, opening_end}
use Rattle.channel_model.specs.Events as event
use Rattle.channel_model.specs.Events.{Move}
use Rattle.channel_model.specs.Outputs.{Output, body_of, is_open, line_at}
use Rattle.channel_model.specs.Parts
use Rattle.channel_model.specs.Parts.{DeliveryPart, OwnParts, end_after, farewell_item}
use Rattle.channel_model.specs.Phases.{Phase}
use Rattle.channel_model.specs.Refusals.{DeliveryRefusal, body_refusal, is_expected_reply, is_promised, is_replied_to, is_waited_for, packet_refusal, stray, actor_refusal}
use Rattle.channel_model.specs.Runs.{history_of, run}
use Rattle.channel_model.specs.States.{is_farewell, is_goodbye}
use Rattle.channel_model.specs.StepLaws.{IsMadeOf}
use Rattle.channel_model.specs.Steps.{first_packet}
use Rattle.channel_model.proofs.Known.{all-append, all-map}
use Rattle.channel_model.proofs.StepParts.{steps_are_made_of_parts}
use Rattle.channel_model.proofs.Sublists.{all-sublist, staying-sublist}
use Rattle.channel_laws.specs.Exchanges.{ReadsExchanges}
use Rattle.channel_laws.specs.Promised.{Promised, promised_entry, promised_by, promised_in}
use Rattle.channel_laws.specs.Tested.{after_whats, read_from}
use Rattle.channel_laws.proofs.Growing.{grows}
use Rattle.channel_laws.proofs.HonestRuns.{honest_packets_are_accepted}
use Rattle.channel_laws.proofs.Moves.{StepParts, acts, delivers}
use Rattle.channel_laws.proofs.NotedArrivals.{own-arrived}
use Rattle.channel_laws.proofs.Outlines.{open-is}
use Rattle.channel_laws.proofs.Reached.{all-pass}
use Rattle.channel_laws.proofs.Runs.{AtEnds, EveryMoveKeeps, IsReached, at-ends, ends-keep, every-run}
use Rattle.channel_laws.proofs.SentAccounts.{requests-append}
use Rattle.channel_laws.proofs.WaitLaw.{exchanges-reached}
use Rattle.alone_laws.specs.AloneRuns.{RunsAlone, begins, acts as does, gets}
use Rattle.alone_laws.proofs.AloneLines.{own-more}
use Rattle.alone_laws.proofs.AloneRuns.{runs-keep}
use Rattle.alone_laws.proofs.AloneSteps.{own-made}

-- a message is a reply to one of these promises
abbrev IsToPromise : List Promised → Message → Type 0
IsToPromise promises m = list_any (λ (p : Promised). is_replied_to m p.seq p.number p.route) promises ≡ true

abbrev pub BodyIsPromised : List Promised → Message → Body → Type 0
BodyIsPromised promises m (Request vs) = Unit {0}
BodyIsPromised promises m (Reply vs) = list_any (λ (p : Promised). is_replied_to m p.seq p.number p.route) promises ≡ true
BodyIsPromised promises m (Fault reason) = list_any (λ (p : Promised). is_replied_to m p.seq p.number p.route) promises ≡ true
BodyIsPromised promises m Goodbye = Unit {0}

abbrev pub ItemIsPromised : List Promised → Item → Type 0
ItemIsPromised promises (item.Message m sync level) = BodyIsPromised promises m m.body
ItemIsPromised promises item.Broken = Unit {0}

-- Each reply that has arrived at an end is for a promise that the end has made.
abbrev pub RepliesArePromised : End → EndReading → Type 0
RepliesArePromised e own = AllByRecursion (ItemIsPromised (promised_in (requests_of own.sent))) e.arrived

-- More promises

any-more : {A : Type 0} (p : A → Bool) (xs ys : List A) → list_any p xs ≡ true → list_any p (xs ++ ys) ≡ true
any-more p xs ys h = list_any-append p xs ys ∙ ap (λ (b : Bool). b || list_any p ys) h

body-more : (ps more : List Promised) (m : Message) (body : Body) → BodyIsPromised ps m body → BodyIsPromised (ps ++ more) m body
body-more ps more m (Request vs) h = tt
body-more ps more m (Reply vs) h = any-more (λ (p : Promised). is_replied_to m p.seq p.number p.route) ps more h
body-more ps more m (Fault reason) h = any-more (λ (p : Promised). is_replied_to m p.seq p.number p.route) ps more h
body-more ps more m Goodbye h = tt

item-more : (ps more : List Promised) (x : Item) → ItemIsPromised ps x → ItemIsPromised (ps ++ more) x
item-more ps more (item.Message m sync level) h = body-more ps more m m.body h
item-more ps more item.Broken h = tt

promised-more : (e : End) (own next : EndReading) (more : List SentPacket) → next.sent ≡ own.sent ++ more → RepliesArePromised e own → RepliesArePromised e next
promised-more e own next more is h =
    let same : promised_in (requests_of next.sent) ≡ promised_in (requests_of own.sent) ++ promised_in (requests_of more) =
    ap (λ (sent : List SentPacket). promised_in (requests_of sent)) is ∙ (ap promised_in (requests-append own.sent more) ∙ flat_map-append promised_by (requests_of own.sent) (requests_of more))
    in
    all-map (ItemIsPromised (promised_in (requests_of own.sent))) (ItemIsPromised (promised_in (requests_of next.sent))) e.arrived
    (λ x k. subst (λ (ps : List Promised). ItemIsPromised ps x) (sym same) (item-more (promised_in (requests_of own.sent)) (promised_in (requests_of more)) x k)) h

-- A reply that is delivered

promise-told : (m : Message) (promises : List PromiseEntry) → list_any (λ (entry : PromiseEntry). is_replied_to m entry.promise.seq entry.number entry.promise.actor) promises ≡ list_any (λ (p : Promised). is_replied_to m p.seq p.number p.route) (map promised_entry promises)
promise-told m [] = refl
promise-told m (entry ∷ promises) = ap (λ (b : Bool). is_replied_to m entry.promise.seq entry.number entry.promise.actor || b) (promise-told m promises)

reply-expected : (expected : Bool) (refused : Option DeliveryRefusal) (n : ℤ) → (if expected then refused else Some (stray n)) ≡ None → expected ≡ true
reply-expected true refused n h = refl
reply-expected false refused n h = cc

body-expected : (schema : Schema) (e : End) (m : Message) (row : MessageRow) (a : Answer) → body_refusal schema e m (body_of a) row ≡ None → is_expected_reply e m row ≡ true
body-expected schema e m row (answer.Ok vs) h = reply-expected (is_expected_reply e m row) (actor_refusal schema e row m) m.seq h
body-expected schema e m row (answer.Fault reason) h = reply-expected (is_expected_reply e m row) (actor_refusal schema e row m) m.seq h

body-promised : (ps : List Promised) (m : Message) (a : Answer) → IsToPromise ps m → BodyIsPromised ps m (body_of a)
body-promised ps m (answer.Ok vs) h = h
body-promised ps m (answer.Fault reason) h = h

farewell-promised : (ps : List Promised) (packet : Packet) → is_farewell (farewell_item packet) ≡ true → ItemIsPromised ps (farewell_item packet)
farewell-promised ps mark is = tt
farewell-promised ps (message m) is = by m.body is
  where
    by : (body : Body) → is_goodbye body ≡ true → BodyIsPromised ps m body
    by (Request vs) h = tt
    by (Reply vs) h = cc
    by (Fault reason) h = cc
    by Goodbye h = tt

module _ (schema : Schema) (e : End) (own : EndReading) (exchanges : ReadsExchanges schema e own) where
  abbrev ps : List Promised
  ps = promised_in (requests_of own.sent)

  counted-promised : (row : MessageRow) (m : Message) (vs : _) → m.body ≡ Request vs → RepliesArePromised e own → AllByRecursion (ItemIsPromised ps) (delivery.counted row (delivery.item_of row m) e).arrived
  counted-promised row m vs body h =
      all-append (ItemIsPromised ps) (staying row.compress (delivery.item_of row m) e.arrived) (delivery.item_of row m ∷ []) (all-sublist (ItemIsPromised ps) (staying row.compress (delivery.item_of row m) e.arrived) e.arrived (staying-sublist row.compress (delivery.item_of row m) e.arrived) h)
      (subst (BodyIsPromised ps m) (sym body) tt, tt)

  following-promised : (b : Bool) (f : End) → AllByRecursion (ItemIsPromised ps) f.arrived → AllByRecursion (ItemIsPromised ps) (end_after b f).arrived
  following-promised true f h = h
  following-promised false f h = h

  delivery-promised : {packet : Packet} {f : End} {ws : List What} {qs : List Packet} {q : Phase} → DeliveryPart schema packet e ws qs f q → packet_refusal schema e packet ≡ None → RepliesArePromised e own → AllByRecursion (ItemIsPromised ps) f.arrived
  delivery-promised (Parts.gets_request m row vs body found none) accepted h = counted-promised row m vs body h
  delivery-promised (Parts.replaces m row vs old sync level replies body found rep is) accepted h = following-promised replies (delivery.counted row (delivery.item_of row m) e) (counted-promised row m vs body h)
  delivery-promised (Parts.gets_answer m row a body found sync) accepted h = h
  delivery-promised (Parts.gets_reply m row a body found async) accepted h =
      let unrefused : body_refusal schema e m (body_of a) row ≡ None =
      ap (λ (b : Body). body_refusal schema e m b row) (sym body) ∙ (sym (ap (λ (r : Option MessageRow). option_map_or (body_refusal schema e m m.body) r None) found) ∙ accepted)
      in
      let expected : is_promised e m ≡ true = sym (ap (λ (b : Bool). if b then is_waited_for e m else is_promised e m) async) ∙ body-expected schema e m row a unrefused in
      let told : IsToPromise ps m = ap (list_any (λ (p : Promised). is_replied_to m p.seq p.number p.route)) (sym exchanges.promises.promises_are) ∙ (sym (promise-told m e.promises) ∙ expected) in
      all-append (ItemIsPromised ps) e.arrived (delivery.item_of row m ∷ []) h (subst (BodyIsPromised ps m) (sym body) (body-promised ps m a told), tt)
  delivery-promised {packet} (Parts.drains _ is) accepted h = all-append (ItemIsPromised ps) e.arrived (farewell_item packet ∷ []) h (farewell-promised ps packet is, tt)
  delivery-promised (Parts.passes_by m other found) accepted h = h

  -- a step keeps this, if a packet that it delivers is not refused
  pub parts-promised : (place : ℕ) (link : List Packet) {happened : event.Event} {ws : List What} {qs : List Packet} {f : End} {q : Phase} → StepParts schema e link happened ws qs f q
      → ((packet : Packet) → first_packet link ≡ Some packet → is_open e.state ≡ true → packet_refusal schema e packet ≡ None) → RepliesArePromised e own → RepliesArePromised f (after_whats schema place ws own)
  parts-promised place link {ws = ws} {f = f} part accepted h = let g = grows schema place ws own in promised-more f own (after_whats schema place ws own) g.0 g.1 (by part)
    where
      by : {happened : event.Event} {ws : List What} {qs : List Packet} {f : End} {q : Phase} → StepParts schema e link happened ws qs f q → AllByRecursion (ItemIsPromised ps) f.arrived
      by (acts same part) = own-arrived (ItemIsPromised ps) part h
      by (delivers packet first o part) = delivery-promised part (accepted packet first o) h

-- Histories

first-rest : (link : List Packet) (packet : Packet) → first_packet link ≡ Some packet → (rest : List Packet) × (link ≡ packet ∷ rest)
first-rest [] packet h = cc
first-rest (p ∷ rest) packet h = let k : p ≡ packet = cc in (rest, ap (λ (x : Packet). x ∷ rest) k)

module _ (schema : Schema) (sound : IsSound schema) where
  reached-accepts : (w : World) (r : Reading) → IsReached schema w r → (side : Side) (packet : Packet) → first_packet (link_to side w) ≡ Some packet → is_open (end_of side w).state ≡ true → packet_refusal schema (end_of side w) packet ≡ None
  reached-accepts w r reached side packet first opened =
      let l = first-rest (link_to side w) packet first in
      subst (λ (v : World). packet_refusal schema (end_of side v) packet ≡ None) reached.world
      (honest_packets_are_accepted schema sound reached.top reached.front side packet l.0 (ap (λ (v : World). (end_of side v).state) reached.world ∙ open-is (end_of side w).state opened) (ap (link_to side) reached.world ∙ l.1))

  promised-moves : EveryMoveKeeps schema (AtEnds schema RepliesArePromised) (λ r l b. true)
  promised-moves move w r output m k =
      let exchanges = at-ends schema (ReadsExchanges schema) move.side w r (exchanges-reached schema sound w r m.reached) in
      let both = at-ends schema RepliesArePromised move.side w r k in
      record {
        kept = ends-keep schema RepliesArePromised move.side move.event w r output m.nested m.ends
            (parts-promised schema (end_of move.side w) (end_reading_of move.side r) exchanges.0 r.lines (link_to move.side w) m.ends.parts (reached-accepts w r m.reached move.side) both.0) both.1;
        passes = λ following. all-pass schema r output.lines following;
      }

  pub replies-promised : (top : ℕ) (moves : List Move) → AtEnds schema RepliesArePromised (run schema moves (opening top)).world (read_from schema opening_reading (history_of schema top moves))
  replies-promised top moves = (every-run schema sound (AtEnds schema RepliesArePromised) (λ r l b. true) promised-moves top moves (tt, tt)).kept

-- Runs of one end

module _ (schema : Schema) (sound : IsSound schema) (top : ℕ) (side : Side) where
  -- what is read of an end after the lines of one more step
  read-next : (e : End) (lines : List Line) (output : Output) (ws : List What) → e.side ≡ side → output.lines ≡ map (line_at e.side) ws → RepliesArePromised output.end (after_whats schema (read schema lines).lines ws (end_reading_of side (read schema lines)))
      → RepliesArePromised output.end (end_reading_of side (read schema (lines ++ output.lines)))
  read-next e lines output ws is said h =
      subst (λ (ls : List Line). RepliesArePromised output.end (end_reading_of side (read schema (lines ++ ls)))) (sym (said ∙ ap (λ (s : Side). map (line_at s) ws) is))
      (subst (RepliesArePromised output.end) (sym (own-more schema side lines ws)) h)

  opening-promised : RepliesArePromised (opening_end top side) (end_reading_of side (read schema []))
  opening-promised = tt

  pub replies-alone : (e : End) (lines : List Line) (packets : List Packet) → RunsAlone schema top side e lines packets → RepliesArePromised e (end_reading_of side (read schema lines))
  replies-alone _ _ _ begins = opening-promised
  replies-alone _ _ _ (does {e = e} {lines = lines} {packets = packets} own output run made) =
      let k = runs-keep schema sound top side e lines packets run in
      let m : IsMadeOf (OwnParts schema e) e.side output = own-made schema e own output (steps_are_made_of_parts schema e [] own output made) in
      let r : EndReading = end_reading_of side (read schema lines) in
      let part : StepParts schema e [] event.flush m.whats output.packets output.end m.phase = acts refl m.parts in
      read-next e lines output m.whats k.side_is m.lines
      (parts-promised schema e r k.read_is.exchanges (read schema lines).lines [] part (λ packet first o. cc) (replies-alone e lines packets run))
  replies-alone _ _ _ (gets {e = e} {lines = lines} {packets = packets} packet output run fits accepted made) =
      let k = runs-keep schema sound top side e lines packets run in
      let d = steps_are_made_of_parts schema e (packet ∷ []) event.deliver output made in
      let r : EndReading = end_reading_of side (read schema lines) in
      let part : StepParts schema e (packet ∷ []) event.deliver d.3.whats output.packets output.end d.3.phase = delivers d.0 d.1 d.2 d.3.parts in
      read-next e lines output d.3.whats k.side_is d.3.lines
      (parts-promised schema e r k.read_is.exchanges (read schema lines).lines (packet ∷ []) part
      (λ other first o. subst (λ (x : Packet). packet_refusal schema e x ≡ None) (same_Some packet other first) accepted) (replies-alone e lines packets run))
