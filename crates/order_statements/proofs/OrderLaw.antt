-- Every legal history keeps the order.
use Rattle.std.proofs.Common.{◌≡◌, ℕ, Bool, true, false, cond, IsTrue, List, [], ◌∷◌, ◌++◌, find, map, ◌≤◌, Some, None, option_map, refl, sym, ap, subst, ◌∙◌}
use Rattle.std.specs.List.{AllByRecursion}
use Rattle.std.proofs.lemmas.List.{append-nil, map-append}
use Rattle.ipdl_base.specs.declared.kinds.Side.{Side}
use Rattle.ipdl_base.specs.declared.line.Line.{Line}
use Rattle.ipdl_base.specs.declared.line.What.{What}
use Rattle.ipdl_base.specs.declared.schema.Schema.{Schema}
use Rattle.ipdl_base.specs.Sound.{IsSound}
use Rattle.nesting_core.specs.declared.frame.Head.{Head}
use Rattle.nesting_core.specs.declared.frame.StackFrame.{StackFrame}
use Rattle.nesting_core.specs.Answers.{awaited}
use Rattle.nesting_core.specs.Frames.{head_of, is_unanswered}
use Rattle.pending_queue.specs.declared.item.Item.{Item}
use Rattle.pending_queue.specs.DeferralContext.{arrival_of, defers_item}
use Rattle.history_reading.specs.declared.parts.PacketKind.{PacketKind}
use Rattle.history_reading.specs.declared.parts.PacketKind.TheVariants as seen
use Rattle.history_reading.specs.EndReading.{EndReading, has_unanswered}
use Rattle.history_reading.specs.Reading.{end_reading_of, read}
use Rattle.channel_model.specs.Ends.{End, Packet, end_of, link_to}
use Rattle.channel_model.specs.Events.{Move}
use Rattle.channel_model.specs.Events as event
use Rattle.ipdl_base.specs.Sides.{other}
use Rattle.channel_model.specs.Outputs.{Output}
use Rattle.channel_model.specs.Runs.{history_of}
use Rattle.channel_model.specs.Sends.{frames_of}
use Rattle.channel_model.specs.Steps.{step}
use Rattle.channel_model.specs.Takes.{deferral_context_of}
use Rattle.channel_model.specs.States.{IsAnswered}
use Rattle.channel_model.proofs.Known.{all-before, all-both}
use Rattle.channel_laws.specs.Arrivals.{item_kind}
use Rattle.channel_laws.specs.Counts.{how_many, is_packet}
use Rattle.channel_laws.specs.Laws.{world_of}
use Rattle.channel_laws.specs.Notes.{In, here, there}
use Rattle.channel_laws.proofs.Exchanges.{replies-once}
use Rattle.channel_laws.proofs.Readable.{histories_are_readable}
use Rattle.channel_laws.proofs.WaitMoments.{waits-none}
use Rattle.order_laws.specs.Order.{FirstLine, IsShut, IsTakeOf, TakesFreeItem, TakesLast}
use Rattle.order_laws.proofs.Farewells.{farewells_are_taken_last}
use Rattle.order_laws.proofs.Takes.{free_items_are_taken}
use Rattle.law_statements.specs.Arrived.{Passing, passings}
use Rattle.law_statements.specs.Packets.{sent}
use Rattle.law_statements.specs.Said.{line_of, said_by}
use Rattle.law_statements.specs.Stack.{stack}
use Rattle.law_statements.specs.Waits.{defers_kind}
use Rattle.law_statements.proofs.Fields.{delivered-read, sent-read}
use Rattle.law_statements.proofs.StackRead.{stack-read}
use Rattle.law_statements.proofs.WaitsLaw.{kind-read}
use Rattle.order_statements.specs.Laws.{HistoriesKeepOrder}
use Rattle.order_statements.specs.Order as order
use Rattle.order_statements.specs.Order.{IsPassedOver, TakesFirstFree, WaitsAlone, is_shut, packet_taken}
use Rattle.order_statements.specs.Waiting.{waiting}
use Rattle.order_statements.proofs.Arrived.{ArriveOnce, WaitsAt, once-arrived, waiting-read, waits-at, waits-in}
use Rattle.order_statements.proofs.Takings.{TakenAfter, shut-is, taken-after, taken-shows, taken-stays}
use Rattle.order_statements.proofs.WaitingItems.{EndKnown, Waits, all-wait, arrival-told, deferred-alike, known, may-overtake}

-- Lists

pub no-item : {A : Type 0} (x : A) → In x [] → ⊥
no-item x i = elim i [ ]

in-one : {A : Type 0} (x y : A) → In x (y ∷ []) → x ≡ y
in-one x y here = refl
in-one x y (there i) = absurd (no-item x i)

-- a packet that some items with a property show is shown by an item with the property
record ShownBy (P : Item → Type 0) (packet : PacketKind) : Type 0 where
  one : Item
  shows : item_kind one ≡ packet
  has : P one

shown-by : (P : Item → Type 0) (xs : List Item) (packet : PacketKind) → AllByRecursion P xs → In packet (map item_kind xs) → ShownBy P packet
shown-by P [] packet h i = absurd (no-item packet i)
shown-by P (x ∷ xs) packet h here = record { one = x; shows = refl; has = h.0 }
shown-by P (x ∷ xs) packet h (there i) = shown-by P xs packet h.1 i

one-at : {A : Type 0} (P : A → Type 0) (front : List A) (x : A) (back : List A) → AllByRecursion P (front ++ x ∷ back) → P x
one-at P [] x back h = h.0
one-at P (y ∷ front) x back h = one-at P front x back h.1

-- a list of one item has it as its last
alone-front : (front : List Item) (x : Item) (back : List Item) (last : Item) → front ++ x ∷ back ≡ last ∷ [] → (front ≡ []) × (x ≡ last)
alone-front [] x back last e = let same : x ≡ last = cc in (refl, same)
alone-front (y ∷ []) x back last e = cc
alone-front (y ∷ z ∷ front) x back last e = cc

-- Waits

none-awaited : (frames : List StackFrame) → AllByRecursion IsAnswered frames → awaited frames ≡ None
none-awaited [] h = refl
none-awaited (f ∷ fs) h = ap (λ (b : Bool). option_map (λ (head : Head). head.seq) (option_map head_of (cond b (Some f) (find is_unanswered fs)))) h.0 ∙ none-awaited fs h.1

-- Takes

-- What an end takes in a run.
module _ (schema : Schema) (sound : IsSound schema) (top : ℕ) (moves : List Move) (side : Side) (output : Output) (made : step schema (end_of side (world_of schema top moves)) (link_to side (world_of schema top moves)) event.take ≡ Some output)
    (w : What) (effects : List What) (told : output.lines ≡ map (line_of side) (w ∷ effects)) (packet : PacketKind) (is : packet_taken w ≡ Some packet) where
  abbrev before : List Line
  before = history_of schema top moves

  abbrev mine : End
  mine = end_of side (world_of schema top moves)

  abbrev theirs : End
  theirs = end_of (other side) (world_of schema top moves)

  abbrev own : EndReading
  own = end_reading_of side (read schema before)

  abbrev others : EndReading
  others = end_reading_of (other side) (read schema before)

  abbrev to_me : List Packet
  to_me = link_to side (world_of schema top moves)

  abbrev to_them : List Packet
  to_them = link_to (other side) (world_of schema top moves)

  abbrev come : List Passing
  come = passings schema (said_by side before)

  k : EndKnown schema top side mine theirs own others to_me to_them
  k = known schema sound top moves side

  t : TakesFreeItem mine output
  t = free_items_are_taken.takes schema mine to_me output made

  taken-told : IsTakeOf t.taken w
  taken-told = subst (FirstLine (IsTakeOf t.taken)) told t.told

  shows : item_kind t.taken ≡ packet
  shows = taken-shows t.taken w packet taken-told is

  abbrev Here : Item → Type 0
  Here x = Waits schema sound top side mine theirs own others to_me to_them k x

  -- what waits, by the passings, is what has arrived
  once : ArriveOnce come
  once =
      once-arrived schema (said_by side before)
      (λ n. subst (λ (ds : List PacketKind). how_many (is_packet (seen.Request n)) ds ≤ 1) (delivered-read schema side before) (k.exchanges.arrivals.numbered.once n))
      (λ n. subst (λ (ds : List PacketKind). how_many (is_packet (seen.Reply n)) ds ≤ 1) (delivered-read schema side before) (replies-once schema theirs others own to_me k.ends.comes k.answers n))

  all-waiting : waiting come ≡ map item_kind mine.arrived
  all-waiting = sym (waiting-read schema side before once) ∙ k.exchanges.arrivals.arrived

  split : waiting come ≡ map item_kind t.older ++ packet ∷ map item_kind t.younger
  split =
      all-waiting ∙ ap (map item_kind) t.arrived ∙ map-append item_kind t.older (t.taken ∷ t.younger)
      ∙ ap (λ (p : PacketKind). map item_kind t.older ++ p ∷ map item_kind t.younger) shows

  stack-is : own.stack ≡ stack schema side before
  stack-is = stack-read schema before (histories_are_readable schema sound top moves) side before [] (sym (append-nil before))

  deferred-is : (x : Item) → Here x → defers_kind schema side before (item_kind x) ≡ defers_item (deferral_context_of mine) x
  deferred-is x h = sym (kind-read schema side before stack-is (item_kind x)) ∙ deferred-alike schema sound top side mine theirs own others to_me to_them k x h

  all-here : AllByRecursion Here (t.older ++ t.taken ∷ t.younger)
  all-here = subst (AllByRecursion Here) t.arrived (all-wait schema sound top side mine theirs own others to_me to_them k)

  taken-here : Here t.taken
  taken-here = one-at Here t.older t.taken t.younger all-here

  -- an end that shuts takes the last item
  takes-last : IsTrue (is_shut w) → TakesLast mine
  takes-last shut = farewells_are_taken_last schema sound top moves side output made (subst (FirstLine IsShut) (sym told) (shut-is w shut))

  -- an older item that the end defers
  abbrev Older : Item → Type 0
  Older x = Here x × (defers_item (deferral_context_of mine) x ≡ true)

  overtaken : (x : Item) → Older x → is_shut w ≡ false → IsPassedOver schema side before packet (item_kind x)
  overtaken x h stays =
      let said : List What = said_by (other side) before in
      let same : others.sent ≡ sent schema said = sent-read schema (other side) before in
      record {
        deferred = deferred-is x h.0 ∙ h.1;
        overtaken = record {
          taken = arrival_of t.taken;
          waiting = arrival_of x;
          taken_is = ap (order.arrival_of schema said) (sym shows) ∙ arrival-told schema sound top side mine theirs own others to_me to_them k said same t.taken taken-here;
          waiting_is = arrival-told schema sound top side mine theirs own others to_me to_them k said same x h.0;
          may = may-overtake schema sound top side mine theirs own others to_me to_them k t.taken x taken-here h.0 (taken-stays t.taken w taken-told stays) t.free h.1;
        };
      }

  passed-over : (older : PacketKind) → In older (map item_kind t.older) → IsPassedOver schema side before packet older
  passed-over older i = by (is_shut w) refl
    where
      by : (b : Bool) → is_shut w ≡ b → IsPassedOver schema side before packet older
      by true shut =
          let last : TakesLast mine = takes-last shut in
          let none : t.older ≡ [] = (alone-front t.older t.taken t.younger last.last (sym t.arrived ∙ last.alone)).0 in
          absurd (no-item older (subst (λ (xs : List Item). In older (map item_kind xs)) none i))
      by false stays =
          let s : ShownBy Older older = shown-by Older t.older older (all-both Here (λ x. defers_item (deferral_context_of mine) x ≡ true) Older t.older (λ x h d. (h, d)) (all-before Here t.older (t.taken ∷ t.younger) all-here) t.deferred) i in
          subst (IsPassedOver schema side before packet) s.shows (overtaken s.one s.has stays)

  takes-free : TakesFirstFree schema side before packet
  takes-free =
      let a : WaitsAt come (map item_kind t.older) packet = waits-at come (map item_kind t.older) (map item_kind t.younger) packet split in
      record {
        earlier = a.earlier;
        later = a.later;
        arrival = a.whole;
        waits = a.waits;
        free = ap (defers_kind schema side before) (sym shows) ∙ deferred-is t.taken taken-here ∙ t.free;
        older = λ q front back e still. passed-over q (a.older q front back e still);
      }

  only : (x : Item) → mine.arrived ≡ x ∷ [] → (q : PacketKind) → In q (waiting come) → q ≡ item_kind x
  only x alone q i = in-one q (item_kind x) (subst (In q) (all-waiting ∙ ap (map item_kind) alone) i)

  waits-alone : IsTrue (is_shut w) → WaitsAlone schema side before packet
  waits-alone shut =
      let last : TakesLast mine = takes-last shut in
      let same : t.taken ≡ last.last = (alone-front t.older t.taken t.younger last.last (sym t.arrived ∙ last.alone)).1 in
      record {
        alone = λ q earlier later e still. only last.last last.alone q (waits-in come earlier later q e still) ∙ ap item_kind (sym same) ∙ shows;
        nobody = ap has_unanswered (sym stack-is) ∙ waits-none own mine k.ends.outlined.stack (none-awaited (frames_of mine) last.nobody);
      }

-- Histories

pub histories_keep_order : HistoriesKeepOrder
histories_keep_order schema sound top moves = record {
  takes = λ end w packet before following e is.
      let t : TakenAfter schema top end w before = taken-after schema sound top moves end w packet before following e is in
      subst (λ (ls : List Line). TakesFirstFree schema end ls packet) (sym t.before_is) (takes-free schema sound top t.moves end t.output t.made w t.effects t.lines packet is);
  farewells = λ end w packet before following e shut is.
      let t : TakenAfter schema top end w before = taken-after schema sound top moves end w packet before following e is in
      subst (λ (ls : List Line). WaitsAlone schema end ls packet) (sym t.before_is) (waits-alone schema sound top t.moves end t.output t.made w t.effects t.lines packet is shut);
}
