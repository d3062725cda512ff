-- The test of each line decides the statement Order of readable lines.
use Rattle.std.proofs.Common.{◌≡◌, ◌↔◌, ℕ, suc, ◌+◌, Bool, true, false, not, ◌&&◌, if◌then◌else◌, IsTrue, List, [], ◌∷◌, ◌++◌, take, find, Option, Some, None, refl, sym, ap, subst, ◌∙◌, arith}
use Rattle.std.specs.Bool.{Decides}
use Rattle.std.specs.List.{list_all, prefix_len, take_while}
use Rattle.std.specs.Option.{option_map_or}
use Rattle.std.proofs.lemmas.Bool.{and_parts, and_from}
use Rattle.ipdl_base.specs.declared.kinds.Side.{Side}
use Rattle.ipdl_base.specs.declared.line.Line.{Line}
use Rattle.ipdl_base.specs.declared.line.What.{What}
use Rattle.ipdl_base.specs.declared.schema.Schema.{Schema}
use Rattle.history_reading.specs.declared.parts.PacketKind.{PacketKind}
use Rattle.history_reading.specs.EndReading.{EndReading, has_unanswered}
use Rattle.history_reading.specs.Holds.{IsReadable}
use Rattle.history_reading.specs.Numbers.{same_packet}
use Rattle.history_reading.specs.Reading.{end_reading_of, read}
use Rattle.channel_laws.specs.Notes.{In, here, there}
use Rattle.law_statements.specs.Arrived.{Passing, arrives, gives_up, leaves, passings}
use Rattle.law_statements.specs.Readable.{Readable}
use Rattle.ipdl_base.specs.Sides.{other as other_end}
use Rattle.law_statements.specs.Said.{line_of, said_by}
use Rattle.law_statements.specs.Stack.{stack}
use Rattle.law_statements.specs.Waits.{defers_kind}
use Rattle.law_statements.proofs.Along.{each-from, each-to}
use Rattle.law_statements.proofs.Deciding.{both, recast, untrue}
use Rattle.law_statements.proofs.Ends.{other-read}
use Rattle.law_statements.proofs.Fields.{sent-read}
use Rattle.law_statements.proofs.Fronts.{same-kind}
use Rattle.law_statements.proofs.ReadableLines.{readable-from}
use Rattle.law_statements.proofs.StackRead.{stack-read}
use Rattle.law_statements.proofs.WaitsLaw.{kind-read}
use Rattle.order_statements.specs.Order.{IsPassedOver, Order, PacketOvertakes, TakesFirstFree, WaitsAlone, is_shut, packet_taken, still_waits}
use Rattle.order_statements.specs.Waiting.{waiting}
use Rattle.order_statements.proofs.Arrived.{WaitsAt, waits-at, waits-in}
use Rattle.order_statements.proofs.OrderLaw.{no-item}
use Rattle.order_checks.specs.OrderTests.{is_deferred, is_first_free, is_taken_in_order, order_line, packet_overtakes, takes_first_free, waits_alone}
use Rattle.order_checks.specs.declared.walk.Statement.TheVariants as statement
use Rattle.order_checks.specs.Walk.{all_pass, line_test, passes}
use Rattle.order_checks.proofs.OvertakingTests.{overtakes-is}
use Rattle.order_checks.proofs.WaitingLines.{waits_at}

-- Lists

-- a packet of a list is between others
record Standing (q : PacketKind) (packets : List PacketKind) : Type 0 where
  front : List PacketKind
  back : List PacketKind
  split : packets ≡ front ++ q ∷ back

standing : (q : PacketKind) (packets : List PacketKind) → In q packets → Standing q packets
standing q [] i = absurd (no-item q i)
standing q (x ∷ packets) here = record { front = []; back = packets; split = refl }
standing q (x ∷ packets) (there i) = let s : Standing q packets = standing q packets i in record { front = x ∷ s.front; back = s.back; split = ap (λ (ps : List PacketKind). x ∷ ps) s.split }

all-is : (test : PacketKind → Bool) (packets : List PacketKind) → Decides (list_all test packets) ((q : PacketKind) → In q packets → test q ≡ true)
all-is test [] = (λ e q i. absurd (no-item q i), λ h. refl)
all-is test (x ∷ packets) =
    (λ e q i. to q i (and_parts (test x) (list_all test packets) e) ((all-is test packets).0), λ h. and_from (test x) (list_all test packets) (h x here) ((all-is test packets).1 (λ q i. h q (there i))))
  where
    to : (q : PacketKind) → In q (x ∷ packets) → (test x ≡ true) × (list_all test packets ≡ true) → (list_all test packets ≡ true → (p : PacketKind) → In p packets → test p ≡ true) → test q ≡ true
    to q here e rec = e.0
    to q (there i) e rec = rec e.1 q i

-- The first that is free

-- One of some packets is not deferred, and all that are older are deferred and may be overtaken.
record FirstFree (deferred overtaken : PacketKind → Bool) (packet : PacketKind) (packets : List PacketKind) : Type 0 where
  older : List PacketKind
  younger : List PacketKind
  split : packets ≡ older ++ packet ∷ younger
  free : deferred packet ≡ false
  passed : (q : PacketKind) → In q older → (deferred q ≡ true) × (overtaken q ≡ true)

while-more : (test : PacketKind → Bool) (x : PacketKind) (xs : List PacketKind) → take_while test (x ∷ xs) ≡ (if test x then x ∷ take_while test xs else [])
while-more test x xs = by (test x)
  where
    suc-is : (n : ℕ) → 1 + n ≡ suc n
    suc-is n = omega arith

    by : (b : Bool) → take (if b then 1 + prefix_len test xs else 0) (x ∷ xs) ≡ (if b then x ∷ take (prefix_len test xs) xs else [])
    by true = ap (λ (n : ℕ). take n (x ∷ xs)) (suc-is (prefix_len test xs))
    by false = refl

-- one more at the front
free-more : (deferred overtaken : PacketKind → Bool) (packet x : PacketKind) (xs : List PacketKind) (b : Bool) → deferred x ≡ b
    → takes_first_free deferred overtaken packet (x ∷ xs) ≡ (if b then is_first_free deferred packet xs && (overtaken x && list_all overtaken (take_while deferred xs)) else same_packet x packet && true)
free-more deferred overtaken packet x xs b is =
    ap (λ (ps : List PacketKind). is_first_free deferred packet (x ∷ xs) && list_all overtaken ps) (while-more deferred x xs)
    ∙ ap (λ (t : Bool). option_map_or (λ first. same_packet first packet) (if not t then Some x else find (λ p. not (deferred p)) xs) false && list_all overtaken (if t then x ∷ take_while deferred xs else [])) is
    ∙ by b
  where
    by : (b : Bool) → (option_map_or (λ first. same_packet first packet) (if not b then Some x else find (λ p. not (deferred p)) xs) false && list_all overtaken (if b then x ∷ take_while deferred xs else []))
        ≡ (if b then is_first_free deferred packet xs && (overtaken x && list_all overtaken (take_while deferred xs)) else same_packet x packet && true)
    by true = refl
    by false = refl

first-to : (deferred overtaken : PacketKind → Bool) (packet : PacketKind) (xs : List PacketKind) → takes_first_free deferred overtaken packet xs ≡ true → FirstFree deferred overtaken packet xs
first-to deferred overtaken packet [] e = cc
first-to deferred overtaken packet (x ∷ xs) e = by (deferred x) refl (first-to deferred overtaken packet xs)
  where
    parts : (a b c : Bool) → (a && (b && c)) ≡ true → (b ≡ true) × ((a && c) ≡ true)
    parts true true c e = (refl, e)
    parts true false c e = cc
    parts false b c e = cc

    by : (b : Bool) → deferred x ≡ b → (takes_first_free deferred overtaken packet xs ≡ true → FirstFree deferred overtaken packet xs) → FirstFree deferred overtaken packet (x ∷ xs)
    by true is rec =
        let p : (overtaken x ≡ true) × (takes_first_free deferred overtaken packet xs ≡ true) =
        parts (is_first_free deferred packet xs) (overtaken x) (list_all overtaken (take_while deferred xs)) (sym (free-more deferred overtaken packet x xs true is) ∙ e) in
        let f : FirstFree deferred overtaken packet xs = rec p.1 in
        record { older = x ∷ f.older; younger = f.younger; split = ap (λ (ps : List PacketKind). x ∷ ps) f.split; free = f.free; passed = passed f p.0 }
      where
        passed : (f : FirstFree deferred overtaken packet xs) → overtaken x ≡ true → (q : PacketKind) → In q (x ∷ f.older) → (deferred q ≡ true) × (overtaken q ≡ true)
        passed f o q here = (is, o)
        passed f o q (there i) = f.passed q i
    by false is rec =
        let same : x ≡ packet = (same-kind x packet).0 ((and_parts (same_packet x packet) true (sym (free-more deferred overtaken packet x xs false is) ∙ e)).0) in
        record { older = []; younger = xs; split = ap (λ (p : PacketKind). p ∷ xs) same; free = ap deferred (sym same) ∙ is; passed = λ q i. absurd (no-item q i) }

first-from : (deferred overtaken : PacketKind → Bool) (packet : PacketKind) (older younger : List PacketKind) → deferred packet ≡ false → ((q : PacketKind) → In q older → (deferred q ≡ true) × (overtaken q ≡ true))
    → takes_first_free deferred overtaken packet (older ++ packet ∷ younger) ≡ true
first-from deferred overtaken packet [] younger free passed = free-more deferred overtaken packet packet younger false free ∙ and_from (same_packet packet packet) true ((same-kind packet packet).1 refl) refl
first-from deferred overtaken packet (x ∷ older) younger free passed =
    free-more deferred overtaken packet x (older ++ packet ∷ younger) true (passed x here).0
    ∙ turned (is_first_free deferred packet (older ++ packet ∷ younger)) (overtaken x) (list_all overtaken (take_while deferred (older ++ packet ∷ younger))) (passed x here).1
    (first-from deferred overtaken packet older younger free (λ q i. passed q (there i)))
  where
    turned : (a b c : Bool) → b ≡ true → (a && c) ≡ true → (a && (b && c)) ≡ true
    turned a true c e h = h
    turned a false c e h = cc

first-is : (deferred overtaken : PacketKind → Bool) (packet : PacketKind) (xs : List PacketKind) → Decides (takes_first_free deferred overtaken packet xs) (FirstFree deferred overtaken packet xs)
first-is deferred overtaken packet xs = (first-to deferred overtaken packet xs, λ f. ap (takes_first_free deferred overtaken packet) f.split ∙ first-from deferred overtaken packet f.older f.younger f.free f.passed)

-- A packet that waits is after the older ones that wait

record OlderWait (P : PacketKind → Type 0) (packet : PacketKind) (earlier later : List Passing) : Type 0 where
  older : List PacketKind
  split : waiting (earlier ++ arrives packet ∷ later) ≡ older ++ packet ∷ waiting later
  have : (q : PacketKind) → In q older → P q

older-wait : (P : PacketKind → Type 0) (packet : PacketKind) (earlier later : List Passing) → IsTrue (still_waits packet later)
    → ((q : PacketKind) (front back : List Passing) → earlier ≡ front ++ arrives q ∷ back → IsTrue (still_waits q (back ++ arrives packet ∷ later)) → P q) → OlderWait P packet earlier later
older-wait P packet [] later w h = record { older = []; split = ap (λ (b : Bool). if b then packet ∷ waiting later else waiting later) w; have = λ q i. absurd (no-item q i) }
older-wait P packet (leaves p ∷ earlier) later w h =
    let o : OlderWait P packet earlier later = older-wait P packet earlier later w (λ q front back e. h q (leaves p ∷ front) back (ap (λ (ps : List Passing). leaves p ∷ ps) e)) in
    record { older = o.older; split = o.split; have = o.have }
older-wait P packet (gives_up ∷ earlier) later w h =
    let o : OlderWait P packet earlier later = older-wait P packet earlier later w (λ q front back e. h q (gives_up ∷ front) back (ap (λ (ps : List Passing). gives_up ∷ ps) e)) in
    record { older = o.older; split = o.split; have = o.have }
older-wait P packet (arrives p ∷ earlier) later w h =
    by (still_waits p (earlier ++ arrives packet ∷ later)) refl (older-wait P packet earlier later w (λ q front back e. h q (arrives p ∷ front) back (ap (λ (ps : List Passing). arrives p ∷ ps) e)))
  where
    by : (b : Bool) → still_waits p (earlier ++ arrives packet ∷ later) ≡ b → OlderWait P packet earlier later → OlderWait P packet (arrives p ∷ earlier) later
    by false is o = record {
      older = o.older;
      split = ap (λ (b : Bool). if b then p ∷ waiting (earlier ++ arrives packet ∷ later) else waiting (earlier ++ arrives packet ∷ later)) is ∙ o.split;
      have = o.have;
    }
    by true is o = record {
      older = p ∷ o.older;
      split = ap (λ (b : Bool). if b then p ∷ waiting (earlier ++ arrives packet ∷ later) else waiting (earlier ++ arrives packet ∷ later)) is ∙ ap (λ (ps : List PacketKind). p ∷ ps) o.split;
      have = have o;
    }
      where
        have : (o : OlderWait P packet earlier later) → (q : PacketKind) → In q (p ∷ o.older) → P q
        have o q here = h p [] earlier refl is
        have o q (there i) = o.have q i

-- At a place

module _ (schema : Schema) (end : Side) (before : List Line) (st : (end_reading_of end (read schema before)).stack ≡ stack schema end before) where
  abbrev own : EndReading
  own = end_reading_of end (read schema before)

  abbrev other : EndReading
  other = end_reading_of (other_end end) (read schema before)

  abbrev come : List Passing
  come = passings schema (said_by end before)

  abbrev overtaken : PacketKind → PacketKind → Bool
  overtaken packet older = packet_overtakes schema end other packet older

  deferred-is : (q : PacketKind) → is_deferred schema end own other q ≡ defers_kind schema end before q
  deferred-is q = kind-read schema end before st q

  over-is : (packet older : PacketKind) → Decides (overtaken packet older) (PacketOvertakes schema end (said_by (other_end end) before) packet older)
  over-is packet older = overtakes-is schema end other (said_by (other_end end) before) (sent-read schema (other_end end) before) packet older

  takes-to : (packet : PacketKind) → FirstFree (is_deferred schema end own other) (overtaken packet) packet (waiting come) → TakesFirstFree schema end before packet
  takes-to packet f =
      let a : WaitsAt come f.older packet = waits-at come f.older f.younger packet f.split in
      record {
        earlier = a.earlier;
        later = a.later;
        arrival = a.whole;
        waits = a.waits;
        free = sym (deferred-is packet) ∙ f.free;
        older = λ q front back e w.
            let p : (is_deferred schema end own other q ≡ true) × (overtaken packet q ≡ true) = f.passed q (a.older q front back e w) in
            record { deferred = sym (deferred-is q) ∙ p.0; overtaken = (over-is packet q).0 p.1 };
      }

  takes-from : (packet : PacketKind) → TakesFirstFree schema end before packet → FirstFree (is_deferred schema end own other) (overtaken packet) packet (waiting come)
  takes-from packet t =
      let o : OlderWait (IsPassedOver schema end before packet) packet t.earlier t.later = older-wait (IsPassedOver schema end before packet) packet t.earlier t.later t.waits t.older in
      record {
        older = o.older;
        younger = waiting t.later;
        split = ap waiting t.arrival ∙ o.split;
        free = deferred-is packet ∙ t.free;
        passed = λ q i. (deferred-is q ∙ (o.have q i).deferred, (over-is packet q).1 (o.have q i).overtaken);
      }

  takes-is : (packet : PacketKind) → Decides (takes_first_free (is_deferred schema end own other) (overtaken packet) packet (waiting come)) (TakesFirstFree schema end before packet)
  takes-is packet = recast (takes_first_free (is_deferred schema end own other) (overtaken packet) packet (waiting come)) (first-is (is_deferred schema end own other) (overtaken packet) packet (waiting come)) (takes-to packet) (takes-from packet)

  alone-is : (packet : PacketKind) → Decides (waits_alone own (waiting come) packet) (WaitsAlone schema end before packet)
  alone-is packet =
      recast (waits_alone own (waiting come) packet)
      (both (list_all (λ p. same_packet p packet) (waiting come)) (not (has_unanswered own.stack)) (all-is (λ p. same_packet p packet) (waiting come)) (untrue (has_unanswered own.stack)))
      (λ h. record { alone = λ q earlier later e w. (same-kind q packet).0 (h.0 q (waits-in come earlier later q e w)); nobody = ap has_unanswered (sym st) ∙ h.1 })
      (λ a. (λ q i. (same-kind q packet).1 (only a q (standing q (waiting come) i)), ap has_unanswered st ∙ a.nobody))
    where
      only : WaitsAlone schema end before packet → (q : PacketKind) → Standing q (waiting come) → q ≡ packet
      only a q s = let at : WaitsAt come s.front q = waits-at come s.front s.back q s.split in a.alone q at.earlier at.later at.whole at.waits

  -- a packet is taken in order
  abbrev TakesInOrder : Bool → PacketKind → Type 0
  TakesInOrder shut packet = TakesFirstFree schema end before packet × (IsTrue shut → WaitsAlone schema end before packet)

  where-shut : (shut : Bool) (packet : PacketKind) → Decides (if shut then waits_alone own (waiting come) packet else true) (IsTrue shut → WaitsAlone schema end before packet)
  where-shut true packet = (λ e t. (alone-is packet).0 e, λ h. (alone-is packet).1 (h refl))
  where-shut false packet = (λ e t. cc, λ h. refl)

  in-order : (shut : Bool) (packet : PacketKind) → Decides (is_taken_in_order schema end own other (waiting come) shut packet) (TakesInOrder shut packet)
  in-order shut packet = both (takes_first_free (is_deferred schema end own other) (overtaken packet) packet (waiting come)) (if shut then waits_alone own (waiting come) packet else true) (takes-is packet) (where-shut shut packet)

  pub line-is : (w : What) → Decides (order_line schema end own other (waiting come) w) ((packet : PacketKind) → packet_taken w ≡ Some packet → TakesInOrder (is_shut w) packet)
  line-is w = by (packet_taken w)
    where
      by : (o : Option PacketKind) → Decides (option_map_or (is_taken_in_order schema end own other (waiting come) (is_shut w)) o true) ((packet : PacketKind) → o ≡ Some packet → TakesInOrder (is_shut w) packet)
      by None = (λ e packet is. cc, λ h. refl)
      by (Some taken) = (λ e packet is. to e packet is, λ h. (in-order (is_shut w) taken).1 (h taken refl))
        where
          to : is_taken_in_order schema end own other (waiting come) (is_shut w) taken ≡ true → (packet : PacketKind) → Some taken ≡ Some packet → TakesInOrder (is_shut w) packet
          to e packet is = let same : taken ≡ packet = cc in subst (TakesInOrder (is_shut w)) same ((in-order (is_shut w) taken).0 e)

-- Lines

passes-is : (schema : Schema) (before : List Line) (end : Side) (w : What) (following : List Line)
    → passes statement.Order schema before (line_of end w) following ≡ order_line schema end (end_reading_of end (read schema before)) (end_reading_of (other_end end) (read schema before)) (waits_at schema end before) w
unfolding line_test
passes-is schema before end w following = ap (λ (o : EndReading). order_line schema end (end_reading_of end (read schema before)) o (waits_at schema end before) w) (other-read end (read schema before))

module _ (schema : Schema) (lines : List Line) (r : IsReadable schema lines) where
  at : (end : Side) (w : What) (before following : List Line) → lines ≡ before ++ line_of end w ∷ following
      → Decides (passes statement.Order schema before (line_of end w) following) ((packet : PacketKind) → packet_taken w ≡ Some packet → TakesFirstFree schema end before packet × (IsTrue (is_shut w) → WaitsAlone schema end before packet))
  at end w before following e =
      subst (λ (b : Bool). Decides b ((packet : PacketKind) → packet_taken w ≡ Some packet → TakesFirstFree schema end before packet × (IsTrue (is_shut w) → WaitsAlone schema end before packet))) (sym (passes-is schema before end w following))
      (line-is schema end before (stack-read schema lines r end before (line_of end w ∷ following) e) w)

  to : IsTrue (all_pass statement.Order schema lines) → Order schema lines
  to h = record {
    takes = λ end w packet before following e is. ((at end w before following e).0 (each-from (passes statement.Order schema) [] lines h before (line_of end w) following e) packet is).0;
    farewells = λ end w packet before following e shut is. ((at end w before following e).0 (each-from (passes statement.Order schema) [] lines h before (line_of end w) following e) packet is).1 shut;
  }

  from : Order schema lines → IsTrue (all_pass statement.Order schema lines)
  from o = each-to (passes statement.Order schema) [] lines (λ before line following e. (at line.side line.what before following e).1 (λ packet is. (o.takes line.side line.what packet before following e is, λ shut. o.farewells line.side line.what packet before following e shut is)))

pub order-is : (schema : Schema) (lines : List Line) → Readable schema lines → (IsTrue (all_pass statement.Order schema lines) ↔ Order schema lines)
order-is schema lines r = (to schema lines (readable-from schema lines r), from schema lines (readable-from schema lines r))
