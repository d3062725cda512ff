-- Answers are given to requests that may be answered, in every legal history.
use Rattle.std.proofs.Common.{◌≡◌, ◌≢◌, inl, inr, ℕ, ◌+◌, ◌≤◌, ℤ, Bool, true, false, ◌&&◌, ◌||◌, if◌then◌else◌, int_eq, IsTrue, List, [], ◌∷◌, ◌++◌, Contains, map, Some, None, refl, sym, ap, subst, append_assoc, ◌∙◌, arith}
use Rattle.std.proofs.lemmas.Bool.{false≢true, or_left, or_right}
use Rattle.std.proofs.lemmas.List.{append-nil}
use Rattle.std.proofs.lemmas.List.Elements.{filter_map-append}
use Rattle.std.proofs.lemmas.Option.{same_Some}
use Rattle.ipdl_base.specs.declared.kinds.Reason.TheVariants as reason
use Rattle.ipdl_base.specs.declared.kinds.Side.{Side}
use Rattle.ipdl_base.specs.declared.line.Line.{Line}
use Rattle.ipdl_base.specs.declared.line.What.{What}
use Rattle.ipdl_base.specs.declared.line.What.TheVariants as what
use Rattle.ipdl_base.specs.declared.schema.Schema.{Schema}
use Rattle.ipdl_base.specs.Lines.{is_effect}
use Rattle.ipdl_base.specs.Sound.{IsSound}
use Rattle.channel_model.specs.Ends.{End, Packet, World, end_of, link_to}
use Rattle.channel_model.specs.Events.{Event, Move}
use Rattle.channel_model.specs.Events as event
use Rattle.channel_model.specs.Outputs.{Output}
use Rattle.channel_model.specs.Runs.{history_of}
use Rattle.channel_model.specs.Sends.{frames_of}
use Rattle.channel_model.specs.Steps.{step}
use Rattle.channel_model.specs.Takes.{first_free, taken_next, takes_in_state, takes_under}
use Rattle.nesting_core.specs.Top.{top_of}
use Rattle.channel_laws.specs.Arrivals.{arrival_reading, requests_delivered, requests_in}
use Rattle.channel_laws.specs.Counts.{how_many, is_number, is_packet}
use Rattle.channel_laws.specs.Laws.{world_of}
use Rattle.channel_laws.proofs.AllLaws.{histories_obey_all_laws}
use Rattle.channel_laws.proofs.Counting.{int-same, many-append, some-any}
use Rattle.history_reading.specs.declared.law.Law.TheVariants as law
use Rattle.history_reading.specs.declared.parts.PacketKind.{PacketKind}
use Rattle.history_reading.specs.declared.parts.PacketKind.TheVariants as kind
use Rattle.history_reading.specs.EndReading.{EndReading}
use Rattle.history_reading.specs.Numbers.{has, has_packet}
use Rattle.history_reading.specs.Reading.{end_reading_of, read}
use Rattle.history_reading.specs.Rows.{wants_number}
use Rattle.history_reading.specs.SentPacket.{Request, packet_kind, request_of}
use Rattle.law_statements.specs.Arrived.{state_of}
use Rattle.law_statements.specs.Packets.{delivered, delivery, gone, number_gone, sent, settled}
use Rattle.law_statements.specs.Prefix.{Prefix}
use Rattle.ipdl_base.specs.Sides.{other}
use Rattle.law_statements.specs.Said.{is_event, last_event, line_of, said_by, said_in}
use Rattle.law_statements.proofs.Fields.{delivered-read, gone-read, sent-read}
use Rattle.law_statements.proofs.Lists.{last-add}
use Rattle.law_statements.proofs.PrefixLaw.{prefix-to}
use Rattle.alone_laws.proofs.AloneLines.{said-more}
use Rattle.order_laws.proofs.Takes.{step-taken}
use Rattle.order_statements.specs.Answers.{Answers, MayAnswer}
use Rattle.order_statements.specs.Effects.{fault_due}
use Rattle.order_statements.specs.Shape.{HasEffects, answered, is_open, is_open_by, number_answered, owes_reply}
use Rattle.order_statements.proofs.AnsweringLines.{HasArrived, IsAnswered, LaterTells, is_dropped, is_replaced, step-answers, was_taken}
use Rattle.order_statements.proofs.AskedRequests.{IsAsked, KnowsAsked, history-asks}
use Rattle.order_statements.proofs.Dropping.{open-same}
use Rattle.order_statements.proofs.FirstLines.{IsLineOf, line-of-event}
use Rattle.order_statements.proofs.Handling.{HandledWereTaken, handled-taken}
use Rattle.order_statements.proofs.KeptAlong.{kept-in-history, none-said}
use Rattle.order_statements.proofs.KeptSteps.{KeptStep, history-kept}
use Rattle.order_statements.proofs.LateReplies.{IsDone, SettledAreDone, has-append, settled-done}
use Rattle.order_statements.proofs.Places.{EffectIn, EventIn, MoveAt, effect-at, event-at}
use Rattle.order_statements.proofs.ReplacedRequests.{TellsReplaced, step-replaces}
use Rattle.order_statements.proofs.SaidCounts.{any-some, delivered-more, first-answer, last-not-left, open-before, replies-answered}
use Rattle.order_statements.proofs.StepLines.{made-of}
use Rattle.order_statements.proofs.Tells.{EndTells, history-tells, move-tells}

-- A step of a legal history: what the lines of its end show of it before and after, that what it handles was taken,
-- and the requests of the other end.
pub record LegalStep (schema : Schema) (end : Side) (start : List Line) (output : Output) : Type 0 where
  pub e : End
  pub link : List Packet
  pub happened : Event
  pub made : step schema e link happened ≡ Some output
  pub tells : EndTells schema e end start
  pub tells_after : EndTells schema output.end end (start ++ output.lines)
  pub taken : HandledWereTaken e (said_by end start)
  pub asks : KnowsAsked schema (said_by (other end) start) e

pub legal-step : (schema : Schema) → IsSound schema → (top : ℕ) (moves : List Move) (end : Side) (start : List Line) (output : Output) → MoveAt schema top moves end start output → LegalStep schema end start output
legal-step schema sound top moves end start output m =
    let world : World = world_of schema top m.front in
    let e : End = end_of m.move.side world in
    let lines : List Line = history_of schema top m.front in
    record {
      e = e;
      link = link_to m.move.side world;
      happened = m.move.event;
      made = m.made;
      tells = subst (EndTells schema e end) (sym m.start_is) (subst (λ (s : Side). EndTells schema e s lines) m.side_is (history-tells schema sound top m.front m.move.side));
      tells_after = (move-tells schema sound top moves end start output m).tells_after;
      taken = subst (λ (ls : List Line). HandledWereTaken e (said_by end ls)) (sym m.start_is) (subst (λ (s : Side). HandledWereTaken e (said_by s lines)) m.side_is (kept-in-history schema HandledWereTaken (handled-taken schema) top m.front m.move.side));
      asks = subst (λ (ls : List Line). KnowsAsked schema (said_by (other end) ls) e) (sym m.start_is) (subst (λ (s : Side). KnowsAsked schema (said_by (other s) lines) e) m.side_is (history-asks schema sound top m.front m.move.side));
    }

-- A line of a legal history, its step, and the lines of this before it and after it.
pub record LegalLine (schema : Schema) (end : Side) (w : What) (before : List Line) : Type 0 where
  pub start : List Line
  pub output : Output
  pub by : LegalStep schema end start output
  pub front : List What
  pub more : List What
  pub before_is : before ≡ start ++ map (line_of end) front
  pub lines : output.lines ≡ map (line_of end) (front ++ w ∷ more)

legal-line : (schema : Schema) → IsSound schema → (top : ℕ) (moves : List Move) (end : Side) (w : What) (before following : List Line) → history_of schema top moves ≡ before ++ line_of end w ∷ following → LegalLine schema end w before
legal-line schema sound top moves end w before following at = by (is_effect w) refl
  where
    by : (b : Bool) → is_effect w ≡ b → LegalLine schema end w before
    by false is =
        let i : EventIn (MoveAt schema top moves end) end w before following = event-at schema sound top moves end w before following is at in
        record { start = before; output = i.output; by = legal-step schema sound top moves end before i.output i.by; front = []; more = i.effects; before_is = sym (append-nil before); lines = i.lines }
    by true is =
        let i : EffectIn (MoveAt schema top moves end) end w before following = effect-at schema sound top moves end w before following is at in
        record { start = i.start; output = i.output; by = legal-step schema sound top moves end i.start i.output i.by; front = i.event ∷ i.earlier; more = i.more; before_is = i.before_is; lines = i.lines }

-- the lines of an end are not lines of the other end
other-said : (end : Side) (start : List Line) (ws : List What) (before : List Line) → before ≡ start ++ map (line_of end) ws → said_by (other end) before ≡ said_by (other end) start
other-said end start ws before is =
    ap (said_by (other end)) is
    ∙ (filter_map-append (said_in (other end)) start (map (line_of end) ws) ∙ (ap (λ (xs : List What). said_by (other end) start ++ xs) (none-said end ws) ∙ append-nil (said_by (other end) start)))

-- an end that takes a reply takes what has arrived
reply-takes : (schema : Schema) (e : End) (link : List Packet) (ev : Event) (output : Output) → step schema e link ev ≡ Some output → (n : ℤ) → IsLineOf ev (what.TakeReply n) → takes_in_state e.state ≡ true
reply-takes schema e link event.take output is n line = by (takes_in_state e.state) refl (step-taken schema e link output is).1
  where
    by : (b : Bool) → takes_in_state e.state ≡ b → taken_next e ≡ Some (step-taken schema e link output is).0 → takes_in_state e.state ≡ true
    by true at next = at
    by false at next =
        let k : None ≡ Some (step-taken schema e link output is).0 = sym (ap (λ (b : Bool). if b && takes_under (top_of (frames_of e)) then first_free e else None) at) ∙ next in
        cc
reply-takes schema e link _ output is n line = absurd line

-- the event of a request that replaces another
last-delivery : (own : List What) (m n : ℤ) → last_event (own ++ what.DeliverRequest m ∷ what.Replaced n ∷ []) ≡ Some (what.DeliverRequest m)
last-delivery own m n =
    ap last_event (sym (append_assoc own (what.DeliverRequest m ∷ []) (what.Replaced n ∷ [])))
    ∙ (last-add is_event (own ++ what.DeliverRequest m ∷ []) (what.Replaced n) ∙ last-add is_event own (what.DeliverRequest m))

-- no request is delivered in two places
delivered-twice : {A : Type 0} (own front more : List What) (n : ℤ) → has_packet (delivered own) (kind.Request n) ≡ true → has_packet (delivered front) (kind.Request n) ≡ true → how_many (is_packet (kind.Request n)) (delivered ((own ++ front) ++ more)) ≤ 1 → A
delivered-twice own front more n before again once =
    let one : how_many (is_packet (kind.Request n)) (delivered ((own ++ front) ++ more)) ≡ how_many (is_packet (kind.Request n)) (delivered (own ++ front)) + how_many (is_packet (kind.Request n)) (delivered more) =
    ap (how_many (is_packet (kind.Request n))) (filter_map-append delivery (own ++ front) more) ∙ many-append (is_packet (kind.Request n)) (delivered (own ++ front)) (delivered more) in
    let two : how_many (is_packet (kind.Request n)) (delivered (own ++ front)) ≡ how_many (is_packet (kind.Request n)) (delivered own) + how_many (is_packet (kind.Request n)) (delivered front) =
    ap (how_many (is_packet (kind.Request n))) (filter_map-append delivery own front) ∙ many-append (is_packet (kind.Request n)) (delivered own) (delivered front) in
    let first = any-some (is_packet (kind.Request n)) (delivered own) before in
    let second = any-some (is_packet (kind.Request n)) (delivered front) again in
    absurd (omega (arith, one, two, first, second, once))

-- One line that answers

module _ (schema : Schema) (end : Side) (w : What) (before : List Line) (l : LegalLine schema end w before) (n : ℤ) (is : number_answered w ≡ Some n) where
  abbrev own : List What
  own = said_by end l.start

  abbrev tells : LaterTells schema l.by.asks.theirs own l.by.e l.output.end l.front n
  tells = step-answers schema l.by.asks.theirs own l.by.e l.output (l.front ++ w ∷ l.more) (made-of schema l.by.e l.by.link l.by.happened l.output l.by.made end (l.front ++ w ∷ l.more) l.lines) l.by.asks.origins l.by.taken l.front w l.more n refl is

  said-before : said_by end before ≡ own ++ l.front
  said-before = ap (said_by end) l.before_is ∙ said-more end l.start l.front

  said-after : said_by end (l.start ++ l.output.lines) ≡ (own ++ l.front) ++ w ∷ l.more
  said-after = ap (λ (ls : List Line). said_by end (l.start ++ ls)) l.lines ∙ (said-more end l.start (l.front ++ w ∷ l.more) ∙ sym (append_assoc own l.front (w ∷ l.more)))

  other-before : said_by (other end) before ≡ said_by (other end) l.start
  other-before = other-said end l.start l.front before l.before_is

  opened-then : is_open_by (own ++ l.front) ≡ true
  opened-then =
      open-before (own ++ l.front) (w ∷ l.more)
      (ap (λ (ws : List What). is_open (state_of ws)) (sym said-after) ∙ (ap is_open l.by.tells_after.state ∙ (open-same l.output.end.state ∙ tells.opened)))

  asked-then : IsAsked schema (said_by (other end) l.start) n tells.tells.number
  asked-then = l.by.asks.asks n tells.tells.owes.route tells.tells.number tells.tells.owes.requested

  -- the request was delivered before the step
  delivered-then : has_packet (delivered own) (kind.Request n) ≡ true
  delivered-then = ap (λ (ps : List PacketKind). has_packet ps (kind.Request n)) (sym (delivered-read schema end l.start)) ∙ some-any (is_packet (kind.Request n)) reading.delivered (by tells.tells.how)
    where
      reading : EndReading
      reading = end_reading_of end (read schema l.start)

      bound : requests_in (arrival_reading reading) n ≤ requests_delivered (arrival_reading reading) n
      bound = l.by.tells.exchanges.arrivals.requests n

      from-arrived : HasArrived l.by.e n → 1 ≤ how_many (is_packet (kind.Request n)) reading.delivered
      from-arrived a =
          let low = bound in
          let same = ap (how_many (is_packet (kind.Request n))) l.by.tells.exchanges.arrivals.arrived in
          omega (arith, a, low, same)

      by : IsAnswered l.by.e own l.front n → 1 ≤ how_many (is_packet (kind.Request n)) reading.delivered
      by (was_taken g) =
          let low = bound in
          let some = any-some (is_number n) reading.gone (ap (λ (ns : List ℤ). has ns n) (gone-read schema end l.start) ∙ g) in
          omega (arith, some, low)
      by (is_dropped a route number id at) = from-arrived a
      by (is_replaced a m at) = from-arrived a

  -- the end answers it for the first time
  first-then : has (answered (own ++ l.front)) n ≡ false
  first-then =
      let after : EndReading = end_reading_of end (read schema (l.start ++ l.output.lines)) in
      let once = l.by.tells_after.exchanges.answers.numbered.once n in
      let sent_is : map packet_kind after.sent ≡ map packet_kind (sent schema ((own ++ l.front) ++ w ∷ l.more)) = ap (map packet_kind) (sent-read schema end (l.start ++ l.output.lines) ∙ ap (sent schema) said-after) in
      let count = ap (how_many (is_packet (kind.Reply n))) sent_is ∙ replies-answered schema n ((own ++ l.front) ++ w ∷ l.more) in
      first-answer (own ++ l.front) l.more w n is (omega (arith, once, count))

  once-then : how_many (is_packet (kind.Request n)) (delivered ((own ++ l.front) ++ w ∷ l.more)) ≤ 1
  once-then =
      let once = l.by.tells_after.exchanges.arrivals.numbered.once n in
      let same = ap (how_many (is_packet (kind.Request n))) (delivered-read schema end (l.start ++ l.output.lines) ∙ ap delivered said-after) in
      omega (arith, once, same)

  -- and not in the event that delivered it
  earlier-then : ((m : ℤ) → last_event (said_by end before) ≡ Some (what.DeliverRequest m) → has (gone (said_by end before)) m ≡ false) → last_event (own ++ l.front) ≢ Some (what.DeliverRequest n)
  earlier-then fresh last = by tells.tells.how
    where
      stays : has (gone (own ++ l.front)) n ≡ false
      stays = ap (λ (ws : List What). has (gone ws) n) (sym said-before) ∙ fresh n (ap last_event said-before ∙ last)

      by : IsAnswered l.by.e own l.front n → ⊥
      by (was_taken g) = false≢true (sym stays ∙ (has-append number_gone own l.front n ∙ or_left (has (gone own) n) (has (gone l.front) n) g))
      by (is_dropped a route number id at) =
          let drop_gone : has (gone l.front) n ≡ true = ap (λ (ws : List What). has (gone ws) n) at ∙ ap (λ (b : Bool). b || false) (int-same n) in
          false≢true (sym stays ∙ (has-append number_gone own l.front n ∙ or_right (has (gone own) n) (has (gone l.front) n) drop_gone))
      by (is_replaced a m at) =
          let one : what.DeliverRequest m ≡ what.DeliverRequest n = same_Some (what.DeliverRequest m) (what.DeliverRequest n) (sym (last-delivery own m n) ∙ (ap (λ (ws : List What). last_event (own ++ ws)) (sym at) ∙ last)) in
          let same : m ≡ n = cc in
          let again : has_packet (delivered l.front) (kind.Request n) ≡ true = ap (λ (ws : List What). has_packet (delivered ws) (kind.Request n)) at ∙ ap (λ (b : Bool). b || false) (ap (λ (k : ℤ). int_eq k n) same ∙ int-same n) in
          delivered-twice own l.front (w ∷ l.more) n delivered-then again once-then

  may-answer : ((m : ℤ) → last_event (said_by end before) ≡ Some (what.DeliverRequest m) → has (gone (said_by end before)) m ≡ false) → MayAnswer schema (said_by end before) (said_by (other end) before) n
  may-answer fresh =
      subst (λ (ws : List What). MayAnswer schema ws (said_by (other end) before) n) (sym said-before)
      (subst (λ (ws : List What). MayAnswer schema (own ++ l.front) ws n) (sym other-before) (record {
        opened = opened-then;
        asked = asked-then.asked;
        sent = asked-then.found;
        owes = ap (owes_reply schema) asked-then.number_is ∙ tells.tells.owes.owes;
        delivered = delivered-more own l.front (kind.Request n) delivered-then;
        earlier = earlier-then fresh;
        first = first-then;
      }))

-- One request that is replaced

replaced-at : (schema : Schema) (end : Side) (n : ℤ) (before following start : List Line) (output : Output) (s : LegalStep schema end start output) (event : What) (earlier more : List What) → before ≡ start ++ map (line_of end) (event ∷ earlier)
    → output.lines ≡ map (line_of end) (event ∷ (earlier ++ what.Replaced n ∷ more)) → HasEffects end more following
    → (asked : Request) × (request_of (sent schema (said_by (other end) before)) n ≡ Some asked) × HasEffects end (fault_due asked.wants n reason.ResolverDestroyed) following
replaced-at schema end n before following start output s event earlier more before_is lines has_them =
    by (step-replaces schema s.asks.theirs s.e output (event ∷ (earlier ++ what.Replaced n ∷ more)) (made-of schema s.e s.link s.happened output s.made end (event ∷ (earlier ++ what.Replaced n ∷ more)) lines) s.asks.origins event earlier n more refl)
  where
    with-request : (number : ℕ) → more ≡ fault_due (wants_number schema number) n reason.ResolverDestroyed → IsAsked schema (said_by (other end) start) n number
        → (asked : Request) × (request_of (sent schema (said_by (other end) before)) n ≡ Some asked) × HasEffects end (fault_due asked.wants n reason.ResolverDestroyed) following
    with-request number are a = (
      a.asked,
      ap (λ (ws : List What). request_of (sent schema ws) n) (other-said end start (event ∷ earlier) before before_is) ∙ a.found,
      subst (λ (ws : List What). HasEffects end ws following) (are ∙ ap (λ (b : Bool). fault_due b n reason.ResolverDestroyed) (sym a.wants_is)) has_them,
    )

    by : TellsReplaced schema s.asks.theirs n more → (asked : Request) × (request_of (sent schema (said_by (other end) before)) n ≡ Some asked) × HasEffects end (fault_due asked.wants n reason.ResolverDestroyed) following
    by t = with-request t.number t.are (s.asks.asks n t.route t.number t.requested)

module _ (schema : Schema) (sound : IsSound schema) (top : ℕ) (moves : List Move) where
  abbrev history : List Line
  history = history_of schema top moves

  history-prefix : Prefix schema history
  history-prefix = prefix-to schema history (histories_obey_all_laws schema sound top moves law.Prefix)

  -- each request is delivered once
  delivered-once : (end : Side) (n : ℤ) → how_many (is_packet (kind.Request n)) (delivered (said_by end history)) ≤ 1
  delivered-once end n =
      let once = (history-tells schema sound top moves end).exchanges.arrivals.numbered.once n in
      let same = ap (how_many (is_packet (kind.Request n))) (delivered-read schema end history) in
      omega (arith, once, same)

  pub answers-history : (end : Side) (w : What) (n : ℤ) (before following : List Line) → history ≡ before ++ line_of end w ∷ following → number_answered w ≡ Some n → MayAnswer schema (said_by end before) (said_by (other end) before) n
  answers-history end w n before following at is =
      may-answer schema end w before (legal-line schema sound top moves end w before following at) n is
      (last-not-left schema history history-prefix end (delivered-once end) before (line_of end w ∷ following) at)

  -- a request that is replaced
  pub replaced-history : (end : Side) (n : ℤ) (before following : List Line) → history ≡ before ++ line_of end (what.Replaced n) ∷ following
      → (asked : Request) × (request_of (sent schema (said_by (other end) before)) n ≡ Some asked) × HasEffects end (fault_due asked.wants n reason.ResolverDestroyed) following
  replaced-history end n before following at =
      let i : EffectIn (MoveAt schema top moves end) end (what.Replaced n) before following = effect-at schema sound top moves end (what.Replaced n) before following refl at in
      replaced-at schema end n before following i.start i.output (legal-step schema sound top moves end i.start i.output i.by) i.event i.earlier i.more i.before_is i.lines i.has

  -- a reply that is taken too late
  pub late-history : (end : Side) (n : ℤ) (before following : List Line) → history ≡ before ++ line_of end (what.TakeReply n) ∷ following → IsTrue (has (settled (said_by end before)) n) → Contains (said_by end before) (what.Rejected n reason.ActorDestroyed)
  late-history end n before following at done =
      let i : EventIn (KeptStep schema SettledAreDone end) end (what.TakeReply n) before following = history-kept schema sound SettledAreDone (settled-done schema) top moves end (what.TakeReply n) before following refl at in
      let takes : takes_in_state i.by.e.state ≡ true = reply-takes schema i.by.e i.by.link i.by.happened i.output i.by.made n (line-of-event schema i.by.e i.by.link i.by.happened i.output end (what.TakeReply n) i.effects i.by.made i.lines) in
      by (i.by.kept takes n done)
    where
      by : IsDone (said_by end before) n → Contains (said_by end before) (what.Rejected n reason.ActorDestroyed)
      by (inl c) = c
      by (inr taken) = absurd (false≢true (sym (history-prefix.replies end n before following at).1 ∙ taken))

  -- all clauses
  pub answers-hold : Answers schema history
  answers-hold = record { answers = answers-history; replaced = replaced-history; late = late-history }
