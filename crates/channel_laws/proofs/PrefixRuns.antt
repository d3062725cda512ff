-- Every legal history obeys the law of prefixes.
use Rattle.std.proofs.Common.{◌≡◌, ℕ, ℤ, Bool, true, false, if◌then◌else◌, List, [], ◌∷◌, Option, Some, None, refl, sym, ap, subst, ◌∙◌, ◌&&◌, ◌==◌, cond, int_eq}
use Rattle.std.specs.List.{AllByRecursion}
use Rattle.std.specs.Option.{option_map_or}
use Rattle.std.proofs.lemmas.Bool.{eq-eqb}
use Rattle.std.proofs.lemmas.Bool.Decides.{Decides-int_eq}
use Rattle.ipdl_base.specs.declared.kinds.Side.{Side}
use Rattle.ipdl_base.specs.declared.kinds.Side.TheVariants.{Parent, Child}
use Rattle.ipdl_base.specs.declared.line.Line.{Line}
use Rattle.ipdl_base.specs.declared.line.What.{What}
use Rattle.ipdl_base.specs.declared.line.What.TheVariants as what
use Rattle.ipdl_base.specs.declared.message.Body.{Body}
use Rattle.ipdl_base.specs.declared.message.Body.TheVariants.{Request}
use Rattle.ipdl_base.specs.declared.message.Message.{Message}
use Rattle.ipdl_base.specs.declared.schema.MessageRow.{MessageRow}
use Rattle.ipdl_base.specs.declared.schema.Schema.{Schema}
use Rattle.ipdl_base.specs.declared.value.Values.{Values}
use Rattle.ipdl_base.specs.Sound.{IsSound}
use Rattle.ipdl_base.specs.Lines.{is_effect}
use Rattle.ipdl_base.specs.Signatures.{params_of}
use Rattle.nesting_core.specs.Top.{top_of}
use Rattle.pending_queue.specs.declared.item.Item.{Item}
use Rattle.pending_queue.specs.declared.item.Item.TheVariants as item
use Rattle.pending_queue.specs.DeferralContext.{is_free}
use Rattle.history_reading.specs.EndReading.{EndReading, lives, own_request}
use Rattle.history_reading.specs.Reading.{Reading, end_reading_of, other_of, after, read}
use Rattle.history_reading.specs.declared.law.Law.TheVariants as law
use Rattle.history_reading.specs.Holds.{moment_test, moment_before}
use Rattle.history_reading.specs.Nulled.{is_nulled, same_values}
use Rattle.history_reading.specs.Prefix.{prefix_line, was_sent, was_sent_with, is_for}
use Rattle.history_reading.specs.SentPacket as told
use Rattle.channel_model.specs.Ends.{End, World, Packet, end_of, link_to}
use Rattle.channel_model.specs.Events.{Event}
use Rattle.ipdl_base.specs.Sides.{other}
use Rattle.channel_model.specs.Outputs.{Output, is_open}
use Rattle.channel_model.specs.Phases.{Phase}
use Rattle.channel_model.specs.Sends as send
use Rattle.channel_model.specs.Takes.{taken_next}
use Rattle.channel_model.specs.Takes as take
use Rattle.channel_model.specs.Refusals.{actors_of}
use Rattle.channel_model.specs.Runs.{history_of}
use Rattle.channel_model.specs.ValueActors.{actors_in_parts, nulled}
use Rattle.channel_laws.proofs.Track.{all-found}
use Rattle.channel_laws.specs.NestedWorlds.{IsNestedWorld}
use Rattle.channel_laws.specs.Notes.{told_notes, Note, RequestNote, body_note, message_note, In}
use Rattle.channel_laws.specs.Taken.{there_line}
use Rattle.channel_laws.specs.Tested.{EndLinesPass, test_at, LinesPass}
use Rattle.channel_laws.specs.EndActors.{ReadsActors}
use Rattle.channel_laws.specs.NextPackets.{next_line}
use Rattle.channel_laws.specs.NotedArrivals.{ItemIsNoted, ArrivalsAreNoted}
use Rattle.channel_laws.specs.Protocols.{Protocols, HasProtocols, HaveTheirProtocols, ItemHasProtocols, WorldHasProtocols}
use Rattle.channel_laws.specs.PrefixLaws.{HistoriesObeyPrefix}
use Rattle.channel_laws.specs.SentAccounts.{SentAccount}
use Rattle.channel_laws.proofs.Exchanges.{opening-exchanges}
use Rattle.channel_laws.proofs.Moves.{StepParts, acts, delivers, SideMove}
use Rattle.channel_laws.proofs.Runs.{IsReached, EveryMoveKeeps, ends-pass, every-run}
use Rattle.channel_laws.proofs.Taken.{ReadExchanges, exchanges-keep}
use Rattle.channel_laws.proofs.TakingLines.{takes_nothing, TakesPass, own-pass, delivery-pass}
use Rattle.channel_laws.proofs.Growing.{own-request}
use Rattle.channel_laws.proofs.DeferralContext.{law_at, holds-in-runs}
use Rattle.channel_laws.proofs.MissingAlike.{values_are_read_alike}
use Rattle.channel_laws.proofs.NextPackets.{move-next}
use Rattle.channel_laws.proofs.ReadAlike.{alike}
use Rattle.channel_laws.proofs.Reached.{actors-reached, noted-reached, protocols-reached}
use Rattle.channel_laws.proofs.SameValues.{values-same}

-- What is taken was sent, by the lines.

-- a request that is taken or dropped is the other end's request of its number, to this actor and of this message; a
-- request that is taken has its values, with null for dead actors
abbrev sent_line : Schema → EndReading → EndReading → What → Bool
sent_line schema own others (what.Take n route number values) = was_sent_with schema own others n route number values
sent_line schema own others (what.Drop n route number id) = was_sent others n route number
sent_line schema own others _ = true

sent-free : (schema : Schema) (others own : EndReading) (w : What) → takes_nothing w ≡ true → sent_line schema own others w ≡ true
sent-free schema others own (what.Take n route number vs) e = cc
sent-free schema others own (what.Drop n route number id) e = cc
sent-free schema others own _ e = refl

-- what an end takes or drops next is as the other end has sent it
abbrev TakesAsSent : Schema → End → EndReading → EndReading → Type 0
TakesAsSent schema e own others = TakesPass schema (λ read w. sent_line schema read others w ≡ true) e own

-- lines that take what was sent
abbrev AsSent : Schema → ℕ → List What → EndReading → EndReading → Type 0
AsSent schema place ws own others = EndLinesPass schema (λ read w. sent_line schema read others w ≡ true) place ws own

-- What is taken is as it was sent

pub all-taken : (P : Item → Type 0) (e : End) (x : Item) → taken_next e ≡ Some x → AllByRecursion P e.arrived → P x
all-taken P e x next h = by (take.takes_in_state e.state && take.takes_under (top_of (send.frames_of e))) next
  where
    by : (b : Bool) → cond b (take.first_free e) None ≡ Some x → P x
    by true is = all-found P (is_free (take.deferral_context_of e)) e.arrived x h is
    by false is = cc

for-same : (route : ℤ) (number : ℕ) (r : told.Request) → r.route ≡ route → r.number ≡ number → is_for route number r ≡ true
for-same route number r a b = both (int_eq r.route route) (r.number == number) ((Decides-int_eq r.route route).1 a) (eq-eqb r.number number b)
  where
    both : (x y : Bool) → x ≡ true → y ≡ true → x && y ≡ true
    both true y e f = f
    both false y e f = cc

-- the request of a message that is noted
record SentRequest (others : EndReading) (m : Message) (vs : Values) : Type 0 where
  request : told.Request
  found : own_request others m.seq ≡ Some request
  route : request.route ≡ m.route
  number : request.number ≡ m.number
  values : request.values ≡ vs

sent-request : (schema : Schema) (side : Side) (open_end : Bool) (outbox : List Message) (count : ℕ) (left : List Note) (others : EndReading) (m : Message) (vs : Values) → SentAccount schema side open_end outbox count others.sent left → m.body ≡ Request vs → In (body_note schema m m.body) (told_notes side others.sent) → SentRequest others m vs
sent-request schema side open_end outbox count left others m vs s body i =
    let k = own-request schema side open_end outbox count others.sent left (message_note schema m vs) s (subst (λ (b : Body). In (body_note schema m b) (told_notes side others.sent)) body i) in
    record { request = k.0; found = k.1.0; route = ap (λ (x : RequestNote). x.route) k.1.1.0; number = ap (λ (x : RequestNote). x.number) k.1.1.0; values = ap (λ (x : RequestNote). x.values) k.1.1.0 }

pub noted-at : (side is : Side) (e : End) (others : EndReading) (schema : Schema) → is ≡ side → ArrivalsAreNoted schema (told_notes side others.sent) e → ArrivalsAreNoted schema (told_notes is others.sent) e
noted-at side is e others schema same k = subst (λ (s : Side). ArrivalsAreNoted schema (told_notes s others.sent) e) (sym same) k

module _ (schema : Schema) (sound : IsSound schema) where
  takes-as-sent : (side : Side) (open_end : Bool) (outbox : List Message) (count : ℕ) (left : List Note) (made : Protocols) (e : End) (own others : EndReading) → SentAccount schema side open_end outbox count others.sent left → ArrivalsAreNoted schema (told_notes side others.sent) e → HasProtocols schema made e → ReadsActors schema e own → TakesAsSent schema e own others
  takes-as-sent side open_end outbox count left made e own others s noted protocols actors = record {
    takes = λ m sync level row vs next body found.
        let r : SentRequest others m vs = sent-request schema side open_end outbox count left others m vs s body (all-taken (ItemIsNoted schema (told_notes side others.sent)) e (item.Message m sync level) next noted) in
        let has : HaveTheirProtocols made (actors_of schema row m (Request vs)) = subst (λ (b : Body). HaveTheirProtocols made (actors_of schema row m b)) body (all-taken (ItemHasProtocols schema made) e (item.Message m sync level) next protocols.arrived row found).actors in
        let values : Values = nulled schema e.actors row.params vs in
        let same : is_nulled schema (lives own) (params_of schema m.number) r.request.values values ≡ true =
        ap (λ (o : Option MessageRow). is_nulled schema (lives own) (option_map_or (λ (x : MessageRow). x.params) o []) r.request.values values) found
        ∙ (ap (λ (us : Values). is_nulled schema (lives own) row.params us values) r.values
        ∙ (ap (λ (us : Values). same_values us values) (values_are_read_alike.nulled schema e.actors (lives own) row.params vs (alike schema made e own protocols actors (actors_in_parts schema row.params vs) has.1)) ∙ values-same values)) in
        ap (λ (o : Option told.Request). option_map_or (λ (x : told.Request). is_for m.route m.number x && is_nulled schema (lives own) (params_of schema m.number) x.values values) o false) r.found
        ∙ (ap (λ (b : Bool). b && is_nulled schema (lives own) (params_of schema m.number) r.request.values values) (for-same m.route m.number r.request r.route r.number) ∙ same);
    drops = λ m sync level vs id next body.
        let r : SentRequest others m vs = sent-request schema side open_end outbox count left others m vs s body (all-taken (ItemIsNoted schema (told_notes side others.sent)) e (item.Message m sync level) next noted) in
        ap (λ (o : Option told.Request). option_map_or (is_for m.route m.number) o false) r.found ∙ for-same m.route m.number r.request r.route r.number;
    takes_reply = λ m sync level a next body. refl;
  }

  -- The law of prefixes: what is delivered is the next packet, and what is taken has arrived and is as it was sent

  line-is : (own others : EndReading) (w : What) → next_line own others w ≡ true → there_line own others w ≡ true → sent_line schema own others w ≡ true → prefix_line schema own others w ≡ true
  line-is own others (what.DeliverRequest n) a b c = a
  line-is own others (what.DeliverReply n) a b c = a
  line-is own others what.DeliverGoodbye a b c = a
  line-is own others what.DeliverBroken a b c = a
  line-is own others (what.Take n route number values) a b c = ap (λ (x : Bool). x && was_sent_with schema own others n route number values) b ∙ c
  line-is own others (what.Drop n route number id) a b c = ap (λ (x : Bool). x && was_sent others n route number) b ∙ c
  line-is own others (what.TakeReply n) a b c = b
  line-is own others _ a b c = refl

  lines-are : (r : Reading) (lines following : List Line) → LinesPass schema (test_at next_line) r lines following → LinesPass schema (test_at there_line) r lines following → LinesPass schema (test_at (sent_line schema)) r lines following → LinesPass schema (law_at law.Prefix schema) r lines following
  unfolding moment_test
  lines-are r [] following a b c = tt
  lines-are r (l ∷ ls) following a b c = (
    both (moment_before law.Prefix schema r l.what) (prefix_line schema (end_reading_of l.side r) (other_of l.side r) l.what) (moment (is_effect l.what)) (line-is (end_reading_of l.side r) (other_of l.side r) l.what a.0 b.0 c.0),
    lines-are (after schema r l) ls following a.1 b.1 c.1,
  )
    where
      both : (x y : Bool) → x ≡ true → y ≡ true → x && y ≡ true
      both true y e f = f
      both false y e f = cc

      moment : (b : Bool) → (if b then true else moment_test law.Prefix schema r) ≡ true
      moment true = refl
      moment false = refl

  reached-fits : (side : Side) (w : World) (r : Reading) (output : Output) (ev : Event) → IsNestedWorld schema w → IsReached schema w r → (m : SideMove schema side w r ev output) → TakesAsSent schema (end_of side w) (end_reading_of side r) (other_of side r)
  reached-fits Parent w r output ev nested reached m =
      let p : WorldHasProtocols schema reached.top w = protocols-reached schema sound w r reached in
      takes-as-sent w.child.side (is_open w.child.state) w.child.outbox w.child.sent _ p.made w.parent r.parent r.child m.before.comes.sent (noted-at Child w.child.side w.parent r.child schema nested.child (noted-reached schema sound w r reached).0.arrived) p.keeps (actors-reached schema sound w r reached).0
  reached-fits Child w r output ev nested reached m =
      let p : WorldHasProtocols schema reached.top w = protocols-reached schema sound w r reached in
      takes-as-sent w.parent.side (is_open w.parent.state) w.parent.outbox w.parent.sent _ p.made w.child r.child r.parent m.before.comes.sent (noted-at Parent w.parent.side w.child r.parent schema nested.parent (noted-reached schema sound w r reached).1.arrived) p.their_keeps (actors-reached schema sound w r reached).1

  move-as-sent : (side : Side) (w : World) (r : Reading) (ev : Event) (output : Output) → IsNestedWorld schema w → IsReached schema w r → (m : SideMove schema side w r ev output) → AsSent schema r.lines m.whats (end_reading_of side r) (other_of side r)
  move-as-sent side w r ev output nested reached m = by m.parts
    where
      fit : TakesAsSent schema (end_of side w) (end_reading_of side r) (other_of side r)
      fit = reached-fits side w r output ev nested reached m

      by : {ev : Event} {ws : List What} {ps : List Packet} {f : End} {q : Phase} → StepParts schema (end_of side w) (link_to side w) ev ws ps f q → AsSent schema r.lines ws (end_reading_of side r) (other_of side r)
      by (acts same steps) = own-pass schema (λ read w. sent_line schema read (other_of side r) w ≡ true) (sent-free schema (other_of side r)) r.lines (end_reading_of side r) steps fit
      by (delivers packet first o part) = delivery-pass schema (λ read w. sent_line schema read (other_of side r) w ≡ true) (sent-free schema (other_of side r)) r.lines (end_reading_of side r) part

  prefix-keeps : EveryMoveKeeps schema (ReadExchanges schema sound) (law_at law.Prefix schema)
  prefix-keeps move w r output m k =
      let there = exchanges-keep schema sound move w r output m k in
      record {
        kept = there.kept;
        passes = λ following. lines-are r output.lines following
            (ends-pass schema next_line move.side move.event w r output following m.nested m.ends (move-next schema r.lines (end_of move.side w) (end_of (other move.side) w) (end_reading_of move.side r) (other_of move.side r) (link_to move.side w) (link_to (other move.side) w) move.event output m.ends))
            (there.passes following)
            (ends-pass schema (sent_line schema) move.side move.event w r output following m.nested m.ends (move-as-sent move.side w r move.event output m.nested m.reached m.ends));
      }

pub histories_obey_prefix : HistoriesObeyPrefix
unfolding moment_test
histories_obey_prefix schema sound top moves =
    let runs = every-run schema sound (ReadExchanges schema sound) (law_at law.Prefix schema) (prefix-keeps schema sound) top moves (opening-exchanges schema top Parent, opening-exchanges schema top Child) in
    holds-in-runs law.Prefix schema sound top moves (runs.passes []) (moment (read schema (history_of schema top moves)))
  where
    moment : (r : Reading) → moment_test law.Prefix schema r ≡ true
    moment r = refl
