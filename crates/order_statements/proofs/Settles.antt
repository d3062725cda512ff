-- A reply that is taken settles its promise if that is pending, and does nothing else.
use Rattle.std.proofs.Common.{◌≡◌, ◌||◌, ◌&&◌, not, ◌+◌, ◌==◌, ℤ, Bool, true, false, int_eq, IsTrue, List, [], ◌∷◌, ◌++◌, Some, refl, sym, ap, subst, ◌∙◌}
use Rattle.std.specs.List.{list_any}
use Rattle.ipdl_base.specs.declared.kinds.Level.{Level}
use Rattle.ipdl_base.specs.declared.kinds.Side.{Side}
use Rattle.ipdl_base.specs.declared.line.Line.{Line}
use Rattle.ipdl_base.specs.declared.line.What.{What}
use Rattle.ipdl_base.specs.declared.line.What.TheVariants as what
use Rattle.ipdl_base.specs.declared.message.Body.{Body}
use Rattle.ipdl_base.specs.declared.message.Body.TheVariants.{Request, Reply, Fault, Goodbye}
use Rattle.ipdl_base.specs.declared.message.Message.{Message}
use Rattle.ipdl_base.specs.declared.schema.MessageRow.{MessageRow}
use Rattle.ipdl_base.specs.declared.schema.Schema.{Schema}
use Rattle.ipdl_base.specs.Sound.{message_of}
use Rattle.nesting_core.specs.declared.frame.Answer.{Answer}
use Rattle.nesting_core.specs.declared.frame.Answer.TheVariants as answer
use Rattle.pending_queue.specs.declared.item.Item.{Item}
use Rattle.pending_queue.specs.declared.item.Item.TheVariants as item
use Rattle.history_reading.specs.Numbers.{has}
use Rattle.history_reading.specs.SentPacket.{requests_of}
use Rattle.promise_table.specs.declared.promise.Outcome.{Outcome}
use Rattle.promise_table.specs.declared.promise.Outcome.TheVariants.{Resolved, Rejected}
use Rattle.channel_model.specs.Ends.{End}
use Rattle.channel_model.specs.Events.{Event}
use Rattle.channel_model.specs.Events as event
use Rattle.channel_model.specs.Outputs.{Output, body_of}
use Rattle.channel_model.specs.Parts.{reply_outcome}
use Rattle.channel_model.specs.Refusals.{is_replied_to}
use Rattle.channel_model.specs.Steps.{step}
use Rattle.channel_model.specs.Takes.{is_awaited, settle_line, taken_next}
use Rattle.channel_laws.specs.Origins.{BodyOrigin, ItemOrigin}
use Rattle.channel_laws.specs.Promised.{Promised, promised_in}
use Rattle.channel_laws.proofs.PrefixRuns.{all-taken}
use Rattle.channel_laws.proofs.Promising.{int-flip}
use Rattle.law_statements.specs.Packets.{number_settled, sent, settled}
use Rattle.law_statements.specs.Said.{line_of, said_by}
use Rattle.order_laws.specs.Order.{FirstLine, IsTakeOf, IsTakeOfBody}
use Rattle.order_laws.proofs.DueEffects.{replies_settle}
use Rattle.order_laws.proofs.Takes.{item-told, step-taken}
use Rattle.order_statements.specs.Shape.{HasEffects}
use Rattle.order_statements.proofs.ArrivedReplies.{BodyIsPromised, ItemIsPromised}
use Rattle.order_statements.proofs.FirstLines.{IsLineOf, line-of-event}
use Rattle.order_statements.proofs.Places.{EventIn}
use Rattle.order_statements.proofs.TakenRequests.{is_take}
use Rattle.order_statements.proofs.Tells.{EventsAreTold, TellingStep, effects-are}

-- Only a take has such a line

take-says : (ev : Event) (n : ℤ) → IsLineOf ev (what.TakeReply n) → is_take ev ≡ true
take-says event.take n h = refl
take-says _ n h = absurd h

-- The reply that a line shows as taken: the item that the end takes next.
record TakenReply (schema : Schema) (e : End) (n : ℤ) (promises : List Promised) : Type 0 where
  m : Message
  sync : Bool
  level : Level
  next : taken_next e ≡ Some (item.Message m sync level)
  given : Answer
  body : m.body ≡ body_of given
  row : MessageRow
  found : message_of schema m.number ≡ Some row
  seq_is : n ≡ m.seq
  promised : list_any (λ (p : Promised). is_replied_to m p.seq p.number p.route) promises ≡ true

-- the promise of a reply has its number
numbered-promise : (m : Message) (promises : List Promised) → list_any (λ (p : Promised). is_replied_to m p.seq p.number p.route) promises ≡ true → list_any (λ (p : Promised). int_eq p.seq m.seq) promises ≡ true
numbered-promise m [] h = cc
numbered-promise m (p ∷ promises) h =
    ap (λ (b : Bool). b || list_any (λ (x : Promised). int_eq x.seq m.seq) promises) (int-flip p.seq m.seq)
    ∙ by (int_eq m.seq p.seq) ((m.number == p.number + 1) && int_eq m.route p.route) h (numbered-promise m promises)
  where
    by : (b c : Bool) → ((b && c) || list_any (λ (x : Promised). is_replied_to m x.seq x.number x.route) promises) ≡ true
        → (list_any (λ (x : Promised). is_replied_to m x.seq x.number x.route) promises ≡ true → list_any (λ (x : Promised). int_eq x.seq m.seq) promises ≡ true)
        → (b || list_any (λ (x : Promised). int_eq x.seq m.seq) promises) ≡ true
    by true c h rec = refl
    by false c h rec = rec h

module _ (schema : Schema) {end : Side} {n : ℤ} {before following : List Line} (i : EventIn (TellingStep schema end) end (what.TakeReply n) before following) where
  abbrev promises : List Promised
  promises = promised_in (requests_of (sent schema (said_by end before)))

  body-reply : (m : Message) (sync : Bool) (level : Level) → taken_next i.by.e ≡ Some (item.Message m sync level) → (body : Body) → m.body ≡ body → IsTakeOfBody m body (what.TakeReply n)
      → BodyOrigin schema i.by.tells.theirs m body → BodyIsPromised promises m body → TakenReply schema i.by.e n promises
  body-reply m sync level next (Request vs) is h row promised = absurd h
  body-reply m sync level next (Reply vs) is h row promised = record { m = m; sync = sync; level = level; next = next; given = answer.Ok vs; body = is; row = row.0; found = row.1; seq_is = h; promised = promised }
  body-reply m sync level next (Fault reason) is h row promised = record { m = m; sync = sync; level = level; next = next; given = answer.Fault reason; body = is; row = row.0; found = row.1; seq_is = h; promised = promised }
  body-reply m sync level next Goodbye is h row promised = absurd h

  item-reply : (x : Item) → taken_next i.by.e ≡ Some x → IsTakeOf x (what.TakeReply n) → TakenReply schema i.by.e n promises
  item-reply item.Broken next h = absurd h
  item-reply (item.Message m sync level) next h =
      body-reply m sync level next m.body refl h (all-taken (ItemOrigin schema i.by.tells.theirs) i.by.e (item.Message m sync level) next i.by.tells.origins.arrived)
      (all-taken (ItemIsPromised promises) i.by.e (item.Message m sync level) next i.by.tells.replies)

  take-event : step schema i.by.e i.by.link event.take ≡ Some i.output
  take-event = by i.by.happened i.by.made (take-says i.by.happened n (line-of-event schema i.by.e i.by.link i.by.happened i.output end (what.TakeReply n) i.effects i.by.made i.lines))
    where
      by : (ev : Event) → step schema i.by.e i.by.link ev ≡ Some i.output → is_take ev ≡ true → step schema i.by.e i.by.link event.take ≡ Some i.output
      by event.take made kind = made
      by _ made kind = cc

  taken-reply : TakenReply schema i.by.e n promises
  taken-reply =
      let s = step-taken schema i.by.e i.by.link i.output take-event in
      let told : FirstLine (IsTakeOf s.0) i.output.lines = subst (λ (o : Output). FirstLine (IsTakeOf s.0) o.lines) s.2 (item-told schema s.0 i.by.e).first in
      item-reply s.0 s.1 (subst (FirstLine (IsTakeOf s.0)) i.lines told)

  awaited-is : (r : TakenReply schema i.by.e n promises) (b : Bool) → has (settled (said_by end before)) n ≡ b → is_awaited r.m.seq i.by.e.promises ≡ not b
  awaited-is r b is =
      i.by.tells.awaited r.m.seq
      ∙ (ap (λ (c : Bool). c && not (has (settled (said_by end before)) r.m.seq)) (numbered-promise r.m promises r.promised) ∙ ap (λ (m : ℤ). not (has (settled (said_by end before)) m)) (sym r.seq_is) ∙ ap not is)

settles-number : (n : ℤ) (outcome : Outcome) → number_settled (settle_line n outcome) ≡ Some n
settles-number n (Resolved vs) = refl
settles-number n (Rejected reason) = refl

module _ (schema : Schema) (lines : List Line) (told : EventsAreTold schema lines) where
  pub replies-settle : (end : Side) (n : ℤ) (before following : List Line) → lines ≡ before ++ line_of end (what.TakeReply n) ∷ following → has (settled (said_by end before)) n ≡ false
      → (w : What) × (number_settled w ≡ Some n) × HasEffects end (w ∷ []) following
  replies-settle end n before following at pending =
      let i = told end (what.TakeReply n) before following refl at in
      let r = taken-reply schema i in
      let outcome : Outcome = reply_outcome schema i.by.e r.row r.given in
      let h = replies_settle.settles schema i.by.e i.by.link r.m r.sync r.level r.row r.given i.output r.next r.body r.found (awaited-is schema i r false pending) (take-event schema i) in
      (settle_line r.m.seq outcome, settles-number r.m.seq outcome ∙ ap (λ (m : ℤ). Some m) (sym r.seq_is), subst (λ (ws : List What). HasEffects end ws following) (effects-are schema i (what.TakeReply r.m.seq) (settle_line r.m.seq outcome ∷ []) h.0.said) i.has)

  pub replies-late : (end : Side) (n : ℤ) (before following : List Line) → lines ≡ before ++ line_of end (what.TakeReply n) ∷ following → IsTrue (has (settled (said_by end before)) n) → HasEffects end [] following
  replies-late end n before following at done =
      let i = told end (what.TakeReply n) before following refl at in
      let r = taken-reply schema i in
      let h = replies_settle.late schema i.by.e i.by.link r.m r.sync r.level r.given i.output r.next r.body (awaited-is schema i r true done) (take-event schema i) in
      subst (λ (ws : List What). HasEffects end ws following) (effects-are schema i (what.TakeReply r.m.seq) [] h.0.said) i.has
