-- A reply that settles its promise was sent by the other end, and so the settling has its cause.
use Rattle.std.proofs.Common.{◌≡◌, ℤ, Bool, true, false, not, ◌&&◌, if◌then◌else◌, int_eq, List, [], ◌∷◌, Option, Some, is_some, refl, sym, ap, subst, ◌∙◌}
use Rattle.std.specs.List.{AllByRecursion}
use Rattle.std.specs.Option.{option_map_or}
use Rattle.std.proofs.lemmas.Option.{same_Some}
use Rattle.ipdl_base.specs.declared.kinds.Reason.{Reason}
use Rattle.ipdl_base.specs.declared.kinds.Reason.TheVariants.{ActorDestroyed, ChannelClosed, HandlerRejected, ResolverDestroyed}
use Rattle.ipdl_base.specs.declared.kinds.Side.{Side}
use Rattle.ipdl_base.specs.declared.line.Line.{Line}
use Rattle.ipdl_base.specs.declared.line.What.TheVariants as what
use Rattle.ipdl_base.specs.declared.message.Body.{Body}
use Rattle.ipdl_base.specs.declared.message.Body.TheVariants.{Reply}
use Rattle.ipdl_base.specs.declared.message.Message.{Message}
use Rattle.ipdl_base.specs.declared.schema.MessageRow.{MessageRow}
use Rattle.ipdl_base.specs.declared.schema.ParamRow.{ParamRow}
use Rattle.ipdl_base.specs.declared.schema.Schema.{Schema}
use Rattle.ipdl_base.specs.declared.value.Values.{Values}
use Rattle.ipdl_base.specs.Signatures.{returns_of_row}
use Rattle.ipdl_base.specs.Sound.{message_of}
use Rattle.nesting_core.specs.declared.frame.Answer.{Answer}
use Rattle.nesting_core.specs.declared.frame.Answer.TheVariants as answer
use Rattle.pending_queue.specs.declared.item.Item.{Item}
use Rattle.pending_queue.specs.declared.item.Item.TheVariants as item
use Rattle.channel_model.specs.Ends.{End}
use Rattle.channel_model.specs.Numbers.{is_sync_row, request_row}
use Rattle.channel_model.specs.Outputs.{body_of}
use Rattle.channel_model.specs.Takes as take
use Rattle.channel_model.specs.ValueActors.{actors_in_parts, missing, nulled, received}
use Rattle.channel_model.specs.Refusals.{actors_of}
use Rattle.history_reading.specs.EndReading.{EndReading, lives}
use Rattle.history_reading.specs.Nulled.{nulled_fields, same_values, missing as missing_read}
use Rattle.history_reading.specs.Numbers.{has}
use Rattle.history_reading.specs.Reading.{after_what}
use Rattle.history_reading.specs.Rows as rows_read
use Rattle.history_reading.specs.SentPacket as told
use Rattle.history_reading.specs.SentPacket.{requests_of, request_of}
use Rattle.history_reading.specs.Settled.{is_destroyed, reports_fallen, resolves_missing, promise_falls_next, is_resolved_with, is_resolved_missing, is_rejected}
use Rattle.history_reading.specs.Waits.{own_returns, is_fault}
use Rattle.channel_laws.specs.EndActors.{ReadsActors}
use Rattle.channel_laws.specs.NotedArrivals.{ItemIsNoted, ArrivalsAreNoted, HasWantsOfRow, HaveWantsOfRows}
use Rattle.channel_laws.specs.Notes.{Note, told_note, told_notes, body_note, says, values_content, fault_content, In}
use Rattle.channel_laws.specs.Notes as note
use Rattle.channel_laws.specs.Origins.{RepliesTo, BodyReplies}
use Rattle.channel_laws.specs.Promised.{PromisesAreRead, promise_reading}
use Rattle.channel_laws.specs.Protocols.{Protocols, HasProtocols, ItemHasProtocols, HaveTheirProtocols}
use Rattle.channel_laws.specs.Replies.{ItemReplies, IsNoClosedFault, SaysNoClosedFault}
use Rattle.channel_laws.specs.Rows.{HasSoundRows}
use Rattle.channel_laws.specs.SentAccounts.{SentAccount}
use Rattle.channel_laws.specs.ValueReadings.{LivesAlike}
use Rattle.channel_laws.proofs.Growing.{own-request, in-all}
use Rattle.channel_laws.proofs.MissingAlike.{values_are_read_alike}
use Rattle.channel_laws.proofs.PrefixRuns.{all-taken}
use Rattle.channel_laws.proofs.ReadAlike.{alike}
use Rattle.channel_laws.proofs.PromiseParts.{message-row}
use Rattle.channel_laws.proofs.Resumes.{returns-are, reason-same}
use Rattle.channel_laws.proofs.Said.{says-passes}
use Rattle.channel_laws.proofs.SameValues.{values-same}
use Rattle.channel_laws.specs.Settlings.{has_cause, RepliesHaveCauses}
use Rattle.channel_laws.proofs.SettledLines.{awaited-unsettled}
use Rattle.channel_laws.proofs.Settling.{IsUnsettled, pending-unsettled}
use Rattle.channel_laws.proofs.Track.{all-found}

-- No end replies that the channel has closed

abbrev NotesNoClosedFault : Note → Type 0
NotesNoClosedFault (note.asks r) = Unit {0}
NotesNoClosedFault (says n content) = IsNoClosedFault content
NotesNoClosedFault note.goodbye = Unit {0}
NotesNoClosedFault note.broken = Unit {0}

no-closed-notes : (side : Side) (sent : List told.SentPacket) → AllByRecursion SaysNoClosedFault sent → AllByRecursion NotesNoClosedFault (told_notes side sent)
no-closed-notes side [] h = tt
no-closed-notes side (told.request r ∷ sent) h = (tt, no-closed-notes side sent h.1)
no-closed-notes side (told.said n content ∷ sent) h = (h.0, no-closed-notes side sent h.1)
no-closed-notes side (told.goodbye ∷ sent) h = (tt, no-closed-notes side sent h.1)
no-closed-notes side (told.broken ∷ sent) h = (tt, no-closed-notes side sent h.1)

-- What was sent

module _ (schema : Schema) (side : Side) (own others : EndReading) where
  -- a reply with this fault, or with values in which an actor is missing, destroys the promise
  fallen-destroys : (n : ℤ) (following : List Line) → told.says (is_fault ActorDestroyed) others.sent n ≡ true → is_destroyed schema side own others n following ≡ true
  unfolding is_destroyed reports_fallen
  fallen-destroys n following is = ap (λ (b : Bool). if (if b then true else resolves_missing schema own others n) then true else promise_falls_next side own n following) is

  missing-destroys : (n : ℤ) (following : List Line) → told.says (is_resolved_missing schema own (own_returns schema own n)) others.sent n ≡ true → is_destroyed schema side own others n following ≡ true
  unfolding is_destroyed resolves_missing
  missing-destroys n following is = by (reports_fallen others n) is
    where
      by : (b : Bool) → told.says (is_resolved_missing schema own (own_returns schema own n)) others.sent n ≡ true → (if (if b then true else told.says (is_resolved_missing schema own (own_returns schema own n)) others.sent n) then true else promise_falls_next side own n following) ≡ true
      by true is = refl
      by false is = ap (λ (b : Bool). if b then true else promise_falls_next side own n following) is

  -- the fault of an async reply
  fault-cause : (their_side : Side) (n : ℤ) (r : Reason) (following : List Line) → In (says n (fault_content false r)) (told_notes their_side others.sent) → AllByRecursion SaysNoClosedFault others.sent → has_cause schema side others own (what.Rejected n r) following ≡ true
  fault-cause their_side n HandlerRejected following i none = says-passes their_side is_rejected n told.rejected others.sent i refl
  fault-cause their_side n ResolverDestroyed following i none = says-passes their_side (is_fault ResolverDestroyed) n (told.fault ResolverDestroyed) others.sent i (reason-same ResolverDestroyed)
  fault-cause their_side n ActorDestroyed following i none = fallen-destroys n following (says-passes their_side (is_fault ActorDestroyed) n (told.fault ActorDestroyed) others.sent i (reason-same ActorDestroyed))
  fault-cause their_side n ChannelClosed following i none = absurd (in-all NotesNoClosedFault i (no-closed-notes their_side others.sent none))

  -- the values of a reply, with null in the place of dead actors, or a fault if an actor is missing
  values-cause : (their_side : Side) (e : End) (n : ℤ) (row : MessageRow) (vs : Values) (following : List Line) → In (says n (told.resolved vs)) (told_notes their_side others.sent) → own_returns schema own n ≡ returns_of_row row → AllByRecursion (LivesAlike e.actors (lives own)) (actors_in_parts schema (returns_of_row row) vs)
      → (b : Bool) → is_some (missing schema e.actors (returns_of_row row) vs) ≡ b
      → has_cause schema side others own (take.settle_line n (take.outcome_of (if b then answer.Fault ActorDestroyed else answer.Ok (nulled schema e.actors (returns_of_row row) vs)))) following ≡ true
  values-cause their_side e n row vs following i returns same true is =
      missing-destroys n following (says-passes their_side (is_resolved_missing schema own (own_returns schema own n)) n (told.resolved vs) others.sent i
      (ap (λ (types : List ParamRow). is_some (missing_read schema (lives own) types vs)) returns ∙ (ap is_some (values_are_read_alike.missing schema e.actors (lives own) (returns_of_row row) vs same) ∙ is)))
  values-cause their_side e n row vs following i returns same false is =
      says-passes their_side (is_resolved_with schema own (own_returns schema own n) (nulled schema e.actors (returns_of_row row) vs)) n (told.resolved vs) others.sent i
      (ap (λ (types : List ParamRow). same_values (nulled_fields schema (lives own) types vs) (nulled schema e.actors (returns_of_row row) vs)) returns
      ∙ (ap (λ (us : Values). same_values us (nulled schema e.actors (returns_of_row row) vs)) (values_are_read_alike.nulled schema e.actors (lives own) (returns_of_row row) vs same) ∙ values-same (nulled schema e.actors (returns_of_row row) vs)))

-- The reply that is taken

-- What is known of an end and of what the other end has sent.
pub record KnowsReplies (schema : Schema) (their_side : Side) (e : End) (own others : EndReading) : Type 0 where
  pub made : Protocols
  pub open_end : Bool
  pub left : List Note
  pub account : SentAccount schema e.side open_end e.outbox e.sent own.sent left
  pub promises : PromisesAreRead e own
  pub wants : HaveWantsOfRows schema own.sent
  pub noted : ArrivalsAreNoted schema (told_notes their_side others.sent) e
  pub replies : AllByRecursion (ItemReplies schema (told_notes e.side own.sent)) e.arrived
  pub protocols : HasProtocols schema made e
  pub actors : ReadsActors schema e own
  pub said_by : AllByRecursion SaysNoClosedFault others.sent

module _ (schema : Schema) (rows : HasSoundRows schema) (side their_side : Side) (e : End) (own others : EndReading) (k : KnowsReplies schema their_side e own others) where
  and-not : (a b : Bool) → not a && b ≡ true → a ≡ false
  and-not true b is = cc
  and-not false b is = refl

  wanted-true : (b c : Bool) → b && c ≡ true → b ≡ true
  wanted-true true c is = refl
  wanted-true false c is = cc

  -- the reply to a promise's request is async, and has the returns of its row
  reply-row : (m : Message) (row : MessageRow) → RepliesTo schema (told_notes e.side own.sent) m → message_of schema m.number ≡ Some row → take.is_awaited m.seq e.promises ≡ true
      → (rows_read.is_sync_number schema m.number ≡ false) × (own_returns schema own m.seq ≡ returns_of_row row)
  reply-row m row r found awaited =
      let same : r.origin.row ≡ row = same_Some r.origin.row row (sym (ap (message_of schema) r.is ∙ (rows r.number r.origin.row r.origin.found).reply r.replied) ∙ found) in
      let q = own-request schema e.side k.open_end e.outbox e.sent own.sent k.left r.origin.requested.request k.account r.origin.requested.sent_it in
      let t : told.Request = q.0 in
      let there : request_of own.sent m.seq ≡ Some t = ap (request_of own.sent) (sym r.origin.requested.seq_is) ∙ q.1.0 in
      let number : t.number ≡ r.number = ap (λ (x : note.RequestNote). x.number) q.1.1.0 ∙ r.origin.requested.number_is in
      let first : IsUnsettled (promise_reading own) m.seq = awaited-unsettled schema side others (promise_reading own) m.seq e.promises (pending-unsettled e.side e.promises e.sent (promise_reading own) k.promises) awaited in
      let wanted : option_map_or (λ (x : told.Request). x.wants) (request_of own.sent m.seq) false ≡ true = wanted-true (option_map_or (λ (x : told.Request). x.wants) (request_of own.sent m.seq) false) (not (has own.settled m.seq)) first in
      let wants : t.wants ≡ true = sym (ap (λ (o : Option told.Request). option_map_or (λ (x : told.Request). x.wants) o false) there) ∙ wanted in
      let by_row : t.wants ≡ rows_read.wants_number schema t.number = all-found (HasWantsOfRow schema) (λ x. int_eq x.seq m.seq) (requests_of own.sent) t k.wants there in
      let wants_row : rows_read.wants_row r.origin.row ≡ true =
      sym (ap (λ (o : Option MessageRow). option_map_or rows_read.wants_row o false) (ap (message_of schema) number ∙ message-row schema r.number r.origin.row r.origin.found)) ∙ (sym by_row ∙ wants) in
      let async : is_sync_row row ≡ false = ap is_sync_row (sym same) ∙ and-not (is_sync_row r.origin.row) (is_some r.origin.row.returns) wants_row in (
        ap (λ (o : Option MessageRow). option_map_or is_sync_row o false) found ∙ async,
        returns-are schema e.side own k.open_end e.outbox e.sent k.left m.seq m.route r.number row k.account r.origin.requested (ap (λ (x : MessageRow). request_row schema r.number) (sym same) ∙ (r.origin.found ∙ ap (λ (x : MessageRow). Some x) same)),
      )

  pub replies-have-causes : RepliesHaveCauses schema side others e own
  replies-have-causes m sync level row a next body found awaited place following = by a body
    where
      x : Item
      x = item.Message m sync level

      noted_it : ItemIsNoted schema (told_notes their_side others.sent) (item.Message m sync level)
      noted_it = all-taken (ItemIsNoted schema (told_notes their_side others.sent)) e (item.Message m sync level) next k.noted

      replies_it : BodyReplies schema (told_notes e.side own.sent) m m.body
      replies_it = all-taken (ItemReplies schema (told_notes e.side own.sent)) e (item.Message m sync level) next k.replies

      by : (a : Answer) → m.body ≡ body_of a → has_cause schema side others (after_what schema place (what.TakeReply m.seq) own) (take.settle_line m.seq (take.outcome_of (received schema e.actors row a))) following ≡ true
      by (answer.Ok vs) is =
          let r : RepliesTo schema (told_notes e.side own.sent) m = subst (BodyReplies schema (told_notes e.side own.sent) m) is replies_it in
          let q = reply-row m row r found awaited in
          let i : In (says m.seq (values_content (rows_read.is_sync_number schema m.number) vs)) (told_notes their_side others.sent) = subst (λ (b : Body). In (body_note schema m b) (told_notes their_side others.sent)) is noted_it in
          let j : In (says m.seq (told.resolved vs)) (told_notes their_side others.sent) = subst (λ (b : Bool). In (says m.seq (values_content b vs)) (told_notes their_side others.sent)) q.0 i in
          let has : HaveTheirProtocols k.made (actors_of schema row m (Reply vs)) = subst (λ (b : Body). HaveTheirProtocols k.made (actors_of schema row m b)) is (all-taken (ItemHasProtocols schema k.made) e (item.Message m sync level) next k.protocols.arrived row found).actors in
          values-cause schema side (after_what schema place (what.TakeReply m.seq) own) others their_side e m.seq row vs following j q.1 (alike schema k.made e own k.protocols k.actors (actors_in_parts schema (returns_of_row row) vs) has.1) (is_some (missing schema e.actors (returns_of_row row) vs)) refl
      by (answer.Fault reason) is =
          let r : RepliesTo schema (told_notes e.side own.sent) m = subst (BodyReplies schema (told_notes e.side own.sent) m) is replies_it in
          let q = reply-row m row r found awaited in
          let i : In (says m.seq (fault_content (rows_read.is_sync_number schema m.number) reason)) (told_notes their_side others.sent) = subst (λ (b : Body). In (body_note schema m b) (told_notes their_side others.sent)) is noted_it in
          fault-cause schema side (after_what schema place (what.TakeReply m.seq) own) others their_side m.seq reason following (subst (λ (b : Bool). In (says m.seq (fault_content b reason)) (told_notes their_side others.sent)) q.0 i) k.said_by
