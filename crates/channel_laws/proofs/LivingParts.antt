-- The lines of each part obey the law of the living.
use Rattle.std.proofs.Common.{◌≡◌, ℕ, ◌+◌, ℤ, pos, Bool, true, false, not, ◌&&◌, cond, if◌then◌else◌, int_eq, List, [], ◌∷◌, ◌++◌, find, map, Option, Some, None, is_some, option_map, refl, sym, ap, subst, ◌∙◌}
use Rattle.std.specs.List.{AllByRecursion, flat_map}
use Rattle.std.specs.Option.{option_map_or}
use Rattle.std.proofs.lemmas.Bool.Decides.{Decides-int_eq}
use Rattle.std.proofs.lemmas.Option.{same_Some}
use Rattle.actor_tree.specs.declared.actor.Actor.{Actor}
use Rattle.actor_tree.specs.Tree as tree
use Rattle.ipdl_base.specs.declared.kinds.Destroy.{Destroy}
use Rattle.ipdl_base.specs.declared.kinds.Reason.TheVariants.{ActorDestroyed, ResolverDestroyed, ChannelClosed}
use Rattle.ipdl_base.specs.declared.kinds.SendRefusal.TheVariants as refusal
use Rattle.ipdl_base.specs.declared.kinds.Side.{Side}
use Rattle.ipdl_base.specs.declared.line.What.{What}
use Rattle.ipdl_base.specs.declared.line.What.TheVariants as what
use Rattle.ipdl_base.specs.declared.message.Body.{Body}
use Rattle.ipdl_base.specs.declared.message.Body.TheVariants.{Request, Reply, Fault, Goodbye}
use Rattle.ipdl_base.specs.declared.message.Message.{Message}
use Rattle.ipdl_base.specs.declared.schema.MessageRow.{MessageRow}
use Rattle.ipdl_base.specs.declared.schema.ParamRow.{ParamRow}
use Rattle.ipdl_base.specs.declared.schema.Schema.{Schema}
use Rattle.ipdl_base.specs.declared.value.Values.{Values}
use Rattle.ipdl_base.specs.Signatures.{params_of}
use Rattle.ipdl_base.specs.Sound.{IsSound, message_of}
use Rattle.nesting_core.specs.declared.frame.Answer.{Answer}
use Rattle.nesting_core.specs.declared.frame.Answer.TheVariants as answer
use Rattle.nesting_core.specs.Frames.{head_of}
use Rattle.pending_queue.specs.declared.item.Item.{Item}
use Rattle.pending_queue.specs.declared.item.Item.TheVariants as item
use Rattle.history_reading.specs.EndReading.{EndReading, lives, was_built}
use Rattle.history_reading.specs.Living.{is_missing_in, is_first_missing, is_dropped_for, event_makes, is_made, living_line}
use Rattle.history_reading.specs.Nulled as lines
use Rattle.history_reading.specs.Reading.{after_what}
use Rattle.history_reading.specs.SentPacket as told
use Rattle.promise_table.specs.Promises.{is_pending_of}
use Rattle.channel_model.specs.Answers as answering
use Rattle.channel_model.specs.Deliveries as delivery
use Rattle.channel_model.specs.Ends.{End, Packet, message, mark, PromiseEntry}
use Rattle.channel_model.specs.Falls as fall
use Rattle.ipdl_base.specs.Sides.{other, top_id}
use Rattle.channel_model.specs.Numbers.{protocol_of, is_sync_row}
use Rattle.channel_model.specs.Actors.{IsTaken}
use Rattle.channel_model.specs.Outputs.{is_open, request_answered, resolver_answered}
use Rattle.channel_model.specs.Parts as part
use Rattle.channel_model.specs.Parts.{FirstPart, LaterPart, LaterParts, OwnParts, DeliveryPart, reply_lines, IsRefusal, IsRenaming, left_end, farewell_line}
use Rattle.channel_model.specs.Phases.{Phase}
use Rattle.channel_model.specs.Returns as return
use Rattle.channel_model.specs.Sends as send
use Rattle.channel_model.specs.Takes as take
use Rattle.channel_model.specs.ValueActors as end
use Rattle.channel_model.specs.ValueActors.{ActorValue, actors_in_parts, lives_as, is_dead, received}
use Rattle.channel_model.proofs.Known.{all-append, all-map}
use Rattle.channel_model.proofs.SendParts.{passed-first, lives-as}
use Rattle.channel_laws.specs.EndActors.{actor_reading, built_ids, IsPending, KeepsActors, ReadsActors}
use Rattle.channel_laws.specs.NotedArrivals.{ArrivalsAreNoted}
use Rattle.channel_laws.specs.Notes.{RequestNote, Note, message_note, told_notes}
use Rattle.channel_laws.specs.Protocols.{Protocols, HaveTheirProtocols, HasItsProtocol, IsRightMessage, HasProtocols}
use Rattle.channel_laws.specs.SentAccounts.{EndAccount}
use Rattle.channel_laws.specs.Tested.{after_whats, EndLinesPass}
use Rattle.channel_laws.specs.ValueReadings.{LivesAlike}
use Rattle.channel_laws.proofs.PartLines.{flat-lines}
use Rattle.channel_laws.proofs.ActorLines.{SaysNoActor, replaced, says_ok, says_fault, fails, resolved, rejected, no_actor-reply, no_actor-rejections, no_actor-fails, no_actor-settles}
use Rattle.channel_laws.proofs.ActorsKept.{zero-free}
use Rattle.channel_laws.proofs.MadeByEvents.{IsAsked, FreshIsMade, event-makes, taken-asked}
use Rattle.channel_laws.proofs.MissingAlike.{values_are_read_alike}
use Rattle.channel_laws.proofs.NulledLive.{nulled-live}
use Rattle.channel_laws.proofs.ProtocolParts.{taken-request}
use Rattle.channel_laws.proofs.Standing.{lives-read, built-lives}
use Rattle.channel_laws.proofs.StandsFor.{lives-alike}
use Rattle.channel_laws.proofs.Testing.{tested-append, tested-free}

both : (a b : Bool) → a ≡ true → b ≡ true → a && b ≡ true
both true b e f = f
both false b e f = cc

-- a request is kept where its actor lives and nothing is missing
kept-for : (b : Bool) (missing : Option ℤ) (route : ℤ) → (if b then missing else Some route) ≡ None → (b ≡ true) × (missing ≡ None)
kept-for true missing route e = (refl, e)
kept-for false missing route e = cc

module _ (schema : Schema) (sound : IsSound schema) (side : Side) (others : EndReading) where
  -- a line obeys the law
  abbrev pub IsLivingLine : EndReading → What → Type 0
  IsLivingLine own said = living_line schema side own others said ≡ true

  -- Lines for which the law has no condition

  free-line : (w : What) → SaysNoActor w → (h : EndReading) → IsLivingLine h w
  free-line w (replaced n) h = refl
  free-line w (says_ok n vs) h = refl
  free-line w (says_fault n r) h = refl
  free-line w (fails n) h = refl
  free-line w (resolved n vs) h = refl
  free-line w (rejected n r) h = refl

  free-lines : (place : ℕ) (ws : List What) (own : EndReading) → AllByRecursion SaysNoActor ws → EndLinesPass schema IsLivingLine place ws own
  free-lines place ws own h = tested-free schema IsLivingLine place ws own (all-map SaysNoActor (λ w. (h : EndReading) → IsLivingLine h w) ws free-line h)

  falls-free : (place : ℕ) (own : EndReading) (why : ℤ → Destroy) (promises : List PromiseEntry) (fs : List Actor) → EndLinesPass schema IsLivingLine place (flat_map (fall.fall_lines why promises) fs) own
  falls-free place own why promises fs =
      tested-free schema IsLivingLine place (flat_map (fall.fall_lines why promises) fs) own
      (flat-lines (λ w. (h : EndReading) → IsLivingLine h w) (fall.fall_lines why promises) fs
      (λ a. all-append (λ w. (h : EndReading) → IsLivingLine h w) (fall.rejections (is_pending_of a.id) ActorDestroyed promises) (what.Fall a.id (why a.id) ∷ [])
      (all-map SaysNoActor (λ w. (h : EndReading) → IsLivingLine h w) (fall.rejections (is_pending_of a.id) ActorDestroyed promises) free-line (no_actor-rejections (is_pending_of a.id) ActorDestroyed promises)) (λ h. refl, tt)))

  refusal-lives : (w : What) (own : EndReading) → IsRefusal schema w → IsLivingLine own w
  refusal-lives (what.RefusedSend c n) own is = refl
  refusal-lives (what.RefusedClose c) own is = refl
  refusal-lives (what.RefusedResolve c) own is = refl
  refusal-lives (what.RefusedReject c) own is = refl
  refusal-lives _ own is = absurd is

  renaming-lives : (w : What) (own : EndReading) → IsRenaming w → IsLivingLine own w
  renaming-lives (what.Keep seq name) own is = refl
  renaming-lives (what.Let name id) own is = refl
  renaming-lives _ own is = absurd is

  answering-lives : (seq : ℤ) (vs : Option Values) (own : EndReading) → IsLivingLine own (answering.answering_line seq vs)
  answering-lives seq None own = refl
  answering-lives seq (Some us) own = refl

  shut-lives : (last : Item) (own : EndReading) → IsLivingLine own (part.shut_line last)
  shut-lives (item.Message m sync level) own = refl
  shut-lives item.Broken own = refl

  resume-lives : (seq : ℤ) (a : Answer) (own : EndReading) → IsLivingLine own (return.resume_line seq a)
  resume-lives seq (answer.Ok vs) own = refl
  resume-lives seq (answer.Fault r) own = refl

  farewell-lives : (packet : Packet) (own : EndReading) → IsLivingLine own (farewell_line packet)
  farewell-lives (message m) own = refl
  farewell-lives mark own = refl

  unknown-lives : (seq : ℤ) (body : Body) (own : EndReading) → IsLivingLine own (part.unknown_line seq body)
  unknown-lives seq (Request vs) own = refl
  unknown-lives seq (Reply vs) own = refl
  unknown-lives seq (Fault r) own = refl
  unknown-lives seq Goodbye own = refl

  -- Sends, takes and drops

  module _ (made : Protocols) (e : End) (own : EndReading) (reads : ReadsActors schema e own) (keeps : HasProtocols schema made e) where
    lives-is : (id : ℤ) → lives own id ≡ tree.lives id e.actors
    lives-is id = lives-read own.built own.fallen e.actors id reads.living.living

    alike : (a : ActorValue) → HasItsProtocol made a → LivesAlike e.actors (lives own) a
    alike a h = lives-alike made e.actors keeps.actors a h ∙ sym (lives-is a.id)

    alikes : (few : List ActorValue) → HaveTheirProtocols made few → AllByRecursion (LivesAlike e.actors (lives own)) few
    alikes few h = all-map (HasItsProtocol made) (LivesAlike e.actors (lives own)) few alike h

    lives-own : (protocol : ℕ) (id : ℤ) → lives_as e.actors protocol id ≡ true → lives own id ≡ true
    lives-own protocol id h = lives-is id ∙ lives-as e.actors protocol id h

    send-lives : (row : MessageRow) (route : ℤ) (vs : Values) (name : Option (List ℕ)) → part.IsSent schema e row route vs name → IsLivingLine own (send.send_line row (send.request_of e row route vs) vs)
    send-lives row route vs name sent = by (is_sync_row row)
      where
        alive : lives own route ≡ true
        alive =
            let opens = passed-first (is_open e.state) refusal.Closed (if not (lives_as e.actors (protocol_of row.number) route) then Some refusal.DeadActor else (if is_some (send.stack_refusal e row) then send.stack_refusal e row else send.send_value_refusal schema e row route vs)) sent.accepted in
            lives-own (protocol_of row.number) route (passed-first (lives_as e.actors (protocol_of row.number) route) refusal.DeadActor (if is_some (send.stack_refusal e row) then send.stack_refusal e row else send.send_value_refusal schema e row route vs) opens.1).0

        by : (b : Bool) → IsLivingLine own (if b then what.Call (send.request_of e row route vs).seq (send.request_of e row route vs).transaction route row.number vs else what.Send (send.request_of e row route vs).seq route row.number vs)
        by true = alive
        by false = alive

    params-are : (m : Message) (row : MessageRow) → message_of schema m.number ≡ Some row → params_of schema m.number ≡ row.params
    params-are m row found = ap (λ (o : Option MessageRow). option_map_or (λ (x : MessageRow). x.params) o []) found

    take-lives : (m : Message) (row : MessageRow) (vs : Values) → message_of schema m.number ≡ Some row → IsRightMessage schema made m row (Request vs) → take.dropped_for schema e row m vs ≡ None → IsLivingLine own (what.Take m.seq m.route m.number (end.nulled schema e.actors row.params vs))
    take-lives m row vs found right stays =
        let k = kept-for (lives_as e.actors (protocol_of m.number) m.route) (end.missing schema e.actors row.params vs) m.route stays in
        let same : AllByRecursion (LivesAlike e.actors (lives own)) (actors_in_parts schema row.params vs) = alikes (actors_in_parts schema row.params vs) right.actors.1 in
        both (lives own m.route) (lines.all_live schema (lives own) (params_of schema m.number) (end.nulled schema e.actors row.params vs)) (lives-own (protocol_of m.number) m.route k.0)
        (ap (λ (ps : List ParamRow). lines.all_live schema (lives own) ps (end.nulled schema e.actors row.params vs)) (params-are m row found)
        ∙ (ap (lines.all_live schema (lives own) row.params) (sym (values_are_read_alike.nulled schema e.actors (lives own) row.params vs same))
        ∙ nulled-live schema (lives own) row.params vs (values_are_read_alike.missing schema e.actors (lives own) row.params vs same ∙ k.1)))

    -- the first missing actor does not live
    missing-dead : (few : List ActorValue) (id : ℤ) → HaveTheirProtocols made few → option_map (λ (a : ActorValue). a.id) (find (λ (a : ActorValue). not a.nullable && is_dead e.actors a) few) ≡ Some id → lives own id ≡ false
    missing-dead [] id h is = cc
    missing-dead (a ∷ few) id h is = by (not a.nullable && is_dead e.actors a) refl is (missing-dead few id h.1)
      where
        dead : (n l : Bool) → not n && not l ≡ true → l ≡ false
        dead true l x = cc
        dead false true x = cc
        dead false false x = refl

        by : (b : Bool) → not a.nullable && is_dead e.actors a ≡ b → option_map (λ (x : ActorValue). x.id) (cond b (Some a) (find (λ (x : ActorValue). not x.nullable && is_dead e.actors x) few)) ≡ Some id
            → (option_map (λ (x : ActorValue). x.id) (find (λ (x : ActorValue). not x.nullable && is_dead e.actors x) few) ≡ Some id → lives own id ≡ false) → lives own id ≡ false
        by true t is rec = subst (λ (n : ℤ). lives own n ≡ false) (same_Some a.id id is) (sym (alike a h.0) ∙ dead a.nullable (lives_as e.actors a.protocol a.id) t)
        by false t is rec = rec is

    first-missing : (m : Message) (row : MessageRow) (vs : Values) (id : ℤ) → message_of schema m.number ≡ Some row → IsRightMessage schema made m row (Request vs) → IsAsked (other side) others (message_note schema m vs) → end.missing schema e.actors row.params vs ≡ Some id → is_first_missing schema own others m.seq id ≡ true
    first-missing m row vs id found right asked is =
        let number : asked.request.number ≡ m.number = ap (λ (x : RequestNote). x.number) asked.is in
        let values : asked.request.values ≡ vs = ap (λ (x : RequestNote). x.values) asked.is in
        let missing : lines.missing schema (lives own) row.params vs ≡ Some id = values_are_read_alike.missing schema e.actors (lives own) row.params vs (alikes (actors_in_parts schema row.params vs) right.actors.1) ∙ is in
        ap (λ (o : Option told.Request). option_map_or (λ (r : told.Request). is_missing_in schema own (params_of schema r.number) r.values id) o false) asked.found
        ∙ (ap (λ (n : ℕ). is_missing_in schema own (params_of schema n) asked.request.values id) number
        ∙ (ap (λ (us : Values). is_missing_in schema own (params_of schema m.number) us id) values
        ∙ (ap (λ (ps : List ParamRow). is_missing_in schema own ps vs id) (params-are m row found)
        ∙ (ap (λ (o : Option ℤ). option_map_or (λ (first : ℤ). int_eq first id) o false) missing ∙ (Decides-int_eq id id).1 refl))))

    drop-lives : (m : Message) (row : MessageRow) (vs : Values) (id : ℤ) → message_of schema m.number ≡ Some row → IsRightMessage schema made m row (Request vs) → IsAsked (other side) others (message_note schema m vs) → take.dropped_for schema e row m vs ≡ Some id → IsLivingLine own (what.Drop m.seq m.route m.number id)
    drop-lives m row vs id found right asked gone = by (lives_as e.actors (protocol_of m.number) m.route) refl gone
      where
        of_values : (b : Bool) → lives own m.route ≡ true → is_first_missing schema own others m.seq id ≡ true → (if b then true else lives own m.route && is_first_missing schema own others m.seq id) ≡ true
        of_values true alive first = refl
        of_values false alive first = both (lives own m.route) (is_first_missing schema own others m.seq id) alive first

        by : (b : Bool) → lives_as e.actors (protocol_of m.number) m.route ≡ b → (if b then end.missing schema e.actors row.params vs else Some m.route) ≡ Some id → is_dropped_for schema own others m.seq m.route id ≡ true
        by true alive is =
            ap (λ (b : Bool). if b then false else (if int_eq id m.route then true else lives own m.route && is_first_missing schema own others m.seq id)) (missing-dead (actors_in_parts schema row.params vs) id right.actors.1 is)
            ∙ of_values (int_eq id m.route) (lives-own (protocol_of m.number) m.route alive) (first-missing m row vs id found right asked is)
        by false dead is =
            let same : m.route ≡ id = same_Some m.route id is in
            let route_dead : lives own m.route ≡ false = sym (alike (record { id = m.route; protocol = protocol_of m.number; nullable = false }) right.actors.0) ∙ dead in
            ap (λ (b : Bool). if b then false else (if int_eq id m.route then true else lives own m.route && is_first_missing schema own others m.seq id)) (subst (λ (n : ℤ). lives own n ≡ false) same route_dead)
            ∙ ap (λ (b : Bool). if b then true else lives own m.route && is_first_missing schema own others m.seq id) ((Decides-int_eq id m.route).1 (sym same))

    -- the first part
    pub first-lives : {f : End} {ws : List What} {ps : List Packet} {p : Phase} (place : ℕ) (theirs : End) (left : List Note) → FirstPart schema e ws ps f p → theirs.side ≡ other side → EndAccount schema theirs others left → ArrivalsAreNoted schema (told_notes (other side) others.sent) e
        → ((m : Message) (sync : Bool) (level : _) (vs : Values) → take.taken_next e ≡ Some (item.Message m sync level) → m.body ≡ Request vs → message_of schema m.number ≡ None → ⊥) → EndLinesPass schema IsLivingLine place ws own
    first-lives place theirs left (part.refuses w is) s k n rowed = (refusal-lives w own is, tt)
    first-lives place theirs left (part.renames w is) s k n rowed = (renaming-lives w own is, tt)
    first-lives place theirs left (part.flushes o) s k n rowed = (refl, tt)
    first-lives place theirs left (part.sends row route vs name sent) s k n rowed = (send-lives row route vs name sent, tt)
    first-lives place theirs left (part.answers by vs r row found may accepted used) s k n rowed = (answering-lives r.seq vs own, tt)
    first-lives place theirs left (part.closes o waits) s k n rowed = (refl, tt)
    first-lives place theirs left (part.dies o) s k n rowed = (refl, tt)
    first-lives place theirs left (part.dies_silent o alive) s k n rowed = (refl, tt)
    first-lives place theirs left (part.takes m sync level row vs next body found stays) s k n rowed = (take-lives m row vs found (taken-request schema sound made e m sync level row vs keeps next body found) stays, tt)
    first-lives place theirs left (part.drops m sync level row vs id replies next body found gone is) s k n rowed = (
      drop-lives m row vs id found (taken-request schema sound made e m sync level row vs keeps next body found) (taken-asked schema side others e theirs left m sync level vs s k n next body) gone,
      free-lines (place + 1) (reply_lines replies (request_answered m) (answer.Fault ActorDestroyed)) (after_what schema place (what.Drop m.seq m.route m.number id) own) (no_actor-reply replies (request_answered m) (answer.Fault ActorDestroyed)),
    )
    first-lives place theirs left (part.drops_unknown m sync level vs next body none) s k n rowed = absurd (rowed m sync level vs next body none)
    first-lives place theirs left (part.takes_reply m sync level a next body settles) s k n rowed = (refl, tt)
    first-lives place theirs left (part.settles m sync level row a next body found is) s k n rowed =
        (refl, free-lines (place + 1) (take.settle_line m.seq (part.reply_outcome schema e row a) ∷ []) (after_what schema place (what.TakeReply m.seq) own) (no_actor-settles m.seq (part.reply_outcome schema e row a), tt))
    first-lives place theirs left (part.shuts last next is) s k n rowed = (shut-lives last own, tt)
    first-lives place theirs left (part.returns entry row vs told lost is t l) s k n rowed =
        let ls : List What = reply_lines told (return.dispatch_answered entry) (return.return_answer schema e row entry vs) in
        let ms : List What = reply_lines lost (resolver_answered (answering.resolver_in entry)) (answer.Fault ResolverDestroyed) in (
          refl,
          free-lines (place + 1) (ls ++ ms) (after_what schema place (what.Return (head_of entry.frame).seq) own)
              (all-append SaysNoActor ls ms (no_actor-reply told (return.dispatch_answered entry) (return.return_answer schema e row entry vs)) (no_actor-reply lost (resolver_answered (answering.resolver_in entry)) (answer.Fault ResolverDestroyed))),
        )
    first-lives place theirs left (part.resumes wait row on_top found) s k n rowed = (resume-lives wait.seq (received schema e.actors row wait.given) own, tt)

  -- Actors that are built

  built-apart : (b : Bool) (c : Bool) → b ≡ false → c ≡ true → not b && c ≡ true
  built-apart b c e f = ap (λ (x : Bool). not x && c) e ∙ f

  not-zero : (id : ℤ) → (id ≡ pos 0 → ⊥) → int_eq id (pos 0) ≡ false
  not-zero id h = by (int_eq id (pos 0)) refl
    where
      by : (b : Bool) → int_eq id (pos 0) ≡ b → int_eq id (pos 0) ≡ false
      by true is = absurd (h ((Decides-int_eq id (pos 0)).0 is))
      by false is = is

  builds-lives : (p : Phase) (e : End) (own : EndReading) (id : ℤ) (protocol : ℕ) (rest : List ℤ) → p.fresh ≡ id ∷ rest → KeepsActors schema p e (actor_reading own) → FreshIsMade schema side others own p → IsLivingLine own (what.Built id protocol)
  builds-lives p e own id protocol rest fresh k made =
      let pending : IsPending (built_ids schema e own.built) (id ∷ rest) = subst (IsPending (built_ids schema e own.built)) fresh k.ids.pending in
      let apart : int_eq id (pos 0) ≡ false = not-zero id (λ zero. zero-free (built_ids schema e own.built) (subst (IsTaken (built_ids schema e own.built)) zero pending.0)) in
      let makes : event_makes side own others own.event ≡ id = ap (event_makes side own others) k.event.event ∙ event-makes schema side others own p.start id (made id rest fresh) in
      built-apart (was_built own.built id) (is_made side own others id) (sym (built-lives own.built id) ∙ pending.1)
      (built-apart (int_eq id (pos 0)) (int_eq (event_makes side own others own.event) id) apart ((Decides-int_eq (event_makes side own others own.event) id).1 makes))

  -- the parts that follow
  pub later-lives : {p q : Phase} {e f : End} {ws : List What} {ps : List Packet} (place : ℕ) (own : EndReading) → LaterPart p e ws ps f q → KeepsActors schema p e (actor_reading own) → FreshIsMade schema side others own p → EndLinesPass schema IsLivingLine place ws own
  later-lives place own (part.unnames name may silent) k made = tt
  later-lives place own (part.lets_go name r may is o) k made = (refl, tt)
  later-lives place own (part.names more a) k made = tt
  later-lives place own (part.releases seq closed) k made = tt
  later-lives place own (part.keeps seq name r is goes) k made = tt
  later-lives {p} {e} place own (part.builds id protocol rest fresh built) k made = (builds-lives p e own id protocol rest fresh k made, tt)
  later-lives {e} place own (part.deletes id cause) k made = falls-free place own (fall.why_deleted id) e.promises (part.falling id e)
  later-lives {e} place own (part.falls why cause) k made =
      tested-append schema IsLivingLine place (part.abandoned_lines e) (part.fall_lines top_id (λ id. why) (part.abandoned_end e)) own (free-lines place (part.abandoned_lines e) own (no_actor-rejections (λ x. true) ChannelClosed e.promises))
      (λ at. falls-free at (after_whats schema place (part.abandoned_lines e) own) (λ id. why) (part.abandoned_end e).promises (part.falling top_id e))

  -- a delivery
  pub delivery-lives : {packet : Packet} {q : Phase} {e f : End} {ws : List What} {ps : List Packet} (place : ℕ) (own : EndReading) → DeliveryPart schema packet e ws ps f q → EndLinesPass schema IsLivingLine place ws own
  delivery-lives place own (part.gets_request m row vs body found none) = (refl, tt)
  delivery-lives place own (part.replaces m row vs old sync level replies body found is makes) =
      (refl, free-lines (place + 1) (what.Replaced old.seq ∷ reply_lines replies (request_answered old) (answer.Fault ResolverDestroyed)) (after_what schema place (what.DeliverRequest m.seq) own) (replaced old.seq, no_actor-reply replies (request_answered old) (answer.Fault ResolverDestroyed)))
  delivery-lives place own (part.gets_answer m row a body found is) = (refl, tt)
  delivery-lives place own (part.gets_reply m row a body found is) = (refl, tt)
  delivery-lives {e} place own (part.drains p is) = (farewell-lives p own, free-lines (place + 1) (map what.Fails (delivery.unanswered e)) (after_what schema place (farewell_line p) own) (no_actor-fails (delivery.unanswered e)))
  delivery-lives place own (part.passes_by m ordinary none) = (unknown-lives m.seq m.body own, tt)
