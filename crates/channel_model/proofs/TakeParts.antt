-- Takes and returns as parts.
use Rattle.std.proofs.Common.{◌≡◌, ℤ, Bool, true, false, ◌&&◌, cond, List, [], ◌∷◌, ◌++◌, drop, Option, Some, None, is_some, refl, sym, ap, subst, ◌∙◌, append_assoc}
use Rattle.std.specs.Option.{option_map_or}
use Rattle.std.proofs.lemmas.List.{append-nil}
use Rattle.actor_tree.specs.Tree.{lives}
use Rattle.ipdl_base.specs.declared.kinds.Level.{Level}
use Rattle.ipdl_base.specs.declared.kinds.Reason.TheVariants as reason
use Rattle.ipdl_base.specs.declared.line.What.{What}
use Rattle.ipdl_base.specs.declared.line.What.TheVariants as what
use Rattle.ipdl_base.specs.declared.message.Body.{Body}
use Rattle.ipdl_base.specs.declared.message.Body.TheVariants.{Request, Reply, Fault, Goodbye}
use Rattle.ipdl_base.specs.declared.message.Message.{Message}
use Rattle.ipdl_base.specs.declared.schema.Kind.{Kind}
use Rattle.ipdl_base.specs.declared.schema.Kind.TheVariants.{Normal, Constructor, Delete}
use Rattle.ipdl_base.specs.declared.schema.MessageRow.{MessageRow}
use Rattle.ipdl_base.specs.declared.schema.Schema.{Schema}
use Rattle.ipdl_base.specs.declared.value.Values.{Values}
use Rattle.ipdl_base.specs.Sound.{message_of}
use Rattle.nesting_core.specs.declared.frame.Answer.{Answer}
use Rattle.nesting_core.specs.declared.frame.Answer.TheVariants as answer
use Rattle.nesting_core.specs.Frames.{head_of}
use Rattle.pending_queue.specs.declared.item.Item.{Item}
use Rattle.pending_queue.specs.declared.item.Item.TheVariants as item
use Rattle.channel_model.specs.Answers.{resolver_in}
use Rattle.channel_model.specs.Ends.{End, Packet, StackEntry}
use Rattle.channel_model.specs.Falls as fall
use Rattle.channel_model.specs.Numbers.{protocol_of, is_sync_row}
use Rattle.channel_model.specs.Outputs.{Output, Change, ◌▷◌, unchanged, when, on_end, line, is_open, AnsweredRequest, answered, request_answered, resolver_answered, body_of}
use Rattle.channel_model.specs.Parts
use Rattle.channel_model.specs.Parts.{FirstPart, LaterParts, OwnParts, IsReturn, after_outbox, reply_packet, reply_lines, reply_packets, end_after, left_end, shut_end, shut_line, shut_reason, owes_reply, is_settling}
use Rattle.channel_model.specs.Phases.{Phase, kind_cause, quiet, taking, returning, shutting, IsOver}
use Rattle.channel_model.specs.Returns as return
use Rattle.channel_model.specs.Sends as send
use Rattle.channel_model.specs.States.{is_farewell, is_goodbye}
use Rattle.channel_model.specs.Takes as take
use Rattle.channel_model.specs.ValueActors.{lives_as, nulled, received}
use Rattle.channel_model.proofs.DeliveryParts.{answering, answered-at}
use Rattle.channel_model.proofs.Made.{Makes, made, made-as, made-nothing, made-begun, made-alone}
use Rattle.channel_model.proofs.NameParts.{put-packets, done_phase, deletes-made, closed-made}
use Rattle.channel_model.proofs.SendParts.{lives-as, fresh-none, fresh-is, builds-made}

module _ (schema : Schema) where
  -- Requests that are handled

  abbrev handling : MessageRow → Message → Values → Change
  handling row m vs = on_end left_end ▷ line (what.Take m.seq m.route m.number vs) ▷ on_end (λ e. record e { stack = take.dispatch_of row m ∷ e.stack })

  handled-made : (m : Message) (sync : Bool) (level : Level) (row : MessageRow) (vs : Values) (kind : Kind) (o : Output) → take.taken_next o.end ≡ Some (item.Message m sync level) → m.body ≡ Request vs → message_of schema m.number ≡ Some row → take.dropped_for schema o.end row m vs ≡ None → row.kind ≡ kind → lives m.route o.end.actors ≡ true
      → (q : Phase) × Makes (OwnParts schema o.end) (handling row m (nulled schema o.end.actors row.params vs) ▷ send.constructs m.made m.route kind) o q
  handled-made m sync level row vs kind o next body found stays is alive = by kind is
    where
      begins : Change
      begins = handling row m (nulled schema o.end.actors row.params vs)

      part : Makes (FirstPart schema o.end) begins o (taking row m)
      part = made (FirstPart schema o.end) begins o (taking row m) (what.Take m.seq m.route m.number (nulled schema o.end.actors row.params vs) ∷ []) [] (Parts.takes m sync level row vs next body found stays) refl (sym (append-nil o.packets)) refl

      by : (k : Kind) → row.kind ≡ k → (q : Phase) × Makes (OwnParts schema o.end) (begins ▷ send.constructs m.made m.route k) o q
      by Normal e = (taking row m, made-as (OwnParts schema o.end) (begins ▷ unchanged) begins o (taking row m) refl (made-alone schema (taking row m) begins o part (fresh-none row m Normal e refl, refl)))
      by Delete e = (taking row m, made-as (OwnParts schema o.end) (begins ▷ unchanged) begins o (taking row m) refl (made-alone schema (taking row m) begins o part (fresh-none row m Delete e refl, refl)))
      by (Constructor protocol) e =
          let q : Phase = record (taking row m) { fresh = [] } in (
            q,
            made-begun schema (taking row m) q begins (send.built m.made protocol m.route) o part (builds-made (taking row m) m.made protocol (begins o) (fresh-is row m protocol e) (record { alive = alive; made = e })) (refl, refl),
          )

  -- Requests that are dropped

  abbrev dropping : Message → ℤ → Bool → Bool → Change
  dropping m id owes b = on_end left_end ▷ line (what.Drop m.seq m.route m.number id) ▷ when owes (when b (answering (request_answered m) (answer.Fault reason.ActorDestroyed)))

  dropped-at : (m : Message) (sync : Bool) (level : Level) (row : MessageRow) (vs : Values) (id : ℤ) (owes b : Bool) (o : Output) → take.taken_next o.end ≡ Some (item.Message m sync level) → m.body ≡ Request vs → message_of schema m.number ≡ Some row → take.dropped_for schema o.end row m vs ≡ Some id → owes_reply row ≡ owes → is_open o.end.state ≡ b
      → Makes (FirstPart schema o.end) (dropping m id owes b) o quiet
  dropped-at m sync level row vs id true true o next body found gone is open_is =
      made (FirstPart schema o.end) (dropping m id true true) o quiet (what.Drop m.seq m.route m.number id ∷ what.AnswerFault m.seq reason.ActorDestroyed ∷ []) (after_outbox o.end (reply_packet (request_answered m) (answer.Fault reason.ActorDestroyed)))
      (Parts.drops m sync level row vs id true next body found gone (sym (ap (λ (c : Bool). c && owes_reply row) open_is ∙ is))) (append_assoc o.lines (_ ∷ []) (_ ∷ [])) (put-packets o.packets o.end (reply_packet (request_answered m) (answer.Fault reason.ActorDestroyed))) refl
  dropped-at m sync level row vs id true false o next body found gone is open_is =
      made (FirstPart schema o.end) (dropping m id true false) o quiet (what.Drop m.seq m.route m.number id ∷ []) []
      (Parts.drops m sync level row vs id false next body found gone (sym (ap (λ (c : Bool). c && owes_reply row) open_is))) refl (sym (append-nil o.packets)) refl
  dropped-at m sync level row vs id false b o next body found gone is open_is =
      made (FirstPart schema o.end) (dropping m id false b) o quiet (what.Drop m.seq m.route m.number id ∷ []) []
      (Parts.drops m sync level row vs id false next body found gone (nothing b (owes_reply row) is ∙ ap (λ (c : Bool). c && owes_reply row) (sym open_is))) refl (sym (append-nil o.packets)) refl
    where
      nothing : (b c : Bool) → c ≡ false → false ≡ b && c
      nothing true c e = sym e
      nothing false c e = refl

  when-answered : (q : AnsweredRequest) (a : Answer) (c b : Bool) (x : Output) → is_open x.end.state ≡ b → when c (when b (answering q a)) x ≡ when c (answered q a) x
  when-answered q a true b x is = sym (answered-at q a b x is)
  when-answered q a false b x is = refl

  request_row-made : (m : Message) (sync : Bool) (level : Level) (row : MessageRow) (vs : Values) (gone : Option ℤ) (o : Output) → take.taken_next o.end ≡ Some (item.Message m sync level) → m.body ≡ Request vs → message_of schema m.number ≡ Some row → take.dropped_for schema o.end row m vs ≡ gone
      → (q : Phase) × Makes (OwnParts schema o.end) (on_end left_end ▷ take.dropped_or_handled gone row m (nulled schema o.end.actors row.params vs)) o q
  request_row-made m sync level row vs None o next body found is =
      handled-made m sync level row vs row.kind o next body found is refl (lives-as o.end.actors (protocol_of m.number) m.route (first-lives (lives_as o.end.actors (protocol_of m.number) m.route) _ m.route is))
    where
      first-lives : (b : Bool) (x : Option ℤ) (id : ℤ) → cond b x (Some id) ≡ None → b ≡ true
      first-lives true x id e = refl
      first-lives false x id e = cc
  request_row-made m sync level row vs (Some id) o next body found is =
      let b : Bool = is_open o.end.state in
      let start : Output = (on_end left_end ▷ line (what.Drop m.seq m.route m.number id)) o in
      let dropped : Change = on_end left_end ▷ take.dropped row m id in (
        quiet,
        made-alone schema quiet dropped o
            (made-as (FirstPart schema o.end) dropped (dropping m id (owes_reply row) b) o quiet (when-answered (request_answered m) (answer.Fault reason.ActorDestroyed) (owes_reply row) b start refl)
            (dropped-at m sync level row vs id (owes_reply row) b o next body found is refl refl)) (refl, refl),
      )

  request_taken-made : (m : Message) (sync : Bool) (level : Level) (vs : Values) (row : Option MessageRow) (o : Output) → take.taken_next o.end ≡ Some (item.Message m sync level) → m.body ≡ Request vs → message_of schema m.number ≡ row
      → (q : Phase) × Makes (OwnParts schema o.end) (on_end left_end ▷ option_map_or (take.request_taken schema m vs) row (line (what.Drop m.seq m.route m.number m.route))) o q
  request_taken-made m sync level vs None o next body none =
      let dropped : Change = on_end left_end ▷ line (what.Drop m.seq m.route m.number m.route) in (
        quiet,
        made-alone schema quiet dropped o
            (made (FirstPart schema o.end) dropped o quiet (what.Drop m.seq m.route m.number m.route ∷ []) [] (Parts.drops_unknown m sync level vs next body none) refl (sym (append-nil o.packets)) refl) (refl, refl),
      )
  request_taken-made m sync level vs (Some row) o next body found =
      let r = request_row-made m sync level row vs (take.dropped_for schema o.end row m vs) o next body found refl in
      (r.0, made-as (OwnParts schema o.end) (on_end left_end ▷ take.request_taken schema m vs row) (on_end left_end ▷ take.dropped_or_handled (take.dropped_for schema o.end row m vs) row m (nulled schema o.end.actors row.params vs)) o r.0 refl r.1)

  -- Replies

  abbrev reply_leaves : Message → Change
  reply_leaves m = on_end left_end ▷ line (what.TakeReply m.seq)

  late-made : (m : Message) (sync : Bool) (level : Level) (a : Answer) (o : Output) → take.taken_next o.end ≡ Some (item.Message m sync level) → m.body ≡ body_of a → is_settling schema o.end m ≡ false → Makes (FirstPart schema o.end) (reply_leaves m) o quiet
  late-made m sync level a o next body late = made (FirstPart schema o.end) (reply_leaves m) o quiet (what.TakeReply m.seq ∷ []) [] (Parts.takes_reply m sync level a next body late) refl (sym (append-nil o.packets)) refl

  settles-made : (m : Message) (sync : Bool) (level : Level) (row : MessageRow) (a : Answer) (b : Bool) (o : Output) → take.taken_next o.end ≡ Some (item.Message m sync level) → m.body ≡ body_of a → message_of schema m.number ≡ Some row → take.is_awaited m.seq o.end.promises ≡ b
      → Makes (FirstPart schema o.end) (reply_leaves m ▷ when b (take.settles m.seq (take.outcome_of (received schema o.end.actors row a)))) o quiet
  settles-made m sync level row a true o next body found is =
      made (FirstPart schema o.end) (reply_leaves m ▷ take.settles m.seq (take.outcome_of (received schema o.end.actors row a))) o quiet (what.TakeReply m.seq ∷ take.settle_line m.seq (take.outcome_of (received schema o.end.actors row a)) ∷ []) []
      (Parts.settles m sync level row a next body found is) (append_assoc o.lines (_ ∷ []) (_ ∷ [])) (sym (append-nil o.packets)) refl
  settles-made m sync level row a false o next body found is =
      made-as (FirstPart schema o.end) (reply_leaves m ▷ when false (take.settles m.seq (take.outcome_of (received schema o.end.actors row a)))) (reply_leaves m) o quiet refl
      (late-made m sync level a o next body (ap (λ (r : Option MessageRow). is_some r && take.is_awaited m.seq o.end.promises) found ∙ is))

  reply_taken-made : (m : Message) (sync : Bool) (level : Level) (a : Answer) (row : Option MessageRow) (o : Output) → take.taken_next o.end ≡ Some (item.Message m sync level) → m.body ≡ body_of a → message_of schema m.number ≡ row
      → Makes (FirstPart schema o.end) (reply_leaves m ▷ option_map_or (take.reply_taken schema m a) row unchanged) o quiet
  reply_taken-made m sync level a None o next body none =
      made-as (FirstPart schema o.end) (reply_leaves m ▷ unchanged) (reply_leaves m) o quiet refl (late-made m sync level a o next body (ap (λ (r : Option MessageRow). is_some r && take.is_awaited m.seq o.end.promises) none))
  reply_taken-made m sync level a (Some row) o next body found =
      made-as (FirstPart schema o.end) (reply_leaves m ▷ take.reply_taken schema m a row) (reply_leaves m ▷ when (take.is_awaited m.seq o.end.promises) (take.settles m.seq (take.outcome_of (received schema o.end.actors row a)))) o quiet refl
      (settles-made m sync level row a (take.is_awaited m.seq o.end.promises) o next body found refl)

  -- Farewells

  shuts-made : (last : Item) (o : Output) → take.taken_next o.end ≡ Some last → is_farewell last ≡ true → Makes (OwnParts schema o.end) (on_end left_end ▷ line (shut_line last) ▷ fall.closed (shut_reason last)) o (done_phase (shutting (shut_reason last)))
  shuts-made last o next is =
      let begins : Change = on_end left_end ▷ line (shut_line last) in
      let q : Phase = done_phase (shutting (shut_reason last)) in
      made-as (OwnParts schema o.end) (on_end left_end ▷ line (shut_line last) ▷ fall.closed (shut_reason last)) (begins ▷ fall.closed (shut_reason last)) o q refl
      (closed-made schema (shut_reason last) begins o (made (FirstPart schema o.end) (begins ▷ on_end shut_end) o (shutting (shut_reason last)) (shut_line last ∷ []) [] (Parts.shuts last next is) refl (sym (append-nil o.packets)) refl))

  body_taken-made : (m : Message) (sync : Bool) (level : Level) (body : Body) (o : Output) → take.taken_next o.end ≡ Some (item.Message m sync level) → m.body ≡ body
      → (q : Phase) × Makes (OwnParts schema o.end) (on_end left_end ▷ take.body_taken schema m body) o q
  body_taken-made m sync level (Request vs) o next is = request_taken-made m sync level vs (message_of schema m.number) o next is refl
  body_taken-made m sync level (Reply vs) o next is = (quiet, made-alone schema quiet (reply_leaves m ▷ option_map_or (take.reply_taken schema m (answer.Ok vs)) (message_of schema m.number) unchanged) o (reply_taken-made m sync level (answer.Ok vs) (message_of schema m.number) o next is refl) (refl, refl))
  body_taken-made m sync level (Fault r) o next is = (quiet, made-alone schema quiet (reply_leaves m ▷ option_map_or (take.reply_taken schema m (answer.Fault r)) (message_of schema m.number) unchanged) o (reply_taken-made m sync level (answer.Fault r) (message_of schema m.number) o next is refl) (refl, refl))
  body_taken-made m sync level Goodbye o next is = (done_phase (shutting (shut_reason (item.Message m sync level))), shuts-made (item.Message m sync level) o next (ap is_goodbye is))

  pub take-made : (x : Item) (o : Output) → take.taken_next o.end ≡ Some x → (q : Phase) × Makes (OwnParts schema o.end) (take.take schema x) o q
  take-made (item.Message m sync level) o next = body_taken-made m sync level m.body o next refl
  take-made item.Broken o next = (done_phase (shutting (shut_reason item.Broken)), shuts-made item.Broken o next refl)

  -- Returns

  two-answers : (q r : AnsweredRequest) (a c : Answer) (told lost b : Bool) (o : Output) → is_open o.end.state ≡ b → (when (b && told) (answering q a) ▷ when (b && lost) (answering r c)) o ≡ (when told (answered q a) ▷ when lost (answered r c)) o
  two-answers q r a c true true true o is = sym (ap (answered r c) (answered-at q a true o is) ∙ answered-at r c true (answering q a o) is)
  two-answers q r a c true true false o is = sym (ap (answered r c) (answered-at q a false o is) ∙ answered-at r c false o is)
  two-answers q r a c true false true o is = sym (answered-at q a true o is)
  two-answers q r a c true false false o is = sym (answered-at q a false o is)
  two-answers q r a c false true true o is = sym (answered-at r c true o is)
  two-answers q r a c false true false o is = sym (answered-at r c false o is)
  two-answers q r a c false false true o is = refl
  two-answers q r a c false false false o is = refl

  return-begins : (e : End) (row : MessageRow) (entry : StackEntry) (vs : Option Values) (told lost : Bool) (o : Output) → o.end ≡ e → IsReturn schema e entry row vs → told ≡ (is_open e.state && is_sync_row row) → lost ≡ (is_open e.state && entry.resolves)
      → Makes (FirstPart schema o.end) (return.popped ▷ line (what.Return (head_of entry.frame).seq) ▷ when told (answering (return.dispatch_answered entry) (return.return_answer schema e row entry vs)) ▷ when lost (answering (resolver_answered (resolver_in entry)) (answer.Fault reason.ResolverDestroyed))) o (returning row entry.route)
  return-begins e row entry vs told lost o same returns t l = by told lost t l
    where
      q : AnsweredRequest
      q = return.dispatch_answered entry

      r : AnsweredRequest
      r = resolver_answered (resolver_in entry)

      a : Answer
      a = return.return_answer schema e row entry vs

      c : Answer
      c = answer.Fault reason.ResolverDestroyed

      begins : Bool → Bool → Change
      begins told lost = return.popped ▷ line (what.Return (head_of entry.frame).seq) ▷ when told (answering q a) ▷ when lost (answering r c)

      whats : Bool → Bool → List What
      whats told lost = what.Return (head_of entry.frame).seq ∷ reply_lines told q a ++ reply_lines lost r c

      packets : Bool → Bool → List Packet
      packets told lost = reply_packets told o.end q a ++ reply_packets lost (end_after told o.end) r c

      part : (told lost : Bool) → told ≡ (is_open e.state && is_sync_row row) → lost ≡ (is_open e.state && entry.resolves) → FirstPart schema o.end (whats told lost) (packets told lost) (end_after lost (end_after told (record o.end { stack = drop 1 o.end.stack }))) (returning row entry.route)
      part told lost t l =
          subst (λ (x : End). FirstPart schema x (whats told lost) (reply_packets told x q a ++ reply_packets lost (end_after told x) r c) (end_after lost (end_after told (record x { stack = drop 1 x.stack }))) (returning row entry.route)) (sym same)
          (Parts.returns entry row vs told lost returns t l)

      by : (told lost : Bool) → told ≡ (is_open e.state && is_sync_row row) → lost ≡ (is_open e.state && entry.resolves) → Makes (FirstPart schema o.end) (begins told lost) o (returning row entry.route)
      by true true t l =
          made (FirstPart schema o.end) (begins true true) o (returning row entry.route) (whats true true) (packets true true) (part true true t l)
          (append_assoc (o.lines ++ _ ∷ []) (_ ∷ []) (_ ∷ []) ∙ append_assoc o.lines (_ ∷ []) (_ ∷ _ ∷ []))
          (put-packets (answering q a o).packets (answering q a o).end (reply_packet r c) ∙ ap (λ (ps : List Packet). ps ++ reply_packet r c ∷ []) (put-packets o.packets o.end (reply_packet q a)) ∙ append_assoc o.packets (after_outbox o.end (reply_packet q a)) (reply_packet r c ∷ [])) refl
      by true false t l =
          made (FirstPart schema o.end) (begins true false) o (returning row entry.route) (whats true false) (packets true false) (part true false t l)
          (append_assoc o.lines (_ ∷ []) (_ ∷ []))
          (put-packets o.packets o.end (reply_packet q a) ∙ ap (λ (ps : List Packet). o.packets ++ ps) (sym (append-nil (after_outbox o.end (reply_packet q a))))) refl
      by false true t l =
          made (FirstPart schema o.end) (begins false true) o (returning row entry.route) (whats false true) (packets false true) (part false true t l)
          (append_assoc o.lines (_ ∷ []) (_ ∷ [])) (put-packets o.packets o.end (reply_packet r c)) refl
      by false false t l =
          made (FirstPart schema o.end) (begins false false) o (returning row entry.route) (whats false false) (packets false false) (part false false t l) refl (sym (append-nil o.packets)) refl

  kind-deletes : (row : MessageRow) (route : ℤ) (kind : Kind) (o : Output) → row.kind ≡ kind → (q : Phase) × Makes (LaterParts (returning row route) o.end) (fall.deletes route kind) o q × IsOver q
  kind-deletes row route Normal o is = (returning row route, made-nothing (returning row route) unchanged o refl, (refl, ap (λ (k : Kind). kind_cause k route) is))
  kind-deletes row route (Constructor protocol) o is = (returning row route, made-nothing (returning row route) unchanged o refl, (refl, ap (λ (k : Kind). kind_cause k route) is))
  kind-deletes row route Delete o is = (done_phase (returning row route), deletes-made schema (returning row route) route o (ap (λ (k : Kind). kind_cause k route) is), (refl, refl))

  pub return-made : (e : End) (row : MessageRow) (entry : StackEntry) (vs : Option Values) (o : Output) → o.end ≡ e → IsReturn schema e entry row vs → (q : Phase) × Makes (OwnParts schema o.end) (return.return schema e row entry vs) o q
  return-made e row entry vs o same returns =
      let b : Bool = is_open e.state in
      let q : AnsweredRequest = return.dispatch_answered entry in
      let r : AnsweredRequest = resolver_answered (resolver_in entry) in
      let a : Answer = return.return_answer schema e row entry vs in
      let c : Answer = answer.Fault reason.ResolverDestroyed in
      let off : Output = (return.popped ▷ line (what.Return (head_of entry.frame).seq)) o in
      let begins : Change = return.popped ▷ line (what.Return (head_of entry.frame).seq) ▷ when (b && is_sync_row row) (answering q a) ▷ when (b && entry.resolves) (answering r c) in
      let rest : Change = fall.deletes entry.route row.kind in
      let phase : Phase = returning row entry.route in
      let last = kind-deletes row entry.route row.kind (begins o) refl in (
        last.0,
        made-as (OwnParts schema o.end) (return.return schema e row entry vs) (begins ▷ rest) o last.0 (ap rest (two-answers q r a c (is_sync_row row) entry.resolves b off (ap (λ (x : End). is_open x.state) same)))
            (made-begun schema phase last.0 begins rest o (return-begins e row entry vs (b && is_sync_row row) (b && entry.resolves) o same returns refl refl) last.1 last.2),
      )
