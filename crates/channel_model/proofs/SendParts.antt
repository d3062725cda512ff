-- Sends as parts.
use Rattle.std.proofs.Common.{◌≡◌, ◌==◌, ℕ, ◌+◌, ℤ, Bool, true, false, not, cond, if◌then◌else◌, List, [], ◌∷◌, ◌++◌, Option, Some, None, option_and_then, is_some, refl, sym, ap, ◌∙◌}
use Rattle.std.specs.Option.{option_map_or}
use Rattle.std.proofs.lemmas.Bool.{eqb-true}
use Rattle.std.proofs.lemmas.List.{append-nil}
use Rattle.std.proofs.lemmas.Option.{same_Some}
use Rattle.actor_tree.specs.declared.actor.Actor.{Actor}
use Rattle.actor_tree.specs.Tree.{actor_of, lives}
use Rattle.ipdl_base.specs.declared.kinds.SendRefusal.{SendRefusal}
use Rattle.ipdl_base.specs.declared.kinds.SendRefusal.TheVariants as refusal
use Rattle.ipdl_base.specs.declared.line.What.{What}
use Rattle.ipdl_base.specs.declared.line.What.TheVariants as what
use Rattle.ipdl_base.specs.declared.message.Message.{Message}
use Rattle.ipdl_base.specs.declared.schema.Kind.{Kind}
use Rattle.ipdl_base.specs.declared.schema.Kind.TheVariants.{Normal, Constructor, Delete}
use Rattle.ipdl_base.specs.declared.schema.MessageRow.{MessageRow}
use Rattle.ipdl_base.specs.declared.schema.Schema.{Schema}
use Rattle.ipdl_base.specs.declared.value.Values.{Values}
use Rattle.ipdl_base.specs.Sound.{message_of}
use Rattle.channel_model.specs.Ends.{End, message}
use Rattle.channel_model.specs.Falls as fall
use Rattle.channel_model.specs.Numbers.{counting, protocol_of, is_sync_row, makes_promise, request_row, is_constructor}
use Rattle.channel_model.specs.Outputs.{Output, Change, ◌▷◌, beginning, when, on_end, line, is_open}
use Rattle.channel_model.specs.Parts
use Rattle.channel_model.specs.Parts.{FirstPart, IsBuilt, LaterParts, OwnParts, IsSent, sent_end, outbox_after, request_packets, promise_for}
use Rattle.channel_model.specs.Phases.{Phase, manager_of, kind_cause, fresh_of, quiet, sending, IsOver}
use Rattle.channel_model.specs.Sends as send
use Rattle.channel_model.specs.ValueActors.{lives_as}
use Rattle.channel_model.proofs.Made.{Makes, made-at, made-as, made-later, made-joined, made-begun, made-alone}
use Rattle.channel_model.proofs.NameParts.{put-packets, refusal-made, done_phase, renamed_phase, names_actor-made, names_actor-actors, deletes-made}

-- Tests

pub passed-first : {A : Type 0} (a : Bool) (x : A) (rest : Option A) → cond (not a) (Some x) rest ≡ None → (a ≡ true) × (rest ≡ None)
passed-first true x rest e = (refl, e)
passed-first false x rest e = cc

lives-found : (protocol : ℕ) (found : Option Actor) → option_map_or (λ (a : Actor). a.protocol == protocol) found false ≡ true → is_some found ≡ true
lives-found protocol None e = cc
lives-found protocol (Some a) e = refl

-- an actor that lives as one of a protocol lives
pub lives-as : (actors : List Actor) (protocol : ℕ) (id : ℤ) → lives_as actors protocol id ≡ true → lives id actors ≡ true
lives-as actors protocol id e = lives-found protocol (actor_of id actors) e

-- the row of a request's number has that number
pub request-number : (schema : Schema) (n : ℕ) (row : MessageRow) → request_row schema n ≡ Some row → (row.number ≡ n) × (message_of schema n ≡ Some row)
request-number schema n row found = by (message_of schema n) found
  where
    kept : (r : MessageRow) (b : Bool) → (r.number == n) ≡ b → cond b (Some r) None ≡ Some row → (row.number ≡ n) × (Some r ≡ Some row)
    kept r true is e = let same : r ≡ row = same_Some r row e in (ap (λ (x : MessageRow). x.number) (sym same) ∙ eqb-true r.number n is, e)
    kept r false is e = cc

    by : (m : Option MessageRow) → option_and_then (λ (r : MessageRow). cond (r.number == n) (Some r) None) m ≡ Some row → (row.number ≡ n) × (m ≡ Some row)
    by None e = cc
    by (Some r) e = kept r (r.number == n) refl e

-- A request that is sent, up to its wait and its promise

abbrev request_sent : Bool → Bool → Bool → MessageRow → Message → What → Change
request_sent lazy sync wants row m w =
    line w
    ▷ on_end (λ e. record e { sent = e.sent + 1; constructors_sent = counting row.kind e.constructors_sent })
    ▷ send.posted_by lazy m
    ▷ when sync (on_end (λ e. record e { stack = send.wait_for row m ∷ e.stack }))
    ▷ when wants (on_end (λ e. record e { promises = e.promises ++ promise_for m ∷ [] }))

abbrev request_end : Bool → Bool → Bool → MessageRow → Message → End → End
request_end lazy sync wants row m e = record e {
  sent = e.sent + 1;
  constructors_sent = counting row.kind e.constructors_sent;
  outbox = outbox_after lazy m e.outbox;
  stack = cond sync (send.wait_for row m ∷ e.stack) e.stack;
  promises = cond wants (e.promises ++ promise_for m ∷ []) e.promises;
}

-- What a request makes, its end, its lines and its packets.
record Sends (lazy sync wants : Bool) (row : MessageRow) (m : Message) (w : What) (o : Output) : Type 0 where
  end_is : (request_sent lazy sync wants row m w o).end ≡ request_end lazy sync wants row m o.end
  lines_are : (request_sent lazy sync wants row m w o).lines ≡ (line w o).lines
  packets_are : (request_sent lazy sync wants row m w o).packets ≡ o.packets ++ request_packets lazy o.end m

request-sends : (lazy sync wants : Bool) (row : MessageRow) (m : Message) (w : What) (o : Output) → Sends lazy sync wants row m w o
request-sends true true true row m w o = record { end_is = refl; lines_are = refl; packets_are = sym (append-nil o.packets) }
request-sends true true false row m w o = record { end_is = refl; lines_are = refl; packets_are = sym (append-nil o.packets) }
request-sends true false true row m w o = record { end_is = refl; lines_are = refl; packets_are = sym (append-nil o.packets) }
request-sends true false false row m w o = record { end_is = refl; lines_are = refl; packets_are = sym (append-nil o.packets) }
request-sends false true true row m w o = record { end_is = refl; lines_are = refl; packets_are = put-packets o.packets o.end (message m) }
request-sends false true false row m w o = record { end_is = refl; lines_are = refl; packets_are = put-packets o.packets o.end (message m) }
request-sends false false true row m w o = record { end_is = refl; lines_are = refl; packets_are = put-packets o.packets o.end (message m) }
request-sends false false false row m w o = record { end_is = refl; lines_are = refl; packets_are = put-packets o.packets o.end (message m) }

-- an actor is built
pub builds-made : (p : Phase) (id : ℤ) (protocol : ℕ) (o : Output) → p.fresh ≡ id ∷ [] → IsBuilt p o.end protocol → Makes (LaterParts p o.end) (send.built id protocol (manager_of p.start)) o (record p { fresh = [] })
builds-made p id protocol o fresh built =
    made-later p (record p { fresh = [] }) (send.built id protocol (manager_of p.start)) o (what.Built id protocol ∷ []) [] (Parts.builds id protocol [] fresh built) refl (sym (append-nil o.packets)) refl

-- no other kind makes an actor
pub fresh-none : (row : MessageRow) (m : Message) (kind : Kind) → row.kind ≡ kind → is_constructor kind ≡ false → fresh_of row m ≡ []
fresh-none row m kind is none = ap (λ (k : Kind). if is_constructor k then m.made ∷ [] else []) is ∙ ap (λ (b : Bool). if b then m.made ∷ [] else []) none

-- the id of a constructor
pub fresh-is : (row : MessageRow) (m : Message) (protocol : ℕ) → row.kind ≡ Constructor protocol → fresh_of row m ≡ m.made ∷ []
fresh-is row m protocol is = ap (λ (k : Kind). if is_constructor k then m.made ∷ [] else []) is

module _ (schema : Schema) where
  request-made : (e : End) (row : MessageRow) (route : ℤ) (vs : Values) (name : Option (List ℕ)) → IsSent schema e row route vs name
      → Makes (FirstPart schema e) (request_sent row.lazy (is_sync_row row) (makes_promise row) row (send.request_of e row route vs) (send.send_line row (send.request_of e row route vs) vs)) (beginning e) (sending row (send.request_of e row route vs))
  request-made e row route vs name sent =
      let m : Message = send.request_of e row route vs in
      let w : What = send.send_line row m vs in
      let s : Sends row.lazy (is_sync_row row) (makes_promise row) row m w (beginning e) = request-sends row.lazy (is_sync_row row) (makes_promise row) row m w (beginning e) in
      made-at (FirstPart schema e) (request_sent row.lazy (is_sync_row row) (makes_promise row) row m w) (beginning e) (sending row m) (w ∷ []) (request_packets row.lazy e m) (sent_end row m e) (Parts.sends row route vs name sent) s.end_is s.lines_are s.packets_are refl

  -- the rest of the step for a request of a kind
  finish : (row : MessageRow) (m : Message) (name : Option (List ℕ)) (kind : Kind) (o : Output) → row.kind ≡ kind → lives m.route o.end.actors ≡ true
      → (q : Phase) × Makes (LaterParts (sending row m) o.end) (send.names_actor m.made name ▷ send.constructs m.made m.route kind ▷ fall.deletes m.route kind) o q × IsOver q
  finish row m name Normal o is alive =
      let p : Phase = sending row m in
      let n = names_actor-made p m.made name o refl in
      let r : Phase = renamed_phase n.0 p in
      (r, made-as (LaterParts p o.end) (send.names_actor m.made name ▷ send.constructs m.made m.route Normal ▷ fall.deletes m.route Normal) (send.names_actor m.made name) o r refl n.1, (fresh-none row m Normal is refl, ap (λ (k : Kind). kind_cause k m.route) is))
  finish row m name (Constructor protocol) o is alive =
      let p : Phase = sending row m in
      let n = names_actor-made p m.made name o refl in
      let r : Phase = renamed_phase n.0 p in
      let q : Phase = record r { fresh = [] } in
      let named : Output = send.names_actor m.made name o in (
        q,
        made-as (LaterParts p o.end) (send.names_actor m.made name ▷ send.constructs m.made m.route (Constructor protocol) ▷ fall.deletes m.route (Constructor protocol)) (send.names_actor m.made name ▷ send.built m.made protocol m.route) o q refl
            (made-joined p r q (send.names_actor m.made name) (send.built m.made protocol m.route) o n.1
            (builds-made r m.made protocol named (fresh-is row m protocol is) (record { alive = ap (λ (living : List Actor). lives m.route living) (names_actor-actors m.made name o) ∙ alive; made = is }))),
        (refl, ap (λ (k : Kind). kind_cause k m.route) is),
      )
  finish row m name Delete o is alive =
      let p : Phase = sending row m in
      let n = names_actor-made p m.made name o refl in
      let r : Phase = renamed_phase n.0 p in
      let q : Phase = done_phase r in (
        q,
        made-as (LaterParts p o.end) (send.names_actor m.made name ▷ send.constructs m.made m.route Delete ▷ fall.deletes m.route Delete) (send.names_actor m.made name ▷ fall.deleted m.route) o q refl
            (made-joined p r q (send.names_actor m.made name) (fall.deleted m.route) o n.1
            (deletes-made schema r m.route (send.names_actor m.made name o) (ap (λ (k : Kind). kind_cause k m.route) is))),
        (fresh-none row m Delete is refl, refl),
      )

  pub send-made : (e : End) (row : MessageRow) (route : ℤ) (vs : Values) (name : Option (List ℕ)) (cause : Option SendRefusal) → request_row schema row.number ≡ Some row → send.may_send schema e row vs name ≡ true → send.send_refusal schema e row route vs ≡ cause
      → (q : Phase) × Makes (OwnParts schema e) (send.sent_unless cause row (send.request_of e row route vs) vs name) (beginning e) q
  send-made e row route vs name (Some cause) found may is =
      (quiet, made-alone schema quiet (line (what.RefusedSend cause row.number)) (beginning e) (refusal-made schema (what.RefusedSend cause row.number) (beginning e) (row, found)) (refl, refl))
  send-made e row route vs name None found may is =
      let m : Message = send.request_of e row route vs in
      let begins : Change = request_sent row.lazy (is_sync_row row) (makes_promise row) row m (send.send_line row m vs) in
      let rest : Change = send.names_actor m.made name ▷ send.constructs m.made m.route row.kind ▷ fall.deletes m.route row.kind in
      let opened = passed-first (is_open e.state) refusal.Closed (if not (lives_as e.actors (protocol_of row.number) route) then Some refusal.DeadActor else (if is_some (send.stack_refusal e row) then send.stack_refusal e row else send.send_value_refusal schema e row route vs)) is in
      let alive = passed-first (lives_as e.actors (protocol_of row.number) route) refusal.DeadActor (if is_some (send.stack_refusal e row) then send.stack_refusal e row else send.send_value_refusal schema e row route vs) opened.1 in
      let sent : IsSent schema e row route vs name = record { found = found; may = may; accepted = is } in
      let end_is : (begins (beginning e)).end ≡ sent_end row m e = (request-sends row.lazy (is_sync_row row) (makes_promise row) row m (send.send_line row m vs) (beginning e)).end_is in
      let r = finish row m name row.kind (begins (beginning e)) refl (ap (λ (x : End). lives m.route x.actors) end_is ∙ lives-as e.actors (protocol_of row.number) route alive.0) in
      (r.0, made-as (OwnParts schema e) (send.sent_unless None row m vs name) (begins ▷ rest) (beginning e) r.0 refl (made-begun schema (sending row m) r.0 begins rest (beginning e) (request-made e row route vs name sent) r.1 r.2))
