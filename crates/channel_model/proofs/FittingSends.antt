-- A request that is sent fits, and so does what it adds at its sender.
use Rattle.std.proofs.Common.{◌≡◌, ◌≢◌, ℕ, ◌+◌, ◌<◌, ◌≤◌, ℤ, pos, Bool, true, false, not, ◌&&◌, ◌||◌, ◌==◌, cond, if◌then◌else◌, List, [], ◌∷◌, ◌++◌, find, map, Option, Some, None, is_some, is_none, option_map, unwrap_or, refl, sym, ◌∙◌, arith}
use Rattle.std.specs.List.{AllByRecursion}
use Rattle.ipdl_base.specs.Deferral.{rank}
use Rattle.ipdl_base.specs.declared.kinds.Level.TheVariants.{InsideSync}
use Rattle.ipdl_base.specs.declared.kinds.SendRefusal.{SendRefusal}
use Rattle.ipdl_base.specs.declared.kinds.SendRefusal.TheVariants as refusal
use Rattle.ipdl_base.specs.declared.kinds.Semantics.{Semantics}
use Rattle.ipdl_base.specs.declared.kinds.Semantics.TheVariants.{Async, Sync}
use Rattle.ipdl_base.specs.declared.message.Body.TheVariants.{Goodbye}
use Rattle.ipdl_base.specs.declared.message.Message.{Message}
use Rattle.ipdl_base.specs.declared.schema.Kind.{Kind}
use Rattle.ipdl_base.specs.declared.schema.Kind.TheVariants.{Normal, Constructor, Delete}
use Rattle.ipdl_base.specs.declared.schema.MessageRow.{MessageRow}
use Rattle.ipdl_base.specs.declared.schema.Schema.{Schema}
use Rattle.ipdl_base.specs.declared.value.Values.{Values}
use Rattle.ipdl_base.specs.Sound.{is_sync}
use Rattle.nesting_core.specs.declared.frame.StackFrame.{StackFrame}
use Rattle.nesting_core.specs.Deferral.{transaction_of}
use Rattle.nesting_core.specs.Frames.{head_of, is_inside_sync}
use Rattle.value_types.specs.Fits.{IsFieldNumber, IsLivingId, IsTransactionOf, IsMadeBy, IsRequestOf, Fits}
use Rattle.channel_model.specs.Bounds.{IsCounted}
use Rattle.channel_model.specs.Ends.{End, message, StackEntry}
use Rattle.channel_model.specs.Fitting.{FitsEntry, FitsPromise, IsFitting, FitsPacket}
use Rattle.ipdl_base.specs.Sides.{sends}
use Rattle.channel_model.specs.Numbers.{protocol_of, is_sync_row, is_constructor, makes_promise}
use Rattle.channel_model.specs.Outputs.{is_open}
use Rattle.channel_model.specs.Parts.{IsSent, outbox_after, request_packets, promise_for, sent_end}
use Rattle.channel_model.specs.Phases.{fresh_of}
use Rattle.channel_model.specs.Sends as send
use Rattle.channel_model.specs.Typed.{have_types}
use Rattle.channel_model.specs.ValueActors.{lives_as, has_dead}
use Rattle.channel_model.proofs.FittingEnds.{following-packets, kept-async}
use Rattle.channel_model.proofs.FittingRequests.{request-kept}
use Rattle.channel_model.proofs.FittingValues.{seq-fits, id-lives, lives-fits, values-carried, values-typed}
use Rattle.channel_model.proofs.Known.{all-append}
use Rattle.channel_model.proofs.SendParts.{passed-first, lives-as, request-number}
use Rattle.channel_model.proofs.Tests.{and-left, and-right}

-- Transactions

-- a transaction that a sync message may have
abbrev IsOne : ℤ → Type 0
IsOne t = (t ≢ pos 0) × IsFieldNumber t

sync-transaction : (s : Semantics) (t : ℤ) → is_sync s ≡ true → IsTransactionOf s t → IsOne t
sync-transaction Sync t e h = h
sync-transaction Async t e h = cc

-- the transaction that a sync request gets
inner-fits : (schema : Schema) (seq : ℤ) (stack : List StackEntry) → IsOne seq → AllByRecursion (FitsEntry schema) stack → IsOne (transaction_of (map (λ (entry : StackEntry). entry.frame) stack) seq)
inner-fits schema seq [] k h = k
inner-fits schema seq (entry ∷ stack) k h = by (head_of entry.frame).sync (rank (head_of entry.frame).level == rank InsideSync) refl (inner-fits schema seq stack k h.1)
  where
    rest : List StackFrame
    rest = map (λ (entry : StackEntry). entry.frame) stack

    by : (b c : Bool) → (head_of entry.frame).sync ≡ b → IsOne (transaction_of rest seq) → IsOne (unwrap_or (option_map (λ head. head.transaction) (option_map head_of (cond (b && c) (Some entry.frame) (find is_inside_sync rest)))) seq)
    by true true is r = sync-transaction h.0.row.semantics (head_of entry.frame).transaction (sym h.0.sync ∙ is) (h.0.request.fields Goodbye).transaction
    by true false is r = r
    by false c is r = r

next-transaction : (s : Semantics) (t : ℤ) → IsOne t → IsTransactionOf s (if is_sync s then t else pos 0)
next-transaction Sync t h = h
next-transaction Async t h = refl

-- Ids

made-fits : (e : End) (kind : Kind) → e.constructors_sent ≤ e.sent → e.sent < 268435456 → IsMadeBy kind (send.next_made e kind)
made-fits e Normal few low = refl
made-fits e (Constructor p) few low = id-lives e.side (e.constructors_sent + 1) (omega arith) (omega arith)
made-fits e Delete few low = refl

fresh-fits : (kind : Kind) (made : ℤ) → IsMadeBy kind made → AllByRecursion IsLivingId (if is_constructor kind then made ∷ [] else [])
fresh-fits Normal made h = tt
fresh-fits (Constructor p) made h = (h, tt)
fresh-fits Delete made h = tt

-- the new id of a request that fits is positive
pub request-fresh : (row : MessageRow) (m : Message) → IsMadeBy row.kind m.made → AllByRecursion IsLivingId (fresh_of row m)
request-fresh row m h = fresh-fits row.kind m.made h

-- Refusals

pub accepted-values : (large dead : Bool) → send.value_refusal large dead ≡ None → dead ≡ false
accepted-values true dead e = cc
accepted-values false true e = cc
accepted-values false false e = refl

not-refused : (stack rest : Option SendRefusal) → (if is_some stack then stack else rest) ≡ None → rest ≡ None
not-refused None rest e = e
not-refused (Some cause) rest e = cc

-- The request

module _ (schema : Schema) (e : End) (row : MessageRow) (route : ℤ) (vs : Values) (name : Option (List ℕ)) (sent : IsSent schema e row route vs name) (counted : IsCounted e) (few : e.sent < 268435456) (h : IsFitting schema e) where
  is-one : IsOne (send.next_seq e)
  is-one = seq-fits e.side (e.sent + 1) (omega arith) (omega arith)

  -- what the tests of a send have passed
  record Passed : Type 0 where
    carried : row.carried ≡ true
    typed : have_types schema row.params vs ≡ true
    alive : lives_as e.actors (protocol_of row.number) route ≡ true
    values : has_dead schema e.actors row.params vs ≡ false

  passed : Passed
  passed =
      let way : Bool = sends e.side row.direction in
      let typed : Bool = have_types schema row.params vs in
      let named : Bool = is_none name || is_constructor row.kind in
      let after : row.carried && (way && (typed && named)) ≡ true = and-right (send.may_act e) (row.carried && (way && (typed && named))) sent.may in
      let rest : way && (typed && named) ≡ true = and-right row.carried (way && (typed && named)) after in
      let opened = passed-first (is_open e.state) refusal.Closed (if not (lives_as e.actors (protocol_of row.number) route) then Some refusal.DeadActor else (if is_some (send.stack_refusal e row) then send.stack_refusal e row else send.send_value_refusal schema e row route vs)) sent.accepted in
      let alive = passed-first (lives_as e.actors (protocol_of row.number) route) refusal.DeadActor (if is_some (send.stack_refusal e row) then send.stack_refusal e row else send.send_value_refusal schema e row route vs) opened.1 in
      record {
        carried = and-left row.carried (way && (typed && named)) after;
        typed = and-left typed named (and-right way (typed && named) rest);
        alive = alive.0;
        values = accepted-values (send.is_too_large schema (send.request_of e row route vs)) (has_dead schema e.actors row.params vs) (not-refused (send.stack_refusal e row) (send.send_value_refusal schema e row route vs) alive.1);
      }

  made : IsMadeBy row.kind (send.next_made e row.kind)
  made = made-fits e row.kind counted.constructors few

  is-request : IsRequestOf schema row (send.request_of e row route vs) vs
  is-request = record {
    found = (request-number schema row.number row sent.found).1;
    number = refl;
    fields = record {
      carried = passed.carried;
      route = lives-fits e.actors h.actors route (lives-as e.actors (protocol_of row.number) route passed.alive);
      seq = is-one;
      transaction = next-transaction row.semantics (transaction_of (send.frames_of e) (send.next_seq e)) (inner-fits schema (send.next_seq e) e.stack is-one h.stack);
    };
    made = made;
    types = values-typed schema row.params vs passed.typed;
    ids = values-carried e.actors h.actors schema row.params vs passed.typed passed.values;
  }

  pub sent-fits : Fits schema (send.request_of e row route vs)
  sent-fits = (row, is-request)

  pub sent-fresh : AllByRecursion IsLivingId (fresh_of row (send.request_of e row route vs))
  sent-fresh = request-fresh row (send.request_of e row route vs) made

  sent-packets_by : (lazy : Bool) → AllByRecursion (FitsPacket schema) (request_packets lazy e (send.request_of e row route vs))
  sent-packets_by true = tt
  sent-packets_by false = following-packets schema e (message (send.request_of e row route vs)) sent-fits h

  pub sent-packets : AllByRecursion (FitsPacket schema) (request_packets row.lazy e (send.request_of e row route vs))
  sent-packets = sent-packets_by row.lazy

  -- The end after it

  outbox-fits : (lazy : Bool) → AllByRecursion (Fits schema) (outbox_after lazy (send.request_of e row route vs) e.outbox)
  outbox-fits true = all-append (Fits schema) e.outbox (send.request_of e row route vs ∷ []) h.outbox (sent-fits, tt)
  outbox-fits false = tt

  wait-fits : is_sync_row row ≡ true → FitsEntry schema (send.wait_for row (send.request_of e row route vs))
  wait-fits sync = record { row = row; request = request-kept schema row (send.request_of e row route vs) vs is-request; sync = sym sync; level = refl; resolves = λ e. cc; frame = sync }

  stack-fits : (b : Bool) → is_sync_row row ≡ b → AllByRecursion (FitsEntry schema) (cond b (send.wait_for row (send.request_of e row route vs) ∷ e.stack) e.stack)
  stack-fits true is = (wait-fits is, h.stack)
  stack-fits false is = h.stack

  promises-fit : (b : Bool) → makes_promise row ≡ b → AllByRecursion (FitsPromise schema) (cond b (e.promises ++ promise_for (send.request_of e row route vs) ∷ []) e.promises)
  promises-fit true is =
      let r : Message = send.request_of e row route vs in
      all-append (FitsPromise schema) e.promises (promise_for r ∷ []) h.promises (kept-async schema row r.seq r.route r.transaction r.number is (request-kept schema row r vs is-request), tt)
  promises-fit false is = h.promises

  pub sent-end : IsFitting schema (sent_end row (send.request_of e row route vs) e)
  sent-end = record {
    actors = h.actors;
    arrived = h.arrived;
    stack = stack-fits (is_sync_row row) refl;
    promises = promises-fit (makes_promise row) refl;
    names = h.names;
    outbox = outbox-fits row.lazy;
  }
