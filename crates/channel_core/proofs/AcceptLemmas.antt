-- What is known of a request before it is sent, and of one that nothing refuses.
use Rattle.std.proofs.Common.{◌≡◌, ◌≢◌, ℕ, ℤ, pos, ◌<◌, Bool, true, false, not, ◌&&◌, ◌||◌, if◌then◌else◌, List, [], ◌∷◌, map, length, Option, Some, None, is_some, is_none, refl, ap, sym, subst, ◌∙◌, arith}
use Rattle.std.specs.List.{AllByRecursion}
use Rattle.std.specs.Option.{option_and_then, option_map_or}
use Rattle.std.proofs.lemmas.List.{length-map}
use Rattle.ipdl_base.specs.declared.kinds.SendRefusal.{SendRefusal}
use Rattle.ipdl_base.specs.declared.kinds.SendRefusal.TheVariants as refusal
use Rattle.ipdl_base.specs.declared.line.What.TheVariants as what
use Rattle.ipdl_base.specs.declared.message.Message.{Message}
use Rattle.ipdl_base.specs.declared.schema.MessageRow.{MessageRow}
use Rattle.ipdl_base.specs.declared.schema.Schema.{Schema}
use Rattle.ipdl_base.specs.declared.value.Values.{Values}
use Rattle.ipdl_base.specs.Plain.{plain_values, plain_message}
use Rattle.ipdl_base.specs.Sound.{IsSound, message_of}
use Rattle.nesting_core.specs.declared.frame.SendHead.{SendHead}
use Rattle.nesting_core.specs.Refusals.{refusal_of}
use Rattle.nesting_core.proofs.RefusalLemmas.{room_for_wait}
use Rattle.value_types.specs.declared.layout.TheConstants.{NEW}
use Rattle.value_types.specs.Fits.{Fits}
use Rattle.value_types.specs.Sizes.{payload_size}
use Rattle.value_types.proofs.Boxes.{body_size-plain}
use Rattle.channel_model.specs.Ends.{End, StackEntry, PromiseEntry}
use Rattle.channel_model.specs.Events as event
use Rattle.ipdl_base.specs.Sides.{sends}
use Rattle.channel_model.specs.Numbers.{request_row, protocol_of, is_sync_row, is_constructor}
use Rattle.channel_model.specs.Outputs.{beginning, line, is_open}
use Rattle.channel_model.specs.Parts.{IsSent}
use Rattle.channel_model.specs.Requests.{promise_seq}
use Rattle.channel_model.specs.Sends.{may_act, may_send, send, send_refusal, send_value_refusal, stack_refusal, sent_unless, sent, request_of, next_seq, next_made, frames_of}
use Rattle.channel_model.specs.Steps.{step, provided}
use Rattle.channel_model.specs.Typed.{have_types}
use Rattle.channel_model.specs.ValueActors.{lives_as}
use Rattle.channel_model.proofs.FittingRequests.{same-row}
use Rattle.channel_model.proofs.FittingSends.{sent-fits}
use Rattle.channel_model.proofs.Numbered.{next_number_is_free}
use Rattle.channel_model.proofs.PlainValues.{plain_forms_commute}
use Rattle.channel_model.proofs.SendParts.{passed-first, request-number}
use Rattle.channel_model.proofs.SoundRows.{IsAt, row-at}
use Rattle.channel_model.proofs.Tests.{and-right}
use Rattle.end_parts.specs.OutputView.{OutputView}
use Rattle.end_steps.specs.Refusals.{send_refusal_by}
use Rattle.channel_core.specs.Answers.{SendGives, refusal_of_send, made_by_send}
use Rattle.channel_core.specs.declared.answers.SendAnswer.TheVariants.{Sent}
use Rattle.channel_core.specs.Inside.{IsKept}
use Rattle.channel_core.specs.EndView.{EndView}
use Rattle.channel_core.specs.Sending.{IsAccepted}
use Rattle.channel_core.specs.Steps.{MaySend}
use Rattle.channel_core.proofs.MadeLemmas.{Made, seen_as, made_step}

-- Sends that are refused

-- the step of a refused send is its line
pub refuse_steps : (v : EndView) (route : ℤ) (number : ℕ) (vs : Values) (name : Option (List ℕ)) (cause : SendRefusal) → (may : MaySend v number vs name) → refusal_of_send v route number vs ≡ Some cause
    → step v.schema v.end [] (event.send route number vs name) ≡ Some (line (what.RefusedSend cause may.row.number) (beginning v.end))
unfolding refusal_of_send
refuse_steps v route number vs name cause may refused =
    let cause_is : send_refusal v.schema v.end may.row route vs ≡ Some cause = ap (λ (r : Option MessageRow). option_and_then (λ row. send_refusal v.schema v.end row route vs) r) (sym may.found) ∙ refused in
    ap (λ (r : Option MessageRow). option_and_then (λ row. provided (may_send v.schema v.end row vs name) (send v.schema v.end row route vs name) v.end) r) may.found
    ∙ ap (λ (b : Bool). provided b (send v.schema v.end may.row route vs name) v.end) may.may
    ∙ ap (λ (r : Option SendRefusal). Some (sent_unless r may.row (request_of v.end may.row route vs) vs name (beginning v.end))) cause_is

-- why a send is refused, as the code finds it
pub refused_so : (schema : Schema) (e : End) (row : MessageRow) (route : ℤ) (vs : Values) (m : Message) → plain_message m ≡ request_of e row route (plain_values vs)
    → send_refusal_by (is_open e.state) schema e.actors (frames_of e) row m vs ≡ send_refusal schema e row route (plain_values vs)
refused_so schema e row route vs m is =
    let size : payload_size NEW schema m ≡ payload_size NEW schema (request_of e row route (plain_values vs)) = sym (body_size-plain NEW schema (message_of schema m.number) m.body) ∙ ap (payload_size NEW schema) is in
    let to : m.route ≡ route = ap (λ (x : Message). x.route) is in
    rw (to, size, sym (plain_forms_commute.has_dead schema e.actors row.params vs)) refl

-- the row of a message whose number is that of a request
pub row_is : (v : EndView) (number : ℕ) (vs : Values) (name : Option (List ℕ)) (row : MessageRow) → (may : MaySend v number vs name) → message_of v.schema number ≡ Some row → may.row ≡ row
row_is v number vs name row may found = same-row v.schema number may.row row (request-number v.schema number may.row may.found).1 found

pub refusal_at : (v : EndView) (route : ℤ) (number : ℕ) (vs : Values) (row : MessageRow) → request_row v.schema number ≡ Some row → refusal_of_send v route number vs ≡ send_refusal v.schema v.end row route vs
unfolding refusal_of_send
refusal_at v route number vs row found = ap (λ (r : Option MessageRow). option_and_then (λ row. send_refusal v.schema v.end row route vs) r) found

-- Sends that are not

pub accepts : (v : EndView) (number : ℕ) (vs : Values) (name : Option (List ℕ)) (row : MessageRow) (m : Message) → (may : MaySend v number vs name) → message_of v.schema number ≡ Some row → send_refusal v.schema v.end row m.route vs ≡ None → m ≡ request_of v.end row m.route vs → v.end.sent < 268435456
    → IsAccepted v row m vs name
accepts v number vs name row m may found free is few =
    let same : may.row ≡ row = row_is v number vs name row may found in
    let n : may.row.number ≡ number = (request-number v.schema number may.row may.found).0 in
    let at : request_row v.schema may.row.number ≡ Some may.row = ap (request_row v.schema) n ∙ may.found in
    record {
      found = subst (λ (r : MessageRow). request_row v.schema r.number ≡ Some r) same at;
      may = ap (λ (r : MessageRow). may_send v.schema v.end r vs name) (sym same) ∙ may.may;
      free = free;
      is = is;
      few = few;
    }

module _ (v : EndView) (row : MessageRow) (m : Message) (vs : Values) (name : Option (List ℕ)) (a : IsAccepted v row m vs name) where
  opened : (is_open v.end.state ≡ true) × ((if not (lives_as v.end.actors (protocol_of row.number) m.route) then Some refusal.DeadActor else (if is_some (stack_refusal v.end row) then stack_refusal v.end row else send_value_refusal v.schema v.end row m.route vs)) ≡ None)
  opened = passed-first (is_open v.end.state) refusal.Closed (if not (lives_as v.end.actors (protocol_of row.number) m.route) then Some refusal.DeadActor else (if is_some (stack_refusal v.end row) then stack_refusal v.end row else send_value_refusal v.schema v.end row m.route vs)) a.free

  addressed : (lives_as v.end.actors (protocol_of row.number) m.route ≡ true) × ((if is_some (stack_refusal v.end row) then stack_refusal v.end row else send_value_refusal v.schema v.end row m.route vs) ≡ None)
  addressed = passed-first (lives_as v.end.actors (protocol_of row.number) m.route) refusal.DeadActor (if is_some (stack_refusal v.end row) then stack_refusal v.end row else send_value_refusal v.schema v.end row m.route vs) opened.1

  -- the end is open
  pub sent_open : is_open v.end.state ≡ true
  sent_open = opened.0

  -- the actor that it goes to lives
  pub sent_alive : lives_as v.end.actors (protocol_of row.number) m.route ≡ true
  sent_alive = addressed.0

  stack_free : (r rest : Option SendRefusal) → (if is_some r then r else rest) ≡ None → r ≡ None
  stack_free None rest h = refl
  stack_free (Some cause) rest h = cc

  -- there is room for the wait of a sync one
  pub wait_room : is_sync_row row ≡ true → length v.end.stack < 63
  wait_room sync =
      let head : SendHead = record { sync = is_sync_row row; level = row.level } in
      let few : length (frames_of v.end) < 63 = room_for_wait (frames_of v.end) head sync (stack_free (refusal_of (frames_of v.end) head) (send_value_refusal v.schema v.end row m.route vs) addressed.1) in
      let same : length (frames_of v.end) ≡ length v.end.stack = length-map v.end.stack (λ (entry : StackEntry). entry.frame) in
      omega (arith, few, same)

  -- no promise has its number
  free_in : (n : ℤ) (es : List PromiseEntry) → AllByRecursion (λ (seq : ℤ). seq ≢ n) (map promise_seq es) → AllByRecursion (λ (e : PromiseEntry). e.promise.seq ≢ n) es
  free_in n [] h = tt
  free_in n (e ∷ es) h = (h.0, free_in n es h.1)

  pub number_free : IsKept v.schema v.end → AllByRecursion (λ (x : PromiseEntry). x.promise.seq ≢ m.seq) v.end.promises
  number_free kept =
      let next : m.seq ≡ next_seq v.end = ap (λ (x : Message). x.seq) a.is in
      rw next (free_in (next_seq v.end) v.end.promises (next_number_is_free v.end kept.numbered))

  is_sent : IsSent v.schema v.end row m.route vs name
  is_sent = record { found = a.found; may = a.may; accepted = a.free }

  -- it fits the schema
  pub request_fits : IsKept v.schema v.end → Fits v.schema m
  request_fits kept = subst (Fits v.schema) (sym a.is) (sent-fits v.schema v.end row m.route vs name is_sent kept.counted a.few kept.fitting)

  -- its row is sound
  pub row_sound : IsSound v.schema → IsAt v.schema row.number row
  row_sound sound = row-at v.schema sound row.number row (request-number v.schema row.number row a.found).1 refl

  one_of : (b c : Bool) → b || c ≡ true → c ≡ false → b ≡ true
  one_of true c h n = refl
  one_of false true h n = cc
  one_of false false h n = cc

  none_at : (found : Option (List ℕ)) → is_none found ≡ true → found ≡ None
  none_at None h = refl
  none_at (Some n) h = cc

  -- only a constructor has a name
  pub no_name : is_constructor row.kind ≡ false → name ≡ None
  no_name other =
      let named : Bool = is_none name || is_constructor row.kind in
      let typed : Bool = have_types v.schema row.params vs in
      let way : Bool = sends v.end.side row.direction in
      none_at name (one_of (is_none name) (is_constructor row.kind) (and-right typed named (and-right way (typed && named) (and-right row.carried (way && (typed && named)) (and-right (may_act v.end) (row.carried && (way && (typed && named))) a.may)))) other)

  -- its step
  pub send_steps : step v.schema v.end [] (event.send m.route row.number vs name) ≡ Some (sent row m vs name (beginning v.end))
  send_steps =
      ap (λ (r : Option MessageRow). option_and_then (λ row. provided (may_send v.schema v.end row vs name) (send v.schema v.end row m.route vs name) v.end) r) a.found
      ∙ ap (λ (b : Bool). provided b (send v.schema v.end row m.route vs name) v.end) a.may
      ∙ ap (λ (r : Option SendRefusal). Some (sent_unless r row (request_of v.end row m.route vs) vs name (beginning v.end))) a.free
      ∙ ap (λ (x : Message). Some (sent row x vs name (beginning v.end))) (sym a.is)

  made_at : made_by_send v row.number ≡ next_made v.end row.kind
  unfolding made_by_send
  made_at = ap (λ (r : Option MessageRow). option_map_or (λ row. next_made v.end row.kind) r (pos 0)) a.found

  -- what is answered when it was sent
  pub sent_gives : (e : End) (out : OutputView) (seq made : ℤ) → seq ≡ m.seq → made ≡ m.made → Made v [] (event.send m.route row.number vs name) e out → SendGives v m.route row.number vs name (Sent seq made) (seen_as v e out)
  sent_gives e out seq made s n done = (
    refusal_at v m.route row.number vs row a.found ∙ a.free,
    s ∙ ap (λ (x : Message). x.seq) a.is,
    n ∙ ap (λ (x : Message). x.made) a.is ∙ sym made_at,
    made_step v [] (event.send m.route row.number vs name) e out done,
  )
