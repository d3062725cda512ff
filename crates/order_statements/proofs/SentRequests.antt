-- A line of a send or a call is that of a send that was not refused.
use Rattle.std.proofs.Common.{◌≡◌, ℕ, ℤ, Bool, true, false, not, if◌then◌else◌, List, [], ◌∷◌, map, Option, Some, None, is_some, refl, sym, ap, subst, ◌∙◌}
use Rattle.actor_tree.specs.Tree as tree
use Rattle.ipdl_base.specs.declared.kinds.SendRefusal.{SendRefusal}
use Rattle.ipdl_base.specs.declared.kinds.SendRefusal.TheVariants as refusal
use Rattle.ipdl_base.specs.declared.kinds.Side.{Side}
use Rattle.ipdl_base.specs.declared.line.What.{What}
use Rattle.ipdl_base.specs.declared.line.What.TheVariants as what
use Rattle.ipdl_base.specs.declared.message.Message.{Message}
use Rattle.ipdl_base.specs.declared.schema.MessageRow.{MessageRow}
use Rattle.ipdl_base.specs.declared.schema.Schema.{Schema}
use Rattle.ipdl_base.specs.declared.value.Values.{Values}
use Rattle.ipdl_base.specs.Sound.{message_of}
use Rattle.history_reading.specs.declared.parts.HandledRequest.{HandledRequest}
use Rattle.channel_model.specs.Ends.{End, Packet}
use Rattle.channel_model.specs.Events.{Event}
use Rattle.channel_model.specs.Events as event
use Rattle.channel_model.specs.Numbers.{is_sync_row, protocol_of, request_row}
use Rattle.channel_model.specs.Outputs.{Output, beginning, is_open, line_at}
use Rattle.channel_model.specs.Sends as sends
use Rattle.channel_model.specs.Steps.{provided, step}
use Rattle.channel_model.specs.ValueActors.{lives_as}
use Rattle.channel_model.proofs.Provided.{found-gives, provided-gives}
use Rattle.channel_model.proofs.SendParts.{lives-as, passed-first, request-number}
use Rattle.law_statements.specs.Said.{line_of}
use Rattle.order_laws.specs.DueEffects.{SendsRequest}
use Rattle.order_statements.specs.Shape.{request_sent}
use Rattle.order_statements.proofs.FirstLines.{IsLineOf, first-is, line-of-event, sent-begins}

-- The request of a line that is sent: the event, the row of the request, and that it was not refused.
pub record IsSend (schema : Schema) (e : End) (ev : Event) (w : What) (q : HandledRequest) : Type 0 where
  pub row : MessageRow
  pub number : ℕ
  pub values : Values
  pub name : Option (List ℕ)
  pub happens : ev ≡ event.send q.route number values name
  pub sent : SendsRequest schema e row q.route number values
  pub first : w ≡ sends.send_line row (sends.request_of e row q.route values) values
  pub found : message_of schema q.number ≡ Some row

-- Only a send has such a line

abbrev is_send : Event → Bool
is_send (event.send route number vs name) = true
is_send _ = false

send-says : (ev : Event) (n route : ℤ) (number : ℕ) (values : Values) → IsLineOf ev (what.Send n route number values) → is_send ev ≡ true
send-says (event.send to k vs name) n route number values h = refl
send-says _ n route number values h = absurd h

call-says : (ev : Event) (n transaction route : ℤ) (number : ℕ) (values : Values) → IsLineOf ev (what.Call n transaction route number values) → is_send ev ≡ true
call-says (event.send to k vs name) n transaction route number values h = refl
call-says _ n transaction route number values h = absurd h

sends-only : (ev : Event) (w : What) (q : HandledRequest) → request_sent w ≡ Some q → IsLineOf ev w → is_send ev ≡ true
sends-only ev (what.Send n route number values) q asked h = send-says ev n route number values h
sends-only ev (what.Call n transaction route number values) q asked h = call-says ev n transaction route number values h
sends-only ev _ q asked h = cc

-- The request

request-of-line : (b : Bool) (m : Message) (values : Values) (q : HandledRequest) → request_sent (if b then what.Call m.seq m.transaction m.route m.number values else what.Send m.seq m.route m.number values) ≡ Some q → q ≡ record { seq = m.seq; route = m.route; number = m.number }
request-of-line true m values q asked = cc
request-of-line false m values q asked = cc

module _ (schema : Schema) (e : End) (link : List Packet) (output : Output) (end : Side) (w : What) (effects : List What) (q : HandledRequest) (asked : request_sent w ≡ Some q) where
  accepted : (route : ℤ) (number : ℕ) (values : Values) (name : Option (List ℕ)) (row : MessageRow) → request_row schema number ≡ Some row → (refused : Option SendRefusal) → sends.send_refusal schema e row route values ≡ refused
      → (sends.sent_unless refused row (sends.request_of e row route values) values name (beginning e)).lines ≡ map (line_of end) (w ∷ effects) → IsSend schema e (event.send route number values name) w q
  accepted route number values name row found (Some cause) is at =
      let same : w ≡ what.RefusedSend cause row.number = first-is end w (what.RefusedSend cause row.number) effects (line_at e.side (what.RefusedSend cause row.number) ∷ []) refl at in
      let none : None ≡ Some q = ap request_sent (sym same) ∙ asked in
      cc
  accepted route number values name row found None is at =
      let m : Message = sends.request_of e row route values in
      let first : w ≡ sends.send_line row m values = first-is end w (sends.send_line row m values) effects (sends.sent row m values name (beginning e)).lines (sent-begins (λ v. v ≡ sends.send_line row m values) row m values name e refl) at in
      let request : q ≡ record { seq = m.seq; route = route; number = row.number } = request-of-line (is_sync_row row) m values q (ap request_sent (sym first) ∙ asked) in
      let numbered = request-number schema number row found in
      subst (IsSend schema e (event.send route number values name) w) (sym request)
      (record { row = row; number = number; values = values; name = name; happens = refl; sent = record { found = found; accepted = is }; first = first; found = ap (message_of schema) numbered.0 ∙ numbered.1 })

  pub sent-by : (ev : Event) → step schema e link ev ≡ Some output → output.lines ≡ map (line_of end) (w ∷ effects) → IsSend schema e ev w q
  sent-by ev is at = by ev is (sends-only ev w q asked (line-of-event schema e link ev output end w effects is at))
    where
      by : (ev : Event) → step schema e link ev ≡ Some output → is_send ev ≡ true → IsSend schema e ev w q
      by (event.send route number values name) is kind =
          let P : Output → Type 0 = λ o. o.lines ≡ map (line_of end) (w ∷ effects) → IsSend schema e (event.send route number values name) w q in
          found-gives P (request_row schema number) (λ row. provided (sends.may_send schema e row values name) (sends.send schema e row route values name) e) output
          (λ row found k. provided-gives P (sends.may_send schema e row values name) (sends.send schema e row route values name) e output
          (λ may. accepted route number values name row found (sends.send_refusal schema e row route values) refl) k) is at
      by _ is kind = cc

-- a request that is not refused goes to an actor that lives
pub sends-alive : (schema : Schema) (e : End) (row : MessageRow) (route : ℤ) (number : ℕ) (values : Values) → SendsRequest schema e row route number values → tree.lives route e.actors ≡ true
sends-alive schema e row route number values h =
    let rest : Option SendRefusal = if is_some (sends.stack_refusal e row) then sends.stack_refusal e row else sends.send_value_refusal schema e row route values in
    let opened = passed-first (is_open e.state) refusal.Closed (if not (lives_as e.actors (protocol_of row.number) route) then Some refusal.DeadActor else rest) h.accepted in
    let alive = passed-first (lives_as e.actors (protocol_of row.number) route) refusal.DeadActor rest opened.1 in
    lives-as e.actors (protocol_of row.number) route alive.0
