-- A line of a take is that of a take of a request, which is handled.
use Rattle.std.proofs.Common.{◌≡◌, ℕ, ℤ, Bool, true, false, cond, List, ◌∷◌, map, Option, Some, None, refl, sym, subst}
use Rattle.actor_tree.specs.Tree as tree
use Rattle.ipdl_base.specs.declared.kinds.Side.{Side}
use Rattle.ipdl_base.specs.declared.line.What.{What}
use Rattle.ipdl_base.specs.declared.line.What.TheVariants as what
use Rattle.ipdl_base.specs.declared.message.Body.{Body}
use Rattle.ipdl_base.specs.declared.message.Body.TheVariants.{Request, Reply, Fault, Goodbye}
use Rattle.ipdl_base.specs.declared.message.Message.{Message}
use Rattle.ipdl_base.specs.declared.schema.MessageRow.{MessageRow}
use Rattle.ipdl_base.specs.declared.schema.Schema.{Schema}
use Rattle.ipdl_base.specs.declared.value.Values.{Values}
use Rattle.ipdl_base.specs.Sound.{message_of}
use Rattle.pending_queue.specs.declared.item.Item.{Item}
use Rattle.pending_queue.specs.declared.item.Item.TheVariants as item
use Rattle.channel_model.specs.Ends.{End, Packet}
use Rattle.channel_model.specs.Events.{Event}
use Rattle.channel_model.specs.Events as event
use Rattle.channel_model.specs.Numbers.{protocol_of}
use Rattle.channel_model.specs.Outputs.{Output}
use Rattle.channel_model.specs.Steps.{step}
use Rattle.channel_model.specs.Takes.{dropped_for, taken_next}
use Rattle.channel_model.specs.ValueActors.{lives_as, missing}
use Rattle.channel_model.proofs.SendParts.{lives-as, request-number}
use Rattle.channel_laws.specs.Notes.{Note}
use Rattle.channel_laws.specs.Origins.{BodyOrigin, HasOrigins, ItemOrigin, Origin}
use Rattle.channel_laws.proofs.PrefixRuns.{all-taken}
use Rattle.law_statements.specs.Said.{line_of}
use Rattle.order_laws.specs.DueEffects.{TakesRequest}
use Rattle.order_laws.specs.Order.{FirstLine, IsTakeOf, IsTakeOfBody}
use Rattle.order_laws.proofs.DueEffects.{due_answers_are_given}
use Rattle.order_laws.proofs.Takes.{item-told, step-taken}
use Rattle.order_statements.proofs.FirstLines.{IsLineOf, first-is, line-of-event}

-- The request that a line shows as taken: the item that the end takes next, which is not dropped.
pub record TakenRequest (schema : Schema) (e : End) (ev : Event) (n route : ℤ) (number : ℕ) : Type 0 where
  pub m : Message
  pub row : MessageRow
  pub values : Values
  pub happens : ev ≡ event.take
  pub taken : TakesRequest schema e m row values
  pub handled : dropped_for schema e row m values ≡ None
  pub seq_is : n ≡ m.seq
  pub route_is : route ≡ m.route
  pub number_is : number ≡ m.number

-- Only a take has such a line

abbrev pub is_take : Event → Bool
is_take event.take = true
is_take _ = false

take-says : (ev : Event) (n route : ℤ) (number : ℕ) (values : Values) → IsLineOf ev (what.Take n route number values) → is_take ev ≡ true
take-says event.take n route number values h = refl
take-says _ n route number values h = absurd h

-- The request

record IsRequest (m : Message) (n route : ℤ) (number : ℕ) : Type 0 where
  values : Values
  body : m.body ≡ Request values
  seq_is : n ≡ m.seq
  route_is : route ≡ m.route
  number_is : number ≡ m.number

module _ (schema : Schema) (e : End) (link : List Packet) (output : Output) (end : Side) (n route : ℤ) (number : ℕ) (values : Values) (effects : List What) (lines : output.lines ≡ map (line_of end) (what.Take n route number values ∷ effects)) where
  body-request : (m : Message) (body : Body) → m.body ≡ body → IsTakeOfBody m body (what.Take n route number values) → IsRequest m n route number
  body-request m (Request vs) is h = record { values = vs; body = is; seq_is = h.0; route_is = h.1; number_is = h.2 }
  body-request m (Reply vs) is h = absurd h
  body-request m (Fault reason) is h = absurd h
  body-request m Goodbye is h = absurd h

  row-of : (theirs : List Note) (m : Message) (vs : Values) → m.body ≡ Request vs → BodyOrigin schema theirs m m.body → (row : MessageRow) × (message_of schema m.number ≡ Some row)
  row-of theirs m vs body h =
      let o : Origin schema theirs m.seq m.route m.number = subst (BodyOrigin schema theirs m) body h in
      (o.row, (request-number schema m.number o.row o.found).1)

  is-handled : (m : Message) (row : MessageRow) (vs : Values) → TakesRequest schema e m row vs → step schema e link event.take ≡ Some output → (gone : Option ℤ) → dropped_for schema e row m vs ≡ gone → dropped_for schema e row m vs ≡ None
  is-handled m row vs h made None is = is
  is-handled m row vs h made (Some id) is =
      let said = (due_answers_are_given.drops schema e link m row vs id output h is made).said in
      let same : what.Take n route number values ≡ what.Drop m.seq m.route m.number id = first-is end (what.Take n route number values) (what.Drop m.seq m.route m.number id) effects output.lines (subst (FirstLine (λ x. x ≡ what.Drop m.seq m.route m.number id)) (sym said) refl) lines in
      cc

  item-request : (theirs : List Note) → HasOrigins schema theirs e → step schema e link event.take ≡ Some output → (x : Item) → taken_next e ≡ Some x → IsTakeOf x (what.Take n route number values) → TakenRequest schema e event.take n route number
  item-request theirs origins made item.Broken next h = absurd h
  item-request theirs origins made (item.Message m sync level) next h =
      let r = body-request m m.body refl h in
      let row = row-of theirs m r.values r.body (all-taken (ItemOrigin schema theirs) e (item.Message m sync level) next origins.arrived) in
      let taken : TakesRequest schema e m row.0 r.values = record { sync = sync; level = level; next = next; body = r.body; found = row.1 } in
      record { m = m; row = row.0; values = r.values; happens = refl; taken = taken; handled = is-handled m row.0 r.values taken made (dropped_for schema e row.0 m r.values) refl; seq_is = r.seq_is; route_is = r.route_is; number_is = r.number_is }

  pub taken-by : (theirs : List Note) → HasOrigins schema theirs e → (ev : Event) → step schema e link ev ≡ Some output → TakenRequest schema e ev n route number
  taken-by theirs origins ev is = by ev is (take-says ev n route number values (line-of-event schema e link ev output end (what.Take n route number values) effects is lines))
    where
      by : (ev : Event) → step schema e link ev ≡ Some output → is_take ev ≡ true → TakenRequest schema e ev n route number
      by event.take is kind =
          let s = step-taken schema e link output is in
          let told : FirstLine (IsTakeOf s.0) output.lines = subst (λ (o : Output). FirstLine (IsTakeOf s.0) o.lines) s.2 (item-told schema s.0 e).first in
          item-request theirs origins is s.0 s.1 (subst (FirstLine (IsTakeOf s.0)) lines told)
      by _ is kind = cc

handled-lives : (alive : Bool) (id : ℤ) (rest : Option ℤ) → cond alive rest (Some id) ≡ None → alive ≡ true
handled-lives true id rest h = refl
handled-lives false id rest h = cc

-- a request that is handled goes to an actor that lives
pub taken-alive : {schema : Schema} {e : End} {ev : Event} {n route : ℤ} {number : ℕ} → TakenRequest schema e ev n route number → tree.lives route e.actors ≡ true
taken-alive {schema} {e} t =
    let alive : lives_as e.actors (protocol_of t.m.number) t.m.route ≡ true = handled-lives (lives_as e.actors (protocol_of t.m.number) t.m.route) t.m.route (missing schema e.actors t.row.params t.values) t.handled in
    subst (λ (id : ℤ). tree.lives id e.actors ≡ true) (sym t.route_is) (lives-as e.actors (protocol_of t.m.number) t.m.route alive)
