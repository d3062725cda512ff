-- A constructor builds its actor, when it is sent and when it is taken.
use Rattle.std.proofs.Common.{◌≡◌, ◌≤◌, ℕ, ℤ, Bool, true, false, IsTrue, List, [], ◌∷◌, ◌++◌, length, Option, Some, None, refl, sym, ap, subst, ◌∙◌, append_assoc, arith}
use Rattle.std.specs.List.{list_all}
use Rattle.std.specs.Option.{option_map_or}
use Rattle.ipdl_base.specs.declared.kinds.Side.{Side}
use Rattle.ipdl_base.specs.declared.line.Line.{Line}
use Rattle.ipdl_base.specs.declared.line.What.{What}
use Rattle.ipdl_base.specs.declared.line.What.TheVariants as what
use Rattle.ipdl_base.specs.declared.schema.Kind.{Kind}
use Rattle.ipdl_base.specs.declared.schema.Kind.TheVariants.{Normal, Constructor, Delete}
use Rattle.ipdl_base.specs.declared.schema.MessageRow.{MessageRow}
use Rattle.ipdl_base.specs.declared.schema.Schema.{Schema}
use Rattle.ipdl_base.specs.declared.value.Values.{Values}
use Rattle.ipdl_base.specs.Sound.{message_of}
use Rattle.history_reading.specs.declared.parts.HandledRequest.{HandledRequest}
use Rattle.channel_model.specs.Ends.{End, NameContent, actor, resolver}
use Rattle.channel_model.specs.Events as event
use Rattle.channel_model.specs.Outputs.{is_open}
use Rattle.channel_model.specs.Sends as sends
use Rattle.channel_model.specs.Steps.{step}
use Rattle.channel_model.specs.ValueActors.{nulled}
use Rattle.law_statements.specs.Actors.{lives}
use Rattle.law_statements.specs.Said.{line_of, said_by}
use Rattle.order_laws.specs.DueEffects.{Builds, held_by, let_go_lines}
use Rattle.order_laws.proofs.DueEffects.{constructors_build}
use Rattle.order_statements.specs.Effects.{IsBuilt, IsBuiltBySend, lets_go}
use Rattle.order_statements.specs.Shape.{HasEffects, constructor_of, protocol_made, request_sent}
use Rattle.order_statements.proofs.Places.{EventIn}
use Rattle.order_statements.proofs.Deletes.{request-event}
use Rattle.order_statements.proofs.SentRequests.{IsSend, sent-by}
use Rattle.order_statements.proofs.TakenRequests.{TakenRequest, taken-by}
use Rattle.order_statements.proofs.Tells.{EndTells, EventsAreTold, TellingStep, effects-are, told-after}

-- the row of a constructor
made-kind : (kind : Kind) (protocol : ℕ) → protocol_made kind ≡ Some protocol → kind ≡ Constructor protocol
made-kind Normal protocol h = cc
made-kind (Constructor made) protocol h = let same : made ≡ protocol = cc in ap (λ (p : ℕ). Constructor p) same
made-kind Delete protocol h = cc

constructor-row : (schema : Schema) (number protocol : ℕ) (row : MessageRow) → message_of schema number ≡ Some row → constructor_of schema number ≡ Some protocol → row.kind ≡ Constructor protocol
constructor-row schema number protocol row found is = made-kind row.kind protocol (sym (ap (λ (r : Option MessageRow). option_map_or (λ (x : MessageRow). protocol_made x.kind) r None) found) ∙ is)

-- The effects of an event that builds, as its lines show them.
module _ (schema : Schema) {end : Side} {w : What} {before following : List Line} (i : EventIn (TellingStep schema end) end w before following) where
  built-by : (first : What) (lost : List What) (id : ℤ) (protocol : ℕ) (route : ℤ) → Builds i.by.e i.output first lost id protocol route → IsBuilt end (said_by end before ++ w ∷ []) lost protocol following
  built-by first lost id protocol route b =
      let is : i.effects ≡ lost ++ what.Built id protocol ∷ [] = effects-are schema i first (lost ++ what.Built id protocol ∷ []) b.lines in
      let t : EndTells schema i.output.end end (before ++ i.output.lines) = i.by.tells_after in
      let said : said_by end (before ++ i.output.lines) ≡ (said_by end before ++ w ∷ []) ++ (lost ++ what.Built id protocol ∷ []) =
      told-after schema i ∙ (sym (append_assoc (said_by end before) (w ∷ []) i.effects) ∙ ap (λ (ws : List What). (said_by end before ++ w ∷ []) ++ ws) is)
      in
      record {
        id = id;
        are = subst (λ (ws : List What). HasEffects end ws following) is i.has;
        alive = subst (λ (ws : List What). IsTrue (lives ws id)) said (t.alive id ∙ b.alive);
      }

-- What a name loses: at most the answer for one resolver

few-lost : (b : Bool) (held : Option NameContent) → length (let_go_lines b held) ≤ 1
few-lost b None = omega arith
few-lost b (Some (actor id)) = omega arith
few-lost true (Some (resolver r)) = omega arith
few-lost false (Some (resolver r)) = omega arith

answers-lost : (b : Bool) (held : Option NameContent) → IsTrue (list_all lets_go (let_go_lines b held))
answers-lost b None = refl
answers-lost b (Some (actor id)) = refl
answers-lost true (Some (resolver r)) = refl
answers-lost false (Some (resolver r)) = refl

module _ (schema : Schema) (lines : List Line) (told : EventsAreTold schema lines) where
  pub sends-build : (end : Side) (w : What) (q : HandledRequest) (protocol : ℕ) (before following : List Line) → lines ≡ before ++ line_of end w ∷ following → request_sent w ≡ Some q → constructor_of schema q.number ≡ Some protocol
      → IsBuiltBySend end (said_by end before ++ w ∷ []) protocol following
  sends-build end w q protocol before following at asked constructor =
      let i = told end w before following (request-event w q asked) at in
      let e : End = i.by.e in
      let s : IsSend schema e i.by.happened w q = sent-by schema e i.by.link i.output end w i.effects q asked i.by.happened i.by.made i.lines in
      let made : step schema e i.by.link (event.send q.route s.number s.values s.name) ≡ Some i.output = sym (ap (step schema e i.by.link) s.happens) ∙ i.by.made in
      let b = constructors_build.sends schema e i.by.link s.row q.route s.number s.values s.name protocol i.output s.sent (constructor-row schema q.number protocol s.row s.found constructor) made in
      let lost : List What = let_go_lines (is_open e.state) (held_by s.name e) in
      record {
        lost = lost;
        few = few-lost (is_open e.state) (held_by s.name e);
        answers = answers-lost (is_open e.state) (held_by s.name e);
        builds = built-by schema i (sends.send_line s.row (sends.request_of e s.row q.route s.values) s.values) lost (sends.request_of e s.row q.route s.values).made protocol q.route b;
      }

  pub takes-build : (end : Side) (n route : ℤ) (number protocol : ℕ) (values : Values) (before following : List Line) → lines ≡ before ++ line_of end (what.Take n route number values) ∷ following → constructor_of schema number ≡ Some protocol
      → IsBuilt end (said_by end before ++ what.Take n route number values ∷ []) [] protocol following
  takes-build end n route number protocol values before following at constructor =
      let i = told end (what.Take n route number values) before following refl at in
      let e : End = i.by.e in
      let t : TakenRequest schema e i.by.happened n route number = taken-by schema e i.by.link i.output end n route number values i.effects i.lines i.by.tells.theirs i.by.tells.origins i.by.happened i.by.made in
      let made : step schema e i.by.link event.take ≡ Some i.output = sym (ap (step schema e i.by.link) t.happens) ∙ i.by.made in
      let kind : t.row.kind ≡ Constructor protocol = constructor-row schema t.m.number protocol t.row t.taken.found (ap (constructor_of schema) (sym t.number_is) ∙ constructor) in
      let b = constructors_build.takes schema e i.by.link t.m t.row t.values protocol i.output t.taken kind t.handled made in
      built-by schema i (what.Take t.m.seq t.m.route t.m.number (nulled schema e.actors t.row.params t.values)) [] t.m.made protocol t.m.route b
