-- The answer to a request that is dropped.
use Rattle.std.proofs.Common.{◌≡◌, ℕ, ℤ, Bool, true, false, ◌&&◌, ◌||◌, List, [], ◌∷◌, ◌++◌, map, Option, Some, refl, sym, ap, ◌∙◌}
use Rattle.std.specs.Option.{option_map_or}
use Rattle.std.proofs.lemmas.Bool.{and_right}
use Rattle.std.proofs.lemmas.List.{append-nil}
use Rattle.ipdl_base.specs.declared.kinds.EndState.{EndState}
use Rattle.ipdl_base.specs.declared.kinds.EndState.TheVariants as state
use Rattle.ipdl_base.specs.declared.kinds.Reason.{Reason}
use Rattle.ipdl_base.specs.declared.kinds.Reason.TheVariants as reason
use Rattle.ipdl_base.specs.declared.line.What.{What}
use Rattle.ipdl_base.specs.declared.line.What.TheVariants as what
use Rattle.ipdl_base.specs.declared.schema.MessageRow.{MessageRow}
use Rattle.ipdl_base.specs.declared.schema.Schema.{Schema}
use Rattle.ipdl_base.specs.Sound.{message_of}
use Rattle.nesting_core.specs.declared.frame.Answer.TheVariants as answer
use Rattle.channel_model.specs.Ends.{End, Packet}
use Rattle.channel_model.specs.Deliveries as delivery
use Rattle.channel_model.specs.Events.{Event}
use Rattle.channel_model.specs.Numbers.{is_sync_row}
use Rattle.channel_model.specs.Outputs as outputs
use Rattle.channel_model.specs.Outputs.{AnsweredRequest, Output, request_answered}
use Rattle.channel_model.specs.Parts as parts
use Rattle.channel_model.specs.Parts.{DeliveryPart, FirstPart, IsRefusal, IsRenaming, LaterPart, LaterParts, OwnParts, reply_lines}
use Rattle.channel_model.specs.Phases.{Phase}
use Rattle.channel_model.specs.Sends as send
use Rattle.channel_model.specs.Steps.{step}
use Rattle.history_reading.specs.Rows as rows
use Rattle.law_statements.specs.Said.{line_of}
use Rattle.order_statements.specs.Effects.{fault_due}
use Rattle.order_statements.specs.Shape.{is_open, owes_reply}
use Rattle.order_statements.proofs.StepLines.{MadeOf, answering-other, drops_or_returns, farewell-other, made-of, of_delivery, of_own, refusal-other, renaming-other, resume-other, send-other, shut-other, silent-parts, unknown-other}
use Rattle.ipdl_base.specs.declared.kinds.Side.{Side}

-- both tests of an open end agree
pub open-same : (s : EndState) → is_open s ≡ outputs.is_open s
open-same state.Open = refl
open-same state.Draining = refl
open-same state.Closed = refl
open-same state.Dead = refl

-- so do the tests of a request that needs a reply
pub owes-same : (schema : Schema) (number : ℕ) (row : MessageRow) → message_of schema number ≡ Some row → owes_reply schema number ≡ parts.owes_reply row
owes-same schema number row found =
    ap (λ (o : Option MessageRow). option_map_or rows.is_sync_row o false || option_map_or rows.wants_row o false) found

module _ (schema : Schema) (n route : ℤ) (number : ℕ) (id : ℤ) where
  -- a first line that is no drop
  other-first : {A : Type 0} (w : What) (us vs more : List What) → drops_or_returns w ≡ false → (w ∷ us) ++ vs ≡ what.Drop n route number id ∷ more → A
  other-first w us vs more other e = let same : w ≡ what.Drop n route number id = cc in let k : false ≡ true = sym other ∙ ap drops_or_returns same in cc

  fault-lines : (b : Bool) (q : AnsweredRequest) (why : Reason) → reply_lines b q (answer.Fault why) ≡ fault_due b q.seq why
  fault-lines true q why = refl
  fault-lines false q why = refl

  abbrev Due : End → List What → Type 0
  Due e more = more ≡ fault_due (outputs.is_open e.state && owes_reply schema number) n reason.ActorDestroyed

  first-drop : {e f g : End} {us vs : List What} {ps qs : List Packet} {p q : Phase} → FirstPart schema e us ps f p → LaterParts p f vs qs g q → (more : List What) → us ++ vs ≡ what.Drop n route number id ∷ more → Due e more
  first-drop {vs} (parts.refuses w is) later more e = other-first w [] vs more (refusal-other schema w is) e
  first-drop {vs} (parts.renames w is) later more e = other-first w [] vs more (renaming-other w is) e
  first-drop {vs} (parts.flushes {e = f} opened) later more e = cc
  first-drop {vs} (parts.sends {e = f} row to values name sent) later more e = other-first _ [] vs more (send-other (is_sync_row row) (send.request_of f row to values) values) e
  first-drop {vs} (parts.answers by values r row found may accepted used) later more e = other-first _ [] vs more (answering-other r.seq values) e
  first-drop (parts.closes opened none) later more e = cc
  first-drop (parts.dies opened) later more e = cc
  first-drop (parts.dies_silent closed dead) later more e = cc
  first-drop (parts.takes m sync level row values next body found stays) later more e = cc
  first-drop {vs} (parts.drops {e = f} m sync level row values gone replies next body found missing is) later more e =
      let lines : reply_lines replies (request_answered m) (answer.Fault reason.ActorDestroyed) ++ vs ≡ more = cc in
      let seq : m.seq ≡ n = cc in
      let kind : m.number ≡ number = cc in
      sym lines
      ∙ (ap (λ (xs : List What). reply_lines replies (request_answered m) (answer.Fault reason.ActorDestroyed) ++ xs) (silent-parts later refl (refl, refl))
      ∙ (append-nil (reply_lines replies (request_answered m) (answer.Fault reason.ActorDestroyed))
      ∙ (fault-lines replies (request_answered m) reason.ActorDestroyed
      ∙ (ap (λ (b : Bool). fault_due b m.seq reason.ActorDestroyed) (is ∙ ap (λ (b : Bool). outputs.is_open f.state && b) (sym (owes-same schema m.number row found) ∙ ap (owes_reply schema) kind))
      ∙ ap (λ (k : ℤ). fault_due (outputs.is_open f.state && owes_reply schema number) k reason.ActorDestroyed) seq))))
  first-drop {vs} (parts.drops_unknown {e = f} m sync level values next body found) later more e =
      let lines : vs ≡ more = cc in
      let kind : m.number ≡ number = cc in
      let nothing : owes_reply schema number ≡ false = ap (owes_reply schema) (sym kind) ∙ ap (λ (o : Option MessageRow). option_map_or rows.is_sync_row o false || option_map_or rows.wants_row o false) found in
      sym lines ∙ (silent-parts later refl (refl, refl) ∙ ap (λ (b : Bool). fault_due b n reason.ActorDestroyed) (sym (and_right (outputs.is_open f.state) (owes_reply schema number) nothing)))
  first-drop (parts.takes_reply m sync level a next body settling) later more e = cc
  first-drop (parts.settles m sync level row a next body found awaited) later more e = cc
  first-drop {vs} (parts.shuts last next farewell) later more e = other-first _ [] vs more (shut-other last) e
  first-drop (parts.returns entry row values told lost is told_is lost_is) later more e = cc
  first-drop {vs} (parts.resumes {e = f} wait row top found) later more e = other-first _ [] vs more (resume-other wait.seq _) e

  own-drop : {e g : End} {ws : List What} {ps : List Packet} {q : Phase} → OwnParts schema e ws ps g q → (more : List What) → ws ≡ what.Drop n route number id ∷ more → Due e more
  own-drop (parts.begun first later over) more e = first-drop first later more e

  delivery-drop : {A : Type 0} {packet : Packet} {e g : End} {ws : List What} {ps : List Packet} {q : Phase} → DeliveryPart schema packet e ws ps g q → (more : List What) → ws ≡ what.Drop n route number id ∷ more → A
  delivery-drop (parts.gets_request m row vs body found none) more e = cc
  delivery-drop (parts.replaces m row vs old sync level replies body found rep is) more e = cc
  delivery-drop (parts.gets_answer m row a body found sync) more e = cc
  delivery-drop (parts.gets_reply m row a body found sync) more e = cc
  delivery-drop (parts.drains {e = f} packet farewell) more e = other-first _ (map what.Fails (delivery.unanswered f)) [] more (farewell-other packet) (append-nil _ ∙ e)
  delivery-drop (parts.passes_by m farewell found) more e = other-first _ [] [] more (unknown-other m.seq m.body) e

-- the effects of a drop
pub drop-effects : (schema : Schema) (e : End) (link : List Packet) (ev : Event) (output : Output) → step schema e link ev ≡ Some output → (end : Side) (n route : ℤ) (number : ℕ) (id : ℤ) (effects : List What)
    → output.lines ≡ map (line_of end) (what.Drop n route number id ∷ effects) → effects ≡ fault_due (is_open e.state && owes_reply schema number) n reason.ActorDestroyed
drop-effects schema e link ev output is end n route number id effects at = by (made-of schema e link ev output is end (what.Drop n route number id ∷ effects) at)
  where
    by : MadeOf schema e output (what.Drop n route number id ∷ effects) → effects ≡ fault_due (is_open e.state && owes_reply schema number) n reason.ActorDestroyed
    by (of_own parts) = own-drop schema n route number id parts effects refl ∙ ap (λ (b : Bool). fault_due (b && owes_reply schema number) n reason.ActorDestroyed) (sym (open-same e.state))
    by (of_delivery packet opened part) = delivery-drop schema n route number id part effects refl
