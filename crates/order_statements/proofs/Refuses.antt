-- An act that is refused has no effects.
use Rattle.std.proofs.Common.{◌≡◌, ℤ, Bool, true, false, IsTrue, List, [], ◌∷◌, ◌++◌, if◌then◌else◌, Option, Some, None, refl, sym, ap, subst, ◌∙◌}
use Rattle.ipdl_base.specs.declared.kinds.Side.{Side}
use Rattle.ipdl_base.specs.declared.line.Line.{Line}
use Rattle.ipdl_base.specs.declared.line.What.{What}
use Rattle.ipdl_base.specs.declared.line.What.TheVariants as what
use Rattle.ipdl_base.specs.declared.message.Body.{Body}
use Rattle.ipdl_base.specs.declared.message.Body.TheVariants.{Request, Reply, Fault, Goodbye}
use Rattle.ipdl_base.specs.declared.message.Message.{Message}
use Rattle.ipdl_base.specs.declared.schema.Schema.{Schema}
use Rattle.ipdl_base.specs.declared.value.Values.{Values}
use Rattle.ipdl_base.specs.Lines.{is_effect}
use Rattle.nesting_core.specs.declared.frame.Answer.{Answer}
use Rattle.nesting_core.specs.declared.frame.Answer.TheVariants as answer
use Rattle.pending_queue.specs.declared.item.Item.{Item}
use Rattle.pending_queue.specs.declared.item.Item.TheVariants as item
use Rattle.channel_model.specs.Answers as answering
use Rattle.channel_model.specs.Ends.{End, Packet, message, mark}
use Rattle.channel_model.specs.Numbers.{is_sync_row}
use Rattle.channel_model.specs.Outputs.{Output}
use Rattle.channel_model.specs.Parts
use Rattle.channel_model.specs.Parts.{DeliveryPart, FirstPart, IsRenaming, LaterParts, OwnParts}
use Rattle.channel_model.specs.Phases.{Phase}
use Rattle.channel_model.specs.Returns as returns
use Rattle.channel_model.specs.Sends as sends
use Rattle.channel_model.specs.ValueActors.{received}
use Rattle.law_statements.specs.Said.{line_of}
use Rattle.order_statements.specs.Effects.{is_refusal}
use Rattle.order_statements.specs.Shape.{HasEffects}
use Rattle.order_statements.proofs.StepLines.{MadeOf, made-of, of_delivery, of_own, silent-parts}
use Rattle.order_statements.proofs.Tells.{EventsAreTold}

-- First lines that are no refusals

renaming-no : (w : What) → IsRenaming w → is_refusal w ≡ false
renaming-no (what.Keep seq name) is = refl
renaming-no (what.Let name id) is = refl
renaming-no _ is = absurd is

send-no : (b : Bool) (m : Message) (vs : Values) → is_refusal (if b then what.Call m.seq m.transaction m.route m.number vs else what.Send m.seq m.route m.number vs) ≡ false
send-no true m vs = refl
send-no false m vs = refl

answering-no : (n : ℤ) (vs : Option Values) → is_refusal (answering.answering_line n vs) ≡ false
answering-no n None = refl
answering-no n (Some vs) = refl

shut-no : (last : Item) → is_refusal (Parts.shut_line last) ≡ false
shut-no (item.Message m sync level) = refl
shut-no item.Broken = refl

resume-no : (n : ℤ) (a : Answer) → is_refusal (returns.resume_line n a) ≡ false
resume-no n (answer.Ok vs) = refl
resume-no n (answer.Fault reason) = refl

farewell-no : (packet : Packet) → is_refusal (Parts.farewell_line packet) ≡ false
farewell-no (message m) = refl
farewell-no mark = refl

unknown-no : (n : ℤ) (body : Body) → is_refusal (Parts.unknown_line n body) ≡ false
unknown-no n (Request vs) = refl
unknown-no n (Reply vs) = refl
unknown-no n (Fault reason) = refl
unknown-no n Goodbye = refl

module _ (w : What) (effects : List What) (refused : IsTrue (is_refusal w)) where
  other-first : {A : Type 0} (v : What) (us : List What) → is_refusal v ≡ false → v ∷ us ≡ w ∷ effects → A
  other-first v us other e = let same : v ≡ w = cc in let k : false ≡ true = sym other ∙ (ap is_refusal same ∙ refused) in cc

  first-refuses : {schema : Schema} {e f g : End} {us vs : List What} {ps qs : List Packet} {p q : Phase} → FirstPart schema e us ps f p → LaterParts p f vs qs g q → us ++ vs ≡ w ∷ effects → effects ≡ []
  first-refuses {vs = vs} (Parts.refuses v is) later e = let rest : vs ≡ effects = cc in sym rest ∙ silent-parts later refl (refl, refl)
  first-refuses {vs = vs} (Parts.renames v is) later e = other-first v vs (renaming-no v is) e
  first-refuses (Parts.flushes opened) later e = other-first _ _ refl e
  first-refuses (Parts.sends {e = f} row to values name sent) later e = other-first _ _ (send-no (is_sync_row row) (sends.request_of f row to values) values) e
  first-refuses (Parts.answers by values r row found may accepted used) later e = other-first _ _ (answering-no r.seq values) e
  first-refuses (Parts.closes opened none) later e = other-first _ _ refl e
  first-refuses (Parts.dies opened) later e = other-first _ _ refl e
  first-refuses (Parts.dies_silent closed dead) later e = other-first _ _ refl e
  first-refuses (Parts.takes m sync level row values next body found stays) later e = other-first _ _ refl e
  first-refuses (Parts.drops m sync level row values gone replies next body found missing is) later e = other-first _ _ refl e
  first-refuses (Parts.drops_unknown m sync level values next body found) later e = other-first _ _ refl e
  first-refuses (Parts.takes_reply m sync level a next body settling) later e = other-first _ _ refl e
  first-refuses (Parts.settles m sync level row a next body found awaited) later e = other-first _ _ refl e
  first-refuses (Parts.shuts last next farewell) later e = other-first _ _ (shut-no last) e
  first-refuses (Parts.returns entry row values told lost is told_is lost_is) later e = other-first _ _ refl e
  first-refuses {schema} (Parts.resumes {e = f} wait row top found) later e = other-first _ _ (resume-no wait.seq (received schema f.actors row wait.given)) e

  own-refuses : {schema : Schema} {e g : End} {ws : List What} {ps : List Packet} {q : Phase} → OwnParts schema e ws ps g q → ws ≡ w ∷ effects → effects ≡ []
  own-refuses (Parts.begun first later over) e = first-refuses first later e

  delivery-refuses : {schema : Schema} {packet : Packet} {e g : End} {ws : List What} {ps : List Packet} {q : Phase} → DeliveryPart schema packet e ws ps g q → ws ≡ w ∷ effects → effects ≡ []
  delivery-refuses (Parts.gets_request m row vs body found none) e = other-first _ _ refl e
  delivery-refuses (Parts.replaces m row vs old sync level replies body found rep is) e = other-first _ _ refl e
  delivery-refuses (Parts.gets_answer m row a body found sync) e = other-first _ _ refl e
  delivery-refuses (Parts.gets_reply m row a body found sync) e = other-first _ _ refl e
  delivery-refuses (Parts.drains packet farewell) e = other-first _ _ (farewell-no packet) e
  delivery-refuses (Parts.passes_by m farewell found) e = other-first _ _ (unknown-no m.seq m.body) e

refusal-event : (w : What) → IsTrue (is_refusal w) → is_effect w ≡ false
refusal-event (what.RefusedSend cause number) h = refl
refusal-event (what.RefusedClose cause) h = refl
refusal-event (what.RefusedResolve cause) h = refl
refusal-event (what.RefusedReject cause) h = refl
refusal-event _ h = cc

pub refusals-do-nothing : (schema : Schema) (lines : List Line) → EventsAreTold schema lines → (end : Side) (w : What) (before following : List Line) → lines ≡ before ++ line_of end w ∷ following → IsTrue (is_refusal w) → HasEffects end [] following
refusals-do-nothing schema lines told end w before following at refused =
    let i = told end w before following (refusal-event w refused) at in
    subst (λ (ws : List What). HasEffects end ws following) (by (made-of schema i.by.e i.by.link i.by.happened i.output i.by.made end (w ∷ i.effects) i.lines)) i.has
  where
    by : {e : End} {output : Output} {effects : List What} → MadeOf schema e output (w ∷ effects) → effects ≡ []
    by {effects = effects} (of_own parts) = own-refuses w effects refused parts refl
    by {effects = effects} (of_delivery packet opened part) = delivery-refuses w effects refused part refl
