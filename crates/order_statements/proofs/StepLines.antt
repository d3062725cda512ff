-- The lines of a step, by the parts that it is made of: the first is that of its event.
use Rattle.std.proofs.Common.{◌≡◌, ℤ, Bool, true, false, List, [], ◌∷◌, ◌++◌, if◌then◌else◌, map, Option, Some, None, refl, sym, ap, subst, ◌∙◌}
use Rattle.ipdl_base.specs.declared.kinds.Side.{Side}
use Rattle.ipdl_base.specs.declared.line.Line.{Line}
use Rattle.ipdl_base.specs.declared.line.What.{What}
use Rattle.ipdl_base.specs.declared.line.What.TheVariants as what
use Rattle.ipdl_base.specs.declared.message.Body.{Body}
use Rattle.ipdl_base.specs.declared.message.Body.TheVariants.{Fault, Goodbye, Reply, Request}
use Rattle.ipdl_base.specs.declared.message.Message.{Message}
use Rattle.ipdl_base.specs.declared.value.Values.{Values}
use Rattle.nesting_core.specs.declared.frame.Answer.{Answer}
use Rattle.nesting_core.specs.declared.frame.Answer.TheVariants as answer
use Rattle.pending_queue.specs.declared.item.Item.{Item}
use Rattle.pending_queue.specs.declared.item.Item.TheVariants as item
use Rattle.ipdl_base.specs.declared.schema.Schema.{Schema}
use Rattle.channel_model.specs.Answers as answering
use Rattle.channel_model.specs.Ends.{End, Packet, mark, message}
use Rattle.channel_model.specs.Events.{Event}
use Rattle.channel_model.specs.Events as event
use Rattle.channel_model.specs.Outputs.{Output, is_open, line_at}
use Rattle.channel_model.specs.Parts as parts
use Rattle.channel_model.specs.Parts.{DeliveryPart, IsRefusal, IsRenaming, LaterPart, LaterParts, OwnParts}
use Rattle.channel_model.specs.Phases.{IsOver, Phase, closing, deletion, nobody}
use Rattle.channel_model.specs.Returns as return
use Rattle.channel_model.specs.StepLaws.{IsMadeOf, IsStepOfParts}
use Rattle.channel_model.specs.Steps.{step}
use Rattle.channel_model.proofs.StepParts.{steps_are_made_of_parts}
use Rattle.law_statements.specs.Said.{line_of}

-- A step that prints these lines is made of parts of the end's own, or is the delivery of a packet to an open end.
pub data MadeOf (schema : Schema) (e : End) (output : Output) (ws : List What) : Type 0 where
  of_own : {q : Phase} → OwnParts schema e ws output.packets output.end q → MadeOf schema e output ws
  of_delivery : {q : Phase} (packet : Packet) → is_open e.state ≡ true → DeliveryPart schema packet e ws output.packets output.end q → MadeOf schema e output ws

pub said-same : (s t : Side) (xs ys : List What) → map (line_at s) xs ≡ map (line_of t) ys → xs ≡ ys
said-same s t [] [] e = refl
said-same s t [] (y ∷ ys) e = cc
said-same s t (x ∷ xs) [] e = cc
said-same s t (x ∷ xs) (y ∷ ys) e =
    let first : line_at s x ≡ line_of t y = cc in
    let rest : map (line_at s) xs ≡ map (line_of t) ys = cc in
    ap (λ (w : What). w ∷ xs) (ap (λ (l : Line). l.what) first) ∙ ap (λ (ws : List What). y ∷ ws) (said-same s t xs ys rest)

from-own : (schema : Schema) (e : End) (output : Output) (end : Side) (ws : List What) → output.lines ≡ map (line_of end) ws → IsMadeOf (OwnParts schema e) e.side output → MadeOf schema e output ws
from-own schema e output end ws at m = of_own (subst (λ (xs : List What). OwnParts schema e xs output.packets output.end m.phase) (said-same e.side end m.whats ws (sym m.lines ∙ at)) m.parts)

from-parts : (schema : Schema) (e : End) (link : List Packet) (ev : Event) (output : Output) (end : Side) (ws : List What) → output.lines ≡ map (line_of end) ws → IsStepOfParts schema e link ev output → MadeOf schema e output ws
from-parts schema e link event.deliver output end ws at (packet, first, opened, m) =
    of_delivery packet opened (subst (λ (xs : List What). DeliveryPart schema packet e xs output.packets output.end m.phase) (said-same e.side end m.whats ws (sym m.lines ∙ at)) m.parts)
from-parts schema e link (event.send route number vs name) output end ws at m = from-own schema e output end ws at m
from-parts schema e link (event.answer by vs) output end ws at m = from-own schema e output end ws at m
from-parts schema e link (event.keep seq name) output end ws at m = from-own schema e output end ws at m
from-parts schema e link (event.name name id) output end ws at m = from-own schema e output end ws at m
from-parts schema e link event.close output end ws at m = from-own schema e output end ws at m
from-parts schema e link event.die output end ws at m = from-own schema e output end ws at m
from-parts schema e link event.take output end ws at m = from-own schema e output end ws at m
from-parts schema e link (event.return vs) output end ws at m = from-own schema e output end ws at m
from-parts schema e link event.resume output end ws at m = from-own schema e output end ws at m
from-parts schema e link event.flush output end ws at m = from-own schema e output end ws at m

pub made-of : (schema : Schema) (e : End) (link : List Packet) (ev : Event) (output : Output) → step schema e link ev ≡ Some output → (end : Side) (ws : List What) → output.lines ≡ map (line_of end) ws → MadeOf schema e output ws
made-of schema e link ev output is end ws at = from-parts schema e link ev output end ws at (steps_are_made_of_parts schema e link ev output is)

-- Later parts print nothing where nothing more will follow

silent-part : {p q : Phase} {e f : End} {ws : List What} {ps : List Packet} → LaterPart p e ws ps f q → p.renames ≡ false → IsOver p → (ws ≡ []) × (q.renames ≡ false) × IsOver q
silent-part (parts.unnames name may silent) renames over = let k : true ≡ false = sym may ∙ renames in cc
silent-part (parts.lets_go name r may held opened) renames over = let k : true ≡ false = sym may ∙ renames in cc
silent-part (parts.names more actors) renames over = (refl, renames, over)
silent-part (parts.releases seq closed) renames over = (refl, renames, over)
silent-part (parts.keeps seq name r held closed) renames over = (refl, renames, over)
silent-part (parts.builds id protocol rest fresh built) renames over = let k : id ∷ rest ≡ [] = sym fresh ∙ over.0 in cc
silent-part (parts.deletes id due) renames over = let k : deletion id ≡ nobody = sym due ∙ over.1 in cc
silent-part (parts.falls why due) renames over = let k : closing why ≡ nobody = sym due ∙ over.1 in cc

pub silent-parts : {p q : Phase} {e f : End} {ws : List What} {ps : List Packet} → LaterParts p e ws ps f q → p.renames ≡ false → IsOver p → ws ≡ []
silent-parts parts.done renames over = refl
silent-parts (parts.then {ws} {vs} part rest) renames over =
    let a = silent-part part renames over in
    ap (λ (xs : List What). xs ++ vs) a.0 ∙ silent-parts rest a.1 a.2

-- First lines that are neither a drop nor a return

abbrev pub drops_or_returns : What → Bool
drops_or_returns (what.Drop n route number id) = true
drops_or_returns (what.Return n) = true
drops_or_returns _ = false

pub refusal-other : (schema : Schema) (w : What) → IsRefusal schema w → drops_or_returns w ≡ false
refusal-other schema (what.RefusedSend cause number) is = refl
refusal-other schema (what.RefusedClose cause) is = refl
refusal-other schema (what.RefusedResolve cause) is = refl
refusal-other schema (what.RefusedReject cause) is = refl
refusal-other schema _ is = absurd is

pub renaming-other : (w : What) → IsRenaming w → drops_or_returns w ≡ false
renaming-other (what.Keep seq name) is = refl
renaming-other (what.Let name id) is = refl
renaming-other _ is = absurd is

pub send-other : (b : Bool) (m : Message) (vs : Values) → drops_or_returns (if b then what.Call m.seq m.transaction m.route m.number vs else what.Send m.seq m.route m.number vs) ≡ false
send-other true m vs = refl
send-other false m vs = refl

pub answering-other : (seq : ℤ) (vs : Option Values) → drops_or_returns (answering.answering_line seq vs) ≡ false
answering-other seq None = refl
answering-other seq (Some vs) = refl

pub shut-other : (last : Item) → drops_or_returns (parts.shut_line last) ≡ false
shut-other (item.Message m sync level) = refl
shut-other item.Broken = refl

pub resume-other : (seq : ℤ) (a : Answer) → drops_or_returns (return.resume_line seq a) ≡ false
resume-other seq (answer.Ok vs) = refl
resume-other seq (answer.Fault why) = refl

pub farewell-other : (packet : Packet) → drops_or_returns (parts.farewell_line packet) ≡ false
farewell-other (message m) = refl
farewell-other mark = refl

pub unknown-other : (seq : ℤ) (body : Body) → drops_or_returns (parts.unknown_line seq body) ≡ false
unknown-other seq (Request vs) = refl
unknown-other seq (Reply vs) = refl
unknown-other seq (Fault why) = refl
unknown-other seq Goodbye = refl
