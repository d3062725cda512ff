-- A line of a take comes from a take.
use Rattle.std.proofs.Common.{◌≡◌, ℕ, ℤ, Bool, true, false, cond, List, [], ◌∷◌, ◌++◌, map, Option, Some, None, refl, sym, ap, ◌∙◌}
use Rattle.ipdl_base.specs.declared.kinds.Level.{Level}
use Rattle.ipdl_base.specs.declared.kinds.Side.{Side}
use Rattle.ipdl_base.specs.declared.line.Line.{Line}
use Rattle.ipdl_base.specs.declared.line.What.{What}
use Rattle.ipdl_base.specs.declared.line.What.TheVariants as what
use Rattle.ipdl_base.specs.declared.message.Body.{Body}
use Rattle.ipdl_base.specs.declared.message.Body.TheVariants.{Request, Reply, Fault, Goodbye}
use Rattle.ipdl_base.specs.declared.message.Message.{Message}
use Rattle.ipdl_base.specs.declared.schema.Schema.{Schema}
use Rattle.ipdl_base.specs.declared.value.Values.{Values}
use Rattle.nesting_core.specs.declared.frame.Answer.{Answer}
use Rattle.nesting_core.specs.declared.frame.Answer.TheVariants as answer
use Rattle.pending_queue.specs.declared.item.Item.{Item}
use Rattle.pending_queue.specs.declared.item.Item.TheVariants as item
use Rattle.channel_model.specs.Answers.{answering_line}
use Rattle.channel_model.specs.Ends.{End, Packet, message, mark}
use Rattle.channel_model.specs.Events.{Event}
use Rattle.channel_model.specs.Events as event
use Rattle.channel_model.specs.Outputs.{Output, line_at}
use Rattle.channel_model.specs.Numbers.{is_sync_row}
use Rattle.channel_model.specs.Parts
use Rattle.channel_model.specs.Parts.{FirstPart, OwnParts, DeliveryPart, IsRefusal, IsRenaming, farewell_line, unknown_line, shut_line}
use Rattle.channel_model.specs.Phases.{Phase}
use Rattle.channel_model.specs.Returns.{resume_line}
use Rattle.channel_model.specs.Sends as send
use Rattle.channel_model.specs.StepLaws.{IsStepOfParts}
use Rattle.channel_model.specs.Takes as take
use Rattle.channel_model.specs.ValueActors.{received}

-- The next item that an end takes is a request of a message.
pub record TakesRequest (e : End) (number : ℕ) : Type 0 where
  pub m : Message
  pub sync : Bool
  pub level : Level
  pub vs : Values
  pub next : take.taken_next e ≡ Some (item.Message m sync level)
  pub body : m.body ≡ Request vs
  pub number_is : m.number ≡ number

-- the message that is taken, by its line
abbrev pub taken_number : What → Option ℕ
taken_number (what.Take seq route number values) = Some number
taken_number _ = None

abbrev pub first_taken : List What → Option ℕ
first_taken [] = None
first_taken (w ∷ ws) = taken_number w

-- Lines that show no take

refusal-not : (schema : Schema) (w : What) → IsRefusal schema w → taken_number w ≡ None
refusal-not schema (what.RefusedSend cause number) is = refl
refusal-not schema (what.RefusedClose cause) is = refl
refusal-not schema (what.RefusedResolve cause) is = refl
refusal-not schema (what.RefusedReject cause) is = refl
refusal-not schema _ is = absurd is

renaming-not : (w : What) → IsRenaming w → taken_number w ≡ None
renaming-not (what.Keep seq name) is = refl
renaming-not (what.Let name id) is = refl
renaming-not _ is = absurd is

choice-not : (b : Bool) (v w : What) → taken_number v ≡ None → taken_number w ≡ None → taken_number (cond b v w) ≡ None
choice-not true v w a b = a
choice-not false v w a b = b

answering-not : (seq : ℤ) (vs : Option Values) → taken_number (answering_line seq vs) ≡ None
answering-not seq None = refl
answering-not seq (Some vs) = refl

shut-not : (last : Item) → taken_number (shut_line last) ≡ None
shut-not (item.Message m sync level) = refl
shut-not item.Broken = refl

resume-not : (seq : ℤ) (a : Answer) → taken_number (resume_line seq a) ≡ None
resume-not seq (answer.Ok vs) = refl
resume-not seq (answer.Fault reason) = refl

farewell-not : (packet : Packet) → taken_number (farewell_line packet) ≡ None
farewell-not (message m) = refl
farewell-not mark = refl

unknown-not : (seq : ℤ) (body : Body) → taken_number (unknown_line seq body) ≡ None
unknown-not seq (Request vs) = refl
unknown-not seq (Reply vs) = refl
unknown-not seq (Fault reason) = refl
unknown-not seq Goodbye = refl

none-some : {A : Type 0} {o : Option ℕ} {n : ℕ} → o ≡ None → o ≡ Some n → A
none-some a b = let both : None ≡ Some _ = sym a ∙ b in cc

-- Parts

first-takes : {schema : Schema} {e f : End} {ws : List What} {ps : List Packet} {p : Phase} (number : ℕ) (vs : List What) → FirstPart schema e ws ps f p → first_taken (ws ++ vs) ≡ Some number → TakesRequest e number
first-takes {schema} number more (Parts.refuses w is) e = none-some (refusal-not schema w is) e
first-takes number more (Parts.renames w is) e = none-some (renaming-not w is) e
first-takes number more (Parts.flushes o) e = cc
first-takes {e = x} number more (Parts.sends row route vs name sent) e =
    none-some (choice-not (is_sync_row row) (what.Call (send.request_of x row route vs).seq (send.request_of x row route vs).transaction route row.number vs) (what.Send (send.request_of x row route vs).seq route row.number vs) refl refl) e
first-takes number more (Parts.answers by vs r row found may accepted used) e = none-some (answering-not r.seq vs) e
first-takes number more (Parts.closes o waits) e = cc
first-takes number more (Parts.dies o) e = cc
first-takes number more (Parts.dies_silent o alive) e = cc
first-takes number more (Parts.takes m sync level row vs next body found stays) e = let same : m.number ≡ number = cc in record { m = m; sync = sync; level = level; vs = vs; next = next; body = body; number_is = same }
first-takes number more (Parts.drops m sync level row vs id replies next body found gone is) e = cc
first-takes number more (Parts.drops_unknown m sync level vs next body found) e = cc
first-takes number more (Parts.takes_reply m sync level a next body settles) e = cc
first-takes number more (Parts.settles m sync level row a next body found is) e = cc
first-takes number more (Parts.shuts last next is) e = none-some (shut-not last) e
first-takes number more (Parts.returns entry row vs told lost is t l) e = cc
first-takes {schema} {e = x} number more (Parts.resumes wait row on_top found) e = none-some (resume-not wait.seq (received schema x.actors row wait.given)) e

own-takes : {schema : Schema} {e f : End} {ws : List What} {ps : List Packet} {q : Phase} (number : ℕ) → OwnParts schema e ws ps f q → first_taken ws ≡ Some number → TakesRequest e number
own-takes number (Parts.begun {vs} part rest ended) e = first-takes number vs part e

delivery-not : {schema : Schema} {packet : Packet} {e f : End} {ws : List What} {ps : List Packet} {q : Phase} → DeliveryPart schema packet e ws ps f q → first_taken ws ≡ None
delivery-not (Parts.gets_request m row vs body found none) = refl
delivery-not (Parts.replaces m row vs old sync level replies body found rep is) = refl
delivery-not (Parts.gets_answer m row a body found sync) = refl
delivery-not (Parts.gets_reply m row a body found sync) = refl
delivery-not (Parts.drains packet is) = farewell-not packet
delivery-not (Parts.passes_by m other found) = unknown-not m.seq m.body

-- Steps

-- the first line is on the side of all, and shows that a message is taken if that line does
pub record FirstLine (side : Side) (whats : List What) (line : Line) : Type 0 where
  pub side_is : line.side ≡ side
  pub taken : first_taken whats ≡ taken_number line.what

first-line : (side : Side) (whats : List What) (line : Line) (rest : List Line) → line ∷ rest ≡ map (line_at side) whats → FirstLine side whats line
first-line side [] line rest e = cc
first-line side (w ∷ ws) line rest e =
    let same : line ≡ line_at side w = cc in
    record { side_is = ap (λ (l : Line). l.side) same; taken = ap (λ (l : Line). taken_number l.what) (sym same) }

-- A step whose first line shows that a request is taken: the line is of the end's side, and the end takes a request
-- of that message.
pub record TakeStep (e : End) (line : Line) (number : ℕ) : Type 0 where
  pub side_is : line.side ≡ e.side
  pub takes : TakesRequest e number

own-step : {schema : Schema} {e f : End} {ws : List What} {ps : List Packet} {q : Phase} (number : ℕ) (line : Line) (lines rest : List Line) → OwnParts schema e ws ps f q → lines ≡ map (line_at e.side) ws → lines ≡ line ∷ rest → taken_number line.what ≡ Some number → TakeStep e line number
own-step {e = x} {ws} number line lines rest parts a b c =
    let first : FirstLine x.side ws line = first-line x.side ws line rest (sym b ∙ a) in
    record { side_is = first.side_is; takes = own-takes number parts (first.taken ∙ c) }

pub step-takes : (schema : Schema) (e : End) (link : List Packet) (ev : Event) (output : Output) (line : Line) (rest : List Line) (number : ℕ) → IsStepOfParts schema e link ev output → output.lines ≡ line ∷ rest → taken_number line.what ≡ Some number → TakeStep e line number
step-takes schema e link event.deliver output line rest number (packet, first, opened, s) is taken =
    let one : FirstLine e.side s.whats line = first-line e.side s.whats line rest (sym is ∙ s.lines) in
    none-some (delivery-not s.parts) (one.taken ∙ taken)
step-takes schema e link (event.send route n vs name) output line rest number s is taken = own-step number line output.lines rest s.parts s.lines is taken
step-takes schema e link (event.answer by vs) output line rest number s is taken = own-step number line output.lines rest s.parts s.lines is taken
step-takes schema e link (event.keep seq name) output line rest number s is taken = own-step number line output.lines rest s.parts s.lines is taken
step-takes schema e link (event.name name id) output line rest number s is taken = own-step number line output.lines rest s.parts s.lines is taken
step-takes schema e link event.close output line rest number s is taken = own-step number line output.lines rest s.parts s.lines is taken
step-takes schema e link event.die output line rest number s is taken = own-step number line output.lines rest s.parts s.lines is taken
step-takes schema e link event.take output line rest number s is taken = own-step number line output.lines rest s.parts s.lines is taken
step-takes schema e link (event.return vs) output line rest number s is taken = own-step number line output.lines rest s.parts s.lines is taken
step-takes schema e link event.resume output line rest number s is taken = own-step number line output.lines rest s.parts s.lines is taken
step-takes schema e link event.flush output line rest number s is taken = own-step number line output.lines rest s.parts s.lines is taken
