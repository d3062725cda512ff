-- Calls that resume.
use Rattle.std.proofs.Common.{◌≡◌, ℕ, suc, ◌+◌, ◌-◌, ◌<◌, true, List, [], ◌∷◌, drop, length, Option, Some, None, refl, ap, sym, subst, ◌∙◌, arith}
use Rattle.std.specs.List.{AllByRecursion}
use Rattle.std.specs.Option.{option_map, option_map_or, option_and_then}
use Rattle.ipdl_base.specs.declared.line.What.{What}
use Rattle.ipdl_base.specs.declared.message.Message.{Message}
use Rattle.ipdl_base.specs.declared.schema.MessageRow.{MessageRow}
use Rattle.ipdl_base.specs.declared.schema.Schema.{Schema}
use Rattle.ipdl_base.specs.Sound.{message_of}
use Rattle.nesting_core.specs.declared.frame.Answer.{Answer}
use Rattle.nesting_core.specs.declared.frame.StackFrame.{StackFrame}
use Rattle.nesting_core.specs.declared.frame.StackFrame.TheVariants.{Dispatch, Wait}
use Rattle.nesting_core.specs.Plain.{plain_answer}
use Rattle.channel_model.specs.Ends.{StackEntry}
use Rattle.channel_model.specs.Events as event
use Rattle.channel_model.specs.Fitting.{FitsEntry}
use Rattle.channel_model.specs.Numbers.{request_row}
use Rattle.channel_model.specs.Outputs.{Output, beginning, line, line_at}
use Rattle.channel_model.specs.Returns.{AnsweredWait, answered_wait_on_top, answered_wait_of, popped, resume, resume_line}
use Rattle.channel_model.specs.Steps.{step, provided}
use Rattle.channel_model.specs.ValueActors.{received}
use Rattle.channel_model.proofs.FittingRequests.{same-row}
use Rattle.channel_model.proofs.SendParts.{request-number}
use Rattle.end_parts.specs.declared.stack_entries.ResumedCall.{ResumedCall}
use Rattle.end_parts.specs.OutputView.{OutputView, with_line}
use Rattle.end_parts.specs.PlainLines.{plain_what}
use Rattle.end_parts.specs.Resumed.{IsTakenOff, wait_of}
use Rattle.channel_core.specs.Answers.{resumed_with}
use Rattle.channel_core.specs.Inside.{IsInside}
use Rattle.channel_core.specs.Room.{room, waits_in, wait_lines}
use Rattle.channel_core.specs.EndView.{EndView}
use Rattle.channel_core.specs.Tracks.{Tracks}
use Rattle.channel_core.proofs.MadeLemmas.{Made, HasRoom}
use Rattle.channel_core.proofs.TrackLemmas.{tracks_line, tracks_room}

-- the row of the request of a number
abbrev pub RowOf : Schema → ℕ → Type 0
RowOf schema n = (row : MessageRow) × (request_row schema n ≡ Some row)

row_at : (schema : Schema) (n : ℕ) (frame : StackFrame) (wait : AnsweredWait) → answered_wait_of n frame ≡ Some wait → RowOf schema n → RowOf schema wait.number
row_at schema n (Dispatch head) wait e h = cc
row_at schema n (Wait head None) wait e h = cc
row_at schema n (Wait head (Some a)) wait e h =
    let same : n ≡ wait.number = ap (λ (x : Option AnsweredWait). option_map_or (λ (w : AnsweredWait). w.number) x n) e in
    subst (RowOf schema) same h

-- the request of a wait on top has its row
pub wait_row : (schema : Schema) (stack : List StackEntry) (wait : AnsweredWait) → answered_wait_on_top stack ≡ Some wait → AllByRecursion (FitsEntry schema) stack → RowOf schema wait.number
wait_row schema [] wait e h = cc
wait_row schema (entry ∷ below) wait e h = row_at schema entry.number entry.frame wait e (h.0.row, h.0.request.found)

-- an answered wait owes one line
lines_at : (n : ℕ) (frame : StackFrame) (wait : AnsweredWait) (rest : ℕ) → answered_wait_of n frame ≡ Some wait → wait_lines frame + rest ≡ suc rest
lines_at n (Dispatch head) wait rest e = cc
lines_at n (Wait head None) wait rest e = cc
lines_at n (Wait head (Some a)) wait rest e = omega arith

one_line : (stack : List StackEntry) (wait : AnsweredWait) → answered_wait_on_top stack ≡ Some wait → waits_in stack ≡ suc (waits_in (drop 1 stack))
one_line [] wait e = cc
one_line (entry ∷ below) wait e = lines_at entry.number entry.frame wait (waits_in below) e

-- What the code makes of a resume.
pub record CodeResumes (v : EndView) (out : OutputView) (call : ResumedCall) (row : MessageRow) (answer : Answer) (what : What) (stack : List StackEntry) (said paid : OutputView) : Type 0 where
  pub off : IsTakenOff v.end.stack (Some call) stack
  pub found : message_of v.schema call.number ≡ Some row
  pub gives : plain_answer answer ≡ received v.schema v.end.actors row (plain_answer call.given.answer)
  pub line : plain_what what ≡ resume_line call.seq (plain_answer answer)
  pub says : said ≡ with_line out (line_at v.end.side (plain_what what))
  pub pays : paid ≡ record said { lines_owed = said.lines_owed - 1 }

-- the row is that of the request
request_is : (v : EndView) (out : OutputView) (call : ResumedCall) (row : MessageRow) (answer : Answer) (what : What) (stack : List StackEntry) (said paid : OutputView) → IsInside v.schema v.end out → CodeResumes v out call row answer what stack said paid → request_row v.schema call.number ≡ Some row
request_is v out call row answer what stack said paid inside c =
    let r : RowOf v.schema call.number = wait_row v.schema v.end.stack (wait_of call) c.off.0 inside.kept.fitting.stack in
    r.1 ∙ ap Some (same-row v.schema call.number r.0 row (request-number v.schema call.number r.0 r.1).1 c.found)

resume_steps : (v : EndView) (call : ResumedCall) (row : MessageRow) → answered_wait_on_top v.end.stack ≡ Some (wait_of call) → request_row v.schema call.number ≡ Some row
    → step v.schema v.end [] event.resume ≡ Some (resume v.schema v.end (wait_of call) row (beginning v.end))
resume_steps v call row top is =
    ap (λ (w : Option AnsweredWait). option_and_then (λ wait. option_and_then (λ row. provided true (resume v.schema v.end wait row) v.end) (request_row v.schema wait.number)) w) top
    ∙ ap (λ (x : Option MessageRow). option_and_then (λ row. provided true (resume v.schema v.end (wait_of call) row) v.end) x) is

pub resumes : (v : EndView) (out : OutputView) (call : ResumedCall) (row : MessageRow) (answer : Answer) (what : What) (stack : List StackEntry) (said paid : OutputView) → Tracks v (beginning v.end) out → IsInside v.schema v.end out → CodeResumes v out call row answer what stack said paid
    → Made v [] event.resume (record v.end { stack = stack; outbox = paid.outbox }) paid
resumes v out call row answer what stack said paid t inside c =
    let o : Output = popped (beginning v.end) in
    let a : Answer = received v.schema v.end.actors row (plain_answer call.given.answer) in
    let t0 : Tracks v o out = record { lines = t.lines; packets = t.packets; outbox = t.outbox; frames = t.frames; waiting = t.waiting; framed = t.framed } in
    let says : said ≡ with_line out (line_at v.end.side (resume_line call.seq a)) = c.says ∙ ap (λ (w : What). with_line out (line_at v.end.side w)) (c.line ∙ ap (resume_line call.seq) c.gives) in
    let t1 : Tracks v (line (resume_line call.seq a) o) said = tracks_line v o out said (resume_line call.seq a) t0 says in
    let t2 : Tracks v (line (resume_line call.seq a) o) paid = tracks_room v (line (resume_line call.seq a) o) said paid t1 (c.pays ∙ rw c.pays refl) in
    record {
      output = resume v.schema v.end (wait_of call) row (beginning v.end);
      steps = resume_steps v call row c.off.0 (request_is v out call row answer what stack said paid inside c);
      tracks = t2;
      ends = ap (λ (s : List StackEntry). record v.end { stack = s; outbox = paid.outbox }) c.off.1 ∙ ap (λ (ms : List Message). record v.end { stack = drop 1 v.end.stack; outbox = ms }) t2.outbox;
    }

-- the answer is that with which the call resumes
pub resumes_with : (v : EndView) (out : OutputView) (call : ResumedCall) (row : MessageRow) (answer : Answer) (what : What) (stack : List StackEntry) (said paid : OutputView) → IsInside v.schema v.end out → CodeResumes v out call row answer what stack said paid
    → resumed_with v (wait_of call) ≡ Some (plain_answer answer)
unfolding resumed_with
resumes_with v out call row answer what stack said paid inside c =
    ap (λ (x : Option MessageRow). option_map (λ (row : MessageRow). received v.schema v.end.actors row (plain_answer call.given.answer)) x) (request_is v out call row answer what stack said paid inside c) ∙ ap Some (sym c.gives)

pub has_line : (v : EndView) (out : OutputView) (call : ResumedCall) (stack : List StackEntry) → IsInside v.schema v.end out → IsTakenOff v.end.stack (Some call) stack → 0 < out.line_spare
unfolding room
has_line v out call stack inside off = omega (arith, inside.owes, inside.spare, one_line v.end.stack (wait_of call) off.0)

pub resume_room : (v : EndView) (out : OutputView) (call : ResumedCall) (row : MessageRow) (answer : Answer) (what : What) (stack : List StackEntry) (said paid : OutputView) → out.outbox ≡ v.end.outbox → IsInside v.schema v.end out → CodeResumes v out call row answer what stack said paid
    → HasRoom v.schema (record v.end { stack = stack; outbox = paid.outbox }) paid
unfolding room
resume_room v out call row answer what stack said paid box inside c =
    let one : waits_in v.end.stack ≡ suc (waits_in (drop 1 v.end.stack)) = one_line v.end.stack (wait_of call) c.off.0 in
    let waits : waits_in stack ≡ waits_in (drop 1 v.end.stack) = ap waits_in c.off.1 in
    let boxes : length paid.outbox ≡ length v.end.outbox = ap (λ (g : OutputView). length g.outbox) c.pays ∙ ap (λ (g : OutputView). length g.outbox) c.says ∙ ap length box in
    let owed : paid.lines_owed ≡ out.lines_owed - 1 = ap (λ (g : OutputView). g.lines_owed) c.pays ∙ ap (λ (g : OutputView). g.lines_owed - 1) c.says in
    let spare : paid.line_spare ≡ out.line_spare - 1 = ap (λ (g : OutputView). g.line_spare) c.pays ∙ ap (λ (g : OutputView). g.line_spare) c.says in
    let packet_room : paid.packet_spare ≡ out.packet_spare = ap (λ (g : OutputView). g.packet_spare) c.pays ∙ ap (λ (g : OutputView). g.packet_spare) c.says in
    let frames : paid.frames ≡ out.frames = ap (λ (g : OutputView). g.frames) c.pays ∙ ap (λ (g : OutputView). g.frames) c.says in
    record {
      owes = omega (arith, inside.owes, one, waits, boxes, owed);
      spare = omega (arith, inside.spare, owed, spare);
      packets = λ x. rw (packet_room, frames) (inside.packets x);
      farewell = λ x. ap (λ (g : OutputView). g.goodbye) c.pays ∙ ap (λ (g : OutputView). g.goodbye) c.says ∙ inside.farewell x;
    }
