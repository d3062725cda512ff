-- Answers that an end owes, as steps make them and as the code sends them.
use Rattle.std.proofs.Common.{◌≡◌, ℕ, suc, ◌+◌, ◌≤◌, Bool, true, false, if◌then◌else◌, List, length, Option, Some, None, refl, ap, ◌∙◌, arith}
use Rattle.ipdl_base.specs.declared.kinds.Side.{Side}
use Rattle.ipdl_base.specs.declared.line.What.{What}
use Rattle.ipdl_base.specs.declared.message.Message.{Message}
use Rattle.nesting_core.specs.declared.frame.Answer.{Answer}
use Rattle.channel_model.specs.Ends.{message}
use Rattle.channel_model.specs.Outputs.{AnsweredRequest, Change, Output, ◌▷◌, answer_line, answered, body_of, is_open, line, line_at, put, reply_to, unchanged, when}
use Rattle.end_steps.specs.declared.answer_packet.AnswerPacket.{AnswerPacket}
use Rattle.end_parts.specs.declared.packet.Packet.TheVariants.{Bytes}
use Rattle.end_steps.specs.AnswerPackets.{OwedAnswer, IsPacketFor, owed_if, with_answer_packet}
use Rattle.end_parts.specs.OutputView.{OutputView, with_line, with_packet}
use Rattle.end_parts.specs.PlainLines.{plain_what}
use Rattle.channel_core.specs.EndView.{EndView, HasFrame}
use Rattle.channel_core.specs.Tracks.{Tracks}
use Rattle.channel_core.proofs.FrameLemmas.{reply-plain}
use Rattle.channel_core.proofs.TrackLemmas.{tracks_line, tracks_put}

-- an answer that is owed goes out
abbrev pub answers_owed : Option OwedAnswer → Change
answers_owed None = unchanged
answers_owed (Some owed) = line (answer_line owed.request.seq owed.given) ▷ put (message (reply_to owed.request (body_of owed.given)))

-- an answer that only an open end gives, under a condition
pub answered_owed : (told b : Bool) (q : AnsweredRequest) (a : Answer) (o : Output) → is_open o.end.state ≡ b → when told (answered q a) o ≡ answers_owed (owed_if b (if told then Some (record { request = q; given = a }) else None)) o
answered_owed true true q a o is = ap (λ (b : Bool). when b (line (answer_line q.seq a) ▷ put (message (reply_to q (body_of a)))) o) is
answered_owed true false q a o is = ap (λ (b : Bool). when b (line (answer_line q.seq a) ▷ put (message (reply_to q (body_of a)))) o) is
answered_owed false true q a o is = refl
answered_owed false false q a o is = refl

-- one of two such answers, which are never given both
pub either_owed : (told lost b : Bool) (q r : AnsweredRequest) (a c : Answer) (o : Output) → is_open o.end.state ≡ b → (told ≡ true → lost ≡ false)
    → (when told (answered q a) ▷ when lost (answered r c)) o ≡ answers_owed (owed_if b (if told then Some (record { request = q; given = a }) else (if lost then Some (record { request = r; given = c }) else None))) o
either_owed true true b q r a c o is one = let bad : true ≡ false = one refl in cc
either_owed true false b q r a c o is one = answered_owed true b q a o is
either_owed false lost b q r a c o is one = answered_owed lost b r c o is

-- the end after it has lost its outbox at most
pub owed_end : (owed : Option OwedAnswer) (o : Output) → (answers_owed owed o).end ≡ record o.end { outbox = (answers_owed owed o).end.outbox }
owed_end None o = refl
owed_end (Some owed) o = refl

-- what the code puts
pub tracks_owed : (v : EndView) (o : Output) (out out' : OutputView) (owed : Option OwedAnswer) (packet : Option AnswerPacket) → IsPacketFor v.schema owed packet → Tracks v o out → out' ≡ with_answer_packet o.end.side packet out → Tracks v (answers_owed owed o) out'
tracks_owed v o out out' None None h t e = rw e t
tracks_owed v o out out' None (Some p) h t e = absurd h
tracks_owed v o out out' (Some owed) None h t e = absurd h
tracks_owed v o out out' (Some owed) (Some p) h t e =
    let reply : Message = reply_to owed.request (body_of owed.given) in
    let what : What = answer_line owed.request.seq owed.given in
    let said : OutputView = with_line out (line_at o.end.side (plain_what p.what)) in
    let t1 : Tracks v (line what o) said = tracks_line v o out said what t (ap (λ (w : What). with_line out (line_at o.end.side w)) h.line) in
    let framed : HasFrame v.schema reply =
    record { frame = record { fits = h.frame.fits; small = h.frame.small; spelled = refl }; plain = reply-plain owed.request owed.given p.what h.line } in
    tracks_put v (line what o) said out' (message reply) framed t1 (e ∙ ap (λ (bytes : List ℕ). with_packet said (Bytes bytes)) h.frame.spelled)

-- The room that it leaves.
pub record LeavesRoom (out out' : OutputView) : Type 0 where
  pub owed : out'.lines_owed ≡ out.lines_owed
  pub lines : out.line_spare ≤ out'.line_spare + 1
  pub packets : length out.frames + 2 ≤ out.packet_spare → suc (length out'.frames) ≤ out'.packet_spare
  pub goodbye : out'.goodbye ≡ out.goodbye
  pub outbox : length out'.outbox ≤ length out.outbox

pub owed_room : (side : Side) (packet : Option AnswerPacket) (out out' : OutputView) → out' ≡ with_answer_packet side packet out → LeavesRoom out out'
owed_room side None out out' e = rw e (record { owed = refl; lines = omega arith; packets = λ h. omega (arith, h); goodbye = refl; outbox = omega arith })
owed_room side (Some p) out out' e = rw e (record { owed = refl; lines = omega arith; packets = λ h. omega (arith, h); goodbye = refl; outbox = omega arith })
