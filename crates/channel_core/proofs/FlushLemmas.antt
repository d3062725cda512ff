-- The outbox that goes onto the link.
use Rattle.std.proofs.Common.{◌≡◌, ◌-◌, ◌<◌, Bool, true, false, not, List, [], ◌∷◌, ◌++◌, length, refl, ap, ◌∙◌, arith}
use Rattle.ipdl_base.specs.declared.line.What.TheVariants as what
use Rattle.ipdl_base.specs.declared.message.Message.{Message}
use Rattle.ipdl_base.specs.declared.schema.Schema.{Schema}
use Rattle.channel_model.specs.Ends.{End}
use Rattle.channel_model.specs.Events as event
use Rattle.channel_model.specs.Outputs.{beginning, line, line_at, is_open}
use Rattle.channel_model.specs.Returns.{flush, may_flush, is_empty}
use Rattle.channel_model.specs.Steps.{provided}
use Rattle.end_parts.specs.OutputView.{OutputView, with_line, without_outbox}
use Rattle.channel_core.specs.Inside.{IsInside}
use Rattle.channel_core.specs.Room.{room}
use Rattle.channel_core.specs.EndView.{EndView}
use Rattle.channel_core.specs.Tracks.{Tracks}
use Rattle.channel_core.proofs.MadeLemmas.{Made, HasRoom}
use Rattle.channel_core.proofs.TrackLemmas.{tracks_line, tracks_room, tracks_flush}

-- What the code makes of a flush.
pub record CodeFlushes (v : EndView) (out said paid flushed : OutputView) : Type 0 where
  pub says : said ≡ with_line out (line_at v.end.side (what.Flush (length v.end.outbox)))
  pub pays : paid ≡ record said { lines_owed = said.lines_owed - 1 }
  pub flushes : flushed ≡ record (without_outbox paid) { packets = paid.packets ++ paid.frames; packet_spare = paid.packet_spare - length paid.frames }

pub flushes : (v : EndView) (out said paid flushed : OutputView) → may_flush v.end ≡ true → Tracks v (beginning v.end) out → CodeFlushes v out said paid flushed → Made v [] event.flush (record v.end { outbox = flushed.outbox }) flushed
flushes v out said paid flushed may t c =
    let w = what.Flush (length v.end.outbox) in
    let t1 : Tracks v (line w (beginning v.end)) said = tracks_line v (beginning v.end) out said w t c.says in
    let t2 : Tracks v (line w (beginning v.end)) paid = tracks_room v (line w (beginning v.end)) said paid t1 (c.pays ∙ rw c.pays refl) in
    let t3 = tracks_flush v (line w (beginning v.end)) paid flushed t2 (c.flushes ∙ rw c.flushes refl) in
    record {
      output = flush (beginning v.end);
      steps = ap (λ (p : Bool). provided p flush v.end) may;
      tracks = record { lines = t3.lines; packets = t3.packets; outbox = t3.outbox; frames = t3.frames; waiting = t3.waiting; framed = t3.framed };
      ends = ap (λ (ms : List Message). record v.end { outbox = ms }) t3.outbox;
    }

pub has_line : (v : EndView) (out : OutputView) → IsInside v.schema v.end out → 0 < length v.end.outbox → 0 < out.line_spare
unfolding room
has_line v out inside some = omega (arith, inside.owes, inside.spare)

some_box : (ms : List Message) → 0 < length ms → not (is_empty ms) ≡ true
some_box [] h = absurd (omega arith)
some_box (m ∷ ms) h = refl

open_at : (b : Bool) (e : End) → is_open e.state ≡ b → (is_open e.state ≡ false → e.outbox ≡ []) → 0 < length e.outbox → is_open e.state ≡ true
open_at true e s none h = s
open_at false e s none h = let gone : length e.outbox ≡ 0 = ap length (none s) in absurd (omega (arith, gone))

-- an end with an outbox may flush
pub may_flush_some : (schema : Schema) (e : End) (out : OutputView) → IsInside schema e out → 0 < length e.outbox → may_flush e ≡ true
may_flush_some schema e out inside h =
    let opens : is_open e.state ≡ true = open_at (is_open e.state) e refl inside.kept.in_state.outbox h in
    rw (opens, some_box e.outbox h) refl

pub flush_room : (v : EndView) (out said paid flushed : OutputView) → 0 < length v.end.outbox → out.outbox ≡ v.end.outbox → IsInside v.schema v.end out → CodeFlushes v out said paid flushed → HasRoom v.schema (record v.end { outbox = flushed.outbox }) flushed
unfolding room
flush_room v out said paid flushed some box inside c =
    let none : length flushed.outbox ≡ 0 = ap (λ (g : OutputView). length g.outbox) c.flushes in
    let no_frames : length flushed.frames ≡ 0 = ap (λ (g : OutputView). length g.frames) c.flushes in
    let owed : flushed.lines_owed ≡ out.lines_owed - 1 = ap (λ (g : OutputView). g.lines_owed) c.flushes ∙ ap (λ (g : OutputView). g.lines_owed) c.pays ∙ ap (λ (g : OutputView). g.lines_owed - 1) c.says in
    let spare : flushed.line_spare ≡ out.line_spare - 1 = ap (λ (g : OutputView). g.line_spare) c.flushes ∙ ap (λ (g : OutputView). g.line_spare) c.pays ∙ ap (λ (g : OutputView). g.line_spare) c.says in
    let paid_frames : paid.frames ≡ out.frames = ap (λ (g : OutputView). g.frames) c.pays ∙ ap (λ (g : OutputView). g.frames) c.says in
    let paid_room : paid.packet_spare ≡ out.packet_spare = ap (λ (g : OutputView). g.packet_spare) c.pays ∙ ap (λ (g : OutputView). g.packet_spare) c.says in
    let left : flushed.packet_spare ≡ out.packet_spare - length out.frames = ap (λ (g : OutputView). g.packet_spare) c.flushes ∙ rw (paid_frames, paid_room) refl in
    record {
      owes = omega (arith, inside.owes, none, owed, some);
      spare = omega (arith, inside.spare, owed, spare);
      packets = λ x. let enough = inside.packets x in omega (arith, enough, left, no_frames);
      farewell = λ x. ap (λ (g : OutputView). g.goodbye) c.flushes ∙ ap (λ (g : OutputView). g.goodbye) c.pays ∙ ap (λ (g : OutputView). g.goodbye) c.says ∙ inside.farewell x;
    }
