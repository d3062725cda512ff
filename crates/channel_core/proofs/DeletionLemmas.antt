-- Deletions.
use Rattle.std.proofs.Common.{◌≡◌, ℤ, ◌+◌, ◌-◌, ◌≤◌, List, length, refl, ap, ◌∙◌, arith}
use Rattle.std.specs.List.{flat_map}
use Rattle.actor_tree.specs.declared.actor.Actor.{Actor}
use Rattle.actor_tree.specs.Fall.{post_order}
use Rattle.ipdl_base.specs.declared.kinds.Side.{Side}
use Rattle.ipdl_base.specs.declared.line.What.{What}
use Rattle.ipdl_base.specs.declared.schema.Kind.{Kind}
use Rattle.ipdl_base.specs.declared.schema.Kind.TheVariants.{Normal, Constructor, Delete}
use Rattle.channel_model.specs.Ends.{PromiseEntry}
use Rattle.channel_model.specs.Falls.{deletes, fall_lines, why_deleted}
use Rattle.channel_model.specs.Outputs.{Output, lines}
use Rattle.end_steps.specs.Deletions.{HasDeleted}
use Rattle.end_parts.specs.OutputView.{OutputView}
use Rattle.end_parts.specs.PromiseRequests.{pending_in}
use Rattle.channel_core.specs.EndView.{EndView}
use Rattle.channel_core.specs.Tracks.{Tracks}
use Rattle.channel_core.proofs.TrackLemmas.{tracks_lines, tracks_room}

-- a destructor's deletion, as the code makes it
pub record Deletes (v : EndView) (o : Output) (kind : Kind) (route : ℤ) (actors : List Actor) (promises : List PromiseEntry) (out : OutputView) : Type 0 where
  pub tracks : Tracks v (deletes route kind o) out
  pub ends : record o.end { actors = actors; promises = promises } ≡ (deletes route kind o).end

pub tracks_deleted : (v : EndView) (o : Output) (kind : Kind) (route : ℤ) (out : OutputView) (actors : List Actor) (promises : List PromiseEntry) (out' : OutputView)
    → Tracks v o out → HasDeleted kind o.end.side route o.end.actors o.end.promises out actors promises out' → Deletes v o kind route actors promises out'
tracks_deleted v o Normal route out actors promises out' t h = record { tracks = rw h.same_out t; ends = rw (h.same_actors, h.same_promises) refl }
tracks_deleted v o (Constructor protocol) route out actors promises out' t h = record { tracks = rw h.same_out t; ends = rw (h.same_actors, h.same_promises) refl }
tracks_deleted v o Delete route out actors promises out' t h =
    let fell : List What = flat_map (fall_lines (why_deleted route) o.end.promises) (post_order route o.end.actors) in
    let t1 : Tracks v (lines fell o) h.said = tracks_lines v o out h.said fell t h.falls.said in
    let t2 : Tracks v (deletes route Delete o) h.said = record { lines = t1.lines; packets = t1.packets; outbox = t1.outbox; frames = t1.frames; waiting = t1.waiting; framed = t1.framed } in
    record { tracks = tracks_room v (deletes route Delete o) h.said out' t2 (h.pays ∙ rw h.pays refl); ends = rw (h.falls.left, h.falls.rejected) refl }

-- The room that it leaves: each line was owed.
pub record KeepsRoom (actors : List Actor) (promises : List PromiseEntry) (out : OutputView) (actors' : List Actor) (promises' : List PromiseEntry) (out' : OutputView) : Type 0 where
  pub owes : (length actors' + pending_in promises') + out.lines_owed ≤ (length actors + pending_in promises) + out'.lines_owed
  pub spare : out.lines_owed ≤ out.line_spare → out'.lines_owed ≤ out'.line_spare
  pub packets : out'.packet_spare ≡ out.packet_spare
  pub frames : out'.frames ≡ out.frames
  pub goodbye : out'.goodbye ≡ out.goodbye
  pub outbox : out'.outbox ≡ out.outbox

pub deleted_room : (kind : Kind) (side : Side) (route : ℤ) (actors : List Actor) (promises : List PromiseEntry) (out : OutputView) (actors' : List Actor) (promises' : List PromiseEntry) (out' : OutputView)
    → HasDeleted kind side route actors promises out actors' promises' out' → KeepsRoom actors promises out actors' promises' out'
deleted_room Normal side route actors promises out actors' promises' out' h = rw (h.same_actors, h.same_promises, h.same_out) (record { owes = omega arith; spare = λ e. e; packets = refl; frames = refl; goodbye = refl; outbox = refl })
deleted_room (Constructor protocol) side route actors promises out actors' promises' out' h = rw (h.same_actors, h.same_promises, h.same_out) (record { owes = omega arith; spare = λ e. e; packets = refl; frames = refl; goodbye = refl; outbox = refl })
deleted_room Delete side route actors promises out actors' promises' out' h =
    let owed : out'.lines_owed ≡ h.said.lines_owed - (out.line_spare - h.said.line_spare) = ap (λ (g : OutputView). g.lines_owed) h.pays in
    let said_owed : h.said.lines_owed ≡ out.lines_owed = ap (λ (g : OutputView). g.lines_owed) h.falls.said in
    let spare : out'.line_spare ≡ h.said.line_spare = ap (λ (g : OutputView). g.line_spare) h.pays in
    record {
      owes = omega (arith, h.falls.room, h.falls.fewer, owed, said_owed);
      spare = λ e. omega (arith, e, h.falls.room, h.falls.fewer, owed, said_owed, spare);
      packets = ap (λ (g : OutputView). g.packet_spare) h.pays ∙ ap (λ (g : OutputView). g.packet_spare) h.falls.said;
      frames = ap (λ (g : OutputView). g.frames) h.pays ∙ ap (λ (g : OutputView). g.frames) h.falls.said;
      goodbye = ap (λ (g : OutputView). g.goodbye) h.pays ∙ ap (λ (g : OutputView). g.goodbye) h.falls.said;
      outbox = ap (λ (g : OutputView). g.outbox) h.pays ∙ ap (λ (g : OutputView). g.outbox) h.falls.said;
    }
