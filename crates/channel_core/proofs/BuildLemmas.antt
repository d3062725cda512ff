-- Actors that are built.
use Rattle.std.proofs.Common.{◌≡◌, ℕ, ℤ, ◌+◌, ◌≤◌, List, [], ◌∷◌, ◌++◌, length, Option, Some, None, refl, ◌∙◌, arith}
use Rattle.std.proofs.lemmas.List.{length-append}
use Rattle.actor_tree.specs.declared.actor.Actor.{Actor}
use Rattle.ipdl_base.specs.declared.kinds.Side.{Side}
use Rattle.ipdl_base.specs.declared.line.What.TheVariants as what
use Rattle.ipdl_base.specs.declared.schema.Kind.{Kind}
use Rattle.ipdl_base.specs.declared.schema.Kind.TheVariants.{Normal, Constructor, Delete}
use Rattle.channel_model.specs.Ends.{End}
use Rattle.channel_model.specs.Outputs.{Change, Output, line, line_at, on_end, unchanged}
use Rattle.channel_model.specs.Sends as send
use Rattle.end_steps.specs.BuiltActors.{built_by, with_built, with_built_line}
use Rattle.end_parts.specs.OutputView.{OutputView, with_line}
use Rattle.channel_core.specs.EndView.{EndView}
use Rattle.channel_core.specs.Tracks.{Tracks}
use Rattle.channel_core.proofs.TrackLemmas.{tracks_end, tracks_line, tracks_room}

-- an actor is built, if there is one to build
abbrev pub builds : Option Actor → Change
builds None = unchanged
builds (Some a) = send.built a.id a.protocol a.manager

pub constructs_built : (made route : ℤ) (kind : Kind) (o : Output) → send.constructs made route kind o ≡ builds (built_by kind made route) o
constructs_built made route Normal o = refl
constructs_built made route (Constructor protocol) o = refl
constructs_built made route Delete o = refl

-- the end after it has one actor more
pub built_end : (built : Option Actor) (o : Output) → (builds built o).end ≡ record o.end { actors = with_built built o.end.actors }
built_end None o = refl
built_end (Some a) o = refl

pub tracks_built : (v : EndView) (o : Output) (out out' : OutputView) (built : Option Actor) → Tracks v o out → out' ≡ with_built_line o.end.side built out → Tracks v (builds built o) out'
tracks_built v o out out' None t e = rw e t
tracks_built v o out out' (Some a) t e =
    let o1 : Output = on_end (λ (x : End). record x { actors = x.actors ++ record { id = a.id; protocol = a.protocol; manager = a.manager } ∷ [] }) o in
    let said : OutputView = with_line out (line_at o.end.side (what.Built a.id a.protocol)) in
    let t1 : Tracks v o1 out = tracks_end v o out (λ (x : End). record x { actors = x.actors ++ record { id = a.id; protocol = a.protocol; manager = a.manager } ∷ [] }) t refl in
    let t2 : Tracks v (line (what.Built a.id a.protocol) o1) said = tracks_line v o1 out said (what.Built a.id a.protocol) t1 refl in
    tracks_room v (line (what.Built a.id a.protocol) o1) said out' t2 (e ∙ rw e refl)

-- The room that an actor takes: its line, and the line of its fall.
pub record TakesRoom (built : Option Actor) (out out' : OutputView) : Type 0 where
  pub grows : ℕ
  pub actors : (xs : List Actor) → length (with_built built xs) ≡ length xs + grows
  pub owed : out'.lines_owed ≡ out.lines_owed + grows
  pub lines : out.line_spare ≤ out'.line_spare + grows
  pub few : grows ≤ 1
  pub packets : out'.packet_spare ≡ out.packet_spare
  pub frames : out'.frames ≡ out.frames
  pub goodbye : out'.goodbye ≡ out.goodbye
  pub outbox : out'.outbox ≡ out.outbox

pub built_room : (side : Side) (built : Option Actor) (out out' : OutputView) → out' ≡ with_built_line side built out → TakesRoom built out out'
built_room side None out out' e = rw e (record { grows = 0; actors = λ xs. omega arith; owed = omega arith; lines = omega arith; few = omega arith; packets = refl; frames = refl; goodbye = refl; outbox = refl })
built_room side (Some a) out out' e = rw e (record { grows = 1; actors = λ xs. length-append xs (a ∷ []); owed = refl; lines = omega arith; few = omega arith; packets = refl; frames = refl; goodbye = refl; outbox = refl })
