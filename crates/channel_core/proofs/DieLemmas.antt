-- A death.
use Rattle.std.proofs.Common.{◌≡◌, ◌-◌, ◌≤◌, Bool, true, false, cond, List, [], map, length, refl, ap, sym, ◌∙◌, arith}
use Rattle.std.proofs.lemmas.Bool.{false≢true}
use Rattle.ipdl_base.specs.declared.kinds.EndState.{EndState}
use Rattle.ipdl_base.specs.declared.kinds.EndState.TheVariants.{Open, Draining, Closed, Dead}
use Rattle.ipdl_base.specs.declared.line.What.TheVariants as what
use Rattle.pending_queue.specs.declared.item.Item.{Item}
use Rattle.pending_queue.specs.Plain.{plain_item}
use Rattle.channel_model.specs.Acts.{may_die, die}
use Rattle.channel_model.specs.Ends.{End, StackEntry, mark}
use Rattle.channel_model.specs.Events as event
use Rattle.channel_model.specs.Outputs.{Output, beginning, line, line_at, put, when, is_open}
use Rattle.channel_model.specs.Steps.{provided}
use Rattle.end_parts.specs.declared.packet.Packet.TheVariants.{Broken}
use Rattle.end_parts.specs.OutputView.{OutputView, with_line, with_packet}
use Rattle.channel_core.specs.Inside.{IsInside}
use Rattle.channel_core.specs.Room.{room, own_lines}
use Rattle.channel_core.specs.EndView.{EndView}
use Rattle.channel_core.specs.Tracks.{Tracks}
use Rattle.channel_core.proofs.MadeLemmas.{Made, HasRoom}
use Rattle.channel_core.proofs.TrackLemmas.{tracks_line, tracks_put, tracks_room}

-- what the code makes of a death
pub record CodeDies (e : End) (out said paid out' : OutputView) (items : List Item) (stack : List StackEntry) : Type 0 where
  pub says : said ≡ with_line out (line_at e.side what.Die)
  pub pays : paid ≡ record said { lines_owed = said.lines_owed - 1 }
  pub marks : out' ≡ cond (is_open e.state) (with_packet paid Broken) paid
  pub nothing_arrived : items ≡ []
  pub no_frame : stack ≡ []

-- an end as a death leaves it
abbrev pub dead : End → OutputView → List Item → List StackEntry → End
dead e out items stack = record e { state = Dead; arrived = map plain_item items; stack = stack; outbox = out.outbox }

abbrev said_of : End → Output
said_of e = line what.Die (beginning e)

marked : (b : Bool) (v : EndView) (o : Output) (out out' : OutputView) → Tracks v o out → out' ≡ cond b (with_packet out Broken) out → Tracks v (when b (put mark) o) out'
marked true v o out out' t e = tracks_put v o out out' mark tt t e
marked false v o out out' t e = rw e t

-- the end of the output, but for its state, stack and items
ended : (b : Bool) (e : End) → (record (when b (put mark) (said_of e)).end { state = Dead; arrived = []; stack = [] }) ≡ record e { state = Dead; arrived = []; stack = []; outbox = (when b (put mark) (said_of e)).end.outbox }
ended true e = refl
ended false e = refl

pub dies : (v : EndView) (out said paid out' : OutputView) (items : List Item) (stack : List StackEntry) → may_die v.end ≡ true → Tracks v (beginning v.end) out → CodeDies v.end out said paid out' items stack → Made v [] event.die (dead v.end out' items stack) out'
dies v out said paid out' items stack may t c =
    let o : Output = when (is_open v.end.state) (put mark) (said_of v.end) in
    let t1 : Tracks v (said_of v.end) said = tracks_line v (beginning v.end) out said what.Die t c.says in
    let t2 : Tracks v (said_of v.end) paid = tracks_room v (said_of v.end) said paid t1 (c.pays ∙ rw c.pays refl) in
    let t3 : Tracks v o out' = marked (is_open v.end.state) v (said_of v.end) paid out' t2 c.marks in
    record {
      output = die (beginning v.end);
      steps = ap (λ (p : Bool). provided p die v.end) may;
      tracks = record { lines = t3.lines; packets = t3.packets; outbox = t3.outbox; frames = t3.frames; waiting = t3.waiting; framed = t3.framed };
      ends = rw (c.nothing_arrived, c.no_frame, t3.outbox) (sym (ended (is_open v.end.state) v.end));
    }

own_at_least : (state : EndState) (e : End) → e.state ≡ state → may_die e ≡ true → 1 ≤ own_lines e.state
own_at_least Open e s may = rw s (omega arith)
own_at_least Draining e s may = rw s (omega arith)
own_at_least Closed e s may = rw s (omega arith)
own_at_least Dead e s may = absurd (false≢true (rw s at may))

pub has_line : (v : EndView) (out : OutputView) → may_die v.end ≡ true → IsInside v.schema v.end out → 1 ≤ out.line_spare
unfolding room
has_line v out may inside = omega (arith, own_at_least v.end.state v.end refl may, inside.owes, inside.spare)

-- what the mark takes
record Marks (paid out' : OutputView) : Type 0 where
  waiting : length out'.outbox ≤ length paid.outbox
  owed : out'.lines_owed ≡ paid.lines_owed
  spare : out'.line_spare ≡ paid.line_spare

marks_at : (b : Bool) (paid out' : OutputView) → out' ≡ cond b (with_packet paid Broken) paid → Marks paid out'
marks_at true paid out' e = rw e (record { waiting = omega arith; owed = refl; spare = refl })
marks_at false paid out' e = rw e (record { waiting = omega arith; owed = refl; spare = refl })

pub die_room : (v : EndView) (out said paid out' : OutputView) (items : List Item) (stack : List StackEntry) → may_die v.end ≡ true → out.outbox ≡ v.end.outbox → CodeDies v.end out said paid out' items stack → IsInside v.schema v.end out → HasRoom v.schema (dead v.end out' items stack) out'
unfolding room
die_room v out said paid out' items stack may box c inside =
    let m : Marks paid out' = marks_at (is_open v.end.state) paid out' c.marks in
    let own : 1 ≤ own_lines v.end.state = own_at_least v.end.state v.end refl may in
    let paid_owed : paid.lines_owed ≡ out.lines_owed - 1 = ap (λ (o : OutputView). o.lines_owed) c.pays ∙ ap (λ (o : OutputView). o.lines_owed - 1) c.says in
    let paid_spare : paid.line_spare ≡ out.line_spare - 1 = ap (λ (o : OutputView). o.line_spare) c.pays ∙ ap (λ (o : OutputView). o.line_spare) c.says in
    let boxes : length paid.outbox ≡ length v.end.outbox = ap (λ (o : OutputView). length o.outbox) c.pays ∙ ap (λ (o : OutputView). length o.outbox) c.says ∙ ap length box in
    record {
      owes = rw c.no_frame (omega (arith, inside.owes, m.owed, m.waiting, paid_owed, own, boxes));
      spare = omega (arith, inside.spare, m.owed, m.spare, paid_owed, paid_spare);
      packets = λ e. absurd (false≢true e);
      farewell = λ e. absurd (false≢true e);
    }
