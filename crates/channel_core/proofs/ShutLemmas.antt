-- A goodbye or a mark that is taken.
use Rattle.std.proofs.Common.{◌≡◌, ◌+◌, ◌-◌, ◌≤◌, true, List, [], length, Option, Some, None, option_map, refl, ap, sym, ◌∙◌, arith}
use Rattle.std.specs.Option.{option_map_or}
use Rattle.std.proofs.lemmas.Bool.{false≢true}
use Rattle.std.proofs.lemmas.Option.{same_Some}
use Rattle.actor_tree.specs.declared.actor.Actor.{Actor}
use Rattle.ipdl_base.specs.declared.kinds.EndState.{EndState}
use Rattle.ipdl_base.specs.declared.kinds.EndState.TheVariants.{Open, Draining, Closed, Dead}
use Rattle.ipdl_base.specs.declared.message.Body.{Body}
use Rattle.ipdl_base.specs.declared.message.Body.TheVariants.{Request, Reply, Fault, Goodbye}
use Rattle.ipdl_base.specs.declared.message.Message.{Message}
use Rattle.pending_queue.specs.declared.item.Item.{Item}
use Rattle.pending_queue.specs.declared.item.Item.TheVariants as item
use Rattle.channel_model.specs.Ends.{End, PromiseEntry, Naming}
use Rattle.channel_model.specs.Events as event
use Rattle.channel_model.specs.Falls.{closed}
use Rattle.channel_model.specs.Names.{without_resolvers}
use Rattle.channel_model.specs.Outputs.{Output, beginning, line, line_at}
use Rattle.channel_model.specs.Parts.{left_end}
use Rattle.channel_model.specs.Steps.{step}
use Rattle.channel_model.specs.Takes.{body_taken, item_taken, taken_next, takes_in_state}
use Rattle.channel_model.proofs.Tests.{and-left}
use Rattle.end_steps.specs.Falls.{HasClosed}
use Rattle.end_parts.specs.OutputView.{OutputView, with_line}
use Rattle.end_parts.specs.PromiseRequests.{pending_in}
use Rattle.channel_core.specs.declared.end.taking.Farewell.{Farewell}
use Rattle.channel_core.specs.declared.end.taking.Farewell.TheVariants as farewell
use Rattle.channel_core.specs.declared.end.taking.ItemKind.TheVariants as kind
use Rattle.channel_core.specs.Inside.{IsInside}
use Rattle.channel_core.specs.NextItems.{farewell_line, farewell_reason, kind_of_body, kind_of_item, next_kind}
use Rattle.channel_core.specs.Room.{room, own_lines}
use Rattle.channel_core.specs.EndView.{EndView}
use Rattle.channel_core.specs.Taken.{shut, kind_of, body_kind, item_kind, nothing}
use Rattle.channel_core.specs.Tracks.{Tracks}
use Rattle.channel_core.proofs.CloseLemmas.{Closes, closes, shut_with}
use Rattle.channel_core.proofs.MadeLemmas.{Made, HasRoom}
use Rattle.channel_core.proofs.TakeLemmas.{left, take_steps, taking}
use Rattle.channel_core.proofs.TrackLemmas.{tracks_end, tracks_line, tracks_room}

-- The farewell that is taken next.
pub record IsNextFarewell (v : EndView) (f : Farewell) : Type 0 where
  pub x : Item
  pub next : taken_next v.end ≡ Some x
  pub kind : kind_of_item x ≡ kind.Farewell f

next_at : (v : EndView) (f : Farewell) (found : Option Item) → taken_next v.end ≡ found → next_kind v ≡ Some (kind.Farewell f) → IsNextFarewell v f
next_at v f None e h = let bad : None ≡ Some (kind.Farewell f) = sym (ap (option_map kind_of_item) e) ∙ h in cc
next_at v f (Some x) e h = record { x = x; next = e; kind = same_Some (kind_of_item x) (kind.Farewell f) (sym (ap (option_map kind_of_item) e) ∙ h) }

pub next_farewell : (v : EndView) (f : Farewell) → next_kind v ≡ Some (kind.Farewell f) → IsNextFarewell v f
next_farewell v f h = next_at v f (taken_next v.end) refl h

body_shuts : (v : EndView) (f : Farewell) (m : Message) (body : Body) (o : Output) → kind_of_body body ≡ kind.Farewell f → body_taken v.schema m body o ≡ closed (farewell_reason f) (line (farewell_line f) o)
body_shuts v f m (Request vs) o e = cc
body_shuts v f m (Reply vs) o e = cc
body_shuts v f m (Fault reason) o e = cc
body_shuts v farewell.Goodbye m Goodbye o e = refl
body_shuts v farewell.Mark m Goodbye o e = cc

item_shuts : (v : EndView) (f : Farewell) (x : Item) (o : Output) → kind_of_item x ≡ kind.Farewell f → item_taken v.schema x o ≡ closed (farewell_reason f) (line (farewell_line f) o)
item_shuts v f (item.Message m sync level) o e = body_shuts v f m m.body o e
item_shuts v farewell.Mark item.Broken o e = refl
item_shuts v farewell.Goodbye item.Broken o e = cc

-- What the code makes of a farewell that it takes.
pub record CodeShuts (v : EndView) (f : Farewell) (out mid said : OutputView) (actors : List Actor) (promises : List PromiseEntry) (names : List Naming) (items : List Item) (shut paid : OutputView) : Type 0 where
  pub same : mid ≡ record out { line_spare = mid.line_spare; packet_spare = mid.packet_spare }
  pub lines : out.lines_owed + 1 ≤ mid.line_spare
  pub says : said ≡ with_line mid (line_at v.end.side (farewell_line f))
  pub shuts : HasClosed v.end.side (farewell_reason f) v.end.actors v.end.promises said actors promises shut
  pub releases : names ≡ without_resolvers v.end.names
  pub pays : paid ≡ record shut { lines_owed = shut.lines_owed - (said.line_spare - shut.line_spare) }
  pub nothing_arrived : items ≡ []

-- an end that may take owes a line of its own
owns_at : (state : EndState) → takes_in_state state ≡ true → 1 ≤ own_lines state
owns_at Open e = omega arith
owns_at Draining e = omega arith
owns_at Closed e = cc
owns_at Dead e = cc

module _ (v : EndView) (f : Farewell) (next : next_kind v ≡ Some (kind.Farewell f)) where
  abbrev spoken : Output
  spoken = line (farewell_line f) (left v.end)

  shut_steps : step v.schema v.end [] event.take ≡ Some (closed (farewell_reason f) spoken)
  shut_steps = let n : IsNextFarewell v f = next_farewell v f next in take_steps v n.x n.next ∙ ap Some (item_shuts v f n.x (left v.end) n.kind)

  owns : 1 ≤ own_lines v.end.state
  owns = owns_at v.end.state (and-left (takes_in_state v.end.state) _ (taking v (kind.Farewell f) next))

  pub shuts : (out mid said : OutputView) (actors : List Actor) (promises : List PromiseEntry) (names : List Naming) (items : List Item) (done paid : OutputView) → Tracks v (beginning v.end) out → CodeShuts v f out mid said actors promises names items done paid
      → Made v [] event.take (shut_with v.end actors promises names items paid) paid
  shuts out mid said actors promises names items done paid t h =
      let t0 : Tracks v (beginning v.end) mid = tracks_room v (beginning v.end) out mid t (h.same ∙ rw h.same refl) in
      let t1 : Tracks v (left v.end) mid = tracks_end v (beginning v.end) mid left_end t0 refl in
      let t2 : Tracks v spoken said = tracks_line v (left v.end) mid said (farewell_line f) t1 h.says in
      let c : Closes v spoken (farewell_reason f) actors promises names done = closes v spoken (farewell_reason f) said actors promises names done t2 h.shuts h.releases in
      let t3 : Tracks v (closed (farewell_reason f) spoken) paid = tracks_room v (closed (farewell_reason f) spoken) done paid c.tracks (h.pays ∙ rw h.pays refl) in
      record {
        output = closed (farewell_reason f) spoken;
        steps = shut_steps;
        tracks = t3;
        ends = rw (h.nothing_arrived, t3.outbox ∙ ap (λ (x : End). x.outbox) (sym c.ends)) c.ends;
      }

  -- there is room for the lines of the closing
  pub shut_lines : (out mid said : OutputView) → IsInside v.schema v.end out → out.lines_owed + 1 ≤ mid.line_spare → said.line_spare ≡ mid.line_spare - 1 → length v.end.actors + pending_in v.end.promises ≤ said.line_spare
  unfolding room
  shut_lines out mid said inside lines spare = omega (arith, inside.owes, lines, spare, owns)

  pub shut_room : (out mid said : OutputView) (actors : List Actor) (promises : List PromiseEntry) (names : List Naming) (items : List Item) (done paid : OutputView) → out.outbox ≡ v.end.outbox → IsInside v.schema v.end out → CodeShuts v f out mid said actors promises names items done paid
      → HasRoom v.schema (shut_with v.end actors promises names items paid) paid
  unfolding room
  shut_room out mid said actors promises names items done paid box inside h =
      let said_spare : said.line_spare ≡ mid.line_spare - 1 = ap (λ (g : OutputView). g.line_spare) h.says in
      let said_owed : said.lines_owed ≡ out.lines_owed = ap (λ (g : OutputView). g.lines_owed) h.says ∙ ap (λ (g : OutputView). g.lines_owed) h.same in
      let left_owed : h.shuts.said.lines_owed ≡ said.lines_owed = ap (λ (g : OutputView). g.lines_owed) h.shuts.rejects.said in
      let shut_owed : done.lines_owed ≡ h.shuts.said.lines_owed = ap (λ (g : OutputView). g.lines_owed) h.shuts.falls.said in
      let paid_owed : paid.lines_owed ≡ done.lines_owed - (said.line_spare - done.line_spare) = ap (λ (g : OutputView). g.lines_owed) h.pays in
      let paid_spare : paid.line_spare ≡ done.line_spare = ap (λ (g : OutputView). g.line_spare) h.pays in
      let boxes : length paid.outbox ≡ length v.end.outbox =
      ap (λ (g : OutputView). length g.outbox) h.pays ∙ ap (λ (g : OutputView). length g.outbox) h.shuts.falls.said ∙ ap (λ (g : OutputView). length g.outbox) h.shuts.rejects.said
      ∙ ap (λ (g : OutputView). length g.outbox) h.says ∙ ap (λ (g : OutputView). length g.outbox) h.same ∙ ap length box in
      let rejected_spare : h.shuts.said.line_spare + pending_in v.end.promises ≡ said.line_spare + pending_in h.shuts.left = h.shuts.rejects.spare in
      let fallen_room : h.shuts.said.line_spare + (length actors + pending_in promises) ≤ done.line_spare + (length v.end.actors + pending_in h.shuts.left) = h.shuts.falls.room in
      record {
        owes = omega (arith, inside.owes, owns, h.lines, said_spare, said_owed, left_owed, shut_owed, paid_owed, boxes, rejected_spare, fallen_room);
        spare = omega (arith, h.lines, said_spare, said_owed, left_owed, shut_owed, paid_owed, paid_spare);
        packets = λ x. absurd (false≢true x);
        farewell = λ x. absurd (false≢true x);
      }

  shut_body : (m : Message) (body : Body) → kind_of_body body ≡ kind.Farewell f → body_kind v m body ≡ shut
  shut_body m (Request vs) e = cc
  shut_body m (Reply vs) e = cc
  shut_body m (Fault reason) e = cc
  shut_body m Goodbye e = refl

  shut_item : (x : Item) → kind_of_item x ≡ kind.Farewell f → item_kind v x ≡ shut
  shut_item (item.Message m sync level) e = shut_body m m.body e
  shut_item item.Broken e = refl

  -- what is done is a closing
  pub shut_kind : kind_of v ≡ shut
  unfolding kind_of
  shut_kind = let n : IsNextFarewell v f = next_farewell v f next in ap (λ (x : Option Item). option_map_or (item_kind v) x nothing) n.next ∙ shut_item n.x n.kind
