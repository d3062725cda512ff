-- A request that is handled.
use Rattle.std.proofs.Common.{◌≡◌, ℤ, suc, ◌+◌, ◌-◌, ◌≤◌, List, [], ◌∷◌, length, map, Option, Some, refl, ap, sym, ◌∙◌, arith}
use Rattle.std.specs.Option.{option_map_or}
use Rattle.actor_tree.specs.declared.actor.Actor.{Actor}
use Rattle.ipdl_base.specs.declared.line.What.TheVariants as what
use Rattle.ipdl_base.specs.declared.message.Message.{Message}
use Rattle.ipdl_base.specs.declared.schema.MessageRow.{MessageRow}
use Rattle.ipdl_base.specs.declared.value.Values.{Values}
use Rattle.pending_queue.specs.declared.item.Item.{Item}
use Rattle.pending_queue.specs.Plain.{plain_item}
use Rattle.channel_model.specs.Ends.{End, StackEntry}
use Rattle.channel_model.specs.Events as event
use Rattle.channel_model.specs.Outputs.{Output, beginning, line, line_at, on_end}
use Rattle.channel_model.specs.Parts.{left_end}
use Rattle.channel_model.specs.Steps.{step}
use Rattle.channel_model.specs.Takes.{dispatch_of, dropped_or_handled, handled}
use Rattle.channel_model.specs.ValueActors.{nulled}
use Rattle.end_steps.specs.BuiltActors.{with_built, with_built_line}
use Rattle.end_parts.specs.OutputView.{OutputView, with_line}
use Rattle.channel_core.specs.Inside.{IsInside}
use Rattle.channel_core.specs.NextItems.{IsNextHandling}
use Rattle.channel_core.specs.Room.{room, waits_in}
use Rattle.channel_core.specs.EndView.{EndView}
use Rattle.channel_core.specs.Taken.{drop, handle, nothing, kind_of, body_kind, item_kind, request_kind}
use Rattle.channel_core.specs.Tracks.{Tracks}
use Rattle.channel_core.proofs.BuildLemmas.{TakesRoom, built_end, built_room, builds, constructs_built, tracks_built}
use Rattle.channel_core.proofs.MadeLemmas.{Made, HasRoom}
use Rattle.channel_core.proofs.TakeLemmas.{left, request_steps}
use Rattle.channel_core.proofs.TrackLemmas.{tracks_end, tracks_line, tracks_room}

-- What the code makes of a request that it handles.
pub record CodeHandles (v : EndView) (out mid said out' : OutputView) (m : Message) (row : MessageRow) (shown : Values) (built : Option Actor) (actors : List Actor) (items : List Item) (stack : List StackEntry) : Type 0 where
  pub same : mid ≡ record out { line_spare = mid.line_spare; packet_spare = mid.packet_spare }
  pub lines : out.lines_owed + 3 ≤ mid.line_spare
  pub packets : out.packet_spare ≤ mid.packet_spare
  pub tree : actors ≡ with_built built v.end.actors
  pub leaves : map plain_item items ≡ (left_end v.end).arrived
  pub says : said ≡ with_line mid (line_at v.end.side (what.Take m.seq m.route m.number shown))
  pub builds : out' ≡ with_built_line v.end.side built said
  pub dispatch : stack ≡ dispatch_of row m ∷ v.end.stack

-- the end after it
abbrev pub handled_with : End → List Actor → List Item → List StackEntry → OutputView → End
handled_with e actors items stack out = record e { actors = actors; arrived = map plain_item items; stack = stack; outbox = out.outbox }

module _ (v : EndView) (shown : Values) (built : Option Actor) (n : IsNextHandling v shown built) where
  abbrev spoken : Output
  spoken = line (what.Take n.m.seq n.m.route n.m.number shown) (left v.end)

  abbrev pushed : Output
  pushed = on_end (λ (e : End). record e { stack = dispatch_of n.handled.row n.m ∷ e.stack }) spoken

  handle_steps : step v.schema v.end [] event.take ≡ Some (builds built pushed)
  handle_steps =
      request_steps v n.m n.handled.row n.handled.given n.is_next n.handled.body n.handled.found
      ∙ ap (λ (d : Option ℤ). Some (dropped_or_handled d n.handled.row n.m (nulled v.schema v.end.actors n.handled.row.params n.handled.given) (left v.end))) n.handled.stays
      ∙ ap (λ (vs : Values). Some (handled n.handled.row n.m vs (left v.end))) (sym n.handled.nulls)
      ∙ ap Some (constructs_built n.m.made n.m.route n.handled.row.kind pushed)
      ∙ ap (λ (b : Option Actor). Some (builds b pushed)) (sym n.handled.builds)

  pub handles : (out mid said out' : OutputView) (actors : List Actor) (items : List Item) (stack : List StackEntry) → Tracks v (beginning v.end) out → CodeHandles v out mid said out' n.m n.handled.row shown built actors items stack → Made v [] event.take (handled_with v.end actors items stack out') out'
  handles out mid said out' actors items stack t h =
      let t0 : Tracks v (beginning v.end) mid = tracks_room v (beginning v.end) out mid t (h.same ∙ rw h.same refl) in
      let t1 : Tracks v (left v.end) mid = tracks_end v (beginning v.end) mid left_end t0 refl in
      let t2 : Tracks v spoken said = tracks_line v (left v.end) mid said (what.Take n.m.seq n.m.route n.m.number shown) t1 h.says in
      let t3 : Tracks v pushed said = tracks_end v spoken said (λ (e : End). record e { stack = dispatch_of n.handled.row n.m ∷ e.stack }) t2 refl in
      let t4 : Tracks v (builds built pushed) out' = tracks_built v pushed said out' built t3 h.builds in
      record {
        output = builds built pushed;
        steps = handle_steps;
        tracks = t4;
        ends = rw (h.tree, h.leaves, h.dispatch, t4.outbox ∙ ap (λ (x : End). x.outbox) (built_end built pushed)) (sym (built_end built pushed));
      }

  pub handle_room : (out mid said out' : OutputView) (actors : List Actor) (items : List Item) (stack : List StackEntry) → out.outbox ≡ v.end.outbox → IsInside v.schema v.end out → CodeHandles v out mid said out' n.m n.handled.row shown built actors items stack
      → HasRoom v.schema (handled_with v.end actors items stack out') out'
  unfolding room
  handle_room out mid said out' actors items stack box inside h =
      let r : TakesRoom built said out' = built_room v.end.side built said out' h.builds in
      let said_spare : said.line_spare ≡ mid.line_spare - 1 = ap (λ (g : OutputView). g.line_spare) h.says in
      let said_owed : said.lines_owed ≡ out.lines_owed = ap (λ (g : OutputView). g.lines_owed) h.says ∙ ap (λ (g : OutputView). g.lines_owed) h.same in
      let said_packets : said.packet_spare ≡ mid.packet_spare = ap (λ (g : OutputView). g.packet_spare) h.says in
      let said_frames : length out'.frames ≡ length out.frames = ap length r.frames ∙ ap (λ (g : OutputView). length g.frames) h.says ∙ ap (λ (g : OutputView). length g.frames) h.same in
      let said_bye : said.goodbye ≡ out.goodbye = ap (λ (g : OutputView). g.goodbye) h.says ∙ ap (λ (g : OutputView). g.goodbye) h.same in
      let said_box : length out'.outbox ≡ length v.end.outbox = ap length r.outbox ∙ ap (λ (g : OutputView). length g.outbox) h.says ∙ ap (λ (g : OutputView). length g.outbox) h.same ∙ ap length box in
      let living : length actors ≡ length v.end.actors + r.grows = ap length h.tree ∙ r.actors v.end.actors in
      let waits : waits_in stack ≡ 0 + waits_in v.end.stack = ap waits_in h.dispatch in
      record {
        owes = omega (arith, inside.owes, r.owed, said_owed, said_box, living, waits);
        spare = omega (arith, inside.spare, h.lines, r.owed, r.lines, r.few, said_owed, said_spare);
        packets = λ e. let p : suc (length out.frames) ≤ out.packet_spare = inside.packets e in omega (arith, p, h.packets, r.packets, said_packets, said_frames);
        farewell = λ e. r.goodbye ∙ said_bye ∙ inside.farewell e;
      }

  -- what is done is its handling
  pub handle_kind : kind_of v ≡ handle n.m n.handled.row shown
  unfolding kind_of
  handle_kind =
      ap (λ (x : Option Item). option_map_or (item_kind v) x nothing) n.is_next.next
      ∙ ap (body_kind v n.m) n.handled.body ∙ ap (λ (r : Option MessageRow). option_map_or (request_kind v n.m n.handled.given) r drop) n.handled.found
      ∙ ap (λ (d : Option ℤ). option_map_or (λ (id : ℤ). drop) d (handle n.m n.handled.row (nulled v.schema v.end.actors n.handled.row.params n.handled.given))) n.handled.stays
      ∙ ap (handle n.m n.handled.row) (sym n.handled.nulls)
