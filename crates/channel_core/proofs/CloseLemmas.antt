-- An end that closes.
use Rattle.std.proofs.Common.{◌≡◌, ◌+◌, ◌-◌, ◌≤◌, Bool, true, List, [], ◌++◌, map, length, Option, Some, None, refl, ap, sym, subst, ◌∙◌, arith}
use Rattle.std.specs.List.{flat_map}
use Rattle.std.specs.Option.{MatchOption}
use Rattle.std.proofs.lemmas.Bool.{false≢true}
use Rattle.actor_tree.specs.declared.actor.Actor.{Actor}
use Rattle.actor_tree.specs.Fall.{post_order}
use Rattle.ipdl_base.specs.declared.kinds.Destroy.{Destroy}
use Rattle.ipdl_base.specs.declared.kinds.Destroy.TheVariants.{NormalShutdown}
use Rattle.ipdl_base.specs.declared.kinds.EndState.{EndState}
use Rattle.ipdl_base.specs.declared.kinds.EndState.TheVariants.{Open, Draining, Closed, Dead}
use Rattle.ipdl_base.specs.declared.kinds.Reason.TheVariants.{ChannelClosed}
use Rattle.ipdl_base.specs.declared.kinds.SendRefusal.{SendRefusal}
use Rattle.ipdl_base.specs.declared.kinds.SendRefusal.TheVariants as refusal
use Rattle.ipdl_base.specs.declared.line.What.{What}
use Rattle.ipdl_base.specs.declared.line.What.TheVariants as what
use Rattle.ipdl_base.specs.declared.schema.Schema.{Schema}
use Rattle.pending_queue.specs.declared.item.Item.{Item}
use Rattle.pending_queue.specs.Plain.{plain_item}
use Rattle.channel_model.specs.Acts.{close, close_unless, close_refusal, goodbye}
use Rattle.channel_model.specs.Ends.{End, PromiseEntry, Naming, message}
use Rattle.channel_model.specs.Events as event
use Rattle.channel_model.specs.Falls.{rejections, fall_lines, closed, abandoned}
use Rattle.channel_model.specs.Names.{without_resolvers}
use Rattle.ipdl_base.specs.Sides.{top_id}
use Rattle.channel_model.specs.Outputs.{Output, beginning, line, lines, line_at, put, is_open}
use Rattle.channel_model.specs.Sends.{may_act}
use Rattle.channel_model.specs.Steps.{step, provided}
use Rattle.end_parts.specs.declared.packet.Packet.{Packet}
use Rattle.end_steps.specs.Falls.{HasClosed}
use Rattle.end_parts.specs.OutputView.{OutputView, with_line, with_packet}
use Rattle.end_parts.specs.PromiseRequests.{pending_in}
use Rattle.channel_core.specs.Inside.{IsInside}
use Rattle.channel_core.specs.Room.{room, own_lines}
use Rattle.channel_core.specs.EndView.{EndView, frame_packet, HasFrame}
use Rattle.channel_core.specs.Tracks.{Tracks}
use Rattle.channel_core.proofs.MadeLemmas.{Made, HasRoom}
use Rattle.channel_core.proofs.TrackLemmas.{tracks_line, tracks_lines, tracks_put, tracks_room, tracks_end}

-- an end whose parts have closed
abbrev pub closed_with : End → List Actor → List PromiseEntry → List Naming → End
closed_with e actors promises names = record e { state = Closed; actors = actors; arrived = []; promises = promises; names = names }

-- What the closing of the parts comes to.
pub record Closes (v : EndView) (o : Output) (why : Destroy) (actors : List Actor) (promises : List PromiseEntry) (names : List Naming) (out : OutputView) : Type 0 where
  pub tracks : Tracks v (closed why o) out
  pub ends : closed_with o.end actors promises names ≡ (closed why o).end

pub closes : (v : EndView) (o : Output) (why : Destroy) (out : OutputView) (actors : List Actor) (promises : List PromiseEntry) (names : List Naming) (out' : OutputView)
    → Tracks v o out → HasClosed o.end.side why o.end.actors o.end.promises out actors promises out' → names ≡ without_resolvers o.end.names → Closes v o why actors promises names out'
closes v o why out actors promises names out' t h n =
    let o1 : Output = lines (rejections (λ p. true) ChannelClosed o.end.promises) o in
    let o2 : Output = abandoned o in
    let t1 : Tracks v o1 h.said = tracks_lines v o out h.said (rejections (λ p. true) ChannelClosed o.end.promises) t h.rejects.said in
    let t2 : Tracks v o2 h.said = tracks_end v o1 h.said (λ (e : End). record e { promises = o2.end.promises }) t1 refl in
    let fell : List What = flat_map (fall_lines (λ id. why) o2.end.promises) (post_order top_id o2.end.actors) in
    let left_is : h.left ≡ o2.end.promises = h.rejects.rejected in
    let said : out' ≡ record h.said { lines = h.said.lines ++ map (line_at o.end.side) fell; line_spare = out'.line_spare } =
    h.falls.said ∙ ap (λ (es : List PromiseEntry). record h.said { lines = h.said.lines ++ map (line_at o.end.side) (flat_map (fall_lines (λ id. why) es) (post_order top_id o.end.actors)); line_spare = out'.line_spare }) left_is in
    let t3 : Tracks v (lines fell o2) out' = tracks_lines v o2 h.said out' fell t2 said in
    record {
      tracks = record { lines = t3.lines; packets = t3.packets; outbox = t3.outbox; frames = t3.frames; waiting = t3.waiting; framed = t3.framed };
      ends = rw (h.falls.left, h.falls.rejected, left_is, n) refl;
    }

-- What the code makes of a close.
pub record CodeCloses (schema : Schema) (e : End) (out said gone : OutputView) (actors : List Actor) (promises : List PromiseEntry) (names : List Naming) (items : List Item) (shut paid : OutputView) : Type 0 where
  pub says : said ≡ with_line out (line_at e.side what.Close)
  pub puts : gone ≡ record (with_packet said (frame_packet schema goodbye)) { goodbye = None }
  pub shuts : HasClosed e.side NormalShutdown e.actors e.promises gone actors promises shut
  pub releases : names ≡ without_resolvers e.names
  pub pays : paid ≡ record shut { lines_owed = shut.lines_owed - (out.line_spare - shut.line_spare) }
  pub nothing_arrived : items ≡ []

-- a goodbye has a frame
pub goodbye_framed : (schema : Schema) → HasFrame schema goodbye
goodbye_framed schema = record { frame = record { fits = record { number = refl; route = refl; seq = refl; transaction = refl; made = refl }; small = omega arith; spelled = refl }; plain = refl }

-- an output as a close has it before the parts close
abbrev parted : End → Output
parted e = put (message goodbye) (line what.Close (beginning e))

-- an end as a close leaves it
abbrev pub shut_with : End → List Actor → List PromiseEntry → List Naming → List Item → OutputView → End
shut_with e actors promises names items out = record (closed_with e actors promises names) { arrived = map plain_item items; outbox = out.outbox }

parts : (v : EndView) (out said gone : OutputView) (actors : List Actor) (promises : List PromiseEntry) (names : List Naming) (items : List Item) (shut paid : OutputView)
    → Tracks v (beginning v.end) out → HasFrame v.schema goodbye → CodeCloses v.schema v.end out said gone actors promises names items shut paid → Closes v (parted v.end) NormalShutdown actors promises names paid
parts v out said gone actors promises names items shut paid t framed h =
    let t1 : Tracks v (line what.Close (beginning v.end)) said = tracks_line v (beginning v.end) out said what.Close t h.says in
    let t2 : Tracks v (parted v.end) (with_packet said (frame_packet v.schema goodbye)) = tracks_put v (line what.Close (beginning v.end)) said (with_packet said (frame_packet v.schema goodbye)) (message goodbye) framed t1 refl in
    let t3 : Tracks v (parted v.end) gone = rw h.puts (record { lines = t2.lines; packets = t2.packets; outbox = t2.outbox; frames = t2.frames; waiting = t2.waiting; framed = t2.framed }) in
    let both : Closes v (parted v.end) NormalShutdown actors promises names shut = closes v (parted v.end) NormalShutdown gone actors promises names shut t3 h.shuts h.releases in
    record { tracks = tracks_room v (closed NormalShutdown (parted v.end)) shut paid both.tracks (h.pays ∙ rw h.pays refl); ends = both.ends }

close_steps : (e : End) (schema : Schema) → may_act e ≡ true → close_refusal e ≡ None → step schema e [] event.close ≡ Some (closed NormalShutdown (parted e))
close_steps e schema may none = ap (λ (p : Bool). provided p (close e) e) may ∙ ap (λ (r : Option SendRefusal). Some (close_unless r (beginning e))) none

pub closes_now : (v : EndView) (out said gone : OutputView) (actors : List Actor) (promises : List PromiseEntry) (names : List Naming) (items : List Item) (shut paid : OutputView)
    → may_act v.end ≡ true → close_refusal v.end ≡ None → Tracks v (beginning v.end) out → HasFrame v.schema goodbye → CodeCloses v.schema v.end out said gone actors promises names items shut paid
    → Made v [] event.close (shut_with v.end actors promises names items paid) paid
closes_now v out said gone actors promises names items shut paid may none t framed h =
    let c : Closes v (parted v.end) NormalShutdown actors promises names paid = parts v out said gone actors promises names items shut paid t framed h in
    let box : paid.outbox ≡ [] = c.tracks.outbox ∙ ap (λ (x : End). x.outbox) (sym c.ends) in
    record {
      output = closed NormalShutdown (parted v.end);
      steps = close_steps v.end v.schema may none;
      tracks = c.tracks;
      ends = rw (h.nothing_arrived, box) c.ends;
    }

open_at : (state : EndState) (e : End) → e.state ≡ state → close_refusal e ≡ None → e.state ≡ Open
open_at Open e s none = s
open_at Draining e s none = let bad : close_refusal e ≡ Some refusal.Closed = rw s refl in cc
open_at Closed e s none = let bad : close_refusal e ≡ Some refusal.Closed = rw s refl in cc
open_at Dead e s none = let bad : close_refusal e ≡ Some refusal.Closed = rw s refl in cc

-- an end that may close is open
pub closing_open : (e : End) → close_refusal e ≡ None → e.state ≡ Open
closing_open e none = open_at e.state e refl none

-- and has room for the lines of its closing, and one more
pub closing_room : (schema : Schema) (e : End) (out : OutputView) → close_refusal e ≡ None → IsInside schema e out → 2 + (length e.actors + pending_in e.promises) ≤ out.line_spare
unfolding room
closing_room schema e out none inside =
    let own : own_lines e.state ≡ 2 = rw (closing_open e none) refl in
    omega (arith, inside.owes, inside.spare, own)

-- the goodbye goes
pub goodbye_goes : (schema : Schema) (e : End) (out said gone : OutputView) → close_refusal e ≡ None → IsInside schema e out → said ≡ with_line out (line_at e.side what.Close)
    → MatchOption said.goodbye (Unit {0}) (λ packet. gone ≡ record (with_packet said packet) { goodbye = None }) → gone ≡ record (with_packet said (frame_packet schema goodbye)) { goodbye = None }
goodbye_goes schema e out said gone none inside says h =
    let opens : is_open e.state ≡ true = rw (closing_open e none) refl in
    let there : said.goodbye ≡ Some (frame_packet schema goodbye) = ap (λ (g : OutputView). g.goodbye) says ∙ inside.farewell opens in
    subst (λ (f : Option Packet). MatchOption f (Unit {0}) (λ packet. gone ≡ record (with_packet said packet) { goodbye = None })) there h

pub close_room : (v : EndView) (out said gone : OutputView) (actors : List Actor) (promises : List PromiseEntry) (names : List Naming) (items : List Item) (shut paid : OutputView)
    → close_refusal v.end ≡ None → CodeCloses v.schema v.end out said gone actors promises names items shut paid → IsInside v.schema v.end out
    → HasRoom v.schema (shut_with v.end actors promises names items paid) paid
unfolding room
close_room v out said gone actors promises names items shut paid none h inside =
    let e = v.end in
    let own : own_lines e.state ≡ 2 = rw (closing_open e none) refl in
    let said_spare : said.line_spare ≡ out.line_spare - 1 = ap (λ (g : OutputView). g.line_spare) h.says in
    let gone_spare : gone.line_spare ≡ said.line_spare = ap (λ (g : OutputView). g.line_spare) h.puts in
    let gone_owed : gone.lines_owed ≡ out.lines_owed = ap (λ (g : OutputView). g.lines_owed) h.puts ∙ ap (λ (g : OutputView). g.lines_owed) h.says in
    let left_owed : h.shuts.said.lines_owed ≡ gone.lines_owed = ap (λ (g : OutputView). g.lines_owed) h.shuts.rejects.said in
    let shut_owed : shut.lines_owed ≡ h.shuts.said.lines_owed = ap (λ (g : OutputView). g.lines_owed) h.shuts.falls.said in
    let paid_owed : paid.lines_owed ≡ shut.lines_owed - (out.line_spare - shut.line_spare) = ap (λ (g : OutputView). g.lines_owed) h.pays in
    let paid_spare : paid.line_spare ≡ shut.line_spare = ap (λ (g : OutputView). g.line_spare) h.pays in
    let no_box : length paid.outbox ≡ 0 =
    ap (λ (g : OutputView). length g.outbox) h.pays ∙ ap (λ (g : OutputView). length g.outbox) h.shuts.falls.said ∙ ap (λ (g : OutputView). length g.outbox) h.shuts.rejects.said ∙ ap (λ (g : OutputView). length g.outbox) h.puts in
    let rejected_spare : h.shuts.said.line_spare + pending_in e.promises ≡ gone.line_spare + pending_in h.shuts.left = h.shuts.rejects.spare in
    let fallen_room : h.shuts.said.line_spare + (length actors + pending_in promises) ≤ shut.line_spare + (length e.actors + pending_in h.shuts.left) = h.shuts.falls.room in
    record {
      owes = omega (arith, inside.owes, inside.spare, own, said_spare, gone_spare, gone_owed, left_owed, shut_owed, paid_owed, no_box, rejected_spare, fallen_room);
      spare = omega (arith, inside.spare, gone_owed, left_owed, shut_owed, paid_owed, paid_spare);
      packets = λ x. absurd (false≢true x);
      farewell = λ x. absurd (false≢true x);
    }
