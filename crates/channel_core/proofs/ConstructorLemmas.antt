-- A constructor that is sent.
use Rattle.std.proofs.Common.{◌≡◌, ℕ, ℤ, ◌+◌, ◌-◌, ◌≤◌, Bool, true, false, not, ◌&&◌, cond, List, [], ◌∷◌, ◌++◌, length, Option, Some, None, is_some, refl, ap, sym, subst, ◌∙◌, arith}
use Rattle.std.proofs.Math.Bool.{and-false}
use Rattle.actor_tree.specs.declared.actor.Actor.{Actor}
use Rattle.actor_tree.specs.Tree.{lives}
use Rattle.ipdl_base.specs.declared.kinds.Semantics.{Semantics}
use Rattle.ipdl_base.specs.declared.kinds.Semantics.TheVariants.{Async, Sync}
use Rattle.ipdl_base.specs.declared.kinds.Side.{Side}
use Rattle.ipdl_base.specs.declared.message.Message.{Message}
use Rattle.ipdl_base.specs.declared.schema.Kind.{Kind}
use Rattle.ipdl_base.specs.declared.schema.Kind.TheVariants.{Normal, Constructor, Delete}
use Rattle.ipdl_base.specs.declared.schema.MessageRow.{MessageRow}
use Rattle.ipdl_base.specs.declared.value.Values.{Values}
use Rattle.ipdl_base.specs.Sound.{IsSound, is_sync}
use Rattle.channel_model.specs.Actors.{ids_of}
use Rattle.channel_model.specs.Ends.{End, StackEntry, Naming, NameContent, actor, resolver, Resolver}
use Rattle.channel_model.specs.Events as event
use Rattle.channel_model.specs.Falls.{deletes}
use Rattle.channel_model.specs.Names.{held_by_name, holding, let_go, without_name}
use Rattle.channel_model.specs.Numbers.{is_constructor, is_sync_row, makes_promise, counting, protocol_of}
use Rattle.channel_model.specs.Outputs.{Output, beginning, on_end, is_open, resolver_answered}
use Rattle.channel_model.specs.Parts.{sent_end, promise_for}
use Rattle.channel_model.specs.Sends.{constructs, names_actor, next_made, wait_for}
use Rattle.channel_model.proofs.Known.{fresh-own}
use Rattle.channel_model.proofs.SendParts.{lives-as}
use Rattle.channel_model.proofs.SoundRows.{IsAt}
use Rattle.end_steps.specs.BuiltActors.{built_by, with_built, with_built_line, IsFree}
use Rattle.end_steps.specs.declared.renaming.DestroyedReply.{DestroyedReply}
use Rattle.end_parts.specs.NamesView.{NamesView}
use Rattle.end_parts.specs.OutputView.{OutputView, with_packet}
use Rattle.end_steps.specs.Renamings.{destroyed_message, destroyed_of, with_destroyed}
use Rattle.end_steps.specs.SentRequests.{stack_after}
use Rattle.channel_core.specs.declared.ready_name.ReadyName.{ReadyName}
use Rattle.channel_core.specs.Inside.{IsInside, IsKept}
use Rattle.channel_core.specs.NewNames.{IsReadyName, names_after, output_after}
use Rattle.channel_core.specs.Room.{room, waits_in}
use Rattle.channel_core.specs.EndView.{EndView, frame_packet, HasFrame}
use Rattle.channel_core.specs.Sending.{IsAccepted}
use Rattle.channel_core.specs.Tracks.{Tracks}
use Rattle.channel_core.proofs.AcceptLemmas.{send_steps, row_sound, sent_alive, sent_open}
use Rattle.channel_core.proofs.ActLemmas.{destroyed-framed, let-go-tracks, let-go-end}
use Rattle.channel_core.proofs.BuildLemmas.{TakesRoom, built_end, built_room, builds, tracks_built}
use Rattle.channel_core.proofs.MadeLemmas.{Made, HasRoom}
use Rattle.channel_core.proofs.SendLemmas.{first, sent_is, CodePosts, tracks_first}
use Rattle.channel_core.proofs.TrackLemmas.{tracks_end, tracks_room}

-- What a sound constructor is: of a protocol, not lazy, and without a promise.
pub record IsMaking (row : MessageRow) : Type 0 where
  pub protocol : ℕ
  pub kind : row.kind ≡ Constructor protocol
  pub wants : makes_promise row ≡ false
  pub lazy : row.lazy ≡ false

-- the protocol of a constructor
constructor_of : (kind : Kind) → is_constructor kind ≡ true → (p : ℕ) × (kind ≡ Constructor p)
constructor_of Normal e = cc
constructor_of (Constructor p) e = (p, refl)
constructor_of Delete e = cc

not-lazy : (row : MessageRow) (p : ℕ) (b : Bool) → row.lazy ≡ b → row.kind ≡ Constructor p → (row.lazy ≡ true → row.kind ≡ Normal) → row.lazy ≡ false
not-lazy row p false e kind h = e
not-lazy row p true e kind h = let bad : Constructor p ≡ Normal = sym kind ∙ h e in cc

wants-none : (row : MessageRow) (s : Semantics) → row.semantics ≡ s → (row.semantics ≡ Async → row.returns ≡ None) → makes_promise row ≡ false
wants-none row Sync e h = ap (λ (s : Semantics). not (is_sync s) && is_some row.returns) e
wants-none row Async e h = ap (λ r. not (is_sync row.semantics) && is_some r) (h e) ∙ and-false (not (is_sync row.semantics))

pub making : (v : EndView) (row : MessageRow) (m : Message) (vs : Values) (name : Option (List ℕ)) → IsAccepted v row m vs name → IsSound v.schema → is_constructor row.kind ≡ true → IsMaking row
making v row m vs name a sound is =
    let k = constructor_of row.kind is in
    let at : IsAt v.schema row.number row = row_sound v row m vs name a sound in
    record { protocol = k.0; kind = k.1; wants = wants-none row row.semantics refl (at.sound.constructor k.0 k.1); lazy = not-lazy row k.0 row.lazy refl k.1 (λ e. (at.sound.lazy e).1) }

-- The new actor: nobody has its id, and its manager lives.
pub may_build : (v : EndView) (row : MessageRow) (m : Message) (vs : Values) (name : Option (List ℕ)) → IsAccepted v row m vs name → IsKept v.schema v.end → IsMaking row → IsFree v.end.actors (built_by row.kind m.made m.route)
may_build v row m vs name a kept k =
    let own : m.made ≡ next_made v.end (Constructor k.protocol) = ap (λ (x : Message). x.made) a.is ∙ ap (λ (x : Kind). next_made v.end x) k.kind in
    let dead : lives m.made v.end.actors ≡ false = ap (λ (z : ℤ). lives z v.end.actors) own ∙ (fresh-own kept.top (ids_of v.schema v.end) kept.known).1 in
    let alive : lives m.route v.end.actors ≡ true = lives-as v.end.actors (protocol_of row.number) m.route (sent_alive v row m vs name a) in
    subst (λ (x : Kind). IsFree v.end.actors (built_by x m.made m.route)) (sym k.kind) (rw (dead, alive) refl)

-- Its name

-- What the code makes of the name of a new actor.
pub record Named (v : EndView) (o : Output) (id : ℤ) (name : Option (List ℕ)) (names : List Naming) (out : OutputView) : Type 0 where
  pub tracks : Tracks v (names_actor id name o) out
  pub ends : (names_actor id name o).end ≡ record o.end { names = names; outbox = out.outbox }

-- each resolver that a name holds is answered by a message that has a frame
abbrev HaveFrames : EndView → List Naming → Type 0
HaveFrames v names = (name : List ℕ) (r : Resolver) → held_by_name name names ≡ Some (resolver r) → HasFrame v.schema (destroyed_message (resolver_answered r))

pub names_it : (v : EndView) (o : Output) (id : ℤ) (name : Option (List ℕ)) (view : NamesView) (ready : Option ReadyName) (names : List Naming) (out out' : OutputView)
    → is_open o.end.state ≡ true → view.names ≡ o.end.names → IsReadyName v.schema name view ready → HaveFrames v o.end.names → Tracks v o out → names ≡ names_after ready id view.names → out' ≡ output_after o.end.side ready out → Named v o id name names out'
names_it v o id None view None names out out' opens same r framed t n p = record {
  tracks = subst (Tracks v o) (sym p) t;
  ends = sym (ap (λ (ns : List Naming). record o.end { names = ns; outbox = out'.outbox }) (n ∙ same) ∙ ap (λ (ms : List Message). record o.end { outbox = ms }) (ap (λ (g : OutputView). g.outbox) p ∙ t.outbox));
}
names_it v o id None view (Some ready) names out out' opens same r framed t n p = absurd r
names_it v o id (Some name) view None names out out' opens same r framed t n p = absurd r
names_it v o id (Some name) view (Some ready) names out out' opens same r framed t n p =
    let holds : List Naming = holding name (Some (actor id)) in
    let names_are : names ≡ without_name name o.end.names ++ holds =
    n ∙ ap (λ (h : List ℕ). without_name h view.names ++ holding h (Some (actor id))) r.0 ∙ ap (λ (ns : List Naming). without_name name ns ++ holds) same in
    let before : Option NameContent = held_by_name name o.end.names in
    let o1 : Output = on_end (λ (e : End). record e { names = without_name name e.names }) o in
    let t1 : Tracks v o1 out = tracks_end v o out (λ (e : End). record e { names = without_name name e.names }) t refl in
    let puts : out' ≡ with_destroyed o.end.side out (destroyed_of (is_open o.end.state) v.schema before) =
    p ∙ ap (with_destroyed o.end.side out) (r.1 ∙ ap (λ (ns : List Naming). destroyed_of true v.schema (held_by_name name ns)) same ∙ ap (λ (b : Bool). destroyed_of b v.schema before) (sym opens)) in
    let t2 : Tracks v (let_go before o1) out' = let-go-tracks v before o1 out out' (framed name) t1 puts in
    record {
      tracks = tracks_end v (let_go before o1) out' (λ (e : End). record e { names = e.names ++ holds }) t2 refl;
      ends = ap (λ (e : End). record e { names = e.names ++ holds }) (let-go-end before o1)
          ∙ ap (λ (ms : List Message). record o.end { names = without_name name o.end.names ++ holds; outbox = ms }) (sym t2.outbox)
          ∙ ap (λ (ns : List Naming). record o.end { names = ns; outbox = out'.outbox }) (sym names_are);
    }

-- what a name leaves of the room
pub record NamedRoom (before after : OutputView) : Type 0 where
  pub owed : after.lines_owed ≡ before.lines_owed
  pub lines : before.line_spare ≤ after.line_spare + 1
  pub packets : before.packet_spare ≤ after.packet_spare + (length before.frames + 1)
  pub frames : length after.frames ≤ length before.frames
  pub outbox : length after.outbox ≤ length before.outbox
  pub goodbye : after.goodbye ≡ before.goodbye

same_room : (out out' : OutputView) → out' ≡ out → NamedRoom out out'
same_room out out' e = rw e (record { owed = refl; lines = omega arith; packets = omega arith; frames = omega arith; outbox = omega arith; goodbye = refl })

destroyed_room : (side : Side) (reply : Option DestroyedReply) (out out' : OutputView) → out' ≡ with_destroyed side out reply → NamedRoom out out'
destroyed_room side None out out' e = same_room out out' e
destroyed_room side (Some reply) out out' e = rw e (record { owed = refl; lines = omega arith; packets = omega arith; frames = omega arith; outbox = omega arith; goodbye = refl })

pub named_room : (side : Side) (ready : Option ReadyName) (out out' : OutputView) → out' ≡ output_after side ready out → NamedRoom out out'
named_room side None out out' e = same_room out out' e
named_room side (Some ready) out out' e = destroyed_room side ready.destroyed out out' e

-- What the code makes of a constructor.
pub record CodeConstructs (v : EndView) (row : MessageRow) (m : Message) (vs : Values) (name : Option (List ℕ)) (out mid said posted named built' owed : OutputView) (actors : List Actor) (stack : List StackEntry) (view : NamesView) (ready : Option ReadyName) (names : List Naming) : Type 0 where
  pub posts : CodePosts v row m vs out mid said posted
  pub waits : stack ≡ stack_after row m v.end.stack
  pub reserves : view.names ≡ v.end.names
  pub ready_is : IsReadyName v.schema name view ready
  pub holds : names ≡ names_after ready m.made view.names
  pub tells : named ≡ output_after v.end.side ready posted
  pub builds : actors ≡ with_built (built_by row.kind m.made m.route) v.end.actors
  pub says : built' ≡ with_built_line v.end.side (built_by row.kind m.made m.route) named
  pub owes : owed ≡ record built' { lines_owed = built'.lines_owed + 2 }
  pub lines : out.lines_owed + 6 ≤ mid.line_spare
  pub packets : length out.frames + 3 ≤ mid.packet_spare

-- an end as a constructor leaves it
abbrev pub constructed_with : End → List Actor → List StackEntry → List Naming → OutputView → End
constructed_with e actors stack names out = record e { sent = e.sent + 1; constructors_sent = e.constructors_sent + 1; actors = actors; stack = stack; names = names; outbox = out.outbox }

follows : (row : MessageRow) (m : Message) (p : ℕ) (o : Output) → row.kind ≡ Constructor p → deletes m.route row.kind (constructs m.made m.route row.kind o) ≡ builds (built_by row.kind m.made m.route) o
follows row m p o kind = rw kind refl

ends_so : (row : MessageRow) (m : Message) (e : End) (k : IsMaking row) (actors : List Actor) (stack : List StackEntry) (names : List Naming) (out : OutputView) → stack ≡ stack_after row m e.stack
    → constructed_with e actors stack names out ≡ record (sent_end row m e) { names = names; outbox = out.outbox; actors = actors }
ends_so row m e k actors stack names out s =
    ap (λ (es : List StackEntry). constructed_with e actors es names out) s
    ∙ ap (λ (x : Kind). record (constructed_with e actors (stack_after row m e.stack) names out) { constructors_sent = counting x e.constructors_sent }) (sym k.kind)
    ∙ ap (λ (b : Bool). record (sent_end row m e) { names = names; outbox = out.outbox; actors = actors; promises = cond b (e.promises ++ promise_for m ∷ []) e.promises }) (sym k.wants)

pub sends_constructor : (v : EndView) (row : MessageRow) (m : Message) (vs : Values) (name : Option (List ℕ)) (out mid said posted named built' owed : OutputView) (actors : List Actor) (stack : List StackEntry) (view : NamesView) (ready : Option ReadyName) (names : List Naming)
    → IsMaking row → IsAccepted v row m vs name → HasFrame v.schema m → Tracks v (beginning v.end) out → IsInside v.schema v.end out → CodeConstructs v row m vs name out mid said posted named built' owed actors stack view ready names
    → Made v [] (event.send m.route row.number vs name) (constructed_with v.end actors stack names owed) owed
sends_constructor v row m vs name out mid said posted named built' owed actors stack view ready names k a framed t inside c =
    let o : Output = first row m vs v.end in
    let new : Option Actor = built_by row.kind m.made m.route in
    let t1 : Tracks v o posted = tracks_first v row m vs out mid said posted framed t c.posts in
    let n : Named v o m.made name names named =
    names_it v o m.made name view ready names posted named (sent_open v row m vs name a) c.reserves c.ready_is (λ x r is. destroyed-framed v.schema v.end x r inside.sound inside.kept.fitting is) t1 c.holds c.tells in
    let x : Output = names_actor m.made name o in
    let side : v.end.side ≡ x.end.side = sym (ap (λ (e : End). e.side) n.ends) in
    let t2 : Tracks v (builds new x) built' = tracks_built v x named built' new n.tracks (c.says ∙ ap (λ (s : Side). with_built_line s new named) side) in
    let t3 : Tracks v (builds new x) owed = tracks_room v (builds new x) built' owed t2 (c.owes ∙ rw c.owes refl) in
    let box : owed.outbox ≡ named.outbox = ap (λ (g : OutputView). g.outbox) c.owes ∙ (built_room v.end.side new named built' c.says).outbox in
    record {
      output = builds new x;
      steps = send_steps v row m vs name a ∙ ap (λ (y : Output). Some y) (sent_is row m vs name v.end ∙ follows row m k.protocol x k.kind);
      tracks = t3;
      ends = ends_so row m v.end k actors stack names owed c.waits
          ∙ ap (λ (ms : List Message). record (sent_end row m v.end) { names = names; outbox = ms; actors = actors }) box
          ∙ ap (λ (xs : List Actor). record (sent_end row m v.end) { names = names; outbox = named.outbox; actors = xs }) c.builds
          ∙ sym (ap (λ (e : End). record e { actors = with_built new e.actors }) n.ends) ∙ sym (built_end new x);
    }

-- what is left when its packet is put
pub record EagerRoom (out mid posted : OutputView) : Type 0 where
  pub owed : posted.lines_owed ≡ out.lines_owed
  pub spare : posted.line_spare ≡ mid.line_spare - 1
  pub packets : posted.packet_spare ≡ mid.packet_spare - (length out.frames + 1)
  pub frames : length posted.frames ≡ 0
  pub outbox : length posted.outbox ≡ 0
  pub goodbye : posted.goodbye ≡ out.goodbye

pub eager_room : (v : EndView) (row : MessageRow) (m : Message) (vs : Values) (out mid said posted : OutputView) → IsMaking row → CodePosts v row m vs out mid said posted → EagerRoom out mid posted
eager_room v row m vs out mid said posted k c =
    let puts : posted ≡ with_packet said (frame_packet v.schema m) = c.posts ∙ rw k.lazy refl in
    let frames : length said.frames ≡ length out.frames = ap (λ (g : OutputView). length g.frames) c.says ∙ ap (λ (g : OutputView). length g.frames) c.same in
    let spare : said.packet_spare ≡ mid.packet_spare = ap (λ (g : OutputView). g.packet_spare) c.says in
    let left : posted.packet_spare ≡ said.packet_spare - (length said.frames + 1) = ap (λ (g : OutputView). g.packet_spare) puts in
    record {
      owed = ap (λ (g : OutputView). g.lines_owed) puts ∙ ap (λ (g : OutputView). g.lines_owed) c.says ∙ ap (λ (g : OutputView). g.lines_owed) c.same;
      spare = ap (λ (g : OutputView). g.line_spare) puts ∙ ap (λ (g : OutputView). g.line_spare) c.says;
      packets = omega (arith, frames, spare, left);
      frames = ap (λ (g : OutputView). length g.frames) puts;
      outbox = ap (λ (g : OutputView). length g.outbox) puts;
      goodbye = ap (λ (g : OutputView). g.goodbye) puts ∙ ap (λ (g : OutputView). g.goodbye) c.says ∙ ap (λ (g : OutputView). g.goodbye) c.same;
    }

waits_more : (b : Bool) (row : MessageRow) (m : Message) (stack : List StackEntry) → waits_in (cond b (wait_for row m ∷ stack) stack) ≤ waits_in stack + 2
waits_more true row m stack = omega arith
waits_more false row m stack = omega arith

pub constructor_room : (v : EndView) (row : MessageRow) (m : Message) (vs : Values) (name : Option (List ℕ)) (out mid said posted named built' owed : OutputView) (actors : List Actor) (stack : List StackEntry) (view : NamesView) (ready : Option ReadyName) (names : List Naming)
    → IsMaking row → out.outbox ≡ v.end.outbox → IsInside v.schema v.end out → CodeConstructs v row m vs name out mid said posted named built' owed actors stack view ready names
    → HasRoom v.schema (constructed_with v.end actors stack names owed) owed
unfolding room
constructor_room v row m vs name out mid said posted named built' owed actors stack view ready names k box inside c =
    let r : EagerRoom out mid posted = eager_room v row m vs out mid said posted k c.posts in
    let n : NamedRoom posted named = named_room v.end.side ready posted named c.tells in
    let b : TakesRoom (built_by row.kind m.made m.route) named built' = built_room v.end.side (built_by row.kind m.made m.route) named built' c.says in
    let owed_is : owed.lines_owed ≡ built'.lines_owed + 2 = ap (λ (g : OutputView). g.lines_owed) c.owes in
    let spare : owed.line_spare ≡ built'.line_spare = ap (λ (g : OutputView). g.line_spare) c.owes in
    let packet_room : owed.packet_spare ≡ named.packet_spare = ap (λ (g : OutputView). g.packet_spare) c.owes ∙ b.packets in
    let frames : length owed.frames ≡ length named.frames = ap (λ (g : OutputView). length g.frames) c.owes ∙ ap length b.frames in
    let boxes : length owed.outbox ≡ length named.outbox = ap (λ (g : OutputView). length g.outbox) c.owes ∙ ap length b.outbox in
    let grown : length actors ≡ length v.end.actors + b.grows = ap length c.builds ∙ b.actors v.end.actors in
    let wait : waits_in stack ≡ waits_in (stack_after row m v.end.stack) = ap waits_in c.waits in
    let more = waits_more (is_sync_row row) row m v.end.stack in
    record {
      owes = omega (arith, inside.owes, r.owed, r.outbox, n.owed, n.outbox, b.owed, owed_is, boxes, grown, wait, more);
      spare = omega (arith, r.owed, r.spare, n.owed, n.lines, b.owed, b.lines, b.few, owed_is, spare, c.lines);
      packets = λ e. omega (arith, r.packets, r.frames, n.packets, n.frames, frames, packet_room, c.packets);
      farewell = λ e. ap (λ (g : OutputView). g.goodbye) c.owes ∙ b.goodbye ∙ n.goodbye ∙ r.goodbye ∙ inside.farewell e;
    }
