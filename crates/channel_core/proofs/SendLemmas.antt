-- A request that is sent: what every one does, and one that neither makes nor deletes an actor.
use Rattle.std.proofs.Common.{◌≡◌, ℕ, suc, ◌+◌, ◌-◌, ◌≤◌, Bool, true, false, not, ◌&&◌, cond, List, [], ◌∷◌, ◌++◌, length, Option, Some, None, is_some, refl, ap, sym, ◌∙◌, arith}
use Rattle.std.proofs.lemmas.Bool.{false≢true}
use Rattle.std.proofs.lemmas.List.{length-append}
use Rattle.ipdl_base.specs.declared.line.What.{What}
use Rattle.ipdl_base.specs.declared.message.Message.{Message}
use Rattle.ipdl_base.specs.declared.schema.Kind.{Kind}
use Rattle.ipdl_base.specs.declared.schema.Kind.TheVariants.{Normal}
use Rattle.ipdl_base.specs.declared.schema.MessageRow.{MessageRow}
use Rattle.ipdl_base.specs.declared.schema.Schema.{Schema}
use Rattle.ipdl_base.specs.declared.value.Values.{Values}
use Rattle.ipdl_base.specs.Sound.{IsSound, is_sync}
use Rattle.promise_table.specs.Promises.{is_pending}
use Rattle.channel_model.specs.Ends.{End, StackEntry, PromiseEntry, message}
use Rattle.channel_model.specs.Events as event
use Rattle.channel_model.specs.Falls.{deletes}
use Rattle.channel_model.specs.Numbers.{is_sync_row, makes_promise, counting}
use Rattle.channel_model.specs.Outputs.{Output, beginning, line, line_at, when, on_end}
use Rattle.channel_model.specs.Parts.{sent_end, outbox_after, promise_for}
use Rattle.channel_model.specs.Sends.{sent, posted_by, names_actor, constructs, send_line, wait_for}
use Rattle.end_parts.specs.OutputView.{OutputView, with_line, with_packet, with_lazy}
use Rattle.end_parts.specs.PromiseRequests.{pending_in}
use Rattle.end_steps.specs.SentRequests.{stack_after, promises_after}
use Rattle.channel_core.specs.Inside.{IsInside}
use Rattle.channel_core.specs.Room.{room, waits_in}
use Rattle.channel_core.specs.EndView.{EndView, frame_packet, HasFrame}
use Rattle.channel_core.specs.Sending.{IsAccepted}
use Rattle.channel_core.specs.Tracks.{Tracks}
use Rattle.channel_core.proofs.AcceptLemmas.{send_steps, row_sound}
use Rattle.channel_core.proofs.MadeLemmas.{Made, HasRoom}
use Rattle.channel_core.proofs.TrackLemmas.{tracks_line, tracks_put, tracks_lazy, tracks_room}

-- What every request does

-- the output when its line is printed, it is posted, and its wait or promise is there
abbrev pub first : MessageRow → Message → Values → End → Output
first row m vs e = record (posted_by row.lazy m (line (send_line row m vs) (beginning e))) { end = sent_end row m e }

first_at : (lazy sync wants : Bool) (row : MessageRow) (m : Message) (w : What) (e : End)
    → when wants (on_end (λ e. record e { promises = e.promises ++ promise_for m ∷ [] })) (when sync (on_end (λ e. record e { stack = wait_for row m ∷ e.stack })) (posted_by lazy m (on_end (λ e. record e { sent = e.sent + 1; constructors_sent = counting row.kind e.constructors_sent }) (line w (beginning e)))))
    ≡ record (posted_by lazy m (line w (beginning e))) {
      end = record e {
        sent = e.sent + 1;
        constructors_sent = counting row.kind e.constructors_sent;
        outbox = outbox_after lazy m e.outbox;
        stack = cond sync (wait_for row m ∷ e.stack) e.stack;
        promises = cond wants (e.promises ++ promise_for m ∷ []) e.promises;
      };
    }
first_at true true true row m w e = refl
first_at true true false row m w e = refl
first_at true false true row m w e = refl
first_at true false false row m w e = refl
first_at false true true row m w e = refl
first_at false true false row m w e = refl
first_at false false true row m w e = refl
first_at false false false row m w e = refl

-- what follows is by its kind
pub sent_is : (row : MessageRow) (m : Message) (vs : Values) (name : Option (List ℕ)) (e : End) → sent row m vs name (beginning e) ≡ deletes m.route row.kind (constructs m.made m.route row.kind (names_actor m.made name (first row m vs e)))
sent_is row m vs name e = ap (λ (o : Output). deletes m.route row.kind (constructs m.made m.route row.kind (names_actor m.made name o))) (first_at row.lazy (is_sync_row row) (makes_promise row) row m (send_line row m vs) e)

-- what the code puts, lazy or not
abbrev pub posted_view : Bool → Schema → Message → OutputView → OutputView
posted_view true schema m out = with_lazy out m (frame_packet schema m)
posted_view false schema m out = with_packet out (frame_packet schema m)

-- room that is taken twice
pub reserved_both : (out first mid : OutputView) → first ≡ record out { line_spare = first.line_spare; packet_spare = first.packet_spare } → mid ≡ record first { outbox_spare = mid.outbox_spare }
    → mid ≡ record out { line_spare = mid.line_spare; packet_spare = mid.packet_spare; outbox_spare = mid.outbox_spare }
reserved_both out first mid a b =
    let lines : first.line_spare ≡ mid.line_spare = sym (ap (λ (g : OutputView). g.line_spare) b) in
    let packets : first.packet_spare ≡ mid.packet_spare = sym (ap (λ (g : OutputView). g.packet_spare) b) in
    b ∙ ap (λ (g : OutputView). record g { outbox_spare = mid.outbox_spare }) a
    ∙ ap (λ (n : ℕ). record out { line_spare = n; packet_spare = first.packet_spare; outbox_spare = mid.outbox_spare }) lines
    ∙ ap (λ (n : ℕ). record out { line_spare = mid.line_spare; packet_spare = n; outbox_spare = mid.outbox_spare }) packets

-- What the code makes of the line and the packet.
pub record CodePosts (v : EndView) (row : MessageRow) (m : Message) (vs : Values) (out mid said posted : OutputView) : Type 0 where
  pub same : mid ≡ record out { line_spare = mid.line_spare; packet_spare = mid.packet_spare; outbox_spare = mid.outbox_spare }
  pub says : said ≡ with_line mid (line_at v.end.side (send_line row m vs))
  pub posts : posted ≡ posted_view row.lazy v.schema m said

posts_at : (v : EndView) (o : Output) (m : Message) (lazy : Bool) (said posted : OutputView) (e : End) → e.outbox ≡ outbox_after lazy m o.end.outbox → HasFrame v.schema m → Tracks v o said → posted ≡ posted_view lazy v.schema m said → Tracks v (record (posted_by lazy m o) { end = e }) posted
posts_at v o m true said posted e box framed t p = let t1 = tracks_lazy v o said posted m framed t p in record { lines = t1.lines; packets = t1.packets; outbox = t1.outbox ∙ sym box; frames = t1.frames; waiting = t1.waiting; framed = t1.framed }
posts_at v o m false said posted e box framed t p = let t1 = tracks_put v o said posted (message m) framed t p in record { lines = t1.lines; packets = t1.packets; outbox = t1.outbox ∙ sym box; frames = t1.frames; waiting = t1.waiting; framed = t1.framed }

pub tracks_first : (v : EndView) (row : MessageRow) (m : Message) (vs : Values) (out mid said posted : OutputView) → HasFrame v.schema m → Tracks v (beginning v.end) out → CodePosts v row m vs out mid said posted → Tracks v (first row m vs v.end) posted
tracks_first v row m vs out mid said posted framed t c =
    let t0 : Tracks v (beginning v.end) mid = tracks_room v (beginning v.end) out mid t (c.same ∙ rw c.same refl) in
    let t1 : Tracks v (line (send_line row m vs) (beginning v.end)) said = tracks_line v (beginning v.end) mid said (send_line row m vs) t0 c.says in
    posts_at v (line (send_line row m vs) (beginning v.end)) m row.lazy said posted (sent_end row m v.end) refl framed t1 c.posts

-- the room that is left then
pub record PostedRoom (out mid posted : OutputView) (lazy : Bool) : Type 0 where
  pub owed : posted.lines_owed ≡ out.lines_owed
  pub spare : posted.line_spare ≡ mid.line_spare - 1
  pub packets : length out.frames + 2 ≤ mid.packet_spare → suc (length posted.frames) ≤ posted.packet_spare
  pub outbox : length posted.outbox ≤ length out.outbox + cond lazy 1 0
  pub goodbye : posted.goodbye ≡ out.goodbye

room_at : (v : EndView) (row : MessageRow) (m : Message) (vs : Values) (lazy : Bool) (out mid said posted : OutputView) → mid ≡ record out { line_spare = mid.line_spare; packet_spare = mid.packet_spare; outbox_spare = mid.outbox_spare } → said ≡ with_line mid (line_at v.end.side (send_line row m vs)) → posted ≡ posted_view lazy v.schema m said
    → PostedRoom out mid posted lazy
room_at v row m vs lazy out mid said posted same says p = by lazy p where
  frames : length said.frames ≡ length out.frames
  frames = ap (λ (g : OutputView). length g.frames) says ∙ ap (λ (g : OutputView). length g.frames) same

  boxes : length said.outbox ≡ length out.outbox
  boxes = ap (λ (g : OutputView). length g.outbox) says ∙ ap (λ (g : OutputView). length g.outbox) same

  room_of : said.packet_spare ≡ mid.packet_spare
  room_of = ap (λ (g : OutputView). g.packet_spare) says

  owed_of : said.lines_owed ≡ out.lines_owed
  owed_of = ap (λ (g : OutputView). g.lines_owed) says ∙ ap (λ (g : OutputView). g.lines_owed) same

  bye_of : said.goodbye ≡ out.goodbye
  bye_of = ap (λ (g : OutputView). g.goodbye) says ∙ ap (λ (g : OutputView). g.goodbye) same

  by : (lazy : Bool) → posted ≡ posted_view lazy v.schema m said → PostedRoom out mid posted lazy
  by true p =
      let more : length posted.frames ≡ length (said.frames ++ frame_packet v.schema m ∷ []) = ap (λ (g : OutputView). length g.frames) p in
      let longer : length posted.outbox ≡ length (said.outbox ++ m ∷ []) = ap (λ (g : OutputView). length g.outbox) p in
      let same_room : posted.packet_spare ≡ said.packet_spare = ap (λ (g : OutputView). g.packet_spare) p in
      record {
        owed = ap (λ (g : OutputView). g.lines_owed) p ∙ owed_of;
        spare = ap (λ (g : OutputView). g.line_spare) p ∙ ap (λ (g : OutputView). g.line_spare) says;
        packets = λ h. omega (arith, h, more, length-append said.frames (frame_packet v.schema m ∷ []), frames, same_room, room_of);
        outbox = omega (arith, longer, length-append said.outbox (m ∷ []), boxes);
        goodbye = ap (λ (g : OutputView). g.goodbye) p ∙ bye_of;
      }
  by false p =
      let none : length posted.frames ≡ 0 = ap (λ (g : OutputView). length g.frames) p in
      let gone : length posted.outbox ≡ 0 = ap (λ (g : OutputView). length g.outbox) p in
      let left : posted.packet_spare ≡ said.packet_spare - (length said.frames + 1) = ap (λ (g : OutputView). g.packet_spare) p in
      record {
        owed = ap (λ (g : OutputView). g.lines_owed) p ∙ owed_of;
        spare = ap (λ (g : OutputView). g.line_spare) p ∙ ap (λ (g : OutputView). g.line_spare) says;
        packets = λ h. omega (arith, h, none, left, frames, room_of);
        outbox = omega (arith, gone);
        goodbye = ap (λ (g : OutputView). g.goodbye) p ∙ bye_of;
      }

pub room_posted : (v : EndView) (row : MessageRow) (m : Message) (vs : Values) (out mid said posted : OutputView) → CodePosts v row m vs out mid said posted → PostedRoom out mid posted row.lazy
room_posted v row m vs out mid said posted c = room_at v row m vs row.lazy out mid said posted c.same c.says c.posts

-- the line of a plain request

one_more : (es : List PromiseEntry) (x : PromiseEntry) → pending_in (es ++ x ∷ []) ≤ suc (pending_in es)
one_more [] x = at (is_pending x.promise) where
  at : (b : Bool) → cond b 1 0 ≤ 1
  at true = omega arith
  at false = omega arith
one_more (e ∷ es) x = at (is_pending e.promise) (pending_in (es ++ x ∷ [])) (pending_in es) (one_more es x) where
  at : (b : Bool) (m n : ℕ) → m ≤ suc n → cond b (suc m) m ≤ suc (cond b (suc n) n)
  at true m n h = omega arith
  at false m n h = omega arith

owed_at : (sync wants lazy : Bool) (row : MessageRow) (m : Message) (stack : List StackEntry) (es : List PromiseEntry) → (lazy ≡ true → sync ≡ false)
    → pending_in (cond (not sync && wants) (es ++ promise_for m ∷ []) es) + waits_in (cond sync (wait_for row m ∷ stack) stack) + cond lazy 1 0 ≤ pending_in es + waits_in stack + 2
owed_at true wants true row m stack es h = absurd (false≢true (sym (h refl)))
owed_at true wants false row m stack es h = omega arith
owed_at false true true row m stack es h = omega (arith, one_more es (promise_for m))
owed_at false true false row m stack es h = omega (arith, one_more es (promise_for m))
owed_at false false true row m stack es h = omega arith
owed_at false false false row m stack es h = omega arith

-- a lazy request is async
lazy_async : (v : EndView) (row : MessageRow) (m : Message) (vs : Values) (name : Option (List ℕ)) → IsAccepted v row m vs name → IsSound v.schema → row.lazy ≡ true → is_sync_row row ≡ false
lazy_async v row m vs name a sound lazy = ap is_sync (((row_sound v row m vs name a sound).sound.lazy lazy).0)

-- What the code makes of a request that neither makes nor deletes an actor.
pub record CodeSends (v : EndView) (row : MessageRow) (m : Message) (vs : Values) (out mid said posted owed : OutputView) (stack : List StackEntry) (promises : List PromiseEntry) : Type 0 where
  pub posts : CodePosts v row m vs out mid said posted
  pub owes : owed ≡ record posted { lines_owed = posted.lines_owed + 2 }
  pub waits : stack ≡ stack_after row m v.end.stack
  pub promised : promises ≡ promises_after row m v.end.promises
  pub lines : out.lines_owed + 3 ≤ mid.line_spare
  pub packets : length out.frames + 2 ≤ mid.packet_spare

-- an end as such a request leaves it
abbrev pub sent_with : End → List StackEntry → List PromiseEntry → OutputView → End
sent_with e stack promises out = record e { sent = e.sent + 1; stack = stack; promises = promises; outbox = out.outbox }

nothing_follows : (row : MessageRow) (m : Message) (name : Option (List ℕ)) (o : Output) → row.kind ≡ Normal → name ≡ None → deletes m.route row.kind (constructs m.made m.route row.kind (names_actor m.made name o)) ≡ o
nothing_follows row m name o kind none = rw (kind, none) refl

ends_so : (row : MessageRow) (m : Message) (e : End) (out : OutputView) (stack : List StackEntry) (promises : List PromiseEntry) → row.kind ≡ Normal → out.outbox ≡ outbox_after row.lazy m e.outbox → stack ≡ stack_after row m e.stack → promises ≡ promises_after row m e.promises → sent_with e stack promises out ≡ sent_end row m e
ends_so row m e out stack promises kind box s p =
    rw (s, p, box) (ap (λ (k : Kind). record (sent_end row m e) { constructors_sent = counting k e.constructors_sent }) (sym kind))

pub sends : (v : EndView) (row : MessageRow) (m : Message) (vs : Values) (out mid said posted owed : OutputView) (stack : List StackEntry) (promises : List PromiseEntry) → row.kind ≡ Normal → IsAccepted v row m vs None → HasFrame v.schema m → Tracks v (beginning v.end) out
    → CodeSends v row m vs out mid said posted owed stack promises → Made v [] (event.send m.route row.number vs None) (sent_with v.end stack promises owed) owed
sends v row m vs out mid said posted owed stack promises kind a framed t c =
    let t1 : Tracks v (first row m vs v.end) posted = tracks_first v row m vs out mid said posted framed t c.posts in
    let t2 : Tracks v (first row m vs v.end) owed = tracks_room v (first row m vs v.end) posted owed t1 (c.owes ∙ rw c.owes refl) in
    record {
      output = first row m vs v.end;
      steps = send_steps v row m vs None a ∙ ap (λ (o : Output). Some o) (sent_is row m vs None v.end ∙ nothing_follows row m None (first row m vs v.end) kind refl);
      tracks = t2;
      ends = ends_so row m v.end owed stack promises kind t2.outbox c.waits c.promised;
    }

pub send_room : (v : EndView) (row : MessageRow) (m : Message) (vs : Values) (out mid said posted owed : OutputView) (stack : List StackEntry) (promises : List PromiseEntry) → IsAccepted v row m vs None → out.outbox ≡ v.end.outbox → IsInside v.schema v.end out
    → CodeSends v row m vs out mid said posted owed stack promises → HasRoom v.schema (sent_with v.end stack promises owed) owed
unfolding room
send_room v row m vs out mid said posted owed stack promises a box inside c =
    let r : PostedRoom out mid posted row.lazy = room_posted v row m vs out mid said posted c.posts in
    let owed_is : owed.lines_owed ≡ posted.lines_owed + 2 = ap (λ (g : OutputView). g.lines_owed) c.owes in
    let spare : owed.line_spare ≡ posted.line_spare = ap (λ (g : OutputView). g.line_spare) c.owes in
    let boxes : length owed.outbox ≡ length posted.outbox = ap (λ (g : OutputView). length g.outbox) c.owes in
    let before : length out.outbox ≡ length v.end.outbox = ap length box in
    let pend : pending_in promises ≡ pending_in (promises_after row m v.end.promises) = ap pending_in c.promised in
    let wait : waits_in stack ≡ waits_in (stack_after row m v.end.stack) = ap waits_in c.waits in
    let more = owed_at (is_sync_row row) (is_some row.returns) row.lazy row m v.end.stack v.end.promises (lazy_async v row m vs None a inside.sound) in
    let frames : length owed.frames ≡ length posted.frames = ap (λ (g : OutputView). length g.frames) c.owes in
    let packet_room : owed.packet_spare ≡ posted.packet_spare = ap (λ (g : OutputView). g.packet_spare) c.owes in
    let enough : suc (length posted.frames) ≤ posted.packet_spare = r.packets c.packets in
    record {
      owes = omega (arith, inside.owes, owed_is, r.owed, boxes, r.outbox, before, pend, wait, more);
      spare = omega (arith, inside.spare, owed_is, r.owed, spare, r.spare, c.lines);
      packets = λ x. omega (arith, enough, frames, packet_room);
      farewell = λ x. ap (λ (g : OutputView). g.goodbye) c.owes ∙ r.goodbye ∙ inside.farewell x;
    }
