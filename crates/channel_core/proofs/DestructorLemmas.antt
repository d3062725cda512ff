-- A destructor that is sent.
use Rattle.std.proofs.Common.{◌≡◌, ℕ, suc, ◌+◌, ◌≤◌, Bool, true, false, not, ◌&&◌, cond, List, [], ◌∷◌, ◌++◌, length, Option, Some, None, is_some, refl, ap, sym, subst, ◌∙◌, arith}
use Rattle.actor_tree.specs.declared.actor.Actor.{Actor}
use Rattle.ipdl_base.specs.declared.message.Message.{Message}
use Rattle.ipdl_base.specs.declared.schema.Kind.{Kind}
use Rattle.ipdl_base.specs.declared.schema.Kind.TheVariants.{Normal, Delete}
use Rattle.ipdl_base.specs.declared.schema.MessageRow.{MessageRow}
use Rattle.ipdl_base.specs.declared.schema.ParamRow.{ParamRow}
use Rattle.ipdl_base.specs.declared.value.Values.{Values}
use Rattle.ipdl_base.specs.Sound.{IsSound, is_sync}
use Rattle.channel_model.specs.Ends.{End, PromiseEntry, message}
use Rattle.channel_model.specs.Events as event
use Rattle.channel_model.specs.Falls.{deletes}
use Rattle.channel_model.specs.Numbers.{is_sync_row, makes_promise, counting}
use Rattle.channel_model.specs.Outputs.{Output, beginning, line, put}
use Rattle.channel_model.specs.Parts.{sent_end, outbox_after, promise_for}
use Rattle.channel_model.specs.Sends.{names_actor, constructs, posted_by, send_line, wait_for}
use Rattle.channel_model.proofs.SoundRows.{IsAt}
use Rattle.end_steps.specs.Deletions.{HasDeleted}
use Rattle.end_parts.specs.OutputView.{OutputView}
use Rattle.end_parts.specs.PromiseRequests.{pending_in}
use Rattle.channel_core.specs.Inside.{IsInside}
use Rattle.channel_core.specs.Room.{room}
use Rattle.channel_core.specs.EndView.{EndView, HasFrame}
use Rattle.channel_core.specs.Sending.{IsAccepted}
use Rattle.channel_core.specs.Tracks.{Tracks}
use Rattle.channel_core.proofs.AcceptLemmas.{send_steps, row_sound}
use Rattle.channel_core.proofs.DeletionLemmas.{Deletes, KeepsRoom, deleted_room, tracks_deleted}
use Rattle.channel_core.proofs.MadeLemmas.{Made, HasRoom}
use Rattle.channel_core.proofs.SendLemmas.{first, sent_is, CodePosts, PostedRoom, tracks_first, room_posted}

-- What a sound destructor is: async, without returns, and not lazy.
pub record IsBare (row : MessageRow) : Type 0 where
  pub sync : is_sync_row row ≡ false
  pub wants : makes_promise row ≡ false
  pub lazy : row.lazy ≡ false

not-lazy : (row : MessageRow) (b : Bool) → row.lazy ≡ b → row.kind ≡ Delete → (row.lazy ≡ true → row.kind ≡ Normal) → row.lazy ≡ false
not-lazy row false e kind h = e
not-lazy row true e kind h = let bad : Delete ≡ Normal = sym kind ∙ h e in cc

wants-none : (b : Bool) (returns : Option (List ParamRow)) → returns ≡ None → not b && is_some returns ≡ false
wants-none true returns e = refl
wants-none false returns e = rw e refl

pub bare : (v : EndView) (row : MessageRow) (m : Message) (vs : Values) (name : Option (List ℕ)) → IsAccepted v row m vs name → IsSound v.schema → row.kind ≡ Delete → IsBare row
bare v row m vs name a sound kind =
    let at : IsAt v.schema row.number row = row_sound v row m vs name a sound in record {
      sync = ap is_sync (at.sound.delete kind).0;
      wants = wants-none (is_sync_row row) row.returns (at.sound.delete kind).1;
      lazy = not-lazy row row.lazy refl kind (λ e. (at.sound.lazy e).1);
    }

-- the end after its packet
abbrev gone : End → End
gone e = record e { sent = e.sent + 1; outbox = [] }

abbrev gone_output : MessageRow → Message → Values → End → Output
gone_output row m vs e = record (put (message m) (line (send_line row m vs) (beginning e))) { end = gone e }

first_is : (row : MessageRow) (m : Message) (vs : Values) (e : End) → row.kind ≡ Delete → IsBare row → first row m vs e ≡ gone_output row m vs e
first_is row m vs e kind b =
    let ended : sent_end row m e ≡ record (gone e) { constructors_sent = counting row.kind e.constructors_sent; outbox = outbox_after row.lazy m e.outbox } =
    ap (λ (x : Bool). record (sent_end row m e) { stack = cond x (wait_for row m ∷ e.stack) e.stack }) b.sync
    ∙ ap (λ (x : Bool). record (sent_end row m e) { stack = e.stack; promises = cond x (e.promises ++ promise_for m ∷ []) e.promises }) b.wants in
    ap (λ (x : End). record (posted_by row.lazy m (line (send_line row m vs) (beginning e))) { end = x }) (ended ∙ ap (λ (k : Kind). record (gone e) { constructors_sent = counting k e.constructors_sent; outbox = outbox_after row.lazy m e.outbox }) kind)
    ∙ ap (λ (l : Bool). record (posted_by l m (line (send_line row m vs) (beginning e))) { end = record (gone e) { outbox = outbox_after l m e.outbox } }) b.lazy

-- What the code makes of a destructor.
pub record CodeDeletes (v : EndView) (row : MessageRow) (m : Message) (vs : Values) (out mid said posted paid : OutputView) (actors : List Actor) (promises : List PromiseEntry) : Type 0 where
  pub posts : CodePosts v row m vs out mid said posted
  pub deletes : HasDeleted row.kind v.end.side m.route v.end.actors v.end.promises posted actors promises paid
  pub lines : out.lines_owed + 1 ≤ mid.line_spare
  pub packets : length out.frames + 2 ≤ mid.packet_spare

-- an end as a destructor leaves it
abbrev pub deleted_with : End → List Actor → List PromiseEntry → OutputView → End
deleted_with e actors promises out = record e { sent = e.sent + 1; actors = actors; promises = promises; outbox = out.outbox }

follows : (row : MessageRow) (m : Message) (o : Output) → row.kind ≡ Delete → deletes m.route row.kind (constructs m.made m.route row.kind (names_actor m.made None o)) ≡ deletes m.route row.kind o
follows row m o kind = rw kind refl

pub sends_destructor : (v : EndView) (row : MessageRow) (m : Message) (vs : Values) (out mid said posted paid : OutputView) (actors : List Actor) (promises : List PromiseEntry) → row.kind ≡ Delete → IsSound v.schema → IsAccepted v row m vs None → HasFrame v.schema m → Tracks v (beginning v.end) out
    → CodeDeletes v row m vs out mid said posted paid actors promises → Made v [] (event.send m.route row.number vs None) (deleted_with v.end actors promises paid) paid
sends_destructor v row m vs out mid said posted paid actors promises kind sound a framed t c =
    let b : IsBare row = bare v row m vs None a sound kind in
    let o : Output = gone_output row m vs v.end in
    let is : first row m vs v.end ≡ o = first_is row m vs v.end kind b in
    let t1 : Tracks v o posted = subst (λ (o : Output). Tracks v o posted) is (tracks_first v row m vs out mid said posted framed t c.posts) in
    let d : Deletes v o row.kind m.route actors promises paid = tracks_deleted v o row.kind m.route posted actors promises paid t1 c.deletes in
    record {
      output = deletes m.route row.kind o;
      steps = send_steps v row m vs None a ∙ ap (λ (o : Output). Some o) (sent_is row m vs None v.end ∙ follows row m (first row m vs v.end) kind ∙ ap (deletes m.route row.kind) is);
      tracks = d.tracks;
      ends = ap (λ (ms : List Message). record (gone v.end) { actors = actors; promises = promises; outbox = ms }) (d.tracks.outbox ∙ ap (λ (e : End). e.outbox) (sym d.ends)) ∙ d.ends;
    }

-- there is room for those who fall
pub fall_room : (v : EndView) (row : MessageRow) (m : Message) (vs : Values) (out mid said posted : OutputView) → CodePosts v row m vs out mid said posted → out.lines_owed + 1 ≤ mid.line_spare → IsInside v.schema v.end out → length v.end.actors + pending_in v.end.promises ≤ posted.line_spare
unfolding room
fall_room v row m vs out mid said posted p lines inside =
    let r : PostedRoom out mid posted row.lazy = room_posted v row m vs out mid said posted p in
    omega (arith, inside.owes, r.spare, lines)

pub destructor_room : (v : EndView) (row : MessageRow) (m : Message) (vs : Values) (out mid said posted paid : OutputView) (actors : List Actor) (promises : List PromiseEntry) → row.kind ≡ Delete → IsAccepted v row m vs None → out.outbox ≡ v.end.outbox → IsInside v.schema v.end out
    → CodeDeletes v row m vs out mid said posted paid actors promises → HasRoom v.schema (deleted_with v.end actors promises paid) paid
unfolding room
destructor_room v row m vs out mid said posted paid actors promises kind a box inside c =
    let b : IsBare row = bare v row m vs None a inside.sound kind in
    let r : PostedRoom out mid posted row.lazy = room_posted v row m vs out mid said posted c.posts in
    let k : KeepsRoom v.end.actors v.end.promises posted actors promises paid = deleted_room row.kind v.end.side m.route v.end.actors v.end.promises posted actors promises paid c.deletes in
    let eager : ◌≡◌ {A = ℕ} (cond row.lazy 1 0) 0 = ap (λ (l : Bool). cond l 1 0) b.lazy in
    let boxes : length paid.outbox ≡ length posted.outbox = ap length k.outbox in
    let frames : length paid.frames ≡ length posted.frames = ap length k.frames in
    let before : length out.outbox ≡ length v.end.outbox = ap length box in
    let enough : suc (length posted.frames) ≤ posted.packet_spare = r.packets c.packets in
    record {
      owes = omega (arith, inside.owes, r.owed, r.outbox, eager, boxes, before, k.owes);
      spare = k.spare (omega (arith, r.owed, r.spare, c.lines));
      packets = λ x. omega (arith, enough, frames, k.packets);
      farewell = λ x. k.goodbye ∙ r.goodbye ∙ inside.farewell x;
    }
