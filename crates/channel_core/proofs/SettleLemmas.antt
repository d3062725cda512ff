-- A reply that is taken.
use Rattle.std.proofs.Common.{◌≡◌, ◌≢◌, ℕ, ℤ, suc, ◌+◌, ◌-◌, ◌≤◌, Bool, true, false, ◌&&◌, not, cond, if◌then◌else◌, List, [], ◌∷◌, length, map, find, Option, Some, None, is_none, refl, ap, sym, subst, ◌∙◌, arith, int_eq}
use Rattle.std.specs.List.{AllByRecursion}
use Rattle.std.specs.Option.{option_map_or}
use Rattle.std.proofs.lemmas.Bool.Decides.{Decides-int_eq}
use Rattle.actor_tree.proofs.Ids.{other}
use Rattle.ipdl_base.specs.declared.line.What.TheVariants as what
use Rattle.ipdl_base.specs.declared.message.Body.{Body}
use Rattle.ipdl_base.specs.declared.message.Body.TheVariants.{Request, Reply, Fault, Goodbye}
use Rattle.ipdl_base.specs.declared.message.Message.{Message}
use Rattle.ipdl_base.specs.declared.schema.MessageRow.{MessageRow}
use Rattle.ipdl_base.specs.declared.value.Values.{Values}
use Rattle.ipdl_base.specs.Plain.{plain_body, plain_message}
use Rattle.ipdl_base.specs.Sound.{message_of}
use Rattle.nesting_core.specs.Plain.{plain_answer}
use Rattle.pending_queue.specs.declared.item.Item.{Item}
use Rattle.pending_queue.specs.declared.item.Item.TheVariants as item
use Rattle.pending_queue.specs.Plain.{plain_item}
use Rattle.promise_table.specs.declared.promise.Outcome.{Outcome}
use Rattle.promise_table.specs.Promises.{has_number, is_pending}
use Rattle.ipdl_base.specs.declared.schema.Schema.{Schema}
use Rattle.value_types.specs.Fits.{Fits, FitsBody}
use Rattle.channel_model.specs.Actors.{AreDistinct}
use Rattle.channel_model.specs.Ends.{End, PromiseEntry}
use Rattle.channel_model.specs.Events as event
use Rattle.channel_model.specs.Outputs.{Output, beginning, line, line_at, on_end, unchanged, when}
use Rattle.channel_model.specs.Parts.{left_end}
use Rattle.channel_model.specs.Requests.{promise_seq}
use Rattle.channel_model.specs.Steps.{step}
use Rattle.channel_model.specs.Takes.{body_taken, is_awaited, outcome_of, reply_taken, settle_line, settled_entry, settles, taken_next}
use Rattle.channel_model.specs.ValueActors.{received}
use Rattle.end_steps.specs.AnswerPackets.{answer_in, IsAnswering}
use Rattle.end_parts.specs.CopiedAnswers.{values_of}
use Rattle.end_parts.specs.OutputView.{OutputView, with_line}
use Rattle.end_parts.specs.PromiseRequests.{pending_in}
use Rattle.end_steps.specs.TakenItems.{with_settling}
use Rattle.end_steps.specs.RequestPlans.{IsCopyOfItem, IsReplyItem}
use Rattle.channel_core.specs.declared.end.taking.ItemKind.TheVariants as kind
use Rattle.channel_core.specs.Inside.{IsInside}
use Rattle.channel_core.specs.NextItems.{kind_of_item, values_in, IsNextMessage, IsNextReply}
use Rattle.channel_core.specs.Room.{room}
use Rattle.channel_core.specs.EndView.{EndView}
use Rattle.channel_core.specs.Taken.{settle, kind_of, body_kind, item_kind, nothing}
use Rattle.channel_core.specs.Tracks.{Tracks}
use Rattle.channel_core.proofs.MadeLemmas.{Made, HasRoom}
use Rattle.channel_core.proofs.TakeLemmas.{left, take_steps, IsFirst}
use Rattle.channel_core.proofs.TrackLemmas.{tracks_end, tracks_line, tracks_room}

-- Answers in bodies

pub answer_plain : (body : Body) → IsAnswering body → plain_answer (answer_in body) ≡ answer_in (plain_body body)
answer_plain (Request vs) h = absurd h
answer_plain (Reply vs) h = refl
answer_plain (Fault reason) h = refl
answer_plain Goodbye h = absurd h

pub values_plain : (body : Body) → IsAnswering body → values_in (plain_body body) ≡ values_of (answer_in body)
values_plain (Request vs) h = absurd h
values_plain (Reply vs) h = refl
values_plain (Fault reason) h = refl
values_plain Goodbye h = absurd h

pub answering_plain : (body : Body) → IsAnswering (plain_body body) → IsAnswering body
answering_plain (Request vs) h = absurd h
answering_plain (Reply vs) h = tt
answering_plain (Fault reason) h = tt
answering_plain Goodbye h = absurd h

pub plain_answering : (body : Body) → IsAnswering body → IsAnswering (plain_body body)
plain_answering (Request vs) h = absurd h
plain_answering (Reply vs) h = tt
plain_answering (Fault reason) h = tt
plain_answering Goodbye h = absurd h

-- Promises

same_number : (x y : ℤ) → int_eq x y ≡ true → x ≡ y
same_number x y e = (Decides-int_eq x y).0 e

-- a promise of another number stays
other_stays : (seq : ℤ) (outcome : Outcome) (x : PromiseEntry) → has_number seq x.promise ≡ false → settled_entry seq outcome x ≡ x
other_stays seq outcome x e = ap (λ (b : Bool). record x { promise = cond (b && is_pending x.promise) (record x.promise { outcome = Some outcome }) x.promise }) e

-- one that does not pend stays
settled_stays : (seq : ℤ) (outcome : Outcome) (x : PromiseEntry) (b : Bool) → is_pending x.promise ≡ false → has_number seq x.promise ≡ b → settled_entry seq outcome x ≡ x
settled_stays seq outcome x true p e = rw (e, p) refl
settled_stays seq outcome x false p e = other_stays seq outcome x e

others_stay : (seq : ℤ) (outcome : Outcome) (xs : List PromiseEntry) → AllByRecursion (λ (n : ℤ). seq ≢ n) (map promise_seq xs) → map (settled_entry seq outcome) xs ≡ xs
others_stay seq outcome [] h = refl
others_stay seq outcome (x ∷ xs) h =
    let first : settled_entry seq outcome x ≡ x = other_stays seq outcome x (other x.promise.seq seq (λ e. h.0 (sym e))) in
    ap (λ (y : PromiseEntry). y ∷ map (settled_entry seq outcome) xs) first ∙ ap (λ (ys : List PromiseEntry). x ∷ ys) (others_stay seq outcome xs h.1)

-- where none awaits the number, all stay
late_at : (seq : ℤ) (outcome : Outcome) (x : PromiseEntry) (xs : List PromiseEntry) (b : Bool) → has_number seq x.promise ≡ b → AreDistinct (map promise_seq (x ∷ xs)) → is_awaited seq (x ∷ xs) ≡ false → (is_awaited seq xs ≡ false → map (settled_entry seq outcome) xs ≡ xs)
    → map (settled_entry seq outcome) (x ∷ xs) ≡ x ∷ xs
late_at seq outcome x xs true is d e k =
    let here : is_pending x.promise ≡ false = sym (ap (λ (b : Bool). option_map_or (λ (entry : PromiseEntry). is_pending entry.promise) (cond b (Some x) (find (λ (entry : PromiseEntry). has_number seq entry.promise) xs)) false) is) ∙ e in
    let same : x.promise.seq ≡ seq = same_number x.promise.seq seq is in
    ap (λ (y : PromiseEntry). y ∷ map (settled_entry seq outcome) xs) (settled_stays seq outcome x true here is)
    ∙ ap (λ (ys : List PromiseEntry). x ∷ ys) (others_stay seq outcome xs (subst (λ (z : ℤ). AllByRecursion (λ (n : ℤ). z ≢ n) (map promise_seq xs)) same d.0))
late_at seq outcome x xs false is d e k =
    let rest : is_awaited seq xs ≡ false = sym (ap (λ (b : Bool). option_map_or (λ (entry : PromiseEntry). is_pending entry.promise) (cond b (Some x) (find (λ (entry : PromiseEntry). has_number seq entry.promise) xs)) false) is) ∙ e in
    ap (λ (y : PromiseEntry). y ∷ map (settled_entry seq outcome) xs) (other_stays seq outcome x is) ∙ ap (λ (ys : List PromiseEntry). x ∷ ys) (k rest)

pub late_stay : (seq : ℤ) (outcome : Outcome) (xs : List PromiseEntry) → AreDistinct (map promise_seq xs) → is_awaited seq xs ≡ false → map (settled_entry seq outcome) xs ≡ xs
late_stay seq outcome [] d e = refl
late_stay seq outcome (x ∷ xs) d e = late_at seq outcome x xs (has_number seq x.promise) refl d e (late_stay seq outcome xs d.1)

-- whether a promise still pends when a number is settled
pends_still : (seq : ℤ) (outcome : Outcome) (x : PromiseEntry) → is_pending (settled_entry seq outcome x).promise ≡ (is_pending x.promise && not (has_number seq x.promise))
pends_still seq outcome x = by (has_number seq x.promise) x.promise.outcome
  where
    by : (h : Bool) (o : Option Outcome) → is_none (cond (h && is_none o) (record x.promise { outcome = Some outcome }) (record x.promise { outcome = o })).outcome ≡ (is_none o && not h)
    by true None = refl
    by true (Some r) = refl
    by false None = refl
    by false (Some r) = refl

pending_next : (seq : ℤ) (outcome : Outcome) (x : PromiseEntry) (xs : List PromiseEntry) → pending_in (map (settled_entry seq outcome) (x ∷ xs)) ≡ (if is_pending x.promise && not (has_number seq x.promise) then suc (pending_in (map (settled_entry seq outcome) xs)) else pending_in (map (settled_entry seq outcome) xs))
pending_next seq outcome x xs = ap (λ (b : Bool). if b then suc (pending_in (map (settled_entry seq outcome) xs)) else pending_in (map (settled_entry seq outcome) xs)) (pends_still seq outcome x)

-- no more pend
count_at : (p h : Bool) (m n : ℕ) → m ≤ n → (if p && not h then suc m else m) ≤ (if p then suc n else n)
count_at true true m n k = omega (arith, k)
count_at true false m n k = omega (arith, k)
count_at false h m n k = k

no_more_pend : (seq : ℤ) (outcome : Outcome) (xs : List PromiseEntry) → pending_in (map (settled_entry seq outcome) xs) ≤ pending_in xs
no_more_pend seq outcome [] = omega arith
no_more_pend seq outcome (x ∷ xs) = subst (λ (n : ℕ). n ≤ pending_in (x ∷ xs)) (sym (pending_next seq outcome x xs)) (count_at (is_pending x.promise) (has_number seq x.promise) (pending_in (map (settled_entry seq outcome) xs)) (pending_in xs) (no_more_pend seq outcome xs))

-- where one awaits the number, one pends no more
fewer_count : (p h : Bool) (m n : ℕ) (rest : Bool) → (if h then p else rest) ≡ true → m ≤ n → (rest ≡ true → m + 1 ≤ n) → (if p && not h then suc m else m) + 1 ≤ (if p then suc n else n)
fewer_count true true m n rest e k l = omega (arith, k)
fewer_count false true m n rest e k l = cc
fewer_count true false m n rest e k l = let j : m + 1 ≤ n = l e in omega (arith, j)
fewer_count false false m n rest e k l = l e

awaited_at : (seq : ℤ) (x : PromiseEntry) (xs : List PromiseEntry) (h : Bool) → has_number seq x.promise ≡ h → is_awaited seq (x ∷ xs) ≡ (if h then is_pending x.promise else is_awaited seq xs)
awaited_at seq x xs true e = ap (λ (b : Bool). option_map_or (λ (entry : PromiseEntry). is_pending entry.promise) (cond b (Some x) (find (λ (entry : PromiseEntry). has_number seq entry.promise) xs)) false) e
awaited_at seq x xs false e = ap (λ (b : Bool). option_map_or (λ (entry : PromiseEntry). is_pending entry.promise) (cond b (Some x) (find (λ (entry : PromiseEntry). has_number seq entry.promise) xs)) false) e

pub fewer_pend : (seq : ℤ) (outcome : Outcome) (xs : List PromiseEntry) → is_awaited seq xs ≡ true → pending_in (map (settled_entry seq outcome) xs) + 1 ≤ pending_in xs
fewer_pend seq outcome [] e = cc
fewer_pend seq outcome (x ∷ xs) e =
    subst (λ (n : ℕ). n + 1 ≤ pending_in (x ∷ xs)) (sym (pending_next seq outcome x xs))
    (fewer_count (is_pending x.promise) (has_number seq x.promise) (pending_in (map (settled_entry seq outcome) xs)) (pending_in xs) (is_awaited seq xs) (sym (awaited_at seq x xs (has_number seq x.promise) refl) ∙ e) (no_more_pend seq outcome xs) (fewer_pend seq outcome xs))

-- The step

reply_steps_at : (v : EndView) (m : Message) (row : MessageRow) (body : Body) → m.body ≡ body → IsAnswering body → message_of v.schema m.number ≡ Some row → body_taken v.schema m m.body (left v.end) ≡ reply_taken v.schema m (answer_in body) row (line (what.TakeReply m.seq) (left v.end))
reply_steps_at v m row (Request vs) e h found = absurd h
reply_steps_at v m row (Reply vs) e h found = ap (λ (b : Body). body_taken v.schema m b (left v.end)) e ∙ ap (λ (r : Option MessageRow). option_map_or (reply_taken v.schema m (answer_in (Reply vs))) r unchanged (line (what.TakeReply m.seq) (left v.end))) found
reply_steps_at v m row (Fault reason) e h found = ap (λ (b : Body). body_taken v.schema m b (left v.end)) e ∙ ap (λ (r : Option MessageRow). option_map_or (reply_taken v.schema m (answer_in (Fault reason))) r unchanged (line (what.TakeReply m.seq) (left v.end))) found
reply_steps_at v m row Goodbye e h found = absurd h

-- a promise is settled, where it is awaited
tracks_settling : (v : EndView) (o : Output) (said out' : OutputView) (seq : ℤ) (outcome : Outcome) (b : Bool) → Tracks v o said → out' ≡ with_settling b o.end.side (settle_line seq outcome) said → Tracks v (when b (settles seq outcome) o) out'
tracks_settling v o said out' seq outcome false t e = rw e t
tracks_settling v o said out' seq outcome true t e =
    let change : End → End = λ (x : End). record x { promises = map (settled_entry seq outcome) x.promises } in
    let spoken : OutputView = with_line said (line_at o.end.side (settle_line seq outcome)) in
    let t1 : Tracks v (on_end change o) said = tracks_end v o said change t refl in
    let t2 : Tracks v (line (settle_line seq outcome) (on_end change o)) spoken = tracks_line v (on_end change o) said spoken (settle_line seq outcome) t1 refl in
    tracks_room v (line (settle_line seq outcome) (on_end change o)) spoken out' t2 (e ∙ rw e refl)

settled_end : (o : Output) (seq : ℤ) (outcome : Outcome) (b : Bool) → (b ≡ false → map (settled_entry seq outcome) o.end.promises ≡ o.end.promises) → (when b (settles seq outcome) o).end ≡ record o.end { promises = map (settled_entry seq outcome) o.end.promises }
settled_end o seq outcome true h = refl
settled_end o seq outcome false h = ap (λ (es : List PromiseEntry). record o.end { promises = es }) (sym (h refl))

-- What the code makes of a reply that it takes.
pub record CodeSettles (v : EndView) (out mid said out' : OutputView) (m : Message) (row : MessageRow) (promises : List PromiseEntry) (items : List Item) : Type 0 where
  pub same : mid ≡ record out { line_spare = mid.line_spare; packet_spare = mid.packet_spare }
  pub lines : out.lines_owed + 2 ≤ mid.line_spare
  pub packets : out.packet_spare ≤ mid.packet_spare
  pub leaves : map plain_item items ≡ (left_end v.end).arrived
  pub says : said ≡ with_line mid (line_at v.end.side (what.TakeReply m.seq))
  pub settled : promises ≡ map (settled_entry m.seq (outcome_of (received v.schema v.end.actors row (answer_in m.body)))) v.end.promises
  pub told : out' ≡ with_settling (is_awaited m.seq v.end.promises) v.end.side (settle_line m.seq (outcome_of (received v.schema v.end.actors row (answer_in m.body)))) said

-- the end after it
abbrev pub settled_with : End → List PromiseEntry → List Item → OutputView → End
settled_with e promises items out = record e { arrived = map plain_item items; promises = promises; outbox = out.outbox }

module _ (v : EndView) (m : Message) (row : MessageRow) (n : IsNextMessage v m) (answers : IsAnswering m.body) (found : message_of v.schema m.number ≡ Some row) where
  abbrev outcome : Outcome
  outcome = outcome_of (received v.schema v.end.actors row (answer_in m.body))

  abbrev spoken : Output
  spoken = line (what.TakeReply m.seq) (left v.end)

  abbrev awaited : Bool
  awaited = is_awaited m.seq v.end.promises

  settle_steps : step v.schema v.end [] event.take ≡ Some (when awaited (settles m.seq outcome) spoken)
  settle_steps = take_steps v (item.Message m n.sync n.level) n.next ∙ ap Some (reply_steps_at v m row m.body refl answers found)

  pub settles_reply : (out mid said out' : OutputView) (promises : List PromiseEntry) (items : List Item) → AreDistinct (map promise_seq v.end.promises) → Tracks v (beginning v.end) out → CodeSettles v out mid said out' m row promises items → Made v [] event.take (settled_with v.end promises items out') out'
  settles_reply out mid said out' promises items distinct t h =
      let t0 : Tracks v (beginning v.end) mid = tracks_room v (beginning v.end) out mid t (h.same ∙ rw h.same refl) in
      let t1 : Tracks v (left v.end) mid = tracks_end v (beginning v.end) mid left_end t0 refl in
      let t2 : Tracks v spoken said = tracks_line v (left v.end) mid said (what.TakeReply m.seq) t1 h.says in
      let t3 : Tracks v (when awaited (settles m.seq outcome) spoken) out' = tracks_settling v spoken said out' m.seq outcome awaited t2 h.told in
      let end_is = settled_end spoken m.seq outcome awaited (late_stay m.seq outcome v.end.promises distinct) in
      record {
        output = when awaited (settles m.seq outcome) spoken;
        steps = settle_steps;
        tracks = t3;
        ends = rw (h.settled, h.leaves, t3.outbox ∙ ap (λ (x : End). x.outbox) end_is) (sym end_is);
      }

  room_at : (out mid said out' : OutputView) (promises : List PromiseEntry) (b : Bool) → awaited ≡ b → out.lines_owed + 2 ≤ mid.line_spare → said.line_spare ≡ mid.line_spare - 1 → said.lines_owed ≡ out.lines_owed → promises ≡ map (settled_entry m.seq outcome) v.end.promises
      → out' ≡ with_settling b v.end.side (settle_line m.seq outcome) said → (pending_in promises + out.lines_owed ≤ pending_in v.end.promises + out'.lines_owed) × (out'.lines_owed ≤ out'.line_spare)
  room_at out mid said out' promises true is lines spare owed settled told =
      let fewer : pending_in promises + 1 ≤ pending_in v.end.promises = subst (λ (es : List PromiseEntry). pending_in es + 1 ≤ pending_in v.end.promises) (sym settled) (fewer_pend m.seq outcome v.end.promises is) in
      let o : out'.lines_owed ≡ said.lines_owed - 1 = ap (λ (g : OutputView). g.lines_owed) told in
      let s : out'.line_spare ≡ said.line_spare - 1 = ap (λ (g : OutputView). g.line_spare) told in
      (omega (arith, fewer, o, owed), omega (arith, lines, spare, owed, o, s))
  room_at out mid said out' promises false is lines spare owed settled told =
      let no_more : pending_in promises ≤ pending_in v.end.promises = subst (λ (es : List PromiseEntry). pending_in es ≤ pending_in v.end.promises) (sym settled) (no_more_pend m.seq outcome v.end.promises) in
      let o : out'.lines_owed ≡ said.lines_owed = ap (λ (g : OutputView). g.lines_owed) told in
      let s : out'.line_spare ≡ said.line_spare = ap (λ (g : OutputView). g.line_spare) told in
      (omega (arith, no_more, o, owed), omega (arith, lines, spare, owed, o, s))

  rest_at : (said out' : OutputView) (b : Bool) → out' ≡ with_settling b v.end.side (settle_line m.seq outcome) said → (out'.packet_spare ≡ said.packet_spare) × (out'.frames ≡ said.frames) × (out'.goodbye ≡ said.goodbye) × (out'.outbox ≡ said.outbox)
  rest_at said out' true e = rw e (refl, refl, refl, refl)
  rest_at said out' false e = rw e (refl, refl, refl, refl)

  pub settle_room : (out mid said out' : OutputView) (promises : List PromiseEntry) (items : List Item) → out.outbox ≡ v.end.outbox → IsInside v.schema v.end out → CodeSettles v out mid said out' m row promises items → HasRoom v.schema (settled_with v.end promises items out') out'
  unfolding room
  settle_room out mid said out' promises items box inside h =
      let said_spare : said.line_spare ≡ mid.line_spare - 1 = ap (λ (g : OutputView). g.line_spare) h.says in
      let said_owed : said.lines_owed ≡ out.lines_owed = ap (λ (g : OutputView). g.lines_owed) h.says ∙ ap (λ (g : OutputView). g.lines_owed) h.same in
      let r = room_at out mid said out' promises awaited refl h.lines said_spare said_owed h.settled h.told in
      let rest = rest_at said out' awaited h.told in
      let packets : out'.packet_spare ≡ mid.packet_spare = rest.0 ∙ ap (λ (g : OutputView). g.packet_spare) h.says in
      let frames : length out'.frames ≡ length out.frames = ap length rest.1 ∙ ap (λ (g : OutputView). length g.frames) h.says ∙ ap (λ (g : OutputView). length g.frames) h.same in
      let bye : out'.goodbye ≡ out.goodbye = rest.2 ∙ ap (λ (g : OutputView). g.goodbye) h.says ∙ ap (λ (g : OutputView). g.goodbye) h.same in
      let boxes : length out'.outbox ≡ length v.end.outbox = ap length rest.3 ∙ ap (λ (g : OutputView). length g.outbox) h.says ∙ ap (λ (g : OutputView). length g.outbox) h.same ∙ ap length box in
      record {
        owes = omega (arith, inside.owes, r.0, boxes);
        spare = r.1;
        packets = λ e. let p : suc (length out.frames) ≤ out.packet_spare = inside.packets e in omega (arith, p, h.packets, packets, frames);
        farewell = λ e. bye ∙ inside.farewell e;
      }

  kind_at : (body : Body) → IsAnswering body → body_kind v m body ≡ settle
  kind_at (Request vs) h = absurd h
  kind_at (Reply vs) h = refl
  kind_at (Fault reason) h = refl
  kind_at Goodbye h = absurd h

  -- what is done is a settling
  pub settle_kind : kind_of v ≡ settle
  unfolding kind_of
  settle_kind = ap (λ (x : Option Item). option_map_or (item_kind v) x nothing) n.next ∙ kind_at m.body answers

-- the row of a reply that fits
pub reply_row : (schema : Schema) (m : Message) → Fits schema m → IsAnswering m.body → (row : MessageRow) × (message_of schema m.number ≡ Some row)
reply_row schema m fits h = by m.body refl h
  where
    by : (body : Body) → m.body ≡ body → IsAnswering body → (row : MessageRow) × (message_of schema m.number ≡ Some row)
    by (Request vs) e h = absurd h
    by (Reply vs) e h = let f : FitsBody schema m (Reply vs) = subst (FitsBody schema m) e fits in (f.0, f.1.found)
    by (Fault reason) e h = let f : FitsBody schema m (Fault reason) = subst (FitsBody schema m) e fits in (f.0, f.1.found)
    by Goodbye e h = absurd h

-- the reply that is next, with a copy of its values
pub copy_reply : (v : EndView) (found : Option Item) (f : IsFirst v found kind.Reply) (copy : Option Values) → IsReplyItem found → IsCopyOfItem found copy → IsNextReply v copy
copy_reply v found f copy r h = at f.x f.next f.kind (subst IsReplyItem f.is r) (subst (λ (o : Option Item). IsCopyOfItem o copy) f.is h)
  where
    at : (x : Item) → taken_next v.end ≡ Some (plain_item x) → kind_of_item (plain_item x) ≡ kind.Reply → IsReplyItem (Some x) → IsCopyOfItem (Some x) copy → IsNextReply v copy
    at item.Broken n k r h = absurd r
    at (item.Message m sync level) n k r h = record { m = plain_message m; is_next = record { sync = sync; level = level; next = n }; answers = plain_answering m.body r; copied = h ∙ sym (values_plain m.body r) }
