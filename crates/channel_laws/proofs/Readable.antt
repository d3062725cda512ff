-- The lines of each part can be read.
use Rattle.std.proofs.Common.{◌≡◌, ◌==◌, ℕ, ◌+◌, ℤ, Bool, true, false, ◌&&◌, if◌then◌else◌, List, [], ◌∷◌, ◌++◌, map, Option, Some, None, refl, sym, ap, ◌∙◌}
use Rattle.std.specs.List.{AllByRecursion}
use Rattle.std.specs.Option.{option_map_or}
use Rattle.std.proofs.lemmas.Bool.{eq-eqb}
use Rattle.std.proofs.lemmas.Bool.Decides.{Decides-int_eq}
use Rattle.std.proofs.lemmas.Option.{same_Some}
use Rattle.ipdl_base.specs.declared.line.What.{What}
use Rattle.ipdl_base.specs.declared.line.What.TheVariants as what
use Rattle.history_reading.specs.Holds.{is_readable_what, is_dispatch_on_top, is_answer_on_top}
use Rattle.history_reading.specs.declared.parts.CallFrame.{CallFrame}
use Rattle.history_reading.specs.declared.parts.CallFrame.TheVariants as frame
use Rattle.history_reading.specs.EndReading.{EndReading, frame_seq}
use Rattle.history_reading.specs.Rows.{is_request_number}
use Rattle.ipdl_base.specs.declared.kinds.Reason.TheVariants as reason
use Rattle.ipdl_base.specs.declared.message.Message.{Message}
use Rattle.ipdl_base.specs.declared.schema.MessageRow.{MessageRow}
use Rattle.ipdl_base.specs.declared.schema.Schema.{Schema}
use Rattle.ipdl_base.specs.declared.value.Values.{Values}
use Rattle.nesting_core.specs.declared.frame.Answer.{Answer}
use Rattle.nesting_core.specs.declared.frame.Answer.TheVariants as answer
use Rattle.nesting_core.specs.declared.frame.StackFrame.{StackFrame}
use Rattle.nesting_core.specs.declared.frame.StackFrame.TheVariants.{Dispatch, Wait}
use Rattle.nesting_core.specs.Frames.{head_of}
use Rattle.pending_queue.specs.declared.item.Item.{Item}
use Rattle.pending_queue.specs.declared.item.Item.TheVariants as item
use Rattle.promise_table.specs.declared.promise.Outcome.{Outcome}
use Rattle.promise_table.specs.declared.promise.Outcome.TheVariants.{Resolved, Rejected}
use Rattle.channel_model.specs.Answers as answering
use Rattle.channel_model.specs.Deliveries as delivery
use Rattle.channel_model.specs.Ends.{End, Packet, StackEntry}
use Rattle.channel_model.specs.Numbers.{is_sync_row}
use Rattle.channel_model.specs.Outputs.{request_answered, resolver_answered}
use Rattle.channel_model.specs.Returns as return
use Rattle.channel_model.specs.Sends as send
use Rattle.channel_model.specs.Takes as take
use Rattle.channel_model.specs.ValueActors.{received}
use Rattle.channel_model.proofs.Known.{all-append}
use Rattle.channel_model.specs.Phases.{Phase}
use Rattle.channel_model.specs.Parts as parts
use Rattle.channel_model.specs.Parts.{FirstPart, LaterPart, LaterParts, OwnParts, DeliveryPart, IsRefusal, IsRenaming, reply_lines, fall_lines, farewell_line}
use Rattle.channel_laws.specs.Tested.{after_whats}
use Rattle.channel_laws.specs.Outlines.{outline, HasOutline, placeless, shown, shown_entry}
use Rattle.channel_laws.specs.Notes.{Note, told_notes}
use Rattle.channel_laws.specs.Origins.{Origin, HasOrigins}
use Rattle.channel_laws.specs.Tested.{EndLinesPass}
use Rattle.channel_laws.proofs.Rows.{request-message, sound_schemas_have_sound_rows}
use Rattle.channel_laws.specs.Rows.{HasSoundRows, IsSoundRow}
use Rattle.channel_laws.proofs.Outlines.{cons-head}
use Rattle.channel_laws.proofs.Origins.{taken-origin, request-origin, body-asks}
use Rattle.channel_laws.proofs.PartLines.{EffectsHave, reply-has, laters-have, mapped-lines}
use Rattle.channel_laws.proofs.Testing.{tested-free}
use Rattle.ipdl_base.specs.declared.kinds.Level.{Level}
use Rattle.ipdl_base.specs.declared.line.Line.{Line}
use Rattle.ipdl_base.specs.declared.message.Body.{Body}
use Rattle.ipdl_base.specs.declared.message.Body.TheVariants.{Request, Reply, Fault, Goodbye}
use Rattle.ipdl_base.specs.Sound.{IsSound, message_of}
use Rattle.history_reading.specs.Holds.{is_readable}
use Rattle.history_reading.specs.Reading.{Reading, after, after_what, end_reading_of, other_of, opening_reading, read}
use Rattle.channel_model.specs.Ends.{World, message, mark, end_of, opening}
use Rattle.channel_model.specs.Events.{Event, Move}
use Rattle.ipdl_base.specs.Sides.{other}
use Rattle.channel_model.specs.Runs.{run, history_of}
use Rattle.channel_model.proofs.Follow.{effects_follow_events}
use Rattle.channel_laws.specs.ReadingLaws.{HistoriesAreReadable}
use Rattle.channel_laws.specs.TwoEnds.{ReadingIs}
use Rattle.channel_laws.specs.Tested.{LinesPass, test_at}
use Rattle.channel_laws.proofs.Moves.{StepParts, acts, delivers}
use Rattle.channel_laws.proofs.Runs.{RunKeeps, every-run, ends-pass}
use Rattle.channel_laws.proofs.Testing.{tested-append, pass-both, event_test, pass-events, each-passes}

request-number : (schema : Schema) (n : ℕ) (row : MessageRow) → message_of schema n ≡ Some row → IsSoundRow schema n row → is_request_number schema n ≡ true
request-number schema n row found fit = ap (λ (r : Option MessageRow). option_map_or (λ (x : MessageRow). x.number == n) r false) found ∙ eq-eqb row.number n fit.number

-- what is on top

dispatch-top : (hs : List CallFrame) (es : List StackEntry) (entry : StackEntry) → map placeless hs ≡ map shown_entry es → return.dispatch_on_top es ≡ Some entry → is_dispatch_on_top hs (head_of entry.frame).seq ≡ true
dispatch-top hs [] entry k e = cc
dispatch-top [] (y ∷ es) entry k e = cc
dispatch-top (x ∷ hs) (y ∷ es) entry k e = by x y.frame refl (cons-head k) e
  where
    by : (x : CallFrame) (f : StackFrame) → y.frame ≡ f → placeless x ≡ shown f y.route y.number → elim f as (λ z. Option StackEntry) [ Dispatch head ↦ Some y | Wait head a ↦ None ] ≡ Some entry → is_dispatch_on_top (x ∷ hs) (head_of entry.frame).seq ≡ true
    by (frame.Dispatch d) (Dispatch head) is k e =
        let same : y ≡ entry = same_Some y entry e in
        let seq : d.seq ≡ (head_of entry.frame).seq = ap frame_seq k ∙ (ap (λ (g : StackFrame). (head_of g).seq) (sym is) ∙ ap (λ (z : StackEntry). (head_of z.frame).seq) same) in
        (Decides-int_eq d.seq (head_of entry.frame).seq).1 seq
    by (frame.Unanswered c) (Dispatch head) is k e = cc
    by (frame.Answered c) (Dispatch head) is k e = cc
    by (frame.Dispatch d) (Wait head a) is k e = cc
    by (frame.Unanswered c) (Wait head a) is k e = cc
    by (frame.Answered c) (Wait head a) is k e = cc

answer-top : (hs : List CallFrame) (es : List StackEntry) (wait : return.AnsweredWait) → map placeless hs ≡ map shown_entry es → return.answered_wait_on_top es ≡ Some wait → is_answer_on_top hs wait.seq ≡ true
answer-top hs [] wait k e = cc
answer-top [] (y ∷ es) wait k e = cc
answer-top (x ∷ hs) (y ∷ es) wait k e = by x y.frame (cons-head k) e
  where
    by : (x : CallFrame) (f : StackFrame) → placeless x ≡ shown f y.route y.number → return.answered_wait_of y.number f ≡ Some wait → is_answer_on_top (x ∷ hs) wait.seq ≡ true
    by x (Dispatch head) k e = cc
    by x (Wait head None) k e = cc
    by (frame.Answered c) (Wait head (Some a)) k e =
        let seq : c.seq ≡ wait.seq = ap frame_seq k ∙ ap (λ (w : return.AnsweredWait). w.seq) (same_Some (record { seq = head.seq; number = y.number; given = a }) wait e) in
        (Decides-int_eq c.seq wait.seq).1 seq
    by (frame.Dispatch d) (Wait head (Some a)) k e = cc
    by (frame.Unanswered c) (Wait head (Some a)) k e = cc

module _ (schema : Schema) where
  abbrev pub CanRead : EndReading → What → Type 0
  CanRead h w = is_readable_what schema h.stack w ≡ true

  abbrev Free : What → Type 0
  Free w = (h : EndReading) → CanRead h w

  free-effects : EffectsHave Free
  free-effects = record { built = λ id protocol h. refl; ok = λ n vs h. refl; fault = λ n r h. refl; falls = record { rejected = λ n r h. refl; fell = λ id why h. refl } }

  renaming-reads : (w : What) (h : EndReading) → IsRenaming w → CanRead h w
  renaming-reads (what.Keep n name) h q = refl
  renaming-reads (what.Let name id) h q = refl
  renaming-reads _ h q = absurd q

  send-reads : (sync : Bool) (seq transaction route : ℤ) (number : ℕ) (vs : Values) (h : EndReading) → is_request_number schema number ≡ true → CanRead h (if sync then what.Call seq transaction route number vs else what.Send seq route number vs)
  send-reads true seq transaction route number vs h is = is
  send-reads false seq transaction route number vs h is = is

  answering-reads : (seq : ℤ) (vs : Option Values) (h : EndReading) → CanRead h (answering.answering_line seq vs)
  answering-reads seq None h = refl
  answering-reads seq (Some vs) h = refl

  settle-reads : (seq : ℤ) (o : Outcome) (h : EndReading) → CanRead h (take.settle_line seq o)
  settle-reads seq (Resolved vs) h = refl
  settle-reads seq (Rejected r) h = refl

  resume-reads : (seq : ℤ) (a : Answer) (h : EndReading) → is_answer_on_top h.stack seq ≡ true → CanRead h (return.resume_line seq a)
  resume-reads seq (answer.Ok vs) h is = is
  resume-reads seq (answer.Fault r) h is = is

  shut-reads : (last : Item) (h : EndReading) → CanRead h (parts.shut_line last)
  shut-reads (item.Message m sync level) h = refl
  shut-reads item.Broken h = refl

  farewell-reads : (packet : Packet) (h : EndReading) → CanRead h (farewell_line packet)
  farewell-reads (message m) h = refl
  farewell-reads mark h = refl

  unknown-reads : (seq : ℤ) (b : Body) (h : EndReading) → CanRead h (parts.unknown_line seq b)
  unknown-reads seq (Request vs) h = refl
  unknown-reads seq (Reply vs) h = refl
  unknown-reads seq (Fault r) h = refl
  unknown-reads seq Goodbye h = refl

  -- Parts of a delivery can be read wherever they are

  free-delivery : {packet : Packet} {q : Phase} {e f : End} {ws : List What} {ps : List Packet} → DeliveryPart schema packet e ws ps f q → AllByRecursion Free ws
  free-delivery (parts.gets_request m row vs body found none) = ((λ h. refl), tt)
  free-delivery (parts.replaces m row vs old sync level replies body found rep is) = ((λ h. refl), ((λ h. refl), reply-has Free free-effects replies (request_answered old) (answer.Fault reason.ResolverDestroyed)))
  free-delivery (parts.gets_answer m row a body found is) = ((λ h. refl), tt)
  free-delivery (parts.gets_reply m row a body found is) = ((λ h. refl), tt)
  free-delivery {e} (parts.drains packet is) = ((λ h. farewell-reads packet h), mapped-lines Free what.Fails (delivery.unanswered e) (λ n h. refl))
  free-delivery (parts.passes_by m ordinary none) = ((λ h. unknown-reads m.seq m.body h), tt)

  -- The part that a step begins with

  module _ (rows : HasSoundRows schema) (theirs : List Note) where
    refusal-reads : (w : What) (h : EndReading) → IsRefusal schema w → CanRead h w
    refusal-reads (what.RefusedSend c n) h q = request-number schema n q.0 (request-message schema n q.0 q.1) (rows n q.0 q.1)
    refusal-reads (what.RefusedClose c) h q = refl
    refusal-reads (what.RefusedResolve c) h q = refl
    refusal-reads (what.RefusedReject c) h q = refl
    refusal-reads _ h q = absurd q

    taken-number : (e : End) (m : Message) (sync : Bool) (level : Level) (vs : Values) → HasOrigins schema theirs e → take.taken_next e ≡ Some (item.Message m sync level) → m.body ≡ Request vs → is_request_number schema m.number ≡ true
    taken-number e m sync level vs k next body =
        let o : Origin schema theirs m.seq m.route m.number = request-origin schema theirs m m.body (body-asks schema theirs m vs body) (taken-origin schema theirs e (item.Message m sync level) k next) in
        request-number schema m.number o.row (request-message schema m.number o.row o.found) (rows m.number o.row o.found)

    first-reads : {q : Phase} {e f : End} {ws : List What} {ps : List Packet} (place : ℕ) (h : EndReading) → FirstPart schema e ws ps f q → HasOutline e (outline h) → HasOrigins schema theirs e → EndLinesPass schema CanRead place ws h
    first-reads place h (parts.refuses w q) s k = (refusal-reads w h q, tt)
    first-reads place h (parts.renames w q) s k = (renaming-reads w h q, tt)
    first-reads place h (parts.flushes o) s k = (refl, tt)
    first-reads {e} place h (parts.sends row route vs name sent) s k = (send-reads (is_sync_row row) (send.request_of e row route vs).seq (send.request_of e row route vs).transaction route row.number vs h (request-number schema row.number row (request-message schema row.number row sent.found) (rows row.number row sent.found)), tt)
    first-reads place h (parts.answers by vs r row found may ok used) s k = (answering-reads r.seq vs h, tt)
    first-reads place h (parts.closes o waits) s k = (refl, tt)
    first-reads place h (parts.dies o) s k = (refl, tt)
    first-reads place h (parts.dies_silent o alive) s k = (refl, tt)
    first-reads {e} place h (parts.takes m sync level row vs next body found stays) s k = (taken-number e m sync level vs k next body, tt)
    first-reads {e} place h (parts.drops m sync level row vs id replies next body found gone is) s k = (taken-number e m sync level vs k next body, tested-free schema CanRead (place + 1) (reply_lines replies (request_answered m) (answer.Fault reason.ActorDestroyed)) _ (reply-has Free free-effects replies (request_answered m) (answer.Fault reason.ActorDestroyed)))
    first-reads {e} place h (parts.drops_unknown m sync level vs next body none) s k = (taken-number e m sync level vs k next body, tt)
    first-reads place h (parts.takes_reply m sync level a next body late) s k = (refl, tt)
    first-reads {e} place h (parts.settles m sync level row a next body found is) s k = (refl, (settle-reads m.seq (parts.reply_outcome schema e row a) (after_what schema place (what.TakeReply m.seq) h), tt))
    first-reads place h (parts.shuts last next is) s k = (shut-reads last h, tt)
    first-reads {e} place h (parts.returns entry row vs told lost on_top t l) s k = (
      dispatch-top h.stack e.stack entry s.stack on_top.on_top,
      tested-free schema CanRead (place + 1) (reply_lines told (return.dispatch_answered entry) (return.return_answer schema e row entry vs) ++ reply_lines lost (resolver_answered (answering.resolver_in entry)) (answer.Fault reason.ResolverDestroyed)) _
          (all-append Free (reply_lines told (return.dispatch_answered entry) (return.return_answer schema e row entry vs)) (reply_lines lost (resolver_answered (answering.resolver_in entry)) (answer.Fault reason.ResolverDestroyed))
          (reply-has Free free-effects told (return.dispatch_answered entry) (return.return_answer schema e row entry vs)) (reply-has Free free-effects lost (resolver_answered (answering.resolver_in entry)) (answer.Fault reason.ResolverDestroyed))),
    )
    first-reads {e} place h (parts.resumes wait row on_top found) s k = (resume-reads wait.seq (received schema e.actors row wait.given) h (answer-top h.stack e.stack wait s.stack on_top), tt)

    pub move-reads : {mine : End} {link : List Packet} {ev : Event} {f : End} {ws : List What} {ps : List Packet} {q : Phase} (place : ℕ) (h : EndReading) → StepParts schema mine link ev ws ps f q → HasOutline mine (outline h) → HasOrigins schema theirs mine → EndLinesPass schema CanRead place ws h
    move-reads place h (acts same (parts.begun {ws} {vs} part rest ended)) s k = tested-append schema CanRead place ws vs h (first-reads place h part s k) (λ at. tested-free schema CanRead at vs (after_whats schema place ws h) (laters-have Free free-effects rest))
    move-reads {ws} place h (delivers packet first o part) s k = tested-free schema CanRead place ws h (free-delivery part)

-- Every legal history can be read

abbrev ReadsLines : Schema → Reading → List Line → List Line → Type 0
ReadsLines schema r lines following = LinesPass schema (λ r l b. event_test r l b && test_at (λ own other said. is_readable_what schema own.stack said) r l b) r lines following

unfold-readable : (schema : Schema) (r : Reading) (lines following : List Line) → ReadsLines schema r lines following → LinesPass schema (λ r l b. is_readable schema r l) r lines following
unfolding is_readable
unfold-readable schema r [] following p = tt
unfold-readable schema r (l ∷ ls) following p = (p.0, unfold-readable schema (after schema r l) ls following p.1)

-- nothing is kept besides the reading
abbrev NothingMore : World → Reading → Type 0
NothingMore w r = Unit {0}

pub run-reads : (schema : Schema) → IsSound schema → (top : ℕ) (moves : List Move) → RunKeeps schema NothingMore (test_at (λ own other said. is_readable_what schema own.stack said)) (run schema moves (opening top)).world opening_reading (history_of schema top moves)
run-reads schema sound top moves =
    every-run schema sound NothingMore (test_at (λ own other said. is_readable_what schema own.stack said))
    (λ move w r output m k. record {
      kept = tt;
      passes = λ following. ends-pass schema (λ own other said. is_readable_what schema own.stack said) move.side move.event w r output following m.nested m.ends
          (move-reads schema (sound_schemas_have_sound_rows schema sound) (told_notes (end_of (other move.side) w).side (other_of move.side r).sent) r.lines (end_reading_of move.side r) m.ends.parts m.ends.before.outlined m.ends.before.origins);
    }) top moves tt

pub lines-read : (schema : Schema) → IsSound schema → (top : ℕ) (moves : List Move) → LinesPass schema (λ r l b. is_readable schema r l) opening_reading (history_of schema top moves) []
lines-read schema sound top moves =
    let lines : List Line = history_of schema top moves in
    unfold-readable schema opening_reading lines []
    (pass-both schema event_test (test_at (λ own other said. is_readable_what schema own.stack said)) opening_reading lines [] (pass-events schema opening_reading lines [] (effects_follow_events schema top moves)) ((run-reads schema sound top moves).passes []))

pub reading-is : (schema : Schema) → IsSound schema → (top : ℕ) (moves : List Move) → ReadingIs schema (run schema moves (opening top)).world (read schema (history_of schema top moves))
reading-is schema sound top moves = (run-reads schema sound top moves).reads

pub histories_are_readable : HistoriesAreReadable
histories_are_readable schema sound top moves = each-passes schema (λ r l b. is_readable schema r l) [] (history_of schema top moves) (lines-read schema sound top moves)
