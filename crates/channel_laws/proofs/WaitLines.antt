-- Replies come to their waits, and waits fail in order.
use Rattle.std.proofs.Common.{◌≡◌, ℕ, ◌+◌, ℤ, Bool, true, false, ◌&&◌, cond, if◌then◌else◌, int_eq, List, [], ◌∷◌, ◌++◌, filter, map, Option, Some, None, refl, sym, ap, ◌∙◌}
use Rattle.std.specs.List.{AllByRecursion}
use Rattle.std.specs.Option.{option_map_or}
use Rattle.std.proofs.lemmas.Bool.Decides.{Decides-int_eq}
use Rattle.ipdl_base.specs.declared.line.What.{What}
use Rattle.ipdl_base.specs.declared.line.What.TheVariants as what
use Rattle.history_reading.specs.declared.parts.CallFrame.{CallFrame}
use Rattle.history_reading.specs.declared.parts.CallFrame.TheVariants as frame
use Rattle.history_reading.specs.EndReading.{EndReading, frame_seq}
use Rattle.ipdl_base.specs.declared.kinds.Reason.TheVariants as reason
use Rattle.ipdl_base.specs.declared.schema.Schema.{Schema}
use Rattle.ipdl_base.specs.declared.value.Values.{Values}
use Rattle.nesting_core.specs.declared.frame.Answer.TheVariants as answer
use Rattle.nesting_core.specs.declared.frame.StackFrame.{StackFrame}
use Rattle.nesting_core.specs.declared.frame.StackFrame.TheVariants.{Dispatch, Wait}
use Rattle.nesting_core.specs.Frames.{head_of}
use Rattle.pending_queue.specs.declared.item.Item.{Item}
use Rattle.pending_queue.specs.declared.item.Item.TheVariants as item
use Rattle.promise_table.specs.declared.promise.Outcome.{Outcome}
use Rattle.promise_table.specs.declared.promise.Outcome.TheVariants.{Resolved, Rejected}
use Rattle.channel_model.specs.Answers as answering
use Rattle.channel_model.specs.Ends.{End, Packet, StackEntry}
use Rattle.channel_model.specs.Numbers.{is_sync_row}
use Rattle.channel_model.specs.Outputs.{request_answered, resolver_answered}
use Rattle.channel_model.specs.Returns as return
use Rattle.channel_model.specs.Sends as send
use Rattle.channel_model.specs.Takes as take
use Rattle.channel_model.specs.ValueActors.{received}
use Rattle.channel_model.proofs.Known.{all-append}
use Rattle.channel_model.specs.Phases.{Phase}
use Rattle.channel_model.specs.Parts as parts
use Rattle.channel_model.specs.Parts.{FirstPart, LaterPart, LaterParts, OwnParts, DeliveryPart, IsRefusal, IsRenaming, reply_lines, fall_lines, farewell_line}
use Rattle.channel_laws.specs.Tested.{after_whats, EndLinesPass}
use Rattle.channel_laws.specs.Outlines.{outline, HasOutline, placeless, shown, shown_entry}
use Rattle.channel_laws.proofs.Outlines.{cons-head}
use Rattle.channel_laws.proofs.PartLines.{EffectsHave, reply-has, laters-have}
use Rattle.channel_laws.proofs.Testing.{tested-append, tested-free}
use Rattle.std.proofs.Common.{find, option_map, append_assoc}
use Rattle.nesting_core.specs.Answers as nesting
use Rattle.nesting_core.specs.Frames.{is_unanswered}
use Rattle.history_reading.specs.Waits.{is_reply_in_order, is_end_event}
use Rattle.history_reading.specs.declared.parts.EventKind.TheVariants as event
use Rattle.history_reading.specs.EndReading as end_reading
use Rattle.history_reading.specs.EndReading.{awaits, is_sync_request}
use Rattle.history_reading.specs.Reading.{after_what, answered}
use Rattle.channel_laws.proofs.Outlines.{RepliesFit, cons-tail, answered-yes, answered-no, int-same}
use Rattle.history_reading.specs.Waits.{waits_line}
use Rattle.ipdl_base.specs.declared.schema.MessageRow.{MessageRow}
use Rattle.channel_model.specs.Numbers.{request_row}
use Rattle.channel_model.specs.Events.{Event}
use Rattle.channel_model.specs.Outputs.{Output}
use Rattle.channel_model.specs.Ends.{message, mark}
use Rattle.channel_laws.proofs.Moves.{EndMove, StepParts, acts, delivers}

-- what is awaited is read alike

pub awaited-alike : (hs : List CallFrame) (es : List StackEntry) → map placeless hs ≡ map shown_entry es → end_reading.awaited hs ≡ nesting.awaited (map (λ (x : StackEntry). x.frame) es)
awaited-alike [] [] k = refl
awaited-alike [] (y ∷ es) k = cc
awaited-alike (x ∷ hs) [] k = cc
awaited-alike (x ∷ hs) (y ∷ es) k = by x y.frame (cons-head k) (awaited-alike hs es (cons-tail k))
  where
    by : (x : CallFrame) (f : StackFrame) → placeless x ≡ shown f y.route y.number → end_reading.awaited hs ≡ nesting.awaited (map (λ (x : StackEntry). x.frame) es) → end_reading.awaited (x ∷ hs) ≡ nesting.awaited (f ∷ map (λ (x : StackEntry). x.frame) es)
    by (frame.Dispatch d) (Dispatch head) e rec = rec
    by (frame.Unanswered c) (Dispatch head) e rec = cc
    by (frame.Answered c) (Dispatch head) e rec = cc
    by (frame.Dispatch d) (Wait head None) e rec = cc
    by (frame.Unanswered c) (Wait head None) e rec = ap (λ (n : ℤ). Some n) (ap frame_seq e)
    by (frame.Answered c) (Wait head None) e rec = cc
    by (frame.Dispatch d) (Wait head (Some a)) e rec = cc
    by (frame.Unanswered c) (Wait head (Some a)) e rec = cc
    by (frame.Answered c) (Wait head (Some a)) e rec = rec

awaits-found : (hs : List CallFrame) (n : ℤ) → end_reading.awaited hs ≡ Some n → awaits hs n ≡ true
awaits-found hs n e = ap (λ (o : Option ℤ). option_map_or (λ m. int_eq m n) o false) e ∙ (Decides-int_eq n n).1 refl

in-order : (h : EndReading) (n : ℤ) (b : Bool) → is_sync_request h n ≡ b → (b ≡ true → awaits h.stack n ≡ true) → is_reply_in_order h n ≡ true
in-order h n true is f = ap (λ (b : Bool). if b then awaits h.stack n else true) is ∙ f refl
in-order h n false is f = ap (λ (b : Bool). if b then awaits h.stack n else true) is

module _ (schema : Schema) (others : EndReading) where
  abbrev pub InOrder : EndReading → What → Type 0
  InOrder h w = waits_line schema h others w ≡ true

  abbrev Free : What → Type 0
  Free w = (h : EndReading) → InOrder h w

  free-effects : EffectsHave Free
  free-effects = record { built = λ id protocol h. refl; ok = λ n vs h. refl; fault = λ n r h. refl; falls = record { rejected = λ n r h. refl; fell = λ id why h. refl } }

  refusal-waits : (w : What) (h : EndReading) → IsRefusal schema w → InOrder h w
  refusal-waits (what.RefusedSend c n) h q = refl
  refusal-waits (what.RefusedClose c) h q = refl
  refusal-waits (what.RefusedResolve c) h q = refl
  refusal-waits (what.RefusedReject c) h q = refl
  refusal-waits _ h q = absurd q

  renaming-waits : (w : What) (h : EndReading) → IsRenaming w → InOrder h w
  renaming-waits (what.Keep n name) h q = refl
  renaming-waits (what.Let name id) h q = refl
  renaming-waits _ h q = absurd q

  send-waits : (sync : Bool) (seq transaction route : ℤ) (number : ℕ) (vs : Values) (h : EndReading) → InOrder h (if sync then what.Call seq transaction route number vs else what.Send seq route number vs)
  send-waits true seq transaction route number vs h = refl
  send-waits false seq transaction route number vs h = refl

  answering-waits : (seq : ℤ) (vs : Option Values) (h : EndReading) → InOrder h (answering.answering_line seq vs)
  answering-waits seq None h = refl
  answering-waits seq (Some vs) h = refl

  settle-waits : (seq : ℤ) (o : Outcome) (h : EndReading) → InOrder h (take.settle_line seq o)
  settle-waits seq (Resolved vs) h = refl
  settle-waits seq (Rejected r) h = refl

  shut-waits : (last : Item) (h : EndReading) → InOrder h (parts.shut_line last)
  shut-waits (item.Message m sync level) h = refl
  shut-waits item.Broken h = refl

  farewell-waits : (packet : Packet) (h : EndReading) → InOrder h (farewell_line packet)
  farewell-waits (message m) h = refl
  farewell-waits mark h = refl

  farewell-stack : (place : ℕ) (packet : Packet) (h : EndReading) → (after_what schema place (farewell_line packet) h).stack ≡ h.stack
  farewell-stack place (message m) h = refl
  farewell-stack place mark h = refl

  farewell-ends : (place : ℕ) (packet : Packet) (h : EndReading) → (after_what schema place (farewell_line packet) h).event ≡ event.Ends
  farewell-ends place (message m) h = refl
  farewell-ends place mark h = refl

  -- waits fail innermost first: the waits above have their answers
  abbrev seqs_of : List StackEntry → List ℤ
  seqs_of es = map (λ (f : StackFrame). (head_of f).seq) (filter is_unanswered (map (λ (x : StackEntry). x.frame) es))

  awaited-front : (front hs : List CallFrame) → AllByRecursion (λ x. end_reading.is_unanswered x ≡ false) front → end_reading.awaited (front ++ hs) ≡ end_reading.awaited hs
  awaited-front [] hs a = refl
  awaited-front (x ∷ front) hs a = ap (λ (b : Bool). option_map frame_seq (cond b (Some x) (find end_reading.is_unanswered (front ++ hs)))) a.0 ∙ awaited-front front hs a.1

  wait-no : (n : ℤ) (x : CallFrame) → end_reading.is_unanswered x ≡ false → end_reading.is_wait_for n x ≡ false
  wait-no n (frame.Dispatch d) e = refl
  wait-no n (frame.Unanswered c) e = cc
  wait-no n (frame.Answered c) e = refl

  answered-front : (n : ℤ) (front : List CallFrame) (c : _) (hs : List CallFrame) → AllByRecursion (λ x. end_reading.is_unanswered x ≡ false) front → int_eq (frame_seq (frame.Unanswered c)) n ≡ true → answered n (front ++ frame.Unanswered c ∷ hs) ≡ front ++ frame.Answered c ∷ hs
  answered-front n [] c hs a e = answered-yes n (frame.Unanswered c) hs e
  answered-front n (x ∷ front) c hs a e = answered-no n x (front ++ frame.Unanswered c ∷ hs) (wait-no n x a.0) ∙ ap (λ (l : List CallFrame). x ∷ l) (answered-front n front c hs a.1 e)

  last-front : (front : List CallFrame) (x : CallFrame) → end_reading.is_unanswered x ≡ false → AllByRecursion (λ x. end_reading.is_unanswered x ≡ false) front → AllByRecursion (λ x. end_reading.is_unanswered x ≡ false) (front ++ x ∷ [])
  last-front front x e a = all-append (λ x. end_reading.is_unanswered x ≡ false) front (x ∷ []) a (e, tt)

  in-front : (front : List CallFrame) (x : CallFrame) (hs : List CallFrame) → front ++ x ∷ hs ≡ (front ++ x ∷ []) ++ hs
  in-front front x hs = sym (append_assoc front (x ∷ []) hs)

  fails-from : (place : ℕ) (h : EndReading) (front hs : List CallFrame) (es : List StackEntry) → map placeless hs ≡ map shown_entry es → h.stack ≡ front ++ hs → AllByRecursion (λ x. end_reading.is_unanswered x ≡ false) front → h.event ≡ event.Ends → EndLinesPass schema InOrder place (map what.Fails (seqs_of es)) h
  fails-from place h front [] [] k stack a ends = tt
  fails-from place h front [] (y ∷ es) k stack a ends = cc
  fails-from place h front (x ∷ hs) [] k stack a ends = cc
  fails-from place h front (x ∷ hs) (y ∷ es) k stack a ends = by x y.frame (cons-head k) stack (λ at next front2 s2 a2 e2. fails-from at next front2 hs es (cons-tail k) s2 a2 e2)
    where
      rest : List ℤ
      rest = seqs_of es

      by : (x : CallFrame) (f : StackFrame) → placeless x ≡ shown f y.route y.number → h.stack ≡ front ++ x ∷ hs
          → ((at : ℕ) (next : EndReading) (front2 : List CallFrame) → next.stack ≡ front2 ++ hs → AllByRecursion (λ x. end_reading.is_unanswered x ≡ false) front2 → next.event ≡ event.Ends → EndLinesPass schema InOrder at (map what.Fails (seqs_of es)) next)
          → EndLinesPass schema InOrder place (map what.Fails (seqs_of (record y { frame = f } ∷ es))) h
      by (frame.Dispatch d) (Dispatch head) e s rec = rec place h (front ++ frame.Dispatch d ∷ []) (s ∙ in-front front (frame.Dispatch d) hs) (last-front front (frame.Dispatch d) refl a) ends
      by (frame.Unanswered c) (Dispatch head) e s rec = cc
      by (frame.Answered c) (Dispatch head) e s rec = cc
      by (frame.Dispatch d) (Wait head None) e s rec = cc
      by (frame.Unanswered c) (Wait head None) e s rec =
          let seq : c.seq ≡ head.seq = ap frame_seq e in
          let is : end_reading.awaited h.stack ≡ Some head.seq = ap end_reading.awaited s ∙ (awaited-front front (frame.Unanswered c ∷ hs) a ∙ ap (λ (n : ℤ). Some n) seq) in (
            ap (λ (b : Bool). b && is_end_event h.event) (awaits-found h.stack head.seq is) ∙ ap is_end_event ends,
            rec (place + 1) (after_what schema place (what.Fails head.seq) h) (front ++ frame.Answered c ∷ []) (ap (answered head.seq) s ∙ (answered-front head.seq front c hs a (int-same c.seq head.seq seq) ∙ in-front front (frame.Answered c) hs)) (last-front front (frame.Answered c) refl a) ends,
          )
      by (frame.Answered c) (Wait head None) e s rec = cc
      by (frame.Dispatch d) (Wait head (Some b)) e s rec = cc
      by (frame.Unanswered c) (Wait head (Some b)) e s rec = cc
      by (frame.Answered c) (Wait head (Some b)) e s rec = rec place h (front ++ frame.Answered c ∷ []) (s ∙ in-front front (frame.Answered c) hs) (last-front front (frame.Answered c) refl a) ends

  fails-order : (place : ℕ) (next : EndReading) (hs : List CallFrame) (es : List StackEntry) → map placeless hs ≡ map shown_entry es → next.stack ≡ hs → next.event ≡ event.Ends → EndLinesPass schema InOrder place (map what.Fails (seqs_of es)) next
  fails-order place next hs es k stack ends = fails-from place next [] hs es k stack tt ends

  -- Lines of the parts of steps

  -- The line of a call that continues passes: its answer was given.
  abbrev pub ResumesPass : End → EndReading → Type 0
  ResumesPass e h = (wait : return.AnsweredWait) (row : MessageRow) → return.answered_wait_on_top e.stack ≡ Some wait → request_row schema wait.number ≡ Some row → InOrder h (return.resume_line wait.seq (received schema e.actors row wait.given))

  first-waits : {q : Phase} {e f : End} {ws : List What} {ps : List Packet} (place : ℕ) (h : EndReading) → FirstPart schema e ws ps f q → ResumesPass e h → EndLinesPass schema InOrder place ws h
  first-waits place h (parts.refuses w q) fit = (refusal-waits w h q, tt)
  first-waits place h (parts.renames w q) fit = (renaming-waits w h q, tt)
  first-waits place h (parts.flushes o) fit = (refl, tt)
  first-waits {e} place h (parts.sends row route vs name sent) fit = (send-waits (is_sync_row row) (send.request_of e row route vs).seq (send.request_of e row route vs).transaction route row.number vs h, tt)
  first-waits place h (parts.answers by vs r row found may ok used) fit = (answering-waits r.seq vs h, tt)
  first-waits place h (parts.closes o waits) fit = (refl, tt)
  first-waits place h (parts.dies o) fit = (refl, tt)
  first-waits place h (parts.dies_silent o alive) fit = (refl, tt)
  first-waits {e} place h (parts.takes m sync level row vs next body found stays) fit = (refl, tt)
  first-waits {e} place h (parts.drops m sync level row vs id replies next body found gone is) fit = (refl, tested-free schema InOrder (place + 1) (reply_lines replies (request_answered m) (answer.Fault reason.ActorDestroyed)) _ (reply-has Free free-effects replies (request_answered m) (answer.Fault reason.ActorDestroyed)))
  first-waits place h (parts.drops_unknown m sync level vs next body none) fit = (refl, tt)
  first-waits place h (parts.takes_reply m sync level a next body late) fit = (refl, tt)
  first-waits {e} place h (parts.settles m sync level row a next body found is) fit = (refl, (settle-waits m.seq (parts.reply_outcome schema e row a) (after_what schema place (what.TakeReply m.seq) h), tt))
  first-waits place h (parts.shuts last next is) fit = (shut-waits last h, tt)
  first-waits {e} place h (parts.returns entry row vs told lost on_top t l) fit = (
    refl,
    tested-free schema InOrder (place + 1) (reply_lines told (return.dispatch_answered entry) (return.return_answer schema e row entry vs) ++ reply_lines lost (resolver_answered (answering.resolver_in entry)) (answer.Fault reason.ResolverDestroyed)) _
        (all-append Free (reply_lines told (return.dispatch_answered entry) (return.return_answer schema e row entry vs)) (reply_lines lost (resolver_answered (answering.resolver_in entry)) (answer.Fault reason.ResolverDestroyed))
        (reply-has Free free-effects told (return.dispatch_answered entry) (return.return_answer schema e row entry vs)) (reply-has Free free-effects lost (resolver_answered (answering.resolver_in entry)) (answer.Fault reason.ResolverDestroyed))),
  )
  first-waits {e} place h (parts.resumes wait row on_top found) fit = (fit wait row on_top found, tt)

  delivery-waits : {packet : Packet} {q : Phase} {e f : End} {ws : List What} {ps : List Packet} (place : ℕ) (h : EndReading) → DeliveryPart schema packet e ws ps f q → RepliesFit schema packet e h → HasOutline e (outline h) → EndLinesPass schema InOrder place ws h
  delivery-waits place h (parts.gets_request m row vs body found none) fit s = (refl, tt)
  delivery-waits place h (parts.replaces m row vs old sync level replies body found rep is) fit s =
      (refl, (refl, tested-free schema InOrder (place + 1 + 1) (reply_lines replies (request_answered old) (answer.Fault reason.ResolverDestroyed)) _ (reply-has Free free-effects replies (request_answered old) (answer.Fault reason.ResolverDestroyed))))
  delivery-waits {e} place h (parts.gets_answer m row a body found is) fit s = (in-order h m.seq true (fit.sync m row a refl body found ∙ is) (λ b. awaits-found h.stack m.seq (awaited-alike h.stack e.stack s.stack ∙ fit.awaits m row a refl body found is)), tt)
  delivery-waits {e} place h (parts.gets_reply m row a body found is) fit s = (in-order h m.seq false (fit.sync m row a refl body found ∙ is) (λ b. cc), tt)
  delivery-waits {packet} {e} place h (parts.drains _ is) fit s = (farewell-waits packet h, fails-order (place + 1) (after_what schema place (farewell_line packet) h) h.stack e.stack s.stack (farewell-stack place packet h) (farewell-ends place packet h))
  delivery-waits place h (parts.passes_by m ordinary none) fit s = absurd (fit.known m refl ordinary none)

pub move-waits : (schema : Schema) (place : ℕ) (mine theirs : End) (own others : EndReading) (to_me to_them : List Packet) (ev : Event) (output : Output) (m : EndMove schema place mine theirs own others to_me to_them ev output) → ResumesPass schema others mine own → EndLinesPass schema (InOrder schema others) place m.whats own
move-waits schema place mine theirs own others to_me to_them ev output m fit = by m.parts
  where
    by : {ev : Event} {ws : List What} {ps : List Packet} {f : End} {q : Phase} → StepParts schema mine to_me ev ws ps f q → EndLinesPass schema (InOrder schema others) place ws own
    by (acts same (parts.begun {ws} {vs} part rest ended)) = tested-append schema (InOrder schema others) place ws vs own (first-waits schema others place own part fit) (λ at. tested-free schema (InOrder schema others) at vs (after_whats schema place ws own) (laters-have (Free schema others) (free-effects schema others) rest))
    by (delivers packet first o part) = delivery-waits schema others place own part (m.arrives packet first o).fits m.before.outlined
