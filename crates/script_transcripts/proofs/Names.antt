-- The names in the histories of a valid script are words.
use Rattle.std.proofs.Common.{◌≡◌, ℕ, ◌+◌, ℤ, pos, Bool, true, false, if◌then◌else◌, List, [], ◌∷◌, ◌++◌, map, Option, Some, None, is_some, option_and_then, inl, inr, refl, sym, ap, subst, ◌∙◌, append_assoc, arith}
use Rattle.std.specs.Prelude.{option_map}
use Rattle.std.specs.List.{AllByRecursion}
use Rattle.std.specs.Option.{option_map_or}
use Rattle.std.proofs.lemmas.List.{append-nil}
use Rattle.handler_script.specs.declared.action.Action.{Action}
use Rattle.handler_script.specs.declared.action.Action.TheVariants as action
use Rattle.handler_script.specs.declared.script.Point.TheVariants as point
use Rattle.handler_script.specs.Blocks.{BlockContext, in_main, in_handler}
use Rattle.handler_script.specs.ScriptOf.{action_at}
use Rattle.handler_script.specs.Valid.{IsValid, IsValidAction}
use Rattle.handler_script.specs.ValueOf.{TermContext, no_id}
use Rattle.ipdl_base.specs.declared.kinds.SendRefusal.{SendRefusal}
use Rattle.ipdl_base.specs.declared.kinds.SendRefusal.TheVariants as refusal
use Rattle.ipdl_base.specs.declared.kinds.Destroy.TheVariants as destroy
use Rattle.ipdl_base.specs.declared.kinds.Side.{Side}
use Rattle.ipdl_base.specs.declared.line.Line.{Line}
use Rattle.ipdl_base.specs.declared.line.What.{What}
use Rattle.ipdl_base.specs.declared.line.What.TheVariants as what
use Rattle.ipdl_base.specs.declared.message.Message.{Message}
use Rattle.ipdl_base.specs.declared.schema.MessageRow.{MessageRow}
use Rattle.ipdl_base.specs.declared.schema.Schema.{Schema}
use Rattle.ipdl_base.specs.declared.value.Values.{Values}
use Rattle.ipdl_base.specs.declared.value.Values.TheVariants as values
use Rattle.ipdl_base.specs.Lines.{is_effect}
use Rattle.ipdl_base.specs.Words.{IsWord}
use Rattle.nesting_core.specs.declared.frame.StackTop.{StackTop}
use Rattle.nesting_core.specs.declared.frame.StackTop.TheVariants as top
use Rattle.nesting_core.specs.Top.{top_of}
use Rattle.promise_table.specs.Promises as promises
use Rattle.channel_model.specs.Acts as acts
use Rattle.channel_model.specs.Answers as answering
use Rattle.channel_model.specs.Ends.{End, Packet, message, NameContent, actor, resolver, Resolver, end_of, link_to}
use Rattle.channel_model.specs.Events.{Answering, handled, kept, Event}
use Rattle.channel_model.specs.Events as event
use Rattle.channel_model.specs.Falls as falls
use Rattle.channel_model.specs.Names.{held_by_name, holding, let_go, renamed, without_name}
use Rattle.channel_model.specs.Numbers.{counting, is_sync_row, makes_promise, request_row}
use Rattle.channel_model.specs.Outputs.{Output, Change, beginning, ◌▷◌, when, on_end, line, line_at, put, is_open, is_dead_end, destroyed}
use Rattle.channel_model.specs.Returns.{may_flush}
use Rattle.channel_model.specs.Runs.{RunState}
use Rattle.channel_model.specs.Sends as send
use Rattle.channel_model.specs.Steps.{step, provided}
use Rattle.channel_model.specs.Takes.{taken_next}
use Rattle.channel_model.specs.ValueActors.{nulled}
use Rattle.channel_model.proofs.Known.{all-append}
use Rattle.channel_model.proofs.Provided.{provided-gives, found-gives}
use Rattle.schedules.specs.declared.stop.Stop.{Stop}
use Rattle.script_runs.proofs.Leaves.{Leaves, following_line, leaves-put, leaves-destroyed, leaves-closed, leaves-constructs, leaves-deletes}
use Rattle.script_runs.proofs.Progressing.{first-is}
use Rattle.script_runs.proofs.Shows.{Passes, Shows, ShowsPassing, built_lines, step-shows}
use Rattle.script_runs.proofs.ValidBlocks.{handler-action, main-action}
use Rattle.script_steps.proofs.Choosing.{Happens, choice-happens}
use Rattle.script_steps.proofs.Playing.{Chooses, chooses, PlaysOn, plays_on}
use Rattle.script_steps.proofs.StepLines.{Prints, step-prints}
use Rattle.script_steps.specs.Choices.{Setting, Choice, beginning_of, event_by, may_deliver, own_event, played}
use Rattle.script_steps.specs.NextEvent.{event_of, handler_action, return_of, by_handler, by_taking, by_main, by_top, by_flushing, or_else, is_stopped, next_event, context_of}
use Rattle.script_steps.specs.Progress.{HandledRequest, Progress, after_line, no_progress, progress_of}
use Rattle.script_transcripts.specs.Laws.{CaseNamesAreWords}
use Rattle.transcripts.specs.Printed.{SaysWord, SayWords}

-- The first line of a step

-- The lines of an output begin with one of this kind.
record Begins (e : End) (P : What → Type 0) (output : Output) : Type 0 where
  first : What
  more : List Line
  lines : output.lines ≡ line_at e.side first ∷ more
  is : P first

-- a change only adds lines at the end
abbrev Adds : Change → Type 0
Adds change = (o : Output) → (more : List Line) × ((change o).lines ≡ o.lines ++ more)

adds-both : (c d : Change) → Adds c → Adds d → Adds (c ▷ d)
adds-both c d h k o =
    let one = h o in
    let two = k (c o) in
    (one.0 ++ two.0, two.1 ∙ ap (λ ls. ls ++ two.0) one.1 ∙ append_assoc o.lines one.0 two.0)

adds-leaves : (c : Change) → Leaves c → Adds c
adds-leaves c h o = let k = h o in (k.more, k.lines)

adds-end : (f : End → End) → Adds (on_end f)
adds-end f o = ([], sym (append-nil o.lines))

adds-when : (b : Bool) (f : End → End) → Adds (when b (on_end f))
adds-when true f o = ([], sym (append-nil o.lines))
adds-when false f o = ([], sym (append-nil o.lines))

adds-let_go : (before : Option NameContent) → Adds (let_go before)
adds-let_go None o = ([], sym (append-nil o.lines))
adds-let_go (Some (actor id)) o = ([], sym (append-nil o.lines))
adds-let_go (Some (resolver r)) o = adds-leaves (destroyed r) (leaves-destroyed r) o

adds-renamed : (name : List ℕ) (holds : Option NameContent) → Adds (renamed name holds)
adds-renamed name holds o = adds-let_go (held_by_name name o.end.names) (on_end (λ e. record e { names = without_name name e.names }) o)

adds-names : (id : ℤ) (name : Option (List ℕ)) → Adds (send.names_actor id name)
adds-names id None o = ([], sym (append-nil o.lines))
adds-names id (Some name) o = adds-renamed name (Some (actor id)) o

adds-posted : (lazy : Bool) (m : Message) → Adds (send.posted_by lazy m)
adds-posted true m o = ([], sym (append-nil o.lines))
adds-posted false m o = ([], sym (append-nil o.lines))

adds-sent : (row : MessageRow) (m : Message) (name : Option (List ℕ)) → Adds (following_line row m name)
adds-sent row m name =
    let counts : End → End = λ e. record e { sent = e.sent + 1; constructors_sent = counting row.kind e.constructors_sent } in
    let waits : End → End = λ e. record e { stack = send.wait_for row m ∷ e.stack } in
    let promised : End → End = λ e. record e { promises = e.promises ++ record { promise = promises.made m.seq m.route; number = m.number } ∷ [] } in
    let last : Change = send.constructs m.made m.route row.kind ▷ falls.deletes m.route row.kind in
    adds-both (on_end counts) (send.posted row m ▷ send.awaits_reply row m ▷ send.names_actor m.made name ▷ last) (adds-end counts)
    (adds-both (send.posted row m) (send.awaits_reply row m ▷ send.names_actor m.made name ▷ last) (adds-posted row.lazy m)
    (adds-both (send.awaits_reply row m) (send.names_actor m.made name ▷ last)
    (adds-both (when (is_sync_row row) (on_end waits)) (when (makes_promise row) (on_end promised)) (adds-when (is_sync_row row) waits) (adds-when (makes_promise row) promised))
    (adds-both (send.names_actor m.made name) last (adds-names m.made name)
    (adds-both (send.constructs m.made m.route row.kind) (falls.deletes m.route row.kind) (adds-leaves (send.constructs m.made m.route row.kind) (leaves-constructs m.made m.route row.kind))
    (adds-leaves (falls.deletes m.route row.kind) (leaves-deletes m.route row.kind))))))

begins : (e : End) (w : What) (c : Change) → SaysWord w → Adds c → Begins e SaysWord (c (line w (beginning e)))
begins e w c h a = let k = a (line w (beginning e)) in record { first = w; more = k.0; lines = k.1; is = h }

send-says : (sync : Bool) (m : Message) (vs : Values) → SaysWord (if sync then what.Call m.seq m.transaction m.route m.number vs else what.Send m.seq m.route m.number vs)
send-says true m vs = tt
send-says false m vs = tt

send-begins : (schema : Schema) (e : End) (row : MessageRow) (m : Message) (vs : Values) (name : Option (List ℕ)) (cause : Option SendRefusal) → Begins e SaysWord (send.sent_unless cause row m vs name (beginning e))
send-begins schema e row m vs name None = begins e (send.send_line row m vs) (following_line row m name) (send-says (is_sync_row row) m vs) (adds-sent row m name)
send-begins schema e row m vs name (Some cause) = record { first = what.RefusedSend cause row.number; more = []; lines = refl; is = tt }

refused-says : (cause : SendRefusal) (vs : Option Values) → SaysWord (answering.refused_line cause vs)
refused-says cause None = tt
refused-says cause (Some vs) = tt

answering-says : (seq : ℤ) (vs : Option Values) → SaysWord (answering.answering_line seq vs)
answering-says seq None = tt
answering-says seq (Some vs) = tt

answer-begins : (e : End) (by : Answering) (vs : Option Values) (cause : Option SendRefusal) (r : Option Resolver) → Begins e SaysWord (answering.answered_unless cause by vs r (beginning e))
answer-begins e by vs (Some cause) r = record { first = answering.refused_line cause vs; more = []; lines = refl; is = refused-says cause vs }
answer-begins e by vs None None = record { first = answering.refused_line refusal.DeadActor vs; more = []; lines = refl; is = refused-says refusal.DeadActor vs }
answer-begins e (handled seq) vs None (Some r) = record { first = answering.answering_line r.seq vs; more = []; lines = refl; is = answering-says r.seq vs }
answer-begins e (kept name number) vs None (Some r) = record { first = answering.answering_line r.seq vs; more = []; lines = refl; is = answering-says r.seq vs }

close-begins : (e : End) (cause : Option SendRefusal) → Begins e SaysWord (acts.close_unless cause (beginning e))
close-begins e None =
    begins e what.Close (put (message acts.goodbye) ▷ falls.closed destroy.NormalShutdown) tt
    (adds-both (put (message acts.goodbye)) (falls.closed destroy.NormalShutdown) (adds-leaves (put (message acts.goodbye)) (leaves-put (message acts.goodbye))) (adds-leaves (falls.closed destroy.NormalShutdown) (leaves-closed destroy.NormalShutdown)))
close-begins e (Some cause) = record { first = what.RefusedClose cause; more = []; lines = refl; is = tt }

-- a handler that runs, whose acts an act counts
abbrev one_running : List HandledRequest
one_running = record { seq = pos 0; number = 0; block = 0; acts = 0; given = values.Nothing; made = pos 0 } ∷ []

abbrev acts_of : List HandledRequest → ℕ
acts_of [] = 0
acts_of (request ∷ below) = request.acts

no-act : (w : What) → Passes w → acts_of (after_line (record no_progress { handled = one_running }) w).handled ≡ 1 → ⊥
no-act w passes one = let none : 1 ≡ 0 = sym one ∙ ap acts_of (passes (record no_progress { handled = one_running })).0 in omega (arith, none)

passing-says : (w : What) → Passes w → SaysWord w
passing-says (what.Keep seq name) passes = absurd (no-act (what.Keep seq name) passes refl)
passing-says (what.Let name id) passes = absurd (no-act (what.Let name id) passes refl)
passing-says _ passes = tt

passing-begins : (e : End) (entries : List _) (output : Output) → ShowsPassing e entries output → Begins e SaysWord output
passing-begins e entries output shows = record { first = shows.0; more = shows.2.more; lines = shows.2.lines; is = passing-says shows.0 shows.1 }

-- a name that an event gives is a word
abbrev GivesWord : Event → Type 0
GivesWord (event.keep seq name) = IsWord name
GivesWord (event.name name id) = IsWord name
GivesWord _ = Unit {0}

step-begins : (schema : Schema) (e : End) (link : List Packet) (happened : Event) (output : Output) → step schema e link happened ≡ Some output → GivesWord happened → Begins e SaysWord output
step-begins schema e link (event.send route number vs name) output is h =
    found-gives (Begins e SaysWord) (request_row schema number) (λ row. provided (send.may_send schema e row vs name) (send.send schema e row route vs name) e) output
    (λ row found k. provided-gives (Begins e SaysWord) (send.may_send schema e row vs name) (send.send schema e row route vs name) e output
    (λ may. send-begins schema e row (send.request_of e row route vs) vs name (send.send_refusal schema e row route vs)) k) is
step-begins schema e link (event.answer by vs) output is h =
    found-gives (Begins e SaysWord) (answering.answered_row schema e by) (λ row. provided (answering.may_answer schema e row vs) (answering.answer schema e row by vs) e) output
    (λ row found k. provided-gives (Begins e SaysWord) (answering.may_answer schema e row vs) (answering.answer schema e row by vs) e output
    (λ may. answer-begins e by vs (answering.answer_refusal schema e row by vs) (answering.resolver_used e by)) k) is
step-begins schema e link (event.keep seq name) output is h =
    let holds : Option NameContent = option_and_then (answering.kept_by e) (answering.handled_resolver e seq) in
    let releases : End → End = λ e. record e { stack = answering.released seq e.stack } in
    provided-gives (Begins e SaysWord) (answering.may_keep e seq) (answering.keep e seq name) e output
    (λ may. begins e (what.Keep seq name) (on_end releases ▷ renamed name holds) h (adds-both (on_end releases) (renamed name holds) (adds-end releases) (adds-renamed name holds))) is
step-begins schema e link (event.name name id) output is h =
    let holds : Option NameContent = if acts.is_positive id then Some (actor id) else None in
    provided-gives (Begins e SaysWord) (send.may_act e) (acts.name_actor name id) e output
    (λ may. begins e (what.Let name (if acts.is_positive id then id else pos 0)) (renamed name holds) h (adds-renamed name holds)) is
step-begins schema e link event.close output is h =
    provided-gives (Begins e SaysWord) (send.may_act e) (acts.close e) e output (λ may. close-begins e (acts.close_refusal e)) is
step-begins schema e link event.die output is h = let k = step-shows schema e link event.die output is in record { first = what.Die; more = k.more; lines = k.lines; is = tt }
step-begins schema e link event.deliver output is h = passing-begins e _ output (step-shows schema e link event.deliver output is)
step-begins schema e link event.take output is h = by (step-shows schema e link event.take output is)
  where
    by : Shows schema e event.take output → Begins e SaysWord output
    by (inl k) = passing-begins e _ output k.0
    by (inr k) = record { first = what.Take k.m.seq k.m.route k.m.number (nulled schema e.actors k.row.params k.vs); more = map (line_at e.side) (built_lines k.m.made k.row.kind); lines = k.lines; is = tt }
step-begins schema e link (event.return vs) output is h = let k = step-shows schema e link (event.return vs) output is in record { first = what.Return k.0; more = k.1.more; lines = k.1.lines; is = tt }
step-begins schema e link event.resume output is h = passing-begins e _ output (step-shows schema e link event.resume output is)
step-begins schema e link event.flush output is h = passing-begins e _ output (step-shows schema e link event.flush output is)

-- All lines of a step

effect-says : (w : What) → is_effect w ≡ true → SaysWord w
effect-says (what.Keep seq name) h = cc
effect-says (what.Let name id) h = cc
effect-says _ h = tt

effects-say : (side : Side) (ws : List What) → AllByRecursion (λ w. is_effect w ≡ true) ws → SayWords (map (line_at side) ws)
effects-say side [] h = tt
effects-say side (w ∷ ws) h = (effect-says w h.0, effects-say side ws h.1)

step-says : (schema : Schema) (e : End) (link : List Packet) (happened : Event) (output : Output) → step schema e link happened ≡ Some output → GivesWord happened → SayWords output.lines
step-says schema e link happened output is h =
    let b : Begins e SaysWord output = step-begins schema e link happened output is h in
    let p : Prints e happened output = step-prints schema e link happened output is in
    let same : p.first ≡ b.first = first-is e.side p.first b.first p.rest b.more (sym p.lines ∙ b.lines) in
    subst SayWords (sym p.lines) (subst SaysWord (sym same) b.is, effects-say e.side p.rest p.effects)

-- What a script gives

abbrev EachGivesWord : Option Event → Type 0
EachGivesWord None = Unit {0}
EachGivesWord (Some happened) = GivesWord happened

action-gives : (schema : Schema) (block : BlockContext) (context : TermContext) (seq : ℤ) (a : Action) → IsValidAction schema block a → GivesWord (event_of context seq a)
action-gives schema block context seq (action.Send who number terms) h = tt
action-gives schema block context seq (action.New name who number terms) h = tt
action-gives schema block context seq (action.Let name who) h = h.0.0
action-gives schema block context seq (action.Resolve terms) h = tt
action-gives schema block context seq action.Reject h = tt
action-gives schema block context seq (action.Keep name) h = h.0.0
action-gives schema block context seq (action.ResolveNamed name number terms) h = tt
action-gives schema block context seq (action.RejectNamed name number) h = tt
action-gives schema block context seq action.Close h = tt
action-gives schema block context seq action.Die h = tt

module _ (setting : Setting) (valid : IsValid setting.schema setting.script) where
  handled-gives : (e : End) (request : HandledRequest) (below : List HandledRequest) (found : Option Action) → handler_action setting.script e.side request ≡ found
      → GivesWord (option_map_or (event_of (context_of e (request ∷ below)) request.seq) found (return_of setting.script e.side (context_of e (request ∷ below)) request))
  handled-gives e request below None is = tt
  handled-gives e request below (Some a) is =
      let k = handler-action setting.schema setting.script e.side request a valid is in
      action-gives setting.schema (in_handler e.side k.row) (context_of e (request ∷ below)) request.seq a k.valid

  handler-gives : (e : End) (handled : List HandledRequest) → GivesWord (by_handler setting.script e handled)
  handler-gives e [] = tt
  handler-gives e (request ∷ below) = handled-gives e request below (handler_action setting.script e.side request) refl

  main-gives : (e : End) (index : ℕ) (found : Option Action) → action_at setting.script e.side (point.Main index) ≡ found → EachGivesWord (option_map (event_of (context_of e []) no_id) found)
  main-gives e index None is = tt
  main-gives e index (Some a) is = action-gives setting.schema (in_main e.side) (context_of e []) no_id a (main-action setting.schema setting.script e.side index a valid is)

  either-gives : (b : Bool) (one other : Option Event) → EachGivesWord one → EachGivesWord other → EachGivesWord (if b then one else other)
  either-gives true one other h k = h
  either-gives false one other h k = k

  or-gives : (first second : Option Event) → EachGivesWord first → EachGivesWord second → EachGivesWord (or_else first second)
  or-gives None second h k = k
  or-gives (Some x) second h k = h

  taking-gives : (e : End) → EachGivesWord (by_taking e)
  taking-gives e = either-gives (is_some (taken_next e)) (Some event.take) None tt tt

  top-gives : (e : End) (progress : Progress) (found : StackTop) → EachGivesWord (by_top setting.script e progress found)
  top-gives e progress top.Empty =
      or-gives (by_taking e) (by_main setting.script e progress) (taking-gives e)
      (either-gives (is_open e.state) (option_map (event_of (context_of e []) no_id) (action_at setting.script e.side (point.Main progress.main))) None (main-gives e progress.main (action_at setting.script e.side (point.Main progress.main)) refl) tt)
  top-gives e progress (top.Dispatch head) = handler-gives e progress.handled
  top-gives e progress (top.Unanswered head) = taking-gives e
  top-gives e progress (top.Answered head) = tt

  next-gives : (e : End) (progress : Progress) → EachGivesWord (next_event setting.script setting.stop e progress)
  next-gives e progress =
      let acts : Option Event = or_else (by_top setting.script e progress (top_of (send.frames_of e))) (by_flushing e) in
      either-gives (is_dead_end e.state) None (if is_stopped setting.stop e.side progress then Some event.die else acts) tt
      (either-gives (is_stopped setting.stop e.side progress) (Some event.die) acts tt
      (or-gives (by_top setting.script e progress (top_of (send.frames_of e))) (by_flushing e) (top-gives e progress (top_of (send.frames_of e))) (either-gives (may_flush e) (Some event.flush) None tt tt)))

  choice-gives : (choice : Choice) (state : RunState) → EachGivesWord (event_by setting choice state)
  choice-gives choice state =
      either-gives choice.delivers (if may_deliver choice.side state.world then Some event.deliver else None) (own_event setting choice.side state)
      (either-gives (may_deliver choice.side state.world) (Some event.deliver) None tt tt) (next-gives (end_of choice.side state.world) (progress_of choice.side state.lines))

  words-all : (choices : List Choice) (from last : RunState) → played setting choices from ≡ Some last → SayWords from.lines → SayWords last.lines
  words-all [] from last h k =
      let same : from ≡ last = cc in
      subst (λ (s : RunState). SayWords s.lines) same k
  words-all (choice ∷ more) from last h k =
      let p : PlaysOn setting choice more from last = plays_on setting choice more from last h in
      let c : Chooses setting choice from p.next = chooses setting choice from p.next p.first in
      let made : Happens setting choice.side from c.event p.next = choice-happens setting choice from p.next c in
      let gives : GivesWord c.event = subst EachGivesWord c.has (choice-gives choice from) in
      let says = step-says setting.schema (end_of choice.side from.world) (link_to choice.side from.world) c.event made.output made.is gives in
      words-all more p.next last p.rest (subst SayWords (sym made.lines) (all-append (λ (line : Line). SaysWord line.what) from.lines made.output.lines k says))

pub case_names_are_words : CaseNamesAreWords
case_names_are_words setting choices state valid plays = words-all setting valid choices (beginning_of setting) state plays tt
