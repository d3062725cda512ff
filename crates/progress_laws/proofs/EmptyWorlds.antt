-- Nothing is left in a still world.
use Rattle.std.proofs.Common.{◌≡◌, ℕ, ◌+◌, pos, Bool, true, false, not, ◌&&◌, cond, List, [], ◌∷◌, find, length, map, Option, Some, None, is_some, option_and_then, refl, ap, subst, ◌∙◌, arith}
use Rattle.std.specs.List.{AllByRecursion}
use Rattle.std.specs.Option.{unwrap_or}
use Rattle.std.proofs.lemmas.Bool.{both_ways, false_from_ne_true, not-true}
use Rattle.ipdl_base.specs.declared.kinds.EndState.{EndState}
use Rattle.ipdl_base.specs.declared.kinds.EndState.TheVariants.{Open, Draining, Closed, Dead}
use Rattle.ipdl_base.specs.declared.kinds.Side.{Side}
use Rattle.ipdl_base.specs.declared.kinds.Side.TheVariants.{Parent, Child}
use Rattle.ipdl_base.specs.declared.message.Message.{Message}
use Rattle.ipdl_base.specs.declared.schema.MessageRow.{MessageRow}
use Rattle.ipdl_base.specs.declared.schema.Schema.{Schema}
use Rattle.ipdl_base.specs.Sound.{IsSound}
use Rattle.nesting_core.specs.declared.frame.StackFrame.{StackFrame}
use Rattle.nesting_core.specs.declared.frame.StackFrame.TheVariants.{Dispatch, Wait}
use Rattle.nesting_core.specs.Deferral.{awaited_level, inner_transaction}
use Rattle.nesting_core.specs.Top.{top_of}
use Rattle.pending_queue.specs.declared.item.Item.{Item}
use Rattle.pending_queue.specs.DeferralContext.{is_free}
use Rattle.history_reading.specs.Reading.{opening_reading}
use Rattle.channel_model.specs.Deliveries as delivery
use Rattle.channel_model.specs.Ends.{End, World, StackEntry, Packet, end_of, link_to}
use Rattle.channel_model.specs.Events.{Event, Move}
use Rattle.channel_model.specs.Events as event
use Rattle.channel_model.specs.Numbers.{request_row}
use Rattle.channel_model.specs.Outputs.{is_open}
use Rattle.channel_model.specs.Returns as returns
use Rattle.channel_model.specs.Runs.{is_possible, is_still, is_still_at, history_of}
use Rattle.channel_model.specs.Sends.{frames_of}
use Rattle.channel_model.specs.States.{IsAnswered, IsInState, HasArrived}
use Rattle.channel_model.specs.Steps.{step, provided}
use Rattle.channel_model.specs.Takes as takes
use Rattle.channel_model.proofs.Tests.{and-left, and-right}
use Rattle.channel_laws.specs.EndActors.{ReadsActors}
use Rattle.channel_laws.specs.Laws.{world_of}
use Rattle.channel_laws.specs.Notes.{Note}
use Rattle.channel_laws.specs.Origins.{EntryOrigin}
use Rattle.channel_laws.proofs.EveryRun.{nesting_in_every_run}
use Rattle.channel_laws.proofs.FallenRuns.{fallen_test, fallen-keeps_moves, opening-reads}
use Rattle.channel_laws.proofs.Runs.{AtEnds, RunKeeps, every-run}
use Rattle.channel_laws.proofs.StillWorlds.{still_histories_leave_no_end_waiting}
use Rattle.progress_laws.specs.Acts.{happens_by_itself}
use Rattle.progress_laws.specs.Rest.{NothingIsLeft, StillWorldsAreEmpty}
use Rattle.progress_laws.specs.Weights.{end_weight, link_weight, packet_weight, item_weight, entry_weight, total, weight}
use Rattle.progress_laws.proofs.ComingToRest.{CanHappen, can-happen}
use Rattle.progress_laws.proofs.WeighedRuns.{itself-falls}

-- An end at which nothing happens by itself

-- Only acts are possible there.
record IsIdle (schema : Schema) (e : End) (link : List Packet) : Type 0 where
  deliver : is_some (step schema e link event.deliver) ≡ false
  take : is_some (step schema e link event.take) ≡ false
  return : is_some (step schema e link (event.return None)) ≡ false
  resume : is_some (step schema e link event.resume) ≡ false
  flush : is_some (step schema e link event.flush) ≡ false

idle-at : (schema : Schema) (w : World) (side : Side) → is_still_at schema w side ≡ true → IsIdle schema (end_of side w) (link_to side w)
idle-at schema w side h =
    let d : Bool = not (is_possible schema w side event.deliver) in
    let t : Bool = not (is_possible schema w side event.take) in
    let r : Bool = not (is_possible schema w side (event.return None)) in
    let s : Bool = not (is_possible schema w side event.resume) in
    let f : Bool = not (is_possible schema w side event.flush) in
    let h1 = and-right d (t && (r && (s && f))) h in
    let h2 = and-right t (r && (s && f)) h1 in
    let h3 = and-right r (s && f) h2 in
    record {
      deliver = not-true (is_possible schema w side event.deliver) (and-left d (t && (r && (s && f))) h);
      take = not-true (is_possible schema w side event.take) (and-left t (r && (s && f)) h1);
      return = not-true (is_possible schema w side (event.return None)) (and-left r (s && f) h2);
      resume = not-true (is_possible schema w side event.resume) (and-left s f h3);
      flush = not-true (is_possible schema w side event.flush) (and-right s f h3);
    }

module _ (schema : Schema) (e : End) (link : List Packet) (idle : IsIdle schema e link) where
  -- The link and the outbox

  no-link : is_open e.state ≡ true → link ≡ []
  no-link opened = by link refl
    where
      by : (packets : List Packet) → link ≡ packets → link ≡ []
      by [] is = is
      by (packet ∷ rest) is =
          let possible : is_some (step schema e link event.deliver) ≡ true =
          ap (λ (l : List Packet). is_some (step schema e l event.deliver)) is ∙ ap (λ (b : Bool). is_some (provided b (delivery.deliver schema packet) e)) opened in
          absurd (both_ways (is_some (step schema e link event.deliver)) idle.deliver possible)

  no-outbox : is_open e.state ≡ true → e.outbox ≡ []
  no-outbox opened = by e.outbox refl
    where
      by : (ms : List Message) → e.outbox ≡ ms → e.outbox ≡ []
      by [] is = is
      by (m ∷ ms) is =
          let possible : is_some (step schema e link event.flush) ≡ true =
          ap (λ (b : Bool). is_some (provided (b && not (returns.is_empty e.outbox)) returns.flush e)) opened ∙ ap (λ (l : List Message). is_some (provided (not (returns.is_empty l)) returns.flush e)) is in
          absurd (both_ways (is_some (step schema e link event.flush)) idle.flush possible)

  -- The stack

  row-returns : (entry : StackEntry) (row : MessageRow) → request_row schema entry.number ≡ Some row → returns.dispatch_on_top e.stack ≡ Some entry → is_some (step schema e link (event.return None)) ≡ true
  row-returns entry row found top =
      ap (λ (x : Option StackEntry). is_some (option_and_then (λ entry. option_and_then (λ row. provided (returns.may_return schema row None) (returns.return schema e row entry None) e) (request_row schema entry.number)) x)) top
      ∙ ap (λ (x : Option MessageRow). is_some (option_and_then (λ row. provided (returns.may_return schema row None) (returns.return schema e row entry None) e) x)) found

  row-resumes : (wait : returns.AnsweredWait) (row : MessageRow) → request_row schema wait.number ≡ Some row → returns.answered_wait_on_top e.stack ≡ Some wait → is_some (step schema e link event.resume) ≡ true
  row-resumes wait row found top =
      ap (λ (x : Option returns.AnsweredWait). is_some (option_and_then (λ wait. option_and_then (λ row. provided true (returns.resume schema e wait row) e) (request_row schema wait.number)) x)) top
      ∙ ap (λ (x : Option MessageRow). is_some (option_and_then (λ row. provided true (returns.resume schema e wait row) e) x)) found

  no-stack : (sent : List Note) (stack : List StackEntry) → e.stack ≡ stack → AllByRecursion (EntryOrigin schema sent) stack → AllByRecursion IsAnswered (map (λ (x : StackEntry). x.frame) stack) → e.stack ≡ []
  no-stack sent [] is origins answered = is
  no-stack sent (entry ∷ below) is origins answered = by entry.frame refl
    where
      by : (f : StackFrame) → entry.frame ≡ f → e.stack ≡ []
      by (Dispatch head) frame =
          let top : returns.dispatch_on_top e.stack ≡ Some entry = ap returns.dispatch_on_top is ∙ ap (λ (x : StackFrame). elim x as (λ y. Option StackEntry) [ Dispatch head ↦ Some entry | Wait head a ↦ None ]) frame in
          absurd (both_ways (is_some (step schema e link (event.return None))) idle.return (row-returns entry origins.0.row origins.0.found top))
      by (Wait head None) frame = let k : true ≡ false = subst IsAnswered frame answered.0 in cc
      by (Wait head (Some a)) frame =
          let top : returns.answered_wait_on_top e.stack ≡ Some (record { seq = head.seq; number = entry.number; given = a }) = ap returns.answered_wait_on_top is ∙ ap (returns.answered_wait_of entry.number) frame in
          absurd (both_ways (is_some (step schema e link event.resume)) idle.resume (row-resumes (record { seq = head.seq; number = entry.number; given = a }) origins.0.row origins.0.found top))

  -- What has arrived

  -- the item that an end with these frames takes next
  abbrev taken_by : List StackFrame → EndState → List Item → Option Item
  taken_by frames state items =
      cond (takes.takes_in_state state && takes.takes_under (top_of frames)) (find (is_free (record { side = e.side; level = awaited_level frames; transaction = unwrap_or (inner_transaction frames) (pos 0) })) items) None

  takes-one : (state : EndState) (x : Item) (items : List Item) → e.stack ≡ [] → e.state ≡ state → takes.takes_in_state state ≡ true → e.arrived ≡ x ∷ items → is_some (step schema e link event.take) ≡ true
  takes-one state x items stack is may arrived =
      let frames : frames_of e ≡ [] = ap (map (λ (x : StackEntry). x.frame)) stack in
      let a : takes.taken_next e ≡ taken_by [] e.state e.arrived = ap (λ (fs : List StackFrame). taken_by fs e.state e.arrived) frames in
      let b : taken_by [] e.state e.arrived ≡ taken_by [] state (x ∷ items) = ap (λ (s : EndState). taken_by [] s e.arrived) is ∙ ap (taken_by [] state) arrived in
      let c : taken_by [] state (x ∷ items) ≡ Some x = ap (λ (b : Bool). cond (b && true) (Some x) None) may in
      ap (λ (found : Option Item). is_some (option_and_then (λ item. provided true (takes.take schema item) e) found)) (a ∙ (b ∙ c))

  no-arrived : e.stack ≡ [] → IsInState e → e.arrived ≡ []
  no-arrived stack h = by e.state refl (h.arrived)
    where
      none : (state : EndState) → e.state ≡ state → takes.takes_in_state state ≡ true → (items : List Item) → e.arrived ≡ items → e.arrived ≡ []
      none state is may [] arrived = arrived
      none state is may (x ∷ items) arrived = absurd (both_ways (is_some (step schema e link event.take)) idle.take (takes-one state x items stack is may arrived))

      by : (state : EndState) → e.state ≡ state → HasArrived state e.arrived → e.arrived ≡ []
      by Open is k = none Open is refl e.arrived refl
      by Draining is k = none Draining is refl e.arrived refl
      by Closed is k = k
      by Dead is k = k

  -- All of it

  outbox-by : (b : Bool) → is_open e.state ≡ b → IsInState e → e.outbox ≡ []
  outbox-by true is h = no-outbox is
  outbox-by false is h = h.outbox is

  nothing-left : (sent : List Note) → AllByRecursion (EntryOrigin schema sent) e.stack → AllByRecursion IsAnswered (frames_of e) → IsInState e → NothingIsLeft e link
  nothing-left sent origins answered h =
      let stack : e.stack ≡ [] = no-stack sent e.stack refl origins answered in
      record { at_end = record { outbox = outbox-by (is_open e.state) refl h; arrived = no-arrived stack h; stack = stack }; on_link = no-link }

-- Worlds

link-none : (state : EndState) (link : List Packet) → (is_open state ≡ true → link ≡ []) → link_weight state link ≡ 0
link-none state link none = by (is_open state) refl
  where
    by : (b : Bool) → is_open state ≡ b → cond b (total packet_weight link) 0 ≡ 0
    by true is = ap (total packet_weight) (none is)
    by false is = refl

pub end-none : (e : End) (link : List Packet) → NothingIsLeft e link → end_weight e + link_weight e.state link ≡ 0
end-none e link h =
    let o : length e.outbox ≡ 0 = ap length h.at_end.outbox in
    let a : total item_weight e.arrived ≡ 0 = ap (total item_weight) h.at_end.arrived in
    let s : total entry_weight e.stack ≡ 0 = ap (total entry_weight) h.at_end.stack in
    let l = link-none e.state link h.on_link in
    omega (arith, o, a, s, l)

module _ (schema : Schema) (sound : IsSound schema) (top : ℕ) (moves : List Move) where
  abbrev w : World
  w = world_of schema top moves

  run : RunKeeps schema (AtEnds schema (ReadsActors schema)) (fallen_test schema sound) w opening_reading (history_of schema top moves)
  run = every-run schema sound (AtEnds schema (ReadsActors schema)) (fallen_test schema sound) (fallen-keeps_moves schema sound) top moves (opening-reads schema top Parent, opening-reads schema top Child)

  pub states-in_every_run : IsInState w.parent × IsInState w.child
  states-in_every_run = (run.kept.0.state, run.kept.1.state)

  both-empty : is_still schema w ≡ true → NothingIsLeft w.parent w.to_parent × NothingIsLeft w.child w.to_child
  both-empty still = (
    nothing-left schema w.parent w.to_parent (idle-at schema w Parent (and-left (is_still_at schema w Parent) (is_still_at schema w Child) still)) _ run.reads.ends.origins.entries (still_histories_leave_no_end_waiting.answered schema sound top moves Parent still) states-in_every_run.0,
    nothing-left schema w.child w.to_child (idle-at schema w Child (and-right (is_still_at schema w Parent) (is_still_at schema w Child) still)) _ run.reads.ends.their_origins.entries (still_histories_leave_no_end_waiting.answered schema sound top moves Child still) states-in_every_run.1,
  )

  side-empty : (side : Side) → is_still schema w ≡ true → NothingIsLeft (end_of side w) (link_to side w)
  side-empty Parent still = (both-empty still).0
  side-empty Child still = (both-empty still).1

  no-weight : is_still schema w ≡ true → weight w ≡ 0
  no-weight still =
      let b = both-empty still in
      let p = end-none w.parent w.to_parent b.0 in
      let c = end-none w.child w.to_child b.1 in
      omega (arith, p, c)

  nothing-possible : is_still schema w ≡ true → (move : Move) → happens_by_itself move.event ≡ true → is_possible schema w move.side move.event ≡ false
  nothing-possible still move itself = false_from_ne_true (is_possible schema w move.side move.event) (λ possible.
      let less = itself-falls schema sound w (nesting_in_every_run schema sound top moves) move itself possible in
      let none = no-weight still in
      absurd (omega (arith, less, none)))

  is-still : weight w ≡ 0 → is_still schema w ≡ true
  is-still none = by (is_still schema w) refl
    where
      by : (b : Bool) → is_still schema w ≡ b → is_still schema w ≡ true
      by true is = is
      by false is =
          let c : CanHappen schema w = can-happen schema w is in
          let a = itself-falls schema sound w (nesting_in_every_run schema sound top moves) c.move c.itself c.possible in
          absurd (omega (arith, a, none))

pub still_worlds_are_empty : StillWorldsAreEmpty
still_worlds_are_empty = record {
  over = λ schema sound top moves still move itself. nothing-possible schema sound top moves still move itself;
  empty = λ schema sound top moves side still. side-empty schema sound top moves side still;
  weightless = λ schema sound top moves still. no-weight schema sound top moves still;
  still = λ schema sound top moves none. is-still schema sound top moves none;
}
