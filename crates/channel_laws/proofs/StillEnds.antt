-- If the lines of an end show that only acts are possible, it has nothing to deliver, take, return, resume or flush.
use Rattle.std.proofs.Common.{◌≡◌, ◌==◌, ℤ, Bool, true, false, not, ◌&&◌, if◌then◌else◌, List, [], ◌∷◌, cond, find, map, Option, Some, None, is_some, option_map, option_and_then, refl, sym, ap, subst, ◌∙◌}
use Rattle.std.specs.List.{AllByRecursion}
use Rattle.ipdl_base.specs.declared.kinds.EndState.{EndState}
use Rattle.ipdl_base.specs.declared.kinds.EndState.TheVariants.{Open, Draining, Closed, Dead}
use Rattle.ipdl_base.specs.declared.kinds.Level.{Level}
use Rattle.ipdl_base.specs.declared.kinds.Level.TheVariants.{InsideSync}
use Rattle.ipdl_base.specs.declared.kinds.Side.{Side}
use Rattle.ipdl_base.specs.declared.kinds.Side.TheVariants.{Parent, Child}
use Rattle.ipdl_base.specs.declared.message.Message.{Message}
use Rattle.ipdl_base.specs.declared.schema.Schema.{Schema}
use Rattle.ipdl_base.specs.Deferral.{rank}
use Rattle.nesting_core.specs.declared.frame.Head.{Head}
use Rattle.nesting_core.specs.declared.frame.StackFrame.{StackFrame}
use Rattle.nesting_core.specs.declared.frame.StackFrame.TheVariants.{Dispatch, Wait}
use Rattle.nesting_core.specs.Deferral as deferral
use Rattle.nesting_core.specs.Frames.{head_of, is_inside_sync}
use Rattle.nesting_core.specs.Top.{top_of}
use Rattle.nesting_laws.specs.Calls.{SyncFrame}
use Rattle.pending_queue.specs.declared.item.Item.{Item}
use Rattle.history_reading.specs.EndReading.{EndReading}
use Rattle.history_reading.specs.Still as lines
use Rattle.channel_model.specs.Deliveries as delivery
use Rattle.channel_model.specs.Ends.{End, Packet, StackEntry}
use Rattle.channel_model.specs.Events as event
use Rattle.channel_model.specs.Numbers.{request_row}
use Rattle.channel_model.specs.Outputs.{is_open}
use Rattle.channel_model.specs.Returns as return
use Rattle.channel_model.specs.Sends.{frames_of}
use Rattle.channel_model.specs.States.{IsAnswered}
use Rattle.channel_model.specs.Steps.{step, provided}
use Rattle.channel_model.specs.Takes as take
use Rattle.channel_laws.specs.Arrivals.{item_kind}
use Rattle.channel_laws.specs.Heads.{HasHeads}
use Rattle.channel_laws.specs.NestedWorlds.{EndsAreNested, both_open, mine_open, theirs_open, both_over, EndsInLastPacket}
use Rattle.channel_laws.specs.NotedArrivals.{ArrivalsAreNoted}
use Rattle.channel_laws.specs.Notes.{told_notes}
use Rattle.channel_laws.specs.SyncStack.{empty, async_base, waits, handles, no_answer, has_answer, Shows, no_cpow, cpow_on_top}
use Rattle.channel_laws.specs.TwoEnds.{TwoEnds}
use Rattle.channel_laws.proofs.HeadsAlike.{inner-alike, awaited-level, takes-alike}
use Rattle.channel_laws.proofs.StillReads.{StillEnd, none-comes, InnerIsClear, some-free}

-- A parent that awaits something has an inner transaction

abbrev frames_in : List StackEntry → List StackFrame
frames_in es = map (λ (x : StackEntry). x.frame) es

inside-clear : (head : Head) (f : StackFrame) (rest : Option StackFrame) → head.sync ≡ true → head.level ≡ InsideSync → InnerIsClear Parent (Some head.level) (option_map (λ (h : Head). h.transaction) (option_map head_of (cond (head.sync && (rank head.level == rank InsideSync)) (Some f) rest)))
inside-clear head f rest s l =
    subst (λ (b : Bool). InnerIsClear Parent (Some head.level) (option_map (λ (h : Head). h.transaction) (option_map head_of (cond b (Some f) rest))))
    (sym (ap (λ (b : Bool). b && (rank head.level == rank InsideSync)) s ∙ ap (λ (x : Level). rank x == rank InsideSync) l)) tt

shows-clear : {entries : List StackEntry} {stack : List SyncFrame} → Shows Parent entries stack → InnerIsClear Parent (deferral.awaited_level (frames_in entries)) (deferral.inner_transaction (frames_in entries))
shows-clear (no_cpow (no_answer (waits {head} {route} {number} {resolves} {entries} s k f p))) = inside-clear head (Wait head None) (find is_inside_sync (frames_in entries)) s k
shows-clear (no_cpow (no_answer empty)) = tt
shows-clear (no_cpow (no_answer (async_base s n))) = tt
shows-clear (no_cpow (no_answer (handles s p))) = tt
shows-clear (no_cpow (has_answer f p)) = tt
shows-clear (cpow_on_top s l p) = tt

answered-clear : (frames : List StackFrame) → AllByRecursion IsAnswered frames → InnerIsClear Parent (deferral.awaited_level frames) (deferral.inner_transaction frames)
answered-clear [] h = tt
answered-clear (Dispatch head ∷ fs) h = tt
answered-clear (Wait head None ∷ fs) h = let k : true ≡ false = h.0 in cc
answered-clear (Wait head (Some a) ∷ fs) h = tt

pub parent-clear : (schema : Schema) (mine theirs : End) (to_me to_them : List Packet) → mine.side ≡ Parent → EndsAreNested schema Parent mine theirs to_me to_them → InnerIsClear mine.side (deferral.awaited_level (frames_of mine)) (deferral.inner_transaction (frames_of mine))
parent-clear schema mine theirs to_me to_them is n = subst (λ (s : Side). InnerIsClear s (deferral.awaited_level (frames_of mine)) (deferral.inner_transaction (frames_of mine))) (sym is) (by n)
  where
    by : EndsAreNested schema Parent mine theirs to_me to_them → InnerIsClear Parent (deferral.awaited_level (frames_of mine)) (deferral.inner_transaction (frames_of mine))
    by (both_open {stack} a b m) = shows-clear (subst (λ (s : Side). Shows s mine.stack stack) is a.shows)
    by (mine_open {stack} a gone l m) = shows-clear (subst (λ (s : Side). Shows s mine.stack stack) is a.shows)
    by (theirs_open a gone l m) = answered-clear (frames_of mine) gone.ended.nobody
    by (both_over a b) = answered-clear (frames_of mine) a.nobody

pub child-clear : (mine : End) → mine.side ≡ Child → InnerIsClear mine.side (deferral.awaited_level (frames_of mine)) (deferral.inner_transaction (frames_of mine))
child-clear mine is = subst (λ (s : Side). InnerIsClear s (deferral.awaited_level (frames_of mine)) (deferral.inner_transaction (frames_of mine))) (sym is) tt

-- What is possible at a still end

module _ (schema : Schema) (mine : End) where
  deliver-none : (link : List Packet) (b : Bool) → is_open mine.state ≡ b → (b ≡ true → link ≡ []) → is_some (step schema mine link event.deliver) ≡ false
  deliver-none [] b is none = refl
  deliver-none (p ∷ rest) true is none = let k : p ∷ rest ≡ [] = none refl in cc
  deliver-none (p ∷ rest) false is none = ap (λ (b : Bool). is_some (provided b (delivery.deliver schema p) mine)) is

  take-none : (link : List Packet) → take.taken_next mine ≡ None → is_some (step schema mine link event.take) ≡ false
  take-none link is = ap (λ (o : Option Item). is_some (option_and_then (λ x. provided true (take.take schema x) mine) o)) is

  return-none : (link : List Packet) → return.dispatch_on_top mine.stack ≡ None → is_some (step schema mine link (event.return None)) ≡ false
  return-none link is = ap (λ (o : Option StackEntry). is_some (option_and_then (λ entry. option_and_then (λ row. provided (return.may_return schema row None) (return.return schema mine row entry None) mine) (request_row schema entry.number)) o)) is

  resume-none : (link : List Packet) → return.answered_wait_on_top mine.stack ≡ None → is_some (step schema mine link event.resume) ≡ false
  resume-none link is = ap (λ (o : Option return.AnsweredWait). is_some (option_and_then (λ wait. option_and_then (λ row. provided true (return.resume schema mine wait row) mine) (request_row schema wait.number)) o)) is

  flush-none : (link : List Packet) (b : Bool) → is_open mine.state ≡ b → (b ≡ true → mine.outbox ≡ []) → is_some (step schema mine link event.flush) ≡ false
  flush-none link true is none = ap (λ (b : Bool). is_some (provided (b && not (return.is_empty mine.outbox)) return.flush mine)) is ∙ ap (λ (ms : List Message). is_some (provided (not (return.is_empty ms)) return.flush mine)) (none refl)
  flush-none link false is none = ap (λ (b : Bool). is_some (provided (b && not (return.is_empty mine.outbox)) return.flush mine)) is

no-dispatch : (es : List StackEntry) → take.takes_under (top_of (frames_in es)) ≡ true → return.dispatch_on_top es ≡ None
no-dispatch [] e = refl
no-dispatch (x ∷ xs) e = by x.frame e
  where
    by : (f : StackFrame) → take.takes_under (top_of (f ∷ frames_in xs)) ≡ true → elim f as (λ y. Option StackEntry) [ Dispatch head ↦ Some x | Wait head a ↦ None ] ≡ None
    by (Dispatch head) e = cc
    by (Wait head a) e = refl

no-answer : (es : List StackEntry) → take.takes_under (top_of (frames_in es)) ≡ true → return.answered_wait_on_top es ≡ None
no-answer [] e = refl
no-answer (x ∷ xs) e = by x.frame e
  where
    by : (f : StackFrame) → take.takes_under (top_of (f ∷ frames_in xs)) ≡ true → return.answered_wait_of x.number f ≡ None
    by (Dispatch head) e = refl
    by (Wait head None) e = refl
    by (Wait head (Some a)) e = cc

takes-read : (s : EndState) → take.takes_in_state s ≡ true → lines.takes_items s ≡ true
takes-read Open e = refl
takes-read Draining e = refl
takes-read Closed e = cc
takes-read Dead e = cc

-- nothing is taken
module _ (schema : Schema) (side : Side) (mine theirs : End) (own others : EndReading) (to_me to_them : List Packet) (t : TwoEnds schema mine theirs own others to_me to_them) (is : mine.side ≡ side) (heads : HasHeads schema (told_notes theirs.side others.sent) mine) (arrived : own.arrived ≡ map item_kind mine.arrived) (noted : ArrivalsAreNoted schema (told_notes theirs.side others.sent) mine) (clear : InnerIsClear mine.side (deferral.awaited_level (frames_of mine)) (deferral.inner_transaction (frames_of mine))) where
  deferral-is : lines.deferral_of schema side own others ≡ record { side = mine.side; level = deferral.awaited_level (frames_of mine); inner = deferral.inner_transaction (frames_of mine) }
  deferral-is =
      ap (λ (s : Side). record { side = s; level = lines.awaited_level schema own.stack; inner = lines.inner_transaction schema others own.stack }) (sym is)
      ∙ (ap (λ (l : Option Level). record { side = mine.side; level = l; inner = lines.inner_transaction schema others own.stack }) (awaited-level schema theirs.side (is_open theirs.state) theirs.outbox theirs.sent _ others t.comes.sent own.stack mine.stack t.outlined.stack heads.entries)
      ∙ ap (λ (i : Option ℤ). record { side = mine.side; level = deferral.awaited_level (frames_of mine); inner = i }) (inner-alike schema theirs.side (is_open theirs.state) theirs.outbox theirs.sent _ others t.comes.sent own.stack mine.stack t.outlined.stack heads.entries))

  free-read : (x : Item) → take.first_free mine ≡ Some x → lines.some_is_free schema others (lines.deferral_of schema side own others) own.arrived ≡ true
  free-read x e =
      ap (λ (d : lines.DeferralState). lines.some_is_free schema others d own.arrived) deferral-is
      ∙ (ap (lines.some_is_free schema others (record { side = mine.side; level = deferral.awaited_level (frames_of mine); inner = deferral.inner_transaction (frames_of mine) })) arrived
      ∙ some-free schema mine.side theirs.side (is_open theirs.state) theirs.outbox theirs.sent _ others t.comes.sent (record { side = mine.side; level = deferral.awaited_level (frames_of mine); inner = deferral.inner_transaction (frames_of mine) }) clear mine.arrived x heads.arrived noted e)

  take-read : (x : Item) → take.taken_next mine ≡ Some x → lines.can_take schema side own others ≡ true
  take-read x e = by (take.takes_in_state mine.state) refl (take.takes_under (top_of (frames_of mine))) e
    where
      by : (a : Bool) → take.takes_in_state mine.state ≡ a → (b : Bool) → (if a && b then take.first_free mine else None) ≡ Some x → lines.can_take schema side own others ≡ true
      by true s true e = ap (λ (b : Bool). b && lines.some_is_free schema others (lines.deferral_of schema side own others) own.arrived) (ap lines.takes_items t.outlined.state ∙ takes-read mine.state s) ∙ free-read x e
      by true s false e = cc
      by false s b e = cc

  none-taken : StillEnd schema side own others → take.taken_next mine ≡ None
  none-taken still = by (take.taken_next mine) refl
    where
      by : (o : Option Item) → take.taken_next mine ≡ o → take.taken_next mine ≡ None
      by None e = e
      by (Some x) e = let k : true ≡ false = sym (take-read x e) ∙ still.takes in cc

  ends-in-none : {A : Type 0} (link : List Packet) → link ≡ [] → EndsInLastPacket link → A
  ends-in-none [] e l = elim l [ ]
  ends-in-none (p ∷ rest) e l = cc

  outbox-none : (their_side : Side) → StillEnd schema side own others → StillEnd schema their_side others own → (is_open theirs.state ≡ false → EndsInLastPacket to_me) → is_open mine.state ≡ true → mine.outbox ≡ []
  outbox-none their_side still rests told o = by (is_open theirs.state) refl
    where
      by : (b : Bool) → is_open theirs.state ≡ b → mine.outbox ≡ []
      by true p = (none-comes schema theirs mine own others to_them t.their_outlined.state rests.delivers t.goes p).1
      by false p = ends-in-none to_me (none-comes schema mine theirs others own to_me t.outlined.state still.delivers t.comes o).0 (told p)

  -- Only acts are possible at the end.
  pub record NothingPossible : Type 0 where
    pub delivers : is_some (step schema mine to_me event.deliver) ≡ false
    pub takes : is_some (step schema mine to_me event.take) ≡ false
    pub returns : is_some (step schema mine to_me (event.return None)) ≡ false
    pub resumes : is_some (step schema mine to_me event.resume) ≡ false
    pub flushes : is_some (step schema mine to_me event.flush) ≡ false

  pub nothing-possible : (their_side : Side) → StillEnd schema side own others → StillEnd schema their_side others own → (is_open mine.state ≡ true → is_open theirs.state ≡ false → EndsInLastPacket to_me) → NothingPossible
  nothing-possible their_side still rests told =
      let under : take.takes_under (top_of (frames_of mine)) ≡ true = sym (takes-alike own.stack mine.stack t.outlined.stack) ∙ still.rests in
      record {
        delivers = deliver-none schema mine to_me (is_open mine.state) refl (λ o. (none-comes schema mine theirs others own to_me t.outlined.state still.delivers t.comes o).0);
        takes = take-none schema mine to_me (none-taken still);
        returns = return-none schema mine to_me (no-dispatch mine.stack under);
        resumes = resume-none schema mine to_me (no-answer mine.stack under);
        flushes = flush-none schema mine to_me (is_open mine.state) refl (λ o. outbox-none their_side still rests (told o) o);
      }
