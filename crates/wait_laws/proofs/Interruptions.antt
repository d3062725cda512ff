-- What is taken under an unanswered call interrupts it as the schema allows.
use Rattle.std.proofs.Common.{◌≡◌, ◌==◌, ℕ, ℤ, pos, Bool, true, false, ◌&&◌, ◌||◌, cond, nat_lt, List, [], ◌∷◌, map, Option, Some, None, unwrap_or, refl, sym, ap, subst, ◌∙◌}
use Rattle.std.specs.List.{AllByRecursion}
use Rattle.std.proofs.lemmas.Bool.{eqb-true}
use Rattle.ipdl_base.specs.declared.kinds.Direction.{Direction}
use Rattle.ipdl_base.specs.declared.kinds.Direction.TheVariants as direction
use Rattle.ipdl_base.specs.declared.kinds.Level.{Level}
use Rattle.ipdl_base.specs.declared.kinds.Level.TheVariants.{Not, InsideSync, InsideCpow}
use Rattle.ipdl_base.specs.declared.kinds.Semantics.{Semantics}
use Rattle.ipdl_base.specs.declared.kinds.Semantics.TheVariants.{Async, Sync}
use Rattle.ipdl_base.specs.declared.kinds.Side.{Side}
use Rattle.ipdl_base.specs.declared.kinds.Side.TheVariants.{Parent, Child}
use Rattle.ipdl_base.specs.declared.line.Line.{Line}
use Rattle.ipdl_base.specs.declared.line.What.TheVariants as what
use Rattle.ipdl_base.specs.declared.message.Body.{Body}
use Rattle.ipdl_base.specs.declared.message.Body.TheVariants.{Request}
use Rattle.ipdl_base.specs.declared.schema.MessageRow.{MessageRow}
use Rattle.ipdl_base.specs.declared.schema.Schema.{Schema}
use Rattle.ipdl_base.specs.Deferral.{rank, defers_request, defers_arrival}
use Rattle.ipdl_base.specs.Sound.{IsSound, is_sync}
use Rattle.nesting_core.specs.declared.frame.Head.{Head}
use Rattle.nesting_core.specs.declared.frame.StackFrame.{StackFrame}
use Rattle.nesting_core.specs.declared.frame.StackFrame.TheVariants.{Dispatch, Wait}
use Rattle.nesting_core.specs.Deferral.{awaited_level, inner_transaction}
use Rattle.nesting_core.specs.Frames.{head_of}
use Rattle.nesting_core.specs.Top.{top_of}
use Rattle.pending_queue.specs.declared.item.Item.{Item}
use Rattle.pending_queue.specs.declared.item.Item.TheVariants as item
use Rattle.pending_queue.specs.DeferralContext.{arrival_of_body, is_free}
use Rattle.history_reading.specs.declared.parts.CallFrame.{CallFrame}
use Rattle.history_reading.specs.declared.parts.CallFrame.TheVariants as frame
use Rattle.history_reading.specs.Reading.{Reading, read, end_reading_of}
use Rattle.channel_model.specs.Ends.{End, World, StackEntry, end_of, link_to, opening}
use Rattle.ipdl_base.specs.Sides.{other, sends}
use Rattle.channel_model.specs.Numbers.{is_sync_row, request_row}
use Rattle.channel_model.specs.Outputs.{line_at}
use Rattle.channel_model.specs.Runs.{run, history_of}
use Rattle.channel_model.specs.Sends.{frames_of}
use Rattle.channel_model.specs.Takes as take
use Rattle.channel_model.proofs.SendParts.{request-number}
use Rattle.channel_model.proofs.SoundRows.{IsAt, row-at}
use Rattle.channel_model.proofs.StepParts.{steps_are_made_of_parts}
use Rattle.channel_laws.specs.Outlines.{placeless, shown, shown_entry}
use Rattle.channel_laws.specs.TwoEnds.{ReadingIs}
use Rattle.channel_laws.proofs.Readable.{reading-is}
use Rattle.channel_laws.proofs.Rows.{sound_schemas_have_sound_rows}
use Rattle.channel_laws.proofs.Takes.{found-passes}
use Rattle.channel_laws.proofs.Tests.{not-false}
use Rattle.wait_report.specs.Pairs.{may_wait, may_interrupt, IsSendableOne, IsInterruption, IsReport}
use Rattle.wait_laws.specs.Interruptions.{awaits_on_top, OnlyReportedInterrupt, ReportsAreWhole}
use Rattle.wait_laws.specs.SendableWorlds.{IsSentBy, BodyIsSendable, BodyArrives, FrameGoes, EntryIsSendable, IsSendableEnd, IsSendableWorld}
use Rattle.wait_laws.proofs.Moments.{IsMoment, moment-of}
use Rattle.wait_laws.proofs.SendableParts.{taken-item}
use Rattle.wait_laws.proofs.SendableRuns.{sendable_in_every_run}
use Rattle.wait_laws.proofs.TakeLines.{TakesRequest, TakeStep, step-takes}

-- The table

both : (a b : Bool) → a ≡ true → b ≡ true → a && b ≡ true
both a b e f = ap (λ (x : Bool). x && b) e ∙ f

-- the parent sends no message toward itself
toward-parent : {A : Type 0} (d : Direction) → d ≡ direction.Parent → sends Parent d ≡ true → A
toward-parent d e way = let x : true ≡ false = sym way ∙ ap (sends Parent) e in cc

-- what a parent that waits at level inside_sync does not defer
parent-takes : (l : Level) (s : Semantics) (inner : Option ℤ) (t : ℤ) → defers_request Parent InsideSync inner (is_sync s) l t ≡ false → rank l == 2 || (is_sync s && rank l == 1) ≡ true
parent-takes InsideCpow s inner t e = refl
parent-takes Not Async inner t e = cc
parent-takes Not Sync inner t e = cc
parent-takes InsideSync Async inner t e = cc
parent-takes InsideSync Sync inner t e = refl

-- what a child that waits does not defer of what the parent sends
child-takes : (w l : Level) (s : Semantics) (d : Direction) (inner : Option ℤ) (t : ℤ) → (s ≡ Sync → l ≡ Not → d ≡ direction.Parent) → (l ≡ InsideCpow → d ≡ direction.Parent) → sends Parent d ≡ true
    → defers_request Child w inner (is_sync s) l t ≡ false → (nat_lt (rank w) 2 ≡ true) × (is_sync s && rank l == 1 ≡ true)
child-takes w InsideCpow s d inner t plain high way e = toward-parent d (high refl) way
child-takes w Not Async d inner t plain high way e = cc
child-takes w Not Sync d inner t plain high way e = toward-parent d (plain refl refl) way
child-takes w InsideSync Async d inner t plain high way e = cc
child-takes Not InsideSync Sync d inner t plain high way e = (refl, refl)
child-takes InsideSync InsideSync Sync d inner t plain high way e = (refl, refl)
child-takes InsideCpow InsideSync Sync d inner t plain high way e = cc

-- An end of a side waits for a message of one row and does not defer a message of another row, as the table has it.
table : (schema : Schema) → IsSound schema → (side : Side) (wait row : MessageRow) (n k : ℕ) (inner : Option ℤ) (t : ℤ) → request_row schema n ≡ Some wait → request_row schema k ≡ Some row → sends side wait.direction ≡ true → is_sync_row wait ≡ true → sends (other side) row.direction ≡ true
    → defers_request side wait.level inner (is_sync_row row) row.level t ≡ false → (may_wait side wait ≡ true) × (may_interrupt side row ≡ true)
table schema sound Parent wait row n k inner t found is way sync theirs free =
    let level : wait.level ≡ InsideSync = (sound_schemas_have_sound_rows schema sound n wait found).of_parent sync way in
    let here : defers_request Parent InsideSync inner (is_sync_row row) row.level t ≡ false = subst (λ (l : Level). defers_request Parent l inner (is_sync_row row) row.level t ≡ false) level free in (
      both (sends Parent wait.direction) (is_sync wait.semantics) way sync,
      both (sends Child row.direction) (rank row.level == 2 || (is_sync row.semantics && rank row.level == 1)) theirs (parent-takes row.level row.semantics inner t here),
    )
table schema sound Child wait row n k inner t found is way sync theirs free =
    let number = request-number schema k row is in
    let at : IsAt schema k row = row-at schema sound k row number.1 number.0 in
    let takes = child-takes wait.level row.level row.semantics row.direction inner t at.sound.plain_sync at.sound.inside_cpow theirs free in (
      both (sends Child wait.direction) (is_sync wait.semantics && nat_lt (rank wait.level) 2) way (both (is_sync wait.semantics) (nat_lt (rank wait.level) 2) sync takes.0),
      both (sends Parent row.direction) (is_sync row.semantics && rank row.level == 1) theirs takes.1,
    )

-- Waits

-- An unanswered call of a message is on top of an end's stack.
record Awaits (e : End) (number : ℕ) : Type 0 where
  entry : StackEntry
  below : List StackEntry
  head : Head
  stack : e.stack ≡ entry ∷ below
  frame_is : entry.frame ≡ Wait head None
  number_is : entry.number ≡ number

shown-wait : (e : End) (entry : StackEntry) (below : List StackEntry) (number : ℕ) → e.stack ≡ entry ∷ below → awaits_on_top (shown_entry entry ∷ []) number ≡ true → Awaits e number
shown-wait e entry below number is h = by entry.frame refl h
  where
    by : (f : StackFrame) → entry.frame ≡ f → awaits_on_top (shown f entry.route entry.number ∷ []) number ≡ true → Awaits e number
    by (Dispatch head) same h = cc
    by (Wait head None) same h = record { entry = entry; below = below; head = head; stack = is; frame_is = same; number_is = eqb-true entry.number number h }
    by (Wait head (Some a)) same h = cc

top-alone : (x : CallFrame) (xs : List CallFrame) (number : ℕ) → awaits_on_top (x ∷ xs) number ≡ true → awaits_on_top (placeless x ∷ []) number ≡ true
top-alone (frame.Dispatch d) xs number h = cc
top-alone (frame.Unanswered c) xs number h = h
top-alone (frame.Answered c) xs number h = cc

-- what lines show of the top of a stack is true of the end
awaits-read : (e : End) (own : List CallFrame) (number : ℕ) → map placeless own ≡ map shown_entry e.stack → awaits_on_top own number ≡ true → Awaits e number
awaits-read e [] number is h = cc
awaits-read e (x ∷ xs) number is h = by e.stack refl is
  where
    by : (stack : List StackEntry) → e.stack ≡ stack → placeless x ∷ map placeless xs ≡ map shown_entry stack → Awaits e number
    by [] same is = cc
    by (entry ∷ below) same is =
        let first : placeless x ≡ shown_entry entry = cc in
        shown-wait e entry below number same (subst (λ (f : CallFrame). awaits_on_top (f ∷ []) number ≡ true) first (top-alone x xs number h))

read-stack : (schema : Schema) (side : Side) (w : World) (r : Reading) → ReadingIs schema w r → map placeless (end_reading_of side r).stack ≡ map shown_entry (end_of side w).stack
read-stack schema Parent w r h = h.ends.outlined.stack
read-stack schema Child w r h = h.ends.their_outlined.stack

side-sendable : (schema : Schema) (top : ℕ) (side : Side) (w : World) → IsSendableWorld schema top w → IsSendableEnd schema top side (end_of side w)
side-sendable schema top Parent w h = h.parent
side-sendable schema top Child w h = h.child

-- the item that is taken next is not deferred
taken-free : (e : End) (x : Item) → take.taken_next e ≡ Some x → is_free (take.deferral_context_of e) x ≡ true
taken-free e x next = by (take.takes_in_state e.state && take.takes_under (top_of (frames_of e))) next
  where
    by : (b : Bool) → cond b (take.first_free e) None ≡ Some x → is_free (take.deferral_context_of e) x ≡ true
    by true is = found-passes (is_free (take.deferral_context_of e)) e.arrived x is
    by false is = cc

module _ (schema : Schema) (sound : IsSound schema) (top : ℕ) (side : Side) (e : End) (k : IsSendableEnd schema top side e) (waits takes : ℕ) (a : Awaits e waits) (t : TakesRequest e takes) where
  abbrev inner : Option ℤ
  inner = Some (unwrap_or (inner_transaction (frames_of e)) (pos 0))

  level-is : awaited_level (frames_of e) ≡ Some a.head.level
  level-is = ap (λ (es : List StackEntry). awaited_level (map (λ (x : StackEntry). x.frame) es)) a.stack ∙ ap (λ (f : StackFrame). awaited_level (f ∷ map (λ (x : StackEntry). x.frame) a.below)) a.frame_is

  entry : EntryIsSendable schema top side a.entry
  entry = (subst (AllByRecursion (EntryIsSendable schema top side)) a.stack k.entries).0

  arrived : BodyIsSendable schema top (other side) t.m.number (Request t.vs) × BodyArrives schema t.m t.sync t.level (Request t.vs)
  arrived = subst (λ (body : Body). BodyIsSendable schema top (other side) t.m.number body × BodyArrives schema t.m t.sync t.level body) t.body (taken-item schema top side e (item.Message t.m t.sync t.level) k t.next)

  one : IsSentBy schema top (other side) t.m.number
  one = arrived.0

  free : defers_arrival e.side (awaited_level (frames_of e)) inner (arrival_of_body t.sync t.level t.m.transaction t.m.body) ≡ false
  free = not-false (defers_arrival e.side (awaited_level (frames_of e)) inner (arrival_of_body t.sync t.level t.m.transaction t.m.body)) (taken-free e (item.Message t.m t.sync t.level) t.next)

  goes : FrameGoes side entry.row (Wait a.head None)
  goes = subst (FrameGoes side entry.row) a.frame_is entry.goes

  level : a.head.level ≡ entry.row.level
  level = ap (λ (f : StackFrame). (head_of f).level) (sym a.frame_is) ∙ entry.level

  row-is : (t.sync ≡ is_sync_row one.row) × (t.level ≡ one.row.level)
  row-is = arrived.1 one.row (request-number schema t.m.number one.row one.found).1

  free-row : defers_request side entry.row.level inner (is_sync_row one.row) one.row.level t.m.transaction ≡ false
  free-row =
      subst (λ (l : Level). defers_request side entry.row.level inner (is_sync_row one.row) l t.m.transaction ≡ false) row-is.1
      (subst (λ (b : Bool). defers_request side entry.row.level inner b t.level t.m.transaction ≡ false) row-is.0
      (subst (λ (l : Level). defers_request side l inner t.sync t.level t.m.transaction ≡ false) level
      (subst (λ (s : Side). defers_request s a.head.level inner t.sync t.level t.m.transaction ≡ false) k.side_is
      (subst (λ (l : Option Level). defers_arrival e.side l inner (arrival_of_body t.sync t.level t.m.transaction (Request t.vs)) ≡ false) level-is
      (subst (λ (body : Body). defers_arrival e.side (awaited_level (frames_of e)) inner (arrival_of_body t.sync t.level t.m.transaction body) ≡ false) t.body free)))))

  said : (may_wait side entry.row ≡ true) × (may_interrupt side one.row ≡ true)
  said = table schema sound side entry.row one.row a.entry.number t.m.number inner t.m.transaction entry.found one.found goes.0 goes.1 one.way free-row

  interrupts : IsInterruption schema top (record { side = side; waits = waits; takes = takes })
  interrupts = record {
    waits = record { row = entry.row; number_is = (request-number schema a.entry.number entry.row entry.found).0 ∙ a.number_is; sendable = entry.sendable; passes = said.0 };
    takes = record { row = one.row; number_is = (request-number schema t.m.number one.row one.found).0 ∙ t.number_is; sendable = one.sendable; passes = said.1 };
  }

-- Histories

pub only_reported_interrupt : OnlyReportedInterrupt
only_reported_interrupt schema sound top moves pair i =
    let line : Line = line_at pair.side (what.Take i.seq i.route pair.takes i.values) in
    let m : IsMoment schema (opening top) i.before line = moment-of schema moves (opening top) i.before i.following line refl i.whole in
    let w : World = (run schema m.front (opening top)).world in
    let world : IsSendableWorld schema top w = sendable_in_every_run schema top m.front in
    let e : End = end_of m.move.side w in
    let end : IsSendableEnd schema top m.move.side e = side-sendable schema top m.move.side w world in
    let s : TakeStep e line pair.takes = step-takes schema e (link_to m.move.side w) m.move.event m.output line m.rest pair.takes (steps_are_made_of_parts schema e (link_to m.move.side w) m.move.event m.output m.step) m.lines refl in
    let side : pair.side ≡ m.move.side = s.side_is ∙ end.side_is in
    let awaits : awaits_on_top (end_reading_of m.move.side (read schema (history_of schema top m.front))).stack pair.waits ≡ true =
    subst (λ (s : Side). awaits_on_top (end_reading_of s (read schema (history_of schema top m.front))).stack pair.waits ≡ true) side
    (subst (λ (ls : List Line). awaits_on_top (end_reading_of pair.side (read schema ls)).stack pair.waits ≡ true) (sym m.before_is) i.awaits) in
    let a : Awaits e pair.waits = awaits-read e (end_reading_of m.move.side (read schema (history_of schema top m.front))).stack pair.waits (read-stack schema m.move.side w (read schema (history_of schema top m.front)) (reading-is schema sound top m.front)) awaits in
    subst (λ (s : Side). IsInterruption schema top (record { side = s; waits = pair.waits; takes = pair.takes })) (sym side) (interrupts schema sound top m.move.side e end pair.waits pair.takes a s.takes)

pub reports_are_whole : ReportsAreWhole
reports_are_whole schema sound top moves list pair report i = (report.exact pair).1 (only_reported_interrupt schema sound top moves pair i)
