-- At every moment of a run two waits do not block each other, and no call waits after the other end's last packet.
use Rattle.std.proofs.Common.{◌≡◌, ℕ, ℤ, Bool, true, false, ◌&&◌, ◌||◌, List, [], ◌∷◌, cond, find, map, Option, Some, None, option_map, refl, sym, ap, subst, ◌∙◌}
use Rattle.std.specs.List.{AllByRecursion}
use Rattle.ipdl_base.specs.declared.kinds.Level.{Level}
use Rattle.ipdl_base.specs.declared.kinds.Side.{Side}
use Rattle.ipdl_base.specs.declared.kinds.Side.TheVariants.{Parent, Child}
use Rattle.ipdl_base.specs.declared.schema.Schema.{Schema}
use Rattle.ipdl_base.specs.Deferral.{defers_arrival, request}
use Rattle.ipdl_base.specs.Sound.{IsSound}
use Rattle.nesting_core.specs.declared.frame.Head.{Head}
use Rattle.nesting_core.specs.declared.frame.StackFrame.{StackFrame}
use Rattle.nesting_core.specs.declared.frame.StackTop.{StackTop}
use Rattle.nesting_core.specs.declared.frame.StackTop.TheVariants as top
use Rattle.nesting_core.specs.Answers as nesting
use Rattle.nesting_core.specs.Deferral as deferral
use Rattle.nesting_core.specs.Frames.{head_of, is_unanswered}
use Rattle.nesting_core.specs.Top.{top_of}
use Rattle.history_reading.specs.declared.parts.CallFrame.{CallFrame}
use Rattle.history_reading.specs.EndReading as end_reading
use Rattle.history_reading.specs.EndReading.{EndReading, has_unanswered, frame_seq}
use Rattle.history_reading.specs.Reading.{Reading}
use Rattle.history_reading.specs.Still as lines
use Rattle.history_reading.specs.Waits.{blocks, block_each_other, is_end_event, waits_after_end, some_waits_after_end}
use Rattle.ipdl_base.specs.declared.message.Message.{Message}
use Rattle.channel_model.specs.Ends.{End, World, Packet}
use Rattle.channel_model.specs.Outputs.{is_open}
use Rattle.channel_model.specs.Sends.{frames_of}
use Rattle.channel_model.specs.States.{IsAnswered}
use Rattle.channel_laws.specs.Heads.{EntryHead, HasHeads}
use Rattle.channel_laws.specs.NestedWorlds.{IsNestedWorld, EndsAreNested, both_open, mine_open, theirs_open, both_over}
use Rattle.channel_laws.specs.Notes.{Note, told_notes}
use Rattle.channel_laws.specs.Outlines.{placeless, shown_entry}
use Rattle.channel_laws.specs.SentAccounts.{SentAccount}
use Rattle.channel_laws.specs.TwoEnds.{TwoEnds, ReadingIs}
use Rattle.channel_laws.proofs.EndEvents.{EventTells, tells-reached}
use Rattle.channel_laws.proofs.EveryRun.{from-side}
use Rattle.channel_laws.proofs.GivingWay.{waits_give_way}
use Rattle.channel_laws.proofs.HeadsAlike.{unanswered_head, inner-alike, awaited-head, awaited-level}
use Rattle.channel_laws.proofs.HeadParts.{KeepsHeads, heads-reached}
use Rattle.channel_laws.proofs.Runs.{IsReached, AtEnds, AcrossEnds}
use Rattle.channel_laws.proofs.WaitLines.{awaited-alike}

-- No call waits

none-awaited : (hs : List CallFrame) → end_reading.awaited hs ≡ None → has_unanswered hs ≡ false
none-awaited [] e = refl
none-awaited (x ∷ hs) e = by (end_reading.is_unanswered x) e (none-awaited hs)
  where
    by : (b : Bool) → option_map frame_seq (cond b (Some x) (find end_reading.is_unanswered hs)) ≡ None → (end_reading.awaited hs ≡ None → has_unanswered hs ≡ false) → b || has_unanswered hs ≡ false
    by true e rec = cc
    by false e rec = rec e

none-unanswered : (frames : List StackFrame) → AllByRecursion IsAnswered frames → nesting.awaited frames ≡ None
none-unanswered [] h = refl
none-unanswered (f ∷ fs) h = ap (λ (b : Bool). option_map (λ (head : Head). head.seq) (option_map head_of (cond b (Some f) (find is_unanswered fs)))) h.0 ∙ none-unanswered fs h.1

-- an end that awaits nothing waits for nothing by its lines
pub waits-none : (own : EndReading) (e : End) → map placeless own.stack ≡ map shown_entry e.stack → nesting.awaited (frames_of e) ≡ None → has_unanswered own.stack ≡ false
waits-none own e k none = none-awaited own.stack (awaited-alike own.stack e.stack k ∙ none)

-- an end that is not open awaits nothing
pub over-waits : (schema : Schema) (side : Side) (mine theirs : End) (to_me to_them : List Packet) → EndsAreNested schema side mine theirs to_me to_them → is_open mine.state ≡ false → AllByRecursion IsAnswered (frames_of mine)
over-waits schema side mine theirs to_me to_them (both_open a b n) closed = let x : true ≡ false = sym (ap is_open a.state) ∙ closed in cc
over-waits schema side mine theirs to_me to_them (mine_open a gone l n) closed = let x : true ≡ false = sym (ap is_open a.state) ∙ closed in cc
over-waits schema side mine theirs to_me to_them (theirs_open a gone l n) closed = gone.ended.nobody
over-waits schema side mine theirs to_me to_them (both_over a b) closed = a.nobody

following-end : (own : EndReading) (e : End) → map placeless own.stack ≡ map shown_entry e.stack → EventTells e own → (is_open e.state ≡ false → AllByRecursion IsAnswered (frames_of e)) → waits_after_end own ≡ false
following-end own e k tells nobody = by (is_end_event own.event) refl
  where
    by : (b : Bool) → is_end_event own.event ≡ b → b && has_unanswered own.stack ≡ false
    by true is = waits-none own e k (none-unanswered (frames_of e) (nobody (tells is)))
    by false is = refl

-- Two waits

-- deferral at an end, by its lines and by its state
pub deferral-same : (schema : Schema) (side : Side) (their_side : Side) (open_end : Bool) (outbox : List Message) (count : ℕ) (left : List Note) (own others : EndReading) (e : End) (head : Head) → SentAccount schema their_side open_end outbox count others.sent left → map placeless own.stack ≡ map shown_entry e.stack → AllByRecursion (EntryHead schema (told_notes their_side others.sent)) e.stack
    → lines.defers_request_head (lines.deferral_of schema side own others) (Some head) ≡ deferral.defers side (frames_of e) head
deferral-same schema side their_side open_end outbox count left own others e head account k h =
    ap (λ (l : Option Level). defers_arrival side l (lines.inner_transaction schema others own.stack) (request head.sync head.level head.transaction)) (awaited-level schema their_side open_end outbox count left others account own.stack e.stack k h)
    ∙ ap (λ (i : Option ℤ). defers_arrival side (deferral.awaited_level (frames_of e)) i (request head.sync head.level head.transaction)) (inner-alike schema their_side open_end outbox count left others account own.stack e.stack k h)

-- what blocks an end
record Blocks (side : Side) (e theirs : End) : Type 0 where
  head : Head
  on_top : top_of (frames_of theirs) ≡ top.Unanswered head
  deferred : deferral.defers side (frames_of e) head ≡ true

blocks-by : (schema : Schema) (side : Side) (own others : EndReading) (e theirs : End) → ((head : Head) → lines.defers_request_head (lines.deferral_of schema side own others) (Some head) ≡ deferral.defers side (frames_of e) head) → lines.awaited_head schema others.stack ≡ unanswered_head (top_of (frames_of theirs)) → blocks schema side own others ≡ true → Blocks side e theirs
blocks-by schema side own others e theirs same is b = by (top_of (frames_of theirs)) refl (sym (ap (lines.defers_request_head (lines.deferral_of schema side own others)) is) ∙ b)
  where
    by : (t : StackTop) → top_of (frames_of theirs) ≡ t → lines.defers_request_head (lines.deferral_of schema side own others) (unanswered_head t) ≡ true → Blocks side e theirs
    by top.Empty at d = cc
    by (top.Dispatch head) at d = cc
    by (top.Answered head) at d = cc
    by (top.Unanswered head) at d = record { head = head; on_top = at; deferred = sym (same head) ∙ d }

module _ (schema : Schema) (sound : IsSound schema) (w : World) (r : Reading) (reached : IsReached schema w r) (nested : IsNestedWorld schema w) (reads : ReadingIs schema w r) where
  heads : AcrossEnds schema (KeepsHeads schema) w r
  heads = heads-reached schema sound w r reached

  ends : TwoEnds schema w.parent w.child r.parent r.child w.to_parent w.to_child
  ends = reads.ends

  -- the heads at each end, with the lines of the other end, by the side that it keeps
  pub parent-heads : HasHeads schema (told_notes w.child.side r.child.sent) w.parent
  parent-heads = subst (λ (s : Side). HasHeads schema (told_notes s r.child.sent) w.parent) (sym nested.child) heads.0

  pub child-heads : HasHeads schema (told_notes w.parent.side r.parent.sent) w.child
  child-heads = subst (λ (s : Side). HasHeads schema (told_notes s r.parent.sent) w.child) (sym nested.parent) heads.1

  parent-blocks : blocks schema Parent r.parent r.child ≡ true → Blocks Parent w.parent w.child
  parent-blocks b =
      blocks-by schema Parent r.parent r.child w.parent w.child
      (λ head. deferral-same schema Parent w.child.side (is_open w.child.state) w.child.outbox w.child.sent _ r.parent r.child w.parent head ends.comes.sent ends.outlined.stack parent-heads.entries)
      (awaited-head schema w.parent.side (is_open w.parent.state) w.parent.outbox w.parent.sent _ r.parent ends.goes.sent r.child.stack w.child.stack ends.their_outlined.stack child-heads.entries) b

  child-blocks : blocks schema Child r.child r.parent ≡ true → Blocks Child w.child w.parent
  child-blocks b =
      blocks-by schema Child r.child r.parent w.child w.parent
      (λ head. deferral-same schema Child w.parent.side (is_open w.parent.state) w.parent.outbox w.parent.sent _ r.child r.parent w.child head ends.goes.sent ends.their_outlined.stack child-heads.entries)
      (awaited-head schema w.child.side (is_open w.child.state) w.child.outbox w.child.sent _ r.child ends.comes.sent r.parent.stack w.parent.stack ends.outlined.stack parent-heads.entries) b

  give-way : (p c : Head) → top_of (frames_of w.parent) ≡ top.Unanswered p → top_of (frames_of w.child) ≡ top.Unanswered c → deferral.defers Parent (frames_of w.parent) c ≡ true → deferral.defers Child (frames_of w.child) p ≡ true → ⊥
  give-way p c a b x y =
      subst (λ (v : World). top_of (frames_of v.parent) ≡ top.Unanswered p → top_of (frames_of v.child) ≡ top.Unanswered c → deferral.defers Parent (frames_of v.parent) c ≡ true → deferral.defers Child (frames_of v.child) p ≡ true → ⊥) reached.world
      (waits_give_way schema sound reached.top reached.front p c) a b x y

  pub none-block : block_each_other schema r.parent r.child ≡ false
  none-block = by (blocks schema Parent r.parent r.child) refl (blocks schema Child r.child r.parent) refl
    where
      by : (a : Bool) → blocks schema Parent r.parent r.child ≡ a → (b : Bool) → blocks schema Child r.child r.parent ≡ b → a && b ≡ false
      by false x b y = refl
      by true x false y = refl
      by true x true y =
          let p : Blocks Parent w.parent w.child = parent-blocks x in
          let c : Blocks Child w.child w.parent = child-blocks y in
          absurd (give-way c.head p.head c.on_top p.on_top p.deferred c.deferred)

  pub none-after_end : some_waits_after_end r ≡ false
  none-after_end =
      let t : AtEnds schema EventTells w r = tells-reached schema sound w r reached in
      let a : waits_after_end r.parent ≡ false = following-end r.parent w.parent ends.outlined.stack t.0 (λ closed. over-waits schema Parent w.parent w.child w.to_parent w.to_child (from-side schema Parent w nested) closed) in
      let b : waits_after_end r.child ≡ false = following-end r.child w.child ends.their_outlined.stack t.1 (λ closed. over-waits schema Child w.child w.parent w.to_child w.to_parent (from-side schema Child w nested) closed) in
      ap (λ (x : Bool). x || waits_after_end r.child) a ∙ b
