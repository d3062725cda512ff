-- What lines show of heads and deferral is what ends have.
use Rattle.std.proofs.Common.{◌≡◌, ℕ, ℤ, Bool, true, false, cond, if◌then◌else◌, List, [], ◌∷◌, find, map, Option, Some, None, option_map, option_and_then, refl, sym, ap, ◌∙◌}
use Rattle.std.specs.List.{AllByRecursion}
use Rattle.std.specs.Option.{option_map_or}
use Rattle.ipdl_base.specs.declared.kinds.Level.{Level}
use Rattle.ipdl_base.specs.declared.kinds.Side.{Side}
use Rattle.ipdl_base.specs.declared.message.Message.{Message}
use Rattle.ipdl_base.specs.declared.schema.Schema.{Schema}
use Rattle.nesting_core.specs.declared.frame.Head.{Head}
use Rattle.nesting_core.specs.declared.frame.StackFrame.{StackFrame}
use Rattle.nesting_core.specs.declared.frame.StackFrame.TheVariants.{Dispatch, Wait}
use Rattle.nesting_core.specs.declared.frame.StackTop.{StackTop}
use Rattle.nesting_core.specs.declared.frame.StackTop.TheVariants as top
use Rattle.nesting_core.specs.Deferral as nesting
use Rattle.nesting_core.specs.Frames.{head_of, is_inside_sync}
use Rattle.nesting_core.specs.Top.{top_of}
use Rattle.history_reading.specs.declared.parts.CallFrame.{CallFrame}
use Rattle.history_reading.specs.declared.parts.CallFrame.TheVariants as frame
use Rattle.history_reading.specs.EndReading.{EndReading, own_request, frame_seq}
use Rattle.history_reading.specs.SentPacket as told
use Rattle.history_reading.specs.Still as lines
use Rattle.channel_model.specs.Ends.{StackEntry}
use Rattle.channel_model.specs.Takes.{takes_under}
use Rattle.channel_laws.specs.Heads.{IsOfRow, IsSentHead, FrameHead, EntryHead}
use Rattle.channel_laws.specs.Notes.{Note, RequestNote, told_notes}
use Rattle.channel_laws.specs.Outlines.{placeless, shown, shown_entry}
use Rattle.channel_laws.specs.SentAccounts.{SentAccount}
use Rattle.channel_laws.proofs.Growing.{own-request}
use Rattle.channel_laws.proofs.Outlines.{cons-head, cons-tail}

abbrev frames_in : List StackEntry → List StackFrame
frames_in es = map (λ (x : StackEntry). x.frame) es

-- the transaction and the message of a frame that waits, as lines show them
abbrev frame_transaction : CallFrame → ℤ → ℤ
frame_transaction (frame.Dispatch d) none = none
frame_transaction (frame.Unanswered c) none = c.transaction
frame_transaction (frame.Answered c) none = c.transaction

abbrev frame_number : CallFrame → ℕ
frame_number (frame.Dispatch d) = d.number
frame_number (frame.Unanswered c) = c.number
frame_number (frame.Answered c) = c.number

-- the head on top of a stack, if it is that of an unanswered wait
abbrev pub unanswered_head : StackTop → Option Head
unanswered_head top.Empty = None
unanswered_head (top.Dispatch head) = None
unanswered_head (top.Unanswered head) = Some head
unanswered_head (top.Answered head) = None

module _ (schema : Schema) (side : Side) (open_end : Bool) (outbox : List Message) (count : ℕ) (left : List Note) (others : EndReading) (account : SentAccount schema side open_end outbox count others.sent left) where
  row-head : (number : ℕ) (head : Head) → IsOfRow schema number head.sync head.level → lines.head_of schema number head.seq head.transaction ≡ Some head
  row-head number head h =
      ap (option_map (lines.head_of_row head.seq head.transaction)) h.found
      ∙ (ap (λ (s : Bool). Some (record { sync = s; level = h.row.level; seq = head.seq; transaction = head.transaction })) (sym h.sync_is)
      ∙ ap (λ (l : Level). Some (record { sync = head.sync; level = l; seq = head.seq; transaction = head.transaction })) (sym h.level_is))

  -- the head of a number, a transaction and a message that are those of a head
  same-head : (number m : ℕ) (seq transaction : ℤ) (head : Head) → m ≡ number → seq ≡ head.seq → transaction ≡ head.transaction → IsOfRow schema number head.sync head.level → lines.head_of schema m seq transaction ≡ Some head
  same-head number m seq transaction head a b c h =
      ap (λ (x : ℕ). lines.head_of schema x seq transaction) a ∙ (ap (λ (x : ℤ). lines.head_of schema number x transaction) b ∙ (ap (λ (x : ℤ). lines.head_of schema number head.seq x) c ∙ row-head number head h))

  -- the head of a request of the other end
  pub request-head : (number : ℕ) (seq : ℤ) (head : Head) → seq ≡ head.seq → IsOfRow schema number head.sync head.level → IsSentHead (told_notes side others.sent) head.seq head.transaction number → lines.request_head schema others seq ≡ Some head
  request-head number seq head is h s =
      let k = own-request schema side open_end outbox count others.sent left s.request account s.sent_it in
      let r : told.Request = k.0 in
      let found : own_request others seq ≡ Some r = ap (own_request others) (is ∙ sym s.seq_is) ∙ k.1.0 in
      ap (option_and_then (λ (x : told.Request). lines.head_of schema x.number seq x.transaction)) found
      ∙ same-head number r.number seq r.transaction head (ap (λ (x : RequestNote). x.number) k.1.1.0 ∙ s.number_is) is (ap (λ (x : RequestNote). x.transaction) k.1.1.0 ∙ s.transaction_is) h

  frame-head : (x : CallFrame) (f : StackFrame) (route : ℤ) (number : ℕ) → placeless x ≡ shown f route number → FrameHead schema (told_notes side others.sent) number f → lines.frame_head schema others x ≡ Some (head_of f)
  frame-head (frame.Dispatch d) (Dispatch head) route number e h = request-head number d.seq head (ap frame_seq e) h.0 h.1
  frame-head (frame.Dispatch d) (Wait head None) route number e h = cc
  frame-head (frame.Dispatch d) (Wait head (Some a)) route number e h = cc
  frame-head (frame.Unanswered c) (Dispatch head) route number e h = cc
  frame-head (frame.Unanswered c) (Wait head None) route number e h = same-head number c.number c.seq c.transaction head (ap frame_number e) (ap frame_seq e) (ap (λ (x : CallFrame). frame_transaction x c.transaction) e) h
  frame-head (frame.Unanswered c) (Wait head (Some a)) route number e h = cc
  frame-head (frame.Answered c) (Dispatch head) route number e h = cc
  frame-head (frame.Answered c) (Wait head None) route number e h = cc
  frame-head (frame.Answered c) (Wait head (Some a)) route number e h = same-head number c.number c.seq c.transaction head (ap frame_number e) (ap frame_seq e) (ap (λ (x : CallFrame). frame_transaction x c.transaction) e) h

  pub inner-alike : (hs : List CallFrame) (es : List StackEntry) → map placeless hs ≡ map shown_entry es → AllByRecursion (EntryHead schema (told_notes side others.sent)) es → lines.inner_transaction schema others hs ≡ nesting.inner_transaction (frames_in es)
  inner-alike [] [] k h = refl
  inner-alike [] (y ∷ es) k h = cc
  inner-alike (x ∷ hs) [] k h = cc
  inner-alike (x ∷ hs) (y ∷ es) k h = ap (λ (o : Option Head). option_map_or Some (option_and_then lines.inner_of_head o) (lines.inner_transaction schema others hs)) (frame-head x y.frame y.route y.number (cons-head k) h.0) ∙ by (is_inside_sync y.frame) (inner-alike hs es (cons-tail k) h.1)
    where
      by : (b : Bool) → lines.inner_transaction schema others hs ≡ nesting.inner_transaction (frames_in es)
          → option_map_or Some (if b then Some (head_of y.frame).transaction else None) (lines.inner_transaction schema others hs) ≡ option_map (λ (head : Head). head.transaction) (option_map head_of (cond b (Some y.frame) (find is_inside_sync (frames_in es))))
      by true rec = refl
      by false rec = rec

  pub awaited-head : (hs : List CallFrame) (es : List StackEntry) → map placeless hs ≡ map shown_entry es → AllByRecursion (EntryHead schema (told_notes side others.sent)) es → lines.awaited_head schema hs ≡ unanswered_head (top_of (frames_in es))
  awaited-head [] [] k h = refl
  awaited-head [] (y ∷ es) k h = cc
  awaited-head (x ∷ hs) [] k h = cc
  awaited-head (x ∷ hs) (y ∷ es) k h = by x y.frame (cons-head k) h.0
    where
      by : (x : CallFrame) (f : StackFrame) → placeless x ≡ shown f y.route y.number → FrameHead schema (told_notes side others.sent) y.number f → lines.awaited_head schema (x ∷ hs) ≡ unanswered_head (top_of (f ∷ frames_in es))
      by (frame.Dispatch d) (Dispatch head) e h = refl
      by (frame.Dispatch d) (Wait head None) e h = cc
      by (frame.Dispatch d) (Wait head (Some a)) e h = cc
      by (frame.Unanswered c) (Dispatch head) e h = cc
      by (frame.Unanswered c) (Wait head None) e h = frame-head (frame.Unanswered c) (Wait head None) y.route y.number e h
      by (frame.Unanswered c) (Wait head (Some a)) e h = cc
      by (frame.Answered c) (Dispatch head) e h = cc
      by (frame.Answered c) (Wait head None) e h = cc
      by (frame.Answered c) (Wait head (Some a)) e h = refl

  level-of : (t : StackTop) → option_map (λ (head : Head). head.level) (unanswered_head t) ≡ nesting.level_under t
  level-of top.Empty = refl
  level-of (top.Dispatch head) = refl
  level-of (top.Unanswered head) = refl
  level-of (top.Answered head) = refl

  pub awaited-level : (hs : List CallFrame) (es : List StackEntry) → map placeless hs ≡ map shown_entry es → AllByRecursion (EntryHead schema (told_notes side others.sent)) es → lines.awaited_level schema hs ≡ nesting.awaited_level (frames_in es)
  awaited-level hs es k h = ap (option_map (λ (head : Head). head.level)) (awaited-head hs es k h) ∙ level-of (top_of (frames_in es))

-- whether something may be taken now
pub takes-alike : (hs : List CallFrame) (es : List StackEntry) → map placeless hs ≡ map shown_entry es → lines.can_take_now hs ≡ takes_under (top_of (frames_in es))
takes-alike [] [] k = refl
takes-alike [] (y ∷ es) k = cc
takes-alike (x ∷ hs) [] k = cc
takes-alike (x ∷ hs) (y ∷ es) k = by x y.frame (cons-head k)
  where
    by : (x : CallFrame) (f : StackFrame) → placeless x ≡ shown f y.route y.number → lines.can_take_now (x ∷ hs) ≡ takes_under (top_of (f ∷ frames_in es))
    by (frame.Dispatch d) (Dispatch head) e = refl
    by (frame.Dispatch d) (Wait head None) e = cc
    by (frame.Dispatch d) (Wait head (Some a)) e = cc
    by (frame.Unanswered c) (Dispatch head) e = cc
    by (frame.Unanswered c) (Wait head None) e = refl
    by (frame.Unanswered c) (Wait head (Some a)) e = cc
    by (frame.Answered c) (Dispatch head) e = cc
    by (frame.Answered c) (Wait head None) e = cc
    by (frame.Answered c) (Wait head (Some a)) e = refl
