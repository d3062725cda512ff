-- Where the rows are that arrows, bars and waiting items join.
use Rattle.std.proofs.Common.{◌≡◌, ℕ, suc, ◌+◌, ◌<◌, ◌≤◌, ℤ, Bool, true, false, cond, ◌&&◌, List, [], ◌∷◌, Option, Some, None, refl, sym, ap, subst, ◌∙◌, arith, true≢false, slice_get, int_eq, ◌-◌, ◌⊎◌, inl, inr}
use Rattle.std.specs.Bool.{Decides}
use Rattle.std.proofs.lemmas.Bool.Decides.{Decides-int_eq}
use Rattle.std.proofs.lemmas.Option.{same_Some}
use Rattle.ipdl_base.specs.Lines.{same_side}
use Rattle.ipdl_base.specs.declared.kinds.Side.{Side}
use Rattle.ipdl_base.specs.declared.kinds.Side.TheVariants as side
use Rattle.ipdl_base.specs.declared.line.Line.{Line}
use Rattle.ipdl_base.specs.declared.line.What.{What}
use Rattle.ipdl_base.specs.declared.line.What.TheVariants as what
use Rattle.ipdl_base.specs.declared.schema.Schema.{Schema}
use Rattle.charts.specs.Firsts.{Finds, IsFirst}
use Rattle.charts.specs.Joins.{Arrives, Departs, taken, dropped, replaced, Clears, Empties, EndsChannel, closes, dies, hears, HearsFarewell, IsLazySend, ReplyArrives, ReplyDeparts, reply_taken, resumed, failed, Returns}
use Rattle.charts.specs.Rows.{arrival, departure, empties_outbox, ends_channel, handler_return, is_farewell, is_lazy, is_number, lazy_send, leave_from, outbox_row_from, reply_arrival, reply_departure, row_from, side_row_from}
use Rattle.charts.proofs.Tests.{both_hold, first_of_both, second_of_both}

-- The first row of a test

-- the first row from which a test holds
abbrev first_from : ℕ → (Line → Bool) → List Line → Option ℕ
first_from row test [] = None
first_from row test (line ∷ rest) = cond (test line) (Some row) (first_from (row + 1) test rest)

-- these lines are those of a history from a row on
abbrev AreFrom : ℕ → List Line → List Line → Type 0
AreFrom row all lines = (i at : ℕ) → at ≡ row + i → slice_get all at ≡ slice_get lines i

-- so are the lines after the first from the next row on
are_next : (row : ℕ) (all : List Line) (line : Line) (rest : List Line) → AreFrom row all (line ∷ rest) → AreFrom (row + 1) all rest
are_next row all line rest are i at e = are (suc i) at (omega (arith, e))

-- the first of these lines
first_of : (row : ℕ) (all : List Line) (line : Line) (rest : List Line) → AreFrom row all (line ∷ rest) → slice_get all row ≡ Some line
first_of row all line rest are = are 0 row (omega arith)

-- Of a row at which this does not hold, the first line from the next row on is the first from this row on.
module _ (Holds : Line → Type 0) (all : List Line) (row : ℕ) (line : Line) (is : slice_get all row ≡ Some line) (not_here : ¬ Holds line) where
  earlier : (at : ℕ) (other : Line) → row ≤ at → slice_get all at ≡ Some other → (row + 1 ≤ at → ¬ Holds other) → ¬ Holds other
  earlier at other low found later holds = by (split row at low)
    where
      split : (a b : ℕ) → a ≤ b → (a ≡ b) ⊎ (a + 1 ≤ b)
      split a b l = grind arith

      by : (row ≡ at) ⊎ (row + 1 ≤ at) → ⊥
      by (inl e) = not_here (subst Holds (same_Some other line (sym found ∙ ap (slice_get all) (sym e) ∙ is)) holds)
      by (inr l) = later l holds

  finds_before : (found : Option ℕ) → Finds Holds all (row + 1) found → Finds Holds all row found
  finds_before None none = λ at other low e. earlier at other low e (λ l. none at other l e)
  finds_before (Some at) f = record {
    line = f.line;
    found = f.found;
    holds = f.holds;
    after = omega (arith, f.after);
    first = λ before other low less e. earlier before other low e (λ l. f.first before other l less e);
  }

-- Of a row at which this holds, the line is the first.
finds_here : (Holds : Line → Type 0) (all : List Line) (row : ℕ) (line : Line) → slice_get all row ≡ Some line → Holds line → Finds Holds all row (Some row)
finds_here Holds all row line is holds = record { line = line; found = is; holds = holds; after = omega arith; first = λ before other low less e h. absurd (omega (arith, low, less)) }

-- nothing is found where no lines are left
finds_none : (Holds : Line → Type 0) (all : List Line) (row : ℕ) → AreFrom row all [] → Finds Holds all row None
finds_none Holds all row are = λ at line low found holds. let none : None ≡ Some line = sym (are (at - row) at (omega (arith, low))) ∙ found in cc

-- the first row that passes a test is that of the first line of which the test tells
finds_first : (Holds : Line → Type 0) (test : Line → Bool) (tells : (line : Line) → Decides (test line) (Holds line)) (all : List Line) (row : ℕ) (lines : List Line) → AreFrom row all lines → Finds Holds all row (first_from row test lines)
finds_first Holds test tells all row [] are = finds_none Holds all row are
finds_first Holds test tells all row (line ∷ rest) are =
    by (test line) refl (finds_first Holds test tells all (row + 1) rest (are_next row all line rest are))
  where
    by : (holds : Bool) → test line ≡ holds → Finds Holds all (row + 1) (first_from (row + 1) test rest) → Finds Holds all row (cond holds (Some row) (first_from (row + 1) test rest))
    by true e later = finds_here Holds all row line (first_of row all line rest are) ((tells line).0 e)
    by false e later = finds_before Holds all row line (first_of row all line rest are) (λ h. true≢false (sym ((tells line).1 h) ∙ e)) (first_from (row + 1) test rest) later

-- lines are their own from row 0 on
are_all : (lines : List Line) → AreFrom 0 lines lines
are_all lines i at e = ap (slice_get lines) (e ∙ omega arith)

-- Numbers

row_is_first : (row : ℕ) (number : What → Option ℤ) (lines : List Line) (n : ℤ) → row_from row number lines n ≡ first_from row (λ line. is_number n (number line.what)) lines
row_is_first row number [] n = refl
row_is_first row number (line ∷ rest) n = ap (cond (is_number n (number line.what)) (Some row)) (row_is_first (row + 1) number rest n)

-- the row that is found for a number is that of the first line that gives the number
pub finds_number : (Holds : Line → Type 0) (number : What → Option ℤ) (n : ℤ) → ((line : Line) → Decides (is_number n (number line.what)) (Holds line)) → (lines : List Line) → Finds Holds lines 0 (row_from 0 number lines n)
finds_number Holds number n tells lines =
    subst (Finds Holds lines 0) (sym (row_is_first 0 number lines n)) (finds_first Holds (λ line. is_number n (number line.what)) tells lines 0 lines (are_all lines))

number_same : (m n : ℤ) → int_eq m n ≡ true → m ≡ n
number_same m n = (Decides-int_eq m n).0

number_is : (n : ℤ) → int_eq n n ≡ true
number_is n = (Decides-int_eq n n).1 refl

-- the request that arrives
told_arrival : (n : ℤ) (w : What) → is_number n (arrival w) ≡ true → w ≡ what.DeliverRequest n
told_arrival n (what.DeliverRequest m) e = ap what.DeliverRequest (number_same m n e)
told_arrival n _ e = absurd (true≢false (sym e))

pub tells_arrival : (n : ℤ) (line : Line) → Decides (is_number n (arrival line.what)) (Arrives n line)
tells_arrival n line = (told_arrival n line.what, λ e. ap (λ (w : What). is_number n (arrival w)) e ∙ number_is n)

-- the reply that arrives
told_reply : (n : ℤ) (w : What) → is_number n (reply_arrival w) ≡ true → w ≡ what.DeliverReply n
told_reply n (what.DeliverReply m) e = ap what.DeliverReply (number_same m n e)
told_reply n _ e = absurd (true≢false (sym e))

pub tells_reply : (n : ℤ) (line : Line) → Decides (is_number n (reply_arrival line.what)) (ReplyArrives n line)
tells_reply n line = (told_reply n line.what, λ e. ap (λ (w : What). is_number n (reply_arrival w)) e ∙ number_is n)

-- the handler that returns
told_return : (n : ℤ) (w : What) → is_number n (handler_return w) ≡ true → w ≡ what.Return n
told_return n (what.Return m) e = ap what.Return (number_same m n e)
told_return n _ e = absurd (true≢false (sym e))

pub tells_return : (n : ℤ) (line : Line) → Decides (is_number n (handler_return line.what)) (Returns n line)
tells_return n line = (told_return n line.what, λ e. ap (λ (w : What). is_number n (handler_return w)) e ∙ number_is n)

-- the request that no longer waits
told_departure : (n : ℤ) (line : Line) (w : What) → line.what ≡ w → is_number n (departure w) ≡ true → Departs n line
told_departure n line (what.Take m route message values) is e = taken route message values (is ∙ ap (λ (k : ℤ). what.Take k route message values) (number_same m n e))
told_departure n line (what.Drop m route message id) is e = dropped route message id (is ∙ ap (λ (k : ℤ). what.Drop k route message id) (number_same m n e))
told_departure n line (what.Replaced m) is e = replaced (is ∙ ap what.Replaced (number_same m n e))
told_departure n line _ is e = absurd (true≢false (sym e))

departed : (n : ℤ) (line : Line) → Departs n line → is_number n (departure line.what) ≡ true
departed n line (taken route message values e) = ap (λ (w : What). is_number n (departure w)) e ∙ number_is n
departed n line (dropped route message id e) = ap (λ (w : What). is_number n (departure w)) e ∙ number_is n
departed n line (replaced e) = ap (λ (w : What). is_number n (departure w)) e ∙ number_is n

pub tells_departure : (n : ℤ) (line : Line) → Decides (is_number n (departure line.what)) (Departs n line)
tells_departure n line = (told_departure n line line.what refl, departed n line)

-- the reply that no longer waits
told_reply_departure : (n : ℤ) (line : Line) (w : What) → line.what ≡ w → is_number n (reply_departure w) ≡ true → ReplyDeparts n line
told_reply_departure n line (what.TakeReply m) is e = reply_taken (is ∙ ap what.TakeReply (number_same m n e))
told_reply_departure n line (what.ResumeOk m values) is e = resumed values (is ∙ ap (λ (k : ℤ). what.ResumeOk k values) (number_same m n e))
told_reply_departure n line (what.ResumeFault m reason) is e = failed reason (is ∙ ap (λ (k : ℤ). what.ResumeFault k reason) (number_same m n e))
told_reply_departure n line _ is e = absurd (true≢false (sym e))

reply_departed : (n : ℤ) (line : Line) → ReplyDeparts n line → is_number n (reply_departure line.what) ≡ true
reply_departed n line (reply_taken e) = ap (λ (w : What). is_number n (reply_departure w)) e ∙ number_is n
reply_departed n line (resumed values e) = ap (λ (w : What). is_number n (reply_departure w)) e ∙ number_is n
reply_departed n line (failed reason e) = ap (λ (w : What). is_number n (reply_departure w)) e ∙ number_is n

pub tells_reply_departure : (n : ℤ) (line : Line) → Decides (is_number n (reply_departure line.what)) (ReplyDeparts n line)
tells_reply_departure n line = (told_reply_departure n line line.what refl, reply_departed n line)

-- Lazy sends

side_told : (a b : Side) → same_side a b ≡ true → a ≡ b
side_told side.Parent side.Parent e = refl
side_told side.Child side.Child e = refl
side_told side.Parent side.Child e = absurd (true≢false (sym e))
side_told side.Child side.Parent e = absurd (true≢false (sym e))

side_is : (a : Side) → same_side a a ≡ true
side_is side.Parent = refl
side_is side.Child = refl

-- the outbox of a side empties
tells_empty : (schema : Schema) (side : Side) (line : Line) → Decides (same_side line.side side && empties_outbox schema line.what) (Empties schema side line)
tells_empty schema side line = (
  λ e. record { of_side = side_told line.side side (first_of_both _ _ e); empties = second_of_both (same_side line.side side) _ e },
  λ h. both_hold _ _ (ap (λ (s : Side). same_side s side) h.of_side ∙ side_is side) h.empties,
)

side_row_is_first : (row : ℕ) (side : Side) (test : What → Bool) (lines : List Line) → side_row_from row side test lines ≡ first_from row (λ line. same_side line.side side && test line.what) lines
side_row_is_first row side test [] = refl
side_row_is_first row side test (line ∷ rest) = ap (cond (same_side line.side side && test line.what) (Some row)) (side_row_is_first (row + 1) side test rest)

-- the farewell of the other end
told_farewell : (w : What) → is_farewell w ≡ true → (w ≡ what.DeliverGoodbye) ⊎ (w ≡ what.DeliverBroken)
told_farewell what.DeliverGoodbye e = inl refl
told_farewell what.DeliverBroken e = inr refl
told_farewell _ e = absurd (true≢false (sym e))

farewell_is : (w : What) → (w ≡ what.DeliverGoodbye) ⊎ (w ≡ what.DeliverBroken) → is_farewell w ≡ true
farewell_is w (inl e) = ap is_farewell e
farewell_is w (inr e) = ap is_farewell e

tells_farewell : (side : Side) (line : Line) → Decides (same_side line.side side && is_farewell line.what) (HearsFarewell side line)
tells_farewell side line = (
  λ e. record { of_side = side_told line.side side (first_of_both _ _ e); farewell = told_farewell line.what (second_of_both (same_side line.side side) _ e) },
  λ h. both_hold _ _ (ap (λ (s : Side). same_side s side) h.of_side ∙ side_is side) (farewell_is line.what h.farewell),
)

-- what is found of a farewell
pub finds_farewell : (side : Side) (lines : List Line) → Finds (HearsFarewell side) lines 0 (side_row_from 0 side is_farewell lines)
finds_farewell side lines =
    subst (Finds (HearsFarewell side) lines 0) (sym (side_row_is_first 0 side is_farewell lines))
    (finds_first (HearsFarewell side) (λ line. same_side line.side side && is_farewell line.what) (tells_farewell side) lines 0 lines (are_all lines))

-- the end of the channel at a side
told_end : (side : Side) (line : Line) (w : What) → line.side ≡ side → line.what ≡ w → ends_channel w ≡ true → EndsChannel side line
told_end side line what.Close of_side is e = closes of_side is
told_end side line what.Die of_side is e = dies of_side is
told_end side line what.DeliverGoodbye of_side is e = hears (record { of_side = of_side; farewell = inl is })
told_end side line what.DeliverBroken of_side is e = hears (record { of_side = of_side; farewell = inr is })
told_end side line _ of_side is e = absurd (true≢false (sym e))

farewell_ends : (w : What) → (w ≡ what.DeliverGoodbye) ⊎ (w ≡ what.DeliverBroken) → ends_channel w ≡ true
farewell_ends w (inl e) = ap ends_channel e
farewell_ends w (inr e) = ap ends_channel e

ended : (side : Side) (line : Line) → EndsChannel side line → same_side line.side side && ends_channel line.what ≡ true
ended side line (closes of_side is) = both_hold _ _ (ap (λ (s : Side). same_side s side) of_side ∙ side_is side) (ap ends_channel is)
ended side line (dies of_side is) = both_hold _ _ (ap (λ (s : Side). same_side s side) of_side ∙ side_is side) (ap ends_channel is)
ended side line (hears h) = both_hold _ _ (ap (λ (s : Side). same_side s side) h.of_side ∙ side_is side) (farewell_ends line.what h.farewell)

tells_end : (side : Side) (line : Line) → Decides (same_side line.side side && ends_channel line.what) (EndsChannel side line)
tells_end side line = (λ e. told_end side line line.what (side_told line.side side (first_of_both _ _ e)) refl (second_of_both (same_side line.side side) _ e), ended side line)

-- what is found of the end of the channel
pub finds_end : (side : Side) (lines : List Line) → Finds (EndsChannel side) lines 0 (side_row_from 0 side ends_channel lines)
finds_end side lines =
    subst (Finds (EndsChannel side) lines 0) (sym (side_row_is_first 0 side ends_channel lines))
    (finds_first (EndsChannel side) (λ line. same_side line.side side && ends_channel line.what) (tells_end side) lines 0 lines (are_all lines))

-- there is one first row
pub one_first : {Holds : Line → Type 0} {lines : List Line} {from row at : ℕ} → IsFirst Holds lines from row → IsFirst Holds lines from at → row ≡ at
one_first {row = row} {at = at} f g = by (split row at)
  where
    split : (a b : ℕ) → (a ≡ b) ⊎ ((a < b) ⊎ (b < a))
    split a b = grind arith

    by : (row ≡ at) ⊎ ((row < at) ⊎ (at < row)) → row ≡ at
    by (inl e) = e
    by (inr (inl l)) = absurd (g.first row f.line f.after l f.found f.holds)
    by (inr (inr l)) = absurd (f.first at g.line g.after l g.found g.holds)

-- Where what waits in the outbox of a side leaves, from a row on.
pub data Waits (schema : Schema) (side : Side) (all : List Line) (row : ℕ) : Option ℕ → Type 0 where
  leaves : (at : ℕ) (clear : IsFirst (Clears schema side) all row at) → Empties schema side clear.line → Waits schema side all row (Some at)
  drops : (at : ℕ) (clear : IsFirst (Clears schema side) all row at) → HearsFarewell side clear.line → Waits schema side all row None
  stays : Finds (Clears schema side) all row None → Waits schema side all row None

waits_before : (schema : Schema) (side : Side) (all : List Line) (row : ℕ) (line : Line) → slice_get all row ≡ Some line → ¬ Clears schema side line → (found : Option ℕ) → Waits schema side all (row + 1) found
    → Waits schema side all row found
unfolding finds_before
waits_before schema side all row line is not_here _ (leaves at clear e) = leaves at (finds_before (Clears schema side) all row line is not_here (Some at) clear) e
waits_before schema side all row line is not_here _ (drops at clear h) = drops at (finds_before (Clears schema side) all row line is not_here (Some at) clear) h
waits_before schema side all row line is not_here _ (stays none) = stays (finds_before (Clears schema side) all row line is not_here None none)

finds_outbox : (schema : Schema) (side : Side) (all : List Line) (row : ℕ) (lines : List Line) → AreFrom row all lines → Waits schema side all row (outbox_row_from row schema side lines)
unfolding finds_here
finds_outbox schema side all row [] are = stays (finds_none (Clears schema side) all row are)
finds_outbox schema side all row (line ∷ rest) are =
    by (same_side line.side side && is_farewell line.what) (same_side line.side side && empties_outbox schema line.what) refl refl (finds_outbox schema side all (row + 1) rest (are_next row all line rest are))
  where
    neither : (same_side line.side side && is_farewell line.what) ≡ false → (same_side line.side side && empties_outbox schema line.what) ≡ false → ¬ Clears schema side line
    neither e f (inl h) = true≢false (sym ((tells_empty schema side line).1 h) ∙ f)
    neither e f (inr h) = true≢false (sym ((tells_farewell side line).1 h) ∙ e)

    by : (farewell empties : Bool) → (same_side line.side side && is_farewell line.what) ≡ farewell → (same_side line.side side && empties_outbox schema line.what) ≡ empties
        → Waits schema side all (row + 1) (outbox_row_from (row + 1) schema side rest) → Waits schema side all row (cond farewell None (cond empties (Some row) (outbox_row_from (row + 1) schema side rest)))
    by true empties e f later = let h : HearsFarewell side line = (tells_farewell side line).0 e in drops row (finds_here (Clears schema side) all row line (first_of row all line rest are) (inr h)) h
    by false true e f later = let h : Empties schema side line = (tells_empty schema side line).0 f in leaves row (finds_here (Clears schema side) all row line (first_of row all line rest are) (inl h)) h
    by false false e f later = waits_before schema side all row line (first_of row all line rest are) (neither e f) (outbox_row_from (row + 1) schema side rest) later

-- a lazy send
told_lazy : (schema : Schema) (n : ℤ) (line : Line) (w : What) → line.what ≡ w → is_number n (lazy_send schema w) ≡ true → IsLazySend schema n line
told_lazy schema n line (what.Send m route message values) is e = by (is_lazy schema message) refl e
  where
    by : (lazy : Bool) → is_lazy schema message ≡ lazy → is_number n (cond lazy (Some m) None) ≡ true → IsLazySend schema n line
    by true l f = record { route = route; message = message; values = values; sent = is ∙ ap (λ (k : ℤ). what.Send k route message values) (number_same m n f); lazy = l }
    by false l f = absurd (true≢false (sym f))
told_lazy schema n line _ is e = absurd (true≢false (sym e))

tells_lazy : (schema : Schema) (n : ℤ) (line : Line) → Decides (is_number n (lazy_send schema line.what)) (IsLazySend schema n line)
tells_lazy schema n line = (
  told_lazy schema n line line.what refl,
  λ h. ap (λ (w : What). is_number n (lazy_send schema w)) h.sent ∙ ap (λ (b : Bool). is_number n (cond b (Some n) None)) h.lazy ∙ number_is n,
)

-- Where a lazy send leaves: it is the first of its number, from a row on, and leaves where what waits in the outbox of its side leaves.
pub record Leaves (schema : Schema) (n : ℤ) (all : List Line) (row : ℕ) (left : Option ℕ) : Type 0 where
  pub sent : ℕ
  pub send : IsFirst (IsLazySend schema n) all row sent
  pub waits : Waits schema send.line.side all (sent + 1) left

-- so of what is found of a lazy send, if one is found
abbrev pub FindsLeave : Schema → ℤ → List Line → ℕ → Option (Option ℕ) → Type 0
FindsLeave schema n all row None = Finds (IsLazySend schema n) all row None
FindsLeave schema n all row (Some left) = Leaves schema n all row left

leaves_before : (schema : Schema) (n : ℤ) (all : List Line) (row : ℕ) (line : Line) → slice_get all row ≡ Some line → ¬ IsLazySend schema n line → (found : Option (Option ℕ)) → FindsLeave schema n all (row + 1) found
    → FindsLeave schema n all row found
unfolding finds_before
leaves_before schema n all row line is not_here None later = finds_before (IsLazySend schema n) all row line is not_here None later
leaves_before schema n all row line is not_here (Some left) later =
    record { sent = later.sent; send = finds_before (IsLazySend schema n) all row line is not_here (Some later.sent) later.send; waits = later.waits }

leave_from_row : (schema : Schema) (n : ℤ) (all : List Line) (row : ℕ) (lines : List Line) → AreFrom row all lines → FindsLeave schema n all row (leave_from row schema lines n)
unfolding finds_here
leave_from_row schema n all row [] are = finds_none (IsLazySend schema n) all row are
leave_from_row schema n all row (line ∷ rest) are =
    by (is_number n (lazy_send schema line.what)) refl (leave_from_row schema n all (row + 1) rest (are_next row all line rest are))
  where
    by : (holds : Bool) → is_number n (lazy_send schema line.what) ≡ holds → FindsLeave schema n all (row + 1) (leave_from (row + 1) schema rest n)
        → FindsLeave schema n all row (cond holds (Some (outbox_row_from (row + 1) schema line.side rest)) (leave_from (row + 1) schema rest n))
    by true e later = record {
      sent = row;
      send = finds_here (IsLazySend schema n) all row line (first_of row all line rest are) ((tells_lazy schema n line).0 e);
      waits = finds_outbox schema line.side all (row + 1) rest (are_next row all line rest are);
    }
    by false e later = leaves_before schema n all row line (first_of row all line rest are) (λ h. true≢false (sym ((tells_lazy schema n line).1 h) ∙ e)) (leave_from (row + 1) schema rest n) later

-- what is found of a lazy send
pub finds_leave : (schema : Schema) (lines : List Line) (n : ℤ) → FindsLeave schema n lines 0 (leave_from 0 schema lines n)
finds_leave schema lines n = leave_from_row schema n lines 0 lines (are_all lines)
