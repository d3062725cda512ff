-- The chain of calls is the list of the calls that wait.
use Rattle.std.proofs.Common.{◌≡◌, ℕ, ◌+◌, ◌<◌, ◌≤◌, ◌==◌, ℤ, Bool, true, false, ◌&&◌, ◌||◌, if◌then◌else◌, List, [], ◌∷◌, ◌++◌, Option, Some, None, option_to_list, refl, sym, ap, ◌∙◌, arith}
use Rattle.std.specs.List.{cons_option, list_any}
use Rattle.std.proofs.lemmas.Bool.{eq-eqb, ne_eqb}
use Rattle.std.proofs.lemmas.List.{append-nil}
use Rattle.std.proofs.lemmas.List.Folds.{list_any-append}
use Rattle.ipdl_base.specs.declared.kinds.Side.{Side}
use Rattle.ipdl_base.specs.declared.line.Line.{Line}
use Rattle.ipdl_base.specs.declared.line.What.{What}
use Rattle.ipdl_base.specs.declared.line.What.TheVariants as what
use Rattle.ipdl_base.specs.declared.schema.Schema.{Schema}
use Rattle.ipdl_base.specs.Lines.{same_side}
use Rattle.history_reading.specs.declared.unanswered_call.UnansweredCall.{UnansweredCall}
use Rattle.history_reading.specs.declared.parts.Call.{Call}
use Rattle.history_reading.specs.declared.parts.CallFrame.{CallFrame}
use Rattle.history_reading.specs.Chain.{chain_of, held_call, held_from, is_wait_from}
use Rattle.history_reading.specs.Holds.{IsReadable}
use Rattle.history_reading.specs.Reading.{Reading, end_reading_of, read}
use Rattle.law_statements.specs.Said.{line_of, said_by}
use Rattle.law_statements.specs.Calls.{is_waiting_call, waiting_call, waiting_calls, waiting_calls_from}
use Rattle.law_statements.specs.Stack.{frame_at, frame_of, frame_with, is_sync_of, stack_from, stays, wait_frame, waits}
use Rattle.law_statements.proofs.Answering.{or-nothing}
use Rattle.law_statements.proofs.StackRead.{side-own, stack-read}

-- Frames are at their places

wait-from : (place : ℕ) (b : Bool) (c : Call) → is_wait_from place (wait_frame b c) ≡ (b && (c.place == place))
wait-from place true c = refl
wait-from place false c = refl

none-and : (b : Bool) → (b && false) ≡ false
none-and true = refl
none-and false = refl

frame-elsewhere : (sync : ℤ → Bool) (bs : List What) (j k : ℕ) (v : What) → (k ≡ j → ⊥) → list_any (is_wait_from j) (option_to_list (frame_of sync bs k v)) ≡ false
frame-elsewhere sync bs j k (what.Call n transaction route number values) apart =
    ap (λ (b : Bool). b || false) (wait-from j (waits (sync n) n bs) (record { seq = n; transaction = transaction; number = number; place = k }) ∙ ap (λ (b : Bool). waits (sync n) n bs && b) (ne_eqb k j apart) ∙ none-and (waits (sync n) n bs))
frame-elsewhere sync bs j k _ apart = refl

if-frame : (j : ℕ) (b : Bool) (o : Option CallFrame) → list_any (is_wait_from j) (option_to_list o) ≡ false → list_any (is_wait_from j) (option_to_list (if b then o else None)) ≡ false
if-frame j true o e = e
if-frame j false o e = refl

at-elsewhere : (sync : ℤ → Bool) (end : Side) (j k : ℕ) (x : Line) (xs : List Line) → (k ≡ j → ⊥) → list_any (is_wait_from j) (option_to_list (frame_at sync end k x xs)) ≡ false
at-elsewhere sync end j k x xs apart =
    if-frame j (same_side x.side end) (frame_with sync (said_by end xs) k x.what) (if-frame j (stays (said_by end xs)) (frame_of sync (said_by end xs) k x.what) (frame-elsewhere sync (said_by end xs) j k x.what apart))

elsewhere : (sync : ℤ → Bool) (end : Side) (j k : ℕ) (x : Line) (xs : List Line) → (k ≡ j → ⊥) → list_any (is_wait_from j) (stack_from sync end k (x ∷ xs)) ≡ list_any (is_wait_from j) (stack_from sync end (k + 1) xs)
elsewhere sync end j k x xs apart =
    list_any-append (is_wait_from j) (stack_from sync end (k + 1) xs) (option_to_list (frame_at sync end k x xs))
    ∙ ap (λ (b : Bool). list_any (is_wait_from j) (stack_from sync end (k + 1) xs) || b) (at-elsewhere sync end j k x xs apart) ∙ or-nothing (list_any (is_wait_from j) (stack_from sync end (k + 1) xs))

not-before : (sync : ℤ → Bool) (end : Side) (j k : ℕ) (xs : List Line) → j < k → list_any (is_wait_from j) (stack_from sync end k xs) ≡ false
not-before sync end j k [] l = refl
not-before sync end j k (x ∷ xs) l = elsewhere sync end j k x xs (λ e. omega (arith, e, l)) ∙ not-before sync end j (k + 1) xs (omega (arith, l))

frame-here : (sync : ℤ → Bool) (bs : List What) (k : ℕ) (v : What) → list_any (is_wait_from k) (option_to_list (frame_with sync bs k v)) ≡ is_waiting_call sync bs v
frame-here sync bs k v = by v (stays bs) refl
  where
    call : (n : ℤ) (b : Bool) (c : Call) → c.place ≡ k → (is_wait_from k (wait_frame b c) || false) ≡ b
    call n b c e = ap (λ (t : Bool). t || false) (wait-from k b c ∙ ap (λ (t : Bool). b && t) (eq-eqb c.place k e)) ∙ same b
      where
        same : (t : Bool) → ((t && true) || false) ≡ t
        same true = refl
        same false = refl

    none : (w : What) → is_waiting_call sync bs w ≡ (stays bs && is_waiting_call sync bs w)
    none (what.Call n transaction route number values) = twice (stays bs) (waits (sync n) n bs)
      where
        twice : (s t : Bool) → (s && t) ≡ (s && (s && t))
        twice true t = refl
        twice false t = refl
    none _ = sym (none-and (stays bs))

    here : (w : What) → stays bs ≡ true → list_any (is_wait_from k) (option_to_list (frame_of sync bs k w)) ≡ is_waiting_call sync bs w
    here (what.Call n transaction route number values) s =
        call n (waits (sync n) n bs) (record { seq = n; transaction = transaction; number = number; place = k }) refl ∙ ap (λ (b : Bool). b && waits (sync n) n bs) (sym s)
    here _ s = refl

    by : (w : What) (b : Bool) → stays bs ≡ b → list_any (is_wait_from k) (option_to_list (if b then frame_of sync bs k w else None)) ≡ is_waiting_call sync bs w
    by w true s = here w s
    by w false s = sym (none w ∙ ap (λ (b : Bool). b && is_waiting_call sync bs w) s)

here-at : (sync : ℤ → Bool) (k : ℕ) (s : Side) (w : What) (xs : List Line) → list_any (is_wait_from k) (stack_from sync s k (line_of s w ∷ xs)) ≡ is_waiting_call sync (said_by s xs) w
here-at sync k s w xs =
    list_any-append (is_wait_from k) (stack_from sync s (k + 1) xs) (option_to_list (frame_at sync s k (line_of s w) xs))
    ∙ ap (λ (b : Bool). b || list_any (is_wait_from k) (option_to_list (frame_at sync s k (line_of s w) xs))) (not-before sync s k (k + 1) xs (omega arith))
    ∙ ap (λ (b : Bool). list_any (is_wait_from k) (option_to_list (if b then frame_with sync (said_by s xs) k w else None))) (side-own s)
    ∙ frame-here sync (said_by s xs) k w

-- The list

held-same : (schema : Schema) (sync : Side → ℤ → Bool) (reading : Reading) (k : ℕ) (xs : List Line)
    → ((end : Side) (j : ℕ) → k ≤ j → list_any (is_wait_from j) (end_reading_of end reading).stack ≡ list_any (is_wait_from j) (stack_from (sync end) end k xs))
    → held_from schema reading k xs ≡ waiting_calls_from schema sync xs
held-same schema sync reading k [] h = refl
held-same schema sync reading k (line ∷ xs) h =
    ap (λ (b : Bool). option_to_list (if b then held_call schema line else None) ++ held_from schema reading (k + 1) xs) (h line.side k (omega arith) ∙ here-at (sync line.side) k line.side line.what xs)
    ∙ ap (λ (hs : List UnansweredCall). option_to_list (waiting_call schema sync line xs) ++ hs) (held-same schema sync reading (k + 1) xs (λ end j l. h end j (omega (arith, l)) ∙ elsewhere (sync end) end j k line xs (λ e. omega (arith, l, e))))
    ∙ one (waiting_call schema sync line xs) (waiting_calls_from schema sync xs)
  where
    one : (o : Option UnansweredCall) (hs : List UnansweredCall) → option_to_list o ++ hs ≡ cons_option o hs
    one None hs = refl
    one (Some x) hs = refl

pub chain-is : (schema : Schema) (lines : List Line) → IsReadable schema lines → chain_of schema lines ≡ waiting_calls schema lines
chain-is schema lines r =
    held-same schema (λ end. is_sync_of schema (said_by end lines)) (read schema lines) 0 lines (λ end j l. ap (list_any (is_wait_from j)) (stack-read schema lines r end lines [] (sym (append-nil lines))))
