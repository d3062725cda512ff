-- The stack of some lines, where a line answers a wait.
use Rattle.std.proofs.Common.{◌≡◌, ℕ, zero, suc, ◌+◌, ◌<◌, ◌==◌, ℤ, Bool, true, false, not, ◌&&◌, ◌||◌, if◌then◌else◌, List, [], ◌∷◌, ◌++◌, Option, Some, None, option_to_list, refl, sym, ap, subst, ◌∙◌, arith}
use Rattle.std.specs.List.{cons_option, list_any}
use Rattle.std.specs.Ordering.{int_eq}
use Rattle.std.proofs.lemmas.Bool.{eq-eqb, ne_eqb, false≢true}
use Rattle.std.proofs.lemmas.Bool.Decides.{Decides-int_eq}
use Rattle.std.proofs.lemmas.List.{append-nil}
use Rattle.std.proofs.lemmas.List.Folds.{list_any-append}
use Rattle.ipdl_base.specs.declared.kinds.Side.{Side}
use Rattle.ipdl_base.specs.declared.line.Line.{Line}
use Rattle.ipdl_base.specs.declared.line.What.{What}
use Rattle.ipdl_base.specs.declared.line.What.TheVariants as what
use Rattle.ipdl_base.specs.Lines.{same_side}
use Rattle.history_reading.specs.declared.parts.Call.{Call}
use Rattle.history_reading.specs.declared.parts.CallFrame.{CallFrame}
use Rattle.history_reading.specs.declared.parts.CallFrame.TheVariants as frame
use Rattle.history_reading.specs.EndReading.{is_wait_for}
use Rattle.history_reading.specs.Reading.{answered, answered_frame}
use Rattle.law_statements.specs.Said.{line_of, said_by}
use Rattle.law_statements.specs.Stack.{begins_frame, begins_wait, ends_frame, ends_wait, frame_at, frame_of, frame_with, is_death, is_unended, stack_from, stays, wait_frame, waits}
use Rattle.law_statements.proofs.Ends.{said-own}
use Rattle.law_statements.proofs.Stacks.{AllStand, Stands, died, died-more, if-same, stays-dead, stays-same, waits-apart, waits_left, with-none, with-same, at-same}
use Rattle.law_statements.proofs.Unended.{unended-cons, unended-ends, unended-kept, unended-same}

pub int-flip : (m n : ℤ) → int_eq m n ≡ int_eq n m
int-flip m n = by (int_eq n m) refl
  where
    by : (b : Bool) → int_eq n m ≡ b → int_eq m n ≡ int_eq n m
    by true is = (Decides-int_eq m n).1 (sym ((Decides-int_eq n m).0 is)) ∙ sym is
    by false is = other (int_eq m n) refl ∙ sym is
      where
        other : (b : Bool) → int_eq m n ≡ b → int_eq m n ≡ false
        other true e = absurd (false≢true (sym is ∙ (Decides-int_eq n m).1 (sym ((Decides-int_eq m n).0 e))))
        other false e = e

-- The waits of a number in a stack

is-wait : (n : ℤ) (b : Bool) (c : Call) → is_wait_for n (wait_frame b c) ≡ (b && int_eq c.seq n)
is-wait n true c = refl
is-wait n false c = refl

pub frame-waits : (sync : ℤ → Bool) (n : ℤ) (bs : List What) (k : ℕ) (v : What) → list_any (is_wait_for n) (option_to_list (frame_of sync bs k v)) ≡ (begins_wait n v && waits (sync n) n bs)
frame-waits sync n bs k (what.Call m transaction route number values) =
    ap (λ (b : Bool). b || false) (is-wait n (waits (sync m) m bs) (record { seq = m; transaction = transaction; number = number; place = k })) ∙ by (int_eq m n) refl
  where
    same : (b : Bool) → ((b && true) || false) ≡ b
    same true = refl
    same false = refl

    apart : (b : Bool) → ((b && false) || false) ≡ false
    apart true = refl
    apart false = refl

    by : (t : Bool) → int_eq m n ≡ t → ((waits (sync m) m bs && t) || false) ≡ (t && waits (sync n) n bs)
    by true is = same (waits (sync m) m bs) ∙ ap (λ (x : ℤ). waits (sync x) x bs) ((Decides-int_eq m n).0 is)
    by false is = apart (waits (sync m) m bs)
frame-waits sync n bs k _ = refl

or-count : (c : Bool) (u : ℕ) → (not (u == 0) || c) ≡ not ((if c then u + 1 else u) == 0)
or-count true u = or-true (not (u == 0)) ∙ ap not (sym (ne_eqb (u + 1) 0 (λ e. omega (arith, e))))
  where
    or-true : (b : Bool) → (b || true) ≡ true
    or-true true = refl
    or-true false = refl
or-count false u = or-false (not (u == 0))
  where
    or-false : (b : Bool) → (b || false) ≡ b
    or-false true = refl
    or-false false = refl

with-waits : (sync : ℤ → Bool) (end : Side) (n : ℤ) (x : Line) (bs : List What) (k : ℕ) → same_side x.side end ≡ true → died bs ≡ false → Stands sync end x bs
    → list_any (is_wait_for n) (option_to_list (frame_with sync bs k x.what)) ≡ (begins_wait n x.what && waits (sync n) n bs)
with-waits sync end n x bs k own alive stands =
    ap (λ (t : Bool). list_any (is_wait_for n) (option_to_list (if not t && is_unended begins_frame ends_frame bs then frame_of sync bs k x.what else None))) alive
    ∙ by (is_unended begins_frame ends_frame bs) refl
  where
    none : (c d : Bool) → begins_wait n x.what ≡ c → waits (sync n) n bs ≡ d → is_unended begins_frame ends_frame bs ≡ false → (c && d) ≡ false
    none true true c d is = absurd (false≢true (sym is ∙ stands n own c alive d))
    none true false c d is = refl
    none false d c e is = refl

    by : (t : Bool) → is_unended begins_frame ends_frame bs ≡ t → list_any (is_wait_for n) (option_to_list (if t then frame_of sync bs k x.what else None)) ≡ (begins_wait n x.what && waits (sync n) n bs)
    by true is = frame-waits sync n bs k x.what
    by false is = sym (none (begins_wait n x.what) (waits (sync n) n bs) refl refl is)

or-right : (t u : Bool) → (t || u) ≡ false → u ≡ false
or-right true u e = cc
or-right false u e = e

pub or-nothing : (b : Bool) → (b || false) ≡ b
or-nothing true = refl
or-nothing false = refl

pub waiting-any : (sync : ℤ → Bool) (end : Side) (n : ℤ) (k : ℕ) (xs : List Line) → died (said_by end xs) ≡ false → AllStand sync end xs
    → list_any (is_wait_for n) (stack_from sync end k xs) ≡ not (waits_left (sync n) n (said_by end xs) == 0)
waiting-any sync end n k [] d a = refl
waiting-any sync end n k (x ∷ xs) d a =
    list_any-append (is_wait_for n) (stack_from sync end (k + 1) xs) (option_to_list (frame_at sync end k x xs)) ∙ by (same_side x.side end) refl d (λ e. waiting-any sync end n (k + 1) xs e a.1)
  where
    by : (b : Bool) → same_side x.side end ≡ b → died (cons_option (if b then Some x.what else None) (said_by end xs)) ≡ false
        → (died (said_by end xs) ≡ false → list_any (is_wait_for n) (stack_from sync end (k + 1) xs) ≡ not (waits_left (sync n) n (said_by end xs) == 0))
        → (list_any (is_wait_for n) (stack_from sync end (k + 1) xs) || list_any (is_wait_for n) (option_to_list (if b then frame_with sync (said_by end xs) k x.what else None)))
        ≡ not (waits_left (sync n) n (cons_option (if b then Some x.what else None) (said_by end xs)) == 0)
    by false own f more = or-nothing (list_any (is_wait_for n) (stack_from sync end (k + 1) xs)) ∙ more f
    by true own f more =
        let alive : died (said_by end xs) ≡ false = or-right (died (x.what ∷ [])) (died (said_by end xs)) (sym (list_any-append is_death (x.what ∷ []) (said_by end xs)) ∙ f) in
        ap (λ (b : Bool). b || list_any (is_wait_for n) (option_to_list (frame_with sync (said_by end xs) k x.what))) (more alive)
        ∙ ap (λ (b : Bool). not (waits_left (sync n) n (said_by end xs) == 0) || b) (with-waits sync end n x (said_by end xs) k own alive a.0)
        ∙ or-count (begins_wait n x.what && waits (sync n) n (said_by end xs)) (waits_left (sync n) n (said_by end xs))
        ∙ ap (λ (u : ℕ). not (u == 0)) (sym (unended-cons (begins_wait n) (ends_wait (sync n) n) (waits-apart (sync n) n) x.what (said_by end xs)))

-- The innermost of these waits is answered

pub answered-none : (n : ℤ) (xs : List CallFrame) → list_any (is_wait_for n) xs ≡ false → answered n xs ≡ xs
answered-none n [] e = refl
answered-none n (x ∷ xs) e = by (is_wait_for n x) e (λ f. answered-none n xs f)
  where
    by : (b : Bool) → (b || list_any (is_wait_for n) xs) ≡ false → (list_any (is_wait_for n) xs ≡ false → answered n xs ≡ xs) → (if b then answered_frame x ∷ xs else x ∷ answered n xs) ≡ x ∷ xs
    by true f more = cc
    by false f more = ap (λ (ys : List CallFrame). x ∷ ys) (more f)

answered-append : (n : ℤ) (xs ys : List CallFrame) → answered n (xs ++ ys) ≡ (if list_any (is_wait_for n) xs then answered n xs ++ ys else xs ++ answered n ys)
answered-append n [] ys = refl
answered-append n (x ∷ xs) ys = by (is_wait_for n x) (list_any (is_wait_for n) xs) (answered-append n xs ys)
  where
    by : (b t : Bool) → answered n (xs ++ ys) ≡ (if t then answered n xs ++ ys else xs ++ answered n ys)
        → (if b then answered_frame x ∷ (xs ++ ys) else x ∷ answered n (xs ++ ys)) ≡ (if b || t then (if b then answered_frame x ∷ xs else x ∷ answered n xs) ++ ys else (x ∷ xs) ++ answered n ys)
    by true t e = refl
    by false true e = ap (λ (zs : List CallFrame). x ∷ zs) e
    by false false e = ap (λ (zs : List CallFrame). x ∷ zs) e

answered-one : (n : ℤ) (b : Bool) (c : Call) → int_eq c.seq n ≡ true → answered n (wait_frame b c ∷ []) ≡ wait_frame false c ∷ []
answered-one n true c e = ap (λ (t : Bool). if t then frame.Answered c ∷ [] else frame.Unanswered c ∷ []) e
answered-one n false c e = refl

answered-apart : (n : ℤ) (b : Bool) (c : Call) → int_eq c.seq n ≡ false → answered n (wait_frame b c ∷ []) ≡ wait_frame b c ∷ []
answered-apart n true c e = ap (λ (t : Bool). if t then frame.Answered c ∷ [] else frame.Unanswered c ∷ []) e
answered-apart n false c e = refl

-- a frame whose wait is the last of its number
last-answered : (sync : ℤ → Bool) (n : ℤ) (bs : List What) (w : What) (k : ℕ) (v : What) → begins_wait n w ≡ false → ((m : ℤ) → ends_wait (sync m) m w ≡ int_eq n m) → waits_left (sync n) n bs ≡ 0
    → option_to_list (frame_of sync (bs ++ w ∷ []) k v) ≡ answered n (option_to_list (frame_of sync bs k v))
last-answered sync n bs w k (what.Take m route number values) b h z = refl
last-answered sync n bs w k (what.Call m transaction route number values) b h z = by (int_eq m n) refl
  where
    call : Call
    call = record { seq = m; transaction = transaction; number = number; place = k }

    by : (t : Bool) → int_eq m n ≡ t → wait_frame (waits (sync m) m (bs ++ w ∷ [])) (record { seq = m; transaction = transaction; number = number; place = k }) ∷ []
        ≡ answered n (wait_frame (waits (sync m) m bs) (record { seq = m; transaction = transaction; number = number; place = k }) ∷ [])
    by true is =
        ap (λ (t : Bool). wait_frame t (record { seq = m; transaction = transaction; number = number; place = k }) ∷ [])
        (ap (λ (x : ℤ). waits (sync x) x (bs ++ w ∷ [])) ((Decides-int_eq m n).0 is)
        ∙ unended-ends (begins_wait n) (ends_wait (sync n) n) (waits-apart (sync n) n) bs w b (h n ∙ (Decides-int_eq n n).1 refl) z)
        ∙ sym (answered-one n (waits (sync m) m bs) (record { seq = m; transaction = transaction; number = number; place = k }) is)
    by false is =
        ap (λ (t : Bool). wait_frame t (record { seq = m; transaction = transaction; number = number; place = k }) ∷ [])
        (unended-same (begins_wait m) (ends_wait (sync m) m) (waits-apart (sync m) m) bs w (h m ∙ int-flip n m ∙ is))
        ∙ sym (answered-apart n (waits (sync m) m bs) (record { seq = m; transaction = transaction; number = number; place = k }) is)
last-answered sync n bs w k _ b h z = refl

if-answered : (n : ℤ) (b : Bool) (o p : Option CallFrame) → option_to_list o ≡ answered n (option_to_list p) → option_to_list (if b then o else None) ≡ answered n (option_to_list (if b then p else None))
if-answered n true o p e = e
if-answered n false o p e = refl

pub stack-answers : (sync : ℤ → Bool) (end : Side) (n : ℤ) (k : ℕ) (xs : List Line) (w : What) → is_death w ≡ false → begins_frame w ≡ false → ends_frame w ≡ false
    → ((m : ℤ) → begins_wait m w ≡ false) → ((m : ℤ) → ends_wait (sync m) m w ≡ int_eq n m) → AllStand sync end xs
    → stack_from sync end k (xs ++ line_of end w ∷ []) ≡ answered n (stack_from sync end k xs)
stack-answers sync end n k [] w d b e bw h a = ap option_to_list (ap (λ (f : Option CallFrame). if same_side end end then f else None) (nothing w b) ∙ if-same (same_side end end) None)
  where
    nothing : (v : What) → begins_frame v ≡ false → frame_with sync [] k v ≡ None
    nothing (what.Take m route number values) f = cc
    nothing (what.Call m transaction route number values) f = cc
    nothing _ f = refl
stack-answers sync end n k (x ∷ xs) w d b e bw h a =
    ap (λ (fs : List CallFrame). fs ++ option_to_list (frame_at sync end k x (xs ++ line_of end w ∷ []))) (stack-answers sync end n (k + 1) xs w d b e bw h a.1)
    ∙ by (died (said_by end xs)) refl
  where
    none-at : (own : List What) → died own ≡ true → (if same_side x.side end then frame_with sync own k x.what else None) ≡ None
    none-at own g = ap (λ (f : Option CallFrame). if same_side x.side end then f else None) (with-none sync own k x.what (stays-dead own g)) ∙ if-same (same_side x.side end) None

    now : frame_at sync end k x (xs ++ line_of end w ∷ []) ≡ (if same_side x.side end then frame_with sync (said_by end xs ++ w ∷ []) k x.what else None)
    now = ap (λ (own : List What). if same_side x.side end then frame_with sync own k x.what else None) (said-own end xs w)

    kept : 0 < waits_left (sync n) n (said_by end xs) → (m : ℤ) → begins_wait m x.what ≡ true → waits (sync m) m (said_by end xs ++ w ∷ []) ≡ waits (sync m) m (said_by end xs)
    kept p m t = at (int_eq n m) refl
      where
        at : (s : Bool) → int_eq n m ≡ s → waits (sync m) m (said_by end xs ++ w ∷ []) ≡ waits (sync m) m (said_by end xs)
        at true is = unended-kept (begins_wait m) (ends_wait (sync m) m) (waits-apart (sync m) m) (said_by end xs) w (bw m) (h m ∙ is) (subst (λ (y : ℤ). 0 < waits_left (sync y) y (said_by end xs)) ((Decides-int_eq n m).0 is) p)
        at false is = unended-same (begins_wait m) (ends_wait (sync m) m) (waits-apart (sync m) m) (said_by end xs) w (h m ∙ is)

    some : (u : ℕ) → waits_left (sync n) n (said_by end xs) ≡ u → died (said_by end xs) ≡ false
        → answered n (stack_from sync end (k + 1) xs) ++ option_to_list (frame_at sync end k x (xs ++ line_of end w ∷ [])) ≡ answered n (stack_from sync end (k + 1) xs ++ option_to_list (frame_at sync end k x xs))
    some zero z f =
        let none : list_any (is_wait_for n) (stack_from sync end (k + 1) xs) ≡ false = waiting-any sync end n (k + 1) xs f a.1 ∙ ap not (eq-eqb (waits_left (sync n) n (said_by end xs)) 0 z) in
        ap (λ (fs : List CallFrame). fs ++ option_to_list (frame_at sync end k x (xs ++ line_of end w ∷ []))) (answered-none n (stack_from sync end (k + 1) xs) none)
        ∙ ap (λ (fs : List CallFrame). stack_from sync end (k + 1) xs ++ fs)
        (ap option_to_list now
        ∙ if-answered n (same_side x.side end) (frame_with sync (said_by end xs ++ w ∷ []) k x.what) (frame_with sync (said_by end xs) k x.what)
        (ap (λ (t : Bool). option_to_list (if t then frame_of sync (said_by end xs ++ w ∷ []) k x.what else None)) (stays-same (said_by end xs) w d e)
        ∙ if-answered n (stays (said_by end xs)) (frame_of sync (said_by end xs ++ w ∷ []) k x.what) (frame_of sync (said_by end xs) k x.what) (last-answered sync n (said_by end xs) w k x.what (bw n) h z)))
        ∙ sym (answered-append n (stack_from sync end (k + 1) xs) (option_to_list (frame_at sync end k x xs))
        ∙ ap (λ (t : Bool). if t then answered n (stack_from sync end (k + 1) xs) ++ option_to_list (frame_at sync end k x xs) else stack_from sync end (k + 1) xs ++ answered n (option_to_list (frame_at sync end k x xs))) none)
    some (suc u) z f =
        let there : list_any (is_wait_for n) (stack_from sync end (k + 1) xs) ≡ true =
        waiting-any sync end n (k + 1) xs f a.1 ∙ ap not (ne_eqb (waits_left (sync n) n (said_by end xs)) 0 (λ q. omega (arith, q, z))) in
        ap (λ (o : Option CallFrame). answered n (stack_from sync end (k + 1) xs) ++ option_to_list o)
        (at-same sync end k x xs w (with-same sync (said_by end xs) w k x.what (stays-same (said_by end xs) w d e) (kept (omega (arith, z)))))
        ∙ sym (answered-append n (stack_from sync end (k + 1) xs) (option_to_list (frame_at sync end k x xs))
        ∙ ap (λ (t : Bool). if t then answered n (stack_from sync end (k + 1) xs) ++ option_to_list (frame_at sync end k x xs) else stack_from sync end (k + 1) xs ++ answered n (option_to_list (frame_at sync end k x xs))) there)

    by : (f : Bool) → died (said_by end xs) ≡ f
        → answered n (stack_from sync end (k + 1) xs) ++ option_to_list (frame_at sync end k x (xs ++ line_of end w ∷ [])) ≡ answered n (stack_from sync end (k + 1) xs ++ option_to_list (frame_at sync end k x xs))
    by true f =
        ap (λ (o : Option CallFrame). answered n (stack_from sync end (k + 1) xs) ++ option_to_list o) (now ∙ none-at (said_by end xs ++ w ∷ []) (died-more (said_by end xs) w d ∙ f))
        ∙ append-nil (answered n (stack_from sync end (k + 1) xs))
        ∙ ap (answered n) (sym (append-nil (stack_from sync end (k + 1) xs)) ∙ ap (λ (o : Option CallFrame). stack_from sync end (k + 1) xs ++ option_to_list o) (sym (none-at (said_by end xs) f)))
    by false f = some (waits_left (sync n) n (said_by end xs)) refl f
