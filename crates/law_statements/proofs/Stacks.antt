-- The stack of some lines: what one more line of an end does to it.
use Rattle.std.proofs.Common.{◌≡◌, ℕ, suc, ◌+◌, ◌<◌, ℤ, Bool, true, false, not, ◌&&◌, ◌||◌, if◌then◌else◌, List, [], ◌∷◌, ◌++◌, length, Option, Some, None, is_some, option_to_list, refl, sym, ap, ◌∙◌, arith, append_assoc, length-append}
use Rattle.std.specs.List.{cons_option, list_any}
use Rattle.std.proofs.lemmas.Bool.Decides.{Decides-int_eq}
use Rattle.std.proofs.lemmas.List.{append-nil}
use Rattle.ipdl_base.specs.declared.kinds.Side.{Side}
use Rattle.ipdl_base.specs.declared.kinds.Side.TheVariants as side
use Rattle.ipdl_base.specs.declared.line.Line.{Line}
use Rattle.ipdl_base.specs.declared.line.What.{What}
use Rattle.ipdl_base.specs.declared.line.What.TheVariants as what
use Rattle.ipdl_base.specs.Lines.{same_side}
use Rattle.history_reading.specs.declared.parts.CallFrame.{CallFrame}
use Rattle.history_reading.specs.Reading.{below_top}
use Rattle.ipdl_base.specs.Sides.{other}
use Rattle.law_statements.specs.Said.{line_of, said_by}
use Rattle.law_statements.specs.Stack.{begins_frame, begins_wait, ends_frame, ends_wait, frame_at, frame_of, frame_with, is_death, is_unended, stack_from, stays, wait_frame, waits}
use Rattle.law_statements.proofs.Ends.{said-own, said-other}
use Rattle.law_statements.proofs.Lists.{any-add}
use Rattle.law_statements.proofs.Unended.{unended, unended-cons, unended-ends, unended-kept, unended-same}

pub frames-apart : (w : What) → begins_frame w ≡ true → ends_frame w ≡ false
frames-apart (what.Take n route number values) e = refl
frames-apart (what.Call n transaction route number values) e = refl
frames-apart _ e = cc

pub waits-apart : (sync : Bool) (n : ℤ) (w : What) → begins_wait n w ≡ true → ends_wait sync n w ≡ false
waits-apart sync n (what.Call m transaction route number values) e = refl
waits-apart sync n _ e = cc

-- the number of frames and the number of waits of a number that are unended
abbrev pub frames_left : List What → ℕ
frames_left following = unended begins_frame ends_frame following

abbrev pub waits_left : Bool → ℤ → List What → ℕ
waits_left sync n following = unended (begins_wait n) (ends_wait sync n) following

abbrev pub died : List What → Bool
died following = list_any is_death following

-- Frames, followed by one more line of their end

pub stays-same : (bs : List What) (w : What) → is_death w ≡ false → ends_frame w ≡ false → stays (bs ++ w ∷ []) ≡ stays bs
stays-same bs w d e =
    ap (λ (b : Bool). not b && is_unended begins_frame ends_frame (bs ++ w ∷ [])) (any-add is_death bs w ∙ ap (λ (b : Bool). if b then true else died bs) d)
    ∙ ap (λ (b : Bool). not (died bs) && b) (unended-same begins_frame ends_frame frames-apart bs w e)

pub stays-dead : (bs : List What) → died bs ≡ true → stays bs ≡ false
stays-dead bs d = ap (λ (b : Bool). not b && is_unended begins_frame ends_frame bs) d

pub died-more : (bs : List What) (w : What) → is_death w ≡ false → died (bs ++ w ∷ []) ≡ died bs
died-more bs w d = any-add is_death bs w ∙ ap (λ (b : Bool). if b then true else died bs) d

stays-ended : (bs : List What) (w : What) → is_death w ≡ false → begins_frame w ≡ false → ends_frame w ≡ true → frames_left bs ≡ 0 → stays (bs ++ w ∷ []) ≡ false
stays-ended bs w d b e z =
    ap (λ (t : Bool). not (died (bs ++ w ∷ [])) && t) (unended-ends begins_frame ends_frame frames-apart bs w b e z) ∙ and-no (not (died (bs ++ w ∷ [])))
  where
    and-no : (t : Bool) → (t && false) ≡ false
    and-no true = refl
    and-no false = refl

stays-kept : (bs : List What) (w : What) → is_death w ≡ false → begins_frame w ≡ false → ends_frame w ≡ true → 0 < frames_left bs → stays (bs ++ w ∷ []) ≡ stays bs
stays-kept bs w d b e p =
    ap (λ (t : Bool). not t && is_unended begins_frame ends_frame (bs ++ w ∷ [])) (died-more bs w d) ∙ ap (λ (t : Bool). not (died bs) && t) (unended-kept begins_frame ends_frame frames-apart bs w b e p)

-- waits that the line does not end
frame-same : (sync : ℤ → Bool) (bs : List What) (w : What) (k : ℕ) (v : What) → ((n : ℤ) → begins_wait n v ≡ true → waits (sync n) n (bs ++ w ∷ []) ≡ waits (sync n) n bs)
    → frame_of sync (bs ++ w ∷ []) k v ≡ frame_of sync bs k v
frame-same sync bs w k (what.Call n transaction route number values) h =
    ap (λ (b : Bool). Some (wait_frame b (record { seq = n; transaction = transaction; number = number; place = k }))) (h n ((Decides-int_eq n n).1 refl))
frame-same sync bs w k _ h = refl

pub with-same : (sync : ℤ → Bool) (bs : List What) (w : What) (k : ℕ) (v : What) → stays (bs ++ w ∷ []) ≡ stays bs → ((n : ℤ) → begins_wait n v ≡ true → waits (sync n) n (bs ++ w ∷ []) ≡ waits (sync n) n bs)
    → frame_with sync (bs ++ w ∷ []) k v ≡ frame_with sync bs k v
with-same sync bs w k v s h =
    ap (λ (b : Bool). if b then frame_of sync (bs ++ w ∷ []) k v else None) s ∙ ap (λ (f : Option CallFrame). if stays bs then f else None) (frame-same sync bs w k v h)

pub with-none : (sync : ℤ → Bool) (bs : List What) (k : ℕ) (v : What) → stays bs ≡ false → frame_with sync bs k v ≡ None
with-none sync bs k v s = ap (λ (b : Bool). if b then frame_of sync bs k v else None) s

-- A line that ends nothing

Keeps : (ℤ → Bool) → What → Type 0
Keeps sync w = (n : ℤ) → ends_wait (sync n) n w ≡ false

pub at-same : (sync : ℤ → Bool) (end : Side) (k : ℕ) (x : Line) (xs : List Line) (w : What) → frame_with sync (said_by end xs ++ w ∷ []) k x.what ≡ frame_with sync (said_by end xs) k x.what
    → frame_at sync end k x (xs ++ line_of end w ∷ []) ≡ frame_at sync end k x xs
at-same sync end k x xs w e =
    ap (λ (own : List What). if same_side x.side end then frame_with sync own k x.what else None) (said-own end xs w) ∙ ap (λ (f : Option CallFrame). if same_side x.side end then f else None) e

pub stack-keeps : (sync : ℤ → Bool) (end : Side) (k : ℕ) (xs : List Line) (w : What) → is_death w ≡ false → ends_frame w ≡ false → ((n : ℤ) → ends_wait (sync n) n w ≡ false)
    → stack_from sync end k (xs ++ line_of end w ∷ []) ≡ option_to_list (frame_at sync end (k + length xs) (line_of end w) []) ++ stack_from sync end k xs
stack-keeps sync end k [] w d e h = ap (λ (m : ℕ). option_to_list (frame_at sync end m (line_of end w) [])) plus-none ∙ sym (append-nil (option_to_list (frame_at sync end (k + 0) (line_of end w) [])))
  where
    plus-none : k ≡ k + 0
    plus-none = omega arith
stack-keeps sync end k (x ∷ xs) w d e h =
    ap (λ (fs : List CallFrame). fs ++ option_to_list (frame_at sync end k x (xs ++ line_of end w ∷ []))) (stack-keeps sync end (k + 1) xs w d e h)
    ∙ ap (λ (f : Option CallFrame). (option_to_list (frame_at sync end (k + 1 + length xs) (line_of end w) []) ++ stack_from sync end (k + 1) xs) ++ option_to_list f)
    (at-same sync end k x xs w (with-same sync (said_by end xs) w k x.what (stays-same (said_by end xs) w d e) (λ n b. unended-same (begins_wait n) (ends_wait (sync n) n) (waits-apart (sync n) n) (said_by end xs) w (h n))))
    ∙ append_assoc (option_to_list (frame_at sync end (k + 1 + length xs) (line_of end w) [])) (stack_from sync end (k + 1) xs) (option_to_list (frame_at sync end k x xs))
    ∙ ap (λ (m : ℕ). option_to_list (frame_at sync end m (line_of end w) []) ++ (stack_from sync end (k + 1) xs ++ option_to_list (frame_at sync end k x xs))) (place (length xs))
  where
    place : (n : ℕ) → k + 1 + n ≡ k + suc n
    place n = omega arith

-- A line of the other end

pub stack-other : (sync : ℤ → Bool) (s : Side) (k : ℕ) (xs : List Line) (w : What) → stack_from sync (other s) k (xs ++ line_of s w ∷ []) ≡ stack_from sync (other s) k xs
stack-other sync side.Parent k [] w = refl
stack-other sync side.Child k [] w = refl
stack-other sync s k (x ∷ xs) w =
    ap (λ (fs : List CallFrame). fs ++ option_to_list (frame_at sync (other s) k x (xs ++ line_of s w ∷ []))) (stack-other sync s (k + 1) xs w)
    ∙ ap (λ (own : List What). stack_from sync (other s) (k + 1) xs ++ option_to_list (if same_side x.side (other s) then frame_with sync own k x.what else None)) (said-other s xs w)

-- The death of the end

pub if-same : {A : Type 0} (b : Bool) (x : A) → (if b then x else x) ≡ x
if-same true x = refl
if-same false x = refl

pub stack-dies : (sync : ℤ → Bool) (end : Side) (k : ℕ) (xs : List Line) → stack_from sync end k (xs ++ line_of end what.Die ∷ []) ≡ []
stack-dies sync side.Parent k [] = refl
stack-dies sync side.Child k [] = refl
stack-dies sync end k (x ∷ xs) =
    ap (λ (fs : List CallFrame). fs ++ option_to_list (frame_at sync end k x (xs ++ line_of end what.Die ∷ []))) (stack-dies sync end (k + 1) xs)
    ∙ ap option_to_list (ap (λ (own : List What). if same_side x.side end then frame_with sync own k x.what else None) (said-own end xs what.Die)
    ∙ ap (λ (f : Option CallFrame). if same_side x.side end then f else None) (with-none sync (said_by end xs ++ what.Die ∷ []) k x.what (stays-dead (said_by end xs ++ what.Die ∷ []) (any-add is_death (said_by end xs) what.Die)))
    ∙ if-same (same_side x.side end) None)

-- Calls that wait are on the stack: none of them was removed

abbrev pub Stands : (ℤ → Bool) → Side → Line → List What → Type 0
Stands sync end x bs = (n : ℤ) → same_side x.side end ≡ true → begins_wait n x.what ≡ true → died bs ≡ false → waits (sync n) n bs ≡ true → is_unended begins_frame ends_frame bs ≡ true

abbrev pub AllStand : (ℤ → Bool) → Side → List Line → Type 0
AllStand sync end [] = Unit {0}
AllStand sync end (x ∷ xs) = Stands sync end x (said_by end xs) × AllStand sync end xs

-- The number of frames

one-long : {A : Type 0} (o : Option A) → length (option_to_list o) ≡ (if is_some o then 1 else 0)
one-long None = refl
one-long (Some x) = refl

frame-some : (sync : ℤ → Bool) (bs : List What) (k : ℕ) (v : What) → is_some (frame_of sync bs k v) ≡ begins_frame v
frame-some sync bs k (what.Take n route number values) = refl
frame-some sync bs k (what.Call n transaction route number values) = refl
frame-some sync bs k _ = refl

with-some : (sync : ℤ → Bool) (bs : List What) (k : ℕ) (v : What) → died bs ≡ false → is_some (frame_with sync bs k v) ≡ (begins_frame v && is_unended begins_frame ends_frame bs)
with-some sync bs k v d = ap (λ (b : Bool). is_some (if not b && is_unended begins_frame ends_frame bs then frame_of sync bs k v else None)) d ∙ by (is_unended begins_frame ends_frame bs)
  where
    by : (b : Bool) → is_some (if b then frame_of sync bs k v else None) ≡ (begins_frame v && b)
    by true = frame-some sync bs k v ∙ and-true (begins_frame v)
      where
        and-true : (t : Bool) → t ≡ (t && true)
        and-true true = refl
        and-true false = refl
    by false = and-false (begins_frame v)
      where
        and-false : (t : Bool) → false ≡ (t && false)
        and-false true = refl
        and-false false = refl

add-if : (t u : ℕ) (b : Bool) → t ≡ u → t + (if b then 1 else 0) ≡ (if b then u + 1 else u)
add-if t u true e = omega (arith, e)
add-if t u false e = omega (arith, e)

plus-zero : (t u : ℕ) → t ≡ u → t + 0 ≡ u
plus-zero t u e = omega (arith, e)

pub stack-long : (sync : ℤ → Bool) (end : Side) (k : ℕ) (xs : List Line) → died (said_by end xs) ≡ false → length (stack_from sync end k xs) ≡ frames_left (said_by end xs)
stack-long sync end k [] d = refl
stack-long sync end k (x ∷ xs) d = length-append (stack_from sync end (k + 1) xs) (option_to_list (frame_at sync end k x xs)) ∙ by (same_side x.side end) d (λ e. stack-long sync end (k + 1) xs e)
  where
    by : (b : Bool) → died (cons_option (if b then Some x.what else None) (said_by end xs)) ≡ false → (died (said_by end xs) ≡ false → length (stack_from sync end (k + 1) xs) ≡ frames_left (said_by end xs))
        → length (stack_from sync end (k + 1) xs) + length (option_to_list (if b then frame_with sync (said_by end xs) k x.what else None)) ≡ frames_left (cons_option (if b then Some x.what else None) (said_by end xs))
    by false f more = plus-zero (length (stack_from sync end (k + 1) xs)) (frames_left (said_by end xs)) (more f)
    by true f more =
        let alive : died (said_by end xs) ≡ false = or-right (is_death x.what) (died (said_by end xs)) f in
        ap (λ (n : ℕ). length (stack_from sync end (k + 1) xs) + n) (one-long (frame_with sync (said_by end xs) k x.what) ∙ ap (λ (t : Bool). if t then 1 else 0) (with-some sync (said_by end xs) k x.what alive))
        ∙ add-if (length (stack_from sync end (k + 1) xs)) (frames_left (said_by end xs)) (begins_frame x.what && is_unended begins_frame ends_frame (said_by end xs)) (more alive)
        ∙ sym (unended-cons begins_frame ends_frame frames-apart x.what (said_by end xs))
      where
        or-right : (t u : Bool) → (t || u) ≡ false → u ≡ false
        or-right true u e = cc
        or-right false u e = e

-- Where a frame is removed

below-one : (o : Option CallFrame) → below_top (option_to_list o) ≡ []
below-one None = refl
below-one (Some f) = refl

pub stack-pops : (sync : ℤ → Bool) (end : Side) (k : ℕ) (xs : List Line) (w : What) → is_death w ≡ false → begins_frame w ≡ false → ends_frame w ≡ true → ((n : ℤ) → ends_wait (sync n) n w ≡ false)
    → stack_from sync end k (xs ++ line_of end w ∷ []) ≡ below_top (stack_from sync end k xs)
stack-pops sync end k [] w d b e h = ap option_to_list (ap (λ (f : Option CallFrame). if same_side end end then f else None) (nothing w b)) ∙ ap option_to_list (if-same (same_side end end) None)
  where
    nothing : (v : What) → begins_frame v ≡ false → frame_with sync [] k v ≡ None
    nothing (what.Take n route number values) e = cc
    nothing (what.Call n transaction route number values) e = cc
    nothing _ e = refl
stack-pops sync end k (x ∷ xs) w d b e h =
    ap (λ (fs : List CallFrame). fs ++ option_to_list (frame_at sync end k x (xs ++ line_of end w ∷ []))) (stack-pops sync end (k + 1) xs w d b e h)
    ∙ by (stack_from sync end (k + 1) xs) refl (died (said_by end xs)) refl
  where
    dead : died (said_by end xs) ≡ true → (own : List What) → died own ≡ true → frame_with sync own k x.what ≡ None
    dead f own g = with-none sync own k x.what (stays-dead own g)

    none-at : (own : List What) → frame_with sync own k x.what ≡ None → (if same_side x.side end then frame_with sync own k x.what else None) ≡ None
    none-at own g = ap (λ (f : Option CallFrame). if same_side x.side end then f else None) g ∙ if-same (same_side x.side end) None

    now : frame_at sync end k x (xs ++ line_of end w ∷ []) ≡ (if same_side x.side end then frame_with sync (said_by end xs ++ w ∷ []) k x.what else None)
    now = ap (λ (own : List What). if same_side x.side end then frame_with sync own k x.what else None) (said-own end xs w)

    by : (fs : List CallFrame) → stack_from sync end (k + 1) xs ≡ fs → (f : Bool) → died (said_by end xs) ≡ f
        → below_top (stack_from sync end (k + 1) xs) ++ option_to_list (frame_at sync end k x (xs ++ line_of end w ∷ [])) ≡ below_top (stack_from sync end (k + 1) xs ++ option_to_list (frame_at sync end k x xs))
    by fs is true f =
        ap (λ (o : Option CallFrame). below_top (stack_from sync end (k + 1) xs) ++ option_to_list o) (now ∙ none-at (said_by end xs ++ w ∷ []) (dead f (said_by end xs ++ w ∷ []) (died-more (said_by end xs) w d ∙ f)))
        ∙ append-nil (below_top (stack_from sync end (k + 1) xs))
        ∙ ap below_top (sym (append-nil (stack_from sync end (k + 1) xs)) ∙ ap (λ (o : Option CallFrame). stack_from sync end (k + 1) xs ++ option_to_list o) (sym (none-at (said_by end xs) (dead f (said_by end xs) f))))
    by [] is false f =
        let left : frames_left (said_by end xs) ≡ 0 = sym (stack-long sync end (k + 1) xs f) ∙ ap length is in
        ap (λ (fs : List CallFrame). below_top fs ++ option_to_list (frame_at sync end k x (xs ++ line_of end w ∷ []))) is
        ∙ ap option_to_list (now ∙ none-at (said_by end xs ++ w ∷ []) (with-none sync (said_by end xs ++ w ∷ []) k x.what (stays-ended (said_by end xs) w d b e left)))
        ∙ sym (ap (λ (fs : List CallFrame). below_top (fs ++ option_to_list (frame_at sync end k x xs))) is ∙ below-one (frame_at sync end k x xs))
    by (top ∷ below) is false f =
        let left : frames_left (said_by end xs) ≡ length (top ∷ below) = sym (stack-long sync end (k + 1) xs f) ∙ ap length is in
        let same : frame_at sync end k x (xs ++ line_of end w ∷ []) ≡ frame_at sync end k x xs =
        at-same sync end k x xs w (with-same sync (said_by end xs) w k x.what (stays-kept (said_by end xs) w d b e (omega (arith, left)))
        (λ n t. unended-same (begins_wait n) (ends_wait (sync n) n) (waits-apart (sync n) n) (said_by end xs) w (h n))) in
        ap (λ (fs : List CallFrame). below_top fs ++ option_to_list (frame_at sync end k x (xs ++ line_of end w ∷ []))) is
        ∙ ap (λ (o : Option CallFrame). below ++ option_to_list o) same
        ∙ ap (λ (fs : List CallFrame). below_top (fs ++ option_to_list (frame_at sync end k x xs))) (sym is)
