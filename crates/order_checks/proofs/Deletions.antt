-- In a lawful history an actor whose destructor is sent or handled was built, and all below it have fallen where it has.
use Rattle.std.proofs.Common.{◌≡◌, ◌⊎◌, inl, inr, ℕ, ℤ, ◌+◌, Bool, true, false, not, ◌&&◌, ◌||◌, if◌then◌else◌, IsTrue, List, [], ◌∷◌, ◌++◌, Contains, map, Option, Some, None, option_to_list, refl, sym, ap, subst, ◌∙◌, append_assoc, arith}
use Rattle.std.specs.List.{cons_option, list_any}
use Rattle.std.specs.Ordering.{int_eq}
use Rattle.std.proofs.lemmas.Bool.{and_parts, false≢true}
use Rattle.std.proofs.lemmas.Bool.Decides.{Decides-int_eq}
use Rattle.std.proofs.lemmas.List.Elements.{Contains-append_cases, Contains-append_left, Contains-push, Contains-push_cases, filter_map-append}
use Rattle.std.proofs.lemmas.List.Folds.{list_any-append}
use Rattle.ipdl_base.specs.declared.kinds.Destroy.{Destroy}
use Rattle.ipdl_base.specs.declared.kinds.Side.{Side}
use Rattle.ipdl_base.specs.declared.line.Line.{Line}
use Rattle.ipdl_base.specs.declared.line.What.{What}
use Rattle.ipdl_base.specs.declared.line.What.TheVariants as what
use Rattle.ipdl_base.specs.declared.schema.Schema.{Schema}
use Rattle.ipdl_base.specs.declared.value.Values.{Values}
use Rattle.ipdl_base.specs.Lines.{same_side}
use Rattle.history_reading.specs.declared.parts.BuiltActor.{BuiltActor}
use Rattle.history_reading.specs.declared.parts.CallFrame.{CallFrame}
use Rattle.history_reading.specs.declared.parts.CallFrame.TheVariants as frame
use Rattle.history_reading.specs.declared.parts.HandledRequest.{HandledRequest}
use Rattle.history_reading.specs.EndReading.{was_built}
use Rattle.history_reading.specs.Numbers.{has}
use Rattle.history_reading.specs.Settled.{is_fall_of}
use Rattle.law_statements.specs.Actors.{built, fallen, id_fallen, last_actor, lives}
use Rattle.law_statements.specs.Fallen.{Fallen, IsBelow, further, under}
use Rattle.law_statements.specs.Living.{Living}
use Rattle.law_statements.specs.Said.{line_of, said_by}
use Rattle.law_statements.specs.Stack.{frame_at, frame_of, frame_with, is_sync_of, stack, stack_from, stays, wait_frame, waits}
use Rattle.law_statements.proofs.Deciding.{through}
use Rattle.law_statements.proofs.Fields.{built-add}
use Rattle.law_statements.proofs.Lists.{add, any-add, filter-add}
use Rattle.law_statements.proofs.Younger.{built-grows}
use Rattle.order_statements.specs.Effects.{IsDeleted}
use Rattle.order_statements.specs.Shape.{HasEffects}
use Rattle.order_checks.specs.EffectTests.{effects_next, has_fallen}
use Rattle.order_checks.proofs.Next.{next-are, side-is}
use Rattle.order_checks.proofs.Said.{said-after, said-append, said-more}

-- Who has fallen, and who was built

has-more : (xs : List ℤ) (m n : ℤ) → has xs n ≡ true → has (xs ++ m ∷ []) n ≡ true
has-more xs m n e = any-add (λ (k : ℤ). int_eq k n) xs m ∙ by (int_eq m n)
  where
    by : (b : Bool) → (if b then true else has xs n) ≡ true
    by true = refl
    by false = e

fall-has : (id : ℤ) (ws : List What) → has (fallen ws) id ≡ list_any (is_fall_of id) ws
fall-has id [] = refl
fall-has id (w ∷ ws) = one w ∙ ap (λ (b : Bool). is_fall_of id w || b) (fall-has id ws)
  where
    one : (v : What) → has (cons_option (id_fallen v) (fallen ws)) id ≡ (is_fall_of id v || has (fallen ws) id)
    one (what.Fall a why) = refl
    one _ = refl

-- who has fallen after an event and its effects
pub fallen-after : (own : List What) (w : What) (effects : List What) (id : ℤ) → id_fallen w ≡ None → has (fallen ((own ++ w ∷ []) ++ effects)) id ≡ has_fallen (fallen own) id effects
fallen-after own w effects id e =
    ap (λ (xs : List ℤ). has xs id) (filter_map-append id_fallen (own ++ w ∷ []) effects)
    ∙ list_any-append (λ (k : ℤ). int_eq k id) (fallen (own ++ w ∷ [])) (fallen effects)
    ∙ ap (λ (xs : List ℤ). has xs id || has (fallen effects) id) (filter-add id_fallen own w ∙ ap (add (fallen own)) e)
    ∙ ap (λ (b : Bool). has (fallen own) id || b) (fall-has id effects)
    ∙ by (has (fallen own) id) (list_any (is_fall_of id) effects)
  where
    by : (a b : Bool) → (a || b) ≡ (if a then true else b)
    by true b = refl
    by false b = refl

built-more : (own next : List What) (id : ℤ) → was_built (built own) id ≡ true → was_built (built (own ++ next)) id ≡ true
built-more own next id e =
    let grown : (more : List BuiltActor) × (built (own ++ next) ≡ built own ++ more) = built-grows own next in
    ap (λ (xs : List BuiltActor). was_built xs id) grown.1
    ∙ list_any-append (λ (a : BuiltActor). int_eq a.id id) (built own) grown.0
    ∙ ap (λ (b : Bool). b || was_built grown.0 id) e

-- All that an actor manages have fallen where it has

abbrev IsDownward : List What → Type 0
IsDownward own = (a : BuiltActor) → Contains (built own) a → IsTrue (has (fallen own) a.manager) → IsTrue (has (fallen own) a.id)

down-with : (own : List What) (w : What) (actors : List BuiltActor) (ids : List ℤ) → built (own ++ w ∷ []) ≡ actors → fallen (own ++ w ∷ []) ≡ ids
    → ((a : BuiltActor) → Contains actors a → IsTrue (has ids a.manager) → IsTrue (has ids a.id)) → IsDownward (own ++ w ∷ [])
down-with own w actors ids b f h =
    subst (λ (xs : List BuiltActor). (a : BuiltActor) → Contains xs a → IsTrue (has (fallen (own ++ w ∷ [])) a.manager) → IsTrue (has (fallen (own ++ w ∷ [])) a.id)) (sym b)
    (subst (λ (ns : List ℤ). (a : BuiltActor) → Contains actors a → IsTrue (has ns a.manager) → IsTrue (has ns a.id)) (sym f) h)

down-step : (own : List What) (w : What) → IsDownward own → ((id : ℤ) (protocol : ℕ) → w ≡ what.Built id protocol → has (fallen own) (last_actor own) ≡ false)
    → ((id : ℤ) (why : Destroy) → w ≡ what.Fall id why → (a : BuiltActor) → Contains (built own) a → a.manager ≡ id → IsTrue (has (fallen own) a.id)) → IsDownward (own ++ w ∷ [])
down-step own (what.Built id protocol) down builds falls =
    down-with own (what.Built id protocol) (built own ++ record { id = id; manager = last_actor own } ∷ []) (fallen own) (built-add own (what.Built id protocol)) (filter-add id_fallen own (what.Built id protocol)) (λ a c h.
    by a h (Contains-push_cases (built own) (record { id = id; manager = last_actor own }) a c))
  where
    by : (a : BuiltActor) → IsTrue (has (fallen own) a.manager) → Contains (built own) a ⊎ (record { id = id; manager = last_actor own } ≡ a) → IsTrue (has (fallen own) a.id)
    by a h (inl c) = down a c h
    by a h (inr same) = absurd (false≢true (sym (builds id protocol refl) ∙ (ap (λ (x : BuiltActor). has (fallen own) x.manager) same ∙ h)))
down-step own (what.Fall id why) down builds falls =
    down-with own (what.Fall id why) (built own) (fallen own ++ id ∷ []) (built-add own (what.Fall id why)) (filter-add id_fallen own (what.Fall id why)) (λ a c h.
    has-more (fallen own) id a.id (by a c (int_eq id a.manager) refl (sym (any-add (λ (k : ℤ). int_eq k a.manager) (fallen own) id) ∙ h)))
  where
    by : (a : BuiltActor) → Contains (built own) a → (b : Bool) → int_eq id a.manager ≡ b → (if b then true else has (fallen own) a.manager) ≡ true → IsTrue (has (fallen own) a.id)
    by a c true is h = falls id why refl a c (sym ((Decides-int_eq id a.manager).0 is))
    by a c false is h = down a c h
down-step own w down builds falls = down-with own w (built own) (fallen own) (built-add own w) (filter-add id_fallen own w) down

down-along : (schema : Schema) (lines : List Line) → Fallen schema lines → (end : Side) (before following : List Line) → lines ≡ before ++ following → IsDownward (said_by end before)
down-along schema lines law end before following e = through lines (λ (front : List Line). IsDownward (said_by end front)) (λ a c h. cc) more before following e
  where
    more : (front : List Line) (line : Line) (later : List Line) → lines ≡ front ++ line ∷ later → IsDownward (said_by end front) → IsDownward (said_by end (front ++ line ∷ []))
    more front line later is down = subst IsDownward (sym (said-more end front line)) (by (same_side line.side end) refl)
      where
        at : same_side line.side end ≡ true → (w : What) → line.what ≡ w → lines ≡ front ++ line_of end w ∷ later
        at same w said = is ∙ ap (λ (s : Side). front ++ record { side = s; what = line.what } ∷ later) (side-is line.side end same) ∙ ap (λ (v : What). front ++ line_of end v ∷ later) said

        by : (b : Bool) → same_side line.side end ≡ b → IsDownward (if b then said_by end front ++ line.what ∷ [] else said_by end front)
        by true same =
            down-step (said_by end front) line.what down (λ id protocol said. law.builds end id protocol front later (at same (what.Built id protocol) said))
            (λ id why said. (law.falls end id why front later (at same (what.Fall id why) said)).managed)
        by false same = down

-- so all below it have

contained : (actors earlier later : List BuiltActor) (a : BuiltActor) → actors ≡ earlier ++ a ∷ later → Contains actors a
contained actors earlier later a split =
    subst (λ (xs : List BuiltActor). Contains xs a) (sym (split ∙ sym (append_assoc earlier (a ∷ []) later))) (Contains-append_left (earlier ++ a ∷ []) later a (Contains-push earlier a))

below-falls : (ids : List ℤ) (actors : List BuiltActor) (id top : ℤ) → IsBelow actors id top → ((a : BuiltActor) → Contains actors a → IsTrue (has ids a.manager) → IsTrue (has ids a.id)) → IsTrue (has ids top) → IsTrue (has ids id)
below-falls ids _ _ _ (under actors earlier later a id top split same none managed) down h =
    subst (λ (n : ℤ). IsTrue (has ids n)) same (down a (contained actors earlier later a split) (subst (λ (n : ℤ). IsTrue (has ids n)) (sym managed) h))
below-falls ids _ _ _ (further actors earlier later a id top split same none way) down h =
    subst (λ (n : ℤ). IsTrue (has ids n)) same
    (down a (contained actors earlier later a split)
    (below-falls ids earlier a.manager top way (λ x c. down x (subst (λ (xs : List BuiltActor). Contains xs x) (sym split) (Contains-append_left earlier (a ∷ later) x c))) h))

-- What is handled was taken, by an actor that lived then

record TakenAt (end : Side) (lines : List Line) (d : HandledRequest) : Type 0 where
  front : List Line
  values : Values
  rest : List Line
  split : lines ≡ front ++ line_of end (what.Take d.seq d.route d.number values) ∷ rest

one-is : (o : Option CallFrame) (f : CallFrame) → Contains (option_to_list o) f → o ≡ Some f
one-is None f c = absurd (omega (arith, c.1))
one-is (Some g) f c = by (Contains-push_cases [] g f c)
  where
    by : Contains [] f ⊎ (g ≡ f) → Some g ≡ Some f
    by (inl n) = absurd (omega (arith, n.1))
    by (inr same) = ap (λ (x : CallFrame). Some x) same

take-of : (sync : ℤ → Bool) (said : List What) (k : ℕ) (w : What) (d : HandledRequest) → frame_of sync said k w ≡ Some (frame.Dispatch d) → (values : Values) × (w ≡ what.Take d.seq d.route d.number values)
take-of sync said k (what.Take n route number values) d e =
    let same : record { seq = n; route = route; number = number } ≡ d = cc in
    (values, ap (λ (h : HandledRequest). what.Take h.seq h.route h.number values) same)
take-of sync said k (what.Call n transaction route number values) d e = by (waits (sync n) n said) e
  where
    by : (b : Bool) → Some (wait_frame b (record { seq = n; transaction = transaction; number = number; place = k })) ≡ Some (frame.Dispatch d) → (vs : Values) × (what.Call n transaction route number values ≡ what.Take d.seq d.route d.number vs)
    by true f = cc
    by false f = cc
take-of sync said k _ d e = cc

taken-here : (sync : ℤ → Bool) (end : Side) (k : ℕ) (line : Line) (following : List Line) (d : HandledRequest) → frame_at sync end k line following ≡ Some (frame.Dispatch d) → TakenAt end (line ∷ following) d
taken-here sync end k line following d e = by (same_side line.side end) refl e
  where
    at : (b : Bool) → (if b then frame_of sync (said_by end following) k line.what else None) ≡ Some (frame.Dispatch d) → line.side ≡ end → TakenAt end (line ∷ following) d
    at true f same =
        let t : (values : Values) × (line.what ≡ what.Take d.seq d.route d.number values) = take-of sync (said_by end following) k line.what d f in
        record { front = []; values = t.0; rest = following; split = ap (λ (s : Side). record { side = s; what = line.what } ∷ following) same ∙ ap (λ (w : What). line_of end w ∷ following) t.1 }
    at false f same = cc

    by : (b : Bool) → same_side line.side end ≡ b → (if b then frame_with sync (said_by end following) k line.what else None) ≡ Some (frame.Dispatch d) → TakenAt end (line ∷ following) d
    by true own f = at (stays (said_by end following)) f (side-is line.side end own)
    by false own f = cc

taken-at : (sync : ℤ → Bool) (end : Side) (k : ℕ) (lines : List Line) (d : HandledRequest) → Contains (stack_from sync end k lines) (frame.Dispatch d) → TakenAt end lines d
taken-at sync end k [] d c = absurd (omega (arith, c.1))
taken-at sync end k (line ∷ following) d c =
    by (Contains-append_cases (stack_from sync end (k + 1) following) (option_to_list (frame_at sync end k line following)) (frame.Dispatch d) c) (λ h. taken-at sync end (k + 1) following d h)
  where
    by : Contains (stack_from sync end (k + 1) following) (frame.Dispatch d) ⊎ Contains (option_to_list (frame_at sync end k line following)) (frame.Dispatch d) → (Contains (stack_from sync end (k + 1) following) (frame.Dispatch d) → TakenAt end following d)
        → TakenAt end (line ∷ following) d
    by (inl h) rest = let t : TakenAt end following d = rest h in record { front = line ∷ t.front; values = t.values; rest = t.rest; split = ap (λ (ls : List Line). line ∷ ls) t.split }
    by (inr h) rest = taken-here sync end k line following d (one-is (frame_at sync end k line following) (frame.Dispatch d) h)

pub was-there : (own : List What) (id : ℤ) → IsTrue (lives own id) → was_built (built own) id ≡ true
was-there own id e = (and_parts (was_built (built own) id) (not (has (fallen own) id)) e).0

pub handled-built : (schema : Schema) (lines : List Line) → Living schema lines → (end : Side) (d : HandledRequest) (below : List CallFrame) (before following : List Line) → lines ≡ before ++ following → stack schema end before ≡ frame.Dispatch d ∷ below
    → was_built (built (said_by end before)) d.route ≡ true
handled-built schema lines law end d below before following e top =
    let t : TakenAt end before d = taken-at (is_sync_of schema (said_by end before)) end 0 before d (subst (λ (fs : List CallFrame). Contains fs (frame.Dispatch d)) (sym top) (Contains-append_left (frame.Dispatch d ∷ []) below (frame.Dispatch d) (Contains-push [] (frame.Dispatch d)))) in
    let line = line_of end (what.Take d.seq d.route d.number t.values) in
    let place : lines ≡ t.front ++ line ∷ (t.rest ++ following) = e ∙ ap (λ (ls : List Line). ls ++ following) t.split ∙ append_assoc t.front (line ∷ t.rest) following in
    ap (λ (own : List What). was_built (built own) d.route) (ap (said_by end) t.split ∙ said-append end t.front (line ∷ t.rest))
    ∙ built-more (said_by end t.front) (said_by end (line ∷ t.rest)) d.route (was-there (said_by end t.front) d.route (law.takes end d.seq d.route d.number t.values t.front (t.rest ++ following) place).0)

-- Deletions

dead : (own : List What) (id : ℤ) → IsTrue (has (fallen own) id) → lives own id ≡ false
dead own id e = ap (λ (b : Bool). was_built (built own) id && not b) e ∙ by (was_built (built own) id)
  where
    by : (b : Bool) → (b && false) ≡ false
    by true = refl
    by false = refl

pub deleted-to : (schema : Schema) (lines : List Line) → Fallen schema lines → (end : Side) (w : What) (before following : List Line) → lines ≡ before ++ line_of end w ∷ following → id_fallen w ≡ None
    → HasEffects end (effects_next following) following → (id : ℤ) → has_fallen (fallen (said_by end before)) id (effects_next following) ≡ true → IsDeleted end (said_by end before ++ w ∷ []) id following
deleted-to schema lines law end w before following e quiet prints id f = record {
  effects = effects_next following;
  are = prints;
  gone = dead own id gone;
  below = λ x way. dead own x (below-falls (fallen own) (built own) x id way down gone);
}
  where
    own : List What
    own = (said_by end before ++ w ∷ []) ++ effects_next following

    gone : IsTrue (has (fallen own) id)
    gone = fallen-after (said_by end before) w (effects_next following) id quiet ∙ f

    place : lines ≡ (before ++ line_of end w ∷ map (line_of end) (effects_next following)) ++ prints.later
    place = e ∙ ap (λ (ls : List Line). before ++ line_of end w ∷ ls) prints.split ∙ sym (append_assoc before (line_of end w ∷ map (line_of end) (effects_next following)) prints.later)

    down : IsDownward own
    down = subst IsDownward (said-after end w before (effects_next following)) (down-along schema lines law end (before ++ line_of end w ∷ map (line_of end) (effects_next following)) prints.later place)

pub deleted-from : (end : Side) (w : What) (before following : List Line) → id_fallen w ≡ None → (id : ℤ) → was_built (built (said_by end before)) id ≡ true → IsDeleted end (said_by end before ++ w ∷ []) id following
    → has_fallen (fallen (said_by end before)) id (effects_next following) ≡ true
deleted-from end w before following quiet id there d =
    ap (has_fallen (fallen (said_by end before)) id) (next-are end d.effects following d.are)
    ∙ (sym (fallen-after (said_by end before) w d.effects id quiet)
    ∙ by (has (fallen own) id) (sym (ap (λ (b : Bool). b && not (has (fallen own) id)) (built-more (said_by end before ++ w ∷ []) d.effects id (built-more (said_by end before) (w ∷ []) id there))) ∙ d.gone))
  where
    own : List What
    own = (said_by end before ++ w ∷ []) ++ d.effects

    by : (b : Bool) → not b ≡ false → b ≡ true
    by true f = refl
    by false f = cc
