-- The test of the law Fallen decides its statement.
use Rattle.std.proofs.Common.{◌≡◌, ◌⊎◌, inl, inr, ℕ, ℤ, Bool, true, false, not, ◌&&◌, ◌||◌, if◌then◌else◌, IsTrue, List, [], ◌∷◌, ◌++◌, Contains, Any, fold, Option, Some, None, option_map, refl, sym, ap, subst, ◌∙◌, append_assoc}
use Rattle.std.specs.Bool.{Decides}
use Rattle.std.specs.List.{list_all, list_any, slice_index_or}
use Rattle.std.specs.Ordering.{int_eq}
use Rattle.std.proofs.lemmas.Bool.{and_parts, and_from, false≢true, not-true}
use Rattle.std.proofs.lemmas.Bool.Decides.{Decides-int_eq}
use Rattle.std.proofs.lemmas.List.{append-nil, get_or_default}
use Rattle.std.proofs.lemmas.List.Elements.{filter_map-append}
use Rattle.std.proofs.lemmas.List.Folds.{Any-from_list_any, list_any-append, list_any-from_Any}
use Rattle.std.proofs.lemmas.List.Sums.{AllPass-from_list_all, list_all-from_AllPass}
use Rattle.ipdl_base.specs.declared.kinds.Destroy.{Destroy}
use Rattle.ipdl_base.specs.declared.kinds.Destroy.TheVariants as destroy
use Rattle.ipdl_base.specs.declared.kinds.Side.{Side}
use Rattle.ipdl_base.specs.declared.kinds.Side.TheVariants as side
use Rattle.ipdl_base.specs.declared.line.Line.{Line}
use Rattle.ipdl_base.specs.declared.line.What.{What}
use Rattle.ipdl_base.specs.declared.line.What.TheVariants as what
use Rattle.ipdl_base.specs.declared.schema.Schema.{Schema}
use Rattle.ipdl_base.specs.Lines.{is_effect}
use Rattle.history_reading.specs.declared.law.Law.TheVariants as law
use Rattle.history_reading.specs.declared.parts.ActorPlace.{ActorPlace}
use Rattle.history_reading.specs.declared.parts.BuiltActor.{BuiltActor}
use Rattle.history_reading.specs.declared.parts.CallFrame.{CallFrame}
use Rattle.history_reading.specs.declared.parts.CallFrame.TheVariants as frame
use Rattle.history_reading.specs.declared.parts.Cause.{Cause}
use Rattle.history_reading.specs.declared.parts.Cause.TheVariants as cause
use Rattle.history_reading.specs.EndReading.{EndReading, lives, was_built}
use Rattle.history_reading.specs.Fallen.{all_fallen, fallen_line, fallen_moment, falls_now, is_below, is_deleted, is_living_under, is_next, is_younger, lets_fall, may_fall, same_destroy}
use Rattle.history_reading.specs.Holds.{Holds, IsReadable, moment_test}
use Rattle.history_reading.specs.Numbers.{has}
use Rattle.history_reading.specs.Reading.{Reading, actor_place, after, after_at, after_what, end_reading_of, opening_reading, read, return_cause, route_of}
use Rattle.law_statements.specs.Said.{is_event, is_moment, line_of, said_by, said_in}
use Rattle.law_statements.specs.Packets.{has_closed}
use Rattle.law_statements.specs.Actors as actors
use Rattle.law_statements.specs.Actors.{built, fallen, id_fallen, last_actor}
use Rattle.law_statements.specs.Fallen.{Fallen, IsBelow, IsYounger, LetsFall, MayFall, cause_of, handled_cause}
use Rattle.law_statements.specs.Readable.{IsOfLastEvent}
use Rattle.law_statements.specs.Stack.{stack}
use Rattle.law_statements.proofs.Along.{Passes, fold-more, holds-passes, passes-holds, read-more}
use Rattle.law_statements.proofs.Below.{below}
use Rattle.law_statements.proofs.Deciding.{both, both-then, itself, recast}
use Rattle.law_statements.proofs.Fields.{actor-read, built-read, fallen-read, lives-read, over-read}
use Rattle.law_statements.proofs.Lists.{add, any-add}
use Rattle.law_statements.proofs.ReadableLines.{readable-to}
use Rattle.law_statements.proofs.StackRead.{own-after, stack-read}
use Rattle.law_statements.proofs.Younger.{built-grows, place-stays, younger-from, younger-to}

-- What lists contain

pub each-contained : {A : Type 0} (p : A → Bool) (xs : List A) → Decides (list_all p xs) ((x : A) → Contains xs x → p x ≡ true)
each-contained p xs = (
  λ e x c. subst (λ y. p y ≡ true) c.2 (AllPass-from_list_all p xs e c.0 x c.1),
  λ h. list_all-from_AllPass p xs (λ k d l. h (slice_index_or xs k d) (k, l, get_or_default xs k (slice_index_or xs k d) d l)),
)

pub none-contained : {A : Type 0} (p : A → Bool) (xs : List A) → Decides (not (list_any p xs)) ((x : A) → Contains xs x → p x ≡ false)
none-contained {A} p xs = (λ e x c. at x c (p x) refl (not-true (list_any p xs) e), λ h. by h (list_any p xs) refl)
  where
    at : (x : A) → Contains xs x → (b : Bool) → p x ≡ b → list_any p xs ≡ false → p x ≡ false
    at x c true is none = absurd (false≢true (sym none ∙ list_any-from_Any p xs (c.0, x, c.1, c.2, is)))
    at x c false is none = is

    by : ((x : A) → Contains xs x → p x ≡ false) → (b : Bool) → list_any p xs ≡ b → not (list_any p xs) ≡ true
    by h true is = let a : Any (λ x. p x ≡ true) xs = Any-from_list_any p xs is in absurd (false≢true (sym (h a.1 (a.0, a.2, a.3)) ∙ a.4))
    by h false is = ap not is

-- Why actors fall

return-same : (schema : Schema) (st : List CallFrame) → return_cause schema st ≡ handled_cause schema st
return-same schema [] = refl
return-same schema (frame.Dispatch d ∷ below) = refl
return-same schema (frame.Unanswered c ∷ below) = refl
return-same schema (frame.Answered c ∷ below) = refl

cause-step : (schema : Schema) (place : ℕ) (w : What) (own : EndReading) → (after_what schema place w own).cause ≡ (if is_event w then cause_of schema own.stack w else own.cause)
cause-step schema place (what.Return n) own = return-same schema own.stack
cause-step schema place what.Die own = refl
cause-step schema place _ own = refl

effect-cause : (schema : Schema) (end s : Side) (w : What) (r : Reading) → is_effect w ≡ true → (end_reading_of end (after_at schema s w r)).cause ≡ (end_reading_of end r).cause
effect-cause schema side.Parent side.Parent w r e = cause-step schema r.lines w r.parent ∙ ap (λ (b : Bool). if not b then cause_of schema r.parent.stack w else r.parent.cause) e
effect-cause schema side.Parent side.Child w r e = refl
effect-cause schema side.Child side.Parent w r e = refl
effect-cause schema side.Child side.Child w r e = cause-step schema r.lines w r.child ∙ ap (λ (b : Bool). if not b then cause_of schema r.child.stack w else r.child.cause) e

abbrev are_effects : List Line → Bool
are_effects lines = list_all (λ (line : Line). is_effect line.what) lines

effects-cause : (schema : Schema) (end : Side) (effects : List Line) (r : Reading) → are_effects effects ≡ true → (end_reading_of end (fold (after schema) r effects)).cause ≡ (end_reading_of end r).cause
effects-cause schema end [] r e = refl
effects-cause schema end (line ∷ effects) r e =
    let parts : (is_effect line.what ≡ true) × (are_effects effects ≡ true) = and_parts (is_effect line.what) (are_effects effects) e in
    effects-cause schema end effects (after schema r line) parts.1 ∙ effect-cause schema end line.side line.what r parts.0

-- after an event and its effects the cause is that of the event
pub cause-read : (schema : Schema) (lines : List Line) → IsReadable schema lines → (end : Side) (before following : List Line) → lines ≡ before ++ following → (o : IsOfLastEvent end before)
    → (end_reading_of end (read schema before)).cause ≡ cause_of schema (stack schema end o.before) o.event
cause-read schema lines r end before following e o =
    ap (λ (x : Reading). (end_reading_of end x).cause) (ap (read schema) o.split ∙ fold-more schema o.before (line_of end o.event ∷ o.effects) opening_reading)
    ∙ effects-cause schema end o.effects (after schema (read schema o.before) (line_of end o.event)) o.are_effects
    ∙ ap (λ (x : EndReading). x.cause) (own-after schema end o.event (read schema o.before))
    ∙ cause-step schema (read schema o.before).lines o.event (end_reading_of end (read schema o.before))
    ∙ ap (λ (b : Bool). if b then cause_of schema (end_reading_of end (read schema o.before)).stack o.event else (end_reading_of end (read schema o.before)).cause) o.is_event
    ∙ ap (λ (st : List CallFrame). cause_of schema st o.event)
    (stack-read schema lines r end o.before (line_of end o.event ∷ (o.effects ++ following)) (e ∙ ap (λ (xs : List Line). xs ++ following) o.split ∙ append_assoc o.before (line_of end o.event ∷ o.effects) following))

-- The actors that fell after the last event

falls-step : (schema : Schema) (place : ℕ) (w : What) (own : EndReading) → (after_what schema place w own).falls ≡ (if is_effect w then add own.falls (option_map (actor_place own.built) (id_fallen w)) else [])
falls-step schema place what.Die own = refl
falls-step schema place _ own = refl

-- an actor that fell in the event passes
abbrev fell : (ActorPlace → Bool) → Schema → Side → List Line → Bool
fell p schema end before = list_any p (end_reading_of end (read schema before)).falls

abbrev place_then : Schema → Side → List Line → ℤ → ActorPlace
place_then schema end before id = actor_place (end_reading_of end (read schema before)).built id

any-stays : {A : Type 0} (p : A → Bool) (xs : List A) (o : Option A) → list_any p xs ≡ true → list_any p (add xs o) ≡ true
any-stays p xs None e = e
any-stays p xs (Some x) e = any-add p xs x ∙ by (p x)
  where
    by : (b : Bool) → (if b then true else list_any p xs) ≡ true
    by true = refl
    by false = e

effect-falls : (p : ActorPlace → Bool) (schema : Schema) (w : What) (place : ℕ) (own : EndReading) → is_effect w ≡ true → list_any p (after_what schema place w own).falls ≡ list_any p (add own.falls (option_map (actor_place own.built) (id_fallen w)))
effect-falls p schema w place own e = ap (list_any p) (falls-step schema place w own ∙ ap (λ (b : Bool). if b then add own.falls (option_map (actor_place own.built) (id_fallen w)) else []) e)

fell-stays : (p : ActorPlace → Bool) (schema : Schema) (end s : Side) (w : What) (r : Reading) → is_effect w ≡ true → list_any p (end_reading_of end r).falls ≡ true → list_any p (end_reading_of end (after_at schema s w r)).falls ≡ true
fell-stays p schema side.Parent side.Parent w r e f = effect-falls p schema w r.lines r.parent e ∙ any-stays p r.parent.falls (option_map (actor_place r.parent.built) (id_fallen w)) f
fell-stays p schema side.Parent side.Child w r e f = f
fell-stays p schema side.Child side.Parent w r e f = f
fell-stays p schema side.Child side.Child w r e f = effect-falls p schema w r.lines r.child e ∙ any-stays p r.child.falls (option_map (actor_place r.child.built) (id_fallen w)) f

all-stay : (p : ActorPlace → Bool) (schema : Schema) (end : Side) (effects : List Line) (r : Reading) → are_effects effects ≡ true → list_any p (end_reading_of end r).falls ≡ true → list_any p (end_reading_of end (fold (after schema) r effects)).falls ≡ true
all-stay p schema end [] r e f = f
all-stay p schema end (line ∷ effects) r e f =
    let parts : (is_effect line.what ≡ true) × (are_effects effects ≡ true) = and_parts (is_effect line.what) (are_effects effects) e in
    all-stay p schema end effects (after schema r line) parts.1 (fell-stays p schema end line.side line.what r parts.0 f)

-- an actor that falls, followed only by effects, fell in the event
fell-of : (p : ActorPlace → Bool) (schema : Schema) (end : Side) (before earlier effects : List Line) (id : ℤ) (why : Destroy) → before ≡ earlier ++ line_of end (what.Fall id why) ∷ effects → are_effects effects ≡ true
    → p (place_then schema end earlier id) ≡ true → fell p schema end before ≡ true
fell-of p schema end before earlier effects id why split all is =
    ap (λ (x : Reading). list_any p (end_reading_of end x).falls) (ap (read schema) split ∙ fold-more schema earlier (line_of end (what.Fall id why) ∷ effects) opening_reading)
    ∙ all-stay p schema end effects (after schema (read schema earlier) (line_of end (what.Fall id why))) all
    (ap (λ (x : EndReading). list_any p x.falls) (own-after schema end (what.Fall id why) (read schema earlier))
    ∙ any-add p (end_reading_of end (read schema earlier)).falls (place_then schema end earlier id)
    ∙ ap (λ (b : Bool). if b then true else list_any p (end_reading_of end (read schema earlier)).falls) is)

-- each actor that fell in the event falls so
record Fell (p : ActorPlace → Bool) (schema : Schema) (end : Side) (before : List Line) : Type 0 where
  id : ℤ
  why : Destroy
  earlier : List Line
  effects : List Line
  split : before ≡ earlier ++ line_of end (what.Fall id why) ∷ effects
  are_effects : IsTrue (list_all (λ (line : Line). is_effect line.what) effects)
  passes : p (place_then schema end earlier id) ≡ true

fall-of : (w : What) (id : ℤ) → id_fallen w ≡ Some id → (why : Destroy) × (w ≡ what.Fall id why)
fall-of (what.Fall x why) id e = (why, ap (λ (y : ℤ). what.Fall y why) cc)
fall-of _ id e = cc

falls-here : (p : ActorPlace → Bool) (schema : Schema) (w : What) (place : ℕ) (own : EndReading) → is_effect w ≡ true → list_any p own.falls ≡ false → list_any p (after_what schema place w own).falls ≡ true
    → (id : ℤ) × (why : Destroy) × (w ≡ what.Fall id why) × (p (actor_place own.built id) ≡ true)
falls-here p schema w place own e none some = by (id_fallen w) refl (sym (effect-falls p schema w place own e) ∙ some)
  where
    if-true : (b c : Bool) → c ≡ false → (if b then true else c) ≡ true → b ≡ true
    if-true true c f g = refl
    if-true false c f g = absurd (false≢true (sym f ∙ g))

    by : (o : Option ℤ) → id_fallen w ≡ o → list_any p (add own.falls (option_map (actor_place own.built) o)) ≡ true → (id : ℤ) × (why : Destroy) × (w ≡ what.Fall id why) × (p (actor_place own.built id) ≡ true)
    by None is f = absurd (false≢true (sym none ∙ f))
    by (Some id) is f =
        let fall : (why : Destroy) × (w ≡ what.Fall id why) = fall-of w id is in
        (id, fall.0, fall.1, if-true (p (actor_place own.built id)) (list_any p own.falls) none (sym (any-add p own.falls (actor_place own.built id)) ∙ f))

falls-next : (p : ActorPlace → Bool) (schema : Schema) (end s : Side) (w : What) (r : Reading) → is_effect w ≡ true → list_any p (end_reading_of end r).falls ≡ false → list_any p (end_reading_of end (after_at schema s w r)).falls ≡ true
    → (id : ℤ) × (why : Destroy) × (line_of s w ≡ line_of end (what.Fall id why)) × (p (actor_place (end_reading_of end r).built id) ≡ true)
falls-next p schema side.Parent side.Parent w r e none some =
    let now : (id : ℤ) × (why : Destroy) × (w ≡ what.Fall id why) × (p (actor_place r.parent.built id) ≡ true) = falls-here p schema w r.lines r.parent e none some in
    (now.0, now.1, ap (line_of side.Parent) now.2, now.3)
falls-next p schema side.Parent side.Child w r e none some = absurd (false≢true (sym none ∙ some))
falls-next p schema side.Child side.Parent w r e none some = absurd (false≢true (sym none ∙ some))
falls-next p schema side.Child side.Child w r e none some =
    let now : (id : ℤ) × (why : Destroy) × (w ≡ what.Fall id why) × (p (actor_place r.child.built id) ≡ true) = falls-here p schema w r.lines r.child e none some in
    (now.0, now.1, ap (line_of side.Child) now.2, now.3)

fell-in : (p : ActorPlace → Bool) (schema : Schema) (end : Side) (front effects : List Line) → are_effects effects ≡ true → fell p schema end front ≡ false → fell p schema end (front ++ effects) ≡ true → Fell p schema end (front ++ effects)
fell-in p schema end front [] all none some = absurd (false≢true (sym none ∙ ap (fell p schema end) (sym (append-nil front)) ∙ some))
fell-in p schema end front (line ∷ effects) all none some = by (fell p schema end (front ++ line ∷ [])) refl (λ f. fell-in p schema end (front ++ line ∷ []) effects parts.1 f (ap (fell p schema end) (append_assoc front (line ∷ []) effects) ∙ some))
  where
    parts : (is_effect line.what ≡ true) × (are_effects effects ≡ true)
    parts = and_parts (is_effect line.what) (are_effects effects) all

    by : (b : Bool) → fell p schema end (front ++ line ∷ []) ≡ b → (fell p schema end (front ++ line ∷ []) ≡ false → Fell p schema end ((front ++ line ∷ []) ++ effects)) → Fell p schema end (front ++ line ∷ effects)
    by false f more = subst (Fell p schema end) (append_assoc front (line ∷ []) effects) (more f)
    by true f more =
        let now : (id : ℤ) × (why : Destroy) × (line ≡ line_of end (what.Fall id why)) × (p (place_then schema end front id) ≡ true) =
        falls-next p schema end line.side line.what (read schema front) parts.0 none (ap (λ (x : Reading). list_any p (end_reading_of end x).falls) (sym (read-more schema front line)) ∙ f) in
        record { id = now.0; why = now.1; earlier = front; effects = effects; split = ap (λ (l : Line). front ++ l ∷ effects) now.2; are_effects = parts.1; passes = now.3 }

fell-to : (p : ActorPlace → Bool) (schema : Schema) (end : Side) (before : List Line) → IsOfLastEvent end before → fell p schema end before ≡ true → Fell p schema end before
fell-to p schema end before o some =
    subst (Fell p schema end) (sym whole)
    (fell-in p schema end (o.before ++ line_of end o.event ∷ []) o.effects o.are_effects began (ap (fell p schema end) (sym whole) ∙ some))
  where
    whole : before ≡ (o.before ++ line_of end o.event ∷ []) ++ o.effects
    whole = o.split ∙ sym (append_assoc o.before (line_of end o.event ∷ []) o.effects)

    began : fell p schema end (o.before ++ line_of end o.event ∷ []) ≡ false
    began =
        ap (λ (x : Reading). list_any p (end_reading_of end x).falls) (read-more schema o.before (line_of end o.event))
        ∙ ap (λ (x : EndReading). list_any p x.falls) (own-after schema end o.event (read schema o.before))
        ∙ ap (list_any p) (falls-step schema (read schema o.before).lines o.event (end_reading_of end (read schema o.before))
        ∙ ap (λ (b : Bool). if b then add (end_reading_of end (read schema o.before)).falls (option_map (actor_place (end_reading_of end (read schema o.before)).built) (id_fallen o.event)) else []) (not-true (is_effect o.event) o.is_event))

-- An actor that falls

destroy-same : (a b : Destroy) → Decides (same_destroy a b) (a ≡ b)
destroy-same destroy.Deletion destroy.Deletion = (λ e. refl, λ e. refl)
destroy-same destroy.AncestorDeletion destroy.AncestorDeletion = (λ e. refl, λ e. refl)
destroy-same destroy.NormalShutdown destroy.NormalShutdown = (λ e. refl, λ e. refl)
destroy-same destroy.AbnormalShutdown destroy.AbnormalShutdown = (λ e. refl, λ e. refl)
destroy-same _ _ = (λ e. cc, λ e. cc)

deleted : (actors : List BuiltActor) (top id : ℤ) (why : Destroy) → Decides (is_deleted actors top id why) (((why ≡ destroy.Deletion) × (id ≡ top)) ⊎ ((why ≡ destroy.AncestorDeletion) × IsBelow actors id top))
deleted actors top id destroy.Deletion = (λ e. inl (refl, (Decides-int_eq id top).0 e), λ p. by p)
  where
    by : ((destroy.Deletion ≡ destroy.Deletion) × (id ≡ top)) ⊎ ((destroy.Deletion ≡ destroy.AncestorDeletion) × IsBelow actors id top) → int_eq id top ≡ true
    by (inl q) = (Decides-int_eq id top).1 q.1
    by (inr q) = cc (q.0)
deleted actors top id destroy.AncestorDeletion = (λ e. inr (refl, (below actors id top).0 e), λ p. by p)
  where
    by : ((destroy.AncestorDeletion ≡ destroy.Deletion) × (id ≡ top)) ⊎ ((destroy.AncestorDeletion ≡ destroy.AncestorDeletion) × IsBelow actors id top) → is_below actors id top ≡ true
    by (inl q) = cc (q.0)
    by (inr q) = (below actors id top).1 q.1
deleted actors top id destroy.NormalShutdown = (λ e. cc, λ p. by p)
  where
    by : ((destroy.NormalShutdown ≡ destroy.Deletion) × (id ≡ top)) ⊎ ((destroy.NormalShutdown ≡ destroy.AncestorDeletion) × IsBelow actors id top) → false ≡ true
    by (inl q) = cc (q.0)
    by (inr q) = cc (q.0)
deleted actors top id destroy.AbnormalShutdown = (λ e. cc, λ p. by p)
  where
    by : ((destroy.AbnormalShutdown ≡ destroy.Deletion) × (id ≡ top)) ⊎ ((destroy.AbnormalShutdown ≡ destroy.AncestorDeletion) × IsBelow actors id top) → false ≡ true
    by (inl q) = cc (q.0)
    by (inr q) = cc (q.0)

lets : (actors : List BuiltActor) (c : Cause) (id : ℤ) (why : Destroy) → Decides (lets_fall actors c id why) (LetsFall actors c id why)
unfolding lets_fall
lets actors cause.Nobody id why = itself false
lets actors (cause.Delete top) id why = deleted actors top id why
lets actors (cause.Closing reason) id why = destroy-same why reason

managed : (ns : List ℤ) (actors : List BuiltActor) (id : ℤ) → Decides (not (list_any (is_living_under ns id) actors)) ((a : BuiltActor) → Contains actors a → a.manager ≡ id → IsTrue (has ns a.id))
managed ns actors id = recast (not (list_any (is_living_under ns id) actors)) (none-contained (is_living_under ns id) actors) (λ h a c m. to a (h a c) m) (λ h a c. from a (int_eq a.manager id) refl (has ns a.id) refl (h a c))
  where
    to : (a : BuiltActor) → is_living_under ns id a ≡ false → a.manager ≡ id → has ns a.id ≡ true
    to a e m = by (int_eq a.manager id) (has ns a.id) ((Decides-int_eq a.manager id).1 m) e
      where
        by : (b c : Bool) → b ≡ true → (b && not c) ≡ false → c ≡ true
        by true true t f = refl
        by true false t f = cc
        by false c t f = cc

    from : (a : BuiltActor) (b : Bool) → int_eq a.manager id ≡ b → (c : Bool) → has ns a.id ≡ c → (a.manager ≡ id → has ns a.id ≡ true) → is_living_under ns id a ≡ false
    from a false is c h k = ap (λ (b : Bool). b && not (has ns a.id)) is
    from a true is c h k = ap (λ (b : Bool). int_eq a.manager id && not b) (k ((Decides-int_eq a.manager id).0 is)) ∙ none (int_eq a.manager id)
      where
        none : (b : Bool) → (b && false) ≡ false
        none true = refl
        none false = refl

-- no younger actor fell, if each that fell was built before
abbrev AreBuilt : Side → List Line → Type 0
AreBuilt end before = (id : ℤ) (why : Destroy) (earlier effects : List Line) → before ≡ earlier ++ line_of end (what.Fall id why) ∷ effects → IsTrue (was_built (built (said_by end earlier)) id)

abbrev NoYounger : Side → List Line → ℤ → Type 0
NoYounger end before id = (other : ℤ) (reason : Destroy) (earlier effects : List Line) → before ≡ earlier ++ line_of end (what.Fall other reason) ∷ effects → IsTrue (list_all (λ (line : Line). is_effect line.what) effects)
    → IsYounger (built (said_by end before)) other id → ⊥

place-now : (schema : Schema) (end : Side) (before earlier later : List Line) (id : ℤ) → before ≡ earlier ++ later → was_built (built (said_by end earlier)) id ≡ true
    → (place_then schema end earlier id ≡ actor_place (built (said_by end before)) id) × (was_built (built (said_by end before)) id ≡ true)
place-now schema end before earlier later id split e =
    let more : (ys : List BuiltActor) × (built (said_by end earlier ++ said_by end later) ≡ built (said_by end earlier) ++ ys) = built-grows (said_by end earlier) (said_by end later) in
    let all : built (said_by end before) ≡ built (said_by end earlier) ++ more.0 = ap (λ (ls : List Line). built (said_by end ls)) split ∙ ap built (filter_map-append (said_in end) earlier later) ∙ more.1 in (
      ap (λ (xs : List BuiltActor). actor_place xs id) (built-read schema end earlier) ∙ sym (place-stays (built (said_by end earlier)) more.0 id e) ∙ ap (λ (xs : List BuiltActor). actor_place xs id) (sym all),
      ap (λ (xs : List BuiltActor). was_built xs id) all ∙ list_any-append (λ (a : BuiltActor). int_eq a.id id) (built (said_by end earlier)) more.0 ∙ ap (λ (b : Bool). b || was_built more.0 id) e,
    )

oldest : (schema : Schema) (end : Side) (before : List Line) (id : ℤ) → IsOfLastEvent end before → AreBuilt end before → was_built (built (said_by end before)) id ≡ true
    → Decides (not (fell (is_younger (actor_place (built (said_by end before)) id)) schema end before)) (NoYounger end before id)
oldest schema end before id o were live = (
  λ e other reason earlier effects split all y.
      false≢true (sym (not-true (fell test schema end before) e) ∙ fell-of test schema end before earlier effects other reason split all
      (ap test (place-now schema end before earlier (line_of end (what.Fall other reason) ∷ effects) other split (were other reason earlier effects split)).0 ∙ younger-from (built (said_by end before)) other id y)),
  λ h. by h (fell test schema end before) refl,
)
  where
    test : ActorPlace → Bool
    test place = is_younger (actor_place (built (said_by end before)) id) place

    by : NoYounger end before id → (b : Bool) → fell test schema end before ≡ b → not (fell test schema end before) ≡ true
    by h false is = ap not is
    by h true is =
        let f : Fell test schema end before = fell-to test schema end before o is in
        let now : (place_then schema end f.earlier f.id ≡ actor_place (built (said_by end before)) f.id) × (was_built (built (said_by end before)) f.id ≡ true) =
        place-now schema end before f.earlier (line_of end (what.Fall f.id f.why) ∷ f.effects) f.id f.split (were f.id f.why f.earlier f.effects f.split) in
        absurd (h f.id f.why f.earlier f.effects f.split f.are_effects (younger-to (built (said_by end before)) f.id id now.1 live (ap test (sym now.0) ∙ f.passes)))

may : (schema : Schema) (lines : List Line) → IsReadable schema lines → (end : Side) (before following : List Line) (id : ℤ) (why : Destroy) → lines ≡ before ++ line_of end (what.Fall id why) ∷ following → AreBuilt end before
    → Decides (may_fall (end_reading_of end (read schema before)) id why) (MayFall schema end before id why)
unfolding is_next
may schema lines r end before following id why e were =
    recast (may_fall own id why)
    (both-then (lives own id) (is_next own id && lets_fall own.built own.cause id why) alive (λ live.
    both (is_next own id) (lets_fall own.built own.cause id why)
    (both (not (list_any (is_living_under own.fallen id) own.built)) (not (list_any (is_younger (actor_place own.built id)) own.falls)) none-left (none-younger live)) lets-now))
    (λ p. record { alive = p.0; managed = p.1.0.0; oldest = p.1.0.1; cause = p.1.1 }) (λ m. (m.alive, ((m.managed, m.oldest), m.cause)))
  where
    own : EndReading
    own = end_reading_of end (read schema before)

    o : IsOfLastEvent end before
    o = (readable-to schema lines r).effects end (what.Fall id why) before following e refl

    now : own.built ≡ built (said_by end before)
    now = built-read schema end before

    alive : Decides (lives own id) (IsTrue (actors.lives (said_by end before) id))
    alive = subst (λ (live : ℤ → Bool). Decides (live id) (IsTrue (actors.lives (said_by end before) id))) (sym (lives-read schema end before)) (itself (actors.lives (said_by end before) id))

    none-left : Decides (not (list_any (is_living_under own.fallen id) own.built)) ((a : BuiltActor) → Contains (built (said_by end before)) a → a.manager ≡ id → IsTrue (has (fallen (said_by end before)) a.id))
    none-left =
        subst (λ (ns : List ℤ). Decides (not (list_any (is_living_under ns id) own.built)) ((a : BuiltActor) → Contains (built (said_by end before)) a → a.manager ≡ id → IsTrue (has (fallen (said_by end before)) a.id))) (sym (fallen-read schema end before))
        (subst (λ (xs : List BuiltActor). Decides (not (list_any (is_living_under (fallen (said_by end before)) id) xs)) ((a : BuiltActor) → Contains (built (said_by end before)) a → a.manager ≡ id → IsTrue (has (fallen (said_by end before)) a.id))) (sym now)
        (managed (fallen (said_by end before)) (built (said_by end before)) id))

    none-younger : IsTrue (lives own id) → Decides (not (list_any (is_younger (actor_place own.built id)) own.falls)) (NoYounger end before id)
    none-younger live =
        subst (λ (xs : List BuiltActor). Decides (not (list_any (is_younger (actor_place xs id)) own.falls)) (NoYounger end before id)) (sym now)
        (oldest schema end before id o were (sym (ap (λ (xs : List BuiltActor). was_built xs id) now) ∙ (and_parts (was_built own.built id) (not (has own.fallen id)) live).0))

    lets-now : Decides (lets_fall own.built own.cause id why) ((place : IsOfLastEvent end before) × LetsFall (built (said_by end before)) (cause_of schema (stack schema end place.before) place.event) id why)
    lets-now =
        subst (λ (xs : List BuiltActor). Decides (lets_fall xs own.cause id why) ((place : IsOfLastEvent end before) × LetsFall (built (said_by end before)) (cause_of schema (stack schema end place.before) place.event) id why)) (sym now) (
          λ t. (o, (lets (built (said_by end before)) (cause_of schema (stack schema end o.before) o.event) id why).0 (ap (λ (c : Cause). lets_fall (built (said_by end before)) c id why) (sym (here o)) ∙ t)),
          λ h. ap (λ (c : Cause). lets_fall (built (said_by end before)) c id why) (here h.0) ∙ (lets (built (said_by end before)) (cause_of schema (stack schema end h.0.before) h.0.event) id why).1 h.1,
        )
      where
        here : (place : IsOfLastEvent end before) → own.cause ≡ cause_of schema (stack schema end place.before) place.event
        here place = cause-read schema lines r end before (line_of end (what.Fall id why) ∷ following) e place

builds : (schema : Schema) (end : Side) (before : List Line) → has (end_reading_of end (read schema before)).fallen (route_of (end_reading_of end (read schema before)).event) ≡ has (fallen (said_by end before)) (last_actor (said_by end before))
builds schema end before =
    ap (λ (ns : List ℤ). has ns (route_of (end_reading_of end (read schema before)).event)) (fallen-read schema end before) ∙ ap (has (fallen (said_by end before))) (actor-read schema end before)

-- The moments

moment : (schema : Schema) (end : Side) (before : List Line)
    → Decides (fallen_moment (end_reading_of end (read schema before))) (IsTrue (has_closed (said_by end before)) → (a : BuiltActor) → Contains (built (said_by end before)) a → IsTrue (has (fallen (said_by end before)) a.id))
moment schema end before =
    subst (λ (b : Bool). Decides (if b then all_fallen (end_reading_of end (read schema before)).fallen (end_reading_of end (read schema before)).built else true)
    (IsTrue (has_closed (said_by end before)) → (a : BuiltActor) → Contains (built (said_by end before)) a → IsTrue (has (fallen (said_by end before)) a.id))) (sym (over-read schema end before))
    (subst (λ (ns : List ℤ). Decides (if has_closed (said_by end before) then all_fallen ns (end_reading_of end (read schema before)).built else true)
    (IsTrue (has_closed (said_by end before)) → (a : BuiltActor) → Contains (built (said_by end before)) a → IsTrue (has (fallen (said_by end before)) a.id))) (sym (fallen-read schema end before))
    (subst (λ (actors : List BuiltActor). Decides (if has_closed (said_by end before) then all_fallen (fallen (said_by end before)) actors else true)
    (IsTrue (has_closed (said_by end before)) → (a : BuiltActor) → Contains (built (said_by end before)) a → IsTrue (has (fallen (said_by end before)) a.id))) (sym (built-read schema end before))
    (by (has_closed (said_by end before)))))
  where
    by : (b : Bool) → Decides (if b then all_fallen (fallen (said_by end before)) (built (said_by end before)) else true) (IsTrue b → (a : BuiltActor) → Contains (built (said_by end before)) a → IsTrue (has (fallen (said_by end before)) a.id))
    by true = (
      λ e t a c. (each-contained (λ (x : BuiltActor). has (fallen (said_by end before)) x.id) (built (said_by end before))).0 e a c,
      λ h. (each-contained (λ (x : BuiltActor). has (fallen (said_by end before)) x.id) (built (said_by end before))).1 (h refl),
    )
    by false = (λ e t. absurd (false≢true t), λ h. refl)

-- From the test to the statement, and back

moment-of : (schema : Schema) (lines : List Line) → Passes law.Fallen schema lines → (end : Side) (before following : List Line) → lines ≡ before ++ following → IsTrue (is_moment following) → IsTrue (fallen_moment (end_reading_of end (read schema before)))
unfolding moment_test
moment-of schema lines p side.Parent before following e m = (and_parts (fallen_moment (read schema before).parent) (fallen_moment (read schema before).child) (p.moments before following e m)).0
moment-of schema lines p side.Child before following e m = (and_parts (fallen_moment (read schema before).parent) (fallen_moment (read schema before).child) (p.moments before following e m)).1

split-again : (lines before earlier rest following : List Line) → lines ≡ before ++ following → before ≡ earlier ++ rest → lines ≡ earlier ++ (rest ++ following)
split-again lines before earlier rest following e split = e ∙ ap (λ (xs : List Line). xs ++ following) split ∙ append_assoc earlier rest following

built-of : (schema : Schema) (end : Side) (before : List Line) (id : ℤ) → IsTrue (actors.lives (said_by end before) id) → IsTrue (was_built (built (said_by end before)) id)
built-of schema end before id live = (and_parts (was_built (built (said_by end before)) id) (not (has (fallen (said_by end before)) id)) live).0

to : (schema : Schema) (lines : List Line) → IsReadable schema lines → Passes law.Fallen schema lines → Fallen schema lines
to schema lines r p = record {
  builds = λ end id protocol before following e. sym (builds schema end before) ∙ not-true (has (end_reading_of end (read schema before)).fallen (route_of (end_reading_of end (read schema before)).event)) (p.places before (line_of end (what.Built id protocol)) following e);
  falls = λ end id why before following e. (may schema lines r end before following id why e (were end before (line_of end (what.Fall id why) ∷ following) e)).0 (p.places before (line_of end (what.Fall id why)) following e);
  closings = λ end a before following e m closed c. (moment schema end before).0 (moment-of schema lines p end before following e m) closed a c;
}
  where
    were : (end : Side) (before following : List Line) → lines ≡ before ++ following → AreBuilt end before
    were end before following e id why earlier effects split =
        built-of schema end earlier id (ap (λ (live : ℤ → Bool). live id) (sym (lives-read schema end earlier))
        ∙ (and_parts (lives (end_reading_of end (read schema earlier)) id) (falls_now (end_reading_of end (read schema earlier)) id why)
        (p.places earlier (line_of end (what.Fall id why)) (effects ++ following) (split-again lines before earlier (line_of end (what.Fall id why) ∷ effects) following e split))).0)

place : (schema : Schema) (lines : List Line) → IsReadable schema lines → Fallen schema lines → (before : List Line) (end : Side) (w : What) (following : List Line) → lines ≡ before ++ line_of end w ∷ following
    → IsTrue (fallen_line (end_reading_of end (read schema before)) w)
place schema lines r s before end (what.Built id protocol) following e = ap not (builds schema end before ∙ s.builds end id protocol before following e)
place schema lines r s before end (what.Fall id why) following e = (may schema lines r end before following id why e were).1 (s.falls end id why before following e)
  where
    were : AreBuilt end before
    were other reason earlier effects split =
        built-of schema end earlier other
        (s.falls end other reason earlier (effects ++ line_of end (what.Fall id why) ∷ following) (split-again lines before earlier (line_of end (what.Fall other reason) ∷ effects) (line_of end (what.Fall id why) ∷ following) e split)).alive
place schema lines r s before end _ following e = refl

back : (schema : Schema) (lines : List Line) → IsReadable schema lines → Fallen schema lines → Passes law.Fallen schema lines
unfolding moment_test
back schema lines r s = record {
  places = λ before line following e. place schema lines r s before line.side line.what following e;
  moments = λ before following e m.
      and_from (fallen_moment (read schema before).parent) (fallen_moment (read schema before).child)
      ((moment schema side.Parent before).1 (λ closed a c. s.closings side.Parent a before following e m closed c)) ((moment schema side.Child before).1 (λ closed a c. s.closings side.Child a before following e m closed c));
}

pub fallen-to : (schema : Schema) (lines : List Line) → IsReadable schema lines → Holds law.Fallen schema lines → Fallen schema lines
fallen-to schema lines r h = to schema lines r (holds-passes law.Fallen schema lines h)

pub fallen-from : (schema : Schema) (lines : List Line) → IsReadable schema lines → Fallen schema lines → Holds law.Fallen schema lines
fallen-from schema lines r s = passes-holds law.Fallen schema lines r (back schema lines r s)
