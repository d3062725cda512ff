-- The actors that live by the lines of an end are those that live at the end.
use Rattle.std.proofs.Common.{◌≡◌, inl, inr, ℕ, ℤ, pos, Bool, true, false, not, cond, List, [], ◌∷◌, ◌++◌, filter, map, Option, Some, None, option_map, refl, sym, ap, subst, append_assoc, ◌∙◌}
use Rattle.std.specs.List.{AllByRecursion, cons_option}
use Rattle.std.proofs.lemmas.Bool.{true≢false}
use Rattle.std.proofs.lemmas.List.{append-nil}
use Rattle.actor_tree.specs.declared.actor.Actor.{Actor}
use Rattle.actor_tree.specs.Fall.{others}
use Rattle.actor_tree.specs.Laws.{EachOnce}
use Rattle.actor_tree.specs.Tree.{lives, IsTree}
use Rattle.actor_tree.proofs.Ids.{Has, lives-true}
use Rattle.actor_tree.proofs.Managed.{tree-once}
use Rattle.ipdl_base.specs.declared.line.What.{What}
use Rattle.ipdl_base.specs.declared.line.What.TheVariants as what
use Rattle.ipdl_base.specs.declared.schema.Schema.{Schema}
use Rattle.history_reading.specs.declared.parts.BuiltActor.{BuiltActor}
use Rattle.history_reading.specs.EndReading.{EndReading}
use Rattle.history_reading.specs.Numbers.{has}
use Rattle.channel_model.specs.Ends.{End, Packet}
use Rattle.ipdl_base.specs.Sides.{top_id}
use Rattle.channel_model.specs.Parts as parts
use Rattle.channel_model.specs.Parts.{FirstPart, LaterPart, LaterParts, OwnParts, DeliveryPart, falling}
use Rattle.channel_model.specs.Phases.{Phase, manager_of}
use Rattle.channel_model.proofs.Known.{all-append, all-map}
use Rattle.channel_laws.specs.EndActors.{built_actor, shown_actor, standing, ReadsActors}
use Rattle.channel_laws.specs.Notes.{In, here, there}
use Rattle.channel_laws.specs.Rows.{HasSoundRows}
use Rattle.channel_laws.proofs.ActorParts.{first-begins, delivery-begins}
use Rattle.channel_laws.proofs.Growing.{in-before, in-following}
use Rattle.law_statements.specs.Actors as said_actors
use Rattle.law_statements.specs.Actors.{fallen, last_actor, built_at}
use Rattle.law_statements.specs.Said.{made_of}
use Rattle.alone_laws.specs.KeptAlone.{WasBuilt}
use Rattle.alone_laws.specs.Received.{actor_built, actors_built, actors_living}

-- Lists that are made from the lines of an end

cons-append : {A : Type 0} (o : Option A) (xs ys : List A) → cons_option o (xs ++ ys) ≡ cons_option o xs ++ ys
cons-append None xs ys = refl
cons-append (Some x) xs ys = refl

pub made-append : {A : Type 0} (make : List What → What → Option A) (before xs ys : List What) → made_of make before (xs ++ ys) ≡ made_of make before xs ++ made_of make (before ++ xs) ys
made-append make before [] ys = ap (λ (b : List What). made_of make b ys) (sym (append-nil before))
made-append make before (x ∷ xs) ys =
    ap (cons_option (make before x)) (made-append make (before ++ x ∷ []) xs ys ∙ ap (λ (b : List What). made_of make (before ++ x ∷ []) xs ++ made_of make b ys) (append_assoc before (x ∷ []) xs))
    ∙ cons-append (make before x) (made_of make (before ++ x ∷ []) xs) (made_of make (before ++ x ∷ xs) ys)

-- The actors that were built, each with a protocol

in-more : {A : Type 0} (x y : A) (xs more : List A) → In x (y ∷ xs) → In x (y ∷ (xs ++ more))
in-more x y xs more i = in-before more i

built-more : (top : ℕ) (said ws : List What) (b : Actor) → In b (actors_built top said) → In b (actors_built top (said ++ ws))
built-more top said ws b i =
    subst (λ (xs : List Actor). In b (record { id = top_id; protocol = top; manager = pos 0 } ∷ xs)) (sym (made-append actor_built [] said ws))
    (in-more b (record { id = top_id; protocol = top; manager = pos 0 }) (made_of actor_built [] said) (made_of actor_built said ws) i)

pub all-built-more : (top : ℕ) (said ws : List What) (actors : List Actor) → AllByRecursion (WasBuilt top said) actors → AllByRecursion (WasBuilt top (said ++ ws)) actors
all-built-more top said ws actors = all-map (WasBuilt top said) (WasBuilt top (said ++ ws)) actors (λ a w. (w.0, built-more top said ws w.0 w.1, w.2, w.3))

built-last : (top : ℕ) (said : List What) (id : ℤ) (protocol : ℕ) → In (record { id = id; protocol = protocol; manager = last_actor said }) (actors_built top (said ++ what.Built id protocol ∷ []))
built-last top said id protocol =
    there (subst (In (record { id = id; protocol = protocol; manager = last_actor said })) (sym (made-append actor_built [] said (what.Built id protocol ∷ []))) (in-following (made_of actor_built [] said) here))

all-filter : (P : Actor → Type 0) (test : Actor → Bool) (xs : List Actor) → AllByRecursion P xs → AllByRecursion P (filter test xs)
all-filter P test [] h = tt
all-filter P test (x ∷ xs) h = by (test x) (all-filter P test xs h.1)
  where
    by : (b : Bool) → AllByRecursion P (filter test xs) → AllByRecursion P (cond b (x ∷ filter test xs) (filter test xs))
    by true rest = (h.0, rest)
    by false rest = rest

pub later-built : (top : ℕ) (said : List What) {p q : Phase} {e f : End} {ws : List What} {ps : List Packet} → LaterPart p e ws ps f q → AllByRecursion (WasBuilt top said) e.actors → AllByRecursion (WasBuilt top (said ++ ws)) f.actors
later-built top said {e = e} {ws = ws} (parts.unnames name may silent) h = all-built-more top said ws e.actors h
later-built top said {e = e} {ws = ws} (parts.lets_go name r may held o) h = all-built-more top said ws e.actors h
later-built top said {e = e} {ws = ws} (parts.names more holds) h = all-built-more top said ws e.actors h
later-built top said {e = e} {ws = ws} (parts.releases seq is) h = all-built-more top said ws e.actors h
later-built top said {e = e} {ws = ws} (parts.keeps seq name r is o) h = all-built-more top said ws e.actors h
later-built top said {p = p} {e = e} {ws = ws} (parts.builds id protocol rest fresh alive) h =
    all-append (WasBuilt top (said ++ ws)) e.actors (record { id = id; protocol = protocol; manager = manager_of p.start } ∷ []) (all-built-more top said ws e.actors h)
    ((record { id = id; protocol = protocol; manager = last_actor said }, built-last top said id protocol, refl, refl), tt)
later-built top said {e = e} {ws = ws} (parts.deletes id is) h = all-filter (WasBuilt top (said ++ ws)) (λ a. not (lives a.id (falling id e))) e.actors (all-built-more top said ws e.actors h)
later-built top said {e = e} {ws = ws} (parts.falls why is) h = all-filter (WasBuilt top (said ++ ws)) (λ a. not (lives a.id (falling top_id (parts.abandoned_end e)))) e.actors (all-built-more top said ws e.actors h)

pub laters-built : (top : ℕ) (said : List What) {p q : Phase} {e f : End} {ws : List What} {ps : List Packet} → LaterParts p e ws ps f q → AllByRecursion (WasBuilt top said) e.actors → AllByRecursion (WasBuilt top (said ++ ws)) f.actors
laters-built top said {e = e} parts.done h = all-built-more top said [] e.actors h
laters-built top said {f = g} (parts.then {ws = ws} {vs = vs} part rest) h =
    subst (λ (xs : List What). AllByRecursion (WasBuilt top xs) g.actors) (append_assoc said ws vs) (laters-built top (said ++ ws) rest (later-built top said part h))

pub own-built : (schema : Schema) → HasSoundRows schema → (top place : ℕ) (own : EndReading) (said : List What) {q : Phase} {e f : End} {ws : List What} {ps : List Packet} → OwnParts schema e ws ps f q → ReadsActors schema e own → AllByRecursion (WasBuilt top said) e.actors
    → AllByRecursion (WasBuilt top (said ++ ws)) f.actors
own-built schema rows top place own said {e = e} {f = g} (parts.begun {f = f} {ws = ws} {vs = vs} part rest ended) actors h =
    let same : f.actors ≡ e.actors = (first-begins schema rows place own part actors.handled).actors in
    subst (λ (xs : List What). AllByRecursion (WasBuilt top xs) g.actors) (append_assoc said ws vs)
    (laters-built top (said ++ ws) rest (subst (AllByRecursion (WasBuilt top (said ++ ws))) (sym same) (all-built-more top said ws e.actors h)))

pub delivery-built : (schema : Schema) (top place : ℕ) (own : EndReading) (said : List What) (packet : Packet) {q : Phase} {e f : End} {ws : List What} {ps : List Packet} → DeliveryPart schema packet e ws ps f q → ReadsActors schema e own → AllByRecursion (WasBuilt top said) e.actors
    → AllByRecursion (WasBuilt top (said ++ ws)) f.actors
delivery-built schema top place own said packet {e = e} {f = f} {ws = ws} part actors h =
    subst (AllByRecursion (WasBuilt top (said ++ ws))) (sym (delivery-begins schema place own packet part actors.handled).actors) (all-built-more top said ws e.actors h)

-- Who lives

shown-at : (before : List What) (w : What) → option_map shown_actor (actor_built before w) ≡ built_at before w
shown-at before (what.Built id protocol) = refl
shown-at before _ = refl

cons-shown : (o : Option Actor) (xs : List Actor) → map shown_actor (cons_option o xs) ≡ cons_option (option_map shown_actor o) (map shown_actor xs)
cons-shown None xs = refl
cons-shown (Some x) xs = refl

shown-made : (before ws : List What) → map shown_actor (made_of actor_built before ws) ≡ made_of built_at before ws
shown-made before [] = refl
shown-made before (w ∷ ws) =
    cons-shown (actor_built before w) (made_of actor_built (before ++ w ∷ []) ws)
    ∙ (ap (λ (o : Option BuiltActor). cons_option o (map shown_actor (made_of actor_built (before ++ w ∷ []) ws))) (shown-at before w) ∙ ap (cons_option (built_at before w)) (shown-made (before ++ w ∷ []) ws))

shown-built : (top : ℕ) (said : List What) → map shown_actor (actors_built top said) ≡ said_actors.built said
shown-built top said = ap (λ (xs : List BuiltActor). record { id = top_id; manager = pos 0 } ∷ xs) (shown-made [] said)

shown-standing : (f : List ℤ) (xs : List Actor) → map shown_actor (filter (λ a. not (has f a.id)) xs) ≡ standing f (map shown_actor xs)
shown-standing f [] = refl
shown-standing f (x ∷ xs) = by (not (has f x.id)) (shown-standing f xs)
  where
    by : (b : Bool) → map shown_actor (filter (λ a. not (has f a.id)) xs) ≡ standing f (map shown_actor xs)
        → map shown_actor (cond b (x ∷ filter (λ a. not (has f a.id)) xs) (filter (λ a. not (has f a.id)) xs)) ≡ cond b (shown_actor x ∷ standing f (map shown_actor xs)) (standing f (map shown_actor xs))
    by true e = ap (λ (ys : List BuiltActor). shown_actor x ∷ ys) e
    by false e = e

-- no two actors that were built have the same id
abbrev plain_actor : Actor → Actor
plain_actor a = built_actor (shown_actor a)

has-in : (a : Actor) (i : ℤ) → a.id ≡ i → (xs : List Actor) → In a xs → Has i (map plain_actor xs)
has-in a i e _ (here {xs}) = inl e
has-in a i e _ (there {y} {xs} at) = inr (has-in a i e xs at)

once-same : (a b : Actor) → a.id ≡ b.id → (xs : List Actor) → EachOnce (map plain_actor xs) → In a xs → In b xs → a ≡ b
once-same a _ e _ o (here {xs}) here = refl
once-same a b e _ o (here {xs}) (there i) = absurd (true≢false (sym (lives-true a.id (map plain_actor xs) (has-in b a.id (sym e) xs i)) ∙ o.0))
once-same a b e _ o (there {xs = xs} i) here = absurd (true≢false (sym (lives-true b.id (map plain_actor xs) (has-in a b.id e xs i)) ∙ o.0))
once-same a b e _ o (there {xs = xs} i) (there j) = once-same a b e xs o.1 i j

actor-same : (x y : Actor) → x.id ≡ y.id → x.protocol ≡ y.protocol → x.manager ≡ y.manager → x ≡ y
actor-same x y i p m =
    ap (λ (n : ℤ). record { id = n; protocol = x.protocol; manager = x.manager }) i
    ∙ (ap (λ (n : ℕ). record { id = y.id; protocol = n; manager = x.manager }) p ∙ ap (λ (n : ℤ). record { id = y.id; protocol = y.protocol; manager = n }) m)

lists-same : (top : ℕ) (said : List What) → EachOnce (map plain_actor (actors_built top said)) → (xs ys : List Actor) → map shown_actor xs ≡ map shown_actor ys → AllByRecursion (λ x. In x (actors_built top said)) xs → AllByRecursion (WasBuilt top said) ys → xs ≡ ys
lists-same top said once [] [] e h k = refl
lists-same top said once [] (y ∷ ys) e h k = cc
lists-same top said once (x ∷ xs) [] e h k = cc
lists-same top said once (x ∷ xs) (y ∷ ys) e h k =
    let first : shown_actor x ≡ shown_actor y = cc in
    let rest : map shown_actor xs ≡ map shown_actor ys = cc in
    let id : x.id ≡ y.id = ap (λ (b : BuiltActor). b.id) first in
    let built : k.0.0 ≡ x = once-same k.0.0 x (k.0.2 ∙ sym id) (actors_built top said) once k.0.1 h.0 in
    let same : x ≡ y = actor-same x y id (ap (λ (a : Actor). a.protocol) (sym built) ∙ k.0.3) (ap (λ (b : BuiltActor). b.manager) first) in
    ap (λ (a : Actor). a ∷ xs) same ∙ ap (λ (zs : List Actor). y ∷ zs) (lists-same top said once xs ys rest h.1 k.1)

all-in : (xs : List Actor) → AllByRecursion (λ x. In x xs) xs
all-in [] = tt
all-in (x ∷ xs) = (here, all-map (λ y. In y xs) (λ y. In y (x ∷ xs)) xs (λ y i. there i) (all-in xs))

-- an actor that lives by the lines lives at the end
pub living-is : (schema : Schema) (top : ℕ) (e : End) (own : EndReading) (said : List What) → own.built ≡ said_actors.built said → own.fallen ≡ fallen said → ReadsActors schema e own → AllByRecursion (WasBuilt top said) e.actors → actors_living top said ≡ e.actors
living-is schema top e own said built fell k h =
    let once : EachOnce (map built_actor own.built) = tree-once (map built_actor own.built) k.ids.known.tree in
    let shown : map shown_actor (actors_living top said) ≡ map shown_actor e.actors =
    shown-standing (fallen said) (actors_built top said) ∙ (ap (standing (fallen said)) (shown-built top said ∙ sym built) ∙ (ap (λ (f : List ℤ). standing f own.built) (sym fell) ∙ k.living.living)) in
    lists-same top said (subst EachOnce (ap (map built_actor) (built ∙ sym (shown-built top said)) ∙ map-map (actors_built top said)) once) (actors_living top said) e.actors shown
    (all-filter (λ x. In x (actors_built top said)) (λ a. not (has (fallen said) a.id)) (actors_built top said) (all-in (actors_built top said))) h
  where
    map-map : (xs : List Actor) → map built_actor (map shown_actor xs) ≡ map plain_actor xs
    map-map [] = refl
    map-map (x ∷ xs) = ap (λ (ys : List Actor). plain_actor x ∷ ys) (map-map xs)
