-- An id has one protocol, and keeps it; an actor that lives as one of its protocol is the one that lives.
use Rattle.std.proofs.Common.{◌≡◌, inl, inr, ℕ, ◌+◌, ◌*◌, ◌==◌, ℤ, pos, Bool, true, false, not, ◌&&◌, ◌||◌, int_eq, List, [], ◌∷◌, ◌++◌, cond, find, length, Option, Some, None, is_some, refl, sym, ap, subst, ◌∙◌, append_assoc, arith}
use Rattle.std.specs.List.{AllByRecursion, list_any}
use Rattle.std.specs.Option.{option_map_or}
use Rattle.std.proofs.lemmas.Bool.{eqb-true, eq-eqb}
use Rattle.std.proofs.lemmas.Bool.Decides.{Decides-int_eq}
use Rattle.actor_tree.specs.declared.actor.Actor.{Actor}
use Rattle.actor_tree.specs.Tree.{actor_of, lives}
use Rattle.ipdl_base.specs.declared.kinds.Side.{Side}
use Rattle.ipdl_base.specs.declared.kinds.Side.TheVariants.{Parent, Child}
use Rattle.channel_model.specs.Numbers.{id_of}
use Rattle.channel_model.specs.Refusals.{lives_otherwise}
use Rattle.channel_model.specs.ValueActors.{ActorValue, lives_as, is_dead}
use Rattle.channel_model.proofs.Known.{same_id, ids_apart, not_top}
use Rattle.channel_laws.specs.Protocols.{Protocols, constructed_count, IsConstructed, StandsFor, HasItsProtocol, HaveTheirProtocols, ActorHasProtocol}
use Rattle.channel_laws.proofs.Outlines.{cons-head, cons-tail}
use Rattle.channel_laws.proofs.Takes.{found-passes}
use Rattle.channel_laws.proofs.Track.{all-found}

-- Ids

not_null : {A : Type 0} (side : Side) (k : ℕ) → id_of side (k + 1) ≡ pos 0 → A
not_null Parent k e = let f : 4 * (k + 1) + 2 ≡ 0 = cc in absurd (omega arith)
not_null Child k e = let f : 4 * (k + 1) ≡ 0 = cc in absurd (omega arith)

-- Lists

same-place : (xs ys : List ℕ) (p q : ℕ) (cs ds : List ℕ) → xs ++ p ∷ cs ≡ ys ++ q ∷ ds → length xs ≡ length ys → p ≡ q
same-place [] [] p q cs ds e l = cons-head e
same-place [] (y ∷ ys) p q cs ds e l = absurd (omega arith)
same-place (x ∷ xs) [] p q cs ds e l = absurd (omega arith)
same-place (x ∷ xs) (y ∷ ys) p q cs ds e l = same-place xs ys p q cs ds (cons-tail e) (omega arith)

-- An id has one protocol

same-constructed : (side : Side) (protocols : List ℕ) (id : ℤ) (p q : ℕ) → IsConstructed side protocols id p → IsConstructed side protocols id q → p ≡ q
same-constructed side protocols id p q a b =
    let n : length a.before + 1 ≡ length b.before + 1 = same_id side (length a.before + 1) (length b.before + 1) (sym a.id_is ∙ b.id_is) in
    same-place a.before b.before p q a.after b.after (sym a.place ∙ b.place) (omega arith)

pub one_protocol : (made : Protocols) (id : ℤ) (p q : ℕ) → StandsFor made id p → StandsFor made id q → p ≡ q
one_protocol made id p q (inl a) (inl b) = a.1 ∙ sym b.1
one_protocol made id p q (inl a) (inr (inl b)) = absurd (not_top Parent (length b.before + 1) (sym b.id_is ∙ a.0))
one_protocol made id p q (inl a) (inr (inr b)) = absurd (not_top Child (length b.before + 1) (sym b.id_is ∙ a.0))
one_protocol made id p q (inr (inl a)) (inl b) = absurd (not_top Parent (length a.before + 1) (sym a.id_is ∙ b.0))
one_protocol made id p q (inr (inr a)) (inl b) = absurd (not_top Child (length a.before + 1) (sym a.id_is ∙ b.0))
one_protocol made id p q (inr (inl a)) (inr (inl b)) = same-constructed Parent made.parent id p q a b
one_protocol made id p q (inr (inr a)) (inr (inr b)) = same-constructed Child made.child id p q a b
one_protocol made id p q (inr (inl a)) (inr (inr b)) = absurd (ids_apart Parent (length a.before + 1) (length b.before + 1) (sym a.id_is ∙ b.id_is))
one_protocol made id p q (inr (inr a)) (inr (inl b)) = absurd (ids_apart Parent (length b.before + 1) (length a.before + 1) (sym b.id_is ∙ a.id_is))

pub stands-not_null : {A : Type 0} (made : Protocols) (id : ℤ) (p : ℕ) → StandsFor made id p → id ≡ pos 0 → A
stands-not_null made id p (inl a) e = let f : pos 2147483647 ≡ pos 0 = sym a.0 ∙ e in cc
stands-not_null made id p (inr (inl a)) e = not_null Parent (length a.before) (sym a.id_is ∙ e)
stands-not_null made id p (inr (inr a)) e = not_null Child (length a.before) (sym a.id_is ∙ e)

-- More is constructed

-- the protocols, with more actors that a side has constructed
abbrev pub constructing : Side → List ℕ → Protocols → Protocols
constructing Parent more made = record { top = made.top; parent = made.parent ++ more; child = made.child }
constructing Child more made = record { top = made.top; parent = made.parent; child = made.child ++ more }

more-constructed : (side : Side) (protocols more : List ℕ) (id : ℤ) (p : ℕ) → IsConstructed side protocols id p → IsConstructed side (protocols ++ more) id p
more-constructed side protocols more id p a = record { before = a.before; after = a.after ++ more; place = ap (λ (l : List ℕ). l ++ more) a.place ∙ append_assoc a.before (p ∷ a.after) more; id_is = a.id_is }

pub stands-on : (side : Side) (more : List ℕ) (made : Protocols) (id : ℤ) (p : ℕ) → StandsFor made id p → StandsFor (constructing side more made) id p
stands-on Parent more made id p (inl a) = inl a
stands-on Parent more made id p (inr (inl a)) = inr (inl (more-constructed Parent made.parent more id p a))
stands-on Parent more made id p (inr (inr a)) = inr (inr a)
stands-on Child more made id p (inl a) = inl a
stands-on Child more made id p (inr (inl a)) = inr (inl a)
stands-on Child more made id p (inr (inr a)) = inr (inr (more-constructed Child made.child more id p a))

pub stands-new : (side : Side) (p : ℕ) (made : Protocols) → StandsFor (constructing side (p ∷ []) made) (id_of side (constructed_count side made + 1)) p
stands-new Parent p made = inr (inl (record { before = made.parent; after = []; place = refl; id_is = refl }))
stands-new Child p made = inr (inr (record { before = made.child; after = []; place = refl; id_is = refl }))

-- Who lives

module _ (made : Protocols) (actors : List Actor) (known : AllByRecursion (ActorHasProtocol made) actors) where
  found-stands : (id : ℤ) (a : Actor) → actor_of id actors ≡ Some a → StandsFor made id a.protocol
  found-stands id a found =
      let is : a.id ≡ id = (Decides-int_eq a.id id).0 (found-passes (λ (x : Actor). int_eq x.id id) actors a found) in
      subst (λ (n : ℤ). StandsFor made n a.protocol) is (all-found (ActorHasProtocol made) (λ (x : Actor). int_eq x.id id) actors a known found)

  -- an id that lives as one of a protocol has that protocol
  pub lives-stands : (protocol : ℕ) (id : ℤ) → lives_as actors protocol id ≡ true → StandsFor made id protocol
  lives-stands protocol id e = by (actor_of id actors) refl e
    where
      by : (found : Option Actor) → actor_of id actors ≡ found → option_map_or (λ (a : Actor). a.protocol == protocol) found false ≡ true → StandsFor made id protocol
      by None is e = cc
      by (Some a) is e = subst (StandsFor made id) (eqb-true a.protocol protocol e) (found-stands id a is)

  -- an actor with its protocol lives as one of that protocol exactly where it lives
  pub lives-alike : (a : ActorValue) → HasItsProtocol made a → lives_as actors a.protocol a.id ≡ lives a.id actors
  lives-alike a h = by (actor_of a.id actors) refl
    where
      same : (b : Actor) → StandsFor made a.id b.protocol → HasItsProtocol made a → (b.protocol == a.protocol) ≡ true
      same b s (inl null) = stands-not_null made a.id b.protocol s null
      same b s (inr t) = eq-eqb b.protocol a.protocol (one_protocol made a.id b.protocol a.protocol s t)

      by : (found : Option Actor) → actor_of a.id actors ≡ found → option_map_or (λ (b : Actor). b.protocol == a.protocol) (actor_of a.id actors) false ≡ lives a.id actors
      by None is = ap (λ (f : Option Actor). option_map_or (λ (b : Actor). b.protocol == a.protocol) f false) is ∙ sym (ap is_some is)
      by (Some b) is = ap (λ (f : Option Actor). option_map_or (λ (b : Actor). b.protocol == a.protocol) f false) is ∙ (same b (found-stands a.id b is) h ∙ sym (ap is_some is))

  -- if none of some actors is dead, they have their protocols
  pub none-dead : (few : List ActorValue) → list_any (λ (a : ActorValue). not (int_eq a.id (pos 0)) && is_dead actors a) few ≡ false → HaveTheirProtocols made few
  none-dead [] e = tt
  none-dead (a ∷ few) e = by (int_eq a.id (pos 0)) (lives_as actors a.protocol a.id) (list_any (λ (x : ActorValue). not (int_eq x.id (pos 0)) && is_dead actors x) few) refl refl e (none-dead few)
    where
      by : (b c d : Bool) → int_eq a.id (pos 0) ≡ b → lives_as actors a.protocol a.id ≡ c → (not b && not c) || d ≡ false → (d ≡ false → HaveTheirProtocols made few) → HasItsProtocol made a × HaveTheirProtocols made few
      by true c d null alive e rec = (inl ((Decides-int_eq a.id (pos 0)).0 null), rec e)
      by false true d null alive e rec = (inr (lives-stands a.protocol a.id alive), rec e)
      by false false d null alive e rec = cc

  -- an actor with its protocol does not live as one of another protocol
  lives-right : (a : ActorValue) → HasItsProtocol made a → lives_otherwise actors a.protocol a.id ≡ false
  lives-right a h = by (actor_of a.id actors) refl
    where
      same : (b : Actor) → StandsFor made a.id b.protocol → HasItsProtocol made a → (b.protocol == a.protocol) ≡ true
      same b s (inl null) = stands-not_null made a.id b.protocol s null
      same b s (inr t) = eq-eqb b.protocol a.protocol (one_protocol made a.id b.protocol a.protocol s t)

      by : (found : Option Actor) → actor_of a.id actors ≡ found → option_map_or (λ (b : Actor). not (b.protocol == a.protocol)) (actor_of a.id actors) false ≡ false
      by None is = ap (λ (f : Option Actor). option_map_or (λ (b : Actor). not (b.protocol == a.protocol)) f false) is
      by (Some b) is = ap (λ (f : Option Actor). option_map_or (λ (b : Actor). not (b.protocol == a.protocol)) f false) is ∙ ap not (same b (found-stands a.id b is) h)

  pub none-otherwise : (few : List ActorValue) → HaveTheirProtocols made few → find (λ (a : ActorValue). lives_otherwise actors a.protocol a.id) few ≡ None
  none-otherwise [] h = refl
  none-otherwise (a ∷ few) h = ap (λ (b : Bool). cond b (Some a) (find (λ (x : ActorValue). lives_otherwise actors x.protocol x.id) few)) (lives-right a h.0) ∙ none-otherwise few h.1
