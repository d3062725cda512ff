-- Who lives beside an actor that is left out.
use Rattle.std.proofs.Common.{◌≡◌, ◌≢◌, inl, inr, ℕ, ℤ, false, List, [], ◌∷◌, Option, refl, sym, ap, ◌∙◌, ◌==◌}
use Rattle.std.specs.Option.{option_map_or}
use Rattle.actor_tree.specs.declared.actor.Actor.{Actor}
use Rattle.actor_tree.specs.Tree.{actor_of, without}
use Rattle.actor_tree.proofs.Ids.{same_or_other, without-same, without-other}
use Rattle.actor_tree.proofs.Managed.{of-other, of-same, of-without-same}
use Rattle.channel_model.specs.ValueActors.{lives_as}

actor-left : (x id : ℤ) (actors : List Actor) → id ≢ x → actor_of id (without x actors) ≡ actor_of id actors
actor-left x id [] n = refl
actor-left x id (a ∷ actors) n = elim (same_or_other a.id x) [
  | inl e ↦ ap (actor_of id) (without-same x a actors e) ∙ actor-left x id actors n ∙ sym (of-other id a actors (λ f. n (sym f ∙ e)))
  | inr m ↦ ap (actor_of id) (without-other x a actors m) ∙ elim (same_or_other a.id id) [
    | inl e ↦ of-same id a (without x actors) e ∙ sym (of-same id a actors e)
    | inr k ↦ of-other id a (without x actors) k ∙ actor-left x id actors n ∙ sym (of-other id a actors k)
  ]
]

-- another lives as before
pub lives-beside : (x id : ℤ) (protocol : ℕ) (actors : List Actor) → id ≢ x → lives_as (without x actors) protocol id ≡ lives_as actors protocol id
lives-beside x id protocol actors n = ap (λ (found : Option Actor). option_map_or (λ (a : Actor). a.protocol == protocol) found false) (actor-left x id actors n)

-- that one does not live
pub lives-out : (x id : ℤ) (protocol : ℕ) (actors : List Actor) → id ≡ x → lives_as (without x actors) protocol id ≡ false
lives-out x id protocol actors e =
    ap (λ (z : ℤ). lives_as (without z actors) protocol id) (sym e) ∙ ap (λ (found : Option Actor). option_map_or (λ (a : Actor). a.protocol == protocol) found false) (of-without-same id actors)
