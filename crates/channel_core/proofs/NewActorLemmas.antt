-- The actor that a request builds, when it is taken: nobody has its id, and its manager lives.
use Rattle.std.proofs.Common.{◌≡◌, ℤ, pos, ◌≤ℤ◌, Bool, true, false, cond, List, [], ◌∷◌, ◌++◌, Option, Some, None, inl, inr, refl, ap, sym, subst, ◌∙◌, append-nil}
use Rattle.std.specs.List.{AllByRecursion}
use Rattle.std.proofs.lemmas.Bool.{cases_Bool}
use Rattle.channel_model.proofs.Known.{all-map}
use Rattle.actor_tree.specs.declared.actor.Actor.{Actor}
use Rattle.actor_tree.specs.Tree.{lives, without}
use Rattle.actor_tree.proofs.Ids.{has_not, without-append, without-none, without-same}
use Rattle.ipdl_base.specs.declared.schema.Kind.{Kind}
use Rattle.ipdl_base.specs.declared.schema.Kind.TheVariants.{Normal, Constructor, Delete}
use Rattle.ipdl_base.specs.declared.value.Values.{Values}
use Rattle.value_types.specs.Fits.{IsLivingId, IsMadeBy, IsRequestOf}
use Rattle.channel_model.specs.Fitting.{HasLivingId}
use Rattle.channel_model.specs.Numbers.{protocol_of, is_constructor}
use Rattle.channel_model.specs.Parts as part
use Rattle.channel_model.specs.Phases.{taking}
use Rattle.channel_model.specs.Takes.{dispatch_of}
use Rattle.channel_model.specs.ValueActors.{lives_as}
use Rattle.channel_model.proofs.FittingEnds.{taken-fits}
use Rattle.channel_model.proofs.FittingRequests.{request-of}
use Rattle.channel_model.proofs.FittingValues.{lives-fits}
use Rattle.channel_model.proofs.KnownSteps.{first-known, KnownIn}
use Rattle.channel_model.proofs.SendParts.{lives-as}
use Rattle.end_steps.specs.BuiltActors.{built_by, with_built, IsFree}
use Rattle.channel_core.specs.Inside.{IsKept}
use Rattle.channel_core.specs.NextItems.{IsNextHandling}
use Rattle.channel_core.specs.EndView.{EndView}

-- 0 is not positive
not_positive : pos 1 ≤ℤ pos 0 → ⊥
not_positive h = absurd h.le

-- nobody has the id 0
nobody_null : (actors : List Actor) → AllByRecursion HasLivingId actors → lives (pos 0) actors ≡ false
nobody_null actors h = elim (cases_Bool (lives (pos 0) actors)) [
  | inl e ↦ absurd (null_dead (lives-fits actors h (pos 0) e))
  | inr e ↦ e
] where
  null_dead : IsLivingId (pos 0) → ⊥
  null_dead (a, b) = not_positive a

-- the manager of a request that is handled lives
alive_at : (b : Bool) (x : Option ℤ) (id : ℤ) → cond b x (Some id) ≡ None → b ≡ true
alive_at true x id e = refl
alive_at false x id e = cc

module _ (v : EndView) (shown : Values) (built : Option Actor) (n : IsNextHandling v shown built) (kept : IsKept v.schema v.end) where
  manager : lives n.m.route v.end.actors ≡ true
  manager = lives-as v.end.actors (protocol_of n.m.number) n.m.route (alive_at (lives_as v.end.actors (protocol_of n.m.number) n.m.route) _ n.m.route n.handled.stays)

  request : IsRequestOf v.schema n.handled.row n.m n.handled.given
  request = request-of v.schema n.handled.row n.m n.handled.given (taken-fits v.schema v.end _ kept.fitting n.is_next.next).0 n.handled.body n.handled.found

  known : KnownIn v.schema kept.top (taking n.handled.row n.m) (record (part.left_end v.end) { stack = dispatch_of n.handled.row n.m ∷ v.end.stack })
  known = first-known v.schema kept.top (part.takes n.m n.is_next.sync n.is_next.level n.handled.row n.handled.given n.is_next.next n.handled.body n.handled.found n.handled.stays) kept.known

  dead_by : (kind : Kind) → n.handled.row.kind ≡ kind → IsMadeBy kind n.m.made → AllByRecursion (λ (id : ℤ). lives id v.end.actors ≡ false) (cond (is_constructor kind) (n.m.made ∷ []) []) → lives n.m.made v.end.actors ≡ false
  dead_by Normal e made fresh = subst (λ (id : ℤ). lives id v.end.actors ≡ false) (sym made) (nobody_null v.end.actors kept.fitting.actors)
  dead_by (Constructor protocol) e made fresh = fresh.0
  dead_by Delete e made fresh = subst (λ (id : ℤ). lives id v.end.actors ≡ false) (sym made) (nobody_null v.end.actors kept.fitting.actors)

  fresh_ids : AllByRecursion (λ (id : ℤ). lives id v.end.actors ≡ false) (cond (is_constructor n.handled.row.kind) (n.m.made ∷ []) [])
  fresh_ids = all-map _ (λ (id : ℤ). lives id v.end.actors ≡ false) (cond (is_constructor n.handled.row.kind) (n.m.made ∷ []) []) (λ id h. h.1) known.fresh

  -- nobody lives with the new id
  pub new_dead : lives n.m.made v.end.actors ≡ false
  new_dead = dead_by n.handled.row.kind refl request.made fresh_ids

  free_by : (kind : Kind) → IsFree v.end.actors (built_by kind n.m.made n.m.route)
  free_by Normal = tt
  free_by (Constructor protocol) = rw (new_dead, manager) refl
  free_by Delete = tt

  -- so it may be built
  pub new_free : IsFree v.end.actors built
  new_free = subst (IsFree v.end.actors) (sym n.handled.builds) (free_by n.handled.row.kind)

  left_by : (kind : Kind) → without n.m.made (with_built (built_by kind n.m.made n.m.route) v.end.actors) ≡ v.end.actors
  left_by Normal = without-none n.m.made v.end.actors (has_not n.m.made v.end.actors new_dead)
  left_by (Constructor protocol) =
      without-append n.m.made v.end.actors (_ ∷ []) ∙ ap (λ (xs : List Actor). xs ++ without n.m.made (record { id = n.m.made; protocol = protocol; manager = n.m.route } ∷ [])) (without-none n.m.made v.end.actors (has_not n.m.made v.end.actors new_dead))
      ∙ ap (λ (xs : List Actor). v.end.actors ++ xs) (without-same n.m.made (record { id = n.m.made; protocol = protocol; manager = n.m.route }) [] refl) ∙ append-nil v.end.actors
  left_by Delete = without-none n.m.made v.end.actors (has_not n.m.made v.end.actors new_dead)

  -- and without it the actors are as they were
  pub new_left_out : (actors : List Actor) → actors ≡ with_built built v.end.actors → without n.m.made actors ≡ v.end.actors
  new_left_out actors e = ap (without n.m.made) (e ∙ ap (λ (b : Option Actor). with_built b v.end.actors) n.handled.builds) ∙ left_by n.handled.row.kind
