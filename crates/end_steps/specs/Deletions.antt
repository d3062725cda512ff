-- The fall that a destructor brings.
use Rattle.std.specs.Prelude.{◌≡◌, ℤ, ◌-◌, List}
use Rattle.actor_tree.specs.declared.actor.Actor.{Actor}
use Rattle.ipdl_base.specs.declared.kinds.Side.{Side}
use Rattle.ipdl_base.specs.declared.schema.Kind.{Kind}
use Rattle.ipdl_base.specs.declared.schema.Kind.TheVariants.{Normal, Constructor, Delete}
use Rattle.channel_model.specs.Ends.{PromiseEntry}
use Rattle.channel_model.specs.Falls.{why_deleted}
use Rattle.end_steps.specs.Falls.{HasFallen}
use Rattle.end_parts.specs.OutputView.{OutputView}

-- Nothing has changed.
pub record IsUnchanged (actors : List Actor) (promises : List PromiseEntry) (out : OutputView) (actors' : List Actor) (promises' : List PromiseEntry) (out' : OutputView) : Type 0 where
  pub same_actors : actors' ≡ actors
  pub same_promises : promises' ≡ promises
  pub same_out : out' ≡ out

-- The subtree of an id was deleted, with lines that the end has owed.
pub record IsDeleted (side : Side) (id : ℤ) (actors : List Actor) (promises : List PromiseEntry) (out : OutputView) (actors' : List Actor) (promises' : List PromiseEntry) (out' : OutputView) : Type 0 where
  pub said : OutputView
  pub falls : HasFallen side id (why_deleted id) actors promises out actors' promises' said
  pub pays : out' ≡ record said { lines_owed = said.lines_owed - (out.line_spare - said.line_spare) }

-- a destructor deletes the actor that it goes to
abbrev pub HasDeleted : Kind → Side → ℤ → List Actor → List PromiseEntry → OutputView → List Actor → List PromiseEntry → OutputView → Type 0
HasDeleted Normal side id actors promises out actors' promises' out' = IsUnchanged actors promises out actors' promises' out'
HasDeleted (Constructor protocol) side id actors promises out actors' promises' out' = IsUnchanged actors promises out actors' promises' out'
HasDeleted Delete side id actors promises out actors' promises' out' = IsDeleted side id actors promises out actors' promises' out'
