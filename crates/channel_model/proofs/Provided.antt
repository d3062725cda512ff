-- Properties of a step that is possible.
use Rattle.std.proofs.Common.{◌≡◌, Bool, true, false, Option, Some, None, refl, subst, option_and_then}
use Rattle.std.proofs.lemmas.Option.{same_Some}
use Rattle.channel_model.specs.Ends.{End}
use Rattle.channel_model.specs.Outputs.{Output, Change, beginning}
use Rattle.channel_model.specs.Steps.{provided}

pub provided-gives : (P : Output → Type 0) (b : Bool) (change : Change) (e : End) (output : Output) → (b ≡ true → P (change (beginning e))) → provided b change e ≡ Some output → P output
provided-gives P true change e output h is = subst P (same_Some (change (beginning e)) output is) (h refl)
provided-gives P false change e output h is = cc

pub found-gives : {A : Type 0} (P : Output → Type 0) (found : Option A) (f : A → Option Output) (output : Output) → ((x : A) → found ≡ Some x → f x ≡ Some output → P output) → option_and_then f found ≡ Some output → P output
found-gives P None f output h is = cc
found-gives P (Some x) f output h is = h x refl is
