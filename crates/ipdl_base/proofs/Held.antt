-- What may be held at a name.
use Rattle.std.proofs.Common.{◌≡◌, ◌<◌, ℕ, suc, List, length, refl, arith}
use Rattle.std.proofs.Math.ListN.{replicate}
use Rattle.std.proofs.lemmas.List.{length-replicate}
use Rattle.std.specs.Prelude.{Option, Some, None}
use Rattle.ipdl_base.specs.declared.files.FileBytes.{FileBytes}
use Rattle.ipdl_base.specs.declared.files.FileBytes.TheVariants.{Absent, Larger, Bytes}
use Rattle.ipdl_base.specs.Outside.{HasAtMost, IsHeldWithin}

-- some list is longer than any number
longer : (n : ℕ) → (xs : List ℕ) × (n < length xs)
longer n =
    let zeros : List ℕ = replicate (suc n) 0 in
    let long : length zeros ≡ suc n = length-replicate (suc n) 0 in
    (zeros, omega (arith, long))

-- whatever is found of a name, something has it
pub some_held : (most : ℕ) (found : FileBytes) → HasAtMost most found → (held : Option (List ℕ)) × IsHeldWithin most held found
some_held most Absent small = (None, refl)
some_held most Larger small = let more = longer most in (Some more.0, record { bytes = more.0; has = refl; large = more.1 })
some_held most (Bytes bytes) small = (Some bytes.items, (refl, small))
