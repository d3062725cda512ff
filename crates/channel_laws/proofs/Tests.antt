-- What tests imply for their parts.
use Rattle.std.proofs.Common.{◌≡◌, Bool, true, false, not, refl}

pub not-false : (b : Bool) → not b ≡ true → b ≡ false
not-false true e = cc
not-false false e = refl
