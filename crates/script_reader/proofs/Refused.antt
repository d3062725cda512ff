-- A reader refuses where its parts do.
use Rattle.std.proofs.Common.{◌≡◌, Result, Ok, Err, sym, subst}
use Rattle.std.specs.Prelude.{IfErr, IsErrAnd}
use Rattle.script_reader.specs.declared.stop.ReadFailure.{ReadFailure}
use Rattle.script_reader.specs.declared.stop.ReadFailure.TheVariants.{NoReading, NoMemory}
use Rattle.script_reader.specs.Reading.{Refuses}

refuses : (P Q : Type 0) (e : ReadFailure) → (P → Q) → Refuses P e → Refuses Q e
refuses P Q NoReading to r = to r
refuses P Q NoMemory to r = tt

-- what a `?` passes on: if nothing was read for a part, nothing is read for the whole
pub refuses_on : {T : Type 0} (P Q : Type 0) (result : Result T ReadFailure) (e : ReadFailure) → IsErrAnd result (λ x. x ≡ e) → (P → Q) → Refuses P e → IfErr result (Refuses Q)
refuses_on P Q (Ok x) e is to r = tt
refuses_on P Q (Err d) e is to r = let S : ReadFailure → Type 0 = Refuses Q in subst S (sym is) (refuses P Q e to r)

-- what a call passes on
pub refuses_as : {T : Type 0} (P Q : Type 0) (result : Result T ReadFailure) → (P → Q) → IfErr result (Refuses P) → IfErr result (Refuses Q)
refuses_as P Q (Ok x) to r = tt
refuses_as P Q (Err e) to r = refuses P Q e to r
