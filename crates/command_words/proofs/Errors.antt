-- What is known of an error that `?` hands on.
use Rattle.std.proofs.Common.{Result, Ok, Err, IfErr, IsErrAnd}
use Rattle.command_words.specs.declared.fault.WordsFault.{WordsFault}

-- a property of the only error
pub of_error : {T : Type 0} (r : Result T WordsFault) (P Q : WordsFault → Type 0) → IsErrAnd r P → ((e : WordsFault) → P e → Q e) → IfErr r Q
of_error (Ok x) P Q h weaker = tt
of_error (Err e) P Q h weaker = weaker e h

-- and what follows from a property of an error
pub weaker : {T : Type 0} (r : Result T WordsFault) (P Q : WordsFault → Type 0) → IfErr r P → ((e : WordsFault) → P e → Q e) → IfErr r Q
weaker (Ok x) P Q h more = tt
weaker (Err e) P Q h more = more e h
