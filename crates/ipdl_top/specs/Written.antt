-- What is written of an answer.
use Rattle.std.specs.Prelude.{◌≡◌, ◌≢◌, ◌⊎◌, ℕ, List, [], ◌++◌, Option}
use Rattle.ipdl_base.specs.Outside.{Appends}
use Rattle.ipdl_top.specs.declared.answer.CommandAnswer.{CommandAnswer}

-- What is written so far to a sink, before a call and after it, if it is known.
pub record Writing : Type 0 where
  pub old : Option (List ℕ)
  pub new : Option (List ℕ)

-- a prefix of the text was written, perhaps nothing, and not all of it
pub record AppendsPrefix (old new : Option (List ℕ)) (text : List ℕ) : Type 0 where
  pub front : List ℕ
  pub rest : List ℕ
  pub split : text ≡ front ++ rest
  pub missing : rest ≢ []
  pub appended : Appends old new front

-- all of the answer was written
pub record WritesAll (answer : CommandAnswer) (out err : Writing) : Type 0 where
  pub out_text : Appends out.old out.new answer.out
  pub err_text : Appends err.old err.new answer.err

-- a prefix was written of the text for `out` and then the text for `err`: nothing to `err` unless all of the first went to `out`
abbrev pub WritesPrefix : CommandAnswer → Writing → Writing → Type 0
WritesPrefix answer out err =
    (AppendsPrefix out.old out.new answer.out × Appends err.old err.new []) ⊎ (Appends out.old out.new answer.out × AppendsPrefix err.old err.new answer.err)
