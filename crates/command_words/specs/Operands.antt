-- The words of a command that works on an input file by a script and a program.
use Rattle.std.specs.Prelude.{◌≡◌, ℕ, List, [], ◌∷◌, ◌++◌, codes}

-- SCRIPT, FILE, which ends in `.ipdl`, and the input file
pub record AreScriptOperands (words : List (List ℕ)) (script file input : List ℕ) : Type 0 where
  pub front : List ℕ
  pub ending : file ≡ front ++ codes ".ipdl"
  pub all : words ≡ script ∷ file ∷ input ∷ []
