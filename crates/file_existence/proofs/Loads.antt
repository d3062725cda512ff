-- The files that words reach break a rule, or make a program.
use Rattle.std.proofs.Common.{◌⊎◌, ℕ, List, [], ◌∷◌, Contains, map, refl, inl, inr}
use Rattle.std.specs.Prelude.{◌↔◌}
use Rattle.ipdl_base.specs.declared.finding.Finding.{Finding}
use Rattle.include_graph.specs.Keys.{AreFileWords}
use Rattle.include_graph.specs.Reach.{IsReach}
use Rattle.include_graph.specs.Rules.{IsBroken}
use Rattle.include_graph.specs.Sources.{LoadInput, text_of}
use Rattle.report_existence.proofs.Finite.{contains_none}
use Rattle.file_existence.specs.Laws.{HasBrokenFiles, HasProgram, LoadsHaveAnswers}
use Rattle.file_existence.proofs.Findings.{findings_are_listed}
use Rattle.file_existence.proofs.Programs.{clean_files_have_programs}
use Rattle.file_existence.proofs.Reaches.{reaches_exist}

by_findings : (given : LoadInput) (keys : List (List ℕ)) → AreFileWords given.words → IsReach given keys → (found : List Finding) → ((f : Finding) → Contains found f ↔ IsBroken given keys f) → HasBrokenFiles given ⊎ HasProgram given
by_findings given keys words reach [] exact = inr (clean_files_have_programs given keys words reach (λ f broken. contains_none f ((exact f).1 broken)))
by_findings given keys words reach (f ∷ fs) exact = inl (
  record { findings = f ∷ fs; names = map (text_of given) keys },
  record { keys = keys; reach = reach; exact = exact; some = λ e. cc; called = refl },
)

pub loads_have_answers : LoadsHaveAnswers
loads_have_answers given words =
    let reach = reaches_exist given words in
    let found = findings_are_listed given reach.0 in
    by_findings given reach.0 words reach.1 found.0 found.1
