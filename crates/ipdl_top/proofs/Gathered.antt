-- How the findings of all rules are put together.
use Rattle.std.proofs.Common.{◌≡◌, ◌≢◌, ◌<◌, ◌⊎◌, List, [], ◌∷◌, Option, inl, inr, length, refl, subst, sym, arith}
use Rattle.std.specs.Prelude.{◌↔◌}
use Rattle.std.specs.List.{Contains}
use Rattle.std.proofs.lemmas.List.Elements.{Contains-push, Contains-push_cases}
use Rattle.ipdl_base.specs.declared.finding.Finding.{Finding}
use Rattle.ipdl_syntax.specs.declared.program.Entry.{Entry}
use Rattle.ipdl_syntax.specs.Programs.{IsProgram, BearTheirNames}
use Rattle.findings.specs.Gains.{Gains}
use Rattle.findings.specs.Report.{IsReport}
use Rattle.findings.proofs.Gathers.{Gains-then}
use Rattle.program_schema.specs.Clean.{IsClean}
use Rattle.sync_list.specs.declared.list.Section.{Section}
use Rattle.ipdl_top.specs.CommandAnswer.{BreaksRules}

-- the list has exactly the findings with this property
abbrev pub Has : List Finding → (Finding → Type 0) → Type 0
Has found Holds = (f : Finding) → Contains found f ↔ Holds f

-- what three kinds of rule added, to nothing
pub of_three : (P Q S : Finding → Type 0) (none a b found : List Finding) → none ≡ [] → Gains P none a → Gains Q a b → Gains S b found → Has found (λ f. P f ⊎ (Q f ⊎ S f))
of_three P Q S none a b found empty one two three f =
    let all = Gains-then P (λ f. Q f ⊎ S f) none a found one (Gains-then Q S a b found two three) in (
      λ h. elim ((all.exact f).0 h) [ inl old ↦ absurd (let at : Contains [] f = subst (λ (fs : List Finding). Contains fs f) empty old in let no : ⊥ = omega (arith, at.1) in no) | inr p ↦ p ],
      λ p. (all.exact f).1 (inr p),
    )

-- nothing is broken where nothing is found
pub nothing : {Breaks : Finding → Type 0} (found : List Finding) → found ≡ [] → Has found Breaks → (f : Finding) → ¬ Breaks f
nothing found none has f b =
    let at : Contains [] f = subst (λ (fs : List Finding). Contains fs f) none ((has f).1 b) in
    let no : ⊥ = omega (arith, at.1) in
    no

-- the report of what is found is not empty, where something is
pub some_reported : (found report : List Finding) → 0 < length found → IsReport (Contains found) report → report ≢ []
some_reported [] report some r none = absurd (omega arith)
some_reported (f ∷ found) report some r none =
    let at : Contains [] f = subst (λ (fs : List Finding). Contains fs f) none ((r.exact f).1 (0, some, refl)) in
    let no : ⊥ = omega (arith, at.1) in
    no

-- such a program is clean
pub clean_of : (program : List Entry) (sections : Option (List Section)) (found : List Finding) → IsProgram program → BearTheirNames program → found ≡ [] → Has found (BreaksRules program sections) → IsClean program
clean_of program sections found whole named none has =
    let clean : (f : Finding) → ¬ BreaksRules program sections f = nothing found none has in
    record {
      is_program = whole;
      named = named;
      types = λ f h. clean f (inl h);
      managers = λ f h. clean f (inr (inl (inl h)));
      messages = λ f h. clean f (inr (inl (inr h)));
    }

-- one finding
pub of_one : (finding : Finding) → Has (finding ∷ []) (λ f. f ≡ finding)
of_one finding f = (
  λ h. elim (Contains-push_cases [] finding f h) [ inl none ↦ absurd (omega (arith, none.1)) | inr e ↦ sym e ],
  λ e. subst (λ (g : Finding). Contains (finding ∷ []) g) (sym e) (Contains-push [] finding),
)
