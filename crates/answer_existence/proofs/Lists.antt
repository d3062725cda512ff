-- A sync list has sections, or breaks a rule.
use Rattle.std.proofs.Common.{◌≡◌, ◌⊎◌, ℕ, ◌<◌, ◌≤◌, List, length, Option, Some, None, refl, sym, subst, inl, inr, ⊎_elim}
use Rattle.std.proofs.lemmas.Bool.{cases_lt}
use Rattle.ipdl_base.specs.Outside.{FileMap}
use Rattle.ipdl_base.specs.declared.files.TheConstants.{MOST_BYTES}
use Rattle.ipdl_base.specs.declared.finding.Finding.{Finding}
use Rattle.ipdl_base.specs.declared.finding.TheConstants.Rule as rule
use Rattle.include_graph.specs.Rules.{whole_file}
use Rattle.list_existence.specs.Laws.{HasBadLine, HasSections, ListsHaveAnswers}
use Rattle.report_existence.specs.Laws.{IsListed}
use Rattle.report_existence.proofs.Finite.{no_place, one_place, same_places}
use Rattle.sync_list.specs.declared.list.Section.{Section}
use Rattle.ipdl_top.specs.Lists.{AreSections, IsFaultOfList, finding_at}
use Rattle.ipdl_top.proofs.Compilations.{no_fault, one_list_fault}

-- what a list, named or not, is as the file with a number: its sections, or what it breaks
pub data ListCase (lists : FileMap) (list : Option (List ℕ)) (number : ℕ) : Type 0 where
  spells : (sections : Option (List Section)) → AreSections lists list sections → ((f : Finding) → IsFaultOfList lists list number f → ⊥) → ListCase lists list number
  breaks : (f : Finding) → IsFaultOfList lists list number f → ListCase lists list number

module _ (laws : ListsHaveAnswers) (lists : FileMap) (number : ℕ) where
  by_text : (word bytes : List ℕ) → lists word ≡ Some bytes → length bytes ≤ MOST_BYTES → HasSections bytes ⊎ HasBadLine bytes → ListCase lists (Some word) number
  by_text word bytes e small (inl (sections, is)) =
      let are : AreSections lists (Some word) (Some sections) = record { bytes = bytes; has = e; small = small; spells = is } in
      spells (Some sections) are (λ f. no_fault lists (Some word) (Some sections) number f are)
  by_text word bytes e small (inr (line, bad)) =
      breaks (finding_at rule.SYNTAX_FAULT (record { file = number; line = line; column = 1 })) (inr (inr (line, record { bytes = bytes; has = e; small = small; bad = bad }, refl)))

  by_held : (word : List ℕ) (held : Option (List ℕ)) → lists word ≡ held → ListCase lists (Some word) number
  by_held word None e = breaks (finding_at rule.FILE_NOT_FOUND (whole_file number)) (inl (e, refl))
  by_held word (Some bytes) e =
      ⊎_elim (λ (large : MOST_BYTES < length bytes). breaks (finding_at rule.TOO_LARGE (whole_file number)) (inr (inl (record { bytes = bytes; has = e; large = large }, refl))))
      (λ (small : length bytes ≤ MOST_BYTES). by_text word bytes e small (laws bytes)) (cases_lt MOST_BYTES (length bytes))

  pub list_case : (list : Option (List ℕ)) → ListCase lists list number
  list_case None = spells None tt (λ f h. h)
  list_case (Some word) = by_held word (lists word) refl

-- what it breaks is listed
pub faults_listed : (lists : FileMap) (list : Option (List ℕ)) (number : ℕ) → ListCase lists list number → IsListed (IsFaultOfList lists list number)
faults_listed lists list number (spells sections are none) = no_place (IsFaultOfList lists list number) none
faults_listed lists list number (breaks f is) =
    same_places (λ g. g ≡ f) (IsFaultOfList lists list number) (λ g e. subst (IsFaultOfList lists list number) (sym e) is) (λ g h. one_list_fault lists list number g f h is) (one_place f)
