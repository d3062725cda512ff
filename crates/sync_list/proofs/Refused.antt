-- Lines that have no form after the lines before them.
use Rattle.std.proofs.Common.{◌≡◌, ℕ, true, false, eqb, List, length, None, sym, ap, ◌∙◌, subst, arith}
use Rattle.std.specs.List.{list_any, Contains}
use Rattle.std.proofs.lemmas.Bool.{true≢false, eqb-true, eq-eqb, false_from_ne_true, true_from_ne_false}
use Rattle.std.proofs.lemmas.Option.{none-some}
use Rattle.sync_list.specs.declared.list.Section.{Section}
use Rattle.sync_list.specs.Lines.{IsSectionLine, IsValueLine, IsIndented}
use Rattle.sync_list.specs.Forms.{LineForm, blank, comment, section, value, more, is_section, open_word}
use Rattle.sync_list.specs.Lists.{sections_from}
use Rattle.sync_list.specs.Reading.{IsOther, IsBad}
use Rattle.sync_list.proofs.Grown.{sections-none, sections-some}
use Rattle.sync_list.proofs.Tags.{form_tag, fits_tag, section_tag, value_tag, indented_tag, one_section}

-- a section that is repeated
pub bad_section : (forms : List LineForm) (line protocol message : List ℕ) → IsSectionLine line protocol message → Contains forms (section protocol message) → IsBad forms line
bad_section forms line p m s there (section q n) h =
    let e = one_section line p m q n s h.0 in
    let P : LineForm → Type 0 = λ f. Contains forms f in
    h.1 (subst P (ap (λ r. section r m) e.0 ∙ ap (section q) e.1) there)
bad_section forms line p m s there form h = let e : form_tag form ≡ 2 = fits_tag forms line form h ∙ section_tag line p m s in omega (arith, e)

-- a value that is in no section
pub bad_value : (forms : List LineForm) (line word bytes : List ℕ) → IsValueLine line word bytes → list_any is_section forms ≡ false → IsBad forms line
bad_value forms line w b v none (value u c) h = true≢false (sym h.1 ∙ none)
bad_value forms line w b v none form h = let e : form_tag form ≡ 3 = fits_tag forms line form h ∙ value_tag line w b v in omega (arith, e)

-- a line that has nothing to continue
pub bad_indented : (forms : List LineForm) (line : List ℕ) → IsIndented line → open_word forms ≡ None → IsBad forms line
bad_indented forms line i none (more w) h = none-some w (sym none ∙ h.1)
bad_indented forms line i none form h = let e : form_tag form ≡ 4 = fits_tag forms line form h ∙ indented_tag line i in omega (arith, e)

-- a line that is of no kind of single lines
pub bad_other : (forms : List LineForm) (line : List ℕ) → IsOther line → IsBad forms line
bad_other forms line o blank h = o.no_blank_line h
bad_other forms line o comment h = o.no_comment h
bad_other forms line o (section p m) h = o.no_section p m h.0
bad_other forms line o (value w b) h = o.no_value w b h.0
bad_other forms line o (more w) h = o.no_indented h.0

-- if the reader has no section, there is no section
pub none_yet : (forms : List LineForm) (sections : List Section) (n : ℕ) → sections ≡ sections_from 1 forms → n ≡ length sections → eqb n 0 ≡ true → list_any is_section forms ≡ false
none_yet forms sections n are counted empty = false_from_ne_true (list_any is_section forms) (λ h.
    let s = sections-some 1 forms h in
    let same = ap length (are ∙ s.2) in
    omega (arith, same, counted, eqb-true n 0 empty))

-- if the reader has a section, there is one
pub some_yet : (forms : List LineForm) (sections : List Section) (n : ℕ) → sections ≡ sections_from 1 forms → n ≡ length sections → eqb n 0 ≡ false → list_any is_section forms ≡ true
some_yet forms sections n are counted some = true_from_ne_false (list_any is_section forms) (λ h.
    let same = ap length (are ∙ sections-none 1 forms h) in
    true≢false (sym (eq-eqb n 0 (omega (arith, same, counted))) ∙ some))
