-- The lines of a text, read one by one.
use Rattle.std.proofs.Common.{◌≡◌, ℕ, ◌+◌, ◌<◌, List, [], ◌∷◌, ◌++◌, length, take, drop, get_or, refl, sym, ap, ◌∙◌, subst, append_assoc, arith}
use Rattle.std.proofs.lemmas.List.{take-append-drop, drop_more, append-nil}
use Rattle.sync_list.specs.declared.reader.ListReader.{ListReader}
use Rattle.sync_list.specs.Lines.{lines_of}
use Rattle.sync_list.specs.Forms.{LineForm, Fits, HaveForms}
use Rattle.sync_list.specs.Lists.{IsListOf, IsFirstBad}
use Rattle.sync_list.specs.Reading.{HasRead, ReadsLine, IsBad}

-- the reader has read these lines
pub record HasReadLines (lines : List (List ℕ)) (reader : ListReader) : Type 0 where
  pub forms : List LineForm
  pub each : HaveForms [] lines forms
  pub following : HasRead forms reader

-- the numbers of forms and lines are the same
HaveForms-length : (done : List LineForm) (lines : List (List ℕ)) (forms : List LineForm) → HaveForms done lines forms → length forms ≡ length lines
HaveForms-length done [] [] h = refl
HaveForms-length done [] (f ∷ forms) h = absurd h
HaveForms-length done (l ∷ lines) [] h = absurd h
HaveForms-length done (l ∷ lines) (f ∷ forms) h = let e = HaveForms-length (done ++ f ∷ []) lines forms h.1 in omega (arith, e)

-- one more line has a form after them
HaveForms-push : (done : List LineForm) (lines : List (List ℕ)) (forms : List LineForm) (line : List ℕ) (form : LineForm) → HaveForms done lines forms → Fits (done ++ forms) line form → HaveForms done (lines ++ line ∷ []) (forms ++ form ∷ [])
HaveForms-push done [] [] line form h fits = let P : List LineForm → Type 0 = λ fs. Fits fs line form in (subst P (append-nil done) fits, tt)
HaveForms-push done [] (f ∷ forms) line form h fits = absurd h
HaveForms-push done (l ∷ lines) [] line form h fits = absurd h
HaveForms-push done (l ∷ lines) (f ∷ forms) line form h fits =
    let P : List LineForm → Type 0 = λ fs. Fits fs line form in
    (h.0, HaveForms-push (done ++ f ∷ []) lines forms line form h.1 (subst P (sym (append_assoc done (f ∷ []) forms)) fits))

-- one more line is read
pub reads_more : (lines more_lines : List (List ℕ)) (line : List ℕ) (number : ℕ) (old new : ListReader) → HasReadLines lines old → ((forms : List LineForm) → HasRead forms old → length forms + 1 ≡ number → ReadsLine forms line new) → number ≡ length lines + 1 → more_lines ≡ lines ++ line ∷ [] → HasReadLines more_lines new
reads_more lines more_lines line number old new read ok counted e =
    let count = HaveForms-length [] lines read.forms read.each in
    let next = ok read.forms read.following (omega (arith, count, counted)) in
    rw e (record {
      forms = read.forms ++ next.form ∷ [];
      each = HaveForms-push [] lines read.forms line next.form read.each next.fits;
      following = next.following;
    })

-- or it is the first that is bad
pub reads_bad : (text : List ℕ) (lines : List (List ℕ)) (line : List ℕ) (after : List (List ℕ)) (number : ℕ) (reader : ListReader) → HasReadLines lines reader → ((forms : List LineForm) → HasRead forms reader → IsBad forms line) → number ≡ length lines + 1 → lines_of text ≡ lines ++ line ∷ after → IsFirstBad text number
reads_bad text lines line after number reader read bad counted e = record {
  before = lines;
  line = line;
  after = after;
  lines = e;
  forms = read.forms;
  each = read.each;
  bad = bad read.forms read.following;
  counted = counted;
}

-- all lines are read
pub reads_all : (text : List ℕ) (lines : List (List ℕ)) (reader : ListReader) → HasReadLines lines reader → lines ≡ lines_of text → IsListOf text reader.sections.items
reads_all text lines reader read e = record {
  forms = read.forms;
  each = let P : List (List ℕ) → Type 0 = λ ls. HaveForms [] ls read.forms in subst P e read.each;
  sections = read.following.sections;
}

-- the lines so far, the next, and those after it
pub lines_at : (all : List (List ℕ)) (lines : List (List ℕ)) (line : List ℕ) → lines ≡ take (length lines) all → (length lines < length all) × (line ≡ get_or all (length lines) line) → all ≡ lines ++ line ∷ drop (length lines + 1) all
lines_at all lines line front next =
    let n = length lines in
    sym (take-append-drop n all) ∙ ap (λ l. l ++ drop n all) (sym front) ∙ ap (λ l. lines ++ l) (drop_more all n line next.0 ∙ ap (λ x. x ∷ drop (n + 1) all) (sym next.1))
