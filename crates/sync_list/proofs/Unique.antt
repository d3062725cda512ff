-- A text spells at most one list, has at most one fault, and never both.
use Rattle.std.proofs.Common.{◌≡◌, ℕ, ◌+◌, ◌<◌, List, [], ◌∷◌, ◌++◌, length, Result, Ok, Err, ◌⊎◌, inl, inr, refl, subst, ap, ◌∙◌, sym, append_assoc, arith}
use Rattle.std.specs.Prelude.{IfOk, IfErr}
use Rattle.std.proofs.lemmas.Bool.{cases_order}
use Rattle.std.proofs.lemmas.List.{append-nil}
use Rattle.sync_list.specs.declared.list.Section.{Section}
use Rattle.sync_list.specs.declared.list.ListFault.{ListFault}
use Rattle.sync_list.specs.declared.list.ListFault.TheVariants.{Line, NoMemory}
use Rattle.sync_list.specs.Forms.{LineForm, HaveForms}
use Rattle.sync_list.specs.Lists.{sections_from, IsListOf, IsFirstBad, IsFault, Gives}
use Rattle.sync_list.specs.Laws.{OneList, OneFault, NeverBoth}
use Rattle.sync_list.specs.Reading.{IsBad}
use Rattle.sync_list.proofs.Tags.{one_form}

-- lines have at most one list of forms
one_forms : (before : List LineForm) (lines : List (List ℕ)) (a b : List LineForm) → HaveForms before lines a → HaveForms before lines b → a ≡ b
one_forms before [] [] [] x y = refl
one_forms before [] [] (g ∷ b) x y = absurd y
one_forms before [] (f ∷ a) b x y = absurd x
one_forms before (line ∷ lines) [] b x y = absurd x
one_forms before (line ∷ lines) (f ∷ a) [] x y = absurd y
one_forms before (line ∷ lines) (f ∷ a) (g ∷ b) x y =
    let e = one_form before line f g x.0 y.0 in
    let P : LineForm → Type 0 = λ h. HaveForms (before ++ h ∷ []) lines a in
    ap (λ h. h ∷ a) e ∙ ap (λ hs. g ∷ hs) (one_forms (before ++ g ∷ []) lines a b (subst P e x.1) y.1)

pub one_list : OneList
one_list text a b x y = x.sections ∙ ap (sections_from 1) (one_forms [] _ x.forms y.forms x.each y.each) ∙ sym y.sections

-- lines that have forms have no bad one among them
none_bad : (done : List LineForm) (before : List (List ℕ)) (line : List ℕ) (after : List (List ℕ)) (forms all : List LineForm)
    → HaveForms done (before ++ line ∷ after) all → HaveForms done before forms → ¬ IsBad (done ++ forms) line
none_bad done [] line after [] [] x y bad = x
none_bad done [] line after [] (f ∷ all) x y bad = let P : List LineForm → Type 0 = λ fs. IsBad fs line in subst P (append-nil done) bad f x.0
none_bad done [] line after (f ∷ forms) all x y bad = y
none_bad done (first ∷ before) line after [] all x y bad = y
none_bad done (first ∷ before) line after (f ∷ forms) [] x y bad = x
none_bad done (first ∷ before) line after (f ∷ forms) (g ∷ all) x y bad =
    let e = one_form done first f g y.0 x.0 in
    let P : LineForm → Type 0 = λ h. HaveForms (done ++ h ∷ []) before forms in
    let Q : List LineForm → Type 0 = λ fs. IsBad fs line in
    let regrouped : done ++ f ∷ forms ≡ (done ++ g ∷ []) ++ forms = ap (λ h. done ++ h ∷ forms) e ∙ sym (append_assoc done (g ∷ []) forms) in
    none_bad (done ++ g ∷ []) before line after forms all x.1 (subst P e y.1) (subst Q regrouped bad)

-- of two indices in a list, the elements before the later one include that at the earlier one
reaches : (before : List (List ℕ)) (line : List ℕ) (after before2 : List (List ℕ)) (line2 : List ℕ) (after2 : List (List ℕ))
    → before ++ line ∷ after ≡ before2 ++ line2 ∷ after2 → length before < length before2 → (rest : List (List ℕ)) × (before2 ≡ before ++ line ∷ rest)
reaches before line after [] line2 after2 e lt = absurd (omega (arith, lt))
reaches [] line after (x ∷ xs) line2 after2 e lt = (xs, let h : x ≡ line = cc in ap (λ l. l ∷ xs) h)
reaches (y ∷ ys) line after (x ∷ xs) line2 after2 e lt =
    let h : x ≡ y = cc in
    let t : ys ++ line ∷ after ≡ xs ++ line2 ∷ after2 = cc in
    let r = reaches ys line after xs line2 after2 t (omega (arith, lt)) in
    (r.0, ap (λ l. l ∷ xs) h ∙ ap (λ ls. y ∷ ls) r.1)

not_later : (text : List ℕ) (m n : ℕ) (x : IsFirstBad text m) (y : IsFirstBad text n) → ¬ (length x.before < length y.before)
not_later text m n x y lt =
    let r = reaches x.before x.line x.after y.before y.line y.after (sym x.lines ∙ y.lines) lt in
    let P : List (List ℕ) → Type 0 = λ ls. HaveForms [] ls y.forms in
    none_bad [] x.before x.line r.0 x.forms y.forms (subst P r.1 y.each) x.each x.bad

one_bad : (text : List ℕ) (m n : ℕ) → IsFirstBad text m → IsFirstBad text n → m ≡ n
one_bad text m n x y = elim (cases_order (length x.before) (length y.before)) [
  | inl e ↦ x.counted ∙ ap (λ k. k + 1) e ∙ sym y.counted
  | inr other ↦ elim other [ inl lt ↦ absurd (not_later text m n x y lt) | inr gt ↦ absurd (not_later text n m y x gt) ]
]

pub one_fault : OneFault
one_fault text (Line m) (Line n) x y = ap Line (one_bad text m n x y)
one_fault text (Line m) NoMemory x y = absurd y
one_fault text NoMemory b x y = absurd x

pub never_both : NeverBoth
never_both text list (Line n) x y =
    let P : List (List ℕ) → Type 0 = λ ls. HaveForms [] ls x.forms in
    none_bad [] y.before y.line y.after y.forms x.forms (subst P y.lines x.each) y.each y.bad
never_both text list NoMemory x y = y

-- the list that is read is the one that the text spells
pub only_list : (text : List ℕ) (r : Result (List Section) ListFault) → IfOk r (IsListOf text) → IfErr r (λ fault. (fault ≡ NoMemory) ⊎ IsFault text fault) → (list : List Section) → IsListOf text list → Gives r (Ok list)
only_list text (Ok found) ok err list x = inr (ap Ok (one_list text found list ok x))
only_list text (Err fault) ok err list x = elim err [ inl e ↦ inl (ap Err e) | inr h ↦ absurd (never_both text list fault x h) ]

-- the fault is the one that the text has
pub only_fault : (text : List ℕ) (r : Result (List Section) ListFault) → IfOk r (IsListOf text) → IfErr r (λ fault. (fault ≡ NoMemory) ⊎ IsFault text fault) → (fault : ListFault) → IsFault text fault → Gives r (Err fault)
only_fault text (Ok found) ok err fault x = absurd (never_both text found fault ok x)
only_fault text (Err other) ok err fault x = elim err [ inl e ↦ inl (ap Err e) | inr h ↦ inr (ap Err (one_fault text other fault h x)) ]
