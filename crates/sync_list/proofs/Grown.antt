-- The sections of lines, when one more line is read.
use Rattle.std.proofs.Common.{◌≡◌, ℕ, ◌+◌, Bool, true, false, not, ◌||◌, ◌&&◌, List, [], ◌∷◌, ◌++◌, length, inl, inr, refl, sym, ap, ◌∙◌, append_assoc, arith}
use Rattle.std.specs.List.{list_any}
use Rattle.std.proofs.lemmas.Bool.{true≢false, cases_Bool, or_parts}
use Rattle.sync_list.specs.declared.list.Section.{Section}
use Rattle.sync_list.specs.Forms.{LineForm, blank, comment, section, value, more, is_section, word_of, open_word}
use Rattle.sync_list.specs.Lists.{describes, is_described, section_at, sections_from}
use Rattle.sync_list.specs.Marked.{marked}

-- the word of the last line counts
pub open_word-push : (forms : List LineForm) (form : LineForm) → open_word (forms ++ form ∷ []) ≡ word_of form
open_word-push [] form = refl
open_word-push (first ∷ []) form = refl
open_word-push (first ∷ second ∷ forms) form = open_word-push (second ∷ forms) form

described-section : (protocol message : List ℕ) (forms : List LineForm) → is_described (forms ++ section protocol message ∷ []) ≡ is_described forms
described-section p m [] = refl
described-section p m (form ∷ forms) = rw (described-section p m forms) refl

a_section : List ℕ → List ℕ → Bool → ℕ → Section
a_section protocol message described line = record { protocol = protocol; message = message; described = described; line = line }

-- a section line adds a section, which is not described yet
pub sections-section : (n line : ℕ) (protocol message : List ℕ) (forms : List LineForm) → line ≡ n + length forms → sections_from n (forms ++ section protocol message ∷ []) ≡ sections_from n forms ++ record { protocol = protocol; message = message; described = false; line = line } ∷ []
unfolding a_section
sections-section n line p m [] e = let same : n ≡ line = omega (arith, e) in ap (λ k. a_section p m false k ∷ []) same
sections-section n line p m (form ∷ forms) e =
    rw (described-section p m forms)
    (ap (λ l. section_at n form (is_described forms) ++ l) (sections-section (n + 1) line p m forms (omega (arith, e)))
    ∙ sym (append_assoc (section_at n form (is_described forms)) (sections_from (n + 1) forms) (a_section p m false line ∷ [])))

or_grown : (b x y : Bool) → (b || (x || y)) ≡ ((b || x) || y)
or_grown true x y = refl
or_grown false x y = refl

or_last : (b : Bool) → (b || false) ≡ b
or_last true = refl
or_last false = refl

or_first : (d : Bool) → (d || false) ≡ (false || (true && d))
or_first true = refl
or_first false = refl

described-other : (form : LineForm) → is_section form ≡ false → (forms : List LineForm) → is_described (forms ++ form ∷ []) ≡ (is_described forms || (not (list_any is_section forms) && describes form))
described-other form none [] = rw none (or_first (describes form))
described-other form none (first ∷ forms) = elim (cases_Bool (is_section first)) [
  | inl h ↦ rw h refl
  | inr h ↦ rw (h, described-other form none forms) (or_grown (describes first) (is_described forms) (not (list_any is_section forms) && describes form))
]

no_section_at : (n : ℕ) (form : LineForm) (described : Bool) → is_section form ≡ false → section_at n form described ≡ []
no_section_at n blank described h = refl
no_section_at n comment described h = refl
no_section_at n (section p m) described h = absurd (true≢false h)
no_section_at n (value w b) described h = refl
no_section_at n (more w) described h = refl

-- if no line is a section, there are no sections
pub sections-none : (n : ℕ) (forms : List LineForm) → list_any is_section forms ≡ false → sections_from n forms ≡ []
sections-none n [] h = refl
sections-none n (form ∷ forms) h = let both = or_parts (is_section form) (list_any is_section forms) h in rw (no_section_at n form (is_described forms) both.0) (sections-none (n + 1) forms both.1)

-- if some line is a section, there is a section
pub sections-some : (n : ℕ) (forms : List LineForm) → list_any is_section forms ≡ true → (first : Section) × (others : List Section) × (sections_from n forms ≡ first ∷ others)
unfolding a_section
sections-some n [] h = absurd (true≢false (sym h))
sections-some n (blank ∷ forms) h = sections-some (n + 1) forms h
sections-some n (comment ∷ forms) h = sections-some (n + 1) forms h
sections-some n (section p m ∷ forms) h = (a_section p m (is_described forms) n, sections_from (n + 1) forms, refl)
sections-some n (value w b ∷ forms) h = sections-some (n + 1) forms h
sections-some n (more w ∷ forms) h = sections-some (n + 1) forms h

-- any other line marks the last section as described, if it describes the section
pub sections-other : (form : LineForm) → is_section form ≡ false → (n : ℕ) (forms : List LineForm) → sections_from n (forms ++ form ∷ []) ≡ marked (describes form) (sections_from n forms)
sections-other form none n [] = ap (λ l. l ++ []) (no_section_at n form false none)
sections-other form none n (blank ∷ forms) = sections-other form none (n + 1) forms
sections-other form none n (comment ∷ forms) = sections-other form none (n + 1) forms
sections-other form none n (value w b ∷ forms) = sections-other form none (n + 1) forms
sections-other form none n (more w ∷ forms) = sections-other form none (n + 1) forms
sections-other form none n (section p m ∷ forms) =
    let d = describes form in
    let later = sections_from (n + 1) forms in
    let grown = sections-other form none (n + 1) forms in
    let more_described = described-other form none forms in
    elim (cases_Bool (list_any is_section forms)) [
      | inl h ↦ (
          let s = sections-some (n + 1) forms h in
          let same : is_described (forms ++ form ∷ []) ≡ is_described forms = more_described ∙ rw h (or_last (is_described forms)) in
          rw (same, grown, s.2) refl
          )
      | inr h ↦ (
          let empty = sections-none (n + 1) forms h in
          let same : is_described (forms ++ form ∷ []) ≡ (is_described forms || d) = more_described ∙ rw h refl in
          rw (same, grown, empty) refl
          )
    ]

-- nothing is marked if a line describes nothing
pub marked-false : (sections : List Section) → marked false sections ≡ sections
unfolding a_section
marked-false [] = refl
marked-false (s ∷ []) = ap (λ b. a_section s.protocol s.message b s.line ∷ []) (or_last s.described)
marked-false (s ∷ t ∷ others) = ap (λ l. s ∷ l) (marked-false (t ∷ others))
