-- What bytes are: blanks, bytes of words and signs.
use Rattle.std.proofs.Common.{◌≡◌, ℕ, true, false, List, [], ◌∷◌, ◌⊎◌, inl, inr, refl, sym, ap, ◌∙◌, eqb}
use Rattle.std.specs.List.{list_all}
use Rattle.std.proofs.lemmas.Bool.{true≢false, and_parts, or_cases, or_left, eqb-true, ne_eqb, cases_Bool}
use Rattle.ipdl_base.specs.Words.{is_word_start, is_word_byte, IsWord}
use Rattle.ipdl_lex.specs.Pieces.{is_blank}

-- the four blanks
blank_cases : (b : ℕ) → is_blank b ≡ true → (b ≡ 32) ⊎ ((b ≡ 9) ⊎ ((b ≡ 13) ⊎ (b ≡ 10)))
blank_cases b h = elim (or_cases (eqb 32 b) _ h) [
  | inl e ↦ inl (sym (eqb-true 32 b e))
  | inr others ↦ elim (or_cases (eqb 9 b) _ others) [
    | inl e ↦ inr (inl (sym (eqb-true 9 b e)))
    | inr two ↦ elim (or_cases (eqb 13 b) _ two) [
      | inl e ↦ inr (inr (inl (sym (eqb-true 13 b e))))
      | inr one ↦ elim (or_cases (eqb 10 b) _ one) [
        | inl e ↦ inr (inr (inr (sym (eqb-true 10 b e))))
        | inr none ↦ absurd (true≢false (sym none))
      ]
    ]
  ]
]

-- a blank is not a byte of a word
pub blank_no_word : (b : ℕ) → is_blank b ≡ true → is_word_byte b ≡ false
blank_no_word b h = elim (blank_cases b h) [
  | inl e ↦ rw e refl
  | inr others ↦ elim others [ inl e ↦ rw e refl | inr two ↦ elim two [ inl e ↦ rw e refl | inr e ↦ rw e refl ] ]
]

-- a word may contain each byte that may begin it
pub start_in_word : (b : ℕ) → is_word_start b ≡ true → is_word_byte b ≡ true
start_in_word b h = or_left (is_word_start b) _ h

-- a byte that begins a word is not a blank
pub start_no_blank : (b : ℕ) → is_word_start b ≡ true → is_blank b ≡ false
start_no_blank b h = elim (cases_Bool (is_blank b)) [
  | inl e ↦ absurd (true≢false (sym (start_in_word b h) ∙ blank_no_word b e))
  | inr e ↦ e
]

-- nor is it a byte with which no word begins
pub start_differs : (b n : ℕ) → is_word_start n ≡ false → is_word_start b ≡ true → eqb b n ≡ false
start_differs b n fails h = ne_eqb b n (λ e. true≢false (sym h ∙ ap is_word_start e ∙ fails))

-- a word may contain all bytes of a word
pub word_bytes : (word : List ℕ) → IsWord word → list_all is_word_byte word ≡ true
word_bytes [] h = absurd (true≢false (sym h))
word_bytes (b ∷ bs) h =
    let both = and_parts (is_word_start b) (list_all is_word_byte bs) h in
    rw (start_in_word b both.0, both.1) refl
