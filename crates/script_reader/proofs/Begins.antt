-- What begins a token, and that there is one token at a place.
use Rattle.std.proofs.Common.{◌≡◌, ℕ, ◌<◌, Bool, true, false, cond, pos, ◌-ℤ◌, List, [], ◌∷◌, ◌==◌, length, drop, subst, inl, inr, refl, sym, ap, ◌∙◌, arith}
use Rattle.std.specs.List.{prefix_len, list_all}
use Rattle.std.proofs.lemmas.Bool.{cases_Bool, or_left, and_parts}
use Rattle.std.proofs.Math.Seq.{drop-length}
use Rattle.ipdl_base.specs.Words.{is_word_start, is_word_byte}
use Rattle.script_reader.specs.declared.token.TokenClass.{TokenClass}
use Rattle.script_reader.specs.declared.token.TokenClass.TheVariants as class
use Rattle.script_reader.specs.declared.token.ScriptToken.{ScriptToken}
use Rattle.script_reader.specs.declared.token.ScriptToken.TheVariants as token
use Rattle.script_reader.specs.Tokens.{is_blank, following, hex_at, character_at, is_digit, is_mark, begins_bytes, class_of, IsNumber, IsTokenOf, IsToken}
use Rattle.script_reader.proofs.Sequences.{one_in_quotes, quote_no_character, quote_no_digits}

neither : (b : Bool) (x y z : TokenClass) → ¬ (x ≡ z) → ¬ (y ≡ z) → ¬ (cond b x y ≡ z)
neither true x y z f g = f
neither false x y z f g = g

-- what may begin a word may be in a word
pub word_start : (b : ℕ) (to : List ℕ) → class_of (b ∷ to) ≡ class.Word → is_word_start b ≡ true
word_start b to h = elim (cases_Bool (is_word_start b)) [
  | inl e ↦ e
  | inr e ↦ absurd (neither (begins_bytes b to) class.Bytes _ class.Word (λ e. let no : ⊥ = cc in no)
      (neither (b == 36) class.Param _ class.Word (λ e. let no : ⊥ = cc in no)
      (neither (b == 64) class.Index _ class.Word (λ e. let no : ⊥ = cc in no)
      (neither (b == 45) class.Negative _ class.Word (λ e. let no : ⊥ = cc in no)
      (neither (is_digit b) class.Number _ class.Word (λ e. let no : ⊥ = cc in no)
      (neither (b == 34) class.Text _ class.Word (λ e. let no : ⊥ = cc in no)
      (neither (is_mark b) class.Mark class.Other class.Word (λ e. let no : ⊥ = cc in no) (λ e. let no : ⊥ = cc in no)))))))
      (rw e at h))
]

pub word_begins : (bytes : List ℕ) → class_of bytes ≡ class.Word → 0 < prefix_len is_word_byte bytes
word_begins [] h = absurd (let no : ⊥ = cc in no)
word_begins (b ∷ to) h =
    let start = word_start b to h in
    let inside : is_word_byte b ≡ true = or_left (is_word_start b) _ start in
    rw inside (omega arith)

one_number : (limit m n : ℕ) (from to end : List ℕ) → IsNumber limit m from to → IsNumber limit n from end → (m ≡ n) × (to ≡ end)
one_number limit m n from to end x y = (x.value ∙ sym y.value, x.rest ∙ sym y.rest)

one_of : (k : TokenClass) (t u : ScriptToken) (from to end : List ℕ) → IsTokenOf k t from to → IsTokenOf k u from end → (t ≡ u) × (to ≡ end)
one_of class.Word t u from to end x y = (x.0 ∙ sym y.0, x.1 ∙ sym y.1)
one_of class.Param t u from to end x y = let e = one_number _ x.0 y.0 _ to end x.2 y.2 in (x.1 ∙ ap token.Param e.0 ∙ sym y.1, e.1)
one_of class.Index t u from to end x y = let e = one_number _ x.0 y.0 _ to end x.2 y.2 in (x.1 ∙ ap token.Index e.0 ∙ sym y.1, e.1)
one_of class.Negative t u from to end x y = let e = one_number _ x.0 y.0 _ to end x.2 y.2 in (x.1 ∙ ap (λ n. token.Number (pos 0 -ℤ pos n)) e.0 ∙ sym y.1, e.1)
one_of class.Number t u from to end x y = let e = one_number _ x.0 y.0 _ to end x.2 y.2 in (x.1 ∙ ap (λ n. token.Number (pos n)) e.0 ∙ sym y.1, e.1)
one_of class.Text t u from to end x y =
    let e = one_in_quotes character_at x.0 y.0 _ to end quote_no_character x.3 y.3 in
    (x.1 ∙ ap token.Text e.0 ∙ sym y.1, e.1)
one_of class.Bytes t u from to end x y =
    let e = one_in_quotes hex_at x.0 y.0 _ to end quote_no_digits x.2 y.2 in
    (x.1 ∙ ap token.Bytes e.0 ∙ sym y.1, e.1)
one_of class.Mark t u from to end x y = (x.0 ∙ sym y.0, x.1 ∙ sym y.1)
one_of class.Other t u from to end x y = absurd x

-- there is one token at a place
pub one_token : (t u : ScriptToken) (from to end : List ℕ) → IsToken t from to → IsToken u from end → (t ≡ u) × (to ≡ end)
one_token t u from to end x y = one_of (class_of from) t u from to end x y

all_pass : (bytes : List ℕ) → list_all is_blank bytes ≡ true → prefix_len is_blank bytes ≡ length bytes
all_pass [] h = refl
all_pass (b ∷ bytes) h =
    let both = and_parts (is_blank b) (list_all is_blank bytes) h in
    rw both.0 (omega (arith, all_pass bytes both.1))

-- there is no token after blanks only
pub blank_no_token : (line : List ℕ) (t : ScriptToken) (to : List ℕ) → list_all is_blank line ≡ true → ¬ IsToken t (following is_blank line) to
blank_no_token line t to h is =
    let none : following is_blank line ≡ [] = ap (λ n. drop n line) (all_pass line h) ∙ drop-length line in
    let P : List ℕ → Type 0 = λ l. IsToken t l to in
    subst P none is
