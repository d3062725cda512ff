-- A token lies on one line.
use Rattle.std.proofs.Common.{◌≡◌, ◌≢◌, ℕ, Bool, ◌+◌, true, false, List, [], ◌∷◌, ◌++◌, Option, Some, length, refl, subst, sym, ap, ◌∙◌, ⊎_elim, arith}
use Rattle.std.specs.Prelude.{IsTrue}
use Rattle.std.specs.List.{AllByRecursion}
use Rattle.std.proofs.lemmas.Bool.{true≢false, eqb-true, cases_Bool}
use Rattle.std.proofs.lemmas.List.Elements.{recursion_from_All}
use Rattle.ipdl_base.specs.declared.finding.Place.{Place}
use Rattle.ipdl_base.specs.declared.token.TokenKind.{TokenKind}
use Rattle.ipdl_base.specs.declared.token.TokenKind.TheVariants.{Word, Reserved, Quoted, Mark}
use Rattle.ipdl_base.specs.Words.{is_word_start, is_word_byte, IsWord}
use Rattle.ipdl_lex.specs.Pieces.{is_line_feed, is_mark, IsQuoted, IsMark, Spells, IsPieceOf}
use Rattle.ipdl_lex.specs.Scan.{after_byte, after_bytes}
use Rattle.ipdl_lex.proofs.Classes.{word_first, word_rest, IsWord-from_reserved}

-- no byte of these is a line feed
abbrev IsFlat : List ℕ → Type 0
IsFlat bytes = AllByRecursion (λ b. is_line_feed b ≡ false) bytes

not_ten : (test : ℕ → Bool) (b : ℕ) → test b ≡ true → test 10 ≡ false → is_line_feed b ≡ false
not_ten test b h k =
    ⊎_elim (λ e. absurd (true≢false (sym h ∙ ap test (eqb-true b 10 e) ∙ k))) (λ e. e) (cases_Bool (is_line_feed b))

flat_bytes : (test : ℕ → Bool) → test 10 ≡ false → (bytes : List ℕ) → AllByRecursion (λ b. IsTrue (test b)) bytes → IsFlat bytes
flat_bytes test k [] h = tt
flat_bytes test k (b ∷ bs) h = (not_ten test b h.0 k, flat_bytes test k bs h.1)

flat_word : (bytes : List ℕ) → IsWord bytes → IsFlat bytes
flat_word [] h = tt
flat_word (b ∷ bs) h = (not_ten is_word_start b (word_first b bs h) refl, flat_bytes is_word_byte refl bs (word_rest b bs h))

flat_inner : (bytes : List ℕ) → AllByRecursion (λ c. (c ≢ 34) × (c ≢ 10)) bytes → IsFlat (bytes ++ 34 ∷ [])
flat_inner [] h = (refl, tt)
flat_inner (b ∷ bs) h =
    (⊎_elim (λ e. absurd (h.0.1 (eqb-true b 10 e))) (λ e. e) (cases_Bool (is_line_feed b)), flat_inner bs h.1)

flat_quoted : (bytes : List ℕ) → IsQuoted bytes → IsFlat bytes
flat_quoted bytes h =
    subst IsFlat (sym h.spelled) (refl, flat_inner h.inner (recursion_from_All (λ c. (c ≢ 34) × (c ≢ 10)) h.inner h.within_line))

flat_mark : (bytes : List ℕ) → IsMark bytes → IsFlat bytes
flat_mark bytes h =
    ⊎_elim
    (λ double. subst IsFlat (sym double) (refl, (refl, tt)))
    (λ single. subst IsFlat (sym single.2) (not_ten is_mark single.0 single.1 refl, tt))
    h

flat_token : (kind : TokenKind) (bytes : List ℕ) → Spells kind bytes → IsFlat bytes
flat_token Word bytes h = flat_word bytes h.0
flat_token Reserved bytes h = flat_word bytes (IsWord-from_reserved bytes h)
flat_token Quoted bytes h = flat_quoted bytes h
flat_token Mark bytes h = flat_mark bytes h

-- the place further on the line by this number of columns
abbrev further : Place → ℕ → Place
further here n = record { file = here.file; line = here.line; column = here.column + n }

after_flat_byte : (here : Place) (b : ℕ) → is_line_feed b ≡ false → after_byte here b ≡ further here 1
after_flat_byte here b h = rw h refl

after_flat : (here : Place) (bytes : List ℕ) → IsFlat bytes → after_bytes here bytes ≡ further here (length bytes)
after_flat here [] h = λ i. record { file = here.file; line = here.line; column = (let e : here.column ≡ here.column + 0 = omega arith in e i) }
after_flat here (b ∷ bs) h =
    let columns : here.column + 1 + length bs ≡ here.column + length (b ∷ bs) = omega arith in
    ap (λ p. after_bytes p bs) (after_flat_byte here b h.0)
    ∙ after_flat (further here 1) bs h.1
    ∙ (λ i. record { file = here.file; line = here.line; column = columns i })

-- the place after a token
pub after_token : (here : Place) (kind : Option TokenKind) (k : TokenKind) (bytes : List ℕ) → kind ≡ Some k → IsPieceOf kind bytes → after_bytes here bytes ≡ further here (length bytes)
after_token here kind k bytes e h = after_flat here bytes (flat_token k bytes (subst (λ o. IsPieceOf o bytes) e h))
