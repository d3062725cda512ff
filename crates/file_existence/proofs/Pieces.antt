-- A piece begins each text, or the text fails there.
use Rattle.std.proofs.Common.{◌≡◌, ◌⊎◌, ℕ, zero, suc, ◌+◌, ◌<◌, ◌==◌, not, List, [], ◌∷◌, ◌++◌, Option, Some, None, length, take, drop, get_or, unwrap_or, position, refl, sym, subst, ap, ◌∙◌, inl, inr, arith, true≢false}
use Rattle.std.specs.Prelude.{codes}
use Rattle.std.specs.Str.{bytes_eq}
use Rattle.std.proofs.lemmas.Bool.{cases_lt, eqb-true, eqb-false}
use Rattle.std.proofs.lemmas.Bool.Decides.{not_from_Decides}
use Rattle.std.proofs.lemmas.List.{get_or_past, take-append-drop}
use Rattle.ipdl_base.specs.declared.finding.Place.{Place}
use Rattle.ipdl_base.specs.declared.token.TokenKind.{TokenKind}
use Rattle.ipdl_base.specs.declared.token.TokenKind.TheVariants.{Word, Reserved, Quoted, Mark}
use Rattle.ipdl_base.specs.Words.{is_word_start, is_word_byte}
use Rattle.ipdl_base.proofs.Ends.{by_test, same_is}
use Rattle.ipdl_lex.specs.declared.token.LexFault.{LexFault}
use Rattle.ipdl_lex.specs.declared.token.LexFault.TheVariants.{BadByte, OpenComment, OpenString}
use Rattle.ipdl_lex.specs.Pieces.{is_blank, is_line_feed, is_mark, IsPieceOf}
use Rattle.ipdl_lex.specs.Tokens.{FailsAt, IsBadByte}
use Rattle.ipdl_lex.specs.Scan.{class_of, is_reserved, ends_quoted, ClosesAt, IsFront}
use Rattle.ipdl_lex.proofs.Classes.{piece_nonempty, slash_piece, slash-class}
use Rattle.ipdl_lex.proofs.Fronts.{blank_at, bad_byte, line_at, block_at, open_comment_at, quoted_at, open_string_at, no_quote-end, no_quote-line, double_at, mark_at, word_taken, word_front}
use Rattle.ipdl_lex.proofs.Words.{reserved_decided}

-- the text begins with a piece
abbrev pub HasFront : List ℕ → Type 0
HasFront text = (kind : Option TokenKind) × (len : ℕ) × IsFront text kind len

-- the text fails at its beginning, which is at this place
abbrev pub Fails : List ℕ → Place → Type 0
Fails text here = (fault : LexFault) × FailsAt text here fault

-- a text that begins with a letter
by_letter : (text : List ℕ) → class_of (get_or text 0 0) ≡ class_of 65 → HasFront text
by_letter text h =
    let n : ℕ = unwrap_or (position (λ c. not (is_word_byte c)) text) (length text) in
    let decided = reserved_decided (take n text) in
    by_test (is_reserved (take n text))
    (λ kept. (Some Reserved, n, word_front text n Reserved h refl (decided.0 kept)))
    (λ free. (Some Word, n, word_front text n Word h refl ((word_taken text n h refl).1, not_from_Decides (is_reserved (take n text)) decided free)))

-- a text that begins with a mark
by_mark : (text : List ℕ) → class_of (get_or text 0 0) ≡ class_of 58 → HasFront text
by_mark text h =
    by_test (bytes_eq (take 2 text) (codes "::"))
    (λ double. (Some Mark, 2, double_at text (drop 2 text) (sym (take-append-drop 2 text) ∙ ap (λ l. l ++ drop 2 text) (same_is (take 2 text) (codes "::") double))))
    (λ one. (Some Mark, 1, mark_at text h (λ rest e. true≢false (sym (ap (λ l. bytes_eq (take 2 l) (codes "::")) e) ∙ one))))

-- a text that begins with a quote, by where the quoted text ends
by_quote : (text : List ℕ) (here : Place) (end : Option ℕ) → class_of (get_or text 0 0) ≡ class_of 34 → end ≡ position ends_quoted (drop 1 text) → HasFront text ⊎ Fails text here
by_quote text here None h e = inr (OpenString here, (refl, open_string_at text (drop 1 text) refl h (no_quote-end (drop 1 text) e)))
by_quote text here (Some n) h e =
    by_test (get_or (drop 1 text) n 0 == 34)
    (λ quote. inl (Some Quoted, n + 2, quoted_at text (drop 1 text) n refl h e (eqb-true (get_or (drop 1 text) n 0) 34 quote)))
    (λ other. inr (OpenString here, (refl, open_string_at text (drop 1 text) refl h (no_quote-line (drop 1 text) n e (eqb-false (get_or (drop 1 text) n 0) 34 other)))))

-- the first number below a bound with this property, or no such number
first_below : (Holds : ℕ → Type 0) → ((k : ℕ) → Holds k ⊎ (Holds k → ⊥)) → (bound : ℕ)
    → ((n : ℕ) × Holds n × ((k : ℕ) → k < n → Holds k → ⊥)) ⊎ ((k : ℕ) → k < bound → Holds k → ⊥)
first_below Holds decide zero = inr (λ k below h. omega arith)
first_below Holds decide (suc n) = elim (first_below Holds decide n) [
  | inl found ↦ inl found
  | inr none ↦ elim (decide n) [
    | inl here ↦ inl (n, here, none)
    | inr not_here ↦ inr (λ k below h. elim (cases_lt k n) [ inl less ↦ none k less h | inr more ↦ (let is : k ≡ n = omega arith in not_here (subst Holds is h)) ])
  ]
]

closes_or_not : (text : List ℕ) (k : ℕ) → ClosesAt text k ⊎ (ClosesAt text k → ⊥)
closes_or_not text k =
    by_test (get_or text k 0 == 42)
    (λ star. by_test (get_or text (k + 1) 0 == 47)
    (λ slash. inl (record { star = eqb-true (get_or text k 0) 42 star; slash = eqb-true (get_or text (k + 1) 0) 47 slash }))
    (λ other. inr (λ c. eqb-false (get_or text (k + 1) 0) 47 other c.slash)))
    (λ other. inr (λ c. eqb-false (get_or text k 0) 42 other c.star))

-- nothing closes a comment past the end of a text
closes_within : (text : List ℕ) (k : ℕ) → ClosesAt text k → k < length text
closes_within text k c = elim (cases_lt k (length text)) [
  | inl less ↦ less
  | inr past ↦ absurd (let star = c.star in let none = get_or_past text k 0 past in omega arith)
]

-- a text that begins with `/*`
by_star : (text : List ℕ) (here : Place) → class_of (get_or text 0 0) ≡ class_of 47 → get_or text 1 0 ≡ 42 → HasFront text ⊎ Fails text here
by_star text here h star = elim (first_below (ClosesAt (drop 2 text)) (closes_or_not (drop 2 text)) (length (drop 2 text))) [
  | inl first ↦ inl (None, first.0 + 4, block_at text (drop 2 text) first.0 refl h star first.1 first.2)
  | inr none ↦ inr (OpenComment here, (refl, open_comment_at text (drop 2 text) refl h star (λ k c. none k (closes_within (drop 2 text) k c) c)))
]

-- no piece begins with a slash after which comes neither a slash nor a star
bad_slash : (b : ℕ) (bs : List ℕ) → class_of b ≡ class_of 47 → (get_or (b ∷ bs) 1 0 ≡ 47 → ⊥) → (get_or (b ∷ bs) 1 0 ≡ 42 → ⊥) → IsBadByte (b ∷ bs)
bad_slash b bs h no_slash no_star = record {
  stuck = λ piece after is e. stuck piece.kind piece.bytes after is e;
  is_byte = λ e. cc;
  no_comment = λ opens. no_star (ap (λ l. get_or l 1 0) opens.1);
  no_string = λ opens. let e = opens.1 in let quote : b ≡ 34 = cc in let slash = slash-class b h in omega arith;
}
  where
    stuck : (kind : Option TokenKind) (bytes after : List ℕ) → IsPieceOf kind bytes → b ∷ bs ≡ bytes ++ after → ⊥
    stuck kind [] after piece e = piece_nonempty kind piece
    stuck kind (x ∷ more) after piece e =
        let first : x ≡ b = cc in
        elim (slash_piece kind x more (ap class_of first ∙ h) piece) [
          | inl line ↦ no_slash (ap (λ l. get_or l 1 0) (e ∙ ap (λ l. l ++ after) line.spelled))
          | inr block ↦ no_star (ap (λ l. get_or l 1 0) (e ∙ ap (λ l. l ++ after) block.spelled))
        ]

-- a text that begins with a slash
by_slash : (b : ℕ) (bs : List ℕ) (here : Place) → class_of b ≡ class_of 47 → HasFront (b ∷ bs) ⊎ Fails (b ∷ bs) here
by_slash b bs here h =
    let second : ℕ = get_or (b ∷ bs) 1 0 in
    let n : ℕ = unwrap_or (position is_line_feed (drop 1 bs)) (length (drop 1 bs)) in
    by_test (second == 47)
    (λ slash. inl (None, 2 + n, line_at (b ∷ bs) (drop 1 bs) n refl h (eqb-true second 47 slash) refl))
    (λ no_slash. by_test (second == 42)
    (λ star. by_star (b ∷ bs) here h (eqb-true second 42 star))
    (λ no_star. inr (BadByte here, (refl, bad_slash b bs h (eqb-false second 47 no_slash) (eqb-false second 42 no_star)))))

-- a text that is not empty, by the class of its first byte
pub front_or_fault : (b : ℕ) (bs : List ℕ) (here : Place) → HasFront (b ∷ bs) ⊎ Fails (b ∷ bs) here
front_or_fault b bs here =
    by_test (is_blank b) (λ blank. inl (None, 1, blank_at (b ∷ bs) (rw blank refl)))
    (λ blank. by_test (b == 47) (λ slash. by_slash b bs here (ap class_of (eqb-true b 47 slash)))
    (λ slash. by_test (b == 34) (λ quote. by_quote (b ∷ bs) here (position ends_quoted bs) (ap class_of (eqb-true b 34 quote)) refl)
    (λ quote. by_test (is_mark b) (λ mark. inl (by_mark (b ∷ bs) (rw (blank, slash, quote, mark) refl)))
    (λ mark. by_test (is_word_start b) (λ letter. inl (by_letter (b ∷ bs) (rw (blank, slash, quote, mark, letter) refl)))
    (λ letter. inr (BadByte here, (refl, bad_byte b bs (rw (blank, slash, quote, mark, letter) refl))))))))
