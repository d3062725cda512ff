-- Where section lines and value lines are cut.
use Rattle.std.proofs.Common.{◌≡◌, ℕ, ◌<◌, ◌≤◌, Bool, true, false, not, List, [], ◌∷◌, ◌++◌, Some, None, length, take, drop, unwrap_or, position, ◌⊎◌, inl, inr, ⊎_elim, refl, sym, ap, ◌∙◌, arith}
use Rattle.std.specs.List.{list_all, take_while, prefix_len, position_or_len}
use Rattle.std.proofs.lemmas.Bool.{and_parts, and_from, cases_Bool, cases_lt, cond-true, cond-false, lt-ltb, le-ltb}
use Rattle.std.proofs.lemmas.List.Sums.{prefix_len-le-length, take_while-cons}
use Rattle.std.specs.Prelude.{nat_eq}
use Rattle.std.specs.Cmp.Lexicographic.{pointwise}
use Rattle.std.proofs.lemmas.Slice.Eq.{bytes_eq-Decides}
use Rattle.std.proofs.lemmas.List.{take-append-drop}
use Rattle.std.proofs.Math.Seq.{take-append_seam, drop-append_seam}
use Rattle.ipdl_base.specs.Words.{is_word_byte}
use Rattle.ipdl_lex.specs.Pieces.{is_blank}
use Rattle.sync_list.specs.Lines.{IsSectionLine, IsValueLine}
use Rattle.sync_list.specs.Reading.{IsSplit}
use Rattle.sync_list.proofs.Bytes.{blank_no_word, word_bytes}

-- an element that fails ends a prefix whose elements pass
pub prefix_len_at : (test : ℕ → Bool) (front : List ℕ) (b : ℕ) (rest : List ℕ) → list_all test front ≡ true → test b ≡ false → prefix_len test (front ++ b ∷ rest) ≡ length front
prefix_len_at test [] b rest all stops = rw stops
prefix_len_at test (x ∷ front) b rest all stops =
    let both = and_parts (test x) (list_all test front) all in
    rw both.0 (omega (arith, prefix_len_at test front b rest both.1 stops))

-- so the prefix is taken, and the rest is left
pub take_while_at : (test : ℕ → Bool) (front : List ℕ) (b : ℕ) (rest : List ℕ) → list_all test front ≡ true → test b ≡ false → take_while test (front ++ b ∷ rest) ≡ front
take_while_at test front b rest all stops =
    ap (λ n. take n (front ++ b ∷ rest)) (prefix_len_at test front b rest all stops) ∙ take-append_seam front (b ∷ rest)

pub drop_front_at : (test : ℕ → Bool) (front : List ℕ) (b : ℕ) (rest : List ℕ) → list_all test front ≡ true → test b ≡ false → drop (prefix_len test (front ++ b ∷ rest)) (front ++ b ∷ rest) ≡ b ∷ rest
drop_front_at test front b rest all stops =
    ap (λ n. drop n (front ++ b ∷ rest)) (prefix_len_at test front b rest all stops) ∙ drop-append_seam front (b ∷ rest)

not_not : (b : Bool) → not (not b) ≡ b
not_not true = refl
not_not false = refl

prefix_len_alike : (p q : ℕ → Bool) → ((x : ℕ) → p x ≡ q x) → (xs : List ℕ) → prefix_len p xs ≡ prefix_len q xs
prefix_len_alike p q same [] = refl
prefix_len_alike p q same (x ∷ xs) = rw (same x, prefix_len_alike p q same xs)

-- the prefix ends at the first byte that fails, or at the end
pub front_len : (test : ℕ → Bool) (text : List ℕ) (n : ℕ) → n ≡ unwrap_or (position (λ b. not (test b)) text) (length text) → n ≡ prefix_len test text
front_len test text n is =
    let at = position_or_len (λ b. not (test b)) text in
    let same : at ≡ prefix_len test text = prefix_len_alike (λ b. not (not (test b))) test (λ b. not_not (test b)) text in
    let short : at ≤ length text = prefix_len-le-length (λ b. not (not (test b))) text in
    is ∙ ⊎_elim
    (λ (inside : at < length text). ap (λ o. unwrap_or o (length text)) (cond-true _ (Some at) None (lt-ltb at (length text) inside)))
    (λ (past : length text ≤ at). ap (λ o. unwrap_or o (length text)) (cond-false _ (Some at) None (le-ltb at (length text) past)) ∙ omega arith)
    (cases_lt at (length text)) ∙ same

-- so a text is split where a byte that fails follows bytes that pass
pub split_there : (test : ℕ → Bool) (text front rest before : List ℕ) (b : ℕ) (after : List ℕ) → IsSplit test text front rest → text ≡ before ++ b ∷ after → list_all test before ≡ true → test b ≡ false → (front ≡ before) × (rest ≡ b ∷ after)
split_there test text front rest before b after split is all stops = (
  split.front_is ∙ ap (take_while test) is ∙ take_while_at test before b after all stops,
  split.rest_is ∙ ap (λ l. drop (prefix_len test l) l) is ∙ drop_front_at test before b after all stops,
)

-- each text has a split, and its parts make the text
pub split_of : (test : ℕ → Bool) (text : List ℕ) → IsSplit test text (take_while test text) (drop (prefix_len test text) text)
split_of test text = record { front_is = refl; rest_is = refl }

pub split_whole : (test : ℕ → Bool) (text front rest : List ℕ) → IsSplit test text front rest → text ≡ front ++ rest
split_whole test text front rest split =
    sym (take-append-drop (prefix_len test text) text) ∙ ap (λ l. l ++ drop (prefix_len test text) text) (sym split.front_is) ∙ ap (λ l. front ++ l) (sym split.rest_is)

-- where a section line is split: after the protocol's name
pub section_head : (line protocol message rest front following : List ℕ) (s : IsSectionLine line protocol message) → rest ≡ drop 1 line → IsSplit is_word_byte rest front following → (front ≡ protocol) × (following ≡ 58 ∷ 58 ∷ (message ++ 93 ∷ s.after))
section_head line protocol message rest front following s is split =
    split_there is_word_byte rest front following protocol 58 (58 ∷ (message ++ 93 ∷ s.after)) split (is ∙ ap (drop 1) s.spelled) (word_bytes protocol s.of_protocol.0) refl

-- and after the message's
pub section_tail : (line protocol message rest front following : List ℕ) (s : IsSectionLine line protocol message) → rest ≡ message ++ 93 ∷ s.after → IsSplit is_word_byte rest front following → (front ≡ message) × (following ≡ 93 ∷ s.after)
section_tail line protocol message rest front following s is split =
    split_there is_word_byte rest front following message 93 s.after split is (word_bytes message s.of_message.0) refl

-- what follows the word of a value line is not a byte of a word
no_word_after : (between : List ℕ) (sign : ℕ) (value : List ℕ) → list_all is_blank between ≡ true → (sign ≡ 61) ⊎ (sign ≡ 58) → (b : ℕ) × (after : List ℕ) × (between ++ sign ∷ value ≡ b ∷ after) × (is_word_byte b ≡ false)
no_word_after [] sign value blanks is_sign = (sign, value, refl, elim is_sign [ inl e ↦ rw e refl | inr e ↦ rw e refl ])
no_word_after (b ∷ bs) sign value blanks is_sign = (b, bs ++ sign ∷ value, refl, blank_no_word b (and_parts (is_blank b) (list_all is_blank bs) blanks).0)

sign_no_blank : (sign : ℕ) → (sign ≡ 61) ⊎ (sign ≡ 58) → is_blank sign ≡ false
sign_no_blank sign is_sign = elim is_sign [ inl e ↦ rw e refl | inr e ↦ rw e refl ]

-- where a value line is split: after the word
pub value_head : (line word value front following : List ℕ) (v : IsValueLine line word value) → IsSplit is_word_byte line front following → (front ≡ word) × (following ≡ v.between ++ v.sign ∷ value)
value_head line word value front following v split =
    let b = no_word_after v.between v.sign value v.blanks v.is_sign in
    let cut = split_there is_word_byte line front following word b.0 b.1 split (v.spelled ∙ ap (λ l. word ++ l) b.2) (word_bytes word v.is_word) b.3 in
    (cut.0, cut.1 ∙ sym b.2)

-- and after the blanks
pub value_tail : (line word value rest front following : List ℕ) (v : IsValueLine line word value) → rest ≡ v.between ++ v.sign ∷ value → IsSplit is_blank rest front following → following ≡ v.sign ∷ value
value_tail line word value rest front following v is split =
    (split_there is_blank rest front following v.between v.sign value split is v.blanks (sign_no_blank v.sign v.is_sign)).1

-- a text with a prefix that was stripped
prefix_whole : (prefix text rest : List ℕ) → pointwise nat_eq (take (length prefix) text) prefix ≡ true → rest ≡ drop (length prefix) text → text ≡ prefix ++ rest
prefix_whole prefix text rest same is =
    sym (take-append-drop (length prefix) text) ∙ ap (λ l. l ++ drop (length prefix) text) ((bytes_eq-Decides (take (length prefix) text) prefix).0 same) ∙ ap (λ l. prefix ++ l) (sym is)

-- the spelling of a section line, by the pieces that were split off it
pub section_spelled : (line rest protocol following rest2 message after2 after : List ℕ)
    → (pointwise nat_eq (take 1 line) (91 ∷ []) ≡ true) → rest ≡ drop 1 line → IsSplit is_word_byte rest protocol following
    → (pointwise nat_eq (take 2 following) (58 ∷ 58 ∷ []) ≡ true) → rest2 ≡ drop 2 following → IsSplit is_word_byte rest2 message after2
    → (pointwise nat_eq (take 1 after2) (93 ∷ []) ≡ true) → after ≡ drop 1 after2
    → line ≡ 91 ∷ (protocol ++ 58 ∷ 58 ∷ (message ++ 93 ∷ after))
section_spelled line rest protocol following rest2 message after2 after open_ok rest_is split colons rest2_is split2 close_ok after_is =
    prefix_whole (91 ∷ []) line rest open_ok rest_is
    ∙ ap (λ l. 91 ∷ l) (split_whole is_word_byte rest protocol following split)
    ∙ ap (λ l. 91 ∷ (protocol ++ l)) (prefix_whole (58 ∷ 58 ∷ []) following rest2 colons rest2_is ∙ ap (λ l. 58 ∷ 58 ∷ l) (split_whole is_word_byte rest2 message after2 split2))
    ∙ ap (λ l. 91 ∷ (protocol ++ 58 ∷ 58 ∷ (message ++ l))) (prefix_whole (93 ∷ []) after2 after close_ok after_is)

-- the spelling of a value line, by the pieces that were split off it
pub value_spelled : (line word following between rest : List ℕ) (sign : ℕ) (value : List ℕ) → IsSplit is_word_byte line word following → IsSplit is_blank following between rest → rest ≡ sign ∷ value → line ≡ word ++ (between ++ sign ∷ value)
value_spelled line word following between rest sign value split split2 is =
    split_whole is_word_byte line word following split ∙ ap (λ l. word ++ l) (split_whole is_blank following between rest split2 ∙ ap (λ l. between ++ l) is)

-- the prefix of a split passes
passes_front : (test : ℕ → Bool) (text : List ℕ) → list_all test (take_while test text) ≡ true
passes_front test [] = refl
passes_front test (x ∷ xs) = elim (cases_Bool (test x)) [
  | inl h ↦ rw (take_while-cons test x xs, h) (and_from (test x) (list_all test (take_while test xs)) h (passes_front test xs))
  | inr h ↦ rw (take_while-cons test x xs, h) refl
]

pub split_passes : (test : ℕ → Bool) (text front rest : List ℕ) → IsSplit test text front rest → list_all test front ≡ true
split_passes test text front rest split = rw split.front_is (passes_front test text)
