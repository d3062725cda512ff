-- Each line is a section line or is not, and a value line or is not.
use Rattle.std.proofs.Common.{◌≡◌, ◌⊎◌, ◌&&◌, ◌||◌, ◌==◌, ℕ, Bool, true, not, List, [], ◌∷◌, ◌++◌, take, drop, refl, sym, ap, ◌∙◌, inl, inr, true≢false}
use Rattle.std.specs.Prelude.{codes}
use Rattle.std.specs.List.{list_all, take_while, prefix_len}
use Rattle.std.specs.Str.{bytes_eq}
use Rattle.std.specs.Bool.{Decides}
use Rattle.std.proofs.lemmas.Bool.{and_from, and_parts}
use Rattle.std.proofs.lemmas.Bool.Decides.{Decides-and, Decides-eqb, Decides-not, Decides-or}
use Rattle.ipdl_base.specs.Words.{is_word, is_word_byte}
use Rattle.ipdl_base.proofs.Ends.{by_test}
use Rattle.ipdl_lex.specs.Pieces.{is_blank}
use Rattle.ipdl_lex.specs.Scan.{is_reserved}
use Rattle.ipdl_lex.proofs.Words.{reserved_decided}
use Rattle.sync_list.specs.Lines.{IsIdentifier, IsSectionLine, IsValueLine}
use Rattle.sync_list.proofs.Cuts.{section_head, section_spelled, section_tail, split_of, split_passes, value_head, value_spelled, value_tail}

-- section lines

abbrev is_identifier : List ℕ → Bool
is_identifier bytes = is_word bytes && not (is_reserved bytes)

identifier_decided : (bytes : List ℕ) → Decides (is_identifier bytes) (IsIdentifier bytes)
identifier_decided bytes =
    Decides-and (is_word bytes) (not (is_reserved bytes)) ((λ h. h), (λ h. h)) (Decides-not (is_reserved bytes) (reserved_decided bytes))

-- the parts of a section line: the protocol's name after the first byte, the message's after two more, and what comes after each name

abbrev protocol_of : List ℕ → List ℕ
protocol_of line = take_while is_word_byte (drop 1 line)

abbrev after_protocol : List ℕ → List ℕ
after_protocol line = drop (prefix_len is_word_byte (drop 1 line)) (drop 1 line)

abbrev message_of : List ℕ → List ℕ
message_of line = take_while is_word_byte (drop 2 (after_protocol line))

abbrev after_message : List ℕ → List ℕ
after_message line = drop (prefix_len is_word_byte (drop 2 (after_protocol line))) (drop 2 (after_protocol line))

-- whether a line is a section line of its parts

abbrev has_marks : List ℕ → Bool
has_marks line = bytes_eq (take 1 line) (codes "[") && (bytes_eq (take 2 (after_protocol line)) (codes "::") && bytes_eq (take 1 (after_message line)) (codes "]"))

abbrev has_names : List ℕ → Bool
has_names line = is_identifier (protocol_of line) && (is_identifier (message_of line) && list_all is_blank (drop 1 (after_message line)))

abbrev SectionLine : List ℕ → Type 0
SectionLine line = (protocol : List ℕ) × (message : List ℕ) × IsSectionLine line protocol message

by_parts : (line : List ℕ) → has_marks line ≡ true → has_names line ≡ true → IsSectionLine line (protocol_of line) (message_of line)
by_parts line marks names =
    let m = and_parts _ _ marks in
    let n = and_parts _ _ names in
    let colons = and_parts _ _ m.1 in
    let message = and_parts _ _ n.1 in
    record {
      of_protocol = (identifier_decided (protocol_of line)).0 n.0;
      of_message = (identifier_decided (message_of line)).0 message.0;
      after = drop 1 (after_message line);
      blanks = message.1;
      spelled =
          section_spelled line (drop 1 line) (protocol_of line) (after_protocol line) (drop 2 (after_protocol line)) (message_of line) (after_message line) (drop 1 (after_message line))
          m.0 refl (split_of is_word_byte (drop 1 line)) colons.0 refl (split_of is_word_byte (drop 2 (after_protocol line))) colons.1 refl;
    }

module _ (line : List ℕ) (section : SectionLine line) where
  is_section : IsSectionLine line section.0 section.1
  is_section = section.2

  head : (protocol_of line ≡ section.0) × (after_protocol line ≡ 58 ∷ 58 ∷ (section.1 ++ 93 ∷ is_section.after))
  head = section_head line section.0 section.1 (drop 1 line) (protocol_of line) (after_protocol line) is_section refl (split_of is_word_byte (drop 1 line))

  tail : (message_of line ≡ section.1) × (after_message line ≡ 93 ∷ is_section.after)
  tail = section_tail line section.0 section.1 (drop 2 (after_protocol line)) (message_of line) (after_message line) is_section (ap (drop 2) head.1) (split_of is_word_byte (drop 2 (after_protocol line)))

  marks_pass : has_marks line ≡ true
  marks_pass =
      and_from _ _ (ap (λ l. bytes_eq (take 1 l) (codes "[")) is_section.spelled)
      (and_from _ _ (ap (λ l. bytes_eq (take 2 l) (codes "::")) head.1) (ap (λ l. bytes_eq (take 1 l) (codes "]")) tail.1))

  names_pass : has_names line ≡ true
  names_pass =
      and_from _ _ (ap is_identifier head.0 ∙ (identifier_decided section.0).1 is_section.of_protocol)
      (and_from _ _ (ap is_identifier tail.0 ∙ (identifier_decided section.1).1 is_section.of_message) (ap (λ l. list_all is_blank (drop 1 l)) tail.1 ∙ is_section.blanks))

pub section_or_none : (line : List ℕ) → SectionLine line ⊎ (SectionLine line → ⊥)
section_or_none line =
    by_test (has_marks line)
    (λ marks. by_test (has_names line)
    (λ names. inl (protocol_of line, message_of line, by_parts line marks names))
    (λ none. inr (λ s. true≢false (sym (names_pass line s) ∙ none))))
    (λ none. inr (λ s. true≢false (sym (marks_pass line s) ∙ none)))

-- value lines

abbrev word_of : List ℕ → List ℕ
word_of line = take_while is_word_byte line

abbrev after_word : List ℕ → List ℕ
after_word line = drop (prefix_len is_word_byte line) line

abbrev after_blanks : List ℕ → List ℕ
after_blanks line = drop (prefix_len is_blank (after_word line)) (after_word line)

abbrev is_sign : ℕ → Bool
is_sign b = b == 61 || b == 58

abbrev ValueLine : List ℕ → Type 0
ValueLine line = (word : List ℕ) × (bytes : List ℕ) × IsValueLine line word bytes

sign_decided : (b : ℕ) → Decides (is_sign b) ((b ≡ 61) ⊎ (b ≡ 58))
sign_decided b = Decides-or (b == 61) (b == 58) (Decides-eqb b 61) (Decides-eqb b 58)

word_is : (line : List ℕ) (value : ValueLine line) → word_of line ≡ value.0
word_is line (word, bytes, v) = (value_head line word bytes (word_of line) (after_word line) v (split_of is_word_byte line)).0

rest_is : (line : List ℕ) (value : ValueLine line) → after_blanks line ≡ value.2.sign ∷ value.1
rest_is line (word, bytes, v) =
    let h = value_head line word bytes (word_of line) (after_word line) v (split_of is_word_byte line) in
    value_tail line word bytes (after_word line) (take_while is_blank (after_word line)) (after_blanks line) v h.1 (split_of is_blank (after_word line))

by_rest : (line rest : List ℕ) → after_blanks line ≡ rest → ValueLine line ⊎ (ValueLine line → ⊥)
by_rest line [] e = inr (λ v. absurd (let same = rest_is line v in let none : ⊥ = cc in none))
by_rest line (sign ∷ bytes) e =
    by_test (is_word (word_of line))
    (λ word. by_test (is_sign sign)
    (λ signed. inl (
      word_of line,
      bytes,
      record {
        is_word = word;
        between = take_while is_blank (after_word line);
        blanks = split_passes is_blank (after_word line) (take_while is_blank (after_word line)) (after_blanks line) (split_of is_blank (after_word line));
        sign = sign;
        is_sign = (sign_decided sign).0 signed;
        spelled = value_spelled line (word_of line) (after_word line) (take_while is_blank (after_word line)) (after_blanks line) sign bytes (split_of is_word_byte line) (split_of is_blank (after_word line)) e;
      },
    ))
    (λ other. inr (λ v.
    let same : v.2.sign ≡ sign = (let is = rest_is line v in cc) in
    true≢false (sym (ap is_sign (sym same) ∙ (sign_decided v.2.sign).1 v.2.is_sign) ∙ other))))
    (λ other. inr (λ v. true≢false (sym (ap is_word (word_is line v) ∙ v.2.is_word) ∙ other)))

pub value_or_none : (line : List ℕ) → ValueLine line ⊎ (ValueLine line → ⊥)
value_or_none line = by_rest line (after_blanks line) refl
