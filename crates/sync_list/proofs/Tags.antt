-- Each line has at most one form, which its first bytes determine.
use Rattle.std.proofs.Common.{◌≡◌, ◌≢◌, ℕ, true, cond, eqb, ◌||◌, List, [], ◌∷◌, ◌++◌, Option, Some, None, drop, inl, inr, refl, sym, ap, ◌∙◌, arith}
use Rattle.std.specs.Prelude.{slice_index}
use Rattle.std.specs.List.{prefix_len}
use Rattle.std.proofs.lemmas.Bool.{true≢false, and_parts, ne_eqb}
use Rattle.std.proofs.lemmas.Option.{same_Some}
use Rattle.ipdl_base.specs.Words.{is_word_start, is_word_byte}
use Rattle.ipdl_lex.specs.Pieces.{is_blank}
use Rattle.sync_list.specs.Lines.{first_mark, IsBlankLine, IsComment, IsSectionLine, IsValueLine, IsIndented}
use Rattle.sync_list.specs.Forms.{LineForm, blank, comment, section, value, more, Fits}
use Rattle.sync_list.proofs.Bytes.{start_no_blank, start_differs}
use Rattle.sync_list.proofs.Cuts.{split_of, section_head, section_tail, value_head, value_tail}

-- a number for each form
abbrev pub form_tag : LineForm → ℕ
form_tag blank = 0
form_tag comment = 1
form_tag (section protocol message) = 2
form_tag (value word bytes) = 3
form_tag (more word) = 4

-- a tag for each line, by its first byte that is not blank and by its first byte
abbrev mark_tag : ℕ → Option ℕ → ℕ
mark_tag first None = 0
mark_tag first (Some b) = cond (eqb b 35 || eqb b 59) 1 (cond (is_blank first) 4 (cond (eqb b 91) 2 3))

abbrev pub line_tag : List ℕ → ℕ
line_tag line = mark_tag (slice_index line 0) (first_mark line)

pub blank_tag : (line : List ℕ) → IsBlankLine line → line_tag line ≡ 0
blank_tag line h = rw h refl

pub comment_tag : (line : List ℕ) → IsComment line → line_tag line ≡ 1
comment_tag line h = elim h [ inl e ↦ rw e refl | inr e ↦ rw e refl ]

pub section_tag : (line protocol message : List ℕ) → IsSectionLine line protocol message → line_tag line ≡ 2
section_tag line protocol message s = rw s.spelled refl

-- the first byte of a value line begins its word
value_start : (line word bytes : List ℕ) → IsValueLine line word bytes → (b : ℕ) × (rest : List ℕ) × (line ≡ b ∷ rest) × (is_word_start b ≡ true)
value_start line [] bytes v = absurd (true≢false (sym v.is_word))
value_start line (b ∷ bs) bytes v = (b, bs ++ (v.between ++ v.sign ∷ bytes), v.spelled, (and_parts (is_word_start b) _ v.is_word).0)

started_tag : (b : ℕ) (rest : List ℕ) → is_word_start b ≡ true → line_tag (b ∷ rest) ≡ 3
started_tag b rest start = rw (start_no_blank b start, start_differs b 35 refl start, start_differs b 59 refl start, start_no_blank b start, start_differs b 91 refl start) refl

pub value_tag : (line word bytes : List ℕ) → IsValueLine line word bytes → line_tag line ≡ 3
value_tag line word bytes v = let s = value_start line word bytes v in ap line_tag s.2 ∙ started_tag s.0 s.1 s.3

marked_tag : (first : ℕ) (mark : Option ℕ) → mark ≢ None → mark ≢ Some 35 → mark ≢ Some 59 → is_blank first ≡ true → mark_tag first mark ≡ 4
marked_tag first None some no_hash no_semicolon begins = absurd (some refl)
marked_tag first (Some b) some no_hash no_semicolon begins =
    rw (ne_eqb b 35 (λ e. no_hash (ap Some e)), ne_eqb b 59 (λ e. no_semicolon (ap Some e)), begins) refl

pub indented_tag : (line : List ℕ) → IsIndented line → line_tag line ≡ 4
indented_tag line i = marked_tag (slice_index line 0) (first_mark line) i.no_blank_line (λ e. i.no_comment (inl e)) (λ e. i.no_comment (inr e)) i.begins

-- a line's form has the line's number
pub fits_tag : (before : List LineForm) (line : List ℕ) (form : LineForm) → Fits before line form → form_tag form ≡ line_tag line
fits_tag before line blank h = sym (blank_tag line h)
fits_tag before line comment h = sym (comment_tag line h)
fits_tag before line (section protocol message) h = sym (section_tag line protocol message h.0)
fits_tag before line (value word bytes) h = sym (value_tag line word bytes h.0)
fits_tag before line (more word) h = sym (indented_tag line h.0)

-- the names of a section line are determined
pub one_section : (line protocol message protocol2 message2 : List ℕ) → IsSectionLine line protocol message → IsSectionLine line protocol2 message2 → (protocol ≡ protocol2) × (message ≡ message2)
one_section line protocol message protocol2 message2 s t =
    let rest = drop 1 line in
    let one = section_head line protocol message rest _ _ s refl (split_of is_word_byte rest) in
    let two = section_head line protocol2 message2 rest _ _ t refl (split_of is_word_byte rest) in
    let following = drop 2 (drop (prefix_len is_word_byte rest) rest) in
    let three = section_tail line protocol message following _ _ s (ap (drop 2) one.1) (split_of is_word_byte following) in
    let four = section_tail line protocol2 message2 following _ _ t (ap (drop 2) two.1) (split_of is_word_byte following) in
    (sym one.0 ∙ two.0, sym three.0 ∙ four.0)

-- the same of the word and the value of a value line
pub one_value : (line word bytes word2 bytes2 : List ℕ) → IsValueLine line word bytes → IsValueLine line word2 bytes2 → (word ≡ word2) × (bytes ≡ bytes2)
one_value line word bytes word2 bytes2 v w =
    let one = value_head line word bytes _ _ v (split_of is_word_byte line) in
    let two = value_head line word2 bytes2 _ _ w (split_of is_word_byte line) in
    let following = drop (prefix_len is_word_byte line) line in
    let three = value_tail line word bytes following _ _ v one.1 (split_of is_blank following) in
    let four = value_tail line word2 bytes2 following _ _ w two.1 (split_of is_blank following) in
    (sym one.0 ∙ two.0, ap (drop 1) (sym three ∙ four))

-- after the same lines a line has at most one form
pub one_form : (before : List LineForm) (line : List ℕ) (a b : LineForm) → Fits before line a → Fits before line b → a ≡ b
one_form before line blank blank x y = refl
one_form before line comment comment x y = refl
one_form before line (section p m) (section q n) x y = let e = one_section line p m q n x.0 y.0 in ap (λ r. section r m) e.0 ∙ ap (section q) e.1
one_form before line (value w v) (value u z) x y = let e = one_value line w v u z x.0 y.0 in ap (λ r. value r v) e.0 ∙ ap (value u) e.1
one_form before line (more w) (more u) x y = ap more (same_Some w u (sym x.1 ∙ y.1))
one_form before line a b x y = let e : form_tag a ≡ form_tag b = fits_tag before line a x ∙ sym (fits_tag before line b y) in absurd (omega (arith, e))
