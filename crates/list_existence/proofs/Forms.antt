-- After lines of some forms each line has a form, or no form.
use Rattle.std.proofs.Common.{◌≡◌, ◌⊎◌, ◌&&◌, ◌==◌, ℕ, Bool, false, List, Option, Some, None, refl, sym, ap, ◌∙◌, inl, inr, true≢false}
use Rattle.std.specs.Prelude.{slice_index}
use Rattle.std.specs.List.{list_any, Contains}
use Rattle.std.specs.Str.{bytes_eq}
use Rattle.std.specs.Bool.{Decides}
use Rattle.std.proofs.lemmas.Bool.{and_from, and_parts, eqb-true, eqb-false}
use Rattle.std.proofs.lemmas.Bool.Decides.{Decides-by_or, not_from_Decides}
use Rattle.std.proofs.lemmas.List.Elements.{Decides-contains}
use Rattle.std.proofs.lemmas.Option.{none-some, same_Some}
use Rattle.std.proofs.lemmas.Slice.Eq.{bytes_eq-Decides}
use Rattle.ipdl_base.proofs.Ends.{by_test}
use Rattle.ipdl_lex.specs.Pieces.{is_blank}
use Rattle.sync_list.specs.Lines.{first_mark, IsBlankLine, IsComment, IsIndented, IsSectionLine, IsValueLine}
use Rattle.sync_list.specs.Forms.{LineForm, blank, comment, section, value, more, is_section, open_word, Fits}
use Rattle.sync_list.specs.Reading.{IsBad}
use Rattle.sync_list.proofs.Refused.{bad_indented, bad_other, bad_section, bad_value}
use Rattle.list_existence.proofs.Lines.{section_or_none, value_or_none}

-- the section of these names is among forms, or not

abbrev is_that : List ℕ → List ℕ → LineForm → Bool
is_that protocol message (section p m) = bytes_eq p protocol && bytes_eq m message
is_that protocol message _ = false

that_decided : (protocol message : List ℕ) (form : LineForm) → Decides (is_that protocol message form) (form ≡ section protocol message)
that_decided protocol message (section p m) = (
  λ h.
      let both = and_parts (bytes_eq p protocol) (bytes_eq m message) h in
      ap (λ q. section q m) ((bytes_eq-Decides p protocol).0 both.0) ∙ ap (section protocol) ((bytes_eq-Decides m message).0 both.1),
  λ e. and_from (bytes_eq p protocol) (bytes_eq m message) ((bytes_eq-Decides p protocol).1 cc) ((bytes_eq-Decides m message).1 cc),
)
that_decided protocol message blank = ((λ h. absurd (true≢false (sym h))), (λ e. cc))
that_decided protocol message comment = ((λ h. absurd (true≢false (sym h))), (λ e. cc))
that_decided protocol message (value word bytes) = ((λ h. absurd (true≢false (sym h))), (λ e. cc))
that_decided protocol message (more word) = ((λ h. absurd (true≢false (sym h))), (λ e. cc))

section_among : (protocol message : List ℕ) (forms : List LineForm) → Decides (list_any (is_that protocol message) forms) (Contains forms (section protocol message))
section_among protocol message forms =
    Decides-contains forms (section protocol message) (list_any (is_that protocol message) forms)
    (Decides-by_or (is_that protocol message) (λ form. form ≡ section protocol message) (list_any (is_that protocol message)) (that_decided protocol message) refl (λ _ _. refl) forms)

abbrev Form : List LineForm → List ℕ → Type 0
Form before line = (form : LineForm) × Fits before line form

-- by what a line is by itself

of_section : (before : List LineForm) (line protocol message : List ℕ) → IsSectionLine line protocol message → Form before line ⊎ IsBad before line
of_section before line protocol message is =
    by_test (list_any (is_that protocol message) before)
    (λ there. inr (bad_section before line protocol message is ((section_among protocol message before).0 there)))
    (λ new. inl (section protocol message, (is, not_from_Decides (list_any (is_that protocol message) before) (section_among protocol message before) new)))

of_value : (before : List LineForm) (line word bytes : List ℕ) → IsValueLine line word bytes → Form before line ⊎ IsBad before line
of_value before line word bytes is =
    by_test (list_any is_section before) (λ inside. inl (value word bytes, (is, inside))) (λ outside. inr (bad_value before line word bytes is outside))

of_indented : (before : List LineForm) (line : List ℕ) (unfinished : Option (List ℕ)) → open_word before ≡ unfinished → IsIndented line → Form before line ⊎ IsBad before line
of_indented before line None e is = inr (bad_indented before line is e)
of_indented before line (Some word) e is = inl (more word, (is, e))

-- a line that is neither blank nor a comment
marked : (before : List LineForm) (line : List ℕ) → (IsBlankLine line → ⊥) → (IsComment line → ⊥) → Form before line ⊎ IsBad before line
marked before line no_blank no_comment = elim (section_or_none line) [
  | inl s ↦ of_section before line s.0 s.1 s.2
  | inr no_section ↦ elim (value_or_none line) [
    | inl v ↦ of_value before line v.0 v.1 v.2
    | inr no_value ↦ by_test (is_blank (slice_index line 0))
        (λ begins. of_indented before line (open_word before) refl (record { begins = begins; no_blank_line = no_blank; no_comment = no_comment }))
        (λ other. inr (bad_other before line (record {
          no_blank_line = no_blank;
          no_comment = no_comment;
          no_section = λ p m s. no_section (p, m, s);
          no_value = λ w b v. no_value (w, b, v);
          no_indented = λ i. true≢false (sym i.begins ∙ other);
        })))
  ]
]

by_mark : (before : List LineForm) (line : List ℕ) (mark : Option ℕ) → first_mark line ≡ mark → Form before line ⊎ IsBad before line
by_mark before line None e = inl (blank, e)
by_mark before line (Some b) e =
    by_test (b == 35)
    (λ hash. inl (comment, inl (e ∙ ap Some (eqb-true b 35 hash))))
    (λ no_hash. by_test (b == 59)
    (λ semicolon. inl (comment, inr (e ∙ ap Some (eqb-true b 59 semicolon))))
    (λ no_semicolon. marked before line (λ none. clash none) (λ h. elim h [
      | inl is ↦ eqb-false b 35 no_hash (same_Some b 35 (sym e ∙ is))
      | inr is ↦ eqb-false b 59 no_semicolon (same_Some b 59 (sym e ∙ is))
    ])))
  where
    clash : first_mark line ≡ None → ⊥
    clash none = none-some b (sym none ∙ e)

pub form_or_none : (before : List LineForm) (line : List ℕ) → Form before line ⊎ IsBad before line
form_or_none before line = by_mark before line (first_mark line) refl
