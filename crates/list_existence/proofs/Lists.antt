-- The lines of a text have forms, or one of them is the first that has no form.
use Rattle.std.proofs.Common.{◌≡◌, ◌⊎◌, ◌+◌, ℕ, List, [], ◌∷◌, ◌++◌, length, refl, sym, ap, subst, append_assoc, append-nil, inl, inr}
use Rattle.sync_list.specs.Forms.{LineForm, HaveForms}
use Rattle.sync_list.specs.Lines.{lines_of}
use Rattle.sync_list.specs.Lists.{sections_from}
use Rattle.sync_list.specs.Reading.{IsBad}
use Rattle.list_existence.specs.Laws.{ListsHaveAnswers}
use Rattle.list_existence.proofs.Forms.{form_or_none}

-- After lines of some forms, the first of these lines have forms, and the next has no form.
record Stops (before : List LineForm) (lines : List (List ℕ)) : Type 0 where
  pub front : List (List ℕ)
  pub line : List ℕ
  pub after : List (List ℕ)
  pub split : lines ≡ front ++ line ∷ after
  pub forms : List LineForm
  pub each : HaveForms before front forms
  pub bad : IsBad (before ++ forms) line

forms_or_stop : (before : List LineForm) (lines : List (List ℕ)) → ((forms : List LineForm) × HaveForms before lines forms) ⊎ Stops before lines
forms_or_stop before [] = inl ([], tt)
forms_or_stop before (line ∷ lines) = elim (form_or_none before line) [
  | inl first ↦ elim (forms_or_stop (before ++ first.0 ∷ []) lines) [
    | inl rest ↦ inl (first.0 ∷ rest.0, (first.1, rest.1))
    | inr stop ↦ inr (record {
      front = line ∷ stop.front;
      line = stop.line;
      after = stop.after;
      split = ap (λ ls. line ∷ ls) stop.split;
      forms = first.0 ∷ stop.forms;
      each = (first.1, stop.each);
      bad = subst (λ forms. IsBad forms stop.line) (append_assoc before (first.0 ∷ []) stop.forms) stop.bad;
    })
  ]
  | inr bad ↦ inr (record {
    front = [];
    line = line;
    after = lines;
    split = refl;
    forms = [];
    each = tt;
    bad = subst (λ forms. IsBad forms line) (sym (append-nil before)) bad;
  })
]

pub lists_have_answers : ListsHaveAnswers
lists_have_answers text = elim (forms_or_stop [] (lines_of text)) [
  | inl whole ↦ inl (sections_from 1 whole.0, record { forms = whole.0; each = whole.1; sections = refl })
  | inr stop ↦ inr (
    length stop.front + 1,
    record { before = stop.front; line = stop.line; after = stop.after; lines = stop.split; forms = stop.forms; each = stop.each; bad = stop.bad; counted = refl },
  )
]
