-- How far a text is what a run prints is decided.
use Rattle.std.proofs.Common.{◌≡◌, ◌⊎◌, ℕ, zero, suc, ◌<◌, ◌≤◌, true, false, List, [], ◌∷◌, ◌++◌, length, take, drop, Option, Some, None, refl, sym, subst, inl, inr, ⊎_elim, arith, append_assoc, le_refl}
use Rattle.std.proofs.lemmas.Bool.{cases_lt}
use Rattle.std.proofs.lemmas.List.{append-nil, take-append-drop}
use Rattle.ipdl_base.specs.declared.kinds.Side.TheVariants as sides
use Rattle.channel_model.specs.Runs.{RunState}
use Rattle.history.specs.Text.{transcript_text}
use Rattle.report_existence.proofs.Finite.{both_or_not, either_or_not}
use Rattle.script_runs.proofs.CaseRuns.{played-last}
use Rattle.script_runs.specs.Endings.{EndsAs, ending_line}
use Rattle.script_runs.specs.Replays.{ArePrinted, Follows, IsStuck, choices_told, printed_lines}
use Rattle.script_steps.specs.Choices.{Choice, Setting, beginning_of, chosen, is_within, played}
use Rattle.script_steps.specs.Turns.{RunEnding, at_limit, at_rest, is_quiet, is_quiet_at}
use Rattle.script_transcripts.proofs.Ends.{cases_end}
use Rattle.script_transcripts.proofs.Fronts.{legal_texts_decide, replays_decide}
use Rattle.script_transcripts.specs.Legal.{AreFirstLines, AreLegalSoFar, IsLegalText}
use Rattle.transcripts.specs.TextLines.{text_lines}
use Rattle.run_existence.specs.Laws.{IsRunnable, TextsAreDecided}
use Rattle.report_existence.proofs.Lists.{begins_or_not, bool_or_not, same_or_not, text_or_not}

-- Decisions

some_ending : (P : RunEnding → Type 0) → ((ending : RunEnding) → P ending ⊎ (P ending → ⊥)) → ((ending : RunEnding) × P ending) ⊎ ((ending : RunEnding) → P ending → ⊥)
some_ending P each =
    ⊎_elim (λ (h : P at_rest). inl (at_rest, h))
    (λ (no_rest : P at_rest → ⊥).
    ⊎_elim (λ (h : P (at_limit sides.Parent)). inl (at_limit sides.Parent, h))
    (λ (no_parent : P (at_limit sides.Parent) → ⊥).
    ⊎_elim (λ (h : P (at_limit sides.Child)). inl (at_limit sides.Child, h)) (λ (no_child : P (at_limit sides.Child) → ⊥). inr (none no_rest no_parent no_child)) (each (at_limit sides.Child)))
    (each (at_limit sides.Parent)))
    (each at_rest)
  where
    none : (P at_rest → ⊥) → (P (at_limit sides.Parent) → ⊥) → (P (at_limit sides.Child) → ⊥) → (ending : RunEnding) → P ending → ⊥
    none no_rest no_parent no_child at_rest = no_rest
    none no_rest no_parent no_child (at_limit sides.Parent) = no_parent
    none no_rest no_parent no_child (at_limit sides.Child) = no_child

module _ (setting : Setting) (state : RunState) where
  ends_or_not : (ending : RunEnding) → EndsAs setting state ending ⊎ (EndsAs setting state ending → ⊥)
  ends_or_not at_rest = bool_or_not (is_quiet setting state) true
  ends_or_not (at_limit side) = both_or_not (bool_or_not (is_within setting side state) false) (bool_or_not (is_quiet_at setting state side) false)

  abbrev EndsWithLines : List (List ℕ) → RunEnding → Type 0
  EndsWithLines lines ending = EndsAs setting state ending × (lines ≡ printed_lines setting state ++ ending_line ending ∷ [])

  whole_or_not : (lines : List (List ℕ)) → ((ending : RunEnding) × EndsWithLines lines ending) ⊎ ((ending : RunEnding) → EndsWithLines lines ending → ⊥)
      → ((ending : RunEnding) × EndsAs setting state ending × (lines ≡ printed_lines setting state ++ ending_line ending ∷ []))
      ⊎ ((ending : RunEnding) × EndsAs setting state ending × (lines ≡ printed_lines setting state ++ ending_line ending ∷ []) → ⊥)
  whole_or_not lines (inl h) = inl (h.0, h.1.0, h.1.1)
  whole_or_not lines (inr none) = inr (λ h. none h.0 (h.1, h.2))

  printed_or_not : (lines : List (List ℕ)) → ArePrinted setting state lines ⊎ (ArePrinted setting state lines → ⊥)
  printed_or_not lines =
      either_or_not (begins_or_not text_or_not lines (printed_lines setting state))
      (whole_or_not lines (some_ending (EndsWithLines lines) (λ ending. both_or_not (ends_or_not ending) (same_or_not text_or_not lines (printed_lines setting state ++ ending_line ending ∷ [])))))

-- A run follows lines

module _ (setting : Setting) where
  -- as many of these choices as are possible have been made
  HasDone : List Choice → Type 0
  HasDone told = (done : List Choice) × (last : RunState) × (played setting done (beginning_of setting) ≡ Some last) × ((told ≡ done) ⊎ IsStuck setting told done)

  has_done : (first rest : List Choice) (state : RunState) → played setting first (beginning_of setting) ≡ Some state → HasDone (first ++ rest)
  unfolding HasDone
  has_done first [] state plays = (first, state, plays, inl (append-nil first))
  has_done first (choice ∷ rest) state plays = by (λ next goes. has_done (first ++ choice ∷ []) rest next goes) (chosen setting choice state) refl
    where
      by : ((next : RunState) → played setting (first ++ choice ∷ []) (beginning_of setting) ≡ Some next → HasDone ((first ++ choice ∷ []) ++ rest)) → (found : Option RunState) → chosen setting choice state ≡ found → HasDone (first ++ choice ∷ rest)
      by onward None e = (
        first,
        state,
        plays,
        inr (record { first = first; choice = choice; rest = rest; told_are = refl; state = state; plays = plays; impossible = e; others = []; done_are = sym (append-nil first) }),
      )
      by onward (Some next) e = subst HasDone (append_assoc first (choice ∷ []) rest) (onward next (played-last setting first choice (beginning_of setting) state next plays e))

  follows : (lines : List (List ℕ)) → (last : RunState) × Follows setting lines last
  unfolding HasDone
  follows lines = let h = has_done [] (choices_told lines) (beginning_of setting) refl in (h.1, record { done = h.0; plays = h.2; so_far = h.3 })

-- The first lines of a text

module _ (setting : Setting) (is : IsRunnable setting) (text : List ℕ) where
  abbrev lines : List (List ℕ)
  lines = text_lines text

  abbrev Starts : ℕ → Type 0
  Starts count = AreFirstLines setting (take count lines)

  -- every text that a run prints begins with the empty list of lines
  starts_at_none : Starts 0
  starts_at_none =
      let e = cases_end setting [] (beginning_of setting) is.sound is.valid is.limit refl in
      let whole : List ℕ = transcript_text setting.schema e.last.lines ++ ending_line e.ending in
      record { whole = whole; legal = record { choices = e.more; state = e.last; plays = e.plays; ending = e.ending; ends = e.ends; is = refl }; others = text_lines whole; is = refl }

  starts_or_not : (count : ℕ) → Starts count ⊎ (Starts count → ⊥)
  starts_or_not count =
      let f = follows setting lines in
      let d = replays_decide setting (take count lines) (drop count lines) f.0 is.sound is.valid is.limit (subst (λ ls. Follows setting ls f.0) (sym (take-append-drop count lines)) f.1) in
      ⊎_elim (λ (h : ArePrinted setting f.0 (take count lines)). inl (d.1 h)) (λ (none : ArePrinted setting f.0 (take count lines) → ⊥). inr (λ h. none (d.0 h))) (printed_or_not setting f.0 (take count lines))

  abbrev NoneAfter : ℕ → Type 0
  NoneAfter count = (more : ℕ) → more ≤ length lines → count < more → Starts more → ⊥

  here : (count : ℕ) → count ≤ length lines → NoneAfter count → Starts count → AreLegalSoFar setting text count
  here count within none starts = record {
    there = within;
    first = starts;
    most = λ more there first. ⊎_elim (λ (past : count < more). absurd (none more there past first)) (λ (most : more ≤ count). most) (cases_lt count more);
  }

  none_earlier : (count : ℕ) → NoneAfter (suc count) → (Starts (suc count) → ⊥) → NoneAfter count
  none_earlier count none no_start more there past first =
      ⊎_elim (λ (later : suc count < more). none more there later first) (λ (most : more ≤ suc count). let same : more ≡ suc count = omega (arith, past, most) in no_start (subst Starts same first)) (cases_lt (suc count) more)

  so_far : (count : ℕ) → count ≤ length lines → NoneAfter count → (n : ℕ) × AreLegalSoFar setting text n
  so_far zero within none = (0, here 0 within none starts_at_none)
  so_far (suc count) within none =
      ⊎_elim (λ (starts : Starts (suc count)). (suc count, here (suc count) within none starts))
      (λ (no_start : Starts (suc count) → ⊥). so_far count (omega arith) (none_earlier count none no_start)) (starts_or_not (suc count))

  abbrev Ends : RunState → RunEnding → Type 0
  Ends last ending = EndsAs setting last ending × (text ≡ transcript_text setting.schema last.lines ++ ending_line ending)

  legal_or_not : IsLegalText setting text ⊎ (IsLegalText setting text → ⊥)
  legal_or_not =
      let f = follows setting lines in
      let d = legal_texts_decide setting text f.0 is.sound is.valid f.1 in
      by f.0 d (some_ending (Ends f.0) (λ ending. both_or_not (ends_or_not setting f.0 ending) (text_or_not text (transcript_text setting.schema f.0.lines ++ ending_line ending))))
    where
      by : (last : RunState) → (IsLegalText setting text → (ending : RunEnding) × EndsAs setting last ending × (text ≡ transcript_text setting.schema last.lines ++ ending_line ending))
          × ((ending : RunEnding) × EndsAs setting last ending × (text ≡ transcript_text setting.schema last.lines ++ ending_line ending) → IsLegalText setting text)
          → ((ending : RunEnding) × Ends last ending) ⊎ ((ending : RunEnding) → Ends last ending → ⊥) → IsLegalText setting text ⊎ (IsLegalText setting text → ⊥)
      by last d (inl h) = inl (d.1 (h.0, h.1.0, h.1.1))
      by last d (inr none) = inr (λ legal. let h = d.0 legal in none h.0 (h.1, h.2))

pub texts_are_decided : TextsAreDecided
texts_are_decided setting is text =
    let s = so_far setting is text (length (text_lines text)) (le_refl (length (text_lines text))) (λ more there past first. omega (arith, there, past)) in
    record { count = s.0; so_far = s.1; legal = legal_or_not setting is text }
