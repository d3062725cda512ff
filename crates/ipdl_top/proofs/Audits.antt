-- What an audit says of a text, by how far a run that follows its lines prints them.
use Rattle.std.proofs.Common.{◌≡◌, ℕ, suc, ◌+◌, ◌≤◌, ◌==◌, Bool, true, false, if◌then◌else◌, List, [], ◌∷◌, ◌++◌, length, take, drop, refl, sym, ap, subst, ◌∙◌, arith}
use Rattle.std.specs.List.{flat_map}
use Rattle.std.proofs.lemmas.List.{take-append-drop}
use Rattle.handler_script.specs.Valid.{IsValid}
use Rattle.ipdl_base.specs.Sound.{IsSound}
use Rattle.channel_model.specs.Runs.{RunState}
use Rattle.history.specs.Text.{transcript_text}
use Rattle.script_runs.specs.Endings.{EndsAs, ending_line}
use Rattle.script_runs.specs.Laws.{HasLimit}
use Rattle.script_runs.specs.Replays.{ArePrinted, Follows, printed_lines}
use Rattle.script_steps.specs.Choices.{Setting}
use Rattle.script_steps.specs.Turns.{RunEnding}
use Rattle.script_transcripts.specs.Legal.{AreFirstLines, AreLegalSoFar, IsLegalText}
use Rattle.script_transcripts.proofs.Fronts.{ending-alone, legal_texts_decide, replays_decide}
use Rattle.script_transcripts.proofs.Names.{case_names_are_words}
use Rattle.transcripts.proofs.Lines.{transcripts_are_lines}
use Rattle.transcripts.specs.TextLines.{text_lines, with_first}
use Rattle.transcripts.specs.Compared.{most_text_bytes}
use Rattle.world_core.specs.declared.world.replay.Replay.{Replay}
use Rattle.world_core.specs.declared.world.replay.Replay.TheVariants as replay
use Rattle.world_core.specs.Replayed.{ArePrintedSoFar, AreWhole, IsReplayed, SaysOf}
use Rattle.ipdl_top.specs.Audited.{IsAudited, IsFew, audit_by}

-- A text is what its lines are

whole-first : (byte : ℕ) (lines : List (List ℕ)) → flat_map (λ line. line) (with_first byte lines) ≡ byte ∷ flat_map (λ line. line) lines
whole-first byte [] = refl
whole-first byte (line ∷ lines) = refl

whole : (text : List ℕ) → flat_map (λ line. line) (text_lines text) ≡ text
whole [] = refl
whole (byte ∷ bytes) = by (byte == 10) (whole bytes)
  where
    by : (b : Bool) → flat_map (λ line. line) (text_lines bytes) ≡ bytes → flat_map (λ line. line) (if b then (byte ∷ []) ∷ text_lines bytes else with_first byte (text_lines bytes)) ≡ byte ∷ bytes
    by true h = ap (λ bs. byte ∷ bs) h
    by false h = whole-first byte (text_lines bytes) ∙ ap (λ bs. byte ∷ bs) h

same-text : (one other : List ℕ) → text_lines one ≡ text_lines other → one ≡ other
same-text one other h = sym (whole one) ∙ ap (flat_map (λ line. line)) h ∙ whole other

first-long : (byte : ℕ) (lines : List (List ℕ)) → length (with_first byte lines) ≤ suc (length lines)
first-long byte [] = omega arith
first-long byte (line ∷ lines) = omega arith

-- a text has no more lines than bytes
few-lines : (text : List ℕ) → length (text_lines text) ≤ length text
few-lines [] = omega arith
few-lines (byte ∷ bytes) = by (byte == 10) (few-lines bytes) (first-long byte (text_lines bytes))
  where
    by : (b : Bool) → length (text_lines bytes) ≤ length bytes → length (with_first byte (text_lines bytes)) ≤ suc (length (text_lines bytes)) → length (if b then (byte ∷ []) ∷ text_lines bytes else with_first byte (text_lines bytes)) ≤ suc (length bytes)
    by true h k = omega (arith, h)
    by false h k = omega (arith, h, k)

pub replay-few : (setting : Setting) (text : List ℕ) (answer : Replay) → length text ≤ most_text_bytes → IsReplayed setting (text_lines text) answer → IsFew answer
replay-few setting text answer few is = by answer is.says
  where
    by : (a : Replay) → SaysOf setting (text_lines text) is.last a → IsFew a
    by (replay.Complete events) s = tt
    by (replay.Incomplete count) s = let n = few-lines text in let k = s.1 in omega (arith, n, k, few)
    by (replay.Diverged count) s = let n = few-lines text in let k = s.1 in omega (arith, n, k, few)

module _ (setting : Setting) (sound : IsSound setting.schema) (valid : IsValid setting.schema setting.script) (limit : HasLimit setting) (text : List ℕ) where
  module _ (last : RunState) (follows : Follows setting (text_lines text) last) where
    -- the lines of what a run prints that ends so
    printed-whole : (e : RunEnding) → text_lines (transcript_text setting.schema last.lines ++ ending_line e) ≡ printed_lines setting last ++ ending_line e ∷ []
    printed-whole e =
        transcripts_are_lines setting.schema last.lines (ending_line e) sound (case_names_are_words setting follows.done last valid follows.plays) ∙ ap (λ ls. printed_lines setting last ++ ls) (ending-alone setting sound valid e)

    first-so : (count : ℕ) → AreFirstLines setting (take count (text_lines text)) → ArePrinted setting last (take count (text_lines text))
    first-so count =
        (replays_decide setting (take count (text_lines text)) (drop count (text_lines text)) last sound valid limit
        (subst (λ ls. Follows setting ls last) (sym (take-append-drop count (text_lines text))) follows)).0

    printed-so : (count : ℕ) → ArePrinted setting last (take count (text_lines text)) → AreFirstLines setting (take count (text_lines text))
    printed-so count =
        (replays_decide setting (take count (text_lines text)) (drop count (text_lines text)) last sound valid limit
        (subst (λ ls. Follows setting ls last) (sym (take-append-drop count (text_lines text))) follows)).1

    legal-so-far : (count : ℕ) → ArePrintedSoFar setting (text_lines text) last count → AreLegalSoFar setting text count
    legal-so-far count p = record { there = p.there; first = printed-so count p.first; most = λ more there first. p.most more there (first-so more first) }

    whole-text : AreWhole setting last (text_lines text) → (e : RunEnding) × EndsAs setting last e × (text ≡ transcript_text setting.schema last.lines ++ ending_line e)
    whole-text w = (w.0, w.1, same-text text (transcript_text setting.schema last.lines ++ ending_line w.0) (w.2 ∙ sym (printed-whole w.0)))

    not-legal : (AreWhole setting last (text_lines text) → ⊥) → IsLegalText setting text → ⊥
    not-legal none legal =
        let h = (legal_texts_decide setting text last sound valid follows).0 legal in
        none (h.0, h.1, ap text_lines h.2 ∙ printed-whole h.0)

  pub audited : (answer : Replay) → IsReplayed setting (text_lines text) answer → IsAudited setting text (audit_by answer)
  audited answer is = by answer is.says
    where
      by : (a : Replay) → SaysOf setting (text_lines text) is.last a → IsAudited setting text (audit_by a)
      by (replay.Complete events) s =
          let w = whole-text is.last is.follows s.0 in
          (record { choices = is.follows.done; state = is.last; plays = is.follows.plays; ending = w.0; ends = w.1; is = w.2 }, s.1)
      by (replay.Incomplete count) s = (not-legal is.last is.follows s.2, subst (AreLegalSoFar setting text) s.1 (legal-so-far is.last is.follows count s.0), ap (λ n. n + 1) s.1)
      by (replay.Diverged count) s = (count, legal-so-far is.last is.follows count s.0, s.1, refl)
