-- Lines that are compared with a text, one after another.
use Rattle.std.proofs.Common.{◌≡◌, ◌≢◌, ℕ, ◌+◌, ◌<◌, ◌≤◌, ◌==◌, Bool, true, false, cond, not, List, [], ◌∷◌, ◌++◌, length, refl, sym, ap, subst, ◌∙◌, append_assoc, length-append, arith}
use Rattle.std.proofs.lemmas.Bool.{eqb-true}
use Rattle.std.proofs.lemmas.List.{append-nil}
use Rattle.std.proofs.lemmas.List.Sums.{sum_by-append}
use Rattle.ipdl_base.specs.declared.line.Line.{Line}
use Rattle.ipdl_base.specs.declared.schema.Schema.{Schema}
use Rattle.ipdl_base.specs.Lines.{is_effect}
use Rattle.history.specs.Text.{line_text}
use Rattle.history.specs.Written.{HasWritten}
use Rattle.transcripts.specs.Printed.{line_texts}
use Rattle.transcripts.specs.TextLines.{text_lines}
use Rattle.transcripts.proofs.Parts.{texts-append}
use Rattle.transcripts.specs.declared.comparison.LineMatch.{LineMatch}
use Rattle.transcripts.specs.declared.comparison.LineMatch.TheVariants as alike
use Rattle.transcripts.specs.declared.comparison.Comparison.{Comparison}
use Rattle.transcripts.specs.Compared.{DifferAtOnce, EndsSo, HasCompared, HasPassed, IsWithin, events_in}

-- Texts that are empty, or not

pub is-empty : (xs : List ℕ) (b : Bool) → b ≡ (length xs == 0) → b ≡ true → xs ≡ []
is-empty [] b is h = refl
is-empty (x ∷ xs) b is h = let none : length (x ∷ xs) ≡ 0 = eqb-true (length (x ∷ xs)) 0 (sym is ∙ h) in absurd (omega (arith, none))

pub not-empty : (xs : List ℕ) (b : Bool) → b ≡ (length xs == 0) → b ≡ false → xs ≢ []
not-empty xs b is h none = let k : true ≡ false = ap (λ (l : List ℕ). length l == 0) (sym none) ∙ sym is ∙ h in cc

-- Comparisons one after another

-- all lines of a comparison are alike
pub all-passed : (schema : Schema) (before lines : List Line) (old new : Comparison) → HasCompared schema before lines old alike.All new → HasPassed (before ++ lines) new
all-passed schema before lines old new c = subst (λ ls. HasPassed (before ++ ls) new) (sym (c.split ∙ ap (λ ls. c.first ++ ls) c.ends.0 ∙ append-nil c.first)) c.ends.1

pub compared-more : (schema : Schema) (before one two : List Line) (old mid new : Comparison) (found : LineMatch) → HasCompared schema before one old alike.All mid → HasCompared schema (before ++ one) two mid found new → HasCompared schema before (one ++ two) old found new
compared-more schema before one two old mid new found c d =
    let whole : one ≡ c.first = c.split ∙ ap (λ ls. c.first ++ ls) c.ends.0 ∙ append-nil c.first in
    let count = c.count in
    let more = d.count in
    let long : length (one ++ d.first) ≡ length c.first + length d.first = length-append one d.first ∙ ap (λ (ls : List Line). length ls + length d.first) whole in
    record {
      first = one ++ d.first;
      others = d.others;
      split = ap (λ ls. one ++ ls) d.split ∙ sym (append_assoc one d.first d.others);
      is =
          c.is ∙ ap (λ (ls : List (List ℕ)). line_texts schema before c.first ++ ls) d.is ∙ ap (λ (ls : List Line). line_texts schema before ls ++ (line_texts schema (before ++ one) d.first ++ text_lines new.left.now)) (sym whole)
          ∙ sym (append_assoc (line_texts schema before one) (line_texts schema (before ++ one) d.first) (text_lines new.left.now))
          ∙ ap (λ (ls : List (List ℕ)). ls ++ text_lines new.left.now) (sym (texts-append schema before one d.first));
      count = omega (arith, count, more, long);
      within = d.within;
      ends = subst (λ ls. EndsSo schema ls d.others found new) (append_assoc before one d.first) d.ends;
    }

-- lines after those that a comparison has not passed
pub compared-following : (schema : Schema) (before lines more : List Line) (old new : Comparison) (found : LineMatch) → found ≢ alike.All → HasCompared schema before lines old found new → HasCompared schema before (lines ++ more) old found new
compared-following schema before lines more old new found stops c = record {
  first = c.first;
  others = c.others ++ more;
  split = ap (λ ls. ls ++ more) c.split ∙ append_assoc c.first c.others more;
  is = c.is;
  count = c.count;
  within = c.within;
  ends = by found stops c.ends;
}
  where
    some : (ls : List Line) → ls ≢ [] → ls ++ more ≢ []
    some [] h k = h refl
    some (l ∷ ls) h k = cc

    differ : (texts : List (List ℕ)) (ls : List Line) (at : List Line) → DifferAtOnce texts (line_texts schema at ls) → DifferAtOnce texts (line_texts schema at (ls ++ more))
    differ [] ls at h = absurd h
    differ (text ∷ texts) [] at h = absurd h
    differ (text ∷ texts) (l ∷ ls) at h = h

    by : (f : LineMatch) → f ≢ alike.All → EndsSo schema (before ++ c.first) c.others f new → EndsSo schema (before ++ c.first) (c.others ++ more) f new
    by alike.All h k = absurd (h refl)
    by alike.Over h k = (some c.others k.0, k.1)
    by alike.Other h k = differ (text_lines new.left.now) c.others (before ++ c.first) k

-- One line

pub compared-alike : (schema : Schema) (before : List Line) (line : Line) (old new : Comparison) (next following newest : List ℕ) → new.left.now ≡ following → new.lines ≡ old.lines + 1
    → HasPassed (before ++ line ∷ []) new → text_lines old.left.now ≡ next ∷ text_lines following → newest ≡ line_text schema before line → next ≡ newest → HasCompared schema before (line ∷ []) old alike.All new
compared-alike schema before line old new next following newest left lines now is text same = record {
  first = line ∷ [];
  others = [];
  split = refl;
  is = is ∙ ap (λ t. t ∷ text_lines following) (same ∙ text) ∙ ap (λ b. line_text schema before line ∷ text_lines b) (sym left);
  count = lines;
  within = now.within;
  ends = (refl, now);
}

pub within-more : (old new : Comparison) (line : Line) (following : List ℕ) → IsWithin old → new.left.now ≡ following → new.lines ≡ old.lines + 1 → new.events ≡ old.events + events_in (line ∷ []) → length following < length old.left.now → IsWithin new
within-more old new line following within left lines events shorter =
    let few = within.0 in
    let less = within.1 in
    let size : length new.left.now ≡ length following = ap length left in
    let one = one-event (is_effect line.what) in
    (omega (arith, few, size, lines, shorter), omega (arith, less, lines, events, one))
  where
    one-event : (b : Bool) → cond (not b) 1 0 + 0 ≤ 1
    one-event true = omega arith
    one-event false = omega arith

pub passed-more : (before : List Line) (line : Line) (old new : Comparison) → HasWritten (before ++ line ∷ []) new.writer → HasPassed before old → new.lines ≡ old.lines + 1 → new.events ≡ old.events + events_in (line ∷ []) → IsWithin new → HasPassed (before ++ line ∷ []) new
passed-more before line old new written passed lines events within =
    let count = passed.count in
    let so_far = passed.events in
    let long : length (before ++ line ∷ []) ≡ length before + 1 = length-append before (line ∷ []) in
    record {
      count = omega (arith, lines, count, long);
      events = events ∙ ap (λ n. n + events_in (line ∷ [])) so_far ∙ sym (sum_by-append (λ (l : Line). cond (not (is_effect l.what)) 1 0) before (line ∷ []));
      written = written;
      within = within;
    }
