-- The first line of a text ends after its first line feed.
use Rattle.std.proofs.Common.{◌≡◌, ◌≢◌, ℕ, suc, ◌+◌, ◌<◌, ◌≤◌, ◌==◌, Bool, true, false, not, cond, if◌then◌else◌, List, [], ◌∷◌, length, take, drop, refl, sym, ap, subst, ◌∙◌, arith}
use Rattle.std.specs.List.{prefix_len}
use Rattle.std.proofs.Math.Seq.{take-length, drop-length}
use Rattle.transcripts.specs.TextLines.{text_lines, with_first}
use Rattle.transcripts.specs.Lines.{IsFirstLine, is_no_feed}

-- a text's first line, where so many bytes and a line feed stand first
abbrev FirstLineIs : List ℕ → ℕ → Type 0
FirstLineIs text count = text_lines text ≡ take (suc count) text ∷ text_lines (drop (suc count) text)

fed : (text : List ℕ) → prefix_len is_no_feed text < length text → FirstLineIs text (prefix_len is_no_feed text)
fed [] h = absurd (omega (arith, h))
fed (x ∷ xs) h = by (x == 10) h (fed xs)
  where
    by : (b : Bool) → cond (not b) (1 + prefix_len is_no_feed xs) 0 < suc (length xs) → (prefix_len is_no_feed xs < length xs → FirstLineIs xs (prefix_len is_no_feed xs))
        → (if b then (x ∷ []) ∷ text_lines xs else with_first x (text_lines xs))
        ≡ take (suc (cond (not b) (1 + prefix_len is_no_feed xs) 0)) (x ∷ xs) ∷ text_lines (drop (suc (cond (not b) (1 + prefix_len is_no_feed xs) 0)) (x ∷ xs))
    by true k next = refl
    by false k next =
        let one : suc (prefix_len is_no_feed xs) ≡ 1 + prefix_len is_no_feed xs = omega arith in
        ap (with_first x) (next (omega (arith, k))) ∙ ap (λ (n : ℕ). (x ∷ take n xs) ∷ text_lines (drop n xs)) one

alone : (b : Bool) (x : ℕ) → (if b then (x ∷ []) ∷ [] else (x ∷ []) ∷ []) ≡ (x ∷ []) ∷ []
alone true x = refl
alone false x = refl

unfed : (text : List ℕ) → text ≢ [] → length text ≤ prefix_len is_no_feed text → text_lines text ≡ text ∷ []
unfed [] some h = absurd (some refl)
unfed (x ∷ []) some h = alone (x == 10) x
unfed (x ∷ y ∷ ys) some h = by (x == 10) h (λ k. unfed (y ∷ ys) (λ e. cc) k)
  where
    by : (b : Bool) → suc (length (y ∷ ys)) ≤ cond (not b) (1 + prefix_len is_no_feed (y ∷ ys)) 0 → (length (y ∷ ys) ≤ prefix_len is_no_feed (y ∷ ys) → text_lines (y ∷ ys) ≡ (y ∷ ys) ∷ [])
        → (if b then (x ∷ []) ∷ text_lines (y ∷ ys) else with_first x (text_lines (y ∷ ys))) ≡ (x ∷ y ∷ ys) ∷ []
    by true k next = absurd (omega (arith, k))
    by false k next = ap (with_first x) (next (omega (arith, k)))

pub fed-first : (text : List ℕ) (k : ℕ) → k ≡ prefix_len is_no_feed text → k < length text → IsFirstLine text (k + 1)
fed-first text k is h = record {
  lines =
      let n : suc (prefix_len is_no_feed text) ≡ k + 1 = omega (arith, is) in
      fed text (subst (λ m. m < length text) is h) ∙ ap (λ (m : ℕ). take m text ∷ text_lines (drop m text)) n;
  some = omega arith;
  within = omega (arith, h);
}

some-length : (text : List ℕ) → text ≢ [] → 0 < length text
some-length [] some = absurd (some refl)
some-length (x ∷ xs) some = omega arith

pub unfed-first : (text : List ℕ) (k : ℕ) → text ≢ [] → k ≡ prefix_len is_no_feed text → k ≤ length text → length text ≤ k → IsFirstLine text k
unfed-first text k some is within all =
    let n : k ≡ length text = omega (arith, within, all) in
    let long : 0 < length text = some-length text some in
    record {
      lines =
          unfed text some (subst (λ m. length text ≤ m) is all) ∙ ap (λ (t : List ℕ). t ∷ text_lines []) (sym (take-length text)) ∙ ap (λ (t : List ℕ). take (length text) text ∷ text_lines t) (sym (drop-length text))
          ∙ ap (λ (m : ℕ). take m text ∷ text_lines (drop m text)) (sym n);
      some = omega (arith, n, long);
      within = within;
    }
