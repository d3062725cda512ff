-- A value of `--path` is cut into its folders at each `:`.
use Rattle.std.proofs.Common.{◌≡◌, ◌≢◌, ◌∙◌, ◌==◌, ◌≤◌, ℕ, zero, suc, Bool, true, false, cond, List, [], ◌∷◌, length, refl, sym, ap, subst, arith, not, true≢false, map, ◌&&◌}
use Rattle.std.specs.Borrow.{Bor}
use Rattle.std.specs.List.{AllByRecursion, join_with_byte, list_all, onto_first}
use Rattle.std.proofs.lemmas.List.Splits.{join_with_byte-slice_split, length-slice_split}
use Rattle.std.proofs.lemmas.Bool.{and_from, and_parts}
use Rattle.std.proofs.lemmas.Bool.Decides.{nat_tests}
use Rattle.clap.proofs.CutLemmas.{Lacks, slice_split-at, slice_split-Lacks}
use Rattle.command_words.specs.Compile.{AreDirs, IsDir}
use Rattle.command_words.specs.Listed.{pieces}
use Rattle.command_words.proofs.Comparisons.{byte_is_not}

lacks : (dir : List ℕ) → AllByRecursion (λ b. b ≢ 58) dir → Lacks 58 dir
lacks [] h i lt = absurd (omega arith)
lacks (b ∷ bs) h zero lt = h.0
lacks (b ∷ bs) h (suc i) lt = lacks bs h.1 i (omega arith)

cut_joined : (dir : List ℕ) (dirs : List (List ℕ)) → IsDir dir → AllByRecursion IsDir dirs → pieces (join_with_byte 58 (dir ∷ dirs)) ≡ dir ∷ dirs
cut_joined dir [] h hs = slice_split-Lacks 58 dir (lacks dir h.whole)
cut_joined dir (next ∷ dirs) h hs =
    slice_split-at 58 dir (join_with_byte 58 (next ∷ dirs)) (lacks dir h.whole) ∙ ap (λ (ds : List (List ℕ)). dir ∷ ds) (cut_joined next dirs hs.0 hs.1)

-- the folders of a value are its pieces
pub dirs_are : (text : List ℕ) (dirs : List (List ℕ)) → AreDirs text dirs → dirs ≡ pieces text
dirs_are text [] h = let least = h.least in absurd (omega arith)
dirs_are text (dir ∷ dirs) h = sym (ap pieces h.text_is ∙ cut_joined dir dirs h.each.0 h.each.1)

-- no piece has a `:`
abbrev HasNone : List (List ℕ) → Type 0
HasNone = AllByRecursion (AllByRecursion (λ b. b ≢ 58))

onto : (b : ℕ) (ds : List (List ℕ)) → b ≢ 58 → HasNone ds → HasNone (onto_first b ds)
onto b [] ne h = ((ne, tt), tt)
onto b (d ∷ ds) ne h = ((ne, h.0), h.1)

pieces_have_none : (text : List ℕ) → HasNone (pieces text)
pieces_have_none [] = (tt, tt)
pieces_have_none (b ∷ bs) = go (b == 58) refl (pieces_have_none bs)
  where
    go : (t : Bool) → (b == 58) ≡ t → HasNone (pieces bs) → HasNone (cond t ([] ∷ pieces bs) (onto_first b (pieces bs)))
    go true e h = (tt, h)
    go false e h = onto b (pieces bs) (byte_is_not b 58 e) h

-- pieces that are few and not empty are the folders of the value
pub pieces_are : (text : List ℕ) → length (pieces text) ≤ 64 → list_all (λ d. not (length d == 0)) (pieces text) ≡ true → AreDirs text (pieces text)
pieces_are text few full = record {
  text_is = sym (join_with_byte-slice_split 58 text);
  each = go (pieces text) full (pieces_have_none text);
  least = omega (arith, length-slice_split (λ b. b == 58) text);
  most = few;
}
  where
    full_one : (d : List ℕ) → not (length d == 0) ≡ true → d ≢ []
    full_one [] e = absurd (true≢false (sym e))
    full_one (b ∷ bs) e = λ is. cc

    go : (ds : List (List ℕ)) → list_all (λ d. not (length d == 0)) ds ≡ true → HasNone ds → AllByRecursion IsDir ds
    go [] e h = tt
    go (d ∷ ds) e h = let both = and_parts (not (length d == 0)) (list_all (λ d. not (length d == 0)) ds) e in (record { full = full_one d both.0; whole = h.0 }, go ds both.1 h.1)

is_full : (n : ℕ) → not (suc n == 0) ≡ true
is_full n = let no : (suc n == 0) ≡ false = grind (arith, nat_tests) in ap not no

-- folders are few and not empty
pub dirs_pass : (text : List ℕ) (dirs : List (List ℕ)) → AreDirs text dirs → (length (pieces text) ≤ 64) × (list_all (λ d. not (length d == 0)) (pieces text) ≡ true)
dirs_pass text dirs h =
    let is = dirs_are text dirs h in
    (subst (λ (ds : List (List ℕ)). length ds ≤ 64) is h.most, subst (λ (ds : List (List ℕ)). list_all (λ d. not (length d == 0)) ds ≡ true) is (go dirs h.each))
  where
    full_one : (d : List ℕ) → d ≢ [] → not (length d == 0) ≡ true
    full_one [] ne = absurd (ne refl)
    full_one (b ∷ bs) ne = is_full (length bs)

    go : (ds : List (List ℕ)) → AllByRecursion IsDir ds → list_all (λ d. not (length d == 0)) ds ≡ true
    go [] h = refl
    go (d ∷ ds) h = and_from (not (length d == 0)) (list_all (λ d. not (length d == 0)) ds) (full_one d h.0.full) (go ds h.1)

-- what the references show
pub views_length : (ds : List (Bor (List ℕ))) → length (map (λ d. d.now) ds) ≡ length ds
views_length [] = refl
views_length (d ∷ ds) = ap suc (views_length ds)

pub all_views : (ds : List (Bor (List ℕ))) → list_all (λ d. not (length d.now == 0)) ds ≡ list_all (λ d. not (length d == 0)) (map (λ d. d.now) ds)
all_views [] = refl
all_views (d ∷ ds) = ap (λ b. not (length d.now == 0) && b) (all_views ds)
