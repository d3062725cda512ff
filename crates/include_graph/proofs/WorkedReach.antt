-- Worked cases of keys, of the names under which they are read, and of a reach with wrong variants.
use Rattle.std.proofs.Common.{◌≡◌, ◌≢◌, ◌<◌, ◌⊎◌, ◌∙◌, inl, inr, ℕ, zero, suc, if◌then◌else◌, List, [], ◌∷◌, length, take, refl, sym, subst, arith}
use Rattle.std.specs.Prelude.{Some, None, slice_get, codes}
use Rattle.std.specs.List.{AllPairs, Contains}
use Rattle.std.proofs.lemmas.List.Kept.{AllPairs-cons}
use Rattle.std.proofs.lemmas.List.Elements.{All-from_recursion}
use Rattle.std.proofs.lemmas.Option.{same_Some, slice_get_within, get_or_from_slice_get}
use Rattle.ipdl_base.specs.Outside.{FileMap}
use Rattle.ipdl_base.specs.FileNames.{key_of}
use Rattle.include_graph.specs.Keys.{is_same, word_keys}
use Rattle.include_graph.specs.Reach.{all_named, first_place, IsReachBy}
use Rattle.include_graph.specs.Sources.{LoadInput, in_directory, read_name, content, text_of}

-- Keys

key_after_slashes : key_of (codes "one/two/PX.ipdl") ≡ codes "PX.ipdl"
key_after_slashes = refl

key_without_slash : key_of (codes "PX.ipdl") ≡ codes "PX.ipdl"
key_without_slash = refl

words_once : word_keys (codes "a/PX.ipdl" ∷ codes "PY.ipdl" ∷ codes "a/PX.ipdl" ∷ []) ≡ codes "PX.ipdl" ∷ codes "PY.ipdl" ∷ []
words_once = refl

-- Names

the_dot : in_directory (codes ".") (codes "PX.ipdl") ≡ codes "PX.ipdl"
the_dot = refl

-- one file in a directory of the path, and nothing else
abbrev two : FileMap
two name = if is_same name (codes "two/PY.ipdl") then Some (codes "y") else None

abbrev given : LoadInput
given = record { files = two; words = codes "one/PX.ipdl" ∷ []; path = codes "one" ∷ codes "two" ∷ codes "." ∷ [] }

-- a word is the name of its key, though there is no such file, and though the path might have one
by_word : read_name given (codes "PX.ipdl") ≡ Some (codes "one/PX.ipdl")
by_word = refl

absent_word : content given (codes "PX.ipdl") ≡ None
absent_word = refl

-- the first directory that has the key
by_path : read_name given (codes "PY.ipdl") ≡ Some (codes "two/PY.ipdl")
by_path = refl

held_by_path : content given (codes "PY.ipdl") ≡ Some (codes "y")
held_by_path = refl

-- no directory has the key
by_none : read_name given (codes "PZ.ipdl") ≡ None
by_none = refl

called_by_key : text_of given (codes "PZ.ipdl") ≡ codes "PZ.ipdl"
called_by_key = refl

-- A reach: the word's file names B and then A, and these name each other and the word's file.

abbrev w : List ℕ
w = codes "W.ipdl"

abbrev a : List ℕ
a = codes "A.ipdl"

abbrev b : List ℕ
b = codes "B.ipdl"

abbrev rows : List (List (List ℕ))
rows = (b ∷ a ∷ []) ∷ (a ∷ []) ∷ (b ∷ w ∷ []) ∷ []

-- two keys that differ in their first byte
differ : (x y : ℕ) (xs ys : List ℕ) → ¬ (x ≡ y) → ¬ (x ∷ xs ≡ y ∷ ys)
differ x y xs ys apart e = apart (let same : x ≡ y = cc in same)

one_pair : (x y : List ℕ) (R : List ℕ → List ℕ → Type 0) → R x y → AllPairs R (x ∷ y ∷ [])
one_pair x y R h zero (suc zero) d before within = h
one_pair x y R h zero zero d before within = absurd (omega arith)
one_pair x y R h zero (suc (suc j)) d before within = absurd (omega arith)
one_pair x y R h (suc i) zero d before within = absurd (omega arith)
one_pair x y R h (suc i) (suc j) d before within = absurd (omega arith)

apart_w_b : ¬ (w ≡ b)
apart_w_b = differ 87 66 (codes ".ipdl") (codes ".ipdl") (λ e. omega arith)

apart_w_a : ¬ (w ≡ a)
apart_w_a = differ 87 65 (codes ".ipdl") (codes ".ipdl") (λ e. omega arith)

apart_b_a : ¬ (b ≡ a)
apart_b_a = differ 66 65 (codes ".ipdl") (codes ".ipdl") (λ e. omega arith)

here : (xs : List (List ℕ)) (n : ℕ) (x key : List ℕ) → slice_get xs n ≡ Some x → x ≡ key → Contains xs key
here xs n x key at is = (n, slice_get_within xs n x at, get_or_from_slice_get xs n x key at ∙ is)

earlier : (number : ℕ) (key : List ℕ) → slice_get (w ∷ b ∷ a ∷ []) number ≡ Some key → Contains (word_keys (w ∷ [])) key ⊎ Contains (all_named (take number rows)) key
earlier zero key e = inl (here (w ∷ []) 0 w key refl (same_Some _ _ e))
earlier (suc zero) key e = inr (here (b ∷ a ∷ []) 0 b key refl (same_Some _ _ e))
earlier (suc (suc zero)) key e = inr (here (b ∷ a ∷ a ∷ []) 1 a key refl (same_Some _ _ e))
earlier (suc (suc (suc n))) key e = absurd (let none : ⊥ = cc in none)

whole : (key : List ℕ) → Contains (all_named rows) key → Contains (w ∷ b ∷ a ∷ []) key
whole key (zero, within, is) = here (w ∷ b ∷ a ∷ []) 1 b key refl is
whole key (suc zero, within, is) = here (w ∷ b ∷ a ∷ []) 2 a key refl is
whole key (suc (suc zero), within, is) = here (w ∷ b ∷ a ∷ []) 2 a key refl is
whole key (suc (suc (suc zero)), within, is) = here (w ∷ b ∷ a ∷ []) 1 b key refl is
whole key (suc (suc (suc (suc zero))), within, is) = here (w ∷ b ∷ a ∷ []) 0 w key refl is
whole key (suc (suc (suc (suc (suc k)))), within, is) = absurd (omega arith)

reach : IsReachBy (w ∷ []) (w ∷ b ∷ a ∷ []) rows
reach = record {
  few = omega arith;
  once = AllPairs-cons (λ one other. one ≢ other) w (b ∷ a ∷ []) (All-from_recursion (λ other. w ≢ other) (b ∷ a ∷ []) (apart_w_b, (apart_w_a, tt))) (one_pair b a (λ one other. one ≢ other) apart_b_a);
  further = b ∷ a ∷ [];
  begins = refl;
  earlier = earlier;
  ordered = one_pair b a (λ one other. first_place (all_named rows) one < first_place (all_named rows) other) (omega arith);
  whole = λ key c. inl (whole key c);
}

-- not in another order
not_in_another_order : ¬ IsReachBy (w ∷ []) (w ∷ a ∷ b ∷ []) rows
not_in_another_order r =
    let tail : a ∷ b ∷ [] ≡ r.further = cc (r.begins) in
    let before : first_place (all_named rows) a < first_place (all_named rows) b = subst (λ ks. AllPairs (λ one other. first_place (all_named rows) one < first_place (all_named rows) other) ks) (sym tail) r.ordered 0 1 a (omega arith) (omega arith) in
    omega arith

-- not without a key that is named, while there is room
not_with_one_less : ¬ IsReachBy (w ∷ []) (w ∷ b ∷ []) ((b ∷ a ∷ []) ∷ (a ∷ []) ∷ [])
not_with_one_less r = elim (r.whole a (here (b ∷ a ∷ a ∷ []) 1 a a refl refl)) [
  | inl there ↦ no_a there
  | inr left ↦ (let full : length (w ∷ b ∷ []) ≡ 4096 = left.full in omega arith)
]
  where
    no_a : ¬ Contains (w ∷ b ∷ []) a
    no_a (zero, within, is) = apart_w_a is
    no_a (suc zero, within, is) = apart_b_a is
    no_a (suc (suc k), within, is) = omega arith

-- not with a key that only its own file names
not_by_itself : ¬ IsReachBy (w ∷ []) (w ∷ a ∷ []) ([] ∷ (a ∷ []) ∷ [])
not_by_itself r = elim (r.earlier 1 a refl) [
  | inl word ↦ no_word word
  | inr named ↦ (let k = named.1 in omega arith)
]
  where
    no_word : ¬ Contains (w ∷ []) a
    no_word (zero, within, is) = apart_w_a is
    no_word (suc k, within, is) = omega arith
