-- The walk over the files at its start and at its end.
use Rattle.std.proofs.Common.{◌≡◌, ◌≢◌, inl, inr, ℕ, zero, suc, ◌<◌, ◌≤◌, List, [], ◌∷◌, ◌++◌, length, get_or, map, refl, sym, ◌∙◌, ap, subst, arith, Bor}
use Rattle.std.specs.Prelude.{Option, Some, None, slice_get, option_map, MatchOption}
use Rattle.std.specs.Option.{option_or}
use Rattle.std.specs.List.{AllPairs, AllZip, Contains}
use Rattle.std.proofs.lemmas.Bool.{cases_lt}
use Rattle.std.proofs.lemmas.List.{append-nil, length-map, get_or_append_left}
use Rattle.std.proofs.lemmas.List.Elements.{All-from_recursion, All-contains}
use Rattle.std.proofs.lemmas.Option.{slice_get_within, slice_get-map, slice_get_read, slice_get_past, get_or_from_slice_get, same_Some}
use Rattle.std.proofs.lemmas.Slice.Zip.{AllZip-long}
use Rattle.ipdl_base.specs.Outside.{FileMap}
use Rattle.include_graph.specs.declared.walk.ReachedFile.{ReachedFile}
use Rattle.include_graph.specs.Growth.{HasWords}
use Rattle.ipdl_base.specs.FileNames.{key_of, IsFileWord}
use Rattle.include_graph.specs.Keys.{different, word_keys, AreFileWords}
use Rattle.include_graph.specs.declared.read.SourceFile.{SourceFile}
use Rattle.include_graph.specs.Reading.{AreRead, IsSource}
use Rattle.include_graph.specs.Sources.{LoadInput, word_of, name_on_path}
use Rattle.include_graph.proofs.Directories.{on_different}
use Rattle.include_graph.proofs.Places.{in_none}
use Rattle.include_graph.proofs.Walks.{AreReached, Walking}
use Rattle.include_graph.proofs.WholeKeys.{IsWhole, whole_word}
use Rattle.include_graph.proofs.WordKeys.{word_found, no_word, different_has}

pub there_is : {X : Type 0} (xs : List X) (n : ℕ) → n < length xs → (x : X) × (slice_get xs n ≡ Some x)
there_is [] n h = absurd (let none : ⊥ = omega arith in none)
there_is (x ∷ xs) zero h = (x, refl)
there_is (x ∷ xs) (suc n) h = there_is xs n (omega arith)

pub contains_at : (xs : List (List ℕ)) (n : ℕ) (x : List ℕ) → slice_get xs n ≡ Some x → Contains xs x
contains_at xs n x e = (n, slice_get_within xs n x e, get_or_from_slice_get xs n x x e)

pub zip_at : {X Y : Type 0} (R : X → Y → Type 0) (xs : List X) (ys : List Y) (n : ℕ) (x : X) → AllZip R xs ys → slice_get xs n ≡ Some x → (y : Y) × (slice_get ys n ≡ Some y) × R x y
zip_at R [] ys n x h e = absurd (let none : ⊥ = cc in none)
zip_at R (x' ∷ xs) [] n x h e = elim h [ ]
zip_at {X} {Y} R (x' ∷ xs) (y ∷ ys) zero x h e = (y, refl, subst (λ (z : X). R z y) (same_Some _ _ e) h.0)
zip_at R (x' ∷ xs) (y ∷ ys) (suc n) x h e = zip_at R xs ys n x h.1 e

get_front : {X : Type 0} (xs ys : List X) (n : ℕ) (x : X) → n < length xs → slice_get (xs ++ ys) n ≡ Some x → slice_get xs n ≡ Some x
get_front [] ys n x less e = absurd (let none : ⊥ = omega arith in none)
get_front (y ∷ xs) ys zero x less e = e
get_front (y ∷ xs) ys (suc n) x less e = get_front xs ys n x (omega arith) e

-- the result of a lookup by index, without its references
pub copied_is : (xs : List (Bor (List ℕ))) (i : ℕ) (r : Option (Bor (Bor (List ℕ)))) → MatchOption r (length xs ≤ i) (λ x. (i < length xs) × ((d : Bor (List ℕ)) → x.now ≡ get_or xs i d)) → option_map (λ y. y.now) (option_map (λ x. x.now) r) ≡ slice_get (map (λ f. f.now) xs) i
copied_is xs i None h = sym (slice_get_past (map (λ (f : Bor (List ℕ)). f.now) xs) i (omega (arith, length-map xs (λ (f : Bor (List ℕ)). f.now))))
copied_is xs i (Some x) h = sym (slice_get-map (λ (f : Bor (List ℕ)). f.now) xs i ∙ ap (option_map (λ (f : Bor (List ℕ)). f.now)) (slice_get_read xs (length xs) i x.now refl h.0 (h.1 x.now)))

-- at the start the keys are those of the words, and no file is read
pub walk_start : (words list firsts : List (List ℕ)) → AreFileWords words → HasWords words list firsts → Walking words list []
walk_start words list firsts files h = record {
  grown = record {
    few = (let a = h.few in let b = files.few in omega arith);
    once = h.once;
    further = [];
    begins = h.keys ∙ sym (append-nil (word_keys words));
    told = λ i d within. absurd (omega arith);
    ordered = λ i j d before within. absurd (omega arith);
    whole = λ key c. absurd (in_none key c);
  };
  earlier = λ number key e. inl (subst (λ ks. Contains ks key) h.keys (contains_at list number key e));
  room = omega arith;
  whole = λ number key e.
      let z = zip_at (λ k w. word_of words k ≡ Some w) list firsts number key h.first e in
      let found = word_found words key z.0 z.2 in
      subst IsWhole found.1 (whole_word z.0 (All-contains IsFileWord words z.0 (All-from_recursion IsFileWord words files.files) found.0));
  plain = λ number key e past. (let a = slice_get_within list number key e in let b = ap length h.keys in absurd (omega arith));
}

pub none_reached : (given : LoadInput) (list : List (List ℕ)) → AreReached given list []
none_reached given list number key file e none = absurd (let no : ⊥ = cc in no)

-- the word of a key, if it has one, is at the key's index
pub first_word : (words first list further firsts : List (List ℕ)) (number : ℕ) (key : List ℕ) → HasWords words first firsts → list ≡ word_keys words ++ further → AllPairs (λ one other. one ≢ other) list
    → slice_get list number ≡ Some key → slice_get firsts number ≡ word_of words key
first_word words first list further firsts number key h begin once e = elim (cases_lt number (length first)) [
  | inl less ↦
      let z = zip_at (λ k v. word_of words k ≡ Some v) first firsts number key h.first (in_first less) in
      z.1 ∙ sym z.2
  | inr more ↦
      let long = AllZip-long (λ k v. word_of words k ≡ Some v) first firsts h.first in
      slice_get_past firsts number (omega arith) ∙ sym (no_word words key (λ c. no_key more (different_has (map key_of words) key c)))
]
  where
    begins : list ≡ first ++ further
    begins = begin ∙ ap (λ ks. ks ++ further) (sym h.keys)

    in_first : number < length first → slice_get first number ≡ Some key
    in_first less = get_front first further number key less (subst (λ ks. slice_get ks number ≡ Some key) begins e)

    no_key : length first ≤ number → ¬ Contains (word_keys words) key
    no_key more c =
        let d : Contains first key = subst (λ ks. Contains ks key) (sym h.keys) c in
        let before : d.0 < number = (let a = d.1 in omega arith) in
        let one : get_or list d.0 key ≡ key = ap (λ ks. get_or ks d.0 key) begins ∙ get_or_append_left first further key d.0 d.1 ∙ d.2 in
        let other : get_or list number key ≡ key = get_or_from_slice_get list number key key e in
        once d.0 number key before (slice_get_within list number key e) (one ∙ sym other)

-- an index without a word is past the keys of the words
pub past_first : (words first firsts : List (List ℕ)) (n : ℕ) → HasWords words first firsts → slice_get firsts n ≡ None → length (word_keys words) ≤ n
past_first words first firsts n h none =
    let long = AllZip-long (λ k v. word_of words k ≡ Some v) first firsts h.first in
    let same = ap length h.keys in
    elim (cases_lt n (length firsts)) [
      | inl less ↦ (let x = there_is firsts n less in absurd (let differ : ⊥ = clash x.1 in differ))
      | inr more ↦ omega arith
    ]
  where
    clash : {x : List ℕ} → slice_get firsts n ≡ Some x → ⊥
    clash e = cc

-- if all keys have their files, these are read
pub walk_end : (given : LoadInput) (list : List (List ℕ)) (files : List ReachedFile) → Walking given.words list files → length list ≤ length files → AreReached given list files → AreRead given list files
walk_end given list files w all each = let r = w.room in record {
  size = omega arith;
  each = each;
  reached = record {
    few = w.grown.few;
    once = w.grown.once;
    further = w.grown.further;
    begins = w.grown.begins;
    earlier = w.earlier;
    ordered = w.grown.ordered;
    whole = λ key c. elim (w.grown.whole key c) [ inl there ↦ inl there | inr left ↦ inr left ];
  };
}

-- files that are searched for in the distinct directories of a path are searched for on the path
pub on_whole_path : (files : FileMap) (words path list : List (List ℕ)) (reached : List ReachedFile)
    → AreRead (record { files = files; words = words; path = different path }) list reached → AreRead (record { files = files; words = words; path = path }) list reached
on_whole_path files words path list reached read = record {
  size = read.size;
  each = λ number key file a b.
      let r = read.each number key file a b in
      record {
        source = subst (λ o. IsSource number key files (option_or (word_of words key) o) file.source) (on_different files key path) r.source;
        targets = r.targets;
      };
  reached = read.reached;
}

-- two keys at different indices of the list differ
pub apart : (list : List (List ℕ)) (i j : ℕ) (one other : List ℕ) → AllPairs (λ x y. x ≢ y) list → i < j → slice_get list i ≡ Some one → slice_get list j ≡ Some other → one ≢ other
apart list i j one other once before a b e =
    once i j one before (slice_get_within list j other b) (get_or_from_slice_get list i one one a ∙ (e ∙ sym (get_or_from_slice_get list j other one b)))

-- a key that has a number below this one
abbrev pub IsBefore : List (List ℕ) → ℕ → List ℕ → Type 0
IsBefore list n key = (number : ℕ) × (number < n) × (slice_get list number ≡ Some key)

-- the file of a key is that of an equal key
pub same_key : {n n' : ℕ} {k k' : List ℕ} {o o' : Option (List ℕ)} (path : List (List ℕ)) (source : SourceFile) → n ≡ n' → k ≡ k' → o ≡ o'
    → (m : FileMap) → IsSource n k m (option_or o (name_on_path m path k)) source → IsSource n' k' m (option_or o' (name_on_path m path k')) source
same_key {n} {n'} {k} {k'} {o} {o'} path source b c d m h =
    subst (λ x. IsSource n' k' m (option_or x (name_on_path m path k')) source) d
    (subst (λ x. IsSource n' x m (option_or o (name_on_path m path x)) source) c
    (subst (λ x. IsSource x k m (option_or o (name_on_path m path k)) source) b h))
