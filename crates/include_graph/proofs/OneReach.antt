-- There is at most one reach: each further key of one reach is at the same index in any other.
use Rattle.std.proofs.Common.{◌≡◌, ◌≢◌, ◌∙◌, ◌⊎◌, inl, inr, ℕ, zero, suc, ◌<◌, ◌≤◌, List, [], ◌∷◌, ◌++◌, length, take, drop, get_or, Some, refl, sym, ap, subst, length-append, append_assoc, append-nil, arith}
use Rattle.std.specs.List.{AllPairs, Contains, slice_get}
use Rattle.std.proofs.Math.Seq.{get_or-append_seam}
use Rattle.std.proofs.lemmas.List.{get_or-take, length-take, same_lists, get_or_append_left, take-append-drop}
use Rattle.std.proofs.lemmas.List.Elements.{All-contains, Contains-append_cases, Contains-append_left, Contains-append_right}
use Rattle.std.proofs.lemmas.Grind.{flat_map-append}
use Rattle.std.proofs.lemmas.Option.{slice_get-get_or}
use Rattle.include_graph.specs.Keys.{word_keys}
use Rattle.include_graph.specs.Sources.{LoadInput, content}
use Rattle.include_graph.specs.Reach.{AreNamed, IsLeftOut, IsReachBy, all_named, first_place}
use Rattle.include_graph.specs.Laws.{OneReach}
use Rattle.include_graph.proofs.OneUnit.{AtMostOne, names_one}
use Rattle.include_graph.proofs.Places.{place_append, place_one}

abbrev Keys : Type 0
Keys = List (List ℕ)

-- a key is not among those before it
not_before : (front : Keys) (key : List ℕ) (following : Keys) → AllPairs (λ one other. one ≢ other) (front ++ key ∷ following) → Contains front key → ⊥
not_before front key following once (k, below, is) =
    once k (length front) key below (omega (arith, length-append front (key ∷ following))) (get_or_append_left front (key ∷ following) key k below ∙ (is ∙ sym (get_or-append_seam front key following key)))

tail_pairs : (R : List ℕ → List ℕ → Type 0) (x : List ℕ) (xs : Keys) → AllPairs R (x ∷ xs) → AllPairs R xs
tail_pairs R x xs pairs = λ i j d before below. pairs (suc i) (suc j) d (omega arith) (omega arith)

-- a key and a later one are in order
in_order : (R : List ℕ → List ℕ → Type 0) (front : Keys) (key : List ℕ) (following : Keys) (later : List ℕ) → AllPairs R (front ++ key ∷ following) → Contains following later → R key later
in_order R [] key following later pairs (k, below, is) = subst (R key) is (pairs 0 (suc k) later (omega arith) (omega arith))
in_order R (x ∷ front) key following later pairs c = in_order R front key following later (tail_pairs R x (front ++ key ∷ following) pairs) c

-- it is the first, or comes later
first_or_later : (x : List ℕ) (xs : Keys) (key : List ℕ) → Contains (x ∷ xs) key → (x ≡ key) ⊎ Contains xs key
first_or_later x xs key (zero, below, is) = inl is
first_or_later x xs key (suc k, below, is) = inr (k, omega arith, is)

slice_seam : (front : Keys) (key : List ℕ) (following : Keys) → slice_get (front ++ key ∷ following) (length front) ≡ Some key
slice_seam front key following =
    slice_get-get_or (front ++ key ∷ following) (length front) key (omega (arith, length-append front (key ∷ following))) ∙ ap Some (get_or-append_seam front key following key)

-- the names in the files of keys, if two lists begin with the same keys
rows_same : AtMostOne → (given : LoadInput) (front following beside : Keys) (rows others : List Keys)
    → AreNamed given (front ++ following) rows → AreNamed given (front ++ beside) others → take (length front) rows ≡ take (length front) others
rows_same laws given front following beside rows others named called =
    same_lists (take (length front) rows) (take (length front) others)
    (omega (arith, length-take (length front) rows, length-take (length front) others, named.size, called.size, length-append front following, length-append front beside))
    (λ k d below.
    let n = length front in
    let within : k < n = omega (arith, below, length-take n rows) in
    let row : k < length rows = omega (arith, below, length-take n rows) in
    let other : k < length others = omega (arith, within, called.size, length-append front beside) in
    let key : List ℕ = get_or front k [] in
    let here : slice_get (front ++ following) k ≡ Some key =
    slice_get-get_or (front ++ following) k [] (omega (arith, within, length-append front following)) ∙ ap Some (get_or_append_left front following [] k within) in
    let there : slice_get (front ++ beside) k ≡ Some key =
    slice_get-get_or (front ++ beside) k [] (omega (arith, within, length-append front beside)) ∙ ap Some (get_or_append_left front beside [] k within) in
    get_or-take n rows k d within
    ∙ (names_one laws k key (content given key) (get_or rows k d) (get_or others k d) (named.each k key _ here (slice_get-get_or rows k d row)) (called.each k key _ there (slice_get-get_or others k d other))
    ∙ sym (get_or-take n others k d within)))

-- the names in some files and then in others
named_split : (n : ℕ) (rows : List Keys) → all_named rows ≡ all_named (take n rows) ++ all_named (drop n rows)
named_split n rows = ap all_named (sym (take-append-drop n rows)) ∙ flat_map-append (λ (row : Keys). row) (take n rows) (drop n rows)

-- a further key is named by the files before it
named_before : (words front : Keys) (key : List ℕ) (following keys : Keys) (rows : List Keys) (reach : IsReachBy words keys rows) → reach.further ≡ front ++ key ∷ following
    → Contains (all_named (take (length (word_keys words ++ front)) rows)) key
named_before words front key following keys rows reach split =
    let own = word_keys words in
    let all : keys ≡ (own ++ front) ++ key ∷ following = reach.begins ∙ (ap (λ (further : Keys). own ++ further) split ∙ sym (append_assoc own front (key ∷ following))) in
    let at : slice_get keys (length (own ++ front)) ≡ Some key = ap (λ (ks : Keys). slice_get ks (length (own ++ front))) all ∙ slice_seam (own ++ front) key following in
    elim (reach.earlier (length (own ++ front)) key at) [
      | inl word ↦ absurd (not_before (own ++ front) key following (subst (AllPairs (λ one other. one ≢ other)) all reach.once) (Contains-append_left own front key word))
      | inr named ↦ named
    ]

-- a key that is named early has its first place there
early_place : (n : ℕ) (rows : List Keys) (key : List ℕ) → Contains (all_named (take n rows)) key → first_place (all_named rows) key ≡ first_place (all_named (take n rows)) key
early_place n rows key c = ap (λ (named : Keys). first_place named key) (named_split n rows) ∙ place_append (all_named (take n rows)) (all_named (drop n rows)) key c

-- Two reaches of the same words that begin alike: their common first keys, and the names in the files of these.
record Alike (words front following beside keys list : Keys) (rows others : List Keys) : Type 0 where
  pub one : IsReachBy words keys rows
  pub other : IsReachBy words list others
  pub split : one.further ≡ front ++ following
  pub parts : other.further ≡ front ++ beside
  pub named : all_named (take (length (word_keys words ++ front)) rows) ≡ all_named (take (length (word_keys words ++ front)) others)

turned : (words front following beside keys list : Keys) (rows others : List Keys) → Alike words front following beside keys list rows others → Alike words front beside following list keys others rows
turned words front following beside keys list rows others a = record { one = a.other; other = a.one; split = a.parts; parts = a.split; named = sym a.named }

-- the keys of a reach with these further ones
whole_keys : (words front following keys : Keys) (rows : List Keys) (reach : IsReachBy words keys rows) → reach.further ≡ front ++ following → keys ≡ (word_keys words ++ front) ++ following
whole_keys words front following keys rows reach split = reach.begins ∙ (ap (λ (further : Keys). word_keys words ++ further) split ∙ sym (append_assoc (word_keys words) front following))

-- the next key of one reach is not among the common first keys
fresh : (words front : Keys) (key : List ℕ) (following beside keys list : Keys) (rows others : List Keys) → Alike words front (key ∷ following) beside keys list rows others → Contains (word_keys words ++ front) key → ⊥
fresh words front key following beside keys list rows others a =
    not_before (word_keys words ++ front) key following (subst (AllPairs (λ one other. one ≢ other)) (whole_keys words front (key ∷ following) keys rows a.one a.split) a.one.once)

-- the key is named early, in both reaches
named_early : (words front : Keys) (key : List ℕ) (following beside keys list : Keys) (rows others : List Keys) → Alike words front (key ∷ following) beside keys list rows others
    → Contains (all_named (take (length (word_keys words ++ front)) rows)) key
named_early words front key following beside keys list rows others a = named_before words front key following keys rows a.one a.split

named_there : (words front : Keys) (key : List ℕ) (following beside keys list : Keys) (rows others : List Keys) → Alike words front (key ∷ following) beside keys list rows others → Contains (all_named others) key
named_there words front key following beside keys list rows others a =
    let n = length (word_keys words ++ front) in
    subst (λ (named : Keys). Contains named key) (sym (named_split n others))
    (Contains-append_left (all_named (take n others)) (all_named (drop n others)) key (subst (λ (named : Keys). Contains named key) a.named (named_early words front key following beside keys list rows others a)))

-- the other reach does not end before it
not_ended : (words front : Keys) (key : List ℕ) (following keys list : Keys) (rows others : List Keys) → Alike words front (key ∷ following) [] keys list rows others → ⊥
not_ended words front key following keys list rows others a =
    let own = word_keys words in
    let all : list ≡ own ++ front = whole_keys words front [] list others a.other a.parts ∙ append-nil (own ++ front) in
    elim (a.other.whole key (named_there words front key following [] keys list rows others a)) [
      | inl c ↦ fresh words front key following [] keys list rows others a (subst (λ (ks : Keys). Contains ks key) all c)
      | inr left ↦
          let many : length keys ≡ length ((own ++ front) ++ key ∷ following) = ap length (whole_keys words front (key ∷ following) keys rows a.one a.split) in
          let few : length list ≡ length (own ++ front) = ap length all in
          omega (arith, many, few, left.full, a.one.few, length-append (own ++ front) (key ∷ following))
    ]

-- the key of the other reach at this index is not named later
not_later : (words front : Keys) (key : List ℕ) (following : Keys) (next : List ℕ) (beside keys list : Keys) (rows others : List Keys) → Alike words front (key ∷ following) (next ∷ beside) keys list rows others
    → first_place (all_named others) next ≤ first_place (all_named others) key
not_later words front key following next beside keys list rows others a =
    let own = word_keys words in
    let named : Keys = all_named others in
    let pairs : AllPairs (λ one other. first_place named one < first_place named other) (front ++ next ∷ beside) = subst (AllPairs (λ one other. first_place named one < first_place named other)) a.parts a.other.ordered in
    let after_all : IsLeftOut list a.other.further named key → first_place named next < first_place named key =
    λ (left : IsLeftOut list a.other.further named key).
    All-contains (λ other. first_place named other < first_place named key) a.other.further next left.following
    (subst (λ (ks : Keys). Contains ks next) (sym a.parts) (Contains-append_right front (next ∷ beside) next (0, omega arith, refl))) in
    elim (a.other.whole key (named_there words front key following (next ∷ beside) keys list rows others a)) [
      | inl c ↦
          elim (Contains-append_cases (own ++ front) (next ∷ beside) key (subst (λ (ks : Keys). Contains ks key) (whole_keys words front (next ∷ beside) list others a.other a.parts) c)) [
            | inl early ↦ absurd (fresh words front key following (next ∷ beside) keys list rows others a early)
            | inr from ↦
                elim (first_or_later next beside key from) [
                  | inl same ↦ (let at : first_place named next ≡ first_place named key = ap (first_place named) same in omega (arith, at))
                  | inr later ↦ (let less : first_place named next < first_place named key = in_order (λ one other. first_place named one < first_place named other) front next beside key pairs later in omega (arith, less))
                ]
          ]
      | inr left ↦ (let less : first_place named next < first_place named key = after_all left in omega (arith, less))
    ]

-- so both have the same key at this index
heads_same : (words front : Keys) (key : List ℕ) (following : Keys) (next : List ℕ) (beside keys list : Keys) (rows others : List Keys) → Alike words front (key ∷ following) (next ∷ beside) keys list rows others → key ≡ next
heads_same words front key following next beside keys list rows others a =
    let back = turned words front (key ∷ following) (next ∷ beside) keys list rows others a in
    let n = length (word_keys words ++ front) in
    let early : Keys = all_named (take n rows) in
    let here : Contains early key = named_early words front key following (next ∷ beside) keys list rows others a in
    let far : Contains (all_named (take n others)) next = named_early words front next beside (key ∷ following) list keys others rows back in
    let there : Contains early next = subst (λ (named : Keys). Contains named next) (sym a.named) far in
    let also : Contains (all_named (take n others)) key = subst (λ (named : Keys). Contains named key) a.named here in
    let one_key : first_place (all_named rows) key ≡ first_place early key = early_place n rows key here in
    let one_next : first_place (all_named rows) next ≡ first_place early next = early_place n rows next there in
    let other_key : first_place (all_named others) key ≡ first_place early key = early_place n others key also ∙ ap (λ (named : Keys). first_place named key) (sym a.named) in
    let other_next : first_place (all_named others) next ≡ first_place early next = early_place n others next far ∙ ap (λ (named : Keys). first_place named next) (sym a.named) in
    let less : first_place (all_named others) next ≤ first_place (all_named others) key = not_later words front key following next beside keys list rows others a in
    let more : first_place (all_named rows) key ≤ first_place (all_named rows) next = not_later words front next beside key following list keys others rows back in
    place_one early key next here there (omega (arith, one_key, one_next, other_key, other_next, less, more))

-- two reaches with the same first keys, with the names in the files of these
alike : AtMostOne → (given : LoadInput) (front following beside keys list : Keys) (rows others : List Keys) → AreNamed given keys rows → AreNamed given list others
    → (one : IsReachBy given.words keys rows) (other : IsReachBy given.words list others) → one.further ≡ front ++ following → other.further ≡ front ++ beside
    → Alike given.words front following beside keys list rows others
alike laws given front following beside keys list rows others named called one other split parts =
    let own = word_keys given.words in
    record {
      one = one;
      other = other;
      split = split;
      parts = parts;
      named =
          ap all_named
          (rows_same laws given (own ++ front) following beside rows others (subst (λ (ks : Keys). AreNamed given ks rows) (whole_keys given.words front following keys rows one split) named)
          (subst (λ (ks : Keys). AreNamed given ks others) (whole_keys given.words front beside list others other parts) called));
    }

-- all further keys are the same
agree : AtMostOne → (given : LoadInput) (front following beside keys list : Keys) (rows others : List Keys) → AreNamed given keys rows → AreNamed given list others
    → (one : IsReachBy given.words keys rows) (other : IsReachBy given.words list others) → one.further ≡ front ++ following → other.further ≡ front ++ beside → following ≡ beside
agree laws given front [] [] keys list rows others named called one other split parts = refl
agree laws given front (key ∷ following) [] keys list rows others named called one other split parts =
    absurd (not_ended given.words front key following keys list rows others (alike laws given front (key ∷ following) [] keys list rows others named called one other split parts))
agree laws given front [] (next ∷ beside) keys list rows others named called one other split parts =
    absurd (not_ended given.words front next beside list keys others rows (alike laws given front (next ∷ beside) [] list keys others rows called named other one parts split))
agree laws given front (key ∷ following) (next ∷ beside) keys list rows others named called one other split parts =
    let head : key ≡ next = heads_same given.words front key following next beside keys list rows others (alike laws given front (key ∷ following) (next ∷ beside) keys list rows others named called one other split parts) in
    let more : one.further ≡ (front ++ key ∷ []) ++ following = split ∙ sym (append_assoc front (key ∷ []) following) in
    let also : other.further ≡ (front ++ key ∷ []) ++ beside = parts ∙ (ap (λ (k : List ℕ). front ++ k ∷ beside) (sym head) ∙ sym (append_assoc front (key ∷ []) beside)) in
    let tail : following ≡ beside = agree laws given (front ++ key ∷ []) following beside keys list rows others named called one other more also in
    ap (λ (k : List ℕ). k ∷ following) head ∙ ap (λ (ks : Keys). next ∷ ks) tail

-- two reaches are the same
pub one_reach : AtMostOne → OneReach
one_reach laws given keys list one other =
    let further : one.reached.further ≡ other.reached.further =
    agree laws given [] one.reached.further other.reached.further keys list one.rows other.rows one.named other.named one.reached other.reached refl refl in
    one.reached.begins ∙ (ap (λ (ks : Keys). word_keys given.words ++ ks) further ∙ sym other.reached.begins)
