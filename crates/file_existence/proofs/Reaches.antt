-- The walk over the keys that files name ends, since there are at most 4,096 keys.
use Rattle.std.proofs.Common.{◌≡◌, ◌⊎◌, inl, inr, ℕ, zero, suc, ◌+◌, ◌<◌, ◌≤◌, List, [], ◌∷◌, ◌++◌, length, take, refl, sym, ◌∙◌, ap, subst, arith, append_assoc, append-nil, length-append}
use Rattle.std.specs.Prelude.{Some, slice_get}
use Rattle.std.specs.List.{Contains, list_any}
use Rattle.std.proofs.lemmas.Bool.{cases_lt}
use Rattle.std.proofs.lemmas.List.{take-append-le, take_all}
use Rattle.std.proofs.lemmas.List.Concat.{flat_map-append}
use Rattle.std.proofs.lemmas.List.Elements.{All-contains, Contains-append_cases}
use Rattle.std.proofs.lemmas.Option.{slice_get_within, same_Some}
use Rattle.ipdl_base.specs.FileNames.{key_of}
use Rattle.ipdl_base.proofs.Ends.{by_test}
use Rattle.include_graph.specs.Growth.{add_keys, HasWords}
use Rattle.include_graph.specs.Keys.{is_same, word_keys, AreFileWords}
use Rattle.include_graph.specs.Reach.{Names, all_named, IsReach}
use Rattle.include_graph.specs.Sources.{LoadInput, content}
use Rattle.include_graph.proofs.Grown.{Grown, grown_more}
use Rattle.include_graph.proofs.Places.{in_none}
use Rattle.include_graph.proofs.WalkEnds.{contains_at, there_is}
use Rattle.include_graph.proofs.Walks.{got_last, key_more, long_more}
use Rattle.include_graph.proofs.WordKeys.{words_old, words_new}
use Rattle.file_existence.specs.Laws.{ReachesExist}
use Rattle.file_existence.proofs.Contents.{names_exist}

-- the keys of words, each with the first word that has it
abbrev pub WordsHave : List (List ℕ) → Type 0
WordsHave words = (list : List (List ℕ)) × (firsts : List (List ℕ)) × HasWords words list firsts

one_word : (words : List (List ℕ)) (w : List ℕ) → WordsHave words → WordsHave (words ++ w ∷ [])
one_word words w (list, firsts, h) =
    by_test (list_any (is_same (key_of w)) list)
    (λ old. (list, firsts, words_old words list firsts w h old))
    (λ new. (list ++ key_of w ∷ [], firsts ++ w ∷ [], words_new words list firsts w h new))

more_words : (before words : List (List ℕ)) → WordsHave before → WordsHave (before ++ words)
more_words before [] h = subst WordsHave (sym (append-nil before)) h
more_words before (w ∷ words) h = subst WordsHave (append_assoc before (w ∷ []) words) (more_words (before ++ w ∷ []) words (one_word before w h))

pub words_have : (words : List (List ℕ)) → WordsHave words
words_have words = more_words [] words ([], [], record { keys = refl; few = omega arith; once = λ i j d before within. absurd (omega arith); first = tt })

-- The file of the key of this number names this row, and the key is that of a word, or is named by a row before it.
record IsRow (given : LoadInput) (rows : List (List (List ℕ))) (number : ℕ) (key : List ℕ) (row : List (List ℕ)) : Type 0 where
  pub names : Names number key (content given key) row
  pub earlier : Contains (word_keys given.words) key ⊎ Contains (all_named (take number rows)) key

-- The files of the first keys name these rows, and the keys are those that the words and the rows name.
record Walked (given : LoadInput) (keys : List (List ℕ)) (rows : List (List (List ℕ))) : Type 0 where
  pub grown : Grown (word_keys given.words) keys (all_named rows)
  pub room : length rows ≤ length keys
  pub each : (number : ℕ) (key : List ℕ) (row : List (List ℕ)) → slice_get keys number ≡ Some key → slice_get rows number ≡ Some row → IsRow given rows number key row

walked_none : (given : LoadInput) (list firsts : List (List ℕ)) → AreFileWords given.words → HasWords given.words list firsts → Walked given list []
walked_none given list firsts files h = record {
  grown = record {
    few = (let a = h.few in let b = files.few in omega arith);
    once = h.once;
    further = [];
    begins = h.keys ∙ sym (append-nil (word_keys given.words));
    told = λ i d within. absurd (omega arith);
    ordered = λ i j d before within. absurd (omega arith);
    whole = λ key c. absurd (in_none key c);
  };
  room = omega arith;
  each = λ number key row e none. absurd (let no : ⊥ = cc in no);
}

-- a key is that of a word, or is named
told : (words keys named : List (List ℕ)) (number : ℕ) (key : List ℕ) → Grown words keys named → slice_get keys number ≡ Some key → Contains words key ⊎ Contains named key
told words keys named number key g at = elim (Contains-append_cases words g.further key (subst (λ ks. Contains ks key) g.begins (contains_at keys number key at))) [
  | inl word ↦ inl word
  | inr further ↦ inr (All-contains (Contains named) g.further key g.told further)
]

module _ (given : LoadInput) (keys : List (List ℕ)) (rows : List (List (List ℕ))) (key : List ℕ) (row : List (List ℕ)) (w : Walked given keys rows) (at : slice_get keys (length rows) ≡ Some key) (names : Names (length rows) key (content given key) row) where
  within : length rows < length keys
  within = slice_get_within keys (length rows) key at

  named_more : all_named (rows ++ row ∷ []) ≡ all_named rows ++ row
  named_more = flat_map-append (λ r. r) rows (row ∷ []) ∙ ap (λ ks. all_named rows ++ ks) (append-nil row)

  -- the keys of the rows stay
  stays : (number : ℕ) (k : List ℕ) → number ≤ length rows → slice_get (add_keys keys row) number ≡ Some k → slice_get keys number ≡ Some k
  stays number k below e =
      let old = there_is keys number (omega (arith, within)) in
      old.1 ∙ sym (key_more keys row number old.0 old.1) ∙ e

  -- the names before one of them stay too
  row_stays : (number : ℕ) (k : List ℕ) (r : List (List ℕ)) → number ≤ length rows → IsRow given rows number k r → IsRow given (rows ++ row ∷ []) number k r
  row_stays number k r below is = record {
    names = is.names;
    earlier = subst (λ rs. Contains (word_keys given.words) k ⊎ Contains (all_named rs) k) (sym (take-append-le number rows (row ∷ []) below)) is.earlier;
  }

  last_row : (number : ℕ) (k : List ℕ) (r : List (List ℕ)) → number ≡ length rows → row ≡ r → slice_get keys number ≡ Some k → IsRow given rows number k r
  last_row number k r n same e =
      let key_is : key ≡ k = same_Some key k (sym at ∙ ap (slice_get keys) (sym n) ∙ e) in
      let whole : take number rows ≡ rows = take_all number rows (omega arith) in
      record {
        names =
            subst (λ m. Names m k (content given k) r) (sym n)
            (subst (λ x. Names (length rows) x (content given x) r) key_is
            (subst (λ x. Names (length rows) key (content given key) x) same names));
        earlier = subst (λ rs. Contains (word_keys given.words) k ⊎ Contains (all_named rs) k) (sym whole) (told (word_keys given.words) keys (all_named rows) number k w.grown e);
      }

  walked_more : Walked given (add_keys keys row) (rows ++ row ∷ [])
  walked_more = record {
    grown = subst (Grown (word_keys given.words) (add_keys keys row)) (sym named_more) (grown_more (word_keys given.words) keys (all_named rows) row w.grown);
    room = (let more = long_more keys row in omega (arith, within, length-append rows (row ∷ [])));
    each = λ number k r e h. elim (got_last rows row number r h) [
      | inl old ↦ (
          let below : number ≤ length rows = (let b = slice_get_within rows number r old in omega arith) in
          row_stays number k r below (w.each number k r (stays number k below e) old)
          )
      | inr last ↦ (let below : number ≤ length rows = (let n = last.0 in omega arith) in row_stays number k r below (last_row number k r last.0 last.1 (stays number k below e)))
    ];
  }

reach_of : (given : LoadInput) (keys : List (List ℕ)) (rows : List (List (List ℕ))) → Walked given keys rows → length keys ≤ length rows → IsReach given keys
reach_of given keys rows w all = record {
  rows = rows;
  named = record { size = (let room = w.room in omega arith); each = λ number key row at here. (w.each number key row at here).names };
  reached = record {
    few = w.grown.few;
    once = w.grown.once;
    further = w.grown.further;
    begins = w.grown.begins;
    earlier = λ number key at.
        let below = slice_get_within keys number key at in
        let row = there_is rows number (omega arith) in
        (w.each number key row.0 at row.1).earlier;
    ordered = w.grown.ordered;
    whole = w.grown.whole;
  };
}

walk_on : (most : ℕ) (given : LoadInput) (keys : List (List ℕ)) (rows : List (List (List ℕ))) → 4096 ≤ most + length rows → Walked given keys rows → (list : List (List ℕ)) × IsReach given list
walk_on zero given keys rows enough w = (keys, reach_of given keys rows w (let few = w.grown.few in omega arith))
walk_on (suc most) given keys rows enough w = elim (cases_lt (length rows) (length keys)) [
  | inl less ↦ (
      let next = there_is keys (length rows) less in
      let named = names_exist (length rows) next.0 (content given next.0) in
      walk_on most given (add_keys keys named.0) (rows ++ named.0 ∷ []) (omega (arith, length-append rows (named.0 ∷ []))) (walked_more given keys rows next.0 named.0 w next.1 named.1)
      )
  | inr all ↦ (keys, reach_of given keys rows w all)
]

pub reaches_exist : ReachesExist
reaches_exist given files =
    let words = words_have given.words in
    walk_on 4096 given words.0 [] (omega arith) (walked_none given words.0 words.1 files words.2)
