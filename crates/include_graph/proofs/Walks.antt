-- The progress of the walk over the files, and its result.
use Rattle.std.proofs.Common.{◌≡◌, ◌⊎◌, inl, inr, ℕ, zero, suc, ◌<◌, ◌≤◌, nat_lt, List, [], ◌∷◌, ◌++◌, length, take, refl, sym, ◌∙◌, ap, subst, arith, length-append}
use Rattle.std.specs.Prelude.{Option, Some, slice_get}
use Rattle.std.specs.List.{Contains, list_any}
use Rattle.std.specs.Option.{option_or}
use Rattle.std.specs.Str.{IsAscii}
use Rattle.std.proofs.lemmas.List.{map-append, append-nil, length-map, take_all}
use Rattle.std.proofs.lemmas.List.Concat.{flat_map-append}
use Rattle.std.proofs.lemmas.List.Elements.{Contains-append_left, Contains-append_right, Contains-append_cases}
use Rattle.std.proofs.lemmas.Option.{slice_get_within, same_Some}
use Rattle.ipdl_lex.specs.Laws.{WordsHold}
use Rattle.grammar_laws.specs.Laws.{NamesHold}
use Rattle.include_graph.specs.declared.content.Content.{Content}
use Rattle.include_graph.specs.declared.content.Content.TheVariants.{Absent, Large, BadToken, SyntaxFault, Read}
use Rattle.include_graph.specs.declared.walk.ReachedFile.{ReachedFile}
use Rattle.include_graph.specs.declared.walk.Target.{Target}
use Rattle.include_graph.specs.Growth.{add_key, add_keys}
use Rattle.include_graph.specs.Keys.{is_same, word_keys}
use Rattle.include_graph.specs.Reach.{all_named}
use Rattle.include_graph.specs.Reading.{IsContent, IsReached, IsSource, AreTargets, row_of, rows_of}
use Rattle.include_graph.specs.Sources.{LoadInput, word_of, name_on_path}
use Rattle.ipdl_base.proofs.Ends.{by_test}
use Rattle.include_graph.proofs.Grown.{Grown, add_old, add_new, add_past, grown_more}
use Rattle.include_graph.proofs.Places.{in_head, in_more, in_none}
use Rattle.include_graph.proofs.Targets.{get_append, targets_more}
use Rattle.include_graph.proofs.WholeKeys.{IsWhole, keys_whole}

-- The keys are those that the words and the files of the first keys name.
pub record Walking (words list : List (List ℕ)) (files : List ReachedFile) : Type 0 where
  pub grown : Grown (word_keys words) list (all_named (rows_of files))
  pub earlier : (number : ℕ) (key : List ℕ) → slice_get list number ≡ Some key → Contains (word_keys words) key ⊎ Contains (all_named (take number (rows_of files))) key
  pub room : length files ≤ length list
  pub whole : (number : ℕ) (key : List ℕ) → slice_get list number ≡ Some key → IsWhole key
  pub plain : (number : ℕ) (key : List ℕ) → slice_get list number ≡ Some key → length (word_keys words) ≤ number → IsAscii key

-- the files of the first keys are read
abbrev pub AreReached : LoadInput → List (List ℕ) → List ReachedFile → Type 0
AreReached given list files = (number : ℕ) (key : List ℕ) (file : ReachedFile) → slice_get list number ≡ Some key → slice_get files number ≡ Some file → IsReached given list number key file

-- an element of a list with one more is one of the list, or that one
pub got_last : {X : Type 0} (xs : List X) (y : X) (n : ℕ) (x : X) → slice_get (xs ++ y ∷ []) n ≡ Some x → (slice_get xs n ≡ Some x) ⊎ ((n ≡ length xs) × (y ≡ x))
got_last [] y zero x e = inr (refl, same_Some _ _ e)
got_last [] y (suc n) x e = absurd (let none : ⊥ = cc in none)
got_last (z ∷ xs) y zero x e = inl e
got_last (z ∷ xs) y (suc n) x e = elim (got_last xs y n x e) [ inl h ↦ inl h | inr h ↦ (let k = h.0 in inr (omega arith, h.1)) ]

-- a key that is read after an addition was there, or is the new one
added_one : (list : List (List ℕ)) (k : List ℕ) (n : ℕ) (key : List ℕ) → slice_get (add_key list k) n ≡ Some key → (slice_get list n ≡ Some key) ⊎ ((length list ≤ n) × (k ≡ key))
added_one list k n key e = by_test (list_any (is_same k) list)
    (λ a. inl (subst (λ ks. slice_get ks n ≡ Some key) (add_old list k a) e))
    (λ a. by_test (nat_lt (length list) 4096)
    (λ b. elim (got_last list k n key (subst (λ ks. slice_get ks n ≡ Some key) (add_new list k a b) e)) [ inl h ↦ inl h | inr h ↦ (let m = h.0 in inr (omega arith, h.1)) ])
    (λ b. inl (subst (λ ks. slice_get ks n ≡ Some key) (add_past list k a b) e)))

long_one : (list : List (List ℕ)) (k : List ℕ) → length list ≤ length (add_key list k)
long_one list k = by_test (list_any (is_same k) list)
    (λ a. subst (λ ks. length list ≤ length ks) (sym (add_old list k a)) (omega arith))
    (λ a. by_test (nat_lt (length list) 4096)
    (λ b. subst (λ ks. length list ≤ length ks) (sym (add_new list k a b)) (omega (arith, length-append list (k ∷ []))))
    (λ b. subst (λ ks. length list ≤ length ks) (sym (add_past list k a b)) (omega arith)))

pub long_more : (list row : List (List ℕ)) → length list ≤ length (add_keys list row)
long_more list [] = omega arith
long_more list (k ∷ row) = let a = long_one list k in let b = long_more (add_key list k) row in omega arith

pub added : (list row : List (List ℕ)) (n : ℕ) (key : List ℕ) → slice_get (add_keys list row) n ≡ Some key → (slice_get list n ≡ Some key) ⊎ ((length list ≤ n) × Contains row key)
added list [] n key e = inl e
added list (k ∷ row) n key e = elim (added (add_key list k) row n key e) [
  | inl mid ↦ elim (added_one list k n key mid) [ inl h ↦ inl h | inr h ↦ inr (h.0, subst (Contains (k ∷ row)) h.1 (in_head k row)) ]
  | inr h ↦ (let a = long_one list k in let b = h.0 in inr (omega arith, in_more k row key h.1))
]

key_one : (list : List (List ℕ)) (k : List ℕ) (n : ℕ) (key : List ℕ) → slice_get list n ≡ Some key → slice_get (add_key list k) n ≡ Some key
key_one list k n key e = by_test (list_any (is_same k) list)
    (λ a. subst (λ ks. slice_get ks n ≡ Some key) (sym (add_old list k a)) e)
    (λ a. by_test (nat_lt (length list) 4096)
    (λ b. subst (λ ks. slice_get ks n ≡ Some key) (sym (add_new list k a b)) (get_append list (k ∷ []) n key e))
    (λ b. subst (λ ks. slice_get ks n ≡ Some key) (sym (add_past list k a b)) e))

pub key_more : (list row : List (List ℕ)) (n : ℕ) (key : List ℕ) → slice_get list n ≡ Some key → slice_get (add_keys list row) n ≡ Some key
key_more list [] n key e = e
key_more list (k ∷ row) n key e = key_more (add_key list k) row n key (key_one list k n key e)

-- the targets of a file when more keys are added
still_targets : (list row : List (List ℕ)) (content : Content) (targets : List Target) → AreTargets list content targets → AreTargets (add_keys list row) content targets
still_targets list row Absent targets h = h
still_targets list row Large targets h = h
still_targets list row (BadToken place) targets h = h
still_targets list row (SyntaxFault place) targets h = h
still_targets list row (Read unit) targets h = targets_more list row unit.includes targets h

-- the keys that a file names are whole
pub row_whole : WordsHold → NamesHold → (number : ℕ) (key : List ℕ) (held : Option (List ℕ)) (content : Content) → IsContent number key held content → (k : List ℕ) → Contains (row_of content) k → IsWhole k × IsAscii k
row_whole words names number key held Absent h k c = absurd (in_none k c)
row_whole words names number key held Large h k c = absurd (in_none k c)
row_whole words names number key held (BadToken place) h k c = absurd (in_none k c)
row_whole words names number key held (SyntaxFault place) h k c = absurd (in_none k c)
row_whole words names number key held (Read unit) h k c =
    let spelled = (words number h.bytes h.lexed h.tokens).0 in
    keys_whole unit.includes (names h.kind h.lexed.tokens unit spelled h.tree).includes k c

rows_push : (files : List ReachedFile) (file : ReachedFile) → rows_of (files ++ file ∷ []) ≡ rows_of files ++ row_of file.source.content ∷ []
rows_push files file = map-append (λ (f : ReachedFile). row_of f.source.content) files (file ∷ [])

named_push : (files : List ReachedFile) (file : ReachedFile) → all_named (rows_of (files ++ file ∷ [])) ≡ all_named (rows_of files) ++ row_of file.source.content
named_push files file =
    ap all_named (rows_push files file) ∙ flat_map-append (λ row. row) (rows_of files) (row_of file.source.content ∷ [])
    ∙ ap (λ ks. all_named (rows_of files) ++ ks) (append-nil (row_of file.source.content))

-- a key that the first rows name is named by them when more follow
pub take_named : (rows more : List (List (List ℕ))) (n : ℕ) (key : List ℕ) → Contains (all_named (take n rows)) key → Contains (all_named (take n (rows ++ more))) key
take_named [] more zero key c = c
take_named [] more (suc n) key c = absurd (in_none key c)
take_named (row ∷ rows) more zero key c = c
take_named (row ∷ rows) more (suc n) key c = elim (Contains-append_cases row (all_named (take n rows)) key c) [
  | inl here ↦ Contains-append_left row (all_named (take n (rows ++ more))) key here
  | inr there ↦ Contains-append_right row (all_named (take n (rows ++ more))) key (take_named rows more n key there)
]

module _ (list new : List (List ℕ)) (files all : List ReachedFile) (key : List ℕ) (file : ReachedFile)
    (at : slice_get list (length files) ≡ Some key) (grows : new ≡ add_keys list (row_of file.source.content)) (is : all ≡ files ++ file ∷ []) where
  abbrev row : List (List ℕ)
  row = row_of file.source.content

  within : length files < length list
  within = slice_get_within list (length files) key at

  -- the keys after one more file is read
  pub walk_more : WordsHold → NamesHold → (words : List (List ℕ)) (number : ℕ) (k : List ℕ) (held : Option (List ℕ)) → IsContent number k held file.source.content → Walking words list files → Walking words new all
  walk_more words_law names_law words number other held content w = subst (λ (fs : List ReachedFile). Walking words new fs) (sym is) (subst (λ ks. Walking words ks (files ++ file ∷ [])) (sym grows) step)
    where
      whole_row : (k : List ℕ) → Contains row k → IsWhole k × IsAscii k
      whole_row k c = row_whole words_law names_law number other held file.source.content content k c

      step : Walking words (add_keys list row) (files ++ file ∷ [])
      step = record {
        grown = subst (Grown (word_keys words) (add_keys list row)) (sym (named_push files file)) (grown_more (word_keys words) list (all_named (rows_of files)) row w.grown);
        earlier = λ number k e. elim (added list row number k e) [
          | inl old ↦ elim (w.earlier number k old) [
            | inl word ↦ inl word
            | inr named ↦ inr (subst (λ rs. Contains (all_named (take number rs)) k) (sym (rows_push files file)) (take_named (rows_of files) (row ∷ []) number k named))
          ]
          | inr late ↦ inr (
              let past : length (rows_of (files ++ file ∷ [])) ≤ number = (let a = late.0 in omega (arith, within, length-map (files ++ file ∷ []) (λ (f : ReachedFile). row_of f.source.content), length-append files (file ∷ []))) in
              subst (λ rs. Contains (all_named rs) k) (sym (take_all number (rows_of (files ++ file ∷ [])) past))
              (subst (λ ks. Contains ks k) (sym (named_push files file)) (Contains-append_right (all_named (rows_of files)) row k late.1)))
        ];
        room = (let a = long_more list row in omega (arith, within, length-append files (file ∷ [])));
        whole = λ number k e. elim (added list row number k e) [ inl old ↦ w.whole number k old | inr late ↦ (whole_row k late.1).0 ];
        plain = λ number k e past. elim (added list row number k e) [ inl old ↦ w.plain number k old past | inr late ↦ (whole_row k late.1).1 ];
      }

  -- the files after one more file is read
  pub reached_more : (given : LoadInput) → AreTargets new file.source.content file.targets.items
      → IsSource (length files) key given.files (option_or (word_of given.words key) (name_on_path given.files given.path key)) file.source
      → AreReached given list files → AreReached given new all
  reached_more given targets source each = subst (λ (fs : List ReachedFile). AreReached given new fs) (sym is) (subst (λ ks. AreReached given ks (files ++ file ∷ [])) (sym grows) step)
    where
      last_reached : (number : ℕ) (k : List ℕ) (f : ReachedFile) → number ≡ length files → file ≡ f → slice_get (add_keys list row) number ≡ Some k → IsReached given (add_keys list row) number k f
      last_reached number k f n same e =
          let k_is : key ≡ k = same_Some _ _ (sym (key_more list row (length files) key at) ∙ (ap (slice_get (add_keys list row)) (sym n) ∙ e)) in
          let here : IsReached given (add_keys list row) (length files) key file = record { source = source; targets = subst (λ ks. AreTargets ks file.source.content file.targets.items) grows targets } in
          subst (λ (g : ReachedFile). IsReached given (add_keys list row) number k g) same
          (subst (λ m. IsReached given (add_keys list row) m k file) (sym n)
          (subst (λ x. IsReached given (add_keys list row) (length files) x file) k_is here))

      step : AreReached given (add_keys list row) (files ++ file ∷ [])
      step number k f e h = elim (got_last files file number f h) [
        | inl old ↦ elim (added list row number k e) [
          | inl here ↦ (let before = each number k f here old in record { source = before.source; targets = still_targets list row f.source.content f.targets.items before.targets })
          | inr late ↦ (let a = late.0 in let b = slice_get_within files number f old in absurd (omega (arith, within)))
        ]
        | inr last ↦ last_reached number k f last.0 last.1 e
      ]
