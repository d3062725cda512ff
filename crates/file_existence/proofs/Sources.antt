-- Where each key of a reach comes from: a word has it, or a file before it names it.
use Rattle.std.proofs.Common.{◌≡◌, ◌⊎◌, ℕ, suc, List, [], ◌∷◌, Contains, Some, refl, sym, subst, inl, inr, arith}
use Rattle.std.specs.Prelude.{slice_get}
use Rattle.std.proofs.lemmas.List.Elements.{All-from_recursion, All-contains, Contains-append_cases}
use Rattle.std.proofs.lemmas.Option.{slice_get_read, slice_get_within}
use Rattle.ipdl_base.specs.FileNames.{IsFileWord}
use Rattle.ipdl_lex.proofs.Spelled.{words_hold}
use Rattle.ipdl_syntax.specs.declared.tree.FileKind.TheVariants as file
use Rattle.ipdl_syntax.specs.declared.tree.Unit.{Unit as FileUnit}
use Rattle.ipdl_syntax.specs.Programs.{named_keys}
use Rattle.grammar_laws.proofs.ClaimedFiles.{names_hold}
use Rattle.include_graph.specs.Keys.{word_keys, AreFileWords}
use Rattle.include_graph.specs.Reach.{all_named, IsReach, IsUnitOf, Names}
use Rattle.include_graph.specs.Sources.{LoadInput, content, word_of}
use Rattle.include_graph.proofs.Ends.{of_kinds}
use Rattle.include_graph.proofs.Loaded.{fewer_named}
use Rattle.include_graph.proofs.Places.{in_none}
use Rattle.include_graph.proofs.WalkEnds.{there_is, zip_at}
use Rattle.include_graph.proofs.WholeKeys.{IsWhole, whole_word, keys_whole}
use Rattle.include_graph.proofs.WordKeys.{word_found}
use Rattle.file_existence.proofs.Endings.{Kinded}
use Rattle.file_existence.proofs.Reaches.{words_have}

-- The file of one of the keys names this key.
pub record IsNamed (given : LoadInput) (keys : List (List ℕ)) (key : List ℕ) : Type 0 where
  pub number : ℕ
  pub by : List ℕ
  pub at : slice_get keys number ≡ Some by
  pub unit : FileUnit
  pub is_unit : IsUnitOf number by (content given by) unit
  pub named : Contains (named_keys unit.includes) key

-- a word has the key, or a file names it
abbrev pub Source : LoadInput → List (List ℕ) → List ℕ → Type 0
Source given keys key = ((word : List ℕ) × (word_of given.words key ≡ Some word)) ⊎ IsNamed given keys key

-- a key of words has a word
word_known : (words : List (List ℕ)) (key : List ℕ) → Contains (word_keys words) key → (word : List ℕ) × (word_of words key ≡ Some word)
word_known words key c =
    let w = words_have words in
    let d : Contains w.0 key = subst (λ ks. Contains ks key) (sym w.2.keys) c in
    let z = zip_at (λ k v. word_of words k ≡ Some v) w.0 w.1 d.0 key w.2.first (slice_get_read w.0 _ d.0 key refl d.1 (sym d.2)) in
    (z.0, z.2)

-- a key that rows name is named by one of them
by_row : (rows : List (List (List ℕ))) (key : List ℕ) → Contains (all_named rows) key → (n : ℕ) × (row : List (List ℕ)) × (slice_get rows n ≡ Some row) × Contains row key
by_row [] key c = absurd (in_none key c)
by_row (row ∷ rows) key c = elim (Contains-append_cases row (all_named rows) key c) [
  | inl here ↦ (0, row, refl, here)
  | inr there ↦ (let r = by_row rows key there in (suc r.0, r.1, r.2, r.3))
]

by_names : (given : LoadInput) (keys : List (List ℕ)) (key : List ℕ) (n : ℕ) (other : List ℕ) (row : List (List ℕ)) → slice_get keys n ≡ Some other → Contains row key → Names n other (content given other) row → IsNamed given keys key
by_names given keys key n other row at c (inl (unit, is, row_is)) = record { number = n; by = other; at = at; unit = unit; is_unit = is; named = subst (λ ks. Contains ks key) row_is c }
by_names given keys key n other row at c (inr (none, row_is)) = absurd (in_none key (subst (λ ks. Contains ks key) row_is c))

pub source_of : (given : LoadInput) (keys : List (List ℕ)) → IsReach given keys → (number : ℕ) (key : List ℕ) → slice_get keys number ≡ Some key → Source given keys key
source_of given keys reach number key at = elim (reach.reached.earlier number key at) [
  | inl word ↦ inl (word_known given.words key word)
  | inr named ↦ (
      let r = by_row reach.rows key (fewer_named reach.rows number key named) in
      let below = slice_get_within reach.rows r.0 r.1 r.2 in
      let size = reach.named.size in
      let by = there_is keys r.0 (omega arith) in
      inr (by_names given keys key r.0 by.0 r.1 by.1 r.3 (reach.named.each r.0 by.0 r.1 by.1 r.2))
      )
]

-- so the text ends as the names of files do
ended : (given : LoadInput) (keys : List (List ℕ)) (key : List ℕ) → AreFileWords given.words → Source given keys key → IsFileWord key
ended given keys key files (inl (word, e)) =
    let found = word_found given.words key word e in
    let whole = subst IsWhole found.1 (whole_word word (All-contains IsFileWord given.words word (All-from_recursion IsFileWord given.words files.files) found.0)) in
    whole.ended
ended given keys key files (inr by) =
    let u = by.is_unit in
    let spelled = (words_hold by.number u.bytes u.lexed u.tokens).0 in
    let whole = (keys_whole by.unit.includes (names_hold u.kind u.lexed.tokens by.unit spelled u.tree).includes key by.named).0 in
    whole.ended

pub kinded : (given : LoadInput) (keys : List (List ℕ)) (key : List ℕ) → AreFileWords given.words → Source given keys key → Kinded key
kinded given keys key files source = of_kinds key (ended given keys key files source) (λ h. (file.Protocol, h)) (λ h. (file.Header, h))
