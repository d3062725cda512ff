-- The files of protocols, in the order of full names, and their numbers.
use Rattle.std.proofs.Common.{◌≡◌, ◌≢◌, ℕ, ◌+◌, ◌<◌, ◌≤◌, inl, inr, false, List, [], ◌∷◌, ◌++◌, length, get_or, set, map, Option, Some, None, IsSome, IsSomeAnd, slice_get, refl, sym, ap, subst, ◌∙◌, arith, Bor, Vec, Global, true≢false, Ordering, Less, Equal, Greater, nat_eq, get_or-set_same, get_or-set_other, length-append}
use Rattle.std.specs.Prelude.{option_and_then}
use Rattle.std.specs.Cmp.{IsTotalOrder}
use Rattle.std.specs.Cmp.Lexicographic.{slice_cmp}
use Rattle.std.specs.List.{All, AllPairs, Contains, IsDistinct}
use Rattle.std.specs.List.Sorted.{IsSorted, IsPermutation}
use Rattle.std.specs.Ordering.{nat_cmp, ordering_then, ordering_reverse, is_lt}
use Rattle.std.proofs.lemmas.Bool.{cases_eq, cases_lt}
use Rattle.std.proofs.lemmas.List.{map-append, length-map, get_or-map, get_or_read}
use Rattle.std.proofs.lemmas.List.Elements.{All-push, All-weaker, All-contains, All-map, Contains-append_left, Contains-get_or, Contains-push}
use Rattle.std.proofs.lemmas.List.Quantifiers.{all_pairs_push}
use Rattle.std.proofs.lemmas.Bool.Decides.{Decides-eqb, eqb_tells, not_from_Decides}
use Rattle.std.proofs.lemmas.Cmp.{then_total, on_total, nat_cmp_total, nat_list_cmp_total, nat_eq_equiv}
use Rattle.std.proofs.lemmas.Map.Keys.{IsDistinct-from_apart, IsDistinct-IsPermutation, apart_from_distinct}
use Rattle.std.proofs.lemmas.Map.Lookups.{exact_bytes}
use Rattle.std.proofs.lemmas.List.Sorted.{ranks_by, sorted_far, All-permutation, Contains-permutation, IsPermutation-map, length_permutation}
use Rattle.std.proofs.lemmas.Option.{slice_get_cases, slice_get-get_or, slice_get_read}
use Rattle.ipdl_base.specs.Words.{short_name}
use Rattle.ipdl_syntax.specs.Programs.{IsProgram, BearTheirNames}
use Rattle.ipdl_syntax.specs.declared.program.Entry.{Entry}
use Rattle.ipdl_syntax.specs.declared.tree.ProtocolDecl.{ProtocolDecl}
use Rattle.name_table.specs.Decls.{protocol_of}
use Rattle.program_schema.specs.Numbers.{AreProtocolFiles}
use Rattle.program_schema.proofs.Numbered.{file_below}
use Rattle.actor_tables.specs.Numbered.{AreNamedFiles, FindsNumbers}
use Rattle.actor_tables.proofs.Protocols.{same_file}

abbrev pub Named : Type 0
Named = Bor (List ℕ) × ℕ

abbrev pub NamedVec : Type 0
NamedVec = Vec Named Global

abbrev Files : List Named → List ℕ
Files named = map (λ (n : Named). n.1) named

-- nothing so far
pub none_named : (program : List Entry) → AreNamedFiles program 0 []
none_named program = record {
  full = λ k d below. absurd (let no : ⊥ = omega arith in no);
  complete = λ file below there. absurd (let no : ⊥ = omega arith in no);
  rising = λ i j d before below. absurd (let no : ⊥ = omega arith in no);
  below = λ k d below. absurd (let no : ⊥ = omega arith in no);
  few = omega arith;
}

-- one more file that has a protocol
pub named_push : (program : List Entry) (i : ℕ) (named new : List Named) (full : Bor (List ℕ)) (p : ProtocolDecl) → AreNamedFiles program i named → protocol_of program i ≡ Some p → full.now ≡ p.full → new ≡ named ++ (full, i) ∷ [] → AreNamedFiles program (i + 1) new
named_push program i named new full p are has same is = subst (AreNamedFiles program (i + 1)) (sym is) (record {
  full = All-push (λ (n : Named). IsSomeAnd (protocol_of program n.1) (λ q. q.full ≡ n.0.now)) named (full, i) are.full
      (let P : Option ProtocolDecl → Type 0 = λ o. IsSomeAnd o (λ q. q.full ≡ full.now) in subst P (sym has) (sym same));
  complete = λ file below there. elim (cases_lt file i) [
    | inl earlier ↦ subst (λ (xs : List ℕ). Contains xs file) (sym (map-append (λ (n : Named). n.1) named ((full, i) ∷ []))) (Contains-append_left (Files named) (i ∷ []) file (are.complete file earlier there))
    | inr later ↦ subst (λ (xs : List ℕ). Contains xs file) (sym (map-append (λ (n : Named). n.1) named ((full, i) ∷ [])))
        (subst (λ (f : ℕ). Contains (Files named ++ i ∷ []) f) (let same_file : i ≡ file = omega arith in same_file) (Contains-push (Files named) i))
  ];
  rising = all_pairs_push (λ (a b : Named). a.1 < b.1) named (full, i) are.rising (λ k d below. are.below k d below);
  below = All-push (λ (n : Named). n.1 < i + 1) named (full, i) (All-weaker (λ (n : Named). n.1 < i) (λ (n : Named). n.1 < i + 1) (λ n less. omega arith) named are.below) (omega arith);
  few = (let fits : length named ≤ i = are.few in simp length-append (omega arith));
})

-- a file that has no protocol
pub named_skip : (program : List Entry) (i : ℕ) (named : List Named) → AreNamedFiles program i named → protocol_of program i ≡ None → AreNamedFiles program (i + 1) named
named_skip program i named are none = record {
  full = are.full;
  complete = λ file below there. elim (cases_lt file i) [
    | inl earlier ↦ are.complete file earlier there
    | inr later ↦ absurd (none_there (protocol_of program file) (ap (protocol_of program) (let same : file ≡ i = omega arith in same) ∙ none) there)
  ];
  rising = are.rising;
  below = All-weaker (λ (n : Named). n.1 < i) (λ (n : Named). n.1 < i + 1) (λ n less. omega arith) named are.below;
  few = (let fits : length named ≤ i = are.few in omega arith);
}
  where
    none_there : (o : Option ProtocolDecl) → o ≡ None → IsSome o → ⊥
    none_there None e h = cc
    none_there (Some p) e h = cc

-- the protocol of an entry is that of its file
pub protocol_at : (program : List Entry) (i : ℕ) (e : Entry) → i < length program → e ≡ get_or program i e → protocol_of program i ≡ e.unit.protocol
protocol_at program i e below at = ap (λ (o : Option Entry). option_and_then (λ (x : Entry). x.unit.protocol) o) (slice_get_read program (length program) i e refl below at)

-- Numbers of files

-- each of the first files has its index among them
abbrev pub FindsBelow : List ℕ → List ℕ → ℕ → Type 0
FindsBelow files numbers limit = (k : ℕ) → k < limit → (get_or numbers (get_or files k 0) 0 < length files) × (get_or files (get_or numbers (get_or files k 0) 0) 0 ≡ get_or files k 0)

pub finds_more : (files numbers : List ℕ) (i file : ℕ) → i < length files → file ≡ get_or files i 0 → file < length numbers → FindsBelow files numbers i → FindsBelow files (set numbers file i) (i + 1)
finds_more files numbers i file below at within so_far k lt = elim (cases_eq (get_or files k 0) file) [
  | inl same ↦ (
      let here : get_or (set numbers file i) (get_or files k 0) 0 ≡ i = ap (λ n. get_or (set numbers file i) n 0) same ∙ get_or-set_same numbers file i 0 within in
      (subst (λ n. n < length files) (sym here) below, ap (λ n. get_or files n 0) here ∙ sym at ∙ sym same))
  | inr differs ↦ (
      let kept : get_or (set numbers file i) (get_or files k 0) 0 ≡ get_or numbers (get_or files k 0) 0 = get_or-set_other numbers file (get_or files k 0) i 0 differs in
      let earlier : k < i = elim (cases_lt k i) [ inl less ↦ less | inr past ↦ absurd (differs (ap (λ n. get_or files n 0) (let same : k ≡ i = omega arith in same) ∙ sym at)) ] in
      let old = so_far k earlier in
      (subst (λ n. n < length files) (sym kept) old.0, ap (λ n. get_or files n 0) kept ∙ old.1))
]

pub finds_all : (files numbers : List ℕ) (count i : ℕ) → length numbers ≡ count → All (λ file. file < count) files → length files ≤ i → FindsBelow files numbers i → FindsNumbers files numbers
finds_all files numbers count i long below over found file (k, lt, at) =
    let plain : get_or files k 0 ≡ file = sym (get_or_read files k file lt (sym at) 0) in
    let here = found k (omega arith) in
    let within : get_or files k 0 < count = below k 0 lt in
    let number = get_or numbers (get_or files k 0) 0 in
    let there : slice_get numbers file ≡ Some number = ap (slice_get numbers) (sym plain) ∙ slice_get-get_or numbers (get_or files k 0) 0 (let fits : get_or files k 0 < length numbers = omega arith in fits) in
    let P : Option ℕ → Type 0 = λ o. IsSomeAnd o (λ n. slice_get files n ≡ Some file) in
    subst P (sym there) (slice_get-get_or files number 0 here.0 ∙ ap Some (here.1 ∙ plain))

-- The order of files

abbrev named_cmp : Named → Named → Ordering
named_cmp a b = ordering_then (slice_cmp nat_cmp a.0.now b.0.now) (nat_cmp a.1 b.1)

named_total : IsTotalOrder named_cmp
named_total = then_total (on_total (λ (n : Named). n.0.now) nat_list_cmp_total) (on_total (λ (n : Named). n.1) nat_cmp_total)

-- the element of a list at an index within it
pub element : {X : Type 0} (xs : List X) (i : ℕ) → i < length xs → X
element xs i below = elim (slice_get_cases xs i).1 [ inl one ↦ one.0 | inr past ↦ absurd (omega arith) ]

apart : (named : List Named) → AllPairs (λ a b. a.1 < b.1) named → IsDistinct nat_eq (Files named)
apart named rising = IsDistinct-from_apart nat_eq (Files named) (λ i j d before below.
    let long : j < length named = rw (length-map named (λ (n : Named). n.1)) at below in
    let a = element named j long in
    let less : (get_or named i a).1 < (get_or named j a).1 = rising i j a before long in
    let one : get_or (Files named) i d ≡ (get_or named i a).1 = get_or-map (λ (n : Named). n.1) named i a d (omega arith) in
    let other : get_or (Files named) j d ≡ (get_or named j a).1 = get_or-map (λ (n : Named). n.1) named j a d long in
    elim (eqb_tells (get_or (Files named) i d) (get_or (Files named) j d)) [ inl same ↦ absurd (let e = same.1 in omega arith) | inr differ ↦ differ.0 ])

eq_flips : (x y : ℕ) → nat_eq x y ≡ nat_eq y x
eq_flips = nat_eq_equiv.symm

full_of : (program : List Entry) (n : Named) (p : ProtocolDecl) → IsSomeAnd (protocol_of program n.1) (λ q. q.full ≡ n.0.now) → protocol_of program n.1 ≡ Some p → p.full ≡ n.0.now
full_of program n p h is = let P : Option ProtocolDecl → Type 0 = λ o. IsSomeAnd o (λ q. q.full ≡ n.0.now) in subst P is h

in_order : (program : List Entry) (a b : Named) (p q : ProtocolDecl) → IsProgram program → BearTheirNames program → is_lt (named_cmp b a) ≡ false → a.1 ≢ b.1 → protocol_of program a.1 ≡ Some p → protocol_of program b.1 ≡ Some q
    → p.full ≡ a.0.now → q.full ≡ b.0.now → slice_cmp nat_cmp p.full q.full ≡ Less
in_order program a b p q is bear sorted differ has other one two = go (slice_cmp nat_cmp p.full q.full) refl
  where
    go : (o : Ordering) → slice_cmp nat_cmp p.full q.full ≡ o → o ≡ Less
    go Less e = refl
    go Equal e = absurd (differ (same_file program a.1 b.1 p q is bear has other (ap short_name (exact_bytes p.full q.full e))))
    go Greater e =
        let back : slice_cmp nat_cmp q.full p.full ≡ Less = nat_list_cmp_total.antisymm q.full p.full ∙ ap ordering_reverse e in
        let less : slice_cmp nat_cmp b.0.now a.0.now ≡ Less = ap (λ (x : List ℕ). slice_cmp nat_cmp x a.0.now) (sym two) ∙ ap (λ (x : List ℕ). slice_cmp nat_cmp q.full x) (sym one) ∙ back in
        absurd (true≢false (sym (ap (λ (o : Ordering). is_lt (ordering_then o (nat_cmp b.1 a.1))) less) ∙ sorted))

some_at_all : (o : Option ProtocolDecl) (P : ProtocolDecl → Type 0) → IsSomeAnd o P → IsSome o
some_at_all None P h = absurd h
some_at_all (Some p) P h = refl

-- files that are sorted by the names of their protocols are in the order of these names
pub files_ordered : (program : List Entry) (named sorted : List Named) (files : List ℕ) → IsProgram program → BearTheirNames program → AreNamedFiles program (length program) named → IsPermutation named sorted → IsSorted named_cmp sorted
    → files ≡ Files sorted → AreProtocolFiles program files
files_ordered program named sorted files is bear are moved order same = subst (AreProtocolFiles program) (sym same) (record {
  ordered = λ i j d before below p q has other.
      let long : j < length sorted = rw (length-map sorted (λ (n : Named). n.1)) at below in
      let first : i < length sorted = omega arith in
      let e = element sorted j long in
      let a = get_or sorted i e in
      let b = get_or sorted j e in
      let full = All-permutation (λ (n : Named). IsSomeAnd (protocol_of program n.1) (λ r. r.full ≡ n.0.now)) named sorted moved are.full in
      let at_i : get_or (Files sorted) i d ≡ a.1 = get_or-map (λ (n : Named). n.1) sorted i e d first in
      let at_j : get_or (Files sorted) j d ≡ b.1 = get_or-map (λ (n : Named). n.1) sorted j e d long in
      let differ : nat_eq (get_or (Files sorted) i d) (get_or (Files sorted) j d) ≡ false = apart_from_distinct nat_eq (Files sorted) i j d
      (IsDistinct-IsPermutation nat_eq eq_flips (Files named) (Files sorted) (IsPermutation-map (λ (n : Named). n.1) named sorted moved) (apart named are.rising)) before below in
      let here : protocol_of program a.1 ≡ Some p = ap (protocol_of program) (sym at_i) ∙ has in
      let there : protocol_of program b.1 ≡ Some q = ap (protocol_of program) (sym at_j) ∙ other in
      in_order program a b p q is bear (sorted_far (λ (x y : Named). is_lt (named_cmp x y)) (ranks_by named_total (λ (n : Named). n)) sorted order i j e (omega arith) long)
      (λ same_number. not_from_Decides _ (Decides-eqb (get_or (Files sorted) i d) (get_or (Files sorted) j d)) differ (at_i ∙ same_number ∙ sym at_j))
      here there (full_of program a p (full i e first) here) (full_of program b q (full j e long) there);
  exact = λ file. (
    (λ h. All-contains (λ (f : ℕ). IsSome (protocol_of program f)) (Files sorted) file
        (All-map (λ (f : ℕ). IsSome (protocol_of program f)) (λ (n : Named). n.1) sorted
        (All-permutation (λ (n : Named). IsSome (protocol_of program n.1)) named sorted moved
        (All-weaker (λ (n : Named). IsSomeAnd (protocol_of program n.1) (λ q. q.full ≡ n.0.now)) (λ (n : Named). IsSome (protocol_of program n.1)) (λ n k. some_at_all (protocol_of program n.1) (λ q. q.full ≡ n.0.now) k) named are.full))) h),
    (λ there. Contains-permutation (Files named) (Files sorted) file (IsPermutation-map (λ (n : Named). n.1) named sorted moved) (are.complete file (file_below program file there) there)),
  );
})

pub files_few : (program : List Entry) (named sorted : List Named) (files : List ℕ) → IsProgram program → AreNamedFiles program (length program) named → IsPermutation named sorted → files ≡ Files sorted → length files ≤ 4096
files_few program named sorted files is are moved same =
    let long : length files ≡ length sorted = ap length same ∙ length-map sorted (λ (n : Named). n.1) in
    let kept : length sorted ≡ length named = length_permutation named sorted moved in
    let few : length named ≤ length program = are.few in
    let all : length program ≤ 4096 = is.few in
    omega arith

pub files_below : (program : List Entry) (files read : List ℕ) → AreProtocolFiles program files → read ≡ files → All (λ file. file < length program) read
files_below program files read are same = subst (All (λ (file : ℕ). file < length program)) (sym same) (λ k d below. file_below program (get_or files k d) ((are.exact (get_or files k d)).0 (Contains-get_or files k d below)))
