-- How one more block, and one more request, change a table of blocks.
use Rattle.std.proofs.Common.{◌≡◌, ◌∙◌, ℕ, zero, suc, ◌+◌, ◌-◌, ◌<◌, ◌≤◌, ◌==◌, Bool, true, false, ◌&&◌, cond, List, [], ◌∷◌, ◌++◌, map, filter, take, length, Option, Some, None, slice_get, refl, sym, ap, subst, arith, inl, inr}
use Rattle.std.specs.Prelude.{count_by, min, nat_eq, nat_lt, if◌then◌else◌, option_and_then, option_map}
use Rattle.std.proofs.lemmas.Bool.Decides.{eqb_tells}
use Rattle.std.proofs.lemmas.Bool.{cases_Bool, ltb-true, ltb-false, eq-eqb, eqb-true}
use Rattle.std.proofs.Math.Bool.{and-false}
use Rattle.std.proofs.lemmas.List.{append-nil}
use Rattle.std.proofs.lemmas.List.Elements.{filter-append}
use Rattle.std.proofs.lemmas.List.Sums.{sum_by-cons}
use Rattle.std.proofs.lemmas.Option.{slice_get-map}
use Rattle.findings.proofs.Indexed.{slice_get-left, slice_get-last}
use Rattle.ipdl_base.specs.declared.kinds.Side.{Side}
use Rattle.handler_script.specs.declared.action.Block.{Block}
use Rattle.ipdl_base.specs.Lines.{same_side}
use Rattle.handler_script.specs.Served.{is_number, serves}
use Rattle.script_parts.specs.declared.blocks.BlockTable.{BlockTable}
use Rattle.script_parts.specs.Tables.{count_of, IsTableOf, block_after, listed_in, main_in, next_in, next_after}

-- what indices refer to is still there if one more element follows
pub refer-push : {X : Type 0} (xs : List X) (x : X) (indices : List ℕ) (ys : List X) → map (slice_get xs) indices ≡ map Some ys → map (slice_get (xs ++ x ∷ [])) indices ≡ map Some ys
refer-push xs x [] ys e = e
refer-push xs x (i ∷ indices) [] e = absurd (let no : ⊥ = cc in no)
refer-push xs x (i ∷ indices) (y ∷ ys) e =
    let first : slice_get xs i ≡ Some y = cc in
    let more : map (slice_get xs) indices ≡ map Some ys = cc in
    let here = slice_get-left xs x i y first in
    let there = refer-push xs x indices ys more in
    cc

-- the index of the last element, after others
pub refer-last : {X : Type 0} (xs : List X) (x : X) (indices : List ℕ) (ys : List X) → map (slice_get xs) indices ≡ map Some ys → map (slice_get (xs ++ x ∷ [])) (indices ++ length xs ∷ []) ≡ map Some (ys ++ x ∷ [])
refer-last xs x [] [] e = ap (λ o. o ∷ []) (slice_get-last xs x)
refer-last xs x [] (y ∷ ys) e = absurd (let no : ⊥ = cc in no)
refer-last xs x (i ∷ indices) [] e = absurd (let no : ⊥ = cc in no)
refer-last xs x (i ∷ indices) (y ∷ ys) e =
    let first : slice_get xs i ≡ Some y = cc in
    let more : map (slice_get xs) indices ≡ map Some ys = cc in
    let here = slice_get-left xs x i y first in
    let there = refer-last xs x indices ys more in
    cc

-- the number of indices is that of the elements that they refer to
pub refer-length : {X : Type 0} (xs : List X) (indices : List ℕ) (ys : List X) → map (slice_get xs) indices ≡ map Some ys → length indices ≡ length ys
refer-length xs [] [] e = refl
refer-length xs [] (y ∷ ys) e = absurd (let no : ⊥ = cc in no)
refer-length xs (i ∷ indices) [] e = absurd (let no : ⊥ = cc in no)
refer-length xs (i ∷ indices) (y ∷ ys) e = ap suc (refer-length xs indices ys (let more : map (slice_get xs) indices ≡ map Some ys = cc in more))

-- the element at an index of the indices
pub refer-at : {X : Type 0} (xs : List X) (indices : List ℕ) (ys : List X) (n : ℕ) → map (slice_get xs) indices ≡ map Some ys → option_and_then (slice_get xs) (slice_get indices n) ≡ slice_get ys n
refer-at xs [] [] n e = refl
refer-at xs [] (y ∷ ys) n e = absurd (let no : ⊥ = cc in no)
refer-at xs (i ∷ indices) [] n e = absurd (let no : ⊥ = cc in no)
refer-at xs (i ∷ indices) (y ∷ ys) zero e = let first : slice_get xs i ≡ Some y = cc in first
refer-at xs (i ∷ indices) (y ∷ ys) (suc n) e = refer-at xs indices ys n (let more : map (slice_get xs) indices ≡ map Some ys = cc in more)

-- one more block, which serves or does not
pub filter-out : (p : Block → Bool) (blocks : List Block) (block : Block) → p block ≡ false → filter p (blocks ++ block ∷ []) ≡ filter p blocks
filter-out p blocks block e = filter-append p blocks (block ∷ []) ∙ rw e (append-nil (filter p blocks))

pub filter-in : (p : Block → Bool) (blocks : List Block) (block : Block) → p block ≡ true → filter p (blocks ++ block ∷ []) ≡ filter p blocks ++ block ∷ []
filter-in p blocks block e = filter-append p blocks (block ∷ []) ∙ rw e refl

-- one more request of a message, and of another
pub count-same : (number : ℕ) (taken : List ℕ) → count_of number (number ∷ taken) ≡ suc (count_of number taken)
count-same number taken =
    let same : ◌≡◌ {A = ℕ} (cond (number == number) 1 0) 1 = ap (λ b. cond b 1 0) (eq-eqb number number refl) in
    let f = sum_by-cons (λ n. cond (n == number) 1 0) number taken in
    omega (arith, same, f)

pub count-other : (number other : ℕ) (taken : List ℕ) → (number == other) ≡ false → count_of other (number ∷ taken) ≡ count_of other taken
count-other number other taken differs =
    let none : ◌≡◌ {A = ℕ} (cond (number == other) 1 0) 0 = ap (λ b. cond b 1 0) differs in
    let f = sum_by-cons (λ n. cond (n == other) 1 0) number taken in
    omega (arith, none, f)

-- the next position, after one more request
pub next-count : (count long : ℕ) → next_after long (min count (long - 1)) ≡ min (suc count) (long - 1)
next-count count long =
    let at = min count (long - 1) in
    elim (cases_Bool (nat_lt (suc at) long)) [
      | inl t ↦ ap (λ (b : Bool). cond b (suc at) at) t ∙ (let k : suc at < long = ltb-true (suc at) long t in omega arith)
      | inr f ↦ ap (λ (b : Bool). cond b (suc at) at) f ∙ (let k : long ≤ suc at = ltb-false (suc at) long f in omega arith)
    ]

eqb-swap : (m n : ℕ) → (m == n) ≡ (n == m)
eqb-swap m n = elim (eqb_tells m n) [
  | inl same ↦ same.0 ∙ sym (eq-eqb n m (sym same.1))
  | inr differ ↦ differ.0 ∙ elim (eqb_tells n m) [ inl same ↦ absurd (differ.1 (sym same.1)) | inr other ↦ sym other.0 ]
]

-- A table after one more block: of another side, ..
pub no-block : (side : Side) (blocks : List Block) (block : Block) (table : BlockTable) → same_side block.side side ≡ false → IsTableOf blocks side [] table → IsTableOf (blocks ++ block ∷ []) side [] table
no-block side blocks block table other is = record {
  mains = rw (filter-out (serves side None) blocks block (serves-none None)) (refer-push blocks block (main_in table.main) (take 1 (filter (serves side None) blocks)) is.mains);
  listed = λ number. rw (filter-out (serves side (Some number)) blocks block (serves-none (Some number))) (refer-push blocks block (listed_in table.messages number) (filter (serves side (Some number)) blocks) (is.listed number));
  next = is.next;
}
  where
    serves-none : (handled : Option ℕ) → serves side handled block ≡ false
    serves-none handled = rw other refl

-- .. a main, the first or another one, ..
none-of-messages : (side : Side) (blocks : List Block) (block : Block) (table : BlockTable) → block.handles ≡ None → IsTableOf blocks side [] table → (number : ℕ) → map (slice_get (blocks ++ block ∷ [])) (listed_in table.messages number) ≡ map Some (filter (serves side (Some number)) (blocks ++ block ∷ []))
none-of-messages side blocks block table main is number =
    rw (filter-out (serves side (Some number)) blocks block other) (refer-push blocks block (listed_in table.messages number) (filter (serves side (Some number)) blocks) (is.listed number))
  where
    other : serves side (Some number) block ≡ false
    other = ap (λ handled. same_side block.side side && is_number handled (Some number)) main ∙ and-false (same_side block.side side)

pub first-main : (side : Side) (blocks : List Block) (block : Block) (table : BlockTable) → same_side block.side side ≡ true → block.handles ≡ None → table.main ≡ None → IsTableOf blocks side [] table → IsTableOf (blocks ++ block ∷ []) side [] (record table { main = Some (length blocks) })
first-main side blocks block table own main none is = record {
  mains = rw (filter-in (serves side None) blocks block serving, none-before (filter (serves side None) blocks) (subst (λ main. map (slice_get blocks) (main_in main) ≡ map Some (take 1 (filter (serves side None) blocks))) none is.mains)) (ap (λ o. o ∷ []) (slice_get-last blocks block));
  listed = none-of-messages side blocks block table main is;
  next = is.next;
}
  where
    serving : serves side None block ≡ true
    serving = rw (own, main) refl

    none-before : (found : List Block) → map (slice_get blocks) (main_in None) ≡ map Some (take 1 found) → found ≡ []
    none-before [] e = refl
    none-before (x ∷ found) e = absurd (let no : ⊥ = cc in no)

pub later-main : (side : Side) (blocks : List Block) (block : Block) (table : BlockTable) → same_side block.side side ≡ true → block.handles ≡ None → (index : ℕ) → table.main ≡ Some index → IsTableOf blocks side [] table → IsTableOf (blocks ++ block ∷ []) side [] table
later-main side blocks block table own main index some is = record {
  mains = rw (filter-in (serves side None) blocks block serving, first-stays (filter (serves side None) blocks) (subst (λ main. map (slice_get blocks) (main_in main) ≡ map Some (take 1 (filter (serves side None) blocks))) some is.mains)) (refer-push blocks block (main_in table.main) (take 1 (filter (serves side None) blocks)) is.mains);
  listed = none-of-messages side blocks block table main is;
  next = is.next;
}
  where
    serving : serves side None block ≡ true
    serving = rw (own, main) refl

    first-stays : (found : List Block) → map (slice_get blocks) (main_in (Some index)) ≡ map Some (take 1 found) → take 1 (found ++ block ∷ []) ≡ take 1 found
    first-stays [] e = absurd (let no : ⊥ = cc in no)
    first-stays (x ∷ found) e = refl

-- .. or for a message
pub one-handler : (side : Side) (blocks : List Block) (block : Block) (table after : BlockTable) (number : ℕ) → same_side block.side side ≡ true → block.handles ≡ Some number → after.main ≡ table.main
    → ((n : ℕ) → listed_in after.messages n ≡ listed_in table.messages n ++ (if nat_eq n number then length blocks ∷ [] else [])) → ((n : ℕ) → next_in after.messages n ≡ next_in table.messages n)
    → IsTableOf blocks side [] table → IsTableOf (blocks ++ block ∷ []) side [] after
one-handler side blocks block table after number own handles same listed next is = record {
  mains = rw (same, filter-out (serves side None) blocks block no-main) (refer-push blocks block (main_in table.main) (take 1 (filter (serves side None) blocks)) is.mains);
  listed = λ n. rw (listed n) (elim (cases_Bool (nat_eq n number)) [
    | inl t ↦ rw (t, filter-in (serves side (Some n)) blocks block (serving n t)) (refer-last blocks block (listed_in table.messages n) (filter (serves side (Some n)) blocks) (is.listed n))
    | inr f ↦ rw (f, append-nil (listed_in table.messages n), filter-out (serves side (Some n)) blocks block (other n f)) (refer-push blocks block (listed_in table.messages n) (filter (serves side (Some n)) blocks) (is.listed n))
  ]);
  next = λ n. next n ∙ is.next n ∙ (let least : min 0 (length (listed_in table.messages n) - 1) ≡ min 0 (length (listed_in after.messages n) - 1) = omega arith in least);
}
  where
    no-main : serves side None block ≡ false
    no-main = ap (λ handled. same_side block.side side && is_number handled None) handles ∙ and-false (same_side block.side side)

    serving : (n : ℕ) → nat_eq n number ≡ true → serves side (Some n) block ≡ true
    serving n same = rw (own, handles) (eq-eqb number n (sym (eqb-true n number same)))

    other : (n : ℕ) → nat_eq n number ≡ false → serves side (Some n) block ≡ false
    other n differs = rw (own, handles) (eqb-swap number n ∙ differs)

-- after one more request
pub taken-more : (side : Side) (blocks : List Block) (taken : List ℕ) (table after : BlockTable) (number : ℕ) → after.main ≡ table.main → ((n : ℕ) → listed_in after.messages n ≡ listed_in table.messages n)
    → ((n : ℕ) → next_in after.messages n ≡ (if nat_eq n number then next_after (length (listed_in table.messages n)) (next_in table.messages n) else next_in table.messages n))
    → IsTableOf blocks side taken table → IsTableOf blocks side (number ∷ taken) after
taken-more side blocks taken table after number same listed next is = record {
  mains = rw same is.mains;
  listed = λ n. rw (listed n) (is.listed n);
  next = λ n. next n ∙ elim (cases_Bool (nat_eq n number)) [
    | inl t ↦ ap (λ (b : Bool). cond b (next_after (length (listed_in table.messages n)) (next_in table.messages n)) (next_in table.messages n)) t ∙ one-more n (eqb-true n number t)
    | inr f ↦ ap (λ (b : Bool). cond b (next_after (length (listed_in table.messages n)) (next_in table.messages n)) (next_in table.messages n)) f ∙ is.next n
        ∙ ap (λ (count : ℕ). min count (length (listed_in table.messages n) - 1)) (sym (count-other number n taken (eqb-swap number n ∙ f))) ∙ relisted n
  ];
}
  where
    relisted : (n : ℕ) → min (count_of n (number ∷ taken)) (length (listed_in table.messages n) - 1) ≡ min (count_of n (number ∷ taken)) (length (listed_in after.messages n) - 1)
    relisted n = ap (λ (indices : List ℕ). min (count_of n (number ∷ taken)) (length indices - 1)) (sym (listed n))

    one-more : (n : ℕ) → n ≡ number → next_after (length (listed_in table.messages n)) (next_in table.messages n) ≡ min (count_of n (number ∷ taken)) (length (listed_in after.messages n) - 1)
    one-more n same =
        let counted : count_of n (number ∷ taken) ≡ suc (count_of n taken) = subst (λ m. count_of m (number ∷ taken) ≡ suc (count_of m taken)) (sym same) (count-same number taken) in
        ap (next_after (length (listed_in table.messages n))) (is.next n) ∙ next-count (count_of n taken) (length (listed_in table.messages n))
        ∙ ap (λ (count : ℕ). min count (length (listed_in table.messages n) - 1)) (sym counted) ∙ relisted n

-- the block that a table has next
pub block-is : (side : Side) (blocks : List Block) (taken : List ℕ) (table : BlockTable) (number : ℕ) → IsTableOf blocks side taken table → option_and_then (slice_get blocks) (slice_get (listed_in table.messages number) (next_in table.messages number)) ≡ block_after blocks side number taken
block-is side blocks taken table number is =
    refer-at blocks (listed_in table.messages number) (filter (serves side (Some number)) blocks) (next_in table.messages number) (is.listed number)
    ∙ ap (slice_get (filter (serves side (Some number)) blocks)) (is.next number ∙ ap (λ long. min (count_of number taken) (long - 1)) (refer-length blocks (listed_in table.messages number) (filter (serves side (Some number)) blocks) (is.listed number)))

-- the main that a table has
pub main-is : (side : Side) (blocks : List Block) (taken : List ℕ) (table : BlockTable) → IsTableOf blocks side taken table → option_and_then (slice_get blocks) table.main ≡ slice_get (filter (serves side None) blocks) 0
main-is side blocks taken table is = by-main table.main (filter (serves side None) blocks) is.mains
  where
    by-main : (main : Option ℕ) (found : List Block) → map (slice_get blocks) (main_in main) ≡ map Some (take 1 found) → option_and_then (slice_get blocks) main ≡ slice_get found 0
    by-main None [] e = refl
    by-main None (x ∷ found) e = absurd (let no : ⊥ = cc in no)
    by-main (Some index) [] e = absurd (let no : ⊥ = cc in no)
    by-main (Some index) (x ∷ found) e = let first : slice_get blocks index ≡ Some x = cc in first

-- a table of no blocks
pub no-table : (side : Side) (table : BlockTable) → table.main ≡ None → ((number : ℕ) → listed_in table.messages number ≡ []) → ((number : ℕ) → next_in table.messages number ≡ 0) → IsTableOf [] side [] table
no-table side table main listed next = record {
  mains = rw main refl;
  listed = λ number. rw (listed number) refl;
  next = λ number. next number ∙ (let least : 0 ≡ min 0 (length (listed_in table.messages number) - 1) = omega arith in least);
}
