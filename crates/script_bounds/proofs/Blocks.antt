-- Each block serves one request, except the last block of a message.
use Rattle.std.proofs.Common.{◌≡◌, ℕ, zero, suc, ◌+◌, ◌-◌, ◌<◌, ◌≤◌, min, nat_lt, Bool, true, false, not, ◌&&◌, ◌==◌, cond, if◌then◌else◌, List, [], ◌∷◌, ◌++◌, length, filter, Option, Some, None, refl, sym, ap, subst, ◌∙◌, arith}
use Rattle.std.specs.List.{slice_get}
use Rattle.std.proofs.lemmas.Bool.{false≢true, ltb-false}
use Rattle.std.proofs.lemmas.Bool.Decides.{Decides-ltb, Decides-eqb}
use Rattle.std.proofs.lemmas.List.Elements.{filter-append}
use Rattle.ipdl_base.specs.declared.kinds.Side.{Side}
use Rattle.ipdl_base.specs.Lines.{same_side}
use Rattle.channel_laws.specs.Counts.{one_if}
use Rattle.handler_script.specs.declared.action.Block.{Block}
use Rattle.handler_script.specs.declared.script.Script.{Script}
use Rattle.handler_script.specs.ScriptOf.{blocks_for}
use Rattle.handler_script.specs.Served.{is_number, serves}
use Rattle.script_bounds.specs.Actions.{actions_again, actions_for, actions_in, actions_of, actions_served, block_actions, block_count, taken_before}
use Rattle.script_bounds.specs.Laws.{BlocksServeOnce, ServesAgainWithoutActions}

-- Blocks that have not served

-- there is this number of blocks of the message before
abbrev place_of : Side → ℕ → List Block → ℕ
place_of s number before = length (filter (serves s (Some number)) before)

-- a block of a side has not served the requests that were taken
abbrev is_unused_for : Side → List ℕ → List Block → Option ℕ → Bool
is_unused_for s taken before None = false
is_unused_for s taken before (Some number) = not (nat_lt (place_of s number before) (taken_before number taken))

abbrev unused_at : Side → List ℕ → List Block → Block → ℕ
unused_at s taken before block = cond (same_side block.side s && is_unused_for s taken before block.handles) (length block.actions) 0

-- the actions of the blocks that have not served
abbrev unused : Side → List ℕ → List Block → List Block → ℕ
unused s taken before [] = 0
unused s taken before (block ∷ blocks) = unused_at s taken before block + unused s taken (before ++ block ∷ []) blocks

-- One more request of a message

lt-is : (m n : ℕ) → m < n → nat_lt m n ≡ true
lt-is m n h = (Decides-ltb m n).1 h

lt-not : (m n : ℕ) → n ≤ m → nat_lt m n ≡ false
lt-not m n h = by (nat_lt m n) refl
  where
    by : (b : Bool) → nat_lt m n ≡ b → nat_lt m n ≡ false
    by true is = let l : m < n = (Decides-ltb m n).0 is in absurd (omega (arith, l, h))
    by false is = is

same-eq : (n : ℕ) → (n == n) ≡ true
same-eq n = (Decides-eqb n n).1 refl

-- one more block is before
place-more : (s : Side) (number : ℕ) (before : List Block) (block : Block) (b : Bool) → serves s (Some number) block ≡ b → place_of s number (before ++ block ∷ []) ≡ place_of s number before + one_if b
place-more s number before block b is =
    ap length (filter-append (serves s (Some number)) before (block ∷ [])) ∙ ap (λ (c : Bool). length (filter (serves s (Some number)) before ++ cond c (block ∷ []) [])) is ∙ by b (filter (serves s (Some number)) before)
  where
    by : (c : Bool) (xs : List Block) → length (xs ++ cond c (block ∷ []) []) ≡ length xs + one_if c
    by true [] = refl
    by false [] = refl
    by true (x ∷ xs) = let more = by true xs in omega (arith, more)
    by false (x ∷ xs) = let more = by false xs in omega (arith, more)

-- a block of another message, or of another side, has served as before
other-unused : (s : Side) (number : ℕ) (taken : List ℕ) (before : List Block) (block : Block) → serves s (Some number) block ≡ false → unused_at s (number ∷ taken) before block ≡ unused_at s taken before block
other-unused s number taken before block none = by (same_side block.side s) block.handles none
  where
    by : (b : Bool) (h : Option ℕ) → (b && is_number h (Some number)) ≡ false → cond (b && is_unused_for s (number ∷ taken) before h) (length block.actions) 0 ≡ cond (b && is_unused_for s taken before h) (length block.actions) 0
    by false h e = refl
    by true None e = refl
    by true (Some m) e = ap (λ (n : ℕ). cond (not (nat_lt (place_of s m before) n)) (length block.actions) 0) (ap (λ (c : Bool). one_if c + taken_before m taken) (flipped (number == m) refl) ∙ omega arith)
      where
        flipped : (c : Bool) → (number == m) ≡ c → (number == m) ≡ false
        flipped true is = let same : number ≡ m = (Decides-eqb number m).0 is in absurd (false≢true (sym e ∙ ap (λ (k : ℕ). k == number) (sym same) ∙ same-eq number))
        flipped false is = is

-- a block of the message has served, if its place is below the count
own-side : (s : Side) (number : ℕ) (block : Block) → serves s (Some number) block ≡ true → same_side block.side s ≡ true
own-side s number block e = by (same_side block.side s) (is_number block.handles (Some number)) e
  where
    by : (b c : Bool) → (b && c) ≡ true → b ≡ true
    by true c k = refl
    by false c k = absurd (false≢true k)

own-message : (s : Side) (number : ℕ) (block : Block) → serves s (Some number) block ≡ true → block.handles ≡ Some number
own-message s number block e = handled block.handles refl (by (same_side block.side s) (is_number block.handles (Some number)) e)
  where
    by : (b c : Bool) → (b && c) ≡ true → c ≡ true
    by true c k = k
    by false c k = absurd (false≢true k)

    handled : (h : Option ℕ) → block.handles ≡ h → is_number block.handles (Some number) ≡ true → block.handles ≡ Some number
    handled None is k = absurd (false≢true (ap (λ (o : Option ℕ). is_number o (Some number)) (sym is) ∙ k))
    handled (Some m) is k = is ∙ ap Some ((Decides-eqb m number).0 (ap (λ (o : Option ℕ). is_number o (Some number)) (sym is) ∙ k))

own-unused : (s : Side) (number : ℕ) (taken : List ℕ) (before : List Block) (block : Block) (b : Bool) → serves s (Some number) block ≡ true → nat_lt (place_of s number before) (taken_before number taken) ≡ b
    → unused_at s taken before block ≡ cond (not b) (length block.actions) 0
own-unused s number taken before block b is placed =
    ap (λ (h : Option ℕ). cond (same_side block.side s && is_unused_for s taken before h) (length block.actions) 0) (own-message s number block is)
    ∙ ap (λ (c : Bool). cond (c && not (nat_lt (place_of s number before) (taken_before number taken))) (length block.actions) 0) (own-side s number block is)
    ∙ ap (λ (c : Bool). cond (not c) (length block.actions) 0) placed

count-more : (number : ℕ) (taken : List ℕ) → taken_before number (number ∷ taken) ≡ suc (taken_before number taken)
count-more number taken = ap (λ (b : Bool). one_if b + taken_before number taken) (same-eq number) ∙ omega arith

-- if the place is above the count, nothing changes
unused-past : (s : Side) (number : ℕ) (taken : List ℕ) (before blocks : List Block) → taken_before number taken < place_of s number before → unused s (number ∷ taken) before blocks ≡ unused s taken before blocks
unused-past s number taken before [] past = refl
unused-past s number taken before (block ∷ blocks) past = by (serves s (Some number) block) refl (unused-past s number taken (before ++ block ∷ []) blocks)
  where
    by : (b : Bool) → serves s (Some number) block ≡ b
        → (taken_before number taken < place_of s number (before ++ block ∷ []) → unused s (number ∷ taken) (before ++ block ∷ []) blocks ≡ unused s taken (before ++ block ∷ []) blocks)
        → unused s (number ∷ taken) before (block ∷ blocks) ≡ unused s taken before (block ∷ blocks)
    by true is more =
        let place = place-more s number before block true is in
        let count = count-more number taken in
        let later = more (omega (arith, past, place)) in
        let here =
        own-unused s number (number ∷ taken) before block false is (lt-not (place_of s number before) (taken_before number (number ∷ taken)) (omega (arith, count, past)))
        ∙ sym (own-unused s number taken before block false is (lt-not (place_of s number before) (taken_before number taken) (omega (arith, past)))) in
        ap (λ (n : ℕ). n + unused s (number ∷ taken) (before ++ block ∷ []) blocks) here ∙ ap (λ (n : ℕ). unused_at s taken before block + n) later
    by false is more =
        let place = place-more s number before block false is in
        let later = more (omega (arith, past, place)) in
        ap (λ (n : ℕ). n + unused s (number ∷ taken) (before ++ block ∷ []) blocks) (other-unused s number taken before block is) ∙ ap (λ (n : ℕ). unused_at s taken before block + n) later

-- if it is not, the block at that place serves now
unused-next : (s : Side) (number j : ℕ) (taken : List ℕ) (before blocks : List Block) → taken_before number taken ≡ place_of s number before + j
    → unused s taken before blocks ≡ unused s (number ∷ taken) before blocks + actions_of (slice_get (filter (serves s (Some number)) blocks) j)
unused-next s number j taken before [] count = refl
unused-next s number j taken before (block ∷ blocks) count = by (serves s (Some number) block) refl j count (λ i. unused-next s number i taken (before ++ block ∷ []) blocks)
  where
    by : (b : Bool) → serves s (Some number) block ≡ b → (j : ℕ) → taken_before number taken ≡ place_of s number before + j
        → ((i : ℕ) → taken_before number taken ≡ place_of s number (before ++ block ∷ []) + i
        → unused s taken (before ++ block ∷ []) blocks ≡ unused s (number ∷ taken) (before ++ block ∷ []) blocks + actions_of (slice_get (filter (serves s (Some number)) blocks) i))
        → unused s taken before (block ∷ blocks) ≡ unused s (number ∷ taken) before (block ∷ blocks) + actions_of (slice_get (filter (serves s (Some number)) (block ∷ blocks)) j)
    by true is zero e more =
        let place = place-more s number before block true is in
        let count = count-more number taken in
        let was = own-unused s number taken before block false is (lt-not (place_of s number before) (taken_before number taken) (omega (arith, e))) in
        let now = own-unused s number (number ∷ taken) before block true is (lt-is (place_of s number before) (taken_before number (number ∷ taken)) (omega (arith, e, count))) in
        let later = unused-past s number taken (before ++ block ∷ []) blocks (omega (arith, e, place)) in
        let served = ap (λ (b : Bool). actions_of (slice_get (cond b (block ∷ filter (serves s (Some number)) blocks) (filter (serves s (Some number)) blocks)) 0)) is in
        omega (arith, was, now, later, served)
    by true is (suc i) e more =
        let place = place-more s number before block true is in
        let count = count-more number taken in
        let was = own-unused s number taken before block true is (lt-is (place_of s number before) (taken_before number taken) (omega (arith, e))) in
        let now = own-unused s number (number ∷ taken) before block true is (lt-is (place_of s number before) (taken_before number (number ∷ taken)) (omega (arith, e, count))) in
        let later = more i (omega (arith, e, place)) in
        let served = ap (λ (b : Bool). actions_of (slice_get (cond b (block ∷ filter (serves s (Some number)) blocks) (filter (serves s (Some number)) blocks)) (suc i))) is in
        omega (arith, was, now, later, served)
    by false is j e more =
        let place = place-more s number before block false is in
        let here = other-unused s number taken before block is in
        let later = more j (omega (arith, e, place)) in
        let served = ap (λ (b : Bool). actions_of (slice_get (cond b (block ∷ filter (serves s (Some number)) blocks) (filter (serves s (Some number)) blocks)) j)) is in
        omega (arith, here, later, served)

-- All blocks

-- the first main of a side, and its handlers, are among its blocks
abbrev first_main : Side → List Block → ℕ
first_main s blocks = actions_of (slice_get (filter (serves s None) blocks) 0)

unused-few : (s : Side) (before : List Block) (block : Block) → unused_at s [] before block ≤ block_actions s block
unused-few s before block = by (same_side block.side s) (is_unused_for s [] before block.handles)
  where
    by : (b c : Bool) → cond (b && c) (length block.actions) 0 ≤ (if b then length block.actions else 0)
    by true true = omega arith
    by true false = omega arith
    by false c = omega arith

main-served : (s : Side) (before : List Block) (block : Block) → serves s None block ≡ true → (unused_at s [] before block ≡ 0) × (block_actions s block ≡ length block.actions)
main-served s before block e = by (same_side block.side s) refl block.handles refl e
  where
    by : (b : Bool) → same_side block.side s ≡ b → (h : Option ℕ) → block.handles ≡ h → (b && is_number h None) ≡ true → (unused_at s [] before block ≡ 0) × (block_actions s block ≡ length block.actions)
    by true is None none k = (
      ap (λ (o : Option ℕ). cond (same_side block.side s && is_unused_for s [] before o) (length block.actions) 0) none ∙ ap (λ (b : Bool). cond (b && false) (length block.actions) 0) is,
      ap (λ (b : Bool). if b then length block.actions else 0) is,
    )
    by true is (Some m) some k = absurd (false≢true k)
    by false is h some k = absurd (false≢true k)

mains-first : (s : Side) (before blocks : List Block) → first_main s blocks + unused s [] before blocks ≤ actions_in s blocks
mains-first s before [] = omega arith
mains-first s before (block ∷ blocks) = by (serves s None block) refl (mains-first s (before ++ block ∷ []) blocks)
  where
    by : (b : Bool) → serves s None block ≡ b → first_main s blocks + unused s [] (before ++ block ∷ []) blocks ≤ actions_in s blocks → first_main s (block ∷ blocks) + unused s [] before (block ∷ blocks) ≤ actions_in s (block ∷ blocks)
    by true is more =
        let first : first_main s (block ∷ blocks) ≡ length block.actions = ap (λ (b : Bool). actions_of (slice_get (cond b (block ∷ filter (serves s None) blocks) (filter (serves s None) blocks)) 0)) is in
        let own = main-served s before block is in
        let none = own.0 in
        let all = own.1 in
        omega (arith, first, none, all, more)
    by false is more =
        let first : first_main s (block ∷ blocks) ≡ first_main s blocks = ap (λ (b : Bool). actions_of (slice_get (cond b (block ∷ filter (serves s None) blocks) (filter (serves s None) blocks)) 0)) is in
        let few = unused-few s before block in
        omega (arith, first, few, more)

-- All requests

served-once : (script : Script) (s : Side) (taken : List ℕ) → actions_served script s taken + unused s taken [] script.blocks ≤ unused s [] [] script.blocks + actions_again script s taken
served-once script s [] = omega arith
served-once script s (number ∷ taken) =
    by (nat_lt (taken_before number taken) (block_count script s number)) refl (served-once script s taken) (unused-next s number (taken_before number taken) taken [] script.blocks (omega arith))
  where
    by : (b : Bool) → nat_lt (taken_before number taken) (block_count script s number) ≡ b
        → actions_served script s taken + unused s taken [] script.blocks ≤ unused s [] [] script.blocks + actions_again script s taken
        → unused s taken [] script.blocks ≡ unused s (number ∷ taken) [] script.blocks + actions_of (slice_get (blocks_for script s (Some number)) (taken_before number taken))
        → actions_served script s (number ∷ taken) + unused s (number ∷ taken) [] script.blocks ≤ unused s [] [] script.blocks + actions_again script s (number ∷ taken)
    by true is before next =
        let few : taken_before number taken < block_count script s number = (Decides-ltb (taken_before number taken) (block_count script s number)).0 is in
        let place : min (taken_before number taken) (block_count script s number - 1) ≡ taken_before number taken = omega (arith, few) in
        let served = ap (λ (k : ℕ). actions_of (slice_get (blocks_for script s (Some number)) k)) place in
        let again = ap (λ (b : Bool). (if b then 0 else actions_for script s number (taken_before number taken)) + actions_again script s taken) is in
        omega (arith, before, next, served, again)
    by false is before next =
        let again = ap (λ (b : Bool). (if b then 0 else actions_for script s number (taken_before number taken)) + actions_again script s taken) is in
        omega (arith, before, next, again)

pub blocks_serve_once : BlocksServeOnce
blocks_serve_once script s taken =
    let first = mains-first s [] script.blocks in
    let once = served-once script s taken in
    omega (arith, first, once)

-- If the last block of each message has no actions, blocks that serve again do nothing.
pub again-silent : (script : Script) → ServesAgainWithoutActions script → (s : Side) (taken : List ℕ) → actions_again script s taken ≡ 0
again-silent script silent s [] = refl
again-silent script silent s (number ∷ taken) = by (nat_lt (taken_before number taken) (block_count script s number)) refl (again-silent script silent s taken)
  where
    by : (b : Bool) → nat_lt (taken_before number taken) (block_count script s number) ≡ b → actions_again script s taken ≡ 0 → actions_again script s (number ∷ taken) ≡ 0
    by true is before =
        let again = ap (λ (b : Bool). (if b then 0 else actions_for script s number (taken_before number taken)) + actions_again script s taken) is in
        omega (arith, before, again)
    by false is before =
        let last : block_count script s number ≤ taken_before number taken = ltb-false (taken_before number taken) (block_count script s number) is in
        let place : min (taken_before number taken) (block_count script s number - 1) ≡ block_count script s number - 1 = omega (arith, last) in
        let served = ap (λ (k : ℕ). actions_of (slice_get (blocks_for script s (Some number)) k)) place ∙ silent s number in
        let again = ap (λ (b : Bool). (if b then 0 else actions_for script s number (taken_before number taken)) + actions_again script s taken) is in
        omega (arith, before, served, again)
