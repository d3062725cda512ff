-- A loop that lets the actors of a subtree fall one by one.
use Rattle.std.proofs.Common.{◌≡◌, ◌≢◌, ℕ, ℤ, suc, ◌+◌, ◌-◌, ◌<◌, ◌≤◌, Bool, true, false, not, ◌&&◌, cond, List, [], ◌∷◌, ◌++◌, map, length, Option, Some, None, is_some, refl, ap, sym, ◌∙◌, subst, arith, append_assoc, append-nil}
use Rattle.std.specs.List.{find, filter, flat_map}
use Rattle.std.specs.Ordering.{int_eq}
use Rattle.std.proofs.lemmas.List.{map-append}
use Rattle.std.proofs.lemmas.Bool.{false≢true}
use Rattle.std.proofs.lemmas.Bool.Decides.{Decides-int_eq}
use Rattle.actor_tree.specs.declared.actor.Actor.{Actor}
use Rattle.actor_tree.specs.Fall.{below, post_order, others}
use Rattle.actor_tree.specs.Laws.{EachOnce}
use Rattle.actor_tree.specs.Tree.{lives, without}
use Rattle.ipdl_base.specs.declared.line.Line.{Line}
use Rattle.ipdl_base.specs.declared.line.What.{What}
use Rattle.ipdl_base.specs.declared.line.What.TheVariants as what
use Rattle.ipdl_base.specs.declared.kinds.Destroy.{Destroy}
use Rattle.ipdl_base.specs.declared.kinds.Reason.{Reason}
use Rattle.ipdl_base.specs.declared.kinds.Reason.TheVariants.{ActorDestroyed}
use Rattle.ipdl_base.specs.declared.kinds.Side.{Side}
use Rattle.promise_table.specs.Promises.{is_pending, is_pending_of}
use Rattle.channel_model.specs.Ends.{PromiseEntry}
use Rattle.channel_model.specs.Falls.{passes, rejections, rejected, rejected_entry, fall_lines}
use Rattle.channel_model.specs.Outputs.{line_at}
use Rattle.end_steps.specs.Rejections.{HasRejected}
use Rattle.end_steps.specs.Falls.{HasFallen}
use Rattle.end_parts.specs.OutputView.{OutputView, with_line}
use Rattle.end_parts.specs.PromiseRequests.{pending_in}

-- Ids

true_here : (a : ℤ) → int_eq a a ≡ true
true_here a = (Decides-int_eq a a).1 refl

swaps_at : (a b : ℤ) (s t : Bool) → int_eq a b ≡ s → int_eq b a ≡ t → s ≡ t
swaps_at a b true true e f = refl
swaps_at a b false false e f = refl
swaps_at a b true false e f = let same : a ≡ b = (Decides-int_eq a b).0 e in sym ((Decides-int_eq b a).1 (sym same)) ∙ f
swaps_at a b false true e f = let same : b ≡ a = (Decides-int_eq b a).0 f in sym e ∙ (Decides-int_eq a b).1 (sym same)

int_eq-swaps : (a b : ℤ) → int_eq a b ≡ int_eq b a
int_eq-swaps a b = swaps_at a b (int_eq a b) (int_eq b a) refl refl

-- Who falls lives

later_at : (b : Bool) (a : Actor) (found : Option Actor) → is_some found ≡ true → is_some (cond b (Some a) found) ≡ true
later_at true a found h = refl
later_at false a found h = h

append_at : (b : Bool) (z : Actor) (f g : Option Actor) (goal : Bool) → is_some (cond b (Some z) f) ≡ true → (is_some (cond b (Some z) g) ≡ true → goal ≡ true) → (is_some f ≡ true → (is_some g ≡ true → goal ≡ true) → goal ≡ true) → goal ≡ true
append_at true z f g goal h left rest = left refl
append_at false z f g goal h left rest = rest h left

-- who lives among two lists lives in one of them
in_append : (x : ℤ) (xs ys : List Actor) (goal : Bool) → lives x (xs ++ ys) ≡ true → (lives x xs ≡ true → goal ≡ true) → (lives x ys ≡ true → goal ≡ true) → goal ≡ true
in_append x [] ys goal h left right = right h
in_append x (z ∷ zs) ys goal h left right =
    append_at (int_eq z.id x) z (find (λ a. int_eq a.id x) (zs ++ ys)) (find (λ a. int_eq a.id x) zs) goal h left (λ m l. in_append x zs ys goal m l right)

-- the first, or who is found after it
first_or : (b : Bool) (a : Actor) (f : Option Actor) (found : Option Actor) → is_some (cond b (Some a) f) ≡ true → (is_some f ≡ true → is_some found ≡ true) → is_some (cond b (Some a) found) ≡ true
first_or true a f found h k = refl
first_or false a f found h k = k h

below_at : (x : ℤ) (b : Bool) (a : Actor) (later here there : List Actor) → lives x (cond b (here ++ a ∷ there) there) ≡ true → (lives x here ≡ true → lives x later ≡ true) → (lives x there ≡ true → lives x later ≡ true) → lives x (a ∷ later) ≡ true
below_at x true a later here there h below_a below_m =
    in_append x here (a ∷ there) (lives x (a ∷ later)) h (λ l. later_at (int_eq a.id x) a (find (λ z. int_eq z.id x) later) (below_a l))
    (λ l. first_or (int_eq a.id x) a (find (λ z. int_eq z.id x) there) (find (λ z. int_eq z.id x) later) l below_m)
below_at x false a later here there h below_a below_m = later_at (int_eq a.id x) a (find (λ z. int_eq z.id x) later) (below_m h)

lives_below : (x m : ℤ) (actors : List Actor) → lives x (below m actors) ≡ true → lives x actors ≡ true
lives_below x m [] h = h
lives_below x m (a ∷ later) h = below_at x (int_eq a.manager m) a later (below a.id later) (below m later) h (lives_below x a.id later) (lives_below x m later)

subtree_at : (x : ℤ) (b : Bool) (a : Actor) (later here there : List Actor) → lives x (cond b (here ++ a ∷ []) there) ≡ true → (lives x here ≡ true → lives x later ≡ true) → (lives x there ≡ true → lives x later ≡ true) → lives x (a ∷ later) ≡ true
subtree_at x true a later here there h below_a rest =
    in_append x here (a ∷ []) (lives x (a ∷ later)) h (λ l. later_at (int_eq a.id x) a (find (λ z. int_eq z.id x) later) (below_a l))
    (λ l. first_or (int_eq a.id x) a None (find (λ z. int_eq z.id x) later) l (λ e. absurd (false≢true e)))
subtree_at x false a later here there h below_a rest = later_at (int_eq a.id x) a (find (λ z. int_eq z.id x) later) (rest h)

-- who is of a subtree lives
lives_subtree : (x id : ℤ) (actors : List Actor) → lives x (post_order id actors) ≡ true → lives x actors ≡ true
lives_subtree x id [] h = h
lives_subtree x id (a ∷ later) h = subtree_at x (int_eq a.id id) a later (below id later) (post_order id later) h (lives_below x id later) (lives_subtree x id later)

first_lives : (id : ℤ) (actors : List Actor) (a : Actor) (rest : List Actor) → post_order id actors ≡ a ∷ rest → lives a.id actors ≡ true
first_lives id actors a rest e =
    let there : lives a.id (a ∷ rest) ≡ true = rw (true_here a.id) refl in
    lives_subtree a.id id actors (ap (lives a.id) e ∙ there)

no_longer_at : (b : Bool) (a : Actor) (xs : List Actor) (n : ℕ) → length xs ≤ n → length (cond (not b) (a ∷ xs) xs) ≤ suc n
no_longer_at true a xs n h = omega arith
no_longer_at false a xs n h = omega arith

no_longer : (x : ℤ) (actors : List Actor) → length (without x actors) ≤ length actors
no_longer x [] = omega arith
no_longer x (a ∷ actors) = no_longer_at (int_eq a.id x) a (without x actors) (length actors) (no_longer x actors)

shorter_at : (b : Bool) (a : Actor) (xs : List Actor) (f : Option Actor) (n : ℕ) → is_some (cond b (Some a) f) ≡ true → length xs ≤ n → (is_some f ≡ true → length xs < n) → length (cond (not b) (a ∷ xs) xs) < suc n
shorter_at true a xs f n h most rest = omega arith
shorter_at false a xs f n h most rest = let l : length xs < n = rest h in omega arith

shorter : (x : ℤ) (actors : List Actor) → lives x actors ≡ true → length (without x actors) < length actors
shorter x [] h = absurd (false≢true h)
shorter x (a ∷ actors) h = shorter_at (int_eq a.id x) a (without x actors) (find (λ z. int_eq z.id x) actors) (length actors) h (no_longer x actors) (shorter x actors)

-- Who is left

left_at : (k : Bool) (x a : Actor) (rest xs ys zs : List Actor) → int_eq x.id a.id ≡ k → int_eq a.id x.id ≡ k → filter (λ (z : Actor). not (lives z.id rest)) xs ≡ zs
    → filter (λ (z : Actor). not (lives z.id rest)) (cond (not (int_eq x.id a.id)) (x ∷ xs) xs) ≡ cond (not (is_some (cond (int_eq a.id x.id) (Some a) (find (λ z. int_eq z.id x.id) rest)))) (x ∷ zs) zs
left_at true x a rest xs ys zs e f h = rw (e, f) h
left_at false x a rest xs ys zs e f h = rw (e, f) (ap (λ (ws : List Actor). cond (not (lives x.id rest)) (x ∷ ws) ws) h)

others_less : (a : Actor) (rest actors : List Actor) → others rest (without a.id actors) ≡ others (a ∷ rest) actors
others_less a rest [] = refl
others_less a rest (x ∷ actors) =
    left_at (int_eq x.id a.id) x a rest (without a.id actors) [] (others (a ∷ rest) actors) refl (int_eq-swaps a.id x.id) (others_less a rest actors)

others_none : (actors : List Actor) → others [] actors ≡ actors
others_none [] = refl
others_none (a ∷ actors) = ap (λ (xs : List Actor). a ∷ xs) (others_none actors)

-- Their promises

entry_at : (q k l : Bool) (reason : Reason) (e : PromiseEntry) (test : Bool) → is_pending e.promise ≡ q → k ≡ l
    → cond (is_pending (cond (q && (k && q)) (rejected_entry reason e) e).promise && test) (rejected_entry reason (cond (q && (k && q)) (rejected_entry reason e) e)) (cond (q && (k && q)) (rejected_entry reason e) e)
    ≡ cond (q && cond l true test) (rejected_entry reason e) e
entry_at true true true reason e test p same = refl
entry_at true true false reason e test p same = absurd (false≢true (sym same))
entry_at true false true reason e test p same = absurd (false≢true same)
entry_at true false false reason e test p same = rw p refl
entry_at false true l reason e test p same = rw p refl
entry_at false false l reason e test p same = rw p refl

some_cond : (b : Bool) (a : Actor) (f : Option Actor) → is_some (cond b (Some a) f) ≡ cond b true (is_some f)
some_cond true a f = refl
some_cond false a f = refl

abbrev kept_or : Bool → Reason → PromiseEntry → PromiseEntry
kept_or b reason e = cond b (rejected_entry reason e) e

rejected_less : (a : Actor) (rest : List Actor) (reason : Reason) (es : List PromiseEntry)
    → rejected (λ p. lives p.actor rest) reason (rejected (is_pending_of a.id) reason es) ≡ rejected (λ p. lives p.actor (a ∷ rest)) reason es
rejected_less a rest reason [] = refl
rejected_less a rest reason (e ∷ es) =
    let actor = e.promise.actor in
    let pends = is_pending e.promise in
    let mid : PromiseEntry = kept_or (pends && (int_eq actor a.id && pends)) reason e in
    let tail : List PromiseEntry = rejected (λ p. lives p.actor rest) reason (rejected (is_pending_of a.id) reason es) in
    let here : kept_or (is_pending mid.promise && lives actor rest) reason mid ≡ kept_or (pends && cond (int_eq a.id actor) true (lives actor rest)) reason e =
    entry_at pends (int_eq actor a.id) (int_eq a.id actor) reason e (lives actor rest) refl (int_eq-swaps actor a.id) in
    let there : kept_or (pends && cond (int_eq a.id actor) true (lives actor rest)) reason e ≡ kept_or (pends && lives actor (a ∷ rest)) reason e =
    ap (λ (b : Bool). kept_or (pends && b) reason e) (sym (some_cond (int_eq a.id actor) a (find (λ z. int_eq z.id actor) rest))) in
    let moved : passes (λ p. lives p.actor rest) mid ≡ (is_pending mid.promise && lives actor rest) = moves (pends && (int_eq actor a.id && pends)) e rest reason in
    ap (λ (b : Bool). kept_or b reason mid ∷ tail) moved
    ∙ ap (λ (x : PromiseEntry). x ∷ tail) (here ∙ there)
    ∙ ap (λ (xs : List PromiseEntry). kept_or (pends && lives actor (a ∷ rest)) reason e ∷ xs) (rejected_less a rest reason es) where
      moves : (b : Bool) (e : PromiseEntry) (rest : List Actor) (reason : Reason) → passes (λ p. lives p.actor rest) (kept_or b reason e) ≡ (is_pending (kept_or b reason e).promise && lives e.promise.actor rest)
      moves true e rest reason = refl
      moves false e rest reason = refl

rejected_none : (reason : Reason) (es : List PromiseEntry) → rejected (λ p. lives p.actor []) reason es ≡ es
rejected_none reason [] = refl
rejected_none reason (e ∷ es) = rw (none (is_pending e.promise)) (ap (λ (xs : List PromiseEntry). e ∷ xs) (rejected_none reason es)) where
  none : (b : Bool) → b && false ≡ false
  none true = refl
  none false = refl

-- Their lines

-- of an actor's rejected promises none is another's
another_at : (q k l : Bool) (reason : Reason) (e : PromiseEntry) → is_pending e.promise ≡ q → (k ≡ true → l ≡ true → ⊥)
    → is_pending (kept_or (q && (k && q)) reason e).promise && (l && is_pending (kept_or (q && (k && q)) reason e).promise) ≡ q && (l && q)
another_at true true true reason e p apart = absurd (apart refl refl)
another_at true true false reason e p apart = refl
another_at true false l reason e p apart = rw p refl
another_at false true l reason e p apart = rw p refl
another_at false false l reason e p apart = rw p refl

same_seq : (b : Bool) (reason : Reason) (e : PromiseEntry) → (kept_or b reason e).promise.seq ≡ e.promise.seq
same_seq true reason e = refl
same_seq false reason e = refl

same_actor : (b : Bool) (reason : Reason) (e : PromiseEntry) → (kept_or b reason e).promise.actor ≡ e.promise.actor
same_actor true reason e = refl
same_actor false reason e = refl

filtered_at : (b : Bool) (x y : PromiseEntry) (xs ys : List PromiseEntry) (reason : Reason) → x.promise.seq ≡ y.promise.seq
    → map (λ (z : PromiseEntry). what.Rejected z.promise.seq reason) xs ≡ map (λ (z : PromiseEntry). what.Rejected z.promise.seq reason) ys
    → map (λ (z : PromiseEntry). what.Rejected z.promise.seq reason) (cond b (x ∷ xs) xs) ≡ map (λ (z : PromiseEntry). what.Rejected z.promise.seq reason) (cond b (y ∷ ys) ys)
filtered_at true x y xs ys reason e h = cc
filtered_at false x y xs ys reason e h = h

others_rejections : (a b : ℤ) → a ≢ b → (reason : Reason) (es : List PromiseEntry) → rejections (is_pending_of b) reason (rejected (is_pending_of a) reason es) ≡ rejections (is_pending_of b) reason es
others_rejections a b n reason [] = refl
others_rejections a b n reason (e ∷ es) =
    let actor = e.promise.actor in
    let pends = is_pending e.promise in
    let gone : Bool = pends && (int_eq actor a && pends) in
    let mid : PromiseEntry = kept_or gone reason e in
    let xs : List PromiseEntry = filter (passes (is_pending_of b)) (rejected (is_pending_of a) reason es) in
    let ys : List PromiseEntry = filter (passes (is_pending_of b)) es in
    let apart : int_eq actor a ≡ true → int_eq actor b ≡ true → ⊥ = λ h k. n (sym ((Decides-int_eq actor a).0 h) ∙ (Decides-int_eq actor b).0 k) in
    let moved : passes (is_pending_of b) mid ≡ (is_pending mid.promise && (int_eq actor b && is_pending mid.promise)) = ap (λ (z : ℤ). is_pending mid.promise && (int_eq z b && is_pending mid.promise)) (same_actor gone reason e) in
    let test : passes (is_pending_of b) mid ≡ passes (is_pending_of b) e = moved ∙ another_at pends (int_eq actor a) (int_eq actor b) reason e refl apart in
    ap (λ (t : Bool). map (λ (z : PromiseEntry). what.Rejected z.promise.seq reason) (cond t (mid ∷ xs) xs)) test
    ∙ filtered_at (passes (is_pending_of b) e) mid e xs ys reason (same_seq gone reason e) (others_rejections a b n reason es)

lives_not : (a b : Actor) (rest : List Actor) → lives a.id (b ∷ rest) ≡ false → (a.id ≢ b.id) × (lives a.id rest ≡ false)
lives_not a b rest h = at (int_eq b.id a.id) refl (find (λ z. int_eq z.id a.id) rest) h where
  at : (k : Bool) → int_eq b.id a.id ≡ k → (f : Option Actor) → is_some (cond k (Some b) f) ≡ false → (a.id ≢ b.id) × (is_some f ≡ false)
  at true e f h = absurd (false≢true (sym h))
  at false e f h = (λ same. false≢true (sym e ∙ (Decides-int_eq b.id a.id).1 (sym same)), h)

others_lines : (a : Actor) (rest : List Actor) (why : ℤ → Destroy) (es : List PromiseEntry) → lives a.id rest ≡ false
    → flat_map (fall_lines why (rejected (is_pending_of a.id) ActorDestroyed es)) rest ≡ flat_map (fall_lines why es) rest
others_lines a [] why es h = refl
others_lines a (b ∷ rest) why es h =
    let apart = lives_not a b rest h in
    ap (λ (ws : List What). (ws ++ what.Fall b.id (why b.id) ∷ []) ++ flat_map (fall_lines why (rejected (is_pending_of a.id) ActorDestroyed es)) rest) (others_rejections a.id b.id apart.0 ActorDestroyed es)
    ∙ ap (λ (ws : List What). fall_lines why es b ++ ws) (others_lines a rest why es apart.1)

-- The loop

-- What holds while a subtree falls.
pub record IsFalling (side : Side) (id : ℤ) (why : ℤ → Destroy) (actors : List Actor) (promises : List PromiseEntry) (out : OutputView) (actors' : List Actor) (promises' : List PromiseEntry) (out' : OutputView) : Type 0 where
  pub same : out' ≡ record out { lines = out'.lines; line_spare = out'.line_spare }
  pub said : out'.lines ++ map (line_at side) (flat_map (fall_lines why promises') (post_order id actors')) ≡ out.lines ++ map (line_at side) (flat_map (fall_lines why promises) (post_order id actors))
  pub rejected : rejected (λ p. lives p.actor (post_order id actors')) ActorDestroyed promises' ≡ rejected (λ p. lives p.actor (post_order id actors)) ActorDestroyed promises
  pub left : others (post_order id actors') actors' ≡ others (post_order id actors) actors
  pub once : EachOnce (post_order id actors')
  pub room : out.line_spare + (length actors' + pending_in promises') ≤ out'.line_spare + (length actors + pending_in promises)
  pub fewer : length actors' + pending_in promises' ≤ length actors + pending_in promises

-- an actor is the next to fall
pub record FallsNext (id : ℤ) (actors : List Actor) (a : Actor) (after : List Actor) : Type 0 where
  pub next : post_order id actors ≡ a ∷ post_order id after
  pub left : after ≡ without a.id actors

pub is_shorter : (id : ℤ) (actors : List Actor) (a : Actor) (after : List Actor) → FallsNext id actors a after → length after < length actors
is_shorter id actors a after h = rw h.left (shorter a.id actors (first_lives id actors a (post_order id after) h.next))

pub falling_goes_on : (side : Side) (id : ℤ) (why : ℤ → Destroy) (actors : List Actor) (promises : List PromiseEntry) (out : OutputView) (actors' : List Actor) (promises' : List PromiseEntry) (out' : OutputView)
    → (a : Actor) (after : List Actor) (promises'' : List PromiseEntry) (out'' out''' : OutputView)
    → length actors + pending_in promises ≤ out.line_spare → IsFalling side id why actors promises out actors' promises' out' → FallsNext id actors' a after → HasRejected side (is_pending_of a.id) ActorDestroyed promises' out' promises'' out''
    → out''' ≡ with_line out'' (line_at side (what.Fall a.id (why a.id))) → IsFalling side id why actors promises out after promises'' out'''
falling_goes_on side id why actors promises out actors' promises' out' a after promises'' out'' out''' enough so_far falls has says =
    let rest : List Actor = post_order id after in
    let once : EachOnce (a ∷ rest) = subst EachOnce falls.next so_far.once in
    let rejects : List What = rejections (is_pending_of a.id) ActorDestroyed promises' in
    let fall : Line = line_at side (what.Fall a.id (why a.id)) in
    let lines : out''.lines ≡ out'.lines ++ map (line_at side) rejects = ap (λ (o : OutputView). o.lines) has.said in
    let others_said : flat_map (fall_lines why promises'') rest ≡ flat_map (fall_lines why promises') rest =
    ap (λ (es : List PromiseEntry). flat_map (fall_lines why es) rest) has.rejected ∙ others_lines a rest why promises' once.0 in
    let now_less : length after < length actors' = is_shorter id actors' a after falls in
    rw says (record {
      same = ap (λ (o : OutputView). with_line o fall) (has.said ∙ ap (λ (o : OutputView). record o { lines = out'.lines ++ map (line_at side) rejects; line_spare = out''.line_spare }) so_far.same) ∙ ap (λ (ls : List Line). record out { lines = ls ++ fall ∷ []; line_spare = out''.line_spare - 1 }) (sym lines);
      said =
          ap (λ (ws : List What). (out''.lines ++ fall ∷ []) ++ map (line_at side) ws) others_said
          ∙ ap (λ (ls : List Line). (ls ++ fall ∷ []) ++ map (line_at side) (flat_map (fall_lines why promises') rest)) lines
          ∙ joins side out'.lines rejects (what.Fall a.id (why a.id)) (flat_map (fall_lines why promises') rest)
          ∙ ap (λ (zs : List Actor). out'.lines ++ map (line_at side) (flat_map (fall_lines why promises') zs)) (sym falls.next)
          ∙ so_far.said;
      rejected =
          ap (λ (es : List PromiseEntry). rejected (λ p. lives p.actor rest) ActorDestroyed es) has.rejected
          ∙ rejected_less a rest ActorDestroyed promises'
          ∙ ap (λ (zs : List Actor). rejected (λ p. lives p.actor zs) ActorDestroyed promises') (sym falls.next)
          ∙ so_far.rejected;
      left =
          ap (others rest) falls.left
          ∙ others_less a rest actors'
          ∙ ap (λ (zs : List Actor). others zs actors') (sym falls.next)
          ∙ so_far.left;
      once = once.1;
      room = omega (arith, so_far.room, has.spare, has.fewer, now_less, enough, so_far.fewer);
      fewer = omega (arith, so_far.fewer, has.fewer, now_less);
    }) where
      joins : (side : Side) (ls : List Line) (rejects : List What) (fall : What) (rest : List What) → ((ls ++ map (line_at side) rejects) ++ line_at side fall ∷ []) ++ map (line_at side) rest ≡ ls ++ map (line_at side) ((rejects ++ fall ∷ []) ++ rest)
      joins side ls rejects fall rest = simp (map-append, append_assoc)

pub falling_ends : (side : Side) (id : ℤ) (why : ℤ → Destroy) (actors : List Actor) (promises : List PromiseEntry) (out : OutputView) (actors' : List Actor) (promises' : List PromiseEntry) (out' : OutputView)
    → IsFalling side id why actors promises out actors' promises' out' → post_order id actors' ≡ [] → HasFallen side id why actors promises out actors' promises' out'
falling_ends side id why actors promises out actors' promises' out' so_far over = record {
  left = sym (others_none actors') ∙ ap (λ (zs : List Actor). others zs actors') (sym over) ∙ so_far.left;
  rejected = sym (rejected_none ActorDestroyed promises') ∙ ap (λ (zs : List Actor). rejected (λ p. lives p.actor zs) ActorDestroyed promises') (sym over) ∙ so_far.rejected;
  said = so_far.same ∙ ap (λ (ls : List Line). record out { lines = ls; line_spare = out'.line_spare }) (sym (append-nil out'.lines) ∙ ap (λ (zs : List Actor). out'.lines ++ map (line_at side) (flat_map (fall_lines why promises') zs)) (sym over) ∙ so_far.said);
  room = so_far.room;
  fewer = so_far.fewer;
}
