-- The number of times that a request may still be answered, as stacks, names and what was sent change.
use Rattle.std.proofs.Common.{◌≡◌, ℕ, ◌+◌, ◌≤◌, ℤ, Bool, true, false, not, ◌&&◌, ◌||◌, cond, if◌then◌else◌, int_eq, List, [], ◌∷◌, drop, filter, find, map, Option, Some, None, option_map, option_and_then, ◌==◌, refl, sym, ap, subst, ◌∙◌, arith}
use Rattle.std.specs.List.{AllByRecursion}
use Rattle.std.proofs.lemmas.Option.{same_Some}
use Rattle.ipdl_base.specs.declared.schema.Schema.{Schema}
use Rattle.nesting_core.specs.declared.frame.Answer.{Answer}
use Rattle.nesting_core.specs.declared.frame.Head.{Head}
use Rattle.nesting_core.specs.declared.frame.StackFrame.{StackFrame}
use Rattle.nesting_core.specs.declared.frame.StackFrame.TheVariants.{Dispatch, Wait}
use Rattle.nesting_core.specs.Answers.{with_answer}
use Rattle.nesting_core.specs.Frames.{head_of, is_dispatch}
use Rattle.channel_model.specs.Answers as answering
use Rattle.channel_model.specs.Deliveries as delivery
use Rattle.channel_model.specs.Ends.{StackEntry, Naming, NameContent, actor, resolver, Resolver}
use Rattle.channel_model.specs.Names.{has_name, held_by_name, without_name}
use Rattle.channel_model.specs.Parts.{HoldsActor}
use Rattle.channel_laws.specs.AnswersOnce.{owes_answer, holds_resolver_of, names_resolver, AnswersOneWay}
use Rattle.channel_laws.specs.Counts.{one_if, how_many}

-- Frames

abbrev owed : ℤ → List StackEntry → ℕ
owed n stack = how_many (owes_answer n) stack

pub drop-fewer : (n : ℤ) (stack : List StackEntry) → owed n (drop 1 stack) ≤ owed n stack
drop-fewer n [] = omega arith
drop-fewer n (entry ∷ stack) = omega arith

pub drop-keeps : (schema : Schema) (stack : List StackEntry) → AllByRecursion (AnswersOneWay schema) stack → AllByRecursion (AnswersOneWay schema) (drop 1 stack)
drop-keeps schema [] h = tt
drop-keeps schema (entry ∷ stack) h = h.1

same-entries : (stack : List StackEntry) → delivery.with_frames (map (λ (x : StackEntry). x.frame) stack) stack ≡ stack
same-entries [] = refl
same-entries (x ∷ xs) = ap (λ (ys : List StackEntry). x ∷ ys) (same-entries xs)

-- whether a frame owes an answer does not depend on the answer that it waits for
frame-owes : (n : ℤ) (entry : StackEntry) (f : StackFrame) → entry.frame ≡ f → owes_answer n (record entry { frame = f }) ≡ owes_answer n entry
frame-owes n entry f is = ap (λ (g : StackFrame). owes_answer n (record entry { frame = g })) (sym is)

wait-owes : (n : ℤ) (entry : StackEntry) (head : Head) (a : Option Answer) → entry.frame ≡ Wait head a → owes_answer n entry ≡ false
wait-owes n entry head a is = ap (λ (g : StackFrame). owes_answer n (record entry { frame = g })) is

pub answered-owed : (n : ℤ) (a : Answer) (stack : List StackEntry) → owed n (delivery.with_frames (with_answer a (map (λ (x : StackEntry). x.frame) stack)) stack) ≡ owed n stack
answered-owed n a [] = refl
answered-owed n a (x ∷ xs) = by x.frame refl (answered-owed n a xs)
  where
    frames : List StackFrame
    frames = map (λ (y : StackEntry). y.frame) xs

    by : (f : StackFrame) → x.frame ≡ f → owed n (delivery.with_frames (with_answer a frames) xs) ≡ owed n xs → owed n (delivery.with_frames (with_answer a (f ∷ frames)) (x ∷ xs)) ≡ owed n (x ∷ xs)
    by (Dispatch head) is rec = ap (λ (b : Bool). one_if b + owed n (delivery.with_frames (with_answer a frames) xs)) (frame-owes n x (Dispatch head) is) ∙ ap (λ (k : ℕ). one_if (owes_answer n x) + k) rec
    by (Wait head None) is rec = ap (λ (ys : List StackEntry). 0 + owed n ys) (same-entries xs) ∙ ap (λ (b : Bool). one_if b + owed n xs) (sym (wait-owes n x head None is))
    by (Wait head (Some b)) is rec = ap (λ (c : Bool). one_if c + owed n (delivery.with_frames (with_answer a frames) xs)) (frame-owes n x (Wait head (Some b)) is) ∙ ap (λ (k : ℕ). one_if (owes_answer n x) + k) rec

failed-frame : (n : ℤ) (x : StackEntry) (f : StackFrame) → x.frame ≡ f → owes_answer n (record x { frame = delivery.failed f }) ≡ owes_answer n x
failed-frame n x (Dispatch head) is = frame-owes n x (Dispatch head) is
failed-frame n x (Wait head None) is = sym (wait-owes n x head None is)
failed-frame n x (Wait head (Some a)) is = frame-owes n x (Wait head (Some a)) is

pub failed-owed : (n : ℤ) (stack : List StackEntry) → owed n (map delivery.with_failed_wait stack) ≡ owed n stack
failed-owed n [] = refl
failed-owed n (x ∷ xs) = ap (λ (b : Bool). one_if b + owed n (map delivery.with_failed_wait xs)) (failed-frame n x x.frame refl) ∙ ap (λ (k : ℕ). one_if (owes_answer n x) + k) (failed-owed n xs)

-- Resolvers of frames

module _ (schema : Schema) where
  abbrev Entries : List StackEntry → Type 0
  Entries stack = AllByRecursion (AnswersOneWay schema) stack

  released-way : (b : Bool) (x : StackEntry) → AnswersOneWay schema x → AnswersOneWay schema (if b then record x { resolves = false } else x)
  released-way true x h = record { is_sync = h.is_sync; resolves = λ is. cc }
  released-way false x h = h

  pub released-keeps : (seq : ℤ) (stack : List StackEntry) → Entries stack → Entries (answering.released seq stack)
  released-keeps seq [] h = tt
  released-keeps seq (x ∷ xs) h = (released-way (answering.has_resolver seq x) x h.0, released-keeps seq xs h.1)

  frame-way : (x : StackEntry) (f : StackFrame) → x.frame ≡ f → AnswersOneWay schema x → AnswersOneWay schema (record x { frame = f })
  frame-way x f is h = subst (λ (g : StackFrame). AnswersOneWay schema (record x { frame = g })) is h

  wait-way : (x : StackEntry) (head : Head) (a b : Option Answer) → x.frame ≡ Wait head a → AnswersOneWay schema x → AnswersOneWay schema (record x { frame = Wait head b })
  wait-way x head a b is h = let k : AnswersOneWay schema (record x { frame = Wait head a }) = frame-way x (Wait head a) is h in record { is_sync = λ row dispatch found. cc; resolves = k.resolves }

  pub answered-keeps : (a : Answer) (stack : List StackEntry) → Entries stack → Entries (delivery.with_frames (with_answer a (map (λ (x : StackEntry). x.frame) stack)) stack)
  answered-keeps a [] h = tt
  answered-keeps a (x ∷ xs) h = by x.frame refl (answered-keeps a xs h.1)
    where
      frames : List StackFrame
      frames = map (λ (y : StackEntry). y.frame) xs

      by : (f : StackFrame) → x.frame ≡ f → Entries (delivery.with_frames (with_answer a frames) xs) → Entries (delivery.with_frames (with_answer a (f ∷ frames)) (x ∷ xs))
      by (Dispatch head) is rec = (frame-way x (Dispatch head) is h.0, rec)
      by (Wait head None) is rec = (wait-way x head None (Some a) is h.0, subst Entries (sym (same-entries xs)) h.1)
      by (Wait head (Some b)) is rec = (frame-way x (Wait head (Some b)) is h.0, rec)

  failed-way : (x : StackEntry) (f : StackFrame) → x.frame ≡ f → AnswersOneWay schema x → AnswersOneWay schema (record x { frame = delivery.failed f })
  failed-way x (Dispatch head) is h = frame-way x (Dispatch head) is h
  failed-way x (Wait head None) is h = wait-way x head None (Some _) is h
  failed-way x (Wait head (Some a)) is h = frame-way x (Wait head (Some a)) is h

  pub failed-keeps : (stack : List StackEntry) → Entries stack → Entries (map delivery.with_failed_wait stack)
  failed-keeps [] h = tt
  failed-keeps (x ∷ xs) h = (failed-way x x.frame refl h.0, failed-keeps xs h.1)

-- the frame whose resolver is used owes nothing more
used-bools : (d r s same found : Bool) → d && (r && found) ≡ true → (r ≡ true → s ≡ false) → one_if (d && ((false || s) && same)) + one_if same ≤ one_if (d && ((r || s) && same))
used-bools true true true same found e alone = let f : true ≡ false = alone refl in cc
used-bools true true false true found e alone = omega arith
used-bools true true false false found e alone = omega arith
used-bools true false s same found e alone = cc
used-bools false r s same found e alone = cc

released-less : (b d r s same : Bool) → one_if (if b then d && ((false || s) && same) else d && ((r || s) && same)) ≤ one_if (d && ((r || s) && same))
released-less true true true true true = omega arith
released-less true true true true false = omega arith
released-less true true true false true = omega arith
released-less true true true false false = omega arith
released-less true true false s same = omega arith
released-less true false r s same = omega arith
released-less false d r s same = omega arith

released-one : (n : ℤ) (b : Bool) (x : StackEntry) → owes_answer n (if b then record x { resolves = false } else x) ≡ (if b then is_dispatch x.frame && ((false || (head_of x.frame).sync) && int_eq (head_of x.frame).seq n) else is_dispatch x.frame && ((x.resolves || (head_of x.frame).sync) && int_eq (head_of x.frame).seq n))
released-one n true x = refl
released-one n false x = refl

pub released-fewer : (n seq : ℤ) (stack : List StackEntry) → owed n (answering.released seq stack) ≤ owed n stack
released-fewer n seq [] = omega arith
released-fewer n seq (x ∷ xs) =
    let rest = released-fewer n seq xs in
    let same = ap one_if (released-one n (answering.has_resolver seq x) x) in
    let less = released-less (answering.has_resolver seq x) (is_dispatch x.frame) x.resolves (head_of x.frame).sync (int_eq (head_of x.frame).seq n) in
    omega arith

pub used-owed : (schema : Schema) (n seq : ℤ) (r : Resolver) (stack : List StackEntry) → AllByRecursion (AnswersOneWay schema) stack → option_map answering.resolver_in (find (answering.has_resolver seq) stack) ≡ Some r → owed n (answering.released seq stack) + one_if (int_eq r.seq n) ≤ owed n stack
used-owed schema n seq r [] h e = cc
used-owed schema n seq r (x ∷ xs) h e = by (answering.has_resolver seq x) refl e (used-owed schema n seq r xs h.1)
  where
    later : Option StackEntry
    later = find (answering.has_resolver seq) xs

    rest_owed : ℕ
    rest_owed = owed n (answering.released seq xs)

    by : (b : Bool) → answering.has_resolver seq x ≡ b → option_map answering.resolver_in (cond b (Some x) later) ≡ Some r → (option_map answering.resolver_in later ≡ Some r → owed n (answering.released seq xs) + one_if (int_eq r.seq n) ≤ owed n xs)
        → (one_if (owes_answer n (if b then record x { resolves = false } else x)) + owed n (answering.released seq xs)) + one_if (int_eq r.seq n) ≤ one_if (owes_answer n x) + owed n xs
    by true is e rec =
        let same : answering.resolver_in x ≡ r = same_Some (answering.resolver_in x) r e in
        let number : one_if (int_eq (head_of x.frame).seq n) ≡ one_if (int_eq r.seq n) = ap (λ (y : Resolver). one_if (int_eq y.seq n)) same in
        let used = used-bools (is_dispatch x.frame) x.resolves (head_of x.frame).sync (int_eq (head_of x.frame).seq n) (int_eq (head_of x.frame).seq seq) is h.0.resolves in
        let fewer = released-fewer n seq xs in
        omega arith
    by false is e rec = let low = rec e in omega arith

-- Names

pub filter-fewer : {A : Type 0} (test keeps : A → Bool) (xs : List A) → how_many test (filter keeps xs) ≤ how_many test xs
filter-fewer test keeps [] = omega arith
filter-fewer {A} test keeps (x ∷ xs) = by (keeps x) (filter-fewer test keeps xs)
  where
    by : (b : Bool) → how_many test (filter keeps xs) ≤ how_many test xs → how_many test (cond b (x ∷ filter keeps xs) (filter keeps xs)) ≤ one_if (test x) + how_many test xs
    by true low = omega arith
    by false low = omega arith

abbrev named : ℤ → List Naming → ℕ
named n names = how_many (names_resolver n) names

-- the name whose resolver is used has no content any more
pub used-named : (n : ℤ) (name : List ℕ) (r : Resolver) (names : List Naming) → held_by_name name names ≡ Some (resolver r) → named n (without_name name names) + one_if (int_eq r.seq n) ≤ named n names
used-named n name r [] e = cc
used-named n name r (x ∷ xs) e = by (has_name name x) e (used-named n name r xs)
  where
    later : Option Naming
    later = find (has_name name) xs

    by : (b : Bool) → option_map (λ (naming : Naming). naming.holds) (cond b (Some x) later) ≡ Some (resolver r) → (option_map (λ (naming : Naming). naming.holds) later ≡ Some (resolver r) → named n (without_name name xs) + one_if (int_eq r.seq n) ≤ named n xs)
        → named n (cond (not b) (x ∷ without_name name xs) (without_name name xs)) + one_if (int_eq r.seq n) ≤ one_if (names_resolver n x) + named n xs
    by true e rec =
        let same : x.holds ≡ resolver r = same_Some x.holds (resolver r) e in
        let number : one_if (names_resolver n x) ≡ one_if (int_eq r.seq n) = ap (λ (h : NameContent). one_if (holds_resolver_of n h)) same in
        let fewer : named n (without_name name xs) ≤ named n xs = filter-fewer (names_resolver n) (λ naming. not (has_name name naming)) xs in
        omega arith
    by false e rec = let low = rec e in omega arith

-- names of actors are not for resolvers
pub actors-named : (n : ℤ) (more : List Naming) → AllByRecursion HoldsActor more → named n more ≡ 0
actors-named n [] h = refl
actors-named n (x ∷ xs) h = let rest = actors-named n xs h.1 in let none = by x.holds h.0 in omega arith
  where
    by : (c : NameContent) → elim c as (λ y. Type 0) [ actor id ↦ Unit {0} | resolver r ↦ ⊥ ] → one_if (holds_resolver_of n c) ≡ 0
    by (actor id) h = refl
    by (resolver r) h = absurd h

-- the resolver of a name that is used is the content that the name had
pub used-held : (number : ℕ) (r : Resolver) (held : Option NameContent) → option_and_then (answering.resolver_of number) held ≡ Some r → held ≡ Some (resolver r)
used-held number r None e = cc
used-held number r (Some (actor id)) e = cc
used-held number r (Some (resolver q)) e = by (q.number == number) e
  where
    by : (b : Bool) → (if b then Some q else None) ≡ Some r → Some (resolver q) ≡ Some (resolver r)
    by true e = ap (λ (x : Resolver). Some (resolver x)) (same_Some q r e)
    by false e = cc
