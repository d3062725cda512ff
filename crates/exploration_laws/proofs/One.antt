-- A script has at most one exploration.
use Rattle.std.proofs.Common.{◌≡◌, ℕ, ◌+◌, Bool, true, false, List, [], ◌∷◌, ◌++◌, Contains, length, Option, Some, option_and_then, refl, sym, ap, subst, ◌∙◌, ⊎_elim, append_assoc, length-append, arith}
use Rattle.std.specs.List.{AllByRecursion}
use Rattle.std.proofs.lemmas.List.{append-nil}
use Rattle.std.proofs.lemmas.List.Elements.{All-contains, All-from_recursion, Contains-append_cases, Contains-append_right, filter_map-append}
use Rattle.std.proofs.lemmas.Option.{same_Some}
use Rattle.channel_model.specs.Runs.{RunState}
use Rattle.schedules.specs.declared.turn.Turn.{Turn}
use Rattle.script_steps.specs.Choices.{Setting}
use Rattle.explorations.specs.Explorations.{AreFew, AreFirstWords, Exploration, IsCovered, IsExplored, IsFirst, StopsAt, state_at, states_of, way_of, ways_of}
use Rattle.explorations.specs.Laws.{ExplorationsAreOne}
use Rattle.explorations.specs.Words.{AreAlike, Point, Precedes, reached}
use Rattle.explorations.proofs.Alike.{alike_back}
use Rattle.explorations.proofs.Order.{asymmetric, irreflexive, same_if_neither}
use Rattle.exploration_laws.proofs.Rising.{BeginsWith, contains_cases, contains_first, IsClosed, Rises, from_pairs, front_first, one_begins}

-- What words have in common

module _ (setting : Setting) where
  -- a word of a list of first words is one
  pub first_of : (words : List (List Turn)) (word : List Turn) → AllByRecursion (IsFirst setting) words → Contains words word → IsFirst setting word
  first_of words word each c = All-contains (IsFirst setting) words word (All-from_recursion (IsFirst setting) words each) c

  -- a first word is first for every point that it leads to
  pub first_at : (word : List Turn) (point : Point) → IsFirst setting word → reached setting word ≡ Some point → (other : List Turn) (same : Point) → reached setting other ≡ Some same → AreAlike point same → Precedes other word → ⊥
  first_at word point f leads other same is alike =
      f.first other same is (subst (λ (p : Point). AreAlike p same) (same_Some point f.point (sym leads ∙ f.leads)) alike)

  -- first words that lead to points that are alike are one word
  pub one_word : (word other : List Turn) (point same : Point) → IsFirst setting word → IsFirst setting other → reached setting word ≡ Some point → reached setting other ≡ Some same → AreAlike point same → word ≡ other
  one_word word other point same f g leads is alike =
      same_if_neither word other (first_at other same g is word point leads (alike_back point same alike)) (first_at word point f leads other same is alike)

  -- a first word to whose point a word of a list of first words leads is in the list
  listed_if_covered : (words : List (List Turn)) (word : List Turn) → AllByRecursion (IsFirst setting) words → (f : IsFirst setting word) → IsCovered setting words f.point → Contains words word
  listed_if_covered words word each f c =
      subst (Contains words) (one_word c.word word c.same f.point (first_of words c.word each c.listed) f c.leads f.leads c.alike) c.listed

  -- a first word that precedes one of the list is in the list
  listed_if_earlier : (words : List (List Turn)) → AreFirstWords setting words → (word later : List Turn) → IsFirst setting word → Contains words later → Precedes word later → Contains words word
  listed_if_earlier words first word later f c before = listed_if_covered words word first.each f (first.none_left_out later word f.point c before f.leads)

  first_closed : (words others : List (List Turn)) → AreFirstWords setting words → AreFirstWords setting others → IsClosed words others
  first_closed words others first second word other c d before = listed_if_earlier others second word other (first_of words word first.each c) d before

  -- Words that may not be left out

  -- the first word after a prefix is not in the prefix
  not_listed : (words : List (List Turn)) (next : List Turn) (more : List (List Turn)) → AreFirstWords setting (words ++ next ∷ more) → Contains words next → ⊥
  not_listed words next more longer c =
      irreflexive next (front_first words (next ∷ more) (from_pairs (words ++ next ∷ more) longer.ordered) next next c (contains_first next more))

  next_first : (words : List (List Turn)) (next : List Turn) (more : List (List Turn)) → AreFirstWords setting (words ++ next ∷ more) → IsFirst setting next
  next_first words next more longer = first_of (words ++ next ∷ more) next longer.each (Contains-append_right words (next ∷ more) next (contains_first next more))

  -- no first word comes after words that lead to all
  none_after_all : (most : ℕ) (words : List (List Turn)) (next : List Turn) (more : List (List Turn)) → AreFirstWords setting words → StopsAt setting most words true → AreFirstWords setting (words ++ next ∷ more) → ⊥
  none_after_all most words next more first all longer =
      let f : IsFirst setting next = next_first words next more longer in
      not_listed words next more longer (listed_if_covered words next first.each f (all next f.point f.leads))

  -- a word that comes next does not precede another that comes next
  not_earlier : (words : List (List Turn)) (next other : List Turn) (more others : List (List Turn)) → AreFirstWords setting (words ++ next ∷ more) → AreFirstWords setting (words ++ other ∷ others) → Precedes next other → ⊥
  not_earlier words next other more others longer second before =
      let c : Contains (words ++ other ∷ others) next =
      listed_if_earlier (words ++ other ∷ others) second next other (next_first words next more longer) (Contains-append_right words (other ∷ others) other (contains_first other others)) before
      in
      ⊎_elim
      (λ (here : Contains words next). not_listed words next more longer here)
      (λ (there : Contains (other ∷ others) next).
      ⊎_elim
      (λ (e : other ≡ next). irreflexive next (subst (Precedes next) e before))
      (λ (later : Contains others next). asymmetric next other before ((from_pairs_rest words other others second).0 next later))
      (contains_cases other others next there))
      (Contains-append_cases words (other ∷ others) next c)
    where
      rest : (front back : List (List Turn)) → Rises (front ++ back) → Rises back
      rest [] back rises = rises
      rest (w ∷ front) back rises = rest front back rises.1

      from_pairs_rest : (words : List (List Turn)) (other : List Turn) (others : List (List Turn)) → AreFirstWords setting (words ++ other ∷ others) → Rises (other ∷ others)
      from_pairs_rest words other others second = rest words (other ∷ others) (from_pairs (words ++ other ∷ others) second.ordered)

  one_next : (words : List (List Turn)) (next other : List Turn) (more others : List (List Turn)) → AreFirstWords setting (words ++ next ∷ more) → AreFirstWords setting (words ++ other ∷ others) → next ≡ other
  one_next words next other more others longer second =
      same_if_neither next other (not_earlier words next other more others longer second) (not_earlier words other next others more second longer)

  -- the state of a word, if it leads to one
  abbrev state_of : List Turn → Option RunState
  state_of word = option_and_then (λ (point : Point). state_at point.state point.spent) (reached setting word)

  -- a prefix has no more ways and states
  pub few_less : (most : ℕ) (words more : List (List Turn)) → AreFew setting most (words ++ more) → AreFew setting most words
  few_less most words more few =
      let ways = few.ways in
      let states = few.states in
      let all_ways : length (ways_of setting (words ++ more)) ≡ length (ways_of setting words) + length (ways_of setting more) =
      ap length (filter_map-append (way_of setting) words more) ∙ length-append (ways_of setting words) (ways_of setting more)
      in
      let all_states : length (states_of setting (words ++ more)) ≡ length (states_of setting words) + length (states_of setting more) =
      ap length (filter_map-append state_of words more) ∙ length-append (states_of setting words) (states_of setting more)
      in
      record { ways = omega (arith, ways, all_ways); states = omega (arith, states, all_states) }

  none_after : (most : ℕ) (words : List (List Turn)) (next : List Turn) (more : List (List Turn)) (whole : Bool) → AreFirstWords setting words → StopsAt setting most words whole → AreFirstWords setting (words ++ next ∷ more)
      → AreFew setting most (words ++ next ∷ more) → ⊥
  none_after most words next more true first all longer few = none_after_all most words next more first all longer
  none_after most words next more false first (other, second, many) longer few =
      let e : next ≡ other = one_next words next other more [] longer second in
      many
      (subst (λ (w : List Turn). AreFew setting most (words ++ w ∷ [])) e
      (few_less most (words ++ next ∷ []) more (subst (AreFew setting most) (sym (append_assoc words (next ∷ []) more)) few)))

  -- the words of one exploration are those of another, if they begin with them
  not_longer : (most : ℕ) (words others more : List (List Turn)) (whole : Bool) → AreFirstWords setting words → StopsAt setting most words whole → AreFirstWords setting others → AreFew setting most others → others ≡ words ++ more → words ≡ others
  not_longer most words others [] whole first stops second few e = sym (e ∙ append-nil words)
  not_longer most words others (next ∷ more) whole first stops second few e =
      absurd (none_after most words next more whole first stops (subst (AreFirstWords setting) e second) (subst (AreFew setting most) e few))

  same_words : (most : ℕ) (one other : Exploration) (a : IsExplored setting most one) (b : IsExplored setting most other) → a.words ≡ b.words
  same_words most one other a b =
      ⊎_elim
      (λ (h : BeginsWith a.words b.words). not_longer most a.words b.words h.0 one.whole a.first a.stops b.first b.few h.1)
      (λ (h : BeginsWith b.words a.words). sym (not_longer most b.words a.words h.0 other.whole b.first b.stops a.first a.few h.1))
      (one_begins a.words b.words (from_pairs a.words a.first.ordered) (from_pairs b.words b.first.ordered) (first_closed a.words b.words a.first b.first) (first_closed b.words a.words b.first a.first))

  same_whole : (most : ℕ) (words : List (List Turn)) (one other : Bool) → AreFirstWords setting words → StopsAt setting most words one → StopsAt setting most words other → one ≡ other
  same_whole most words true true first stops stop = refl
  same_whole most words false false first stops stop = refl
  same_whole most words true false first stops (next, longer, many) = absurd (none_after_all most words next [] first stops longer)
  same_whole most words false true first (next, longer, many) stop = absurd (none_after_all most words next [] first stop longer)

pub explorations_are_one : ExplorationsAreOne
explorations_are_one setting most one other a b =
    let e = same_words setting most one other a b in
    let ways : one.ways ≡ other.ways = a.ways ∙ ap (ways_of setting) e ∙ sym b.ways in
    let whole : one.whole ≡ other.whole =
    same_whole setting most b.words one.whole other.whole b.first (subst (λ (ws : List (List Turn)). StopsAt setting most ws one.whole) e a.stops) b.stops
    in
    λ i. record { ways = ways i; whole = whole i }
