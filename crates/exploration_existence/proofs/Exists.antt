-- A script has an exploration, if only short words lead somewhere and it is decided which points are alike.
use Rattle.std.proofs.Common.{◌≡◌, ◌⊎◌, ◌↔◌, ℕ, ◌<◌, ◌≤◌, true, false, List, [], ◌∷◌, ◌++◌, Any, Contains, length, Option, Some, None, refl, sym, subst, ◌∙◌, inl, inr, ⊎_elim, append_assoc, arith}
use Rattle.std.proofs.lemmas.Bool.{cases_lt}
use Rattle.std.proofs.lemmas.List.{append-nil}
use Rattle.std.proofs.lemmas.List.Elements.{All-contains_itself, All-weaker, Contains-append_cases, Contains-append_left, recursion_from_All}
use Rattle.std.proofs.lemmas.Option.{same_Some}
use Rattle.report_existence.specs.Laws.{IsListed}
use Rattle.report_existence.proofs.Finite.{any_or_not, both_or_not, of_any, same_places, when}
use Rattle.report_existence.proofs.Ordered.{IsOrder, in_order}
use Rattle.schedules.specs.declared.turn.Turn.{Turn}
use Rattle.script_steps.specs.Choices.{Setting}
use Rattle.explorations.specs.Explorations.{AreFew, AreFirstWords, Exploration, IsCovered, IsExplored, IsFirst, most_states, states_of, ways_of}
use Rattle.explorations.specs.Words.{AreAlike, Point, Precedes, reached}
use Rattle.explorations.proofs.Alike.{alike_back, alike_itself, alike_on}
use Rattle.explorations.proofs.Order.{asymmetric, compared, decided, transitive}
use Rattle.exploration_existence.proofs.AllWords.{IsEarliest, all_words, earliest, in_all_words}
use Rattle.exploration_laws.proofs.One.{first_at}
use Rattle.exploration_laws.proofs.Rising.{Rises, from_pairs, front_first, front_rises, in_pairs}

-- Words that lead somewhere are not longer than some number, and it is decided whether two of them lead to points that are alike.
pub record HasFewWords (setting : Setting) : Type 0 where
  pub bound : ℕ
  pub short : (word : List Turn) (point : Point) → reached setting word ≡ Some point → length word ≤ bound
  pub decides : (one other : List Turn) (point same : Point) → reached setting one ≡ Some point → reached setting other ≡ Some same → AreAlike point same ⊎ (AreAlike point same → ⊥)

order_of_words : IsOrder (λ (word : List Turn). Unit {0}) Precedes
order_of_words = record { compared = λ a b among too. compared a b; trans = λ a b c among too three. transitive a b c }

-- a word leads to a point like this one
record LeadsLike (setting : Setting) (point : Point) (word : List Turn) : Type 0 where
  same : Point
  leads : reached setting word ≡ Some same
  alike : AreAlike point same

-- words in order that are all first words
record AreAllFirst (setting : Setting) (words : List (List Turn)) : Type 0 where
  rises : Rises words
  exact : (word : List Turn) → Contains words word ↔ IsFirst setting word

-- a first word that leads to a point like that of another word, and is not after that word
record HasFirst (setting : Setting) (word : List Turn) (point : Point) : Type 0 where
  earlier : List Turn
  first : IsFirst setting earlier
  same : Point
  leads : reached setting earlier ≡ Some same
  alike : AreAlike same point
  not_after : Precedes word earlier → ⊥

module _ (setting : Setting) (few : HasFewWords setting) where
  abbrev words : List (List Turn)
  words = all_words few.bound

  known : (word : List Turn) (point : Point) → reached setting word ≡ Some point → Contains words word
  known word point is = in_all_words few.bound word (few.short word point is)

  leads_or_not : (of : List Turn) (point : Point) → reached setting of ≡ Some point → (word : List Turn) → LeadsLike setting point word ⊎ (LeadsLike setting point word → ⊥)
  leads_or_not of point is word = by (reached setting word) refl
    where
      by : (found : Option Point) → reached setting word ≡ found → LeadsLike setting point word ⊎ (LeadsLike setting point word → ⊥)
      by None e = inr (λ h. let k : None ≡ Some h.same = sym e ∙ h.leads in cc)
      by (Some same) e =
          ⊎_elim
          (λ (alike : AreAlike point same). inl (record { same = same; leads = e; alike = alike }))
          (λ (never : AreAlike point same → ⊥). inr (λ h. never (subst (AreAlike point) (same_Some h.same same (sym h.leads ∙ e)) h.alike)))
          (few.decides of word point same is e)

  -- Each word that leads somewhere has a first word

  has_first : (word : List Turn) (point : Point) → reached setting word ≡ Some point → HasFirst setting word point
  has_first word point is = by (earliest (LeadsLike setting point) (leads_or_not word point is) words)
    where
      itself : LeadsLike setting point word
      itself = record { same = point; leads = is; alike = alike_itself point }

      by : ((earlier : List Turn) × IsEarliest (LeadsLike setting point) words earlier) ⊎ ((other : List Turn) → Contains words other → LeadsLike setting point other → ⊥) → HasFirst setting word point
      by (inl (earlier, e)) =
          let h : LeadsLike setting point earlier = e.has in
          record {
            earlier = earlier;
            first = record {
              point = h.same;
              leads = h.leads;
              first = λ other same leads alike before. e.none other (known other same leads) (record { same = same; leads = leads; alike = alike_on point h.same same h.alike alike }) before;
            };
            same = h.same;
            leads = h.leads;
            alike = alike_back point h.same h.alike;
            not_after = λ before. e.none word (known word point is) itself before;
          }
      by (inr none) = absurd (none word (known word point is) itself)

  -- All first words

  abbrev IsEarlierLike : List Turn → Point → List Turn → Type 0
  IsEarlierLike word point other = Precedes other word × LeadsLike setting point other

  first_or_not : (word : List Turn) → IsFirst setting word ⊎ (IsFirst setting word → ⊥)
  first_or_not word = by (reached setting word) refl
    where
      by : (found : Option Point) → reached setting word ≡ found → IsFirst setting word ⊎ (IsFirst setting word → ⊥)
      by None e = inr (λ f. let k : None ≡ Some f.point = sym e ∙ f.leads in cc)
      by (Some point) e =
          ⊎_elim
          (λ (some : Any (IsEarlierLike word point) words). let h : IsEarlierLike word point some.1 = some.4 in inr (λ f. first_at setting word point f e some.1 h.1.same h.1.leads h.1.alike h.0))
          (λ (none : Any (IsEarlierLike word point) words → ⊥).
          inl
          (record {
            point = point;
            leads = e;
            first = λ other same leads alike before.
                let c : Contains words other = known other same leads in
                none (c.0, other, c.1, c.2, (before, record { same = same; leads = leads; alike = alike }));
          }))
          (any_or_not (IsEarlierLike word point) (λ other. both_or_not (decided other word) (leads_or_not word point e other)) words)

  abbrev IsFirstAt : List Turn → List Turn → Type 0
  IsFirstAt at word = (at ≡ word) × IsFirst setting at

  first_listed : IsListed (IsFirst setting)
  first_listed =
      same_places (λ word. Any (λ at. IsFirstAt at word) words) (IsFirst setting)
      (λ word h. let k : IsFirstAt h.1 word = h.4 in subst (IsFirst setting) k.0 k.1)
      (λ word f. let c : Contains words word = known word f.point f.leads in (c.0, word, c.1, c.2, (refl, f)))
      (of_any words IsFirstAt (λ at. when (IsFirst setting at) (first_or_not at) at))

  all_first : (found : List (List Turn)) × AreAllFirst setting found
  all_first =
      let sorted = in_order order_of_words first_listed.0 (λ word c. tt) in
      (sorted.0, record { rises = from_pairs sorted.0 sorted.1; exact = λ word. (λ c. (first_listed.1 word).0 ((sorted.2 word).0 c), λ f. (sorted.2 word).1 ((first_listed.1 word).1 f)) })

  -- A prefix of all first words

  prefix_first : (front back : List (List Turn)) → AreAllFirst setting (front ++ back) → AreFirstWords setting front
  prefix_first front back all = record {
    ordered = in_pairs front (front_rises front back all.rises);
    each = recursion_from_All (IsFirst setting) front (All-weaker (Contains front) (IsFirst setting) (λ word c. (all.exact word).0 (Contains-append_left front back word c)) front (All-contains_itself front));
    none_left_out = λ later word point c before is.
        let h : HasFirst setting word point = has_first word point is in
        record { word = h.earlier; listed = listed later word h.earlier c before ((all.exact h.earlier).1 h.first) h.not_after; same = h.same; leads = h.leads; alike = h.alike };
  }
    where
      sooner : (later word earlier : List Turn) → Precedes word later → (Precedes word earlier → ⊥) → Precedes earlier later
      sooner later word earlier before not_after =
          ⊎_elim
          (λ (less : Precedes earlier word). transitive earlier word later less before)
          (λ (rest : (earlier ≡ word) ⊎ Precedes word earlier).
          ⊎_elim (λ (same : earlier ≡ word). subst (λ (w : List Turn). Precedes w later) (sym same) before) (λ (after : Precedes word earlier). absurd (not_after after)) rest)
          (compared earlier word)

      listed : (later word earlier : List Turn) → Contains front later → Precedes word later → Contains (front ++ back) earlier → (Precedes word earlier → ⊥) → Contains front earlier
      listed later word earlier c before somewhere not_after =
          ⊎_elim
          (λ (here : Contains front earlier). here)
          (λ (there : Contains back earlier). absurd (asymmetric earlier later (sooner later word earlier before not_after) (front_first front back all.rises later earlier c there)))
          (Contains-append_cases front back earlier somewhere)

  covers_all : (found : List (List Turn)) → AreAllFirst setting found → (word : List Turn) (point : Point) → reached setting word ≡ Some point → IsCovered setting found point
  covers_all found all word point is =
      let h : HasFirst setting word point = has_first word point is in
      record { word = h.earlier; listed = (all.exact h.earlier).1 h.first; same = h.same; leads = h.leads; alike = h.alike }

  -- The exploration: as many of them as are few

  module _ (most : ℕ) where
    few_or_not : (found : List (List Turn)) → AreFew setting most found ⊎ (AreFew setting most found → ⊥)
    few_or_not found = by (cases_lt most (length (ways_of setting found))) (cases_lt most_states (length (states_of setting found)))
      where
        by : (most < length (ways_of setting found)) ⊎ (length (ways_of setting found) ≤ most) → (most_states < length (states_of setting found)) ⊎ (length (states_of setting found) ≤ most_states) → AreFew setting most found ⊎ (AreFew setting most found → ⊥)
        by (inl many) states = inr (λ f. let ways = f.ways in omega (arith, many, ways))
        by (inr ways) (inl many) = inr (λ f. let states = f.states in omega (arith, many, states))
        by (inr ways) (inr states) = inl (record { ways = ways; states = states })

    cut : (front back : List (List Turn)) → AreAllFirst setting (front ++ back) → AreFew setting most front → (exploration : Exploration) × IsExplored setting most exploration
    cut front [] all so_few = (
      record { ways = ways_of setting front; whole = true },
      record { words = front; first = prefix_first front [] all; few = so_few; stops = covers_all front (subst (AreAllFirst setting) (append-nil front) all); ways = refl },
    )
    cut front (next ∷ back) all so_few = by (few_or_not (front ++ next ∷ [])) (cut (front ++ next ∷ []) back longer)
      where
        longer : AreAllFirst setting ((front ++ next ∷ []) ++ back)
        longer = subst (AreAllFirst setting) (sym (append_assoc front (next ∷ []) back)) all

        by : AreFew setting most (front ++ next ∷ []) ⊎ (AreFew setting most (front ++ next ∷ []) → ⊥) → (AreFew setting most (front ++ next ∷ []) → (exploration : Exploration) × IsExplored setting most exploration) → (exploration : Exploration) × IsExplored setting most exploration
        by (inl more) onward = onward more
        by (inr many) onward = (
          record { ways = ways_of setting front; whole = false },
          record { words = front; first = prefix_first front (next ∷ back) all; few = so_few; stops = (next, prefix_first (front ++ next ∷ []) back longer, many); ways = refl },
        )

    pub has_exploration : (exploration : Exploration) × IsExplored setting most exploration
    has_exploration = cut [] all_first.0 all_first.1 (record { ways = omega arith; states = omega arith })
