-- All words up to a length, and the earliest word with a property.
use Rattle.std.proofs.Common.{◌≡◌, ◌⊎◌, ℕ, zero, suc, ◌≤◌, Bool, true, false, List, [], ◌∷◌, ◌++◌, Contains, length, map, refl, ap, subst, inl, inr, ⊎_elim, arith}
use Rattle.std.proofs.lemmas.List.Elements.{Contains-append_left, Contains-append_right}
use Rattle.ipdl_base.specs.declared.kinds.Side.{Side}
use Rattle.ipdl_base.specs.declared.kinds.Side.TheVariants as sides
use Rattle.report_existence.proofs.Finite.{contains_cases, contains_more, contains_none}
use Rattle.schedules.specs.declared.turn.Turn.{Turn}
use Rattle.explorations.specs.Words.{Precedes}
use Rattle.explorations.proofs.Order.{asymmetric, compared, irreflexive, transitive}

-- All words

-- words with a letter before each
abbrev with_letter : Turn → List (List Turn) → List (List Turn)
with_letter turn words = map (λ word. turn ∷ word) words

letter_contained : (turn : Turn) (words : List (List Turn)) (word : List Turn) → Contains words word → Contains (with_letter turn words) (turn ∷ word)
letter_contained turn [] word c = absurd (contains_none word c)
letter_contained turn (first ∷ words) word c =
    ⊎_elim
    (λ (e : first ≡ word). contains_more (turn ∷ first) (with_letter turn words) (turn ∷ word) (inl (ap (λ w. turn ∷ w) e)))
    (λ (later : Contains words word). contains_more (turn ∷ first) (with_letter turn words) (turn ∷ word) (inr (letter_contained turn words word later)))
    (contains_cases first words word c)

-- words with any letter before each
abbrev with_any_letter : List (List Turn) → List (List Turn)
with_any_letter words =
    with_letter (record { side = sides.Parent; only_deliver = false }) words
    ++ (with_letter (record { side = sides.Child; only_deliver = false }) words
    ++ (with_letter (record { side = sides.Parent; only_deliver = true }) words ++ with_letter (record { side = sides.Child; only_deliver = true }) words))

abbrev pub all_words : ℕ → List (List Turn)
all_words zero = [] ∷ []
all_words (suc n) = [] ∷ with_any_letter (all_words n)

any_letter_contained : (words : List (List Turn)) (word : List Turn) → Contains words word → (side : Side) (only : Bool) → Contains (with_any_letter words) (record { side = side; only_deliver = only } ∷ word)
any_letter_contained words word c = by
  where
    p : List (List Turn)
    p = with_letter (record { side = sides.Parent; only_deliver = true }) words

    q : List (List Turn)
    q = with_letter (record { side = sides.Child; only_deliver = true }) words

    one : List (List Turn)
    one = with_letter (record { side = sides.Parent; only_deliver = false }) words

    two : List (List Turn)
    two = with_letter (record { side = sides.Child; only_deliver = false }) words

    by : (side : Side) (only : Bool) → Contains (with_any_letter words) (record { side = side; only_deliver = only } ∷ word)
    by sides.Parent false =
        Contains-append_left one (two ++ (p ++ q)) (record { side = sides.Parent; only_deliver = false } ∷ word) (letter_contained (record { side = sides.Parent; only_deliver = false }) words word c)
    by sides.Child false =
        Contains-append_right one (two ++ (p ++ q)) (record { side = sides.Child; only_deliver = false } ∷ word)
        (Contains-append_left two (p ++ q) (record { side = sides.Child; only_deliver = false } ∷ word) (letter_contained (record { side = sides.Child; only_deliver = false }) words word c))
    by sides.Parent true =
        Contains-append_right one (two ++ (p ++ q)) (record { side = sides.Parent; only_deliver = true } ∷ word)
        (Contains-append_right two (p ++ q) (record { side = sides.Parent; only_deliver = true } ∷ word)
        (Contains-append_left p q (record { side = sides.Parent; only_deliver = true } ∷ word) (letter_contained (record { side = sides.Parent; only_deliver = true }) words word c)))
    by sides.Child true =
        Contains-append_right one (two ++ (p ++ q)) (record { side = sides.Child; only_deliver = true } ∷ word)
        (Contains-append_right two (p ++ q) (record { side = sides.Child; only_deliver = true } ∷ word)
        (Contains-append_right p q (record { side = sides.Child; only_deliver = true } ∷ word) (letter_contained (record { side = sides.Child; only_deliver = true }) words word c)))

-- each word that is no longer is among them
pub in_all_words : (n : ℕ) (word : List Turn) → length word ≤ n → Contains (all_words n) word
in_all_words zero [] h = contains_more [] [] [] (inl refl)
in_all_words zero (turn ∷ word) h = absurd (omega (arith, h))
in_all_words (suc n) [] h = contains_more [] (with_any_letter (all_words n)) [] (inl refl)
in_all_words (suc n) (turn ∷ word) h =
    contains_more [] (with_any_letter (all_words n)) (turn ∷ word) (inr (any_letter_contained (all_words n) word (in_all_words n word (omega (arith, h))) turn.side turn.only_deliver))

-- The earliest word

-- a word with a property, which no earlier word of a list has
pub record IsEarliest (P : List Turn → Type 0) (words : List (List Turn)) (word : List Turn) : Type 0 where
  pub has : P word
  pub none : (other : List Turn) → Contains words other → P other → Precedes other word → ⊥

abbrev Found : (List Turn → Type 0) → List (List Turn) → Type 0
Found P words = ((word : List Turn) × IsEarliest P words word) ⊎ ((other : List Turn) → Contains words other → P other → ⊥)

-- there is one, or no word of the list has the property
pub earliest : (P : List Turn → Type 0) → ((word : List Turn) → P word ⊎ (P word → ⊥)) → (words : List (List Turn)) → ((word : List Turn) × IsEarliest P words word) ⊎ ((other : List Turn) → Contains words other → P other → ⊥)
earliest P decide [] = inr (λ other c. absurd (contains_none other c))
earliest P decide (first ∷ words) = by (decide first) (earliest P decide words)
  where
    -- what holds of the first word and of all later ones
    each : (Q : List Turn → Type 0) → Q first → ((other : List Turn) → Contains words other → Q other) → (other : List Turn) → Contains (first ∷ words) other → Q other
    each Q here later other c = ⊎_elim (λ (e : first ≡ other). subst Q e here) (λ (there : Contains words other). later other there) (contains_cases first words other c)

    by : P first ⊎ (P first → ⊥) → Found P words → Found P (first ∷ words)
    by (inr never) (inr none) = inr (each (λ other. P other → ⊥) never none)
    by (inr never) (inl (word, e)) = inl (word, record { has = e.has; none = each (λ other. P other → Precedes other word → ⊥) (λ p before. never p) e.none })
    by (inl p) (inr none) = inl (first, record { has = p; none = each (λ other. P other → Precedes other first → ⊥) (λ q before. irreflexive first before) (λ other c q before. none other c q) })
    by (inl p) (inl (word, e)) = choose (compared first word)
      where
        choose : Precedes first word ⊎ ((first ≡ word) ⊎ Precedes word first) → Found P (first ∷ words)
        choose (inl before) =
            inl (first, record { has = p; none = each (λ other. P other → Precedes other first → ⊥) (λ q less. irreflexive first less) (λ other c q less. e.none other c q (transitive other first word less before)) })
        choose (inr (inl same)) =
            inl (word, record { has = e.has; none = each (λ other. P other → Precedes other word → ⊥) (λ q less. irreflexive word (subst (λ (w : List Turn). Precedes w word) same less)) e.none })
        choose (inr (inr after)) = inl (word, record { has = e.has; none = each (λ other. P other → Precedes other word → ⊥) (λ q less. asymmetric first word less after) e.none })
