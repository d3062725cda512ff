-- Lists of words in their order, of which one is a prefix of another.
use Rattle.std.proofs.Common.{◌≡◌, ◌⊎◌, zero, suc, List, [], ◌∷◌, ◌++◌, Contains, AllPairs, get_or, refl, subst, inl, inr, ⊎_elim, arith}
use Rattle.std.proofs.lemmas.List.Elements.{Contains-append_left, Contains-append_right, Contains-get_or}
use Rattle.schedules.specs.declared.turn.Turn.{Turn}
use Rattle.explorations.specs.Words.{Precedes}
use Rattle.explorations.proofs.Order.{asymmetric, compared, irreflexive}

-- Elements of a list with a first one

pub contains_first : {X : Type 0} (x : X) (xs : List X) → Contains (x ∷ xs) x
contains_first x xs = (0, omega arith, refl)

pub contains_later : {X : Type 0} (x : X) (xs : List X) (y : X) → Contains xs y → Contains (x ∷ xs) y
contains_later x xs y (i, below, is) = (suc i, omega (arith, below), is)

pub contains_cases : {X : Type 0} (x : X) (xs : List X) (y : X) → Contains (x ∷ xs) y → (x ≡ y) ⊎ Contains xs y
contains_cases x xs y (zero, below, is) = inl is
contains_cases x xs y (suc i, below, is) = inr (i, omega (arith, below), is)

-- Lists in order

-- each word precedes all later ones
abbrev pub Rises : List (List Turn) → Type 0
Rises [] = Unit {0}
Rises (word ∷ words) = ((other : List Turn) → Contains words other → Precedes word other) × Rises words

pub from_pairs : (words : List (List Turn)) → AllPairs Precedes words → Rises words
from_pairs [] h = tt
from_pairs (word ∷ words) h = (
  λ other (c : Contains words other). subst (Precedes word) c.2 (h 0 (suc c.0) other (omega arith) (omega (arith, c.1))),
  from_pairs words (λ i j d before within. h (suc i) (suc j) d (omega (arith, before)) (omega (arith, within))),
)

pub in_pairs : (words : List (List Turn)) → Rises words → AllPairs Precedes words
in_pairs [] rises i j d before within = absurd (omega (arith, within))
in_pairs (word ∷ words) rises i zero d before within = absurd (omega (arith, before))
in_pairs (word ∷ words) rises zero (suc j) d before within = rises.0 (get_or words j d) (Contains-get_or words j d (omega (arith, within)))
in_pairs (word ∷ words) rises (suc i) (suc j) d before within = in_pairs words rises.1 i j d (omega (arith, before)) (omega (arith, within))

-- the words of a prefix are in order
pub front_rises : (front back : List (List Turn)) → Rises (front ++ back) → Rises front
front_rises [] back rises = tt
front_rises (word ∷ front) back rises = (λ other c. rises.0 other (Contains-append_left front back other c), front_rises front back rises.1)

-- and each precedes all words after the prefix
pub front_first : (front back : List (List Turn)) → Rises (front ++ back) → (word other : List Turn) → Contains front word → Contains back other → Precedes word other
front_first [] back rises word other c d = absurd (omega (arith, c.1))
front_first (first ∷ front) back rises word other c d =
    ⊎_elim
    (λ (e : first ≡ word). subst (λ (w : List Turn). Precedes w other) e (rises.0 other (Contains-append_right front back other d)))
    (λ (later : Contains front word). front_first front back rises.1 word other later d)
    (contains_cases first front word c)

-- a word of the list that precedes a word of the other list is in the other list
abbrev pub IsClosed : List (List Turn) → List (List Turn) → Type 0
IsClosed words others = (word other : List Turn) → Contains words word → Contains others other → Precedes word other → Contains others word

-- a word that is first in its list and precedes the first word of another list is not in that
not_before : (word other : List Turn) (words others : List (List Turn)) → Rises (other ∷ others) → IsClosed (word ∷ words) (other ∷ others) → Precedes word other → ⊥
not_before word other words others rises closed before =
    ⊎_elim
    (λ (e : other ≡ word). irreflexive word (subst (Precedes word) e before))
    (λ (later : Contains others word). asymmetric word other before (rises.0 word later))
    (contains_cases other others word (closed word other (contains_first word words) (contains_first other others) before))

-- the same first word may be left out of both lists
rest_closed : (first : List Turn) (words others : List (List Turn)) → Rises (first ∷ words) → IsClosed (first ∷ words) (first ∷ others) → IsClosed words others
rest_closed first words others rises closed word other c d before =
    ⊎_elim
    (λ (e : first ≡ word). absurd (irreflexive word (subst (λ (w : List Turn). Precedes w word) e (rises.0 word c))))
    (λ (later : Contains others word). later)
    (contains_cases first others word (closed word other (contains_later first words word c) (contains_later first others other d) before))

-- a list begins with another, so it is that list and more elements
abbrev pub BeginsWith : List (List Turn) → List (List Turn) → Type 0
BeginsWith words others = (more : List (List Turn)) × (others ≡ words ++ more)

more_begins : (first : List Turn) (words others : List (List Turn)) → BeginsWith words others → BeginsWith (first ∷ words) (first ∷ others)
more_begins first words others h = (h.0, λ i. first ∷ h.1 i)

abbrev IsOrderedPair : List (List Turn) → List (List Turn) → Type 0
IsOrderedPair words others = BeginsWith words others ⊎ BeginsWith others words

more_paired : (first : List Turn) (words others : List (List Turn)) → IsOrderedPair words others → IsOrderedPair (first ∷ words) (first ∷ others)
more_paired first words others (inl h) = inl (more_begins first words others h)
more_paired first words others (inr h) = inr (more_begins first others words h)

-- Of two lists in order, each with all words of the other that precede its own, one is a prefix of the other.
pub one_begins : (words others : List (List Turn)) → Rises words → Rises others → IsClosed words others → IsClosed others words → BeginsWith words others ⊎ BeginsWith others words
one_begins [] others rises rise closed close = inl (others, refl)
one_begins (word ∷ words) [] rises rise closed close = inr (word ∷ words, refl)
one_begins (word ∷ words) (other ∷ others) rises rise closed close = by (one_begins words others rises.1 rise.1) (compared word other)
  where
    same_first : (IsClosed words others → IsClosed others words → IsOrderedPair words others) → (first : List Turn) → word ≡ first → Rises (first ∷ others) → IsClosed (word ∷ words) (first ∷ others) → IsClosed (first ∷ others) (word ∷ words)
        → IsOrderedPair (word ∷ words) (first ∷ others)
    same_first shorter first e =
        subst
        (λ (w : List Turn). Rises (w ∷ others) → IsClosed (word ∷ words) (w ∷ others) → IsClosed (w ∷ others) (word ∷ words) → IsOrderedPair (word ∷ words) (w ∷ others))
        e
        (λ r c d. more_paired word words others (shorter (rest_closed word words others rises c) (rest_closed word others words r d)))

    by : (IsClosed words others → IsClosed others words → IsOrderedPair words others) → Precedes word other ⊎ ((word ≡ other) ⊎ Precedes other word) → IsOrderedPair (word ∷ words) (other ∷ others)
    by shorter (inl before) = absurd (not_before word other words others rise closed before)
    by shorter (inr (inr after)) = absurd (not_before other word others words rises close after)
    by shorter (inr (inl same)) = same_first shorter other same rise closed close
