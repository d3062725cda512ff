-- It is decided what the value of an option means, or that it means nothing.
use Rattle.std.proofs.Common.{◌≡◌, ◌⊎◌, ◌∙◌, ℕ, ◌<◌, ◌≤◌, ◌==◌, Bool, true, false, not, List, [], ◌∷◌, ◌++◌, map, length, Option, Some, None, refl, sym, subst, inl, inr, ⊎_elim, arith, codes, append_assoc}
use Rattle.std.specs.Char.{digit_value}
use Rattle.std.specs.List.{AllByRecursion, list_all}
use Rattle.std.specs.Str.Parse.{AllDigits, digits_value}
use Rattle.std.proofs.lemmas.Bool.{both_ways, cases_Bool, cases_eq, cases_lt}
use Rattle.std.proofs.lemmas.List.{append_cancel_left, append_cancel_right}
use Rattle.ipdl_base.specs.declared.kinds.Side.{Side}
use Rattle.ipdl_base.specs.declared.kinds.Side.TheVariants.{Parent, Child}
use Rattle.schedules.specs.declared.stop.Stop.{Stop}
use Rattle.schedules.specs.declared.turn.Turn.{Turn}
use Rattle.command_words.specs.Compile.{IsPath}
use Rattle.command_words.specs.Explore.{IsMostWays}
use Rattle.command_words.specs.Feed.{IsSide}
use Rattle.command_words.specs.Frames.{IsConversion, IsTwo}
use Rattle.command_words.specs.Gen.{IsActors}
use Rattle.command_words.specs.Listed.{pieces}
use Rattle.command_words.specs.RunOptions.{IsCount, IsDeath, IsLimit, IsNumber, IsSchedule, IsStopOf, letter_for, letter_of, word_of}
use Rattle.command_words.proofs.Pieces.{dirs_pass, pieces_are}
use Rattle.report_existence.proofs.Lists.{BeginsWith, EndsWith, begins_or_not, ends_or_not, text_or_not}

abbrev pub Text : Type 0
Text = List ℕ

-- something has this property, or nothing has it
abbrev pub Decided : {X : Type 0} → (X → Type 0) → Type 0
Decided {X} Has = ((x : X) × Has x) ⊎ ((x : X) → Has x → ⊥)

-- Numbers

digits_or_not : (text : Text) → AllDigits 10 text ⊎ (AllDigits 10 text → ⊥)
digits_or_not [] = inl tt
digits_or_not (c ∷ cs) =
    ⊎_elim
    (λ (digit : digit_value c < 10). ⊎_elim (λ (all : AllDigits 10 cs). inl (digit, all)) (λ (none : AllDigits 10 cs → ⊥). inr (λ h. none h.1)) (digits_or_not cs))
    (λ (none : 10 ≤ digit_value c). inr (λ h. let less = h.0 in omega (arith, less, none)))
    (cases_lt (digit_value c) 10)

pub number_decided : (text : Text) → Decided (IsNumber text)
number_decided [] = inr (λ n is. let some = is.digits.0 in omega (arith, some))
number_decided (c ∷ cs) =
    ⊎_elim (λ (all : AllDigits 10 (c ∷ cs)). inl (digits_value 10 (c ∷ cs), record { digits = (omega arith, all); value = refl }))
    (λ (none : AllDigits 10 (c ∷ cs) → ⊥). inr (λ n is. none is.digits.1)) (digits_or_not (c ∷ cs))

same_number : (text : Text) (n m : ℕ) → IsNumber text n → IsNumber text m → n ≡ m
same_number text n m is other = is.value ∙ sym other.value

count_decided : (most : ℕ) (text : Text) → Decided (IsCount most text)
count_decided most text = by (number_decided text)
  where
    by : Decided (IsNumber text) → Decided (IsCount most text)
    by (inr none) = inr (λ n is. none n is.number)
    by (inl (n, is)) =
        ⊎_elim
        (λ (some : 0 < n).
        ⊎_elim (λ (past : most < n). inr (λ m other. let same = same_number text n m is other.number in let few = other.greatest in omega (arith, past, same, few)))
        (λ (few : n ≤ most). inl (n, record { number = is; least = omega (arith, some); greatest = few })) (cases_lt most n))
        (λ (none : n ≤ 0). inr (λ m other. let same = same_number text n m is other.number in let some = other.least in omega (arith, none, same, some)))
        (cases_lt 0 n)

pub rounds_decided : (text : Text) → Decided (IsCount 1000 text)
rounds_decided = count_decided 1000

pub actors_decided : (value : Option Text) → Decided (IsActors value)
actors_decided None = inl (4, refl)
actors_decided (Some text) = count_decided 100 text

pub most_ways_decided : (value : Option Text) → Decided (IsMostWays value)
most_ways_decided None = inl (1000, refl)
most_ways_decided (Some text) = count_decided 10000 text

pub limit_decided : (value : Option Text) → Decided (IsLimit value)
limit_decided None = inl (10000, refl)
limit_decided (Some text) =
    ⊎_elim (λ (h : (n : ℕ) × IsCount 20000 text n). inl (h.0, record { number = h.1.number; least = h.1.least; most = h.1.greatest }))
    (λ (none : (n : ℕ) → IsCount 20000 text n → ⊥). inr (λ n is. none n (record { number = is.number; least = is.least; greatest = is.most })))
    (count_decided 20000 text)

-- Words of turns

letter_decided : (c : ℕ) → Decided (λ (turn : Turn). letter_of turn ≡ c)
letter_decided c =
    ⊎_elim (λ e. inl (record { side = Parent; only_deliver = false }, sym e))
    (λ no_parent.
    ⊎_elim (λ e. inl (record { side = Child; only_deliver = false }, sym e))
    (λ no_child.
    ⊎_elim (λ e. inl (record { side = Parent; only_deliver = true }, sym e))
    (λ no_parent_alone.
    ⊎_elim (λ e. inl (record { side = Child; only_deliver = true }, sym e)) (λ no_child_alone. inr (λ turn e. none no_parent no_child no_parent_alone no_child_alone turn.side turn.only_deliver (sym e))) (cases_eq c 99))
    (cases_eq c 112))
    (cases_eq c 67))
    (cases_eq c 80)
  where
    none : (c ≡ 80 → ⊥) → (c ≡ 67 → ⊥) → (c ≡ 112 → ⊥) → (c ≡ 99 → ⊥) → (side : Side) (only : Bool) → c ≡ letter_for side only → ⊥
    none p c pd cd Parent false = p
    none p c pd cd Child false = c
    none p c pd cd Parent true = pd
    none p c pd cd Child true = cd

turns_decided : (text : Text) → Decided (λ (turns : List Turn). text ≡ map letter_of turns)
turns_decided [] = inl ([], refl)
turns_decided (c ∷ cs) = by (letter_decided c) (turns_decided cs)
  where
    head_none : ((turn : Turn) → letter_of turn ≡ c → ⊥) → (turns : List Turn) → c ∷ cs ≡ map letter_of turns → ⊥
    head_none none [] e = cc
    head_none none (t ∷ ts) e = let head : c ≡ letter_of t = cc in none t (sym head)

    tail_none : ((turns : List Turn) → cs ≡ map letter_of turns → ⊥) → (turns : List Turn) → c ∷ cs ≡ map letter_of turns → ⊥
    tail_none none [] e = cc
    tail_none none (t ∷ ts) e = let tail : cs ≡ map letter_of ts = cc in none ts tail

    by : Decided (λ (turn : Turn). letter_of turn ≡ c) → Decided (λ (turns : List Turn). cs ≡ map letter_of turns) → Decided (λ (turns : List Turn). c ∷ cs ≡ map letter_of turns)
    by (inl (t, e)) (inl (ts, f)) = inl (t ∷ ts, λ i. sym e i ∷ f i)
    by (inl (t, e)) (inr none) = inr (tail_none none)
    by (inr none) rest = inr (head_none none)

pub schedule_decided : (value : Option Text) → Decided (IsSchedule value)
schedule_decided None = inl (None, refl)
schedule_decided (Some text) = by (turns_decided text)
  where
    by : Decided (λ (turns : List Turn). text ≡ map letter_of turns) → Decided (IsSchedule (Some text))
    by (inr none) = inr (λ schedule is. none is.0 is.1.0.letters)
    by (inl (turns, e)) =
        ⊎_elim (λ (long : 40000 < length text). inr (λ schedule is. let most = is.1.0.most in omega (arith, long, most)))
        (λ (few : length text ≤ 40000). inl (Some turns, (turns, (record { letters = e; most = few }, refl)))) (cases_lt 40000 (length text))

-- Sides and deaths

pub side_decided : (value : Option Text) → Decided (IsSide value)
side_decided None = inr (λ side is. is)
side_decided (Some text) =
    ⊎_elim (λ (e : text ≡ word_of Parent). inl (Parent, e))
    (λ (no_parent : text ≡ word_of Parent → ⊥). ⊎_elim (λ (e : text ≡ word_of Child). inl (Child, e)) (λ (no_child : text ≡ word_of Child → ⊥). inr (none no_parent no_child)) (text_or_not text (word_of Child)))
    (text_or_not text (word_of Parent))
  where
    none : (text ≡ word_of Parent → ⊥) → (text ≡ word_of Child → ⊥) → (side : Side) → text ≡ word_of side → ⊥
    none no_parent no_child Parent = no_parent
    none no_parent no_child Child = no_child

-- the text gives this side a death after this number of events
record GivesDeath (side : Side) (text : Text) (after : ℕ) : Type 0 where
  number : Text
  text_is : text ≡ word_of side ++ (codes ":" ++ number)
  is_number : IsNumber number after
  most : after ≤ 20000

side_death : (side : Side) (text : Text) → Decided (GivesDeath side text)
side_death side text = by (begins_or_not cases_eq (word_of side ++ codes ":") text)
  where
    by_number : (number : Text) → text ≡ (word_of side ++ codes ":") ++ number → Decided (IsNumber number) → Decided (GivesDeath side text)
    by_number number e (inr none) =
        inr (λ n is. none n (subst (λ t. IsNumber t n) (append_cancel_left (word_of side ++ codes ":") is.number number (append_assoc (word_of side) (codes ":") is.number ∙ sym is.text_is ∙ e)) is.is_number))
    by_number number e (inl (n, is)) =
        ⊎_elim
        (λ (past : 20000 < n). inr (λ m other.
        let text_same = append_cancel_left (word_of side ++ codes ":") other.number number (append_assoc (word_of side) (codes ":") other.number ∙ sym other.text_is ∙ e) in
        let same = same_number number n m is (subst (λ t. IsNumber t m) text_same other.is_number) in
        let few = other.most in omega (arith, past, same, few)))
        (λ (few : n ≤ 20000). inl (n, record { number = number; text_is = e ∙ append_assoc (word_of side) (codes ":") number; is_number = is; most = few }))
        (cases_lt 20000 n)

    by : BeginsWith (word_of side ++ codes ":") text ⊎ (BeginsWith (word_of side ++ codes ":") text → ⊥) → Decided (GivesDeath side text)
    by (inr none) = inr (λ n is. none (is.number, is.text_is ∙ sym (append_assoc (word_of side) (codes ":") is.number)))
    by (inl (number, e)) = by_number number e (number_decided number)

pub death_decided : (value : Option Text) → Decided (IsDeath value)
death_decided None = inl (None, refl)
death_decided (Some text) = by (side_death Parent text) (side_death Child text)
  where
    gives : (stop : Stop) → IsStopOf text stop → GivesDeath stop.side text stop.after
    gives stop is = record { number = is.number; text_is = is.text_is; is_number = is.is_number; most = is.most }

    dies : (side : Side) (after : ℕ) → GivesDeath side text after → Decided (IsDeath (Some text))
    dies side after is =
        let stop : Stop = record { side = side; after = after } in
        inl (Some stop, (stop, (record { number = is.number; text_is = is.text_is; is_number = is.is_number; most = is.most }, refl)))

    none : ((n : ℕ) → GivesDeath Parent text n → ⊥) → ((n : ℕ) → GivesDeath Child text n → ⊥) → (side : Side) (n : ℕ) → GivesDeath side text n → ⊥
    none no_parent no_child Parent = no_parent
    none no_parent no_child Child = no_child

    by : Decided (GivesDeath Parent text) → Decided (GivesDeath Child text) → Decided (IsDeath (Some text))
    by (inl (n, is)) child = dies Parent n is
    by (inr no_parent) (inl (n, is)) = dies Child n is
    by (inr no_parent) (inr no_child) = inr (λ death is. none no_parent no_child is.0.side is.0.after (gives is.0 is.1.0))

-- Folders

pub path_decided : (value : Option Text) → Decided (IsPath value)
path_decided None = inl (codes "." ∷ [], refl)
path_decided (Some text) =
    ⊎_elim (λ (many : 64 < length (pieces text)). inr (λ dirs is. let few = (dirs_pass text dirs is).0 in omega (arith, many, few)))
    (λ (few : length (pieces text) ≤ 64).
    ⊎_elim (λ (full : list_all (λ d. not (length d == 0)) (pieces text) ≡ true). inl (pieces text, pieces_are text few full))
    (λ (gap : list_all (λ d. not (length d == 0)) (pieces text) ≡ false). inr (λ dirs is. both_ways (list_all (λ d. not (length d == 0)) (pieces text)) gap (dirs_pass text dirs is).1))
    (cases_Bool (list_all (λ d. not (length d == 0)) (pieces text))))
    (cases_lt 64 (length (pieces text)))

-- Conversions

zeros_or_not : (text : Text) → AllByRecursion (λ b. b ≡ 48) text ⊎ (AllByRecursion (λ b. b ≡ 48) text → ⊥)
zeros_or_not [] = inl tt
zeros_or_not (b ∷ bs) =
    ⊎_elim
    (λ (zero : b ≡ 48). ⊎_elim (λ (all : AllByRecursion (λ b. b ≡ 48) bs). inl (zero, all)) (λ (none : AllByRecursion (λ b. b ≡ 48) bs → ⊥). inr (λ h. none h.1)) (zeros_or_not bs))
    (λ (other : b ≡ 48 → ⊥). inr (λ h. other h.0))
    (cases_eq b 48)

same_front : (front other back : Text) → front ++ back ≡ other ++ back → front ≡ other
same_front front other back e = append_cancel_right front other back e

two_or_not : (text : Text) → IsTwo text ⊎ (IsTwo text → ⊥)
two_or_not text = by (ends_or_not cases_eq (codes "2") text)
  where
    by_zeros : (zeros : Text) → text ≡ zeros ++ codes "2" → AllByRecursion (λ b. b ≡ 48) zeros ⊎ (AllByRecursion (λ b. b ≡ 48) zeros → ⊥) → IsTwo text ⊎ (IsTwo text → ⊥)
    by_zeros zeros e (inl all) = inl (record { zeros = zeros; each = all; text_is = e })
    by_zeros zeros e (inr none) = inr (λ two. none (subst (AllByRecursion (λ b. b ≡ 48)) (same_front two.zeros zeros (codes "2") (sym two.text_is ∙ e)) two.each))

    by : EndsWith (codes "2") text ⊎ (EndsWith (codes "2") text → ⊥) → IsTwo text ⊎ (IsTwo text → ⊥)
    by (inr none) = inr (λ two. none (two.zeros, two.text_is))
    by (inl (zeros, e)) = by_zeros zeros e (zeros_or_not zeros)

pub conversion_decided : (value : Option Text) → Decided (IsConversion value)
conversion_decided None = inl (false, refl)
conversion_decided (Some text) = ⊎_elim (λ (two : IsTwo text). inl (true, (two, refl))) (λ (none : IsTwo text → ⊥). inr (λ convert is. none is.0)) (two_or_not text)
