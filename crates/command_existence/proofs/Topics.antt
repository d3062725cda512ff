-- Words ask about something, or about nothing.
use Rattle.std.proofs.Common.{◌≡◌, ◌⊎◌, ◌∙◌, List, [], ◌∷◌, refl, sym, ap, inl, inr, ⊎_elim}
use Rattle.std.specs.Prelude.{codes}
use Rattle.command_words.specs.declared.topic.CommandName.{CommandName}
use Rattle.command_words.specs.declared.topic.CommandName.TheVariants as names
use Rattle.command_words.specs.declared.topic.Topic.{Topic}
use Rattle.command_words.specs.declared.topic.Topic.TheVariants.{Program, Command, Version}
use Rattle.command_words.specs.Topics.{AskNothing, Asks, IsHelpFlag, IsVersionWord, help_word, name_of}
use Rattle.report_existence.proofs.Lists.{text_or_not}
use Rattle.command_existence.specs.Laws.{AskingIsDecided}
use Rattle.command_existence.proofs.Values.{Text}

-- one of two texts, or neither
of_two : (word one other : Text) → ((word ≡ one) ⊎ (word ≡ other)) ⊎ ((word ≡ one) ⊎ (word ≡ other) → ⊥)
of_two word one other =
    ⊎_elim (λ (is : word ≡ one). inl (inl is))
    (λ (not_one : word ≡ one → ⊥).
    ⊎_elim (λ (is : word ≡ other). inl (inr is)) (λ (not_other : word ≡ other → ⊥). inr (λ either. ⊎_elim not_one not_other either)) (text_or_not word other))
    (text_or_not word one)

-- The commands, as a list

abbrev AreOf : List CommandName → CommandName → Type 0
AreOf [] name = ⊥
AreOf (first ∷ rest) name = (first ≡ name) ⊎ AreOf rest name

abbrev all_names : List CommandName
all_names = names.Compile ∷ names.Run ∷ names.Frames ∷ names.Gen ∷ names.Feed ∷ names.Relay ∷ names.Audit ∷ names.Waits ∷ names.Chart ∷ names.Explore ∷ []

in_all : (name : CommandName) → AreOf all_names name
in_all names.Compile = inl refl
in_all names.Run = inr (inl refl)
in_all names.Frames = inr (inr (inl refl))
in_all names.Gen = inr (inr (inr (inl refl)))
in_all names.Feed = inr (inr (inr (inr (inl refl))))
in_all names.Relay = inr (inr (inr (inr (inr (inl refl)))))
in_all names.Audit = inr (inr (inr (inr (inr (inr (inl refl))))))
in_all names.Waits = inr (inr (inr (inr (inr (inr (inr (inl refl)))))))
in_all names.Chart = inr (inr (inr (inr (inr (inr (inr (inr (inl refl))))))))
in_all names.Explore = inr (inr (inr (inr (inr (inr (inr (inr (inr (inl refl)))))))))

-- a word names one of these commands, or none of them
named_among : (word : Text) (list : List CommandName) → ((name : CommandName) × (word ≡ name_of name)) ⊎ ((name : CommandName) → AreOf list name → word ≡ name_of name → ⊥)
named_among word [] = inr (λ name among is. absurd among)
named_among word (first ∷ rest) = by (named_among word rest) (text_or_not word (name_of first))
  where
    by : ((name : CommandName) × (word ≡ name_of name)) ⊎ ((name : CommandName) → AreOf rest name → word ≡ name_of name → ⊥) → (word ≡ name_of first) ⊎ (word ≡ name_of first → ⊥)
        → ((name : CommandName) × (word ≡ name_of name)) ⊎ ((name : CommandName) → AreOf (first ∷ rest) name → word ≡ name_of name → ⊥)
    by later (inl is) = inl (first, is)
    by (inl found) (inr not_first) = inl found
    by (inr none) (inr not_first) =
        inr (λ name among is. ⊎_elim (λ (same : first ≡ name). not_first (is ∙ ap name_of (sym same))) (λ (later : AreOf rest name). none name later is) among)

abbrev Named : Text → Type 0
Named word = (name : CommandName) × (word ≡ name_of name)

named_or_not : (word : Text) → Named word ⊎ (Named word → ⊥)
named_or_not word = ⊎_elim (λ (found : Named word). inl found) (λ none. inr (λ found. none found.0 (in_all found.0) found.1)) (named_among word all_names)

-- One word, and two

of_one : (word : Text) → ((topic : Topic) × Asks (word ∷ []) topic) ⊎ AskNothing (word ∷ [])
of_one word = by (text_or_not word help_word) (of_two word (codes "--help") (codes "-h")) (of_two word (codes "version") (codes "--version"))
  where
    none : (word ≡ help_word → ⊥) → (IsHelpFlag word → ⊥) → (IsVersionWord word → ⊥) → (topic : Topic) → Asks (word ∷ []) topic → ⊥
    none not_help not_flag not_version Program asks = ⊎_elim not_help not_flag asks
    none not_help not_flag not_version (Command name) asks = asks
    none not_help not_flag not_version Version asks = not_version asks

    by : (word ≡ help_word) ⊎ (word ≡ help_word → ⊥) → IsHelpFlag word ⊎ (IsHelpFlag word → ⊥) → IsVersionWord word ⊎ (IsVersionWord word → ⊥) → ((topic : Topic) × Asks (word ∷ []) topic) ⊎ AskNothing (word ∷ [])
    by (inl help) flag version = inl (Program, inl help)
    by (inr not_help) (inl flag) version = inl (Program, inr flag)
    by (inr not_help) (inr not_flag) (inl version) = inl (Version, version)
    by (inr not_help) (inr not_flag) (inr not_version) = inr (none not_help not_flag not_version)

abbrev HelpFirst : Text → Text → Type 0
HelpFirst word other = (word ≡ help_word) × Named other

abbrev HelpLast : Text → Text → Type 0
HelpLast word other = Named word × IsHelpFlag other

both : (P Q : Type 0) → P ⊎ (P → ⊥) → Q ⊎ (Q → ⊥) → (P × Q) ⊎ (P × Q → ⊥)
both P Q (inl p) (inl q) = inl (p, q)
both P Q (inl p) (inr never) = inr (λ h. never h.1)
both P Q (inr never) q = inr (λ h. never h.0)

of_both : (word other : Text) → ((topic : Topic) × Asks (word ∷ other ∷ []) topic) ⊎ AskNothing (word ∷ other ∷ [])
of_both word other =
    by (both (word ≡ help_word) (Named other) (text_or_not word help_word) (named_or_not other)) (both (Named word) (IsHelpFlag other) (named_or_not word) (of_two other (codes "--help") (codes "-h")))
  where
    none : (HelpFirst word other → ⊥) → (HelpLast word other → ⊥) → (topic : Topic) → Asks (word ∷ other ∷ []) topic → ⊥
    none not_first not_last Program asks = asks
    none not_first not_last (Command name) (inl asks) = not_first (asks.0, (name, asks.1))
    none not_first not_last (Command name) (inr asks) = not_last ((name, asks.0), asks.1)
    none not_first not_last Version asks = asks

    by : HelpFirst word other ⊎ (HelpFirst word other → ⊥) → HelpLast word other ⊎ (HelpLast word other → ⊥) → ((topic : Topic) × Asks (word ∷ other ∷ []) topic) ⊎ AskNothing (word ∷ other ∷ [])
    by (inl (help, (name, is))) last = inl (Command name, inl (help, is))
    by (inr not_first) (inl ((name, is), flag)) = inl (Command name, inr (is, flag))
    by (inr not_first) (inr not_last) = inr (none not_first not_last)

pub asking_is_decided : AskingIsDecided
asking_is_decided [] = inr (λ topic asks. asks)
asking_is_decided (word ∷ []) = of_one word
asking_is_decided (word ∷ other ∷ []) = of_both word other
asking_is_decided (word ∷ other ∷ third ∷ words) = inr (λ topic asks. asks)
