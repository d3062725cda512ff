-- Words ask about one thing at most.
use Rattle.std.proofs.Common.{◌≡◌, ◌⊎◌, inl, inr, ℕ, List, [], ◌∷◌, if◌then◌else◌, Option, Some, None, codes, refl, sym, ap, ◌∙◌}
use Rattle.std.specs.Str.{bytes_eq}
use Rattle.std.proofs.lemmas.Option.{same_Some}
use Rattle.command_words.specs.declared.topic.CommandName.{CommandName}
use Rattle.command_words.specs.declared.topic.CommandName.TheVariants as names
use Rattle.command_words.specs.declared.topic.Topic.TheVariants.{Program, Command, Version}
use Rattle.command_words.specs.Topics.{Asks, IsHelpFlag, IsVersionWord, OneTopic, help_word, name_of}

-- the command that a word names
named : List ℕ → Option CommandName
named word =
    if bytes_eq word (codes "compile") then Some names.Compile else
    if bytes_eq word (codes "run") then Some names.Run else
    if bytes_eq word (codes "frames") then Some names.Frames else
    if bytes_eq word (codes "gen") then Some names.Gen else
    if bytes_eq word (codes "feed") then Some names.Feed else
    if bytes_eq word (codes "relay") then Some names.Relay else
    if bytes_eq word (codes "audit") then Some names.Audit else
    if bytes_eq word (codes "waits") then Some names.Waits else
    if bytes_eq word (codes "chart") then Some names.Chart else
    if bytes_eq word (codes "explore") then Some names.Explore else None

named_again : (name : CommandName) → named (name_of name) ≡ Some name
unfolding named
named_again names.Compile = refl
named_again names.Run = refl
named_again names.Frames = refl
named_again names.Gen = refl
named_again names.Feed = refl
named_again names.Relay = refl
named_again names.Audit = refl
named_again names.Waits = refl
named_again names.Chart = refl
named_again names.Explore = refl

one_name : (word : List ℕ) (one other : CommandName) → word ≡ name_of one → word ≡ name_of other → one ≡ other
one_name word one other is is_other = same_Some one other (sym (named_again one) ∙ ap named (sym is ∙ is_other) ∙ named_again other)

-- a word that names no command
no_name : (word : List ℕ) (name : CommandName) → named word ≡ None → word ≡ name_of name → ⊥
no_name word name none is = let e : None ≡ Some name = sym none ∙ ap named is ∙ named_again name in cc

help_is_no_name : named help_word ≡ None
unfolding named
help_is_no_name = refl

no_help : (word : List ℕ) (name : CommandName) → word ≡ help_word → word ≡ name_of name → ⊥
no_help word name help is = no_name help_word name help_is_no_name (sym help ∙ is)

-- no word asks for help and for the version
apart : (word : List ℕ) → (word ≡ help_word) ⊎ IsHelpFlag word → IsVersionWord word → ⊥
apart word (inl help) (inl version) = let e : codes "help" ≡ codes "version" = sym help ∙ version in cc
apart word (inl help) (inr version) = let e : codes "help" ≡ codes "--version" = sym help ∙ version in cc
apart word (inr (inl help)) (inl version) = let e : codes "--help" ≡ codes "version" = sym help ∙ version in cc
apart word (inr (inl help)) (inr version) = let e : codes "--help" ≡ codes "--version" = sym help ∙ version in cc
apart word (inr (inr help)) (inl version) = let e : codes "-h" ≡ codes "version" = sym help ∙ version in cc
apart word (inr (inr help)) (inr version) = let e : codes "-h" ≡ codes "--version" = sym help ∙ version in cc

-- two words ask about one command
same_command : (word other : List ℕ) (one two : CommandName) → Asks (word ∷ other ∷ []) (Command one) → Asks (word ∷ other ∷ []) (Command two) → one ≡ two
same_command word other one two (inl a) (inl b) = one_name other one two a.1 b.1
same_command word other one two (inl a) (inr b) = absurd (no_help word two a.0 b.0)
same_command word other one two (inr a) (inl b) = absurd (no_help word one b.0 a.0)
same_command word other one two (inr a) (inr b) = one_name word one two a.0 b.0

pub one_topic : OneTopic
one_topic [] one other a b = absurd a
one_topic (word ∷ []) Program Program a b = refl
one_topic (word ∷ []) Program (Command name) a b = absurd b
one_topic (word ∷ []) Program Version a b = absurd (apart word a b)
one_topic (word ∷ []) (Command name) other a b = absurd a
one_topic (word ∷ []) Version Program a b = absurd (apart word b a)
one_topic (word ∷ []) Version (Command name) a b = absurd b
one_topic (word ∷ []) Version Version a b = refl
one_topic (word ∷ second ∷ []) Program other a b = absurd a
one_topic (word ∷ second ∷ []) (Command name) Program a b = absurd b
one_topic (word ∷ second ∷ []) (Command name) (Command other) a b = ap Command (same_command word second name other a b)
one_topic (word ∷ second ∷ []) (Command name) Version a b = absurd b
one_topic (word ∷ second ∷ []) Version other a b = absurd a
one_topic (word ∷ second ∷ third ∷ words) one other a b = absurd a
