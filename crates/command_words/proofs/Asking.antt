-- Words that ask for help or for the version are no command.
use Rattle.std.proofs.Common.{◌≡◌, ◌≢◌, ◌⊎◌, ◌∙◌, ℕ, ◌==◌, ◌||◌, Bool, true, false, List, [], ◌∷◌, ◌++◌, codes, drop, get_or, refl, sym, ap, subst, inl, inr, ⊎_elim, true≢false, arith}
use Rattle.std.specs.Prelude.{Option, Some}
use Rattle.std.specs.List.{AllByRecursion}
use Rattle.ipdl_base.specs.FileNames.{IsFileWord}
use Rattle.command_words.specs.declared.topic.CommandName.{CommandName}
use Rattle.command_words.specs.declared.topic.CommandName.TheVariants as names
use Rattle.command_words.specs.declared.topic.Topic.TheVariants.{Program, Command, Version}
use Rattle.command_words.specs.Command.{CommandView, IsNoCommand, Say, audit, chart, compile, explore, feed, frames, gen, relay, run, waits}
use Rattle.command_words.specs.Audit.{audit_options}
use Rattle.command_words.specs.Compile.{IsCompile, compile_options, firsts}
use Rattle.command_words.specs.Explore.{explore_options}
use Rattle.command_words.specs.Feed.{feed_options}
use Rattle.command_words.specs.Frames.{frames_options}
use Rattle.command_words.specs.Gen.{gen_options}
use Rattle.command_words.specs.Relay.{relay_options}
use Rattle.command_words.specs.Run.{run_options}
use Rattle.command_words.specs.Options.{Choice, IsAmong, IsApart, IsAttached, IsJoined, IsPlain, Reads, WordUse, ends, rest, own, apart, joined, own_words}
use Rattle.command_words.specs.Tables.{IsTable}
use Rattle.command_words.specs.Topics.{AskingIsNoCommand, IsHelpFlag, help_word, name_of}
use Rattle.command_words.proofs.AuditFound.{audit_table}
use Rattle.command_words.proofs.Compiled.{Text, table}
use Rattle.command_words.proofs.ExploreFound.{explore_table}
use Rattle.command_words.proofs.FeedFound.{feed_table}
use Rattle.command_words.proofs.FramesFound.{frames_table}
use Rattle.command_words.proofs.GenFound.{gen_table}
use Rattle.command_words.proofs.RelayFound.{relay_table}
use Rattle.command_words.proofs.RunFound.{run_table}

-- Bytes in a text

has : ℕ → Text → Bool
has byte [] = false
has byte (b ∷ text) = (b == byte) || has byte text

has_after : (byte : ℕ) (before after : Text) → has byte after ≡ true → has byte (before ++ after) ≡ true
unfolding has
has_after byte [] after h = h
has_after byte (b ∷ before) after h = so (b == byte) (has_after byte before after h)
  where
    so : (same : Bool) {later : Bool} → later ≡ true → (same || later) ≡ true
    so true h = refl
    so false h = h

-- the head of a text
abbrev head : Text → ℕ
head text = get_or text 0 0

-- A word that begins with `-`, has two bytes or more, and no `=`: no option is given by it alone.
record IsFlag (word : Text) : Type 0 where
  plain : IsPlain word → ⊥
  whole : has 61 word ≡ false
  short : (letter : ℕ) (value : Text) → word ≡ 45 ∷ letter ∷ value → (letter ≡ 45) ⊎ (value ≡ [])
  not_dashes : word ≢ codes "--"

no_dash : (options : List Choice) → IsTable options → (o : Choice) → IsAmong options o → o.letter ≡ Some 45 → ⊥
no_dash [] t o among letter = absurd among
no_dash (first ∷ others) t o (inl same) letter = (t.4 45 (ap (λ (c : Choice). c.letter) same ∙ letter)).1 refl
no_dash (first ∷ others) t o (inr among) letter = no_dash others t.5 o among letter

equals_sign : (before after : Text) → has 61 (before ++ 61 ∷ after) ≡ true
unfolding has
equals_sign before after = has_after 61 before (61 ∷ after) refl

-- a word that gives an option begins with `-`
dashed : (o : Choice) (word : Text) → IsApart o word → head word ≡ 45
dashed o word (inl long) = ap head long
dashed o word (inr (letter, letter_is, short)) = ap head short

dashed_too : (o : Choice) (value word : Text) → IsJoined o value word → head word ≡ 45
dashed_too o value word (inl long) = ap head long
dashed_too o value word (inr (letter, letter_is, inl short)) = ap head short
dashed_too o value word (inr (letter, letter_is, inr attached)) = ap head attached.0

module _ (options : List Choice) (t : IsTable options) (flag : Text) (f : IsFlag flag) where
  not_joined : (o : Choice) (value word : Text) → IsAmong options o → word ≡ flag → IsJoined o value word → ⊥
  not_joined o value word among is (inl long) =
      true≢false (sym (has_after 61 (codes "--") (o.name ++ 61 ∷ value) (equals_sign o.name value)) ∙ ap (has 61) (sym long ∙ is) ∙ f.whole)
  not_joined o value word among is (inr (letter, letter_is, inl joined_is)) =
      true≢false (sym (equals_sign (45 ∷ letter ∷ []) value) ∙ ap (has 61) (sym joined_is ∙ is) ∙ f.whole)
  not_joined o value word among is (inr (letter, letter_is, inr attached)) =
      ⊎_elim (λ (dash : letter ≡ 45). no_dash options t o among (letter_is ∙ ap Some dash)) (λ (none : value ≡ []). subst IsAttached none attached.1) (f.short letter value (sym is ∙ attached.0))

  -- so these words are read as nothing
  unread : (words : List Text) (said : List WordUse) → Reads options words said → words ≡ flag ∷ [] → ⊥
  unread _ _ ends e = cc
  unread _ _ (rest words) e = f.not_dashes (sym (ap (λ (ws : List Text). get_or ws 0 []) e))
  unread _ _ (own word words said plain reads) e = f.plain (subst IsPlain (ap (λ (ws : List Text). get_or ws 0 []) e) plain)
  unread _ _ (apart o word value words said among is plain reads) e = cc
  unread _ _ (joined o word value words said among is reads) e = not_joined o value word among (ap (λ (ws : List Text). get_or ws 0 []) e) is

  -- nor after a word that does not begin with `-`
  unread_after : (first : Text) → head first ≢ 45 → (words : List Text) (said : List WordUse) → Reads options words said → words ≡ first ∷ flag ∷ [] → ⊥
  unread_after first never _ _ ends e = cc
  unread_after first never _ _ (rest words) e = never (sym (ap (λ (ws : List Text). head (get_or ws 0 [])) e))
  unread_after first never _ _ (own word words said plain reads) e = unread words said reads (ap (drop 1) e)
  unread_after first never _ _ (apart o word value words said among is plain reads) e =
      let same : word ≡ first = ap (λ (ws : List Text). get_or ws 0 []) e in
      never (sym (ap head same) ∙ dashed o word is)
  unread_after first never _ _ (joined o word value words said among is reads) e =
      let same : word ≡ first = ap (λ (ws : List Text). get_or ws 0 []) e in
      never (sym (ap head same) ∙ dashed_too o value word is)

-- The words of help and of the version

long_flag : IsFlag (codes "--help")
unfolding has
long_flag = record { plain = λ plain. plain refl; whole = refl; short = λ letter value e. inl (sym (ap (λ (text : Text). get_or text 1 0) e)); not_dashes = λ e. cc }

short_flag : IsFlag (codes "-h")
unfolding has
short_flag = record { plain = λ plain. plain refl; whole = refl; short = λ letter value e. inr (sym (ap (drop 2) e)); not_dashes = λ e. cc }

version_flag : IsFlag (codes "--version")
unfolding has
version_flag = record { plain = λ plain. plain refl; whole = refl; short = λ letter value e. inl (sym (ap (λ (text : Text). get_or text 1 0) e)); not_dashes = λ e. cc }

is_flag : (word : Text) → IsHelpFlag word → IsFlag word
is_flag word (inl is) = subst IsFlag (sym is) long_flag
is_flag word (inr is) = subst IsFlag (sym is) short_flag

-- A word of its own is a file for the command that compiles, and these words are none
has_dot : has 46 (codes ".ipdl") ≡ true
unfolding has
has_dot = refl

has_dot_too : has 46 (codes ".ipdlh") ≡ true
unfolding has
has_dot_too = refl

no_file : (word : Text) → has 46 word ≡ false → IsFileWord word → ⊥
no_file word none (before, inl is) = true≢false (sym (has_after 46 before (codes ".ipdl") has_dot) ∙ ap (has 46) (sym is) ∙ none)
no_file word none (before, inr is) = true≢false (sym (has_after 46 before (codes ".ipdlh") has_dot_too) ∙ ap (has 46) (sym is) ∙ none)

module _ (options : List Choice) where
  -- a first word that does not begin with `-` is a word of its own
  own_first : (first : Text) (more : List Text) → head first ≢ 45 → (words : List Text) (said : List WordUse) → Reads options words said → words ≡ first ∷ more → (later : List Text) × (own_words said ≡ first ∷ later)
  own_first first more never _ _ ends e = cc
  own_first first more never _ _ (rest words) e = absurd (never (sym (ap (λ (ws : List Text). head (get_or ws 0 [])) e)))
  own_first first more never _ _ (own word words said plain reads) e = (own_words said, ap (λ (w : Text). w ∷ own_words said) (ap (λ (ws : List Text). get_or ws 0 []) e))
  own_first first more never _ _ (apart o word value words said among is plain reads) e = absurd (never (sym (ap (λ (ws : List Text). head (get_or ws 0 [])) e) ∙ dashed o word is))
  own_first first more never _ _ (joined o word value words said among is reads) e = absurd (never (sym (ap (λ (ws : List Text). head (get_or ws 0 [])) e) ∙ dashed_too o value word is))

-- the command that compiles has no first word without a dot
no_compile : (first : Text) (more : List Text) → head first ≢ 45 → has 46 first ≡ false → (list : Option Text) (path files : List Text) → IsCompile (first ∷ more) list path files → ⊥
no_compile first more never none list path files is =
    let o = own_first compile_options first more never (first ∷ more) is.said is.reads refl in
    let e : files ≡ firsts (first ∷ o.0) = is.files_are.listed.files_are ∙ ap firsts o.1 in
    no_file first none (subst (AllByRecursion IsFileWord) e is.files_are.listed.each).0

-- Each form

after_word : (word flag : Text) → IsFlag flag → head word ≢ 45 → (command : CommandView) → Say (word ∷ flag ∷ []) command → ⊥
after_word word flag f never (compile l p g) said = unread_after compile_options table flag f word never (word ∷ flag ∷ []) said.said said.reads refl
after_word word flag f never (frames l p g n c) said = unread frames_options frames_table flag f (flag ∷ []) said.1.said said.1.reads refl
after_word word flag f never (waits l p g) said = unread compile_options table flag f (flag ∷ []) said.1.said said.1.reads refl
after_word word flag f never (run l p c s g) said = unread run_options run_table flag f (flag ∷ []) said.1.said said.1.reads refl
after_word word flag f never (gen n m) said = unread gen_options gen_table flag f (flag ∷ []) said.1.said said.1.reads refl
after_word word flag f never (feed l p c s g n) said = unread feed_options feed_table flag f (flag ∷ []) said.1.said said.1.reads refl
after_word word flag f never (audit l p n s g t) said = unread audit_options audit_table flag f (flag ∷ []) said.1.said said.1.reads refl
after_word word flag f never (relay l p c s g) said = unread relay_options relay_table flag f (flag ∷ []) said.1.said said.1.reads refl
after_word word flag f never (chart l p c s g) said = unread run_options run_table flag f (flag ∷ []) said.1.said said.1.reads refl
after_word word flag f never (explore l p c s g) said = unread explore_options explore_table flag f (flag ∷ []) said.1.said said.1.reads refl

-- no first word of a command other than the one that compiles begins so
record IsOtherHead (byte : ℕ) : Type 0 where
  no_frames : byte ≢ 102
  no_waits : byte ≢ 119
  no_run : byte ≢ 114
  no_gen : byte ≢ 103
  no_audit : byte ≢ 97
  no_chart : byte ≢ 99
  no_explore : byte ≢ 101

dash_is_other : IsOtherHead 45
dash_is_other = record { no_frames = λ e. omega (arith, e); no_waits = λ e. omega (arith, e); no_run = λ e. omega (arith, e); no_gen = λ e. omega (arith, e); no_audit = λ e. omega (arith, e); no_chart = λ e. omega (arith, e); no_explore = λ e. omega (arith, e) }

help_is_other : IsOtherHead 104
help_is_other = record { no_frames = λ e. omega (arith, e); no_waits = λ e. omega (arith, e); no_run = λ e. omega (arith, e); no_gen = λ e. omega (arith, e); no_audit = λ e. omega (arith, e); no_chart = λ e. omega (arith, e); no_explore = λ e. omega (arith, e) }

version_is_other : IsOtherHead 118
version_is_other = record { no_frames = λ e. omega (arith, e); no_waits = λ e. omega (arith, e); no_run = λ e. omega (arith, e); no_gen = λ e. omega (arith, e); no_audit = λ e. omega (arith, e); no_chart = λ e. omega (arith, e); no_explore = λ e. omega (arith, e) }

by_first : (first : Text) (more : List Text) → IsOtherHead (head first) → ((list : Option Text) (path files : List Text) → IsCompile (first ∷ more) list path files → ⊥) → (command : CommandView) → Say (first ∷ more) command → ⊥
by_first first more other none (compile l p g) said = none l p g said
by_first first more other none (frames l p g n c) said = other.no_frames (ap head said.0)
by_first first more other none (waits l p g) said = other.no_waits (ap head said.0)
by_first first more other none (run l p c s g) said = other.no_run (ap head said.0)
by_first first more other none (gen n m) said = other.no_gen (ap head said.0)
by_first first more other none (feed l p c s g n) said = other.no_frames (ap head said.0)
by_first first more other none (audit l p n s g t) said = other.no_audit (ap head said.0)
by_first first more other none (relay l p c s g) said = other.no_run (ap head said.0)
by_first first more other none (chart l p c s g) said = other.no_chart (ap head said.0)
by_first first more other none (explore l p c s g) said = other.no_explore (ap head said.0)

alone : (flag : Text) → IsFlag flag → head flag ≡ 45 → IsNoCommand (flag ∷ [])
alone flag f dash command said =
    by_first flag [] (subst IsOtherHead (sym dash) dash_is_other) (λ list path files is. unread compile_options table flag f (flag ∷ []) is.said is.reads refl) command said

help_has_no_dot : has 46 help_word ≡ false
unfolding has
help_has_no_dot = refl

version_has_no_dot : has 46 (codes "version") ≡ false
unfolding has
version_has_no_dot = refl

after_help : (more : List Text) → IsNoCommand (help_word ∷ more)
after_help more command said = by_first help_word more help_is_other (no_compile help_word more (λ e. let d : 104 ≡ 45 = e in omega (arith, d)) help_has_no_dot) command said

after_version : (more : List Text) → IsNoCommand (codes "version" ∷ more)
after_version more command said = by_first (codes "version") more version_is_other (no_compile (codes "version") more (λ e. let d : 118 ≡ 45 = e in omega (arith, d)) version_has_no_dot) command said

-- no name of a command begins with `-`
plain_name : (name : CommandName) → head (name_of name) ≢ 45
plain_name names.Compile = λ e. let d : 99 ≡ 45 = e in omega (arith, d)
plain_name names.Run = λ e. let d : 114 ≡ 45 = e in omega (arith, d)
plain_name names.Frames = λ e. let d : 102 ≡ 45 = e in omega (arith, d)
plain_name names.Gen = λ e. let d : 103 ≡ 45 = e in omega (arith, d)
plain_name names.Feed = λ e. let d : 102 ≡ 45 = e in omega (arith, d)
plain_name names.Relay = λ e. let d : 114 ≡ 45 = e in omega (arith, d)
plain_name names.Audit = λ e. let d : 97 ≡ 45 = e in omega (arith, d)
plain_name names.Waits = λ e. let d : 119 ≡ 45 = e in omega (arith, d)
plain_name names.Chart = λ e. let d : 99 ≡ 45 = e in omega (arith, d)
plain_name names.Explore = λ e. let d : 101 ≡ 45 = e in omega (arith, d)

first_as : (word other : Text) (more : List Text) → word ≡ other → IsNoCommand (other ∷ more) → IsNoCommand (word ∷ more)
first_as word other more same none = subst (λ (w : Text). IsNoCommand (w ∷ more)) (sym same) none

pub asking_is_no_command : AskingIsNoCommand
asking_is_no_command [] topic asks = absurd asks
asking_is_no_command (word ∷ []) Program (inl help) = first_as word help_word [] help (after_help [])
asking_is_no_command (word ∷ []) Program (inr (inl flag)) = first_as word (codes "--help") [] flag (alone (codes "--help") long_flag refl)
asking_is_no_command (word ∷ []) Program (inr (inr flag)) = first_as word (codes "-h") [] flag (alone (codes "-h") short_flag refl)
asking_is_no_command (word ∷ []) (Command name) asks = absurd asks
asking_is_no_command (word ∷ []) Version (inl version) = first_as word (codes "version") [] version (after_version [])
asking_is_no_command (word ∷ []) Version (inr version) = first_as word (codes "--version") [] version (alone (codes "--version") version_flag refl)
asking_is_no_command (word ∷ other ∷ []) Program asks = absurd asks
asking_is_no_command (word ∷ other ∷ []) (Command name) (inl asks) = first_as word help_word (other ∷ []) asks.0 (after_help (other ∷ []))
asking_is_no_command (word ∷ other ∷ []) (Command name) (inr asks) = λ command said. after_word word other (is_flag other asks.1) (λ dash. plain_name name (sym (ap head asks.0) ∙ dash)) command said
asking_is_no_command (word ∷ other ∷ []) Version asks = absurd asks
asking_is_no_command (word ∷ other ∷ third ∷ words) topic asks = absurd asks
