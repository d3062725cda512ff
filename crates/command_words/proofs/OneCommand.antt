-- Words are one command at most, and when they are not a command.
use Rattle.std.proofs.Common.{◌≡◌, ◌≢◌, ◌∙◌, ◌+◌, ℕ, Bool, true, false, cond, List, [], ◌∷◌, length, map, refl, sym, ap, subst, arith, inl, inr}
use Rattle.std.specs.Str.{bytes_eq}
use Rattle.command_words.specs.Command.{CommandView, IsNoCommand, Say, audit, chart, compile, explore, feed, frames, gen, relay, run, waits}
use Rattle.command_words.specs.Audit.{IsNoAudit, audit_word}
use Rattle.command_words.specs.Compile.{HasWord, IsForCompile, IsNoCompile, other_commands}
use Rattle.command_words.specs.Explore.{IsNoExplore, explore_word}
use Rattle.command_words.specs.Feed.{IsNoFeed, feed_word}
use Rattle.command_words.specs.Frames.{IsNoFrames, frames_word}
use Rattle.command_words.specs.Gen.{IsNoGen, gen_word}
use Rattle.command_words.specs.Relay.{IsNoRelay, relay_word}
use Rattle.command_words.specs.Run.{IsNoChart, IsNoRun, chart_word, run_word}
use Rattle.command_words.specs.Waits.{IsNoWaits, waits_word}
use Rattle.command_words.proofs.AuditFound.{one_audit}
use Rattle.command_words.proofs.Comparisons.{text_is}
use Rattle.command_words.proofs.Compiled.{Text, one_compile}
use Rattle.command_words.proofs.ExploreFound.{one_explore}
use Rattle.command_words.proofs.FeedFound.{one_feed}
use Rattle.command_words.proofs.FramesFound.{one_frames}
use Rattle.command_words.proofs.GenFound.{one_gen}
use Rattle.command_words.proofs.RelayFound.{one_relay}
use Rattle.command_words.proofs.RunFound.{one_run}
use Rattle.command_words.proofs.WaitsFound.{one_waits}

-- the place of a word in a list, which is the length of the list if it is not there
abbrev place : List Text → Text → ℕ
place [] word = 0
place (w ∷ ws) word = cond (bytes_eq w word) 0 (1 + place ws word)

-- the command that words choose, by the place of its word among those of the other commands
abbrev chosen : List Text → ℕ
chosen [] = length other_commands
chosen (word ∷ words) = place other_commands word

abbrev kind : CommandView → ℕ
kind (frames l p f g c) = 0
kind (waits l p f) = 1
kind (run l p c s f) = 2
kind (gen n m) = 3
kind (feed l p c s f g) = 4
kind (audit l p n s f g) = 5
kind (relay l p c s f) = 6
kind (chart l p c s f) = 7
kind (explore l p c s f) = 8
kind (compile l p f) = length other_commands

absent : (ws : List Text) (word : Text) → ¬ HasWord ws word → place ws word ≡ length ws
absent [] word none = refl
absent (w ∷ ws) word none = go (bytes_eq w word) refl (absent ws word (λ has. none (inr has)))
  where
    go : (b : Bool) → bytes_eq w word ≡ b → place ws word ≡ length ws → cond b 0 (1 + place ws word) ≡ length (w ∷ ws)
    go true e later = absurd (none (inl (text_is w word e)))
    go false e later = omega (arith, later)

-- words that say a command choose it
begin : (word first : Text) (n : ℕ) → n ≡ place other_commands first → word ≡ first → n ≡ place other_commands word
begin word first n is e = is ∙ ap (place other_commands) (sym e)

kind_is : (words : List Text) (command : CommandView) → Say words command → kind command ≡ chosen words
kind_is [] (compile l p f) said = refl
kind_is [] (frames l p f g c) said = absurd said
kind_is [] (waits l p f) said = absurd said
kind_is [] (run l p c s f) said = absurd said
kind_is [] (gen n m) said = absurd said
kind_is [] (feed l p c s f g) said = absurd said
kind_is [] (audit l p n s f g) said = absurd said
kind_is [] (relay l p c s f) said = absurd said
kind_is [] (chart l p c s f) said = absurd said
kind_is [] (explore l p c s f) said = absurd said
kind_is (word ∷ words) (compile l p f) said = sym (absent other_commands word said.chosen)
kind_is (word ∷ words) (frames l p f g c) said = begin word frames_word 0 refl said.0
kind_is (word ∷ words) (waits l p f) said = begin word waits_word 1 refl said.0
kind_is (word ∷ words) (run l p c s f) said = begin word run_word 2 refl said.0
kind_is (word ∷ words) (gen n m) said = begin word gen_word 3 refl said.0
kind_is (word ∷ words) (feed l p c s f g) said = begin word feed_word 4 refl said.0
kind_is (word ∷ words) (audit l p n s f g) said = begin word audit_word 5 refl said.0
kind_is (word ∷ words) (relay l p c s f) said = begin word relay_word 6 refl said.0
kind_is (word ∷ words) (chart l p c s f) said = begin word chart_word 7 refl said.0
kind_is (word ∷ words) (explore l p c s f) said = begin word explore_word 8 refl said.0

pub one_command : (words : List Text) (one other : CommandView) → Say words one → Say words other → one ≡ other
one_command words (compile l p f) (compile l' p' f') a b = let e = one_compile words l l' p p' f f' a b in rw (e.0, e.1, e.2) refl
one_command words (frames l p f g c) (frames l' p' f' g' c') a b = let e = one_frames words l l' p p' f f' g g' c c' a b in rw (e.0, e.1, e.2, e.3, e.4) refl
one_command words (waits l p f) (waits l' p' f') a b = let e = one_waits words l l' p p' f f' a b in rw (e.0, e.1, e.2) refl
one_command words (run l p c s f) (run l' p' c' s' f') a b = let e = one_run run_word words l l' p p' c c' s s' f f' a b in rw (e.0, e.1, e.2, e.3, e.4) refl
one_command words (gen n m) (gen n' m') a b = let e = one_gen words n n' m m' a b in rw (e.0, e.1) refl
one_command words (feed l p c s f g) (feed l' p' c' s' f' g') a b = let e = one_feed words l l' p p' c c' s s' f f' g g' a b in rw (e.0, e.1, e.2, e.3, e.4, e.5) refl
one_command words (audit l p n s f g) (audit l' p' n' s' f' g') a b = let e = one_audit words l l' p p' n n' s s' f f' g g' a b in rw (e.0, e.1, e.2, e.3, e.4, e.5) refl
one_command words (relay l p c s f) (relay l' p' c' s' f') a b = let e = one_relay words l l' p p' c c' s s' f f' a b in rw (e.0, e.1, e.2, e.3, e.4) refl
one_command words (chart l p c s f) (chart l' p' c' s' f') a b = let e = one_run chart_word words l l' p p' c c' s s' f f' a b in rw (e.0, e.1, e.2, e.3, e.4) refl
one_command words (explore l p c s f) (explore l' p' c' s' f') a b = let e = one_explore words l l' p p' c c' s s' f f' a b in rw (e.0, e.1, e.2, e.3, e.4) refl
one_command words one other a b = let e = kind_is words one a ∙ sym (kind_is words other b) in absurd (omega (arith, e))

-- words that choose no other command and compile nothing are not a command
pub none_for_compile : (words : List Text) → IsForCompile words → IsNoCompile words → IsNoCommand words
none_for_compile words for none (compile l p f) said = none l p f said
none_for_compile [] for none command said = absurd said
none_for_compile (word ∷ words) for none command said = let e = kind_is (word ∷ words) command said ∙ absent other_commands word for in absurd (omega (arith, e))

-- words whose first is that of none of them choose no other command, and no words do
pub for_compile : (word : Text) (words : List Text) → word ≢ frames_word → word ≢ waits_word → word ≢ run_word → word ≢ gen_word → word ≢ feed_word → word ≢ audit_word → word ≢ relay_word → word ≢ chart_word → word ≢ explore_word → IsForCompile (word ∷ words)
for_compile word words no_frames no_waits no_run no_gen no_feed no_audit no_relay no_chart no_explore (inl e) = no_frames (sym e)
for_compile word words no_frames no_waits no_run no_gen no_feed no_audit no_relay no_chart no_explore (inr (inl e)) = no_waits (sym e)
for_compile word words no_frames no_waits no_run no_gen no_feed no_audit no_relay no_chart no_explore (inr (inr (inl e))) = no_run (sym e)
for_compile word words no_frames no_waits no_run no_gen no_feed no_audit no_relay no_chart no_explore (inr (inr (inr (inl e)))) = no_gen (sym e)
for_compile word words no_frames no_waits no_run no_gen no_feed no_audit no_relay no_chart no_explore (inr (inr (inr (inr (inl e))))) = no_feed (sym e)
for_compile word words no_frames no_waits no_run no_gen no_feed no_audit no_relay no_chart no_explore (inr (inr (inr (inr (inr (inl e)))))) = no_audit (sym e)
for_compile word words no_frames no_waits no_run no_gen no_feed no_audit no_relay no_chart no_explore (inr (inr (inr (inr (inr (inr (inl e))))))) = no_relay (sym e)
for_compile word words no_frames no_waits no_run no_gen no_feed no_audit no_relay no_chart no_explore (inr (inr (inr (inr (inr (inr (inr (inl e)))))))) = no_chart (sym e)
for_compile word words no_frames no_waits no_run no_gen no_feed no_audit no_relay no_chart no_explore (inr (inr (inr (inr (inr (inr (inr (inr (inl e))))))))) = no_explore (sym e)
for_compile word words no_frames no_waits no_run no_gen no_feed no_audit no_relay no_chart no_explore (inr (inr (inr (inr (inr (inr (inr (inr (inr none))))))))) = none

pub none_to_compile : {X : Type 0} (f : X → Text) (words : List X) → length words ≡ 0 → IsForCompile (map f words)
none_to_compile f [] e = tt
none_to_compile f (word ∷ words) e = absurd (omega arith)

-- words that begin with the word of one command and are not that command are not a command
following : (words rest : List Text) (word : Text) → words ≡ word ∷ rest → IsNoCommand (word ∷ rest) → IsNoCommand words
following words rest word e none = subst IsNoCommand (sym e) none

no_frames : (rest : List Text) → IsNoFrames (frames_word ∷ rest) → IsNoCommand (frames_word ∷ rest)
no_frames rest none (frames l p f g c) said = none l p f g c said
no_frames rest none command said = let e = kind_is (frames_word ∷ rest) command said in absurd (omega (arith, e))

pub none_after_frames : (words rest : List Text) → words ≡ frames_word ∷ rest → IsNoFrames (frames_word ∷ rest) → IsNoCommand words
none_after_frames words rest e none = following words rest frames_word e (no_frames rest none)

no_waits : (rest : List Text) → IsNoWaits (waits_word ∷ rest) → IsNoCommand (waits_word ∷ rest)
no_waits rest none (waits l p f) said = none l p f said
no_waits rest none command said = let e = kind_is (waits_word ∷ rest) command said in absurd (omega (arith, e))

pub none_after_waits : (words rest : List Text) → words ≡ waits_word ∷ rest → IsNoWaits (waits_word ∷ rest) → IsNoCommand words
none_after_waits words rest e none = following words rest waits_word e (no_waits rest none)

no_run : (rest : List Text) → IsNoRun (run_word ∷ rest) → IsNoCommand (run_word ∷ rest)
no_run rest none (run l p c s f) said = none l p c s f said
no_run rest none command said = let e = kind_is (run_word ∷ rest) command said in absurd (omega (arith, e))

pub none_after_run : (words rest : List Text) → words ≡ run_word ∷ rest → IsNoRun (run_word ∷ rest) → IsNoCommand words
none_after_run words rest e none = following words rest run_word e (no_run rest none)

no_gen : (rest : List Text) → IsNoGen (gen_word ∷ rest) → IsNoCommand (gen_word ∷ rest)
no_gen rest none (gen n m) said = none n m said
no_gen rest none command said = let e = kind_is (gen_word ∷ rest) command said in absurd (omega (arith, e))

pub none_after_gen : (words rest : List Text) → words ≡ gen_word ∷ rest → IsNoGen (gen_word ∷ rest) → IsNoCommand words
none_after_gen words rest e none = following words rest gen_word e (no_gen rest none)

no_feed : (rest : List Text) → IsNoFeed (feed_word ∷ rest) → IsNoCommand (feed_word ∷ rest)
no_feed rest none (feed l p c s f g) said = none l p c s f g said
no_feed rest none command said = let e = kind_is (feed_word ∷ rest) command said in absurd (omega (arith, e))

pub none_after_feed : (words rest : List Text) → words ≡ feed_word ∷ rest → IsNoFeed (feed_word ∷ rest) → IsNoCommand words
none_after_feed words rest e none = following words rest feed_word e (no_feed rest none)

no_audit : (rest : List Text) → IsNoAudit (audit_word ∷ rest) → IsNoCommand (audit_word ∷ rest)
no_audit rest none (audit l p n s f g) said = none l p n s f g said
no_audit rest none command said = let e = kind_is (audit_word ∷ rest) command said in absurd (omega (arith, e))

pub none_after_audit : (words rest : List Text) → words ≡ audit_word ∷ rest → IsNoAudit (audit_word ∷ rest) → IsNoCommand words
none_after_audit words rest e none = following words rest audit_word e (no_audit rest none)

no_relay : (rest : List Text) → IsNoRelay (relay_word ∷ rest) → IsNoCommand (relay_word ∷ rest)
no_relay rest none (relay l p c s f) said = none l p c s f said
no_relay rest none command said = let e = kind_is (relay_word ∷ rest) command said in absurd (omega (arith, e))

pub none_after_relay : (words rest : List Text) → words ≡ relay_word ∷ rest → IsNoRelay (relay_word ∷ rest) → IsNoCommand words
none_after_relay words rest e none = following words rest relay_word e (no_relay rest none)

no_chart : (rest : List Text) → IsNoChart (chart_word ∷ rest) → IsNoCommand (chart_word ∷ rest)
no_chart rest none (chart l p c s f) said = none l p c s f said
no_chart rest none command said = let e = kind_is (chart_word ∷ rest) command said in absurd (omega (arith, e))

pub none_after_chart : (words rest : List Text) → words ≡ chart_word ∷ rest → IsNoChart (chart_word ∷ rest) → IsNoCommand words
none_after_chart words rest e none = following words rest chart_word e (no_chart rest none)

no_explore : (rest : List Text) → IsNoExplore (explore_word ∷ rest) → IsNoCommand (explore_word ∷ rest)
no_explore rest none (explore l p c s f) said = none l p c s f said
no_explore rest none command said = let e = kind_is (explore_word ∷ rest) command said in absurd (omega (arith, e))

pub none_after_explore : (words rest : List Text) → words ≡ explore_word ∷ rest → IsNoExplore (explore_word ∷ rest) → IsNoCommand words
none_after_explore words rest e none = following words rest explore_word e (no_explore rest none)
