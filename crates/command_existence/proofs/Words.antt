-- All words are a command, or are not.
use Rattle.std.proofs.Common.{◌≡◌, ◌⊎◌, List, [], ◌∷◌, sym, ap, subst, inl, inr, ⊎_elim}
use Rattle.std.specs.List.{AllByRecursion}
use Rattle.std.specs.Str.{IsUtf8}
use Rattle.command_words.specs.Audit.{audit_word}
use Rattle.command_words.specs.Command.{CommandView, IsNoCommand, Say}
use Rattle.command_words.specs.Compile.{IsForCompile}
use Rattle.command_words.specs.Explore.{explore_word}
use Rattle.command_words.specs.Feed.{feed_word}
use Rattle.command_words.specs.Frames.{frames_word}
use Rattle.command_words.specs.Gen.{gen_word}
use Rattle.command_words.specs.Relay.{relay_word}
use Rattle.command_words.specs.Run.{chart_word, run_word}
use Rattle.command_words.specs.Waits.{waits_word}
use Rattle.command_words.proofs.OneCommand.{for_compile, none_after_audit, none_after_chart, none_after_explore, none_after_feed, none_after_frames, none_after_gen, none_after_relay, none_after_run, none_after_waits, none_for_compile}
use Rattle.report_existence.proofs.Lists.{text_or_not}
use Rattle.command_existence.specs.Laws.{WordsAreDecided}
use Rattle.command_existence.proofs.Commands.{audit_decided, chart_decided, compile_decided, explore_decided, feed_decided, frames_decided, gen_decided, relay_decided, run_decided, waits_decided}
use Rattle.command_existence.proofs.Values.{Text}

-- the words are a command, or are not
abbrev IsDecided : List Text → Type 0
IsDecided words = ((command : CommandView) × Say words command) ⊎ IsNoCommand words

-- a command of one kind, or the proof that there is no such command, decides words that are no other command
so : {None : Type 0} (words : List Text) → (None → IsNoCommand words) → ((command : CommandView) × Say words command) ⊎ None → IsDecided words
so words none (inl c) = inl c
so words none (inr no_command) = inr (none no_command)

by_first : (word : Text) (rest : List Text) → AllByRecursion IsUtf8 (word ∷ rest) → IsDecided (word ∷ rest)
by_first word rest texts =
    ⊎_elim (λ (e : word ≡ frames_word). so (word ∷ rest) (none_after_frames (word ∷ rest) rest (first e)) (at e (frames_decided rest texts.1)))
    (λ no_frames.
    ⊎_elim (λ (e : word ≡ waits_word). so (word ∷ rest) (none_after_waits (word ∷ rest) rest (first e)) (at e (waits_decided rest texts.1)))
    (λ no_waits.
    ⊎_elim (λ (e : word ≡ run_word). so (word ∷ rest) (none_after_run (word ∷ rest) rest (first e)) (at e (run_decided rest texts.1)))
    (λ no_run.
    ⊎_elim (λ (e : word ≡ gen_word). so (word ∷ rest) (none_after_gen (word ∷ rest) rest (first e)) (at e (gen_decided rest texts.1)))
    (λ no_gen.
    ⊎_elim (λ (e : word ≡ feed_word). so (word ∷ rest) (none_after_feed (word ∷ rest) rest (first e)) (at e (feed_decided rest texts.1)))
    (λ no_feed.
    ⊎_elim (λ (e : word ≡ audit_word). so (word ∷ rest) (none_after_audit (word ∷ rest) rest (first e)) (at e (audit_decided rest texts.1)))
    (λ no_audit.
    ⊎_elim (λ (e : word ≡ relay_word). so (word ∷ rest) (none_after_relay (word ∷ rest) rest (first e)) (at e (relay_decided rest texts.1)))
    (λ no_relay.
    ⊎_elim (λ (e : word ≡ chart_word). so (word ∷ rest) (none_after_chart (word ∷ rest) rest (first e)) (at e (chart_decided rest texts.1)))
    (λ no_chart.
    ⊎_elim (λ (e : word ≡ explore_word). so (word ∷ rest) (none_after_explore (word ∷ rest) rest (first e)) (at e (explore_decided rest texts.1)))
    (λ no_explore.
    let chosen : IsForCompile (word ∷ rest) = for_compile word rest no_frames no_waits no_run no_gen no_feed no_audit no_relay no_chart no_explore in
    so (word ∷ rest) (none_for_compile (word ∷ rest) chosen) (compile_decided (word ∷ rest) texts chosen))
    (text_or_not word explore_word))
    (text_or_not word chart_word))
    (text_or_not word relay_word))
    (text_or_not word audit_word))
    (text_or_not word feed_word))
    (text_or_not word gen_word))
    (text_or_not word run_word))
    (text_or_not word waits_word))
    (text_or_not word frames_word)
  where
    first : {other : Text} → word ≡ other → word ∷ rest ≡ other ∷ rest
    first e = ap (λ (w : Text). w ∷ rest) e

    at : {None : Type 0} {other : Text} → word ≡ other → ((command : CommandView) × Say (other ∷ rest) command) ⊎ None → ((command : CommandView) × Say (word ∷ rest) command) ⊎ None
    at e (inl (command, said)) = inl (command, subst (λ (w : Text). Say (w ∷ rest) command) (sym e) said)
    at e (inr none) = inr none

pub words_are_decided : WordsAreDecided
words_are_decided [] texts = so [] (none_for_compile [] tt) (compile_decided [] texts tt)
words_are_decided (word ∷ rest) texts = by_first word rest texts
