use Rattle.std.proofs.Common.{◌≡◌, ◌≢◌, ◌∙◌, map, string_bytes, ℕ, Bool, false, List, ◌∷◌, sym, ap, subst, true≢false}
use Rattle.std.specs.Str.{bytes_eq}
use Rattle.command_words.specs.Audit.{audit_word}
use Rattle.command_words.specs.Compile.{IsForCompile}
use Rattle.command_words.specs.Explore.{explore_word}
use Rattle.command_words.specs.Feed.{feed_word}
use Rattle.command_words.specs.Frames.{frames_word}
use Rattle.command_words.specs.Gen.{gen_word}
use Rattle.command_words.specs.Relay.{relay_word}
use Rattle.command_words.specs.Run.{chart_word, run_word}
use Rattle.command_words.specs.Waits.{waits_word}
use Rattle.command_words.proofs.Comparisons.{same_text, text_is}
use Rattle.command_words.proofs.Errors.{weaker}
use Rattle.command_words.proofs.OneCommand.{none_after_audit, none_after_chart, none_after_explore, none_after_feed, none_after_frames, none_after_gen, none_after_relay, none_after_run, none_after_waits, none_for_compile, none_to_compile, for_compile}
use Rattle.command_words.proofs.command.read_words.Goals as goal
use Rattle.command_words.proofs.command.read_words.Goals.{in-Some+else-eq+else-eq-2+else-eq-3+else-eq-4+else-eq-5+else-eq-6+else-eq-7+else-eq-8+else-eq-9, in_default}

pub returns-then-eq-clause-usage : goal.returns-then-eq-clause-usage
returns-then-eq-clause-usage c =
    let first : string_bytes c.in-Some.first.now ≡ frames_word = sym c.as_str.ensures.value ∙ text_is c.as_str.result.now frames_word (sym c.eq.ensures ∙ c.if-eq.true) in
    let words : map string_bytes c.args.words.now ≡ frames_word ∷ map string_bytes c.in-Some.rest.now =
    ap (map string_bytes) c.in-Some.ensures.cases.0 ∙ ap (λ (w : List ℕ). w ∷ map string_bytes c.in-Some.rest.now) first in
    weaker c.frames.result _ _ c.frames.ensures.usage (λ fault none usage. none_after_frames _ _ words (none usage))

pub returns-then-eq-2-clause-usage : goal.returns-then-eq-2-clause-usage
returns-then-eq-2-clause-usage c =
    let first : string_bytes c.in-Some.first.now ≡ waits_word = sym c.as_str-in-Some.ensures.value ∙ text_is c.as_str-in-Some.result.now waits_word (sym c.eq-in-Some.ensures ∙ c.if-eq-2.true) in
    let words : map string_bytes c.args.words.now ≡ waits_word ∷ map string_bytes c.in-Some.rest.now =
    ap (map string_bytes) c.in-Some.ensures.cases.0 ∙ ap (λ (w : List ℕ). w ∷ map string_bytes c.in-Some.rest.now) first in
    weaker c.waits.result _ _ c.waits.ensures.usage (λ fault none usage. none_after_waits _ _ words (none usage))

pub returns-then-eq-3-clause-usage : goal.returns-then-eq-3-clause-usage
returns-then-eq-3-clause-usage c =
    let first : string_bytes c.in-Some.first.now ≡ run_word = sym c.as_str-in-Some-2.ensures.value ∙ text_is c.as_str-in-Some-2.result.now run_word (sym c.eq-in-Some-2.ensures ∙ c.if-eq-3.true) in
    let words : map string_bytes c.args.words.now ≡ run_word ∷ map string_bytes c.in-Some.rest.now =
    ap (map string_bytes) c.in-Some.ensures.cases.0 ∙ ap (λ (w : List ℕ). w ∷ map string_bytes c.in-Some.rest.now) first in
    weaker c.run.result _ _ c.run.ensures.usage (λ fault none usage. none_after_run _ _ words (none usage))

pub returns-then-eq-4-clause-usage : goal.returns-then-eq-4-clause-usage
returns-then-eq-4-clause-usage c =
    let first : string_bytes c.in-Some.first.now ≡ gen_word = sym c.as_str-in-Some-3.ensures.value ∙ text_is c.as_str-in-Some-3.result.now gen_word (sym c.eq-in-Some-3.ensures ∙ c.if-eq-4.true) in
    let words : map string_bytes c.args.words.now ≡ gen_word ∷ map string_bytes c.in-Some.rest.now =
    ap (map string_bytes) c.in-Some.ensures.cases.0 ∙ ap (λ (w : List ℕ). w ∷ map string_bytes c.in-Some.rest.now) first in
    weaker c.generation.result _ _ c.generation.ensures.usage (λ fault none usage. none_after_gen _ _ words (none usage))

pub returns-then-eq-5-clause-usage : goal.returns-then-eq-5-clause-usage
returns-then-eq-5-clause-usage c =
    let first : string_bytes c.in-Some.first.now ≡ feed_word = sym c.as_str-in-Some-4.ensures.value ∙ text_is c.as_str-in-Some-4.result.now feed_word (sym c.eq-in-Some-4.ensures ∙ c.if-eq-5.true) in
    let words : map string_bytes c.args.words.now ≡ feed_word ∷ map string_bytes c.in-Some.rest.now =
    ap (map string_bytes) c.in-Some.ensures.cases.0 ∙ ap (λ (w : List ℕ). w ∷ map string_bytes c.in-Some.rest.now) first in
    weaker c.feed.result _ _ c.feed.ensures.usage (λ fault none usage. none_after_feed _ _ words (none usage))

pub returns-then-eq-6-clause-usage : goal.returns-then-eq-6-clause-usage
returns-then-eq-6-clause-usage c =
    let first : string_bytes c.in-Some.first.now ≡ audit_word = sym c.as_str-in-Some-5.ensures.value ∙ text_is c.as_str-in-Some-5.result.now audit_word (sym c.eq-in-Some-5.ensures ∙ c.if-eq-6.true) in
    let words : map string_bytes c.args.words.now ≡ audit_word ∷ map string_bytes c.in-Some.rest.now =
    ap (map string_bytes) c.in-Some.ensures.cases.0 ∙ ap (λ (w : List ℕ). w ∷ map string_bytes c.in-Some.rest.now) first in
    weaker c.audit.result _ _ c.audit.ensures.usage (λ fault none usage. none_after_audit _ _ words (none usage))

pub returns-then-eq-7-clause-usage : goal.returns-then-eq-7-clause-usage
returns-then-eq-7-clause-usage c =
    let first : string_bytes c.in-Some.first.now ≡ relay_word = sym c.as_str-in-Some-6.ensures.value ∙ text_is c.as_str-in-Some-6.result.now relay_word (sym c.eq-in-Some-6.ensures ∙ c.if-eq-7.true) in
    let words : map string_bytes c.args.words.now ≡ relay_word ∷ map string_bytes c.in-Some.rest.now =
    ap (map string_bytes) c.in-Some.ensures.cases.0 ∙ ap (λ (w : List ℕ). w ∷ map string_bytes c.in-Some.rest.now) first in
    weaker c.relay.result _ _ c.relay.ensures.usage (λ fault none usage. none_after_relay _ _ words (none usage))

pub returns-then-eq-8-clause-usage : goal.returns-then-eq-8-clause-usage
returns-then-eq-8-clause-usage c =
    let first : string_bytes c.in-Some.first.now ≡ chart_word = sym c.as_str-in-Some-7.ensures.value ∙ text_is c.as_str-in-Some-7.result.now chart_word (sym c.eq-in-Some-7.ensures ∙ c.if-eq-8.true) in
    let words : map string_bytes c.args.words.now ≡ chart_word ∷ map string_bytes c.in-Some.rest.now =
    ap (map string_bytes) c.in-Some.ensures.cases.0 ∙ ap (λ (w : List ℕ). w ∷ map string_bytes c.in-Some.rest.now) first in
    weaker c.chart.result _ _ c.chart.ensures.usage (λ fault none usage. none_after_chart _ _ words (none usage))

pub returns-then-eq-9-clause-usage : goal.returns-then-eq-9-clause-usage
returns-then-eq-9-clause-usage c =
    let first : string_bytes c.in-Some.first.now ≡ explore_word = sym c.as_str-in-Some-8.ensures.value ∙ text_is c.as_str-in-Some-8.result.now explore_word (sym c.eq-in-Some-8.ensures ∙ c.if-eq-9.true) in
    let words : map string_bytes c.args.words.now ≡ explore_word ∷ map string_bytes c.in-Some.rest.now =
    ap (map string_bytes) c.in-Some.ensures.cases.0 ∙ ap (λ (w : List ℕ). w ∷ map string_bytes c.in-Some.rest.now) first in
    weaker c.explore.result _ _ c.explore.ensures.usage (λ fault none usage. none_after_explore _ _ words (none usage))

-- a word that is not another
other_word : (word first other : List ℕ) (test : Bool) → first ≡ word → test ≡ bytes_eq first other → test ≡ false → word ≢ other
other_word word first other test is tests fails e = true≢false (sym (same_text other) ∙ ap (λ (t : List ℕ). bytes_eq t other) (sym (is ∙ e)) ∙ sym tests ∙ fails)

pub returns-clause-usage : goal.returns-clause-usage
returns-clause-usage c = elim c.match-split_first.branch [
  | in-Some+else-eq+else-eq-2+else-eq-3+else-eq-4+else-eq-5+else-eq-6+else-eq-7+else-eq-8+else-eq-9 w ↦
      let first = string_bytes w.in-Some.first.now in
      let chosen : IsForCompile (map string_bytes c.args.words.now) =
      subst IsForCompile (sym (ap (map string_bytes) w.in-Some.ensures.cases.0))
      (for_compile first (map string_bytes w.in-Some.rest.now)
      (other_word first w.as_str.result.now frames_word _ w.as_str.ensures.value w.eq.ensures w.if-eq.false)
      (other_word first w.as_str-in-Some.result.now waits_word _ w.as_str-in-Some.ensures.value w.eq-in-Some.ensures w.if-eq-2.false)
      (other_word first w.as_str-in-Some-2.result.now run_word _ w.as_str-in-Some-2.ensures.value w.eq-in-Some-2.ensures w.if-eq-3.false)
      (other_word first w.as_str-in-Some-3.result.now gen_word _ w.as_str-in-Some-3.ensures.value w.eq-in-Some-3.ensures w.if-eq-4.false)
      (other_word first w.as_str-in-Some-4.result.now feed_word _ w.as_str-in-Some-4.ensures.value w.eq-in-Some-4.ensures w.if-eq-5.false)
      (other_word first w.as_str-in-Some-5.result.now audit_word _ w.as_str-in-Some-5.ensures.value w.eq-in-Some-5.ensures w.if-eq-6.false)
      (other_word first w.as_str-in-Some-6.result.now relay_word _ w.as_str-in-Some-6.ensures.value w.eq-in-Some-6.ensures w.if-eq-7.false)
      (other_word first w.as_str-in-Some-7.result.now chart_word _ w.as_str-in-Some-7.ensures.value w.eq-in-Some-7.ensures w.if-eq-8.false)
      (other_word first w.as_str-in-Some-8.result.now explore_word _ w.as_str-in-Some-8.ensures.value w.eq-in-Some-8.ensures w.if-eq-9.false)) in
      weaker c.compile.result _ _ c.compile.ensures.usage (λ fault none usage. none_for_compile _ chosen (none usage))
  | in_default w ↦ weaker c.compile.result _ _ c.compile.ensures.usage (λ fault none usage. none_for_compile _ (none_to_compile string_bytes c.args.words.now w.in_default.ensures.cases) (none usage))
]
