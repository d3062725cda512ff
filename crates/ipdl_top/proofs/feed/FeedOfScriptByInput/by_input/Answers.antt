use Rattle.std.proofs.Common.{ℕ, List, subst}
use Rattle.std.proofs.lemmas.Result.{IfOk-weaker}
use Rattle.command_words.specs.Command.{feed_course}
use Rattle.ipdl_top.specs.Feed.{SaysFed}
use Rattle.ipdl_top.proofs.Feeds.{says_fed}
use Rattle.ipdl_top.proofs.feed.FeedOfScriptByInput.by_input.Goals as goal

pub returns : goal.returns
returns c =
    let command = c.args.self in
    let course = feed_course command.options.now in
    let bytes = c.args.bytes.now in
    IfOk-weaker c.fed_answer.result _ _
    (λ answer says. subst (λ (name : List ℕ). SaysFed course name bytes command.schema.now command.script.now answer) c.as_str.ensures.value
    (says_fed c.feeds_obey_alone.ensures c.feeds_run_alone.ensures c.one_end_has_effects.ensures c.decides_readable.ensures c.decides_fallen.ensures c.laws_want_readable_lines.ensures course c.as_str.result.now bytes command.schema.now
    command.script.now c.in_ok-fed.fed answer c.requires.ready.0 c.are_bytes.ensures c.in_ok-fed.ensures says)) c.fed_answer.ensures
