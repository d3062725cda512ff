use Rattle.answer_existence.proofs.Answers as law
use Rattle.answer_existence.proofs.laws.one_answer.Goals as goal

pub returns : goal.returns
returns g c = law.exactly_one_answer (record {
  words = c.words_are_decided.ensures;
  asking = c.asking_is_decided.ensures;
  compilation = record {
    reaches = c.reaches_exist.ensures;
    findings = c.findings_are_listed.ensures;
    programs = c.clean_files_have_programs.ensures;
    lists = c.lists_have_answers.ensures;
    types = c.type_findings_are_listed.ensures;
    managers = c.manager_findings_are_listed.ensures;
    messages = c.message_findings_are_listed.ensures;
    list_rules = c.list_findings_are_listed.ensures;
    schemas = c.clean_programs_have_schemas.ensures;
    sound = c.clean_is_sound.ensures;
  };
  saying = record {
    scripts = c.scripts_exist.ensures;
    frames = c.bytes_have_frames.ensures;
    waits = c.wait_reports_exist.ensures;
    words = c.words_have_runs.ensures;
    texts = c.texts_are_decided.ensures;
    feeds = c.feeds_come_to_an_end.ensures;
    fed_alone = c.feeds_obey_alone.ensures;
    fed_runs = c.feeds_run_alone.ensures;
    effects = c.one_end_has_effects.ensures;
    decides_readable = c.decides_readable.ensures;
    decides_fallen = c.decides_fallen.ensures;
    want = c.laws_want_readable_lines.ensures;
    runs = c.choices_are_runs.ensures;
    lawful = c.histories_are_lawful.ensures;
    order = c.histories_keep_order.ensures;
    owed = c.histories_give_what_they_owe.ensures;
    still = c.rest_of_cases_is_still.ensures;
    rests = c.still_worlds_rest.ensures;
    weighed = c.histories_are_weighed.ensures;
    sides = c.sides_obey_alone.ensures;
    explorations = c.explorations_exist.ensures;
    ways_run = c.ways_are_run.ensures;
    ways_cover = c.ways_cover_texts.ensures;
    relayed = record {
      alone = c.relays_obey_alone.ensures;
      in_order = c.relays_come_in_order.ensures;
      histories = c.relays_are_histories.ensures;
      answered = c.finished_relays_wait_for_nothing.ensures;
      runs = c.choices_are_runs.ensures;
      lawful = c.histories_are_lawful.ensures;
      order = c.histories_keep_order.ensures;
      owed = c.histories_give_what_they_owe.ensures;
      still = c.rest_of_cases_is_still.ensures;
      rests = c.still_worlds_rest.ensures;
      weighed = c.histories_are_weighed.ensures;
      decides_readable = c.decides_readable.ensures;
      decides_fallen = c.decides_fallen.ensures;
      want = c.laws_want_readable_lines.ensures;
    };
  };
}) (g.D.Driver.Gives c.args.driver.now) (g.Q.Relay.Gives c.args.relay.now) c.answer_is_determined.ensures
