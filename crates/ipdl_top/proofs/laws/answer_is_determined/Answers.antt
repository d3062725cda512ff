use Rattle.ipdl_top.proofs.AtMostOne as law
use Rattle.ipdl_top.proofs.laws.answer_is_determined.Goals as goal

pub returns : goal.returns
returns g c = law.answer_is_determined (record {
  texts = record { tokens = c.one_answer.ensures.tokens; tree = c.one_tree.ensures };
  command = c.one_command.ensures;
  list = c.one_list.ensures.list;
  rules = c.break_alike.ensures;
  listed = c.listed_alike.ensures;
  schemas = c.schemas_alike.ensures;
  schema = c.one_schema.ensures;
  boxes = c.boxes_say_nothing.ensures;
  frames_alike = c.frames_alike.ensures;
  frames = c.one_list_of_frames.ensures;
  waits_alike = c.waits_alike.ensures;
  wait_report = c.one_wait_report.ensures;
  runs = record { picks = c.picks_alike.ensures; texts = c.texts_alike.ensures; scripts = c.scripts_alike.ensures; one = c.words_have_one_result.ensures };
  feeds = record { alike = c.feeds_alike.ensures; one = c.feeds_have_one_result.ensures; texts = c.texts_alike.ensures; scripts = c.scripts_alike.ensures };
  audits = record { choices = c.choices_alike.ensures; texts = c.texts_alike.ensures; scripts = c.scripts_alike.ensures };
  explorations = record { alike = c.explorations_alike.ensures; one = c.explorations_are_one.ensures; scripts = c.scripts_alike.ensures };
  relays = record { alike = c.relays_alike.ensures; one = c.relays_have_one_result.ensures; texts = c.texts_alike.ensures; scripts = c.scripts_alike.ensures };
}) (g.D.Driver.Gives c.args.driver.now) (g.Q.Relay.Gives c.args.relay.now)
