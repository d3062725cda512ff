use Rattle.std.proofs.Common.{◌≡◌, List, arith}
use Rattle.std.proofs.lemmas.Result.{IfOk-weaker}
use Rattle.explorations.specs.Seen.{exploration_seen}
use Rattle.ipdl_top.specs.Audited.{audited_setting}
use Rattle.ipdl_top.proofs.explore.explore_script.Goals as goal

pub returns : goal.returns
returns c =
    let setting = audited_setting c.args.schema.now c.args.script.now c.args.options.now.limit in
    let found = exploration_seen c.in_ok-exploration.exploration in
    IfOk-weaker c.explored_answer.result _ _
    (λ answer says. record {
      sound = c.requires.sound;
      valid = c.requires.valid;
      exploration = found;
      explored = c.in_ok-exploration.ensures;
      runs = λ way listed. c.ways_are_run.ensures setting c.args.options.now.ways found way c.in_ok-exploration.ensures listed;
      covers = λ whole text legal. c.ways_cover_texts.ensures setting c.args.options.now.ways found text c.requires.sound c.requires.valid (omega (arith, c.requires.small)) c.in_ok-exploration.ensures whole legal;
      says = says;
    }) c.explored_answer.ensures
