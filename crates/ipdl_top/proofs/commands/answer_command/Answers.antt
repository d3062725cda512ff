use Rattle.std.proofs.Common.{List, ℕ, string_bytes, sym, subst}
use Rattle.std.proofs.lemmas.Result.{IfOk-weaker}
use Rattle.command_words.specs.Command.{explore_course, feed_course, relay_course, run_course, view_of}
use Rattle.command_words.specs.Run.{Course}
use Rattle.command_words.specs.declared.command.Command.{Command}
use Rattle.ipdl_top.specs.Audit.{SaysAudit}
use Rattle.ipdl_top.specs.Explore.{SaysExplore}
use Rattle.ipdl_top.specs.Feed.{SaysFeed}
use Rattle.ipdl_top.specs.Gen.{case_course, case_files, holder_name, script_name}
use Rattle.ipdl_top.specs.Relay.{SaysRelay}
use Rattle.ipdl_top.specs.Run.{SaysRun}
use Rattle.ipdl_top.specs.RunSteps.{course_of}
use Rattle.ipdl_top.specs.Steps.{HasTop, IsToldOf}
use Rattle.ipdl_top.specs.Waits.{SaysWaits}
use Rattle.ipdl_top.specs.declared.rendering.Rendering.{Rendering}
use Rattle.ipdl_top.proofs.FoundAnswers.{HasOwnTop, IsToldFound, of_found, own_top}
use Rattle.ipdl_top.proofs.commands.answer_command.Goals as goal

pub returns-in-Compile : goal.returns-in-Compile
returns-in-Compile g c =
    let Gives = g.D.Driver.Gives c.args.driver.now in
    let Relays = g.Q.Relay.Gives c.args.relay.now in
    let found = c.args.found in
    IfOk-weaker c.answer_compile.result _ _
    (λ answer told. of_found Gives Relays (view_of c.args.command.now) found answer
    (subst (λ (command : Command). IsToldFound Gives Relays (view_of command) found answer) (sym c.in-Compile.is)
    (λ seen are. told))) c.answer_compile.ensures

pub returns-in-Frames : goal.returns-in-Frames
returns-in-Frames g c =
    let Gives = g.D.Driver.Gives c.args.driver.now in
    let Relays = g.Q.Relay.Gives c.args.relay.now in
    let found = c.args.found in
    IfOk-weaker c.answer_frames.result _ _
    (λ answer told. of_found Gives Relays (view_of c.args.command.now) found answer
    (subst (λ (command : Command). IsToldFound Gives Relays (view_of command) found answer) (sym c.in-Frames.is)
    (λ seen are. told (seen.input (string_bytes c.in-Frames.options.frames)) are.input))) c.answer_frames.ensures

pub answer_waits-requires-clause-top : goal.answer_waits-requires-clause-top
answer_waits-requires-clause-top g c =
    subst (λ (file : List ℕ). HasTop file c.args.found.checked) (sym c.as_str.ensures.value)
    (subst (λ (command : Command). HasOwnTop (view_of command) c.args.found.checked) c.in-Waits.is (own_top (view_of c.args.command.now) c.requires.said.0 c.requires.found.0 c.args.found c.requires.said.1 c.requires.found.1))

pub returns-in-Waits : goal.returns-in-Waits
returns-in-Waits g c =
    let Gives = g.D.Driver.Gives c.args.driver.now in
    let Relays = g.Q.Relay.Gives c.args.relay.now in
    let found = c.args.found in
    IfOk-weaker c.answer_waits.result _ _
    (λ answer told. of_found Gives Relays (view_of c.args.command.now) found answer
    (subst (λ (command : Command). IsToldFound Gives Relays (view_of command) found answer) (sym c.in-Waits.is)
    (λ seen are. subst (λ (file : List ℕ). IsToldOf (SaysWaits file) found.checked answer) c.as_str.ensures.value told))) c.answer_waits.ensures

pub answer_run-requires-clause-top : goal.answer_run-requires-clause-top
answer_run-requires-clause-top g c =
    subst (λ (file : List ℕ). HasTop file c.args.found.checked) (sym c.run_request-request.ensures.file)
    (subst (λ (command : Command). HasOwnTop (view_of command) c.args.found.checked) c.in-Run.is (own_top (view_of c.args.command.now) c.requires.said.0 c.requires.found.0 c.args.found c.requires.said.1 c.requires.found.1))

pub returns-in-Run : goal.returns-in-Run
returns-in-Run g c =
    let Gives = g.D.Driver.Gives c.args.driver.now in
    let Relays = g.Q.Relay.Gives c.args.relay.now in
    let found = c.args.found in
    IfOk-weaker c.answer_run.result _ _
    (λ answer told. of_found Gives Relays (view_of c.args.command.now) found answer
    (subst (λ (command : Command). IsToldFound Gives Relays (view_of command) found answer) (sym c.in-Run.is)
    (λ seen are.
    let text = seen.script (string_bytes c.in-Run.options.script) in
    let Is : Rendering → Course → List ℕ → List ℕ → Type 0 = λ shown course script file. IsToldOf (SaysRun Gives shown course script text file) found.checked answer in
    let request = c.run_request-request.result in
    subst (λ (shown : Rendering). Is shown (run_course c.in-Run.options) (string_bytes c.in-Run.options.script) (string_bytes c.in-Run.sources.file)) c.run_request-request.ensures.rendering
    (subst (λ (course : Course). Is request.rendering course (string_bytes c.in-Run.options.script) (string_bytes c.in-Run.sources.file)) c.run_request-request.ensures.course
    (subst (λ (script : List ℕ). Is request.rendering (course_of request) script (string_bytes c.in-Run.sources.file)) c.run_request-request.ensures.script
    (subst (Is request.rendering (course_of request) request.script.now) c.run_request-request.ensures.file (told text are.script))))))) c.answer_run.ensures

pub answer_run-requires-in-Gen-clause-top : goal.answer_run-requires-in-Gen-clause-top
answer_run-requires-in-Gen-clause-top g c =
    subst (λ (file : List ℕ). HasTop file c.args.found.checked) (sym c.case_request-request.ensures.file)
    (subst (λ (command : Command). HasOwnTop (view_of command) c.args.found.checked) c.in-Gen.is (own_top (view_of c.args.command.now) c.requires.said.0 c.requires.found.0 c.args.found c.requires.said.1 c.requires.found.1))

pub returns-in-Gen : goal.returns-in-Gen
returns-in-Gen g c =
    let Gives = g.D.Driver.Gives c.args.driver.now in
    let Relays = g.Q.Relay.Gives c.args.relay.now in
    let found = c.args.found in
    IfOk-weaker c.answer_run-in-Gen.result _ _
    (λ answer told. of_found Gives Relays (view_of c.args.command.now) found answer
    (subst (λ (command : Command). IsToldFound Gives Relays (view_of command) found answer) (sym c.in-Gen.is)
    (λ seen are.
    let text = case_files c.in-Gen.rounds c.in-Gen.actors script_name in
    let Is : Rendering → Course → List ℕ → List ℕ → Type 0 = λ shown course script file. IsToldOf (SaysRun Gives shown course script text file) found.checked answer in
    let request = c.case_request-request.result in
    subst (λ (shown : Rendering). Is shown case_course script_name holder_name) c.case_request-request.ensures.rendering
    (subst (λ (course : Course). Is request.rendering course script_name holder_name) c.case_request-request.ensures.course
    (subst (λ (script : List ℕ). Is request.rendering (course_of request) script holder_name) c.case_request-request.ensures.script
    (subst (Is request.rendering (course_of request) request.script.now) c.case_request-request.ensures.file (told text are.script))))))) c.answer_run-in-Gen.ensures

pub answer_feed-requires-clause-top : goal.answer_feed-requires-clause-top
answer_feed-requires-clause-top g c =
    subst (λ (file : List ℕ). HasTop file c.args.found.checked) (sym c.as_str-in-Feed.ensures.value)
    (subst (λ (command : Command). HasOwnTop (view_of command) c.args.found.checked) c.in-Feed.is (own_top (view_of c.args.command.now) c.requires.said.0 c.requires.found.0 c.args.found c.requires.said.1 c.requires.found.1))

pub returns-in-Feed : goal.returns-in-Feed
returns-in-Feed g c =
    let Gives = g.D.Driver.Gives c.args.driver.now in
    let Relays = g.Q.Relay.Gives c.args.relay.now in
    let found = c.args.found in
    IfOk-weaker c.answer_feed.result _ _
    (λ answer told. of_found Gives Relays (view_of c.args.command.now) found answer
    (subst (λ (command : Command). IsToldFound Gives Relays (view_of command) found answer) (sym c.in-Feed.is)
    (λ seen are.
    let options = c.in-Feed.options in
    let text = seen.script (string_bytes options.script) in
    let frames = string_bytes options.frames in
    subst (λ (file : List ℕ). IsToldOf (SaysFeed (feed_course options) (string_bytes options.script) text frames (seen.input frames) file) found.checked answer) c.as_str-in-Feed.ensures.value
    (told text (seen.input frames) are.script are.input)))) c.answer_feed.ensures

pub answer_audit-requires-clause-top : goal.answer_audit-requires-clause-top
answer_audit-requires-clause-top g c =
    subst (λ (file : List ℕ). HasTop file c.args.found.checked) (sym c.as_str-in-Audit.ensures.value)
    (subst (λ (command : Command). HasOwnTop (view_of command) c.args.found.checked) c.in-Audit.is (own_top (view_of c.args.command.now) c.requires.said.0 c.requires.found.0 c.args.found c.requires.said.1 c.requires.found.1))

pub returns-in-Audit : goal.returns-in-Audit
returns-in-Audit g c =
    let Gives = g.D.Driver.Gives c.args.driver.now in
    let Relays = g.Q.Relay.Gives c.args.relay.now in
    let found = c.args.found in
    IfOk-weaker c.answer_audit.result _ _
    (λ answer told. of_found Gives Relays (view_of c.args.command.now) found answer
    (subst (λ (command : Command). IsToldFound Gives Relays (view_of command) found answer) (sym c.in-Audit.is)
    (λ seen are.
    let options = c.in-Audit.options in
    let text = seen.script (string_bytes options.script) in
    let name = string_bytes options.transcript in
    subst (λ (file : List ℕ). IsToldOf (SaysAudit options.limit (string_bytes options.script) text name (seen.input name) file) found.checked answer) c.as_str-in-Audit.ensures.value
    (told text (seen.input name) are.script are.input)))) c.answer_audit.ensures

pub answer_relay-requires-clause-top : goal.answer_relay-requires-clause-top
answer_relay-requires-clause-top g c =
    subst (λ (file : List ℕ). HasTop file c.args.found.checked) (sym c.as_str-in-Relay.ensures.value)
    (subst (λ (command : Command). HasOwnTop (view_of command) c.args.found.checked) c.in-Relay.is (own_top (view_of c.args.command.now) c.requires.said.0 c.requires.found.0 c.args.found c.requires.said.1 c.requires.found.1))

pub returns-in-Relay : goal.returns-in-Relay
returns-in-Relay g c =
    let Gives = g.D.Driver.Gives c.args.driver.now in
    let Relays = g.Q.Relay.Gives c.args.relay.now in
    let found = c.args.found in
    IfOk-weaker c.answer_relay.result _ _
    (λ answer told. of_found Gives Relays (view_of c.args.command.now) found answer
    (subst (λ (command : Command). IsToldFound Gives Relays (view_of command) found answer) (sym c.in-Relay.is)
    (λ seen are.
    let options = c.in-Relay.options in
    let text = seen.script (string_bytes options.script) in
    subst (λ (file : List ℕ). IsToldOf (SaysRelay Relays (relay_course options) (string_bytes options.script) text file) found.checked answer) c.as_str-in-Relay.ensures.value (told text are.script)))) c.answer_relay.ensures

pub answer_run-requires-in-Chart-clause-top : goal.answer_run-requires-in-Chart-clause-top
answer_run-requires-in-Chart-clause-top g c =
    subst (λ (file : List ℕ). HasTop file c.args.found.checked) (sym c.run_request-request-in-Chart.ensures.file)
    (subst (λ (command : Command). HasOwnTop (view_of command) c.args.found.checked) c.in-Chart.is (own_top (view_of c.args.command.now) c.requires.said.0 c.requires.found.0 c.args.found c.requires.said.1 c.requires.found.1))

pub returns-in-Chart : goal.returns-in-Chart
returns-in-Chart g c =
    let Gives = g.D.Driver.Gives c.args.driver.now in
    let Relays = g.Q.Relay.Gives c.args.relay.now in
    let found = c.args.found in
    IfOk-weaker c.answer_run-in-Chart.result _ _
    (λ answer told. of_found Gives Relays (view_of c.args.command.now) found answer
    (subst (λ (command : Command). IsToldFound Gives Relays (view_of command) found answer) (sym c.in-Chart.is)
    (λ seen are.
    let text = seen.script (string_bytes c.in-Chart.options.script) in
    let Is : Rendering → Course → List ℕ → List ℕ → Type 0 = λ shown course script file. IsToldOf (SaysRun Gives shown course script text file) found.checked answer in
    let request = c.run_request-request-in-Chart.result in
    subst (λ (shown : Rendering). Is shown (run_course c.in-Chart.options) (string_bytes c.in-Chart.options.script) (string_bytes c.in-Chart.sources.file)) c.run_request-request-in-Chart.ensures.rendering
    (subst (λ (course : Course). Is request.rendering course (string_bytes c.in-Chart.options.script) (string_bytes c.in-Chart.sources.file)) c.run_request-request-in-Chart.ensures.course
    (subst (λ (script : List ℕ). Is request.rendering (course_of request) script (string_bytes c.in-Chart.sources.file)) c.run_request-request-in-Chart.ensures.script
    (subst (Is request.rendering (course_of request) request.script.now) c.run_request-request-in-Chart.ensures.file (told text are.script))))))) c.answer_run-in-Chart.ensures

pub answer_explore-requires-clause-top : goal.answer_explore-requires-clause-top
answer_explore-requires-clause-top g c =
    subst (λ (file : List ℕ). HasTop file c.args.found.checked) (sym c.as_str-in-Explore.ensures.value)
    (subst (λ (command : Command). HasOwnTop (view_of command) c.args.found.checked) c.in-Explore.is (own_top (view_of c.args.command.now) c.requires.said.0 c.requires.found.0 c.args.found c.requires.said.1 c.requires.found.1))

pub returns : goal.returns
returns g c =
    let Gives = g.D.Driver.Gives c.args.driver.now in
    let Relays = g.Q.Relay.Gives c.args.relay.now in
    let found = c.args.found in
    IfOk-weaker c.answer_explore.result _ _
    (λ answer told. of_found Gives Relays (view_of c.args.command.now) found answer
    (subst (λ (command : Command). IsToldFound Gives Relays (view_of command) found answer) (sym c.in-Explore.is)
    (λ seen are.
    let options = c.in-Explore.options in
    let text = seen.script (string_bytes options.script) in
    subst (λ (file : List ℕ). IsToldOf (SaysExplore (explore_course options) (string_bytes options.script) text file) found.checked answer) c.as_str-in-Explore.ensures.value (told text are.script)))) c.answer_explore.ensures
