use Rattle.thread_link.specs.Passes.{place_of}
use Rattle.thread_tests.proofs.pairs.round.Given as goal

abbrev pub ghost-go_on : goal.ghost-go_on
ghost-go_on g a = place_of a.pass.now
