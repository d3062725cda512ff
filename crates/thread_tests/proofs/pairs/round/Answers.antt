use Rattle.thread_link.proofs.Together.{may-go-on, stands-at}
use Rattle.thread_tests.proofs.pairs.round.Goals as goal

pub go_on-requires : goal.go_on-requires
go_on-requires g c = stands-at c.args.exchange.now c.args.pass.now c.args.half.now c.requires

pub meet-requires : goal.meet-requires
meet-requires g c = may-go-on c.args.exchange.now c.args.pass.now c.go_on.new.half c.requires.belongs c.go_on.ensures
