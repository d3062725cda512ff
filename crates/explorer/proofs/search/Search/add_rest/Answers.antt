use Rattle.std.proofs.Common.{refl}
use Rattle.explorer.proofs.Going.{copied, rest-found}
use Rattle.explorer.proofs.search.Search.add_rest.Goals as goal

pub returns-clause-added : goal.returns-clause-added
returns-clause-added c =
    rest-found c.args.self.now c.push.new.self.items (record { spent = Rattle.std.specs.Prelude.None; word = c.in_ok-word.word }) c.args.quiet c.if-not-quiet.false c.in_ok-push.ensures.items refl
    (copied c.args.self.now.word.items c.in_ok-word.word.items c.in_ok-word.ensures.cases.0)
