use Rattle.std.proofs.Common.{refl, sym, ◌∙◌}
use Rattle.std.proofs.lemmas.List.{nil_from_length}
use Rattle.explorer.proofs.Going.{popped-has, popped-searching}
use Rattle.explorer.proofs.search.Search.go_back_before.Goals as goal

pub unreachable-requires : goal.unreachable-requires
unreachable-requires c = popped-has c.args.self.now c.args.turn c.requires (nil_from_length c.args.self.now.spots.items (sym c.args.self.now.spots.ok.0 ∙ c.in_default.ensures.cases.0))

pub returns-clause-searching : goal.returns-clause-searching
returns-clause-searching c =
    (popped-searching c.args.self.now
    (record { runner = c.leave.new.self; most = c.args.self.now.most; word = c.args.self.now.word; spots = c.pop.new.self; spot = c.in-Some.spot; next = c.letter_after-self.result; states = c.args.self.now.states; found = c.args.self.now.found })
    c.args.turn c.requires c.in-Some.ensures.items c.leave.ensures refl refl refl refl c.letter_after-self.ensures).1
