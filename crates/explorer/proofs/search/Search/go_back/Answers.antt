use Rattle.std.proofs.Common.{refl, sym, ◌∙◌}
use Rattle.std.proofs.lemmas.List.{nil_from_length}
use Rattle.explorer.proofs.Going.{goes-end}
use Rattle.explorer.proofs.search.Search.go_back.Goals as goal

pub returns-in-None : goal.returns-in-None
returns-in-None c =
    goes-end c.args.self.now
    (record { runner = c.args.self.now.runner; most = c.args.self.now.most; word = c.pop.new.self; spots = c.args.self.now.spots; spot = c.args.self.now.spot; next = c.args.self.now.next; states = c.args.self.now.states; found = c.args.self.now.found })
    c.requires.searching c.requires.none (nil_from_length c.args.self.now.word.items (sym c.args.self.now.word.ok.0 ∙ c.in-None.ensures.cases.0)) refl refl refl
