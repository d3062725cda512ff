use Rattle.std.proofs.Common.{Some, List, ◌∷◌, ◌++◌, [], refl, sym, ap, ◌∙◌}
use Rattle.schedules.specs.declared.turn.Turn.{Turn}
use Rattle.explorer.proofs.Going.{copied, goes-full, goes-spent-way}
use Rattle.explorer.proofs.search.Search.add_spent.Goals as goal

pub returns-then-has_most_ways : goal.returns-then-has_most_ways
returns-then-has_most_ways c = goes-full c.args.self.now c.args.turn c.requires.searching c.requires.at c.requires.spent (sym c.has_most_ways.ensures ∙ c.if-has_most_ways.true)

pub returns : goal.returns
returns c =
    let s = c.args.self.now in
    goes-spent-way s
    (record { runner = s.runner; most = s.most; word = s.word; spots = s.spots; spot = s.spot; next = c.letter_after-self.result; states = s.states; found = record { ways = c.push-2.new.self; whole = s.found.whole } })
    c.args.turn (record { spent = Some c.args.turn.side; word = c.push.new.self }) c.requires.searching c.requires.at c.requires.spent (sym c.has_most_ways.ensures ∙ c.if-has_most_ways.false)
    c.letter_after-self.ensures refl refl refl refl refl refl c.requires.searching.whole c.in_ok-push-2.ensures.items refl
    (c.in_ok-push.ensures.items ∙ ap (λ (w : List Turn). w ++ c.args.turn ∷ []) (copied s.word.items c.in_ok-word.word.items c.in_ok-word.ensures.cases.0))
