use Rattle.std.proofs.Common.{◌≡◌, true, false, sym, ◌∙◌}
use Rattle.explorer.proofs.Going.{goes-met, grown-searching, may-enter}
use Rattle.explorer.proofs.search.Search.try_step.Goals as goal

pub enter-requires-clause-searching : goal.enter-requires-clause-searching
enter-requires-clause-searching c =
    let e = c.in_ok-key.ensures in
    grown-searching c.args.self.now c.args.turn c.args.delivers c.requires.searching c.requires.at c.requires.steps c.key_after.new.self c.in_ok-key.key e.grows e.apart e.met e.key

pub enter-requires-clause-may : goal.enter-requires-clause-may
enter-requires-clause-may c =
    let e = c.in_ok-key.ensures in
    may-enter c.args.self.now c.args.turn c.args.delivers c.requires.searching c.requires.at c.requires.steps c.key_after.new.self c.in_ok-key.key e.grows e.apart e.met e.key
    (λ t. let k : true ≡ false = sym (c.has.ensures.1 t) ∙ c.if-has.false in cc)

pub returns-then-has : goal.returns-then-has
returns-then-has c =
    let e = c.in_ok-key.ensures in
    goes-met c.args.self.now c.args.turn c.args.delivers c.requires.searching c.requires.at c.requires.steps c.key_after.new.self c.in_ok-key.key e.grows e.apart e.met e.key c.letter_after-self.result
    (c.has.ensures.0 c.if-has.true) c.letter_after-self.ensures
