use Rattle.std.proofs.Common.{List, ◌∷◌, ◌++◌, [], refl, subst}
use Rattle.schedules.specs.declared.turn.Turn.{Turn}
use Rattle.explorer.specs.Runs.{HasCome}
use Rattle.explorer.proofs.Going.{arriving}
use Rattle.explorer.proofs.search.Search.enter.Goals as goal

pub arrive-requires : goal.arrive-requires
arrive-requires c =
    let s = c.args.self.now in
    arriving s (record { runner = c.go_on.new.self; most = s.most; word = c.push-2.new.self; spots = c.push.new.self; spot = c.spot_at-self.result; next = s.next; states = s.states; found = s.found })
    c.args.turn c.args.key c.requires.searching c.requires.at c.requires.may (subst (λ (w : List Turn). HasCome s.runner (w ++ c.args.turn ∷ []) c.go_on.new.self) c.as_slice.ensures.value c.in_ok-go_on.ensures) refl c.in_ok-push-2.ensures.items c.in_ok-push.ensures.items c.spot_at-self.ensures.key c.spot_at-self.ensures.options refl refl
