use Rattle.std.proofs.Common.{List, ℕ, Bor, Option, Some, option_map, refl, subst}
use Rattle.command_words.specs.RunOptions.{IsDeath}
use Rattle.command_words.proofs.courses.death_of.Goals as goal

pub returns-in-None-clause-usage : goal.returns-in-None-clause-usage
returns-in-None-clause-usage c death is =
    let said : IsDeath (Some c.in-Some.text.now) death = subst (λ (o : Option (Bor (List ℕ))). IsDeath (option_map (λ t. t.now) o) death) c.in-Some.is is in
    c.in-None.ensures.none refl said.0 said.1.0
