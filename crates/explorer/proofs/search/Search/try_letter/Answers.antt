use Rattle.std.proofs.Common.{ap, sym, ◌∙◌}
use Rattle.world_core.specs.declared.side_turns.SideOptions.{SideOptions}
use Rattle.explorer.specs.Offers.{offer_by}
use Rattle.explorer.proofs.Going.{goes-nothing}
use Rattle.explorer.proofs.search.Search.try_letter.Goals as goal

pub returns-in-Nothing : goal.returns-in-Nothing
returns-in-Nothing c = goes-nothing c.args.self.now c.args.turn c.letter_after-self.result c.requires.searching c.requires.at (ap (λ (o : SideOptions). offer_by c.args.turn.only_deliver o.acts o.receives o.spent) (sym c.options-options.ensures) ∙ sym c.offer_of.ensures ∙ c.in-Nothing.is) c.letter_after-self.ensures
