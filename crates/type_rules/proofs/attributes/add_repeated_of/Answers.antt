use Rattle.type_rules.proofs.attributes.add_repeated_of.Goals as goal

pub returns : goal.returns
returns c = rw (c.as_slice.ensures.value, c.in_ok-names.ensures) at c.add_repeated.ensures
