-- What is known of a program before its rules are tested. This serves the code alone.
use Rattle.std.specs.Prelude.{◌≡◌}
use Rattle.manager_rules.specs.declared.known.ManagementGraph.{ManagementGraph}
use Rattle.manager_rules.specs.declared.side.Relation.TheVariants.{Managers, Managed}
use Rattle.manager_rules.specs.Rows.{AreRows}

-- the names and the rows are those of the program
pub record IsKnown (known : ManagementGraph) : Type 0 where
  pub names : known.names.now ≡ known.program.now
  pub managers : AreRows Managers known.program.now known.managers.items
  pub managed : AreRows Managed known.program.now known.managed.items
