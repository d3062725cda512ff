-- The rules that a protocol's name of another protocol can break, one for each breach. These serve the code alone.
use Rattle.std.specs.Prelude.{ℕ, List}
use Rattle.ipdl_base.specs.declared.finding.Rule.{Rule}
use Rattle.ipdl_base.specs.declared.finding.TheConstants.Rule as rule
use Rattle.ipdl_syntax.specs.declared.program.Entry.{Entry}
use Rattle.ipdl_syntax.specs.declared.tree.NameAt.{NameAt}
use Rattle.ipdl_syntax.specs.declared.tree.ProtocolDecl.{ProtocolDecl}
use Rattle.name_table.specs.Decls.{FindsNoProtocol}
use Rattle.name_table.specs.Kinds.{strength_of_protocol, Converts}
use Rattle.manager_rules.specs.declared.breach.ManagerBreach.{ManagerBreach}
use Rattle.manager_rules.specs.declared.breach.ManagerBreach.TheVariants.{Unknown, Unanswered, Stronger, Unconstructed}
use Rattle.manager_rules.specs.declared.side.Relation.{Relation}
use Rattle.manager_rules.specs.declared.side.Relation.TheVariants.{Managers, Managed}
use Rattle.manager_rules.specs.Broken.{FindsWith, HasMessage}
use Rattle.manager_rules.specs.Sides.{NamesOn, other_side}

-- the rule that is broken
abbrev pub rule_of : ManagerBreach → Rule
rule_of (Unknown side) = rule.UNKNOWN_PROTOCOL
rule_of (Unanswered side) = rule.MANAGER_DISAGREEMENT
rule_of Stronger = rule.STRONGER_PROTOCOL
rule_of Unconstructed = rule.MISSING_CONSTRUCTOR

-- the relation whose names can break it
abbrev pub side_of : ManagerBreach → Relation
side_of (Unknown side) = side
side_of (Unanswered side) = side
side_of Stronger = Managers
side_of Unconstructed = Managed

-- a name of the protocol of a file breaks this rule
abbrev pub Breaks : ManagerBreach → List Entry → ℕ → ProtocolDecl → NameAt → Type 0
Breaks (Unknown side) program file p n = FindsNoProtocol program file n.name
Breaks (Unanswered side) program file p n = FindsWith (λ other q. ¬ NamesOn (other_side side) program other q file) program file n.name
Breaks Stronger program file p n = FindsWith (λ other m. ¬ Converts (strength_of_protocol p) (strength_of_protocol m)) program file n.name
Breaks Unconstructed program file p n = FindsWith (λ other q. ¬ HasMessage p n.name) program file n.name
