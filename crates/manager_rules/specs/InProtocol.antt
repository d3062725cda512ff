-- The rules on managers at the protocol of one file of a program. These serve the code alone: each is the part for
-- one protocol of the rule in Broken.
use Rattle.std.specs.Prelude.{◌≡◌, ◌≢◌, ℕ, ◌⊎◌, List, [], codes}
use Rattle.std.specs.List.{Any}
use Rattle.ipdl_base.specs.declared.finding.Finding.{Finding}
use Rattle.ipdl_base.specs.declared.finding.Place.{Place}
use Rattle.ipdl_base.specs.declared.finding.TheConstants.Rule as rule
use Rattle.ipdl_syntax.specs.declared.program.Entry.{Entry}
use Rattle.ipdl_syntax.specs.declared.tree.MessageDecl.{MessageDecl}
use Rattle.ipdl_syntax.specs.declared.tree.ProtocolDecl.{ProtocolDecl}
use Rattle.findings.specs.Repeats.{IsRepeatedAt}
use Rattle.manager_rules.specs.declared.breach.ManagerBreach.{ManagerBreach}
use Rattle.manager_rules.specs.declared.breach.ManagerBreach.TheVariants.{Unknown, Unanswered, Stronger, Unconstructed}
use Rattle.manager_rules.specs.declared.side.Relation.TheVariants.{Managers, Managed}
use Rattle.manager_rules.specs.Breaches.{side_of, Breaks}
use Rattle.manager_rules.specs.Broken.{AtName, FindsWith, HasMessage, names_at, messages_at}
use Rattle.manager_rules.specs.Managers.{Manages, IsInCycle}
use Rattle.manager_rules.specs.Sides.{names_on}

-- a name at this place breaks this rule
abbrev pub BreaksAt : ManagerBreach → List Entry → ℕ → ProtocolDecl → Place → Type 0
BreaksAt breach program file p place = AtName (Breaks breach program file p) place (names_on (side_of breach) p)

-- B8
abbrev pub UnknownIn : List Entry → ℕ → ProtocolDecl → Place → Type 0
UnknownIn program file p place = BreaksAt (Unknown Managers) program file p place ⊎ BreaksAt (Unknown Managed) program file p place

-- B9
abbrev pub UnansweredIn : List Entry → ℕ → ProtocolDecl → Place → Type 0
UnansweredIn program file p place = BreaksAt (Unanswered Managed) program file p place ⊎ BreaksAt (Unanswered Managers) program file p place

-- B17
abbrev pub CycleIn : List Entry → ℕ → ProtocolDecl → Place → Type 0
CycleIn program file p place = IsInCycle program file × (p.place ≡ place)

-- B19
abbrev pub UndestroyedIn : ProtocolDecl → Place → Type 0
UndestroyedIn p place = (p.managers ≢ []) × (¬ HasMessage p (codes "__delete__")) × (p.place ≡ place)

-- B20
abbrev pub UnmanagedIn : List Entry → ℕ → ProtocolDecl → List MessageDecl → Place → Type 0
UnmanagedIn program file p messages place = Any (λ m. FindsWith (λ other q. ¬ Manages program file p other) program file m.name × (m.place ≡ place)) messages

-- B21
abbrev pub RepeatedIn : ProtocolDecl → Place → Type 0
RepeatedIn p place = IsRepeatedAt (names_at p.managers) place ⊎ (IsRepeatedAt (names_at p.manages) place ⊎ IsRepeatedAt (messages_at p.messages) place)

-- the rules on the names of managers and of managed protocols, broken in this protocol
abbrev pub NamesBroken : List Entry → ℕ → ProtocolDecl → Finding → Type 0
NamesBroken program file p f =
    ((f.rule ≡ rule.UNKNOWN_PROTOCOL) × UnknownIn program file p f.place)
    ⊎ (((f.rule ≡ rule.MANAGER_DISAGREEMENT) × UnansweredIn program file p f.place)
    ⊎ (((f.rule ≡ rule.STRONGER_PROTOCOL) × BreaksAt Stronger program file p f.place)
    ⊎ ((f.rule ≡ rule.MISSING_CONSTRUCTOR) × BreaksAt Unconstructed program file p f.place)))

-- the other rules
abbrev pub RestBroken : List Entry → ℕ → ProtocolDecl → Finding → Type 0
RestBroken program file p f =
    ((f.rule ≡ rule.MANAGER_CYCLE) × CycleIn program file p f.place)
    ⊎ (((f.rule ≡ rule.MISSING_DESTRUCTOR) × UndestroyedIn p f.place)
    ⊎ (((f.rule ≡ rule.UNMANAGED_CONSTRUCTOR) × UnmanagedIn program file p p.messages f.place)
    ⊎ ((f.rule ≡ rule.REPEATED_NAME) × RepeatedIn p f.place)))

-- the finding is one of this protocol's
abbrev pub BrokenIn : List Entry → ℕ → ProtocolDecl → Finding → Type 0
BrokenIn program file p f = NamesBroken program file p f ⊎ RestBroken program file p f
