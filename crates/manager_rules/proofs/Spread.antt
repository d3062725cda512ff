-- The findings of some protocol are those of the rules.
use Rattle.std.proofs.Common.{◌≡◌, ℕ, List, Option, Some, None, ◌⊎◌, inl, inr}
use Rattle.std.specs.Prelude.{IsSomeAnd}
use Rattle.ipdl_base.specs.declared.finding.Finding.{Finding}
use Rattle.ipdl_base.specs.declared.finding.Place.{Place}
use Rattle.ipdl_base.specs.declared.finding.Rule.{Rule}
use Rattle.ipdl_base.specs.declared.finding.TheConstants.Rule as rule
use Rattle.ipdl_syntax.specs.declared.program.Entry.{Entry}
use Rattle.ipdl_syntax.specs.declared.tree.ProtocolDecl.{ProtocolDecl}
use Rattle.manager_rules.specs.declared.breach.ManagerBreach.TheVariants.{Stronger, Unconstructed}
use Rattle.manager_rules.specs.Broken.{SomeProtocol, BrokenAt}
use Rattle.manager_rules.specs.InProtocol.{BreaksAt, UnknownIn, UnansweredIn, CycleIn, UndestroyedIn, UnmanagedIn, RepeatedIn, NamesBroken, RestBroken, BrokenIn}

-- a conclusion from a property of an optional protocol
some_like : (o : Option ProtocolDecl) (P Q : ProtocolDecl → Type 0) → ((p : ProtocolDecl) → P p → Q p) → IsSomeAnd o P → IsSomeAnd o Q
some_like None P Q to h = h
some_like (Some p) P Q to h = to p h

protocol_like : (P Q : ℕ → ProtocolDecl → Type 0) (program : List Entry) → ((file : ℕ) (p : ProtocolDecl) → P file p → Q file p) → SomeProtocol P program → SomeProtocol Q program
protocol_like P Q program to (file, e, at, h) = (file, e, at, some_like e.unit.protocol (P file) (Q file) (to file) h)

some_either : (o : Option ProtocolDecl) (P Q : ProtocolDecl → Type 0) → IsSomeAnd o (λ p. P p ⊎ Q p) → IsSomeAnd o P ⊎ IsSomeAnd o Q
some_either None P Q h = inl h
some_either (Some p) P Q h = h

-- if one of two properties holds of some protocol, then one of them holds of some protocol
protocol_either : (P Q : ℕ → ProtocolDecl → Type 0) (program : List Entry) → SomeProtocol (λ file p. P file p ⊎ Q file p) program → SomeProtocol P program ⊎ SomeProtocol Q program
protocol_either P Q program (file, e, at, h) = elim (some_either e.unit.protocol (P file) (Q file) h) [ inl p ↦ inl (file, e, at, p) | inr q ↦ inr (file, e, at, q) ]

-- a sum of two
either_to : {X Y : Type 0} (P Q : ℕ → ProtocolDecl → Type 0) (program : List Entry) → (SomeProtocol P program → X) → (SomeProtocol Q program → Y) → SomeProtocol (λ file p. P file p ⊎ Q file p) program → X ⊎ Y
either_to P Q program one two h = elim (protocol_either P Q program h) [ inl p ↦ inl (one p) | inr q ↦ inr (two q) ]

either_from : {X Y : Type 0} (P Q : ℕ → ProtocolDecl → Type 0) (program : List Entry) → (X → SomeProtocol P program) → (Y → SomeProtocol Q program) → X ⊎ Y → SomeProtocol (λ file p. P file p ⊎ Q file p) program
either_from P Q program one two h = elim h [
  | inl x ↦ protocol_like P (λ file p. P file p ⊎ Q file p) program (λ file p q. inl q) (one x)
  | inr y ↦ protocol_like Q (λ file p. P file p ⊎ Q file p) program (λ file p q. inr q) (two y)
]

some_fact : (o : Option ProtocolDecl) (C : Type 0) (P : ProtocolDecl → Type 0) → IsSomeAnd o (λ p. C × P p) → C × IsSomeAnd o P
some_fact None C P h = absurd h
some_fact (Some p) C P h = h

-- a rule that is broken in some protocol
rule_to : (C : Type 0) (P : ℕ → ProtocolDecl → Type 0) (program : List Entry) → SomeProtocol (λ file p. C × P file p) program → C × SomeProtocol P program
rule_to C P program (file, e, at, h) = let both = some_fact e.unit.protocol C (P file) h in (both.0, (file, e, at, both.1))

rule_from : (C : Type 0) (P : ℕ → ProtocolDecl → Type 0) (program : List Entry) → C × SomeProtocol P program → SomeProtocol (λ file p. C × P file p) program
rule_from C P program (c, h) = protocol_like P (λ file p. C × P file p) program (λ file p q. (c, q)) h

-- the finding is of a rule that some protocol breaks
abbrev pub OfRule : Rule → (ℕ → ProtocolDecl → Place → Type 0) → List Entry → Finding → Type 0
OfRule rule P program f = (f.rule ≡ rule) × SomeProtocol (λ file p. P file p f.place) program

-- it is of a rule that this protocol breaks
abbrev pub InRule : Rule → (ℕ → ProtocolDecl → Place → Type 0) → Finding → ℕ → ProtocolDecl → Type 0
InRule rule P f file p = (f.rule ≡ rule) × P file p f.place

to : (r : Rule) (P : ℕ → ProtocolDecl → Place → Type 0) (program : List Entry) (f : Finding) → SomeProtocol (InRule r P f) program → OfRule r P program f
to r P program f h = rule_to (f.rule ≡ r) (λ file p. P file p f.place) program h

from : (r : Rule) (P : ℕ → ProtocolDecl → Place → Type 0) (program : List Entry) (f : Finding) → OfRule r P program f → SomeProtocol (InRule r P f) program
from r P program f h = rule_from (f.rule ≡ r) (λ file p. P file p f.place) program h

-- of four rules
abbrev pub OfFour : (one two three four : Rule) (P Q R T : ℕ → ProtocolDecl → Place → Type 0) → List Entry → Finding → Type 0
OfFour one two three four P Q R T program f = OfRule one P program f ⊎ (OfRule two Q program f ⊎ (OfRule three R program f ⊎ OfRule four T program f))

abbrev pub InFour : (one two three four : Rule) (P Q R T : ℕ → ProtocolDecl → Place → Type 0) → Finding → ℕ → ProtocolDecl → Type 0
InFour one two three four P Q R T f file p = InRule one P f file p ⊎ (InRule two Q f file p ⊎ (InRule three R f file p ⊎ InRule four T f file p))

four_to : (one two three four : Rule) (P Q R T : ℕ → ProtocolDecl → Place → Type 0) (program : List Entry) (f : Finding) → SomeProtocol (InFour one two three four P Q R T f) program → OfFour one two three four P Q R T program f
four_to one two three four P Q R T program f =
    either_to (InRule one P f) (λ file p. InRule two Q f file p ⊎ (InRule three R f file p ⊎ InRule four T f file p)) program (to one P program f)
    (either_to (InRule two Q f) (λ file p. InRule three R f file p ⊎ InRule four T f file p) program (to two Q program f)
    (either_to (InRule three R f) (InRule four T f) program (to three R program f) (to four T program f)))

four_from : (one two three four : Rule) (P Q R T : ℕ → ProtocolDecl → Place → Type 0) (program : List Entry) (f : Finding) → OfFour one two three four P Q R T program f → SomeProtocol (InFour one two three four P Q R T f) program
four_from one two three four P Q R T program f =
    either_from (InRule one P f) (λ file p. InRule two Q f file p ⊎ (InRule three R f file p ⊎ InRule four T f file p)) program (from one P program f)
    (either_from (InRule two Q f) (λ file p. InRule three R f file p ⊎ InRule four T f file p) program (from two Q program f)
    (either_from (InRule three R f) (InRule four T f) program (from three R program f) (from four T program f)))

-- what breaks a rule in some protocol of the program breaks it
pub broken_to : (program : List Entry) (f : Finding) → SomeProtocol (λ file p. BrokenIn program file p f) program → BrokenAt program f
broken_to program f h = elim (protocol_either (λ file p. NamesBroken program file p f) (λ file p. RestBroken program file p f) program h) [
  | inl names ↦ elim (four_to rule.UNKNOWN_PROTOCOL rule.MANAGER_DISAGREEMENT rule.STRONGER_PROTOCOL rule.MISSING_CONSTRUCTOR (UnknownIn program) (UnansweredIn program) (BreaksAt Stronger program) (BreaksAt Unconstructed program) program f names) [
    | inl unknown ↦ inl unknown
    | inr a ↦ elim a [
      | inl unanswered ↦ inr (inl unanswered)
      | inr b ↦ elim b [ inl stronger ↦ inr (inr (inl stronger)) | inr unconstructed ↦ inr (inr (inr (inr (inl unconstructed)))) ]
    ]
  ]
  | inr rest ↦ elim (four_to rule.MANAGER_CYCLE rule.MISSING_DESTRUCTOR rule.UNMANAGED_CONSTRUCTOR rule.REPEATED_NAME (CycleIn program) (λ _ p. UndestroyedIn p) (λ file p. UnmanagedIn program file p p.messages) (λ _ p. RepeatedIn p) program f rest) [
    | inl cycle ↦ inr (inr (inr (inl cycle)))
    | inr a ↦ elim a [
      | inl undestroyed ↦ inr (inr (inr (inr (inr (inl undestroyed)))))
      | inr b ↦ elim b [ inl unmanaged ↦ inr (inr (inr (inr (inr (inr (inl unmanaged)))))) | inr repeated ↦ inr (inr (inr (inr (inr (inr (inr repeated)))))) ]
    ]
  ]
]

-- what breaks the rule breaks it in some protocol
pub broken_from : (program : List Entry) (f : Finding) → BrokenAt program f → SomeProtocol (λ file p. BrokenIn program file p f) program
broken_from program f h =
    either_from (λ file p. NamesBroken program file p f) (λ file p. RestBroken program file p f) program
    (four_from rule.UNKNOWN_PROTOCOL rule.MANAGER_DISAGREEMENT rule.STRONGER_PROTOCOL rule.MISSING_CONSTRUCTOR (UnknownIn program) (UnansweredIn program) (BreaksAt Stronger program) (BreaksAt Unconstructed program) program f)
    (four_from rule.MANAGER_CYCLE rule.MISSING_DESTRUCTOR rule.UNMANAGED_CONSTRUCTOR rule.REPEATED_NAME (CycleIn program) (λ _ p. UndestroyedIn p) (λ file p. UnmanagedIn program file p p.messages) (λ _ p. RepeatedIn p) program f)
    (elim h [
      | inl unknown ↦ inl (inl unknown)
      | inr a ↦ elim a [
        | inl unanswered ↦ inl (inr (inl unanswered))
        | inr b ↦ elim b [
          | inl stronger ↦ inl (inr (inr (inl stronger)))
          | inr d ↦ elim d [
            | inl cycle ↦ inr (inl cycle)
            | inr e ↦ elim e [
              | inl unconstructed ↦ inl (inr (inr (inr unconstructed)))
              | inr g ↦ elim g [
                | inl undestroyed ↦ inr (inr (inl undestroyed))
                | inr i ↦ elim i [ inl unmanaged ↦ inr (inr (inr (inl unmanaged))) | inr repeated ↦ inr (inr (inr (inr repeated))) ]
              ]
            ]
          ]
        ]
      ]
    ])
