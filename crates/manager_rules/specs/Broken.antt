-- The rules on managers and managed protocols, and the places at which a program breaks them.
use Rattle.std.specs.Prelude.{◌≡◌, ◌≢◌, ℕ, ◌⊎◌, List, [], map, Some, IsSomeAnd, codes}
use Rattle.std.specs.List.{Any}
use Rattle.ipdl_base.specs.declared.finding.Finding.{Finding}
use Rattle.ipdl_base.specs.declared.finding.Place.{Place}
use Rattle.ipdl_base.specs.declared.finding.TheConstants.Rule as rule
use Rattle.ipdl_syntax.specs.declared.program.Entry.{Entry}
use Rattle.ipdl_syntax.specs.declared.tree.MessageDecl.{MessageDecl}
use Rattle.ipdl_syntax.specs.declared.tree.NameAt.{NameAt}
use Rattle.ipdl_syntax.specs.declared.tree.ProtocolDecl.{ProtocolDecl}
use Rattle.findings.specs.Gains.{AtSome}
use Rattle.findings.specs.Repeats.{IsRepeatedAt}
use Rattle.name_table.specs.Decls.{FindsNoProtocol, FindsOneProtocol, protocol_of}
use Rattle.name_table.specs.Kinds.{strength_of_protocol, Converts}
use Rattle.manager_rules.specs.Managers.{NamesManager, Manages, IsInCycle}

-- this holds of a file of the program and of its protocol
abbrev pub SomeProtocol : (ℕ → ProtocolDecl → Type 0) → List Entry → Type 0
SomeProtocol Holds program = AtSome (λ file e. IsSomeAnd e.unit.protocol (Holds file)) program

-- a name at this place has this property
abbrev pub AtName : (NameAt → Type 0) → Place → List NameAt → Type 0
AtName Holds place names = Any (λ n. Holds n × (n.place ≡ place)) names

-- the protocol has a message of this name
abbrev pub HasMessage : ProtocolDecl → List ℕ → Type 0
HasMessage p name = Any (λ m. m.name ≡ name) p.messages

-- in a file a name finds exactly one protocol, and this holds of the number of the protocol's file and of the protocol
pub record FindsWith (Holds : ℕ → ProtocolDecl → Type 0) (program : List Entry) (file : ℕ) (name : List ℕ) : Type 0 where
  pub other : ℕ
  pub finds : FindsOneProtocol program file name other
  pub protocol : ProtocolDecl
  pub there : protocol_of program other ≡ Some protocol
  pub holds : Holds other protocol

-- B8: a name after `manager` or `manages` finds no protocol
abbrev pub IsUnknownProtocol : List Entry → Place → Type 0
IsUnknownProtocol program place =
    SomeProtocol (λ file p. AtName (λ n. FindsNoProtocol program file n.name) place p.managers ⊎ AtName (λ n. FindsNoProtocol program file n.name) place p.manages) program

-- B9: a protocol manages another that does not name it as a manager, or has a manager that does not manage it
abbrev pub IsDisagreement : List Entry → Place → Type 0
IsDisagreement program place =
    SomeProtocol (λ file p.
    AtName (λ n. FindsWith (λ other q. ¬ NamesManager program other q file) program file n.name) place p.manages
    ⊎ AtName (λ n. FindsWith (λ other m. ¬ Manages program other m file) program file n.name) place p.managers) program

-- B15: a protocol does not convert to a manager
abbrev pub IsStrongerThanManager : List Entry → Place → Type 0
IsStrongerThanManager program place =
    SomeProtocol (λ file p. AtName (λ n. FindsWith (λ other m. ¬ Converts (strength_of_protocol p) (strength_of_protocol m)) program file n.name) place p.managers) program

-- B17: managers lead from a protocol to another protocol and back
abbrev pub IsManagerCycle : List Entry → Place → Type 0
IsManagerCycle program place = SomeProtocol (λ file p. IsInCycle program file × (p.place ≡ place)) program

-- B18: a protocol manages another, and has no message with the name by which it manages it
abbrev pub IsMissingConstructor : List Entry → Place → Type 0
IsMissingConstructor program place =
    SomeProtocol (λ file p. AtName (λ n. FindsWith (λ other q. ¬ HasMessage p n.name) program file n.name) place p.manages) program

-- B19: a protocol with managers has no destructor
abbrev pub IsMissingDestructor : List Entry → Place → Type 0
IsMissingDestructor program place =
    SomeProtocol (λ file p. (p.managers ≢ []) × (¬ HasMessage p (codes "__delete__")) × (p.place ≡ place)) program

-- B20: a message has the name of a protocol that its file sees and its protocol does not manage
abbrev pub IsUnmanagedConstructor : List Entry → Place → Type 0
IsUnmanagedConstructor program place =
    SomeProtocol (λ file p. Any (λ m. FindsWith (λ other q. ¬ Manages program file p other) program file m.name × (m.place ≡ place)) p.messages) program

-- these names with their places
abbrev pub names_at : List NameAt → List (List ℕ × Place)
names_at names = map (λ n. (n.name, n.place)) names

abbrev pub messages_at : List MessageDecl → List (List ℕ × Place)
messages_at messages = map (λ m. (m.name, m.place)) messages

-- B21: a manager, a managed protocol or a message has the name of an earlier one of its protocol
abbrev pub IsRepeatedName : List Entry → Place → Type 0
IsRepeatedName program place =
    SomeProtocol (λ file p. IsRepeatedAt (names_at p.managers) place ⊎ (IsRepeatedAt (names_at p.manages) place ⊎ IsRepeatedAt (messages_at p.messages) place)) program

-- the finding holds of the program: its rule is broken at its place
abbrev pub BrokenAt : List Entry → Finding → Type 0
BrokenAt program f =
    ((f.rule ≡ rule.UNKNOWN_PROTOCOL) × IsUnknownProtocol program f.place)
    ⊎ (((f.rule ≡ rule.MANAGER_DISAGREEMENT) × IsDisagreement program f.place)
    ⊎ (((f.rule ≡ rule.STRONGER_PROTOCOL) × IsStrongerThanManager program f.place)
    ⊎ (((f.rule ≡ rule.MANAGER_CYCLE) × IsManagerCycle program f.place)
    ⊎ (((f.rule ≡ rule.MISSING_CONSTRUCTOR) × IsMissingConstructor program f.place)
    ⊎ (((f.rule ≡ rule.MISSING_DESTRUCTOR) × IsMissingDestructor program f.place)
    ⊎ (((f.rule ≡ rule.UNMANAGED_CONSTRUCTOR) × IsUnmanagedConstructor program f.place)
    ⊎ ((f.rule ≡ rule.REPEATED_NAME) × IsRepeatedName program f.place)))))))
