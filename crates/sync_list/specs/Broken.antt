-- The rules of the sync list, and the places at which a program and a list break them.
use Rattle.std.specs.Prelude.{◌≡◌, ℕ, ◌⊎◌, List, length, IsTrue, IsSomeAnd}
use Rattle.std.specs.List.{Any}
use Rattle.ipdl_base.specs.Words.{short_name}
use Rattle.ipdl_base.specs.declared.finding.Finding.{Finding}
use Rattle.ipdl_base.specs.declared.finding.Place.{Place}
use Rattle.ipdl_base.specs.declared.finding.TheConstants.Rule as rule
use Rattle.ipdl_base.specs.declared.kinds.Semantics.{Semantics}
use Rattle.ipdl_base.specs.declared.kinds.Semantics.TheVariants.{Async, Sync}
use Rattle.ipdl_syntax.specs.declared.program.Entry.{Entry}
use Rattle.ipdl_syntax.specs.declared.tree.MessageDecl.{MessageDecl}
use Rattle.ipdl_syntax.specs.declared.tree.ProtocolDecl.{ProtocolDecl}
use Rattle.sync_list.specs.declared.list.Section.{Section}

-- the list has a section of the protocol and the message
abbrev pub Lists : List Section → List ℕ → List ℕ → Type 0
Lists list protocol message = Any (λ s. (s.protocol ≡ protocol) × (s.message ≡ message)) list

-- this holds of a protocol of the program
abbrev pub SomeProtocol : (ProtocolDecl → Type 0) → List Entry → Type 0
SomeProtocol Holds program = Any (λ e. IsSomeAnd e.unit.protocol Holds) program

-- a protocol of the program has this short name
abbrev pub IsRead : List Entry → List ℕ → Type 0
IsRead program protocol = SomeProtocol (λ p. short_name p.full ≡ protocol) program

-- a protocol of the program with this short name has a message of these semantics and this name
abbrev pub HasMessage : Semantics → List Entry → List ℕ → List ℕ → Type 0
HasMessage semantics program protocol message =
    SomeProtocol (λ p. (short_name p.full ≡ protocol) × Any (λ m. (m.semantics ≡ semantics) × (m.name ≡ message)) p.messages) program

-- the sync message's name is at this place, and the list has no section of the protocol and the message
pub record IsUnlistedAt (list : List Section) (protocol : List ℕ) (place : Place) (m : MessageDecl) : Type 0 where
  pub sync : m.semantics ≡ Sync
  pub unlisted : ¬ Lists list protocol m.name
  pub here : m.place ≡ place

-- the place of a section: its line in the file after those of the program
abbrev pub section_place : List Entry → Section → Place
section_place program s = record { file = length program; line = s.line; column = 1 }

-- a section with this property is at this place
abbrev pub AtSection : (Section → Type 0) → List Entry → List Section → Place → Type 0
AtSection Holds program list place = Any (λ s. Holds s × (section_place program s ≡ place)) list

-- S1: a sync message of a protocol of the program has no section
abbrev pub IsUnlistedSync : List Entry → List Section → Place → Type 0
IsUnlistedSync program list place = SomeProtocol (λ p. Any (IsUnlistedAt list (short_name p.full) place) p.messages) program

-- S2: a section names an async message of a protocol of the program
abbrev pub NamesAsync : List Entry → Section → Type 0
NamesAsync program s = HasMessage Async program s.protocol s.message

-- S3: a section names a protocol of the program and a message that it lacks: it has no message of the name, sync or async
pub record NamesAbsent (program : List Entry) (s : Section) : Type 0 where
  pub read : IsRead program s.protocol
  pub absent : (semantics : Semantics) → ¬ HasMessage semantics program s.protocol s.message

-- S4: a section has no description that is not empty
abbrev pub HasNoDescription : Section → Type 0
HasNoDescription s = ¬ IsTrue s.described

-- the rule is broken at the place
abbrev pub BrokenAt : List Entry → List Section → Finding → Type 0
BrokenAt program list f =
    ((f.rule ≡ rule.UNLISTED_SYNC) × IsUnlistedSync program list f.place)
    ⊎ (((f.rule ≡ rule.LISTED_ASYNC) × AtSection (NamesAsync program) program list f.place)
    ⊎ (((f.rule ≡ rule.LISTED_ABSENT) × AtSection (NamesAbsent program) program list f.place)
    ⊎ ((f.rule ≡ rule.NO_DESCRIPTION) × AtSection HasNoDescription program list f.place)))
