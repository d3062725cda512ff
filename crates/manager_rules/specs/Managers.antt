-- Which protocols manage which, by what the names after `manager` and `manages` find.
use Rattle.std.specs.Prelude.{◌≡◌, ◌≢◌, ℕ, List, Some}
use Rattle.std.specs.List.{Any}
use Rattle.ipdl_syntax.specs.declared.program.Entry.{Entry}
use Rattle.ipdl_syntax.specs.declared.tree.ProtocolDecl.{ProtocolDecl}
use Rattle.name_table.specs.Decls.{FindsOneProtocol, protocol_of}

-- the protocol of a file names the protocol of another file as a manager
abbrev pub NamesManager : List Entry → ℕ → ProtocolDecl → ℕ → Type 0
NamesManager program file p other = Any (λ n. FindsOneProtocol program file n.name other) p.managers

-- the protocol of a file manages the protocol of another file
abbrev pub Manages : List Entry → ℕ → ProtocolDecl → ℕ → Type 0
Manages program file p other = Any (λ n. FindsOneProtocol program file n.name other) p.manages

-- one file's protocol names another's as a manager
pub record HasManager (program : List Entry) (file other : ℕ) : Type 0 where
  pub protocol : ProtocolDecl
  pub there : protocol_of program file ≡ Some protocol
  pub names : NamesManager program file protocol other

-- Managers, and managers of these, lead from one file's protocol to another's in at least one step.
pub data LeadsTo (program : List Entry) : ℕ → ℕ → Type 0 where
  one : {file other : ℕ} → HasManager program file other → LeadsTo program file other
  more : {file middle other : ℕ} → HasManager program file middle → LeadsTo program middle other → LeadsTo program file other

-- managers lead from the protocol of a file to another protocol, and from there back
pub record IsInCycle (program : List Entry) (file : ℕ) : Type 0 where
  pub other : ℕ
  pub differs : other ≢ file
  pub there : LeadsTo program file other
  pub back : LeadsTo program other file
