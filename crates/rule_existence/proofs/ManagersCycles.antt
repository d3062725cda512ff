-- It is decided which protocols name each other as managers, and which are in cycles of managers.
use Rattle.std.proofs.lemmas.Bool.{cases_eq}
use Rattle.std.proofs.Common.{◌≢◌, ◌⊎◌, ℕ, List, Contains, Any, length, inl, inr}
use Rattle.ipdl_syntax.specs.declared.program.Entry.{Entry}
use Rattle.ipdl_syntax.specs.declared.tree.ProtocolDecl.{ProtocolDecl}
use Rattle.name_table.specs.Decls.{FindsOneProtocol, protocol_of}
use Rattle.manager_rules.specs.Managers.{HasManager, IsInCycle, LeadsTo, Manages, NamesManager, more, one}
use Rattle.manager_rules.proofs.Bonds.{protocol_within}
use Rattle.report_existence.proofs.Finite.{any_or_not, both_or_not, either_or_not, not_or}
use Rattle.program_schema.proofs.Unbroken.{and_some, some_and}
use Rattle.name_existence.proofs.Decisions.{like_or_not, some_and_or_not}
use Rattle.name_existence.proofs.Derivations.{is_below, numbers_below}
use Rattle.name_existence.proofs.Least.{least_or_not}
use Rattle.rule_existence.proofs.ManagersFound.{one_protocol_or_not}

pub names_manager_or_not : (program : List Entry) (file : ℕ) (p : ProtocolDecl) (other : ℕ) → NamesManager program file p other ⊎ (NamesManager program file p other → ⊥)
names_manager_or_not program file p other = any_or_not (λ n. FindsOneProtocol program file n.name other) (λ n. one_protocol_or_not program file n.name other) p.managers

pub manages_or_not : (program : List Entry) (file : ℕ) (p : ProtocolDecl) (other : ℕ) → Manages program file p other ⊎ (Manages program file p other → ⊥)
manages_or_not program file p other = any_or_not (λ n. FindsOneProtocol program file n.name other) (λ n. one_protocol_or_not program file n.name other) p.manages

manager_or_not : (program : List Entry) (file other : ℕ) → HasManager program file other ⊎ (HasManager program file other → ⊥)
manager_or_not program file other =
    like_or_not
    (λ h. let p = some_and (protocol_of program file) (λ p. NamesManager program file p other) h in record { protocol = p.0; there = p.1; names = p.2 })
    (λ h. and_some (protocol_of program file) (λ p. NamesManager program file p other) h.protocol h.there h.names)
    (some_and_or_not (protocol_of program file) (λ p. NamesManager program file p other) (λ p. names_manager_or_not program file p other))

-- Paths by managers

-- the file of a protocol is one of the program, and so is each file from which managers lead
leads_below : {program : List Entry} {file other : ℕ} → LeadsTo program file other → Contains (numbers_below (length program)) file
leads_below {program} {file} (one h) = is_below (length program) file (protocol_within program file h.protocol h.there)
leads_below {program} {file} (more h path) = is_below (length program) file (protocol_within program file h.protocol h.there)

-- a step leads to a file that has this one, or one that is marked, as a manager
abbrev Step : List Entry → ℕ → List ℕ → ℕ → Type 0
Step program other marks file = HasManager program file other ⊎ Any (λ middle. HasManager program file middle) marks

step_or_not : (program : List Entry) (other : ℕ) (marks : List ℕ) (file : ℕ) → Step program other marks file ⊎ (Step program other marks file → ⊥)
step_or_not program other marks file =
    either_or_not (manager_or_not program file other) (any_or_not (λ middle. HasManager program file middle) (λ middle. manager_or_not program file middle) marks)

step_leads : (program : List Entry) (other : ℕ) (marks : List ℕ) → ((file : ℕ) → Contains marks file → LeadsTo program file other) → (file : ℕ) → Step program other marks file → LeadsTo program file other
step_leads program other marks sound file (inl h) = one h
step_leads program other marks sound file (inr (i, middle, below, at, h)) = more h (sound middle (i, below, at))

-- from closed marks a step leads to all from which managers lead
path_step : {program : List Entry} {other : ℕ} (marks : List ℕ) → ((file : ℕ) → Contains (numbers_below (length program)) file → Step program other marks file → Contains marks file) → {file : ℕ} → LeadsTo program file other → Step program other marks file
path_step marks closed (one h) = inl h
path_step marks closed (more {file} {middle} h path) =
    let c = closed middle (leads_below path) (path_step marks closed path) in
    inr (c.0, middle, c.1, c.2, h)

leads_or_not : (program : List Entry) (file other : ℕ) → LeadsTo program file other ⊎ (LeadsTo program file other → ⊥)
leads_or_not program file other =
    least_or_not (numbers_below (length program)) (λ from. LeadsTo program from other) (Step program other) (step_or_not program other) (step_leads program other)
    (λ marks closed from path. path_step marks closed path)
    file

-- Cycles

pub cycle_or_not : (program : List Entry) (file : ℕ) → IsInCycle program file ⊎ (IsInCycle program file → ⊥)
cycle_or_not program file =
    like_or_not
    (λ (i, other, below, at, (differs, (to, back))). record { other = other; differs = differs; there = to; back = back })
    (λ h. let c = leads_below h.back in (c.0, h.other, c.1, c.2, (h.differs, (h.there, h.back))))
    (any_or_not (λ other. (other ≢ file) × (LeadsTo program file other × LeadsTo program other file))
    (λ other. both_or_not (not_or (cases_eq other file)) (both_or_not (leads_or_not program file other) (leads_or_not program other file)))
    (numbers_below (length program)))
