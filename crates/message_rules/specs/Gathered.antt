-- The findings of a protocol, as they are gathered.
use Rattle.std.specs.Prelude.{◌≡◌, ℕ, List, ◌++◌, map}
use Rattle.std.specs.Borrow.{Bor}
use Rattle.std.specs.List.{Any}
use Rattle.ipdl_base.specs.declared.finding.Finding.{Finding}
use Rattle.ipdl_base.specs.declared.finding.Place.{Place}
use Rattle.ipdl_base.specs.declared.finding.TheConstants.Rule as rule
use Rattle.ipdl_syntax.specs.declared.tree.MessageDecl.{MessageDecl}
use Rattle.ipdl_syntax.specs.declared.tree.Param.{Param}
use Rattle.ipdl_syntax.specs.declared.tree.ProtocolDecl.{ProtocolDecl}
use Rattle.findings.specs.Gains.{AtSome}
use Rattle.findings.specs.Repeats.{IsRepeatedAt}
use Rattle.message_rules.specs.Breaches.{IsFoundOf}
use Rattle.message_rules.specs.Broken.{returns_of}

-- a finding of a single message of the protocol
abbrev pub IsFoundIn : ProtocolDecl → Finding → Type 0
IsFoundIn p f = AtSome (IsFoundOf p f) p.messages

-- names with their places, as the code stores them, seen as definitions see them
abbrev pub plain_names : List (Bor (List ℕ) × Place) → List (List ℕ × Place)
plain_names names = map (λ n. (n.0.now, n.1)) names

-- the names of parameters with their places
abbrev pub param_names : List Param → List (List ℕ × Place)
param_names params = map (λ p. (p.name, p.place)) params

-- a finding of a parameter or return of a message
abbrev pub IsRepeatedIn : List MessageDecl → Finding → Type 0
IsRepeatedIn messages f =
    Any (λ m. (f.rule ≡ rule.REPEATED_PARAMETER) × IsRepeatedAt (param_names (m.params ++ returns_of m.returns)) f.place) messages
