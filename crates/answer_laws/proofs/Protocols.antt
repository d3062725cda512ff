-- Protocols and messages of programs that are alike: a property that trees without boxes decide passes from one to
-- the other.
use Rattle.std.proofs.Common.{◌≡◌, ◌∙◌, ℕ, List, Option, Some, None, IsSomeAnd, map, refl, sym}
use Rattle.std.specs.Prelude.{option_map, IsSome}
use Rattle.std.specs.List.{Any}
use Rattle.ipdl_syntax.specs.declared.program.Entry.{Entry}
use Rattle.ipdl_syntax.specs.declared.tree.MessageDecl.{MessageDecl}
use Rattle.ipdl_syntax.specs.declared.tree.Param.{Param}
use Rattle.ipdl_syntax.specs.declared.tree.ProtocolDecl.{ProtocolDecl}
use Rattle.grammar_laws.specs.Boxes.{unboxed_param, unboxed_returns, unboxed_message, unboxed_protocol, unboxed_held}
use Rattle.findings.specs.Gains.{AtSome}
use Rattle.answer_laws.specs.Programs.{unboxed_entry, AreProgramsAlike}
use Rattle.answer_laws.proofs.Lists.{any_alike, at_alike, has_alike, option_alike}
use Rattle.answer_laws.proofs.Names.{held_is}

-- protocols that are the same up to boxes
abbrev pub SameProtocol : ProtocolDecl → ProtocolDecl → Type 0
SameProtocol p q = unboxed_protocol p ≡ unboxed_protocol q

-- messages that are the same up to boxes
abbrev pub SameMessage : MessageDecl → MessageDecl → Type 0
SameMessage m n = unboxed_message m ≡ unboxed_message n

-- The protocol of a file

pub held_alike : (P Q : ProtocolDecl → Type 0) → ((p q : ProtocolDecl) → SameProtocol p q → P p → Q q) → (a b : Option ProtocolDecl) → unboxed_held a ≡ unboxed_held b → IsSomeAnd a P → IsSomeAnd b Q
held_alike P Q step a b same some = option_alike unboxed_protocol P Q step a b (sym (held_is a) ∙ same ∙ held_is b) some

module _ (program other : List Entry) (alike : AreProgramsAlike program other) where
  pub any_protocol_alike : (P Q : ProtocolDecl → Type 0) → ((p q : ProtocolDecl) → SameProtocol p q → P p → Q q) → Any (λ e. IsSomeAnd e.unit.protocol P) program → Any (λ e. IsSomeAnd e.unit.protocol Q) other
  any_protocol_alike P Q step some =
      any_alike unboxed_entry (λ e. IsSomeAnd e.unit.protocol P) (λ e. IsSomeAnd e.unit.protocol Q) (λ x y same held. held_alike P Q step x.unit.protocol y.unit.protocol (λ i. (same i).unit.protocol) held) program other alike some

  pub protocol_at_alike : (P Q : ℕ → ProtocolDecl → Type 0) → ((file : ℕ) (p q : ProtocolDecl) → SameProtocol p q → P file p → Q file q) → AtSome (λ file e. IsSomeAnd e.unit.protocol (P file)) program → AtSome (λ file e. IsSomeAnd e.unit.protocol (Q file)) other
  protocol_at_alike P Q step some =
      at_alike unboxed_entry (λ file e. IsSomeAnd e.unit.protocol (P file)) (λ file e. IsSomeAnd e.unit.protocol (Q file)) (λ file x y same held. held_alike (P file) (Q file) (step file) x.unit.protocol y.unit.protocol (λ i. (same i).unit.protocol) held) program other alike some

-- The messages of a protocol

pub any_message_alike : (P Q : MessageDecl → Type 0) → ((m n : MessageDecl) → SameMessage m n → P m → Q n) → (p q : ProtocolDecl) → SameProtocol p q → Any P p.messages → Any Q q.messages
any_message_alike P Q step p q same some = any_alike unboxed_message P Q step p.messages q.messages (λ i. (same i).messages) some

-- The returns of a message

returns_is : (returns : Option (List Param)) → unboxed_returns returns ≡ option_map (map unboxed_param) returns
returns_is None = refl
returns_is (Some params) = refl

pub returns_alike : (m n : MessageDecl) → SameMessage m n → option_map (map unboxed_param) m.returns ≡ option_map (map unboxed_param) n.returns
returns_alike m n same = sym (returns_is m.returns) ∙ (λ i. (same i).returns) ∙ returns_is n.returns

pub has_returns_alike : (m n : MessageDecl) → SameMessage m n → IsSome m.returns → IsSome n.returns
has_returns_alike m n same some = has_alike (map unboxed_param) m.returns n.returns (returns_alike m n same) some
