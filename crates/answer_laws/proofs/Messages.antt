-- Programs that are alike break the same rules on messages.
use Rattle.std.proofs.Common.{◌≡◌, inl, inr, ◌∙◌, ℕ, List, ◌++◌, Option, Some, None, map, refl, sym, ap, subst}
use Rattle.std.specs.Prelude.{IsTrue}
use Rattle.std.specs.List.{Any}
use Rattle.std.proofs.lemmas.List.{map-append}
use Rattle.ipdl_base.specs.declared.finding.Finding.{Finding}
use Rattle.ipdl_base.specs.declared.finding.Place.{Place}
use Rattle.ipdl_base.specs.declared.kinds.Compress.TheVariants as compress
use Rattle.ipdl_base.specs.declared.kinds.Level.TheVariants.{Not, InsideSync, InsideCpow}
use Rattle.ipdl_base.specs.declared.kinds.Semantics.TheVariants.{Async, Sync}
use Rattle.ipdl_syntax.specs.declared.program.Entry.{Entry}
use Rattle.ipdl_syntax.specs.declared.tree.MessageDecl.{MessageDecl}
use Rattle.ipdl_syntax.specs.declared.tree.Param.{Param}
use Rattle.ipdl_syntax.specs.declared.tree.ProtocolDecl.{ProtocolDecl}
use Rattle.grammar_laws.specs.Boxes.{unboxed_param, unboxed_returns, unboxed_message}
use Rattle.findings.specs.Gains.{AtSome}
use Rattle.findings.specs.Repeats.{IsRepeatedAt}
use Rattle.name_table.specs.declared.kinds.MessageKind.{MessageKind}
use Rattle.name_table.specs.declared.kinds.MessageKind.TheVariants as kind
use Rattle.name_table.specs.Kinds.{IsKindOf, kind_of_message, compress_of_message, is_lazy_message, level_of_message}
use Rattle.message_rules.specs.Messages.{IsTooMany, IsToChild, IsPlainSyncToChild, IsAsyncInsideSync, IsInsideCpowToChild, IsStronger, IsPlainAsync, IsBadCompress, IsBadLazy, IsBadMaker}
use Rattle.message_rules.specs.Broken.{SomeMessage, returns_of, IsRepeatedParameter, BrokenAt}
use Rattle.answer_laws.specs.Programs.{AreProgramsAlike}
use Rattle.answer_laws.proofs.Lists.{at_alike, map_alike}
use Rattle.answer_laws.proofs.Protocols.{SameProtocol, SameMessage, any_protocol_alike, any_message_alike, has_returns_alike}

-- Single messages

abbrev Carries : (ProtocolDecl → ℕ → MessageDecl → Type 0) → Type 0
Carries Holds = (p q : ProtocolDecl) (index : ℕ) (m n : MessageDecl) → SameProtocol p q → SameMessage m n → Holds p index m → Holds q index n

plain_sync : Carries (λ p index m. IsPlainSyncToChild m)
plain_sync p q index m n at same holds = record {
  sync = subst (λ (x : MessageDecl). x.semantics ≡ Sync) same holds.sync;
  level = subst (λ (x : MessageDecl). level_of_message x ≡ Not) same holds.level;
  child = subst (λ (x : MessageDecl). IsToChild x) same holds.child;
}

async_inside : Carries (λ p index m. IsAsyncInsideSync m)
async_inside p q index m n at same holds = record {
  level = subst (λ (x : MessageDecl). level_of_message x ≡ InsideSync) same holds.level;
  semantics = subst (λ (x : MessageDecl). x.semantics ≡ Async) same holds.semantics;
}

inside_cpow : Carries (λ p index m. IsInsideCpowToChild m)
inside_cpow p q index m n at same holds = record {
  level = subst (λ (x : MessageDecl). level_of_message x ≡ InsideCpow) same holds.level;
  child = subst (λ (x : MessageDecl). IsToChild x) same holds.child;
}

stronger : Carries (λ p index m. IsStronger p m)
stronger p q index m n at same holds = subst (λ (x : ProtocolDecl). IsStronger x n) at (subst (λ (x : MessageDecl). IsStronger p x) same holds)

pub kind_alike : (p q : ProtocolDecl) (m n : MessageDecl) (k : MessageKind) → SameProtocol p q → SameMessage m n → IsKindOf p m k → IsKindOf q n k
kind_alike p q m n k at same is = is ∙ (λ i. kind_of_message (at i) (same i))

plain_async : (p q : ProtocolDecl) (m n : MessageDecl) → SameProtocol p q → SameMessage m n → IsPlainAsync p m → IsPlainAsync q n
plain_async p q m n at same holds = record {
  semantics = subst (λ (x : MessageDecl). x.semantics ≡ Async) same holds.semantics;
  kind = kind_alike p q m n kind.Normal at same holds.kind;
}

bad_compress : Carries (λ p index m. IsBadCompress p m)
bad_compress p q index m n at same holds = record {
  compressed = subst (λ (x : MessageDecl). ¬ (compress_of_message x ≡ compress.Plain)) same holds.compressed;
  other = λ plain. holds.other (plain_async q p n m (sym at) (sym same) plain);
}

bad_lazy : Carries (λ p index m. IsBadLazy p m)
bad_lazy p q index m n at same holds = record {
  lazy = subst (λ (x : MessageDecl). IsTrue (is_lazy_message x)) same holds.lazy;
  other = λ plain. holds.other (plain_async q p n m (sym at) (sym same) plain);
}

bad_maker : Carries (λ p index m. IsBadMaker p m)
bad_maker p q index m n at same (inl (is, inl sync)) = inl (kind_alike p q m n kind.Destructor at same is, inl (subst (λ (x : MessageDecl). x.semantics ≡ Sync) same sync))
bad_maker p q index m n at same (inl (is, inr some)) = inl (kind_alike p q m n kind.Destructor at same is, inr (has_returns_alike m n same some))
bad_maker p q index m n at same (inr (is, async, some)) =
    inr (kind_alike p q m n kind.Constructor at same is, subst (λ (x : MessageDecl). x.semantics ≡ Async) same async, has_returns_alike m n same some)

-- Names of parameters and returns

returns_look : (returns : Option (List Param)) → returns_of (unboxed_returns returns) ≡ map unboxed_param (returns_of returns)
returns_look None = refl
returns_look (Some params) = refl

params_look : (m : MessageDecl) → map unboxed_param m.params ++ returns_of (unboxed_returns m.returns) ≡ map unboxed_param (m.params ++ returns_of m.returns)
params_look m = ap (λ rest. map unboxed_param m.params ++ rest) (returns_look m.returns) ∙ sym (map-append unboxed_param m.params (returns_of m.returns))

params_alike : (m n : MessageDecl) → SameMessage m n → map unboxed_param (m.params ++ returns_of m.returns) ≡ map unboxed_param (n.params ++ returns_of n.returns)
params_alike m n same = sym (params_look m) ∙ (λ i. (same i).params ++ returns_of (same i).returns) ∙ params_look n

repeated_parameter : (place : Place) (m n : MessageDecl) → SameMessage m n → IsRepeatedAt (map (λ q. (q.name, q.place)) (m.params ++ returns_of m.returns)) place → IsRepeatedAt (map (λ q. (q.name, q.place)) (n.params ++ returns_of n.returns)) place
repeated_parameter place m n same repeated =
    subst (λ names. IsRepeatedAt names place) (map_alike unboxed_param (λ (q : Param). (q.name, q.place)) (λ q. refl) (m.params ++ returns_of m.returns) (n.params ++ returns_of n.returns) (params_alike m n same)) repeated

-- The rules

module _ (program other : List Entry) (alike : AreProgramsAlike program other) where
  some_message_alike : (Holds : ProtocolDecl → ℕ → MessageDecl → Type 0) → Carries Holds → (place : Place) → SomeMessage Holds program place → SomeMessage Holds other place
  some_message_alike Holds carries place some =
      any_protocol_alike program other alike (λ p. AtSome (λ index m. Holds p index m × (m.place ≡ place)) p.messages) (λ p. AtSome (λ index m. Holds p index m × (m.place ≡ place)) p.messages)
      (λ p q at found. at_alike unboxed_message (λ index m. Holds p index m × (m.place ≡ place)) (λ index m. Holds q index m × (m.place ≡ place))
      (λ index m n same holds. (carries p q index m n at same holds.0, subst (λ (x : MessageDecl). x.place ≡ place) same holds.1)) p.messages q.messages (λ i. (at i).messages) found)
      some

  repeated_parameter_alike : (place : Place) → IsRepeatedParameter program place → IsRepeatedParameter other place
  repeated_parameter_alike place some =
      any_protocol_alike program other alike (λ p. Any (λ m. IsRepeatedAt (map (λ q. (q.name, q.place)) (m.params ++ returns_of m.returns)) place) p.messages) (λ p. Any (λ m. IsRepeatedAt (map (λ q. (q.name, q.place)) (m.params ++ returns_of m.returns)) place) p.messages)
      (λ p q at found. any_message_alike (λ m. IsRepeatedAt (map (λ q. (q.name, q.place)) (m.params ++ returns_of m.returns)) place) (λ m. IsRepeatedAt (map (λ q. (q.name, q.place)) (m.params ++ returns_of m.returns)) place) (repeated_parameter place) p q at found)
      some

  pub messages_alike : (f : Finding) → BrokenAt program f → BrokenAt other f
  messages_alike f (inl broken) = inl (broken.0, some_message_alike (λ p index m. IsTooMany index) (λ p q index m n at same holds. holds) f.place broken.1)
  messages_alike f (inr (inl broken)) = inr (inl (broken.0, some_message_alike (λ p index m. IsPlainSyncToChild m) plain_sync f.place broken.1))
  messages_alike f (inr (inr (inl broken))) = inr (inr (inl (broken.0, some_message_alike (λ p index m. IsAsyncInsideSync m) async_inside f.place broken.1)))
  messages_alike f (inr (inr (inr (inl broken)))) = inr (inr (inr (inl (broken.0, some_message_alike (λ p index m. IsInsideCpowToChild m) inside_cpow f.place broken.1))))
  messages_alike f (inr (inr (inr (inr (inl broken))))) = inr (inr (inr (inr (inl (broken.0, some_message_alike (λ p index m. IsStronger p m) stronger f.place broken.1)))))
  messages_alike f (inr (inr (inr (inr (inr (inl broken)))))) = inr (inr (inr (inr (inr (inl (broken.0, some_message_alike (λ p index m. IsBadCompress p m) bad_compress f.place broken.1))))))
  messages_alike f (inr (inr (inr (inr (inr (inr (inl broken))))))) = inr (inr (inr (inr (inr (inr (inl (broken.0, repeated_parameter_alike f.place broken.1)))))))
  messages_alike f (inr (inr (inr (inr (inr (inr (inr (inl broken)))))))) = inr (inr (inr (inr (inr (inr (inr (inl (broken.0, some_message_alike (λ p index m. IsBadMaker p m) bad_maker f.place broken.1))))))))
  messages_alike f (inr (inr (inr (inr (inr (inr (inr (inr broken)))))))) = inr (inr (inr (inr (inr (inr (inr (inr (broken.0, some_message_alike (λ p index m. IsBadLazy p m) bad_lazy f.place broken.1))))))))
