-- Programs that are alike break the same rules on managers and managed protocols.
use Rattle.std.proofs.Common.{◌≡◌, ◌⊎◌, inl, inr, ℕ, List, [], codes, refl, sym, subst}
use Rattle.std.specs.List.{Any}
use Rattle.ipdl_base.specs.declared.finding.Finding.{Finding}
use Rattle.ipdl_base.specs.declared.finding.Place.{Place}
use Rattle.ipdl_syntax.specs.declared.program.Entry.{Entry}
use Rattle.ipdl_syntax.specs.declared.tree.MessageDecl.{MessageDecl}
use Rattle.ipdl_syntax.specs.declared.tree.NameAt.{NameAt}
use Rattle.ipdl_syntax.specs.declared.tree.ProtocolDecl.{ProtocolDecl}
use Rattle.grammar_laws.specs.Boxes.{unboxed_message, unboxed_protocol}
use Rattle.findings.specs.Repeats.{IsRepeatedAt}
use Rattle.name_table.specs.Decls.{FindsNoProtocol, FindsOneProtocol, protocol_of}
use Rattle.name_table.specs.Kinds.{strength_of_protocol, Converts}
use Rattle.manager_rules.specs.Managers.{NamesManager, Manages, HasManager, LeadsTo, one, more, IsInCycle}
use Rattle.manager_rules.specs.Broken.{AtName, HasMessage, FindsWith, names_at, messages_at, IsUnknownProtocol, IsDisagreement, IsStrongerThanManager, IsManagerCycle, IsMissingConstructor, IsMissingDestructor, IsUnmanagedConstructor, IsRepeatedName, BrokenAt}
use Rattle.answer_laws.specs.Programs.{AreProgramsAlike}
use Rattle.answer_laws.proofs.Lists.{some_alike, map_alike}
use Rattle.answer_laws.proofs.Names.{no_protocol_alike, one_protocol_alike, protocol_alike}
use Rattle.answer_laws.proofs.Protocols.{SameProtocol, protocol_at_alike, any_message_alike}

-- Names in lists that are the same

any_name : (P Q : NameAt → Type 0) → ((n : NameAt) → P n → Q n) → (names others : List NameAt) → names ≡ others → Any P names → Any Q others
any_name P Q step names others same some = subst (λ ns. Any Q ns) same (some.0, some.1, some.2, some.3, step some.1 some.4)

at_name : (P Q : NameAt → Type 0) → ((n : NameAt) → P n → Q n) → (place : Place) (names others : List NameAt) → names ≡ others → AtName P place names → AtName Q place others
at_name P Q step place = any_name (λ n. P n × (n.place ≡ place)) (λ n. Q n × (n.place ≡ place)) (λ n holds. (step n holds.0, holds.1))

has_message : (p q : ProtocolDecl) (name : List ℕ) → SameProtocol p q → HasMessage p name → HasMessage q name
has_message p q name same has = any_message_alike (λ m. m.name ≡ name) (λ m. m.name ≡ name) (λ m n looks is. subst (λ (x : MessageDecl). x.name ≡ name) looks is) p q same has

-- Managers

module _ (program other : List Entry) (alike : AreProgramsAlike program other) where
  finds_with : (P Q : ℕ → ProtocolDecl → Type 0) → ((k : ℕ) (p q : ProtocolDecl) → SameProtocol p q → P k p → Q k q) → (file : ℕ) (name : List ℕ) → FindsWith P program file name → FindsWith Q other file name
  finds_with P Q step file name found =
      let there = some_alike unboxed_protocol (protocol_of program found.other) (protocol_of other found.other) (protocol_alike program other alike found.other) found.protocol found.there in
      record {
        other = found.other;
        finds = one_protocol_alike program other alike file name found.other found.finds;
        protocol = there.0;
        there = there.1;
        holds = step found.other found.protocol there.0 there.2 found.holds;
      }

  names_manager : (file : ℕ) (p q : ProtocolDecl) (k : ℕ) → SameProtocol p q → NamesManager program file p k → NamesManager other file q k
  names_manager file p q k same names =
      any_name (λ n. FindsOneProtocol program file n.name k) (λ n. FindsOneProtocol other file n.name k) (λ n finds. one_protocol_alike program other alike file n.name k finds) p.managers q.managers (λ i. (same i).managers) names

  manages : (file : ℕ) (p q : ProtocolDecl) (k : ℕ) → SameProtocol p q → Manages program file p k → Manages other file q k
  manages file p q k same names =
      any_name (λ n. FindsOneProtocol program file n.name k) (λ n. FindsOneProtocol other file n.name k) (λ n finds. one_protocol_alike program other alike file n.name k finds) p.manages q.manages (λ i. (same i).manages) names

  has_manager : (file k : ℕ) → HasManager program file k → HasManager other file k
  has_manager file k has =
      let there = some_alike unboxed_protocol (protocol_of program file) (protocol_of other file) (protocol_alike program other alike file) has.protocol has.there in
      record { protocol = there.0; there = there.1; names = names_manager file has.protocol there.0 k there.2 has.names }

  leads_to : {file k : ℕ} → LeadsTo program file k → LeadsTo other file k
  leads_to (one {file = file} {other = k} has) = one (has_manager file k has)
  leads_to (more {file = file} {middle = middle} has leads) = more (has_manager file middle has) (leads_to leads)

  in_cycle : (file : ℕ) → IsInCycle program file → IsInCycle other file
  in_cycle file is = record { other = is.other; differs = is.differs; there = leads_to is.there; back = leads_to is.back }

-- The rules

module _ (program other : List Entry) (alike : AreProgramsAlike program other) (place : Place) where
  unknown_protocol : IsUnknownProtocol program place → IsUnknownProtocol other place
  unknown_protocol broken =
      protocol_at_alike program other alike
      (λ file p. AtName (λ n. FindsNoProtocol program file n.name) place p.managers ⊎ AtName (λ n. FindsNoProtocol program file n.name) place p.manages)
      (λ file p. AtName (λ n. FindsNoProtocol other file n.name) place p.managers ⊎ AtName (λ n. FindsNoProtocol other file n.name) place p.manages)
      (λ file p q same. elim [
        | inl at ↦ inl (at_name (λ n. FindsNoProtocol program file n.name) (λ n. FindsNoProtocol other file n.name) (λ n none. no_protocol_alike program other alike file n.name none) place p.managers q.managers (λ i. (same i).managers) at)
        | inr at ↦ inr (at_name (λ n. FindsNoProtocol program file n.name) (λ n. FindsNoProtocol other file n.name) (λ n none. no_protocol_alike program other alike file n.name none) place p.manages q.manages (λ i. (same i).manages) at)
      ]) broken

  disagreement : IsDisagreement program place → IsDisagreement other place
  disagreement broken =
      protocol_at_alike program other alike
      (λ file p. AtName (λ n. FindsWith (λ k q. ¬ NamesManager program k q file) program file n.name) place p.manages ⊎ AtName (λ n. FindsWith (λ k m. ¬ Manages program k m file) program file n.name) place p.managers)
      (λ file p. AtName (λ n. FindsWith (λ k q. ¬ NamesManager other k q file) other file n.name) place p.manages ⊎ AtName (λ n. FindsWith (λ k m. ¬ Manages other k m file) other file n.name) place p.managers)
      (λ file p q same. elim [
        | inl at ↦ inl (at_name (λ n. FindsWith (λ k q. ¬ NamesManager program k q file) program file n.name) (λ n. FindsWith (λ k q. ¬ NamesManager other k q file) other file n.name)
            (λ n found. finds_with program other alike (λ k q. ¬ NamesManager program k q file) (λ k q. ¬ NamesManager other k q file) (λ k a b is not names. not (names_manager other program (sym alike) k b a file (sym is) names)) file n.name found)
            place p.manages q.manages (λ i. (same i).manages) at)
        | inr at ↦ inr (at_name (λ n. FindsWith (λ k m. ¬ Manages program k m file) program file n.name) (λ n. FindsWith (λ k m. ¬ Manages other k m file) other file n.name)
            (λ n found. finds_with program other alike (λ k m. ¬ Manages program k m file) (λ k m. ¬ Manages other k m file) (λ k a b is not names. not (manages other program (sym alike) k b a file (sym is) names)) file n.name found)
            place p.managers q.managers (λ i. (same i).managers) at)
      ]) broken

  stronger_than_manager : IsStrongerThanManager program place → IsStrongerThanManager other place
  stronger_than_manager broken =
      protocol_at_alike program other alike
      (λ file p. AtName (λ n. FindsWith (λ k m. ¬ Converts (strength_of_protocol p) (strength_of_protocol m)) program file n.name) place p.managers)
      (λ file p. AtName (λ n. FindsWith (λ k m. ¬ Converts (strength_of_protocol p) (strength_of_protocol m)) other file n.name) place p.managers)
      (λ file p q same at. at_name (λ n. FindsWith (λ k m. ¬ Converts (strength_of_protocol p) (strength_of_protocol m)) program file n.name) (λ n. FindsWith (λ k m. ¬ Converts (strength_of_protocol q) (strength_of_protocol m)) other file n.name)
      (λ n found. finds_with program other alike (λ k m. ¬ Converts (strength_of_protocol p) (strength_of_protocol m)) (λ k m. ¬ Converts (strength_of_protocol q) (strength_of_protocol m))
      (λ k a b is not. subst (λ (x : ProtocolDecl). ¬ Converts (strength_of_protocol x) (strength_of_protocol b)) same (subst (λ (x : ProtocolDecl). ¬ Converts (strength_of_protocol p) (strength_of_protocol x)) is not)) file n.name found)
      place p.managers q.managers (λ i. (same i).managers) at)
      broken

  manager_cycle : IsManagerCycle program place → IsManagerCycle other place
  manager_cycle broken =
      protocol_at_alike program other alike (λ file p. IsInCycle program file × (p.place ≡ place)) (λ file p. IsInCycle other file × (p.place ≡ place))
      (λ file p q same is. (in_cycle program other alike file is.0, subst (λ (x : ProtocolDecl). x.place ≡ place) same is.1)) broken

  missing_constructor : IsMissingConstructor program place → IsMissingConstructor other place
  missing_constructor broken =
      protocol_at_alike program other alike
      (λ file p. AtName (λ n. FindsWith (λ k q. ¬ HasMessage p n.name) program file n.name) place p.manages) (λ file p. AtName (λ n. FindsWith (λ k q. ¬ HasMessage p n.name) other file n.name) place p.manages)
      (λ file p q same at. at_name (λ n. FindsWith (λ k r. ¬ HasMessage p n.name) program file n.name) (λ n. FindsWith (λ k r. ¬ HasMessage q n.name) other file n.name)
      (λ n found. finds_with program other alike (λ k r. ¬ HasMessage p n.name) (λ k r. ¬ HasMessage q n.name) (λ k a b is not has. not (has_message q p n.name (sym same) has)) file n.name found)
      place p.manages q.manages (λ i. (same i).manages) at)
      broken

  missing_destructor : IsMissingDestructor program place → IsMissingDestructor other place
  missing_destructor broken =
      protocol_at_alike program other alike
      (λ file p. (¬ (p.managers ≡ [])) × (¬ HasMessage p (codes "__delete__")) × (p.place ≡ place)) (λ file p. (¬ (p.managers ≡ [])) × (¬ HasMessage p (codes "__delete__")) × (p.place ≡ place))
      (λ file p q same is. (subst (λ (x : ProtocolDecl). ¬ (x.managers ≡ [])) same is.0, λ has. is.1 (has_message q p (codes "__delete__") (sym same) has), subst (λ (x : ProtocolDecl). x.place ≡ place) same is.2)) broken

  unmanaged_constructor : IsUnmanagedConstructor program place → IsUnmanagedConstructor other place
  unmanaged_constructor broken =
      protocol_at_alike program other alike
      (λ file p. Any (λ m. FindsWith (λ k q. ¬ Manages program file p k) program file m.name × (m.place ≡ place)) p.messages) (λ file p. Any (λ m. FindsWith (λ k q. ¬ Manages other file p k) other file m.name × (m.place ≡ place)) p.messages)
      (λ file p q same some. any_message_alike (λ m. FindsWith (λ k r. ¬ Manages program file p k) program file m.name × (m.place ≡ place)) (λ m. FindsWith (λ k r. ¬ Manages other file q k) other file m.name × (m.place ≡ place))
      (λ m n looks holds. (
        subst (λ (x : MessageDecl). FindsWith (λ k r. ¬ Manages other file q k) other file x.name) looks
            (finds_with program other alike (λ k r. ¬ Manages program file p k) (λ k r. ¬ Manages other file q k) (λ k a b is not has. not (manages other program (sym alike) file q p k (sym same) has)) file m.name holds.0),
        subst (λ (x : MessageDecl). x.place ≡ place) looks holds.1,
      ))
      p q same some)
      broken

  repeated_name : IsRepeatedName program place → IsRepeatedName other place
  repeated_name broken =
      protocol_at_alike program other alike
      (λ file p. IsRepeatedAt (names_at p.managers) place ⊎ (IsRepeatedAt (names_at p.manages) place ⊎ IsRepeatedAt (messages_at p.messages) place))
      (λ file p. IsRepeatedAt (names_at p.managers) place ⊎ (IsRepeatedAt (names_at p.manages) place ⊎ IsRepeatedAt (messages_at p.messages) place))
      (λ file p q same. elim [
        | inl repeated ↦ inl (subst (λ (x : ProtocolDecl). IsRepeatedAt (names_at x.managers) place) same repeated)
        | inr (inl repeated) ↦ inr (inl (subst (λ (x : ProtocolDecl). IsRepeatedAt (names_at x.manages) place) same repeated))
        | inr (inr repeated) ↦ inr (inr (subst (λ names. IsRepeatedAt names place) (map_alike unboxed_message (λ (m : MessageDecl). (m.name, m.place)) (λ m. refl) p.messages q.messages (λ i. (same i).messages)) repeated))
      ]) broken

module _ (program other : List Entry) (alike : AreProgramsAlike program other) where
  pub managers_alike : (f : Finding) → BrokenAt program f → BrokenAt other f
  managers_alike f (inl broken) = inl (broken.0, unknown_protocol program other alike f.place broken.1)
  managers_alike f (inr (inl broken)) = inr (inl (broken.0, disagreement program other alike f.place broken.1))
  managers_alike f (inr (inr (inl broken))) = inr (inr (inl (broken.0, stronger_than_manager program other alike f.place broken.1)))
  managers_alike f (inr (inr (inr (inl broken)))) = inr (inr (inr (inl (broken.0, manager_cycle program other alike f.place broken.1))))
  managers_alike f (inr (inr (inr (inr (inl broken))))) = inr (inr (inr (inr (inl (broken.0, missing_constructor program other alike f.place broken.1)))))
  managers_alike f (inr (inr (inr (inr (inr (inl broken)))))) = inr (inr (inr (inr (inr (inl (broken.0, missing_destructor program other alike f.place broken.1))))))
  managers_alike f (inr (inr (inr (inr (inr (inr (inl broken))))))) = inr (inr (inr (inr (inr (inr (inl (broken.0, unmanaged_constructor program other alike f.place broken.1)))))))
  managers_alike f (inr (inr (inr (inr (inr (inr (inr broken))))))) = inr (inr (inr (inr (inr (inr (inr (broken.0, repeated_name program other alike f.place broken.1)))))))
