-- The findings of the rules on managers and managed protocols are listed.
use Rattle.std.proofs.Common.{◌≡◌, ◌≢◌, ◌⊎◌, ℕ, List, [], ◌∷◌, Any, IsSomeAnd, codes, refl, inl, inr}
use Rattle.ipdl_base.specs.declared.finding.Place.{Place}
use Rattle.ipdl_base.specs.declared.finding.TheConstants.Rule as rule
use Rattle.ipdl_syntax.specs.declared.program.Entry.{Entry}
use Rattle.ipdl_syntax.specs.declared.tree.NameAt.{NameAt}
use Rattle.ipdl_syntax.specs.declared.tree.ProtocolDecl.{ProtocolDecl}
use Rattle.findings.specs.Repeats.{IsRepeatedAt}
use Rattle.name_table.specs.Decls.{FindsNoProtocol}
use Rattle.name_table.specs.Kinds.{Converts, strength_of_protocol}
use Rattle.manager_rules.specs.Broken.{AtName, FindsWith, HasMessage, IsDisagreement, IsManagerCycle, IsMissingConstructor, IsMissingDestructor, IsRepeatedName, IsStrongerThanManager, IsUnknownProtocol, IsUnmanagedConstructor, SomeProtocol, messages_at, names_at}
use Rattle.manager_rules.specs.Managers.{IsInCycle, Manages, NamesManager}
use Rattle.report_existence.specs.Laws.{IsListed}
use Rattle.report_existence.proofs.Finite.{both_or_not, either_place, not_or, of_any, of_rule, same_places, of_some}
use Rattle.rule_existence.specs.Laws.{ManagerFindingsAreListed}
use Rattle.rule_existence.proofs.Listed.{at_place, of_repeated}
use Rattle.rule_existence.proofs.ManagersCycles.{cycle_or_not, manages_or_not, names_manager_or_not}
use Rattle.rule_existence.proofs.ManagersFound.{message_or_not, no_protocol_or_not, with_or_not}
use Rattle.rule_existence.proofs.MessagesKinds.{converts_or_not}
use Rattle.rule_existence.proofs.MessagesPlaces.{of_some_and}

-- the things that the protocol of some file has, with the number of the file
of_file_protocols : (program : List Entry) (Holds : ℕ → ProtocolDecl → Place → Type 0) → ((file : ℕ) (p : ProtocolDecl) → IsListed (Holds file p)) → IsListed (λ place. SomeProtocol (λ file p. Holds file p place) program)
of_file_protocols program Holds each =
    of_some program (λ file e place. IsSomeAnd e.unit.protocol (λ p. Holds file p place)) (λ file e. of_some_and e.unit.protocol (Holds file) (each file))

-- the places of those names with a decided property
of_names : (Holds : NameAt → Type 0) → ((n : NameAt) → Holds n ⊎ (Holds n → ⊥)) → (names : List NameAt) → IsListed (λ place. AtName Holds place names)
of_names Holds decided names = of_any names (λ n place. Holds n × (n.place ≡ place)) (λ n. at_place (Holds n) (decided n) n.place)

-- the places of those names that find one protocol with a decided property
of_found : (program : List Entry) (file : ℕ) (Holds : ℕ → ProtocolDecl → Type 0) → ((other : ℕ) (q : ProtocolDecl) → Holds other q ⊎ (Holds other q → ⊥)) → (names : List NameAt) → IsListed (λ place. AtName (λ n. FindsWith Holds program file n.name) place names)
of_found program file Holds decided names = of_names (λ n. FindsWith Holds program file n.name) (λ n. with_or_not Holds decided program file n.name) names

-- Names

unknown_listed : (program : List Entry) → IsListed (IsUnknownProtocol program)
unknown_listed program =
    of_file_protocols program (λ file p place. AtName (λ n. FindsNoProtocol program file n.name) place p.managers ⊎ AtName (λ n. FindsNoProtocol program file n.name) place p.manages)
    (λ file p.
    either_place _ _
    (of_names (λ n. FindsNoProtocol program file n.name) (λ n. no_protocol_or_not program file n.name) p.managers)
    (of_names (λ n. FindsNoProtocol program file n.name) (λ n. no_protocol_or_not program file n.name) p.manages))

disagreements_listed : (program : List Entry) → IsListed (IsDisagreement program)
disagreements_listed program =
    of_file_protocols program
    (λ file p place.
    AtName (λ n. FindsWith (λ other q. ¬ NamesManager program other q file) program file n.name) place p.manages
    ⊎ AtName (λ n. FindsWith (λ other m. ¬ Manages program other m file) program file n.name) place p.managers)
    (λ file p.
    either_place _ _
    (of_found program file (λ other q. ¬ NamesManager program other q file) (λ other q. not_or (names_manager_or_not program other q file)) p.manages)
    (of_found program file (λ other m. ¬ Manages program other m file) (λ other m. not_or (manages_or_not program other m file)) p.managers))

stronger_listed : (program : List Entry) → IsListed (IsStrongerThanManager program)
stronger_listed program =
    of_file_protocols program (λ file p place. AtName (λ n. FindsWith (λ other m. ¬ Converts (strength_of_protocol p) (strength_of_protocol m)) program file n.name) place p.managers)
    (λ file p.
    of_found program file (λ other m. ¬ Converts (strength_of_protocol p) (strength_of_protocol m))
    (λ other m. not_or (converts_or_not (strength_of_protocol p) (strength_of_protocol m))) p.managers)

unconstructed_listed : (program : List Entry) → IsListed (IsMissingConstructor program)
unconstructed_listed program =
    of_file_protocols program (λ file p place. AtName (λ n. FindsWith (λ other q. ¬ HasMessage p n.name) program file n.name) place p.manages)
    (λ file p.
    of_names (λ n. FindsWith (λ other q. ¬ HasMessage p n.name) program file n.name)
    (λ n. with_or_not (λ other q. ¬ HasMessage p n.name) (λ other q. not_or (message_or_not p n.name)) program file n.name) p.manages)

-- Protocols

cycles_listed : (program : List Entry) → IsListed (IsManagerCycle program)
cycles_listed program =
    of_file_protocols program (λ file p place. IsInCycle program file × (p.place ≡ place)) (λ file p. at_place (IsInCycle program file) (cycle_or_not program file) p.place)

empty_or_not : {X : Type 0} (xs : List X) → (xs ≡ []) ⊎ (xs ≡ [] → ⊥)
empty_or_not [] = inl refl
empty_or_not (x ∷ xs) = inr (λ e. cc)

undestroyed_listed : (program : List Entry) → IsListed (IsMissingDestructor program)
undestroyed_listed program =
    of_file_protocols program (λ file p place. (p.managers ≢ []) × (¬ HasMessage p (codes "__delete__")) × (p.place ≡ place))
    (λ file p.
    same_places (λ place. ((p.managers ≢ []) × (¬ HasMessage p (codes "__delete__"))) × (p.place ≡ place)) (λ place. (p.managers ≢ []) × (¬ HasMessage p (codes "__delete__")) × (p.place ≡ place))
    (λ place h. (h.0.0, h.0.1, h.1)) (λ place h. ((h.0, h.1), h.2))
    (at_place ((p.managers ≢ []) × (¬ HasMessage p (codes "__delete__"))) (both_or_not (not_or (empty_or_not p.managers)) (not_or (message_or_not p (codes "__delete__")))) p.place))

-- Messages, and repeated names

unmanaged_listed : (program : List Entry) → IsListed (IsUnmanagedConstructor program)
unmanaged_listed program =
    of_file_protocols program (λ file p place. Any (λ m. FindsWith (λ other q. ¬ Manages program file p other) program file m.name × (m.place ≡ place)) p.messages)
    (λ file p.
    of_any p.messages (λ m place. FindsWith (λ other q. ¬ Manages program file p other) program file m.name × (m.place ≡ place))
    (λ m.
    at_place (FindsWith (λ other q. ¬ Manages program file p other) program file m.name)
    (with_or_not (λ other q. ¬ Manages program file p other) (λ other q. not_or (manages_or_not program file p other)) program file m.name) m.place))

repeated_listed : (program : List Entry) → IsListed (IsRepeatedName program)
repeated_listed program =
    of_file_protocols program
    (λ file p place. IsRepeatedAt (names_at p.managers) place ⊎ (IsRepeatedAt (names_at p.manages) place ⊎ IsRepeatedAt (messages_at p.messages) place))
    (λ file p. either_place _ _ (of_repeated (names_at p.managers)) (either_place _ _ (of_repeated (names_at p.manages)) (of_repeated (messages_at p.messages))))

pub manager_findings_are_listed : ManagerFindingsAreListed
manager_findings_are_listed program =
    either_place _ _ (of_rule rule.UNKNOWN_PROTOCOL _ (unknown_listed program))
    (either_place _ _ (of_rule rule.MANAGER_DISAGREEMENT _ (disagreements_listed program))
    (either_place _ _ (of_rule rule.STRONGER_PROTOCOL _ (stronger_listed program))
    (either_place _ _ (of_rule rule.MANAGER_CYCLE _ (cycles_listed program))
    (either_place _ _ (of_rule rule.MISSING_CONSTRUCTOR _ (unconstructed_listed program))
    (either_place _ _ (of_rule rule.MISSING_DESTRUCTOR _ (undestroyed_listed program))
    (either_place _ _ (of_rule rule.UNMANAGED_CONSTRUCTOR _ (unmanaged_listed program)) (of_rule rule.REPEATED_NAME _ (repeated_listed program))))))))
