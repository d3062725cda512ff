-- The findings of all rules on messages are listed.
use Rattle.std.proofs.Common.{◌≡◌, ◌⊎◌, ℕ, List, Any, ◌++◌, map}
use Rattle.ipdl_base.specs.declared.finding.TheConstants.Rule as rule
use Rattle.ipdl_syntax.specs.declared.program.Entry.{Entry}
use Rattle.ipdl_syntax.specs.declared.tree.MessageDecl.{MessageDecl}
use Rattle.ipdl_syntax.specs.declared.tree.ProtocolDecl.{ProtocolDecl}
use Rattle.findings.specs.Gains.{AtSome}
use Rattle.findings.specs.Repeats.{IsRepeatedAt}
use Rattle.message_rules.specs.Broken.{IsRepeatedParameter, SomeMessage, returns_of}
use Rattle.message_rules.specs.Messages.{IsAsyncInsideSync, IsBadCompress, IsBadLazy, IsBadMaker, IsInsideCpowToChild, IsPlainSyncToChild, IsStronger, IsTooMany}
use Rattle.report_existence.specs.Laws.{IsListed}
use Rattle.report_existence.proofs.Finite.{either_place, of_any, of_rule, of_some}
use Rattle.rule_existence.specs.Laws.{MessageFindingsAreListed}
use Rattle.rule_existence.proofs.Listed.{at_place, of_repeated}
use Rattle.rule_existence.proofs.MessagesDecided.{bad_compress_or_not, bad_lazy_or_not, bad_maker_or_not, inside_cpow_or_not, inside_sync_or_not, plain_sync_or_not, stronger_or_not, too_many_or_not}
use Rattle.rule_existence.proofs.MessagesPlaces.{of_protocols}

-- the places of the messages with a decided property
messages_listed : (Holds : ProtocolDecl → ℕ → MessageDecl → Type 0) → ((p : ProtocolDecl) (index : ℕ) (m : MessageDecl) → Holds p index m ⊎ (Holds p index m → ⊥)) → (program : List Entry) → IsListed (SomeMessage Holds program)
messages_listed Holds each program =
    of_protocols program (λ p place. AtSome (λ index m. Holds p index m × (m.place ≡ place)) p.messages)
    (λ p. of_some p.messages (λ index m place. Holds p index m × (m.place ≡ place)) (λ index m. at_place (Holds p index m) (each p index m) m.place))

parameters_listed : (program : List Entry) → IsListed (IsRepeatedParameter program)
parameters_listed program =
    of_protocols program (λ p place. Any (λ m. IsRepeatedAt (map (λ q. (q.name, q.place)) (m.params ++ returns_of m.returns)) place) p.messages)
    (λ p.
    of_any p.messages (λ m place. IsRepeatedAt (map (λ q. (q.name, q.place)) (m.params ++ returns_of m.returns)) place)
    (λ m. of_repeated (map (λ q. (q.name, q.place)) (m.params ++ returns_of m.returns))))

pub message_findings_are_listed : MessageFindingsAreListed
message_findings_are_listed program =
    either_place _ _ (of_rule rule.TOO_MANY_MESSAGES _ (messages_listed (λ p index m. IsTooMany index) (λ p index m. too_many_or_not index) program))
    (either_place _ _ (of_rule rule.PLAIN_SYNC_TO_CHILD _ (messages_listed (λ p index m. IsPlainSyncToChild m) (λ p index m. plain_sync_or_not m) program))
    (either_place _ _ (of_rule rule.INSIDE_SYNC_NOT_SYNC _ (messages_listed (λ p index m. IsAsyncInsideSync m) (λ p index m. inside_sync_or_not m) program))
    (either_place _ _ (of_rule rule.INSIDE_CPOW_TO_CHILD _ (messages_listed (λ p index m. IsInsideCpowToChild m) (λ p index m. inside_cpow_or_not m) program))
    (either_place _ _ (of_rule rule.STRONGER_MESSAGE _ (messages_listed (λ p index m. IsStronger p m) (λ p index m. stronger_or_not p m) program))
    (either_place _ _ (of_rule rule.BAD_COMPRESS _ (messages_listed (λ p index m. IsBadCompress p m) (λ p index m. bad_compress_or_not p m) program))
    (either_place _ _ (of_rule rule.REPEATED_PARAMETER _ (parameters_listed program))
    (either_place _ _ (of_rule rule.BAD_CONSTRUCTOR _ (messages_listed (λ p index m. IsBadMaker p m) (λ p index m. bad_maker_or_not p m) program))
    (of_rule rule.BAD_LAZY_SEND _ (messages_listed (λ p index m. IsBadLazy p m) (λ p index m. bad_lazy_or_not p m) program)))))))))
