-- The findings of all rules on a sync list are listed.
use Rattle.report_existence.proofs.Lists.{bool_or_not, text_or_not}
use Rattle.std.proofs.Common.{◌≡◌, ◌⊎◌, ℕ, true, List, Any, IsSomeAnd}
use Rattle.ipdl_base.specs.Words.{short_name}
use Rattle.ipdl_base.specs.declared.finding.TheConstants.Rule as rule
use Rattle.ipdl_base.specs.declared.kinds.Semantics.{Semantics}
use Rattle.ipdl_base.specs.declared.kinds.Semantics.TheVariants.{Async, Sync}
use Rattle.ipdl_syntax.specs.declared.program.Entry.{Entry}
use Rattle.ipdl_syntax.specs.declared.tree.MessageDecl.{MessageDecl}
use Rattle.ipdl_syntax.specs.declared.tree.ProtocolDecl.{ProtocolDecl}
use Rattle.sync_list.specs.Broken.{AtSection, HasMessage, HasNoDescription, IsRead, IsUnlistedAt, IsUnlistedSync, Lists, NamesAbsent, NamesAsync, SomeProtocol, section_place}
use Rattle.sync_list.specs.declared.list.Section.{Section}
use Rattle.report_existence.specs.Laws.{IsListed}
use Rattle.report_existence.proofs.Finite.{any_or_not, both_or_not, either_place, not_or, of_any, of_rule, same_places}
use Rattle.name_existence.proofs.Decisions.{like_or_not, some_and_or_not, three_or_not}
use Rattle.rule_existence.specs.Laws.{ListFindingsAreListed}
use Rattle.rule_existence.proofs.Listed.{at_place}
use Rattle.rule_existence.proofs.MessagesKinds.{same_semantics_or_not}
use Rattle.rule_existence.proofs.MessagesPlaces.{of_protocols}

-- Sections

lists_or_not : (list : List Section) (protocol message : List ℕ) → Lists list protocol message ⊎ (Lists list protocol message → ⊥)
lists_or_not list protocol message =
    any_or_not (λ s. (s.protocol ≡ protocol) × (s.message ≡ message)) (λ s. both_or_not (text_or_not s.protocol protocol) (text_or_not s.message message)) list

some_protocol_or_not : (Holds : ProtocolDecl → Type 0) → ((p : ProtocolDecl) → Holds p ⊎ (Holds p → ⊥)) → (program : List Entry) → SomeProtocol Holds program ⊎ (SomeProtocol Holds program → ⊥)
some_protocol_or_not Holds each program = any_or_not (λ e. IsSomeAnd e.unit.protocol Holds) (λ e. some_and_or_not e.unit.protocol Holds each) program

read_or_not : (program : List Entry) (protocol : List ℕ) → IsRead program protocol ⊎ (IsRead program protocol → ⊥)
read_or_not program protocol = some_protocol_or_not (λ p. short_name p.full ≡ protocol) (λ p. text_or_not (short_name p.full) protocol) program

has_message_or_not : (semantics : Semantics) (program : List Entry) (protocol message : List ℕ) → HasMessage semantics program protocol message ⊎ (HasMessage semantics program protocol message → ⊥)
has_message_or_not semantics program protocol message =
    some_protocol_or_not (λ p. (short_name p.full ≡ protocol) × Any (λ m. (m.semantics ≡ semantics) × (m.name ≡ message)) p.messages)
    (λ p.
    both_or_not (text_or_not (short_name p.full) protocol)
    (any_or_not (λ m. (m.semantics ≡ semantics) × (m.name ≡ message)) (λ m. both_or_not (same_semantics_or_not m.semantics semantics) (text_or_not m.name message)) p.messages))
    program

-- a property of async and of sync holds of all semantics
for_both : (P : Semantics → Type 0) → P Async → P Sync → (semantics : Semantics) → P semantics
for_both P async sync Async = async
for_both P async sync Sync = sync

absent_or_not : (program : List Entry) (s : Section) → NamesAbsent program s ⊎ (NamesAbsent program s → ⊥)
absent_or_not program s =
    like_or_not
    (λ h. record { read = h.0; absent = for_both (λ semantics. ¬ HasMessage semantics program s.protocol s.message) h.1 h.2 })
    (λ h. (h.read, h.absent Async, h.absent Sync))
    (three_or_not (read_or_not program s.protocol) (not_or (has_message_or_not Async program s.protocol s.message)) (not_or (has_message_or_not Sync program s.protocol s.message)))

sections_listed : (Holds : Section → Type 0) → ((s : Section) → Holds s ⊎ (Holds s → ⊥)) → (program : List Entry) (list : List Section) → IsListed (AtSection Holds program list)
sections_listed Holds each program list = of_any list (λ s place. Holds s × (section_place program s ≡ place)) (λ s. at_place (Holds s) (each s) (section_place program s))

-- Messages

unlisted_listed : (program : List Entry) (list : List Section) → IsListed (IsUnlistedSync program list)
unlisted_listed program list =
    of_protocols program (λ p place. Any (IsUnlistedAt list (short_name p.full) place) p.messages)
    (λ p. of_any p.messages (λ m place. IsUnlistedAt list (short_name p.full) place m) (unlisted_at p))
  where
    unlisted_at : (p : ProtocolDecl) (m : MessageDecl) → IsListed (λ place. IsUnlistedAt list (short_name p.full) place m)
    unlisted_at p m =
        same_places (λ place. ((m.semantics ≡ Sync) × (¬ Lists list (short_name p.full) m.name)) × (m.place ≡ place)) (λ place. IsUnlistedAt list (short_name p.full) place m)
        (λ place h. record { sync = h.0.0; unlisted = h.0.1; here = h.1 })
        (λ place h. ((h.sync, h.unlisted), h.here))
        (at_place ((m.semantics ≡ Sync) × (¬ Lists list (short_name p.full) m.name))
        (both_or_not (same_semantics_or_not m.semantics Sync) (not_or (lists_or_not list (short_name p.full) m.name))) m.place)

pub list_findings_are_listed : ListFindingsAreListed
list_findings_are_listed program list =
    either_place _ _ (of_rule rule.UNLISTED_SYNC _ (unlisted_listed program list))
    (either_place _ _ (of_rule rule.LISTED_ASYNC _ (sections_listed (NamesAsync program) (λ s. has_message_or_not Async program s.protocol s.message) program list))
    (either_place _ _ (of_rule rule.LISTED_ABSENT _ (sections_listed (NamesAbsent program) (absent_or_not program) program list))
    (of_rule rule.NO_DESCRIPTION _ (sections_listed HasNoDescription (λ s. not_or (bool_or_not s.described true)) program list))))
