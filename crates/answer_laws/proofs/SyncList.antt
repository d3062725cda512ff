-- Programs that are alike break the same rules of a sync list.
use Rattle.std.proofs.Common.{◌≡◌, inl, inr, ◌∙◌, ℕ, List, length, sym, ap, subst}
use Rattle.std.specs.List.{Any}
use Rattle.std.proofs.lemmas.List.{length-map}
use Rattle.ipdl_base.specs.Words.{short_name}
use Rattle.ipdl_base.specs.declared.finding.Finding.{Finding}
use Rattle.ipdl_base.specs.declared.finding.Place.{Place}
use Rattle.ipdl_base.specs.declared.kinds.Semantics.{Semantics}
use Rattle.ipdl_base.specs.declared.kinds.Semantics.TheVariants.{Async, Sync}
use Rattle.ipdl_syntax.specs.declared.program.Entry.{Entry}
use Rattle.ipdl_syntax.specs.declared.tree.MessageDecl.{MessageDecl}
use Rattle.ipdl_syntax.specs.declared.tree.ProtocolDecl.{ProtocolDecl}
use Rattle.sync_list.specs.declared.list.Section.{Section}
use Rattle.sync_list.specs.Broken.{Lists, IsRead, HasMessage, IsUnlistedAt, AtSection, IsUnlistedSync, NamesAsync, NamesAbsent, HasNoDescription, BrokenAt}
use Rattle.answer_laws.specs.Programs.{unboxed_entry, AreProgramsAlike}
use Rattle.answer_laws.proofs.Protocols.{SameMessage, any_protocol_alike, any_message_alike}

-- Messages

named_so : (semantics : Semantics) (message : List ℕ) (m n : MessageDecl) → SameMessage m n → (m.semantics ≡ semantics) × (m.name ≡ message) → (n.semantics ≡ semantics) × (n.name ≡ message)
named_so semantics message m n same is = subst (λ (x : MessageDecl). (x.semantics ≡ semantics) × (x.name ≡ message)) same is

unlisted_at : (list : List Section) (protocol : List ℕ) (place : Place) (m n : MessageDecl) → SameMessage m n → IsUnlistedAt list protocol place m → IsUnlistedAt list protocol place n
unlisted_at list protocol place m n same is = record {
  sync = subst (λ (x : MessageDecl). x.semantics ≡ Sync) same is.sync;
  unlisted = subst (λ (x : MessageDecl). ¬ Lists list protocol x.name) same is.unlisted;
  here = subst (λ (x : MessageDecl). x.place ≡ place) same is.here;
}

-- Protocols

module _ (program other : List Entry) (alike : AreProgramsAlike program other) where
  is_read : (protocol : List ℕ) → IsRead program protocol → IsRead other protocol
  is_read protocol read =
      any_protocol_alike program other alike (λ p. short_name p.full ≡ protocol) (λ p. short_name p.full ≡ protocol) (λ p q same is. subst (λ (x : ProtocolDecl). short_name x.full ≡ protocol) same is) read

  has_message : (semantics : Semantics) (protocol message : List ℕ) → HasMessage semantics program protocol message → HasMessage semantics other protocol message
  has_message semantics protocol message has =
      any_protocol_alike program other alike
      (λ p. (short_name p.full ≡ protocol) × Any (λ m. (m.semantics ≡ semantics) × (m.name ≡ message)) p.messages) (λ p. (short_name p.full ≡ protocol) × Any (λ m. (m.semantics ≡ semantics) × (m.name ≡ message)) p.messages)
      (λ p q same is. (
        subst (λ (x : ProtocolDecl). short_name x.full ≡ protocol) same is.0,
        any_message_alike (λ m. (m.semantics ≡ semantics) × (m.name ≡ message)) (λ m. (m.semantics ≡ semantics) × (m.name ≡ message)) (named_so semantics message) p q same is.1,
      ))
      has

  unlisted_sync : (list : List Section) (place : Place) → IsUnlistedSync program list place → IsUnlistedSync other list place
  unlisted_sync list place broken =
      any_protocol_alike program other alike (λ p. Any (IsUnlistedAt list (short_name p.full) place) p.messages) (λ p. Any (IsUnlistedAt list (short_name p.full) place) p.messages)
      (λ p q same some. subst (λ (x : ProtocolDecl). Any (IsUnlistedAt list (short_name x.full) place) q.messages) same
      (any_message_alike (IsUnlistedAt list (short_name p.full) place) (IsUnlistedAt list (short_name p.full) place) (unlisted_at list (short_name p.full) place) p q same some))
      broken

  -- Sections

  same_length : length program ≡ length other
  same_length = sym (length-map program unboxed_entry) ∙ ap length alike ∙ length-map other unboxed_entry

  at_section : (P Q : Section → Type 0) → ((s : Section) → P s → Q s) → (list : List Section) (place : Place) → AtSection P program list place → AtSection Q other list place
  at_section P Q step list place at =
      (at.0, at.1, at.2, at.3, (step at.1 at.4.0, subst (λ n. record { file = n; line = (at.1).line; column = 1 } ≡ place) same_length at.4.1))

module _ (program other : List Entry) (alike : AreProgramsAlike program other) where
  names_absent : (s : Section) → NamesAbsent program s → NamesAbsent other s
  names_absent s names = record {
    read = is_read program other alike s.protocol names.read;
    absent = λ semantics has. names.absent semantics (has_message other program (sym alike) semantics s.protocol s.message has);
  }

  pub listed_alike : (list : List Section) (f : Finding) → BrokenAt program list f → BrokenAt other list f
  listed_alike list f (inl broken) = inl (broken.0, unlisted_sync program other alike list f.place broken.1)
  listed_alike list f (inr (inl broken)) =
      inr (inl (broken.0, at_section program other alike (NamesAsync program) (NamesAsync other) (λ s names. has_message program other alike Async s.protocol s.message names) list f.place broken.1))
  listed_alike list f (inr (inr (inl broken))) = inr (inr (inl (broken.0, at_section program other alike (NamesAbsent program) (NamesAbsent other) names_absent list f.place broken.1)))
  listed_alike list f (inr (inr (inr broken))) = inr (inr (inr (broken.0, at_section program other alike HasNoDescription HasNoDescription (λ s none. none) list f.place broken.1)))
