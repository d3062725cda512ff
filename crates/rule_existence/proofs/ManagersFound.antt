-- It is decided what the name of a protocol finds, and which properties it has.
use Rattle.report_existence.proofs.Lists.{text_or_not}
use Rattle.std.proofs.Common.{◌≡◌, ◌⊎◌, ◌∙◌, ℕ, false, true≢false, List, Option, Some, None, refl, sym, ap, subst, inl, inr}
use Rattle.std.proofs.lemmas.Option.{none-some}
use Rattle.ipdl_syntax.specs.declared.program.Entry.{Entry}
use Rattle.ipdl_syntax.specs.declared.tree.ProtocolDecl.{ProtocolDecl}
use Rattle.name_table.specs.declared.decl.DeclId.{DeclId}
use Rattle.name_table.specs.declared.decl.DeclId.TheVariants.{Protocol}
use Rattle.name_table.specs.declared.decl.Found.{Found}
use Rattle.name_table.specs.declared.decl.Found.TheVariants as found
use Rattle.name_table.specs.Decls.{FindsNoProtocol, FindsOneProtocol, protocol_of}
use Rattle.name_table.specs.Finds.{Counts, FindsAsProtocol}
use Rattle.manager_rules.specs.Broken.{FindsWith, HasMessage}
use Rattle.manager_rules.proofs.Counted.{one_number}
use Rattle.manager_rules.proofs.Found.{with_told}
use Rattle.report_existence.proofs.Finite.{any_or_not}
use Rattle.name_existence.proofs.Decisions.{like_or_not}
use Rattle.name_existence.proofs.Names.{decl_or_not, protocol_names_have_answers}

-- No protocol, and one

no_protocol_by : (program : List Entry) (file : ℕ) (name : List ℕ) (finds : Found) → Counts (FindsAsProtocol program file name) finds → FindsNoProtocol program file name ⊎ (FindsNoProtocol program file name → ⊥)
no_protocol_by program file name found.None counts = inl counts
no_protocol_by program file name (found.One d) counts = inr (λ none. none d counts.0)
no_protocol_by program file name (found.Many d e) counts = inr (λ none. none d counts.0)

pub no_protocol_or_not : (program : List Entry) (file : ℕ) (name : List ℕ) → FindsNoProtocol program file name ⊎ (FindsNoProtocol program file name → ⊥)
no_protocol_or_not program file name = let a = protocol_names_have_answers program file name in no_protocol_by program file name a.0 a.1

one_protocol_by : (program : List Entry) (file : ℕ) (name : List ℕ) (other : ℕ) (finds : Found) → Counts (FindsAsProtocol program file name) finds → FindsOneProtocol program file name other ⊎ (FindsOneProtocol program file name other → ⊥)
one_protocol_by program file name other found.None counts = inr (λ h. counts (Protocol other) h.0)
one_protocol_by program file name other (found.One d) counts =
    like_or_not (λ (e : d ≡ Protocol other). subst (λ (x : DeclId). Counts (FindsAsProtocol program file name) (found.One x)) e counts) (λ h. h.1 d counts.0) (decl_or_not d (Protocol other))
one_protocol_by program file name other (found.Many d e) counts = inr (λ h. counts.2 (h.1 d counts.0 ∙ sym (h.1 e counts.1)))

pub one_protocol_or_not : (program : List Entry) (file : ℕ) (name : List ℕ) (other : ℕ) → FindsOneProtocol program file name other ⊎ (FindsOneProtocol program file name other → ⊥)
one_protocol_or_not program file name other = let a = protocol_names_have_answers program file name in one_protocol_by program file name other a.0 a.1

-- One protocol with a property

module _ (Holds : ℕ → ProtocolDecl → Type 0) (decided : (other : ℕ) (q : ProtocolDecl) → Holds other q ⊎ (Holds other q → ⊥)) (program : List Entry) (file : ℕ) (name : List ℕ) where
  holds_or_not : (other : ℕ) (q : ProtocolDecl) → FindsOneProtocol program file name other → protocol_of program other ≡ Some q → Holds other q ⊎ (Holds other q → ⊥) → FindsWith Holds program file name ⊎ (FindsWith Holds program file name → ⊥)
  holds_or_not other q finds at (inl h) = inl (record { other = other; finds = finds; protocol = q; there = at; holds = h })
  holds_or_not other q finds at (inr none) = inr (λ w. true≢false (sym ((with_told Holds program file name other q false finds at (λ e. absurd (true≢false (sym e)), λ h. absurd (none h))).1 w)))

  protocol_by : (other : ℕ) → FindsOneProtocol program file name other → (o : Option ProtocolDecl) → protocol_of program other ≡ o → FindsWith Holds program file name ⊎ (FindsWith Holds program file name → ⊥)
  protocol_by other finds None at =
      inr (λ w. none-some w.protocol (sym at ∙ (ap (protocol_of program) (sym (one_number (FindsAsProtocol program file name) w.other other w.finds finds)) ∙ w.there)))
  protocol_by other finds (Some q) at = holds_or_not other q finds at (decided other q)

  found_by : (finds : Found) → Counts (FindsAsProtocol program file name) finds → FindsWith Holds program file name ⊎ (FindsWith Holds program file name → ⊥)
  found_by found.None counts = inr (λ w. counts (Protocol w.other) w.finds.0)
  found_by (found.One (Protocol other)) counts = protocol_by other counts (protocol_of program other) refl
  found_by (found.One _) counts = absurd counts.0
  found_by (found.Many d e) counts = inr (λ w. counts.2 (w.finds.1 d counts.0 ∙ sym (w.finds.1 e counts.1)))

  pub with_or_not : FindsWith Holds program file name ⊎ (FindsWith Holds program file name → ⊥)
  with_or_not = let a = protocol_names_have_answers program file name in found_by a.0 a.1

-- Messages

pub message_or_not : (p : ProtocolDecl) (name : List ℕ) → HasMessage p name ⊎ (HasMessage p name → ⊥)
message_or_not p name = any_or_not (λ m. m.name ≡ name) (λ m. text_or_not m.name name) p.messages
