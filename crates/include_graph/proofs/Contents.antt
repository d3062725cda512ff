-- A file has one content.
use Rattle.std.proofs.Common.{◌≡◌, ◌≤◌, ℕ, List, length, refl, sym, ◌∙◌, ap, subst, arith}
use Rattle.std.specs.Prelude.{Option, Some, None}
use Rattle.std.proofs.lemmas.Option.{same_Some}
use Rattle.ipdl_base.specs.declared.finding.Place.{Place}
use Rattle.ipdl_base.specs.declared.files.TheConstants.{MOST_BYTES}
use Rattle.ipdl_base.specs.Outside.{HasMore}
use Rattle.ipdl_lex.specs.declared.token.LexedText.{LexedText}
use Rattle.ipdl_lex.specs.declared.token.LexFault.{LexFault}
use Rattle.ipdl_lex.specs.Tokens.{IsTokens, IsFault}
use Rattle.ipdl_syntax.specs.declared.tree.FileKind.{FileKind}
use Rattle.ipdl_syntax.specs.declared.tree.Unit.{Unit as FileUnit}
use Rattle.ipdl_syntax.specs.Program.{Tree}
use Rattle.ipdl_parse.specs.Place.{IsSyntaxPlace, IsPlaceAt}
use Rattle.grammar_laws.specs.Boxes.{unboxed}
use Rattle.include_graph.specs.declared.content.Content.{Content}
use Rattle.include_graph.specs.declared.content.Content.TheVariants.{Absent, Large, BadToken, SyntaxFault, Read}
use Rattle.include_graph.specs.Reach.{IsUnitOf}
use Rattle.include_graph.specs.Reading.{IsContent}
use Rattle.include_graph.specs.Rules.{HasBadToken, HasSyntaxFault, place_of}
use Rattle.include_graph.proofs.OneUnit.{AtMostOne, kind_one}
use Rattle.include_graph.proofs.SyntaxPlaces.{one_syntax_place}

-- a text has at most one answer, and tokens have at most one tree
pub record OneAnswer : Type 0 where
  pub one : AtMostOne
  pub fault : (file : ℕ) (text : List ℕ) (a b : LexFault) → IsFault file text a → IsFault file text b → a ≡ b
  pub never_both : (file : ℕ) (text : List ℕ) (lexed : LexedText) (fault : LexFault) → IsTokens file text lexed → ¬ IsFault file text fault

-- a key has one text
one_text : {held : Option (List ℕ)} {a b : List ℕ} → held ≡ Some a → held ≡ Some b → a ≡ b
one_text e f = same_Some _ _ (sym e ∙ f)

-- an absent text is not a text
no_text : {held : Option (List ℕ)} {b : List ℕ} → held ≡ None → held ≡ Some b → ⊥
no_text e f = cc

module _ (laws : OneAnswer) (number : ℕ) (key : List ℕ) (held : Option (List ℕ)) where
  -- a text is not both small and large
  not_large : {b : List ℕ} → held ≡ Some b → length b ≤ MOST_BYTES → ¬ HasMore MOST_BYTES held
  not_large {b} e small l =
      let same : b ≡ l.bytes = one_text e l.has in
      let large = l.large in
      let s = ap length same in
      omega arith

  -- a text does not have tokens and a fault
  not_both : {a b : List ℕ} {lexed : LexedText} {fault : LexFault} → held ≡ Some a → IsTokens number a lexed → held ≡ Some b → ¬ IsFault number b fault
  not_both {a} {b} {lexed} {fault} e t f u = laws.never_both number a lexed fault t (subst (λ text. IsFault number text fault) (one_text f e) u)

  -- the tokens of equal texts are one list
  same_tokens : {a b : List ℕ} {one other : LexedText} → held ≡ Some a → IsTokens number a one → held ≡ Some b → IsTokens number b other → one ≡ other
  same_tokens {a} {b} {one} {other} e t f u = laws.one.tokens number a one other t (subst (λ text. IsTokens number text other) (one_text f e) u)

  pub absent_is : (c : Content) → IsContent number key held c → held ≡ None → c ≡ Absent
  absent_is Absent h none = refl
  absent_is Large h none = absurd (no_text none h.has)
  absent_is (BadToken place) h none = absurd (no_text none h.has)
  absent_is (SyntaxFault place) h none = absurd (no_text none h.has)
  absent_is (Read unit) h none = absurd (no_text none h.has)

  pub large_is : (c : Content) → IsContent number key held c → HasMore MOST_BYTES held → c ≡ Large
  large_is Absent h l = absurd (no_text h l.has)
  large_is Large h l = refl
  large_is (BadToken place) h l = absurd (not_large h.has h.small l)
  large_is (SyntaxFault place) h l = absurd (not_large h.has h.small l)
  large_is (Read unit) h l = absurd (not_large h.has h.small l)

  pub bad_is : (c : Content) (place : Place) → IsContent number key held c → HasBadToken number held place → c ≡ BadToken place
  bad_is Absent place h b = absurd (no_text h b.has)
  bad_is Large place h b = absurd (not_large b.has b.small h)
  bad_is (BadToken here) place h b =
      let fault : h.fault ≡ b.fault = laws.fault number h.bytes h.fault b.fault h.is_fault (subst (λ text. IsFault number text b.fault) (one_text b.has h.has) b.is_fault) in
      ap BadToken (same_Some _ _ (sym h.here ∙ (ap place_of fault ∙ b.here)))
  bad_is (SyntaxFault here) place h b = absurd (not_both h.has h.tokens b.has b.is_fault)
  bad_is (Read unit) place h b = absurd (not_both h.has h.tokens b.has b.is_fault)

  -- a file with a tree has no syntax fault
  no_fault : {unit : FileUnit} {place : Place} → IsUnitOf number key held unit → ¬ HasSyntaxFault number key held place
  no_fault {unit} u f =
      let lexed = same_tokens u.has u.tokens f.has f.tokens in
      let kind = kind_one key u.kind f.kind u.is_kind f.is_kind in
      f.none (unit, subst (λ (k : FileKind). Tree k f.lexed.tokens unit) kind (subst (λ (l : LexedText). Tree u.kind l.tokens unit) lexed u.tree))

  pub fault_is : (c : Content) (place : Place) → IsContent number key held c → HasSyntaxFault number key held place → c ≡ SyntaxFault place
  fault_is Absent place h f = absurd (no_text h f.has)
  fault_is Large place h f = absurd (not_large f.has f.small h)
  fault_is (BadToken here) place h f = absurd (not_both f.has f.tokens h.has h.is_fault)
  fault_is (SyntaxFault here) place h f =
      let lexed = same_tokens h.has h.tokens f.has f.tokens in
      let kind = kind_one key h.kind f.kind h.is_kind f.is_kind in
      let longest = subst (λ (k : FileKind). IsSyntaxPlace k f.lexed.tokens h.index) kind (subst (λ (l : LexedText). IsSyntaxPlace h.kind l.tokens h.index) lexed h.longest) in
      let at = subst (λ (l : LexedText). IsPlaceAt l.tokens l.end h.index here) lexed h.here in
      ap SyntaxFault (one_syntax_place f.kind f.lexed.tokens f.lexed.end here place h.index f.index longest f.longest at f.here)
  fault_is (Read unit) place h f = absurd (no_fault h f)

  -- the tree in the content of a file is its tree, up to where boxes lie
  pub unit_is : (c : Content) (unit : FileUnit) → IsContent number key held c → IsUnitOf number key held unit → (other : FileUnit) × (c ≡ Read other) × (unboxed unit ≡ unboxed other)
  unit_is Absent unit h u = absurd (no_text h u.has)
  unit_is Large unit h u = absurd (not_large u.has u.small h)
  unit_is (BadToken here) unit h u = absurd (not_both u.has u.tokens h.has h.is_fault)
  unit_is (SyntaxFault here) unit h u = absurd (no_fault u h)
  unit_is (Read other) unit h u =
      let lexed = same_tokens u.has u.tokens h.has h.tokens in
      let kind = kind_one key u.kind h.kind u.is_kind h.is_kind in
      let tree = subst (λ (k : FileKind). Tree k h.lexed.tokens unit) kind (subst (λ (l : LexedText). Tree u.kind l.tokens unit) lexed u.tree) in
      (other, refl, laws.one.tree h.kind h.lexed.tokens unit other tree h.tree)
