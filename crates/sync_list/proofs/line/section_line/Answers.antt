use Rattle.std.proofs.Common.{◌≡◌, ℕ, false, List, [], ◌∷◌, take, drop, sym, ap, ◌∙◌, subst}
use Rattle.std.specs.Prelude.{nat_eq}
use Rattle.std.specs.Cmp.Lexicographic.{pointwise}
use Rattle.std.proofs.lemmas.Bool.{true≢false}
use Rattle.sync_list.specs.Lines.{IsIdentifier, AreBlanks}
use Rattle.sync_list.proofs.Cuts.{section_head, section_tail, section_spelled}
use Rattle.sync_list.proofs.line.section_line.Goals as goal
use Rattle.sync_list.proofs.line.section_line.Goals.{else-is_identifier-via-then-is_identifier+then-is_identifier-2+else-are_blanks, else-is_identifier-via-then-is_identifier+else-is_identifier-2, else-is_identifier-via-else-is_identifier}

pub returns-in_err-rest-2-clause-none : goal.returns-in_err-rest-2-clause-none
returns-in_err-rest-2-clause-none c =
    rw c.from_residual-in_err-rest-2.ensures
    (λ protocol message s.
    let head = section_head c.args.line.now protocol message c.in_ok-rest.rest.now _ _ s c.in_ok-rest.ensures.cases.1 c.split_word.ensures in
    let P : List ℕ → Type 0 = λ l. pointwise nat_eq (take 2 l) (58 ∷ 58 ∷ []) ≡ false in
    true≢false (subst P head.1 c.in_err-rest-2.ensures.cases))

pub returns-in_err-after-clause-none : goal.returns-in_err-after-clause-none
returns-in_err-after-clause-none c =
    rw c.from_residual-in_err-after.ensures
    (λ protocol message s.
    let head = section_head c.args.line.now protocol message c.in_ok-rest.rest.now _ _ s c.in_ok-rest.ensures.cases.1 c.split_word.ensures in
    let tail = section_tail c.args.line.now protocol message c.in_ok-rest-2.rest.now _ _ s (c.in_ok-rest-2.ensures.cases.1 ∙ ap (drop 2) head.1) c.split_word-2.ensures in
    let P : List ℕ → Type 0 = λ l. pointwise nat_eq (take 1 l) (93 ∷ []) ≡ false in
    true≢false (subst P tail.1 c.in_err-after.ensures.cases))

pub returns-then-are_blanks-clause-some : goal.returns-then-are_blanks-clause-some
returns-then-are_blanks-clause-some c = record {
  of_protocol = c.is_identifier.ensures.0 c.if-is_identifier.true;
  of_message = c.is_identifier-then-is_identifier.ensures.0 c.if-is_identifier-2.true;
  after = c.in_ok-after.after.now;
  blanks = sym c.are_blanks.ensures ∙ c.if-are_blanks.true;
  spelled = section_spelled c.args.line.now c.in_ok-rest.rest.now _ _ c.in_ok-rest-2.rest.now _ _ c.in_ok-after.after.now c.in_ok-rest.ensures.cases.0 c.in_ok-rest.ensures.cases.1 c.split_word.ensures
      c.in_ok-rest-2.ensures.cases.0 c.in_ok-rest-2.ensures.cases.1 c.split_word-2.ensures c.in_ok-after.ensures.cases.0 c.in_ok-after.ensures.cases.1;
}

pub returns-else-is_identifier-clause-none : goal.returns-else-is_identifier-clause-none
returns-else-is_identifier-clause-none c protocol message s =
    let head = section_head c.args.line.now protocol message c.in_ok-rest.rest.now _ _ s c.in_ok-rest.ensures.cases.1 c.split_word.ensures in
    let tail = section_tail c.args.line.now protocol message c.in_ok-rest-2.rest.now _ _ s (c.in_ok-rest-2.ensures.cases.1 ∙ ap (drop 2) head.1) c.split_word-2.ensures in
    let of_protocol : IsIdentifier c.split_word.result.0.now = subst IsIdentifier (sym head.0) s.of_protocol in
    let of_message : IsIdentifier c.split_word-2.result.0.now = subst IsIdentifier (sym tail.0) s.of_message in
    let blanks : AreBlanks c.in_ok-after.after.now = subst AreBlanks (sym (c.in_ok-after.ensures.cases.1 ∙ ap (drop 1) tail.1)) s.blanks in
    elim c.else-is_identifier.branch [
      | else-is_identifier-via-then-is_identifier+then-is_identifier-2+else-are_blanks w ↦ true≢false (sym blanks ∙ sym w.are_blanks.ensures ∙ w.if-are_blanks.false)
      | else-is_identifier-via-then-is_identifier+else-is_identifier-2 w ↦ true≢false (sym (w.is_identifier-then-is_identifier.ensures.1 of_message) ∙ w.if-is_identifier-2.false)
      | else-is_identifier-via-else-is_identifier w ↦ true≢false (sym (c.is_identifier.ensures.1 of_protocol) ∙ w.if-is_identifier.false)
    ]
