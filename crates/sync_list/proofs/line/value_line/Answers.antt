use Rattle.std.proofs.Common.{◌≡◌, length, sym, ap, ◌∙◌, subst, arith}
use Rattle.std.proofs.lemmas.Bool.{true≢false}
use Rattle.ipdl_base.specs.Words.{IsWord}
use Rattle.ipdl_lex.specs.Pieces.{is_blank}
use Rattle.sync_list.proofs.Cuts.{value_head, value_tail, value_spelled, split_passes}
use Rattle.sync_list.proofs.line.value_line.Goals as goal
use Rattle.sync_list.proofs.line.value_line.Goals.{else-is_word-via-then-is_word+else-is_sign, else-is_word-via-else-is_word}

pub returns-in_err-sign-clause-none : goal.returns-in_err-sign-clause-none
returns-in_err-sign-clause-none c =
    rw c.from_residual.ensures
    (λ word value v.
    let head = value_head c.args.line.now word value _ _ v c.split_word.ensures in
    let tail = value_tail c.args.line.now word value c.split_word.result.1.now _ _ v head.1 c.split_blanks.ensures in
    let none : length c.split_blanks.result.1.now ≡ 0 = c.in_err-sign.ensures.cases in
    omega (arith, none, ap length tail))

pub returns-then-is_sign-clause-some : goal.returns-then-is_sign-clause-some
returns-then-is_sign-clause-some c = record {
  is_word = sym c.is_word.ensures ∙ c.if-is_word.true;
  between = c.split_blanks.result.0.now;
  blanks = split_passes is_blank c.split_word.result.1.now _ _ c.split_blanks.ensures;
  sign = c.in_ok-sign.sign.now;
  is_sign = c.is_sign.ensures.0 c.if-is_sign.true;
  spelled = value_spelled c.args.line.now _ _ _ _ c.in_ok-sign.sign.now c.in_ok-sign.value.now c.split_word.ensures c.split_blanks.ensures c.in_ok-sign.ensures.cases.0;
}

pub returns-else-is_word-clause-none : goal.returns-else-is_word-clause-none
returns-else-is_word-clause-none c word value v =
    let head = value_head c.args.line.now word value _ _ v c.split_word.ensures in
    let tail = value_tail c.args.line.now word value c.split_word.result.1.now _ _ v head.1 c.split_blanks.ensures in
    let word_ok : IsWord c.split_word.result.0.now = subst IsWord (sym head.0) v.is_word in
    let same : c.in_ok-sign.sign.now ≡ v.sign = let e = sym c.in_ok-sign.ensures.cases.0 ∙ tail in cc in
    elim c.else-is_word.branch [
      | else-is_word-via-then-is_word+else-is_sign w ↦ (let e = v.is_sign in true≢false (sym (w.is_sign.ensures.1 (rw same e)) ∙ w.if-is_sign.false))
      | else-is_word-via-else-is_word w ↦ true≢false (sym word_ok ∙ sym c.is_word.ensures ∙ w.if-is_word.false)
    ]
