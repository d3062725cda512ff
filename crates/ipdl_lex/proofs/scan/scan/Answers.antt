use Rattle.std.proofs.Common.{sym, inr, arith}
use Rattle.std.proofs.lemmas.Result.{err_from_is_err_and}
use Rattle.ipdl_lex.proofs.Steps.{Reaches-next, Reaches-small, IsTokens-done, IsFault-reached}
use Rattle.ipdl_lex.proofs.scan.scan.Goals as goal

pub returns-in_err-found-clause-fault : goal.returns-in_err-found-clause-fault
returns-in_err-found-clause-fault c =
    let fault = IsFault-reached c.args.file c.args.text.now _ _ _ _ c.loop-rest.invariant c.in_err-found.ensures.fault in
    let p = err_from_is_err_and c.from_residual.result c.from_residual.ensures.1 in
    rw (p.1, p.2) (inr fault)

pub after_piece-here-requires-clause-line : goal.after_piece-here-requires-clause-line
after_piece-here-requires-clause-line c =
    let small = Reaches-small c.args.file c.args.text.now _ _ _ c.loop-rest.invariant in
    let fits = c.in_ok-found.ensures.front.fits in
    omega (arith, c.split_at.ensures.front_len)

pub after_piece-here-requires-clause-column : goal.after_piece-here-requires-clause-column
after_piece-here-requires-clause-column c =
    let small = Reaches-small c.args.file c.args.text.now _ _ _ c.loop-rest.invariant in
    let fits = c.in_ok-found.ensures.front.fits in
    omega (arith, c.split_at.ensures.front_len)

pub loop-rest-preserved : goal.loop-rest-preserved
loop-rest-preserved c =
    let found = c.in_ok-found.ensures in
    let parts = c.split_at.ensures in
    Reaches-next c.args.file c.args.text.now _ _ _ _ _ c.loop-rest.invariant found.front found.short _ _ _ _ parts.front parts.back c.in_ok-keep.ensures c.after_piece-here.ensures

pub returns-clause-tokens : goal.returns-clause-tokens
returns-clause-tokens c =
    IsTokens-done c.args.file c.args.text.now _ _ _ _ c.loop-rest.invariant (sym c.loop-rest-test.ensures) c.from_vec.ensures
