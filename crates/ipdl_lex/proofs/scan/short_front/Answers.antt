use Rattle.std.proofs.Common.{refl, sym}
use Rattle.ipdl_lex.proofs.Fronts.{too_long}
use Rattle.ipdl_lex.proofs.scan.short_front.Goals as goal

pub returns-then-found-gt-MAX_TOKEN_LEN-clause-fault :
    goal.returns-then-found-gt-MAX_TOKEN_LEN-clause-fault
returns-then-found-gt-MAX_TOKEN_LEN-clause-fault c =
    (refl, too_long c.args.text.now c.in_ok-found.found.kind c.in_ok-found.found.len c.in_ok-found.ensures.front (sym c.if-is_some.ensures) c.if-found-gt-MAX_TOKEN_LEN.true)
