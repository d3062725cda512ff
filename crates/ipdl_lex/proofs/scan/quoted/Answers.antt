use Rattle.std.proofs.Common.{refl}
use Rattle.std.proofs.lemmas.List.{take_rest}
use Rattle.ipdl_lex.proofs.Fronts.{quoted_at, open_string_at, no_quote-end, no_quote-line}
use Rattle.ipdl_lex.proofs.scan.quoted.Goals as goal

pub returns-in_default-clause-fault : goal.returns-in_default-clause-fault
returns-in_default-clause-fault c =
    (refl, open_string_at c.args.text.now _ (take_rest c.args.text.now 1) c.requires (no_quote-end _ (c.in_default.ensures)))

pub returns-then-inner-end-ne34-clause-fault : goal.returns-then-inner-end-ne34-clause-fault
returns-then-inner-end-ne34-clause-fault c =
    (refl, open_string_at c.args.text.now _ (take_rest c.args.text.now 1) c.requires (no_quote-line _ c.in-Some.end (c.in-Some.ensures) c.if-inner-end-ne34.true))

pub returns-clause-front : goal.returns-clause-front
returns-clause-front c =
    quoted_at c.args.text.now _ c.in-Some.end (take_rest c.args.text.now 1) c.requires (c.in-Some.ensures) c.if-inner-end-ne34.false
