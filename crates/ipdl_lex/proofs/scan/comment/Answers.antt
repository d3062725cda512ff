use Rattle.std.proofs.Common.{refl}
use Rattle.std.proofs.lemmas.List.{take_rest}
use Rattle.ipdl_lex.proofs.Fronts.{line_at, block_at, open_comment_at}
use Rattle.ipdl_lex.proofs.scan.comment.Goals as goal

pub returns-in_default-close_at-clause-fault : goal.returns-in_default-close_at-clause-fault
returns-in_default-close_at-clause-fault c =
    (refl, open_comment_at c.args.text.now _ (take_rest c.args.text.now 2) c.requires c.in-42.is (c.in_default-close_at.ensures).none)

pub returns-in-47-clause-front : goal.returns-in-47-clause-front
returns-in-47-clause-front c =
    line_at c.args.text.now _ _ (take_rest c.args.text.now 2) c.requires c.in-47.is (let e = c.line_end.ensures in let u = c.unwrap_or-len.ensures in cc)

pub returns-in-Some-clause-front : goal.returns-in-Some-clause-front
returns-in-Some-clause-front c =
    block_at c.args.text.now _ _ (take_rest c.args.text.now 2) c.requires c.in-42.is (c.in-Some.ensures).found (c.in-Some.ensures).first
