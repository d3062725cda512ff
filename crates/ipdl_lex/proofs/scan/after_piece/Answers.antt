use Rattle.std.proofs.Common.{sym}
use Rattle.ipdl_lex.proofs.Lines.{after_token}
use Rattle.ipdl_lex.proofs.scan.after_piece.Goals as goal

pub returns-in-Some : goal.returns-in-Some
returns-in-Some c = sym (after_token c.args.here c.args.kind _ c.args.bytes.now c.in-Some.is c.requires.piece)
