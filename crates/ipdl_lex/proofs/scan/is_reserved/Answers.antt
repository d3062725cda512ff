use Rattle.std.proofs.Common.{IsTrue, subst, sym, Bool}
use Rattle.std.specs.Prelude.{◌↔◌, Contains}
use Rattle.ipdl_lex.specs.Pieces.{reserved_words}
use Rattle.ipdl_lex.proofs.Words.{found_as_long}
use Rattle.ipdl_lex.proofs.scan.is_reserved.Goals as goal

pub returns : goal.returns
returns c =
    subst (λ (b : Bool). IsTrue b ↔ Contains reserved_words c.args.word.now) (sym c.is_among.ensures)
    (found_as_long c.args.word.now c.reserved_of_length.result.now c.reserved_of_length.ensures)
