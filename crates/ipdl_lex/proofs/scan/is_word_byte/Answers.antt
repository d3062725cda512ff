use Rattle.ipdl_lex.proofs.WordTable.{table_tells}
use Rattle.ipdl_lex.proofs.scan.is_word_byte.Goals as goal

pub returns : goal.returns
returns c = table_tells c.args.b c.ranges.b.fits
