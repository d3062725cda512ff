use Rattle.ipdl_lex.proofs.Fronts.{word_taken, word_front}
use Rattle.ipdl_lex.proofs.scan.word.Goals as goal

pub word_kind-kind-requires : goal.word_kind-kind-requires
word_kind-kind-requires c =
    (word_taken c.args.text.now _ c.requires (let e = c.word_end.ensures in let u = c.unwrap_or-len.ensures in cc)).1

pub returns : goal.returns
returns c =
    word_front c.args.text.now _ _ c.requires (let e = c.word_end.ensures in let u = c.unwrap_or-len.ensures in cc) c.word_kind-kind.ensures
