use Rattle.std.proofs.Common.{◌∙◌, rules}
use Rattle.std.proofs.lemmas.Int.{to_z-of_z}
use Rattle.std.specs.Int.{w32}
use Rattle.std.specs.Int.RustNames.{FitsSigned}
use Rattle.value_codec.proofs.Headers.{header_same}
use Rattle.value_codec.proofs.header.header_in.Goals as goal

pub returns : goal.returns
returns c =
    let route_fits : FitsSigned w32 c.signed_word_after.result = search rules in
    let seq_fits : FitsSigned w32 c.signed_word_after-2.result = search rules in
    let transaction_fits : FitsSigned w32 c.signed_word_after-3.result = search rules in
    header_same _ _ _ _ _ _ _ _ _ _ _ _ c.word_after.ensures
    (to_z-of_z w32 c.signed_word_after.result route_fits ∙ c.signed_word_after.ensures)
    c.word_after-2.ensures c.word_after-3.ensures
    (to_z-of_z w32 c.signed_word_after-2.result seq_fits ∙ c.signed_word_after-2.ensures)
    (to_z-of_z w32 c.signed_word_after-3.result transaction_fits ∙ c.signed_word_after-3.ensures)
