use Rattle.std.proofs.Common.{◌≡◌, ◌++◌, ℤ, OnOk, subst, rules}
use Rattle.std.proofs.lemmas.Int.{to_z-of_z}
use Rattle.std.specs.Int.{w32}
use Rattle.std.specs.Int.RustNames.{FitsSigned}
use Rattle.value_codec.proofs.Appended.{appended-three}
use Rattle.value_codec.proofs.writing.put_order.Goals as goal
use Rattle.value_codec.specs.Spelling.{word, signed_word}

pub returns : goal.returns
returns c =
    let h = c.args.header.now in
    let seq_fits : FitsSigned w32 h.seq = search rules in
    let transaction_fits : FitsSigned w32 h.transaction = search rules in
    let seq = subst (λ (z : ℤ). c.put_signed_word.new.out.items ≡ c.put_word.new.out.items ++ signed_word z) (to_z-of_z w32 h.seq seq_fits) c.in_ok-put_signed_word.ensures in
    let transaction = subst (λ (z : ℤ). OnOk c.put_signed_word-2.result (c.put_signed_word-2.new.out.items ≡ c.put_signed_word.new.out.items ++ signed_word z)) (to_z-of_z w32 h.transaction transaction_fits) c.put_signed_word-2.ensures in
    appended-three c.put_signed_word-2.result c.args.out.now.items c.put_word.new.out.items c.put_signed_word.new.out.items c.put_signed_word-2.new.out.items (word h.flags) (signed_word h.seq) (signed_word h.transaction)
    c.in_ok-put_word.ensures seq transaction
