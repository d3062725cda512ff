use Rattle.std.proofs.Common.{◌≡◌, ◌++◌, ℤ, subst, rules}
use Rattle.std.proofs.lemmas.Int.{to_z-of_z}
use Rattle.std.specs.Int.{w32}
use Rattle.std.specs.Int.RustNames.{FitsSigned}
use Rattle.value_codec.proofs.Appended.{appended-three}
use Rattle.value_codec.proofs.writing.put_address.Goals as goal
use Rattle.value_codec.specs.Spelling.{word, signed_word}

pub returns : goal.returns
returns c =
    let h = c.args.header.now in
    let fits : FitsSigned w32 h.route = search rules in
    let route = subst (λ (z : ℤ). c.put_signed_word.new.out.items ≡ c.put_word.new.out.items ++ signed_word z) (to_z-of_z w32 h.route fits) c.in_ok-put_signed_word.ensures in
    appended-three c.put_word-2.result c.args.out.now.items c.put_word.new.out.items c.put_signed_word.new.out.items c.put_word-2.new.out.items (word h.size) (signed_word h.route) (word h.number)
    c.in_ok-put_word.ensures route c.put_word-2.ensures
