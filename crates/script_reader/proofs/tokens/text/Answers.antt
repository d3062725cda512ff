use Rattle.std.proofs.Common.{List, ℕ, sym, ◌∙◌, subst}
use Rattle.std.proofs.lemmas.Bool.{true≢false}
use Rattle.std.specs.Str.{IsUtf8}
use Rattle.script_reader.specs.Tokens.{character_at, InQuotes}
use Rattle.script_reader.proofs.Sequences.{quote_no_character, one_in_quotes}
use Rattle.script_reader.proofs.tokens.text.Goals as goal

pub returns-else-is_utf8-clause-stops : goal.returns-else-is_utf8-clause-stops
returns-else-is_utf8-clause-stops c text to utf8 quotes =
    let same = one_in_quotes character_at text c.in_ok-text.text c.pass.new.self to c.text.new.self quote_no_character (let P : List ℕ → Type 0 = λ l. InQuotes character_at text l to in subst P (sym c.pass.ensures) quotes) c.in_ok-text.ensures.read in
    true≢false (sym (c.is_utf8.ensures.1 (let P : List ℕ → Type 0 = λ l. IsUtf8 l in subst P (same.0 ∙ sym c.as_slice.ensures) utf8)) ∙ c.if-is_utf8.false)
