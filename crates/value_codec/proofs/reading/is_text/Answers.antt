use Rattle.std.proofs.Common.{◌≡◌, List, ℕ, Result, Ok, Err, sym, ◌∙◌}
use Rattle.std.specs.Prelude.{is_ok, MatchResult}
use Rattle.std.specs.Str.{IsUtf8, is_utf8}
use Rattle.std.proofs.lemmas.Bool.{false_from_ne_true}
use Rattle.std.proofs.lemmas.Str.{IsUtf8-from_is_utf8, is_utf8-from_IsUtf8}
use Rattle.value_codec.proofs.reading.is_text.Goals as goal

decided : {X E : Type 0} (P : X → Type 0) (Q : E → Type 0) (r : Result X E) (bytes : List ℕ) → MatchResult r (λ s. P s × IsUtf8 bytes) (λ e. (¬ (IsUtf8 bytes)) × Q e) → is_ok r ≡ is_utf8 bytes
decided P Q (Ok s) bytes h = sym (is_utf8-from_IsUtf8 bytes h.1)
decided P Q (Err e) bytes h = sym (false_from_ne_true (is_utf8 bytes) (λ e. h.0 (IsUtf8-from_is_utf8 bytes e)))

pub returns : goal.returns
returns c = c.is_ok.ensures.value ∙ decided _ _ c.from_utf8.result c.args.bytes.now c.from_utf8.ensures.cases
