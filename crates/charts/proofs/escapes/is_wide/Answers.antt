use Rattle.std.proofs.Common.{◌≡◌, ℕ, List, true, false, not, refl, ap}
use Rattle.std.specs.Str.{is_utf8}
use Rattle.std.proofs.lemmas.Bool.{false_from_ne_true}
use Rattle.std.proofs.lemmas.Str.{IsUtf8-from_is_utf8, is_utf8-from_IsUtf8}
use Rattle.charts.proofs.escapes.is_wide.Goals as goal

pub returns-in-Ok : goal.returns-in-Ok
returns-in-Ok c =
    let text : List ℕ = c.args.text.now in
    let valid : is_utf8 text ≡ true = is_utf8-from_IsUtf8 text c.in-Ok.ensures.cases.1 in
    rw valid (ap not c.contains.ensures.value)

pub returns-in-Err : goal.returns-in-Err
returns-in-Err c =
    let text : List ℕ = c.args.text.now in
    let invalid : is_utf8 text ≡ false = false_from_ne_true (is_utf8 text) (λ e. c.in-Err.ensures.cases.0 (IsUtf8-from_is_utf8 text e)) in
    rw invalid refl
