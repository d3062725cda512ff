use Rattle.std.proofs.Common.{◌≡◌, ◌∙◌, true, [], ap, subst, map, string_bytes}
use Rattle.clap.specs.Words.{App, HasKind, fault_of, is_simple, is_simple_and_free, matches_of}
use Rattle.command_words.specs.Forms.{form_of}
use Rattle.command_words.specs.Tables.{choices_of}
use Rattle.command_words.proofs.Builders.{form_fits, form_is_simple}
use Rattle.command_words.proofs.Parsed.{are_texts, read_no_usage, taken_found}
use Rattle.command_words.proofs.Errors.{of_error}
use Rattle.command_words.proofs.options.read_options.Goals as goal

pub returns-in_err-try_get_matches_from-clause-usage :
    goal.returns-in_err-try_get_matches_from-clause-usage
returns-in_err-try_get_matches_from-clause-usage c =
    let options = choices_of c.args.options.now in
    let words = map string_bytes c.args.words.now in
    let form_is = c.in_ok-command.ensures in
    let error = c.in_err-try_get_matches_from.field-0.0 in
    let fails : HasKind (fault_of (form_of options) words) error =
    subst (λ (a : App). is_simple_and_free a ≡ true → HasKind (fault_of a words) error) form_is c.in_err-try_get_matches_from.ensures.kinds (form_fits options) in
    of_error c.from_residual-in_err-try_get_matches_from.result _ _ c.from_residual-in_err-try_get_matches_from.ensures.1 (λ fault gives usage. read_no_usage options words error c.requires fails (gives usage))

pub returns-clause-read : goal.returns-clause-read
returns-clause-read c =
    let options = choices_of c.args.options.now in
    let words = map string_bytes c.args.words.now in
    let form_is = c.in_ok-command.ensures in
    let none = subst (λ (a : App). is_simple_and_free a ≡ true → fault_of a words ≡ []) form_is c.in_ok-try_get_matches_from.ensures.kinds (form_fits options) in
    taken_found options words c.in_ok-try_get_matches_from.field-0 c.requires (are_texts c.args.words.now) none
    ((c.in_ok-try_get_matches_from.ensures.matches (ap is_simple form_is ∙ form_is_simple options)).0 ∙ ap (λ (a : App). matches_of a words) form_is)
