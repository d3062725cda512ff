-- The parser's command, built from a table of options, is one that the parser's definitions cover.
use Rattle.std.proofs.Common.{◌≡◌, ◌∙◌, ◌+◌, ◌&&◌, ℕ, true, false, not, List, [], ◌∷◌, ◌++◌, map, refl, sym, ap, subst, ◌<◌, length, take, get_or}
use Rattle.std.proofs.lemmas.List.{map-append, take_more}
use Rattle.std.specs.Prelude.{count_by, is_some}
use Rattle.std.specs.List.{list_all, list_any}
use Rattle.std.proofs.lemmas.Bool.{and_from}
use Rattle.clap.specs.Words.{App, Rule, built, is_simple, with_rule}
use Rattle.clap.specs.Walk.{is_early_multiple}
use Rattle.clap.specs.Simple.{filled_from, is_in_order, is_ready, on_top}
use Rattle.clap.specs.Faults.{is_simple_and_free}
use Rattle.command_words.specs.Options.{Choice}
use Rattle.command_words.specs.Tables.{choice_of, choices_of}
use Rattle.command_words.specs.declared.options.Choice.{Choice as Row}
use Rattle.command_words.specs.Forms.{bare, form_of, own_rule, rule_for, rules_for}
use Rattle.command_words.proofs.Lookups.{filled_rules, full_rules}

-- a command with these arguments
abbrev pub app_with : List Rule → App
app_with rules = on_top (λ s. record s { rules = rules }) bare

abbrev pub first_rules : List Choice → List Rule
first_rules = map rule_for

-- one argument more
first_rules_more : (options : List Choice) (o : Choice) → app_with (first_rules (options ++ o ∷ [])) ≡ with_rule (app_with (first_rules options)) (rule_for o)
first_rules_more options o = ap app_with (go options)
  where
    go : (os : List Choice) → first_rules (os ++ o ∷ []) ≡ first_rules os ++ rule_for o ∷ []
    go [] = refl
    go (p ∷ ps) = ap (λ (rs : List Rule). rule_for p ∷ rs) (go ps)

-- the row at i is the next
pub with_row : (rows : List Row) (i : ℕ) (d : Row) → i < length rows
    → app_with (first_rules (choices_of (take (i + 1) rows))) ≡ with_rule (app_with (first_rules (choices_of (take i rows)))) (rule_for (choice_of (get_or rows i d)))
with_row rows i d lt =
    ap (λ (rs : List Row). app_with (first_rules (choices_of rs))) (take_more rows i d lt)
    ∙ ap (λ (os : List Choice). app_with (first_rules os)) (map-append choice_of (take i rows) (get_or rows i d ∷ []))
    ∙ first_rules_more (choices_of (take i rows)) (choice_of (get_or rows i d))

-- the argument of the other words comes last
pub last_rule : (options : List Choice) → with_rule (app_with (first_rules options)) own_rule ≡ form_of options
last_rule options = ap app_with (go options)
  where
    go : (os : List Choice) → first_rules os ++ own_rule ∷ [] ≡ rules_for os
    go [] = refl
    go (p ∷ ps) = ap (λ (rs : List Rule). rule_for p ∷ rs) (go ps)

all_simple : (options : List Choice) → list_all (λ a. a.is_simple) (rules_for options) ≡ true
all_simple [] = refl
all_simple (o ∷ os) = all_simple os

full_simple : (options : List Choice) → list_all (λ a. a.is_simple) (full_rules options) ≡ true
full_simple [] = refl
full_simple (o ∷ os) = full_simple os

full_free : (options : List Choice) → list_all (λ a. a.is_free) (full_rules options) ≡ true
full_free [] = refl
full_free (o ∷ os) = full_free os

one_index : (options : List Choice) → count_by (λ a. is_some a.index) (full_rules options) ≡ 1
one_index [] = refl
one_index (o ∷ os) = one_index os

none_early : (options : List Choice) → list_any (is_early_multiple 1) (full_rules options) ≡ false
none_early [] = refl
none_early (o ∷ os) = none_early os

in_order : (options : List Choice) → is_in_order (full_rules options) ≡ true
in_order options = ap (λ n. not (list_any (is_early_multiple n) (full_rules options))) (one_index options) ∙ ap not (none_early options)

ready : (options : List Choice) → is_ready (built (form_of options)).top ≡ true
ready options = subst (λ (rs : List Rule). (list_all (λ a. a.is_simple) rs && is_in_order rs) ≡ true) (sym (filled_rules options)) (and_from (list_all (λ a. a.is_simple) (full_rules options)) (is_in_order (full_rules options)) (full_simple options) (in_order options))

-- the command is simple, and no argument has a rule on another
pub form_is_simple : (options : List Choice) → is_simple (form_of options) ≡ true
form_is_simple options = and_from (list_all (λ a. a.is_simple) (rules_for options) && true) (is_ready (built (form_of options)).top && true) (and_from (list_all (λ a. a.is_simple) (rules_for options)) true (all_simple options) refl) (and_from (is_ready (built (form_of options)).top) true (ready options) refl)

pub form_fits : (options : List Choice) → is_simple_and_free (form_of options) ≡ true
form_fits options =
    and_from (is_simple (form_of options)) (list_all (λ a. a.is_free) (filled_from 1 (rules_for options)) && true) (form_is_simple options)
    (and_from (list_all (λ a. a.is_free) (filled_from 1 (rules_for options))) true (subst (λ (rs : List Rule). list_all (λ a. a.is_free) rs ≡ true) (sym (filled_rules options)) (full_free options)) refl)
