use Rattle.std.proofs.Common.{rules, ◌≡◌, ◌∙◌, true, ap, ap₂, sym}
use Rattle.std.proofs.lemmas.List.{take_all}
use Rattle.std.proofs.lemmas.Result.{IfOk-weaker}
use Rattle.clap.specs.Words.{App, rule_of, with_rule}
use Rattle.clap.specs.Simple.{app_of_fields, on_top}
use Rattle.command_words.specs.Forms.{own_rule}
use Rattle.command_words.specs.Tables.{choices_of}
use Rattle.command_words.proofs.Builders.{app_with, first_rules, last_rule, with_row}
use Rattle.command_words.proofs.options.form.Goals as goal

pub loop-option-init : goal.loop-option-init
loop-option-init c =
    ap app_of_fields c.disable_version_flag-command.ensures
    ∙ ap (λ (a : App). on_top (λ s. record s { disable_version_flag = true }) a)
    (ap app_of_fields c.disable_help_flag.ensures
    ∙ ap (λ (a : App). on_top (λ s. record s { disable_help_flag = true }) a)
    (ap app_of_fields c.no_binary_name.ensures ∙ ap (λ (a : App). on_top (λ s. record s { no_binary_name = true }) a) c.new.ensures.app))

pub loop-option-preserved : goal.loop-option-preserved
loop-option-preserved c =
    c.in_ok-command.ensures.shape c.argument_of.ensures.local
    ∙ ap₂ with_rule c.loop-option.invariant c.argument_of.ensures.rule
    ∙ sym (with_row c.args.options.now c.loop-option.option-index _ c.loop-option-test.true)

pub returns : goal.returns
returns c =
    let others_is : rule_of c.action-others.result ≡ own_rule = search rules in
    let all = take_all c.loop-option.option-index c.args.options.now c.loop-option-test.false in
    IfOk-weaker c.arg-2.result _ _ (λ command h.
    h.shape (search rules)
    ∙ ap₂ with_rule c.loop-option.invariant others_is
    ∙ ap (λ os. with_rule (app_with (first_rules (choices_of os))) own_rule) all
    ∙ last_rule (choices_of c.args.options.now)) c.arg-2.ensures
