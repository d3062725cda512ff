use Rattle.std.proofs.Common.{◌≡◌, ◌∙◌, List, ℕ, Option, [], map, option_map, string_bytes, sym, ap, subst, codes, refl}
use Rattle.std.specs.Prelude.{unwrap_or}
use Rattle.clap.specs.Words.{all_of, found_of, rows_of}
use Rattle.clap.proofs.WalkLemmas.{first_value-rows, raw_values-rows}
use Rattle.command_words.specs.Compile.{IsPath}
use Rattle.command_words.specs.Run.{AreRunOperands}
use Rattle.command_words.specs.RunOptions.{IsDeath, IsLimit, IsSchedule}
use Rattle.command_words.specs.Forms.{own_id}
use Rattle.command_words.proofs.Compiled.{lent}
use Rattle.command_words.proofs.Errors.{of_error}
use Rattle.command_words.proofs.RunFound.{no_death_found, no_limit_found, no_operands_found, no_path_found, no_schedule_found, run_found}
use Rattle.command_words.proofs.run.run_words.Goals as goal

pub returns-in_err-found-clause-usage : goal.returns-in_err-found-clause-usage
returns-in_err-found-clause-usage c =
    of_error c.from_residual.result _ _ c.from_residual.ensures.1
    (λ fault gives usage list path course script file command. c.in_err-found.ensures.usage (sym gives ∙ usage) command.said command.reads command.once)

pub returns-in_err-limit-clause-usage : goal.returns-in_err-limit-clause-usage
returns-in_err-limit-clause-usage c =
    let rows = found_of c.in_ok-found.found in
    let value = c.get_str.ensures ∙ first_value-rows rows (codes "limit") in
    of_error c.from_residual-in_err-limit.result _ _ c.from_residual-in_err-limit.ensures.1
    (λ fault gives usage. no_limit_found (map string_bytes c.args.words.now) c.in_ok-found.found c.in_ok-found.ensures.read
    (λ limit is. c.in_err-limit.ensures.usage limit (subst (λ (v : Option (List ℕ)). IsLimit v limit) (sym value) is)))

pub returns-in_err-death-clause-usage : goal.returns-in_err-death-clause-usage
returns-in_err-death-clause-usage c =
    let rows = found_of c.in_ok-found.found in
    let value = c.get_str-2.ensures ∙ first_value-rows rows (codes "die") in
    of_error c.from_residual-in_err-death.result _ _ c.from_residual-in_err-death.ensures.1
    (λ fault gives usage. no_death_found (map string_bytes c.args.words.now) c.in_ok-found.found c.in_ok-found.ensures.read
    (λ death is. c.in_err-death.ensures.usage death (subst (λ (v : Option (List ℕ)). IsDeath v death) (sym value) is)))

pub returns-in_err-path-clause-usage : goal.returns-in_err-path-clause-usage
returns-in_err-path-clause-usage c =
    let rows = found_of c.in_ok-found.found in
    let value = c.get_str-3.ensures ∙ first_value-rows rows (codes "path") in
    of_error c.from_residual-in_err-path.result _ _ c.from_residual-in_err-path.ensures.1
    (λ fault gives usage. no_path_found (map string_bytes c.args.words.now) c.in_ok-found.found c.in_ok-found.ensures.read
    (λ path is. c.in_err-path.ensures.usage (sym gives ∙ usage) path (subst (λ (v : Option (List ℕ)). IsPath v path) (sym value) is)))

pub returns-in_err-schedule-clause-usage : goal.returns-in_err-schedule-clause-usage
returns-in_err-schedule-clause-usage c =
    let rows = found_of c.in_ok-found.found in
    let value = c.get_str-4.ensures ∙ first_value-rows rows (codes "schedule") in
    of_error c.from_residual-in_err-schedule.result _ _ c.from_residual-in_err-schedule.ensures.1
    (λ fault gives usage. no_schedule_found (map string_bytes c.args.words.now) c.in_ok-found.found c.in_ok-found.ensures.read
    (λ schedule is. c.in_err-schedule.ensures.usage (sym gives ∙ usage) schedule (subst (λ (v : Option (List ℕ)). IsSchedule v schedule) (sym value) is)))

pub returns-in_err-operands-clause-usage : goal.returns-in_err-operands-clause-usage
returns-in_err-operands-clause-usage c =
    let rows = found_of c.in_ok-found.found in
    let words : map (λ w. w.now) c.unwrap_or.result.now ≡ unwrap_or (all_of own_id (rows_of rows)) [] =
    ap (λ r. map (λ w. w.now) r.now) c.unwrap_or.ensures ∙ lent c.get_strs.result _ refl ∙ ap (λ (o : Option (List (List ℕ))). unwrap_or o []) (c.get_strs.ensures ∙ raw_values-rows rows own_id) in
    of_error c.from_residual-in_err-operands.result _ _ c.from_residual-in_err-operands.ensures.1
    (λ fault gives usage. no_operands_found (map string_bytes c.args.words.now) c.in_ok-found.found c.in_ok-found.ensures.read
    (λ script file are. c.in_err-operands.ensures.usage (sym gives ∙ usage) script file (subst (λ (ws : List (List ℕ)). AreRunOperands ws script file) (sym words) are)))

pub returns-clause-says : goal.returns-clause-says
returns-clause-says c =
    let rows = found_of c.in_ok-found.found in
    let words : map (λ w. w.now) c.unwrap_or.result.now ≡ unwrap_or (all_of own_id (rows_of rows)) [] =
    ap (λ r. map (λ w. w.now) r.now) c.unwrap_or.ensures ∙ lent c.get_strs.result _ refl ∙ ap (λ (o : Option (List (List ℕ))). unwrap_or o []) (c.get_strs.ensures ∙ raw_values-rows rows own_id) in
    run_found (map string_bytes c.args.words.now) c.in_ok-found.found _ _ _ _ _ c.in_ok-found.ensures.read
    (c.in_ok-list.ensures ∙ c.get_str-5.ensures ∙ first_value-rows rows (codes "sync-msg-list"))
    (subst (λ (v : Option (List ℕ)). IsPath v (map string_bytes c.in_ok-path.path.items)) (c.get_str-3.ensures ∙ first_value-rows rows (codes "path")) c.in_ok-path.ensures.path)
    (subst (λ (v : Option (List ℕ)). IsSchedule v (option_map (λ turns. turns.items) c.in_ok-schedule.schedule)) (c.get_str-4.ensures ∙ first_value-rows rows (codes "schedule")) c.in_ok-schedule.ensures.schedule)
    (subst (λ (v : Option (List ℕ)). IsLimit v c.in_ok-limit.limit) (c.get_str.ensures ∙ first_value-rows rows (codes "limit")) c.in_ok-limit.ensures.limit)
    (subst (λ (v : Option (List ℕ)). IsDeath v c.in_ok-death.death) (c.get_str-2.ensures ∙ first_value-rows rows (codes "die")) c.in_ok-death.ensures.death)
    (subst (λ (ws : List (List ℕ)). AreRunOperands ws (string_bytes c.in_ok-operands.operands.script) (string_bytes c.in_ok-operands.operands.file)) words c.in_ok-operands.ensures.operands)
