use Rattle.std.proofs.Common.{◌≡◌, ◌∙◌, List, ℕ, Option, [], map, string_bytes, sym, ap, subst, codes, refl}
use Rattle.std.specs.Prelude.{unwrap_or}
use Rattle.clap.specs.Words.{all_of, found_of, rows_of}
use Rattle.clap.proofs.WalkLemmas.{first_value-rows, raw_values-rows}
use Rattle.command_words.specs.Compile.{IsPath}
use Rattle.command_words.specs.Explore.{IsMostWays}
use Rattle.command_words.specs.Run.{AreRunOperands}
use Rattle.command_words.specs.RunOptions.{IsLimit}
use Rattle.command_words.specs.Forms.{own_id}
use Rattle.command_words.proofs.Compiled.{lent}
use Rattle.command_words.proofs.Errors.{of_error}
use Rattle.command_words.proofs.ExploreFound.{explore_found, no_limit_found, no_operands_found, no_path_found, no_ways_found}
use Rattle.command_words.proofs.explore.explore.Goals as goal

pub returns-in_err-found-clause-usage : goal.returns-in_err-found-clause-usage
returns-in_err-found-clause-usage c =
    of_error c.from_residual.result _ _ c.from_residual.ensures.1
    (λ fault gives usage list path course script file command. c.in_err-found.ensures.usage (sym gives ∙ usage) command.1.said command.1.reads command.1.once)

pub returns-in_err-limit-clause-usage : goal.returns-in_err-limit-clause-usage
returns-in_err-limit-clause-usage c =
    let rows = found_of c.in_ok-found.found in
    let value = c.get_str.ensures ∙ first_value-rows rows (codes "limit") in
    of_error c.from_residual-in_err-limit.result _ _ c.from_residual-in_err-limit.ensures.1
    (λ fault gives usage. no_limit_found (map string_bytes c.args.words.now) c.in_ok-found.found c.in_ok-found.ensures.read
    (λ limit is. c.in_err-limit.ensures.usage limit (subst (λ (v : Option (List ℕ)). IsLimit v limit) (sym value) is)))

pub returns-in_err-ways-clause-usage : goal.returns-in_err-ways-clause-usage
returns-in_err-ways-clause-usage c =
    let rows = found_of c.in_ok-found.found in
    let value = c.get_str-2.ensures ∙ first_value-rows rows (codes "ways") in
    of_error c.from_residual-in_err-ways.result _ _ c.from_residual-in_err-ways.ensures.1
    (λ fault gives usage. no_ways_found (map string_bytes c.args.words.now) c.in_ok-found.found c.in_ok-found.ensures.read
    (λ ways is. c.in_err-ways.ensures.usage ways (subst (λ (v : Option (List ℕ)). IsMostWays v ways) (sym value) is)))

pub returns-in_err-path-clause-usage : goal.returns-in_err-path-clause-usage
returns-in_err-path-clause-usage c =
    let rows = found_of c.in_ok-found.found in
    let value = c.get_str-3.ensures ∙ first_value-rows rows (codes "path") in
    of_error c.from_residual-in_err-path.result _ _ c.from_residual-in_err-path.ensures.1
    (λ fault gives usage. no_path_found (map string_bytes c.args.words.now) c.in_ok-found.found c.in_ok-found.ensures.read
    (λ path is. c.in_err-path.ensures.usage (sym gives ∙ usage) path (subst (λ (v : Option (List ℕ)). IsPath v path) (sym value) is)))

pub returns-in_err-operands-clause-usage : goal.returns-in_err-operands-clause-usage
returns-in_err-operands-clause-usage c =
    let rows = found_of c.in_ok-found.found in
    let words : map (λ w. w.now) c.unwrap_or.result.now ≡ unwrap_or (all_of own_id (rows_of rows)) [] =
    ap (λ r. map (λ w. w.now) r.now) c.unwrap_or.ensures ∙ lent c.get_strs.result _ refl ∙ ap (λ (o : Option (List (List ℕ))). unwrap_or o []) (c.get_strs.ensures ∙ raw_values-rows rows own_id) in
    of_error c.from_residual-in_err-operands.result _ _ c.from_residual-in_err-operands.ensures.1
    (λ fault gives usage. no_operands_found (map string_bytes c.args.words.now) c.in_ok-found.found c.in_ok-found.ensures.read
    (λ script file are. c.in_err-operands.ensures.usage (sym gives ∙ usage) script file (subst (λ (ws : List (List ℕ)). AreRunOperands ws script file) (sym words) are)))

pub returns-clause-command : goal.returns-clause-command
returns-clause-command c =
    let rows = found_of c.in_ok-found.found in
    let words : map (λ w. w.now) c.unwrap_or.result.now ≡ unwrap_or (all_of own_id (rows_of rows)) [] =
    ap (λ r. map (λ w. w.now) r.now) c.unwrap_or.ensures ∙ lent c.get_strs.result _ refl ∙ ap (λ (o : Option (List (List ℕ))). unwrap_or o []) (c.get_strs.ensures ∙ raw_values-rows rows own_id) in (
      refl,
      explore_found (map string_bytes c.args.words.now) c.in_ok-found.found _ _ _ _ _ c.in_ok-found.ensures.read
          (c.in_ok-list.ensures ∙ c.get_str-4.ensures ∙ first_value-rows rows (codes "sync-msg-list"))
          (subst (λ (v : Option (List ℕ)). IsPath v (map string_bytes c.in_ok-path.path.items)) (c.get_str-3.ensures ∙ first_value-rows rows (codes "path")) c.in_ok-path.ensures.path)
          (subst (λ (v : Option (List ℕ)). IsLimit v c.in_ok-limit.limit) (c.get_str.ensures ∙ first_value-rows rows (codes "limit")) c.in_ok-limit.ensures.limit)
          (subst (λ (v : Option (List ℕ)). IsMostWays v c.in_ok-ways.ways) (c.get_str-2.ensures ∙ first_value-rows rows (codes "ways")) c.in_ok-ways.ensures.ways)
          (subst (λ (ws : List (List ℕ)). AreRunOperands ws (string_bytes c.in_ok-operands.operands.script) (string_bytes c.in_ok-operands.operands.file)) words c.in_ok-operands.ensures.operands),
    )
