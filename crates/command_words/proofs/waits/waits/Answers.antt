use Rattle.std.proofs.Common.{◌≡◌, ◌∙◌, List, ℕ, Option, [], map, string_bytes, sym, ap, subst, codes, refl}
use Rattle.std.specs.Prelude.{unwrap_or}
use Rattle.clap.specs.Words.{all_of, found_of, rows_of}
use Rattle.clap.proofs.WalkLemmas.{first_value-rows, raw_values-rows}
use Rattle.command_words.specs.Compile.{IsPath}
use Rattle.command_words.specs.Waits.{IsOperand}
use Rattle.command_words.specs.Forms.{own_id}
use Rattle.command_words.proofs.Compiled.{lent}
use Rattle.command_words.proofs.Errors.{of_error}
use Rattle.command_words.proofs.WaitsFound.{no_operand_found, no_path_found, waits_found}
use Rattle.command_words.proofs.waits.waits.Goals as goal

pub returns-in_err-path-clause-usage : goal.returns-in_err-path-clause-usage
returns-in_err-path-clause-usage c =
    let rows = found_of c.in_ok-found.found in
    let value = c.get_str.ensures ∙ first_value-rows rows (codes "path") in
    of_error c.from_residual-in_err-path.result _ _ c.from_residual-in_err-path.ensures.1
    (λ fault gives usage. no_path_found (map string_bytes c.args.words.now) c.in_ok-found.found c.in_ok-found.ensures.read
    (λ path is. c.in_err-path.ensures.usage (sym gives ∙ usage) path (subst (λ (v : Option (List ℕ)). IsPath v path) (sym value) is)))

pub returns-in_err-file-clause-usage : goal.returns-in_err-file-clause-usage
returns-in_err-file-clause-usage c =
    let rows = found_of c.in_ok-found.found in
    let words : map (λ w. w.now) c.unwrap_or.result.now ≡ unwrap_or (all_of own_id (rows_of rows)) [] =
    ap (λ r. map (λ w. w.now) r.now) c.unwrap_or.ensures ∙ lent c.get_strs.result _ refl ∙ ap (λ (o : Option (List (List ℕ))). unwrap_or o []) (c.get_strs.ensures ∙ raw_values-rows rows own_id) in
    of_error c.from_residual-in_err-file.result _ _ c.from_residual-in_err-file.ensures.1
    (λ fault gives usage. no_operand_found (map string_bytes c.args.words.now) c.in_ok-found.found c.in_ok-found.ensures.read
    (λ file is. c.in_err-file.ensures.usage (sym gives ∙ usage) file (subst (λ (ws : List (List ℕ)). IsOperand ws file) (sym words) is)))

pub returns-clause-command : goal.returns-clause-command
returns-clause-command c =
    let rows = found_of c.in_ok-found.found in
    let words : map (λ w. w.now) c.unwrap_or.result.now ≡ unwrap_or (all_of own_id (rows_of rows)) [] =
    ap (λ r. map (λ w. w.now) r.now) c.unwrap_or.ensures ∙ lent c.get_strs.result _ refl ∙ ap (λ (o : Option (List (List ℕ))). unwrap_or o []) (c.get_strs.ensures ∙ raw_values-rows rows own_id) in (
      refl,
      waits_found (map string_bytes c.args.words.now) c.in_ok-found.found _ _ _ c.in_ok-found.ensures.read
          (c.in_ok-list.ensures ∙ c.get_str-2.ensures ∙ first_value-rows rows (codes "sync-msg-list"))
          (subst (λ (v : Option (List ℕ)). IsPath v (map string_bytes c.in_ok-path.path.items)) (c.get_str.ensures ∙ first_value-rows rows (codes "path")) c.in_ok-path.ensures.path)
          (subst (λ (ws : List (List ℕ)). IsOperand ws (string_bytes c.in_ok-file.file)) words c.in_ok-file.ensures.operand),
    )
