use Rattle.std.proofs.Common.{◌≡◌, ◌∙◌, List, ℕ, Option, [], map, string_bytes, sym, ap, subst, codes, refl}
use Rattle.std.specs.Prelude.{unwrap_or}
use Rattle.clap.specs.Words.{all_of, found_of, rows_of}
use Rattle.clap.proofs.WalkLemmas.{first_value-rows, raw_values-rows}
use Rattle.command_words.specs.Forms.{own_id}
use Rattle.command_words.specs.Gen.{IsActors, IsRounds}
use Rattle.command_words.proofs.Compiled.{lent}
use Rattle.command_words.proofs.Errors.{of_error}
use Rattle.command_words.proofs.GenFound.{gen_found, no_actors_found, no_rounds_found}
use Rattle.command_words.proofs.generation.generation.Goals as goal

pub returns-in_err-actors-clause-usage : goal.returns-in_err-actors-clause-usage
returns-in_err-actors-clause-usage c =
    let rows = found_of c.in_ok-found.found in
    let value = c.get_str.ensures ∙ first_value-rows rows (codes "actors") in
    of_error c.from_residual-in_err-actors.result _ _ c.from_residual-in_err-actors.ensures.1
    (λ fault gives usage. no_actors_found (map string_bytes c.args.words.now) c.in_ok-found.found c.in_ok-found.ensures.read
    (λ actors is. c.in_err-actors.ensures.usage actors (subst (λ (v : Option (List ℕ)). IsActors v actors) (sym value) is)))

pub returns-in_err-rounds-clause-usage : goal.returns-in_err-rounds-clause-usage
returns-in_err-rounds-clause-usage c =
    let rows = found_of c.in_ok-found.found in
    let words : map (λ w. w.now) c.unwrap_or.result.now ≡ unwrap_or (all_of own_id (rows_of rows)) [] =
    ap (λ r. map (λ w. w.now) r.now) c.unwrap_or.ensures ∙ lent c.get_strs.result _ refl ∙ ap (λ (o : Option (List (List ℕ))). unwrap_or o []) (c.get_strs.ensures ∙ raw_values-rows rows own_id) in
    of_error c.from_residual-in_err-rounds.result _ _ c.from_residual-in_err-rounds.ensures.1
    (λ fault gives usage. no_rounds_found (map string_bytes c.args.words.now) c.in_ok-found.found c.in_ok-found.ensures.read
    (λ rounds is. c.in_err-rounds.ensures.usage rounds (subst (λ (ws : List (List ℕ)). IsRounds ws rounds) (sym words) is)))

pub returns-clause-command : goal.returns-clause-command
returns-clause-command c =
    let rows = found_of c.in_ok-found.found in
    let words : map (λ w. w.now) c.unwrap_or.result.now ≡ unwrap_or (all_of own_id (rows_of rows)) [] =
    ap (λ r. map (λ w. w.now) r.now) c.unwrap_or.ensures ∙ lent c.get_strs.result _ refl ∙ ap (λ (o : Option (List (List ℕ))). unwrap_or o []) (c.get_strs.ensures ∙ raw_values-rows rows own_id) in (
      refl,
      gen_found (map string_bytes c.args.words.now) c.in_ok-found.found _ _ c.in_ok-found.ensures.read
          (subst (λ (v : Option (List ℕ)). IsActors v c.in_ok-actors.actors) (c.get_str.ensures ∙ first_value-rows rows (codes "actors")) c.in_ok-actors.ensures.actors)
          (subst (λ (ws : List (List ℕ)). IsRounds ws c.in_ok-rounds.rounds) words c.in_ok-rounds.ensures.rounds),
    )
