-- An actor that lived and no longer lives never lives again.
use Rattle.std.proofs.Common.{◌≡◌, ℕ, ℤ, Bool, true, false, not, ◌&&◌, ◌||◌, List, [], ◌∷◌, ◌++◌, refl, sym, ap, subst, ◌∙◌, append_assoc}
use Rattle.std.proofs.lemmas.Bool.{and_parts, false≢true}
use Rattle.std.proofs.lemmas.List.Folds.{list_any-append}
use Rattle.std.proofs.lemmas.List.Elements.{filter_map-append}
use Rattle.ipdl_base.specs.declared.kinds.Side.{Side}
use Rattle.ipdl_base.specs.declared.line.Line.{Line}
use Rattle.ipdl_base.specs.declared.line.What.{What}
use Rattle.ipdl_base.specs.declared.schema.Schema.{Schema}
use Rattle.channel_model.specs.Ends.{World, opening}
use Rattle.channel_model.specs.Events.{Move}
use Rattle.channel_model.specs.Runs.{RunState, happens, history_of, run}
use Rattle.history_reading.specs.EndReading.{was_built}
use Rattle.history_reading.specs.Numbers.{has}
use Rattle.law_statements.specs.Actors.{built, fallen, id_fallen, lives}
use Rattle.law_statements.specs.Said.{said_by, said_in}
use Rattle.order_statements.specs.Laws.{FallenActorsStayFallen}
use Rattle.order_statements.proofs.Deletes.{built-later}
use Rattle.order_statements.proofs.Tells.{history-tells}

-- Longer histories

run-more : (schema : Schema) (xs ys : List Move) (w : World) → (run schema (xs ++ ys) w).lines ≡ (run schema xs w).lines ++ (run schema ys (run schema xs w).world).lines
run-more schema [] ys w = refl
run-more schema (x ∷ xs) ys w =
    let first : RunState = happens schema w x in
    ap (λ (ls : List Line). first.lines ++ ls) (run-more schema xs ys first.world) ∙ sym (append_assoc first.lines (run schema xs first.world).lines (run schema ys (run schema xs first.world).world).lines)

said-more : (end : Side) (xs ys : List Line) → said_by end (xs ++ ys) ≡ said_by end xs ++ said_by end ys
said-more end xs ys = filter_map-append (said_in end) xs ys

-- what is printed after more moves
told-more : (schema : Schema) (top : ℕ) (front more : List Move) (side : Side) → (later : List What) × (said_by side (history_of schema top (front ++ more)) ≡ said_by side (history_of schema top front) ++ later)
told-more schema top front more side =
    let lines : List Line = (run schema more (run schema front (opening top)).world).lines in
    (said_by side lines, ap (said_by side) (run-more schema front more (opening top)) ∙ said-more side (history_of schema top front) lines)

-- Actors

or-true : (a b : Bool) → a ≡ true → (a || b) ≡ true
or-true true b h = refl
or-true false b h = absurd (false≢true h)

fallen-stays : (own later : List What) (id : ℤ) → has (fallen own) id ≡ true → has (fallen (own ++ later)) id ≡ true
fallen-stays own later id h = ap (λ (ns : List ℤ). has ns id) (filter_map-append id_fallen own later) ∙ list_any-append _ (fallen own) (fallen later) ∙ or-true (has (fallen own) id) _ h

-- an actor that was built and does not live has fallen, and stays fallen
falls-for-good : (own later : List What) (id : ℤ) → was_built (built own) id ≡ true → lives own id ≡ false → lives (own ++ later) id ≡ false
falls-for-good own later id there dead = by (has (fallen own) id) refl
  where
    by : (b : Bool) → has (fallen own) id ≡ b → lives (own ++ later) id ≡ false
    by true is = ap (λ (b : Bool). was_built (built (own ++ later)) id && not b) (fallen-stays own later id is) ∙ none (was_built (built (own ++ later)) id)
      where
        none : (b : Bool) → (b && false) ≡ false
        none true = refl
        none false = refl
    by false is = absurd (false≢true (sym dead ∙ ap (λ (b : Bool). b && not (has (fallen own) id)) there ∙ ap not is))

pub fallen_actors_stay_fallen : FallenActorsStayFallen
fallen_actors_stay_fallen schema sound top front middle back side id lived gone =
    let before = told-more schema top front middle side in
    let after = told-more schema top (front ++ middle) back side in
    let own = said_by side (history_of schema top front) in
    let now = said_by side (history_of schema top (front ++ middle)) in
    let built_first : was_built (built own) id ≡ true = (and_parts (was_built (built own) id) (not (has (fallen own) id)) ((history-tells schema sound top front side).alive id ∙ lived)).0 in
    let built_now : was_built (built now) id ≡ true = subst (λ (ws : List What). was_built (built ws) id ≡ true) (sym before.1) (built-later own before.0 id built_first) in
    let dead : lives now id ≡ false = (history-tells schema sound top (front ++ middle) side).alive id ∙ gone in
    sym ((history-tells schema sound top ((front ++ middle) ++ back) side).alive id) ∙ ap (λ (ws : List What). lives ws id) after.1 ∙ falls-for-good now after.0 id built_now dead
