-- An actor that is built last in an event lives where it had not fallen.
use Rattle.std.proofs.Common.{◌≡◌, ℕ, ℤ, Bool, true, false, not, ◌&&◌, ◌||◌, if◌then◌else◌, IsTrue, List, [], ◌∷◌, ◌++◌, None, refl, sym, ap, ◌∙◌, append_assoc}
use Rattle.std.specs.List.{list_all, list_any}
use Rattle.std.specs.Ordering.{int_eq}
use Rattle.std.proofs.lemmas.Bool.{and_parts}
use Rattle.std.proofs.lemmas.Bool.Decides.{Decides-int_eq}
use Rattle.ipdl_base.specs.declared.line.What.{What}
use Rattle.ipdl_base.specs.declared.line.What.TheVariants as what
use Rattle.history_reading.specs.declared.parts.BuiltActor.{BuiltActor}
use Rattle.history_reading.specs.EndReading.{was_built}
use Rattle.history_reading.specs.Numbers.{has}
use Rattle.history_reading.specs.Settled.{is_fall_of}
use Rattle.law_statements.specs.Actors.{built, fallen, id_fallen, last_actor, lives}
use Rattle.law_statements.proofs.Fields.{built-add}
use Rattle.law_statements.proofs.Lists.{any-add, filter-add}
use Rattle.order_statements.specs.Effects.{lets_go}
use Rattle.order_checks.proofs.Deletions.{fallen-after}

-- it lives unless it has fallen
born : (own : List What) (id : ℤ) (protocol : ℕ) → lives (own ++ what.Built id protocol ∷ []) id ≡ not (has (fallen own) id)
born own id protocol =
    ap (λ (xs : List BuiltActor). was_built xs id && not (has (fallen (own ++ what.Built id protocol ∷ [])) id)) (built-add own (what.Built id protocol))
    ∙ ap (λ (b : Bool). b && not (has (fallen (own ++ what.Built id protocol ∷ [])) id))
    (any-add (λ (a : BuiltActor). int_eq a.id id) (built own) (record { id = id; manager = last_actor own }) ∙ ap (λ (b : Bool). if b then true else was_built (built own) id) ((Decides-int_eq id id).1 refl))
    ∙ ap (λ (ids : List ℤ). not (has ids id)) (filter-add id_fallen own (what.Built id protocol))

-- nobody falls where resolvers are destroyed
none-falls : (id : ℤ) (lost : List What) → IsTrue (list_all lets_go lost) → list_any (is_fall_of id) lost ≡ false
none-falls id [] e = refl
none-falls id (w ∷ lost) e =
    let both : IsTrue (lets_go w) × IsTrue (list_all lets_go lost) = and_parts (lets_go w) (list_all lets_go lost) e in
    ap (λ (b : Bool). b || list_any (is_fall_of id) lost) (one w both.0) ∙ none-falls id lost both.1
  where
    one : (v : What) → lets_go v ≡ true → is_fall_of id v ≡ false
    one (what.Fall a why) f = cc
    one _ f = refl

pub alive-after : (own : List What) (w : What) (lost : List What) (id : ℤ) (protocol : ℕ) → id_fallen w ≡ None → IsTrue (list_all lets_go lost)
    → lives ((own ++ w ∷ []) ++ (lost ++ what.Built id protocol ∷ [])) id ≡ not (has (fallen own) id)
alive-after own w lost id protocol quiet answers =
    ap (λ (ws : List What). lives ws id) (sym (append_assoc (own ++ w ∷ []) lost (what.Built id protocol ∷ [])))
    ∙ born ((own ++ w ∷ []) ++ lost) id protocol
    ∙ ap not (fallen-after own w lost id quiet ∙ ap (λ (b : Bool). if has (fallen own) id then true else b) (none-falls id lost answers) ∙ by (has (fallen own) id))
  where
    by : (b : Bool) → (if b then true else false) ≡ b
    by true = refl
    by false = refl
