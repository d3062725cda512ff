use Rattle.std.proofs.Common.{◌∙◌, ◌∷◌, ◌++◌, [], ap, subst, refl, List, Option, unwrap_or, option_map, IsSome, Vec, Global}
use Rattle.name_table.specs.declared.decl.DeclId.{DeclId}
use Rattle.name_table.proofs.Listing.{listed_one, listed_after}
use Rattle.name_table.proofs.rows.list.Goals as goal

abbrev row_at : Option (Vec DeclId Global) → List DeclId
row_at o = unwrap_or (option_map (λ row. row.items) o) []

pub returns-in_ok-push-in-Some : goal.returns-in_ok-push-in-Some
returns-in_ok-push-in-Some c =
    let there = c.in-Some.ensures.value in
    let u = (c.get_mut.follows.holds c.push.new.self).3 (subst IsSome there refl) in
    listed_one c.args.rows.now (c.get_mut.follows.lender c.push.new.self) c.args.text c.push.new.self c.args.id u.0 (c.in_ok-push-in-Some.ensures.items ∙ ap (λ xs. xs ++ c.args.id ∷ []) (ap row_at there))

pub returns-in_ok-insert-in-None : goal.returns-in_ok-insert-in-None
returns-in_ok-insert-in-None c =
    listed_after c.args.rows.now c.get_mut.follows.lender-at-none c.insert.new.self c.args.text c.push-in-None.new.self c.args.id c.get_mut.follows.holds-at-none c.in_ok-insert-in-None.ensures.updates.0
    (c.in_ok-push-in-None.ensures.items ∙ ap (λ xs. xs ++ c.args.id ∷ []) (c.in_ok-row-in-None.ensures.items ∙ ap row_at c.in-None.ensures.value))
