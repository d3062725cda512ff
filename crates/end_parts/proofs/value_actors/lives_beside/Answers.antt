use Rattle.std.proofs.Common.{◌≡◌, ◌≢◌, ℤ, not, Option, sym, ap, ◌∙◌, rules}
use Rattle.std.proofs.lemmas.Bool.{eq-eqb}
use Rattle.std.proofs.lemmas.Int.{to_z-of_z}
use mir.Val.{SFits, of_z, to_z}
use mir.Syntax.{w32}
use Rattle.channel_model.specs.ValueActors.{lives_as}
use Rattle.end_parts.specs.SoughtActors.{living_beside}
use Rattle.end_parts.proofs.LivingLemmas.{lives-beside, lives-out}
use Rattle.end_parts.proofs.value_actors.lives_beside.Goals as goal

pub returns-then-id-other : goal.returns-then-id-other
returns-then-id-other c =
    let id = c.args.id in
    let x = c.in-Some.other in
    let n : id ≢ x = λ (e : id ≡ x). c.if-id-other.true (ap (of_z w32) e) in
    let lives : c.lives_as-then-id-other.result ≡ lives_as c.args.tree.now c.args.protocol id = c.lives_as-then-id-other.ensures ∙ ap (lives_as c.args.tree.now c.args.protocol) (to_z-of_z w32 id c.ranges.id) in
    lives ∙ sym (lives-beside x id c.args.protocol c.args.tree.now n) ∙ ap (λ (o : Option ℤ). lives_as (living_beside o c.args.tree.now) c.args.protocol id) (sym c.in-Some.is)

pub returns-else-id-other : goal.returns-else-id-other
returns-else-id-other c =
    let id = c.args.id in
    let x = c.in-Some.other in
    let fits : SFits w32 x = search rules in
    let e : id ≡ x = sym (to_z-of_z w32 id c.ranges.id) ∙ ap (to_z w32) c.if-id-other.false ∙ to_z-of_z w32 x fits in
    ap not (eq-eqb (of_z w32 id) (of_z w32 x) c.if-id-other.false) ∙ sym (lives-out x id c.args.protocol c.args.tree.now e) ∙ ap (λ (o : Option ℤ). lives_as (living_beside o c.args.tree.now) c.args.protocol id) (sym c.in-Some.is)
