use Rattle.std.proofs.Common.{◌≡◌, sym, ◌∙◌}
use Rattle.channel_model.specs.ValueActors.{actors_in, actors_in_all, actors_in_parts}
use Rattle.end_parts.specs.SoughtActors.{is_sought, first_id}
use Rattle.end_parts.proofs.SeekLemmas.{found_front, found_back}
use Rattle.end_parts.proofs.value_actors.+seek.Goals as goal

pub first_in_all-returns-in-Some : goal.first_in_all-returns-in-Some
first_in_all-returns-in-Some t c =
    let test = is_sought c.args.test c.args.tree.now in
    let found : first_id test (actors_in c.args.schema.now c.args.shape.now c.in-First.value.value) ≡ c.first_in_value-found.result = rw (← c.deref.ensures) (sym c.first_in_value-found.ensures) in
    rw c.in-First.is (c.in-Some.is ∙ sym (found_front test (actors_in c.args.schema.now c.args.shape.now c.in-First.value.value) (actors_in_all c.args.schema.now c.args.shape.now c.in-First.rest.value) c.in-Some.field-0 (found ∙ c.in-Some.is)))

pub first_in_all-returns-in-None : goal.first_in_all-returns-in-None
first_in_all-returns-in-None t c =
    let test = is_sought c.args.test c.args.tree.now in
    let found : first_id test (actors_in c.args.schema.now c.args.shape.now c.in-First.value.value) ≡ c.first_in_value-found.result = rw (← c.deref.ensures) (sym c.first_in_value-found.ensures) in
    let rest : c.first_in_all.result ≡ first_id test (actors_in_all c.args.schema.now c.args.shape.now c.in-First.rest.value) = rw (← c.deref-in-None.ensures) c.first_in_all.ensures in
    rw c.in-First.is (rest ∙ sym (found_back test (actors_in c.args.schema.now c.args.shape.now c.in-First.value.value) (actors_in_all c.args.schema.now c.args.shape.now c.in-First.rest.value) (found ∙ c.in-None.is)))

pub first_actor-returns-in-Some : goal.first_actor-returns-in-Some
first_actor-returns-in-Some t c =
    let test = is_sought c.args.test c.args.tree.now in
    let front = actors_in c.args.schema.now c.in-First-Some.first.now.shape c.in-First-Some.value.value in
    let found : first_id test front ≡ c.first_in_value-found.result = rw (← c.deref.ensures) (sym c.first_in_value-found.ensures) in
    rw (c.in-First-Some.is-0, c.in-First-Some.ensures.cases.0) (c.in-Some.is ∙ sym (found_front test front (actors_in_parts c.args.schema.now c.in-First-Some.more.now c.in-First-Some.rest.value) c.in-Some.field-0 (found ∙ c.in-Some.is)))

pub first_actor-returns-in-None : goal.first_actor-returns-in-None
first_actor-returns-in-None t c =
    let test = is_sought c.args.test c.args.tree.now in
    let front = actors_in c.args.schema.now c.in-First-Some.first.now.shape c.in-First-Some.value.value in
    let found : first_id test front ≡ c.first_in_value-found.result = rw (← c.deref.ensures) (sym c.first_in_value-found.ensures) in
    let rest : c.first_actor.result ≡ first_id test (actors_in_parts c.args.schema.now c.in-First-Some.more.now c.in-First-Some.rest.value) = rw (← c.deref-in-None.ensures) c.first_actor.ensures in
    rw (c.in-First-Some.is-0, c.in-First-Some.ensures.cases.0) (rest ∙ sym (found_back test front (actors_in_parts c.args.schema.now c.in-First-Some.more.now c.in-First-Some.rest.value) (found ∙ c.in-None.is)))
