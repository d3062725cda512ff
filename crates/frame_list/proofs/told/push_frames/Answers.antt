use Rattle.std.proofs.Common.{◌≡◌, ◌≢◌, ◌∙◌, ◌+◌, ◌==◌, length, ℕ, true, false, List, [], ◌∷◌, arith, refl, sym, subst}
use Rattle.std.proofs.lemmas.Bool.Decides.{nat_tests}
use Rattle.frame_list.specs.Steps.{IsStep}
use Rattle.frame_list.proofs.Lists.{IsCome, all_found, fault_found, goes_on}
use Rattle.frame_list.proofs.told.push_frames.Goals as goal

no_length : (rest : List ℕ) → (length rest == 0) ≡ true → rest ≡ []
no_length [] e = refl
no_length (b ∷ bs) e = absurd (let x : ⊥ = grind (arith, nat_tests) in x)

some_length : (rest : List ℕ) → (length rest == 0) ≡ false → rest ≢ []
some_length rest e is = let x : ⊥ = grind (arith, nat_tests) in x

pub loop-rest-preserved : goal.loop-rest-preserved
loop-rest-preserved c =
    let schema = c.args.schema.now in
    let offset = c.loop-rest.offset in
    let rest = c.loop-rest.rest.now in
    let step = subst (IsStep c.args.form schema offset rest c.loop-rest.out.items c.push_step.new.out.items) c.in-Frame.is c.in_ok-size.ensures in
    subst (λ (bs : List ℕ). IsCome c.args.form schema c.args.bytes.now c.args.out.now.items (offset + c.in-Frame.size) bs c.push_step.new.out.items) (sym c.split_at.ensures.back)
    (goes_on c.args.form schema c.args.bytes.now c.args.out.now.items offset rest c.loop-rest.out.items c.push_step.new.out.items c.in-Frame.size c.loop-rest.invariant step)

pub returns-in-Fault : goal.returns-in-Fault
returns-in-Fault c =
    let schema = c.args.schema.now in
    let offset = c.loop-rest.offset in
    let rest = c.loop-rest.rest.now in
    let step = subst (IsStep c.args.form schema offset rest c.loop-rest.out.items c.push_step.new.out.items) c.in-Fault.is c.in_ok-size.ensures in
    fault_found c.args.form schema c.args.bytes.now c.args.out.now.items offset rest c.loop-rest.out.items c.push_step.new.out.items c.in-Fault.fault c.loop-rest.invariant
    (some_length rest (sym c.is_empty.ensures ∙ c.loop-rest-test.true)) step

pub returns : goal.returns
returns c =
    all_found c.args.form c.args.schema.now c.args.bytes.now c.args.out.now.items c.loop-rest.offset c.loop-rest.rest.now c.loop-rest.out.items c.loop-rest.invariant
    (no_length c.loop-rest.rest.now (sym c.is_empty.ensures ∙ c.loop-rest-test.false))
