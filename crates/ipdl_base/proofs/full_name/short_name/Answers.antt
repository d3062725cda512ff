use Rattle.std.proofs.Common.{◌≡◌, ◌∙◌, ℕ, suc, ◌+◌, ◌-◌, false, drop, arith, ap}
use Rattle.std.specs.List.{list_any}
use Rattle.std.proofs.lemmas.List.{take_rest}
use Rattle.ipdl_base.proofs.ShortNames.{is_colon, all_short, short_after}
use Rattle.ipdl_base.proofs.full_name.short_name.Goals as goal

pub returns-then-full-index-eq58 : goal.returns-then-full-index-eq58
returns-then-full-index-eq58 c =
    let full = c.args.full.now in
    let index : ℕ = c.loop-index.index - 1 in
    let next : suc index ≡ c.loop-index.index = omega arith in
    let more : index + 1 ≡ suc index = omega arith in
    let following : list_any is_colon (drop (suc index) full) ≡ false = ap (λ (n : ℕ). list_any is_colon (drop n full)) next ∙ c.loop-index.invariant in
    take_rest full (index + 1) ∙ (ap (λ (n : ℕ). drop n full) more ∙ short_after full index (omega arith) c.if-full-index-eq58.true following)

pub returns : goal.returns
returns c =
    let full = c.args.full.now in
    let first : ◌≡◌ {A = ℕ} 0 c.loop-index.index = omega arith in
    all_short full (ap (λ (n : ℕ). list_any is_colon (drop n full)) first ∙ c.loop-index.invariant)
