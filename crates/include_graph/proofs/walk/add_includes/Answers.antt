use Rattle.std.proofs.Common.{◌≡◌, ◌≤◌, ℕ, ◌+◌, length, List, take, subst, sym, ap, ◌∙◌, ◌++◌, ◌∷◌, []}
use Rattle.std.proofs.lemmas.List.{take_more}
use Rattle.ipdl_syntax.specs.declared.tree.Include.{Include}
use Rattle.ipdl_syntax.specs.Programs.{named_keys}
use Rattle.include_graph.specs.declared.walk.Target.{Target}
use Rattle.include_graph.proofs.Targets.{Adding, adding_more, add_keys_few}
use Rattle.include_graph.proofs.walk.add_includes.Goals as goal

pub add_include-requires : goal.add_include-requires
add_include-requires c = subst (λ (ks : List (List ℕ)). length ks ≤ 4096) (sym c.loop-include.invariant.keys) (add_keys_few c.args.keys.now.keys (named_keys (take c.loop-include.include-index c.args.includes.now)) c.requires)

pub loop-include-preserved : goal.loop-include-preserved
loop-include-preserved c =
    let is = c.args.includes.now in
    let n = c.loop-include.include-index in
    let item = c.include-item.result in
    let old = c.args.keys.now.keys in
    let new = c.add_include.new.keys.keys in
    let added = adding_more (take n is) old c.loop-include.keys.keys new c.loop-include.targets.items item c.in_ok-add_include.field-0 c.loop-include.invariant c.in_ok-add_include.ensures.keys c.in_ok-add_include.ensures.target in
    let front : take n is ++ item ∷ [] ≡ take (n + 1) is = ap (λ (i : Include). take n is ++ i ∷ []) c.include-item.is ∙ sym (take_more is n item c.loop-include-test.true) in
    subst (λ (xs : List Include). Adding xs old new c.push.new.self.items) front (subst (λ (ts : List Target). Adding (take n is ++ item ∷ []) old new ts) (sym c.in_ok-push.ensures.items) added)
