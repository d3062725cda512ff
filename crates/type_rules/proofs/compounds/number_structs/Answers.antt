use Rattle.std.proofs.Common.{◌≡◌, ◌∷◌, [], ◌++◌, map, length, ap, sym, ◌∙◌}
use Rattle.std.proofs.lemmas.List.{take_all, map-append, length-map}
use Rattle.type_rules.specs.Compounds.{told, struct}
use Rattle.type_rules.proofs.Numbering.{numbers_none, numbers_turn}
use Rattle.type_rules.proofs.compounds.number_structs.Goals as goal

pub loop-item-init : goal.loop-item-init
loop-item-init c = rw c.requires (numbers_none (struct c.args.file) (map told c.args.all.now.items))

pub loop-item-preserved : goal.loop-item-preserved
loop-item-preserved c =
    let all = c.loop-item.all.items in
    let count : c.len.result ≡ length (map told all) = c.len.ensures ∙ c.loop-item.all.ok.0 ∙ sym (length-map all told) in
    numbers_turn (struct c.args.file) c.args.structs.now c.loop-item.item-index c.item-item.result c.loop-item.numbers.items c.push.new.self.items _ (map told all) (map told c.push-in-loop-item.new.self.items) c.loop-item-test.true c.item-item.is
    (c.in_ok-push.ensures.items ∙ ap (λ n. c.loop-item.numbers.items ++ n ∷ []) count)
    (ap (map told) c.in_ok-push-2.ensures.items ∙ map-append told all _)
    c.loop-item.invariant

pub returns : goal.returns
returns c = rw (take_all c.loop-item.item-index c.args.structs.now c.loop-item-test.false) at c.loop-item.invariant
