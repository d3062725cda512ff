use Rattle.std.proofs.Common.{◌≡◌, ◌∙◌, ℕ, ◌+◌, ◌-◌, drop, refl, sym, ap, arith}
use Rattle.std.specs.Prelude.{find, option_map}
use Rattle.std.specs.Str.{bytes_eq}
use Rattle.ipdl_base.specs.declared.schema.MessageRow.{MessageRow}
use Rattle.handler_script.proofs.Built.{drop_item}
use Rattle.handler_script.proofs.TableLemmas.{found_more}
use Rattle.handler_script.proofs.table.by_names.Goals as goal

pub loop-index-preserved : goal.loop-index-preserved
loop-index-preserved c =
    let messages = c.args.messages.now in
    let i : ℕ = c.loop-index.index - 1 in
    let x : MessageRow = c.index-messages-index.result in
    let next : i + 1 ≡ c.loop-index.index = omega arith in
    λ name. found_more (option_map (λ m. m.now)) (λ o. o) (λ m. m.name) c.loop-index.names c.insert.new.self c.as_slice.result _ x (drop i messages) (drop (i + 1) messages) name
    (drop_item messages i x (omega arith) c.index-messages-index.is) c.as_slice.ensures refl c.in_ok-insert.ensures.updates.0
    (c.loop-index.invariant name ∙ ap (λ (n : ℕ). find (λ m. bytes_eq m.name name) (drop n messages)) (sym next))
