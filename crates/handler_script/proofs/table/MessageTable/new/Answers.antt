use Rattle.std.proofs.Common.{◌≡◌, ◌∙◌, ℕ, ◌+◌, ◌-◌, List, length, get_or, drop, sym, ap, arith}
use Rattle.std.specs.Prelude.{find, option_and_then}
use Rattle.std.specs.Str.{bytes_eq}
use Rattle.ipdl_base.specs.Words.{short_name}
use Rattle.ipdl_base.specs.declared.schema.ProtocolRow.{ProtocolRow}
use Rattle.handler_script.specs.Messages.{message_in}
use Rattle.handler_script.specs.Tables.{row_at}
use Rattle.handler_script.proofs.Built.{drop_item}
use Rattle.handler_script.proofs.TableLemmas.{found_more}
use Rattle.handler_script.proofs.table.MessageTable.new.Goals as goal

pub loop-index-preserved-in_ok-insert : goal.loop-index-preserved-in_ok-insert
loop-index-preserved-in_ok-insert c =
    let rows = c.args.schema.now.protocols in
    let i : ℕ = c.loop-index.index - 1 in
    let x : ProtocolRow = c.index-rows-index.result in
    let next : i + 1 ≡ c.loop-index.index = omega arith in
    λ name. found_more (option_and_then (row_at name.message)) (option_and_then (message_in name.message)) (λ p. short_name p.name) c.loop-index.protocols c.insert.new.self c.short_name.result _ x (drop i rows) (drop (i + 1) rows) name.protocol
    (drop_item rows i x (omega (arith, ap length c.as_slice-rows.ensures)) (c.index-rows-index.is ∙ ap (λ (ps : List ProtocolRow). get_or ps i x) c.as_slice-rows.ensures)) (c.short_name.ensures ∙ ap short_name c.as_slice-in-loop-index.ensures)
    (c.in_ok-messages.ensures name.message ∙ ap (find (λ m. bytes_eq m.name name.message)) c.as_slice.ensures) c.in_ok-insert.ensures.updates.0
    (c.loop-index.invariant name ∙ ap (λ (n : ℕ). option_and_then (message_in name.message) (find (λ p. bytes_eq (short_name p.name) name.protocol) (drop n rows))) (sym next))

pub loop-index-preserved : goal.loop-index-preserved
loop-index-preserved c =
    let rows = c.args.schema.now.protocols in
    let i : ℕ = c.loop-index.index - 1 in
    let x : ProtocolRow = c.index-rows-index.result in
    let next : i + 1 ≡ c.loop-index.index = omega arith in
    λ name. found_more (option_and_then (row_at name.message)) (option_and_then (message_in name.message)) (λ p. short_name p.name) c.loop-index.protocols c.insert.new.self c.short_name.result _ x (drop i rows) (drop (i + 1) rows) name.protocol
    (drop_item rows i x (omega (arith, ap length c.as_slice-rows.ensures)) (c.index-rows-index.is ∙ ap (λ (ps : List ProtocolRow). get_or ps i x) c.as_slice-rows.ensures)) (c.short_name.ensures ∙ ap short_name c.as_slice-in-loop-index.ensures)
    (c.in_ok-messages.ensures name.message ∙ ap (find (λ m. bytes_eq m.name name.message)) c.as_slice.ensures) c.in_ok-insert.ensures.updates.0
    (c.loop-index.invariant name ∙ ap (λ (n : ℕ). option_and_then (message_in name.message) (find (λ p. bytes_eq (short_name p.name) name.protocol) (drop n rows))) (sym next))
