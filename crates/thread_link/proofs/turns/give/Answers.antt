use Rattle.std.proofs.Common.{◌≡◌, ◌∙◌, ◌*◌, ℕ, List, ◌∷◌, Option, Some, sym, ap, subst, arith}
use mathlib.Core.Option.{none}
use Rattle.atomic_table.specs.Table.{Allows, Me, rest, step}
use Rattle.thread_link.proofs.RuleSteps.{releases}
use Rattle.thread_link.proofs.Seats.{given-so}
use Rattle.thread_link.proofs.turns.give.Goals as goal
use Rattle.thread_link.specs.declared.parts.SeatView.{SeatView}
use Rattle.thread_link.specs.declared.parts.SharedLink.{SharedLink}
use Rattle.thread_link.specs.LinkRule.{IsLawful}
use Rattle.thread_link.specs.Steps.{Released}
use Rattle.world_core.specs.HalfView.{setting_of}

pub store-requires : goal.store-requires
store-requires c =
    let z = c.args.board.now.table_id in
    let setting = setting_of c.args.board.now.key.half.value in
    let f = c.count-turns.ensures in
    let x = c.exchange.ensures in
    let seat = c.exchange.new.seat in
    let v = c.args.seat.now.me.0 in
    let l = c.args.shared in
    let word = c.free_word-word.result in
    let more = rest c.count-turns.new.seat.me.1 in
    let me : seat.me ≡ (v, (0, Some l) ∷ more) = x.3 ∙ ap (λ (m : Me (Option SharedLink) SeatView). (m.0, (0, Some l) ∷ more)) f.me in (
      x.0 ∙ (f.table ∙ c.requires.board.1),
      omega (arith, c.requires.board.0.0),
      subst (λ (n : ℕ). Allows (IsLawful setting) n seat.id seat.me 0 (λ _. word) (λ _. Released (step n 0 word 0 none) seat.me word)) (sym c.requires.board.0.1)
          (releases setting seat.id v c.args.side l more seat.me word (step 1 0 word 0 none) me c.requires.seat.holds c.requires.seat.is_of c.requires.adds c.requires.home (c.free_word-word.ensures ∙ ap (λ (n : ℕ). 4 * n) c.lines.ensures)),
    )

pub returns : goal.returns
returns c =
    let f = c.count-turns.ensures in
    let x = c.exchange.ensures in
    let s = c.store.ensures in
    let l = c.args.shared in
    let more = rest c.count-turns.new.seat.me.1 in
    given-so c.args.side c.args.seat.now c.exchange.new.seat c.store.new.seat l more c.free_word-word.result (step c.args.board.now.table_id.slots 0 c.free_word-word.result 0 none) c.requires.seat.is_of (x.3 ∙ ap (λ (m : Me (Option SharedLink) SeatView). (m.0, (0, Some l) ∷ more)) f.me)
    (ap (λ (m : Me (Option SharedLink) SeatView). rest m.1) f.me ∙ ap (λ (cs : List (ℕ × Option SharedLink)). rest cs) c.requires.seat.slot) s.2 (s.0 ∙ (x.0 ∙ f.table))
