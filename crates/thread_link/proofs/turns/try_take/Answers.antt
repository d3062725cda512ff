use Rattle.std.proofs.Common.{◌≡◌, ◌∙◌, ◌+◌, ℕ, List, [], ◌∷◌, Option, Some, sym, ap, subst, arith, refl}
use mathlib.Core.Option.{none}
use Rattle.atomic_table.specs.Table.{Allows, Me, Step, rest, step}
use Rattle.thread_link.proofs.RuleSteps.{locks}
use Rattle.thread_link.proofs.Seats.{taken-so}
use Rattle.thread_link.proofs.turns.try_take.Goals as goal
use Rattle.thread_link.specs.declared.parts.SeatView.{SeatView}
use Rattle.thread_link.specs.declared.parts.SharedLink.{SharedLink}
use Rattle.thread_link.specs.LinkRule.{IsLawful}
use Rattle.thread_link.specs.Steps.{Locked}
use Rattle.world_core.specs.HalfView.{setting_of}

pub compare_exchange-requires : goal.compare_exchange-requires
compare_exchange-requires c =
    let mine = c.requires.seat in
    let seat = c.args.seat.now in
    let z = c.args.board.now.table_id in
    let setting = setting_of c.args.board.now.key.half.value in
    let found = c.args.found in
    let st : ℕ → Step (Option SharedLink) = λ k. step z.slots 0 found (found + k) none in
    let l = locks setting z.slots seat.id seat.me.0 c.args.side found (st c.number.result) refl mine.is_of c.requires.free in
    let me : seat.me ≡ (seat.me.0, []) = ap (λ (cs : List (ℕ × Option SharedLink)). (seat.me.0, cs)) mine.empty in
    let k = subst (λ (x : ℕ). Allows (IsLawful setting) z.slots seat.id (seat.me.0, []) 0 (λ n. prog.Atomic.either (lib.Dec.eqb n found) (found + x) n) (Locked (st c.number.result) (seat.me.0, []))) (sym c.number.ensures) l in (
      c.requires.board.1,
      omega (arith, c.requires.board.0.0),
      subst (λ (m : Me (Option SharedLink) SeatView). Allows (IsLawful setting) z.slots seat.id m 0 (λ n. prog.Atomic.either (lib.Dec.eqb n found) (found + c.number.result) n) (Locked (st c.number.result) m)) (sym me) k,
    )

pub exchange-requires : goal.exchange-requires
exchange-requires c =
    let e = c.compare_exchange.ensures in
    let got = e.2.0 c.if-compare_exchange-found.false in
    let held = ap (λ (m : Me (Option SharedLink) SeatView). m.1) got.me in
    (e.0 ∙ c.requires.board.1, (Some got.shared, held ∙ ap (λ (l : List (ℕ × Option SharedLink)). (0, Some got.shared) ∷ rest l) (sym held)))

pub returns-clause-taken : goal.returns-clause-taken
returns-clause-taken c =
    let e = c.compare_exchange.ensures in
    let x = c.exchange.ensures in
    taken-so c.args.side c.args.seat.now c.compare_exchange.new.seat c.exchange.new.seat c.exchange.result c.in-Some.shared c.requires.seat.is_of (e.2.0 c.if-compare_exchange-found.false) c.in-Some.is x.2 x.3 (x.0 ∙ e.0)
