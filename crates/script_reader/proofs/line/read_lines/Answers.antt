use Rattle.std.proofs.Common.{ℕ, List, [], ◌∷◌, Bor, map, subst, rules}
use Rattle.std.proofs.lemmas.List.{map-append}
use Rattle.std.proofs.lemmas.Iterator.Consumers.{YieldsList-at}
use Rattle.std.proofs.lemmas.Iterator.Splits.{YieldsList-from_slice_split}
use Rattle.script_reader.specs.Lines.{is_line_feed, AreRead}
use Rattle.script_reader.proofs.Turns.{end_of, HasRead-next}
use Rattle.script_reader.proofs.line.read_lines.Goals as goal

pub loop-line-preserved : goal.loop-line-preserved
loop-line-preserved c =
    HasRead-next (map (λ (x : Bor (List ℕ)). x.now) c.loop-line.yielded) _ c.loop-line.readings.items _ c.in-Some.line.now c.in_ok-read_line.field-0 c.loop-line.invariant c.in_ok-read_line.ensures
    (map-append (λ (x : Bor (List ℕ)). x.now) c.loop-line.yielded (c.in-Some.line ∷ []))
    c.in_ok-push.ensures.items

pub returns : goal.returns
returns c =
    let whole = end_of {v = λ (x : Bor (List ℕ)). x.now} c.loop-line.yielded _ c.loop-line.yielded_by _ _ c.in-None.is c.next.ensures.steps
    (YieldsList-at c.into_iter-line-iterator.ensures.into_iter_gives (YieldsList-from_slice_split _ is_line_feed c.args.text.now c.split-line-items.ensures.rest c.split-line-items.ensures.done c.split-line-items.ensures.closure (λ x b q h. search rules))) in
    let P : List (List ℕ) → Type 0 = λ ls. AreRead ls c.loop-line.readings.items in
    rw c.from_vec.ensures (subst P whole c.loop-line.invariant.each)
