use Rattle.std.proofs.Common.{◌≡◌, ℕ, ◌+◌, List, [], ◌∷◌, Bor, length, drop, map, inl, inr, sym, subst, arith, rules}
use Rattle.std.proofs.lemmas.List.{map-append, length-map, length_push}
use Rattle.std.proofs.lemmas.Result.{err_from_is_err_and}
use Rattle.std.proofs.lemmas.Iterator.Consumers.{YieldsList-at}
use Rattle.std.proofs.lemmas.Iterator.Splits.{YieldsList-from_slice_split}
use Rattle.ipdl_lex.specs.Pieces.{is_line_feed}
use Rattle.sync_list.specs.declared.list.ListFault.{ListFault}
use Rattle.sync_list.specs.Lines.{lines_of}
use Rattle.sync_list.specs.Lists.{IsFault}
use Rattle.sync_list.proofs.Turns.{turn_of, end_of}
use Rattle.sync_list.proofs.Whole.{reads_more, reads_bad, reads_all, lines_at}
use Rattle.sync_list.proofs.reader.read_lines.Goals as goal

pub loop-line-preserved : goal.loop-line-preserved
loop-line-preserved c =
    let so_far = map (λ (x : Bor (List ℕ)). x.now) c.loop-line.yielded in
    let pushed = length_push c.loop-line.yielded c.in-Some.line in
    let same = length-map c.loop-line.yielded (λ (x : Bor (List ℕ)). x.now) in
    record {
      counted = omega (arith, pushed, c.loop-line.invariant.counted);
      read = reads_more so_far _ c.in-Some.line.now (c.loop-line.number + 1) c.loop-line.reader c.read.new.self c.loop-line.invariant.read c.in_ok-read.ensures.ok (omega (arith, same, c.loop-line.invariant.counted))
          (map-append (λ (x : Bor (List ℕ)). x.now) c.loop-line.yielded (c.in-Some.line ∷ []));
    }

pub returns-in_err-read-clause-fault : goal.returns-in_err-read-clause-fault
returns-in_err-read-clause-fault c =
    let turn = turn_of {v = λ (x : Bor (List ℕ)). x.now} c.loop-line.yielded _ c.loop-line.yielded_by _ _ c.in-Some.line c.in-Some.is c.next.ensures.steps
    (YieldsList-at c.into_iter-line-iterator.ensures.into_iter_gives (YieldsList-from_slice_split _ is_line_feed c.args.text.now c.split-line-items.ensures.rest c.split-line-items.ensures.done c.split-line-items.ensures.closure (λ x b q h. search rules))) in
    let all = lines_of c.args.text.now in
    let so_far = map (λ (x : Bor (List ℕ)). x.now) c.loop-line.yielded in
    let same : length so_far ≡ length c.loop-line.yielded = length-map c.loop-line.yielded (λ (x : Bor (List ℕ)). x.now) in
    let lines = lines_at all so_far c.in-Some.line.now (rw same turn.0) (rw same turn.1) in
    let P : ListFault → Type 0 = IsFault c.args.text.now in
    let p = err_from_is_err_and c.from_residual.result c.from_residual.ensures.1 in
    rw (p.1, p.2)
    (elim c.in_err-read.ensures.err [
      | inl e ↦ inl e
      | inr x ↦ inr (subst P (sym x.0) (reads_bad c.args.text.now so_far c.in-Some.line.now (drop (length so_far + 1) all) (c.loop-line.number + 1) c.loop-line.reader c.loop-line.invariant.read x.1 (omega (arith, same, c.loop-line.invariant.counted)) lines))
    ])

pub returns-clause-list : goal.returns-clause-list
returns-clause-list c =
    let whole = end_of {v = λ (x : Bor (List ℕ)). x.now} c.loop-line.yielded _ c.loop-line.yielded_by _ _ c.in-None.is c.next.ensures.steps
    (YieldsList-at c.into_iter-line-iterator.ensures.into_iter_gives (YieldsList-from_slice_split _ is_line_feed c.args.text.now c.split-line-items.ensures.rest c.split-line-items.ensures.done c.split-line-items.ensures.closure (λ x b q h. search rules))) in
    rw c.from_vec.ensures (reads_all c.args.text.now (map (λ (x : Bor (List ℕ)). x.now) c.loop-line.yielded) c.loop-line.reader c.loop-line.invariant.read whole)
