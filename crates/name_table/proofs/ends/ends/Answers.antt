use Rattle.std.proofs.Common.{ℕ, ◌≡◌, ◌∙◌, inl, inr, List, [], arith, Bor, Vec, Global, Option, Some, unwrap_or, option_map, sym, ap, subst, slice_get, true}
use Rattle.std.proofs.lemmas.Bool.{cases_lt}
use Rattle.std.proofs.lemmas.Option.{slice_get_within}
use Rattle.std.specs.List.{slice_index_or}
use Rattle.name_table.specs.declared.decl.DeclId.{DeclId}
use Rattle.name_table.specs.Ends.{ends_of}
use Rattle.name_table.proofs.MarkedEnds.{not_listed}
use Rattle.name_table.proofs.ends.ends.Goals as goal

pub loop-index-preserved : goal.loop-index-preserved
loop-index-preserved c i e below at =
    let k = c.loop-index.index in
    let entries = c.args.rows.now.entries in
    elim (cases_lt i k) [
      | inl lower ↦ c.mark_ends.ensures.kept (ends_of e.0.now) (c.loop-index.invariant i e lower at)
      | inr past ↦
          (let here : i ≡ k = omega (arith, past, below) in
          let both : Some (c.in-Some.text.now, c.in-Some.field-0-1.now) ≡ Some e = c.in-Some.ensures.entry ∙ ap (slice_get entries) (sym here) ∙ at in
          let one : (c.in-Some.text.now, c.in-Some.field-0-1.now) ≡ e = cc in
          subst (λ (p : Bor (List ℕ) × Vec DeclId Global). slice_index_or c.mark_ends.new.marks.items (ends_of p.0.now) true ≡ true) one c.mark_ends.ensures.marked)
    ]

pub returns : goal.returns
returns c text h =
    let entries = c.args.rows.now.entries in
    let all : (i : ℕ) (e : Bor (List ℕ) × Vec DeclId Global) → slice_get entries i ≡ Some e → slice_index_or c.loop-index.marks.items (ends_of e.0.now) true ≡ true = λ i e at. (
    let below = slice_get_within entries i e at in
    let past = c.loop-index-test.false in
    let len = c.len-index-end.ensures.len in
    c.loop-index.invariant i e (omega (arith, below, past, len)) at
    ) in
    ap (λ (o : Option (Vec DeclId Global)). unwrap_or (option_map (λ row. row.items) o) []) (not_listed c.loop-index.marks.items text entries all h)
