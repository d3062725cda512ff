use Rattle.std.proofs.Common.{◌≡◌, ◌<◌, ℕ, List, [], length, sym, ◌∙◌, subst, arith, vec_len}
use Rattle.std.specs.Prelude.{◌↔◌}
use Rattle.std.specs.List.{Contains}
use Rattle.std.proofs.lemmas.Bool.{eqb-true, eqb-false}
use Rattle.std.proofs.lemmas.List.{length-map, nil_from_length}
use Rattle.std.proofs.lemmas.Result.{IfOk-weaker}
use Rattle.ipdl_base.specs.declared.finding.Finding.{Finding}
use Rattle.include_graph.specs.declared.walk.ReachedFile.{ReachedFile}
use Rattle.include_graph.specs.Additions.{IsFoundOf}
use Rattle.include_graph.specs.Load.{IsAnswer, IsGood}
use Rattle.include_graph.proofs.Loaded.{Laws, clean_of, trees, the_program, a_program, bear, broken_are}
use Rattle.include_graph.proofs.loader.result_of.Goals as goal

-- the findings are those on the keys and the files themselves
same : (count : ℕ) (found : List Finding) (keys keys' : List (List ℕ)) (files files' : List ReachedFile) → keys ≡ keys' → files ≡ files' → ((f : Finding) → Contains found f ↔ ((n : ℕ) × IsFoundOf count keys files n f)) → (f : Finding) → Contains found f ↔ ((n : ℕ) × IsFoundOf count keys' files' n f)
same count found keys keys' files files' a b h f =
    subst (λ ks. Contains found f ↔ ((n : ℕ) × IsFoundOf count ks files' n f)) a
    (subst (λ (fs : List ReachedFile). Contains found f ↔ ((n : ℕ) × IsFoundOf count keys fs n f)) b (h f))

pub whole-requires-clause-trees : goal.whole-requires-clause-trees
whole-requires-clause-trees c =
    let a = c.args.gathered in
    let laws : Laws = record { answer = record { one = record { tokens = c.one_answer.ensures.tokens; tree = c.one_tree.ensures }; fault = c.one_answer.ensures.fault; never_both = c.one_answer.ensures.never_both }; words = c.words_hold.ensures; files = c.files_hold.ensures; names = c.names_hold.ensures; places = c.places_hold.ensures } in
    let found = same a.words c.in_ok-found.found.items c.as_slice.result.now a.keys.keys c.as_slice-2.result.now a.files.items c.as_slice.ensures.keys c.as_slice-2.ensures.value c.in_ok-found.ensures in
    let empty : c.in_ok-found.found.items ≡ [] = nil_from_length c.in_ok-found.found.items (omega (arith, eqb-true (vec_len c.in_ok-found.found) 0 (sym c.is_empty.ensures ∙ c.if-is_empty.true), c.in_ok-found.found.ok.0)) in
    let g = c.requires.1 in
    trees laws c.requires.0 a.keys.keys a.files.items g.first g.firsts g.words g.read (clean_of laws c.requires.0 a.words a.keys.keys a.files.items g c.in_ok-found.found.items found empty)

pub returns-then-is_empty-clause-answer : goal.returns-then-is_empty-clause-answer
returns-then-is_empty-clause-answer c =
    let a = c.args.gathered in
    let laws : Laws = record { answer = record { one = record { tokens = c.one_answer.ensures.tokens; tree = c.one_tree.ensures }; fault = c.one_answer.ensures.fault; never_both = c.one_answer.ensures.never_both }; words = c.words_hold.ensures; files = c.files_hold.ensures; names = c.names_hold.ensures; places = c.places_hold.ensures } in
    let found = same a.words c.in_ok-found.found.items c.as_slice.result.now a.keys.keys c.as_slice-2.result.now a.files.items c.as_slice.ensures.keys c.as_slice-2.ensures.value c.in_ok-found.ensures in
    let empty : c.in_ok-found.found.items ≡ [] = nil_from_length c.in_ok-found.found.items (omega (arith, eqb-true (vec_len c.in_ok-found.found) 0 (sym c.is_empty.ensures ∙ c.if-is_empty.true), c.in_ok-found.found.ok.0)) in
    IfOk-weaker c.whole.result _ _ (λ answer made given g.
    subst (IsAnswer given) (sym made.1)
    (the_program laws given a.keys.keys a.files.items g.first g.firsts g.words g.read (clean_of laws given a.words a.keys.keys a.files.items g c.in_ok-found.found.items found empty) made.0 made.2)) c.whole.ensures

pub returns-then-is_empty-clause-good : goal.returns-then-is_empty-clause-good
returns-then-is_empty-clause-good c =
    let a = c.args.gathered in
    let laws : Laws = record { answer = record { one = record { tokens = c.one_answer.ensures.tokens; tree = c.one_tree.ensures }; fault = c.one_answer.ensures.fault; never_both = c.one_answer.ensures.never_both }; words = c.words_hold.ensures; files = c.files_hold.ensures; names = c.names_hold.ensures; places = c.places_hold.ensures } in
    let found = same a.words c.in_ok-found.found.items c.as_slice.result.now a.keys.keys c.as_slice-2.result.now a.files.items c.as_slice.ensures.keys c.as_slice-2.ensures.value c.in_ok-found.ensures in
    let empty : c.in_ok-found.found.items ≡ [] = nil_from_length c.in_ok-found.found.items (omega (arith, eqb-true (vec_len c.in_ok-found.found) 0 (sym c.is_empty.ensures ∙ c.if-is_empty.true), c.in_ok-found.found.ok.0)) in
    let g = c.requires.1 in
    let clean = clean_of laws c.requires.0 a.words a.keys.keys a.files.items g c.in_ok-found.found.items found empty in
    IfOk-weaker c.whole.result _ _ (λ answer made.
    subst IsGood (sym made.1) (
      a_program laws c.requires.0 a.keys.keys a.files.items g.first g.firsts g.words g.read clean made.0 made.2,
      bear laws c.requires.0 a.keys.keys a.files.items g.first g.firsts g.words g.read clean made.0 made.2,
    )) c.whole.ensures

pub returns-else-is_empty-clause-answer : goal.returns-else-is_empty-clause-answer
returns-else-is_empty-clause-answer c =
    let a = c.args.gathered in
    let laws : Laws = record { answer = record { one = record { tokens = c.one_answer.ensures.tokens; tree = c.one_tree.ensures }; fault = c.one_answer.ensures.fault; never_both = c.one_answer.ensures.never_both }; words = c.words_hold.ensures; files = c.files_hold.ensures; names = c.names_hold.ensures; places = c.places_hold.ensures } in
    let found = same a.words c.in_ok-found.found.items c.as_slice.result.now a.keys.keys c.as_slice-2.result.now a.files.items c.as_slice.ensures.keys c.as_slice-2.ensures.value c.in_ok-found.ensures in
    let some : 0 < length c.in_ok-found.found.items = omega (arith, eqb-false (vec_len c.in_ok-found.found) 0 (sym c.is_empty.ensures ∙ c.if-is_empty.false), c.in_ok-found.found.ok.0) in
    IfOk-weaker c.broken.result _ _ (λ answer made given g.
    subst (IsAnswer given) (sym made) (broken_are laws given a.words a.keys.keys a.files.items g c.in_ok-found.found.items found some)) c.broken.ensures

pub returns-else-is_empty-clause-good : goal.returns-else-is_empty-clause-good
returns-else-is_empty-clause-good c =
    let files = c.args.gathered.files.items in
    let size = c.requires.1.read.size in
    let few = c.requires.1.read.reached.few in
    IfOk-weaker c.broken.result _ _ (λ answer made. subst IsGood (sym made) (omega (arith, length-map files (λ (f : ReachedFile). f.source.text)))) c.broken.ensures
