use Rattle.std.proofs.Common.{◌≡◌, ℕ, List, sym, ◌∙◌, subst, ap, is_some, arith}
use Rattle.std.specs.Prelude.{Some, slice_get, option_to_list}
use Rattle.include_graph.proofs.Places.{at_position, not_among, goes_in}
use Rattle.include_graph.proofs.walk.add_include.Goals as goal

pub returns-in-Some-get_index_of-clause-target : goal.returns-in-Some-get_index_of-clause-target
returns-in-Some-get_index_of-clause-target c = (
  c.in-Some.key,
  sym c.in_ok-key.ensures ∙ ap option_to_list c.in-Some.is,
  at_position c.args.keys.now.keys c.in-Some.key c.in-Some-get_index_of.number (sym c.get_index_of.ensures.index ∙ c.in-Some-get_index_of.is),
)

pub returns-then-number-ge-MOST_FILES-clause-target :
    goal.returns-then-number-ge-MOST_FILES-clause-target
returns-then-number-ge-MOST_FILES-clause-target c = (
  c.in-Some.key,
  sym c.in_ok-key.ensures ∙ ap option_to_list c.in-Some.is,
  (let len = c.len-number.ensures.len in omega arith),
  not_among c.args.keys.now.keys c.in-Some.key (sym c.get_index_of.ensures.found ∙ ap is_some c.in_default-get_index_of.is),
)

pub returns-clause-target : goal.returns-clause-target
returns-clause-target c =
    let keys = c.args.keys.now.keys in
    let fresh = sym c.get_index_of.ensures.found ∙ ap is_some c.in_default-get_index_of.is in
    let P : List (List ℕ) → Type 0 = λ ks. slice_get ks c.len-number.result ≡ Some c.in-Some.key in (
      c.in-Some.key,
      sym c.in_ok-key.ensures ∙ ap option_to_list c.in-Some.is,
      subst P (sym c.in_ok-insert.ensures.keys) (goes_in keys c.in-Some.key c.len-number.result fresh c.len-number.ensures.len),
    )
