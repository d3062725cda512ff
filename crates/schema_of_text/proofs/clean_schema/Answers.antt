use Rattle.std.proofs.Common.{◌≡◌, List, length, sym, ◌∙◌, inl, inr, arith, vec_len}
use Rattle.std.specs.List.{Contains}
use Rattle.std.proofs.lemmas.Bool.{eqb-true}
use Rattle.ipdl_base.specs.declared.finding.Finding.{Finding}
use Rattle.schema_of_text.proofs.clean_schema.Goals as goal

-- an empty list has no finding
none_found : (found : List Finding) → length found ≡ 0 → (f : Finding) → ¬ Contains found f
none_found found empty f has = let below = has.1 in omega (arith, below, empty)

pub schema-requires-clause-clean : goal.schema-requires-clause-clean
schema-requires-clause-clean c =
    let types = c.in_ok-add_of_types.ensures in
    let protocols = c.in_ok-add_of_protocols.ensures in
    let found = c.add_of_protocols.new.found in
    let empty : length found.items ≡ 0 = omega (arith, eqb-true (vec_len found) 0 (sym c.is_empty.ensures ∙ c.if-not-is_empty.false), found.ok.0) in
    let none = none_found found.items empty in
    record {
      is_program = c.requires.program;
      named = c.requires.names;
      types = λ f h. none f ((protocols.exact f).1 (inl ((types.exact f).1 (inr h))));
      managers = λ f h. none f ((protocols.exact f).1 (inr (inl h)));
      messages = λ f h. none f ((protocols.exact f).1 (inr (inr h)));
    }
