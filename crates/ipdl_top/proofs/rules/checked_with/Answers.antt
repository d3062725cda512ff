use Rattle.std.proofs.Common.{◌≡◌, ◌<◌, ◌++◌, [], List, ℕ, ap, arith, length, sym, ◌∙◌, vec_len}
use Rattle.std.proofs.lemmas.Bool.{eqb-false, eqb-true}
use Rattle.std.proofs.lemmas.List.{nil_from_length}
use Rattle.std.specs.Option.{option_copied}
use Rattle.findings.proofs.Reports.{report_of}
use Rattle.ipdl_top.specs.Lists.{list_names}
use Rattle.ipdl_top.specs.Steps.{names_of}
use Rattle.ipdl_top.proofs.Gathered.{clean_of, nothing, some_reported}
use Rattle.ipdl_top.proofs.rules.checked_with.Goals as goal

pub schema-requires-clause-clean : goal.schema-requires-clause-clean
schema-requires-clause-clean c =
    let found = c.in_ok-found.found in
    let none : found.items ≡ [] = nil_from_length found.items (omega (arith, eqb-true (vec_len found) 0 (sym c.is_empty.ensures ∙ c.if-is_empty.true), found.ok.0)) in
    clean_of c.args.program.now (option_copied c.args.sections) found.items c.requires.program c.requires.named none c.in_ok-found.ensures

pub returns-in_ok-schema : goal.returns-in_ok-schema
returns-in_ok-schema c =
    let found = c.in_ok-found.found in
    let none : found.items ≡ [] = nil_from_length found.items (omega (arith, eqb-true (vec_len found) 0 (sym c.is_empty.ensures ∙ c.if-is_empty.true), found.ok.0)) in
    record { clean = nothing found.items none c.in_ok-found.ensures; schema_of = c.in_ok-schema.ensures.of_program; sound = c.in_ok-schema.ensures.sound }

pub returns-in_ok-report_of : goal.returns-in_ok-report_of
returns-in_ok-report_of c =
    let found = c.in_ok-found.found in
    let report = c.in_ok-report_of.field-0 in
    let some : 0 < length found.items = omega (arith, eqb-false (vec_len found) 0 (sym c.is_empty.ensures ∙ c.if-is_empty.false), found.ok.0) in
    record {
      reports = record {
        is_report = report_of found.items report.findings c.in_ok-found.ensures c.in_ok-report_of.ensures.is_report;
        called = c.in_ok-report_of.ensures.called ∙ ap (λ (names : List (List ℕ)). names ++ list_names (option_copied c.args.list)) (c.in_ok-called.ensures ∙ ap names_of c.as_slice.ensures);
      };
      some = some_reported found.items report.findings some c.in_ok-report_of.ensures.is_report;
    }
