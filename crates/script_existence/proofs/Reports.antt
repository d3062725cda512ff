-- The findings of a text are listed, so the report of the rules that it breaks exists.
use Rattle.std.proofs.Common.{◌≡◌, ◌≢◌, ℕ, ◌+◌, List, [], ◌∷◌, map, take, drop, slice_get, Contains, inl, inr, refl, ap}
use Rattle.ipdl_base.specs.declared.finding.Finding.{Finding}
use Rattle.ipdl_base.specs.declared.finding.Place.{Place}
use Rattle.ipdl_base.specs.declared.finding.Rule.{Rule}
use Rattle.ipdl_base.specs.declared.finding.TheConstants.Rule as rule
use Rattle.ipdl_base.specs.declared.schema.ProtocolRow.{ProtocolRow}
use Rattle.ipdl_base.specs.declared.schema.Schema.{Schema}
use Rattle.findings.specs.Report as report
use Rattle.script_reader.specs.declared.line.LineReading.{LineReading}
use Rattle.handler_script.specs.Blocks.{statements}
use Rattle.handler_script.specs.Broken.{LineBreaks, line_place, whole_place, HasManager, IsBrokenAt, IsBrokenByLine, IsBrokenByTop, IsBroken}
use Rattle.report_existence.specs.Laws.{IsListed}
use Rattle.report_existence.proofs.Finite.{contains_none, contains_more, contains_cases, same_places, either_place, when, of_rule, of_some}
use Rattle.report_existence.proofs.Sorted.{report_of}
use Rattle.script_existence.specs.Laws.{ReportsExist}
use Rattle.script_existence.proofs.Decided.{IsDecided, some_decided}
use Rattle.script_existence.proofs.LineReader.{texts_have_readings}
use Rattle.script_existence.proofs.RulesListed.{line_listed}

-- Findings at one place

abbrev at_place : Place → Rule → Finding
at_place place rule = record { place = place; rule = rule }

place_to : (place : Place) (rules : List Rule) (f : Finding) → Contains (map (at_place place) rules) f → (place ≡ f.place) × Contains rules f.rule
place_to place [] f c = absurd (contains_none f c)
place_to place (r ∷ rs) f c = elim (contains_cases (at_place place r) (map (at_place place) rs) f c) [
  | inl e ↦ (ap (λ (g : Finding). g.place) e, contains_more r rs f.rule (inl (ap (λ (g : Finding). g.rule) e)))
  | inr more ↦ (let h = place_to place rs f more in (h.0, contains_more r rs f.rule (inr h.1)))
]

place_from : (place : Place) (rules : List Rule) (f : Finding) → place ≡ f.place → Contains rules f.rule → Contains (map (at_place place) rules) f
place_from place [] f e c = absurd (contains_none f.rule c)
place_from place (r ∷ rs) f e c = elim (contains_cases r rs f.rule c) [
  | inl is ↦ contains_more (at_place place r) (map (at_place place) rs) f (inl (λ i. record { place = e i; rule = is i }))
  | inr more ↦ contains_more (at_place place r) (map (at_place place) rs) f (inr (place_from place rs f e more))
]

-- the findings at a place whose rules are listed
of_place : (place : Place) (P : Rule → Type 0) → IsListed P → IsListed (λ (f : Finding). (place ≡ f.place) × P f.rule)
of_place place P (rules, exact) = (
  map (at_place place) rules,
  λ f. (
    λ c. let h = place_to place rules f c in (h.0, (exact f.rule).0 h.1),
    λ h. place_from place rules f h.0 ((exact f.rule).1 h.1),
  ),
)

-- The findings of lines

by_lines : (schema : Schema) (readings : List LineReading) → IsListed (IsBrokenByLine schema readings)
by_lines schema readings =
    of_some readings (λ i x f. IsBrokenAt schema readings f i x)
    (λ i x. of_place (line_place (i + 1)) (λ r. LineBreaks schema r (statements (take i readings)) x (statements (drop (i + 1) readings))) (line_listed schema (statements (take i readings)) x (statements (drop (i + 1) readings))))

-- and of the top protocol

some_or_none : (managers : List ℕ) → IsDecided (managers ≢ [])
some_or_none [] = inr (λ some. some refl)
some_or_none (m ∷ ms) = inl (λ e. let no : ⊥ = cc in no)

manager_decided : (schema : Schema) (top : ℕ) → IsDecided (HasManager schema top)
manager_decided schema top = some_decided (λ (protocol : ProtocolRow). protocol.managers ≢ []) (λ protocol. some_or_none protocol.managers) (slice_get schema.protocols top)

by_top : (schema : Schema) (top : ℕ) → IsListed (IsBrokenByTop schema top)
by_top schema top =
    same_places (λ (f : Finding). (f.rule ≡ rule.NOT_A_TOP_PROTOCOL) × ((whole_place ≡ f.place) × HasManager schema top)) (IsBrokenByTop schema top)
    (λ f h. (h.0, h.1.0, h.1.1)) (λ f h. (h.0, (h.1, h.2)))
    (of_rule rule.NOT_A_TOP_PROTOCOL (λ place. (whole_place ≡ place) × HasManager schema top) (when (HasManager schema top) (manager_decided schema top) whole_place))

-- the report on readings
pub readings_have_reports : (schema : Schema) (top : ℕ) (readings : List LineReading) → (findings : List Finding) × report.IsReport (IsBroken schema top readings) findings
readings_have_reports schema top readings = report_of (IsBroken schema top readings) (either_place (IsBrokenByTop schema top) (IsBrokenByLine schema readings) (by_top schema top) (by_lines schema readings))

pub reports_exist : ReportsExist
reports_exist text schema top =
    let read = texts_have_readings text in
    let found = readings_have_reports schema top read.0 in
    (found.0, record { readings = read.0; is_reading = read.1; report = found.1 })
