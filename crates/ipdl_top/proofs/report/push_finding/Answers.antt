use Rattle.std.proofs.Common.{◌≡◌, ℕ, List, [], ◌∷◌, ◌++◌, codes, subst, ◌∙◌, ap, append_assoc, rules}
use Rattle.std.specs.Prelude.{OnOk}
use Rattle.std.specs.Fmt.{decimal}
use Rattle.ipdl_base.specs.Rules.{rule_line}
use Rattle.ipdl_top.specs.Report.{finding_line}
use Rattle.ipdl_top.proofs.report.push_finding.Goals as goal

-- a line after a name
abbrev line_of : List ℕ → List ℕ → List ℕ → List ℕ → List ℕ
line_of name line column rule = name ++ codes ":" ++ line ++ codes ":" ++ column ++ codes ": " ++ rule ++ codes "\n"

-- the parts of a line, grouped from the right
regrouped : (text name line column rule : List ℕ) → (text ++ name) ++ (58 ∷ (line ++ 58 ∷ (column ++ 58 ∷ 32 ∷ (rule ++ 10 ∷ [])))) ≡ text ++ line_of name line column rule
regrouped text name line column rule = simp append_assoc

pub returns : goal.returns
returns c =
    let f = c.args.finding.now in
    let text = c.args.text.now.items in
    let name = c.name_of.result.now in
    let line = decimal f.place.line in
    let column = decimal f.place.column in
    let rule = rule_line f.rule in
    let P : List ℕ → Type 0 = λ all. OnOk c.extend_from_slice-2.result (c.extend_from_slice-2.new.self.items ≡ all) in
    let pushed : P (c.extend_from_slice.new.self.items ++ c.as_bytes.result.now) = search rules in
    let e : c.extend_from_slice.new.self.items ++ c.as_bytes.result.now ≡ text ++ finding_line c.args.names.now f =
    ap (λ (xs : List ℕ). xs ++ c.as_bytes.result.now) c.in_ok-extend_from_slice.ensures.items
    ∙ ap (λ (xs : List ℕ). (text ++ name) ++ xs) (c.as_bytes.ensures.value ∙ c.in_ok-printed.ensures.ok)
    ∙ regrouped text name line column rule
    ∙ ap (λ (n : List ℕ). text ++ line_of n line column rule) c.name_of.ensures in
    subst P e pushed
