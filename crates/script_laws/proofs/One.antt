-- A text has at most one answer.
use Rattle.std.proofs.Common.{◌≡◌, ◌≢◌, ℕ, List, [], ◌∷◌, refl, sym, ap, ◌∙◌, subst, arith}
use Rattle.std.specs.List.{Contains}
use Rattle.ipdl_base.specs.declared.finding.Finding.{Finding}
use Rattle.ipdl_base.specs.declared.schema.Schema.{Schema}
use Rattle.findings.proofs.Reports.{same_report}
use Rattle.script_reader.specs.declared.line.LineReading.{LineReading}
use Rattle.script_reader.specs.Lines.{lines_of, AreRead, IsReading}
use Rattle.script_reader.proofs.Unique.{one_reading}
use Rattle.handler_script.specs.declared.action.Block.{Block}
use Rattle.handler_script.specs.declared.script.Script.{Script}
use Rattle.handler_script.specs.declared.script.ScriptFault.TheVariants.{Broken}
use Rattle.handler_script.specs.Broken.{IsBroken, IsReport}
use Rattle.handler_script.specs.Faults.{IsFault}
use Rattle.handler_script.specs.Plain.{plain_script}
use Rattle.handler_script.specs.ScriptOf.{IsScriptOf, blocks_of}
use Rattle.script_laws.specs.Laws.{OneAnswer}
use Rattle.script_laws.proofs.Kept.{plain_lines, broken_plain, broken_again, blocks_kept}

-- a text has one list of readings, up to where boxes lie
read_alike : (lines : List (List ℕ)) (xs ys : List LineReading) → AreRead lines xs → AreRead lines ys → plain_lines xs ≡ plain_lines ys
read_alike [] [] [] h k = refl
read_alike [] [] (y ∷ ys) h k = absurd k
read_alike [] (x ∷ xs) ys h k = absurd h
read_alike (l ∷ lines) [] ys h k = absurd h
read_alike (l ∷ lines) (x ∷ xs) [] h k = absurd k
read_alike (l ∷ lines) (x ∷ xs) (y ∷ ys) h k = λ i. one_reading l x y h.0 k.0 i ∷ read_alike lines xs ys h.1 k.1 i

-- it breaks the same rules, however it is read
broken_alike : (text : List ℕ) (schema : Schema) (top : ℕ) (xs ys : List LineReading) → IsReading text xs → IsReading text ys → (f : Finding) → IsBroken schema top xs f → IsBroken schema top ys f
broken_alike text schema top xs ys h k f broken =
    let P : List LineReading → Type 0 = λ lines. IsBroken schema top lines f in
    broken_again schema top ys f (subst P (read_alike (lines_of text) xs ys h k) (broken_plain schema top xs f broken))

one_script : (text : List ℕ) (schema : Schema) (top : ℕ) (a b : Script) → IsScriptOf text schema top a → IsScriptOf text schema top b → plain_script a ≡ plain_script b
one_script text schema top a b x y =
    let same : blocks_of schema x.readings ≡ blocks_of schema y.readings =
    sym (blocks_kept schema x.readings) ∙ (ap (blocks_of schema) (read_alike (lines_of text) x.readings y.readings x.is_reading y.is_reading) ∙ blocks_kept schema y.readings)
    in
    x.is ∙ (ap (λ (blocks : List Block). let s : Script = record { top = top; blocks = blocks } in s) same ∙ sym y.is)

one_report : (text : List ℕ) (schema : Schema) (top : ℕ) (a b : List Finding) → IsReport text schema top a → IsReport text schema top b → a ≡ b
one_report text schema top a b x y =
    same_report {Broken = IsBroken schema top x.readings} a b x.report (record {
      ordered = y.report.ordered;
      exact = λ f. (
        λ h. broken_alike text schema top y.readings x.readings y.is_reading x.is_reading f ((y.report.exact f).0 h),
        λ h. (y.report.exact f).1 (broken_alike text schema top x.readings y.readings x.is_reading y.is_reading f h),
      );
    })

-- a list that is not empty has an element
some_element : (findings : List Finding) → findings ≢ [] → (f : Finding) × Contains findings f
some_element [] h = absurd (h refl)
some_element (f ∷ findings) h = (f, (0, omega arith, refl))

either : (text : List ℕ) (schema : Schema) (top : ℕ) (script : Script) (findings : List Finding) → IsScriptOf text schema top script → ¬ IsFault text schema top (Broken findings)
either text schema top script findings x fault =
    let y = fault.0 in
    let found = some_element findings fault.1 in
    x.kept found.0 (broken_alike text schema top y.readings x.readings y.is_reading x.is_reading found.0 ((y.report.exact found.0).0 found.1))

pub one_answer : OneAnswer
one_answer = record { script = one_script; report = one_report; either = either }
