-- What the command that audits a text says of a schema.
use Rattle.std.specs.Prelude.{◌≡◌, ℕ, List, [], ◌++◌, Option, codes}
use Rattle.std.specs.Fmt.{decimal}
use Rattle.ipdl_base.specs.declared.finding.Rule.{Rule}
use Rattle.ipdl_base.specs.declared.finding.TheConstants.Rule as rule
use Rattle.ipdl_base.specs.declared.schema.Schema.{Schema}
use Rattle.ipdl_base.specs.Rules.{rule_line}
use Rattle.ipdl_base.specs.Sound.{IsSound}
use Rattle.handler_script.specs.declared.script.Script.{Script}
use Rattle.handler_script.specs.Valid.{IsValid}
use Rattle.transcripts.specs.Compared.{most_text_bytes}
use Rattle.ipdl_top.specs.declared.answer.CommandAnswer.{CommandAnswer}
use Rattle.ipdl_top.specs.declared.audit.outcome.Audit.{Audit}
use Rattle.ipdl_top.specs.declared.audit.outcome.Audit.TheVariants as audit
use Rattle.ipdl_top.specs.declared.status.Status.TheVariants.{BadTranscript, Done}
use Rattle.ipdl_top.specs.Audited.{IsAudited, audited_setting}
use Rattle.ipdl_top.specs.Inputs.{SaysByInput, bad_input_answer}
use Rattle.ipdl_top.specs.Scripts.{SaysByScript}

-- the answer that the text of a file of this name breaks a rule at the line of this number
abbrev pub bad_line_answer : List ℕ → ℕ → Rule → CommandAnswer
bad_line_answer name at rule = bad_input_answer BadTranscript [] (name ++ codes ":" ++ decimal at ++ codes ": " ++ rule_line rule ++ codes "\n")

-- the answer that a run may print a text, which has this number of events
abbrev pub legal_answer : ℕ → CommandAnswer
legal_answer events = record { status = Done; out = codes "legal " ++ decimal events ++ codes "\n"; err = [] }

-- the answer by what an audit says of the text of a file of this name
abbrev pub audit_answer : List ℕ → Audit → CommandAnswer
audit_answer name (audit.Legal events) = legal_answer events
audit_answer name (audit.Early at) = bad_line_answer name at rule.EARLY_END
audit_answer name (audit.NoStep at) = bad_line_answer name at rule.NO_SUCH_STEP

-- The answer is what an audit says of the text: a run of the valid script by the sound schema may print it, with this
-- number of events; or its lines are first lines of what one may print, up to the line that the answer names.
pub record SaysAudited (limit : ℕ) (name text : List ℕ) (schema : Schema) (script : Script) (answer : CommandAnswer) : Type 0 where
  pub sound : IsSound schema
  pub valid : IsValid schema script
  pub found : Audit
  pub audited : IsAudited (audited_setting schema script limit) text found
  pub says : answer ≡ audit_answer name found

-- the answer for a text of this name and its bytes
abbrev pub SaysAuditedOf : ℕ → List ℕ → Option (List ℕ) → Schema → Script → CommandAnswer → Type 0
SaysAuditedOf limit name bytes schema script = SaysByInput BadTranscript most_text_bytes (λ text. SaysAudited limit name text schema script) name bytes

-- The answer is that for a script and a text of these names and their bytes.
abbrev pub SaysAudit : ℕ → List ℕ → Option (List ℕ) → List ℕ → Option (List ℕ) → List ℕ → Schema → CommandAnswer → Type 0
SaysAudit limit script text name bytes file schema answer = SaysByScript (SaysAuditedOf limit name bytes schema) script text file schema answer
