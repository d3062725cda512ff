-- A script has one answer where the command says one thing of it.
use Rattle.std.proofs.Common.{◌≡◌, ◌∙◌, ℕ, List, sym, subst, inl, inr}
use Rattle.std.specs.Prelude.{Option}
use Rattle.ipdl_base.specs.declared.files.TheConstants.{MOST_BYTES}
use Rattle.ipdl_base.specs.declared.schema.Schema.{Schema}
use Rattle.handler_script.specs.declared.script.Script.{Script}
use Rattle.handler_script.specs.Plain.{plain_script}
use Rattle.schema_laws.specs.Frames.{AreSchemasAlike}
use Rattle.schema_laws.specs.Runs.{ScriptsAlike}
use Rattle.ipdl_top.specs.declared.answer.CommandAnswer.{CommandAnswer}
use Rattle.ipdl_top.specs.Scripts.{SaysByScript, SaysOfHeld, SaysOfText, unreadable_answer}
use Rattle.ipdl_top.specs.declared.status.Status.TheVariants.{BadScript}
use Rattle.ipdl_top.proofs.OneFile.{file_one}
use Rattle.ipdl_top.proofs.OneReport.{told_alike}
use Rattle.ipdl_top.proofs.OneTop.{one_top}

-- If one answer has the property, nothing else is said of scripts that are the same up to boxes, under schemas that are so.
abbrev pub SaysOneOfScripts : (CommandAnswer → Type 0) → (Schema → Script → CommandAnswer → Type 0) → Type 0
SaysOneOfScripts IsSuch Says =
    (a b : Schema) → AreSchemasAlike a b → (s t : Script) → plain_script s ≡ plain_script t → (one other : CommandAnswer) → IsSuch one → Says a s one → Says b t other → one ≡ other

-- any answer
abbrev pub IsAny : CommandAnswer → Type 0
IsAny answer = Unit {0}

text_one : ScriptsAlike → (IsSuch : CommandAnswer → Type 0) (Says : Schema → Script → CommandAnswer → Type 0) → SaysOneOfScripts IsSuch Says → (name text : List ℕ) (a b : Schema) → AreSchemasAlike a b → (top : ℕ) (one other : CommandAnswer)
    → IsSuch one → SaysOfText (Says a) name text a top one → SaysOfText (Says b) name text b top other → one ≡ other
text_one scripts IsSuch Says unique name text a b alike top one other such (inl x) (inl y) =
    x.says ∙ told_alike BadScript x.report y.report (scripts.report a b alike text top x.report.findings y.report.findings x.holds.is_report y.holds.is_report) (x.holds.called ∙ sym y.holds.called) ∙ sym y.says
text_one scripts IsSuch Says unique name text a b alike top one other such (inl x) (inr y) = absurd (scripts.either b a (sym alike) text top y.script x.report.findings y.script_of (x.holds.is_report, x.holds.some))
text_one scripts IsSuch Says unique name text a b alike top one other such (inr x) (inl y) = absurd (scripts.either a b alike text top x.script y.report.findings x.script_of (y.holds.is_report, y.holds.some))
text_one scripts IsSuch Says unique name text a b alike top one other such (inr x) (inr y) =
    unique a b alike x.script y.script (scripts.script a b alike text top x.script y.script x.script_of y.script_of) one other such x.says y.says

held_one : ScriptsAlike → (IsSuch : CommandAnswer → Type 0) (Says : Schema → Script → CommandAnswer → Type 0) → SaysOneOfScripts IsSuch Says → (name : List ℕ) (text : Option (List ℕ)) (a b : Schema) → AreSchemasAlike a b → (top : ℕ) (one other : CommandAnswer)
    → IsSuch one → SaysOfHeld (Says a) name text a top one → SaysOfHeld (Says b) name text b top other → one ≡ other
held_one scripts IsSuch Says unique name text a b alike top one other such x y =
    file_one (unreadable_answer name) (unreadable_answer name) MOST_BYTES (λ text. SaysOfText (Says a) name text a top) (λ text. SaysOfText (Says b) name text b top) one other
    (λ text. text_one scripts IsSuch Says unique name text a b alike top one other such) text x y

pub script_one_such : ScriptsAlike → (IsSuch : CommandAnswer → Type 0) (Says : Schema → Script → CommandAnswer → Type 0) → SaysOneOfScripts IsSuch Says → (name : List ℕ) (held : Option (List ℕ)) (file : List ℕ) (a b : Schema) → AreSchemasAlike a b → (one other : CommandAnswer)
    → IsSuch one → SaysByScript (Says a) name held file a one → SaysByScript (Says b) name held file b other → one ≡ other
script_one_such scripts IsSuch Says unique name held file a b alike one other such x y =
    let top : x.top ≡ y.top = one_top file a b alike x.top y.top x.is_top y.is_top in
    held_one scripts IsSuch Says unique name held a b alike y.top one other such (subst (λ (top : ℕ). SaysOfHeld (Says a) name held a top one) top x.says) y.says

pub script_one : ScriptsAlike → (Says : Schema → Script → CommandAnswer → Type 0) → SaysOneOfScripts IsAny Says → (name : List ℕ) (held : Option (List ℕ)) (file : List ℕ) (a b : Schema) → AreSchemasAlike a b → (one other : CommandAnswer)
    → SaysByScript (Says a) name held file a one → SaysByScript (Says b) name held file b other → one ≡ other
script_one scripts Says unique name held file a b alike one other x y = script_one_such scripts IsAny Says unique name held file a b alike one other tt x y
