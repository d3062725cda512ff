-- A summary counts the same wherever the boxes of values lie.
use Rattle.std.proofs.Common.{◌≡◌, ◌∙◌, ◌&&◌, ◌+◌, ℕ, not, Bool, List, [], ◌∷◌, map, cond, refl, ap}
use Rattle.std.specs.List.{count_by, fold}
use Rattle.end_parts.specs.PlainLines.{plain_line, plain_what}
use Rattle.ipdl_base.specs.Lines.{is_effect, same_side}
use Rattle.ipdl_base.specs.declared.kinds.Side.{Side}
use Rattle.ipdl_base.specs.declared.kinds.Side.TheVariants as side
use Rattle.ipdl_base.specs.declared.line.Line.{Line}
use Rattle.ipdl_base.specs.declared.line.What.{What}
use Rattle.ipdl_base.specs.declared.line.What.TheVariants as what
use Rattle.generated_case.specs.Counts.{counts_of, is_built, is_dropped, is_fallen, is_replaced, is_settled, is_step_of, is_taken}

-- a test that looks at no box counts the same, after any count
folds_plain : (test : Line → Bool) → ((line : Line) → test (plain_line line) ≡ test line) → (n : ℕ) (lines : List Line) → fold (λ a x. a + cond (test x) 1 0) n (map plain_line lines) ≡ fold (λ a x. a + cond (test x) 1 0) n lines
folds_plain test blind n [] = refl
folds_plain test blind n (line ∷ lines) =
    folds_plain test blind (n + cond (test (plain_line line)) 1 0) lines ∙ ap (λ (here : Bool). fold (λ a x. a + cond (test x) 1 0) (n + cond here 1 0) lines) (blind line)

pub counts_plain : (test : Line → Bool) → ((line : Line) → test (plain_line line) ≡ test line) → (lines : List Line) → count_by test (map plain_line lines) ≡ count_by test lines
counts_plain test blind lines = folds_plain test blind 0 lines

effect_plain : (says : What) → is_effect (plain_what says) ≡ is_effect says
effect_plain (what.Send n route number vs) = refl
effect_plain (what.Call n transaction route number vs) = refl
effect_plain (what.Resolve n vs) = refl
effect_plain (what.Take n route number vs) = refl
effect_plain (what.ResumeOk n vs) = refl
effect_plain (what.AnswerOk n vs) = refl
effect_plain (what.Resolved n vs) = refl
effect_plain _ = refl

taken_plain : (says : What) → is_taken (plain_what says) ≡ is_taken says
taken_plain (what.Send n route number vs) = refl
taken_plain (what.Call n transaction route number vs) = refl
taken_plain (what.Resolve n vs) = refl
taken_plain (what.Take n route number vs) = refl
taken_plain (what.ResumeOk n vs) = refl
taken_plain (what.AnswerOk n vs) = refl
taken_plain (what.Resolved n vs) = refl
taken_plain _ = refl

dropped_plain : (says : What) → is_dropped (plain_what says) ≡ is_dropped says
dropped_plain (what.Send n route number vs) = refl
dropped_plain (what.Call n transaction route number vs) = refl
dropped_plain (what.Resolve n vs) = refl
dropped_plain (what.Take n route number vs) = refl
dropped_plain (what.ResumeOk n vs) = refl
dropped_plain (what.AnswerOk n vs) = refl
dropped_plain (what.Resolved n vs) = refl
dropped_plain _ = refl

replaced_plain : (says : What) → is_replaced (plain_what says) ≡ is_replaced says
replaced_plain (what.Send n route number vs) = refl
replaced_plain (what.Call n transaction route number vs) = refl
replaced_plain (what.Resolve n vs) = refl
replaced_plain (what.Take n route number vs) = refl
replaced_plain (what.ResumeOk n vs) = refl
replaced_plain (what.AnswerOk n vs) = refl
replaced_plain (what.Resolved n vs) = refl
replaced_plain _ = refl

settled_plain : (says : What) → is_settled (plain_what says) ≡ is_settled says
settled_plain (what.Send n route number vs) = refl
settled_plain (what.Call n transaction route number vs) = refl
settled_plain (what.Resolve n vs) = refl
settled_plain (what.Take n route number vs) = refl
settled_plain (what.ResumeOk n vs) = refl
settled_plain (what.AnswerOk n vs) = refl
settled_plain (what.Resolved n vs) = refl
settled_plain _ = refl

built_plain : (says : What) → is_built (plain_what says) ≡ is_built says
built_plain (what.Send n route number vs) = refl
built_plain (what.Call n transaction route number vs) = refl
built_plain (what.Resolve n vs) = refl
built_plain (what.Take n route number vs) = refl
built_plain (what.ResumeOk n vs) = refl
built_plain (what.AnswerOk n vs) = refl
built_plain (what.Resolved n vs) = refl
built_plain _ = refl

fallen_plain : (says : What) → is_fallen (plain_what says) ≡ is_fallen says
fallen_plain (what.Send n route number vs) = refl
fallen_plain (what.Call n transaction route number vs) = refl
fallen_plain (what.Resolve n vs) = refl
fallen_plain (what.Take n route number vs) = refl
fallen_plain (what.ResumeOk n vs) = refl
fallen_plain (what.AnswerOk n vs) = refl
fallen_plain (what.Resolved n vs) = refl
fallen_plain _ = refl

step_plain : (end : Side) (line : Line) → is_step_of end (plain_line line) ≡ is_step_of end line
step_plain end line = ap (λ (b : Bool). same_side line.side end && not b) (effect_plain line.what)

-- so are all counts
pub summed_plain : (lines : List Line) → counts_of (map plain_line lines) ≡ counts_of lines
summed_plain lines = λ i. record {
  parent_steps = counts_plain (is_step_of side.Parent) (step_plain side.Parent) lines i;
  child_steps = counts_plain (is_step_of side.Child) (step_plain side.Child) lines i;
  taken = counts_plain (λ line. is_taken line.what) (λ line. taken_plain line.what) lines i;
  dropped = counts_plain (λ line. is_dropped line.what) (λ line. dropped_plain line.what) lines i;
  replaced = counts_plain (λ line. is_replaced line.what) (λ line. replaced_plain line.what) lines i;
  settled = counts_plain (λ line. is_settled line.what) (λ line. settled_plain line.what) lines i;
  built = counts_plain (λ line. is_built line.what) (λ line. built_plain line.what) lines i;
  fallen = counts_plain (λ line. is_fallen line.what) (λ line. fallen_plain line.what) lines i;
}
