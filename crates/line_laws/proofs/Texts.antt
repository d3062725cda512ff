-- The text of lines does not depend on where boxes lie.
use Rattle.std.proofs.Common.{◌≡◌, ℕ, ℤ, Bool, true, false, if◌then◌else◌, List, [], ◌∷◌, ◌++◌, map, Option, Some, None, is_some, option_and_then, codes, refl, sym, ap, ◌∙◌}
use Rattle.std.proofs.Math.Path.{fun_ext}
use Rattle.std.specs.Ordering.{int_eq}
use Rattle.std.proofs.lemmas.List.{map-append}
use Rattle.ipdl_base.specs.declared.kinds.Side.{Side}
use Rattle.ipdl_base.specs.declared.line.Line.{Line}
use Rattle.ipdl_base.specs.declared.line.What.{What}
use Rattle.ipdl_base.specs.declared.line.What.TheVariants as what
use Rattle.ipdl_base.specs.declared.schema.ParamRow.{ParamRow}
use Rattle.ipdl_base.specs.declared.schema.Schema.{Schema}
use Rattle.ipdl_base.specs.declared.value.Values.{Values}
use Rattle.ipdl_base.specs.Lines.{same_side, is_effect}
use Rattle.ipdl_base.specs.Plain.{plain_values}
use Rattle.ipdl_base.specs.Signatures.{params_of}
use Rattle.value_types.specs.ValueText.{values_text}
use Rattle.value_types.specs.Laws.{BoxesSayNothing}
use Rattle.history.specs.Messages.{given, message_at, message_of_number}
use Rattle.history.specs.Text.{message_text, numbered, returns_named, listed_values, request_text, tailed, what_text, line_begin, line_saying, line_text, lines_text}
use Rattle.history.specs.Words.{side_word}
use Rattle.end_parts.specs.PlainLines.{plain_what, plain_line}
use Rattle.line_laws.specs.Laws.{TextsSeeNoBox}

listed : BoxesSayNothing → (schema : Schema) (types : List ParamRow) (vs : Values) → listed_values schema types (plain_values vs) ≡ listed_values schema types vs
listed says schema types vs = ap (λ text. codes "(" ++ text ++ codes ")") (says.texts schema types vs)

request : BoxesSayNothing → (schema : Schema) (number : ℕ) (vs : Values) → request_text schema number (plain_values vs) ≡ request_text schema number vs
request says schema number vs = ap (λ text. message_text schema number ++ text) (listed says schema (params_of schema number) vs)

pub text-plain : BoxesSayNothing → (schema : Schema) (types : ℤ → List ParamRow) (w : What) → what_text schema types (plain_what w) ≡ what_text schema types w
text-plain says schema types (what.Send n route number vs) = ap (λ text. numbered (codes "send ") n ++ numbered (codes " to ") route ++ (codes " " ++ text)) (request says schema number vs)
text-plain says schema types (what.Call n transaction route number vs) = ap (λ text. numbered (codes "call ") n ++ numbered (codes "/") transaction ++ numbered (codes " to ") route ++ (codes " " ++ text)) (request says schema number vs)
text-plain says schema types (what.Resolve n vs) = ap (tailed (codes "resolve ") n (codes " ")) (listed says schema (types n) vs)
text-plain says schema types (what.Take n route number vs) = ap (λ text. numbered (codes "take ") n ++ numbered (codes " at ") route ++ (codes " " ++ text)) (request says schema number vs)
text-plain says schema types (what.ResumeOk n vs) = ap (tailed (codes "resume ") n (codes " ok ")) (listed says schema (types n) vs)
text-plain says schema types (what.AnswerOk n vs) = ap (tailed (codes "answer ") n (codes " ok ")) (listed says schema (types n) vs)
text-plain says schema types (what.Resolved n vs) = ap (tailed (codes "settle ") n (codes " resolved ")) (listed says schema (types n) vs)
text-plain says schema types _ = refl

given-plain : (w : What) → given (plain_what w) ≡ given w
given-plain (what.Send n route number vs) = refl
given-plain (what.Call n transaction route number vs) = refl
given-plain (what.Resolve n vs) = refl
given-plain (what.Take n route number vs) = refl
given-plain (what.ResumeOk n vs) = refl
given-plain (what.AnswerOk n vs) = refl
given-plain (what.Resolved n vs) = refl
given-plain _ = refl

pub effect-plain : (w : What) → is_effect (plain_what w) ≡ is_effect w
effect-plain (what.Send n route number vs) = refl
effect-plain (what.Call n transaction route number vs) = refl
effect-plain (what.Resolve n vs) = refl
effect-plain (what.Take n route number vs) = refl
effect-plain (what.ResumeOk n vs) = refl
effect-plain (what.AnswerOk n vs) = refl
effect-plain (what.Resolved n vs) = refl
effect-plain _ = refl

at-plain : (end : Side) (n : ℤ) (line : Line) → message_at end n (plain_line line) ≡ message_at end n line
at-plain end n line = ap (λ g. if same_side line.side end then option_and_then (λ (g : ℤ × ℕ). if int_eq g.0 n then Some g.1 else None) g else None) (given-plain line.what)

pub message-plain : (end : Side) (lines : List Line) (n : ℤ) → message_of_number end (map plain_line lines) n ≡ message_of_number end lines n
message-plain end [] n = refl
message-plain end (line ∷ rest) n =
    ap (λ found. if is_some found then found else message_at end n (plain_line line)) (message-plain end rest n)
    ∙ ap (λ found. if is_some (message_of_number end rest n) then message_of_number end rest n else found) (at-plain end n line)

saying-plain : BoxesSayNothing → (schema : Schema) (types : ℤ → List ParamRow) (line : Line) → line_saying schema types (plain_line line) ≡ line_saying schema types line
saying-plain says schema types line =
    ap (λ (b : Bool). (if b then codes "  " else side_word line.side ++ codes " ") ++ what_text schema types (plain_what line.what) ++ codes "\n") (effect-plain line.what)
    ∙ ap (λ text. line_begin line ++ text ++ codes "\n") (text-plain says schema types line.what)

pub line-plain : BoxesSayNothing → (schema : Schema) (before : List Line) (line : Line) → line_text schema (map plain_line before) (plain_line line) ≡ line_text schema before line
line-plain says schema before line =
    saying-plain says schema (λ n. returns_named schema (message_of_number line.side (map plain_line before) n)) line
    ∙ ap (λ (types : ℤ → List ParamRow). line_saying schema types line) (fun_ext (λ n. ap (returns_named schema) (message-plain line.side before n)))

lines-plain : BoxesSayNothing → (schema : Schema) (before lines : List Line) → lines_text schema (map plain_line before) (map plain_line lines) ≡ lines_text schema before lines
lines-plain says schema before [] = refl
lines-plain says schema before (line ∷ rest) =
    ap (λ text. text ++ lines_text schema (map plain_line before ++ plain_line line ∷ []) (map plain_line rest)) (line-plain says schema before line)
    ∙ ap (λ ls. line_text schema before line ++ lines_text schema ls (map plain_line rest)) (sym (map-append plain_line before (line ∷ [])))
    ∙ ap (λ text. line_text schema before line ++ text) (lines-plain says schema (before ++ line ∷ []) rest)

pub texts_see_no_box : BoxesSayNothing → TextsSeeNoBox
texts_see_no_box says schema lines = lines-plain says schema [] lines
