-- The lines of a transcript do not depend on where the boxes of a schema are.
use Rattle.std.proofs.Common.{◌≡◌, ◌∙◌, ℕ, ℤ, List, [], ◌∷◌, ◌++◌, codes, map, Option, None, Some, refl, sym}
use Rattle.history.specs.Messages.{message_of_number}
use Rattle.history.specs.Text.{returns_named, listed_values, request_text, numbered, refused_text, what_text, line_begin, line_text, lines_text, transcript_text}
use Rattle.ipdl_base.specs.Signatures.{params_of}
use Rattle.ipdl_base.specs.declared.line.Line.{Line}
use Rattle.ipdl_base.specs.declared.line.What.{What}
use Rattle.ipdl_base.specs.declared.line.What.TheVariants as what
use Rattle.ipdl_base.specs.declared.schema.ParamRow.{ParamRow}
use Rattle.ipdl_base.specs.declared.schema.Schema.{Schema}
use Rattle.ipdl_base.specs.declared.value.Values.{Values}
use Rattle.program_schema.specs.Laws.{plain_param_row, plain_schema}
use Rattle.schema_laws.proofs.LinesAlike.{protocol_alike, text_alike, params_alike, returns_alike, listed}
use Rattle.schema_laws.specs.Runs.{TextsAlike}

module _ (s : Schema) where
  pub request_alike : (n : ℕ) (vs : Values) → request_text (plain_schema s) n vs ≡ request_text s n vs
  request_alike n vs = λ i. text_alike s n i ++ listed s (params_of (plain_schema s) n) (params_of s n) vs (params_alike s n) i

  pub named_alike : (number : Option ℕ) → returns_named (plain_schema s) number ≡ map plain_param_row (returns_named s number)
  named_alike None = refl
  named_alike (Some n) = returns_alike s n

  -- the content of a line, where types are the returns of the message of a number
  module _ (others types : ℤ → List ParamRow) (same : (n : ℤ) → others n ≡ map plain_param_row (types n)) where
    given_alike : (n : ℤ) (vs : Values) → listed_values (plain_schema s) (others n) vs ≡ listed_values s (types n) vs
    given_alike n vs = listed s (others n) (types n) vs (same n)

    pub what_alike : (w : What) → what_text (plain_schema s) others w ≡ what_text s types w
    what_alike (what.Send n route message vs) = λ i. numbered (codes "send ") n ++ numbered (codes " to ") route ++ (codes " " ++ request_alike message vs i)
    what_alike (what.Call n transaction route message vs) = λ i. numbered (codes "call ") n ++ numbered (codes "/") transaction ++ numbered (codes " to ") route ++ (codes " " ++ request_alike message vs i)
    what_alike (what.RefusedSend cause message) = λ i. refused_text cause (codes " ") ++ text_alike s message i
    what_alike (what.Resolve n vs) = λ i. numbered (codes "resolve ") n ++ codes " " ++ given_alike n vs i
    what_alike (what.Take n route message vs) = λ i. numbered (codes "take ") n ++ numbered (codes " at ") route ++ (codes " " ++ request_alike message vs i)
    what_alike (what.Drop n route message id) = λ i. numbered (codes "drop ") n ++ numbered (codes " at ") route ++ (codes " " ++ text_alike s message i) ++ numbered (codes " for ") id
    what_alike (what.ResumeOk n vs) = λ i. numbered (codes "resume ") n ++ codes " ok " ++ given_alike n vs i
    what_alike (what.Built id protocol) = λ i. numbered (codes "built ") id ++ codes " " ++ protocol_alike s protocol i
    what_alike (what.AnswerOk n vs) = λ i. numbered (codes "answer ") n ++ codes " ok " ++ given_alike n vs i
    what_alike (what.Resolved n vs) = λ i. numbered (codes "settle ") n ++ codes " resolved " ++ given_alike n vs i
    what_alike w = refl

  line_alike : (before : List Line) (line : Line) → line_text (plain_schema s) before line ≡ line_text s before line
  line_alike before line = λ i.
      line_begin line
      ++ what_alike (λ n. returns_named (plain_schema s) (message_of_number line.side before n)) (λ n. returns_named s (message_of_number line.side before n)) (λ n. named_alike (message_of_number line.side before n)) line.what i
      ++ codes "\n"

  lines_alike : (before lines : List Line) → lines_text (plain_schema s) before lines ≡ lines_text s before lines
  lines_alike before [] = refl
  lines_alike before (line ∷ rest) = λ i. line_alike before line i ++ lines_alike (before ++ line ∷ []) rest i

pub texts_alike : TextsAlike
texts_alike a b alike lines = sym (lines_alike a [] lines) ∙ (λ i. transcript_text (alike i) lines) ∙ lines_alike b [] lines
