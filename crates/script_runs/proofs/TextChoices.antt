-- What all the lines of transcripts show together.
use Rattle.std.proofs.Common.{◌≡◌, ℕ, ℤ, Bool, true, false, if◌then◌else◌, List, [], ◌∷◌, ◌++◌, codes, Option, Some, None, refl, sym, ap, ◌∙◌}
use Rattle.std.specs.List.{cons_option, filter_map}
use Rattle.ipdl_base.specs.declared.line.Line.{Line}
use Rattle.ipdl_base.specs.declared.schema.Schema.{Schema}
use Rattle.ipdl_base.specs.Lines.{is_effect}
use Rattle.history.specs.Messages.{message_of_number}
use Rattle.history.specs.Text.{line_text, returns_named, what_text}
use Rattle.history.specs.Words.{side_word}
use Rattle.script_steps.specs.Choices.{Choice, choice_of, choices_of, is_delivery_line}
use Rattle.script_runs.specs.Replays.{choices_told, told_then}
use Rattle.script_runs.specs.Told.{choice_told}
use Rattle.script_runs.proofs.Tells.{line_texts_tell_choices}
use Rattle.transcripts.specs.Printed.{line_texts}
use Rattle.transcripts.specs.Told.{is_effect_text}

pub texts-choices : (schema : Schema) (before lines : List Line) → filter_map choice_told (line_texts schema before lines) ≡ choices_of lines
texts-choices schema before [] = refl
texts-choices schema before (line ∷ lines) =
    ap (λ (o : Option Choice). cons_option o (filter_map choice_told (line_texts schema (before ++ line ∷ []) lines))) (line_texts_tell_choices schema before line)
    ∙ ap (cons_option (choice_of line)) (texts-choices schema (before ++ line ∷ []) lines)

-- What lines show up to the first that shows nothing

no-choice : (b : Bool) (choice : Choice) → (if b then None else Some choice) ≡ None → b ≡ true
no-choice true choice h = refl
no-choice false choice h = cc

effect-begins : (b : Bool) (begun said feed : List ℕ) → b ≡ true → is_effect_text ((if b then codes "  " else begun) ++ said ++ feed) ≡ true
effect-begins true begun said feed h = refl
effect-begins false begun said feed h = cc

effect-text : (schema : Schema) (before : List Line) (line : Line) → choice_of line ≡ None → is_effect_text (line_text schema before line) ≡ true
effect-text schema before line h =
    effect-begins (is_effect line.what) (side_word line.side ++ codes " ") (what_text schema (λ n. returns_named schema (message_of_number line.side before n)) line.what) (codes "\n")
    (no-choice (is_effect line.what) (record { side = line.side; delivers = is_delivery_line line.what }) h)

told-found : (found : Option Choice) (b : Bool) (others : List Choice) → (found ≡ None → b ≡ true) → told_then found b others ≡ cons_option found others
told-found (Some choice) b others h = refl
told-found None true others h = refl
told-found None false others h = let k : false ≡ true = h refl in cc

told-more : (text : List ℕ) (lines : List (List ℕ)) (found : Option Choice) → choice_told text ≡ found → (found ≡ None → is_effect_text text ≡ true) → choices_told (text ∷ lines) ≡ cons_option found (choices_told lines)
told-more text lines found is effect = ap (λ (o : Option Choice). told_then o (is_effect_text text) (choices_told lines)) is ∙ told-found found (is_effect_text text) (choices_told lines) effect

-- the choices that are shown by what is printed, and then by what follows
pub texts-told : (schema : Schema) (before lines : List Line) (rest : List (List ℕ)) → choices_told (line_texts schema before lines ++ rest) ≡ choices_of lines ++ choices_told rest
texts-told schema before [] rest = refl
texts-told schema before (line ∷ lines) rest =
    told-more (line_text schema before line) (line_texts schema (before ++ line ∷ []) lines ++ rest) (choice_of line) (line_texts_tell_choices schema before line) (effect-text schema before line)
    ∙ ap (cons_option (choice_of line)) (texts-told schema (before ++ line ∷ []) lines rest) ∙ cons-append (choice_of line) (choices_of lines) (choices_told rest)
  where
    cons-append : (o : Option Choice) (xs ys : List Choice) → cons_option o (xs ++ ys) ≡ cons_option o xs ++ ys
    cons-append None xs ys = refl
    cons-append (Some x) xs ys = refl
