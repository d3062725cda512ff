-- The text of lines, line by line.
use Rattle.std.proofs.Common.{◌≡◌, ◌∙◌, ℕ, ℤ, Option, ◌+◌, ◌<◌, List, [], ◌∷◌, ◌++◌, Result, Ok, Err, is_ok, cond, length, take, drop, get_or, append_assoc, sym, ap}
use Rattle.std.specs.Prelude.{OnOk}
use Rattle.std.proofs.lemmas.List.{take_more, drop_more}
use Rattle.std.proofs.Math.Path.{fun_ext}
use Rattle.ipdl_base.specs.declared.schema.Schema.{Schema}
use Rattle.ipdl_base.specs.declared.line.Line.{Line}
use Rattle.history.specs.declared.messages.Messages.{Messages}
use Rattle.history.specs.Messages.{message_of_number}
use Rattle.history.specs.Noted.{Knows, noted_at}
use Rattle.history.specs.Text.{line_saying, line_text, lines_text, returns_named}

-- a piece that is appended to others, where there was room
pub put_one : {X E : Type 0} (result : Result X E) (out piece new : List ℕ) → new ≡ cond (is_ok result) (out ++ piece) out → OnOk result (new ≡ out ++ piece)
put_one (Ok x) out piece new is = is
put_one (Err e) out piece new is = tt

three : (out one two last a b d : List ℕ) → a ≡ out ++ one → b ≡ a ++ two → d ≡ b ++ last → d ≡ out ++ (one ++ two ++ last)
three out one two last a b d first second third = rw (third, second, first) (simp append_assoc)

-- three pieces, one after another
pub put_three : {X E : Type 0} (result : Result X E) (out one two last a b d : List ℕ) → a ≡ out ++ one → b ≡ a ++ two → OnOk result (d ≡ b ++ last) → OnOk result (d ≡ out ++ (one ++ two ++ last))
put_three (Ok x) out one two last a b d first second third = three out one two last a b d first second third
put_three (Err e) out one two last a b d first second third = tt

-- one more line is written, and the rest is left
pub lines_more : (schema : Schema) (lines : List Line) (i : ℕ) (line : Line) (out more whole : List ℕ) → i < length lines → line ≡ get_or lines i line
    → more ≡ out ++ line_text schema (take i lines) line → out ++ lines_text schema (take i lines) (drop i lines) ≡ whole
    → more ++ lines_text schema (take (i + 1) lines) (drop (i + 1) lines) ≡ whole
lines_more schema lines i line out more whole within is written before =
    let left : List Line = drop (i + 1) lines in
    let first : drop i lines ≡ line ∷ left = drop_more lines i line within ∙ ap (λ (l : Line). l ∷ left) (sym is) in
    let taken : take (i + 1) lines ≡ take i lines ++ line ∷ [] = take_more lines i line within ∙ ap (λ (l : Line). take i lines ++ l ∷ []) (sym is) in
    let rest : List ℕ = lines_text schema (take i lines ++ line ∷ []) left in
    ap (λ (t : List Line). more ++ lines_text schema t left) taken
    ∙ (ap (λ (m : List ℕ). m ++ rest) written
    ∙ (append_assoc out (line_text schema (take i lines) line) rest
    ∙ (ap (λ (d : List Line). out ++ lines_text schema (take i lines) d) (sym first) ∙ before)))

-- the messages that are known after some lines are those that the lines give, so the line is the same
pub line_known : (schema : Schema) (lines : List Line) (messages : Messages) (line : Line) → Knows lines messages
    → line_saying schema (λ n. returns_named schema (noted_at messages line.side n)) line ≡ line_text schema lines line
line_known schema lines messages line knows =
    let known : noted_at messages line.side ≡ message_of_number line.side lines = fun_ext (knows line.side) in
    ap (λ (named : ℤ → Option ℕ). line_saying schema (λ n. returns_named schema (named n)) line) known
