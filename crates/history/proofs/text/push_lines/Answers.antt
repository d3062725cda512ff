use Rattle.std.proofs.Common.{◌≡◌, ◌∙◌, ◌+◌, ◌∷◌, ◌++◌, [], List, take, sym, ap, subst, arith}
use Rattle.std.proofs.lemmas.List.{take_more}
use Rattle.ipdl_base.specs.declared.line.Line.{Line}
use Rattle.history.specs.Noted.{Knows}
use Rattle.history.specs.Text.{transcript_text}
use Rattle.history.proofs.Lines.{line_known, lines_more}
use Rattle.history.proofs.text.push_lines.Goals as goal

pub loop-line-preserved : goal.loop-line-preserved
loop-line-preserved c =
    let schema = c.args.schema.now in
    let lines = c.args.lines.now in
    let i = c.loop-line.line-index in
    let line = c.line-item.result in
    let out = c.loop-line.out.items in
    let before = c.loop-line.invariant in
    let taken : take (i + 1) lines ≡ take i lines ++ line ∷ [] = take_more lines i line (omega arith) ∙ ap (λ (l : Line). take i lines ++ l ∷ []) (sym c.line-item.is) in
    record {
      knows = subst (λ (t : List Line). Knows t c.note.new.self) (sym taken) (c.in_ok-note.ensures (take i lines) before.knows);
      text =
          lines_more schema lines i line out c.push_line.new.out.items (c.args.out.now.items ++ transcript_text schema lines) (omega arith) c.line-item.is
          (c.in_ok-push_line.ensures ∙ ap (λ text. out ++ text) (line_known schema (take i lines) c.loop-line.messages line before.knows)) before.text;
    }
