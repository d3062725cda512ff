use Rattle.std.proofs.Common.{◌≡◌, ◌++◌, take, drop}
use Rattle.history.specs.Noted.{Knows}
use Rattle.history.specs.Text.{lines_text, transcript_text}
use Rattle.history.proofs.text.push_lines.Given as goal

-- the text so far, continued with that of the remaining lines, is the whole, and the messages of the lines so far are
-- known
abbrev pub invariant-loop-line : goal.invariant-loop-line
invariant-loop-line l = record {
  knows : Knows (take l.line-index l.lines) l.messages;
  text : l.out.items ++ lines_text l.schema (take l.line-index l.lines) (drop l.line-index l.lines) ≡ l.fn.out.items ++ transcript_text l.schema l.lines;
}
