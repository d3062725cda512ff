-- The laws of histories do not depend on where boxes lie.
use Rattle.std.proofs.Common.{◌≡◌, Bool, true, false, ◌&&◌, if◌then◌else◌, List, [], ◌∷◌, ◌++◌, map, Option, refl, sym, ap, ◌∙◌}
use Rattle.std.proofs.lemmas.List.{map-append}
use Rattle.ipdl_base.specs.declared.kinds.Side.{Side}
use Rattle.ipdl_base.specs.declared.kinds.Side.TheVariants as side
use Rattle.ipdl_base.specs.declared.line.Line.{Line}
use Rattle.ipdl_base.specs.declared.line.What.{What}
use Rattle.ipdl_base.specs.declared.line.What.TheVariants as what
use Rattle.ipdl_base.specs.declared.schema.Schema.{Schema}
use Rattle.ipdl_base.specs.Lines.{is_effect}
use Rattle.history_reading.specs.declared.law.Law.{Law}
use Rattle.history_reading.specs.declared.law.Law.TheVariants as law
use Rattle.history_reading.specs.declared.parts.CallFrame.{CallFrame}
use Rattle.history_reading.specs.EndReading.{EndReading}
use Rattle.history_reading.specs.Holds.{is_readable_what, is_of_event, is_readable, each_line, is_readable_list, line_test, moment_test, moment_before, passes, each_passes, holds_of}
use Rattle.history_reading.specs.Reading.{Reading, read, end_reading_of, other_of}
use Rattle.history_reading.specs.Settled.{settled_moment}
use Rattle.end_parts.specs.PlainLines.{plain_what, plain_line}
use Rattle.line_laws.specs.Laws.{LawsSeeNoBox}
use Rattle.line_laws.proofs.PlainReadings.{plain_end, plain_reading, read-plain}
use Rattle.line_laws.proofs.PlainTests.{prefix-plain, living-plain, waits-plain, waits_moment-plain, settled-plain, settled_end-plain, fallen-plain}
use Rattle.line_laws.proofs.Texts.{effect-plain}

readable_what-plain : (schema : Schema) (stack : List CallFrame) (w : What) → is_readable_what schema stack (plain_what w) ≡ is_readable_what schema stack w
readable_what-plain schema stack (what.Send n route number vs) = refl
readable_what-plain schema stack (what.Call n transaction route number vs) = refl
readable_what-plain schema stack (what.Resolve n vs) = refl
readable_what-plain schema stack (what.Take n route number vs) = refl
readable_what-plain schema stack (what.ResumeOk n vs) = refl
readable_what-plain schema stack (what.AnswerOk n vs) = refl
readable_what-plain schema stack (what.Resolved n vs) = refl
readable_what-plain schema stack _ = refl

stack-plain : (end : Side) (reading : Reading) → (end_reading_of end (plain_reading reading)).stack ≡ (end_reading_of end reading).stack
stack-plain side.Parent reading = refl
stack-plain side.Child reading = refl

own-reading : (end : Side) (reading : Reading) → end_reading_of end (plain_reading reading) ≡ plain_end (end_reading_of end reading)
own-reading side.Parent reading = refl
own-reading side.Child reading = refl

other-reading : (end : Side) (reading : Reading) → other_of end (plain_reading reading) ≡ plain_end (other_of end reading)
other-reading side.Parent reading = refl
other-reading side.Child reading = refl

readable-plain : (schema : Schema) (reading : Reading) (line : Line) → is_readable schema (plain_reading reading) (plain_line line) ≡ is_readable schema reading line
unfolding is_readable
readable-plain schema reading line =
    ap (λ (b : Bool). (if b then is_of_event line.side reading.last else true) && is_readable_what schema (end_reading_of line.side (plain_reading reading)).stack (plain_what line.what)) (effect-plain line.what)
    ∙ ap (λ stack. (if is_effect line.what then is_of_event line.side reading.last else true) && is_readable_what schema stack (plain_what line.what)) (stack-plain line.side reading)
    ∙ ap (λ (b : Bool). (if is_effect line.what then is_of_event line.side reading.last else true) && b) (readable_what-plain schema (end_reading_of line.side reading).stack line.what)

test-plain : (l : Law) (schema : Schema) (end : Side) (own other : EndReading) (w : What) (following : List Line) → line_test l schema end (plain_end own) (plain_end other) (plain_what w) (map plain_line following) ≡ line_test l schema end own other w following
test-plain law.Prefix schema end own other w following = prefix-plain schema own other w
test-plain law.Living schema end own other w following = living-plain schema end own other w
test-plain law.Waits schema end own other w following = waits-plain schema own other w
test-plain law.Settled schema end own other w following = settled-plain schema end own other w following
test-plain law.Fallen schema end own other w following = fallen-plain own w

moment-plain : (l : Law) (schema : Schema) (reading : Reading) → moment_test l schema (plain_reading reading) ≡ moment_test l schema reading
unfolding moment_test
moment-plain law.Prefix schema reading = refl
moment-plain law.Living schema reading = refl
moment-plain law.Waits schema reading = waits_moment-plain schema reading
moment-plain law.Settled schema reading =
    ap (λ b. b && settled_moment (plain_end reading.child)) (settled_end-plain reading.parent) ∙ ap (λ b. settled_moment reading.parent && b) (settled_end-plain reading.child)
moment-plain law.Fallen schema reading = refl

before-plain : (l : Law) (schema : Schema) (reading : Reading) (w : What) → moment_before l schema (plain_reading reading) (plain_what w) ≡ moment_before l schema reading w
before-plain l schema reading w =
    ap (λ (b : Bool). if b then true else moment_test l schema (plain_reading reading)) (effect-plain w) ∙ ap (λ (b : Bool). if is_effect w then true else b) (moment-plain l schema reading)

passes-plain : (l : Law) (schema : Schema) (reading : Reading) (line : Line) (following : List Line) → passes l schema (plain_reading reading) (plain_line line) (map plain_line following) ≡ passes l schema reading line following
unfolding passes
passes-plain l schema reading line following =
    ap (λ (b : Bool). b && (moment_before l schema (plain_reading reading) (plain_what line.what) && line_test l schema line.side (end_reading_of line.side (plain_reading reading)) (other_of line.side (plain_reading reading)) (plain_what line.what) (map plain_line following)))
    (readable-plain schema reading line)
    ∙ (ap (λ (b : Bool). is_readable schema reading line && (b && line_test l schema line.side (end_reading_of line.side (plain_reading reading)) (other_of line.side (plain_reading reading)) (plain_what line.what) (map plain_line following)))
    (before-plain l schema reading line.what)
    ∙ (ap (λ (x : EndReading). is_readable schema reading line && (moment_before l schema reading line.what && line_test l schema line.side x (other_of line.side (plain_reading reading)) (plain_what line.what) (map plain_line following))) (own-reading line.side reading)
    ∙ (ap (λ (x : EndReading). is_readable schema reading line && (moment_before l schema reading line.what && line_test l schema line.side (plain_end (end_reading_of line.side reading)) x (plain_what line.what) (map plain_line following))) (other-reading line.side reading)
    ∙ ap (λ (b : Bool). is_readable schema reading line && (moment_before l schema reading line.what && b)) (test-plain l schema line.side (end_reading_of line.side reading) (other_of line.side reading) line.what following))))

each-plain : (one other : List Line → Line → List Line → Bool) → ((before : List Line) (line : Line) (following : List Line) → one (map plain_line before) (plain_line line) (map plain_line following) ≡ other before line following)
    → (before lines : List Line) → each_line one (map plain_line before) (map plain_line lines) ≡ each_line other before lines
each-plain one other h before [] = refl
each-plain one other h before (line ∷ lines) =
    ap (λ (b : Bool). b && each_line one (map plain_line before ++ plain_line line ∷ []) (map plain_line lines)) (h before line lines)
    ∙ (ap (λ (ls : List Line). other before line lines && each_line one ls (map plain_line lines)) (sym (map-append plain_line before (line ∷ [])))
    ∙ ap (λ (b : Bool). other before line lines && b) (each-plain one other h (before ++ line ∷ []) lines))

each_passes-plain : (l : Law) (schema : Schema) (lines : List Line) → each_passes l schema (map plain_line lines) ≡ each_passes l schema lines
each_passes-plain l schema lines =
    each-plain (λ before line following. passes l schema (read schema before) line following) (λ before line following. passes l schema (read schema before) line following)
    (λ before line following. ap (λ (r : Reading). passes l schema r (plain_line line) (map plain_line following)) (read-plain schema before) ∙ passes-plain l schema (read schema before) line following) [] lines

pub laws_see_no_box : LawsSeeNoBox
laws_see_no_box = record {
  readable = λ schema lines.
      each-plain (λ before line following. is_readable schema (read schema before) line) (λ before line following. is_readable schema (read schema before) line)
      (λ before line following. ap (λ (r : Reading). is_readable schema r (plain_line line)) (read-plain schema before) ∙ readable-plain schema (read schema before) line) [] lines;
  holds = λ l schema lines.
      ap (λ (b : Bool). b && moment_test l schema (read schema (map plain_line lines))) (each_passes-plain l schema lines)
      ∙ ap (λ (b : Bool). each_passes l schema lines && b) (ap (moment_test l schema) (read-plain schema lines) ∙ moment-plain l schema (read schema lines));
}
