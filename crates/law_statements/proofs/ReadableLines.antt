-- The test of readable lines decides what readable lines are.
use Rattle.std.proofs.Common.{◌≡◌, ℕ, ℤ, Bool, true, false, not, ◌&&◌, if◌then◌else◌, IsTrue, List, [], ◌∷◌, ◌++◌, fold, Option, Some, None, refl, sym, ap, ◌∙◌, append_assoc}
use Rattle.std.specs.Bool.{Decides}
use Rattle.std.specs.List.{list_all}
use Rattle.std.proofs.lemmas.Bool.{and_parts, and_from, not-true}
use Rattle.std.proofs.lemmas.Bool.Decides.{Decides-int_eq}
use Rattle.std.proofs.lemmas.List.Folds.{list_all-append}
use Rattle.ipdl_base.specs.declared.kinds.Side.{Side}
use Rattle.ipdl_base.specs.declared.kinds.Side.TheVariants as side
use Rattle.ipdl_base.specs.declared.line.Line.{Line}
use Rattle.ipdl_base.specs.declared.line.What.{What}
use Rattle.ipdl_base.specs.declared.line.What.TheVariants as what
use Rattle.ipdl_base.specs.declared.schema.Schema.{Schema}
use Rattle.ipdl_base.specs.Lines.{is_effect, same_side}
use Rattle.history_reading.specs.declared.parts.CallFrame.{CallFrame}
use Rattle.history_reading.specs.declared.parts.CallFrame.TheVariants as frame
use Rattle.history_reading.specs.Holds.{IsReadable, is_answer_on_top, is_dispatch_on_top, is_of_event, is_readable, is_readable_what}
use Rattle.history_reading.specs.Reading.{Reading, after, after_at, end_reading_of, opening_reading, read}
use Rattle.history_reading.specs.Rows.{is_request_number}
use Rattle.law_statements.specs.Said.{line_of}
use Rattle.law_statements.specs.Readable.{IsOfLastEvent, Readable, message_in}
use Rattle.law_statements.specs.Stack.{stack}
use Rattle.law_statements.proofs.Along.{each-to, fold-more, read-more, readable-places}
use Rattle.law_statements.proofs.Deciding.{through}
use Rattle.law_statements.proofs.StackRead.{StackRead, both-more, opens, stack-read}

-- The end of the last event

last-of : (schema : Schema) (line : Line) (r : Reading) → (after schema r line).last ≡ (if is_effect line.what then r.last else Some line.side)
last-of schema line r = by line.side line.what
  where
    by : (s : Side) (w : What) → (after_at schema s w r).last ≡ (if is_effect w then r.last else Some s)
    by side.Parent w = refl
    by side.Child w = refl

last-to : (schema : Schema) (before : List Line) (end : Side) → (read schema before).last ≡ Some end → IsOfLastEvent end before
last-to schema before end e = through before (λ front. (x : Side) → (read schema front).last ≡ Some x → IsOfLastEvent x front) (λ x f. cc) more before [] (sym (nothing before)) end e
  where
    nothing : (xs : List Line) → xs ++ [] ≡ xs
    nothing [] = refl
    nothing (x ∷ xs) = ap (λ (ys : List Line). x ∷ ys) (nothing xs)

    step : (front : List Line) (line : Line) → ((x : Side) → (read schema front).last ≡ Some x → IsOfLastEvent x front) → (x : Side) (b : Bool) → is_effect line.what ≡ b
        → (if b then (read schema front).last else Some line.side) ≡ Some x → IsOfLastEvent x (front ++ line ∷ [])
    step front line p x true is f =
        let one : IsOfLastEvent x front = p x f in
        record {
          before = one.before;
          event = one.event;
          effects = one.effects ++ line ∷ [];
          split = ap (λ (ys : List Line). ys ++ line ∷ []) one.split ∙ append_assoc one.before (line_of x one.event ∷ one.effects) (line ∷ []);
          is_event = one.is_event;
          are_effects = list_all-append (λ (l : Line). is_effect l.what) one.effects (line ∷ []) ∙ and_from (list_all (λ (l : Line). is_effect l.what) one.effects) (is_effect line.what && true) one.are_effects (and_from (is_effect line.what) true is refl);
        }
    step front line p x false is f =
        let same : line.side ≡ x = cc in
        record { before = front; event = line.what; effects = []; split = ap (λ (s : Side). front ++ line_of s line.what ∷ []) same; is_event = ap not is; are_effects = refl }

    more : (front : List Line) (line : Line) (following : List Line) → before ≡ front ++ line ∷ following → ((x : Side) → (read schema front).last ≡ Some x → IsOfLastEvent x front) → (x : Side) → (read schema (front ++ line ∷ [])).last ≡ Some x
        → IsOfLastEvent x (front ++ line ∷ [])
    more front line following is p x f = step front line p x (is_effect line.what) refl (sym (last-of schema line (read schema front)) ∙ ap (λ (r : Reading). r.last) (sym (read-more schema front line)) ∙ f)

effects-keep : (schema : Schema) (effects : List Line) (r : Reading) → list_all (λ (l : Line). is_effect l.what) effects ≡ true → (fold (after schema) r effects).last ≡ r.last
effects-keep schema [] r e = refl
effects-keep schema (line ∷ effects) r e =
    let parts : IsTrue (is_effect line.what) × IsTrue (list_all (λ (l : Line). is_effect l.what) effects) = and_parts (is_effect line.what) (list_all (λ (l : Line). is_effect l.what) effects) e in
    effects-keep schema effects (after schema r line) parts.1 ∙ last-of schema line r ∙ ap (λ (b : Bool). if b then r.last else Some line.side) parts.0

last-from : (schema : Schema) (before : List Line) (end : Side) → IsOfLastEvent end before → (read schema before).last ≡ Some end
last-from schema before end o =
    ap (λ (ls : List Line). (read schema ls).last) o.split
    ∙ ap (λ (r : Reading). r.last) (fold-more schema o.before (line_of end o.event ∷ o.effects) opening_reading)
    ∙ effects-keep schema o.effects (after schema (read schema o.before) (line_of end o.event)) o.are_effects
    ∙ last-of schema (line_of end o.event) (read schema o.before)
    ∙ ap (λ (b : Bool). if b then (read schema o.before).last else Some end) (not-true (is_effect o.event) o.is_event)

side-same : (s end : Side) → Decides (same_side s end) (s ≡ end)
side-same side.Parent side.Parent = (λ e. refl, λ e. refl)
side-same side.Child side.Child = (λ e. refl, λ e. refl)
side-same side.Parent side.Child = (λ e. cc, λ e. cc)
side-same side.Child side.Parent = (λ e. cc, λ e. cc)

of-event : (end : Side) (last : Option Side) → Decides (is_of_event end last) (last ≡ Some end)
of-event end None = (λ e. cc, λ e. cc)
of-event end (Some s) = (λ e. ap (λ (x : Side). Some x) ((side-same s end).0 e), λ e. (side-same s end).1 cc)

-- What a line ends

dispatch-on-top : (st : List CallFrame) (n : ℤ) → Decides (is_dispatch_on_top st n) ((d : _) × (below : List CallFrame) × (st ≡ frame.Dispatch d ∷ below) × (d.seq ≡ n))
dispatch-on-top [] n = (λ e. cc, λ h. cc (h.2))
dispatch-on-top (frame.Dispatch d ∷ below) n = (λ e. (d, below, refl, (Decides-int_eq d.seq n).0 e), λ h. (Decides-int_eq d.seq n).1 (by h.0 h.1 h.2 ∙ h.3))
  where
    by : (x : _) (ys : List CallFrame) → frame.Dispatch d ∷ below ≡ frame.Dispatch x ∷ ys → d.seq ≡ x.seq
    by x ys e = let same : d ≡ x = cc in ap (λ y. y.seq) same
dispatch-on-top (frame.Unanswered c ∷ below) n = (λ e. cc, λ h. cc (h.2))
dispatch-on-top (frame.Answered c ∷ below) n = (λ e. cc, λ h. cc (h.2))

answer-on-top : (st : List CallFrame) (n : ℤ) → Decides (is_answer_on_top st n) ((c : _) × (below : List CallFrame) × (st ≡ frame.Answered c ∷ below) × (c.seq ≡ n))
answer-on-top [] n = (λ e. cc, λ h. cc (h.2))
answer-on-top (frame.Answered c ∷ below) n = (λ e. (c, below, refl, (Decides-int_eq c.seq n).0 e), λ h. (Decides-int_eq c.seq n).1 (by h.0 h.1 h.2 ∙ h.3))
  where
    by : (x : _) (ys : List CallFrame) → frame.Answered c ∷ below ≡ frame.Answered x ∷ ys → c.seq ≡ x.seq
    by x ys e = let same : c ≡ x = cc in ap (λ y. y.seq) same
answer-on-top (frame.Unanswered c ∷ below) n = (λ e. cc, λ h. cc (h.2))
answer-on-top (frame.Dispatch d ∷ below) n = (λ e. cc, λ h. cc (h.2))

parts : (schema : Schema) (before : List Line) (line : Line) → IsTrue (is_readable schema (read schema before) line)
    → ((if is_effect line.what then is_of_event line.side (read schema before).last else true) ≡ true) × (is_readable_what schema (end_reading_of line.side (read schema before)).stack line.what ≡ true)
unfolding is_readable
parts schema before line e = and_parts (if is_effect line.what then is_of_event line.side (read schema before).last else true) (is_readable_what schema (end_reading_of line.side (read schema before)).stack line.what) e

from-parts : (schema : Schema) (before : List Line) (line : Line) → (if is_effect line.what then is_of_event line.side (read schema before).last else true) ≡ true
    → is_readable_what schema (end_reading_of line.side (read schema before)).stack line.what ≡ true → IsTrue (is_readable schema (read schema before) line)
unfolding is_readable
from-parts schema before line e f = and_from (if is_effect line.what then is_of_event line.side (read schema before).last else true) (is_readable_what schema (end_reading_of line.side (read schema before)).stack line.what) e f

named : (schema : Schema) (st : List CallFrame) (w : What) (number : ℕ) → message_in w ≡ Some number → is_readable_what schema st w ≡ true → is_request_number schema number ≡ true
named schema st (what.Send n route k values) number e r = let same : k ≡ number = cc in ap (is_request_number schema) (sym same) ∙ r
named schema st (what.Call n transaction route k values) number e r = let same : k ≡ number = cc in ap (is_request_number schema) (sym same) ∙ r
named schema st (what.RefusedSend refusal k) number e r = let same : k ≡ number = cc in ap (is_request_number schema) (sym same) ∙ r
named schema st (what.Take n route k values) number e r = let same : k ≡ number = cc in ap (is_request_number schema) (sym same) ∙ r
named schema st (what.Drop n route k id) number e r = let same : k ≡ number = cc in ap (is_request_number schema) (sym same) ∙ r
named schema st _ number e r = cc

if-effect : (b c : Bool) → (if b then c else true) ≡ true → b ≡ true → c ≡ true
if-effect true c e f = e
if-effect false c e f = cc

pub readable-to : (schema : Schema) (lines : List Line) → IsReadable schema lines → Readable schema lines
readable-to schema lines r = record {
  effects = λ end w before following e f. last-to schema before end ((of-event end (read schema before).last).0 (if-effect (is_effect w) (is_of_event end (read schema before).last) (at before (line_of end w) following e).0 f));
  messages = λ end w number before following e f. named schema (end_reading_of end (read schema before)).stack w number f (at before (line_of end w) following e).1;
  returns = λ end n before following e.
      (dispatch-on-top (stack schema end before) n).0 (ap (λ (st : List CallFrame). is_dispatch_on_top st n) (sym (stack-read schema lines r end before (line_of end (what.Return n) ∷ following) e)) ∙ (at before (line_of end (what.Return n)) following e).1);
  resumes = λ end n values before following e.
      (answer-on-top (stack schema end before) n).0 (ap (λ (st : List CallFrame). is_answer_on_top st n) (sym (stack-read schema lines r end before (line_of end (what.ResumeOk n values) ∷ following) e)) ∙ (at before (line_of end (what.ResumeOk n values)) following e).1);
  faults = λ end n why before following e.
      (answer-on-top (stack schema end before) n).0 (ap (λ (st : List CallFrame). is_answer_on_top st n) (sym (stack-read schema lines r end before (line_of end (what.ResumeFault n why) ∷ following) e)) ∙ (at before (line_of end (what.ResumeFault n why)) following e).1);
}
  where
    at : (before : List Line) (line : Line) (following : List Line) → lines ≡ before ++ line ∷ following
        → ((if is_effect line.what then is_of_event line.side (read schema before).last else true) ≡ true) × (is_readable_what schema (end_reading_of line.side (read schema before)).stack line.what ≡ true)
    at before line following e = parts schema before line (readable-places schema lines r before line following e)

-- The other direction: each line can be read, with the stack that the lines before it make

what-from : (schema : Schema) (lines : List Line) → Readable schema lines → (before : List Line) (end : Side) (w : What) (following : List Line) → lines ≡ before ++ line_of end w ∷ following
    → (end_reading_of end (read schema before)).stack ≡ stack schema end before → is_readable_what schema (end_reading_of end (read schema before)).stack w ≡ true
what-from schema lines s before end (what.Send n route number values) following e st = s.messages end (what.Send n route number values) number before following e refl
what-from schema lines s before end (what.Call n transaction route number values) following e st = s.messages end (what.Call n transaction route number values) number before following e refl
what-from schema lines s before end (what.RefusedSend refusal number) following e st = s.messages end (what.RefusedSend refusal number) number before following e refl
what-from schema lines s before end (what.Take n route number values) following e st = s.messages end (what.Take n route number values) number before following e refl
what-from schema lines s before end (what.Drop n route number id) following e st = s.messages end (what.Drop n route number id) number before following e refl
what-from schema lines s before end (what.Return n) following e st = ap (λ (fs : List CallFrame). is_dispatch_on_top fs n) st ∙ (dispatch-on-top (stack schema end before) n).1 (s.returns end n before following e)
what-from schema lines s before end (what.ResumeOk n values) following e st = ap (λ (fs : List CallFrame). is_answer_on_top fs n) st ∙ (answer-on-top (stack schema end before) n).1 (s.resumes end n values before following e)
what-from schema lines s before end (what.ResumeFault n why) following e st = ap (λ (fs : List CallFrame). is_answer_on_top fs n) st ∙ (answer-on-top (stack schema end before) n).1 (s.faults end n why before following e)
what-from schema lines s before end _ following e st = refl

effect-from : (schema : Schema) (lines : List Line) → Readable schema lines → (before : List Line) (end : Side) (w : What) (following : List Line) → lines ≡ before ++ line_of end w ∷ following → (b : Bool) → is_effect w ≡ b
    → (if b then is_of_event end (read schema before).last else true) ≡ true
effect-from schema lines s before end w following e true is = (of-event end (read schema before).last).1 (last-from schema before end (s.effects end w before following e is))
effect-from schema lines s before end w following e false is = refl

stacks : (schema : Schema) (lines : List Line) → Readable schema lines → (before following : List Line) → lines ≡ before ++ following → (end : Side) → StackRead schema end before
stacks schema lines s before following e =
    through lines (λ front. (end : Side) → StackRead schema end front) (opens schema)
    (λ front line later is p. both-more schema front line.side line.what (what-from schema lines s front line.side line.what later is (p line.side).stack) p) before following e

pub readable-from : (schema : Schema) (lines : List Line) → Readable schema lines → IsReadable schema lines
readable-from schema lines s =
    each-to (λ before line following. is_readable schema (read schema before) line) [] lines (λ before line following e.
    from-parts schema before line (effect-from schema lines s before line.side line.what following e (is_effect line.what) refl)
    (what-from schema lines s before line.side line.what following e (stacks schema lines s before (line ∷ following) e line.side).stack))
