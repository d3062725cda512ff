-- Lines one after the other: what is read of an end and what it printed, side by side; and tests of each line.
use Rattle.std.proofs.Common.{◌≡◌, ℕ, Bool, true, false, not, ◌&&◌, if◌then◌else◌, IsTrue, List, [], ◌∷◌, ◌++◌, fold, refl, sym, ap, subst, ◌∙◌, append_assoc}
use Rattle.std.proofs.lemmas.Bool.{and_parts, and_from}
use Rattle.std.proofs.lemmas.List.{append-nil}
use Rattle.ipdl_base.specs.declared.kinds.Side.{Side}
use Rattle.ipdl_base.specs.declared.kinds.Side.TheVariants as side
use Rattle.ipdl_base.specs.declared.line.Line.{Line}
use Rattle.ipdl_base.specs.declared.line.What.{What}
use Rattle.ipdl_base.specs.declared.schema.Schema.{Schema}
use Rattle.ipdl_base.specs.Lines.{is_effect}
use Rattle.history_reading.specs.declared.law.Law.{Law}
use Rattle.history_reading.specs.EndReading.{EndReading, opening}
use Rattle.history_reading.specs.Holds.{each_line, is_readable, IsReadable, line_test, moment_test, moment_before, passes, each_passes, Holds}
use Rattle.history_reading.specs.Reading.{Reading, after, after_at, after_what, end_reading_of, other_of, opening_reading, read}
use Rattle.law_statements.specs.Said.{is_moment, line_of, said_by, said_in}
use Rattle.law_statements.proofs.Lists.{add, filter-add}

pub fold-more : (schema : Schema) (xs ys : List Line) (r : Reading) → fold (after schema) r (xs ++ ys) ≡ fold (after schema) (fold (after schema) r xs) ys
fold-more schema [] ys r = refl
fold-more schema (x ∷ xs) ys r = fold-more schema xs ys (after schema r x)

pub read-more : (schema : Schema) (before : List Line) (line : Line) → read schema (before ++ line ∷ []) ≡ after schema (read schema before) line
read-more schema before line = fold-more schema before (line ∷ []) opening_reading

-- A property of what is read of an end and of what it printed, which is true at first and kept from line to line

more-at : (schema : Schema) (P : EndReading → List What → Type 0) → ((place : ℕ) (own : EndReading) (said : List What) (w : What) → P own said → P (after_what schema place w own) (said ++ w ∷ []))
    → (end s : Side) (w : What) (r : Reading) (said : List What) → P (end_reading_of end r) said → P (end_reading_of end (after_at schema s w r)) (add said (said_in end (line_of s w)))
more-at schema P next side.Parent side.Parent w r said p = next r.lines r.parent said w p
more-at schema P next side.Parent side.Child w r said p = p
more-at schema P next side.Child side.Parent w r said p = p
more-at schema P next side.Child side.Child w r said p = next r.lines r.child said w p

more : (schema : Schema) (P : EndReading → List What → Type 0) → ((place : ℕ) (own : EndReading) (said : List What) (w : What) → P own said → P (after_what schema place w own) (said ++ w ∷ []))
    → (end : Side) (before : List Line) (line : Line) → P (end_reading_of end (read schema before)) (said_by end before) → P (end_reading_of end (read schema (before ++ line ∷ []))) (said_by end (before ++ line ∷ []))
more schema P next end before line p =
    subst (λ (r : Reading). P (end_reading_of end r) (said_by end (before ++ line ∷ []))) (sym (read-more schema before line))
    (subst (P (end_reading_of end (after schema (read schema before) line))) (sym (filter-add (said_in end) before line))
    (more-at schema P next end line.side line.what (read schema before) (said_by end before) p))

from : (schema : Schema) (P : EndReading → List What → Type 0) → ((place : ℕ) (own : EndReading) (said : List What) (w : What) → P own said → P (after_what schema place w own) (said ++ w ∷ []))
    → (end : Side) (before lines : List Line) → P (end_reading_of end (read schema before)) (said_by end before) → P (end_reading_of end (read schema (before ++ lines))) (said_by end (before ++ lines))
from schema P next end before [] p = subst (λ (ls : List Line). P (end_reading_of end (read schema ls)) (said_by end ls)) (sym (append-nil before)) p
from schema P next end before (line ∷ lines) p =
    subst (λ (ls : List Line). P (end_reading_of end (read schema ls)) (said_by end ls)) (append_assoc before (line ∷ []) lines)
    (from schema P next end (before ++ line ∷ []) lines (more schema P next end before line p))

opens : (schema : Schema) (P : EndReading → List What → Type 0) (end : Side) → P opening [] → P (end_reading_of end (read schema [])) []
opens schema P side.Parent p = p
opens schema P side.Child p = p

pub along : (schema : Schema) (P : EndReading → List What → Type 0) → P opening [] → ((place : ℕ) (own : EndReading) (said : List What) (w : What) → P own said → P (after_what schema place w own) (said ++ w ∷ []))
    → (end : Side) (lines : List Line) → P (end_reading_of end (read schema lines)) (said_by end lines)
along schema P first next end lines = from schema P next end [] lines (opens schema P end first)

-- A test of each line is a test of each place

pub each-from : (test : List Line → Line → List Line → Bool) (before lines : List Line) → IsTrue (each_line test before lines)
    → (front : List Line) (line : Line) (following : List Line) → lines ≡ front ++ line ∷ following → IsTrue (test (before ++ front) line following)
each-from test before lines h [] line following e =
    let k : IsTrue (each_line test before (line ∷ following)) = subst (λ (ls : List Line). IsTrue (each_line test before ls)) e h in
    subst (λ (b : List Line). IsTrue (test b line following)) (sym (append-nil before)) ((and_parts (test before line following) (each_line test (before ++ line ∷ []) following) k).0)
each-from test before lines h (f ∷ front) line following e =
    let k : IsTrue (each_line test before (f ∷ (front ++ line ∷ following))) = subst (λ (ls : List Line). IsTrue (each_line test before ls)) e h in
    subst (λ (b : List Line). IsTrue (test b line following)) (append_assoc before (f ∷ []) front)
    (each-from test (before ++ f ∷ []) (front ++ line ∷ following) ((and_parts (test before f (front ++ line ∷ following)) (each_line test (before ++ f ∷ []) (front ++ line ∷ following)) k).1) front line following refl)

pub each-to : (test : List Line → Line → List Line → Bool) (before lines : List Line)
    → ((front : List Line) (line : Line) (following : List Line) → lines ≡ front ++ line ∷ following → IsTrue (test (before ++ front) line following)) → IsTrue (each_line test before lines)
each-to test before [] h = refl
each-to test before (line ∷ lines) h =
    and_from (test before line lines) (each_line test (before ++ line ∷ []) lines)
    (subst (λ (b : List Line). IsTrue (test b line lines)) (append-nil before) (h [] line lines refl))
    (each-to test (before ++ line ∷ []) lines (λ front l following e. subst (λ (b : List Line). IsTrue (test b l following)) (sym (append_assoc before (line ∷ []) front)) (h (line ∷ front) l following (ap (λ (ls : List Line). line ∷ ls) e))))

-- A law holds of a readable list if each line passes its test, and each moment

pub record Passes (law : Law) (schema : Schema) (lines : List Line) : Type 0 where
  pub places : (before : List Line) (line : Line) (following : List Line) → lines ≡ before ++ line ∷ following
      → IsTrue (line_test law schema line.side (end_reading_of line.side (read schema before)) (other_of line.side (read schema before)) line.what following)
  pub moments : (before following : List Line) → lines ≡ before ++ following → IsTrue (is_moment following) → IsTrue (moment_test law schema (read schema before))

three : (a b c : Bool) → IsTrue (a && (b && c)) → IsTrue b × IsTrue c
three a b c h = and_parts b c ((and_parts a (b && c) h).1)

before-moment : (effect test : Bool) → IsTrue (if effect then true else test) → IsTrue (not effect) → IsTrue test
before-moment true test h e = cc
before-moment false test h e = h

moment-before : (effect test : Bool) → (IsTrue (not effect) → IsTrue test) → IsTrue (if effect then true else test)
moment-before true test h = refl
moment-before false test h = h refl

holds-parts : (law : Law) (schema : Schema) (lines : List Line) → Holds law schema lines → IsTrue (each_passes law schema lines) × IsTrue (moment_test law schema (read schema lines))
holds-parts law schema lines h = and_parts (each_passes law schema lines) (moment_test law schema (read schema lines)) h

passing : (law : Law) (schema : Schema) (lines : List Line) → Holds law schema lines → (before : List Line) (line : Line) (following : List Line) → lines ≡ before ++ line ∷ following → IsTrue (passes law schema (read schema before) line following)
passing law schema lines h = each-from (λ before line following. passes law schema (read schema before) line following) [] lines ((holds-parts law schema lines h).0)

moment-holds : (law : Law) (schema : Schema) (lines : List Line) → Holds law schema lines → (before following : List Line) → lines ≡ before ++ following → IsTrue (is_moment following) → IsTrue (moment_test law schema (read schema before))
unfolding passes
moment-holds law schema lines h before [] e m = subst (λ (ls : List Line). IsTrue (moment_test law schema (read schema ls))) (e ∙ append-nil before) ((holds-parts law schema lines h).1)
moment-holds law schema lines h before (line ∷ following) e m =
    before-moment (is_effect line.what) (moment_test law schema (read schema before))
    ((three (is_readable schema (read schema before) line) (moment_before law schema (read schema before) line.what)
    (line_test law schema line.side (end_reading_of line.side (read schema before)) (other_of line.side (read schema before)) line.what following) (passing law schema lines h before line following e)).0) m

pub holds-passes : (law : Law) (schema : Schema) (lines : List Line) → Holds law schema lines → Passes law schema lines
unfolding passes
holds-passes law schema lines h = record {
  places = λ before line following e.
      (three (is_readable schema (read schema before) line) (moment_before law schema (read schema before) line.what)
      (line_test law schema line.side (end_reading_of line.side (read schema before)) (other_of line.side (read schema before)) line.what following) (passing law schema lines h before line following e)).1;
  moments = moment-holds law schema lines h;
}

pub readable-places : (schema : Schema) (lines : List Line) → IsReadable schema lines → (before : List Line) (line : Line) (following : List Line) → lines ≡ before ++ line ∷ following → IsTrue (is_readable schema (read schema before) line)
readable-places schema lines h = each-from (λ before line following. is_readable schema (read schema before) line) [] lines h

pub passes-holds : (law : Law) (schema : Schema) (lines : List Line) → IsReadable schema lines → Passes law schema lines → Holds law schema lines
unfolding passes
passes-holds law schema lines r p =
    and_from (each_passes law schema lines) (moment_test law schema (read schema lines))
    (each-to (λ before line following. passes law schema (read schema before) line following) [] lines (λ before line following e.
    and_from (is_readable schema (read schema before) line) (moment_before law schema (read schema before) line.what && line_test law schema line.side (end_reading_of line.side (read schema before)) (other_of line.side (read schema before)) line.what following)
    (readable-places schema lines r before line following e)
    (and_from (moment_before law schema (read schema before) line.what) (line_test law schema line.side (end_reading_of line.side (read schema before)) (other_of line.side (read schema before)) line.what following)
    (moment-before (is_effect line.what) (moment_test law schema (read schema before)) (p.moments before (line ∷ following) e))
    (p.places before line following e))))
    (p.moments lines [] (sym (append-nil lines)) refl)

-- no law holds of lines that cannot be read
pub holds-readable : (law : Law) (schema : Schema) (lines : List Line) → Holds law schema lines → IsReadable schema lines
unfolding passes
holds-readable law schema lines h =
    each-to (λ before line following. is_readable schema (read schema before) line) [] lines (λ before line following e.
    (and_parts (is_readable schema (read schema before) line) (moment_before law schema (read schema before) line.what && line_test law schema line.side (end_reading_of line.side (read schema before)) (other_of line.side (read schema before)) line.what following)
    (passing law schema lines h before line following e)).0)
