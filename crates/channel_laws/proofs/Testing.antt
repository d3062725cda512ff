-- Lines that pass a test.
use Rattle.std.proofs.Common.{◌≡◌, ℕ, ◌+◌, Bool, true, false, ◌&&◌, if◌then◌else◌, List, [], ◌∷◌, ◌++◌, map, Option, Some, refl, sym, ap, subst, ◌∙◌, append_assoc}
use Rattle.std.specs.Bool.{MatchBool}
use Rattle.std.specs.List.{AllByRecursion}
use Rattle.std.specs.Option.{option_map_or}
use Rattle.std.proofs.lemmas.List.{append-nil}
use Rattle.ipdl_base.specs.declared.line.Line.{Line}
use Rattle.ipdl_base.specs.declared.line.What.{What}
use Rattle.ipdl_base.specs.Lines.{same_side}
use Rattle.ipdl_base.specs.Lines.{is_effect}
use Rattle.history_reading.specs.Holds.{each_line, is_of_event}
use Rattle.history_reading.specs.EndReading.{EndReading}
use Rattle.history_reading.specs.Reading.{Reading, after, after_at, after_what, end_reading_of, other_of, opening_reading, read}
use Rattle.ipdl_base.specs.declared.kinds.Side.{Side}
use Rattle.ipdl_base.specs.declared.kinds.Side.TheVariants.{Parent, Child}
use Rattle.ipdl_base.specs.declared.schema.Schema.{Schema}
use Rattle.channel_model.specs.Outputs.{line_at}
use Rattle.channel_model.specs.EventLines.{EffectsFollow}
use Rattle.channel_laws.specs.Tested.{after_whats, EndLinesPass, LinesPass, read_from, test_at}

-- The reading of lines of one end

pub read-own : (schema : Schema) (side : Side) (ws : List What) (r : Reading) → end_reading_of side (read_from schema r (map (line_at side) ws)) ≡ after_whats schema r.lines ws (end_reading_of side r)
read-own schema side [] r = refl
read-own schema Parent (w ∷ ws) r = read-own schema Parent ws (after_at schema Parent w r)
read-own schema Child (w ∷ ws) r = read-own schema Child ws (after_at schema Child w r)

pub read-other : (schema : Schema) (side : Side) (ws : List What) (r : Reading) → other_of side (read_from schema r (map (line_at side) ws)) ≡ other_of side r
read-other schema side [] r = refl
read-other schema Parent (w ∷ ws) r = read-other schema Parent ws (after_at schema Parent w r)
read-other schema Child (w ∷ ws) r = read-other schema Child ws (after_at schema Child w r)

pub read-append : (schema : Schema) (xs ys : List Line) (r : Reading) → read_from schema r (xs ++ ys) ≡ read_from schema (read_from schema r xs) ys
read-append schema [] ys r = refl
read-append schema (x ∷ xs) ys r = read-append schema xs ys (after schema r x)

-- Tests

pub tested-append : (schema : Schema) (test : EndReading → What → Type 0) (place : ℕ) (ws vs : List What) (h : EndReading) → EndLinesPass schema test place ws h → ((at : ℕ) → EndLinesPass schema test at vs (after_whats schema place ws h)) → EndLinesPass schema test place (ws ++ vs) h
tested-append schema test place [] vs h a b = b place
tested-append schema test place (w ∷ ws) vs h a b = (a.0, tested-append schema test (place + 1) ws vs (after_what schema place w h) a.1 b)

pub tested-free : (schema : Schema) (test : EndReading → What → Type 0) (place : ℕ) (ws : List What) (h : EndReading) → AllByRecursion (λ w. (h : EndReading) → test h w) ws → EndLinesPass schema test place ws h
tested-free schema test place [] h a = tt
tested-free schema test place (w ∷ ws) h a = (a.0 h, tested-free schema test (place + 1) ws (after_what schema place w h) a.1)

pub pass-append : (schema : Schema) (test : Reading → Line → List Line → Bool) (r : Reading) (xs ys following : List Line) → LinesPass schema test r xs (ys ++ following) → LinesPass schema test (read_from schema r xs) ys following → LinesPass schema test r (xs ++ ys) following
pass-append schema test r [] ys following a b = b
pass-append schema test r (x ∷ xs) ys following a b = (ap (λ (l : List Line). test r x l) (append_assoc xs ys following) ∙ a.0, pass-append schema test (after schema r x) xs ys following a.1 b)

pub pass-both : (schema : Schema) (first second : Reading → Line → List Line → Bool) (r : Reading) (xs following : List Line) → LinesPass schema first r xs following → LinesPass schema second r xs following → LinesPass schema (λ r l b. first r l b && second r l b) r xs following
pass-both schema first second r [] following a b = tt
pass-both schema first second r (x ∷ xs) following a b = (both (first r x (xs ++ following)) (second r x (xs ++ following)) a.0 b.0, pass-both schema first second (after schema r x) xs following a.1 b.1)
  where
    both : (x y : Bool) → x ≡ true → y ≡ true → x && y ≡ true
    both true y e f = f
    both false y e f = cc

pub pass-lines : (schema : Schema) (test : EndReading → EndReading → What → Bool) (side : Side) (ws : List What) (r : Reading) (following : List Line) → EndLinesPass schema (λ h w. test h (other_of side r) w ≡ true) r.lines ws (end_reading_of side r) → LinesPass schema (test_at test) r (map (line_at side) ws) following
pass-lines schema test side [] r following t = tt
pass-lines schema test Parent (w ∷ ws) r following t = (t.0, pass-lines schema test Parent ws (after_at schema Parent w r) following t.1)
pass-lines schema test Child (w ∷ ws) r following t = (t.0, pass-lines schema test Child ws (after_at schema Child w r) following t.1)

-- Effects after their events

abbrev pub event_test : Reading → Line → List Line → Bool
event_test r l following = if is_effect l.what then is_of_event l.side r.last else true

pub same-side : (side : Side) → same_side side side ≡ true
same-side Parent = refl
same-side Child = refl

event-here : (b : Bool) (before : Option Side) (side : Side) → MatchBool b (before ≡ Some side) (Unit {0}) → (if b then is_of_event side before else true) ≡ true
event-here true before side m = ap (λ (s : Option Side). option_map_or (λ (x : Side). same_side x side) s false) m ∙ same-side side
event-here false before side m = refl

last-is : (b : Bool) (before : Option Side) (side : Side) → MatchBool b (before ≡ Some side) (Unit {0}) → (if b then before else Some side) ≡ Some side
last-is true before side m = m
last-is false before side m = refl

last-after : (schema : Schema) (r : Reading) (l : Line) → (after schema r l).last ≡ (if is_effect l.what then r.last else Some l.side)
last-after schema r l = by l.side refl
  where
    by : (s : Side) → l.side ≡ s → (after_at schema s l.what r).last ≡ (if is_effect l.what then r.last else Some s)
    by Parent is = refl
    by Child is = refl

pub pass-events : (schema : Schema) (r : Reading) (lines following : List Line) → EffectsFollow r.last lines → LinesPass schema event_test r lines following
pass-events schema r [] following f = tt
pass-events schema r (l ∷ ls) following f = (
  event-here (is_effect l.what) r.last l.side f.0,
  pass-events schema (after schema r l) ls following (subst (λ (s : Option Side). EffectsFollow s ls) (sym (last-after schema r l ∙ last-is (is_effect l.what) r.last l.side f.0)) f.1),
)

-- From the opening

pub each-passes : (schema : Schema) (test : Reading → Line → List Line → Bool) (before lines : List Line) → LinesPass schema test (read schema before) lines [] → each_line (λ before line following. test (read schema before) line following) before lines ≡ true
each-passes schema test before [] p = refl
each-passes schema test before (l ∷ ls) p =
    let rest : each_line (λ before line following. test (read schema before) line following) (before ++ l ∷ []) ls ≡ true = each-passes schema test (before ++ l ∷ []) ls (subst (λ (r : Reading). LinesPass schema test r ls []) (sym (read-append schema before (l ∷ []) opening_reading)) p.1) in
    both (test (read schema before) l ls) (each_line (λ before line following. test (read schema before) line following) (before ++ l ∷ []) ls) (ap (test (read schema before) l) (sym (append-nil ls)) ∙ p.0) rest
  where
    both : (x y : Bool) → x ≡ true → y ≡ true → x && y ≡ true
    both true y e f = f
    both false y e f = cc
