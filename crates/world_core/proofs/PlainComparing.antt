-- A comparison of lines is one of the same lines with every box at one place.
use Rattle.std.proofs.Common.{◌≡◌, ℕ, ◌+◌, Bool, cond, not, List, [], ◌∷◌, ◌++◌, drop, length, map, take, Result, Ok, Err, refl, sym, ap, subst, ◌∙◌, arith}
use Rattle.std.specs.Prelude.{IfOk}
use Rattle.std.proofs.Math.Seq.{drop-append_seam, take-append_seam}
use Rattle.std.proofs.lemmas.List.{drop-map, map-append, take-map}
use Rattle.std.proofs.lemmas.List.Sums.{sum_by-append}
use Rattle.ipdl_base.specs.declared.line.Line.{Line}
use Rattle.ipdl_base.specs.declared.schema.Schema.{Schema}
use Rattle.ipdl_base.specs.Lines.{is_effect}
use Rattle.value_types.specs.Laws.{BoxesSayNothing}
use Rattle.end_parts.specs.PlainLines.{plain_line}
use Rattle.history.specs.Text.{line_text}
use Rattle.line_laws.proofs.Texts.{effect-plain, line-plain, message-plain}
use Rattle.transcripts.specs.Printed.{line_texts}
use Rattle.transcripts.specs.TextLines.{text_lines}
use Rattle.transcripts.specs.declared.comparison.LineMatch.{LineMatch}
use Rattle.transcripts.specs.declared.comparison.LineMatch.TheVariants as alike
use Rattle.transcripts.specs.declared.comparison.Comparison.{Comparison}
use Rattle.transcripts.specs.Compared.{DifferAtOnce, EndsSo, HasCompared, HasPassed, events_in}

module _ (says : BoxesSayNothing) where
  texts-plain : (schema : Schema) (before lines : List Line) → line_texts schema (map plain_line before) (map plain_line lines) ≡ line_texts schema before lines
  texts-plain schema before [] = refl
  texts-plain schema before (line ∷ lines) =
      ap (λ text. text ∷ line_texts schema (map plain_line before ++ plain_line line ∷ []) (map plain_line lines)) (line-plain says schema before line)
      ∙ ap (λ ls. line_text schema before line ∷ line_texts schema ls (map plain_line lines)) (sym (map-append plain_line before (line ∷ [])))
      ∙ ap (λ texts. line_text schema before line ∷ texts) (texts-plain schema (before ++ line ∷ []) lines)

  abbrev counts : Line → ℕ
  counts line = cond (not (is_effect line.what)) 1 0

  events-plain : (lines : List Line) → events_in (map plain_line lines) ≡ events_in lines
  events-plain [] = refl
  events-plain (line ∷ lines) =
      sum_by-append counts (plain_line line ∷ []) (map plain_line lines) ∙ ap (λ (b : Bool). (0 + cond (not b) 1 0) + events_in (map plain_line lines)) (effect-plain line.what)
      ∙ ap (λ n. (0 + counts line) + n) (events-plain lines) ∙ sym (sum_by-append counts (line ∷ []) lines)

  map-long : (lines : List Line) → length (map plain_line lines) ≡ length lines
  map-long [] = refl
  map-long (line ∷ lines) = let h = map-long lines in omega (arith, h)

  pub passed-plain : (lines : List Line) (c : Comparison) → HasPassed lines c → HasPassed (map plain_line lines) c
  passed-plain lines c h = record {
    count = h.count ∙ sym (map-long lines);
    events = h.events ∙ sym (events-plain lines);
    written = λ end n. h.written end n ∙ sym (message-plain end lines n);
    within = h.within;
  }

  pub passed-boxed : (lines : List Line) (c : Comparison) → HasPassed (map plain_line lines) c → HasPassed lines c
  passed-boxed lines c h = record {
    count = h.count ∙ map-long lines;
    events = h.events ∙ events-plain lines;
    written = λ end n. h.written end n ∙ message-plain end lines n;
    within = h.within;
  }

  pub compared-plain : (schema : Schema) (before lines : List Line) (old new : Comparison) (found : LineMatch) → HasCompared schema before lines old found new → HasCompared schema (map plain_line before) (map plain_line lines) old found new
  compared-plain schema before lines old new found c = record {
    first = map plain_line c.first;
    others = map plain_line c.others;
    split = ap (map plain_line) c.split ∙ map-append plain_line c.first c.others;
    is = c.is ∙ ap (λ texts. texts ++ text_lines new.left.now) (sym (texts-plain schema before c.first));
    count = c.count ∙ ap (λ n. old.lines + n) (sym (map-long c.first));
    within = c.within;
    ends = subst (λ ls. EndsSo schema ls (map plain_line c.others) found new) (map-append plain_line before c.first) (by found c.ends);
  }
    where
      by : (f : LineMatch) → EndsSo schema (before ++ c.first) c.others f new → EndsSo schema (map plain_line (before ++ c.first)) (map plain_line c.others) f new
      by alike.All h = (ap (map plain_line) h.0, passed-plain (before ++ c.first) new h.1)
      by alike.Over h = (λ none. h.0 (no-map c.others none), h.1)
        where
          no-map : (lines : List Line) → map plain_line lines ≡ [] → lines ≡ []
          no-map [] e = refl
          no-map (line ∷ lines) e = cc
      by alike.Other h = subst (DifferAtOnce (text_lines new.left.now)) (sym (texts-plain schema (before ++ c.first) c.others)) h

  -- the newest lines of a history, of which contracts see the plain ones
  pub newest-compared : (schema : Schema) (all before more : List Line) (n : ℕ) (old new : Comparison) (found : LineMatch) → map plain_line all ≡ before ++ more → n ≡ old.lines
      → ((boxed : List Line) → HasPassed boxed old → HasCompared schema boxed (drop n all) old found new) → HasPassed before old → HasCompared schema before more old found new
  newest-compared schema all before more n old new found is count compares passed =
      let size : n ≡ length before = count ∙ passed.count in
      let first : map plain_line (take n all) ≡ before = sym (take-map plain_line n all) ∙ ap (take n) is ∙ ap (λ k. take k (before ++ more)) size ∙ take-append_seam before more in
      let rest : map plain_line (drop n all) ≡ more = sym (drop-map plain_line n all) ∙ ap (drop n) is ∙ ap (λ k. drop k (before ++ more)) size ∙ drop-append_seam before more in
      subst (λ ls. HasCompared schema ls more old found new) first
      (subst (λ ls. HasCompared schema (map plain_line (take n all)) ls old found new) rest
      (compared-plain schema (take n all) (drop n all) old new found (compares (take n all) (passed-boxed (take n all) old (subst (λ ls. HasPassed ls old) (sym first) passed)))))

  pub newest-found : {E : Type 0} (schema : Schema) (all newest seen : List Line) (n : ℕ) (old new : Comparison) (found : Result LineMatch E) → map plain_line all ≡ seen → n ≡ old.lines → newest ≡ drop n all
      → IfOk found (λ f. (boxed : List Line) → HasPassed boxed old → HasCompared schema boxed newest old f new)
      → IfOk found (λ f. (before more : List Line) → seen ≡ before ++ more → HasPassed before old → HasCompared schema before more old f new)
  newest-found schema all newest seen n old new (Err e) is count last h = tt
  newest-found schema all newest seen n old new (Ok f) is count last h = λ before more so passed.
      newest-compared schema all before more n old new f (is ∙ so) count (λ boxed p. subst (λ ls. HasCompared schema boxed ls old f new) last (h boxed p)) passed
