-- Tests of the lines of an end are tests of what it printed.
use Rattle.std.proofs.Common.{◌≡◌, ℤ, Bool, true, false, ◌&&◌, ◌||◌, if◌then◌else◌, List, [], ◌∷◌, Option, Some, None, refl, ap, ◌∙◌}
use Rattle.std.specs.List.{cons_option, list_all, list_any}
use Rattle.std.specs.Option.{option_map_or}
use Rattle.std.specs.Ordering.{int_eq}
use Rattle.ipdl_base.specs.declared.kinds.Side.{Side}
use Rattle.ipdl_base.specs.declared.line.Line.{Line}
use Rattle.ipdl_base.specs.declared.line.What.{What}
use Rattle.ipdl_base.specs.Lines.{same_side}
use Rattle.history_reading.specs.Numbers.{has}
use Rattle.law_statements.specs.Said.{said_by}
use Rattle.order_statements.specs.Shape.{kept, number_kept}
use Rattle.order_checks.specs.EffectTests.{is_keep_of, was_kept}

pub any-said : (p : What → Bool) (end : Side) (lines : List Line) → list_any (λ (line : Line). same_side line.side end && p line.what) lines ≡ list_any p (said_by end lines)
any-said p end [] = refl
any-said p end (line ∷ lines) = ap (λ (b : Bool). (same_side line.side end && p line.what) || b) (any-said p end lines) ∙ by (same_side line.side end)
  where
    by : (b : Bool) → ((b && p line.what) || list_any p (said_by end lines)) ≡ list_any p (cons_option (if b then Some line.what else None) (said_by end lines))
    by true = refl
    by false = refl

pub all-said : (p : What → Bool) (end : Side) (lines : List Line) → list_all (λ (line : Line). if same_side line.side end then p line.what else true) lines ≡ list_all p (said_by end lines)
all-said p end [] = refl
all-said p end (line ∷ lines) = ap (λ (b : Bool). (if same_side line.side end then p line.what else true) && b) (all-said p end lines) ∙ by (same_side line.side end)
  where
    by : (b : Bool) → ((if b then p line.what else true) && list_all p (said_by end lines)) ≡ list_all p (cons_option (if b then Some line.what else None) (said_by end lines))
    by true = refl
    by false = refl

kept-said : (n : ℤ) (ws : List What) → list_any (is_keep_of n) ws ≡ has (kept ws) n
kept-said n [] = refl
kept-said n (w ∷ ws) = ap (λ (b : Bool). is_keep_of n w || b) (kept-said n ws) ∙ by (number_kept w)
  where
    by : (o : Option ℤ) → (option_map_or (λ (m : ℤ). int_eq m n) o false || has (kept ws) n) ≡ has (cons_option o (kept ws)) n
    by None = refl
    by (Some m) = refl

-- an end has kept the resolver of a number
pub was-kept : (end : Side) (n : ℤ) (before : List Line) → was_kept end n before ≡ has (kept (said_by end before)) n
was-kept end n before = any-said (is_keep_of n) end before ∙ kept-said n (said_by end before)
