-- In which block a statement is.
use Rattle.std.proofs.Common.{◌≡◌, true, false, List, [], ◌∷◌, ◌++◌, fold, Option, Some, None, ◌⊎◌, inl, inr, refl, sym, ap, ◌∙◌, subst, append-nil, append_assoc}
use Rattle.std.specs.Prelude.{IsSomeAnd}
use Rattle.std.specs.List.{list_any}
use Rattle.std.specs.Option.{option_map, option_map_or}
use Rattle.std.proofs.lemmas.Bool.{true≢false, or_parts}
use Rattle.std.proofs.lemmas.List.Sums.{fold-append}
use Rattle.script_reader.specs.declared.statement.Statement.{Statement}
use Rattle.script_reader.specs.declared.statement.Statement.TheVariants as forms
use Rattle.handler_script.specs.Blocks.{opens, closes, StandsIn, IsInBlock}
use Rattle.handler_script.specs.Knowing.{place_after, place_of}

abbrev Place : Type 0
Place = Statement × List Statement

-- after one more statement
pub place_more : (before : List Statement) (s : Statement) → place_of (before ++ s ∷ []) ≡ place_after (place_of before) s
place_more before s = fold-append place_after None before (s ∷ [])

pub place_opened : (place : Option Place) (s : Statement) → opens s ≡ true → place_after place s ≡ Some (s, [])
place_opened place (forms.Main side) e = refl
place_opened place (forms.On side name) e = refl
place_opened place s e = absurd (true≢false (sym e))

pub place_kept : (place : Option Place) (s : Statement) → closes s ≡ false → place_after place s ≡ option_map (λ p. (p.0, p.1 ++ s ∷ [])) place
place_kept place (forms.Main side) e = absurd (true≢false e)
place_kept place (forms.On side name) e = absurd (true≢false e)
place_kept place forms.End e = absurd (true≢false e)
place_kept place s e = refl

places : (first : Statement) (above more : List Statement) → list_any closes more ≡ false → fold place_after (Some (first, above)) more ≡ Some (first, above ++ more)
places first above [] e = ap (λ (ys : List Statement). Some (first, ys)) (sym (append-nil above))
places first above (x ∷ more) e =
    let both = or_parts (closes x) (list_any closes more) e in
    ap (λ (p : Option Place). fold place_after p more) (place_kept (Some (first, above)) x both.0)
    ∙ (places first (above ++ x ∷ []) more both.1 ∙ ap (λ (ys : List Statement). Some (first, ys)) (append_assoc above (x ∷ []) more))

-- what is in a block has its place there
pub has_place : (before : List Statement) (first : Statement) (above : List Statement) → StandsIn before first above → place_of before ≡ Some (first, above)
has_place before first above h =
    ap place_of h.split
    ∙ (fold-append place_after None h.outer (first ∷ above)
    ∙ (ap (λ (p : Option Place). fold place_after p above) (place_opened (place_of h.outer) first h.opened) ∙ places first [] above h.unclosed))

-- and the converse: a place after statements is a block that one of them opened, or one that was open before them, and none of them closes it
abbrev WasThere : Option Place → List Statement → Statement → List Statement → Type 0
WasThere place more first above = (earlier : List Statement) × (place ≡ Some (first, earlier)) × (above ≡ earlier ++ more) × (list_any closes more ≡ false)

opened_by : (x : Statement) (more : List Statement) (first : Statement) (above : List Statement) → opens x ≡ true → WasThere (Some (x, [])) more first above → StandsIn (x ∷ more) first above
opened_by x more first above e h =
    let same : x ≡ first = ap (λ (o : Option Place). option_map_or (λ q. q.0) o first) h.1 in
    let none : [] ≡ h.0 = ap (λ (o : Option Place). option_map_or (λ q. q.1) o []) h.1 in
    let rest : more ≡ above = ap (λ (ys : List Statement). ys ++ more) none ∙ sym h.2 in
    let P : List Statement → Type 0 = λ ys. list_any closes ys ≡ false in
    record {
      outer = [];
      split = ap (λ (y : Statement). y ∷ more) same ∙ ap (λ (ys : List Statement). first ∷ ys) rest;
      opened = ap opens (sym same) ∙ e;
      unclosed = subst P rest h.3;
    }

one_step : (place : Option Place) (x : Statement) (more : List Statement) (first : Statement) (above : List Statement) → WasThere (place_after place x) more first above → StandsIn (x ∷ more) first above ⊎ WasThere place (x ∷ more) first above
one_step place (forms.Main side) more first above h = inl (opened_by (forms.Main side) more first above refl h)
one_step place (forms.On side name) more first above h = inl (opened_by (forms.On side name) more first above refl h)
one_step place forms.End more first above h = absurd (let no : ⊥ = cc (h.1) in no)
one_step None s more first above h = absurd (let no : ⊥ = cc (h.1) in no)
one_step (Some p) s more first above h = inr (p.1, ap (λ (f : Statement). Some (f, p.1)) (ap (λ (o : Option Place). option_map_or (λ q. q.0) o first) h.1), h.2 ∙ (ap (λ (ys : List Statement). ys ++ more) (sym (ap (λ (o : Option Place). option_map_or (λ q. q.1) o []) h.1)) ∙ append_assoc p.1 (s ∷ []) more), h.3)

came : (place : Option Place) (more : List Statement) (first : Statement) (above : List Statement) → fold place_after place more ≡ Some (first, above) → StandsIn more first above ⊎ WasThere place more first above
came place [] first above e = inr (above, e, sym (append-nil above), refl)
came place (x ∷ more) first above e = elim (came (place_after place x) more first above e) [
  | inl h ↦ inl (record { outer = x ∷ h.outer; split = ap (λ (ys : List Statement). x ∷ ys) h.split; opened = h.opened; unclosed = h.unclosed })
  | inr h ↦ one_step place x more first above h
]

pub stands : (before : List Statement) (first : Statement) (above : List Statement) → place_of before ≡ Some (first, above) → StandsIn before first above
stands before first above e = elim (came None before first above e) [ inl h ↦ h | inr h ↦ absurd (let no : ⊥ = cc (h.1) in no) ]

-- so what is true of the block is true of the place, ..
pub at_place : (before : List Statement) (Holds : Statement → List Statement → Type 0) → IsInBlock before Holds → IsSomeAnd (place_of before) (λ p. Holds p.0 p.1)
at_place before Holds h =
    let P : Option Place → Type 0 = λ o. IsSomeAnd o (λ p. Holds p.0 p.1) in
    subst P (sym (has_place before h.0 h.1 h.2)) h.3

-- .. and the converse
pub in_block : (before : List Statement) (Holds : Statement → List Statement → Type 0) → IsSomeAnd (place_of before) (λ p. Holds p.0 p.1) → IsInBlock before Holds
in_block before Holds h = by (place_of before) refl h
  where
    by : (o : Option Place) → place_of before ≡ o → IsSomeAnd o (λ p. Holds p.0 p.1) → IsInBlock before Holds
    by None e h = absurd h
    by (Some p) e h = (p.0, p.1, stands before p.0 p.1 e, h)
