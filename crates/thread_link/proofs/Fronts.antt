-- Prefixes of one history that the two sides have seen.
use Rattle.std.proofs.Common.{◌≡◌, ◌∙◌, List, [], ◌∷◌, ◌++◌, ◌⊎◌, inl, inr, sym, refl, ap, append_assoc, append-nil}
use Rattle.ipdl_base.specs.declared.kinds.Side.{Side}
use Rattle.ipdl_base.specs.declared.kinds.Side.TheVariants as sides
use Rattle.ipdl_base.specs.declared.line.Line.{Line}
use Rattle.ipdl_base.specs.declared.line.What.{What}
use Rattle.script_steps.proofs.Counting.{lines_of-append}
use Rattle.script_steps.specs.Progress.{lines_of}
use Rattle.thread_link.specs.Fronts.{HasSeen}

pub seen-all : (side : Side) (lines : List Line) → HasSeen side lines lines
seen-all side lines = record { rest = []; front = append-nil lines; others = refl }

-- lines of the other side follow
pub seen-more : (side : Side) (seen all new : List Line) → lines_of side new ≡ [] → HasSeen side seen all → HasSeen side seen (all ++ new)
seen-more side seen all new none h = record {
  rest = h.rest ++ new;
  front = sym (append_assoc seen h.rest new) ∙ ap (λ (ls : List Line). ls ++ new) h.front;
  others = lines_of-append side h.rest new ∙ (ap (λ (ws : List What). ws ++ lines_of side new) h.others ∙ none);
}

-- an empty list is a prefix of an empty list
none-append : (xs ys : List What) → xs ++ ys ≡ [] → (xs ≡ []) × (ys ≡ [])
none-append [] ys e = (refl, e)
none-append (x ∷ xs) ys e = absurd (cc)

-- a line is of one of the sides
no-line : (side : Side) (what : What) (lines : List Line) → lines_of sides.Parent (record { side = side; what = what } ∷ lines) ≡ [] → lines_of sides.Child (record { side = side; what = what } ∷ lines) ≡ [] → ⊥
no-line sides.Parent what lines e f = cc
no-line sides.Child what lines e f = cc

of-no-side : (lines : List Line) → lines_of sides.Parent lines ≡ [] → lines_of sides.Child lines ≡ [] → lines ≡ []
of-no-side [] e f = refl
of-no-side (l ∷ ls) e f = absurd (no-line l.side l.what ls e f)

first-of-two : (k rest more : List Line) → rest ≡ k ++ more → lines_of sides.Parent rest ≡ [] → lines_of sides.Child more ≡ [] → k ++ more ≡ k
first-of-two k rest more e none none' =
    let h : lines_of sides.Parent k ++ lines_of sides.Parent more ≡ [] = sym (lines_of-append sides.Parent k more) ∙ (ap (lines_of sides.Parent) (sym e) ∙ none) in
    ap (λ (ls : List Line). k ++ ls) (of-no-side more (none-append (lines_of sides.Parent k) (lines_of sides.Parent more) h).1 none') ∙ append-nil k

second-of-two : (p rest more : List Line) → p ++ rest ≡ more → lines_of sides.Parent rest ≡ [] → lines_of sides.Child more ≡ [] → p ++ rest ≡ p
second-of-two p rest more e none none' =
    let h : lines_of sides.Child p ++ lines_of sides.Child rest ≡ [] = sym (lines_of-append sides.Child p rest) ∙ (ap (lines_of sides.Child) e ∙ none') in
    ap (λ (ls : List Line). p ++ ls) (of-no-side rest none (none-append (lines_of sides.Child p) (lines_of sides.Child rest) h).1) ∙ append-nil p

-- of two prefixes of one history that each lack only lines of the other side, one is the whole
one-is-whole : (p k rest more : List Line) → p ++ rest ≡ k ++ more → lines_of sides.Parent rest ≡ [] → lines_of sides.Child more ≡ [] → (p ++ rest ≡ p) ⊎ (k ++ more ≡ k)
one-is-whole [] k rest more e none none' = inr (first-of-two k rest more e none none')
one-is-whole (x ∷ p) [] rest more e none none' = inl (second-of-two (x ∷ p) rest more e none none')
one-is-whole (x ∷ p) (y ∷ k) rest more e none none' =
    let t : p ++ rest ≡ k ++ more = cc in
    elim (one-is-whole p k rest more t none none') [ inl h ↦ inl (ap (λ (ls : List Line). x ∷ ls) h) | inr h ↦ inr (ap (λ (ls : List Line). y ∷ ls) h) ]

-- what one of the two sides has seen is the whole history
pub longer : (p k all : List Line) → HasSeen sides.Parent p all → HasSeen sides.Child k all → (all ≡ p) ⊎ (all ≡ k)
longer p k all r q = elim (one-is-whole p k r.rest q.rest (r.front ∙ sym q.front) r.others q.others) [ inl h ↦ inl (sym r.front ∙ h) | inr h ↦ inr (sym q.front ∙ h) ]
