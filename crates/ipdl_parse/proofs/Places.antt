-- The machine refuses at the syntax place.
use Rattle.std.proofs.Common.{◌≡◌, ℕ, suc, ◌-◌, ◌≤◌, List, [], ◌∷◌, ◌++◌, length, take, Some, None, refl, sym, ap, subst, ◌∙◌, arith, append_assoc, length-append, add-one}
use Rattle.ipdl_base.specs.declared.token.Token.{Token}
use Rattle.ipdl_syntax.specs.declared.tree.FileKind.{FileKind}
use Rattle.tree_reader.specs.Machine.{Form, FileState, begin, refusal}
use Rattle.ipdl_base.specs.declared.finding.Place.{Place}
use Rattle.ipdl_parse.specs.declared.parser.SyntaxFault.{SyntaxFault}
use Rattle.ipdl_parse.specs.declared.parser.SyntaxFault.TheVariants.{Fault, NoMemory}
use Rattle.ipdl_parse.specs.Faults.{IsFault, IsFaultAt}
use Rattle.ipdl_parse.specs.Place.{HasTree, GoesOn, IsSyntaxPlace}
use Rattle.ipdl_parse.proofs.Runs.{Refusing, stops}
use Rattle.ipdl_parse.proofs.Completed.{completed}
use Rattle.ipdl_parse.proofs.Whole.{tree_taken, taken_tree}

taken_front : (xs ys : List Token) → take (length xs) (xs ++ ys) ≡ xs
taken_front [] ys = grind arith
taken_front (x ∷ xs) ys = ap (λ (z : List Token). x ∷ z) (taken_front xs ys)

one_more : (xs : List Token) (y : Token) (ys : List Token) → take (suc (length xs)) (xs ++ y ∷ ys) ≡ xs ++ y ∷ []
one_more [] y ys = refl
one_more (x ∷ xs) y ys = ap (λ (z : List Token). x ∷ z) (one_more xs y ys)

-- the tokens that were taken, and those that are left at the refusal
module _ (kind : FileKind) (front : List Token) (forms : List Form) (at : FileState) (goes : (more : List Token) → refusal [] (begin kind) (front ++ more) ≡ refusal forms at more) where
  front_goes_on : GoesOn kind front
  front_goes_on = let c = completed forms at in (c.0, taken_tree kind (front ++ c.0) (goes c.0 ∙ c.1))

  no_longer : (t : Token) (rest : List Token) → Refusing forms at (t ∷ rest) → GoesOn kind (front ++ t ∷ []) → ⊥
  no_longer t rest refuses (more, (unit, d)) =
      let one = tree_taken kind ((front ++ t ∷ []) ++ more) unit d in
      let two : (front ++ t ∷ []) ++ more ≡ front ++ (t ∷ more) = append_assoc front (t ∷ []) more in
      let three = goes (t ∷ more) ∙ refuses more in
      let four = subst (λ (x : List Token). refusal [] (begin kind) x ≡ None) two one in
      absurd (cc)

  place_of : (rest : List Token) → Refusing forms at rest → IsSyntaxPlace kind (front ++ rest) (length front)
  place_of [] refuses = record {
    within = omega (arith, length-append front []);
    goes_on = subst (λ (x : List Token). GoesOn kind x) (sym (taken_front front [])) front_goes_on;
    longest = λ h g. absurd (omega (arith, length-append front []));
  }
  place_of (t ∷ rest) refuses = record {
    within = omega (arith, length-append front (t ∷ rest));
    goes_on = subst (λ (x : List Token). GoesOn kind x) (sym (taken_front front (t ∷ rest))) front_goes_on;
    longest = λ h g. no_longer t rest refuses (subst (λ (x : List Token). GoesOn kind x) (one_more front t rest) (subst (λ (n : ℕ). GoesOn kind (take n (front ++ t ∷ rest))) (add-one (length front)) g));
  }

count_front : (front rest tokens : List Token) (left : ℕ) → tokens ≡ front ++ rest → length rest ≡ left → length front ≡ length tokens - left
count_front front rest tokens left e c =
    let f = ap (λ (x : List Token). length x) e ∙ length-append front rest in omega (arith, f)

pub refuses_at_place : (kind : FileKind) (tokens : List Token) (left : ℕ) → refusal [] (begin kind) tokens ≡ Some left → IsSyntaxPlace kind tokens (length tokens - left)
refuses_at_place kind tokens left h =
    let s = stops [] (begin kind) tokens left h in
    subst (λ (n : ℕ). IsSyntaxPlace kind tokens n) (count_front s.taken s.rest tokens left s.whole s.count)
    (subst (λ (x : List Token). IsSyntaxPlace kind x (length s.taken)) (sym s.whole) (place_of kind s.taken s.forms_then s.at_then s.goes s.rest s.refuses))

pub refuses_tree : (kind : FileKind) (tokens : List Token) (left : ℕ) → refusal [] (begin kind) tokens ≡ Some left → HasTree kind tokens → ⊥
refuses_tree kind tokens left h (unit, d) = let e = tree_taken kind tokens unit d in absurd (cc)

pub left_within : (kind : FileKind) (tokens : List Token) (left : ℕ) → refusal [] (begin kind) tokens ≡ Some left → left ≤ length tokens
left_within kind tokens left h =
    let s = stops [] (begin kind) tokens left h in
    omega (arith, ap (λ (x : List Token). length x) s.whole, length-append s.taken s.rest, s.count)

pub fault_of : (kind : FileKind) (tokens : List Token) (end : Place) (left : ℕ) (fault : SyntaxFault) → refusal [] (begin kind) tokens ≡ Some left → IsFaultAt tokens end (length tokens - left) fault → IsFault kind tokens end fault
fault_of kind tokens end left (Fault index place) h (e, p) =
    (refuses_tree kind tokens left h, subst (λ (n : ℕ). IsSyntaxPlace kind tokens n) (sym e) (refuses_at_place kind tokens left h), p)
fault_of kind tokens end left NoMemory h d = absurd d
