-- What structs and unions need.
use Rattle.std.proofs.Common.{◌≡◌, ℕ, ◌+◌, ◌<◌, false, List, [], ◌∷◌, ◌++◌, length, map, take, get_or, Option, Some, None, inl, inr, refl, sym, ap, subst, ◌∙◌, arith}
use Rattle.std.specs.Prelude.{slice_get}
use Rattle.std.specs.List.{Contains}
use Rattle.std.proofs.lemmas.Bool.{true≢false}
use Rattle.std.proofs.lemmas.List.{take_more, map-append, length_push}
use Rattle.std.proofs.lemmas.List.Elements.{Contains-push, Contains-push_cases, Contains-append_left}
use Rattle.std.proofs.lemmas.List.Quantifiers.{Any-push}
use Rattle.std.proofs.lemmas.Option.{none-some}
use Rattle.findings.proofs.Elements.{any_cases, any_left}
use Rattle.ipdl_syntax.specs.declared.program.Entry.{Entry}
use Rattle.ipdl_syntax.specs.declared.tree.Base.{Base, Named, Unique'}
use Rattle.least_fixed_points.specs.declared.nodes.Node.{Node}
use Rattle.name_table.specs.declared.decl.DeclId.{DeclId}
use Rattle.name_table.specs.declared.decl.Found.{Found}
use Rattle.name_table.specs.declared.decl.Found.TheVariants as found
use Rattle.name_table.specs.Decls.{FindsOne}
use Rattle.name_table.specs.Finds.{Finds, Counts}
use Rattle.type_rules.specs.Compounds.{NumberedType, number_of, number_found, told}
use Rattle.type_rules.specs.Parts.{IsPart, IsFree, AddsPart, AreParts, IsNodeOf, AreNodes}
use Rattle.type_rules.specs.declared.compounds.Compound.{Compound}
use Rattle.type_rules.specs.declared.compounds.FileNumbers.{FileNumbers}
use Rattle.type_rules.specs.declared.parts.Parts.{Parts}
use Rattle.findings.proofs.Indexed.{slice_get-push, slice_get-last}
use Rattle.type_rules.proofs.Lists.{slice_get-left}

free_finds : (program : List Entry) (files : List FileNumbers) (file : ℕ) (name : List ℕ) (argument : Option (List ℕ)) (finds : Found) (d : DeclId) (n : ℕ) → Counts (Finds program file name argument) finds → number_found files finds ≡ None → FindsOne program file name argument d → number_of files d ≡ Some n → ⊥
free_finds program files file name argument found.None d n counts none one at = counts d one.0
free_finds program files file name argument (found.One e) d n counts none one at = none-some n (sym none ∙ ap (number_of files) (one.1 e counts.0) ∙ at)
free_finds program files file name argument (found.Many e g) d n counts none one at = counts.2 (one.1 e counts.0 ∙ sym (one.1 g counts.1))

-- no base both has a number and has no number
pub not_both : (program : List Entry) (files : List FileNumbers) (file : ℕ) (base : Base) (n : ℕ) → IsFree program files file base → IsPart program files file base n → ⊥
not_both program files file (Named name argument) n (finds, counts, none) (d, one, at) = free_finds program files file name argument finds d n counts none one at
not_both program files file (Unique' at nullable inner after place) n free part = not_both program files file inner n free part

-- no bases
pub parts_none : (program : List Entry) (files : List FileNumbers) (file : ℕ) (parts : Parts) → parts.numbers.items ≡ [] → parts.has_free ≡ false → AreParts program files file [] parts
parts_none program files file parts empty unset = record {
  each = λ base h. absurd (omega (arith, h.1));
  only = λ n h. absurd (let P : List ℕ → Type 0 = λ l. Contains l n in let k = subst P empty h in let x : ⊥ = omega (arith, k.1) in x);
  free = (λ h. absurd (true≢false (sym h ∙ unset)), λ h. absurd (omega (arith, h.2)));
}

parts_push : (program : List Entry) (files : List FileNumbers) (file : ℕ) (bases : List Base) (base : Base) (old new : Parts) → AreParts program files file bases old → AddsPart program files file base old new → AreParts program files file (bases ++ base ∷ []) new
parts_push program files file bases base old new before (inl (free, same, set)) =
    let P : ℕ → List ℕ → Type 0 = λ n l. Contains l n in
    record {
      each = λ b h. elim (Contains-push_cases bases base b h) [
        | inl there ↦ elim (before.each b there) [ inl f ↦ inl f | inr p ↦ inr (p.0, p.1, subst (P p.0) (sym same) p.2) ]
        | inr is ↦ (let F : Base → Type 0 = IsFree program files file in inl (subst F is free))
      ];
      only = λ n h. any_left (λ b. IsPart program files file b n) bases (base ∷ []) (before.only n (subst (P n) same h));
      free = (λ h. Any-push (IsFree program files file) bases base free, λ h. set);
    }
parts_push program files file bases base old new before (inr (n, part, more, same)) =
    let P : ℕ → List ℕ → Type 0 = λ n l. Contains l n in
    record {
      each = λ b h. elim (Contains-push_cases bases base b h) [
        | inl there ↦ elim (before.each b there) [ inl f ↦ inl f | inr p ↦ inr (p.0, p.1, subst (P p.0) (sym more) (Contains-append_left old.numbers.items (n ∷ []) p.0 p.2)) ]
        | inr is ↦ (let F : Base → Type 0 = λ b. IsPart program files file b n in inr (n, subst F is part, subst (P n) (sym more) (Contains-push old.numbers.items n)))
      ];
      only = λ m h. elim (Contains-push_cases old.numbers.items n m (subst (P m) more h)) [
        | inl there ↦ any_left (λ b. IsPart program files file b m) bases (base ∷ []) (before.only m there)
        | inr is ↦ (let F : ℕ → Type 0 = IsPart program files file base in Any-push (λ b. IsPart program files file b m) bases base (subst F is part))
      ];
      free = (
        λ h. any_left (IsFree program files file) bases (base ∷ []) (before.free.0 (sym same ∙ h)),
        λ h. elim (any_cases (IsFree program files file) bases base h) [ inl f ↦ same ∙ before.free.1 f | inr f ↦ absurd (not_both program files file base n f part) ],
      );
    }

-- one base more
pub parts_turn : {X : Type 0} (base_of : X → Base) (program : List Entry) (files : List FileNumbers) (file : ℕ) (xs : List X) (i : ℕ) (x : X) (old new : Parts) → i < length xs → x ≡ get_or xs i x → AreParts program files file (map base_of (take i xs)) old → AddsPart program files file (base_of x) old new → AreParts program files file (map base_of (take (i + 1) xs)) new
parts_turn {X} base_of program files file xs i x old new lt is before adds =
    let P : X → Type 0 = λ y. AreParts program files file (map base_of (take i xs) ++ base_of y ∷ []) new in
    rw (take_more xs i x lt, map-append base_of (take i xs) (get_or xs i x ∷ [])) (subst P is (parts_push program files file (map base_of (take i xs)) (base_of x) old new before adds))

-- no node yet
pub nodes_none : (program : List Entry) (files : List FileNumbers) → AreNodes program files [] []
nodes_none program files = record { long = refl; each = λ k c h. absurd (none-some c h) }

nodes_push : (program : List Entry) (files : List FileNumbers) (all : List NumberedType) (c : NumberedType) (nodes : List Node) (node : Node) → AreNodes program files all nodes → IsNodeOf program files c node → AreNodes program files (all ++ c ∷ []) (nodes ++ node ∷ [])
nodes_push program files all c nodes node before is = record {
  long = length_push nodes node ∙ ap (λ n. n + 1) before.long ∙ sym (length_push all c);
  each = λ k d h. elim (slice_get-push all c k d h) [
    | inl e ↦ (let o = before.each k d e in (o.0, slice_get-left nodes (node ∷ []) k o.0 o.1, o.2))
    | inr e ↦ (
        let here : length nodes ≡ k = before.long ∙ sym e.0 in
        let P : ℕ → Type 0 = λ k. slice_get (nodes ++ node ∷ []) k ≡ Some node in
        let Q : NumberedType → Type 0 = λ z. IsNodeOf program files z node in
        (node, subst P here (slice_get-last nodes node), subst Q e.1 is)
        )
  ];
}

-- one more
pub nodes_turn : (program : List Entry) (files : List FileNumbers) (xs : List Compound) (i : ℕ) (x : Compound) (nodes more : List Node) (node : Node) → i < length xs → x ≡ get_or xs i x → more ≡ nodes ++ node ∷ []
    → AreNodes program files (map told (take i xs)) nodes → IsNodeOf program files (told x) node → AreNodes program files (map told (take (i + 1) xs)) more
nodes_turn program files xs i x nodes more node lt is longer before of =
    let P : Compound → Type 0 = λ y. AreNodes program files (map told (take i xs) ++ told y ∷ []) (nodes ++ node ∷ []) in
    rw (take_more xs i x lt, map-append told (take i xs) (get_or xs i x ∷ []), longer) (subst P is (nodes_push program files (map told (take i xs)) (told x) nodes node before of))
