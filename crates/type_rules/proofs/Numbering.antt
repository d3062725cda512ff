-- How structs and unions are numbered.
use Rattle.std.proofs.Common.{◌≡◌, ℕ, ◌+◌, ◌<◌, List, [], ◌∷◌, ◌++◌, length, map, take, get_or, Option, Some, ◌⊎◌, inl, inr, refl, sym, ap, subst, ◌∙◌, arith, append-nil, append_assoc}
use Rattle.std.specs.Prelude.{slice_get, option_and_then}
use Rattle.std.specs.List.{Contains}
use Rattle.std.proofs.lemmas.List.{take_more, map-append, length_push, length-take}
use Rattle.std.proofs.lemmas.List.Elements.{Contains-append_cases}
use Rattle.std.proofs.lemmas.Option.{none-some, option_and_then_some, slice_get_read}
use Rattle.ipdl_syntax.specs.declared.program.Entry.{Entry}
use Rattle.ipdl_syntax.specs.declared.tree.StructDecl.{StructDecl}
use Rattle.ipdl_syntax.specs.declared.tree.UnionDecl.{UnionDecl}
use Rattle.name_table.specs.declared.decl.DeclId.TheVariants.{Struct, Union}
use Rattle.name_table.specs.Decls.{struct_of, union_of}
use Rattle.type_rules.specs.Compounds.{NumberedType, struct, union, IsIn, AreNumbers, AreOfFile, number_of, AllNumbered}
use Rattle.type_rules.specs.declared.compounds.FileNumbers.{FileNumbers}
use Rattle.findings.proofs.Indexed.{slice_get-push, slice_get-last}
use Rattle.type_rules.proofs.Lists.{any_of_map, slice_get-left}

-- no declarations yet
pub numbers_none : {X : Type 0} (make : X → NumberedType) (all : List NumberedType) → AreNumbers make [] [] all all
numbers_none make all = record { long = refl; grown = sym (append-nil all); each = λ place x h. absurd (none-some x h) }

numbers_push : {X : Type 0} (make : X → NumberedType) (xs : List X) (x : X) (numbers : List ℕ) (old mid : List NumberedType) → AreNumbers make xs numbers old mid → AreNumbers make (xs ++ x ∷ []) (numbers ++ length mid ∷ []) old (mid ++ make x ∷ [])
numbers_push {X} make xs x numbers old mid before = record {
  long = length_push numbers (length mid) ∙ ap (λ n. n + 1) before.long ∙ sym (length_push xs x);
  grown = ap (λ l. l ++ make x ∷ []) before.grown ∙ append_assoc old (map make xs) (make x ∷ []) ∙ ap (λ l. old ++ l) (sym (map-append make xs (x ∷ [])));
  each = λ place z h. elim (slice_get-push xs x place z h) [
    | inl e ↦ (let o = before.each place z e in (o.0, slice_get-left numbers (length mid ∷ []) place o.0 o.1, slice_get-left mid (make x ∷ []) o.0 (make z) o.2))
    | inr e ↦ (
        let here : length numbers ≡ place = before.long ∙ sym e.0 in
        let P : ℕ → Type 0 = λ k. slice_get (numbers ++ length mid ∷ []) k ≡ Some (length mid) in
        let Q : X → Type 0 = λ y. slice_get (mid ++ make x ∷ []) (length mid) ≡ Some (make y) in
        (length mid, subst P here (slice_get-last numbers (length mid)), subst Q e.1 (slice_get-last mid (make x)))
        )
  ];
}

-- one more
pub numbers_turn : {X : Type 0} (make : X → NumberedType) (xs : List X) (i : ℕ) (x : X) (numbers more : List ℕ) (old mid new : List NumberedType) → i < length xs → x ≡ get_or xs i x → more ≡ numbers ++ length mid ∷ [] → new ≡ mid ++ make x ∷ [] → AreNumbers make (take i xs) numbers old mid → AreNumbers make (take (i + 1) xs) more old new
numbers_turn {X} make xs i x numbers more old mid new lt is longer grown before =
    let P : X → Type 0 = λ y. AreNumbers make (take i xs ++ y ∷ []) (numbers ++ length mid ∷ []) old (mid ++ make x ∷ []) in
    rw (take_more xs i x lt, longer, grown) (subst P is (numbers_push make (take i xs) x numbers old mid before))

-- what is in some files is in these and more files
in_left : (es : List Entry) (e : Entry) (c : NumberedType) → IsIn es c → IsIn (es ++ e ∷ []) c
in_left es e (struct file s) (place, at) =
    (place, option_and_then_some (λ (e : Entry). slice_get e.unit.structs place) (slice_get es file) s at (λ x here there. ap (option_and_then (λ (e : Entry). slice_get e.unit.structs place)) (slice_get-left es (e ∷ []) file x here) ∙ there))
in_left es e (union file u) (place, at) =
    (place, option_and_then_some (λ (e : Entry). slice_get e.unit.unions place) (slice_get es file) u at (λ x here there. ap (option_and_then (λ (e : Entry). slice_get e.unit.unions place)) (slice_get-left es (e ∷ []) file x here) ∙ there))

-- an element of a list that is made of another, by its index there
made : {X : Type 0} (make : X → NumberedType) (xs : List X) (c : NumberedType) → Contains (map make xs) c → (k : ℕ) × (x : X) × (slice_get xs k ≡ Some x) × (make x ≡ c)
made make xs c (k, lt, at) = let h = any_of_map make (λ z. z ≡ c) xs (k, c, lt, at, refl) in (h.0, h.1, slice_get_read xs (length xs) h.0 h.1 refl h.2 (sym h.3), h.4)

kept : {X : Type 0} (make : X → NumberedType) (xs : List X) (numbers : List ℕ) (old new : List NumberedType) → AreNumbers make xs numbers old new → (n : ℕ) (c : NumberedType) → slice_get old n ≡ Some c → slice_get new n ≡ Some c
kept make xs numbers old new are n c h = ap (λ (l : List NumberedType). slice_get l n) are.grown ∙ slice_get-left old (map make xs) n c h

grown_cases : {X : Type 0} (make : X → NumberedType) (xs : List X) (numbers : List ℕ) (old new : List NumberedType) → AreNumbers make xs numbers old new → (c : NumberedType) → Contains new c → Contains old c ⊎ Contains (map make xs) c
grown_cases make xs numbers old new are c h = let P : List NumberedType → Type 0 = λ l. Contains l c in Contains-append_cases old (map make xs) c (subst P are.grown h)

numbered_struct : (es : List Entry) (e : Entry) (all new : List NumberedType) (files : List FileNumbers) (f : FileNumbers) → AllNumbered es all files → AreOfFile (length es) e.unit f all new
    → (file place : ℕ) (s : StructDecl) → struct_of (es ++ e ∷ []) file place ≡ Some s → (n : ℕ) × (number_of (files ++ f ∷ []) (Struct file place) ≡ Some n) × (slice_get new n ≡ Some (struct file s))
numbered_struct es e all new files f before of file place s h = option_and_then_some (λ (e : Entry). slice_get e.unit.structs place) (slice_get (es ++ e ∷ []) file) s h (λ x here there.
    let G : FileNumbers → Option ℕ = λ f. slice_get f.structs.items place in
    elim (slice_get-push es e file x here) [
      | inl old ↦ (
          let o = before.structs file place s (ap (option_and_then (λ (e : Entry). slice_get e.unit.structs place)) old ∙ there) in
          let kept_number = option_and_then_some G (slice_get files file) o.0 o.1 (λ y at is. ap (option_and_then G) (slice_get-left files (f ∷ []) file y at) ∙ is) in
          (o.0, kept_number, kept _ _ _ _ _ of.unions o.0 (struct file s) (kept _ _ _ _ _ of.structs o.0 (struct file s) o.2))
          )
      | inr last ↦ (
          let o = of.structs.each place s (ap (λ (e : Entry). slice_get e.unit.structs place) last.1 ∙ there) in
          let at : slice_get (files ++ f ∷ []) file ≡ Some f = ap (slice_get (files ++ f ∷ [])) (last.0 ∙ sym before.long) ∙ slice_get-last files f in
          let P : ℕ → Type 0 = λ n. slice_get new o.0 ≡ Some (struct n s) in
          (o.0, ap (option_and_then G) at ∙ o.1, subst P (sym last.0) (kept _ _ _ _ _ of.unions o.0 (struct (length es) s) o.2))
          )
    ])

numbered_union : (es : List Entry) (e : Entry) (all new : List NumberedType) (files : List FileNumbers) (f : FileNumbers) → AllNumbered es all files → AreOfFile (length es) e.unit f all new
    → (file place : ℕ) (u : UnionDecl) → union_of (es ++ e ∷ []) file place ≡ Some u → (n : ℕ) × (number_of (files ++ f ∷ []) (Union file place) ≡ Some n) × (slice_get new n ≡ Some (union file u))
numbered_union es e all new files f before of file place u h = option_and_then_some (λ (e : Entry). slice_get e.unit.unions place) (slice_get (es ++ e ∷ []) file) u h (λ x here there.
    let G : FileNumbers → Option ℕ = λ f. slice_get f.unions.items place in
    elim (slice_get-push es e file x here) [
      | inl old ↦ (
          let o = before.unions file place u (ap (option_and_then (λ (e : Entry). slice_get e.unit.unions place)) old ∙ there) in
          let kept_number = option_and_then_some G (slice_get files file) o.0 o.1 (λ y at is. ap (option_and_then G) (slice_get-left files (f ∷ []) file y at) ∙ is) in
          (o.0, kept_number, kept _ _ _ _ _ of.unions o.0 (union file u) (kept _ _ _ _ _ of.structs o.0 (union file u) o.2))
          )
      | inr last ↦ (
          let o = of.unions.each place u (ap (λ (e : Entry). slice_get e.unit.unions place) last.1 ∙ there) in
          let at : slice_get (files ++ f ∷ []) file ≡ Some f = ap (slice_get (files ++ f ∷ [])) (last.0 ∙ sym before.long) ∙ slice_get-last files f in
          let P : ℕ → Type 0 = λ n. slice_get new o.0 ≡ Some (union n u) in
          (o.0, ap (option_and_then G) at ∙ o.1, subst P (sym last.0) o.2)
          )
    ])

numbered_only : (es : List Entry) (e : Entry) (all new : List NumberedType) (files : List FileNumbers) (f : FileNumbers) → AllNumbered es all files → AreOfFile (length es) e.unit f all new → (c : NumberedType) → Contains new c → IsIn (es ++ e ∷ []) c
numbered_only es e all new files f before of c h =
    let n = length es in
    elim (grown_cases _ _ _ _ _ of.unions c h) [
      | inr there ↦ (
          let m = made (union n) e.unit.unions c there in
          let Q : NumberedType → Type 0 = IsIn (es ++ e ∷ []) in
          subst Q m.3 (m.0, ap (option_and_then (λ (e : Entry). slice_get e.unit.unions m.0)) (slice_get-last es e) ∙ m.2)
          )
      | inl mid ↦ elim (grown_cases _ _ _ _ _ of.structs c mid) [
        | inr there ↦ (
            let m = made (struct n) e.unit.structs c there in
            let Q : NumberedType → Type 0 = IsIn (es ++ e ∷ []) in
            subst Q m.3 (m.0, ap (option_and_then (λ (e : Entry). slice_get e.unit.structs m.0)) (slice_get-last es e) ∙ m.2)
            )
        | inl old ↦ in_left es e c (before.only c old)
      ]
    ]

numbered_push : (es : List Entry) (e : Entry) (all new : List NumberedType) (files : List FileNumbers) (f : FileNumbers) → AllNumbered es all files → AreOfFile (length es) e.unit f all new → AllNumbered (es ++ e ∷ []) new (files ++ f ∷ [])
numbered_push es e all new files f before of = record {
  long = length_push files f ∙ ap (λ n. n + 1) before.long ∙ sym (length_push es e);
  structs = numbered_struct es e all new files f before of;
  unions = numbered_union es e all new files f before of;
  only = numbered_only es e all new files f before of;
}

-- no file yet
pub numbered_none : AllNumbered [] [] []
numbered_none = record {
  long = refl;
  structs = λ file place s h. absurd (none-some s h);
  unions = λ file place u h. absurd (none-some u h);
  only = λ c h. absurd (omega (arith, h.1));
}

-- one more file
pub numbered_turn : (program : List Entry) (i : ℕ) (e : Entry) (all new : List NumberedType) (files more : List FileNumbers) (f : FileNumbers) → i < length program → e ≡ get_or program i e → more ≡ files ++ f ∷ []
    → AllNumbered (take i program) all files → AreOfFile i e.unit f all new → AllNumbered (take (i + 1) program) new more
numbered_turn program i e all new files more f lt is longer before of =
    let here : i ≡ length (take i program) = omega (arith, length-take i program) in
    let P : Entry → Type 0 = λ x. AllNumbered (take i program ++ x ∷ []) new (files ++ f ∷ []) in
    let Q : ℕ → Type 0 = λ n. AreOfFile n e.unit f all new in
    rw (take_more program i e lt, longer) (subst P is (numbered_push (take i program) e all new files f before (subst Q here of)))
