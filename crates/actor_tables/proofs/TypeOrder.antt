-- The order of structs and unions.
use Rattle.std.proofs.Common.{◌≡◌, ℕ, ◌<◌, inl, inr, Bool, true, false, List, [], length, get_or, map, Option, Some, None, IsSome, slice_get, option_map, refl, sym, ap, subst, ◌∙◌, arith, true≢false, Less, Equal}
use Rattle.std.specs.Prelude.{◌↔◌, option_and_then}
use Rattle.std.specs.Cmp.{IsTotalOrder, Equal-is, bool_cmp_total}
use Rattle.std.specs.FinMap.{nat_cmp-IsAntisymmetric}
use Rattle.std.specs.List.{All, AllPairs, Contains}
use Rattle.std.specs.Ordering.{nat_cmp, bool_cmp, ordering_then, eq_by_cmp}
use Rattle.std.proofs.lemmas.Cmp.{then_total, on_total, nat_cmp_total}
use Rattle.std.proofs.lemmas.List.{length-map, get_or-map}
use Rattle.std.proofs.lemmas.List.Elements.{All-contains, All-from_recursion, All-map, Contains-get_or}
use Rattle.std.proofs.lemmas.Option.{none-some, same_Some, get_or_from_slice_get, slice_get_within}
use Rattle.ipdl_base.specs.declared.finding.Place.{Place}
use Rattle.ipdl_syntax.specs.Programs.{IsProgram}
use Rattle.ipdl_syntax.specs.Units.{StructIsIn, UnionIsIn}
use Rattle.ipdl_syntax.specs.declared.program.Entry.{Entry}
use Rattle.ipdl_syntax.specs.declared.tree.StructDecl.{StructDecl}
use Rattle.ipdl_syntax.specs.declared.tree.UnionDecl.{UnionDecl}
use Rattle.findings.specs.Order.{place_cmp}
use Rattle.findings.proofs.Order.{place_total, both_equal, same_place}
use Rattle.name_table.specs.declared.decl.DeclId.{DeclId}
use Rattle.name_table.specs.declared.decl.DeclId.TheVariants.{Builtin, Using, Struct, Union, Protocol, Endpoint}
use Rattle.program_schema.specs.Numbers.{AreTypes, place_of, list_number, index_of}
use Rattle.program_schema.proofs.Numberings.{some_of}
use Rattle.type_rules.proofs.Lists.{contains_map}
use Rattle.actor_tables.specs.Numbered.{decl_of, id_of_key, key_cmp, IsBefore, IsKeyBelow, AddsKeys}
use Rattle.actor_tables.specs.declared.numbers.TypeId.{TypeId}
use Rattle.actor_tables.specs.declared.numbers.TypeKey.{TypeKey}
use Rattle.actor_tables.proofs.NamedFiles.{element}

-- Keys

pub key_total : IsTotalOrder key_cmp
key_total = then_total (on_total (λ (k : TypeKey). k.place) place_total) (then_total (on_total (λ (k : TypeKey). k.is_union) bool_cmp_total) (on_total (λ (k : TypeKey). k.index) nat_cmp_total))

same_bool : (a b : Bool) → bool_cmp a b ≡ Equal → a ≡ b
same_bool false false h = refl
same_bool true true h = refl
same_bool false true h = let wrong : ⊥ = cc in absurd wrong
same_bool true false h = let wrong : ⊥ = cc in absurd wrong

abbrev key_at : Place → Bool → ℕ → TypeKey
key_at place is_union index = record { place = place; is_union = is_union; index = index }

same_where_tied : (a b : TypeKey) → key_cmp a b ≡ Equal → a ≡ b
same_where_tied a b h =
    let one = both_equal (place_cmp a.place b.place) _ h in
    let two = both_equal (bool_cmp a.is_union b.is_union) (nat_cmp a.index b.index) one.1 in
    ap (λ p. key_at p a.is_union a.index) (same_place a.place b.place one.0) ∙ ap (λ u. key_at b.place u a.index) (same_bool a.is_union b.is_union two.0) ∙ ap (key_at b.place b.is_union) (nat_cmp-IsAntisymmetric a.index b.index two.1)

pub same_by_tie : (a b : TypeKey) → eq_by_cmp key_cmp a b ≡ true → a ≡ b
same_by_tie a b h = same_where_tied a b ((Equal-is (key_cmp a b)).0 h)

-- Declarations

abbrev D : TypeKey → DeclId
D key = decl_of (id_of_key key)

order_is : (x y : Bool) (f g i j : ℕ) → ordering_then (bool_cmp x y) (nat_cmp i j)
    ≡ ordering_then (nat_cmp (list_number (decl_of (record { file = f; is_union = x; index = i }))) (list_number (decl_of (record { file = g; is_union = y; index = j }))))
    (nat_cmp (index_of (decl_of (record { file = f; is_union = x; index = i }))) (index_of (decl_of (record { file = g; is_union = y; index = j }))))
order_is false false f g i j = refl
order_is false true f g i j = refl
order_is true false f g i j = refl
order_is true true f g i j = refl

-- a key before another is the key of a declaration before another
declared_before : (a b : TypeKey) → IsBefore a b → ordering_then (place_cmp a.place b.place) (ordering_then (nat_cmp (list_number (D a)) (list_number (D b))) (nat_cmp (index_of (D a)) (index_of (D b)))) ≡ Less
declared_before a b less = ap (ordering_then (place_cmp a.place b.place)) (sym (order_is a.is_union b.is_union a.place.file b.place.file a.index b.index)) ∙ less

mapped : {X Y : Type 0} (f : X → Y) (o : Option X) (y : Y) → option_map f o ≡ Some y → (x : X) × (o ≡ Some x) × (f x ≡ y)
mapped f None y h = absurd (none-some y h)
mapped f (Some x) y h = (x, refl, same_Some (f x) y h)

chained : {X Y : Type 0} (f : X → Option Y) (o : Option X) (y : Y) → option_and_then f o ≡ Some y → (x : X) × (o ≡ Some x) × (f x ≡ Some y)
chained f None y h = absurd (none-some y h)
chained f (Some x) y h = (x, refl, h)

-- the place of a struct or a union is in its file, which is there
place_file : (program : List Entry) → IsProgram program → (file : ℕ) (is_union : Bool) (index : ℕ) (p : Place) → place_of program (decl_of (record { file = file; is_union = is_union; index = index })) ≡ Some p → (p.file ≡ file) × (file < length program)
place_file program is file false index p h =
    let s = mapped (λ (x : StructDecl). x.place) (option_and_then (λ (e : Entry). slice_get e.unit.structs index) (slice_get program file)) p h in
    let e = chained (λ (e : Entry). slice_get e.unit.structs index) (slice_get program file) s.0 s.1 in
    let all = All-from_recursion (StructIsIn file) e.0.unit.structs (is.entries file e.0 e.1).places.structs in
    let here : StructIsIn file s.0 = subst (StructIsIn file) (get_or_from_slice_get e.0.unit.structs index s.0 s.0 e.2) (all index s.0 (slice_get_within e.0.unit.structs index s.0 e.2)) in
    (sym (ap (λ (q : Place). q.file) s.2) ∙ here.place, slice_get_within program file e.0 e.1)
place_file program is file true index p h =
    let u = mapped (λ (x : UnionDecl). x.place) (option_and_then (λ (e : Entry). slice_get e.unit.unions index) (slice_get program file)) p h in
    let e = chained (λ (e : Entry). slice_get e.unit.unions index) (slice_get program file) u.0 u.1 in
    let all = All-from_recursion (UnionIsIn file) e.0.unit.unions (is.entries file e.0 e.1).places.unions in
    let here : UnionIsIn file u.0 = subst (UnionIsIn file) (get_or_from_slice_get e.0.unit.unions index u.0 u.0 e.2) (all index u.0 (slice_get_within e.0.unit.unions index u.0 e.2)) in
    (sym (ap (λ (q : Place). q.file) u.2) ∙ here.place, slice_get_within program file e.0 e.1)

some_there : {X : Type 0} (o : Option X) (x : X) → o ≡ Some x → IsSome o
some_there {X} o x e = let P : Option X → Type 0 = λ p. IsSome p in subst P (sym e) refl

module _ (program : List Entry) (keys : List TypeKey) (is : IsProgram program) (exact : (key : TypeKey) → Contains keys key ↔ IsKeyBelow program (length program) key) where
  abbrev types : List DeclId
  types = map decl_of (map id_of_key keys)

  key_place : (key : TypeKey) → Contains keys key → place_of program (D key) ≡ Some key.place
  key_place key h =
      let k = (exact key).0 h in
      let same = (place_file program is k.0 key.is_union key.index key.place k.2).0 in
      subst (λ (f : ℕ). place_of program (decl_of (record { file = f; is_union = key.is_union; index = key.index })) ≡ Some key.place) (sym same) k.2

  contains_place : (file : ℕ) (is_union : Bool) (index : ℕ) (p : Place) → place_of program (decl_of (record { file = file; is_union = is_union; index = index })) ≡ Some p → Contains types (decl_of (record { file = file; is_union = is_union; index = index }))
  contains_place file is_union index p h =
      let at = place_file program is file is_union index p h in
      let key : TypeKey = record { place = p; is_union = is_union; index = index } in
      let there : Contains keys key = (exact key).1 (file, at.1, h) in
      subst (λ (f : ℕ). Contains types (decl_of (record { file = f; is_union = is_union; index = index }))) at.0 (contains_map decl_of (map id_of_key keys) (id_of_key key) (contains_map id_of_key keys key there))

  in_types : (d : DeclId) → IsSome (place_of program d) → Contains types d
  in_types (Struct file index) h = let p = some_of (place_of program (Struct file index)) h in contains_place file false index p.0 p.1
  in_types (Union file index) h = let p = some_of (place_of program (Union file index)) h in contains_place file true index p.0 p.1
  in_types (Builtin type) h = absurd (true≢false (sym h))
  in_types (Using file index) h = absurd (true≢false (sym h))
  in_types (Protocol file) h = absurd (true≢false (sym h))
  in_types (Endpoint file managed) h = absurd (true≢false (sym h))

  types_there : All (λ (d : DeclId). IsSome (place_of program d)) types
  types_there =
      All-map (λ (d : DeclId). IsSome (place_of program d)) decl_of (map id_of_key keys)
      (All-map (λ (id : TypeId). IsSome (place_of program (decl_of id))) id_of_key keys
      (λ k d below. some_there (place_of program (D (get_or keys k d))) (get_or keys k d).place (key_place (get_or keys k d) (Contains-get_or keys k d below))))

  type_at : (i : ℕ) (key : TypeKey) (d : DeclId) → i < length keys → get_or types i d ≡ D (get_or keys i key)
  type_at i key d below =
      get_or-map decl_of (map id_of_key keys) i (id_of_key key) d (rw (length-map keys id_of_key) below) ∙ ap decl_of (get_or-map id_of_key keys i key (id_of_key key) below)

  pub types_ordered : AllPairs IsBefore keys → AreTypes program types
  types_ordered order = record {
    ordered = λ i j d before below p q has other.
        let long : j < length keys = rw (length-map (map id_of_key keys) decl_of, length-map keys id_of_key) at below in
        let first : i < length keys = omega arith in
        let e = element keys j long in
        let a = get_or keys i e in
        let b = get_or keys j e in
        let p_is : p ≡ a.place = same_Some p a.place (sym has ∙ ap (place_of program) (type_at i e d first) ∙ key_place a (Contains-get_or keys i e first)) in
        let q_is : q ≡ b.place = same_Some q b.place (sym other ∙ ap (place_of program) (type_at j e d long) ∙ key_place b (Contains-get_or keys j e long)) in
        let less : key_cmp a b ≡ Less = order i j e before long in
        let Goal : Place → Place → DeclId → DeclId → Type 0 = λ x y s t. ordering_then (place_cmp x y) (ordering_then (nat_cmp (list_number s) (list_number t)) (nat_cmp (index_of s) (index_of t))) ≡ Less in
        let plain : Goal a.place b.place (D a) (D b) = declared_before a b less in
        subst (λ (x : Place). Goal x q (get_or types i d) (get_or types j d)) (sym p_is)
        (subst (λ (y : Place). Goal a.place y (get_or types i d) (get_or types j d)) (sym q_is)
        (subst (λ (s : DeclId). Goal a.place b.place s (get_or types j d)) (sym (type_at i e d first))
        (subst (λ (t : DeclId). Goal a.place b.place (D a) t) (sym (type_at j e d long)) plain)));
    exact = λ d. (λ h. All-contains (λ (x : DeclId). IsSome (place_of program x)) types d types_there h, λ h. in_types d h);
  }

-- the types of sorted keys
pub types_of : (program : List Entry) (made keys : List TypeKey) (read : List TypeKey) (ids : List TypeId) → IsProgram program → AddsKeys (IsKeyBelow program (length program)) [] made → AllPairs IsBefore keys
    → ((key : TypeKey) → Contains keys key ↔ Contains made key) → read ≡ keys → ids ≡ map id_of_key read → AreTypes program (map decl_of ids)
types_of program made keys read ids is are order same at made_of =
    let exact : (key : TypeKey) → Contains keys key ↔ IsKeyBelow program (length program) key = λ key. (
      (λ h. elim ((are.exact key).0 ((same key).0 h)) [ inl none ↦ absurd (let below : none.0 < 0 = none.1 in omega arith) | inr k ↦ k ]),
      (λ h. (same key).1 ((are.exact key).1 (inr h))),
    ) in
    subst (λ (xs : List TypeId). AreTypes program (map decl_of xs)) (sym (made_of ∙ ap (map id_of_key) at)) (types_ordered program keys is exact order)
