-- What is left of a file when the machine is between declarations, in terms of the grammar.
use Rattle.std.proofs.Common.{◌≡◌, ◌≢◌, ℕ, zero, suc, ◌-◌, ◌<◌, ◌⊎◌, inl, inr, Bool, true, false, List, [], ◌∷◌, ◌++◌, Option, Some, None, codes, refl, sym, subst, arith}
use Rattle.ipdl_base.specs.Words.{joined}
use Rattle.ipdl_base.specs.declared.token.Token.{Token}
use Rattle.ipdl_syntax.specs.declared.tree.Attribute.{Attribute}
use Rattle.ipdl_syntax.specs.Parts.{Part, nothing, ◌⨾◌, either, mark, reserved, word, at}
use Rattle.ipdl_syntax.specs.Grammar.{attributes, MessageSection, sections, Management, managements, fields, components, foreign_name, include, declared, protocol_semantics, managers_of, managed_of, protocol, struct_decl, union_decl, using_decl, Inside, inside_end, inside_struct, inside_union, inside_namespace, Outside, outside_end, outside_include, outside_using, outside_struct, outside_union, outside_namespace, Holder, holder_protocol, holder_namespace, inside, outside, holder, protocol_file}
use Rattle.tree_reader.specs.Machine.{Form, FileState, stand, stepped}
use Rattle.std.specs.List.{flat_map}
use Rattle.ipdl_syntax.specs.declared.tree.Include.{Include as IncludeDecl}
use Rattle.ipdl_syntax.specs.declared.tree.ProtocolDecl.{ProtocolDecl}
use Rattle.ipdl_syntax.specs.declared.tree.StructDecl.{StructDecl}
use Rattle.ipdl_syntax.specs.declared.tree.UnionDecl.{UnionDecl}
use Rattle.ipdl_syntax.specs.declared.tree.Using.{Using as UsingDecl}
use Rattle.ipdl_parse.proofs.Meaning.{closed, from_file, TakeAll}

-- declarations without their attributes

abbrev pub bare_struct : StructDecl → Part
bare_struct s = reserved (codes "struct") ⨾ declared [] s.full s.place ⨾ mark (codes "{") ⨾ fields s.fields ⨾ closed

abbrev pub bare_union : UnionDecl → Part
bare_union u = reserved (codes "union") ⨾ declared [] u.full u.place ⨾ mark (codes "{") ⨾ components u.components ⨾ closed

abbrev pub bare_using : UsingDecl → Part
bare_using u = reserved (codes "using") ⨾ either nothing (either (reserved (codes "class")) (reserved (codes "struct"))) ⨾ at u.place (foreign_name u.full) ⨾ from_file

abbrev pub bare_protocol : ProtocolDecl → Part
bare_protocol p from to =
    (statements : List Management) × (parts : List MessageSection)
    × (p.managers ≡ flat_map managers_of statements) × (p.manages ≡ flat_map managed_of statements) × (p.messages ≡ flat_map (λ s. s.messages) parts)
    × (protocol_semantics p.semantics ⨾ reserved (codes "protocol") ⨾ declared [] p.full p.place ⨾ mark (codes "{") ⨾ managements statements ⨾ sections parts ⨾ closed) from to

-- what is left after the protocol, or of a header, inside this number of namespaces
abbrev pub ClosedRest : ℕ → List Token → Type 0
ClosedRest zero from = (x : Outside) × outside x from []
ClosedRest (suc d) from = (x : Inside) × (middle : List Token) × (inside (15 - d) [] x ⨾ mark (codes "}")) from middle × ClosedRest d middle

-- the same where the protocol is still to come
abbrev pub OpenRest : ℕ → List Token → Type 0
OpenRest zero from = (x : Outside) × (h : Holder) × (y : Outside) × protocol_file x h y from []
OpenRest (suc d) from =
    (x : Inside) × (middle : List Token) × inside (15 - d) [] x from middle
    × (((after_it : List Token) × mark (codes "}") middle after_it × OpenRest d after_it)
    ⊎ ((h : Holder) × (y : Inside) × (after_it : List Token) × (holder (15 - d) [] h ⨾ inside (15 - d) [] y ⨾ mark (codes "}")) middle after_it × ClosedRest d after_it))

abbrev pub Rest : Bool → ℕ → List Token → Type 0
Rest true d from = OpenRest d from
Rest false d from = ClosedRest d from

-- a declaration that has attributes before it, without them, and what is left after it
pub data Headed : Bool → ℕ → List Token → Type 0 where
  headed_struct : {may : Bool} {d : ℕ} {from : List Token} (middle : List Token) (s : StructDecl) → bare_struct s from middle → Rest may d middle → Headed may d from
  headed_union : {may : Bool} {d : ℕ} {from : List Token} (middle : List Token) (u : UnionDecl) → u.components ≢ [] → bare_union u from middle → Rest may d middle → Headed may d from
  headed_using : {may : Bool} {d : ℕ} {from : List Token} (middle : List Token) (u : UsingDecl) → d ≡ 0 → bare_using u from middle → Rest may d middle → Headed may d from
  headed_protocol : {may : Bool} {d : ℕ} {from : List Token} (middle : List Token) (p : ProtocolDecl) → may ≡ true → bare_protocol p from middle → Rest false d middle → Headed may d from

-- what is left
abbrev pub FileRest : FileState → List Token → Type 0
FileRest (stand may d true) from = Headed may d from
FileRest (stand may d false) from = Rest may d from

-- forms, and what is left after them
abbrev pub Whole : List Form → FileState → List Token → Type 0
Whole forms at from = (middle : List Token) × TakeAll forms from middle × FileRest at middle

-- what follows a first token
abbrev pub AfterAt : Option (List Form × FileState) → List Token → Type 0
AfterAt None rest = ⊥
AfterAt (Some next) rest = Whole next.0 next.1 rest

pub was_stepped : (b : Bool) (forms : List Form) (to : FileState) (rest : List Token) → AfterAt (stepped b forms to) rest → (b ≡ true) × Whole forms to rest
was_stepped true forms to rest d = (refl, d)
was_stepped false forms to rest d = absurd d

pub steps : (b : Bool) (forms : List Form) (to : FileState) (rest : List Token) → b ≡ true → Whole forms to rest → AfterAt (stepped b forms to) rest
steps true forms to rest e d = d
steps false forms to rest e d = absurd (cc)

-- the same declarations in other namespaces

pub rescoped : (room : ℕ) (one other : List (List ℕ)) (x : Inside) (from to : List Token) → inside room one x from to → (y : Inside) × inside room other y from to
rescoped room one other inside_end from to same = (inside_end, same)
rescoped room one other (inside_struct s more) from to (m, (m1, ad, (m2, sd, (m3, (u, ue, (uk, j, pl)), fd))), xd) =
    let r = rescoped room one other more m to xd in
    (inside_struct (record s { full = joined (other ++ u.text ∷ []) }) r.0, (m, (m1, ad, (m2, sd, (m3, (u, ue, (uk, refl, pl)), fd))), r.1))
rescoped room one other (inside_union s more) from to (m, (ne, (m1, ad, (m2, sd, (m3, (u, ue, (uk, j, pl)), fd)))), xd) =
    let r = rescoped room one other more m to xd in
    (inside_union (record s { full = joined (other ++ u.text ∷ []) }) r.0, (m, (ne, (m1, ad, (m2, sd, (m3, (u, ue, (uk, refl, pl)), fd)))), r.1))
rescoped room one other (inside_namespace name held more) from to (m, (pos, (m1, nd, (m2, wd, (m3, od, (m4, hd, cd))))), xd) =
    let h = rescoped (room - 1) (one ++ name ∷ []) (other ++ name ∷ []) held m3 m4 hd in
    let r = rescoped room one other more m to xd in
    (inside_namespace name h.0 r.0, (m, (pos, (m1, nd, (m2, wd, (m3, od, (m4, h.1, cd))))), r.1))

pub rescoped_holder : (room : ℕ) (one other : List (List ℕ)) (x : Holder) (from to : List Token) → holder room one x from to → (y : Holder) × holder room other y from to
rescoped_holder room one other (holder_protocol p) from to (statements, parts, a, b, c, (m1, ad, (m2, sd, (m3, pd, (m4, (u, ue, (uk, j, pl)), more))))) =
    (holder_protocol (record p { full = joined (other ++ u.text ∷ []) }), (statements, parts, a, b, c, (m1, ad, (m2, sd, (m3, pd, (m4, (u, ue, (uk, refl, pl)), more))))))
rescoped_holder room one other (holder_namespace name before held after) from to (pos, (m1, nd, (m2, wd, (m3, od, (m4, (m5, bd, (m6, hd, ad)), cd))))) =
    let b = rescoped (room - 1) (one ++ name ∷ []) (other ++ name ∷ []) before m3 m5 bd in
    let h = rescoped_holder (room - 1) (one ++ name ∷ []) (other ++ name ∷ []) held m5 m6 hd in
    let a = rescoped (room - 1) (one ++ name ∷ []) (other ++ name ∷ []) after m6 m4 ad in
    (holder_namespace name b.0 h.0 a.0, (pos, (m1, nd, (m2, wd, (m3, od, (m4, (m5, b.1, (m6, h.1, a.1)), cd))))))

-- one more declaration before what is left

cons_struct : (may : Bool) (d : ℕ) (s : StructDecl) (from middle : List Token) → struct_decl [] s from middle → Rest may d middle → Rest may d from
cons_struct true zero s from m sd (x, h, y, (m1, xd, more)) = (outside_struct s x, h, y, (m1, (m, sd, xd), more))
cons_struct false zero s from m sd (x, xd) = (outside_struct s x, (m, sd, xd))
cons_struct true (suc n) s from m sd (x, m1, xd, r) = (inside_struct s x, m1, (m, sd, xd), r)
cons_struct false (suc n) s from m sd (x, m2, (m1, xd, cd), r) = (inside_struct s x, m2, (m1, (m, sd, xd), cd), r)

cons_union : (may : Bool) (d : ℕ) (s : UnionDecl) (from middle : List Token) → union_decl [] s from middle → Rest may d middle → Rest may d from
cons_union true zero s from m sd (x, h, y, (m1, xd, more)) = (outside_union s x, h, y, (m1, (m, sd, xd), more))
cons_union false zero s from m sd (x, xd) = (outside_union s x, (m, sd, xd))
cons_union true (suc n) s from m sd (x, m1, xd, r) = (inside_union s x, m1, (m, sd, xd), r)
cons_union false (suc n) s from m sd (x, m2, (m1, xd, cd), r) = (inside_union s x, m2, (m1, (m, sd, xd), cd), r)

cons_using : (may : Bool) (d : ℕ) (s : UsingDecl) (from middle : List Token) → d ≡ 0 → using_decl s from middle → Rest may d middle → Rest may d from
cons_using true zero s from m z sd (x, h, y, (m1, xd, more)) = (outside_using s x, h, y, (m1, (m, sd, xd), more))
cons_using false zero s from m z sd (x, xd) = (outside_using s x, (m, sd, xd))
cons_using may (suc n) s from m z sd r = absurd (omega arith)

pub cons_include : (may : Bool) (d : ℕ) (s : IncludeDecl) (from middle : List Token) → d ≡ 0 → include s from middle → Rest may d middle → Rest may d from
cons_include true zero s from m z sd (x, h, y, (m1, xd, more)) = (outside_include s x, h, y, (m1, (m, sd, xd), more))
cons_include false zero s from m z sd (x, xd) = (outside_include s x, (m, sd, xd))
cons_include may (suc n) s from m z sd r = absurd (omega arith)

cons_protocol : (d : ℕ) (p : ProtocolDecl) (from middle : List Token) → protocol [] p from middle → Rest false d middle → Rest true d from
cons_protocol zero p from m pd (y, yd) = (outside_end, holder_protocol p, y, (from, refl, (m, pd, yd)))
cons_protocol (suc n) p from m pd (y, m2, yd, r) = (inside_end, from, refl, inr (holder_protocol p, y, m2, (m, pd, yd), r))

-- a declaration with its attributes, and what is left
pub attach : (may : Bool) (d : ℕ) (list : List Attribute) (from middle : List Token) → attributes list from middle → Headed may d middle → Rest may d from
attach may d list from m ad (headed_struct m1 s sd r) = cons_struct may d (record s { attributes = list }) from m1 (m, ad, sd) r
attach may d list from m ad (headed_union m1 u ne ud r) = cons_union may d (record u { attributes = list }) from m1 (ne, (m, ad, ud)) r
attach may d list from m ad (headed_using m1 u z ud r) = cons_using may d (record u { attributes = list }) from m1 z (m, ad, ud) r
attach may d list from m ad (headed_protocol m1 p e (statements, parts, ma, mb, mc, pd) r) =
    subst (λ (b : Bool). Rest b d from) (sym e) (cons_protocol d (record p { attributes = list }) from m1 (statements, parts, ma, mb, mc, (m, ad, pd)) r)

less_one : (n : ℕ) → 15 - suc n ≡ (15 - n) - 1
less_one n = omega arith

room_left : (n : ℕ) → suc n < 16 → 0 < 15 - n
room_left n h = omega arith

-- the beginning of a namespace
pub record Opens (name : List ℕ) (from inner : List Token) : Type 0 where
  pub after_word : List Token
  pub after_name : List Token
  pub keyword : reserved (codes "namespace") from after_word
  pub name_there : word name after_word after_name
  pub brace : mark (codes "{") after_name inner

-- a namespace opened at this depth, and what is left in it and after it, is what is left before it
pub cons_namespace : (may : Bool) (d : ℕ) (name : List ℕ) (from inner : List Token) → d < 16 → Opens name from inner → Rest may (suc d) inner → Rest may d from
cons_namespace false zero name from inner lt o (x, m2, (m1, xd, cd), (y, yd)) =
    let r = rescoped 15 [] (name ∷ []) x inner m1 xd in
    (outside_namespace name r.0 y, (m2, (o.after_word, o.keyword, (o.after_name, o.name_there, (inner, o.brace, (m1, r.1, cd)))), yd))
cons_namespace false (suc n) name from inner lt o (x, m2, (m1, xd, cd), (y, m4, (m3, yd, dd), more)) =
    let r = rescoped ((15 - n) - 1) [] (name ∷ []) x inner m1 (subst (λ (k : ℕ). inside k [] x inner m1) (less_one n) xd) in
    (inside_namespace name r.0 y, m4, (m3, (m2, (room_left n lt, (o.after_word, o.keyword, (o.after_name, o.name_there, (inner, o.brace, (m1, r.1, cd))))), yd), dd), more)
cons_namespace true zero name from inner lt o (x, m1, xd, inl (m2, cd, (y, h, z, (m3, yd, more)))) =
    let r = rescoped 15 [] (name ∷ []) x inner m1 xd in
    (outside_namespace name r.0 y, h, z, (m3, (m2, (o.after_word, o.keyword, (o.after_name, o.name_there, (inner, o.brace, (m1, r.1, cd)))), yd), more))
cons_namespace true zero name from inner lt o (x, m1, xd, inr (h, y, m2, (m3, hd, (m4, yd, cd)), (z, zd))) =
    let r = rescoped 15 [] (name ∷ []) x inner m1 xd in
    let g = rescoped_holder 15 [] (name ∷ []) h m1 m3 hd in
    let s = rescoped 15 [] (name ∷ []) y m3 m4 yd in (
      outside_end,
      holder_namespace name r.0 g.0 s.0,
      z,
      (from, refl, (m2, (lt, (o.after_word, o.keyword, (o.after_name, o.name_there, (inner, o.brace, (m4, (m1, r.1, (m3, g.1, s.1)), cd))))), zd)),
    )
cons_namespace true (suc n) name from inner lt o (x, m1, xd, inl (m2, cd, (y, m3, yd, more))) =
    let r = rescoped ((15 - n) - 1) [] (name ∷ []) x inner m1 (subst (λ (k : ℕ). inside k [] x inner m1) (less_one n) xd) in
    (inside_namespace name r.0 y, m3, (m2, (room_left n lt, (o.after_word, o.keyword, (o.after_name, o.name_there, (inner, o.brace, (m1, r.1, cd))))), yd), more)
cons_namespace true (suc n) name from inner lt o (x, m1, xd, inr (h, y, m2, (m3, hd, (m4, yd, cd)), (z, m5, zd, more))) =
    let r = rescoped ((15 - n) - 1) [] (name ∷ []) x inner m1 (subst (λ (k : ℕ). inside k [] x inner m1) (less_one n) xd) in
    let g = rescoped_holder ((15 - n) - 1) [] (name ∷ []) h m1 m3 (subst (λ (k : ℕ). holder k [] h m1 m3) (less_one n) hd) in
    let s = rescoped ((15 - n) - 1) [] (name ∷ []) y m3 m4 (subst (λ (k : ℕ). inside k [] y m3 m4) (less_one n) yd) in (
      inside_end,
      from,
      refl,
      inr (
        holder_namespace name r.0 g.0 s.0,
        z,
        m5,
        (m2, (room_left n lt, (o.after_word, o.keyword, (o.after_name, o.name_there, (inner, o.brace, (m4, (m1, r.1, (m3, g.1, s.1)), cd))))), zd),
        more,
      ),
    )

-- the end of a namespace
pub cons_close : (may : Bool) (d : ℕ) (from middle : List Token) → mark (codes "}") from middle → Rest may d middle → Rest may (suc d) from
cons_close true d from m cd r = (inside_end, from, refl, inl (m, cd, r))
cons_close false d from m cd r = (inside_end, m, (from, refl, cd), r)
