-- What is left of a file, with one thing more before it.
use Rattle.std.proofs.Common.{◌≡◌, ℕ, ◌-◌, ◌<◌, inl, inr, List, [], ◌∷◌, length, codes, refl, sym, ap, ◌∙◌, arith, length-append}
use Rattle.ipdl_base.specs.declared.token.Token.{Token}
use Rattle.ipdl_syntax.specs.declared.tree.Include.{Include as IncludeDecl}
use Rattle.ipdl_syntax.specs.declared.tree.ProtocolDecl.{ProtocolDecl}
use Rattle.ipdl_syntax.specs.declared.tree.StructDecl.{StructDecl}
use Rattle.ipdl_syntax.specs.declared.tree.UnionDecl.{UnionDecl}
use Rattle.ipdl_syntax.specs.declared.tree.Using.{Using as UsingDecl}
use Rattle.ipdl_syntax.specs.Parts.{Part, ◌⨾◌, mark, reserved, word}
use Rattle.ipdl_syntax.specs.Grammar.{struct_decl, union_decl, using_decl, include, protocol, inside_end, inside_struct, inside_union, inside_namespace, outside_end, outside_include, outside_using, outside_struct, outside_union, outside_namespace, holder_protocol, holder_namespace}
use Rattle.ipdl_syntax.specs.Program.{Declarations, ◌&◌, no_declaration, an_include, a_using, a_struct, a_union, declared_inside, declared_outside, declared_round}
use Rattle.ipdl_syntax.proofs.Declarations.{and_assoc}
use Rattle.tree_reader.specs.Files.{scope_of, room_of, ClosedRest, OpenRest}

-- more declarations before what is split
before_more : (d rest a b : Declarations) → rest ≡ (a & b) → (d & rest) ≡ ((d & a) & b)
before_more d rest a b e = ap (λ (r : Declarations). d & r) e ∙ sym (and_assoc d a b)

-- a rest that is split again
split_again : (rest a b c d : Declarations) → rest ≡ (a & b) → b ≡ (c & d) → rest ≡ ((a & c) & d)
split_again rest a b c d e f = e ∙ ap (λ (r : Declarations). a & r) f ∙ sym (and_assoc a c d)

-- the content of a namespace around the protocol
round_split : (rest a b c d e : Declarations) → rest ≡ (a & b & c & d) → d ≡ e → rest ≡ ((a & b & c) & e)
round_split rest a b c d e f g =
    f ∙ ap (λ (r : Declarations). a & b & c & r) g ∙ ap (λ (r : Declarations). a & r) (sym (and_assoc b c e)) ∙ sym (and_assoc a (b & c) e)

-- These declarations are between the first tokens and the other ones, in the open namespaces.
pub record Prepends (path : List (List ℕ)) (d : Declarations) (from to : List Token) : Type 0 where
  pub when_closed : (rest : Declarations) → ClosedRest path rest to → ClosedRest path (d & rest) from
  pub when_open : (rest : Declarations) (p : ProtocolDecl) → OpenRest path rest p to → OpenRest path (d & rest) p from

-- a struct

struct_closed : (path : List (List ℕ)) (s : StructDecl) (from to : List Token) → struct_decl (scope_of path) s from to → (rest : Declarations) → ClosedRest path rest to → ClosedRest path (a_struct s & rest) from
struct_closed [] s from to d rest (x, e, xd) = (outside_struct s x, ap (λ (r : Declarations). a_struct s & r) e, (to, d, xd))
struct_closed (name ∷ outer) s from to d rest (x, after, m, e, (m1, xd, cd), r) =
    (inside_struct s x, after, m, before_more (a_struct s) rest (declared_inside x) after e, (m1, (to, d, xd), cd), r)

struct_open : (path : List (List ℕ)) (s : StructDecl) (from to : List Token) → struct_decl (scope_of path) s from to → (rest : Declarations) (p : ProtocolDecl) → OpenRest path rest p to → OpenRest path (a_struct s & rest) p from
struct_open [] s from to d rest p (x, one, y, e, q, (m, xd, more)) =
    (outside_struct s x, one, y, before_more (a_struct s) rest (declared_outside x) (declared_round one & declared_outside y) e, q, (m, (to, d, xd), more))
struct_open (name ∷ outer) s from to d rest p (x, m, xd, inl (after, end, e, cd, r)) =
    (inside_struct s x, m, (to, d, xd), inl (after, end, before_more (a_struct s) rest (declared_inside x) after e, cd, r))
struct_open (name ∷ outer) s from to d rest p (x, m, xd, inr (one, y, after, end, e, q, hd, r)) =
    (inside_struct s x, m, (to, d, xd), inr (one, y, after, end, before_more (a_struct s) rest (declared_inside x) (declared_round one & declared_inside y & after) e, q, hd, r))

pub struct_before : (path : List (List ℕ)) (s : StructDecl) (from to : List Token) → struct_decl (scope_of path) s from to → Prepends path (a_struct s) from to
struct_before path s from to d = record { when_closed = struct_closed path s from to d; when_open = struct_open path s from to d }

-- a union

union_closed : (path : List (List ℕ)) (u : UnionDecl) (from to : List Token) → union_decl (scope_of path) u from to → (rest : Declarations) → ClosedRest path rest to → ClosedRest path (a_union u & rest) from
union_closed [] u from to d rest (x, e, xd) = (outside_union u x, ap (λ (r : Declarations). a_union u & r) e, (to, d, xd))
union_closed (name ∷ outer) u from to d rest (x, after, m, e, (m1, xd, cd), r) =
    (inside_union u x, after, m, before_more (a_union u) rest (declared_inside x) after e, (m1, (to, d, xd), cd), r)

union_open : (path : List (List ℕ)) (u : UnionDecl) (from to : List Token) → union_decl (scope_of path) u from to → (rest : Declarations) (p : ProtocolDecl) → OpenRest path rest p to → OpenRest path (a_union u & rest) p from
union_open [] u from to d rest p (x, one, y, e, q, (m, xd, more)) =
    (outside_union u x, one, y, before_more (a_union u) rest (declared_outside x) (declared_round one & declared_outside y) e, q, (m, (to, d, xd), more))
union_open (name ∷ outer) u from to d rest p (x, m, xd, inl (after, end, e, cd, r)) =
    (inside_union u x, m, (to, d, xd), inl (after, end, before_more (a_union u) rest (declared_inside x) after e, cd, r))
union_open (name ∷ outer) u from to d rest p (x, m, xd, inr (one, y, after, end, e, q, hd, r)) =
    (inside_union u x, m, (to, d, xd), inr (one, y, after, end, before_more (a_union u) rest (declared_inside x) (declared_round one & declared_inside y & after) e, q, hd, r))

pub union_before : (path : List (List ℕ)) (u : UnionDecl) (from to : List Token) → union_decl (scope_of path) u from to → Prepends path (a_union u) from to
union_before path u from to d = record { when_closed = union_closed path u from to d; when_open = union_open path u from to d }

-- a using and an include, outside of all namespaces

using_closed : (u : UsingDecl) (from to : List Token) → using_decl u from to → (rest : Declarations) → ClosedRest [] rest to → ClosedRest [] (a_using u & rest) from
using_closed u from to d rest (x, e, xd) = (outside_using u x, ap (λ (r : Declarations). a_using u & r) e, (to, d, xd))

using_open : (u : UsingDecl) (from to : List Token) → using_decl u from to → (rest : Declarations) (p : ProtocolDecl) → OpenRest [] rest p to → OpenRest [] (a_using u & rest) p from
using_open u from to d rest p (x, one, y, e, q, (m, xd, more)) =
    (outside_using u x, one, y, before_more (a_using u) rest (declared_outside x) (declared_round one & declared_outside y) e, q, (m, (to, d, xd), more))

pub using_before : (u : UsingDecl) (from to : List Token) → using_decl u from to → Prepends [] (a_using u) from to
using_before u from to d = record { when_closed = using_closed u from to d; when_open = using_open u from to d }

include_closed : (i : IncludeDecl) (from to : List Token) → include i from to → (rest : Declarations) → ClosedRest [] rest to → ClosedRest [] (an_include i & rest) from
include_closed i from to d rest (x, e, xd) = (outside_include i x, ap (λ (r : Declarations). an_include i & r) e, (to, d, xd))

include_open : (i : IncludeDecl) (from to : List Token) → include i from to → (rest : Declarations) (p : ProtocolDecl) → OpenRest [] rest p to → OpenRest [] (an_include i & rest) p from
include_open i from to d rest p (x, one, y, e, q, (m, xd, more)) =
    (outside_include i x, one, y, before_more (an_include i) rest (declared_outside x) (declared_round one & declared_outside y) e, q, (m, (to, d, xd), more))

pub include_before : (i : IncludeDecl) (from to : List Token) → include i from to → Prepends [] (an_include i) from to
include_before i from to d = record { when_closed = include_closed i from to d; when_open = include_open i from to d }

-- a namespace

-- the beginning of a namespace
abbrev pub Opens : List ℕ → Part
Opens name = reserved (codes "namespace") ⨾ word name ⨾ mark (codes "{")

pub opened_closed : (path : List (List ℕ)) (name : List ℕ) (from inner : List Token) → 0 < room_of path → Opens name from inner → (rest : Declarations) → ClosedRest (name ∷ path) rest inner → ClosedRest path rest from
opened_closed [] name from inner pos (m1, kd, (m2, wd, od)) rest (x, after, m, e, (m3, xd, cd), (y, ye, yd)) =
    (outside_namespace name x y, e ∙ ap (λ (r : Declarations). declared_inside x & r) ye, (m, (m1, kd, (m2, wd, (inner, od, (m3, xd, cd)))), yd))
opened_closed (other ∷ outer) name from inner pos (m1, kd, (m2, wd, od)) rest (x, after, m, e, (m3, xd, cd), (y, after2, m5, ye, (m6, yd, dd), r)) =
    (inside_namespace name x y, after2, m5, split_again rest (declared_inside x) after (declared_inside y) after2 e ye, (m6, (m, (pos, (m1, kd, (m2, wd, (inner, od, (m3, xd, cd))))), yd), dd), r)

pub opened_open : (path : List (List ℕ)) (name : List ℕ) (from inner : List Token) → 0 < room_of path → Opens name from inner → (rest : Declarations) (p : ProtocolDecl) → OpenRest (name ∷ path) rest p inner → OpenRest path rest p from
opened_open [] name from inner pos (m1, kd, (m2, wd, od)) rest p (x, m, xd, inl (after, end, e, cd, (y, one, z, ye, q, (m3, yd, more)))) = (
  outside_namespace name x y,
  one,
  z,
  split_again rest (declared_inside x) after (declared_outside y) (declared_round one & declared_outside z) e ye,
  q,
  (m3, (end, (m1, kd, (m2, wd, (inner, od, (m, xd, cd)))), yd), more),
)
opened_open [] name from inner pos (m1, kd, (m2, wd, od)) rest p (x, m, xd, inr (one, y, after, end, e, q, (m3, hd, (m4, yd, cd)), (z, ze, zd))) = (
  outside_end,
  holder_namespace name x one y,
  z,
  round_split rest (declared_inside x) (declared_round one) (declared_inside y) after (declared_outside z) e ze,
  q,
  (from, refl, (end, (pos, (m1, kd, (m2, wd, (inner, od, (m4, (m, xd, (m3, hd, yd)), cd))))), zd)),
)
opened_open (other ∷ outer) name from inner pos (m1, kd, (m2, wd, od)) rest p (x, m, xd, inl (after, end, e, cd, (y, m5, yd, inl (after2, end2, ye, dd, r)))) = (
  inside_namespace name x y,
  m5,
  (end, (pos, (m1, kd, (m2, wd, (inner, od, (m, xd, cd))))), yd),
  inl (after2, end2, split_again rest (declared_inside x) after (declared_inside y) after2 e ye, dd, r),
)
opened_open (other ∷ outer) name from inner pos (m1, kd, (m2, wd, od)) rest p (x, m, xd, inl (after, end, e, cd, (y, m5, yd, inr (one, z, after2, end2, ye, q, hd, r)))) = (
  inside_namespace name x y,
  m5,
  (end, (pos, (m1, kd, (m2, wd, (inner, od, (m, xd, cd))))), yd),
  inr (one, z, after2, end2, split_again rest (declared_inside x) after (declared_inside y) (declared_round one & declared_inside z & after2) e ye, q, hd, r),
)
opened_open (other ∷ outer) name from inner pos (m1, kd, (m2, wd, od)) rest p (x, m, xd, inr (one, y, after, end, e, q, (m3, hd, (m4, yd, cd)), (z, after2, m5, ze, (m6, zd, dd), r))) = (
  inside_end,
  from,
  refl,
  inr (
    holder_namespace name x one y,
    z,
    after2,
    m5,
    round_split rest (declared_inside x) (declared_round one) (declared_inside y) after (declared_inside z & after2) e ze,
    q,
    (end, (pos, (m1, kd, (m2, wd, (inner, od, (m4, (m, xd, (m3, hd, yd)), cd))))), (m6, zd, dd)),
    r,
  ),
)

-- the end of a namespace

pub end_closed : (path : List (List ℕ)) (name : List ℕ) (from to : List Token) → mark (codes "}") from to → (rest : Declarations) → ClosedRest path rest to → ClosedRest (name ∷ path) rest from
end_closed path name from to cd rest r = (inside_end, rest, to, refl, (from, refl, cd), r)

pub end_open : (path : List (List ℕ)) (name : List ℕ) (from to : List Token) → mark (codes "}") from to → (rest : Declarations) (p : ProtocolDecl) → OpenRest path rest p to → OpenRest (name ∷ path) rest p from
end_open path name from to cd rest p r = (inside_end, from, refl, inl (rest, to, refl, cd, r))

-- the protocol

pub protocol_before : (path : List (List ℕ)) (p : ProtocolDecl) (from to : List Token) → protocol (scope_of path) p from to → (rest : Declarations) → ClosedRest path rest to → OpenRest path rest p from
protocol_before [] p from to pd rest (y, ye, yd) = (outside_end, holder_protocol p, y, ye, refl, (from, refl, (to, pd, yd)))
protocol_before (name ∷ outer) p from to pd rest (y, after, m, ye, (m1, yd, cd), r) = (inside_end, from, refl, inr (holder_protocol p, y, after, m, ye, refl, (to, pd, (m1, yd, cd)), r))

-- the end of a file
pub nothing_left : ClosedRest [] no_declaration []
nothing_left = (outside_end, refl, refl)

-- the names of open namespaces

pub scope_length : (path : List (List ℕ)) → length (scope_of path) ≡ length path
scope_length [] = refl
scope_length (name ∷ outer) = let e = scope_length outer in omega (arith, length-append (scope_of outer) (name ∷ []))

pub room_left : (path : List (List ℕ)) → room_of path ≡ 16 - length path
room_left [] = refl
room_left (name ∷ outer) = let e = room_left outer in omega arith

-- no namespace is open
pub none_open : (path : List (List ℕ)) (names : List (List ℕ)) → names ≡ scope_of path → length names ≡ 0 → path ≡ []
none_open [] names e n = refl
none_open (name ∷ outer) names e n =
    let l = ap (λ (x : List (List ℕ)). length x) e in
    absurd (omega (arith, l, length-append (scope_of outer) (name ∷ [])))
