-- What is left of a file is nothing, or begins with a token that has a step, and the rest is left after it.
use Rattle.std.proofs.Common.{◌≡◌, ◌≢◌, ℕ, zero, suc, ◌-◌, ◌<◌, ◌⊎◌, inl, inr, Bool, true, false, List, [], ◌∷◌, codes, refl, sym, subst, ◌∙◌, arith}
use Rattle.std.specs.Prelude.{nat_lt, ◌==◌}
use Rattle.ipdl_base.specs.declared.finding.Place.{Place}
use Rattle.ipdl_base.specs.declared.kinds.Semantics.{Semantics}
use Rattle.ipdl_base.specs.declared.kinds.Semantics.TheVariants as semantics
use Rattle.ipdl_base.specs.declared.token.Token.{Token}
use Rattle.ipdl_syntax.specs.declared.tree.Attribute.{Attribute}
use Rattle.ipdl_syntax.specs.declared.tree.TypeSpec.{TypeSpec}
use Rattle.ipdl_syntax.specs.Parts.{◌⨾◌, mark, reserved, word, at}
use Rattle.ipdl_syntax.specs.Grammar.{attributes, components, include, declared, protocol_semantics, protocol, struct_decl, union_decl, using_decl, inside_end, inside_struct, inside_union, inside_namespace, outside_end, outside_include, outside_using, outside_struct, outside_union, outside_namespace, Holder, holder_protocol, holder_namespace, inside, holder}
use Rattle.tree_reader.specs.declared.symbol.Symbol.{Symbol}
use Rattle.tree_reader.specs.declared.symbol.Symbol.TheVariants.{Word, OpenBrace, CloseBrace, OpenBracket, Async, Include, Namespace, Protocol, Struct, Sync, Union, Using}
use Rattle.tree_reader.specs.Symbols.{symbol}
use Rattle.tree_reader.specs.Machine.{take, managing, FileState, stand, step, is_end}
use Rattle.std.proofs.Common.{add-one}
use Rattle.std.proofs.lemmas.Bool.{lt-ltb}
use Rattle.ipdl_syntax.specs.declared.tree.Include.{Include as IncludeDecl}
use Rattle.ipdl_syntax.specs.declared.tree.ProtocolDecl.{ProtocolDecl}
use Rattle.ipdl_syntax.specs.declared.tree.StructDecl.{StructDecl}
use Rattle.ipdl_syntax.specs.declared.tree.UnionDecl.{UnionDecl}
use Rattle.ipdl_syntax.specs.declared.tree.Using.{Using as UsingDecl}
use Rattle.ipdl_parse.proofs.Meaning.{closed}
use Rattle.ipdl_parse.proofs.Files.{ClosedRest, OpenRest, Rest, Headed, headed_struct, headed_union, headed_using, headed_protocol, FileRest, Whole, AfterAt, steps, rescoped, rescoped_holder}
use Rattle.tree_reader.proofs.Symbols.{is_word, is_open_brace, is_close_brace, is_open_bracket, is_async, is_include, is_namespace, is_protocol, is_struct, is_sync, is_union, is_using}

abbrev pub Begins : FileState → List Token → Type 0
Begins at from = (t : Token) × (rest : List Token) × (from ≡ t ∷ rest) × AfterAt (step at (symbol t)) rest

abbrev pub FileOpened : FileState → List Token → Type 0
FileOpened at from = ((from ≡ []) × (is_end [] at ≡ true)) ⊎ Begins at from

begin_by : (at : FileState) (s : Symbol) (from : List Token) (t : Token) (rest : List Token) → from ≡ t ∷ rest → symbol t ≡ s → AfterAt (step at s) rest → Begins at from
begin_by at s from t rest e is d = (t, rest, e, subst (λ (x : Symbol). AfterAt (step at x) rest) (sym is) d)

is_zero : (d : ℕ) → d ≡ 0 → (d == 0) ≡ true
is_zero d h = grind arith

-- a declaration after its attributes

protocol_begins : (may : Bool) (d : ℕ) (how : Semantics) (from m0 m1 middle : List Token) → may ≡ true → protocol_semantics how from m0 → reserved (codes "protocol") m0 m1 →
    Whole (take Word ∷ take OpenBrace ∷ managing ∷ []) (stand false d false) m1 → Begins (stand may d true) from
unfolding step
protocol_begins may d semantics.Sync from m0 m1 middle still (t, te, tk) (u, ue, uk) (m, more, r) =
    begin_by (stand may d true) Sync from t m0 te (is_sync t tk) (steps may _ _ m0 still (m, (m1, (u, ue, is_protocol u uk), more), r))
protocol_begins may d semantics.Async from m0 m1 middle still (inr (t, te, tk)) (u, ue, uk) (m, more, r) =
    begin_by (stand may d true) Async from t m0 te (is_async t tk) (steps may _ _ m0 still (m, (m1, (u, ue, is_protocol u uk), more), r))
protocol_begins may d semantics.Async from m0 m1 middle still (inl same) (u, ue, uk) more =
    begin_by (stand may d true) Protocol from u m1 (same ∙ ue) (is_protocol u uk) (steps may _ _ m1 still more)

union_begins : (may : Bool) (d : ℕ) (from middle : List Token) (full : List ℕ) (place : Place) (cs : List TypeSpec) → cs ≢ [] →
    (reserved (codes "union") ⨾ declared [] full place ⨾ mark (codes "{") ⨾ components cs ⨾ closed) from middle → Rest may d middle → Begins (stand may d true) from
unfolding step
union_begins may d from m full place [] ne ud r = absurd (ne refl)
union_begins may d from m full place (c ∷ cs) ne (r1, (t, te, tk), (m1, (u, ue, uk), (m2, (v, ve, vk), (m6, (m5, td, (m3, sd, cd)), ed)))) r =
    begin_by (stand may d true) Union from t r1 te (is_union t tk)
    (m, (m1, (u, ue, is_word u uk.0), (m2, (v, ve, is_open_brace v vk), (m3, (c.nullable, c.base, c.suffixes, c.place, (m5, td, sd)), (m, (cs, (m6, cd, ed)), refl)))), r)

headed_begins : (may : Bool) (d : ℕ) (from : List Token) → Headed may d from → Begins (stand may d true) from
unfolding step
headed_begins may d from (headed_struct m s (r1, (t, te, tk), (m1, (u, ue, uk), (m2, (v, ve, vk), (m4, fd, cd)))) r) =
    begin_by (stand may d true) Struct from t r1 te (is_struct t tk)
    (m, (m1, (u, ue, is_word u uk.0), (m2, (v, ve, is_open_brace v vk), (m, (s.fields, (m4, fd, cd)), refl))), r)
headed_begins may d from (headed_union m s ne ud r) = union_begins may d from m s.full s.place s.components ne ud r
headed_begins may d from (headed_using m s z (r1, (t, te, tk), ud) r) =
    begin_by (stand may d true) Using from t r1 te (is_using t tk) (steps (d == 0) _ _ r1 (is_zero d z) (m, (m, (s.full, s.place, ud), refl), r))
headed_begins may d from (headed_protocol m p still (statements, parts, ma, mb, mc, (m0, sd, (m1, pd, (m2, (u, ue, uk), (m3, (v, ve, vk), md))))) r) =
    protocol_begins may d p.semantics from m0 m1 m still sd pd (m, (m2, (u, ue, is_word u uk.0), (m3, (v, ve, is_open_brace v vk), (m, (statements, parts, md), refl))), r)

bare_table : (may : Bool) (d : ℕ) (s : Symbol) (rest : List Token) → AfterAt (step (stand may d true) s) rest → AfterAt (step (stand may d false) s) rest
unfolding step
bare_table may d OpenBracket rest h = absurd h
bare_table may d Include rest h = absurd h
bare_table may d Namespace rest h = absurd h
bare_table may d CloseBrace rest h = absurd h
bare_table may d s rest h = h

item_begins : (may : Bool) (d : ℕ) (list : List Attribute) (from middle : List Token) → attributes list from middle → Headed may d middle → Begins (stand may d false) from
unfolding step
item_begins may d [] from m same h = let r = headed_begins may d m h in (r.0, r.1, same ∙ r.2, bare_table may d (symbol r.0) r.1 r.3)
item_begins may d (a ∷ list) from m (r1, (t, te, tk), ad) h =
    begin_by (stand may d false) OpenBracket from t r1 te (is_open_bracket t tk) (m, (m, (a, list, ad), refl), h)

-- each declaration

struct_first : (may : Bool) (d : ℕ) (s : StructDecl) (from middle : List Token) → struct_decl [] s from middle → Rest may d middle → Begins (stand may d false) from
struct_first may d s from m (m1, ad, sd) r = item_begins may d s.attributes from m1 ad (headed_struct m s sd r)

union_first : (may : Bool) (d : ℕ) (s : UnionDecl) (from middle : List Token) → union_decl [] s from middle → Rest may d middle → Begins (stand may d false) from
union_first may d s from m (ne, (m1, ad, sd)) r = item_begins may d s.attributes from m1 ad (headed_union m s ne sd r)

using_first : (may : Bool) (s : UsingDecl) (from middle : List Token) → using_decl s from middle → Rest may 0 middle → Begins (stand may 0 false) from
using_first may s from m (m1, ad, sd) r = item_begins may 0 s.attributes from m1 ad (headed_using m s refl sd r)

protocol_first : (d : ℕ) (p : ProtocolDecl) (from middle : List Token) → protocol [] p from middle → Rest false d middle → Begins (stand true d false) from
protocol_first d p from m (statements, parts, ma, mb, mc, (m1, ad, pd)) r =
    item_begins true d p.attributes from m1 ad (headed_protocol m p refl (statements, parts, ma, mb, mc, pd) r)

include_first : (may : Bool) (i : IncludeDecl) (from middle : List Token) → include i from middle → Rest may 0 middle → Begins (stand may 0 false) from
unfolding step
include_first may i from m (r1, (t, te, tk), (m1, wd, sd)) r =
    begin_by (stand may 0 false) Include from t r1 te (is_include t tk) (m, (m, (i.kind, i.name, i.place, (m1, wd, sd)), refl), r)

namespace_first : (may : Bool) (d : ℕ) (name : List ℕ) (from m1 m2 inner : List Token) → d < 16 → reserved (codes "namespace") from m1 → word name m1 m2 → mark (codes "{") m2 inner → Rest may (suc d) inner → Begins (stand may d false) from
unfolding step
namespace_first may d name from m1 m2 inner lt (t, te, tk) (u, ue, uk) (v, ve, vk) r =
    begin_by (stand may d false) Namespace from t m1 te (is_namespace t tk)
    (steps (nat_lt d 16) _ _ m1 (lt-ltb d 16 lt) (inner, (m2, (u, ue, is_word u uk.0), (inner, (v, ve, is_open_brace v vk), refl)), subst (λ (n : ℕ). Rest may n inner) (sym (add-one d)) r))

close_first : (may : Bool) (d : ℕ) (from middle : List Token) → mark (codes "}") from middle → Rest may d middle → Begins (stand may (suc d) false) from
unfolding step
close_first may d from m (t, te, tk) r =
    let e : d ≡ suc d - 1 = omega arith in
    begin_by (stand may (suc d) false) CloseBrace from t m te (is_close_brace t tk)
    (steps (nat_lt 0 (suc d)) _ _ m (lt-ltb 0 (suc d) (omega arith)) (m, refl, subst (λ (n : ℕ). Rest may n m) e r))

-- the same from an equal list
moved : (at : FileState) (from middle : List Token) → from ≡ middle → Begins at middle → Begins at from
moved at from m same (t, rest, e, d) = (t, rest, same ∙ e, d)

room_depth : (n : ℕ) → 0 < 15 - n → suc n < 16
room_depth n h = omega arith

one_less : (n : ℕ) → (15 - n) - 1 ≡ 15 - suc n
one_less n = omega arith

-- what is left after the protocol
closed_opened : (d : ℕ) (from : List Token) → ClosedRest d from → FileOpened (stand false d false) from
closed_opened zero from (outside_end, same) = inl (same, refl)
closed_opened zero from (outside_include i x, (m, id, xd)) = inr (include_first false i from m id (x, xd))
closed_opened zero from (outside_using u x, (m, ud, xd)) = inr (using_first false u from m ud (x, xd))
closed_opened zero from (outside_struct s x, (m, sd, xd)) = inr (struct_first false 0 s from m sd (x, xd))
closed_opened zero from (outside_union s x, (m, sd, xd)) = inr (union_first false 0 s from m sd (x, xd))
closed_opened zero from (outside_namespace name held x, (m, (m1, nd, (m2, wd, (m3, od, (m4, hd, cd)))), xd)) =
    let r = rescoped 15 (name ∷ []) [] held m3 m4 hd in
    inr (namespace_first false 0 name from m1 m2 m3 (omega arith) nd wd od (r.0, m, (m4, r.1, cd), (x, xd)))
closed_opened (suc n) from (inside_end, m, (m1, same, cd), r) = inr (moved (stand false (suc n) false) from m1 same (close_first false n m1 m cd r))
closed_opened (suc n) from (inside_struct s x, m, (m1, (m2, sd, xd), cd), r) = inr (struct_first false (suc n) s from m2 sd (x, m, (m1, xd, cd), r))
closed_opened (suc n) from (inside_union s x, m, (m1, (m2, sd, xd), cd), r) = inr (union_first false (suc n) s from m2 sd (x, m, (m1, xd, cd), r))
closed_opened (suc n) from (inside_namespace name held x, m, (m5, (m6, (pos, (m1, nd, (m2, wd, (m3, od, (m4, hd, cd))))), xd), dd), r) =
    let h = rescoped ((15 - n) - 1) (name ∷ []) [] held m3 m4 hd in
    inr (namespace_first false (suc n) name from m1 m2 m3 (room_depth n pos) nd wd od
    (h.0, m6, (m4, subst (λ (k : ℕ). inside k [] h.0 m3 m4) (one_less n) h.1, cd), (x, m, (m5, xd, dd), r)))

-- what is left before the protocol
holder_first : (d : ℕ) (room : ℕ) (h : Holder) (from middle : List Token) → (0 < room → d < 16) → room - 1 ≡ 15 - d → holder room [] h from middle → ClosedRest d middle → Begins (stand true d false) from
holder_first d room (holder_protocol p) from m fits less pd r = protocol_first d p from m pd r
holder_first d room (holder_namespace name before held after) from m fits less (pos, (m1, nd, (m2, wd, (m3, od, (m4, (m5, bd, (m6, hd, ad)), cd))))) r =
    let b = rescoped (room - 1) (name ∷ []) [] before m3 m5 bd in
    let h = rescoped_holder (room - 1) (name ∷ []) [] held m5 m6 hd in
    let a = rescoped (room - 1) (name ∷ []) [] after m6 m4 ad in
    namespace_first true d name from m1 m2 m3 (fits pos) nd wd od (
      b.0,
      m5,
      subst (λ (k : ℕ). inside k [] b.0 m3 m5) less b.1,
      inr (h.0, a.0, m, (m6, subst (λ (k : ℕ). holder k [] h.0 m5 m6) less h.1, (m4, subst (λ (k : ℕ). inside k [] a.0 m6 m4) less a.1, cd)), r),
    )

open_opened : (d : ℕ) (from : List Token) → OpenRest d from → Begins (stand true d false) from
open_opened zero from (outside_end, h, y, (m, same, (m1, hd, yd))) =
    moved (stand true 0 false) from m same (holder_first 0 16 h m m1 (λ p. omega arith) refl hd (y, yd))
open_opened zero from (outside_include i x, h, y, (m1, (m, id, xd), more)) = include_first true i from m id (x, h, y, (m1, xd, more))
open_opened zero from (outside_using u x, h, y, (m1, (m, ud, xd), more)) = using_first true u from m ud (x, h, y, (m1, xd, more))
open_opened zero from (outside_struct s x, h, y, (m1, (m, sd, xd), more)) = struct_first true 0 s from m sd (x, h, y, (m1, xd, more))
open_opened zero from (outside_union s x, h, y, (m1, (m, sd, xd), more)) = union_first true 0 s from m sd (x, h, y, (m1, xd, more))
open_opened zero from (outside_namespace name held x, h, y, (m5, (m, (m1, nd, (m2, wd, (m3, od, (m4, hd, cd)))), xd), more)) =
    let r = rescoped 15 (name ∷ []) [] held m3 m4 hd in
    namespace_first true 0 name from m1 m2 m3 (omega arith) nd wd od (r.0, m4, r.1, inl (m, cd, (x, h, y, (m5, xd, more))))
open_opened (suc n) from (inside_end, m, same, inl (m1, cd, r)) = moved (stand true (suc n) false) from m same (close_first true n m m1 cd r)
open_opened (suc n) from (inside_end, m, same, inr (h, y, m1, (m2, hd, (m3, yd, cd)), r)) =
    moved (stand true (suc n) false) from m same (holder_first (suc n) (15 - n) h m m2 (room_depth n) (one_less n) hd (y, m1, (m3, yd, cd), r))
open_opened (suc n) from (inside_struct s x, m, (m1, sd, xd), r) = struct_first true (suc n) s from m1 sd (x, m, xd, r)
open_opened (suc n) from (inside_union s x, m, (m1, sd, xd), r) = union_first true (suc n) s from m1 sd (x, m, xd, r)
open_opened (suc n) from (inside_namespace name held x, m, (m6, (pos, (m1, nd, (m2, wd, (m3, od, (m4, hd, cd))))), xd), r) =
    let h = rescoped ((15 - n) - 1) (name ∷ []) [] held m3 m4 hd in
    namespace_first true (suc n) name from m1 m2 m3 (room_depth n pos) nd wd od
    (h.0, m4, subst (λ (k : ℕ). inside k [] h.0 m3 m4) (one_less n) h.1, inl (m6, cd, (x, m, xd, r)))

-- What is left is nothing where the file may end, or begins with a token that has a step.
pub file_opened : (at : FileState) (from : List Token) → FileRest at from → FileOpened at from
file_opened (stand may d true) from h = inr (headed_begins may d from h)
file_opened (stand false d false) from r = closed_opened d from r
file_opened (stand true d false) from r = inr (open_opened d from r)
