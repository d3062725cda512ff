-- A first word of a declaration and what is left after its step are what is left before it.
use Rattle.std.proofs.Common.{◌≡◌, ℕ, zero, suc, ◌+◌, ◌-◌, ◌<◌, inl, inr, Bool, true, false, List, [], ◌∷◌, codes, refl, sym, subst, arith}
use Rattle.std.specs.Prelude.{nat_lt, ◌==◌}
use Rattle.ipdl_base.specs.declared.kinds.Semantics.{Semantics}
use Rattle.ipdl_base.specs.declared.kinds.Semantics.TheVariants as semantics
use Rattle.ipdl_base.specs.declared.token.Token.{Token}
use Rattle.ipdl_syntax.specs.Parts.{◌⨾◌, reserved}
use Rattle.ipdl_syntax.specs.Grammar.{protocol_semantics, managers_of, managed_of}
use Rattle.tree_reader.specs.Ending.{Ending}
use Rattle.tree_reader.specs.Ending as ending
use Rattle.tree_reader.specs.declared.symbol.Symbol.{Symbol}
use Rattle.tree_reader.specs.declared.symbol.Symbol.TheVariants.{Word, OpenBrace, CloseBrace, OpenBracket, Async, Include, Namespace, Protocol, Struct, Sync, Union, Using}
use Rattle.tree_reader.specs.Symbols.{symbol}
use Rattle.tree_reader.specs.Machine.{take, typed, attributed, managing, fielded, componented, using_named, include_named, FileState, stand, step}
use Rattle.std.specs.List.{flat_map}
use Rattle.std.proofs.Common.{add-one}
use Rattle.std.proofs.lemmas.Bool.{ltb-true}
use Rattle.ipdl_parse.proofs.Files.{Rest, Headed, headed_struct, headed_union, headed_using, headed_protocol, FileRest, Whole, AfterAt, was_stepped, cons_include, cons_namespace, cons_close, attach}
use Rattle.tree_reader.proofs.Symbols.{means}

eq-eqb-zero : (d : ℕ) → (d == 0) ≡ true → d ≡ 0
eq-eqb-zero d h = grind arith

-- a declaration after its attributes

struct_headed : (may : Bool) (d : ℕ) (t : Token) (rest : List Token) → symbol t ≡ Struct → Whole (take Word ∷ take OpenBrace ∷ fielded ∷ []) (stand may d false) rest → Headed may d (t ∷ rest)
struct_headed may d t rest is (m, (m1, (u, ue, us), (m2, (v, ve, vs), (m3, (fs, (m4, fd, cd)), eq))), r) =
    headed_struct m3 (record { full = u.text; place = u.place; fields = fs; attributes = [] })
    (rest, (t, refl, means t Struct is), (m1, (u, ue, (means u Word us, refl, refl)), (m2, (v, ve, means v OpenBrace vs), (m4, fd, cd))))
    (subst (λ (x : List Token). Rest may d x) (sym eq) r)

-- a type that ends with `;` is a component, and others follow
union_headed : (may : Bool) (d : ℕ) (t : Token) (rest : List Token) → symbol t ≡ Union → Whole (take Word ∷ take OpenBrace ∷ typed 4 ending.Semicolon ∷ componented ∷ []) (stand may d false) rest → Headed may d (t ∷ rest)
union_headed may d t rest is (m, (m1, (u, ue, us), (m2, (v, ve, vs), (m3, (nullable, b, after, place, (m5, td, sd)), (m4, (cs, (m6, cd, ed)), eq)))), r) =
    headed_union m4 (record { full = u.text; place = u.place; components = record { nullable = nullable; base = b; suffixes = after; place = place } ∷ cs; attributes = [] })
    (λ e. cc)
    (rest, (t, refl, means t Union is), (m1, (u, ue, (means u Word us, refl, refl)), (m2, (v, ve, means v OpenBrace vs), (m6, (m5, td, (m3, sd, cd)), ed))))
    (subst (λ (x : List Token). Rest may d x) (sym eq) r)

using_headed : (may : Bool) (d : ℕ) (t : Token) (rest : List Token) → symbol t ≡ Using → d ≡ 0 → Whole (using_named ∷ []) (stand may d false) rest → Headed may d (t ∷ rest)
using_headed may d t rest is z (m, (m1, (full, place, ud), eq), r) =
    headed_using m1 (record { full = full; place = place; attributes = [] }) z (rest, (t, refl, means t Using is), ud)
    (subst (λ (x : List Token). Rest may d x) (sym eq) r)

protocol_headed : (may : Bool) (d : ℕ) (how : Semantics) (from rest : List Token) → may ≡ true → (protocol_semantics how ⨾ reserved (codes "protocol")) from rest → Whole (take Word ∷ take OpenBrace ∷ managing ∷ []) (stand false d false) rest → Headed may d from
protocol_headed may d how from rest still (m0, sd, pd) (m, (m1, (u, ue, us), (m2, (v, ve, vs), (m3, (statements, parts, md), eq))), r) =
    headed_protocol m3 (record { full = u.text; place = u.place; semantics = how; managers = flat_map managers_of statements; manages = flat_map managed_of statements; messages = flat_map (λ s. s.messages) parts; attributes = [] }) still
    (statements, parts, refl, refl, refl, (m0, sd, (rest, pd, (m1, (u, ue, (means u Word us, refl, refl)), (m2, (v, ve, means v OpenBrace vs), md)))))
    (subst (λ (x : List Token). Rest false d x) (sym eq) r)

semantics_headed : (may : Bool) (d : ℕ) (how : Semantics) (from rest : List Token) → may ≡ true → protocol_semantics how from rest → Whole (take Protocol ∷ take Word ∷ take OpenBrace ∷ managing ∷ []) (stand false d false) rest → Headed may d from
semantics_headed may d how from rest still sd (m, (m1, (u, ue, us), more), r) =
    protocol_headed may d how from m1 still (rest, sd, (u, ue, means u Protocol us)) (m, more, r)

headed_built : (may : Bool) (d : ℕ) (s : Symbol) (t : Token) (rest : List Token) → symbol t ≡ s → AfterAt (step (stand may d true) s) rest → Headed may d (t ∷ rest)
unfolding step
headed_built may d Struct t rest is h = struct_headed may d t rest is h
headed_built may d Union t rest is h = union_headed may d t rest is h
headed_built may d Using t rest is h = let r = was_stepped (d == 0) _ _ rest h in using_headed may d t rest is (eq-eqb-zero d r.0) r.1
headed_built may d Protocol t rest is h = let r = was_stepped may _ _ rest h in protocol_headed may d semantics.Async (t ∷ rest) rest r.0 (t ∷ rest, inl refl, (t, refl, means t Protocol is)) r.1
headed_built may d Async t rest is h = let r = was_stepped may _ _ rest h in semantics_headed may d semantics.Async (t ∷ rest) rest r.0 (inr (t, refl, means t Async is)) r.1
headed_built may d Sync t rest is h = let r = was_stepped may _ _ rest h in semantics_headed may d semantics.Sync (t ∷ rest) rest r.0 (t, refl, means t Sync is) r.1
headed_built may d _ t rest is h = absurd h

bare_built : (may : Bool) (d : ℕ) (s : Symbol) (t : Token) (rest : List Token) → symbol t ≡ s → AfterAt (step (stand may d true) s) rest → Rest may d (t ∷ rest)
bare_built may d s t rest is h = attach may d [] (t ∷ rest) (t ∷ rest) refl (headed_built may d s t rest is h)

-- attributes, and a declaration after them
bracket_built : (may : Bool) (d : ℕ) (t : Token) (rest : List Token) → symbol t ≡ OpenBracket → Whole (attributed ∷ []) (stand may d true) rest → Rest may d (t ∷ rest)
bracket_built may d t rest is (m, (m1, (a, more, ad), eq), h) =
    attach may d (a ∷ more) (t ∷ rest) m1 (rest, (t, refl, means t OpenBracket is), ad) (subst (λ (x : List Token). Headed may d x) (sym eq) h)

include_built : (may : Bool) (d : ℕ) (t : Token) (rest : List Token) → symbol t ≡ Include → d ≡ 0 → Whole (include_named ∷ []) (stand may d false) rest → Rest may d (t ∷ rest)
include_built may d t rest is z (m, (m1, (what, name, place, (m2, wd, sd)), eq), r) =
    cons_include may d (record { kind = what; name = name; place = place }) (t ∷ rest) m1 z (rest, (t, refl, means t Include is), (m2, wd, sd))
    (subst (λ (x : List Token). Rest may d x) (sym eq) r)

namespace_built : (may : Bool) (d : ℕ) (t : Token) (rest : List Token) → symbol t ≡ Namespace → d < 16 → Whole (take Word ∷ take OpenBrace ∷ []) (stand may (d + 1) false) rest → Rest may d (t ∷ rest)
namespace_built may d t rest is lt (m, (m1, (u, ue, us), (m2, (v, ve, vs), eq)), r) =
    cons_namespace may d u.text (t ∷ rest) m2 lt
    (record { after_word = rest; after_name = m1; keyword = (t, refl, means t Namespace is); name_there = (u, ue, (means u Word us, refl)); brace = (v, ve, means v OpenBrace vs) })
    (subst (λ (n : ℕ). Rest may n m2) (add-one d) (subst (λ (x : List Token). Rest may (d + 1) x) (sym eq) r))

close_built : (may : Bool) (d : ℕ) (t : Token) (rest : List Token) → symbol t ≡ CloseBrace → 0 < d → Whole [] (stand may (d - 1) false) rest → Rest may d (t ∷ rest)
close_built may zero t rest is pos h = absurd (omega arith)
close_built may (suc n) t rest is pos (m, eq, r) =
    let e : suc n - 1 ≡ n = omega arith in
    cons_close may n (t ∷ rest) rest (t, refl, means t CloseBrace is)
    (subst (λ (k : ℕ). Rest may k rest) e (subst (λ (x : List Token). Rest may (suc n - 1) x) (sym eq) r))

-- A first token and what is left after its step are what is left before it.
pub file_built : (at : FileState) (s : Symbol) (t : Token) (rest : List Token) → symbol t ≡ s → AfterAt (step at s) rest → FileRest at (t ∷ rest)
unfolding step
file_built (stand may d true) s t rest is h = headed_built may d s t rest is h
file_built (stand may d false) OpenBracket t rest is h = bracket_built may d t rest is h
file_built (stand may d false) Include t rest is h = let r = was_stepped (d == 0) _ _ rest h in include_built may d t rest is (eq-eqb-zero d r.0) r.1
file_built (stand may d false) Namespace t rest is h = let r = was_stepped (nat_lt d 16) _ _ rest h in namespace_built may d t rest is (ltb-true d 16 r.0) r.1
file_built (stand may d false) CloseBrace t rest is h = let r = was_stepped (nat_lt 0 d) _ _ rest h in close_built may d t rest is (ltb-true 0 d r.0) r.1
file_built (stand may d false) s t rest is h = bare_built may d s t rest is h
