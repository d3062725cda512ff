-- Structs, unions, usings and includes.
use Rattle.std.proofs.Common.{◌≡◌, ℕ, true, List, [], ◌∷◌, map, codes, refl, sym, ap, ◌∙◌}
use Rattle.ipdl_base.specs.declared.finding.Place.{Place}
use Rattle.ipdl_base.specs.declared.token.TokenKind.TheVariants as kind
use Rattle.ipdl_syntax.specs.declared.tree.Include.{Include}
use Rattle.ipdl_syntax.specs.declared.tree.IncludeKind.{IncludeKind}
use Rattle.ipdl_syntax.specs.declared.tree.IncludeKind.TheVariants as include_kind
use Rattle.ipdl_syntax.specs.declared.tree.Param.{Param}
use Rattle.ipdl_syntax.specs.declared.tree.StructDecl.{StructDecl}
use Rattle.ipdl_syntax.specs.declared.tree.TypeSpec.{TypeSpec}
use Rattle.ipdl_syntax.specs.declared.tree.UnionDecl.{UnionDecl}
use Rattle.ipdl_syntax.specs.declared.tree.Using.{Using}
use Rattle.ipdl_syntax.specs.Parts.{Part, nothing, either, reserved, quoted}
use Rattle.ipdl_syntax.specs.Grammar.{type_spec, field, fields, struct_decl, components, union_decl, using_decl, included, include}
use Rattle.grammar_laws.specs.Boxes.{unboxed_type, unboxed_param, unboxed_struct, unboxed_union}
use Rattle.grammar_laws.proofs.Heads.{a_head, Test, always, opposite, is_word, is_mark, is_reserved}
use Rattle.grammar_laws.proofs.Settling.{Settles, Begins, begins_nothing, begins_mark, begins_token, begins_reserved, begins_first, begins_at, begins_either, begins_provided, told, nothing_settles, token_settles, mark_settles, reserved_settles, identifier_settles, quoted_settles, both_settle, next_settle, apart, apart_too, none_some, some_none, at_settles, provided_settles, either_settles}
use Rattle.grammar_laws.proofs.Names.{attributes_settle, declared_settles, foreign_settles, foreign_begins}
use Rattle.grammar_laws.proofs.Types.{past_type, type_settles, type_begins}
use Rattle.grammar_laws.proofs.Messages.{identifier_begins, same_param}

-- after the fields of a struct and the components of a union
abbrev closed : Test
closed = is_mark (codes "}")

-- fields are the same
field_settles : (p q : Param) {following : Test} → Settles (field p) (field q) following (unboxed_param p ≡ unboxed_param q)
field_settles p q =
    provided_settles (λ a b. told (λ e. same_param p q (a ∙ sym b) e.0 e.1.0.0 e.1.0.1)
    (both_settle (type_settles p.spec q.spec) (begins_first (identifier_begins past_type (λ text. refl))) (begins_first (identifier_begins past_type (λ text. refl)))
    (next_settle identifier_settles mark_settles)))

-- no type begins with what ends a struct or a union
type_opens : (s : TypeSpec) → Begins (type_spec s) always (opposite closed)
type_opens s = type_begins s (opposite closed) (λ text. refl) refl refl

-- all fields of a struct are the same
fields_settle : (xs ys : List Param) → Settles (fields xs) (fields ys) closed (map unboxed_param xs ≡ map unboxed_param ys)
fields_settle [] [] = nothing_settles refl
fields_settle [] (y ∷ ys) = none_some (begins_first (begins_provided (begins_first (type_opens y.spec))))
fields_settle (x ∷ xs) [] = some_none (begins_first (begins_provided (begins_first (type_opens x.spec))))
fields_settle (x ∷ xs) (y ∷ ys) = told (λ e. cc) (next_settle (field_settles x y) (fields_settle xs ys))

-- a struct is determined by its parts
same_struct : (s r : StructDecl) → s.attributes ≡ r.attributes → s.full ≡ r.full → s.place ≡ r.place → map unboxed_param s.fields ≡ map unboxed_param r.fields → unboxed_struct s ≡ unboxed_struct r
same_struct s r a f p l = λ i. record { full = f i; place = p i; fields = l i; attributes = a i }

-- structs in the same namespaces are the same
pub struct_settles : (scope : List (List ℕ)) (s r : StructDecl) {following : Test} → Settles (struct_decl scope s) (struct_decl scope r) following (unboxed_struct s ≡ unboxed_struct r)
struct_settles scope s r =
    told (λ e. same_struct s r e.0 e.1.1.0.0 e.1.1.0.1 e.1.1.1.1.0)
    (both_settle (attributes_settle s.attributes r.attributes) (begins_first (begins_reserved refl)) (begins_first (begins_reserved refl))
    (next_settle reserved_settles (next_settle (declared_settles scope s.full r.full s.place r.place) (next_settle mark_settles
    (both_settle (fields_settle s.fields r.fields) (begins_first (begins_mark refl)) (begins_first (begins_mark refl)) (next_settle mark_settles mark_settles))))))

-- all components of a union are the same
components_settle : (xs ys : List TypeSpec) → Settles (components xs) (components ys) closed (map unboxed_type xs ≡ map unboxed_type ys)
components_settle [] [] = nothing_settles refl
components_settle [] (y ∷ ys) = none_some (begins_first (type_opens y))
components_settle (x ∷ xs) [] = some_none (begins_first (type_opens x))
components_settle (x ∷ xs) (y ∷ ys) =
    told (λ e. cc) (both_settle (type_settles x y) (begins_first (begins_mark refl)) (begins_first (begins_mark refl)) (next_settle mark_settles (components_settle xs ys)))

-- a union is determined by its parts
same_union : (u v : UnionDecl) → u.attributes ≡ v.attributes → u.full ≡ v.full → u.place ≡ v.place → map unboxed_type u.components ≡ map unboxed_type v.components → unboxed_union u ≡ unboxed_union v
same_union u v a f p l = λ i. record { full = f i; place = p i; components = l i; attributes = a i }

-- unions in the same namespaces are the same
pub union_settles : (scope : List (List ℕ)) (u v : UnionDecl) {following : Test} → Settles (union_decl scope u) (union_decl scope v) following (unboxed_union u ≡ unboxed_union v)
union_settles scope u v =
    provided_settles (λ a b. told (λ e. same_union u v e.0 e.1.1.0.0 e.1.1.0.1 e.1.1.1.1.0)
    (both_settle (attributes_settle u.attributes v.attributes) (begins_first (begins_reserved refl)) (begins_first (begins_reserved refl))
    (next_settle reserved_settles (next_settle (declared_settles scope u.full v.full u.place v.place) (next_settle mark_settles
    (both_settle (components_settle u.components v.components) (begins_first (begins_mark refl)) (begins_first (begins_mark refl)) (next_settle mark_settles mark_settles)))))))

-- the word that may come before what is used
abbrev used_word : Part
used_word = either nothing (either (reserved (codes "class")) (reserved (codes "struct")))

-- both have the word, or neither has it
used_word_settles : Settles used_word used_word is_word (Unit {0})
used_word_settles =
    let bare = begins_nothing {following = is_word} {test = is_word} (λ h b. b) in
    either_settles
    (nothing_settles tt)
    (apart is_word bare (begins_either (begins_reserved refl) (begins_reserved refl)))
    (apart_too is_word (begins_either (begins_reserved refl) (begins_reserved refl)) bare)
    (either_settles
    reserved_settles
    (apart (is_reserved (codes "class")) (begins_reserved refl) (begins_reserved refl))
    (apart (is_reserved (codes "struct")) (begins_reserved refl) (begins_reserved refl))
    reserved_settles)

-- a using is determined by its parts
same_using : (u v : Using) → u.attributes ≡ v.attributes → u.full ≡ v.full → u.place ≡ v.place → u ≡ v
same_using u v a f p = λ i. record { full = f i; place = p i; attributes = a i }

-- usings are the same
pub using_settles : (u v : Using) {following : Test} → Settles (using_decl u) (using_decl v) following (u ≡ v)
using_settles u v =
    told (λ e. same_using u v e.0 e.1.1.1.0.1 e.1.1.1.0.0)
    (both_settle (attributes_settle u.attributes v.attributes) (begins_first (begins_reserved refl)) (begins_first (begins_reserved refl))
    (next_settle reserved_settles
    (both_settle used_word_settles (begins_first (begins_at (foreign_begins u.full))) (begins_first (begins_at (foreign_begins v.full)))
    (both_settle (at_settles (foreign_settles u.full v.full)) (begins_first (begins_reserved refl)) (begins_first (begins_reserved refl))
    (next_settle reserved_settles (next_settle (token_settles {Told = Unit {0}} (λ t i j. tt)) mark_settles))))))

-- what follows from two includes
abbrev IncludedTold : IncludeKind → IncludeKind → List ℕ → List ℕ → Place → Place → Type 0
IncludedTold k l n m p q = (k ≡ l) × (n ≡ m) × (p ≡ q)

-- a quoted text passes each test that all of them pass
quoted_begins : {text : List ℕ} {place : Place} {following : Test} (test : Test) → ((x : List ℕ) → test (a_head kind.Quoted x) ≡ true) → Begins (quoted text place) following test
quoted_begins test e = begins_token (λ t i. ap (λ k. test (a_head k t.text)) i.0 ∙ e t.text)

-- what is included is the same
included_settles : (k l : IncludeKind) (n m : List ℕ) (p q : Place) {following : Test} → Settles (included k n p) (included l m q) following (IncludedTold k l n m p q)
included_settles include_kind.Protocol include_kind.Protocol n m p q = told (λ e. (refl, e.1.0, e.1.1)) (next_settle reserved_settles identifier_settles)
included_settles include_kind.Header include_kind.Header n m p q = told (λ e. (refl, e.0, e.1)) identifier_settles
included_settles include_kind.Quoted include_kind.Quoted n m p q = told (λ e. (refl, e.0, e.1)) quoted_settles
included_settles include_kind.Protocol include_kind.Header n m p q = apart_too is_word (begins_first (begins_reserved refl)) (identifier_begins is_word (λ x. refl))
included_settles include_kind.Protocol include_kind.Quoted n m p q = apart (is_reserved (codes "protocol")) (begins_first (begins_reserved refl)) (quoted_begins (opposite (is_reserved (codes "protocol"))) (λ x. refl))
included_settles include_kind.Header include_kind.Protocol n m p q = apart is_word (identifier_begins is_word (λ x. refl)) (begins_first (begins_reserved refl))
included_settles include_kind.Header include_kind.Quoted n m p q = apart is_word (identifier_begins is_word (λ x. refl)) (quoted_begins (opposite is_word) (λ x. refl))
included_settles include_kind.Quoted include_kind.Protocol n m p q = apart_too (is_reserved (codes "protocol")) (quoted_begins (opposite (is_reserved (codes "protocol"))) (λ x. refl)) (begins_first (begins_reserved refl))
included_settles include_kind.Quoted include_kind.Header n m p q = apart_too is_word (quoted_begins (opposite is_word) (λ x. refl)) (identifier_begins is_word (λ x. refl))

-- an include is its kind, its name and its place
same_include : (a b : Include) → IncludedTold a.kind b.kind a.name b.name a.place b.place → a ≡ b
same_include a b e = λ i. record { kind = e.0 i; name = e.1 i; place = e.2 i }

-- includes are the same
pub include_settles : (a b : Include) {following : Test} → Settles (include a) (include b) following (a ≡ b)
include_settles a b = told (λ e. same_include a b e.1.0) (next_settle reserved_settles (next_settle (included_settles a.kind b.kind a.name b.name a.place b.place) mark_settles))
