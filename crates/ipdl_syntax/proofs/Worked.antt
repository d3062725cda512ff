-- Worked texts: the tokens of each are written out, and the grammar takes them with the tree that is meant.
use Rattle.std.proofs.Common.{◌≡◌, ℕ, Bool, true, false, List, [], ◌∷◌, Some, None, codes, refl, sym, subst, arith}
use Rattle.ipdl_base.specs.declared.finding.Place.{Place}
use Rattle.ipdl_base.specs.declared.kinds.Direction.TheVariants.{Parent}
use Rattle.ipdl_base.specs.declared.kinds.Semantics.TheVariants.{Async}
use Rattle.ipdl_base.specs.declared.token.Token.{Token}
use Rattle.ipdl_base.specs.declared.token.TokenKind.TheVariants.{Word, Reserved, Mark}
use Rattle.ipdl_base.specs.Words.{joined}
use Rattle.ipdl_syntax.specs.declared.tree.Attribute.{Attribute}
use Rattle.ipdl_syntax.specs.declared.tree.Base.{Base, Named, Unique'}
use Rattle.ipdl_syntax.specs.declared.tree.FileKind.TheVariants as file
use Rattle.ipdl_syntax.specs.declared.tree.Include.{Include}
use Rattle.ipdl_syntax.specs.declared.tree.IncludeKind.TheVariants as include_kind
use Rattle.ipdl_syntax.specs.declared.tree.Param.{Param}
use Rattle.ipdl_syntax.specs.declared.tree.Suffix.{Suffix}
use Rattle.ipdl_syntax.specs.declared.tree.Suffix.TheVariants.{Array, Maybe}
use Rattle.ipdl_syntax.specs.declared.tree.TypeSpec.{TypeSpec}
use Rattle.ipdl_syntax.specs.declared.tree.UnionDecl.{UnionDecl}
use Rattle.ipdl_syntax.specs.Parts.{mark, reserved, word, identifier}
use Rattle.ipdl_syntax.specs.Grammar.{qualified, attribute, attributes, type_round, base, type_spec, param, message, components, union_decl, include, outside_include, outside_end}
use Rattle.ipdl_syntax.specs.Program.{Tree}

-- the place of this column in the first line of a file
abbrev column : ℕ → Place
column n = record { file = 0; line = 1; column = n }

-- the kinds of token, each with its text and its column
abbrev a_word : List ℕ → ℕ → Token
a_word text n = record { kind = Word; text = text; place = column n }

abbrev a_reserved : List ℕ → ℕ → Token
a_reserved text n = record { kind = Reserved; text = text; place = column n }

abbrev a_mark : List ℕ → ℕ → Token
a_mark text n = record { kind = Mark; text = text; place = column n }

-- each takes the token of its kind
one_mark : {text : List ℕ} {n : ℕ} {to : List Token} → mark text (a_mark text n ∷ to) to
one_mark = (_, refl, (refl, refl))

one_reserved : {text : List ℕ} {n : ℕ} {to : List Token} → reserved text (a_reserved text n ∷ to) to
one_reserved = (_, refl, (refl, refl))

one_word : {text : List ℕ} {n : ℕ} {to : List Token} → word text (a_word text n ∷ to) to
one_word = (_, refl, (refl, refl))

one_identifier : {text : List ℕ} {n : ℕ} {to : List Token} → identifier text (column n) (a_word text n ∷ to) to
one_identifier = (_, refl, (refl, refl, refl))

-- names of one word, and of two
a_name : {name : List ℕ} {n : ℕ} {to : List Token} → qualified name (a_word name n ∷ to) to
a_name = (_, [], refl, (_, one_word, refl))

two_words : (first second : List ℕ) {n m k : ℕ} {to : List Token} → qualified (joined (first ∷ second ∷ [])) (a_word first n ∷ a_mark (codes "::") m ∷ a_word second k ∷ to) to
two_words first second = (first, second ∷ [], refl, (_, one_word, (_, one_mark, (_, one_word, refl))))

-- a type that is one word
abbrev a_type : List ℕ → ℕ → TypeSpec
a_type name n = record { nullable = false; base = Named name None; suffixes = []; place = column n }

one_type : {name : List ℕ} {n : ℕ} {to : List Token} → type_spec (a_type name n) (a_word name n ∷ to) to
one_type = (omega arith, (_, refl, (_, (_, _, refl, refl, (_, a_name, refl)), refl)))

-- a parameter with such a type
abbrev a_param : List ℕ → ℕ → List ℕ → ℕ → Param
a_param kind n name m = record { spec = a_type kind n; name = name; place = column m; attributes = [] }

one_param : {kind : List ℕ} {n : ℕ} {name : List ℕ} {m : ℕ} {to : List Token} → param (a_param kind n name m) (a_word kind n ∷ a_word name m ∷ to) to
one_param = (_, refl, (_, one_type, one_identifier))

-- `Nested = sync`
pub attribute_with_value :
    attribute (record { name = codes "Nested"; value = Some (codes "sync"); place = column 1 })
    (a_word (codes "Nested") 1 ∷ a_mark (codes "=") 8 ∷ a_reserved (codes "sync") 10 ∷ []) []
attribute_with_value = (_, one_identifier, (_, one_mark, (_, refl, ((λ e. cc), refl))))

-- `nullable A::B[]?`
pub nullable_with_suffixes :
    type_spec (record { nullable = true; base = Named (codes "A::B") None; suffixes = Array ∷ Maybe ∷ []; place = column 10 })
    (a_reserved (codes "nullable") 1 ∷ a_word (codes "A") 10 ∷ a_mark (codes "::") 11 ∷ a_word (codes "B") 13
    ∷ a_mark (codes "[") 14 ∷ a_mark (codes "]") 15 ∷ a_mark (codes "?") 16 ∷ []) []
nullable_with_suffixes =
    (omega arith, (_, one_reserved, (_, (_, _, refl, refl, (_, two_words (codes "A") (codes "B"), refl)), (_, (_, one_mark, one_mark), (_, one_mark, refl)))))

-- `UniquePtr<A[]>?`, wherever its box lies, and the type in it
inner_array : {to : List Token} →
    type_round false (base 3 (Named (codes "A") None)) (Array ∷ []) (column 11)
    (a_word (codes "A") 11 ∷ a_mark (codes "[") 12 ∷ a_mark (codes "]") 13 ∷ to) to
inner_array = (omega arith, (_, refl, (_, (_, _, refl, refl, (_, a_name, refl)), (_, (_, one_mark, one_mark), refl))))

pub unique_with_suffixes : (at : _) →
    type_spec (record { nullable = false; base = Unique' at false (Named (codes "A") None) (Array ∷ []) (column 11); suffixes = Maybe ∷ []; place = column 1 })
    (a_reserved (codes "UniquePtr") 1 ∷ a_mark (codes "<") 10 ∷ a_word (codes "A") 11 ∷ a_mark (codes "[") 12 ∷ a_mark (codes "]") 13
    ∷ a_mark (codes ">") 14 ∷ a_mark (codes "?") 15 ∷ []) []
unique_with_suffixes at =
    (omega arith, (_, refl, (_, (_, _, refl, refl, (omega arith, (_, one_reserved, (_, one_mark, (_, inner_array, one_mark))))), (_, one_mark, refl))))

-- `async Ask(int32_t n) returns (bool ok);` in the section of the parent
pub message_with_return :
    message Parent
    (record {
      name = codes "Ask";
      place = column 7;
      direction = Parent;
      semantics = Async;
      params = a_param (codes "int32_t") 11 (codes "n") 19 ∷ [];
      returns = Some (a_param (codes "bool") 31 (codes "ok") 36 ∷ []);
      attributes = [];
    })
    (a_reserved (codes "async") 1 ∷ a_word (codes "Ask") 7 ∷ a_mark (codes "(") 10 ∷ a_word (codes "int32_t") 11 ∷ a_word (codes "n") 19 ∷ a_mark (codes ")") 20
    ∷ a_reserved (codes "returns") 22 ∷ a_mark (codes "(") 30 ∷ a_word (codes "bool") 31 ∷ a_word (codes "ok") 36 ∷ a_mark (codes ")") 38 ∷ a_mark (codes ";") 39 ∷ []) []
message_with_return =
    (refl, (_, refl, (_, one_reserved, (_, one_identifier, (_, one_mark, (_, (_, one_param, refl), (_, one_mark, (_, (_, one_reserved, (_, one_mark, (_, (_, one_param, refl), one_mark))), one_mark))))))))

-- `union U { A; B; };` in the namespace N
pub union_in_a_namespace :
    union_decl (codes "N" ∷ [])
    (record { full = codes "N::U"; place = column 7; components = a_type (codes "A") 11 ∷ a_type (codes "B") 14 ∷ []; attributes = [] })
    (a_reserved (codes "union") 1 ∷ a_word (codes "U") 7 ∷ a_mark (codes "{") 9 ∷ a_word (codes "A") 11 ∷ a_mark (codes ";") 12
    ∷ a_word (codes "B") 14 ∷ a_mark (codes ";") 15 ∷ a_mark (codes "}") 17 ∷ a_mark (codes ";") 18 ∷ []) []
union_in_a_namespace =
    ((λ e. cc), (_, refl, (_, one_reserved, (_, (_, refl, (refl, refl, refl)), (_, one_mark, (_, (_, one_type, (_, one_mark, (_, one_type, (_, one_mark, refl)))), (_, one_mark, one_mark)))))))

-- `include protocol PChild;`
abbrev the_include : Include
the_include = record { kind = include_kind.Protocol; name = codes "PChild"; place = column 18 }

abbrev include_tokens : List Token
include_tokens = a_reserved (codes "include") 1 ∷ a_reserved (codes "protocol") 9 ∷ a_word (codes "PChild") 18 ∷ a_mark (codes ";") 24 ∷ []

pub include_of_a_protocol : include the_include include_tokens []
include_of_a_protocol = (_, one_reserved, (_, (_, one_reserved, one_identifier), one_mark))

-- a header of this alone
pub header_of_an_include : Tree file.Header include_tokens (record { includes = the_include ∷ []; usings = []; structs = []; unions = []; protocol = None })
header_of_an_include = (outside_include the_include outside_end, (_, include_of_a_protocol, refl), refl)

-- a mark is no base, and so begins no type
no_base : (room : ℕ) (b : Base) (t : Token) (rest to : List Token) → t.kind ≡ Mark → base room b (t ∷ rest) to → ⊥
no_base room (Named name inner) t rest to e p = let it = p.1.3.1 in cc (it.1, it.2.0)
no_base room (Unique' at nullable inner after place) t rest to e p = let it = p.1.1 in cc (it.1, it.2.0)

no_type : (nullable : Bool) (b : Base) (after : List Suffix) (place : Place) (t : Token) (rest to : List Token) → t.kind ≡ Mark → type_round nullable (base 4 b) after place (t ∷ rest) to → ⊥
no_type true b after place t rest to e p = let it = p.1.1 in cc (it.1, it.2.0)
no_type false b after place t rest to e p = no_base 4 b t rest _ e (subst (λ (from : List Token). base 4 b from p.1.2.0) (sym p.1.1) p.1.2.1.4)

no_component : (cs : List TypeSpec) (t : Token) (rest to : List Token) → t.kind ≡ Mark → components cs (t ∷ rest) to → cs ≡ []
no_component [] t rest to e p = refl
no_component (c ∷ cs) t rest to e p = absurd (no_type c.nullable c.base c.suffixes c.place t rest _ e p.1)

-- a reserved word begins no attributes
no_attribute : (all : List Attribute) (t : Token) (rest to : List Token) → t.kind ≡ Reserved → attributes all (t ∷ rest) to → t ∷ rest ≡ to
no_attribute [] t rest to e p = p
no_attribute (a ∷ more) t rest to e p = let it = p.1 in cc (it.1, it.2.0)

-- `union U { };` is not a union, whatever follows it.
pub empty_union : (scope : List (List ℕ)) (u : UnionDecl) (following to : List Token) →
    union_decl scope u (a_reserved (codes "union") 1 ∷ a_word (codes "U") 7 ∷ a_mark (codes "{") 9 ∷ a_mark (codes "}") 11 ∷ a_mark (codes ";") 12 ∷ following) to → ⊥
empty_union scope u following to p =
    let before = no_attribute u.attributes _ _ _ refl p.1.1 in
    let the_union = p.1.2 in
    let the_name = the_union.2 in
    let the_brace = the_name.2 in
    let all = the_brace.2 in
    let begin : the_brace.0 ≡ a_mark (codes "}") 11 ∷ a_mark (codes ";") 12 ∷ following = cc (before, the_union.1.1, the_name.1.1, the_brace.1.1) in
    p.0 (no_component u.components _ _ _ refl (subst (λ (from : List Token). components u.components from all.0) begin all.1))
