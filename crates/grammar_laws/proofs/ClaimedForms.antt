-- The claims of the forms of the grammar that are read from tokens with that claim: names, attributes, types and messages.
use Rattle.std.proofs.Common.{◌≡◌, ℕ, ◌-◌, Bool, true, false, List, [], ◌∷◌, ◌++◌, Option, Some, None, subst}
use Rattle.std.specs.Prelude.{IfSome}
use Rattle.std.specs.List.{AllByRecursion}
use Rattle.ipdl_base.specs.declared.finding.Place.{Place}
use Rattle.ipdl_base.specs.declared.kinds.Direction.{Direction}
use Rattle.ipdl_base.specs.Words.{IsWord, IsFullName, joined}
use Rattle.ipdl_syntax.specs.declared.tree.Attribute.{Attribute}
use Rattle.ipdl_syntax.specs.declared.tree.Base.{Base, Named, Unique'}
use Rattle.ipdl_syntax.specs.declared.tree.MessageDecl.{MessageDecl}
use Rattle.ipdl_syntax.specs.declared.tree.Param.{Param}
use Rattle.ipdl_syntax.specs.declared.tree.Suffix.{Suffix}
use Rattle.ipdl_syntax.specs.declared.tree.Suffix.TheVariants.{Array, Maybe}
use Rattle.ipdl_syntax.specs.declared.tree.TypeSpec.{TypeSpec}
use Rattle.ipdl_syntax.specs.Parts.{Part, ◌⨾◌, word, identifier, at}
use Rattle.ipdl_syntax.specs.Grammar.{words, qualified, argument, named, declared, value, attribute, more_attributes, attributes, suffix, suffixes, nullable_word, type_round, base, type_spec, param, more_params, params, returns, message, messages}
use Rattle.ipdl_syntax.specs.Units.{IsIn}
use Rattle.grammar_laws.proofs.Claims.{Claim, of_words, of_places, Good, OfWord, OfName, OfPlace, OfAttributes, OfBase, OfType, OfParam, OfMessage}
use Rattle.grammar_laws.proofs.Tells.{Tells, tells_more, nothing_tells, token_tells, mark_tells, reserved_tells, both_tell, first_tells, next_tells, provided_tells, both_all}

-- Names

-- a word
pub word_tells : (c : Claim) {name : List ℕ} → Tells (Good c) (word name) (OfWord c name)
word_tells of_words = token_tells (λ t g i. subst IsWord i.1 (g i.0))
word_tells (of_places n) = token_tells (λ t g i. tt)

-- a word at its place
pub identifier_tells : (c : Claim) {name : List ℕ} {place : Place} → Tells (Good c) (identifier name place) (OfWord c name × OfPlace c place)
identifier_tells of_words = token_tells (λ t g i. (subst IsWord i.1 (g i.0), tt))
identifier_tells (of_places n) = token_tells (λ t g i. (tt, subst (IsIn n) i.2 g))

-- a part whose first token is at this place
pub at_tells : (c : Claim) {place : Place} {P : Part} {Told : Type 0} → Tells (Good c) P Told → Tells (Good c) (at place P) (OfPlace c place × Told)
at_tells of_words p = record { tell = λ from to (t, rest, te, pe, d) g. let r = p.tell from to d g in ((tt, r.0), r.1) }
at_tells (of_places n) p = record {
  tell = λ from to (t, rest, te, pe, d) g.
      let all : AllByRecursion (Good (of_places n)) (t ∷ rest) = subst (AllByRecursion (Good (of_places n))) te g in
      let r = p.tell from to d g in
      ((subst (IsIn n) pe all.0, r.0), r.1);
}

-- words after `::`
words_tell : (c : Claim) (ws : List (List ℕ)) → Tells (Good c) (words ws) (AllByRecursion (OfWord c) ws)
words_tell c [] = nothing_tells tt
words_tell c (w ∷ ws) = next_tells mark_tells (both_tell (word_tells c) (words_tell c ws))

-- words joined by colons are a full name
name_told : (c : Claim) (name first : List ℕ) (others : List (List ℕ)) → name ≡ joined (first ∷ others) → AllByRecursion (OfWord c) (first ∷ others) → OfName c name
name_told of_words name first others e all = (first, others, all, e)
name_told (of_places n) name first others e all = tt

-- a name with its namespaces
pub qualified_tells : (c : Claim) (name : List ℕ) → Tells (Good c) (qualified name) (OfName c name)
qualified_tells c name = record {
  tell = λ from to (first, others, e, d) g.
      let s : Tells (Good c) (word first ⨾ words others) (AllByRecursion (OfWord c) (first ∷ others)) = both_tell (word_tells c) (words_tell c others) in
      let r = s.tell from to d g in
      (name_told c name first others e r.0, r.1);
}

-- its argument
argument_tells : (c : Claim) (inner : Option (List ℕ)) → Tells (Good c) (argument inner) (IfSome inner (OfName c))
argument_tells c None = nothing_tells tt
argument_tells c (Some name) = next_tells mark_tells (first_tells (qualified_tells c name) mark_tells)

-- a name, perhaps with an argument
pub named_tells : (c : Claim) (name : List ℕ) (inner : Option (List ℕ)) → Tells (Good c) (named name inner) (OfName c name × IfSome inner (OfName c))
named_tells c name inner = both_tell (qualified_tells c name) (argument_tells c inner)

-- a word after words
pub all_and_one : (P : List ℕ → Type 0) (scope : List (List ℕ)) (name : List ℕ) → AllByRecursion P scope → P name → AllByRecursion P (scope ++ name ∷ [])
all_and_one P scope name all one = both_all P scope (name ∷ []) all (one, tt)

-- the name of a declaration in namespaces
full_told : (scope : List (List ℕ)) (text full : List ℕ) → AllByRecursion IsWord scope → IsWord text → full ≡ joined (scope ++ text ∷ []) → IsFullName full
full_told [] text full all w e = (text, [], (w, tt), e)
full_told (x ∷ xs) text full all w e = (x, xs ++ text ∷ [], (all.0, all_and_one IsWord xs text all.1 w), e)

-- a declared name at its place
pub declared_tells : (c : Claim) (scope : List (List ℕ)) {full : List ℕ} {place : Place} → AllByRecursion (OfWord c) scope → Tells (Good c) (declared scope full place) (OfName c full × OfPlace c place)
declared_tells of_words scope {full} all = token_tells (λ t g i. (full_told scope t.text full all (g i.0) i.1, tt))
declared_tells (of_places n) scope all = token_tells (λ t g i. (tt, subst (IsIn n) i.2 g))

-- Attributes

-- the value of an attribute
value_tells : (c : Claim) (text : Option (List ℕ)) → Tells (Good c) (value text) (Unit {0})
value_tells c None = nothing_tells tt
value_tells c (Some text) = next_tells mark_tells (token_tells (λ t g i. tt))

-- an attribute
attribute_tells : (c : Claim) (a : Attribute) → Tells (Good c) (attribute a) (OfPlace c a.place)
attribute_tells c a = tells_more (λ e. e.1) (first_tells (identifier_tells c) (value_tells c a.value))

-- further attributes
more_attributes_tell : (c : Claim) (all : List Attribute) → Tells (Good c) (more_attributes all) (OfAttributes c all)
more_attributes_tell c [] = nothing_tells tt
more_attributes_tell c (a ∷ rest) = next_tells mark_tells (both_tell (attribute_tells c a) (more_attributes_tell c rest))

-- attributes in brackets
pub attributes_tell : (c : Claim) (all : List Attribute) → Tells (Good c) (attributes all) (OfAttributes c all)
attributes_tell c [] = nothing_tells tt
attributes_tell c (a ∷ rest) = next_tells mark_tells (both_tell (attribute_tells c a) (first_tells (more_attributes_tell c rest) mark_tells))

-- Types

-- a suffix
suffix_tells : (c : Claim) (s : Suffix) → Tells (Good c) (suffix s) (Unit {0})
suffix_tells c Array = next_tells mark_tells mark_tells
suffix_tells c Maybe = mark_tells

-- suffixes
suffixes_tell : (c : Claim) (all : List Suffix) → Tells (Good c) (suffixes all) (Unit {0})
suffixes_tell c [] = nothing_tells tt
suffixes_tell c (s ∷ rest) = next_tells (suffix_tells c s) (suffixes_tell c rest)

-- perhaps `nullable`
nullable_tells : (c : Claim) (nullable : Bool) → Tells (Good c) (nullable_word nullable) (Unit {0})
nullable_tells c true = reserved_tells
nullable_tells c false = nothing_tells tt

-- a type around its base
round_tells : (c : Claim) (nullable : Bool) (after : List Suffix) (place : Place) {P : Part} {Told : Type 0} → Tells (Good c) P Told → Tells (Good c) (type_round nullable P after place) (OfPlace c place × Told)
round_tells c nullable after place p = provided_tells (λ few. next_tells (nullable_tells c nullable) (first_tells (at_tells c p) (suffixes_tell c after)))

-- what a name claims as a base
named_told : (c : Claim) (name : List ℕ) (inner : Option (List ℕ)) → OfName c name × IfSome inner (OfName c) → OfBase c (Named name inner)
named_told of_words name inner e = e
named_told (of_places n) name inner e = tt

-- what a UniquePtr claims
unique_told : (c : Claim) (at_box : _) (nullable : Bool) (inner : Base) (after : List Suffix) (place : Place) → OfPlace c place × OfBase c inner → OfBase c (Unique' at_box nullable inner after place)
unique_told of_words at_box nullable inner after place e = e.1
unique_told (of_places n) at_box nullable inner after place e = e

-- a base
base_tells : (c : Claim) (room : ℕ) (b : Base) → Tells (Good c) (base room b) (OfBase c b)
base_tells c room (Named name inner) = tells_more (named_told c name inner) (named_tells c name inner)
base_tells c room (Unique' at_box nullable inner after place) =
    provided_tells (λ deep. tells_more (unique_told c at_box nullable inner after place)
    (next_tells reserved_tells (next_tells mark_tells (first_tells (round_tells c nullable after place (base_tells c (room - 1) inner)) mark_tells))))

-- what a type claims
type_told : (c : Claim) (spec : TypeSpec) → OfPlace c spec.place × OfBase c spec.base → OfType c spec
type_told of_words spec e = e.1
type_told (of_places n) spec e = record { place = e.0; base = e.1 }

-- a type
pub type_tells : (c : Claim) (spec : TypeSpec) → Tells (Good c) (type_spec spec) (OfType c spec)
type_tells c spec = tells_more (type_told c spec) (round_tells c spec.nullable spec.suffixes spec.place (base_tells c 4 spec.base))

-- Messages

-- what a parameter claims
pub param_told : (c : Claim) (p : Param) → OfAttributes c p.attributes → OfType c p.spec → OfWord c p.name × OfPlace c p.place → OfParam c p
param_told of_words p a s e = record { spec = s; name = e.0 }
param_told (of_places n) p a s e = record { place = e.1; spec = s; attributes = a }

-- a parameter
param_tells : (c : Claim) (p : Param) → Tells (Good c) (param p) (OfParam c p)
param_tells c p =
    tells_more (λ e. param_told c p e.0 e.1.0 e.1.1) (both_tell (attributes_tell c p.attributes) (both_tell (type_tells c p.spec) (identifier_tells c)))

-- further parameters
more_params_tell : (c : Claim) (all : List Param) → Tells (Good c) (more_params all) (AllByRecursion (OfParam c) all)
more_params_tell c [] = nothing_tells tt
more_params_tell c (p ∷ rest) = next_tells mark_tells (both_tell (param_tells c p) (more_params_tell c rest))

-- parameters
params_tell : (c : Claim) (all : List Param) → Tells (Good c) (params all) (AllByRecursion (OfParam c) all)
params_tell c [] = nothing_tells tt
params_tell c (p ∷ rest) = both_tell (param_tells c p) (more_params_tell c rest)

-- the returns of a message
returns_tell : (c : Claim) (all : Option (List Param)) → Tells (Good c) (returns all) (IfSome all (AllByRecursion (OfParam c)))
returns_tell c None = nothing_tells tt
returns_tell c (Some all) = next_tells reserved_tells (next_tells mark_tells (first_tells (params_tell c all) mark_tells))

-- what a message claims
message_told : (c : Claim) (m : MessageDecl) → OfAttributes c m.attributes → OfWord c m.name × OfPlace c m.place → AllByRecursion (OfParam c) m.params → IfSome m.returns (AllByRecursion (OfParam c)) → OfMessage c m
message_told of_words m a e ps rs = record { name = e.0; params = ps; returns = rs }
message_told (of_places n) m a e ps rs = record { place = e.1; params = ps; returns = rs; attributes = a }

-- a message
message_tells : (c : Claim) (d : Direction) (m : MessageDecl) → Tells (Good c) (message d m) (OfMessage c m)
message_tells c d m =
    provided_tells (λ same. tells_more (λ e. message_told c m e.0 e.1.0 e.1.1.0 e.1.1.1)
    (both_tell (attributes_tell c m.attributes) (next_tells reserved_tells
    (both_tell (identifier_tells c) (next_tells mark_tells (both_tell (params_tell c m.params) (next_tells mark_tells (first_tells (returns_tell c m.returns) mark_tells))))))))

-- the messages of a section
pub messages_tell : (c : Claim) (d : Direction) (all : List MessageDecl) → Tells (Good c) (messages d all) (AllByRecursion (OfMessage c) all)
messages_tell c d [] = nothing_tells tt
messages_tell c d (m ∷ rest) = both_tell (message_tells c d m) (messages_tell c d rest)
