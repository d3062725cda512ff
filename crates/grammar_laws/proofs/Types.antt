-- Types.
use Rattle.std.proofs.Common.{◌≡◌, ℕ, ◌-◌, Bool, true, false, ◌||◌, ◌&&◌, List, [], ◌∷◌, codes, refl}
use Rattle.std.proofs.Math.Bool.{not}
use Rattle.ipdl_base.specs.declared.finding.Place.{Place}
use Rattle.ipdl_base.specs.declared.token.TokenKind.TheVariants as kind
use Rattle.ipdl_syntax.specs.declared.tree.Base.{Base, Named, Unique'}
use Rattle.ipdl_syntax.specs.declared.tree.Suffix.{Suffix}
use Rattle.ipdl_syntax.specs.declared.tree.Suffix.TheVariants.{Array, Maybe}
use Rattle.ipdl_syntax.specs.declared.tree.TypeSpec.{TypeSpec}
use Rattle.ipdl_syntax.specs.Parts.{Part, ◌⨾◌}
use Rattle.ipdl_syntax.specs.Grammar.{suffix, suffixes, nullable_word, type_round, base, type_spec}
use Rattle.grammar_laws.specs.Boxes.{unboxed_base, unboxed_type}
use Rattle.grammar_laws.proofs.Heads.{Head, a_head, Test, always, opposite, is_word, is_mark, is_reserved, of_word, of_reserved, both_true, either_true}
use Rattle.grammar_laws.proofs.Settling.{Settles, Begins, begins_nothing, begins_mark, begins_reserved, begins_both, begins_first, begins_any, begins_more, begins_at, begins_provided, told, nothing_settles, mark_settles, reserved_settles, both_settle, next_settle, apart, apart_too, none_some, some_none, at_settles, provided_settles}
use Rattle.grammar_laws.proofs.Names.{past_name, named_settles, named_begins}

-- what follows a type
abbrev pub past_type : Test
past_type h = past_name h && not (is_mark (codes "[") h || is_mark (codes "?") h)

-- what a base begins with
abbrev pub base_start : Test
base_start h = is_word h || is_reserved (codes "UniquePtr") h

-- what a type begins with
abbrev pub type_start : Test
type_start h = is_reserved (codes "nullable") h || base_start h

-- what begins a base passes each test that these pass
of_base : (test : Test) → ((text : List ℕ) → test (a_head kind.Word text) ≡ true) → test (a_head kind.Reserved (codes "UniquePtr")) ≡ true → (h : Head) → base_start h ≡ true → test h ≡ true
of_base test e f h b = either_true (is_word h) (is_reserved (codes "UniquePtr") h) (test h ≡ true) b (of_word test e h) (of_reserved (codes "UniquePtr") test f h)

-- what begins a type passes each test that these pass
of_type : (test : Test) → ((text : List ℕ) → test (a_head kind.Word text) ≡ true) → test (a_head kind.Reserved (codes "UniquePtr")) ≡ true → test (a_head kind.Reserved (codes "nullable")) ≡ true → (h : Head) → type_start h ≡ true → test h ≡ true
of_type test e f g h b = either_true (is_reserved (codes "nullable") h) (base_start h) (test h ≡ true) b (of_reserved (codes "nullable") test g h) (of_base test e f h)

-- two suffixes are the same
suffix_settles : (s r : Suffix) {following : Test} → Settles (suffix s) (suffix r) following (s ≡ r)
suffix_settles Array Array = told (λ e. refl) (next_settle mark_settles mark_settles)
suffix_settles Array Maybe = apart (is_mark (codes "[")) (begins_first (begins_mark refl)) (begins_mark refl)
suffix_settles Maybe Array = apart_too (is_mark (codes "[")) (begins_mark refl) (begins_first (begins_mark refl))
suffix_settles Maybe Maybe = told (λ e. refl) mark_settles

-- a suffix begins with what passes each test that its marks pass
suffix_begins : (s : Suffix) (test : Test) → test (a_head kind.Mark (codes "[")) ≡ true → test (a_head kind.Mark (codes "?")) ≡ true → Begins (suffix s) always test
suffix_begins Array test e f = begins_first (begins_mark e)
suffix_begins Maybe test e f = begins_mark f

-- all suffixes of a type are the same
suffixes_settle : (xs ys : List Suffix) → Settles (suffixes xs) (suffixes ys) past_type (xs ≡ ys)
suffixes_settle [] [] = nothing_settles refl
suffixes_settle [] (y ∷ ys) = none_some (begins_first (suffix_begins y (opposite past_type) refl refl))
suffixes_settle (x ∷ xs) [] = some_none (begins_first (suffix_begins x (opposite past_type) refl refl))
suffixes_settle (x ∷ xs) (y ∷ ys) = told (λ e. cc) (next_settle (suffix_settles x y) (suffixes_settle xs ys))

-- suffixes, or what follows, end the base before
suffixes_begin : (xs : List Suffix) → Begins (suffixes xs) past_type past_name
suffixes_begin [] = begins_nothing (λ h b. (both_true (past_name h) _ b).0)
suffixes_begin (x ∷ xs) = begins_first (suffix_begins x past_name refl refl)

-- no base begins with `nullable`
not_nullable : (h : Head) → base_start h ≡ true → not (is_reserved (codes "nullable") h) ≡ true
not_nullable h b = of_base (opposite (is_reserved (codes "nullable"))) (λ text. refl) refl h b

-- both types are nullable, or neither is
nullable_settles : (n m : Bool) → Settles (nullable_word n) (nullable_word m) base_start (n ≡ m)
nullable_settles true true = told (λ e. refl) reserved_settles
nullable_settles true false = apart (is_reserved (codes "nullable")) (begins_reserved refl) (begins_nothing not_nullable)
nullable_settles false true = apart_too (is_reserved (codes "nullable")) (begins_nothing not_nullable) (begins_reserved refl)
nullable_settles false false = nothing_settles refl

-- what follows from two types around their bases, if this follows from the bases
abbrev RoundTold : Type 0 → Bool → Bool → List Suffix → List Suffix → Place → Place → Type 0
RoundTold Told n m xs ys p q = (n ≡ m) × ((p ≡ q) × Told) × (xs ≡ ys)

-- the parts around the bases are the same
round_settles : {P Q : Part} {Told : Type 0} (n m : Bool) (xs ys : List Suffix) (p q : Place) → Begins P always base_start → Begins Q always base_start → Settles P Q past_name Told → Settles (type_round n P xs p) (type_round m Q ys q) past_type (RoundTold Told n m xs ys p q)
round_settles n m xs ys p q b c s =
    provided_settles (λ le le'. told (λ e. (e.0, e.1.0, e.1.1))
    (both_settle (nullable_settles n m) (begins_first (begins_at b)) (begins_first (begins_at c)) (both_settle (at_settles s) (suffixes_begin xs) (suffixes_begin ys) (suffixes_settle xs ys))))

-- a word may begin a base
start_of_word : (h : Head) → is_word h ≡ true → base_start h ≡ true
start_of_word h e = of_word base_start (λ text. refl) h e

-- each base begins so
base_begins : (room : ℕ) (b : Base) → Begins (base room b) always base_start
base_begins room (Named name inner) = begins_more start_of_word (named_begins name inner)
base_begins room (Unique' box nullable inner after place) = begins_provided (begins_first (begins_reserved refl))

-- bases are the same, up to where their boxes lie
base_settles : (room : ℕ) (b c : Base) → Settles (base room b) (base room c) past_name (unboxed_base b ≡ unboxed_base c)
base_settles room (Named name inner) (Named name' inner') = told (λ e. cc) (named_settles name name' inner inner')
base_settles room (Named name inner) (Unique' box nullable c after place) = apart is_word (begins_any (named_begins name inner)) (begins_provided (begins_first (begins_reserved refl)))
base_settles room (Unique' box nullable b after place) (Named name inner) = apart_too is_word (begins_provided (begins_first (begins_reserved refl))) (begins_any (named_begins name inner))
base_settles room (Unique' box nullable b after place) (Unique' box' nullable' c after' place') =
    provided_settles (λ p p'. told (λ e. cc) (next_settle reserved_settles (next_settle mark_settles
    (both_settle (round_settles nullable nullable' after after' place place' (base_begins (room - 1) b) (base_begins (room - 1) c) (base_settles (room - 1) b c)) (begins_mark refl) (begins_mark refl) mark_settles))))

-- a type is its base and the parts around it
same_type : (s r : TypeSpec) → RoundTold (unboxed_base s.base ≡ unboxed_base r.base) s.nullable r.nullable s.suffixes r.suffixes s.place r.place → unboxed_type s ≡ unboxed_type r
same_type s r e = λ i. record { nullable = e.0 i; base = e.1.1 i; suffixes = e.2 i; place = e.1.0 i }

-- types are the same, up to where their boxes lie
pub type_settles : (s r : TypeSpec) → Settles (type_spec s) (type_spec r) past_type (unboxed_type s ≡ unboxed_type r)
type_settles s r = told (same_type s r) (round_settles s.nullable r.nullable s.suffixes r.suffixes s.place r.place (base_begins 4 s.base) (base_begins 4 r.base) (base_settles 4 s.base r.base))

-- what begins a base may begin a type
type_of_base : (h : Head) → base_start h ≡ true → type_start h ≡ true
type_of_base h e = of_base type_start (λ text. refl) refl h e

-- perhaps `nullable`, and after it what begins as a base
nullable_begins : (n : Bool) {P : Part} {following : Test} → Begins P following base_start → Begins (nullable_word n ⨾ P) following type_start
nullable_begins true p = begins_first (begins_reserved refl)
nullable_begins false p = begins_both (begins_nothing type_of_base) p

-- a type begins with what passes each test that these pass
pub type_begins : (s : TypeSpec) (test : Test) → ((text : List ℕ) → test (a_head kind.Word text) ≡ true) → test (a_head kind.Reserved (codes "UniquePtr")) ≡ true → test (a_head kind.Reserved (codes "nullable")) ≡ true → Begins (type_spec s) always test
type_begins s test e f g = begins_more (of_type test e f g) (begins_provided (nullable_begins s.nullable (begins_first (begins_at (base_begins 4 s.base)))))
