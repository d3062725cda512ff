-- Sections, managements and protocols.
use Rattle.std.proofs.Common.{◌≡◌, ℕ, true, List, [], ◌∷◌, ◌++◌, map, codes, refl, sym, ap, ◌∙◌}
use Rattle.std.specs.List.{flat_map}
use Rattle.std.proofs.lemmas.List.{map-append}
use Rattle.ipdl_base.specs.declared.kinds.Direction.{Direction}
use Rattle.ipdl_base.specs.declared.kinds.Direction.TheVariants.{Parent, Child, Both}
use Rattle.ipdl_base.specs.declared.kinds.Semantics.{Semantics}
use Rattle.ipdl_base.specs.declared.kinds.Semantics.TheVariants.{Async, Sync}
use Rattle.ipdl_base.specs.declared.token.TokenKind.TheVariants as kind
use Rattle.ipdl_syntax.specs.declared.tree.MessageDecl.{MessageDecl}
use Rattle.ipdl_syntax.specs.declared.tree.NameAt.{NameAt}
use Rattle.ipdl_syntax.specs.declared.tree.ProtocolDecl.{ProtocolDecl}
use Rattle.ipdl_syntax.specs.Parts.{Part, ◌⨾◌, mark, reserved, identifier}
use Rattle.ipdl_syntax.specs.Grammar.{MessageSection, direction_word, section, sections, Management, managed_by, manages, more_managers, management, managements, managers_of, managed_of, protocol_semantics, protocol, attributes, declared}
use Rattle.grammar_laws.specs.Boxes.{unboxed_message, unboxed_protocol}
use Rattle.grammar_laws.proofs.Heads.{a_head, Test, always, opposite, is_mark, is_reserved, of_mark, of_reserved}
use Rattle.grammar_laws.proofs.Settling.{Settles, Begins, begins_nothing, begins_mark, begins_reserved, begins_both, begins_first, begins_either, told, nothing_settles, mark_settles, reserved_settles, identifier_settles, both_settle, next_settle, apart, apart_too, none_some, some_none, either_settles}
use Rattle.grammar_laws.proofs.Names.{past_attributes, attributes_settle, declared_settles}
use Rattle.grammar_laws.proofs.Messages.{past_messages, messages_settle}

-- the words that begin sections are the same
direction_settles : (d e : Direction) {following : Test} → Settles (reserved (direction_word d)) (reserved (direction_word e)) following (d ≡ e)
direction_settles Parent Parent = told (λ e. refl) reserved_settles
direction_settles Child Child = told (λ e. refl) reserved_settles
direction_settles Both Both = told (λ e. refl) reserved_settles
direction_settles Parent _ = apart (is_reserved (codes "parent")) (begins_reserved refl) (begins_reserved refl)
direction_settles Child _ = apart (is_reserved (codes "child")) (begins_reserved refl) (begins_reserved refl)
direction_settles Both _ = apart (is_reserved (codes "both")) (begins_reserved refl) (begins_reserved refl)

-- such a word passes each test that all three pass
section_begins : (d : Direction) (test : Test) → test (a_head kind.Reserved (codes "parent")) ≡ true → test (a_head kind.Reserved (codes "child")) ≡ true → test (a_head kind.Reserved (codes "both")) ≡ true → Begins (reserved (direction_word d)) always test
section_begins Parent test e f g = begins_reserved e
section_begins Child test e f g = begins_reserved f
section_begins Both test e f g = begins_reserved g

-- sections have the same messages
section_settles : (s r : MessageSection) → Settles (section s) (section r) past_messages (map unboxed_message s.messages ≡ map unboxed_message r.messages)
section_settles s r = told (λ e. e.1.1 e.0) (next_settle (direction_settles s.direction r.direction) (next_settle mark_settles (messages_settle s.direction r.direction s.messages r.messages)))

-- after the sections of a protocol
abbrev closed : Test
closed = is_mark (codes "}")

-- further sections, or what follows, end the messages before
sections_begin : (xs : List MessageSection) → Begins (sections xs) closed past_messages
sections_begin [] = begins_nothing (of_mark (codes "}") past_messages refl)
sections_begin (x ∷ xs) = begins_first (begins_first (section_begins x.direction past_messages refl refl refl))

-- the messages of sections
abbrev all_messages : List MessageSection → List MessageDecl
all_messages = flat_map (λ (s : MessageSection). s.messages)

-- the messages of two lists that are the same, one after the other
more_messages : (m n : List MessageDecl) (xs ys : List MessageDecl) → map unboxed_message m ≡ map unboxed_message n → map unboxed_message xs ≡ map unboxed_message ys → map unboxed_message (m ++ xs) ≡ map unboxed_message (n ++ ys)
more_messages m n xs ys e f =
    map-append unboxed_message m xs
    ∙ ap (λ l. l ++ map unboxed_message xs) e
    ∙ ap (λ l. map unboxed_message n ++ l) f
    ∙ sym (map-append unboxed_message n ys)

-- all sections have the same messages
sections_settle : (xs ys : List MessageSection) → Settles (sections xs) (sections ys) closed (map unboxed_message (all_messages xs) ≡ map unboxed_message (all_messages ys))
sections_settle [] [] = nothing_settles refl
sections_settle [] (y ∷ ys) = none_some (begins_first (begins_first (section_begins y.direction (opposite closed) refl refl refl)))
sections_settle (x ∷ xs) [] = some_none (begins_first (begins_first (section_begins x.direction (opposite closed) refl refl refl)))
sections_settle (x ∷ xs) (y ∷ ys) =
    told (λ e. more_messages x.messages y.messages (all_messages xs) (all_messages ys) e.0 e.1)
    (both_settle (section_settles x y) (sections_begin xs) (sections_begin ys) (sections_settle xs ys))

-- a name at a place is the name and the place
same_name : (n m : NameAt) → n.name ≡ m.name → n.place ≡ m.place → n ≡ m
same_name n m e f = λ i. record { name = e i; place = f i }

-- names at their places are the same
name_settles : (n m : NameAt) {following : Test} → Settles (identifier n.name n.place) (identifier m.name m.place) following (n ≡ m)
name_settles n m = told (λ e. same_name n m e.0 e.1) identifier_settles

-- after a management
abbrev ended : Test
ended = is_mark (codes ";")

-- further managers are the same
managers_settle : (xs ys : List NameAt) → Settles (more_managers xs) (more_managers ys) ended (xs ≡ ys)
managers_settle [] [] = nothing_settles refl
managers_settle [] (y ∷ ys) = none_some (begins_first (begins_reserved refl))
managers_settle (x ∷ xs) [] = some_none (begins_first (begins_reserved refl))
managers_settle (x ∷ xs) (y ∷ ys) = told (λ e. cc) (next_settle reserved_settles (next_settle (name_settles x y) (managers_settle xs ys)))

-- statements on management are the same
management_settles : (m n : Management) {following : Test} → Settles (management m) (management n) following (m ≡ n)
management_settles (managed_by x xs) (managed_by y ys) =
    told (λ e. cc) (next_settle reserved_settles (next_settle (name_settles x y)
    (both_settle (managers_settle xs ys) (begins_mark refl) (begins_mark refl) mark_settles)))
management_settles (managed_by x xs) (manages y) = apart (is_reserved (codes "manager")) (begins_first (begins_reserved refl)) (begins_first (begins_reserved refl))
management_settles (manages x) (managed_by y ys) = apart (is_reserved (codes "manages")) (begins_first (begins_reserved refl)) (begins_first (begins_reserved refl))
management_settles (manages x) (manages y) = told (λ e. cc) (next_settle reserved_settles (next_settle (name_settles x y) mark_settles))

-- no section begins as such a statement does
management_begins : (m : Management) → Begins (management m) always (opposite past_messages)
management_begins (managed_by x xs) = begins_first (begins_reserved refl)
management_begins (manages x) = begins_first (begins_reserved refl)

-- all such statements are the same
managements_settle : (xs ys : List Management) → Settles (managements xs) (managements ys) past_messages (xs ≡ ys)
managements_settle [] [] = nothing_settles refl
managements_settle [] (y ∷ ys) = none_some (begins_first (management_begins y))
managements_settle (x ∷ xs) [] = some_none (begins_first (management_begins x))
managements_settle (x ∷ xs) (y ∷ ys) = told (λ e. cc) (next_settle (management_settles x y) (managements_settle xs ys))

-- what follows the word for a protocol's semantics
abbrev is_protocol : Test
is_protocol = is_reserved (codes "protocol")

-- a protocol without `sync` does not begin with it
async_begins : Begins (protocol_semantics Async) is_protocol (opposite (is_reserved (codes "sync")))
async_begins = begins_either (begins_nothing (of_reserved (codes "protocol") (opposite (is_reserved (codes "sync"))) refl)) (begins_reserved refl)

-- the semantics of protocols are the same
semantics_settle : (s r : Semantics) → Settles (protocol_semantics s) (protocol_semantics r) is_protocol (s ≡ r)
semantics_settle Sync Sync = told (λ e. refl) reserved_settles
semantics_settle Sync Async = apart (is_reserved (codes "sync")) (begins_reserved refl) async_begins
semantics_settle Async Sync = apart_too (is_reserved (codes "sync")) async_begins (begins_reserved refl)
semantics_settle Async Async = either_settles
    (nothing_settles refl)
    (none_some (begins_reserved refl))
    (some_none (begins_reserved refl))
    (told (λ e. refl) reserved_settles)

-- a protocol's word for its semantics and what follows it begin with what passes each test that these pass
pub semantics_begin : (s : Semantics) (test : Test) {P : Part} {following : Test} → test (a_head kind.Reserved (codes "sync")) ≡ true → test (a_head kind.Reserved (codes "async")) ≡ true → test (a_head kind.Reserved (codes "protocol")) ≡ true → Begins (protocol_semantics s ⨾ reserved (codes "protocol") ⨾ P) following test
semantics_begin Sync test e f g = begins_first (begins_reserved e)
semantics_begin Async test e f g = begins_both (begins_either (begins_nothing (λ h b. b)) (begins_reserved f)) (begins_first (begins_reserved g))

-- a protocol with these managements and sections
abbrev pub built_of : List (List ℕ) → ProtocolDecl → List Management → List MessageSection → Part
built_of scope p managing parts = attributes p.attributes ⨾ protocol_semantics p.semantics ⨾ reserved (codes "protocol") ⨾ declared scope p.full p.place ⨾ mark (codes "{") ⨾ managements managing ⨾ sections parts ⨾ mark (codes "}") ⨾ mark (codes ";")

-- what follows from two protocols
record Told (p q : ProtocolDecl) (ms ns : List Management) (xs ys : List MessageSection) : Type 0 where
  same_attributes : p.attributes ≡ q.attributes
  same_semantics : p.semantics ≡ q.semantics
  same_full : p.full ≡ q.full
  same_place : p.place ≡ q.place
  same_managements : ms ≡ ns
  same_messages : map unboxed_message (all_messages xs) ≡ map unboxed_message (all_messages ys)

-- all this follows from protocols that are built of managements and sections
built_settles : (scope : List (List ℕ)) (p q : ProtocolDecl) (ms ns : List Management) (xs ys : List MessageSection) {following : Test} → Settles (built_of scope p ms xs) (built_of scope q ns ys) following (Told p q ms ns xs ys)
built_settles scope p q ms ns xs ys =
    told (λ e. record { same_attributes = e.0; same_semantics = e.1.0; same_full = e.1.1.1.0.0; same_place = e.1.1.1.0.1; same_managements = e.1.1.1.1.1.0; same_messages = e.1.1.1.1.1.1.0 })
    (both_settle (attributes_settle p.attributes q.attributes) (semantics_begin p.semantics past_attributes refl refl refl) (semantics_begin q.semantics past_attributes refl refl refl)
    (both_settle (semantics_settle p.semantics q.semantics) (begins_first (begins_reserved refl)) (begins_first (begins_reserved refl))
    (next_settle reserved_settles (next_settle (declared_settles scope p.full q.full p.place q.place) (next_settle mark_settles
    (both_settle (managements_settle ms ns) (begins_both (sections_begin xs) (begins_first (begins_mark refl))) (begins_both (sections_begin ys) (begins_first (begins_mark refl)))
    (both_settle (sections_settle xs ys) (begins_first (begins_mark refl)) (begins_first (begins_mark refl)) (next_settle mark_settles mark_settles))))))))

-- a protocol is determined by its parts
same_protocol : (p q : ProtocolDecl) (ms ns : List Management) (xs ys : List MessageSection) → Told p q ms ns xs ys
    → p.managers ≡ flat_map managers_of ms → q.managers ≡ flat_map managers_of ns
    → p.manages ≡ flat_map managed_of ms → q.manages ≡ flat_map managed_of ns
    → p.messages ≡ all_messages xs → q.messages ≡ all_messages ys → unboxed_protocol p ≡ unboxed_protocol q
same_protocol p q ms ns xs ys t a a' b b' c c' =
    let managers : p.managers ≡ q.managers = a ∙ ap (flat_map managers_of) t.same_managements ∙ sym a' in
    let managed : p.manages ≡ q.manages = b ∙ ap (flat_map managed_of) t.same_managements ∙ sym b' in
    let held : map unboxed_message p.messages ≡ map unboxed_message q.messages = ap (map unboxed_message) c ∙ t.same_messages ∙ sym (ap (map unboxed_message) c') in
    λ i. record { full = t.same_full i; place = t.same_place i; semantics = t.same_semantics i; managers = managers i; manages = managed i; messages = held i; attributes = t.same_attributes i }

-- protocols in the same namespaces are the same
pub protocol_settles : (scope : List (List ℕ)) (p q : ProtocolDecl) {following : Test} → Settles (protocol scope p) (protocol scope q) following (unboxed_protocol p ≡ unboxed_protocol q)
protocol_settles scope p q {following} = record {
  settle = λ from to to' (ms, xs, a, b, c, d) (ns, ys, a', b', c', d') h h'.
      let r = (built_settles scope p q ms ns xs ys {following = following}).settle from to to' d d' h h' in
      (same_protocol p q ms ns xs ys r.0 a a' b b' c c', r.1);
}
