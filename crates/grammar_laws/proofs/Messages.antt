-- Parameters and messages.
use Rattle.std.proofs.Common.{◌≡◌, ℕ, true, ◌||◌, List, [], ◌∷◌, map, Option, Some, None, codes, refl, sym, ap, ◌∙◌}
use Rattle.ipdl_base.specs.declared.finding.Place.{Place}
use Rattle.ipdl_base.specs.declared.kinds.Direction.{Direction}
use Rattle.ipdl_base.specs.declared.kinds.Semantics.{Semantics}
use Rattle.ipdl_base.specs.declared.kinds.Semantics.TheVariants.{Async, Sync}
use Rattle.ipdl_base.specs.declared.token.TokenKind.TheVariants as kind
use Rattle.ipdl_syntax.specs.declared.tree.MessageDecl.{MessageDecl}
use Rattle.ipdl_syntax.specs.declared.tree.Param.{Param}
use Rattle.ipdl_syntax.specs.Parts.{Part, ◌⨾◌, reserved, identifier}
use Rattle.ipdl_syntax.specs.Grammar.{type_spec, param, more_params, params, returns, semantics_word, message, messages}
use Rattle.grammar_laws.specs.Boxes.{unboxed_type, unboxed_param, unboxed_returns, unboxed_message}
use Rattle.grammar_laws.proofs.Heads.{a_head, Test, always, opposite, is_mark, is_reserved}
use Rattle.grammar_laws.proofs.Settling.{Settles, Begins, begins_mark, begins_token, begins_reserved, begins_first, begins_provided, told, nothing_settles, mark_settles, reserved_settles, identifier_settles, both_settle, next_settle, apart, none_some, some_none, provided_settles}
use Rattle.grammar_laws.proofs.Names.{past_attributes, attributes_settle, attributes_begin}
use Rattle.grammar_laws.proofs.Types.{past_type, type_settles, type_begins}

-- an identifier begins with what passes each test that words pass
pub identifier_begins : {name : List ℕ} {place : Place} {following : Test} (test : Test) → ((text : List ℕ) → test (a_head kind.Word text) ≡ true) → Begins (identifier name place) following test
identifier_begins test e = begins_token (λ t i. ap (λ k. test (a_head k t.text)) i.0 ∙ e t.text)

-- a parameter is its attributes, its type, its name and its place
pub same_param : (p q : Param) → p.attributes ≡ q.attributes → unboxed_type p.spec ≡ unboxed_type q.spec → p.name ≡ q.name → p.place ≡ q.place → unboxed_param p ≡ unboxed_param q
same_param p q a s n l = λ i. record { spec = s i; name = n i; place = l i; attributes = a i }

-- after the attributes of a parameter there is no bracket
typed_begins : (p : Param) {P : Part} {following : Test} → Begins (type_spec p.spec ⨾ P) following past_attributes
typed_begins p = begins_first (type_begins p.spec past_attributes (λ text. refl) refl refl)

-- parameters are the same
param_settles : (p q : Param) {following : Test} → Settles (param p) (param q) following (unboxed_param p ≡ unboxed_param q)
param_settles p q =
    told (λ e. same_param p q e.0 e.1.0 e.1.1.0 e.1.1.1)
    (both_settle (attributes_settle p.attributes q.attributes) (typed_begins p) (typed_begins q)
    (both_settle (type_settles p.spec q.spec) (identifier_begins past_type (λ text. refl)) (identifier_begins past_type (λ text. refl)) identifier_settles))

-- after parameters in parentheses
abbrev closed : Test
closed = is_mark (codes ")")

-- further parameters are the same
more_settle : (xs ys : List Param) → Settles (more_params xs) (more_params ys) closed (map unboxed_param xs ≡ map unboxed_param ys)
more_settle [] [] = nothing_settles refl
more_settle [] (y ∷ ys) = none_some (begins_first (begins_mark refl))
more_settle (x ∷ xs) [] = some_none (begins_first (begins_mark refl))
more_settle (x ∷ xs) (y ∷ ys) = told (λ e. cc) (next_settle mark_settles (next_settle (param_settles x y) (more_settle xs ys)))

-- no parameter begins with what ends them all
param_begins : (p : Param) → Begins (param p) always (opposite closed)
param_begins p = attributes_begin p.attributes (opposite closed) refl (begins_first (type_begins p.spec (opposite closed) (λ text. refl) refl refl))

-- lists of parameters are the same
params_settle : (xs ys : List Param) → Settles (params xs) (params ys) closed (map unboxed_param xs ≡ map unboxed_param ys)
params_settle [] [] = nothing_settles refl
params_settle [] (y ∷ ys) = none_some (begins_first (param_begins y))
params_settle (x ∷ xs) [] = some_none (begins_first (param_begins x))
params_settle (x ∷ xs) (y ∷ ys) = told (λ e. cc) (next_settle (param_settles x y) (more_settle xs ys))

-- after a message
abbrev ended : Test
ended = is_mark (codes ";")

-- the returns of messages are the same
returns_settle : (one other : Option (List Param)) → Settles (returns one) (returns other) ended (unboxed_returns one ≡ unboxed_returns other)
returns_settle None None = nothing_settles refl
returns_settle None (Some ys) = none_some (begins_first (begins_reserved refl))
returns_settle (Some xs) None = some_none (begins_first (begins_reserved refl))
returns_settle (Some xs) (Some ys) = told (λ e. cc) (next_settle reserved_settles (next_settle mark_settles (both_settle (params_settle xs ys) (begins_mark refl) (begins_mark refl) mark_settles)))

-- the words for the semantics of messages are the same
semantics_settle : (s r : Semantics) {following : Test} → Settles (reserved (semantics_word s)) (reserved (semantics_word r)) following (s ≡ r)
semantics_settle Async Async = told (λ e. refl) reserved_settles
semantics_settle Async Sync = apart (is_reserved (codes "async")) (begins_reserved refl) (begins_reserved refl)
semantics_settle Sync Async = apart (is_reserved (codes "sync")) (begins_reserved refl) (begins_reserved refl)
semantics_settle Sync Sync = told (λ e. refl) reserved_settles

-- such a word passes each test that both pass
semantics_begin : (s : Semantics) (test : Test) → test (a_head kind.Reserved (codes "async")) ≡ true → test (a_head kind.Reserved (codes "sync")) ≡ true → Begins (reserved (semantics_word s)) always test
semantics_begin Async test e f = begins_reserved e
semantics_begin Sync test e f = begins_reserved f

-- after the messages of a section: the next section, or the end of the protocol
abbrev pub past_messages : Test
past_messages h = is_reserved (codes "parent") h || is_reserved (codes "child") h || is_reserved (codes "both") h || is_mark (codes "}") h

-- a message begins with what passes each test that these pass
message_begins : (d : Direction) (m : MessageDecl) (test : Test) → test (a_head kind.Mark (codes "[")) ≡ true → test (a_head kind.Reserved (codes "async")) ≡ true → test (a_head kind.Reserved (codes "sync")) ≡ true → Begins (message d m) always test
message_begins d m test e f g = begins_provided (attributes_begin m.attributes test e (begins_first (semantics_begin m.semantics test f g)))

-- a message is determined by its parts
same_message : (m n : MessageDecl) → m.direction ≡ n.direction → m.attributes ≡ n.attributes → m.semantics ≡ n.semantics → m.name ≡ n.name → m.place ≡ n.place → map unboxed_param m.params ≡ map unboxed_param n.params → unboxed_returns m.returns ≡ unboxed_returns n.returns → unboxed_message m ≡ unboxed_message n
same_message m n d a s e l p r = λ i. record { name = e i; place = l i; direction = d i; semantics = s i; params = p i; returns = r i; attributes = a i }

-- in sections of one direction messages are the same
message_settles : (d d' : Direction) (m n : MessageDecl) {following : Test} → Settles (message d m) (message d' n) following (d ≡ d' → unboxed_message m ≡ unboxed_message n)
message_settles d d' m n =
    provided_settles (λ c c'. told (λ e f. same_message m n (c ∙ f ∙ sym c') e.0 e.1.0 e.1.1.0.0 e.1.1.0.1 e.1.1.1.1.0 e.1.1.1.1.1.1.0)
    (both_settle (attributes_settle m.attributes n.attributes) (begins_first (semantics_begin m.semantics past_attributes refl refl)) (begins_first (semantics_begin n.semantics past_attributes refl refl))
    (next_settle (semantics_settle m.semantics n.semantics) (next_settle identifier_settles (next_settle mark_settles
    (both_settle (params_settle m.params n.params) (begins_first (begins_mark refl)) (begins_first (begins_mark refl)) (next_settle mark_settles
    (both_settle (returns_settle m.returns n.returns) (begins_mark refl) (begins_mark refl) mark_settles))))))))

-- the same of all messages of a section
pub messages_settle : (d d' : Direction) (xs ys : List MessageDecl) → Settles (messages d xs) (messages d' ys) past_messages (d ≡ d' → map unboxed_message xs ≡ map unboxed_message ys)
messages_settle d d' [] [] = nothing_settles (λ f. refl)
messages_settle d d' [] (y ∷ ys) = none_some (begins_first (message_begins d' y (opposite past_messages) refl refl refl))
messages_settle d d' (x ∷ xs) [] = some_none (begins_first (message_begins d x (opposite past_messages) refl refl refl))
messages_settle d d' (x ∷ xs) (y ∷ ys) = told (λ e f. let a = e.0 f in let b = e.1 f in cc) (next_settle (message_settles d d' x y) (messages_settle d d' xs ys))
