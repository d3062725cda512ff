-- A first token and the tokens that its production takes are tokens that the form takes.
use Rattle.std.proofs.Common.{◌≡◌, ℕ, suc, ◌-◌, ◌≤◌, ◌<◌, inl, inr, true, false, List, [], ◌∷◌, length, Some, None, codes, refl, subst, arith}
use Rattle.std.specs.Prelude.{nat_lt}
use Rattle.ipdl_base.specs.Words.{joined}
use Rattle.ipdl_base.specs.declared.kinds.Direction.{Direction}
use Rattle.ipdl_base.specs.declared.kinds.Direction.TheVariants as direction
use Rattle.ipdl_base.specs.declared.kinds.Semantics.TheVariants as semantics
use Rattle.ipdl_base.specs.declared.token.Token.{Token}
use Rattle.ipdl_syntax.specs.declared.tree.Attribute.{Attribute}
use Rattle.ipdl_syntax.specs.declared.tree.Base.{Named, Unique'}
use Rattle.ipdl_syntax.specs.declared.tree.IncludeKind.TheVariants as include_kind
use Rattle.ipdl_syntax.specs.declared.tree.Suffix.TheVariants.{Array, Maybe}
use Rattle.ipdl_syntax.specs.Parts.{Part, ◌⨾◌, either, reserved}
use Rattle.ipdl_syntax.specs.Grammar.{attributes, MessageSection, direction_word, sections, managed_by, manages, whole_name}
use Rattle.tree_reader.specs.Ending.{Ending}
use Rattle.tree_reader.specs.Ending as ending
use Rattle.tree_reader.specs.declared.symbol.Symbol.{Symbol}
use Rattle.tree_reader.specs.declared.symbol.Symbol.TheVariants.{End, Word, Quoted, OtherWord, OtherMark, Colons, OpenBrace, CloseBrace, OpenParen, CloseParen, OpenBracket, CloseBracket, Less, Greater, Semicolon, Comma, Colon, Equals, Question, Async, Both, Child, Class, From, Include, Manager, Manages, Namespace, Nullable, Or, Parent, Protocol, Returns, Struct, Sync, Union, UniquePtr, Using}
use Rattle.tree_reader.specs.Symbols.{symbol}
use Rattle.tree_reader.specs.Machine.{Form, take, any_word, argument_name, argument_words, suffixed, named, based, typed, attributed, after_attribute, more_attributed, one_param, parameters, more_parameters, after_parameters, one_message, messaged, managing, more_managing, fielded, componented, using_named, using_word, after_using, include_named, production, ends, suffix_begins, base_begins, type_begins, param_begins, section_begins}
use Rattle.std.proofs.lemmas.Bool.{ltb-true}
use Rattle.std.specs.declared.alloc.Global.{Global}
use Rattle.std.specs.declared.boxed.Box.{Box}
use denote.RawPtr.{null_ptr}
use Rattle.tree_reader.proofs.Symbols.{means}
use Rattle.ipdl_parse.proofs.Meaning.{ending_part, closed, Takes, TakeAll, Following, after_apart, was_allowed}

-- what is built of a form after a first token
abbrev pub Builds : Form → Symbol → Type 0
Builds f s = (t : Token) (rest to : List Token) → symbol t ≡ s → Following (production f s) rest to → Takes f (t ∷ rest) to

ends_mark : (t : Token) (e : Ending) (s : Symbol) (rest to : List Token) → symbol t ≡ s → Following (ends e s) rest to → ending_part e (t ∷ rest) to
ends_mark t ending.Name Word rest to is eq = subst (λ (x : List Token). ending_part ending.Name (t ∷ rest) x) eq (t, refl, means t Word is)
ends_mark t ending.Semicolon Semicolon rest to is eq = subst (λ (x : List Token). ending_part ending.Semicolon (t ∷ rest) x) eq (t, refl, means t Semicolon is)
ends_mark t ending.Greater Greater rest to is eq = subst (λ (x : List Token). ending_part ending.Greater (t ∷ rest) x) eq (t, refl, means t Greater is)
ends_mark t _ _ rest to is d = absurd d

-- a box, wherever it lies
some_box : Box (Unit {0}) Global
some_box = record { ptr = null_ptr; alloc = record { memory = record { seal = tt } }; value = tt }

less_pred : (k n : ℕ) → 0 < n → k ≤ n - 1 → suc k ≤ n
less_pred k n h le = omega arith

-- suffixes

suffix_array : (n : ℕ) (e : Ending) (t : Token) (rest to : List Token) → symbol t ≡ OpenBracket → 0 < n → TakeAll (take CloseBracket ∷ suffixed (n - 1) e ∷ []) rest to → Takes (suffixed n e) (t ∷ rest) to
suffix_array n e t rest to is pos (m, (u, ue, us), (m2, (after, le, (m3, sd, ed)), eq)) =
    subst (λ (x : List Token). Takes (suffixed n e) (t ∷ rest) x) eq
    (Array ∷ after, less_pred (length after) n pos le, (m3, (m, (rest, (t, refl, means t OpenBracket is), (u, ue, means u CloseBracket us)), sd), ed))

suffix_maybe : (n : ℕ) (e : Ending) (t : Token) (rest to : List Token) → symbol t ≡ Question → 0 < n → TakeAll (suffixed (n - 1) e ∷ []) rest to → Takes (suffixed n e) (t ∷ rest) to
suffix_maybe n e t rest to is pos (m2, (after, le, (m3, sd, ed)), eq) =
    subst (λ (x : List Token). Takes (suffixed n e) (t ∷ rest) x) eq
    (Maybe ∷ after, less_pred (length after) n pos le, (m3, (rest, (t, refl, means t Question is), sd), ed))

suffix_end : (n : ℕ) (e : Ending) (s : Symbol) (t : Token) (rest to : List Token) → symbol t ≡ s → Following (ends e s) rest to → Takes (suffixed n e) (t ∷ rest) to
suffix_end n e s t rest to is d = ([], omega arith, (t ∷ rest, refl, ends_mark t e s rest to is d))

suffix_built : (n : ℕ) (e : Ending) (s : Symbol) (t : Token) (rest to : List Token) → symbol t ≡ s → Following (suffix_begins n e s) rest to → Takes (suffixed n e) (t ∷ rest) to
suffix_built n e OpenBracket t rest to is d = let r = was_allowed (nat_lt 0 n) _ rest to d in suffix_array n e t rest to is (ltb-true 0 n r.0) r.1
suffix_built n e Question t rest to is d = let r = was_allowed (nat_lt 0 n) _ rest to d in suffix_maybe n e t rest to is (ltb-true 0 n r.0) r.1
suffix_built n e s t rest to is d = suffix_end n e s t rest to is d

-- names

built_argument_words : (s : Symbol) → Builds argument_words s
unfolding production
built_argument_words Colons t rest to is (m, (u, ue, us), (m2, (ws, (m3, wd, gd)), eq)) =
    subst (λ (x : List Token). Takes argument_words (t ∷ rest) x) eq
    (u.text ∷ ws, (m3, (rest, (t, refl, means t Colons is), (m, (u, ue, (means u Word us, refl)), wd)), gd))
built_argument_words Greater t rest to is eq =
    subst (λ (x : List Token). Takes argument_words (t ∷ rest) x) eq ([], (t ∷ rest, refl, (t, refl, means t Greater is)))
built_argument_words _ t rest to is d = absurd d

built_argument_name : (s : Symbol) → Builds argument_name s
unfolding production
built_argument_name Word t rest to is (m, (ws, (m3, wd, gd)), eq) =
    subst (λ (x : List Token). Takes argument_name (t ∷ rest) x) eq
    (joined (t.text ∷ ws), (m3, (t.text, ws, refl, (rest, (t, refl, (means t Word is, refl)), wd)), gd))
built_argument_name _ t rest to is d = absurd d

named_of_suffixes : (e : Ending) (from to : List Token) → Takes (suffixed 4 e) from to → Takes (named e) from to
named_of_suffixes e from to (after, le, d) = ([], None, after, le, (from, refl, (from, refl, d)))

built_named : (e : Ending) (s : Symbol) → Builds (named e) s
unfolding production
built_named e Colons t rest to is (m, (u, ue, us), (m2, (ws, inner, after, le, (m3, wd, more)), eq)) =
    subst (λ (x : List Token). Takes (named e) (t ∷ rest) x) eq
    (u.text ∷ ws, inner, after, le, (m3, (rest, (t, refl, means t Colons is), (m, (u, ue, (means u Word us, refl)), wd)), more))
built_named e Less t rest to is (m, (name, (m1, qd, gd)), (m2, (after, le, sd), eq)) =
    subst (λ (x : List Token). Takes (named e) (t ∷ rest) x) eq
    ([], Some name, after, le, (t ∷ rest, refl, (m, (rest, (t, refl, means t Less is), (m1, qd, gd)), sd)))
built_named e s t rest to is d = named_of_suffixes e (t ∷ rest) to (suffix_built 4 e s t rest to is d)

-- types

based_name : (room : ℕ) (e : Ending) (t : Token) (rest to : List Token) → symbol t ≡ Word → TakeAll (named e ∷ []) rest to → Takes (based room e) (t ∷ rest) to
based_name room e t rest to is (m, (ws, inner, after, le, (m1, wd, (m2, ad, more))), eq) =
    subst (λ (x : List Token). Takes (based room e) (t ∷ rest) x) eq
    (Named (joined (t.text ∷ ws)) inner, after, t.place, le, (m2, (t, rest, refl, refl, (m1, (t.text, ws, refl, (rest, (t, refl, (means t Word is, refl)), wd)), ad)), more))

based_unique : (room : ℕ) (e : Ending) (t : Token) (rest to : List Token) → symbol t ≡ UniquePtr → 0 < room → TakeAll (take Less ∷ typed (room - 1) ending.Greater ∷ suffixed 4 e ∷ []) rest to → Takes (based room e) (t ∷ rest) to
based_unique room e t rest to is pos (m1, (u, ue, us), (m2, (nullable, b, after_it, place, (m3, td, gd)), (m4, (after, le, more), eq))) =
    subst (λ (x : List Token). Takes (based room e) (t ∷ rest) x) eq (
      Unique' some_box nullable b after_it place,
      after,
      t.place,
      le,
      (m2, (t, rest, refl, refl, (pos, (rest, (t, refl, means t UniquePtr is), (m1, (u, ue, means u Less us), (m3, td, gd))))), more),
    )

base_built : (room : ℕ) (e : Ending) (s : Symbol) (t : Token) (rest to : List Token) → symbol t ≡ s → Following (base_begins room e s) rest to → Takes (based room e) (t ∷ rest) to
base_built room e Word t rest to is d = based_name room e t rest to is d
base_built room e UniquePtr t rest to is d = let r = was_allowed (nat_lt 0 room) _ rest to d in based_unique room e t rest to is (ltb-true 0 room r.0) r.1
base_built room e _ t rest to is d = absurd d

typed_of_based : (room : ℕ) (e : Ending) (from to : List Token) → Takes (based room e) from to → Takes (typed room e) from to
typed_of_based room e from to (b, after, place, le, (m2, bd, (m3, sd, ed))) = (false, b, after, place, (m3, (le, (from, refl, (m2, bd, sd))), ed))

typed_nullable : (room : ℕ) (e : Ending) (t : Token) (rest to : List Token) → symbol t ≡ Nullable → TakeAll (based room e ∷ []) rest to → Takes (typed room e) (t ∷ rest) to
typed_nullable room e t rest to is (m, (b, after, place, le, (m2, bd, (m3, sd, ed))), eq) =
    subst (λ (x : List Token). Takes (typed room e) (t ∷ rest) x) eq
    (true, b, after, place, (m3, (le, (rest, (t, refl, means t Nullable is), (m2, bd, sd))), ed))

type_built : (room : ℕ) (e : Ending) (s : Symbol) (t : Token) (rest to : List Token) → symbol t ≡ s → Following (type_begins room e s) rest to → Takes (typed room e) (t ∷ rest) to
type_built room e Nullable t rest to is d = typed_nullable room e t rest to is d
type_built room e s t rest to is d = typed_of_based room e (t ∷ rest) to (base_built room e s t rest to is d)

-- attributes

built_attributed : (s : Symbol) → Builds attributed s
unfolding production
built_attributed Word t rest to is (m, (v, more, (m1, vd, md)), eq) =
    subst (λ (x : List Token). Takes attributed (t ∷ rest) x) eq
    (record { name = t.text; value = v; place = t.place }, more, (m1, (rest, (t, refl, (means t Word is, refl, refl)), vd), md))
built_attributed _ t rest to is d = absurd d

built_after_attribute : (s : Symbol) → Builds after_attribute s
unfolding production
built_after_attribute Equals t rest to is (m, (u, ue, uk), (m2, (more, (m3, md, cd)), eq)) =
    subst (λ (x : List Token). Takes after_attribute (t ∷ rest) x) eq
    (Some u.text, more, (m, (rest, (t, refl, means t Equals is), (u, ue, (uk, refl))), (m3, md, cd)))
built_after_attribute Comma t rest to is (m, (a, more, (m1, ad, (m2, md, cd))), eq) =
    subst (λ (x : List Token). Takes after_attribute (t ∷ rest) x) eq
    (None, a ∷ more, (t ∷ rest, refl, (m2, (rest, (t, refl, means t Comma is), (m1, ad, md)), cd)))
built_after_attribute CloseBracket t rest to is eq =
    subst (λ (x : List Token). Takes after_attribute (t ∷ rest) x) eq
    (None, [], (t ∷ rest, refl, (t ∷ rest, refl, (t, refl, means t CloseBracket is))))
built_after_attribute _ t rest to is d = absurd d

built_more_attributed : (s : Symbol) → Builds more_attributed s
unfolding production
built_more_attributed Comma t rest to is (m, (a, more, (m1, ad, (m2, md, cd))), eq) =
    subst (λ (x : List Token). Takes more_attributed (t ∷ rest) x) eq
    (a ∷ more, (m2, (rest, (t, refl, means t Comma is), (m1, ad, md)), cd))
built_more_attributed CloseBracket t rest to is eq =
    subst (λ (x : List Token). Takes more_attributed (t ∷ rest) x) eq
    ([], (t ∷ rest, refl, (t, refl, means t CloseBracket is)))
built_more_attributed _ t rest to is d = absurd d

-- parameters

param_of : (list : List Attribute) (from middle to : List Token) → attributes list from middle → Takes (typed 4 ending.Name) middle to → Takes one_param from to
param_of list from middle to ad (nullable, b, after, place, (m, td, (u, ue, uk))) = (
  record { spec = record { nullable = nullable; base = b; suffixes = after; place = place }; name = u.text; place = u.place; attributes = list },
  (middle, ad, (m, td, (u, ue, (uk, refl, refl)))),
)

-- attributes after their bracket
bracketed : (t : Token) (rest to : List Token) → symbol t ≡ OpenBracket → (d : Takes attributed rest to) → attributes (d.0 ∷ d.1) (t ∷ rest) to
bracketed t rest to is (a, more, d) = (rest, (t, refl, means t OpenBracket is), d)

param_built : (s : Symbol) (t : Token) (rest to : List Token) → symbol t ≡ s → Following (param_begins s) rest to → Takes one_param (t ∷ rest) to
param_built OpenBracket t rest to is (m, ad, (m2, td, eq)) =
    subst (λ (x : List Token). Takes one_param (t ∷ rest) x) eq (param_of (ad.0 ∷ ad.1) (t ∷ rest) m m2 (bracketed t rest m is ad) td)
param_built s t rest to is d = param_of [] (t ∷ rest) (t ∷ rest) to refl (type_built 4 ending.Name s t rest to is d)

params_of : (from middle to : List Token) → Takes one_param from middle → TakeAll (more_parameters ∷ []) middle to → Takes parameters from to
params_of from middle to (p, pd) (m2, (ps, (m1, md, cd)), eq) =
    subst (λ (x : List Token). Takes parameters from x) eq (p ∷ ps, (m1, (middle, pd, md), cd))

built_parameters : (s : Symbol) → Builds parameters s
unfolding production
built_parameters CloseParen t rest to is eq =
    subst (λ (x : List Token). Takes parameters (t ∷ rest) x) eq ([], (t ∷ rest, refl, (t, refl, means t CloseParen is)))
built_parameters s t rest to is d =
    let r = after_apart (param_begins s) (more_parameters ∷ []) rest to d in
    params_of (t ∷ rest) r.0 to (param_built s t rest r.0 is r.1) r.2

built_more_parameters : (s : Symbol) → Builds more_parameters s
unfolding production
built_more_parameters Comma t rest to is (m, (p, pd), (m2, (ps, (m1, md, cd)), eq)) =
    subst (λ (x : List Token). Takes more_parameters (t ∷ rest) x) eq (p ∷ ps, (m1, (rest, (t, refl, means t Comma is), (m, pd, md)), cd))
built_more_parameters CloseParen t rest to is eq =
    subst (λ (x : List Token). Takes more_parameters (t ∷ rest) x) eq ([], (t ∷ rest, refl, (t, refl, means t CloseParen is)))
built_more_parameters _ t rest to is d = absurd d

built_after_parameters : (s : Symbol) → Builds after_parameters s
unfolding production
built_after_parameters Returns t rest to is (m, (u, ue, us), (m2, (ps, (m3, pd, cd)), (m4, (v, ve, vs), eq))) =
    subst (λ (x : List Token). Takes after_parameters (t ∷ rest) x) eq
    (Some ps, (m2, (rest, (t, refl, means t Returns is), (m, (u, ue, means u OpenParen us), (m3, pd, cd))), (v, ve, means v Semicolon vs)))
built_after_parameters Semicolon t rest to is eq =
    subst (λ (x : List Token). Takes after_parameters (t ∷ rest) x) eq (None, (t ∷ rest, refl, (t, refl, means t Semicolon is)))
built_after_parameters _ t rest to is d = absurd d

-- messages and sections

built_one_message : (s : Symbol) → Builds one_message s
unfolding production
built_one_message Async t rest to is (m1, (u, ue, us), (m2, (v, ve, vs), (m3, (ps, (m4, pd, cd)), (m5, (answers, (m6, ad, sd)), eq)))) =
    subst (λ (x : List Token). Takes one_message (t ∷ rest) x) eq
    (semantics.Async, u.text, u.place, ps, answers, (rest, (t, refl, means t Async is), (m1, (u, ue, (means u Word us, refl, refl)), (m2, (v, ve, means v OpenParen vs), (m4, pd, (m3, cd, (m6, ad, sd)))))))
built_one_message Sync t rest to is (m1, (u, ue, us), (m2, (v, ve, vs), (m3, (ps, (m4, pd, cd)), (m5, (answers, (m6, ad, sd)), eq)))) =
    subst (λ (x : List Token). Takes one_message (t ∷ rest) x) eq
    (semantics.Sync, u.text, u.place, ps, answers, (rest, (t, refl, means t Sync is), (m1, (u, ue, (means u Word us, refl, refl)), (m2, (v, ve, means v OpenParen vs), (m4, pd, (m3, cd, (m6, ad, sd)))))))
built_one_message _ t rest to is d = absurd d

closed_of : (t : Token) (rest to : List Token) → symbol t ≡ CloseBrace → TakeAll (take Semicolon ∷ []) rest to → closed (t ∷ rest) to
closed_of t rest to is (m, (u, ue, us), eq) = subst (λ (x : List Token). closed (t ∷ rest) x) eq (rest, (t, refl, means t CloseBrace is), (u, ue, means u Semicolon us))

-- the sections from here on
abbrev pub Sectioned : Part
Sectioned from to = (ss : List MessageSection) × (sections ss ⨾ closed) from to

section_of : (d : Direction) (t : Token) (rest to : List Token) → reserved (direction_word d) (t ∷ rest) rest → TakeAll (take Colon ∷ messaged d ∷ []) rest to → Sectioned (t ∷ rest) to
section_of d t rest to wd (m, (u, ue, us), (m2, (ms, ss, (m3, msd, (m4, sd, cd))), eq)) =
    subst (λ (x : List Token). Sectioned (t ∷ rest) x) eq
    (record { direction = d; messages = ms } ∷ ss, (m4, (m3, (rest, wd, (m, (u, ue, means u Colon us), msd)), sd), cd))

section_built : (s : Symbol) (t : Token) (rest to : List Token) → symbol t ≡ s → Following (section_begins s) rest to → Sectioned (t ∷ rest) to
section_built Parent t rest to is d = section_of direction.Parent t rest to (t, refl, means t Parent is) d
section_built Child t rest to is d = section_of direction.Child t rest to (t, refl, means t Child is) d
section_built Both t rest to is d = section_of direction.Both t rest to (t, refl, means t Both is) d
section_built CloseBrace t rest to is d = ([], (t ∷ rest, refl, closed_of t rest to is d))
section_built _ t rest to is d = absurd d

-- a message with these attributes, before other messages
message_of : (list : List Attribute) (d : Direction) (from middle after_it to : List Token) → attributes list from middle → Takes one_message middle after_it → Takes (messaged d) after_it to → Takes (messaged d) from to
message_of list d from middle after_it to ad (how, name, place, ps, answers, md) (ms, ss, (m1, msd, more)) = (
  record { name = name; place = place; direction = d; semantics = how; params = ps; returns = answers; attributes = list } ∷ ms,
  ss,
  (m1, (after_it, (refl, (middle, ad, md)), msd), more),
)

message_after : (d : Direction) (t : Token) (rest to : List Token) → symbol t ≡ OpenBracket → TakeAll (attributed ∷ one_message ∷ messaged d ∷ []) rest to → Takes (messaged d) (t ∷ rest) to
message_after d t rest to is (m, ad, (m1, od, (m2, md, eq))) =
    subst (λ (x : List Token). Takes (messaged d) (t ∷ rest) x) eq
    (message_of (ad.0 ∷ ad.1) d (t ∷ rest) m m1 m2 (bracketed t rest m is ad) od md)

message_ahead : (d : Direction) (s : Symbol) (t : Token) (rest to : List Token) → symbol t ≡ s → ((after_it : List Token) → TakeAll (take Word ∷ take OpenParen ∷ parameters ∷ after_parameters ∷ []) rest after_it → Takes one_message (t ∷ rest) after_it) →
    TakeAll (take Word ∷ take OpenParen ∷ parameters ∷ after_parameters ∷ messaged d ∷ []) rest to → Takes (messaged d) (t ∷ rest) to
message_ahead d s t rest to is one (m1, a, (m2, b, (m3, c, (m4, e, (m5, md, eq))))) =
    subst (λ (x : List Token). Takes (messaged d) (t ∷ rest) x) eq
    (message_of [] d (t ∷ rest) (t ∷ rest) m4 m5 refl (one m4 (m1, a, (m2, b, (m3, c, (m4, e, refl))))) md)

built_messaged : (d : Direction) (s : Symbol) → Builds (messaged d) s
unfolding production
built_messaged d OpenBracket t rest to is h = message_after d t rest to is h
built_messaged d Async t rest to is h = message_ahead d Async t rest to is (λ (x : List Token) (z : TakeAll (take Word ∷ take OpenParen ∷ parameters ∷ after_parameters ∷ []) rest x). built_one_message Async t rest x is z) h
built_messaged d Sync t rest to is h = message_ahead d Sync t rest to is (λ (x : List Token) (z : TakeAll (take Word ∷ take OpenParen ∷ parameters ∷ after_parameters ∷ []) rest x). built_one_message Sync t rest x is z) h
built_messaged d s t rest to is h = let r = section_built s t rest to is h in ([], r.0, (t ∷ rest, refl, r.1))

-- protocols

built_managing : (s : Symbol) → Builds managing s
unfolding production
built_managing Manager t rest to is (m1, (u, ue, us), (m2, (ns, (m3, nd, sd)), (m4, (ms, ss, (m5, msd, more)), eq))) =
    subst (λ (x : List Token). Takes managing (t ∷ rest) x) eq (
      managed_by (record { name = u.text; place = u.place }) ns ∷ ms,
      ss,
      (m5, (m2, (rest, (t, refl, means t Manager is), (m1, (u, ue, (means u Word us, refl, refl)), (m3, nd, sd))), msd), more),
    )
built_managing Manages t rest to is (m1, (u, ue, us), (m2, (v, ve, vs), (m4, (ms, ss, (m5, msd, more)), eq))) =
    subst (λ (x : List Token). Takes managing (t ∷ rest) x) eq (
      manages (record { name = u.text; place = u.place }) ∷ ms,
      ss,
      (m5, (m2, (rest, (t, refl, means t Manages is), (m1, (u, ue, (means u Word us, refl, refl)), (v, ve, means v Semicolon vs))), msd), more),
    )
built_managing s t rest to is h = let r = section_built s t rest to is h in ([], r.0, (t ∷ rest, refl, r.1))

built_more_managing : (s : Symbol) → Builds more_managing s
unfolding production
built_more_managing Or t rest to is (m1, (u, ue, us), (m2, (ns, (m3, nd, sd)), eq)) =
    subst (λ (x : List Token). Takes more_managing (t ∷ rest) x) eq
    (record { name = u.text; place = u.place } ∷ ns, (m3, (rest, (t, refl, means t Or is), (m1, (u, ue, (means u Word us, refl, refl)), nd)), sd))
built_more_managing Semicolon t rest to is eq =
    subst (λ (x : List Token). Takes more_managing (t ∷ rest) x) eq ([], (t ∷ rest, refl, (t, refl, means t Semicolon is)))
built_more_managing _ t rest to is d = absurd d

-- structs and unions

field_of : (from middle to : List Token) → Takes (typed 4 ending.Name) from middle → TakeAll (take Semicolon ∷ fielded ∷ []) middle to → Takes fielded from to
field_of from middle to (nullable, b, after, place, (m, td, (u, ue, uk))) (m1, (v, ve, vs), (m2, (fs, (m3, fd, cd)), eq)) =
    subst (λ (x : List Token). Takes fielded from x) eq (
      record { spec = record { nullable = nullable; base = b; suffixes = after; place = place }; name = u.text; place = u.place; attributes = [] } ∷ fs,
      (m3, (m1, (refl, (m, td, (middle, (u, ue, (uk, refl, refl)), (v, ve, means v Semicolon vs)))), fd), cd),
    )

built_fielded : (s : Symbol) → Builds fielded s
unfolding production
built_fielded CloseBrace t rest to is d = ([], (t ∷ rest, refl, closed_of t rest to is d))
built_fielded s t rest to is d =
    let r = after_apart (type_begins 4 ending.Name s) (take Semicolon ∷ fielded ∷ []) rest to d in
    field_of (t ∷ rest) r.0 to (type_built 4 ending.Name s t rest r.0 is r.1) r.2

component_of : (from middle to : List Token) → Takes (typed 4 ending.Semicolon) from middle → TakeAll (componented ∷ []) middle to → Takes componented from to
component_of from middle to (nullable, b, after, place, (m, td, sd)) (m2, (cs, (m3, cd, ed)), eq) =
    subst (λ (x : List Token). Takes componented from x) eq
    (record { nullable = nullable; base = b; suffixes = after; place = place } ∷ cs, (m3, (m, td, (middle, sd, cd)), ed))

built_componented : (s : Symbol) → Builds componented s
unfolding production
built_componented CloseBrace t rest to is d = ([], (t ∷ rest, refl, closed_of t rest to is d))
built_componented s t rest to is d =
    let r = after_apart (type_begins 4 ending.Semicolon s) (componented ∷ []) rest to d in
    component_of (t ∷ rest) r.0 to (type_built 4 ending.Semicolon s t rest r.0 is r.1) r.2

-- usings and includes

built_after_using : (s : Symbol) → Builds after_using s
unfolding production
built_after_using Colons t rest to is (m, (u, ue, us), (m2, (ws, inner, (m3, wd, more)), eq)) =
    subst (λ (x : List Token). Takes after_using (t ∷ rest) x) eq
    (u.text ∷ ws, inner, (m3, (rest, (t, refl, means t Colons is), (m, (u, ue, (means u Word us, refl)), wd)), more))
built_after_using Less t rest to is (m, (name, (m1, qd, gd)), (m2, (f, fe, fs), (m3, (q, qe, qs), (m4, (v, ve, vs), eq)))) =
    subst (λ (x : List Token). Takes after_using (t ∷ rest) x) eq
    ([], Some name, (t ∷ rest, refl, (m, (rest, (t, refl, means t Less is), (m1, qd, gd)), (m2, (f, fe, means f From fs), (m3, (q, qe, means q Quoted qs), (v, ve, means v Semicolon vs))))))
built_after_using From t rest to is (m3, (q, qe, qs), (m4, (v, ve, vs), eq)) =
    subst (λ (x : List Token). Takes after_using (t ∷ rest) x) eq
    ([], None, (t ∷ rest, refl, (t ∷ rest, refl, (rest, (t, refl, means t From is), (m3, (q, qe, means q Quoted qs), (v, ve, means v Semicolon vs))))))
built_after_using _ t rest to is d = absurd d

built_using_word : (s : Symbol) → Builds using_word s
unfolding production
built_using_word Word t rest to is (m, (ws, inner, (m1, wd, (m2, ad, more))), eq) =
    subst (λ (x : List Token). Takes using_word (t ∷ rest) x) eq (
      whole_name (joined (t.text ∷ ws)) inner,
      t.place,
      (m2, (t, rest, refl, refl, (joined (t.text ∷ ws), inner, refl, (m1, (t.text, ws, refl, (rest, (t, refl, (means t Word is, refl)), wd)), ad))), more),
    )
built_using_word _ t rest to is d = absurd d

using_class : (t : Token) (rest to : List Token) → either (reserved (codes "class")) (reserved (codes "struct")) (t ∷ rest) rest → TakeAll (using_word ∷ []) rest to → Takes using_named (t ∷ rest) to
using_class t rest to cd (m, (full, place, d), eq) =
    subst (λ (x : List Token). Takes using_named (t ∷ rest) x) eq (full, place, (rest, inr cd, d))

built_using_named : (s : Symbol) → Builds using_named s
unfolding production
built_using_named Class t rest to is d = using_class t rest to (inl (t, refl, means t Class is)) d
built_using_named Struct t rest to is d = using_class t rest to (inr (t, refl, means t Struct is)) d
built_using_named Word t rest to is d = let r = built_using_word Word t rest to is d in (r.0, r.1, (t ∷ rest, inl refl, r.2))
built_using_named _ t rest to is d = absurd d

built_include_named : (s : Symbol) → Builds include_named s
unfolding production
built_include_named Protocol t rest to is (m, (u, ue, us), (m2, (v, ve, vs), eq)) =
    subst (λ (x : List Token). Takes include_named (t ∷ rest) x) eq
    (include_kind.Protocol, u.text, u.place, (m, (rest, (t, refl, means t Protocol is), (u, ue, (means u Word us, refl, refl))), (v, ve, means v Semicolon vs)))
built_include_named Word t rest to is (m2, (v, ve, vs), eq) =
    subst (λ (x : List Token). Takes include_named (t ∷ rest) x) eq
    (include_kind.Header, t.text, t.place, (rest, (t, refl, (means t Word is, refl, refl)), (v, ve, means v Semicolon vs)))
built_include_named Quoted t rest to is (m2, (v, ve, vs), eq) =
    subst (λ (x : List Token). Takes include_named (t ∷ rest) x) eq
    (include_kind.Quoted, t.text, t.place, (rest, (t, refl, (means t Quoted is, refl, refl)), (v, ve, means v Semicolon vs)))
built_include_named _ t rest to is d = absurd d

-- single tokens

built_any_word : (s : Symbol) → Builds any_word s
unfolding production
built_any_word Word t rest to is eq = subst (λ (x : List Token). Takes any_word (t ∷ rest) x) eq (t, refl, λ k. cc (means t Word is))
built_any_word Quoted t rest to is eq = subst (λ (x : List Token). Takes any_word (t ∷ rest) x) eq (t, refl, λ k. cc (means t Quoted is))
built_any_word OtherWord t rest to is eq = subst (λ (x : List Token). Takes any_word (t ∷ rest) x) eq (t, refl, λ k. cc (means t OtherWord is))
built_any_word Async t rest to is eq = subst (λ (x : List Token). Takes any_word (t ∷ rest) x) eq (t, refl, λ k. cc (means t Async is).0)
built_any_word Both t rest to is eq = subst (λ (x : List Token). Takes any_word (t ∷ rest) x) eq (t, refl, λ k. cc (means t Both is).0)
built_any_word Child t rest to is eq = subst (λ (x : List Token). Takes any_word (t ∷ rest) x) eq (t, refl, λ k. cc (means t Child is).0)
built_any_word Class t rest to is eq = subst (λ (x : List Token). Takes any_word (t ∷ rest) x) eq (t, refl, λ k. cc (means t Class is).0)
built_any_word From t rest to is eq = subst (λ (x : List Token). Takes any_word (t ∷ rest) x) eq (t, refl, λ k. cc (means t From is).0)
built_any_word Include t rest to is eq = subst (λ (x : List Token). Takes any_word (t ∷ rest) x) eq (t, refl, λ k. cc (means t Include is).0)
built_any_word Manager t rest to is eq = subst (λ (x : List Token). Takes any_word (t ∷ rest) x) eq (t, refl, λ k. cc (means t Manager is).0)
built_any_word Manages t rest to is eq = subst (λ (x : List Token). Takes any_word (t ∷ rest) x) eq (t, refl, λ k. cc (means t Manages is).0)
built_any_word Namespace t rest to is eq = subst (λ (x : List Token). Takes any_word (t ∷ rest) x) eq (t, refl, λ k. cc (means t Namespace is).0)
built_any_word Nullable t rest to is eq = subst (λ (x : List Token). Takes any_word (t ∷ rest) x) eq (t, refl, λ k. cc (means t Nullable is).0)
built_any_word Or t rest to is eq = subst (λ (x : List Token). Takes any_word (t ∷ rest) x) eq (t, refl, λ k. cc (means t Or is).0)
built_any_word Parent t rest to is eq = subst (λ (x : List Token). Takes any_word (t ∷ rest) x) eq (t, refl, λ k. cc (means t Parent is).0)
built_any_word Protocol t rest to is eq = subst (λ (x : List Token). Takes any_word (t ∷ rest) x) eq (t, refl, λ k. cc (means t Protocol is).0)
built_any_word Returns t rest to is eq = subst (λ (x : List Token). Takes any_word (t ∷ rest) x) eq (t, refl, λ k. cc (means t Returns is).0)
built_any_word Struct t rest to is eq = subst (λ (x : List Token). Takes any_word (t ∷ rest) x) eq (t, refl, λ k. cc (means t Struct is).0)
built_any_word Sync t rest to is eq = subst (λ (x : List Token). Takes any_word (t ∷ rest) x) eq (t, refl, λ k. cc (means t Sync is).0)
built_any_word Union t rest to is eq = subst (λ (x : List Token). Takes any_word (t ∷ rest) x) eq (t, refl, λ k. cc (means t Union is).0)
built_any_word UniquePtr t rest to is eq = subst (λ (x : List Token). Takes any_word (t ∷ rest) x) eq (t, refl, λ k. cc (means t UniquePtr is).0)
built_any_word Using t rest to is eq = subst (λ (x : List Token). Takes any_word (t ∷ rest) x) eq (t, refl, λ k. cc (means t Using is).0)
built_any_word _ t rest to is d = absurd d

built_take : (x s : Symbol) → Builds (take x) s
unfolding production
built_take End Word t rest to is eq = subst (λ (x : List Token). Takes (take End) (t ∷ rest) x) eq (t, refl, is)
built_take Word Word t rest to is eq = subst (λ (x : List Token). Takes (take Word) (t ∷ rest) x) eq (t, refl, is)
built_take Quoted Quoted t rest to is eq = subst (λ (x : List Token). Takes (take Quoted) (t ∷ rest) x) eq (t, refl, is)
built_take OtherWord OtherWord t rest to is eq = subst (λ (x : List Token). Takes (take OtherWord) (t ∷ rest) x) eq (t, refl, is)
built_take OtherMark OtherMark t rest to is eq = subst (λ (x : List Token). Takes (take OtherMark) (t ∷ rest) x) eq (t, refl, is)
built_take Colons Colons t rest to is eq = subst (λ (x : List Token). Takes (take Colons) (t ∷ rest) x) eq (t, refl, is)
built_take OpenBrace OpenBrace t rest to is eq = subst (λ (x : List Token). Takes (take OpenBrace) (t ∷ rest) x) eq (t, refl, is)
built_take CloseBrace CloseBrace t rest to is eq = subst (λ (x : List Token). Takes (take CloseBrace) (t ∷ rest) x) eq (t, refl, is)
built_take OpenParen OpenParen t rest to is eq = subst (λ (x : List Token). Takes (take OpenParen) (t ∷ rest) x) eq (t, refl, is)
built_take CloseParen CloseParen t rest to is eq = subst (λ (x : List Token). Takes (take CloseParen) (t ∷ rest) x) eq (t, refl, is)
built_take OpenBracket OpenBracket t rest to is eq = subst (λ (x : List Token). Takes (take OpenBracket) (t ∷ rest) x) eq (t, refl, is)
built_take CloseBracket CloseBracket t rest to is eq = subst (λ (x : List Token). Takes (take CloseBracket) (t ∷ rest) x) eq (t, refl, is)
built_take Less Less t rest to is eq = subst (λ (x : List Token). Takes (take Less) (t ∷ rest) x) eq (t, refl, is)
built_take Greater Greater t rest to is eq = subst (λ (x : List Token). Takes (take Greater) (t ∷ rest) x) eq (t, refl, is)
built_take Semicolon Semicolon t rest to is eq = subst (λ (x : List Token). Takes (take Semicolon) (t ∷ rest) x) eq (t, refl, is)
built_take Comma Comma t rest to is eq = subst (λ (x : List Token). Takes (take Comma) (t ∷ rest) x) eq (t, refl, is)
built_take Colon Colon t rest to is eq = subst (λ (x : List Token). Takes (take Colon) (t ∷ rest) x) eq (t, refl, is)
built_take Equals Equals t rest to is eq = subst (λ (x : List Token). Takes (take Equals) (t ∷ rest) x) eq (t, refl, is)
built_take Question Question t rest to is eq = subst (λ (x : List Token). Takes (take Question) (t ∷ rest) x) eq (t, refl, is)
built_take Async Async t rest to is eq = subst (λ (x : List Token). Takes (take Async) (t ∷ rest) x) eq (t, refl, is)
built_take Both Both t rest to is eq = subst (λ (x : List Token). Takes (take Both) (t ∷ rest) x) eq (t, refl, is)
built_take Child Child t rest to is eq = subst (λ (x : List Token). Takes (take Child) (t ∷ rest) x) eq (t, refl, is)
built_take Class Class t rest to is eq = subst (λ (x : List Token). Takes (take Class) (t ∷ rest) x) eq (t, refl, is)
built_take From From t rest to is eq = subst (λ (x : List Token). Takes (take From) (t ∷ rest) x) eq (t, refl, is)
built_take Include Include t rest to is eq = subst (λ (x : List Token). Takes (take Include) (t ∷ rest) x) eq (t, refl, is)
built_take Manager Manager t rest to is eq = subst (λ (x : List Token). Takes (take Manager) (t ∷ rest) x) eq (t, refl, is)
built_take Manages Manages t rest to is eq = subst (λ (x : List Token). Takes (take Manages) (t ∷ rest) x) eq (t, refl, is)
built_take Namespace Namespace t rest to is eq = subst (λ (x : List Token). Takes (take Namespace) (t ∷ rest) x) eq (t, refl, is)
built_take Nullable Nullable t rest to is eq = subst (λ (x : List Token). Takes (take Nullable) (t ∷ rest) x) eq (t, refl, is)
built_take Or Or t rest to is eq = subst (λ (x : List Token). Takes (take Or) (t ∷ rest) x) eq (t, refl, is)
built_take Parent Parent t rest to is eq = subst (λ (x : List Token). Takes (take Parent) (t ∷ rest) x) eq (t, refl, is)
built_take Protocol Protocol t rest to is eq = subst (λ (x : List Token). Takes (take Protocol) (t ∷ rest) x) eq (t, refl, is)
built_take Returns Returns t rest to is eq = subst (λ (x : List Token). Takes (take Returns) (t ∷ rest) x) eq (t, refl, is)
built_take Struct Struct t rest to is eq = subst (λ (x : List Token). Takes (take Struct) (t ∷ rest) x) eq (t, refl, is)
built_take Sync Sync t rest to is eq = subst (λ (x : List Token). Takes (take Sync) (t ∷ rest) x) eq (t, refl, is)
built_take Union Union t rest to is eq = subst (λ (x : List Token). Takes (take Union) (t ∷ rest) x) eq (t, refl, is)
built_take UniquePtr UniquePtr t rest to is eq = subst (λ (x : List Token). Takes (take UniquePtr) (t ∷ rest) x) eq (t, refl, is)
built_take Using Using t rest to is eq = subst (λ (x : List Token). Takes (take Using) (t ∷ rest) x) eq (t, refl, is)
built_take _ _ t rest to is d = absurd d

-- A first token and the tokens that a form's production takes are tokens that the form takes.
pub built : (f : Form) (s : Symbol) → Builds f s
unfolding production
built (take x) s = built_take x s
built any_word s = built_any_word s
built argument_name s = built_argument_name s
built argument_words s = built_argument_words s
built (suffixed n e) s = λ t rest to is d. suffix_built n e s t rest to is d
built (named e) s = built_named e s
built (based room e) s = λ t rest to is d. base_built room e s t rest to is d
built (typed room e) s = λ t rest to is d. type_built room e s t rest to is d
built attributed s = built_attributed s
built after_attribute s = built_after_attribute s
built more_attributed s = built_more_attributed s
built one_param s = λ t rest to is d. param_built s t rest to is d
built parameters s = built_parameters s
built more_parameters s = built_more_parameters s
built after_parameters s = built_after_parameters s
built one_message s = built_one_message s
built (messaged d) s = built_messaged d s
built managing s = built_managing s
built more_managing s = built_more_managing s
built fielded s = built_fielded s
built componented s = built_componented s
built using_named s = built_using_named s
built using_word s = built_using_word s
built after_using s = built_after_using s
built include_named s = built_include_named s
