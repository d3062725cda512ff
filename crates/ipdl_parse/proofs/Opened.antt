-- What a form takes begins with a token that has a production, which takes the rest.
use Rattle.std.proofs.Common.{◌≡◌, ℕ, suc, ◌-◌, ◌≤◌, inl, inr, true, false, List, [], ◌∷◌, length, Option, Some, None, codes, refl, sym, subst, ◌∙◌, arith}
use Rattle.std.specs.Prelude.{nat_lt}
use Rattle.ipdl_base.specs.declared.kinds.Direction.{Direction}
use Rattle.ipdl_base.specs.declared.kinds.Direction.TheVariants as direction
use Rattle.ipdl_base.specs.declared.kinds.Semantics.TheVariants as semantics
use Rattle.ipdl_base.specs.declared.token.Token.{Token}
use Rattle.ipdl_syntax.specs.declared.tree.Attribute.{Attribute}
use Rattle.ipdl_syntax.specs.declared.tree.Base.{Named, Unique'}
use Rattle.ipdl_syntax.specs.declared.tree.IncludeKind.TheVariants as include_kind
use Rattle.ipdl_syntax.specs.declared.tree.Suffix.TheVariants.{Array, Maybe}
use Rattle.ipdl_syntax.specs.Parts.{Part, ◌⨾◌, mark, reserved, at}
use Rattle.ipdl_syntax.specs.Grammar.{attributes, suffixes, base, MessageSection, direction_word, sections, managed_by, manages}
use Rattle.tree_reader.specs.Ending.{Ending}
use Rattle.tree_reader.specs.Ending as ending
use Rattle.tree_reader.specs.declared.symbol.Symbol.{Symbol}
use Rattle.tree_reader.specs.declared.symbol.Symbol.TheVariants.{End, Word, Quoted, OtherWord, OtherMark, Colons, OpenBrace, CloseBrace, OpenParen, CloseParen, OpenBracket, CloseBracket, Less, Greater, Semicolon, Comma, Colon, Equals, Question, Async, Both, Child, Class, From, Include, Manager, Manages, Namespace, Nullable, Or, Parent, Protocol, Returns, Struct, Sync, Union, UniquePtr, Using}
use Rattle.tree_reader.specs.Symbols.{symbol}
use Rattle.tree_reader.specs.Reading.{last}
use Rattle.tree_reader.specs.Machine.{Form, proper, take, any_word, argument_name, argument_words, suffixed, named, based, typed, attributed, after_attribute, more_attributed, one_param, parameters, more_parameters, after_parameters, one_message, messaged, managing, more_managing, fielded, componented, using_named, using_word, after_using, include_named, production, following, suffix_begins, base_begins, type_begins, section_begins}
use Rattle.std.proofs.lemmas.Bool.{lt-ltb}
use Rattle.tree_reader.proofs.Symbols.{is_word, is_quoted, is_colons, is_close_brace, is_open_paren, is_close_paren, is_open_bracket, is_close_bracket, is_less, is_greater, is_semicolon, is_comma, is_colon, is_equals, is_question, is_async, is_both, is_child, is_class, is_from, is_manager, is_manages, is_nullable, is_or, is_parent, is_protocol, is_returns, is_struct, is_sync, is_unique_ptr}
use Rattle.tree_reader.proofs.Tokens.{any_word_table}
use Rattle.ipdl_parse.proofs.Meaning.{ending_part, closed, Takes, Following, Opened, after_together, allowed}

open_by : (f : Form) (s : Symbol) (from to : List Token) (t : Token) (rest : List Token) → from ≡ t ∷ rest → symbol t ≡ s → Following (production f s) rest to → Opened f from to
open_by f s from to t rest e is d = (t, rest, e, subst (λ (x : Symbol). Following (production f x) rest to) (sym is) d)

-- the same where the production is that of another table
open_as : (f : Form) (s : Symbol) (o : Option (List Form)) (from to : List Token) (t : Token) (rest : List Token) → from ≡ t ∷ rest → symbol t ≡ s → production f s ≡ o → Following o rest to → Opened f from to
open_as f s o from to t rest e is p d = open_by f s from to t rest e is (subst (λ (x : Option (List Form)). Following x rest to) (sym p) d)

last_is : (e : Ending) (from to : List Token) → ending_part e from to → (t : Token) × (from ≡ t ∷ to) × (symbol t ≡ last e)
last_is ending.Name from to (t, te, k) = (t, te, is_word t k)
last_is ending.Semicolon from to (t, te, k) = (t, te, is_semicolon t k)
last_is ending.Greater from to (t, te, k) = (t, te, is_greater t k)

suffix_last : (n : ℕ) (e : Ending) → suffix_begins n e (last e) ≡ Some []
suffix_last n ending.Name = refl
suffix_last n ending.Semicolon = refl
suffix_last n ending.Greater = refl

named_last : (e : Ending) → production (named e) (last e) ≡ Some []
unfolding production
named_last ending.Name = refl
named_last ending.Semicolon = refl
named_last ending.Greater = refl

room_for : (k n : ℕ) → suc k ≤ n → nat_lt 0 n ≡ true
room_for k n h = lt-ltb 0 n (omega arith)

less_room : (k n : ℕ) → suc k ≤ n → k ≤ n - 1
less_room k n h = omega arith

suffix_opened : (f : Form) (n : ℕ) (e : Ending) (from to : List Token) → production f OpenBracket ≡ suffix_begins n e OpenBracket → production f Question ≡ suffix_begins n e Question → production f (last e) ≡ Some [] → Takes (suffixed n e) from to → Opened f from to
suffix_opened f n e from to po pq pl (Array ∷ after, le, (m3, (m, (r, (t, te, tk), (u, ue, uk)), sd), ed)) =
    open_as f OpenBracket (suffix_begins n e OpenBracket) from to t r te (is_open_bracket t tk) po
    (allowed (nat_lt 0 n) (take CloseBracket ∷ suffixed (n - 1) e ∷ []) r to (room_for (length after) n le) (m, (u, ue, is_close_bracket u uk), (to, (after, less_room (length after) n le, (m3, sd, ed)), refl)))
suffix_opened f n e from to po pq pl (Maybe ∷ after, le, (m3, (m, (t, te, tk), sd), ed)) =
    open_as f Question (suffix_begins n e Question) from to t m te (is_question t tk) pq
    (allowed (nat_lt 0 n) (suffixed (n - 1) e ∷ []) m to (room_for (length after) n le) (to, (after, less_room (length after) n le, (m3, sd, ed)), refl))
suffix_opened f n e from to po pq pl ([], le, (m3, same, ed)) =
    let r = last_is e m3 to ed in open_as f (last e) (Some []) from to r.0 to (same ∙ r.1) r.2 pl refl

opened_suffixed : (n : ℕ) (e : Ending) (from to : List Token) → Takes (suffixed n e) from to → Opened (suffixed n e) from to
unfolding production
opened_suffixed n e from to d = suffix_opened (suffixed n e) n e from to refl refl (suffix_last n e) d

opened_argument_words : (from to : List Token) → Takes argument_words from to → Opened argument_words from to
unfolding production
opened_argument_words from to (w ∷ ws, (m3, (r, (t, te, tk), (m, (u, ue, uk), wd)), gd)) =
    open_by argument_words Colons from to t r te (is_colons t tk) (m, (u, ue, is_word u uk.0), (to, (ws, (m3, wd, gd)), refl))
opened_argument_words from to ([], (m3, same, (t, te, tk))) =
    open_by argument_words Greater from to t to (same ∙ te) (is_greater t tk) refl

opened_argument_name : (from to : List Token) → Takes argument_name from to → Opened argument_name from to
unfolding production
opened_argument_name from to (name, (m3, (first, ws, j, (r, (t, te, tk), wd)), gd)) =
    open_by argument_name Word from to t r te (is_word t tk.0) (to, (ws, (m3, wd, gd)), refl)

named_opened : (e : Ending) (from to : List Token) → Takes (named e) from to → Opened (named e) from to
unfolding production
named_opened e from to (w ∷ ws, inner, after, le, (m3, (r, (t, te, tk), (m, (u, ue, uk), wd)), more)) =
    open_by (named e) Colons from to t r te (is_colons t tk) (m, (u, ue, is_word u uk.0), (to, (ws, inner, after, le, (m3, wd, more)), refl))
named_opened e from to ([], Some name, after, le, (m3, same, (m2, (r, (t, te, tk), (m1, qd, gd)), sd))) =
    open_by (named e) Less from to t r (same ∙ te) (is_less t tk) (m2, (name, (m1, qd, gd)), (to, (after, le, sd), refl))
named_opened e from to ([], None, after, le, (m3, same, (m2, same', sd))) =
    suffix_opened (named e) 4 e from to refl refl (named_last e) (after, le, subst (λ (x : List Token). (suffixes after ⨾ ending_part e) x to) (sym (same ∙ same')) sd)

-- the same of a base: its first symbol, and what follows it
base_opened : (f : Form) (room : ℕ) (e : Ending) (from to : List Token) → production f Word ≡ base_begins room e Word → production f UniquePtr ≡ base_begins room e UniquePtr → Takes (based room e) from to → Opened f from to
base_opened f room e from to pw pu (Named name inner, after, place, le, (m2, (t0, r0, te0, pl, (m1, (first, ws, j, (r, (t, te, tk), wd)), ad)), more)) =
    open_as f Word (base_begins room e Word) from to t r te (is_word t tk.0) pw
    (to, (ws, inner, after, le, (m1, wd, (m2, ad, more))), refl)
base_opened f room e from to pw pu (Unique' box nullable b after_it inner_place, after, place, le, (m2, (t0, r0, te0, pl, (pos, (r, (t, te, tk), (m1, (u, ue, uk), (m3, td, gd))))), more)) =
    open_as f UniquePtr (base_begins room e UniquePtr) from to t r te (is_unique_ptr t tk) pu
    (allowed (nat_lt 0 room) (take Less ∷ typed (room - 1) ending.Greater ∷ suffixed 4 e ∷ []) r to (lt-ltb 0 room pos)
    (m1, (u, ue, is_less u uk), (m2, (nullable, b, after_it, inner_place, (m3, td, gd)), (to, (after, le, more), refl))))

opened_based : (room : ℕ) (e : Ending) (from to : List Token) → Takes (based room e) from to → Opened (based room e) from to
unfolding production
opened_based room e from to d = base_opened (based room e) room e from to refl refl d

-- what a type's first symbol leads to
record TypeTable (f : Form) (room : ℕ) (e : Ending) : Type 0 where
  at_word : production f Word ≡ base_begins room e Word
  at_unique : production f UniquePtr ≡ base_begins room e UniquePtr
  at_nullable : production f Nullable ≡ Some (based room e ∷ [])

type_opened : (f : Form) (room : ℕ) (e : Ending) (from to : List Token) → TypeTable f room e → Takes (typed room e) from to → Opened f from to
type_opened f room e from to table (true, b, after, place, (m3, (le, (m1, (t, te, tk), (m2, bd, sd))), ed)) =
    open_as f Nullable (Some (based room e ∷ [])) from to t m1 te (is_nullable t tk) table.at_nullable (to, (b, after, place, le, (m2, bd, (m3, sd, ed))), refl)
type_opened f room e from to table (false, b, after, place, (m3, (le, (m1, same, (m2, bd, sd))), ed)) =
    base_opened f room e from to table.at_word table.at_unique
    (b, after, place, le, (m2, subst (λ (x : List Token). at place (base room b) x m2) (sym same) bd, (m3, sd, ed)))

opened_typed : (room : ℕ) (e : Ending) (from to : List Token) → Takes (typed room e) from to → Opened (typed room e) from to
unfolding production
opened_typed room e from to d = type_opened (typed room e) room e from to (record { at_word = refl; at_unique = refl; at_nullable = refl }) d

-- attributes

opened_attributed : (from to : List Token) → Takes attributed from to → Opened attributed from to
unfolding production
opened_attributed from to (a, more, (m1, (r, (t, te, tk), vd), md)) = open_by attributed Word from to t r te (is_word t tk.0) (to, (a.value, more, (m1, vd, md)), refl)

opened_after_attribute : (from to : List Token) → Takes after_attribute from to → Opened after_attribute from to
unfolding production
opened_after_attribute from to (Some text, more, (m1, (r, (t, te, tk), (u, ue, uk)), md)) =
    open_by after_attribute Equals from to t r te (is_equals t tk) (m1, (u, ue, uk.0), (to, (more, md), refl))
opened_after_attribute from to (None, a ∷ more, (m1, same, (m2, (r, (t, te, tk), (m3, ad, md)), cd))) =
    open_by after_attribute Comma from to t r (same ∙ te) (is_comma t tk) (to, (a, more, (m3, ad, (m2, md, cd))), refl)
opened_after_attribute from to (None, [], (m1, same, (m2, same', (t, te, tk)))) =
    open_by after_attribute CloseBracket from to t to (same ∙ same' ∙ te) (is_close_bracket t tk) refl

opened_more_attributed : (from to : List Token) → Takes more_attributed from to → Opened more_attributed from to
unfolding production
opened_more_attributed from to (a ∷ more, (m2, (r, (t, te, tk), (m3, ad, md)), cd)) =
    open_by more_attributed Comma from to t r te (is_comma t tk) (to, (a, more, (m3, ad, (m2, md, cd))), refl)
opened_more_attributed from to ([], (m2, same, (t, te, tk))) =
    open_by more_attributed CloseBracket from to t to (same ∙ te) (is_close_bracket t tk) refl

-- parameters

-- the table of a parameter includes that of a type, and the table of parameters that of a parameter
param_table : (s : Symbol) (rest to : List Token) → Following (type_begins 4 ending.Name s) rest to → Following (production one_param s) rest to
unfolding production
param_table OpenBracket rest to d = absurd d
param_table s rest to d = d

parameters_table : (s : Symbol) (rest to : List Token) → Following (following (production one_param s) (more_parameters ∷ [])) rest to → Following (production parameters s) rest to
unfolding production
parameters_table CloseParen rest to d = absurd d
parameters_table s rest to d = d

param_opened : (list : List Attribute) (from middle to : List Token) → attributes list from middle → Takes (typed 4 ending.Name) middle to → Opened one_param from to
unfolding production
param_opened [] from middle to same td = let r = opened_typed 4 ending.Name middle to td in (r.0, r.1, same ∙ r.2, param_table (symbol r.0) r.1 to r.3)
param_opened (a ∷ more) from middle to (r, (t, te, tk), ad) td = open_by one_param OpenBracket from to t r te (is_open_bracket t tk) (middle, (a, more, ad), (to, td, refl))

opened_one_param : (from to : List Token) → Takes one_param from to → Opened one_param from to
opened_one_param from to (p, (middle, ad, (m1, td, (u, ue, uk)))) =
    param_opened p.attributes from middle to ad (p.spec.nullable, p.spec.base, p.spec.suffixes, p.spec.place, (m1, td, (u, ue, uk.0)))

opened_parameters : (from to : List Token) → Takes parameters from to → Opened parameters from to
unfolding production
opened_parameters from to (p ∷ ps, (m1, (middle, pd, md), cd)) =
    let r = opened_one_param from middle (p, pd) in
    (r.0, r.1, r.2, parameters_table (symbol r.0) r.1 to (after_together (production one_param (symbol r.0)) (more_parameters ∷ []) r.1 middle to r.3 (to, (ps, (m1, md, cd)), refl)))
opened_parameters from to ([], (m1, same, (t, te, tk))) = open_by parameters CloseParen from to t to (same ∙ te) (is_close_paren t tk) refl

opened_more_parameters : (from to : List Token) → Takes more_parameters from to → Opened more_parameters from to
unfolding production
opened_more_parameters from to (p ∷ ps, (m1, (r, (t, te, tk), (middle, pd, md)), cd)) =
    open_by more_parameters Comma from to t r te (is_comma t tk) (middle, (p, pd), (to, (ps, (m1, md, cd)), refl))
opened_more_parameters from to ([], (m1, same, (t, te, tk))) = open_by more_parameters CloseParen from to t to (same ∙ te) (is_close_paren t tk) refl

opened_after_parameters : (from to : List Token) → Takes after_parameters from to → Opened after_parameters from to
unfolding production
opened_after_parameters from to (Some ps, (m2, (r, (t, te, tk), (m, (u, ue, uk), (m3, pd, cd))), (v, ve, vk))) =
    open_by after_parameters Returns from to t r te (is_returns t tk) (m, (u, ue, is_open_paren u uk), (m2, (ps, (m3, pd, cd)), (to, (v, ve, is_semicolon v vk), refl)))
opened_after_parameters from to (None, (m2, same, (t, te, tk))) = open_by after_parameters Semicolon from to t to (same ∙ te) (is_semicolon t tk) refl

-- messages and sections

opened_one_message : (from to : List Token) → Takes one_message from to → Opened one_message from to
unfolding production
opened_one_message from to (semantics.Async, name, place, ps, answers, (r, (t, te, tk), (m4, (u, ue, uk), (m5, (v, ve, vk), (m6, pd, (m7, cd, (m8, rd, sd))))))) =
    open_by one_message Async from to t r te (is_async t tk) (m4, (u, ue, is_word u uk.0), (m5, (v, ve, is_open_paren v vk), (m7, (ps, (m6, pd, cd)), (to, (answers, (m8, rd, sd)), refl))))
opened_one_message from to (semantics.Sync, name, place, ps, answers, (r, (t, te, tk), (m4, (u, ue, uk), (m5, (v, ve, vk), (m6, pd, (m7, cd, (m8, rd, sd))))))) =
    open_by one_message Sync from to t r te (is_sync t tk) (m4, (u, ue, is_word u uk.0), (m5, (v, ve, is_open_paren v vk), (m7, (ps, (m6, pd, cd)), (to, (answers, (m8, rd, sd)), refl))))

messaged_table : (d : Direction) (s : Symbol) (rest to : List Token) → Following (following (production one_message s) (messaged d ∷ [])) rest to → Following (production (messaged d) s) rest to
unfolding production
messaged_table d Async rest to h = h
messaged_table d Sync rest to h = h
messaged_table d _ rest to h = absurd h

message_opened : (d : Direction) (list : List Attribute) (from middle after_it to : List Token) → attributes list from middle → Takes one_message middle after_it → Takes (messaged d) after_it to → Opened (messaged d) from to
unfolding production
message_opened d [] from middle after_it to same od more =
    let r = opened_one_message middle after_it od in
    (r.0, r.1, same ∙ r.2, messaged_table d (symbol r.0) r.1 to (after_together (production one_message (symbol r.0)) (messaged d ∷ []) r.1 after_it to r.3 (to, more, refl)))
message_opened d (a ∷ list) from middle after_it to (r, (t, te, tk), ad) od more =
    open_by (messaged d) OpenBracket from to t r te (is_open_bracket t tk) (middle, (a, list, ad), (after_it, od, (to, more, refl)))

-- the sections from here on
abbrev Sectioned : Part
Sectioned from to = (ss : List MessageSection) × (sections ss ⨾ closed) from to

-- what has the table of sections
abbrev HasSections : Form → Type 0
HasSections f = (s : Symbol) (rest to : List Token) → Following (section_begins s) rest to → Following (production f s) rest to

section_opened : (f : Form) (d : Direction) (from r middle after_it to : List Token) → HasSections f → reserved (direction_word d) from r → mark (codes ":") r middle → Takes (messaged d) middle to → Opened f from to
section_opened f direction.Parent from r middle after_it to table (t, te, tk) (u, ue, uk) md = open_by f Parent from to t r te (is_parent t tk) (table Parent r to (middle, (u, ue, is_colon u uk), (to, md, refl)))
section_opened f direction.Child from r middle after_it to table (t, te, tk) (u, ue, uk) md = open_by f Child from to t r te (is_child t tk) (table Child r to (middle, (u, ue, is_colon u uk), (to, md, refl)))
section_opened f direction.Both from r middle after_it to table (t, te, tk) (u, ue, uk) md = open_by f Both from to t r te (is_both t tk) (table Both r to (middle, (u, ue, is_colon u uk), (to, md, refl)))

sectioned_opened : (f : Form) (from to : List Token) → HasSections f → Sectioned from to → Opened f from to
sectioned_opened f from to table (s ∷ ss, (m4, (m3, (r, wd, (m1, ud, msd)), sd), cd)) =
    section_opened f s.direction from r m1 m3 to table wd ud (s.messages, ss, (m3, msd, (m4, sd, cd)))
sectioned_opened f from to table ([], (m4, same, (r, (t, te, tk), (u, ue, uk)))) =
    open_by f CloseBrace from to t r (same ∙ te) (is_close_brace t tk) (table CloseBrace r to (to, (u, ue, is_semicolon u uk), refl))

messaged_sections : (d : Direction) → HasSections (messaged d)
unfolding production
messaged_sections d OpenBracket rest to h = absurd h
messaged_sections d Async rest to h = absurd h
messaged_sections d Sync rest to h = absurd h
messaged_sections d s rest to h = h

managing_sections : HasSections managing
unfolding production
managing_sections Manager rest to h = absurd h
managing_sections Manages rest to h = absurd h
managing_sections s rest to h = h

opened_messaged : (d : Direction) (from to : List Token) → Takes (messaged d) from to → Opened (messaged d) from to
opened_messaged d from to (m ∷ ms, ss, (m3, (m1, (dir, (m2, ad, od)), msd), more)) =
    message_opened d m.attributes from m2 m1 to ad (m.semantics, m.name, m.place, m.params, m.returns, od) (ms, ss, (m3, msd, more))
opened_messaged d from to ([], ss, (m3, same, more)) =
    sectioned_opened (messaged d) from to (messaged_sections d) (ss, subst (λ (x : List Token). (sections ss ⨾ closed) x to) (sym same) more)

opened_managing : (from to : List Token) → Takes managing from to → Opened managing from to
unfolding production
opened_managing from to (managed_by first others ∷ ms, ss, (m5, (m2, (r, (t, te, tk), (m1, (u, ue, uk), (m3, nd, (v, ve, vk)))), msd), more)) =
    open_by managing Manager from to t r te (is_manager t tk) (m1, (u, ue, is_word u uk.0), (m2, (others, (m3, nd, (v, ve, vk))), (to, (ms, ss, (m5, msd, more)), refl)))
opened_managing from to (manages n ∷ ms, ss, (m5, (m2, (r, (t, te, tk), (m1, (u, ue, uk), (v, ve, vk))), msd), more)) =
    open_by managing Manages from to t r te (is_manages t tk) (m1, (u, ue, is_word u uk.0), (m2, (v, ve, is_semicolon v vk), (to, (ms, ss, (m5, msd, more)), refl)))
opened_managing from to ([], ss, (m5, same, more)) =
    sectioned_opened managing from to managing_sections (ss, subst (λ (x : List Token). (sections ss ⨾ closed) x to) (sym same) more)

opened_more_managing : (from to : List Token) → Takes more_managing from to → Opened more_managing from to
unfolding production
opened_more_managing from to (n ∷ ns, (m3, (r, (t, te, tk), (m1, (u, ue, uk), nd)), sd)) =
    open_by more_managing Or from to t r te (is_or t tk) (m1, (u, ue, is_word u uk.0), (to, (ns, (m3, nd, sd)), refl))
opened_more_managing from to ([], (m3, same, (t, te, tk))) = open_by more_managing Semicolon from to t to (same ∙ te) (is_semicolon t tk) refl

-- structs and unions

fielded_table : (s : Symbol) (rest to : List Token) → Following (following (production (typed 4 ending.Name) s) (take Semicolon ∷ fielded ∷ [])) rest to → Following (production fielded s) rest to
unfolding production
fielded_table CloseBrace rest to d = absurd d
fielded_table s rest to d = d

componented_table : (s : Symbol) (rest to : List Token) → Following (following (production (typed 4 ending.Semicolon) s) (componented ∷ [])) rest to → Following (production componented s) rest to
unfolding production
componented_table CloseBrace rest to d = absurd d
componented_table s rest to d = d

opened_fielded : (from to : List Token) → Takes fielded from to → Opened fielded from to
unfolding production
opened_fielded from to (p ∷ fs, (m3, (m1, (bare, (m, td, (m2, (u, ue, uk), (v, ve, vk)))), fd), cd)) =
    let r = opened_typed 4 ending.Name from m2 (p.spec.nullable, p.spec.base, p.spec.suffixes, p.spec.place, (m, td, (u, ue, uk.0))) in
    (r.0, r.1, r.2, fielded_table (symbol r.0) r.1 to (after_together (production (typed 4 ending.Name) (symbol r.0)) (take Semicolon ∷ fielded ∷ []) r.1 m2 to r.3 (m1, (v, ve, is_semicolon v vk), (to, (fs, (m3, fd, cd)), refl))))
opened_fielded from to ([], (m3, same, (r, (t, te, tk), (u, ue, uk)))) =
    open_by fielded CloseBrace from to t r (same ∙ te) (is_close_brace t tk) (to, (u, ue, is_semicolon u uk), refl)

opened_componented : (from to : List Token) → Takes componented from to → Opened componented from to
unfolding production
opened_componented from to (c ∷ cs, (m3, (m, td, (m1, sd, cd)), ed)) =
    let r = opened_typed 4 ending.Semicolon from m1 (c.nullable, c.base, c.suffixes, c.place, (m, td, sd)) in
    (r.0, r.1, r.2, componented_table (symbol r.0) r.1 to (after_together (production (typed 4 ending.Semicolon) (symbol r.0)) (componented ∷ []) r.1 m1 to r.3 (to, (cs, (m3, cd, ed)), refl)))
opened_componented from to ([], (m3, same, (r, (t, te, tk), (u, ue, uk)))) =
    open_by componented CloseBrace from to t r (same ∙ te) (is_close_brace t tk) (to, (u, ue, is_semicolon u uk), refl)

-- usings and includes

opened_after_using : (from to : List Token) → Takes after_using from to → Opened after_using from to
unfolding production
opened_after_using from to (w ∷ ws, inner, (m3, (r, (t, te, tk), (m, (u, ue, uk), wd)), more)) =
    open_by after_using Colons from to t r te (is_colons t tk) (m, (u, ue, is_word u uk.0), (to, (ws, inner, (m3, wd, more)), refl))
opened_after_using from to ([], Some name, (m3, same, (m2, (r, (t, te, tk), (m1, qd, gd)), (m4, (f, fe, fk), (m5, (q, qe, qk), (v, ve, vk)))))) =
    open_by after_using Less from to t r (same ∙ te) (is_less t tk) (m2, (name, (m1, qd, gd)), (m4, (f, fe, is_from f fk), (m5, (q, qe, is_quoted q qk), (to, (v, ve, is_semicolon v vk), refl))))
opened_after_using from to ([], None, (m3, same, (m2, same', (m4, (f, fe, fk), (m5, (q, qe, qk), (v, ve, vk)))))) =
    open_by after_using From from to f m4 (same ∙ same' ∙ fe) (is_from f fk) (m5, (q, qe, is_quoted q qk), (to, (v, ve, is_semicolon v vk), refl))

opened_using_word : (from to : List Token) → Takes using_word from to → Opened using_word from to
unfolding production
opened_using_word from to (full, place, (m2, (t0, r0, te0, pl, (name, inner, whole, (m1, (first, ws, j, (r, (t, te, tk), wd)), ad))), more)) =
    open_by using_word Word from to t r te (is_word t tk.0) (to, (ws, inner, (m1, wd, (m2, ad, more))), refl)

using_table : (s : Symbol) (rest to : List Token) → Following (production using_word s) rest to → Following (production using_named s) rest to
unfolding production
using_table Word rest to d = d
using_table _ rest to d = absurd d

opened_using_named : (from to : List Token) → Takes using_named from to → Opened using_named from to
unfolding production
opened_using_named from to (full, place, (m, inl same, more)) =
    let r = opened_using_word m to (full, place, more) in (r.0, r.1, same ∙ r.2, using_table (symbol r.0) r.1 to r.3)
opened_using_named from to (full, place, (m, inr (inl (t, te, tk)), more)) =
    open_by using_named Class from to t m te (is_class t tk) (to, (full, place, more), refl)
opened_using_named from to (full, place, (m, inr (inr (t, te, tk)), more)) =
    open_by using_named Struct from to t m te (is_struct t tk) (to, (full, place, more), refl)

opened_include_named : (from to : List Token) → Takes include_named from to → Opened include_named from to
unfolding production
opened_include_named from to (include_kind.Protocol, name, place, (m, (r, (t, te, tk), (u, ue, uk)), (v, ve, vk))) =
    open_by include_named Protocol from to t r te (is_protocol t tk) (m, (u, ue, is_word u uk.0), (to, (v, ve, is_semicolon v vk), refl))
opened_include_named from to (include_kind.Header, name, place, (m, (t, te, tk), (v, ve, vk))) =
    open_by include_named Word from to t m te (is_word t tk.0) (to, (v, ve, is_semicolon v vk), refl)
opened_include_named from to (include_kind.Quoted, name, place, (m, (t, te, tk), (v, ve, vk))) =
    open_by include_named Quoted from to t m te (is_quoted t tk.0) (to, (v, ve, is_semicolon v vk), refl)

-- single tokens

opened_any_word : (from to : List Token) → Takes any_word from to → Opened any_word from to
opened_any_word from to (t, te, tk) = open_as any_word (symbol t) (Some []) from to t to te refl (any_word_table (symbol t) t refl tk) refl

take_table : (s : Symbol) → production (take s) (proper s) ≡ Some []
unfolding production
take_table End = refl
take_table Word = refl
take_table Quoted = refl
take_table OtherWord = refl
take_table OtherMark = refl
take_table Colons = refl
take_table OpenBrace = refl
take_table CloseBrace = refl
take_table OpenParen = refl
take_table CloseParen = refl
take_table OpenBracket = refl
take_table CloseBracket = refl
take_table Less = refl
take_table Greater = refl
take_table Semicolon = refl
take_table Comma = refl
take_table Colon = refl
take_table Equals = refl
take_table Question = refl
take_table Async = refl
take_table Both = refl
take_table Child = refl
take_table Class = refl
take_table From = refl
take_table Include = refl
take_table Manager = refl
take_table Manages = refl
take_table Namespace = refl
take_table Nullable = refl
take_table Or = refl
take_table Parent = refl
take_table Protocol = refl
take_table Returns = refl
take_table Struct = refl
take_table Sync = refl
take_table Union = refl
take_table UniquePtr = refl
take_table Using = refl

opened_take : (s : Symbol) (from to : List Token) → Takes (take s) from to → Opened (take s) from to
opened_take s from to (t, te, is) = open_as (take s) (proper s) (Some []) from to t to te is (take_table s) refl

-- What a form takes begins with a token that has a production, which takes the rest.
pub opened : (f : Form) (from to : List Token) → Takes f from to → Opened f from to
opened (take x) from to d = opened_take x from to d
opened any_word from to d = opened_any_word from to d
opened argument_name from to d = opened_argument_name from to d
opened argument_words from to d = opened_argument_words from to d
opened attributed from to d = opened_attributed from to d
opened after_attribute from to d = opened_after_attribute from to d
opened more_attributed from to d = opened_more_attributed from to d
opened one_param from to d = opened_one_param from to d
opened parameters from to d = opened_parameters from to d
opened more_parameters from to d = opened_more_parameters from to d
opened after_parameters from to d = opened_after_parameters from to d
opened one_message from to d = opened_one_message from to d
opened managing from to d = opened_managing from to d
opened more_managing from to d = opened_more_managing from to d
opened fielded from to d = opened_fielded from to d
opened componented from to d = opened_componented from to d
opened using_named from to d = opened_using_named from to d
opened using_word from to d = opened_using_word from to d
opened after_using from to d = opened_after_using from to d
opened include_named from to d = opened_include_named from to d
opened (suffixed n e) from to d = opened_suffixed n e from to d
opened (named e) from to d = named_opened e from to d
opened (based room e) from to d = opened_based room e from to d
opened (typed room e) from to d = opened_typed room e from to d
opened (messaged way) from to d = opened_messaged way from to d
