-- Every name finds nothing, one declaration, or two different ones.
use Rattle.report_existence.proofs.Lists.{text_or_not, bool_or_not}
use Rattle.std.proofs.lemmas.Bool.{cases_eq}
use Rattle.std.proofs.Common.{◌≡◌, ◌≢◌, ◌⊎◌, ◌∙◌, ℕ, Bool, true, false, List, [], ◌∷◌, ◌++◌, Any, Contains, Option, Some, None, IsSomeAnd, map, refl, sym, ap, subst, inl, inr, ⊎_elim}
use Rattle.std.proofs.lemmas.List.Elements.{Contains-append_left, Contains-append_right}
use Rattle.std.proofs.lemmas.Option.{none-some, same_Some}
use Rattle.ipdl_syntax.specs.declared.program.Entry.{Entry}
use Rattle.ipdl_syntax.specs.Grammar.{whole_name}
use Rattle.name_table.specs.declared.decl.DeclId.{DeclId}
use Rattle.name_table.specs.declared.decl.DeclId.TheVariants.{Builtin, Using, Struct, Union, Protocol, Endpoint}
use Rattle.name_table.specs.declared.decl.Found.{Found}
use Rattle.name_table.specs.declared.decl.Found.TheVariants as found
use Rattle.name_table.specs.Declares.{full_name_of}
use Rattle.name_table.specs.Finds.{Counts, Finds, FindsAsProtocol, FindsProtocol, FindsUsing, IsBefore, IsFirst, IsNameOf, IsNameOfBuiltin, NamesBuiltin, SeesNamed, endpoint_word}
use Rattle.name_table.specs.Rows.{declared_from}
use Rattle.name_table.specs.Visible.{Sees}
use Rattle.name_table.proofs.FullNames.{whole_name-inner}
use Rattle.name_table.proofs.Seeing.{sees_shown}
use Rattle.type_rules.proofs.Lists.{contains_map}
use Rattle.report_existence.specs.Laws.{IsListed}
use Rattle.report_existence.proofs.Finite.{contains_none, contains_more, contains_cases, either_or_not, both_or_not, not_or, any_or_not}
use Rattle.name_existence.specs.Laws.{NamesHaveAnswers, ProtocolNamesHaveAnswers}
use Rattle.name_existence.proofs.Decisions.{like_or_not, below_or_not, none_or_not, some_and_or_not, of_list, some_or_none}
use Rattle.name_existence.proofs.Sights.{sees_or_not, sees_declared}
use Rattle.name_existence.proofs.Texts.{builtins, is_builtin, builtin_or_not, names_type_or_not, type_or_none, name_of_or_not, inner_or_none, managed_or_none}

-- Declarations

place_or_not : (file place other there : ℕ) → ((file ≡ other) × (place ≡ there)) ⊎ ((file ≡ other) × (place ≡ there) → ⊥)
place_or_not file place other there = both_or_not (cases_eq file other) (cases_eq place there)

pub decl_or_not : (a b : DeclId) → (a ≡ b) ⊎ (a ≡ b → ⊥)
decl_or_not (Builtin a) (Builtin b) = like_or_not (ap Builtin) (λ e. cc) (builtin_or_not a b)
decl_or_not (Builtin a) _ = inr (λ e. cc)
decl_or_not (Using f i) (Using g j) = like_or_not (λ h. ap (λ n. Using n i) h.0 ∙ ap (Using g) h.1) (λ e. (cc, cc)) (place_or_not f i g j)
decl_or_not (Using f i) _ = inr (λ e. cc)
decl_or_not (Struct f i) (Struct g j) = like_or_not (λ h. ap (λ n. Struct n i) h.0 ∙ ap (Struct g) h.1) (λ e. (cc, cc)) (place_or_not f i g j)
decl_or_not (Struct f i) _ = inr (λ e. cc)
decl_or_not (Union f i) (Union g j) = like_or_not (λ h. ap (λ n. Union n i) h.0 ∙ ap (Union g) h.1) (λ e. (cc, cc)) (place_or_not f i g j)
decl_or_not (Union f i) _ = inr (λ e. cc)
decl_or_not (Protocol f) (Protocol g) = like_or_not (ap Protocol) (λ e. cc) (cases_eq f g)
decl_or_not (Protocol f) _ = inr (λ e. cc)
decl_or_not (Endpoint f a) (Endpoint g b) = like_or_not (λ h. ap (λ n. Endpoint n a) h.0 ∙ ap (Endpoint g) h.1) (λ e. (cc, cc)) (both_or_not (cases_eq f g) (bool_or_not a b))
decl_or_not (Endpoint f a) _ = inr (λ e. cc)

-- what a program declares, without names
abbrev pub decls : List Entry → List DeclId
decls program = map (λ x. x.0) (declared_from 0 program)

seen_in : (program : List Entry) (file : ℕ) (d : DeclId) (full : List ℕ) → Sees program file d full → Contains (decls program) d
seen_in program file d full s = contains_map (λ (x : DeclId × List ℕ). x.0) (declared_from 0 program) (d, full) (sees_declared program s)

-- What is seen by a name

named_or_not : (program : List Entry) (file : ℕ) (text : List ℕ) (argument : Option (List ℕ)) (d : DeclId) → SeesNamed program file text argument d ⊎ (SeesNamed program file text argument d → ⊥)
named_or_not program file text argument d = go (full_name_of program d) refl
  where
    go : (o : Option (List ℕ)) → full_name_of program d ≡ o → SeesNamed program file text argument d ⊎ (SeesNamed program file text argument d → ⊥)
    go None e = inr (λ h. none-some h.0 (sym e ∙ (sees_shown program h.1).1))
    go (Some full) e =
        like_or_not (λ h. (full, h.0, h.1))
        (λ h. let same : h.0 ≡ full = same_Some h.0 full (sym (sees_shown program h.1).1 ∙ e) in (subst (Sees program file d) same h.1, subst (IsNameOf text argument) same h.2))
        (both_or_not (sees_or_not program file d full) (name_of_or_not text argument full))

as_protocol_or_not : (program : List Entry) (file : ℕ) (text : List ℕ) (d : DeclId) → FindsAsProtocol program file text d ⊎ (FindsAsProtocol program file text d → ⊥)
as_protocol_or_not program file text (Protocol p) = named_or_not program file text None (Protocol p)
as_protocol_or_not program file text _ = inr (λ h. h)

protocol_in : (program : List Entry) (file : ℕ) (text : List ℕ) (d : DeclId) → FindsAsProtocol program file text d → Contains (decls program) d
protocol_in program file text (Protocol p) h = seen_in program file (Protocol p) h.0 h.1
protocol_in program file text _ h = absurd h

-- the protocols that a text finds are listed
pub protocols_listed : (program : List Entry) (file : ℕ) (text : List ℕ) → IsListed (FindsAsProtocol program file text)
protocols_listed program file text = of_list (FindsAsProtocol program file text) (as_protocol_or_not program file text) (decls program) (protocol_in program file text)

the_protocol : (program : List Entry) (file : ℕ) (text : List ℕ) (d : DeclId) → FindsAsProtocol program file text d → (p : ℕ) × FindsProtocol program file text p
the_protocol program file text (Protocol p) h = (p, h)
the_protocol program file text _ h = absurd h

protocol_or_none : (program : List Entry) (file : ℕ) (text : List ℕ) → ((p : ℕ) × FindsProtocol program file text p) ⊎ ((p : ℕ) × FindsProtocol program file text p → ⊥)
protocol_or_none program file text =
    ⊎_elim
    (λ (h : (d : DeclId) × FindsAsProtocol program file text d). inl (the_protocol program file text h.0 h.1))
    (λ (none : (d : DeclId) → FindsAsProtocol program file text d → ⊥). inr (λ h. none (Protocol h.0) h.1))
    (some_or_none (FindsAsProtocol program file text) (protocols_listed program file text))

-- Usings that name builtin types

abbrev NamesEndpoint : List Entry → ℕ → List ℕ → Bool → Type 0
NamesEndpoint program file full managed = (text : List ℕ) × (p : ℕ) × (full ≡ whole_name (endpoint_word managed) (Some text)) × FindsProtocol program file text p

endpoint_or_not : (program : List Entry) (file : ℕ) (full : List ℕ) (managed : Bool) → NamesEndpoint program file full managed ⊎ (NamesEndpoint program file full managed → ⊥)
endpoint_or_not program file full managed =
    ⊎_elim
    (λ (i : (inner : List ℕ) × (full ≡ whole_name (endpoint_word managed) (Some inner))).
    like_or_not (λ (h : (p : ℕ) × FindsProtocol program file i.0 p). (i.0, h.0, i.1, h.1))
    (λ (h : NamesEndpoint program file full managed).
    (h.1, subst (λ (t : List ℕ). FindsProtocol program file t h.1) (whole_name-inner (endpoint_word managed) h.0 i.0 (sym h.2 ∙ i.1)) h.3))
    (protocol_or_none program file i.0))
    (λ (none : (inner : List ℕ) → full ≡ whole_name (endpoint_word managed) (Some inner) → ⊥). inr (λ h. none h.0 h.2))
    (inner_or_none (endpoint_word managed) full)

names_builtin_or_not : (program : List Entry) (file : ℕ) (full : List ℕ) → NamesBuiltin program file full ⊎ (NamesBuiltin program file full → ⊥)
names_builtin_or_not program file full =
    either_or_not (type_or_none (λ type. IsNameOfBuiltin type full) (λ type. names_type_or_not type full))
    (either_or_not (managed_or_none (λ managed. full ≡ endpoint_word managed) (λ managed. text_or_not full (endpoint_word managed)))
    (like_or_not
    (λ (h : (managed : Bool) × NamesEndpoint program file full managed). (h.0, h.1.0, h.1.1, h.1.2, h.1.3))
    (λ h. (h.0, (h.1, h.2, h.3, h.4)))
    (managed_or_none (NamesEndpoint program file full) (endpoint_or_not program file full))))

-- The first using of a name

before_or_not : (file place other there : ℕ) → IsBefore file place other there ⊎ (IsBefore file place other there → ⊥)
before_or_not file place other there = either_or_not (below_or_not file other) (both_or_not (cases_eq file other) (below_or_not place there))

-- a using of this name that the file sees is before a place
abbrev IsEarlier : List Entry → ℕ → List ℕ → ℕ → ℕ → DeclId → Type 0
IsEarlier program file full other place (Using before there) = Sees program file (Using before there) full × IsBefore before there other place
IsEarlier program file full other place _ = ⊥

earlier_or_not : (program : List Entry) (file : ℕ) (full : List ℕ) (other place : ℕ) (d : DeclId) → IsEarlier program file full other place d ⊎ (IsEarlier program file full other place d → ⊥)
earlier_or_not program file full other place (Using before there) = both_or_not (sees_or_not program file (Using before there) full) (before_or_not before there other place)
earlier_or_not program file full other place _ = inr (λ h. h)

not_first : (program : List Entry) (file : ℕ) (full : List ℕ) (other place : ℕ) (d : DeclId) → IsEarlier program file full other place d → IsFirst program file full other place → ⊥
not_first program file full other place (Using before there) h first = first before there h.0 h.1
not_first program file full other place _ h first = h

first_or_not : (program : List Entry) (file : ℕ) (full : List ℕ) (other place : ℕ) → IsFirst program file full other place ⊎ (IsFirst program file full other place → ⊥)
first_or_not program file full other place =
    ⊎_elim
    (λ (h : Any (IsEarlier program file full other place) (decls program)). inr (not_first program file full other place h.1 h.4))
    (λ (none : Any (IsEarlier program file full other place) (decls program) → ⊥).
    inl (λ before there s late. let c = seen_in program file (Using before there) full s in none (c.0, Using before there, c.1, c.2, (s, late))))
    (any_or_not (IsEarlier program file full other place) (earlier_or_not program file full other place) (decls program))

using_or_not : (program : List Entry) (file : ℕ) (text : List ℕ) (argument : Option (List ℕ)) (other place : ℕ) → FindsUsing program file text argument other place ⊎ (FindsUsing program file text argument other place → ⊥)
using_or_not program file text argument other place = go (full_name_of program (Using other place)) refl
  where
    go : (o : Option (List ℕ)) → full_name_of program (Using other place) ≡ o → FindsUsing program file text argument other place ⊎ (FindsUsing program file text argument other place → ⊥)
    go None e = inr (λ h. none-some h.full (sym e ∙ (sees_shown program h.seen).1))
    go (Some full) e =
        like_or_not
        (λ h. record { full = full; seen = h.0; named = h.1.0; own = h.1.1.0; first = h.1.1.1 })
        (λ h.
        let same : h.full ≡ full = same_Some h.full full (sym (sees_shown program h.seen).1 ∙ e) in (
          subst (Sees program file (Using other place)) same h.seen,
          (
            subst (IsNameOf text argument) same h.named,
            (subst (λ (f : List ℕ). ¬ NamesBuiltin program file f) same h.own, subst (λ (f : List ℕ). IsFirst program file f other place) same h.first),
          ),
        ))
        (both_or_not (sees_or_not program file (Using other place) full)
        (both_or_not (name_of_or_not text argument full) (both_or_not (not_or (names_builtin_or_not program file full)) (first_or_not program file full other place))))

-- What a name finds

finds_or_not : (program : List Entry) (file : ℕ) (text : List ℕ) (argument : Option (List ℕ)) (d : DeclId) → Finds program file text argument d ⊎ (Finds program file text argument d → ⊥)
finds_or_not program file text argument (Builtin type) = both_or_not (none_or_not argument) (names_type_or_not type text)
finds_or_not program file text argument (Endpoint p managed) =
    both_or_not (text_or_not text (endpoint_word managed)) (some_and_or_not argument (λ inner. FindsProtocol program file inner p) (λ inner. named_or_not program file inner None (Protocol p)))
finds_or_not program file text argument (Using other place) = using_or_not program file text argument other place
finds_or_not program file text argument (Struct other place) = named_or_not program file text argument (Struct other place)
finds_or_not program file text argument (Union other place) = named_or_not program file text argument (Union other place)
finds_or_not program file text argument (Protocol other) = named_or_not program file text argument (Protocol other)

abbrev endpoint_of : Bool → DeclId → DeclId
endpoint_of managed (Protocol p) = Endpoint p managed
endpoint_of managed d = d

-- all that a name can find: builtin types, endpoints of what is declared, and what is declared
abbrev candidates : List Entry → List DeclId
candidates program = map Builtin builtins ++ (map (endpoint_of false) (decls program) ++ (map (endpoint_of true) (decls program) ++ decls program))

declared_candidate : (program : List Entry) (d : DeclId) → Contains (decls program) d → Contains (candidates program) d
declared_candidate program d c =
    Contains-append_right (map Builtin builtins) _ d (Contains-append_right (map (endpoint_of false) (decls program)) _ d (Contains-append_right (map (endpoint_of true) (decls program)) (decls program) d c))

endpoint_candidate : (program : List Entry) (p : ℕ) (managed : Bool) → Contains (decls program) (Protocol p) → Contains (candidates program) (Endpoint p managed)
endpoint_candidate program p false c =
    Contains-append_right (map Builtin builtins) _ (Endpoint p false) (Contains-append_left _ _ (Endpoint p false) (contains_map (endpoint_of false) (decls program) (Protocol p) c))
endpoint_candidate program p true c =
    Contains-append_right (map Builtin builtins) _ (Endpoint p true)
    (Contains-append_right (map (endpoint_of false) (decls program)) _ (Endpoint p true) (Contains-append_left _ _ (Endpoint p true) (contains_map (endpoint_of true) (decls program) (Protocol p) c)))

argument_in : (program : List Entry) (file : ℕ) (argument : Option (List ℕ)) (p : ℕ) → IsSomeAnd argument (λ inner. FindsProtocol program file inner p) → Contains (decls program) (Protocol p)
argument_in program file None p h = absurd h
argument_in program file (Some inner) p h = seen_in program file (Protocol p) h.0 h.1

is_candidate : (program : List Entry) (file : ℕ) (text : List ℕ) (argument : Option (List ℕ)) (d : DeclId) → Finds program file text argument d → Contains (candidates program) d
is_candidate program file text argument (Builtin type) h = Contains-append_left (map Builtin builtins) _ (Builtin type) (contains_map Builtin builtins type (is_builtin type))
is_candidate program file text argument (Endpoint p managed) h = endpoint_candidate program p managed (argument_in program file argument p h.1)
is_candidate program file text argument (Using other place) h = declared_candidate program (Using other place) (seen_in program file (Using other place) h.full h.seen)
is_candidate program file text argument (Struct other place) h = declared_candidate program (Struct other place) (seen_in program file (Struct other place) h.0 h.1)
is_candidate program file text argument (Union other place) h = declared_candidate program (Union other place) (seen_in program file (Union other place) h.0 h.1)
is_candidate program file text argument (Protocol other) h = declared_candidate program (Protocol other) (seen_in program file (Protocol other) h.0 h.1)

-- How many there are

counted : (P : DeclId → Type 0) → IsListed P → (finds : Found) × Counts P finds
counted P ([], exact) = (found.None, λ d h. contains_none d ((exact d).1 h))
counted P (d ∷ ds, exact) =
    ⊎_elim
    (λ (other : Any (λ e. d ≢ e) ds). (found.Many d other.1, ((exact d).0 here, (exact other.1).0 (contains_more d ds other.1 (inr (other.0, other.2, other.3))), other.4)))
    (λ (none : Any (λ e. d ≢ e) ds → ⊥). (found.One d, ((exact d).0 here, λ e h. only none e ((exact e).1 h))))
    (any_or_not (λ e. d ≢ e) (λ e. not_or (decl_or_not d e)) ds)
  where
    here : Contains (d ∷ ds) d
    here = contains_more d ds d (inl refl)

    only : (Any (λ e. d ≢ e) ds → ⊥) → (e : DeclId) → Contains (d ∷ ds) e → e ≡ d
    only none e c =
        ⊎_elim
        (λ (same : d ≡ e). sym same)
        (λ (more : Contains ds e). ⊎_elim (λ (same : d ≡ e). sym same) (λ (differs : d ≡ e → ⊥). absurd (none (more.0, e, more.1, more.2, differs))) (decl_or_not d e))
        (contains_cases d ds e c)

pub names_have_answers : NamesHaveAnswers
names_have_answers program file text argument =
    counted (Finds program file text argument) (of_list (Finds program file text argument) (finds_or_not program file text argument) (candidates program) (is_candidate program file text argument))

pub protocol_names_have_answers : ProtocolNamesHaveAnswers
protocol_names_have_answers program file text = counted (FindsAsProtocol program file text) (protocols_listed program file text)
