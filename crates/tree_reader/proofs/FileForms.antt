-- How a draft of a file grows.
use Rattle.std.proofs.Common.{◌≡◌, ◌≢◌, ℕ, zero, suc, ◌+◌, ◌-◌, ◌≤◌, ◌<◌, ◌⊎◌, inl, inr, Bool, true, false, cond, List, [], ◌∷◌, ◌++◌, length, Option, Some, None, codes, refl, sym, ap, subst, ◌∙◌, arith, length-append, add-one}
use Rattle.std.specs.Prelude.{nat_lt, ◌==◌}
use Rattle.std.specs.declared.vec.Vec.{Vec}
use Rattle.std.specs.declared.alloc.Global.{Global}
use Rattle.std.proofs.lemmas.Bool.{lt-ltb}
use Rattle.std.proofs.lemmas.Bool.Decides.{nat_tests}
use Rattle.std.proofs.lemmas.List.{append-nil}
use Rattle.ipdl_base.specs.declared.kinds.Semantics.{Semantics}
use Rattle.ipdl_base.specs.declared.kinds.Semantics.TheVariants as semantics
use Rattle.ipdl_base.specs.declared.token.Token.{Token}
use Rattle.ipdl_syntax.specs.declared.tree.Attribute.{Attribute}
use Rattle.ipdl_syntax.specs.declared.tree.FileKind.{FileKind}
use Rattle.ipdl_syntax.specs.declared.tree.FileKind.TheVariants as file
use Rattle.ipdl_syntax.specs.declared.tree.Include.{Include as IncludeDecl}
use Rattle.ipdl_syntax.specs.declared.tree.ProtocolDecl.{ProtocolDecl}
use Rattle.ipdl_syntax.specs.declared.tree.StructDecl.{StructDecl}
use Rattle.ipdl_syntax.specs.declared.tree.UnionDecl.{UnionDecl}
use Rattle.ipdl_syntax.specs.declared.tree.Unit.{Unit as FileUnit}
use Rattle.ipdl_syntax.specs.declared.tree.Using.{Using as UsingDecl}
use Rattle.ipdl_syntax.specs.Parts.{◌⨾◌, mark, word}
use Rattle.ipdl_syntax.specs.Grammar.{attributes, declared, fields, components, included, struct_decl, union_decl, using_decl, protocol, protocol_semantics}
use Rattle.ipdl_syntax.specs.Program.{Tree, Declarations, ◌&◌, no_declaration, an_include, a_using, a_struct, a_union, declared_outside, declared_round, unit_of}
use Rattle.ipdl_syntax.proofs.Declarations.{and_assoc, and_none}
use Rattle.tree_reader.specs.declared.file.Draft.{Draft}
use Rattle.tree_reader.specs.declared.refusal.TreeRefusal.{TreeRefusal}
use Rattle.tree_reader.specs.declared.refusal.TreeRefusal.TheVariants.{Left, NoMemory}
use Rattle.tree_reader.specs.declared.symbol.Symbol.{Symbol}
use Rattle.tree_reader.specs.declared.symbol.Symbol.TheVariants as symbols
use Rattle.tree_reader.specs.Symbols.{first_symbol}
use Rattle.tree_reader.specs.Ending as ending
use Rattle.tree_reader.specs.Machine.{Form, take, typed, attributed, managing, fielded, componented, using_named, include_named, production, FileState, stand, step, stepped, unheaded_step, bare_step, is_end, begin, gone_at, gone_in, refusal}
use Rattle.tree_reader.specs.Reading.{Turns, Stops, IsNext, closed, IsBracketed, IsStructAfter, IsUnionAfter, IsUsingAfter, IsProtocolAfter}
use Rattle.tree_reader.specs.Spelling.{spelled}
use Rattle.tree_reader.specs.Files.{FileStops, scope_of, room_of, Makes, may_come, begins_protocol, declared_of, IsDraft, IsHeadedDraft, IsProtocolDraft}
use Rattle.tree_reader.proofs.Rests.{Prepends, struct_before, union_before, using_before, include_before, Opens, opened_closed, opened_open, end_closed, end_open, protocol_before, nothing_left, scope_length, room_left, none_open}
use Rattle.tree_reader.proofs.Symbols.{means}
use Rattle.tree_reader.proofs.Turns.{is_spelled}

-- The machine between two declarations

-- the step of the machine at the first word of a declaration
pub stood : (at to_at : FileState) (s : Symbol) (forms : List Form) (from to : List Token) → IsNext s from to → step at s ≡ Some (forms, to_at) → refusal [] at from ≡ refusal forms to_at to
unfolding refusal
stood at to_at s forms from to (t, here, is) e =
    ap (λ (x : List Token). refusal [] at x) here
    ∙ ap (λ (o : Option (List Form × FileState)). gone_at o (length to + 1) (λ fs x. refusal fs x to)) (ap (λ (x : Symbol). step at x) is ∙ e)

-- forms read to their end
pub went : (forms : List Form) (at : FileState) (from to : List Token) → Turns forms from [] to → refusal forms at from ≡ refusal [] at to
went forms at from to turn = ap (λ (x : List Form). refusal x at from) (sym (append-nil forms)) ∙ turn [] at

-- a refusal of forms is that of the file
pub stopped : (kind : FileKind) (tokens : List Token) (forms : List Form) (at : FileState) (from : List Token) (e : TreeRefusal) → refusal [] (begin kind) tokens ≡ refusal forms at from → Stops forms from e → FileStops kind tokens e
stopped kind tokens forms at from (Left n) goes stop = goes ∙ ap (λ (x : List Form). refusal x at from) (sym (append-nil forms)) ∙ stop [] at
stopped kind tokens forms at from NoMemory goes stop = tt

-- the end is refused where no file may end
end_refused : (b : Bool) → (b ≡ true → ⊥) → cond {A = Option ℕ} b None (Some 0) ≡ Some 0
end_refused true no_end = absurd (no_end refl)
end_refused false no_end = refl

-- a refusal where no declaration begins
pub refused_at : (at : FileState) (from : List Token) → step at (first_symbol from) ≡ None → (is_end [] at ≡ true → first_symbol from ≢ symbols.End) → refusal [] at from ≡ Some (length from)
unfolding refusal
refused_at at [] e more = end_refused (is_end [] at) (λ h. more h refl)
refused_at at (t ∷ rest) e more = ap (λ (o : Option (List Form × FileState)). gone_at o (length rest + 1) (λ fs x. refusal fs x rest)) e ∙ ap (λ (n : ℕ). Some n) (omega arith)

-- What a draft makes together with the tokens that are left

-- after declarations are read, what is left makes the same tree
makes_more : (kind : FileKind) (tokens : List Token) (may : Bool) (path : List (List ℕ)) (so_far d : Declarations) (held : Option ProtocolDecl) (from to : List Token) → Prepends path d from to → Makes kind tokens may path so_far held from → Makes kind tokens may path (so_far & d) held to
makes_more kind tokens true path so_far d held from to one makes = λ rest p r.
    subst (λ (x : Declarations). Tree kind tokens (unit_of x (Some p))) (sym (and_assoc so_far d rest)) (makes (d & rest) p (one.when_open rest p r))
makes_more kind tokens false path so_far d held from to one makes = λ rest r.
    subst (λ (x : Declarations). Tree kind tokens (unit_of x held)) (sym (and_assoc so_far d rest)) (makes (d & rest) (one.when_closed rest r))

-- the same in a namespace that is opened
makes_inner : (kind : FileKind) (tokens : List Token) (may : Bool) (path : List (List ℕ)) (so_far : Declarations) (held : Option ProtocolDecl) (name : List ℕ) (from inner : List Token) → 0 < room_of path → Opens name from inner → Makes kind tokens may path so_far held from → Makes kind tokens may (name ∷ path) so_far held inner
makes_inner kind tokens true path so_far held name from inner room o makes = λ rest p r. makes rest p (opened_open path name from inner room o rest p r)
makes_inner kind tokens false path so_far held name from inner room o makes = λ rest r. makes rest (opened_closed path name from inner room o rest r)

-- the same after a namespace that is closed
makes_outer : (kind : FileKind) (tokens : List Token) (may : Bool) (path : List (List ℕ)) (so_far : Declarations) (held : Option ProtocolDecl) (name : List ℕ) (from to : List Token) → mark (codes "}") from to → Makes kind tokens may (name ∷ path) so_far held from → Makes kind tokens may path so_far held to
makes_outer kind tokens true path so_far held name from to m makes = λ rest p r. makes rest p (end_open path name from to m rest p r)
makes_outer kind tokens false path so_far held name from to m makes = λ rest r. makes rest (end_closed path name from to m rest r)

-- a file before anything was read
begins_empty : (kind : FileKind) (tokens : List Token) → Makes kind tokens (may_come kind None) [] no_declaration None tokens
begins_empty file.Header tokens = λ rest (x, e, d). (x, d, ap (λ (r : Declarations). unit_of r None) e)
begins_empty file.Protocol tokens = λ rest p (x, one, y, e, q, d). (x, one, y, d, ap (λ (r : Declarations). unit_of r (Some p)) e ∙ ap (λ (r : ProtocolDecl). unit_of (declared_outside x & declared_round one & declared_outside y) (Some r)) q)

-- the machine begins where a draft does
begin_is : (kind : FileKind) → begin kind ≡ stand (may_come kind None) 0 false
begin_is file.Header = refl
begin_is file.Protocol = refl

-- the draft before anything was read
pub nothing_read : (kind : FileKind) (tokens : List Token) (draft : Draft) → draft.includes.items ≡ [] → draft.usings.items ≡ [] → draft.structs.items ≡ [] → draft.unions.items ≡ [] → draft.protocol ≡ None → draft.scope.items ≡ [] → IsDraft kind tokens draft tokens
nothing_read kind tokens draft includes usings structs unions held scope = record {
  path = [];
  scope = scope;
  makes =
      let none : no_declaration ≡ declared_of draft = λ i. record { includes = sym includes i; usings = sym usings i; structs = sym structs i; unions = sym unions i } in
      subst (λ (x : Declarations). Makes kind tokens (may_come kind draft.protocol) [] x draft.protocol tokens) none
      (subst (λ (h : Option ProtocolDecl). Makes kind tokens (may_come kind h) [] no_declaration h tokens) (sym held) (begins_empty kind tokens));
  goes = ap (λ (x : FileState). refusal [] x tokens) (begin_is kind) ∙ ap (λ (h : Option ProtocolDecl). refusal [] (stand (may_come kind h) 0 false) tokens) (sym held);
}

-- The first word of a declaration

-- the state of the machine between two declarations of a draft
abbrev between : FileKind → Draft → List (List ℕ) → Bool → FileState
between kind draft path headed = stand (may_come kind draft.protocol) (length path) headed

-- a refusal after that word is the file's
first_stopped : (kind : FileKind) (tokens : List Token) (at to_at : FileState) (s : Symbol) (forms : List Form) (from following : List Token) (e : TreeRefusal) → refusal [] (begin kind) tokens ≡ refusal [] at from → IsNext s from following → step at s ≡ Some (forms, to_at) → Stops forms following e → FileStops kind tokens e
first_stopped kind tokens at to_at s forms from following e goes next is stop = stopped kind tokens forms to_at following e (goes ∙ stood at to_at s forms from following next is) stop

-- the state of the machine after the declaration
first_went : (kind : FileKind) (tokens : List Token) (at to_at : FileState) (s : Symbol) (forms : List Form) (from following to : List Token) → refusal [] (begin kind) tokens ≡ refusal [] at from → IsNext s from following → step at s ≡ Some (forms, to_at) → Turns forms following [] to → refusal [] (begin kind) tokens ≡ refusal [] to_at to
first_went kind tokens at to_at s forms from following to goes next is turn = goes ∙ stood at to_at s forms from following next is ∙ went forms to_at following to turn

-- a draft with more declarations
grows : (kind : FileKind) (tokens : List Token) (draft grown : Draft) (d : Declarations) (path : List (List ℕ)) (before to : List Token) → grown.protocol ≡ draft.protocol → grown.scope.items ≡ scope_of path → declared_of grown ≡ (declared_of draft & d) → Prepends path d before to → Makes kind tokens (may_come kind draft.protocol) path (declared_of draft) draft.protocol before → refusal [] (begin kind) tokens ≡ refusal [] (between kind draft path false) to → IsDraft kind tokens grown to
grows kind tokens draft grown d path before to held scope more one makes goes = record {
  path = path;
  scope = scope;
  makes = subst (λ (p : Option ProtocolDecl). Makes kind tokens (may_come kind p) path (declared_of grown) p to) (sym held)
      (subst (λ (x : Declarations). Makes kind tokens (may_come kind draft.protocol) path x draft.protocol to) (sym more)
      (makes_more kind tokens (may_come kind draft.protocol) path (declared_of draft) d draft.protocol before to one makes));
  goes = goes ∙ ap (λ (p : Option ProtocolDecl). refusal [] (stand (may_come kind p) (length path) false) to) (sym held);
}

-- Structs

-- what follows the word `struct`
abbrev struct_forms : List Form
struct_forms = take symbols.Word ∷ take symbols.OpenBrace ∷ fielded ∷ []

-- one more struct
with_struct : (d : Declarations) (s : StructDecl) (items : List StructDecl) → items ≡ d.structs ++ s ∷ [] → record d { structs = items } ≡ (d & a_struct s)
with_struct d s items e = λ i. record {
  includes = sym (append-nil d.includes) i;
  usings = sym (append-nil d.usings) i;
  structs = e i;
  unions = sym (append-nil d.unions) i;
}

-- a struct may come anywhere
struct_step : (may : Bool) (depth : ℕ) (headed : Bool) → step (stand may depth headed) symbols.Struct ≡ Some (struct_forms, stand may depth false)
unfolding step
struct_step may depth headed = refl

-- a refusal in a struct
pub struct_stopped : (kind : FileKind) (tokens : List Token) (list : List Attribute) (draft : Draft) (from following : List Token) (e : TreeRefusal) → IsNext symbols.Struct from following → Stops struct_forms following e → IsHeadedDraft kind tokens list draft from → FileStops kind tokens e
struct_stopped kind tokens list draft from following e next stop h =
    first_stopped kind tokens (between kind draft h.path h.headed) (between kind draft h.path false) symbols.Struct struct_forms from following e h.goes next
    (struct_step (may_come kind draft.protocol) (length h.path) h.headed) stop

-- the attributes, the word and what follows it are a struct
struct_whole : (path : List (List ℕ)) (scope : List (List ℕ)) (list : List Attribute) (s : StructDecl) (before from following to : List Token) → scope ≡ scope_of path → attributes list before from → IsNext symbols.Struct from following → IsStructAfter scope list s following to → struct_decl (scope_of path) s before to
struct_whole path scope list s before from following to same head next (att, read) =
    let first = subst (λ (x : List Attribute). attributes x before from) (sym att) head in
    let last = subst (λ (x : List (List ℕ)). (declared x s.full s.place ⨾ mark (codes "{") ⨾ fields s.fields ⨾ closed) following to) same read in
    (from, first, (following, is_spelled symbols.Struct from following next, last))

-- a draft with one more struct
pub struct_added : (kind : FileKind) (tokens : List Token) (list : List Attribute) (draft : Draft) (from following to : List Token) (s : StructDecl) (pushed : Vec StructDecl Global) (scope : List (List ℕ)) → scope ≡ draft.scope.items → pushed.items ≡ draft.structs.items ++ s ∷ [] → IsNext symbols.Struct from following → IsStructAfter scope list s following to → Turns struct_forms following [] to → IsHeadedDraft kind tokens list draft from → IsDraft kind tokens (record draft { structs = pushed }) to
struct_added kind tokens list draft from following to s pushed scope same grown next read turn h =
    grows kind tokens draft (record draft { structs = pushed }) (a_struct s) h.path h.before to refl h.scope (with_struct (declared_of draft) s pushed.items grown)
    (struct_before h.path s h.before to (struct_whole h.path scope list s h.before from following to (same ∙ h.scope) h.head next read)) h.makes
    (first_went kind tokens (between kind draft h.path h.headed) (between kind draft h.path false) symbols.Struct struct_forms from following to h.goes next
    (struct_step (may_come kind draft.protocol) (length h.path) h.headed) turn)

-- Unions

-- what follows the word `union`
abbrev union_forms : List Form
union_forms = take symbols.Word ∷ take symbols.OpenBrace ∷ typed 4 ending.Semicolon ∷ componented ∷ []

-- one more union
with_union : (d : Declarations) (u : UnionDecl) (items : List UnionDecl) → items ≡ d.unions ++ u ∷ [] → record d { unions = items } ≡ (d & a_union u)
with_union d u items e = λ i. record {
  includes = sym (append-nil d.includes) i;
  usings = sym (append-nil d.usings) i;
  structs = sym (append-nil d.structs) i;
  unions = e i;
}

-- a union may come anywhere
union_step : (may : Bool) (depth : ℕ) (headed : Bool) → step (stand may depth headed) symbols.Union ≡ Some (union_forms, stand may depth false)
unfolding step
union_step may depth headed = refl

-- a refusal in a union
pub union_stopped : (kind : FileKind) (tokens : List Token) (list : List Attribute) (draft : Draft) (from following : List Token) (e : TreeRefusal) → IsNext symbols.Union from following → Stops union_forms following e → IsHeadedDraft kind tokens list draft from → FileStops kind tokens e
union_stopped kind tokens list draft from following e next stop h =
    first_stopped kind tokens (between kind draft h.path h.headed) (between kind draft h.path false) symbols.Union union_forms from following e h.goes next
    (union_step (may_come kind draft.protocol) (length h.path) h.headed) stop

-- the attributes, the word and what follows it are a union
union_whole : (path : List (List ℕ)) (scope : List (List ℕ)) (list : List Attribute) (u : UnionDecl) (before from following to : List Token) → scope ≡ scope_of path → attributes list before from → IsNext symbols.Union from following → IsUnionAfter scope list u following to → union_decl (scope_of path) u before to
union_whole path scope list u before from following to same head next (att, (some, read)) =
    let first = subst (λ (x : List Attribute). attributes x before from) (sym att) head in
    let last = subst (λ (x : List (List ℕ)). (declared x u.full u.place ⨾ mark (codes "{") ⨾ components u.components ⨾ closed) following to) same read in
    (some, (from, first, (following, is_spelled symbols.Union from following next, last)))

-- a draft with one more union
pub union_added : (kind : FileKind) (tokens : List Token) (list : List Attribute) (draft : Draft) (from following to : List Token) (u : UnionDecl) (pushed : Vec UnionDecl Global) (scope : List (List ℕ)) → scope ≡ draft.scope.items → pushed.items ≡ draft.unions.items ++ u ∷ [] → IsNext symbols.Union from following → IsUnionAfter scope list u following to → Turns union_forms following [] to → IsHeadedDraft kind tokens list draft from → IsDraft kind tokens (record draft { unions = pushed }) to
union_added kind tokens list draft from following to u pushed scope same grown next read turn h =
    grows kind tokens draft (record draft { unions = pushed }) (a_union u) h.path h.before to refl h.scope (with_union (declared_of draft) u pushed.items grown)
    (union_before h.path u h.before to (union_whole h.path scope list u h.before from following to (same ∙ h.scope) h.head next read)) h.makes
    (first_went kind tokens (between kind draft h.path h.headed) (between kind draft h.path false) symbols.Union union_forms from following to h.goes next
    (union_step (may_come kind draft.protocol) (length h.path) h.headed) turn)

-- Usings

-- one more using
with_using : (d : Declarations) (u : UsingDecl) (items : List UsingDecl) → items ≡ d.usings ++ u ∷ [] → record d { usings = items } ≡ (d & a_using u)
with_using d u items e = λ i. record {
  includes = sym (append-nil d.includes) i;
  usings = e i;
  structs = sym (append-nil d.structs) i;
  unions = sym (append-nil d.unions) i;
}

-- a using may come where no namespace is open
using_step : (may : Bool) (path : List (List ℕ)) (headed : Bool) → path ≡ [] → step (stand may (length path) headed) symbols.Using ≡ Some (using_named ∷ [], stand may (length path) false)
unfolding step
using_step may [] headed e = refl
using_step may (name ∷ outer) headed e = absurd (cc)

-- a refusal in a using
pub using_stopped : (kind : FileKind) (tokens : List Token) (list : List Attribute) (draft : Draft) (from following : List Token) (e : TreeRefusal) → length draft.scope.items ≡ 0 → IsNext symbols.Using from following → Stops (using_named ∷ []) following e → IsHeadedDraft kind tokens list draft from → FileStops kind tokens e
using_stopped kind tokens list draft from following e out next stop h =
    first_stopped kind tokens (between kind draft h.path h.headed) (between kind draft h.path false) symbols.Using (using_named ∷ []) from following e h.goes next
    (using_step (may_come kind draft.protocol) h.path h.headed (none_open h.path draft.scope.items h.scope out)) stop

-- the attributes, the word and what follows it are a using
using_whole : (list : List Attribute) (u : UsingDecl) (before from following to : List Token) → attributes list before from → IsNext symbols.Using from following → IsUsingAfter list u following to → using_decl u before to
using_whole list u before from following to head next (att, read) =
    (from, subst (λ (x : List Attribute). attributes x before from) (sym att) head, (following, is_spelled symbols.Using from following next, read))

-- a draft with one more using
pub using_added : (kind : FileKind) (tokens : List Token) (list : List Attribute) (draft : Draft) (from following to : List Token) (u : UsingDecl) (pushed : Vec UsingDecl Global) → length draft.scope.items ≡ 0 → pushed.items ≡ draft.usings.items ++ u ∷ [] → IsNext symbols.Using from following → IsUsingAfter list u following to → Turns (using_named ∷ []) following [] to → IsHeadedDraft kind tokens list draft from → IsDraft kind tokens (record draft { usings = pushed }) to
using_added kind tokens list draft from following to u pushed out grown next read turn h =
    let top = none_open h.path draft.scope.items h.scope out in
    grows kind tokens draft (record draft { usings = pushed }) (a_using u) h.path h.before to refl h.scope (with_using (declared_of draft) u pushed.items grown)
    (subst (λ (x : List (List ℕ)). Prepends x (a_using u) h.before to) (sym top) (using_before u h.before to (using_whole list u h.before from following to h.head next read))) h.makes
    (first_went kind tokens (between kind draft h.path h.headed) (between kind draft h.path false) symbols.Using (using_named ∷ []) from following to h.goes next (using_step (may_come kind draft.protocol) h.path h.headed top) turn)

-- Includes

-- one more include
with_include : (d : Declarations) (x : IncludeDecl) (items : List IncludeDecl) → items ≡ d.includes ++ x ∷ [] → record d { includes = items } ≡ (d & an_include x)
with_include d x items e = λ i. record {
  includes = e i;
  usings = sym (append-nil d.usings) i;
  structs = sym (append-nil d.structs) i;
  unions = sym (append-nil d.unions) i;
}

-- an include may come if no namespace is open and no attributes came before
include_step : (may : Bool) (path : List (List ℕ)) → path ≡ [] → step (stand may (length path) false) symbols.Include ≡ Some (include_named ∷ [], stand may (length path) false)
unfolding step
include_step may [] e = refl
include_step may (name ∷ outer) e = absurd (cc)

-- a refusal in an include
pub include_stopped : (kind : FileKind) (tokens : List Token) (draft : Draft) (from following : List Token) (e : TreeRefusal) → length draft.scope.items ≡ 0 → IsNext symbols.Include from following → Stops (include_named ∷ []) following e → IsDraft kind tokens draft from → FileStops kind tokens e
include_stopped kind tokens draft from following e out next stop h =
    first_stopped kind tokens (between kind draft h.path false) (between kind draft h.path false) symbols.Include (include_named ∷ []) from following e h.goes next
    (include_step (may_come kind draft.protocol) h.path (none_open h.path draft.scope.items h.scope out)) stop

-- a draft with an include more
pub include_added : (kind : FileKind) (tokens : List Token) (draft : Draft) (from following to : List Token) (x : IncludeDecl) (pushed : Vec IncludeDecl Global) → length draft.scope.items ≡ 0 → pushed.items ≡ draft.includes.items ++ x ∷ [] → IsNext symbols.Include from following → (included x.kind x.name x.place ⨾ mark (codes ";")) following to → Turns (include_named ∷ []) following [] to → IsDraft kind tokens draft from → IsDraft kind tokens (record draft { includes = pushed }) to
include_added kind tokens draft from following to x pushed out grown next read turn h =
    let top = none_open h.path draft.scope.items h.scope out in
    grows kind tokens draft (record draft { includes = pushed }) (an_include x) h.path from to refl h.scope (with_include (declared_of draft) x pushed.items grown)
    (subst (λ (p : List (List ℕ)). Prepends p (an_include x) from to) (sym top) (include_before x from to (following, is_spelled symbols.Include from following next, read))) h.makes
    (first_went kind tokens (between kind draft h.path false) (between kind draft h.path false) symbols.Include (include_named ∷ []) from following to h.goes next (include_step (may_come kind draft.protocol) h.path top) turn)

-- Namespaces

-- a number that is not 0
not_zero : (depth : ℕ) → depth ≢ 0 → (depth == 0) ≡ false
not_zero depth h = grind (arith, nat_tests)

-- the machine on these forms, with this number of namespaces open
abbrev reached : List Form → Bool → ℕ → Option (List Form × FileState)
reached forms may depth = Some (forms, stand may depth false)

-- what follows the word `namespace`
abbrev open_forms : List Form
open_forms = take symbols.Word ∷ take symbols.OpenBrace ∷ []

-- a namespace may be opened where fewer than 16 are open
open_step : (may : Bool) (depth : ℕ) → depth < 16 → step (stand may depth false) symbols.Namespace ≡ Some (open_forms, stand may (suc depth) false)
unfolding step
open_step may depth lt =
    ap (λ (b : Bool). stepped b open_forms (stand may (depth + 1) false)) (lt-ltb depth 16 lt)
    ∙ ap (λ (n : ℕ). reached open_forms may n) (add-one depth)

-- the number of open namespaces is that of these names
open_room : (path : List (List ℕ)) (names : List (List ℕ)) → names ≡ scope_of path → length names < 16 → length path < 16
open_room path names e lt = omega (arith, ap (λ (x : List (List ℕ)). length x) e, scope_length path)

-- a refusal in the beginning of a namespace
pub open_stopped : (kind : FileKind) (tokens : List Token) (draft : Draft) (from following : List Token) (e : TreeRefusal) → length draft.scope.items < 16 → IsNext symbols.Namespace from following → Stops open_forms following e → IsDraft kind tokens draft from → FileStops kind tokens e
open_stopped kind tokens draft from following e room next stop h =
    first_stopped kind tokens (between kind draft h.path false) (stand (may_come kind draft.protocol) (suc (length h.path)) false) symbols.Namespace open_forms from following e h.goes next
    (open_step (may_come kind draft.protocol) (length h.path) (open_room h.path draft.scope.items h.scope room)) stop

-- a draft with one more open namespace
pub namespace_opened : (kind : FileKind) (tokens : List Token) (draft : Draft) (from following to : List Token) (name : List ℕ) (pushed : Vec (List ℕ) Global) → length draft.scope.items < 16 → pushed.items ≡ draft.scope.items ++ name ∷ [] → IsNext symbols.Namespace from following → (word name ⨾ mark (codes "{")) following to → Turns open_forms following [] to → IsDraft kind tokens draft from → IsDraft kind tokens (record draft { scope = pushed }) to
namespace_opened kind tokens draft from following to name pushed room grown next read turn h =
    let few = open_room h.path draft.scope.items h.scope room in
    let some : 0 < room_of h.path = omega (arith, room_left h.path) in
    record {
      path = name ∷ h.path;
      scope = grown ∙ ap (λ (x : List (List ℕ)). x ++ name ∷ []) h.scope;
      makes = makes_inner kind tokens (may_come kind draft.protocol) h.path (declared_of draft) draft.protocol name from to some (following, is_spelled symbols.Namespace from following next, read) h.makes;
      goes = first_went kind tokens (between kind draft h.path false) (stand (may_come kind draft.protocol) (suc (length h.path)) false) symbols.Namespace open_forms from following to h.goes next
          (open_step (may_come kind draft.protocol) (length h.path) few) turn;
    }

-- one namespace fewer is open
one_less : (depth : ℕ) → suc depth - 1 ≡ depth
one_less depth = omega arith

-- a namespace may be closed if one is open
close_step : (may : Bool) (depth : ℕ) → step (stand may (suc depth) false) symbols.CloseBrace ≡ Some ([], stand may depth false)
unfolding step
close_step may depth =
    ap (λ (b : Bool). stepped b [] (stand may (suc depth - 1) false)) (lt-ltb 0 (suc depth) (omega arith))
    ∙ ap (λ (n : ℕ). reached [] may n) (one_less depth)

-- what is left of the names after the last
popped_scope : (left last names : List (List ℕ)) (name : List ℕ) → length last ≡ 1 → left ++ last ≡ names ++ name ∷ [] → left ≡ names
popped_scope left [] names name single e = absurd (omega (arith, single))
popped_scope left (x ∷ y ∷ more) names name single e = absurd (omega (arith, single))
popped_scope [] (x ∷ []) [] name single e = refl
popped_scope [] (x ∷ []) (n ∷ names) name single e = absurd (omega (arith, ap (λ (z : List (List ℕ)). length z) e, length-append names (name ∷ [])))
popped_scope (l ∷ left) (x ∷ []) [] name single e = absurd (omega (arith, ap (λ (z : List (List ℕ)). length z) e, length-append left (x ∷ [])))
popped_scope (l ∷ left) (x ∷ []) (n ∷ names) name single e =
    let one : l ≡ n = cc in
    let rest : left ++ x ∷ [] ≡ names ++ name ∷ [] = cc in
    let more = popped_scope left (x ∷ []) names name single rest in
    cc

-- the innermost namespace is closed
module _ (kind : FileKind) (tokens : List Token) (draft : Draft) (from to : List Token) (popped : Vec (List ℕ) Global) (last : List (List ℕ)) where
  closed_at : (path : List (List ℕ)) → 0 < length draft.scope.items → draft.scope.items ≡ popped.items ++ last → length last ≡ 1 → IsNext symbols.CloseBrace from to → draft.scope.items ≡ scope_of path → Makes kind tokens (may_come kind draft.protocol) path (declared_of draft) draft.protocol from →
      refusal [] (begin kind) tokens ≡ refusal [] (stand (may_come kind draft.protocol) (length path) false) from → IsDraft kind tokens (record draft { scope = popped }) to
  closed_at [] some split single next scope makes goes = absurd (omega (arith, ap (λ (x : List (List ℕ)). length x) scope))
  closed_at (name ∷ outer) some split single next scope makes goes = record {
    path = outer;
    scope = popped_scope popped.items last (scope_of outer) name single (sym split ∙ scope);
    makes = makes_outer kind tokens (may_come kind draft.protocol) outer (declared_of draft) draft.protocol name from to (is_spelled symbols.CloseBrace from to next) makes;
    goes = goes ∙ stood (stand (may_come kind draft.protocol) (suc (length outer)) false) (stand (may_come kind draft.protocol) (length outer) false) symbols.CloseBrace [] from to next (close_step (may_come kind draft.protocol) (length outer));
  }

-- a draft with the innermost namespace closed
pub namespace_closed : (kind : FileKind) (tokens : List Token) (draft : Draft) (from to : List Token) (popped : Vec (List ℕ) Global) (last : List (List ℕ)) → 0 < length draft.scope.items → draft.scope.items ≡ popped.items ++ last → length last ≡ 1 → IsNext symbols.CloseBrace from to → IsDraft kind tokens draft from → IsDraft kind tokens (record draft { scope = popped }) to
namespace_closed kind tokens draft from to popped last some split single next h = closed_at kind tokens draft from to popped last h.path some split single next h.scope h.makes h.goes

-- The protocol

-- what follows the word `protocol`
abbrev protocol_forms : List Form
protocol_forms = take symbols.Word ∷ take symbols.OpenBrace ∷ managing ∷ []

-- a word that gives the semantics may come where the protocol may
worded_step : (s : Symbol) (may : Bool) (depth : ℕ) (headed : Bool) → (s ≡ symbols.Async) ⊎ (s ≡ symbols.Sync) → may ≡ true → step (stand may depth headed) s ≡ Some (take symbols.Protocol ∷ protocol_forms, stand false depth false)
unfolding step
worded_step symbols.Async true depth headed w m = refl
worded_step symbols.Sync true depth headed w m = refl
worded_step s false depth headed w m = absurd (cc)
worded_step _ true depth headed (inl e) m = absurd (cc)
worded_step _ true depth headed (inr e) m = absurd (cc)

-- where the protocol may come, there is no protocol so far
makes_true : (kind : FileKind) (tokens : List Token) (may : Bool) (path : List (List ℕ)) (so_far : Declarations) (held : Option ProtocolDecl) (from : List Token) → may ≡ true → Makes kind tokens may path so_far held from → Makes kind tokens true path so_far None from
makes_true kind tokens true path so_far held from e makes = makes
makes_true kind tokens false path so_far held from e makes = absurd (cc)

-- a word that gives the semantics, and the protocol after it
pub word_read : (kind : FileKind) (tokens : List Token) (list : List Attribute) (draft : Draft) (from to : List Token) (s : Symbol) (how : Semantics) → (s ≡ symbols.Async) ⊎ (s ≡ symbols.Sync) → protocol_semantics how from to → IsNext s from to → may_come kind draft.protocol ≡ true → IsHeadedDraft kind tokens list draft from → IsProtocolDraft kind tokens list how draft to
word_read kind tokens list draft from to s how which word next may h = record {
  path = h.path;
  scope = h.scope;
  before = h.before;
  middle = from;
  head = h.head;
  word = word;
  may = may;
  makes = makes_true kind tokens (may_come kind draft.protocol) h.path (declared_of draft) draft.protocol h.before may h.makes;
  goes = h.goes ∙ stood (stand (may_come kind draft.protocol) (length h.path) h.headed) (stand false (length h.path) false) s (take symbols.Protocol ∷ protocol_forms) from to next (worded_step s (may_come kind draft.protocol) (length h.path) h.headed which may);
}

-- no word, and the protocol
bare_protocol : (may : Bool) (depth : ℕ) (headed : Bool) (from : List Token) → may ≡ true → first_symbol from ≡ symbols.Protocol → refusal [] (stand may depth headed) from ≡ refusal (take symbols.Protocol ∷ protocol_forms) (stand false depth false) from
unfolding refusal step production
bare_protocol may depth headed [] m e = absurd (cc)
bare_protocol false depth headed (t ∷ rest) m e = absurd (cc)
bare_protocol true depth headed (t ∷ rest) m e =
    ap (λ (x : Symbol). gone_at (step (stand true depth headed) x) (length rest + 1) (λ fs y. refusal fs y rest)) e
    ∙ sym (ap (λ (x : Symbol). gone_in (production (take symbols.Protocol) x) (length rest + 1) (λ new. refusal (new ++ protocol_forms) (stand false depth false) rest)) e)

-- the protocol with no such word
pub no_word_read : (kind : FileKind) (tokens : List Token) (list : List Attribute) (draft : Draft) (from : List Token) → first_symbol from ≡ symbols.Protocol → may_come kind draft.protocol ≡ true → IsHeadedDraft kind tokens list draft from → IsProtocolDraft kind tokens list semantics.Async draft from
no_word_read kind tokens list draft from is may h = record {
  path = h.path;
  scope = h.scope;
  before = h.before;
  middle = from;
  head = h.head;
  word = inl refl;
  may = may;
  makes = makes_true kind tokens (may_come kind draft.protocol) h.path (declared_of draft) draft.protocol h.before may h.makes;
  goes = h.goes ∙ bare_protocol (may_come kind draft.protocol) (length h.path) h.headed from may is;
}

-- the attributes, the word, the keyword and what follows it are a protocol
protocol_whole : (path : List (List ℕ)) (scope : List (List ℕ)) (list : List Attribute) (how : Semantics) (p : ProtocolDecl) (before middle from following to : List Token) → scope ≡ scope_of path → attributes list before middle → protocol_semantics how middle from → spelled symbols.Protocol from following → IsProtocolAfter scope list how p following to → protocol (scope_of path) p before to
protocol_whole path scope list how p before middle from following to same head word keyword (att, (sem, (m1, name, (m2, brace, body)))) = (
  body.statements,
  body.parts,
  body.managers_of_them,
  body.managed_of_them,
  body.messages_of_them,
  (
    middle,
    subst (λ (x : List Attribute). attributes x before middle) (sym att) head,
    (
      from,
      subst (λ (x : Semantics). protocol_semantics x middle from) (sym sem) word,
      (following, keyword, (m1, subst (λ (x : List (List ℕ)). declared x p.full p.place following m1) same name, (m2, brace, body.read))),
    ),
  ),
)

-- no protocol comes after a protocol
none_comes : (kind : FileKind) (p : ProtocolDecl) → may_come kind (Some p) ≡ false
none_comes file.Protocol p = refl
none_comes file.Header p = refl

-- a draft with its protocol
pub protocol_added : (kind : FileKind) (tokens : List Token) (list : List Attribute) (how : Semantics) (draft : Draft) (from following to : List Token) (p : ProtocolDecl) (scope : List (List ℕ)) → scope ≡ draft.scope.items → spelled symbols.Protocol from following → IsProtocolAfter scope list how p following to → Turns (take symbols.Protocol ∷ []) from [] following → Turns (take symbols.Word ∷ take symbols.OpenBrace ∷ managing ∷ []) following [] to → IsProtocolDraft kind tokens list how draft from → IsDraft kind tokens (record draft { protocol = Some p }) to
protocol_added kind tokens list how draft from following to p scope same keyword read one two h =
    let whole = protocol_whole h.path scope list how p h.before h.middle from following to (same ∙ h.scope) h.head h.word keyword read in
    record {
      path = h.path;
      scope = h.scope;
      makes = subst (λ (b : Bool). Makes kind tokens b h.path (declared_of draft) (Some p) to) (sym (none_comes kind p))
          (λ rest r. h.makes rest p (protocol_before h.path p h.before to whole rest r));
      goes = h.goes ∙ one protocol_forms (stand false (length h.path) false) ∙ went protocol_forms (stand false (length h.path) false) following to two
          ∙ ap (λ (b : Bool). refusal [] (stand b (length h.path) false) to) (sym (none_comes kind p));
    }

-- a protocol begins here with no word before its keyword
keyword_next : (s : Symbol) → begins_protocol s ≡ true → s ≢ symbols.Sync → s ≢ symbols.Async → s ≡ symbols.Protocol
keyword_next symbols.Protocol b n a = refl
keyword_next symbols.Sync b n a = absurd (n refl)
keyword_next symbols.Async b n a = absurd (a refl)
keyword_next _ b n a = absurd (cc)

-- the word that gives the semantics, if it is not `sync`
pub other_word_read : (b : Bool) (kind : FileKind) (tokens : List Token) (list : List Attribute) (draft : Draft) (from middle to : List Token) → begins_protocol (first_symbol from) ≡ true → first_symbol from ≢ symbols.Sync → middle ≡ from → (b ≡ true → IsNext symbols.Async middle to) → (b ≡ false → (first_symbol middle ≢ symbols.Async) × (to ≡ middle)) → may_come kind draft.protocol ≡ true → IsHeadedDraft kind tokens list draft from → IsProtocolDraft kind tokens list semantics.Async draft to
other_word_read true kind tokens list draft from middle to begins not_sync same when_async when_other may h =
    let next = subst (λ (x : List Token). IsNext symbols.Async x to) same (when_async refl) in
    word_read kind tokens list draft from to symbols.Async semantics.Async (inl refl) (inr (is_spelled symbols.Async from to next)) next may h
other_word_read false kind tokens list draft from middle to begins not_sync same when_async when_other may h =
    let o = when_other refl in
    let not_async : first_symbol from ≢ symbols.Async = subst (λ (x : List Token). first_symbol x ≢ symbols.Async) same o.0 in
    subst (λ (x : List Token). IsProtocolDraft kind tokens list semantics.Async draft x) (sym (o.1 ∙ same))
    (no_word_read kind tokens list draft from (keyword_next (first_symbol from) begins not_sync not_async) may h)

-- What may not come

-- the machine has no declaration with such a first word
none_step : (may : Bool) (depth : ℕ) (headed : Bool) (s : Symbol) → s ≢ symbols.Struct → s ≢ symbols.Union → (s ≡ symbols.Using → depth ≢ 0) → (begins_protocol s ≡ true → may ≡ false) → unheaded_step headed may depth s ≡ None → step (stand may depth headed) s ≡ None
unfolding step
none_step may depth headed symbols.Struct a b c d e = absurd (a refl)
none_step may depth headed symbols.Union a b c d e = absurd (b refl)
none_step may zero headed symbols.Using a b c d e = absurd (c refl refl)
none_step may (suc n) headed symbols.Using a b c d e = ap (λ (b : Bool). stepped b (using_named ∷ []) (stand may (suc n) false)) (not_zero (suc n) (c refl))
none_step false depth headed symbols.Protocol a b c d e = refl
none_step true depth headed symbols.Protocol a b c d e = absurd (cc (d refl))
none_step false depth headed symbols.Async a b c d e = refl
none_step true depth headed symbols.Async a b c d e = absurd (cc (d refl))
none_step false depth headed symbols.Sync a b c d e = refl
none_step true depth headed symbols.Sync a b c d e = absurd (cc (d refl))
none_step may depth headed _ a b c d e = e

-- a file does not end after attributes
not_end : (may : Bool) (depth : ℕ) (headed : Bool) → is_end [] (stand may depth headed) ≡ true → headed ≡ false
not_end true depth headed e = absurd (cc)
not_end false zero true e = absurd (cc)
not_end false zero false e = refl
not_end false (suc n) headed e = absurd (grind arith)

-- No declaration that may have attributes begins with this symbol, with this number of namespaces open.
pub record IsNoHead (s : Symbol) (count : ℕ) (may : Bool) : Type 0 where
  pub not_struct : s ≢ symbols.Struct
  pub not_union : s ≢ symbols.Union
  pub not_using : s ≡ symbols.Using → count ≢ 0
  pub not_protocol : begins_protocol s ≡ true → may ≡ false

-- a using where a namespace is open
pub other_using : (s : Symbol) (n : ℕ) (may : Bool) → s ≡ symbols.Using → n ≢ 0 → IsNoHead s n may
other_using s n may e h = record { not_struct = λ x. cc; not_union = λ x. cc; not_using = λ x. h; not_protocol = λ b. absurd (cc (ap (λ (x : Symbol). begins_protocol x) e)) }

-- a protocol where no protocol may come
pub other_protocol : (s : Symbol) (n : ℕ) (may : Bool) → (s ≡ symbols.Protocol) ⊎ ((s ≡ symbols.Async) ⊎ (s ≡ symbols.Sync)) → may ≡ false → IsNoHead s n may
other_protocol s n may (inl e) h = record { not_struct = λ x. cc; not_union = λ x. cc; not_using = λ x. absurd (cc); not_protocol = λ b. h }
other_protocol s n may (inr (inl e)) h = record { not_struct = λ x. cc; not_union = λ x. cc; not_using = λ x. absurd (cc); not_protocol = λ b. h }
other_protocol s n may (inr (inr e)) h = record { not_struct = λ x. cc; not_union = λ x. cc; not_using = λ x. absurd (cc); not_protocol = λ b. h }

-- no protocol begins with another symbol
begins_none : (s : Symbol) → s ≢ symbols.Protocol → s ≢ symbols.Async → s ≢ symbols.Sync → begins_protocol s ≡ true → ⊥
begins_none symbols.Protocol p a b e = p refl
begins_none symbols.Async p a b e = a refl
begins_none symbols.Sync p a b e = b refl
begins_none _ p a b e = cc

-- any other symbol
pub other_none : (s : Symbol) (n : ℕ) (may : Bool) → s ≢ symbols.Struct → s ≢ symbols.Union → s ≢ symbols.Using → s ≢ symbols.Protocol → s ≢ symbols.Async → s ≢ symbols.Sync → IsNoHead s n may
other_none s n may a b c d e f = record { not_struct = a; not_union = b; not_using = λ x. absurd (c x); not_protocol = λ h. absurd (begins_none s d e f h) }

-- a refusal of what begins no declaration
pub none_comes_next : (kind : FileKind) (tokens : List Token) (list : List Attribute) (draft : Draft) (from : List Token) (e : TreeRefusal) → e ≡ Left (length from) → IsNoHead (first_symbol from) (length draft.scope.items) (may_come kind draft.protocol) → IsHeadedDraft kind tokens list draft from → FileStops kind tokens e
none_comes_next kind tokens list draft from e is other h =
    let at = stand (may_come kind draft.protocol) (length h.path) h.headed in
    let same : length draft.scope.items ≡ length h.path = ap (λ (x : List (List ℕ)). length x) h.scope ∙ scope_length h.path in
    let none = none_step (may_come kind draft.protocol) (length h.path) h.headed (first_symbol from) other.not_struct other.not_union (λ u z. other.not_using u (same ∙ z)) other.not_protocol h.bare in
    subst (λ (x : TreeRefusal). FileStops kind tokens x) (sym is)
    (h.goes ∙ refused_at at from none (λ ends. h.more (not_end (may_come kind draft.protocol) (length h.path) h.headed ends)))

-- Attributes

-- attributes may come anywhere between declarations
attributes_step : (may : Bool) (depth : ℕ) → step (stand may depth false) symbols.OpenBracket ≡ Some (attributed ∷ [], stand may depth true)
unfolding step
attributes_step may depth = refl

-- a refusal in attributes
pub attributes_stopped : (kind : FileKind) (tokens : List Token) (draft : Draft) (from following : List Token) (e : TreeRefusal) → IsNext symbols.OpenBracket from following → Stops (attributed ∷ []) following e → IsDraft kind tokens draft from → FileStops kind tokens e
attributes_stopped kind tokens draft from following e next stop h =
    first_stopped kind tokens (between kind draft h.path false) (between kind draft h.path true) symbols.OpenBracket (attributed ∷ []) from following e h.goes next (attributes_step (may_come kind draft.protocol) (length h.path)) stop

-- the bracket and what follows it are attributes
bracketed_whole : (list : List Attribute) (from following to : List Token) → IsNext symbols.OpenBracket from following → IsBracketed list following to → attributes list from to
bracketed_whole [] from following to next read = absurd read
bracketed_whole (a ∷ rest) from following to next read = (following, is_spelled symbols.OpenBracket from following next, read)

-- a draft after attributes
pub attributes_read : (kind : FileKind) (tokens : List Token) (list : List Attribute) (draft : Draft) (from following to : List Token) → IsNext symbols.OpenBracket from following → IsBracketed list following to → Turns (attributed ∷ []) following [] to → IsDraft kind tokens draft from → IsHeadedDraft kind tokens list draft to
attributes_read kind tokens list draft from following to next read turn h = record {
  path = h.path;
  scope = h.scope;
  before = from;
  head = bracketed_whole list from following to next read;
  makes = h.makes;
  headed = true;
  goes = first_went kind tokens (between kind draft h.path false) (between kind draft h.path true) symbols.OpenBracket (attributed ∷ []) from following to h.goes next (attributes_step (may_come kind draft.protocol) (length h.path)) turn;
  bare = refl;
  more = λ e. absurd (cc);
}

-- No attributes

-- 16 namespaces are open
full : (depth : ℕ) → 16 ≤ depth → nat_lt depth 16 ≡ false
full depth h = grind (arith, nat_tests)

-- the machine has nothing without attributes there
none_bare : (may : Bool) (depth : ℕ) (s : Symbol) → s ≢ symbols.OpenBracket → (s ≡ symbols.Include → depth ≢ 0) → (s ≡ symbols.Namespace → 16 ≤ depth) → (s ≡ symbols.CloseBrace → depth ≡ 0) → bare_step may depth s ≡ None
none_bare may depth symbols.OpenBracket a b c d = absurd (a refl)
none_bare may zero symbols.Include a b c d = absurd (b refl refl)
none_bare may (suc n) symbols.Include a b c d = ap (λ (x : Bool). stepped x (include_named ∷ []) (stand may (suc n) false)) (not_zero (suc n) (b refl))
none_bare may depth symbols.Namespace a b c d = ap (λ (x : Bool). stepped x (take symbols.Word ∷ take symbols.OpenBrace ∷ []) (stand may (depth + 1) false)) (full depth (c refl))
none_bare may zero symbols.CloseBrace a b c d = refl
none_bare may (suc n) symbols.CloseBrace a b c d = absurd (omega (arith, d refl))
none_bare may depth _ a b c d = refl

-- Nothing that has no attributes begins with this symbol, with this number of namespaces open.
pub record IsBare (s : Symbol) (count : ℕ) : Type 0 where
  pub not_bracket : s ≢ symbols.OpenBracket
  pub not_include : s ≡ symbols.Include → count ≢ 0
  pub not_namespace : s ≡ symbols.Namespace → 16 ≤ count
  pub not_close : s ≡ symbols.CloseBrace → count ≡ 0

-- an include where a namespace is open
pub bare_include : (s : Symbol) (n : ℕ) → s ≡ symbols.Include → n ≢ 0 → IsBare s n
bare_include s n e h = record { not_bracket = λ x. cc; not_include = λ x. h; not_namespace = λ x. absurd (cc); not_close = λ x. absurd (cc) }

-- a namespace where 16 are open
pub bare_namespace : (s : Symbol) (n : ℕ) → s ≡ symbols.Namespace → 16 ≤ n → IsBare s n
bare_namespace s n e h = record { not_bracket = λ x. cc; not_include = λ x. absurd (cc); not_namespace = λ x. h; not_close = λ x. absurd (cc) }

-- a closing brace where no namespace is open
pub bare_close : (s : Symbol) (n : ℕ) → s ≡ symbols.CloseBrace → n ≡ 0 → IsBare s n
bare_close s n e h = record { not_bracket = λ x. cc; not_include = λ x. absurd (cc); not_namespace = λ x. absurd (cc); not_close = λ x. h }

-- any other symbol
pub bare_none : (s : Symbol) (n : ℕ) → s ≢ symbols.OpenBracket → s ≢ symbols.Include → s ≢ symbols.Namespace → s ≢ symbols.CloseBrace → IsBare s n
bare_none s n a b c d = record { not_bracket = a; not_include = λ x. absurd (b x); not_namespace = λ x. absurd (c x); not_close = λ x. absurd (d x) }

-- a draft before a declaration that has no attributes
pub no_attributes : (kind : FileKind) (tokens : List Token) (list : List Attribute) (draft : Draft) (from : List Token) → list ≡ [] → first_symbol from ≢ symbols.End → IsBare (first_symbol from) (length draft.scope.items) → IsDraft kind tokens draft from → IsHeadedDraft kind tokens list draft from
no_attributes kind tokens list draft from none more other h =
    let same : length draft.scope.items ≡ length h.path = ap (λ (x : List (List ℕ)). length x) h.scope ∙ scope_length h.path in
    record {
      path = h.path;
      scope = h.scope;
      before = from;
      head = subst (λ (x : List Attribute). attributes x from from) (sym none) refl;
      makes = h.makes;
      headed = false;
      goes = h.goes;
      bare = none_bare (may_come kind draft.protocol) (length h.path) (first_symbol from) other.not_bracket (λ u z. other.not_include u (same ∙ z)) (λ u. omega (arith, other.not_namespace u)) (λ u. sym same ∙ other.not_close u);
      more = λ e. more;
    }

-- The end

-- no token is left
pub no_token : (from : List Token) → first_symbol from ≡ symbols.End → from ≡ []
no_token [] e = refl
no_token (t ∷ rest) e = absurd (means t symbols.End e)

-- a file does not end where the protocol must come or a namespace is open
end_step : (may : Bool) (depth : ℕ) → (may ≡ true) ⊎ (depth ≢ 0) → is_end [] (stand may depth false) ≡ false
end_step true depth w = refl
end_step false zero (inl e) = absurd (cc)
end_step false zero (inr n) = absurd (n refl)
end_step false (suc n) w = grind arith

-- the machine refuses such an end
ended : (at : FileState) → is_end [] at ≡ false → refusal [] at [] ≡ Some 0
unfolding refusal
ended at e = ap (λ (b : Bool). cond {A = Option ℕ} b None (Some 0)) e

-- the same of the file
pub not_ended : (kind : FileKind) (tokens : List Token) (draft : Draft) → (may_come kind draft.protocol ≡ true) ⊎ (length draft.scope.items ≢ 0) → IsDraft kind tokens draft [] → refusal [] (begin kind) tokens ≡ Some 0
not_ended kind tokens draft (inl m) h = h.goes ∙ ended (stand (may_come kind draft.protocol) (length h.path) false) (end_step (may_come kind draft.protocol) (length h.path) (inl m))
not_ended kind tokens draft (inr n) h =
    let same : length draft.scope.items ≡ length h.path = ap (λ (x : List (List ℕ)). length x) h.scope ∙ scope_length h.path in
    h.goes ∙ ended (stand (may_come kind draft.protocol) (length h.path) false) (end_step (may_come kind draft.protocol) (length h.path) (inr (λ z. n (same ∙ z))))

-- all is read
makes_whole : (kind : FileKind) (tokens : List Token) (may : Bool) (path : List (List ℕ)) (all : Declarations) (held : Option ProtocolDecl) → may ≡ false → path ≡ [] → Makes kind tokens may path all held [] → Tree kind tokens (unit_of all held)
makes_whole kind tokens false [] all held m e makes = subst (λ (x : Declarations). Tree kind tokens (unit_of x held)) (and_none all) (makes no_declaration nothing_left)
makes_whole kind tokens true path all held m e makes = absurd (cc)
makes_whole kind tokens false (name ∷ outer) all held m e makes = absurd (cc)

-- a draft after everything is read, and its tree
pub all_read : (kind : FileKind) (tokens : List Token) (draft : Draft) (unit : FileUnit) → may_come kind draft.protocol ≡ false → length draft.scope.items ≡ 0 → unit ≡ unit_of (declared_of draft) draft.protocol → IsDraft kind tokens draft [] → Tree kind tokens unit
all_read kind tokens draft unit m n same h =
    subst (λ (x : FileUnit). Tree kind tokens x) (sym same)
    (makes_whole kind tokens (may_come kind draft.protocol) h.path (declared_of draft) draft.protocol m (none_open h.path draft.scope.items h.scope n) h.makes)
