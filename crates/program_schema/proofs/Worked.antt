-- The schema of a worked program: a protocol that manages another, and a header with a struct. Variants of it that
-- differ in one part are not its schema.
use Rattle.std.proofs.Common.{◌≡◌, ◌∙◌, ◌⊎◌, inl, inr, ℕ, zero, suc, true, false, leb, List, [], ◌∷◌, map, length, Option, Some, None, IsSome, slice_get, bytes_eq, codes, ◌==◌, refl, sym, ap, subst, arith, Less}
use Rattle.std.specs.List.{AllPairs, Any, Contains, list_any}
use Rattle.std.specs.Cmp.Lexicographic.{slice_cmp}
use Rattle.std.specs.Ordering.{nat_cmp}
use Rattle.std.proofs.lemmas.Bool.{true≢false}
use Rattle.std.proofs.lemmas.Bool.Decides.{not_from_Decides}
use Rattle.std.proofs.lemmas.Slice.Eq.{bytes_eq-Decides}
use Rattle.ipdl_base.specs.Builtins.{builtin_name}
use Rattle.ipdl_base.specs.Plain.{one_box}
use Rattle.ipdl_base.specs.Sound.{MentionsUncarried, MessageMentionsUncarried}
use Rattle.ipdl_base.specs.Sound as mentions
use Rattle.ipdl_base.specs.Words.{short_name}
use Rattle.ipdl_base.specs.declared.builtin.Builtin.{Builtin as BuiltinType}
use Rattle.ipdl_base.specs.declared.builtin.Builtin.TheVariants as builtin
use Rattle.ipdl_base.specs.declared.finding.Place.{Place}
use Rattle.ipdl_base.specs.declared.kinds.Compress.TheVariants as compress
use Rattle.ipdl_base.specs.declared.kinds.Direction.{Direction}
use Rattle.ipdl_base.specs.declared.kinds.Direction.TheVariants as direction
use Rattle.ipdl_base.specs.declared.kinds.Level.TheVariants as level
use Rattle.ipdl_base.specs.declared.kinds.Semantics.TheVariants.{Async}
use Rattle.ipdl_base.specs.declared.schema.Kind.{Kind}
use Rattle.ipdl_base.specs.declared.schema.Kind.TheVariants.{Normal, Constructor, Delete}
use Rattle.ipdl_base.specs.declared.schema.MessageRow.{MessageRow}
use Rattle.ipdl_base.specs.declared.schema.ParamRow.{ParamRow}
use Rattle.ipdl_base.specs.declared.schema.ProtocolRow.{ProtocolRow}
use Rattle.ipdl_base.specs.declared.schema.Schema.{Schema}
use Rattle.ipdl_base.specs.declared.schema.Shape.{Shape}
use Rattle.ipdl_base.specs.declared.schema.Shape as shape
use Rattle.ipdl_base.specs.declared.schema.TypeRow.{TypeRow}
use Rattle.ipdl_base.specs.declared.schema.TypeRow.TheVariants as row
use Rattle.ipdl_base.proofs.WorkedSchema.{no_builtin}
use Rattle.ipdl_syntax.specs.declared.program.Entry.{Entry}
use Rattle.ipdl_syntax.specs.declared.tree.Base as base
use Rattle.ipdl_syntax.specs.declared.tree.MessageDecl.{MessageDecl}
use Rattle.ipdl_syntax.specs.declared.tree.NameAt.{NameAt}
use Rattle.ipdl_syntax.specs.declared.tree.Param.{Param}
use Rattle.ipdl_syntax.specs.declared.tree.ProtocolDecl.{ProtocolDecl}
use Rattle.ipdl_syntax.specs.declared.tree.StructDecl.{StructDecl}
use Rattle.ipdl_syntax.specs.declared.tree.Suffix.{Suffix}
use Rattle.ipdl_syntax.specs.declared.tree.Suffix.TheVariants.{Array}
use Rattle.name_table.specs.declared.decl.DeclId.{DeclId}
use Rattle.name_table.specs.declared.decl.DeclId.TheVariants.{Builtin, Using, Struct, Union, Protocol, Endpoint}
use Rattle.name_table.specs.Declares.{full_name_of}
use Rattle.name_table.specs.Decls.{FindsOne, FindsOneProtocol, protocol_of}
use Rattle.name_table.specs.Finds.{Finds, FindsAsProtocol, IsNameOf, IsNameOfBuiltin, builtin_full_name}
use Rattle.name_table.specs.Visible.{Sees, own, protocol, header}
use Rattle.name_table.proofs.BuiltinNames.{one_builtin}
use Rattle.name_table.proofs.FullNames.{contains_any}
use Rattle.name_table.proofs.Order.{in_front, in_tail, in_cons, in_none}
use Rattle.name_table.proofs.Seeing.{sees_shown}
use Rattle.program_schema.specs.Numbers.{Numbering, IsNamedBefore, place_of}
use Rattle.program_schema.specs.SchemaOf.{IsProtocolRow, IsSchemaOf}
use Rattle.program_schema.proofs.Lists.{any_place}
use Rattle.program_schema.proofs.OneSchema.{one_schema}

-- The program: `PB` is managed by `N::PA`, which includes a header with the struct `N::S`

abbrev pub in_file : ℕ → Place
in_file number = record { file = number; line = 1; column = 1 }

-- a name with suffixes, and the name of the parameter
abbrev a_param : ℕ → List ℕ → List Suffix → List ℕ → Param
a_param number type suffixes name = record {
  spec = record { nullable = false; base = base.Named type None; suffixes = suffixes; place = in_file number };
  name = name;
  place = in_file number;
  attributes = [];
}

abbrev pub a_message : ℕ → List ℕ → Direction → List Param → MessageDecl
a_message number name to params = record { name = name; place = in_file number; direction = to; semantics = Async; params = params; returns = None; attributes = [] }

abbrev pub a_protocol : ℕ → List ℕ → List NameAt → List NameAt → List MessageDecl → ProtocolDecl
a_protocol number full managers manages messages = record { full = full; place = in_file number; semantics = Async; managers = managers; manages = manages; messages = messages; attributes = [] }

abbrev pub a_file : List ℕ → List ℕ → List StructDecl → Option ProtocolDecl → Entry
a_file key includes structs held = record {
  key = key;
  name = key;
  unit = record { includes = []; usings = []; structs = structs; unions = []; protocol = held };
  includes = includes;
}

abbrev managed : ProtocolDecl
managed = a_protocol 0 (codes "PB") (record { name = codes "PA"; place = in_file 0 } ∷ []) [] (a_message 0 (codes "__delete__") direction.Child [] ∷ [])

abbrev manager : ProtocolDecl
manager = a_protocol 1 (codes "N::PA") [] (record { name = codes "PB"; place = in_file 1 } ∷ []) (a_message 1 (codes "PB") direction.Parent [] ∷ a_message 1 (codes "Go") direction.Child (a_param 1 (codes "S") (Array ∷ []) (codes "all") ∷ []) ∷ [])

abbrev a_struct : StructDecl
a_struct = record { full = codes "N::S"; place = in_file 2; fields = a_param 2 (codes "int32_t") [] (codes "n") ∷ []; attributes = [] }

abbrev program : List Entry
program = a_file (codes "PB.ipdl") (1 ∷ []) [] (Some managed) ∷ a_file (codes "PA.ipdl") (0 ∷ 2 ∷ []) [] (Some manager) ∷ a_file (codes "H.ipdlh") [] (a_struct ∷ []) None ∷ []

-- Its schema: `N::PA` has number 0, since its name is before the other

abbrev a_row : ℕ → List ℕ → Direction → Kind → List ParamRow → MessageRow
a_row number name to kind params = record { number = number; name = name; direction = to; semantics = Async; level = level.Not; compress = compress.Plain; kind = kind; params = params; returns = None; carried = true; lazy = false }

abbrev managed_row : ProtocolRow
managed_row = record { name = codes "PB"; semantics = Async; level = level.Not; managers = 0 ∷ []; manages = []; messages = a_row 65536 (codes "__delete__") direction.Child Delete [] ∷ [] }

-- the manager's row, by the number of its last message
abbrev manager_row : ℕ → ProtocolRow
manager_row last = record {
  name = codes "N::PA";
  semantics = Async;
  level = level.Not;
  managers = [];
  manages = 1 ∷ [];
  messages = a_row 0 (codes "PB") direction.Parent (Constructor 1) [] ∷ a_row last (codes "Go") direction.Child Normal (record { name = codes "all"; shape = shape.Array' one_box (shape.Named 0) } ∷ []) ∷ [];
}

abbrev types : List TypeRow
types = row.Struct (codes "N::S") (record { name = codes "n"; shape = shape.Builtin builtin.Int32 } ∷ []) ∷ []

abbrev schema : Schema
schema = record { protocols = manager_row 2 ∷ managed_row ∷ []; types = types }

-- Numbers

files_ordered : AllPairs (IsNamedBefore program) (1 ∷ 0 ∷ [])
files_ordered zero zero d before within = absurd (omega arith)
files_ordered zero (suc zero) d before within = λ p q first second.
    let one : p ≡ manager = cc in
    let other : q ≡ managed = cc in
    subst (λ (x : ProtocolDecl). slice_cmp nat_cmp x.full q.full ≡ Less) (sym one) (subst (λ (x : ProtocolDecl). slice_cmp nat_cmp manager.full x.full ≡ Less) (sym other) refl)
files_ordered zero (suc (suc j)) d before within = absurd (omega arith)
files_ordered (suc i) j d before within = absurd (omega arith)

with_protocol : (file : ℕ) → Contains (1 ∷ 0 ∷ []) file → IsSome (protocol_of program file)
with_protocol file among = elim (in_cons 1 (0 ∷ []) file among) [
  | inl same ↦ subst (λ f. IsSome (protocol_of program f)) (sym same) refl
  | inr following ↦ elim (in_cons 0 [] file following) [
    | inl same ↦ subst (λ f. IsSome (protocol_of program f)) (sym same) refl
    | inr none ↦ absurd (in_none file none)
  ]
]

among_files : (file : ℕ) → IsSome (protocol_of program file) → Contains (1 ∷ 0 ∷ []) file
among_files zero is = in_tail 1 (0 ∷ []) 0 (in_front 0 [])
among_files (suc zero) is = in_front 1 (0 ∷ [])
among_files (suc (suc zero)) is = cc
among_files (suc (suc (suc k))) is = cc

among_types : (d : DeclId) → IsSome (place_of program d) → Contains (Struct 2 0 ∷ []) d
among_types (Struct zero index) is = cc
among_types (Struct (suc zero) index) is = cc
among_types (Struct (suc (suc zero)) zero) is = in_front (Struct 2 0) []
among_types (Struct (suc (suc zero)) (suc k)) is = cc
among_types (Struct (suc (suc (suc k))) index) is = cc
among_types (Union zero index) is = cc
among_types (Union (suc zero) index) is = cc
among_types (Union (suc (suc zero)) index) is = cc
among_types (Union (suc (suc (suc k))) index) is = cc
among_types (Builtin type) is = cc
among_types (Using file index) is = cc
among_types (Protocol file) is = cc
among_types (Endpoint file flag) is = cc

with_place : (d : DeclId) → Contains (Struct 2 0 ∷ []) d → IsSome (place_of program d)
with_place d among = elim (in_cons (Struct 2 0) [] d among) [
  | inl same ↦ subst (λ e. IsSome (place_of program e)) (sym same) refl
  | inr none ↦ absurd (in_none d none)
]

abbrev numbering : Numbering
numbering = record { files = 1 ∷ 0 ∷ []; types = Struct 2 0 ∷ [] }

-- What names find

-- one of the three declarations of the program, with its full name, has a property
abbrev OfThree : (DeclId → List ℕ → Type 0) → DeclId → List ℕ → Type 0
OfThree Holds d full =
    ((d ≡ Protocol 0) × Holds d (codes "PB")) ⊎ (((d ≡ Protocol 1) × Holds d (codes "N::PA")) ⊎ ((d ≡ Struct 2 0) × Holds d (codes "N::S")))

declared : (d : DeclId) (full : List ℕ) → full_name_of program d ≡ Some full → OfThree (λ e name. full ≡ name) d full
declared (Protocol zero) full is = inl (refl, cc)
declared (Protocol (suc zero)) full is = inr (inl (refl, cc))
declared (Protocol (suc (suc zero))) full is = cc
declared (Protocol (suc (suc (suc k)))) full is = cc
declared (Struct zero index) full is = cc
declared (Struct (suc zero) index) full is = cc
declared (Struct (suc (suc zero)) zero) full is = inr (inr (refl, cc))
declared (Struct (suc (suc zero)) (suc k)) full is = cc
declared (Struct (suc (suc (suc k))) index) full is = cc
declared (Union zero index) full is = cc
declared (Union (suc zero) index) full is = cc
declared (Union (suc (suc zero)) index) full is = cc
declared (Union (suc (suc (suc k))) index) full is = cc
declared (Using zero index) full is = cc
declared (Using (suc zero) index) full is = cc
declared (Using (suc (suc zero)) index) full is = cc
declared (Using (suc (suc (suc k))) index) full is = cc
declared (Builtin type) full is = cc
declared (Endpoint file flag) full is = cc

-- a name that is neither a full name nor its short name does not name a declaration of this full name
pub no_name : (text full : List ℕ) → bytes_eq full text ≡ false → bytes_eq (short_name full) text ≡ false → ¬ IsNameOf text None full
no_name text full one other (inl named) = not_from_Decides (bytes_eq full text) (bytes_eq-Decides full text) one named.0
no_name text full one other (inr named) = not_from_Decides (bytes_eq (short_name full) text) (bytes_eq-Decides (short_name full) text) other named.1

no_open : (xs : List ℕ) → list_any (λ b. b == 60) xs ≡ false → ¬ Contains xs 60
no_open xs none among = true≢false (sym (contains_any 60 xs among) ∙ none)

-- a declaration that is seen under a name is one of the three
find_cases : (file : ℕ) (text : List ℕ) (d : DeclId) (full : List ℕ) → Sees program file d full → IsNameOf text None full
    → ((d ≡ Protocol 0) × IsNameOf text None (codes "PB")) ⊎ (((d ≡ Protocol 1) × IsNameOf text None (codes "N::PA")) ⊎ ((d ≡ Struct 2 0) × IsNameOf text None (codes "N::S")))
find_cases file text d full seen named = elim (declared d full (sees_shown program seen).1) [
  | inl first ↦ inl (first.0, subst (IsNameOf text None) first.1 named)
  | inr (inl second) ↦ inr (inl (second.0, subst (IsNameOf text None) second.1 named))
  | inr (inr third) ↦ inr (inr (third.0, subst (IsNameOf text None) third.1 named))
]

only_managed : (d : DeclId) → FindsAsProtocol program 1 (codes "PB") d → d ≡ Protocol 0
only_managed (Protocol p) finds = elim (find_cases 1 (codes "PB") (Protocol p) finds.0 finds.1 finds.2) [
  | inl first ↦ first.0
  | inr (inl second) ↦ absurd (no_name (codes "PB") (codes "N::PA") refl refl second.1)
  | inr (inr third) ↦ absurd (no_name (codes "PB") (codes "N::S") refl refl third.1)
]
only_managed _ finds = absurd finds

finds_managed : FindsOneProtocol program 1 (codes "PB") 0
finds_managed = ((codes "PB", protocol {other = 0} (0, omega arith, refl) (refl, refl), inl (refl, no_open (codes "PB") refl)), only_managed)

only_manager : (d : DeclId) → FindsAsProtocol program 0 (codes "PA") d → d ≡ Protocol 1
only_manager (Protocol p) finds = elim (find_cases 0 (codes "PA") (Protocol p) finds.0 finds.1 finds.2) [
  | inl first ↦ absurd (no_name (codes "PA") (codes "PB") refl refl first.1)
  | inr (inl second) ↦ second.0
  | inr (inr third) ↦ absurd (no_name (codes "PA") (codes "N::S") refl refl third.1)
]
only_manager _ finds = absurd finds

finds_manager : FindsOneProtocol program 0 (codes "PA") 1
finds_manager = ((codes "N::PA", protocol {other = 1} (0, omega arith, refl) (refl, refl), inr (refl, refl, no_open (codes "N::PA") refl)), only_manager)

-- no builtin type has a name as short as `S`

long_full_name : (type : BuiltinType) → leb 3 (length (builtin_full_name type)) ≡ true
long_full_name builtin.Bool = refl
long_full_name _ = refl

pub long_name : (type : BuiltinType) → leb 3 (length (builtin_name type)) ≡ true
long_name builtin.Bool = refl
long_name _ = refl

not_of_builtin : (type : BuiltinType) → ¬ IsNameOfBuiltin type (codes "S")
not_of_builtin type (inl named) = true≢false (sym (long_full_name type) ∙ ap (λ text. leb 3 (length text)) named)
not_of_builtin type (inr named) = true≢false (sym (long_name type) ∙ ap (λ text. leb 3 (length text)) named)

seen_as_struct : (d : DeclId) (full : List ℕ) → Sees program 1 d full → IsNameOf (codes "S") None full → d ≡ Struct 2 0
seen_as_struct d full seen named = elim (find_cases 1 (codes "S") d full seen named) [
  | inl first ↦ absurd (no_name (codes "S") (codes "PB") refl refl first.1)
  | inr (inl second) ↦ absurd (no_name (codes "S") (codes "N::PA") refl refl second.1)
  | inr (inr third) ↦ third.0
]

only_struct : (d : DeclId) → Finds program 1 (codes "S") None d → d ≡ Struct 2 0
only_struct (Builtin type) finds = absurd (not_of_builtin type finds.1)
only_struct (Endpoint file flag) finds = absurd finds.1
only_struct (Using file index) finds = seen_as_struct (Using file index) finds.full finds.seen finds.named
only_struct (Struct file index) finds = seen_as_struct (Struct file index) finds.0 finds.1 finds.2
only_struct (Union file index) finds = seen_as_struct (Union file index) finds.0 finds.1 finds.2
only_struct (Protocol file) finds = seen_as_struct (Protocol file) finds.0 finds.1 finds.2

finds_struct : FindsOne program 1 (codes "S") None (Struct 2 0)
finds_struct = ((codes "N::S", header {other = 2} (1, omega arith, refl) refl (own (refl, refl)), inr (refl, refl, no_open (codes "N::S") refl)), only_struct)

not_seen : (d : DeclId) (full : List ℕ) → Sees program 2 d full → ¬ IsNameOf (codes "int32_t") None full
not_seen d full seen named = elim (find_cases 2 (codes "int32_t") d full seen named) [
  | inl first ↦ no_name (codes "int32_t") (codes "PB") refl refl first.1
  | inr (inl second) ↦ no_name (codes "int32_t") (codes "N::PA") refl refl second.1
  | inr (inr third) ↦ no_name (codes "int32_t") (codes "N::S") refl refl third.1
]

only_int : (d : DeclId) → Finds program 2 (codes "int32_t") None d → d ≡ Builtin builtin.Int32
only_int (Builtin type) finds = ap Builtin (one_builtin type builtin.Int32 (codes "int32_t") finds.1 (inr refl))
only_int (Endpoint file flag) finds = absurd finds.1
only_int (Using file index) finds = absurd (not_seen (Using file index) finds.full finds.seen finds.named)
only_int (Struct file index) finds = absurd (not_seen (Struct file index) finds.0 finds.1 finds.2)
only_int (Union file index) finds = absurd (not_seen (Union file index) finds.0 finds.1 finds.2)
only_int (Protocol file) finds = absurd (not_seen (Protocol file) finds.0 finds.1 finds.2)

finds_int : FindsOne program 2 (codes "int32_t") None (Builtin builtin.Int32)
finds_int = ((refl, inr refl), only_int)

-- What is carried

abbrev the_field : ParamRow
the_field = record { name = codes "n"; shape = shape.Builtin builtin.Int32 }

struct_carried : ¬ MentionsUncarried types (shape.Named 0)
struct_carried (mentions.in_struct name fields field at among m) =
    let same : fields ≡ the_field ∷ [] = cc in
    elim (in_cons the_field [] field (subst (λ (fs : List ParamRow). Contains fs field) same among)) [
      | inl is ↦ no_builtin builtin.Int32 refl (subst (λ (f : ParamRow). MentionsUncarried types f.shape) is m)
      | inr none ↦ in_none field none
    ]
struct_carried (mentions.in_union name components component at among m) = cc

array_carried : ¬ MentionsUncarried types (shape.Array' one_box (shape.Named 0))
array_carried (mentions.in_array m) = struct_carried m

none_mentioned : (rows : List ParamRow) → ((k : ℕ) (p : ParamRow) → slice_get rows k ≡ Some p → ¬ MentionsUncarried types p.shape) → ¬ Any (λ p. MentionsUncarried types p.shape) rows
none_mentioned rows each some = let place = any_place (λ (p : ParamRow). MentionsUncarried types p.shape) rows some in each place.0 place.1 place.2 place.3

-- a message of no parameters, and the one with the list of structs

bare_carried : ¬ (Any (λ (p : ParamRow). MentionsUncarried types p.shape) [] ⊎ ⊥)
bare_carried (inl m) = none_mentioned [] (λ k p at. cc) m
bare_carried (inr m) = m

abbrev the_list : ParamRow
the_list = record { name = codes "all"; shape = shape.Array' one_box (shape.Named 0) }

list_carried : ¬ (Any (λ (p : ParamRow). MentionsUncarried types p.shape) (the_list ∷ []) ⊎ ⊥)
list_carried (inl m) = none_mentioned (the_list ∷ []) only m
  where
    only : (k : ℕ) (p : ParamRow) → slice_get (the_list ∷ []) k ≡ Some p → ¬ MentionsUncarried types p.shape
    only zero p at m = let same : p ≡ the_list = cc in array_carried (subst (λ (f : ParamRow). MentionsUncarried types f.shape) same m)
    only (suc k) p at m = cc
list_carried (inr m) = m

-- The schema

managed_is : IsProtocolRow program numbering types 1 0 managed managed_row
managed_is = record {
  name = refl;
  semantics = refl;
  level = refl;
  managers = ((1, finds_manager, refl), tt);
  manages = tt;
  messages = (
    record {
      number_is = refl;
      name = refl;
      direction = refl;
      semantics = refl;
      level = refl;
      compress = refl;
      kind_is = refl;
      params = tt;
      returns = tt;
      carried = (λ is. bare_carried, λ none. refl);
      lazy = refl;
    },
    tt,
  );
}

manager_is : IsProtocolRow program numbering types 0 1 manager (manager_row 2)
manager_is = record {
  name = refl;
  semantics = refl;
  level = refl;
  managers = tt;
  manages = ((0, finds_managed, refl), tt);
  messages = (
    record {
      number_is = refl;
      name = refl;
      direction = refl;
      semantics = refl;
      level = refl;
      compress = refl;
      kind_is = (refl, (0, finds_managed, refl));
      params = tt;
      returns = tt;
      carried = (λ is. bare_carried, λ none. refl);
      lazy = refl;
    },
    (
      record {
        number_is = refl;
        name = refl;
        direction = refl;
        semantics = refl;
        level = refl;
        compress = refl;
        kind_is = refl;
        params = (record { name = refl; shape = (Struct 2 0, finds_struct, refl) }, tt);
        returns = tt;
        carried = (λ is. list_carried, λ none. refl);
        lazy = refl;
      },
      tt,
    ),
  );
}

pub is_schema : IsSchemaOf program schema
is_schema = record {
  numbering = numbering;
  files = record { ordered = files_ordered; exact = λ file. (with_protocol file, among_files file) };
  ids = record { ordered = λ i j d before within. absurd (omega arith); exact = λ d. (with_place d, among_types d) };
  protocols = (manager_is, (managed_is, tt));
  types = ((refl, (record { name = refl; shape = (Builtin builtin.Int32, finds_int, refl) }, tt)), tt);
}

-- Variants: by the law, what differs from the schema in more than its boxes is not the schema

first_name : Schema → List ℕ
first_name s = elim s.protocols [ [] ↦ [] | p ∷ rest ↦ p.name ]

-- one with the protocols in the order of the files
pub by_files : ¬ IsSchemaOf program (record { protocols = managed_row ∷ manager_row 2 ∷ []; types = types })
unfolding first_name
by_files is = not_from_Decides _ (bytes_eq-Decides (codes "N::PA") (codes "PB")) refl (ap first_name (one_schema program schema _ is_schema is))

numbers_of : Schema → List (List ℕ)
numbers_of s = map (λ p. map (λ m. m.number) p.messages) s.protocols

-- one with messages numbered one by one
pub one_by_one : ¬ IsSchemaOf program (record { protocols = manager_row 1 ∷ managed_row ∷ []; types = types })
unfolding numbers_of
one_by_one is =
    let same : ◌≡◌ {A = List (List ℕ)} ((0 ∷ 2 ∷ []) ∷ (65536 ∷ []) ∷ []) ((0 ∷ 1 ∷ []) ∷ (65536 ∷ []) ∷ []) = ap numbers_of (one_schema program schema _ is_schema is) in
    let numbers : ◌≡◌ {A = ℕ} 2 1 = cc in
    omega arith
