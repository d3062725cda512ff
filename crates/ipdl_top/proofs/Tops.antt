-- A program that breaks no rule has a protocol with the name of the command's file.
use Rattle.std.proofs.Common.{◌≡◌, ◌≢◌, ◌∙◌, ◌<◌, ◌+◌, ◌-◌, ◌==◌, ◌&&◌, ℕ, zero, suc, Bool, true, false, cond, List, [], ◌∷◌, ◌++◌, take, drop, length, Option, Some, slice_get, refl, sym, ap, subst, arith, inl, inr, codes, true≢false}
use Rattle.std.specs.Prelude.{IsSome, IsSomeAnd, nat_eq}
use Rattle.std.specs.List.{Contains, position_or_len}
use Rattle.std.specs.Str.{bytes_eq}
use Rattle.std.proofs.lemmas.Bool.{cases_Bool}
use Rattle.std.proofs.Math.Seq.{drop-append_seam}
use Rattle.std.proofs.lemmas.List.{length-append, take-append-drop}
use Rattle.std.proofs.lemmas.Slice.Eq.{bytes_eq-Decides}
use Rattle.std.specs.Cmp.Lexicographic.{pointwise}
use Rattle.ipdl_base.specs.Outside.{FileMap}
use Rattle.ipdl_base.specs.declared.finding.TheConstants.Rule as rule
use Rattle.ipdl_base.specs.declared.schema.ProtocolRow.{ProtocolRow}
use Rattle.ipdl_base.specs.declared.schema.Schema.{Schema}
use Rattle.ipdl_base.specs.FileNames.{key_of}
use Rattle.ipdl_base.specs.Words.{short_name}
use Rattle.ipdl_syntax.specs.declared.program.Entry.{Entry}
use Rattle.ipdl_syntax.specs.declared.tree.FileKind.{FileKind}
use Rattle.ipdl_syntax.specs.declared.tree.FileKind.TheVariants as file_kind
use Rattle.ipdl_syntax.specs.declared.tree.ProtocolDecl.{ProtocolDecl}
use Rattle.ipdl_syntax.specs.Programs.{IsProgram}
use Rattle.ipdl_syntax.specs.Units.{IsOfKind}
use Rattle.include_graph.specs.Keys.{HasKind, word_keys}
use Rattle.include_graph.specs.Load.{IsProgramOf, keys_of}
use Rattle.include_graph.specs.Sources.{LoadInput}
use Rattle.command_words.proofs.Comparisons.{same_text, text_is}
use Rattle.include_graph.proofs.OneUnit.{kind_one}
use Rattle.include_graph.proofs.WholeKeys.{ends_so}
use Rattle.name_table.specs.Decls.{protocol_of}
use Rattle.program_schema.proofs.Lists.{place_in}
use Rattle.program_schema.proofs.Numberings.{some_of}
use Rattle.program_schema.specs.SchemaOf.{AreRows, IsProtocolRow, IsSchemaOf}
use Rattle.ipdl_top.specs.declared.checked.CheckResult.{CheckResult}
use Rattle.ipdl_top.specs.declared.checked.CheckResult.TheVariants.{Broken, Clean}
use Rattle.ipdl_top.specs.Steps.{HasTop, IsChecked}
use Rattle.ipdl_top.specs.Waits.{IsTop, bears_name}

-- Places

pub position-cons : {X : Type 0} (p : X → Bool) (x : X) (xs : List X) → position_or_len p (x ∷ xs) ≡ cond (p x) 0 (1 + position_or_len p xs)
position-cons p x xs = elim (cases_Bool (p x)) [ inl t ↦ rw t refl | inr f ↦ rw f refl ]

-- where one passes, the first that passes is there
first-there : {X : Type 0} (p : X → Bool) (xs : List X) (i : ℕ) (x : X) → slice_get xs i ≡ Some x → p x ≡ true → position_or_len p xs < length xs
first-there p [] i x at passes = absurd (let no : ⊥ = cc in no)
first-there p (y ∷ xs) zero x at passes =
    let same : y ≡ x = cc in
    let here : position_or_len p (y ∷ xs) ≡ 0 = position-cons p y xs ∙ ap (λ (b : Bool). cond b 0 (1 + position_or_len p xs)) (ap p same ∙ passes) in
    omega (arith, here)
first-there p (y ∷ xs) (suc i) x at passes =
    let more = first-there p xs i x at passes in
    elim (cases_Bool (p y)) [
      | inl t ↦ (let here : position_or_len p (y ∷ xs) ≡ 0 = position-cons p y xs ∙ ap (λ (b : Bool). cond b 0 (1 + position_or_len p xs)) t in omega (arith, here))
      | inr f ↦ (let here : position_or_len p (y ∷ xs) ≡ 1 + position_or_len p xs = position-cons p y xs ∙ ap (λ (b : Bool). cond b 0 (1 + position_or_len p xs)) f in omega (arith, here, more))
    ]

-- the row beside an element
row-beside : {X Y : Type 0} (R : ℕ → X → Y → Type 0) (index : ℕ) (xs : List X) (ys : List Y) → AreRows R index xs ys → (k : ℕ) (x : X) → slice_get xs k ≡ Some x → (y : Y) × (slice_get ys k ≡ Some y) × R (index + k) x y
row-beside R index [] [] are k x at = absurd (let no : ⊥ = cc in no)
row-beside R index [] (y ∷ ys) are k x at = absurd are
row-beside R index (z ∷ xs) [] are k x at = absurd are
row-beside R index (z ∷ xs) (y ∷ ys) are zero x at =
    let same : z ≡ x = cc in
    (y, refl, subst (λ n. R n x y) (omega arith) (subst (λ w. R index w y) same are.0))
row-beside R index (z ∷ xs) (y ∷ ys) are (suc k) x at =
    let more = row-beside R (index + 1) xs ys are.1 k x at in
    (more.0, more.1, subst (λ n. R n x more.0) (omega arith) more.2)

-- Keys

-- the one word's key is the first
no-program : (given : LoadInput) (file : List ℕ) → given.words ≡ file ∷ [] → ¬ IsProgramOf given []
no-program given file words is =
    let none : [] ≡ key_of file ∷ is.reach.reached.further = subst (λ ws. keys_of [] ≡ word_keys ws ++ is.reach.reached.further) words is.reach.reached.begins in
    let no : ⊥ = cc in no

key-first : (given : LoadInput) (e : Entry) (rest : List Entry) (file : List ℕ) → given.words ≡ file ∷ [] → IsProgramOf given (e ∷ rest) → e.key ≡ key_of file
key-first given e rest file words is =
    let begins : e.key ∷ keys_of rest ≡ key_of file ∷ is.reach.reached.further = subst (λ ws. keys_of (e ∷ rest) ≡ word_keys ws ++ is.reach.reached.further) words is.reach.reached.begins in
    let key : e.key ≡ key_of file = cc in key

-- the key of a file that ends as those of protocols do
protocol-key : (file front : List ℕ) → file ≡ front ++ codes ".ipdl" → HasKind (key_of file) file_kind.Protocol
protocol-key file front ends = subst (λ f. HasKind (key_of f) file_kind.Protocol) (sym ends) (ends_so front file_kind.Protocol)

-- so its file has a protocol
has-protocol : (e : Entry) (kind : FileKind) → HasKind e.key kind → HasKind e.key file_kind.Protocol → IsOfKind kind e.unit → IsSome e.unit.protocol
has-protocol e kind is wanted unit = subst (λ k. IsOfKind k e.unit) (kind_one e.key kind file_kind.Protocol is wanted) unit

-- which has the name of the file, since no rule is broken
bears : (given : LoadInput) (e : Entry) (rest : List Entry) (p : ProtocolDecl) → IsProgramOf given (e ∷ rest) → e.unit.protocol ≡ Some p → bytes_eq (short_name p.full ++ codes ".ipdl") e.key ≡ true
bears given e rest p is protocol = elim (cases_Bool (bytes_eq (short_name p.full ++ codes ".ipdl") e.key)) [
  | inl t ↦ t
  | inr f ↦ absurd (is.clean (record { place = p.place; rule = rule.MISNAMED_PROTOCOL }) (inr (inr (inr (inl (refl, (0, e.key, refl, (e.unit, (is.entries 0 e refl).unit, misnamed f))))))))
]
  where
    misnamed : bytes_eq (short_name p.full ++ codes ".ipdl") e.key ≡ false → IsSomeAnd e.unit.protocol (λ q. (q.place ≡ p.place) × (short_name q.full ++ codes ".ipdl" ≢ e.key))
    misnamed f = subst (λ o. IsSomeAnd o (λ q. (q.place ≡ p.place) × (short_name q.full ++ codes ".ipdl" ≢ e.key))) (sym protocol) (refl, λ same. differ f same)
      where
        differ : bytes_eq (short_name p.full ++ codes ".ipdl") e.key ≡ false → short_name p.full ++ codes ".ipdl" ≢ e.key
        differ f same = true≢false (sym (same_text e.key) ∙ ap (λ t. bytes_eq t e.key) (sym same) ∙ f)

-- The row of the first file's protocol has the name too.
row-bears : (given : LoadInput) (e : Entry) (rest : List Entry) (p : ProtocolDecl) (schema : Schema) → IsProgramOf given (e ∷ rest) → e.unit.protocol ≡ Some p → IsSchemaOf (e ∷ rest) schema
    → (i : ℕ) × (row : ProtocolRow) × (slice_get schema.protocols i ≡ Some row) × (bytes_eq (short_name row.name ++ codes ".ipdl") e.key ≡ true)
row-bears given e rest p schema is protocol of =
    let listed : Contains of.numbering.files 0 = (of.files.exact 0).1 (subst IsSome (sym protocol) refl) in
    let place = place_in of.numbering.files 0 listed in
    let beside = row-beside (λ number file row. IsSomeAnd (protocol_of (e ∷ rest) file) (λ q. IsProtocolRow (e ∷ rest) of.numbering schema.types number file q row)) 0 of.numbering.files schema.protocols of.protocols place.0 0 place.1 in
    let same : protocol_of (e ∷ rest) 0 ≡ Some p = protocol in
    let row : IsSomeAnd (Some p) (λ q. IsProtocolRow (e ∷ rest) of.numbering schema.types (0 + place.0) 0 q beside.0) =
    subst (λ (o : Option ProtocolDecl). IsSomeAnd o (λ q. IsProtocolRow (e ∷ rest) of.numbering schema.types (0 + place.0) 0 q beside.0)) same beside.2 in
    (place.0, beside.0, beside.1, subst (λ name. bytes_eq (short_name name ++ codes ".ipdl") e.key ≡ true) (sym row.name) (bears given e rest p is protocol))

top-of : (given : LoadInput) (schema : Schema) (file front : List ℕ) (program : List Entry) → given.words ≡ file ∷ [] → file ≡ front ++ codes ".ipdl" → IsProgramOf given program → IsProgram program → IsSchemaOf program schema → (top : ℕ) × IsTop file schema top
top-of given schema file front [] words ends is whole of = absurd (no-program given file words is)
top-of given schema file front (e ∷ rest) words ends is whole of =
    let key = key-first given e rest file words is in
    let keyed = (whole.entries 0 e refl).keyed in
    let there = has-protocol e keyed.kind (keyed.front, keyed.key) (subst (λ k. HasKind k file_kind.Protocol) (sym key) (protocol-key file front ends)) keyed.unit in
    let p = some_of e.unit.protocol there in
    let row = row-bears given e rest p.0 schema is p.1 of in (
      position_or_len (bears_name file) schema.protocols,
      record {
        there = first-there (bears_name file) schema.protocols row.0 row.1 row.2 (subst (λ k. bytes_eq (short_name row.1.name ++ codes ".ipdl") k ≡ true) key row.3);
        first = refl;
      },
    )

-- If the words are one file of a protocol, what was found of it has a protocol with its name.
pub has_top : (given : LoadInput) (lists : FileMap) (list : Option (List ℕ)) (file front : List ℕ) → given.words ≡ file ∷ [] → file ≡ front ++ codes ".ipdl" → (checked : CheckResult) → IsChecked given lists list checked → HasTop file checked
has_top given lists list file front words ends (Broken report) h = tt
has_top given lists list file front words ends (Clean schema) h = top-of given schema file front h.0.program words ends h.0.reading.is_program h.0.reading.whole h.0.schema_of

-- Names

unlike : (a b : List ℕ) → a ≢ b → bytes_eq a b ≡ false
unlike a b differ = elim (cases_Bool (bytes_eq a b)) [ inl t ↦ absurd (differ (text_is a b t)) | inr f ↦ f ]

shorter : (x : ℕ) (xs e : List ℕ) → e ≢ x ∷ xs ++ e
shorter x xs e same =
    let long : length e ≡ suc (length xs + length e) = ap length same ∙ ap suc (length-append xs e) in
    omega (arith, long)

-- two texts with one ending are the same if their prefixes are
pub ending-cancel : (xs ys e : List ℕ) → bytes_eq (xs ++ e) (ys ++ e) ≡ bytes_eq xs ys
ending-cancel [] [] e = same_text e
ending-cancel [] (y ∷ ys) e = unlike e (y ∷ ys ++ e) (shorter y ys e)
ending-cancel (x ∷ xs) [] e = unlike (x ∷ xs ++ e) e (λ same. shorter x xs e (sym same))
ending-cancel (x ∷ xs) (y ∷ ys) e = ap (λ (b : Bool). (x == y) && b) (ending-cancel xs ys e)

-- a text with an ending is no text without it
pub no-ending : (xs e text : List ℕ) → ((front : List ℕ) → text ≢ front ++ e) → bytes_eq (xs ++ e) text ≡ false
no-ending xs e text none = unlike (xs ++ e) text (λ same. none xs (sym same))

-- what is cut off at the end of a text, if it is there

cut : (name text : List ℕ) → pointwise nat_eq (drop (length text - 5) text) (codes ".ipdl") ≡ true → name ≡ take (length text - 5) text → text ≡ name ++ codes ".ipdl"
cut name text last front =
    sym (take-append-drop (length text - 5) text) ∙ ap (λ xs. take (length text - 5) text ++ xs) ((bytes_eq-Decides (drop (length text - 5) text) (codes ".ipdl")).0 last) ∙ ap (λ xs. xs ++ codes ".ipdl") (sym front)

pub bears-cut : (own name text : List ℕ) → pointwise nat_eq (drop (length text - 5) text) (codes ".ipdl") ≡ true → name ≡ take (length text - 5) text → bytes_eq own name ≡ bytes_eq (own ++ codes ".ipdl") text
bears-cut own name text last front = sym (ending-cancel own name (codes ".ipdl")) ∙ ap (bytes_eq (own ++ codes ".ipdl")) (sym (cut name text last front))

uncut : (text front : List ℕ) → text ≡ front ++ codes ".ipdl" → drop (length text - 5) text ≡ codes ".ipdl"
uncut text front e =
    let long : length text - 5 ≡ length front = (let whole : length text ≡ length front + 5 = ap length e ∙ length-append front (codes ".ipdl") in omega (arith, whole)) in
    ap (λ n. drop n text) long ∙ ap (drop (length front)) e ∙ drop-append_seam front (codes ".ipdl")

pub bears-none : (own text : List ℕ) → pointwise nat_eq (drop (length text - 5) text) (codes ".ipdl") ≡ false → false ≡ bytes_eq (own ++ codes ".ipdl") text
bears-none own text differ =
    sym (no-ending own (codes ".ipdl") text (λ front e. true≢false (sym ((bytes_eq-Decides (drop (length text - 5) text) (codes ".ipdl")).1 (uncut text front e)) ∙ differ)))
