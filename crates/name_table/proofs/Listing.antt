-- How rows grow.
use Rattle.std.proofs.Common.{◌≡◌, ◌⊎◌, inl, inr, ◌∙◌, ◌<◌, ◌≤◌, ◌+◌, ◌||◌, ◌&&◌, not, arith, add-zero, length, take, get_or, ℕ, Bool, true, false, List, [], ◌∷◌, ◌++◌, Option, Some, refl, sym, ap, subst, cond, unwrap_or, option_map, append-nil, append_assoc, map, filter}
use Rattle.std.specs.Prelude.{if◌then◌else◌, ◌==◌}
use Rattle.std.specs.List.{before_first, list_any}
use Rattle.ipdl_base.specs.Words.{short_name}
use Rattle.name_table.proofs.FullNames.{before_first-less, before_first-all, short_name-length}
use Rattle.std.specs.Borrow.{Bor}
use Rattle.std.specs.Str.{bytes_eq}
use Rattle.std.specs.declared.alloc.Global.{Global}
use Rattle.std.specs.declared.vec.Vec.{Vec}
use Rattle.std.proofs.lemmas.List.{take_more, map-append, length-map, length-take}
use Rattle.std.proofs.lemmas.Slice.Eq.{bytes_eq-Decides}
use Rattle.indexmap.specs.IndexMap.{IndexMap, get_by}
use Rattle.ipdl_syntax.specs.declared.program.Entry.{Entry}
use Rattle.name_table.specs.declared.decl.DeclId.{DeclId}
use Rattle.name_table.specs.declared.decl.DeclId.TheVariants.{Using, Struct, Union}
use Rattle.name_table.specs.Rows.{row_of, Lists, listed_under, is_listed_under, numbered, protocol_in, declared_in, declared_from, AreRows}

pub bytes_eq-same : (xs : List ℕ) → bytes_eq xs xs ≡ true
bytes_eq-same xs = (bytes_eq-Decides xs xs).1 refl

pub bytes_eq-flip : (xs ys : List ℕ) → bytes_eq xs ys ≡ bytes_eq ys xs
bytes_eq-flip xs ys = go (bytes_eq xs ys) (bytes_eq ys xs) refl refl
  where
    go : (a b : Bool) → bytes_eq xs ys ≡ a → bytes_eq ys xs ≡ b → a ≡ b
    go true true p q = refl
    go false false p q = refl
    go true false p q = sym ((bytes_eq-Decides ys xs).1 (sym ((bytes_eq-Decides xs ys).0 p))) ∙ q
    go false true p q = sym p ∙ (bytes_eq-Decides xs ys).1 (sym ((bytes_eq-Decides ys xs).0 q))

-- the row of one text has one more declaration, and all other rows are as before
pub listed_one : {S : Type 0} (old new : IndexMap (Bor (List ℕ)) (Vec DeclId Global) S) (text : Bor (List ℕ)) (w : Vec DeclId Global) (id : DeclId)
    → ((q : Bor (List ℕ)) → get_by (λ k. bytes_eq q.now k.now) new ≡ cond (bytes_eq text.now q.now) (Some w) (get_by (λ k. bytes_eq q.now k.now) old))
    → w.items ≡ row_of old text.now ++ id ∷ []
    → (other : List ℕ) → row_of new other ≡ row_of old other ++ (if bytes_eq other text.now then id ∷ [] else [])
listed_one old new text w id updates grown other =
    ap (λ (o : Option (Vec DeclId Global)). unwrap_or (option_map (λ row. row.items) o) []) (updates (record text { now = other }))
    ∙ by (bytes_eq text.now other) refl
  where
    by : (b : Bool) → bytes_eq text.now other ≡ b
        → unwrap_or (option_map (λ row. row.items) (cond b (Some w) (get_by (λ k. bytes_eq other k.now) old))) [] ≡ row_of old other ++ (if bytes_eq other text.now then id ∷ [] else [])
    by true e =
        let same : text.now ≡ other = (bytes_eq-Decides text.now other).0 e in
        grown ∙ ap (λ (t : List ℕ). row_of old t ++ id ∷ []) same ∙ ap (λ (b : Bool). row_of old other ++ (if b then id ∷ [] else [])) (sym (bytes_eq-flip other text.now ∙ e))
    by false e = sym (append-nil (row_of old other)) ∙ ap (λ (b : Bool). row_of old other ++ (if b then id ∷ [] else [])) (sym (bytes_eq-flip other text.now ∙ e))

-- the same from a map that is the old one
pub listed_after : {S : Type 0} (old mid new : IndexMap (Bor (List ℕ)) (Vec DeclId Global) S) (text : Bor (List ℕ)) (w : Vec DeclId Global) (id : DeclId)
    → mid ≡ old
    → ((q : Bor (List ℕ)) → get_by (λ k. bytes_eq q.now k.now) new ≡ cond (bytes_eq text.now q.now) (Some w) (get_by (λ k. bytes_eq q.now k.now) mid))
    → w.items ≡ row_of old text.now ++ id ∷ []
    → (other : List ℕ) → row_of new other ≡ row_of old other ++ (if bytes_eq other text.now then id ∷ [] else [])
listed_after {S} old mid new text w id same updates grown =
    listed_one old new text w id (λ q. updates q ∙ ap (λ (m : IndexMap (Bor (List ℕ)) (Vec DeclId Global) S). cond (bytes_eq text.now q.now) (Some w) (get_by (λ k. bytes_eq q.now k.now) m)) same) grown

abbrev is_open : ℕ → Bool
is_open b = b == 60

listed_single : (text full : List ℕ) (id : DeclId) (b : Bool) → is_listed_under text full ≡ b → listed_under text ((id, full) ∷ []) ≡ (if b then id ∷ [] else [])
listed_single text full id true e = ap (λ (t : Bool). map (λ (p : DeclId × List ℕ). p.0) (cond t ((id, full) ∷ []) [])) e
listed_single text full id false e = ap (λ (t : Bool). map (λ (p : DeclId × List ℕ). p.0) (cond t ((id, full) ∷ []) [])) e

-- whether a full name is listed under a text, by parts
by_parts : (text full : List ℕ) (one two bare : Bool) → bytes_eq text (before_first is_open full) ≡ one → list_any is_open full ≡ bare → bytes_eq text (short_name full) ≡ two
    → is_listed_under text full ≡ one || (not bare && two)
by_parts text full one two bare p q r =
    ap (λ (t : Bool). t || (not (list_any is_open full) && bytes_eq text (short_name full))) p
    ∙ ap (λ (t : Bool). one || (not t && bytes_eq text (short_name full))) q
    ∙ ap (λ (t : Bool). one || (not bare && t)) r

-- all of a full name has no `<`
pub front_all : (full front : List ℕ) → front ≡ before_first is_open full → length front ≡ length full → list_any is_open full ≡ false
front_all full front e same = go (list_any is_open full) refl
  where
    go : (b : Bool) → list_any is_open full ≡ b → list_any is_open full ≡ false
    go true q =
        let less = before_first-less is_open full q in
        absurd (omega (arith, less, ap length e, same))
    go false q = q

pub front_part : (full front : List ℕ) → front ≡ before_first is_open full → ¬ (length front ≡ length full) → list_any is_open full ≡ true
front_part full front e apart = go (list_any is_open full) refl
  where
    go : (b : Bool) → list_any is_open full ≡ b → list_any is_open full ≡ true
    go true q = q
    go false q = absurd (apart (ap length (e ∙ before_first-all is_open full q)))

-- listed under the part before its argument and its short name, which differ
pub listed_both : (full front last : List ℕ) (id : DeclId) → front ≡ before_first is_open full → length front ≡ length full → last ≡ short_name full → length last < length full
    → (text : List ℕ) → (if bytes_eq text front then id ∷ [] else []) ++ (if bytes_eq text last then id ∷ [] else []) ≡ listed_under text ((id, full) ∷ [])
listed_both full front last id e same f less text = go (bytes_eq text front) (bytes_eq text last) refl refl
  where
    bare : list_any is_open full ≡ false
    bare = front_all full front e same

    go : (one two : Bool) → bytes_eq text front ≡ one → bytes_eq text last ≡ two
        → (if one then id ∷ [] else []) ++ (if two then id ∷ [] else []) ≡ listed_under text ((id, full) ∷ [])
    go true true p q =
        let t : front ≡ last = sym ((bytes_eq-Decides text front).0 p) ∙ (bytes_eq-Decides text last).0 q in
        absurd (omega (arith, ap length t, same, less))
    go true false p q = sym (listed_single text full id true (by_parts text full true false false (ap (bytes_eq text) (sym e) ∙ p) bare (ap (bytes_eq text) (sym f) ∙ q)))
    go false true p q = sym (listed_single text full id true (by_parts text full false true false (ap (bytes_eq text) (sym e) ∙ p) bare (ap (bytes_eq text) (sym f) ∙ q)))
    go false false p q = sym (listed_single text full id false (by_parts text full false false false (ap (bytes_eq text) (sym e) ∙ p) bare (ap (bytes_eq text) (sym f) ∙ q)))

-- listed under the part before its argument alone: its short name is all of it, or it has no short name
pub listed_front : (full front last : List ℕ) (id : DeclId) → front ≡ before_first is_open full → last ≡ short_name full
    → ((length front ≡ length full) × (length full ≤ length last)) ⊎ ¬ (length front ≡ length full)
    → (text : List ℕ) → (if bytes_eq text front then id ∷ [] else []) ≡ listed_under text ((id, full) ∷ [])
listed_front full front last id e f (inr apart) text = go (bytes_eq text front) (bytes_eq text last) refl refl
  where
    go : (one two : Bool) → bytes_eq text front ≡ one → bytes_eq text last ≡ two → (if one then id ∷ [] else []) ≡ listed_under text ((id, full) ∷ [])
    go true two p q = sym (listed_single text full id true (by_parts text full true two true (ap (bytes_eq text) (sym e) ∙ p) (front_part full front e apart) (ap (bytes_eq text) (sym f) ∙ q)))
    go false two p q = sym (listed_single text full id false (by_parts text full false two true (ap (bytes_eq text) (sym e) ∙ p) (front_part full front e apart) (ap (bytes_eq text) (sym f) ∙ q)))
listed_front full front last id e f (inl long) text = go (bytes_eq text front) refl
  where
    bare : list_any is_open full ≡ false
    bare = front_all full front e long.0

    all : short_name full ≡ full
    all = elim (short_name-length full) [ inl less ↦ absurd (omega (arith, less, long.1, ap length f)) | inr same ↦ same ]

    same : front ≡ short_name full
    same = e ∙ before_first-all is_open full bare ∙ sym all

    go : (one : Bool) → bytes_eq text front ≡ one → (if one then id ∷ [] else []) ≡ listed_under text ((id, full) ∷ [])
    go true p = sym (listed_single text full id true (by_parts text full true true false (ap (bytes_eq text) (sym e) ∙ p) bare (ap (bytes_eq text) (sym same) ∙ p)))
    go false p = sym (listed_single text full id false (by_parts text full false false false (ap (bytes_eq text) (sym e) ∙ p) bare (ap (bytes_eq text) (sym same) ∙ p)))

-- the listed declarations of two lists
pub listed_under-append : (text : List ℕ) (xs ys : List (DeclId × List ℕ)) → listed_under text (xs ++ ys) ≡ listed_under text xs ++ listed_under text ys
listed_under-append text [] ys = refl
listed_under-append text (x ∷ xs) ys = go (is_listed_under text x.1) (listed_under-append text xs ys)
  where
    go : (b : Bool) → listed_under text (xs ++ ys) ≡ listed_under text xs ++ listed_under text ys
        → map (λ (p : DeclId × List ℕ). p.0) (cond b (x ∷ filter (λ p. is_listed_under text p.1) (xs ++ ys)) (filter (λ p. is_listed_under text p.1) (xs ++ ys)))
        ≡ map (λ (p : DeclId × List ℕ). p.0) (cond b (x ∷ filter (λ p. is_listed_under text p.1) xs) (filter (λ p. is_listed_under text p.1) xs)) ++ listed_under text ys
    go true h = ap (λ ds. x.0 ∷ ds) h
    go false h = h

-- nothing was listed
pub lists_none : {S : Type 0} (rows : IndexMap (Bor (List ℕ)) (Vec DeclId Global) S) → Lists [] rows rows
lists_none rows text = sym (append-nil (row_of rows text))

-- first these were listed, and then those
pub lists_more : {S : Type 0} (these those : List (DeclId × List ℕ)) (a b c : IndexMap (Bor (List ℕ)) (Vec DeclId Global) S) → Lists these a b → Lists those b c → Lists (these ++ those) a c
lists_more these those a b c p q text =
    q text ∙ ap (λ ds. ds ++ listed_under text those) (p text) ∙ append_assoc (row_of a text) (listed_under text these) (listed_under text those)
    ∙ ap (λ ds. row_of a text ++ ds) (sym (listed_under-append text these those))

-- a list with one more name as declarations
pub numbered-more : (make : ℕ → DeclId) (place : ℕ) (names : List (List ℕ)) (full : List ℕ) → numbered make place (names ++ full ∷ []) ≡ numbered make place names ++ (make (place + length names), full) ∷ []
numbered-more make place [] full = ap (λ n. (make n, full) ∷ []) (omega arith)
numbered-more make place (name ∷ names) full =
    let at : place + 1 + length names ≡ place + length (name ∷ names) = omega arith in
    ap (λ ds. (make place, name) ∷ ds) (numbered-more make (place + 1) names full ∙ ap (λ n. numbered make (place + 1) names ++ (make n, full) ∷ []) at)

-- two additions in a row
pub added_twice : (old mid new one two both : List DeclId) → mid ≡ old ++ one → new ≡ mid ++ two → one ++ two ≡ both → new ≡ old ++ both
added_twice old mid new one two both p q e = q ∙ ap (λ ds. ds ++ two) p ∙ append_assoc old one two ∙ ap (λ ds. old ++ ds) e

-- one more of a list of declarations was listed
pub lists_next : {X S : Type 0} (full_of : X → List ℕ) (make : ℕ → DeclId) (xs : List X) (i : ℕ) (x : X) (full : List ℕ) (a b c : IndexMap (Bor (List ℕ)) (Vec DeclId Global) S)
    → i < length xs → x ≡ get_or xs i x → full ≡ full_of x
    → Lists (numbered make 0 (map full_of (take i xs))) a b → Lists ((make i, full) ∷ []) b c → Lists (numbered make 0 (map full_of (take (i + 1) xs))) a c
lists_next full_of make xs i x full a b c below at is p q =
    subst (λ (ds : List (DeclId × List ℕ)). Lists ds a c) (sym same) (lists_more _ _ a b c p q)
  where
    taken : map full_of (take (i + 1) xs) ≡ map full_of (take i xs) ++ full ∷ []
    taken = ap (map full_of) (take_more xs i x below ∙ ap (λ y. take i xs ++ y ∷ []) (sym at)) ∙ map-append full_of (take i xs) (x ∷ []) ∙ ap (λ f. map full_of (take i xs) ++ f ∷ []) (sym is)

    size : 0 + length (map full_of (take i xs)) ≡ i
    size = omega (arith, length-map (take i xs) full_of, length-take i xs, below)

    same : numbered make 0 (map full_of (take (i + 1) xs)) ≡ numbered make 0 (map full_of (take i xs)) ++ (make i, full) ∷ []
    same = ap (numbered make 0) taken ∙ numbered-more make 0 (map full_of (take i xs)) full ∙ ap (λ n. numbered make 0 (map full_of (take i xs)) ++ (make n, full) ∷ []) size

-- all of a file was listed, part by part
pub lists_file : {S : Type 0} (file : ℕ) (entry : Entry) (us ss ns : List (List ℕ)) (last : List (DeclId × List ℕ)) (a b c d e : IndexMap (Bor (List ℕ)) (Vec DeclId Global) S)
    → us ≡ map (λ u. u.full) entry.unit.usings → ss ≡ map (λ s. s.full) entry.unit.structs → ns ≡ map (λ u. u.full) entry.unit.unions → last ≡ protocol_in file entry.unit.protocol
    → Lists (numbered (Using file) 0 us) a b → Lists (numbered (Struct file) 0 ss) b c → Lists (numbered (Union file) 0 ns) c d → Lists last d e
    → Lists (declared_in file entry) a e
lists_file file entry us ss ns last a b c d e one two three four p q r s =
    lists_more _ _ a b e (subst (λ (xs : List (List ℕ)). Lists (numbered (Using file) 0 xs) a b) one p)
    (lists_more _ _ b c e (subst (λ (xs : List (List ℕ)). Lists (numbered (Struct file) 0 xs) b c) two q)
    (lists_more _ _ c d e (subst (λ (xs : List (List ℕ)). Lists (numbered (Union file) 0 xs) c d) three r)
    (subst (λ (ds : List (DeclId × List ℕ)). Lists ds d e) four s)))

-- the declarations of one more file come last
declared_from-more : (file : ℕ) (program : List Entry) (entry : Entry) → declared_from file (program ++ entry ∷ []) ≡ declared_from file program ++ declared_in (file + length program) entry
declared_from-more file [] entry = append-nil (declared_in file entry) ∙ ap (λ n. declared_in n entry) (sym (add-zero file))
declared_from-more file (e ∷ program) entry =
    let at : file + 1 + length program ≡ file + length (e ∷ program) = omega arith in
    ap (λ ds. declared_in file e ++ ds) (declared_from-more (file + 1) program entry ∙ ap (λ n. declared_from (file + 1) program ++ declared_in n entry) at)
    ∙ sym (append_assoc (declared_in file e) (declared_from (file + 1) program) (declared_in (file + length (e ∷ program)) entry))

-- one more file was listed
pub rows_next : {S : Type 0} (program : List Entry) (i : ℕ) (entry : Entry) (b c : IndexMap (Bor (List ℕ)) (Vec DeclId Global) S)
    → i < length program → entry ≡ get_or program i entry → AreRows (take i program) b → Lists (declared_in i entry) b c → AreRows (take (i + 1) program) c
rows_next program i entry b c below at p q text =
    q text ∙ ap (λ ds. ds ++ listed_under text (declared_in i entry)) (p text) ∙ sym (listed_under-append text (declared_from 0 (take i program)) (declared_in i entry)) ∙ ap (listed_under text) (sym same)
  where
    size : 0 + length (take i program) ≡ i
    size = omega (arith, length-take i program, below)

    same : declared_from 0 (take (i + 1) program) ≡ declared_from 0 (take i program) ++ declared_in i entry
    same = ap (declared_from 0) (take_more program i entry below ∙ ap (λ e. take i program ++ e ∷ []) (sym at)) ∙ declared_from-more 0 (take i program) entry ∙ ap (λ n. declared_from 0 (take i program) ++ declared_in n entry) size
