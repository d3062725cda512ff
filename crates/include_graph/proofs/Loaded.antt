-- The result of the files that were read: a program if no rule is broken, or else a report.
use Rattle.std.proofs.Common.{◌≡◌, ◌≢◌, inl, inr, ℕ, zero, suc, ◌<◌, List, [], ◌∷◌, ◌++◌, length, map, take, get_or, is_some, refl, sym, ◌∙◌, ap, subst, arith}
use Rattle.std.specs.Prelude.{Option, Some, None, slice_get, unwrap_or, IfSome, IsSomeAnd, option_map, ◌↔◌}
use Rattle.std.specs.List.{AllByRecursion, AllPairs, AllZip, Any, Contains}
use Rattle.std.specs.Option.{option_and_then}
use Rattle.std.proofs.lemmas.List.{length-map, get_or-map}
use Rattle.std.proofs.lemmas.List.Elements.{Contains-append_cases, Contains-append_left, Contains-append_right, recursion_from_All}
use Rattle.std.proofs.lemmas.Option.{same_Some, slice_get_within, slice_get_read, slice_get-get_or, slice_get-map, get_or_from_slice_get}
use Rattle.ipdl_base.specs.declared.finding.Finding.{Finding}
use Rattle.ipdl_base.specs.declared.finding.TheConstants.Rule as rule
use Rattle.ipdl_base.specs.Words.{short_name}
use Rattle.ipdl_lex.specs.Laws.{WordsHold}
use Rattle.ipdl_syntax.specs.declared.program.Entry.{Entry}
use Rattle.ipdl_syntax.specs.declared.tree.FileKind.TheVariants as file
use Rattle.ipdl_syntax.specs.declared.tree.Include.{Include}
use Rattle.ipdl_syntax.specs.declared.tree.ProtocolDecl.{ProtocolDecl}
use Rattle.ipdl_syntax.specs.declared.tree.Unit.{Unit as FileUnit}
use Rattle.ipdl_syntax.specs.Programs.{ending, named_key, named_keys, BearTheirNames, IsEntry, IsProgram}
use Rattle.grammar_laws.specs.Laws.{FilesHold, NamesHold, PlacesHold}
use Rattle.include_graph.specs.declared.content.Content.{Content}
use Rattle.include_graph.specs.declared.content.Content.TheVariants.{Absent, Large, BadToken, SyntaxFault, Read}
use Rattle.include_graph.specs.declared.walk.ReachedFile.{ReachedFile}
use Rattle.include_graph.specs.declared.walk.Target.{Target}
use Rattle.include_graph.specs.declared.walk.Target.TheVariants.{Nothing, LeftOut, File}
use Rattle.include_graph.specs.Additions.{finding_at, IsFoundOf}
use Rattle.include_graph.specs.Growth.{HasWords}
use Rattle.include_graph.specs.Keys.{is_same}
use Rattle.include_graph.specs.Load.{keys_of, IsEntryOf, IsProgramOf, AreBrokenFiles}
use Rattle.include_graph.specs.Reading.{IsContent, IsTarget, AreTargets, AreRead, IsGathered, IsReached, IsOfTree, IsEntryFrom, AreEntriesFrom, row_of, rows_of, numbers_of}
use Rattle.include_graph.specs.Reach.{IsUnitOf, Names, AreNamed, IsReach, all_named}
use Rattle.include_graph.specs.Rules.{whole_file, IsBroken}
use Rattle.include_graph.specs.Sources.{LoadInput, word_of, read_name, content, text_of, IsAbsent}
use Rattle.include_graph.proofs.Contents.{OneAnswer, unit_is}
use Rattle.ipdl_base.proofs.Ends.{by_test, same_is}
use Rattle.include_graph.proofs.Ends.{other_is}
use Rattle.include_graph.proofs.Exact.{file_of, found_for, sound, complete}
use Rattle.include_graph.proofs.Places.{in_none}
use Rattle.include_graph.proofs.WalkEnds.{contains_at, zip_at, there_is}

-- the laws of texts and trees
pub record Laws : Type 0 where
  pub answer : OneAnswer
  pub words : WordsHold
  pub files : FilesHold
  pub names : NamesHold
  pub places : PlacesHold

-- a key that files name is named by one of them
named_by : (files : List ReachedFile) (key : List ℕ) → Contains (all_named (rows_of files)) key → (n : ℕ) × (f : ReachedFile) × (slice_get files n ≡ Some f) × Contains (row_of f.source.content) key
named_by [] key c = absurd (in_none key c)
named_by (f ∷ files) key c = elim (Contains-append_cases (row_of f.source.content) (all_named (rows_of files)) key c) [
  | inl here ↦ (0, f, refl, here)
  | inr there ↦ (let r = named_by files key there in (suc r.0, r.1, r.2, r.3))
]

-- a key that includes name is named by one of them
pub included_by : (includes : List Include) (key : List ℕ) → Contains (named_keys includes) key → (n : ℕ) × (i : Include) × (slice_get includes n ≡ Some i) × Contains (named_key i.kind i.name) key
included_by [] key c = absurd (in_none key c)
included_by (i ∷ is) key c = elim (Contains-append_cases (named_key i.kind i.name) (named_keys is) key c) [
  | inl here ↦ (0, i, refl, here)
  | inr there ↦ (let r = included_by is key there in (suc r.0, r.1, r.2, r.3))
]

pub fewer_named : (rows : List (List (List ℕ))) (n : ℕ) (key : List ℕ) → Contains (all_named (take n rows)) key → Contains (all_named rows) key
fewer_named [] zero key c = c
fewer_named [] (suc n) key c = c
fewer_named (row ∷ rows) zero key c = absurd (in_none key c)
fewer_named (row ∷ rows) (suc n) key c = elim (Contains-append_cases row (all_named (take n rows)) key c) [
  | inl here ↦ Contains-append_left row (all_named rows) key here
  | inr there ↦ Contains-append_right row (all_named rows) key (fewer_named rows n key there)
]

-- lists with the same elements at the same places are the same
pub same_lists : {X : Type 0} (xs ys : List X) → length xs ≡ length ys → ((n : ℕ) (x : X) → slice_get xs n ≡ Some x → slice_get ys n ≡ Some x) → xs ≡ ys
same_lists [] [] size at = refl
same_lists [] (y ∷ ys) size at = absurd (let none : ⊥ = omega arith in none)
same_lists (x ∷ xs) [] size at = absurd (let none : ⊥ = omega arith in none)
same_lists (x ∷ xs) (y ∷ ys) size at =
    let head : y ≡ x = same_Some _ _ (at 0 x refl) in
    let tail : xs ≡ ys = same_lists xs ys (omega arith) (λ n z e. at (suc n) z e) in
    ap (λ z. z ∷ xs) (sym head) ∙ ap (λ zs. y ∷ zs) tail

-- a name that leads to bytes is there
read_is : (files : List ℕ → Option (List ℕ)) (o : Option (List ℕ)) (key bytes : List ℕ) → option_and_then files o ≡ Some bytes → o ≡ Some (unwrap_or o key)
read_is files None key bytes e = absurd (let none : ⊥ = cc in none)
read_is files (Some name) key bytes e = refl

-- the keys of a program
keys_same : (keys : List (List ℕ)) (files : List ReachedFile) (program : List Entry) → AreEntriesFrom keys files program → keys_of program ≡ keys
keys_same [] [] [] m = refl
keys_same [] [] (e ∷ es) m = elim m [ ]
keys_same [] (f ∷ fs) es m = elim m [ ]
keys_same (k ∷ ks) [] es m = elim m [ ]
keys_same (k ∷ ks) (f ∷ fs) [] m = elim m [ ]
keys_same (k ∷ ks) (f ∷ fs) (e ∷ es) m = ap (λ x. x ∷ keys_of es) m.0.has_key ∙ ap (λ xs. k ∷ xs) (keys_same ks fs es m.1)

-- an entry of a program
entry_at : (keys : List (List ℕ)) (files : List ReachedFile) (program : List Entry) (n : ℕ) (entry : Entry) → AreEntriesFrom keys files program → slice_get program n ≡ Some entry
    → (key : List ℕ) × (f : ReachedFile) × (slice_get keys n ≡ Some key) × (slice_get files n ≡ Some f) × IsEntryFrom key f entry
entry_at [] [] [] n entry m e = absurd (let none : ⊥ = cc in none)
entry_at [] [] (x ∷ es) n entry m e = elim m [ ]
entry_at [] (f ∷ fs) es n entry m e = elim m [ ]
entry_at (k ∷ ks) [] es n entry m e = elim m [ ]
entry_at (k ∷ ks) (f ∷ fs) [] n entry m e = elim m [ ]
entry_at (k ∷ ks) (f ∷ fs) (x ∷ es) zero entry m e = (k, f, refl, refl, subst (IsEntryFrom k f) (same_Some _ _ e) m.0)
entry_at (k ∷ ks) (f ∷ fs) (x ∷ es) (suc n) entry m e = entry_at ks fs es n entry m.1 e

-- if no include is left out, the numbers are those of the named keys
numbers : (keys : List (List ℕ)) (is : List Include) (ts : List Target) → AllZip (IsTarget keys) is ts → ((n : ℕ) (i : Include) → slice_get is n ≡ Some i → ¬ IsTarget keys i LeftOut)
    → (map (slice_get keys) (numbers_of ts) ≡ map Some (named_keys is)) × AllByRecursion (λ n. n < length keys) (numbers_of ts)
numbers keys [] [] h none = (refl, tt)
numbers keys [] (t ∷ ts) h none = elim h [ ]
numbers keys (i ∷ is) [] h none = elim h [ ]
numbers keys (i ∷ is) (Nothing ∷ ts) h none =
    let rest = numbers keys is ts h.1 (λ n j e. none (suc n) j e) in
    (rest.0 ∙ ap (λ ks. map Some (ks ++ named_keys is)) (sym h.0), rest.1)
numbers keys (i ∷ is) (LeftOut ∷ ts) h none = absurd (none 0 i refl h.0)
numbers keys (i ∷ is) (File n ∷ ts) h none =
    let rest = numbers keys is ts h.1 (λ m j e. none (suc m) j e) in (
      ap (λ o. o ∷ map (slice_get keys) (numbers_of ts)) h.0.2 ∙ ap (λ os. Some h.0.0 ∷ os) rest.0 ∙ ap (λ ks. map Some (ks ++ named_keys is)) (sym h.0.1),
      (slice_get_within keys n h.0.0 h.0.2, rest.1),
    )

module _ (laws : Laws) (given : LoadInput) (keys : List (List ℕ)) (files : List ReachedFile) (first firsts : List (List ℕ)) (h : HasWords given.words first firsts) (r : AreRead given keys files) where
  -- the rows of the files are the keys that they name
  rows_named : AreNamed given keys (rows_of files)
  rows_named = record {
    size = length-map files (λ (f : ReachedFile). row_of f.source.content) ∙ r.size;
    each = λ number key row a b.
        let f = file_of laws.answer given keys files first firsts h r number key a in
        let is : row_of f.0.source.content ≡ row = same_Some _ _ (sym (slice_get-map (λ (g : ReachedFile). row_of g.source.content) files number ∙ ap (option_map (λ (g : ReachedFile). row_of g.source.content)) f.1) ∙ b) in
        subst (Names number key (content given key)) is (named number key f.0.source.content f.2.source.content);
  }
    where
      none : (number : ℕ) (key : List ℕ) (c : Content) → IsContent number key (content given key) c → ((unit : FileUnit) → ¬ (c ≡ Read unit)) → (unit : FileUnit) → ¬ IsUnitOf number key (content given key) unit
      none number key c g differ unit u = let other = unit_is laws.answer number key (content given key) c unit g u in differ other.0 other.1

      named : (number : ℕ) (key : List ℕ) (c : Content) → IsContent number key (content given key) c → Names number key (content given key) (row_of c)
      named number key Absent g = inr (none number key Absent g (λ unit e. cc), refl)
      named number key Large g = inr (none number key Large g (λ unit e. cc), refl)
      named number key (BadToken place) g = inr (none number key (BadToken place) g (λ unit e. cc), refl)
      named number key (SyntaxFault place) g = inr (none number key (SyntaxFault place) g (λ unit e. cc), refl)
      named number key (Read unit) g = inl (unit, g, refl)

  pub the_reach : IsReach given keys
  the_reach = record { rows = rows_of files; named = rows_named; reached = r.reached }

  -- the names of the files in a report
  pub texts_are : map (λ (f : ReachedFile). f.source.text) files ≡ map (text_of given) keys
  texts_are = same_lists (map (λ (f : ReachedFile). f.source.text) files) (map (text_of given) keys) (length-map files (λ (f : ReachedFile). f.source.text) ∙ (r.size ∙ sym (length-map keys (text_of given)))) (λ n x e.
      let within : n < length files = (let a = slice_get_within (map (λ (f : ReachedFile). f.source.text) files) n x e in omega (arith, length-map files (λ (f : ReachedFile). f.source.text))) in
      let f = there_is files n within in
      let size = r.size in
      let k = there_is keys n (omega arith) in
      let text : f.0.source.text ≡ x = same_Some _ _ (sym (slice_get-map (λ (g : ReachedFile). g.source.text) files n ∙ ap (option_map (λ (g : ReachedFile). g.source.text)) f.1) ∙ e) in
      slice_get-map (text_of given) keys n ∙ ap (option_map (text_of given)) k.1 ∙ ap Some (sym (r.each n k.0 f.0 k.1 f.1).source.called ∙ text))

  module _ (clean : (f : Finding) → ¬ IsBroken given keys f) where
    -- a key of the list is not absent
    not_absent : (number : ℕ) (key : List ℕ) → slice_get keys number ≡ Some key → ¬ IsAbsent given key
    not_absent number key at none = elim (r.reached.earlier number key at) [
      | inl word ↦
          let c : Contains first key = subst (λ ks. Contains ks key) (sym h.keys) word in
          let z = zip_at (λ k v. word_of given.words k ≡ Some v) first firsts c.0 key h.first (slice_get_read first (length first) c.0 key refl c.1 (sym c.2)) in
          clean (finding_at rule.FILE_NOT_FOUND (whole_file number)) (inr (inr (inl (refl, inl (number, key, at, (ap is_some z.2, none, refl))))))
      | inr named ↦
          let by = named_by files key (fewer_named (rows_of files) number key named) in
          let size = r.size in
          let within = slice_get_within files by.0 by.1 by.2 in
          let k = there_is keys by.0 (omega arith) in
          included by.0 k.0 by.1.source.content k.1 (r.each by.0 k.0 by.1 k.1 by.2).source.content by.3
    ]
      where
        included : (n : ℕ) (k : List ℕ) (c : Content) → slice_get keys n ≡ Some k → IsContent n k (content given k) c → Contains (row_of c) key → ⊥
        included n k Absent e g has = in_none key has
        included n k Large e g has = in_none key has
        included n k (BadToken place) e g has = in_none key has
        included n k (SyntaxFault place) e g has = in_none key has
        included n k (Read unit) e g has =
            let i = included_by unit.includes key has in
            let some : Any (λ x. Contains keys x × IsAbsent given x) (named_key i.1.kind i.1.name) = (i.3.0, key, i.3.1, i.3.2, (contains_at keys number key at, none)) in
            let one : Any (λ (j : Include). (j.place ≡ i.1.place) × Any (λ x. Contains keys x × IsAbsent given x) (named_key j.kind j.name)) unit.includes =
            (i.0, i.1, slice_get_within unit.includes i.0 i.1 i.2, get_or_from_slice_get unit.includes i.0 i.1 i.1 i.2, (refl, some)) in
            clean (finding_at rule.FILE_NOT_FOUND i.1.place) (inr (inr (inl (refl, inr (n, k, e, (unit, g, one))))))

    -- each file has a tree
    tree_at : (number : ℕ) (key : List ℕ) (c : Content) → slice_get keys number ≡ Some key → IsContent number key (content given key) c → IsOfTree c
    tree_at number key Absent at g = absurd (not_absent number key at g)
    tree_at number key Large at g = absurd (clean (finding_at rule.TOO_LARGE (whole_file number)) (inr (inr (inr (inr (refl, inl (number, key, at, (g, refl))))))))
    tree_at number key (BadToken place) at g = absurd (clean (finding_at rule.BAD_TOKEN place) (inl (refl, (number, key, at, g))))
    tree_at number key (SyntaxFault place) at g = absurd (clean (finding_at rule.SYNTAX_FAULT place) (inr (inl (refl, (number, key, at, g)))))
    tree_at number key (Read unit) at g = (unit, refl)

    pub trees : AllByRecursion (λ f. IsOfTree f.source.content) files
    trees = recursion_from_All (λ (f : ReachedFile). IsOfTree f.source.content) files (λ n d within.
        let size = r.size in
        let k = there_is keys n (omega arith) in
        let at = slice_get-get_or files n d within in
        tree_at n k.0 (get_or files n d).source.content k.1 (r.each n k.0 (get_or files n d) k.1 at).source.content)

    module _ (program : List Entry) (made : AreEntriesFrom keys files program) where
      all_keys : keys_of program ≡ keys
      all_keys = keys_same keys files program made

      -- the entry of a number, with the file of its key
      entry_is : (number : ℕ) (entry : Entry) → slice_get program number ≡ Some entry → (f : ReachedFile) × (slice_get keys number ≡ Some entry.key) × IsReached given keys number entry.key f × IsEntryFrom entry.key f entry
      entry_is number entry e =
          let x = entry_at keys files program number entry made e in
          let key = x.4.has_key in (
            x.1,
            x.2 ∙ ap Some (sym key),
            subst (λ k. IsReached given keys number k x.1) (sym key) (r.each number x.0 x.1 x.2 x.3),
            subst (λ k. IsEntryFrom k x.1 entry) (sym key) x.4,
          )

      -- the entry's tree is that of the file
      unit_of_entry : (number : ℕ) (entry : Entry) (e : slice_get program number ≡ Some entry) → IsUnitOf number entry.key (content given entry.key) entry.unit
      unit_of_entry number entry e =
          let x = entry_is number entry e in
          subst (IsContent number entry.key (content given entry.key)) x.3.unit x.2.source.content

      entry_of : (number : ℕ) (entry : Entry) → slice_get program number ≡ Some entry → IsEntryOf given number entry
      entry_of number entry e =
          let x = entry_is number entry e in
          let u = unit_of_entry number entry e in
          record {
            name = read_is given.files (read_name given entry.key) entry.key u.bytes u.has ∙ ap Some (sym (x.3.name ∙ x.2.source.called));
            unit = u;
          }

      -- the program is that of the reach
      pub the_program : IsProgramOf given program
      the_program = record {
        reach = subst (IsReach given) (sym all_keys) the_reach;
        clean = λ f b. clean f (subst (λ ks. IsBroken given ks f) all_keys b);
        entries = entry_of;
      }

      -- no include is left out
      all_in : (number : ℕ) (entry : Entry) → slice_get program number ≡ Some entry → (n : ℕ) (i : Include) → slice_get entry.unit.includes n ≡ Some i → ¬ IsTarget keys i LeftOut
      all_in number entry e n i here out =
          let x = entry_is number entry e in
          clean (finding_at rule.TOO_LARGE i.place) (found_for laws.answer given keys files first firsts h r number entry.key entry.unit n i LeftOut (finding_at rule.TOO_LARGE i.place) x.1 (unit_of_entry number entry e) here out refl)

      good_entry : (number : ℕ) (entry : Entry) → slice_get program number ≡ Some entry → IsEntry program number entry
      good_entry number entry e =
          let x = entry_is number entry e in
          let u = unit_of_entry number entry e in
          let spelled = laws.words number u.bytes u.lexed u.tokens in
          let targets = subst (λ (c : Content). AreTargets keys c x.0.targets.items) x.3.unit x.2.targets in
          let n = numbers keys entry.unit.includes x.0.targets.items targets (all_in number entry e) in
          let long : length program ≡ length keys = sym (length-map program (λ (y : Entry). y.key)) ∙ ap length all_keys in
          record {
            keyed = record { kind = u.kind; front = u.is_kind.0; key = u.is_kind.1; unit = laws.files u.kind u.lexed.tokens entry.unit u.tree };
            words = laws.names u.kind u.lexed.tokens entry.unit spelled.0 u.tree;
            places = laws.places u.kind u.lexed.tokens entry.unit number spelled.1 u.tree;
            below = subst (λ ns. AllByRecursion (λ i. i < length program) ns) (sym x.3.includes) (subst (λ m. AllByRecursion (λ i. i < m) (numbers_of x.0.targets.items)) (sym long) n.1);
            includes = subst (λ ns. map (slice_get (keys_of program)) ns ≡ map Some (named_keys entry.unit.includes)) (sym x.3.includes) (subst (λ ks. map (slice_get ks) (numbers_of x.0.targets.items) ≡ map Some (named_keys entry.unit.includes)) (sym all_keys) n.0);
          }

      -- the entries are a program
      pub a_program : IsProgram program
      a_program =
          let long : length program ≡ length keys = sym (length-map program (λ (y : Entry). y.key)) ∙ ap length all_keys in
          record {
            few = (let a = r.reached.few in omega arith);
            distinct = λ i j d before within.
                let differ = subst (λ ks. AllPairs (λ one other. one ≢ other) ks) (sym all_keys) r.reached.once i j d.key before (omega (arith, length-map program (λ (y : Entry). y.key))) in
                λ same. differ (get_or-map (λ (y : Entry). y.key) program i d d.key (omega arith) ∙ (same ∙ sym (get_or-map (λ (y : Entry). y.key) program j d d.key within)));
            entries = good_entry;
          }

      bears : (number : ℕ) (entry : Entry) → slice_get program number ≡ Some entry → IfSome entry.unit.protocol (λ p. entry.key ≡ short_name p.full ++ ending file.Protocol)
      bears number entry e = by entry.unit.protocol refl
        where
          by : (p : Option ProtocolDecl) → entry.unit.protocol ≡ p → IfSome p (λ q. entry.key ≡ short_name q.full ++ ending file.Protocol)
          by None is = tt
          by (Some p) is = by_test (is_same entry.key (short_name p.full ++ ending file.Protocol))
              (λ t. same_is entry.key (short_name p.full ++ ending file.Protocol) t)
              (λ t. absurd (clean (finding_at rule.MISNAMED_PROTOCOL p.place) (inr (inr (inr (inl (
                refl,
                (
                  number,
                  entry.key,
                  (entry_is number entry e).1,
                  (
                    entry.unit,
                    unit_of_entry number entry e,
                    subst (λ (o : Option ProtocolDecl). IsSomeAnd o (λ q. (q.place ≡ p.place) × (short_name q.full ++ ending file.Protocol ≢ entry.key))) (sym is) (refl, λ same. other_is entry.key (short_name p.full ++ ending file.Protocol) t (sym same)),
                  ),
                ),
              )))))))

      -- the protocols have the names of their files
      pub bear : BearTheirNames program
      bear = recursion_from_All (λ (y : Entry). IfSome y.unit.protocol (λ p. y.key ≡ short_name p.full ++ ending file.Protocol)) program (λ n d within. bears n (get_or program n d) (slice_get-get_or program n d within))

-- the findings of what is gathered are the broken rules
exact : Laws → (given : LoadInput) (count : ℕ) (keys : List (List ℕ)) (files : List ReachedFile) → IsGathered given count keys files → (found : List Finding) → ((f : Finding) → Contains found f ↔ ((n : ℕ) × IsFoundOf count keys files n f))
    → (f : Finding) → Contains found f ↔ IsBroken given keys f
exact laws given count keys files g found is f = (
  λ c. sound laws.answer given keys files g.first g.firsts g.words g.read f (subst (λ m. (n : ℕ) × IsFoundOf m keys files n f) (sym g.counted) ((is f).0 c)),
  λ b. (is f).1 (subst (λ m. (n : ℕ) × IsFoundOf m keys files n f) g.counted (complete laws.answer given keys files g.first g.firsts g.words g.read f b)),
)

-- if nothing is found, no rule is broken
pub clean_of : Laws → (given : LoadInput) (count : ℕ) (keys : List (List ℕ)) (files : List ReachedFile) → IsGathered given count keys files → (found : List Finding) → ((f : Finding) → Contains found f ↔ ((n : ℕ) × IsFoundOf count keys files n f))
    → found ≡ [] → (f : Finding) → ¬ IsBroken given keys f
clean_of laws given count keys files g found is none f b =
    let c : Contains [] f = subst (λ (fs : List Finding). Contains fs f) none ((exact laws given count keys files g found is f).1 b) in
    let k = c.1 in
    omega arith

-- if there are findings, the files are broken with these
pub broken_are : Laws → (given : LoadInput) (count : ℕ) (keys : List (List ℕ)) (files : List ReachedFile) → IsGathered given count keys files → (found : List Finding) → ((f : Finding) → Contains found f ↔ ((n : ℕ) × IsFoundOf count keys files n f))
    → 0 < length found → AreBrokenFiles given (record { findings = found; names = map (λ (f : ReachedFile). f.source.text) files })
broken_are laws given count keys files g found is some = record {
  keys = keys;
  reach = the_reach laws given keys files g.first g.firsts g.words g.read;
  exact = exact laws given count keys files g found is;
  some = λ none. let empty : length found ≡ 0 = ap length none in omega (arith, some, empty);
  called = texts_are laws given keys files g.first g.firsts g.words g.read;
}
