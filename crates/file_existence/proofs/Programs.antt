-- If the files of a reach break no rule, they make a program.
use Rattle.std.proofs.Common.{◌≡◌, ◌≢◌, ℕ, zero, suc, ◌<◌, List, [], ◌∷◌, ◌++◌, Any, Contains, length, get_or, map, Option, Some, None, is_some, refl, sym, ap, subst, ◌∙◌, inl, inr, arith}
use Rattle.std.specs.Prelude.{slice_get, IfSome, IsSomeAnd, option_map, unwrap_or}
use Rattle.std.specs.List.{AllByRecursion}
use Rattle.std.specs.Option.{option_and_then}
use Rattle.std.proofs.Math.ListN.{get_or-map}
use Rattle.std.proofs.lemmas.List.{length-map}
use Rattle.std.proofs.lemmas.List.Elements.{recursion_from_All}
use Rattle.std.proofs.lemmas.Option.{get_or_from_slice_get, none-some, same_Some, slice_get-get_or, slice_get-map, slice_get_read, slice_get_within}
use Rattle.ipdl_base.specs.Words.{short_name}
use Rattle.ipdl_base.specs.declared.finding.Finding.{Finding}
use Rattle.ipdl_base.specs.declared.finding.TheConstants.Rule as rule
use Rattle.ipdl_base.proofs.Ends.{by_test, same_is}
use Rattle.ipdl_lex.proofs.Spelled.{words_hold}
use Rattle.ipdl_syntax.specs.declared.program.Entry.{Entry}
use Rattle.ipdl_syntax.specs.declared.tree.FileKind.TheVariants as file
use Rattle.ipdl_syntax.specs.declared.tree.ProtocolDecl.{ProtocolDecl}
use Rattle.ipdl_syntax.specs.declared.tree.Unit.{Unit as FileUnit}
use Rattle.ipdl_syntax.specs.Programs.{ending, named_key, named_keys, IsEntry, IsProgram}
use Rattle.grammar_laws.proofs.ClaimedFiles.{names_hold, places_hold}
use Rattle.grammar_laws.proofs.FileKinds.{files_hold}
use Rattle.include_graph.specs.declared.content.Content.{Content}
use Rattle.include_graph.specs.declared.content.Content.TheVariants.{Absent, Large, BadToken, SyntaxFault, Read}
use Rattle.include_graph.specs.Additions.{finding_at}
use Rattle.include_graph.specs.Keys.{is_same, AreFileWords}
use Rattle.include_graph.specs.Load.{keys_of, IsEntryOf}
use Rattle.include_graph.specs.Reach.{IsReach, IsUnitOf}
use Rattle.include_graph.specs.Reading.{IsContent}
use Rattle.include_graph.specs.Rules.{IsBroken, whole_file}
use Rattle.include_graph.specs.Sources.{LoadInput, IsAbsent, content, read_name}
use Rattle.include_graph.proofs.Ends.{other_is}
use Rattle.include_graph.proofs.Loaded.{included_by}
use Rattle.include_graph.proofs.Places.{found_or_not}
use Rattle.include_graph.proofs.WalkEnds.{contains_at}
use Rattle.report_existence.proofs.Finite.{contains_more}
use Rattle.file_existence.specs.Laws.{CleanFilesHavePrograms, HasProgram}
use Rattle.file_existence.proofs.Contents.{content_of}
use Rattle.file_existence.proofs.Sources.{Source, kinded, source_of}

-- a name under which bytes are read is there
read_under : (files : List ℕ → Option (List ℕ)) (name : Option (List ℕ)) (key bytes : List ℕ) → option_and_then files name ≡ Some bytes → name ≡ Some (unwrap_or name key)
read_under files None key bytes e = absurd (none-some bytes e)
read_under files (Some name) key bytes e = refl

-- keys that are in a list have numbers there
numbers : (keys named : List (List ℕ)) → ((key : List ℕ) → Contains named key → Contains keys key)
    → (list : List ℕ) × (map (slice_get keys) list ≡ map Some named) × AllByRecursion (λ n. n < length keys) list
numbers keys [] there = ([], refl, tt)
numbers keys (key ∷ named) there =
    let here = there key (contains_more key named key (inl refl)) in
    let rest = numbers keys named (λ k c. there k (contains_more key named k (inr c))) in
    (here.0 ∷ rest.0, (λ i. slice_get_read keys _ here.0 key refl here.1 (sym here.2) i ∷ rest.1 i), (here.1, rest.2))

-- if each element of a list has one of another kind, there is a list of these

at_first : {Y : Type 0} (R : ℕ → Y → Type 0) (y : Y) (ys : List Y) → R 0 y → ((n : ℕ) (z : Y) → slice_get ys n ≡ Some z → R (suc n) z) → (n : ℕ) (z : Y) → slice_get (y ∷ ys) n ≡ Some z → R n z
at_first R y ys first others zero z e = subst (R 0) (same_Some y z e) first
at_first R y ys first others (suc n) z e = others n z e

chosen : {X Y : Type 0} (f : Y → X) (R : ℕ → Y → Type 0) (xs : List X) → ((n : ℕ) (x : X) → slice_get xs n ≡ Some x → (y : Y) × (f y ≡ x) × R n y)
    → (ys : List Y) × (map f ys ≡ xs) × ((n : ℕ) (y : Y) → slice_get ys n ≡ Some y → R n y)
chosen f R [] each = ([], refl, λ n y e. absurd (none-some y e))
chosen f R (x ∷ xs) each =
    let first = each 0 x refl in
    let others = chosen f (λ n. R (suc n)) xs (λ n y e. each (suc n) y e) in
    (first.0 ∷ others.0, (λ i. first.1 i ∷ others.1 i), at_first R first.0 others.0 first.2 others.2)

-- The entry of this number is that of the file of its key, and its includes have numbers of these keys.
record IsMade (given : LoadInput) (keys : List (List ℕ)) (number : ℕ) (entry : Entry) : Type 0 where
  pub entry_of : IsEntryOf given number entry
  pub includes : map (slice_get keys) entry.includes ≡ map Some (named_keys entry.unit.includes)
  pub below : AllByRecursion (λ n. n < length keys) entry.includes

module _ (given : LoadInput) (keys : List (List ℕ)) (words : AreFileWords given.words) (reach : IsReach given keys) (clean : (f : Finding) → ¬ IsBroken given keys f) where
  -- a key of the list is not absent
  not_absent : (number : ℕ) (key : List ℕ) → slice_get keys number ≡ Some key → Source given keys key → ¬ IsAbsent given key
  not_absent number key at (inl (word, e)) none = clean (finding_at rule.FILE_NOT_FOUND (whole_file number)) (inr (inr (inl (refl, inl (number, key, at, (ap is_some e, none, refl))))))
  not_absent number key at (inr by) none =
      let i = included_by by.unit.includes key by.named in
      let here : Any (λ k. Contains keys k × IsAbsent given k) (named_key i.1.kind i.1.name) = (i.3.0, key, i.3.1, i.3.2, (contains_at keys number key at, none)) in
      clean (finding_at rule.FILE_NOT_FOUND i.1.place)
      (inr (inr (inl (refl, inr (by.number, by.by, by.at, (by.unit, by.is_unit, (i.0, i.1, slice_get_within by.unit.includes i.0 i.1 i.2, get_or_from_slice_get by.unit.includes i.0 i.1 i.1 i.2, (refl, here))))))))

  -- the file of an entry has a tree
  unit_at : (number : ℕ) (key : List ℕ) → slice_get keys number ≡ Some key → (unit : FileUnit) × IsUnitOf number key (content given key) unit
  unit_at number key at = let source = source_of given keys reach number key at in let c = content_of number key (content given key) (kinded given keys key words source) in by c.0 c.1 source
    where
      by : (c : Content) → IsContent number key (content given key) c → Source given keys key → (unit : FileUnit) × IsUnitOf number key (content given key) unit
      by Absent is source = absurd (not_absent number key at source is)
      by Large is source = absurd (clean (finding_at rule.TOO_LARGE (whole_file number)) (inr (inr (inr (inr (refl, inl (number, key, at, (is, refl))))))))
      by (BadToken place) is source = absurd (clean (finding_at rule.BAD_TOKEN place) (inl (refl, (number, key, at, is))))
      by (SyntaxFault place) is source = absurd (clean (finding_at rule.SYNTAX_FAULT place) (inr (inl (refl, (number, key, at, is)))))
      by (Read unit) is source = (unit, is)

  -- the keys that a file names are in the list
  reached : (number : ℕ) (key : List ℕ) (unit : FileUnit) → slice_get keys number ≡ Some key → IsUnitOf number key (content given key) unit → (named : List ℕ) → Contains (named_keys unit.includes) named → Contains keys named
  reached number key unit at is named c = elim (found_or_not keys named) [
    | inl there ↦ there
    | inr out ↦ (
        let i = included_by unit.includes named c in
        let here : Any (λ k. ¬ Contains keys k) (named_key i.1.kind i.1.name) = (i.3.0, named, i.3.1, i.3.2, out) in
        absurd
        (clean (finding_at rule.TOO_LARGE i.1.place)
        (inr (inr (inr (inr (refl, inr (number, key, at, (unit, is, (i.0, i.1, slice_get_within unit.includes i.0 i.1 i.2, get_or_from_slice_get unit.includes i.0 i.1 i.1 i.2, (refl, here))))))))))
        )
  ]

  -- so the file has an entry
  entry_at : (number : ℕ) (key : List ℕ) → slice_get keys number ≡ Some key → (entry : Entry) × (entry.key ≡ key) × IsMade given keys number entry
  entry_at number key at =
      let u = unit_at number key at in
      let n = numbers keys (named_keys u.0.includes) (reached number key u.0 at u.1) in (
        record { key = key; name = unwrap_or (read_name given key) key; unit = u.0; includes = n.0 },
        refl,
        record { entry_of = record { name = read_under given.files (read_name given key) key u.1.bytes u.1.has; unit = u.1 }; includes = n.1; below = n.2 },
      )

module _ (given : LoadInput) (program : List Entry) (reach : IsReach given (keys_of program)) (clean : (f : Finding) → ¬ IsBroken given (keys_of program) f) (made : (number : ℕ) (entry : Entry) → slice_get program number ≡ Some entry → IsMade given (keys_of program) number entry) where
  long : length (keys_of program) ≡ length program
  long = length-map program (λ (e : Entry). e.key)

  entry_is : (number : ℕ) (entry : Entry) → slice_get program number ≡ Some entry → IsEntry program number entry
  entry_is number entry at =
      let m = made number entry at in
      let u = m.entry_of.unit in
      let spelled = words_hold number u.bytes u.lexed u.tokens in
      record {
        keyed = record { kind = u.kind; front = u.is_kind.0; key = u.is_kind.1; unit = files_hold u.kind u.lexed.tokens entry.unit u.tree };
        words = names_hold u.kind u.lexed.tokens entry.unit spelled.0 u.tree;
        places = places_hold u.kind u.lexed.tokens entry.unit number spelled.1 u.tree;
        below = subst (λ m. AllByRecursion (λ n. n < m) entry.includes) long m.below;
        includes = m.includes;
      }

  whole : IsProgram program
  whole = record {
    few = (let few = reach.reached.few in omega (arith, long));
    distinct = λ i j d before within same.
        reach.reached.once i j d.key before (omega (arith, long, within))
        (get_or-map (λ (e : Entry). e.key) program i d ∙ same ∙ sym (get_or-map (λ (e : Entry). e.key) program j d));
    entries = entry_is;
  }

  -- a protocol with another name would be misnamed
  bears : (number : ℕ) (entry : Entry) → slice_get program number ≡ Some entry → (held : Option ProtocolDecl) → entry.unit.protocol ≡ held → IfSome held (λ p. entry.key ≡ short_name p.full ++ ending file.Protocol)
  bears number entry at None is = tt
  bears number entry at (Some p) is =
      by_test (is_same entry.key (short_name p.full ++ ending file.Protocol))
      (λ same. same_is entry.key (short_name p.full ++ ending file.Protocol) same)
      (λ other.
      let misnamed = subst (λ (o : Option ProtocolDecl). IsSomeAnd o (λ q. (q.place ≡ p.place) × (short_name q.full ++ ending file.Protocol ≢ entry.key))) (sym is) (refl, λ e. other_is entry.key (short_name p.full ++ ending file.Protocol) other (sym e)) in
      absurd
      (clean (finding_at rule.MISNAMED_PROTOCOL p.place)
      (inr (inr (inr (inl (refl, (number, entry.key, slice_get-map (λ (e : Entry). e.key) program number ∙ ap (option_map (λ (e : Entry). e.key)) at, (entry.unit, (made number entry at).entry_of.unit, misnamed)))))))))

  has_program : HasProgram given
  has_program = record {
    program = program;
    is_of = record { reach = reach; clean = clean; entries = λ number entry at. (made number entry at).entry_of };
    is_program = whole;
    named = recursion_from_All (λ (e : Entry). IfSome e.unit.protocol (λ p. e.key ≡ short_name p.full ++ ending file.Protocol)) program
        (λ n d within. bears n (get_or program n d) (slice_get-get_or program n d within) (get_or program n d).unit.protocol refl);
  }

pub clean_files_have_programs : CleanFilesHavePrograms
clean_files_have_programs given keys words reach clean =
    let p = chosen (λ (e : Entry). e.key) (IsMade given keys) keys (entry_at given keys words reach clean) in
    has_program given p.0 (subst (IsReach given) (sym p.1) reach) (subst (λ ks. (f : Finding) → ¬ IsBroken given ks f) (sym p.1) clean)
    (subst (λ ks. (number : ℕ) (entry : Entry) → slice_get p.0 number ≡ Some entry → IsMade given ks number entry) (sym p.1) p.2)
