-- The findings of the files that were read are those of the files.
use Rattle.std.proofs.Common.{◌≡◌, ◌≢◌, ◌⊎◌, inl, inr, ℕ, ◌<◌, Bool, true, false, IsTrue, nat_lt, List, [], ◌∷◌, ◌++◌, length, is_some, refl, sym, ◌∙◌, ap, subst, arith, true≢false}
use Rattle.std.specs.Prelude.{Option, Some, None, slice_get, ◌↔◌, IsSome, IsSomeAnd}
use Rattle.std.specs.List.{AllZip, Any, Contains}
use Rattle.std.specs.Option.{option_map_or}
use Rattle.std.proofs.lemmas.Bool.{ltb-true, lt-ltb, cases_lt}
use Rattle.std.proofs.lemmas.Option.{same_Some, slice_get_within, slice_get_past, slice_get_read, get_or_from_slice_get}
use Rattle.ipdl_base.specs.declared.finding.Finding.{Finding}
use Rattle.ipdl_base.specs.declared.finding.Place.{Place}
use Rattle.ipdl_base.specs.declared.finding.Rule.{Rule}
use Rattle.ipdl_base.specs.declared.finding.TheConstants.Rule as rule
use Rattle.ipdl_base.specs.Words.{short_name}
use Rattle.ipdl_syntax.specs.declared.tree.FileKind.TheVariants as file
use Rattle.ipdl_syntax.specs.declared.tree.Include.{Include}
use Rattle.ipdl_syntax.specs.declared.tree.ProtocolDecl.{ProtocolDecl}
use Rattle.ipdl_syntax.specs.declared.tree.Unit.{Unit as FileUnit}
use Rattle.ipdl_syntax.specs.Programs.{ending, named_key}
use Rattle.grammar_laws.specs.Boxes.{unboxed, unboxed_held}
use Rattle.include_graph.specs.declared.content.Content.{Content}
use Rattle.include_graph.specs.declared.content.Content.TheVariants.{Absent, Large, BadToken, SyntaxFault, Read}
use Rattle.include_graph.specs.declared.walk.ReachedFile.{ReachedFile}
use Rattle.include_graph.specs.declared.walk.Target.{Target}
use Rattle.include_graph.specs.declared.walk.Target.TheVariants.{Nothing, LeftOut, File}
use Rattle.include_graph.specs.Additions.{finding_at, is_absent, is_absent_at, IsFoundFor, IsFoundAmong, IsFoundOfName, IsFoundIn, IsFoundOf}
use Rattle.include_graph.specs.Growth.{HasWords}
use Rattle.include_graph.specs.Reading.{IsContent, IsTarget, AreTargets, AreRead, IsReached}
use Rattle.include_graph.specs.Reach.{IsUnitOf}
use Rattle.include_graph.specs.Rules.{whole_file, HasBadToken, HasSyntaxFault, IncludesAt, IsMisnamedAt, IsBroken, OfUnit}
use Rattle.include_graph.specs.Sources.{LoadInput, word_of, content, IsAbsent}
use Rattle.include_graph.proofs.Contents.{OneAnswer, absent_is, large_is, bad_is, fault_is, unit_is}
use Rattle.include_graph.proofs.Places.{the_one}
use Rattle.include_graph.proofs.WalkEnds.{contains_at, zip_at, first_word, there_is}

-- an element of a list has a property, so some element has it
any_at : {X : Type 0} (P : X → Type 0) (xs : List X) (n : ℕ) (x : X) → slice_get xs n ≡ Some x → P x → Any P xs
any_at P xs n x e p = (n, x, slice_get_within xs n x e, get_or_from_slice_get xs n x x e, p)

any_one : {P : List ℕ → Type 0} (keys : List (List ℕ)) (k : List ℕ) → keys ≡ k ∷ [] → P k → Any P keys
any_one {P} keys k e p = subst (Any P) (sym e) (any_at P (k ∷ []) 0 k refl p)

from_one : {P : List ℕ → Type 0} (keys : List (List ℕ)) (k : List ℕ) → keys ≡ k ∷ [] → Any P keys → P k
from_one {P} keys k e a =
    let b : Any P (k ∷ []) = subst (Any P) e a in
    subst P (sym (the_one k b.1 (b.0, b.2, b.3))) b.4

from_none : {P : List ℕ → Type 0} (keys : List (List ℕ)) → keys ≡ [] → Any P keys → ⊥
from_none {P} keys e a = let b : Any P [] = subst (Any P) e a in let h = b.2 in omega arith

module _ (laws : OneAnswer) (given : LoadInput) (keys : List (List ℕ)) (files : List ReachedFile) (first firsts : List (List ℕ)) (h : HasWords given.words first firsts) (r : AreRead given keys files) where
  -- the file of a number
  pub file_of : (number : ℕ) (key : List ℕ) → slice_get keys number ≡ Some key → (f : ReachedFile) × (slice_get files number ≡ Some f) × IsReached given keys number key f
  file_of number key e =
      let within = slice_get_within keys number key e in
      let size = r.size in
      let f = there_is files number (omega arith) in
      (f.0, f.1, r.each number key f.0 e f.1)

  -- a key has a word exactly if it is one of the first keys
  has_word : (number : ℕ) (key : List ℕ) → slice_get keys number ≡ Some key → (number < length firsts) ↔ IsSome (word_of given.words key)
  has_word number key e =
      let is = first_word given.words first keys r.reached.further firsts number key h r.reached.begins r.reached.once e in (
        λ less. let w = there_is firsts number less in ap is_some (sym is ∙ w.1),
        λ some. elim (cases_lt number (length firsts)) [
          | inl less ↦ less
          | inr more ↦ absurd (true≢false (sym some ∙ ap is_some (sym is ∙ slice_get_past firsts number more)))
        ],
      )

  -- an absent key has an absent file
  absent_file : (number : ℕ) (key : List ℕ) → slice_get keys number ≡ Some key → IsAbsent given key → is_absent_at files number ≡ true
  absent_file number key e none =
      let f = file_of number key e in
      let c = absent_is laws number key (content given key) f.0.source.content f.2.source.content none in
      ap (λ (o : Option ReachedFile). option_map_or (λ (g : ReachedFile). is_absent g.source.content) o false) f.1 ∙ ap is_absent c

  -- the key of an absent file is absent
  file_absent : (number : ℕ) (key : List ℕ) → slice_get keys number ≡ Some key → is_absent_at files number ≡ true → IsAbsent given key
  file_absent number key e t =
      let f = file_of number key e in
      let is : is_absent f.0.source.content ≡ true = sym (ap (λ (o : Option ReachedFile). option_map_or (λ (g : ReachedFile). is_absent g.source.content) o false) f.1) ∙ t in
      held f.0.source.content is f.2.source.content
    where
      held : (c : Content) → is_absent c ≡ true → IsContent number key (content given key) c → content given key ≡ None
      held Absent is g = g
      held Large is g = absurd (true≢false (sym is))
      held (BadToken place) is g = absurd (true≢false (sym is))
      held (SyntaxFault place) is g = absurd (true≢false (sym is))
      held (Read unit) is g = absurd (true≢false (sym is))

  -- what is found for an include breaks a rule
  pub found_for : (number : ℕ) (key : List ℕ) (unit : FileUnit) (index : ℕ) (i : Include) (t : Target) (f : Finding) → slice_get keys number ≡ Some key → IsUnitOf number key (content given key) unit
      → slice_get unit.includes index ≡ Some i → IsTarget keys i t → IsFoundFor files i t f → IsBroken given keys f
  found_for number key unit index i Nothing f at u here target found = absurd found
  found_for number key unit index i LeftOut f at u here target found =
      let out = any_at (λ (j : Include). (j.place ≡ i.place) × Any (λ k. ¬ Contains keys k) (named_key j.kind j.name)) unit.includes index i here (refl, any_one (named_key i.kind i.name) target.0 target.1 target.3) in
      inr (inr (inr (inr (ap (λ (g : Finding). g.rule) found, inr (number, key, at, (unit, u, subst (λ p. IncludesAt p (λ k. ¬ Contains keys k) unit) (sym (ap (λ (g : Finding). g.place) found)) out))))))
  found_for number key unit index i (File n) f at u here target found =
      let none = file_absent n target.0 target.2 found.0 in
      let missing = any_at (λ (j : Include). (j.place ≡ i.place) × Any (λ k. Contains keys k × IsAbsent given k) (named_key j.kind j.name)) unit.includes index i here (refl, any_one (named_key i.kind i.name) target.0 target.1 (contains_at keys n target.0 target.2, none)) in
      inr (inr (inl (ap (λ (g : Finding). g.rule) found.1, inr (number, key, at, (unit, u, subst (λ p. IncludesAt p (λ k. Contains keys k × IsAbsent given k) unit) (sym (ap (λ (g : Finding). g.place) found.1)) missing)))))

  -- what is found of the protocol's name breaks a rule
  found_name : (number : ℕ) (key : List ℕ) (unit : FileUnit) (f : Finding) → slice_get keys number ≡ Some key → IsUnitOf number key (content given key) unit → IsFoundOfName key unit f → IsBroken given keys f
  found_name number key unit f at u found =
      let parts = name_parts unit.protocol found in
      inr (inr (inr (inl (parts.0, (number, key, at, (unit, u, parts.1))))))
    where
      name_parts : (p : Option ProtocolDecl) → IsSomeAnd p (λ q. (short_name q.full ++ ending file.Protocol ≢ key) × (f ≡ finding_at rule.MISNAMED_PROTOCOL q.place))
          → (f.rule ≡ rule.MISNAMED_PROTOCOL) × IsSomeAnd p (λ q. (q.place ≡ f.place) × (short_name q.full ++ ending file.Protocol ≢ key))
      name_parts None g = elim g [ ]
      name_parts (Some q) g = (ap (λ (e : Finding). e.rule) g.1, (sym (ap (λ (e : Finding). e.place) g.1), g.0))

  -- what is found in a file breaks a rule
  found_in : (number : ℕ) (key : List ℕ) (word : Bool) (c : Content) (targets : List Target) (f : Finding) → slice_get keys number ≡ Some key → (IsTrue word → IsSome (word_of given.words key)) → IsContent number key (content given key) c → AreTargets keys c targets
      → IsFoundIn files number word key c targets f → IsBroken given keys f
  found_in number key word Absent targets f at named g t found =
      inr (inr (inl (ap (λ (e : Finding). e.rule) found.1, inl (number, key, at, (named found.0, g, ap (λ (e : Finding). e.place) found.1)))))
  found_in number key word Large targets f at named g t found =
      inr (inr (inr (inr (ap (λ (e : Finding). e.rule) found, inl (number, key, at, (g, ap (λ (e : Finding). e.place) found))))))
  found_in number key word (BadToken place) targets f at named g t found =
      inl (ap (λ (e : Finding). e.rule) found, (number, key, at, subst (HasBadToken number (content given key)) (sym (ap (λ (e : Finding). e.place) found)) g))
  found_in number key word (SyntaxFault place) targets f at named g t found =
      inr (inl (ap (λ (e : Finding). e.rule) found, (number, key, at, subst (HasSyntaxFault number key (content given key)) (sym (ap (λ (e : Finding). e.place) found)) g)))
  found_in number key word (Read unit) targets f at named g t (inl name) = found_name number key unit f at g name
  found_in number key word (Read unit) targets f at named g t (inr among) =
      let i = among.1.0 in
      let target = among.1.1 in
      let z = zip_at (IsTarget keys) unit.includes targets among.0 i t among.1.2 in
      let same : z.0 ≡ target = same_Some _ _ (sym z.1 ∙ among.1.3) in
      found_for number key unit among.0 i target f at g among.1.2 (subst (IsTarget keys i) same z.2) among.1.4

  -- each finding breaks a rule
  pub sound : (f : Finding) → ((number : ℕ) × IsFoundOf (length firsts) keys files number f) → IsBroken given keys f
  sound f (number, (word, key, file, is, at, there, found)) =
      let e = r.each number key file at there in
      found_in number key word file.source.content file.targets.items f at (λ t. (has_word number key at).0 (is.0 t)) e.source.content e.targets found

  -- what is found in the file of a number is found
  found_here : (number : ℕ) (key : List ℕ) (f : Finding) (at : slice_get keys number ≡ Some key) → let g = file_of number key at in IsFoundIn files number (nat_lt number (length firsts)) key g.0.source.content g.0.targets.items f → (n : ℕ) × IsFoundOf (length firsts) keys files n f
  found_here number key f at found =
      let g = file_of number key at in
      (number, (nat_lt number (length firsts), key, g.0, ((λ t. ltb-true number (length firsts) t), (λ l. lt-ltb number (length firsts) l)), at, g.1, found))

  -- the findings in a file with this content
  found_as : (number : ℕ) (key : List ℕ) (c : Content) (f : Finding) (at : slice_get keys number ≡ Some key) → let g = file_of number key at in g.0.source.content ≡ c → IsFoundIn files number (nat_lt number (length firsts)) key c g.0.targets.items f → (n : ℕ) × IsFoundOf (length firsts) keys files n f
  found_as number key c f at is found =
      let g = file_of number key at in
      found_here number key f at (subst (λ (d : Content). IsFoundIn files number (nat_lt number (length firsts)) key d g.0.targets.items f) (sym is) found)

  -- a finding is its rule at its place
  made_of : (f : Finding) (rule' : Rule) (place : Place) → f.rule ≡ rule' → f.place ≡ place → f ≡ finding_at rule' place
  made_of f rule' place a b = λ i. record { place = b i; rule = a i }

  -- an include that names such a key is found
  among_out : (unit : FileUnit) (targets : List Target) (f : Finding) → AllZip (IsTarget keys) unit.includes targets → f.rule ≡ rule.TOO_LARGE → IncludesAt f.place (λ k. ¬ Contains keys k) unit → IsFoundAmong files unit.includes targets f
  among_out unit targets f t is any =
      let i = any.1 in
      let here = slice_get_read unit.includes (length unit.includes) any.0 i refl any.2 (sym any.3) in
      let z = zip_at (IsTarget keys) unit.includes targets any.0 i t here in
      (any.0, (i, z.0, here, z.1, by z.0 i z.2 any.4.1 (made_of f rule.TOO_LARGE i.place is (sym any.4.0))))
    where
      by : (target : Target) (i : Include) → IsTarget keys i target → Any (λ k. ¬ Contains keys k) (named_key i.kind i.name) → f ≡ finding_at rule.TOO_LARGE i.place → IsFoundFor files i target f
      by Nothing i g a e = absurd (from_none (named_key i.kind i.name) g a)
      by LeftOut i g a e = e
      by (File n) i g a e = absurd (from_one (named_key i.kind i.name) g.0 g.1 a (contains_at keys n g.0 g.2))

  among_missing : (unit : FileUnit) (targets : List Target) (f : Finding) → AllZip (IsTarget keys) unit.includes targets → f.rule ≡ rule.FILE_NOT_FOUND → IncludesAt f.place (λ k. Contains keys k × IsAbsent given k) unit → IsFoundAmong files unit.includes targets f
  among_missing unit targets f t is any =
      let i = any.1 in
      let here = slice_get_read unit.includes (length unit.includes) any.0 i refl any.2 (sym any.3) in
      let z = zip_at (IsTarget keys) unit.includes targets any.0 i t here in
      (any.0, (i, z.0, here, z.1, by z.0 i z.2 any.4.1 (made_of f rule.FILE_NOT_FOUND i.place is (sym any.4.0))))
    where
      by : (target : Target) (i : Include) → IsTarget keys i target → Any (λ k. Contains keys k × IsAbsent given k) (named_key i.kind i.name) → f ≡ finding_at rule.FILE_NOT_FOUND i.place → IsFoundFor files i target f
      by Nothing i g a e = absurd (from_none (named_key i.kind i.name) g a)
      by LeftOut i g a e = absurd (g.3 (from_one (named_key i.kind i.name) g.0 g.1 a).0)
      by (File n) i g a e = (absent_file n g.0 g.2 (from_one (named_key i.kind i.name) g.0 g.1 a).1, e)

  -- a property of a file's tree holds of the tree in its content
  in_unit : (f : Finding) (Holds : List ℕ → FileUnit → Type 0) → ((key : List ℕ) (one other : FileUnit) → unboxed one ≡ unboxed other → Holds key one → Holds key other)
      → ((key : List ℕ) (unit : FileUnit) (targets : List Target) → AllZip (IsTarget keys) unit.includes targets → Holds key unit → IsFoundOfName key unit f ⊎ IsFoundAmong files unit.includes targets f)
      → OfUnit given keys Holds → (n : ℕ) × IsFoundOf (length firsts) keys files n f
  in_unit f Holds same shows (number, key, at, (unit, u, held)) =
      let g = file_of number key at in
      let c = unit_is laws number key (content given key) g.0.source.content unit g.2.source.content u in
      let targets = subst (λ (d : Content). AreTargets keys d g.0.targets.items) c.1 g.2.targets in
      found_as number key (Read c.0) f at c.1 (shows key c.0 g.0.targets.items targets (same key unit c.0 c.2 held))

  -- includes have no boxes
  same_includes : (place : Place) (P : List ℕ → Type 0) (one other : FileUnit) → unboxed one ≡ unboxed other → IncludesAt place P one → IncludesAt place P other
  same_includes place P one other e a = subst (λ (is : List Include). Any (λ i. (i.place ≡ place) × Any P (named_key i.kind i.name)) is) (ap (λ (u : FileUnit). u.includes) e) a

  -- the name of a protocol has no boxes
  same_misnamed : (place : Place) (key : List ℕ) (one other : FileUnit) → unboxed one ≡ unboxed other → IsMisnamedAt place key one → IsMisnamedAt place key other
  same_misnamed place key one other e m = by one.protocol other.protocol (ap (λ (u : FileUnit). u.protocol) e) m
    where
      by : (p q : Option ProtocolDecl) → unboxed_held p ≡ unboxed_held q → IsSomeAnd p (λ x. (x.place ≡ place) × (short_name x.full ++ ending file.Protocol ≢ key)) → IsSomeAnd q (λ x. (x.place ≡ place) × (short_name x.full ++ ending file.Protocol ≢ key))
      by None q e m = elim m [ ]
      by (Some p) None e m = absurd (let none : ⊥ = cc in none)
      by (Some p) (Some q) e m =
          let same = same_Some _ _ e in
          (sym (ap (λ (x : ProtocolDecl). x.place) same) ∙ m.0, subst (λ full. short_name full ++ ending file.Protocol ≢ key) (ap (λ (x : ProtocolDecl). x.full) same) m.1)

  -- a misnamed protocol is found
  name_shows : (key : List ℕ) (unit : FileUnit) (f : Finding) → f.rule ≡ rule.MISNAMED_PROTOCOL → IsMisnamedAt f.place key unit → IsFoundOfName key unit f
  name_shows key unit f is m = by unit.protocol m
    where
      by : (p : Option ProtocolDecl) → IsSomeAnd p (λ x. (x.place ≡ f.place) × (short_name x.full ++ ending file.Protocol ≢ key)) → IsSomeAnd p (λ x. (short_name x.full ++ ending file.Protocol ≢ key) × (f ≡ finding_at rule.MISNAMED_PROTOCOL x.place))
      by None m = elim m [ ]
      by (Some p) m = (m.1, made_of f rule.MISNAMED_PROTOCOL p.place is (sym m.0))

  -- each rule that is broken is found
  pub complete : (f : Finding) → IsBroken given keys f → (n : ℕ) × IsFoundOf (length firsts) keys files n f
  complete f (inl (is, (number, key, at, b))) =
      let g = file_of number key at in
      found_as number key (BadToken f.place) f at (bad_is laws number key (content given key) g.0.source.content f.place g.2.source.content b) (made_of f rule.BAD_TOKEN f.place is refl)
  complete f (inr (inl (is, (number, key, at, b)))) =
      let g = file_of number key at in
      found_as number key (SyntaxFault f.place) f at (fault_is laws number key (content given key) g.0.source.content f.place g.2.source.content b) (made_of f rule.SYNTAX_FAULT f.place is refl)
  complete f (inr (inr (inl (is, inl (number, key, at, (some, none, whole)))))) =
      let g = file_of number key at in
      found_as number key Absent f at (absent_is laws number key (content given key) g.0.source.content g.2.source.content none)
      (lt-ltb number (length firsts) ((has_word number key at).1 some), made_of f rule.FILE_NOT_FOUND (whole_file number) is whole)
  complete f (inr (inr (inl (is, inr missing)))) =
      in_unit f (λ _. IncludesAt f.place (λ k. Contains keys k × IsAbsent given k)) (λ key. same_includes f.place (λ k. Contains keys k × IsAbsent given k)) (λ key unit targets t held. inr (among_missing unit targets f t is held)) missing
  complete f (inr (inr (inr (inl (is, misnamed))))) =
      in_unit f (IsMisnamedAt f.place) (same_misnamed f.place) (λ key unit targets t held. inl (name_shows key unit f is held)) misnamed
  complete f (inr (inr (inr (inr (is, inl (number, key, at, (large, whole))))))) =
      let g = file_of number key at in
      found_as number key Large f at (large_is laws number key (content given key) g.0.source.content g.2.source.content large) (made_of f rule.TOO_LARGE (whole_file number) is whole)
  complete f (inr (inr (inr (inr (is, inr out))))) =
      in_unit f (λ _. IncludesAt f.place (λ k. ¬ Contains keys k)) (λ key. same_includes f.place (λ k. ¬ Contains keys k)) (λ key unit targets t held. inr (among_out unit targets f t is held)) out
