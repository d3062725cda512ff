-- Whether managers lead from a protocol to another protocol and back, by marks.
use Rattle.std.proofs.Common.{◌≡◌, ◌≢◌, ◌⊎◌, ◌∙◌, inl, inr, ◌<◌, ℕ, Bool, true, false, List, [], ◌∷◌, ◌++◌, length, refl, sym, ap, subst, arith, eqb, not}
use Rattle.std.specs.Prelude.{◌↔◌, nat_eq}
use Rattle.std.specs.Cmp.{nat_eq_equiv}
use Rattle.std.specs.List.{Contains, filter}
use Rattle.std.proofs.lemmas.Bool.Decides.{eqb_tells, Decides-and, Decides-not, Decides-eqb}
use Rattle.std.proofs.lemmas.Map.Made.{is_member-Decides, is_member-filter}
use Rattle.std.proofs.lemmas.List.Elements.{Contains-append_left, Contains-append_right, Contains-append_cases}
use Rattle.ipdl_syntax.specs.declared.program.Entry.{Entry}
use Rattle.name_table.specs.Marks.{IsMarked, Marks}
use Rattle.name_table.proofs.Marking.{the_one, has_one}
use Rattle.manager_rules.specs.Managers.{HasManager, LeadsTo, one, more, IsInCycle}
use Rattle.manager_rules.proofs.Bonds.{protocol_within}

-- one path, and another after it
joined : {program : List Entry} {a b c : ℕ} → LeadsTo program a b → LeadsTo program b c → LeadsTo program a c
joined (one h) rest = more h rest
joined (more h path) rest = more h (joined path rest)

-- a file from which managers lead is one of the program
leads_within : {program : List Entry} {a b : ℕ} → LeadsTo program a b → a < length program
leads_within {program} {a} {b} (one h) = protocol_within program a h.protocol h.there
leads_within {program} {a} {b} (more h path) = protocol_within program a h.protocol h.there

-- a file to which managers lead from another file, the first of them not that file
pub record Comes (program : List Entry) (from n : ℕ) : Type 0 where
  pub first : ℕ
  pub differs : first ≢ from
  pub manages : HasManager program from first
  pub on : (first ≡ n) ⊎ LeadsTo program first n

-- a path to another file and back leaves by a manager other than the file itself, after any steps to itself
first_other : {program : List Entry} {a other : ℕ} (from : ℕ) → a ≡ from → other ≢ from → LeadsTo program other from → LeadsTo program a other → (m : ℕ) × (m ≢ from) × HasManager program from m × LeadsTo program m from
first_other {program} {a} {other} from same differs back (one h) = (other, differs, (let P : ℕ → Type 0 = λ k. HasManager program k other in subst P same h), back)
first_other {program} {a} {other} from same differs back (more {file} {middle} {other = last} h path) = go (λ e. first_other from e differs back path) (eqb_tells middle from)
  where
    go : (middle ≡ from → (m : ℕ) × (m ≢ from) × HasManager program from m × LeadsTo program m from) → ((eqb middle from ≡ true) × (middle ≡ from)) ⊎ ((eqb middle from ≡ false) × (middle ≢ from)) → (m : ℕ) × (m ≢ from) × HasManager program from m × LeadsTo program m from
    go following (inl e) = following e.1
    go following (inr ne) = (middle, ne.1, (let P : ℕ → Type 0 = λ k. HasManager program k middle in subst P same h), joined path back)

-- Marks while managers are followed from those of a file other than itself: each has a path, those in the work are
-- marked, and of any other marked file the managers are marked. The file itself is marked only if it is in the work.
pub record Searches (program : List Entry) (from : ℕ) (marks : List Bool) (work : List ℕ) : Type 0 where
  pub size : length marks ≡ length program
  pub sound : (n : ℕ) → IsMarked marks n → Comes program from n
  pub waiting : (n : ℕ) → Contains work n → IsMarked marks n
  pub begun : (n : ℕ) → n ≢ from → HasManager program from n → n < length program → IsMarked marks n
  pub closed : (n : ℕ) → IsMarked marks n → Contains work n ⊎ ((m : ℕ) → HasManager program n m → m < length program → IsMarked marks m)
  pub met : IsMarked marks from → Contains work from

-- the managers without the file itself
pub others_are : (program : List Entry) (from : ℕ) (managers others : List ℕ) → others ≡ filter (λ n. not (nat_eq n from)) managers → ((n : ℕ) → Contains managers n ↔ HasManager program from n) → (n : ℕ) → Contains others n ↔ (HasManager program from n × (n ≢ from))
others_are program from managers others e are n =
    let test : ℕ → Bool = λ k. not (nat_eq k from) in
    let kept = is_member-Decides Decides-eqb (filter test managers) n in
    let both = Decides-and _ _ (is_member-Decides Decides-eqb managers n) (Decides-not (nat_eq n from) (Decides-eqb n from)) in
    let same = is_member-filter nat_eq_equiv test n (λ x h. ap test ((Decides-eqb n x).0 h)) managers in
    rw e (
      λ c. (let h = both.0 (sym same ∙ kept.1 c) in ((are n).0 h.0, h.1)),
      λ h. kept.0 (same ∙ both.1 ((are n).1 h.0, h.1)),
    )

none_left : {P : Type 0} (n : ℕ) → Contains [] n → P
none_left n c = let k = c.1 in absurd (omega arith)

-- at first the managers other than the file itself are marked
pub searches_first : (program : List Entry) (from : ℕ) (others : List ℕ) (a b : List Bool) (v : List ℕ) → length a ≡ length program → ((n : ℕ) → ¬ IsMarked a n) → ((n : ℕ) → Contains others n ↔ (HasManager program from n × (n ≢ from))) → Marks others a [] b v → Searches program from b v
searches_first program from others a b v size bare are m = record {
  size = m.size ∙ size;
  sound = λ n h. elim (m.only n h) [
    | inl o ↦ absurd (bare n o)
    | inr c ↦ (let is = (are n).0 c in record { first = n; differs = is.1; manages = is.0; on = inl refl })
  ];
  waiting = λ n c. elim (m.told n c) [ inl l ↦ none_left n l | inr h ↦ h ];
  begun = λ n differs h below. m.marked n ((are n).1 (h, differs)) (let P : ℕ → Type 0 = λ k. n < k in subst P (sym size) below);
  closed = λ n h. elim (m.added n h) [ inl o ↦ absurd (bare n o) | inr c ↦ inl c ];
  met = λ h. elim (m.added from h) [ inl o ↦ absurd (bare from o) | inr c ↦ c ];
}

-- the managers of reached files are reached
comes_on : (program : List Entry) (from x n : ℕ) → Comes program from x → HasManager program x n → Comes program from n
comes_on program from x n c h = record {
  first = c.first;
  differs = c.differs;
  manages = c.manages;
  on = elim c.on [
    | inl e ↦ (let P : ℕ → Type 0 = λ k. HasManager program k n in inr (one (subst P (sym e) h)))
    | inr path ↦ inr (joined path (one h))
  ];
}

-- one file leaves the work, and its managers are marked
pub searches_more : (program : List Entry) (from : ℕ) (a : List Bool) (u : List ℕ) (x : ℕ) (managers : List ℕ) (b : List Bool) (v : List ℕ)
    → x ≢ from → ((n : ℕ) → Contains managers n ↔ HasManager program x n) → Searches program from a (u ++ x ∷ []) → Marks managers a u b v → Searches program from b v
searches_more program from a u x managers b v differs are f m =
    let mine : IsMarked a x = f.waiting x (Contains-append_right u (x ∷ []) x (has_one x)) in
    record {
      size = m.size ∙ f.size;
      sound = λ n h. elim (m.only n h) [ inl o ↦ f.sound n o | inr c ↦ comes_on program from x n (f.sound x mine) ((are n).0 c) ];
      waiting = λ n c. elim (m.told n c) [ inl o ↦ m.kept n (f.waiting n (Contains-append_left u (x ∷ []) n o)) | inr h ↦ h ];
      begun = λ n other h below. m.kept n (f.begun n other h below);
      closed = λ n h. elim (m.added n h) [
        | inr c ↦ inl c
        | inl o ↦ elim (f.closed n o) [
          | inr next ↦ inr (λ k e below. m.kept k (next k e below))
          | inl c ↦ elim (Contains-append_cases u (x ∷ []) n c) [
            | inl l ↦ inl (m.stays n l)
            | inr l ↦ inr (λ k e below. m.marked k ((are k).1 (let P : ℕ → Type 0 = λ j. HasManager program j k in subst P (the_one x n l) e)) (let P : ℕ → Type 0 = λ j. k < j in subst P (sym f.size) below))
          ]
        ]
      ];
      met = λ h. elim (m.added from h) [
        | inr c ↦ c
        | inl o ↦ elim (Contains-append_cases u (x ∷ []) from (f.met o)) [ inl l ↦ m.stays from l | inr l ↦ absurd (differs (sym (the_one x from l))) ]
      ];
    }

-- if no work is left, marked files lead to marked files alone
complete : {program : List Entry} {from : ℕ} {marks : List Bool} → Searches program from marks [] → {a b : ℕ} → LeadsTo program a b → b < length program → IsMarked marks a → IsMarked marks b
complete f {a} {b} (one h) below mark = elim (f.closed a mark) [ inl c ↦ none_left a c | inr next ↦ next b h below ]
complete f {a} {b} (more {file} {middle} {other = last} h path) below mark =
    elim (f.closed a mark) [ inl c ↦ none_left a c | inr next ↦ complete f path below (next middle h (leads_within path)) ]

-- if the file itself is met, it is in a cycle
pub cycle_met : (program : List Entry) (from : ℕ) (marks : List Bool) (work : List ℕ) → Searches program from marks work → Contains work from → IsInCycle program from
cycle_met program from marks work f c =
    let comes = f.sound from (f.waiting from c) in
    record {
      other = comes.first;
      differs = comes.differs;
      there = one comes.manages;
      back = elim comes.on [ inl e ↦ absurd (comes.differs e) | inr path ↦ path ];
    }

-- if nothing is left, the file is in no cycle
pub no_cycle : (program : List Entry) (from : ℕ) (marks : List Bool) → Searches program from marks [] → ¬ IsInCycle program from
no_cycle program from marks f is =
    let m = first_other from refl is.differs is.back is.there in
    none_left from (f.met (complete f m.3 (leads_within is.there) (f.begun m.0 m.1 m.2 (leads_within m.3))))

-- without another manager a protocol is in no cycle
pub alone : (program : List Entry) (from : ℕ) (others : List ℕ) → others ≡ [] → ((n : ℕ) → Contains others n ↔ (HasManager program from n × (n ≢ from))) → ¬ IsInCycle program from
alone program from others none are is =
    let m = first_other from refl is.differs is.back is.there in
    none_left m.0 (subst (λ (xs : List ℕ). Contains xs m.0) none ((are m.0).1 (m.2, m.1)))
