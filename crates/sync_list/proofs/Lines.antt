-- What the reader knows, when one more line is read.
use Rattle.std.proofs.Common.{◌≡◌, ℕ, ◌+◌, Bool, true, false, not, ◌||◌, ◌&&◌, zero, suc, List, [], ◌∷◌, ◌++◌, Some, length, get_or, set, inl, inr, refl, sym, ap, ◌∙◌, subst, arith}
use Rattle.std.specs.List.{list_all, Contains}
use Rattle.std.specs.Str.{bytes_eq}
use Rattle.std.specs.HashSet.{HashSet}
use Rattle.std.proofs.lemmas.Bool.{true≢false}
use Rattle.std.proofs.lemmas.List.Elements.{Contains-push, Contains-push_cases, Contains-append_left}
use Rattle.ipdl_lex.specs.Pieces.{is_blank}
use Rattle.sync_list.specs.declared.list.Section.{Section}
use Rattle.sync_list.specs.Forms.{LineForm, blank, comment, section, value, more, is_section, word_of}
use Rattle.sync_list.specs.Lists.{description, describes, sections_from}
use Rattle.sync_list.specs.Marked.{marked}
use Rattle.sync_list.specs.Reading.{IsValueOf}
use Rattle.sync_list.specs.Sets.{NamePair, same_pair, KeysAre, AddsKeys}
use Rattle.sync_list.proofs.Grown.{sections-section, sections-other, marked-false}

-- the last section is the one that is marked
pub marked_set : (d : Bool) (sections : List Section) (n : ℕ) (s : Section) → n + 1 ≡ length sections → s ≡ get_or sections n s → set sections n (record s { described = s.described || d }) ≡ marked d sections
marked_set d [] n s e at = absurd (omega (arith, e))
marked_set d (t ∷ []) zero s e at = ap (λ (x : Section). record x { described = x.described || d } ∷ []) at
marked_set d (t ∷ []) (suc n) s e at = absurd (omega (arith, e))
marked_set d (t ∷ u ∷ others) zero s e at = absurd (omega (arith, e))
marked_set d (t ∷ u ∷ others) (suc n) s e at = ap (λ l. t ∷ l) (marked_set d (u ∷ others) n s (omega (arith, e)) at)

-- the forms of a line with a value of a word
pub value_plain : (word : List ℕ) (filled : Bool) (form : LineForm) → IsValueOf word filled form → is_section form ≡ false
value_plain word filled blank h = absurd h
value_plain word filled comment h = absurd h
value_plain word filled (section p m) h = absurd h
value_plain word filled (value w b) h = refl
value_plain word filled (more w) h = refl

pub value_word : (word : List ℕ) (filled : Bool) (form : LineForm) → IsValueOf word filled form → word_of form ≡ Some word
value_word word filled blank h = absurd h
value_word word filled comment h = absurd h
value_word word filled (section p m) h = absurd h
value_word word filled (value w b) h = ap Some h.0
value_word word filled (more w) h = ap Some h.0

with_true : (b : Bool) → b ≡ (b && true)
with_true true = refl
with_true false = refl

pub value_describes : (word : List ℕ) (filled : Bool) (form : LineForm) → IsValueOf word filled form → describes form ≡ (bytes_eq word description && filled)
value_describes word filled blank h = absurd h
value_describes word filled comment h = absurd h
value_describes word filled (section p m) h = absurd h
value_describes word filled (value w b) h = ap (λ x. bytes_eq x description && not (list_all is_blank b)) h.0 ∙ ap (λ x. bytes_eq word description && x) (sym h.1)
value_describes word filled (more w) h = with_true (bytes_eq w description) ∙ ap (λ x. bytes_eq x description && true) h.0 ∙ ap (λ x. bytes_eq word description && x) (sym h.1)

-- the sections after a line that is not a section
pub sections_after : (forms : List LineForm) (form : LineForm) (old new : List Section) (d : Bool) → is_section form ≡ false → describes form ≡ d → old ≡ sections_from 1 forms → new ≡ marked d old → new ≡ sections_from 1 (forms ++ form ∷ [])
sections_after forms form old new d plain same before marks =
    marks ∙ ap (marked d) before ∙ ap (λ b. marked b (sections_from 1 forms)) (sym same) ∙ sym (sections-other form plain 1 forms)

pub sections_quiet : (forms : List LineForm) (form : LineForm) (old : List Section) → is_section form ≡ false → describes form ≡ false → old ≡ sections_from 1 forms → old ≡ sections_from 1 (forms ++ form ∷ [])
sections_quiet forms form old plain quiet before = sections_after forms form old old false plain quiet before (sym (marked-false old))

no_section : (form : LineForm) (p m : List ℕ) → is_section form ≡ false → ¬ (form ≡ section p m)
no_section form p m plain e = true≢false (sym (ap is_section e) ∙ plain)

-- the names after a line that is not a section
pub seen_after : {S : Type 0} (set : HashSet NamePair S) (forms : List LineForm) (form : LineForm) → is_section form ≡ false → KeysAre same_pair set (λ pair. Contains forms (section pair.0.now pair.1.now)) → KeysAre same_pair set (λ pair. Contains (forms ++ form ∷ []) (section pair.0.now pair.1.now))
seen_after set forms form plain seen = record {
  exact = λ q. (
    λ h. Contains-append_left forms (form ∷ []) (section q.0.now q.1.now) ((seen.exact q).0 h),
    λ h. elim (Contains-push_cases forms form (section q.0.now q.1.now) h) [
      | inl x ↦ (seen.exact q).1 x
      | inr e ↦ absurd (no_section form q.0.now q.1.now plain e)
    ],
  );
}

-- and after a section line
pub seen_section : {S : Type 0} (old new : HashSet NamePair S) (forms : List LineForm) (protocol message : List ℕ) → KeysAre same_pair old (λ pair. Contains forms (section pair.0.now pair.1.now)) → AddsKeys same_pair old new (λ q. (protocol ≡ q.0.now) × (message ≡ q.1.now)) → KeysAre same_pair new (λ pair. Contains (forms ++ section protocol message ∷ []) (section pair.0.now pair.1.now))
seen_section old new forms protocol message seen adds = record {
  exact = λ q. (
    λ h. elim ((adds.exact q).0 h) [
      | inl x ↦ Contains-append_left forms (section protocol message ∷ []) (section q.0.now q.1.now) ((seen.exact q).0 x)
      | inr x ↦ (
          let P : LineForm → Type 0 = λ f. Contains (forms ++ section protocol message ∷ []) f in
          subst P (ap (λ p. section p message) x.0 ∙ ap (section q.0.now) x.1) (Contains-push forms (section protocol message))
          )
    ],
    λ h. elim (Contains-push_cases forms (section protocol message) (section q.0.now q.1.now) h) [
      | inl x ↦ (adds.exact q).1 (inl ((seen.exact q).1 x))
      | inr e ↦ (adds.exact q).1 (inr (let first : protocol ≡ q.0.now = cc in let second : message ≡ q.1.now = cc in (first, second)))
    ],
  );
}

-- the sections after a section line
pub sections_begun : (forms : List LineForm) (old : List Section) (p m protocol message : List ℕ) (number : ℕ) → p ≡ protocol → m ≡ message → old ≡ sections_from 1 forms → length forms + 1 ≡ number → old ++ record { protocol = p; message = m; described = false; line = number } ∷ [] ≡ sections_from 1 (forms ++ section protocol message ∷ [])
sections_begun forms old p m protocol message number first second before counted = rw (first, second, before) (sym (sections-section 1 number protocol message forms (omega (arith, counted))))
