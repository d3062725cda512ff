-- Programs of one reading are alike.
use Rattle.std.proofs.Common.{◌≡◌, ◌≢◌, ◌<◌, ℕ, zero, suc, List, [], ◌∷◌, map, length, get_or, refl, sym, ◌∙◌, ap, subst, arith}
use Rattle.std.specs.Prelude.{Option, Some, slice_get}
use Rattle.std.specs.List.{AllPairs}
use Rattle.std.proofs.lemmas.Option.{same_Some}
use Rattle.ipdl_lex.specs.declared.token.LexedText.{LexedText}
use Rattle.ipdl_lex.specs.Tokens.{IsTokens}
use Rattle.ipdl_syntax.specs.declared.program.Entry.{Entry}
use Rattle.ipdl_syntax.specs.declared.tree.FileKind.{FileKind}
use Rattle.ipdl_syntax.specs.declared.tree.Unit.{Unit as FileUnit}
use Rattle.ipdl_syntax.specs.Program.{Tree}
use Rattle.ipdl_syntax.specs.Programs.{IsProgram, named_keys}
use Rattle.grammar_laws.specs.Boxes.{unboxed}
use Rattle.include_graph.specs.Load.{IsEntryOf, IsProgramOf, keys_of}
use Rattle.include_graph.specs.Reach.{IsUnitOf}
use Rattle.include_graph.specs.Sources.{LoadInput, IsReadUnder, content}
use Rattle.include_graph.proofs.OneReach.{one_reach}
use Rattle.include_graph.proofs.OneUnit.{AtMostOne, kind_one}
use Rattle.answer_laws.specs.Programs.{unboxed_entry, unboxed_program, AreProgramsAlike}

-- two trees of a file are the same up to boxes
one_unit : AtMostOne → (number : ℕ) (key : List ℕ) (held : Option (List ℕ)) (one other : FileUnit) → IsUnitOf number key held one → IsUnitOf number key held other → unboxed one ≡ unboxed other
one_unit laws number key held one other u v =
    let bytes : u.bytes ≡ v.bytes = same_Some _ _ (sym u.has ∙ v.has) in
    let lexed : u.lexed ≡ v.lexed = laws.tokens number v.bytes u.lexed v.lexed (subst (λ (text : List ℕ). IsTokens number text u.lexed) bytes u.tokens) v.tokens in
    let kind : u.kind ≡ v.kind = kind_one key u.kind v.kind u.is_kind v.is_kind in
    let tree : Tree v.kind v.lexed.tokens one = subst (λ (k : FileKind). Tree k v.lexed.tokens one) kind (subst (λ (l : LexedText). Tree u.kind l.tokens one) lexed u.tree) in
    laws.tree v.kind v.lexed.tokens one other tree v.tree

-- what is at an index
at_index : (keys : List (List ℕ)) (i : ℕ) (key : List ℕ) → slice_get keys i ≡ Some key → (i < length keys) × (get_or keys i [] ≡ key)
at_index [] zero key e = absurd (let no : ⊥ = cc in no)
at_index [] (suc i) key e = absurd (let no : ⊥ = cc in no)
at_index (k ∷ keys) zero key e = (omega arith, same_Some k key e)
at_index (k ∷ keys) (suc i) key e = let h = at_index keys i key e in (omega (arith, h.0), h.1)

-- a key of distinct ones is at one index
one_index : (keys : List (List ℕ)) (i j : ℕ) (key : List ℕ) → AllPairs (λ a b. a ≢ b) keys → slice_get keys i ≡ Some key → slice_get keys j ≡ Some key → i ≡ j
one_index keys i j key once at also =
    let p = at_index keys i key at in
    let q = at_index keys j key also in
    let one : i < j → ⊥ = λ lt. once i j [] lt q.0 (p.1 ∙ sym q.1) in
    let other : j < i → ⊥ = λ lt. once j i [] lt p.0 (q.1 ∙ sym p.1) in
    omega (arith, one, other)

-- so the same keys are at the same indices
same_indices : (keys named : List (List ℕ)) (is js : List ℕ) → AllPairs (λ a b. a ≢ b) keys → map (λ i. slice_get keys i) is ≡ map Some named → map (λ i. slice_get keys i) js ≡ map Some named → is ≡ js
same_indices keys [] [] [] once p q = refl
same_indices keys [] [] (j ∷ js) once p q = absurd (let no : ⊥ = cc in no)
same_indices keys [] (i ∷ is) js once p q = absurd (let no : ⊥ = cc in no)
same_indices keys (k ∷ named) [] js once p q = absurd (let no : ⊥ = cc in no)
same_indices keys (k ∷ named) (i ∷ is) [] once p q = absurd (let no : ⊥ = cc in no)
same_indices keys (k ∷ named) (i ∷ is) (j ∷ js) once p q =
    let at : slice_get keys i ≡ Some k = cc in
    let also : slice_get keys j ≡ Some k = cc in
    let more : map (λ i. slice_get keys i) is ≡ map Some named = cc in
    let others : map (λ i. slice_get keys i) js ≡ map Some named = cc in
    let head : i ≡ j = one_index keys i j k once at also in
    let tail : is ≡ js = same_indices keys named is js once more others in
    cc

-- the entry of this number, of a program of these keys
pub record IsEntryAt (given : LoadInput) (keys : List (List ℕ)) (number : ℕ) (entry : Entry) : Type 0 where
  pub of : IsEntryOf given number entry
  pub includes : map (λ i. slice_get keys i) entry.includes ≡ map Some (named_keys entry.unit.includes)

-- two entries of one number and key are alike
alike_entries : AtMostOne → (given : LoadInput) (keys : List (List ℕ)) → AllPairs (λ a b. a ≢ b) keys → (number : ℕ) (a b : Entry) → IsEntryAt given keys number a → IsEntryAt given keys number b → a.key ≡ b.key → unboxed_entry a ≡ unboxed_entry b
alike_entries laws given keys once number a b x y key =
    let name : a.name ≡ b.name = same_Some _ _ (sym x.of.name ∙ subst (λ (k : List ℕ). IsReadUnder given k b.name) (sym key) y.of.name) in
    let other : IsUnitOf number a.key (content given a.key) b.unit = subst (λ (k : List ℕ). IsUnitOf number k (content given k) b.unit) (sym key) y.of.unit in
    let unit : unboxed a.unit ≡ unboxed b.unit = one_unit laws number a.key (content given a.key) a.unit b.unit x.of.unit other in
    let named : named_keys a.unit.includes ≡ named_keys b.unit.includes = ap (λ (u : FileUnit). named_keys u.includes) unit in
    let includes : a.includes ≡ b.includes = same_indices keys (named_keys a.unit.includes) a.includes b.includes once x.includes (y.includes ∙ ap (map Some) (sym named)) in
    λ i. record { key = key i; name = name i; unit = unit i; includes = includes i }

-- so are programs whose entries are
zipped : (p q : List Entry) (E : ℕ → Entry → Type 0) → ((number : ℕ) (a b : Entry) → E number a → E number b → a.key ≡ b.key → unboxed_entry a ≡ unboxed_entry b) → keys_of p ≡ keys_of q
    → ((number : ℕ) (entry : Entry) → slice_get p number ≡ Some entry → E number entry) → ((number : ℕ) (entry : Entry) → slice_get q number ≡ Some entry → E number entry) → unboxed_program p ≡ unboxed_program q
zipped [] [] E step keys f g = refl
zipped [] (b ∷ q) E step keys f g = absurd (let no : ⊥ = cc in no)
zipped (a ∷ p) [] E step keys f g = absurd (let no : ⊥ = cc in no)
zipped (a ∷ p) (b ∷ q) E step keys f g =
    let key : a.key ≡ b.key = cc in
    let more : keys_of p ≡ keys_of q = cc in
    let head : unboxed_entry a ≡ unboxed_entry b = step 0 a b (f 0 a refl) (g 0 b refl) key in
    let tail : unboxed_program p ≡ unboxed_program q = zipped p q (λ number. E (suc number)) (λ number. step (suc number)) more (λ number. f (suc number)) (λ number. g (suc number)) in
    cc

-- two programs of one reading have the same keys
pub same_keys : AtMostOne → (given : LoadInput) (p q : List Entry) → IsProgramOf given p → IsProgramOf given q → keys_of p ≡ keys_of q
same_keys laws given p q x y = one_reach laws given (keys_of p) (keys_of q) x.reach y.reach

-- and are alike
pub alike : AtMostOne → (given : LoadInput) (p q : List Entry) → IsProgramOf given p → IsProgramOf given q → IsProgram p → IsProgram q → AreProgramsAlike p q
alike laws given p q x y whole other =
    let keys = same_keys laws given p q x y in
    zipped p q (IsEntryAt given (keys_of p)) (alike_entries laws given (keys_of p) x.reach.reached.once) keys
    (λ number entry at. record { of = x.entries number entry at; includes = (whole.entries number entry at).includes })
    (λ number entry at. record {
      of = y.entries number entry at;
      includes = subst (λ (ks : List (List ℕ)). map (λ i. slice_get ks i) entry.includes ≡ map Some (named_keys entry.unit.includes)) (sym keys) (other.entries number entry at).includes;
    })
