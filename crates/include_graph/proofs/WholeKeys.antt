-- Keys are whole: each has no slash, and its ending.
use Rattle.std.proofs.Common.{◌≡◌, ◌⊎◌, inl, inr, ℕ, ◌<◌, ◌||◌, ◌&&◌, Bool, true, false, nat_eq, List, [], ◌∷◌, ◌++◌, refl, sym, ◌∙◌, ap, subst, arith, true≢false}
use Rattle.std.specs.Prelude.{nat_le, nat_lt}
use Rattle.std.proofs.lemmas.Bool.{leb-true, ltb-true, eqb-true}
use Rattle.std.specs.List.{AllByRecursion, Contains, list_any, list_all}
use Rattle.std.specs.Str.{IsAscii}
use Rattle.std.proofs.lemmas.Str.Ascii.{IsAscii-nil, IsAscii-cons}
use Rattle.std.proofs.lemmas.Str.{IsAscii-append}
use Rattle.std.proofs.lemmas.List.Elements.{Contains-append_cases}
use Rattle.ipdl_base.specs.FileNames.{key_of, IsFileWord}
use Rattle.ipdl_base.specs.Words.{is_word_start, is_word_byte, IsWord}
use Rattle.ipdl_base.proofs.Ends.{by_test}
use Rattle.ipdl_syntax.specs.declared.tree.FileKind.{FileKind}
use Rattle.ipdl_syntax.specs.declared.tree.FileKind.TheVariants as file
use Rattle.ipdl_syntax.specs.declared.tree.Include.{Include}
use Rattle.ipdl_syntax.specs.declared.tree.IncludeKind.{IncludeKind}
use Rattle.ipdl_syntax.specs.declared.tree.IncludeKind.TheVariants as kind
use Rattle.ipdl_syntax.specs.Programs.{ending, named_key, named_keys}
use Rattle.ipdl_syntax.specs.Units.{IncludeHasWord}
use Rattle.include_graph.specs.Keys.{HasKind}
use Rattle.include_graph.proofs.Ends.{kind_word, of_kinds}
use Rattle.include_graph.proofs.Places.{in_none, the_one}

abbrev pub slash : ℕ → Bool
slash = λ c. nat_eq c 47

-- a text without a slash is its own key
pub bare : (xs : List ℕ) → list_any slash xs ≡ false → key_of xs ≡ xs
bare [] h = refl
bare (x ∷ xs) h = by_test (slash x)
    (λ e. absurd (true≢false (rw e at h)))
    (λ e. let rest : list_any slash xs ≡ false = rw e at h in rw rest (rw e refl))

-- a key has no slash
pub no_slash : (name : List ℕ) → list_any slash (key_of name) ≡ false
no_slash [] = refl
no_slash (b ∷ bs) = by_test (list_any slash bs)
    (λ e. rw e (no_slash bs))
    (λ e. rw e (by_test (slash b) (λ f. rw f e) (λ f. rw f (rw f e))))

any_append : (xs ys : List ℕ) → list_any slash xs ≡ false → list_any slash (xs ++ ys) ≡ list_any slash ys
any_append [] ys h = refl
any_append (x ∷ xs) ys h = by_test (slash x)
    (λ e. absurd (true≢false (rw e at h)))
    (λ e. rw e (any_append xs ys (rw e at h)))

no_slash_ending : (kind : FileKind) → list_any slash (ending kind) ≡ false
no_slash_ending file.Protocol = refl
no_slash_ending file.Header = refl

-- the key of a word ends as the word does
pub ends_so : (front : List ℕ) (kind : FileKind) → HasKind (key_of (front ++ ending kind)) kind
ends_so [] kind = ([], bare (ending kind) (no_slash_ending kind))
ends_so (b ∷ front) kind = by_test (list_any slash (front ++ ending kind))
    (λ e. subst (λ k. HasKind k kind) (sym (picked e)) (ends_so front kind))
    (λ e. by_test (slash b)
    (λ f. (front, rw e (rw f refl)))
    (λ f. (b ∷ front, rw e (rw f refl))))
  where
    picked : list_any slash (front ++ ending kind) ≡ true → key_of (b ∷ front ++ ending kind) ≡ key_of (front ++ ending kind)
    picked e = rw e refl

ended_so : (word : List ℕ) (kind : FileKind) → HasKind word kind → IsFileWord (key_of word)
ended_so word kind h = kind_word (key_of word) kind (subst (λ x. HasKind (key_of x) kind) (sym h.1) (ends_so h.0 kind))

pub word_ends : (word : List ℕ) → IsFileWord word → IsFileWord (key_of word)
word_ends word w = of_kinds word w (ended_so word file.Protocol) (ended_so word file.Header)

-- A key is whole: it is its own key, and has an ending.
pub record IsWhole (key : List ℕ) : Type 0 where
  pub own : key_of key ≡ key
  pub ended : IsFileWord key

pub whole_word : (word : List ℕ) → IsFileWord word → IsWhole (key_of word)
whole_word word w = record { own = bare (key_of word) (no_slash word); ended = word_ends word w }

or_cases : (p q : Bool) → (p || q) ≡ true → (p ≡ true) ⊎ (q ≡ true)
or_cases true q h = inl refl
or_cases false q h = inr h

and_right : (p q : Bool) → (p && q) ≡ true → q ≡ true
and_right true q h = h
and_right false q h = absurd (true≢false (sym h))

-- a byte of a word is in ASCII, and no slash
word_byte : (b : ℕ) → is_word_byte b ≡ true → (b < 128) × (slash b ≡ false)
word_byte b h = (
  elim (or_cases (is_word_start b) (nat_le 48 b && nat_le b 57) h) [
    | inl start ↦ start_small start
    | inr digit ↦ (let k = leb-true b 57 (and_right (nat_le 48 b) (nat_le b 57) digit) in omega arith)
  ],
  by_test (slash b) (λ e. absurd (true≢false (sym h ∙ ap is_word_byte (eqb-true b 47 e)))) (λ e. e),
)
  where
    start_small : is_word_start b ≡ true → b < 128
    start_small s = elim (or_cases ((nat_le 65 b && nat_le b 90) || (nat_le 97 b && nat_le b 122)) (nat_eq b 95) s) [
      | inl letter ↦ elim (or_cases (nat_le 65 b && nat_le b 90) (nat_le 97 b && nat_le b 122) letter) [
        | inl upper ↦ (let k = leb-true b 90 (and_right (nat_le 65 b) (nat_le b 90) upper) in omega arith)
        | inr lower ↦ (let k = leb-true b 122 (and_right (nat_le 97 b) (nat_le b 122) lower) in omega arith)
      ]
      | inr line ↦ (let k = eqb-true b 95 line in omega arith)
    ]

-- bytes that are all of words
word_bytes : (bs : List ℕ) → list_all is_word_byte bs ≡ true → IsAscii bs × (list_any slash bs ≡ false)
word_bytes [] h = (IsAscii-nil, refl)
word_bytes (b ∷ bs) h = by_test (is_word_byte b)
    (λ e. let here = word_byte b e in let rest = word_bytes bs (rw e at h) in (IsAscii-cons b bs here.0 rest.0, rw here.1 rest.1))
    (λ e. absurd (true≢false (sym (rw e at h))))

pub word_plain : (word : List ℕ) → IsWord word → IsAscii word × (list_any slash word ≡ false)
word_plain [] h = absurd (true≢false (sym h))
word_plain (b ∷ bs) h = by_test (is_word_start b)
    (λ e. word_bytes (b ∷ bs) (let byte : is_word_byte b ≡ true = rw e refl in rw byte (rw e at h)))
    (λ e. absurd (true≢false (sym (rw e at h))))

small : (bs : List ℕ) → list_all (λ b. nat_lt b 128) bs ≡ true → IsAscii bs
small [] h = IsAscii-nil
small (b ∷ bs) h = by_test (nat_lt b 128)
    (λ e. IsAscii-cons b bs (ltb-true b 128 e) (small bs (rw e at h)))
    (λ e. absurd (true≢false (sym (rw e at h))))

ascii_ending : (kind : FileKind) → IsAscii (ending kind)
ascii_ending file.Protocol = small (ending file.Protocol) refl
ascii_ending file.Header = small (ending file.Header) refl

-- a name that is a word, with its ending, is whole and in ASCII
pub named_whole : (kind : FileKind) (name : List ℕ) → IsWord name → IsWhole (name ++ ending kind) × IsAscii (name ++ ending kind)
named_whole kind name w =
    let plain = word_plain name w in
    (record { own = bare (name ++ ending kind) (any_append name (ending kind) plain.1 ∙ no_slash_ending kind); ended = kind_word (name ++ ending kind) kind (name, refl) }, IsAscii-append name (ending kind) plain.0 (ascii_ending kind))

-- the same of the key that an include names
key_whole : (k : IncludeKind) (name key : List ℕ) → IncludeHasWord k name → Contains (named_key k name) key → IsWhole key × IsAscii key
key_whole kind.Protocol name key w c = subst (λ x. IsWhole x × IsAscii x) (the_one (name ++ ending file.Protocol) key c) (named_whole file.Protocol name w)
key_whole kind.Header name key w c = subst (λ x. IsWhole x × IsAscii x) (the_one (name ++ ending file.Header) key c) (named_whole file.Header name w)
key_whole kind.Quoted name key w c = absurd (in_none key c)

-- the same of each key that includes name
pub keys_whole : (includes : List Include) → AllByRecursion (λ i. IncludeHasWord i.kind i.name) includes → (key : List ℕ) → Contains (named_keys includes) key → IsWhole key × IsAscii key
keys_whole [] h key c = absurd (in_none key c)
keys_whole (i ∷ is) h key c = elim (Contains-append_cases (named_key i.kind i.name) (named_keys is) key c) [
  | inl here ↦ key_whole i.kind i.name key h.0 here
  | inr there ↦ keys_whole is h.1 key there
]
