-- The keys that a file names are one list.
use Rattle.std.proofs.Common.{◌≡◌, ◌∙◌, inl, inr, ℕ, List, [], ◌∷◌, ◌++◌, Option, refl, sym, ap, subst, arith}
use Rattle.std.proofs.lemmas.Option.{same_Some}
use Rattle.ipdl_lex.specs.declared.token.LexedText.{LexedText}
use Rattle.ipdl_lex.specs.Tokens.{IsTokens}
use Rattle.ipdl_syntax.specs.declared.tree.FileKind.{FileKind}
use Rattle.ipdl_syntax.specs.declared.tree.FileKind.TheVariants as file
use Rattle.ipdl_syntax.specs.declared.tree.Include.{Include}
use Rattle.ipdl_syntax.specs.declared.tree.Unit.{Unit as FileUnit}
use Rattle.ipdl_syntax.specs.Program.{Tree}
use Rattle.ipdl_syntax.specs.Programs.{named_keys}
use Rattle.grammar_laws.specs.Laws.{HasOneTree}
use Rattle.include_graph.specs.Keys.{HasKind}
use Rattle.include_graph.specs.Reach.{IsUnitOf, Names}

-- a text has at most one list of tokens, and tokens have at most one tree
pub record AtMostOne : Type 0 where
  pub tokens : (number : ℕ) (text : List ℕ) (one other : LexedText) → IsTokens number text one → IsTokens number text other → one ≡ other
  pub tree : HasOneTree

-- the last byte, or this if there is no byte
abbrev last_or : ℕ → List ℕ → ℕ
last_or d [] = d
last_or d (b ∷ bs) = last_or b bs

-- what comes before does not matter
last_after : (d : ℕ) (front : List ℕ) (b : ℕ) (bs : List ℕ) → last_or d (front ++ b ∷ bs) ≡ last_or b bs
last_after d [] b bs = refl
last_after d (x ∷ front) b bs = last_after x front b bs

-- a key does not end in both ways
not_both : (key : List ℕ) → HasKind key file.Protocol → HasKind key file.Header → ⊥
not_both key (front, is) (other, are) =
    let protocol : last_or 0 key ≡ 108 = ap (last_or 0) is ∙ last_after 0 front 46 (105 ∷ 112 ∷ 100 ∷ 108 ∷ []) in
    let header : last_or 0 key ≡ 104 = ap (last_or 0) are ∙ last_after 0 other 46 (105 ∷ 112 ∷ 100 ∷ 108 ∷ 104 ∷ []) in
    omega (arith, protocol, header)

-- so it has one kind
pub kind_one : (key : List ℕ) (one other : FileKind) → HasKind key one → HasKind key other → one ≡ other
kind_one key file.Protocol file.Protocol h k = refl
kind_one key file.Header file.Header h k = refl
kind_one key file.Protocol file.Header h k = absurd (not_both key h k)
kind_one key file.Header file.Protocol h k = absurd (not_both key k h)

-- two trees of a file have the same includes
pub includes_one : AtMostOne → (number : ℕ) (key : List ℕ) (held : Option (List ℕ)) (one other : FileUnit)
    → IsUnitOf number key held one → IsUnitOf number key held other → ◌≡◌ {A = List Include} one.includes other.includes
includes_one laws number key held one other u v =
    let bytes : u.bytes ≡ v.bytes = same_Some _ _ (sym u.has ∙ v.has) in
    let lexed : u.lexed ≡ v.lexed = laws.tokens number v.bytes u.lexed v.lexed (subst (λ (text : List ℕ). IsTokens number text u.lexed) bytes u.tokens) v.tokens in
    let kind : u.kind ≡ v.kind = kind_one key u.kind v.kind u.is_kind v.is_kind in
    let tree : Tree v.kind v.lexed.tokens one =
    subst (λ (k : FileKind). Tree k v.lexed.tokens one) kind (subst (λ (l : LexedText). Tree u.kind l.tokens one) lexed u.tree) in
    ap (λ (unit : FileUnit). unit.includes) (laws.tree v.kind v.lexed.tokens one other tree v.tree)

-- a file names one list of keys
pub names_one : AtMostOne → (number : ℕ) (key : List ℕ) (held : Option (List ℕ)) (one other : List (List ℕ)) → Names number key held one → Names number key held other → one ≡ other
names_one laws number key held one other (inl (u, has, is)) (inl (v, had, was)) = is ∙ (ap named_keys (includes_one laws number key held u v has had) ∙ sym was)
names_one laws number key held one other (inl (u, has, is)) (inr (none, was)) = absurd (none u has)
names_one laws number key held one other (inr (none, is)) (inl (v, had, was)) = absurd (none v had)
names_one laws number key held one other (inr (none, is)) (inr (never, was)) = is ∙ sym was
