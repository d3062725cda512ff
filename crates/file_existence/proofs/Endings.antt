-- Whether a key ends as the names of files of some kind do.
use Rattle.std.proofs.Common.{◌⊎◌, ℕ, ◌-◌, List, length, drop, inl, inr, sym, ◌∙◌, true≢false}
use Rattle.ipdl_base.proofs.Ends.{by_test, ends, has_ending}
use Rattle.ipdl_syntax.specs.declared.tree.FileKind.{FileKind}
use Rattle.ipdl_syntax.specs.declared.tree.FileKind.TheVariants as file
use Rattle.ipdl_syntax.specs.Programs.{ending}
use Rattle.include_graph.specs.Keys.{HasKind, is_same}

kind_or_not : (key : List ℕ) (kind : FileKind) → HasKind key kind ⊎ (HasKind key kind → ⊥)
kind_or_not key kind =
    by_test (is_same (ending kind) (drop (length key - length (ending kind)) key))
    (λ test. inl (ends key (ending kind) test))
    (λ test. inr (λ h. true≢false (sym (has_ending key (ending kind) h.0 h.1) ∙ test)))

-- the key has a kind
abbrev pub Kinded : List ℕ → Type 0
Kinded key = (kind : FileKind) × HasKind key kind

pub kind_or_none : (key : List ℕ) → Kinded key ⊎ ((kind : FileKind) → HasKind key kind → ⊥)
kind_or_none key = elim (kind_or_not key file.Protocol) [
  | inl protocol ↦ inl (file.Protocol, protocol)
  | inr no_protocol ↦ elim (kind_or_not key file.Header) [
    | inl header ↦ inl (file.Header, header)
    | inr no_header ↦ inr (elim [ file.Protocol ↦ no_protocol | file.Header ↦ no_header ])
  ]
]
