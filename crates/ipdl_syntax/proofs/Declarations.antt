-- Declarations one after the other.
use Rattle.std.proofs.Common.{◌≡◌, append_assoc}
use Rattle.std.proofs.lemmas.List.{append-nil}
use Rattle.ipdl_syntax.specs.Program.{Declarations, ◌&◌, no_declaration}

-- joining three lists of declarations is associative
pub and_assoc : (a b c : Declarations) → ((a & b) & c) ≡ (a & b & c)
and_assoc a b c = λ i. record {
  includes = append_assoc a.includes b.includes c.includes i;
  usings = append_assoc a.usings b.usings c.usings i;
  structs = append_assoc a.structs b.structs c.structs i;
  unions = append_assoc a.unions b.unions c.unions i;
}

-- declarations before no others
pub and_none : (a : Declarations) → (a & no_declaration) ≡ a
and_none a = λ i. record { includes = append-nil a.includes i; usings = append-nil a.usings i; structs = append-nil a.structs i; unions = append-nil a.unions i }
