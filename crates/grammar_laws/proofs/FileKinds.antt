-- The protocol of a file.
use Rattle.std.proofs.Common.{IsSome, IsNone, refl, sym, subst}
use Rattle.ipdl_syntax.specs.declared.tree.FileKind.TheVariants as file
use Rattle.ipdl_syntax.specs.declared.tree.Unit.{Unit as FileUnit}
use Rattle.grammar_laws.specs.Laws.{FilesHold}

pub files_hold : FilesHold
files_hold file.Header tokens unit tree = subst (λ (u : FileUnit). IsNone u.protocol) (sym tree.2) refl
files_hold file.Protocol tokens unit tree = subst (λ (u : FileUnit). IsSome u.protocol) (sym tree.4) refl
