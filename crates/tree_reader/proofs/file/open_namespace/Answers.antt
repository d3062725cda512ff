use Rattle.ipdl_base.specs.declared.token.Token.{Token}
use Rattle.ipdl_syntax.specs.declared.tree.FileKind.{FileKind}
use Rattle.std.proofs.Common.{List}
use Rattle.tree_reader.specs.declared.refusal.TreeRefusal.{TreeRefusal}
use Rattle.tree_reader.specs.Files.{FileStops, IsDraft}
use Rattle.tree_reader.specs.declared.symbol.Symbol.TheVariants as symbols
use Rattle.tree_reader.proofs.FileForms.{namespace_opened, open_stopped}
use Rattle.tree_reader.proofs.Turns.{thrown, next_of}
use Rattle.tree_reader.proofs.file.open_namespace.Goals as goal

pub returns-in_err-name-clause-stops : goal.returns-in_err-name-clause-stops
returns-in_err-name-clause-stops c =
    thrown c.from_residual.result c.in_err-name.field-0.0 (λ (e : TreeRefusal). (kind : FileKind) (tokens : List Token) → IsDraft kind tokens c.args.draft.now c.args.reader.now → FileStops kind tokens e) c.from_residual.ensures.1
    (λ kind tokens h. open_stopped kind tokens c.args.draft.now c.args.reader.now c.pass.new.self c.in_err-name.field-0.0 c.requires.room (next_of symbols.Namespace _ _ _ c.requires.opening c.pass.ensures) c.in_err-name.ensures.stops h)

pub returns-clause-read : goal.returns-clause-read
returns-clause-read c = λ kind tokens h.
    namespace_opened kind tokens c.args.draft.now c.args.reader.now c.pass.new.self c.namespace_name.new.reader c.in_ok-name.name c.push.new.self c.requires.room c.in_ok-push.ensures.items
    (next_of symbols.Namespace _ _ _ c.requires.opening c.pass.ensures) c.in_ok-name.ensures.read c.in_ok-name.ensures.turns h
