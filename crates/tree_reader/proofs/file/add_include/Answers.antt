use Rattle.ipdl_base.specs.declared.token.Token.{Token}
use Rattle.ipdl_syntax.specs.declared.tree.FileKind.{FileKind}
use Rattle.std.proofs.Common.{List}
use Rattle.tree_reader.specs.declared.refusal.TreeRefusal.{TreeRefusal}
use Rattle.tree_reader.specs.Files.{FileStops, IsDraft}
use Rattle.tree_reader.specs.declared.symbol.Symbol.TheVariants as symbols
use Rattle.tree_reader.proofs.FileForms.{include_added, include_stopped}
use Rattle.tree_reader.proofs.Turns.{thrown, next_of}
use Rattle.tree_reader.proofs.file.add_include.Goals as goal

pub returns-in_err-found-clause-stops : goal.returns-in_err-found-clause-stops
returns-in_err-found-clause-stops c =
    thrown c.from_residual.result c.in_err-found.field-0.0 (λ (e : TreeRefusal). (kind : FileKind) (tokens : List Token) → IsDraft kind tokens c.args.draft.now c.args.reader.now → FileStops kind tokens e) c.from_residual.ensures.1
    (λ kind tokens h. include_stopped kind tokens c.args.draft.now c.args.reader.now c.pass.new.self c.in_err-found.field-0.0 c.requires.outside (next_of symbols.Include _ _ _ c.requires.including c.pass.ensures) c.in_err-found.ensures.stops h)

pub returns-clause-read : goal.returns-clause-read
returns-clause-read c = λ kind tokens h.
    include_added kind tokens c.args.draft.now c.args.reader.now c.pass.new.self c.include_decl.new.reader c.in_ok-found.found c.push.new.self c.requires.outside c.in_ok-push.ensures.items
    (next_of symbols.Include _ _ _ c.requires.including c.pass.ensures) c.in_ok-found.ensures.read c.in_ok-found.ensures.turns h
