use Rattle.std.proofs.Common.{rules, ◌≡◌, [], List, subst}
use Rattle.ipdl_base.specs.declared.token.Token.{Token}
use Rattle.ipdl_syntax.specs.declared.tree.Unit.{Unit as FileUnit}
use Rattle.ipdl_syntax.specs.Program.{Tree}
use Rattle.tree_reader.specs.declared.refusal.TreeRefusal.{TreeRefusal}
use Rattle.tree_reader.specs.declared.symbol.Symbol.TheVariants.{End}
use Rattle.tree_reader.specs.Symbols.{first_symbol}
use Rattle.tree_reader.specs.Files.{FileStops, IsDraft}
use Rattle.tree_reader.proofs.FileForms.{no_token}
use Rattle.tree_reader.proofs.Turns.{thrown}
use Rattle.std.proofs.lemmas.Result.{IfOk-weaker, IfErr-weaker}
use Rattle.tree_reader.proofs.file.read_file.Goals as goal

pub returns-in_err-declaration-clause-stops : goal.returns-in_err-declaration-clause-stops
returns-in_err-declaration-clause-stops c =
    thrown c.from_residual.result _ (FileStops c.args.kind c.args.tokens.now) c.from_residual.ensures.1 (c.in_err-declaration.ensures.stops c.args.tokens.now c.declarations.invariant)

-- the draft at the end
whole : (c : goal.After-finish) → IsDraft c.args.kind c.args.tokens.now c.declarations.draft []
whole c =
    let end : first_symbol c.declarations.reader ≡ End = search rules in
    subst (λ (x : List Token). IsDraft c.args.kind c.args.tokens.now c.declarations.draft x) (no_token c.declarations.reader end) c.declarations.invariant

pub returns-clause-read : goal.returns-clause-read
returns-clause-read c =
    IfOk-weaker c.finish.result (λ (unit : FileUnit). (tokens : List Token) → IsDraft c.args.kind tokens c.declarations.draft [] → Tree c.args.kind tokens unit) (Tree c.args.kind c.args.tokens.now)
    (λ unit f. f c.args.tokens.now (whole c)) c.finish.ensures.read

pub returns-clause-stops : goal.returns-clause-stops
returns-clause-stops c =
    IfErr-weaker c.finish.result (λ (e : TreeRefusal). (tokens : List Token) → IsDraft c.args.kind tokens c.declarations.draft [] → FileStops c.args.kind tokens e) (FileStops c.args.kind c.args.tokens.now)
    (λ e f. f c.args.tokens.now (whole c)) c.finish.ensures.stops
