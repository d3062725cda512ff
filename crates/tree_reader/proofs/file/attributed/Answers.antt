use Rattle.ipdl_base.specs.declared.token.Token.{Token}
use Rattle.std.proofs.Common.{List}
use Rattle.tree_reader.specs.declared.refusal.TreeRefusal.{TreeRefusal}
use Rattle.tree_reader.specs.Files.{FileStops, IsDraft, IsHeadedDraft}
use Rattle.tree_reader.specs.declared.symbol.Symbol.TheVariants as symbols
use Rattle.tree_reader.proofs.FileForms.{attributes_read, attributes_stopped}
use Rattle.tree_reader.proofs.Turns.{thrown, next_of}
use Rattle.std.proofs.lemmas.Result.{on_ok_weaker, IfErr-weaker}
use Rattle.tree_reader.proofs.file.attributed.Goals as goal

pub returns-in_err-attributes-clause-stops : goal.returns-in_err-attributes-clause-stops
returns-in_err-attributes-clause-stops c =
    thrown c.from_residual.result c.in_err-attributes.field-0.0 (λ (e : TreeRefusal). (tokens : List Token) → IsDraft c.args.kind tokens c.args.draft.now c.args.reader.now → FileStops c.args.kind tokens e) c.from_residual.ensures.1
    (λ tokens h. attributes_stopped c.args.kind tokens c.args.draft.now c.args.reader.now c.pass.new.self c.in_err-attributes.field-0.0 (next_of symbols.OpenBracket _ _ _ c.requires c.pass.ensures) c.in_err-attributes.ensures.stops h)

head : (c : goal.After-headed) (tokens : List Token) → IsDraft c.args.kind tokens c.args.draft.now c.args.reader.now → IsHeadedDraft c.args.kind tokens c.in_ok-attributes.attributes c.args.draft.now c.bracketed.new.reader
head c tokens h =
    attributes_read c.args.kind tokens c.in_ok-attributes.attributes c.args.draft.now c.args.reader.now c.pass.new.self c.bracketed.new.reader (next_of symbols.OpenBracket _ _ _ c.requires c.pass.ensures) c.in_ok-attributes.ensures.read c.in_ok-attributes.ensures.turns h

pub returns-clause-read : goal.returns-clause-read
returns-clause-read c =
    on_ok_weaker {P = ((tokens : List Token) → IsHeadedDraft c.args.kind tokens c.in_ok-attributes.attributes c.args.draft.now c.bracketed.new.reader → IsDraft c.args.kind tokens c.headed.new.draft c.headed.new.reader)}
    {Q = ((tokens : List Token) → IsDraft c.args.kind tokens c.args.draft.now c.args.reader.now → IsDraft c.args.kind tokens c.headed.new.draft c.headed.new.reader)}
    c.headed.result (λ f tokens h. f tokens (head c tokens h)) c.headed.ensures.read

pub returns-clause-stops : goal.returns-clause-stops
returns-clause-stops c =
    IfErr-weaker c.headed.result (λ (e : TreeRefusal). (tokens : List Token) → IsHeadedDraft c.args.kind tokens c.in_ok-attributes.attributes c.args.draft.now c.bracketed.new.reader → FileStops c.args.kind tokens e)
    (λ (e : TreeRefusal). (tokens : List Token) → IsDraft c.args.kind tokens c.args.draft.now c.args.reader.now → FileStops c.args.kind tokens e)
    (λ e f tokens h. f tokens (head c tokens h)) c.headed.ensures.stops
