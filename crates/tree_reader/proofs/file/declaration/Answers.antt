use Rattle.ipdl_base.specs.declared.token.Token.{Token}
use Rattle.std.proofs.Common.{length, List, ◌∙◌, subst, rules}
use Rattle.tree_reader.specs.declared.refusal.TreeRefusal.{TreeRefusal}
use Rattle.tree_reader.specs.Files.{FileStops, IsDraft, IsHeadedDraft}
use Rattle.tree_reader.specs.declared.symbol.Symbol.{Symbol}
use Rattle.tree_reader.proofs.FileForms.{no_attributes, IsBare, bare_include, bare_namespace, bare_close, bare_none}
use Rattle.std.proofs.lemmas.Result.{on_ok_weaker, IfErr-weaker}
use Rattle.tree_reader.proofs.file.declaration.Goals as goal
use Rattle.tree_reader.proofs.file.declaration.Goals.{in_default-via-in-Include+else-is_empty, in_default-via-in-Namespace+else-len-lt16, in_default-via-in-CloseBrace+else-not-is_empty, in_default-via-in_default}
use Rattle.tree_reader.specs.Symbols.{first_symbol}

bare : (c : goal.After-headed) → IsBare (first_symbol c.args.reader.now) (length c.args.draft.now.scope.items)
bare c =
    let same = c.symbol.ensures in
    subst (λ (s : Symbol). IsBare s (length c.args.draft.now.scope.items)) same
    (elim c.in_default.branch [
      | in_default-via-in-Include+else-is_empty w ↦ bare_include c.symbol.result _ w.in-Include.is (search rules)
      | in_default-via-in-Namespace+else-len-lt16 w ↦ bare_namespace c.symbol.result _ w.in-Namespace.is (search rules)
      | in_default-via-in-CloseBrace+else-not-is_empty w ↦ bare_close c.symbol.result _ w.in-CloseBrace.is (search rules)
      | in_default-via-in_default w ↦ bare_none c.symbol.result _ w.in_default.not-OpenBracket w.in_default.not-Include w.in_default.not-Namespace w.in_default.not-CloseBrace
    ])

head : (c : goal.After-headed) (tokens : List Token) → IsDraft c.args.kind tokens c.args.draft.now c.args.reader.now → IsHeadedDraft c.args.kind tokens c.from_vec.result c.args.draft.now c.args.reader.now
head c tokens h = no_attributes c.args.kind tokens c.from_vec.result c.args.draft.now c.args.reader.now (c.from_vec.ensures ∙ c.new.ensures.items) c.requires (bare c) h

pub returns-in_default-clause-read : goal.returns-in_default-clause-read
returns-in_default-clause-read c =
    on_ok_weaker {P = ((tokens : List Token) → IsHeadedDraft c.args.kind tokens c.from_vec.result c.args.draft.now c.args.reader.now → IsDraft c.args.kind tokens c.headed.new.draft c.headed.new.reader)}
    {Q = ((tokens : List Token) → IsDraft c.args.kind tokens c.args.draft.now c.args.reader.now → IsDraft c.args.kind tokens c.headed.new.draft c.headed.new.reader)}
    c.headed.result (λ f tokens h. f tokens (head c tokens h)) c.headed.ensures.read

pub returns-in_default-clause-stops : goal.returns-in_default-clause-stops
returns-in_default-clause-stops c =
    IfErr-weaker c.headed.result (λ (e : TreeRefusal). (tokens : List Token) → IsHeadedDraft c.args.kind tokens c.from_vec.result c.args.draft.now c.args.reader.now → FileStops c.args.kind tokens e)
    (λ (e : TreeRefusal). (tokens : List Token) → IsDraft c.args.kind tokens c.args.draft.now c.args.reader.now → FileStops c.args.kind tokens e)
    (λ e f tokens h. f tokens (head c tokens h)) c.headed.ensures.stops
