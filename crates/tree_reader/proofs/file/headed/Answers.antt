use Rattle.std.proofs.Common.{length, ◌∙◌, sym, subst, rules}
use Rattle.tree_reader.specs.Files.{may_come}
use Rattle.tree_reader.specs.declared.symbol.Symbol.{Symbol}
use Rattle.tree_reader.proofs.FileForms.{none_comes_next, IsNoHead, other_using, other_protocol, other_none}
use Rattle.tree_reader.proofs.file.headed.Goals as goal
use Rattle.tree_reader.proofs.file.headed.Goals.{in_default-via-in-Using+else-is_empty, in_default-via-in-Protocol+else-may_come, in_default-via-in_default}
use Rattle.tree_reader.specs.Symbols.{first_symbol}

other : (c : goal.After-drop-attributes-inside) → IsNoHead (first_symbol c.args.reader.now) (length c.args.draft.now.scope.items) (may_come c.args.kind c.args.draft.now.protocol)
other c =
    let same = c.symbol.ensures in
    subst (λ (s : Symbol). IsNoHead s (length c.args.draft.now.scope.items) (may_come c.args.kind c.args.draft.now.protocol)) same
    (elim c.in_default.branch [
      | in_default-via-in-Using+else-is_empty w ↦ other_using c.symbol.result _ _ w.in-Using.is (search rules)
      | in_default-via-in-Protocol+else-may_come w ↦ other_protocol c.symbol.result _ _ w.in-Protocol.is (sym w.may_come.ensures ∙ w.if-may_come.false)
      | in_default-via-in_default w ↦ other_none c.symbol.result _ _ w.in_default.not-Struct w.in_default.not-Union w.in_default.not-Using w.in_default.not-Protocol w.in_default.not-Async w.in_default.not-Sync
    ])

pub returns-in_default-clause-stops : goal.returns-in_default-clause-stops
returns-in_default-clause-stops c = λ tokens h.
    none_comes_next c.args.kind tokens c.args.attributes c.args.draft.now c.args.reader.now c.refusal.result c.refusal.ensures (other c) h
