use Rattle.std.proofs.Common.{ℕ, List, [], Option, None, Some, unwrap_or}
use Rattle.ipdl_syntax.specs.declared.tree.Param.{Param}
use Rattle.written_parts.specs.Types.{TypeInFile, told, types_of_params}
use Rattle.written_parts.proofs.Appending.{appends_none, appends_then, appends_held}
use Rattle.written_parts.proofs.types.add_message.Goals as goal

returned : ℕ → Option (List Param) → List TypeInFile
returned file o = types_of_params file (unwrap_or o [])

pub returns-in_ok-add_params-2 : goal.returns-in_ok-add_params-2
unfolding returned
returns-in_ok-add_params-2 c =
    let m = c.args.message.now in
    appends_then told (types_of_params c.args.file m.params) (returned c.args.file m.returns) _ _ _ (rw c.as_slice.ensures at c.in_ok-add_params.ensures)
    (appends_held told (returned c.args.file) m.returns (Some c.in-Some.returns) _ _ c.in-Some.is (rw c.as_slice-in-Some.ensures at c.in_ok-add_params-2.ensures))

pub returns-in_default : goal.returns-in_default
unfolding returned
returns-in_default c =
    let m = c.args.message.now in
    appends_then told (types_of_params c.args.file m.params) (returned c.args.file m.returns) _ _ _ (rw c.as_slice.ensures at c.in_ok-add_params.ensures)
    (appends_held told (returned c.args.file) m.returns None _ _ c.in_default.is (appends_none told c.add_params.new.types.items))
