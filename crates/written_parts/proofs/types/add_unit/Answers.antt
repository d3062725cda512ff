use Rattle.std.proofs.Common.{ℕ, List, ◌++◌, None, Some}
use Rattle.std.specs.List.{flat_map}
use Rattle.std.proofs.lemmas.List.{take_all}
use Rattle.ipdl_syntax.specs.declared.tree.StructDecl.{StructDecl}
use Rattle.ipdl_syntax.specs.declared.tree.UnionDecl.{UnionDecl}
use Rattle.written_parts.specs.Types.{TypeInFile, told, types_of_params, types_of_components, types_of_protocol}
use Rattle.written_parts.proofs.Appending.{appends_none, appends_then, appends_held, appends_turn}
use Rattle.written_parts.proofs.types.add_unit.Goals as goal

pub loop-struct_decl-init : goal.loop-struct_decl-init
loop-struct_decl-init c = appends_none told c.args.types.now.items

pub loop-struct_decl-preserved : goal.loop-struct_decl-preserved
loop-struct_decl-preserved c =
    appends_turn told (λ (s : StructDecl). types_of_params c.args.file s.fields) c.args.unit.now.structs c.loop-struct_decl.struct_decl-index c.struct_decl-item.result _ _ _
    (rw c.as_slice-struct_decl-items.ensures at c.loop-struct_decl-test.true) (rw c.as_slice-struct_decl-items.ensures at c.struct_decl-item.is) c.loop-struct_decl.invariant (rw c.as_slice.ensures at c.in_ok-add_params.ensures)

pub loop-union_decl-init : goal.loop-union_decl-init
loop-union_decl-init c = appends_none told c.loop-struct_decl.types.items

pub loop-union_decl-preserved : goal.loop-union_decl-preserved
loop-union_decl-preserved c =
    appends_turn told (λ (u : UnionDecl). types_of_components c.args.file u.components) c.args.unit.now.unions c.loop-union_decl.union_decl-index c.union_decl-item.result _ _ _
    (rw c.as_slice-union_decl-items.ensures at c.loop-union_decl-test.true) (rw c.as_slice-union_decl-items.ensures at c.union_decl-item.is) c.loop-union_decl.invariant (rw c.as_slice-in-loop-union_decl.ensures at c.in_ok-add_components.ensures)

abbrev of_structs : ℕ → List StructDecl → List TypeInFile
of_structs file structs = flat_map (λ s. types_of_params file s.fields) structs

abbrev of_unions : ℕ → List UnionDecl → List TypeInFile
of_unions file unions = flat_map (λ u. types_of_components file u.components) unions

pub returns-in_ok-add_messages : goal.returns-in_ok-add_messages
returns-in_ok-add_messages c =
    let u = c.args.unit.now in
    let n = c.args.file in
    let a = c.args.types.now.items in
    let b = c.loop-struct_decl.types.items in
    let d = c.loop-union_decl.types.items in
    let e = c.add_messages.new.types.items in
    appends_then told (of_structs n u.structs) (of_unions n u.unions ++ types_of_protocol n u.protocol) a b e (rw (take_all c.loop-struct_decl.struct_decl-index u.structs (rw c.as_slice-struct_decl-items.ensures at c.loop-struct_decl-test.false)) at c.loop-struct_decl.invariant)
    (appends_then told (of_unions n u.unions) (types_of_protocol n u.protocol) b d e (rw (take_all c.loop-union_decl.union_decl-index u.unions (rw c.as_slice-union_decl-items.ensures at c.loop-union_decl-test.false)) at c.loop-union_decl.invariant)
    (appends_held told (types_of_protocol n) u.protocol (Some c.in-Some.protocol) d e c.in-Some.is (rw c.as_slice-in-Some.ensures at c.in_ok-add_messages.ensures)))

pub returns-in_default : goal.returns-in_default
returns-in_default c =
    let u = c.args.unit.now in
    let n = c.args.file in
    let a = c.args.types.now.items in
    let b = c.loop-struct_decl.types.items in
    let d = c.loop-union_decl.types.items in
    let e = c.loop-union_decl.types.items in
    appends_then told (of_structs n u.structs) (of_unions n u.unions ++ types_of_protocol n u.protocol) a b e (rw (take_all c.loop-struct_decl.struct_decl-index u.structs (rw c.as_slice-struct_decl-items.ensures at c.loop-struct_decl-test.false)) at c.loop-struct_decl.invariant)
    (appends_then told (of_unions n u.unions) (types_of_protocol n u.protocol) b d e (rw (take_all c.loop-union_decl.union_decl-index u.unions (rw c.as_slice-union_decl-items.ensures at c.loop-union_decl-test.false)) at c.loop-union_decl.invariant)
    (appends_held told (types_of_protocol n) u.protocol None d d c.in_default.is (appends_none told d)))
