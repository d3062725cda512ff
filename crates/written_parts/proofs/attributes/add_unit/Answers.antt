use Rattle.std.proofs.Common.{List, ◌++◌, None, Some, ap, map}
use Rattle.std.proofs.lemmas.List.{take_all}
use Rattle.ipdl_syntax.specs.declared.tree.StructDecl.{StructDecl}
use Rattle.ipdl_syntax.specs.declared.tree.UnionDecl.{UnionDecl}
use Rattle.ipdl_syntax.specs.declared.tree.Using.{Using}
use Rattle.written_parts.specs.Attributes.{AttributesOf, told, borne_by, lists_of_protocol}
use Rattle.written_parts.specs.declared.attributes.Bearer.TheVariants as bearer
use Rattle.written_parts.proofs.Appending.{appends_none, appends_then, appends_held, map-turn}
use Rattle.written_parts.proofs.attributes.add_unit.Goals as goal

pub loop-using_decl-init : goal.loop-using_decl-init
loop-using_decl-init c = appends_none told c.args.lists.now.items

pub loop-using_decl-preserved : goal.loop-using_decl-preserved
loop-using_decl-preserved c =
    map-turn told (λ (x : Using). borne_by bearer.Using x.attributes) (map told c.args.lists.now.items) c.args.unit.now.usings c.loop-using_decl.using_decl-index c.using_decl-item.result _ _ _
    (rw c.as_slice-using_decl-items.ensures at c.loop-using_decl-test.true) (rw c.as_slice-using_decl-items.ensures at c.using_decl-item.is) c.in_ok-push.ensures.items (ap (borne_by bearer.Using) c.as_slice.ensures) c.loop-using_decl.invariant

pub loop-struct_decl-init : goal.loop-struct_decl-init
loop-struct_decl-init c = appends_none told c.loop-using_decl.lists.items

pub loop-struct_decl-preserved : goal.loop-struct_decl-preserved
loop-struct_decl-preserved c =
    map-turn told (λ (x : StructDecl). borne_by bearer.Struct x.attributes) (map told c.loop-using_decl.lists.items) c.args.unit.now.structs c.loop-struct_decl.struct_decl-index c.struct_decl-item.result _ _ _
    (rw c.as_slice-struct_decl-items.ensures at c.loop-struct_decl-test.true) (rw c.as_slice-struct_decl-items.ensures at c.struct_decl-item.is) c.in_ok-push-2.ensures.items (ap (borne_by bearer.Struct) c.as_slice-in-loop-struct_decl.ensures) c.loop-struct_decl.invariant

pub loop-union_decl-init : goal.loop-union_decl-init
loop-union_decl-init c = appends_none told c.loop-struct_decl.lists.items

pub loop-union_decl-preserved : goal.loop-union_decl-preserved
loop-union_decl-preserved c =
    map-turn told (λ (x : UnionDecl). borne_by bearer.Union x.attributes) (map told c.loop-struct_decl.lists.items) c.args.unit.now.unions c.loop-union_decl.union_decl-index c.union_decl-item.result _ _ _
    (rw c.as_slice-union_decl-items.ensures at c.loop-union_decl-test.true) (rw c.as_slice-union_decl-items.ensures at c.union_decl-item.is) c.in_ok-push-3.ensures.items (ap (borne_by bearer.Union) c.as_slice-in-loop-union_decl.ensures) c.loop-union_decl.invariant

abbrev of_usings : List Using → List AttributesOf
of_usings usings = map (λ u. borne_by bearer.Using u.attributes) usings

abbrev of_structs : List StructDecl → List AttributesOf
of_structs structs = map (λ s. borne_by bearer.Struct s.attributes) structs

abbrev of_unions : List UnionDecl → List AttributesOf
of_unions unions = map (λ u. borne_by bearer.Union u.attributes) unions

pub returns-in_ok-add_protocol : goal.returns-in_ok-add_protocol
returns-in_ok-add_protocol c =
    let u = c.args.unit.now in
    let a = c.args.lists.now.items in
    let b = c.loop-using_decl.lists.items in
    let d = c.loop-struct_decl.lists.items in
    let e = c.loop-union_decl.lists.items in
    let f = c.add_protocol.new.lists.items in
    appends_then told (of_usings u.usings) (of_structs u.structs ++ (of_unions u.unions ++ lists_of_protocol u.protocol)) a b f (rw (take_all c.loop-using_decl.using_decl-index u.usings (rw c.as_slice-using_decl-items.ensures at c.loop-using_decl-test.false)) at c.loop-using_decl.invariant)
    (appends_then told (of_structs u.structs) (of_unions u.unions ++ lists_of_protocol u.protocol) b d f (rw (take_all c.loop-struct_decl.struct_decl-index u.structs (rw c.as_slice-struct_decl-items.ensures at c.loop-struct_decl-test.false)) at c.loop-struct_decl.invariant)
    (appends_then told (of_unions u.unions) (lists_of_protocol u.protocol) d e f (rw (take_all c.loop-union_decl.union_decl-index u.unions (rw c.as_slice-union_decl-items.ensures at c.loop-union_decl-test.false)) at c.loop-union_decl.invariant)
    (appends_held told lists_of_protocol u.protocol (Some c.in-Some.protocol) e f c.in-Some.is c.in_ok-add_protocol.ensures)))

pub returns-in_default : goal.returns-in_default
returns-in_default c =
    let u = c.args.unit.now in
    let a = c.args.lists.now.items in
    let b = c.loop-using_decl.lists.items in
    let d = c.loop-struct_decl.lists.items in
    let e = c.loop-union_decl.lists.items in
    let f = c.loop-union_decl.lists.items in
    appends_then told (of_usings u.usings) (of_structs u.structs ++ (of_unions u.unions ++ lists_of_protocol u.protocol)) a b f (rw (take_all c.loop-using_decl.using_decl-index u.usings (rw c.as_slice-using_decl-items.ensures at c.loop-using_decl-test.false)) at c.loop-using_decl.invariant)
    (appends_then told (of_structs u.structs) (of_unions u.unions ++ lists_of_protocol u.protocol) b d f (rw (take_all c.loop-struct_decl.struct_decl-index u.structs (rw c.as_slice-struct_decl-items.ensures at c.loop-struct_decl-test.false)) at c.loop-struct_decl.invariant)
    (appends_then told (of_unions u.unions) (lists_of_protocol u.protocol) d e f (rw (take_all c.loop-union_decl.union_decl-index u.unions (rw c.as_slice-union_decl-items.ensures at c.loop-union_decl-test.false)) at c.loop-union_decl.invariant)
    (appends_held told lists_of_protocol u.protocol None e e c.in_default.is (appends_none told e))))
