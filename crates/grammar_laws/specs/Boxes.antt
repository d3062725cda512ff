-- A tree up to where its boxes lie, which the grammar does not determine.
use Rattle.std.specs.Prelude.{List, map, Option, Some, None}
use Rattle.ipdl_base.specs.Plain.{one_box}
use Rattle.ipdl_syntax.specs.declared.tree.Base.{Base, Named, Unique'}
use Rattle.ipdl_syntax.specs.declared.tree.MessageDecl.{MessageDecl}
use Rattle.ipdl_syntax.specs.declared.tree.Param.{Param}
use Rattle.ipdl_syntax.specs.declared.tree.ProtocolDecl.{ProtocolDecl}
use Rattle.ipdl_syntax.specs.declared.tree.StructDecl.{StructDecl}
use Rattle.ipdl_syntax.specs.declared.tree.TypeSpec.{TypeSpec}
use Rattle.ipdl_syntax.specs.declared.tree.UnionDecl.{UnionDecl}
use Rattle.ipdl_syntax.specs.declared.tree.Unit.{Unit as FileUnit}

-- a base with all its boxes at one place
abbrev pub unboxed_base : Base → Base
unboxed_base (Named name inner) = Named name inner
unboxed_base (Unique' _ nullable inner after place) = Unique' one_box nullable (unboxed_base inner) after place

-- the same of a type
abbrev pub unboxed_type : TypeSpec → TypeSpec
unboxed_type t = record t { base = unboxed_base t.base }

-- the same of a parameter
abbrev pub unboxed_param : Param → Param
unboxed_param p = record p { spec = unboxed_type p.spec }

-- the same of the returns of a message
abbrev pub unboxed_returns : Option (List Param) → Option (List Param)
unboxed_returns None = None
unboxed_returns (Some params) = Some (map unboxed_param params)

-- the same of a message
abbrev pub unboxed_message : MessageDecl → MessageDecl
unboxed_message m = record m { params = map unboxed_param m.params; returns = unboxed_returns m.returns }

-- the same of a protocol
abbrev pub unboxed_protocol : ProtocolDecl → ProtocolDecl
unboxed_protocol p = record p { messages = map unboxed_message p.messages }

-- the same of a struct
abbrev pub unboxed_struct : StructDecl → StructDecl
unboxed_struct s = record s { fields = map unboxed_param s.fields }

-- the same of a union
abbrev pub unboxed_union : UnionDecl → UnionDecl
unboxed_union u = record u { components = map unboxed_type u.components }

-- the same of the protocol of a file, if it has one
abbrev pub unboxed_held : Option ProtocolDecl → Option ProtocolDecl
unboxed_held None = None
unboxed_held (Some protocol) = Some (unboxed_protocol protocol)

-- a file with every box at one place
abbrev pub unboxed : FileUnit → FileUnit
unboxed unit = record unit {
  structs = map unboxed_struct unit.structs;
  unions = map unboxed_union unit.unions;
  protocol = unboxed_held unit.protocol;
}
