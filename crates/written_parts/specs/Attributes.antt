-- The lists of attributes that a program writes, in order, each with its bearer. A field has no list, by the grammar.
use Rattle.std.specs.Prelude.{List, [], ◌∷◌, ◌++◌, map, Option, Some, None, unwrap_or}
use Rattle.std.specs.List.{flat_map}
use Rattle.ipdl_syntax.specs.declared.program.Entry.{Entry}
use Rattle.ipdl_syntax.specs.declared.tree.Attribute.{Attribute}
use Rattle.ipdl_syntax.specs.declared.tree.MessageDecl.{MessageDecl}
use Rattle.ipdl_syntax.specs.declared.tree.Param.{Param}
use Rattle.ipdl_syntax.specs.declared.tree.ProtocolDecl.{ProtocolDecl}
use Rattle.ipdl_syntax.specs.declared.tree.Unit.{Unit as FileUnit}
use Rattle.written_parts.specs.declared.attributes.AttributeList.{AttributeList}
use Rattle.written_parts.specs.declared.attributes.Bearer.{Bearer}
use Rattle.written_parts.specs.declared.attributes.Bearer.TheVariants as bearer

-- the attributes of a bearer
pub record AttributesOf : Type 0 where
  pub bearer : Bearer
  pub attributes : List Attribute

abbrev pub borne_by : Bearer → List Attribute → AttributesOf
borne_by bearer attributes = record { bearer = bearer; attributes = attributes }

-- a list of attributes of the code, as definitions see it
abbrev pub told : AttributeList → AttributesOf
told l = borne_by l.bearer l.attributes.now

-- the lists of parameters or returns
abbrev pub lists_of_params : List Param → List AttributesOf
lists_of_params params = map (λ p. borne_by bearer.Parameter p.attributes) params

-- the lists of a message, of its parameters, and of its returns
abbrev pub lists_of_message : MessageDecl → List AttributesOf
lists_of_message m = borne_by bearer.Message m.attributes ∷ (lists_of_params m.params ++ lists_of_params (unwrap_or m.returns []))

-- the lists of the protocol of a file, if it has one, and of its messages
abbrev pub lists_of_protocol : Option ProtocolDecl → List AttributesOf
lists_of_protocol None = []
lists_of_protocol (Some p) = borne_by bearer.Protocol p.attributes ∷ flat_map lists_of_message p.messages

-- the lists of a file: of its usings, of its structs, of its unions, and of its protocol
abbrev pub lists_of_unit : FileUnit → List AttributesOf
lists_of_unit unit =
    map (λ u. borne_by bearer.Using u.attributes) unit.usings
    ++ (map (λ s. borne_by bearer.Struct s.attributes) unit.structs
    ++ (map (λ u. borne_by bearer.Union u.attributes) unit.unions
    ++ lists_of_protocol unit.protocol))

-- the lists of a program, file by file
abbrev pub attribute_lists : List Entry → List AttributesOf
attribute_lists program = flat_map (λ e. lists_of_unit e.unit) program
