-- The types that a program writes, in order, each with the number of its file.
use Rattle.std.specs.Prelude.{ℕ, List, [], ◌∷◌, ◌++◌, Option, Some, None, unwrap_or}
use Rattle.std.specs.List.{flat_map, enumerate_from}
use Rattle.ipdl_syntax.specs.declared.program.Entry.{Entry}
use Rattle.ipdl_syntax.specs.declared.tree.Base.{Base, Named, Unique'}
use Rattle.ipdl_syntax.specs.declared.tree.MessageDecl.{MessageDecl}
use Rattle.ipdl_syntax.specs.declared.tree.Param.{Param}
use Rattle.ipdl_syntax.specs.declared.tree.ProtocolDecl.{ProtocolDecl}
use Rattle.ipdl_syntax.specs.declared.tree.TypeSpec.{TypeSpec}
use Rattle.ipdl_syntax.specs.declared.tree.Unit.{Unit as FileUnit}
use Rattle.written_parts.specs.declared.types.WrittenType.{WrittenType}

-- a type that the file of this number writes
pub record TypeInFile : Type 0 where
  pub file : ℕ
  pub spec : TypeSpec

-- a type of the code, as definitions see it
abbrev pub told : WrittenType → TypeInFile
told w = record { file = w.file; spec = w.spec.now }

-- the types inside a base: the type in a UniquePtr, and the types inside that
abbrev pub types_inside : ℕ → Base → List TypeInFile
types_inside file (Named name argument) = []
types_inside file (Unique' at nullable inner suffixes place) =
    record { file = file; spec = record { nullable = nullable; base = inner; suffixes = suffixes; place = place } } ∷ types_inside file inner

-- a type, and the types inside it
abbrev pub types_within : ℕ → TypeSpec → List TypeInFile
types_within file spec = record { file = file; spec = spec } ∷ types_inside file spec.base

-- the types of parameters, returns or fields
abbrev pub types_of_params : ℕ → List Param → List TypeInFile
types_of_params file params = flat_map (λ p. types_within file p.spec) params

-- the types of the components of a union
abbrev pub types_of_components : ℕ → List TypeSpec → List TypeInFile
types_of_components file components = flat_map (types_within file) components

-- the types of a message: of its parameters, and then of its returns
abbrev pub types_of_message : ℕ → MessageDecl → List TypeInFile
types_of_message file m = types_of_params file m.params ++ types_of_params file (unwrap_or m.returns [])

-- the types of the protocol of a file, if it has one
abbrev pub types_of_protocol : ℕ → Option ProtocolDecl → List TypeInFile
types_of_protocol file None = []
types_of_protocol file (Some p) = flat_map (types_of_message file) p.messages

-- the types of a file: of its structs, of its unions, and of its protocol
abbrev pub types_of_unit : ℕ → FileUnit → List TypeInFile
types_of_unit file unit =
    flat_map (λ s. types_of_params file s.fields) unit.structs
    ++ (flat_map (λ u. types_of_components file u.components) unit.unions ++ types_of_protocol file unit.protocol)

-- the types of a program, file by file
abbrev pub written_types : List Entry → List TypeInFile
written_types program = flat_map (λ e. types_of_unit e.0 e.1.unit) (enumerate_from 0 program)
