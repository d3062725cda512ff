-- What the rows of a schema are made from.
use Rattle.std.specs.Prelude.{◌≡◌, ℕ, ◌≤◌, List, length, IsSome}
use Rattle.std.specs.List.{All}
use Rattle.std.specs.Option.{ForSome}
use Rattle.ipdl_syntax.specs.declared.program.Entry.{Entry}
use Rattle.ipdl_syntax.specs.declared.tree.Base.{Base, Named, Unique'}
use Rattle.ipdl_syntax.specs.declared.tree.MessageDecl.{MessageDecl}
use Rattle.ipdl_syntax.specs.declared.tree.NameAt.{NameAt}
use Rattle.ipdl_syntax.specs.declared.tree.Param.{Param}
use Rattle.ipdl_syntax.specs.declared.tree.ProtocolDecl.{ProtocolDecl}
use Rattle.ipdl_syntax.specs.declared.tree.TypeSpec.{TypeSpec}
use Rattle.name_table.specs.declared.decl.DeclId.{DeclId}
use Rattle.name_table.specs.declared.decl.DeclId.TheVariants.{Builtin, Using, Struct, Union, Protocol, Endpoint}
use Rattle.name_table.specs.declared.decl.Found.TheVariants as found
use Rattle.name_table.specs.Declares.{full_name_of}
use Rattle.name_table.specs.Decls.{FindsNone, FindsTwo, FindsNoProtocol, protocol_of}
use Rattle.name_table.specs.declared.kinds.MessageKind.TheVariants as kind
use Rattle.name_table.specs.Kinds.{IsKindOf}
use Rattle.name_table.specs.Finds.{FindsAsProtocol, Counts}
use Rattle.program_schema.specs.Numbers.{place_of}
use Rattle.actor_tables.specs.declared.source.SchemaSource.{SchemaSource}
use Rattle.actor_tables.specs.Numbered.{AreNumbersOf}

-- the names and the numbers are those of the program
pub record IsSource (source : SchemaSource) : Type 0 where
  pub names : source.names.now ≡ source.program.now
  pub numbers : AreNumbersOf source.program.now source.numbers

-- a declaration is in the program, or the protocol of an endpoint is
abbrev pub IsThere : List Entry → DeclId → Type 0
IsThere program (Builtin type) = Unit {0}
IsThere program (Using file index) = IsSome (full_name_of program (Using file index))
IsThere program (Struct file index) = IsSome (place_of program (Struct file index))
IsThere program (Union file index) = IsSome (place_of program (Union file index))
IsThere program (Protocol file) = IsSome (protocol_of program file)
IsThere program (Endpoint file managed) = IsSome (protocol_of program file)

-- in a file the name inside a base finds neither nothing nor two declarations
abbrev pub FindsSole : List Entry → ℕ → Base → Type 0
FindsSole program file (Named name argument) = (¬ FindsNone program file name argument) × (¬ FindsTwo program file name argument)
FindsSole program file (Unique' at nullable inner after place) = FindsSole program file inner

-- in a file a name finds neither no protocol nor two protocols
pub record FindsSoleProtocol (program : List Entry) (file : ℕ) (name : List ℕ) : Type 0 where
  pub some : ¬ FindsNoProtocol program file name
  pub one : (d e : DeclId) → ¬ Counts (FindsAsProtocol program file name) (found.Many d e)

-- the same of the names inside parameters, returns or fields, and inside types
abbrev pub ParamsFindSole : List Entry → ℕ → List Param → Type 0
ParamsFindSole program file params = All (λ p. FindsSole program file p.spec.base) params

abbrev pub TypesFindSole : List Entry → ℕ → List TypeSpec → Type 0
TypesFindSole program file types = All (λ t. FindsSole program file t.base) types

-- the same of the names of managers or of managed protocols
abbrev pub NamesFindSole : List Entry → ℕ → List NameAt → Type 0
NamesFindSole program file names = All (λ n. FindsSoleProtocol program file n.name) names

-- the same of all names in a message, and of its own name if it is a constructor
pub record MessageFindsSole (program : List Entry) (file : ℕ) (p : ProtocolDecl) (m : MessageDecl) : Type 0 where
  pub params : ParamsFindSole program file m.params
  pub returns : ForSome m.returns (ParamsFindSole program file)
  pub made : IsKindOf p m kind.Constructor → FindsSoleProtocol program file m.name

-- the same of all names in a protocol, and there are numbers for its messages
pub record ProtocolFindsSole (program : List Entry) (file : ℕ) (p : ProtocolDecl) : Type 0 where
  pub managers : NamesFindSole program file p.managers
  pub manages : NamesFindSole program file p.manages
  pub messages : All (MessageFindsSole program file p) p.messages
  pub few : length p.messages ≤ 32768
