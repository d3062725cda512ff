-- What written values mean in a type: whether they fit it, and the term.
use Rattle.std.specs.Prelude.{◌≡◌, ℕ, suc, zero, ◌+◌, ◌*◌, ◌==◌, ◌⊎◌, if◌then◌else◌, Bool, true, false, IsTrue, pos, List, [], ◌∷◌, length, fold, slice_get, Option, Some, None, IsSome, IsSomeAnd, unwrap_or, option_and_then}
use Rattle.std.specs.Str.{IsUtf8}
use Rattle.ipdl_base.specs.declared.builtin.Builtin.{Builtin as BuiltinType}
use Rattle.ipdl_base.specs.declared.builtin.Builtin.TheVariants as builtin
use Rattle.ipdl_base.specs.declared.schema.Schema.{Schema}
use Rattle.ipdl_base.specs.declared.schema.ParamRow.{ParamRow}
use Rattle.ipdl_base.specs.declared.schema.Shape.{Shape, Actor}
use Rattle.ipdl_base.specs.Plain.{plain_shape, one_box}
use Rattle.script_reader.specs.declared.written.Atom.{Atom}
use Rattle.script_reader.specs.declared.written.Atom.TheVariants as atom
use Rattle.script_reader.specs.declared.written.Who.{Who}
use Rattle.script_reader.specs.declared.written.Who.TheVariants as whos
use Rattle.script_reader.specs.declared.written.WrittenValue.{WrittenValue, Union', Held'}
use Rattle.script_reader.specs.declared.written.WrittenValue.TheVariants as written
use Rattle.script_reader.specs.declared.written.WrittenValues.{WrittenValues, First'}
use Rattle.script_reader.specs.declared.written.WrittenValues.TheVariants as written_values
use Rattle.value_types.specs.HasType.{IsInRange, IsActorOf}
use Rattle.value_types.specs.Shapes.{float_bits, builtin_of, is_bytes, element_of, held_by, fields_of, component_of}
use Rattle.handler_script.specs.declared.term.Term.{Term, None', Some'}
use Rattle.handler_script.specs.declared.term.Term as boxed
use Rattle.handler_script.specs.declared.term.Term.TheVariants as term
use Rattle.handler_script.specs.declared.term.Terms as boxed_list
use Rattle.handler_script.specs.declared.term.Terms.{Terms}
use Rattle.handler_script.specs.declared.term.Terms.TheVariants as terms

-- Parameters of the handled message

-- the parameter with this number, counted from 1
abbrev pub param_at : List ParamRow → ℕ → Option ParamRow
param_at params zero = None
param_at params (suc n) = slice_get params n

abbrev pub is_actor : Shape → Bool
is_actor (Actor protocol nullable) = true
is_actor _ = false

-- A parameter of the first type may be given for a value of the second: the types are the same, or they are types of the same actor and the second is nullable.
abbrev pub StandsFor : Shape → Shape → Type 0
StandsFor (Actor p nullable) (Actor q true) = p ≡ q
StandsFor one other = plain_shape one ≡ plain_shape other

-- what a value refers to fits the type: a parameter by its own type, anything else if the type is that of an actor
abbrev pub WhoFits : List ParamRow → Shape → Who → Type 0
WhoFits given shape (whos.Param n) = IsSomeAnd (param_at given n) (λ param. StandsFor param.shape shape)
WhoFits given shape _ = IsTrue (is_actor shape)

-- Whether values fit

-- the type is a float or a double, and these hexadecimal bytes have its size
abbrev pub AreBits : Shape → List ℕ → Type 0
AreBits shape bytes = IsSomeAnd (option_and_then float_bits (builtin_of shape)) (λ bits. bits ≡ 8 * length bytes)

abbrev pub AtomFits : List ParamRow → Shape → Atom → Type 0
AtomFits given shape (atom.Bool b) = builtin_of shape ≡ Some builtin.Bool
AtomFits given shape (atom.Number n) = IsInRange shape n
AtomFits given shape (atom.Text text) = (builtin_of shape ≡ Some builtin.NsString) × IsUtf8 text
AtomFits given shape (atom.Bytes bytes) = IsTrue (is_bytes shape) ⊎ AreBits shape bytes
AtomFits given shape atom.Nothing = IsSome (held_by shape)
AtomFits given shape atom.Null = IsActorOf shape (pos 0)
AtomFits given shape (atom.Who w) = WhoFits given shape w

-- A written value fits a type, where these are the parameters of the handled message.
abbrev mutual
  pub Fits : Schema → List ParamRow → Shape → WrittenValue → Type 0
  Fits schema given shape (written.Atom a) = AtomFits given shape a
  Fits schema given shape (written.Struct vs) = IsSomeAnd (fields_of schema shape) (λ fields. EachFits schema given fields vs)
  Fits schema given shape (written.Array vs) = IsSomeAnd (element_of shape) (λ element. AllFit schema given element vs)
  Fits schema given shape (Union' index _ v) = IsSomeAnd (component_of schema shape index) (λ component. Fits schema given component v)
  Fits schema given shape (Held' _ v) = IsSomeAnd (held_by shape) (λ inner. Fits schema given inner v)

  -- each value fits the type
  pub AllFit : Schema → List ParamRow → Shape → WrittenValues → Type 0
  AllFit schema given shape written_values.Nothing = Unit {0}
  AllFit schema given shape (First' _ v _ vs) = Fits schema given shape v × AllFit schema given shape vs

  -- one value for each field or parameter, which fits its type
  pub EachFits : Schema → List ParamRow → List ParamRow → WrittenValues → Type 0
  EachFits schema given [] written_values.Nothing = Unit {0}
  EachFits schema given (field ∷ fields) written_values.Nothing = ⊥
  EachFits schema given [] (First' _ v _ vs) = ⊥
  EachFits schema given (field ∷ fields) (First' _ v _ vs) = Fits schema given field.shape v × EachFits schema given fields vs

-- The terms

-- bytes as one number, the highest first
abbrev pub number_of : List ℕ → ℕ
number_of bytes = fold (λ n b. 256 * n + b) 0 bytes

-- hexadecimal bytes: four are the bits of a float and eight those of a double, if that is the type; else bytes
abbrev pub bytes_term : Option BuiltinType → List ℕ → Term
bytes_term (Some builtin.Float) bytes = if length bytes == 4 then term.Bits (number_of bytes) else term.Bytes bytes
bytes_term (Some builtin.Double) bytes = if length bytes == 8 then term.Bits (number_of bytes) else term.Bytes bytes
bytes_term _ bytes = term.Bytes bytes

abbrev pub who_term : Who → Term
who_term (whos.Param n) = term.Param n
who_term w = term.Who w

abbrev pub atom_term : Shape → Atom → Term
atom_term shape (atom.Bool b) = term.Bool b
atom_term shape (atom.Number n) = term.Int n
atom_term shape (atom.Text text) = term.Text text
atom_term shape (atom.Bytes bytes) = bytes_term (builtin_of shape) bytes
atom_term shape atom.Nothing = boxed.Maybe' None'
atom_term shape atom.Null = term.Actor (pos 0)
atom_term shape (atom.Who w) = who_term w

-- The term of a written value in a type that it fits, with every box at one place. (What has no type of its own is taken in the type around it.)
abbrev mutual
  pub term_of : Schema → Shape → WrittenValue → Term
  term_of schema shape (written.Atom a) = atom_term shape a
  term_of schema shape (written.Struct vs) = term.Struct (terms_of schema (unwrap_or (fields_of schema shape) []) vs)
  term_of schema shape (written.Array vs) = term.Array (elements_of schema (unwrap_or (element_of shape) shape) vs)
  term_of schema shape (Union' index _ v) = boxed.Union' index one_box (term_of schema (unwrap_or (component_of schema shape index) shape) v)
  term_of schema shape (Held' _ v) = boxed.Maybe' (Some' one_box (term_of schema (unwrap_or (held_by shape) shape) v))

  -- of values of one type
  pub elements_of : Schema → Shape → WrittenValues → Terms
  elements_of schema shape written_values.Nothing = terms.Nothing
  elements_of schema shape (First' _ v _ vs) = boxed_list.First' one_box (term_of schema shape v) one_box (elements_of schema shape vs)

  -- of values, one for each field or parameter
  pub terms_of : Schema → List ParamRow → WrittenValues → Terms
  terms_of schema fields written_values.Nothing = terms.Nothing
  terms_of schema [] (First' _ v _ vs) = terms.Nothing
  terms_of schema (field ∷ fields) (First' _ v _ vs) = boxed_list.First' one_box (term_of schema field.shape v) one_box (terms_of schema fields vs)
