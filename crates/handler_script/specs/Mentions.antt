-- What actors and parameters a statement and its values refer to.
use Rattle.std.specs.Prelude.{Bool, false, ◌||◌, Option, Some, None}
use Rattle.std.specs.Option.{option_map_or}
use Rattle.script_reader.specs.declared.statement.Statement.{Statement}
use Rattle.script_reader.specs.declared.statement.Statement.TheVariants as forms
use Rattle.script_reader.specs.declared.statement.MessageName.{MessageName}
use Rattle.script_reader.specs.declared.written.Atom.{Atom}
use Rattle.script_reader.specs.declared.written.Atom.TheVariants as atom
use Rattle.script_reader.specs.declared.written.Who.{Who}
use Rattle.script_reader.specs.declared.written.WrittenValue.{WrittenValue, Union', Held'}
use Rattle.script_reader.specs.declared.written.WrittenValue.TheVariants as written
use Rattle.script_reader.specs.declared.written.WrittenValues.{WrittenValues, First'}
use Rattle.script_reader.specs.declared.written.WrittenValues.TheVariants as written_values

abbrev pub atom_mentions : (Who → Bool) → Atom → Bool
atom_mentions test (atom.Who w) = test w
atom_mentions test _ = false

-- whether a value refers to one that passes the test
abbrev mutual
  pub mentions : (Who → Bool) → WrittenValue → Bool
  mentions test (written.Atom a) = atom_mentions test a
  mentions test (written.Struct vs) = any_mentions test vs
  mentions test (written.Array vs) = any_mentions test vs
  mentions test (Union' index _ v) = mentions test v
  mentions test (Held' _ v) = mentions test v

  pub any_mentions : (Who → Bool) → WrittenValues → Bool
  any_mentions test written_values.Nothing = false
  any_mentions test (First' _ v _ vs) = mentions test v || any_mentions test vs

-- the values of a statement
abbrev pub values_of : Statement → Option WrittenValues
values_of (forms.Send w c) = Some c.values
values_of (forms.New n w c) = Some c.values
values_of (forms.Resolve vs) = Some vs
values_of (forms.ResolveKept n c) = Some c.values
values_of (forms.Return vs) = Some vs
values_of _ = None

-- the actor that a statement sends to or names
abbrev pub who_of : Statement → Option Who
who_of (forms.Send w c) = Some w
who_of (forms.New n w c) = Some w
who_of (forms.Let n w) = Some w
who_of _ = None

-- the message that a statement names
abbrev pub message_of : Statement → Option MessageName
message_of (forms.On s m) = Some m
message_of (forms.Send w c) = Some c.message
message_of (forms.New n w c) = Some c.message
message_of (forms.ResolveKept n c) = Some c.message
message_of (forms.RejectKept n m) = Some m
message_of _ = None

-- whether a statement refers to one that passes the test
abbrev pub speaks_of : (Who → Bool) → Statement → Bool
speaks_of test s = option_map_or test (who_of s) false || option_map_or (any_mentions test) (values_of s) false
