-- Values and statements up to where their boxes lie: the plain form is the same with every box at one place.
use Rattle.ipdl_base.specs.Plain.{one_box}
use denote.RawPtr.{null_ptr}
use Rattle.script_reader.specs.declared.line.LineReading.{LineReading}
use Rattle.script_reader.specs.declared.line.LineReading.TheVariants as line
use Rattle.script_reader.specs.declared.statement.WrittenMessage.{WrittenMessage}
use Rattle.script_reader.specs.declared.statement.Statement.{Statement}
use Rattle.script_reader.specs.declared.statement.Statement.TheVariants as forms
use Rattle.script_reader.specs.declared.written.WrittenValue.{WrittenValue, Union', Held'}
use Rattle.script_reader.specs.declared.written.WrittenValue.TheVariants as written
use Rattle.script_reader.specs.declared.written.WrittenValues.{WrittenValues, First'}
use Rattle.script_reader.specs.declared.written.WrittenValues.TheVariants as values

-- a written value, and written values, with every box at one place
abbrev mutual
  pub plain_written : WrittenValue → WrittenValue
  plain_written (written.Atom a) = written.Atom a
  plain_written (written.Struct vs) = written.Struct (plain_values vs)
  plain_written (written.Array vs) = written.Array (plain_values vs)
  plain_written (Union' index _ v) = Union' index one_box (plain_written v)
  plain_written (Held' _ v) = Held' one_box (plain_written v)

  pub plain_values : WrittenValues → WrittenValues
  plain_values values.Nothing = values.Nothing
  plain_values (First' _ v _ vs) = First' one_box (plain_written v) one_box (plain_values vs)

-- a message with its values in plain form
abbrev pub plain_call : WrittenMessage → WrittenMessage
plain_call c = record c { values = plain_values c.values }

-- a statement with its values in plain form
abbrev pub plain_statement : Statement → Statement
plain_statement (forms.Send w c) = forms.Send w (plain_call c)
plain_statement (forms.New n w c) = forms.New n w (plain_call c)
plain_statement (forms.Resolve vs) = forms.Resolve (plain_values vs)
plain_statement (forms.ResolveKept n c) = forms.ResolveKept n (plain_call c)
plain_statement (forms.Return vs) = forms.Return (plain_values vs)
plain_statement s = s

-- a reading, with its statement in plain form
abbrev pub plain_reading : LineReading → LineReading
plain_reading (line.Statement held) = line.Statement (record { ptr = null_ptr; alloc = record { memory = record { seal = tt } }; value = plain_statement held.value })
plain_reading reading = reading
