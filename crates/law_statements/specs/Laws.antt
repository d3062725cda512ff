-- Each law holds of a readable list of lines exactly where its statement does.
use Rattle.std.specs.Prelude.{◌≡◌, ◌↔◌, List}
use Rattle.ipdl_base.specs.declared.line.Line.{Line}
use Rattle.ipdl_base.specs.declared.schema.Schema.{Schema}
use Rattle.history_reading.specs.declared.law.Law.{Law}
use Rattle.history_reading.specs.declared.law.Law.TheVariants as law
use Rattle.history_reading.specs.Chain.{chain_of}
use Rattle.history_reading.specs.Holds.{Holds, IsReadable}
use Rattle.law_statements.specs.Calls.{waiting_calls}
use Rattle.law_statements.specs.Fallen.{Fallen}
use Rattle.law_statements.specs.Living.{Living}
use Rattle.law_statements.specs.Prefix.{Prefix}
use Rattle.law_statements.specs.Readable.{Readable}
use Rattle.law_statements.specs.Settled.{Settled}
use Rattle.law_statements.specs.Waits.{Waits}

abbrev pub DecidesPrefix : Type 0
DecidesPrefix = (schema : Schema) (lines : List Line) → IsReadable schema lines → (Holds law.Prefix schema lines ↔ Prefix schema lines)

abbrev pub DecidesLiving : Type 0
DecidesLiving = (schema : Schema) (lines : List Line) → IsReadable schema lines → (Holds law.Living schema lines ↔ Living schema lines)

abbrev pub DecidesSettled : Type 0
DecidesSettled = (schema : Schema) (lines : List Line) → IsReadable schema lines → (Holds law.Settled schema lines ↔ Settled schema lines)

abbrev pub DecidesFallen : Type 0
DecidesFallen = (schema : Schema) (lines : List Line) → IsReadable schema lines → (Holds law.Fallen schema lines ↔ Fallen schema lines)

abbrev pub DecidesWaits : Type 0
DecidesWaits = (schema : Schema) (lines : List Line) → IsReadable schema lines → (Holds law.Waits schema lines ↔ Waits schema lines)

-- the test of readable lines decides what readable lines are
abbrev pub DecidesReadable : Type 0
DecidesReadable = (schema : Schema) (lines : List Line) → IsReadable schema lines ↔ Readable schema lines

-- after readable lines the chain is the list of the calls that wait
abbrev pub DecidesChain : Type 0
DecidesChain = (schema : Schema) (lines : List Line) → IsReadable schema lines → chain_of schema lines ≡ waiting_calls schema lines

-- no law holds of lines that cannot be read
abbrev pub LawsWantReadable : Type 0
LawsWantReadable = (l : Law) (schema : Schema) (lines : List Line) → Holds l schema lines → Readable schema lines
