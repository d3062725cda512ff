-- What follows from the definitions.
use Rattle.std.specs.Prelude.{◌≡◌, ◌↔◌, ℕ, IsTrue, IsNone, List, [], ◌++◌}
use Rattle.actor_tree.specs.declared.actor.Actor.{Actor}
use Rattle.ipdl_base.specs.declared.line.Line.{Line}
use Rattle.ipdl_base.specs.declared.schema.MessageRow.{MessageRow}
use Rattle.ipdl_base.specs.declared.schema.ParamRow.{ParamRow}
use Rattle.ipdl_base.specs.declared.schema.Schema.{Schema}
use Rattle.ipdl_base.specs.declared.schema.Shape.{Shape}
use Rattle.ipdl_base.specs.declared.value.Value.{Value}
use Rattle.ipdl_base.specs.declared.value.Values.{Values}
use Rattle.ipdl_base.specs.Plain.{plain, plain_values}
use Rattle.ipdl_base.specs.Signatures.{returns_of_row}
use Rattle.nesting_core.specs.declared.frame.Answer.{Answer}
use Rattle.nesting_core.specs.declared.frame.Answer.TheVariants as answer
use Rattle.nesting_core.specs.Plain.{plain_answer}
use Rattle.value_types.specs.HasType.{HasType, HaveTypes}
use Rattle.channel_model.specs.Ends.{World}
use Rattle.channel_model.specs.Events.{Move}
use Rattle.channel_model.specs.Runs.{output_of, happens, run, history_of}
use Rattle.channel_model.specs.Typed as typed
use Rattle.channel_model.specs.ValueActors as actors

-- The test of types that steps make is true exactly where values have their types.
pub record DecidesTypes : Type 0 where
  pub value : (schema : Schema) (shape : Shape) (v : Value) → IsTrue (typed.has_type schema shape v) ↔ HasType schema shape v
  pub values : (schema : Schema) (fields : List ParamRow) (vs : Values) → IsTrue (typed.have_types schema fields vs) ↔ HaveTypes schema fields vs

-- A move that is not possible changes nothing and has no line.
abbrev pub ImpossibleMovesChangeNothing : Type 0
ImpossibleMovesChangeNothing =
    (schema : Schema) (world : World) (move : Move) → IsNone (output_of schema world move)
    → (happens schema world move ≡ (record { world = world; lines = [] }))

-- Moves follow one another: running some moves and then others gives the world that the others make after the first,
-- and the lines of both.
pub record MovesFollow (schema : Schema) (front back : List Move) (from : World) : Type 0 where
  pub world : (run schema (front ++ back) from).world ≡ (run schema back (run schema front from).world).world
  pub lines : (run schema (front ++ back) from).lines ≡ (run schema front from).lines ++ (run schema back (run schema front from).world).lines

abbrev pub MovesGoOneAfterAnother : Type 0
MovesGoOneAfterAnother = (schema : Schema) (front back : List Move) (world : World) → MovesFollow schema front back world

-- The history of a prefix of the moves is a prefix of the history of all of them.
abbrev pub HistoriesGrow : Type 0
HistoriesGrow = (schema : Schema) (top : ℕ) (front back : List Move) → (rest : List Line) × (history_of schema top (front ++ back) ≡ history_of schema top front ++ rest)

-- The types and actors of values do not depend on where their boxes are: each of these functions gives the same on
-- the plain values, or the plain form of its result.
pub record PlainFormsCommute : Type 0 where
  pub has_type : (schema : Schema) (shape : Shape) (v : Value) → typed.has_type schema shape (plain v) ≡ typed.has_type schema shape v
  pub have_types : (schema : Schema) (fields : List ParamRow) (vs : Values) → typed.have_types schema fields (plain_values vs) ≡ typed.have_types schema fields vs
  pub actors_in : (schema : Schema) (shape : Shape) (v : Value) → actors.actors_in schema shape (plain v) ≡ actors.actors_in schema shape v
  pub actors_in_parts : (schema : Schema) (fields : List ParamRow) (vs : Values) → actors.actors_in_parts schema fields (plain_values vs) ≡ actors.actors_in_parts schema fields vs
  pub missing : (schema : Schema) (living : List Actor) (fields : List ParamRow) (vs : Values) → actors.missing schema living fields (plain_values vs) ≡ actors.missing schema living fields vs
  pub has_dead : (schema : Schema) (living : List Actor) (fields : List ParamRow) (vs : Values) → actors.has_dead schema living fields (plain_values vs) ≡ actors.has_dead schema living fields vs
  pub nulled_value : (schema : Schema) (living : List Actor) (shape : Shape) (v : Value) → actors.nulled_value schema living shape (plain v) ≡ plain (actors.nulled_value schema living shape v)
  pub nulled : (schema : Schema) (living : List Actor) (fields : List ParamRow) (vs : Values) → actors.nulled schema living fields (plain_values vs) ≡ plain_values (actors.nulled schema living fields vs)
  pub received : (schema : Schema) (living : List Actor) (row : MessageRow) (a : Answer) → actors.received schema living row (plain_answer a) ≡ plain_answer (actors.received schema living row a)

-- Values that are taken, and those of an answer that is received, have their types exactly where they had them before
-- null took the place of actors.
pub record NullsKeepTypes : Type 0 where
  pub taken : (schema : Schema) (living : List Actor) (fields : List ParamRow) (vs : Values) → typed.have_types schema fields (actors.nulled schema living fields vs) ≡ typed.have_types schema fields vs
  pub received : (schema : Schema) (living : List Actor) (row : MessageRow) (vs ws : Values) → actors.received schema living row (answer.Ok vs) ≡ answer.Ok ws
      → typed.have_types schema (returns_of_row row) ws ≡ typed.have_types schema (returns_of_row row) vs
