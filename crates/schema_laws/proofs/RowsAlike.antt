-- The rows of messages, where their parameters and returns have their boxes elsewhere.
use Rattle.std.proofs.Common.{◌≡◌, ◌∙◌, ℕ, map, Bool, true, false, Option, Some, None, refl}
use Rattle.std.specs.Prelude.{◌==◌, ◌&&◌, not, is_none, if◌then◌else◌, option_map, option_and_then}
use Rattle.ipdl_base.specs.Signatures.{returns_of_row}
use Rattle.ipdl_base.specs.Sound.{message_of}
use Rattle.ipdl_base.specs.declared.schema.MessageRow.{MessageRow}
use Rattle.ipdl_base.specs.declared.schema.Schema.{Schema}
use Rattle.program_schema.specs.Laws.{plain_param_row, plain_message_row, plain_schema}
use Rattle.schema_laws.proofs.LinesAlike.{returned}
use Rattle.schema_laws.proofs.Rows.{message_alike, still_there, then_alike}
use Rattle.channel_model.specs.Numbers.{is_sync_row, makes_promise, request_row}

-- the result for an option is the same if it is the same for each value
pub then_same : {X Y : Type 0} (look : X → X) (f g : X → Option Y) → ((x : X) → f (look x) ≡ g x) → (o : Option X) → option_and_then f (option_map look o) ≡ option_and_then g o
then_same look f g same None = refl
then_same look f g same (Some x) = same x

pub still_none : {X Y : Type 0} (f : X → Y) (o : Option X) → is_none (option_map f o) ≡ is_none o
still_none f None = refl
still_none f (Some x) = refl

-- a row that exists under a condition
pub row_where : (b : Bool) (row : MessageRow) → (if b then Some (plain_message_row row) else None) ≡ option_map plain_message_row (if b then Some row else None)
row_where true row = refl
row_where false row = refl

pub promise_alike : (row : MessageRow) → makes_promise (plain_message_row row) ≡ makes_promise row
promise_alike row = λ i. not (is_sync_row row) && still_there (map plain_param_row) row.returns i

pub returns_alike : (row : MessageRow) → returns_of_row (plain_message_row row) ≡ map plain_param_row (returns_of_row row)
returns_alike row = returned row.returns

pub request_alike : (s : Schema) (n : ℕ) → request_row (plain_schema s) n ≡ option_map plain_message_row (request_row s n)
request_alike s n =
    (λ i. option_and_then (λ row. if row.number == n then Some row else None) (message_alike s n i))
    ∙ then_alike plain_message_row plain_message_row (λ row. if row.number == n then Some row else None) (λ row. row_where (row.number == n) row) (message_of s n)
