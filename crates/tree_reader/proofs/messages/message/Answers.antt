use Rattle.std.proofs.Common.{[], ◌∷◌}
use Rattle.tree_reader.specs.Machine.{one_message, messaged}
use Rattle.tree_reader.specs.Reading.{Stops}
use Rattle.tree_reader.proofs.ParamTurns.{past_ok, stops_then}
use Rattle.tree_reader.proofs.Turns.{thrown}
use Rattle.tree_reader.proofs.MessageTurns.{headed_message}
use Rattle.tree_reader.proofs.messages.message.Goals as goal

pub returns-in_err-attributes-clause-stops : goal.returns-in_err-attributes-clause-stops
returns-in_err-attributes-clause-stops c =
    thrown c.from_residual.result c.in_err-attributes.field-0.0 (λ e. Stops (messaged c.args.direction ∷ []) c.args.reader.now e) c.from_residual.ensures.1
    (c.in_err-attributes.ensures.stops (messaged c.args.direction) (one_message ∷ messaged c.args.direction ∷ []) (headed_message c.args.direction c.args.reader.now c.requires))

pub returns-clause-turns : goal.returns-clause-turns
returns-clause-turns c =
    past_ok c.bare_message.result (messaged c.args.direction ∷ []) one_message (messaged c.args.direction ∷ []) c.args.reader.now c.attributes.new.reader c.bare_message.new.reader
    (c.in_ok-attributes.ensures.turns (messaged c.args.direction) (one_message ∷ messaged c.args.direction ∷ []) (headed_message c.args.direction c.args.reader.now c.requires))
    c.bare_message.ensures.turns

pub returns-clause-stops : goal.returns-clause-stops
returns-clause-stops c =
    stops_then c.bare_message.result (messaged c.args.direction ∷ []) one_message (messaged c.args.direction ∷ []) c.args.reader.now c.attributes.new.reader
    (c.in_ok-attributes.ensures.turns (messaged c.args.direction) (one_message ∷ messaged c.args.direction ∷ []) (headed_message c.args.direction c.args.reader.now c.requires))
    c.bare_message.ensures.stops
