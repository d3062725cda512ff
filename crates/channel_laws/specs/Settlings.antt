-- What an end settles: lines that pass the law of settlings, and replies that settle their promises with cause.
use Rattle.std.specs.Prelude.{◌≡◌, ℕ, ◌+◌, Bool, true, List, [], ◌∷◌, ◌++◌, map, Some}
use Rattle.ipdl_base.specs.declared.kinds.Level.{Level}
use Rattle.ipdl_base.specs.declared.kinds.Side.{Side}
use Rattle.ipdl_base.specs.declared.line.Line.{Line}
use Rattle.ipdl_base.specs.declared.line.What.{What}
use Rattle.ipdl_base.specs.declared.line.What.TheVariants as what
use Rattle.ipdl_base.specs.declared.message.Message.{Message}
use Rattle.ipdl_base.specs.declared.schema.MessageRow.{MessageRow}
use Rattle.ipdl_base.specs.declared.schema.Schema.{Schema}
use Rattle.ipdl_base.specs.Sound.{message_of, IsSound}
use Rattle.nesting_core.specs.declared.frame.Answer.{Answer}
use Rattle.pending_queue.specs.declared.item.Item.TheVariants as item
use Rattle.channel_model.specs.Ends.{End, Packet}
use Rattle.channel_model.specs.Outputs.{line_at, body_of}
use Rattle.channel_model.specs.Parts.{OwnParts, reply_outcome}
use Rattle.channel_model.specs.Phases.{Phase}
use Rattle.channel_model.specs.Takes as take
use Rattle.history_reading.specs.EndReading.{EndReading}
use Rattle.history_reading.specs.Reading.{after_what}
use Rattle.history_reading.specs.Settled.{settled_line, is_resolved, is_cause}
use Rattle.channel_laws.specs.EndActors.{ReadsActors}
use Rattle.channel_laws.specs.Exchanges.{ReadsExchanges}

-- Lines of one end pass the law of settlings, whatever lines follow them.
abbrev pub SettledPass : Schema → Side → EndReading → ℕ → List What → EndReading → Type 0
SettledPass schema side others place [] own = Unit {0}
SettledPass schema side others place (w ∷ ws) own = ((more : List Line) → settled_line schema side own others w (map (line_at side) ws ++ more) ≡ true) × SettledPass schema side others (place + 1) ws (after_what schema place w own)

-- why a settling is allowed as its line has it, except for whether it is the first
abbrev pub has_cause : Schema → Side → EndReading → EndReading → What → List Line → Bool
has_cause schema side others own (what.Resolved n vs) following = is_resolved schema own others n vs
has_cause schema side others own (what.Rejected n reason) following = is_cause schema side own others n following reason
has_cause schema side others own _ following = true

-- the replies that an end may take now settle their promises with cause
abbrev pub RepliesHaveCauses : Schema → Side → EndReading → End → EndReading → Type 0
RepliesHaveCauses schema side others e own =
    (m : Message) (sync : Bool) (level : Level) (row : MessageRow) (a : Answer) → take.taken_next e ≡ Some (item.Message m sync level) → m.body ≡ body_of a → message_of schema m.number ≡ Some row → take.is_awaited m.seq e.promises ≡ true
    → (place : ℕ) (following : List Line) → has_cause schema side others (after_what schema place (what.TakeReply m.seq) own) (take.settle_line m.seq (reply_outcome schema e row a)) following ≡ true

-- The lines of an end's own step pass the law of settlings, whatever the other end has sent, if the replies that the
-- end may take have causes in that. What is settled was promised and not settled before, and what is rejected in a
-- fall or a closing has that reason.
pub record EndsSettle : Type 0 where
  pub passes : (schema : Schema) → IsSound schema → (side : Side) (others : EndReading) (q : Phase) (e f : End) (whats : List What) (packets : List Packet) (place : ℕ) (own : EndReading)
      → OwnParts schema e whats packets f q → ReadsActors schema e own → ReadsExchanges schema e own → RepliesHaveCauses schema side others e own → SettledPass schema side others place whats own
