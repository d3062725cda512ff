-- What is read of an end, by the lines that it printed.
use Rattle.std.proofs.Common.{◌≡◌, ℕ, ℤ, List, ◌∷◌, [], ◌++◌, reverse, filter_map, Option, Some, None, unwrap_or, refl, sym, ap, ◌∙◌}
use Rattle.std.specs.List.{cons_option, slice_get}
use Rattle.std.proofs.lemmas.List.{reverse-append}
use Rattle.ipdl_base.specs.declared.kinds.EndState.{EndState}
use Rattle.ipdl_base.specs.declared.kinds.EndState.TheVariants as state
use Rattle.ipdl_base.specs.declared.kinds.Side.{Side}
use Rattle.ipdl_base.specs.declared.line.Line.{Line}
use Rattle.ipdl_base.specs.declared.line.What.{What}
use Rattle.ipdl_base.specs.declared.line.What.TheVariants as what
use Rattle.ipdl_base.specs.declared.schema.Schema.{Schema}
use Rattle.history_reading.specs.declared.parts.CallFrame.{CallFrame}
use Rattle.history_reading.specs.declared.parts.PacketKind.{PacketKind}
use Rattle.history_reading.specs.EndReading.{EndReading}
use Rattle.history_reading.specs.Holds.{IsReadable}
use Rattle.history_reading.specs.Reading.{after_what, end_reading_of, read}
use Rattle.law_statements.specs.Actors.{fallen}
use Rattle.law_statements.specs.Arrived.{state_after, state_of}
use Rattle.law_statements.specs.Packets.{delivered, settled}
use Rattle.law_statements.specs.Said.{said_by}
use Rattle.law_statements.specs.Stack.{stack}
use Rattle.law_statements.proofs.Along.{along}
use Rattle.law_statements.proofs.Fields.{delivered-read, fallen-read, of-reply, settled-read}
use Rattle.law_statements.proofs.StackRead.{stack-read}

state-step : (schema : Schema) (place : ℕ) (w : What) (own : EndReading) → (after_what schema place w own).state ≡ unwrap_or (state_after w) own.state
state-step schema place (what.DeliverReply n) own = of-reply (λ o. o.state) n own refl
state-step schema place _ own = refl

state-more : (told : List What) (w : What) → state_of (told ++ w ∷ []) ≡ unwrap_or (state_after w) (state_of told)
state-more told w = ap (λ (ws : List What). unwrap_or (slice_get (filter_map state_after ws) 0) state.Open) (reverse-append told (w ∷ [])) ∙ by (state_after w) (filter_map state_after (reverse told))
  where
    by : (o : Option EndState) (rest : List EndState) → unwrap_or (slice_get (cons_option o rest) 0) state.Open ≡ unwrap_or o (unwrap_or (slice_get rest 0) state.Open)
    by None rest = refl
    by (Some s) rest = refl

state-read : (schema : Schema) (end : Side) (lines : List Line) → (end_reading_of end (read schema lines)).state ≡ state_of (said_by end lines)
state-read schema end lines =
    along schema (λ own said. own.state ≡ state_of said) refl (λ place own said w p. state-step schema place w own ∙ ap (unwrap_or (state_after w)) p ∙ sym (state-more said w)) end lines

-- what is read, with the parts that are tested in the words of the statements
abbrev pub as_said : Schema → Side → List Line → EndReading
as_said schema end before = record (end_reading_of end (read schema before)) {
  state = state_of (said_by end before);
  fallen = fallen (said_by end before);
  settled = settled (said_by end before);
  delivered = delivered (said_by end before);
  stack = stack schema end before;
}

pub read-as-said : (schema : Schema) (lines : List Line) → IsReadable schema lines → (end : Side) (before following : List Line) → lines ≡ before ++ following → end_reading_of end (read schema before) ≡ as_said schema end before
read-as-said schema lines readable end before following e =
    ap (λ (x : EndState). record own { state = x }) (state-read schema end before)
    ∙ ap (λ (x : List ℤ). record own { state = state_of said; fallen = x }) (fallen-read schema end before)
    ∙ ap (λ (x : List ℤ). record own { state = state_of said; fallen = fallen said; settled = x }) (settled-read schema end before)
    ∙ ap (λ (x : List PacketKind). record own { state = state_of said; fallen = fallen said; settled = settled said; delivered = x }) (delivered-read schema end before)
    ∙ ap (λ (x : List CallFrame). record own { state = state_of said; fallen = fallen said; settled = settled said; delivered = delivered said; stack = x }) (stack-read schema lines readable end before following e)
  where
    own : EndReading
    own = end_reading_of end (read schema before)

    said : List What
    said = said_by end before
