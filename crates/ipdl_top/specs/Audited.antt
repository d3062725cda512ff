-- What an audit says of a text.
use Rattle.std.specs.Prelude.{◌≡◌, ℕ, ◌+◌, ◌<◌, ◌≤◌, List, length, None}
use Rattle.handler_script.specs.declared.script.Script.{Script}
use Rattle.ipdl_base.specs.declared.schema.Schema.{Schema}
use Rattle.script_steps.specs.Choices.{Setting}
use Rattle.script_transcripts.specs.Legal.{AreLegalSoFar, IsLegalText}
use Rattle.transcripts.specs.TextLines.{text_lines}
use Rattle.transcripts.specs.Compared.{events_in, most_text_bytes}
use Rattle.world_core.specs.declared.world.replay.Replay.{Replay}
use Rattle.world_core.specs.declared.world.replay.Replay.TheVariants as replay
use Rattle.ipdl_top.specs.declared.audit.outcome.Audit.{Audit}
use Rattle.ipdl_top.specs.declared.audit.outcome.Audit.TheVariants as audit

-- what an audited run is about: it has no stop
abbrev pub audited_setting : Schema → Script → ℕ → Setting
audited_setting schema script limit = record { schema = schema; script = script; stop = None; limit = limit }

-- What an audit says: the text is one that a run may print, with this number of events; or all its lines are first lines of such
-- a text, but it stops early, and the line of this number is missing; or the line of this number is the first that no such text
-- has after the lines before it.
abbrev pub IsAudited : Setting → List ℕ → Audit → Type 0
IsAudited setting text (audit.Legal events) = (legal : IsLegalText setting text) × (events ≡ events_in legal.state.lines)
IsAudited setting text (audit.Early at) = (¬ IsLegalText setting text) × AreLegalSoFar setting text (length (text_lines text)) × (at ≡ length (text_lines text) + 1)
IsAudited setting text (audit.NoStep at) = (count : ℕ) × AreLegalSoFar setting text count × (count < length (text_lines text)) × (at ≡ count + 1)

-- what is found, by how far a run prints the lines of a text
abbrev pub audit_by : Replay → Audit
audit_by (replay.Complete events) = audit.Legal events
audit_by (replay.Incomplete count) = audit.Early (count + 1)
audit_by (replay.Diverged count) = audit.NoStep (count + 1)

-- no more lines are counted than a text has
abbrev pub IsFew : Replay → Type 0
IsFew (replay.Complete events) = Unit {0}
IsFew (replay.Incomplete count) = count ≤ most_text_bytes
IsFew (replay.Diverged count) = count ≤ most_text_bytes
