-- A law holds of a run if its lines and its moments pass; they can be read.
use Rattle.std.proofs.Common.{◌≡◌, ℕ, Bool, true, false, ◌&&◌, List, [], ◌∷◌}
use Rattle.ipdl_base.specs.declared.line.Line.{Line}
use Rattle.ipdl_base.specs.declared.schema.Schema.{Schema}
use Rattle.ipdl_base.specs.Sound.{IsSound}
use Rattle.history_reading.specs.declared.law.Law.{Law}
use Rattle.history_reading.specs.Holds.{is_readable, line_test, moment_test, moment_before, passes, each_passes, Holds}
use Rattle.history_reading.specs.Reading.{Reading, after, end_reading_of, other_of, opening_reading, read}
use Rattle.channel_model.specs.Events.{Move}
use Rattle.channel_model.specs.Runs.{history_of}
use Rattle.channel_laws.specs.Tested.{LinesPass}
use Rattle.channel_laws.proofs.Readable.{lines-read}
use Rattle.channel_laws.proofs.Testing.{pass-both, each-passes}

-- the moment before a line passes, and the line does
abbrev pub law_at : Law → Schema → Reading → Line → List Line → Bool
law_at law schema reading line following = moment_before law schema reading line.what && line_test law schema line.side (end_reading_of line.side reading) (other_of line.side reading) line.what following

unfold-passes : (law : Law) (schema : Schema) (r : Reading) (lines following : List Line) → LinesPass schema (λ r l b. is_readable schema r l && law_at law schema r l b) r lines following → LinesPass schema (passes law schema) r lines following
unfolding passes
unfold-passes law schema r [] following p = tt
unfold-passes law schema r (l ∷ ls) following p = (p.0, unfold-passes law schema (after schema r l) ls following p.1)

both : (x y : Bool) → x ≡ true → y ≡ true → x && y ≡ true
both true y e f = f
both false y e f = cc

pub holds-in-runs : (law : Law) (schema : Schema) → IsSound schema → (top : ℕ) (moves : List Move) → LinesPass schema (law_at law schema) opening_reading (history_of schema top moves) [] → moment_test law schema (read schema (history_of schema top moves)) ≡ true
    → Holds law schema (history_of schema top moves)
holds-in-runs law schema sound top moves lines moment =
    let history : List Line = history_of schema top moves in
    both (each_passes law schema history) (moment_test law schema (read schema history))
    (each-passes schema (passes law schema) [] history (unfold-passes law schema opening_reading history [] (pass-both schema (λ r l b. is_readable schema r l) (law_at law schema) opening_reading history [] (lines-read schema sound top moves) lines)))
    moment
