-- What the lines of a take make of a progress.
use Rattle.std.proofs.Common.{◌≡◌, ℕ, ◌+◌, ℤ, pos, true, List, ◌∷◌, refl, sym, ap, ◌∙◌}
use Rattle.ipdl_base.specs.declared.line.Line.{Line}
use Rattle.ipdl_base.specs.declared.line.What.TheVariants as what
use Rattle.ipdl_base.specs.declared.message.Message.{Message}
use Rattle.ipdl_base.specs.declared.schema.Kind.{Kind}
use Rattle.ipdl_base.specs.declared.schema.Kind.TheVariants.{Normal, Constructor, Delete}
use Rattle.ipdl_base.specs.declared.schema.Schema.{Schema}
use Rattle.ipdl_base.specs.declared.value.Values.{Values}
use Rattle.value_types.specs.Fits.{IsMadeBy}
use Rattle.script_parts.specs.Tables.{count_of}
use Rattle.channel_model.specs.Ends.{End}
use Rattle.channel_model.specs.Outputs.{Output}
use Rattle.channel_model.specs.ValueActors.{nulled}
use Rattle.script_runs.proofs.Shows.{ShowsHandling, built_lines}
use Rattle.script_steps.specs.Progress.{HandledRequest, Progress, after_lines}
use Rattle.world_core.specs.HalfView.{whats_of}
use Rattle.world_core.proofs.StepProgress.{whats-at}

-- a request as it is taken, after those that were taken
abbrev pub taken_request : Message → Values → List ℕ → HandledRequest
taken_request m vs taken = record { seq = m.seq; number = m.number; block = count_of m.number taken; acts = 0; given = vs; made = m.made }

abbrev pub with_taken : Message → Values → Progress → Progress
with_taken m vs p = record { events = p.events + 1; main = p.main; taken = m.number ∷ p.taken; handled = taken_request m vs p.taken ∷ p.handled; takes = true }

made-of : (m : Message) (vs : Values) (p : Progress) (id : ℤ) → m.made ≡ id → record (with_taken m vs p) { handled = record (taken_request m vs p.taken) { made = id } ∷ p.handled } ≡ with_taken m vs p
made-of m vs p id is = ap (λ (made : ℤ). record (with_taken m vs p) { handled = record (taken_request m vs p.taken) { made = made } ∷ p.handled }) (sym is)

by-kind : (m : Message) (kind : Kind) (vs : Values) (p : Progress) → IsMadeBy kind m.made → after_lines p (what.Take m.seq m.route m.number vs ∷ built_lines m.made kind) ≡ with_taken m vs p
by-kind m Normal vs p made = made-of m vs p (pos 0) made
by-kind m (Constructor protocol) vs p made = refl
by-kind m Delete vs p made = made-of m vs p (pos 0) made

-- the lines of a request that is handled
pub handling-makes : (schema : Schema) (e : End) (output : Output) (shows : ShowsHandling schema e output) (p : Progress) → IsMadeBy shows.row.kind shows.m.made
    → after_lines p (whats_of output.lines) ≡ with_taken shows.m (nulled schema e.actors shows.row.params shows.vs) p
handling-makes schema e output shows p made =
    let vs : Values = nulled schema e.actors shows.row.params shows.vs in
    ap (λ (ls : List Line). after_lines p (whats_of ls)) shows.lines
    ∙ ap (after_lines p) (whats-at e.side (what.Take shows.m.seq shows.m.route shows.m.number vs ∷ built_lines shows.m.made shows.row.kind))
    ∙ by-kind shows.m shows.row.kind vs p made
