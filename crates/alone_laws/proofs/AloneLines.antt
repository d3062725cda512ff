-- Each line of a step of an end is as the law of one end requires.
use Rattle.std.proofs.Common.{◌≡◌, ◌≢◌, ◌⊎◌, inl, inr, ℕ, ◌+◌, ℤ, Bool, true, false, not, ◌&&◌, ◌||◌, cond, if◌then◌else◌, int_eq, find, is_some, IsTrue, List, [], ◌∷◌, ◌++◌, filter_map, length, map, take, Option, Some, None, refl, sym, ap, subst, append_assoc, ◌∙◌, arith}
use Rattle.std.specs.List.{AllByRecursion, cons_option, slice_get}
use Rattle.std.specs.Option.{option_map_or}
use Rattle.std.proofs.lemmas.Bool.{false≢true, true≢false, not-true}
use Rattle.std.proofs.lemmas.Bool.Decides.{Decides-int_eq}
use Rattle.std.proofs.lemmas.List.{append-nil, map-append}
use Rattle.std.proofs.lemmas.List.Elements.{filter_map-append}
use Rattle.std.proofs.lemmas.Option.{same_Some}
use Rattle.ipdl_base.specs.declared.kinds.Level.{Level}
use Rattle.ipdl_base.specs.declared.kinds.Reason.{Reason}
use Rattle.ipdl_base.specs.declared.kinds.Reason.TheVariants as reason
use Rattle.ipdl_base.specs.declared.kinds.Side.{Side}
use Rattle.ipdl_base.specs.declared.kinds.Side.TheVariants.{Parent, Child}
use Rattle.ipdl_base.specs.declared.line.Line.{Line}
use Rattle.ipdl_base.specs.declared.line.What.{What}
use Rattle.ipdl_base.specs.declared.line.What.TheVariants as what
use Rattle.ipdl_base.specs.declared.message.Message.{Message}
use Rattle.ipdl_base.specs.declared.schema.MessageRow.{MessageRow}
use Rattle.ipdl_base.specs.declared.schema.Schema.{Schema}
use Rattle.ipdl_base.specs.declared.value.Values.{Values}
use Rattle.ipdl_base.specs.Lines.{same_side}
use Rattle.nesting_core.specs.declared.frame.Answer.{Answer}
use Rattle.nesting_core.specs.declared.frame.Answer.TheVariants as answer
use Rattle.channel_model.specs.Ends.{Packet}
use Rattle.channel_model.specs.Outputs.{line_at}
use Rattle.channel_model.proofs.Tests.{and-left, and-right}
use Rattle.history_reading.specs.EndReading.{EndReading, own_request, opening}
use Rattle.history_reading.specs.Numbers.{has}
use Rattle.history_reading.specs.Reading.{Reading, after_what, end_reading_of, other_of, opening_reading, read}
use Rattle.history_reading.specs.SentPacket.{Request, SentPacket, request_of}
use Rattle.history_reading.specs.Settled.{is_close_event, is_unsettled, is_cause, is_resolved, is_destroyed, reports_fallen, resolves_missing, promise_falls_next, settled_line, falls_next}
use Rattle.channel_laws.specs.Settlings.{SettledPass}
use Rattle.channel_laws.specs.Tested.{after_whats, read_from}
use Rattle.channel_laws.proofs.EffectLines.{IsEffectLine, AreEffectLines, built, answers_ok, answers_fault, fails, resolved, rejected, fell}
use Rattle.channel_laws.proofs.Testing.{read-append, read-own, read-other, same-side}
use Rattle.law_statements.specs.Packets.{failed, sent, settled, is_closing}
use Rattle.law_statements.specs.Said.{last_event, said_by, said_in}
use Rattle.law_statements.specs.Settled.{FallsNext, IsPending}
use Rattle.law_statements.proofs.Fields.{event-read, sent-read, settled-read}
use Rattle.law_statements.proofs.SettledLaw.{closes, next}
use Rattle.alone_laws.specs.Alone.{HasReason}
use Rattle.alone_laws.specs.AloneLines.{LineIsAlone}

-- What is read of more lines of one end, and what they are

pub reading-more : (schema : Schema) (side : Side) (lines : List Line) (ws : List What) → read schema (lines ++ map (line_at side) ws) ≡ read_from schema (read schema lines) (map (line_at side) ws)
reading-more schema side lines ws = read-append schema lines (map (line_at side) ws) opening_reading

pub own-more : (schema : Schema) (side : Side) (lines : List Line) (ws : List What) → end_reading_of side (read schema (lines ++ map (line_at side) ws)) ≡ after_whats schema (read schema lines).lines ws (end_reading_of side (read schema lines))
own-more schema side lines ws = ap (end_reading_of side) (reading-more schema side lines ws) ∙ read-own schema side ws (read schema lines)

pub others-more : (schema : Schema) (side : Side) (lines : List Line) (ws : List What) → other_of side (read schema (lines ++ map (line_at side) ws)) ≡ other_of side (read schema lines)
others-more schema side lines ws = ap (other_of side) (reading-more schema side lines ws) ∙ read-other schema side ws (read schema lines)

said-itself : (side : Side) (ws : List What) → filter_map (said_in side) (map (line_at side) ws) ≡ ws
said-itself side [] = refl
said-itself side (w ∷ ws) = ap (λ (b : Bool). cons_option (if b then Some w else None) (filter_map (said_in side) (map (line_at side) ws))) (same-side side) ∙ ap (λ (xs : List What). w ∷ xs) (said-itself side ws)

pub said-more : (side : Side) (lines : List Line) (ws : List What) → said_by side (lines ++ map (line_at side) ws) ≡ said_by side lines ++ ws
said-more side lines ws = filter_map-append (said_in side) lines (map (line_at side) ws) ∙ ap (λ (xs : List What). said_by side lines ++ xs) (said-itself side ws)

-- Lines one after another

-- lines of an end are as the law requires, whatever follows them
abbrev pub LinesAreAlone : Schema → ℕ → Side → List Packet → List Line → List What → Type 0
LinesAreAlone schema top side packets before [] = Unit {0}
LinesAreAlone schema top side packets before (w ∷ ws) =
    ((more : List Line) → LineIsAlone schema top side packets before w (map (line_at side) ws ++ more)) × LinesAreAlone schema top side packets (before ++ line_at side w ∷ []) ws

pub alone-append : (schema : Schema) (top : ℕ) (side : Side) (packets : List Packet) (before : List Line) (ws vs : List What) → LinesAreAlone schema top side packets before ws → LinesAreAlone schema top side packets (before ++ map (line_at side) ws) vs
    → LinesAreAlone schema top side packets before (ws ++ vs)
alone-append schema top side packets before [] vs a b = subst (λ (ls : List Line). LinesAreAlone schema top side packets ls vs) (append-nil before) b
alone-append schema top side packets before (w ∷ ws) vs a b = (
  (λ more. subst (LineIsAlone schema top side packets before w) (sym (ap (λ (ls : List Line). ls ++ more) (map-append (line_at side) ws vs) ∙ append_assoc (map (line_at side) ws) (map (line_at side) vs) more)) (a.0 (map (line_at side) vs ++ more))),
  alone-append schema top side packets (before ++ line_at side w ∷ []) ws vs a.1 (subst (λ (ls : List Line). LinesAreAlone schema top side packets ls vs) (sym (append_assoc before (line_at side w ∷ []) (map (line_at side) ws))) b),
)

-- a line for which the law has no condition
abbrev pub IsSilent : What → Type 0
IsSilent (what.Resolved n vs) = ⊥
IsSilent (what.Rejected n why) = ⊥
IsSilent (what.ResumeOk n vs) = ⊥
IsSilent (what.ResumeFault n why) = ⊥
IsSilent _ = Unit {0}

silent-line : (schema : Schema) (top : ℕ) (side : Side) (packets : List Packet) (before : List Line) (w : What) (following : List Line) → IsSilent w → LineIsAlone schema top side packets before w following
silent-line schema top side packets before (what.Resolved n vs) following is = absurd is
silent-line schema top side packets before (what.Rejected n why) following is = absurd is
silent-line schema top side packets before (what.ResumeOk n vs) following is = absurd is
silent-line schema top side packets before (what.ResumeFault n why) following is = absurd is
silent-line schema top side packets before _ following is = tt

pub silent-lines : (schema : Schema) (top : ℕ) (side : Side) (packets : List Packet) (before : List Line) (ws : List What) → AllByRecursion IsSilent ws → LinesAreAlone schema top side packets before ws
silent-lines schema top side packets before [] h = tt
silent-lines schema top side packets before (w ∷ ws) h = ((λ more. silent-line schema top side packets before w (map (line_at side) ws ++ more) h.0), silent-lines schema top side packets (before ++ line_at side w ∷ []) ws h.1)

-- Promises that are pending by the lines

wanted : (found : Option Request) (done : Bool) → option_map_or (λ (r : Request). r.wants) found false && not done ≡ true → (r : Request) × (found ≡ Some r) × IsTrue r.wants × (done ≡ false)
wanted None done is = cc
wanted (Some r) done is = (r, refl, and-left r.wants (not done) is, not-true done (and-right r.wants (not done) is))

pub pending-is : (schema : Schema) (side : Side) (before : List Line) (own : EndReading) (n : ℤ) → own ≡ end_reading_of side (read schema before) → is_unsettled own n ≡ true → (r : Request) × IsPending schema (said_by side before) n r
pending-is schema side before own n is unsettled =
    let w = wanted (own_request own n) (has own.settled n) unsettled in
    (w.0, (sym (ap (λ (ps : List SentPacket). request_of ps n) (ap (λ (x : EndReading). x.sent) is ∙ sent-read schema side before)) ∙ w.1, w.2, sym (ap (λ (ns : List ℤ). has ns n) (ap (λ (x : EndReading). x.settled) is ∙ settled-read schema side before)) ∙ w.3))

-- Lines of falls and closings

falls-route : (side : Side) (own : EndReading) (n : ℤ) (following : List Line) (r : Request) → own_request own n ≡ Some r → promise_falls_next side own n following ≡ true → FallsNext side r.route following
unfolding promise_falls_next
falls-route side own n following r found is = (next side r.route following).0 (sym (ap (λ (o : Option Request). option_map_or (λ (x : Request). falls_next side x.route following) o false) found) ∙ is)

-- an end of which nothing is read has sent nothing
none-destroyed : (schema : Schema) (side : Side) (own : EndReading) (n : ℤ) (following : List Line) → is_destroyed schema side own opening n following ≡ true → promise_falls_next side own n following ≡ true
unfolding is_destroyed reports_fallen resolves_missing
none-destroyed schema side own n following is = is

module _ (schema : Schema) (top : ℕ) (side : Side) (packets : List Packet) where
  rejected-line : (before : List Line) (own : EndReading) (n : ℤ) (why : Reason) (following : List Line) → own ≡ end_reading_of side (read schema before) → settled_line schema side own opening (what.Rejected n why) following ≡ true → LineIsAlone schema top side packets before (what.Rejected n why) following
  rejected-line before own n why following is passes =
      let p = pending-is schema side before own n is (and-left (is_unsettled own n) (is_cause schema side own opening n following why) passes) in
      (p.0, p.1, by why (and-right (is_unsettled own n) (is_cause schema side own opening n following why) passes) p.0 p.1)
    where
      by : (why : Reason) → is_cause schema side own opening n following why ≡ true → (r : Request) → IsPending schema (said_by side before) n r → HasReason schema top side before following packets r why
      by reason.HandlerRejected c r p = cc
      by reason.ResolverDestroyed c r p = cc
      by reason.ChannelClosed c r p = sym (closes (last_event (said_by side before))) ∙ (ap is_close_event (sym (ap (λ (x : EndReading). x.event) is ∙ event-read schema side before)) ∙ c)
      by reason.ActorDestroyed c r p =
          inr (falls-route side own n following r (ap (λ (ps : List SentPacket). request_of ps n) (ap (λ (x : EndReading). x.sent) is ∙ sent-read schema side before) ∙ p.0) (none-destroyed schema side own n following c))

  resolved-line : {A : Type 0} (own : EndReading) (n : ℤ) (vs : Values) (following : List Line) → settled_line schema side own opening (what.Resolved n vs) following ≡ true → A
  resolved-line own n vs following passes = let z : false ≡ true = and-right (is_unsettled own n) (is_resolved schema own opening n vs) passes in cc

  -- effects that pass the law of settlings at an end to which nothing was sent
  pub effects-alone : (before : List Line) (place : ℕ) (own : EndReading) (ws : List What) → place ≡ (read schema before).lines → own ≡ end_reading_of side (read schema before) → AreEffectLines ws → SettledPass schema side opening place ws own → LinesAreAlone schema top side packets before ws
  effects-alone before place own [] at is effects passes = tt
  effects-alone before place own (w ∷ ws) at is effects passes = (
    (λ more. by w effects.0 (map (line_at side) ws ++ more) (passes.0 more)),
    effects-alone (before ++ line_at side w ∷ []) (place + 1) (after_what schema place w own) ws (lines-next w) (own-next w) effects.1 passes.1,
  )
    where
      own-next : (w : What) → after_what schema place w own ≡ end_reading_of side (read schema (before ++ line_at side w ∷ []))
      own-next w = ap (λ (k : ℕ). after_what schema k w own) at ∙ (ap (after_what schema (read schema before).lines w) is ∙ sym (own-more schema side before (w ∷ [])))

      lines-next : (w : What) → place + 1 ≡ (read schema (before ++ line_at side w ∷ [])).lines
      lines-next w = ap (λ (k : ℕ). k + 1) at ∙ sym (ap (λ (r : Reading). r.lines) (reading-more schema side before (w ∷ [])) ∙ one-line side w (read schema before))
        where
          one-line : (s : Side) (w : What) (r : Reading) → (read_from schema r (line_at s w ∷ [])).lines ≡ r.lines + 1
          one-line Parent w r = refl
          one-line Child w r = refl

      by : (w : What) → IsEffectLine w → (following : List Line) → settled_line schema side own opening w following ≡ true → LineIsAlone schema top side packets before w following
      by w (built id protocol) following p = tt
      by w (answers_ok n vs) following p = tt
      by w (answers_fault n why) following p = tt
      by w (fails n) following p = tt
      by w (resolved n vs) following p = resolved-line own n vs following p
      by w (rejected n why) following p = rejected-line before own n why following is p
      by w (fell id why) following p = tt
