-- Every run of one end obeys the law of one end and the law of falls.
use Rattle.std.proofs.Common.{◌≡◌, ◌⊎◌, inl, inr, ℕ, ◌+◌, ◌≤◌, ℤ, pos, Bool, true, false, not, ◌&&◌, if◌then◌else◌, IsTrue, List, [], ◌∷◌, ◌++◌, filter_map, length, map, take, Option, Some, None, refl, sym, ap, subst, append_assoc, ◌∙◌, arith}
use Rattle.std.specs.Bool.{MatchBool}
use Rattle.std.specs.List.{AllByRecursion, slice_get}
use Rattle.std.proofs.lemmas.Bool.{and_parts, and_from}
use Rattle.std.proofs.lemmas.List.{append-nil, length-append, length-map, map-append, take-append-le}
use Rattle.std.proofs.lemmas.List.Elements.{filter_map-append}
use Rattle.std.proofs.lemmas.Option.{same_Some}
use Rattle.ipdl_base.specs.declared.kinds.Reason.{Reason}
use Rattle.ipdl_base.specs.declared.kinds.Reason.TheVariants as reason
use Rattle.ipdl_base.specs.declared.kinds.Side.{Side}
use Rattle.ipdl_base.specs.declared.kinds.Side.TheVariants.{Parent, Child}
use Rattle.ipdl_base.specs.declared.line.Line.{Line}
use Rattle.ipdl_base.specs.declared.line.What.{What}
use Rattle.ipdl_base.specs.declared.line.What.TheVariants as what
use Rattle.ipdl_base.specs.declared.schema.Schema.{Schema}
use Rattle.ipdl_base.specs.Lines.{is_effect}
use Rattle.ipdl_base.specs.Sound.{IsSound}
use Rattle.ipdl_base.specs.Sides.{top_id}
use Rattle.nesting_core.specs.declared.frame.Answer.{Answer}
use Rattle.nesting_core.specs.declared.frame.Answer.TheVariants as answer
use Rattle.channel_model.specs.EventLines.{EffectsFollow, IsEffectOf, IsEventWithEffects}
use Rattle.channel_model.specs.Ends.{End, Packet, World, end_of, link_to, message, mark, opening_end}
use Rattle.channel_model.specs.Events.{Event, Move}
use Rattle.channel_model.specs.Events as event
use Rattle.channel_model.specs.Fitting.{FitsPacket}
use Rattle.channel_model.specs.Outputs.{Output, is_open, line_at}
use Rattle.channel_model.specs.Parts.{DeliveryPart, OwnParts}
use Rattle.channel_model.specs.Phases.{Phase}
use Rattle.channel_model.specs.Refusals.{packet_refusal}
use Rattle.channel_model.specs.StepLaws.{IsMadeOf}
use Rattle.channel_model.specs.Steps.{first_packet, step}
use Rattle.channel_model.proofs.Events.{events_have_their_lines}
use Rattle.channel_model.proofs.StepParts.{steps_are_made_of_parts}
use Rattle.history_reading.specs.declared.law.Law.TheVariants as law
use Rattle.history_reading.specs.EndReading.{EndReading, opening}
use Rattle.history_reading.specs.Fallen.{fallen_line, fallen_moment}
use Rattle.history_reading.specs.Holds.{Holds, IsReadable, each_line, is_readable, is_readable_what, line_test, moment_test}
use Rattle.history_reading.specs.Reading.{Reading, end_reading_of, opening_reading, other_of, read}
use Rattle.history_reading.specs.SentPacket.{Request}
use Rattle.history_reading.specs.Settled.{settled_moment}
use Rattle.channel_laws.specs.Delivered.{delivered_kind}
use Rattle.channel_laws.specs.EndActors.{IsFallenLine}
use Rattle.channel_laws.specs.Notes.{here, notes}
use Rattle.channel_laws.specs.Rows.{HasSoundRows}
use Rattle.channel_laws.specs.Tested.{EndLinesPass, LinesPass, after_whats, read_from, test_at}
use Rattle.channel_laws.proofs.Exchanges.{ends_read_exchanges}
use Rattle.channel_laws.proofs.FallenRuns.{ends_obey_fallen}
use Rattle.channel_laws.proofs.Moves.{StepParts, acts, delivers}
use Rattle.channel_laws.proofs.Readable.{CanRead, move-reads}
use Rattle.channel_laws.proofs.Rows.{sound_schemas_have_sound_rows}
use Rattle.channel_laws.proofs.Runs.{moment_at, moments-pass}
use Rattle.channel_laws.proofs.SettledMoments.{moment-settled}
use Rattle.channel_laws.proofs.Testing.{each-passes, event_test, pass-append, pass-both, pass-events, pass-lines}
use Rattle.law_statements.specs.Packets.{delivered, delivery}
use Rattle.law_statements.specs.Said.{is_moment, line_of, said_by, said_in}
use Rattle.law_statements.specs.Settled.{FallsNext}
use Rattle.law_statements.proofs.Along.{Passes, each-from, each-to, passes-holds}
use Rattle.law_statements.proofs.Fields.{delivered-read}
use Rattle.law_statements.proofs.SettledLaw.{moment-to}
use Rattle.alone_laws.specs.Alone.{Alone, HasReason}
use Rattle.alone_laws.specs.AloneLines.{LineIsAlone}
use Rattle.alone_laws.specs.AloneRuns.{RunsAlone, begins, acts as does, gets}
use Rattle.alone_laws.specs.KeptAlone.{KeepsAlone, KeepsRead}
use Rattle.alone_laws.specs.Laws.{OneEndObeysAlone, OneEndObeysFallen}
use Rattle.alone_laws.specs.Received.{HasReceived, answers_to, delivered_by_then}
use Rattle.alone_laws.proofs.AloneLines.{LinesAreAlone, others-more, own-more, reading-more}
use Rattle.alone_laws.proofs.AloneParts.{delivery-alone, own-alone}
use Rattle.alone_laws.proofs.AloneSteps.{delivery-keeps-alone, own-keeps-alone, own-made, whats-same}

-- Places in lists

-- A place in two lists is in the first or in the second.
data PlaceIn (xs ys before : List Line) (l : Line) (following : List Line) : Type 0 where
  in_first : (rest : List Line) → xs ≡ before ++ l ∷ rest → following ≡ rest ++ ys → PlaceIn xs ys before l following
  in_second : (front : List Line) → before ≡ xs ++ front → ys ≡ front ++ l ∷ following → PlaceIn xs ys before l following

place-in : (xs ys before : List Line) (l : Line) (following : List Line) → xs ++ ys ≡ before ++ l ∷ following → PlaceIn xs ys before l following
place-in [] ys before l following e = in_second before refl e
place-in (x ∷ xs) ys [] l following e =
    let first : x ≡ l = cc in
    let rest : xs ++ ys ≡ following = cc in
    in_first xs (ap (λ (y : Line). y ∷ xs) first) (sym rest)
place-in (x ∷ xs) ys (b ∷ before) l following e =
    let first : x ≡ b = cc in
    let rest : xs ++ ys ≡ before ++ l ∷ following = cc in
    by first (place-in xs ys before l following rest)
  where
    by : x ≡ b → PlaceIn xs ys before l following → PlaceIn (x ∷ xs) ys (b ∷ before) l following
    by first (in_first rest is same) = in_first rest (ap (λ (zs : List Line). x ∷ zs) is ∙ ap (λ (y : Line). y ∷ before ++ l ∷ rest) first) same
    by first (in_second front is same) = in_second front (ap (λ (zs : List Line). b ∷ zs) is ∙ ap (λ (y : Line). y ∷ xs ++ front) (sym first)) same

-- More packets and more lines after

received-more : (schema : Schema) (top : ℕ) (own : List What) (packets more : List Packet) (n : ℤ) (number : ℕ) (a : Answer) → length (delivered own) ≤ length packets → HasReceived schema top own packets n number a → HasReceived schema top own (packets ++ more) n number a
received-more schema top own packets more n number a few h = record {
  row = h.row;
  found = h.found;
  given = h.given;
  first = ap (λ (ps : List Packet). slice_get (answers_to n ps) 0) (take-append-le (length (delivered own)) packets more few) ∙ h.first;
  is = h.is;
}

falls-more : (side : Side) (route : ℤ) (following more : List Line) → FallsNext side route following → FallsNext side route (following ++ more)
falls-more side route following more f =
    (f.0, f.1, f.2 ++ more, ap (λ (ls : List Line). ls ++ more) f.3 ∙ append_assoc f.0 (line_of side (what.Fall route f.1) ∷ f.2) more, f.4)

line-more : (schema : Schema) (top : ℕ) (side : Side) (packets more : List Packet) (before : List Line) (w : What) (following later : List Line) → length (delivered (said_by side before)) ≤ length packets → LineIsAlone schema top side packets before w following → LineIsAlone schema top side (packets ++ more) before w (following ++ later)
line-more schema top side packets more before (what.Resolved n vs) following later few h = (h.0, h.1, received-more schema top (said_by side before) packets more h.0.seq h.0.number (answer.Ok vs) few h.2)
line-more schema top side packets more before (what.Rejected n why) following later few h = (h.0, h.1, by why h.2)
  where
    by : (why : Reason) → HasReason schema top side before following packets h.0 why → HasReason schema top side before (following ++ later) (packets ++ more) h.0 why
    by reason.HandlerRejected c = received-more schema top (said_by side before) packets more h.0.seq h.0.number (answer.Fault reason.HandlerRejected) few c
    by reason.ResolverDestroyed c = received-more schema top (said_by side before) packets more h.0.seq h.0.number (answer.Fault reason.ResolverDestroyed) few c
    by reason.ActorDestroyed (inl c) = inl (received-more schema top (said_by side before) packets more h.0.seq h.0.number (answer.Fault reason.ActorDestroyed) few c)
    by reason.ActorDestroyed (inr c) = inr (falls-more side h.0.route following later c)
    by reason.ChannelClosed c = c
line-more schema top side packets more before (what.ResumeOk n vs) following later few h = (h.0, h.1, received-more schema top (said_by side before) packets more n h.0.number (answer.Ok vs) few h.2)
line-more schema top side packets more before (what.ResumeFault n why) following later few (inl h) = inl (h.0, h.1, received-more schema top (said_by side before) packets more n h.0.number (answer.Fault why) few h.2)
line-more schema top side packets more before (what.ResumeFault n why) following later few (inr h) = inr h
line-more schema top side packets more before _ following later few h = tt

-- a place in new lines
line-new : (schema : Schema) (top : ℕ) (side : Side) (packets : List Packet) (lines : List Line) (ws : List What) (front : List Line) (w : What) (following : List Line) → LinesAreAlone schema top side packets lines ws → map (line_at side) ws ≡ front ++ line_at side w ∷ following
    → LineIsAlone schema top side packets (lines ++ front) w following
line-new schema top side packets lines [] [] w following h e = cc
line-new schema top side packets lines [] (f ∷ front) w following h e = cc
line-new schema top side packets lines (x ∷ ws) [] w following h e =
    let first : line_at side x ≡ line_at side w = cc in
    let rest : map (line_at side) ws ≡ following = cc in
    subst (λ (ls : List Line). LineIsAlone schema top side packets ls w following) (sym (append-nil lines))
    (subst (λ (v : What). LineIsAlone schema top side packets lines v following) (ap (λ (l : Line). l.what) first) (subst (LineIsAlone schema top side packets lines x) (append-nil (map (line_at side) ws) ∙ rest) (h.0 [])))
line-new schema top side packets lines (x ∷ ws) (f ∷ front) w following h e =
    let first : line_at side x ≡ f = cc in
    let rest : map (line_at side) ws ≡ front ++ line_at side w ∷ following = cc in
    subst (λ (ls : List Line). LineIsAlone schema top side packets ls w following) (append_assoc lines (line_at side x ∷ []) front ∙ ap (λ (l : Line). lines ++ l ∷ front) first)
    (line-new schema top side packets (lines ++ line_at side x ∷ []) ws front w following h.1 rest)

-- Effects after events

effect-following : (b : Bool) (before : Option Side) (side : Side) → b ≡ true → before ≡ Some side → MatchBool b (before ≡ Some side) (Unit {0})
effect-following true before side h is = is
effect-following false before side h is = cc

event-first : (b : Bool) (P : Type 0) → b ≡ false → MatchBool b P (Unit {0})
event-first true P h = cc
event-first false P h = tt

effects-following : (side : Side) (xs : List Line) → AllByRecursion (IsEffectOf side) xs → EffectsFollow (Some side) xs
effects-following side [] h = tt
effects-following side (x ∷ xs) h =
    (effect-following (is_effect x.what) (Some side) x.side h.0.1 (ap (λ (s : Side). Some s) (sym h.0.0)), subst (λ (s : Side). EffectsFollow (Some s) xs) (sym h.0.0) (effects-following side xs h.1))

event-lines : (before : Option Side) (side : Side) (xs : List Line) → IsEventWithEffects side xs → EffectsFollow before xs
event-lines before side [] h = absurd h
event-lines before side (x ∷ xs) h = (event-first (is_effect x.what) (before ≡ Some x.side) h.0.1, subst (λ (s : Side). EffectsFollow (Some s) xs) (sym h.0.0) (effects-following side xs h.1))

-- Runs

module _ (schema : Schema) (sound : IsSound schema) (top : ℕ) (side : Side) where
  rows : HasSoundRows schema
  rows = sound_schemas_have_sound_rows schema sound

  abbrev Kept : End → List Line → List Packet → Type 0
  Kept e lines packets = KeepsAlone schema top side e lines packets

  -- what lines pass: they can be read, obey the law of falls, and at each moment an end that has closed has settled
  abbrev reads_test : Reading → Line → List Line → Bool
  reads_test r l b = event_test r l b && test_at (λ own other said. is_readable_what schema own.stack said) r l b

  abbrev fallen_test : Reading → Line → List Line → Bool
  fallen_test r l b = moment_at (moment_test law.Fallen schema) r l b && test_at (λ own other said. fallen_line own said) r l b

  abbrev settled_test : Reading → Line → List Line → Bool
  settled_test r l b = moment_at (λ (x : Reading). settled_moment (end_reading_of side x)) r l b

  abbrev alone_test : Reading → Line → List Line → Bool
  alone_test r l b = reads_test r l b && (fallen_test r l b && settled_test r l b)

  -- moments

  fallen-at : (e : End) (lines : List Line) (packets : List Packet) → Kept e lines packets → moment_test law.Fallen schema (read schema lines) ≡ true
  unfolding moment_test
  fallen-at e lines packets k = by side (read schema lines) k.others (ends_obey_fallen.moment schema e (end_reading_of side (read schema lines)) k.read_is.actors)
    where
      opened : fallen_moment opening ≡ true
      opened = refl

      both : (x y : Bool) → x ≡ true → y ≡ true → x && y ≡ true
      both true y p q = q
      both false y p q = cc

      by : (s : Side) (r : Reading) → other_of s r ≡ opening → fallen_moment (end_reading_of s r) ≡ true → fallen_moment r.parent && fallen_moment r.child ≡ true
      by Parent r none is = both (fallen_moment r.parent) (fallen_moment r.child) is (ap fallen_moment none ∙ opened)
      by Child r none is = both (fallen_moment r.parent) (fallen_moment r.child) (ap fallen_moment none ∙ opened) is

  settled-at : (e : End) (lines : List Line) (packets : List Packet) → Kept e lines packets → settled_moment (end_reading_of side (read schema lines)) ≡ true
  settled-at e lines packets k = moment-settled schema e (end_reading_of side (read schema lines)) k.read_is.exchanges.promises k.read_is.over

  -- a world with this end at the side, for properties of moves
  abbrev world_with : End → List Packet → World
  world_with e link = record { parent = e; child = e; to_parent = link; to_child = link }

  moments : (moment : Reading → Bool) (e : End) (link : List Packet) (ev : Event) (output : Output) (r : Reading) (following : List Line) → step schema e link ev ≡ Some output → moment r ≡ true → LinesPass schema (moment_at moment) r output.lines following
  moments moment e link ev output r following is h = by side
    where
      by : (s : Side) → LinesPass schema (moment_at moment) r output.lines following
      by Parent = moments-pass schema moment (record { side = Parent; event = ev }) (world_with e link) r output following is h
      by Child = moments-pass schema moment (record { side = Child; event = ev }) (world_with e link) r output following is h

  -- What a step adds.
  record StepAdds (lines : List Line) (given : List Packet) (output : Output) : Type 0 where
    whats : List What
    is : output.lines ≡ map (line_at side) whats
    kept : Kept output.end (lines ++ output.lines) given
    passes : (following : List Line) → LinesPass schema alone_test (read schema lines) output.lines following
    alone : LinesAreAlone schema top side given lines whats

  step-passes : (e : End) (lines : List Line) (packets : List Packet) (link : List Packet) (ev shown : Event) (output : Output) (ws : List What) (ps : List Packet) (q : Phase) → Kept e lines packets → step schema e link ev ≡ Some output → StepParts schema e link shown ws ps output.end q → output.lines ≡ map (line_at side) ws
      → EndLinesPass schema IsFallenLine (read schema lines).lines ws (end_reading_of side (read schema lines)) → (following : List Line) → LinesPass schema alone_test (read schema lines) output.lines following
  step-passes e lines packets link ev shown output ws ps q k is part said fallen following =
      let r : Reading = read schema lines in
      let readable : LinesPass schema reads_test r output.lines following =
      pass-both schema event_test (test_at (λ own other said. is_readable_what schema own.stack said)) r output.lines following
      (pass-events schema r output.lines following (event-lines r.last e.side output.lines (events_have_their_lines schema e link ev output is).lines))
      (subst (λ (ls : List Line). LinesPass schema (test_at (λ own other said. is_readable_what schema own.stack said)) r ls following) (sym said)
      (pass-lines schema (λ own other said. is_readable_what schema own.stack said) side ws r following (move-reads schema rows (notes schema packets) r.lines (end_reading_of side r) part k.read_is.outlined k.read_is.origins)))
      in
      let falls : LinesPass schema fallen_test r output.lines following =
      pass-both schema (moment_at (moment_test law.Fallen schema)) (test_at (λ own other said. fallen_line own said)) r output.lines following
      (moments (moment_test law.Fallen schema) e link ev output r following is (fallen-at e lines packets k))
      (subst (λ (ls : List Line). LinesPass schema (test_at (λ own other said. fallen_line own said)) r ls following) (sym said) (pass-lines schema (λ own other said. fallen_line own said) side ws r following fallen))
      in
      let settles : LinesPass schema settled_test r output.lines following = moments (λ (x : Reading). settled_moment (end_reading_of side x)) e link ev output r following is (settled-at e lines packets k) in
      pass-both schema reads_test (λ r l b. fallen_test r l b && settled_test r l b) r output.lines following readable (pass-both schema fallen_test settled_test r output.lines following falls settles)

  own-side : (e : End) (lines : List Line) (whats : List What) → e.side ≡ side → lines ≡ map (line_at e.side) whats → lines ≡ map (line_at side) whats
  own-side e lines whats is said = said ∙ ap (λ (s : Side). map (line_at s) whats) is

  own-adds : (e : End) (lines : List Line) (packets : List Packet) (own : Event) (output : Output) → Kept e lines packets → step schema e [] own ≡ Some output → StepAdds lines packets output
  own-adds e lines packets own output k is =
      let m : IsMadeOf (OwnParts schema e) e.side output = own-made schema e own output (steps_are_made_of_parts schema e [] own output is) in
      let said : output.lines ≡ map (line_at side) m.whats = own-side e output.lines m.whats k.side_is m.lines in
      let fallen = ends_obey_fallen.step schema sound e [] own output (read schema lines).lines (end_reading_of side (read schema lines)) is tt k.read_is.actors in
      record {
        whats = m.whats;
        is = said;
        kept = subst (λ (ls : List Line). Kept output.end (lines ++ ls) packets) (sym said) (own-keeps-alone schema sound top side e lines packets own output m.whats m.phase k is m.parts m.lines);
        passes = step-passes e lines packets [] own event.flush output m.whats output.packets m.phase k is (acts refl m.parts) said
            (subst (λ (ws : List What). EndLinesPass schema IsFallenLine (read schema lines).lines ws (end_reading_of side (read schema lines))) (whats-same e.side fallen.whats m.whats (sym fallen.lines ∙ m.lines)) fallen.pass);
        alone = own-alone schema rows top side packets lines k m.parts;
      }

  delivery-adds : (e : End) (lines : List Line) (packets : List Packet) (packet : Packet) (output : Output) → Kept e lines packets → FitsPacket schema packet → packet_refusal schema e packet ≡ None → step schema e (packet ∷ []) event.deliver ≡ Some output → StepAdds lines (packets ++ packet ∷ []) output
  delivery-adds e lines packets packet output k fits accepted is = by (steps_are_made_of_parts schema e (packet ∷ []) event.deliver output is)
    where
      by : (p : Packet) × (first_packet (packet ∷ []) ≡ Some p) × (is_open e.state ≡ true) × IsMadeOf (DeliveryPart schema p e) e.side output → StepAdds lines (packets ++ packet ∷ []) output
      by (p, first, o, made) =
          let m : IsMadeOf (DeliveryPart schema packet e) e.side output = subst (λ (x : Packet). IsMadeOf (DeliveryPart schema x e) e.side output) (sym (same_Some packet p first)) made in
          let said : output.lines ≡ map (line_at side) m.whats = own-side e output.lines m.whats k.side_is m.lines in
          let fallen = ends_obey_fallen.step schema sound e (packet ∷ []) event.deliver output (read schema lines).lines (end_reading_of side (read schema lines)) is (ends_obey_fallen.accepted schema e packet accepted) k.read_is.actors in
          record {
            whats = m.whats;
            is = said;
            kept = subst (λ (ls : List Line). Kept output.end (lines ++ ls) (packets ++ packet ∷ [])) (sym said) (delivery-keeps-alone schema sound top side e lines packets packet output m.whats m.phase k fits accepted is o m.parts m.lines);
            passes = step-passes e lines packets (packet ∷ []) event.deliver event.deliver output m.whats output.packets m.phase k is (delivers packet refl o m.parts) said
                (subst (λ (ws : List What). EndLinesPass schema IsFallenLine (read schema lines).lines ws (end_reading_of side (read schema lines))) (whats-same e.side fallen.whats m.whats (sym fallen.lines ∙ m.lines)) fallen.pass);
            alone = delivery-alone schema rows top side (packets ++ packet ∷ []) lines m.parts;
          }

  -- What a run has kept.
  record RunKept (e : End) (lines : List Line) (packets : List Packet) : Type 0 where
    kept : Kept e lines packets
    passes : (following : List Line) → LinesPass schema alone_test opening_reading lines following
    places : (before : List Line) (w : What) (following : List Line) → lines ≡ before ++ line_at side w ∷ following → LineIsAlone schema top side packets before w following

  -- at each place at most all packets were delivered
  few-delivered : (e : End) (lines : List Line) (packets : List Packet) (before rest : List Line) → Kept e lines packets → lines ≡ before ++ rest → length (delivered (said_by side before)) ≤ length packets
  few-delivered e lines packets before rest k is =
      let whole : delivered (said_by side before) ++ delivered (said_by side rest) ≡ map delivered_kind packets =
      sym (filter_map-append delivery (said_by side before) (said_by side rest))
      ∙ (ap delivered (sym (filter_map-append (said_in side) before rest) ∙ ap (said_by side) (sym is)) ∙ (sym (delivered-read schema side lines) ∙ k.read_is.delivered))
      in
      let count : length (delivered (said_by side before)) + length (delivered (said_by side rest)) ≡ length packets = sym (length-append (delivered (said_by side before)) (delivered (said_by side rest))) ∙ (ap length whole ∙ length-map packets delivered_kind) in
      omega (arith, count)

  adds : (e : End) (lines : List Line) (packets given more : List Packet) (output : Output) → given ≡ packets ++ more → RunKept e lines packets → StepAdds lines given output → RunKept output.end (lines ++ output.lines) given
  adds e lines packets given more output grown k a = record {
    kept = a.kept;
    passes = λ following. pass-append schema alone_test opening_reading lines output.lines following (k.passes (output.lines ++ following)) (a.passes following);
    places = λ before w following at. by before w following (place-in lines output.lines before (line_at side w) following at);
  }
    where
      by : (before : List Line) (w : What) (following : List Line) → PlaceIn lines output.lines before (line_at side w) following → LineIsAlone schema top side given before w following
      by before w following (in_first rest is same) =
          subst (λ (ps : List Packet). LineIsAlone schema top side ps before w following) (sym grown)
          (subst (LineIsAlone schema top side (packets ++ more) before w) (sym same)
          (line-more schema top side packets more before w rest output.lines (few-delivered e lines packets before (line_at side w ∷ rest) k.kept is) (k.places before w rest is)))
      by before w following (in_second front is same) =
          subst (λ (ls : List Line). LineIsAlone schema top side given ls w following) (sym is) (line-new schema top side given lines a.whats front w following a.alone (sym a.is ∙ same))

  opening-read : KeepsRead schema [] (opening_end top side) opening
  opening-read = record {
    actors = ends_obey_fallen.opening schema top side;
    exchanges = ends_read_exchanges.begins schema top side;
    outlined = record { state = refl; ended = refl; over = refl; stack = refl; made = refl; ordinary = λ is. tt };
    origins = record { entries = tt; names = tt; arrived = tt; outbox = tt };
    left = [];
    account = record { lost = []; whole = refl; kept = λ o. refl; numbers = refl; syncs = tt };
    replied = record { arrived = tt; said_by = tt };
    over = λ is. cc;
    replies = record { pending = λ n awaited takes. cc; known = tt; arrived = tt; waits = record { known = tt; apart = tt; given = tt }; requested = tt };
    delivered = refl;
    fits = tt;
  }

  opening-side : end_reading_of side (read schema []) ≡ opening
  opening-side = by side
    where
      by : (s : Side) → end_reading_of s (read schema []) ≡ opening
      by Parent = refl
      by Child = refl

  opening-other : other_of side (read schema []) ≡ opening
  opening-other = by side
    where
      by : (s : Side) → other_of s (read schema []) ≡ opening
      by Parent = refl
      by Child = refl

  no-place : {A : Type 0} (before : List Line) (l : Line) (following : List Line) → [] ≡ before ++ l ∷ following → A
  no-place [] l following e = cc
  no-place (b ∷ before) l following e = cc

  opening-kept : RunKept (opening_end top side) [] []
  opening-kept = record {
    kept = record {
      side_is = refl;
      read_is = subst (KeepsRead schema [] (opening_end top side)) (sym opening-side) opening-read;
      others = opening-other;
      built = ((record { id = top_id; protocol = top; manager = pos 0 }, here, refl, refl), tt);
    };
    passes = λ following. tt;
    places = λ before w following at. no-place before (line_at side w) following at;
  }

  run-kept : (e : End) (lines : List Line) (packets : List Packet) → RunsAlone schema top side e lines packets → RunKept e lines packets
  run-kept _ _ _ begins = opening-kept
  run-kept _ _ _ (does {e = e} {lines = lines} {packets = packets} own output run is) = let k = run-kept e lines packets run in adds e lines packets packets [] output (sym (append-nil packets)) k (own-adds e lines packets own output k.kept is)
  run-kept _ _ _ (gets {e = e} {lines = lines} {packets = packets} packet output run fits accepted is) =
      let k = run-kept e lines packets run in adds e lines packets (packets ++ packet ∷ []) (packet ∷ []) output refl k (delivery-adds e lines packets packet output k.kept fits accepted is)

  -- Consequences for runs

  module _ (e : End) (lines : List Line) (packets : List Packet) (k : RunKept e lines packets) where
    each-place : (before : List Line) (l : Line) (following : List Line) → lines ≡ before ++ l ∷ following → IsTrue (alone_test (read schema before) l following)
    each-place = each-from (λ before line following. alone_test (read schema before) line following) [] lines (each-passes schema alone_test [] lines (k.passes []))

    readable-place : (before : List Line) (l : Line) (following : List Line) → lines ≡ before ++ l ∷ following → IsTrue (is_readable schema (read schema before) l)
    unfolding is_readable
    readable-place before l following at = (and_parts (reads_test (read schema before) l following) (fallen_test (read schema before) l following && settled_test (read schema before) l following) (each-place before l following at)).0

    rest-place : (before : List Line) (l : Line) (following : List Line) → lines ≡ before ++ l ∷ following → IsTrue (fallen_test (read schema before) l following) × IsTrue (settled_test (read schema before) l following)
    rest-place before l following at =
        and_parts (fallen_test (read schema before) l following) (settled_test (read schema before) l following) ((and_parts (reads_test (read schema before) l following) (fallen_test (read schema before) l following && settled_test (read schema before) l following) (each-place before l following at)).1)

    lines-readable : IsReadable schema lines
    lines-readable = each-to (λ before line following. is_readable schema (read schema before) line) [] lines (λ front l following at. readable-place front l following at)

    at-moment : (moment : Reading → Bool) → moment (read schema lines) ≡ true → ((before : List Line) (l : Line) (following : List Line) → lines ≡ before ++ l ∷ following → IsTrue (moment_at moment (read schema before) l following))
        → (before following : List Line) → lines ≡ before ++ following → IsTrue (is_moment following) → IsTrue (moment (read schema before))
    at-moment moment last each before [] at m = subst (λ (ls : List Line). IsTrue (moment (read schema ls))) (at ∙ append-nil before) last
    at-moment moment last each before (l ∷ following) at m = by (is_effect l.what) m (each before l following at)
      where
        by : (b : Bool) → IsTrue (not b) → IsTrue (if b then true else moment (read schema before)) → IsTrue (moment (read schema before))
        by true m h = cc
        by false m h = h

    fallen-place : (before : List Line) (l : Line) (following : List Line) → lines ≡ before ++ l ∷ following → IsTrue (moment_at (moment_test law.Fallen schema) (read schema before) l following) × IsTrue (fallen_line (end_reading_of l.side (read schema before)) l.what)
    fallen-place before l following at =
        and_parts (moment_at (moment_test law.Fallen schema) (read schema before) l following) (test_at (λ own other said. fallen_line own said) (read schema before) l following) ((rest-place before l following at).0)

    obeys-fallen : Holds law.Fallen schema lines
    obeys-fallen =
        passes-holds law.Fallen schema lines lines-readable (record {
          places = λ before l following at. (fallen-place before l following at).1;
          moments = at-moment (moment_test law.Fallen schema) (fallen-at e lines packets k.kept) (λ before l following at. (fallen-place before l following at).0);
        })

    obeys-alone : Alone schema top side lines packets
    obeys-alone = record {
      deliveries = sym (delivered-read schema side lines) ∙ k.kept.read_is.delivered;
      resolves = λ n values before following at. k.places before (what.Resolved n values) following at;
      rejects = λ n why before following at. k.places before (what.Rejected n why) following at;
      closings = λ r before following at m closed there wants.
          moment-to schema side before
          (at-moment (λ (x : Reading). settled_moment (end_reading_of side x)) (settled-at e lines packets k.kept) (λ before l following at. (rest-place before l following at).1) before following at m) closed r there wants;
      answers = λ n values before following at. k.places before (what.ResumeOk n values) following at;
      faults = λ n why before following at. k.places before (what.ResumeFault n why) following at;
    }

pub one_end_obeys_alone : OneEndObeysAlone
one_end_obeys_alone schema sound top side e lines packets run = obeys-alone schema sound top side e lines packets (run-kept schema sound top side e lines packets run)

-- what is kept of an end and its lines
pub runs-keep : (schema : Schema) → IsSound schema → (top : ℕ) (side : Side) (e : End) (lines : List Line) (packets : List Packet) → RunsAlone schema top side e lines packets → KeepsAlone schema top side e lines packets
runs-keep schema sound top side e lines packets run = (run-kept schema sound top side e lines packets run).kept

pub one_end_obeys_fallen : OneEndObeysFallen
one_end_obeys_fallen schema sound top side e lines packets run = obeys-fallen schema sound top side e lines packets (run-kept schema sound top side e lines packets run)
