-- What every move keeps besides the reading is true in every run, and the lines of every run pass what the lines of
-- every move pass.
use Rattle.std.proofs.Common.{◌≡◌, ℕ, Bool, true, if◌then◌else◌, List, [], ◌∷◌, ◌++◌, map, Option, Some, None, refl, sym, ap, subst, ◌∙◌}
use Rattle.std.specs.List.{AllByRecursion}
use Rattle.std.proofs.lemmas.List.{append-nil}
use Rattle.ipdl_base.specs.declared.kinds.Side.{Side}
use Rattle.ipdl_base.specs.declared.kinds.Side.TheVariants.{Parent, Child}
use Rattle.ipdl_base.specs.declared.line.Line.{Line}
use Rattle.ipdl_base.specs.declared.line.What.{What}
use Rattle.ipdl_base.specs.declared.schema.Schema.{Schema}
use Rattle.ipdl_base.specs.Lines.{is_effect}
use Rattle.ipdl_base.specs.Sound.{IsSound}
use Rattle.history_reading.specs.EndReading.{EndReading}
use Rattle.history_reading.specs.Reading.{Reading, after, end_reading_of, other_of, opening_reading}
use Rattle.channel_model.specs.Ends.{End, World, end_of, link_to, opening}
use Rattle.channel_model.specs.EventLines.{IsEventWithEffects, IsEffectOf}
use Rattle.channel_model.specs.Events.{Event, Move}
use Rattle.ipdl_base.specs.Sides.{other}
use Rattle.channel_model.specs.Outputs.{Output, line_at}
use Rattle.channel_model.specs.Runs.{RunState, output_of, passed_by, happens, run, history_of, world_after, after_event}
use Rattle.channel_model.specs.Laws.{MovesFollow}
use Rattle.channel_model.proofs.Histories.{moves_go_one_after_another}
use Rattle.channel_model.proofs.Events.{events_have_their_lines}
use Rattle.channel_laws.specs.NestedWorlds.{IsNestedWorld}
use Rattle.channel_laws.specs.Tested.{after_whats, EndLinesPass, LinesPass, read_from, test_at}
use Rattle.channel_laws.specs.TwoEnds.{TwoEnds, ReadingIs}
use Rattle.channel_laws.proofs.EveryRun.{nested_worlds_stay, end-side}
use Rattle.channel_laws.proofs.Moves.{SideMove, side-move, flip, other-other}
use Rattle.channel_laws.proofs.Rows.{sound_schemas_have_sound_rows}
use Rattle.channel_laws.proofs.Testing.{read-own, read-other, read-append, pass-append, pass-lines}

-- Some moves lead to a world, and their lines to its reading.
pub record IsReached (schema : Schema) (w : World) (r : Reading) : Type 0 where
  pub top : ℕ
  pub front : List Move
  pub world : (run schema front (opening top)).world ≡ w
  pub reading : read_from schema opening_reading (history_of schema top front) ≡ r

-- A possible move in a world that moves have led to, whose reading it is.
pub record RunMove (schema : Schema) (move : Move) (w : World) (r : Reading) (output : Output) : Type 0 where
  pub reached : IsReached schema w r
  pub step : output_of schema w move ≡ Some output
  pub nested : IsNestedWorld schema w
  pub reads : ReadingIs schema w r
  pub ends : SideMove schema move.side w r move.event output
  pub reads_after : ReadingIs schema (world_after move output w) (read_from schema r output.lines)

-- After a move a world keeps this, and the lines of the move pass a test.
pub record MoveKeeps (schema : Schema) (Kept : World → Reading → Type 0) (test : Reading → Line → List Line → Bool) (move : Move) (w : World) (r : Reading) (output : Output) : Type 0 where
  pub kept : Kept (world_after move output w) (read_from schema r output.lines)
  pub passes : (following : List Line) → LinesPass schema test r output.lines following

-- every move does so
abbrev pub EveryMoveKeeps : Schema → (World → Reading → Type 0) → (Reading → Line → List Line → Bool) → Type 0
EveryMoveKeeps schema Kept test = (move : Move) (w : World) (r : Reading) (output : Output) → RunMove schema move w r output → Kept w r → MoveKeeps schema Kept test move w r output

-- The reading of a world after lines, which pass a test.
pub record RunKeeps (schema : Schema) (Kept : World → Reading → Type 0) (test : Reading → Line → List Line → Bool) (w : World) (r : Reading) (lines : List Line) : Type 0 where
  pub reads : ReadingIs schema w (read_from schema r lines)
  pub kept : Kept w (read_from schema r lines)
  pub passes : (following : List Line) → LinesPass schema test r lines following

-- The reading after a move

same-side : (a b : Side) → other a ≡ other b → a ≡ b
same-side a b e = sym (other-other a) ∙ (ap other e ∙ other-other b)

pub side-lines : (mine : End) (side : Side) (lines : List Line) (whats : List What) → mine.side ≡ side → lines ≡ map (line_at mine.side) whats → lines ≡ map (line_at side) whats
side-lines mine side lines whats is e = e ∙ ap (λ (s : Side). map (line_at s) whats) is

module _ (schema : Schema) where
  read-following : (side : Side) (ev : Event) (w : World) (r : Reading) (output : Output) → IsNestedWorld schema w → ReadingIs schema w r → SideMove schema side w r ev output → ReadingIs schema (world_after (record { side = side; event = ev }) output w) (read_from schema r output.lines)
  read-following Parent ev w r output n h m =
      let lines : output.lines ≡ map (line_at Parent) m.whats = side-lines w.parent Parent output.lines m.whats h.parent m.lines in
      let following : Reading = read_from schema r (map (line_at Parent) m.whats) in
      subst (λ (ls : List Line). ReadingIs schema (world_after (record { side = Parent; event = ev }) output w) (read_from schema r ls)) (sym lines) (record {
        parent = m.side ∙ h.parent;
        ends = subst (λ (x : EndReading). TwoEnds schema output.end w.child x following.child (after_event ev w.to_parent) (w.to_child ++ output.packets)) (sym (read-own schema Parent m.whats r))
            (subst (λ (x : EndReading). TwoEnds schema output.end w.child (after_whats schema r.lines m.whats r.parent) x (after_event ev w.to_parent) (w.to_child ++ output.packets)) (sym (read-other schema Parent m.whats r)) m.after);
      })
  read-following Child ev w r output n h m =
      let lines : output.lines ≡ map (line_at Child) m.whats = side-lines w.child Child output.lines m.whats n.child m.lines in
      let following : Reading = read_from schema r (map (line_at Child) m.whats) in
      subst (λ (ls : List Line). ReadingIs schema (world_after (record { side = Child; event = ev }) output w) (read_from schema r ls)) (sym lines) (record {
        parent = h.parent;
        ends = subst (λ (x : EndReading). TwoEnds schema w.parent output.end following.parent x (w.to_parent ++ output.packets) (after_event ev w.to_child)) (sym (read-own schema Child m.whats r))
            (subst (λ (x : EndReading). TwoEnds schema w.parent output.end x (after_whats schema r.lines m.whats r.child) (w.to_parent ++ output.packets) (after_event ev w.to_child)) (sym (read-other schema Child m.whats r)) (flip m.after));
      })

  -- what both ends keep, each of itself

  abbrev pub AtEnds : (End → EndReading → Type 0) → World → Reading → Type 0
  AtEnds K w r = K w.parent r.parent × K w.child r.child

  pub at-ends : (K : End → EndReading → Type 0) (side : Side) (w : World) (r : Reading) → AtEnds K w r → K (end_of side w) (end_reading_of side r) × K (end_of (other side) w) (other_of side r)
  at-ends K Parent w r k = k
  at-ends K Child w r k = (k.1, k.0)

  pub ends-keep : (K : End → EndReading → Type 0) (side : Side) (ev : Event) (w : World) (r : Reading) (output : Output) → IsNestedWorld schema w → (m : SideMove schema side w r ev output)
      → K output.end (after_whats schema r.lines m.whats (end_reading_of side r)) → K (end_of (other side) w) (other_of side r) → AtEnds K (world_after (record { side = side; event = ev }) output w) (read_from schema r output.lines)
  ends-keep K Parent ev w r output n m mine theirs =
      subst (λ (ls : List Line). AtEnds K (world_after (record { side = Parent; event = ev }) output w) (read_from schema r ls)) (sym (side-lines w.parent Parent output.lines m.whats n.parent m.lines))
      (subst (K output.end) (sym (read-own schema Parent m.whats r)) mine, subst (K w.child) (sym (read-other schema Parent m.whats r)) theirs)
  ends-keep K Child ev w r output n m mine theirs =
      subst (λ (ls : List Line). AtEnds K (world_after (record { side = Child; event = ev }) output w) (read_from schema r ls)) (sym (side-lines w.child Child output.lines m.whats n.child m.lines))
      (subst (K w.parent) (sym (read-other schema Child m.whats r)) theirs, subst (K output.end) (sym (read-own schema Child m.whats r)) mine)

  -- what both ends keep, each of itself and of the other's lines

  abbrev pub AcrossEnds : (Side → EndReading → End → EndReading → Type 0) → World → Reading → Type 0
  AcrossEnds K w r = K Child r.child w.parent r.parent × K Parent r.parent w.child r.child

  pub across-ends : (K : Side → EndReading → End → EndReading → Type 0) (side : Side) (w : World) (r : Reading) → AcrossEnds K w r → K (other side) (other_of side r) (end_of side w) (end_reading_of side r) × K side (end_reading_of side r) (end_of (other side) w) (other_of side r)
  across-ends K Parent w r k = k
  across-ends K Child w r k = (k.1, k.0)

  both-at : {e : End} {x y u v : EndReading} (K : EndReading → End → EndReading → Type 0) → y ≡ x → v ≡ u → K x e u → K y e v
  both-at {e} {x} {y} {u} {v} K a b k = subst (λ (z : EndReading). K z e v) (sym a) (subst (K x e) (sym b) k)

  pub across-keep : (K : Side → EndReading → End → EndReading → Type 0) (side : Side) (ev : Event) (w : World) (r : Reading) (output : Output) → IsNestedWorld schema w → (m : SideMove schema side w r ev output)
      → K (other side) (other_of side r) output.end (after_whats schema r.lines m.whats (end_reading_of side r)) → K side (after_whats schema r.lines m.whats (end_reading_of side r)) (end_of (other side) w) (other_of side r)
      → AcrossEnds K (world_after (record { side = side; event = ev }) output w) (read_from schema r output.lines)
  across-keep K Parent ev w r output n m mine theirs =
      let own : (read_from schema r (map (line_at Parent) m.whats)).parent ≡ after_whats schema r.lines m.whats r.parent = read-own schema Parent m.whats r in
      let others : (read_from schema r (map (line_at Parent) m.whats)).child ≡ r.child = read-other schema Parent m.whats r in
      subst (λ (ls : List Line). AcrossEnds K (world_after (record { side = Parent; event = ev }) output w) (read_from schema r ls)) (sym (side-lines w.parent Parent output.lines m.whats n.parent m.lines)) (
        both-at (K Child) others own mine,
        subst (λ (x : EndReading). K Parent x w.child (read_from schema r (map (line_at Parent) m.whats)).child) (sym own) (subst (K Parent (after_whats schema r.lines m.whats r.parent) w.child) (sym others) theirs),
      )
  across-keep K Child ev w r output n m mine theirs =
      let own : (read_from schema r (map (line_at Child) m.whats)).child ≡ after_whats schema r.lines m.whats r.child = read-own schema Child m.whats r in
      let others : (read_from schema r (map (line_at Child) m.whats)).parent ≡ r.parent = read-other schema Child m.whats r in
      subst (λ (ls : List Line). AcrossEnds K (world_after (record { side = Child; event = ev }) output w) (read_from schema r ls)) (sym (side-lines w.child Child output.lines m.whats n.child m.lines)) (
        subst (λ (x : EndReading). K Child x w.parent (read_from schema r (map (line_at Child) m.whats)).parent) (sym own) (subst (K Child (after_whats schema r.lines m.whats r.child) w.parent) (sym others) theirs),
        both-at (K Parent) others own mine,
      )

  -- and tests of an end's lines
  pub ends-pass : (test : EndReading → EndReading → What → Bool) (side : Side) (ev : Event) (w : World) (r : Reading) (output : Output) (following : List Line) → IsNestedWorld schema w → (m : SideMove schema side w r ev output)
      → EndLinesPass schema (λ own said. test own (other_of side r) said ≡ true) r.lines m.whats (end_reading_of side r) → LinesPass schema (test_at test) r output.lines following
  ends-pass test side ev w r output following n m p =
      subst (λ (ls : List Line). LinesPass schema (test_at test) r ls following) (sym (side-lines (end_of side w) side output.lines m.whats (end-side schema side w n) m.lines)) (pass-lines schema test side m.whats r following p)

-- Runs

pub reached-next : (schema : Schema) (move : Move) (w : World) (r : Reading) → IsReached schema w r → IsReached schema (happens schema w move).world (read_from schema r (happens schema w move).lines)
reached-next schema move w r h =
    let before : RunState = run schema h.front (opening h.top) in
    let m : MovesFollow schema h.front (move ∷ []) (opening h.top) = moves_go_one_after_another schema h.front (move ∷ []) (opening h.top) in
    let lines : history_of schema h.top (h.front ++ move ∷ []) ≡ before.lines ++ (happens schema w move).lines = m.lines ∙ ap (λ (ls : List Line). before.lines ++ ls) (append-nil (happens schema before.world move).lines ∙ ap (λ (x : World). (happens schema x move).lines) h.world) in
    record {
      top = h.top;
      front = h.front ++ move ∷ [];
      world = m.world ∙ ap (λ (x : World). (happens schema x move).world) h.world;
      reading = ap (read_from schema opening_reading) lines ∙ (read-append schema before.lines (happens schema w move).lines opening_reading ∙ ap (λ (x : Reading). read_from schema x (happens schema w move).lines) h.reading);
    }

module _ (schema : Schema) (sound : IsSound schema) (Kept : World → Reading → Type 0) (test : Reading → Line → List Line → Bool) (keeps : EveryMoveKeeps schema Kept test) where
  move-keeps : (move : Move) (w : World) (r : Reading) (found : Option Output) → output_of schema w move ≡ found → IsReached schema w r → IsNestedWorld schema w → ReadingIs schema w r → Kept w r → RunKeeps schema Kept test (passed_by found move w).world r (passed_by found move w).lines
  move-keeps move w r None is reached n h k = record { reads = h; kept = k; passes = λ following. tt }
  move-keeps move w r (Some output) is reached n h k =
      let m : SideMove schema move.side w r move.event output = side-move schema (sound_schemas_have_sound_rows schema sound) move.side move.event w r output n h is in
      let after : ReadingIs schema (world_after move output w) (read_from schema r output.lines) = read-following schema move.side move.event w r output n h m in
      let a : MoveKeeps schema Kept test move w r output = keeps move w r output (record { reached = reached; step = is; nested = n; reads = h; ends = m; reads_after = after }) k in
      record { reads = after; kept = a.kept; passes = a.passes }

  run-keeps : (moves : List Move) (w : World) (r : Reading) → IsReached schema w r → IsNestedWorld schema w → ReadingIs schema w r → Kept w r → RunKeeps schema Kept test (run schema moves w).world r (run schema moves w).lines
  run-keeps [] w r reached n h k = record { reads = h; kept = k; passes = λ following. tt }
  run-keeps (move ∷ moves) w r reached n h k =
      let next : RunState = happens schema w move in
      let rest : RunState = run schema moves next.world in
      let a : RunKeeps schema Kept test next.world r next.lines = move-keeps move w r (output_of schema w move) refl reached n h k in
      let b : RunKeeps schema Kept test rest.world (read_from schema r next.lines) rest.lines = run-keeps moves next.world (read_from schema r next.lines) (reached-next schema move w r reached) (nested_worlds_stay.stays schema sound move w n) a.reads a.kept in
      record {
        reads = subst (ReadingIs schema rest.world) (sym (read-append schema next.lines rest.lines r)) b.reads;
        kept = subst (Kept rest.world) (sym (read-append schema next.lines rest.lines r)) b.kept;
        passes = λ following. pass-append schema test r next.lines rest.lines following (a.passes (rest.lines ++ following)) (b.passes following);
      }

  opening-read : (top : ℕ) → ReadingIs schema (opening top) opening_reading
  opening-read top = record {
    parent = refl;
    ends = record {
      sides = refl;
      outlined = record { state = refl; ended = refl; over = refl; stack = refl; made = refl; ordinary = λ is. tt };
      their_outlined = record { state = refl; ended = refl; over = refl; stack = refl; made = refl; ordinary = λ is. tt };
      origins = record { entries = tt; names = tt; arrived = tt; outbox = tt };
      their_origins = record { entries = tt; names = tt; arrived = tt; outbox = tt };
      comes = record { got = []; kinds = refl; sent = record { lost = []; whole = refl; kept = λ o. refl; numbers = refl; syncs = tt } };
      goes = record { got = []; kinds = refl; sent = record { lost = []; whole = refl; kept = λ o. refl; numbers = refl; syncs = tt } };
      replies = tt;
      their_replies = tt;
    };
  }

  -- What every move keeps, and is true at the opening, is true in every run, whose lines pass.
  pub every-run : (top : ℕ) (moves : List Move) → Kept (opening top) opening_reading → RunKeeps schema Kept test (run schema moves (opening top)).world opening_reading (history_of schema top moves)
  every-run top moves k = run-keeps moves (opening top) opening_reading (record { top = top; front = []; world = refl; reading = refl }) (nested_worlds_stay.opening schema top) (opening-read top) k

-- Moments: what is read before each event passes a test, where all that is kept does

abbrev pub moment_at : (Reading → Bool) → Reading → Line → List Line → Bool
moment_at moment reading line following = if is_effect line.what then true else moment reading

effects-pass : (schema : Schema) (moment : Reading → Bool) (side : Side) (lines : List Line) (r : Reading) (following : List Line) → AllByRecursion (IsEffectOf side) lines → LinesPass schema (moment_at moment) r lines following
effects-pass schema moment side [] r following a = tt
effects-pass schema moment side (l ∷ ls) r following a = (ap (λ (b : Bool). if b then true else moment r) a.0.1, effects-pass schema moment side ls (after schema r l) following a.1)

event-passes : (schema : Schema) (moment : Reading → Bool) (side : Side) (lines : List Line) (r : Reading) (following : List Line) → IsEventWithEffects side lines → moment r ≡ true → LinesPass schema (moment_at moment) r lines following
event-passes schema moment side [] r following a is = absurd a
event-passes schema moment side (l ∷ ls) r following a is = (ap (λ (b : Bool). if b then true else moment r) a.0.1 ∙ is, effects-pass schema moment side ls (after schema r l) following a.1)

pub moments-pass : (schema : Schema) (moment : Reading → Bool) (move : Move) (w : World) (r : Reading) (output : Output) (following : List Line) → output_of schema w move ≡ Some output → moment r ≡ true → LinesPass schema (moment_at moment) r output.lines following
moments-pass schema moment move w r output following is passes =
    event-passes schema moment (end_of move.side w).side output.lines r following (events_have_their_lines schema (end_of move.side w) (link_to move.side w) move.event output is).lines passes
