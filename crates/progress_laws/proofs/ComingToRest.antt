-- What happens by itself comes to an end, and then no end waits.
use Rattle.std.proofs.Common.{◌≡◌, inl, inr, ℕ, zero, suc, ◌+◌, ◌≤◌, Bool, true, false, not, ◌&&◌, List, [], ◌∷◌, ◌++◌, length, None, refl, ap, subst, ◌∙◌, arith}
use Rattle.std.proofs.lemmas.Bool.{and_cases, not-false}
use Rattle.ipdl_base.specs.declared.kinds.Side.{Side}
use Rattle.ipdl_base.specs.declared.kinds.Side.TheVariants.{Parent, Child}
use Rattle.ipdl_base.specs.declared.schema.Schema.{Schema}
use Rattle.ipdl_base.specs.Sound.{IsSound}
use Rattle.channel_model.specs.Ends.{World, opening}
use Rattle.channel_model.specs.Events.{Event, Move}
use Rattle.channel_model.specs.Events as event
use Rattle.channel_model.specs.Runs.{happens, run, is_possible, is_still, is_still_at}
use Rattle.channel_model.proofs.Histories.{moves_go_one_after_another}
use Rattle.channel_laws.specs.Laws.{world_of}
use Rattle.channel_laws.specs.NestedWorlds.{IsNestedWorld}
use Rattle.channel_laws.proofs.EveryRun.{nested_worlds_stay, nesting_in_every_run}
use Rattle.channel_laws.proofs.StillWorlds.{still_histories_leave_no_end_waiting}
use Rattle.progress_laws.specs.Acts.{happens_by_itself}
use Rattle.progress_laws.specs.Progress.{HappenByThemselves, ComesToRest, WorldsComeToRest}
use Rattle.progress_laws.specs.Weights.{weight}
use Rattle.progress_laws.proofs.WeighedRuns.{itself-falls}

-- Where a world is not still, something can happen by itself

-- Some move happens by itself, and is possible.
pub record CanHappen (schema : Schema) (w : World) : Type 0 where
  pub move : Move
  pub itself : happens_by_itself move.event ≡ true
  pub possible : is_possible schema w move.side move.event ≡ true

module _ (schema : Schema) (w : World) where
  move-can : (side : Side) (ev : Event) → happens_by_itself ev ≡ true → is_possible schema w side ev ≡ true → CanHappen schema w
  move-can side ev itself possible = record { move = record { side = side; event = ev }; itself = itself; possible = possible }

  side-can : (side : Side) → is_still_at schema w side ≡ false → CanHappen schema w
  side-can side h =
      let d : Bool = is_possible schema w side event.deliver in
      let t : Bool = is_possible schema w side event.take in
      let r : Bool = is_possible schema w side (event.return None) in
      let s : Bool = is_possible schema w side event.resume in
      let f : Bool = is_possible schema w side event.flush in
      elim (and_cases (not d) (not t && (not r && (not s && not f))) h) [
        | inl e ↦ move-can side event.deliver refl (not-false d e)
        | inr h1 ↦ (elim (and_cases (not t) (not r && (not s && not f)) h1) [
          | inl e ↦ move-can side event.take refl (not-false t e)
          | inr h2 ↦ (elim (and_cases (not r) (not s && not f) h2) [
            | inl e ↦ move-can side (event.return None) refl (not-false r e)
            | inr h3 ↦ (elim (and_cases (not s) (not f) h3) [
              | inl e ↦ move-can side event.resume refl (not-false s e)
              | inr e ↦ move-can side event.flush refl (not-false f e)
            ])
          ])
        ])
      ]

  pub can-happen : is_still schema w ≡ false → CanHappen schema w
  can-happen h = elim (and_cases (is_still_at schema w Parent) (is_still_at schema w Child) h) [
    | inl e ↦ side-can Parent e
    | inr e ↦ side-can Child e
  ]

-- Moves that happen by themselves

-- They lead from a world to a still one.
record Settles (schema : Schema) (w : World) : Type 0 where
  more : List Move
  happen : HappenByThemselves schema more w
  still : is_still schema (run schema more w).world ≡ true

happen-append : (schema : Schema) (front back : List Move) (w : World) → HappenByThemselves schema front w → HappenByThemselves schema back (run schema front w).world → HappenByThemselves schema (front ++ back) w
happen-append schema [] back w h k = k
happen-append schema (move ∷ front) back w h k = (h.0, h.1, happen-append schema front back (happens schema w move).world h.2 k)

module _ (schema : Schema) (sound : IsSound schema) where
  few : (moves : List Move) (w : World) → IsNestedWorld schema w → HappenByThemselves schema moves w → length moves + weight (run schema moves w).world ≤ weight w
  few [] w nested h = omega arith
  few (move ∷ moves) w nested h =
      let a = itself-falls schema sound w nested move h.0 h.1 in
      let b = few moves (happens schema w move).world (nested_worlds_stay.stays schema sound move w nested) h.2 in
      omega (arith, a, b)

  -- a world is still, or a step is possible
  still-or : (w : World) (b : Bool) → is_still schema w ≡ b → (is_still schema w ≡ false → Settles schema w) → Settles schema w
  still-or w true is go = record { more = []; happen = tt; still = is }
  still-or w false is go = go is

  settles : (n : ℕ) (w : World) → IsNestedWorld schema w → weight w ≤ n → Settles schema w
  settles zero w nested low = still-or w (is_still schema w) refl (λ is. let c = can-happen schema w is in let a = itself-falls schema sound w nested c.move c.itself c.possible in absurd (omega (arith, a, low)))
  settles (suc n) w nested low = still-or w (is_still schema w) refl (λ is.
      let c = can-happen schema w is in
      let a = itself-falls schema sound w nested c.move c.itself c.possible in
      let rest = settles n (happens schema w c.move).world (nested_worlds_stay.stays schema sound c.move w nested) (omega (arith, a, low)) in
      record { more = c.move ∷ rest.more; happen = (c.itself, c.possible, rest.happen); still = rest.still })

  world-few : (top : ℕ) (before moves : List Move) → HappenByThemselves schema moves (world_of schema top before) → length moves + weight (world_of schema top (before ++ moves)) ≤ weight (world_of schema top before)
  world-few top before moves h =
      let a = few moves (world_of schema top before) (nesting_in_every_run schema sound top before) h in
      let k : weight (world_of schema top (before ++ moves)) ≡ weight (run schema moves (world_of schema top before)).world = ap weight (moves_go_one_after_another schema before moves (opening top)).world in
      omega (arith, a, k)

  world-rest : (top : ℕ) (before moves : List Move) → HappenByThemselves schema moves (world_of schema top before) → ComesToRest schema top before moves
  world-rest top before moves h =
      let w : World = world_of schema top before in
      let next : World = (run schema moves w).world in
      let after : world_of schema top (before ++ moves) ≡ next = (moves_go_one_after_another schema before moves (opening top)).world in
      let nested : IsNestedWorld schema next = subst (IsNestedWorld schema) after (nesting_in_every_run schema sound top (before ++ moves)) in
      let s : Settles schema next = settles (weight next) next nested (omega arith) in
      let all : HappenByThemselves schema (moves ++ s.more) w = happen-append schema moves s.more w h s.happen in
      let last : world_of schema top (before ++ (moves ++ s.more)) ≡ (run schema s.more next).world = (moves_go_one_after_another schema before (moves ++ s.more) (opening top)).world ∙ (moves_go_one_after_another schema moves s.more w).world in
      let still : is_still schema (world_of schema top (before ++ (moves ++ s.more))) ≡ true = ap (is_still schema) last ∙ s.still in
      let b = few (moves ++ s.more) w (nesting_in_every_run schema sound top before) all in
      record {
        more = s.more;
        happen = all;
        few = omega (arith, b);
        still = still;
        answered = λ side. still_histories_leave_no_end_waiting.answered schema sound top (before ++ (moves ++ s.more)) side still;
        ended = λ side seq stands. still_histories_leave_no_end_waiting.ended schema sound top before (moves ++ s.more) side seq stands still;
      }

pub worlds_come_to_rest : WorldsComeToRest
worlds_come_to_rest = record { few = world-few; rest = world-rest }
