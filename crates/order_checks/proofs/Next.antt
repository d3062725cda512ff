-- In readable lines the effects that come before the next event are those of the end of the line before them.
use Rattle.std.proofs.Common.{◌≡◌, Bool, true, false, not, cond, if◌then◌else◌, IsTrue, List, [], ◌∷◌, ◌++◌, map, Option, Some, None, refl, sym, ap, subst, ◌∙◌, append_assoc}
use Rattle.std.specs.List.{list_all, take_while}
use Rattle.std.proofs.lemmas.Bool.{and_from, and_parts, not-true}
use Rattle.std.proofs.lemmas.List.Sums.{take_while-cons}
use Rattle.ipdl_base.specs.declared.kinds.Side.{Side}
use Rattle.ipdl_base.specs.declared.kinds.Side.TheVariants as side
use Rattle.ipdl_base.specs.declared.line.Line.{Line}
use Rattle.ipdl_base.specs.declared.line.What.{What}
use Rattle.ipdl_base.specs.declared.schema.Schema.{Schema}
use Rattle.ipdl_base.specs.Lines.{is_effect, same_side}
use Rattle.history_reading.specs.Holds.{IsReadable, is_of_event, is_readable, is_readable_what}
use Rattle.history_reading.specs.Reading.{Reading, after_at, end_reading_of, read}
use Rattle.law_statements.specs.Said.{is_moment, line_of}
use Rattle.law_statements.proofs.Along.{read-more, readable-places}
use Rattle.order_statements.specs.Shape.{HasEffects}
use Rattle.order_checks.specs.EffectTests.{effects_next, is_effect_line, whats}

next-cons : (line : Line) (following : List Line) → effects_next (line ∷ following) ≡ (if is_effect line.what then line.what ∷ effects_next following else [])
unfolding is_effect_line
next-cons line following = ap whats (take_while-cons is_effect_line line following) ∙ by (is_effect line.what)
  where
    by : (b : Bool) → whats (cond b (line ∷ take_while is_effect_line following) []) ≡ (if b then line.what ∷ whats (take_while is_effect_line following) else [])
    by true = refl
    by false = refl

-- before a moment there is no effect
none-next : (later : List Line) → IsTrue (is_moment later) → effects_next later ≡ []
none-next [] moment = refl
none-next (line ∷ later) moment = next-cons line later ∙ ap (λ (b : Bool). if b then line.what ∷ effects_next later else []) (not-true (is_effect line.what) moment)

all-next : (end : Side) (effects : List What) (later : List Line) → IsTrue (list_all is_effect effects) → IsTrue (is_moment later) → effects_next (map (line_of end) effects ++ later) ≡ effects
all-next end [] later are moment = none-next later moment
all-next end (w ∷ effects) later are moment =
    let both : IsTrue (is_effect w) × IsTrue (list_all is_effect effects) = and_parts (is_effect w) (list_all is_effect effects) are in
    next-cons (line_of end w) (map (line_of end) effects ++ later)
    ∙ ap (λ (b : Bool). if b then w ∷ effects_next (map (line_of end) effects ++ later) else []) both.0
    ∙ ap (λ (ws : List What). w ∷ ws) (all-next end effects later both.1 moment)

-- what an end prints after a place are these effects
pub next-are : (end : Side) (effects : List What) (following : List Line) → HasEffects end effects following → effects_next following ≡ effects
next-are end effects following h = ap effects_next h.split ∙ all-next end effects h.later h.are_effects h.moment

-- The end of the last event

last-more : (schema : Schema) (front : List Line) (line : Line) → (read schema (front ++ line ∷ [])).last ≡ (if is_effect line.what then (read schema front).last else Some line.side)
last-more schema front line = ap (λ (r : Reading). r.last) (read-more schema front line) ∙ by line.side
  where
    by : (s : Side) → (after_at schema s line.what (read schema front)).last ≡ (if is_effect line.what then (read schema front).last else Some s)
    by side.Parent = refl
    by side.Child = refl

pub side-is : (s end : Side) → same_side s end ≡ true → s ≡ end
side-is side.Parent side.Parent e = refl
side-is side.Child side.Child e = refl
side-is side.Parent side.Child e = cc
side-is side.Child side.Parent e = cc

event-is : (end : Side) (last : Option Side) → is_of_event end last ≡ true → last ≡ Some end
event-is end None e = cc
event-is end (Some s) e = ap (λ (x : Side). Some x) (side-is s end e)

effect-of : (schema : Schema) (front : List Line) (line : Line) → IsTrue (is_readable schema (read schema front) line) → is_effect line.what ≡ true → (read schema front).last ≡ Some line.side
unfolding is_readable
effect-of schema front line readable is =
    event-is line.side (read schema front).last
    (sym (ap (λ (b : Bool). if b then is_of_event line.side (read schema front).last else true) is)
    ∙ (and_parts (if is_effect line.what then is_of_event line.side (read schema front).last else true) (is_readable_what schema (end_reading_of line.side (read schema front)).stack line.what) readable).0)

-- a line of an end leaves the last event at that end
last-here : (schema : Schema) (front : List Line) (line : Line) → IsTrue (is_readable schema (read schema front) line) → (read schema (front ++ line ∷ [])).last ≡ Some line.side
last-here schema front line readable = last-more schema front line ∙ by (is_effect line.what) refl
  where
    by : (b : Bool) → is_effect line.what ≡ b → (if b then (read schema front).last else Some line.side) ≡ Some line.side
    by true is = effect-of schema front line readable is
    by false is = refl

has-from : (schema : Schema) (lines : List Line) → ((before : List Line) (line : Line) (following : List Line) → lines ≡ before ++ line ∷ following → IsTrue (is_readable schema (read schema before) line))
    → (end : Side) (front following : List Line) → lines ≡ front ++ following → (read schema front).last ≡ Some end → HasEffects end (effects_next following) following
has-from schema lines readable end front [] e last = record { later = []; split = refl; are_effects = refl; moment = refl }
has-from schema lines readable end front (line ∷ following) e last =
    by (is_effect line.what) refl
    (has-from schema lines readable end (front ++ line ∷ []) following (e ∙ sym (append_assoc front (line ∷ []) following)))
  where
    here : IsTrue (is_readable schema (read schema front) line)
    here = readable front line following e

    by : (b : Bool) → is_effect line.what ≡ b → ((read schema (front ++ line ∷ [])).last ≡ Some end → HasEffects end (effects_next following) following) → HasEffects end (effects_next (line ∷ following)) (line ∷ following)
    by false is rest = subst (λ (ws : List What). HasEffects end ws (line ∷ following)) (sym (none-next (line ∷ following) (ap not is))) (record { later = line ∷ following; split = refl; are_effects = refl; moment = ap not is })
    by true is rest =
        let same : line.side ≡ end = cc (sym (effect-of schema front line here is) ∙ last) in
        let more : HasEffects end (effects_next following) following = rest (last-here schema front line here ∙ ap (λ (s : Side). Some s) same) in
        subst (λ (ws : List What). HasEffects end ws (line ∷ following)) (sym (next-cons line following ∙ ap (λ (b : Bool). if b then line.what ∷ effects_next following else []) is))
        (record {
          later = more.later;
          split = ap (λ (s : Side). record { side = s; what = line.what } ∷ following) same ∙ ap (λ (ls : List Line). line_of end line.what ∷ ls) more.split;
          are_effects = and_from (is_effect line.what) (list_all is_effect (effects_next following)) is more.are_effects;
          moment = more.moment;
        })

-- after a line of an end come its effects
pub has-next : (schema : Schema) (lines : List Line) → IsReadable schema lines → (end : Side) (w : What) (before following : List Line) → lines ≡ before ++ line_of end w ∷ following → HasEffects end (effects_next following) following
has-next schema lines readable end w before following e =
    has-from schema lines (readable-places schema lines readable) end (before ++ line_of end w ∷ []) following (e ∙ sym (append_assoc before (line_of end w ∷ []) following))
    (last-here schema before (line_of end w) (readable-places schema lines readable before (line_of end w) following e))
