-- The text of a history decides it, line by line.
use Rattle.std.proofs.Common.{◌≡◌, ℕ, Bool, true, false, if◌then◌else◌, List, [], ◌∷◌, ◌++◌, codes, drop, Option, Some, None, refl, sym, ap, subst, ◌∙◌, append_assoc, true≢false}
use Rattle.std.specs.Bool.{MatchBool}
use Rattle.std.proofs.lemmas.Option.{same_Some}
use Rattle.ipdl_base.specs.declared.kinds.Side.{Side}
use Rattle.ipdl_base.specs.declared.kinds.Side.TheVariants as sides
use Rattle.ipdl_base.specs.declared.line.Line.{Line}
use Rattle.ipdl_base.specs.declared.line.What.{What}
use Rattle.ipdl_base.specs.declared.schema.Schema.{Schema}
use Rattle.ipdl_base.specs.Lines.{is_effect}
use Rattle.ipdl_base.specs.Sound.{IsSound}
use Rattle.history.specs.Messages.{message_of_number}
use Rattle.history.specs.Text.{line_begin, line_text, lines_text, returns_named, what_text}
use Rattle.history.specs.Words.{side_word}
use Rattle.channel_model.specs.EventLines.{EffectsFollow}
use Rattle.channel_model.specs.Events.{Move}
use Rattle.channel_model.specs.Runs.{history_of}
use Rattle.channel_model.proofs.Follow.{effects_follow_events}
use Rattle.channel_laws.specs.PrintedNames.{finds_names}
use Rattle.channel_laws.proofs.PrintedNames.{lines_name_what_is_printed}
use Rattle.history_texts.proofs.Told.{three}
use Rattle.history_texts.proofs.Values.{differ}
use Rattle.history_texts.proofs.Whats.{whats-decide}
use Rattle.history_texts.specs.Laws.{TextsTellHistories}
use Rattle.history_texts.specs.Typed.{AreTyped, SaysTyped}

-- How a line begins

abbrev begin_by : Bool → Side → List ℕ
begin_by effect side = if effect then codes "  " else side_word side ++ codes " "

-- the beginning of a line shows whether it is an effect, and otherwise whose event it is
begins-decide : (a b : Bool) (s t : Side) (x y : List ℕ) → begin_by a s ++ x ≡ begin_by b t ++ y → (a ≡ b) × (a ≡ false → s ≡ t) × (x ≡ y)
begins-decide true true s t x y e = (refl, λ h. absurd (true≢false h), ap (drop 2) e)
begins-decide true false s sides.Parent x y e = absurd (differ {a = 32} {b = 112} refl e)
begins-decide true false s sides.Child x y e = absurd (differ {a = 32} {b = 99} refl e)
begins-decide false true sides.Parent t x y e = absurd (differ {a = 112} {b = 32} refl e)
begins-decide false true sides.Child t x y e = absurd (differ {a = 99} {b = 32} refl e)
begins-decide false false sides.Parent sides.Parent x y e = (refl, λ h. refl, ap (drop 7) e)
begins-decide false false sides.Parent sides.Child x y e = absurd (differ {a = 112} {b = 99} refl e)
begins-decide false false sides.Child sides.Parent x y e = absurd (differ {a = 99} {b = 112} refl e)
begins-decide false false sides.Child sides.Child x y e = (refl, λ h. refl, ap (drop 6) e)

begins-some : (a : Bool) (s : Side) (x : List ℕ) → [] ≡ begin_by a s ++ x → ⊥
begins-some true s x e = cc
begins-some false sides.Parent x e = cc
begins-some false sides.Child x e = cc

module _ (schema : Schema) (sound : IsSound schema) where
  -- the messages that lines name, after others, are found
  abbrev AreNamed : List Line → List Line → Type 0
  AreNamed before [] = Unit {0}
  AreNamed before (line ∷ rest) = (finds_names schema (message_of_number line.side before) line.what ≡ true) × AreNamed (before ++ line ∷ []) rest

  -- the text of a line with what follows, in parts
  parts : (before : List Line) (line : Line) (rest : List ℕ) →
      line_text schema before line ++ rest ≡ begin_by (is_effect line.what) line.side ++ (what_text schema (λ n. returns_named schema (message_of_number line.side before n)) line.what ++ (10 ∷ rest))
  parts before line rest = three (line_begin line) (what_text schema (λ n. returns_named schema (message_of_number line.side before n)) line.what) (codes "\n") rest

  -- whose line it is, by its event or by the line before
  sides-decide : (effect : Bool) (last : Option Side) (s t : Side) → MatchBool effect (last ≡ Some s) (Unit {0}) → MatchBool effect (last ≡ Some t) (Unit {0}) → (effect ≡ false → s ≡ t) → s ≡ t
  sides-decide true last s t a b c = same_Some s t (sym a ∙ b)
  sides-decide false last s t a b c = c refl

  abbrev Says : List Line → Side → What → Type 0
  Says before side w = SaysTyped schema (λ n. returns_named schema (message_of_number side before n)) w × (finds_names schema (message_of_number side before) w ≡ true)

  -- two lines after the same lines
  line-decides : (before : List Line) (last : Option Side) (a b : Line) (r q : List ℕ) → MatchBool (is_effect a.what) (last ≡ Some a.side) (Unit {0}) → MatchBool (is_effect b.what) (last ≡ Some b.side) (Unit {0})
      → Says before a.side a.what → Says before b.side b.what → line_text schema before a ++ r ≡ line_text schema before b ++ q → (a ≡ b) × (r ≡ q)
  line-decides before last a b r q f g s t e =
      let d = begins-decide (is_effect a.what) (is_effect b.what) a.side b.side _ _ (sym (parts before a r) ∙ e ∙ parts before b q) in
      let side : a.side ≡ b.side = sides-decide (is_effect a.what) last a.side b.side f (subst (λ (x : Bool). MatchBool x (last ≡ Some b.side) (Unit {0})) (sym d.0) g) d.1 in
      let w = whats-decide schema sound (message_of_number a.side before) a.what b.what r q s (subst (λ (x : Side). Says before x b.what) (sym side) t)
      (d.2 ∙ ap (λ (x : Side). what_text schema (λ n. returns_named schema (message_of_number x before n)) b.what ++ (10 ∷ q)) (sym side)) in
      ((λ z. record { side = side z; what = w.0 z }), w.1)

  line-some : (before : List Line) (line : Line) (rest : List ℕ) → [] ≡ line_text schema before line ++ rest → ⊥
  line-some before line rest e = begins-some (is_effect line.what) line.side _ (e ∙ parts before line rest)

  lines-decide : (before : List Line) (last : Option Side) (xs ys : List Line) → EffectsFollow last xs → EffectsFollow last ys → AreTyped schema before xs → AreTyped schema before ys → AreNamed before xs → AreNamed before ys
      → lines_text schema before xs ≡ lines_text schema before ys → xs ≡ ys
  lines-decide before last [] [] f g s t n m e = refl
  lines-decide before last [] (y ∷ ys) f g s t n m e = absurd (line-some before y (lines_text schema (before ++ y ∷ []) ys) e)
  lines-decide before last (x ∷ xs) [] f g s t n m e = absurd (line-some before x (lines_text schema (before ++ x ∷ []) xs) (sym e))
  lines-decide before last (x ∷ xs) (y ∷ ys) f g s t n m e =
      let d = line-decides before last x y (lines_text schema (before ++ x ∷ []) xs) (lines_text schema (before ++ y ∷ []) ys) f.0 g.0 (s.0, n.0) (t.0, m.0) e in
      let back : y ≡ x = sym d.0 in
      let rest : xs ≡ ys = lines-decide (before ++ x ∷ []) (Some x.side) xs ys f.1 (subst (λ (l : Line). EffectsFollow (Some l.side) ys) back g.1) s.1
      (subst (λ (l : Line). AreTyped schema (before ++ l ∷ []) ys) back t.1) n.1 (subst (λ (l : Line). AreNamed (before ++ l ∷ []) ys) back m.1)
      (d.1 ∙ ap (λ (l : Line). lines_text schema (before ++ l ∷ []) ys) back) in
      (λ z. d.0 z ∷ rest z)

  -- the lines of a legal history find what they name
  history-named : (top : ℕ) (moves : List Move) (before lines : List Line) → history_of schema top moves ≡ before ++ lines → AreNamed before lines
  history-named top moves before [] is = tt
  history-named top moves before (line ∷ rest) is =
      (lines_name_what_is_printed schema sound top moves before line rest is, history-named top moves (before ++ line ∷ []) rest (is ∙ sym (append_assoc before (line ∷ []) rest)))

pub texts_tell_histories : TextsTellHistories
texts_tell_histories schema top other lines more sound h k s t e =
    lines-decide schema sound [] None lines more (subst (EffectsFollow None) h.1 (effects_follow_events schema top h.0)) (subst (EffectsFollow None) k.1 (effects_follow_events schema other k.0)) s t
    (history-named schema sound top h.0 [] lines h.1) (history-named schema sound other k.0 [] more k.1) e
