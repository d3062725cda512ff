-- Worked texts that are no content: an element that does not close, and a mark as it is.
use Rattle.std.proofs.Common.{◌≡◌, ℕ, ◌==◌, Bool, true, false, ◌||◌, List, [], ◌∷◌, ◌++◌, refl, sym, ap, ◌∙◌, true≢false}
use Rattle.std.specs.Prelude.{codes}
use Rattle.std.specs.List.{list_any}
use Rattle.std.proofs.lemmas.Bool.{eqb-true}
use Rattle.charts.specs.Documents.{IsContent, nothing, character, entity, empty, around, less, greater, ampersand, attributes_text, element_around, empty_element, is_character}
use Rattle.charts.specs.Escapes.{shown}

abbrev is_less : ℕ → Bool
is_less byte = byte == 60

abbrev is_slash : ℕ → Bool
is_slash byte = byte == 47

or_right : (a b : Bool) → b ≡ true → a || b ≡ true
or_right true b e = refl
or_right false b e = e

-- what one of two texts has, both have together
any_left : (test : ℕ → Bool) (one other : List ℕ) → list_any test one ≡ true → list_any test (one ++ other) ≡ true
any_left test [] other h = absurd (true≢false (sym h))
any_left test (byte ∷ rest) other h = by (test byte) h (any_left test rest other)
  where
    by : (b : Bool) → b || list_any test rest ≡ true → (list_any test rest ≡ true → list_any test (rest ++ other) ≡ true) → b || list_any test (rest ++ other) ≡ true
    by true e more = refl
    by false e more = more e

any_right : (test : ℕ → Bool) (one other : List ℕ) → list_any test other ≡ true → list_any test (one ++ other) ≡ true
any_right test [] other h = h
any_right test (byte ∷ rest) other h = or_right (test byte) _ (any_right test rest other h)

-- content that has a `<` has a slash, since the element closes
closes : {text : List ℕ} → IsContent text → list_any is_less text ≡ true → list_any is_slash text ≡ true
closes nothing h = absurd (true≢false (sym h))
closes (character byte rest is p) h = by (byte == 60) refl h (closes p)
  where
    by : (b : Bool) → (byte == 60) ≡ b → b || list_any is_less rest ≡ true → (list_any is_less rest ≡ true → list_any is_slash rest ≡ true) → (byte == 47) || list_any is_slash rest ≡ true
    by true e g more = absurd (true≢false (sym is ∙ ap is_character (eqb-true byte 60 e)))
    by false e g more = or_right (byte == 47) _ (more g)
closes (entity _ rest less p) h = closes p h
closes (entity _ rest greater p) h = closes p h
closes (entity _ rest ampersand p) h = closes p h
closes (empty name attributes rest named are p) h =
    any_left is_slash (empty_element name attributes) rest (any_right is_slash (codes "<" ++ name ++ attributes_text attributes) (codes "/>") refl)
closes (around name attributes content rest named are inner p) h =
    let begin : List ℕ = codes "<" ++ name ++ attributes_text attributes ++ codes ">" ++ content in
    any_left is_slash (element_around name attributes content) rest
    (any_left is_slash (begin ++ codes "</" ++ name) (codes ">") (any_left is_slash (begin ++ codes "</") name (any_right is_slash begin (codes "</") refl)))

-- an element that does not close is no content
pub unclosed : ¬ IsContent (codes "<b>words")
unclosed p = true≢false (sym (closes p refl))

-- a mark as it is is no content
pub mark_as_it_is : ¬ IsContent (codes "1 < 2")
mark_as_it_is p = true≢false (sym (closes p refl))

-- the marks of a text, by their names
pub marks_are_shown : shown (codes "<&>") ≡ codes "&lt;&amp;&gt;"
marks_are_shown = refl
