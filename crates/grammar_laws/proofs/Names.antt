-- Names and attributes.
use Rattle.std.proofs.Common.{◌≡◌, ℕ, true, ◌&&◌, List, [], ◌∷◌, Option, Some, None, codes, refl, sym, ap, ◌∙◌}
use Rattle.std.proofs.Math.Bool.{not}
use Rattle.ipdl_base.specs.declared.finding.Place.{Place}
use Rattle.ipdl_base.specs.declared.token.TokenKind.TheVariants as kind
use Rattle.ipdl_base.specs.Words.{joined}
use Rattle.ipdl_syntax.specs.declared.tree.Attribute.{Attribute}
use Rattle.ipdl_syntax.specs.Parts.{Part, ◌⨾◌, word}
use Rattle.ipdl_syntax.specs.Grammar.{words, qualified, argument, named, whole_name, declared, value, attribute, more_attributes, attributes, foreign_name}
use Rattle.grammar_laws.proofs.Heads.{a_head, Test, always, is_word, is_mark, of_mark, both_true}
use Rattle.grammar_laws.proofs.Settling.{Settles, Begins, begins_nothing, begins_token, begins_mark, begins_both, begins_first, told, nothing_settles, token_settles, mark_settles, word_settles, identifier_settles, both_settle, next_settle, none_some, some_none}

-- what follows the words of a name
abbrev pub past_words : Test
past_words h = not (is_mark (codes "::") h)

-- what follows a name with its argument
abbrev pub past_name : Test
past_name h = past_words h && not (is_mark (codes "<") h)

-- the words after `::` are the same
pub words_settle : (ws vs : List (List ℕ)) → Settles (words ws) (words vs) past_words (ws ≡ vs)
words_settle [] [] = nothing_settles refl
words_settle [] (v ∷ vs) = none_some (begins_first (begins_mark refl))
words_settle (w ∷ ws) [] = some_none (begins_first (begins_mark refl))
words_settle (w ∷ ws) (v ∷ vs) = told (λ e. cc) (next_settle mark_settles (next_settle word_settles (words_settle ws vs)))

-- names of the same words are the same
same_joined : (name other first first' : List ℕ) (ws vs : List (List ℕ)) → name ≡ joined (first ∷ ws) → other ≡ joined (first' ∷ vs) → first ≡ first' → ws ≡ vs → name ≡ other
same_joined name other first first' ws vs e e' f g =
    let same : first ∷ ws ≡ first' ∷ vs = cc in
    e ∙ ap joined same ∙ sym e'

-- the same of names with their namespaces
pub qualified_settles : (name other : List ℕ) → Settles (qualified name) (qualified other) past_words (name ≡ other)
qualified_settles name other = record {
  settle = λ from to to' (first, ws, e, d) (first', vs, e', d') b b'.
      let s : Settles (word first ⨾ words ws) (word first' ⨾ words vs) past_words ((first ≡ first') × (ws ≡ vs)) = next_settle word_settles (words_settle ws vs) in
      let r = s.settle from to to' d d' b b' in
      (same_joined name other first first' ws vs e e' r.0.0 r.0.1, r.1);
}

-- such a name begins with a word
pub qualified_begins : (name : List ℕ) → Begins (qualified name) always is_word
qualified_begins name = record {
  begun = λ from to (first, ws, e, d) b.
      let s : Begins (word first ⨾ words ws) always is_word = begins_first (begins_token (λ t i. ap (λ k. is_word (a_head k t.text)) i.0)) in
      s.begun from to d b;
}

-- an argument, or what follows if there is no argument, ends the words before it
argument_begins : (inner : Option (List ℕ)) → Begins (argument inner) past_name past_words
argument_begins None = begins_nothing (λ h b. (both_true (past_words h) _ b).0)
argument_begins (Some name) = begins_first (begins_mark refl)

-- the arguments of names are the same
argument_settles : (one other : Option (List ℕ)) → Settles (argument one) (argument other) past_name (one ≡ other)
argument_settles None None = nothing_settles refl
argument_settles None (Some name) = none_some (begins_first (begins_mark refl))
argument_settles (Some name) None = some_none (begins_first (begins_mark refl))
argument_settles (Some name) (Some other) = told (λ e. cc) (next_settle mark_settles (both_settle (qualified_settles name other) (begins_mark refl) (begins_mark refl) mark_settles))

-- names with their arguments are the same
pub named_settles : (name other : List ℕ) (inner inner' : Option (List ℕ)) → Settles (named name inner) (named other inner') past_name ((name ≡ other) × (inner ≡ inner'))
named_settles name other inner inner' = both_settle (qualified_settles name other) (argument_begins inner) (argument_begins inner') (argument_settles inner inner')

-- such a name begins with a word
pub named_begins : (name : List ℕ) (inner : Option (List ℕ)) → Begins (named name inner) always is_word
named_begins name inner = begins_first (qualified_begins name)

-- the names that another language declares are the same
pub foreign_settles : (full other : List ℕ) → Settles (foreign_name full) (foreign_name other) past_name (full ≡ other)
foreign_settles full other = record {
  settle = λ from to to' (name, inner, e, d) (name', inner', e', d') b b'.
      let r = (named_settles name name' inner inner').settle from to to' d d' b b' in
      (e ∙ ap (λ x. whole_name x inner) r.0.0 ∙ ap (whole_name name') r.0.1 ∙ sym e', r.1);
}

-- such a name begins with a word
pub foreign_begins : (full : List ℕ) → Begins (foreign_name full) always is_word
foreign_begins full = record { begun = λ from to (name, inner, e, d) b. (named_begins name inner).begun from to d b }

-- in the same namespaces the declared names and their places are the same
pub declared_settles : (scope : List (List ℕ)) (full other : List ℕ) (p q : Place) {following : Test} → Settles (declared scope full p) (declared scope other q) following ((full ≡ other) × (p ≡ q))
declared_settles scope full other p q = token_settles (λ t i j. (i.1 ∙ sym j.1, sym i.2 ∙ j.2))

-- what follows an attribute
abbrev pub past_value : Test
past_value h = not (is_mark (codes "=") h)

-- what follows attributes in brackets
abbrev pub past_attributes : Test
past_attributes h = not (is_mark (codes "[") h)

-- the values of attributes are the same
value_settles : (one other : Option (List ℕ)) → Settles (value one) (value other) past_value (one ≡ other)
value_settles None None = nothing_settles refl
value_settles None (Some text) = none_some (begins_first (begins_mark refl))
value_settles (Some text) None = some_none (begins_first (begins_mark refl))
value_settles (Some text) (Some other) = told (λ e. cc) (next_settle mark_settles (token_settles (λ t i j. sym i.1 ∙ j.1)))

-- an attribute is its name, its value and its place
same_attribute : (a b : Attribute) → a.name ≡ b.name → a.value ≡ b.value → a.place ≡ b.place → a ≡ b
same_attribute a b n v p = λ i. record { name = n i; value = v i; place = p i }

-- attributes are the same
attribute_settles : (a b : Attribute) → Settles (attribute a) (attribute b) past_value (a ≡ b)
attribute_settles a b = told (λ e. same_attribute a b e.0.0 e.1 e.0.1) (next_settle identifier_settles (value_settles a.value b.value))

-- after the last attribute in brackets
abbrev closed : Test
closed = is_mark (codes "]")

-- further attributes, or what follows, end the attribute before
more_begins : (rest : List Attribute) → Begins (more_attributes rest) closed past_value
more_begins [] = begins_nothing (of_mark (codes "]") past_value refl)
more_begins (a ∷ rest) = begins_first (begins_mark refl)

-- further attributes are the same
more_settle : (xs ys : List Attribute) → Settles (more_attributes xs) (more_attributes ys) closed (xs ≡ ys)
more_settle [] [] = nothing_settles refl
more_settle [] (y ∷ ys) = none_some (begins_first (begins_mark refl))
more_settle (x ∷ xs) [] = some_none (begins_first (begins_mark refl))
more_settle (x ∷ xs) (y ∷ ys) = told (λ e. cc) (next_settle mark_settles (both_settle (attribute_settles x y) (more_begins xs) (more_begins ys) (more_settle xs ys)))

-- attributes in brackets are the same
pub attributes_settle : (xs ys : List Attribute) → Settles (attributes xs) (attributes ys) past_attributes (xs ≡ ys)
attributes_settle [] [] = nothing_settles refl
attributes_settle [] (y ∷ ys) = none_some (begins_first (begins_mark refl))
attributes_settle (x ∷ xs) [] = some_none (begins_first (begins_mark refl))
attributes_settle (x ∷ xs) (y ∷ ys) =
    told (λ e. cc)
    (next_settle mark_settles (both_settle (attribute_settles x y) (begins_both (more_begins xs) (begins_mark refl)) (begins_both (more_begins ys) (begins_mark refl))
    (both_settle (more_settle xs ys) (begins_mark refl) (begins_mark refl) mark_settles)))

-- attributes, and after them what passes a test that a bracket passes too
pub attributes_begin : {following : Test} (xs : List Attribute) (test : Test) {P : Part} → test (a_head kind.Mark (codes "[")) ≡ true → Begins P following test → Begins (attributes xs ⨾ P) following test
attributes_begin [] test e p = begins_both (begins_nothing (λ h b. b)) p
attributes_begin (x ∷ xs) test e p = begins_first (begins_first (begins_mark e))
