-- The rows of what was said: the value of each option, and the other words.
use Rattle.std.proofs.Common.{◌≡◌, ◌∙◌, ◌&&◌, ◌||◌, ℕ, Bool, true, false, cond, List, [], ◌∷◌, ◌++◌, Option, Some, None, option_map, map, refl, sym, ap, subst, append_assoc, append-nil}
use Rattle.std.specs.Prelude.{find, is_some, option_and_then, slice_get}
use Rattle.std.specs.Option.{option_or}
use Rattle.std.specs.Str.{bytes_eq}
use Rattle.clap.specs.Words.{Row, Text, all_of, first_of}
use Rattle.clap.specs.Walk.{has_row, more_values, reading_by, stronger, with_values, without}
use Rattle.clap.specs.Kinds.{or_else}
use Rattle.clap.specs.declared.error.kind.ErrorKind.TheVariants.{ArgumentConflict}
use Rattle.clap.specs.declared.parser.matches.ValueSource.TheVariants.{CommandLine}
use Rattle.command_words.specs.Options.{Choice, EachOnce, Reads, WordUse, Given, Own, apart, ends, joined, own, rest, own_words, value_of}
use Rattle.command_words.specs.Forms.{own_id}
use Rattle.command_words.specs.Found.{some_of}
use Rattle.command_words.specs.Tables.{IsTable}
use Rattle.command_words.proofs.Comparisons.{differs, same_text, text_is}
use Rattle.command_words.proofs.Lookups.{name_fits, some_none, words_rule}
use Rattle.command_words.proofs.Walks.{IsFresh, added, all_added, said_fault}

-- an option's name is not by what the other words are known
abbrev pub IsProper : List WordUse → Type 0
IsProper [] = Unit {0}
IsProper (Given name v ∷ said) = (bytes_eq name own_id ≡ false) × IsProper said
IsProper (Own word ∷ said) = IsProper said

own_proper : (words : List Text) → IsProper (map (λ word. Own word) words)
own_proper [] = tt
own_proper (word ∷ words) = own_proper words

pub read_proper : (options : List Choice) → IsTable options → (words : List Text) (said : List WordUse) → Reads options words said → IsProper said
read_proper options t _ _ ends = tt
read_proper options t _ _ (rest words) = own_proper words
read_proper options t _ _ (own word words said plain reads) = read_proper options t words said reads
read_proper options t _ _ (apart o word v words said among is plain reads) = ((name_fits options o t among).2, read_proper options t words said reads)
read_proper options t _ _ (joined o word v words said among is reads) = ((name_fits options o t among).2, read_proper options t words said reads)

-- the row of an id
abbrev look : Text → List Row → Option Row
look id rows = find (λ r. bytes_eq r.id id) rows

has_look : (id : Text) (rows : List Row) → has_row id rows ≡ is_some (look id rows)
has_look id [] = refl
has_look id (r ∷ rs) = elim (bytes_eq r.id id) as (λ b. (b || has_row id rs) ≡ is_some (cond b (Some r) (look id rs))) [ true ↦ refl | false ↦ has_look id rs ]

look_append : (id : Text) (rows : List Row) (r : Row) → look id (rows ++ r ∷ []) ≡ option_or (look id rows) (cond (bytes_eq r.id id) (Some r) None)
look_append id [] r = refl
look_append id (q ∷ rows) r =
    elim (bytes_eq q.id id) as (λ b. cond b (Some q) (look id (rows ++ r ∷ [])) ≡ option_or (cond b (Some q) (look id rows)) (cond (bytes_eq r.id id) (Some r) None)) [ true ↦ refl | false ↦ look_append id rows r ]

-- the row of an option that is given its value
abbrev given : Text → Text → Row
given name v = record { id = name; values = v ∷ []; count = None; source = Some CommandLine; reading = reading_by words_rule }

tail_lacks : (id : Text) (r : Row) (rows : List Row) → look id (r ∷ rows) ≡ None → (bytes_eq r.id id ≡ false) × (look id rows ≡ None)
tail_lacks id r rows e = go (bytes_eq r.id id) e
  where
    go : (b : Bool) → cond b (Some r) (look id rows) ≡ None → (b ≡ false) × (look id rows ≡ None)
    go true e = absurd (some_none r e)
    go false e = (refl, e)

without_none : (id : Text) (rows : List Row) → look id rows ≡ None → without id rows ≡ rows
without_none id [] e = refl
without_none id (r ∷ rows) e =
    let lacks = tail_lacks id r rows e in
    ap (λ b. cond b rows (r ∷ without id rows)) lacks.0 ∙ ap (λ (rs : List Row). r ∷ rs) (without_none id rows lacks.1)

valued_none : (id v : Text) (rows : List Row) → look id rows ≡ None → with_values id (reading_by words_rule) CommandLine (v ∷ []) rows ≡ rows ++ given id v ∷ []
valued_none id v [] e = refl
valued_none id v (r ∷ rows) e =
    let lacks = tail_lacks id r rows e in
    ap (λ b. cond b (more_values CommandLine (v ∷ []) r ++ rows) (r ∷ with_values id (reading_by words_rule) CommandLine (v ∷ []) rows)) lacks.0 ∙ ap (λ (rs : List Row). r ∷ rs) (valued_none id v rows lacks.1)

added_given : (name v : Text) (rows : List Row) → look name rows ≡ None → added rows (Given name v) ≡ rows ++ given name v ∷ []
added_given name v rows e = ap (with_values name (reading_by words_rule) CommandLine (v ∷ [])) (without_none name rows e) ∙ valued_none name v rows e

-- an option is no fault if it has no row
lacks_fresh : (name v : Text) (rows : List Row) → look name rows ≡ None → said_fault rows (Given name v) ≡ []
lacks_fresh name v rows e = ap (λ b. or_else (cond (b && true) (ArgumentConflict ∷ []) []) []) (has_look name rows ∙ ap (λ (o : Option Row). is_some o) e)

fresh_lacks : (name v : Text) (rows : List Row) → said_fault rows (Given name v) ≡ [] → look name rows ≡ None
fresh_lacks name v rows e = go (look name rows) (ap (λ b. or_else (cond (b && true) (ArgumentConflict ∷ []) []) []) (sym (has_look name rows)) ∙ e)
  where
    go : (o : Option Row) → or_else (cond (is_some o && true) (ArgumentConflict ∷ []) []) [] ≡ [] → o ≡ None
    go None e = refl
    go (Some r) e = cc

-- a word of its own changes no row of an option
look_own : (id word : Text) (rows : List Row) → bytes_eq own_id id ≡ false → look id (added rows (Own word)) ≡ look id rows
look_own id word [] other = ap (λ b. cond b (Some (given own_id word)) None) other
look_own id word (r ∷ rows) other = go (bytes_eq r.id own_id) refl (look_own id word rows other)
  where
    more : Row
    more = record r { values = r.values ++ word ∷ []; source = Some (stronger r.source CommandLine) }

    go : (b : Bool) → bytes_eq r.id own_id ≡ b → look id (added rows (Own word)) ≡ look id rows → look id (cond b (more ∷ rows) (r ∷ added rows (Own word))) ≡ look id (r ∷ rows)
    go true e later =
        let same : bytes_eq r.id id ≡ false = ap (λ (x : Text). bytes_eq x id) (text_is r.id own_id e) ∙ other in
        ap (λ b. cond b (Some more) (look id rows)) same ∙ ap (λ b. cond b (Some r) (look id rows)) (sym same)
    go false e later = ap (λ (o : Option Row). cond (bytes_eq r.id id) (Some r) o) later

-- ---- the value of an option

values_in : (id : Text) (said : List WordUse) (rows : List Row) → bytes_eq own_id id ≡ false → IsFresh rows said
    → (look id rows ≡ None → first_of id (all_added rows said) ≡ value_of id said) × ((r : Row) → look id rows ≡ Some r → first_of id (all_added rows said) ≡ slice_get r.values 0)
values_in id [] rows other fresh = (λ e. ap (λ (o : Option Row). option_and_then (λ r. slice_get r.values 0) o) e, λ r e. ap (λ (o : Option Row). option_and_then (λ r. slice_get r.values 0) o) e)
values_in id (Own word ∷ said) rows other fresh =
    let later = values_in id said (added rows (Own word)) other fresh.1 in
    let same = look_own id word rows other in
    (λ e. later.0 (same ∙ e), λ r e. later.1 r (same ∙ e))
values_in id (Given name v ∷ said) rows other fresh =
    let none = fresh_lacks name v rows fresh.0 in
    let grown : look id (added rows (Given name v)) ≡ option_or (look id rows) (cond (bytes_eq name id) (Some (given name v)) None) = ap (look id) (added_given name v rows none) ∙ look_append id rows (given name v) in
    go (values_in id said (added rows (Given name v)) other fresh.1) grown
  where
    end : Option (List ℕ)
    end = first_of id (all_added (added rows (Given name v)) said)

    go : (look id (added rows (Given name v)) ≡ None → end ≡ value_of id said) × ((r : Row) → look id (added rows (Given name v)) ≡ Some r → end ≡ slice_get r.values 0)
        → look id (added rows (Given name v)) ≡ option_or (look id rows) (cond (bytes_eq name id) (Some (given name v)) None)
        → (look id rows ≡ None → end ≡ value_of id (Given name v ∷ said)) × ((r : Row) → look id rows ≡ Some r → end ≡ slice_get r.values 0)
    go later grown = (
      λ e. cases (bytes_eq name id) (grown ∙ ap (λ (o : Option Row). option_or o (cond (bytes_eq name id) (Some (given name v)) None)) e),
      λ r e. later.1 r (grown ∙ ap (λ (o : Option Row). option_or o (cond (bytes_eq name id) (Some (given name v)) None)) e),
    )
      where
        cases : (b : Bool) → look id (added rows (Given name v)) ≡ cond b (Some (given name v)) None → end ≡ cond b (Some v) (value_of id said)
        cases true e = later.1 (given name v) e
        cases false e = later.0 e

-- the value of an option is found
pub value_found : (id : Text) (said : List WordUse) → bytes_eq own_id id ≡ false → IsFresh [] said → first_of id (all_added [] said) ≡ value_of id said
value_found id said other fresh = (values_in id said [] other fresh).0 refl

-- ---- the other words

abbrev with_more : Option (List Text) → List Text → Option (List Text)
with_more None words = some_of words
with_more (Some before) words = Some (before ++ words)

own_more : (word : Text) (rows : List Row) → all_of own_id (added rows (Own word)) ≡ with_more (all_of own_id rows) (word ∷ [])
own_more word [] = refl
own_more word (r ∷ rows) = go (bytes_eq r.id own_id) refl (own_more word rows)
  where
    more : Row
    more = record r { values = r.values ++ word ∷ []; source = Some (stronger r.source CommandLine) }

    go : (b : Bool) → bytes_eq r.id own_id ≡ b → all_of own_id (added rows (Own word)) ≡ with_more (all_of own_id rows) (word ∷ [])
        → all_of own_id (cond b (more ∷ rows) (r ∷ added rows (Own word))) ≡ with_more (all_of own_id (r ∷ rows)) (word ∷ [])
    go true e later =
        ap (λ b. option_map (λ (r : Row). r.values) (cond b (Some more) (look own_id rows))) e
        ∙ ap (λ b. with_more (option_map (λ (r : Row). r.values) (cond b (Some r) (look own_id rows))) (word ∷ [])) (sym e)
    go false e later =
        ap (λ b. option_map (λ (r : Row). r.values) (cond b (Some r) (look own_id (added rows (Own word))))) e
        ∙ later
        ∙ ap (λ b. with_more (option_map (λ (r : Row). r.values) (cond b (Some r) (look own_id rows))) (word ∷ [])) (sym e)

then_more : (before : Option (List Text)) (word : Text) (words : List Text) → with_more (with_more before (word ∷ [])) words ≡ with_more before (word ∷ words)
then_more None word words = refl
then_more (Some before) word words = ap (λ (ws : List Text). Some ws) (append_assoc before (word ∷ []) words)

own_kept : (name v : Text) (rows : List Row) → bytes_eq name own_id ≡ false → look name rows ≡ None → all_of own_id (added rows (Given name v)) ≡ all_of own_id rows
own_kept name v rows other none =
    ap (λ (rs : List Row). all_of own_id rs) (added_given name v rows none)
    ∙ ap (λ (o : Option Row). option_map (λ (r : Row). r.values) o) (look_append own_id rows (given name v) ∙ ap (λ b. option_or (look own_id rows) (cond b (Some (given name v)) None)) other ∙ kept (look own_id rows))
  where
    kept : (o : Option Row) → option_or o None ≡ o
    kept None = refl
    kept (Some r) = refl

no_more : (before : Option (List Text)) → with_more before [] ≡ before
no_more None = refl
no_more (Some before) = ap (λ (ws : List Text). Some ws) (append-nil before)

others_in : (said : List WordUse) (rows : List Row) → IsProper said → IsFresh rows said → all_of own_id (all_added rows said) ≡ with_more (all_of own_id rows) (own_words said)
others_in [] rows proper fresh = sym (no_more (all_of own_id rows))
others_in (Given name v ∷ said) rows proper fresh =
    others_in said (added rows (Given name v)) proper.1 fresh.1 ∙ ap (λ (o : Option (List Text)). with_more o (own_words said)) (own_kept name v rows proper.0 (fresh_lacks name v rows fresh.0))
others_in (Own word ∷ said) rows proper fresh =
    others_in said (added rows (Own word)) proper fresh.1 ∙ ap (λ (o : Option (List Text)). with_more o (own_words said)) (own_more word rows) ∙ then_more (all_of own_id rows) word (own_words said)

-- the other words are found
pub others_found : (said : List WordUse) → IsProper said → IsFresh [] said → all_of own_id (all_added [] said) ≡ some_of (own_words said)
others_found said proper fresh = others_in said [] proper fresh

-- ---- an option once is no fault, and nothing else is

abbrev NotYet : List Row → List WordUse → Type 0
NotYet rows said = (id : Text) → bytes_eq own_id id ≡ false → (r : Row) → look id rows ≡ Some r → value_of id said ≡ None

once_in : (said : List WordUse) (rows : List Row) → IsProper said → EachOnce said → NotYet rows said → IsFresh rows said
once_in [] rows proper once yet = tt
once_in (Own word ∷ said) rows proper once yet = (refl, once_in said (added rows (Own word)) proper once (λ id other r e. yet id other r (sym (look_own id word rows other) ∙ e)))
once_in (Given name v ∷ said) rows proper once yet =
    let none = lacks (look name rows) refl in
    (lacks_fresh name v rows none, once_in said (added rows (Given name v)) proper.1 once.1 (λ id other r e. later id other r (look id rows) refl (sym (look_append id rows (given name v)) ∙ ap (look id) (sym (added_given name v rows none)) ∙ e)))
  where
    clash : (r : Row) → look name rows ≡ Some r → ⊥
    clash r e = some_none v (sym (ap (λ b. cond b (Some v) (value_of name said)) (same_text name)) ∙ yet name (differs name own_id proper.0) r e)

    lacks : (o : Option Row) → look name rows ≡ o → look name rows ≡ None
    lacks None e = e
    lacks (Some r) e = absurd (clash r e)

    past : (b : Bool) (id : Text) → cond b (Some v) (value_of id said) ≡ None → value_of id said ≡ None
    past true id e = absurd (some_none v e)
    past false id e = e

    later : (id : Text) → bytes_eq own_id id ≡ false → (r : Row) (o : Option Row) → look id rows ≡ o → option_or (look id rows) (cond (bytes_eq name id) (Some (given name v)) None) ≡ Some r → value_of id said ≡ None
    later id other r (Some q) is e = past (bytes_eq name id) id (yet id other q is)
    later id other r None is e = go (bytes_eq name id) refl (ap (λ (o : Option Row). option_or o (cond (bytes_eq name id) (Some (given name v)) None)) (sym is) ∙ e)
      where
        go : (b : Bool) → bytes_eq name id ≡ b → cond b (Some (given name v)) None ≡ Some r → value_of id said ≡ None
        go true f g = subst (λ (n : Text). value_of n said ≡ None) (text_is name id f) once.0
        go false f g = absurd (some_none r (sym g))

fresh_in : (said : List WordUse) (rows : List Row) → IsProper said → IsFresh rows said → EachOnce said × NotYet rows said
fresh_in [] rows proper fresh = (tt, λ id other r e. refl)
fresh_in (Own word ∷ said) rows proper fresh =
    let later = fresh_in said (added rows (Own word)) proper fresh.1 in
    (later.0, λ id other r e. later.1 id other r (look_own id word rows other ∙ e))
fresh_in (Given name v ∷ said) rows proper fresh =
    let none = fresh_lacks name v rows fresh.0 in
    let later = fresh_in said (added rows (Given name v)) proper.1 fresh.1 in
    let grown : (id : Text) → look id (added rows (Given name v)) ≡ option_or (look id rows) (cond (bytes_eq name id) (Some (given name v)) None) = λ id. ap (look id) (added_given name v rows none) ∙ look_append id rows (given name v) in (
      (later.1 name (differs name own_id proper.0) (given name v) (grown name ∙ ap (λ (o : Option Row). option_or o (cond (bytes_eq name name) (Some (given name v)) None)) none ∙ ap (λ b. cond b (Some (given name v)) None) (same_text name)), later.0),
      λ id other r e. go id (bytes_eq name id) refl none r e (later.1 id other r (grown id ∙ ap (λ (o : Option Row). option_or o (cond (bytes_eq name id) (Some (given name v)) None)) e)),
    )
  where
    go : (id : Text) (b : Bool) → bytes_eq name id ≡ b → look name rows ≡ None → (r : Row) → look id rows ≡ Some r → value_of id said ≡ None → cond b (Some v) (value_of id said) ≡ None
    go id true f none r e later = absurd (some_none r (sym e ∙ ap (λ (n : Text). look n rows) (sym (text_is name id f)) ∙ none))
    go id false f none r e later = later

pub once_fresh : (said : List WordUse) → IsProper said → EachOnce said → IsFresh [] said
once_fresh said proper once = once_in said [] proper once (λ id other r e. absurd (some_none r (sym e)))

pub fresh_once : (said : List WordUse) → IsProper said → IsFresh [] said → EachOnce said
fresh_once said proper fresh = (fresh_in said [] proper fresh).0
