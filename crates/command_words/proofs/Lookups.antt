-- Options of a table, looked up by their names and letters.
use Rattle.std.proofs.Common.{◌≡◌, ◌≢◌, ◌∙◌, ◌==◌, ◌<◌, ◌||◌, ◌⊎◌, ℕ, Bool, true, false, cond, List, [], ◌∷◌, Option, Some, None, option_map, inl, inr, refl, sym, ap, subst}
use Rattle.std.specs.Option.{option_map_or}
use Rattle.std.specs.Str.{bytes_eq}
use Rattle.clap.specs.Lexer.{has_byte}
use Rattle.clap.specs.Words.{Rule}
use Rattle.clap.specs.Walk.{arg_by_id, arg_by_index, arg_by_long, arg_by_short}
use Rattle.clap.specs.Simple.{filled_from}
use Rattle.clap.specs.declared.builder.value_parser.ValueParser.TheVariants as vp
use Rattle.command_words.specs.Options.{Choice, IsAmong}
use Rattle.command_words.specs.Tables.{IsTable, by_letter, by_name, has_letter}
use Rattle.command_words.specs.Forms.{own_id, own_rule, rule_for, rules_for}
use Rattle.std.proofs.lemmas.Option.{same_Some}
use Rattle.command_words.proofs.Comparisons.{same_text, text_is, same_byte, byte_is}

pub some_none : {A : Type 0} (x : A) → Some x ≡ None → ⊥
some_none x e = cc

-- the arguments as the parser completes them
abbrev pub option_rule : Choice → Rule
option_rule o = record (rule_for o) { range = Some (record { start_inclusive = 1; end_inclusive = 1 }); parser = Some vp.String }

abbrev pub words_rule : Rule
words_rule = record own_rule { index = Some 1; range = Some (record { start_inclusive = 1; end_inclusive = 1 }); parser = Some vp.String }

abbrev pub full_rules : List Choice → List Rule
full_rules [] = words_rule ∷ []
full_rules (o ∷ os) = option_rule o ∷ full_rules os

pub filled_rules : (options : List Choice) → filled_from 1 (rules_for options) ≡ full_rules options
filled_rules [] = refl
filled_rules (o ∷ os) = ap (λ (rs : List Rule). option_rule o ∷ rs) (filled_rules os)

-- the parser finds an option by its name, its letter and its id
pub long_found : (options : List Choice) (name : List ℕ) → arg_by_long (full_rules options) name ≡ option_map option_rule (by_name options name)
long_found [] name = refl
long_found (o ∷ os) name =
    elim (bytes_eq o.name name) as (λ b. cond (b || false) (Some (option_rule o)) (arg_by_long (full_rules os) name) ≡ option_map option_rule (cond b (Some o) (by_name os name)))
    [ true ↦ refl | false ↦ long_found os name ]

pub short_found : (options : List Choice) (l : ℕ) → arg_by_short (full_rules options) l ≡ option_map option_rule (by_letter options l)
short_found [] l = refl
short_found (o ∷ os) l =
    elim (has_letter o l) as (λ b. cond (b || false) (Some (option_rule o)) (arg_by_short (full_rules os) l) ≡ option_map option_rule (cond b (Some o) (by_letter os l)))
    [ true ↦ refl | false ↦ short_found os l ]

pub words_found : (options : List Choice) → arg_by_index (full_rules options) 1 ≡ Some words_rule
words_found [] = refl
words_found (o ∷ os) = words_found os

pub words_by_id : (options : List Choice) → IsTable options → arg_by_id (full_rules options) own_id ≡ Some words_rule
words_by_id [] t = refl
words_by_id (o ∷ os) t = ap (λ b. cond b (Some (option_rule o)) (arg_by_id (full_rules os) own_id)) t.2 ∙ words_by_id os t.5

-- an option of the table is found by its name
pub among_by_name : (options : List Choice) (o : Choice) → IsTable options → IsAmong options o → by_name options o.name ≡ Some o
among_by_name [] o t h = absurd h
among_by_name (p ∷ ps) o t (inl e) = ap (λ b. cond b (Some p) (by_name ps o.name)) (ap (λ (q : Choice). bytes_eq p.name q.name) (sym e) ∙ same_text p.name) ∙ ap (λ (q : Choice). Some q) e
among_by_name (p ∷ ps) o t (inr h) = go (among_by_name ps o t.5 h) (bytes_eq p.name o.name) refl
  where
    go : by_name ps o.name ≡ Some o → (b : Bool) → bytes_eq p.name o.name ≡ b → cond b (Some p) (by_name ps o.name) ≡ Some o
    go later true e = let twice : by_name ps p.name ≡ Some o = ap (by_name ps) (text_is p.name o.name e) ∙ later in absurd (some_none o (sym twice ∙ t.3))
    go later false e = later

letter_is : (k : Option ℕ) (l : ℕ) → option_map_or (λ k. k == l) k false ≡ true → k ≡ Some l
letter_is None l e = cc
letter_is (Some k) l e = ap (λ (n : ℕ). Some n) (byte_is k l e)

-- an option of the table is found by its letter
pub among_by_letter : (options : List Choice) (o : Choice) (l : ℕ) → IsTable options → IsAmong options o → o.letter ≡ Some l → by_letter options l ≡ Some o
among_by_letter [] o l t h is = absurd h
among_by_letter (p ∷ ps) o l t (inl e) is =
    ap (λ b. cond b (Some p) (by_letter ps l)) (ap (λ (q : Choice). has_letter q l) e ∙ ap (λ (q : Option ℕ). option_map_or (λ k. k == l) q false) is ∙ same_byte l) ∙ ap (λ (q : Choice). Some q) e
among_by_letter (p ∷ ps) o l t (inr h) is = go (among_by_letter ps o l t.5 h is) (has_letter p l) refl
  where
    go : by_letter ps l ≡ Some o → (b : Bool) → has_letter p l ≡ b → cond b (Some p) (by_letter ps l) ≡ Some o
    go later true e = absurd (some_none o (sym later ∙ (t.4 l (letter_is p.letter l e)).2))
    go later false e = later

-- what is found by its name is in the table, and has the name
pub by_name_among : (options : List Choice) (name : List ℕ) (o : Choice) → by_name options name ≡ Some o → IsAmong options o × (o.name ≡ name)
by_name_among [] name o e = absurd (some_none o (sym e))
by_name_among (p ∷ ps) name o e = go (by_name_among ps name o) (bytes_eq p.name name) refl e
  where
    go : (by_name ps name ≡ Some o → IsAmong ps o × (o.name ≡ name)) → (b : Bool) → bytes_eq p.name name ≡ b → cond b (Some p) (by_name ps name) ≡ Some o → ((p ≡ o) ⊎ IsAmong ps o) × (o.name ≡ name)
    go later true is e = let same : p ≡ o = same_Some p o e in (inl same, ap (λ (q : Choice). q.name) (sym same) ∙ text_is p.name name is)
    go later false is e = let h = later e in (inr h.0, h.1)

-- what is found by a letter is in the table, and has the letter
pub by_letter_among : (options : List Choice) (l : ℕ) (o : Choice) → by_letter options l ≡ Some o → IsAmong options o × (o.letter ≡ Some l)
by_letter_among [] l o e = absurd (some_none o (sym e))
by_letter_among (p ∷ ps) l o e = go (by_letter_among ps l o) (has_letter p l) refl e
  where
    go : (by_letter ps l ≡ Some o → IsAmong ps o × (o.letter ≡ Some l)) → (b : Bool) → has_letter p l ≡ b → cond b (Some p) (by_letter ps l) ≡ Some o → ((p ≡ o) ⊎ IsAmong ps o) × (o.letter ≡ Some l)
    go later true is e = let same : p ≡ o = same_Some p o e in (inl same, ap (λ (q : Choice). q.letter) (sym same) ∙ letter_is p.letter l is)
    go later false is e = let h = later e in (inr h.0, h.1)

-- an option of the table: its name is fit, and so is its letter
pub name_fits : (options : List Choice) (o : Choice) → IsTable options → IsAmong options o → (o.name ≢ []) × (has_byte 61 o.name ≡ false) × (bytes_eq o.name own_id ≡ false)
name_fits [] o t h = absurd h
name_fits (p ∷ ps) o t (inl e) = let Fits : Choice → Type 0 = λ q. (q.name ≢ []) × (has_byte 61 q.name ≡ false) × (bytes_eq q.name own_id ≡ false) in subst Fits e (t.0, t.1, t.2)
name_fits (p ∷ ps) o t (inr h) = name_fits ps o t.5 h

pub letter_fits : (options : List Choice) (o : Choice) (l : ℕ) → IsTable options → IsAmong options o → o.letter ≡ Some l → (l < 128) × (l ≢ 45)
letter_fits [] o l t h is = absurd h
letter_fits (p ∷ ps) o l t (inl e) is = let fits = t.4 l (ap (λ (q : Choice). q.letter) e ∙ is) in (fits.0, fits.1)
letter_fits (p ∷ ps) o l t (inr h) is = letter_fits ps o l t.5 h is

-- the argument of an option of the table, by its id
pub option_by_id : (options : List Choice) (o : Choice) → IsTable options → IsAmong options o → arg_by_id (full_rules options) o.name ≡ Some (option_rule o)
option_by_id options o t h = go options (among_by_name options o t h)
  where
    go : (os : List Choice) → by_name os o.name ≡ Some o → arg_by_id (full_rules os) o.name ≡ Some (option_rule o)
    go [] e = absurd (some_none o (sym e))
    go (p ∷ ps) e = elim (bytes_eq p.name o.name) as (λ b. cond b (Some p) (by_name ps o.name) ≡ Some o → cond b (Some (option_rule p)) (arg_by_id (full_rules ps) o.name) ≡ Some (option_rule o))
        [ true ↦ (λ (same : Some p ≡ Some o). ap (λ (q : Choice). Some (option_rule q)) (same_Some p o same)) | false ↦ go ps ] e
