-- What the parser makes of one word, by how the word is spelled.
use Rattle.std.proofs.Common.{◌≡◌, ◌≢◌, ◌∙◌, ◌==◌, ◌<◌, ◌≤◌, ◌&&◌, ℕ, Bool, true, false, cond, List, [], ◌∷◌, ◌++◌, Option, Some, None, option_map, refl, sym, ap, arith, drop, length, get_or, ◌-◌}
use Rattle.std.specs.Prelude.{encode_utf8, slice_get, nat_lt, option_and_then}
use Rattle.std.specs.Option.{option_map_or}
use Rattle.std.specs.Str.{bytes_eq, chars, chars_after, encode_utf8_all, IsUtf8}
use Rattle.std.proofs.lemmas.Bool.Decides.{nat_tests}
use Rattle.std.proofs.lemmas.Str.{encode_ascii, chars-encodes}
use Rattle.clap.specs.Lexer.{long_of, long_of_rest, name_and_value, short_of, short_of_rest, strip_byte}
use Rattle.clap.specs.Words.{Row, Rule, Text, built}
use Rattle.clap.specs.Simple.{Shape}
use Rattle.clap.specs.Walk.{Held, Outcome, Step, Waiting, after_flag, arg_by_long, arg_by_short, attached_value, bundle, bundle_met, bundle_step, done, idle, long_met, long_or_other, long_word, next, option, option_met, plain, plain_word, positional, reacted, settled, short_met, short_or_plain, short_word, subcommand_met, subcommand_or_other, trailing, word_met}
use Rattle.clap.specs.Faults.{bundle_fault, bundle_step_fault, flag_word_fault, flags_fault, long_fault, option_fault, other_fault, short_fault, word_fault}
use Rattle.clap.specs.declared.error.kind.ErrorKind.TheVariants.{UnknownArgument}
use Rattle.command_words.specs.Options.{Choice, IsPlain}
use Rattle.command_words.specs.Forms.{bare}
use Rattle.command_words.proofs.Comparisons.{other_byte}
use Rattle.command_words.specs.Tables.{by_letter, by_name}
use Rattle.command_words.proofs.Lookups.{full_rules, long_found, option_rule, short_found}

abbrev pub dashes : Text
dashes = 45 ∷ 45 ∷ []

-- nothing is kept but rows and a pending use
abbrev pub holds : List Row → Option (Text × List Text) → Held
holds rows pending = record { rows = rows; pending = pending; skip = 0 }

no_command : (w : Waiting) (word : Text) → subcommand_met [] w word ≡ None
no_command idle word = refl
no_command (option id) word = refl
no_command positional word = refl

-- what the parser reads of the command for a table of options
abbrev pub top : List Choice → Shape
top options = record (built bare).top { rules = full_rules options }

-- `--` ends the options
pub ends_met : (c : List Rule) (w : Waiting) (h : Held) → word_met c [] false w 1 dashes h ≡ (h, trailing 1)
ends_met c w h = ap (λ o. subcommand_or_other c o w 1 dashes h) (no_command w dashes)

pub ends_fault : (s : Shape) (w : Waiting) (h : Held) → word_fault s [] false w dashes h ≡ []
ends_fault s w h = ap (λ o. other_fault s o dashes h) (no_command w dashes)

met_other : (c : List Rule) (w : Waiting) (word : Text) (h : Held) → bytes_eq word dashes ≡ false → word_met c [] false w 1 word h ≡ long_or_other c w word (long_of word) h
met_other c w word h e =
    ap (λ o. subcommand_or_other c o w 1 word h) (no_command w word) ∙ ap (λ b. cond b (h, trailing 1) (long_or_other c w word (long_of word) h)) e

fault_other : (s : Shape) (w : Waiting) (word : Text) (h : Held) → bytes_eq word dashes ≡ false → word_fault s [] false w word h ≡ flag_word_fault s.rules s.args_override_self (long_of word) word h
fault_other s w word h e =
    ap (λ o. other_fault s o word h) (no_command w word) ∙ ap (λ b. cond b [] (flag_word_fault s.rules s.args_override_self (long_of word) word h)) e

-- a plain word is no option and no `--`
no_long : (word : Text) → IsPlain word → long_of word ≡ None
no_long [] p = refl
no_long (x ∷ []) p = go (x == 45)
  where
    go : (b : Bool) → option_and_then long_of_rest (option_and_then (strip_byte 45) (cond b (Some []) None)) ≡ None
    go true = refl
    go false = refl
no_long (x ∷ y ∷ rest) p = ap (λ b. option_and_then long_of_rest (option_and_then (strip_byte 45) (cond b (Some (y ∷ rest)) None))) (other_byte x 45 p)

no_short : (word : Text) → IsPlain word → short_of word ≡ None
no_short [] p = refl
no_short (x ∷ []) p = go (x == 45)
  where
    go : (b : Bool) → option_and_then short_of_rest (cond b (Some []) None) ≡ None
    go true = refl
    go false = refl
no_short (x ∷ y ∷ rest) p = ap (λ b. option_and_then short_of_rest (cond b (Some (y ∷ rest)) None)) (other_byte x 45 p)

no_end : (word : Text) → IsPlain word → bytes_eq word dashes ≡ false
no_end [] p = refl
no_end (x ∷ []) p = go (x == 45)
  where
    go : (b : Bool) → (b && false) ≡ false
    go true = refl
    go false = refl
no_end (x ∷ y ∷ rest) p = ap (λ b. b && bytes_eq (y ∷ rest) (45 ∷ [])) (other_byte x 45 p)

pub plain_met : (c : List Rule) (w : Waiting) (word : Text) (h : Held) → IsPlain word → word_met c [] false w 1 word h ≡ plain_word c w word h
plain_met c w word h p =
    met_other c w word h (no_end word p) ∙ ap (λ q. long_or_other c w word q h) (no_long word p) ∙ ap (λ q. short_or_plain c w word q h) (no_short word p)

pub plain_fault : (s : Shape) (w : Waiting) (word : Text) (h : Held) → IsPlain word → word_fault s [] false w word h ≡ []
plain_fault s w word h p =
    fault_other s w word h (no_end word p)
    ∙ ap (λ q. flag_word_fault s.rules s.args_override_self q word h) (no_long word p)
    ∙ ap (λ q. option_map_or (λ flags. bundle_fault s.rules s.args_override_self flags h) q []) (no_short word p)

-- what the parser makes of an option, with its value or with none yet
abbrev pub option_step : List Rule → Rule → Option Text → Held → Held × Step
option_step c a (Some v) h = (reacted c a (v ∷ []) h, next idle)
option_step c a None h = (record (settled c h) { pending = Some (a.id, []) }, next (option a.id))

after_option : (c : List Rule) (w : Waiting) (word : Text) (a : Rule) (v : Option Text) (h : Held) → after_flag c w word (option_met c a v h).0 (option_met c a v h).1 ≡ option_step c a v h
after_option c w word a (Some v) h = refl
after_option c w word a None h = refl

-- the word gives the option, with this value or with none yet
pub record IsFlag (options : List Choice) (word : Text) (o : Choice) (v : Option Text) : Type 0 where
  pub met : (w : Waiting) (rows : List Row) (pending : Option (Text × List Text)) → word_met (full_rules options) [] false w 1 word (holds rows pending) ≡ option_step (full_rules options) (option_rule o) v (holds rows pending)
  pub fault : (w : Waiting) (rows : List Row) (pending : Option (Text × List Text)) → word_fault (top options) [] false w word (holds rows pending) ≡ option_fault (full_rules options) false (option_rule o) v (holds rows pending)

-- no option, and no word of its own
pub record IsBad (options : List Choice) (word : Text) : Type 0 where
  pub fault : (w : Waiting) (rows : List Row) (pending : Option (Text × List Text)) → word_fault (top options) [] false w word (holds rows pending) ≡ UnknownArgument ∷ []

module _ (options : List Choice) (x : ℕ) (xs name : Text) (value : Option Text) (parts : name_and_value (x ∷ xs) ≡ (name, value)) where
  long_first : (w : Waiting) (h : Held) → word_met (full_rules options) [] false w 1 (45 ∷ 45 ∷ x ∷ xs) h ≡ long_word (full_rules options) w (45 ∷ 45 ∷ x ∷ xs) name value h
  long_first w h = met_other (full_rules options) w (45 ∷ 45 ∷ x ∷ xs) h refl ∙ ap (λ (q : Text × Option Text). long_word (full_rules options) w (45 ∷ 45 ∷ x ∷ xs) q.0 q.1 h) parts

  long_first_fault : (w : Waiting) (h : Held) → word_fault (top options) [] false w (45 ∷ 45 ∷ x ∷ xs) h ≡ long_fault (full_rules options) false (arg_by_long (full_rules options) name) value h
  long_first_fault w h = fault_other (top options) w (45 ∷ 45 ∷ x ∷ xs) h refl ∙ ap (λ (q : Text × Option Text). long_fault (full_rules options) false (arg_by_long (full_rules options) q.0) q.1 h) parts

  pub long_flag : (o : Choice) → by_name options name ≡ Some o → IsFlag options (45 ∷ 45 ∷ x ∷ xs) o value
  long_flag o is =
      let found : arg_by_long (full_rules options) name ≡ Some (option_rule o) = long_found options name ∙ ap (option_map option_rule) is in
      record {
        met = λ w rows pending.
            long_first w (holds rows pending)
            ∙ ap (λ (a : Option Rule). after_flag (full_rules options) w (45 ∷ 45 ∷ x ∷ xs) (long_met (full_rules options) a value (holds rows pending)).0 (long_met (full_rules options) a value (holds rows pending)).1) found
            ∙ after_option (full_rules options) w (45 ∷ 45 ∷ x ∷ xs) (option_rule o) value (holds rows pending);
        fault = λ w rows pending. long_first_fault w (holds rows pending) ∙ ap (λ (a : Option Rule). long_fault (full_rules options) false a value (holds rows pending)) found;
      }

  pub long_bad : by_name options name ≡ None → IsBad options (45 ∷ 45 ∷ x ∷ xs)
  long_bad is =
      let found : arg_by_long (full_rules options) name ≡ None = long_found options name ∙ ap (option_map option_rule) is in
      record { fault = λ w rows pending. long_first_fault w (holds rows pending) ∙ ap (λ (a : Option Rule). long_fault (full_rules options) false a value (holds rows pending)) found }

-- the first character of a text
pub first_ascii : (l : ℕ) (rest : Text) → l < 128 → slice_get (chars (l ∷ rest)) 0 ≡ Some l
unfolding chars
first_ascii l rest lt =
    let is : nat_lt l 128 ≡ true = grind (arith, nat_tests) in
    ap (λ b. slice_get (chars_after (cond b 0 (cond (nat_lt l 224) 1 (cond (nat_lt l 240) 2 3))) (cond b l (cond (nat_lt l 224) (l - 192) (cond (nat_lt l 240) (l - 224) (l - 240)))) rest) 0) is ∙ whole rest
  where
    whole : (rest : Text) → slice_get (chars_after 0 l rest) 0 ≡ Some l
    whole [] = refl
    whole (b ∷ bs) = refl

-- of a text that does not begin with an ASCII character
pub first_wide : (l : ℕ) (rest : Text) → IsUtf8 (l ∷ rest) → 128 ≤ l → (c : ℕ) × (slice_get (chars (l ∷ rest)) 0 ≡ Some c) × (128 ≤ c)
first_wide l rest u wide = go u.0 u.1.1 (ap chars (sym u.1.1) ∙ chars-encodes u.0 u.1.0)
  where
    go : (cs : Text) → encode_utf8_all cs ≡ l ∷ rest → chars (l ∷ rest) ≡ cs → (c : ℕ) × (slice_get (chars (l ∷ rest)) 0 ≡ Some c) × (128 ≤ c)
    go [] bytes is = let none : [] ≡ l ∷ rest = bytes in absurd (cc)
    go (c ∷ cs) bytes is = (c, ap (λ (ys : Text). slice_get ys 0) is, large (nat_lt c 128) refl)
      where
        large : (b : Bool) → nat_lt c 128 ≡ b → 128 ≤ c
        large true e =
            let lt : c < 128 = grind (arith, nat_tests) in
            let one : c ∷ encode_utf8_all cs ≡ l ∷ rest = ap (λ (bs : Text). bs ++ encode_utf8_all cs) (sym (encode_ascii c lt)) ∙ bytes in
            let same : c ≡ l = ap (λ (ys : Text). get_or ys 0 0) one in
            absurd (omega arith)
        large false e = grind (arith, nat_tests)

module _ (options : List Choice) (l : ℕ) (rest : Text) (other : l ≢ 45) where
  no_dash : (l == 45) ≡ false
  no_dash = other_byte l 45 other

  short_first : (w : Waiting) (h : Held) → word_met (full_rules options) [] false w 1 (45 ∷ l ∷ rest) h ≡ short_word (full_rules options) w (45 ∷ l ∷ rest) (l ∷ rest) h
  short_first w h =
      met_other (full_rules options) w (45 ∷ l ∷ rest) h (ap (λ b. b && bytes_eq rest []) no_dash)
      ∙ ap (λ b. long_or_other (full_rules options) w (45 ∷ l ∷ rest) (option_and_then long_of_rest (cond b (Some rest) None)) h) no_dash
      ∙ ap (λ b. short_or_plain (full_rules options) w (45 ∷ l ∷ rest) (cond b None (Some (l ∷ rest))) h) no_dash

  short_first_fault : (w : Waiting) (h : Held) → word_fault (top options) [] false w (45 ∷ l ∷ rest) h ≡ bundle_fault (full_rules options) false (l ∷ rest) h
  short_first_fault w h =
      fault_other (top options) w (45 ∷ l ∷ rest) h (ap (λ b. b && bytes_eq rest []) no_dash)
      ∙ ap (λ b. flag_word_fault (full_rules options) false (option_and_then long_of_rest (cond b (Some rest) None)) (45 ∷ l ∷ rest) h) no_dash
      ∙ ap (λ b. option_map_or (λ flags. bundle_fault (full_rules options) false flags h) (cond b None (Some (l ∷ rest))) []) no_dash

  bundle_first : (c : ℕ) (rows : List Row) (pending : Option (Text × List Text)) → slice_get (chars (l ∷ rest)) 0 ≡ Some c
      → bundle (full_rules options) (l ∷ rest) (holds rows pending) ≡ bundle_step (full_rules options) (Some c) (l ∷ rest) 0 plain (holds rows pending) (bundle_met (full_rules options) (length rest))
  unfolding bundle_met
  bundle_first c rows pending first = ap (λ o. bundle_step (full_rules options) o (l ∷ rest) 0 plain (holds rows pending) (bundle_met (full_rules options) (length rest))) first

  bundle_first_fault : (c : ℕ) (rows : List Row) (pending : Option (Text × List Text)) → slice_get (chars (l ∷ rest)) 0 ≡ Some c
      → bundle_fault (full_rules options) false (l ∷ rest) (holds rows pending) ≡ bundle_step_fault (full_rules options) false (Some c) (l ∷ rest) 0 (holds rows pending) (flags_fault (full_rules options) false (length rest))
  unfolding flags_fault
  bundle_first_fault c rows pending first = ap (λ o. bundle_step_fault (full_rules options) false o (l ∷ rest) 0 (holds rows pending) (flags_fault (full_rules options) false (length rest))) first

  pub short_flag : (o : Choice) → by_letter options l ≡ Some o → l < 128 → IsFlag options (45 ∷ l ∷ rest) o (attached_value rest)
  short_flag o is lt =
      let c : List Rule = full_rules options in
      let found : arg_by_short c l ≡ Some (option_rule o) = short_found options l ∙ ap (option_map option_rule) is in
      record {
        met = λ w rows pending.
            let h : Held = holds rows pending in
            short_first w h
            ∙ ap (λ (q : Held × Outcome). after_flag c w (45 ∷ l ∷ rest) q.0 q.1)
            (bundle_first l rows pending (first_ascii l rest lt)
            ∙ ap (λ (bs : Text). short_met c (arg_by_short c l) (drop (length bs) (l ∷ rest)) h (bundle_met c (length rest) (drop (length bs) (l ∷ rest)) 0 done)) (encode_ascii l lt)
            ∙ ap (λ (a : Option Rule). short_met c a rest h (bundle_met c (length rest) rest 0 done)) found)
            ∙ after_option c w (45 ∷ l ∷ rest) (option_rule o) (attached_value rest) h;
        fault = λ w rows pending.
            let h : Held = holds rows pending in
            short_first_fault w h
            ∙ bundle_first_fault l rows pending (first_ascii l rest lt)
            ∙ ap (λ (bs : Text). short_fault c false (arg_by_short c l) (drop (length bs) (l ∷ rest)) h (flags_fault c false (length rest) (drop (length bs) (l ∷ rest)) 0)) (encode_ascii l lt)
            ∙ ap (λ (a : Option Rule). short_fault c false a rest h (flags_fault c false (length rest) rest 0)) found;
      }

  pub short_bad : (c : ℕ) → slice_get (chars (l ∷ rest)) 0 ≡ Some c → by_letter options c ≡ None → IsBad options (45 ∷ l ∷ rest)
  short_bad c first is =
      let found : arg_by_short (full_rules options) c ≡ None = short_found options c ∙ ap (option_map option_rule) is in
      let following : Text = drop (length (encode_utf8 c)) (l ∷ rest) in
      record {
        fault = λ w rows pending.
            short_first_fault w (holds rows pending)
            ∙ bundle_first_fault c rows pending first
            ∙ ap (λ (a : Option Rule). short_fault (full_rules options) false a following (holds rows pending) (flags_fault (full_rules options) false (length rest) following 0)) found;
      }
