-- Every word of a command is spelled in one of five ways.
use Rattle.std.proofs.Common.{◌≡◌, ◌≢◌, ◌∙◌, ◌==◌, ◌<◌, ◌≤◌, ◌||◌, ℕ, zero, suc, Bool, true, false, cond, List, [], ◌∷◌, ◌++◌, Option, Some, None, inl, inr, refl, sym, ap, subst, arith, true≢false}
use Rattle.std.specs.Prelude.{nat_lt, slice_get}
use Rattle.std.specs.Option.{option_map_or}
use Rattle.std.specs.Str.{IsUtf8, chars}
use Rattle.std.proofs.lemmas.Bool.Decides.{nat_tests}
use Rattle.std.proofs.lemmas.Str.{IsUtf8-drop, IsCharBoundary-after_ascii}
use Rattle.clap.specs.Lexer.{has_byte, name_and_value}
use Rattle.clap.specs.Words.{Text}
use Rattle.clap.specs.Walk.{attached_value}
use Rattle.clap.proofs.CutLemmas.{Lacks}
use Rattle.clap.proofs.LexerLemmas.{name_and_value-at, name_and_value-without}
use Rattle.command_words.specs.Options.{Choice, IsAmong, IsApart, IsAttached, IsJoined, IsPlain}
use Rattle.command_words.proofs.Comparisons.{other_byte, byte_is, byte_is_not}
use Rattle.command_words.specs.Tables.{IsTable, by_letter, by_name}
use Rattle.command_words.proofs.Lookups.{among_by_letter, among_by_name, by_letter_among, by_name_among, letter_fits, name_fits}
use Rattle.command_words.proofs.Spellings.{IsBad, IsFlag, dashes, first_ascii, first_wide, long_bad, long_flag, short_bad, short_flag}

or_parts : (a b : Bool) → (a || b) ≡ false → (a ≡ false) × (b ≡ false)
or_parts true b e = absurd (true≢false e)
or_parts false b e = (refl, e)

lacks_more : (x : ℕ) (xs : Text) → x ≢ 61 → Lacks 61 xs → Lacks 61 (x ∷ xs)
lacks_more x xs ne l zero lt = ne
lacks_more x xs ne l (suc i) lt = l i (omega arith)

lacks_none : Lacks 61 []
lacks_none i lt = absurd (omega arith)

-- a text without `=`
lacks : (text : Text) → has_byte 61 text ≡ false → Lacks 61 text
lacks [] e = lacks_none
lacks (x ∷ xs) e = let both = or_parts (x == 61) (has_byte 61 xs) e in lacks_more x xs (byte_is_not x 61 both.0) (lacks xs both.1)

-- A text, cut at its first `=`, if it has one.
data Cut (text : Text) : Type 0 where
  whole : Lacks 61 text → Cut text
  cut : (name value : Text) → text ≡ name ++ 61 ∷ value → Lacks 61 name → Cut text

cut_of : (text : Text) → Cut text
cut_of [] = whole lacks_none
cut_of (x ∷ xs) = go (cut_of xs) (x == 61) refl
  where
    go : Cut xs → (b : Bool) → (x == 61) ≡ b → Cut (x ∷ xs)
    go rest true e = cut [] xs (ap (λ (y : ℕ). y ∷ xs) (byte_is x 61 e)) lacks_none
    go (whole l) false e = whole (lacks_more x xs (byte_is_not x 61 e) l)
    go (cut name value parts l) false e = cut (x ∷ name) value (ap (λ (ys : Text). x ∷ ys) parts) (lacks_more x name (byte_is_not x 61 e) l)

-- A word that gives an option is read as that.
pub apart_flag : (options : List Choice) (o : Choice) (word : Text) → IsTable options → IsAmong options o → IsApart o word → IsFlag options word o None
apart_flag options o word t among (inl e) =
    let fits = name_fits options o t among in
    go o.name fits.0 (lacks o.name fits.1) (among_by_name options o t among) e
  where
    go : (name : Text) → name ≢ [] → Lacks 61 name → by_name options name ≡ Some o → word ≡ 45 ∷ 45 ∷ name → IsFlag options word o None
    go [] full l is e = absurd (full refl)
    go (x ∷ xs) full l is e = subst (λ (w : Text). IsFlag options w o None) (sym e) (long_flag options x xs (x ∷ xs) None (name_and_value-without (x ∷ xs) l) o is)
apart_flag options o word t among (inr h) =
    let fits = letter_fits options o h.0 t among h.1 in
    subst (λ (w : Text). IsFlag options w o None) (sym h.2) (short_flag options h.0 [] fits.1 o (among_by_letter options o h.0 t among h.1) fits.0)

pub joined_flag : (options : List Choice) (o : Choice) (value word : Text) → IsTable options → IsAmong options o → IsJoined o value word → IsFlag options word o (Some value)
joined_flag options o value word t among (inl e) =
    let fits = name_fits options o t among in
    go o.name fits.0 (lacks o.name fits.1) (among_by_name options o t among) e
  where
    go : (name : Text) → name ≢ [] → Lacks 61 name → by_name options name ≡ Some o → word ≡ 45 ∷ 45 ∷ (name ++ 61 ∷ value) → IsFlag options word o (Some value)
    go [] full l is e = absurd (full refl)
    go (x ∷ xs) full l is e = subst (λ (w : Text). IsFlag options w o (Some value)) (sym e) (long_flag options x (xs ++ 61 ∷ value) (x ∷ xs) (Some value) (name_and_value-at (x ∷ xs) value l) o is)
joined_flag options o value word t among (inr h) =
    let fits = letter_fits options o h.0 t among h.1 in
    let flag : (rest : Text) → IsFlag options (45 ∷ h.0 ∷ rest) o (attached_value rest) = λ rest. short_flag options h.0 rest fits.1 o (among_by_letter options o h.0 t among h.1) fits.0 in
    elim h.2 [
      | inl e ↦ subst (λ (w : Text). IsFlag options w o (Some value)) (sym e) (flag (61 ∷ value))
      | inr k ↦ subst (λ (w : Text). IsFlag options w o (Some value)) (sym k.0) (subst (λ (v : Option Text). IsFlag options (45 ∷ h.0 ∷ value) o v) (attached value k.1) (flag value))
    ]
  where
    attached : (v : Text) → IsAttached v → attached_value v ≡ Some v
    attached [] none = absurd none
    attached (y ∷ ys) ne = ap (λ b. option_map_or (λ v. Some v) (cond b (Some ys) None) (Some (y ∷ ys))) (other_byte y 61 ne)

-- How a word is spelled: as `--`, as a word of its own, as an option, or as nothing that is allowed.
pub data View (options : List Choice) (word : Text) : Type 0 where
  is_end : word ≡ dashes → View options word
  is_plain : IsPlain word → View options word
  is_apart : (o : Choice) → IsAmong options o → IsApart o word → View options word
  is_joined : (o : Choice) (value : Text) → IsAmong options o → IsJoined o value word → View options word
  is_bad : IsBad options word → View options word

long_view : (options : List Choice) (x : ℕ) (xs : Text) → View options (45 ∷ 45 ∷ x ∷ xs)
long_view options x xs = go (cut_of (x ∷ xs))
  where
    named : (name : Text) (value : Option Text) → name_and_value (x ∷ xs) ≡ (name, value)
        → ((o : Choice) → IsAmong options o → o.name ≡ name → View options (45 ∷ 45 ∷ x ∷ xs)) → (found : Option Choice) → by_name options name ≡ found → View options (45 ∷ 45 ∷ x ∷ xs)
    named name value parts known (Some o) is = let h = by_name_among options name o is in known o h.0 h.1
    named name value parts known None is = is_bad (long_bad options x xs name value parts is)

    go : Cut (x ∷ xs) → View options (45 ∷ 45 ∷ x ∷ xs)
    go (whole l) = named (x ∷ xs) None (name_and_value-without (x ∷ xs) l) (λ o among is. is_apart o among (inl (ap (λ (n : Text). 45 ∷ 45 ∷ n) (sym is)))) (by_name options (x ∷ xs)) refl
    go (cut name value parts l) =
        named name (Some value) (ap name_and_value parts ∙ name_and_value-at name value l)
        (λ o among is. is_joined o value among (inl (ap (λ (n : Text). 45 ∷ 45 ∷ n) parts ∙ ap (λ (n : Text). 45 ∷ 45 ∷ (n ++ 61 ∷ value)) (sym is))))
        (by_name options name) refl

short_view : (options : List Choice) (l : ℕ) (rest : Text) → IsTable options → IsUtf8 (l ∷ rest) → l ≢ 45 → View options (45 ∷ l ∷ rest)
short_view options l rest t u other = go (nat_lt l 128) refl
  where
    given : (o : Choice) → IsAmong options o → o.letter ≡ Some l → (r : Text) → r ≡ rest → View options (45 ∷ l ∷ rest)
    given o among is [] e = is_apart o among (inr (l, is, ap (λ (r : Text). 45 ∷ l ∷ r) (sym e)))
    given o among is (y ∷ ys) e = cases (y == 61) refl
      where
        cases : (b : Bool) → (y == 61) ≡ b → View options (45 ∷ l ∷ rest)
        cases true q = is_joined o ys among (inr (l, is, inl (ap (λ (r : Text). 45 ∷ l ∷ r) (sym e) ∙ ap (λ (z : ℕ). 45 ∷ l ∷ z ∷ ys) (byte_is y 61 q))))
        cases false q = is_joined o (y ∷ ys) among (inr (l, is, inr (ap (λ (r : Text). 45 ∷ l ∷ r) (sym e), byte_is_not y 61 q)))

    ascii : l < 128 → (found : Option Choice) → by_letter options l ≡ found → View options (45 ∷ l ∷ rest)
    ascii lt (Some o) is = let h = by_letter_among options l o is in given o h.0 h.1 rest refl
    ascii lt None is = is_bad (short_bad options l rest other l (first_ascii l rest lt) is)

    wide : (c : ℕ) → slice_get (chars (l ∷ rest)) 0 ≡ Some c → 128 ≤ c → (found : Option Choice) → by_letter options c ≡ found → View options (45 ∷ l ∷ rest)
    wide c first large (Some o) is = let h = by_letter_among options c o is in let fits = letter_fits options o c t h.0 h.1 in absurd (omega arith)
    wide c first large None is = is_bad (short_bad options l rest other c first is)

    go : (b : Bool) → nat_lt l 128 ≡ b → View options (45 ∷ l ∷ rest)
    go true e = ascii (grind (arith, nat_tests)) (by_letter options l) refl
    go false e = let first = first_wide l rest u (grind (arith, nat_tests)) in wide first.0 first.1 first.2 (by_letter options first.0) refl

pub view : (options : List Choice) (word : Text) → IsTable options → IsUtf8 word → View options word
view options [] t u = is_plain tt
view options (b ∷ []) t u = is_plain tt
view options (b ∷ c ∷ rest) t u = go (b == 45) refl (c == 45) refl rest refl
  where
    following : b ≡ 45 → IsUtf8 (c ∷ rest)
    following e = IsUtf8-drop (b ∷ c ∷ rest) 1 u (IsCharBoundary-after_ascii (b ∷ c ∷ rest) 0 u (omega arith) (omega arith))

    go : (p : Bool) → (b == 45) ≡ p → (q : Bool) → (c == 45) ≡ q → (r : Text) → r ≡ rest → View options (b ∷ c ∷ rest)
    go false e q f r is = is_plain (byte_is_not b 45 e)
    go true e false f r is = let dash : b ≡ 45 = byte_is b 45 e in subst (λ (x : ℕ). View options (x ∷ c ∷ rest)) (sym dash) (short_view options c rest t (following dash) (byte_is_not c 45 f))
    go true e true f [] is = is_end (ap (λ (x : ℕ). x ∷ c ∷ rest) (byte_is b 45 e) ∙ ap (λ (x : ℕ). 45 ∷ x ∷ rest) (byte_is c 45 f) ∙ ap (λ (r : Text). 45 ∷ 45 ∷ r) (sym is))
    go true e true f (x ∷ xs) is =
        subst (λ (w : Text). View options w) (ap (λ (r : Text). 45 ∷ 45 ∷ r) is ∙ ap (λ (y : ℕ). 45 ∷ y ∷ rest) (sym (byte_is c 45 f)) ∙ ap (λ (y : ℕ). y ∷ c ∷ rest) (sym (byte_is b 45 e))) (long_view options x xs)
