-- Lists of words without repeats, one word at a time.
use Rattle.std.proofs.Common.{◌≡◌, ◌≢◌, ◌∙◌, ◌<◌, ◌≤◌, ◌||◌, ◌⊎◌, ℕ, Bool, true, false, cond, not, List, [], ◌∷◌, ◌++◌, length, filter, refl, sym, ap, subst, inl, inr, arith, append_assoc, append-nil, length-append}
use Rattle.std.specs.List.{AllByRecursion, list_any}
use Rattle.std.specs.Str.{bytes_eq}
use Rattle.ipdl_base.specs.FileNames.{IsFileWord, key_of}
use Rattle.command_words.specs.Compile.{AreListed, HasWord, firsts}
use Rattle.command_words.proofs.Comparisons.{differs, same_text, text_is}

abbrev Text : Type 0
Text = List ℕ

-- whether the word is in the list, and the list with it
abbrev has : List Text → Text → Bool
has ws w = list_any (λ v. bytes_eq v w) ws

abbrev with_word : List Text → Text → List Text
with_word ws w = cond (has ws w) ws (ws ++ w ∷ [])

abbrev others : Text → List Text → List Text
others x ws = filter (λ v. not (bytes_eq v x)) ws

others_append : (x : Text) (ws vs : List Text) → others x (ws ++ vs) ≡ others x ws ++ others x vs
others_append x [] vs = refl
others_append x (w ∷ ws) vs =
    elim (bytes_eq w x) as (λ b. cond (not b) (w ∷ others x (ws ++ vs)) (others x (ws ++ vs)) ≡ cond (not b) (w ∷ others x ws) (others x ws) ++ others x vs)
    [ true ↦ others_append x ws vs | false ↦ ap (λ (rest : List Text). w ∷ rest) (others_append x ws vs) ]

-- another word is among the others where it is in the list
has_others : (x w : Text) (ws : List Text) → bytes_eq x w ≡ false → has (others x ws) w ≡ has ws w
has_others x w [] other = refl
has_others x w (v ∷ ws) other = go (bytes_eq v x) refl (has_others x w ws other)
  where
    go : (b : Bool) → bytes_eq v x ≡ b → has (others x ws) w ≡ has ws w → has (cond (not b) (v ∷ others x ws) (others x ws)) w ≡ (bytes_eq v w || has ws w)
    go true e later = later ∙ ap (λ b. b || has ws w) (sym (ap (λ (t : Text). bytes_eq t w) (text_is v x e) ∙ other))
    go false e later = ap (λ b. bytes_eq v w || b) later

-- one word more
pub firsts_more : (ws : List Text) (w : Text) → firsts (ws ++ w ∷ []) ≡ with_word (firsts ws) w
firsts_more [] w = refl
firsts_more (x ∷ ws) w = ap (λ (vs : List Text). x ∷ others x vs) (firsts_more ws w) ∙ go (bytes_eq x w) refl (has (firsts ws) w) refl
  where
    go : (b : Bool) → bytes_eq x w ≡ b → (h : Bool) → has (firsts ws) w ≡ h
        → x ∷ others x (cond h (firsts ws) (firsts ws ++ w ∷ [])) ≡ cond (b || has (others x (firsts ws)) w) (x ∷ others x (firsts ws)) ((x ∷ others x (firsts ws)) ++ w ∷ [])
    go true e true f = refl
    go true e false f =
        let same : w ≡ x = sym (text_is x w e) in
        ap (λ (vs : List Text). x ∷ vs) (others_append x (firsts ws) (w ∷ []) ∙ ap (λ b. others x (firsts ws) ++ cond (not b) (w ∷ []) []) (ap (λ (t : Text). bytes_eq t x) same ∙ same_text x) ∙ append-nil (others x (firsts ws)))
    go false e true f = ap (λ b. cond b (x ∷ others x (firsts ws)) ((x ∷ others x (firsts ws)) ++ w ∷ [])) (sym (has_others x w (firsts ws) e ∙ f))
    go false e false f =
        ap (λ (vs : List Text). x ∷ vs) (others_append x (firsts ws) (w ∷ []) ∙ ap (λ b. others x (firsts ws) ++ cond (not b) (w ∷ []) []) (differs x w e))
        ∙ ap (λ b. cond b (x ∷ others x (firsts ws)) ((x ∷ others x (firsts ws)) ++ w ∷ [])) (sym (has_others x w (firsts ws) e ∙ f))

-- the test and the fact
pub has_word : (ws : List Text) (w : Text) → has ws w ≡ true → HasWord ws w
has_word [] w e = cc
has_word (v ∷ ws) w e = go (bytes_eq v w) refl e (has_word ws w)
  where
    go : (b : Bool) → bytes_eq v w ≡ b → (b || has ws w) ≡ true → (has ws w ≡ true → HasWord ws w) → (v ≡ w) ⊎ HasWord ws w
    go true f e later = inl (text_is v w f)
    go false f e later = inr (later e)

pub word_has : (ws : List Text) (w : Text) → HasWord ws w → has ws w ≡ true
word_has [] w h = absurd h
word_has (v ∷ ws) w (inl e) = ap (λ b. b || has ws w) (ap (bytes_eq v) (sym e) ∙ same_text v)
word_has (v ∷ ws) w (inr h) = or_true (bytes_eq v w) (word_has ws w h)
  where
    or_true : (b : Bool) → has ws w ≡ true → (b || has ws w) ≡ true
    or_true true e = refl
    or_true false e = e

in_front : (ws vs : List Text) (w : Text) → HasWord ws w → HasWord (ws ++ vs) w
in_front [] vs w h = absurd h
in_front (x ∷ ws) vs w (inl e) = inl e
in_front (x ∷ ws) vs w (inr h) = inr (in_front ws vs w h)

at_end : (ws : List Text) (w : Text) → HasWord (ws ++ w ∷ []) w
at_end [] w = inl refl
at_end (x ∷ ws) w = inr (at_end ws w)

in_or_end : (ws : List Text) (v w : Text) → HasWord (ws ++ w ∷ []) v → HasWord ws v ⊎ (w ≡ v)
in_or_end [] v w (inl e) = inr e
in_or_end [] v w (inr h) = absurd h
in_or_end (x ∷ ws) v w (inl e) = inl (inl e)
in_or_end (x ∷ ws) v w (inr h) = elim (in_or_end ws v w h) [ inl k ↦ inl (inr k) | inr e ↦ inr e ]

-- the list with one word more has what it had, and the word
kept_word : (ws : List Text) (v w : Text) → HasWord ws v → HasWord (with_word ws w) v
kept_word ws v w h = elim (has ws w) as (λ b. HasWord (cond b ws (ws ++ w ∷ [])) v) [ true ↦ h | false ↦ in_front ws (w ∷ []) v h ]

new_word : (ws : List Text) (w : Text) → HasWord (with_word ws w) w
new_word ws w = go (has ws w) refl
  where
    go : (b : Bool) → has ws w ≡ b → HasWord (cond b ws (ws ++ w ∷ [])) w
    go true e = has_word ws w e
    go false e = at_end ws w

grows : (ws : List Text) (w : Text) → length ws ≤ length (with_word ws w)
grows ws w = elim (has ws w) as (λ b. length ws ≤ length (cond b ws (ws ++ w ∷ []))) [ true ↦ omega arith | false ↦ omega (arith, length-append ws (w ∷ [])) ]

-- more words lose no file, and the list gets no shorter
firsts_keep : (ws more : List Text) (v : Text) → HasWord (firsts ws) v → HasWord (firsts (ws ++ more)) v
firsts_keep ws [] v h = subst (λ (xs : List Text). HasWord (firsts xs) v) (sym (append-nil ws)) h
firsts_keep ws (w ∷ more) v h =
    subst (λ (xs : List Text). HasWord (firsts xs) v) (append_assoc ws (w ∷ []) more)
    (firsts_keep (ws ++ w ∷ []) more v (subst (λ (xs : List Text). HasWord xs v) (sym (firsts_more ws w)) (kept_word (firsts ws) v w h)))

firsts_grow : (ws more : List Text) → length (firsts ws) ≤ length (firsts (ws ++ more))
firsts_grow ws [] = subst (λ (xs : List Text). length (firsts ws) ≤ length (firsts xs)) (sym (append-nil ws)) (omega arith)
firsts_grow ws (w ∷ more) =
    let one : length (firsts ws) ≤ length (firsts (ws ++ w ∷ [])) = subst (λ (xs : List Text). length (firsts ws) ≤ length xs) (sym (firsts_more ws w)) (grows (firsts ws) w) in
    let later : length (firsts (ws ++ w ∷ [])) ≤ length (firsts (ws ++ w ∷ more)) = subst (λ (xs : List Text). length (firsts (ws ++ w ∷ [])) ≤ length (firsts xs)) (append_assoc ws (w ∷ []) more) (firsts_grow (ws ++ w ∷ []) more) in
    omega arith

firsts_new : (ws more : List Text) (w : Text) → HasWord (firsts (ws ++ w ∷ more)) w
firsts_new ws more w =
    subst (λ (xs : List Text). HasWord (firsts xs) w) (append_assoc ws (w ∷ []) more)
    (firsts_keep (ws ++ w ∷ []) more w (subst (λ (xs : List Text). HasWord xs w) (sym (firsts_more ws w)) (new_word (firsts ws) w)))

each_word : (P : Text → Type 0) (ws : List Text) (w : Text) → AllByRecursion P ws → HasWord ws w → P w
each_word P [] w all h = absurd h
each_word P (v ∷ ws) w all (inl e) = subst P e all.0
each_word P (v ∷ ws) w all (inr h) = each_word P ws w all.1 h

each_more : (P : Text → Type 0) (ws : List Text) (w : Text) → AllByRecursion P ws → P w → AllByRecursion P (ws ++ w ∷ [])
each_more P [] w all p = (p, tt)
each_more P (v ∷ ws) w all p = (all.0, each_more P ws w all.1 p)

-- ---- the files that words name, one word at a time

-- a word that is no file's
pub not_listed : (seen more files : List Text) (w : Text) → ¬ IsFileWord w → ¬ AreListed (seen ++ w ∷ more) files
not_listed seen more files w refused h = refused (each_word IsFileWord (firsts (seen ++ w ∷ more)) w (subst (AllByRecursion IsFileWord) h.files_are h.each) (firsts_new seen more w))

-- a word that is in the list
pub again_listed : (seen files : List Text) (w : Text) → AreListed seen files → HasWord files w → AreListed (seen ++ w ∷ []) files
again_listed seen files w h stands = record {
  files_are = h.files_are ∙ sym (firsts_more seen w ∙ ap (λ b. cond b (firsts seen) (firsts seen ++ w ∷ [])) (word_has (firsts seen) w (subst (λ (xs : List Text). HasWord xs w) h.files_are stands)));
  each = h.each;
  most = h.most;
  keys = h.keys;
}

-- another word of a key that is in the list
pub key_listed : (seen more files all : List Text) (v w : Text) → AreListed seen files → HasWord files v → key_of v ≡ key_of w → v ≢ w → ¬ AreListed (seen ++ w ∷ more) all
key_listed seen more files all v w h stands same ne listed =
    let into : (x : Text) → HasWord (firsts (seen ++ w ∷ more)) x → HasWord all x = λ x. subst (λ (xs : List Text). HasWord xs x) (sym listed.files_are) in
    ne (listed.keys v w (into v (firsts_keep seen (w ∷ more) v (subst (λ (xs : List Text). HasWord xs v) h.files_are stands))) (into w (firsts_new seen more w)) same)

-- a word of a new key
new_has_none : (files : List Text) (w : Text) → ((v : Text) → HasWord files v → key_of v ≢ key_of w) → has files w ≡ false
new_has_none files w none = go (has files w) refl
  where
    go : (b : Bool) → has files w ≡ b → b ≡ false
    go true e = absurd (none w (has_word files w e) refl)
    go false e = refl

new_firsts : (seen files : List Text) (w : Text) → AreListed seen files → ((v : Text) → HasWord files v → key_of v ≢ key_of w) → files ++ w ∷ [] ≡ firsts (seen ++ w ∷ [])
new_firsts seen files w h none =
    sym (firsts_more seen w ∙ ap (λ (xs : List Text). with_word xs w) (sym h.files_are) ∙ ap (λ b. cond b files (files ++ w ∷ [])) (new_has_none files w none))

pub new_listed : (seen files : List Text) (w : Text) → AreListed seen files → IsFileWord w → ((v : Text) → HasWord files v → key_of v ≢ key_of w) → length files < 4096 → AreListed (seen ++ w ∷ []) (files ++ w ∷ [])
new_listed seen files w h file none few = record {
  files_are = new_firsts seen files w h none;
  each = each_more IsFileWord files w h.each file;
  most = omega (arith, length-append files (w ∷ []));
  keys = λ v u hv hu same. go v u same (in_or_end files v w hv) (in_or_end files u w hu);
}
  where
    go : (v u : Text) → key_of v ≡ key_of u → HasWord files v ⊎ (w ≡ v) → HasWord files u ⊎ (w ≡ u) → v ≡ u
    go v u same (inl hv) (inl hu) = h.keys v u hv hu same
    go v u same (inl hv) (inr e) = absurd (none v hv (same ∙ ap key_of (sym e)))
    go v u same (inr e) (inl hu) = absurd (none u hu (sym (ap key_of e ∙ same)))
    go v u same (inr e) (inr f) = sym e ∙ f

-- a word of a new key, if the list is full
pub full_listed : (seen more files all : List Text) (w : Text) → AreListed seen files → ((v : Text) → HasWord files v → key_of v ≢ key_of w) → 4096 ≤ length files → ¬ AreListed (seen ++ w ∷ more) all
full_listed seen more files all w h none full listed =
    let one : length (files ++ w ∷ []) ≤ length (firsts ((seen ++ w ∷ []) ++ more)) = subst (λ (xs : List Text). length xs ≤ length (firsts ((seen ++ w ∷ []) ++ more))) (sym (new_firsts seen files w h none)) (firsts_grow (seen ++ w ∷ []) more) in
    let most : length (firsts ((seen ++ w ∷ []) ++ more)) ≤ 4096 = subst (λ (xs : List Text). length xs ≤ 4096) (listed.files_are ∙ ap firsts (sym (append_assoc seen (w ∷ []) more))) listed.most in
    absurd (omega (arith, length-append files (w ∷ [])))
