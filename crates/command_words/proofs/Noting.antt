-- The files that are noted, by their keys.
use Rattle.std.proofs.Common.{◌≡◌, ◌≢◌, ◌∙◌, ℕ, zero, suc, ◌<◌, take, drop, get_or, arith, Bool, true, false, cond, List, [], ◌∷◌, ◌++◌, Some, None, map, refl, sym, ap, subst, inl, inr, length}
use Rattle.std.specs.List.{AllByRecursion}
use Rattle.std.specs.Str.{bytes_eq}
use Rattle.std.specs.Borrow.{Bor}
use Rattle.std.specs.Map.{lookup}
use Rattle.std.proofs.lemmas.List.{map-append}
use Rattle.std.proofs.lemmas.Option.{same_Some}
use Rattle.ipdl_base.specs.FileNames.{key_of}
use Rattle.command_words.specs.Compile.{HasWord}
use Rattle.command_words.proofs.Comparisons.{same_text, text_is}
use Rattle.command_words.proofs.Lookups.{some_none}

abbrev Entries : Type 0
Entries = List (Bor (List ℕ) × Bor (List ℕ))

abbrev names : Entries → List (List ℕ)
names es = map (λ e. e.1.now) es

abbrev Keyed : Entries → Type 0
Keyed es = AllByRecursion (λ e. key_of e.1.now ≡ e.0.now) es

-- the word that is found is in the list, and has the key
pub found_key : (key : List ℕ) (es : Entries) (v : Bor (List ℕ)) → Keyed es → Some v ≡ lookup (λ y. bytes_eq key y.now) es → HasWord (names es) v.now × (key_of v.now ≡ key)
found_key key [] v k e = absurd (some_none v e)
found_key key (x ∷ es) v k e = go (bytes_eq key x.0.now) refl e (found_key key es v k.1)
  where
    go : (b : Bool) → bytes_eq key x.0.now ≡ b → Some v ≡ cond b (Some x.1) (lookup (λ y. bytes_eq key y.now) es)
        → (Some v ≡ lookup (λ y. bytes_eq key y.now) es → HasWord (names es) v.now × (key_of v.now ≡ key)) → HasWord (names (x ∷ es)) v.now × (key_of v.now ≡ key)
    go true f e later =
        let same : x.1 ≡ v = sym (same_Some v x.1 e) in
        (inl (ap (λ (r : Bor (List ℕ)). r.now) same), ap (λ (r : Bor (List ℕ)). key_of r.now) (sym same) ∙ k.0 ∙ sym (text_is key x.0.now f))
    go false f e later = let h = later e in (inr h.0, h.1)

-- no word in the list has a key that is not found
pub lacks_key : (key : List ℕ) (es : Entries) → Keyed es → None ≡ lookup (λ y. bytes_eq key y.now) es → (w : List ℕ) → HasWord (names es) w → key_of w ≢ key
lacks_key key [] k e w h is = h
lacks_key key (x ∷ es) k e w h is = go (bytes_eq key x.0.now) refl e h (λ f i. lacks_key key es k.1 f w i is)
  where
    go : (b : Bool) → bytes_eq key x.0.now ≡ b → None ≡ cond b (Some x.1) (lookup (λ y. bytes_eq key y.now) es) → HasWord (names (x ∷ es)) w
        → (None ≡ lookup (λ y. bytes_eq key y.now) es → HasWord (names es) w → ⊥) → ⊥
    go true f e h later = some_none x.1 (sym e)
    go false f e (inr h) later = later e h
    go false f e (inl i) later =
        let same : x.0.now ≡ key = sym k.0 ∙ ap key_of i ∙ is in
        let clash : true ≡ false = sym (same_text key) ∙ ap (bytes_eq key) (sym same) ∙ f in
        cc

-- a word under a new key goes last
keyed_last : (es : Entries) (key word : Bor (List ℕ)) → Keyed es → key_of word.now ≡ key.now → Keyed (es ++ (key, word) ∷ [])
keyed_last [] key word k h = (h, tt)
keyed_last (x ∷ es) key word k h = (k.0, keyed_last es key word k.1 h)

pub keyed_new : (old new : Entries) (key word : Bor (List ℕ)) → Keyed old → key_of word.now ≡ key.now → new ≡ old ++ (key, word) ∷ [] → Keyed new
keyed_new old new key word k h is = subst Keyed (sym is) (keyed_last old key word k h)

pub names_new : (old new : Entries) (key word : Bor (List ℕ)) → new ≡ old ++ (key, word) ∷ [] → names old ++ word.now ∷ [] ≡ names new
names_new old new key word is = sym (ap names is ∙ map-append (λ e. e.1.now) old ((key, word) ∷ []))

pub names_length : (es : Entries) → length (names es) ≡ length es
names_length [] = refl
names_length (x ∷ es) = ap suc (names_length es)

-- a list at one of its places
pub parted : (ws : List (Bor (List ℕ))) (i : ℕ) (d : Bor (List ℕ)) → i < length ws → map (λ w. w.now) ws ≡ map (λ w. w.now) (take i ws) ++ (get_or ws i d).now ∷ map (λ w. w.now) (drop (suc i) ws)
parted [] i d lt = absurd (omega arith)
parted (w ∷ ws) zero d lt = refl
parted (w ∷ ws) (suc i) d lt = ap (λ (rest : List (List ℕ)). w.now ∷ rest) (parted ws i d (omega arith))

-- the names are the values
pub values_names : (es : Entries) → map (λ name. name.now) (map (λ e. e.1) es) ≡ names es
values_names [] = refl
values_names (x ∷ es) = ap (λ (rest : List (List ℕ)). x.1.now ∷ rest) (values_names es)
