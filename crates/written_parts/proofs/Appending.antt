-- How a list grows by appending.
use Rattle.std.proofs.Common.{◌≡◌, ◌∙◌, ℕ, suc, ◌+◌, ◌<◌, List, [], ◌∷◌, ◌++◌, Option, append_assoc, append-nil, length, map, take, get_or, sym, ap, subst, arith}
use Rattle.std.specs.List.{flat_map, enumerate_from}
use Rattle.std.proofs.lemmas.List.{take_more, length-take, map-append, flat_map_more}
use Rattle.written_parts.specs.Appends.{Appends}

-- nothing
pub appends_none : {X Y : Type 0} (view : X → Y) (a : List X) → Appends view [] a a
appends_none view a = sym (append-nil (map view a))

-- one element
pub appends_one : {X Y : Type 0} (view : X → Y) (x : X) (y : Y) (a b : List X) → b ≡ a ++ x ∷ [] → view x ≡ y → Appends view (y ∷ []) a b
appends_one view x y a b e same = ap (map view) e ∙ map-append view a (x ∷ []) ∙ ap (λ z. map view a ++ z ∷ []) same

-- one gain after another
pub appends_then : {X Y : Type 0} (view : X → Y) (ys zs : List Y) (a b c : List X) → Appends view ys a b → Appends view zs b c → Appends view (ys ++ zs) a c
appends_then view ys zs a b c one two = two ∙ ap (λ l. l ++ zs) one ∙ append_assoc (map view a) ys zs

-- the value of an option
pub appends_held : {X Y Z : Type 0} (view : X → Y) (parts : Option Z → List Y) (o p : Option Z) (a b : List X) → o ≡ p → Appends view (parts p) a b → Appends view (parts o) a b
appends_held {X} {Y} {Z} view parts o p a b e h = let Q : Option Z → Type 0 = λ q. Appends view (parts q) a b in subst Q (sym e) h

-- a turn of a loop: the parts of the first elements, and then those of the next
pub appends_turn : {W X Y : Type 0} (view : X → Y) (parts : W → List Y) (ws : List W) (i : ℕ) (w : W) (a b c : List X) → i < length ws → w ≡ get_or ws i w → Appends view (flat_map parts (take i ws)) a b → Appends view (parts w) b c → Appends view (flat_map parts (take (i + 1) ws)) a c
appends_turn view parts ws i w a b c lt is one two =
    two ∙ ap (λ l. l ++ parts w) one ∙ flat_map_more parts (map view a) (take i ws) w
    ∙ ap (λ z. map view a ++ flat_map parts (take i ws ++ z ∷ [])) is ∙ ap (λ l. map view a ++ flat_map parts l) (sym (take_more ws i w lt))

-- the same if each element gives one
pub map-turn : {X Y Z : Type 0} (view : Y → Z) (f : X → Z) (front : List Z) (xs : List X) (i : ℕ) (x : X) (ys zs : List Y) (y : Y) → i < length xs → x ≡ get_or xs i x → zs ≡ ys ++ y ∷ [] → view y ≡ f x → map view ys ≡ front ++ map f (take i xs) → map view zs ≡ front ++ map f (take (i + 1) xs)
map-turn view f front xs i x ys zs y lt is new same old =
    ap (map view) new ∙ map-append view ys (y ∷ []) ∙ ap (λ l. l ++ view y ∷ []) old ∙ ap (λ z. (front ++ map f (take i xs)) ++ z ∷ []) (same ∙ ap f is)
    ∙ append_assoc front (map f (take i xs)) (f (get_or xs i x) ∷ []) ∙ ap (λ l. front ++ l) (sym (map-append f (take i xs) (get_or xs i x ∷ [])) ∙ ap (map f) (sym (take_more xs i x lt)))

-- one more element with its number
enumerated_push : {W : Type 0} (n : ℕ) (ws : List W) (w : W) → enumerate_from n (ws ++ w ∷ []) ≡ enumerate_from n ws ++ (n + length ws, w) ∷ []
enumerated_push n [] w = let here : n ≡ n + 0 = omega arith in ap (λ k. (k, w) ∷ []) here
enumerated_push n (v ∷ vs) w =
    let next : (n + 1) + length vs ≡ n + suc (length vs) = omega arith in
    ap (λ l. (n, v) ∷ l) (enumerated_push (n + 1) vs w ∙ ap (λ k. enumerate_from (n + 1) vs ++ (k, w) ∷ []) next)

-- a turn of a loop in which the number of an element counts
pub numbered_turn : {W Y : Type 0} (parts : ℕ × W → List Y) (ws : List W) (i : ℕ) (w : W) (ys zs : List Y) → i < length ws → w ≡ get_or ws i w → ys ≡ flat_map parts (enumerate_from 0 (take i ws)) → zs ≡ ys ++ parts (i, w) → zs ≡ flat_map parts (enumerate_from 0 (take (i + 1) ws))
numbered_turn parts ws i w ys zs lt is one two =
    let number : i ≡ 0 + length (take i ws) = omega (arith, length-take i ws, lt) in
    two ∙ ap (λ l. l ++ parts (i, w)) one ∙ flat_map_more parts [] (enumerate_from 0 (take i ws)) (i, w)
    ∙ ap (λ k. flat_map parts (enumerate_from 0 (take i ws) ++ (k, w) ∷ [])) number
    ∙ ap (flat_map parts) (sym (enumerated_push 0 (take i ws) w) ∙ ap (λ z. enumerate_from 0 (take i ws ++ z ∷ [])) is ∙ ap (enumerate_from 0) (sym (take_more ws i w lt)))
