-- Where two texts are the same, and the beginning of each decides where it ends, they begin with the same and
-- continue with the same.
use Rattle.std.proofs.Common.{◌≡◌, ℕ, zero, suc, ◌+◌, ◌*◌, ◌-◌, ◌/◌, ◌%◌, ◌<◌, ◌≤◌, ◌^◌, ◌==◌, nat_lt, nat_le, nat_abs, ℤ, pos, negsuc, Bool, true, false, ◌&&◌, ◌||◌, if◌then◌else◌, List, [], ◌∷◌, ◌++◌, codes, length, drop, refl, sym, ap, subst, ◌∙◌, arith, append_assoc, length-append, ⊎_elim}
use Rattle.std.specs.Fmt.{decimal, digit_glyph, digits, digits_onto, signed_decimal}
use Rattle.std.specs.List.{flat_map, list_all}
use Rattle.std.proofs.lemmas.Bool.{eqb-true}
use Rattle.std.proofs.lemmas.Bool.Decides.{Decides-ltb, leb_tells}
use Rattle.std.proofs.lemmas.Fmt.{decimal_injective, decimal_nonempty}
use Rattle.value_types.specs.ValueText.{hex_digit, hex_byte, hex_digits, escaped}

-- a text is at its end, or continues with a byte that a test refuses
abbrev pub StopsAt : (ℕ → Bool) → List ℕ → Type 0
StopsAt ok [] = Unit {0}
StopsAt ok (b ∷ bs) = ok b ≡ false

pub both : (a b : Bool) → (a && b) ≡ true → (a ≡ true) × (b ≡ true)
both true true h = (refl, refl)
both true false h = cc
both false true h = cc
both false false h = cc

-- bytes that a test accepts, followed by one that it refuses
pub spans : (ok : ℕ → Bool) (x y r q : List ℕ) → list_all ok x ≡ true → list_all ok y ≡ true → StopsAt ok r → StopsAt ok q → x ++ r ≡ y ++ q → (x ≡ y) × (r ≡ q)
spans ok [] [] r q a b s t e = (refl, e)
spans ok [] (c ∷ y) r q a b s t e =
    let stops : ok c ≡ false = subst (StopsAt ok) e s in
    let takes = (both (ok c) (list_all ok y) b).0 in cc
spans ok (c ∷ x) [] r q a b s t e =
    let stops : ok c ≡ false = subst (StopsAt ok) (sym e) t in
    let takes = (both (ok c) (list_all ok x) a).0 in cc
spans ok (c ∷ x) (d ∷ y) r q a b s t e =
    let same : c ≡ d = cc in
    let rest : x ++ r ≡ y ++ q = ap (drop 1) e in
    let more = spans ok x y r q (both (ok c) (list_all ok x) a).1 (both (ok d) (list_all ok y) b).1 s t rest in
    ((let front = more.0 in cc), more.1)

-- Numbers

-- a digit, or the sign of a number
abbrev pub is_number_byte : ℕ → Bool
is_number_byte b = (b == 45) || (nat_le 48 b && nat_le b 57)

abbrev pub Stops : List ℕ → Type 0
Stops text = StopsAt is_number_byte text

pub or-right : (a b : Bool) → b ≡ true → (a || b) ≡ true
or-right true b h = refl
or-right false b h = h

abbrev is_digit : ℕ → Bool
is_digit b = nat_le 48 b && nat_le b 57

at-most : (a b : ℕ) → a ≤ b → nat_le a b ≡ true
at-most a b h = ⊎_elim (λ (t : (nat_le a b ≡ true) × (a ≤ b)). t.0) (λ (t : (nat_le a b ≡ false) × (b < a)). let more = t.1 in absurd (omega (arith, h, more))) (leb_tells a b)

glyph-digit : (d : ℕ) → d < 10 → is_digit (digit_glyph false d) ≡ true
glyph-digit d small =
    let low : nat_le 48 (48 + d) ≡ true = at-most 48 (48 + d) (omega arith) in
    let high : nat_le (48 + d) 57 ≡ true = at-most (48 + d) 57 (omega (arith, small)) in
    ap (λ (b : Bool). is_digit (if b then 48 + d else 87 + d)) ((Decides-ltb d 10).1 small) ∙ ap (λ (b : Bool). b && nat_le (48 + d) 57) low ∙ high

either-digits : (b : Bool) (one other : List ℕ) → list_all is_digit one ≡ true → list_all is_digit other ≡ true → list_all is_digit (if b then one else other) ≡ true
either-digits true one other h k = h
either-digits false one other h k = k

onto-digits : (k n : ℕ) (following : List ℕ) → list_all is_digit following ≡ true → list_all is_digit (digits_onto k 10 false n following) ≡ true
onto-digits zero n following h = h
onto-digits (suc k) n following h =
    let more : list_all is_digit (digit_glyph false (n % 10) ∷ following) ≡ true = ap (λ (b : Bool). b && list_all is_digit following) (glyph-digit (n % 10) (omega arith)) ∙ h in
    either-digits (n / 10 == 0) (digit_glyph false (n % 10) ∷ following) (digits_onto k 10 false (n / 10) (digit_glyph false (n % 10) ∷ following)) more (onto-digits k (n / 10) (digit_glyph false (n % 10) ∷ following) more)

decimal-digits : (n : ℕ) → list_all is_digit (decimal n) ≡ true
unfolding digits
decimal-digits n = onto-digits 64 n [] refl

digits-numbers : (bs : List ℕ) → list_all is_digit bs ≡ true → list_all is_number_byte bs ≡ true
digits-numbers [] h = refl
digits-numbers (b ∷ bs) h =
    let parts = both (is_digit b) (list_all is_digit bs) h in
    ap (λ (x : Bool). x && list_all is_number_byte bs) (or-right (b == 45) (is_digit b) parts.0) ∙ digits-numbers bs parts.1

decimal-numbers : (n : ℕ) → list_all is_number_byte (decimal n) ≡ true
decimal-numbers n = digits-numbers (decimal n) (decimal-digits n)

pub signed-numbers : (n : ℤ) → list_all is_number_byte (signed_decimal n) ≡ true
signed-numbers (pos n) = decimal-numbers n
signed-numbers (negsuc n) = decimal-numbers (suc n)

-- no decimal begins with a sign
unsigned : (n : ℕ) (rest : List ℕ) → decimal n ≡ 45 ∷ rest → ⊥
unsigned n rest e =
    let all : list_all is_digit (45 ∷ rest) ≡ true = subst (λ (bs : List ℕ). list_all is_digit bs ≡ true) e (decimal-digits n) in cc

pub signed-some : (n : ℤ) → nat_abs n < 2 ^ 64 → signed_decimal n ≡ [] → ⊥
signed-some (pos n) h e = let some : 0 < length (decimal n) = decimal_nonempty n h in let none : length (decimal n) ≡ 0 = ap length e in omega (arith, some, none)
signed-some (negsuc n) h e = cc

signed-one : (a b : ℤ) → nat_abs a < 2 ^ 64 → nat_abs b < 2 ^ 64 → signed_decimal a ≡ signed_decimal b → a ≡ b
signed-one (pos m) (pos n) p q e = ap pos (decimal_injective m n p q e)
signed-one (pos m) (negsuc n) p q e = absurd (unsigned m (decimal (suc n)) e)
signed-one (negsuc m) (pos n) p q e = absurd (unsigned n (decimal (suc m)) (sym e))
signed-one (negsuc m) (negsuc n) p q e = let same : suc m ≡ suc n = decimal_injective (suc m) (suc n) p q (ap (drop 1) e) in ap negsuc (omega (arith, same))

pub numbers-decide : (a b : ℤ) (r q : List ℕ) → nat_abs a < 2 ^ 64 → nat_abs b < 2 ^ 64 → Stops r → Stops q → signed_decimal a ++ r ≡ signed_decimal b ++ q → (a ≡ b) × (r ≡ q)
numbers-decide a b r q h k s t e =
    let parts = spans is_number_byte (signed_decimal a) (signed_decimal b) r q (signed-numbers a) (signed-numbers b) s t e in
    (signed-one a b h k parts.0, parts.1)

pub counts-decide : (a b : ℕ) (r q : List ℕ) → a < 2 ^ 64 → b < 2 ^ 64 → Stops r → Stops q → decimal a ++ r ≡ decimal b ++ q → (a ≡ b) × (r ≡ q)
counts-decide a b r q h k s t e =
    let parts = spans is_number_byte (decimal a) (decimal b) r q (decimal-numbers a) (decimal-numbers b) s t e in
    (decimal_injective a b h k parts.0, parts.1)

-- Hexadecimal digits

abbrev hex_value : ℕ → ℕ
hex_value c = if nat_lt c 58 then c - 48 else c - 87

hex-value : (n : ℕ) → hex_value (hex_digit n) ≡ n
hex-value n = by (nat_lt n 10) refl
  where
    by : (b : Bool) → nat_lt n 10 ≡ b → hex_value (if b then 48 + n else 87 + n) ≡ n
    by true is =
        let small : n < 10 = (Decides-ltb n 10).0 is in
        ap (λ (b : Bool). if b then (48 + n) - 48 else (48 + n) - 87) ((Decides-ltb (48 + n) 58).1 (omega (arith, small))) ∙ omega arith
    by false is =
        ap (λ (b : Bool). if b then (87 + n) - 48 else (87 + n) - 87) (isnt (nat_lt (87 + n) 58) refl) ∙ omega arith
      where
        isnt : (b : Bool) → nat_lt (87 + n) 58 ≡ b → b ≡ false
        isnt true h = let less : 87 + n < 58 = (Decides-ltb (87 + n) 58).0 h in absurd (omega (arith, less))
        isnt false h = refl

hex-one : (a b : ℕ) → hex_digit a ≡ hex_digit b → a ≡ b
hex-one a b e = sym (hex-value a) ∙ ap hex_value e ∙ hex-value b

hex-isnt : (n : ℕ) → hex_digit n ≡ 34 → ⊥
hex-isnt n = by (nat_lt n 10)
  where
    by : (b : Bool) → (if b then 48 + n else 87 + n) ≡ 34 → ⊥
    by true h = omega (arith, h)
    by false h = omega (arith, h)

-- bytes by their digits, up to a quote
pub bytes-decide : (s t r q : List ℕ) → flat_map hex_byte s ++ 34 ∷ r ≡ flat_map hex_byte t ++ 34 ∷ q → (s ≡ t) × (r ≡ q)
bytes-decide [] [] r q e = (refl, ap (drop 1) e)
bytes-decide [] (b ∷ t) r q e = let first : hex_digit (b / 16) ≡ 34 = cc in absurd (hex-isnt (b / 16) first)
bytes-decide (a ∷ s) [] r q e = let first : hex_digit (a / 16) ≡ 34 = cc in absurd (hex-isnt (a / 16) first)
bytes-decide (a ∷ s) (b ∷ t) r q e =
    let high : hex_digit (a / 16) ≡ hex_digit (b / 16) = cc in
    let low : hex_digit (a % 16) ≡ hex_digit (b % 16) = cc in
    let quotient = hex-one (a / 16) (b / 16) high in
    let remainder = hex-one (a % 16) (b % 16) low in
    let same : a ≡ b = omega (arith, quotient, remainder) in
    let more = bytes-decide s t r q (ap (drop 2) e) in
    ((let rest = more.0 in cc), more.1)

-- lists of equal length
pub lengths-decide : {A : Type 0} (x y r q : List A) → length x ≡ length y → x ++ r ≡ y ++ q → (x ≡ y) × (r ≡ q)
lengths-decide [] [] r q l e = (refl, e)
lengths-decide [] (b ∷ y) r q l e = absurd (omega (arith, l))
lengths-decide (a ∷ x) [] r q l e = absurd (omega (arith, l))
lengths-decide (a ∷ x) (b ∷ y) r q l e =
    let same : a ≡ b = cc in
    let more = lengths-decide x y r q (let longer = l in omega (arith, longer)) (ap (drop 1) e) in
    ((let rest = more.0 in cc), more.1)

hexes-length : (count n : ℕ) → length (hex_digits count n) ≡ count
unfolding hex_digits
hexes-length zero n = refl
hexes-length (suc count) n =
    let before = hexes-length count (n / 16) in
    let longer = length-append (hex_digits count (n / 16)) (hex_digit (n % 16) ∷ []) in
    longer ∙ omega (arith, before)

hexes-one : (count a b : ℕ) → a < 16 ^ count → b < 16 ^ count → hex_digits count a ≡ hex_digits count b → a ≡ b
unfolding hex_digits
hexes-one zero a b h k e = omega (arith, h, k)
hexes-one (suc count) a b h k e =
    let parts = lengths-decide (hex_digits count (a / 16)) (hex_digits count (b / 16)) (hex_digit (a % 16) ∷ []) (hex_digit (b % 16) ∷ []) (hexes-length count (a / 16) ∙ sym (hexes-length count (b / 16))) e in
    let last : hex_digit (a % 16) ≡ hex_digit (b % 16) = let end = parts.1 in cc in
    let remainder = hex-one (a % 16) (b % 16) last in
    let quotient = hexes-one count (a / 16) (b / 16) (omega (arith, h)) (omega (arith, k)) parts.0 in
    omega (arith, quotient, remainder)

pub bits-decide : (count a b : ℕ) (r q : List ℕ) → a < 16 ^ count → b < 16 ^ count → hex_digits count a ++ r ≡ hex_digits count b ++ q → (a ≡ b) × (r ≡ q)
bits-decide count a b r q h k e =
    let parts = lengths-decide (hex_digits count a) (hex_digits count b) r q (hexes-length count a ∙ sym (hexes-length count b)) e in
    (hexes-one count a b h k parts.0, parts.1)

-- Texts between quotes

-- the first byte of an escaped text, and what follows it
abbrev hex_told : List ℕ → ℕ × List ℕ
hex_told [] = (0, [])
hex_told (h ∷ []) = (0, [])
hex_told (h ∷ l ∷ rest) = (16 * hex_value h + hex_value l, rest)

abbrev after_told : List ℕ → ℕ × List ℕ
after_told [] = (0, [])
after_told (c ∷ rest) = if c == 34 then (34, rest) else (if c == 92 then (92, rest) else (if c == 110 then (10, rest) else (if c == 116 then (9, rest) else hex_told rest)))

abbrev told : List ℕ → ℕ × List ℕ
told [] = (0, [])
told (c ∷ rest) = if c == 92 then after_told rest else (c, rest)

escaped-told : (byte : ℕ) (rest : List ℕ) → told (escaped byte ++ rest) ≡ (byte, rest)
escaped-told byte rest = by (byte == 34) (byte == 92) (byte == 10) (byte == 9) (nat_lt byte 32 || (byte == 127)) refl refl refl refl
  where
    by : (quote back feed tab control : Bool) → (byte == 34) ≡ quote → (byte == 92) ≡ back → (byte == 10) ≡ feed → (byte == 9) ≡ tab
        → told ((if quote then codes "\\\"" else (if back then codes "\\\\" else (if feed then codes "\\n" else (if tab then codes "\\t" else (if control then codes "\\x" ++ hex_byte byte else (byte ∷ [])))))) ++ rest) ≡ (byte, rest)
    by true back feed tab control a b c d = ap (λ (n : ℕ). (n, rest)) (sym (eqb-true byte 34 a))
    by false true feed tab control a b c d = ap (λ (n : ℕ). (n, rest)) (sym (eqb-true byte 92 b))
    by false false true tab control a b c d = ap (λ (n : ℕ). (n, rest)) (sym (eqb-true byte 10 c))
    by false false false true control a b c d = ap (λ (n : ℕ). (n, rest)) (sym (eqb-true byte 9 d))
    by false false false false true a b c d =
        let high = hex-value (byte / 16) in
        let low = hex-value (byte % 16) in
        ap (λ (n : ℕ). (n, rest)) (omega (arith, high, low))
    by false false false false false a b c d = ap (λ (t : Bool). if t then after_told rest else (byte, rest)) b

escaped-isnt : (byte : ℕ) (rest following : List ℕ) → escaped byte ++ rest ≡ 34 ∷ following → ⊥
escaped-isnt byte rest following e =
    let is : byte ≡ 34 = ap (λ (t : ℕ × List ℕ). t.0) (sym (escaped-told byte rest) ∙ ap told e) in
    let first : escaped 34 ++ rest ≡ 34 ∷ following = ap (λ (n : ℕ). escaped n ++ rest) (sym is) ∙ e in
    cc

-- the bytes between quotes
pub texts-decide : (s t r q : List ℕ) → flat_map escaped s ++ 34 ∷ r ≡ flat_map escaped t ++ 34 ∷ q → (s ≡ t) × (r ≡ q)
texts-decide [] [] r q e = (refl, ap (drop 1) e)
texts-decide [] (b ∷ t) r q e = absurd (escaped-isnt b (flat_map escaped t ++ 34 ∷ q) r (sym (append_assoc (escaped b) (flat_map escaped t) (34 ∷ q)) ∙ sym e))
texts-decide (a ∷ s) [] r q e = absurd (escaped-isnt a (flat_map escaped s ++ 34 ∷ r) q (sym (append_assoc (escaped a) (flat_map escaped s) (34 ∷ r)) ∙ e))
texts-decide (a ∷ s) (b ∷ t) r q e =
    let apart : escaped a ++ (flat_map escaped s ++ 34 ∷ r) ≡ escaped b ++ (flat_map escaped t ++ 34 ∷ q) =
    sym (append_assoc (escaped a) (flat_map escaped s) (34 ∷ r)) ∙ e ∙ append_assoc (escaped b) (flat_map escaped t) (34 ∷ q) in
    let parts : (a, flat_map escaped s ++ 34 ∷ r) ≡ (b, flat_map escaped t ++ 34 ∷ q) = sym (escaped-told a (flat_map escaped s ++ 34 ∷ r)) ∙ ap told apart ∙ escaped-told b (flat_map escaped t ++ 34 ∷ q) in
    let same : a ≡ b = ap (λ (p : ℕ × List ℕ). p.0) parts in
    let more = texts-decide s t r q (ap (λ (p : ℕ × List ℕ). p.1) parts) in
    ((let rest = more.0 in cc), more.1)
