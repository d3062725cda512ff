-- What readers of parts take from the beginning is what is written there, and they take what was written.
use Rattle.std.proofs.Common.{◌≡◌, ◌≤◌, ◌<◌, ℕ, zero, suc, ◌+◌, ◌^◌, ℤ, Bool, true, false, cond, ltb, eqb, List, [], ◌∷◌, ◌++◌, length, take, drop, replicate, Result, Ok, Err, refl, sym, ap, subst, ◌∙◌, append_assoc, arith, length-append}
use Rattle.std.proofs.lemmas.Bool.{ltb-false, le-ltb, eqb-true}
use Rattle.std.proofs.lemmas.Int.{to_z-of_z, of_z-to_z}
use Rattle.std.proofs.lemmas.List.{take_at, drop_at, take-append-drop, length-take, get_or-drop, get_or-take, get_or_past}
use Rattle.std.proofs.lemmas.Bool.{cases_lt}
use Rattle.std.proofs.Common.{inl, inr}
use Rattle.std.specs.Int.{w32, cast_signed, cast_unsigned}
use Rattle.std.specs.Int.RustNames.{FitsSigned}
use Rattle.byteorder.specs.Endian.{little_number}
use Rattle.byteorder.specs.Numbers.{little_from-lt, little_number-reads_back}
use Rattle.value_types.specs.declared.layout.Layout.{Layout}
use Rattle.value_types.specs.Sizes.{padding}
use Rattle.value_codec.specs.declared.fault.Fault.{Fault}
use Rattle.ipdl_base.specs.declared.finding.TheConstants.Rule as rule
use Rattle.value_codec.specs.Reading.{◌>>=◌, at, short, zeros, word_at, field_at, flag_at, struct_at, may_stand, counted_at, is_id, id_at}
use Rattle.value_codec.specs.Spelling.{part, word, signed_word, truth_byte, struct_byte, counted}
use Rattle.value_codec.proofs.LittleEndian.{IsBytes, bytes_back}
use Rattle.value_codec.proofs.Signed.{word_fits, unsigned_small}

-- Results

-- the value of a step that did not fail
pub bind_ok : {A B : Type 0} (r : Result A Fault) (f : A → Result B Fault) (y : B) → (r >>= f) ≡ Ok y → (x : A) × (r ≡ Ok x) × (f x ≡ Ok y)
bind_ok (Ok x) f y e = (x, refl, e)
bind_ok (Err d) f y e = absurd cc

-- a test after which a step did not fail
pub else_ok : {A : Type 0} (b : Bool) (d : Fault) (r : Result A Fault) (y : A) → cond b (Err d) r ≡ Ok y → (b ≡ false) × (r ≡ Ok y)
else_ok true d r y e = absurd cc
else_ok false d r y e = (refl, e)

pub then_ok : {A : Type 0} (b : Bool) (d : Fault) (r : Result A Fault) (y : A) → cond b r (Err d) ≡ Ok y → (b ≡ true) × (r ≡ Ok y)
then_ok true d r y e = (refl, e)
then_ok false d r y e = absurd cc

abbrev done : {A : Type 0} → A → Result A Fault
done x = Ok x

pub ok_is : {A : Type 0} (x y : A) → done x ≡ done y → x ≡ y
ok_is x y e = cc

abbrev pub both : {A B : Type 0} → A → B → Result (A × B) Fault
both x y = Ok (x, y)

abbrev pub pair : {A B : Type 0} → A → B → A × B
pair x y = (x, y)

pub first_is : {A B : Type 0} (x : A) (y : B) (x' : A) (y' : B) → both x y ≡ both x' y' → x ≡ x'
first_is x y x' y' e = let p : pair x y ≡ pair x' y' = ok_is (pair x y) (pair x' y') e in ap (λ q. q.0) p

pub second_is : {A B : Type 0} (x : A) (y : B) (x' : A) (y' : B) → both x y ≡ both x' y' → y ≡ y'
second_is x y x' y' e = let p : pair x y ≡ pair x' y' = ok_is (pair x y) (pair x' y') e in ap (λ q. q.1) p

-- what is true of what a reader made is true of what it gave
pub moved : {A : Type 0} (S : A → List ℕ → Type 0) (x : A) (r : List ℕ) (y : A) (s : List ℕ) → both x r ≡ both y s → S x r → S y s
moved S x r y s e h = subst (λ q. S y q) (second_is x r y s e) (subst (λ p. S p r) (first_is x r y s e) h)

-- Bytes

pub IsBytes-drop : (n : ℕ) (bytes : List ℕ) → IsBytes bytes → IsBytes (drop n bytes)
IsBytes-drop n bytes h i = rw get_or-drop (h (n + i))

pub IsBytes-take : (n : ℕ) (bytes : List ℕ) → IsBytes bytes → IsBytes (take n bytes)
IsBytes-take n bytes h i =
    elim (cases_lt i n) [
      | inl lt ↦ rw (get_or-take n bytes i 0 lt) (h i)
      | inr le ↦ rw (get_or_past (take n bytes) i 0 (omega (arith, length-take n bytes))) (omega arith)
    ]

-- what a reader took from the beginning
pub record Takes (bytes text rest : List ℕ) : Type 0 where
  pub parts : bytes ≡ text ++ rest
  pub rest_fits : IsBytes rest

pub Takes-then : (a x b y c : List ℕ) → Takes a x b → Takes b y c → Takes a (x ++ y) c
Takes-then a x b y c p q = record { parts = p.parts ∙ ap (λ (t : List ℕ). x ++ t) q.parts ∙ sym (append_assoc x y c); rest_fits = q.rest_fits }

-- Zeros

pub zeros_takes : (n : ℕ) (bytes rest : List ℕ) → IsBytes bytes → zeros n bytes ≡ Ok rest → Takes bytes (replicate n 0) rest
unfolding zeros
zeros_takes zero bytes rest fits e = let same = ok_is bytes rest e in record { parts = same; rest_fits = subst IsBytes same fits }
zeros_takes (suc n) [] rest fits e = absurd cc
zeros_takes (suc n) (zero ∷ bytes) rest fits e = let t = zeros_takes n bytes rest (λ i. fits (suc i)) e in record { parts = ap (λ (xs : List ℕ). 0 ∷ xs) t.parts; rest_fits = t.rest_fits }
zeros_takes (suc n) (suc b ∷ bytes) rest fits e = absurd cc

pub zeros_again : (n : ℕ) (rest : List ℕ) → zeros n (replicate n 0 ++ rest) ≡ Ok rest
unfolding zeros
zeros_again zero rest = refl
zeros_again (suc n) rest = zeros_again n rest

-- a part, and the zeros after it
pub part_takes : (layout : Layout) (bytes front following rest : List ℕ) → bytes ≡ front ++ following → Takes following (replicate (padding layout (length front)) 0) rest → Takes bytes (part layout front) rest
part_takes layout bytes front following rest is t = record {
  parts = is ∙ ap (λ (t : List ℕ). front ++ t) t.parts ∙ sym (append_assoc front (replicate (padding layout (length front)) 0) rest);
  rest_fits = t.rest_fits;
}

-- Words

pub word_takes : (bytes : List ℕ) (n : ℕ) (rest : List ℕ) → IsBytes bytes → word_at bytes ≡ Ok (n, rest) → Takes bytes (word n) rest × (n < 2 ^ 32)
word_takes bytes n rest fits e =
    let g = else_ok (ltb (length bytes) 4) short (Ok (little_number 4 bytes, drop 4 bytes)) (n, rest) e in
    let long : 4 ≤ length bytes = ltb-false _ _ g.0 in
    let n-is : little_number 4 bytes ≡ n = first_is _ _ _ _ g.1 in
    let rest-is : drop 4 bytes ≡ rest = second_is _ _ _ _ g.1 in
    let front : take 4 bytes ≡ word n = sym (bytes_back 4 bytes fits long) ∙ ap word n-is in (
      record { parts = sym (take-append-drop 4 bytes) ∙ (λ i. front i ++ rest-is i); rest_fits = subst IsBytes rest-is (IsBytes-drop 4 bytes fits) },
      subst (λ (m : ℕ). m < 2 ^ 32) n-is (little_from-lt 0 4 bytes fits),
    )

pub word_again : (n : ℕ) (rest : List ℕ) → n < 2 ^ 32 → word_at (word n ++ rest) ≡ Ok (n, rest)
word_again n rest small =
    let long : ltb (length (word n ++ rest)) 4 ≡ false = le-ltb _ _ (omega arith) in
    let back : little_number 4 (word n ++ rest) ≡ n = little_number-reads_back 4 n rest small in
    λ i. cond (long i) (Err short) (Ok (back i, rest))

-- Fields

pub record TakesField (layout : Layout) (n : ℕ) (bytes front rest : List ℕ) : Type 0 where
  pub size : length front ≡ n
  pub fits : IsBytes front
  pub takes : Takes bytes (part layout front) rest

pub field_takes : (layout : Layout) (n : ℕ) (bytes front rest : List ℕ) → IsBytes bytes → field_at layout n bytes ≡ Ok (front, rest) → TakesField layout n bytes front rest
unfolding field_at
field_takes layout n bytes front rest fits e =
    let g = else_ok (ltb (length bytes) n) short (zeros (padding layout n) (drop n bytes) >>= λ following. Ok (take n bytes, following)) (front, rest) e in
    let long : n ≤ length bytes = ltb-false _ _ g.0 in
    let b = bind_ok (zeros (padding layout n) (drop n bytes)) (λ following. Ok (take n bytes, following)) (front, rest) g.1 in
    let front-is : take n bytes ≡ front = first_is _ _ _ _ b.2 in
    let rest-is : b.0 ≡ rest = second_is _ _ _ _ b.2 in
    let size : length (take n bytes) ≡ n = omega (arith, length-take n bytes) in
    let z = zeros_takes (padding layout n) (drop n bytes) b.0 (IsBytes-drop n bytes fits) b.1 in
    let following : Takes (drop n bytes) (replicate (padding layout (length (take n bytes))) 0) b.0 = subst (λ (m : ℕ). Takes (drop n bytes) (replicate (padding layout m) 0) b.0) (sym size) z in
    let whole = part_takes layout bytes (take n bytes) (drop n bytes) b.0 (sym (take-append-drop n bytes)) following in
    let found : TakesField layout n bytes (take n bytes) b.0 = record { size = size; fits = IsBytes-take n bytes fits; takes = whole } in
    subst (λ (xs : List ℕ). TakesField layout n bytes xs rest) front-is (subst (λ (xs : List ℕ). TakesField layout n bytes (take n bytes) xs) rest-is found)

pub field_again : (layout : Layout) (n : ℕ) (front rest : List ℕ) → length front ≡ n → field_at layout n (part layout front ++ rest) ≡ Ok (front, rest)
unfolding field_at
field_again layout n front rest size =
    let following : List ℕ = replicate (padding layout (length front)) 0 ++ rest in
    let regrouped : part layout front ++ rest ≡ front ++ following = append_assoc front (replicate (padding layout (length front)) 0) rest in
    let long : ltb (length (front ++ following)) n ≡ false = le-ltb _ _ (omega (arith, length-append front following)) in
    let taken : take n (front ++ following) ≡ front = take_at front following n size in
    let dropped : drop n (front ++ following) ≡ following = drop_at front following n size in
    let again : zeros (padding layout n) following ≡ Ok rest = subst (λ (m : ℕ). zeros (padding layout m) following ≡ Ok rest) size (zeros_again (padding layout (length front)) rest) in
    ap (field_at layout n) regrouped
    ∙ (λ i. cond (long i) (Err short) (zeros (padding layout n) (dropped i) >>= λ r. Ok (taken i, r)))
    ∙ ap (λ (z : Result (List ℕ) Fault). z >>= λ r. Ok (front, r)) again

-- Tags

pub flag_takes : (layout : Layout) (bytes : List ℕ) (b : Bool) (rest : List ℕ) → IsBytes bytes → flag_at layout bytes ≡ Ok (b, rest) → Takes bytes (part layout (truth_byte b ∷ [])) rest
unfolding flag_at
flag_takes layout [] b rest fits e = absurd cc
flag_takes layout (zero ∷ bytes) b rest fits e =
    let t = bind_ok (zeros (padding layout 1) bytes) (λ r. Ok (false, r)) (b, rest) e in
    let z = zeros_takes (padding layout 1) bytes t.0 (λ i. fits (suc i)) t.1 in
    let whole = part_takes layout (0 ∷ bytes) (0 ∷ []) bytes t.0 refl z in
    subst (λ (c : Bool). Takes (0 ∷ bytes) (part layout (truth_byte c ∷ [])) rest) (first_is _ _ _ _ t.2) (subst (λ (xs : List ℕ). Takes (0 ∷ bytes) (part layout (0 ∷ [])) xs) (second_is _ _ _ _ t.2) whole)
flag_takes layout (suc zero ∷ bytes) b rest fits e =
    let t = bind_ok (zeros (padding layout 1) bytes) (λ r. Ok (true, r)) (b, rest) e in
    let z = zeros_takes (padding layout 1) bytes t.0 (λ i. fits (suc i)) t.1 in
    let whole = part_takes layout (1 ∷ bytes) (1 ∷ []) bytes t.0 refl z in
    subst (λ (c : Bool). Takes (1 ∷ bytes) (part layout (truth_byte c ∷ [])) rest) (first_is _ _ _ _ t.2) (subst (λ (xs : List ℕ). Takes (1 ∷ bytes) (part layout (1 ∷ [])) xs) (second_is _ _ _ _ t.2) whole)
flag_takes layout (suc (suc n) ∷ bytes) b rest fits e = absurd cc

pub flag_again : (layout : Layout) (b : Bool) (rest : List ℕ) → flag_at layout (part layout (truth_byte b ∷ []) ++ rest) ≡ Ok (b, rest)
unfolding flag_at
flag_again layout false rest = ap (λ (z : Result (List ℕ) Fault). z >>= λ r. Ok (false, r)) (zeros_again (padding layout 1) rest)
flag_again layout true rest = ap (λ (z : Result (List ℕ) Fault). z >>= λ r. Ok (true, r)) (zeros_again (padding layout 1) rest)

pub struct_takes : (layout : Layout) (bytes rest : List ℕ) → IsBytes bytes → struct_at layout bytes ≡ Ok rest → Takes bytes (part layout (struct_byte ∷ [])) rest
unfolding struct_at
struct_takes layout [] rest fits e = absurd cc
struct_takes layout (b ∷ bytes) rest fits e =
    let g = then_ok (eqb b struct_byte) (at rule.BAD_TAG (b ∷ bytes)) (zeros (padding layout 1) bytes) rest e in
    let z = zeros_takes (padding layout 1) bytes rest (λ i. fits (suc i)) g.1 in
    part_takes layout (b ∷ bytes) (struct_byte ∷ []) bytes rest (ap (λ (c : ℕ). c ∷ bytes) (eqb-true b struct_byte g.0)) z

pub struct_again : (layout : Layout) (rest : List ℕ) → struct_at layout (part layout (struct_byte ∷ []) ++ rest) ≡ Ok rest
unfolding struct_at
struct_again layout rest = zeros_again (padding layout 1) rest

-- Bytes after their length

pub counted_takes : (layout : Layout) (wants_text : Bool) (bytes text rest : List ℕ) → IsBytes bytes → counted_at layout wants_text bytes ≡ Ok (text, rest) → Takes bytes (counted layout text) rest × (may_stand wants_text text ≡ true)
unfolding counted_at
counted_takes layout wants_text bytes text rest fits e =
    let b = bind_ok (word_at bytes) (λ n. cond (ltb (length n.1) n.0) (Err short) (cond (may_stand wants_text (take n.0 n.1)) (zeros (padding layout (4 + n.0)) (drop n.0 n.1) >>= λ r. Ok (take n.0 n.1, r)) (Err (at rule.BAD_TEXT n.1)))) (text, rest) e in
    let n = b.0.0 in
    let following = b.0.1 in
    let w = word_takes bytes n following fits b.1 in
    let g = else_ok (ltb (length following) n) short (cond (may_stand wants_text (take n following)) (zeros (padding layout (4 + n)) (drop n following) >>= λ r. Ok (take n following, r)) (Err (at rule.BAD_TEXT following))) (text, rest) b.2 in
    let long : n ≤ length following = ltb-false _ _ g.0 in
    let t = then_ok (may_stand wants_text (take n following)) (at rule.BAD_TEXT following) (zeros (padding layout (4 + n)) (drop n following) >>= λ r. Ok (take n following, r)) (text, rest) g.1 in
    let d = bind_ok (zeros (padding layout (4 + n)) (drop n following)) (λ r. Ok (take n following, r)) (text, rest) t.1 in
    let size : length (take n following) ≡ n = omega (arith, length-take n following) in
    let back : n ≡ length (take n following) = omega (arith, size) in
    let z = zeros_takes (padding layout (4 + n)) (drop n following) d.0 (IsBytes-drop n following w.0.rest_fits) d.1 in
    let front : List ℕ = word (length (take n following)) ++ take n following in
    let front_size : 4 + n ≡ length front = omega (arith, length-append (word (length (take n following))) (take n following)) in
    let zs : Takes (drop n following) (replicate (padding layout (length front)) 0) d.0 = subst (λ (m : ℕ). Takes (drop n following) (replicate (padding layout m) 0) d.0) front_size z in
    let parts : bytes ≡ front ++ drop n following =
    w.0.parts
    ∙ ap (λ (m : ℕ). word m ++ following) back
    ∙ ap (λ (xs : List ℕ). word (length (take n following)) ++ xs) (sym (take-append-drop n following))
    ∙ sym (append_assoc (word (length (take n following))) (take n following) (drop n following)) in
    let whole = part_takes layout bytes front (drop n following) d.0 parts zs in
    moved (λ (xs r : List ℕ). Takes bytes (counted layout xs) r × (may_stand wants_text xs ≡ true)) (take n following) d.0 text rest d.2 (whole, t.0)

abbrev counted_after : Layout → Bool → ℕ → List ℕ → Result (List ℕ × List ℕ) Fault
counted_after layout wants_text n following =
    cond (ltb (length following) n) (Err short) (cond (may_stand wants_text (take n following)) (zeros (padding layout (4 + n)) (drop n following) >>= λ r. Ok (take n following, r)) (Err (at rule.BAD_TEXT following)))

pub counted_again : (layout : Layout) (wants_text : Bool) (text rest : List ℕ) → length text < 2 ^ 32 → may_stand wants_text text ≡ true → counted_at layout wants_text (counted layout text ++ rest) ≡ Ok (text, rest)
unfolding counted_at
counted_again layout wants_text text rest small stands =
    let n : ℕ = length text in
    let front : List ℕ = word n ++ text in
    let following : List ℕ = replicate (padding layout (length front)) 0 ++ rest in
    let regrouped : counted layout text ++ rest ≡ word n ++ (text ++ following) = append_assoc front (replicate (padding layout (length front)) 0) rest ∙ append_assoc (word n) text following in
    let first = word_again n (text ++ following) small in
    let long : ltb (length (text ++ following)) n ≡ false = le-ltb _ _ (omega (arith, length-append text following)) in
    let taken : take n (text ++ following) ≡ text = take_at text following n refl in
    let dropped : drop n (text ++ following) ≡ following = drop_at text following n refl in
    let front_size : length front ≡ 4 + n = omega (arith, length-append (word n) text) in
    let again : zeros (padding layout (4 + n)) following ≡ Ok rest = subst (λ (m : ℕ). zeros (padding layout m) following ≡ Ok rest) front_size (zeros_again (padding layout (length front)) rest) in
    ap (counted_at layout wants_text) regrouped
    ∙ ap (λ (w : Result (ℕ × List ℕ) Fault). w >>= λ x. counted_after layout wants_text x.0 x.1) first
    ∙ (λ i. cond (long i) (Err short) (cond (may_stand wants_text (taken i)) (zeros (padding layout (4 + n)) (dropped i) >>= λ r. Ok (taken i, r)) (Err (at rule.BAD_TEXT (text ++ following)))))
    ∙ (λ i. cond (stands i) (again i >>= λ r. Ok (text, r)) (Err (at rule.BAD_TEXT (text ++ following))))

-- Ids

pub record TakesId (nullable : Bool) (bytes : List ℕ) (id : ℤ) (rest : List ℕ) : Type 0 where
  pub takes : Takes bytes (signed_word id) rest
  pub allowed : is_id nullable id ≡ true
  pub fits : FitsSigned w32 id

pub id_takes : (nullable : Bool) (bytes : List ℕ) (id : ℤ) (rest : List ℕ) → IsBytes bytes → id_at nullable bytes ≡ Ok (id, rest) → TakesId nullable bytes id rest
unfolding id_at
id_takes nullable bytes id rest fits e =
    let b = bind_ok (word_at bytes) (λ n. cond (is_id nullable (cast_signed w32 n.0)) (Ok (cast_signed w32 n.0, n.1)) (Err (at rule.BAD_VALUE bytes))) (id, rest) e in
    let n = b.0.0 in
    let following = b.0.1 in
    let w = word_takes bytes n following fits b.1 in
    let t = then_ok (is_id nullable (cast_signed w32 n)) (at rule.BAD_VALUE bytes) (Ok (cast_signed w32 n, following)) (id, rest) b.2 in
    let same : word n ≡ signed_word (cast_signed w32 n) = ap word (sym (of_z-to_z w32 n w.1)) in
    let found : TakesId nullable bytes (cast_signed w32 n) following = record { takes = subst (λ (xs : List ℕ). Takes bytes xs following) same w.0; allowed = t.0; fits = word_fits n w.1 } in
    moved (λ (z : ℤ) (r : List ℕ). TakesId nullable bytes z r) (cast_signed w32 n) following id rest t.1 found

pub id_again : (nullable : Bool) (id : ℤ) (rest : List ℕ) → FitsSigned w32 id → is_id nullable id ≡ true → id_at nullable (signed_word id ++ rest) ≡ Ok (id, rest)
unfolding id_at
id_again nullable id rest fits allowed =
    let bytes : List ℕ = signed_word id ++ rest in
    let same : cast_signed w32 (cast_unsigned w32 id) ≡ id = to_z-of_z w32 id fits in
    ap (λ (w : Result (ℕ × List ℕ) Fault). w >>= λ n. cond (is_id nullable (cast_signed w32 n.0)) (Ok (cast_signed w32 n.0, n.1)) (Err (at rule.BAD_VALUE bytes))) (word_again (cast_unsigned w32 id) rest (unsigned_small id fits))
    ∙ (λ i. cond (is_id nullable (same i)) (Ok (same i, rest)) (Err (at rule.BAD_VALUE bytes)))
    ∙ (λ i. cond (allowed i) (Ok (id, rest)) (Err (at rule.BAD_VALUE bytes)))
