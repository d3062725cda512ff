-- The fields of a header are spelled by their bytes.
use Rattle.std.proofs.Common.{◌≡◌, ◌≤◌, ◌<◌, ℕ, ◌^◌, ℤ, Bool, true, false, cond, eqb, List, [], ◌++◌, length, take, drop, refl, sym, ap, ◌∙◌, arith}
use Rattle.std.proofs.Math.Seq.{take-add}
use Rattle.std.proofs.lemmas.Bool.{eqb-true}
use Rattle.std.proofs.lemmas.Int.{to_z-of_z, of_z-to_z}
use Rattle.std.proofs.lemmas.List.{length-drop, drop-drop}
use Rattle.std.specs.Int.{w32, cast_signed, cast_unsigned}
use Rattle.std.specs.Int.RustNames.{FitsSigned}
use Rattle.byteorder.specs.Endian.{little_number}
use Rattle.byteorder.specs.Numbers.{little_from-lt, little_number-reads_back}
use Rattle.value_types.specs.declared.layout.Layout.{Layout}
use Rattle.value_types.specs.declared.layout.TheConstants.{MARK}
use Rattle.value_codec.specs.declared.header.Header.{Header}
use Rattle.value_codec.specs.Frames.{header_in, has_mark}
use Rattle.value_codec.specs.Spelling.{word, signed_word, mark_of, address_bytes, order_bytes, fields_bytes}
use Rattle.value_codec.proofs.LittleEndian.{IsBytes, bytes_back}
use Rattle.value_codec.proofs.Signed.{word_fits, unsigned_small}
use Rattle.value_codec.proofs.Taken.{IsBytes-drop}

-- Words in bytes

number_small : (bytes : List ℕ) → IsBytes bytes → little_number 4 bytes < 2 ^ 32
number_small bytes fits = little_from-lt 0 4 bytes fits

word_there : (bytes : List ℕ) → IsBytes bytes → 4 ≤ length bytes → take 4 bytes ≡ word (little_number 4 bytes)
word_there bytes fits long = sym (bytes_back 4 bytes fits long)

signed_there : (bytes : List ℕ) → IsBytes bytes → 4 ≤ length bytes → take 4 bytes ≡ signed_word (cast_signed w32 (little_number 4 bytes))
signed_there bytes fits long = word_there bytes fits long ∙ ap word (sym (of_z-to_z w32 (little_number 4 bytes) (number_small bytes fits)))

-- three words
three : (bytes a b c : List ℕ) → take 4 bytes ≡ a → take 4 (drop 4 bytes) ≡ b → take 4 (drop 8 bytes) ≡ c → take 12 bytes ≡ a ++ b ++ c
three bytes a b c p q r =
    take-add 8 4 bytes ∙ (λ i. (take-add 4 4 bytes ∙ (λ j. p j ++ q j)) i ++ r i)

pub fields_there : (bytes : List ℕ) → IsBytes bytes → 24 ≤ length bytes → let h = header_in bytes in take 24 bytes ≡ fields_bytes h.size h.route h.number h.flags h.seq h.transaction
fields_there bytes fits long =
    let at : (n : ℕ) → IsBytes (drop n bytes) = λ n. IsBytes-drop n bytes fits in
    let room : (n : ℕ) → n ≤ 20 → 4 ≤ length (drop n bytes) = λ n below. omega (arith, length-drop n bytes) in
    let address : take 12 bytes ≡ address_bytes (header_in bytes).size (header_in bytes).route (header_in bytes).number =
    three bytes _ _ _ (word_there bytes fits (omega arith)) (signed_there (drop 4 bytes) (at 4) (room 4 (omega arith))) (word_there (drop 8 bytes) (at 8) (room 8 (omega arith))) in
    let seq_at : take 4 (drop 4 (drop 12 bytes)) ≡ signed_word (header_in bytes).seq = ap (take 4) (drop-drop 4 12 bytes) ∙ signed_there (drop 16 bytes) (at 16) (room 16 (omega arith)) in
    let transaction_at : take 4 (drop 8 (drop 12 bytes)) ≡ signed_word (header_in bytes).transaction = ap (take 4) (drop-drop 8 12 bytes) ∙ signed_there (drop 20 bytes) (at 20) (room 20 (omega arith)) in
    let order : take 12 (drop 12 bytes) ≡ order_bytes (header_in bytes).flags (header_in bytes).seq (header_in bytes).transaction =
    three (drop 12 bytes) _ _ _ (word_there (drop 12 bytes) (at 12) (room 12 (omega arith))) seq_at transaction_at in
    take-add 12 12 bytes ∙ (λ i. address i ++ order i)

-- What the fields of a header may be.
pub record HasFieldsOf (h : Header) : Type 0 where
  pub size : h.size < 2 ^ 32
  pub route : FitsSigned w32 h.route
  pub number : h.number < 2 ^ 32
  pub flags : h.flags < 2 ^ 32
  pub seq : FitsSigned w32 h.seq
  pub transaction : FitsSigned w32 h.transaction

pub fields_fit : (bytes : List ℕ) → IsBytes bytes → HasFieldsOf (header_in bytes)
fields_fit bytes fits =
    let at : (n : ℕ) → IsBytes (drop n bytes) = λ n. IsBytes-drop n bytes fits in record {
      size = number_small bytes fits;
      route = word_fits _ (number_small (drop 4 bytes) (at 4));
      number = number_small (drop 8 bytes) (at 8);
      flags = number_small (drop 12 bytes) (at 12);
      seq = word_fits _ (number_small (drop 16 bytes) (at 16));
      transaction = word_fits _ (number_small (drop 20 bytes) (at 20));
    }

-- the fields are read from their bytes, whatever follows
signed_again : (z : ℤ) (rest : List ℕ) → FitsSigned w32 z → cast_signed w32 (little_number 4 (signed_word z ++ rest)) ≡ z
signed_again z rest fits = ap (cast_signed w32) (little_number-reads_back 4 (cast_unsigned w32 z) rest (unsigned_small z fits)) ∙ to_z-of_z w32 z fits

abbrev spelled_by : Header → List ℕ
spelled_by h = fields_bytes h.size h.route h.number h.flags h.seq h.transaction

pub header_again : (h : Header) (rest : List ℕ) → HasFieldsOf h → header_in (spelled_by h ++ rest) ≡ h
header_again h rest fits =
    let r5 : List ℕ = rest in
    let r4 : List ℕ = signed_word h.transaction ++ rest in
    let r3 : List ℕ = signed_word h.seq ++ r4 in
    let r2 : List ℕ = word h.flags ++ r3 in
    let r1 : List ℕ = word h.number ++ r2 in
    let r0 : List ℕ = signed_word h.route ++ r1 in
    λ i. record {
      size = little_number-reads_back 4 h.size r0 fits.size i;
      route = signed_again h.route r1 fits.route i;
      number = little_number-reads_back 4 h.number r2 fits.number i;
      flags = little_number-reads_back 4 h.flags r3 fits.flags i;
      seq = signed_again h.seq r4 fits.seq i;
      transaction = signed_again h.transaction r5 fits.transaction i;
    }

-- The mark

mark_size : (layout : Layout) → length (mark_of layout) ≤ 4
mark_size layout = elim layout.marked as (λ b. length (cond b MARK []) ≤ 4) [ true ↦ omega arith | false ↦ omega arith ]

mark_by : (marked : Bool) (bytes : List ℕ) → IsBytes bytes → 4 ≤ length bytes → cond marked (eqb (little_number 4 bytes) (little_number 4 MARK)) true ≡ true → take (length (cond marked MARK [])) bytes ≡ cond marked MARK []
mark_by true bytes fits long e =
    let same : little_number 4 bytes ≡ little_number 4 MARK = eqb-true (little_number 4 bytes) (little_number 4 MARK) e in
    sym (bytes_back 4 bytes fits long) ∙ ap word same
mark_by false bytes fits long e = refl

pub mark_there : (layout : Layout) (bytes : List ℕ) → IsBytes bytes → 4 ≤ length bytes → has_mark layout bytes ≡ true → take (length (mark_of layout)) bytes ≡ mark_of layout
mark_there layout bytes fits long e = mark_by layout.marked bytes fits long e

pub mark_again : (layout : Layout) (rest : List ℕ) → has_mark layout (mark_of layout ++ rest) ≡ true
mark_again layout rest = elim layout.marked as (λ b. cond b (eqb (little_number 4 (cond b MARK [] ++ rest)) (little_number 4 MARK)) true ≡ true) [ true ↦ refl | false ↦ refl ]
