-- Parts of a text that is put together.
use Rattle.std.proofs.Common.{◌≡◌, ◌∙◌, ℕ, ◌+◌, ◌-◌, ◌≤◌, List, [], ◌∷◌, ◌++◌, drop, length, take, ap, arith}
use Rattle.std.proofs.Math.Seq.{drop-append_seam, take-append_seam, take-length}
use Rattle.std.proofs.lemmas.List.{length-append}

-- what is left of a text without its beginning
pub rest_of : (text begin rest : List ℕ) (count : ℕ) → count ≡ length begin → text ≡ begin ++ rest → take (length text - count) (drop count text) ≡ rest
rest_of text begin rest count counted is =
    let left : drop count text ≡ rest = ap (λ (n : ℕ). drop n text) counted ∙ (ap (drop (length begin)) is ∙ drop-append_seam begin rest) in
    let all : length text ≡ length begin + length rest = ap length is ∙ length-append begin rest in
    let same : length text - count ≡ length rest = omega arith in
    ap (λ (n : ℕ). take n (drop count text)) same ∙ (ap (take (length rest)) left ∙ take-length rest)

-- a text without its last byte
pub all_but_last : (whole text : List ℕ) (byte : ℕ) → whole ≡ text ++ byte ∷ [] → take (length whole - 1) whole ≡ text
all_but_last whole text byte is =
    let all : length whole ≡ length text + 1 = ap length is ∙ length-append text (byte ∷ []) in
    let same : length whole - 1 ≡ length text = omega arith in
    ap (λ (n : ℕ). take n whole) same ∙ (ap (take (length text)) is ∙ take-append_seam text (byte ∷ []))

-- a text with a last byte is not empty
pub one_at_least : (whole text : List ℕ) (byte : ℕ) → whole ≡ text ++ byte ∷ [] → 1 ≤ length whole
one_at_least whole text byte is =
    let all : length whole ≡ length text + 1 = ap length is ∙ length-append text (byte ∷ []) in
    omega arith
