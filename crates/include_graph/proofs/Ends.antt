-- File words by their kinds, and keys that are cut before their endings.
use Rattle.std.proofs.Common.{◌≡◌, inl, inr, ℕ, ◌+◌, Bool, true, false, List, ◌++◌, length, take, drop, sym, ◌∙◌, ap, arith}
use Rattle.std.specs.Bool.{Decides}
use Rattle.std.proofs.lemmas.Bool.{true≢false}
use Rattle.std.proofs.lemmas.List.{take_all, take-append-le, take-append-drop, length-append}
use Rattle.std.proofs.Math.Seq.{drop-append_seam}
use Rattle.ipdl_base.specs.FileNames.{IsFileWord}
use Rattle.ipdl_base.proofs.Ends.{decided}
use Rattle.ipdl_syntax.specs.declared.tree.FileKind.{FileKind}
use Rattle.ipdl_syntax.specs.declared.tree.FileKind.TheVariants as file
use Rattle.include_graph.specs.Keys.{is_same, HasKind}

-- texts that differ by their test
pub other_is : (xs ys : List ℕ) → is_same xs ys ≡ false → ¬ (xs ≡ ys)
other_is xs ys h e = true≢false (sym ((decided xs ys).1 e) ∙ h)

-- a text of either kind names a file
pub kind_word : (word : List ℕ) (kind : FileKind) → HasKind word kind → IsFileWord word
kind_word word file.Protocol (front, e) = (front, inl e)
kind_word word file.Header (front, e) = (front, inr e)

-- by the two kinds of file
pub of_kinds : {P : Type 0} (word : List ℕ) → IsFileWord word → (HasKind word file.Protocol → P) → (HasKind word file.Header → P) → P
of_kinds word (front, inl e) protocol header = protocol (front, e)
of_kinds word (front, inr e) protocol header = header (front, e)

-- the parts of a key that is cut before its ending
front_is : (key name ending : List ℕ) (n : ℕ) → n + length ending ≡ length key → key ≡ name ++ ending → take n key ≡ name
front_is key name ending n room e =
    let as_long : n ≡ length name = omega (arith, room, ap length e, length-append name ending) in
    ap (take n) e ∙ take-append-le n name ending (omega (arith, as_long)) ∙ take_all n name (omega (arith, as_long))

back_is : (key name ending : List ℕ) (n : ℕ) → n + length ending ≡ length key → key ≡ name ++ ending → drop n key ≡ ending
back_is key name ending n room e =
    let as_long : n ≡ length name = omega (arith, room, ap length e, length-append name ending) in
    ap (drop n) e ∙ ap (λ k. drop k (name ++ ending)) as_long ∙ drop-append_seam name ending

-- if the first part is the name, the key has the name before the ending exactly if the last part is the ending
pub split_ends : (key name ending front back : List ℕ) (n : ℕ) (first second : Bool) → n + length ending ≡ length key → front ≡ take n key → back ≡ drop n key → first ≡ is_same front name → first ≡ true → second ≡ is_same back ending → Decides second (key ≡ name ++ ending)
split_ends key name ending front back n first second room f b one holds two = (
  λ h. sym (take-append-drop n key) ∙ ap (λ xs. xs ++ drop n key) (sym f ∙ (decided front name).0 (sym one ∙ holds)) ∙ ap (λ ys. name ++ ys) (sym b ∙ (decided back ending).0 (sym two ∙ h)),
  λ e. two ∙ (decided back ending).1 (b ∙ back_is key name ending n room e),
)

-- if the first part is another name, it has not
pub no_front : (key name ending front : List ℕ) (n : ℕ) (first : Bool) → n + length ending ≡ length key → front ≡ take n key → first ≡ is_same front name → first ≡ false → Decides first (key ≡ name ++ ending)
no_front key name ending front n first room f one wrong = (
  λ h. absurd (true≢false (sym h ∙ wrong)),
  λ e. one ∙ (decided front name).1 (f ∙ front_is key name ending n room e),
)

-- an equation with its sides exchanged
pub turned : {a b : List ℕ} {t : Bool} → Decides t (a ≡ b) → Decides t (b ≡ a)
turned d = (λ h. sym (d.0 h), λ e. d.1 (sym e))
