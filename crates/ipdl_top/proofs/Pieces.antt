-- What is written piece by piece.
use Rattle.std.proofs.Common.{◌≡◌, ℕ, List, [], ◌++◌, take, drop, refl, sym, ◌∙◌, ap, append_assoc}
use Rattle.std.specs.Prelude.{Option, Some, None}
use Rattle.std.proofs.lemmas.List.{append-nil, take-append-drop}
use Rattle.ipdl_base.specs.Outside.{Appends}

-- one piece and then another
pub Appends-more : (old mid new : Option (List ℕ)) (front piece : List ℕ) → Appends old mid front → Appends mid new piece → Appends old new (front ++ piece)
Appends-more None None new front piece first second = second
Appends-more None (Some w) new front piece first second = absurd (let no : ⊥ = cc in no)
Appends-more (Some o) None new front piece first second = absurd (let no : ⊥ = cc in no)
Appends-more (Some o) (Some w) new front piece first second =
    second ∙ ap Some (let e : w ≡ o ++ front = cc in ap (λ x. x ++ piece) e ∙ append_assoc o front piece)

-- nothing
pub Appends-nothing : (old : Option (List ℕ)) → Appends old old []
Appends-nothing None = refl
Appends-nothing (Some w) = ap Some (sym (append-nil w))

-- a prefix of what is left is moved
pub moved : (text front rest : List ℕ) (n : ℕ) → text ≡ front ++ rest → text ≡ (front ++ take n rest) ++ drop n rest
moved text front rest n split = split ∙ ap (λ x. front ++ x) (sym (take-append-drop n rest)) ∙ sym (append_assoc front (take n rest) (drop n rest))
