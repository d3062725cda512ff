-- The names of a key in the directories of the path.
use Rattle.std.proofs.Common.{◌≡◌, ◌≢◌, inl, inr, ℕ, ◌<◌, true, false, not, cond, List, [], ◌∷◌, ◌++◌, length, map, filter, get_or, is_some, refl, sym, ◌∙◌, ap, subst, arith, length-append}
use Rattle.std.specs.Prelude.{Some, codes}
use Rattle.std.specs.List.{AllPairs, Contains, list_any}
use Rattle.std.proofs.lemmas.List.{append_cancel_right, get_or_append_left}
use Rattle.ipdl_base.specs.FileNames.{key_of}
use Rattle.ipdl_base.specs.Outside.{FileMap}
use Rattle.ipdl_base.proofs.Ends.{by_test, same_is}
use Rattle.include_graph.specs.Keys.{different, is_same}
use Rattle.include_graph.specs.Sources.{in_directory, name_on_path}
use Rattle.include_graph.proofs.Places.{in_head, in_more, in_none}
use Rattle.include_graph.proofs.WholeKeys.{no_slash, slash}
use Rattle.include_graph.proofs.WordKeys.{head_or_tail}

any_slash : (xs ys : List ℕ) → list_any slash ((xs ++ 47 ∷ []) ++ ys) ≡ true
any_slash [] ys = refl
any_slash (x ∷ xs) ys = by_test (slash x) (λ e. rw e refl) (λ e. rw e (any_slash xs ys))

after_slash : (xs ys : List ℕ) → list_any slash ys ≡ false → key_of ((xs ++ 47 ∷ []) ++ ys) ≡ ys
after_slash [] ys h = rw h refl
after_slash (x ∷ xs) ys h = rw (any_slash xs ys) (after_slash xs ys h)

-- the key of a key's name in a directory is the key
pub key_in : (directory key : List ℕ) → key_of key ≡ key → key_of (in_directory directory key) ≡ key
key_in directory key own = by_test (is_same directory (codes "."))
    (λ e. rw e own)
    (λ e. rw e (after_slash directory key (subst (λ k. list_any slash k ≡ false) own (no_slash key))))

-- a name of a key in one of the directories has the key
pub keys_in : (path : List (List ℕ)) (key name : List ℕ) → key_of key ≡ key → Contains (map (λ d. in_directory d key) path) name → key_of name ≡ key
keys_in [] key name own c = absurd (in_none name c)
keys_in (d ∷ path) key name own c = elim (head_or_tail (in_directory d key) (map (λ d. in_directory d key) path) name c) [
  | inl is ↦ subst (λ n. key_of n ≡ key) is (key_in d key own)
  | inr tail ↦ keys_in path key name own tail
]

-- a key differs from a longer name
longer : (front key : List ℕ) → key ≡ (front ++ codes "/") ++ key → ⊥
longer front key e = omega (arith, ap length e, length-append (front ++ codes "/") key, length-append front (codes "/"))

-- two directories in which a key has one name are one
pub one_directory : (one other key : List ℕ) → in_directory one key ≡ in_directory other key → one ≡ other
one_directory one other key e = by_test (is_same one (codes "."))
    (λ a. by_test (is_same other (codes "."))
    (λ b. same_is one (codes ".") a ∙ sym (same_is other (codes ".") b))
    (λ b. absurd (longer other key (rw (a, b) at e))))
    (λ a. by_test (is_same other (codes "."))
    (λ b. absurd (longer one key (sym (rw (a, b) at e))))
    (λ b. append_cancel_right one other (codes "/") (append_cancel_right (one ++ codes "/") (other ++ codes "/") key (rw (a, b) at e))))

in_other : (path : List (List ℕ)) (d key : List ℕ) → Contains (map (λ x. in_directory x key) path) (in_directory d key) → Contains path d
in_other [] d key c = absurd (in_none (in_directory d key) c)
in_other (x ∷ path) d key c = elim (head_or_tail (in_directory x key) (map (λ y. in_directory y key) path) (in_directory d key) c) [
  | inl is ↦ subst (Contains (x ∷ path)) (one_directory x d key is) (in_head x path)
  | inr tail ↦ in_more x path d (in_other path d key tail)
]

-- if no directory is there twice, the name in one differs from those in the directories before it
pub new_name : (before after : List (List ℕ)) (d key : List ℕ) → AllPairs (λ one other. one ≢ other) (before ++ d ∷ after) → Contains (map (λ x. in_directory x key) before) (in_directory d key) → ⊥
new_name before after d key once c =
    let there = in_other before d key c in
    let long : length before < length (before ++ d ∷ after) = omega (arith, length-append before (d ∷ after)) in
    once there.0 (length before) d there.1 long
    (get_or_append_left before (d ∷ after) d there.0 there.1 ∙ (there.2 ∙ sym (seam before)))
  where
    seam : (xs : List (List ℕ)) → get_or (xs ++ d ∷ after) (length xs) d ≡ d
    seam [] = refl
    seam (x ∷ xs) = seam xs

-- the names of a key in directories that are left out do not count if these have no file
without : (files : FileMap) (key x : List ℕ) (path : List (List ℕ)) → is_some (files (in_directory x key)) ≡ false → name_on_path files (filter (λ y. not (is_same x y)) path) key ≡ name_on_path files path key
without files key x [] none = refl
without files key x (y ∷ path) none = by_test (is_same x y)
    (λ e.
    let absent : is_some (files (in_directory y key)) ≡ false = subst (λ d. is_some (files (in_directory d key)) ≡ false) (same_is x y e) none in
    rw (e, absent) (without files key x path none))
    (λ e. rw e (ap (λ rest. cond (is_some (files (in_directory y key))) (Some (in_directory y key)) rest) (without files key x path none)))

-- the first name on the path is that in the distinct directories
pub on_different : (files : FileMap) (key : List ℕ) (path : List (List ℕ)) → name_on_path files (different path) key ≡ name_on_path files path key
on_different files key [] = refl
on_different files key (x ∷ path) = by_test (is_some (files (in_directory x key)))
    (λ e. rw e refl)
    (λ e. rw e (without files key x (different path) e ∙ on_different files key path))
