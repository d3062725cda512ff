-- What includes lead to, while more keys are added.
use Rattle.std.proofs.Common.{◌≡◌, ℕ, zero, suc, ◌<◌, ◌≤◌, nat_lt, List, [], ◌∷◌, ◌++◌, length, refl, sym, ◌∙◌, ap, subst, arith, length-append}
use Rattle.std.specs.Prelude.{Some, slice_get}
use Rattle.std.specs.List.{AllZip, list_any}
use Rattle.std.proofs.lemmas.Bool.{ltb-true}
use Rattle.std.proofs.lemmas.Slice.Zip.{all_zipped_more}
use Rattle.std.proofs.lemmas.List.Concat.{flat_map-append}
use Rattle.std.proofs.lemmas.List.{append-nil}
use Rattle.ipdl_syntax.specs.declared.tree.Include.{Include}
use Rattle.ipdl_syntax.specs.Programs.{named_key, named_keys}
use Rattle.include_graph.specs.declared.walk.Target.{Target}
use Rattle.include_graph.specs.declared.walk.Target.TheVariants.{Nothing, LeftOut, File}
use Rattle.include_graph.specs.Growth.{add_key, add_keys}
use Rattle.include_graph.specs.Keys.{is_same}
use Rattle.include_graph.specs.Reading.{IsTarget}
use Rattle.ipdl_base.proofs.Ends.{by_test}
use Rattle.include_graph.proofs.Grown.{add_old, add_new, add_past, add_full}

-- an element of a list keeps its place when more follow
pub get_append : {X : Type 0} (xs ys : List X) (i : ℕ) (x : X) → slice_get xs i ≡ Some x → slice_get (xs ++ ys) i ≡ Some x
get_append [] ys i x h = absurd (let none : ⊥ = cc in none)
get_append (y ∷ xs) ys zero x h = h
get_append (y ∷ xs) ys (suc i) x h = get_append xs ys i x h

-- one more key does not change what an include leads to
target_one : (keys : List (List ℕ)) (k : List ℕ) (i : Include) (t : Target) → IsTarget keys i t → IsTarget (add_key keys k) i t
target_one keys k i Nothing h = h
target_one keys k i LeftOut h = subst (λ ks. IsTarget ks i LeftOut) (sym (add_full keys k h.2)) h
target_one keys k i (File n) h = (
  h.0,
  h.1,
  by_test (list_any (is_same k) keys)
      (λ e. subst (λ ks. slice_get ks n ≡ Some h.0) (sym (add_old keys k e)) h.2)
      (λ e. by_test (nat_lt (length keys) 4096)
      (λ f. subst (λ ks. slice_get ks n ≡ Some h.0) (sym (add_new keys k e f)) (get_append keys (k ∷ []) n h.0 h.2))
      (λ f. subst (λ ks. slice_get ks n ≡ Some h.0) (sym (add_past keys k e f)) h.2)),
)

pub target_more : (keys row : List (List ℕ)) (i : Include) (t : Target) → IsTarget keys i t → IsTarget (add_keys keys row) i t
target_more keys [] i t h = h
target_more keys (k ∷ row) i t h = target_more (add_key keys k) row i t (target_one keys k i t h)

pub targets_more : (keys row : List (List ℕ)) (is : List Include) (ts : List Target) → AllZip (IsTarget keys) is ts → AllZip (IsTarget (add_keys keys row)) is ts
targets_more keys row [] [] h = h
targets_more keys row [] (t ∷ ts) h = h
targets_more keys row (i ∷ is) [] h = h
targets_more keys row (i ∷ is) (t ∷ ts) h = (target_more keys row i t h.0, targets_more keys row is ts h.1)

-- keys that are added in turn
pub add_keys-append : (keys row more : List (List ℕ)) → add_keys keys (row ++ more) ≡ add_keys (add_keys keys row) more
add_keys-append keys [] more = refl
add_keys-append keys (k ∷ row) more = add_keys-append (add_key keys k) row more

add_key_few : (keys : List (List ℕ)) (k : List ℕ) → length keys ≤ 4096 → length (add_key keys k) ≤ 4096
add_key_few keys k few = by_test (list_any (is_same k) keys)
    (λ e. subst (λ ks. length ks ≤ 4096) (sym (add_old keys k e)) few)
    (λ e. by_test (nat_lt (length keys) 4096)
    (λ f. let below : length keys < 4096 = ltb-true (length keys) 4096 f in subst (λ ks. length ks ≤ 4096) (sym (add_new keys k e f)) (omega (arith, length-append keys (k ∷ []))))
    (λ f. subst (λ ks. length ks ≤ 4096) (sym (add_past keys k e f)) few))

pub add_keys_few : (keys row : List (List ℕ)) → length keys ≤ 4096 → length (add_keys keys row) ≤ 4096
add_keys_few keys [] few = few
add_keys_few keys (k ∷ row) few = add_keys_few (add_key keys k) row (add_key_few keys k few)

-- The keys of these includes were added, and each include leads to its target.
pub record Adding (includes : List Include) (old new : List (List ℕ)) (targets : List Target) : Type 0 where
  pub keys : new ≡ add_keys old (named_keys includes)
  pub each : AllZip (IsTarget new) includes targets

-- the keys of one more include are added
pub adding_more : (includes : List Include) (old mid new : List (List ℕ)) (targets : List Target) (i : Include) (t : Target)
    → Adding includes old mid targets → new ≡ add_keys mid (named_key i.kind i.name) → IsTarget new i t → Adding (includes ++ i ∷ []) old new (targets ++ t ∷ [])
adding_more includes old mid new targets i t a e h = record {
  keys =
      e ∙ ap (λ ks. add_keys ks (named_key i.kind i.name)) a.keys
      ∙ sym (add_keys-append old (named_keys includes) (named_key i.kind i.name))
      ∙ ap (add_keys old) (sym (flat_map-append (λ (j : Include). named_key j.kind j.name) includes (i ∷ []) ∙ ap (λ ks. named_keys includes ++ ks) (append-nil (named_key i.kind i.name))));
  each = all_zipped_more (IsTarget new) includes targets i t (subst (λ ks. AllZip (IsTarget ks) includes targets) (sym e) (targets_more mid (named_key i.kind i.name) includes targets a.each)) h;
}
