-- How one more name changes a table.
use Rattle.std.proofs.Common.{◌≡◌, ◌∙◌, Bool, true, false, cond, List, ◌∷◌, ℕ, Option, Some, sym, ap}
use Rattle.std.specs.Prelude.{if◌then◌else◌, find}
use Rattle.std.specs.Borrow.{Bor}
use Rattle.std.specs.Str.{bytes_eq}
use Rattle.indexmap.specs.IndexMap.{IndexMap, get_by}
use Rattle.handler_script.specs.Tables.{at_name}

-- if what a table has at a name is what is found in a list, this still holds with one more element before the list
pub found_more : {V S X Y : Type 0} (of_table : Option V → Y) (of_list : Option X → Y) (name_of : X → List ℕ) (old new : IndexMap (Bor (List ℕ)) V S) (key : Bor (List ℕ)) (v : V) (x : X) (xs rest : List X) (name : List ℕ)
    → xs ≡ x ∷ rest → key.now ≡ name_of x → of_table (Some v) ≡ of_list (Some x)
    → ((q : Bor (List ℕ)) → get_by (λ k. bytes_eq q.now k.now) new ≡ cond (bytes_eq key.now q.now) (Some v) (get_by (λ k. bytes_eq q.now k.now) old))
    → of_table (at_name name old) ≡ of_list (find (λ y. bytes_eq (name_of y) name) rest)
    → of_table (at_name name new) ≡ of_list (find (λ y. bytes_eq (name_of y) name) xs)
found_more {V} {S} {X} of_table of_list name_of old new key v x xs rest name split is same updates before =
    ap of_table (updates (record key { now = name })) ∙ (chosen (bytes_eq key.now name) ∙ ap of_list (sym (ap (find (λ y. bytes_eq (name_of y) name)) split ∙ ap (λ (k : List ℕ). if bytes_eq k name then Some x else find (λ y. bytes_eq (name_of y) name) rest) (sym is))))
  where
    chosen : (b : Bool) → of_table (cond b (Some v) (at_name name old)) ≡ of_list (if b then Some x else find (λ y. bytes_eq (name_of y) name) rest)
    chosen true = same
    chosen false = before
