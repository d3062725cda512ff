-- What a request that arrives replaces is an earlier request, and all else stays.
use Rattle.std.proofs.Common.{◌≡◌, ℕ, suc, ◌-◌, Bool, true, false, not, ◌&&◌, ◌||◌, ◌==◌, int_eq, cond, if◌then◌else◌, List, [], ◌∷◌, ◌++◌, length, take, Option, Some, None, is_some, refl, sym, ap, ◌∙◌}
use Rattle.std.specs.Prelude.{slice_get}
use Rattle.std.specs.List.{list_any}
use Rattle.std.proofs.lemmas.List.{append-nil}
use Rattle.std.proofs.Math.Numerals.{sub-one}
use Rattle.std.proofs.lemmas.Option.{same_Some}
use Rattle.ipdl_base.specs.declared.kinds.Compress.{Compress}
use Rattle.ipdl_base.specs.declared.kinds.Compress.TheVariants.{Plain, Last, All}
use Rattle.ipdl_base.specs.declared.message.Message.{Message}
use Rattle.pending_queue.specs.declared.item.Item.{Item}
use Rattle.pending_queue.specs.declared.item.Item.TheVariants as item
use Rattle.pending_queue.specs.Compression.{is_request, is_request_of, are_alike, last_of, latest, without_latest, replaced, staying}
use Rattle.channel_laws.proofs.Deliveries.{replaced-last}
use Rattle.channel_model.proofs.Tests.{and-left, and-right}
use Rattle.channel_laws.proofs.Leaving.{TakenFrom, taken-following}

-- An item that is replaced leaves, and is like the new one.
pub record Replaces (compress : Compress) (new : Item) (items : List Item) (old : Item) : Type 0 where
  pub taken : TakenFrom items (staying compress new items) old
  pub alike : are_alike new old ≡ true

-- Under All

latest-case : (test : Item → Bool) (b c : Bool) (y : Item) (ys : List Item) (x : Item) → test y ≡ b → (if c then latest test ys else (if b then Some y else None)) ≡ Some x → (latest test ys ≡ Some x → TakenFrom ys (without_latest test ys) x × (test x ≡ true)) → TakenFrom (y ∷ ys) (cond (b && not c) ys (y ∷ without_latest test ys)) x × (test x ≡ true)
latest-case test true true y ys x is e rec = let r = rec e in (taken-following ys (without_latest test ys) x y r.0, r.1)
latest-case test false true y ys x is e rec = let r = rec e in (taken-following ys (without_latest test ys) x y r.0, r.1)
latest-case test true false y ys x is e rec = let same : y ≡ x = same_Some y x e in (record { front = []; back = ys; whole = ap (λ (z : Item). z ∷ ys) same; left = refl }, ap test (sym same) ∙ is)
latest-case test false false y ys x is e rec = cc

latest-taken : (test : Item → Bool) (items : List Item) (x : Item) → latest test items ≡ Some x → TakenFrom items (without_latest test items) x × (test x ≡ true)
latest-taken test [] x e = cc
latest-taken test (y ∷ ys) x e = latest-case test (test y) (list_any test ys) y ys x refl e (latest-taken test ys x)

none-case : (b c : Bool) → b || c ≡ false → (b ≡ false) × (c ≡ false)
none-case true c e = cc
none-case false c e = (refl, e)

nowhere : (test : Item → Bool) (items : List Item) → list_any test items ≡ false → without_latest test items ≡ items
nowhere test [] e = refl
nowhere test (y ∷ ys) e =
    let r = none-case (test y) (list_any test ys) e in
    ap (λ (b : Bool). cond (b && not (list_any test ys)) ys (y ∷ without_latest test ys)) r.0 ∙ ap (λ (zs : List Item). y ∷ zs) (nowhere test ys r.1)

stays-case : (test : Item → Bool) (b c : Bool) (y : Item) (ys : List Item) → list_any test ys ≡ c → (if c then latest test ys else (if b then Some y else None)) ≡ None → (latest test ys ≡ None → without_latest test ys ≡ ys) → cond (b && not c) ys (y ∷ without_latest test ys) ≡ y ∷ ys
stays-case test true true y ys is e rec = ap (λ (zs : List Item). y ∷ zs) (rec e)
stays-case test false true y ys is e rec = ap (λ (zs : List Item). y ∷ zs) (rec e)
stays-case test true false y ys is e rec = cc
stays-case test false false y ys is e rec = ap (λ (zs : List Item). y ∷ zs) (nowhere test ys is)

latest-stays : (test : Item → Bool) (items : List Item) → latest test items ≡ None → without_latest test items ≡ items
latest-stays test [] e = refl
latest-stays test (y ∷ ys) e = stays-case test (test y) (list_any test ys) y ys refl e (latest-stays test ys)

-- Under Last

last-whole : (items : List Item) (x : Item) → last_of items ≡ Some x → items ≡ take (length items - 1) items ++ x ∷ []
last-whole [] x e = cc
last-whole (y ∷ []) x e = ap (λ (z : Item). z ∷ []) (same_Some y x e)
last-whole (y ∷ z ∷ items) x e =
    let n : suc (length items) - 1 ≡ length items = rw sub-one refl in
    let m : suc (suc (length items)) - 1 ≡ suc (length items) = rw sub-one refl in
    let there : last_of (z ∷ items) ≡ Some x = ap (slice_get (z ∷ items)) n ∙ (ap (λ (k : ℕ). slice_get (y ∷ z ∷ items) k) (sym m) ∙ e) in
    let later : z ∷ items ≡ take (length items) (z ∷ items) ++ x ∷ [] = last-whole (z ∷ items) x there ∙ ap (λ (k : ℕ). take k (z ∷ items) ++ x ∷ []) n in
    ap (λ (zs : List Item). y ∷ zs) later ∙ ap (λ (k : ℕ). take k (y ∷ z ∷ items) ++ x ∷ []) (sym m)

last-taken : (items : List Item) (x : Item) (r : Option Item) → last_of items ≡ Some x → r ≡ Some x → TakenFrom items (if is_some r then take (length items - 1) items else items) x
last-taken items x None e f = cc
last-taken items x (Some y) e f = record { front = take (length items - 1) items; back = []; whole = last-whole items x e; left = sym (append-nil (take (length items - 1) items)) }

-- Under each

pub replaced-taken : (compress : Compress) (new : Item) (items : List Item) (old : Item) → replaced compress new items ≡ Some old → Replaces compress new items old
replaced-taken Plain new items old e = cc
replaced-taken Last new items old e =
    let r = replaced-last new (last_of items) old e in
    record { taken = last-taken items old (replaced Last new items) r.0 e; alike = r.1 }
replaced-taken All new items old e = let r = latest-taken (are_alike new) items old e in record { taken = r.0; alike = r.1 }

pub none-replaced : (compress : Compress) (new : Item) (items : List Item) → replaced compress new items ≡ None → staying compress new items ≡ items
none-replaced Plain new items e = refl
none-replaced Last new items e = ap (λ (r : Option Item). if is_some r then take (length items - 1) items else items) e
none-replaced All new items e = latest-stays (are_alike new) items e

-- An item that is like a request is a request.

no-request : (b : Bool) → b && false ≡ true → ⊥
no-request true e = cc
no-request false e = cc

-- whether an item is a request
abbrev pub is_request_item : Item → Bool
is_request_item (item.Message m sync level) = is_request m.body
is_request_item item.Broken = false

like-request : (m : Message) (old : Item) → is_request m.body && is_request_of m.number m.route old ≡ true → is_request_item old ≡ true
like-request m (item.Message old sync level) e =
    and-left (is_request old.body) (old.number == m.number) (and-left (is_request old.body && old.number == m.number) (int_eq old.route m.route) (and-right (is_request m.body) (is_request_of m.number m.route (item.Message old sync level)) e))
like-request m item.Broken e = absurd (no-request (is_request m.body) e)

pub alike-request : (new old : Item) → are_alike new old ≡ true → is_request_item old ≡ true
alike-request (item.Message m sync level) old e = like-request m old e
alike-request item.Broken old e = cc
