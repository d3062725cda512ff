-- The first that shows a packet leaves what has arrived, in the end as in the reading.
use Rattle.std.proofs.Common.{◌≡◌, ℕ, suc, ◌+◌, ◌<◌, Bool, true, false, not, cond, List, [], ◌∷◌, ◌++◌, find, length, map, Some, None, refl, sym, ap, ◌∙◌, append_assoc, arith}
use Rattle.std.specs.Prelude.{position, remove, nat_lt}
use Rattle.std.specs.List.{AllByRecursion, position_or_len, prefix_len}
use Rattle.std.specs.Option.{option_map_or}
use Rattle.std.proofs.lemmas.Bool.{lt-ltb}
use Rattle.std.proofs.lemmas.List.{map-append}
use Rattle.std.proofs.lemmas.Option.{same_Some}
use Rattle.pending_queue.specs.declared.item.Item.{Item}
use Rattle.pending_queue.specs.DeferralContext.{without_first}
use Rattle.history_reading.specs.declared.parts.PacketKind.{PacketKind}
use Rattle.history_reading.specs.declared.parts.PacketKind.TheVariants as kind
use Rattle.history_reading.specs.Numbers.{same_packet}
use Rattle.history_reading.specs.Reading as reads
use Rattle.channel_laws.specs.Arrivals.{item_kind}
use Rattle.channel_laws.proofs.Counting.{int-same}

-- An item, with the items before and after it, and the list without it.
pub record TakenFrom (items rest : List Item) (x : Item) : Type 0 where
  pub front : List Item
  pub back : List Item
  pub whole : items ≡ front ++ x ∷ back
  pub left : rest ≡ front ++ back

-- one more item before
abbrev pub taken-following : (items rest : List Item) (x y : Item) → TakenFrom items rest x → TakenFrom (y ∷ items) (y ∷ rest) x
taken-following items rest x y t = record { front = y ∷ t.front; back = t.back; whole = ap (λ (zs : List Item). y ∷ zs) t.whole; left = ap (λ (zs : List Item). y ∷ zs) t.left }

-- more items after
abbrev pub taken-before : (items rest more : List Item) (x : Item) → TakenFrom items rest x → TakenFrom (items ++ more) (rest ++ more) x
taken-before items rest more x t = record {
  front = t.front;
  back = t.back ++ more;
  whole = ap (λ (zs : List Item). zs ++ more) t.whole ∙ append_assoc t.front (x ∷ t.back) more;
  left = ap (λ (zs : List Item). zs ++ more) t.left ∙ append_assoc t.front t.back more;
}

-- The first item that passes is taken, and none before it passes.
pub record FirstTaken (test : Item → Bool) (items : List Item) (x : Item) : Type 0 where
  pub taken : TakenFrom items (without_first test items) x
  pub passes : test x ≡ true
  pub others : AllByRecursion (λ y. test y ≡ false) taken.front

first-case : (test : Item → Bool) (b : Bool) (y : Item) (ys : List Item) (x : Item) → test y ≡ b → cond b (Some y) (find test ys) ≡ Some x → (find test ys ≡ Some x → FirstTaken test ys x)
    → (t : TakenFrom (y ∷ ys) (cond b ys (y ∷ without_first test ys)) x) × (test x ≡ true) × AllByRecursion (λ z. test z ≡ false) t.front
first-case test true y ys x is e rec =
    let same : y ≡ x = same_Some y x e in
    (record { front = []; back = ys; whole = ap (λ (z : Item). z ∷ ys) same; left = refl }, ap test (sym same) ∙ is, tt)
first-case test false y ys x is e rec = let r : FirstTaken test ys x = rec e in (taken-following ys (without_first test ys) x y r.taken, r.passes, (is, r.others))

pub first-taken : (test : Item → Bool) (items : List Item) (x : Item) → find test items ≡ Some x → FirstTaken test items x
first-taken test [] x e = cc
first-taken test (y ∷ ys) x e = let r = first-case test (test y) y ys x refl e (first-taken test ys x) in record { taken = r.0; passes = r.1; others = r.2 }

-- The reading

pub same_packet-refl : (p : PacketKind) → same_packet p p ≡ true
same_packet-refl (kind.Request n) = int-same n
same_packet-refl (kind.Reply n) = int-same n
same_packet-refl kind.Goodbye = refl
same_packet-refl kind.Broken = refl

one-more : (n : ℕ) → 1 + n ≡ suc n
one-more n = omega arith

at-length : (p : PacketKind) (front back : List PacketKind) → AllByRecursion (λ q. same_packet q p ≡ false) front → position_or_len (λ q. same_packet q p) (front ++ p ∷ back) ≡ length front
at-length p [] back h = ap (λ (b : Bool). cond (not b) (1 + prefix_len (λ x. not (same_packet x p)) back) 0) (same_packet-refl p)
at-length p (q ∷ front) back h =
    ap (λ (b : Bool). cond (not b) (1 + prefix_len (λ x. not (same_packet x p)) (front ++ p ∷ back)) 0) h.0 ∙ (ap (λ (n : ℕ). 1 + n) (at-length p front back h.1) ∙ one-more (length front))

taken-out : (p : PacketKind) (front back : List PacketKind) → remove (front ++ p ∷ back) (length front) ≡ front ++ back
taken-out p [] back = refl
taken-out p (q ∷ front) back = ap (λ (xs : List PacketKind). q ∷ xs) (taken-out p front back)

shorter-by : (p : PacketKind) (front back : List PacketKind) → length front < length (front ++ p ∷ back)
shorter-by p [] back = omega arith
shorter-by p (q ∷ front) back = let k : length front < length (front ++ p ∷ back) = shorter-by p front back in omega arith

shorter : (p : PacketKind) (front back : List PacketKind) → nat_lt (length front) (length (front ++ p ∷ back)) ≡ true
shorter p front back = lt-ltb (length front) (length (front ++ p ∷ back)) (shorter-by p front back)

leaves-at : (p : PacketKind) (front back : List PacketKind) → AllByRecursion (λ q. same_packet q p ≡ false) front → option_map_or (remove (front ++ p ∷ back)) (position (λ q. same_packet q p) (front ++ p ∷ back)) (front ++ p ∷ back) ≡ front ++ back
leaves-at p front back h =
    let all : List PacketKind = front ++ p ∷ back in
    ap (λ (n : ℕ). option_map_or (remove all) (cond (nat_lt n (length all)) (Some n) None) all) (at-length p front back h)
    ∙ (ap (λ (b : Bool). option_map_or (remove all) (cond b (Some (length front)) None) all) (shorter p front back) ∙ taken-out p front back)

-- no item of a list shows the packet of this one
abbrev pub ShowOthers : Item → List Item → Type 0
ShowOthers x items = AllByRecursion (λ q. same_packet q (item_kind x) ≡ false) (map item_kind items)

-- the packet of the item that is taken leaves the reading, if none before it shows the same
pub leaves-alike : (items rest : List Item) (x : Item) (t : TakenFrom items rest x) → ShowOthers x t.front → reads.without_first (item_kind x) (map item_kind items) ≡ map item_kind rest
unfolding reads.without_first
leaves-alike items rest x t h =
    let p : PacketKind = item_kind x in
    let shown : map item_kind items ≡ map item_kind t.front ++ p ∷ map item_kind t.back = ap (map item_kind) t.whole ∙ map-append item_kind t.front (x ∷ t.back) in
    ap (λ (l : List PacketKind). option_map_or (remove l) (position (λ q. same_packet q p) l) l) shown
    ∙ (leaves-at p (map item_kind t.front) (map item_kind t.back) h ∙ (sym (map-append item_kind t.front t.back) ∙ ap (map item_kind) (sym t.left)))
