-- A property of all items of a list is one of those that are left, and of the item that a new one replaces.
use Rattle.std.proofs.Common.{◌≡◌, ◌-◌, Bool, true, false, cond, if◌then◌else◌, List, [], ◌∷◌, length, map, Option, Some, None, option_and_then, refl, sym, ap, subst, ◌∙◌}
use Rattle.std.specs.List.{AllByRecursion, list_any}
use Rattle.std.proofs.lemmas.Option.{same_Some}
use Rattle.ipdl_base.specs.declared.kinds.Compress.{Compress}
use Rattle.ipdl_base.specs.declared.kinds.Compress.TheVariants.{Plain, Last, All}
use Rattle.ipdl_base.specs.declared.message.Message.{Message}
use Rattle.pending_queue.specs.declared.item.Item.{Item}
use Rattle.pending_queue.specs.Compression.{are_alike, last_of, latest, replaced}
use Rattle.channel_model.specs.Ends.{Packet, message}
use Rattle.channel_model.proofs.FittingEnds.{all-at}

-- Lists

pub all-messages : (P : Packet → Type 0) (Q : Message → Type 0) (ms : List Message) → ((m : Message) → Q m → P (message m)) → AllByRecursion Q ms → AllByRecursion P (map message ms)
all-messages P Q [] h k = tt
all-messages P Q (m ∷ ms) h k = (h m k.0, all-messages P Q ms h k.1)

-- the item that a new one replaces is one of those that have arrived, and is like the new one

latest-is : (P : Item → Type 0) (test : Item → Bool) (xs : List Item) (x : Item) → AllByRecursion P xs → latest test xs ≡ Some x → P x × (test x ≡ true)
latest-is P test [] x h e = cc
latest-is P test (y ∷ ys) x h e = by (list_any test ys) (test y) refl e (latest-is P test ys x h.1)
  where
    by : (b c : Bool) → test y ≡ c → cond b (latest test ys) (cond c (Some y) None) ≡ Some x → (latest test ys ≡ Some x → P x × (test x ≡ true)) → P x × (test x ≡ true)
    by true c is e rec = rec e
    by false true is e rec = (subst P (same_Some y x e) h.0, ap test (sym (same_Some y x e)) ∙ is)
    by false false is e rec = cc

last-is : (P : Item → Type 0) (new : Item) (found : Option Item) (x : Item) → (found ≡ Some x → P x) → option_and_then (λ old. if are_alike new old then Some old else None) found ≡ Some x → P x × (are_alike new x ≡ true)
last-is P new None x h e = cc
last-is P new (Some y) x h e = by (are_alike new y) refl e
  where
    by : (b : Bool) → are_alike new y ≡ b → cond b (Some y) None ≡ Some x → P x × (are_alike new x ≡ true)
    by true is e = (h e, ap (are_alike new) (sym (same_Some y x e)) ∙ is)
    by false is e = cc

pub replaced-is : (P : Item → Type 0) (compress : Compress) (new : Item) (xs : List Item) (x : Item) → AllByRecursion P xs → replaced compress new xs ≡ Some x → P x × (are_alike new x ≡ true)
replaced-is P Plain new xs x h e = cc
replaced-is P Last new xs x h e = last-is P new (last_of xs) x (λ is. all-at P xs (length xs - 1) x h is) e
replaced-is P All new xs x h e = latest-is P (are_alike new) xs x h e
