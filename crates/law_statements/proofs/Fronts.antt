-- Prefixes of lists: each delivery shows the next packet exactly where what was delivered stays a prefix of what was
-- sent.
use Rattle.std.proofs.Common.{◌≡◌, false, IsTrue, List, [], ◌∷◌, ◌++◌, length, map, Option, Some, None, option_map, refl, sym, ap, subst, ◌∙◌, append_assoc}
use Rattle.std.specs.Bool.{Decides}
use Rattle.std.specs.List.{slice_get}
use Rattle.std.specs.Option.{option_map_or}
use Rattle.std.proofs.lemmas.Bool.Decides.{Decides-int_eq}
use Rattle.std.proofs.lemmas.List.{map-append}
use Rattle.std.proofs.lemmas.Option.{slice_get-map}
use Rattle.history_reading.specs.declared.parts.PacketKind.{PacketKind}
use Rattle.history_reading.specs.declared.parts.PacketKind.TheVariants as seen
use Rattle.history_reading.specs.Numbers.{same_packet}
use Rattle.history_reading.specs.Prefix.{is_next_of}
use Rattle.history_reading.specs.SentPacket.{SentPacket, packet_kind}
use Rattle.law_statements.specs.Prefix.{IsPrefix}
use Rattle.law_statements.proofs.Lists.{add}

pub same-kind : (a b : PacketKind) → Decides (same_packet a b) (a ≡ b)
same-kind (seen.Request m) (seen.Request n) = (λ e. ap seen.Request ((Decides-int_eq m n).0 e), λ e. (Decides-int_eq m n).1 cc)
same-kind (seen.Reply m) (seen.Reply n) = (λ e. ap seen.Reply ((Decides-int_eq m n).0 e), λ e. (Decides-int_eq m n).1 cc)
same-kind seen.Goodbye seen.Goodbye = (λ e. refl, λ e. refl)
same-kind seen.Broken seen.Broken = (λ e. refl, λ e. refl)
same-kind _ _ = (λ e. cc, λ e. cc)

-- the element after a prefix
get-following : {A : Type 0} (xs rest : List A) (x : A) → slice_get (xs ++ rest) (length xs) ≡ Some x → (later : List A) × (rest ≡ x ∷ later)
get-following [] [] x e = cc
get-following [] (y ∷ rest) x e = (rest, ap (λ (z : _). z ∷ rest) cc)
get-following (y ∷ xs) rest x e = get-following xs rest x e

get-next : {A : Type 0} (xs rest : List A) (x : A) → slice_get ((xs ++ x ∷ []) ++ rest) (length xs) ≡ Some x
get-next [] rest x = refl
get-next (y ∷ xs) rest x = get-next xs rest x

kind-to : (o : Option SentPacket) (p : PacketKind) → IsTrue (option_map_or (λ told. same_packet (packet_kind told) p) o false) → option_map packet_kind o ≡ Some p
kind-to None p e = cc
kind-to (Some told) p e = ap (λ (k : PacketKind). Some k) ((same-kind (packet_kind told) p).0 e)

kind-from : (o : Option SentPacket) (p : PacketKind) → option_map packet_kind o ≡ Some p → IsTrue (option_map_or (λ told. same_packet (packet_kind told) p) o false)
kind-from None p e = cc
kind-from (Some told) p e = (same-kind (packet_kind told) p).1 cc

pub next-front : (sents : List SentPacket) (ds : List PacketKind) (p : PacketKind) → IsPrefix ds (map packet_kind sents) → IsTrue (is_next_of sents (length ds) p) → IsPrefix (ds ++ p ∷ []) (map packet_kind sents)
next-front sents ds p front next =
    let got : slice_get (map packet_kind sents) (length ds) ≡ Some p = slice_get-map packet_kind sents (length ds) ∙ kind-to (slice_get sents (length ds)) p next in
    let here : (later : List PacketKind) × (front.0 ≡ p ∷ later) = get-following ds front.0 p (subst (λ (ys : List PacketKind). slice_get ys (length ds) ≡ Some p) front.1 got) in
    (here.0, front.1 ∙ ap (λ (r : List PacketKind). ds ++ r) here.1 ∙ sym (append_assoc ds (p ∷ []) here.0))

pub front-next : (sents : List SentPacket) (ds : List PacketKind) (p : PacketKind) → IsPrefix (ds ++ p ∷ []) (map packet_kind sents) → IsTrue (is_next_of sents (length ds) p)
front-next sents ds p front =
    kind-from (slice_get sents (length ds)) p
    (sym (slice_get-map packet_kind sents (length ds)) ∙ ap (λ (ys : List PacketKind). slice_get ys (length ds)) front.1 ∙ get-next ds front.0 p)

pub front-grows : (sents : List SentPacket) (ds : List PacketKind) (o : Option SentPacket) → IsPrefix ds (map packet_kind sents) → IsPrefix ds (map packet_kind (add sents o))
front-grows sents ds None front = front
front-grows sents ds (Some told) front =
    (front.0 ++ packet_kind told ∷ [], map-append packet_kind sents (told ∷ []) ∙ ap (λ (ys : List PacketKind). ys ++ packet_kind told ∷ []) front.1 ∙ append_assoc ds front.0 (packet_kind told ∷ []))
