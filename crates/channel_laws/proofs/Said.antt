-- A reply that is noted was sent, by the lines.
use Rattle.std.proofs.Common.{◌≡◌, ℤ, Bool, true, false, ◌&&◌, ◌||◌, int_eq, List, [], ◌∷◌, refl, sym, ap, ◌∙◌}
use Rattle.std.specs.List.{list_any}
use Rattle.std.proofs.lemmas.Bool.Decides.{Decides-int_eq}
use Rattle.ipdl_base.specs.declared.kinds.Side.{Side}
use Rattle.history_reading.specs.SentPacket as told
use Rattle.history_reading.specs.SentPacket.{SentPacket, ReplyContent, is_said}
use Rattle.channel_laws.specs.Notes.{Note, says, told_note, told_notes, In, here, there}

both : (a b : Bool) → a ≡ true → b ≡ true → a && b ≡ true
both true b e f = f
both false b e f = cc

one-said : (side : Side) (test : ReplyContent → Bool) (n : ℤ) (c : ReplyContent) (t : SentPacket) → told_note side t ≡ says n c → test c ≡ true → is_said test n t ≡ true
one-said side test n c (told.request r) e p = cc
one-said side test n c (told.said m d) e p =
    let number : m ≡ n = cc in
    let content : d ≡ c = cc in
    both (int_eq m n) (test d) ((Decides-int_eq m n).1 number) (ap test content ∙ p)
one-said side test n c told.goodbye e p = cc
one-said side test n c told.broken e p = cc

here-said : (b rest : Bool) → b ≡ true → b || rest ≡ true
here-said true rest e = refl
here-said false rest e = cc

later-said : (b rest : Bool) → rest ≡ true → b || rest ≡ true
later-said true rest e = refl
later-said false rest e = e

said-at : (side : Side) (test : ReplyContent → Bool) (n : ℤ) (c : ReplyContent) (sent : List SentPacket) (ns : List Note) → ns ≡ told_notes side sent → In (says n c) ns → test c ≡ true → list_any (is_said test n) sent ≡ true
said-at side test n c [] _ e here p = cc
said-at side test n c (t ∷ sent) _ e here p = here-said (is_said test n t) (list_any (is_said test n) sent) (one-said side test n c t (let x : says n c ≡ told_note side t = cc in sym x) p)
said-at side test n c [] _ e (there i) p = cc
said-at side test n c (t ∷ sent) _ e (there {xs = ns} i) p = later-said (is_said test n t) (list_any (is_said test n) sent) (said-at side test n c sent ns (let x : ns ≡ told_notes side sent = cc in x) i p)

-- a reply with a content that passes was sent
pub says-passes : (side : Side) (test : ReplyContent → Bool) (n : ℤ) (c : ReplyContent) (sent : List SentPacket) → In (says n c) (told_notes side sent) → test c ≡ true → told.says test sent n ≡ true
says-passes side test n c sent i p = said-at side test n c sent (told_notes side sent) refl i p
