-- What a change makes, as parts, and how such changes are composed.
use Rattle.std.proofs.Common.{◌≡◌, List, [], ◌++◌, map, refl, sym, ap, subst, ◌∙◌, append_assoc}
use Rattle.std.proofs.lemmas.List.{map-append, append-nil}
use Rattle.ipdl_base.specs.declared.line.What.{What}
use Rattle.ipdl_base.specs.declared.schema.Schema.{Schema}
use Rattle.channel_model.specs.Ends.{End, Packet}
use Rattle.channel_model.specs.Outputs.{Output, Change, ◌▷◌, beginning, unchanged, line_at}
use Rattle.channel_model.specs.Parts.{FirstPart, LaterPart, LaterParts, done, then, OwnParts, begun}
use Rattle.channel_model.specs.Phases.{Phase, IsOver}
use Rattle.channel_model.specs.StepLaws.{IsMadeOf}

-- parts after an end: their lines, their packets, the end after them and the phase
abbrev pub PartsAfter : Type 1
PartsAfter = List What → List Packet → End → Phase → Type 0

-- parts make what a change makes of an output
pub record Makes (Parts : PartsAfter) (change : Change) (o : Output) (q : Phase) : Type 0 where
  pub whats : List What
  pub packets : List Packet
  pub parts : Parts whats packets (change o).end q
  pub lines_are : (change o).lines ≡ o.lines ++ map (line_at o.end.side) whats
  pub packets_are : (change o).packets ≡ o.packets ++ packets
  pub side_is : (change o).end.side ≡ o.end.side

-- the parts, with the end that they make
abbrev pub made-at : (Parts : PartsAfter) (change : Change) (o : Output) (q : Phase) (ws : List What) (ps : List Packet) (f : End) → Parts ws ps f q → (change o).end ≡ f → (change o).lines ≡ o.lines ++ map (line_at o.end.side) ws → (change o).packets ≡ o.packets ++ ps → f.side ≡ o.end.side
    → Makes Parts change o q
made-at Parts change o q ws ps f parts end_is lines packets side = record {
  whats = ws;
  packets = ps;
  parts = subst (λ (x : End). Parts ws ps x q) (sym end_is) parts;
  lines_are = lines;
  packets_are = packets;
  side_is = ap (λ (x : End). x.side) end_is ∙ side;
}

abbrev pub made : (Parts : PartsAfter) (change : Change) (o : Output) (q : Phase) (ws : List What) (ps : List Packet) → Parts ws ps (change o).end q → (change o).lines ≡ o.lines ++ map (line_at o.end.side) ws → (change o).packets ≡ o.packets ++ ps → (change o).end.side ≡ o.end.side
    → Makes Parts change o q
made Parts change o q ws ps parts lines packets side = record { whats = ws; packets = ps; parts = parts; lines_are = lines; packets_are = packets; side_is = side }

-- a change that equals another at this output
pub made-as : (Parts : PartsAfter) (change other : Change) (o : Output) (q : Phase) → other o ≡ change o → Makes Parts other o q → Makes Parts change o q
made-as Parts change other o q is a = record {
  whats = a.whats;
  packets = a.packets;
  parts = subst (λ (x : Output). Parts a.whats a.packets x.end q) is a.parts;
  lines_are = ap (λ (x : Output). x.lines) (sym is) ∙ a.lines_are;
  packets_are = ap (λ (x : Output). x.packets) (sym is) ∙ a.packets_are;
  side_is = ap (λ (x : Output). x.end.side) (sym is) ∙ a.side_is;
}

pub later-one : {p q : Phase} {e f : End} {ws : List What} {ps : List Packet} → LaterPart p e ws ps f q → LaterParts p e ws ps f q
later-one {p} {q} {e} {f} {ws} {ps} part =
    subst (λ (vs : List What). LaterParts p e vs ps f q) (append-nil ws) (subst (λ (qs : List Packet). LaterParts p e (ws ++ []) qs f q) (append-nil ps) (then part done))

later-append : {p q r : Phase} {e f g : End} {ws vs : List What} {ps qs : List Packet} → LaterParts p e ws ps f q → LaterParts q f vs qs g r → LaterParts p e (ws ++ vs) (ps ++ qs) g r
later-append done c = c
later-append {p} {r} {e} {g} {vs} {qs} (then {ws = ws₁} {vs = ws₂} {ps = ps₁} {qs = ps₂} part rest) c =
    subst (λ (ws : List What). LaterParts p e ws ((ps₁ ++ ps₂) ++ qs) g r) (sym (append_assoc ws₁ ws₂ vs))
    (subst (λ (ps : List Packet). LaterParts p e (ws₁ ++ (ws₂ ++ vs)) ps g r) (sym (append_assoc ps₁ ps₂ qs)) (then part (later-append rest c)))

-- two changes, each of which makes some lines and packets
joined-lines : (f g : Change) (o : Output) (ws vs : List What) → (f o).lines ≡ o.lines ++ map (line_at o.end.side) ws → (g (f o)).lines ≡ (f o).lines ++ map (line_at (f o).end.side) vs → (f o).end.side ≡ o.end.side
    → (g (f o)).lines ≡ o.lines ++ map (line_at o.end.side) (ws ++ vs)
joined-lines f g o ws vs first second side =
    second
    ∙ ap (λ side. (f o).lines ++ map (line_at side) vs) side
    ∙ ap (λ ls. ls ++ map (line_at o.end.side) vs) first
    ∙ append_assoc o.lines (map (line_at o.end.side) ws) (map (line_at o.end.side) vs)
    ∙ ap (λ ls. o.lines ++ ls) (sym (map-append (line_at o.end.side) ws vs))

joined-packets : (f g : Change) (o : Output) (ps qs : List Packet) → (f o).packets ≡ o.packets ++ ps → (g (f o)).packets ≡ (f o).packets ++ qs → (g (f o)).packets ≡ o.packets ++ (ps ++ qs)
joined-packets f g o ps qs first second = second ∙ ap (λ xs. xs ++ qs) first ∙ append_assoc o.packets ps qs

-- Later parts

pub made-nothing : (p : Phase) (change : Change) (o : Output) → change o ≡ o → Makes (LaterParts p o.end) change o p
made-nothing p change o is = made-as (LaterParts p o.end) change unchanged o p (sym is) (made (LaterParts p o.end) unchanged o p [] [] done (sym (append-nil o.lines)) (sym (append-nil o.packets)) refl)

abbrev pub made-later_at : (p q : Phase) (change : Change) (o : Output) (ws : List What) (ps : List Packet) (f : End) → LaterPart p o.end ws ps f q → (change o).end ≡ f → (change o).lines ≡ o.lines ++ map (line_at o.end.side) ws → (change o).packets ≡ o.packets ++ ps → f.side ≡ o.end.side
    → Makes (LaterParts p o.end) change o q
made-later_at p q change o ws ps f part end_is lines packets side = made-at (LaterParts p o.end) change o q ws ps f (later-one part) end_is lines packets side

abbrev pub made-later : (p q : Phase) (change : Change) (o : Output) (ws : List What) (ps : List Packet) → LaterPart p o.end ws ps (change o).end q → (change o).lines ≡ o.lines ++ map (line_at o.end.side) ws → (change o).packets ≡ o.packets ++ ps → (change o).end.side ≡ o.end.side
    → Makes (LaterParts p o.end) change o q
made-later p q change o ws ps part lines packets side = made (LaterParts p o.end) change o q ws ps (later-one part) lines packets side

pub made-joined : (p q r : Phase) (f g : Change) (o : Output) → Makes (LaterParts p o.end) f o q → Makes (LaterParts q (f o).end) g (f o) r → Makes (LaterParts p o.end) (f ▷ g) o r
made-joined p q r f g o a b = record {
  whats = a.whats ++ b.whats;
  packets = a.packets ++ b.packets;
  parts = later-append a.parts b.parts;
  lines_are = joined-lines f g o a.whats b.whats a.lines_are b.lines_are a.side_is;
  packets_are = joined-packets f g o a.packets b.packets a.packets_are b.packets_are;
  side_is = b.side_is ∙ a.side_is;
}

-- Steps

-- a first part, and then later ones
pub made-begun : (schema : Schema) (p q : Phase) (f g : Change) (o : Output) → Makes (FirstPart schema o.end) f o p → Makes (LaterParts p (f o).end) g (f o) q → IsOver q → Makes (OwnParts schema o.end) (f ▷ g) o q
made-begun schema p q f g o a b over = record {
  whats = a.whats ++ b.whats;
  packets = a.packets ++ b.packets;
  parts = begun a.parts b.parts over;
  lines_are = joined-lines f g o a.whats b.whats a.lines_are b.lines_are a.side_is;
  packets_are = joined-packets f g o a.packets b.packets a.packets_are b.packets_are;
  side_is = b.side_is ∙ a.side_is;
}

-- a first part alone
pub made-alone : (schema : Schema) (q : Phase) (change : Change) (o : Output) → Makes (FirstPart schema o.end) change o q → IsOver q → Makes (OwnParts schema o.end) change o q
made-alone schema q change o a over = made-as (OwnParts schema o.end) change (change ▷ unchanged) o q refl (made-begun schema q q change unchanged o a (made-nothing q unchanged (change o) refl) over)

-- a step is its change from the beginning
pub made-step : (Parts : PartsAfter) (e : End) (change : Change) (q : Phase) → Makes Parts change (beginning e) q → IsMadeOf Parts e.side (change (beginning e))
made-step Parts e change q a = record {
  whats = a.whats;
  phase = q;
  parts = subst (λ (ps : List Packet). Parts a.whats ps (change (beginning e)).end q) (sym a.packets_are) a.parts;
  lines = a.lines_are;
}
