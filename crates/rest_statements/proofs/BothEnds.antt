-- Where one end is open and nothing is on the link toward it, the other has not ended.
use Rattle.std.proofs.Common.{◌≡◌, ◌⊎◌, inl, inr, Bool, true, false, ◌||◌, if◌then◌else◌, List, [], ◌∷◌, ◌++◌, reverse, map, filter_map, Option, Some, None, unwrap_or, refl, sym, ap, subst, append_assoc, ◌∙◌}
use Rattle.std.specs.List.{cons_option, list_any, slice_get}
use Rattle.std.specs.Option.{option_map_or}
use Rattle.std.proofs.lemmas.List.{reverse-append, reverse-reverse}
use Rattle.std.proofs.lemmas.List.Elements.{filter_map-append}
use Rattle.ipdl_base.specs.declared.kinds.EndState.{EndState}
use Rattle.ipdl_base.specs.declared.kinds.EndState.TheVariants as state
use Rattle.ipdl_base.specs.declared.kinds.Side.{Side}
use Rattle.ipdl_base.specs.declared.kinds.Side.TheVariants as side
use Rattle.ipdl_base.specs.declared.line.Line.{Line}
use Rattle.ipdl_base.specs.declared.line.What.{What}
use Rattle.ipdl_base.specs.declared.line.What.TheVariants as what
use Rattle.ipdl_base.specs.declared.schema.Schema.{Schema}
use Rattle.ipdl_base.specs.Lines.{same_side}
use Rattle.history_reading.specs.declared.parts.PacketKind.{PacketKind}
use Rattle.history_reading.specs.declared.parts.PacketKind.TheVariants as seen
use Rattle.history_reading.specs.SentPacket.{SentPacket, packet_kind}
use Rattle.history_reading.specs.SentPacket as told
use Rattle.channel_laws.specs.Notes.{In, here, there}
use Rattle.channel_laws.proofs.Growing.{in-before, in-following}
use Rattle.progress_laws.proofs.Members.{in-map}
use Rattle.law_statements.specs.Arrived.{arrives, passing, state_after, state_of}
use Rattle.law_statements.specs.Packets.{delivered, delivery, is_farewell, sent, sent_at}
use Rattle.law_statements.specs.Prefix.{DeliversWhatWasSent, Prefix}
use Rattle.ipdl_base.specs.Sides.{other}
use Rattle.law_statements.specs.Said.{line_of, made_of, said_by, said_in}
use Rattle.law_statements.specs.Stack.{is_sync_of}
use Rattle.alone_laws.proofs.LivingActors.{made-append}
use Rattle.order_statements.specs.Order.{Order, packet_taken}
use Rattle.rest_statements.specs.Rest.{HasEnded}

-- What is in lists

-- the place of an element
record Place {A : Type 0} (x : A) (xs : List A) : Type 0 where
  front : List A
  back : List A
  is : xs ≡ front ++ x ∷ back

place-of : {A : Type 0} (x : A) (xs : List A) → In x xs → Place x xs
place-of x [] i = elim i [ ]
place-of x (y ∷ ys) here = record { front = []; back = ys; is = refl }
place-of {A} x (y ∷ ys) (there i) = let r = place-of x ys i in record { front = y ∷ r.front; back = r.back; is = ap (λ (zs : List A). y ∷ zs) r.is }

in-reverse : {A : Type 0} (x : A) (xs : List A) → In x xs → In x (reverse xs)
in-reverse {A} x xs i =
    let p = place-of x xs i in
    subst (In x) (sym (ap reverse p.is ∙ reverse-append p.front (x ∷ p.back) ∙ ap (λ (ys : List A). ys ++ reverse p.front) (reverse-append (x ∷ []) p.back)))
    (in-before (reverse p.front) (in-following (reverse p.back) here))

-- an element of a filtered list comes from some element
record Kept {A B : Type 0} (f : A → Option B) (xs : List A) (y : B) : Type 0 where
  one : A
  in_it : In one xs
  is : f one ≡ Some y

kept-from : {A B : Type 0} (f : A → Option B) (xs : List A) (y : B) → In y (filter_map f xs) → Kept f xs y
kept-from f [] y i = elim i [ ]
kept-from {A} {B} f (x ∷ xs) y i = by (f x) refl i (kept-from f xs y)
  where
    more : Kept f xs y → Kept f (x ∷ xs) y
    more k = record { one = k.one; in_it = there k.in_it; is = k.is }

    by : (o : Option B) → f x ≡ o → In y (cons_option o (filter_map f xs)) → (In y (filter_map f xs) → Kept f xs y) → Kept f (x ∷ xs) y
    by None e i rec = more (rec i)
    by (Some z) e here rec = record { one = x; in_it = here; is = e }
    by (Some z) e (there i) rec = more (rec i)

in-kept : {A B : Type 0} (f : A → Option B) (x : A) (y : B) (xs : List A) → f x ≡ Some y → In x xs → In y (filter_map f xs)
in-kept {A} {B} f x y xs e i =
    let p = place-of x xs i in
    subst (In y) (sym (ap (filter_map f) p.is ∙ filter_map-append f p.front (x ∷ p.back) ∙ ap (λ (o : Option B). filter_map f p.front ++ cons_option o (filter_map f p.back)) e))
    (in-following (filter_map f p.front) here)

from-map : {A B : Type 0} (f : A → B) (xs : List A) (y : B) → In y (map f xs) → (x : A) × In x xs × (f x ≡ y)
from-map f [] y i = elim i [ ]
from-map f (x ∷ xs) y here = (x, here, refl)
from-map f (x ∷ xs) y (there i) = let r = from-map f xs y i in (r.0, there r.1, r.2)

-- the same for a list made from the lines of an end
record Made {A : Type 0} (make : List What → What → Option A) (ws : List What) (y : A) : Type 0 where
  earlier : List What
  one : What
  in_it : In one ws
  is : make earlier one ≡ Some y

made-from : {A : Type 0} (make : List What → What → Option A) (before ws : List What) (y : A) → In y (made_of make before ws) → Made make ws y
made-from make before [] y i = elim i [ ]
made-from {A} make before (w ∷ ws) y i = by (make before w) refl i (made-from make (before ++ w ∷ []) ws y)
  where
    more : Made make ws y → Made make (w ∷ ws) y
    more k = record { earlier = k.earlier; one = k.one; in_it = there k.in_it; is = k.is }

    by : (o : Option A) → make before w ≡ o → In y (cons_option o (made_of make (before ++ w ∷ []) ws)) → (In y (made_of make (before ++ w ∷ []) ws) → Made make ws y) → Made make (w ∷ ws) y
    by None e i rec = more (rec i)
    by (Some z) e here rec = record { earlier = before; one = w; in_it = here; is = e }
    by (Some z) e (there i) rec = more (rec i)

in-made : {A : Type 0} (make : List What → What → Option A) (front : List What) (w : What) (back : List What) (y : A) → make front w ≡ Some y → In y (made_of make [] (front ++ w ∷ back))
in-made {A} make front w back y e =
    subst (In y) (sym (made-append make [] front (w ∷ back) ∙ ap (λ (o : Option A). made_of make [] front ++ cons_option o (made_of make (front ++ w ∷ []) back)) e))
    (in-following (made_of make [] front) here)

-- States

opens-never : (w : What) → state_after w ≡ Some state.Open → ⊥
opens-never what.DeliverGoodbye e = cc
opens-never what.DeliverBroken e = cc
opens-never what.Close e = cc
opens-never what.ShutNormal e = cc
opens-never what.ShutAbnormal e = cc
opens-never what.Die e = cc
opens-never _ e = cc

-- the latest state, if there is one, comes from a line
latest : (ss : List EndState) (s : EndState) → unwrap_or (slice_get ss 0) state.Open ≡ s → (ss ≡ []) ⊎ In s ss
latest [] s e = inl refl
latest (t ∷ ts) s e = inr (subst (λ (u : EndState). In u (t ∷ ts)) e here)

-- An open end has no line that ends it.
pub open-said : (own : List What) → state_of own ≡ state.Open → (w : What) → In w own → state_after w ≡ None
open-said own is w i = by (state_after w) refl (latest (filter_map state_after (reverse own)) state.Open is)
  where
    by : (o : Option EndState) → state_after w ≡ o → (filter_map state_after (reverse own) ≡ []) ⊎ In state.Open (filter_map state_after (reverse own)) → o ≡ None
    by None e h = refl
    by (Some s) e (inl none) = elim (subst (In s) none (in-kept state_after w s (reverse own) e (in-reverse w own i))) [ ]
    by (Some s) e (inr some) = let k = kept-from state_after (reverse own) state.Open some in absurd (opens-never k.one k.is)

-- The last packets of the channel

-- whether a packet is the goodbye or the mark of a death
abbrev is_end : PacketKind → Bool
is_end seen.Goodbye = true
is_end seen.Broken = true
is_end _ = false

-- An end that sends a last packet closes or dies.
sends-end : (schema : Schema) (earlier : List What) (w : What) → option_map_or (λ (p : SentPacket). is_end (packet_kind p)) (sent_at schema earlier w) false ≡ true → state_after w ≡ None → ⊥
sends-end schema earlier what.Close e q = cc
sends-end schema earlier what.Die e q = cc
sends-end schema earlier _ e q = cc

-- An end to which the other's last packet is delivered drains.
delivers-end : (w : What) → option_map_or is_end (delivery w) false ≡ true → state_after w ≡ None → ⊥
delivers-end what.DeliverGoodbye e q = cc
delivers-end what.DeliverBroken e q = cc
delivers-end _ e q = cc

-- a packet that arrives is delivered
arrives-end : (schema : Schema) (earlier : List What) (w : What) (p : PacketKind) → is_end p ≡ true → passing schema earlier w ≡ Some (arrives p) → delivery w ≡ Some p
arrives-end schema earlier what.DeliverGoodbye p end e = cc
arrives-end schema earlier what.DeliverBroken p end e = cc
arrives-end schema earlier (what.DeliverRequest n) p end e = cc
arrives-end schema earlier (what.DeliverReply n) p end e = by (is_sync_of schema earlier n) e
  where
    by : (b : Bool) → (if b then None else Some (arrives (seen.Reply n))) ≡ Some (arrives p) → Some (seen.Reply n) ≡ Some p
    by true e = cc
    by false e = cc
arrives-end schema earlier _ p end e = cc

-- an element that passes a test
any-in : {A : Type 0} (test : A → Bool) (xs : List A) → list_any test xs ≡ true → (x : A) × In x xs × (test x ≡ true)
any-in test [] e = cc
any-in {A} test (x ∷ xs) e = by (test x) refl e (any-in test xs)
  where
    by : (b : Bool) → test x ≡ b → (b || list_any test xs) ≡ true → (list_any test xs ≡ true → (y : A) × In y xs × (test y ≡ true)) → (y : A) × In y (x ∷ xs) × (test y ≡ true)
    by true is e rec = (x, here, is)
    by false is e rec = let r = rec e in (r.0, there r.1, r.2)

-- Lines

other-twice : (end : Side) → other (other end) ≡ end
other-twice side.Parent = refl
other-twice side.Child = refl

pub side-same : (a b : Side) → same_side a b ≡ true → a ≡ b
side-same side.Parent side.Parent e = refl
side-same side.Child side.Child e = refl
side-same side.Parent side.Child e = cc
side-same side.Child side.Parent e = cc

-- the line of an end with this content
record LineOf (end : Side) (w : What) (lines : List Line) : Type 0 where
  front : List Line
  back : List Line
  is : lines ≡ front ++ line_of end w ∷ back

line-said : (end : Side) (w : What) (lines : List Line) → In w (said_by end lines) → LineOf end w lines
line-said end w [] i = elim i [ ]
line-said end w (line ∷ lines) i = by (same_side line.side end) refl line.what refl i (line-said end w lines)
  where
    more : LineOf end w lines → LineOf end w (line ∷ lines)
    more r = record { front = line ∷ r.front; back = r.back; is = ap (λ (ls : List Line). line ∷ ls) r.is }

    by : (b : Bool) → same_side line.side end ≡ b → (said : What) → line.what ≡ said → In w (cons_option (if b then Some said else None) (said_by end lines)) → (In w (said_by end lines) → LineOf end w lines) → LineOf end w (line ∷ lines)
    by true e said is here rec = record { front = []; back = lines; is = ap (λ (s : Side). record { side = s; what = line.what } ∷ lines) (side-same line.side end e) ∙ ap (λ (u : What). line_of end u ∷ lines) is }
    by true e said is (there i) rec = more (rec i)
    by false e said is i rec = more (rec i)

-- how an end that has ended did so: it closed by itself, or because the other had ended, or it died
data Ending (ws : List What) : Type 0 where
  closes : In what.Close ws → Ending ws
  shuts : (w : What) (p : PacketKind) → In w ws → packet_taken w ≡ Some p → is_end p ≡ true → Ending ws
  dies : In what.Die ws → Ending ws

-- whether a state is closed or dead
abbrev is_over : EndState → Bool
is_over state.Closed = true
is_over state.Dead = true
is_over _ = false

-- A line after which its end is closed or dead is one of these.
ends-by : (ws : List What) (w : What) → In w ws → option_map_or is_over (state_after w) false ≡ true → Ending ws
ends-by ws what.Close i e = closes i
ends-by ws what.ShutNormal i e = shuts what.ShutNormal seen.Goodbye i refl refl
ends-by ws what.ShutAbnormal i e = shuts what.ShutAbnormal seen.Broken i refl refl
ends-by ws what.Die i e = dies i
ends-by ws _ i e = cc

ended-by : (ws : List What) (s : EndState) → is_over s ≡ true → state_of ws ≡ s → Ending ws
ended-by ws s over is = by (latest (filter_map state_after (reverse ws)) s is)
  where
    by : (filter_map state_after (reverse ws) ≡ []) ⊎ In s (filter_map state_after (reverse ws)) → Ending ws
    by (inl none) =
        let open_is : state.Open ≡ s = sym (ap (λ (ss : List EndState). unwrap_or (slice_get ss 0) state.Open) none) ∙ is in
        let k : is_over state.Open ≡ true = ap is_over open_is ∙ over in cc
    by (inr some) =
        let k = kept-from state_after (reverse ws) s some in
        ends-by ws k.one (subst (In k.one) (reverse-reverse ws) (in-reverse k.one (reverse ws) k.in_it)) (ap (λ (o : Option EndState). option_map_or is_over o false) k.is ∙ over)

has-ended : (end : Side) (before : List Line) → HasEnded end before → Ending (said_by end before)
has-ended end before (inl is) = ended-by (said_by end before) state.Closed refl is
has-ended end before (inr is) = ended-by (said_by end before) state.Dead refl is

-- Where one end is open and all that the other has sent was delivered to it, the other has not ended.
pub one-open : (schema : Schema) (lines : List Line) → Prefix schema lines → Order schema lines → (before following : List Line) → lines ≡ before ++ following
    → (end : Side) → state_of (said_by end before) ≡ state.Open → delivered (said_by end before) ≡ map packet_kind (sent schema (said_by (other end) before)) → HasEnded (other end) before → ⊥
one-open schema lines prefix order before following lines_are end is_open_end all ended = by (has-ended (other end) before ended)
  where
    own : List What
    own = said_by end before

    theirs : List What
    theirs = said_by (other end) before

    quiet : (w : What) → In w own → state_after w ≡ None
    quiet = open-said own is_open_end

    -- the other end has sent no last packet
    unsent : (p : SentPacket) → In p (sent schema theirs) → is_end (packet_kind p) ≡ true → ⊥
    unsent p i e =
        let k = kept-from delivery own (packet_kind p) (subst (In (packet_kind p)) (sym all) (in-map packet_kind i)) in
        delivers-end k.one (ap (λ (o : Option PacketKind). option_map_or is_end o false) k.is ∙ e) (quiet k.one k.in_it)

    prefixes : DeliversWhatWasSent schema (other end) before
    prefixes = prefix.prefixes (other end) before following lines_are

    -- no last packet was delivered to it
    undelivered : (w : What) (p : PacketKind) → In w theirs → delivery w ≡ Some p → is_end p ≡ true → ⊥
    undelivered w p i is e =
        let shown : In p (map packet_kind (sent schema (said_by (other (other end)) before))) = subst (In p) (sym prefixes.1) (in-before prefixes.0 (in-kept delivery w p theirs is i)) in
        let m = from-map packet_kind (sent schema own) p (subst (λ (s : Side). In p (map packet_kind (sent schema (said_by s before)))) (other-twice end) shown) in
        let k = made-from (sent_at schema) [] own m.0 m.1 in
        sends-end schema k.earlier k.one (ap (λ (o : Option SentPacket). option_map_or (λ (q : SentPacket). is_end (packet_kind q)) o false) k.is ∙ ap is_end m.2 ∙ e) (quiet k.one k.in_it)

    by-close : In what.Close theirs → ⊥
    by-close i =
        let p = place-of what.Close theirs i in
        unsent told.goodbye (subst (λ (ws : List What). In told.goodbye (sent schema ws)) (sym p.is) (in-made (sent_at schema) p.front what.Close p.back told.goodbye refl)) refl

    by-farewell : (w : What) → is_farewell w ≡ true → In w theirs → ⊥
    by-farewell what.Close e i = by-close i
    by-farewell what.DeliverGoodbye e i = undelivered what.DeliverGoodbye seen.Goodbye i refl refl
    by-farewell what.DeliverBroken e i = undelivered what.DeliverBroken seen.Broken i refl refl
    by-farewell _ e i = cc

    by-mark : (front back : List What) → theirs ≡ front ++ what.Die ∷ back → (b : Bool) → list_any is_farewell front ≡ b → ⊥
    by-mark front back is true e =
        let f = any-in is_farewell front e in
        by-farewell f.0 f.2 (subst (In f.0) (sym is) (in-before (what.Die ∷ back) f.1))
    by-mark front back is false e =
        unsent told.broken (subst (λ (ws : List What). In told.broken (sent schema ws)) (sym is) (in-made (sent_at schema) front what.Die back told.broken (ap (λ (b : Bool). if b then None else Some told.broken) e))) refl

    by : Ending theirs → ⊥
    by (closes i) = by-close i
    by (shuts w p i taken e) =
        let l = line-said (other end) w before i in
        let t = order.takes (other end) w p l.front (l.back ++ following) (lines_are ∙ ap (λ (ls : List Line). ls ++ following) l.is ∙ append_assoc l.front (line_of (other end) w ∷ l.back) following) taken in
        let m = made-from (passing schema) [] (said_by (other end) l.front) (arrives p) (subst (In (arrives p)) (sym t.arrival) (in-following t.earlier here)) in
        let before_is : theirs ≡ said_by (other end) l.front ++ said_by (other end) (line_of (other end) w ∷ l.back) = ap (said_by (other end)) l.is ∙ filter_map-append (said_in (other end)) l.front (line_of (other end) w ∷ l.back) in
        undelivered m.one p (subst (In m.one) (sym before_is) (in-before (said_by (other end) (line_of (other end) w ∷ l.back)) m.in_it)) (arrives-end schema m.earlier m.one p e m.is) e
    by (dies i) =
        let p = place-of what.Die theirs i in
        by-mark p.front p.back p.is (list_any is_farewell p.front) refl
