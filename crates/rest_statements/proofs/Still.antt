-- What is left at an end where only acts are possible.
use Rattle.std.proofs.Common.{◌≡◌, ℕ, ◌+◌, ◌<◌, ◌≤◌, Bool, true, false, not, if◌then◌else◌, IsTrue, List, [], ◌∷◌, ◌++◌, length, map, count_by, Option, Some, None, refl, sym, ap, subst, ◌∙◌, arith, append_assoc}
use Rattle.std.specs.List.{list_any}
use Rattle.std.proofs.lemmas.List.{append-nil, length-append, length-map}
use Rattle.ipdl_base.specs.declared.kinds.EndState.TheVariants as state
use Rattle.ipdl_base.specs.declared.kinds.Side.{Side}
use Rattle.ipdl_base.specs.declared.line.Line.{Line}
use Rattle.ipdl_base.specs.declared.line.What.{What}
use Rattle.ipdl_base.specs.declared.line.What.TheVariants as what
use Rattle.ipdl_base.specs.declared.schema.Schema.{Schema}
use Rattle.ipdl_base.specs.Deferral.{Arrival, defers_arrival, goodbye, mark, reply}
use Rattle.nesting_core.specs.declared.frame.Head.{Head}
use Rattle.history_reading.specs.declared.parts.CallFrame.{CallFrame}
use Rattle.history_reading.specs.declared.parts.CallFrame.TheVariants as frame
use Rattle.history_reading.specs.declared.parts.PacketKind.{PacketKind}
use Rattle.history_reading.specs.declared.parts.PacketKind.TheVariants as seen
use Rattle.history_reading.specs.EndReading.{has_unanswered}
use Rattle.history_reading.specs.Numbers.{same_packet}
use Rattle.history_reading.specs.SentPacket.{SentPacket, packet_kind}
use Rattle.history_reading.specs.Still.{awaited_level, can_take_now, defers, defers_request_head, takes_items}
use Rattle.law_statements.specs.Arrived.{IsArrived, Passing, arrives, gives_up, is_arrival, is_giving_up, is_leaving, leaves, passing, passings, state_after, state_of}
use Rattle.law_statements.specs.Packets.{delivered, sent}
use Rattle.law_statements.specs.Prefix.{IsPrefix, Prefix}
use Rattle.ipdl_base.specs.Sides.{other}
use Rattle.law_statements.specs.Said.{is_moment, said_by}
use Rattle.law_statements.specs.Stack.{is_sync_of, stack}
use Rattle.law_statements.specs.Waits.{IsStillAt, Waits, deferral, defers_kind, inner_of, sent_head}
use Rattle.law_statements.proofs.Lists.{add, any-add, count-add, made-add}
use Rattle.order_statements.proofs.Tells.{state-more}

-- The stack is empty

none-runs : (frames : List CallFrame) → IsTrue (can_take_now frames) → has_unanswered frames ≡ false → frames ≡ []
none-runs [] can none = refl
none-runs (frame.Dispatch d ∷ below) can none = cc
none-runs (frame.Unanswered c ∷ below) can none = cc
none-runs (frame.Answered c ∷ below) can none = cc

pub still-stack : (schema : Schema) (lines : List Line) → Waits schema lines → (before following : List Line) → lines ≡ before ++ following → IsTrue (is_moment following) → ((end : Side) → IsStillAt schema end before) → (end : Side) → stack schema end before ≡ []
still-stack schema lines waits before following at m still end = none-runs (stack schema end before) (still end).waiting (waits.still before following at m still end)

-- No packet waits

none-deferred : (schema : Schema) (end : Side) (before : List Line) → stack schema end before ≡ [] → (arrival : Arrival) → defers (deferral schema end before) arrival ≡ false
none-deferred schema end before empty arrival =
    ap (λ (frames : List CallFrame). defers_arrival end (awaited_level schema frames) (inner_of schema (said_by (other end) before) (stack schema end before)) arrival) empty

no-head-deferred : (schema : Schema) (end : Side) (before : List Line) → stack schema end before ≡ [] → (head : Option Head) → defers_request_head (deferral schema end before) head ≡ false
no-head-deferred schema end before empty None = refl
no-head-deferred schema end before empty (Some head) = none-deferred schema end before empty _

no-kind-deferred : (schema : Schema) (end : Side) (before : List Line) → stack schema end before ≡ [] → (packet : PacketKind) → defers_kind schema end before packet ≡ false
no-kind-deferred schema end before empty (seen.Request n) = no-head-deferred schema end before empty (sent_head schema (said_by (other end) before) n)
no-kind-deferred schema end before empty (seen.Reply n) = none-deferred schema end before empty (reply false)
no-kind-deferred schema end before empty seen.Goodbye = none-deferred schema end before empty goodbye
no-kind-deferred schema end before empty seen.Broken = none-deferred schema end before empty mark

pub still-none : (schema : Schema) (before : List Line) (end : Side) → stack schema end before ≡ [] → IsStillAt schema end before → IsTrue (takes_items (state_of (said_by end before))) → (packet : PacketKind) → IsArrived schema (said_by end before) packet → ⊥
still-none schema before end empty still takes packet arrived = cc (no-kind-deferred schema end before empty packet, still.deferred takes packet arrived)

-- All that was sent was delivered

front-whole : (ds : List PacketKind) (sents : List SentPacket) → length sents ≤ length ds → (more : List PacketKind) → map packet_kind sents ≡ ds ++ more → ds ≡ map packet_kind sents
front-whole ds sents short [] is = sym (append-nil ds) ∙ sym is
front-whole ds sents short (p ∷ more) is =
    absurd (omega (arith, short, sym (length-map sents packet_kind) ∙ ap length is ∙ length-append ds (p ∷ more)))

pub still-delivered : (schema : Schema) (lines : List Line) → Prefix schema lines → (before following : List Line) → lines ≡ before ++ following → (end : Side) → IsStillAt schema end before → state_of (said_by end before) ≡ state.Open
    → delivered (said_by end before) ≡ map packet_kind (sent schema (said_by (other end) before))
still-delivered schema lines prefix before following at end still is_open =
    let front : IsPrefix (delivered (said_by end before)) (map packet_kind (sent schema (said_by (other end) before))) = prefix.prefixes end before following at in
    front-whole (delivered (said_by end before)) (sent schema (said_by (other end) before)) (still.delivered is_open) front.0 front.1

-- An end does not drain

-- whether a packet is a last packet: a goodbye, or the mark of a death
abbrev is_end : PacketKind → Bool
is_end seen.Goodbye = true
is_end seen.Broken = true
is_end _ = false

-- whether a packet that has arrived is still there after one more passing
abbrev stays : PacketKind → Option Passing → Bool
stays packet None = true
stays packet (Some (arrives p)) = true
stays packet (Some (leaves p)) = not (same_packet p packet)
stays packet (Some gives_up) = false

arrived-longer : (schema : Schema) (told : List What) (w : What) (packet : PacketKind) (x : Passing) → passing schema told w ≡ Some x → is_giving_up x ≡ false → is_leaving packet x ≡ false → IsArrived schema told packet → IsArrived schema (told ++ w ∷ []) packet
arrived-longer schema told w packet x is given leaving a = record {
  before = a.before;
  following = a.following ++ x ∷ [];
  split = made-add (passing schema) [] told w ∙ (ap (add (passings schema told)) is ∙ (ap (λ (ps : List Passing). ps ++ x ∷ []) a.split ∙ append_assoc a.before a.following (x ∷ [])));
  kept = any-add is_giving_up a.following x ∙ (ap (λ (b : Bool). if b then true else list_any is_giving_up a.following) given ∙ a.kept);
  more =
      subst (λ (n : ℕ). n < count_by (is_arrival packet) (a.following ++ x ∷ [])) (sym (count-add (is_leaving packet) a.following x ∙ ap (λ (b : Bool). if b then count_by (is_leaving packet) a.following + 1 else count_by (is_leaving packet) a.following) leaving))
      (subst (λ (n : ℕ). count_by (is_leaving packet) a.following < n) (sym (count-add (is_arrival packet) a.following x)) (up (is_arrival packet x) (count_by (is_leaving packet) a.following) (count_by (is_arrival packet) a.following) a.more));
}
  where
    up : (b : Bool) (l n : ℕ) → l < n → l < (if b then n + 1 else n)
    up true l n less = omega (arith, less)
    up false l n less = less

arrived-stays : (schema : Schema) (told : List What) (w : What) (packet : PacketKind) (o : Option Passing) → passing schema told w ≡ o → IsTrue (stays packet o) → IsArrived schema told packet → IsArrived schema (told ++ w ∷ []) packet
arrived-stays schema told w packet None is s a = record { before = a.before; following = a.following; split = made-add (passing schema) [] told w ∙ (ap (add (passings schema told)) is ∙ a.split); kept = a.kept; more = a.more }
arrived-stays schema told w packet (Some (arrives p)) is s a = arrived-longer schema told w packet (arrives p) is refl refl a
arrived-stays schema told w packet (Some (leaves p)) is s a = arrived-longer schema told w packet (leaves p) is refl (off (same_packet p packet) s) a
  where
    off : (b : Bool) → IsTrue (not b) → b ≡ false
    off true t = cc
    off false t = refl
arrived-stays schema told w packet (Some gives_up) is s a = cc

just-arrived : (schema : Schema) (told : List What) (w : What) (packet : PacketKind) → passing schema told w ≡ Some (arrives packet) → same_packet packet packet ≡ true → IsArrived schema (told ++ w ∷ []) packet
just-arrived schema told w packet is same = record {
  before = passings schema told;
  following = arrives packet ∷ [];
  split = made-add (passing schema) [] told w ∙ ap (add (passings schema told)) is;
  kept = refl;
  more = subst (λ (b : Bool). 0 < (0 + (if b then 1 else 0))) (sym same) (omega arith);
}

reply-stays : (packet : PacketKind) (n : _) (b : Bool) → IsTrue (stays packet (if b then None else Some (arrives (seen.Reply n))))
reply-stays packet n true = refl
reply-stays packet n false = refl

-- a last packet that has arrived is still there after a line that leaves the state as it is
end-stays : (schema : Schema) (told : List What) (packet : PacketKind) → IsTrue (is_end packet) → (w : What) → state_after w ≡ None → IsTrue (stays packet (passing schema told w))
end-stays schema told seen.Goodbye is (what.DeliverReply n) none = reply-stays seen.Goodbye n (is_sync_of schema told n)
end-stays schema told seen.Broken is (what.DeliverReply n) none = reply-stays seen.Broken n (is_sync_of schema told n)
end-stays schema told seen.Goodbye is what.Close none = cc
end-stays schema told seen.Goodbye is what.ShutNormal none = cc
end-stays schema told seen.Goodbye is what.ShutAbnormal none = cc
end-stays schema told seen.Goodbye is what.Die none = cc
end-stays schema told seen.Goodbye is _ none = refl
end-stays schema told seen.Broken is what.Close none = cc
end-stays schema told seen.Broken is what.ShutNormal none = cc
end-stays schema told seen.Broken is what.ShutAbnormal none = cc
end-stays schema told seen.Broken is what.Die none = cc
end-stays schema told seen.Broken is _ none = refl
end-stays schema told (seen.Request n) is w none = cc
end-stays schema told (seen.Reply n) is w none = cc

-- a goodbye or a mark has arrived and not left
record EndArrived (schema : Schema) (told : List What) : Type 0 where
  packet : PacketKind
  ends : IsTrue (is_end packet)
  arrived : IsArrived schema told packet

-- an end drains only if a last packet has arrived
abbrev DrainsByEnd : Schema → List What → Type 0
DrainsByEnd schema told = state_of told ≡ state.Draining → EndArrived schema told

end-longer : (schema : Schema) (told : List What) (w : What) → state_after w ≡ None → EndArrived schema told → EndArrived schema (told ++ w ∷ [])
end-longer schema told w none a = record { packet = a.packet; ends = a.ends; arrived = arrived-stays schema told w a.packet (passing schema told w) refl (end-stays schema told a.packet a.ends w none) a.arrived }

drains-more : (schema : Schema) (told : List What) (w : What) → DrainsByEnd schema told → DrainsByEnd schema (told ++ w ∷ [])
drains-more schema told what.DeliverGoodbye earlier drains = record { packet = seen.Goodbye; ends = refl; arrived = just-arrived schema told what.DeliverGoodbye seen.Goodbye refl refl }
drains-more schema told what.DeliverBroken earlier drains = record { packet = seen.Broken; ends = refl; arrived = just-arrived schema told what.DeliverBroken seen.Broken refl refl }
drains-more schema told what.Close earlier drains = cc (sym (state-more told what.Close) ∙ drains)
drains-more schema told what.ShutNormal earlier drains = cc (sym (state-more told what.ShutNormal) ∙ drains)
drains-more schema told what.ShutAbnormal earlier drains = cc (sym (state-more told what.ShutAbnormal) ∙ drains)
drains-more schema told what.Die earlier drains = cc (sym (state-more told what.Die) ∙ drains)
drains-more schema told w earlier drains = end-longer schema told w refl (earlier (sym (state-more told w) ∙ drains))

drains-by-end : (schema : Schema) (told later : List What) → DrainsByEnd schema told → DrainsByEnd schema (told ++ later)
drains-by-end schema told [] earlier = subst (DrainsByEnd schema) (sym (append-nil told)) earlier
drains-by-end schema told (w ∷ later) earlier = subst (DrainsByEnd schema) (append_assoc told (w ∷ []) later) (drains-by-end schema (told ++ w ∷ []) later (drains-more schema told w earlier))

pub still-not-draining : (schema : Schema) (before : List Line) (end : Side) → stack schema end before ≡ [] → IsStillAt schema end before → state_of (said_by end before) ≡ state.Draining → ⊥
still-not-draining schema before end empty still drains =
    let a : EndArrived schema (said_by end before) = drains-by-end schema [] (said_by end before) (λ e. cc) drains in
    still-none schema before end empty still (ap takes_items drains) a.packet a.arrived
