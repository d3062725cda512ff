-- Each reply to a sync request finds its wait.
use Rattle.std.proofs.Common.{◌≡◌, Bool, true, false, ◌&&◌, List, ◌∷◌, ◌++◌, Option, Some, None, refl, sym, ap, subst, ◌∙◌, ◌+◌, ◌==◌, int_eq, option_map, find}
use Rattle.std.proofs.lemmas.Bool.{eq-eqb}
use Rattle.std.proofs.lemmas.Bool.Decides.{Decides-int_eq}
use Rattle.std.proofs.lemmas.Option.{same_Some}
use Rattle.std.specs.Option.{option_map_or}
use Rattle.channel_model.specs.Refusals.{is_replied_to}
use Rattle.ipdl_base.specs.declared.kinds.Side.{Side}
use Rattle.ipdl_base.specs.declared.message.Body.{Body}
use Rattle.ipdl_base.specs.declared.message.Body.TheVariants.{Request, Reply, Fault, Goodbye}
use Rattle.ipdl_base.specs.declared.message.Message.{Message}
use Rattle.ipdl_base.specs.declared.schema.Schema.{Schema}
use Rattle.nesting_core.specs.Frames.{head_of, is_unanswered}
use Rattle.ipdl_base.specs.declared.kinds.EndState.TheVariants.{Open}
use Rattle.channel_model.specs.Ends.{End, World, Packet, message, end_of, link_to, StackEntry}
use Rattle.ipdl_base.specs.Sides.{other}
use Rattle.channel_laws.proofs.Awaited.{awaited-for}
use Rattle.channel_laws.proofs.WorldSteps.{nested_top}
use Rattle.channel_laws.specs.Laws.{IsReply, RepliesFindTheirWaits, world_of, awaited_reply, SyncRepliesAreNotStray}
use Rattle.channel_laws.specs.NestedWorlds.{AreNestedFrom, sync_end_of, EndsAreNested, both_open, mine_open, theirs_open, both_over, IsNestedWorld}
use Rattle.channel_laws.specs.SyncCalls.{is_sync_number, level_of, listed, sync_packets, sync_body, sync_calls, reply_head}
use Rattle.nesting_laws.proofs.Replies.{replies_are_for_top}
use Rattle.nesting_laws.specs.Alone.{IsAlone}
use Rattle.nesting_laws.specs.Calls.{SyncPacket, reply, sync_end, ReplyHead}
use Rattle.channel_laws.proofs.EveryRun.{nesting_in_every_run, from-side, end-side, open-not_over}

reply-sync_packets : (schema : Schema) (m : Message) (body : Body) (rest : List Packet) → m.body ≡ body → IsReply body → is_sync_number schema m.number ≡ true → sync_packets schema (message m ∷ rest) ≡ reply (reply_head m) ∷ sync_packets schema rest
reply-sync_packets schema m (Request vs) rest is r sync = absurd r
reply-sync_packets schema m (Reply vs) rest is r sync =
    ap (λ (b : Body). sync_body (is_sync_number schema m.number) (level_of schema m.number) m b ++ sync_packets schema rest) is ∙ ap (λ (b : Bool). listed b (reply (reply_head m)) ++ sync_packets schema rest) sync
reply-sync_packets schema m (Fault why) rest is r sync =
    ap (λ (b : Body). sync_body (is_sync_number schema m.number) (level_of schema m.number) m b ++ sync_packets schema rest) is ∙ ap (λ (b : Bool). listed b (reply (reply_head m)) ++ sync_packets schema rest) sync
reply-sync_packets schema m Goodbye rest is r sync = absurd r

pub reply-waits : (schema : Schema) (side : Side) (mine theirs : End) (to_me to_them : List Packet) (m : Message) (rest : List Packet) → mine.state ≡ Open → mine.side ≡ side → to_me ≡ message m ∷ rest → IsReply m.body → is_sync_number schema m.number ≡ true → EndsAreNested schema side mine theirs to_me to_them → awaited_reply mine.stack ≡ Some (reply_head m)
reply-waits schema side mine theirs to_me to_them m rest is_open_end is_side link r sync (both_open {stack} {under} h t n) =
    let ps : sync_packets schema to_me ≡ reply (reply_head m) ∷ sync_packets schema rest = ap (sync_packets schema) link ∙ reply-sync_packets schema m m.body rest refl r sync in
    awaited-for mine.side mine.stack stack (reply_head m) h.shows (nested_top side stack (sync_calls mine.arrived) (reply_head m) (sync_packets schema rest) (sync_end_of schema theirs to_them under) (subst (λ (qs : List SyncPacket). AreNestedFrom side (sync_end stack (sync_calls mine.arrived) qs) (sync_end_of schema theirs to_them under)) ps n))
reply-waits schema side mine theirs to_me to_them m rest is_open_end is_side link r sync (mine_open {stack} h gone l a) =
    let ps : sync_packets schema to_me ≡ reply (reply_head m) ∷ sync_packets schema rest = ap (sync_packets schema) link ∙ reply-sync_packets schema m m.body rest refl r sync in
    awaited-for mine.side mine.stack stack (reply_head m) h.shows (replies_are_for_top.alone side stack (sync_calls mine.arrived) (reply_head m) (sync_packets schema rest) (subst (λ (qs : List SyncPacket). IsAlone side (sync_end stack (sync_calls mine.arrived) qs)) ps a))
reply-waits schema side mine theirs to_me to_them m rest is_open_end is_side link r sync (theirs_open h gone l a) = open-not_over mine is_open_end gone.ended
reply-waits schema side mine theirs to_me to_them m rest is_open_end is_side link r sync (both_over a b) = open-not_over mine is_open_end a

pub replies_find_their_waits : RepliesFindTheirWaits
replies_find_their_waits schema sound top moves side m rest is_open_end link r sync =
    let w : World = world_of schema top moves in
    let h : IsNestedWorld schema w = nesting_in_every_run schema sound top moves in
    reply-waits schema side (end_of side w) (end_of (other side) w) (link_to side w) (link_to (other side) w) m rest is_open_end (end-side schema side w h) link r sync (from-side schema side w h)

-- no such reply is stray

waited-entry : (m : Message) (entry : StackEntry) → record { seq = (head_of entry.frame).seq; route = entry.route; number = entry.number + 1 } ≡ reply_head m → is_replied_to m (head_of entry.frame).seq entry.number entry.route ≡ true
waited-entry m entry e =
    let a : int_eq m.seq (head_of entry.frame).seq ≡ true = (Decides-int_eq m.seq (head_of entry.frame).seq).1 (sym (ap (λ (r : ReplyHead). r.seq) e)) in
    let b : (m.number == entry.number + 1) ≡ true = eq-eqb m.number (entry.number + 1) (sym (ap (λ (r : ReplyHead). r.number) e)) in
    let c : int_eq m.route entry.route ≡ true = (Decides-int_eq m.route entry.route).1 (sym (ap (λ (r : ReplyHead). r.route) e)) in
    ap (λ (x : Bool). x && ((m.number == entry.number + 1) && int_eq m.route entry.route)) a ∙ (ap (λ (x : Bool). x && int_eq m.route entry.route) b ∙ c)

waited-found : (m : Message) (found : Option StackEntry) → option_map (λ entry. record { seq = (head_of entry.frame).seq; route = entry.route; number = entry.number + 1 }) found ≡ Some (reply_head m)
    → option_map_or (λ entry. is_replied_to m (head_of entry.frame).seq entry.number entry.route) found false ≡ true
waited-found m None e = cc
waited-found m (Some entry) e = waited-entry m entry (same_Some (record { seq = (head_of entry.frame).seq; route = entry.route; number = entry.number + 1 }) (reply_head m) e)

pub sync_replies_are_not_stray : SyncRepliesAreNotStray
sync_replies_are_not_stray schema sound top moves side m rest is_open_end link r sync =
    waited-found m (find (λ entry. is_unanswered entry.frame) (end_of side (world_of schema top moves)).stack) (replies_find_their_waits schema sound top moves side m rest is_open_end link r sync)
