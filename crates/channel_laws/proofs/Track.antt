-- Parts of a step of an open end, and what they send.
use Rattle.std.proofs.Common.{◌≡◌, ℕ, ◌+◌, ℤ, Bool, true, false, not, cond, List, [], ◌∷◌, ◌++◌, map, find, Option, Some, None, option_map, refl, sym, ap, subst, ◌∙◌}
use Rattle.std.specs.List.{AllByRecursion}
use Rattle.std.proofs.lemmas.Grind.{flat_map-append}
use Rattle.std.proofs.lemmas.List.{append-nil}
use Rattle.ipdl_base.specs.declared.kinds.Reason.TheVariants as reason
use Rattle.ipdl_base.specs.declared.kinds.Side.{Side}
use Rattle.ipdl_base.specs.declared.message.Message.{Message}
use Rattle.ipdl_base.specs.declared.schema.Kind.{Kind}
use Rattle.ipdl_base.specs.declared.schema.Kind.TheVariants.{Normal, Constructor, Delete}
use Rattle.ipdl_base.specs.declared.schema.Schema.{Schema}
use Rattle.nesting_core.specs.declared.frame.Answer.{Answer}
use Rattle.nesting_core.specs.declared.frame.Answer.TheVariants as answer
use Rattle.nesting_core.specs.declared.frame.StackFrame.{StackFrame}
use Rattle.pending_queue.specs.declared.item.Item.{Item}
use Rattle.ipdl_base.specs.declared.kinds.EndState.TheVariants.{Open}
use Rattle.channel_model.specs.Ends.{End, StackEntry, Naming, NameContent, actor, resolver, Resolver, Packet, message}
use Rattle.channel_model.specs.Falls.{fallen, why_deleted, deletes}
use Rattle.channel_model.specs.Names.{has_name, held_by_name, without_name, let_go, holding, renamed}
use Rattle.channel_model.specs.Outputs.{Output, Change, ◌▷◌, when, when_open, on_end, line, put, is_open, AnsweredRequest, answered, destroyed, resolver_answered, answer_line, reply_to, body_of}
use Rattle.channel_model.specs.Sends as sends
use Rattle.channel_model.proofs.Known.{all-append, all-filter}
use Rattle.channel_laws.specs.OpenEnds.{PacketAgrees, ContentAgrees, NamingAgrees}
use Rattle.channel_laws.specs.SyncCalls.{is_sync_number, listed, sync_packet, sync_packets}
use Rattle.nesting_laws.specs.Calls.{SyncPacket, reply, ReplyHead}

-- the frames of entries
abbrev pub frames_in : List StackEntry → List StackFrame
frames_in entries = map (λ (entry : StackEntry). entry.frame) entries

-- What is tracked of an open end, and the sync packets that it has sent.
pub record Track : Type 0 where
  pub side : Side
  pub stack : List StackEntry
  pub arrived : List Item
  pub sent : List SyncPacket

pub record IsOnTrack (schema : Schema) (w : Track) (e : End) (packets : List Packet) : Type 0 where
  pub side_is : e.side ≡ w.side
  pub state_is : e.state ≡ Open
  pub stack_is : e.stack ≡ w.stack
  pub arrived_is : e.arrived ≡ w.arrived
  pub sent_is : sync_packets schema packets ≡ w.sent
  pub agree : AllByRecursion (PacketAgrees schema) packets
  pub named : AllByRecursion (NamingAgrees schema) e.names
  pub outbox_is : sync_packets schema (map message e.outbox) ≡ []
  pub waiting : AllByRecursion (PacketAgrees schema) (map message e.outbox)

-- a part that does not change the track
abbrev pub KeepsTrack : Schema → Change → Type 0
KeepsTrack schema change = (w : Track) (o : Output) → IsOnTrack schema w o.end o.packets → IsOnTrack schema w (change o).end (change o).packets

pub keeps-chain : (schema : Schema) (first second : Change) → KeepsTrack schema first → KeepsTrack schema second → KeepsTrack schema (first ▷ second)
keeps-chain schema first second f s w o h = s w (first o) (f w o h)

pub keeps-when : (schema : Schema) (b : Bool) (change : Change) → KeepsTrack schema change → KeepsTrack schema (when b change)
keeps-when schema true change c w o h = c w o h
keeps-when schema false change c w o h = h

-- an end that equals another except for its names and outbox, and for its actors, promises and counts
pub at-changed : (schema : Schema) (w : Track) (e next : End) (packets : List Packet) → next.side ≡ e.side → next.state ≡ e.state → next.stack ≡ e.stack → next.arrived ≡ e.arrived → AllByRecursion (NamingAgrees schema) next.names → sync_packets schema (map message next.outbox) ≡ [] → AllByRecursion (PacketAgrees schema) (map message next.outbox) → IsOnTrack schema w e packets → IsOnTrack schema w next packets
at-changed schema w e next packets a b c d named outbox waiting h = record {
  side_is = a ∙ h.side_is;
  state_is = b ∙ h.state_is;
  stack_is = c ∙ h.stack_is;
  arrived_is = d ∙ h.arrived_is;
  sent_is = h.sent_is;
  agree = h.agree;
  named = named;
  outbox_is = outbox;
  waiting = waiting;
}

-- an end that also has the same names and outbox
pub at-like : (schema : Schema) (w : Track) (e next : End) (packets : List Packet) → next.side ≡ e.side → next.state ≡ e.state → next.stack ≡ e.stack → next.arrived ≡ e.arrived → next.names ≡ e.names → next.outbox ≡ e.outbox → IsOnTrack schema w e packets → IsOnTrack schema w next packets
at-like schema w e next packets a b c d n o h =
    at-changed schema w e next packets a b c d (subst (AllByRecursion (NamingAgrees schema)) (sym n) h.named) (ap (λ (ms : List Message). sync_packets schema (map message ms)) o ∙ h.outbox_is)
    (subst (λ (ms : List Message). AllByRecursion (PacketAgrees schema) (map message ms)) (sym o) h.waiting) h

-- what is sent where a packet goes after the outbox
sent-following : (schema : Schema) (packets outbox : List Packet) (packet : Packet) (sent : List SyncPacket) → sync_packets schema packets ≡ sent → sync_packets schema outbox ≡ [] → sync_packets schema (packets ++ outbox ++ packet ∷ []) ≡ sent ++ sync_packet schema packet
sent-following schema packets outbox packet sent e f =
    flat_map-append (sync_packet schema) (packets ++ outbox) (packet ∷ [])
    ∙ (ap (λ (ps : List SyncPacket). ps ++ (sync_packet schema packet ++ [])) (flat_map-append (sync_packet schema) packets outbox)
    ∙ (ap (λ (ps : List SyncPacket). (sync_packets schema packets ++ ps) ++ (sync_packet schema packet ++ [])) f
    ∙ (ap (λ (ps : List SyncPacket). ps ++ (sync_packet schema packet ++ [])) (append-nil (sync_packets schema packets))
    ∙ (ap (λ (ps : List SyncPacket). sync_packets schema packets ++ ps) (append-nil (sync_packet schema packet))
    ∙ ap (λ (ps : List SyncPacket). ps ++ sync_packet schema packet) e))))

pub at-put : (schema : Schema) (packet : Packet) → PacketAgrees schema packet → (w : Track) (o : Output) → IsOnTrack schema w o.end o.packets → IsOnTrack schema (record w { sent = w.sent ++ sync_packet schema packet }) (put packet o).end (put packet o).packets
at-put schema packet agrees w o h = record {
  side_is = h.side_is;
  state_is = h.state_is;
  stack_is = h.stack_is;
  arrived_is = h.arrived_is;
  sent_is = sent-following schema o.packets (map message o.end.outbox) packet w.sent h.sent_is h.outbox_is;
  agree = all-append (PacketAgrees schema) (o.packets ++ map message o.end.outbox) (packet ∷ []) (all-append (PacketAgrees schema) o.packets (map message o.end.outbox) h.agree h.waiting) (agrees, tt);
  named = h.named;
  outbox_is = refl;
  waiting = tt;
}

pub at-sent : (schema : Schema) (w : Track) (more some : List SyncPacket) (e : End) (packets : List Packet) → more ≡ some → IsOnTrack schema (record w { sent = more }) e packets → IsOnTrack schema (record w { sent = some }) e packets
at-sent schema w more some e packets equal h = subst (λ (ps : List SyncPacket). IsOnTrack schema (record w { sent = ps }) e packets) equal h

-- an open end
when_open-is : (change : Change) (o : Output) → o.end.state ≡ Open → when_open change o ≡ change o
when_open-is change o is = ap (λ (s : _). when (is_open s) change o) is

-- Answers

-- the reply that an answer makes
abbrev pub answered_reply : AnsweredRequest → ReplyHead
answered_reply q = record { seq = q.seq; route = q.route; number = q.number + 1 }

answer-sync_packets : (schema : Schema) (q : AnsweredRequest) (a : Answer) → sync_packet schema (message (reply_to q (body_of a))) ≡ listed (is_sync_number schema (q.number + 1)) (reply (answered_reply q))
answer-sync_packets schema q (answer.Ok vs) = refl
answer-sync_packets schema q (answer.Fault why) = refl

answer-agree : (schema : Schema) (q : AnsweredRequest) (a : Answer) → PacketAgrees schema (message (reply_to q (body_of a)))
answer-agree schema q (answer.Ok vs) = tt
answer-agree schema q (answer.Fault why) = tt

pub at-answered : (schema : Schema) (q : AnsweredRequest) (a : Answer) (w : Track) (o : Output) → IsOnTrack schema w o.end o.packets
    → IsOnTrack schema (record w { sent = w.sent ++ listed (is_sync_number schema (q.number + 1)) (reply (answered_reply q)) }) (answered q a o).end (answered q a o).packets
at-answered schema q a w o h =
    let change : Change = line (answer_line q.seq a) ▷ put (message (reply_to q (body_of a))) in
    let done = at-put schema (message (reply_to q (body_of a))) (answer-agree schema q a) w (line (answer_line q.seq a) o) h in
    let replied = at-sent schema w (w.sent ++ sync_packet schema (message (reply_to q (body_of a)))) (w.sent ++ listed (is_sync_number schema (q.number + 1)) (reply (answered_reply q))) (change o).end (change o).packets (ap (λ (ps : List SyncPacket). w.sent ++ ps) (answer-sync_packets schema q a)) done in
    subst (λ (n : Output). IsOnTrack schema (record w { sent = w.sent ++ listed (is_sync_number schema (q.number + 1)) (reply (answered_reply q)) }) n.end n.packets) (sym (when_open-is change o h.state_is)) replied

pub keeps-answered : (schema : Schema) (q : AnsweredRequest) (a : Answer) → is_sync_number schema (q.number + 1) ≡ false → KeepsTrack schema (answered q a)
keeps-answered schema q a async w o h =
    at-sent schema w (w.sent ++ listed (is_sync_number schema (q.number + 1)) (reply (answered_reply q))) w.sent (answered q a o).end (answered q a o).packets
    (ap (λ (b : Bool). w.sent ++ listed b (reply (answered_reply q))) async ∙ append-nil w.sent) (at-answered schema q a w o h)

pub keeps-destroyed : (schema : Schema) (r : Resolver) → is_sync_number schema (r.number + 1) ≡ false → KeepsTrack schema (destroyed r)
keeps-destroyed schema r async = keeps-answered schema (resolver_answered r) (answer.Fault reason.ResolverDestroyed) async

-- Names

found-has : {A : Type 0} (P : A → Type 0) (test : A → Bool) (y : A) (ys : List A) (x : A) (b : Bool) → cond b (Some y) (find test ys) ≡ Some x → P y → (find test ys ≡ Some x → P x) → P x
found-has P test y ys x true e here later = let s : y ≡ x = cc in subst P s here
found-has P test y ys x false e here later = later e

pub all-found : {A : Type 0} (P : A → Type 0) (test : A → Bool) (xs : List A) (x : A) → AllByRecursion P xs → find test xs ≡ Some x → P x
all-found P test [] x h e = cc
all-found P test (y ∷ ys) x h e = found-has P test y ys x (test y) e h.0 (λ k. all-found P test ys x h.1 k)

abbrev pub MayHold : Schema → Option NameContent → Type 0
MayHold schema None = Unit {0}
MayHold schema (Some holds) = ContentAgrees schema holds

pub held-agree : (schema : Schema) (name : List ℕ) (names : List Naming) (found : Option Naming) → find (has_name name) names ≡ found → AllByRecursion (NamingAgrees schema) names → MayHold schema (option_map (λ naming. naming.holds) found)
held-agree schema name names None is h = tt
held-agree schema name names (Some naming) is h = all-found (NamingAgrees schema) (has_name name) names naming h is

holding-agree : (schema : Schema) (name : List ℕ) (holds : Option NameContent) → MayHold schema holds → AllByRecursion (NamingAgrees schema) (holding name holds)
holding-agree schema name None h = tt
holding-agree schema name (Some holds) h = (h, tt)

keeps-let_go : (schema : Schema) (holds : Option NameContent) → MayHold schema holds → KeepsTrack schema (let_go holds)
keeps-let_go schema None agrees w o h = h
keeps-let_go schema (Some (actor id)) agrees w o h = h
keeps-let_go schema (Some (resolver r)) agrees w o h = keeps-destroyed schema r agrees w o h

pub at-names : (schema : Schema) (w : Track) (e : End) (names : List Naming) (packets : List Packet) → AllByRecursion (NamingAgrees schema) names → IsOnTrack schema w e packets → IsOnTrack schema w (record e { names = names }) packets
at-names schema w e names packets agrees h = at-changed schema w e (record e { names = names }) packets refl refl refl refl agrees h.outbox_is h.waiting h

pub keeps-renamed : (schema : Schema) (name : List ℕ) (holds : Option NameContent) → MayHold schema holds → KeepsTrack schema (renamed name holds)
keeps-renamed schema name holds agrees w o h =
    let before : Option NameContent = held_by_name name o.end.names in
    let taken : Output = on_end (λ e. record e { names = without_name name e.names }) o in
    let gone : Output = let_go before taken in
    let first = at-names schema w o.end (without_name name o.end.names) o.packets (all-filter (NamingAgrees schema) (λ naming. not (has_name name naming)) o.end.names h.named) h in
    let second = keeps-let_go schema before (held-agree schema name o.end.names (find (has_name name) o.end.names) refl h.named) w taken first in
    at-names schema w gone.end (gone.end.names ++ holding name holds) gone.packets (all-append (NamingAgrees schema) gone.end.names (holding name holds) second.named (holding-agree schema name holds agrees)) second

-- Actors

pub keeps-deletes : (schema : Schema) (route : ℤ) (kind : Kind) → KeepsTrack schema (deletes route kind)
keeps-deletes schema route Normal w o h = h
keeps-deletes schema route (Constructor protocol) w o h = h
keeps-deletes schema route Delete w o h = at-like schema w o.end (fallen route (why_deleted route) o).end o.packets refl refl refl refl refl refl h

pub keeps-constructs : (schema : Schema) (id route : ℤ) (kind : Kind) → KeepsTrack schema (sends.constructs id route kind)
keeps-constructs schema id route Normal w o h = h
keeps-constructs schema id route (Constructor protocol) w o h = at-like schema w o.end (sends.constructs id route (Constructor protocol) o).end o.packets refl refl refl refl refl refl h
keeps-constructs schema id route Delete w o h = h

pub keeps-names_actor : (schema : Schema) (id : ℤ) (name : Option (List ℕ)) → KeepsTrack schema (sends.names_actor id name)
keeps-names_actor schema id None w o h = h
keeps-names_actor schema id (Some name) w o h = keeps-renamed schema name (Some (actor id)) tt w o h
