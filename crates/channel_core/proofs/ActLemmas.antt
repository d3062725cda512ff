-- What acts of handlers make: resolvers that are used, kept and dropped, names, and answers.
use Rattle.std.proofs.Common.{◌≡◌, ℕ, suc, ◌+◌, ◌-◌, ◌≤◌, ℤ, Bool, true, false, ◌&&◌, cond, List, [], ◌∷◌, ◌++◌, length, Option, Some, None, is_some, option_and_then, refl, ap, sym, subst, ◌∙◌, append-nil, arith}
use Rattle.ipdl_base.specs.declared.kinds.Reason.TheVariants.{ResolverDestroyed}
use Rattle.ipdl_base.specs.declared.line.Line.{Line}
use Rattle.ipdl_base.specs.declared.line.What.{What}
use Rattle.ipdl_base.specs.declared.line.What.TheVariants as what
use Rattle.ipdl_base.specs.declared.message.Message.{Message}
use Rattle.ipdl_base.specs.declared.schema.Schema.{Schema}
use Rattle.ipdl_base.specs.Sound.{IsSound}
use Rattle.channel_model.specs.Acts.{name_actor}
use Rattle.channel_model.specs.Answers.{handled_resolver, has_resolver, keep, kept_by, may_keep, released}
use Rattle.channel_model.specs.Ends.{End, NameContent, actor, resolver, Naming, Resolver, StackEntry, message}
use Rattle.channel_model.specs.Events.{Event}
use Rattle.channel_model.specs.Events as event
use Rattle.channel_model.specs.Fitting.{IsFitting}
use Rattle.channel_model.specs.Names.{held_by_name, holding, let_go, renamed, without_name}
use Rattle.channel_model.specs.Outputs.{Output, beginning, is_open, line, line_at, put, resolver_answered, when}
use Rattle.channel_model.specs.Sends.{may_act}
use Rattle.channel_model.specs.Steps.{provided, step}
use Rattle.channel_model.proofs.FittingEnds.{held-fits}
use Rattle.channel_model.proofs.FittingRequests.{promised-fault}
use Rattle.end_parts.specs.declared.packet.Packet.{Packet}
use Rattle.end_steps.specs.declared.renaming.DestroyedReply.{DestroyedReply}
use Rattle.end_parts.specs.NameContents.{holds_at, shown_id}
use Rattle.end_parts.specs.OutputView.{OutputView, with_line, with_packet}
use Rattle.end_steps.specs.declared.renaming.NewName.{NewName}
use Rattle.end_parts.specs.NamesView.{NamesView}
use Rattle.end_steps.specs.Renamings.{destroyed_frame, destroyed_message, destroyed_of, with_destroyed, IsNewName}
use Rattle.channel_core.specs.Inside.{IsInside, IsKept}
use Rattle.channel_core.specs.ResolverReplies.{HasReplied, HasReserved, HasSaid}
use Rattle.channel_core.specs.Room.{room, wait_lines, waits_in}
use Rattle.channel_core.specs.EndView.{EndView, frame_packet, HasFrame}
use Rattle.channel_core.specs.Steps.{IsStep}
use Rattle.channel_core.specs.Tracks.{Tracks}
use Rattle.channel_core.proofs.MadeLemmas.{HasRoom, Made, made_inside, made_step, seen_as}
use Rattle.channel_core.proofs.TrackLemmas.{tracks_end, tracks_line, tracks_put, tracks_room}

-- an output with a line, and an end with this stack and these names
abbrev pub acted : EndView → What → List StackEntry → List Naming → Output
acted v what stack names = record { end = record v.end { stack = stack; names = names }; lines = line_at v.end.side what ∷ []; packets = [] }

-- the end after it, as the code has it
abbrev pub acted_end : EndView → List StackEntry → List Naming → OutputView → End
acted_end v stack names out = record v.end { stack = stack; names = names; outbox = out.outbox }

-- Room

-- resolvers owe no line
pub waits-released : (seq : ℤ) (stack : List StackEntry) → waits_in (released seq stack) ≡ waits_in stack
waits-released seq [] = refl
waits-released seq (entry ∷ stack) = by (has_resolver seq entry) (waits-released seq stack)
  where
    by : (b : Bool) → waits_in (released seq stack) ≡ waits_in stack → wait_lines (cond b (record entry { resolves = false }) entry).frame + waits_in (released seq stack) ≡ wait_lines entry.frame + waits_in stack
    by true e = ap (λ (n : ℕ). wait_lines entry.frame + n) e
    by false e = ap (λ (n : ℕ). wait_lines entry.frame + n) e

-- What an act leaves of the room, where it owes no line more.
record Leaves (before after : OutputView) : Type 0 where
  owed : after.lines_owed ≡ before.lines_owed
  lines : before.lines_owed ≤ after.line_spare
  packets : suc (length before.frames) ≤ before.packet_spare → suc (length after.frames) ≤ after.packet_spare
  outbox : length after.outbox ≤ length before.outbox
  goodbye : after.goodbye ≡ before.goodbye

-- that is the room that the end needs
room-left : (v : EndView) (stack : List StackEntry) (names : List Naming) (out out' : OutputView) → waits_in stack ≡ waits_in v.end.stack → Tracks v (beginning v.end) out → IsInside v.schema v.end out → Leaves out out' → HasRoom v.schema (acted_end v stack names out') out'
unfolding room
room-left v stack names out out' waits t inside l =
    let count : length out.outbox ≡ length v.end.outbox = ap length t.outbox in
    let owed = l.owed in
    let lines = l.lines in
    let outbox = l.outbox in
    record {
      owes = omega (arith, inside.owes, count, waits, owed, outbox);
      spare = omega (arith, owed, lines);
      packets = λ e. l.packets (inside.packets e);
      farewell = λ e. l.goodbye ∙ inside.farewell e;
    }

-- What a call that acts shows: its step, and that the invariant is kept.
pub record Acts (v : EndView) (event : Event) (e : End) (out : OutputView) : Type 0 where
  pub inside : IsInside v.schema e out
  pub steps : IsStep v event (seen_as v e out)

acts : (v : EndView) (event : Event) (stack : List StackEntry) (names : List Naming) (out out' : OutputView) → Made v [] event (acted_end v stack names out') out' → waits_in stack ≡ waits_in v.end.stack → Tracks v (beginning v.end) out → IsInside v.schema v.end out → Leaves out out'
    → Acts v event (acted_end v stack names out') out'
acts v event stack names out out' made waits t inside l = record {
  inside = made_inside v [] event (acted_end v stack names out') out out' made inside inside.kept.few tt (room-left v stack names out out' waits t inside l);
  steps = made_step v [] event (acted_end v stack names out') out' made;
}

-- Lines and replies

-- a line alone
said-made : (v : EndView) (event : Event) (what : What) (out out' : OutputView) → step v.schema v.end [] event ≡ Some (line what (beginning v.end)) → Tracks v (beginning v.end) out → HasSaid (line_at v.end.side what) out out'
    → Made v [] event (acted_end v v.end.stack v.end.names out') out'
said-made v event what out out' steps t s =
    let told : Tracks v (line what (beginning v.end)) (with_line out (line_at v.end.side what)) = tracks_line v (beginning v.end) out _ what t refl in
    let tracks : Tracks v (line what (beginning v.end)) out' = tracks_room v (line what (beginning v.end)) _ out' told (s.said ∙ rw s.said refl) in
    record { output = line what (beginning v.end); steps = steps; tracks = tracks; ends = ap (λ (ms : List Message). record v.end { outbox = ms }) tracks.outbox }

said-leaves : (line : Line) (out out' : OutputView) → HasSaid line out out' → Leaves out out'
said-leaves line out out' s =
    let frames : length out'.frames ≡ length out.frames = ap (λ (g : OutputView). length g.frames) s.said in
    let outbox : length out'.outbox ≡ length out.outbox = ap (λ (g : OutputView). length g.outbox) s.said in
    let packets = s.packets in
    record {
      owed = ap (λ (g : OutputView). g.lines_owed) s.said;
      lines = s.lines;
      packets = λ e. omega (arith, e, frames, packets);
      outbox = omega (arith, outbox);
      goodbye = ap (λ (g : OutputView). g.goodbye) s.said;
    }

pub said-acts : (v : EndView) (event : Event) (what : What) (out out' : OutputView) → step v.schema v.end [] event ≡ Some (line what (beginning v.end)) → Tracks v (beginning v.end) out → IsInside v.schema v.end out → HasSaid (line_at v.end.side what) out out'
    → Acts v event (acted_end v v.end.stack v.end.names out') out'
said-acts v event what out out' steps t inside s = acts v event v.end.stack v.end.names out out' (said-made v event what out out' steps t s) refl t inside (said-leaves (line_at v.end.side what) out out' s)

-- a line that is pushed where there is room
pub said-pushed : (line : Line) (out room out' : OutputView) → room ≡ record out { line_spare = room.line_spare; packet_spare = room.packet_spare } → out.lines_owed + 1 ≤ room.line_spare → out.packet_spare ≤ room.packet_spare → out' ≡ with_line room line → HasSaid line out out'
said-pushed line out room out' same lines packets says =
    let is : out' ≡ with_line (record out { line_spare = room.line_spare; packet_spare = room.packet_spare }) line = says ∙ ap (λ (g : OutputView). with_line g line) same in
    let spare : out'.line_spare ≡ room.line_spare - 1 = ap (λ (g : OutputView). g.line_spare) is in
    let left : out'.packet_spare ≡ room.packet_spare = ap (λ (g : OutputView). g.packet_spare) is in
    record {
      said = subst (λ (g : OutputView). g ≡ record out { lines = out.lines ++ line ∷ []; line_spare = g.line_spare; packet_spare = g.packet_spare }) (sym is) refl;
      lines = omega (arith, lines, spare);
      packets = omega (arith, packets, left);
    }

-- room alone
pub reserved-inside : (v : EndView) (out out' : OutputView) → Tracks v (beginning v.end) out → IsInside v.schema v.end out → HasReserved out out' → IsInside v.schema (acted_end v v.end.stack v.end.names out') out'
reserved-inside v out out' t inside h =
    let more = h.lines in
    let packets = h.packets in
    let is : v.end.outbox ≡ out.outbox = sym t.outbox in
    rw h.same (record {
      sound = inside.sound;
      owes = subst (λ (ms : List Message). room (record v.end { outbox = ms }) ≤ out.lines_owed) is inside.owes;
      spare = omega (arith, inside.spare, more);
      packets = λ e. let enough = inside.packets e in omega (arith, enough, packets);
      frames = inside.frames;
      framed = inside.framed;
      farewell = inside.farewell;
      kept = subst (λ (ms : List Message). IsKept v.schema (record v.end { outbox = ms })) is inside.kept;
    })

-- a line with a reply
replied-made : (v : EndView) (event : Event) (what : What) (stack : List StackEntry) (names : List Naming) (m : Message) (out out' : OutputView) → step v.schema v.end [] event ≡ Some (put (message m) (acted v what stack names)) → HasFrame v.schema m → Tracks v (beginning v.end) out
    → HasReplied (line_at v.end.side what) (frame_packet v.schema m) out out' → Made v [] event (acted_end v stack names out') out'
replied-made v event what stack names m out out' steps framed t s =
    let said : OutputView = record out { lines = out.lines ++ line_at v.end.side what ∷ [] } in
    let first : Tracks v (acted v what stack names) said = record {
      lines = ap (λ (ls : List Line). ls ++ line_at v.end.side what ∷ []) (t.lines ∙ append-nil v.lines);
      packets = t.packets;
      outbox = t.outbox;
      frames = t.frames;
      waiting = t.waiting;
      framed = tt;
    } in
    let second = tracks_put v (acted v what stack names) said _ (message m) framed first refl in
    let tracks : Tracks v (put (message m) (acted v what stack names)) out' = rw s.said (record { lines = second.lines; packets = second.packets; outbox = refl; frames = refl; waiting = tt; framed = second.framed }) in
    record { output = put (message m) (acted v what stack names); steps = steps; tracks = tracks; ends = ap (λ (ms : List Message). record v.end { stack = stack; names = names; outbox = ms }) tracks.outbox }

replied-leaves : (line : Line) (packet : Packet) (out out' : OutputView) → HasReplied line packet out out' → Leaves out out'
replied-leaves line packet out out' s =
    let frames : length out'.frames ≡ 0 = ap (λ (g : OutputView). length g.frames) s.said in
    let outbox : length out'.outbox ≡ 0 = ap (λ (g : OutputView). length g.outbox) s.said in
    let packets = s.packets in
    record {
      owed = ap (λ (g : OutputView). g.lines_owed) s.said;
      lines = s.lines;
      packets = λ e. omega (arith, frames, packets);
      outbox = omega (arith, outbox);
      goodbye = ap (λ (g : OutputView). g.goodbye) s.said;
    }

pub replied-acts : (v : EndView) (event : Event) (what : What) (stack : List StackEntry) (names : List Naming) (m : Message) (out out' : OutputView) → step v.schema v.end [] event ≡ Some (put (message m) (acted v what stack names)) → HasFrame v.schema m → waits_in stack ≡ waits_in v.end.stack → Tracks v (beginning v.end) out → IsInside v.schema v.end out
    → HasReplied (line_at v.end.side what) (frame_packet v.schema m) out out' → Acts v event (acted_end v stack names out') out'
replied-acts v event what stack names m out out' steps framed waits t inside s =
    acts v event stack names out out' (replied-made v event what stack names m out out' steps framed t s) waits t inside (replied-leaves (line_at v.end.side what) (frame_packet v.schema m) out out' s)

-- a line and a reply that are pushed where there is room
pub reply-pushed : (line : Line) (packet : Packet) (out room said out' : OutputView) → room ≡ record out { line_spare = room.line_spare; packet_spare = room.packet_spare } → out.lines_owed + 1 ≤ room.line_spare → length out.frames + 1 + 1 ≤ room.packet_spare
    → said ≡ with_line room line → out' ≡ with_packet said packet → HasReplied line packet out out'
reply-pushed line packet out room said out' same lines packets says puts =
    let is : out' ≡ with_packet (with_line (record out { line_spare = room.line_spare; packet_spare = room.packet_spare }) line) packet = puts ∙ ap (λ (g : OutputView). with_packet g packet) (says ∙ ap (λ (g : OutputView). with_line g line) same) in
    let spare : out'.line_spare ≡ room.line_spare - 1 = ap (λ (g : OutputView). g.line_spare) is in
    let left : out'.packet_spare ≡ room.packet_spare - (length out.frames + 1) = ap (λ (g : OutputView). g.packet_spare) is in
    record {
      said = subst (λ (g : OutputView). g ≡ record out { lines = out.lines ++ line ∷ []; line_spare = g.line_spare; packets = out.packets ++ out.frames ++ packet ∷ []; packet_spare = g.packet_spare; outbox = []; outbox_spare = g.outbox_spare; frames = [] }) (sym is) refl;
      lines = omega (arith, lines, spare);
      packets = omega (arith, packets, left);
    }

-- Names

-- the step of a name for an actor
pub name-steps : (v : EndView) (name : List ℕ) (id : ℤ) → may_act v.end ≡ true → step v.schema v.end [] (event.name name id) ≡ Some (renamed name (holds_at id) (acted v (what.Let name (shown_id id)) v.end.stack v.end.names))
name-steps v name id may = ap (λ (b : Bool). provided b (name_actor name id) v.end) may

-- the step of a resolver that is kept
pub keep-steps : (v : EndView) (r : Resolver) (name : List ℕ) (stack : List StackEntry) → stack ≡ released r.seq v.end.stack → may_act v.end ≡ true → handled_resolver v.end r.seq ≡ Some r
    → step v.schema v.end [] (event.keep r.seq name) ≡ Some (renamed name (kept_by v.end r) (acted v (what.Keep r.seq name) stack v.end.names))
keep-steps v r name stack is may own =
    let both : may_keep v.end r.seq ≡ true = ap (λ (b : Bool). b && is_some (handled_resolver v.end r.seq)) may ∙ ap is_some own in
    ap (λ (b : Bool). provided b (keep v.end r.seq name) v.end) both
    ∙ ap (λ (x : Option Resolver). Some (renamed name (option_and_then (kept_by v.end) x) (acted v (what.Keep r.seq name) (released r.seq v.end.stack) v.end.names))) own
    ∙ ap (λ (es : List StackEntry). Some (renamed name (kept_by v.end r) (acted v (what.Keep r.seq name) es v.end.names))) (sym is)

-- The code prints a line and puts the answer for the resolver of a name, if it must be destroyed.
record HasNamed (v : EndView) (what : What) (name : List ℕ) (before room after : OutputView) : Type 0 where
  same : room ≡ record before { line_spare = room.line_spare; packet_spare = room.packet_spare }
  lines : before.lines_owed + 2 ≤ room.line_spare
  packets : length before.frames + 2 ≤ room.packet_spare
  puts : after ≡ with_destroyed v.end.side (with_line room (line_at v.end.side what)) (destroyed_of (is_open v.end.state) v.schema (held_by_name name v.end.names))

-- what answers for the resolver that a name holds has a frame
pub destroyed-framed : (schema : Schema) (e : End) (name : List ℕ) (r : Resolver) → IsSound schema → IsFitting schema e → held_by_name name e.names ≡ Some (resolver r) → HasFrame schema (destroyed_message (resolver_answered r))
destroyed-framed schema e name r sound fitting is = record {
  frame = record { fits = promised-fault schema sound (resolver_answered r) (held-fits schema name e.names (resolver r) fitting.names is); small = omega arith; spelled = refl };
  plain = refl;
}

-- the resolver that a name had is destroyed
pub let-go-tracks : (v : EndView) (content : Option NameContent) (o : Output) (out out' : OutputView) → ((r : Resolver) → content ≡ Some (resolver r) → HasFrame v.schema (destroyed_message (resolver_answered r))) → Tracks v o out
    → out' ≡ with_destroyed o.end.side out (destroyed_of (is_open o.end.state) v.schema content) → Tracks v (let_go content o) out'
let-go-tracks v None o out out' framed t e = subst (Tracks v o) (sym e) t
let-go-tracks v (Some (actor id)) o out out' framed t e = subst (Tracks v o) (sym e) t
let-go-tracks v (Some (resolver r)) o out out' framed t e = by (is_open o.end.state) e
  where
    said : What
    said = what.AnswerFault r.seq ResolverDestroyed

    by : (b : Bool) → out' ≡ with_destroyed o.end.side out (cond b (Some (destroyed_frame v.schema (resolver_answered r))) None) → Tracks v (when b (λ o. put (message (destroyed_message (resolver_answered r))) (line said o)) o) out'
    by true e = tracks_put v (line said o) (with_line out (line_at o.end.side said)) out' (message (destroyed_message (resolver_answered r))) (framed r refl) (tracks_line v o out (with_line out (line_at o.end.side said)) said t refl) e
    by false e = subst (Tracks v o) (sym e) t

-- and nothing of the end changes but its outbox
pub let-go-end : (content : Option NameContent) (o : Output) → (let_go content o).end ≡ record o.end { outbox = (let_go content o).end.outbox }
let-go-end None o = refl
let-go-end (Some (actor id)) o = refl
let-go-end (Some (resolver r)) o = by (is_open o.end.state)
  where
    by : (b : Bool) → (when b (λ o. put (message (destroyed_message (resolver_answered r))) (line (what.AnswerFault r.seq ResolverDestroyed) o)) o).end
        ≡ record o.end { outbox = (when b (λ o. put (message (destroyed_message (resolver_answered r))) (line (what.AnswerFault r.seq ResolverDestroyed) o)) o).end.outbox }
    by true = refl
    by false = refl

-- a line, and a name that holds something else
named-made : (v : EndView) (event : Event) (what : What) (stack : List StackEntry) (name : List ℕ) (holds : Option NameContent) (names : List Naming) (out room out' : OutputView)
    → step v.schema v.end [] event ≡ Some (renamed name holds (acted v what stack v.end.names)) → Tracks v (beginning v.end) out → IsInside v.schema v.end out → HasNamed v what name out room out' → names ≡ without_name name v.end.names ++ holding name holds
    → Made v [] event (acted_end v stack names out') out'
named-made v event what stack name holds names out room out' steps t inside h holds_so =
    let before : Option NameContent = held_by_name name v.end.names in
    let unnamed : Output = acted v what stack (without_name name v.end.names) in
    let said : OutputView = with_line room (line_at v.end.side what) in
    let first : Tracks v (beginning v.end) room = rw h.same (record { lines = t.lines; packets = t.packets; outbox = t.outbox; frames = t.frames; waiting = t.waiting; framed = tt }) in
    let second : Tracks v (line what (beginning v.end)) said = tracks_line v (beginning v.end) room said what first refl in
    let third : Tracks v unnamed said = tracks_end v (line what (beginning v.end)) said (λ e. record e { stack = stack; names = without_name name e.names }) second refl in
    let fourth : Tracks v (let_go before unnamed) out' = let-go-tracks v before unnamed said out' (λ r is. destroyed-framed v.schema v.end name r inside.sound inside.kept.fitting is) third h.puts in
    record {
      output = renamed name holds (acted v what stack v.end.names);
      steps = steps;
      tracks = tracks_end v (let_go before unnamed) out' (λ e. record e { names = e.names ++ holding name holds }) fourth refl;
      ends = ap (λ (ns : List Naming). acted_end v stack ns out') holds_so
          ∙ ap (λ (ms : List Message). record v.end { stack = stack; names = without_name name v.end.names ++ holding name holds; outbox = ms }) fourth.outbox
          ∙ sym (ap (λ (e : End). record e { names = e.names ++ holding name holds }) (let-go-end before unnamed));
    }

named-leaves : (v : EndView) (what : What) (name : List ℕ) (out room out' : OutputView) → HasNamed v what name out room out' → Leaves out out'
named-leaves v what name out room out' h = by (destroyed_of (is_open v.end.state) v.schema (held_by_name name v.end.names)) h.puts
  where
    owed : room.lines_owed ≡ out.lines_owed
    owed = ap (λ (g : OutputView). g.lines_owed) h.same

    spare : out.lines_owed + 2 ≤ room.line_spare
    spare = h.lines

    packet_spare : length room.frames + 2 ≤ room.packet_spare
    packet_spare =
        let packets = h.packets in
        let count : length room.frames ≡ length out.frames = ap (λ (g : OutputView). length g.frames) h.same in
        omega (arith, packets, count)

    outbox : length room.outbox ≡ length out.outbox
    outbox = ap (λ (g : OutputView). length g.outbox) h.same

    goodbye : room.goodbye ≡ out.goodbye
    goodbye = ap (λ (g : OutputView). g.goodbye) h.same

    by : (d : Option DestroyedReply) → out' ≡ with_destroyed v.end.side (with_line room (line_at v.end.side what)) d → Leaves out out'
    by None e =
        let spare' : out'.line_spare ≡ room.line_spare - 1 = ap (λ (g : OutputView). g.line_spare) e in
        let frames' : length out'.frames ≡ length room.frames = ap (λ (g : OutputView). length g.frames) e in
        let packet_spare' : out'.packet_spare ≡ room.packet_spare = ap (λ (g : OutputView). g.packet_spare) e in
        let outbox' : length out'.outbox ≡ length room.outbox = ap (λ (g : OutputView). length g.outbox) e in
        record {
          owed = ap (λ (g : OutputView). g.lines_owed) e ∙ owed;
          lines = omega (arith, spare, spare');
          packets = λ k. omega (arith, packet_spare, frames', packet_spare');
          outbox = omega (arith, outbox, outbox');
          goodbye = ap (λ (g : OutputView). g.goodbye) e ∙ goodbye;
        }
    by (Some d) e =
        let spare' : out'.line_spare ≡ room.line_spare - 1 - 1 = ap (λ (g : OutputView). g.line_spare) e in
        let frames' : length out'.frames ≡ 0 = ap (λ (g : OutputView). length g.frames) e in
        let packet_spare' : out'.packet_spare ≡ room.packet_spare - (length room.frames + 1) = ap (λ (g : OutputView). g.packet_spare) e in
        let outbox' : length out'.outbox ≡ 0 = ap (λ (g : OutputView). length g.outbox) e in
        record {
          owed = ap (λ (g : OutputView). g.lines_owed) e ∙ owed;
          lines = omega (arith, spare, spare');
          packets = λ k. omega (arith, packet_spare, frames', packet_spare');
          outbox = omega (arith, outbox');
          goodbye = ap (λ (g : OutputView). g.goodbye) e ∙ goodbye;
        }

-- What the code has made ready for a name, and then does for it: a line, the answer for the resolver that the name held,
-- and what the name holds.
pub record CodeNames (v : EndView) (say : List ℕ → What) (name : List ℕ) (holds : Option NameContent) (out : OutputView) (open_is : Bool) (new : NewName) (ready : NamesView) (room after : OutputView) (names : List Naming) : Type 0 where
  pub opens : open_is ≡ is_open v.end.state
  pub makes : IsNewName v.schema open_is name new ready out room
  pub reserves : room ≡ record out { line_spare = room.line_spare; packet_spare = room.packet_spare }
  pub keeps : ready.names ≡ v.end.names
  pub pushes : after ≡ with_destroyed v.end.side (with_line room (line_at v.end.side (say new.shown))) new.destroyed
  pub holds_it : names ≡ without_name new.held ready.names ++ holding new.held holds

-- it is the step of a name that holds something else
pub names-acts : (v : EndView) (event : Event) (say : List ℕ → What) (stack : List StackEntry) (name : List ℕ) (holds : Option NameContent) (out : OutputView) (open_is : Bool) (new : NewName) (ready : NamesView) (room after : OutputView) (names : List Naming)
    → step v.schema v.end [] event ≡ Some (renamed name holds (acted v (say name) stack v.end.names)) → waits_in stack ≡ waits_in v.end.stack → Tracks v (beginning v.end) out → IsInside v.schema v.end out → CodeNames v say name holds out open_is new ready room after names
    → Acts v event (acted_end v stack names after) after
names-acts v event say stack name holds out open_is new ready room after names steps waits t inside c =
    let h : HasNamed v (say name) name out room after = record {
      same = c.reserves;
      lines = c.makes.lines;
      packets = c.makes.packets;
      puts = c.pushes
          ∙ ap (λ (n : List ℕ). with_destroyed v.end.side (with_line room (line_at v.end.side (say n))) new.destroyed) c.makes.shown
          ∙ ap (with_destroyed v.end.side (with_line room (line_at v.end.side (say name))))
          (c.makes.destroyed ∙ ap (λ (b : Bool). destroyed_of b v.schema (held_by_name name ready.names)) c.opens ∙ ap (λ (ns : List Naming). destroyed_of (is_open v.end.state) v.schema (held_by_name name ns)) c.keeps);
    } in
    let held = c.holds_it ∙ ap (λ (n : List ℕ). without_name n ready.names ++ holding n holds) c.makes.held ∙ ap (λ (ns : List Naming). without_name name ns ++ holding name holds) c.keeps in
    acts v event stack names out after (named-made v event (say name) stack name holds names out room after steps t inside h held) waits t inside (named-leaves v (say name) name out room after h)
