-- Parts of steps, one after another, and what the code makes of them.
use Rattle.std.proofs.Common.{◌≡◌, List, [], ◌∷◌, ◌++◌, map, Some, refl, ap, sym, subst, ◌∙◌, append_assoc, append-nil}
use Rattle.std.specs.List.{AllByRecursion}
use Rattle.std.proofs.lemmas.List.{map-append}
use Rattle.ipdl_base.specs.declared.line.Line.{Line}
use Rattle.ipdl_base.specs.declared.line.What.{What}
use Rattle.ipdl_base.specs.declared.message.Message.{Message}
use Rattle.ipdl_base.specs.declared.schema.Schema.{Schema}
use Rattle.channel_model.specs.Ends.{End}
use Rattle.channel_model.specs.Ends as model
use Rattle.channel_model.specs.Events.{Event}
use Rattle.channel_model.specs.Outputs.{Output, beginning, on_end, line, lines, line_at, put}
use Rattle.channel_model.specs.Steps.{step}
use Rattle.channel_model.proofs.Known.{all-append}
use Rattle.end_parts.specs.declared.packet.Packet.{Packet}
use Rattle.end_parts.specs.OutputView.{OutputView, with_line, with_packet, with_lazy}
use Rattle.channel_core.specs.Inside.{IsInside}
use Rattle.channel_core.specs.EndView.{EndView, frame_packet, packet_of, packets_of, HasFrame, IsFramed}
use Rattle.channel_core.specs.Steps.{IsStepBy}
use Rattle.channel_core.specs.Tracks.{Tracks}

-- before anything, of what is true inside
pub tracks_begin : (v : EndView) (out : OutputView) → out.lines ≡ v.lines → out.packets ≡ v.packets → out.outbox ≡ v.end.outbox → IsInside v.schema v.end out → Tracks v (beginning v.end) out
tracks_begin v out l p b i = record { lines = l ∙ sym (append-nil v.lines); packets = p ∙ sym (append-nil v.packets); outbox = b; frames = i.frames; waiting = i.framed; framed = tt }

-- room that is taken, and lines that are owed or paid, are not seen
pub tracks_room : (v : EndView) (o : Output) (out out' : OutputView) → Tracks v o out → out' ≡ record out { line_spare = out'.line_spare; lines_owed = out'.lines_owed; packet_spare = out'.packet_spare; outbox_spare = out'.outbox_spare } → Tracks v o out'
tracks_room v o out out' t e = rw e (record { lines = t.lines; packets = t.packets; outbox = t.outbox; frames = t.frames; waiting = t.waiting; framed = t.framed })

-- a line
pub tracks_line : (v : EndView) (o : Output) (out out' : OutputView) (what : What) → Tracks v o out → out' ≡ with_line out (line_at o.end.side what) → Tracks v (line what o) out'
tracks_line v o out out' what t e = rw e (record {
  lines = ap (λ (ls : List Line). ls ++ line_at o.end.side what ∷ []) t.lines ∙ append_assoc v.lines o.lines (line_at o.end.side what ∷ []);
  packets = t.packets;
  outbox = t.outbox;
  frames = t.frames;
  waiting = t.waiting;
  framed = t.framed;
})

-- lines, one after another
pub tracks_lines : (v : EndView) (o : Output) (out out' : OutputView) (whats : List What) → Tracks v o out → out' ≡ record out { lines = out.lines ++ map (line_at o.end.side) whats; line_spare = out'.line_spare } → Tracks v (lines whats o) out'
tracks_lines v o out out' whats t e = rw e (record {
  lines = ap (λ (ls : List Line). ls ++ map (line_at o.end.side) whats) t.lines ∙ append_assoc v.lines o.lines (map (line_at o.end.side) whats);
  packets = t.packets;
  outbox = t.outbox;
  frames = t.frames;
  waiting = t.waiting;
  framed = t.framed;
})

-- the packets of an outbox are its frames
messages : (schema : Schema) (ms : List Message) → packets_of schema (map model.message ms) ≡ map (frame_packet schema) ms
messages schema [] = refl
messages schema (m ∷ ms) = ap (λ (ps : List Packet). frame_packet schema m ∷ ps) (messages schema ms)

-- and they are framed
framed-messages : (schema : Schema) (ms : List Message) → AllByRecursion (HasFrame schema) ms → AllByRecursion (IsFramed schema) (map model.message ms)
framed-messages schema [] h = tt
framed-messages schema (m ∷ ms) h = (h.0, framed-messages schema ms h.1)

-- what waits in the outbox of the output has its frames
waits : (v : EndView) (o : Output) (out : OutputView) → Tracks v o out → AllByRecursion (HasFrame v.schema) o.end.outbox
waits v o out t = subst (AllByRecursion (HasFrame v.schema)) t.outbox t.waiting

-- a packet that is framed, after the outbox
pub tracks_put : (v : EndView) (o : Output) (out out' : OutputView) (packet : model.Packet) → IsFramed v.schema packet → Tracks v o out → out' ≡ with_packet out (packet_of v.schema packet) → Tracks v (put packet o) out'
tracks_put v o out out' packet framed t e = rw e (record {
  lines = t.lines;
  packets = joins v.schema v.packets o.packets o.end.outbox packet out.packets out.frames t.packets (t.frames ∙ ap (map (frame_packet v.schema)) t.outbox);
  outbox = refl;
  frames = refl;
  waiting = tt;
  framed = all-append (IsFramed v.schema) (o.packets ++ map model.message o.end.outbox) (packet ∷ []) (all-append (IsFramed v.schema) o.packets (map model.message o.end.outbox) t.framed (framed-messages v.schema o.end.outbox (waits v o out t))) (framed, tt);
}) where
  joins : (schema : Schema) (before : List Packet) (made : List model.Packet) (outbox : List Message) (packet : model.Packet) (ps fs : List Packet)
      → ps ≡ before ++ packets_of schema made → fs ≡ map (frame_packet schema) outbox
      → ps ++ fs ++ packet_of schema packet ∷ [] ≡ before ++ packets_of schema (made ++ map model.message outbox ++ packet ∷ [])
  joins schema before made outbox packet ps fs p f =
      rw (p, f) (simp (map-append, append_assoc) (ap (λ (qs : List Packet). before ++ (packets_of schema made ++ (qs ++ packet_of schema packet ∷ []))) (sym (messages schema outbox))))

-- a part that changes nothing of the outbox
pub tracks_end : (v : EndView) (o : Output) (out : OutputView) (change : End → End) → Tracks v o out → (change o.end).outbox ≡ o.end.outbox → Tracks v (on_end change o) out
tracks_end v o out change t e = record { lines = t.lines; packets = t.packets; outbox = t.outbox ∙ sym e; frames = t.frames; waiting = t.waiting; framed = t.framed }

-- a lazy request goes last into the outbox
pub tracks_lazy : (v : EndView) (o : Output) (out out' : OutputView) (m : Message) → HasFrame v.schema m → Tracks v o out → out' ≡ with_lazy out m (frame_packet v.schema m) → Tracks v (on_end (λ e. record e { outbox = e.outbox ++ m ∷ [] }) o) out'
tracks_lazy v o out out' m framed t e = rw e (record {
  lines = t.lines;
  packets = t.packets;
  outbox = ap (λ (ms : List Message). ms ++ m ∷ []) t.outbox;
  frames = ap (λ (fs : List Packet). fs ++ frame_packet v.schema m ∷ []) t.frames ∙ sym (map-append (frame_packet v.schema) out.outbox (m ∷ []));
  waiting = all-append (HasFrame v.schema) out.outbox (m ∷ []) t.waiting (framed, tt);
  framed = t.framed;
})

-- the outbox goes onto the link
pub tracks_flush : (v : EndView) (o : Output) (out out' : OutputView) → Tracks v o out
    → out' ≡ record out { packets = out.packets ++ out.frames; packet_spare = out'.packet_spare; outbox = []; outbox_spare = out'.outbox_spare; frames = [] }
    → Tracks v (record o { end = record o.end { outbox = [] }; packets = o.packets ++ map model.message o.end.outbox }) out'
tracks_flush v o out out' t e = rw e (record {
  lines = t.lines;
  packets = joins v.schema v.packets o.packets o.end.outbox out.packets out.frames t.packets (t.frames ∙ ap (map (frame_packet v.schema)) t.outbox);
  outbox = refl;
  frames = refl;
  waiting = tt;
  framed = all-append (IsFramed v.schema) o.packets (map model.message o.end.outbox) t.framed (framed-messages v.schema o.end.outbox (waits v o out t));
}) where
  joins : (schema : Schema) (before : List Packet) (made : List model.Packet) (outbox : List Message) (ps fs : List Packet)
      → ps ≡ before ++ packets_of schema made → fs ≡ map (frame_packet schema) outbox
      → ps ++ fs ≡ before ++ packets_of schema (made ++ map model.message outbox)
  joins schema before made outbox ps fs p f =
      rw (p, f) (simp (map-append, append_assoc) (ap (λ (qs : List Packet). before ++ (packets_of schema made ++ qs)) (sym (messages schema outbox))))

-- what the code has made is the step
pub is_step : (v w : EndView) (link : List model.Packet) (event : Event) (o : Output) (out : OutputView) → step v.schema v.end link event ≡ Some o → Tracks v o out
    → w ≡ record { end = o.end; schema = v.schema; lines = out.lines; packets = out.packets } → IsStepBy v link event w
is_step v w link event o out s t e = record {
  output = o;
  is_step = s;
  is_after = e ∙ ap (λ (ls : List Line). record { end = o.end; schema = v.schema; lines = ls; packets = out.packets }) t.lines ∙ ap (λ (ps : List Packet). record { end = o.end; schema = v.schema; lines = v.lines ++ o.lines; packets = ps }) t.packets;
  framed = t.framed;
}
