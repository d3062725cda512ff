-- What waits at an end of a run, and what the end defers of it, as the lines of both ends show.
use Rattle.std.proofs.Common.{◌≡◌, ℕ, ℤ, pos, Bool, true, false, List, [], ◌∷◌, map, Option, Some, None, option_map, option_and_then, unwrap_or, refl, sym, ap, subst, ◌∙◌}
use Rattle.std.specs.List.{AllByRecursion}
use Rattle.ipdl_base.specs.declared.kinds.Level.{Level}
use Rattle.ipdl_base.specs.declared.kinds.Level.TheVariants.{Not, InsideSync, InsideCpow}
use Rattle.ipdl_base.specs.declared.kinds.Side.{Side}
use Rattle.ipdl_base.specs.declared.kinds.Side.TheVariants.{Parent, Child}
use Rattle.ipdl_base.specs.declared.line.What.{What}
use Rattle.ipdl_base.specs.declared.message.Body.{Body}
use Rattle.ipdl_base.specs.declared.message.Body.TheVariants.{Request, Reply, Fault, Goodbye}
use Rattle.ipdl_base.specs.declared.message.Message.{Message}
use Rattle.ipdl_base.specs.declared.schema.Schema.{Schema}
use Rattle.ipdl_base.specs.declared.value.Values.{Values}
use Rattle.ipdl_base.specs.Deferral.{Arrival, request, reply, goodbye, mark, defers_arrival}
use Rattle.ipdl_base.specs.Sound.{IsSound, message_of}
use Rattle.nesting_core.specs.declared.frame.Head.{Head}
use Rattle.nesting_core.specs.declared.frame.StackFrame.{StackFrame}
use Rattle.nesting_core.specs.declared.frame.StackFrame.TheVariants.{Dispatch, Wait}
use Rattle.nesting_core.specs.Deferral as deferral
use Rattle.nesting_core.specs.Frames.{head_of}
use Rattle.pending_queue.specs.declared.item.Item.{Item}
use Rattle.pending_queue.specs.declared.item.Item.TheVariants as item
use Rattle.pending_queue.specs.DeferralContext.{arrival_of, arrival_of_body, defers_item}
use Rattle.history_reading.specs.EndReading.{EndReading}
use Rattle.history_reading.specs.Reading.{Reading, end_reading_of, read}
use Rattle.history_reading.specs.SentPacket as told
use Rattle.history_reading.specs.SentPacket.{SentPacket, request_of}
use Rattle.history_reading.specs.Still as lines
use Rattle.channel_model.specs.Ends.{End, World, Packet, StackEntry, end_of, link_to}
use Rattle.channel_model.specs.Events.{Move}
use Rattle.ipdl_base.specs.Sides.{other, sends}
use Rattle.channel_model.specs.Numbers.{is_sync_row}
use Rattle.channel_model.specs.Outputs.{is_open}
use Rattle.channel_model.specs.Runs.{history_of}
use Rattle.channel_model.specs.Sends.{frames_of}
use Rattle.channel_model.specs.Takes as take
use Rattle.channel_model.proofs.Known.{all-both}
use Rattle.channel_model.proofs.SendParts.{request-number}
use Rattle.channel_model.proofs.SoundRows.{IsAt, row-at}
use Rattle.channel_laws.specs.AnswersOnce.{AnswersOnce}
use Rattle.channel_laws.specs.Arrivals.{item_kind}
use Rattle.channel_laws.specs.Delivered.{body_kind}
use Rattle.channel_laws.specs.Exchanges.{ReadsExchanges}
use Rattle.channel_laws.specs.Heads.{BodyHead, HasHeads, ItemHead}
use Rattle.channel_laws.specs.Laws.{world_of}
use Rattle.channel_laws.specs.NestedWorlds.{IsNestedWorld}
use Rattle.channel_laws.specs.NotedArrivals.{ArrivalsAreNoted, IsNoted, ItemIsNoted}
use Rattle.channel_laws.specs.Notes.{Note, In, body_note, message_note, told_notes}
use Rattle.channel_laws.specs.Rows.{IsSoundRow}
use Rattle.channel_laws.specs.TwoEnds.{ReadingIs, TwoEnds}
use Rattle.channel_laws.proofs.EveryRun.{from-side, nesting_in_every_run}
use Rattle.channel_laws.proofs.HeadsAlike.{awaited-level, inner-alike, request-head}
use Rattle.channel_laws.proofs.Moves.{flip}
use Rattle.channel_laws.proofs.PrefixRuns.{noted-at}
use Rattle.channel_laws.proofs.Reached.{noted-reached}
use Rattle.channel_laws.proofs.Readable.{reading-is}
use Rattle.channel_laws.proofs.Rows.{sound_schemas_have_sound_rows}
use Rattle.channel_laws.proofs.Runs.{AcrossEnds, AtEnds, IsReached}
use Rattle.channel_laws.proofs.StillEnds.{child-clear, parent-clear}
use Rattle.channel_laws.proofs.StillReads.{InnerIsClear}
use Rattle.channel_laws.proofs.WaitLaw.{exchanges-reached}
use Rattle.channel_laws.proofs.WaitMoments.{child-heads, parent-heads}
use Rattle.wait_laws.specs.SendableWorlds.{BodyArrives, BodyIsSendable, EntryIsSendable, FrameGoes, IsOfRow, IsSendableEnd, IsSendableWorld, IsSentBy, ItemIsSendable}
use Rattle.wait_laws.proofs.SendableRuns.{sendable_in_every_run}
use Rattle.law_statements.specs.Packets.{sent}
use Rattle.law_statements.specs.Stack.{stack}
use Rattle.order_statements.specs.Order as order
use Rattle.order_statements.specs.Order.{MayOvertake, request_arrival}
use Rattle.order_statements.proofs.Overtaking.{IsFromParent, IsNoFarewell, MayArrive, MayAwait, overtakes}

-- Ends in a run

-- What is known of an end, with what is read of its lines and of those of the other end.
pub record EndKnown (schema : Schema) (top : ℕ) (side : Side) (mine theirs : End) (own others : EndReading) (to_me to_them : List Packet) : Type 0 where
  pub ends : TwoEnds schema mine theirs own others to_me to_them
  pub heads : HasHeads schema (told_notes theirs.side others.sent) mine
  pub noted : ArrivalsAreNoted schema (told_notes theirs.side others.sent) mine
  pub exchanges : ReadsExchanges schema mine own
  pub answers : AnswersOnce schema theirs others
  pub clear : InnerIsClear mine.side (deferral.awaited_level (frames_of mine)) (deferral.inner_transaction (frames_of mine))
  pub sendable : IsSendableEnd schema top side mine

-- at the end of a side
abbrev pub KnownAt : Schema → ℕ → Side → World → Reading → Type 0
KnownAt schema top side w r = EndKnown schema top side (end_of side w) (end_of (other side) w) (end_reading_of side r) (end_reading_of (other side) r) (link_to side w) (link_to (other side) w)

pub known : (schema : Schema) → IsSound schema → (top : ℕ) (moves : List Move) (side : Side) → KnownAt schema top side (world_of schema top moves) (read schema (history_of schema top moves))
known schema sound top moves side = by side
  where
    w : World
    w = world_of schema top moves

    r : Reading
    r = read schema (history_of schema top moves)

    reached : IsReached schema w r
    reached = record { top = top; front = moves; world = refl; reading = refl }

    nested : IsNestedWorld schema w
    nested = nesting_in_every_run schema sound top moves

    reads : ReadingIs schema w r
    reads = reading-is schema sound top moves

    noted : AcrossEnds schema (IsNoted schema) w r
    noted = noted-reached schema sound w r reached

    exchanges : AtEnds schema (ReadsExchanges schema) w r
    exchanges = exchanges-reached schema sound w r reached

    world : IsSendableWorld schema top w
    world = sendable_in_every_run schema top moves

    by : (side : Side) → KnownAt schema top side w r
    by Parent = record {
      ends = reads.ends;
      heads = parent-heads schema sound w r reached nested reads;
      noted = noted-at Child w.child.side w.parent r.child schema nested.child noted.0.arrived;
      exchanges = exchanges.0;
      answers = exchanges.1.answers;
      clear = parent-clear schema w.parent w.child w.to_parent w.to_child nested.parent (from-side schema Parent w nested);
      sendable = world.parent;
    }
    by Child = record {
      ends = flip reads.ends;
      heads = child-heads schema sound w r reached nested reads;
      noted = noted-at Parent w.parent.side w.child r.parent schema nested.parent noted.1.arrived;
      exchanges = exchanges.1;
      answers = exchanges.0.answers;
      clear = child-clear w.child nested.child;
      sendable = world.child;
    }

-- Deferral

-- if the inner transaction is clear, a missing one may be replaced by 0
clear-same : (side : Side) (level : Option Level) (inner : Option ℤ) (x : Arrival) → InnerIsClear side level inner → defers_arrival side level inner x ≡ defers_arrival side level (Some (unwrap_or inner (pos 0))) x
clear-same Parent None inner x c = refl
clear-same Parent (Some w) None x c = absurd c
clear-same Parent (Some w) (Some i) x c = refl
clear-same Child None inner x c = refl
clear-same Child (Some w) inner (request sync InsideCpow t) c = refl
clear-same Child (Some w) inner (request false Not t) c = refl
clear-same Child (Some w) inner (request false InsideSync t) c = refl
clear-same Child (Some w) inner (request true Not t) c = refl
clear-same Child (Some w) inner (request true InsideSync t) c = refl
clear-same Child (Some w) inner (reply sync) c = refl
clear-same Child (Some w) inner goodbye c = refl
clear-same Child (Some w) inner mark c = refl

-- What waits at an end

module _ (schema : Schema) (sound : IsSound schema) (top : ℕ) (side : Side) (mine theirs : End) (own others : EndReading) (to_me to_them : List Packet) (k : EndKnown schema top side mine theirs own others to_me to_them) where
  abbrev notes : List Note
  notes = told_notes theirs.side others.sent

  -- what is known of an item that waits
  abbrev pub Waits : Item → Type 0
  Waits x = ItemHead schema x × ItemIsNoted schema notes x × ItemIsSendable schema top (other side) x

  pub all-wait : AllByRecursion Waits mine.arrived
  all-wait =
      all-both (λ (x : Item). ItemHead schema x × ItemIsNoted schema notes x) (ItemIsSendable schema top (other side)) Waits mine.arrived (λ x h s. (h.0, h.1, s))
      (all-both (ItemHead schema) (ItemIsNoted schema notes) (λ x. ItemHead schema x × ItemIsNoted schema notes x) mine.arrived (λ x h i. (h, i)) k.heads.arrived k.noted) k.sendable.arrived

  abbrev level : Option Level
  level = deferral.awaited_level (frames_of mine)

  abbrev inner : Option ℤ
  inner = deferral.inner_transaction (frames_of mine)

  -- the head of a request that waits, as lines show it
  request-told : (m : Message) (sync : Bool) (l : Level) (vs : Values) → BodyHead schema m sync l (Request vs) → In (body_note schema m (Request vs)) notes → lines.request_head schema others m.seq ≡ Some (record { sync = sync; level = l; seq = m.seq; transaction = m.transaction })
  request-told m sync l vs h i =
      request-head schema theirs.side (is_open theirs.state) theirs.outbox theirs.sent _ others k.ends.comes.sent m.number m.seq (record { sync = sync; level = l; seq = m.seq; transaction = m.transaction }) refl h
      (record { request = message_note schema m vs; sent_it = i; seq_is = refl; transaction_is = refl; number_is = refl })

  -- the part of a waiting item that decides deferral, as lines show it
  pub arrival-told : (said : List What) → others.sent ≡ sent schema said → (x : Item) → Waits x → order.arrival_of schema said (item_kind x) ≡ Some (arrival_of x)
  arrival-told said e item.Broken h = refl
  arrival-told said e (item.Message m sync l) h = by m.body h.0 h.1
    where
      by : (body : Body) → BodyHead schema m sync l body → In (body_note schema m body) notes → order.arrival_of schema said (body_kind m.seq body) ≡ Some (arrival_of_body sync l m.transaction body)
      by (Request vs) h i =
          ap (λ (ps : List SentPacket). option_map request_arrival (option_and_then (λ (r : told.Request). lines.head_of schema r.number m.seq r.transaction) (request_of ps m.seq))) (sym e)
          ∙ ap (option_map request_arrival) (request-told m sync l vs h i)
      by (Reply vs) h i = ap (λ (b : Bool). Some (reply b)) (sym h)
      by (Fault reason) h i = ap (λ (b : Bool). Some (reply b)) (sym h)
      by Goodbye h i = refl

  packet-deferred : (d : lines.DeferralState) (x : Item) → Waits x → lines.defers_packet schema others d (item_kind x) ≡ lines.defers d (arrival_of x)
  packet-deferred d item.Broken h = refl
  packet-deferred d (item.Message m sync l) h = by m.body h.0 h.1
    where
      by : (body : Body) → BodyHead schema m sync l body → In (body_note schema m body) notes → lines.defers_packet schema others d (body_kind m.seq body) ≡ lines.defers d (arrival_of_body sync l m.transaction body)
      by (Request vs) h i = ap (lines.defers_request_head d) (request-told m sync l vs h i)
      by (Reply vs) h i = ap (λ (b : Bool). lines.defers d (reply b)) (sym h)
      by (Fault reason) h i = ap (λ (b : Bool). lines.defers d (reply b)) (sym h)
      by Goodbye h i = refl

  deferral-told : lines.deferral_of schema side own others ≡ record { side = mine.side; level = level; inner = inner }
  deferral-told =
      ap (λ (s : Side). record { side = s; level = lines.awaited_level schema own.stack; inner = lines.inner_transaction schema others own.stack }) (sym k.sendable.side_is)
      ∙ (ap (λ (l : Option Level). record { side = mine.side; level = l; inner = lines.inner_transaction schema others own.stack }) (awaited-level schema theirs.side (is_open theirs.state) theirs.outbox theirs.sent _ others k.ends.comes.sent own.stack mine.stack k.ends.outlined.stack k.heads.entries)
      ∙ ap (λ (i : Option ℤ). record { side = mine.side; level = level; inner = i }) (inner-alike schema theirs.side (is_open theirs.state) theirs.outbox theirs.sent _ others k.ends.comes.sent own.stack mine.stack k.ends.outlined.stack k.heads.entries))

  -- what waits is deferred as its lines show
  pub deferred-alike : (x : Item) → Waits x → lines.defers_packet schema others (lines.deferral_of schema side own others) (item_kind x) ≡ defers_item (take.deferral_context_of mine) x
  deferred-alike x h =
      packet-deferred (lines.deferral_of schema side own others) x h
      ∙ ap (λ (d : lines.DeferralState). lines.defers d (arrival_of x)) deferral-told
      ∙ clear-same mine.side level inner (arrival_of x) k.clear

  -- the parent awaits only calls of level inside_sync
  await-is : MayAwait side level
  await-is = by side k.sendable.entries mine.stack refl
    where
      call : (head : Head) (entry : StackEntry) → entry.frame ≡ Wait head None → EntryIsSendable schema top Parent entry → head.level ≡ InsideSync
      call head entry is s =
          let goes : FrameGoes Parent s.row (Wait head None) = subst (FrameGoes Parent s.row) is s.goes in
          let row : IsSoundRow schema entry.number s.row = sound_schemas_have_sound_rows schema sound entry.number s.row s.found in
          ap (λ (f : StackFrame). (head_of f).level) (sym is) ∙ s.level ∙ row.of_parent goes.1 goes.0

      on-top : (entry : StackEntry) (below : List StackEntry) → EntryIsSendable schema top Parent entry → (f : StackFrame) → entry.frame ≡ f → MayAwait Parent (deferral.awaited_level (f ∷ map (λ (x : StackEntry). x.frame) below))
      on-top entry below s (Dispatch head) is = tt
      on-top entry below s (Wait head None) is = call head entry is s
      on-top entry below s (Wait head (Some a)) is = tt

      by : (side : Side) → AllByRecursion (EntryIsSendable schema top side) mine.stack → (stack : List StackEntry) → mine.stack ≡ stack → MayAwait side level
      by Child s stack is = tt
      by Parent s [] is = subst (λ (es : List StackEntry). MayAwait Parent (deferral.awaited_level (map (λ (x : StackEntry). x.frame) es))) (sym is) tt
      by Parent s (entry ∷ below) is =
          subst (λ (es : List StackEntry). MayAwait Parent (deferral.awaited_level (map (λ (x : StackEntry). x.frame) es))) (sym is)
          (on-top entry below (subst (AllByRecursion (EntryIsSendable schema top Parent)) is s).0 entry.frame refl)

  -- what the parent sends
  from-parent : (number : ℕ) (sync : Bool) (l : Level) → IsSentBy schema top Parent number → IsOfRow schema number sync l → IsFromParent sync l
  from-parent number sync l s a = by sync l same.0 same.1
    where
      found : (s.row.number ≡ number) × (message_of schema number ≡ Some s.row)
      found = request-number schema number s.row s.found

      same : (sync ≡ is_sync_row s.row) × (l ≡ s.row.level)
      same = a s.row found.1

      at : IsAt schema number s.row
      at = row-at schema sound number s.row found.1 found.0

      row : IsSoundRow schema number s.row
      row = sound_schemas_have_sound_rows schema sound number s.row s.found

      by : (sync : Bool) (l : Level) → sync ≡ is_sync_row s.row → l ≡ s.row.level → IsFromParent sync l
      by sync InsideSync x y = tt
      by false Not x y = tt
      by true Not x y = let k : Not ≡ InsideSync = y ∙ row.of_parent (sym x) s.way in cc
      by sync InsideCpow x y = let k : true ≡ false = sym s.way ∙ ap (sends Parent) (at.sound.inside_cpow (sym y)) in cc

  -- what waits is as required
  arrive-is : (x : Item) → Waits x → MayArrive side (arrival_of x)
  arrive-is item.Broken h = broken side
    where
      broken : (side : Side) → MayArrive side mark
      broken Parent = tt
      broken Child = tt
  arrive-is (item.Message m sync l) h = by side m.body h.0 h.2.0 h.2.1
    where
      by : (side : Side) (body : Body) → BodyHead schema m sync l body → BodyIsSendable schema top (other side) m.number body → BodyArrives schema m sync l body → MayArrive side (arrival_of_body sync l m.transaction body)
      by Parent (Request vs) h s a = tt
      by Child (Request vs) h s a = from-parent m.number sync l s a
      by Parent (Reply vs) h s a = h
      by Child (Reply vs) h s a = h
      by Parent (Fault reason) h s a = h
      by Child (Fault reason) h s a = h
      by Parent Goodbye h s a = tt
      by Child Goodbye h s a = tt

  -- an item that is taken may overtake one that is deferred
  pub may-overtake : (x y : Item) → Waits x → Waits y → IsNoFarewell (arrival_of x) → defers_item (take.deferral_context_of mine) x ≡ false → defers_item (take.deferral_context_of mine) y ≡ true → MayOvertake side (arrival_of x) (arrival_of y)
  may-overtake x y hx hy last free deferred =
      overtakes side level (unwrap_or inner (pos 0)) (arrival_of x) (arrival_of y) await-is (arrive-is x hx) (arrive-is y hy) last
      (subst (λ (s : Side). defers_arrival s level (Some (unwrap_or inner (pos 0))) (arrival_of x) ≡ false) k.sendable.side_is free)
      (subst (λ (s : Side). defers_arrival s level (Some (unwrap_or inner (pos 0))) (arrival_of y) ≡ true) k.sendable.side_is deferred)
