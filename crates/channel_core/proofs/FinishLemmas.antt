-- A handler that returns.
use Rattle.std.proofs.Common.{◌≡◌, suc, ◌+◌, ◌-◌, ◌<◌, ◌≤◌, Bool, true, false, not, ◌&&◌, if◌then◌else◌, List, [], ◌∷◌, drop, length, Option, Some, None, is_some, refl, ap, sym, subst, ◌∙◌, arith}
use Rattle.std.specs.List.{AllByRecursion}
use Rattle.std.specs.Option.{option_and_then}
use Rattle.std.proofs.lemmas.Option.{same_Some}
use Rattle.actor_tree.specs.declared.actor.Actor.{Actor}
use Rattle.ipdl_base.specs.declared.kinds.Reason.TheVariants.{ResolverDestroyed}
use Rattle.ipdl_base.specs.declared.line.What.TheVariants as what
use Rattle.ipdl_base.specs.declared.schema.MessageRow.{MessageRow}
use Rattle.ipdl_base.specs.declared.schema.Schema.{Schema}
use Rattle.ipdl_base.specs.declared.value.Values.{Values}
use Rattle.ipdl_base.specs.Sound.{IsSound, message_of}
use Rattle.nesting_core.specs.declared.frame.Answer.TheVariants as answer
use Rattle.nesting_core.specs.declared.frame.StackFrame.{StackFrame}
use Rattle.nesting_core.specs.declared.frame.StackFrame.TheVariants.{Dispatch, Wait}
use Rattle.nesting_core.specs.Frames.{head_of}
use Rattle.channel_model.specs.Answers.{resolver_in}
use Rattle.channel_model.specs.Ends.{End, PromiseEntry, StackEntry}
use Rattle.channel_model.specs.Events as event
use Rattle.channel_model.specs.Falls.{deletes}
use Rattle.channel_model.specs.Fitting.{FitsEntry, IsRequestKept}
use Rattle.channel_model.specs.Numbers.{is_sync_row, makes_promise, request_row}
use Rattle.channel_model.specs.Outputs.{Output, beginning, is_open, line, line_at, lines, resolver_answered}
use Rattle.channel_model.specs.Parts.{IsReturn}
use Rattle.channel_model.specs.Returns.{dispatch_answered, dispatch_on_top, may_return, popped, return, return_answer}
use Rattle.channel_model.specs.Steps.{step, provided}
use Rattle.channel_model.proofs.FittingEnds.{entry-resolver}
use Rattle.channel_model.proofs.FittingParts.{return-fits}
use Rattle.channel_model.proofs.FittingRequests.{promised-fault, sync-reply}
use Rattle.channel_model.proofs.SendParts.{request-number}
use Rattle.end_steps.specs.declared.answer_packet.AnswerPacket.{AnswerPacket}
use Rattle.end_steps.specs.AnswerPackets.{OwedAnswer, FitsOwed, IsPacketFor, owed_by_return, owed_if, with_answer_packet}
use Rattle.end_steps.specs.Deletions.{HasDeleted}
use Rattle.end_parts.specs.OutputView.{OutputView, with_line}
use Rattle.end_parts.specs.PromiseRequests.{pending_in}
use Rattle.end_steps.proofs.RenamingLemmas.{request-small}
use Rattle.channel_core.specs.Inside.{IsInside, IsKept}
use Rattle.channel_core.specs.Room.{room, waits_in}
use Rattle.channel_core.specs.EndView.{EndView}
use Rattle.channel_core.specs.Steps.{MayReturn}
use Rattle.channel_core.specs.Tracks.{Tracks}
use Rattle.channel_core.proofs.DeletionLemmas.{Deletes, KeepsRoom, deleted_room, tracks_deleted}
use Rattle.channel_core.proofs.MadeLemmas.{Made, HasRoom}
use Rattle.channel_core.proofs.OwedLemmas.{answers_owed, either_owed, owed_end, owed_room, tracks_owed, LeavesRoom}
use Rattle.channel_core.proofs.TrackLemmas.{tracks_end, tracks_line, tracks_room}

-- the entry and the row of a return are those that the code finds
pub is_return : (v : EndView) (vs : Option Values) (entry : StackEntry) (row : MessageRow) → MayReturn v vs → dispatch_on_top v.end.stack ≡ Some entry → message_of v.schema entry.number ≡ Some row → IsReturn v.schema v.end entry row vs
is_return v vs entry row may top found =
    let same : may.entry ≡ entry = same_Some may.entry entry (sym may.on_top ∙ top) in
    let there : request_row v.schema entry.number ≡ Some may.row = ap (λ (x : StackEntry). request_row v.schema x.number) (sym same) ∙ may.found in
    let is_row : may.row ≡ row = same_Some may.row row (sym (request-number v.schema entry.number may.row there).1 ∙ found) in
    record { on_top = top; found = there ∙ ap Some is_row; may = subst (λ (r : MessageRow). may_return v.schema r vs ≡ true) is_row may.may }

-- the dispatch on top fits
top_fits : (schema : Schema) (stack : List StackEntry) (entry : StackEntry) → dispatch_on_top stack ≡ Some entry → AllByRecursion (FitsEntry schema) stack → FitsEntry schema entry
top_fits schema [] entry e h = cc
top_fits schema (x ∷ stack) entry e h = by x.frame e h.0
  where
    by : (f : StackFrame) → elim f as (λ f. Option StackEntry) [ Dispatch head ↦ Some (record x { frame = f }) | Wait head a ↦ None ] ≡ Some entry → FitsEntry schema (record x { frame = f }) → FitsEntry schema entry
    by (Dispatch head) e k = subst (FitsEntry schema) (same_Some (record x { frame = Dispatch head }) entry e) k
    by (Wait head a) e k = cc

-- what promises is not sync
not_both : (row : MessageRow) → makes_promise row ≡ true → is_sync_row row ≡ true → ⊥
not_both row p s = by (is_sync_row row) (is_some row.returns) p s
  where
    by : (a b : Bool) → not a && b ≡ true → a ≡ true → ⊥
    by true b p s = cc
    by false b p s = cc

waits_drop : (stack : List StackEntry) → waits_in (drop 1 stack) ≤ waits_in stack
waits_drop [] = omega arith
waits_drop (entry ∷ stack) = omega arith

-- What the code makes of a return.
pub record CodeReturns (v : EndView) (out mid said told out' : OutputView) (entry : StackEntry) (row : MessageRow) (packet : Option AnswerPacket) (stack : List StackEntry) (actors : List Actor) (promises : List PromiseEntry) : Type 0 where
  pub same : mid ≡ record out { line_spare = mid.line_spare; packet_spare = mid.packet_spare }
  pub lines : out.lines_owed + 2 ≤ mid.line_spare
  pub packets : length out.frames + 1 + 1 ≤ mid.packet_spare
  pub pops : stack ≡ drop 1 v.end.stack
  pub says : said ≡ with_line mid (line_at v.end.side (what.Return (head_of entry.frame).seq))
  pub puts : told ≡ with_answer_packet v.end.side packet said
  pub deletes : HasDeleted row.kind v.end.side entry.route v.end.actors v.end.promises told actors promises out'

-- the end after it
abbrev pub returned_with : End → List StackEntry → List Actor → List PromiseEntry → OutputView → End
returned_with e stack actors promises out = record e { actors = actors; stack = stack; promises = promises; outbox = out.outbox }

module _ (v : EndView) (vs : Option Values) (entry : StackEntry) (row : MessageRow) (r : IsReturn v.schema v.end entry row vs) (sound : IsSound v.schema) (kept : IsKept v.schema v.end) where
  fits : FitsEntry v.schema entry
  fits = top_fits v.schema v.end.stack entry r.on_top kept.fitting.stack

  same_row : fits.row ≡ row
  same_row = same_Some fits.row row (sym fits.request.found ∙ r.found)

  request : IsRequestKept v.schema row (dispatch_answered entry)
  request = subst (λ (x : MessageRow). IsRequestKept v.schema x (dispatch_answered entry)) same_row fits.request

  -- only an async request has a resolver
  one_answer : is_sync_row row ≡ true → entry.resolves ≡ false
  one_answer sync = by entry.resolves refl
    where
      by : (b : Bool) → entry.resolves ≡ b → b ≡ false
      by true e = absurd (not_both row (subst (λ (x : MessageRow). makes_promise x ≡ true) same_row (fits.resolves e)) sync)
      by false e = refl

  pub return_number : entry.number < 4294967295
  return_number = request-small v.schema entry.number row sound r.found

  -- what is owed fits
  pub owed_fits : FitsOwed v.schema (owed_by_return v.schema v.end.actors row entry vs)
  owed_fits = by (is_sync_row row) refl
    where
      lost : (b : Bool) → entry.resolves ≡ b → FitsOwed v.schema (if b then Some (record { request = resolver_answered (resolver_in entry); given = answer.Fault ResolverDestroyed }) else None)
      lost true e = promised-fault v.schema sound (resolver_answered (resolver_in entry)) (entry-resolver v.schema entry fits e)
      lost false e = tt

      by : (b : Bool) → is_sync_row row ≡ b
          → FitsOwed v.schema (if b then Some (record { request = dispatch_answered entry; given = return_answer v.schema v.end row entry vs }) else (if entry.resolves then Some (record { request = resolver_answered (resolver_in entry); given = answer.Fault ResolverDestroyed }) else None))
      by true e = return-fits v.schema sound v.end row entry (dispatch_answered entry) vs request (sync-reply row e) r.may kept.fitting
      by false e = lost entry.resolves refl

  abbrev spoken : Output
  spoken = line (what.Return (head_of entry.frame).seq) (popped (beginning v.end))

  abbrev owed : Option OwedAnswer
  owed = owed_if (is_open v.end.state) (owed_by_return v.schema v.end.actors row entry vs)

  return_steps : step v.schema v.end [] (event.return vs) ≡ Some (deletes entry.route row.kind (answers_owed owed spoken))
  return_steps =
      ap (λ (x : Option StackEntry). option_and_then (λ (entry : StackEntry). option_and_then (λ (row : MessageRow). provided (may_return v.schema row vs) (return v.schema v.end row entry vs) v.end) (request_row v.schema entry.number)) x) r.on_top
      ∙ ap (λ (x : Option MessageRow). option_and_then (λ (row : MessageRow). provided (may_return v.schema row vs) (return v.schema v.end row entry vs) v.end) x) r.found
      ∙ ap (λ (b : Bool). provided b (return v.schema v.end row entry vs) v.end) r.may
      ∙ ap (λ (o : Output). Some (deletes entry.route row.kind o))
      (either_owed (is_sync_row row) entry.resolves (is_open v.end.state) (dispatch_answered entry) (resolver_answered (resolver_in entry)) (return_answer v.schema v.end row entry vs) (answer.Fault ResolverDestroyed) spoken refl one_answer)

  pub returns_handler : (out mid said told out' : OutputView) (packet : Option AnswerPacket) (stack : List StackEntry) (actors : List Actor) (promises : List PromiseEntry) → IsPacketFor v.schema owed packet → Tracks v (beginning v.end) out
      → CodeReturns v out mid said told out' entry row packet stack actors promises → Made v [] (event.return vs) (returned_with v.end stack actors promises out') out'
  returns_handler out mid said told out' packet stack actors promises p t h =
      let t0 : Tracks v (beginning v.end) mid = tracks_room v (beginning v.end) out mid t (h.same ∙ rw h.same refl) in
      let t1 : Tracks v (popped (beginning v.end)) mid = tracks_end v (beginning v.end) mid (λ (e : End). record e { stack = drop 1 e.stack }) t0 refl in
      let t2 : Tracks v spoken said = tracks_line v (popped (beginning v.end)) mid said (what.Return (head_of entry.frame).seq) t1 h.says in
      let t3 : Tracks v (answers_owed owed spoken) told = tracks_owed v spoken said told owed packet p t2 h.puts in
      let following : (answers_owed owed spoken).end ≡ record spoken.end { outbox = (answers_owed owed spoken).end.outbox } = owed_end owed spoken in
      let gone : HasDeleted row.kind (answers_owed owed spoken).end.side entry.route (answers_owed owed spoken).end.actors (answers_owed owed spoken).end.promises told actors promises out' =
      subst (λ (e : End). HasDeleted row.kind e.side entry.route e.actors e.promises told actors promises out') (sym following) h.deletes in
      let d : Deletes v (answers_owed owed spoken) row.kind entry.route actors promises out' = tracks_deleted v (answers_owed owed spoken) row.kind entry.route told actors promises out' t3 gone in
      record {
        output = deletes entry.route row.kind (answers_owed owed spoken);
        steps = return_steps;
        tracks = d.tracks;
        ends =
            rw (h.pops, d.tracks.outbox ∙ ap (λ (x : End). x.outbox) (sym d.ends))
            (ap (λ (e : End). record e { actors = actors; promises = promises }) (sym following) ∙ d.ends);
      }

  -- there is room for a fall
  pub fall_lines_fit : (out mid said told : OutputView) (packet : Option AnswerPacket) → IsInside v.schema v.end out → out.lines_owed + 2 ≤ mid.line_spare → said ≡ with_line mid (line_at v.end.side (what.Return (head_of entry.frame).seq)) → told ≡ with_answer_packet v.end.side packet said
      → length v.end.actors + pending_in v.end.promises ≤ told.line_spare
  unfolding room
  fall_lines_fit out mid said told packet inside lines says puts =
      let l : LeavesRoom said told = owed_room v.end.side packet said told puts in
      let spare : said.line_spare ≡ mid.line_spare - 1 = ap (λ (g : OutputView). g.line_spare) says in
      omega (arith, inside.owes, lines, l.lines, spare)

  pub return_room : (out mid said told out' : OutputView) (packet : Option AnswerPacket) (stack : List StackEntry) (actors : List Actor) (promises : List PromiseEntry) → out.outbox ≡ v.end.outbox → IsInside v.schema v.end out
      → CodeReturns v out mid said told out' entry row packet stack actors promises → HasRoom v.schema (returned_with v.end stack actors promises out') out'
  unfolding room
  return_room out mid said told out' packet stack actors promises box inside h =
      let l : LeavesRoom said told = owed_room v.end.side packet said told h.puts in
      let k : KeepsRoom v.end.actors v.end.promises told actors promises out' = deleted_room row.kind v.end.side entry.route v.end.actors v.end.promises told actors promises out' h.deletes in
      let said_spare : said.line_spare ≡ mid.line_spare - 1 = ap (λ (g : OutputView). g.line_spare) h.says in
      let said_owed : said.lines_owed ≡ out.lines_owed = ap (λ (g : OutputView). g.lines_owed) h.says ∙ ap (λ (g : OutputView). g.lines_owed) h.same in
      let said_packets : said.packet_spare ≡ mid.packet_spare = ap (λ (g : OutputView). g.packet_spare) h.says in
      let said_frames : length said.frames ≡ length out.frames = ap (λ (g : OutputView). length g.frames) h.says ∙ ap (λ (g : OutputView). length g.frames) h.same in
      let said_bye : said.goodbye ≡ out.goodbye = ap (λ (g : OutputView). g.goodbye) h.says ∙ ap (λ (g : OutputView). g.goodbye) h.same in
      let said_box : length said.outbox ≡ length v.end.outbox = ap (λ (g : OutputView). length g.outbox) h.says ∙ ap (λ (g : OutputView). length g.outbox) h.same ∙ ap length box in
      let told_spare : told.lines_owed ≤ told.line_spare = omega (arith, h.lines, l.owed, l.lines, said_owed, said_spare) in
      let waits : waits_in stack ≤ waits_in v.end.stack = subst (λ (s : List StackEntry). waits_in s ≤ waits_in v.end.stack) (sym h.pops) (waits_drop v.end.stack) in
      let boxes : length out'.outbox ≡ length told.outbox = ap length k.outbox in
      let frames : length out'.frames ≡ length told.frames = ap length k.frames in
      record {
        owes = omega (arith, inside.owes, k.owes, l.owed, l.outbox, said_owed, said_box, waits, boxes);
        spare = k.spare told_spare;
        packets = λ e. let p : suc (length told.frames) ≤ told.packet_spare = l.packets (omega (arith, h.packets, said_packets, said_frames)) in omega (arith, p, k.packets, frames);
        farewell = λ e. k.goodbye ∙ l.goodbye ∙ said_bye ∙ inside.farewell e;
      }
