-- Every step of an open end.
use Rattle.std.proofs.Common.{◌≡◌, ℕ, true, List, [], ◌∷◌, drop, Some, option_and_then, ap, subst, ◌∙◌}
use Rattle.std.specs.List.{AllByRecursion}
use Rattle.ipdl_base.specs.declared.schema.MessageRow.{MessageRow}
use Rattle.ipdl_base.specs.declared.schema.Schema.{Schema}
use Rattle.channel_model.specs.Acts as acts
use Rattle.channel_model.specs.Answers as answers
use Rattle.channel_model.specs.Deliveries as delivery
use Rattle.channel_model.specs.Ends.{End, Packet}
use Rattle.channel_model.specs.Events.{Event}
use Rattle.channel_model.specs.Events as event
use Rattle.channel_model.specs.Numbers.{request_row}
use Rattle.channel_model.specs.Outputs.{Output, beginning, is_open}
use Rattle.channel_model.specs.Returns as returns
use Rattle.channel_model.specs.Runs.{after_event}
use Rattle.channel_model.specs.Sends as sends
use Rattle.channel_model.specs.Steps.{step, provided, first_packet}
use Rattle.channel_model.specs.Takes as takes
use Rattle.channel_model.proofs.Provided.{provided-gives, found-gives}
use Rattle.channel_laws.proofs.Acts as acted
use Rattle.channel_laws.proofs.Deliveries.{delivered}
use Rattle.channel_laws.proofs.Returns.{returned, resumed, flushed}
use Rattle.channel_laws.proofs.Sends.{send-sync_step}
use Rattle.channel_laws.proofs.SyncSteps.{SyncStep}
use Rattle.channel_laws.proofs.Takes.{taken}
use Rattle.channel_laws.specs.OpenEnds.{PacketAgrees, IsOpenEnd}
use Rattle.channel_laws.specs.SyncCalls.{sync_packets}
use Rattle.nesting_laws.specs.Calls.{SyncPacket, reply, ReplyHead, SyncFrame}
use Rattle.nesting_laws.specs.Progress.{IsForTop}
use Rattle.channel_laws.specs.Rows.{HasSoundRows}

-- each sync reply that is first on the link is for the wait on top
abbrev pub ReplyIsForTop : Schema → List SyncFrame → List Packet → Type 0
ReplyIsForTop schema stack link = (r : ReplyHead) (below : List SyncPacket) → sync_packets schema link ≡ reply r ∷ below → IsForTop stack r

first-delivered : (schema : Schema) (rows : HasSoundRows schema) (e : End) (stack : List SyncFrame) (link : List Packet) (packet : Packet) → IsOpenEnd schema e stack → AllByRecursion (PacketAgrees schema) link → ReplyIsForTop schema stack link → first_packet link ≡ Some packet
    → SyncStep schema e stack link (drop 1 link) (delivery.deliver schema packet (beginning e))
first-delivered schema rows e stack [] packet h agree top is = cc
first-delivered schema rows e stack (p ∷ rest) packet h agree top is =
    let s : p ≡ packet = cc in
    subst (λ (x : Packet). SyncStep schema e stack (p ∷ rest) rest (delivery.deliver schema x (beginning e))) s (delivered schema rows e stack rest h p agree.0 top)

-- the row of a send is that of its own number
own-number : (schema : Schema) (rows : HasSoundRows schema) (number : ℕ) (row : MessageRow) → request_row schema number ≡ Some row → request_row schema row.number ≡ Some row
own-number schema rows number row found = ap (request_row schema) (rows number row found).number ∙ found

pub open_step : (schema : Schema) (rows : HasSoundRows schema) (e : End) (stack : List SyncFrame) (link : List Packet) (happening : Event) (output : Output) → IsOpenEnd schema e stack → AllByRecursion (PacketAgrees schema) link → ReplyIsForTop schema stack link
    → step schema e link happening ≡ Some output → SyncStep schema e stack link (after_event happening link) output
open_step schema rows e stack link (event.send route number vs name) output h agree top is =
    found-gives (SyncStep schema e stack link link) (request_row schema number) (λ row. provided (sends.may_send schema e row vs name) (sends.send schema e row route vs name) e) output
    (λ row found. provided-gives (SyncStep schema e stack link link) (sends.may_send schema e row vs name) (sends.send schema e row route vs name) e output
    (λ may. let own = own-number schema rows number row found in send-sync_step schema e row route vs name stack link (rows row.number row own) own h may)) is
open_step schema rows e stack link (event.answer by vs) output h agree top is =
    found-gives (SyncStep schema e stack link link) (answers.answered_row schema e by) (λ row. provided (answers.may_answer schema e row vs) (answers.answer schema e row by vs) e) output
    (λ row found. provided-gives (SyncStep schema e stack link link) (answers.may_answer schema e row vs) (answers.answer schema e row by vs) e output
    (λ may. acted.answered schema rows e stack link row by vs h)) is
open_step schema rows e stack link (event.keep seq name) output h agree top is =
    provided-gives (SyncStep schema e stack link link) (answers.may_keep e seq) (answers.keep e seq name) e output (λ may. acted.keeps schema rows e stack link seq name h) is
open_step schema rows e stack link (event.name name id) output h agree top is =
    provided-gives (SyncStep schema e stack link link) (sends.may_act e) (acts.name_actor name id) e output (λ may. acted.named schema e stack link name id h) is
open_step schema rows e stack link event.close output h agree top is =
    provided-gives (SyncStep schema e stack link link) (sends.may_act e) (acts.close e) e output (λ may. acted.closes schema e stack link h) is
open_step schema rows e stack link event.die output h agree top is =
    provided-gives (SyncStep schema e stack link link) (acts.may_die e) acts.die e output (λ may. acted.dies schema e stack link h) is
open_step schema rows e stack link event.deliver output h agree top is =
    found-gives (SyncStep schema e stack link (drop 1 link)) (first_packet link) (λ packet. provided (is_open e.state) (delivery.deliver schema packet) e) output
    (λ packet found. provided-gives (SyncStep schema e stack link (drop 1 link)) (is_open e.state) (delivery.deliver schema packet) e output
    (λ may. first-delivered schema rows e stack link packet h agree top found)) is
open_step schema rows e stack link event.take output h agree top is =
    found-gives (SyncStep schema e stack link link) (takes.taken_next e) (λ item. provided true (takes.take schema item) e) output
    (λ item found. provided-gives (SyncStep schema e stack link link) true (takes.take schema item) e output (λ may. taken schema rows e stack link h item found)) is
open_step schema rows e stack link (event.return vs) output h agree top is =
    found-gives (SyncStep schema e stack link link) (returns.dispatch_on_top e.stack) (λ entry. option_and_then (λ row. provided (returns.may_return schema row vs) (returns.return schema e row entry vs) e) (request_row schema entry.number)) output
    (λ entry on_top. found-gives (SyncStep schema e stack link link) (request_row schema entry.number) (λ row. provided (returns.may_return schema row vs) (returns.return schema e row entry vs) e) output
    (λ row found. provided-gives (SyncStep schema e stack link link) (returns.may_return schema row vs) (returns.return schema e row entry vs) e output
    (λ may. returned schema rows e stack link h entry row on_top found vs))) is
open_step schema rows e stack link event.resume output h agree top is =
    found-gives (SyncStep schema e stack link link) (returns.answered_wait_on_top e.stack) (λ wait. option_and_then (λ row. provided true (returns.resume schema e wait row) e) (request_row schema wait.number)) output
    (λ wait on_top. found-gives (SyncStep schema e stack link link) (request_row schema wait.number) (λ row. provided true (returns.resume schema e wait row) e) output
    (λ row found. provided-gives (SyncStep schema e stack link link) true (returns.resume schema e wait row) e output (λ may. resumed schema e stack link h wait row on_top))) is
open_step schema rows e stack link event.flush output h agree top is =
    provided-gives (SyncStep schema e stack link link) (returns.may_flush e) returns.flush e output (λ may. flushed schema e stack link h) is
