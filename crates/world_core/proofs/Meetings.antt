-- A half that meets the link: what it has stored is appended, and then deliveries are made to its side.
use Rattle.std.proofs.Common.{◌≡◌, ℕ, suc, ◌+◌, ◌≤◌, nat_lt, Bool, true, false, ◌&&◌, is_some, List, [], ◌++◌, length, Some, refl, sym, ap, subst, ◌∙◌, append_assoc, arith, length-append}
use Rattle.std.specs.List.{AllByRecursion}
use Rattle.std.proofs.lemmas.List.{append-nil, length-map, map-append, replicate_more}
use Rattle.handler_script.specs.ScriptOf.{first_of}
use Rattle.ipdl_base.specs.declared.kinds.Side.{Side}
use Rattle.ipdl_base.specs.declared.kinds.Side.TheVariants as sides
use Rattle.ipdl_base.specs.declared.line.Line.{Line}
use Rattle.ipdl_base.specs.declared.line.What.{What}
use Rattle.channel_model.specs.Ends.{End, end_of, link_to}
use Rattle.channel_model.specs.Ends as model
use Rattle.ipdl_base.specs.Sides.{other}
use Rattle.channel_model.specs.Outputs.{is_open}
use Rattle.channel_model.specs.Runs.{RunState}
use Rattle.channel_core.specs.EndView.{IsFramed, packet_of, packets_of}
use Rattle.end_parts.specs.declared.packet.Packet.{Packet}
use Rattle.script_runs.proofs.CaseRuns.{played-last}
use Rattle.script_steps.proofs.Choosing.{case_worlds_are_one}
use Rattle.script_steps.proofs.Counting.{lines_of-append}
use Rattle.script_steps.specs.Choices.{Choice, Setting, may_deliver, played}
use Rattle.script_steps.specs.Progress.{Progress, lines_of, progress_of}
use Rattle.world_core.proofs.Chosen.{chosen-less, left_of, run-sides}
use Rattle.world_core.proofs.Delivering.{first-some}
use Rattle.world_core.proofs.SplitHalves.{reached, stored-own}
use Rattle.world_core.proofs.OwnRuns.{IsPlayedAgain, play-again}
use Rattle.world_core.proofs.Played.{all-append, few-lines, few-packets, link-of}
use Rattle.world_core.proofs.SideChoices.{RanAlone, one-alone}
use Rattle.world_core.proofs.Standing.{side-at, within-at}
use Rattle.world_core.proofs.Turning.{stands-come}
use Rattle.world_core.proofs.WorldTurns.{told-state}
use Rattle.world_core.specs.declared.answers.StepAnswer.{StepAnswer}
use Rattle.world_core.specs.declared.answers.StepAnswer.TheVariants as answer
use Rattle.world_core.specs.HalfView.{HalfView, IsCountedBy, appended}
use Rattle.world_core.specs.Halves.{DeliveriesEnd, Delivers, FitsAfter, HasMet, IsEmptied, IsHome, deliveries_to, is_waited_for, own_choices}
use Rattle.world_core.specs.LinkView.{IsAppended, LinkHasRoom, LinkView, packets_to, room_to}
use Rattle.world_core.specs.SideTurns.{DeliveryPlays, StandsIn}
use Rattle.world_core.specs.WorldView.{WorldView, seen_by, state_of}
use Rattle.world_core.specs.Worlds.{IsHalfOf, IsLinkOf, IsRun, room_of}

-- A half with nothing stored that fits after the lines of its link is on it, and the other way round

pub stands-home : (setting : Setting) (side : Side) (half : HalfView) (link : LinkView) → FitsAfter setting side link.lines half → IsEmptied half → IsHome setting link → StandsIn (seen_by setting link) side half link
stands-home setting side half link fits emptied home =
    let state : RunState = state_of setting link.lines in
    let lines : fits.to.lines ≡ state.lines = reached setting side link.lines half fits ∙ ap (λ (ls : List Line). link.lines ++ ls) emptied.0 ∙ append-nil link.lines ∙ home.lines in
    let same : fits.to ≡ state = (case_worlds_are_one setting fits.come.choices home.choices fits.to state fits.come.plays home.plays lines).1 in
    record {
      run = home;
      half_is = record {
        about = fits.come.about;
        end = fits.come.end ∙ ap (λ (s : RunState). end_of side s.world) same;
        no_lines = emptied.0;
        no_packets = emptied.1;
        counted = subst (λ (s : RunState). IsCountedBy half (progress_of side s.lines)) same fits.come.counted;
      };
    }

pub stands-fits : (setting : Setting) (side : Side) (half : HalfView) (link : LinkView) → StandsIn (seen_by setting link) side half link → FitsAfter setting side link.lines half
stands-fits setting side half link stands =
    let state : RunState = state_of setting link.lines in
    record {
      from = state;
      leading = stands.run.choices;
      leads = stands.run.plays;
      is_seen = sym stands.run.lines;
      to = state;
      come = stands-come (seen_by setting link) side half link stands;
      stored = record {
        count = 0;
        plays = refl;
        lines = sym (append-nil state.lines) ∙ ap (λ (ls : List Line). state.lines ++ ls) (sym stands.half_is.no_lines);
        sent = [];
        away = sym (append-nil (link_to (other side) state.world));
        packets = stands.half_is.no_packets;
        framed = tt;
      };
    }

-- Handing in

counted-appended : (half : HalfView) (p : Progress) → IsCountedBy half p → IsCountedBy (appended half) p
counted-appended half p h = record { counts = h.counts; held = h.held }

-- What a link is after lines and packets that a side has appended.
record Holds (link : LinkView) (side : Side) (lines : List Line) (packets : List Packet) (last : LinkView) : Type 0 where
  lines_are : last.lines ≡ link.lines ++ lines
  own : packets_to side last ≡ packets_to side link
  own_room : room_to side last ≡ room_to side link
  away : packets_to (other side) last ≡ packets_to (other side) link ++ packets
  away_room : room_to (other side) last ≡ room_to (other side) link

holds : (side : Side) (link last : LinkView) (lines : List Line) (packets : List Packet) → IsAppended link lines (other side) packets last → Holds link side lines packets last
holds sides.Parent link last lines packets h = record {
  lines_are = ap (λ (l : LinkView). l.lines) h.is;
  own = ap (λ (l : LinkView). l.to_parent) h.is;
  own_room = ap (λ (l : LinkView). l.parent_room) h.is;
  away = ap (λ (l : LinkView). l.to_child) h.is;
  away_room = ap (λ (l : LinkView). l.child_room) h.is;
}
holds sides.Child link last lines packets h = record {
  lines_are = ap (λ (l : LinkView). l.lines) h.is;
  own = ap (λ (l : LinkView). l.to_child) h.is;
  own_room = ap (λ (l : LinkView). l.child_room) h.is;
  away = ap (λ (l : LinkView). l.to_parent) h.is;
  away_room = ap (λ (l : LinkView). l.parent_room) h.is;
}

-- both links from the one of a side and the one away from it
both-links : (P : Side → Type 0) (side : Side) → P side → P (other side) → P sides.Parent × P sides.Child
both-links P sides.Parent own away = (own, away)
both-links P sides.Child own away = (away, own)

module _ (setting : Setting) (side : Side) (half : HalfView) (link : LinkView) (fits : FitsAfter setting side link.lines half) (home : IsHome setting link) where
  at-home : state_of setting link.lines ≡ fits.from
  at-home = sym (case_worlds_are_one setting fits.leading home.choices fits.from (state_of setting link.lines) fits.leads home.plays (fits.is_seen ∙ home.lines)).1

  run-from : IsRun setting fits.from link
  run-from = subst (λ (s : RunState). IsRun setting s link) at-home home

  abbrev away_side : Side
  away_side = other side

  long : length fits.to.lines ≡ length link.lines + length half.end.lines
  long = ap (λ (ls : List Line). length ls) (reached setting side link.lines half fits) ∙ length-append link.lines half.end.lines

  enough : length half.end.lines ≤ link.spare
  enough =
      let few = few-lines setting fits.to fits.come.choices fits.come.sound fits.come.plays in
      let all = long in
      let room = home.room in
      omega (arith, few, all, room)

  hand-room-at : LinkHasRoom link (length half.end.lines) away_side (length half.end.packets)
  hand-room-at =
      let most = few-packets setting fits.to fits.come.choices fits.come.sound fits.come.plays side in
      let put : length (link_to away_side fits.to.world) ≡ length (link_to away_side fits.from.world) + length fits.stored.sent =
      ap (λ (ps : List model.Packet). length ps) fits.stored.away ∙ length-append (link_to away_side fits.from.world) fits.stored.sent in
      let sent : length half.end.packets ≡ length fits.stored.sent = ap (λ (ps : List Packet). length ps) fits.stored.packets ∙ length-map fits.stored.sent (packet_of setting.schema) in
      let away = link-of setting fits.from link run-from away_side in
      let lying : length (packets_to away_side link) ≡ length (link_to away_side fits.from.world) =
      ap (λ (ps : List Packet). length ps) away.packets ∙ length-map (link_to away_side fits.from.world) (packet_of setting.schema) in
      let room = away.room in
      record { lines_fit = enough; packets_fit = omega (arith, most, put, sent, lying, room) }

  -- the link has room for what the half has stored
  pub hand-room : LinkHasRoom link (length half.end.lines) (other half.end.end.side) (length half.end.packets)
  hand-room = subst (λ (s : Side). LinkHasRoom link (length half.end.lines) (other s) (length half.end.packets)) (sym (side-at setting fits.to side half fits.come)) hand-room-at

  pub hands-away : (last : LinkView) → IsAppended link half.end.lines (other half.end.end.side) half.end.packets last → IsAppended link half.end.lines (other side) half.end.packets last
  hands-away last h = subst (λ (s : Side). IsAppended link half.end.lines (other s) half.end.packets last) (side-at setting fits.to side half fits.come) h

  kept : link_to side fits.to.world ≡ link_to side fits.from.world
  kept =
      let again : IsPlayedAgain setting side (own_choices side fits.stored.count) fits.from fits.to fits.from = play-again setting side fits.stored.count fits.from fits.to fits.from fits.stored.plays refl refl in
      let both : Some again.to ≡ Some fits.to = sym again.plays ∙ fits.stored.plays in
      let same : again.to ≡ fits.to = cc in
      ap (λ (s : RunState). link_to side s.world) (sym same) ∙ again.alike.kept

  module _ (last : LinkView) (appends : IsAppended link half.end.lines (other side) half.end.packets last) where
    own-link : Holds link side half.end.lines half.end.packets last → IsLinkOf setting fits.from side link → IsLinkOf setting fits.to side last
    own-link h l = record {
      packets = h.own ∙ l.packets ∙ ap (packets_of setting.schema) (sym kept);
      framed = subst (λ (ps : List model.Packet). AllByRecursion (IsFramed setting.schema) ps) (sym kept) l.framed;
      room = subst (λ (n : ℕ). room_of setting.limit ≤ n) (sym h.own_room) l.room;
    }

    away-link : Holds link side half.end.lines half.end.packets last → IsLinkOf setting fits.from (other side) link → IsLinkOf setting fits.to (other side) last
    away-link h l = record {
      packets =
          h.away ∙ ap (λ (ps : List Packet). ps ++ half.end.packets) l.packets ∙ ap (λ (ps : List Packet). packets_of setting.schema (link_to (other side) fits.from.world) ++ ps) fits.stored.packets
          ∙ sym (map-append (packet_of setting.schema) (link_to (other side) fits.from.world) fits.stored.sent) ∙ ap (packets_of setting.schema) (sym fits.stored.away);
      framed = subst (λ (ps : List model.Packet). AllByRecursion (IsFramed setting.schema) ps) (sym fits.stored.away) (all-append setting.schema (link_to (other side) fits.from.world) fits.stored.sent l.framed fits.stored.framed);
      room = subst (λ (n : ℕ). room_of setting.limit ≤ n) (sym h.away_room) l.room;
    }

    handed : IsRun setting fits.to last
    handed =
        let h = holds side link last half.end.lines half.end.packets appends in
        let links = both-links (λ (s : Side). IsLinkOf setting fits.to s last) side (own-link h (link-of setting fits.from link run-from side)) (away-link h (link-of setting fits.from link run-from (other side))) in
        let told : length last.lines ≡ length link.lines + length half.end.lines = ap (λ (ls : List Line). length ls) h.lines_are ∙ length-append link.lines half.end.lines in
        let spare = appends.spare in
        let room = home.room in
        let fit = enough in
        record {
          sound = home.sound;
          valid = home.valid;
          small = home.small;
          choices = fits.come.choices;
          plays = fits.come.plays;
          lines = h.lines_are ∙ sym (reached setting side link.lines half fits);
          room = omega (arith, told, spare, room, fit);
          to_parent = links.0;
          to_child = links.1;
        }

    told-to : state_of setting last.lines ≡ fits.to
    told-to = told-state setting fits.to last handed

    pub handed-home : IsHome setting last
    handed-home = subst (λ (s : RunState). IsRun setting s last) (sym told-to) handed

    -- the half has nothing left to append, and fits after the link
    pub handed-stands : (after : HalfView) → after ≡ appended half → StandsIn (seen_by setting last) side after last
    handed-stands after is =
        let emptied : IsHalfOf setting fits.to side (appended half) = record { about = fits.come.about; end = fits.come.end; no_lines = refl; no_packets = refl; counted = counted-appended half (progress_of side fits.to.lines) fits.come.counted } in
        record {
          run = handed-home;
          half_is = subst (IsHalfOf setting (state_of setting last.lines) side) (sym is) (subst (λ (s : RunState). IsHalfOf setting s side (appended half)) (sym told-to) emptied);
        }

    pub handed-fits : (after : HalfView) → after ≡ appended half → FitsAfter setting side last.lines after
    handed-fits after is = stands-fits setting side after last (handed-stands after is)

    plays-to : played setting (own_choices side fits.stored.count) (state_of setting link.lines) ≡ Some (state_of setting last.lines)
    plays-to =
        subst (λ (s : RunState). played setting (own_choices side fits.stored.count) s ≡ Some (state_of setting last.lines)) (sym at-home)
        (subst (λ (s : RunState). played setting (own_choices side fits.stored.count) fits.from ≡ Some s) (sym told-to) fits.stored.plays)

    -- and deliveries after that, which end a meeting
    pub has-met : (after : HalfView) (ends : LinkView) → StandsIn (seen_by setting ends) side after ends → Delivers setting side (state_of setting last.lines) (state_of setting ends.lines) → HasMet setting side half link after ends
    has-met after ends stands delivers = record {
      between = last;
      appends = appends;
      count = fits.stored.count;
      plays = plays-to;
      own = stored-own setting side link.lines half fits;
      delivers = delivers;
      lines =
          stands.run.lines ∙ delivers.following
          ∙ ap (λ (ls : List Line). ls ++ delivers.lines) (sym handed-home.lines ∙ (holds side link last half.end.lines half.end.packets appends).lines_are);
      home = stands.run;
      fits = stands-fits setting side after ends stands;
      emptied = (stands.half_is.no_lines, stands.half_is.no_packets);
    }

-- Deliveries, one after another

-- a packet waits for a half where its side may have one delivered
pub waits-is : (at : WorldView) (side : Side) (half : HalfView) (link : LinkView) → StandsIn at side half link → is_waited_for side half link ≡ may_deliver side at.state.world
waits-is at side half link stands =
    ap (λ (end : End). is_open end.state && is_some (first_of (packets_to side link))) stands.half_is.end
    ∙ ap (λ (ps : List Packet). is_open (end_of side at.state.world).state && is_some (first_of ps)) (link-of at.setting at.state link stands.run side).packets
    ∙ ap (λ (b : Bool). is_open (end_of side at.state.world).state && b) (first-some at.setting.schema (link_to side at.state.world))

-- Since a link was this one, deliveries to a side were made, and its half is on the link.
pub record DeliversSo (setting : Setting) (side : Side) (begun now : LinkView) (half : HalfView) : Type 0 where
  pub stands : StandsIn (seen_by setting now) side half now
  pub delivers : Delivers setting side (state_of setting begun.lines) (state_of setting now.lines)

module _ (setting : Setting) (side : Side) (begun now after : LinkView) (half last : HalfView) (so : DeliversSo setting side begun now half) where
  pub deliveries-go_on : DeliveryPlays (seen_by setting now) side half now answer.Did last after → DeliversSo setting side begun after last
  deliveries-go_on h =
      let choice : Choice = record { side = side; delivers = true } in
      let state : RunState = state_of setting now.lines in
      let told : state_of setting after.lines ≡ h.2.next = told-state setting h.2.next after h.2.stands.run in
      let alone : RanAlone side state h.2.next = one-alone setting choice state h.2.next h.2.is_chosen (run-sides setting so.stands.run.choices state so.stands.run.plays) in
      let d = so.delivers in
      let more : Delivers setting side (state_of setting begun.lines) h.2.next = record {
        count = d.count + 1;
        plays =
            subst (λ (cs : List Choice). played setting cs (state_of setting begun.lines) ≡ Some h.2.next) (replicate_more d.count choice)
            (played-last setting (deliveries_to side d.count) choice (state_of setting begun.lines) state h.2.next d.plays h.2.is_chosen);
        lines = d.lines ++ alone.lines;
        following = alone.following ∙ ap (λ (ls : List Line). ls ++ alone.lines) d.following ∙ append_assoc (state_of setting begun.lines).lines d.lines alone.lines;
        own = lines_of-append (other side) d.lines alone.lines ∙ ap (λ (ws : List What). ws ++ lines_of (other side) alone.lines) d.own ∙ alone.own;
      } in
      record {
        stands = subst (λ (s : RunState). StandsIn (record { setting = setting; state = s }) side last after) (sym told) h.2.stands;
        delivers = subst (λ (s : RunState). Delivers setting side (state_of setting begun.lines) s) (sym told) more;
      }

  pub deliveries-less : DeliveryPlays (seen_by setting now) side half now answer.Did last after → suc (left_of setting (state_of setting after.lines)) ≤ left_of setting (state_of setting now.lines)
  deliveries-less h =
      let state : RunState = state_of setting now.lines in
      let told : state_of setting after.lines ≡ h.2.next = told-state setting h.2.next after h.2.stands.run in
      subst (λ (s : RunState). suc (left_of setting s) ≤ left_of setting state) (sym told)
      (chosen-less setting state h.2.next (run-sides setting so.stands.run.choices state so.stands.run.plays) (record { choice = record { side = side; delivers = true }; is = h.2.is_chosen }))

  same-so : last ≡ half → after ≡ now → DeliversSo setting side begun after last
  same-so h l = subst (λ (v : HalfView). DeliversSo setting side begun after v) (sym h) (subst (λ (v : LinkView). DeliversSo setting side begun v half) (sym l) so)

  same-waits : (b : Bool) → last ≡ half → after ≡ now → may_deliver side (state_of setting now.lines).world ≡ b → is_waited_for side last after ≡ b
  same-waits b h l may = ap (λ (v : HalfView). is_waited_for side v after) h ∙ ap (λ (v : LinkView). is_waited_for side half v) l ∙ waits-is (seen_by setting now) side half now so.stands ∙ may

  pub deliveries-end : (a : StepAnswer) → (a ≡ answer.Did → ⊥) → DeliveryPlays (seen_by setting now) side half now a last after → DeliversSo setting side begun after last × DeliveriesEnd side a last after
  deliveries-end answer.Did isnt h = absurd (isnt refl)
  deliveries-end answer.Nothing isnt h = (same-so h.1.0 h.1.1, same-waits false h.1.0 h.1.1 h.0)
  deliveries-end (answer.Spent at) isnt h = (
    same-so h.3.0 h.3.1,
    (
      h.2,
      same-waits true h.3.0 h.3.1 h.0,
      ap (λ (v : HalfView). nat_lt v.counts.events v.limit) h.3.0 ∙ within-at setting (state_of setting now.lines) side half (stands-come (seen_by setting now) side half now so.stands) ∙ h.1,
    ),
  )
  deliveries-end answer.NoMemory isnt h = (same-so h.0 h.1, tt)
