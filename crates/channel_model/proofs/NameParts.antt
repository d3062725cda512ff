-- Names, answers, falls and closing as parts.
use Rattle.std.proofs.Common.{◌≡◌, ℕ, ℤ, Bool, true, false, not, cond, List, [], ◌∷◌, ◌++◌, map, Option, Some, None, option_and_then, refl, sym, ap, subst, ◌∙◌, append_assoc, is_some}
use Rattle.std.proofs.lemmas.List.{map-append, append-nil}
use Rattle.std.specs.List.{AllByRecursion}
use Rattle.ipdl_base.specs.declared.kinds.Destroy.{Destroy}
use Rattle.ipdl_base.specs.declared.kinds.Destroy.TheVariants.{NormalShutdown}
use Rattle.ipdl_base.specs.declared.kinds.EndState.TheVariants.{Dead}
use Rattle.ipdl_base.specs.declared.kinds.Reason.TheVariants.{ResolverDestroyed}
use Rattle.ipdl_base.specs.declared.kinds.SendRefusal.{SendRefusal}
use Rattle.ipdl_base.specs.declared.kinds.SendRefusal.TheVariants as refusal
use Rattle.ipdl_base.specs.declared.line.Line.{Line}
use Rattle.ipdl_base.specs.declared.line.What.{What}
use Rattle.ipdl_base.specs.declared.line.What.TheVariants as what
use Rattle.ipdl_base.specs.declared.schema.MessageRow.{MessageRow}
use Rattle.ipdl_base.specs.declared.schema.Schema.{Schema}
use Rattle.ipdl_base.specs.declared.value.Values.{Values}
use Rattle.nesting_core.specs.declared.frame.Answer.TheVariants as answer
use Rattle.nesting_core.specs.Frames.{has_wait}
use Rattle.channel_model.specs.Acts as act
use Rattle.channel_model.specs.Answers as answering
use Rattle.channel_model.specs.Ends.{End, Packet, message, mark, Naming, NameContent, actor, resolver, Resolver}
use Rattle.channel_model.specs.Events.{Answering, handled, kept}
use Rattle.channel_model.specs.Falls as fall
use Rattle.channel_model.specs.Names.{held_by_name, without_name, holding, renamed, let_go}
use Rattle.ipdl_base.specs.Sides.{top_id}
use Rattle.channel_model.specs.Outputs.{Output, Change, ◌▷◌, unchanged, when, on_end, line, put, is_open, is_closed, is_dead_end, resolver_answered, reply_to, answer_line, line_at}
use Rattle.channel_model.specs.Parts
use Rattle.channel_model.specs.Parts.{FirstPart, LaterParts, OwnParts, HoldsActor, IsRefusal, IsRenaming, IsSilent, after_outbox, reply_packet, fall_lines, abandoned_lines, abandoned_end, shut_end}
use Rattle.channel_model.specs.Phases.{Phase, nobody, deletion, quiet, renaming, shutting}
use Rattle.channel_model.specs.Sends as send
use Rattle.channel_model.proofs.Made.{Makes, made, made-as, made-nothing, made-later_at, made-later, made-joined, made-begun, made-alone}

-- packets go after the outbox
pub put-packets : (ps : List Packet) (e : End) (packet : Packet) → ps ++ map message e.outbox ++ packet ∷ [] ≡ ps ++ after_outbox e packet
put-packets ps e packet = append_assoc ps (map message e.outbox) (packet ∷ [])

-- What a name loses

abbrev fault_of : Resolver → Packet
fault_of r = reply_packet (resolver_answered r) (answer.Fault ResolverDestroyed)

abbrev fault : Resolver → Change
fault r = line (answer_line r.seq (answer.Fault ResolverDestroyed)) ▷ put (fault_of r)

abbrev losing : List ℕ → Change
losing name = on_end (λ e. record e { names = without_name name e.names })

abbrev letting : Option NameContent → List ℕ → Change
letting before name = losing name ▷ let_go before

abbrev gaining : List Naming → Change
gaining more = on_end (λ e. record e { names = e.names ++ more })

-- a phase in which no fall is due any more
abbrev pub done_phase : Phase → Phase
done_phase p = record p { due = nobody }

-- a phase in which a name has lost its content, or has not
abbrev pub renamed_phase : Bool → Phase → Phase
renamed_phase b p = record p { renames = b }

letting-resolver : (p : Phase) (name : List ℕ) (r : Resolver) (b : Bool) (o : Output) → p.renames ≡ true → held_by_name name o.end.names ≡ Some (resolver r) → is_open o.end.state ≡ b
    → Makes (LaterParts p o.end) (losing name ▷ when b (fault r)) o (renamed_phase false p)
letting-resolver p name r true o may is open_is =
    made-later p (renamed_phase false p) (losing name ▷ when true (fault r)) o (what.AnswerFault r.seq ResolverDestroyed ∷ []) (after_outbox o.end (fault_of r)) (Parts.lets_go name r may is open_is) refl (put-packets o.packets o.end (fault_of r)) refl
letting-resolver p name r false o may is open_is =
    made-later p (renamed_phase false p) (losing name ▷ when false (fault r)) o [] [] (Parts.unnames name may (subst (IsSilent o.end) (sym is) open_is)) (sym (append-nil o.lines)) (sym (append-nil o.packets)) refl

letting-made : (p : Phase) (name : List ℕ) (before : Option NameContent) (o : Output) → p.renames ≡ true → held_by_name name o.end.names ≡ before → Makes (LaterParts p o.end) (letting before name) o (renamed_phase false p)
letting-made p name None o may is =
    made-later p (renamed_phase false p) (letting None name) o [] [] (Parts.unnames name may (subst (IsSilent o.end) (sym is) tt)) (sym (append-nil o.lines)) (sym (append-nil o.packets)) refl
letting-made p name (Some (actor id)) o may is =
    made-later p (renamed_phase false p) (letting (Some (actor id)) name) o [] [] (Parts.unnames name may (subst (IsSilent o.end) (sym is) tt)) (sym (append-nil o.lines)) (sym (append-nil o.packets)) refl
letting-made p name (Some (resolver r)) o may is =
    let b : Bool = is_open o.end.state in
    made-as (LaterParts p o.end) (letting (Some (resolver r)) name) (losing name ▷ when b (fault r)) o (renamed_phase false p) refl (letting-resolver p name r b o may is refl)

-- a name gets an actor or no content

abbrev pub NoResolver : Option NameContent → Type 0
NoResolver None = Unit {0}
NoResolver (Some (actor id)) = Unit {0}
NoResolver (Some (resolver r)) = ⊥

holding-actor : (name : List ℕ) (holds : Option NameContent) → NoResolver holds → AllByRecursion HoldsActor (holding name holds)
holding-actor name None h = tt
holding-actor name (Some (actor id)) h = (tt, tt)
holding-actor name (Some (resolver r)) h = absurd h

pub renamed-made : (p : Phase) (name : List ℕ) (holds : Option NameContent) (o : Output) → p.renames ≡ true → NoResolver holds → Makes (LaterParts p o.end) (renamed name holds) o (renamed_phase false p)
renamed-made p name holds o may h =
    let before : Option NameContent = held_by_name name o.end.names in
    let more : List Naming = holding name holds in
    let q : Phase = renamed_phase false p in
    let lost : Output = letting before name o in
    made-as (LaterParts p o.end) (renamed name holds) (letting before name ▷ gaining more) o q refl
    (made-joined p q q (letting before name) (gaining more) o (letting-made p name before o may refl)
    (made-later q q (gaining more) lost [] [] (Parts.names more (holding-actor name holds h)) (sym (append-nil lost.lines)) (sym (append-nil lost.packets)) refl))

pub names_actor-made : (p : Phase) (id : ℤ) (name : Option (List ℕ)) (o : Output) → p.renames ≡ true → (b : Bool) × Makes (LaterParts p o.end) (send.names_actor id name) o (renamed_phase b p)
names_actor-made p id None o may = (p.renames, made-nothing p unchanged o refl)
names_actor-made p id (Some name) o may = (false, renamed-made p name (Some (actor id)) o may tt)

-- a new name leaves the actors unchanged

letting-actors : (name : List ℕ) (before : Option NameContent) (o : Output) → (letting before name o).end.actors ≡ o.end.actors
letting-actors name None o = refl
letting-actors name (Some (actor id)) o = refl
letting-actors name (Some (resolver r)) o = elim (is_open o.end.state) as (λ b. (when b (fault r) (losing name o)).end.actors ≡ o.end.actors) [ true ↦ refl | false ↦ refl ]

pub names_actor-actors : (id : ℤ) (name : Option (List ℕ)) (o : Output) → (send.names_actor id name o).end.actors ≡ o.end.actors
names_actor-actors id None o = refl
names_actor-actors id (Some name) o = letting-actors name (held_by_name name o.end.names) o

-- Keeps

abbrev keeping : ℤ → List Naming → Change
keeping seq more = on_end (λ e. record e { stack = answering.released seq e.stack; names = e.names ++ more })

-- a resolver is taken from its dispatch and given to a name, or is dropped at a closed end
giving-made : (p : Phase) (seq : ℤ) (name : List ℕ) (found : Resolver) (b : Bool) (o : Output) → answering.handled_resolver o.end seq ≡ Some found → is_closed o.end.state ≡ b
    → Makes (LaterParts p o.end) (keeping seq (holding name (cond b None (Some (resolver found))))) o p
giving-made p seq name found true o is closed =
    made-later_at p p (keeping seq []) o [] [] (record o.end { stack = answering.released seq o.end.stack }) (Parts.releases seq closed)
    (ap (λ (ns : List Naming). record o.end { stack = answering.released seq o.end.stack; names = ns }) (append-nil o.end.names)) (sym (append-nil o.lines)) (sym (append-nil o.packets)) refl
giving-made p seq name found false o is closed =
    made-later p p (keeping seq (record { name = name; holds = resolver found } ∷ [])) o [] [] (Parts.keeps seq name found is closed) (sym (append-nil o.lines)) (sym (append-nil o.packets)) refl

-- what a name loses does not change the stack and the state

letting-stack : (name : List ℕ) (before : Option NameContent) (o : Output) → (letting before name o).end.stack ≡ o.end.stack
letting-stack name None o = refl
letting-stack name (Some (actor id)) o = refl
letting-stack name (Some (resolver r)) o = elim (is_open o.end.state) as (λ b. (when b (fault r) (losing name o)).end.stack ≡ o.end.stack) [ true ↦ refl | false ↦ refl ]

letting-state : (name : List ℕ) (before : Option NameContent) (o : Output) → (letting before name o).end.state ≡ o.end.state
letting-state name None o = refl
letting-state name (Some (actor id)) o = refl
letting-state name (Some (resolver r)) o = elim (is_open o.end.state) as (λ b. (when b (fault r) (losing name o)).end.state ≡ o.end.state) [ true ↦ refl | false ↦ refl ]

-- the release of a stack may follow what a name loses
keep-later : (seq : ℤ) (name : List ℕ) (more : List Naming) (before : Option NameContent) (o : Output)
    → (letting before name ▷ keeping seq more) o ≡ (on_end (λ e. record e { stack = answering.released seq e.stack }) ▷ letting before name ▷ gaining more) o
keep-later seq name more None o = refl
keep-later seq name more (Some (actor id)) o = refl
keep-later seq name more (Some (resolver r)) o =
    elim (is_open o.end.state) as (λ b. (losing name ▷ when b (fault r) ▷ keeping seq more) o ≡ (on_end (λ e. record e { stack = answering.released seq e.stack }) ▷ losing name ▷ when b (fault r) ▷ gaining more) o) [ true ↦ refl | false ↦ refl ]

handled-later : (seq : ℤ) (name : List ℕ) (before : Option NameContent) (found : Resolver) (o : Output) → answering.handled_resolver o.end seq ≡ Some found → answering.handled_resolver (letting before name o).end seq ≡ Some found
handled-later seq name before found o is = ap (λ stack. answering.handled_resolver (record o.end { stack = stack }) seq) (letting-stack name before o) ∙ is

keep-named : (p : Phase) (e : End) (seq : ℤ) (name : List ℕ) (found : Resolver) (o : Output) → p.renames ≡ true → o.end ≡ e → answering.handled_resolver o.end seq ≡ Some found
    → Makes (LaterParts p o.end) (on_end (λ e. record e { stack = answering.released seq e.stack }) ▷ renamed name (answering.kept_by e found)) o (renamed_phase false p)
keep-named p e seq name found o may same is =
    let before : Option NameContent = held_by_name name o.end.names in
    let b : Bool = is_closed e.state in
    let more : List Naming = holding name (answering.kept_by e found) in
    let q : Phase = renamed_phase false p in
    made-as (LaterParts p o.end) (on_end (λ e. record e { stack = answering.released seq e.stack }) ▷ renamed name (answering.kept_by e found)) (letting before name ▷ keeping seq more) o q (keep-later seq name more before o)
    (made-joined p q q (letting before name) (keeping seq more) o (letting-made p name before o may refl)
    (giving-made q seq name found b (letting before name o) (handled-later seq name before found o is) (ap is_closed (letting-state name before o ∙ ap (λ (x : End). x.state) same))))

module _ (schema : Schema) where
  -- a line of a refusal, or a line after which a name gets a new content

  pub refusal-made : (w : What) (o : Output) → IsRefusal schema w → Makes (FirstPart schema o.end) (line w) o quiet
  refusal-made w o is = made (FirstPart schema o.end) (line w) o quiet (w ∷ []) [] (Parts.refuses w is) refl (sym (append-nil o.packets)) refl

  pub renaming-made : (w : What) (o : Output) → IsRenaming w → Makes (FirstPart schema o.end) (line w) o renaming
  renaming-made w o is = made (FirstPart schema o.end) (line w) o renaming (w ∷ []) [] (Parts.renames w is) refl (sym (append-nil o.packets)) refl

  pub keep-made : (e : End) (seq : ℤ) (name : List ℕ) (found : Option Resolver) (o : Output) → o.end ≡ e → answering.handled_resolver e seq ≡ found → is_some found ≡ true
      → Makes (OwnParts schema o.end) (line (what.Keep seq name) ▷ on_end (λ e. record e { stack = answering.released seq e.stack }) ▷ renamed name (option_and_then (answering.kept_by e) found)) o quiet
  keep-made e seq name None o same is n = cc
  keep-made e seq name (Some r) o same is n =
      let told : Output = line (what.Keep seq name) o in
      made-begun schema renaming quiet (line (what.Keep seq name)) (on_end (λ e. record e { stack = answering.released seq e.stack }) ▷ renamed name (answering.kept_by e r)) o (renaming-made (what.Keep seq name) o tt)
      (keep-named renaming e seq name r told refl same (ap (λ (x : End). answering.handled_resolver x seq) same ∙ is)) (refl, refl)

  -- Answers

  resolved-made : (e : End) (row : MessageRow) (by : Answering) (vs : Option Values) (r : Resolver) (o : Output) → o.end ≡ e → answering.answered_row schema e by ≡ Some row → answering.may_answer schema e row vs ≡ true → answering.answer_refusal schema e row by vs ≡ None → answering.resolver_used e by ≡ Some r
      → Makes (FirstPart schema o.end) (answering.resolved by vs r) o quiet
  resolved-made e row by vs r o same found may ok used = cases by part
    where
      reply : Packet
      reply = message (reply_to (resolver_answered r) (answering.answer_body vs))

      part : FirstPart schema o.end (answering.answering_line r.seq vs ∷ []) (after_outbox o.end reply) (record (answering.without_resolver by o.end) { outbox = [] }) quiet
      part = Parts.answers by vs r row (ap (λ (x : End). answering.answered_row schema x by) same ∙ found) (ap (λ (x : End). answering.may_answer schema x row vs) same ∙ may) (ap (λ (x : End). answering.answer_refusal schema x row by vs) same ∙ ok) (ap (λ (x : End). answering.resolver_used x by) same ∙ used)

      cases : (by : Answering) → FirstPart schema o.end (answering.answering_line r.seq vs ∷ []) (after_outbox o.end reply) (record (answering.without_resolver by o.end) { outbox = [] }) quiet → Makes (FirstPart schema o.end) (answering.resolved by vs r) o quiet
      cases (handled seq) part = made (FirstPart schema o.end) (answering.resolved (handled seq) vs r) o quiet (answering.answering_line r.seq vs ∷ []) (after_outbox o.end reply) part refl (put-packets o.packets o.end reply) refl
      cases (kept name number) part = made (FirstPart schema o.end) (answering.resolved (kept name number) vs r) o quiet (answering.answering_line r.seq vs ∷ []) (after_outbox o.end reply) part refl (put-packets o.packets o.end reply) refl

  refused-line : (cause : SendRefusal) (vs : Option Values) → IsRefusal schema (answering.refused_line cause vs)
  refused-line cause None = tt
  refused-line cause (Some vs) = tt

  pub answer-made : (e : End) (row : MessageRow) (by : Answering) (vs : Option Values) (cause : Option SendRefusal) (used : Option Resolver) (o : Output) → o.end ≡ e → answering.answered_row schema e by ≡ Some row → answering.may_answer schema e row vs ≡ true → answering.answer_refusal schema e row by vs ≡ cause → answering.resolver_used e by ≡ used
      → Makes (FirstPart schema o.end) (answering.answered_unless cause by vs used) o quiet
  answer-made e row by vs (Some cause) used o same found may ok is = refusal-made (answering.refused_line cause vs) o (refused-line cause vs)
  answer-made e row by vs None None o same found may ok is = refusal-made (answering.refused_line refusal.DeadActor vs) o (refused-line refusal.DeadActor vs)
  answer-made e row by vs None (Some r) o same found may ok is = resolved-made e row by vs r o same found may ok is

  -- Falls and closing

  pub deletes-made : (p : Phase) (id : ℤ) (o : Output) → p.due ≡ deletion id → Makes (LaterParts p o.end) (fall.deleted id) o (done_phase p)
  deletes-made p id o is = made-later p (done_phase p) (fall.deleted id) o (fall_lines id (fall.why_deleted id) o.end) [] (Parts.deletes id is) refl (sym (append-nil o.packets)) refl

  -- an end closes: what it drops may be dropped first
  pub closed-made : (why : Destroy) (begins : Change) (o : Output) → Makes (FirstPart schema o.end) (begins ▷ on_end shut_end) o (shutting why) → Makes (OwnParts schema o.end) (begins ▷ fall.closed why) o (done_phase (shutting why))
  closed-made why begins o h =
      let p : Phase = shutting why in
      let q : Phase = done_phase p in
      let rest : Change = fall.abandoned ▷ fall.fallen top_id (λ id. why) in
      let f : Output = (begins ▷ on_end shut_end) o in
      let told : List What = abandoned_lines f.end in
      let fell : List What = fall_lines top_id (λ id. why) (abandoned_end f.end) in
      made-as (OwnParts schema o.end) (begins ▷ fall.closed why) ((begins ▷ on_end shut_end) ▷ rest) o q refl
      (made-begun schema p q (begins ▷ on_end shut_end) rest o h
      (made-later p q rest f (told ++ fell) [] (Parts.falls why refl)
      (append_assoc f.lines (map (line_at f.end.side) told) (map (line_at f.end.side) fell) ∙ ap (λ (ls : List Line). f.lines ++ ls) (sym (map-append (line_at f.end.side) told fell))) (sym (append-nil f.packets)) refl) (refl, refl))

  second_test : {A : Type 0} (a b : Bool) (x y : A) → cond (not a) (Some x) (cond b (Some y) None) ≡ None → (a ≡ true) × (b ≡ false)
  second_test true false x y e = (refl, refl)
  second_test true true x y e = cc
  second_test false b x y e = cc

  pub close-made : (cause : Option SendRefusal) (o : Output) → act.close_refusal o.end ≡ cause → (q : Phase) × Makes (OwnParts schema o.end) (act.close_unless cause) o q
  close-made (Some cause) o is = (quiet, made-alone schema quiet (line (what.RefusedClose cause)) o (refusal-made (what.RefusedClose cause) o tt) (refl, refl))
  close-made None o is =
      let begins : Change = line what.Close ▷ put (message act.goodbye) in
      let q : Phase = done_phase (shutting NormalShutdown) in
      let both = second_test (is_open o.end.state) (has_wait (send.frames_of o.end)) refusal.Closed refusal.InCall is in (
        q,
        made-as (OwnParts schema o.end) (act.close_unless None) (begins ▷ fall.closed NormalShutdown) o q refl
            (closed-made NormalShutdown begins o
            (made (FirstPart schema o.end) (begins ▷ on_end shut_end) o (shutting NormalShutdown) (what.Close ∷ []) (after_outbox o.end (message act.goodbye)) (Parts.closes both.0 both.1) refl (put-packets o.packets o.end (message act.goodbye)) refl)),
      )

  abbrev leaving : Change
  leaving = on_end (λ e. record e { state = Dead; stack = []; arrived = [] })

  dies-at : (b : Bool) (o : Output) → is_open o.end.state ≡ b → is_dead_end o.end.state ≡ false → Makes (FirstPart schema o.end) (line what.Die ▷ when b (put mark) ▷ leaving) o quiet
  dies-at true o is alive = made (FirstPart schema o.end) (line what.Die ▷ when true (put mark) ▷ leaving) o quiet (what.Die ∷ []) (after_outbox o.end mark) (Parts.dies is) refl (put-packets o.packets o.end mark) refl
  dies-at false o is alive = made (FirstPart schema o.end) (line what.Die ▷ when false (put mark) ▷ leaving) o quiet (what.Die ∷ []) [] (Parts.dies_silent is alive) refl (sym (append-nil o.packets)) refl

  pub die-made : (o : Output) → is_dead_end o.end.state ≡ false → Makes (FirstPart schema o.end) act.die o quiet
  die-made o alive = made-as (FirstPart schema o.end) act.die (line what.Die ▷ when (is_open o.end.state) (put mark) ▷ leaving) o quiet refl (dies-at (is_open o.end.state) o refl alive)
