-- The answers that are effects of events: those of drops and returns, and of names that get a new content.
use Rattle.std.proofs.Common.{◌≡◌, inl, inr, ℕ, ℤ, pos, Bool, true, false, not, ◌&&◌, if◌then◌else◌, IsTrue, List, [], ◌∷◌, ◌++◌, Contains, map, Option, Some, None, refl, sym, ap, subst, ◌∙◌}
use Rattle.std.specs.List.{AllByRecursion}
use Rattle.std.specs.Option.{option_map_or}
use Rattle.std.proofs.lemmas.Bool.{and_right, true_from_ne_false}
use Rattle.std.proofs.lemmas.List.Elements.{All-contains, All-from_recursion}
use Rattle.std.proofs.lemmas.Option.{same_Some}
use Rattle.ipdl_base.specs.declared.kinds.Reason.TheVariants as reason
use Rattle.ipdl_base.specs.declared.kinds.Side.{Side}
use Rattle.ipdl_base.specs.declared.line.Line.{Line}
use Rattle.ipdl_base.specs.declared.line.What.{What}
use Rattle.ipdl_base.specs.declared.line.What.TheVariants as what
use Rattle.ipdl_base.specs.declared.schema.MessageRow.{MessageRow}
use Rattle.ipdl_base.specs.declared.schema.Schema.{Schema}
use Rattle.ipdl_base.specs.Lines.{is_effect}
use Rattle.ipdl_base.specs.Sound.{message_of}
use Rattle.nesting_core.specs.declared.frame.Answer.{Answer}
use Rattle.nesting_core.specs.declared.frame.Answer.TheVariants as answer
use Rattle.nesting_core.specs.declared.frame.StackFrame.{StackFrame}
use Rattle.nesting_core.specs.declared.frame.StackFrame.TheVariants.{Dispatch, Wait}
use Rattle.nesting_core.specs.Frames.{head_of, is_dispatch}
use Rattle.channel_model.specs.Acts.{is_positive}
use Rattle.channel_model.specs.Answers as answering
use Rattle.channel_model.specs.Ends.{End, Packet, StackEntry}
use Rattle.channel_model.specs.Events.{Event}
use Rattle.channel_model.specs.Events as event
use Rattle.channel_model.specs.Names.{held_by_name}
use Rattle.channel_model.specs.Numbers.{is_sync_row}
use Rattle.channel_model.specs.Outputs as outputs
use Rattle.channel_model.specs.Outputs.{Output, line_at, resolver_answered}
use Rattle.channel_model.specs.Parts.{reply_lines}
use Rattle.channel_model.specs.Returns as return
use Rattle.channel_model.specs.Steps.{step}
use Rattle.channel_laws.specs.Notes.{In, here, there}
use Rattle.channel_laws.proofs.Rows.{request-message}
use Rattle.history_reading.specs.declared.parts.CallFrame.{CallFrame}
use Rattle.history_reading.specs.declared.parts.CallFrame.TheVariants as frame
use Rattle.history_reading.specs.declared.parts.HandledRequest.{HandledRequest}
use Rattle.history_reading.specs.Numbers.{has}
use Rattle.history_reading.specs.Rows as rows
use Rattle.history_reading.specs.Rows.{is_sync_number, wants_number}
use Rattle.law_statements.specs.Said.{line_of, said_by}
use Rattle.law_statements.specs.Stack.{stack}
use Rattle.order_laws.specs.DueEffects.{let_go_lines}
use Rattle.order_laws.proofs.DueEffects.{due_answers_are_given}
use Rattle.order_statements.specs.Effects.{IsReturned, fault_due, has_resolver, name_given}
use Rattle.order_statements.specs.Shape.{HasEffects, answered, is_open, is_open_by, kept, owes_reply}
use Rattle.order_statements.proofs.Dropping.{drop-effects, open-same}
use Rattle.order_statements.proofs.FirstLines.{IsLineOf, line-of-event}
use Rattle.order_statements.proofs.KeptSteps.{EventsAreKept, KeptStep}
use Rattle.order_statements.proofs.Places.{EventIn}
use Rattle.order_statements.proofs.Resolvers.{AllHaveOrSpent, HasOrSpent, IsSpent, ResolversAreTold}
use Rattle.order_statements.proofs.Returning.{Returned, answer-returned, dispatch-read, request_handled, return-effects}
use Rattle.order_statements.proofs.StepLines.{said-same}
use Rattle.order_statements.proofs.Tells.{EndTells, EventsAreTold, TellingStep}

-- Returns

-- the dispatch on top of a stack whose frames all have a property
pub top-entry : (P : StackEntry → Type 0) (stack : List StackEntry) (entry : StackEntry) → return.dispatch_on_top stack ≡ Some entry → AllByRecursion P stack → P entry × (is_dispatch entry.frame ≡ true)
top-entry P [] entry e h = cc
top-entry P (x ∷ xs) entry e h = by x.frame refl e
  where
    by : (f : StackFrame) → x.frame ≡ f → elim f [ Dispatch head ↦ Some x | Wait head a ↦ None ] ≡ Some entry → P entry × (is_dispatch entry.frame ≡ true)
    by (Dispatch head) is k =
        let same : x ≡ entry = same_Some x entry k in
        (subst P same h.0, ap (λ (y : StackEntry). is_dispatch y.frame) (sym same) ∙ ap is_dispatch is)
    by (Wait head a) is k = cc

spent-not : {A : Type 0} (said : List What) (n : ℤ) → IsSpent said n → has (answered said) n ≡ false → has (kept said) n ≡ false → A
spent-not said n (inl h) a k = let z : true ≡ false = sym h ∙ a in cc
spent-not said n (inr h) a k = let z : true ≡ false = sym h ∙ k in cc

-- what follows if a resolver is there
parts-of : (opened wants used stays : Bool) → opened && (wants && (if used then false else (if stays then false else true))) ≡ true → (opened ≡ true) × (wants ≡ true) × (used ≡ false) × (stays ≡ false)
parts-of true true false false h = (refl, refl, refl, refl)
parts-of true true false true h = cc
parts-of true true true stays h = cc
parts-of true false used stays h = cc
parts-of false wants used stays h = cc

module _ (schema : Schema) (e : End) (end : Side) (before : List Line) (tells : EndTells schema e end before) (d : HandledRequest) (below : List CallFrame) (on_top : stack schema end before ≡ frame.Dispatch d ∷ below)
    (n : ℤ) (effects : List What) (is : Returned schema e n effects) (following : List Line) (has_them : HasEffects end effects following) where
  request : request_handled is.entry ≡ d
  request = dispatch-read (stack schema end before) e.stack d below is.entry on_top tells.frames is.on_top

  row_is : message_of schema d.number ≡ Some is.row
  row_is = ap (λ (r : HandledRequest). message_of schema r.number) (sym request) ∙ request-message schema is.entry.number is.row is.found

  opened-same : is_open_by (said_by end before) ≡ outputs.is_open e.state
  opened-same = ap is_open tells.state ∙ open-same e.state

  -- the answer to a sync request
  sync-answered : IsTrue (is_open_by (said_by end before) && is_sync_number schema d.number) → (w : What) × (more : List What) × IsReturned d.seq w × HasEffects end (w ∷ more) following
  sync-answered h =
      let given : Answer = return.return_answer schema e is.row is.entry is.values in
      let loses : List What = reply_lines (outputs.is_open e.state && is.entry.resolves) (resolver_answered (answering.resolver_in is.entry)) (answer.Fault reason.ResolverDestroyed) ++ is.later in
      let told : outputs.is_open e.state && is_sync_row is.row ≡ true =
      ap (λ (b : Bool). b && is_sync_row is.row) (sym opened-same) ∙ (ap (λ (o : Option MessageRow). is_open_by (said_by end before) && option_map_or rows.is_sync_row o false) (sym row_is) ∙ h) in
      let seq : (head_of is.entry.frame).seq ≡ d.seq = ap (λ (r : HandledRequest). r.seq) request in
      let are : effects ≡ outputs.answer_line d.seq given ∷ loses =
      is.are ∙ (ap (λ (b : Bool). reply_lines b (return.dispatch_answered is.entry) given ++ loses) told ∙ ap (λ (k : ℤ). outputs.answer_line k given ∷ loses) seq) in
      (outputs.answer_line d.seq given, loses, answer-returned schema e is.row is.entry d.seq is.values, subst (λ (ws : List What). HasEffects end ws following) are has_them)

  -- a resolver that is still there
  destroyed-answered : AllHaveOrSpent schema (said_by end before) e.stack → IsTrue (has_resolver schema (said_by end before) d) → (more : List What) × HasEffects end (what.AnswerFault d.seq reason.ResolverDestroyed ∷ more) following
  destroyed-answered stands h =
      let given : Answer = return.return_answer schema e is.row is.entry is.values in
      let p = parts-of (is_open_by (said_by end before)) (wants_number schema d.number) (has (answered (said_by end before)) d.seq) (has (kept (said_by end before)) d.seq) h in
      let seq : (head_of is.entry.frame).seq ≡ d.seq = ap (λ (r : HandledRequest). r.seq) request in
      let top = top-entry (HasOrSpent schema (said_by end before)) e.stack is.entry is.on_top stands in
      let wants : wants_number schema is.entry.number ≡ true = ap (λ (r : HandledRequest). wants_number schema r.number) request ∙ p.1 in
      let opened : outputs.is_open e.state ≡ true = sym opened-same ∙ p.0 in
      let resolves : is.entry.resolves ≡ true = true_from_ne_false is.entry.resolves (λ used. spent-not (said_by end before) (head_of is.entry.frame).seq (top.0 top.1 wants used) (ap (has (answered (said_by end before))) seq ∙ p.2) (ap (has (kept (said_by end before))) seq ∙ p.3)) in
      let async : is_sync_row is.row ≡ false = async-row (is_sync_row is.row) _ (ap (λ (o : Option MessageRow). option_map_or rows.wants_row o false) (sym row_is) ∙ p.1) in
      let told : outputs.is_open e.state && is_sync_row is.row ≡ false = and_right (outputs.is_open e.state) (is_sync_row is.row) async in
      let lost : outputs.is_open e.state && is.entry.resolves ≡ true = ap (λ (b : Bool). b && is.entry.resolves) opened ∙ resolves in
      let are : effects ≡ what.AnswerFault d.seq reason.ResolverDestroyed ∷ is.later =
      is.are
      ∙ (ap (λ (b : Bool). reply_lines b (return.dispatch_answered is.entry) given ++ (reply_lines (outputs.is_open e.state && is.entry.resolves) (resolver_answered (answering.resolver_in is.entry)) (answer.Fault reason.ResolverDestroyed) ++ is.later)) told
      ∙ (ap (λ (b : Bool). reply_lines b (resolver_answered (answering.resolver_in is.entry)) (answer.Fault reason.ResolverDestroyed) ++ is.later) lost
      ∙ ap (λ (k : ℤ). what.AnswerFault k reason.ResolverDestroyed ∷ is.later) seq)) in
      (is.later, subst (λ (ws : List What). HasEffects end ws following) are has_them)
    where
      async-row : (s r : Bool) → not s && r ≡ true → s ≡ false
      async-row true r h = cc
      async-row false r h = refl

-- Names

contains-in : {A : Type 0} (xs : List A) (x : A) → Contains xs x → In x xs
contains-in {A} xs x c = All-contains (λ y. In y xs) xs x (All-from_recursion (λ y. In y xs) xs (each xs (λ y i. i))) c
  where
    each : (ys : List A) → ((y : A) → In y ys → In y xs) → AllByRecursion (λ y. In y xs) ys
    each [] f = tt
    each (y ∷ ys) f = (f y here, each ys (λ z i. f z (there i)))

-- what is printed when a name gets a new content

kept-effects : (schema : Schema) (e : End) (link : List Packet) (ev : Event) (output : Output) (end : Side) (n : ℤ) (name : List ℕ) (effects : List What) → step schema e link ev ≡ Some output → output.lines ≡ map (line_of end) (what.Keep n name ∷ effects) → IsLineOf ev (what.Keep n name)
    → effects ≡ let_go_lines (outputs.is_open e.state) (held_by_name name e.names)
kept-effects schema e link (event.keep seq given) output end n name effects is at line =
    let lost : List What = let_go_lines (outputs.is_open e.state) (held_by_name given e.names) in
    let same : what.Keep seq given ∷ lost ≡ what.Keep n name ∷ effects = said-same e.side end (what.Keep seq given ∷ lost) (what.Keep n name ∷ effects) (sym (due_answers_are_given.keeps schema e link seq given output is).said ∙ at) in
    let rest : lost ≡ effects = cc in
    let named : given ≡ name = cc in
    sym rest ∙ ap (λ (x : List ℕ). let_go_lines (outputs.is_open e.state) (held_by_name x e.names)) named
kept-effects schema e link _ output end n name effects is at line = absurd line

let-effects : (schema : Schema) (e : End) (link : List Packet) (ev : Event) (output : Output) (end : Side) (name : List ℕ) (id : ℤ) (effects : List What) → step schema e link ev ≡ Some output → output.lines ≡ map (line_of end) (what.Let name id ∷ effects) → IsLineOf ev (what.Let name id)
    → effects ≡ let_go_lines (outputs.is_open e.state) (held_by_name name e.names)
let-effects schema e link (event.name given to) output end name id effects is at line =
    let lost : List What = let_go_lines (outputs.is_open e.state) (held_by_name given e.names) in
    let shown : ℤ = if is_positive to then to else pos 0 in
    let same : what.Let given shown ∷ lost ≡ what.Let name id ∷ effects = said-same e.side end (what.Let given shown ∷ lost) (what.Let name id ∷ effects) (sym (due_answers_are_given.names schema e link given to output is).said ∙ at) in
    let rest : lost ≡ effects = cc in
    let named : given ≡ name = cc in
    sym rest ∙ ap (λ (x : List ℕ). let_go_lines (outputs.is_open e.state) (held_by_name x e.names)) named
let-effects schema e link _ output end name id effects is at line = absurd line

renamed-effects : (schema : Schema) (e : End) (link : List Packet) (ev : Event) (output : Output) → step schema e link ev ≡ Some output → (end : Side) (w : What) (effects : List What) → output.lines ≡ map (line_of end) (w ∷ effects)
    → (name : List ℕ) → name_given w ≡ Some name → effects ≡ let_go_lines (outputs.is_open e.state) (held_by_name name e.names)
renamed-effects schema e link ev output is end (what.Keep n given) effects at name shown =
    let same : given ≡ name = same_Some given name shown in
    kept-effects schema e link ev output end n given effects is at (line-of-event schema e link ev output end (what.Keep n given) effects is at) ∙ ap (λ (x : List ℕ). let_go_lines (outputs.is_open e.state) (held_by_name x e.names)) same
renamed-effects schema e link ev output is end (what.Let given id) effects at name shown =
    let same : given ≡ name = same_Some given name shown in
    let-effects schema e link ev output end given id effects is at (line-of-event schema e link ev output end (what.Let given id) effects is at) ∙ ap (λ (x : List ℕ). let_go_lines (outputs.is_open e.state) (held_by_name x e.names)) same
renamed-effects schema e link ev output is end _ effects at name shown = cc

-- a line that gives a name is not an effect
naming-event : (w : What) (name : List ℕ) → name_given w ≡ Some name → is_effect w ≡ false
naming-event (what.Keep n given) name shown = refl
naming-event (what.Let given id) name shown = refl
naming-event _ name shown = cc

module _ (schema : Schema) (lines : List Line) where
  -- Drops

  pub drops-told : EventsAreTold schema lines → (end : Side) (n route : ℤ) (number : ℕ) (id : ℤ) (before following : List Line) → lines ≡ before ++ line_of end (what.Drop n route number id) ∷ following
      → HasEffects end (fault_due (is_open_by (said_by end before) && owes_reply schema number) n reason.ActorDestroyed) following
  drops-told told end n route number id before following at =
      let i : EventIn (TellingStep schema end) end (what.Drop n route number id) before following = told end (what.Drop n route number id) before following refl at in
      let are : i.effects ≡ fault_due (is_open i.by.e.state && owes_reply schema number) n reason.ActorDestroyed = drop-effects schema i.by.e i.by.link i.by.happened i.output i.by.made end n route number id i.effects i.lines in
      subst (λ (ws : List What). HasEffects end ws following) (are ∙ ap (λ (s : _). fault_due (is_open s && owes_reply schema number) n reason.ActorDestroyed) (sym i.by.tells.state)) i.has

  -- Returns

  pub returns-sync : EventsAreTold schema lines → (end : Side) (n : ℤ) (d : HandledRequest) (below : List CallFrame) (before following : List Line) → lines ≡ before ++ line_of end (what.Return n) ∷ following → stack schema end before ≡ frame.Dispatch d ∷ below
      → IsTrue (is_open_by (said_by end before) && is_sync_number schema d.number) → (w : What) × (more : List What) × IsReturned d.seq w × HasEffects end (w ∷ more) following
  returns-sync told end n d below before following at top =
      let i : EventIn (TellingStep schema end) end (what.Return n) before following = told end (what.Return n) before following refl at in
      sync-answered schema i.by.e end before i.by.tells d below top n i.effects (return-effects schema i.by.e i.by.link i.by.happened i.output i.by.made end n i.effects i.lines) following i.has

  pub returns-destroyed : EventsAreKept schema (ResolversAreTold schema) lines → (end : Side) (n : ℤ) (d : HandledRequest) (below : List CallFrame) (before following : List Line) → lines ≡ before ++ line_of end (what.Return n) ∷ following → stack schema end before ≡ frame.Dispatch d ∷ below
      → IsTrue (has_resolver schema (said_by end before) d) → (more : List What) × HasEffects end (what.AnswerFault d.seq reason.ResolverDestroyed ∷ more) following
  returns-destroyed told end n d below before following at top h =
      let i : EventIn (KeptStep schema (ResolversAreTold schema) end) end (what.Return n) before following = told end (what.Return n) before following refl at in
      let p = parts-of (is_open_by (said_by end before)) (wants_number schema d.number) (has (answered (said_by end before)) d.seq) (has (kept (said_by end before)) d.seq) h in
      let opened : outputs.is_open i.by.e.state ≡ true = sym (ap is_open i.by.tells.state ∙ open-same i.by.e.state) ∙ p.0 in
      destroyed-answered schema i.by.e end before i.by.tells d below top n i.effects (return-effects schema i.by.e i.by.link i.by.happened i.output i.by.made end n i.effects i.lines) following i.has (i.by.kept opened).0 h

  -- Names

  pub renames-told : EventsAreKept schema (ResolversAreTold schema) lines → (end : Side) (w : What) (name : List ℕ) (n : ℤ) (before following : List Line) → lines ≡ before ++ line_of end w ∷ following → name_given w ≡ Some name → IsTrue (is_open_by (said_by end before))
      → Contains (said_by end before) (what.Keep n name) → has (answered (said_by end before)) n ≡ false → HasEffects end (what.AnswerFault n reason.ResolverDestroyed ∷ []) following
  renames-told told end w name n before following at shown opens keeps unused =
      let i : EventIn (KeptStep schema (ResolversAreTold schema) end) end w before following = told end w before following (naming-event w name shown) at in
      let opened : outputs.is_open i.by.e.state ≡ true = sym (ap is_open i.by.tells.state ∙ open-same i.by.e.state) ∙ opens in
      let held = (i.by.kept opened).1 n name (contains-in (said_by end before) (what.Keep n name) keeps) unused in
      let are : i.effects ≡ what.AnswerFault n reason.ResolverDestroyed ∷ [] =
      renamed-effects schema i.by.e i.by.link i.by.happened i.output i.by.made end w i.effects i.lines name shown
      ∙ (ap (λ (b : Bool). let_go_lines b (held_by_name name i.by.e.names)) opened
      ∙ (ap (let_go_lines true) held.1 ∙ ap (λ (k : ℤ). what.AnswerFault k reason.ResolverDestroyed ∷ []) held.2)) in
      subst (λ (ws : List What). HasEffects end ws following) are i.has
