-- While an end is open, the lines show where the resolvers are: a dispatch has its own until it is used or kept, and
-- a name under which a resolver was kept has it until it is used.
use Rattle.std.proofs.Common.{◌≡◌, ◌⊎◌, inl, inr, ℕ, ◌+◌, ℤ, pos, Bool, true, false, not, ◌&&◌, ◌||◌, if◌then◌else◌, cond, int_eq, List, [], ◌∷◌, ◌++◌, drop, find, map, Option, Some, None, is_some, option_and_then, option_map, refl, sym, ap, subst, append_assoc, ◌∙◌}
use Rattle.std.specs.List.{AllByRecursion}
use Rattle.std.specs.Option.{option_map_or}
use Rattle.std.specs.Str.{bytes_eq}
use Rattle.std.proofs.lemmas.Bool.{cases_Bool, false≢true, or_from, or_left, or_parts, or_right}
use Rattle.std.proofs.lemmas.Bool.Decides.{Decides-int_eq}
use Rattle.std.proofs.lemmas.List.{append-nil, append_cancel_left, map-append}
use Rattle.std.proofs.lemmas.Option.{same_Some}
use Rattle.std.proofs.lemmas.Slice.Eq.{bytes_eq-Decides}
use Rattle.ipdl_base.specs.declared.kinds.EndState.{EndState}
use Rattle.ipdl_base.specs.declared.kinds.EndState.TheVariants.{Open, Draining, Closed, Dead}
use Rattle.ipdl_base.specs.declared.kinds.Reason.TheVariants.{ActorDestroyed, ResolverDestroyed}
use Rattle.ipdl_base.specs.declared.kinds.SendRefusal.{SendRefusal}
use Rattle.ipdl_base.specs.declared.kinds.Side.{Side}
use Rattle.ipdl_base.specs.declared.line.Line.{Line}
use Rattle.ipdl_base.specs.declared.line.What.{What}
use Rattle.ipdl_base.specs.declared.line.What.TheVariants as what
use Rattle.ipdl_base.specs.declared.message.Body.{Body}
use Rattle.ipdl_base.specs.declared.message.Body.TheVariants.{Request, Reply, Fault, Goodbye}
use Rattle.ipdl_base.specs.declared.message.Message.{Message}
use Rattle.ipdl_base.specs.declared.schema.Kind.{Kind}
use Rattle.ipdl_base.specs.declared.schema.Kind.TheVariants.{Normal, Constructor, Delete}
use Rattle.ipdl_base.specs.declared.schema.MessageRow.{MessageRow}
use Rattle.ipdl_base.specs.declared.schema.Schema.{Schema}
use Rattle.ipdl_base.specs.declared.value.Values.{Values}
use Rattle.ipdl_base.specs.Sound.{message_of}
use Rattle.nesting_core.specs.declared.frame.Answer.{Answer}
use Rattle.nesting_core.specs.declared.frame.Answer.TheVariants as answer
use Rattle.nesting_core.specs.declared.frame.StackFrame.{StackFrame}
use Rattle.nesting_core.specs.declared.frame.StackFrame.TheVariants.{Dispatch, Wait}
use Rattle.nesting_core.specs.Answers.{with_answer}
use Rattle.nesting_core.specs.Frames.{head_of, is_dispatch}
use Rattle.pending_queue.specs.declared.item.Item.{Item}
use Rattle.pending_queue.specs.declared.item.Item.TheVariants as item
use Rattle.promise_table.specs.declared.promise.Outcome.{Outcome}
use Rattle.promise_table.specs.declared.promise.Outcome.TheVariants.{Resolved, Rejected}
use Rattle.channel_model.specs.Acts as acts
use Rattle.channel_model.specs.Answers as answers
use Rattle.channel_model.specs.Answers.{has_resolver, resolver_in, released}
use Rattle.channel_model.specs.Deliveries as delivery
use Rattle.channel_model.specs.Ends.{End, Packet, message, mark, StackEntry, Naming, NameContent, actor, resolver, Resolver}
use Rattle.channel_model.specs.Events.{Event, Answering, handled, kept}
use Rattle.channel_model.specs.Events as event
use Rattle.channel_model.specs.Falls as falls
use Rattle.channel_model.specs.Names.{has_name, held_by_name, without_name, let_go, holding, renamed}
use Rattle.channel_model.specs.Numbers.{counting, request_row, is_sync_row, makes_promise}
use Rattle.channel_model.specs.Outputs.{Output, Change, AnsweredRequest, beginning, is_open, is_closed, unchanged, ◌▷◌, when, on_end, line, lines, line_at, put, answered, answer_line, request_answered, resolver_answered, reply_to, body_of}
use Rattle.channel_model.specs.Parts.{left_end}
use Rattle.channel_model.specs.Returns as returns
use Rattle.channel_model.specs.Sends as sends
use Rattle.channel_model.specs.Steps.{first_packet, provided, step}
use Rattle.channel_model.specs.Takes as takes
use Rattle.channel_model.specs.ValueActors.{nulled, received}
use Rattle.channel_model.proofs.Known.{all-append}
use Rattle.channel_model.proofs.Provided.{provided-gives, found-gives}
use Rattle.channel_model.proofs.Tests.{and-right}
use Rattle.channel_laws.specs.Notes.{In, here, there}
use Rattle.channel_laws.proofs.Answering.{used-held}
use Rattle.channel_laws.proofs.Growing.{in-all}
use Rattle.channel_laws.proofs.Origins.{found-passes}
use Rattle.channel_laws.proofs.PartLines.{FallsHave, falls-have}
use Rattle.history_reading.specs.Numbers.{has}
use Rattle.history_reading.specs.Rows.{wants_number, wants_row}
use Rattle.order_statements.specs.Shape.{kept as kept_numbers, number_answered, number_kept}
use Rattle.order_statements.specs.Shape as shape
use Rattle.order_statements.proofs.KeptAlong.{EveryStepKeeps}
use Rattle.order_statements.proofs.Handling.{same-entries}
use Rattle.order_statements.proofs.LateReplies.{has-append}
use Rattle.order_statements.proofs.Places.{whats}

whats-of : (s : Side) (ws : List What) → whats (map (line_at s) ws) ≡ ws
whats-of s [] = refl
whats-of s (w ∷ ws) = ap (λ (xs : List What). w ∷ xs) (whats-of s ws)

-- an element of two lists is in the first or in the second
in-parts : {A : Type 0} {x : A} (xs ys : List A) → In x (xs ++ ys) → In x xs ⊎ In x ys
in-parts [] ys i = inr i
in-parts (y ∷ xs) ys here = inl here
in-parts (y ∷ xs) ys (there i) = elim (in-parts xs ys i) [ inl j ↦ inl (there j) | inr j ↦ inr j ]

-- a line that keeps no resolver
abbrev IsUnkept : What → Type 0
IsUnkept w = number_kept w ≡ None

-- Stacks

-- the resolver of a request was used, or kept
abbrev pub IsSpent : List What → ℤ → Type 0
IsSpent said n = (has (shape.answered said) n ≡ true) ⊎ (has (kept_numbers said) n ≡ true)

spent-more : (said more : List What) (n : ℤ) → IsSpent said n → IsSpent (said ++ more) n
spent-more said more n (inl h) = inl (has-append number_answered said more n ∙ or_left (has (shape.answered said) n) (has (shape.answered more) n) h)
spent-more said more n (inr h) = inr (has-append number_kept said more n ∙ or_left (has (kept_numbers said) n) (has (kept_numbers more) n) h)

-- a dispatch whose request makes a promise has its resolver, or the resolver is spent
abbrev pub HasOrSpent : Schema → List What → StackEntry → Type 0
HasOrSpent schema said entry = is_dispatch entry.frame ≡ true → wants_number schema entry.number ≡ true → entry.resolves ≡ false → IsSpent said (head_of entry.frame).seq

abbrev pub AllHaveOrSpent : Schema → List What → List StackEntry → Type 0
AllHaveOrSpent schema said stack = AllByRecursion (HasOrSpent schema said) stack

-- the content of a name under which a resolver was kept that was not used
abbrev pub NamesHold : List What → List Naming → Type 0
NamesHold said names = (n : ℤ) (name : List ℕ) → In (what.Keep n name) said → has (shape.answered said) n ≡ false → (r : Resolver) × (held_by_name name names ≡ Some (resolver r)) × (r.seq ≡ n)

abbrev pub ResolversAreTold : Schema → End → List What → Type 0
ResolversAreTold schema e said = is_open e.state ≡ true → AllHaveOrSpent schema said e.stack × NamesHold said e.names

module _ (schema : Schema) where
  stack-more : (said more : List What) (stack : List StackEntry) → AllHaveOrSpent schema said stack → AllHaveOrSpent schema (said ++ more) stack
  stack-more said more [] h = tt
  stack-more said more (x ∷ xs) h = ((λ dispatch wants used. spent-more said more (head_of x.frame).seq (h.0 dispatch wants used)), stack-more said more xs h.1)

  drop-keeps : (said : List What) (stack : List StackEntry) → AllHaveOrSpent schema said stack → AllHaveOrSpent schema said (drop 1 stack)
  drop-keeps said [] h = tt
  drop-keeps said (x ∷ xs) h = h.1

  -- the resolver of a number is used or kept
  released-keeps : (said : List What) (seq : ℤ) (stack : List StackEntry) → IsSpent said seq → AllHaveOrSpent schema said stack → AllHaveOrSpent schema said (released seq stack)
  released-keeps said seq [] spent h = tt
  released-keeps said seq (x ∷ xs) spent h = (by (has_resolver seq x) refl, released-keeps said seq xs spent h.1)
    where
      by : (b : Bool) → has_resolver seq x ≡ b → HasOrSpent schema said (if b then record x { resolves = false } else x)
      by true is dispatch wants used =
          let same : (head_of x.frame).seq ≡ seq = (Decides-int_eq (head_of x.frame).seq seq).0 (and-right x.resolves (int_eq (head_of x.frame).seq seq) (and-right (is_dispatch x.frame) (x.resolves && int_eq (head_of x.frame).seq seq) is)) in
          subst (IsSpent said) (sym same) spent
      by false is dispatch wants used = h.0 dispatch wants used

  answered-keeps : (said : List What) (a : Answer) (stack : List StackEntry) → AllHaveOrSpent schema said stack → AllHaveOrSpent schema said (delivery.with_frames (with_answer a (map (λ (x : StackEntry). x.frame) stack)) stack)
  answered-keeps said a [] h = tt
  answered-keeps said a (x ∷ xs) h = by x.frame refl (answered-keeps said a xs h.1)
    where
      frames : List StackFrame
      frames = map (λ (y : StackEntry). y.frame) xs

      by : (f : StackFrame) → x.frame ≡ f → AllHaveOrSpent schema said (delivery.with_frames (with_answer a frames) xs) → AllHaveOrSpent schema said (delivery.with_frames (with_answer a (f ∷ frames)) (x ∷ xs))
      by (Dispatch head) is rec = (subst (λ (g : StackFrame). HasOrSpent schema said (record x { frame = g })) is h.0, rec)
      by (Wait head None) is rec = ((λ dispatch wants used. cc), subst (AllHaveOrSpent schema said) (sym (same-entries xs)) h.1)
      by (Wait head (Some b)) is rec = ((λ dispatch wants used. cc), rec)

  -- Outputs

  -- At an open end the lines show where the resolvers are, including the lines of the step so far.
  abbrev Told : List What → Output → Type 0
  Told said o = ResolversAreTold schema o.end (said ++ whats o.lines)

  -- Names and state are the same, dispatches have their resolvers as before, and the further lines keep no resolver.
  record Adds (a b : Output) : Type 0 where
    stack : (said : List What) → AllHaveOrSpent schema said a.end.stack → AllHaveOrSpent schema said b.end.stack
    names : b.end.names ≡ a.end.names
    state : b.end.state ≡ a.end.state
    more : List What
    said : whats b.lines ≡ whats a.lines ++ more
    unkept : AllByRecursion IsUnkept more

  abbrev Adding : Change → Type 0
  Adding change = (o : Output) → Adds o (change o)

  adds-chain : (a b c : Output) → Adds a b → Adds b c → Adds a c
  adds-chain a b c f g = record {
    stack = λ said h. g.stack said (f.stack said h);
    names = g.names ∙ f.names;
    state = g.state ∙ f.state;
    more = f.more ++ g.more;
    said = g.said ∙ (ap (λ (xs : List What). xs ++ g.more) f.said ∙ append_assoc (whats a.lines) f.more g.more);
    unkept = all-append IsUnkept f.more g.more f.unkept g.unkept;
  }

  -- nothing is printed, and names and state are the same
  adds-silent : (a b : Output) → ((said : List What) → AllHaveOrSpent schema said a.end.stack → AllHaveOrSpent schema said b.end.stack) → b.end.names ≡ a.end.names → b.end.state ≡ a.end.state → b.lines ≡ a.lines → Adds a b
  adds-silent a b stack names state lines = record { stack = stack; names = names; state = state; more = []; said = ap whats lines ∙ sym (append-nil (whats a.lines)); unkept = tt }

  adds-same : (o : Output) → Adds o o
  adds-same o = adds-silent o o (λ said h. h) refl refl refl

  adds-lines : (ws : List What) → AllByRecursion IsUnkept ws → Adding (lines ws)
  adds-lines ws unkept o = record {
    stack = λ said h. h;
    names = refl;
    state = refl;
    more = ws;
    said = map-append (λ (l : Line). l.what) o.lines (map (line_at o.end.side) ws) ∙ ap (λ (xs : List What). whats o.lines ++ xs) (whats-of o.end.side ws);
    unkept = unkept;
  }

  adds-line : (w : What) → IsUnkept w → Adding (line w)
  adds-line w unkept o = adds-lines (w ∷ []) (unkept, tt) o

  adds-put : (packet : Packet) → Adding (put packet)
  adds-put packet o = adds-silent o (put packet o) (λ said h. h) refl refl refl

  adds-when : (b : Bool) (change : Change) → Adding change → Adding (when b change)
  adds-when true change g o = g o
  adds-when false change g o = adds-same o

  answer-unkept : (n : ℤ) (a : Answer) → IsUnkept (answer_line n a)
  answer-unkept n (answer.Ok vs) = refl
  answer-unkept n (answer.Fault why) = refl

  adds-answered : (q : AnsweredRequest) (a : Answer) → Adding (answered q a)
  adds-answered q a o =
      adds-when (is_open o.end.state) (line (answer_line q.seq a) ▷ put (message (reply_to q (body_of a)))) (λ n. adds-chain n (line (answer_line q.seq a) n) _ (adds-line (answer_line q.seq a) (answer-unkept q.seq a) n) (adds-put (message (reply_to q (body_of a))) (line (answer_line q.seq a) n))) o

  adds-let_go : (holds : Option NameContent) → Adding (let_go holds)
  adds-let_go None o = adds-same o
  adds-let_go (Some (actor id)) o = adds-same o
  adds-let_go (Some (resolver r)) o = adds-answered (resolver_answered r) (answer.Fault ResolverDestroyed) o

  adds-constructs : (id route : ℤ) (kind : Kind) → Adding (sends.constructs id route kind)
  adds-constructs id route Normal o = adds-same o
  adds-constructs id route (Constructor protocol) o =
      let grown : Output = on_end (λ e. record e { actors = e.actors ++ record { id = id; protocol = protocol; manager = route } ∷ [] }) o in
      adds-chain o grown _ (adds-silent o grown (λ said h. h) refl refl refl) (adds-line (what.Built id protocol) refl grown)
  adds-constructs id route Delete o = adds-same o

  falls-unkept : FallsHave IsUnkept
  falls-unkept = record { rejected = λ n why. refl; fell = λ id why. refl }

  adds-deletes : (route : ℤ) (kind : Kind) → Adding (falls.deletes route kind)
  adds-deletes route Normal o = adds-same o
  adds-deletes route (Constructor protocol) o = adds-same o
  adds-deletes route Delete o =
      let fell : Adds o (lines _ o) = adds-lines _ (falls-have IsUnkept falls-unkept route (falls.why_deleted route) o.end) o in
      record { stack = fell.stack; names = fell.names; state = fell.state; more = fell.more; said = fell.said; unkept = fell.unkept }

  module _ (said : List What) where
    answered-before : (xs more : List What) (n : ℤ) → has (shape.answered (xs ++ more)) n ≡ false → has (shape.answered xs) n ≡ false
    answered-before xs more n h = (or_parts (has (shape.answered xs) n) (has (shape.answered more) n) (sym (has-append number_answered xs more n) ∙ h)).0

    answered-last : (xs more : List What) (n : ℤ) → has (shape.answered more) n ≡ true → has (shape.answered (xs ++ more)) n ≡ false → ⊥
    answered-last xs more n is h = false≢true (sym h ∙ (has-append number_answered xs more n ∙ or_right (has (shape.answered xs) n) (has (shape.answered more) n) is))

    kept-apart : {A : Type 0} (more : List What) (n : ℤ) (name : List ℕ) → AllByRecursion IsUnkept more → In (what.Keep n name) more → A
    kept-apart more n name unkept i = let k : Some n ≡ None = in-all IsUnkept i unkept in cc

    -- all that is printed so far, with more
    said-on : (a b : Output) (g : Adds a b) → said ++ whats b.lines ≡ (said ++ whats a.lines) ++ g.more
    said-on a b g = ap (λ (xs : List What). said ++ xs) g.said ∙ sym (append_assoc said (whats a.lines) g.more)

    names-more : (xs more : List What) (names : List Naming) → AllByRecursion IsUnkept more → NamesHold xs names → NamesHold (xs ++ more) names
    names-more xs more names unkept h n name i unused = elim (in-parts xs more i) [
      | inl j ↦ h n name j (answered-before xs more n unused)
      | inr j ↦ kept-apart more n name unkept j
    ]

    told-adds : (a b : Output) → Adds a b → Told said a → Told said b
    told-adds a b g h opened =
        let k = h (ap is_open (sym g.state) ∙ opened) in
        let on : said ++ whats b.lines ≡ (said ++ whats a.lines) ++ g.more = said-on a b g in (
          g.stack (said ++ whats b.lines) (subst (λ (xs : List What). AllHaveOrSpent schema xs a.end.stack) (sym on) (stack-more (said ++ whats a.lines) g.more a.end.stack k.0)),
          subst (λ (ns : List Naming). NamesHold (said ++ whats b.lines) ns) (sym g.names) (subst (λ (xs : List What). NamesHold xs a.end.names) (sym on) (names-more (said ++ whats a.lines) g.more a.end.names g.unkept k.1)),
        )

    told-closed : (o : Output) → is_open o.end.state ≡ false → Told said o
    told-closed o shut opened = let k : true ≡ false = sym opened ∙ shut in cc

    -- Names that get a new content

    same-name : (a b : List ℕ) (naming : Naming) → has_name a naming ≡ true → has_name b naming ≡ true → a ≡ b
    same-name a b naming p q = sym ((bytes_eq-Decides naming.name a).0 p) ∙ (bytes_eq-Decides naming.name b).0 q

    -- another name keeps its content
    other-held : (name other : List ℕ) (names : List Naming) (c : NameContent) (last : List Naming) → bytes_eq other name ≡ false → held_by_name other names ≡ Some c → held_by_name other (without_name name names ++ last) ≡ Some c
    other-held name other [] c last apart h = cc
    other-held name other (x ∷ xs) c last apart h = by (has_name name x) (has_name other x) refl refl h (other-held name other xs c last apart)
      where
        by : (a b : Bool) → has_name name x ≡ a → has_name other x ≡ b → option_map (λ (y : Naming). y.holds) (cond b (Some x) (find (has_name other) xs)) ≡ Some c
            → (held_by_name other xs ≡ Some c → held_by_name other (without_name name xs ++ last) ≡ Some c)
            → held_by_name other (cond (not a) (x ∷ without_name name xs) (without_name name xs) ++ last) ≡ Some c
        by true true p q k rec = absurd (false≢true (sym apart ∙ (bytes_eq-Decides other name).1 (same-name other name x q p)))
        by true false p q k rec = rec k
        by false true p q k rec = ap (λ (b : Bool). option_map (λ (y : Naming). y.holds) (cond b (Some x) (find (has_name other) (without_name name xs ++ last)))) q ∙ k
        by false false p q k rec = ap (λ (b : Bool). option_map (λ (y : Naming). y.holds) (cond b (Some x) (find (has_name other) (without_name name xs ++ last)))) q ∙ rec k

    -- the name has its new content
    new-held : (name : List ℕ) (names : List Naming) (c : NameContent) → held_by_name name (without_name name names ++ holding name (Some c)) ≡ Some c
    new-held name [] c = ap (λ (b : Bool). option_map (λ (y : Naming). y.holds) (cond b (Some (record { name = name; holds = c })) None)) ((bytes_eq-Decides name name).1 refl)
    new-held name (x ∷ xs) c = by (has_name name x) refl (new-held name xs c)
      where
        by : (a : Bool) → has_name name x ≡ a → held_by_name name (without_name name xs ++ holding name (Some c)) ≡ Some c → held_by_name name (cond (not a) (x ∷ without_name name xs) (without_name name xs) ++ holding name (Some c)) ≡ Some c
        by true p rec = rec
        by false p rec = ap (λ (b : Bool). option_map (λ (y : Naming). y.holds) (cond b (Some x) (find (has_name name) (without_name name xs ++ holding name (Some c))))) p ∙ rec

    module _ (name : List ℕ) (holds : Option NameContent) (o : Output) where
      abbrev unnamed : Output
      unnamed = on_end (λ e. record e { names = without_name name e.names }) o

      abbrev gone : Output
      gone = let_go (held_by_name name o.end.names) unnamed

      lets-go : Adds unnamed gone
      lets-go = adds-let_go (held_by_name name o.end.names) unnamed

      -- a resolver that the name had is answered
      let_go-answers : (before : Option NameContent) (r : Resolver) → before ≡ Some (resolver r) → is_open o.end.state ≡ true → whats (let_go before unnamed).lines ≡ whats o.lines ++ what.AnswerFault r.seq ResolverDestroyed ∷ []
      let_go-answers None r is opened = cc
      let_go-answers (Some (actor id)) r is opened = cc
      let_go-answers (Some (resolver q)) r is opened =
          let same : q ≡ r = cc in
          ap (λ (b : Bool). whats (when b (line (what.AnswerFault q.seq ResolverDestroyed) ▷ put (message (reply_to (resolver_answered q) (Fault ResolverDestroyed)))) unnamed).lines) opened
          ∙ (map-append (λ (l : Line). l.what) o.lines (line_at o.end.side (what.AnswerFault q.seq ResolverDestroyed) ∷ []) ∙ ap (λ (x : Resolver). whats o.lines ++ what.AnswerFault x.seq ResolverDestroyed ∷ []) same)

      seq-had : (n : ℤ) → has (n ∷ []) n ≡ true
      seq-had n = ap (λ (b : Bool). b || false) ((Decides-int_eq n n).1 refl)

      renamed-names : (xs : List What) → NamesHold xs o.end.names → is_open o.end.state ≡ true → (n : ℤ) (other : List ℕ) → In (what.Keep n other) xs → has (shape.answered (xs ++ lets-go.more)) n ≡ false
          → (r : Resolver) × (held_by_name other (renamed name holds o).end.names ≡ Some (resolver r)) × (r.seq ≡ n)
      renamed-names xs h opened n other i unused = by (h n other i (answered-before xs lets-go.more n unused))
        where
          by : (r : Resolver) × (held_by_name other o.end.names ≡ Some (resolver r)) × (r.seq ≡ n) → (r : Resolver) × (held_by_name other (renamed name holds o).end.names ≡ Some (resolver r)) × (r.seq ≡ n)
          by (r, held, seq) = elim (cases_Bool (bytes_eq other name)) [
            | inl same ↦
                let this : held_by_name name o.end.names ≡ Some (resolver r) = ap (λ (x : List ℕ). held_by_name x o.end.names) (sym ((bytes_eq-Decides other name).0 same)) ∙ held in
                let told : whats gone.lines ≡ whats o.lines ++ what.AnswerFault r.seq ResolverDestroyed ∷ [] = let_go-answers (held_by_name name o.end.names) r this opened in
                let more : lets-go.more ≡ what.AnswerFault r.seq ResolverDestroyed ∷ [] = append_cancel_left (whats o.lines) lets-go.more (what.AnswerFault r.seq ResolverDestroyed ∷ []) (sym lets-go.said ∙ told) in
                absurd (answered-last xs lets-go.more n (ap (λ (ws : List What). has (shape.answered ws) n) more ∙ (ap (λ (k : ℤ). has (k ∷ []) n) seq ∙ seq-had n)) unused)
            | inr apart ↦ (
              r,
              ap (λ (ns : List Naming). held_by_name other (ns ++ holding name holds)) lets-go.names ∙ other-held name other o.end.names (resolver r) (holding name holds) apart held,
              seq,
            )
          ]

      told-renamed : Told said o → Told said (renamed name holds o)
      told-renamed h opened =
          let before : is_open o.end.state ≡ true = ap is_open (sym lets-go.state) ∙ opened in
          let k = h before in
          let on : said ++ whats (renamed name holds o).lines ≡ (said ++ whats o.lines) ++ lets-go.more = said-on unnamed gone lets-go in (
            lets-go.stack (said ++ whats (renamed name holds o).lines) (subst (λ (xs : List What). AllHaveOrSpent schema xs o.end.stack) (sym on) (stack-more (said ++ whats o.lines) lets-go.more o.end.stack k.0)),
            subst (λ (xs : List What). NamesHold xs (renamed name holds o).end.names) (sym on) (λ n other i unused. elim (in-parts (said ++ whats o.lines) lets-go.more i) [
              | inl j ↦ renamed-names (said ++ whats o.lines) k.1 before n other j unused
              | inr j ↦ kept-apart lets-go.more n other lets-go.unkept j
            ]),
          )

    -- Acts

    told-names : (id : ℤ) (name : Option (List ℕ)) (o : Output) → Told said o → Told said (sends.names_actor id name o)
    told-names id None o h = h
    told-names id (Some name) o h = told-renamed name (Some (actor id)) o h

    adds-posted : (lazy : Bool) (m : Message) → Adding (sends.posted_by lazy m)
    adds-posted true m o = adds-silent o (sends.posted_by true m o) (λ told h. h) refl refl refl
    adds-posted false m o = adds-put (message m) o

    adds-awaits : (row : MessageRow) (m : Message) → Adding (sends.awaits_reply row m)
    adds-awaits row m o =
        adds-chain o (when (is_sync_row row) (on_end (λ e. record e { stack = sends.wait_for row m ∷ e.stack })) o) _
        (adds-when (is_sync_row row) (on_end (λ e. record e { stack = sends.wait_for row m ∷ e.stack })) (λ n. adds-silent n _ (λ told h. ((λ dispatch wants used. cc), h)) refl refl refl) o)
        (adds-when (makes_promise row) _ (λ n. adds-silent n _ (λ told h. h) refl refl refl) (when (is_sync_row row) (on_end (λ e. record e { stack = sends.wait_for row m ∷ e.stack })) o))

    send-unkept : (b : Bool) (m : Message) (vs : Values) → IsUnkept (if b then what.Call m.seq m.transaction m.route m.number vs else what.Send m.seq m.route m.number vs)
    send-unkept true m vs = refl
    send-unkept false m vs = refl

    module _ (e : End) where
      told-sent : (refused : Option SendRefusal) (row : MessageRow) (m : Message) (vs : Values) (name : Option (List ℕ)) → Told said (beginning e) → Told said (sends.sent_unless refused row m vs name (beginning e))
      told-sent (Some cause) row m vs name h = told-adds (beginning e) (line (what.RefusedSend cause row.number) (beginning e)) (adds-line (what.RefusedSend cause row.number) refl (beginning e)) h
      told-sent None row m vs name h =
          let begun : Output = line (sends.send_line row m vs) (beginning e) in
          let counted : Output = on_end (λ x. record x { sent = x.sent + 1; constructors_sent = counting row.kind x.constructors_sent }) begun in
          let posted : Output = sends.posted row m counted in
          let waiting : Output = sends.awaits_reply row m posted in
          let named : Output = sends.names_actor m.made name waiting in
          let built : Output = sends.constructs m.made m.route row.kind named in
          let first : Adds (beginning e) counted = adds-chain (beginning e) begun counted (adds-line (sends.send_line row m vs) (send-unkept (is_sync_row row) m vs) (beginning e)) (adds-silent begun counted (λ told k. k) refl refl refl) in
          let before : Adds (beginning e) waiting = adds-chain (beginning e) counted waiting first (adds-chain counted posted waiting (adds-posted row.lazy m counted) (adds-awaits row m posted)) in
          told-adds named _ (adds-chain named built _ (adds-constructs m.made m.route row.kind named) (adds-deletes m.route row.kind built)) (told-names m.made name waiting (told-adds (beginning e) waiting before h))

      -- a resolver is used

      answering-answers : (n : ℤ) (vs : Option Values) → has (shape.answered (answers.answering_line n vs ∷ [])) n ≡ true
      answering-answers n None = ap (λ (b : Bool). b || false) ((Decides-int_eq n n).1 refl)
      answering-answers n (Some vs) = ap (λ (b : Bool). b || false) ((Decides-int_eq n n).1 refl)

      answering-unkept : (n : ℤ) (vs : Option Values) → IsUnkept (answers.answering_line n vs)
      answering-unkept n None = refl
      answering-unkept n (Some vs) = refl

      resolver-seq : (seq : ℤ) (r : Resolver) → answers.handled_resolver e seq ≡ Some r → r.seq ≡ seq
      resolver-seq seq r is = by (find (has_resolver seq) e.stack) refl is
        where
          by : (found : Option StackEntry) → find (has_resolver seq) e.stack ≡ found → option_map resolver_in found ≡ Some r → r.seq ≡ seq
          by None at k = cc
          by (Some entry) at k =
              let same : resolver_in entry ≡ r = same_Some (resolver_in entry) r k in
              let passes : has_resolver seq entry ≡ true = found-passes (has_resolver seq) e.stack entry at in
              ap (λ (x : Resolver). x.seq) (sym same) ∙ (Decides-int_eq (head_of entry.frame).seq seq).0 (and-right entry.resolves (int_eq (head_of entry.frame).seq seq) (and-right (is_dispatch entry.frame) (entry.resolves && int_eq (head_of entry.frame).seq seq) passes))

      told-resolved : (way : Answering) (vs : Option Values) (r : Resolver) → answers.resolver_used e way ≡ Some r → Told said (beginning e) → Told said (answers.resolved way vs r (beginning e))
      told-resolved (handled seq) vs r used h =
          let begun : Output = line (answers.answering_line r.seq vs) (beginning e) in
          let told : Told said begun = told-adds (beginning e) begun (adds-line (answers.answering_line r.seq vs) (answering-unkept r.seq vs) (beginning e)) h in
          let spent : IsSpent (said ++ whats begun.lines) seq =
          inl (has-append number_answered said (answers.answering_line r.seq vs ∷ []) seq
          ∙ or_right (has (shape.answered said) seq) (has (shape.answered (answers.answering_line r.seq vs ∷ [])) seq) (ap (has (shape.answered (answers.answering_line r.seq vs ∷ []))) (sym (resolver-seq seq r used)) ∙ answering-answers r.seq vs)) in
          λ opened. let k = told opened in (released-keeps (said ++ whats begun.lines) seq e.stack spent k.0, k.1)
      told-resolved (kept name number) vs r used h = λ opened.
          let first : What = answers.answering_line r.seq vs in
          let k = h opened in
          let held : held_by_name name e.names ≡ Some (resolver r) = used-held number r (held_by_name name e.names) used in
          let before : NamesHold said e.names = subst (λ (xs : List What). NamesHold xs e.names) (append-nil said) k.1 in (
            stack-more said (first ∷ []) e.stack (subst (λ (xs : List What). AllHaveOrSpent schema xs e.stack) (append-nil said) k.0),
            λ n other i unused. from before held n other i unused,
          )
        where
          from : NamesHold said e.names → held_by_name name e.names ≡ Some (resolver r) → (n : ℤ) (other : List ℕ) → In (what.Keep n other) (said ++ answers.answering_line r.seq vs ∷ []) → has (shape.answered (said ++ answers.answering_line r.seq vs ∷ [])) n ≡ false
              → (q : Resolver) × (held_by_name other (without_name name e.names) ≡ Some (resolver q)) × (q.seq ≡ n)
          from before held n other i unused = elim (in-parts said (answers.answering_line r.seq vs ∷ []) i) [
            | inl j ↦ by (before n other j (answered-before said (answers.answering_line r.seq vs ∷ []) n unused))
            | inr j ↦ kept-apart (answers.answering_line r.seq vs ∷ []) n other (answering-unkept r.seq vs, tt) j
          ]
            where
              by : (q : Resolver) × (held_by_name other e.names ≡ Some (resolver q)) × (q.seq ≡ n) → (q : Resolver) × (held_by_name other (without_name name e.names) ≡ Some (resolver q)) × (q.seq ≡ n)
              by (q, other_held, seq) = elim (cases_Bool (bytes_eq other name)) [
                | inl same ↦
                    let both : Some (resolver q) ≡ Some (resolver r) = sym other_held ∙ (ap (λ (x : List ℕ). held_by_name x e.names) ((bytes_eq-Decides other name).0 same) ∙ held) in
                    let one : q ≡ r = cc in
                    absurd (answered-last said (answers.answering_line r.seq vs ∷ []) n (ap (has (shape.answered (answers.answering_line r.seq vs ∷ []))) (sym seq ∙ ap (λ (x : Resolver). x.seq) one) ∙ answering-answers r.seq vs) unused)
                | inr apart ↦ (q, ap (held_by_name other) (sym (append-nil (without_name name e.names))) ∙ other-held name other e.names (resolver q) [] apart other_held, seq)
              ]

      refused-unkept : (cause : SendRefusal) (vs : Option Values) → IsUnkept (answers.refused_line cause vs)
      refused-unkept cause None = refl
      refused-unkept cause (Some vs) = refl

      told-answered : (refused : Option SendRefusal) (way : Answering) (vs : Option Values) (used : Option Resolver) → answers.resolver_used e way ≡ used → Told said (beginning e) → Told said (answers.answered_unless refused way vs used (beginning e))
      told-answered (Some cause) way vs used is h = told-adds (beginning e) _ (adds-line (answers.refused_line cause vs) (refused-unkept cause vs) (beginning e)) h
      told-answered None way vs None is h = told-adds (beginning e) _ (adds-line (answers.refused_line _ vs) (refused-unkept _ vs) (beginning e)) h
      told-answered None way vs (Some r) is h = told-resolved way vs r is h

      -- a resolver is kept under a name

      open-not_closed : (state : EndState) → is_open state ≡ true → is_closed state ≡ false
      open-not_closed Open opened = refl
      open-not_closed Draining opened = refl
      open-not_closed Closed opened = cc
      open-not_closed Dead opened = refl

      module _ (seq : ℤ) (name : List ℕ) where
        abbrev releasing : Output
        releasing = (line (what.Keep seq name) ▷ on_end (λ x. record x { stack = released seq x.stack })) (beginning e)

        abbrev with_keep : List What
        with_keep = said ++ what.Keep seq name ∷ []

        module _ (r : Resolver) (found : answers.handled_resolver e seq ≡ Some r) where
          abbrev holds : Option NameContent
          holds = option_and_then (answers.kept_by e) (answers.handled_resolver e seq)

          holds-it : is_open e.state ≡ true → holds ≡ Some (resolver r)
          holds-it opened = ap (option_and_then (answers.kept_by e)) found ∙ ap (λ (b : Bool). if b then None else Some (resolver r)) (open-not_closed e.state opened)

          abbrev go : Adds (unnamed name holds releasing) (gone name holds releasing)
          go = lets-go name holds releasing

          kept-told : Told said (beginning e) → Told said (renamed name holds releasing)
          kept-told h opened =
              let before : is_open e.state ≡ true = ap is_open (sym go.state) ∙ opened in
              let k = h before in
              let on : said ++ whats (renamed name holds releasing).lines ≡ with_keep ++ go.more = said-on (unnamed name holds releasing) (gone name holds releasing) go in
              let spent : IsSpent (with_keep ++ go.more) seq =
              spent-more with_keep go.more seq (inr (has-append number_kept said (what.Keep seq name ∷ []) seq ∙ or_right (has (kept_numbers said) seq) (int_eq seq seq || false) (ap (λ (b : Bool). b || false) ((Decides-int_eq seq seq).1 refl)))) in
              let stack : AllHaveOrSpent schema (with_keep ++ go.more) (released seq e.stack) =
              released-keeps (with_keep ++ go.more) seq e.stack spent (stack-more with_keep go.more e.stack (stack-more said (what.Keep seq name ∷ []) e.stack (subst (λ (xs : List What). AllHaveOrSpent schema xs e.stack) (append-nil said) k.0))) in
              let names : NamesHold said e.names = subst (λ (xs : List What). NamesHold xs e.names) (append-nil said) k.1 in (
                subst (λ (xs : List What). AllHaveOrSpent schema xs (renamed name holds releasing).end.stack) (sym on) (go.stack (with_keep ++ go.more) stack),
                subst (λ (xs : List What). NamesHold xs (renamed name holds releasing).end.names) (sym on) (λ n other i unused. from before names n other i unused),
              )
            where
              apart : (n : ℤ) → has (shape.answered (with_keep ++ go.more)) n ≡ false → has (shape.answered (said ++ go.more)) n ≡ false
              apart n unused =
                  let a = or_parts (has (shape.answered with_keep) n) (has (shape.answered go.more) n) (sym (has-append number_answered with_keep go.more n) ∙ unused) in
                  has-append number_answered said go.more n ∙ or_from (has (shape.answered said) n) (has (shape.answered go.more) n) (answered-before said (what.Keep seq name ∷ []) n a.0) a.1

              from : is_open e.state ≡ true → NamesHold said e.names → (n : ℤ) (other : List ℕ) → In (what.Keep n other) (with_keep ++ go.more) → has (shape.answered (with_keep ++ go.more)) n ≡ false
                  → (q : Resolver) × (held_by_name other (renamed name holds releasing).end.names ≡ Some (resolver q)) × (q.seq ≡ n)
              from before names n other i unused = elim (in-parts with_keep go.more i) [
                | inr j ↦ kept-apart go.more n other go.unkept j
                | inl j ↦ elim (in-parts said (what.Keep seq name ∷ []) j) [
                  | inl old ↦ renamed-names name holds releasing said names before n other old (apart n unused)
                  | inr last ↦ this (in-all (λ w. w ≡ what.Keep seq name) last (refl, tt))
                ]
              ]
                where
                  this : what.Keep n other ≡ what.Keep seq name → (q : Resolver) × (held_by_name other (renamed name holds releasing).end.names ≡ Some (resolver q)) × (q.seq ≡ n)
                  this same =
                      let number : n ≡ seq = cc in
                      let named : other ≡ name = cc in
                      let held : held_by_name name (renamed name holds releasing).end.names ≡ Some (resolver r) =
                      ap (λ (ns : List Naming). held_by_name name (ns ++ holding name holds)) go.names
                      ∙ (ap (λ (c : Option NameContent). held_by_name name (without_name name e.names ++ holding name c)) (holds-it before) ∙ new-held name e.names (resolver r)) in
                      (r, ap (λ (x : List ℕ). held_by_name x (renamed name holds releasing).end.names) named ∙ held, resolver-seq seq r found ∙ sym number)

        told-kept : answers.may_keep e seq ≡ true → Told said (beginning e) → Told said (answers.keep e seq name (beginning e))
        told-kept may h = by (answers.handled_resolver e seq) refl (and-right (sends.may_act e) (is_some (answers.handled_resolver e seq)) may)
          where
            by : (found : Option Resolver) → answers.handled_resolver e seq ≡ found → is_some found ≡ true → Told said (answers.keep e seq name (beginning e))
            by None is some = cc
            by (Some r) is some = kept-told r is h

      told-close : (refused : Option SendRefusal) → Told said (beginning e) → Told said (acts.close_unless refused (beginning e))
      told-close None h = told-closed (acts.close_unless None (beginning e)) refl
      told-close (Some cause) h = told-adds (beginning e) (line (what.RefusedClose cause) (beginning e)) (adds-line (what.RefusedClose cause) refl (beginning e)) h

    -- Takes

    -- an output adds to another, or its end is not open
    data Goes (a b : Output) : Type 0 where
      on : Adds a b → Goes a b
      out : is_open b.end.state ≡ false → Goes a b

    told-goes : (a b : Output) → Goes a b → Told said a → Told said b
    told-goes a b (on g) h = told-adds a b g h
    told-goes a b (out shut) h = told-closed b shut

    -- the same if something was added first
    after-goes : (a b c : Output) → Adds a b → Goes b c → Goes a c
    after-goes a b c f (on g) = on (adds-chain a b c f g)
    after-goes a b c f (out shut) = out shut

    dispatch-has : (row : MessageRow) (m : Message) (told : List What) → message_of schema m.number ≡ Some row → HasOrSpent schema told (takes.dispatch_of row m)
    dispatch-has row m told found dispatch wants used =
        let makes : makes_promise row ≡ true = ap (λ (o : Option MessageRow). option_map_or wants_row o false) (sym found) ∙ wants in
        absurd (false≢true (sym used ∙ makes))

    request-goes : (gone : Option ℤ) (row : MessageRow) (m : Message) (vs : Values) (o : Output) → message_of schema m.number ≡ Some row → Goes o (takes.dropped_or_handled gone row m vs o)
    request-goes None row m vs o found =
        let told : Output = line (what.Take m.seq m.route m.number vs) o in
        let pushed : Output = on_end (λ x. record x { stack = takes.dispatch_of row m ∷ x.stack }) told in
        on (adds-chain o told _ (adds-line (what.Take m.seq m.route m.number vs) refl o)
        (adds-chain told pushed _ (adds-silent told pushed (λ xs h. (dispatch-has row m xs found, h)) refl refl refl) (adds-constructs m.made m.route row.kind pushed)))
    request-goes (Some id) row m vs o found =
        let told : Output = line (what.Drop m.seq m.route m.number id) o in
        on (adds-chain o told _ (adds-line (what.Drop m.seq m.route m.number id) refl o)
        (adds-when (is_sync_row row || makes_promise row) (answered (request_answered m) (answer.Fault ActorDestroyed)) (adds-answered (request_answered m) (answer.Fault ActorDestroyed)) told))

    row-goes : (m : Message) (vs : Values) (row : Option MessageRow) (o : Output) → message_of schema m.number ≡ row → Goes o (option_map_or (takes.request_taken schema m vs) row (line (what.Drop m.seq m.route m.number m.route)) o)
    row-goes m vs None o found = on (adds-line (what.Drop m.seq m.route m.number m.route) refl o)
    row-goes m vs (Some row) o found = request-goes (takes.dropped_for schema o.end row m vs) row m (nulled schema o.end.actors row.params vs) o found

    settle-unkept : (n : ℤ) (outcome : Outcome) → IsUnkept (takes.settle_line n outcome)
    settle-unkept n (Resolved vs) = refl
    settle-unkept n (Rejected why) = refl

    adds-settles : (n : ℤ) (outcome : Outcome) → Adding (takes.settles n outcome)
    adds-settles n outcome o =
        let done : Output = on_end (λ e. record e { promises = map (takes.settled_entry n outcome) e.promises }) o in
        adds-chain o done _ (adds-silent o done (λ xs h. h) refl refl refl) (adds-line (takes.settle_line n outcome) (settle-unkept n outcome) done)

    reply-goes : (m : Message) (a : Answer) (row : Option MessageRow) (o : Output) → Goes o (option_map_or (takes.reply_taken schema m a) row unchanged o)
    reply-goes m a None o = on (adds-same o)
    reply-goes m a (Some row) o =
        on (adds-when (takes.is_awaited m.seq o.end.promises) (takes.settles m.seq (takes.outcome_of (received schema o.end.actors row a))) (adds-settles m.seq (takes.outcome_of (received schema o.end.actors row a))) o)

    body-goes : (m : Message) (body : Body) (o : Output) → Goes o (takes.body_taken schema m body o)
    body-goes m (Request vs) o = row-goes m vs (message_of schema m.number) o refl
    body-goes m (Reply vs) o = after-goes o (line (what.TakeReply m.seq) o) _ (adds-line (what.TakeReply m.seq) refl o) (reply-goes m (answer.Ok vs) (message_of schema m.number) (line (what.TakeReply m.seq) o))
    body-goes m (Fault why) o = after-goes o (line (what.TakeReply m.seq) o) _ (adds-line (what.TakeReply m.seq) refl o) (reply-goes m (answer.Fault why) (message_of schema m.number) (line (what.TakeReply m.seq) o))
    body-goes m Goodbye o = out refl

    item-goes : (x : Item) (o : Output) → Goes o (takes.item_taken schema x o)
    item-goes (item.Message m sync level) o = body-goes m m.body o
    item-goes item.Broken o = out refl

    -- Deliveries

    adds-replacing : (row : MessageRow) (old : Option Item) → Adding (delivery.replacing row old)
    adds-replacing row None o = adds-same o
    adds-replacing row (Some item.Broken) o = adds-same o
    adds-replacing row (Some (item.Message old sync level)) o =
        let told : Output = line (what.Replaced old.seq) o in
        adds-chain o told _ (adds-line (what.Replaced old.seq) refl o) (adds-when (makes_promise row) (answered (request_answered old) (answer.Fault ResolverDestroyed)) (adds-answered (request_answered old) (answer.Fault ResolverDestroyed)) told)

    arrives-goes : (m : Message) (row : Option MessageRow) (o : Output) → Goes o (option_map_or (delivery.request_arrives m) row unchanged o)
    arrives-goes m None o = on (adds-same o)
    arrives-goes m (Some row) o =
        let counted : Output = on_end (delivery.counted row (delivery.item_of row m)) o in
        on (adds-chain o counted _ (adds-silent o counted (λ xs h. h) refl refl refl) (adds-replacing row _ counted))

    reply-arrives : (m : Message) (a : Answer) (row : Option MessageRow) (o : Output) → Goes o (option_map_or (delivery.reply_arrives m a) row unchanged o)
    reply-arrives m a None o = on (adds-same o)
    reply-arrives m a (Some row) o = by (is_sync_row row)
      where
        by : (b : Bool) → Goes o (on_end (λ e. if b then delivery.answers_wait a e else delivery.arrives (delivery.item_of row m) e) o)
        by true = on (adds-silent o _ (λ xs h. answered-keeps xs a o.end.stack h) refl refl refl)
        by false = on (adds-silent o _ (λ xs h. h) refl refl refl)

    delivered-goes : (m : Message) (body : Body) (o : Output) → Goes o (delivery.body_delivered schema m body o)
    delivered-goes m (Request vs) o = after-goes o (line (what.DeliverRequest m.seq) o) _ (adds-line (what.DeliverRequest m.seq) refl o) (arrives-goes m (message_of schema m.number) (line (what.DeliverRequest m.seq) o))
    delivered-goes m (Reply vs) o = after-goes o (line (what.DeliverReply m.seq) o) _ (adds-line (what.DeliverReply m.seq) refl o) (reply-arrives m (answer.Ok vs) (message_of schema m.number) (line (what.DeliverReply m.seq) o))
    delivered-goes m (Fault why) o = after-goes o (line (what.DeliverReply m.seq) o) _ (adds-line (what.DeliverReply m.seq) refl o) (reply-arrives m (answer.Fault why) (message_of schema m.number) (line (what.DeliverReply m.seq) o))
    delivered-goes m Goodbye o = out refl

    packet-goes : (packet : Packet) (o : Output) → Goes o (delivery.deliver schema packet o)
    packet-goes (message m) o = delivered-goes m m.body o
    packet-goes mark o = out refl

    -- Steps

    module _ (e : End) where
      return-adds : (row : MessageRow) (top : StackEntry) (vs : Option Values) → Adds (beginning e) (returns.return schema e row top vs (beginning e))
      return-adds row top vs =
          let popped : Output = returns.popped (beginning e) in
          let begun : Output = line (what.Return (head_of top.frame).seq) popped in
          let told : Output = when (is_sync_row row) (answered (returns.dispatch_answered top) (returns.return_answer schema e row top vs)) begun in
          let lost : Output = when top.resolves (answered (resolver_answered (resolver_in top)) (answer.Fault ResolverDestroyed)) told in
          adds-chain (beginning e) popped _ (adds-silent (beginning e) popped (λ xs h. drop-keeps xs e.stack h) refl refl refl)
          (adds-chain popped begun _ (adds-line (what.Return (head_of top.frame).seq) refl popped)
          (adds-chain begun told _ (adds-when (is_sync_row row) (answered (returns.dispatch_answered top) (returns.return_answer schema e row top vs)) (adds-answered (returns.dispatch_answered top) (returns.return_answer schema e row top vs)) begun)
          (adds-chain told lost _ (adds-when top.resolves (answered (resolver_answered (resolver_in top)) (answer.Fault ResolverDestroyed)) (adds-answered (resolver_answered (resolver_in top)) (answer.Fault ResolverDestroyed)) told)
          (adds-deletes top.route row.kind lost))))

      resume-unkept : (n : ℤ) (a : Answer) → IsUnkept (returns.resume_line n a)
      resume-unkept n (answer.Ok vs) = refl
      resume-unkept n (answer.Fault why) = refl

      resume-adds : (wait : returns.AnsweredWait) (row : MessageRow) → Adds (beginning e) (returns.resume schema e wait row (beginning e))
      resume-adds wait row =
          let popped : Output = returns.popped (beginning e) in
          let w : What = returns.resume_line wait.seq (received schema e.actors row wait.given) in
          adds-chain (beginning e) popped (line w popped) (adds-silent (beginning e) popped (λ xs h. drop-keeps xs e.stack h) refl refl refl) (adds-line w (resume-unkept wait.seq (received schema e.actors row wait.given)) popped)

      flush-adds : Adds (beginning e) (returns.flush (beginning e))
      flush-adds =
          let begun : Output = line (what.Flush _) (beginning e) in
          adds-chain (beginning e) begun _ (adds-line (what.Flush _) refl (beginning e)) (adds-silent begun (returns.flush (beginning e)) (λ xs h. h) refl refl refl)

      step-told : (link : List Packet) (ev : Event) (output : Output) → step schema e link ev ≡ Some output → Told said (beginning e) → Told said output
      step-told link (event.send route number vs name) output is k =
          found-gives (Told said) (request_row schema number) (λ row. provided (sends.may_send schema e row vs name) (sends.send schema e row route vs name) e) output
          (λ row found. provided-gives (Told said) (sends.may_send schema e row vs name) (sends.send schema e row route vs name) e output
          (λ may. told-sent e (sends.send_refusal schema e row route vs) row (sends.request_of e row route vs) vs name k)) is
      step-told link (event.answer way vs) output is k =
          found-gives (Told said) (answers.answered_row schema e way) (λ row. provided (answers.may_answer schema e row vs) (answers.answer schema e row way vs) e) output
          (λ row found. provided-gives (Told said) (answers.may_answer schema e row vs) (answers.answer schema e row way vs) e output
          (λ may. told-answered e (answers.answer_refusal schema e row way vs) way vs (answers.resolver_used e way) refl k)) is
      step-told link (event.keep seq name) output is k =
          provided-gives (Told said) (answers.may_keep e seq) (answers.keep e seq name) e output (λ may. told-kept e seq name may k) is
      step-told link (event.name name id) output is k =
          provided-gives (Told said) (sends.may_act e) (acts.name_actor name id) e output
          (λ may. told-renamed name (if acts.is_positive id then Some (actor id) else None) (line (what.Let name (if acts.is_positive id then id else pos 0)) (beginning e))
          (told-adds (beginning e) (line (what.Let name (if acts.is_positive id then id else pos 0)) (beginning e)) (adds-line (what.Let name (if acts.is_positive id then id else pos 0)) refl (beginning e)) k)) is
      step-told link event.close output is k = provided-gives (Told said) (sends.may_act e) (acts.close e) e output (λ may. told-close e (acts.close_refusal e) k) is
      step-told link event.die output is k = provided-gives (Told said) (acts.may_die e) acts.die e output (λ may. told-closed (acts.die (beginning e)) refl) is
      step-told link event.deliver output is k =
          found-gives (Told said) (first_packet link) (λ packet. provided (is_open e.state) (delivery.deliver schema packet) e) output
          (λ packet first. provided-gives (Told said) (is_open e.state) (delivery.deliver schema packet) e output
          (λ may. told-goes (beginning e) (delivery.deliver schema packet (beginning e)) (packet-goes packet (beginning e)) k)) is
      step-told link event.take output is k =
          found-gives (Told said) (takes.taken_next e) (λ x. provided true (takes.take schema x) e) output
          (λ x next. provided-gives (Told said) true (takes.take schema x) e output
          (λ may. told-goes (on_end left_end (beginning e)) (takes.take schema x (beginning e)) (item-goes x (on_end left_end (beginning e))) k)) is
      step-told link (event.return vs) output is k =
          found-gives (Told said) (returns.dispatch_on_top e.stack) (λ entry. option_and_then (λ row. provided (returns.may_return schema row vs) (returns.return schema e row entry vs) e) (request_row schema entry.number)) output
          (λ entry on_top. found-gives (Told said) (request_row schema entry.number) (λ row. provided (returns.may_return schema row vs) (returns.return schema e row entry vs) e) output
          (λ row found. provided-gives (Told said) (returns.may_return schema row vs) (returns.return schema e row entry vs) e output
          (λ may. told-adds (beginning e) (returns.return schema e row entry vs (beginning e)) (return-adds row entry vs) k))) is
      step-told link event.resume output is k =
          found-gives (Told said) (returns.answered_wait_on_top e.stack) (λ wait. option_and_then (λ row. provided true (returns.resume schema e wait row) e) (request_row schema wait.number)) output
          (λ wait on_top. found-gives (Told said) (request_row schema wait.number) (λ row. provided true (returns.resume schema e wait row) e) output
          (λ row found. provided-gives (Told said) true (returns.resume schema e wait row) e output
          (λ may. told-adds (beginning e) (returns.resume schema e wait row (beginning e)) (resume-adds wait row) k))) is
      step-told link event.flush output is k = provided-gives (Told said) (returns.may_flush e) returns.flush e output (λ may. told-adds (beginning e) (returns.flush (beginning e)) flush-adds k) is

  pub resolvers-told : EveryStepKeeps schema (ResolversAreTold schema)
  resolvers-told = record {
    begins = λ top side opened. (tt, λ n name i unused. elim i [ ]);
    goes_on = λ e link ev output ws said is at k.
        let same : whats output.lines ≡ ws = ap whats at ∙ whats-of e.side ws in
        subst (λ (xs : List What). ResolversAreTold schema output.end (said ++ xs)) same
        (step-told said e link ev output is (subst (ResolversAreTold schema e) (sym (append-nil said)) k));
  }
