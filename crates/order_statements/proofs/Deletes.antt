-- A destructor deletes its actor and all below it, when it is sent and when its handler returns.
use Rattle.std.proofs.Common.{◌≡◌, inl, inr, ℕ, ℤ, pos, Bool, true, false, not, ◌||◌, int_eq, IsTrue, List, [], ◌∷◌, ◌++◌, map, Option, Some, refl, sym, ap, subst, ◌∙◌, append_assoc, option_and_then}
use Rattle.std.specs.Option.{option_map_or}
use Rattle.std.proofs.lemmas.Bool.Decides.{Decides-int_eq}
use Rattle.std.proofs.lemmas.List.{append-nil}
use Rattle.std.proofs.lemmas.List.Elements.{filter_map-append}
use Rattle.std.proofs.lemmas.List.Folds.{list_any-append}
use Rattle.actor_tree.specs.declared.actor.Actor.{Actor}
use Rattle.actor_tree.specs.Tree as tree
use Rattle.actor_tree.specs.Tree.{IsTree}
use Rattle.ipdl_base.specs.declared.kinds.Side.{Side}
use Rattle.ipdl_base.specs.declared.line.Line.{Line}
use Rattle.ipdl_base.specs.declared.line.What.{What}
use Rattle.ipdl_base.specs.declared.line.What.TheVariants as what
use Rattle.ipdl_base.specs.declared.schema.Kind.{Kind}
use Rattle.ipdl_base.specs.declared.schema.Kind.TheVariants.{Normal, Constructor, Delete}
use Rattle.ipdl_base.specs.declared.schema.MessageRow.{MessageRow}
use Rattle.ipdl_base.specs.declared.schema.Schema.{Schema}
use Rattle.ipdl_base.specs.declared.value.Values.{Values}
use Rattle.ipdl_base.specs.Lines.{is_effect}
use Rattle.ipdl_base.specs.Sound.{message_of}
use Rattle.ipdl_base.specs.Sides.{top_id}
use Rattle.history_reading.specs.declared.parts.BuiltActor.{BuiltActor}
use Rattle.history_reading.specs.declared.parts.CallFrame.{CallFrame}
use Rattle.history_reading.specs.declared.parts.CallFrame.TheVariants as frame
use Rattle.history_reading.specs.declared.parts.HandledRequest.{HandledRequest}
use Rattle.history_reading.specs.EndReading.{was_built}
use Rattle.nesting_core.specs.Frames.{head_of}
use Rattle.channel_model.specs.Ends.{End, StackEntry}
use Rattle.channel_model.specs.Events.{Event}
use Rattle.channel_model.specs.Events as event
use Rattle.channel_model.specs.Numbers.{request_row}
use Rattle.channel_model.specs.Returns.{dispatch_on_top, may_return, return}
use Rattle.channel_model.specs.Steps.{provided, step}
use Rattle.channel_model.proofs.Provided.{found-gives}
use Rattle.channel_model.proofs.SendParts.{request-number}
use Rattle.channel_laws.specs.EndActors.{HasIds, built_ids, shown_actor, standing, is_standing}
use Rattle.channel_laws.specs.Notes.{In, here, there}
use Rattle.channel_laws.proofs.ActorsKept.{zero-free}
use Rattle.channel_laws.proofs.Growing.{in-all, in-before, in-following}
use Rattle.channel_laws.proofs.Standing.{alive-built, alive-unfallen, built-lives}
use Rattle.progress_laws.proofs.Members.{in-filter}
use Rattle.law_statements.specs.Actors.{built, built_at, fallen, lives}
use Rattle.law_statements.specs.Fallen.{IsBelow, further, under}
use Rattle.law_statements.specs.Said.{line_of, said_by, said_in}
use Rattle.law_statements.specs.Stack.{stack}
use Rattle.law_statements.proofs.Ends.{said-own}
use Rattle.alone_laws.proofs.LivingActors.{made-append}
use Rattle.order_laws.specs.DueEffects.{IsManaged}
use Rattle.order_laws.specs.Order.{FirstLine}
use Rattle.order_laws.proofs.DueEffects.{destructors_delete, due_answers_are_given}
use Rattle.order_laws.proofs.Managers.{tree-managed}
use Rattle.order_statements.specs.Effects.{IsDeleted}
use Rattle.order_statements.specs.Shape.{deletes, is_destructor, request_sent}
use Rattle.order_statements.proofs.DispatchPlaces.{TakePlace, take-place}
use Rattle.order_statements.proofs.FirstLines.{IsLineOf, first-is, line-of-event}
use Rattle.order_statements.proofs.Places.{EventIn}
use Rattle.order_statements.proofs.Returning.{dispatch-read, request_handled}
use Rattle.order_statements.proofs.SentRequests.{IsSend, sends-alive, sent-by}
use Rattle.order_statements.proofs.TakenRequests.{taken-alive, taken-by}
use Rattle.order_statements.proofs.Tells.{EndTells, EventsAreTold, TellingStep, told-after}

-- Who was built

built-more : (xs ys : List BuiltActor) (id : ℤ) → was_built xs id ≡ true → was_built (xs ++ ys) id ≡ true
built-more xs ys id h = list_any-append (λ (a : BuiltActor). int_eq a.id id) xs ys ∙ ap (λ (b : Bool). b || was_built ys id) h

-- an actor that was built is still built when more is printed
pub built-later : (own more : List What) (id : ℤ) → was_built (built own) id ≡ true → was_built (built (own ++ more)) id ≡ true
built-later own more id h = subst (λ (xs : List BuiltActor). was_built (record { id = top_id; manager = pos 0 } ∷ xs) id ≡ true) (sym (made-append built_at [] own more)) (built-more (built own) _ id h)

-- an actor in the list was built
built-in : (earlier : List BuiltActor) (a : BuiltActor) (later : List BuiltActor) (id : ℤ) → a.id ≡ id → was_built (earlier ++ a ∷ later) id ≡ true
built-in [] a later id e = ap (λ (b : Bool). b || was_built later id) ((Decides-int_eq a.id id).1 e)
built-in (x ∷ earlier) a later id e = either (int_eq x.id id) (was_built (earlier ++ a ∷ later) id) (built-in earlier a later id e)
  where
    either : (b c : Bool) → c ≡ true → (b || c) ≡ true
    either true c h = refl
    either false c h = h

-- an actor that is below another was built
below-built : (actors : List BuiltActor) (id top : ℤ) → IsBelow actors id top → was_built actors id ≡ true
below-built actors id top (under _ earlier later a _ _ is e none manager) = subst (λ (xs : List BuiltActor). was_built xs id ≡ true) (sym is) (built-in earlier a later id e)
below-built actors id top (further _ earlier later a _ _ is e none more) = subst (λ (xs : List BuiltActor). was_built xs id ≡ true) (sym is) (built-in earlier a later id e)

in-middle : (earlier : List BuiltActor) (a : BuiltActor) (later : List BuiltActor) → In a (earlier ++ a ∷ later)
in-middle earlier a later = in-following earlier here

-- The actors below

in-shown : (xs : List Actor) (a : BuiltActor) → In a (map shown_actor xs) → (x : Actor) × In x xs × (shown_actor x ≡ a)
in-shown [] a i = elim i [ ]
in-shown (x ∷ xs) _ here = (x, here, refl)
in-shown (x ∷ xs) a (there i) = let r = in-shown xs a i in (r.0, there r.1, r.2)

never : {A : Type 0} (b : Bool) → b ≡ true → b ≡ false → A
never true h k = cc
never false h k = cc

module _ (all : List BuiltActor) (gone : List ℤ) (actors : List Actor) (stands : standing gone all ≡ map shown_actor actors) (is_tree : IsTree actors) (zero : was_built all (pos 0) ≡ false) where
  -- an actor does not live where its manager does not
  one-gone : (a : BuiltActor) → In a all → was_built all a.manager ≡ true → tree.lives a.manager actors ≡ false → tree.lives a.id actors ≡ false
  one-gone a i manager dead = by (tree.lives a.id actors) refl
    where
      alive : tree.lives a.id actors ≡ true → tree.lives a.id actors ≡ false
      alive is =
          let stays : In a (standing gone all) = in-filter (is_standing gone) all a i (ap not (alive-unfallen all gone actors a.id stands is)) in
          let x = in-shown actors a (subst (In a) stands stays) in
          let managed : IsManaged actors x.0 = in-all (IsManaged actors) x.1 (tree-managed actors is_tree) in
          managed-by managed (ap (λ (b : BuiltActor). b.manager) x.2)
        where
          managed-by : {x : Actor} → IsManaged actors x → x.manager ≡ a.manager → tree.lives a.id actors ≡ false
          managed-by (inl top) same = never (was_built all (pos 0)) (subst (λ (m : ℤ). was_built all m ≡ true) (sym same ∙ ap (λ (y : Actor). y.manager) top) manager) zero
          managed-by (inr lives) same = never (tree.lives a.manager actors) (subst (λ (m : ℤ). tree.lives m actors ≡ true) same lives) dead

      by : (b : Bool) → tree.lives a.id actors ≡ b → tree.lives a.id actors ≡ false
      by true is = alive is
      by false is = is

  -- no actor lives below an actor that does not
  below-gone : (top : ℤ) → was_built all top ≡ true → tree.lives top actors ≡ false → (front rest : List BuiltActor) (id : ℤ) → all ≡ front ++ rest → IsBelow front id top → tree.lives id actors ≡ false
  below-gone top there-is dead front rest id whole (under _ earlier later a _ _ is e none manager) =
      let i : In a all = subst (In a) (sym (whole ∙ ap (λ (xs : List BuiltActor). xs ++ rest) is)) (in-before rest (in-middle earlier a later)) in
      subst (λ (n : ℤ). tree.lives n actors ≡ false) e (one-gone a i (subst (λ (m : ℤ). was_built all m ≡ true) (sym manager) there-is) (subst (λ (m : ℤ). tree.lives m actors ≡ false) (sym manager) dead))
  below-gone top there-is dead front rest id whole (further _ earlier later a _ _ is e none more) =
      let split : all ≡ earlier ++ (a ∷ later ++ rest) = whole ∙ (ap (λ (xs : List BuiltActor). xs ++ rest) is ∙ append_assoc earlier (a ∷ later) rest) in
      let i : In a all = subst (In a) (sym split) (in-middle earlier a (later ++ rest)) in
      let manager : was_built all a.manager ≡ true = subst (λ (xs : List BuiltActor). was_built xs a.manager ≡ true) (sym split) (built-more earlier (a ∷ later ++ rest) a.manager (below-built earlier a.manager top more)) in
      subst (λ (n : ℤ). tree.lives n actors ≡ false) e (one-gone a i manager (below-gone top there-is dead earlier (a ∷ later ++ rest) a.manager split more))

-- no actor was built with the id 0
none-zero : (schema : Schema) (e : End) (all : List BuiltActor) → HasIds schema [] e all → was_built all (pos 0) ≡ false
none-zero schema e all ids = by (was_built all (pos 0)) refl
  where
    by : (b : Bool) → was_built all (pos 0) ≡ b → was_built all (pos 0) ≡ false
    by true is = absurd (zero-free (built_ids schema e all) (ids.known.taken (pos 0) (built-lives all (pos 0) ∙ is)))
    by false is = is

-- An actor that was built, and does not live after an event and its effects, is deleted.
pub deleted-after : (schema : Schema) {end : Side} {w : What} {before following : List Line} (i : EventIn (TellingStep schema end) end w before following) (id : ℤ) → was_built (built (said_by end before)) id ≡ true → tree.lives id i.output.end.actors ≡ false
    → IsDeleted end (said_by end before ++ w ∷ []) id following
deleted-after schema {end} {w} {before} i id there-is dead =
    let t : EndTells schema i.output.end end (before ++ i.output.lines) = i.by.tells_after in
    let same : said_by end (before ++ i.output.lines) ≡ (said_by end before ++ w ∷ []) ++ i.effects = told-after schema i ∙ sym (append_assoc (said_by end before) (w ∷ []) i.effects) in
    let own : List What = said_by end (before ++ i.output.lines) in
    let is_built : was_built (built own) id ≡ true = subst (λ (ws : List What). was_built (built ws) id ≡ true) (sym (told-after schema i)) (built-later (said_by end before) (w ∷ i.effects) id there-is) in
    record {
      effects = i.effects;
      are = i.has;
      gone = subst (λ (ws : List What). lives ws id ≡ false) same (t.alive id ∙ dead);
      below = λ n b. subst (λ (ws : List What). lives ws n ≡ false) same
          (t.alive n ∙ below-gone (built own) (fallen own) i.output.end.actors t.living t.ids.tree (none-zero schema i.output.end (built own) t.ids) id is_built dead (built own) [] n (sym (append-nil (built own))) (subst (λ (ws : List What). IsBelow (built ws) n id) (sym same) b));
    }

-- Destructors

deletes-kind : (kind : Kind) → deletes kind ≡ true → kind ≡ Delete
deletes-kind Normal h = cc
deletes-kind (Constructor protocol) h = cc
deletes-kind Delete h = refl

-- the row of a destructor
pub destructor-row : (schema : Schema) (number : ℕ) (row : MessageRow) → message_of schema number ≡ Some row → IsTrue (is_destructor schema number) → row.kind ≡ Delete
destructor-row schema number row found is = deletes-kind row.kind (sym (ap (λ (r : Option MessageRow). option_map_or (λ (x : MessageRow). deletes x.kind) r false) found) ∙ is)

pub request-event : (w : What) (q : HandledRequest) → request_sent w ≡ Some q → is_effect w ≡ false
request-event (what.Send n route number values) q h = refl
request-event (what.Call n transaction route number values) q h = refl
request-event _ q h = cc

pub sends-delete : (schema : Schema) (lines : List Line) → EventsAreTold schema lines
    → (end : Side) (w : What) (q : HandledRequest) (before following : List Line) → lines ≡ before ++ line_of end w ∷ following → request_sent w ≡ Some q → IsTrue (is_destructor schema q.number)
    → IsDeleted end (said_by end before ++ w ∷ []) q.route following
sends-delete schema lines told end w q before following at asked destructor =
    let i = told end w before following (request-event w q asked) at in
    let e : End = i.by.e in
    let s : IsSend schema e i.by.happened w q = sent-by schema e i.by.link i.output end w i.effects q asked i.by.happened i.by.made i.lines in
    let made : step schema e i.by.link (event.send q.route s.number s.values s.name) ≡ Some i.output = sym (ap (step schema e i.by.link) s.happens) ∙ i.by.made in
    let d = destructors_delete.sends schema e i.by.link s.row q.route s.number s.values s.name i.output s.sent (destructor-row schema q.number s.row s.found destructor) made in
    let alive : tree.lives q.route e.actors ≡ true = sends-alive schema e s.row q.route s.number s.values s.sent in
    deleted-after schema i q.route (alive-built (built (said_by end before)) (fallen (said_by end before)) e.actors q.route i.by.tells.living alive) d.gone

-- Returns

abbrev is_return : Event → Bool
is_return (event.return values) = true
is_return _ = false

return-says : (ev : Event) (n : ℤ) → IsLineOf ev (what.Return n) → is_return ev ≡ true
return-says (event.return values) n h = refl
return-says _ n h = absurd h

said-take : (end : Side) (front : List Line) (w : What) (back : List Line) → said_by end (front ++ line_of end w ∷ back) ≡ said_by end front ++ (w ∷ said_by end back)
said-take end front w back =
    ap (said_by end) (sym (append_assoc front (line_of end w ∷ []) back))
    ∙ (filter_map-append (said_in end) (front ++ line_of end w ∷ []) back ∙ (ap (λ (ws : List What). ws ++ said_by end back) (said-own end front w) ∙ append_assoc (said_by end front) (w ∷ []) (said_by end back)))

module _ (schema : Schema) (lines : List Line) (told : EventsAreTold schema lines) where
  -- the actor of a request that is handled was built
  pub dispatch-built : (end : Side) (before following : List Line) (d : HandledRequest) (below : List CallFrame) → lines ≡ before ++ following → stack schema end before ≡ frame.Dispatch d ∷ below → was_built (built (said_by end before)) d.route ≡ true
  dispatch-built end before following d below at top =
      let p : TakePlace end d before = take-place schema end before d below top in
      let w : What = what.Take d.seq d.route d.number p.values in
      let place : lines ≡ p.front ++ line_of end w ∷ (p.back ++ following) = at ∙ (ap (λ (ls : List Line). ls ++ following) p.is ∙ append_assoc p.front (line_of end w ∷ p.back) following) in
      let i = told end w p.front (p.back ++ following) refl place in
      let t : EndTells schema i.by.e end p.front = i.by.tells in
      let alive : tree.lives d.route i.by.e.actors ≡ true = taken-alive (taken-by schema i.by.e i.by.link i.output end d.seq d.route d.number p.values i.effects i.lines t.theirs t.origins i.by.happened i.by.made) in
      let then_built : was_built (built (said_by end p.front)) d.route ≡ true = alive-built (built (said_by end p.front)) (fallen (said_by end p.front)) i.by.e.actors d.route t.living alive in
      subst (λ (ws : List What). was_built (built ws) d.route ≡ true) (sym (ap (said_by end) p.is ∙ said-take end p.front w p.back)) (built-later (said_by end p.front) (w ∷ said_by end p.back) d.route then_built)

  module _ (end : Side) (n : ℤ) (d : HandledRequest) (below : List CallFrame) (before following : List Line) (at : lines ≡ before ++ line_of end (what.Return n) ∷ following) (top : stack schema end before ≡ frame.Dispatch d ∷ below) (destructor : IsTrue (is_destructor schema d.number)) where
    place : EventIn (TellingStep schema end) end (what.Return n) before following
    place = told end (what.Return n) before following refl at

    abbrev Result : Type 0
    Result = IsDeleted end (said_by end before ++ what.Return d.seq ∷ []) d.route following

    returned : (values : Option Values) (entry : StackEntry) (row : MessageRow) → dispatch_on_top place.by.e.stack ≡ Some entry → request_row schema entry.number ≡ Some row → step schema place.by.e place.by.link (event.return values) ≡ Some place.output → Result
    returned values entry row on_top found made =
        let e : End = place.by.e in
        let request : request_handled entry ≡ d = dispatch-read (stack schema end before) e.stack d below entry top place.by.tells.frames on_top in
        let kind : row.kind ≡ Delete = destructor-row schema entry.number row (request-number schema entry.number row found).1 (subst (λ (q : HandledRequest). IsTrue (is_destructor schema q.number)) (sym request) destructor) in
        let dead : tree.lives entry.route place.output.end.actors ≡ false = (destructors_delete.returns schema e place.by.link entry row values place.output on_top found kind made).gone in
        let said = (due_answers_are_given.returns schema e place.by.link entry row values place.output on_top found made).said in
        let number : what.Return n ≡ what.Return (head_of entry.frame).seq =
        first-is end (what.Return n) (what.Return (head_of entry.frame).seq) place.effects place.output.lines (subst (FirstLine (λ x. x ≡ what.Return (head_of entry.frame).seq)) (sym said) refl) place.lines
        in
        subst (λ (w : What). IsDeleted end (said_by end before ++ w ∷ []) d.route following) (number ∙ ap (λ (q : HandledRequest). what.Return q.seq) request)
        (deleted-after schema place d.route (dispatch-built end before (line_of end (what.Return n) ∷ following) d below at top) (subst (λ (q : HandledRequest). tree.lives q.route place.output.end.actors ≡ false) request dead))

    by-return : (ev : Event) → step schema place.by.e place.by.link ev ≡ Some place.output → is_return ev ≡ true → Result
    by-return (event.return values) made kind =
        found-gives (λ o. Result) (dispatch_on_top place.by.e.stack) (λ entry. option_and_then (λ row. provided (may_return schema row values) (return schema place.by.e row entry values) place.by.e) (request_row schema entry.number)) place.output
        (λ entry on_top k. found-gives (λ o. Result) (request_row schema entry.number) (λ row. provided (may_return schema row values) (return schema place.by.e row entry values) place.by.e) place.output
        (λ row found l. returned values entry row on_top found made) k) made
    by-return _ made kind = cc

    -- the return of a destructor's handler
    pub returns-delete : Result
    returns-delete = by-return place.by.happened place.by.made (return-says place.by.happened n (line-of-event schema place.by.e place.by.link place.by.happened place.output end (what.Return n) place.effects place.by.made place.lines))
