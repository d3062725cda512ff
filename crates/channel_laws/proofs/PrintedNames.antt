-- Whatever the text of a line of a legal history looks up is there: the numbers that an end keeps are noted by its
-- lines.
use Rattle.std.proofs.Common.{◌≡◌, ◌==◌, ℕ, ◌/◌, ℤ, Bool, true, false, ◌&&◌, ◌||◌, if◌then◌else◌, int_eq, List, [], ◌∷◌, ◌++◌, map, Option, Some, None, is_some, option_and_then, refl, sym, ap, subst, ◌∙◌, append_assoc}
use Rattle.std.specs.List.{AllByRecursion, slice_get}
use Rattle.std.specs.Option.{option_map_or}
use Rattle.std.proofs.lemmas.Bool.Decides.{Decides-int_eq}
use Rattle.std.proofs.lemmas.List.{append-nil}
use Rattle.ipdl_base.specs.declared.kinds.Side.{Side}
use Rattle.ipdl_base.specs.declared.kinds.Side.TheVariants.{Parent, Child}
use Rattle.ipdl_base.specs.declared.line.Line.{Line}
use Rattle.ipdl_base.specs.declared.line.What.{What}
use Rattle.ipdl_base.specs.declared.line.What.TheVariants as what
use Rattle.ipdl_base.specs.declared.schema.MessageRow.{MessageRow}
use Rattle.ipdl_base.specs.declared.schema.ProtocolRow.{ProtocolRow}
use Rattle.ipdl_base.specs.declared.schema.Schema.{Schema}
use Rattle.ipdl_base.specs.Lines.{same_side}
use Rattle.ipdl_base.specs.Sound.{IsSound}
use Rattle.ipdl_base.proofs.Numbers.{no_protocol}
use Rattle.history.specs.Messages.{given, message_at, message_of_number}
use Rattle.history_reading.specs.Holds.{is_readable_what}
use Rattle.history_reading.specs.declared.parts.CallFrame.{CallFrame}
use Rattle.history_reading.specs.Reading.{Reading, after, end_reading_of, opening_reading}
use Rattle.history_reading.specs.Rows.{is_request_number}
use Rattle.channel_model.specs.Ends.{End, World, Packet, opening}
use Rattle.channel_model.specs.Events.{Event, Move}
use Rattle.channel_model.specs.Events as event
use Rattle.channel_model.specs.Outputs.{Output, line_at}
use Rattle.channel_model.specs.Parts as parts
use Rattle.channel_model.specs.Parts.{OwnParts}
use Rattle.channel_model.specs.Runs.{RunState, passed_by, happens, run, history_of}
use Rattle.channel_model.specs.StepLaws.{IsStepOfParts, IsMadeOf}
use Rattle.channel_model.specs.Steps.{step}
use Rattle.channel_model.proofs.Known.{all-append, all-before, all-following, all-map}
use Rattle.channel_model.proofs.StepParts.{steps_are_made_of_parts}
use Rattle.channel_laws.specs.NestedWorlds.{IsNestedWorld}
use Rattle.channel_laws.specs.PrintedNames.{is_printable_message, is_noted_message, finds_names, LinesNameWhatIsPrinted}
use Rattle.channel_laws.specs.Tested.{LinesPass, test_at}
use Rattle.channel_laws.proofs.FallOrder.{or-right}
use Rattle.channel_laws.proofs.Origins.{or-left}
use Rattle.channel_laws.proofs.Testing.{same-side}
use Rattle.channel_laws.proofs.EveryRun.{nested_worlds_stay, end-side}
use Rattle.channel_laws.proofs.NumberParts.{Asks, Gives, KeepsNumbers, asks-grow, gives-grow, keeps-grow, delivery-asks, first-asks, laters-ask, first-makes, delivery-keeps, first-keeps, laters-keep}
use Rattle.channel_laws.proofs.Readable.{run-reads}
use Rattle.channel_laws.proofs.Runs.{side-lines}

-- Numbers that lines give

-- the number has a message at an end, by the lines before
abbrev IsNoted : Side → List Line → ℤ → Type 0
IsNoted side before n = is_some (message_of_number side before n) ≡ true

either-some : (later here : Option ℕ) → is_some (if is_some later then later else here) ≡ is_some later || is_some here
either-some None here = refl
either-some (Some n) here = refl

or-more : (a b c : Bool) → (a ≡ true → c ≡ true) → a || b ≡ true → c || b ≡ true
or-more true b c f e = or-left c b (f refl)
or-more false b c f e = or-right c b e

noted-more : (side : Side) (xs ys : List Line) (n : ℤ) → IsNoted side xs n → IsNoted side (xs ++ ys) n
noted-more side [] ys n h = cc
noted-more side (x ∷ xs) ys n h =
    either-some (message_of_number side (xs ++ ys) n) (message_at side n x)
    ∙ or-more (is_some (message_of_number side xs n)) (is_some (message_at side n x)) (is_some (message_of_number side (xs ++ ys) n)) (noted-more side xs ys n) (sym (either-some (message_of_number side xs n) (message_at side n x)) ∙ h)

noted-later : (side : Side) (xs ys : List Line) (n : ℤ) → IsNoted side ys n → IsNoted side (xs ++ ys) n
noted-later side [] ys n h = h
noted-later side (x ∷ xs) ys n h = either-some (message_of_number side (xs ++ ys) n) (message_at side n x) ∙ or-left (is_some (message_of_number side (xs ++ ys) n)) (is_some (message_at side n x)) (noted-later side xs ys n h)

here-noted : (side : Side) (w : What) (rest : List Line) (n : ℤ) (message : ℕ) → given w ≡ Some (n, message) → IsNoted side (line_at side w ∷ rest) n
here-noted side w rest n message is =
    let own : message_at side n (line_at side w) ≡ option_and_then (λ (g : ℤ × ℕ). if int_eq g.0 n then Some g.1 else None) (given w) = ap (λ (b : Bool). if b then option_and_then (λ (g : ℤ × ℕ). if int_eq g.0 n then Some g.1 else None) (given w) else None) (same-side side) in
    let same : option_and_then (λ (g : ℤ × ℕ). if int_eq g.0 n then Some g.1 else None) (given w) ≡ Some message =
    ap (λ (o : Option (ℤ × ℕ)). option_and_then (λ (g : ℤ × ℕ). if int_eq g.0 n then Some g.1 else None) o) is ∙ ap (λ (b : Bool). if b then Some message else None) ((Decides-int_eq n n).1 refl) in
    either-some (message_of_number side rest n) (message_at side n (line_at side w)) ∙ or-right (is_some (message_of_number side rest n)) (is_some (message_at side n (line_at side w))) (ap (λ (o : Option ℕ). is_some o) (own ∙ same))

gives-here : (side : Side) (w : What) (rest : List Line) → Gives (IsNoted side (line_at side w ∷ rest)) w
gives-here side (what.Send n route number vs) rest = here-noted side (what.Send n route number vs) rest n number refl
gives-here side (what.Call n transaction route number vs) rest = here-noted side (what.Call n transaction route number vs) rest n number refl
gives-here side (what.Take n route number vs) rest = here-noted side (what.Take n route number vs) rest n number refl
gives-here side _ rest = tt

gives-all : (side : Side) (ws : List What) (following : List Line) → AllByRecursion (Gives (IsNoted side (map (line_at side) ws ++ following))) ws
gives-all side [] following = tt
gives-all side (w ∷ ws) following = (
  gives-here side w (map (line_at side) ws ++ following),
  all-map (Gives (IsNoted side (map (line_at side) ws ++ following))) (Gives (IsNoted side (line_at side w ∷ map (line_at side) ws ++ following))) ws
      (λ v h. gives-grow (IsNoted side (map (line_at side) ws ++ following)) (IsNoted side (line_at side w ∷ map (line_at side) ws ++ following)) (noted-later side (line_at side w ∷ []) (map (line_at side) ws ++ following)) v h) (gives-all side ws following),
)

-- Lines that look up what is there

module _ (schema : Schema) where
  abbrev LinesAsk : List Line → List Line → Type 0
  LinesAsk before [] = Unit {0}
  LinesAsk before (line ∷ rest) = Asks schema (IsNoted line.side before) line.what × LinesAsk (before ++ line ∷ []) rest

  ask-append : (before xs ys : List Line) → LinesAsk before xs → LinesAsk (before ++ xs) ys → LinesAsk before (xs ++ ys)
  ask-append before [] ys h k = subst (λ (b : List Line). LinesAsk b ys) (append-nil before) k
  ask-append before (x ∷ xs) ys h k = (h.0, ask-append (before ++ x ∷ []) xs ys h.1 (subst (λ (b : List Line). LinesAsk b ys) (sym (append_assoc before (x ∷ []) xs)) k))

  end-asks : (side : Side) (ws : List What) (before : List Line) → AllByRecursion (Asks schema (IsNoted side before)) ws → LinesAsk before (map (line_at side) ws)
  end-asks side [] before h = tt
  end-asks side (w ∷ ws) before h = (
    h.0,
    end-asks side ws (before ++ line_at side w ∷ [])
        (all-map (Asks schema (IsNoted side before)) (Asks schema (IsNoted side (before ++ line_at side w ∷ []))) ws (λ v k. asks-grow schema (IsNoted side before) (IsNoted side (before ++ line_at side w ∷ [])) (noted-more side before (line_at side w ∷ [])) v k) h.1),
  )

  asked-at : (front before : List Line) (line : Line) (following : List Line) → LinesAsk front (before ++ line ∷ following) → Asks schema (IsNoted line.side (front ++ before)) line.what
  asked-at front [] line following h = subst (λ (b : List Line). Asks schema (IsNoted line.side b) line.what) (sym (append-nil front)) h.0
  asked-at front (x ∷ before) line following h = subst (λ (b : List Line). Asks schema (IsNoted line.side b) line.what) (append_assoc front (x ∷ []) before) (asked-at (front ++ x ∷ []) before line following h.1)

  -- Steps

  -- the lines of a step look up only what is noted before them, and after them all that the end keeps is noted
  record StepAsks (side : Side) (before : List Line) (output : Output) : Type 0 where
    pub asks : LinesAsk before output.lines
    pub keeps : KeepsNumbers (IsNoted side (before ++ output.lines)) output.end

  made-asks : (side : Side) (before : List Line) (output : Output) (ws : List What) → output.lines ≡ map (line_at side) ws → AllByRecursion (Asks schema (IsNoted side before)) ws → KeepsNumbers (IsNoted side (before ++ map (line_at side) ws)) output.end → StepAsks side before output
  made-asks side before output ws lines a k = record {
    asks = subst (LinesAsk before) (sym lines) (end-asks side ws before a);
    keeps = subst (λ (ls : List Line). KeepsNumbers (IsNoted side (before ++ ls)) output.end) (sym lines) k;
  }

  module _ (sound : IsSound schema) where
    own-asks : (side : Side) (before : List Line) (e : End) (output : Output) → e.side ≡ side → KeepsNumbers (IsNoted side before) e → IsMadeOf (OwnParts schema e) e.side output → StepAsks side before output
    own-asks side before e output is k m = by m.parts (side-lines e side output.lines m.whats is m.lines)
      where
        by : {ws : List What} {ps : List Packet} {q : _} → OwnParts schema e ws ps output.end q → output.lines ≡ map (line_at side) ws → StepAsks side before output
        by (parts.begun {ws} {vs} first rest over) lines =
            let P : ℤ → Type 0 = IsNoted side before in
            let Q : ℤ → Type 0 = IsNoted side (before ++ map (line_at side) (ws ++ vs)) in
            let all : AllByRecursion (Gives (IsNoted side (map (line_at side) (ws ++ vs) ++ []))) (ws ++ vs) = gives-all side (ws ++ vs) [] in
            let gives : AllByRecursion (Gives Q) (ws ++ vs) =
            all-map (Gives (IsNoted side (map (line_at side) (ws ++ vs) ++ []))) (Gives Q) (ws ++ vs)
            (λ w h. gives-grow (IsNoted side (map (line_at side) (ws ++ vs) ++ [])) Q (λ n g. noted-later side before (map (line_at side) (ws ++ vs)) n (subst (λ (ls : List Line). IsNoted side ls n) (append-nil (map (line_at side) (ws ++ vs))) g)) w h) all in
            made-asks side before output (ws ++ vs) lines
            (all-append (Asks schema P) ws vs (first-asks schema P first k) (laters-ask schema P rest (first-makes schema P sound first)))
            (laters-keep schema Q rest (first-keeps schema Q first (all-before (Gives Q) ws vs gives) (keeps-grow P Q (noted-more side before (map (line_at side) (ws ++ vs))) e k)))

    step-asks : (side : Side) (before : List Line) (e : End) (link : List Packet) (ev : Event) (output : Output) → e.side ≡ side → step schema e link ev ≡ Some output → KeepsNumbers (IsNoted side before) e → StepAsks side before output
    step-asks side before e link ev output same is k = by ev (steps_are_made_of_parts schema e link ev output is)
      where
        by : (ev : Event) → IsStepOfParts schema e link ev output → StepAsks side before output
        by event.deliver (packet, first, opened, m) =
            let Q : ℤ → Type 0 = IsNoted side (before ++ map (line_at side) m.whats) in
            made-asks side before output m.whats (side-lines e side output.lines m.whats same m.lines) (delivery-asks schema (IsNoted side before) m.parts)
            (delivery-keeps schema Q m.parts (keeps-grow (IsNoted side before) Q (noted-more side before (map (line_at side) m.whats)) e k))
        by (event.send route number vs name) m = own-asks side before e output same k m
        by (event.answer how vs) m = own-asks side before e output same k m
        by (event.keep seq name) m = own-asks side before e output same k m
        by (event.name name id) m = own-asks side before e output same k m
        by event.close m = own-asks side before e output same k m
        by event.die m = own-asks side before e output same k m
        by event.take m = own-asks side before e output same k m
        by (event.return vs) m = own-asks side before e output same k m
        by event.resume m = own-asks side before e output same k m
        by event.flush m = own-asks side before e output same k m

    -- Runs

    -- all that both ends keep is noted
    abbrev WorldKeeps : List Line → World → Type 0
    WorldKeeps before w = KeepsNumbers (IsNoted Parent before) w.parent × KeepsNumbers (IsNoted Child before) w.child

    record MoveAsks (before : List Line) (state : RunState) : Type 0 where
      pub asks : LinesAsk before state.lines
      pub keeps : WorldKeeps (before ++ state.lines) state.world

    grown : (side : Side) (before more : List Line) (e : End) → KeepsNumbers (IsNoted side before) e → KeepsNumbers (IsNoted side (before ++ more)) e
    grown side before more e k = keeps-grow (IsNoted side before) (IsNoted side (before ++ more)) (noted-more side before more) e k

    move-asks : (move : Move) (w : World) (before : List Line) → IsNestedWorld schema w → WorldKeeps before w → MoveAsks before (happens schema w move)
    move-asks move w before nested k = at move.side move.event
      where
        at : (side : Side) (ev : Event) → MoveAsks before (happens schema w (record { side = side; event = ev }))
        at Parent ev = by (step schema w.parent w.to_parent ev) refl
          where
            by : (found : Option Output) → step schema w.parent w.to_parent ev ≡ found → MoveAsks before (passed_by found (record { side = Parent; event = ev }) w)
            by None is = record { asks = tt; keeps = subst (λ (b : List Line). WorldKeeps b w) (sym (append-nil before)) k }
            by (Some output) is =
                let s : StepAsks Parent before output = step-asks Parent before w.parent w.to_parent ev output (end-side schema Parent w nested) is k.0 in
                record { asks = s.asks; keeps = (s.keeps, grown Child before output.lines w.child k.1) }
        at Child ev = by (step schema w.child w.to_child ev) refl
          where
            by : (found : Option Output) → step schema w.child w.to_child ev ≡ found → MoveAsks before (passed_by found (record { side = Child; event = ev }) w)
            by None is = record { asks = tt; keeps = subst (λ (b : List Line). WorldKeeps b w) (sym (append-nil before)) k }
            by (Some output) is =
                let s : StepAsks Child before output = step-asks Child before w.child w.to_child ev output (end-side schema Child w nested) is k.1 in
                record { asks = s.asks; keeps = (grown Parent before output.lines w.parent k.0, s.keeps) }

    run-asks : (moves : List Move) (w : World) (before : List Line) → IsNestedWorld schema w → WorldKeeps before w → LinesAsk before (run schema moves w).lines
    run-asks [] w before nested k = tt
    run-asks (move ∷ moves) w before nested k =
        let next : RunState = happens schema w move in
        let m : MoveAsks before next = move-asks move w before nested k in
        ask-append before next.lines (run schema moves next.world).lines m.asks (run-asks moves next.world (before ++ next.lines) (nested_worlds_stay.stays schema sound move w nested) m.keeps)

    history-asks : (top : ℕ) (moves : List Move) → LinesAsk [] (history_of schema top moves)
    history-asks top moves = run-asks moves (opening top) [] (nested_worlds_stay.opening schema top) (record { stack = tt; names = tt; promised = tt }, record { stack = tt; names = tt; promised = tt })

    -- Messages

    printable : (number : ℕ) → is_request_number schema number ≡ true → is_printable_message schema number ≡ true
    printable number is = by (slice_get schema.protocols (number / 65536)) refl
      where
        by : (found : Option ProtocolRow) → slice_get schema.protocols (number / 65536) ≡ found → is_some (slice_get schema.protocols (number / 65536)) && is_request_number schema number ≡ true
        by None e =
            let none : false ≡ true = ap (λ (r : Option MessageRow). option_map_or (λ (x : MessageRow). x.number == number) r false) (no_protocol schema number sound e) ∙ is in
            cc
        by (Some protocol) e = ap (λ (o : Option ProtocolRow). is_some o && is_request_number schema number) e ∙ is

    -- if a line names a message, it is in the schema
    abbrev NamesMessage : What → Type 0
    NamesMessage (what.Send n route number vs) = is_printable_message schema number ≡ true
    NamesMessage (what.Call n transaction route number vs) = is_printable_message schema number ≡ true
    NamesMessage (what.RefusedSend cause number) = is_printable_message schema number ≡ true
    NamesMessage (what.Take n route number vs) = is_printable_message schema number ≡ true
    NamesMessage (what.Drop n route number id) = is_printable_message schema number ≡ true
    NamesMessage _ = Unit {0}

    readable-names : (stack : List CallFrame) (w : What) → is_readable_what schema stack w ≡ true → NamesMessage w
    readable-names stack (what.Send n route number vs) is = printable number is
    readable-names stack (what.Call n transaction route number vs) is = printable number is
    readable-names stack (what.RefusedSend cause number) is = printable number is
    readable-names stack (what.Take n route number vs) is = printable number is
    readable-names stack (what.Drop n route number id) is = printable number is
    readable-names stack _ is = tt

    lines-name : (r : Reading) (lines following : List Line) → LinesPass schema (test_at (λ own other said. is_readable_what schema own.stack said)) r lines following → AllByRecursion (λ line. NamesMessage line.what) lines
    lines-name r [] following p = tt
    lines-name r (l ∷ ls) following p = (readable-names (end_reading_of l.side r).stack l.what p.0, lines-name (after schema r l) ls following p.1)

    abbrev numbered : ℤ → ℤ × ℕ → Option ℕ
    numbered n g = if int_eq g.0 n then Some g.1 else None

    given-printable : (n : ℤ) (g : ℤ × ℕ) → is_printable_message schema g.1 ≡ true → is_some (numbered n g) ≡ true → is_noted_message schema (numbered n g) ≡ true
    given-printable n g is some = by (int_eq g.0 n) some
      where
        by : (b : Bool) → is_some (if b then Some g.1 else None) ≡ true → is_noted_message schema (if b then Some g.1 else None) ≡ true
        by true e = is
        by false e = cc

    what-printable : (n : ℤ) (w : What) → NamesMessage w → is_some (option_and_then (numbered n) (given w)) ≡ true → is_noted_message schema (option_and_then (numbered n) (given w)) ≡ true
    what-printable n (what.Send m route number vs) is some = given-printable n (m, number) is some
    what-printable n (what.Call m transaction route number vs) is some = given-printable n (m, number) is some
    what-printable n (what.Take m route number vs) is some = given-printable n (m, number) is some
    what-printable n _ is some = cc

    line-printable : (side : Side) (n : ℤ) (l : Line) → NamesMessage l.what → is_some (message_at side n l) ≡ true → is_noted_message schema (message_at side n l) ≡ true
    line-printable side n l is some = by (same_side l.side side) some
      where
        by : (b : Bool) → is_some (if b then option_and_then (numbered n) (given l.what) else None) ≡ true → is_noted_message schema (if b then option_and_then (numbered n) (given l.what) else None) ≡ true
        by true e = what-printable n l.what is e
        by false e = cc

    noted-printable : (side : Side) (before : List Line) (n : ℤ) → AllByRecursion (λ line. NamesMessage line.what) before → IsNoted side before n → is_noted_message schema (message_of_number side before n) ≡ true
    noted-printable side [] n all h = cc
    noted-printable side (x ∷ xs) n all h = by (message_of_number side xs n) (noted-printable side xs n all.1) h
      where
        by : (later : Option ℕ) → (is_some later ≡ true → is_noted_message schema later ≡ true) → is_some (if is_some later then later else message_at side n x) ≡ true → is_noted_message schema (if is_some later then later else message_at side n x) ≡ true
        by None rec e = line-printable side n x all.0 e
        by (Some number) rec e = rec refl

    finds : (side : Side) (before : List Line) (w : What) → AllByRecursion (λ line. NamesMessage line.what) before → NamesMessage w → Asks schema (IsNoted side before) w → finds_names schema (message_of_number side before) w ≡ true
    finds side before (what.Send n route number vs) all is a = is
    finds side before (what.Call n transaction route number vs) all is a = is
    finds side before (what.RefusedSend cause number) all is a = is
    finds side before (what.Take n route number vs) all is a = is
    finds side before (what.Drop n route number id) all is a = is
    finds side before (what.Built id protocol) all is a = a
    finds side before (what.Resolve n vs) all is a = noted-printable side before n all a
    finds side before (what.ResumeOk n vs) all is a = noted-printable side before n all a
    finds side before (what.AnswerOk n vs) all is a = noted-printable side before n all a
    finds side before (what.Resolved n vs) all is a = noted-printable side before n all a
    finds side before _ all is a = refl

pub lines_name_what_is_printed : LinesNameWhatIsPrinted
lines_name_what_is_printed schema sound top moves before line following whole =
    let named : AllByRecursion (λ l. NamesMessage schema sound l.what) (before ++ line ∷ following) =
    subst (AllByRecursion (λ l. NamesMessage schema sound l.what)) whole (lines-name schema sound opening_reading (history_of schema top moves) [] ((run-reads schema sound top moves).passes [])) in
    finds schema sound line.side before line.what
    (all-before (λ l. NamesMessage schema sound l.what) before (line ∷ following) named)
    (all-following (λ l. NamesMessage schema sound l.what) before (line ∷ following) named).0
    (asked-at schema [] before line following (subst (LinesAsk schema []) whole (history-asks schema sound top moves)))
