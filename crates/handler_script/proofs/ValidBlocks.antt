-- A script that breaks no rule is valid.
use Rattle.std.proofs.Common.{◌≡◌, ℕ, ◌+◌, ◌≤◌, Bool, true, false, not, cond, ◌||◌, List, [], ◌∷◌, ◌++◌, length, map, take, drop, Option, Some, None, inl, inr, refl, sym, ap, ◌∙◌, subst, append-nil, append_assoc, arith}
use Rattle.std.specs.Prelude.{if◌then◌else◌, IsTrue, IfSome, IsSomeAnd, option_and_then, slice_get, count_by}
use Rattle.std.specs.List.{All, AllByRecursion, filter_map, cons_option, list_any}
use Rattle.std.specs.Option.{option_map, option_map_or}
use Rattle.std.proofs.Math.Bool.{or-false}
use Rattle.std.proofs.lemmas.Bool.{true≢false, cases_Bool, false_from_ne_true}
use Rattle.std.proofs.lemmas.List.Elements.{All-from_recursion}
use Rattle.std.proofs.lemmas.List.Recursion.{is_count_by}
use Rattle.std.proofs.lemmas.List.Folds.{list_any-append}
use Rattle.std.proofs.lemmas.List.{length-append, length-map}
use Rattle.std.proofs.Math.Seq.{take-append_seam, drop-append_seam}
use Rattle.ipdl_base.specs.declared.finding.Finding.{Finding}
use Rattle.ipdl_base.specs.declared.finding.TheConstants.Rule as rule
use Rattle.ipdl_base.specs.declared.finding.Rule.{Rule}
use Rattle.ipdl_base.specs.declared.kinds.Side.{Side}
use Rattle.ipdl_base.specs.declared.schema.MessageRow.{MessageRow}
use Rattle.ipdl_base.specs.declared.schema.ParamRow.{ParamRow}
use Rattle.ipdl_base.specs.declared.schema.Schema.{Schema}
use Rattle.ipdl_base.specs.declared.schema.Shape.{Shape}
use Rattle.ipdl_base.specs.Sound.{IsSound, message_of}
use Rattle.script_reader.specs.declared.line.LineReading.{LineReading}
use Rattle.script_reader.specs.declared.line.LineReading.TheVariants as line
use Rattle.script_reader.specs.declared.statement.Statement.{Statement}
use Rattle.script_reader.specs.declared.statement.Statement.TheVariants as forms
use Rattle.script_reader.specs.declared.statement.MessageName.{MessageName}
use Rattle.script_reader.specs.Lines.{lines_of, AreRead, IsReading}
use Rattle.handler_script.specs.declared.action.Action.{Action}
use Rattle.handler_script.specs.declared.action.Block.{Block}
use Rattle.handler_script.specs.declared.action.Action.TheVariants as action
use Rattle.handler_script.specs.declared.term.Term.{Term, Union', Maybe', Held-Term-Maybe-0, None', Some'}
use Rattle.handler_script.specs.declared.term.Term.TheVariants as term
use Rattle.handler_script.specs.declared.term.Terms.{Terms, First'}
use Rattle.handler_script.specs.declared.term.Terms.TheVariants as terms
use Rattle.handler_script.specs.Blocks.{opens, closes, answers, statements, BlockContext, in_main, in_handler, standing_of, handled_in}
use Rattle.handler_script.specs.Knowing.{place_of}
use Rattle.handler_script.specs.Broken.{line_place, NamesNone, BlockBreaks, LineBreaks, StatementBreaks, is_misdirected, is_uncarried, IsBroken}
use Rattle.handler_script.specs.Messages.{message_named, named, receives, resolves, replies, is_constructor}
use Rattle.handler_script.specs.Plain.{plain_term, plain_held, plain_terms, plain_action, plain_block}
use Rattle.handler_script.specs.ScriptOf.{inside, action_of, reply_of, first_of, block_of, blocks_at, blocks_of}
use Rattle.handler_script.specs.Valid.{TermFits, HeldTermFits, AllTermsFit, EachTermFits, IsSendable, IsValidAction, answers_handled, IsValidIn, IsHandledBy, IsValidBlock}
use Rattle.handler_script.proofs.Names.{Names, statement_names}
use Rattle.handler_script.proofs.Built.{said_last}
use Rattle.handler_script.proofs.Standing.{place_more, place_opened, place_kept, stands}
use Rattle.value_types.specs.Shapes.{element_of, held_by, fields_of, component_of}
use Rattle.handler_script.proofs.TermFit.{is_true}
use Rattle.handler_script.proofs.ValidActions.{IsUnbroken, some_in, message_numbered, action_valid, reply_valid, answers_alike, answers_once}

-- Lines that break no rule, after others

abbrev pub AreKept : Schema → List LineReading → List LineReading → Type 0
AreKept schema before [] = Unit {0}
AreKept schema before (x ∷ rest) = ((r : Rule) → ¬ LineBreaks schema r (statements before) x (statements rest)) × AreKept schema (before ++ x ∷ []) rest

slice_get-seam : (before : List LineReading) (x : LineReading) (rest : List LineReading) → slice_get (before ++ x ∷ rest) (length before) ≡ Some x
slice_get-seam [] x rest = refl
slice_get-seam (y ∷ ys) x rest = slice_get-seam ys x rest

length-more : (before : List LineReading) (x : LineReading) → length (before ++ x ∷ []) ≡ length before + 1
length-more [] x = refl
length-more (y ∷ ys) x = let h = length-more ys x in omega (arith, h)

line_kept : (schema : Schema) (top : ℕ) (before : List LineReading) (x : LineReading) (rest : List LineReading) → ((f : Finding) → ¬ IsBroken schema top (before ++ x ∷ rest) f) → (r : Rule) → ¬ LineBreaks schema r (statements before) x (statements rest)
line_kept schema top before x rest kept r h =
    let all : List LineReading = before ++ x ∷ rest in
    let f : Finding = record { place = line_place (length before + 1); rule = r } in
    let split : before ++ x ∷ rest ≡ (before ++ x ∷ []) ++ rest = sym (append_assoc before (x ∷ []) rest) in
    let front : take (length before) (before ++ x ∷ rest) ≡ before = take-append_seam before (x ∷ rest) in
    let back : drop (length before + 1) (before ++ x ∷ rest) ≡ rest =
    ap (drop (length before + 1)) split ∙ (ap (λ n. drop n ((before ++ x ∷ []) ++ rest)) (sym (length-more before x)) ∙ drop-append_seam (before ++ x ∷ []) rest)
    in
    let P : List LineReading → Type 0 = λ ls. LineBreaks schema r (statements ls) x (statements (drop (length before + 1) (before ++ x ∷ rest))) in
    let Q : List LineReading → Type 0 = λ ls. LineBreaks schema r (statements before) x (statements ls) in
    kept f (inr (length before, x, slice_get-seam before x rest, (refl, subst P (sym front) (subst Q (sym back) h))))

pub are_kept : (schema : Schema) (top : ℕ) (before rest : List LineReading) → ((f : Finding) → ¬ IsBroken schema top (before ++ rest) f) → AreKept schema before rest
are_kept schema top before [] kept = tt
are_kept schema top before (x ∷ rest) kept =
    let P : List LineReading → Type 0 = λ ls. (f : Finding) → ¬ IsBroken schema top ls f in
    (line_kept schema top before x rest kept, are_kept schema top (before ++ x ∷ []) rest (subst P (sym (append_assoc before (x ∷ []) rest)) kept))

-- The names in lines

abbrev pub LineNames : LineReading → Type 0
LineNames (line.Statement held) = Names held.value
LineNames _ = Unit {0}

abbrev pub AllNames : List LineReading → Type 0
AllNames [] = Unit {0}
AllNames (x ∷ rest) = LineNames x × AllNames rest

pub read_names : (lines : List (List ℕ)) (readings : List LineReading) → AreRead lines readings → AllNames readings
read_names [] [] h = tt
read_names [] (x ∷ rest) h = absurd h
read_names (l ∷ lines) [] h = absurd h
read_names (l ∷ lines) (line.Silent ∷ rest) h = (tt, read_names lines rest h.1)
read_names (l ∷ lines) (line.Statement held ∷ rest) h = (statement_names l held.value h.0.2, read_names lines rest h.1)
read_names (l ∷ lines) (line.NoStatement ∷ rest) h = (tt, read_names lines rest h.1)
read_names (l ∷ lines) (line.TooLong ∷ rest) h = (tt, read_names lines rest h.1)

answered_more : (above : List Statement) (s : Statement) → list_any answers (above ++ s ∷ []) ≡ (list_any answers above || answers s)
answered_more above s = list_any-append answers above (s ∷ []) ∙ ap (λ b. list_any answers above || b) (or-false (answers s))

-- a statement of a line, in the block that is open
unbroken : (schema : Schema) (first : Statement) (b : BlockContext) (before above : List Statement) (s : Statement) (below : List Statement) → standing_of schema first ≡ Some b → place_of before ≡ Some (first, above) → ((r : Rule) → ¬ StatementBreaks schema r before s below)
    → IsUnbroken schema (list_any answers above) b s below
unbroken schema first b before above s below st e h =
    let known : ¬ NamesNone (named schema s) s = λ n. h rule.UNKNOWN_MESSAGE (inr (inl (refl, n))) in
    let here : (r : Rule) → ¬ BlockBreaks schema r (named schema s) (list_any answers above) b s below =
    λ r broken. h r (inr (inr (known, inr (first, above, stands before first above e, some_in (λ c. BlockBreaks schema r (named schema s) (list_any answers above) c s below) (standing_of schema first) b st broken))))
    in
    record {
      known = known;
      direction = λ d. here rule.WRONG_DIRECTION (inl (refl, d));
      values = λ d. here rule.UNFIT_VALUES (inr (inl (refl, d)));
      quiet = false_from_ne_true _ (λ d. here rule.NOT_ALLOWED_HERE (inr (inr (inl (refl, inl d)))));
      placed = λ d. here rule.NOT_ALLOWED_HERE (inr (inr (inl (refl, inr d))));
      carried = λ d. here rule.UNCARRIED_TYPE (inr (inr (inr (refl, d))));
    }

-- The statements of a block

abbrev counted : List Action → ℕ
counted [] = 0
counted (a ∷ actions) = cond (answers_handled a) (1 + counted actions) (counted actions)

abbrev IsReply : Schema → BlockContext → Terms → Type 0
IsReply schema b values = IsSomeAnd (option_and_then replies (handled_in b)) (λ returns. EachTermFits schema b returns values)

-- the actions and the reply of statements can be done and given, and at most one of them answers, and none if a line already did
record AreValid (schema : Schema) (b : BlockContext) (answered : Bool) (ss : List Statement) : Type 0 where
  pub actions : AllByRecursion (IsValidAction schema b) (filter_map (action_of schema b) ss)
  pub once : counted (filter_map (action_of schema b) ss) ≤ cond answered 0 1
  pub reply : IfSome (first_of (filter_map (reply_of schema b) ss)) (IsReply schema b)

is_counted : (actions : List Action) → counted actions ≡ count_by answers_handled actions
is_counted actions = is_count_by counted answers_handled refl (λ x xs. refl) actions

some_map : {X : Type 0} (P Q : X → Type 0) (o : Option X) → IsSomeAnd o P → ((x : X) → P x → Q x) → IsSomeAnd o Q
some_map P Q None h f = absurd h
some_map P Q (Some x) h f = f x h

cons_valid : {X : Type 0} (P : X → Type 0) (o : Option X) (xs : List X) → IfSome o P → AllByRecursion P xs → AllByRecursion P (cons_option o xs)
cons_valid P None xs h k = k
cons_valid P (Some x) xs h k = (h, k)

first_valid : {X : Type 0} (P : X → Type 0) (o : Option X) (xs : List X) → IfSome o P → IfSome (first_of xs) P → IfSome (first_of (cons_option o xs)) P
first_valid P None xs h k = k
first_valid P (Some x) xs h k = h

once_more : (o : Option Action) (actions : List Action) (answered t : Bool) → IfSome o (λ a. answers_handled a ≡ t) → (t ≡ true → answered ≡ false) → counted actions ≤ cond (answered || t) 0 1 → counted (cons_option o actions) ≤ cond answered 0 1
once_more None actions true t h k n = n
once_more None actions false true h k n = omega arith
once_more None actions false false h k n = n
once_more (Some a) actions true true h k n = absurd (true≢false (k refl))
once_more (Some a) actions true false h k n = rw h n
once_more (Some a) actions false true h k n = rw h (omega arith)
once_more (Some a) actions false false h k n = rw h n

none_valid : (schema : Schema) (b : BlockContext) (answered : Bool) → AreValid schema b answered []
none_valid schema b answered = record { actions = tt; once = omega arith; reply = tt }

more_valid : (schema : Schema) (sound : IsSound schema) (b : BlockContext) (answered : Bool) (s : Statement) (below ss : List Statement) → IsUnbroken schema answered b s below → Names s
    → AreValid schema b (answered || answers s) ss → AreValid schema b answered (s ∷ ss)
more_valid schema sound b answered s below ss u n v = record {
  actions = cons_valid (IsValidAction schema b) (action_of schema b s) (filter_map (action_of schema b) ss) (action_valid schema sound answered b s below u n) v.actions;
  once = once_more (action_of schema b s) (filter_map (action_of schema b) ss) answered (answers s) (answers_alike schema b s) (answers_once schema answered b s below u) v.once;
  reply = first_valid (IsReply schema b) (reply_of schema b s) (filter_map (reply_of schema b) ss) (reply_valid schema answered b s below u n) v.reply;
}

inside_valid : (schema : Schema) (sound : IsSound schema) (b : BlockContext) (first : Statement) → standing_of schema first ≡ Some b → (before rest : List LineReading) (above : List Statement) → place_of (statements before) ≡ Some (first, above)
    → AreKept schema before rest → AllNames rest → AreValid schema b (list_any answers above) (inside rest)
inside_valid schema sound b first st before [] above e k n = none_valid schema b (list_any answers above)
inside_valid schema sound b first st before (line.Silent ∷ rest) above e k n = inside_valid schema sound b first st (before ++ line.Silent ∷ []) rest above (ap place_of (said_last before line.Silent ∙ append-nil (statements before)) ∙ e) k.1 n.1
inside_valid schema sound b first st before (line.NoStatement ∷ rest) above e k n = inside_valid schema sound b first st (before ++ line.NoStatement ∷ []) rest above (ap place_of (said_last before line.NoStatement ∙ append-nil (statements before)) ∙ e) k.1 n.1
inside_valid schema sound b first st before (line.TooLong ∷ rest) above e k n = inside_valid schema sound b first st (before ++ line.TooLong ∷ []) rest above (ap place_of (said_last before line.TooLong ∙ append-nil (statements before)) ∙ e) k.1 n.1
inside_valid schema sound b first st before (line.Statement held ∷ rest) above e k n =
    let s = held.value in
    let answered = list_any answers above in
    let P : Bool → Type 0 = λ c. AreValid schema b answered (if c then [] else s ∷ inside rest) in
    elim (cases_Bool (closes s)) [
      | inl t ↦ subst P (sym t) (none_valid schema b answered)
      | inr f ↦ (
          let place : place_of (statements (before ++ line.Statement held ∷ [])) ≡ Some (first, above ++ s ∷ []) =
          ap place_of (said_last before (line.Statement held))
          ∙ (place_more (statements before) s ∙ (place_kept (place_of (statements before)) s f ∙ ap (option_map (λ p. (p.0, p.1 ++ s ∷ []))) e))
          in
          let later = inside_valid schema sound b first st (before ++ line.Statement held ∷ []) rest (above ++ s ∷ []) place k.1 n.1 in
          let Q : Bool → Type 0 = λ t. AreValid schema b t (inside rest) in
          let here = unbroken schema first b (statements before) above s (statements rest) st e k.0 in
          subst P (sym f) (more_valid schema sound b answered s (statements rest) (inside rest) here n.0 (subst Q (answered_more above s) later))
          )
    ]

-- Blocks

-- a block whose actions and reply can be done and given
pub record IsDoable (schema : Schema) (b : BlockContext) (block : Block) : Type 0 where
  pub actions : AllByRecursion (IsValidAction schema b) block.actions
  pub once : counted block.actions ≤ 1
  pub reply : IfSome block.reply (IsReply schema b)

abbrev pub IsHandled : Schema → Block → ℕ → MessageRow → Type 0
IsHandled schema block number message = (message.number ≡ number) × IsTrue (receives block.side message.direction) × IsTrue message.carried × IsDoable schema (in_handler block.side message) block

abbrev pub IsDoableBlock : Schema → Block → Option ℕ → Type 0
IsDoableBlock schema block None = IsDoable schema (in_main block.side) block
IsDoableBlock schema block (Some number) = IsSomeAnd (message_of schema number) (IsHandled schema block number)

opens_block : (schema : Schema) (s : Statement) (b : BlockContext) → standing_of schema s ≡ Some b → opens s ≡ true
opens_block schema (forms.Main side) b e = refl
opens_block schema (forms.On side m) b e = refl
opens_block schema s b e = absurd (let no : ⊥ = cc in no)

handler_of : (side other : Side) (o : Option MessageRow) (m : MessageRow) → option_map (in_handler side) o ≡ Some (in_handler other m) → o ≡ Some m
handler_of side other None m e = absurd (let no : ⊥ = cc in no)
handler_of side other (Some n) m e = (let same : n ≡ m = cc in ap (λ (x : MessageRow). Some x) same)

handler_named : (schema : Schema) (s : Statement) (side : Side) (m : MessageRow) → standing_of schema s ≡ Some (in_handler side m) → (name : MessageName) × (message_named schema name ≡ Some m)
handler_named schema (forms.On other name) side m e = (name, handler_of other side (message_named schema name) m e)
handler_named schema (forms.Main other) side m e = absurd (let no : ⊥ = cc in no)
handler_named schema s side m e = absurd (let no : ⊥ = cc in no)

in_block : (schema : Schema) (sound : IsSound schema) (b : BlockContext) (s : Statement) → standing_of schema s ≡ Some b → (before rest : List LineReading) → place_of (statements before) ≡ Some (s, []) → AreKept schema before rest → AllNames rest
    → IsDoable schema b (block_of schema b (inside rest))
in_block schema sound b s st before rest e k n =
    let v = inside_valid schema sound b s st before rest [] e k n in
    record { actions = v.actions; once = v.once; reply = v.reply }

block_doable : (schema : Schema) (sound : IsSound schema) (b : BlockContext) (s : Statement) → standing_of schema s ≡ Some b → (before : List Statement) (lines rest : List LineReading) → ((r : Rule) → ¬ StatementBreaks schema r before s (statements rest))
    → place_of (statements lines) ≡ Some (s, []) → AreKept schema lines rest → AllNames rest → IsDoableBlock schema (block_of schema b (inside rest)) (block_of schema b (inside rest)).handles
block_doable schema sound (in_main side) s st before lines rest h e k n = in_block schema sound (in_main side) s st lines rest e k n
block_doable schema sound (in_handler side m) s st before lines rest h e k n =
    let b : BlockContext = in_handler side m in
    let known : ¬ NamesNone (named schema s) s = λ x. h rule.UNKNOWN_MESSAGE (inr (inl (refl, x))) in
    let named = handler_named schema s side m st in
    let received : receives side m.direction ≡ true =
    is_true _ (λ x. h rule.WRONG_DIRECTION (inr (inr (known, inl (inl (refl, ap is_misdirected st ∙ ap not (false_from_ne_true _ x)))))))
    in
    let carried : m.carried ≡ true =
    is_true _ (λ x. h rule.UNCARRIED_TYPE (inr (inr (known, inl (inr (refl, ap is_uncarried st ∙ ap not (false_from_ne_true _ x)))))))
    in
    some_in (IsHandled schema (block_of schema b (inside rest)) m.number) (message_of schema m.number) m (message_numbered schema sound named.0 m named.1) (refl, received, carried, in_block schema sound b s st lines rest e k n)

abbrev Doable : Schema → Block → Type 0
Doable schema block = IsDoableBlock schema block block.handles

append_valid : {X : Type 0} (P : X → Type 0) (xs ys : List X) → AllByRecursion P xs → AllByRecursion P ys → AllByRecursion P (xs ++ ys)
append_valid P [] ys h k = k
append_valid P (x ∷ xs) ys h k = (h.0, append_valid P xs ys h.1 k)

opened_valid : (schema : Schema) (sound : IsSound schema) (o : Option BlockContext) (s : Statement) → standing_of schema s ≡ o → (before : List Statement) (lines rest : List LineReading) → ((r : Rule) → ¬ StatementBreaks schema r before s (statements rest))
    → statements lines ≡ before ++ s ∷ [] → AreKept schema lines rest → AllNames rest → AllByRecursion (Doable schema) (option_map_or (λ b. block_of schema b (inside rest) ∷ []) o [])
opened_valid schema sound None s st before lines rest h e k n = tt
opened_valid schema sound (Some b) s st before lines rest h e k n = (block_doable schema sound b s st before lines rest h (ap place_of e ∙ (place_more before s ∙ place_opened (place_of before) s (opens_block schema s b st))) k n, tt)

pub blocks_doable : (schema : Schema) (sound : IsSound schema) (before rest : List LineReading) → AreKept schema before rest → AllNames rest → AllByRecursion (Doable schema) (blocks_of schema rest)
blocks_doable schema sound before [] k n = tt
blocks_doable schema sound before (line.Silent ∷ rest) k n = blocks_doable schema sound (before ++ line.Silent ∷ []) rest k.1 n.1
blocks_doable schema sound before (line.NoStatement ∷ rest) k n = blocks_doable schema sound (before ++ line.NoStatement ∷ []) rest k.1 n.1
blocks_doable schema sound before (line.TooLong ∷ rest) k n = blocks_doable schema sound (before ++ line.TooLong ∷ []) rest k.1 n.1
blocks_doable schema sound before (line.Statement held ∷ rest) k n =
    append_valid (Doable schema) (blocks_at schema held.value rest) (blocks_of schema rest)
    (opened_valid schema sound (standing_of schema held.value) held.value refl (statements before) (before ++ line.Statement held ∷ []) rest k.0 (said_last before (line.Statement held)) k.1 n.1)
    (blocks_doable schema sound (before ++ line.Statement held ∷ []) rest k.1 n.1)

-- there are no more blocks than lines
opened_few : (schema : Schema) (o : Option BlockContext) (rest : List LineReading) → length (option_map_or (λ b. block_of schema b (inside rest) ∷ []) o []) ≤ 1
opened_few schema None rest = omega arith
opened_few schema (Some b) rest = omega arith

pub blocks_few : (schema : Schema) (rest : List LineReading) → length (blocks_of schema rest) ≤ length rest
blocks_few schema [] = omega arith
blocks_few schema (line.Silent ∷ rest) = let h = blocks_few schema rest in omega (arith, h)
blocks_few schema (line.NoStatement ∷ rest) = let h = blocks_few schema rest in omega (arith, h)
blocks_few schema (line.TooLong ∷ rest) = let h = blocks_few schema rest in omega (arith, h)
blocks_few schema (line.Statement held ∷ rest) =
    let h = blocks_few schema rest in
    let o = opened_few schema (standing_of schema held.value) rest in
    omega (arith, h, o, length-append (blocks_at schema held.value rest) (blocks_of schema rest))

-- Up to where boxes lie

mutual
  term_boxed : (schema : Schema) (b : BlockContext) (shape : Shape) (t : Term) → TermFits schema b shape (plain_term t) → TermFits schema b shape t
  term_boxed schema b shape (term.Struct ts) h = some_map (λ fields. EachTermFits schema b fields (plain_terms ts)) (λ fields. EachTermFits schema b fields ts) (fields_of schema shape) h (λ fields k. each_boxed schema b fields ts k)
  term_boxed schema b shape (Union' index _ t) h = some_map (λ component. TermFits schema b component (plain_term t)) (λ component. TermFits schema b component t) (component_of schema shape index) h (λ component k. term_boxed schema b component t k)
  term_boxed schema b shape (term.Array ts) h = some_map (λ element. AllTermsFit schema b element (plain_terms ts)) (λ element. AllTermsFit schema b element ts) (element_of shape) h (λ element k. all_boxed schema b element ts k)
  term_boxed schema b shape (Maybe' held) h = some_map (λ inner. HeldTermFits schema b inner (plain_held held)) (λ inner. HeldTermFits schema b inner held) (held_by shape) h (λ inner k. held_boxed schema b inner held k)
  term_boxed schema b shape (term.Bool x) h = h
  term_boxed schema b shape (term.Int n) h = h
  term_boxed schema b shape (term.Text text) h = h
  term_boxed schema b shape (term.Bytes bytes) h = h
  term_boxed schema b shape (term.Bits bits) h = h
  term_boxed schema b shape (term.Actor id) h = h
  term_boxed schema b shape (term.Param n) h = h
  term_boxed schema b shape (term.Who w) h = h

  held_boxed : (schema : Schema) (b : BlockContext) (shape : Shape) (held : Held-Term-Maybe-0) → HeldTermFits schema b shape (plain_held held) → HeldTermFits schema b shape held
  held_boxed schema b shape None' h = tt
  held_boxed schema b shape (Some' _ t) h = term_boxed schema b shape t h

  all_boxed : (schema : Schema) (b : BlockContext) (shape : Shape) (ts : Terms) → AllTermsFit schema b shape (plain_terms ts) → AllTermsFit schema b shape ts
  all_boxed schema b shape terms.Nothing h = tt
  all_boxed schema b shape (First' _ t _ ts) h = (term_boxed schema b shape t h.0, all_boxed schema b shape ts h.1)

  each_boxed : (schema : Schema) (b : BlockContext) (fields : List ParamRow) (ts : Terms) → EachTermFits schema b fields (plain_terms ts) → EachTermFits schema b fields ts
  each_boxed schema b [] terms.Nothing h = tt
  each_boxed schema b (field ∷ fields) terms.Nothing h = absurd h
  each_boxed schema b [] (First' _ t _ ts) h = absurd h
  each_boxed schema b (field ∷ fields) (First' _ t _ ts) h = (term_boxed schema b field.shape t h.0, each_boxed schema b fields ts h.1)

sendable_boxed : (schema : Schema) (b : BlockContext) (number : ℕ) (values : Terms) (m : MessageRow) → IsSendable schema b number (plain_terms values) m → IsSendable schema b number values m
sendable_boxed schema b number values m h = (h.0, h.1, h.2, each_boxed schema b m.params values h.3)

action_boxed : (schema : Schema) (b : BlockContext) (a : Action) → IsValidAction schema b (plain_action a) → IsValidAction schema b a
action_boxed schema b (action.Send who number values) h = (h.0, some_map (IsSendable schema b number (plain_terms values)) (IsSendable schema b number values) (message_of schema number) h.1 (λ m k. sendable_boxed schema b number values m k))
action_boxed schema b (action.New name who number values) h = (
  h.0,
  h.1,
  some_map (λ m. IsSendable schema b number (plain_terms values) m × IsTrue (is_constructor m.kind)) (λ m. IsSendable schema b number values m × IsTrue (is_constructor m.kind)) (message_of schema number) h.2 (λ m k. (sendable_boxed schema b number values m k.0, k.1)),
)
action_boxed schema b (action.Let name who) h = h
action_boxed schema b (action.Resolve values) h = some_map (λ returns. EachTermFits schema b returns (plain_terms values)) (λ returns. EachTermFits schema b returns values) (option_and_then resolves (handled_in b)) h (λ returns k. each_boxed schema b returns values k)
action_boxed schema b action.Reject h = h
action_boxed schema b (action.Keep name) h = h
action_boxed schema b (action.ResolveNamed name number values) h = (
  h.0,
  some_map (λ m. (m.number ≡ number) × IsSomeAnd (resolves m) (λ returns. EachTermFits schema b returns (plain_terms values))) (λ m. (m.number ≡ number) × IsSomeAnd (resolves m) (λ returns. EachTermFits schema b returns values)) (message_of schema number) h.1
      (λ m k. (k.0, some_map (λ returns. EachTermFits schema b returns (plain_terms values)) (λ returns. EachTermFits schema b returns values) (resolves m) k.1 (λ returns l. each_boxed schema b returns values l))),
)
action_boxed schema b (action.RejectNamed name number) h = h
action_boxed schema b action.Close h = h
action_boxed schema b action.Die h = h

actions_boxed : (schema : Schema) (b : BlockContext) (actions : List Action) → AllByRecursion (IsValidAction schema b) (map plain_action actions) → AllByRecursion (IsValidAction schema b) actions
actions_boxed schema b [] h = tt
actions_boxed schema b (a ∷ actions) h = (action_boxed schema b a h.0, actions_boxed schema b actions h.1)

answers_boxed : (a : Action) → answers_handled (plain_action a) ≡ answers_handled a
answers_boxed (action.Send who number values) = refl
answers_boxed (action.New name who number values) = refl
answers_boxed (action.Let name who) = refl
answers_boxed (action.Resolve values) = refl
answers_boxed action.Reject = refl
answers_boxed (action.Keep name) = refl
answers_boxed (action.ResolveNamed name number values) = refl
answers_boxed (action.RejectNamed name number) = refl
answers_boxed action.Close = refl
answers_boxed action.Die = refl

counted_boxed : (actions : List Action) → counted (map plain_action actions) ≡ counted actions
counted_boxed [] = refl
counted_boxed (a ∷ actions) = ap (λ t. cond t (1 + counted (map plain_action actions)) (counted (map plain_action actions))) (answers_boxed a) ∙ ap (λ n. cond (answers_handled a) (1 + n) n) (counted_boxed actions)

reply_boxed : (schema : Schema) (b : BlockContext) (o : Option Terms) → IfSome (option_map plain_terms o) (IsReply schema b) → IfSome o (λ values. IsSomeAnd (option_and_then replies (handled_in b)) (λ returns. EachTermFits schema b returns values))
reply_boxed schema b None h = tt
reply_boxed schema b (Some values) h = some_map (λ returns. EachTermFits schema b returns (plain_terms values)) (λ returns. EachTermFits schema b returns values) (option_and_then replies (handled_in b)) h (λ returns k. each_boxed schema b returns values k)

in_boxed : (schema : Schema) (b : BlockContext) (block : Block) → IsDoable schema b (plain_block block) → IsValidIn schema b block
in_boxed schema b block d = record {
  actions = All-from_recursion (IsValidAction schema b) block.actions (actions_boxed schema b block.actions d.actions);
  once = (
      let P : ℕ → Type 0 = λ n. n ≤ 1 in
      subst P (counted_boxed block.actions ∙ is_counted block.actions) d.once
      );
  reply = reply_boxed schema b block.reply d.reply;
}

block_boxed : (schema : Schema) (block : Block) (handles : Option ℕ) → IsDoableBlock schema (plain_block block) handles → IsValidBlock schema block handles
block_boxed schema block None d = in_boxed schema (in_main block.side) block d
block_boxed schema block (Some number) d =
    some_map (IsHandled schema (plain_block block) number) (IsHandledBy schema block number) (message_of schema number) d (λ m h. (h.0, h.1, h.2, in_boxed schema (in_handler block.side m) block h.3))

blocks_boxed : (schema : Schema) (blocks : List Block) → AllByRecursion (Doable schema) (map plain_block blocks) → AllByRecursion (λ block. IsValidBlock schema block block.handles) blocks
blocks_boxed schema [] h = tt
blocks_boxed schema (block ∷ blocks) h = (block_boxed schema block block.handles h.0, blocks_boxed schema blocks h.1)

-- the blocks of lines that break no rule are valid, wherever their boxes lie
pub blocks_valid : (schema : Schema) (sound : IsSound schema) (top : ℕ) (text : List ℕ) (readings : List LineReading) (blocks : List Block) → IsReading text readings → ((f : Finding) → ¬ IsBroken schema top readings f)
    → map plain_block blocks ≡ blocks_of schema readings → All (λ block. IsValidBlock schema block block.handles) blocks
blocks_valid schema sound top text readings blocks r kept e =
    let P : List Block → Type 0 = λ bs. AllByRecursion (Doable schema) bs in
    All-from_recursion (λ block. IsValidBlock schema block block.handles) blocks
    (blocks_boxed schema blocks (subst P (sym e) (blocks_doable schema sound [] readings (are_kept schema top [] readings kept) (read_names (lines_of text) readings r))))

pub few_blocks : (schema : Schema) (readings : List LineReading) (blocks : List Block) → map plain_block blocks ≡ blocks_of schema readings → length blocks ≤ length readings
few_blocks schema readings blocks e = let h = blocks_few schema readings in omega (arith, h, ap length e, length-map blocks plain_block)
