-- The rules that a text breaks under a schema whose boxes are elsewhere.
use Rattle.std.proofs.Common.{◌≡◌, ◌≢◌, ◌∙◌, ℕ, ◌+◌, List, [], take, drop, Bool, false, Option, None, Some, ◌⊎◌, inl, inr, refl}
use Rattle.std.specs.Prelude.{IsTrue, IsSome, IsNone, IsSomeAnd, slice_get, option_map}
use Rattle.std.specs.List.{list_any}
use Rattle.std.proofs.Math.Path.{transport, transport⁻¹}
use Rattle.std.proofs.lemmas.Option.{slice_get-map}
use Rattle.ipdl_base.specs.declared.finding.Finding.{Finding}
use Rattle.ipdl_base.specs.declared.finding.TheConstants.Rule as rule
use Rattle.ipdl_base.specs.declared.finding.Rule.{Rule}
use Rattle.ipdl_base.specs.declared.schema.MessageRow.{MessageRow}
use Rattle.ipdl_base.specs.declared.schema.Schema.{Schema}
use Rattle.program_schema.specs.Laws.{plain_message_row, plain_protocol_row, plain_schema}
use Rattle.schema_laws.proofs.Rows.{still_there}
use Rattle.schema_laws.proofs.Typed.{some_alike}
use Rattle.script_reader.specs.declared.line.LineReading.{LineReading}
use Rattle.script_reader.specs.declared.line.LineReading.TheVariants as line
use Rattle.script_reader.specs.declared.statement.Statement.{Statement}
use Rattle.script_reader.specs.declared.statement.Statement.TheVariants as forms
use Rattle.script_reader.specs.declared.written.Who.{Who}
use Rattle.script_reader.specs.declared.written.Who.TheVariants as whos
use Rattle.script_reader.specs.declared.written.WrittenValues.{WrittenValues}
use Rattle.handler_script.specs.Blocks.{answers, statements, IsFollowed, BlockContext, in_main, in_handler, standing_of, side_of, given_in}
use Rattle.handler_script.specs.Broken.{NamesNone, sent, is_misdirected, IsMissent, is_uncarried, IsUnsent, is_no_actor, types_by, AreUnfit, ValuesBreak, is_unknown, IsMisplaced, IsNotAllowed, OpeningBreaks, BlockBreaks, StatementBreaks, LineBreaks, HasManager, IsBroken}
use Rattle.handler_script.specs.Mentions.{values_of, who_of, message_of, speaks_of}
use Rattle.ipdl_base.specs.Sides.{sends}
use Rattle.handler_script.specs.Messages.{named, resolves, is_constructor}
use Rattle.schema_laws.proofs.FitsAlike.{no_actor_alike, unfit_alike}
use Rattle.schema_laws.proofs.NamedAlike.{plain_context, resolved_alike, side_alike, given_alike, resolves_in_alike, replies_in_alike, types_by_alike, statement_alike, standing_alike}

-- What is given of a block, and of a message

misdirected_alike : (o : Option BlockContext) → is_misdirected (option_map plain_context o) ≡ is_misdirected o
misdirected_alike None = refl
misdirected_alike (Some (in_main side)) = refl
misdirected_alike (Some (in_handler side message)) = refl

uncarried_alike : (o : Option BlockContext) → is_uncarried (option_map plain_context o) ≡ is_uncarried o
uncarried_alike None = refl
uncarried_alike (Some (in_main side)) = refl
uncarried_alike (Some (in_handler side message)) = refl

unknown_alike : (b : BlockContext) (w : Who) → is_unknown (plain_context b) w ≡ is_unknown b w
unknown_alike (in_main side) w = refl
unknown_alike (in_handler side message) whos.Made = refl
unknown_alike (in_handler side message) w = refl

sent_alike : (message : Option MessageRow) (st : Statement) → sent (option_map plain_message_row message) st ≡ option_map plain_message_row (sent message st)
sent_alike message (forms.Send w c) = refl
sent_alike message st = refl

missent_alike : (b : BlockContext) (message : Option MessageRow) → IsMissent (plain_context b) (option_map plain_message_row message) ≡ IsMissent b message
missent_alike b message =
    (λ i. IsSomeAnd (option_map plain_message_row message) (λ m. sends (side_alike b i) m.direction ≡ false))
    ∙ some_alike plain_message_row (λ m. sends (side_of b) m.direction ≡ false) (λ m. sends (side_of b) m.direction ≡ false) (λ m. refl) message

unsent_alike : (message : Option MessageRow) → IsUnsent (option_map plain_message_row message) ≡ IsUnsent message
unsent_alike message = some_alike plain_message_row (λ m. m.carried ≡ false) (λ m. m.carried ≡ false) (λ m. refl) message

misplaced_alike : (message : Option MessageRow) (answered : Bool) (b : BlockContext) (st : Statement) (below : List Statement) → IsMisplaced (option_map plain_message_row message) answered (plain_context b) st below ≡ IsMisplaced message answered b st below
misplaced_alike message answered b (forms.New n w c) below = some_alike plain_message_row (λ m. is_constructor m.kind ≡ false) (λ m. is_constructor m.kind ≡ false) (λ m. refl) message
misplaced_alike message answered b (forms.Return vs) below = λ i. (replies_in_alike b i ≡ false) ⊎ IsFollowed below
misplaced_alike message answered b (forms.ResolveKept n c) below = some_alike plain_message_row (λ m. IsNone (resolves m)) (λ m. IsNone (resolves m)) (λ m. λ i. resolved_alike m i ≡ false) message
misplaced_alike message answered b (forms.RejectKept n name) below = some_alike plain_message_row (λ m. IsNone (resolves m)) (λ m. IsNone (resolves m)) (λ m. λ i. resolved_alike m i ≡ false) message
misplaced_alike message answered b st below = λ i. IsTrue (answers st) × ((resolves_in_alike b i ≡ false) ⊎ IsTrue answered)

allowed_alike : (message : Option MessageRow) (answered : Bool) (b : BlockContext) (st : Statement) (below : List Statement) → IsNotAllowed (option_map plain_message_row message) answered (plain_context b) st below ≡ IsNotAllowed message answered b st below
allowed_alike message answered b st below = λ i. IsTrue (speaks_of (λ w. unknown_alike b w i) st) ⊎ misplaced_alike message answered b st below i

module _ (s : Schema) where
  none_alike : (st : Statement) → NamesNone (named (plain_schema s) st) st ≡ NamesNone (named s st) st
  none_alike st = (λ i. NamesNone (statement_alike s st i) st) ∙ (λ i. IsSome (message_of st) × (still_there plain_message_row (named s st) i ≡ false))

  opening_alike : (r : Rule) (st : Statement) → OpeningBreaks r (standing_of (plain_schema s) st) ≡ OpeningBreaks r (standing_of s st)
  opening_alike r st =
      (λ i. OpeningBreaks r (standing_alike s st i))
      ∙ (λ i. ((r ≡ rule.WRONG_DIRECTION) × IsTrue (misdirected_alike (standing_of s st) i)) ⊎ ((r ≡ rule.UNCARRIED_TYPE) × IsTrue (uncarried_alike (standing_of s st) i)))

  -- Values

  who_alike : (b : BlockContext) (w : Who) → is_no_actor (given_in (plain_context b)) w ≡ is_no_actor (given_in b) w
  who_alike b w = (λ i. is_no_actor (given_alike b i) w) ∙ no_actor_alike (given_in b) w

  unfit_in : (message : Option MessageRow) (b : BlockContext) (st : Statement) (vs : WrittenValues)
      → AreUnfit (plain_schema s) (given_in (plain_context b)) (types_by (option_map plain_message_row message) (plain_context b) st) vs ≡ AreUnfit s (given_in b) (types_by message b st) vs
  unfit_in message b st vs = (λ i. AreUnfit (plain_schema s) (given_alike b i) (types_by_alike message b st i) vs) ∙ unfit_alike (given_in b) s (types_by message b st) vs

  values_alike : (message : Option MessageRow) (b : BlockContext) (st : Statement)
      → ValuesBreak (plain_schema s) (given_in (plain_context b)) (types_by (option_map plain_message_row message) (plain_context b) st) st ≡ ValuesBreak s (given_in b) (types_by message b st) st
  values_alike message b st = λ i. IsSomeAnd (who_of st) (λ w. IsTrue (who_alike b w i)) ⊎ IsSomeAnd (values_of st) (λ vs. unfit_in message b st vs i)

  -- The rules

  breaks_alike : (r : Rule) (message : Option MessageRow) (answered : Bool) (b : BlockContext) (st : Statement) (below : List Statement)
      → BlockBreaks (plain_schema s) r (option_map plain_message_row message) answered (plain_context b) st below ≡ BlockBreaks s r message answered b st below
  breaks_alike r message answered b st below =
      let missent : IsMissent (plain_context b) (sent (option_map plain_message_row message) st) ≡ IsMissent b (sent message st) = (λ i. IsMissent (plain_context b) (sent_alike message st i)) ∙ missent_alike b (sent message st) in
      let unsent : IsUnsent (sent (option_map plain_message_row message) st) ≡ IsUnsent (sent message st) = (λ i. IsUnsent (sent_alike message st i)) ∙ unsent_alike (sent message st) in
      λ i. ((r ≡ rule.WRONG_DIRECTION) × missent i)
      ⊎ (((r ≡ rule.UNFIT_VALUES) × values_alike message b st i)
      ⊎ (((r ≡ rule.NOT_ALLOWED_HERE) × allowed_alike message answered b st below i)
      ⊎ ((r ≡ rule.UNCARRIED_TYPE) × unsent i)))

  in_block : (r : Rule) (st : Statement) (below : List Statement) (first : Statement) (above : List Statement)
      → IsSomeAnd (standing_of (plain_schema s) first) (λ b. BlockBreaks (plain_schema s) r (named (plain_schema s) st) (list_any answers above) b st below)
      ≡ IsSomeAnd (standing_of s first) (λ b. BlockBreaks s r (named s st) (list_any answers above) b st below)
  in_block r st below first above =
      (λ i. IsSomeAnd (standing_alike s first i) (λ b. BlockBreaks (plain_schema s) r (statement_alike s st i) (list_any answers above) b st below))
      ∙ some_alike plain_context (λ b. BlockBreaks (plain_schema s) r (option_map plain_message_row (named s st)) (list_any answers above) b st below) (λ b. BlockBreaks s r (named s st) (list_any answers above) b st below)
      (λ b. breaks_alike r (named s st) (list_any answers above) b st below) (standing_of s first)

  statement_back : (r : Rule) (before : List Statement) (st : Statement) (after : List Statement) → StatementBreaks (plain_schema s) r before st after → StatementBreaks s r before st after
  statement_back r before st after (inl blocks) = inl blocks
  statement_back r before st after (inr (inl unknown)) = inr (inl (unknown.0, transport (none_alike st) unknown.1))
  statement_back r before st after (inr (inr (known, inl opening))) = inr (inr ((λ none. known (transport⁻¹ (none_alike st) none)), inl (transport (opening_alike r st) opening)))
  statement_back r before st after (inr (inr (known, inr h))) = inr (inr ((λ none. known (transport⁻¹ (none_alike st) none)), inr (h.0, h.1, h.2, transport (in_block r st after h.0 h.1) h.3)))

  statement_there : (r : Rule) (before : List Statement) (st : Statement) (after : List Statement) → StatementBreaks s r before st after → StatementBreaks (plain_schema s) r before st after
  statement_there r before st after (inl blocks) = inl blocks
  statement_there r before st after (inr (inl unknown)) = inr (inl (unknown.0, transport⁻¹ (none_alike st) unknown.1))
  statement_there r before st after (inr (inr (known, inl opening))) = inr (inr ((λ none. known (transport (none_alike st) none)), inl (transport⁻¹ (opening_alike r st) opening)))
  statement_there r before st after (inr (inr (known, inr h))) = inr (inr ((λ none. known (transport (none_alike st) none)), inr (h.0, h.1, h.2, transport⁻¹ (in_block r st after h.0 h.1) h.3)))

  line_back : (r : Rule) (before : List Statement) (x : LineReading) (after : List Statement) → LineBreaks (plain_schema s) r before x after → LineBreaks s r before x after
  line_back r before (line.Statement held) after h = statement_back r before held.value after h
  line_back r before x after h = h

  line_there : (r : Rule) (before : List Statement) (x : LineReading) (after : List Statement) → LineBreaks s r before x after → LineBreaks (plain_schema s) r before x after
  line_there r before (line.Statement held) after h = statement_there r before held.value after h
  line_there r before x after h = h

  manager_alike : (top : ℕ) → HasManager (plain_schema s) top ≡ HasManager s top
  manager_alike top =
      (λ i. IsSomeAnd (slice_get-map plain_protocol_row s.protocols top i) (λ protocol. protocol.managers ≢ []))
      ∙ some_alike plain_protocol_row (λ protocol. protocol.managers ≢ []) (λ protocol. protocol.managers ≢ []) (λ protocol. refl) (slice_get s.protocols top)

  pub broken_back : (top : ℕ) (readings : List LineReading) (f : Finding) → IsBroken (plain_schema s) top readings f → IsBroken s top readings f
  broken_back top readings f (inl by) = inl (by.0, by.1, transport (manager_alike top) by.2)
  broken_back top readings f (inr by) = inr (by.0, by.1, by.2, (by.3.0, line_back f.rule (statements (take by.0 readings)) by.1 (statements (drop (by.0 + 1) readings)) by.3.1))

  pub broken_there : (top : ℕ) (readings : List LineReading) (f : Finding) → IsBroken s top readings f → IsBroken (plain_schema s) top readings f
  broken_there top readings f (inl by) = inl (by.0, by.1, transport⁻¹ (manager_alike top) by.2)
  broken_there top readings f (inr by) = inr (by.0, by.1, by.2, (by.3.0, line_there f.rule (statements (take by.0 readings)) by.1 (statements (drop (by.0 + 1) readings)) by.3.1))
