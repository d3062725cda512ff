-- Lines break the rules that their plain forms break, and have the same blocks.
use Rattle.std.proofs.Common.{◌≡◌, ℕ, ◌+◌, Bool, true, false, not, ◌&&◌, ◌||◌, List, [], ◌∷◌, ◌++◌, map, take, drop, fold, Option, Some, None, ◌⊎◌, inl, inr, refl, sym, ap, ◌∙◌, subst}
use Rattle.std.specs.Prelude.{◌↔◌, IsTrue, IsNone, IsSomeAnd, if◌then◌else◌, option_and_then, slice_get}
use Rattle.std.specs.List.{list_any, filter_map, cons_option}
use Rattle.std.specs.Option.{option_map, option_map_or}
use Rattle.std.proofs.Math.Path.{transport, transport⁻¹}
use Rattle.std.proofs.lemmas.List.{take-map, drop-map, map-append}
use Rattle.std.proofs.lemmas.Option.{slice_get-map}
use Rattle.ipdl_base.specs.declared.finding.Finding.{Finding}
use Rattle.ipdl_base.specs.declared.finding.TheConstants.Rule as rule
use Rattle.ipdl_base.specs.declared.finding.Rule.{Rule}
use Rattle.ipdl_base.specs.declared.kinds.Side.{Side}
use Rattle.ipdl_base.specs.declared.schema.MessageRow.{MessageRow}
use Rattle.ipdl_base.specs.declared.schema.Schema.{Schema}
use Rattle.script_reader.specs.declared.line.LineReading.{LineReading}
use Rattle.script_reader.specs.declared.line.LineReading.TheVariants as line
use Rattle.script_reader.specs.declared.statement.Statement.{Statement}
use Rattle.script_reader.specs.declared.statement.Statement.TheVariants as forms
use Rattle.script_reader.specs.Plain.{plain_statement, plain_reading}
use Rattle.handler_script.specs.declared.action.Block.{Block}
use Rattle.handler_script.specs.Blocks.{opens, closes, answers, statements, IsInBlock, IsFollowed, BlockContext, standing_of, side_of, given_in, handled_in}
use Rattle.handler_script.specs.Broken.{is_main, IsSecondMain, IsInside, BreaksBlocks, NamesNone, sent, IsMissent, IsUnsent, types_by, ValuesBreak, is_unknown, IsMisplaced, IsNotAllowed, OpeningBreaks, BlockBreaks, InsideBreaks, StatementBreaks, LineBreaks, line_place, IsBrokenAt, IsBroken}
use Rattle.handler_script.specs.Knowing.{place_after, place_of}
use Rattle.handler_script.specs.Messages.{named, replies}
use Rattle.handler_script.specs.ScriptOf.{inside, action_of, reply_of, first_of, block_of, blocks_at, blocks_of}
use Rattle.handler_script.proofs.Standing.{at_place, in_block}
use Rattle.script_laws.proofs.Alike.{types_alike, action_alike, reply_alike, speaks_alike, values_alike}

abbrev pub plain_lines : List LineReading → List LineReading
plain_lines lines = map plain_reading lines

-- What is known of a statement

opens_alike : (s : Statement) → opens (plain_statement s) ≡ opens s
opens_alike (forms.Send w c) = refl
opens_alike s = refl

closes_alike : (s : Statement) → closes (plain_statement s) ≡ closes s
closes_alike (forms.Send w c) = refl
closes_alike s = refl

answers_alike : (s : Statement) → answers (plain_statement s) ≡ answers s
answers_alike (forms.Send w c) = refl
answers_alike s = refl

is_main_alike : (side : Side) (s : Statement) → is_main side (plain_statement s) ≡ is_main side s
is_main_alike side (forms.Send w c) = refl
is_main_alike side s = refl

named_alike : (schema : Schema) (s : Statement) → named schema (plain_statement s) ≡ named schema s
named_alike schema (forms.Send w c) = refl
named_alike schema s = refl

standing_alike : (schema : Schema) (s : Statement) → standing_of schema (plain_statement s) ≡ standing_of schema s
standing_alike schema (forms.Send w c) = refl
standing_alike schema s = refl

names_alike : (message : Option MessageRow) (s : Statement) → NamesNone message (plain_statement s) ≡ NamesNone message s
names_alike message (forms.Send w c) = refl
names_alike message s = refl

sent_alike : (message : Option MessageRow) (s : Statement) → sent message (plain_statement s) ≡ sent message s
sent_alike message (forms.Send w c) = refl
sent_alike message s = refl

-- What is known of statements

abbrev plain_all : List Statement → List Statement
plain_all ss = map plain_statement ss

statements_alike : (lines : List LineReading) → statements (plain_lines lines) ≡ plain_all (statements lines)
statements_alike [] = refl
statements_alike (line.Statement held ∷ rest) = ap (λ (ss : List Statement). plain_statement held.value ∷ ss) (statements_alike rest)
statements_alike (x ∷ rest) = statements_alike rest

some_alike : (test : Statement → Bool) → ((s : Statement) → test (plain_statement s) ≡ test s) → (ss : List Statement) → list_any test (plain_all ss) ≡ list_any test ss
some_alike test same [] = refl
some_alike test same (s ∷ ss) = λ i. same s i || some_alike test same ss i

followed_alike : (ss : List Statement) → IsFollowed (plain_all ss) ≡ IsFollowed ss
followed_alike [] = refl
followed_alike (s ∷ ss) = λ i. closes_alike s i ≡ false

abbrev Place : Type 0
Place = Statement × List Statement

abbrev plain_place : Place → Place
plain_place p = (plain_statement p.0, plain_all p.1)

grown_alike : (place : Option Place) (s : Statement) → option_map (λ p. (p.0, p.1 ++ plain_statement s ∷ [])) (option_map plain_place place) ≡ option_map plain_place (option_map (λ p. (p.0, p.1 ++ s ∷ [])) place)
grown_alike None s = refl
grown_alike (Some p) s = ap (λ (ss : List Statement). Some (plain_statement p.0, ss)) (sym (map-append plain_statement p.1 (s ∷ [])))

after_alike : (place : Option Place) (s : Statement) → place_after (option_map plain_place place) (plain_statement s) ≡ option_map plain_place (place_after place s)
after_alike place (forms.Main side) = refl
after_alike place (forms.On side name) = refl
after_alike place forms.End = refl
after_alike place s = grown_alike place s

places_alike : (place : Option Place) (ss : List Statement) → fold place_after (option_map plain_place place) (plain_all ss) ≡ option_map plain_place (fold place_after place ss)
places_alike place [] = refl
places_alike place (s ∷ ss) = ap (λ (p : Option Place). fold place_after p (plain_all ss)) (after_alike place s) ∙ places_alike (place_after place s) ss

held_alike : (P Q : Statement → List Statement → Type 0) → ((first : Statement) (above : List Statement) → P (plain_statement first) (plain_all above) ≡ Q first above) → (place : Option Place) → IsSomeAnd (option_map plain_place place) (λ p. P p.0 p.1) ≡ IsSomeAnd place (λ p. Q p.0 p.1)
held_alike P Q same None = refl
held_alike P Q same (Some p) = same p.0 p.1

-- what is true of the block that plain statements are in is true of the block of these statements
block_alike : (P Q : Statement → List Statement → Type 0) → ((first : Statement) (above : List Statement) → P (plain_statement first) (plain_all above) ≡ Q first above) → (ss : List Statement) → IsInBlock (plain_all ss) P ↔ IsInBlock ss Q
block_alike P Q same ss =
    let path : IsSomeAnd (place_of (plain_all ss)) (λ p. P p.0 p.1) ≡ IsSomeAnd (place_of ss) (λ p. Q p.0 p.1) = (λ i. IsSomeAnd (places_alike None ss i) (λ p. P p.0 p.1)) ∙ held_alike P Q same (place_of ss) in
    ((λ h. in_block ss Q (transport path (at_place (plain_all ss) P h))), (λ h. in_block (plain_all ss) P (transport⁻¹ path (at_place ss Q h))))

-- The rules

second_alike : (before : List Statement) (s : Statement) → IsSecondMain (plain_all before) (plain_statement s) ≡ IsSecondMain before s
second_alike before (forms.Main side) = λ i. IsTrue (some_alike (is_main side) (is_main_alike side) before i)
second_alike before s = refl

inside_alike : (ss : List Statement) → IsInside (plain_all ss) ↔ IsInside ss
inside_alike ss = block_alike (λ first above. Unit {0}) (λ first above. Unit {0}) (λ first above. refl) ss

blocks_plain : (before : List Statement) (s : Statement) (after : List Statement) → BreaksBlocks before s after → BreaksBlocks (plain_all before) (plain_statement s) (plain_all after)
blocks_plain before s after (inl h) = inl (opens_alike s ∙ h.0, λ inside. h.1 ((inside_alike before).0 inside))
blocks_plain before s after (inr (opened, inl inside)) = inr (opens_alike s ∙ opened, inl ((inside_alike before).1 inside))
blocks_plain before s after (inr (opened, inr (inl second))) = inr (opens_alike s ∙ opened, inr (inl (transport⁻¹ (second_alike before s) second)))
blocks_plain before s after (inr (opened, inr (inr none))) = inr (opens_alike s ∙ opened, inr (inr (some_alike closes closes_alike after ∙ none)))

blocks_again : (before : List Statement) (s : Statement) (after : List Statement) → BreaksBlocks (plain_all before) (plain_statement s) (plain_all after) → BreaksBlocks before s after
blocks_again before s after (inl h) = inl (sym (opens_alike s) ∙ h.0, λ inside. h.1 ((inside_alike before).1 inside))
blocks_again before s after (inr (opened, inl inside)) = inr (sym (opens_alike s) ∙ opened, inl ((inside_alike before).0 inside))
blocks_again before s after (inr (opened, inr (inl second))) = inr (sym (opens_alike s) ∙ opened, inr (inl (transport (second_alike before s) second)))
blocks_again before s after (inr (opened, inr (inr none))) = inr (sym (opens_alike s) ∙ opened, inr (inr (sym (some_alike closes closes_alike after) ∙ none)))

misplaced_alike : (message : Option MessageRow) (answered : Bool) (b : BlockContext) (s : Statement) (below : List Statement) → IsMisplaced message answered b (plain_statement s) (plain_all below) ≡ IsMisplaced message answered b s below
misplaced_alike message answered b (forms.Return vs) below = λ i. IsNone (option_and_then replies (handled_in b)) ⊎ followed_alike below i
misplaced_alike message answered b s below = refl

breaks_alike : (schema : Schema) (r : Rule) (message : Option MessageRow) (answered : Bool) (b : BlockContext) (s : Statement) (below : List Statement)
    → BlockBreaks schema r message answered b (plain_statement s) (plain_all below) ≡ BlockBreaks schema r message answered b s below
breaks_alike schema r message answered b s below =
    (λ i. ((r ≡ rule.WRONG_DIRECTION) × IsMissent b (sent_alike message s i))
    ⊎ (((r ≡ rule.UNFIT_VALUES) × ValuesBreak schema (given_in b) (types_alike message b s i) (plain_statement s))
    ⊎ (((r ≡ rule.NOT_ALLOWED_HERE) × (IsTrue (speaks_alike (is_unknown b) s i) ⊎ misplaced_alike message answered b s below i))
    ⊎ ((r ≡ rule.UNCARRIED_TYPE) × IsUnsent (sent_alike message s i)))))
    ∙ (λ i. ((r ≡ rule.WRONG_DIRECTION) × IsMissent b (sent message s))
    ⊎ (((r ≡ rule.UNFIT_VALUES) × values_alike schema (given_in b) (types_by message b s) s i)
    ⊎ (((r ≡ rule.NOT_ALLOWED_HERE) × IsNotAllowed message answered b s below)
    ⊎ ((r ≡ rule.UNCARRIED_TYPE) × IsUnsent (sent message s)))))

abbrev InBlock : Schema → Rule → Statement → List Statement → Statement → List Statement → Type 0
InBlock schema r s below first above = IsSomeAnd (standing_of schema first) (λ b. BlockBreaks schema r (named schema s) (list_any answers above) b s below)

in_block_alike : (schema : Schema) (r : Rule) (s : Statement) (below : List Statement) (first : Statement) (above : List Statement)
    → InBlock schema r (plain_statement s) (plain_all below) (plain_statement first) (plain_all above) ≡ InBlock schema r s below first above
in_block_alike schema r s below first above =
    (λ i. IsSomeAnd (standing_alike schema first i) (λ b. BlockBreaks schema r (named_alike schema s i) (some_alike answers answers_alike above i) b (plain_statement s) (plain_all below)))
    ∙ (λ i. IsSomeAnd (standing_of schema first) (λ b. breaks_alike schema r (named schema s) (list_any answers above) b s below i))

insides_alike : (schema : Schema) (r : Rule) (before : List Statement) (s : Statement) (after : List Statement) → InsideBreaks schema r (plain_all before) (plain_statement s) (plain_all after) ↔ InsideBreaks schema r before s after
insides_alike schema r before s after = block_alike (InBlock schema r (plain_statement s) (plain_all after)) (InBlock schema r s after) (in_block_alike schema r s after) before

none_alike : (schema : Schema) (s : Statement) → NamesNone (named schema (plain_statement s)) (plain_statement s) ≡ NamesNone (named schema s) s
none_alike schema s = (λ i. NamesNone (named_alike schema s i) (plain_statement s)) ∙ names_alike (named schema s) s

opening_alike : (schema : Schema) (r : Rule) (s : Statement) → OpeningBreaks r (standing_of schema (plain_statement s)) ≡ OpeningBreaks r (standing_of schema s)
opening_alike schema r s = λ i. OpeningBreaks r (standing_alike schema s i)

statement_plain : (schema : Schema) (r : Rule) (before : List Statement) (s : Statement) (after : List Statement) → StatementBreaks schema r before s after → StatementBreaks schema r (plain_all before) (plain_statement s) (plain_all after)
statement_plain schema r before s after (inl h) = inl (h.0, blocks_plain before s after h.1)
statement_plain schema r before s after (inr (inl h)) = inr (inl (h.0, transport⁻¹ (none_alike schema s) h.1))
statement_plain schema r before s after (inr (inr (known, inl h))) = inr (inr ((λ n. known (transport (none_alike schema s) n)), inl (transport⁻¹ (opening_alike schema r s) h)))
statement_plain schema r before s after (inr (inr (known, inr h))) = inr (inr ((λ n. known (transport (none_alike schema s) n)), inr ((insides_alike schema r before s after).1 h)))

statement_again : (schema : Schema) (r : Rule) (before : List Statement) (s : Statement) (after : List Statement) → StatementBreaks schema r (plain_all before) (plain_statement s) (plain_all after) → StatementBreaks schema r before s after
statement_again schema r before s after (inl h) = inl (h.0, blocks_again before s after h.1)
statement_again schema r before s after (inr (inl h)) = inr (inl (h.0, transport (none_alike schema s) h.1))
statement_again schema r before s after (inr (inr (known, inl h))) = inr (inr ((λ n. known (transport⁻¹ (none_alike schema s) n)), inl (transport (opening_alike schema r s) h)))
statement_again schema r before s after (inr (inr (known, inr h))) = inr (inr ((λ n. known (transport⁻¹ (none_alike schema s) n)), inr ((insides_alike schema r before s after).0 h)))

line_plain : (schema : Schema) (r : Rule) (before : List Statement) (x : LineReading) (after : List Statement) → LineBreaks schema r before x after → LineBreaks schema r (plain_all before) (plain_reading x) (plain_all after)
line_plain schema r before (line.Statement held) after h = statement_plain schema r before held.value after h
line_plain schema r before x after h = h

line_again : (schema : Schema) (r : Rule) (before : List Statement) (x : LineReading) (after : List Statement) → LineBreaks schema r (plain_all before) (plain_reading x) (plain_all after) → LineBreaks schema r before x after
line_again schema r before (line.Statement held) after h = statement_again schema r before held.value after h
line_again schema r before x after h = h

-- the statements before and after a line
at_alike : (schema : Schema) (lines : List LineReading) (f : Finding) (index : ℕ) (x : LineReading)
    → IsBrokenAt schema (plain_lines lines) f index (plain_reading x) ≡ ((line_place (index + 1) ≡ f.place) × LineBreaks schema f.rule (plain_all (statements (take index lines))) (plain_reading x) (plain_all (statements (drop (index + 1) lines))))
at_alike schema lines f index x =
    (λ i. (line_place (index + 1) ≡ f.place) × LineBreaks schema f.rule (statements (take-map plain_reading index lines i)) (plain_reading x) (statements (drop-map plain_reading (index + 1) lines i)))
    ∙ (λ i. (line_place (index + 1) ≡ f.place) × LineBreaks schema f.rule (statements_alike (take index lines) i) (plain_reading x) (statements_alike (drop (index + 1) lines) i))

mapped : (o : Option LineReading) (y : LineReading) → option_map plain_reading o ≡ Some y → (x : LineReading) × (o ≡ Some x) × (plain_reading x ≡ y)
mapped None y e = absurd (let no_one : ⊥ = cc in no_one)
mapped (Some x) y e = (x, refl, (let same : plain_reading x ≡ y = cc in same))

-- what lines break, their plain forms break
pub broken_plain : (schema : Schema) (top : ℕ) (lines : List LineReading) (f : Finding) → IsBroken schema top lines f → IsBroken schema top (plain_lines lines) f
broken_plain schema top lines f (inl h) = inl h
broken_plain schema top lines f (inr h) =
    inr (
      h.0,
      plain_reading h.1,
      slice_get-map plain_reading lines h.0 ∙ ap (option_map plain_reading) h.2,
      transport⁻¹ (at_alike schema lines f h.0 h.1) (h.3.0, line_plain schema f.rule (statements (take h.0 lines)) h.1 (statements (drop (h.0 + 1) lines)) h.3.1),
    )

-- and no more
pub broken_again : (schema : Schema) (top : ℕ) (lines : List LineReading) (f : Finding) → IsBroken schema top (plain_lines lines) f → IsBroken schema top lines f
broken_again schema top lines f (inl h) = inl h
broken_again schema top lines f (inr h) =
    let there = mapped (slice_get lines h.0) h.1 (sym (slice_get-map plain_reading lines h.0) ∙ h.2) in
    let P : LineReading → Type 0 = λ y. IsBrokenAt schema (plain_lines lines) f h.0 y in
    let at = transport (at_alike schema lines f h.0 there.0) (subst P (sym there.2) h.3) in
    inr (h.0, there.0, there.1, (at.0, line_again schema f.rule (statements (take h.0 lines)) there.0 (statements (drop (h.0 + 1) lines)) at.1))

-- The blocks

if_alike : (b c : Bool) (s : Statement) (xs ys : List Statement) → b ≡ c → xs ≡ map plain_statement ys → (if b then [] else plain_statement s ∷ xs) ≡ map plain_statement (if c then [] else s ∷ ys)
if_alike true true s xs ys e h = refl
if_alike true false s xs ys e h = cc
if_alike false true s xs ys e h = cc
if_alike false false s xs ys e h = ap (λ zs. plain_statement s ∷ zs) h

within_alike : (lines : List LineReading) → inside (plain_lines lines) ≡ map plain_statement (inside lines)
within_alike [] = refl
within_alike (line.Statement held ∷ rest) = if_alike (closes (plain_statement held.value)) (closes held.value) held.value (inside (plain_lines rest)) (inside rest) (closes_alike held.value) (within_alike rest)
within_alike (x ∷ rest) = within_alike rest

filtered_alike : {Y : Type 0} (read : Statement → Option Y) → ((s : Statement) → read (plain_statement s) ≡ read s) → (statements : List Statement) → filter_map read (map plain_statement statements) ≡ filter_map read statements
filtered_alike read same [] = refl
filtered_alike read same (s ∷ statements) = λ i. cons_option (same s i) (filtered_alike read same statements i)

made_alike : (schema : Schema) (b : BlockContext) (statements : List Statement) → block_of schema b (map plain_statement statements) ≡ block_of schema b statements
made_alike schema b statements =
    λ i. record {
      side = side_of b;
      handles = option_map (λ message. message.number) (handled_in b);
      actions = filtered_alike (action_of schema b) (action_alike schema b) statements i;
      reply = first_of (filtered_alike (reply_of schema b) (reply_alike schema b) statements i);
    }

opened_block : (schema : Schema) (o : Option BlockContext) (rest : List LineReading) → option_map_or (λ b. block_of schema b (inside (plain_lines rest)) ∷ []) o [] ≡ option_map_or (λ b. block_of schema b (inside rest) ∷ []) o []
opened_block schema None rest = refl
opened_block schema (Some b) rest = ap (λ (block : Block). block ∷ []) (ap (block_of schema b) (within_alike rest) ∙ made_alike schema b (inside rest))

blocks_at_alike : (schema : Schema) (s : Statement) (rest : List LineReading) → blocks_at schema (plain_statement s) (plain_lines rest) ≡ blocks_at schema s rest
blocks_at_alike schema s rest = opened_block schema (standing_of schema (plain_statement s)) rest ∙ ap (λ o. option_map_or (λ b. block_of schema b (inside rest) ∷ []) o []) (standing_alike schema s)

-- lines and their plain forms have the same blocks
pub blocks_kept : (schema : Schema) (lines : List LineReading) → blocks_of schema (plain_lines lines) ≡ blocks_of schema lines
blocks_kept schema [] = refl
blocks_kept schema (line.Statement held ∷ rest) = λ i. blocks_at_alike schema held.value rest i ++ blocks_kept schema rest i
blocks_kept schema (x ∷ rest) = blocks_kept schema rest
