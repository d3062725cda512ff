-- What a valid script guarantees of the actions and replies that a run reaches.
use Rattle.std.proofs.Common.{◌≡◌, ℕ, zero, suc, ◌+◌, ◌≤◌, ◌==◌, Bool, true, false, ◌&&◌, ◌||◌, cond, if◌then◌else◌, List, [], ◌∷◌, filter, Option, Some, None, refl, sym, ap, subst, ◌∙◌, arith}
use Rattle.std.specs.Prelude.{is_some, IsSomeAnd, IfSome, option_and_then, take, slice_get, count_by}
use Rattle.std.specs.List.{AllByRecursion, list_any}
use Rattle.std.specs.Option.{option_map_or}
use Rattle.std.proofs.lemmas.Bool.{eq-eqb, true≢false}
use Rattle.std.proofs.lemmas.Bool.Decides.{Decides-eqb}
use Rattle.std.proofs.lemmas.List.Elements.{recursion_from_All}
use Rattle.std.proofs.lemmas.List.Recursion.{is_count_by}
use Rattle.handler_script.specs.declared.action.Action.{Action}
use Rattle.handler_script.specs.declared.action.Action.TheVariants as action
use Rattle.handler_script.specs.declared.action.Block.{Block}
use Rattle.handler_script.specs.declared.script.Point.TheVariants as point
use Rattle.handler_script.specs.declared.script.Script.{Script}
use Rattle.handler_script.specs.declared.term.Terms.{Terms}
use Rattle.handler_script.specs.Blocks.{in_main, in_handler}
use Rattle.handler_script.specs.Messages.{resolves, replies}
use Rattle.handler_script.specs.ScriptOf.{blocks_for, action_at, reply_at}
use Rattle.ipdl_base.specs.Lines.{same_side}
use Rattle.handler_script.specs.Served.{serves, is_number}
use Rattle.handler_script.specs.Valid.{EachTermFits, IsValidAction, IsValidIn, IsHandledBy, IsValidBlock, IsValid, answers_handled}
use Rattle.ipdl_base.specs.declared.kinds.Side.{Side}
use Rattle.ipdl_base.specs.declared.kinds.Side.TheVariants as sides
use Rattle.ipdl_base.specs.declared.schema.MessageRow.{MessageRow}
use Rattle.ipdl_base.specs.declared.schema.ParamRow.{ParamRow}
use Rattle.ipdl_base.specs.declared.schema.Schema.{Schema}
use Rattle.ipdl_base.specs.declared.kinds.Semantics.{Semantics}
use Rattle.ipdl_base.specs.declared.kinds.Semantics.TheVariants.{Async, Sync}
use Rattle.ipdl_base.specs.Sound.{message_of}
use Rattle.channel_model.specs.Numbers.{makes_promise, request_row}
use Rattle.channel_model.proofs.FittingEnds.{all-at}
use Rattle.script_steps.specs.NextEvent.{block_for, handler_action}
use Rattle.script_steps.specs.Progress.{HandledRequest}
use Rattle.script_runs.specs.Handlers.{actions_for, has_answered}
use Rattle.script_runs.specs.Laws.{AnswersComeOnce}

-- Lists in which one element passes

abbrev counted : {A : Type 0} → (A → Bool) → List A → ℕ
counted f [] = 0
counted f (x ∷ xs) = cond (f x) (1 + counted f xs) (counted f xs)

counted-is : {A : Type 0} (f : A → Bool) (xs : List A) → counted f xs ≡ count_by f xs
counted-is f xs = is_count_by (counted f) f refl (λ x ys. refl) xs

counts-one : {A : Type 0} (f : A → Bool) (xs : List A) (i : ℕ) (a : A) → slice_get xs i ≡ Some a → f a ≡ true → 1 ≤ counted f xs
counts-one f [] i a is h = cc
counts-one f (x ∷ xs) zero a is h =
    let same : x ≡ a = cc in
    let k : f x ≡ true = ap f same ∙ h in
    subst (λ (b : Bool). 1 ≤ cond b (1 + counted f xs) (counted f xs)) (sym k) (omega arith)
counts-one f (x ∷ xs) (suc i) a is h = by (f x) (counts-one f xs i a is h)
  where
    by : (b : Bool) → 1 ≤ counted f xs → 1 ≤ cond b (1 + counted f xs) (counted f xs)
    by true k = omega (arith, k)
    by false k = k

-- before the one that passes, no other passes
none-before : {A : Type 0} (f : A → Bool) (xs : List A) (i : ℕ) (a : A) → counted f xs ≤ 1 → slice_get xs i ≡ Some a → f a ≡ true → list_any f (take i xs) ≡ false
none-before f [] i a few is h = cc
none-before f (x ∷ xs) zero a few is h = refl
none-before f (x ∷ xs) (suc i) a few is h = by (f x) refl few (counts-one f xs i a is h) (λ k. none-before f xs i a k is h)
  where
    by : (b : Bool) → f x ≡ b → cond b (1 + counted f xs) (counted f xs) ≤ 1 → 1 ≤ counted f xs → (counted f xs ≤ 1 → list_any f (take i xs) ≡ false) → list_any f (x ∷ take i xs) ≡ false
    by true e k one rest = absurd (omega (arith, k, one))
    by false e k one rest = ap (λ (b : Bool). b || list_any f (take i xs)) e ∙ rest k

-- one more element of a list: if no element passes, none before it did, nor does the last
pub none-more : {A : Type 0} (f : A → Bool) (xs : List A) (i : ℕ) (a : A) → slice_get xs i ≡ Some a → list_any f (take (suc i) xs) ≡ false → (list_any f (take i xs) ≡ false) × (f a ≡ false)
none-more f [] i a is h = cc
none-more f (x ∷ xs) zero a is h = by (f x) refl h
  where
    by : (b : Bool) → f x ≡ b → (b || list_any f (take 0 xs)) ≡ false → (list_any f (take 0 (x ∷ xs)) ≡ false) × (f a ≡ false)
    by true e k = cc
    by false e k = let same : x ≡ a = cc in (refl, ap f (sym same) ∙ e)
none-more f (x ∷ xs) (suc i) a is h = by (f x) refl h (λ k. none-more f xs i a is k)
  where
    by : (b : Bool) → f x ≡ b → (b || list_any f (take (suc i) xs)) ≡ false → (list_any f (take (suc i) xs) ≡ false → (list_any f (take i xs) ≡ false) × (f a ≡ false)) → (list_any f (x ∷ take i xs) ≡ false) × (f a ≡ false)
    by true e k rest = cc
    by false e k rest = let r = rest k in (ap (λ (b : Bool). b || list_any f (take i xs)) e ∙ r.0, r.1)

-- Blocks that serve

all-passing : {A : Type 0} (P : A → Type 0) (f : A → Bool) (xs : List A) → AllByRecursion P xs → AllByRecursion (λ x. P x × (f x ≡ true)) (filter f xs)
all-passing P f [] h = tt
all-passing P f (x ∷ xs) h = by (f x) refl (all-passing P f xs h.1)
  where
    by : (b : Bool) → f x ≡ b → AllByRecursion (λ x. P x × (f x ≡ true)) (filter f xs) → AllByRecursion (λ x. P x × (f x ≡ true)) (cond b (x ∷ filter f xs) (filter f xs))
    by true e k = ((h.0, e), k)
    by false e k = k

both : (a b : Bool) → (a && b) ≡ true → (a ≡ true) × (b ≡ true)
both true true h = (refl, refl)
both true false h = cc
both false true h = cc
both false false h = cc

side-is : (one other : Side) → same_side one other ≡ true → one ≡ other
side-is sides.Parent sides.Parent h = refl
side-is sides.Parent sides.Child h = cc
side-is sides.Child sides.Parent h = cc
side-is sides.Child sides.Child h = refl

number-is : (one other : Option ℕ) → is_number one other ≡ true → one ≡ other
number-is None None h = refl
number-is (Some m) (Some n) h = ap Some ((Decides-eqb m n).0 h)
number-is None (Some n) h = cc
number-is (Some m) None h = cc

-- a block that is found for a side and a message is valid for them
record Serves (schema : Schema) (of : Side) (handled : Option ℕ) (block : Block) : Type 0 where
  valid : IsValidBlock schema block handled
  side : block.side ≡ of

serves-at : (schema : Schema) (script : Script) (side : Side) (handled : Option ℕ) (at : ℕ) (block : Block) → IsValid schema script → slice_get (blocks_for script side handled) at ≡ Some block → Serves schema side handled block
serves-at schema script of handled at block v is =
    let P : Block → Type 0 = λ b. IsValidBlock schema b b.handles × (serves of handled b ≡ true) in
    let found : P block =
    all-at P (blocks_for script of handled) at block (all-passing (λ (b : Block). IsValidBlock schema b b.handles) (serves of handled) script.blocks (recursion_from_All (λ (b : Block). IsValidBlock schema b b.handles) script.blocks v.blocks)) is
    in
    let parts = both (same_side block.side of) (is_number block.handles handled) found.1 in
    record { valid = subst (IsValidBlock schema block) (number-is block.handles handled parts.1) found.0; side = side-is block.side of parts.0 }

-- The message that a block handles, and what the block is valid for.
pub record Handles (schema : Schema) (side : Side) (number : ℕ) (block : Block) : Type 0 where
  pub row : MessageRow
  pub found : request_row schema number ≡ Some row
  pub valid : IsValidIn schema (in_handler side row) block

pub same-row : (b : Bool) (row : MessageRow) → b ≡ true → (if b then Some row else None) ≡ Some row
same-row true row h = refl
same-row false row h = cc

pub row-found : (schema : Schema) (number : ℕ) (row : MessageRow) → message_of schema number ≡ Some row → row.number ≡ number → request_row schema number ≡ Some row
row-found schema number row found is = ap (option_and_then (λ (r : MessageRow). if r.number == number then Some r else None)) found ∙ same-row (row.number == number) row (eq-eqb row.number number is)

handles-row : (schema : Schema) (side : Side) (number : ℕ) (block : Block) → block.side ≡ side → (found : Option MessageRow) → message_of schema number ≡ found → IsSomeAnd found (IsHandledBy schema block number) → Handles schema side number block
handles-row schema side number block own None is h = absurd h
handles-row schema side number block own (Some row) is h = record {
  row = row;
  found = row-found schema number row is h.0;
  valid = subst (λ (s : Side). IsValidIn schema (in_handler s row) block) own h.3;
}

handles-at : (schema : Schema) (script : Script) (side : Side) (number at : ℕ) (block : Block) → IsValid schema script → slice_get (blocks_for script side (Some number)) at ≡ Some block → Handles schema side number block
handles-at schema script side number at block v is =
    let s : Serves schema side (Some number) block = serves-at schema script side (Some number) at block v is in
    handles-row schema side number block s.side (message_of schema number) refl s.valid

-- What is known of an action that a handler has reached.
pub record IsHandlerAction (schema : Schema) (script : Script) (side : Side) (request : HandledRequest) (a : Action) : Type 0 where
  pub row : MessageRow
  pub found : request_row schema request.number ≡ Some row
  pub valid : IsValidAction schema (in_handler side row) a
  pub once : answers_handled a ≡ true → has_answered script side request ≡ false

found-action : (schema : Schema) (script : Script) (side : Side) (request : HandledRequest) (a : Action) → IsValid schema script → (found : Option Block) → slice_get (blocks_for script side (Some request.number)) (block_for script side request) ≡ found
    → option_and_then (λ (block : Block). slice_get block.actions request.acts) found ≡ Some a → IsHandlerAction schema script side request a
found-action schema script side request a v None is h = cc
found-action schema script side request a v (Some block) is h =
    let s : Handles schema side request.number block = handles-at schema script side request.number (block_for script side request) block v is in
    let few : counted answers_handled block.actions ≤ 1 = subst (λ n. n ≤ 1) (sym (counted-is answers_handled block.actions)) s.valid.once in
    record {
      row = s.row;
      found = s.found;
      valid = all-at (IsValidAction schema (in_handler side s.row)) block.actions request.acts a (recursion_from_All (IsValidAction schema (in_handler side s.row)) block.actions s.valid.actions) h;
      once = λ answers. ap (λ (o : Option Block). list_any answers_handled (take request.acts (option_map_or (λ (b : Block). b.actions) o []))) is ∙ none-before answers_handled block.actions request.acts a few h answers;
    }

pub handler-action : (schema : Schema) (script : Script) (side : Side) (request : HandledRequest) (a : Action) → IsValid schema script → handler_action script side request ≡ Some a → IsHandlerAction schema script side request a
handler-action schema script side request a v h = found-action schema script side request a v (slice_get (blocks_for script side (Some request.number)) (block_for script side request)) refl h

pub answers_come_once : AnswersComeOnce
answers_come_once schema script side request a v h answers = (handler-action schema script side request a v h).once answers

-- the action that a handler has reached is the next of its block
found-in : (script : Script) (side : Side) (request : HandledRequest) (a : Action) → (found : Option Block) → slice_get (blocks_for script side (Some request.number)) (block_for script side request) ≡ found
    → option_and_then (λ (block : Block). slice_get block.actions request.acts) found ≡ Some a → slice_get (actions_for script side request) request.acts ≡ Some a
found-in script side request a None is h = cc
found-in script side request a (Some block) is h = ap (λ (o : Option Block). slice_get (option_map_or (λ (b : Block). b.actions) o []) request.acts) is ∙ h

pub action-in : (script : Script) (side : Side) (request : HandledRequest) (a : Action) → handler_action script side request ≡ Some a → slice_get (actions_for script side request) request.acts ≡ Some a
action-in script side request a h = found-in script side request a (slice_get (blocks_for script side (Some request.number)) (block_for script side request)) refl h

-- An action that a main has reached.
main-found : (schema : Schema) (script : Script) (side : Side) (index : ℕ) (a : Action) → IsValid schema script → (found : Option Block) → slice_get (blocks_for script side None) 0 ≡ found
    → option_and_then (λ (block : Block). slice_get block.actions index) found ≡ Some a → IsValidAction schema (in_main side) a
main-found schema script side index a v None is h = cc
main-found schema script side index a v (Some block) is h =
    let s : Serves schema side None block = serves-at schema script side None 0 block v is in
    let valid : IsValidIn schema (in_main side) block = subst (λ (x : Side). IsValidIn schema (in_main x) block) s.side s.valid in
    all-at (IsValidAction schema (in_main side)) block.actions index a (recursion_from_All (IsValidAction schema (in_main side)) block.actions valid.actions) h

pub main-action : (schema : Schema) (script : Script) (side : Side) (index : ℕ) (a : Action) → IsValid schema script → action_at script side (point.Main index) ≡ Some a → IsValidAction schema (in_main side) a
main-action schema script side index a v h = main-found schema script side index a v (slice_get (blocks_for script side None) 0) refl h

-- A reply of a handler.
pub record IsHandlerReply (schema : Schema) (side : Side) (number : ℕ) (ts : Terms) : Type 0 where
  pub row : MessageRow
  pub found : request_row schema number ≡ Some row
  pub valid : IsSomeAnd (replies row) (λ types. EachTermFits schema (in_handler side row) types ts)

reply-found : (schema : Schema) (script : Script) (side : Side) (number at : ℕ) (ts : Terms) → IsValid schema script → (found : Option Block) → slice_get (blocks_for script side (Some number)) at ≡ found
    → option_and_then (λ (block : Block). block.reply) found ≡ Some ts → IsHandlerReply schema side number ts
reply-found schema script side number at ts v None is h = cc
reply-found schema script side number at ts v (Some block) is h =
    let s : Handles schema side number block = handles-at schema script side number at block v is in
    record { row = s.row; found = s.found; valid = subst (λ (o : Option Terms). IfSome o (λ values. IsSomeAnd (replies s.row) (λ types. EachTermFits schema (in_handler side s.row) types values))) h s.valid.reply }

pub handler-reply : (schema : Schema) (script : Script) (side : Side) (number at : ℕ) (ts : Terms) → IsValid schema script → reply_at script side number at ≡ Some ts → IsHandlerReply schema side number ts
handler-reply schema script side number at ts v h = reply-found schema script side number at ts v (slice_get (blocks_for script side (Some number)) at) refl h

-- an async message with returns makes promises
promises-async : (s : Semantics) (types : Option (List ParamRow)) (row : MessageRow) → row.semantics ≡ s → row.returns ≡ types → (resolves row ≡ None → ⊥) → makes_promise row ≡ true
promises-async Async None row s r h = absurd (h (ap (λ (x : Semantics). resolves (record row { semantics = x })) s ∙ r))
promises-async Async (Some types) row s r h = ap (λ (x : Semantics). makes_promise (record row { semantics = x })) s ∙ ap (λ o. makes_promise (record row { semantics = Async; returns = o })) r
promises-async Sync types row s r h = absurd (h (ap (λ (x : Semantics). resolves (record row { semantics = x })) s))

-- the message of an action that answers makes promises
pub answering-row : (schema : Schema) (side : Side) (row : MessageRow) (a : Action) → answers_handled a ≡ true → IsValidAction schema (in_handler side row) a → makes_promise row ≡ true
answering-row schema side row (action.Resolve values) h v = promises-async row.semantics row.returns row refl refl (λ none. subst (λ (o : Option (List ParamRow)). IsSomeAnd o (λ types. EachTermFits schema (in_handler side row) types values)) none v)
answering-row schema side row action.Reject h v = promises-async row.semantics row.returns row refl refl (λ none. true≢false (sym v ∙ ap is_some none))
answering-row schema side row (action.Keep name) h v = promises-async row.semantics row.returns row refl refl (λ none. true≢false (sym v.1 ∙ ap is_some none))
answering-row schema side row (action.Send who number values) h v = cc
answering-row schema side row (action.New name who number values) h v = cc
answering-row schema side row (action.Let name who) h v = cc
answering-row schema side row (action.ResolveNamed name number values) h v = cc
answering-row schema side row (action.RejectNamed name number) h v = cc
answering-row schema side row action.Close h v = cc
answering-row schema side row action.Die h v = cc
