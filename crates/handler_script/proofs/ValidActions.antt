-- The action of a statement that breaks no rule can be done.
use Rattle.std.proofs.Common.{◌≡◌, ℕ, suc, ◌+◌, ◌*◌, ◌/◌, ◌%◌, ◌<◌, ◌≤◌, Bool, true, false, not, ◌||◌, List, [], ◌∷◌, length, Option, Some, None, ◌⊎◌, inl, inr, refl, sym, ap, subst, arith}
use Rattle.std.specs.Prelude.{IsTrue, IfSome, IsSome, IsNone, IsSomeAnd, unwrap_or, option_and_then, slice_get}
use Rattle.std.specs.List.{find}
use Rattle.std.specs.Option.{option_map, option_map_or}
use Rattle.std.specs.Str.{bytes_eq}
use Rattle.std.proofs.lemmas.Bool.{true≢false, cases_Bool, or_parts, false_from_ne_true}
use Rattle.std.proofs.lemmas.Option.{slice_get_within}
use Rattle.ipdl_base.specs.declared.schema.MessageRow.{MessageRow}
use Rattle.ipdl_base.specs.declared.schema.ParamRow.{ParamRow}
use Rattle.ipdl_base.specs.declared.schema.ProtocolRow.{ProtocolRow}
use Rattle.ipdl_base.specs.declared.schema.Schema.{Schema}
use Rattle.ipdl_base.specs.Sound.{IsSound, message_of}
use Rattle.ipdl_base.specs.Words.{short_name}
use Rattle.ipdl_base.proofs.Numbers as numbers
use Rattle.script_reader.specs.declared.statement.WrittenMessage.{WrittenMessage}
use Rattle.script_reader.specs.declared.statement.MessageName.{MessageName}
use Rattle.script_reader.specs.declared.statement.Statement.{Statement}
use Rattle.script_reader.specs.declared.statement.Statement.TheVariants as forms
use Rattle.script_reader.specs.declared.written.Who.{Who}
use Rattle.script_reader.specs.declared.written.Who.TheVariants as whos
use Rattle.script_reader.specs.declared.written.WrittenValues.{WrittenValues}
use Rattle.handler_script.specs.Blocks.{answers, BlockContext, side_of, given_in, handled_in}
use Rattle.handler_script.specs.Broken.{NamesNone, sent, IsMissent, IsUnsent, is_no_actor, types_of, AreUnfit, ValuesBreak, is_unknown, IsMisplaced}
use Rattle.handler_script.specs.Mentions.{any_mentions, speaks_of}
use Rattle.ipdl_base.specs.Sides.{sends}
use Rattle.handler_script.specs.Messages.{message_in, protocol_named, message_named, named, resolves, replies, is_constructor}
use Rattle.handler_script.specs.ScriptOf.{number_of, typed, action_of, reply_of}
use Rattle.handler_script.specs.Terms.{param_at, is_actor, EachFits, terms_of}
use Rattle.handler_script.specs.Valid.{MayName, IsSendable, IsValidAction, EachTermFits, answers_handled}
use Rattle.handler_script.proofs.Names.{IsNamed, ValuesNames, Names}
use Rattle.handler_script.proofs.TermFit.{is_true, may_name, each_value_fits}

some_of : {X : Type 0} (o : Option X) → ¬ IsNone o → (x : X) × (o ≡ Some x)
some_of None h = absurd (h refl)
some_of (Some x) h = (x, refl)

pub some_in : {X : Type 0} (P : X → Type 0) (o : Option X) (x : X) → o ≡ Some x → P x → IsSomeAnd o P
some_in {X} P o x e h = let Q : Option X → Type 0 = λ o. IsSomeAnd o P in subst Q (sym e) h

-- Messages by their numbers

find_at : {X : Type 0} (p : X → Bool) (xs : List X) (x : X) → find p xs ≡ Some x → (i : ℕ) × (slice_get xs i ≡ Some x)
find_at p [] x e = absurd (let no : ⊥ = cc in no)
find_at {X} p (y ∷ ys) x e = elim (cases_Bool (p y)) [
  | inl t ↦ (0, rw t at e)
  | inr f ↦ (let later = find_at p ys x (rw f at e) in (suc later.0, later.1))
]

in_protocol : (name : MessageName) (o : Option ProtocolRow) (m : MessageRow) → option_and_then (message_in name.message) o ≡ Some m → (row : ProtocolRow) × (o ≡ Some row) × (message_in name.message row ≡ Some m)
in_protocol name None m e = absurd (let no : ⊥ = cc in no)
in_protocol name (Some row) m e = (row, refl, e)

-- in a sound schema the message with a name is the one with its number
pub message_numbered : (schema : Schema) → IsSound schema → (name : MessageName) (m : MessageRow) → message_named schema name ≡ Some m → message_of schema m.number ≡ Some m
message_numbered schema sound name m e =
    let there = in_protocol name (protocol_named schema name.protocol) m e in
    let row = there.0 in
    let p = find_at (λ (p : ProtocolRow). bytes_eq (short_name p.name) name.protocol) schema.protocols row there.1 in
    let i = find_at (λ (m : MessageRow). bytes_eq m.name name.message) row.messages m there.2 in
    let rows = sound.protocols p.0 row p.1 in
    let number : m.number ≡ p.0 * 65536 + 2 * i.0 = (rows.messages i.0 m i.1).number in
    let low : i.0 < length row.messages = slice_get_within row.messages i.0 m i.1 in
    let few : length row.messages ≤ 32768 = rows.few in
    let of_protocol : p.0 ≡ m.number / 65536 = omega arith in
    let of_message : i.0 ≡ m.number % 65536 / 2 = omega arith in
    let even : m.number % 2 ≡ 0 = omega arith in
    let P : ℕ → Type 0 = λ n. slice_get schema.protocols n ≡ Some row in
    let Q : ℕ → Type 0 = λ n. slice_get row.messages n ≡ Some m in
    sym (numbers.request_found schema m.number sound row (subst P of_protocol p.1) m (subst Q of_message i.1) even)

-- What is known of a statement in a block that breaks no rule
pub record IsUnbroken (schema : Schema) (answered : Bool) (b : BlockContext) (s : Statement) (below : List Statement) : Type 0 where
  pub known : ¬ NamesNone (named schema s) s
  pub direction : ¬ IsMissent b (sent (named schema s) s)
  pub values : ¬ ValuesBreak schema (given_in b) (types_of schema b s) s
  pub quiet : speaks_of (is_unknown b) s ≡ false
  pub placed : ¬ IsMisplaced (named schema s) answered b s below
  pub carried : ¬ IsUnsent (sent (named schema s) s)

-- a parameter to which something is sent, or that is named, is an actor
actor_param : (o : Option ParamRow) → ¬ IsTrue (option_map_or (λ param. not (is_actor param.shape)) o true) → IsSomeAnd o (λ param. IsTrue (is_actor param.shape))
actor_param None h = absurd (h refl)
actor_param (Some param) h = elim (cases_Bool (is_actor param.shape)) [ inl t ↦ t | inr f ↦ absurd (h (ap not f)) ]

param_named : (b : BlockContext) (w : Who) → ¬ IsTrue (is_no_actor (given_in b) w) → (n : ℕ) → whos.Param n ≡ w → MayName b w
param_named b w h n e =
    let P : Who → Type 0 = λ v. ¬ IsTrue (is_no_actor (given_in b) v) in
    let Q : Who → Type 0 = λ v. MayName b v in
    subst Q e (actor_param (param_at (given_in b) n) (subst P (sym e) h))

-- a message is sent
sendable : (schema : Schema) (sound : IsSound schema) (b : BlockContext) (name : MessageName) (vs : WrittenValues) (m : MessageRow) → message_named schema name ≡ Some m
    → sends (side_of b) m.direction ≡ true → m.carried ≡ true → ¬ ¬ EachFits schema (given_in b) m.params vs → any_mentions (is_unknown b) vs ≡ false → ValuesNames vs
    → IsSendable schema b (number_of schema name) (terms_of schema (unwrap_or (option_map (λ message. message.params) (message_named schema name)) []) vs) m × (message_of schema (number_of schema name) ≡ Some m)
sendable schema sound b name vs m e sent carried fits quiet names =
    let found : message_of schema m.number ≡ Some m = message_numbered schema sound name m e in
    let P : Option MessageRow → Type 0 =
    λ o. IsSendable schema b (option_map_or (λ message. message.number) o 0) (terms_of schema (unwrap_or (option_map (λ message. message.params) o) []) vs) m × (message_of schema (option_map_or (λ message. message.number) o 0) ≡ Some m)
    in
    subst P (sym e) ((refl, sent, carried, each_value_fits schema b m.params vs fits quiet names), found)

-- the actor that a statement names, if it breaks no rule
who_valid : (b : BlockContext) (w : Who) → ¬ IsTrue (is_no_actor (given_in b) w) → is_unknown b w ≡ false → IsNamed w → MayName b w
who_valid b w actor quiet named = may_name b w quiet named (param_named b w actor)

-- a statement that sends
record IsCall (schema : Schema) (b : BlockContext) (w : Who) (c : WrittenMessage) (m : MessageRow) : Type 0 where
  pub who : MayName b w
  pub sendable : IsSendable schema b (number_of schema c.message) (terms_of schema (unwrap_or (option_map (λ message. message.params) (message_named schema c.message)) []) c.values) m
  pub found : message_of schema (number_of schema c.message) ≡ Some m

call_valid : (schema : Schema) (sound : IsSound schema) (b : BlockContext) (w : Who) (c : WrittenMessage) (m : MessageRow) → message_named schema c.message ≡ Some m
    → ¬ (IsTrue (is_no_actor (given_in b) w) ⊎ AreUnfit schema (given_in b) (option_map (λ message. message.params) (message_named schema c.message)) c.values)
    → ¬ IsMissent b (message_named schema c.message) → ¬ IsUnsent (message_named schema c.message)
    → (is_unknown b w || any_mentions (is_unknown b) c.values) ≡ false → IsNamed w → ValuesNames c.values → IsCall schema b w c m
call_valid schema sound b w c m e values direction carried quiet named names =
    let sent : sends (side_of b) m.direction ≡ true = is_true _ (λ n. direction (some_in (λ message. sends (side_of b) message.direction ≡ false) (message_named schema c.message) m e (false_from_ne_true _ n))) in
    let carries : m.carried ≡ true = is_true _ (λ n. carried (some_in (λ message. message.carried ≡ false) (message_named schema c.message) m e (false_from_ne_true _ n))) in
    let P : Option MessageRow → Type 0 = λ o. AreUnfit schema (given_in b) (option_map (λ message. message.params) o) c.values in
    let fits : ¬ ¬ EachFits schema (given_in b) m.params c.values = λ n. values (inr (subst P (sym e) n)) in
    let known = or_parts (is_unknown b w) (any_mentions (is_unknown b) c.values) quiet in
    let done = sendable schema sound b c.message c.values m e sent carries fits known.1 names in
    record { who = who_valid b w (λ t. values (inl t)) known.0 named; sendable = done.0; found = done.1 }

is_there : {X : Type 0} (o : Option X) → ¬ IsNone o → IsSome o
is_there None h = absurd (h refl)
is_there (Some x) h = refl

-- values that answer, if there are types for them
answer_valid : (schema : Schema) (b : BlockContext) (o : Option (List ParamRow)) (vs : WrittenValues) → ¬ IsNone o → ¬ AreUnfit schema (given_in b) o vs → any_mentions (is_unknown b) vs ≡ false → ValuesNames vs
    → IsSomeAnd o (λ returns. EachTermFits schema b returns (terms_of schema (unwrap_or o []) vs))
answer_valid schema b None vs there values quiet names = absurd (there refl)
answer_valid schema b (Some types) vs there values quiet names = each_value_fits schema b types vs values quiet names

-- a message that answers with a kept resolver
kept_valid : (schema : Schema) (sound : IsSound schema) (name : MessageName) (m : MessageRow) → message_named schema name ≡ Some m → ¬ IsSomeAnd (message_named schema name) (λ row. IsNone (resolves row))
    → (m.number ≡ number_of schema name) × (message_of schema (number_of schema name) ≡ Some m) × (¬ IsNone (resolves m))
kept_valid schema sound name m e placed =
    let found = message_numbered schema sound name m e in
    let P : Option MessageRow → Type 0 = λ o. (m.number ≡ option_map_or (λ message. message.number) o 0) × (message_of schema (option_map_or (λ message. message.number) o 0) ≡ Some m) in
    let both = subst P (sym e) (refl, found) in
    (both.0, both.1, λ none. placed (some_in (λ row. IsNone (resolves row)) (message_named schema name) m e none))

-- only one actor is named
who_quiet : (b : Bool) → (b || false) ≡ false → b ≡ false
who_quiet b h = (or_parts b false h).0

pub action_valid : (schema : Schema) (sound : IsSound schema) (answered : Bool) (b : BlockContext) (s : Statement) (below : List Statement) → IsUnbroken schema answered b s below → Names s → IfSome (action_of schema b s) (IsValidAction schema b)
action_valid schema sound answered b (forms.Main side) below u n = tt
action_valid schema sound answered b (forms.On side m) below u n = tt
action_valid schema sound answered b forms.End below u n = tt
action_valid schema sound answered b (forms.Send w c) below u n =
    let m = some_of (message_named schema c.message) (λ e. u.known (refl, e)) in
    let call = call_valid schema sound b w c m.0 m.1 u.values u.direction u.carried u.quiet n.0 n.1 in
    (call.who, some_in (IsSendable schema b (number_of schema c.message) (typed schema b (forms.Send w c) c.values)) _ m.0 call.found call.sendable)
action_valid schema sound answered b (forms.New name w c) below u n =
    let m = some_of (message_named schema c.message) (λ e. u.known (refl, e)) in
    let call = call_valid schema sound b w c m.0 m.1 u.values u.direction u.carried u.quiet n.1 n.2 in
    let makes : is_constructor m.0.kind ≡ true = is_true _ (λ n. u.placed (some_in (λ row. is_constructor row.kind ≡ false) (message_named schema c.message) m.0 m.1 (false_from_ne_true _ n))) in
    (n.0, call.who, some_in (λ message. IsSendable schema b (number_of schema c.message) (typed schema b (forms.New name w c) c.values) message × IsTrue (is_constructor message.kind)) _ m.0 call.found (call.sendable, makes))
action_valid schema sound answered b (forms.Let name w) below u n = (n.0, who_valid b w (λ t. u.values (inl t)) (who_quiet _ u.quiet) n.1)
action_valid schema sound answered b (forms.Resolve vs) below u n =
    answer_valid schema b (option_and_then resolves (handled_in b)) vs (λ none. u.placed (refl, inl none)) (λ h. u.values (inr h)) u.quiet n
action_valid schema sound answered b forms.Reject below u n = is_there _ (λ none. u.placed (refl, inl none))
action_valid schema sound answered b (forms.Keep name) below u n = (n, is_there _ (λ none. u.placed (refl, inl none)))
action_valid schema sound answered b (forms.ResolveKept name c) below u n =
    let m = some_of (message_named schema c.message) (λ e. u.known (refl, e)) in
    let kept = kept_valid schema sound c.message m.0 m.1 u.placed in
    let P : Option MessageRow → Type 0 = λ o. ¬ AreUnfit schema (given_in b) (option_and_then resolves o) c.values in
    let answer = answer_valid schema b (resolves m.0) c.values kept.2 (subst P m.1 (λ h. u.values (inr h))) u.quiet n.1 in
    let Q : Option MessageRow → Type 0 = λ o. IsSomeAnd (resolves m.0) (λ returns. EachTermFits schema b returns (terms_of schema (unwrap_or (option_and_then resolves o) []) c.values)) in
    (n.0, some_in (λ message. (message.number ≡ number_of schema c.message) × IsSomeAnd (resolves message) (λ returns. EachTermFits schema b returns (typed schema b (forms.ResolveKept name c) c.values))) _ m.0 kept.1 (kept.0, subst Q (sym m.1) answer))
action_valid schema sound answered b (forms.RejectKept name message) below u n =
    let m = some_of (message_named schema message) (λ e. u.known (refl, e)) in
    let kept = kept_valid schema sound message m.0 m.1 u.placed in
    (n, some_in (λ row. (row.number ≡ number_of schema message) × IsSome (resolves row)) _ m.0 kept.1 (kept.0, is_there _ kept.2))
action_valid schema sound answered b forms.Close below u n = tt
action_valid schema sound answered b forms.Die below u n = tt
action_valid schema sound answered b (forms.Return vs) below u n = tt

-- the values that a statement returns
pub reply_valid : (schema : Schema) (answered : Bool) (b : BlockContext) (s : Statement) (below : List Statement) → IsUnbroken schema answered b s below → Names s
    → IfSome (reply_of schema b s) (λ values. IsSomeAnd (option_and_then replies (handled_in b)) (λ returns. EachTermFits schema b returns values))
reply_valid schema answered b (forms.Return vs) below u n =
    answer_valid schema b (option_and_then replies (handled_in b)) vs (λ none. u.placed (inl none)) (λ h. u.values (inr h)) u.quiet n
reply_valid schema answered b s below u n = tt

-- whether an action answers is whether its statement does
pub answers_alike : (schema : Schema) (b : BlockContext) (s : Statement) → IfSome (action_of schema b s) (λ a. answers_handled a ≡ answers s)
answers_alike schema b (forms.Main side) = tt
answers_alike schema b (forms.On side m) = tt
answers_alike schema b forms.End = tt
answers_alike schema b (forms.Send w c) = refl
answers_alike schema b (forms.New n w c) = refl
answers_alike schema b (forms.Let n w) = refl
answers_alike schema b (forms.Resolve vs) = refl
answers_alike schema b forms.Reject = refl
answers_alike schema b (forms.Keep n) = refl
answers_alike schema b (forms.ResolveKept n c) = refl
answers_alike schema b (forms.RejectKept n m) = refl
answers_alike schema b forms.Close = refl
answers_alike schema b forms.Die = refl
answers_alike schema b (forms.Return vs) = tt

-- a second answer breaks a rule
pub answers_once : (schema : Schema) (answered : Bool) (b : BlockContext) (s : Statement) (below : List Statement) → IsUnbroken schema answered b s below → answers s ≡ true → answered ≡ false
answers_once schema answered b (forms.Resolve vs) below u e = false_from_ne_true _ (λ t. u.placed (refl, inr t))
answers_once schema answered b forms.Reject below u e = false_from_ne_true _ (λ t. u.placed (refl, inr t))
answers_once schema answered b (forms.Keep name) below u e = false_from_ne_true _ (λ t. u.placed (refl, inr t))
answers_once schema answered b s below u e = absurd (true≢false (sym e))
