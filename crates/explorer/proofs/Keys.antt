-- What the keys of a search tell of the states that it has met.
use Rattle.std.proofs.Common.{◌≡◌, ℕ, Bool, true, false, eqb, ◌&&◌, ◌||◌, if◌then◌else◌, List, [], ◌∷◌, ◌++◌, Option, Some, None, refl, sym, ap, subst, ◌∙◌, arith}
use Rattle.std.specs.Prelude.{Contains, option_and_then}
use Rattle.std.specs.Bool.{Decides}
use Rattle.std.specs.List.{AllZip, list_any}
use Rattle.std.proofs.lemmas.Bool.{eq-eqb, eqb-true}
use Rattle.std.proofs.lemmas.Map.Views.{Contains-from_any}
use Rattle.ipdl_base.specs.declared.kinds.Side.{Side}
use Rattle.ipdl_base.specs.declared.kinds.Side.TheVariants as sides
use Rattle.ipdl_base.specs.Lines.{same_side}
use Rattle.channel_model.specs.Runs.{RunState}
use Rattle.schedules.specs.declared.turn.Turn.{Turn}
use Rattle.script_steps.specs.Choices.{Choice, Setting, choices_of}
use Rattle.script_steps.specs.Progress.{lines_of}
use Rattle.explorations.specs.Explorations.{state_at, states_of}
use Rattle.explorations.specs.Words.{AreAlike, Point, reached}
use Rattle.explorer.proofs.Numbering.{both-true, list-kept, one-list, one-number}
use Rattle.explorer.proofs.Lists.{kept-from, kept-in, split-contained, zip-left-of, zip-more, zip-right-of}
use Rattle.explorer.proofs.Points.{at_state}
use Rattle.explorer.specs.declared.histories.NextChoice.{NextChoice}
use Rattle.explorer.specs.declared.states.StateKey.{StateKey}
use Rattle.explorer.specs.declared.states.States.{States}
use Rattle.explorer.specs.Numbering.{IsListOf}
use Rattle.explorer.specs.Keys.{HasStates, IsKeyAfter, IsKeyOf, choices_by, number_of, with_number}

-- what each side has chosen is the same in two states
pub record SameChoices (one other : RunState) : Type 0 where
  pub by : (side : Side) → choices_by side (choices_of one.lines) ≡ choices_by side (choices_of other.lines)

-- Keys as histories grow

pub key-kept : (choices more : List NextChoice) (key : StateKey) (state : RunState) → IsKeyOf choices key state → IsKeyOf (choices ++ more) key state
key-kept choices more key state h = record { numbers = λ side. list-kept choices more (h.numbers side) }

pub keys-kept : (choices more : List NextChoice) (keys : List StateKey) (states : List RunState) → AllZip (IsKeyOf choices) keys states → AllZip (IsKeyOf (choices ++ more)) keys states
keys-kept choices more keys states h = zip-more (IsKeyOf choices) (IsKeyOf (choices ++ more)) (λ key state k. key-kept choices more key state k) keys states h

-- One choice more

choices-append : (side : Side) (first : List Choice) (choice : Choice) → choices_by side (first ++ choice ∷ []) ≡ (if same_side choice.side side then choices_by side first ++ choice.delivers ∷ [] else choices_by side first)
choices-append side [] choice = by (same_side choice.side side)
  where
    by : (b : Bool) → (if b then choice.delivers ∷ [] else []) ≡ (if b then [] ++ choice.delivers ∷ [] else [])
    by true = refl
    by false = refl
choices-append side (x ∷ first) choice =
    ap (λ (bs : List Bool). if same_side x.side side then x.delivers ∷ bs else bs) (choices-append side first choice) ∙ by (same_side x.side side) (same_side choice.side side)
  where
    by : (b c : Bool)
        → (if b then x.delivers ∷ (if c then choices_by side first ++ choice.delivers ∷ [] else choices_by side first) else (if c then choices_by side first ++ choice.delivers ∷ [] else choices_by side first))
        ≡ (if c then (if b then x.delivers ∷ choices_by side first else choices_by side first) ++ choice.delivers ∷ [] else (if b then x.delivers ∷ choices_by side first else choices_by side first))
    by true true = refl
    by true false = refl
    by false true = refl
    by false false = refl

told : (state next : RunState) (own side : Side) (delivers : Bool) → choices_of next.lines ≡ choices_of state.lines ++ record { side = own; delivers = delivers } ∷ []
    → choices_by side (choices_of next.lines) ≡ (if same_side own side then choices_by side (choices_of state.lines) ++ delivers ∷ [] else choices_by side (choices_of state.lines))
told state next own side delivers made = ap (choices_by side) made ∙ choices-append side (choices_of state.lines) (record { side = own; delivers = delivers })

pub key-after : (choices more : List NextChoice) (key : StateKey) (state next : RunState) (side : Side) (delivers : Bool) (number : ℕ) → IsKeyOf choices key state
    → choices_of next.lines ≡ choices_of state.lines ++ record { side = side; delivers = delivers } ∷ []
    → ((list : List Bool) → IsListOf choices (number_of side key) list → IsListOf (choices ++ more) number (list ++ delivers ∷ [])) → IsKeyOf (choices ++ more) (with_number side number key) next
key-after choices more key state next sides.Parent delivers number h made after = record { numbers = by }
  where
    by : (side : Side) → IsListOf (choices ++ more) (number_of side (with_number sides.Parent number key)) (choices_by side (choices_of next.lines))
    by sides.Parent = subst (IsListOf (choices ++ more) number) (sym (told state next sides.Parent sides.Parent delivers made)) (after (choices_by sides.Parent (choices_of state.lines)) (h.numbers sides.Parent))
    by sides.Child = subst (IsListOf (choices ++ more) key.child) (sym (told state next sides.Parent sides.Child delivers made)) (list-kept choices more (h.numbers sides.Child))
key-after choices more key state next sides.Child delivers number h made after = record { numbers = by }
  where
    by : (side : Side) → IsListOf (choices ++ more) (number_of side (with_number sides.Child number key)) (choices_by side (choices_of next.lines))
    by sides.Parent = subst (IsListOf (choices ++ more) key.parent) (sym (told state next sides.Child sides.Parent delivers made)) (list-kept choices more (h.numbers sides.Parent))
    by sides.Child = subst (IsListOf (choices ++ more) number) (sym (told state next sides.Child sides.Child delivers made)) (after (choices_by sides.Child (choices_of state.lines)) (h.numbers sides.Child))

pub key-next : (choices after more : List NextChoice) (key : StateKey) (state next : RunState) (side : Side) (delivers : Bool) (found : StateKey) → IsKeyOf choices key state → after ≡ choices ++ more
    → choices_of next.lines ≡ choices_of state.lines ++ record { side = side; delivers = delivers } ∷ [] → IsKeyAfter choices after key side delivers found → IsKeyOf after found next
key-next choices after more key state next side delivers found h grown made is =
    subst (λ (cs : List NextChoice). IsKeyOf cs found next) (sym grown)
    (subst (λ (k : StateKey). IsKeyOf (choices ++ more) k next) (sym is.is)
    (key-after choices more key state next side delivers is.number h made (λ list k. subst (λ (cs : List NextChoice). IsListOf cs is.number (list ++ delivers ∷ [])) grown (is.lists list k))))

-- Words and states

state-of-point : (point : Option Point) (state : RunState) → option_and_then (λ p. state_at p.state p.spent) point ≡ Some state → point ≡ Some (at_state state)
state-of-point None state h = cc
state-of-point (Some point) state h = by point.state point.spent h
  where
    by : (found : RunState) (spent : Option Side) → state_at found spent ≡ Some state → Some (record { state = found; spent = spent }) ≡ Some (at_state state)
    by found None h = let e : found ≡ state = cc in ap (λ (s : RunState). Some (at_state s)) e
    by found (Some side) h = cc

-- The state of a key that was met

pub record IsMet (setting : Setting) (words : List (List Turn)) (next : RunState) : Type 0 where
  pub found : List Turn
  pub same : RunState
  pub listed : Contains words found
  pub leads : reached setting found ≡ Some (at_state same)
  pub choices : SameChoices next same

pub met-before : (setting : Setting) (words : List (List Turn)) (states : States) (key : StateKey) (next : RunState) → HasStates setting words states → Contains states.met.keys key → IsKeyOf states.histories.choices.keys key next → IsMet setting words next
met-before setting words states key next h met is =
    let s = zip-right-of (IsKeyOf states.histories.choices.keys) states.met.keys (states_of setting words) key h.keys met in
    let w = kept-from (λ (word : List Turn). option_and_then (λ (p : Point). state_at p.state p.spent) (reached setting word)) words s.0 s.1 in
    record {
      found = w.0;
      same = s.0;
      listed = w.1;
      leads = state-of-point (reached setting w.0) s.0 w.2;
      choices = record { by = λ side. one-list states.histories.choices.keys (is.numbers side) (number_of side key) (choices_by side (choices_of s.0.lines)) (s.2.numbers side) refl };
    }

-- A state whose key was not met is new.
pub new-state : (setting : Setting) (words : List (List Turn)) (states : States) (key : StateKey) (next : RunState) → ((one other : RunState) → ((side : Side) → lines_of side one.lines ≡ lines_of side other.lines) → SameChoices one other)
    → HasStates setting words states → (Contains states.met.keys key → ⊥) → IsKeyOf states.histories.choices.keys key next
    → (one : List Turn) (same : Point) → Contains words one → reached setting one ≡ Some same → AreAlike same (at_state next) → ⊥
new-state setting words states key next told h unmet is one same listed leads alike = unmet (subst (Contains states.met.keys) (same-key k.0 key (λ side.
    one-number states.histories.choices.keys h.apart.once (k.2.numbers side) (number_of side key) (choices_by side (choices_of next.lines)) (is.numbers side) ((told same.state next alike.lines).by side))) k.1)
  where
    same-key : (a b : StateKey) → ((side : Side) → number_of side a ≡ number_of side b) → a ≡ b
    same-key a b e = ap (λ (n : ℕ). record { parent = n; child = a.child }) (e sides.Parent) ∙ ap (λ (n : ℕ). record { parent = b.parent; child = n }) (e sides.Child)

    there : option_and_then (λ (p : Point). state_at p.state p.spent) (reached setting one) ≡ Some same.state
    there = ap (option_and_then (λ (p : Point). state_at p.state p.spent)) leads ∙ ap (state_at same.state) alike.spent

    k : (key : StateKey) × Contains states.met.keys key × IsKeyOf states.histories.choices.keys key same.state
    k =
        zip-left-of (IsKeyOf states.histories.choices.keys) states.met.keys (states_of setting words) same.state h.keys
        (kept-in (λ (word : List Turn). option_and_then (λ (p : Point). state_at p.state p.spent) (reached setting word)) words one same.state there listed)

-- Keys in a set of them

abbrev pub key_eq : StateKey → StateKey → Bool
key_eq one other = eqb one.parent other.parent && eqb one.child other.child

key-equal : (one other : StateKey) → key_eq one other ≡ true → one ≡ other
key-equal one other h =
    let both = both-true (eqb one.parent other.parent) (eqb one.child other.child) h in
    ap (λ (n : ℕ). record { parent = n; child = one.child }) (eqb-true one.parent other.parent both.0) ∙ ap (λ (n : ℕ). record { parent = other.parent; child = n }) (eqb-true one.child other.child both.1)

key-self : (key : StateKey) → key_eq key key ≡ true
key-self key = ap (λ (b : Bool). b && eqb key.child key.child) (eq-eqb key.parent key.parent refl) ∙ eq-eqb key.child key.child refl

any-key : (keys : List StateKey) (key : StateKey) → Contains keys key → list_any (key_eq key) keys ≡ true
any-key [] key c = absurd (omega (arith, c.1))
any-key (x ∷ keys) key c = split-contained (λ k. list_any (key_eq k) (x ∷ keys) ≡ true) x key keys
    (λ same. ap (λ (b : Bool). b || list_any (key_eq key) keys) (ap (key_eq key) (sym same) ∙ key-self key))
    (λ c. by (key_eq key x) (any-key keys key c)) c
  where
    by : (b : Bool) → list_any (key_eq key) keys ≡ true → (b || list_any (key_eq key) keys) ≡ true
    by true h = refl
    by false h = h

pub has-so : (keys : List StateKey) (key : StateKey) (b : Bool) → b ≡ list_any (key_eq key) keys → Decides b (Contains keys key)
has-so keys key b h = (λ t. Contains-from_any key-equal key keys (sym h ∙ t), λ c. h ∙ any-key keys key c)

pub added-so : (keys after : List StateKey) (key : StateKey) → (Contains keys key → ⊥) → after ≡ (if list_any (key_eq key) keys then keys else keys ++ key ∷ []) → after ≡ keys ++ key ∷ []
added-so keys after key none h = h ∙ ap (λ (b : Bool). if b then keys else keys ++ key ∷ []) (by (list_any (key_eq key) keys) refl)
  where
    by : (b : Bool) → list_any (key_eq key) keys ≡ b → list_any (key_eq key) keys ≡ false
    by true e = absurd (none (Contains-from_any key-equal key keys e))
    by false e = e
