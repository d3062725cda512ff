-- What the parser finds in any words, for any table of options.
use Rattle.std.proofs.Common.{◌≡◌, ◌∙◌, ◌&&◌, ◌||◌, Bool, true, false, cond, not, List, [], ◌∷◌, Option, Some, None, map, refl, sym, ap, subst}
use Rattle.std.specs.Prelude.{fold, nat_lt}
use Rattle.std.specs.List.{list_any}
use Rattle.std.specs.Option.{option_map_or}
use Rattle.std.specs.Str.{IsUtf8}
use Rattle.clap.specs.Words.{Row, Rule, Text, built, fault_of, matches_of}
use Rattle.clap.specs.Walk.{Held, Step, Waiting, Walk, after_step, arg_by_id, finished, has_row, idle, is_pending, next, nothing_held, option, option_word, plain_word, positional, pushed, reacted, settled, settled_rows, to_positional, trailing, used, used_by_id, value, walk, walked, with_default, word_met}
use Rattle.clap.specs.Faults.{check_fault, default_fault, defaults_fault, level_fault, positional_fault, settle_fault, step_fault, stray_fault, turn_fault, use_fault, walk_fault, word_fault}
use Rattle.clap.specs.Takes.{is_given}
use Rattle.clap.specs.Kinds.{Kinds, check_kinds, or_else}
use Rattle.clap.proofs.FaultLemmas.{leaf_fault}
use Rattle.clap.specs.declared.error.kind.ErrorKind.TheVariants.{InvalidValue, UnknownArgument}
use Rattle.command_words.specs.Options.{Choice, IsAmong, IsPlain, Reads, WordUse, Given, Own, apart, ends, joined, own, rest}
use Rattle.command_words.specs.Forms.{form_of, own_id}
use Rattle.command_words.proofs.Comparisons.{same_text}
use Rattle.command_words.specs.Tables.{IsTable}
use Rattle.command_words.proofs.Lookups.{filled_rules, full_rules, option_by_id, option_rule, words_by_id, words_found, words_rule}
use Rattle.command_words.proofs.Spellings.{IsBad, IsFlag, dashes, ends_fault, ends_met, holds, plain_fault, plain_met, top}
use Rattle.command_words.proofs.Views.{View, is_apart, is_bad, is_end, is_joined, is_plain, apart_flag, joined_flag, view}

-- what one thing that is said adds to the rows, and the fault that it is
abbrev pub named : Text → Choice
named name = record { name = name; letter = None }

abbrev pub added : List Row → WordUse → List Row
added rows (Given name v) = used (option_rule (named name)) (v ∷ []) rows
added rows (Own word) = used words_rule (word ∷ []) rows

abbrev pub said_fault : List Row → WordUse → Kinds
said_fault rows (Given name v) = use_fault false (option_rule (named name)) (v ∷ []) rows
said_fault rows (Own word) = use_fault false words_rule (word ∷ []) rows

abbrev pub all_added : List Row → List WordUse → List Row
all_added rows [] = rows
all_added rows (s ∷ said) = all_added (added rows s) said

-- nothing that is said is a fault, after the rows
abbrev pub IsFresh : List Row → List WordUse → Type 0
IsFresh rows [] = Unit {0}
IsFresh rows (s ∷ said) = (said_fault rows s ≡ []) × IsFresh (added rows s) said

-- what is said and not yet used
abbrev pending_of : Option WordUse → Option (Text × List Text)
pending_of None = None
pending_of (Some (Given name v)) = Some (name, v ∷ [])
pending_of (Some (Own word)) = Some (own_id, word ∷ [])

abbrev then_said : Option WordUse → List WordUse → List WordUse
then_said None said = said
then_said (Some s) said = s ∷ said

-- an option that is said is in the table
abbrev Known : List Choice → Option WordUse → Type 0
Known options None = Unit {0}
Known options (Some (Given name v)) = (o : Choice) × IsAmong options o × (o.name ≡ name)
Known options (Some (Own word)) = Unit {0}

abbrev after_pending : List Row → Option WordUse → List Row
after_pending rows None = rows
after_pending rows (Some s) = added rows s

abbrev pending_fault : List Row → Option WordUse → Kinds
pending_fault rows None = []
pending_fault rows (Some s) = said_fault rows s

fresh_then : (rows : List Row) (p : Option WordUse) (said : List WordUse) → pending_fault rows p ≡ [] → IsFresh (after_pending rows p) said → IsFresh rows (then_said p said)
fresh_then rows None said f g = g
fresh_then rows (Some s) said f g = (f, g)

fresh_parts : (rows : List Row) (p : Option WordUse) (said : List WordUse) → IsFresh rows (then_said p said) → (pending_fault rows p ≡ []) × IsFresh (after_pending rows p) said
fresh_parts rows None said g = (refl, g)
fresh_parts rows (Some s) said g = (g.0, g.1)

added_then : (rows : List Row) (p : Option WordUse) (said : List WordUse) → all_added rows (then_said p said) ≡ all_added (after_pending rows p) said
added_then rows None said = refl
added_then rows (Some s) said = refl

-- no fault of two, and no fault of three
none_of_two : (a b : Kinds) → or_else a b ≡ [] → (a ≡ []) × (b ≡ [])
none_of_two [] b e = (refl, e)
none_of_two (k ∷ ks) b e = cc

two_of_none : (a b : Kinds) → a ≡ [] → b ≡ [] → or_else a b ≡ []
two_of_none a b e f = ap (λ (k : Kinds). or_else k b) e ∙ f

or_else_assoc : (a b c : Kinds) → or_else (or_else a b) c ≡ or_else a (or_else b c)
or_else_assoc [] b c = refl
or_else_assoc (k ∷ ks) b c = refl

and_false : (b : Bool) → (b && false) ≡ false
and_false true = refl
and_false false = refl

abbrev still : Bool → Waiting
still true = positional
still false = idle

abbrev at : List Row → Option (Text × List Text) → Waiting → Bool → Walk
at rows p w t = record { held = holds rows p; waiting = w; position = 1; is_trailing = t; stopped = None }

-- what the walk over words leaves as faults, and as rows
abbrev total : List Choice → Walk → List Text → Kinds
total options k words = or_else (walk_fault (top options) [] k words) (settle_fault (full_rules options) false (fold (walked (full_rules options) []) k words).held)

abbrev rows_end : List Choice → Walk → List Text → List Row
rows_end options k words = (settled (full_rules options) (fold (walked (full_rules options) []) k words).held).rows

total_next : (options : List Choice) (k : Walk) (word : Text) (words : List Text) → total options k (word ∷ words) ≡ or_else (turn_fault (top options) [] k word) (total options (walked (full_rules options) [] k word) words)
unfolding walk_fault
total_next options k word words =
    or_else_assoc (turn_fault (top options) [] k word) (walk_fault (top options) [] (walked (full_rules options) [] k word) words) (settle_fault (full_rules options) false (fold (walked (full_rules options) []) (walked (full_rules options) [] k word) words).held)

total_end : (options : List Choice) (k : Walk) → total options k [] ≡ settle_fault (full_rules options) false k.held
unfolding walk_fault
total_end options k = refl

-- What one word does: it leads from one walk to the next, with these faults.
record Turn (options : List Choice) (from : Walk) (word : Text) (to : Walk) (fault : Kinds) : Type 0 where
  leads : walked (full_rules options) [] from word ≡ to
  faults : turn_fault (top options) [] from word ≡ fault

-- no fault after a turn means no fault in it and no fault after it
turned : (options : List Choice) (from : Walk) (word : Text) (to : Walk) (fault : Kinds) (words : List Text) → Turn options from word to fault → total options from (word ∷ words) ≡ [] → (fault ≡ []) × (total options to words ≡ [])
turned options from word to fault words turn e =
    let both = none_of_two (turn_fault (top options) [] from word) (total options (walked (full_rules options) [] from word) words) (sym (total_next options from word words) ∙ e) in
    (sym turn.faults ∙ both.0, ap (λ (k : Walk). total options k words) (sym turn.leads) ∙ both.1)

turns : (options : List Choice) (from : Walk) (word : Text) (to : Walk) (fault : Kinds) (words : List Text) → Turn options from word to fault → fault ≡ [] → total options to words ≡ [] → total options from (word ∷ words) ≡ []
turns options from word to fault words turn f e =
    total_next options from word words
    ∙ two_of_none (turn_fault (top options) [] from word) (total options (walked (full_rules options) [] from word) words) (turn.faults ∙ f) (ap (λ (k : Walk). total options k words) turn.leads ∙ e)

-- a turn by what the word is met as
turn_by : (options : List Choice) (rows : List Row) (p : Option (Text × List Text)) (w : Waiting) (word : Text) (h : Held) (step : Step) (fault : Kinds)
    → word_met (full_rules options) [] false w 1 word (holds rows p) ≡ (h, step) → word_fault (top options) [] false w word (holds rows p) ≡ fault
    → Turn options (at rows p w false) word (after_step (full_rules options) word (at rows p w false) h step) (or_else fault (step_fault (top options) 1 h step))
unfolding walked
turn_by options rows p w word h step fault met faulty = record {
  leads = ap (λ (q : Held × Step). after_step (full_rules options) word (at rows p w false) q.0 q.1) met;
  faults = (λ i. or_else (faulty i) (step_fault (top options) 1 (met i).0 (met i).1));
}

-- a word that goes to the others
own_leads : (options : List Choice) (word : Text) (k : Walk) (rows : List Row) (p : Option (Text × List Text)) (w : Waiting) (t : Bool) → k ≡ at rows p w t → (t || false) ≡ t
    → after_step (full_rules options) word k (holds rows p) value ≡ at (settled_rows (full_rules options) p rows) (Some (own_id, word ∷ [])) positional t
own_leads options word k rows p w t is same =
    ap (λ (j : Walk). after_step (full_rules options) word j (holds rows p) value) is
    ∙ ap (λ a. to_positional (full_rules options) a word (at rows p w t) (holds rows p)) (words_found options)
    ∙ ap (λ b. record { held = pushed own_id word (cond b (holds rows p) (settled (full_rules options) (holds rows p))); waiting = positional; position = 1; is_trailing = t || false; stopped = None }) (and_false (is_pending words_rule p))
    ∙ ap (λ (b : Bool). at (settled_rows (full_rules options) p rows) (Some (own_id, word ∷ [])) positional b) same

own_faults : (options : List Choice) (rows : List Row) (p : Option (Text × List Text)) → step_fault (top options) 1 (holds rows p) value ≡ settle_fault (full_rules options) false (holds rows p)
own_faults options rows p =
    ap (λ a. option_map_or (λ a. positional_fault (full_rules options) false a (holds rows p)) a (stray_fault (top options))) (words_found options)
    ∙ ap (λ b. cond b [] (settle_fault (full_rules options) false (holds rows p))) (and_false (is_pending words_rule p))

trailing_turn : (options : List Choice) (rows : List Row) (p : Option (Text × List Text)) (w : Waiting) (word : Text)
    → Turn options (at rows p w true) word (at (settled_rows (full_rules options) p rows) (Some (own_id, word ∷ [])) positional true) (settle_fault (full_rules options) false (holds rows p))
unfolding walked
trailing_turn options rows p w word = record {
  leads = own_leads options word (at rows p w true) rows p w true refl refl;
  faults = own_faults options rows p;
}

own_turn : (options : List Choice) (rows : List Row) (p : Option (Text × List Text)) (b : Bool) (word : Text) → IsPlain word
    → Turn options (at rows p (still b) false) word (at (settled_rows (full_rules options) p rows) (Some (own_id, word ∷ [])) positional false) (settle_fault (full_rules options) false (holds rows p))
own_turn options rows p b word plain =
    let met : word_met (full_rules options) [] false (still b) 1 word (holds rows p) ≡ (holds rows p, value) = plain_met (full_rules options) (still b) word (holds rows p) plain ∙ goes b in
    let turn = turn_by options rows p (still b) word (holds rows p) value [] met (plain_fault (top options) (still b) word (holds rows p) plain) in
    record {
      leads = turn.leads ∙ own_leads options word (at rows p (still b) false) rows p (still b) false refl refl;
      faults = turn.faults ∙ own_faults options rows p;
    }
  where
    goes : (b : Bool) → plain_word (full_rules options) (still b) word (holds rows p) ≡ (holds rows p, value)
    goes true = refl
    goes false = refl

end_turn : (options : List Choice) (rows : List Row) (p : Option (Text × List Text)) (w : Waiting) → Turn options (at rows p w false) dashes (at rows p w true) []
end_turn options rows p w = turn_by options rows p w dashes (holds rows p) (trailing 1) [] (ends_met (full_rules options) w (holds rows p)) (ends_fault (top options) w (holds rows p))

-- an option whose value is to come
apart_turn : (options : List Choice) (rows : List Row) (p : Option (Text × List Text)) (w : Waiting) (word : Text) (o : Choice) → IsFlag options word o None
    → Turn options (at rows p w false) word (at (settled_rows (full_rules options) p rows) (Some (o.name, [])) (option o.name) false) (or_else (settle_fault (full_rules options) false (holds rows p)) [])
apart_turn options rows p w word o flag =
    turn_by options rows p w word (record (settled (full_rules options) (holds rows p)) { pending = Some (o.name, []) }) (next (option o.name)) (settle_fault (full_rules options) false (holds rows p)) (flag.met w rows p) (flag.fault w rows p)

-- an option with its value
joined_turn : (options : List Choice) (rows : List Row) (p : Option (Text × List Text)) (w : Waiting) (word : Text) (o : Choice) (v : Text) → IsFlag options word o (Some v)
    → Turn options (at rows p w false) word (at (added (settled_rows (full_rules options) p rows) (Given o.name v)) None idle false)
    (or_else (or_else (settle_fault (full_rules options) false (holds rows p)) (said_fault (settled_rows (full_rules options) p rows) (Given o.name v))) [])
joined_turn options rows p w word o v flag =
    turn_by options rows p w word (reacted (full_rules options) (option_rule o) (v ∷ []) (holds rows p)) (next idle)
    (or_else (settle_fault (full_rules options) false (holds rows p)) (said_fault (settled_rows (full_rules options) p rows) (Given o.name v))) (flag.met w rows p) (flag.fault w rows p)

-- the value that an option waits for
value_turn : (options : List Choice) (table : IsTable options) (rows : List Row) (word : Text) (o : Choice) → IsAmong options o → IsPlain word
    → Turn options (at rows (Some (o.name, [])) (option o.name) false) word (at rows (Some (o.name, word ∷ [])) idle false) []
value_turn options table rows word o among plain =
    let h : Held = holds rows (Some (o.name, [])) in
    let taken : option_word (arg_by_id (full_rules options) o.name) o.name word h ≡ (holds rows (Some (o.name, word ∷ [])), idle) =
    ap (λ a. option_word a o.name word h) (option_by_id options o table among)
    ∙ ap (λ (b : Bool). (holds rows (Some (o.name, word ∷ [])), cond (nat_lt (cond b 1 0) 1) (option o.name) idle)) (same_text o.name) in
    let met : word_met (full_rules options) [] false (option o.name) 1 word h ≡ (holds rows (Some (o.name, word ∷ [])), next idle) =
    plain_met (full_rules options) (option o.name) word h plain ∙ ap (λ (q : Held × Waiting). (q.0, next q.1)) taken in
    turn_by options rows (Some (o.name, [])) (option o.name) word (holds rows (Some (o.name, word ∷ []))) (next idle) [] met (plain_fault (top options) (option o.name) word h plain)

bad_turn : (options : List Choice) (rows : List Row) (p : Option (Text × List Text)) (w : Waiting) (word : Text) (words : List Text) → IsBad options word → total options (at rows p w false) (word ∷ words) ≡ [] → ⊥
bad_turn options rows p w word words bad e =
    let turn = none_of_two (turn_fault (top options) [] (at rows p w false) word) (total options (walked (full_rules options) [] (at rows p w false) word) words) (sym (total_next options (at rows p w false) word words) ∙ e) in
    let met = word_met (full_rules options) [] false w 1 word (holds rows p) in
    let first = none_of_two (word_fault (top options) [] false w word (holds rows p)) (step_fault (top options) 1 met.0 met.1) turn.0 in
    let clash : UnknownArgument ∷ [] ≡ [] = sym (bad.fault w rows p) ∙ first.0 in
    cc

-- an option that waits for its value is a fault if the walk ends or continues without it
waits_fault : (options : List Choice) (table : IsTable options) (rows : List Row) (o : Choice) → IsAmong options o → settle_fault (full_rules options) false (holds rows (Some (o.name, []))) ≡ [] → ⊥
waits_fault options table rows o among e =
    let is : InvalidValue ∷ [] ≡ [] = ap (λ a. option_map_or (λ a. use_fault false a [] rows) a []) (sym (option_by_id options o table among)) ∙ e in
    cc

-- what is pending is used as it was said
settles : (options : List Choice) (table : IsTable options) (rows : List Row) (p : Option WordUse) → Known options p → settled_rows (full_rules options) (pending_of p) rows ≡ after_pending rows p
settles options table rows None k = refl
settles options table rows (Some (Given name v)) k =
    ap (λ (n : Text). used_by_id (arg_by_id (full_rules options) n) (v ∷ []) rows) (sym k.2) ∙ ap (λ a. used_by_id a (v ∷ []) rows) (option_by_id options k.0 table k.1) ∙ ap (λ (n : Text). added rows (Given n v)) k.2
settles options table rows (Some (Own word)) k = ap (λ a. used_by_id a (word ∷ []) rows) (words_by_id options table)

settles_fault : (options : List Choice) (table : IsTable options) (rows : List Row) (p : Option WordUse) → Known options p → settle_fault (full_rules options) false (holds rows (pending_of p)) ≡ pending_fault rows p
settles_fault options table rows None k = refl
settles_fault options table rows (Some (Given name v)) k =
    ap (λ (n : Text). option_map_or (λ a. use_fault false a (v ∷ []) rows) (arg_by_id (full_rules options) n) []) (sym k.2)
    ∙ ap (λ a. option_map_or (λ a. use_fault false a (v ∷ []) rows) a []) (option_by_id options k.0 table k.1) ∙ ap (λ (n : Text). said_fault rows (Given n v)) k.2
settles_fault options table rows (Some (Own word)) k = ap (λ a. option_map_or (λ a. use_fault false a (word ∷ []) rows) a []) (words_by_id options table)

-- each word is text
abbrev pub AreTexts : List Text → Type 0
AreTexts [] = Unit {0}
AreTexts (word ∷ words) = IsUtf8 word × AreTexts words

-- ---- words without fault are read

waits_trailing : (options : List Choice) (table : IsTable options) (rows : List Row) (o : Choice) (words : List Text) → IsAmong options o → total options (at rows (Some (o.name, [])) (option o.name) true) words ≡ [] → ⊥
waits_trailing options table rows o [] among e = waits_fault options table rows o among (sym (total_end options (at rows (Some (o.name, [])) (option o.name) true)) ∙ e)
waits_trailing options table rows o (word ∷ words) among e =
    waits_fault options table rows o among (turned options (at rows (Some (o.name, [])) (option o.name) true) word _ _ words (trailing_turn options rows (Some (o.name, [])) (option o.name) word) e).0

trailing_fresh : (options : List Choice) (table : IsTable options) (rows : List Row) (p : Option WordUse) (w : Waiting) (words : List Text) → Known options p
    → total options (at rows (pending_of p) w true) words ≡ [] → IsFresh rows (then_said p (map (λ word. Own word) words))
trailing_fresh options table rows p w [] k e = fresh_then rows p [] (sym (settles_fault options table rows p k) ∙ sym (total_end options (at rows (pending_of p) w true)) ∙ e) tt
trailing_fresh options table rows p w (word ∷ words) k e =
    let turn = turned options (at rows (pending_of p) w true) word _ _ words (trailing_turn options rows (pending_of p) w word) e in
    let later : total options (at (after_pending rows p) (pending_of (Some (Own word))) positional true) words ≡ [] =
    ap (λ (r : List Row). total options (at r (Some (own_id, word ∷ [])) positional true) words) (sym (settles options table rows p k)) ∙ turn.1 in
    fresh_then rows p (Own word ∷ map (λ word. Own word) words) (sym (settles_fault options table rows p k) ∙ turn.0)
    (trailing_fresh options table (after_pending rows p) (Some (Own word)) positional words tt later)

-- a walk between two words: after rows and what is pending, or at an option that waits for its value
data Stage : Type 0 where
  between : List Row → Option WordUse → Bool → Stage
  wanting : List Row → Choice → Stage

abbrev IsStage : List Choice → Stage → Type 0
IsStage options (between rows p b) = Known options p
IsStage options (wanting rows o) = IsAmong options o

abbrev walk_of : Stage → Walk
walk_of (between rows p b) = at rows (pending_of p) (still b) false
walk_of (wanting rows o) = at rows (Some (o.name, [])) (option o.name) false

-- the words are read from here on
abbrev Rest : List Choice → Stage → List Text → Type 0
Rest options (between rows p b) words = (said : List WordUse) × Reads options words said × IsFresh rows (then_said p said)
Rest options (wanting rows o) [] = ⊥
Rest options (wanting rows o) (v ∷ words) = IsPlain v × ((said : List WordUse) × Reads options words said × IsFresh rows (Given o.name v ∷ said))

-- one word, if the words after it are read from any walk
one_word : (options : List Choice) (table : IsTable options) (word : Text) (words : List Text) → IsUtf8 word
    → ((s : Stage) → IsStage options s → total options (walk_of s) words ≡ [] → Rest options s words)
    → (s : Stage) → IsStage options s → View options word → total options (walk_of s) (word ∷ words) ≡ [] → Rest options s (word ∷ words)
one_word options table word words u later (between rows p b) k (is_end is) e =
    let turn = turned options (at rows (pending_of p) (still b) false) dashes _ _ words (end_turn options rows (pending_of p) (still b))
    (ap (λ (w : Text). total options (at rows (pending_of p) (still b) false) (w ∷ words)) (sym is) ∙ e) in
    (map (λ word. Own word) words, subst (λ (w : Text). Reads options (w ∷ words) (map (λ word. Own word) words)) (sym is) (rest words), trailing_fresh options table rows p (still b) words k turn.1)
one_word options table word words u later (between rows p b) k (is_plain plain) e =
    let turn = turned options (at rows (pending_of p) (still b) false) word _ _ words (own_turn options rows (pending_of p) b word plain) e in
    let got = later (between (after_pending rows p) (Some (Own word)) true) tt
    (ap (λ (r : List Row). total options (at r (Some (own_id, word ∷ [])) positional false) words) (sym (settles options table rows p k)) ∙ turn.1) in
    (Own word ∷ got.0, own word words got.0 plain got.1, fresh_then rows p (Own word ∷ got.0) (sym (settles_fault options table rows p k) ∙ turn.0) got.2)
one_word options table word words u later (between rows p b) k (is_apart o among is) e =
    let turn = turned options (at rows (pending_of p) (still b) false) word _ _ words (apart_turn options rows (pending_of p) (still b) word o (apart_flag options o word table among is)) e in
    let fault = none_of_two (settle_fault (full_rules options) false (holds rows (pending_of p))) [] turn.0 in
    let got = later (wanting (after_pending rows p) o) among
    (ap (λ (r : List Row). total options (at r (Some (o.name, [])) (option o.name) false) words) (sym (settles options table rows p k)) ∙ turn.1) in
    value_of_it words got (sym (settles_fault options table rows p k) ∙ fault.0)
  where
    value_of_it : (words : List Text) → Rest options (wanting (after_pending rows p) o) words → pending_fault rows p ≡ [] → Rest options (between rows p b) (word ∷ words)
    value_of_it [] none f = absurd none
    value_of_it (v ∷ words) got f = (Given o.name v ∷ got.1.0, apart o word v words got.1.0 among is got.0 got.1.1, fresh_then rows p (Given o.name v ∷ got.1.0) f got.1.2)
one_word options table word words u later (between rows p b) k (is_joined o v among is) e =
    let turn = turned options (at rows (pending_of p) (still b) false) word _ _ words (joined_turn options rows (pending_of p) (still b) word o v (joined_flag options o v word table among is)) e in
    let settled_rows_is = settles options table rows p k in
    let fault = none_of_two (settle_fault (full_rules options) false (holds rows (pending_of p))) (said_fault (settled_rows (full_rules options) (pending_of p) rows) (Given o.name v)) (none_of_two _ [] turn.0).0 in
    let got = later (between (added (after_pending rows p) (Given o.name v)) None false) tt
    (ap (λ (r : List Row). total options (at (added r (Given o.name v)) None idle false) words) (sym settled_rows_is) ∙ turn.1) in (
      Given o.name v ∷ got.0,
      joined o word v words got.0 among is got.1,
      fresh_then rows p (Given o.name v ∷ got.0) (sym (settles_fault options table rows p k) ∙ fault.0)
          (ap (λ (r : List Row). said_fault r (Given o.name v)) (sym settled_rows_is) ∙ fault.1, got.2),
    )
one_word options table word words u later (between rows p b) k (is_bad bad) e = absurd (bad_turn options rows (pending_of p) (still b) word words bad e)
one_word options table word words u later (wanting rows o) among (is_end is) e =
    let turn = turned options (at rows (Some (o.name, [])) (option o.name) false) dashes _ _ words (end_turn options rows (Some (o.name, [])) (option o.name))
    (ap (λ (w : Text). total options (at rows (Some (o.name, [])) (option o.name) false) (w ∷ words)) (sym is) ∙ e) in
    absurd (waits_trailing options table rows o words among turn.1)
one_word options table word words u later (wanting rows o) among (is_plain plain) e =
    let turn = turned options (at rows (Some (o.name, [])) (option o.name) false) word _ _ words (value_turn options table rows word o among plain) e in
    let got = later (between rows (Some (Given o.name word)) false) (o, among, refl) turn.1 in
    (plain, (got.0, got.1, got.2))
one_word options table word words u later (wanting rows o) among (is_apart q q_among is) e =
    let turn = turned options (at rows (Some (o.name, [])) (option o.name) false) word _ _ words (apart_turn options rows (Some (o.name, [])) (option o.name) word q (apart_flag options q word table q_among is)) e in
    absurd (waits_fault options table rows o among (none_of_two (settle_fault (full_rules options) false (holds rows (Some (o.name, [])))) [] turn.0).0)
one_word options table word words u later (wanting rows o) among (is_joined q v q_among is) e =
    let turn = turned options (at rows (Some (o.name, [])) (option o.name) false) word _ _ words (joined_turn options rows (Some (o.name, [])) (option o.name) word q v (joined_flag options q v word table q_among is)) e in
    absurd (waits_fault options table rows o among (none_of_two (settle_fault (full_rules options) false (holds rows (Some (o.name, [])))) (said_fault (settled_rows (full_rules options) (Some (o.name, [])) rows) (Given q.name v)) (none_of_two _ [] turn.0).0).0)
one_word options table word words u later (wanting rows o) among (is_bad bad) e = absurd (bad_turn options rows (Some (o.name, [])) (option o.name) word words bad e)

all_words : (options : List Choice) (table : IsTable options) (words : List Text) → AreTexts words → (s : Stage) → IsStage options s → total options (walk_of s) words ≡ [] → Rest options s words
all_words options table [] u (between rows p b) k e = ([], ends, fresh_then rows p [] (sym (settles_fault options table rows p k) ∙ sym (total_end options (at rows (pending_of p) (still b) false)) ∙ e) tt)
all_words options table [] u (wanting rows o) among e = waits_fault options table rows o among (sym (total_end options (at rows (Some (o.name, [])) (option o.name) false)) ∙ e)
all_words options table (word ∷ words) u s k e = one_word options table word words u.0 (all_words options table words u.1) s k (view options word table u.0) e

-- ---- words that are read have no fault, and give the rows of what they say

record Runs (options : List Choice) (k : Walk) (words : List Text) (rows : List Row) : Type 0 where
  none : total options k words ≡ []
  last : rows_end options k words ≡ rows

runs_turn : (options : List Choice) (from to : Walk) (word : Text) (fault : Kinds) (words : List Text) (rows : List Row) → Turn options from word to fault → fault ≡ [] → Runs options to words rows → Runs options from (word ∷ words) rows
runs_turn options from to word fault words rows turn f r = record {
  none = turns options from word to fault words turn f r.none;
  last = ap (λ (k : Walk). rows_end options k words) turn.leads ∙ r.last;
}

runs_end : (options : List Choice) (table : IsTable options) (rows : List Row) (p : Option WordUse) (w : Waiting) (t : Bool) → Known options p → IsFresh rows (then_said p []) → Runs options (at rows (pending_of p) w t) [] (all_added rows (then_said p []))
runs_end options table rows p w t k fresh = record {
  none = total_end options (at rows (pending_of p) w t) ∙ settles_fault options table rows p k ∙ (fresh_parts rows p [] fresh).0;
  last = settles options table rows p k ∙ sym (added_then rows p []);
}

-- the same after the pending thing is used
runs_after : (options : List Choice) (rows : List Row) (p : Option WordUse) (said : List WordUse) (k : Walk) (words : List Text) → Runs options k words (all_added (after_pending rows p) said) → Runs options k words (all_added rows (then_said p said))
runs_after options rows p said k words r = record { none = r.none; last = r.last ∙ sym (added_then rows p said) }

trailing_runs : (options : List Choice) (table : IsTable options) (rows : List Row) (p : Option WordUse) (w : Waiting) (words : List Text) → Known options p → IsFresh rows (then_said p (map (λ word. Own word) words))
    → Runs options (at rows (pending_of p) w true) words (all_added rows (then_said p (map (λ word. Own word) words)))
trailing_runs options table rows p w [] k fresh = runs_end options table rows p w true k fresh
trailing_runs options table rows p w (word ∷ words) k fresh =
    let parts = fresh_parts rows p (Own word ∷ map (λ word. Own word) words) fresh in
    runs_after options rows p (Own word ∷ map (λ word. Own word) words) (at rows (pending_of p) w true) (word ∷ words)
    (runs_turn options (at rows (pending_of p) w true) (at (settled_rows (full_rules options) (pending_of p) rows) (Some (own_id, word ∷ [])) positional true) word
    (settle_fault (full_rules options) false (holds rows (pending_of p))) words _ (trailing_turn options rows (pending_of p) w word)
    (settles_fault options table rows p k ∙ parts.0)
    (subst (λ (r : List Row). Runs options (at r (Some (own_id, word ∷ [])) positional true) words (all_added (after_pending rows p) (Own word ∷ map (λ word. Own word) words))) (sym (settles options table rows p k))
    (trailing_runs options table (after_pending rows p) (Some (Own word)) positional words tt parts.1)))

read_runs : (options : List Choice) (table : IsTable options) (words : List Text) (said : List WordUse) → Reads options words said → (rows : List Row) (p : Option WordUse) (b : Bool) → Known options p → IsFresh rows (then_said p said)
    → Runs options (at rows (pending_of p) (still b) false) words (all_added rows (then_said p said))
read_runs options table _ _ ends rows p b k fresh = runs_end options table rows p (still b) false k fresh
read_runs options table _ _ (rest words) rows p b k fresh =
    runs_turn options (at rows (pending_of p) (still b) false) (at rows (pending_of p) (still b) true) dashes [] words _ (end_turn options rows (pending_of p) (still b)) refl
    (trailing_runs options table rows p (still b) words k fresh)
read_runs options table _ _ (own word words said plain reads) rows p b k fresh =
    let parts = fresh_parts rows p (Own word ∷ said) fresh in
    runs_after options rows p (Own word ∷ said) (at rows (pending_of p) (still b) false) (word ∷ words)
    (runs_turn options (at rows (pending_of p) (still b) false) (at (settled_rows (full_rules options) (pending_of p) rows) (Some (own_id, word ∷ [])) positional false) word
    (settle_fault (full_rules options) false (holds rows (pending_of p))) words _ (own_turn options rows (pending_of p) b word plain)
    (settles_fault options table rows p k ∙ parts.0)
    (subst (λ (r : List Row). Runs options (at r (Some (own_id, word ∷ [])) positional false) words (all_added (after_pending rows p) (Own word ∷ said))) (sym (settles options table rows p k))
    (read_runs options table words said reads (after_pending rows p) (Some (Own word)) true tt parts.1)))
read_runs options table _ _ (apart o word v words said among is plain reads) rows p b k fresh =
    let parts = fresh_parts rows p (Given o.name v ∷ said) fresh in
    let settled_is = settles options table rows p k in
    let to : List Row → Walk = λ r. at r (Some (o.name, [])) (option o.name) false in
    runs_after options rows p (Given o.name v ∷ said) (at rows (pending_of p) (still b) false) (word ∷ v ∷ words)
    (runs_turn options (at rows (pending_of p) (still b) false) (to (settled_rows (full_rules options) (pending_of p) rows)) word
    (or_else (settle_fault (full_rules options) false (holds rows (pending_of p))) []) (v ∷ words) _ (apart_turn options rows (pending_of p) (still b) word o (apart_flag options o word table among is))
    (two_of_none (settle_fault (full_rules options) false (holds rows (pending_of p))) [] (settles_fault options table rows p k ∙ parts.0) refl)
    (subst (λ (r : List Row). Runs options (to r) (v ∷ words) (all_added (after_pending rows p) (Given o.name v ∷ said))) (sym settled_is)
    (runs_turn options (to (after_pending rows p)) (at (after_pending rows p) (Some (o.name, v ∷ [])) idle false) v [] words _ (value_turn options table (after_pending rows p) v o among plain) refl
    (read_runs options table words said reads (after_pending rows p) (Some (Given o.name v)) false (o, among, refl) parts.1))))
read_runs options table _ _ (joined o word v words said among is reads) rows p b k fresh =
    let parts = fresh_parts rows p (Given o.name v ∷ said) fresh in
    let settled_is = settles options table rows p k in
    let before : List Row = settled_rows (full_rules options) (pending_of p) rows in
    runs_after options rows p (Given o.name v ∷ said) (at rows (pending_of p) (still b) false) (word ∷ words)
    (runs_turn options (at rows (pending_of p) (still b) false) (at (added before (Given o.name v)) None idle false) word
    (or_else (or_else (settle_fault (full_rules options) false (holds rows (pending_of p))) (said_fault before (Given o.name v))) []) words _ (joined_turn options rows (pending_of p) (still b) word o v (joined_flag options o v word table among is))
    (two_of_none (or_else (settle_fault (full_rules options) false (holds rows (pending_of p))) (said_fault before (Given o.name v))) []
    (two_of_none (settle_fault (full_rules options) false (holds rows (pending_of p))) (said_fault before (Given o.name v)) (settles_fault options table rows p k ∙ parts.0)
    (ap (λ (r : List Row). said_fault r (Given o.name v)) settled_is ∙ parts.1.0)) refl)
    (subst (λ (r : List Row). Runs options (at (added r (Given o.name v)) None idle false) words (all_added (after_pending rows p) (Given o.name v ∷ said))) (sym settled_is)
    (read_runs options table words said reads (added (after_pending rows p) (Given o.name v)) None false tt parts.1.1)))

-- ---- after the walk

same_either : (b : Bool) (rows : List Row) → cond b rows rows ≡ rows
same_either true rows = refl
same_either false rows = refl

no_fault_either : (b : Bool) (k : Kinds) → cond (b || true) [] k ≡ []
no_fault_either true k = refl
no_fault_either false k = refl

-- no argument has a default, and none is required
no_defaults : (options : List Choice) (rows : List Row) → fold with_default rows (full_rules options) ≡ rows
no_defaults [] rows = same_either (has_row own_id rows) rows
no_defaults (o ∷ os) rows = ap (λ (r : List Row). fold with_default r (full_rules os)) (same_either (has_row o.name rows) rows) ∙ no_defaults os rows

no_default_fault : (options : List Choice) (rows : List Row) → defaults_fault rows (full_rules options) ≡ []
unfolding defaults_fault
no_default_fault [] rows = two_of_none (default_fault rows words_rule) [] (no_fault_either (has_row own_id rows) _) refl
no_default_fault (o ∷ os) rows = two_of_none (default_fault rows (option_rule o)) (defaults_fault (with_default rows (option_rule o)) (full_rules os)) (no_fault_either (has_row o.name rows) _) (no_default_fault os (with_default rows (option_rule o)))

none_required : (options : List Choice) (rows : List Row) → list_any (λ a. a.required && not (is_given a.id rows)) (full_rules options) ≡ false
none_required [] rows = refl
none_required (o ∷ os) rows = none_required os rows

or_else_none : (a : Kinds) → or_else a [] ≡ a
or_else_none [] = refl
or_else_none (k ∷ ks) = refl

abbrev start : Walk
start = at [] None idle false

-- the faults of a command are those of its walk
fault_is : (options : List Choice) (words : List Text) → fault_of (form_of options) words ≡ total options start words
fault_is options words =
    let end : Held = (walk (full_rules options) [] nothing_held words).held in
    let tail : or_else (defaults_fault (settled (full_rules options) end).rows (full_rules options)) (check_fault (top options) (finished (full_rules options) end) false) ≡ [] =
    two_of_none (defaults_fault (settled (full_rules options) end).rows (full_rules options)) (check_fault (top options) (finished (full_rules options) end) false) (no_default_fault options (settled (full_rules options) end).rows)
    (ap (check_kinds false false) (none_required options (finished (full_rules options) end))) in
    leaf_fault (built (form_of options)) nothing_held words refl
    ∙ ap (λ (rs : List Rule). level_fault (record (top options) { rules = rs }) [] nothing_held words false []) (filled_rules options)
    ∙ ap (λ (k : Kinds). or_else (walk_fault (top options) [] start words) (or_else (settle_fault (full_rules options) false end) k)) tail
    ∙ ap (λ (k : Kinds). or_else (walk_fault (top options) [] start words) k) (or_else_none (settle_fault (full_rules options) false end))

matches_is : (options : List Choice) (words : List Text) → matches_of (form_of options) words ≡ rows_end options start words
matches_is options words =
    ap (λ (rs : List Rule). finished rs (walk rs [] nothing_held words).held) (filled_rules options) ∙ no_defaults options (rows_end options start words)

-- words that are read, with nothing said that is a fault
pub fresh_words : (options : List Choice) (words : List Text) (said : List WordUse) → IsTable options → Reads options words said → IsFresh [] said
    → (fault_of (form_of options) words ≡ []) × (matches_of (form_of options) words ≡ all_added [] said)
fresh_words options words said table reads fresh =
    let runs = read_runs options table words said reads [] None false tt fresh in
    (fault_is options words ∙ runs.none, matches_is options words ∙ runs.last)

-- words without fault are read
pub words_read : (options : List Choice) (words : List Text) → IsTable options → AreTexts words → fault_of (form_of options) words ≡ [] → (said : List WordUse) × Reads options words said × IsFresh [] said
words_read options words table texts e = all_words options table words texts (between [] None false) tt (sym (fault_is options words) ∙ e)
