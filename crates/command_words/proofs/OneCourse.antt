-- Words of turns, limits and deaths: each text says one at most.
use Rattle.std.proofs.Common.{◌≡◌, ◌≢◌, ◌∙◌, ◌<◌, ℕ, zero, suc, Bool, true, false, List, [], ◌∷◌, ◌++◌, length, map, get_or, Option, Some, None, refl, sym, ap, arith, codes}
use Rattle.std.specs.Prelude.{slice_index}
use Rattle.std.proofs.lemmas.List.{append_cancel_left}
use Rattle.std.specs.Str.Parse.{digits_value}
use Rattle.ipdl_base.specs.declared.kinds.Side.{Side}
use Rattle.ipdl_base.specs.declared.kinds.Side.TheVariants.{Parent, Child}
use Rattle.schedules.specs.declared.stop.Stop.{Stop}
use Rattle.schedules.specs.declared.turn.Turn.{Turn}
use Rattle.command_words.specs.RunOptions.{IsDeath, IsLimit, IsSchedule, IsStopOf, letter_for, letter_of, word_of}

abbrev Text : Type 0
Text = List ℕ

-- a letter is that of one turn
same_letter : (s : Side) (b : Bool) (s' : Side) (b' : Bool) → letter_for s b ≡ letter_for s' b' → (s ≡ s') × (b ≡ b')
same_letter Parent false Parent false e = (refl, refl)
same_letter Parent true Parent true e = (refl, refl)
same_letter Child false Child false e = (refl, refl)
same_letter Child true Child true e = (refl, refl)
same_letter Parent false Parent true e = absurd (omega (arith, e))
same_letter Parent false Child b e = absurd (go b e)
  where
    go : (b : Bool) → letter_for Parent false ≡ letter_for Child b → ⊥
    go false e = omega (arith, e)
    go true e = omega (arith, e)
same_letter Parent true Parent false e = absurd (omega (arith, e))
same_letter Parent true Child b e = absurd (go b e)
  where
    go : (b : Bool) → letter_for Parent true ≡ letter_for Child b → ⊥
    go false e = omega (arith, e)
    go true e = omega (arith, e)
same_letter Child false Child true e = absurd (omega (arith, e))
same_letter Child false Parent b e = absurd (go b e)
  where
    go : (b : Bool) → letter_for Child false ≡ letter_for Parent b → ⊥
    go false e = omega (arith, e)
    go true e = omega (arith, e)
same_letter Child true Child false e = absurd (omega (arith, e))
same_letter Child true Parent b e = absurd (go b e)
  where
    go : (b : Bool) → letter_for Child true ≡ letter_for Parent b → ⊥
    go false e = omega (arith, e)
    go true e = omega (arith, e)

same_turn : (t u : Turn) → letter_of t ≡ letter_of u → t ≡ u
same_turn t u e = let both = same_letter t.side t.only_deliver u.side u.only_deliver e in rw (both.0, both.1) refl

same_turns : (ts us : List Turn) → map letter_of ts ≡ map letter_of us → ts ≡ us
same_turns [] [] e = refl
same_turns [] (u ∷ us) e = absurd (let x : ⊥ = cc in x)
same_turns (t ∷ ts) [] e = absurd (let x : ⊥ = cc in x)
same_turns (t ∷ ts) (u ∷ us) e =
    let head : letter_of t ≡ letter_of u = cc in
    let tail : map letter_of ts ≡ map letter_of us = cc in
    let one : t ≡ u = same_turn t u head in
    let more : ts ≡ us = same_turns ts us tail in
    cc

pub one_schedule : (value : Option Text) (schedule other : Option (List Turn)) → IsSchedule value schedule → IsSchedule value other → schedule ≡ other
one_schedule None schedule other p q = p ∙ sym q
one_schedule (Some text) schedule other p q = p.1.1 ∙ ap Some (same_turns p.0 q.0 (sym p.1.0.letters ∙ q.1.0.letters)) ∙ sym q.1.1

pub one_limit : (value : Option Text) (limit other : ℕ) → IsLimit value limit → IsLimit value other → limit ≡ other
one_limit None limit other p q = p ∙ sym q
one_limit (Some text) limit other p q = p.number.value ∙ sym q.number.value

-- the text of a death begins with the word of one side
same_stop : (s t : Side) (m n : Text) → word_of s ++ (codes ":" ++ m) ≡ word_of t ++ (codes ":" ++ n) → (s ≡ t) × (m ≡ n)
same_stop Parent Parent m n e = (refl, append_cancel_left (word_of Parent ++ codes ":") m n e)
same_stop Child Child m n e = (refl, append_cancel_left (word_of Child ++ codes ":") m n e)
same_stop Parent Child m n e = let first : 112 ≡ 99 = ap (λ (t : Text). slice_index t 0) e in absurd (omega (arith, first))
same_stop Child Parent m n e = let first : 99 ≡ 112 = ap (λ (t : Text). slice_index t 0) e in absurd (omega (arith, first))

same_death : (text : Text) (a b : Stop) → IsStopOf text a → IsStopOf text b → a ≡ b
same_death text a b p q =
    let both = same_stop a.side b.side p.number q.number (sym p.text_is ∙ q.text_is) in
    let side : a.side ≡ b.side = both.0 in
    let after : a.after ≡ b.after = p.is_number.value ∙ ap (digits_value 10) both.1 ∙ sym q.is_number.value in
    rw (side, after) refl

pub one_death : (value : Option Text) (death other : Option Stop) → IsDeath value death → IsDeath value other → death ≡ other
one_death None death other p q = p ∙ sym q
one_death (Some text) death other p q = p.1.1 ∙ ap Some (same_death text p.0 q.0 p.1.0 q.1.0) ∙ sym q.1.1

-- letters one of which is that of no turn are those of no turns
pub no_turns : (letters : Text) (i d : ℕ) (turns : List Turn) → i < length letters → ((turn : Turn) → letter_of turn ≢ get_or letters i d) → letters ≢ map letter_of turns
no_turns [] i d turns lt none e = absurd (omega arith)
no_turns (x ∷ letters) i d [] lt none e = absurd (let x : ⊥ = cc in x)
no_turns (x ∷ letters) zero d (t ∷ turns) lt none e =
    let first : x ≡ letter_of t = cc in
    none t (sym first)
no_turns (x ∷ letters) (suc i) d (t ∷ turns) lt none e =
    let rest : letters ≡ map letter_of turns = cc in
    no_turns letters i d turns (omega arith) none rest
