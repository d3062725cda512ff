-- Worked texts: the first four of the five ways of two ends that call each other at once, and one way alone.
use Rattle.std.proofs.Common.{◌≡◌, ℕ, ◌==◌, true, false, cond, List, [], ◌∷◌, map, refl, codes, arith}
use Rattle.std.proofs.lemmas.Fmt.{decimal_digit}
use Rattle.ipdl_base.specs.declared.kinds.Side.TheVariants.{Parent, Child}
use Rattle.schedules.specs.declared.turn.Turn.{Turn}
use Rattle.script_steps.specs.Turns.{RunEnding, at_rest, at_limit}
use Rattle.explorations.specs.Explorations.{Way}
use Rattle.explorations.specs.Text.{exploration_text}

-- the turn of a letter
abbrev turn_of : ℕ → Turn
turn_of letter = cond (letter == 80) (record { side = Parent; only_deliver = false })
    (cond (letter == 67) (record { side = Child; only_deliver = false }) (cond (letter == 112) (record { side = Parent; only_deliver = true }) (record { side = Child; only_deliver = true })))

-- the way of these letters that ends so
abbrev way : RunEnding → List ℕ → Way
way ending letters = record { ending = ending; word = map turn_of letters }

pub four_ways : exploration_text (record {
  ways = way at_rest (codes "PCPCCCPPPPCC") ∷ way at_rest (codes "PcCCPPCPPPCC") ∷ way at_rest (codes "PcCCPCpPPPCC") ∷ way at_rest (codes "CpPPPCCCCCPP") ∷ [];
  whole = false;
}) ≡ codes "finished PCPCCCPPPPCC\nfinished PcCCPPCPPPCC\nfinished PcCCPCpPPPCC\nfinished CpPPPCCCCCPP\n4 ways and more\n"
four_ways = rw (decimal_digit 4 (omega arith)) refl

pub no_letter : exploration_text (record { ways = way at_rest [] ∷ []; whole = true }) ≡ codes "finished\n1 way\n"
no_letter = rw (decimal_digit 1 (omega arith)) refl

pub one_and_more : exploration_text (record { ways = way (at_limit Child) (codes "PCC") ∷ []; whole = false }) ≡ codes "spent child PCC\n1 way and more\n"
one_and_more = rw (decimal_digit 1 (omega arith)) refl
