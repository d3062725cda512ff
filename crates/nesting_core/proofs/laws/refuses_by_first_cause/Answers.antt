use Rattle.nesting_core.proofs.RefusalLemmas.{refusal_of-NestedInNormal, refusal_of-InsideCpow, refusal_of-LevelTooLow, refusal_of-TooDeep, room_for_wait}
use Rattle.nesting_core.proofs.laws.refuses_by_first_cause.Goals as goal

pub returns : goal.returns
returns c = record {
  nested_in_normal = refusal_of-NestedInNormal;
  inside_cpow = refusal_of-InsideCpow;
  level_too_low = refusal_of-LevelTooLow;
  too_deep = refusal_of-TooDeep;
  room = room_for_wait;
}
