-- How many actions a script gives to a side.
use Rattle.std.specs.Prelude.{ℕ, ◌+◌, ◌-◌, min, nat_lt, ◌==◌, if◌then◌else◌, List, [], ◌∷◌, length, Option, Some, None}
use Rattle.std.specs.List.{slice_get}
use Rattle.std.specs.Option.{option_map_or}
use Rattle.ipdl_base.specs.declared.kinds.Side.{Side}
use Rattle.ipdl_base.specs.Lines.{same_side}
use Rattle.channel_laws.specs.Counts.{how_many}
use Rattle.handler_script.specs.declared.action.Block.{Block}
use Rattle.handler_script.specs.declared.script.Script.{Script}
use Rattle.handler_script.specs.ScriptOf.{blocks_for}
use Rattle.schedules.specs.declared.stop.Stop.{Stop}

-- the actions of a block, or 0 if there is no block
abbrev pub actions_of : Option Block → ℕ
actions_of block = option_map_or (λ b. length b.actions) block 0

-- the actions of the main of a side
abbrev pub main_actions : Script → Side → ℕ
main_actions script side = actions_of (slice_get (blocks_for script side None) 0)

-- how many blocks a side has for a message
abbrev pub block_count : Script → Side → ℕ → ℕ
block_count script side number = length (blocks_for script side (Some number))

-- the actions of the block that serves a request of a message, where the side had taken this number of requests of that
-- message before: each block serves one request, and the last block all further requests
abbrev pub actions_for : Script → Side → ℕ → ℕ → ℕ
actions_for script side number count = actions_of (slice_get (blocks_for script side (Some number)) (min count (block_count script side number - 1)))

-- how many requests of a message are among those that were taken
abbrev pub taken_before : ℕ → List ℕ → ℕ
taken_before number taken = how_many (λ n. n == number) taken

-- The actions that the taken requests bring, by the numbers of their messages, the latest first.
abbrev pub actions_served : Script → Side → List ℕ → ℕ
actions_served script side [] = 0
actions_served script side (number ∷ before) = actions_for script side number (taken_before number before) + actions_served script side before

-- The part of these actions that comes from blocks that serve again.
abbrev pub actions_again : Script → Side → List ℕ → ℕ
actions_again script side [] = 0
actions_again script side (number ∷ before) =
    (if nat_lt (taken_before number before) (block_count script side number) then 0 else actions_for script side number (taken_before number before)) + actions_again script side before

-- all actions that a script gives to a side, each counted once
abbrev pub block_actions : Side → Block → ℕ
block_actions side block = if same_side block.side side then length block.actions else 0

abbrev pub actions_in : Side → List Block → ℕ
actions_in side [] = 0
actions_in side (block ∷ blocks) = block_actions side block + actions_in side blocks

abbrev pub side_actions : Script → Side → ℕ
side_actions script side = actions_in side script.blocks

-- 1 for a death that no action asks for, if a stop names the side
abbrev pub deaths : Option Stop → Side → ℕ
deaths stop side = option_map_or (λ s. if same_side s.side side then 1 else 0) stop 0
