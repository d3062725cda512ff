-- Which block serves a request.
use Rattle.std.specs.Prelude.{◌≡◌, ℕ, suc, ◌-◌, ◌==◌, ◌<◌, List, [], ◌∷◌, filter, take, map, length, count_by, min, nat_eq, nat_lt, if◌then◌else◌, Option, Some, None, option_and_then, slice_get}
use Rattle.std.specs.Option.{option_map_or}
use Rattle.indexmap.specs.IndexMap.{IndexMap, get}
use Rattle.ipdl_base.specs.declared.kinds.Side.{Side}
use Rattle.handler_script.specs.declared.action.Block.{Block}
use Rattle.handler_script.specs.Served.{serves}
use Rattle.script_parts.specs.declared.blocks.BlockTable.{BlockTable}
use Rattle.script_parts.specs.declared.blocks.MessageBlocks.{MessageBlocks}

-- how many requests of a message were taken
abbrev pub count_of : ℕ → List ℕ → ℕ
count_of number taken = count_by (λ n. n == number) taken

-- the block that serves the next request of a message, after those that were taken: the one whose index is their number, or else the last
abbrev pub block_after : List Block → Side → ℕ → List ℕ → Option Block
block_after blocks side number taken = slice_get (filter (serves side (Some number)) blocks) (min (count_of number taken) (length (filter (serves side (Some number)) blocks) - 1))

-- the indices that are listed for a message, and the position of the next
abbrev pub listed_in : {S : Type 0} → IndexMap ℕ MessageBlocks S → ℕ → List ℕ
listed_in messages number = option_map_or (λ message. message.blocks.items) (get nat_eq messages number) []

abbrev pub next_in : {S : Type 0} → IndexMap ℕ MessageBlocks S → ℕ → ℕ
next_in messages number = option_map_or (λ message. message.next) (get nat_eq messages number) 0

-- the index of the main, if there is one
abbrev pub main_in : Option ℕ → List ℕ
main_in None = []
main_in (Some index) = index ∷ []

-- the next position among this number of blocks: one further, but not past the last
abbrev pub next_after : ℕ → ℕ → ℕ
next_after count at = if nat_lt (suc at) count then suc at else at

-- The table of a side of a script with these blocks, after requests with these message numbers were taken. It lists the
-- blocks of each message by index, and the next of them is the one that serves the next request.
pub record IsTableOf (blocks : List Block) (side : Side) (taken : List ℕ) (table : BlockTable) : Type 0 where
  pub mains : map (slice_get blocks) (main_in table.main) ≡ map Some (take 1 (filter (serves side None) blocks))
  pub listed : (number : ℕ) → map (slice_get blocks) (listed_in table.messages number) ≡ map Some (filter (serves side (Some number)) blocks)
  pub next : (number : ℕ) → next_in table.messages number ≡ min (count_of number taken) (length (listed_in table.messages number) - 1)
