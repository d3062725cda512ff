-- The errors of encoding.
use Rattle.std.specs.Prelude.{◌≡◌, ℕ, ◌<◌, ◌≤◌, min}
use Rattle.value_types.specs.Sizes.{greatest_size}
use Rattle.value_codec.specs.declared.encoding.EncodeFault.{EncodeFault}
use Rattle.value_codec.specs.declared.encoding.EncodeFault.TheVariants.{TooLarge, NoMemory}

-- A message with a payload of `size` bytes is refused because at most `most` are allowed, or memory ran out for a
-- payload that is not too large.
abbrev pub IsRefused : ℕ → ℕ → EncodeFault → Type 0
IsRefused most size (TooLarge n) = (most < size) × (n ≡ min size greatest_size)
IsRefused most size NoMemory = size ≤ most
