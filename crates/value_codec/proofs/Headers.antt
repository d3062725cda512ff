-- The fields of a header, one by one.
use Rattle.std.proofs.Common.{◌≡◌, ℕ, ℤ}
use Rattle.value_codec.specs.declared.header.Header.{Header}

abbrev header_with : ℕ → ℤ → ℕ → ℕ → ℤ → ℤ → Header
header_with size route number flags seq transaction = record { size = size; route = route; number = number; flags = flags; seq = seq; transaction = transaction }

pub header_same : (size size' : ℕ) (route route' : ℤ) (number number' flags flags' : ℕ) (seq seq' transaction transaction' : ℤ)
    → size ≡ size' → route ≡ route' → number ≡ number' → flags ≡ flags' → seq ≡ seq' → transaction ≡ transaction'
    → header_with size route number flags seq transaction ≡ header_with size' route' number' flags' seq' transaction'
header_same size size' route route' number number' flags flags' seq seq' transaction transaction' a b c d e f = λ i. header_with (a i) (b i) (c i) (d i) (e i) (f i)
