-- What a read gave, as plain data.
use Rattle.std.specs.Prelude.{◌≡◌, ℕ, List, Option, Some, None, refl}
use Rattle.std.specs.Coded.{Coded, code_by, coded×, coded_ℕ, coded_list, coded_option}

-- the result of a read: no file, a file of more bytes than were asked for, all bytes of a file, or that the read failed
pub data Found : Type 0 where
  NoFile : Found
  MoreBytes : Found
  AllBytes : (bytes : List ℕ) → Found
  Failed : Found

-- the result of a read of a name that asked for at most this number of bytes
pub record ReadEntry : Type 0 where
  pub name : List ℕ
  pub limit : ℕ
  pub found : Found

abbrev to_parts : Found → Option (Option (Option (List ℕ)))
to_parts NoFile = None
to_parts MoreBytes = Some None
to_parts Failed = Some (Some None)
to_parts (AllBytes bytes) = Some (Some (Some bytes))

abbrev from_parts : Option (Option (Option (List ℕ))) → Found
from_parts None = NoFile
from_parts (Some None) = MoreBytes
from_parts (Some (Some None)) = Failed
from_parts (Some (Some (Some bytes))) = AllBytes bytes

pub there_and_back : (f : Found) → from_parts (to_parts f) ≡ f
there_and_back NoFile = refl
there_and_back MoreBytes = refl
there_and_back Failed = refl
there_and_back (AllBytes bytes) = refl

abbrev pub found_code : Coded Found
found_code = code_by (Option (Option (Option (List ℕ)))) (coded_option (coded_option (coded_option (coded_list coded_ℕ)))) to_parts from_parts there_and_back

abbrev pub entry_code : Coded ReadEntry
entry_code = code_by (List ℕ × (ℕ × Found)) (coded× (coded_list coded_ℕ) (coded× coded_ℕ found_code)) (λ e. (e.name, (e.limit, e.found))) (λ p. record { name = p.0; limit = p.1.0; found = p.1.1 }) (λ _. refl)

abbrev pub log_code : Coded (List ReadEntry)
log_code = coded_list entry_code
