-- The findings on the files that were read.
use Rattle.std.specs.Prelude.{◌≡◌, ◌≢◌, ◌↔◌, ◌⊎◌, ℕ, ◌<◌, Bool, true, false, IsTrue, List, ◌++◌, slice_get, Some, IsSomeAnd}
use Rattle.std.specs.Option.{option_map_or}
use Rattle.ipdl_base.specs.declared.finding.Finding.{Finding}
use Rattle.ipdl_base.specs.declared.finding.Place.{Place}
use Rattle.ipdl_base.specs.declared.finding.Rule.{Rule}
use Rattle.ipdl_base.specs.declared.finding.TheConstants.Rule as rule
use Rattle.ipdl_base.specs.Words.{short_name}
use Rattle.ipdl_syntax.specs.declared.tree.FileKind.TheVariants as file
use Rattle.ipdl_syntax.specs.declared.tree.Include.{Include}
use Rattle.ipdl_syntax.specs.declared.tree.Unit.{Unit as FileUnit}
use Rattle.ipdl_syntax.specs.Programs.{ending}
use Rattle.include_graph.specs.declared.content.Content.{Content}
use Rattle.include_graph.specs.declared.content.Content.TheVariants.{Absent, Large, BadToken, SyntaxFault, Read}
use Rattle.include_graph.specs.declared.walk.ReachedFile.{ReachedFile}
use Rattle.include_graph.specs.declared.walk.Target.{Target}
use Rattle.include_graph.specs.declared.walk.Target.TheVariants.{Nothing, LeftOut, File}
use Rattle.include_graph.specs.Rules.{whole_file}

-- a finding of a rule at a place
abbrev pub finding_at : Rule → Place → Finding
finding_at rule place = record { place = place; rule = rule }

-- this holds at a number below the bound
abbrev pub Below : ℕ → (ℕ → Finding → Type 0) → Finding → Type 0
Below bound Holds f = (number : ℕ) × (number < bound) × Holds number f

-- the file is absent
abbrev pub is_absent : Content → Bool
is_absent Absent = true
is_absent Large = false
is_absent (BadToken place) = false
is_absent (SyntaxFault place) = false
is_absent (Read unit) = false

-- the file of this number is absent
abbrev pub is_absent_at : List ReachedFile → ℕ → Bool
is_absent_at files number = option_map_or (λ f. is_absent f.source.content) (slice_get files number) false

-- a finding on an include and what it leads to
abbrev pub IsFoundFor : List ReachedFile → Include → Target → Finding → Type 0
IsFoundFor files i Nothing f = ⊥
IsFoundFor files i LeftOut f = f ≡ finding_at rule.TOO_LARGE i.place
IsFoundFor files i (File number) f = IsTrue (is_absent_at files number) × (f ≡ finding_at rule.FILE_NOT_FOUND i.place)

-- a finding on the include of this index and what it leads to
abbrev pub IsFoundAt : List ReachedFile → List Include → List Target → ℕ → Finding → Type 0
IsFoundAt files includes targets index f =
    (i : Include) × (target : Target) × (slice_get includes index ≡ Some i) × (slice_get targets index ≡ Some target) × IsFoundFor files i target f

-- a finding on some include
abbrev pub IsFoundAmong : List ReachedFile → List Include → List Target → Finding → Type 0
IsFoundAmong files includes targets f = (index : ℕ) × IsFoundAt files includes targets index f

-- a finding on the name of the protocol, if the file of this key has one
abbrev pub IsFoundOfName : List ℕ → FileUnit → Finding → Type 0
IsFoundOfName key unit f = IsSomeAnd unit.protocol (λ p. (short_name p.full ++ ending file.Protocol ≢ key) × (f ≡ finding_at rule.MISNAMED_PROTOCOL p.place))

-- a finding on the file of this number and key; `word` is whether a word names it
abbrev pub IsFoundIn : List ReachedFile → ℕ → Bool → List ℕ → Content → List Target → Finding → Type 0
IsFoundIn files number word key Absent targets f = IsTrue word × (f ≡ finding_at rule.FILE_NOT_FOUND (whole_file number))
IsFoundIn files number word key Large targets f = f ≡ finding_at rule.TOO_LARGE (whole_file number)
IsFoundIn files number word key (BadToken place) targets f = f ≡ finding_at rule.BAD_TOKEN place
IsFoundIn files number word key (SyntaxFault place) targets f = f ≡ finding_at rule.SYNTAX_FAULT place
IsFoundIn files number word key (Read unit) targets f = IsFoundOfName key unit f ⊎ IsFoundAmong files unit.includes targets f

-- a finding on the file of this number; the first `words` files are named by words
abbrev pub IsFoundOf : ℕ → List (List ℕ) → List ReachedFile → ℕ → Finding → Type 0
IsFoundOf words keys files number f =
    (word : Bool) × (key : List ℕ) × (file : ReachedFile) × (IsTrue word ↔ (number < words)) × (slice_get keys number ≡ Some key) × (slice_get files number ≡ Some file)
    × IsFoundIn files number word key file.source.content file.targets.items f
