-- It is decided what a file sees, so this is listed.
use Rattle.report_existence.proofs.Lists.{text_or_not}
use Rattle.std.proofs.lemmas.Bool.{cases_eq}
use Rattle.std.proofs.Common.{◌≡◌, ◌⊎◌, ℕ, ◌<◌, List, Contains, Any, Some, None, length, refl, sym, subst, inl, inr, slice_get}
use Rattle.ipdl_syntax.specs.declared.program.Entry.{Entry}
use Rattle.name_table.specs.declared.decl.DeclId.{DeclId}
use Rattle.name_table.specs.declared.decl.DeclId.TheVariants.{Builtin, Using, Struct, Union, Protocol, Endpoint}
use Rattle.name_table.specs.Declares.{full_name_of, Includes, IsHeader}
use Rattle.name_table.specs.Marks.{IsFollowed, Reaches, start, step, Shows}
use Rattle.name_table.specs.Rows.{declared_from}
use Rattle.name_table.specs.Visible.{Sees, own, protocol, header}
use Rattle.name_table.proofs.Order.{all_declared}
use Rattle.name_table.proofs.Seeing.{sees_shown, shown_sees}
use Rattle.report_existence.proofs.Finite.{either_or_not, both_or_not, any_or_not}
use Rattle.name_existence.specs.Laws.{SightsAreListed}
use Rattle.name_existence.proofs.Decisions.{below_or_not, like_or_not, none_or_not, option_or_not, some_and_or_not, contains_or_not, of_list}
use Rattle.name_existence.proofs.Derivations.{numbers_below, is_below}
use Rattle.name_existence.proofs.Least.{least_or_not}

header_or_not : (program : List Entry) (file : ℕ) → IsHeader program file ⊎ (IsHeader program file → ⊥)
header_or_not program file = some_and_or_not (slice_get program file) (λ entry. entry.unit.protocol ≡ None) (λ entry. none_or_not entry.unit.protocol)

includes_or_not : (program : List Entry) (file other : ℕ) → Includes program file other ⊎ (Includes program file other → ⊥)
includes_or_not program file other = some_and_or_not (slice_get program file) (λ entry. Contains entry.includes other) (λ entry. contains_or_not cases_eq entry.includes other)

followed_or_not : (program : List Entry) (from file : ℕ) → IsFollowed program from file ⊎ (IsFollowed program from file → ⊥)
followed_or_not program from file = either_or_not (cases_eq file from) (header_or_not program file)

-- from marked files a step leads to the file at which the search began, and to the files that a marked and followed
-- file includes
abbrev Step : List Entry → ℕ → List ℕ → ℕ → Type 0
Step program from marks file = (file < length program) × ((file ≡ from) ⊎ Any (λ before. IsFollowed program from before × Includes program before file) marks)

step_or_not : (program : List Entry) (from : ℕ) (marks : List ℕ) (file : ℕ) → Step program from marks file ⊎ (Step program from marks file → ⊥)
step_or_not program from marks file =
    both_or_not (below_or_not file (length program))
    (either_or_not (cases_eq file from)
    (any_or_not (λ before. IsFollowed program from before × Includes program before file) (λ before. both_or_not (followed_or_not program from before) (includes_or_not program before file)) marks))

step_reaches : (program : List Entry) (from : ℕ) (marks : List ℕ) → ((file : ℕ) → Contains marks file → Reaches program from file) → (file : ℕ) → Step program from marks file → Reaches program from file
step_reaches program from marks sound file (below, inl e) = subst (Reaches program from) (sym e) (start (subst (λ n. n < length program) e below))
step_reaches program from marks sound file (below, inr (i, before, within, at, along)) = step (sound before (i, within, at)) along.0 along.1 below

reached_step : (program : List Entry) (from : ℕ) (marks : List ℕ) → ((file : ℕ) → Contains (numbers_below (length program)) file → Step program from marks file → Contains marks file) → {file : ℕ} → Reaches program from file → Step program from marks file
reached_step program from marks closed (start below) = (below, inl refl)
reached_step program from marks closed (step {file} {other} r along e below) =
    let s = reached_step program from marks closed r in
    let c = closed file (is_below (length program) file s.0) s in
    (below, inr (c.0, file, c.1, c.2, (along, e)))

reaches_or_not : (program : List Entry) (from file : ℕ) → Reaches program from file ⊎ (Reaches program from file → ⊥)
reaches_or_not program from file =
    least_or_not (numbers_below (length program)) (Reaches program from) (Step program from) (step_or_not program from) (step_reaches program from)
    (λ marks closed n r. reached_step program from marks closed r) file

shows_or_not : (program : List Entry) (file : ℕ) (d : DeclId) → Shows program file d ⊎ (Shows program file d → ⊥)
shows_or_not program file (Using other place) = both_or_not (reaches_or_not program file other) (followed_or_not program file other)
shows_or_not program file (Struct other place) = both_or_not (reaches_or_not program file other) (followed_or_not program file other)
shows_or_not program file (Union other place) = both_or_not (reaches_or_not program file other) (followed_or_not program file other)
shows_or_not program file (Protocol other) = reaches_or_not program file other
shows_or_not program file (Builtin type) = inr (λ h. h)
shows_or_not program file (Endpoint p managed) = inr (λ h. h)

pub sees_or_not : (program : List Entry) (file : ℕ) (d : DeclId) (full : List ℕ) → Sees program file d full ⊎ (Sees program file d full → ⊥)
sees_or_not program file d full =
    like_or_not (λ h. shown_sees program file d full h.0 h.1) (λ s. sees_shown program s)
    (both_or_not (shows_or_not program file d) (option_or_not text_or_not (full_name_of program d) (Some full)))

-- what is seen is declared in the program
pub sees_declared : (program : List Entry) {file : ℕ} {d : DeclId} {full : List ℕ} → Sees program file d full → Contains (declared_from 0 program) (d, full)
sees_declared program (own {file} {d} {full} is) = all_declared program file d full is
sees_declared program (protocol {file} {other} {full} e is) = all_declared program other (Protocol other) full is
sees_declared program (header e h s) = sees_declared program s

pub sights_are_listed : SightsAreListed
sights_are_listed program file = of_list (λ seen. Sees program file seen.0 seen.1) (λ seen. sees_or_not program file seen.0 seen.1) (declared_from 0 program) (λ seen s. sees_declared program s)
