-- What a name finds, with its properties.
use Rattle.std.proofs.Common.{◌≡◌, ◌∙◌, ℕ, Bool, List, Some, sym, ap, subst}
use Rattle.std.specs.Bool.{Decides}
use Rattle.std.proofs.lemmas.Option.{same_Some}
use Rattle.std.proofs.lemmas.Bool.Decides.{Decides-like}
use Rattle.ipdl_syntax.specs.declared.program.Entry.{Entry}
use Rattle.ipdl_syntax.specs.declared.tree.ProtocolDecl.{ProtocolDecl}
use Rattle.name_table.specs.Decls.{FindsOneProtocol, protocol_of}
use Rattle.name_table.specs.Finds.{FindsAsProtocol}
use Rattle.manager_rules.specs.Broken.{FindsWith}
use Rattle.manager_rules.proofs.Counted.{one_number}

-- a property of the one protocol that is found
pub with_told : (Holds : ℕ → ProtocolDecl → Type 0) (program : List Entry) (file : ℕ) (name : List ℕ) (other : ℕ) (q : ProtocolDecl) (told : Bool) → FindsOneProtocol program file name other → protocol_of program other ≡ Some q → Decides told (Holds other q) → Decides told (FindsWith Holds program file name)
with_told Holds program file name other q told finds there decides =
    Decides-like told
    (λ h. record { other = other; finds = finds; protocol = q; there = there; holds = h })
    (λ w.
    let same = one_number (FindsAsProtocol program file name) w.other other w.finds finds in
    let one = same_Some w.protocol q (sym w.there ∙ ap (λ k. protocol_of program k) same ∙ there) in
    let P : ℕ → Type 0 = λ k. Holds k w.protocol in
    let Q : ProtocolDecl → Type 0 = λ p. Holds other p in
    subst Q one (subst P same w.holds))
    decides
