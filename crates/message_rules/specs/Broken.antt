-- The rules on messages, and the places at which a program breaks them.
use Rattle.std.specs.Prelude.{◌≡◌, ℕ, ◌⊎◌, List, [], ◌++◌, map, Option, Some, None, IsSomeAnd}
use Rattle.std.specs.List.{Any}
use Rattle.ipdl_base.specs.declared.finding.Finding.{Finding}
use Rattle.ipdl_base.specs.declared.finding.Place.{Place}
use Rattle.ipdl_base.specs.declared.finding.TheConstants.Rule as rule
use Rattle.ipdl_syntax.specs.declared.program.Entry.{Entry}
use Rattle.ipdl_syntax.specs.declared.tree.MessageDecl.{MessageDecl}
use Rattle.ipdl_syntax.specs.declared.tree.Param.{Param}
use Rattle.ipdl_syntax.specs.declared.tree.ProtocolDecl.{ProtocolDecl}
use Rattle.findings.specs.Gains.{AtSome}
use Rattle.findings.specs.Repeats.{IsRepeatedAt}
use Rattle.message_rules.specs.Messages.{IsTooMany, IsPlainSyncToChild, IsAsyncInsideSync, IsInsideCpowToChild, IsStronger, IsBadCompress, IsBadLazy, IsBadMaker}

-- this holds of a protocol of the program, and of the index of one of its messages and this message, whose name is at
-- the place
abbrev pub SomeMessage : (ProtocolDecl → ℕ → MessageDecl → Type 0) → List Entry → Place → Type 0
SomeMessage Holds program place =
    Any (λ e. IsSomeAnd e.unit.protocol (λ p. AtSome (λ index m. Holds p index m × (m.place ≡ place)) p.messages)) program

-- the returns of a message, or no returns
abbrev pub returns_of : Option (List Param) → List Param
returns_of None = []
returns_of (Some params) = params

-- B22: the parameter or return whose name is at this place has the name of an earlier one of its message
abbrev pub IsRepeatedParameter : List Entry → Place → Type 0
IsRepeatedParameter program place =
    Any (λ e. IsSomeAnd e.unit.protocol (λ p. Any (λ m. IsRepeatedAt (map (λ q. (q.name, q.place)) (m.params ++ returns_of m.returns)) place) p.messages)) program

-- the finding holds of the program: its rule is broken at its place
abbrev pub BrokenAt : List Entry → Finding → Type 0
BrokenAt program f =
    ((f.rule ≡ rule.TOO_MANY_MESSAGES) × SomeMessage (λ p index m. IsTooMany index) program f.place)
    ⊎ (((f.rule ≡ rule.PLAIN_SYNC_TO_CHILD) × SomeMessage (λ p index m. IsPlainSyncToChild m) program f.place)
    ⊎ (((f.rule ≡ rule.INSIDE_SYNC_NOT_SYNC) × SomeMessage (λ p index m. IsAsyncInsideSync m) program f.place)
    ⊎ (((f.rule ≡ rule.INSIDE_CPOW_TO_CHILD) × SomeMessage (λ p index m. IsInsideCpowToChild m) program f.place)
    ⊎ (((f.rule ≡ rule.STRONGER_MESSAGE) × SomeMessage (λ p index m. IsStronger p m) program f.place)
    ⊎ (((f.rule ≡ rule.BAD_COMPRESS) × SomeMessage (λ p index m. IsBadCompress p m) program f.place)
    ⊎ (((f.rule ≡ rule.REPEATED_PARAMETER) × IsRepeatedParameter program f.place)
    ⊎ (((f.rule ≡ rule.BAD_CONSTRUCTOR) × SomeMessage (λ p index m. IsBadMaker p m) program f.place)
    ⊎ ((f.rule ≡ rule.BAD_LAZY_SEND) × SomeMessage (λ p index m. IsBadLazy p m) program f.place))))))))
