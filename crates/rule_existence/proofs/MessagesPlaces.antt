-- Lists of the places with a property in some protocol of a program.
use Rattle.std.proofs.Common.{List, Any, Option, Some, None, IsSomeAnd}
use Rattle.ipdl_base.specs.declared.finding.Place.{Place}
use Rattle.ipdl_syntax.specs.declared.program.Entry.{Entry}
use Rattle.ipdl_syntax.specs.declared.tree.ProtocolDecl.{ProtocolDecl}
use Rattle.report_existence.specs.Laws.{IsListed}
use Rattle.report_existence.proofs.Finite.{no_place, of_any}

-- the things that an optional value has
pub of_some_and : {X Y : Type 0} (o : Option X) (Holds : X → Y → Type 0) → ((x : X) → IsListed (Holds x)) → IsListed (λ y. IsSomeAnd o (λ x. Holds x y))
of_some_and None Holds each = no_place (λ y. IsSomeAnd None (λ x. Holds x y)) (λ y h. h)
of_some_and (Some x) Holds each = each x

-- the things that some protocol of the program has
pub of_protocols : (program : List Entry) (Holds : ProtocolDecl → Place → Type 0) → ((p : ProtocolDecl) → IsListed (Holds p)) → IsListed (λ place. Any (λ e. IsSomeAnd e.unit.protocol (λ p. Holds p place)) program)
of_protocols program Holds each = of_any program (λ e place. IsSomeAnd e.unit.protocol (λ p. Holds p place)) (λ e. of_some_and e.unit.protocol Holds each)
