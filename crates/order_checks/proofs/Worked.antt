-- Worked lines that obey the five laws.
use Rattle.std.proofs.Common.{List, [], ◌∷◌, pos, refl}
use Rattle.std.proofs.lemmas.Bool.{false≢true}
use Rattle.ipdl_base.specs.declared.kinds.Reason.TheVariants as reason
use Rattle.ipdl_base.specs.declared.kinds.SendRefusal.TheVariants as refusal
use Rattle.ipdl_base.specs.declared.kinds.Side.TheVariants as side
use Rattle.ipdl_base.specs.declared.line.Line.{Line}
use Rattle.ipdl_base.specs.declared.line.What.TheVariants as what
use Rattle.ipdl_base.specs.declared.schema.Schema.{Schema}
use Rattle.history_reading.specs.declared.law.Law.{Law}
use Rattle.history_reading.specs.declared.law.Law.TheVariants as law
use Rattle.history_reading.specs.Holds.{Holds, IsReadable, is_readable, moment_test, passes}
use Rattle.law_statements.specs.Said.{line_of}
use Rattle.law_statements.proofs.LivingLaw.{living-to}
use Rattle.law_statements.proofs.ReadableLines.{readable-to}
use Rattle.order_statements.specs.Answers.{Answers}
use Rattle.order_statements.specs.Effects.{Effects}
use Rattle.order_statements.specs.Order.{Order}
use Rattle.order_checks.specs.EffectTests.{is_effect_line}
use Rattle.order_checks.specs.Walk.{line_test}
use Rattle.order_checks.proofs.AnswersLaw.{answers-from}
use Rattle.order_checks.proofs.EffectsLaw.{effects-from}
use Rattle.order_checks.proofs.OrderLaw.{order-is}

-- A refused act answers a request that nobody sent: neither the effects nor the answers are as is owed.

abbrev lines : List Line
lines = line_of side.Parent (what.RefusedClose refusal.Closed) ∷ line_of side.Parent (what.AnswerFault (pos 1) reason.ResolverDestroyed) ∷ []

can-be-read : (schema : Schema) → IsReadable schema lines
unfolding is_readable
can-be-read schema = refl

obeys-all-laws : (schema : Schema) (l : Law) → Holds l schema lines
unfolding passes moment_test is_readable
obeys-all-laws schema law.Prefix = refl
obeys-all-laws schema law.Living = refl
obeys-all-laws schema law.Waits = refl
obeys-all-laws schema law.Settled = refl
obeys-all-laws schema law.Fallen = refl

gives-no-effects : (schema : Schema) → Effects schema lines → ⊥
unfolding line_test is_effect_line
gives-no-effects schema s = false≢true (effects-from schema lines (readable-to schema lines (can-be-read schema)) (living-to schema lines (obeys-all-laws schema law.Living)) s)

gives-no-answers : (schema : Schema) → Answers schema lines → ⊥
unfolding line_test
gives-no-answers schema s = false≢true (answers-from schema lines (readable-to schema lines (can-be-read schema)) s)

-- A reply is sent twice, comes twice and is taken once. Nothing of it waits after that, so the next one may be taken.

abbrev twice : List Line
twice =
    line_of side.Child (what.Reject (pos 1)) ∷ line_of side.Child (what.Reject (pos 1)) ∷ line_of side.Child (what.Reject (pos 2))
    ∷ line_of side.Parent (what.DeliverReply (pos 1)) ∷ line_of side.Parent (what.DeliverReply (pos 1)) ∷ line_of side.Parent (what.TakeReply (pos 1))
    ∷ line_of side.Parent (what.DeliverReply (pos 2)) ∷ line_of side.Parent (what.TakeReply (pos 2)) ∷ []

twice-can-be-read : (schema : Schema) → IsReadable schema twice
unfolding is_readable
twice-can-be-read schema = refl

twice-obeys-all-laws : (schema : Schema) (l : Law) → Holds l schema twice
unfolding passes moment_test is_readable
twice-obeys-all-laws schema law.Prefix = refl
twice-obeys-all-laws schema law.Living = refl
twice-obeys-all-laws schema law.Waits = refl
twice-obeys-all-laws schema law.Settled = refl
twice-obeys-all-laws schema law.Fallen = refl

twice-keeps-order : (schema : Schema) → Order schema twice
unfolding line_test
twice-keeps-order schema = (order-is schema twice (readable-to schema twice (twice-can-be-read schema))).0 refl

-- A younger reply is taken where no call waits: the order is not kept.

abbrev younger : List Line
younger =
    line_of side.Child (what.Reject (pos 1)) ∷ line_of side.Child (what.Reject (pos 2)) ∷ line_of side.Parent (what.DeliverReply (pos 1)) ∷ line_of side.Parent (what.DeliverReply (pos 2))
    ∷ line_of side.Parent (what.TakeReply (pos 2)) ∷ []

younger-can-be-read : (schema : Schema) → IsReadable schema younger
unfolding is_readable
younger-can-be-read schema = refl

younger-obeys-all-laws : (schema : Schema) (l : Law) → Holds l schema younger
unfolding passes moment_test is_readable
younger-obeys-all-laws schema law.Prefix = refl
younger-obeys-all-laws schema law.Living = refl
younger-obeys-all-laws schema law.Waits = refl
younger-obeys-all-laws schema law.Settled = refl
younger-obeys-all-laws schema law.Fallen = refl

younger-keeps-no-order : (schema : Schema) → Order schema younger → ⊥
unfolding line_test
younger-keeps-no-order schema s = false≢true ((order-is schema younger (readable-to schema younger (younger-can-be-read schema))).1 s)
