-- Every step counts its requests: part by part.
use Rattle.std.proofs.Common.{◌≡◌, ℕ, ◌+◌, ◌≤◌, Bool, true, false, List, [], ◌∷◌, drop, length, refl, ap, ◌∙◌, arith}
use Rattle.std.proofs.lemmas.List.{length-append}
use Rattle.ipdl_base.specs.declared.line.What.{What}
use Rattle.ipdl_base.specs.declared.message.Message.{Message}
use Rattle.ipdl_base.specs.declared.schema.Kind.{Kind}
use Rattle.ipdl_base.specs.declared.schema.Kind.TheVariants.{Normal, Constructor, Delete}
use Rattle.ipdl_base.specs.declared.schema.Schema.{Schema}
use Rattle.channel_model.specs.Answers.{without_resolver}
use Rattle.channel_model.specs.Bounds.{HasCounted, IsCounted}
use Rattle.channel_model.specs.Ends.{End, Packet}
use Rattle.channel_model.specs.Events.{Answering, handled, kept}
use Rattle.channel_model.specs.Numbers.{counting}
use Rattle.channel_model.specs.Parts
use Rattle.channel_model.specs.Parts.{FirstPart, LaterPart, LaterParts, OwnParts, DeliveryPart, end_after, outbox_after}
use Rattle.channel_model.specs.Phases.{Phase}
use Rattle.channel_model.specs.Sends.{request_of}
use Rattle.channel_model.specs.StepLaws.{CountsGrow}
use Rattle.channel_model.proofs.StepParts.{by-parts}

-- No request is counted, and the outbox does not grow.
pub record Keeps (e f : End) : Type 0 where
  pub sent : f.sent ≡ e.sent
  delivered : f.delivered ≡ e.delivered
  outbox : length f.outbox ≤ length e.outbox
  constructors : f.constructors_sent ≡ e.constructors_sent

keeps-all : (e f : End) → f.sent ≡ e.sent → f.delivered ≡ e.delivered → f.outbox ≡ e.outbox → f.constructors_sent ≡ e.constructors_sent → Keeps e f
keeps-all e f s d o c = let k : length f.outbox ≡ length e.outbox = ap length o in record { sent = s; delivered = d; outbox = omega (arith, k); constructors = c }

keeps-none : (e f : End) → f.sent ≡ e.sent → f.delivered ≡ e.delivered → f.outbox ≡ [] → f.constructors_sent ≡ e.constructors_sent → Keeps e f
keeps-none e f s d o c = let k : length f.outbox ≡ 0 = ap length o in record { sent = s; delivered = d; outbox = omega (arith, k); constructors = c }

keeps-both : (e f g : End) → Keeps e f → Keeps f g → Keeps e g
keeps-both e f g h k = record { sent = k.sent ∙ h.sent; delivered = k.delivered ∙ h.delivered; outbox = omega (arith, h.outbox, k.outbox); constructors = k.constructors ∙ h.constructors }

counted-kept : (e f : End) → Keeps e f → HasCounted e f
counted-kept e f k = record {
  sent = (omega (arith, k.sent), omega (arith, k.sent));
  delivered = (omega (arith, k.delivered), omega (arith, k.delivered));
  outbox = omega (arith, k.sent, k.outbox);
  constructors = omega (arith, k.sent, k.constructors);
}

following-keeps : (b : Bool) (e : End) → Keeps e (end_after b e)
following-keeps true e = keeps-none _ _ refl refl refl refl
following-keeps false e = keeps-all _ _ refl refl refl refl

used-keeps : (by : Answering) (e : End) → Keeps e (record (without_resolver by e) { outbox = [] })
used-keeps (handled seq) e = keeps-none _ _ refl refl refl refl
used-keeps (kept name number) e = keeps-none _ _ refl refl refl refl

-- Parts

later-keeps : {p q : Phase} {e f : End} {ws : List What} {ps : List Packet} → LaterPart p e ws ps f q → Keeps e f
later-keeps (Parts.unnames name may silent) = keeps-all _ _ refl refl refl refl
later-keeps (Parts.lets_go name x may is open_is) = keeps-none _ _ refl refl refl refl
later-keeps (Parts.names more actors) = keeps-all _ _ refl refl refl refl
later-keeps (Parts.releases seq closed) = keeps-all _ _ refl refl refl refl
later-keeps (Parts.keeps seq name x is closed) = keeps-all _ _ refl refl refl refl
later-keeps (Parts.builds id protocol rest is built) = keeps-all _ _ refl refl refl refl
later-keeps (Parts.deletes id cause) = keeps-all _ _ refl refl refl refl
later-keeps (Parts.falls why cause) = keeps-all _ _ refl refl refl refl

pub laters-keep : {p q : Phase} {e f : End} {ws : List What} {ps : List Packet} → LaterParts p e ws ps f q → Keeps e f
laters-keep Parts.done = keeps-all _ _ refl refl refl refl
laters-keep (Parts.then part rest) = keeps-both _ _ _ (later-keeps part) (laters-keep rest)

outbox-count : (lazy : Bool) (m : Message) (ms : List Message) → length (outbox_after lazy m ms) ≤ length ms + 1
outbox-count true m ms = omega (arith, length-append ms (m ∷ []))
outbox-count false m ms = omega arith

constructors-count : (kind : Kind) (n : ℕ) → counting kind n ≤ n + 1
constructors-count Normal n = omega arith
constructors-count (Constructor p) n = omega arith
constructors-count Delete n = omega arith

first-counted : {schema : Schema} {p : Phase} {e f : End} {ws : List What} {ps : List Packet} → FirstPart schema e ws ps f p → HasCounted e f
first-counted (Parts.refuses w is) = counted-kept _ _ (keeps-all _ _ refl refl refl refl)
first-counted (Parts.renames w is) = counted-kept _ _ (keeps-all _ _ refl refl refl refl)
first-counted (Parts.flushes open_is) = counted-kept _ _ (keeps-none _ _ refl refl refl refl)
first-counted {e} (Parts.sends row route vs name sent) = record {
  sent = (omega arith, omega arith);
  delivered = (omega arith, omega arith);
  outbox = omega (arith, outbox-count row.lazy (request_of e row route vs) e.outbox);
  constructors = omega (arith, constructors-count row.kind e.constructors_sent);
}
first-counted {e} (Parts.answers by vs r row found may ok is) = counted-kept _ _ (used-keeps by e)
first-counted (Parts.closes open_is none) = counted-kept _ _ (keeps-none _ _ refl refl refl refl)
first-counted (Parts.dies open_is) = counted-kept _ _ (keeps-none _ _ refl refl refl refl)
first-counted (Parts.dies_silent open_is alive) = counted-kept _ _ (keeps-all _ _ refl refl refl refl)
first-counted (Parts.takes m sync level row vs next body found stays) = counted-kept _ _ (keeps-all _ _ refl refl refl refl)
first-counted {e} (Parts.drops m sync level row vs id replies next body found gone is) = counted-kept _ _ (keeps-both _ _ _ (keeps-all _ (Parts.left_end e) refl refl refl refl) (following-keeps replies (Parts.left_end e)))
first-counted (Parts.drops_unknown m sync level vs next body none) = counted-kept _ _ (keeps-all _ _ refl refl refl refl)
first-counted (Parts.takes_reply m sync level a next body late) = counted-kept _ _ (keeps-all _ _ refl refl refl refl)
first-counted (Parts.settles m sync level row a next body found is) = counted-kept _ _ (keeps-all _ _ refl refl refl refl)
first-counted (Parts.shuts last next is) = counted-kept _ _ (keeps-all _ _ refl refl refl refl)
first-counted {e} (Parts.returns entry row vs told lost returns t l) =
    let off : End = record e { stack = drop 1 e.stack } in
    counted-kept _ _ (keeps-both _ _ _ (keeps-all e off refl refl refl refl) (keeps-both _ _ _ (following-keeps told off) (following-keeps lost (end_after told off))))
first-counted (Parts.resumes wait row on_top found) = counted-kept _ _ (keeps-all _ _ refl refl refl refl)

own-counted : {schema : Schema} {p : Phase} {e f : End} {ws : List What} {ps : List Packet} → OwnParts schema e ws ps f p → HasCounted e f
own-counted (Parts.begun first rest over) =
    let a = first-counted first in
    let b = laters-keep rest in
    record {
      sent = (omega (arith, a.sent.0, b.sent), omega (arith, a.sent.1, b.sent));
      delivered = (omega (arith, a.delivered.0, b.delivered), omega (arith, a.delivered.1, b.delivered));
      outbox = omega (arith, a.outbox, b.sent, b.outbox);
      constructors = omega (arith, a.constructors, b.sent, b.constructors);
    }

delivery-counted : {schema : Schema} {packet : Packet} {p : Phase} {e f : End} {ws : List What} {ps : List Packet} → DeliveryPart schema packet e ws ps f p → HasCounted e f
delivery-counted (Parts.gets_request m row vs body found none) = record { sent = (omega arith, omega arith); delivered = (omega arith, omega arith); outbox = omega arith; constructors = omega arith }
delivery-counted (Parts.replaces m row vs old sync level true body found rep is) = record { sent = (omega arith, omega arith); delivered = (omega arith, omega arith); outbox = omega arith; constructors = omega arith }
delivery-counted (Parts.replaces m row vs old sync level false body found rep is) = record { sent = (omega arith, omega arith); delivered = (omega arith, omega arith); outbox = omega arith; constructors = omega arith }
delivery-counted (Parts.gets_answer m row a body found sync) = counted-kept _ _ (keeps-all _ _ refl refl refl refl)
delivery-counted (Parts.gets_reply m row a body found async) = counted-kept _ _ (keeps-all _ _ refl refl refl refl)
delivery-counted (Parts.drains packet is) = counted-kept _ _ (keeps-none _ _ refl refl refl refl)
delivery-counted (Parts.passes_by m ordinary none) = counted-kept _ _ (keeps-all _ _ refl refl refl refl)

-- Steps

counted-stays : (e f : End) → HasCounted e f → IsCounted e → IsCounted f
counted-stays e f h k = record { outbox = omega (arith, h.outbox, k.outbox); constructors = omega (arith, h.constructors, k.constructors) }

pub counts_grow : CountsGrow
counts_grow schema e link happened output is =
    let h : HasCounted e output.end = by-parts schema e link happened output (HasCounted e output.end) is (λ made. own-counted made.parts) (λ same made. delivery-counted made.3.parts) in
    (h, counted-stays e output.end h)
