-- Lines of replies, of rejections, of falls and of later parts have each property that all lines of these kinds have.
use Rattle.std.proofs.Common.{ℕ, ℤ, Bool, true, false, List, [], ◌∷◌, ◌++◌, filter, flat_map, map}
use Rattle.std.specs.List.{AllByRecursion}
use Rattle.ipdl_base.specs.declared.kinds.Destroy.{Destroy}
use Rattle.ipdl_base.specs.declared.kinds.Reason.{Reason}
use Rattle.ipdl_base.specs.declared.kinds.Reason.TheVariants.{ActorDestroyed, ChannelClosed, ResolverDestroyed}
use Rattle.ipdl_base.specs.declared.line.What.{What}
use Rattle.ipdl_base.specs.declared.line.What.TheVariants as what
use Rattle.ipdl_base.specs.declared.value.Values.{Values}
use Rattle.nesting_core.specs.declared.frame.Answer.{Answer}
use Rattle.nesting_core.specs.declared.frame.Answer.TheVariants as answer
use Rattle.promise_table.specs.declared.promise.Promise.{Promise}
use Rattle.promise_table.specs.Promises.{is_pending_of}
use Rattle.channel_model.specs.Ends.{End, Packet, PromiseEntry}
use Rattle.channel_model.specs.Falls as fall
use Rattle.ipdl_base.specs.Sides.{top_id}
use Rattle.channel_model.specs.Outputs.{AnsweredRequest}
use Rattle.channel_model.specs.Parts as parts
use Rattle.channel_model.specs.Parts.{LaterPart, LaterParts, reply_lines, fall_lines}
use Rattle.channel_model.specs.Phases.{Phase}
use Rattle.channel_model.proofs.Known.{all-append}

-- lines made from a list, one or several for each element
pub mapped-lines : {A : Type 0} (P : What → Type 0) (f : A → What) (xs : List A) → ((x : A) → P (f x)) → AllByRecursion P (map f xs)
mapped-lines P f [] h = tt
mapped-lines P f (x ∷ xs) h = (h x, mapped-lines P f xs h)

pub flat-lines : {A : Type 0} (P : What → Type 0) (f : A → List What) (xs : List A) → ((x : A) → AllByRecursion P (f x)) → AllByRecursion P (flat_map f xs)
flat-lines P f [] h = tt
flat-lines P f (x ∷ xs) h = all-append P (f x) (flat_map f xs) (h x) (flat-lines P f xs h)

-- Lines of rejections and of actors that fall have a property.
pub record FallsHave (P : What → Type 0) : Type 0 where
  pub rejected : (n : ℤ) (r : Reason) → P (what.Rejected n r)
  pub fell : (id : ℤ) (why : Destroy) → P (what.Fall id why)

module _ (P : What → Type 0) (have : FallsHave P) where
  pub rejections-have : (test : Promise → Bool) (why : Reason) (ps : List PromiseEntry) → AllByRecursion P (fall.rejections test why ps)
  rejections-have test why ps = mapped-lines P (λ (entry : PromiseEntry). what.Rejected entry.promise.seq why) (filter (fall.passes test) ps) (λ entry. have.rejected entry.promise.seq why)

  pub falls-have : (id : ℤ) (why : ℤ → Destroy) (e : End) → AllByRecursion P (fall_lines id why e)
  falls-have id why e =
      flat-lines P (fall.fall_lines why e.promises) (parts.falling id e)
      (λ a. all-append P (fall.rejections (is_pending_of a.id) ActorDestroyed e.promises) (what.Fall a.id (why a.id) ∷ []) (rejections-have (is_pending_of a.id) ActorDestroyed e.promises) (have.fell a.id (why a.id), tt))

  -- at an end that closes
  pub closing-has : (why : Destroy) (e : End) → AllByRecursion P (parts.abandoned_lines e ++ fall_lines top_id (λ id. why) (parts.abandoned_end e))
  closing-has why e =
      all-append P (parts.abandoned_lines e) (fall_lines top_id (λ id. why) (parts.abandoned_end e)) (rejections-have (λ p. true) ChannelClosed e.promises) (falls-have top_id (λ id. why) (parts.abandoned_end e))

-- So have the lines of actors that are built, and of answers.
pub record EffectsHave (P : What → Type 0) : Type 0 where
  pub built : (id : ℤ) (protocol : ℕ) → P (what.Built id protocol)
  pub ok : (n : ℤ) (vs : Values) → P (what.AnswerOk n vs)
  pub fault : (n : ℤ) (r : Reason) → P (what.AnswerFault n r)
  pub falls : FallsHave P

module _ (P : What → Type 0) (have : EffectsHave P) where
  pub reply-has : (b : Bool) (q : AnsweredRequest) (a : Answer) → AllByRecursion P (reply_lines b q a)
  reply-has true q (answer.Ok vs) = (have.ok q.seq vs, tt)
  reply-has true q (answer.Fault r) = (have.fault q.seq r, tt)
  reply-has false q a = tt

  pub later-has : {p q : Phase} {e f : End} {ws : List What} {ps : List Packet} → LaterPart p e ws ps f q → AllByRecursion P ws
  later-has (parts.unnames name now silent) = tt
  later-has (parts.lets_go name r now is o) = (have.fault r.seq ResolverDestroyed, tt)
  later-has (parts.names more a) = tt
  later-has (parts.releases seq closed) = tt
  later-has (parts.keeps seq name r is open_end) = tt
  later-has (parts.builds id protocol rest fresh alive) = (have.built id protocol, tt)
  later-has {e} (parts.deletes id due) = falls-have P have.falls id (fall.why_deleted id) e
  later-has {e} (parts.falls why due) = closing-has P have.falls why e

  pub laters-have : {p q : Phase} {e f : End} {ws : List What} {ps : List Packet} → LaterParts p e ws ps f q → AllByRecursion P ws
  laters-have parts.done = tt
  laters-have (parts.then {ws} {vs} part rest) = all-append P ws vs (later-has part) (laters-have rest)
