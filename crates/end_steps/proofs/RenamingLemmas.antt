-- Requests whose resolvers are destroyed.
use Rattle.std.proofs.Common.{◌≡◌, ℕ, ◌/◌, ◌<◌, List, length, Option, Some, None, option_and_then, refl, subst, arith}
use Rattle.std.specs.List.{AllByRecursion}
use Rattle.std.proofs.lemmas.Option.{same_Some, slice_get_within}
use Rattle.ipdl_base.specs.declared.schema.MessageRow.{MessageRow}
use Rattle.ipdl_base.specs.declared.schema.Schema.{Schema}
use Rattle.ipdl_base.specs.Sound.{IsSound}
use Rattle.channel_model.specs.Ends.{NameContent, actor, resolver, Naming}
use Rattle.channel_model.specs.Fitting.{FitsNaming, FitsPromised}
use Rattle.channel_model.specs.Names.{held_by_name}
use Rattle.channel_model.specs.Numbers.{request_row}
use Rattle.channel_model.specs.Outputs.{AnsweredRequest, resolver_answered}
use Rattle.channel_model.proofs.FittingEnds.{held-fits}
use Rattle.channel_model.proofs.SendParts.{request-number}
use Rattle.channel_model.proofs.SoundRows.{IsAt, row-at}
use Rattle.end_parts.specs.Replies.{answered_by}

-- the number of a message's request is far below the greatest
pub request-small : (schema : Schema) (n : ℕ) (row : MessageRow) → IsSound schema → request_row schema n ≡ Some row → n < 4294967295
request-small schema n row sound found =
    let number = request-number schema n row found in
    let at : IsAt schema n row = row-at schema sound n row number.1 number.0 in
    let below : n / 65536 < length schema.protocols = slice_get_within schema.protocols (n / 65536) at.protocol at.there in
    omega (arith, below, sound.few)

-- what a name holds is the resolver of a request that is kept
pub held-promised : (schema : Schema) (name : List ℕ) (names : List Naming) (q : AnsweredRequest) → AllByRecursion (FitsNaming schema) names → option_and_then answered_by (held_by_name name names) ≡ Some q → FitsPromised schema q
held-promised schema name names q fits e = at (held_by_name name names) refl e
  where
    at : (content : Option NameContent) → held_by_name name names ≡ content → option_and_then answered_by content ≡ Some q → FitsPromised schema q
    at None is e = cc
    at (Some (actor id)) is e = cc
    at (Some (resolver r)) is e = subst (FitsPromised schema) (same_Some (resolver_answered r) q e) (held-fits schema name names (resolver r) fits is)
