-- Which values terms represent, where a message is handled and an end has names.
use Rattle.std.specs.Prelude.{ℕ, zero, suc, ℤ, pos, negsuc, List, Option, unwrap_or}
use Rattle.ipdl_base.specs.Plain.{one_box, plain}
use Rattle.ipdl_base.specs.declared.value.Value.{Value}
use Rattle.ipdl_base.specs.declared.value.Value as boxed
use Rattle.ipdl_base.specs.declared.value.Value.TheVariants as value
use Rattle.ipdl_base.specs.declared.value.Values.{Values}
use Rattle.ipdl_base.specs.declared.value.Values as boxed_list
use Rattle.ipdl_base.specs.declared.value.Values.TheVariants as values
use Rattle.ipdl_base.specs.Sides.{top_id}
use Rattle.script_reader.specs.declared.written.Who.{Who}
use Rattle.script_reader.specs.declared.written.Who.TheVariants as whos
use Rattle.handler_script.specs.declared.term.Term.{Term, Union', Maybe', Held-Term-Maybe-0, None', Some'}
use Rattle.handler_script.specs.declared.term.Term.TheVariants as term
use Rattle.handler_script.specs.declared.term.Terms.{Terms, First'}
use Rattle.handler_script.specs.declared.term.Terms.TheVariants as terms

-- the context of terms: the handled message's actor, the actor that it built and its parameters, and the ids that names have
pub record TermContext : Type 0 where
  pub this : ℤ
  pub made : ℤ
  pub given : Values
  pub held : List ℕ → Option ℤ

-- an id that never lives
abbrev pub no_id : ℤ
no_id = negsuc 0

-- the value with this index, or an actor that never lives if there is no such value
abbrev pub value_at : Values → ℕ → Value
value_at values.Nothing n = value.Actor no_id
value_at (boxed_list.First' _ v _ vs) zero = v
value_at (boxed_list.First' _ v _ vs) (suc n) = value_at vs n

-- the value of the parameter with this number, counted from 1
abbrev pub given_at : Values → ℕ → Value
given_at given zero = value.Actor no_id
given_at given (suc n) = plain (value_at given n)

abbrev pub id_in : Value → ℤ
id_in (value.Actor id) = id
id_in _ = no_id

-- The id of an actor that is named. A name without an actor gives the id of one that never lives.
abbrev pub id_of : TermContext → Who → ℤ
id_of seen whos.Top = top_id
id_of seen whos.This = seen.this
id_of seen whos.Made = seen.made
id_of seen (whos.Param n) = id_in (given_at seen.given n)
id_of seen (whos.Name name) = unwrap_or (seen.held name) no_id

-- the value that a term represents, with every box at one place
abbrev mutual
  pub value_of : TermContext → Term → Value
  value_of seen (term.Bool b) = value.Bool b
  value_of seen (term.Int n) = value.Int n
  value_of seen (term.Text text) = value.Text text
  value_of seen (term.Bytes bytes) = value.Bytes bytes
  value_of seen (term.Bits bits) = value.Bits bits
  value_of seen (term.Struct ts) = value.Struct (values_of seen ts)
  value_of seen (Union' index _ t) = boxed.Union' index one_box (value_of seen t)
  value_of seen (term.Array ts) = value.Array (values_of seen ts)
  value_of seen (Maybe' held) = boxed.Maybe' (held_of seen held)
  value_of seen (term.Actor id) = value.Actor id
  value_of seen (term.Param n) = given_at seen.given n
  value_of seen (term.Who w) = value.Actor (id_of seen w)

  pub held_of : TermContext → Held-Term-Maybe-0 → boxed.Held-Value-Maybe-0
  held_of seen None' = boxed.None'
  held_of seen (Some' _ t) = boxed.Some' one_box (value_of seen t)

  -- the values that terms represent
  pub values_of : TermContext → Terms → Values
  values_of seen terms.Nothing = values.Nothing
  values_of seen (First' _ t _ ts) = boxed_list.First' one_box (value_of seen t) one_box (values_of seen ts)
