-- Terms, actions and scripts up to where their boxes lie: the plain form is the same with every box at one place.
use Rattle.std.specs.Prelude.{map}
use Rattle.std.specs.Option.{option_map}
use Rattle.ipdl_base.specs.Plain.{one_box}
use Rattle.handler_script.specs.declared.action.Action.{Action}
use Rattle.handler_script.specs.declared.action.Action.TheVariants as action
use Rattle.handler_script.specs.declared.action.Block.{Block}
use Rattle.handler_script.specs.declared.script.Script.{Script}
use Rattle.handler_script.specs.declared.term.Term.{Term, Held-Term-Maybe-0, None', Some'}
use Rattle.handler_script.specs.declared.term.Term as boxed
use Rattle.handler_script.specs.declared.term.Term.TheVariants as term
use Rattle.handler_script.specs.declared.term.Terms.{Terms, First'}
use Rattle.handler_script.specs.declared.term.Terms.TheVariants as terms

-- a term, the content of a maybe, and terms, with every box at one place
abbrev mutual
  pub plain_term : Term → Term
  plain_term (term.Struct fields) = term.Struct (plain_terms fields)
  plain_term (boxed.Union' index _ held) = boxed.Union' index one_box (plain_term held)
  plain_term (term.Array elements) = term.Array (plain_terms elements)
  plain_term (boxed.Maybe' held) = boxed.Maybe' (plain_held held)
  plain_term (term.Bool b) = term.Bool b
  plain_term (term.Int n) = term.Int n
  plain_term (term.Text text) = term.Text text
  plain_term (term.Bytes bytes) = term.Bytes bytes
  plain_term (term.Bits bits) = term.Bits bits
  plain_term (term.Actor id) = term.Actor id
  plain_term (term.Param n) = term.Param n
  plain_term (term.Who w) = term.Who w

  pub plain_held : Held-Term-Maybe-0 → Held-Term-Maybe-0
  plain_held None' = None'
  plain_held (Some' _ held) = Some' one_box (plain_term held)

  pub plain_terms : Terms → Terms
  plain_terms terms.Nothing = terms.Nothing
  plain_terms (First' _ first _ rest) = First' one_box (plain_term first) one_box (plain_terms rest)

-- an action, a block and a script, with every box at one place
abbrev pub plain_action : Action → Action
plain_action (action.Send who number values) = action.Send who number (plain_terms values)
plain_action (action.New name who number values) = action.New name who number (plain_terms values)
plain_action (action.Resolve values) = action.Resolve (plain_terms values)
plain_action (action.ResolveNamed name number values) = action.ResolveNamed name number (plain_terms values)
plain_action a = a

abbrev pub plain_block : Block → Block
plain_block block = record block { actions = map plain_action block.actions; reply = option_map plain_terms block.reply }

abbrev pub plain_script : Script → Script
plain_script script = record script { blocks = map plain_block script.blocks }
