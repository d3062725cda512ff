-- The blocks of a text under a schema whose boxes are elsewhere.
use Rattle.std.proofs.Common.{◌≡◌, ◌∙◌, List, [], ◌∷◌, ◌++◌, Some, refl, unwrap_or}
use Rattle.std.specs.List.{filter_map}
use Rattle.std.specs.Option.{option_map_or}
use Rattle.ipdl_base.specs.declared.schema.Schema.{Schema}
use Rattle.program_schema.specs.Laws.{plain_param_row, plain_schema}
use Rattle.schema_laws.proofs.Rows.{option_alike, listed_alike}
use Rattle.script_reader.specs.declared.line.LineReading.{LineReading}
use Rattle.script_reader.specs.declared.line.LineReading.TheVariants as line
use Rattle.script_reader.specs.declared.statement.Statement.{Statement}
use Rattle.script_reader.specs.declared.statement.Statement.TheVariants as forms
use Rattle.script_reader.specs.declared.written.WrittenValues.{WrittenValues}
use Rattle.handler_script.specs.declared.action.Action.TheVariants as action
use Rattle.handler_script.specs.Blocks.{BlockContext, standing_of}
use Rattle.handler_script.specs.Broken.{types_of}
use Rattle.handler_script.specs.ScriptOf.{inside, typed, action_of, reply_of, first_of, block_of, blocks_at, blocks_of}
use Rattle.handler_script.specs.Terms.{terms_of}
use Rattle.schema_laws.proofs.FitsAlike.{terms_alike}
use Rattle.schema_laws.proofs.NamedAlike.{plain_context, side_alike, handles_alike, number_alike, standing_alike, types_alike}

module _ (s : Schema) where
  typed_alike : (b : BlockContext) (st : Statement) (vs : WrittenValues) → typed (plain_schema s) (plain_context b) st vs ≡ typed s b st vs
  typed_alike b st vs =
      (λ i. terms_of (plain_schema s) (unwrap_or (types_alike s b st i) []) vs)
      ∙ (λ i. terms_of (plain_schema s) (listed_alike plain_param_row (types_of s b st) i) vs)
      ∙ terms_alike s (unwrap_or (types_of s b st) []) vs

  action_alike : (b : BlockContext) (st : Statement) → action_of (plain_schema s) (plain_context b) st ≡ action_of s b st
  action_alike b (forms.Send w c) = λ i. Some (action.Send w (number_alike s c.message i) (typed_alike b (forms.Send w c) c.values i))
  action_alike b (forms.New n w c) = λ i. Some (action.New n w (number_alike s c.message i) (typed_alike b (forms.New n w c) c.values i))
  action_alike b (forms.Resolve vs) = λ i. Some (action.Resolve (typed_alike b (forms.Resolve vs) vs i))
  action_alike b (forms.ResolveKept n c) = λ i. Some (action.ResolveNamed n (number_alike s c.message i) (typed_alike b (forms.ResolveKept n c) c.values i))
  action_alike b (forms.RejectKept n name) = λ i. Some (action.RejectNamed n (number_alike s name i))
  action_alike b st = refl

  reply_alike : (b : BlockContext) (st : Statement) → reply_of (plain_schema s) (plain_context b) st ≡ reply_of s b st
  reply_alike b (forms.Return vs) = λ i. Some (typed_alike b (forms.Return vs) vs i)
  reply_alike b st = refl

  block_alike : (b : BlockContext) (statements : List Statement) → block_of (plain_schema s) (plain_context b) statements ≡ block_of s b statements
  block_alike b statements = λ i. record {
    side = side_alike b i;
    handles = handles_alike b i;
    actions = filter_map (λ st. action_alike b st i) statements;
    reply = first_of (filter_map (λ st. reply_alike b st i) statements);
  }

  opened_alike : (st : Statement) (rest : List LineReading) → blocks_at (plain_schema s) st rest ≡ blocks_at s st rest
  opened_alike st rest =
      (λ i. option_map_or (λ b. block_of (plain_schema s) b (inside rest) ∷ []) (standing_alike s st i) [])
      ∙ option_alike plain_context (λ b. block_of (plain_schema s) b (inside rest) ∷ []) (λ b. block_of s b (inside rest) ∷ []) (λ b. λ i. block_alike b (inside rest) i ∷ []) [] (standing_of s st)

  pub blocks_alike : (lines : List LineReading) → blocks_of (plain_schema s) lines ≡ blocks_of s lines
  blocks_alike [] = refl
  blocks_alike (line.Statement held ∷ rest) = λ i. opened_alike held.value rest i ++ blocks_alike rest i
  blocks_alike (x ∷ rest) = blocks_alike rest
