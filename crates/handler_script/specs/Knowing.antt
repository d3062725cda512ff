-- What is known after some lines.
use Rattle.std.specs.Prelude.{◌≡◌, Bool, List, [], ◌∷◌, ◌++◌, fold, Option, Some, None}
use Rattle.std.specs.List.{list_any}
use Rattle.std.specs.Option.{option_map}
use Rattle.ipdl_base.specs.declared.kinds.Side.TheVariants as side
use Rattle.ipdl_base.specs.declared.schema.Schema.{Schema}
use Rattle.script_reader.specs.declared.statement.Statement.{Statement}
use Rattle.script_reader.specs.declared.statement.Statement.TheVariants as forms
use Rattle.handler_script.specs.declared.lines.BlockProgress.{BlockProgress}
use Rattle.handler_script.specs.declared.lines.OpenBlock.{OpenBlock}
use Rattle.handler_script.specs.Blocks.{answers, BlockContext, standing_of}
use Rattle.handler_script.specs.Broken.{is_main}
use Rattle.handler_script.specs.Contexts.{standing_in}

-- the statement that opened the open block, and those in it so far, after one more statement
abbrev pub place_after : Option (Statement × List Statement) → Statement → Option (Statement × List Statement)
place_after place (forms.Main side) = Some (forms.Main side, [])
place_after place (forms.On side name) = Some (forms.On side name, [])
place_after place forms.End = None
place_after place s = option_map (λ p. (p.0, p.1 ++ s ∷ [])) place

abbrev pub place_of : List Statement → Option (Statement × List Statement)
place_of before = fold place_after None before

-- what is known of an open block: where its lines are tested, and whether one of them answered
abbrev pub told_by : Schema → Statement × List Statement → Option BlockContext × Bool
told_by schema p = (standing_of schema p.0, list_any answers p.1)

abbrev pub told_of : OpenBlock → Option BlockContext × Bool
told_of block = (option_map standing_in block.context, block.answered)

-- the block is the one that is open after these statements, if one is
abbrev pub KnowsBlock : Schema → List Statement → Option OpenBlock → Type 0
KnowsBlock schema before block = option_map told_of block ≡ option_map (told_by schema) (place_of before)

-- this is known after these statements
pub record Knows (schema : Schema) (before : List Statement) (reached : BlockProgress) : Type 0 where
  pub block : KnowsBlock schema before reached.block
  pub parent : reached.parent ≡ list_any (is_main side.Parent) before
  pub child : reached.child ≡ list_any (is_main side.Child) before
