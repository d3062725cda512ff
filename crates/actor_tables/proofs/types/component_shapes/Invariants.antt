use Rattle.std.proofs.Common.{take}
use Rattle.std.specs.List.{AllZip}
use Rattle.program_schema.specs.Shapes.{IsShapeOf}
use Rattle.actor_tables.specs.Numbered.{numbering_of}
use Rattle.actor_tables.proofs.types.component_shapes.Given as goal

abbrev pub invariant-loop-component : goal.invariant-loop-component
invariant-loop-component l = AllZip (IsShapeOf l.source.program.now (numbering_of l.source.numbers) l.file) (take l.component-index l.components) l.shapes.items
