-- What is known of the open block decides what a statement in it breaks.
use Rattle.std.proofs.Common.{◌≡◌, Bool, List, Option, Some, None, refl, sym, ap, ◌∙◌, subst}
use Rattle.std.specs.Prelude.{◌↔◌, IsTrue, IsSomeAnd, is_some}
use Rattle.std.specs.List.{list_any}
use Rattle.std.specs.Option.{option_map}
use Rattle.ipdl_base.specs.declared.finding.Rule.{Rule}
use Rattle.ipdl_base.specs.declared.schema.Schema.{Schema}
use Rattle.script_reader.specs.declared.statement.Statement.{Statement}
use Rattle.handler_script.specs.declared.lines.OpenBlock.{OpenBlock}
use Rattle.handler_script.specs.Blocks.{answers, BlockContext, standing_of}
use Rattle.handler_script.specs.Broken.{IsInside, BlockBreaks, InsideBreaks}
use Rattle.handler_script.specs.Contexts.{standing_in}
use Rattle.handler_script.specs.Knowing.{place_of, told_by, told_of, KnowsBlock}
use Rattle.handler_script.specs.Messages.{named}
use Rattle.handler_script.proofs.Standing.{at_place, in_block}

abbrev Told : Type 0
Told = Option BlockContext × Bool

mapped_back : {X Y : Type 0} (f : X → Y) (P : Y → Type 0) (o : Option X) → IsSomeAnd (option_map f o) P ↔ IsSomeAnd o (λ x. P (f x))
mapped_back f P None = ((λ h. h), (λ h. h))
mapped_back f P (Some x) = ((λ h. h), (λ h. h))

-- the rule is broken, by what is known of the block
abbrev ToldBreaks : Schema → Rule → Statement → List Statement → Told → Type 0
ToldBreaks schema r s after told = IsSomeAnd told.0 (λ b. BlockBreaks schema r (named schema s) told.1 b s after)

told_inside : (schema : Schema) (r : Rule) (before : List Statement) (s : Statement) (after : List Statement) (block : Option OpenBlock) → KnowsBlock schema before block → IsSomeAnd (option_map told_of block) (ToldBreaks schema r s after) ↔ InsideBreaks schema r before s after
told_inside schema r before s after block knows =
    let Holds : Statement → List Statement → Type 0 = λ first above. IsSomeAnd (standing_of schema first) (λ b. BlockBreaks schema r (named schema s) (list_any answers above) b s after) in
    let P : Option Told → Type 0 = λ o. IsSomeAnd o (ToldBreaks schema r s after) in (
      (λ h. in_block before Holds ((mapped_back (told_by schema) (ToldBreaks schema r s after) (place_of before)).0 (subst P knows h))),
      (λ h. subst P (sym knows) ((mapped_back (told_by schema) (ToldBreaks schema r s after) (place_of before)).1 (at_place before Holds h))),
    )

-- if a block is open, and if no block is

pub breaks_inside : (schema : Schema) (r : Rule) (before : List Statement) (s : Statement) (after : List Statement) (block : Option OpenBlock) (open_block : OpenBlock) → block ≡ Some open_block
    → KnowsBlock schema before block → IsSomeAnd (option_map standing_in open_block.context) (λ b. BlockBreaks schema r (named schema s) open_block.answered b s after) ↔ InsideBreaks schema r before s after
breaks_inside schema r before s after block open_block is knows =
    let P : Option OpenBlock → Type 0 = λ o. IsSomeAnd (option_map told_of o) (ToldBreaks schema r s after) in
    let told = told_inside schema r before s after block knows in
    ((λ h. told.0 (subst P (sym is) h)), (λ h. subst P is (told.1 h)))

pub none_inside : (schema : Schema) (r : Rule) (before : List Statement) (s : Statement) (after : List Statement) (block : Option OpenBlock) → block ≡ None → KnowsBlock schema before block → ¬ InsideBreaks schema r before s after
none_inside schema r before s after block is knows h =
    let P : Option OpenBlock → Type 0 = λ o. IsSomeAnd (option_map told_of o) (ToldBreaks schema r s after) in
    subst P is ((told_inside schema r before s after block knows).1 h)

some_told : {X Y : Type 0} (f : X → Y) (o : Option X) → is_some (option_map f o) ≡ is_some o
some_told f None = refl
some_told f (Some x) = refl

some_unit : {X : Type 0} (o : Option X) → IsTrue (is_some o) ↔ IsSomeAnd o (λ x. Unit {0})
some_unit None = ((λ h. let no : ⊥ = cc in absurd no), (λ h. absurd h))
some_unit (Some x) = ((λ h. tt), (λ h. refl))

-- it is in a block if one is open
pub open_inside : (schema : Schema) (before : List Statement) (block : Option OpenBlock) → KnowsBlock schema before block → IsTrue (is_some block) ↔ IsInside before
open_inside schema before block knows =
    let same : is_some block ≡ is_some (place_of before) = sym (some_told told_of block) ∙ (ap (λ (o : Option Told). is_some o) knows ∙ some_told (told_by schema) (place_of before)) in (
      (λ h. in_block before (λ first above. Unit {0}) ((some_unit (place_of before)).0 (sym same ∙ h))),
      (λ h. same ∙ (some_unit (place_of before)).1 (at_place before (λ first above. Unit {0}) h)),
    )
