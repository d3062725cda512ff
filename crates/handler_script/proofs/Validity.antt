-- The script of a text is valid for its schema.
use Rattle.std.proofs.Common.{◌≡◌, ℕ, ◌+◌, ◌<◌, ◌≤◌, List, length, map, inl, refl, sym, ap, subst, arith}
use Rattle.ipdl_base.specs.declared.files.TheConstants.{MOST_BYTES}
use Rattle.ipdl_base.specs.declared.finding.TheConstants.Rule as rule
use Rattle.ipdl_base.specs.declared.schema.Schema.{Schema}
use Rattle.ipdl_base.specs.Sound.{IsSound}
use Rattle.handler_script.specs.declared.script.Script.{Script}
use Rattle.handler_script.specs.Broken.{HasManager, whole_place}
use Rattle.handler_script.specs.Plain.{plain_block}
use Rattle.handler_script.specs.ScriptOf.{IsScriptOf, blocks_of}
use Rattle.handler_script.specs.Valid.{IsValid}
use Rattle.handler_script.proofs.ValidBlocks.{blocks_valid, few_blocks}
use Rattle.handler_script.proofs.Whole.{few_lines}

pub script_valid : (text : List ℕ) (schema : Schema) (top : ℕ) (script : Script) → length text ≤ MOST_BYTES → IsSound schema → top < length schema.protocols → IsScriptOf text schema top script → IsValid schema script
script_valid text schema top script small sound there is =
    let same_top : script.top ≡ top = ap (λ (s : Script). s.top) is.is in
    let same : map plain_block script.blocks ≡ blocks_of schema is.readings = ap (λ (s : Script). s.blocks) is.is in
    let lines : length is.readings ≤ length text + 1 = few_lines text is.readings is.is_reading in
    let blocks : length script.blocks ≤ length is.readings = few_blocks schema is.readings script.blocks same in
    let P : ℕ → Type 0 = λ n. ¬ HasManager schema n in
    record {
      top = omega arith;
      unmanaged = subst P (sym same_top) (λ h. is.kept (record { place = whole_place; rule = rule.NOT_A_TOP_PROTOCOL }) (inl (refl, refl, h)));
      few = omega arith;
      blocks = blocks_valid schema sound top text is.readings script.blocks is.is_reading is.kept same;
    }
