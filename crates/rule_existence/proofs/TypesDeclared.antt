-- The rules on the names of declarations and fields, and on attributes: the places at which they are broken are listed.
use Rattle.report_existence.proofs.Lists.{bool_or_not, text_or_not}
use Rattle.std.proofs.Common.{◌≡◌, ◌⊎◌, ℕ, true, List, Any, Option, Some, codes, map, refl, inl, inr, Ordering, Less, Equal, Greater}
use Rattle.ipdl_base.specs.Builtins.{builtin_name}
use Rattle.ipdl_base.specs.Words.{short_name}
use Rattle.ipdl_syntax.specs.declared.program.Entry.{Entry}
use Rattle.ipdl_syntax.specs.declared.tree.Attribute.{Attribute}
use Rattle.ipdl_syntax.specs.declared.tree.Unit.{Unit as FileUnit}
use Rattle.findings.specs.Order.{place_cmp}
use Rattle.findings.specs.Repeats.{IsRepeatedAt}
use Rattle.name_table.specs.Finds.{endpoint_word}
use Rattle.type_rules.specs.Attributes.{HasRepeat, HasUnlisted, IsBadAttribute, IsListedCompress, IsListedLevel, IsUnlistedOf}
use Rattle.type_rules.specs.Declarations.{Declaration, IsRepeatedDeclaration, IsRepeatedField, IsTypeWord, Repeats, TakesTypeWord, declarations}
use Rattle.written_parts.specs.Attributes.{attribute_lists}
use Rattle.written_parts.specs.declared.attributes.Bearer.{Bearer}
use Rattle.written_parts.specs.declared.attributes.Bearer.TheVariants.{Protocol, Message}
use Rattle.report_existence.specs.Laws.{IsListed}
use Rattle.report_existence.proofs.Finite.{any_or_not, both_or_not, either_or_not, either_place, not_or, of_any}
use Rattle.name_existence.proofs.Decisions.{like_or_not, none_or_not, option_or_not}
use Rattle.name_existence.proofs.Texts.{managed_or_none, type_or_none}
use Rattle.rule_existence.proofs.Listed.{at_place, of_repeated}

-- Declarations

less_or_not : (o : Ordering) → (o ≡ Less) ⊎ (o ≡ Less → ⊥)
less_or_not Less = inl refl
less_or_not Equal = inr (λ e. cc)
less_or_not Greater = inr (λ e. cc)

repeats_or_not : (earlier later : Declaration) → Repeats earlier later ⊎ (Repeats earlier later → ⊥)
repeats_or_not earlier later =
    like_or_not (λ h. record { name = h.0; before = h.1.0; not_both = h.1.1 }) (λ h. (h.name, (h.before, h.not_both)))
    (both_or_not (text_or_not earlier.full later.full)
    (both_or_not (less_or_not (place_cmp earlier.place later.place)) (not_or (both_or_not (bool_or_not earlier.is_using true) (bool_or_not later.is_using true)))))

type_word_or_not : (word : List ℕ) → IsTypeWord word ⊎ (IsTypeWord word → ⊥)
type_word_or_not word =
    either_or_not (type_or_none (λ type. builtin_name type ≡ word) (λ type. text_or_not (builtin_name type) word))
    (managed_or_none (λ managed. endpoint_word managed ≡ word) (λ managed. text_or_not (endpoint_word managed) word))

takes_or_not : (d : Declaration) → TakesTypeWord d ⊎ (TakesTypeWord d → ⊥)
takes_or_not d =
    like_or_not (λ h. record { own = h.0; word = h.1 }) (λ h. (h.own, h.word)) (both_or_not (not_or (bool_or_not d.is_using true)) (type_word_or_not (short_name d.full)))

abbrev IsRepeatedIn : FileUnit → Declaration → Type 0
IsRepeatedIn unit d = Any (λ earlier. Repeats earlier d) (declarations unit) ⊎ TakesTypeWord d

pub declarations_listed : (program : List Entry) → IsListed (IsRepeatedDeclaration program)
declarations_listed program =
    of_any program (λ e place. Any (λ d. IsRepeatedIn e.unit d × (d.place ≡ place)) (declarations e.unit))
    (λ e.
    of_any (declarations e.unit) (λ d place. IsRepeatedIn e.unit d × (d.place ≡ place))
    (λ d.
    at_place (IsRepeatedIn e.unit d) (either_or_not (any_or_not (λ earlier. Repeats earlier d) (λ earlier. repeats_or_not earlier d) (declarations e.unit)) (takes_or_not d)) d.place))

-- Fields

pub fields_listed : (program : List Entry) → IsListed (IsRepeatedField program)
fields_listed program =
    of_any program (λ e place. Any (λ s. IsRepeatedAt (map (λ f. (f.name, f.place)) s.fields) place) e.unit.structs)
    (λ e. of_any e.unit.structs (λ s place. IsRepeatedAt (map (λ f. (f.name, f.place)) s.fields) place) (λ s. of_repeated (map (λ f. (f.name, f.place)) s.fields)))

-- Attributes

value_or_not : (value other : Option (List ℕ)) → (value ≡ other) ⊎ (value ≡ other → ⊥)
value_or_not value other = option_or_not text_or_not value other

level_or_not : (value : Option (List ℕ)) → IsListedLevel value ⊎ (IsListedLevel value → ⊥)
level_or_not value =
    either_or_not (value_or_not value (Some (codes "not"))) (either_or_not (value_or_not value (Some (codes "inside_sync"))) (value_or_not value (Some (codes "inside_cpow"))))

compress_or_not : (value : Option (List ℕ)) → IsListedCompress value ⊎ (IsListedCompress value → ⊥)
compress_or_not value = either_or_not (none_or_not value) (value_or_not value (Some (codes "all")))

unlisted_or_not : (bearer : Bearer) (a : Attribute) → IsUnlistedOf bearer a ⊎ (IsUnlistedOf bearer a → ⊥)
unlisted_or_not Message a =
    either_or_not (both_or_not (text_or_not a.name (codes "Nested")) (not_or (level_or_not a.value))) (both_or_not (text_or_not a.name (codes "Compress")) (not_or (compress_or_not a.value)))
unlisted_or_not Protocol a = both_or_not (text_or_not a.name (codes "NestedUpTo")) (not_or (level_or_not a.value))
unlisted_or_not _ a = inr (λ h. h)

pub attributes_listed : (program : List Entry) → IsListed (IsBadAttribute program)
attributes_listed program =
    of_any (attribute_lists program) (λ l place. HasRepeat place l.attributes ⊎ HasUnlisted place l.bearer l.attributes)
    (λ l.
    either_place (λ place. HasRepeat place l.attributes) (λ place. HasUnlisted place l.bearer l.attributes) (of_repeated (map (λ a. (a.name, a.place)) l.attributes))
    (of_any l.attributes (λ a place. IsUnlistedOf l.bearer a × (a.place ≡ place)) (λ a. at_place (IsUnlistedOf l.bearer a) (unlisted_or_not l.bearer a) a.place)))
