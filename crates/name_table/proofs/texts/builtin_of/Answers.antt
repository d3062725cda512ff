use Rattle.std.proofs.Common.{◌≡◌, ◌∙◌, sym, inl, inr, true≢false, false, List, ℕ, Option, Some, None}
use Rattle.std.specs.Prelude.{IfNone}
use Rattle.std.specs.Str.{bytes_eq}
use Rattle.std.proofs.lemmas.Slice.Eq.{bytes_eq-Decides}
use Rattle.name_table.proofs.BuiltinNames.{full_name_cases}
use Rattle.name_table.proofs.texts.builtin_of.Goals as goal

weaker_none : {X : Type 0} (o : Option X) (P Q : Type 0) → (P → Q) → IfNone o P → IfNone o Q
weaker_none None P Q f h = f h
weaker_none (Some x) P Q f h = tt

other_text : (text bytes word : List ℕ) → false ≡ bytes_eq text bytes → bytes ≡ word → ¬ (word ≡ text)
other_text text bytes word differ same e = true≢false (sym ((bytes_eq-Decides text bytes).1 (sym (same ∙ e))) ∙ sym differ)

pub returns-else-eq-3-clause-none : goal.returns-else-eq-3-clause-none
returns-else-eq-3-clause-none c =
    weaker_none c.from_name.result _ _
    (λ none other named. elim named [
      | inr word ↦ none other word
      | inl full ↦ elim (full_name_cases other) [
        | inl word ↦ none other (sym word ∙ full)
        | inr (inl a) ↦ other_text c.args.text.now _ _ c.if-eq.ensures c.as_slice.ensures (sym a ∙ full)
        | inr (inr (inl b)) ↦ other_text c.args.text.now _ _ c.if-eq-2.ensures c.as_slice-else-eq.ensures (sym b ∙ full)
        | inr (inr (inr d)) ↦ other_text c.args.text.now _ _ c.if-eq-3.ensures c.as_slice-else-eq-2.ensures (sym d ∙ full)
      ]
    ])
    c.from_name.ensures.none
