-- The names of messages, as a set.
use Rattle.std.proofs.Common.{◌≡◌, ℕ, ◌+◌, ◌<◌, Bool, true, false, cond, ◌||◌, List, length, take, get_or, refl, sym, ◌∙◌, ap}
use Rattle.std.specs.Bool.{Decides}
use Rattle.std.specs.Prelude.{nat_eq}
use Rattle.std.specs.Cmp.Lexicographic.{pointwise}
use Rattle.std.specs.List.{list_any, Any}
use Rattle.std.proofs.lemmas.List.Folds.{list_any_more, Any-from_list_any, list_any-from_Any}
use Rattle.std.proofs.lemmas.Slice.Eq.{bytes_eq-Decides}
use Rattle.ipdl_syntax.specs.declared.tree.MessageDecl.{MessageDecl}

cond_or : (b x : Bool) → cond b true x ≡ (x || b)
cond_or true true = refl
cond_or true false = refl
cond_or false true = refl
cond_or false false = refl

-- a name that was added is among the names from then on
pub named_more : (messages : List MessageDecl) (i : ℕ) (d : MessageDecl) (key name : List ℕ) (before after : Bool) → i < length messages → key ≡ (get_or messages i d).name → after ≡ cond (pointwise nat_eq key name) true before → before ≡ list_any (λ m. pointwise nat_eq m.name name) (take i messages)
    → after ≡ list_any (λ m. pointwise nat_eq m.name name) (take (i + 1) messages)
named_more messages i d key name before after lt is put old =
    put ∙ cond_or (pointwise nat_eq key name) before ∙ ap (λ b. b || pointwise nat_eq key name) old ∙ ap (λ k. list_any (λ (m : MessageDecl). pointwise nat_eq m.name name) (take i messages) || pointwise nat_eq k name) is
    ∙ sym (list_any_more (λ (m : MessageDecl). pointwise nat_eq m.name name) messages i d lt)

any_weaker : {X : Type 0} (P Q : X → Type 0) → ((x : X) → P x → Q x) → (xs : List X) → Any P xs → Any Q xs
any_weaker P Q to xs (k, x, lt, at, p) = (k, x, lt, at, to x p)

-- whether one of the messages has the name
pub named_decides : (messages : List MessageDecl) (name : List ℕ) → Decides (list_any (λ m. pointwise nat_eq m.name name) messages) (Any (λ m. m.name ≡ name) messages)
named_decides messages name = (
  λ h. any_weaker _ (λ (m : MessageDecl). m.name ≡ name) (λ m e. (bytes_eq-Decides m.name name).0 e) messages (Any-from_list_any (λ (m : MessageDecl). pointwise nat_eq m.name name) messages h),
  λ any. list_any-from_Any (λ (m : MessageDecl). pointwise nat_eq m.name name) messages (any_weaker (λ (m : MessageDecl). m.name ≡ name) _ (λ m e. (bytes_eq-Decides m.name name).1 e) messages any),
)
