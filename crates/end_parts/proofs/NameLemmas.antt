-- Names and what they hold, as the definitions have them.
use Rattle.std.proofs.Common.{◌≡◌, ℕ, Bool, true, false, not, cond, List, [], ◌∷◌, map, Option, Some, refl, ap}
use Rattle.std.specs.Option.{option_map}
use Rattle.std.specs.List.{find, filter}
use Rattle.std.specs.Str.{bytes_eq}
use Rattle.channel_model.specs.Ends.{Naming}
use Rattle.channel_model.specs.Names.{held_by_name, without_name, without_resolvers, is_actor}
use Rattle.end_parts.specs.declared.name_entries.NameContent.{NameContent}
use Rattle.end_parts.specs.declared.name_entries.NameContent.TheVariants.{Actor, Resolver}
use Rattle.end_parts.specs.declared.name_entries.NameEntry.{NameEntry}
use Rattle.end_parts.specs.NameContents.{content_of, naming_of, named_by, named_of}

-- the first of the name, or what is found after it
held_at : (b : Bool) (n : NameEntry) (f : Option Naming) (g : Option NameEntry) → option_map (λ (x : Naming). x.holds) f ≡ option_map (λ (x : NameEntry). content_of x.content) g
    → option_map (λ (x : Naming). x.holds) (cond b (Some (naming_of n)) f) ≡ option_map (λ (x : NameEntry). content_of x.content) (cond b (Some n) g)
held_at true n f g h = refl
held_at false n f g h = h

-- what a name holds is the content of its entry
pub content-names : (name : List ℕ) (ns : List NameEntry) → held_by_name name (map naming_of ns) ≡ option_map (λ (n : NameEntry). content_of n.content) (find (λ n. bytes_eq n.name name) ns)
content-names name [] = refl
content-names name (n ∷ ns) = held_at (bytes_eq n.name name) n (find (λ x. bytes_eq x.name name) (map naming_of ns)) (find (λ x. bytes_eq x.name name) ns) (content-names name ns)

-- an entry that stays, and those after it
staying_at : (b : Bool) (n : NameEntry) (xs : List Naming) (ys : List NameEntry) → xs ≡ map naming_of ys → cond b (naming_of n ∷ xs) xs ≡ map naming_of (cond b (n ∷ ys) ys)
staying_at true n xs ys h = ap (λ (zs : List Naming). naming_of n ∷ zs) h
staying_at false n xs ys h = h

-- the names without those of resolvers
pub actors-names : (ns : List NameEntry) → without_resolvers (map naming_of ns) ≡ map naming_of (filter (λ n. is_actor (naming_of n)) ns)
actors-names [] = refl
actors-names (n ∷ ns) = staying_at (is_actor (naming_of n)) n (without_resolvers (map naming_of ns)) (filter (λ m. is_actor (naming_of m)) ns) (actors-names ns)

-- what is known of an entry
pub named_by-content : (h : NameContent) → named_by (Some (content_of h)) ≡ named_of h
named_by-content (Actor id) = refl
named_by-content (Resolver r) = refl

-- the names without one
pub others-names : (name : List ℕ) (ns : List NameEntry) → without_name name (map naming_of ns) ≡ map naming_of (filter (λ n. not (bytes_eq n.name name)) ns)
others-names name [] = refl
others-names name (n ∷ ns) = staying_at (not (bytes_eq n.name name)) n (without_name name (map naming_of ns)) (filter (λ m. not (bytes_eq m.name name)) ns) (others-names name ns)
