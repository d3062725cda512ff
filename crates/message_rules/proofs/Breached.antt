-- A list of all breaches.
use Rattle.std.proofs.Common.{List, [], ◌∷◌, refl, lit<}
use Rattle.std.specs.List.{Any}
use Rattle.message_rules.specs.declared.message.MessageBreach.{MessageBreach}
use Rattle.message_rules.specs.declared.message.MessageBreach.TheVariants.{TooMany, PlainSyncToChild, AsyncInsideSync, InsideCpowToChild, Stronger, BadCompress, BadMaker, BadLazy}

-- the breaches, in the order of the code
abbrev pub breaches : List MessageBreach
breaches = TooMany ∷ PlainSyncToChild ∷ AsyncInsideSync ∷ InsideCpowToChild ∷ Stronger ∷ BadCompress ∷ BadMaker ∷ BadLazy ∷ []

-- a property of a breach holds of one of the list
pub any_breach : (P : MessageBreach → Type 0) (b : MessageBreach) → P b → Any P breaches
any_breach P TooMany p = (0, TooMany, lit< tt, refl, p)
any_breach P PlainSyncToChild p = (1, PlainSyncToChild, lit< tt, refl, p)
any_breach P AsyncInsideSync p = (2, AsyncInsideSync, lit< tt, refl, p)
any_breach P InsideCpowToChild p = (3, InsideCpowToChild, lit< tt, refl, p)
any_breach P Stronger p = (4, Stronger, lit< tt, refl, p)
any_breach P BadCompress p = (5, BadCompress, lit< tt, refl, p)
any_breach P BadMaker p = (6, BadMaker, lit< tt, refl, p)
any_breach P BadLazy p = (7, BadLazy, lit< tt, refl, p)
